use Rattle.std.proofs.Common.{◌≡◌, ◌≢◌, ℕ, ◌+◌, ◌-◌, ◌%◌, ◌<◌, ◌++◌, ◌∷◌, [], List, None, length, get_or, refl, sym, ap, ◌∙◌, inl, inr, arith, rules, slice_set}
use Rattle.std.proofs.lemmas.Bool.{cases_lt}
use Rattle.stream_in.specs.Grammar.{first_fault}
use Rattle.stream_in.specs.Taken.{HasRead, HasTaken, Completes}
use Rattle.stream_in.specs.declared.checking.taking.Taking.{Taking}
use Rattle.stream_in.proofs.Steps.{first_fault-early, first_fault-within, length-byte}
use Rattle.stream_in.proofs.Told.{passed, both}
use Rattle.stream_in.proofs.Keeping.{moved, late_end, read_early, read_within, kept_count, kept_pages}
use Rattle.stream_in.proofs.Bytes.{begun_byte, read_value}
use Rattle.stream_in.proofs.checking.taking.Taking.with_byte.Goals as goal

-- A byte that ends no word.
no_fault : (bs : List ℕ) (b : ℕ) (t : Taking) → HasTaken bs t → t.taken < t.numbers_end → (length bs + 1) % 8 ≢ 0 → first_fault (bs ++ b ∷ []) ≡ None
no_fault bs b t has tested part = elim (cases_lt (length bs) 4096) [
  | inl lt ↦ first_fault-early (bs ++ b ∷ []) (omega (arith, length-byte bs b))
  | inr ge ↦ first_fault-within bs b ge has.read.sound (omega (arith, has.taken, late_end bs t has.read ge)) part
]

read_part : (bs : List ℕ) (b : ℕ) (t : Taking) → HasTaken bs t → t.taken < t.numbers_end → (length bs + 1) % 8 ≢ 0 → HasRead (bs ++ b ∷ []) t
read_part bs b t has tested part = elim (cases_lt (length bs) 4096) [
  | inl lt ↦ read_early bs b t t.image_pages t.pages (omega arith) has.read
      (kept_count bs b t has.read (λ e. part (ap (λ n. n % 8) e))) (kept_pages bs b t has.read (λ e. part (ap (λ n. n % 8) e)))
  | inr ge ↦ read_within bs b t ge has.read (no_fault bs b t has tested part) part
]

pub returns-then-k-lt7-clause-fault : goal.returns-then-k-lt7-clause-fault
returns-then-k-lt7-clause-fault c = λ bs has.
    passed _ (first_fault (bs ++ c.args.b ∷ [])) _ refl (no_fault bs c.args.b c.args.self has c.requires.tested (λ e. omega (arith, has.taken)))

pub returns-then-k-lt7-clause-taken : goal.returns-then-k-lt7-clause-taken
returns-then-k-lt7-clause-taken c = λ bs has.
    let t = c.args.self in
    let b = c.args.b in
    let size : length t.word ≡ 8 = search rules in
    let k : (t.taken + 1) % 8 ≡ t.taken % 8 + 1 = omega arith in
    let at : t.taken + 1 - (t.taken + 1) % 8 ≡ t.taken - t.taken % 8 = omega arith in
    record {
      taken = ap (λ n. n + 1) has.taken ∙ sym (length-byte bs b);
      read = moved (bs ++ b ∷ []) t _ _ (read_part bs b t has c.requires.tested (λ e. omega (arith, has.taken)));
      begun = λ still i lt. begun_byte bs b t size has.taken (has.begun c.requires.tested) i (omega arith)
          ∙ ap (λ n. get_or (bs ++ b ∷ []) (n + i) 0) (sym at);
    }

-- A byte that ends a word.
done : (c : goal.After-with_word) (bs : List ℕ) → HasTaken bs c.args.self →
    Completes bs c.args.b c.read_u64.result (record c.args.self { taken = c.args.self.taken + 1; word = slice_set c.args.self.word (c.args.self.taken % 8) c.args.b })
done c bs has =
    let t = c.args.self in
    let size : length t.word ≡ 8 = search rules in
    let last : t.taken % 8 ≡ 7 = omega arith in
    record {
      read = moved bs t _ _ has.read;
      taken = ap (λ n. n + 1) has.taken;
      within = omega (arith, has.taken, c.requires.tested);
      whole = omega arith;
      value = c.read_u64.ensures ∙ read_value bs c.args.b t size has.taken (has.begun c.requires.tested) last;
    }

pub returns-clause-fault : goal.returns-clause-fault
returns-clause-fault c = λ bs has. c.with_word.ensures.fault bs c.args.b (done c bs has)

pub returns-clause-taken : goal.returns-clause-taken
returns-clause-taken c = λ bs has.
    let b = c.args.b in
    let last : c.args.self.taken % 8 ≡ 7 = omega arith in
    let read = c.with_word.ensures.read bs b (done c bs has) in
    both c.with_word.result (HasRead (bs ++ b ∷ [])) (λ next. next.taken ≡ c.args.self.taken + 1) (HasTaken (bs ++ b ∷ []))
    (λ next r t. record {
      taken = t ∙ ap (λ n. n + 1) has.taken ∙ sym (length-byte bs b);
      read = r;
      begun = λ still i lt. absurd (omega (arith, t));
    }) read c.with_word.ensures.taken
