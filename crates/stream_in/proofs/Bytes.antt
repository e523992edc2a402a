-- The bytes of the word that has begun.
use Rattle.std.proofs.Common.{◌≡◌, ℕ, ◌+◌, ◌-◌, ◌%◌, ◌≤◌, List, [], ◌∷◌, ◌++◌, length, drop, get_or, refl, sym, ap, ◌∙◌, inl, inr, arith, length-append, length-drop}
use Rattle.std.proofs.Math.ListN.{set, length-set}
use Rattle.std.proofs.lemmas.List.{length-take-le, get_or-take, get_or-drop, get_or_append_left, get_or-append_right, get_or-set_same, get_or-set_other}
use Rattle.std.proofs.lemmas.Bool.{cases_lt}
use Rattle.std.proofs.lemmas.Grind.{same_number_lists}
use Rattle.byteorder.specs.Endian.{little_number}
use Rattle.definitions.specs.Bytes.{number_at, bytes_at}
use Rattle.definitions.proofs.PageBytes.{number_at-bytes_at}
use Rattle.stream_in.specs.declared.checking.taking.Taking.{Taking}
use Rattle.stream_in.specs.Taken.{HasBegun}

-- the word with one byte more
pub begun_byte : (bs : List ℕ) (b : ℕ) (t : Taking) → length t.word ≡ 8 → t.taken ≡ length bs → HasBegun bs t → (i : ℕ) → i ≤ t.taken % 8 →
    get_or (set t.word (t.taken % 8) b) i 0 ≡ get_or (bs ++ b ∷ []) (t.taken - t.taken % 8 + i) 0
begun_byte bs b t size taken begun i le = elim (cases_lt i (t.taken % 8)) [
  | inl lt ↦
      get_or-set_other t.word (t.taken % 8) i b 0 (λ e. omega arith) ∙ begun i lt
      ∙ sym (get_or_append_left bs (b ∷ []) 0 (t.taken - t.taken % 8 + i) (omega arith))
  | inr ge ↦
      let e : i ≡ t.taken % 8 = omega arith in
      let at : t.taken - t.taken % 8 + i ≡ length bs = omega arith in
      let zero : length bs - length bs ≡ 0 = omega arith in
      ap (λ j. get_or (set t.word (t.taken % 8) b) j 0) e ∙ get_or-set_same t.word (t.taken % 8) b 0 (omega arith)
      ∙ sym (ap (λ j. get_or (bs ++ b ∷ []) j 0) at ∙ get_or-append_right bs (b ∷ []) (length bs) (length bs) 0 refl (omega arith)
      ∙ ap (λ j. get_or (b ∷ []) j 0) zero)
]

-- and its number, where that is the last byte
pub read_value : (bs : List ℕ) (b : ℕ) (t : Taking) → length t.word ≡ 8 → t.taken ≡ length bs → HasBegun bs t → t.taken % 8 ≡ 7 →
    little_number 8 (set t.word (t.taken % 8) b) ≡ number_at 8 (bs ++ b ∷ []) (t.taken + 1 - 8)
read_value bs b t size taken begun last =
    let word = set t.word (t.taken % 8) b in
    let whole = length-set t.word (t.taken % 8) b in
    let bs' = bs ++ b ∷ [] in
    let k : t.taken - t.taken % 8 ≡ t.taken + 1 - 8 = omega arith in
    let room : 8 ≤ length (drop (t.taken + 1 - 8) bs') = omega (arith, length-drop (t.taken + 1 - 8) bs', length-append bs (b ∷ [])) in
    let same : word ≡ bytes_at 8 bs' (t.taken + 1 - 8) =
    same_number_lists word (bytes_at 8 bs' (t.taken + 1 - 8)) (whole ∙ size ∙ sym (length-take-le 8 (drop (t.taken + 1 - 8) bs') room))
    (λ i q. begun_byte bs b t size taken begun i (omega arith) ∙ ap (λ m. get_or bs' (m + i) 0) k
    ∙ sym (get_or-take 8 (drop (t.taken + 1 - 8) bs') i 0 (omega arith) ∙ get_or-drop (t.taken + 1 - 8) bs' i 0)) in
    ap (little_number 8) same ∙ sym (number_at-bytes_at 8 bs' (t.taken + 1 - 8))
