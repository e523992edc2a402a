use Rattle.std.proofs.Common.{◌≡◌, ℕ, ◌+◌, ◌-◌, ◌<◌, ◌≤◌, ◌++◌, ◌∷◌, [], List, None, length, refl, sym, ap, ◌∙◌, subst, arith}
use Rattle.definitions.specs.Bytes.{number_at}
use Rattle.stream_in.specs.Grammar.{first_fault}
use Rattle.stream_in.specs.Taken.{HasRead}
use Rattle.stream_in.proofs.Steps.{first_fault-early, length-byte}
use Rattle.stream_in.proofs.Told.{passed, told_as, ok_from}
use Rattle.stream_in.proofs.Keeping.{read_early, read_info, counts_info, kept_count, kept_pages, word_told, read_done}
use Rattle.stream_in.proofs.checking.taking.Taking.with_word.Goals as goal

pub returns-then-at-ge-PAGE-clause-fault : goal.returns-then-at-ge-PAGE-clause-fault
returns-then-at-ge-PAGE-clause-fault c = λ bs b done.
    told_as c.with_number.result (first_fault (bs ++ b ∷ [])) _ (word_told bs b c.args.v c.args.self (omega (arith, done.taken, done.whole)) done) c.with_number.ensures.fault

pub returns-then-at-ge-PAGE-clause-read : goal.returns-then-at-ge-PAGE-clause-read
returns-then-at-ge-PAGE-clause-read c = λ bs b done.
    let h : 4096 ≤ length bs = omega (arith, done.taken, done.whole) in
    ok_from c.with_number.result _ _ (HasRead (bs ++ b ∷ [])) c.with_number.ensures.fault c.with_number.ensures.next
    (λ next none is. subst (HasRead (bs ++ b ∷ [])) (sym is) (read_done bs b c.args.v c.args.self h done (word_told bs b c.args.v c.args.self h done ∙ none)))

pub returns-then-at-eq-LAST_OF_INFO-clause-fault : goal.returns-then-at-eq-LAST_OF_INFO-clause-fault
returns-then-at-eq-LAST_OF_INFO-clause-fault c = λ bs b done.
    told_as c.with_counts.result (first_fault (bs ++ b ∷ [])) _ (counts_info bs b c.args.self (omega (arith, done.taken)) done.read) c.with_counts.ensures.fault

pub returns-then-at-eq-LAST_OF_INFO-clause-read : goal.returns-then-at-eq-LAST_OF_INFO-clause-read
returns-then-at-eq-LAST_OF_INFO-clause-read c = λ bs b done.
    ok_from c.with_counts.result _ _ (HasRead (bs ++ b ∷ [])) c.with_counts.ensures.fault c.with_counts.ensures.next
    (λ next none is. subst (HasRead (bs ++ b ∷ [])) (sym is) (read_info bs b c.args.self (omega (arith, done.taken)) done.read none))

-- the byte isn't the last one of the info page
early : (bs : List ℕ) (b : ℕ) → length bs + 1 < 4096 → first_fault (bs ++ b ∷ []) ≡ None
early bs b h = first_fault-early (bs ++ b ∷ []) (omega (arith, length-byte bs b))

pub returns-then-at-eq-IMAGE_PAGES-clause-fault : goal.returns-then-at-eq-IMAGE_PAGES-clause-fault
returns-then-at-eq-IMAGE_PAGES-clause-fault c = λ bs b done. passed _ (first_fault (bs ++ b ∷ [])) _ refl (early bs b (omega (arith, done.taken)))

pub returns-then-at-eq-IMAGE_PAGES-clause-read : goal.returns-then-at-eq-IMAGE_PAGES-clause-read
returns-then-at-eq-IMAGE_PAGES-clause-read c = λ bs b done.
    let at : c.args.self.taken - 8 ≡ 416 = omega arith in
    read_early bs b c.args.self c.args.v c.args.self.pages (omega (arith, done.taken)) done.read
    (λ le. done.value ∙ ap (number_at 8 (bs ++ b ∷ [])) at) (λ le. absurd (omega (arith, done.taken)))

pub returns-then-at-eq-PAGES-clause-fault : goal.returns-then-at-eq-PAGES-clause-fault
returns-then-at-eq-PAGES-clause-fault c = λ bs b done. passed _ (first_fault (bs ++ b ∷ [])) _ refl (early bs b (omega (arith, done.taken)))

pub returns-then-at-eq-PAGES-clause-read : goal.returns-then-at-eq-PAGES-clause-read
returns-then-at-eq-PAGES-clause-read c = λ bs b done.
    let at : c.args.self.taken - 8 ≡ 424 = omega arith in
    read_early bs b c.args.self c.args.self.image_pages c.args.v (omega (arith, done.taken)) done.read
    (kept_count bs b c.args.self done.read (omega (arith, done.taken))) (λ le. done.value ∙ ap (number_at 8 (bs ++ b ∷ [])) at)

-- the byte isn't the last one of the info page, nor of one of its counts
pub returns-clause-fault : goal.returns-clause-fault
returns-clause-fault c = λ bs b done. passed _ (first_fault (bs ++ b ∷ [])) _ refl (early bs b (omega (arith, done.taken, done.whole)))

pub returns-clause-read : goal.returns-clause-read
returns-clause-read c = λ bs b done.
    read_early bs b c.args.self c.args.self.image_pages c.args.self.pages (omega (arith, done.taken, done.whole)) done.read
    (kept_count bs b c.args.self done.read (omega (arith, done.taken))) (kept_pages bs b c.args.self done.read (omega (arith, done.taken)))
