use Rattle.std.proofs.Common.{◌≡◌, ◌+◌, ◌*◌, ◌/◌, ◌%◌, slice_index, ◌∷◌, [], ◌++◌, ℕ, List, arith, sym, ap, ap₂, ◌∙◌, subst}
use Rattle.definitions.specs.Bytes.{with_word}
use Rattle.definitions.specs.Moves.{Entry}
use Rattle.definitions.specs.Tables.{frame, with_frame}
use Rattle.placement.specs.Listed.{Listed, LiesIn, IsEntry}
use Rattle.placement.proofs.ListPages.{one_more, with_entry_at, set_word_in}
use Rattle.placement.proofs.list.RestoreList.push.Goals as goal

pub overflow_add-self : goal.overflow_add-self
overflow_add-self c =
    let few = c.self.invariant.few in
    let room = c.self.invariant.room in
    record { fits = omega arith }

pub returns-clause-pushed : goal.returns-clause-pushed
unfolding with_entry_at set_word_in
returns-clause-pushed c = λ entries h.
    let memory = c.args.frames.now in
    let listed = c.args.self.now in
    let p = c.place-p.result.0 in
    let at = c.place-p.result.1 in
    let e : Entry = (c.args.from, c.args.to, c.args.count) in
    let set : ℕ → List (List ℕ) → ℕ → List (List ℕ) = λ i m v. with_frame m p (with_word (frame m p) i v) in
    let memory_is : c.set_word-3.new.self ≡ with_entry_at memory p at e =
    c.set_word-3.ensures
    ∙ ap₂ (set (at + 2)) (c.set_word-2.ensures ∙ ap₂ (set (at + 1)) (c.set_word.ensures ∙ ap (set at memory) c.from.ensures) c.from-2.ensures) c.from-3.ensures in
    let fits : IsEntry e = record { from = c.ranges.from.fits; to = c.ranges.to.fits; count = c.ranges.count.fits } in
    let p_is : p ≡ slice_index listed.frames (listed.len / 170) =
    c.place-p.ensures.frame ∙ ap (λ (l : Listed). slice_index l.frames (l.len / 170)) c.self.view_is in
    let at_is : at ≡ 1 + 3 * (listed.len % 170) =
    c.place-p.ensures.word ∙ ap (λ (l : Listed). 1 + 3 * (l.len % 170)) c.self.view_is in
    let more = one_more memory listed entries e p at c.requires.room p_is at_is fits h in
    let with_len : Listed → Listed = λ l. record { frames = l.frames; len = l.len + 1 } in
    subst (λ (l : Listed). LiesIn c.set_word-3.new.self (with_len l) (entries ++ e ∷ [])) (sym c.self.view_is)
    (subst (λ (m : List (List ℕ)). LiesIn m (with_len listed) (entries ++ e ∷ [])) (sym memory_is) more)
