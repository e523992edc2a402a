use Rattle.std.proofs.Common.{◌≡◌, ◌+◌, ◌*◌, ℕ, List, ◌++◌, ◌∷◌, [], Option, arith, subst, sym, ap, ◌∙◌}
use Rattle.std.proofs.lemmas.List.FromFn.{map-range_with_len_more}
use Rattle.std.proofs.lemmas.Result.{err_from_is_err_and}
use Rattle.definitions.specs.Bytes.{bytes_at}
use Rattle.core_machine.specs.Heads.{entry_at, entry_of, entries}
use Rattle.core_machine.specs.Reading.{IsReadTo}
use Rattle.core_machine.specs.declared.segments.table.ProgramHeader.{ProgramHeader}
use Rattle.core_machine.proofs.Faults.{stops-later}
use Rattle.core_machine.proofs.segments.table.read_table.Goals as goal

-- the place of entry i
at_entry : (bytes : List ℕ) (place i n : ℕ) (left : Option (List ℕ)) → n ≡ i → IsReadTo bytes (place + 56 * i) left → IsReadTo bytes (place + 56 * n) left
at_entry bytes place i n left e h = subst (λ (k : ℕ). IsReadTo bytes (place + 56 * k) left) (sym e) h

pub returns-in_err-entry-clause-stopped : goal.returns-in_err-entry-clause-stopped
returns-in_err-entry-clause-stopped g c =
    let p = err_from_is_err_and c.from_residual.result c.from_residual.ensures.1 in
    let place = c.args.place in
    rw (p.1, p.2) (λ bytes h.
    stops-later bytes (place + 56 * c.from.result + 56) (place + 56 * c.args.count) c.in_err-entry.field-0.0 (omega (arith, c.from.ensures, c.loop-i-test.true))
    (c.in_err-entry.ensures.stopped bytes (at_entry bytes place c.loop-i.i c.from.result (g.S.Source.remaining c.loop-i.source) c.from.ensures (c.loop-i.invariant.left bytes h))))

pub loop-i-preserved : goal.loop-i-preserved
loop-i-preserved g c =
    let place = c.args.place in
    let remaining = g.S.Source.remaining in
    let i = c.loop-i.i in
    let here : (bytes : List ℕ) → IsReadTo bytes place (remaining c.args.source.now) → IsReadTo bytes (place + 56 * c.from.result) (remaining c.loop-i.source) =
    λ bytes h. at_entry bytes place i c.from.result (remaining c.loop-i.source) c.from.ensures (c.loop-i.invariant.left bytes h) in
    record {
      table =
          λ bytes h.
          let entry : c.in_ok-entry.entry ≡ entry_at bytes place i =
          c.in_ok-entry.ensures.entry bytes (here bytes h) ∙ ap (λ (k : ℕ). entry_of (bytes_at 56 bytes (place + 56 * k))) c.from.ensures in
          c.in_ok-push_entry.ensures
          ∙ ap (λ (xs : List ProgramHeader). xs ++ c.in_ok-entry.entry ∷ []) (c.loop-i.invariant.table bytes h)
          ∙ ap (λ (x : ProgramHeader). entries bytes place i ++ x ∷ []) entry
          ∙ sym (map-range_with_len_more (entry_at bytes place) 0 i i (omega arith));
      left =
          λ bytes h.
          let after : place + 56 * c.from.result + 56 ≡ place + 56 * (i + 1) = omega (arith, c.from.ensures) in
          subst (λ (k : ℕ). IsReadTo bytes k (remaining c.read_entry.new.source)) after (c.in_ok-entry.ensures.left bytes (here bytes h));
      counted = omega (arith, c.loop-i.invariant.counted, c.read_entry.ensures.counted);
    }
