use Rattle.std.proofs.Common.{◌≡◌, ◌≤◌, ◌^◌, ℕ, All, List, [], ◌∷◌, None, refl, sym, ap, subst, ◌∙◌}
use Rattle.std.proofs.lemmas.Result.{err_from_is_err_and}
use Rattle.core_machine.specs.Pages.{places_end}
use Rattle.core_machine.specs.Segments.{address_end, none_fault, segments_fault}
use Rattle.core_machine.specs.declared.segments.segment.Segment.{Segment}
use Rattle.core_machine.proofs.Faults.{none-second}
use Rattle.core_machine.specs.Made.{IsPlain, frames_in}
use Rattle.core_machine.proofs.Places.{all_low}
use Rattle.core_machine.proofs.Stopped.{core_right, end_is, heading_is, lacks_at_last, lacks_at_once, lacks_bytes, lacks_head, made, one_zone}
use Rattle.core_machine.proofs.making.machine_of_core.Goals as goal

pub returns-in_err-core-clause-lacks : goal.returns-in_err-core-clause-lacks
returns-in_err-core-clause-lacks g c =
    let p = err_from_is_err_and c.from_residual.result c.from_residual.ensures.1 in
    rw (p.1, p.2) (λ bytes e. lacks_head bytes c.args.slots c.in_err-core.field-0.0 (c.in_err-core.ensures.stopped bytes e))

pub frames_in-requires : goal.frames_in-requires
frames_in-requires g c =
    let core = c.in_ok-core.core in
    let follows = none-second (none_fault core.segments.items) (segments_fault 0 core.place core.segments.items) c.in_ok-core.ensures.follows in
    subst (λ (xs : List Segment). All (λ (s : Segment). address_end s ≤ 2 ^ 28) xs) (sym c.deref.ensures.value) (all_low 0 core.place core.segments.items follows)

pub returns-in_err-filled-clause-lacks : goal.returns-in_err-filled-clause-lacks
returns-in_err-filled-clause-lacks g c =
    let p = err_from_is_err_and c.from_residual-in_err-filled.result c.from_residual-in_err-filled.ensures.1 in
    rw (p.1, p.2) (λ bytes e.
    let is = c.in_ok-core.ensures.core bytes e in
    let heading = heading_is bytes c.args.slots c.heading_of-heading.result c.in_ok-core.core.ident c.frames_in.result c.deref.result.now c.heading_of-heading.ensures
    is.ident c.frames_in.ensures (c.deref.ensures.value ∙ is.segments) in
    lacks_at_once bytes c.args.slots c.plain_layout-layout.result c.heading_of-heading.result c.in_err-filled.field-0.0 c.plain_layout-layout.ensures is.no_fault heading
    c.in_err-filled.ensures.stopped)

pub returns-in_err-lay_all-clause-lacks : goal.returns-in_err-lay_all-clause-lacks
returns-in_err-lay_all-clause-lacks g c =
    let p = err_from_is_err_and c.from_residual-in_err-lay_all.result c.from_residual-in_err-lay_all.ensures.1 in
    rw (p.1, p.2) (λ bytes e.
    let is = c.in_ok-core.ensures.core bytes e in
    let place = c.in_ok-core.core.place in
    lacks_bytes bytes c.args.slots (places_end place c.deref-2.result.now) c.in_err-lay_all.field-0.0 is.no_fault
    (end_is bytes place c.deref-2.result.now is.place (c.deref-2.ensures.value ∙ is.segments))
    (c.in_err-lay_all.ensures.stopped bytes (c.in_ok-core.ensures.left bytes e)))

pub returns-in_err-machine-clause-lacks : goal.returns-in_err-machine-clause-lacks
returns-in_err-machine-clause-lacks g c =
    let p = err_from_is_err_and c.from_residual-in_err-machine.result c.from_residual-in_err-machine.ensures.1 in
    rw (p.1, p.2) (λ bytes e.
    let is = c.in_ok-core.ensures.core bytes e in
    let place = c.in_ok-core.core.place in
    let segments = c.deref-2.result.now in
    let plan = c.lay_all.new.filled.plan in
    let here = c.in_ok-core.ensures.left bytes e in
    let heading = heading_is bytes c.args.slots c.heading_of-heading.result c.in_ok-core.core.ident c.frames_in.result c.deref.result.now c.heading_of-heading.ensures
    is.ident c.frames_in.ensures (c.deref.ensures.value ∙ is.segments) in
    let laid = c.in_ok-lay_all.ensures.laid in
    let plain : IsPlain plan.layout = subst IsPlain (sym (c.lay_all.ensures.same.layout ∙ c.in_ok-filled.ensures.layout)) c.plain_layout-layout.ensures in
    let right = core_right bytes (places_end place segments) is.no_fault (end_is bytes place segments is.place (c.deref-2.ensures.value ∙ is.segments))
    (c.in_ok-lay_all.ensures.whole bytes here) in
    lacks_at_last bytes c.args.slots plan.layout plan.heading segments laid.saved c.in_err-machine.field-0.0 plain right
    (c.lay_all.ensures.same.heading ∙ c.in_ok-filled.ensures.heading ∙ heading) (laid.are bytes here) (c.deref-2.ensures.value ∙ is.segments)
    (c.in_err-machine.ensures.passed laid.saved laid.has))

pub returns-clause-dump : goal.returns-clause-dump
returns-clause-dump g c = λ bytes e.
    let is = c.in_ok-core.ensures.core bytes e in
    let place = c.in_ok-core.core.place in
    let segments = c.deref-2.result.now in
    let plan = c.lay_all.new.filled.plan in
    let here = c.in_ok-core.ensures.left bytes e in
    let heading = heading_is bytes c.args.slots c.heading_of-heading.result c.in_ok-core.core.ident c.frames_in.result c.deref.result.now c.heading_of-heading.ensures
    is.ident c.frames_in.ensures (c.deref.ensures.value ∙ is.segments) in
    let laid = c.in_ok-lay_all.ensures.laid in
    let plain : IsPlain plan.layout = subst IsPlain (sym (c.lay_all.ensures.same.layout ∙ c.in_ok-filled.ensures.layout)) c.plain_layout-layout.ensures in
    let right = core_right bytes (places_end place segments) is.no_fault (end_is bytes place segments is.place (c.deref-2.ensures.value ∙ is.segments))
    (c.in_ok-lay_all.ensures.whole bytes here) in
    made bytes c.args.slots plan.layout plan.heading segments laid.saved c.in_ok-machine.field-0 plain right
    (c.lay_all.ensures.same.heading ∙ c.in_ok-filled.ensures.heading ∙ heading) (laid.are bytes here) (c.deref-2.ensures.value ∙ is.segments)
    (c.in_ok-machine.ensures.machine laid.saved laid.has)

pub lay_all-requires-clause-zone : goal.lay_all-requires-clause-zone
lay_all-requires-clause-zone g c =
    one_zone c.in_ok-filled.filled.plan.zones c.in_ok-filled.filled.plan.heading c.in_ok-filled.filled.plan.layout c.in_ok-core.core.ident c.frames_in.result c.args.slots
    c.in_ok-filled.ensures.filled.plan.zones (c.in_ok-filled.ensures.heading ∙ c.heading_of-heading.ensures)
    (subst IsPlain (sym c.in_ok-filled.ensures.layout) c.plain_layout-layout.ensures)
    ∙ ap (λ (n : ℕ). (0, n) ∷ []) (c.frames_in.ensures ∙ ap frames_in (c.deref.ensures.value ∙ sym c.deref-2.ensures.value))
