use Rattle.std.proofs.Common.{◌≡◌, ◌∙◌, ◌∷◌, [], drop, sym, ap, subst, arith}
use Rattle.std.proofs.lemmas.List.{drop-drop}
use Rattle.std.specs.List.{slice_get}
use Rattle.std.specs.List.Sorted.{IsStrictlyIncreasing}
use Rattle.definitions.specs.Zones.{numbers}
use Rattle.definitions.specs.FreeRuns.{runs_of}
use Rattle.definitions.proofs.SlotRuns.{runs_of-nil}
use Rattle.swap_slots.specs.Runs.{SlotRuns, from_slot}
use Rattle.swap_slots.specs.Kept.{kept_runs}
use Rattle.swap_slots.specs.declared.runs.FreeRuns.TheInside.{Inside}
use Rattle.swap_slots.proofs.Changes.{members_seen}
use Rattle.swap_slots.proofs.FreeBits.{IsStrictlyIncreasing-members_of}
use Rattle.swap_slots.proofs.FirstRun.{from_slot-all, slice_get-drop, slice_get-past_last}
use Rattle.swap_slots.proofs.runs.FreeRuns.run.Goals as goal

-- all runs are those of the slots from 0 on
all_runs : (r : Inside) (seen : SlotRuns) → kept_runs r ≡ seen → seen.runs ≡ runs_of (from_slot 0 (numbers seen.runs))
all_runs r seen e =
    let members = members_seen r seen e in
    let up = subst IsStrictlyIncreasing members (IsStrictlyIncreasing-members_of r.room r.bits.items) in
    sym (ap (λ (s : SlotRuns). s.runs) e) ∙ ap runs_of members ∙ ap runs_of (sym (from_slot-all (numbers seen.runs) up))

pub returns-in_err-run : goal.returns-in_err-run
returns-in_err-run c =
    let none : c.args.self.now.runs ≡ [] = all_runs c.self.inside c.args.self.now c.self.view_is ∙ ap runs_of c.in_err-run.ensures ∙ runs_of-nil in
    c.from_residual.ensures ∙ ap (λ runs. slice_get runs c.args.j) (sym none)

pub loop-init : goal.loop-init
loop-init c = record {
  within = c.in_ok-run.ensures.within;
  here = all_runs c.self.inside c.args.self.now c.self.view_is ∙ c.in_ok-run.ensures.splits;
}

pub returns-in_err-run-2 : goal.returns-in_err-run-2
returns-in_err-run-2 c =
    let runs = c.args.self.now.runs in
    let last : drop c.loop.counter runs ≡ c.loop.run ∷ [] =
    c.loop.invariant.here ∙ ap (λ slots. c.loop.run ∷ runs_of slots) c.in_err-run-2.ensures ∙ ap (λ rest. c.loop.run ∷ rest) runs_of-nil in
    c.from_residual-in_err-run-2.ensures ∙ sym (slice_get-past_last runs c.loop.counter c.args.j c.loop.run last c.loop-test.true)

pub loop-preserved : goal.loop-preserved
loop-preserved c = record {
  within = c.in_ok-run-2.ensures.within;
  here =
      sym (drop-drop 1 c.loop.counter c.args.self.now.runs)
      ∙ ap (drop 1) c.loop.invariant.here
      ∙ c.in_ok-run-2.ensures.splits;
}

pub returns : goal.returns
returns c =
    let at : c.loop.counter ≡ c.args.j = let end = c.loop.auto.counter-end in let past = c.loop-test.false in omega arith in
    let here = slice_get-drop c.args.self.now.runs c.loop.counter c.loop.run _ c.loop.invariant.here in
    sym here ∙ ap (slice_get c.args.self.now.runs) at
