use Rattle.std.proofs.Common.{◌≡◌, false, is_some, sym, ◌∙◌, subst}
use Rattle.std.proofs.lemmas.Bool.{false≢true}
use Rattle.plain_machine.specs.declared.event.Event.TheVariants as event
use Rattle.plain_machine.specs.declared.event.Actor.TheVariants as actor
use Rattle.plain_machine.specs.declared.reply.Reply.TheVariants as reply
use Rattle.machine.specs.Flights.{flights_in}
use Rattle.world_core.specs.World.{World}
use Rattle.world_core.proofs.Rows.{row_refused, idle_elsewhere, idle_without}
use Rattle.world_core.proofs.world.World.step_task.Goals as goal

pub returns-then-not-is_running-clause-row : goal.returns-then-not-is_running-clause-row
returns-then-not-is_running-clause-row g c = λ k told. (
  k,
  told,
  row_refused (event.Step (actor.Task c.args.t)) c.args.self.now reply.Idle k
      (λ a stands. idle_elsewhere c.args.self.now k a c.args.t c.is_running.ensures.busy (λ run. false≢true (sym c.if-not-is_running.true ∙ c.is_running.ensures.running.1 run)) stands),
)

pub returns-then-not-is_in_flight-clause-row : goal.returns-then-not-is_in_flight-clause-row
returns-then-not-is_in_flight-clause-row g c = λ k told.
    let none = subst (λ (w : World). is_some (flights_in w.machine.flights c.args.t) ≡ false) c.self.view_is (sym c.is_in_flight.ensures ∙ c.if-not-is_in_flight.true) in
    (k, told, row_refused (event.Step (actor.Task c.args.t)) c.args.self.now reply.Idle k (λ a stands. idle_without c.args.self.now k a c.args.t none stands))
