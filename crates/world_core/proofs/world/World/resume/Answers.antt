use Rattle.std.proofs.Common.{sym, ◌∙◌}
use Rattle.std.proofs.lemmas.Bool.{false≢true}
use Rattle.plain_machine.specs.declared.event.Event.TheVariants as event
use Rattle.plain_machine.specs.declared.reply.Reply.TheVariants as reply
use Rattle.world_core.proofs.Booting.{no_dump}
use Rattle.world_core.proofs.Resuming.{refuses_table}
use Rattle.world_core.proofs.Rows.{row_refused, resume_not_off}
use Rattle.world_core.proofs.world.World.resume.Goals as goal

pub returns-then-not-is_off-clause-row : goal.returns-then-not-is_off-clause-row
returns-then-not-is_off-clause-row c = λ k.
    row_refused (event.Resume c.args.loader c.args.check) c.args.self.now reply.NotOff k
    (λ a stands. resume_not_off c.args.self.now k a c.args.loader c.args.check c.is_off.ensures.busy (λ off. false≢true (sym c.if-not-is_off.true ∙ c.is_off.ensures.off.1 off)) stands)

pub returns-then-not-keeps_dump-clause-row : goal.returns-then-not-keeps_dump-clause-row
returns-then-not-keeps_dump-clause-row c = λ k.
    no_dump (event.Resume c.args.loader c.args.check) c.args.self.now k (c.is_off.ensures.off.0 c.if-not-is_off.false) (sym c.keeps_dump.ensures ∙ c.if-not-keeps_dump.true)
    (λ held. refuses_table c.args.self.now.machine.hw held c.args.loader c.args.check (sym c.asks_dump.ensures ∙ c.if-asks_dump.true))
