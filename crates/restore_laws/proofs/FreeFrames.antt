-- Whether the page frames that are free to the loader are enough.
use Rattle.std.proofs.Common.{ltb, length, Some, None, refl, sym, ◌∙◌, inl, inr}
use Rattle.std.proofs.lemmas.Bool.{cases_lt, cond-true, cond-false, lt-ltb, le-ltb}
use Rattle.std.proofs.lemmas.Option.{none-some}
use Rattle.definitions.specs.Disk as disk
use Rattle.plain_machine.specs.Machine.{Hardware, Memory}
use Rattle.plain_machine.specs.Loader.{left_free, need}
use Rattle.plain_machine.specs.Trace.{d_in}
use Rattle.plain_machine.specs.declared.event.Loader.{Loader}
use Rattle.plain_machine.specs.declared.reply.Reply.{Reply}
use Rattle.plain_machine.specs.declared.reply.Reply.TheVariants as reply
use Rattle.restore_laws.specs.Free.{PlanTells, RoomSuffices, RoomFails}

pub plan_tells : PlanTells
plan_tells d = refl

abbrev too_few : Hardware → Memory → disk.DiskImage → Loader → Reply
too_few h dump v loader = reply.TooFewLoaderFrames (length (left_free h dump loader)) (need (d_in h v))

pub room_fails : RoomFails
room_fails h dump v loader few =
    cond-true (ltb (length (left_free h dump loader)) (need (d_in h v))) (Some (too_few h dump v loader)) None (lt-ltb (length (left_free h dump loader)) (need (d_in h v)) few)

pub room_suffices : RoomSuffices
room_suffices h dump v loader = (
  λ none. elim (cases_lt (length (left_free h dump loader)) (need (d_in h v))) [
    | inl few ↦ absurd (none-some (too_few h dump v loader) (sym none ∙ room_fails h dump v loader few))
    | inr enough ↦ enough
  ],
  λ enough. cond-false (ltb (length (left_free h dump loader)) (need (d_in h v))) (Some (too_few h dump v loader)) None (le-ltb (length (left_free h dump loader)) (need (d_in h v)) enough),
)
