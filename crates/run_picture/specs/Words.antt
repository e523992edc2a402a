-- The words of an event, as a line of a script has them.
use Rattle.std.specs.Prelude.{ℕ, List, [], ◌∷◌, ◌++◌, codes, decimal, flat_map, take}
use Rattle.page_core.specs.declared.format.Format.{Format}
use Rattle.page_core.specs.declared.format.Format.TheVariants.{Plain, SkipZeros}
use Rattle.plain_machine.specs.declared.event.Actor.TheVariants as actor
use Rattle.plain_machine.specs.declared.event.Event.{Event}
use Rattle.plain_machine.specs.declared.event.Event.TheVariants as event
use Rattle.plain_machine.specs.declared.event.Loader.TheVariants as loader
use Rattle.plain_machine.specs.declared.event.Ranges.{Ranges}
use Rattle.plain_machine.specs.declared.event.TaskOp.{TaskOp}
use Rattle.plain_machine.specs.declared.event.TaskOp.TheVariants as op
use Rattle.run_picture.specs.Texts.{named}

abbrev pub saving_words : List ℕ → Format → List ℕ
saving_words name Plain = name
saving_words name SkipZeros = name ++ codes " zeros"

abbrev pub range_words : ℕ × ℕ → List ℕ
range_words range = named (codes " ") range.0 ++ named (codes "-") range.1

abbrev pub ranges_words : Ranges → List ℕ
ranges_words ranges = flat_map range_words (take ranges.count ranges.list)

-- a task's request: its name, the task, and a number
abbrev pub one_words : List ℕ → ℕ → ℕ → List ℕ
one_words name t m = named name t ++ named (codes " ") m

abbrev pub two_words : List ℕ → ℕ → ℕ → ℕ → List ℕ
two_words name t m n = one_words name t m ++ named (codes " ") n

abbrev pub request_words : ℕ → TaskOp → List ℕ
request_words t (op.Claim p) = one_words (codes "claim ") t p
request_words t (op.Release p) = one_words (codes "release ") t p
request_words t (op.Store p k v) = two_words (codes "store ") t p k ++ named (codes " ") v
request_words t (op.Show p k) = two_words (codes "show ") t p k
request_words t (op.Cache p) = one_words (codes "cache ") t p
request_words t (op.Out p) = one_words (codes "out ") t p
request_words t (op.TakeIn s p) = two_words (codes "in ") t s p

abbrev pub event_words : Event → List ℕ
event_words (event.Boot from) = codes "boot"
event_words (event.Hibernate format) = saving_words (codes "hibernate") format
event_words (event.Suspend format) = saving_words (codes "suspend") format
event_words event.Wake = codes "wake"
event_words event.Settle = codes "settle"
event_words (event.Shrink want) = named (codes "shrink ") want
event_words (event.Resume (loader.Ranges ranges) check) = codes "resume" ++ ranges_words ranges
event_words (event.Resume loader.Table check) = codes "resume"
event_words (event.Step actor.Core) = codes "step core"
event_words (event.Step (actor.Task t)) = named (codes "step ") t
event_words (event.Task t o) = request_words t o
event_words (event.Cut pick) = named (codes "cut ") pick
event_words (event.Arm first count pick) = two_words (codes "arm ") first count pick
