-- The events whose numbers are in the ranges that a script's lines allow.
use Rattle.std.specs.Prelude.{ℕ, ◌<◌, ◌≤◌, All, ⊤}
use Rattle.plain_machine.specs.declared.event.Event.{Event}
use Rattle.plain_machine.specs.declared.event.Event.TheVariants as event
use Rattle.plain_machine.specs.declared.event.TaskOp.{TaskOp}
use Rattle.plain_machine.specs.declared.event.TaskOp.TheVariants as op
use Rattle.plain_machine.specs.declared.event.Actor.{Actor}
use Rattle.plain_machine.specs.declared.event.Actor.TheVariants as actor
use Rattle.plain_machine.specs.declared.event.Loader.{Loader}
use Rattle.plain_machine.specs.declared.event.Loader.TheVariants as loader
use Rattle.plain_machine.specs.declared.event.Ranges.{Ranges}
use Rattle.plain_machine.specs.Machine.{IsTask}
use Rattle.definitions.specs.declared.counts.TheConstants.{WORDS_PER_PAGE}

-- page frame numbers are below 65536, words below 512, slots below 131072
abbrev pub IsFittingOp : TaskOp → Type 0
IsFittingOp (op.Claim p) = p < 65536
IsFittingOp (op.Release p) = p < 65536
IsFittingOp (op.Store p k v) = (p < 65536) × (k < WORDS_PER_PAGE)
IsFittingOp (op.Show p k) = (p < 65536) × (k < WORDS_PER_PAGE)
IsFittingOp (op.Cache p) = p < 65536
IsFittingOp (op.Out p) = p < 65536
IsFittingOp (op.TakeIn s p) = (s < 131072) × (p < 65536)

abbrev pub IsFittingActor : Actor → Type 0
IsFittingActor actor.Core = ⊤
IsFittingActor (actor.Task t) = IsTask t

-- at most 8 ranges of page frame numbers below 65536, each with its low end first
pub record IsRange (range : ℕ × ℕ) : Type 0 where
  pub ordered : range.0 ≤ range.1
  pub below : range.1 < 65536

pub record AreRanges (ranges : Ranges) : Type 0 where
  pub few : ranges.count ≤ 8
  pub each : All IsRange ranges.list

abbrev pub IsFittingLoader : Loader → Type 0
IsFittingLoader (loader.Ranges ranges) = AreRanges ranges
IsFittingLoader loader.Table = ⊤

-- the first call of the disk that is to fail is number 1 to a million from now, and at most a million calls fail
pub record AreCalls (first count : ℕ) : Type 0 where
  pub some : 1 ≤ first
  pub near : first ≤ 1000000
  pub few : count ≤ 1000000

abbrev pub IsFitting : Event → Type 0
IsFitting (event.Boot from) = ⊤
IsFitting (event.Hibernate f) = ⊤
IsFitting (event.Suspend f) = ⊤
IsFitting event.Wake = ⊤
IsFitting event.Settle = ⊤
IsFitting (event.Shrink want) = ⊤
IsFitting (event.Resume l check) = IsFittingLoader l
IsFitting (event.Step x) = IsFittingActor x
IsFitting (event.Task t o) = IsTask t × IsFittingOp o
IsFitting (event.Cut pick) = ⊤
IsFitting (event.Arm first count pick) = AreCalls first count
