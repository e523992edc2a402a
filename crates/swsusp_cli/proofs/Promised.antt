-- The promise of a run, by what its words ask for.
use Rattle.std.proofs.Common.{◌≡◌, ◌≢◌, inr, ℕ, refl, sym, subst, Option, Some, None, List, [], IsTrue, arith}
use Rattle.definitions.specs.Streams.{HandsOut}
use Rattle.command_kit.specs.Causes.{SinksFail}
use Rattle.command_kit.specs.Told.{RunResult, memory_told}
use Rattle.command_kit.specs.View.{View}
use Rattle.command_kit.specs.declared.status.Status.{Status}
use Rattle.command_kit.specs.declared.status.Status.TheVariants as status
use Rattle.sector_disk.specs.declared.disk.Disk.{Ghosts}
use Rattle.swsusp_cli.specs.Causes.{HasCauseIn}
use Rattle.swsusp_cli.specs.Outcome.{Tells}
use Rattle.swsusp_cli.specs.Outcome.{HandsOutAtMost}
use Rattle.swsusp_cli.specs.Theorem.{Does, IsJustified, IsSafe, Promise}
use Rattle.command_words.specs.Words.{Asked, command_of, inspect, hibernate, resume, replay, drill, export, import}
use Rattle.swsusp_cli.proofs.Answered.{memory_drills, memory_exports, memory_hibernates, memory_imports, memory_replays, memory_resumes}
use Rattle.swsusp_cli.proofs.Causes.{own_status}
use Rattle.swsusp_cli.proofs.Crashed.{inside_none}
use Rattle.swsusp_cli.proofs.Prints.{AreFlushed, told_flushed}

pub promised : {X : Type 0} (D : Ghosts X) (words : List (List ℕ)) (before after : X) (x x' : View) (ends : Status) (asked : Option Asked) → command_of words ≡ asked → Does D before after x x' ends asked → (IsTrue (D.tells_moments before) → IsSafe D before after x x' asked) →
    IsJustified asked x x' ends → Promise D words before after x x' ends
promised D words before after x x' ends asked is does safe cause = record {
  does = subst (Does D before after x x' ends) (sym is) does;
  safe = λ tells. subst (IsSafe D before after x x') (sym is) (safe tells);
  cause = subst (λ (o : Option Asked). IsJustified o x x' ends) (sym is) cause;
}

-- a status that isn't the words' own
pub caused : (asked : Option Asked) (x x' : View) (ends : Status) → HasCauseIn x x' ends → (ends ≢ status.Stream → AreFlushed x'.out x'.note) → IsJustified asked x x' ends
caused asked x x' ends cause flushed = record { words = λ is. absurd (cause.words is); stream = cause.stream; flushed = flushed; device = cause.device }

-- the same of what is told as an answer
pub answer_caused : (asked : Option Asked) (x x' : View) (ends : Status) (told : RunResult) → Tells told ends x x' → HasCauseIn x x' ends → IsJustified asked x x' ends
answer_caused asked x x' ends told tells cause = caused asked x x' ends cause (told_flushed told ends x.out x'.out x.note x'.note tells)

-- nothing is read
hands_none : (left : Option (List ℕ)) → HandsOut 0 [] left left
hands_none None = tt
hands_none (Some left) = refl

pub unread_all : (most : ℕ) (left left' : Option (List ℕ)) → left' ≡ left → HandsOutAtMost most left left'
unread_all most left left' same = ([], omega arith, subst (λ (l : Option (List ℕ)). HandsOut 0 [] left l) (sym same) (hands_none left))

-- Memory was refused before the disk was called and a byte was read.
module _ {X : Type 0} (D : Ghosts X) (d : X) (x x' : View) (ends : Status) (told : Tells memory_told ends x x') (untouched : x'.disk ≡ x.disk) (left : x'.left ≡ x.left) where
  pub memory_does : (asked : Option Asked) → Does D d d x x' ends asked
  memory_does None = (inr (record { told = told; untouched = untouched }), left)
  memory_does (Some (inspect offset swap)) = (inr (record { told = told; untouched = untouched }), left)
  memory_does (Some replay) = (memory_replays x x' ends told untouched, unread_all 1048577 x.left x'.left left)
  memory_does (Some (drill number)) = (memory_drills x x' ends told untouched number, left)
  memory_does (Some (hibernate format size swap)) = memory_hibernates x x' ends told untouched D d format size
  memory_does (Some (resume check swap)) = memory_resumes x x' ends told untouched D d check
  memory_does (Some export) = memory_exports x x' ends told untouched
  memory_does (Some (import swap)) = memory_imports x x' ends told untouched left

  pub memory_safe : (asked : Option Asked) → IsSafe D d d x x' asked
  memory_safe None = tt
  memory_safe (Some (inspect offset swap)) = tt
  memory_safe (Some replay) = tt
  memory_safe (Some (drill number)) = tt
  memory_safe (Some (hibernate format size swap)) = tt
  memory_safe (Some (resume check swap)) = tt
  memory_safe (Some export) = tt
  memory_safe (Some (import swap)) = inside_none x.left x'.left (D.moment d) (D.left_since d)

words_no_device : status.Words ≡ status.Device → ⊥
words_no_device same = cc

device_no_stream : status.Device ≡ status.Stream → ⊥
device_no_stream same = cc

-- the words' own status: the only one that a refusal has beside a stream's
pub words_caused : (x x' : View) (ends : Status) (told : RunResult) → Tells told ends x x' → (ends ≡ status.Stream → SinksFail x.out x'.out x.note x'.note) → (ends ≢ status.Stream → ends ≡ status.Words) → IsJustified None x x' ends
words_caused x x' ends told tells stream same = record {
  words = λ is. refl;
  stream = λ is. inr (stream is);
  flushed = told_flushed told ends x.out x'.out x.note x'.note tells;
  device = λ is. absurd (words_no_device (own_status ends status.Words status.Device device_no_stream same is));
}
