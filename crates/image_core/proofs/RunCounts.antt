-- Runs that are counted, and the program headers of runs that are written as the numbers come.
use Rattle.std.proofs.Common.{◌≡◌, ℕ, ◌+◌, ◌*◌, ◌<◌, ◌≤◌, ◌^◌, List, [], ◌∷◌, ◌++◌, length, Option, Some, None, refl, sym, ap, ◌∙◌, subst, arith, append-nil, append_assoc, length-append, All}
use Rattle.definitions.specs.FreeRuns.{runs_of}
use Rattle.definitions.specs.Streams.{TakesAll, TakesFront}
use Rattle.byte_streams.proofs.Taken.{TakesAll-both, TakesAll-none, TakesFront-all, TakesFront-first, TakesFront-second}
use Rattle.elf_core.specs.Elf.{load_bytes, loads_bytes}
use Rattle.image_show.specs.Runs.{IsUpTo, count_of, list_of}
use Rattle.image_core.specs.Listed.{AreListed, CanList, IsListFront, frames_in}
use Rattle.image_core.specs.Runs.{HasEnded}
use Rattle.image_core.specs.declared.counter.RunCounter.{RunCounter}
use Rattle.image_core.specs.declared.loads.Loads.{Loads}
use Rattle.image_core.proofs.RunLaws.{ended_stay, few_runs, frames_in-one, loads_bytes-append, loads_bytes-one, run_few, run_first}

-- the last run has no more page frames than there are numbers, and no more runs have ended
pub last_few : (numbers : List ℕ) (last : Option (ℕ × ℕ)) (ended : List (ℕ × ℕ)) → IsUpTo numbers last ended → count_of last ≤ length numbers
last_few numbers None ended u = omega arith
last_few numbers (Some run) ended u = omega (arith, run_few numbers ended [] run u.runs)

pub ended_few : (numbers : List ℕ) (last : Option (ℕ × ℕ)) (ended : List (ℕ × ℕ)) → IsUpTo numbers last ended → length ended + length (list_of last) ≤ length numbers
ended_few numbers last ended u = omega (arith, few_runs numbers, ap length u.runs, length-append ended (list_of last))

-- A run ends, and its program header is written.

abbrev pub AtRun : ℕ → List ℕ → List (ℕ × ℕ) → ℕ × ℕ → Loads → (old mid : Option (List ℕ)) → Type 0
AtRun start numbers before run loads old mid =
    (loads.offset ≡ start + 4096 * frames_in before) × TakesAll (loads_bytes start before) old mid

pub load_first : (start : ℕ) (numbers : List ℕ) (before after : List (ℕ × ℕ)) (run : ℕ × ℕ) → runs_of numbers ≡ before ++ run ∷ after → CanList start numbers → run.0 < 2 ^ 52
load_first start numbers before after run e can = run_first (2 ^ 52) numbers before after run e can.small

pub load_count : (start : ℕ) (numbers : List ℕ) (before after : List (ℕ × ℕ)) (run : ℕ × ℕ) → runs_of numbers ≡ before ++ run ∷ after → CanList start numbers → run.1 < 2 ^ 52
load_count start numbers before after run e can = omega (arith, run_few numbers before after run e, can.few)

pub load_offset : (start : ℕ) (numbers : List ℕ) (before after : List (ℕ × ℕ)) (run : ℕ × ℕ) (offset : ℕ) → runs_of numbers ≡ before ++ run ∷ after → CanList start numbers → offset ≡ start + 4096 * frames_in before → offset + 4096 * run.1 < 2 ^ 64
load_offset start numbers before after run offset e can at = omega (arith, run_few numbers before after run e, can.few, can.place)

pub load_whole : (start : ℕ) (before : List (ℕ × ℕ)) (run : ℕ × ℕ) (offset : ℕ) (old mid new : Option (List ℕ)) → offset ≡ start + 4096 * frames_in before → TakesAll (loads_bytes start before) old mid → TakesAll (load_bytes offset run.0 run.1) mid new → TakesAll (loads_bytes start (before ++ run ∷ [])) old new
load_whole start before run offset old mid new at first then =
    subst (λ (x : List ℕ). TakesAll x old new) (sym (loads_bytes-one start before run))
    (TakesAll-both (loads_bytes start before) (load_bytes (start + 4096 * frames_in before) run.0 run.1) old mid new first
    (subst (λ (k : ℕ). TakesAll (load_bytes k run.0 run.1) mid new) at then))

pub load_front : (start : ℕ) (before : List (ℕ × ℕ)) (run : ℕ × ℕ) (offset : ℕ) (old mid new : Option (List ℕ)) → offset ≡ start + 4096 * frames_in before → TakesAll (loads_bytes start before) old mid → TakesFront (load_bytes offset run.0 run.1) mid new → TakesFront (loads_bytes start (before ++ run ∷ [])) old new
load_front start before run offset old mid new at first then =
    subst (λ (x : List ℕ). TakesFront x old new) (sym (loads_bytes-one start before run))
    (TakesFront-second (loads_bytes start before) (load_bytes (start + 4096 * frames_in before) run.0 run.1) old mid new first
    (subst (λ (k : ℕ). TakesFront (load_bytes k run.0 run.1) mid new) at then))

-- what is a front of the program headers of the runs that have ended stays one, whichever numbers follow
pub front_stays : (start : ℕ) (numbers : List ℕ) (last : Option (ℕ × ℕ)) (ended : List (ℕ × ℕ)) (old new : Option (List ℕ)) → IsUpTo numbers last ended → TakesFront (loads_bytes start ended) old new → IsListFront start numbers old new
front_stays start numbers last ended old new u front = λ more.
    let (rest, e) = ended_stay numbers last ended more u in
    subst (λ (x : List ℕ). TakesFront x old new) (sym (ap (loads_bytes start) e ∙ loads_bytes-append start ended rest))
    (TakesFront-first (loads_bytes start ended) (loads_bytes (start + 4096 * frames_in ended) rest) old new front)

pub listed_front : (start : ℕ) (numbers : List ℕ) (loads : Loads) (old new : Option (List ℕ)) → AreListed start numbers loads old new → IsListFront start numbers old new
listed_front start numbers loads old new l =
    front_stays start numbers loads.counter.runs.last l.ended old new l.has.runs (TakesFront-all (loads_bytes start l.ended) old new l.taken)

-- a run that ends at a number
pub run_ends : (numbers : List ℕ) (n : ℕ) (counter : RunCounter) (ended : List (ℕ × ℕ)) (run : ℕ × ℕ) → HasEnded (numbers ++ n ∷ []) counter (ended ++ run ∷ []) → runs_of (numbers ++ n ∷ []) ≡ ended ++ run ∷ list_of counter.runs.last
run_ends numbers n counter ended run h = h.runs.runs ∙ append_assoc ended (run ∷ []) (list_of counter.runs.last)
