-- A last text after lines that were printed.
use Rattle.std.proofs.Common.{◌≡◌, ℕ, ◌≤◌, List, [], ◌++◌, Option, Some, None, refl, sym, ap, subst, ◌∙◌, inl, inr, arith}
use Rattle.definitions.specs.Disk.{HasRisen}
use Rattle.definitions.specs.Streams.{TakesAll, TakesFront}
use Rattle.byte_streams.proofs.Taken.{TakesAll-none, TakesAll-both, TakesFront-first, TakesFront-second}
use Rattle.command_kit.specs.Told.{RunResult}
use Rattle.command_kit.specs.Told.{IsTold, IsPrinted, FailsToPrint, IsTried, sink_note}
use Rattle.command_kit.specs.View.{SinkView}
use Rattle.command_kit.specs.declared.status.Status.{Status}
use Rattle.command_kit.specs.declared.status.Status.TheVariants.{Stream}
use Rattle.image_check.specs.Checked.{TellsFound}
use Rattle.image_check.specs.Told.{Told, Tells}
use Rattle.image_check.specs.declared.checking.Outcome.{Outcome}
use Rattle.image_check.specs.declared.checking.Outcome.TheVariants.{NoImage, Checked}
use Rattle.image_check.specs.declared.finding.Finding.{Finding}

-- more text before what is told
abbrev pub with_before : List ℕ → RunResult → RunResult
with_before lines told = record { status = told.status; out = lines ++ told.out; note = told.note }

pub later : (before then now : ℕ) → before ≤ then → HasRisen then now → HasRisen before now
later before then now le (inl lt) = inl (omega arith)
later before then now le (inr last) = inr last

printed_after : (lines text : List ℕ) (old mid new : SinkView) → TakesAll lines old.taken mid.taken → IsPrinted text mid new → IsPrinted (lines ++ text) old new
printed_after lines text old mid new before h = record { whole = TakesAll-both lines text old.taken mid.taken new.taken before h.whole; flushed = h.flushed }

fails_after : (lines text : List ℕ) (old mid new : SinkView) → TakesAll lines old.taken mid.taken → old.faults ≤ mid.faults → FailsToPrint text mid new → FailsToPrint (lines ++ text) old new
fails_after lines text old mid new before le h = record {
  front = TakesFront-second lines text old.taken mid.taken new.taken before h.front;
  risen = later old.faults mid.faults new.faults le h.risen;
}

pub told_after : (lines : List ℕ) (told : RunResult) (status : Status) (old mid new note note' : SinkView) → TakesAll lines old.taken mid.taken → old.faults ≤ mid.faults → IsTold told status mid new note note' → IsTold (with_before lines told) status old new note note'
told_after lines told status old mid new note note' before le (inl whole) = inl (record {
  status_is = whole.status_is;
  out_whole = printed_after lines told.out old mid new before whole.out_whole;
  note_whole = whole.note_whole;
})
told_after lines told status old mid new note note' before le (inr cut) = inr (record {
  status_is = cut.status_is;
  fronts = elim cut.fronts [
    | inl both ↦ inl (fails_after lines told.out old mid new before le both.0, both.1)
    | inr both ↦ inr (printed_after lines told.out old mid new before both.0, both.1)
  ];
})

-- the lines couldn't be printed whole
pub told_failed : (lines : List ℕ) (told : RunResult) (status : Status) (old new note note' : SinkView) → TakesFront lines old.taken new.taken → HasRisen old.faults new.faults → IsTried sink_note note note' → status ≡ Stream → IsTold (with_before lines told) status old new note note'
told_failed lines told status old new note note' front risen tried is = inr (record {
  status_is = is;
  fronts = inl (record { front = TakesFront-first lines told.out old.taken new.taken front; risen = risen }, tried);
})

-- nothing was printed before
pub told_alone : (told : RunResult) (status : Status) (before mid : Told) (old view new note note' : SinkView) → mid ≡ before → before.text ≡ old.taken → before.faults ≡ old.faults → mid.text ≡ view.taken → mid.faults ≡ view.faults → IsTold told status view new note note' → IsTold told status old new note note'
told_alone told status before mid old view new note note' same text faults text' faults' h =
    let taken : old.taken ≡ view.taken = sym text ∙ ap (λ (t : Told). t.text) (sym same) ∙ text' in
    let failed : old.faults ≡ view.faults = sym faults ∙ ap (λ (t : Told). t.faults) (sym same) ∙ faults' in
    told_after [] told status old view new note note' (subst (λ (x : Option (List ℕ)). TakesAll [] old.taken x) taken (TakesAll-none old.taken)) (omega (arith, failed)) h

-- what was found, by what a check returns
pub none_found : (found : Option (List Finding)) (old new : Told) (outcome : Outcome) → outcome ≡ NoImage → TellsFound found old new outcome → (found ≡ None) × (new ≡ old)
none_found None old new outcome e t = (refl, t.1)
none_found (Some found) old new outcome e t = let g : NoImage ≡ Checked = sym e ∙ t.0 in cc

pub all_found : (found : Option (List Finding)) (old new : Told) (outcome : Outcome) → outcome ≡ Checked → TellsFound found old new outcome → (x : List Finding) × ((found ≡ Some x) × Tells x old new)
all_found None old new outcome e t = let g : Checked ≡ NoImage = sym e ∙ t.0 in cc
all_found (Some found) old new outcome e t = (found, (refl, t.1))
