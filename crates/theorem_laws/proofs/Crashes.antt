-- What a crash inside a hibernation and a resume leaves.
use Rattle.std.proofs.Common.{◌≡◌, inl, inr, ℕ, Option, Some, sym, ap, ◌∙◌, subst}
use Rattle.std.specs.Prelude.{IsTrue}
use Rattle.std.specs.Result.{result_ok}
use Rattle.std.proofs.lemmas.Option.{same_Some}
use Rattle.page_core.specs.declared.format.Format.{Format}
use Rattle.definitions.specs.Disk as disk
use Rattle.dump_file.specs.Dump.{DumpValue}
use Rattle.plain_machine.specs.Chain.{Marked}
use Rattle.plain_machine.specs.Machine.{Hardware}
use Rattle.plain_machine.specs.UsableArea.{HasOriginal}
use Rattle.plain_machine.specs.Stands.{IsSameOrTakenBack}
use Rattle.plain_machine.specs.declared.event.IdentCheck.{IdentCheck}
use Rattle.protocol_laws.proofs.Inside.{taken_itself}
use Rattle.sector_disk.specs.declared.disk.Disk.{Ghosts}
use Rattle.command_core.specs.declared.ending.Ended.{Ended}
use Rattle.command_core.specs.Hibernations.{IsUnmarkedOrHolds, image_to_save, machine_to_save}
use Rattle.command_core.proofs.Hibernated.{hibernation_inside}
use Rattle.command_core.proofs.Resumed.{resumption_inside}
use Rattle.command_kit.specs.View.{View}
use Rattle.command_kit.specs.declared.status.Status.{Status}
use Rattle.swsusp_cli.specs.Dumps as dumps
use Rattle.swsusp_cli.specs.Dumps.{Hibernates, HasAnswered}
use Rattle.swsusp_cli.specs.Loads as loads
use Rattle.swsusp_cli.specs.Loads.{Resumes, HasLoaded}
use Rattle.theorem_laws.specs.Crashes.{SavesInside, LoadsInside}

-- right before a command a crash leaves the disk as it is
abbrev pub IsAtRest : {X : Type 0} → Ghosts X → X → Type 0
IsAtRest D d = (v w : disk.DiskImage) → D.content d ≡ Some (disk.settled v) → D.left_since d (D.moment d) w → w ≡ v

unmarked : (h : Hardware) (v w : disk.DiskImage) → (Marked h v → ⊥) → w ≡ v → Marked h w → ⊥
unmarked h v w never same = subst (λ (u : disk.DiskImage). Marked h u → ⊥) (sym same) never

module _ {X : Type 0} (D : Ghosts X) (before after : X) (x x' : View) (status : Status) (tells : IsTrue (D.tells_moments before)) (rest : IsAtRest D before) where
  saves_untouched : (f : Format) (size : Option ℕ) → after ≡ before → SavesInside f size x.left (D.content before) (D.left_since after (D.moment before))
  saves_untouched f size same = record {
    leaves = λ bytes dump v w left says told never gone.
        inl (unmarked dump.hw v w never (rest v w told (subst (λ (d : X). D.left_since d (D.moment before) w) same gone)));
  }

  loads_untouched : after ≡ before → LoadsInside x.left (D.content before) (D.left_since after (D.moment before))
  loads_untouched same = record {
    leaves = λ bytes dump v w left says told original gone.
        taken_itself dump.hw v w (rest v w told (subst (λ (d : X). D.left_since d (D.moment before) w) same gone));
  }

  answered_inside : (f : Format) (size : Option ℕ) (dump : DumpValue) (ended : Ended) → HasAnswered D before after f size x x' status dump ended → (v w : disk.DiskImage) → D.content before ≡ Some (disk.settled v) → (Marked dump.hw v → ⊥) → D.left_since after (D.moment before) w →
      IsUnmarkedOrHolds dump.hw (image_to_save dump.hw (machine_to_save dump.hw dump.memory size v) f) w
  answered_inside f size dump ended is v w told never gone =
      let run = is.ran in
      let over = run.3.over v told (λ marked. absurd (never marked)) in
      elim (over.inside tells w gone) [
        | inl same ↦ inl (unmarked dump.hw v w never same)
        | inr left ↦ elim (hibernation_inside D dump.hw dump.memory v f size ended run.0 run.1 is.shown before after over w run.2 left) [
          | inl same ↦ inl (unmarked dump.hw v w never same)
          | inr kept ↦ kept
        ]
      ]

  pub saves_inside : (f : Format) (size : Option ℕ) → Hibernates D before after f size x x' status → SavesInside f size x.left (D.content before) (D.left_since after (D.moment before))
  saves_inside f size (dumps.no_dump fault is same) = saves_untouched f size same
  saves_inside f size (dumps.out_of_memory is same) = saves_untouched f size same
  saves_inside f size (dumps.unread is same) = saves_untouched f size same
  saves_inside f size (dumps.answered dump ended is) = record {
    leaves = λ bytes other v w left says told never gone.
        let same : dump ≡ other = same_Some dump other (ap result_ok (sym (is.dump_is.says bytes left) ∙ says)) in
        subst (λ (d : DumpValue). (Marked d.hw v → ⊥) → IsUnmarkedOrHolds d.hw (image_to_save d.hw (machine_to_save d.hw d.memory size v) f) w) same
        (λ unmarked'. answered_inside f size dump ended is v w told unmarked' gone) never;
  }

  loaded_inside : (check : IdentCheck) (dump : DumpValue) (ended : Ended) → HasLoaded D before after check x x' status dump ended → (v w : disk.DiskImage) → D.content before ≡ Some (disk.settled v) → (Marked dump.hw v → HasOriginal dump.hw v) → D.left_since after (D.moment before) w → IsSameOrTakenBack dump.hw v w
  loaded_inside check dump ended is v w told original gone =
      let run = is.ran in
      let over = run.3.over v told original in
      elim (over.inside tells w gone) [
        | inl same ↦ taken_itself dump.hw v w same
        | inr left ↦ resumption_inside D dump.hw dump.memory v check ended run.0 run.1 is.shown before after over run.2 w left
      ]

  pub loads_inside : (check : IdentCheck) → Resumes D before after check x x' status → LoadsInside x.left (D.content before) (D.left_since after (D.moment before))
  loads_inside check (loads.no_dump fault is same) = loads_untouched same
  loads_inside check (loads.out_of_memory is same) = loads_untouched same
  loads_inside check (loads.unread is same) = loads_untouched same
  loads_inside check (loads.answered dump ended is) = record {
    leaves = λ bytes other v w left says told original gone.
        let same : dump ≡ other = same_Some dump other (ap result_ok (sym (is.dump_is.says bytes left) ∙ says)) in
        subst (λ (d : DumpValue). (Marked d.hw v → HasOriginal d.hw v) → IsSameOrTakenBack d.hw v w) same (λ has. loaded_inside check dump ended is v w told has gone) original;
  }
