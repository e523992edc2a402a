-- What `differ` prints.
use Rattle.std.specs.Prelude.{◌≡◌, ◌≢◌, ◌⊎◌, ℕ, ◌==◌, Bool, true, false, List, [], ◌++◌, length, codes, if◌then◌else◌}
use Rattle.command_kit.specs.Told.{RunResult, line, memory_told}
use Rattle.command_kit.specs.Told.{FailsToPrint, IsTold, IsTried, sink_note}
use Rattle.command_kit.specs.View.{SinkView}
use Rattle.command_kit.specs.declared.status.Status.{Status}
use Rattle.command_kit.specs.declared.status.Status.TheVariants.{Done, Refused, Stream}
use Rattle.image_differ.specs.Compares.{AreCompared, AreUntold, HasCompared, IsWrong, Opens}
use Rattle.image_differ.specs.Lines.{lines_of}
use Rattle.image_differ.specs.Sides.{SideView}
use Rattle.image_differ.specs.declared.comparison.Comparison.{Comparison}
use Rattle.image_differ.specs.declared.comparison.Opened.{Opened}
use Rattle.image_differ.specs.declared.comparison.Opened.TheVariants as opened
use Rattle.image_differ.specs.declared.difference.Difference.{Difference}
use Rattle.image_differ.specs.declared.side.Which.{Which}
use Rattle.image_differ.specs.declared.side.Which.TheVariants.{First, Second}
use Rattle.image_cli.specs.declared.differing.Ended.{Ended}
use Rattle.image_cli.specs.declared.differing.Ended.TheVariants as ended

-- why one of the images isn't compared
abbrev pub which_text : Which → List ℕ
which_text First = codes "first: "
which_text Second = codes "second: "

abbrev pub refused_note : Which → List ℕ → List ℕ
refused_note which why = which_text which ++ line why

abbrev pub has_findings : List ℕ
has_findings = codes "the image has findings"

abbrev pub note_of : Opened → List ℕ
note_of (opened.NoImage which) = refused_note which (codes "no image")
note_of (opened.Refused which) = refused_note which has_findings
note_of (opened.Open c) = []

abbrev pub unopened_told : Opened → RunResult
unopened_told o = record { status = Refused; out = []; note = note_of o }

-- a line for each difference, and what follows them
abbrev pub ended_told : List Difference → Ended → RunResult
ended_told ds ended.Same = record { status = Done; out = lines_of ds ++ line (codes "same"); note = [] }
ended_told ds ended.Different = record { status = Refused; out = lines_of ds; note = [] }
ended_told ds (ended.Refused which) =
    record { status = Refused; out = lines_of ds; note = refused_note which has_findings }

-- the end of a whole comparison, by the number of differences
abbrev pub end_of : ℕ → Ended
end_of count = if count == 0 then ended.Same else ended.Different

-- these are the first differences of the two images
abbrev pub AreFirst : (a b : SideView) → List Difference → Type 0
AreFirst a b ds = (c : Comparison) × HasCompared a b c ds

-- all differences are printed, or only the first if that is asked for
abbrev pub AreDifferent : Bool → (a a' b b' : SideView) → List Difference → Type 0
AreDifferent first_only a a' b b' ds =
    ((first_only ≡ false) × (ds ≢ []) × AreCompared a a' b b' ds)
    ⊎ ((first_only ≡ true) × (length ds ≡ 1) × AreFirst a b ds)

-- how the comparison ended after these differences
abbrev pub EndsAfter : Bool → (a a' b b' : SideView) → List Difference → Ended → Type 0
EndsAfter first_only a a' b b' ds ended.Same =
    AreUntold a a' b b' × (ds ≡ []) × AreCompared a a' b b' ds
EndsAfter first_only a a' b b' ds ended.Different =
    AreUntold a a' b b' × AreDifferent first_only a a' b b' ds
EndsAfter first_only a a' b b' ds (ended.Refused First) =
    (b'.told ≡ b.told) × AreFirst a b ds × IsWrong a a'
EndsAfter first_only a a' b b' ds (ended.Refused Second) =
    (a'.told ≡ a.told) × AreFirst a b ds × IsWrong b b'

-- the output failed within these lines, and that is noted
pub record IsCutShort (ds : List Difference) (status : Status) (out out' note note' : SinkView) : Type 0 where
  pub status_is : status ≡ Stream
  pub front : FailsToPrint (lines_of ds) out out'
  pub noted : IsTried sink_note note note'

-- either exactly the differences of two open images are printed, or the output failed on the way
abbrev pub Compares : Bool → (a a' b b' : SideView) → Status → (out out' note note' : SinkView) → Type 0
Compares first_only a a' b b' status out out' note note' =
    ((ds : List Difference) × ((end : Ended) × (EndsAfter first_only a a' b b' ds end
    × IsTold (ended_told ds end) status out out' note note')))
    ⊎ ((ds : List Difference) × (AreFirst a b ds × AreUntold a a' b b'
    × IsCutShort ds status out out' note note'))

abbrev pub IsUnopened : (a a' b b' : SideView) → Opened → Type 0
IsUnopened a a' b b' o = Opens a a' b b' o × ((c : Comparison) → o ≡ opened.Open c → ⊥)

-- the same, or the reason why the images aren't compared is printed, or that memory was refused
abbrev pub Differs : Bool → (a a' b b' : SideView) → Status → (out out' note note' : SinkView) → Type 0
Differs first_only a a' b b' status out out' note note' =
    (AreUntold a a' b b' × IsTold memory_told status out out' note note')
    ⊎ ((o : Opened) × (IsUnopened a a' b b' o × IsTold (unopened_told o) status out out' note note'))
    ⊎ Compares first_only a a' b b' status out out' note note'
