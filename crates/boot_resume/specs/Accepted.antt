-- What is known once the info page or a number page was accepted.
use Rattle.std.specs.Prelude.{◌≡◌, ℕ, ◌*◌, ◌<◌, ◌⊎◌, Some, None, Result}
use Rattle.std.specs.Prelude.{Ok, Err}
use Rattle.definitions.specs.Disk.{DiskImage}
use Rattle.boot_resume.specs.OnDisk.{content_cause, number_before, data_before, meta_in}
use Rattle.boot_resume.specs.Standing.{Counted}
use Rattle.boot_resume.specs.declared.cause.Cause.{Cause}
use Rattle.boot_resume.specs.declared.machine.Machine.{Machine}
use Rattle.boot_resume.specs.declared.reading.Reading.{Reading}
use Rattle.definitions.specs.declared.counts.TheConstants.{WORDS_PER_PAGE}

-- what doesn't depend on the numbers stays the same
pub record IsKept (old new : Reading) : Type 0 where
  pub mark : new.mark ≡ old.mark
  pub page : new.page ≡ old.page
  pub map : new.map ≡ old.map

-- the numbers up to page k of the stream were listed; either they are the last ones, or there are more
pub record Tallied (m : Machine) (v : DiskImage) (k : ℕ) (r : Reading) : Type 0 where
  pub counted : Counted m v r
  pub last : r.last ≡ number_before m v r.given
  pub with_data : r.with_data ≡ data_before m v r.given
  pub place : ((r.given ≡ r.saved) × (k ≡ meta_in m v)) ⊎ ((r.given < r.saved) × (r.given ≡ WORDS_PER_PAGE * k))

abbrev pub AcceptsPage : Machine → DiskImage → ℕ → Reading → Result (Unit {0}) Cause → Type 0
AcceptsPage m v k r (Ok x) = (content_cause m v k ≡ None) × Tallied m v k r
AcceptsPage m v k r (Err why) = content_cause m v k ≡ Some why

abbrev pub Accepts : Machine → DiskImage → Reading → Reading → Result (Unit {0}) Cause → Type 0
Accepts m v old new result = AcceptsPage m v old.page new result

abbrev pub AcceptsInfo : Machine → DiskImage → Reading → Result (Unit {0}) Cause → Type 0
AcceptsInfo m v new result = AcceptsPage m v 0 new result

abbrev pub AcceptsNumbers : Machine → DiskImage → Reading → Reading → Result (Unit {0}) Cause → Type 0
AcceptsNumbers m v old new result = AcceptsPage m v old.page new result
