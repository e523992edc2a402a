-- The numbers and the page of a state are those of one check alone.
use Rattle.std.proofs.Common.{◌≡◌, Bool, true, false, Option, Some, None, refl, ap, ◌∙◌}
use Rattle.page_core.specs.declared.format.Format.{Format}
use Rattle.page_core.specs.declared.format.Format.TheVariants.{Plain, SkipZeros}
use Rattle.image_check.specs.declared.checking.Outcome.TheVariants.{NoImage, Checked}
use Rattle.image_check.specs.declared.finding.Counts.{Counts}
use Rattle.image_check.specs.declared.progress.Progress.{Progress}
use Rattle.image_walk.specs.declared.walk.Walk.{Walk}
use Rattle.boot_check.specs.declared.check.Check.{Check}
use Rattle.boot_check.specs.declared.names.Names.{Names}
use Rattle.boot_check.specs.declared.stage.Stage.{Stage}
use Rattle.boot_check.specs.declared.stage.Stage.TheVariants.{Header, Name, Over}
use Rattle.swsusp_c.specs.Checks.{check_by, check_code, counts_by, counts_or, flag_by, flag_of, format_by, format_number, has_counts_of, names_by, stage_block, stage_by, stage_number, with_names}
use Rattle.swsusp_c.specs.State.{has_of, last_by, number_of}
use Rattle.swsusp_c.specs.declared.kept.SwsuspCheck.{SwsuspCheck}
use Rattle.swsusp_c.proofs.Same.{last_back, some_is}

stage_back : (s : Stage) → stage_by (stage_number s) (stage_block s) ≡ Some s
stage_back Header = refl
stage_back (Name b) = refl
stage_back (Over NoImage) = refl
stage_back (Over Checked) = refl

format_back : (f : Format) → format_by (format_number f) ≡ f
format_back Plain = refl
format_back SkipZeros = refl

flag_back : (b : Bool) → flag_by (flag_of b) ≡ b
flag_back true = refl
flag_back false = refl

counts_back : (c : Option Counts) → counts_by (has_counts_of c) (counts_or c).image_pages (counts_or c).pages ≡ c
counts_back None = refl
counts_back (Some c) = refl

walk_back : (w : Walk) (over : Bool) → over ≡ w.over → record { maps = w.maps; at = w.at; map = w.map; entry = w.entry; next = w.next; over = over } ≡ w
walk_back w over is = λ i. record { maps = w.maps; at = w.at; map = w.map; entry = w.entry; next = w.next; over = is i }

progress_back : (p : Progress) → record {
  counts = counts_by (has_counts_of p.counts) (counts_or p.counts).image_pages (counts_or p.counts).pages;
  previous = last_by (has_of p.previous) (number_of p.previous);
  counted = last_by (has_of p.counted) (number_of p.counted);
} ≡ p
progress_back p = λ i. record { counts = counts_back p.counts i; previous = last_back p.previous i; counted = last_back p.counted i }

names_back : (c : Check) → names_by (check_code c) ≡ c.names
names_back c = λ i. record {
  limits = c.names.limits;
  format = format_back c.names.format i;
  walk = walk_back c.names.walk (flag_by (flag_of c.names.walk.over)) (flag_back c.names.walk.over) i;
  progress = progress_back c.names.progress i;
}

with_some : (o : Option Stage) (s : Stage) (n m : Names) → o ≡ Some s → n ≡ m → with_names o n ≡ Some (record { stage = s; names = m })
with_some o s n m is same = ap (λ x. with_names x n) is ∙ ap (λ x. Some (record { stage = s; names = x })) same

check_back : (c : Check) → check_by (check_code c) ≡ Some c
check_back c = with_some (stage_by (stage_number c.stage) (stage_block c.stage)) c.stage (names_by (check_code c)) c.names (stage_back c.stage) (names_back c)

-- the check that is read from a state is the one that it was made of
pub same_check : (s : SwsuspCheck) (c read : Check) → s ≡ check_code c → Some read ≡ check_by s → read ≡ c
same_check s c read is by = some_is read c (by ∙ ap check_by is ∙ check_back c)
