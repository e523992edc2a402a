-- Differences that are printed one after another.
use Rattle.std.proofs.Common.{◌≡◌, ◌≢◌, ℕ, ◌+◌, ◌≤◌, Bool, true, false, List, [], ◌∷◌, ◌++◌, length, suc, if◌then◌else◌, Option, refl, sym, ap, subst, ◌∙◌, inl, inr, arith, append-nil, length-append}
use Rattle.std.proofs.lemmas.Bool.{ne_eqb}
use Rattle.std.proofs.lemmas.Grind.{flat_map-append}
use Rattle.definitions.specs.Streams.{TakesAll, TakesFront}
use Rattle.byte_streams.proofs.Taken.{TakesAll-both, TakesAll-none, TakesFront-second}
use Rattle.command_kit.specs.Told.{RunResult}
use Rattle.command_kit.specs.Told.{IsTold}
use Rattle.command_kit.specs.View.{SinkView}
use Rattle.command_kit.specs.declared.status.Status.{Status}
use Rattle.command_kit.specs.declared.status.Status.TheVariants.{Refused}
use Rattle.image_differ.specs.Compares.{AreCompared, AreUntold, HasCompared, Says}
use Rattle.image_differ.specs.Lines.{line_of, lines_of}
use Rattle.image_differ.specs.Sides.{OnlyReads, SideView}
use Rattle.image_differ.specs.declared.comparison.Comparison.{Comparison}
use Rattle.image_differ.specs.declared.comparison.Next.TheVariants as next
use Rattle.image_differ.specs.declared.difference.Difference.{Difference}
use Rattle.image_differ.specs.declared.side.Which.{Which}
use Rattle.image_differ.specs.declared.side.Which.TheVariants.{First, Second}
use Rattle.image_differ.proofs.Sides.{compared_after, compared_before, says_since}
use Rattle.image_cli.specs.Differs.{Compares, EndsAfter, end_of}
use Rattle.image_cli.specs.declared.differing.Ended.{Ended}
use Rattle.image_cli.specs.declared.differing.Ended.TheVariants as ended
use Rattle.image_cli.proofs.Summing.{told_after}

lines_more : (ds : List Difference) (d : Difference) → lines_of (ds ++ d ∷ []) ≡ lines_of ds ++ line_of d
lines_more ds d = flat_map-append line_of ds (d ∷ []) ∙ ap (λ (x : List ℕ). lines_of ds ++ x) (append-nil (line_of d))

-- what was printed so far of the differences of two images
pub record SoFar (a b : SideView) (c : Comparison) (old now : Option (List ℕ)) (count : ℕ) : Type 0 where
  pub told : List Difference
  pub compared : HasCompared a b c told
  pub taken : TakesAll (lines_of told) old now
  pub size : length told ≡ count

pub nothing_yet : (a b : SideView) (c : Comparison) (old : Option (List ℕ)) → HasCompared a b c [] → SoFar a b c old old 0
nothing_yet a b c old h = record { told = []; compared = h; taken = TakesAll-none old; size = refl }

pub all_taken : (told : List Difference) (d : Difference) (old mid now : Option (List ℕ)) → TakesAll (lines_of told) old mid → TakesAll (line_of d) mid now → TakesAll (lines_of (told ++ d ∷ [])) old now
all_taken told d old mid now before rest =
    subst (λ (x : List ℕ). TakesAll x old now) (sym (lines_more told d)) (TakesAll-both (lines_of told) (line_of d) old mid now before rest)

-- one more difference was found, and its line was printed
pub so_far_more : (a b x y : SideView) (c q : Comparison) (d : Difference) (old mid now : Option (List ℕ)) (count : ℕ) (s : SoFar a b c old mid count) → HasCompared a b q (s.told ++ d ∷ []) → OnlyReads a x → OnlyReads b y → TakesAll (line_of d) mid now → SoFar x y q old now (count + 1)
so_far_more a b x y c q d old mid now count s h f g taken =
    let size = s.size in
    record {
      told = s.told ++ d ∷ [];
      compared = compared_after a x b y q (s.told ++ d ∷ []) f g h;
      taken = all_taken s.told d old mid now s.taken taken;
      size = omega (arith, length-append s.told (d ∷ []));
    }

-- the line of the difference that was found was printed in part
pub front_taken : (told : List Difference) (d : Difference) (old mid now : Option (List ℕ)) → TakesAll (lines_of told) old mid → TakesFront (line_of d) mid now → TakesFront (lines_of (told ++ d ∷ [])) old now
front_taken told d old mid now before rest =
    subst (λ (x : List ℕ). TakesFront x old now) (sym (lines_more told d)) (TakesFront-second (lines_of told) (line_of d) old mid now before rest)

none_told : (told : List Difference) → length told ≡ 0 → told ≡ []
none_told [] e = refl
none_told (d ∷ ds) e = cc

some_told : (d : Difference) (ds : List Difference) → d ∷ ds ≢ []
some_told d ds e = cc

only_first : (first_only : Bool) (told : List Difference) (count : ℕ) → length told ≡ count → (first_only ≡ true → count ≡ 0) → told ≢ [] → first_only ≡ false
only_first false told count size one some = refl
only_first true told count size one some = absurd (some (none_told told (size ∙ one refl)))

more_differ : (n : ℕ) → end_of (suc n) ≡ ended.Different
more_differ n = ap (λ (t : Bool). if t then ended.Same else ended.Different) (ne_eqb (suc n) 0 (λ e. cc))

-- both images are whole
pub ends_whole : (first_only : Bool) (a a' b b' : SideView) (told : List Difference) (count : ℕ) → length told ≡ count → (first_only ≡ true → count ≡ 0) → AreUntold a a' b b' → AreCompared a a' b b' told → EndsAfter first_only a a' b b' told (end_of count)
ends_whole first_only a a' b b' [] count size one untold all =
    subst (λ (n : ℕ). EndsAfter first_only a a' b b' [] (end_of n)) size (untold, refl, all)
ends_whole first_only a a' b b' (d ∷ ds) count size one untold all =
    subst (λ (n : ℕ). EndsAfter first_only a a' b b' (d ∷ ds) (end_of n)) size
    (subst (λ (e : Ended). EndsAfter first_only a a' b b' (d ∷ ds) e) (sym (more_differ (length ds)))
    (untold, inl (only_first first_only (d ∷ ds) count size one (some_told d ds), some_told d ds, all)))

-- the first difference is wanted alone
pub ends_first : (a a' b b' : SideView) (q : Comparison) (d : Difference) (told : List Difference) (count : ℕ) → length told ≡ count → count ≡ 0 → AreUntold a a' b b' → HasCompared a b q (told ++ d ∷ []) → EndsAfter true a a' b b' (told ++ d ∷ []) ended.Different
ends_first a a' b b' q d told count size none untold h =
    (untold, inr (refl, omega (arith, length-append told (d ∷ []), size, none), (q, h)))

-- one of the images has findings
pub ends_refused : (first_only : Bool) (a a' b b' : SideView) (c : Comparison) (told : List Difference) (q : Comparison) (which : Which) → HasCompared a b c told → Says a a' b b' told q (next.Refused which) → EndsAfter first_only a a' b b' told (ended.Refused which)
ends_refused first_only a a' b b' c told q First h says = (says.1, (c, h), says.0)
ends_refused first_only a a' b b' c told q Second h says = (says.1, (c, h), says.0)

-- nothing is printed after the lines
abbrev pub refused_with : List ℕ → RunResult
refused_with note = record { status = Refused; out = []; note = note }

pub told_lines : (ds : List Difference) (text : List ℕ) (status : Status) (old mid new note noted : SinkView) → TakesAll (lines_of ds) old.taken mid.taken → old.faults ≤ mid.faults → IsTold (refused_with text) status mid new note noted → IsTold (record { status = Refused; out = lines_of ds; note = text }) status old new note noted
told_lines ds text status old mid new note noted taken counted told =
    subst (λ (t : List ℕ). IsTold (record { status = Refused; out = t; note = text }) status old new note noted) (append-nil (lines_of ds))
    (told_after (lines_of ds) (refused_with text) status old mid new note noted taken counted told)

-- the end is the same over disks that read as before
ends_since : (first_only : Bool) (a x a' b y b' : SideView) (ds : List Difference) (q : Comparison) (end : Ended) → OnlyReads a x → OnlyReads b y → x.told ≡ a.told → y.told ≡ b.told → EndsAfter first_only x a' y b' ds end → EndsAfter first_only a a' b b' ds end
ends_since first_only a x a' b y b' ds q ended.Same f g e h (untold, none, all) =
    let says = says_since a x a' b y b' ds q next.End f g e h (untold, all) in
    (says.0, none, says.1)
ends_since first_only a x a' b y b' ds q ended.Different f g e h (untold, inl (every, some, all)) =
    let says = says_since a x a' b y b' ds q next.End f g e h (untold, all) in
    (says.0, inl (every, some, says.1))
ends_since first_only a x a' b y b' ds q ended.Different f g e h (untold, inr (one, size, (c, s))) =
    ((untold.0 ∙ e, untold.1 ∙ h), inr (one, size, (c, compared_before a x b y c ds f g s)))
ends_since first_only a x a' b y b' ds q (ended.Refused First) f g e h (untold, (c, s), wrong) =
    let says = says_since a x a' b y b' ds q (next.Refused First) f g e h (wrong, untold) in
    (says.1, (c, compared_before a x b y c ds f g s), says.0)
ends_since first_only a x a' b y b' ds q (ended.Refused Second) f g e h (untold, (c, s), wrong) =
    let says = says_since a x a' b y b' ds q (next.Refused Second) f g e h (wrong, untold) in
    (says.1, (c, compared_before a x b y c ds f g s), says.0)

pub compares_since : (first_only : Bool) (a x a' b y b' : SideView) (q : Comparison) (status : Status) (out out' note note' : SinkView) → OnlyReads a x → OnlyReads b y → x.told ≡ a.told → y.told ≡ b.told → Compares first_only x a' y b' status out out' note note' → Compares first_only a a' b b' status out out' note note'
compares_since first_only a x a' b y b' q status out out' note note' f g e h (inl (ds, (end, (ends, told)))) =
    inl (ds, (end, (ends_since first_only a x a' b y b' ds q end f g e h ends, told)))
compares_since first_only a x a' b y b' q status out out' note note' f g e h (inr (ds, ((c, s), untold, cut))) =
    inr (ds, ((c, compared_before a x b y c ds f g s), (untold.0 ∙ e, untold.1 ∙ h), cut))
