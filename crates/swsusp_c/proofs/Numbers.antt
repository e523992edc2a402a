-- Findings as numbers, and those that are kept.
use Rattle.std.proofs.Common.{◌≡◌, ◌⊎◌, ℕ, ◌+◌, ◌-◌, ◌≤◌, ◌<◌, Bool, true, false, List, [], ◌∷◌, ◌++◌, map, length, take, min, Some, refl, sym, ap, ◌∙◌, inl, inr, append-nil, arith, set}
use Rattle.std.proofs.lemmas.Bool.{le-leb, leb-false, lt-leb}
use Rattle.std.proofs.lemmas.Grind.{flat_map-append, take-set_at}
use Rattle.std.proofs.lemmas.List.{map-append, take_all}
use Rattle.std.specs.Prelude.{nat_lt}
use Rattle.definitions.specs.Disk.{HasRisen, last_count}
use Rattle.definitions.specs.Streams.{TakesAll}
use Rattle.image_format.specs.declared.signature.area.AreaFault.{AreaFault}
use Rattle.image_format.specs.declared.signature.area.AreaFault.TheVariants as area
use Rattle.compression.specs.declared.lzo.fault.Kind.{Kind}
use Rattle.compression.specs.declared.lzo.fault.Kind.TheVariants as kind
use Rattle.image_walk.specs.declared.visit.BlockFault.{BlockFault}
use Rattle.image_walk.specs.declared.visit.BlockFault.TheVariants as block
use Rattle.image_check.specs.Lines.{line_of, lines_of}
use Rattle.image_check.specs.Told.{Tells}
use Rattle.image_check.specs.declared.finding.Finding.{Finding}
use Rattle.image_check.specs.declared.finding.Finding.TheVariants as finding
use Rattle.swsusp_c.specs.Facts.{fault_of}
use Rattle.swsusp_c.specs.Findings.{IsKept, area_by, block_by, block_numbers, finding_code, finding_of, kept_in, kind_by, kind_number, told_of}
use Rattle.swsusp_c.specs.declared.findings.SwsuspFindings.{SwsuspFindings}

area_back : (why : AreaFault) → area_by (fault_of why).0 (fault_of why).1 ≡ why
area_back (area.Version version) = refl
area_back (area.BadCount count) = refl
area_back area.LastZero = refl
area_back (area.BadEntry slot) = refl

block_back : (why : BlockFault) → block_by (block_numbers why).0 (block_numbers why).1 ≡ why
block_back block.Zero = refl
block_back (block.BeyondFile b) = refl
block_back (block.BeyondLast b) = refl
block_back (block.Bad b) = refl
block_back (block.Again b) = refl
block_back (block.Unread b) = refl

kind_back : (k : Kind) → kind_by (kind_number k) ≡ k
kind_back kind.Versioned = refl
kind_back kind.InputTooShort = refl
kind_back kind.OutputTooLong = refl
kind_back kind.BeforeBegin = refl
kind_back kind.BadEnd = refl
kind_back kind.BehindEnd = refl

finding_back : (f : Finding) → finding_of (finding_code f) ≡ f
finding_back (finding.HeaderUnread b) = refl
finding_back finding.OriginalSignature = refl
finding_back (finding.Area why) = ap finding.Area (area_back why)
finding_back (finding.LastPage last blocks) = refl
finding_back (finding.Compressed flags) = refl
finding_back (finding.Map m why) = ap (finding.Map m) (block_back why)
finding_back (finding.Ends m pages) = refl
finding_back (finding.AfterMaps m b) = refl
finding_back (finding.Entry place why) = ap (finding.Entry place) (block_back why)
finding_back (finding.AfterPages place b) = refl
finding_back (finding.NoEnd name) = refl
finding_back (finding.Magic magic) = refl
finding_back (finding.Counts image_pages pages) = refl
finding_back (finding.Size size pages) = refl
finding_back (finding.Number page word number) = refl
finding_back (finding.Order page word number before) = refl
finding_back (finding.End page word found) = refl
finding_back (finding.DataPages counted pages) = refl
finding_back (finding.UnitLength unit place length) = refl
finding_back (finding.UnitStream unit why) = ap (λ k. finding.UnitStream unit (record { kind = k; at = why.at })) (kind_back why.kind)
finding_back (finding.UnitSize unit bytes wanted) = refl
finding_back (finding.Checksum header units) = refl

not_full : (n : ℕ) → n ≤ 1100 → nat_lt 1100 n ≡ false
not_full n few = lt-leb 1101 n (omega (arith, few))

is_full : (n : ℕ) → 1100 < n → nat_lt 1100 n ≡ true
is_full n many = le-leb 1101 n (omega (arith, many))

-- a finding is kept
pub one_told : (f : Finding) (old new : SwsuspFindings) → old.count < 1100 → length old.found ≡ 1100
    → new.found ≡ set old.found old.count (finding_code f) → new.count ≡ min (old.count + 1) last_count → Tells (f ∷ []) (told_of old) (told_of new)
one_told f old new room long found counted =
    let next : new.count ≡ old.count + 1 = omega (arith, room, counted) in
    let first : take new.count new.found ≡ take old.count old.found ++ finding_code f ∷ [] =
    ap (take new.count) found ∙ take-set_at old.found old.count new.count (finding_code f) next (omega (arith, room, long)) in
    let kept : kept_in new ≡ kept_in old ++ f ∷ [] =
    ap (map finding_of) first ∙ map-append finding_of (take old.count old.found) (finding_code f ∷ []) ∙ ap (λ x. kept_in old ++ x ∷ []) (finding_back f) in
    let lines : List ℕ = lines_of (f ∷ []) in
    let all : TakesAll lines (Some (lines_of (kept_in old))) (Some (lines_of (kept_in new))) =
    ap lines_of kept ∙ flat_map-append line_of (kept_in old) (f ∷ []) ∙ ap (λ (x : List ℕ). lines_of (kept_in old) ++ x) (sym (take_all (length lines) lines (omega arith))) in
    let open_old : nat_lt 1100 old.count ≡ false = not_full old.count (omega (arith, room)) in
    let open_new : nat_lt 1100 new.count ≡ false = not_full new.count (omega (arith, room, next)) in
    record {
      count = λ few. counted;
      front = (length lines, omega arith, all);
      whole = λ e. (open_old, all);
      stops = λ e. let no : false ≡ true = sym open_old ∙ e in cc;
      cause = λ e. let no : false ≡ true = sym open_new ∙ e in cc;
      faults = omega (arith, next);
    }

-- a finding for which there is no room is counted
pub none_told : (f : Finding) (old new : SwsuspFindings) → 1100 ≤ old.count → old.count ≤ last_count → length old.found ≡ 1100 → new.found ≡ old.found
    → new.count ≡ min (old.count + 1) last_count → Tells (f ∷ []) (told_of old) (told_of new)
none_told f old new no_room few long found counted =
    let more : 1100 < new.count = omega (arith, no_room, few, counted) in
    let same : take new.count new.found ≡ take old.count old.found =
    ap (take new.count) found ∙ take_all new.count old.found (omega (arith, long, more)) ∙ sym (take_all old.count old.found (omega (arith, long, no_room))) in
    let lines : lines_of (kept_in new) ≡ lines_of (kept_in old) = ap (λ x. lines_of (map finding_of x)) same in
    record {
      count = λ less. counted;
      front = (0, omega arith, lines ∙ sym (append-nil (lines_of (kept_in old))));
      whole = λ e. let no : true ≡ false = sym (is_full new.count more) ∙ e in cc;
      stops = λ e. ap Some lines;
      cause = λ e. fault (nat_lt 1100 old.count) refl;
      faults = omega (arith, counted);
    }
  where
    fault : (was : Bool) → nat_lt 1100 old.count ≡ was → (nat_lt 1100 old.count ≡ true) ⊎ HasRisen (old.count - 1100) (new.count - 1100)
    fault true is = inl is
    fault false is = inr (inl (omega (arith, leb-false 1101 old.count is, no_room, counted)))

-- what was told from nothing on is what is kept
pub kept_alone : (more : List Finding) (start new : SwsuspFindings) → start.count ≡ 0 → Tells more (told_of start) (told_of new) → IsKept more new
kept_alone more start new none told =
    let before : lines_of (kept_in start) ≡ [] = ap (λ n. lines_of (map finding_of (take n start.found))) none in
    record {
      count = omega (arith, none, told.count (omega (arith, none)));
      whole = λ few.
          (told.whole (not_full new.count few)).1 ∙ ap (λ (x : List ℕ). x ++ take (length (lines_of more)) (lines_of more)) before
          ∙ take_all (length (lines_of more)) (lines_of more) (omega arith);
      front = (told.front.0, told.front.2 ∙ ap (λ (x : List ℕ). x ++ take told.front.0 (lines_of more)) before);
    }
