use Rattle.std.proofs.Common.{◌≡◌, ℕ, ◌+◌, ◌-◌, List, [], ◌++◌, length, length-append, filter, take, sym, ap, ap₂, ◌∙◌, refl, arith}
use Rattle.std.specs.List.{range_with_len}
use Rattle.std.proofs.lemmas.List.{take_all}
use Rattle.definitions.specs.Tables.{saveable_frames}
use Rattle.definitions.specs.Tables.{with_entries}
use Rattle.definitions.specs.Zones.{numbers, zone_at}
use Rattle.definitions.proofs.TableEntries.{with_entries-none}
use Rattle.definitions.proofs.ZoneWalk.{at_zone, filter_all_zones}
use Rattle.frame_table.specs.Drop.{may_drop, dropped_frames}
use Rattle.frame_table.proofs.DropCounts.{left_saveable}
use Rattle.frame_table.proofs.DropLaws.{dropped_of, dropped_zone, with_entries-append}
use Rattle.frame_table.proofs.reclaim.shrink.Goals as goal

pub loop-zone-init : goal.loop-zone-init
loop-zone-init c =
    let none : take {A = ℕ} c.saturating_sub-most.result [] ≡ [] = take_all c.saturating_sub-most.result [] (omega arith) in
    record {
      pages = c.are_pages.ensures.pages;
      frames = sym (ap (λ (ps : List ℕ). with_entries c.args.frames.now c.args.table ps 1) none ∙ with_entries-none c.args.frames.now c.args.table 1);
      dropped = sym (ap length none);
      len = refl;
    }

pub drop_in_zone-dropped-requires-clause-zone : goal.drop_in_zone-dropped-requires-clause-zone
drop_in_zone-dropped-requires-clause-zone c =
    let told = c.as_slice-zone-items in
    let at = at_zone c.args.zones.now told.result.now c.loop-zone.zone-index told.ensures.pairs told.ensures.zones c.loop-zone-test.true in
    at.is_zone

pub drop_in_zone-dropped-requires-clause-table : goal.drop_in_zone-dropped-requires-clause-table
drop_in_zone-dropped-requires-clause-table c =
    let told = c.as_slice-zone-items in
    let at = at_zone c.args.zones.now told.result.now c.loop-zone.zone-index told.ensures.pairs told.ensures.zones c.loop-zone-test.true in
    omega (arith, at.below_top, c.requires, c.loop-zone.invariant.len)

pub loop-zone-preserved : goal.loop-zone-preserved
loop-zone-preserved c =
    let old = c.args.frames.now in
    let zones = c.args.zones.now in
    let keep = c.args.keep.now in
    let table = c.args.table in
    let most = c.saturating_sub-most.result in
    let inv = c.loop-zone.invariant in
    let told = c.as_slice-zone-items in
    let j = c.loop-zone.zone-index in
    let zone = zone_at told.result.now j in
    let at = at_zone zones told.result.now j told.ensures.pairs told.ensures.zones c.loop-zone-test.true in
    let before = dropped_of keep table old most (numbers (take j zones)) in
    let zone_test : List (List ℕ) → ℕ → List ℕ = λ frames left. take left (filter (may_drop keep table frames) (range_with_len zone.0 zone.1)) in
    let here = zone_test c.loop-zone.frames (most - c.loop-zone.dropped) in
    let here_is : here ≡ zone_test (with_entries old table before 1) (most - length before) =
    ap (λ (n : ℕ). zone_test c.loop-zone.frames (most - n)) inv.dropped ∙ ap (λ (frames : List (List ℕ)). zone_test frames (most - length before)) inv.frames in
    let all : dropped_of keep table old most (numbers (take (j + 1) zones)) ≡ before ++ here =
    dropped_zone keep table old most zones j zone at inv.pages c.requires ∙ ap (λ (ps : List ℕ). before ++ ps) (sym here_is) in
    record {
      pages = inv.pages;
      frames =
          c.drop_in_zone-dropped.ensures.frames ∙ ap (λ (frames : List (List ℕ)). with_entries frames table here 1) inv.frames ∙ sym (with_entries-append old table before here 1)
          ∙ ap (λ (ps : List ℕ). with_entries old table ps 1) (sym all);
      dropped = let sum = length-append before here in let total = ap length all in let more = c.drop_in_zone-dropped.ensures.dropped in let was = inv.dropped in omega arith;
      len = c.drop_in_zone-dropped.ensures.len ∙ inv.len;
    }

pub returns-clause-rest : goal.returns-clause-rest
returns-clause-rest c =
    let zones = c.args.zones.now in
    let keep = c.args.keep.now in
    let table = c.args.table in
    let old = c.args.frames.now in
    let told = c.as_slice-zone-items in
    let most_is : c.saturating_sub-most.result ≡ length (saveable_frames zones table old) - c.args.want = omega (arith, c.saturating_sub-most.ensures, c.from.ensures, c.count_saveable-saved.ensures) in
    let all : take c.saturating_sub-most.result (filter (may_drop keep table old) (numbers (take c.loop-zone.zone-index zones))) ≡ dropped_frames zones table keep c.args.want old =
    ap (take c.saturating_sub-most.result) (filter_all_zones (may_drop keep table old) zones told.result.now c.loop-zone.zone-index told.ensures.pairs c.loop-zone-test.false) ∙ ap (λ (n : ℕ). take n (filter (may_drop keep table old) (numbers zones))) most_is in
    let dropped = c.loop-zone.invariant.dropped ∙ ap length all in
    ap₂ (λ (n d : ℕ). n - d) c.count_saveable-saved.ensures dropped

pub returns-clause-left : goal.returns-clause-left
returns-clause-left c =
    let zones = c.args.zones.now in
    let keep = c.args.keep.now in
    let table = c.args.table in
    let old = c.args.frames.now in
    let told = c.as_slice-zone-items in
    let most_is : c.saturating_sub-most.result ≡ length (saveable_frames zones table old) - c.args.want = omega (arith, c.saturating_sub-most.ensures, c.from.ensures, c.count_saveable-saved.ensures) in
    let all : take c.saturating_sub-most.result (filter (may_drop keep table old) (numbers (take c.loop-zone.zone-index zones))) ≡ dropped_frames zones table keep c.args.want old =
    ap (take c.saturating_sub-most.result) (filter_all_zones (may_drop keep table old) zones told.result.now c.loop-zone.zone-index told.ensures.pairs c.loop-zone-test.false) ∙ ap (λ (n : ℕ). take n (filter (may_drop keep table old) (numbers zones))) most_is in
    let dropped = c.loop-zone.invariant.dropped ∙ ap length all in
    let frames = c.loop-zone.invariant.frames ∙ ap (λ (ps : List ℕ). with_entries old table ps 1) all in
    ap₂ (λ (n d : ℕ). n - d) c.count_saveable-saved.ensures dropped ∙ sym (left_saveable zones table keep c.args.want old told.ensures.zones c.loop-zone.invariant.pages c.requires)
    ∙ ap (λ (now : List (List ℕ)). length (saveable_frames zones table now)) (sym frames)
