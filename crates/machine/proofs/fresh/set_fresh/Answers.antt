use Rattle.std.proofs.Common.{◌≡◌, ℕ, List, ◌++◌, length, take, replicate, sym, ap, ◌∙◌, arith}
use Rattle.std.proofs.lemmas.List.{length-replicate}
use Rattle.std.specs.List.{range_with_len}
use Rattle.definitions.specs.Bytes.{zero_page}
use Rattle.definitions.specs.Zones.{numbers, top, zone_at, zone_end}
use Rattle.definitions.proofs.ZoneNumbers.{numbers-take_more}
use Rattle.definitions.proofs.ZoneWalk.{at_zone, all_zones}
use Rattle.plain_machine.specs.Machine.{Hardware}
use Rattle.plain_machine.specs.FreshMemory.{with_each_entry, fresh_entry}
use Rattle.plain_machine.proofs.Fresh.{filled_frames-are_fresh}
use Rattle.plain_machine.proofs.EachEntry.{each-none, each-append, length-each}
use Rattle.machine.proofs.Rows.{frame_table_fits}
use Rattle.machine.proofs.fresh.set_fresh.Goals as goal

len_so_far : (h : Hardware) (ks : List ℕ) → length (with_each_entry (fresh_entry h) ks h.frame_table (replicate (top h.zones) zero_page)) ≡ top h.zones
len_so_far h ks = length-each (fresh_entry h) ks h.frame_table (replicate (top h.zones) zero_page) ∙ length-replicate (top h.zones) zero_page

pub loop-start-init : goal.loop-start-init
loop-start-init c =
    c.zero_all.ensures ∙ ap (λ (n : ℕ). replicate n zero_page) c.requires
    ∙ sym (each-none (fresh_entry c.args.hw.now) c.args.hw.now.frame_table (replicate (top c.args.hw.now.zones) zero_page))

pub set_zone-requires-clause-number : goal.set_zone-requires-clause-number
set_zone-requires-clause-number c =
    let told = c.as_slice-start-items in
    let at = at_zone c.args.hw.now.zones told.result.now c.loop-start.start-index (told.ensures.pairs ∙ c.zones.ensures.zones) c.zones.ensures.hardware.zones c.loop-start-test.true in
    at.is_zone.1

pub set_zone-requires-clause-table : goal.set_zone-requires-clause-table
set_zone-requires-clause-table c =
    let h = c.args.hw.now in
    let told = c.as_slice-start-items in
    let j = c.loop-start.start-index in
    let at = at_zone h.zones told.result.now j (told.ensures.pairs ∙ c.zones.ensures.zones) c.zones.ensures.hardware.zones c.loop-start-test.true in
    let size = ap length c.loop-start.invariant ∙ len_so_far h (numbers (take j h.zones)) in
    let fits = frame_table_fits h (zone_end (zone_at told.result.now j)) c.zones.ensures.hardware at.below_top in
    omega (arith, size, fits)

pub loop-start-preserved : goal.loop-start-preserved
loop-start-preserved c =
    let h = c.args.hw.now in
    let told = c.as_slice-start-items in
    let j = c.loop-start.start-index in
    let zone = zone_at told.result.now j in
    let at = at_zone h.zones told.result.now j (told.ensures.pairs ∙ c.zones.ensures.zones) c.zones.ensures.hardware.zones c.loop-start-test.true in
    let e = fresh_entry h in
    let zeros = replicate (top h.zones) zero_page in
    let front = numbers (take j h.zones) in
    c.set_zone.ensures.set
    ∙ ap (with_each_entry e (range_with_len zone.0 zone.1) h.frame_table) c.loop-start.invariant
    ∙ sym (each-append e front (range_with_len zone.0 zone.1) h.frame_table zeros)
    ∙ ap (λ (z : ℕ × ℕ). with_each_entry e (front ++ range_with_len z.0 z.1) h.frame_table zeros) (sym at.zone_is)
    ∙ ap (λ (ks : List ℕ). with_each_entry e ks h.frame_table zeros) (sym (numbers-take_more h.zones j at.within))

pub returns-clause-fresh : goal.returns-clause-fresh
returns-clause-fresh c =
    let h = c.args.hw.now in
    let told = c.as_slice-start-items in
    let all = all_zones h.zones told.result.now c.loop-start.start-index (told.ensures.pairs ∙ c.zones.ensures.zones) c.loop-start-test.false in
    c.loop-start.invariant
    ∙ ap (λ (zones : List (ℕ × ℕ)). with_each_entry (fresh_entry h) (numbers zones) h.frame_table (replicate (top h.zones) zero_page)) all
    ∙ filled_frames-are_fresh h c.zones.ensures.hardware

pub returns-clause-len : goal.returns-clause-len
returns-clause-len c = ap length c.loop-start.invariant ∙ len_so_far c.args.hw.now (numbers (take c.loop-start.start-index c.args.hw.now.zones)) ∙ sym c.requires
