-- What one more recorded call makes of the sectors that a disk keeps.
use Rattle.std.proofs.Common.{◌≡◌, ℕ, ◌+◌, ◌-◌, ◌*◌, ◌<◌, ◌≤◌, ◌⊎◌, suc, Bool, true, false, cond, All, List, [], ◌∷◌, length, take, get_or, Contains, refl, sym, ap, ◌∙◌, inl, inr, subst, arith}
use Rattle.std.proofs.lemmas.List.{ext_get_or, get_or_past}
use Rattle.std.proofs.lemmas.List.Elements.{All-take}
use Rattle.std.proofs.lemmas.List.Sums.{fold_more}
use Rattle.std.specs.List.{fold}
use Rattle.std.proofs.lemmas.Bool.{cases_lt}
use Rattle.definitions.specs.Disk.{Sector, Content, DiskImage, no_sector, sector, as_it_reads, settled, sector_bytes, IsSector, IsContent, SameOutside, Writes, FailsToWrite}
use Rattle.definitions.proofs.DiskLaws.{as_it_reads-settled, length-as_it_reads}
use Rattle.sector_disk.specs.Recorded.{with_live, written, after, held_after, as_synced, page_size, AreKept}
use Rattle.sector_disk.specs.RecordedLaws.{length-written, written-others, written-within, live_at, synced_at, length-as_synced, as_synced-settled, IsContent-fold, IsContent-settled, held_whole, reads_whole, synced_whole}
use Rattle.sector_disk.proofs.Contents.{as_it_reads-content_of, writes, fails_to_write}
use Rattle.sector_disk.specs.Sectors.{content_of, picks, TakesPage, TakesPicked, SameOutsideBlock, SameOutsideRange, AreSectors}
use Rattle.sector_disk.specs.declared.recorded.Recorded.{Recorded}

-- How the disk reads, and what it read at the last sync.

live_within : (t : Bool) (bytes : List ℕ) (x : Sector) → (cond t (with_live bytes x) x).live ≡ cond t bytes x.live
live_within true bytes x = refl
live_within false bytes x = refl

-- two disks that read alike before a write of the same sectors read alike after it
pub reads_written : (takes : ℕ → Bool) (b : ℕ) (page : List ℕ) (c old new : Content) → 8 * b + 8 ≤ length c → as_it_reads old ≡ as_it_reads c → SameOutside b old new →
    ((j : ℕ) → j < 8 → get_or (as_it_reads new) (8 * b + j) [] ≡ cond (takes (8 * b + j)) (sector_bytes page j) (get_or (as_it_reads old) (8 * b + j) [])) →
    as_it_reads new ≡ as_it_reads (written takes b page c)
reads_written takes b page c old new le alike others within =
    let d : Content = written takes b page c in
    let same : (s : ℕ) → (s < 8 * b) ⊎ (8 * b + 8 ≤ s) → get_or (as_it_reads new) s [] ≡ get_or (as_it_reads d) s [] =
    λ s apart.
    live_at new s ∙ ap (λ (x : Sector). x.live) (elim apart [ inl lt ↦ others.below s lt | inr ge ↦ others.above s ge ]) ∙ sym (live_at old s)
    ∙ ap (λ (v : DiskImage). get_or v s []) alike ∙ live_at c s
    ∙ ap (λ (x : Sector). x.live) (elim apart [ inl lt ↦ sym ((written-others takes b page c).below s lt) | inr ge ↦ sym ((written-others takes b page c).above s ge) ])
    ∙ sym (live_at d s) in
    let inside : (j : ℕ) → j < 8 → get_or (as_it_reads new) (8 * b + j) [] ≡ get_or (as_it_reads d) (8 * b + j) [] =
    λ j lt.
    within j lt
    ∙ ap (λ (v : DiskImage). cond (takes (8 * b + j)) (sector_bytes page j) (get_or v (8 * b + j) [])) alike
    ∙ ap (λ (x : List ℕ). cond (takes (8 * b + j)) (sector_bytes page j) x) (live_at c (8 * b + j))
    ∙ sym (live_within (takes (8 * b + j)) (sector_bytes page j) (sector c (8 * b + j)))
    ∙ ap (λ (x : Sector). x.live) (sym (written-within takes b page c j le lt))
    ∙ sym (live_at d (8 * b + j)) in
    ext_get_or [] (as_it_reads new) (as_it_reads d)
    (length-as_it_reads new ∙ others.size ∙ sym (length-as_it_reads old) ∙ ap length alike ∙ length-as_it_reads c ∙ sym (length-written takes b page c) ∙ sym (length-as_it_reads d))
    (λ s lt.
    elim (cases_lt s (8 * b)) [
      | inl below ↦ same s (inl below)
      | inr ge ↦
          elim (cases_lt s (8 * b + 8)) [
            | inl near ↦
                let place : 8 * b + (s - 8 * b) ≡ s = omega arith in
                subst (λ (i : ℕ). get_or (as_it_reads new) i [] ≡ get_or (as_it_reads d) i []) place (inside (s - 8 * b) (omega arith))
            | inr above ↦ same s (inr above)
          ]
    ])

oldest_with_live : (bytes : List ℕ) (xs : List (List ℕ)) (y : List ℕ) → Contains xs y → get_or (bytes ∷ xs) (length (bytes ∷ xs) - 1) [] ≡ get_or xs (length xs - 1) []
oldest_with_live bytes [] y (k, lt, e) = absurd (omega arith)
oldest_with_live bytes (x ∷ xs) y h =
    let last : length (bytes ∷ x ∷ xs) - 1 ≡ suc (length xs) = omega arith in
    let before : length xs ≡ length (x ∷ xs) - 1 = omega arith in
    ap (λ (k : ℕ). get_or (bytes ∷ x ∷ xs) k []) last ∙ ap (λ (k : ℕ). get_or (x ∷ xs) k []) before

oldest_within : (t : Bool) (bytes : List ℕ) (x : Sector) → IsSector x →
    get_or (cond t (with_live bytes x) x).candidates (length (cond t (with_live bytes x) x).candidates - 1) [] ≡ get_or x.candidates (length x.candidates - 1) []
oldest_within true bytes x whole = oldest_with_live bytes x.candidates x.live whole.live
oldest_within false bytes x whole = refl

-- a write leaves the oldest candidates
pub synced_written : (blocks : ℕ) (takes : ℕ → Bool) (b : ℕ) (page : List ℕ) (c : Content) → IsContent blocks c → 8 * b + 8 ≤ length c → as_synced (written takes b page c) ≡ as_synced c
synced_written blocks takes b page c whole le =
    let d : Content = written takes b page c in
    let along_sector : (s : ℕ) → sector d s ≡ sector c s → get_or (as_synced d) s [] ≡ get_or (as_synced c) s [] =
    λ s e. synced_at d s ∙ ap (λ (x : Sector). get_or x.candidates (length x.candidates - 1) []) e ∙ sym (synced_at c s) in
    let inside : (j : ℕ) → j < 8 → get_or (as_synced d) (8 * b + j) [] ≡ get_or (as_synced c) (8 * b + j) [] =
    λ j lt.
    synced_at d (8 * b + j)
    ∙ ap (λ (x : Sector). get_or x.candidates (length x.candidates - 1) []) (written-within takes b page c j le lt)
    ∙ oldest_within (takes (8 * b + j)) (sector_bytes page j) (sector c (8 * b + j)) (whole.sectors (8 * b + j) no_sector (omega arith))
    ∙ sym (synced_at c (8 * b + j)) in
    ext_get_or [] (as_synced d) (as_synced c) (length-as_synced d ∙ length-written takes b page c ∙ sym (length-as_synced c))
    (λ s lt.
    elim (cases_lt s (8 * b)) [
      | inl below ↦ along_sector s ((written-others takes b page c).below s below)
      | inr ge ↦
          elim (cases_lt s (8 * b + 8)) [
            | inl near ↦
                let place : 8 * b + (s - 8 * b) ≡ s = omega arith in
                subst (λ (i : ℕ). get_or (as_synced d) i [] ≡ get_or (as_synced c) i []) place (inside (s - 8 * b) (omega arith))
            | inr above ↦ along_sector s ((written-others takes b page c).above s above)
          ]
    ])

-- the live sectors of a disk with this content, after a write
pub live_written : (b : ℕ) (page : List ℕ) (c : Content) (durable live kept_durable kept_live : DiskImage) → length durable ≡ length live → length kept_durable ≡ length kept_live → 8 * b + 8 ≤ length c →
    live ≡ as_it_reads c → Writes b page (content_of durable live) (content_of kept_durable kept_live) → kept_live ≡ as_it_reads (written (λ s. true) b page c)
live_written b page c durable live kept_durable kept_live n m le reads wrote =
    sym (as_it_reads-content_of kept_durable kept_live m)
    ∙ reads_written (λ s. true) b page c (content_of durable live) (content_of kept_durable kept_live) le (as_it_reads-content_of durable live n ∙ reads) wrote.others
    (λ j lt. live_at (content_of kept_durable kept_live) (8 * b + j) ∙ (wrote.within j lt).live)

pub live_failed : (b : ℕ) (page : List ℕ) (pick : ℕ) (c : Content) (durable live kept_durable kept_live : DiskImage) → length durable ≡ length live → length kept_durable ≡ length kept_live → 8 * b + 8 ≤ length c →
    live ≡ as_it_reads c → FailsToWrite b page (content_of durable live) (content_of kept_durable kept_live) → TakesPicked pick b page live kept_live → kept_live ≡ as_it_reads (written (picks pick) b page c)
live_failed b page pick c durable live kept_durable kept_live n m le reads wrote picked =
    sym (as_it_reads-content_of kept_durable kept_live m)
    ∙ reads_written (picks pick) b page c (content_of durable live) (content_of kept_durable kept_live) le (as_it_reads-content_of durable live n ∙ reads) wrote.others
    (λ j lt.
    ap (λ (v : DiskImage). get_or v (8 * b + j) []) (as_it_reads-content_of kept_durable kept_live m)
    ∙ picked j lt
    ∙ ap (λ (v : DiskImage). cond (picks pick (8 * b + j)) (sector_bytes page j) (get_or v (8 * b + j) [])) (sym (as_it_reads-content_of durable live n)))

-- What is done once more.

length_kept : (c : Content) (durable live : DiskImage) → AreKept c durable live → length live ≡ length c
length_kept c durable live kept = ap length kept.live_is ∙ length-as_it_reads c

pub redo_write : (blocks b : ℕ) (page : List ℕ) (c : Content) (durable live new : DiskImage) → length durable ≡ length live → 8 * (b + 1) ≤ length live → SameOutsideBlock b live new → TakesPage b page new →
    IsContent blocks c → AreKept c durable live → AreKept (written (λ s. true) b page c) durable new
redo_write blocks b page c durable live new n le others within whole kept =
    let inside : 8 * b + 8 ≤ length live = omega arith in
    let held : 8 * b + 8 ≤ length c = omega (arith, length_kept c durable live kept) in
    record {
      live_is = live_written b page c durable live durable new n (n ∙ sym others.size) held kept.live_is (writes durable live new b page n inside others within);
      durable_is = kept.durable_is ∙ sym (synced_written blocks (λ s. true) b page c whole held);
    }

pub redo_failed_write : (blocks b : ℕ) (page : List ℕ) (pick : ℕ) (c : Content) (durable live new : DiskImage) → length durable ≡ length live → 8 * (b + 1) ≤ length live → SameOutsideBlock b live new → TakesPicked pick b page live new →
    IsContent blocks c → AreKept c durable live → AreKept (written (picks pick) b page c) durable new
redo_failed_write blocks b page pick c durable live new n le others within whole kept =
    let inside : 8 * b + 8 ≤ length live = omega arith in
    let held : 8 * b + 8 ≤ length c = omega (arith, length_kept c durable live kept) in
    record {
      live_is = live_failed b page pick c durable live durable new n (n ∙ sym others.size) held kept.live_is (fails_to_write durable live new b pick page n inside others within) within;
      durable_is = kept.durable_is ∙ sym (synced_written blocks (picks pick) b page c whole held);
    }

pub redo_sync : (c : Content) (durable live new : DiskImage) → new ≡ live → AreKept c durable live → AreKept (settled (as_it_reads c)) new live
redo_sync c durable live new e kept = record {
  live_is = kept.live_is ∙ sym (as_it_reads-settled (as_it_reads c));
  durable_is = e ∙ kept.live_is ∙ sym (as_synced-settled (as_it_reads c));
}

-- one call more is done again
pub kept_more : (blocks : ℕ) (c : Content) (log : List Recorded) (i : ℕ) (r : Recorded) (durable live new_durable new_live : DiskImage) → i < length log → r ≡ get_or log i r →
    IsContent blocks c → All (λ q. page_size q ≡ 4096) log → AreKept (fold after c (take i log)) durable live →
    ((n : ℕ) (d : Content) → IsContent n d → AreKept d durable live → AreKept (after d r) new_durable new_live) → AreKept (fold after c (take (i + 1) log)) new_durable new_live
kept_more blocks c log i r durable live new_durable new_live lt e whole sizes kept more =
    let before : IsContent blocks (fold after c (take i log)) = IsContent-fold blocks c (take i log) (All-take (λ q. page_size q ≡ 4096) i log sizes) whole in
    let step : fold after c (take (i + 1) log) ≡ after (fold after c (take i log)) r = fold_more after c log i r lt ∙ ap (after (fold after c (take i log))) (sym e) in
    subst (λ (d : Content). AreKept d new_durable new_live) (sym step) (more blocks (fold after c (take i log)) before kept)

-- before the first call
pub kept_new : (start durable live : DiskImage) → durable ≡ start → live ≡ start → AreKept (settled start) durable live
kept_new start durable live d l = record {
  live_is = l ∙ sym (as_it_reads-settled start);
  durable_is = d ∙ sym (as_synced-settled start);
}

-- What is kept if slices were lent: `seen` is what they held, and `kept` is what the vectors hold then.
pub kept_lent : (blocks : ℕ) (start : DiskImage) (log : List Recorded) (seen_durable seen_live durable live kept_durable kept_live : DiskImage) → AreSectors (8 * blocks) start → All (λ q. page_size q ≡ 4096) log →
    seen_durable ≡ start → seen_live ≡ start → kept_durable ≡ durable → kept_live ≡ live →
    ((n : ℕ) (c : Content) → IsContent n c → All (λ q. page_size q ≡ 4096) log → AreKept c seen_durable seen_live → AreKept (fold after c log) durable live) → AreKept (held_after start log) kept_durable kept_live
kept_lent blocks start log seen_durable seen_live durable live kept_durable kept_live whole sizes sd sl kd kl redone =
    let kept = redone blocks (settled start) (IsContent-settled blocks start whole) sizes (kept_new start seen_durable seen_live sd sl) in
    record { live_is = kl ∙ kept.live_is; durable_is = kd ∙ kept.durable_is }

pub durable_kept_whole : (blocks : ℕ) (start : DiskImage) (log : List Recorded) (durable live : DiskImage) → AreSectors (8 * blocks) start → All (λ q. page_size q ≡ 4096) log → AreKept (held_after start log) durable live → AreSectors (8 * blocks) durable
durable_kept_whole blocks start log durable live whole sizes kept =
    subst (AreSectors (8 * blocks)) (sym kept.durable_is) (synced_whole blocks (held_after start log) (held_whole blocks start log whole sizes))

pub live_kept_whole : (blocks : ℕ) (start : DiskImage) (log : List Recorded) (durable live : DiskImage) → AreSectors (8 * blocks) start → All (λ q. page_size q ≡ 4096) log → AreKept (held_after start log) durable live → AreSectors (8 * blocks) live
live_kept_whole blocks start log durable live whole sizes kept =
    subst (AreSectors (8 * blocks)) (sym kept.live_is) (reads_whole blocks (held_after start log) (held_whole blocks start log whole sizes))

-- there is nothing outside of the whole range
pub outside_nothing : (high : ℕ) (durable live kept_durable kept_live : DiskImage) → kept_durable ≡ durable → kept_live ≡ live → length durable ≤ high → length live ≤ high → SameOutsideRange 0 high kept_durable kept_live
outside_nothing high durable live kept_durable kept_live kd kl d l = record {
  below = λ s lt. absurd (omega arith);
  above = λ s ge. get_or_past kept_durable s [] (omega (arith, ap length kd)) ∙ sym (get_or_past kept_live s [] (omega (arith, ap length kl)));
}
