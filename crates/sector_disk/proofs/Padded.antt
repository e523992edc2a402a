-- Sectors that begin with the kept ones and go on with zeros.
use Rattle.std.proofs.Common.{◌≡◌, ℕ, Bool, true, false, cond, All, ◌+◌, ◌-◌, ◌*◌, ◌<◌, ◌≤◌, List, [], ◌++◌, length, get_or, take, drop, length-drop, replicate, refl, sym, ap, ◌∙◌, inl, inr, subst, arith}
use Rattle.std.specs.List.{concat}
use Rattle.std.proofs.lemmas.List.{append_assoc, append-nil, length-append, length-replicate, replicate-append-replicate, get_or_append_left, get_or-append_right, take-append-le, drop-append-le, length-take-le, get_or-take, get_or-drop, get_or-replicate, ext_get_or}
use Rattle.std.proofs.lemmas.Bool.{cases_lt}
use Rattle.std.proofs.lemmas.Grind.{common_steps}
use Rattle.definitions.specs.Disk.{DiskImage, as_it_reads, block, Writes, FailsToWrite, sector_bytes}
use Rattle.sector_disk.specs.Sectors.{zero_sector, padded, content_of, picks, IsPicked, TakesPage, TakesPicked, SameOutsideBlock, AreSectors}
use Rattle.sector_disk.specs.MemDisk.{durable_sectors, live_sectors}
use Rattle.sector_disk.specs.declared.mem_disk.MemDisk.{MemDisk}
use Rattle.sector_disk.specs.ContentLaws.{length-padded}
use Rattle.sector_disk.specs.Recorded.{AreKept, held_after, page_size}
use Rattle.sector_disk.specs.declared.recorded.Recorded.{Recorded}
use Rattle.sector_disk.proofs.Recordings.{durable_kept_whole, live_kept_whole}
use Rattle.sector_disk.proofs.Contents.{writes, fails_to_write, block-content_of}

-- a sector that is kept
pub get_or-padded : (count : ℕ) (kept : DiskImage) (s : ℕ) → s < length kept → get_or (padded count kept) s [] ≡ get_or kept s []
unfolding padded
get_or-padded count kept s lt = get_or_append_left kept (replicate (count - length kept) zero_sector) [] s lt

-- a sector that isn't kept
pub get_or-beyond : (count : ℕ) (kept : DiskImage) (s : ℕ) → length kept ≤ s → get_or (padded count kept) s [] ≡ get_or (replicate (count - length kept) zero_sector) (s - length kept) []
unfolding padded
get_or-beyond count kept s le = get_or-append_right kept (replicate (count - length kept) zero_sector) (length kept) s [] refl le

-- where as many are kept of both, those that aren't are the same
pub beyond_same : (count : ℕ) (xs ys : DiskImage) (s : ℕ) → length xs ≡ length ys → length xs ≤ s → get_or (padded count xs) s [] ≡ get_or (padded count ys) s []
beyond_same count xs ys s n le =
    get_or-beyond count xs s le
    ∙ ap (λ (k : ℕ). get_or (replicate (count - k) zero_sector) (s - k) []) n
    ∙ sym (get_or-beyond count ys s (omega (arith, n)))

pub padded_same : (count : ℕ) (xs ys : DiskImage) (s : ℕ) → length xs ≡ length ys → get_or xs s [] ≡ get_or ys s [] → get_or (padded count xs) s [] ≡ get_or (padded count ys) s []
padded_same count xs ys s n e =
    elim (cases_lt s (length xs)) [
      | inl lt ↦ get_or-padded count xs s lt ∙ e ∙ sym (get_or-padded count ys s (omega (arith, n)))
      | inr ge ↦ beyond_same count xs ys s n ge
    ]

-- zeros that are kept from now on
pub padded_filled : (count more : ℕ) (kept : DiskImage) → length kept + more ≤ count → padded count (kept ++ replicate more zero_sector) ≡ padded count kept
unfolding padded
padded_filled count more kept le =
    let long : length (kept ++ replicate more zero_sector) ≡ length kept + more = length-append kept (replicate more zero_sector) ∙ ap (λ k. length kept + k) (length-replicate more zero_sector) in
    let left : more + (count - length (kept ++ replicate more zero_sector)) ≡ count - length kept = omega (arith, long) in
    append_assoc kept (replicate more zero_sector) (replicate (count - length (kept ++ replicate more zero_sector)) zero_sector)
    ∙ ap (λ zs. kept ++ zs) (replicate-append-replicate more (count - length (kept ++ replicate more zero_sector)) zero_sector ∙ ap (λ k. replicate k zero_sector) left)

-- nothing is kept, or all
pub padded_none : (count : ℕ) (kept : DiskImage) → kept ≡ [] → padded count kept ≡ replicate count zero_sector
unfolding padded
padded_none count kept e =
    let all : count - 0 ≡ count = omega arith in
    ap (λ (xs : DiskImage). xs ++ replicate (count - length xs) zero_sector) e ∙ ap (λ k. replicate k zero_sector) all

pub padded_full : (count : ℕ) (kept : DiskImage) → length kept ≡ count → padded count kept ≡ kept
unfolding padded
padded_full count kept n =
    let none : count - length kept ≡ 0 = omega (arith, n) in
    ap (λ k. kept ++ replicate k zero_sector) none ∙ append-nil kept

-- a block that is kept, and one that isn't
pub block_kept : (count b : ℕ) (kept : DiskImage) → 8 * b + 8 ≤ length kept → take 8 (drop (8 * b) (padded count kept)) ≡ take 8 (drop (8 * b) kept)
unfolding padded
block_kept count b kept le =
    ap (take 8) (drop-append-le (8 * b) kept (replicate (count - length kept) zero_sector) (omega arith))
    ∙ take-append-le 8 (drop (8 * b) kept) (replicate (count - length kept) zero_sector) (grind (arith, common_steps))

pub block_beyond : (count b : ℕ) (kept : DiskImage) → length kept ≤ 8 * b → 8 * b + 8 ≤ count → take 8 (drop (8 * b) (padded count kept)) ≡ replicate 8 zero_sector
unfolding padded
block_beyond count b kept le inside =
    let zeros : DiskImage = replicate (count - length kept) zero_sector in
    let long : length (kept ++ zeros) ≡ count = length-append kept zeros ∙ omega (arith, length-replicate (count - length kept) zero_sector) in
    ext_get_or [] (take 8 (drop (8 * b) (kept ++ zeros))) (replicate 8 zero_sector)
    (length-take-le 8 (drop (8 * b) (kept ++ zeros)) (omega (arith, long, length-drop (8 * b) (kept ++ zeros))) ∙ sym (length-replicate 8 zero_sector))
    (λ s below.
    let lt : s < 8 = omega (arith, length-take-le 8 (drop (8 * b) (kept ++ zeros)) (omega (arith, long, length-drop (8 * b) (kept ++ zeros)))) in
    get_or-take 8 (drop (8 * b) (kept ++ zeros)) s [] lt
    ∙ get_or-drop (8 * b) (kept ++ zeros) s []
    ∙ get_or-append_right kept zeros (length kept) (8 * b + s) [] refl (omega arith)
    ∙ get_or-replicate (count - length kept) (8 * b + s - length kept) zero_sector [] (omega arith)
    ∙ sym (get_or-replicate 8 s zero_sector [] lt))

-- a write to a block that is kept
pub same_outside_block_padded : (count b : ℕ) (old new : DiskImage) → length old ≤ count → SameOutsideBlock b old new → SameOutsideBlock b (padded count old) (padded count new)
same_outside_block_padded count b old new le others = record {
  size = length-padded count new (omega (arith, others.size)) ∙ sym (length-padded count old le);
  below = λ s lt. padded_same count new old s others.size (others.below s lt);
  above = λ s ge. padded_same count new old s others.size (others.above s ge);
}

pub takes_page_padded : (count b : ℕ) (page : List ℕ) (new : DiskImage) → 8 * b + 8 ≤ length new → TakesPage b page new → TakesPage b page (padded count new)
takes_page_padded count b page new le within j lt = get_or-padded count new (8 * b + j) (omega arith) ∙ within j lt

pub takes_picked_padded : (count pick b : ℕ) (page : List ℕ) (old new : DiskImage) → length new ≡ length old → 8 * b + 8 ≤ length old → TakesPicked pick b page old new → TakesPicked pick b page (padded count old) (padded count new)
takes_picked_padded count pick b page old new n le within j lt =
    get_or-padded count new (8 * b + j) (omega (arith, n))
    ∙ within j lt
    ∙ ap (λ y. cond (picks pick (8 * b + j)) (sector_bytes page j) y) (sym (get_or-padded count old (8 * b + j) (omega arith)))

-- a choice of each sector
either_same : (t : Bool) (x : List ℕ) → x ≡ cond t x x
either_same true x = refl
either_same false x = refl

pub is_picked_padded : (count pick : ℕ) (old new image : DiskImage) → length old ≡ length new → length old ≤ count → IsPicked pick old new image → IsPicked pick (padded count old) (padded count new) (padded count image)
is_picked_padded count pick old new image n le picked =
    record {
      size = length-padded count image (omega (arith, picked.size)) ∙ sym (length-padded count old le);
      each = λ s lt.
          elim (cases_lt s (length image)) [
            | inl below ↦
                get_or-padded count image s below
                ∙ picked.each s below
                ∙ ap (λ x. cond (picks pick (0 + s)) x (get_or old s [])) (sym (get_or-padded count new s (omega (arith, n, picked.size))))
                ∙ ap (λ y. cond (picks pick (0 + s)) (get_or (padded count new) s []) y) (sym (get_or-padded count old s (omega (arith, picked.size))))
            | inr beyond ↦
                beyond_same count image old s picked.size beyond
                ∙ either_same (picks pick (0 + s)) (get_or (padded count old) s [])
                ∙ ap (λ x. cond (picks pick (0 + s)) x (get_or (padded count old) s [])) (beyond_same count old new s n (omega (arith, picked.size)))
          ];
    }

-- What a disk in memory that keeps its first sectors makes of its content. `seen` is what a slice of them held, `kept` what
-- the vector holds afterwards, and the images are those before.
pub writes_first : (count b : ℕ) (page : List ℕ) (durable live seen new kept : DiskImage) (durable_image live_image : DiskImage) → seen ≡ live → kept ≡ new → length durable ≡ length live → length live ≤ count → 8 * b + 8 ≤ length live →
    padded count durable ≡ durable_image → padded count live ≡ live_image → SameOutsideBlock b seen new → TakesPage b page new →
    Writes b page (content_of durable_image live_image) (content_of (padded count durable) (padded count kept))
writes_first count b page durable live seen new kept durable_image live_image e k n inside le di li others within =
    let same = subst (λ (xs : DiskImage). SameOutsideBlock b xs new) e others in
    subst (λ (xs : DiskImage). Writes b page (content_of xs live_image) (content_of (padded count durable) (padded count kept))) di
    (subst (λ (xs : DiskImage). Writes b page (content_of (padded count durable) xs) (content_of (padded count durable) (padded count kept))) li
    (subst (λ (xs : DiskImage). Writes b page (content_of (padded count durable) (padded count live)) (content_of (padded count durable) (padded count xs))) (sym k)
    (writes (padded count durable) (padded count live) (padded count new) b page
    (length-padded count durable (omega (arith, n)) ∙ sym (length-padded count live inside))
    (omega (arith, length-padded count live inside))
    (same_outside_block_padded count b live new inside same)
    (takes_page_padded count b page new (omega (arith, same.size)) within))))

pub fails_first : (count pick b : ℕ) (page : List ℕ) (durable live seen new kept : DiskImage) (durable_image live_image : DiskImage) → seen ≡ live → kept ≡ new → length durable ≡ length live → length live ≤ count → 8 * b + 8 ≤ length live →
    padded count durable ≡ durable_image → padded count live ≡ live_image → SameOutsideBlock b seen new → TakesPicked pick b page seen new →
    FailsToWrite b page (content_of durable_image live_image) (content_of (padded count durable) (padded count kept))
fails_first count pick b page durable live seen new kept durable_image live_image e k n inside le di li others within =
    let same = subst (λ (xs : DiskImage). SameOutsideBlock b xs new) e others in
    let taken = subst (λ (xs : DiskImage). TakesPicked pick b page xs new) e within in
    subst (λ (xs : DiskImage). FailsToWrite b page (content_of xs live_image) (content_of (padded count durable) (padded count kept))) di
    (subst (λ (xs : DiskImage). FailsToWrite b page (content_of (padded count durable) xs) (content_of (padded count durable) (padded count kept))) li
    (subst (λ (xs : DiskImage). FailsToWrite b page (content_of (padded count durable) (padded count live)) (content_of (padded count durable) (padded count xs))) (sym k)
    (fails_to_write (padded count durable) (padded count live) (padded count new) b pick page
    (length-padded count durable (omega (arith, n)) ∙ sym (length-padded count live inside))
    (omega (arith, length-padded count live inside))
    (same_outside_block_padded count b live new inside same)
    (takes_picked_padded count pick b page live new same.size le taken))))

pub picked_first : (count pick b : ℕ) (page : List ℕ) (live seen new kept : DiskImage) (live_image : DiskImage) → seen ≡ live → kept ≡ new → length new ≡ length seen → 8 * b + 8 ≤ length live → padded count live ≡ live_image →
    TakesPicked pick b page seen new → TakesPicked pick b page live_image (padded count kept)
picked_first count pick b page live seen new kept live_image e k n le li within =
    subst (λ (xs : DiskImage). TakesPicked pick b page xs (padded count kept)) li
    (subst (λ (xs : DiskImage). TakesPicked pick b page (padded count live) (padded count xs)) (sym k)
    (takes_picked_padded count pick b page live new (n ∙ ap length e) le (subst (λ (xs : DiskImage). TakesPicked pick b page xs new) e within)))

pub picks_first : (count pick : ℕ) (durable live seen_durable seen_live new kept : DiskImage) → seen_durable ≡ durable → seen_live ≡ live → kept ≡ new → length durable ≡ length live → length live ≤ count →
    IsPicked pick seen_durable seen_live new → IsPicked pick (padded count durable) (padded count live) (padded count kept)
picks_first count pick durable live seen_durable seen_live new kept ed el k n le picked =
    subst (λ (xs : DiskImage). IsPicked pick (padded count durable) (padded count live) (padded count xs)) (sym k)
    (is_picked_padded count pick durable live new n (omega (arith, n))
    (subst (λ (xs : DiskImage). IsPicked pick xs live new) ed (subst (λ (xs : DiskImage). IsPicked pick seen_durable xs new) el picked)))

-- a block of zeros
pub block_of_zeros : (count b : ℕ) (durable live : DiskImage) → length durable ≡ length live → length live ≤ count → length live ≤ 8 * b → 8 * b + 8 ≤ count →
    concat (replicate 8 zero_sector) ≡ block (as_it_reads (content_of (padded count durable) (padded count live))) b
block_of_zeros count b durable live n inside beyond le =
    ap concat (sym (block_beyond count b live beyond le))
    ∙ sym (block-content_of (padded count durable) (padded count live) b (length-padded count durable (omega (arith, n)) ∙ sym (length-padded count live inside)))

pub block_first : (count b : ℕ) (durable live part : DiskImage) → length durable ≡ length live → length live ≤ count → 8 * b + 8 ≤ length live → part ≡ take (8 * b + 8 - 8 * b) (drop (8 * b) live) →
    concat part ≡ block (as_it_reads (content_of (padded count durable) (padded count live))) b
block_first count b durable live part n inside le e =
    let width : 8 * b + 8 - 8 * b ≡ 8 = omega arith in
    ap concat (e ∙ ap (λ k. take k (drop (8 * b) live)) width ∙ sym (block_kept count b live le))
    ∙ sym (block-content_of (padded count durable) (padded count live) b (length-padded count durable (omega (arith, n)) ∙ sym (length-padded count live inside)))

-- all is kept
pub all_kept_of : (blocks n : ℕ) (start : DiskImage) (log : List Recorded) (durable live : DiskImage) → n ≡ blocks → AreSectors (8 * blocks) start → All (λ r. page_size r ≡ 4096) log → AreKept (held_after start log) durable live →
    AreKept (held_after start log) (padded (8 * n) durable) (padded (8 * n) live)
all_kept_of blocks n start log durable live e whole sizes kept = record {
  live_is = padded_full (8 * n) live ((live_kept_whole blocks start log durable live whole sizes kept).size ∙ ap (λ k. 8 * k) (sym e)) ∙ kept.live_is;
  durable_is = padded_full (8 * n) durable ((durable_kept_whole blocks start log durable live whole sizes kept).size ∙ ap (λ k. 8 * k) (sym e)) ∙ kept.durable_is;
}

-- sectors that are the first ones and then zeros
pub is_padded : (count : ℕ) (kept image : DiskImage) → length image ≡ count → length kept ≤ count → ((i : ℕ) → i < length kept → get_or image i [] ≡ get_or kept i []) →
    ((i : ℕ) → length kept ≤ i → i < count → get_or image i [] ≡ zero_sector) → image ≡ padded count kept
is_padded count kept image n le first zeros =
    ext_get_or [] image (padded count kept) (n ∙ sym (length-padded count kept le))
    (λ i below.
    elim (cases_lt i (length kept)) [
      | inl lt ↦ first i lt ∙ sym (get_or-padded count kept i lt)
      | inr ge ↦
          zeros i ge (omega (arith, n))
          ∙ sym (get_or-replicate (count - length kept) (i - length kept) zero_sector [] (omega (arith, n)))
          ∙ sym (get_or-beyond count kept i ge)
    ])

-- as many sectors are durable as live
pub same_size : (d : MemDisk) → length (durable_sectors d) ≡ length (live_sectors d)
same_size d = length-padded (8 * d.blocks) d.durable.items (omega (arith, d.same_length, d.within)) ∙ sym (length-padded (8 * d.blocks) d.live.items d.within)
