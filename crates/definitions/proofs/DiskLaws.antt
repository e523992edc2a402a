-- Laws of the content of a disk: which images it has after each call.
use Rattle.std.proofs.Common.{◌≡◌, ℕ, ◌+◌, ◌-◌, ◌*◌, ◌<◌, ◌≤◌, ◌⊎◌, zero, suc, All, List, [], ◌∷◌, length, map, min, take, drop, get_or, Contains, refl, sym, ap, ◌∙◌, inl, inr, subst, arith}
use Rattle.std.proofs.lemmas.List.{length-take, length-drop, get_or-take, get_or-drop, same_lists, get_or_default}
use Rattle.std.proofs.lemmas.List.Elements.{All-head, All-tail}
use Rattle.std.specs.List.{concat}
use Rattle.definitions.specs.Disk.{Sector, no_sector, Content, DiskImage, IsContent, IsImage, IsSector, as_it_reads, settled, sector, block, Syncs, Restarts, Writes, SameOutside}

of_one : (x y : List ℕ) → Contains (x ∷ []) y → y ≡ x
of_one x y (zero, lt, e) = sym e
of_one x y (suc k, lt, e) = absurd (omega arith)

pub as_it_reads-settled : (v : DiskImage) → as_it_reads (settled v) ≡ v
as_it_reads-settled [] = refl
as_it_reads-settled (x ∷ v) = ap (λ (w : DiskImage). x ∷ w) (as_it_reads-settled v)

pub length-settled : (v : DiskImage) → length (settled v) ≡ length v
length-settled [] = refl
length-settled (x ∷ v) = ap suc (length-settled v)

candidates-settled : (v : DiskImage) (s : ℕ) → s < length v → (sector (settled v) s).candidates ≡ get_or v s [] ∷ []
candidates-settled [] s lt = absurd (omega arith)
candidates-settled (x ∷ v) zero lt = refl
candidates-settled (x ∷ v) (suc s) lt = candidates-settled v s (omega arith)

-- the content that a sync or a restart leaves has one image
pub IsImage-settled : (v w : DiskImage) → IsImage (settled v) w → w ≡ v
IsImage-settled v w h =
    let size : length w ≡ length v = h.size ∙ length-settled v in
    same_lists w v size (λ s d lt.
    let inside : s < length (settled v) = omega (arith, length-settled v) in
    let one : Contains (get_or v s [] ∷ []) (get_or w s []) = rw (candidates-settled v s (omega arith)) at (h.chosen s inside) in
    get_or_default w s d [] lt ∙ of_one (get_or v s []) (get_or w s []) one ∙ get_or_default v s [] d (omega arith))

-- after a sync every image is the disk as it read
pub IsImage-after_sync : (old new : Content) (w : DiskImage) → Syncs old new → IsImage new w → w ≡ as_it_reads old
IsImage-after_sync old new w e h = IsImage-settled (as_it_reads old) w (subst (λ (c : Content). IsImage c w) e h)

-- after a restart the disk has one image, one from before
pub IsImage-after_restart : (old new : Content) → Restarts old new → (v : DiskImage) × IsImage old v × ((w : DiskImage) → IsImage new w → w ≡ v)
IsImage-after_restart old new r =
    (r.0, r.1, λ w h. IsImage-settled r.0 w (subst (λ (c : Content). IsImage c w) r.2 h))

pub length-as_it_reads : (c : Content) → length (as_it_reads c) ≡ length c
length-as_it_reads [] = refl
length-as_it_reads (x ∷ c) = ap suc (length-as_it_reads c)

-- the disk as it reads is one of its images
live_in : (c : Content) (s : ℕ) → All IsSector c → s < length c → Contains (sector c s).candidates (get_or (as_it_reads c) s [])
live_in [] s all lt = absurd (omega arith)
live_in (x ∷ c) zero all lt = (All-head IsSector x c all).live
live_in (x ∷ c) (suc s) all lt = live_in c s (All-tail IsSector x c all) (omega arith)

pub IsImage-as_it_reads : (blocks : ℕ) (c : Content) → IsContent blocks c → IsImage c (as_it_reads c)
IsImage-as_it_reads blocks c whole = record {
  size = length-as_it_reads c;
  chosen = λ s lt. live_in c s whole.sectors lt;
}

-- A write leaves the live bytes of the sectors of every other block.
live_at : (c : Content) (s : ℕ) → get_or (as_it_reads c) s [] ≡ (sector c s).live
live_at [] s = refl
live_at (x ∷ c) zero = refl
live_at (x ∷ c) (suc s) = live_at c s

-- blocks whose eight sectors are the same are the same
pub block-same : (v w : DiskImage) (b : ℕ) → length v ≡ length w → ((j : ℕ) → j < 8 → get_or v (8 * b + j) [] ≡ get_or w (8 * b + j) []) → block v b ≡ block w b
unfolding block
block-same v w b size same =
    let part : take 8 (drop (8 * b) v) ≡ take 8 (drop (8 * b) w) =
    same_lists (take 8 (drop (8 * b) v)) (take 8 (drop (8 * b) w))
    (length-take 8 (drop (8 * b) v) ∙ ap (λ (n : ℕ). min 8 n) (length-drop (8 * b) v ∙ ap (λ (n : ℕ). n - 8 * b) size ∙ sym (length-drop (8 * b) w)) ∙ sym (length-take 8 (drop (8 * b) w)))
    (λ j d lt.
    let few : j < 8 = omega (arith, length-take 8 (drop (8 * b) v)) in
    let inside : 8 * b + j < length v = omega (arith, length-take 8 (drop (8 * b) v), length-drop (8 * b) v) in
    get_or-take 8 (drop (8 * b) v) j d few ∙ get_or-drop (8 * b) v j d ∙ get_or_default v (8 * b + j) d [] inside ∙ same j few
    ∙ get_or_default w (8 * b + j) [] d (omega arith) ∙ sym (get_or-take 8 (drop (8 * b) w) j d few ∙ get_or-drop (8 * b) w j d)) in
    ap concat part

sector_other : (b c j : ℕ) (old new : Content) → SameOutside b old new → (c < b) ⊎ (b < c) → j < 8 → sector new (8 * c + j) ≡ sector old (8 * c + j)
sector_other b c j old new same (inl below) few = same.below (8 * c + j) (omega arith)
sector_other b c j old new same (inr above) few = same.above (8 * c + j) (omega arith)

-- a write, failed or not, leaves what a read gives of each other block
pub block-other : (b c : ℕ) (old new : Content) → SameOutside b old new → (c < b) ⊎ (b < c) → block (as_it_reads new) c ≡ block (as_it_reads old) c
block-other b c old new same apart =
    let size : length (as_it_reads new) ≡ length (as_it_reads old) =
    length-as_it_reads new ∙ same.size ∙ sym (length-as_it_reads old) in
    block-same (as_it_reads new) (as_it_reads old) c size (λ j few.
    live_at new (8 * c + j) ∙ ap (λ (s : Sector). s.live) (sector_other b c j old new same apart few) ∙ sym (live_at old (8 * c + j)))
