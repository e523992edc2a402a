-- What a step leaves of block(0).
use Rattle.std.proofs.Common.{◌≡◌, ℕ, List, inl, refl, sym, ap, subst}
use Rattle.definitions.specs.Disk as disk
use Rattle.definitions.specs.SwapHeader.{IsMarked, taken_back}
use Rattle.definitions.proofs.DiskLaws.{IsImage-after_sync, IsImage-as_it_reads, IsImage-settled}
use Rattle.image_laws.specs.ImageBlocks.{Tries}
use Rattle.plain_machine.specs.Machine.{Hardware, block_of_slot}
use Rattle.plain_machine.specs.Chain.{header_of, Marked}
use Rattle.plain_machine.specs.Shows.{WorldView}
use Rattle.plain_machine.specs.State.{State, off, on, booting, hibernating, undoing, settling, waking, loading, asleep}
use Rattle.protocol_laws.specs.Rows.{KeepsHeaderOrTakesBack, AddsNoMark, LeavesHeader}
use Rattle.protocol_laws.proofs.HeaderBack.{IsBefore, each_taken_back}
use Rattle.protocol_laws.proofs.Unmarking.{IsUnmarking, Torn, still, back, torn}

-- where nothing is written
pub header_same : (h : Hardware) (c : disk.Content) → KeepsHeaderOrTakesBack h c c
header_same h c = λ w in'. (w, in', inl refl)

pub marks_same : (h : Hardware) (c : disk.Content) → AddsNoMark h c c
marks_same h c = λ w in' marked. (w, in', refl)

pub left_same : (h : Hardware) (a : State) (c : disk.Content) → LeavesHeader h a c c
left_same h (off held kept) c = tt
left_same h (on a) c = tt
left_same h (booting from dump held k) c = tt
left_same h (hibernating suspends i a k) c = tt
left_same h (undoing i call a k) c = marks_same h c
left_same h (settling a k) c = tt
left_same h (waking i held a k) c = tt
left_same h (loading load k) c = header_same h c
left_same h (asleep i held a) c = tt

-- at a sync
pub header_synced : (h : Hardware) (blocks : ℕ) (c c' : disk.Content) → disk.IsContent blocks c → disk.Syncs c c' → KeepsHeaderOrTakesBack h c c'
header_synced h blocks c c' whole syncs = λ w in'. (disk.as_it_reads c, IsImage-as_it_reads blocks c whole, inl (ap (header_of h) (IsImage-after_sync c c' w syncs in')))

pub marks_synced : (h : Hardware) (blocks : ℕ) (c c' : disk.Content) → disk.IsContent blocks c → disk.Syncs c c' → AddsNoMark h c c'
marks_synced h blocks c c' whole syncs = λ w in' marked. (disk.as_it_reads c, IsImage-as_it_reads blocks c whole, ap (header_of h) (IsImage-after_sync c c' w syncs in'))

-- at a power cut
image_cut : (c c' : disk.Content) (w : disk.DiskImage) → disk.Restarts c c' → disk.IsImage c' w → disk.IsImage c w
image_cut c c' w restarts in' =
    let is : w ≡ restarts.0 = IsImage-settled restarts.0 w (subst (λ (x : disk.Content). disk.IsImage x w) restarts.2 in') in
    subst (disk.IsImage c) (sym is) restarts.1

pub left_cut : (h : Hardware) (a : State) (c c' : disk.Content) → disk.Restarts c c' → LeavesHeader h a c c'
left_cut h (off held kept) c c' restarts = tt
left_cut h (on a) c c' restarts = tt
left_cut h (booting from dump held k) c c' restarts = tt
left_cut h (hibernating suspends i a k) c c' restarts = tt
left_cut h (undoing i call a k) c c' restarts = λ w in' marked. (w, image_cut c c' w restarts in', refl)
left_cut h (settling a k) c c' restarts = tt
left_cut h (waking i held a k) c c' restarts = tt
left_cut h (loading load k) c c' restarts = λ w in'. (w, image_cut c c' w restarts in', inl refl)
left_cut h (asleep i held a) c c' restarts = tt

-- when block(0) is written taken back
pub header_written : (h : Hardware) (shown : WorldView) (c c' : disk.Content) (blocks : ℕ) → IsBefore h shown c blocks → Tries (block_of_slot h 0) (taken_back shown.header) c c' → KeepsHeaderOrTakesBack h c c'
header_written h shown c c' blocks before tries =
    λ w in'. (disk.as_it_reads c, IsImage-as_it_reads blocks c before.content, (each_taken_back h shown c c' blocks w before tries in').header)

torn_mark : (h : Hardware) (page : List ℕ) (c : disk.Content) (blocks : ℕ) (w : disk.DiskImage) → IsUnmarking h page c blocks → Torn h page c w → Marked h w → (v : disk.DiskImage) × disk.IsImage c v × (header_of h w ≡ header_of h v)
torn_mark h page c blocks w un (still was) marked = (w, was, refl)
torn_mark h page c blocks w un (back u in_u same header) marked = absurd (un.unmarked (subst IsMarked header marked))

pub marks_written : (h : Hardware) (page : List ℕ) (c c' : disk.Content) (blocks : ℕ) → IsUnmarking h page c blocks → Tries (block_of_slot h 0) page c c' → AddsNoMark h c c'
marks_written h page c c' blocks un tries = λ w in' marked. torn_mark h page c blocks w un (torn h page c c' blocks w un tries in') marked
