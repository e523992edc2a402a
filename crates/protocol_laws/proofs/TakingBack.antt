-- Block(0) taken back, and the sync after it.
use Rattle.std.proofs.Common.{◌≡◌, ℕ, ◌+◌, ◌/◌, ◌≤◌, ◌⊎◌, inl, inr, List, sym, ap, ap₂, ◌∙◌, subst, arith}
use Rattle.definitions.specs.Disk as disk
use Rattle.definitions.specs.SwapHeader.{IsMarked, taken_back}
use Rattle.definitions.proofs.DiskLaws.{IsImage-after_sync, IsImage-as_it_reads}
use Rattle.image_format.specs.AreaKind.{area_kind}
use Rattle.plain_machine.specs.Machine.{Hardware, Memory, block_of_slot}
use Rattle.plain_machine.specs.Chain.{blocks_of, Marked, Holds}
use Rattle.plain_machine.specs.Image.{Image}
use Rattle.plain_machine.specs.Shows.{WorldView}
use Rattle.plain_machine.specs.Stands.{Stands, IsBeforeLoad, IsHeader, IsHeld, IsOwn, FitsArea, IsSameOrTakenBack}
use Rattle.plain_machine.specs.State.{loading, nothing, sure, maybe, own, Load, held_while_loading, held_loading}
use Rattle.plain_machine.proofs.Calls.{load_call-late}
use Rattle.plain_machine.specs.UsableArea.{area_block, area_fault, bad_set_fault, kind_or_fit_fault}
use Rattle.image_laws.specs.ImageBlocks.{Tries}
use Rattle.protocol_laws.specs.Loads.{ShowsLoad}
use Rattle.protocol_laws.specs.Resuming.{with_found, BackSyncFails, BackSyncs, ReadsPage, TakeBackFails, TakesBack}
use Rattle.protocol_laws.proofs.Same.{header_kept, by_sync}
use Rattle.protocol_laws.proofs.Finding.{own_isn't_other, same_own}
use Rattle.protocol_laws.proofs.HeaderBack.{IsBefore, is_before, TornBack, still, back, torn_back, header_back, area_back, still_header, each_taken_back, reads_unmarked}

-- Before block(0) is taken back: one image, which is marked and holds the image; the world keeps its block(0).
there : (h : Hardware) (shown : WorldView) (c : disk.Content) (blocks : ℕ) (load : Load) (i : Image) → disk.IsContent blocks c → Stands h shown c (loading (with_found load i) 2) → Holds h (disk.as_it_reads c) i × IsOwn h (disk.as_it_reads c) i
there h shown c blocks load i whole stands = stands.parts.held (disk.as_it_reads c) (IsImage-as_it_reads blocks c whole)

before_back : (h : Hardware) (shown : WorldView) (c : disk.Content) (blocks : ℕ) (load : Load) (i : Image) → disk.IsContent blocks c → Stands h shown c (loading (with_found load i) 2) → IsBefore h shown c blocks
before_back h shown c blocks load i whole stands =
    is_before h shown c blocks whole stands.parts.before.one stands.parts.before.header (there h shown c blocks load i whole stands).0.marked stands.parts.header

pub fits_by_area : (h : Hardware) (m : Memory) (v w : disk.DiskImage) → blocks_of v ≡ blocks_of w → area_block h v ≡ area_block h w → FitsArea h w m → FitsArea h v m
unfolding area_fault
fits_by_area h m v w blocks page fits = record {
  area = ap₂ (λ (n : ℕ) (p : List ℕ). kind_or_fit_fault h n (area_kind p)) blocks page ∙ fits.area;
  bad_slots = ap (λ (p : List ℕ). bad_set_fault h m (area_kind p)) page ∙ fits.bad_slots;
}

pub own_back : (h : Hardware) (i : Image) (v w : disk.DiskImage) → blocks_of v ≡ blocks_of w → area_block h v ≡ area_block h w → (Marked h v → ⊥) → IsOwn h w i → IsOwn h v i
own_back h i v w blocks page unmarked own_is =
    let m = own_is.of_memory.1 in
    record {
      of_memory = (own_is.of_memory.0, record { fits = m.fits; task_slots = m.task_slots; fits_area = fits_by_area h own_is.of_memory.0 v w blocks page m.fits_area; image = m.image });
      signature = λ marked. absurd (unmarked marked);
    }

held_back : (h : Hardware) (shown : WorldView) (c : disk.Content) (blocks : ℕ) (i : Image) (v : disk.DiskImage) → IsBefore h shown c blocks → IsHeld h c (sure (own i)) → TornBack h shown c v → ((Marked h v → ⊥) ⊎ Holds h v i) × IsOwn h v i
held_back h shown c blocks i v before held (still was) = let it = held v was in (inr it.0, it.1)
held_back h shown c blocks i v before held (back w in_w same taken) =
    let header = header_back h shown c blocks v w before in_w same taken in
    let never : Marked h v → ⊥ = λ m. before.back_unmarked (subst IsMarked header m) in
    let page : area_block h v ≡ area_block h w = area_back h shown c blocks v before (back w in_w same taken) ∙ sym (area_back h shown c blocks w before (still in_w)) in
    (inl never, own_back h i v w (ap (λ (n : ℕ). n / 8) same.size) page never (held w in_w).1)

-- the parts of a resume that has tried to take block(0) back
stands_off : (h : Hardware) (shown : WorldView) (c c' : disk.Content) (blocks : ℕ) (load : Load) (i : Image) → disk.IsContent blocks c → disk.IsContent blocks c' → Stands h shown c (loading (with_found load i) 2) → Tries (block_of_slot h 0) (taken_back shown.header) c c' → IsHeld h c' (maybe (own i)) × IsHeader h c'
stands_off h shown c c' blocks load i whole after stands tries =
    let before = before_back h shown c blocks load i whole stands in (
      (λ v in'. held_back h shown c blocks i v before stands.parts.held (torn_back h shown c c' blocks v before tries in')),
      still_header h shown c c' blocks before after tries,
    )

pub takes_back : TakesBack
takes_back h shown shown' c c' blocks load i hw whole after stands writes shows =
    let before = before_back h shown c blocks load i whole stands in
    let held = there h shown c blocks load i whole stands in
    let v = disk.as_it_reads c in
    let off_with = stands_off h shown c c' blocks load i whole after stands (inl writes) in
    record {
      activity = shows.activity;
      parts = record {
        held = off_with.0;
        header = off_with.1;
        resume = record {
          shows = shows.shows;
          fits = stands.parts.resume.fits;
          found = λ le. tt;
          own = λ j e.
              let is = same_own i j e in
              (v, subst (Holds h v) is held.0, subst (IsOwn h v) is held.1, λ w in'. each_taken_back h shown c c' blocks w before (inl writes) in');
          others = λ w e. absurd (own_isn't_other i w e);
          taken_back = λ le. absurd (omega arith);
        };
        before = reads_unmarked h shown c c' blocks before after writes;
      };
    }

-- where the write fails the machine is off, and the image is there or not
pub take_back_fails : TakeBackFails
take_back_fails h shown shown' c c' blocks load i hw whole after stands fails activity kept =
    let off_with = stands_off h shown c c' blocks load i whole after stands (inr fails) in
    record { activity = activity; parts = record { memory = kept; held = off_with.0; header = off_with.1 } }

-- The sync: no image is marked any more. It doesn't matter whose the image was.
pub unmarked_synced : (h : Hardware) (shown shown' : WorldView) (c c' : disk.Content) (blocks : ℕ) (load : Load) → disk.IsContent blocks c → Stands h shown c (loading load 3) → disk.Syncs c c' → ShowsLoad h shown' load 4 → Stands h shown' c' (loading load 4)
unmarked_synced h shown shown' c c' blocks load whole stands syncs shows =
    let unmarked : Marked h (disk.as_it_reads c) → ⊥ = stands.parts.before in
    let here = IsImage-as_it_reads blocks c whole in
    let is = λ (v : disk.DiskImage) (in' : disk.IsImage c' v). IsImage-after_sync c c' v syncs in' in
    let none = λ (v : disk.DiskImage) (in' : disk.IsImage c' v) (m : Marked h v). unmarked (subst (Marked h) (is v in') m) in
    let was = stands.parts.resume in
    record {
      activity = shows.activity;
      parts = record {
        held = none;
        header = header_kept h c c' (by_sync h blocks c c' whole syncs) stands.parts.header;
        resume = record {
          shows = shows.shows;
          fits = was.fits;
          found = λ le. was.found (omega arith);
          own = λ j e. let o = was.own j e in (o.0, o.1, o.2, λ w in'. subst (IsSameOrTakenBack h o.0) (sym (is w in')) (o.3 (disk.as_it_reads c) here));
          others = λ v e w in'. subst (IsSameOrTakenBack h v) (sym (is w in')) (was.others v e (disk.as_it_reads c) here);
          taken_back = λ le. none;
        };
        before = tt;
      };
    }

pub back_syncs : BackSyncs
back_syncs h shown shown' c c' blocks load i = unmarked_synced h shown shown' c c' blocks (with_found load i)

pub back_sync_fails : BackSyncFails
back_sync_fails h shown shown' c load i stands activity kept = record { activity = activity; parts = record { memory = kept; held = stands.parts.held; header = stands.parts.header } }

-- Reading changes nothing on the disk.

-- from step 4 on nothing is held
pub held_later : (load : Load) (k : ℕ) → 4 ≤ k → held_while_loading load k ≡ nothing
held_later load k le = ap (held_loading load) (load_call-late k le)

was_none : (h : Hardware) (c : disk.Content) (load : Load) (k : ℕ) → 4 ≤ k → IsHeld h c (held_while_loading load k) → IsHeld h c (held_while_loading load (k + 1))
was_none h c load k le is = subst (IsHeld h c) (held_later load k le ∙ sym (held_later load (k + 1) (omega arith))) is

pub page_read : (h : Hardware) (shown shown' : WorldView) (c : disk.Content) (load : Load) (k : ℕ) → 4 ≤ k → Stands h shown c (loading load k) → ShowsLoad h shown' load (k + 1) → Stands h shown' c (loading load (k + 1))
page_read h shown shown' c load k le stands shows =
    let was = stands.parts.resume in
    record {
      activity = shows.activity;
      parts = record {
        held = was_none h c load k le stands.parts.held;
        header = stands.parts.header;
        resume = record { shows = shows.shows; fits = was.fits; found = λ more. was.found (omega arith); own = was.own; others = was.others; taken_back = λ more. was.taken_back le };
        before = subst (IsBeforeLoad h shown' c) (sym (load_call-late (k + 1) (omega arith))) tt;
      };
    }

pub reads_page : ReadsPage
reads_page h shown shown' c load i k = page_read h shown shown' c (with_found load i) k
