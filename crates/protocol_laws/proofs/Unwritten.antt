-- Blocks that a call of the disk leaves.
use Rattle.std.proofs.Common.{◌≡◌, ◌≢◌, ◌<◌, ◌≤◌, inl, inr, ℕ, zero, suc, ◌+◌, ◌*◌, List, [], ◌∷◌, length, Contains, slice_index_or, Option, Some, None, refl, sym, ap, ◌∙◌, subst, arith}
use Rattle.std.proofs.lemmas.Bool.{cases_lt}
use Rattle.std.proofs.lemmas.List.{get_or-map, length-map}
use Rattle.std.proofs.lemmas.List.Elements.{Contains-get_or}
use Rattle.std.proofs.lemmas.List.FromFn.{length-map-range_with_len}
use Rattle.definitions.specs.Disk as disk
use Rattle.definitions.proofs.Ascending.{Contains-nil}
use Rattle.definitions.proofs.DiskLaws.{IsImage-as_it_reads, IsImage-after_sync, IsImage-settled, length-as_it_reads}
use Rattle.plain_machine.specs.Machine.{Hardware, block_of_slot, unused_slots}
use Rattle.plain_machine.specs.Image.{Image, stream_of, hibernate_steps}
use Rattle.plain_machine.specs.Image.{laid}
use Rattle.image_write.proofs.Done.{write_at}
use Rattle.plain_machine.specs.Stands.{laid_writes, laid_blocks}
use Rattle.plain_machine.specs.State.{Running}
use Rattle.plain_machine.specs.Calls.{HibernationCall, writes_page, syncs_pages, reads_header, writes_mark, syncs_mark, hibernation_call}
use Rattle.plain_machine.proofs.Calls.{IsAt, is_at, call_writes, call_marks}
use Rattle.protocol_laws.specs.Rows.{LeavesBlock, block_of_call, block_of_step}
use Rattle.protocol_laws.specs.Rows.{write_of_step}
use Rattle.protocol_laws.proofs.Laid.{count_of, count_is}

pub block_same : (b : ℕ) (c : disk.Content) → LeavesBlock b c c
block_same b c = record { leaves = λ v s in' lt low high. in'.chosen s (let size = in'.size in omega arith) }

pub block_synced : (blocks b : ℕ) (c c' : disk.Content) → disk.IsContent blocks c → disk.Syncs c c' → LeavesBlock b c c'
block_synced blocks b c c' whole syncs = record {
  leaves = λ v s in' lt low high.
      let is = IsImage-after_sync c c' v syncs in' in
      let all = IsImage-as_it_reads blocks c whole in
      let size : length v ≡ length c = ap length is ∙ length-as_it_reads c in
      subst (λ (u : disk.DiskImage). Contains (disk.sector c s).candidates (slice_index_or u s [])) (sym is) (all.chosen s (omega arith));
}

pub block_cut : (b : ℕ) (c c' : disk.Content) → disk.Restarts c c' → LeavesBlock b c c'
block_cut b c c' restarts = record {
  leaves = λ v s in' lt low high.
      let u = restarts.0 in
      let is : v ≡ u = IsImage-settled u v (subst (λ (x : disk.Content). disk.IsImage x v) restarts.2 in') in
      let size : length v ≡ length c = ap length is ∙ restarts.1.size in
      subst (λ (x : disk.DiskImage). Contains (disk.sector c s).candidates (slice_index_or x s [])) (sym is) (restarts.1.chosen s (omega arith));
}

sector_other : (b w s : ℕ) (c c' : disk.Content) → disk.SameOutside w c c' → b ≢ w → 8 * b ≤ s → s < 8 * b + 8 → disk.sector c' s ≡ disk.sector c s
sector_other b w s c c' same other low high = elim (cases_lt b w) [
  | inl lt ↦ same.below s (omega arith)
  | inr le ↦ elim (cases_lt w b) [
    | inl lt ↦ same.above s (omega arith)
    | inr ge ↦ absurd (other (omega arith))
  ]
]

-- a call that writes another block
pub block_other : (b w : ℕ) (c c' : disk.Content) → disk.SameOutside w c c' → b ≢ w → LeavesBlock b c c'
block_other b w c c' same other = record {
  leaves = λ v s in' lt low high.
      subst (λ (x : disk.Sector). Contains x.candidates (slice_index_or v s [])) (sector_other b w s c c' same other low high) (in'.chosen s (let size = in'.size in omega arith));
}

-- one that writes block(0)
pub unwritten_header : (h : Hardware) (others : List ℕ) (b : ℕ) (c c' : disk.Content) → disk.SameOutside (block_of_slot h 0) c c' → (Contains (block_of_slot h 0 ∷ others) b → ⊥) → LeavesBlock b c c'
unwritten_header h others b c c' same not = block_other b (block_of_slot h 0) c c' same (λ e. not (0, omega arith, sym e))

later_in : (x b : ℕ) (xs : List ℕ) → Contains xs b → Contains (x ∷ xs) b
later_in x b xs in' = (suc in'.0, (let lt = in'.1 in omega arith), in'.2)

-- a call that writes the image
write_in_laid : (h : Hardware) (a : Running) (i : Image) (k : ℕ) → k < length (laid_writes h a i) → Contains (laid_blocks h a i) (write_of_step h a i k).0
write_in_laid h a i k lt =
    let first : ℕ × List ℕ → ℕ = λ written. written.0 in
    let size = length-map (laid_writes h a i) first in
    subst (Contains (laid_blocks h a i)) (get_or-map first (laid_writes h a i) k (0, []) 0 (omega arith)) (Contains-get_or (laid_blocks h a i) k 0 (omega arith))

laid_count : (h : Hardware) (a : Running) (i : Image) (k : ℕ) → k + 4 < hibernate_steps i → k < length (laid_writes h a i)
unfolding laid
laid_count h a i k lt =
    let steps = count_is i in
    let size = length-map-range_with_len (write_at h.extents (unused_slots h a.memory) (stream_of i)) 0 (count_of i) in
    omega arith

-- The block that a step of a hibernation writes.

slot_at : (h : Hardware) (a : Running) (i : Image) (k : ℕ) → k + 4 < hibernate_steps i → block_of_step h a i k ≡ (write_of_step h a i k).0 ∷ []
slot_at h a i k place = ap (block_of_call h a i k) (call_writes i k place)

pub mark_at : (h : Hardware) (a : Running) (i : Image) (k : ℕ) → k + 2 ≡ hibernate_steps i → block_of_step h a i k ≡ block_of_slot h 0 ∷ []
mark_at h a i k place = ap (block_of_call h a i k) (call_marks i k place)

pub none_past : (h : Hardware) (a : Running) (i : Image) (k : ℕ) → hibernate_steps i ≤ k + 1 → block_of_step h a i k ≡ []
none_past h a i k past = by_call (hibernation_call i k) (is_at i k) where
  by_call : (call : Option HibernationCall) → IsAt call k (hibernate_steps i) → block_of_call h a i k call ≡ []
  by_call (Some writes_page) at = absurd (omega arith)
  by_call (Some syncs_pages) at = refl
  by_call (Some reads_header) at = refl
  by_call (Some writes_mark) at = absurd (omega arith)
  by_call (Some syncs_mark) at = refl
  by_call None at = refl

pub unwritten_slot : (h : Hardware) (a : Running) (i : Image) (k b : ℕ) (c c' : disk.Content) → k + 4 < hibernate_steps i → disk.SameOutside (write_of_step h a i k).0 c c' → (Contains (block_of_step h a i k) b → ⊥) → LeavesBlock b c c'
unwritten_slot h a i k b c c' place same not =
    block_other b (write_of_step h a i k).0 c c' same (λ e. not (subst (λ (xs : List ℕ). Contains xs b) (sym (slot_at h a i k place)) (0, omega arith, sym e)))

pub unwritten_mark : (h : Hardware) (a : Running) (i : Image) (k b : ℕ) (c c' : disk.Content) → k + 2 ≡ hibernate_steps i → disk.SameOutside (block_of_slot h 0) c c' → (Contains (block_of_step h a i k) b → ⊥) → LeavesBlock b c c'
unwritten_mark h a i k b c c' place same not =
    block_other b (block_of_slot h 0) c c' same (λ e. not (subst (λ (xs : List ℕ). Contains xs b) (sym (mark_at h a i k place)) (0, omega arith, sym e)))

pub only_in : (x b : ℕ) (xs : List ℕ) → xs ≡ x ∷ [] → Contains xs b → b ≡ x
only_in x b xs e in' = one_is x b (subst (λ (ys : List ℕ). Contains ys b) e in') where
  one_is : (x b : ℕ) → Contains (x ∷ []) b → b ≡ x
  one_is x b (zero, lt, e) = sym e
  one_is x b (suc k, lt, e) = absurd (omega arith)

-- the block that a step writes is block(0), or one of the image's
pub step_in_laid : (h : Hardware) (a : Running) (i : Image) (k b : ℕ) → Contains (block_of_step h a i k) b → Contains (block_of_slot h 0 ∷ laid_blocks h a i) b
step_in_laid h a i k b = by_call (hibernation_call i k) (is_at i k) where
  by_call : (call : Option HibernationCall) → IsAt call k (hibernate_steps i) → Contains (block_of_call h a i k call) b → Contains (block_of_slot h 0 ∷ laid_blocks h a i) b
  by_call (Some writes_page) at in' =
      subst (Contains (block_of_slot h 0 ∷ laid_blocks h a i)) (sym (only_in (write_of_step h a i k).0 b ((write_of_step h a i k).0 ∷ []) refl in'))
      (later_in (block_of_slot h 0) (write_of_step h a i k).0 (laid_blocks h a i) (write_in_laid h a i k (laid_count h a i k at)))
  by_call (Some syncs_pages) at in' = absurd (Contains-nil b in')
  by_call (Some reads_header) at in' = absurd (Contains-nil b in')
  by_call (Some writes_mark) at in' = (0, omega arith, sym (only_in (block_of_slot h 0) b (block_of_slot h 0 ∷ []) refl in'))
  by_call (Some syncs_mark) at in' = absurd (Contains-nil b in')
  by_call None at in' = absurd (Contains-nil b in')
