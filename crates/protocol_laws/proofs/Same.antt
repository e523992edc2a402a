-- Disks with the same header block: what they say of the area and of a mark is the same.
use Rattle.std.proofs.Common.{◌≡◌, ◌≢◌, ℕ, ◌/◌, inl, inr, List, length, cond, ltb, refl, sym, ap, ap₂, ◌∙◌, subst, nat_eq}
use Rattle.std.specs.Cmp.Lexicographic.{pointwise}
use Rattle.std.proofs.lemmas.Bool.{cases_order}
use Rattle.definitions.specs.Bytes.{zero_page}
use Rattle.definitions.specs.Disk.{Content, DiskImage, IsContent, IsImage, as_it_reads, block, Syncs}
use Rattle.definitions.specs.SwapHeader.{IsMarked, sig_of, image_signature, taken_back}
use Rattle.definitions.proofs.DiskLaws.{length-as_it_reads, block-other, IsImage-after_sync, IsImage-as_it_reads, as_it_reads-settled}
use Rattle.image_format.specs.AreaKind.{area_kind}
use Rattle.plain_machine.specs.Machine.{Hardware, Memory, block_of_slot}
use Rattle.plain_machine.specs.Chain.{header_of, blocks_of, Marked}
use Rattle.plain_machine.specs.State.{Running, nothing}
use Rattle.plain_machine.specs.Stands.{IsHeld, IsHeader, HasArea, AgreeOnArea}
use Rattle.plain_machine.specs.UsableArea.{area_block, area_fault, bad_set_fault, dump_area_fault, first_fault, kind_or_fit_fault}
use Rattle.image_laws.specs.ImageBlocks.{Tries}
use Rattle.image_laws.proofs.ImageBlocks.{failed}
use Rattle.image_laws.proofs.Images.{earlier_image}
use Rattle.protocol_laws.specs.Rows.{IsSameArea}

pub same_area : (h : Hardware) (v : DiskImage) → IsSameArea h v v
same_area h v = record { blocks = refl; header = record { front = refl; signature = refl } }

-- the two are as many blocks, and their header is the same
pub record SameHeader (h : Hardware) (v w : DiskImage) : Type 0 where
  pub blocks : blocks_of v ≡ blocks_of w
  pub header : header_of h v ≡ header_of h w

abbrev area_block_of : List ℕ → List ℕ
area_block_of header = cond (pointwise nat_eq (sig_of header) image_signature) (taken_back header) header

pub same_area_block : (h : Hardware) (v w : DiskImage) → SameHeader h v w → area_block h v ≡ area_block h w
same_area_block h v w same = ap area_block_of same.header

pub same_area_fault : (h : Hardware) (v w : DiskImage) → SameHeader h v w → area_fault h v ≡ area_fault h w
unfolding area_fault
same_area_fault h v w same =
    ap₂ (λ (n : ℕ) (page : List ℕ). kind_or_fit_fault h n (area_kind page)) same.blocks (same_area_block h v w same)

pub same_dump_area : (h : Hardware) (v w : DiskImage) (m : Memory) → SameHeader h v w → dump_area_fault h v m ≡ dump_area_fault h w m
unfolding dump_area_fault
same_dump_area h v w m same =
    ap₂ first_fault (same_area_fault h v w same) (ap (λ (page : List ℕ). bad_set_fault h m (area_kind page)) (same_area_block h v w same))

pub same_mark : (h : Hardware) (v w : DiskImage) → SameHeader h v w → Marked h v → Marked h w
same_mark h v w same marked = subst IsMarked same.header marked

-- by their blocks
pub same_header : (h : Hardware) (v w : DiskImage) → length v ≡ length w → block v (block_of_slot h 0) ≡ block w (block_of_slot h 0) → SameHeader h v w
same_header h v w size same =
    let blocks : blocks_of v ≡ blocks_of w = ap (λ (n : ℕ). n / 8) size in
    record {
      blocks = blocks;
      header = ap₂ (λ (n : ℕ) (page : List ℕ). cond (ltb (block_of_slot h 0) n) page zero_page) blocks same;
    }

-- A call keeps the header: each image after it has the header of one before, and so has the disk as it reads.
pub record KeepsHeader (h : Hardware) (c c' : Content) : Type 0 where
  pub each : (v : DiskImage) → IsImage c' v → (w : DiskImage) × IsImage c w × SameHeader h v w
  pub reads : SameHeader h (as_it_reads c') (as_it_reads c)

pub header_kept : (h : Hardware) (c c' : Content) → KeepsHeader h c c' → IsHeader h c → IsHeader h c'
header_kept h c c' keeps is = record {
  unmarked = λ v in' marked. let was = keeps.each v in' in is.unmarked was.0 was.1 (subst IsMarked (same_area_block h v was.0 was.2) marked);
  one = λ v in'.
      let was = keeps.each v in' in
      subst (λ (page : List ℕ). AgreeOnArea page (area_block h (as_it_reads c'))) (sym (same_area_block h v was.0 was.2))
      (subst (λ (page : List ℕ). AgreeOnArea (area_block h was.0) page) (sym (same_area_block h (as_it_reads c') (as_it_reads c) keeps.reads)) (is.one was.0 was.1));
}

pub area_kept : (h : Hardware) (c c' : Content) (a : Running) → KeepsHeader h c c' → HasArea h c a → HasArea h c' a
area_kept h c c' a keeps is = is ∙ sym (same_dump_area h (as_it_reads c') (as_it_reads c) a.memory keeps.reads)

pub nothing_kept : (h : Hardware) (c c' : Content) → KeepsHeader h c c' → IsHeld h c nothing → IsHeld h c' nothing
nothing_kept h c c' keeps is = λ v in' marked. let was = keeps.each v in' in is was.0 was.1 (same_mark h v was.0 was.2 marked)

-- Which calls keep the header.

-- a write of another block, failed or not
pub reads_kept : (x b : ℕ) (page : List ℕ) (c c' : Content) → Tries x page c c' → b ≢ x → block (as_it_reads c') b ≡ block (as_it_reads c) b
reads_kept x b page c c' tries apart =
    block-other x b c c' (failed x page c c' tries).others (elim (cases_order b x) [ inl e ↦ absurd (apart e) | inr ne ↦ ne ])

pub by_other_write : (h : Hardware) (blocks x : ℕ) (page : List ℕ) (c c' : Content) → IsContent blocks c → Tries x page c c' → block_of_slot h 0 ≢ x → KeepsHeader h c c'
by_other_write h blocks x page c c' whole tries apart =
    let size = (failed x page c c' tries).others.size in
    record {
      each = λ v in'.
          let was = earlier_image blocks x page c c' v whole tries in' in
          (was.0, was.1, same_header h v was.0 was.2.size (was.2.others (block_of_slot h 0) apart));
      reads = same_header h (as_it_reads c') (as_it_reads c) (length-as_it_reads c' ∙ size ∙ sym (length-as_it_reads c))
          (reads_kept x (block_of_slot h 0) page c c' tries apart);
    }

same_as : (h : Hardware) (v w : DiskImage) → v ≡ w → SameHeader h v w
same_as h v w e = record { blocks = ap blocks_of e; header = ap (header_of h) e }

-- a sync
pub by_sync : (h : Hardware) (blocks : ℕ) (c c' : Content) → IsContent blocks c → Syncs c c' → KeepsHeader h c c'
by_sync h blocks c c' whole syncs = record {
  each = λ v in'. (as_it_reads c, IsImage-as_it_reads blocks c whole, same_as h v (as_it_reads c) (IsImage-after_sync c c' v syncs in'));
  reads = same_as h (as_it_reads c') (as_it_reads c) (ap as_it_reads syncs ∙ as_it_reads-settled (as_it_reads c));
}

-- and no call at all
pub by_nothing : (h : Hardware) (c : Content) → KeepsHeader h c c
by_nothing h c = record {
  each = λ v in'. (v, in', same_as h v v refl);
  reads = same_as h (as_it_reads c) (as_it_reads c) refl;
}
