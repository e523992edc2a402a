-- An image in which nothing is found is resumed by each of its loaders.
use Rattle.std.proofs.Common.{◌≡◌, ℕ, ◌<◌, Bool, true, false, cond, eqb, ltb, List, Some, sym, ap, ap₂, subst, ◌∙◌, refl}
use Rattle.std.proofs.lemmas.Bool.{cond-true, lt-ltb}
use Rattle.page_core.specs.declared.format.Format.{Format}
use Rattle.definitions.specs.Bytes.{zero_page}
use Rattle.definitions.specs.Disk.{Content, DiskImage, IsContent, as_it_reads, block}
use Rattle.definitions.specs.SwapHeader.{flags_of, hw_sig_of, image_of, image_signature, sig_of, taken_back}
use Rattle.image_format.specs.AreaKind.{area_kind, same_bytes}
use Rattle.image_format.specs.declared.signature.area.AreaKind.{AreaKind}
use Rattle.image_format.specs.declared.signature.area.AreaKind.TheVariants as kind
use Rattle.image_format.specs.declared.signature.area.Mark.{Mark}
use Rattle.plain_machine.specs.Chain.{blocks_of, header_of}
use Rattle.plain_machine.specs.Machine.{Hardware, Memory, block_of_slot}
use Rattle.plain_machine.specs.Trace.{first_map, format_in, is_set, stream_page}
use Rattle.image_walk.specs.declared.limits.Limits.{Limits}
use Rattle.image_check.specs.Checked.{format_of}
use Rattle.image_check.specs.Header.{any_block, limits_of}
use Rattle.image_check.specs.Info.{counts_in}
use Rattle.image_pages.proofs.Marks.{start_first}
use Rattle.image_machine.specs.Resumable.{IsLoaderOf, IsSlotBlock, WholeIsResumed}
use Rattle.image_machine.proofs.Causes.{pages_same}
use Rattle.image_machine.proofs.Chains.{chain_at}
use Rattle.image_machine.proofs.Flags.{format_same, uncompressed}
use Rattle.image_machine.proofs.Found.{IsFaultless, faultless, marked_as, size_of, start_uncompressed}
use Rattle.image_machine.proofs.Prepared.{IsPrepared}
use Rattle.image_machine.proofs.Tracing.{resumed}
use Rattle.image_machine.proofs.Whole.{IsReadWhole, read_whole}

by_test : {A : Type 0} (t : Bool) (a b : A) (f : A → ℕ) (n : ℕ) → f a ≡ n → f b ≡ n → f (cond t a b) ≡ n
by_test true a b f n e g = e
by_test false a b f n e g = g

-- the blocks of the disk, and the header's, are among the limits
limits_blocks : (blocks header : ℕ) (k : AreaKind) → ((limits_of blocks header k).blocks ≡ blocks) × ((limits_of blocks header k).header ≡ header)
limits_blocks blocks header (kind.Image mark) = (refl, refl)
limits_blocks blocks header kind.Old = (refl, refl)
limits_blocks blocks header (kind.Other sig) = (refl, refl)
limits_blocks blocks header (kind.BadArea why) = (refl, refl)
limits_blocks blocks header (kind.Swap area) =
    let own : Limits = record { blocks = blocks; header = header; last = area.last; bad = area.bad } in (
      by_test (eqb header 0) own (any_block blocks header) (λ l. l.blocks) blocks refl refl,
      by_test (eqb header 0) own (any_block blocks header) (λ l. l.header) header refl refl,
    )

-- the header's block is as it reads
pub header_there : (h : Hardware) (v : DiskImage) (header : ℕ) → block_of_slot h 0 ≡ header → header < blocks_of v → header_of h v ≡ block v header
header_there h v header lies inside =
    ap (λ (b : ℕ). cond (ltb b (blocks_of v)) (block v b) zero_page) lies
    ∙ cond-true (ltb header (blocks_of v)) (block v header) zero_page (lt-ltb header (blocks_of v) inside)

-- The facts of the image, and those of the loader.

prepared : (blocks header before now : ℕ) (held : Content) (h : Hardware) (m : Memory) → IsContent blocks held → (f : IsFaultless held blocks header before now) → IsLoaderOf (as_it_reads held) header h m →
    IsPrepared h m (as_it_reads held) (limits_of (blocks_of (as_it_reads held)) header (area_kind (taken_back (block (as_it_reads held) header))))
prepared blocks header before now held h m is f loader =
    let v = as_it_reads held in
    let page = block v header in
    let s = f.begins in
    let kind = area_kind (taken_back page) in
    let size = size_of blocks held is in
    let l = limits_of (blocks_of v) header kind in
    let inside : header < blocks_of v = subst (λ (n : ℕ). header < n) (sym size) s.inside in
    let there = header_there h v header loader.first_slot inside in
    let mark = marked_as s.page s.mark s.marked in
    let limits : f.start.limits ≡ l =
    s.limits ∙ ap₂ (λ (b : ℕ) (p : List ℕ). limits_of b header (area_kind (taken_back p))) (sym size) s.read in
    let flags : s.mark.flags ≡ flags_of (header_of h v) =
    ap (λ (k : Mark). k.flags) mark.1 ∙ ap flags_of (s.read ∙ sym there) in
    let format : f.start.format ≡ format_in h v =
    s.format ∙ ap format_of flags ∙ sym (format_same (flags_of (header_of h v))) in
    let first : f.start.first ≡ first_map h v = start_first held blocks header f.start s ∙ ap image_of (sym there) in
    let whole = read_whole f.start.format f.start.limits held f.start.first f.history f.clean.reading f.clean.pages f.clean.clean f.whole.over in
    let read : IsReadWhole l (format_in h v) v (first_map h v) (counts_in (chain_at v (first_map h v) 0)).pages =
    subst (λ (k : Limits). IsReadWhole k (format_in h v) v (first_map h v) (counts_in (chain_at v (first_map h v) 0)).pages) limits
    (subst (λ (k : Format). IsReadWhole f.start.limits k v (first_map h v) (counts_in (chain_at v (first_map h v) 0)).pages) format
    (subst (λ (k : ℕ). IsReadWhole f.start.limits f.start.format v k (counts_in (chain_at v k 0)).pages) first whole)) in
    record {
      signed = subst (λ (p : List ℕ). same_bytes (sig_of p) image_signature ≡ true) (s.read ∙ sym there) mark.0;
      uncompressed = ap (λ (k : ℕ). is_set k 2) (sym flags) ∙ uncompressed s.mark.flags (start_uncompressed (Some held) blocks header f.start s);
      blocks = (limits_blocks (blocks_of v) header kind).0;
      header = (limits_blocks (blocks_of v) header kind).1 ∙ sym loader.first_slot;
      read = subst (λ (n : ℕ). IsReadWhole l (format_in h v) v (first_map h v) n) (pages_same (stream_page h v 0)) read;
      hardware = loader.hardware;
      slots = λ b named may. subst (λ (p : List ℕ). IsSlotBlock h p b) (sym there) (loader.slots b named may);
      signature = λ set.
          ap hw_sig_of there ∙ loader.signature (ap (λ (p : List ℕ). is_set (flags_of p) 8) (sym there) ∙ set);
      pages = loader.pages;
      valid = loader.valid;
      room = loader.room;
    }

pub whole_is_resumed : WholeIsResumed
whole_is_resumed blocks header before now held h m check is finds loader ident =
    let v = as_it_reads held in
    let l = limits_of (blocks_of v) header (area_kind (taken_back (block v header))) in
    resumed h m v l (prepared blocks header before now held h m is (faultless blocks header before now held is finds) loader) check ident
