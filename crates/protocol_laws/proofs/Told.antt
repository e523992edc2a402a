-- What is known of a disk's content before and after a call, if the disk tells its content.
use Rattle.std.proofs.Common.{◌≡◌, ◌<◌, ℕ, ltb, arith, List, Option, Some, None, refl, sym, ap, ◌∙◌, subst}
use Rattle.std.specs.Option.{IfSome}
use Rattle.std.proofs.lemmas.Bool.{cond-true, lt-ltb}
use Rattle.definitions.specs.Bytes.{zero_page}
use Rattle.definitions.specs.Disk as disk
use Rattle.definitions.proofs.DiskLaws.{length-as_it_reads}
use Rattle.plain_machine.specs.Machine.{Hardware, block_of_slot}
use Rattle.plain_machine.specs.Chain.{header_of, blocks_of}

pub told_of : (P : disk.Content → Type 0) (told : Option disk.Content) (c : disk.Content) → told ≡ Some c → IfSome told P → P c
told_of P told c e h = subst (λ (o : Option disk.Content). IfSome o P) e h

pub whole_content : (blocks : ℕ) (told : Option disk.Content) (c : disk.Content) → told ≡ Some c → IfSome told (disk.IsContent blocks) → disk.IsContent blocks c
whole_content blocks told c e h = told_of (disk.IsContent blocks) told c e h

-- the disk's content, which the machine knows the number of blocks of
pub content_of : (count blocks : ℕ) (told : Option disk.Content) (c : disk.Content) → told ≡ Some c → count ≡ blocks → IfSome told (disk.IsContent count) → disk.IsContent blocks c
content_of count blocks told c e same h = subst (λ (n : ℕ). disk.IsContent n c) same (whole_content count told c e h)

-- the content after a call that keeps the number of blocks
pub content_after : (count count' blocks : ℕ) (told : Option disk.Content) (c : disk.Content) → told ≡ Some c → count' ≡ count → count ≡ blocks → IfSome told (disk.IsContent count') → disk.IsContent blocks c
content_after count count' blocks told c e kept same h = content_of count' blocks told c e (kept ∙ same) h

-- the content that a call leaves
pub changed : (R : disk.Content → disk.Content → Type 0) (before now : Option disk.Content) (c : disk.Content) → before ≡ Some c → disk.Changes R before now → (c' : disk.Content) × (now ≡ Some c') × R c c'
changed R before now c e h = by_now now (subst (λ (o : Option disk.Content). disk.Changes R o now) e h) where
  by_now : (o : Option disk.Content) → disk.Changes R (Some c) o → (c' : disk.Content) × (o ≡ Some c') × R c c'
  by_now None r = absurd r
  by_now (Some c') r = (c', refl, r)

-- the call of a write, at the block that it names
pub write_at : (R : ℕ → List ℕ → disk.Content → disk.Content → Type 0) (b b' : ℕ) (page page' : List ℕ) (c c' : disk.Content) → b ≡ b' → page ≡ page' → R b page c c' → R b' page' c c'
write_at R b b' page page' c c' x y r = subst (λ (p : List ℕ). R b' p c c') y (subst (λ (n : ℕ). R n page c c') x r)

-- the header block is read where it is below the disk's blocks
pub header_read : (h : Hardware) (b blocks : ℕ) (page : List ℕ) (c : disk.Content) (told : Option disk.Content) → disk.IsContent blocks c → b ≡ block_of_slot h 0 → b < blocks → told ≡ Some c → IfSome told (λ held. page ≡ disk.block (disk.as_it_reads held) b) → page ≡ header_of h (disk.as_it_reads c)
header_read h b blocks page c told whole is lt e read =
    let got = told_of (λ held. page ≡ disk.block (disk.as_it_reads held) b) told c e read in
    let size = whole.size in
    let reads = length-as_it_reads c in
    let here : block_of_slot h 0 < blocks_of (disk.as_it_reads c) = omega arith in
    got ∙ ap (disk.block (disk.as_it_reads c)) is
    ∙ sym (cond-true (ltb (block_of_slot h 0) (blocks_of (disk.as_it_reads c))) (disk.block (disk.as_it_reads c) (block_of_slot h 0)) zero_page (lt-ltb (block_of_slot h 0) (blocks_of (disk.as_it_reads c)) here))
