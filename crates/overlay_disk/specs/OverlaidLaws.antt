-- What an overlay's content means for its calls: which page a read gives, and how a write, a sync and a restart change
-- the content.
use Rattle.std.proofs.Common.{◌≡◌, ◌≢◌, ℕ, ◌+◌, ◌*◌, ◌<◌, ◌≤◌, ◌⊎◌, true, List, [], ◌∷◌, length, get_or, Contains}
use Rattle.std.proofs.Common.{Option, Some, None, IfSome, refl, sym, ap, ◌∙◌, inl, inr, subst, arith, zero, suc}
use Rattle.std.proofs.lemmas.List.{get_or-map, get_or_past}
use Rattle.std.proofs.lemmas.Bool.{cases_lt, cases_order}
use Rattle.std.specs.Option.{ForSome}
use Rattle.definitions.specs.Bytes.{IsPage}
use Rattle.definitions.specs.Disk.{Content, DiskImage, Sector, IsContent, IsImage, TakesBytes, Writes, Syncs, Restarts}
use Rattle.definitions.specs.Disk.{Changes, as_it_reads, block, no_sector, sector, sector_bytes, settled}
use Rattle.definitions.proofs.DiskLaws.{as_it_reads-settled, length-settled, length-as_it_reads, block-other}
use Rattle.definitions.proofs.DiskLaws.{IsImage-as_it_reads}
use Rattle.plain_machine.proofs.DiskBlocks.{block-written}
use Rattle.sector_disk.specs.Recorded.{after, written}
use Rattle.sector_disk.specs.RecordedLaws.{IsContent-after, IsContent-settled, length-after, live_at, reads_whole}
use Rattle.sector_disk.specs.RecordedLaws.{written-Writes, written-others}
use Rattle.sector_disk.specs.declared.recorded.Recorded.TheVariants.{Write}
use Rattle.overlay_disk.specs.Overlaid.{with_block, overlaid, content_over, HasRoom, Keeps, KeepsNone}
use Rattle.overlay_disk.specs.declared.kept.Kept.{Kept}

apart : (b k : ℕ) → k ≢ b → (b < k) ⊎ (k < b)
apart b k differs =
    elim (cases_order b k) [
      | inl e ↦ absurd (differs (sym e))
      | inr less ↦ less
    ]

IsContent-reads : (n : ℕ) (c : Content) → IsContent n c → IsContent n (settled (as_it_reads c))
IsContent-reads n c whole = IsContent-settled n (as_it_reads c) (reads_whole n c whole)

IsContent-with_block : (n b : ℕ) (page : List ℕ) (v : DiskImage) → IsPage page → IsContent n (settled v) →
    IsContent n (settled (with_block b page v))
IsContent-with_block n b page v is whole =
    IsContent-reads n (after (settled v) (Write b page)) (IsContent-after n (settled v) (Write b page) is whole)

-- the overlay's content is that of a disk with as many blocks as the disk below
pub IsContent-over : (n : ℕ) (kept : Option Kept) (c : Option Content) → IfSome c (IsContent n) →
    IfSome (content_over kept c) (IsContent n)
IsContent-over n kept None whole = tt
IsContent-over n None (Some c) whole = IsContent-reads n c whole
IsContent-over n (Some k) (Some c) whole =
    IsContent-with_block n k.block k.page (as_it_reads c) k.whole (IsContent-reads n c whole)

-- Image w is v with the page in place of block b.
record PutsBlock (b : ℕ) (page : List ℕ) (v w : DiskImage) : Type 0 where
  size : length w ≡ length v
  below : (s : ℕ) → s < 8 * b → get_or w s [] ≡ get_or v s []
  above : (s : ℕ) → 8 * b + 8 ≤ s → get_or w s [] ≡ get_or v s []
  within : (j : ℕ) → j < 8 → get_or w (8 * b + j) [] ≡ sector_bytes page j

other : (v : DiskImage) (c : Content) (s : ℕ) → sector c s ≡ sector (settled v) s →
    get_or (as_it_reads c) s [] ≡ get_or v s []
other v c s same =
    live_at c s ∙ ap (λ (x : Sector). x.live) same ∙ sym (live_at (settled v) s) ∙ ap (λ (w : DiskImage). get_or w s [])
    (as_it_reads-settled v)

with_block-puts : (b : ℕ) (page : List ℕ) (v : DiskImage) → 8 * b + 8 ≤ length v →
    PutsBlock b page v (with_block b page v)
with_block-puts b page v le =
    let c = written (λ s. true) b page (settled v) in
    let others = written-others (λ s. true) b page (settled v) in
    let writes = written-Writes b page (settled v) (omega (arith, length-settled v)) in
    record {
      size = length-as_it_reads c ∙ length-after (settled v) (Write b page) ∙ length-settled v;
      below = λ s lt. other v c s (others.below s lt);
      above = λ s ge. other v c s (others.above s ge);
      within = λ j lt. live_at c (8 * b + j) ∙ (writes.within j lt).live;
    }

-- a second page in the same place
puts_again : (b : ℕ) (first page : List ℕ) (v u w : DiskImage) → PutsBlock b first v u → PutsBlock b page v w →
    PutsBlock b page u w
puts_again b first page v u w before now = record {
  size = now.size ∙ sym before.size;
  below = λ s lt. now.below s lt ∙ sym (before.below s lt);
  above = λ s ge. now.above s ge ∙ sym (before.above s ge);
  within = now.within;
}

abbrev one : List ℕ → Sector
one bytes = record { live = bytes; candidates = bytes ∷ [] }

settled_at : (v : DiskImage) (s : ℕ) → s < length v → sector (settled v) s ≡ one (get_or v s [])
settled_at v s lt = get_or-map (λ (bytes : List ℕ). one bytes) v s [] no_sector lt

same_sector : (v w : DiskImage) (s : ℕ) → length w ≡ length v → get_or w s [] ≡ get_or v s [] →
    sector (settled w) s ≡ sector (settled v) s
same_sector v w s size same =
    elim (cases_lt s (length v)) [
      | inl lt ↦ settled_at w s (omega arith) ∙ ap one same ∙ sym (settled_at v s lt)
      | inr ge ↦ get_or_past (settled w) s no_sector (omega (arith, length-settled w)) ∙ sym
          (get_or_past (settled v) s no_sector (omega (arith, length-settled v)))
    ]

of_one : (x y : List ℕ) → Contains (x ∷ []) y → y ≡ x
of_one x y (zero, lt, e) = sym e
of_one x y (suc k, lt, e) = absurd (omega arith)

takes : (bytes : List ℕ) (old new : Sector) → new ≡ one bytes → TakesBytes bytes old new
takes bytes old new e =
    subst (TakesBytes bytes old) (sym e) (record { live = refl; candidates = λ x h. inr (of_one bytes x h) })

writes : (b : ℕ) (page : List ℕ) (v w : DiskImage) → 8 * b + 8 ≤ length v → PutsBlock b page v w →
    Writes b page (settled v) (settled w)
writes b page v w le puts = record {
  others = record {
    size = length-settled w ∙ puts.size ∙ sym (length-settled v);
    below = λ s lt. same_sector v w s puts.size (puts.below s lt);
    above = λ s ge. same_sector v w s puts.size (puts.above s ge);
  };
  within = λ j lt. takes (sector_bytes page j) (sector (settled v) (8 * b + j)) (sector (settled w) (8 * b + j))
      (settled_at w (8 * b + j) (omega (arith, puts.size)) ∙ ap one (puts.within j lt));
}

long_enough : (n b : ℕ) (c : Content) → b < n → IsContent n c → 8 * b + 8 ≤ length (as_it_reads c)
long_enough n b c lt whole = omega (arith, length-as_it_reads c, whole.size)

written_over : (n : ℕ) (k : Kept) (c : Content) → k.block < n → IsContent n c →
    Writes k.block k.page (settled (as_it_reads c)) (settled (with_block k.block k.page (as_it_reads c)))
written_over n k c lt whole =
    let le = long_enough n k.block c lt whole in
    writes k.block k.page (as_it_reads c) (with_block k.block k.page (as_it_reads c)) le
    (with_block-puts k.block k.page (as_it_reads c) le)

again : (n b : ℕ) (old k : Kept) (c : Content) → old.block ≡ b → k.block ≡ b → b < n → IsContent n c →
    Writes b k.page (settled (with_block old.block old.page (as_it_reads c)))
    (settled (with_block k.block k.page (as_it_reads c)))
again n b old k c p q lt whole =
    let v = as_it_reads c in
    let le = long_enough n b c lt whole in
    let u = with_block b old.page v in
    let w = with_block b k.page v in
    let first = with_block-puts b old.page v le in
    let both : Writes b k.page (settled u) (settled w) =
    writes b k.page u w (omega (arith, first.size))
    (puts_again b old.page k.page v u w first (with_block-puts b k.page v le)) in
    rw (p, q) both

-- a write of a block that may be written
pub Writes-over : (n b : ℕ) (page : List ℕ) (kept : Option Kept) (k : Kept) (c : Option Content) → HasRoom kept b →
    k.block ≡ b → k.page ≡ page → b < n → IfSome c (IsContent n) →
    Changes (Writes b page) (content_over kept c) (content_over (Some k) c)
Writes-over n b page kept k None room p q lt whole = tt
Writes-over n b page None k (Some c) room p q lt whole = rw (← p, ← q) (written_over n k c (omega arith) whole)
Writes-over n b page (Some old) k (Some c) room p q lt whole = rw (← q) (again n b old k c room p lt whole)

-- a sync and a restart leave the one image
pub Syncs-over : (kept : Option Kept) (c : Option Content) → Changes Syncs (content_over kept c) (content_over kept c)
Syncs-over kept None = tt
Syncs-over kept (Some c) = ap settled (sym (as_it_reads-settled (overlaid kept (as_it_reads c))))

pub Restarts-over : (n : ℕ) (kept : Option Kept) (c : Option Content) → IfSome c (IsContent n) →
    Changes Restarts (content_over kept c) (content_over kept c)
Restarts-over n kept None whole = tt
Restarts-over n kept (Some c) whole =
    let v = overlaid kept (as_it_reads c) in (
      v,
      subst (IsImage (settled v)) (as_it_reads-settled v)
          (IsImage-as_it_reads n (settled v) (IsContent-over n kept (Some c) whole)),
      refl,
    )

kept_page : (n b : ℕ) (k : Kept) (c : Option Content) → k.block ≡ b → b < n → IfSome c (IsContent n) →
    IfSome (content_over (Some k) c) (λ held. k.page ≡ block (as_it_reads held) b)
kept_page n b k None p lt whole = tt
kept_page n b k (Some c) p lt whole =
    let v = as_it_reads c in
    let le : 8 * k.block + 8 ≤ length (settled v) = omega (arith, length-settled v, long_enough n b c lt whole) in
    rw (← p) (sym (block-written k.block k.page (settled v) (settled (with_block k.block k.page v)) k.whole le
    (written_over n k c (omega arith) whole)))

-- a block that is kept reads as its page
pub block-kept : (n b : ℕ) (page : List ℕ) (kept : Option Kept) (c : Option Content) → Keeps kept b page → b < n →
    IfSome c (IsContent n) → IfSome (content_over kept c) (λ held. page ≡ block (as_it_reads held) b)
block-kept n b page None c keeps lt whole = absurd keeps
block-kept n b page (Some k) c keeps lt whole =
    subst (λ (x : List ℕ). IfSome (content_over (Some k) c) (λ held. x ≡ block (as_it_reads held) b)) keeps.1
    (kept_page n b k c keeps.0 lt whole)

-- every other block reads as on the disk below
pub block-below : (n b : ℕ) (page : List ℕ) (kept : Option Kept) (c : Option Content) → KeepsNone kept b →
    ForSome kept (λ k. k.block < n) → IfSome c (IsContent n) →
    IfSome c (λ held. page ≡ block (as_it_reads held) b) →
    IfSome (content_over kept c) (λ held. page ≡ block (as_it_reads held) b)
block-below n b page kept None differs inside whole reads = tt
block-below n b page None (Some c) differs inside whole reads =
    reads ∙ ap (λ (v : DiskImage). block v b) (sym (as_it_reads-settled (as_it_reads c)))
block-below n b page (Some k) (Some c) differs inside whole reads =
    let v = as_it_reads c in
    reads ∙ ap (λ (u : DiskImage). block u b) (sym (as_it_reads-settled v))
    ∙ sym (block-other k.block b (settled v) (settled (with_block k.block k.page v))
    (written_over n k c (inside k refl) whole).others (apart b k.block differs))
