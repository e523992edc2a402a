-- What the formatting of an area leaves on the disk.
use Rattle.std.proofs.Common.{zero, suc, ◌≡◌, ◌≢◌, inl, inr, ◌≤◌, ◌<◌, ℕ, ◌+◌, ◌*◌, Bool, cond, List, [], ◌∷◌, length, slice_index_or, Contains, refl, sym, ap, ◌∙◌, subst, arith}
use Rattle.std.proofs.lemmas.Bool.{cases_lt, lt-ltb}
use Rattle.definitions.specs.Bytes.{zero_page}
use Rattle.definitions.specs.Disk as disk
use Rattle.definitions.specs.SwapHeader.{IsMarked, area_page}
use Rattle.definitions.proofs.DiskLaws.{IsImage-after_sync, IsImage-as_it_reads, length-as_it_reads, length-settled}
use Rattle.plain_machine.specs.Chain.{header_of, blocks_of, Marked}
use Rattle.plain_machine.specs.Machine.{Hardware, block_of_slot}
use Rattle.plain_machine.proofs.DiskBlocks.{block-written, IsPage-area_page, area_page-unmarked}
use Rattle.protocol_laws.specs.Rows.{LeavesBlock}
use Rattle.script.specs.Grammar.{ScriptValue}
use Rattle.swsusp_cli.specs.Replay.{Formats}

-- what a script's machine needs, so that its area can be formatted on a disk with `blocks` blocks
pub record CanFormat (script : ScriptValue) (blocks : ℕ) : Type 0 where
  pub some_slots : 0 < script.hardware.slots
  pub header : block_of_slot script.hardware 0 < blocks
  pub few : length script.bad ≤ 630

-- The disk afterwards.

header_within : (h : Hardware) (v : disk.DiskImage) → block_of_slot h 0 < blocks_of v → header_of h v ≡ disk.block v (block_of_slot h 0)
header_within h v within = ap (λ (t : Bool). cond t (disk.block v (block_of_slot h 0)) zero_page) (lt-ltb (block_of_slot h 0) (blocks_of v) within)

-- the formatted area carries no mark
pub formatted_unmarked : (h : Hardware) (last : ℕ) (bad : List ℕ) (blocks : ℕ) (c mid : disk.Content) → disk.IsContent blocks c → block_of_slot h 0 < blocks → length bad ≤ 630 →
    disk.Writes (block_of_slot h 0) (area_page last bad) c mid → Marked h (disk.as_it_reads mid) → ⊥
formatted_unmarked h last bad blocks c mid whole within few writes marked =
    let size = writes.others.size in
    let all = whole.size in
    let read = length-as_it_reads mid in
    let reads = block-written (block_of_slot h 0) (area_page last bad) c mid (IsPage-area_page last bad few) (omega arith) writes in
    let here : block_of_slot h 0 < blocks_of (disk.as_it_reads mid) = omega arith in
    area_page-unmarked last bad few (subst IsMarked (header_within h (disk.as_it_reads mid) here ∙ reads) marked)

-- the disk's size and every other block stay
pub formats_size : (h : Hardware) (last : ℕ) (bad : List ℕ) (c d : disk.Content) → Formats h last bad c d → length d ≡ length c
formats_size h last bad c d formats =
    ap length formats.2 ∙ length-settled (disk.as_it_reads formats.0) ∙ length-as_it_reads formats.0 ∙ formats.1.others.size

live_at : (c : disk.Content) (s : ℕ) → slice_index_or (disk.as_it_reads c) s [] ≡ (disk.sector c s).live
live_at [] s = refl
live_at (x ∷ c) zero = refl
live_at (x ∷ c) (suc s) = live_at c s

sector_stays : (x b s : ℕ) (old new : disk.Content) → disk.SameOutside x old new → b ≢ x → 8 * b ≤ s → s < 8 * b + 8 → disk.sector new s ≡ disk.sector old s
sector_stays x b s old new others apart low high = elim (cases_lt b x) [
  | inl below ↦ others.below s (omega arith)
  | inr ge ↦ elim (cases_lt x b) [
    | inl above ↦ others.above s (omega arith)
    | inr le ↦ absurd (apart (omega arith))
  ]
]

pub formats_leaves : (h : Hardware) (blocks last : ℕ) (bad : List ℕ) (b : ℕ) (c d : disk.Content) → disk.IsContent blocks c → Formats h last bad c d → b ≢ block_of_slot h 0 → LeavesBlock b c d
formats_leaves h blocks last bad b c d whole formats other = record {
  leaves = λ v s in' lt low high.
      let mid = formats.0 in
      let others = formats.1.others in
      let is = IsImage-after_sync mid d v formats.2 in' in
      let stays = sector_stays (block_of_slot h 0) b s c mid others other low high in
      let reads : slice_index_or v s [] ≡ slice_index_or (disk.as_it_reads c) s [] =
      ap (λ (u : disk.DiskImage). slice_index_or u s []) is ∙ live_at mid s ∙ ap (λ (x : disk.Sector). x.live) stays ∙ sym (live_at c s) in
      let size : length v ≡ length c = ap length is ∙ length-as_it_reads mid ∙ others.size in
      subst (Contains (disk.sector c s).candidates) (sym reads) ((IsImage-as_it_reads blocks c whole).chosen s (omega arith));
}
