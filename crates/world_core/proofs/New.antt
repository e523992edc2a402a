-- A new world over a disk without a mark, and what a started one has come to.
use Rattle.std.proofs.Common.{◌≡◌, ℕ, Bool, true, false, cond, List, take, Option, Some, None, Result, Ok, Err, refl, sym, ap, ap₂, ◌∙◌, subst, nat_eq}
use Rattle.std.specs.Cmp.Lexicographic.{pointwise, same_text}
use Rattle.std.specs.Result.{IfOk, MatchResult}
use Rattle.definitions.specs.Bytes.{bytes_at}
use Rattle.definitions.specs.Disk as disk
use Rattle.definitions.specs.SwapHeader.{IsMarked, sig_of, image_signature, taken_back}
use Rattle.definitions.proofs.DiskLaws.{IsImage-settled, as_it_reads-settled}
use Rattle.image_format.specs.AreaKind.{area_kind}
use Rattle.image_format.specs.declared.signature.area.Area.{Area}
use Rattle.image_format.specs.declared.signature.area.AreaKind.TheVariants.{Swap}
use Rattle.plain_machine.specs.Machine.{Hardware, Memory}
use Rattle.plain_machine.specs.Shows.{ShowsKept}
use Rattle.plain_machine.specs.Chain.{header_of, blocks_of as blocks_in, Marked}
use Rattle.plain_machine.specs.UsableArea.{area_block, area_fault, dump_area_fault, kind_or_fit_fault}
use Rattle.plain_machine.specs.declared.event.BootFrom.{BootFrom}
use Rattle.plain_machine.specs.declared.event.BootFrom.TheVariants.{Fresh, Kept}
use Rattle.image_format.specs.declared.signature.area.AreaKind.{AreaKind}
use Rattle.plain_machine.specs.State.{off, Held, nothing, sure, other}
use Rattle.plain_machine.specs.Stands.{Stands, IsHeld, AgreeOnArea}
use Rattle.plain_machine.specs.declared.no_swap.NoSwap.{NoSwap}
use Rattle.world_core.specs.World.{World}
use Rattle.world_core.specs.StandsFor.{StandsFor, IsNewWorld, IsOff, IsKeptDump, hardware_of, keeps_dump, shown, blocks_of}
use Rattle.world_core.specs.Started.{IsStarted, area_kind_of, fault_at_start}
use Rattle.world_core.proofs.Cases.{rests_by}
use Rattle.world_core.proofs.Ending.{Ends}
use Rattle.protocol_laws.proofs.Signatures.{marked_true, marked_false}
use Rattle.world_core.proofs.Headers.{IsAreaOf, IsKeptAreaOf, StartsOver, kind_read}

not_true : (b : Bool) → (b ≡ true → ⊥) → b ≡ false
not_true true never = absurd (never refl)
not_true false never = refl

area_block_unmarked : (h : Hardware) (v : disk.DiskImage) → (Marked h v → ⊥) → area_block h v ≡ header_of h v
area_block_unmarked h v un =
    ap (λ (b : Bool). cond b (taken_back (header_of h v)) (header_of h v))
    (not_true (pointwise nat_eq (sig_of (header_of h v)) image_signature) (λ e. un (same_text (sig_of (header_of h v)) image_signature (sym e))))

-- a machine that is off, and what memory is then
pub record IsKeeping (w : World) (h : Hardware) (kept : Option Memory) : Type 0 where
  pub hardware : hardware_of w ≡ h
  pub is_off : IsOff w
  pub memory : IsKeptDump h w.frames (keeps_dump w.core) kept

shows_kept : (w : World) (h : Hardware) (kept : Option Memory) → IsKeptDump h w.frames (keeps_dump w.core) kept → ShowsKept h (shown w) kept
shows_kept w h None keeps = keeps
shows_kept w h (Some m) keeps = keeps

-- a machine that is off, over a disk with one image
new_stands : (w : World) (h : Hardware) (kept : Option Memory) (v : disk.DiskImage) (held : Held) → IsKeeping w h kept → IsHeld h (disk.settled v) held → (IsMarked (area_block h v) → ⊥) → StandsFor w (disk.settled v) (off held kept)
new_stands w h kept v held keeps is un =
    let stands : Stands (hardware_of w) (shown w) (disk.settled v) (off held kept) =
    subst (λ (g : Hardware). Stands g (shown w) (disk.settled v) (off held kept)) (sym keeps.hardware)
    (record {
      activity = rests_by w keeps.is_off;
      parts = record {
        memory = shows_kept w h kept keeps.memory;
        held = is;
        header = record {
          unmarked = λ u in' marked. un (subst (λ (x : disk.DiskImage). IsMarked (area_block h x)) (IsImage-settled v u in') marked);
          one = λ u in'. agree (area_block h u) (area_block h (disk.as_it_reads (disk.settled v))) (ap (area_block h) (IsImage-settled v u in' ∙ sym (as_it_reads-settled v)));
        };
      };
    }) in
    record { stands = stands; image = tt; resume = tt } where
      agree : (a b : List ℕ) → a ≡ b → AgreeOnArea a b
      agree a b e = record { front = ap (take 4056) e; signature = ap (λ (page : List ℕ). bytes_at 10 page 4086) e }

pub stands_new : (w : World) (h : Hardware) (kept : Option Memory) (v : disk.DiskImage) → IsKeeping w h kept → (Marked h v → ⊥) → StandsFor w (disk.settled v) (off nothing kept)
stands_new w h kept v keeps un =
    new_stands w h kept v nothing keeps (λ u in' marked. un (subst (Marked h) (IsImage-settled v u in') marked)) (λ marked. un (subst IsMarked (area_block_unmarked h v un) marked))

pub stands_marked : (w : World) (h : Hardware) (kept : Option Memory) (v : disk.DiskImage) → IsKeeping w h kept → Marked h v → (IsMarked (area_block h v) → ⊥) → StandsFor w (disk.settled v) (off (sure other) kept)
stands_marked w h kept v keeps marked un = new_stands w h kept v (sure other) keeps (λ u in'. subst (Marked h) (sym (IsImage-settled v u in')) marked) un

area_of_started : (h : Hardware) (v : disk.DiskImage) (blocks : ℕ) (header : List ℕ) (area : Result Area NoSwap) → area_kind_of header ≡ area_kind (area_block h v) → blocks_in v ≡ blocks →
    MatchResult area (λ a. (area_kind_of header ≡ Swap a) × (kind_or_fit_fault h blocks (area_kind_of header) ≡ None)) (λ why. kind_or_fit_fault h blocks (area_kind_of header) ≡ Some why) → IsAreaOf h v area
unfolding area_fault
area_of_started h v blocks header (Ok a) kind count is = (sym kind ∙ is.0, ap₂ (kind_or_fit_fault h) count (sym kind) ∙ is.1)
area_of_started h v blocks header (Err why) kind count is = ap₂ (kind_or_fit_fault h) count (sym kind) ∙ is

area_of_kept : (h : Hardware) (v : disk.DiskImage) (m : Memory) (blocks : ℕ) (header : List ℕ) (area : Result Area NoSwap) → area_kind_of header ≡ area_kind (area_block h v) → blocks_in v ≡ blocks →
    MatchResult area (λ a. (area_kind_of header ≡ Swap a) × (fault_at_start Kept h blocks m (area_kind_of header) ≡ None)) (λ why. fault_at_start Kept h blocks m (area_kind_of header) ≡ Some why) → IsKeptAreaOf h v m area
unfolding dump_area_fault area_fault
area_of_kept h v m blocks header (Ok a) kind count is = (sym kind ∙ is.0, ap₂ (λ (n : ℕ) (k : AreaKind). fault_at_start Kept h n m k) count (sym kind) ∙ is.1)
area_of_kept h v m blocks header (Err why) kind count is = ap₂ (λ (n : ℕ) (k : AreaKind). fault_at_start Kept h n m k) count (sym kind) ∙ is

starts_over : (from : BootFrom) (h : Hardware) (v : disk.DiskImage) (m : Memory) (blocks : ℕ) (header : List ℕ) (area : Result Area NoSwap) → area_kind_of header ≡ area_kind (area_block h v) → blocks_in v ≡ blocks →
    MatchResult area (λ a. (area_kind_of header ≡ Swap a) × (fault_at_start from h blocks m (area_kind_of header) ≡ None)) (λ why. fault_at_start from h blocks m (area_kind_of header) ≡ Some why) → StartsOver from h v m area
starts_over Fresh h v m blocks header area kind count is = area_of_started h v blocks header area kind count is
starts_over Kept h v m blocks header area kind count is = area_of_kept h v m blocks header area kind count is

pub ends_of_started : (from : BootFrom) (old new : World) (header : List ℕ) (image : Bool) (v : disk.DiskImage) → blocks_in v ≡ blocks_of old → header ≡ header_of (hardware_of old) v → IsStarted from old new header image → Ends from old new v image
ends_of_started from old new header image v count is started =
    let h = hardware_of old in
    record {
      core = started.core;
      hardware = started.hardware;
      area = starts_over from h v old.frames (blocks_of old) header new.machine.area (ap area_kind_of is ∙ kind_read h v) count started.area;
      frames = started.frames;
      held = started.held;
      flights = started.flights;
      marked = λ e. subst IsMarked is (marked_true header (sym started.marked ∙ e));
      unmarked = λ e marked. marked_false header (sym started.marked ∙ e) (subst IsMarked (sym is) marked);
    }

-- a world that was made, with what is kept
pub new_of : {E : Type 0} (h : Hardware) (frames : Memory) (keeps : Bool) (kept : Option Memory) (made : Result World E) → IfOk made (λ w. (k : Option Memory) → IsKeptDump h frames keeps k → IsNewWorld h k w) → IsKeptDump h frames keeps kept → IfOk made (IsNewWorld h kept)
new_of h frames keeps kept (Ok w) is memory = is kept memory
new_of h frames keeps kept (Err e) is memory = tt
