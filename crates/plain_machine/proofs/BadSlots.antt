-- Memories with the same slot entries have the same bad slots, and the same slots of tasks.
use Rattle.std.proofs.Common.{◌≡◌, ◌<◌, ◌≤◌, ℕ, Bool, cond, not, eqb, ◌&&◌, List, [], ◌∷◌, Option, Some, None, refl, sym, ap, ap₂, ◌∙◌, arith, subst}
use Rattle.std.specs.List.{Contains, range_with_len, list_all}
use Rattle.definitions.proofs.Ascending.{Contains-head, Contains-tail}
use Rattle.definitions.proofs.ZoneNumbers.{range-bounds}
use Rattle.image_format.specs.declared.signature.area.AreaKind.{AreaKind}
use Rattle.image_format.specs.declared.signature.area.AreaKind.TheVariants.{Image, Old, Other, BadArea, Swap}
use Rattle.plain_machine.specs.Machine.{Hardware, Memory, raw_slot_entry, bad_slot, image_slot}
use Rattle.plain_machine.specs.Image.{SlotPages}
use Rattle.plain_machine.specs.Loader.{has}
use Rattle.plain_machine.specs.Stands.{AreTaskSlots, IsTaskSlot, IsTarget, HasFlights, HasArea, FitsArea}
use Rattle.plain_machine.specs.State.{Flight, Running}
use Rattle.plain_machine.specs.UsableArea.{area_block, area_fault, bad_set_fault, bad_slots_of, dump_area_fault, first_fault}
use Rattle.plain_machine.specs.declared.no_swap.NoSwap.{NoSwap}
use Rattle.definitions.specs.Disk as disk
use Rattle.image_format.specs.AreaKind.{area_kind}
use Rattle.plain_machine.specs.declared.no_swap.NoSwap.TheVariants as no_swap

-- the entries are the same
abbrev pub SameSlots : Hardware → Memory → Memory → Type 0
SameSlots h m n = (s : ℕ) → s < h.slots → raw_slot_entry h n s ≡ raw_slot_entry h m s

list_all-same : (p q : ℕ → Bool) (xs : List ℕ) → ((x : ℕ) → Contains xs x → p x ≡ q x) → list_all p xs ≡ list_all q xs
list_all-same p q [] same = refl
list_all-same p q (x ∷ xs) same = ap₂ (λ (a b : Bool). a && b) (same x (Contains-head x xs)) (list_all-same p q xs (λ y in'. same y (Contains-tail x xs y in')))

pub bad_set-same : (h : Hardware) (m n : Memory) (kind : AreaKind) → SameSlots h m n → bad_set_fault h n kind ≡ bad_set_fault h m kind
bad_set-same h m n (Image mark) same = refl
bad_set-same h m n Old same = refl
bad_set-same h m n (Other sig) same = refl
bad_set-same h m n (BadArea why) same = refl
bad_set-same h m n (Swap area) same =
    ap (λ (b : Bool). cond b None (Some no_swap.BadSet))
    (list_all-same (λ s. cond (eqb (raw_slot_entry h n s) bad_slot) (has (bad_slots_of area) s) (not (has (bad_slots_of area) s)))
    (λ s. cond (eqb (raw_slot_entry h m s) bad_slot) (has (bad_slots_of area) s) (not (has (bad_slots_of area) s))) (range_with_len 0 h.slots)
    (λ s in'. let bounds = range-bounds 0 h.slots s in' in let below = bounds.1 in ap (λ (entry : ℕ). cond (eqb entry bad_slot) (has (bad_slots_of area) s) (not (has (bad_slots_of area) s))) (same s (omega arith))))

seen_same : (e f : ℕ) → e ≡ f → cond (eqb e image_slot) 0 e ≡ cond (eqb f image_slot) 0 f
seen_same e f same = ap (λ (x : ℕ). cond (eqb x image_slot) 0 x) same

pub is_task_slot-same : (h : Hardware) (m n : Memory) (s : ℕ) → SameSlots h m n → IsTaskSlot h m s → IsTaskSlot h n s
is_task_slot-same h m n s same was =
    let entry = seen_same (raw_slot_entry h n s) (raw_slot_entry h m s) (same s was.0) in
    (was.0, subst (λ (k : ℕ). 1 ≤ k) (sym entry) was.1, subst (λ (k : ℕ). k ≤ 64) (sym entry) was.2)

same_back : (h : Hardware) (m n : Memory) → SameSlots h m n → SameSlots h n m
same_back h m n same s lt = sym (same s lt)

pub task_slots-same : (h : Hardware) (why : Option NoSwap) (m n : Memory) (flights : ℕ → Option Flight) (slots : SlotPages) → SameSlots h m n → AreTaskSlots h why m flights slots → AreTaskSlots h why n flights slots
task_slots-same h why m n flights slots same are = record {
  usable = are.usable;
  tasks = λ s page e. is_task_slot-same h m n s same (are.tasks s page e);
  landed = are.landed;
  paged = λ none s is not. are.paged none s (is_task_slot-same h n m s (same_back h m n same) is) not;
}

pub no_target : (flights : ℕ → Option Flight) → ((t : ℕ) → flights t ≡ None) → (s : ℕ) → IsTarget flights s → ⊥
no_target flights idle s target = let none = idle target.0 in let some = target.2 in cc

-- where no operation is unfinished it doesn't matter which machine's they are
pub task_slots-idle : (h : Hardware) (why : Option NoSwap) (m : Memory) (old new : ℕ → Option Flight) (slots : SlotPages) → ((t : ℕ) → old t ≡ None) → ((t : ℕ) → new t ≡ None) → AreTaskSlots h why m old slots → AreTaskSlots h why m new slots
task_slots-idle h why m old new slots old_idle new_idle are = record {
  usable = are.usable;
  tasks = are.tasks;
  landed = λ s page e target. no_target new new_idle s target;
  paged = λ none s is not. are.paged none s is (no_target old old_idle s);
}

pub no_flights-owned : (h : Hardware) (a : Running) → ((t : ℕ) → a.flights t ≡ None) → HasFlights h a
no_flights-owned h a idle = record {
  outs = λ t s p e. let none = idle t in absurd (cc);
  unheld = λ t s p e. let none = idle t in absurd (cc);
  ins = λ t s p e. let none = idle t in absurd (cc);
}

-- the area by its two tests
pub dump_area-usable : (h : Hardware) (v : disk.DiskImage) (m : Memory) → area_fault h v ≡ None → bad_set_fault h m (area_kind (area_block h v)) ≡ None → dump_area_fault h v m ≡ None
unfolding dump_area_fault
dump_area-usable h v m area bad = ap₂ first_fault area bad

first-left : (a b : Option NoSwap) → first_fault a b ≡ None → a ≡ None
first-left None b e = refl
first-left (Some why) b e = absurd (cc)

first-right : (a b : Option NoSwap) → first_fault a b ≡ None → b ≡ None
first-right None b e = e
first-right (Some why) b e = absurd (cc)

pub area-usable : (h : Hardware) (v : disk.DiskImage) (m : Memory) → dump_area_fault h v m ≡ None → area_fault h v ≡ None
unfolding dump_area_fault
area-usable h v m e = first-left (area_fault h v) (bad_set_fault h m (area_kind (area_block h v))) e

pub bad_set-usable : (h : Hardware) (v : disk.DiskImage) (m : Memory) → dump_area_fault h v m ≡ None → bad_set_fault h m (area_kind (area_block h v)) ≡ None
unfolding dump_area_fault
bad_set-usable h v m e = first-right (area_fault h v) (bad_set_fault h m (area_kind (area_block h v))) e

-- the area's test looks only at the slots' entries
pub dump_area-same : (h : Hardware) (v : disk.DiskImage) (m n : Memory) → SameSlots h m n → dump_area_fault h v n ≡ dump_area_fault h v m
unfolding dump_area_fault
dump_area-same h v m n same = ap (first_fault (area_fault h v)) (bad_set-same h m n (area_kind (area_block h v)) same)

first_of : (a b : Option NoSwap) → (a ≡ None → b ≡ None) → a ≡ first_fault a b
first_of None b then = sym (then refl)
first_of (Some why) b then = refl

pub dump_area-of : (h : Hardware) (v : disk.DiskImage) (m : Memory) → (area_fault h v ≡ None → bad_set_fault h m (area_kind (area_block h v)) ≡ None) → area_fault h v ≡ dump_area_fault h v m
unfolding dump_area_fault
dump_area-of h v m then = first_of (area_fault h v) (bad_set_fault h m (area_kind (area_block h v))) then

-- a running machine's area that can be used
pub fits_area : (h : Hardware) (c : disk.Content) (a : Running) → HasArea h c a → a.unusable ≡ None → FitsArea h (disk.as_it_reads c) a.memory
fits_area h c a has usable = record {
  area = area-usable h (disk.as_it_reads c) a.memory (sym has ∙ usable);
  bad_slots = bad_set-usable h (disk.as_it_reads c) a.memory (sym has ∙ usable);
}

pub has_area : (h : Hardware) (c : disk.Content) (a : Running) → a.unusable ≡ None → FitsArea h (disk.as_it_reads c) a.memory → HasArea h c a
has_area h c a usable fits = usable ∙ sym (dump_area-usable h (disk.as_it_reads c) a.memory fits.area fits.bad_slots)
