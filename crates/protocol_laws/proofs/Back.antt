-- A hibernation that ends early: the machine runs again, with nothing held.
use Rattle.std.proofs.Common.{◌≡◌, ℕ, ◌+◌, ◌<◌, ◌≤◌, Bool, List, [], Option, Some, None, refl, sym, ap, ◌∙◌, subst, arith}
use Rattle.definitions.specs.Disk as disk
use Rattle.plain_machine.specs.Machine.{Hardware, block_of_slot}
use Rattle.plain_machine.specs.Image.{Image, SlotPages, image_of_memory, hibernate_steps}
use Rattle.plain_machine.specs.Shows.{WorldView, runs, ShowsRunning}
use Rattle.plain_machine.specs.Stands.{Stands, HasOneImage, IsBeforeCall, IsBeforeMark, IsBeforeLastSync, IsHeld, HaveSlotPages, NamesOnly, NamesHeld, IsAccepted, HasFlights, AreTaskSlots, laid_blocks}
use Rattle.plain_machine.specs.Step.{no_flights}
use Rattle.plain_machine.specs.declared.no_swap.NoSwap.{NoSwap}
use Rattle.plain_machine.proofs.BadSlots.{task_slots-idle}
use Rattle.plain_machine.proofs.Flights.{no_flights_in}
use Rattle.plain_machine.specs.Calls.{HibernationCall, writes_page, syncs_pages, reads_header, writes_mark, syncs_mark, hibernation_call}
use Rattle.plain_machine.specs.State.{on, hibernating, Running, nothing, maybe, own, held_in, held_hibernating}
use Rattle.plain_machine.proofs.Calls.{IsAt, is_at, call_reads, call_marks, call_last}
use Rattle.protocol_laws.proofs.Same.{KeepsHeader, header_kept, area_kept, nothing_kept}

-- before the mark nothing is held
pub held_before : (suspends : Bool) (i : Image) (a : Running) (k : ℕ) → k + 1 < hibernate_steps i → held_in (hibernating suspends i a k) ≡ nothing
held_before suspends i a k lt = by_call (hibernation_call i k) (is_at i k) where
  by_call : (call : Option HibernationCall) → IsAt call k (hibernate_steps i) → held_hibernating i call ≡ nothing
  by_call (Some writes_page) at = refl
  by_call (Some syncs_pages) at = refl
  by_call (Some reads_header) at = refl
  by_call (Some writes_mark) at = refl
  by_call (Some syncs_mark) at = absurd (omega arith)
  by_call None at = absurd (omega arith)

pub held_behind : (suspends : Bool) (i : Image) (a : Running) (k : ℕ) → hibernate_steps i ≤ k + 1 → held_in (hibernating suspends i a k) ≡ maybe (own i)
held_behind suspends i a k le = by_call (hibernation_call i k) (is_at i k) where
  by_call : (call : Option HibernationCall) → IsAt call k (hibernate_steps i) → held_hibernating i call ≡ maybe (own i)
  by_call (Some writes_page) at = absurd (omega arith)
  by_call (Some syncs_pages) at = absurd (omega arith)
  by_call (Some reads_header) at = absurd (omega arith)
  by_call (Some writes_mark) at = absurd (omega arith)
  by_call (Some syncs_mark) at = refl
  by_call None at = refl

pub unheld : (h : Hardware) (shown : WorldView) (c : disk.Content) (suspends : Bool) (i : Image) (a : Running) (k : ℕ) → k + 1 < hibernate_steps i → Stands h shown c (hibernating suspends i a k) → IsHeld h c nothing
unheld h shown c suspends i a k lt stands = subst (IsHeld h c) (held_before suspends i a k lt) stands.parts.behind.held

-- before the first sync is made nothing more is known
pub early_call : (h : Hardware) (shown : WorldView) (c : disk.Content) (i : Image) (a : Running) (k : ℕ) → k + 4 ≤ hibernate_steps i → IsBeforeCall h shown c i a (hibernation_call i k)
early_call h shown c i a k le = by_call (hibernation_call i k) (is_at i k) where
  by_call : (call : Option HibernationCall) → IsAt call k (hibernate_steps i) → IsBeforeCall h shown c i a call
  by_call (Some writes_page) at = tt
  by_call (Some syncs_pages) at = tt
  by_call (Some reads_header) at = absurd (omega arith)
  by_call (Some writes_mark) at = absurd (omega arith)
  by_call (Some syncs_mark) at = absurd (omega arith)
  by_call None at = tt

-- What there is before a call, where it is known which comes.

pub before_read : (h : Hardware) (shown : WorldView) (c : disk.Content) (suspends : Bool) (i : Image) (a : Running) (k : ℕ) → k + 3 ≡ hibernate_steps i → Stands h shown c (hibernating suspends i a k) → HasOneImage c
before_read h shown c suspends i a k at stands = subst (IsBeforeCall h shown c i a) (call_reads i k at) stands.parts.before

pub before_mark : (h : Hardware) (shown : WorldView) (c : disk.Content) (suspends : Bool) (i : Image) (a : Running) (k : ℕ) → k + 2 ≡ hibernate_steps i → Stands h shown c (hibernating suspends i a k) → IsBeforeMark h shown c
before_mark h shown c suspends i a k at stands = subst (IsBeforeCall h shown c i a) (call_marks i k at) stands.parts.before

pub before_last : (h : Hardware) (shown : WorldView) (c : disk.Content) (suspends : Bool) (i : Image) (a : Running) (k : ℕ) → k + 1 ≡ hibernate_steps i → Stands h shown c (hibernating suspends i a k) → IsBeforeLastSync h shown c i a
before_last h shown c suspends i a k at stands = subst (IsBeforeCall h shown c i a) (call_last i k at) stands.parts.before

-- each slot that has a page reads as before
abbrev pub ReadsSlots : Hardware → disk.Content → disk.Content → SlotPages → Type 0
ReadsSlots h c c' slots =
    (s : ℕ) (page : List ℕ) → slots s ≡ Some page → disk.block (disk.as_it_reads c') (block_of_slot h s) ≡ disk.block (disk.as_it_reads c) (block_of_slot h s)

pub slots_read : (h : Hardware) (c c' : disk.Content) (slots : SlotPages) → ReadsSlots h c c' slots → HaveSlotPages h c slots → HaveSlotPages h c' slots
slots_read h c c' slots same have = λ s page e. same s page e ∙ have s page e

pub names_nothing : (h : Hardware) (shown : WorldView) (a : Running) → a.held ≡ nothing → NamesOnly h shown [] → NamesHeld h shown a.held
names_nothing h shown a none names = subst (NamesHeld h shown) (sym none) names

-- an image that was laid perhaps stays, and its slots are named
pub names_laid : (h : Hardware) (shown : WorldView) (i : Image) (a : Running) → IsAccepted h a i → NamesOnly h shown (laid_blocks h a i) → NamesHeld h shown (maybe (own i))
names_laid h shown i a accepted names = record {
  memory = a.memory;
  image = subst (λ (u : SlotPages). i ≡ image_of_memory h a.memory u i.format) (sym (ap (λ (x : Image). x.slots) accepted.image)) accepted.image;
  names = names;
}

-- the tasks' slots are those of the image that a hibernation saves
pub own_task_slots : (h : Hardware) (a : Running) (i : Image) → IsAccepted h a i → HasFlights h a → AreTaskSlots h a.unusable a.memory a.flights a.slots → AreTaskSlots h None a.memory no_flights i.slots
own_task_slots h a i accepted flights are =
    subst (AreTaskSlots h None a.memory no_flights) (sym (ap (λ (x : Image). x.slots) accepted.image))
    (task_slots-idle h None a.memory a.flights no_flights a.slots (no_flights_in h a flights accepted.idle) (λ t. refl)
    (subst (λ (why : Option NoSwap). AreTaskSlots h why a.memory a.flights a.slots) accepted.usable are))

-- Whatever call kept the header and the slots, the machine runs as it ran.
pub goes_back : (h : Hardware) (shown shown' : WorldView) (c c' : disk.Content) (suspends : Bool) (i : Image) (a : Running) (k : ℕ) → k + 1 < hibernate_steps i → Stands h shown c (hibernating suspends i a k) →
    KeepsHeader h c c' → ReadsSlots h c c' a.slots → shown'.activity ≡ runs → ShowsRunning h shown' a → NamesOnly h shown' [] → Stands h shown' c' (on a)
goes_back h shown shown' c c' suspends i a k lt stands keeps reads activity shows names =
    let behind = stands.parts.behind in
    let accepted = stands.parts.accepted in
    record {
      activity = activity;
      parts = record {
        memory = shows;
        disk = record {
          held = subst (IsHeld h c') (sym accepted.unheld) (nothing_kept h c c' keeps (unheld h shown c suspends i a k lt stands));
          task_slots = behind.task_slots;
          flights = behind.flights;
          slot_pages = slots_read h c c' a.slots reads behind.slot_pages;
          names = names_nothing h shown' a accepted.unheld names;
          header = header_kept h c c' keeps behind.header;
          area = area_kept h c c' a keeps behind.area;
        };
      };
    }
