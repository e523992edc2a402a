-- The begin of a hibernation that isn't refused.
use Rattle.std.proofs.Common.{◌≡◌, ℕ, ◌+◌, ◌≤◌, inl, inr, Bool, true, false, eqb, ltb, length, Option, Some, None, refl, sym, ◌∙◌, subst, arith}
use Rattle.std.specs.List.{range_with_len}
use Rattle.std.proofs.lemmas.Bool.{cases_lt, lt-ltb, false≢true}
use Rattle.std.proofs.lemmas.Option.{none-some}
use Rattle.std.proofs.lemmas.List.FromFn.{length-range_with_len}
use Rattle.std.proofs.lemmas.List.Sums.{count_by-le-length, length-filter}
use Rattle.plain_machine.specs.Machine.{Hardware, IsHardware, unused_slots, slot_entry}
use Rattle.plain_machine.specs.Chain.{or_else}
use Rattle.plain_machine.specs.Image.{image_of_memory, pages_of, maps_of}
use Rattle.plain_machine.specs.Refusals.{refusal, refused_if, is_held, busy, closed, no_swap, no_frames, no_slots}
use Rattle.plain_machine.specs.Stands.{IsHeld, IsBeforeCall}
use Rattle.plain_machine.specs.State.{Running, Held, nothing, sure, maybe}
use Rattle.plain_machine.specs.declared.no_swap.NoSwap.{NoSwap}
use Rattle.plain_machine.specs.declared.reply.Reply.{Reply}
use Rattle.plain_machine.specs.declared.reply.Reply.TheVariants as reply
use Rattle.plain_machine.proofs.Flights.{idle_tasks}
use Rattle.plain_machine.proofs.Calls.{call_writes, synced_at}
use Rattle.protocol_laws.proofs.Back.{held_before}
use Rattle.protocol_laws.specs.Hibernating.{IsAcceptedUnlessRefused, Begins}

-- What isn't refused.

pub first_none : (x y : Option Reply) → or_else x y ≡ None → x ≡ None
first_none None y e = refl
first_none (Some r) y e = absurd (none-some r (sym e))

pub second_none : (x y : Option Reply) → or_else x y ≡ None → y ≡ None
second_none None y e = e
second_none (Some r) y e = absurd (none-some r (sym e))

test_fails : (b : Bool) (r : Reply) → refused_if b r ≡ None → b ≡ false
test_fails true r e = absurd (none-some r (sym e))
test_fails false r e = refl

not_held : (held : Held) → is_held held ≡ false → held ≡ nothing
not_held nothing e = refl
not_held (sure x) e = absurd (false≢true (sym e))
not_held (maybe x) e = absurd (false≢true (sym e))

has_swap : (why : Option NoSwap) → no_swap why ≡ None → why ≡ None
has_swap None e = refl
has_swap (Some why) e = absurd (none-some (reply.NoSwap why) (sym e))

not_below : (a b : ℕ) → ltb a b ≡ false → b ≤ a
not_below a b e = elim (cases_lt a b) [ inl lt ↦ absurd (false≢true (sym e ∙ lt-ltb a b lt)) | inr le ↦ le ]

few_slots : (h : Hardware) (a : Running) → IsHardware h → length (unused_slots h a.memory) ≤ 131072
few_slots h a hw =
    let test : ℕ → Bool = λ s. eqb (slot_entry h a.memory s) 0 in
    let part = count_by-le-length test (range_with_len 0 h.slots) in
    let size = length-filter test (range_with_len 0 h.slots) in
    let all = length-range_with_len 0 h.slots in
    let few = hw.few_slots in
    omega arith

room_suffices : (pages slots : ℕ) → pages + 1026 ≤ slots → slots ≤ 131072 → pages + maps_of pages ≤ slots
room_suffices pages slots enough few = omega arith

-- a hibernation that isn't refused is accepted
pub accepts : IsAcceptedUnlessRefused
unfolding refusal
accepts h a f hw none =
    let i = image_of_memory h a.memory a.slots f in
    let rest = second_none (busy a) (or_else (closed a) (or_else (no_swap a.unusable) (or_else (no_frames h a i) (no_slots h a i)))) none in
    let open_is = first_none (closed a) (or_else (no_swap a.unusable) (or_else (no_frames h a i) (no_slots h a i))) rest in
    let behind = second_none (closed a) (or_else (no_swap a.unusable) (or_else (no_frames h a i) (no_slots h a i))) rest in
    let swap = first_none (no_swap a.unusable) (or_else (no_frames h a i) (no_slots h a i)) behind in
    let slots = second_none (no_frames h a i) (no_slots h a i) (second_none (no_swap a.unusable) (or_else (no_frames h a i) (no_slots h a i)) behind) in
    let free = length (unused_slots h a.memory) in
    let enough = not_below free (pages_of i + 1026) (test_fails (ltb free (pages_of i + 1026)) (reply.NoSlots free (pages_of i + 1026)) slots) in
    record {
      idle = idle_tasks a (first_none (busy a) (or_else (closed a) (or_else (no_swap a.unusable) (or_else (no_frames h a i) (no_slots h a i)))) none);
      image = refl;
      unheld = not_held a.held (test_fails (is_held a.held) reply.Closed open_is);
      usable = has_swap a.unusable swap;
      room = room_suffices (pages_of i) free enough (few_slots h a hw);
    }

pub begins : Begins
begins h shown shown' c a f suspends hw stands none activity shows =
    let i = image_of_memory h a.memory a.slots f in
    let accepted = accepts h a f hw none in
    let was = stands.parts.disk in
    record {
      activity = activity;
      parts = record {
        behind = record {
          memory = shows.shows;
          held = subst (IsHeld h c) (accepted.unheld ∙ sym (held_before suspends i a 0 (omega arith))) was.held;
          task_slots = was.task_slots;
          flights = was.flights;
          slot_pages = was.slot_pages;
          header = was.header;
          area = was.area;
        };
        accepted = accepted;
        names = shows.names;
        written = record {
          laid = λ k d lt. absurd (omega arith);
          copies = shows.copies;
          durable = λ synced. absurd (let few = synced_at i 0 synced in omega arith);
        };
        before = subst (IsBeforeCall h shown' c i a) (sym (call_writes i 0 (omega arith))) tt;
      };
    }
