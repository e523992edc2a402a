-- Why a hibernation is refused, or is not, in each running state that a machine stands for.
use Rattle.std.proofs.Common.{◌≡◌, ◌≢◌, ◌≤◌, ◌<◌, ℕ, ◌+◌, ◌-◌, Bool, true, false, ltb, List, [], length, refl, sym, ap, ap₂, ◌∙◌, subst, arith, Option, Some, None, Result, Ok, Err, IsOk}
use Rattle.std.proofs.lemmas.Bool.{false≢true, lt-ltb, le-ltb}
use Rattle.page_core.specs.declared.format.Format.{Format}
use Rattle.definitions.specs.Disk as disk
use Rattle.definitions.proofs.Ascending.{Contains-nil}
use Rattle.image_format.specs.declared.signature.area.Area.{Area}
use Rattle.snapshot.specs.Taken.{Taken, zero_frames}
use Rattle.snapshot.specs.declared.Counts.{Counts}
use Rattle.swap_slots.specs.Table.{free_in}
use Rattle.plain_machine.specs.Machine.{Hardware, Memory, IsHardware, Fits, saveable, unused, unused_slots}
use Rattle.plain_machine.specs.Chain.{or_else}
use Rattle.plain_machine.specs.Image.{Image, image_of_memory, n_of, pages_of}
use Rattle.plain_machine.specs.Refusals.{refusal, refused_if, is_held, busy, busy_reply, closed, no_swap, no_frames, no_slots}
use Rattle.plain_machine.specs.Shows.{ShowsHeld}
use Rattle.plain_machine.specs.Stands.{Stands, NamesHeld}
use Rattle.plain_machine.specs.State.{on, Running, Held, nothing, sure, maybe, Flight}
use Rattle.plain_machine.specs.declared.event.Event.TheVariants as event
use Rattle.plain_machine.specs.declared.held.Held.{Held as HeldFlag}
use Rattle.plain_machine.specs.declared.held.Held.TheVariants.{No, Yes, Perhaps}
use Rattle.plain_machine.specs.declared.no_swap.NoSwap.{NoSwap}
use Rattle.plain_machine.specs.declared.reply.Reply.{Reply}
use Rattle.plain_machine.specs.declared.reply.Reply.TheVariants as reply
use Rattle.protocol_laws.specs.Snapshots.{NamesNone, IsTakenFrom}
use Rattle.machine.specs.declared.machine.Machine.{Machine}
use Rattle.hib_core.specs.Begin.{IsRefused, busy_of}
use Rattle.hib_core.specs.Begin as begin
use Rattle.machine.specs.Flights.{flights_in}
use Rattle.machine.specs.Running.{reason_of, slot_table_of}
use Rattle.hib_core.specs.Hibernation.{running_by}
use Rattle.hib_core.specs.declared.hib.Hib.{Hib}
use Rattle.protocol_laws.proofs.Sets.{shown_lists, shown_free_slots}
use Rattle.protocol_laws.proofs.Snapshots.{takes_image}
use Rattle.hib_core.proofs.BeginImage.{counts_of}

-- What the page frames show.

-- a running state with nothing held: its lists and its image are had from the page frames
pub record IsSeen (h : Hardware) (frames : Memory) (f : Format) (a : Running) : Type 0 where
  pub fits : Fits h a.memory
  pub held : a.held ≡ nothing
  pub none : NamesNone h frames
  pub image : IsTakenFrom h frames (image_of_memory h a.memory a.slots f)
  pub unused : unused h frames ≡ unused h a.memory
  pub slots : free_in frames (slot_table_of h) ≡ unused_slots h a.memory

pub unheld : (held : Held) → ShowsHeld No held → held ≡ nothing
unheld nothing shows = refl
unheld (sure x) shows = absurd shows
unheld (maybe x) shows = absurd shows

pub seen : (machine : Machine) (frames : Memory) (f : Format) (c : disk.Content) (a : Running) → IsHardware machine.hw → machine.held ≡ No → Stands machine.hw (running_by machine frames) c (on a) → IsSeen machine.hw frames f a
seen machine frames f c a hw unmarked stands =
    let h = machine.hw in
    let runs = stands.parts.memory in
    let held : a.held ≡ nothing = unheld a.held (subst (λ (flag : HeldFlag). ShowsHeld flag a.held) unmarked runs.held) in
    let names : NamesHeld h (running_by machine frames) nothing = subst (NamesHeld h (running_by machine frames)) held stands.parts.disk.names in
    let none : NamesNone h frames = λ s lt e. Contains-nil _ (names s lt e) in
    let lists = shown_lists h a.memory frames hw runs.fits runs.same in
    record {
      fits = runs.fits;
      held = held;
      none = none;
      image = takes_image h a.memory frames a.slots f hw runs.fits runs.same none;
      unused = lists.1;
      slots = shown_free_slots h a.memory frames hw runs.fits runs.same none;
    }

-- The tests, in their order.

pub open_at : (x y : Option Reply) → x ≡ None → or_else x y ≡ y
open_at x y e = ap (λ (o : Option Reply). or_else o y) e

pub stop_at : (x y : Option Reply) (r : Reply) → x ≡ Some r → or_else x y ≡ Some r
stop_at x y r e = ap (λ (o : Option Reply). or_else o y) e

pub test_holds : (b : Bool) (r : Reply) → b ≡ true → refused_if b r ≡ Some r
test_holds b r e = ap (λ (t : Bool). refused_if t r) e

pub test_fails : (b : Bool) (r : Reply) → b ≡ false → refused_if b r ≡ None
test_fails b r e = ap (λ (t : Bool). refused_if t r) e

-- the lowest task in flight is the one that the machine names
pub busy_is : (machine : Machine) (a : Running) → ((t : ℕ) → a.flights t ≡ flights_in machine.flights t) → busy a ≡ busy_reply (busy_of machine)
busy_is machine a flights =
    let same : a.flights ≡ flights_in machine.flights = λ i t. flights t i in
    ap (λ (operations : ℕ → Option Flight). busy (record a { flights = operations })) same

pub not_busy : (machine : Machine) (a : Running) → busy_of machine ≡ None → ((t : ℕ) → a.flights t ≡ flights_in machine.flights t) → busy a ≡ None
not_busy machine a idle flights = busy_is machine a flights ∙ ap busy_reply idle

not_closed : (a : Running) → a.held ≡ nothing → closed a ≡ None
not_closed a held = test_fails (is_held a.held) reply.Closed (ap is_held held)

has_swap : (a : Running) (area : Result Area NoSwap) → IsOk area → a.unusable ≡ reason_of area → no_swap a.unusable ≡ None
has_swap a (Ok area) is e = ap no_swap e
has_swap a (Err why) is e = absurd (false≢true is)

-- The refusals.

pub is_held_shown : (flag : HeldFlag) (held : Held) → flag ≢ No → ShowsHeld flag held → is_held held ≡ true
is_held_shown No held ne shows = absurd (ne refl)
is_held_shown Yes nothing ne shows = absurd shows
is_held_shown Yes (sure x) ne shows = refl
is_held_shown Yes (maybe x) ne shows = refl
is_held_shown Perhaps nothing ne shows = absurd shows
is_held_shown Perhaps (sure x) ne shows = refl
is_held_shown Perhaps (maybe x) ne shows = refl

pub refused_busy : (machine : Machine) (frames : Memory) (f : Format) (t : ℕ) → busy_of machine ≡ Some t → IsRefused machine frames f (reply.Busy t)
unfolding refusal
refused_busy machine frames f t flies c a stands =
    let h = machine.hw in
    let i = image_of_memory h a.memory a.slots f in
    stop_at (busy a) (or_else (closed a) (or_else (no_swap a.unusable) (or_else (no_frames h a i) (no_slots h a i)))) (reply.Busy t)
    (busy_is machine a stands.parts.memory.flights ∙ ap busy_reply flies)

pub refused_closed : (machine : Machine) (frames : Memory) (f : Format) → busy_of machine ≡ None → machine.held ≢ No → IsRefused machine frames f reply.Closed
unfolding refusal
refused_closed machine frames f idle ne c a stands =
    let h = machine.hw in
    let i = image_of_memory h a.memory a.slots f in
    let runs = stands.parts.memory in
    let behind = or_else (no_swap a.unusable) (or_else (no_frames h a i) (no_slots h a i)) in
    open_at (busy a) (or_else (closed a) behind) (not_busy machine a idle runs.flights)
    ∙ stop_at (closed a) behind reply.Closed (test_holds (is_held a.held) reply.Closed (is_held_shown machine.held a.held ne runs.held))

pub refused_no_swap : (machine : Machine) (frames : Memory) (f : Format) (why : NoSwap) → IsHardware machine.hw → busy_of machine ≡ None → machine.held ≡ No → machine.area ≡ Err why → IsRefused machine frames f (reply.NoSwap why)
unfolding refusal
refused_no_swap machine frames f why hw idle unmarked unusable c a stands =
    let h = machine.hw in
    let i = image_of_memory h a.memory a.slots f in
    let runs = stands.parts.memory in
    let is = seen machine frames f c a hw unmarked stands in
    let behind = or_else (no_frames h a i) (no_slots h a i) in
    open_at (busy a) (or_else (closed a) (or_else (no_swap a.unusable) behind)) (not_busy machine a idle runs.flights)
    ∙ open_at (closed a) (or_else (no_swap a.unusable) behind) (not_closed a is.held)
    ∙ stop_at (no_swap a.unusable) behind (reply.NoSwap why) (ap no_swap (runs.unusable ∙ ap reason_of unusable))

-- up to the counts
up_to_counts : (machine : Machine) (frames : Memory) (f : Format) (c : disk.Content) (a : Running) → IsHardware machine.hw → busy_of machine ≡ None → machine.held ≡ No → IsOk machine.area → Stands machine.hw (running_by machine frames) c (on a) →
    refusal machine.hw (on a) (event.Hibernate f)
    ≡ or_else (no_frames machine.hw a (image_of_memory machine.hw a.memory a.slots f)) (no_slots machine.hw a (image_of_memory machine.hw a.memory a.slots f))
unfolding refusal
up_to_counts machine frames f c a hw idle unmarked usable stands =
    let h = machine.hw in
    let i = image_of_memory h a.memory a.slots f in
    let runs = stands.parts.memory in
    let is = seen machine frames f c a hw unmarked stands in
    let behind = or_else (no_frames h a i) (no_slots h a i) in
    open_at (busy a) (or_else (closed a) (or_else (no_swap a.unusable) behind)) (not_busy machine a idle runs.flights)
    ∙ open_at (closed a) (or_else (no_swap a.unusable) behind) (not_closed a is.held)
    ∙ open_at (no_swap a.unusable) behind (has_swap a machine.area usable runs.unusable)

few_frames : (h : Hardware) (a : Running) (i : Image) (free n : ℕ) → free ≡ length (unused h a.memory) → n ≡ n_of i → free < n + 1025 → no_frames h a i ≡ Some (reply.NoFrames free (n + 1025))
few_frames h a i free n f_is n_is lt =
    test_holds (ltb (length (unused h a.memory)) (n_of i + 1025)) (reply.NoFrames (length (unused h a.memory)) (n_of i + 1025)) (lt-ltb (length (unused h a.memory)) (n_of i + 1025) (omega arith))
    ∙ ap₂ (λ (x y : ℕ). Some (reply.NoFrames x (y + 1025))) (sym f_is) (sym n_is)

enough_frames : (h : Hardware) (a : Running) (i : Image) (free n : ℕ) → free ≡ length (unused h a.memory) → n ≡ n_of i → n + 1025 ≤ free → no_frames h a i ≡ None
enough_frames h a i free n f_is n_is le =
    test_fails (ltb (length (unused h a.memory)) (n_of i + 1025)) (reply.NoFrames (length (unused h a.memory)) (n_of i + 1025)) (le-ltb (length (unused h a.memory)) (n_of i + 1025) (omega arith))

few_slots : (h : Hardware) (a : Running) (i : Image) (free pages : ℕ) → free ≡ length (unused_slots h a.memory) → pages ≡ pages_of i → free < pages + 1026 → no_slots h a i ≡ Some (reply.NoSlots free (pages + 1026))
few_slots h a i free pages f_is p_is lt =
    let count = length (unused_slots h a.memory) in
    let all = pages_of i in
    let below : count < all + 1026 = omega arith in
    test_holds (ltb (length (unused_slots h a.memory)) (pages_of i + 1026)) (reply.NoSlots (length (unused_slots h a.memory)) (pages_of i + 1026)) (lt-ltb (length (unused_slots h a.memory)) (pages_of i + 1026) below)
    ∙ ap₂ (λ (x y : ℕ). Some (reply.NoSlots x (y + 1026))) (sym f_is) (sym p_is)

enough_slots : (h : Hardware) (a : Running) (i : Image) (free pages : ℕ) → free ≡ length (unused_slots h a.memory) → pages ≡ pages_of i → pages + 1026 ≤ free → no_slots h a i ≡ None
enough_slots h a i free pages f_is p_is le =
    let count = length (unused_slots h a.memory) in
    let all = pages_of i in
    let above : all + 1026 ≤ count = omega arith in
    test_fails (ltb (length (unused_slots h a.memory)) (pages_of i + 1026)) (reply.NoSlots (length (unused_slots h a.memory)) (pages_of i + 1026)) (le-ltb (length (unused_slots h a.memory)) (pages_of i + 1026) above)

pub refused_no_frames : (machine : Machine) (frames : Memory) (f : Format) → IsHardware machine.hw → busy_of machine ≡ None → machine.held ≡ No → IsOk machine.area → length (unused machine.hw frames) < length (saveable machine.hw frames) + 1025 →
    IsRefused machine frames f (reply.NoFrames (length (unused machine.hw frames)) (length (saveable machine.hw frames) + 1025))
refused_no_frames machine frames f hw idle unmarked usable few c a stands =
    let h = machine.hw in
    let i = image_of_memory h a.memory a.slots f in
    let is = seen machine frames f c a hw unmarked stands in
    up_to_counts machine frames f c a hw idle unmarked usable stands
    ∙ stop_at (no_frames h a i) (no_slots h a i) (reply.NoFrames (length (unused h frames)) (length (saveable h frames) + 1025))
    (few_frames h a i (length (unused h frames)) (length (saveable h frames)) (ap length is.unused) is.image.saved few)

-- What a hibernation counts, of its snapshot.
pub record AreCounts (h : Hardware) (frames : Memory) (hib : Hib) (counts : Counts) : Type 0 where
  pub origs : hib.snapshot.origs ≡ saveable h frames
  pub zeros : hib.snapshot.zeros ≡ zero_frames hib.snapshot.format frames (saveable h frames)
  pub saved : counts.n ≡ length (saveable h frames)
  pub with_pages : counts.d ≡ length (saveable h frames) - length hib.snapshot.zeros

pages_are : (machine : Machine) (frames : Memory) (hib : Hib) (counts : Counts) (a : Running) (f : Format) → AreCounts machine.hw frames hib counts → hib.snapshot.format ≡ f → IsSeen machine.hw frames f a →
    begin.pages_of counts ≡ pages_of (image_of_memory machine.hw a.memory a.slots f)
pages_are machine frames hib counts a f are format is =
    (counts_of machine.hw frames hib counts (image_of_memory machine.hw a.memory a.slots f) are.origs are.zeros are.saved are.with_pages (sym format) is.image).pages

pub refused_no_slots : (machine : Machine) (frames : Memory) (f : Format) (hib : Hib) (counts : Counts) → IsHardware machine.hw → busy_of machine ≡ None → machine.held ≡ No → IsOk machine.area → AreCounts machine.hw frames hib counts → hib.snapshot.format ≡ f →
    length (saveable machine.hw frames) + 1025 ≤ length (unused machine.hw frames) → length (free_in frames (slot_table_of machine.hw)) < begin.pages_of counts + 1026 →
    IsRefused machine frames f (reply.NoSlots (length (free_in frames (slot_table_of machine.hw))) (begin.pages_of counts + 1026))
refused_no_slots machine frames f hib counts hw idle unmarked usable are format enough few c a stands =
    let h = machine.hw in
    let i = image_of_memory h a.memory a.slots f in
    let is = seen machine frames f c a hw unmarked stands in
    up_to_counts machine frames f c a hw idle unmarked usable stands
    ∙ open_at (no_frames h a i) (no_slots h a i) (enough_frames h a i (length (unused h frames)) (length (saveable h frames)) (ap length is.unused) is.image.saved enough)
    ∙ few_slots h a i (length (free_in frames (slot_table_of h))) (begin.pages_of counts) (ap length is.slots) (pages_are machine frames hib counts a f are format is) few

-- A hibernation isn't refused.
pub not_refused : (machine : Machine) (frames : Memory) (f : Format) (hib : Hib) (counts : Counts) (c : disk.Content) (a : Running) → IsHardware machine.hw → busy_of machine ≡ None → machine.held ≡ No → IsOk machine.area → AreCounts machine.hw frames hib counts → hib.snapshot.format ≡ f →
    length (saveable machine.hw frames) + 1025 ≤ length (unused machine.hw frames) → begin.pages_of counts + 1026 ≤ length (free_in frames (slot_table_of machine.hw)) →
    Stands machine.hw (running_by machine frames) c (on a) → refusal machine.hw (on a) (event.Hibernate f) ≡ None
not_refused machine frames f hib counts c a hw idle unmarked usable are format enough room stands =
    let h = machine.hw in
    let i = image_of_memory h a.memory a.slots f in
    let is = seen machine frames f c a hw unmarked stands in
    up_to_counts machine frames f c a hw idle unmarked usable stands
    ∙ open_at (no_frames h a i) (no_slots h a i) (enough_frames h a i (length (unused h frames)) (length (saveable h frames)) (ap length is.unused) is.image.saved enough)
    ∙ enough_slots h a i (length (free_in frames (slot_table_of h))) (begin.pages_of counts) (ap length is.slots) (pages_are machine frames hib counts a f are format is) room

-- what the snapshot counts, by its sets
pub are_counts : (h : Hardware) (frames : Memory) (f : Format) (zones : List (ℕ × ℕ)) (hib : Hib) (counts : Counts) →
    hib.snapshot ≡ record { zones = zones; format = f; origs = saveable h frames; copies = []; zeros = zero_frames f frames (saveable h frames) } →
    counts ≡ record { n = length (saveable h frames); d = length (saveable h frames) - length (zero_frames f frames (saveable h frames)) } → AreCounts h frames hib counts
are_counts h frames f zones hib counts sets told =
    let format : hib.snapshot.format ≡ f = ap (λ (s : Taken). s.format) sets in
    let zeros : hib.snapshot.zeros ≡ zero_frames f frames (saveable h frames) = ap (λ (s : Taken). s.zeros) sets in
    record {
      origs = ap (λ (s : Taken). s.origs) sets;
      zeros = zeros ∙ ap (λ (g : Format). zero_frames g frames (saveable h frames)) (sym format);
      saved = ap (λ (x : Counts). x.n) told;
      with_pages = ap (λ (x : Counts). x.d) told ∙ ap (λ (zs : List ℕ). length (saveable h frames) - length zs) (sym zeros);
    }
