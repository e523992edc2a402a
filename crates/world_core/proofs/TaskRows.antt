-- The rows of a task's request, and of the step that ends its operation.
use Rattle.std.proofs.Common.{◌≡◌, inl, inr, ◌<◌, ℕ, List, [], ◌∷◌, cond, eqb, Bool, flat_map, length, take, unwrap_or, Contains, Option, Some, None, refl, sym, ap, ◌∙◌, subst, arith}
use Rattle.std.specs.List.{range_with_len}
use Rattle.std.specs.Option.{IsSome}
use Rattle.std.proofs.lemmas.Bool.{false≢true, eq-eqb}
use Rattle.std.proofs.lemmas.List.Elements.{Contains-append_left, Contains-append_right}
use Rattle.definitions.specs.Bytes.{IsPage, bytes_at}
use Rattle.definitions.specs.Disk as disk
use Rattle.definitions.specs.Tables.{frame}
use Rattle.definitions.specs.Zones.{numbers, top}
use Rattle.definitions.proofs.Ascending.{Contains-nil, Contains-cons_cases}
use Rattle.definitions.proofs.ZoneNumbers.{Contains-range, below_top}
use Rattle.plain_machine.specs.Machine.{IsTask}
use Rattle.plain_machine.specs.Machine.{Hardware, Memory, IsHardware, Fits, raw_slot_entry, image_slot, block_of_slot}
use Rattle.plain_machine.specs.declared.held.Held.{Held as HeldFlag}
use Rattle.plain_machine.specs.State.{on, Running, nothing, Flight, goes_out, comes_in}
use Rattle.plain_machine.specs.Stands.{Stands, NamesHeld, StandsOn, StandsRunning, IsFlight}
use Rattle.plain_machine.specs.Step.{Step, finished}
use Rattle.plain_machine.specs.Shows.{RunsAs, ShowsRunning, ShowsHeld}
use Rattle.plain_machine.specs.declared.event.Actor.TheVariants as actor
use Rattle.plain_machine.specs.declared.event.Event.TheVariants as event
use Rattle.plain_machine.specs.declared.event.TaskOp.{TaskOp}
use Rattle.plain_machine.specs.declared.reply.Left.TheVariants.{Same}
use Rattle.plain_machine.specs.declared.reply.Reply.{Reply}
use Rattle.plain_machine.specs.declared.reply.Reply.TheVariants as reply
use Rattle.protocol_laws.specs.Rows.{IsSameArea, LeavesBlock, blocks_at}
use Rattle.protocol_laws.specs.Rows as rows
use Rattle.protocol_laws.proofs.Same.{SameHeader, same_area_block}
use Rattle.protocol_laws.proofs.SwapEnds.{written_is, write_failed_is, fetched_is, read_failed_is, out_written, out_fails, in_read, in_fails, in_page, out_block, tries_out}
use Rattle.protocol_laws.proofs.SwapRequests.{request_stands, ends, valid_in}
use Rattle.protocol_laws.proofs.Unwritten.{block_same, block_other}
use Rattle.machine.specs.Flights.{flights_in}
use Rattle.machine.specs.Landing.{Answers, CallsDisk, HasEnd}
use Rattle.machine.specs.Running.{reason_of}
use Rattle.machine.specs.TaskRow.{SimulatesRequest, NamesNone}
use Rattle.machine.proofs.Rows.{Mirrors, mirrors_of, mirrors-frame, owned_is_own}
use Rattle.hib_core.proofs.BeginRefusals.{unheld}
use Rattle.world_core.specs.declared.world.Core.TheVariants.{Running as Runs}
use Rattle.world_core.specs.World.{World}
use Rattle.world_core.specs.StandsFor.{StandsFor, hardware_of, shown}
use Rattle.world_core.specs.Row.{Simulates, SimulatesWhereTold}
use Rattle.world_core.proofs.Cases.{activity_by}
use Rattle.protocol_laws.proofs.Told.{changed}
use Rattle.world_core.proofs.Rows.{area_of_same, row_at_run}

-- A world that runs.

pub on_parts : (w : World) (c : disk.Content) (a : Running) → StandsFor w c (on a) → StandsRunning (hardware_of w) (shown w) c a
on_parts w c a stands = stands.stands.parts

pub runs_on : (h : Hardware) (w : World) (c : disk.Content) (b : Running) → w.core ≡ Runs → hardware_of w ≡ h → ShowsRunning h (shown w) b → StandsOn h (shown w) c b → StandsFor w c (on b)
runs_on h w c b core hw runs on' = record {
  stands = subst (λ (g : Hardware). Stands g (shown w) c (on b)) (sym hw) (record { activity = activity_by w Runs core; parts = record { memory = runs; disk = on' } });
  image = tt;
  resume = tt;
}

-- if no image is held, no slot is named as an image's
names_none : (w : World) (c : disk.Content) (a : Running) → StandsFor w c (on a) → NamesNone w.machine w.frames
names_none w c a stands unmarked s lt e =
    let parts = on_parts w c a stands in
    let held : a.held ≡ nothing = unheld a.held (subst (λ (flag : HeldFlag). ShowsHeld flag a.held) unmarked parts.memory.held) in
    let names : NamesHeld (hardware_of w) (shown w) nothing = subst (NamesHeld (hardware_of w) (shown w)) held parts.disk.names in
    Contains-nil (block_of_slot (hardware_of w) s) (names s lt e)

-- a step leaves the machine as it is, but for its operations
pub record IsSameBut (old new : World) : Type 0 where
  pub core : new.core ≡ Runs
  pub hw : new.machine.hw ≡ old.machine.hw
  pub held : new.machine.held ≡ old.machine.held
  pub area : new.machine.area ≡ old.machine.area

pub shows_after : (old new : World) (b : Running) → IsSameBut old new → RunsAs (hardware_of old) old.machine.held (reason_of old.machine.area) (flights_in new.machine.flights) new.frames b → ShowsRunning (hardware_of old) (shown new) b
shows_after old new b same runs = record {
  held = subst (λ (flag : HeldFlag). ShowsHeld flag b.held) (sym same.held) runs.held;
  unusable = runs.unusable ∙ sym (ap reason_of same.area);
  flights = runs.flights;
  same = runs.same;
  fits = runs.fits;
}

-- A task's request.

pub row_of_task : (old new : World) (c : disk.Content) (t : ℕ) (o : TaskOp) (r : Reply) → IsHardware (hardware_of old) → IsTask t → old.core ≡ Runs → IsSameBut old new → SimulatesRequest old.machine old.frames t o new.machine new.frames r → Simulates (event.Task t o) old new r c c
row_of_task old new c t o r hw task core same row =
    row_at_run (event.Task t o) old new r c c core
    (λ a stands.
    let h = hardware_of old in
    let parts = on_parts old c a stands in
    let goes = row (names_none old c a stands) a parts.memory in
    let b : Running = goes.0 in
    let steps = goes.1 in (
      on b,
      record {
        step = steps.step (disk.as_it_reads c);
        stands = runs_on h new c b same.core same.hw (shows_after old new b same steps.runs)
            (request_stands h (shown old) (shown new) c (disk.as_it_reads c) a b t o r hw parts.memory.fits task parts.disk (steps.step (disk.as_it_reads c)) steps.named);
        area = area_of_same h (disk.as_it_reads c) (disk.as_it_reads c) refl;
        unwritten = λ k not. block_same k c;
        leaves = tt;
        header = tt;
      },
    ))

-- The end of an operation.

in_flat : (f : ℕ → List ℕ) (ts : List ℕ) (t b : ℕ) → Contains ts t → Contains (f t) b → Contains (flat_map f ts) b
in_flat f [] t b in' here = absurd (Contains-nil t in')
in_flat f (u ∷ ts) t b in' here =
    elim (Contains-cons_cases u ts t in') [
      | inl e ↦ Contains-append_left (f u) (flat_map f ts) b (subst (λ (x : ℕ). Contains (f x) b) (sym e) here)
      | inr rest ↦ Contains-append_right (f u) (flat_map f ts) b (in_flat f ts t b rest here)
    ]

-- the block of a task's own out may be written at its own step
out_of_flight : (h : Hardware) (a : Running) (t s p : ℕ) → IsTask t → a.flights t ≡ Some (goes_out s p) → Contains (blocks_at h (event.Step (actor.Task t)) (on a)) (block_of_slot h s)
out_of_flight h a t s p task flight =
    let some = task.some in
    let few = task.few in
    in_flat (λ u. cond (eqb t u) (rows.out_block h (a.flights u)) []) (range_with_len 1 64) t (block_of_slot h s) (Contains-range 1 64 t (omega arith) (omega arith))
    (subst (λ (own : Bool). Contains (cond own (rows.out_block h (a.flights t)) []) (block_of_slot h s)) (sym (eq-eqb t t refl))
    (subst (λ (f : Option Flight). Contains (rows.out_block h f) (block_of_slot h s)) (sym flight) (0, omega arith, refl)))

area_of_header : (h : Hardware) (v w : disk.DiskImage) → SameHeader h w v → IsSameArea h v w
area_of_header h v w same = record {
  blocks = same.blocks;
  header = record {
    front = ap (λ (page : List ℕ). take 4056 page) (same_area_block h w v same);
    signature = ap (λ (page : List ℕ). bytes_at 10 page 4086) (same_area_block h w v same);
  };
}

-- the page frame of an operation shows the page that memory has
frame_shown : (w : World) (c : disk.Content) (a : Running) (t s p : ℕ) → IsHardware (hardware_of w) → length w.frames ≡ top (hardware_of w).zones → StandsFor w c (on a) → IsFlight (hardware_of w) a t s p → frame a.memory p ≡ frame w.frames p
frame_shown w c a t s p hw size stands is =
    let h = hardware_of w in
    let parts = on_parts w c a stands in
    let mirrors : Mirrors h w.frames a.memory = mirrors_of h w.machine.held (reason_of w.machine.area) (flights_in w.machine.flights) w.frames a parts.memory size in
    let its = owned_is_own h a.memory t p parts.memory.fits is.owner is.task.some in
    mirrors-frame h w.frames a.memory p hw mirrors (valid_in h p is.valid) its.0 its.1

whole_page : (h : Hardware) (m : Memory) (p : ℕ) → IsHardware h → Fits h m → Contains (numbers h.zones) p → IsPage (frame m p)
whole_page h m p hw fits in' = let below = below_top h.zones p hw.zones.apart in' in let size = fits.size in fits.pages p [] (omega arith)

-- an end of an operation, over a disk that tells its content
pub record IsEnd (old new : World) (t : ℕ) (r : Reply) (blocks : ℕ) (before now : Option disk.Content) : Type 0 where
  pub hardware : IsHardware (hardware_of old)
  pub size : length old.frames ≡ top (hardware_of old).zones
  pub task : IsTask t
  pub core : old.core ≡ Runs
  pub same : IsSameBut old new
  pub row : HasEnd old.machine old.frames t new.machine new.frames r before
  pub calls : CallsDisk (hardware_of old) old.frames (flights_in old.machine.flights t) r before now
  pub answers : Answers (flights_in old.machine.flights t) r
  pub whole : (c : disk.Content) → before ≡ Some c → disk.IsContent blocks c

-- the step from a state that it stood for, its flight known
record Ended (old new : World) (t : ℕ) (r : Reply) (c : disk.Content) (a : Running) (f : Flight) : Type 0 where
  flight : a.flights t ≡ Some f
  next : Running
  step : Step (hardware_of old) (disk.as_it_reads c) (on a) (event.Step (actor.Task t)) r (on next)
  shows : ShowsRunning (hardware_of old) (shown new) next
  named : (s : ℕ) → s < (hardware_of old).slots → raw_slot_entry (hardware_of old) new.frames s ≡ image_slot → raw_slot_entry (hardware_of old) old.frames s ≡ image_slot
  ended : Contains (finished (hardware_of old) a t f) (r, on next)

ended : (old new : World) (t : ℕ) (r : Reply) (blocks : ℕ) (before now : Option disk.Content) (f : Flight) (c : disk.Content) (a : Running) → IsEnd old new t r blocks before now → flights_in old.machine.flights t ≡ Some f → before ≡ Some c → StandsFor old c (on a) → Ended old new t r c a f
ended old new t r blocks before now f c a is flies told stands =
    let h = hardware_of old in
    let parts = on_parts old c a stands in
    let flight : a.flights t ≡ Some f = parts.memory.flights t ∙ flies in
    let goes = is.row (names_none old c a stands) c told a parts.memory parts.disk.flights parts.disk.slot_pages (λ s p e. in_page h (shown old) c a t s p parts.memory.fits parts.disk e) in
    record {
      flight = flight;
      next = goes.0;
      step = goes.1.step (disk.as_it_reads c);
      shows = shows_after old new goes.0 is.same goes.1.runs;
      named = goes.1.named;
      ended = ends h (disk.as_it_reads c) a t f r (on goes.0) flight (goes.1.step (disk.as_it_reads c));
    }

written_row : (old new : World) (t s p : ℕ) (r : Reply) (blocks : ℕ) (before now : Option disk.Content) (c c' : disk.Content) → IsEnd old new t r blocks before now → flights_in old.machine.flights t ≡ Some (goes_out s p) → before ≡ Some c → r ≡ reply.Written s →
    disk.Writes (block_of_slot (hardware_of old) s) (frame old.frames p) c c' → Simulates (event.Step (actor.Task t)) old new r c c'
written_row old new t s p r blocks before now c c' is flies told done writes =
    row_at_run (event.Step (actor.Task t)) old new r c c' is.core
    (λ a stands.
    let h = hardware_of old in
    let e = ended old new t r blocks before now (goes_out s p) c a is flies told stands in
    let parts = on_parts old c a stands in
    let flight = parts.disk.flights.outs t s p e.flight in
    let page = frame_shown old c a t s p is.hardware is.size stands flight in
    let wrote : disk.Writes (block_of_slot h s) (frame a.memory p) c c' = subst (λ (x : List ℕ). disk.Writes (block_of_slot h s) x c c') (sym page) writes in
    let at = out_block h (shown old) c a t s p is.hardware parts.memory.fits parts.disk flight in
    let keeps = tries_out h c c' blocks s (frame a.memory p) a (is.whole c told) at (inl wrote) in (
      on e.next,
      record {
        step = e.step;
        stands = runs_on h new c' e.next is.same.core is.same.hw e.shows
            (subst (StandsOn h (shown new) c') (written_is h a e.next t s p r e.ended done)
            (out_written h (shown old) (shown new) c c' blocks a t s p is.hardware (is.whole c told) parts.memory.fits parts.disk e.flight (whole_page h a.memory p is.hardware parts.memory.fits (valid_in h p flight.valid)) wrote e.named));
        area = area_of_header h (disk.as_it_reads c) (disk.as_it_reads c') keeps.reads;
        unwritten = λ k not. block_other k (block_of_slot h s) c c' wrote.others (λ same. not (subst (λ (x : ℕ). Contains (blocks_at h (event.Step (actor.Task t)) (on a)) x) (sym same) (out_of_flight h a t s p is.task e.flight)));
        leaves = tt;
        header = tt;
      },
    ))

write_failed_row : (old new : World) (t s p : ℕ) (r : Reply) (blocks : ℕ) (before now : Option disk.Content) (c c' : disk.Content) → IsEnd old new t r blocks before now → flights_in old.machine.flights t ≡ Some (goes_out s p) → before ≡ Some c → r ≡ reply.WriteFault Same →
    disk.FailsToWrite (block_of_slot (hardware_of old) s) (frame old.frames p) c c' → Simulates (event.Step (actor.Task t)) old new r c c'
write_failed_row old new t s p r blocks before now c c' is flies told failed fails =
    row_at_run (event.Step (actor.Task t)) old new r c c' is.core
    (λ a stands.
    let h = hardware_of old in
    let e = ended old new t r blocks before now (goes_out s p) c a is flies told stands in
    let parts = on_parts old c a stands in
    let flight = parts.disk.flights.outs t s p e.flight in
    let at = out_block h (shown old) c a t s p is.hardware parts.memory.fits parts.disk flight in
    let keeps = tries_out h c c' blocks s (frame old.frames p) a (is.whole c told) at (inr fails) in (
      on e.next,
      record {
        step = e.step;
        stands = runs_on h new c' e.next is.same.core is.same.hw e.shows
            (subst (StandsOn h (shown new) c') (write_failed_is h a e.next t s p r e.ended failed)
            (out_fails h (shown old) (shown new) c c' blocks a t s p (frame old.frames p) is.hardware (is.whole c told) parts.memory.fits parts.disk e.flight fails e.named));
        area = area_of_header h (disk.as_it_reads c) (disk.as_it_reads c') keeps.reads;
        unwritten = λ k not. block_other k (block_of_slot h s) c c' fails.others (λ same. not (subst (λ (x : ℕ). Contains (blocks_at h (event.Step (actor.Task t)) (on a)) x) (sym same) (out_of_flight h a t s p is.task e.flight)));
        leaves = tt;
        header = tt;
      },
    ))

fetched_row : (old new : World) (t s p : ℕ) (r : Reply) (blocks : ℕ) (before now : Option disk.Content) (c : disk.Content) → IsEnd old new t r blocks before now → flights_in old.machine.flights t ≡ Some (comes_in s p) → before ≡ Some c → r ≡ reply.Fetched s → Simulates (event.Step (actor.Task t)) old new r c c
fetched_row old new t s p r blocks before now c is flies told done =
    row_at_run (event.Step (actor.Task t)) old new r c c is.core
    (λ a stands.
    let h = hardware_of old in
    let e = ended old new t r blocks before now (comes_in s p) c a is flies told stands in
    let parts = on_parts old c a stands in (
      on e.next,
      record {
        step = e.step;
        stands = runs_on h new c e.next is.same.core is.same.hw e.shows
            (subst (StandsOn h (shown new) c) (fetched_is h a e.next t s p r e.ended done)
            (in_read h (shown old) (shown new) c a t s p (unwrap_or (a.slots s) (frame a.memory p)) is.hardware parts.memory.fits parts.disk e.flight e.named));
        area = area_of_same h (disk.as_it_reads c) (disk.as_it_reads c) refl;
        unwritten = λ k not. block_same k c;
        leaves = tt;
        header = tt;
      },
    ))

read_failed_row : (old new : World) (t s p : ℕ) (r : Reply) (blocks : ℕ) (before now : Option disk.Content) (c : disk.Content) → IsEnd old new t r blocks before now → flights_in old.machine.flights t ≡ Some (comes_in s p) → before ≡ Some c → r ≡ reply.ReadFault Same → Simulates (event.Step (actor.Task t)) old new r c c
read_failed_row old new t s p r blocks before now c is flies told failed =
    row_at_run (event.Step (actor.Task t)) old new r c c is.core
    (λ a stands.
    let h = hardware_of old in
    let e = ended old new t r blocks before now (comes_in s p) c a is flies told stands in
    let parts = on_parts old c a stands in (
      on e.next,
      record {
        step = e.step;
        stands = runs_on h new c e.next is.same.core is.same.hw e.shows
            (subst (StandsOn h (shown new) c) (read_failed_is h a e.next t s p r e.ended failed) (in_fails h (shown old) (shown new) c a t s p parts.disk e.flight e.named));
        area = area_of_same h (disk.as_it_reads c) (disk.as_it_reads c) refl;
        unwritten = λ k not. block_same k c;
        leaves = tt;
        header = tt;
      },
    ))

-- what the call does and replies, by the operation
end_by : (old new : World) (t : ℕ) (r : Reply) (blocks : ℕ) (before now : Option disk.Content) (f : Flight) → IsEnd old new t r blocks before now → flights_in old.machine.flights t ≡ Some f →
    Answers (Some f) r → CallsDisk (hardware_of old) old.frames (Some f) r before now → SimulatesWhereTold (event.Step (actor.Task t)) old new r before now
end_by old new t r blocks before now (goes_out s p) is flies (inl done) calls c told =
    let wrote = changed (disk.Writes (block_of_slot (hardware_of old) s) (frame old.frames p)) before now c told (calls.0 done) in
    (wrote.0, wrote.1, written_row old new t s p r blocks before now c wrote.0 is flies told done wrote.2)
end_by old new t r blocks before now (goes_out s p) is flies (inr failed) calls c told =
    let tried = changed (disk.FailsToWrite (block_of_slot (hardware_of old) s) (frame old.frames p)) before now c told (calls.1 failed) in
    (tried.0, tried.1, write_failed_row old new t s p r blocks before now c tried.0 is flies told failed tried.2)
end_by old new t r blocks before now (comes_in s p) is flies (inl done) calls c told = (c, calls ∙ told, fetched_row old new t s p r blocks before now c is flies told done)
end_by old new t r blocks before now (comes_in s p) is flies (inr failed) calls c told = (c, calls ∙ told, read_failed_row old new t s p r blocks before now c is flies told failed)

pub row_of_end : (old new : World) (t : ℕ) (r : Reply) (blocks : ℕ) (before now : Option disk.Content) (f : Flight) → IsEnd old new t r blocks before now → flights_in old.machine.flights t ≡ Some f → SimulatesWhereTold (event.Step (actor.Task t)) old new r before now
row_of_end old new t r blocks before now f is flies =
    end_by old new t r blocks before now f is flies (subst (λ (o : Option Flight). Answers o r) flies is.answers)
    (subst (λ (o : Option Flight). CallsDisk (hardware_of old) old.frames o r before now) flies is.calls)

-- an operation that there is
pub some_flight : (o : Option Flight) → IsSome o → (f : Flight) × (o ≡ Some f)
some_flight None e = absurd (false≢true e)
some_flight (Some f) e = (f, refl)
