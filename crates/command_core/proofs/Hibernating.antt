-- A hibernation step by step: what it is doing after n steps, and that it ends.
use Rattle.std.proofs.Common.{◌≡◌, inl, inr, ◌≤◌, ◌<◌, ℕ, ◌+◌, zero, suc, Bool, true, false, List, [], Option, Some, None, refl, sym, subst, arith, Contains}
use Rattle.std.specs.List.{AllByRecursion}
use Rattle.std.proofs.lemmas.Bool.{cases_lt, false≢true}
use Rattle.std.proofs.lemmas.List.Elements.{All-from_recursion, All-contains}
use Rattle.definitions.specs.Disk as disk
use Rattle.plain_machine.specs.Image.{Image, n_of, hibernate_steps}
use Rattle.plain_machine.specs.Machine.{Hardware}
use Rattle.plain_machine.specs.State.{State, Running, off, on, hibernating, undoing, nothing, sure, maybe, own}
use Rattle.plain_machine.specs.Calls.{HibernationCall, writes_page, syncs_pages, reads_header, writes_mark, syncs_mark, hibernation_call}
use Rattle.plain_machine.specs.Refusals.{refusal}
use Rattle.plain_machine.specs.Step.{Step, Outcome, outcomes, hibernation_outcomes, hibernate_step, undo_step, undone_fault}
use Rattle.plain_machine.specs.declared.event.Actor.TheVariants as actor
use Rattle.plain_machine.specs.declared.event.Event.TheVariants as event
use Rattle.plain_machine.specs.declared.reply.Left.TheVariants.{Gone, Unsure}
use Rattle.plain_machine.specs.declared.reply.Reply.{Reply}
use Rattle.plain_machine.specs.declared.reply.Reply.TheVariants as reply
use Rattle.plain_machine.specs.declared.reply.UndoCall.{UndoCall}
use Rattle.plain_machine.specs.declared.reply.UndoCall.TheVariants as undo
use Rattle.plain_machine.proofs.PastEnd.{hibernate-past}
use Rattle.protocol_laws.specs.Rows.{TellsNewFault}
use Rattle.command_core.specs.Points.{Point, AreSteps}
use Rattle.command_core.specs.Runs.{goes_on}

-- what a hibernation of this image is at after n steps
abbrev pub IsAt : Image → Running → ℕ → Reply → State → Bool → Type 0
IsAt i a n (reply.More k of) b failed = b ≡ hibernating false i a n
IsAt i a n (reply.Undo call k) b failed = ((c : UndoCall) × (b ≡ undoing i c a k)) × (k ≤ 1) × (n ≤ hibernate_steps i + k) × (failed ≡ true)
IsAt i a n (reply.Hibernated saved) b failed = (saved ≡ n_of i) × (b ≡ off (sure (own i)) None)
IsAt i a n (reply.ReadFault left) b failed = failed ≡ true
IsAt i a n (reply.WriteFault left) b failed = failed ≡ true
IsAt i a n (reply.SyncFault left) b failed = failed ≡ true
IsAt i a n _ b failed = ⊥

-- each outcome of one more step, where a call that failed is noticed
abbrev LeadsOn : Image → Running → ℕ → Bool → Outcome → Type 0
LeadsOn i a n failed outcome = (now : Bool) → (TellsNewFault outcome.0 → now ≡ true) → (failed ≡ true → now ≡ true) → IsAt i a (n + 1) outcome.0 outcome.1 now

write_leads : (i : Image) (a : Running) (n : ℕ) (failed : Bool) (call : Option HibernationCall) → n < hibernate_steps i → AllByRecursion (LeadsOn i a n failed) (hibernation_outcomes false i a n call)
write_leads i a n failed None before = tt
write_leads i a n failed (Some writes_page) before = ((λ now new old. refl), ((λ now new old. new tt), tt))
write_leads i a n failed (Some syncs_pages) before = ((λ now new old. refl), ((λ now new old. new tt), tt))
write_leads i a n failed (Some reads_header) before = ((λ now new old. refl), ((λ now new old. new tt), tt))
write_leads i a n failed (Some writes_mark) before = ((λ now new old. refl), ((λ now new old. ((undo.Write, refl), omega arith, omega arith, new tt)), tt))
write_leads i a n failed (Some syncs_mark) before = ((λ now new old. (refl, refl)), ((λ now new old. ((undo.Sync, refl), omega arith, omega arith, new tt)), tt))

undone_leads : (i : Image) (a : Running) (n : ℕ) (call : UndoCall) (b : State) → LeadsOn i a n true (undone_fault call Gone, b)
undone_leads i a n undo.Write b = λ now new old. old refl
undone_leads i a n undo.Sync b = λ now new old. old refl

unsure_leads : (i : Image) (a : Running) (n : ℕ) (call : UndoCall) (b : State) → LeadsOn i a n true (undone_fault call Unsure, b)
unsure_leads i a n undo.Write b = λ now new old. old refl
unsure_leads i a n undo.Sync b = λ now new old. old refl

undo_leads : (i : Image) (a : Running) (n k : ℕ) (call : UndoCall) → k ≤ 1 → n ≤ hibernate_steps i + k → AllByRecursion (LeadsOn i a n true) (undo_step i call a k)
undo_leads i a n zero call few made =
    ((λ now new old. ((call, refl), omega arith, omega arith, old refl)), (unsure_leads i a n call (on (record a { held = maybe (own i) })), tt))
undo_leads i a n (suc zero) call few made =
    (undone_leads i a n call (on (record a { held = nothing })), (unsure_leads i a n call (on (record a { held = maybe (own i) })), tt))
undo_leads i a n (suc (suc k)) call few made = absurd (omega arith)

pub hibernating_step : (h : Hardware) (v : disk.DiskImage) (i : Image) (a : Running) (n : ℕ) (r : Reply) (b : State) → Step h v (hibernating false i a n) (event.Step actor.Core) r b → Contains (hibernate_step false i a n) (r, b)
unfolding outcomes refusal
hibernating_step h v i a n r b step = step

pub undoing_step : (h : Hardware) (v : disk.DiskImage) (i : Image) (call : UndoCall) (a : Running) (k : ℕ) (r : Reply) (b : State) → Step h v (undoing i call a k) (event.Step actor.Core) r b → Contains (undo_step i call a k) (r, b)
unfolding outcomes refusal
undoing_step h v i call a k r b step = step

none_in : (x : Outcome) → Contains [] x → ⊥
none_in x (k, lt, e) = omega arith

-- a step is made before the last
pub before_end : (i : Image) (a : Running) (n : ℕ) (x : Outcome) → Contains (hibernate_step false i a n) x → n < hibernate_steps i
before_end i a n x is = elim (cases_lt n (hibernate_steps i)) [
  | inl lt ↦ lt
  | inr le ↦ absurd (none_in x (subst (λ (os : List Outcome). Contains os x) (hibernate-past false i a n le) is))
]

leads_by : (i : Image) (a : Running) (n : ℕ) (failed : Bool) (os : List Outcome) (r : Reply) (b : State) → AllByRecursion (LeadsOn i a n failed) os → Contains os (r, b) → LeadsOn i a n failed (r, b)
leads_by i a n failed os r b all is = All-contains (LeadsOn i a n failed) os (r, b) (All-from_recursion (LeadsOn i a n failed) os all) is

-- one more step
pub step_more : (h : Hardware) (v : disk.DiskImage) (i : Image) (a : Running) (n : ℕ) (r r' : Reply) (b b' : State) (failed now : Bool) → IsAt i a n r b failed → goes_on r ≡ true → Step h v b (event.Step actor.Core) r' b' → (TellsNewFault r' → now ≡ true) → (failed ≡ true → now ≡ true) → IsAt i a (n + 1) r' b' now
step_more h v i a n (reply.More k of) r' b b' failed now at goes step new old =
    let is = hibernating_step h v i a n r' b' (subst (λ (s : State). Step h v s (event.Step actor.Core) r' b') at step) in
    leads_by i a n failed (hibernate_step false i a n) r' b' (write_leads i a n failed (hibernation_call i n) (before_end i a n (r', b') is)) is now new old
step_more h v i a n (reply.Undo call k) r' b b' failed now at goes step new old =
    let c = at.0.0 in
    let is = undoing_step h v i c a k r' b' (subst (λ (s : State). Step h v s (event.Step actor.Core) r' b') at.0.1 step) in
    leads_by i a n true (undo_step i c a k) r' b' (undo_leads i a n k c at.1 at.2) is now new (λ e. old at.3)
step_more h v i a n (reply.Loading k) r' b b' failed now at goes step new old = absurd at
step_more h v i a n _ r' b b' failed now at goes step new old = absurd (false≢true goes)

pub after_steps : (h : Hardware) (i : Image) (a : Running) (n : ℕ) (start end : Point) → IsAt i a 0 start.reply start.state start.failed → AreSteps h n start end → IsAt i a n end.reply end.state end.failed
after_steps h i a zero start end at are = subst (λ (p : Point). IsAt i a 0 p.reply p.state p.failed) (sym are) at
after_steps h i a (suc n) start end at (mid, are, goes, turn) =
    subst (λ (m : ℕ). IsAt i a m end.reply end.state end.failed) (let e : n + 1 ≡ suc n = omega arith in e)
    (step_more h (disk.as_it_reads mid.content) i a n mid.reply end.reply mid.state end.state mid.failed end.failed (after_steps h i a n start mid at are) goes turn.step turn.noticed turn.noted)
