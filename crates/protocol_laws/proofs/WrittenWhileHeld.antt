-- While an image is held, or is perhaps there, block(0) is the only block that is written.
use Rattle.std.proofs.Common.{◌≡◌, ◌≢◌, ◌≤◌, inl, inr, ℕ, ◌+◌, Bool, true, false, cond, List, [], ◌∷◌, ◌++◌, Option, Some, None, Contains, refl, ap₂, subst, arith}
use Rattle.std.specs.Prelude.{flat_map}
use Rattle.std.specs.List.{range_with_len}
use Rattle.std.proofs.lemmas.List.Elements.{Contains-append_cases, Contains-append_left, Contains-append_right}
use Rattle.definitions.specs.Disk as disk
use Rattle.definitions.proofs.Ascending.{Contains-nil}
use Rattle.plain_machine.specs.Machine.{Hardware, block_of_slot}
use Rattle.plain_machine.specs.Image.{Image, hibernate_steps}
use Rattle.plain_machine.specs.Shows.{WorldView}
use Rattle.plain_machine.specs.Stands.{Stands}
use Rattle.plain_machine.specs.declared.event.Event.{Event}
use Rattle.plain_machine.specs.State.{State, off, on, booting, hibernating, undoing, settling, waking, loading, asleep, Flight, goes_out, comes_in, nothing, held_in, held_hibernating}
use Rattle.plain_machine.specs.Calls.{HibernationCall, writes_page, syncs_pages, reads_header, writes_mark, syncs_mark, hibernation_call, BackCall, reads_mark, takes_back, syncs_back, back_call, undo_call, LoadCall, syncs_first, of_mark, reads_image, load_call}
use Rattle.plain_machine.proofs.Calls.{IsAt, is_at}
use Rattle.protocol_laws.specs.Rows.{blocks_at, blocks_written, block_of_step, block_taken_back, block_of_load, is_step_of, out_block}
use Rattle.protocol_laws.proofs.Unwritten.{only_in, none_past}

-- An out is under way only where nothing is held.

no_out : (h : Hardware) (o : Option Flight) → ((s p : ℕ) → o ≡ Some (goes_out s p) → ⊥) → out_block h o ≡ []
no_out h None none = refl
no_out h (Some (goes_out s p)) none = absurd (none s p refl)
no_out h (Some (comes_in s p)) none = refl

no_outs : (h : Hardware) (flights : ℕ → Option Flight) (ts : List ℕ) → ((t s p : ℕ) → flights t ≡ Some (goes_out s p) → ⊥) → flat_map (λ t. out_block h (flights t)) ts ≡ []
no_outs h flights [] none = refl
no_outs h flights (t ∷ ts) none = ap₂ (λ (xs ys : List ℕ). xs ++ ys) (no_out h (flights t) (none t)) (no_outs h flights ts none)

writes_none : (b : ℕ) (xs : List ℕ) → xs ≡ [] → Contains xs b → ⊥
writes_none b xs e in' = Contains-nil b (subst (λ (ys : List ℕ). Contains ys b) e in')

-- What an event may write is among what may be written in its state.

own_block : (h : Hardware) (o : Option Flight) (own' : Bool) (b : ℕ) → Contains (cond own' (out_block h o) []) b → Contains (out_block h o) b
own_block h o true b in' = in'
own_block h o false b in' = absurd (Contains-nil b in')

own_blocks : (h : Hardware) (e : Event) (flights : ℕ → Option Flight) (ts : List ℕ) (b : ℕ) → Contains (flat_map (λ t. cond (is_step_of t e) (out_block h (flights t)) []) ts) b → Contains (flat_map (λ t. out_block h (flights t)) ts) b
own_blocks h e flights [] b in' = in'
own_blocks h e flights (t ∷ ts) b in' = elim (Contains-append_cases (cond (is_step_of t e) (out_block h (flights t)) []) (flat_map (λ u. cond (is_step_of u e) (out_block h (flights u)) []) ts) b in') [
  | inl here ↦ Contains-append_left (out_block h (flights t)) (flat_map (λ u. out_block h (flights u)) ts) b (own_block h (flights t) (is_step_of t e) b here)
  | inr there ↦ Contains-append_right (out_block h (flights t)) (flat_map (λ u. out_block h (flights u)) ts) b (own_blocks h e flights ts b there)
]

pub at_written : (h : Hardware) (e : Event) (s : State) (b : ℕ) → Contains (blocks_at h e s) b → Contains (blocks_written h s) b
at_written h e (off held kept) b in' = in'
at_written h e (on a) b in' = own_blocks h e a.flights (range_with_len 1 64) b in'
at_written h e (booting from dump held k) b in' = in'
at_written h e (hibernating suspends i a k) b in' = in'
at_written h e (undoing i call a k) b in' = in'
at_written h e (settling a k) b in' = in'
at_written h e (waking i held a k) b in' = in'
at_written h e (loading load k) b in' = in'
at_written h e (asleep i held a) b in' = in'

-- a hibernation is past its mark then
past_mark : (i : Image) (k : ℕ) → held_hibernating i (hibernation_call i k) ≢ nothing → hibernate_steps i ≤ k + 1
past_mark i k = by_call (hibernation_call i k) (is_at i k) where
  by_call : (call : Option HibernationCall) → IsAt call k (hibernate_steps i) → held_hibernating i call ≢ nothing → hibernate_steps i ≤ k + 1
  by_call (Some writes_page) at held = absurd (held refl)
  by_call (Some syncs_pages) at held = absurd (held refl)
  by_call (Some reads_header) at held = absurd (held refl)
  by_call (Some writes_mark) at held = absurd (held refl)
  by_call (Some syncs_mark) at held = omega arith
  by_call None at held = omega arith

-- where a mark is taken back at this step
pub header_alone : (h : Hardware) (b : ℕ) (call : Option BackCall) → Contains (block_taken_back h call) b → b ≡ block_of_slot h 0
header_alone h b (Some takes_back) in' = only_in (block_of_slot h 0) b (block_of_slot h 0 ∷ []) refl in'
header_alone h b (Some reads_mark) in' = absurd (Contains-nil b in')
header_alone h b (Some syncs_back) in' = absurd (Contains-nil b in')
header_alone h b None in' = absurd (Contains-nil b in')

pub header_of_load : (h : Hardware) (b : ℕ) (call : LoadCall) → Contains (block_of_load h call) b → b ≡ block_of_slot h 0
header_of_load h b syncs_first in' = absurd (Contains-nil b in')
header_of_load h b (of_mark call) in' = header_alone h b (Some call) in'
header_of_load h b reads_image in' = absurd (Contains-nil b in')

pub held_writes_header : (h : Hardware) (shown : WorldView) (c : disk.Content) (s : State) (b : ℕ) → Stands h shown c s → held_in s ≢ nothing → Contains (blocks_written h s) b → b ≡ block_of_slot h 0
held_writes_header h shown c (off held kept) b stands some in' = absurd (Contains-nil b in')
held_writes_header h shown c (on a) b stands some in' =
    absurd (writes_none b (blocks_written h (on a)) (no_outs h a.flights (range_with_len 1 64) (λ t s p e. some (stands.parts.disk.flights.unheld t s p e))) in')
held_writes_header h shown c (booting from dump held k) b stands some in' = absurd (Contains-nil b in')
held_writes_header h shown c (hibernating suspends i a k) b stands some in' =
    absurd (writes_none b (block_of_step h a i k) (none_past h a i k (past_mark i k some)) in')
held_writes_header h shown c (undoing i call a k) b stands some in' = header_alone h b (undo_call k) in'
held_writes_header h shown c (settling a k) b stands some in' = header_alone h b (back_call k) in'
held_writes_header h shown c (waking i held a k) b stands some in' = header_alone h b (back_call k) in'
held_writes_header h shown c (loading load k) b stands some in' = header_of_load h b (load_call k) in'
held_writes_header h shown c (asleep i held a) b stands some in' = absurd (Contains-nil b in')
