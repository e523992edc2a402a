-- Unfinished operations of tasks.
use Rattle.std.proofs.Common.{◌≡◌, ℕ, zero, suc, Bool, true, false, cond, List, [], ◌∷◌, Option, Some, None, refl, sym, ap, ◌∙◌, arith}
use Rattle.std.proofs.lemmas.Bool.{false≢true}
use Rattle.std.proofs.lemmas.Option.{none-some}
use Rattle.std.specs.List.{Contains, find, range_with_len}
use Rattle.std.specs.Option.{is_some}
use Rattle.definitions.proofs.ZoneNumbers.{Contains-range}
use Rattle.plain_machine.specs.Machine.{Hardware}
use Rattle.plain_machine.specs.Machine.{IsTask}
use Rattle.plain_machine.specs.Refusals.{busy, busy_reply, busy_task}
use Rattle.plain_machine.specs.Stands.{HasFlights}
use Rattle.plain_machine.specs.State.{Flight, goes_out, comes_in, Running}
use Rattle.plain_machine.specs.declared.reply.Reply.TheVariants as reply

-- what isn't found is nowhere in the list
none_of_first : (p : ℕ → Bool) (x : ℕ) (xs : List ℕ) (b : Bool) → p x ≡ b → cond b (Some x) (find p xs) ≡ None → (p x ≡ false) × (find p xs ≡ None)
none_of_first p x xs true is e = absurd (none-some x (sym e))
none_of_first p x xs false is e = (is, e)

find-none : (p : ℕ → Bool) (xs : List ℕ) (k : ℕ) → find p xs ≡ None → Contains xs k → p k ≡ false
find-none p [] k e (j, lt, is) = absurd (omega arith)
find-none p (x ∷ xs) k e (zero, lt, is) = ap p (sym is) ∙ (none_of_first p x xs (p x) refl e).0
find-none p (x ∷ xs) k e (suc j, lt, is) = find-none p xs k (none_of_first p x xs (p x) refl e).1 (j, omega arith, is)

no_busy : (o : Option ℕ) → busy_reply o ≡ None → o ≡ None
no_busy None e = refl
no_busy (Some t) e = absurd (none-some (reply.Busy t) (sym e))

none_there : (o : Option Flight) → is_some o ≡ false → o ≡ None
none_there None e = refl
none_there (Some f) e = absurd (false≢true (sym e))

-- if no task is busy, no task has an unfinished operation
pub idle_tasks : (a : Running) → busy a ≡ None → (t : ℕ) → IsTask t → a.flights t ≡ None
idle_tasks a none t is =
    let some = is.some in
    let few = is.few in
    none_there (a.flights t) (find-none (λ u. is_some (a.flights u)) (range_with_len 1 64) t (no_busy (busy_task a) none) (Contains-range 1 64 t (omega arith) (omega arith)))

-- and then nobody else has
none_else : (h : Hardware) (a : Running) (t : ℕ) (o : Option Flight) → HasFlights h a → ((u : ℕ) → IsTask u → a.flights u ≡ None) → a.flights t ≡ o → o ≡ None
none_else h a t None has idle e = refl
none_else h a t (Some (goes_out s p)) has idle e = sym e ∙ idle t (has.outs t s p e).task
none_else h a t (Some (comes_in s p)) has idle e = sym e ∙ idle t (has.ins t s p e).task

pub no_flights_in : (h : Hardware) (a : Running) → HasFlights h a → ((u : ℕ) → IsTask u → a.flights u ≡ None) → (t : ℕ) → a.flights t ≡ None
no_flights_in h a has idle t = none_else h a t (a.flights t) has idle refl
