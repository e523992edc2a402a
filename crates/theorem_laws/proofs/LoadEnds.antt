-- How a step of a resume may end the resume.
use Rattle.std.proofs.Common.{◌≡◌, inl, inr, ℕ, ◌+◌, zero, suc, Bool, true, false, cond, not, eqb, ltb, ◌&&◌, ◌||◌, List, ◌∷◌, [], Option, Some, None, slice_get, refl, sym, ap, subst, arith, Contains}
use Rattle.std.specs.List.{AllByRecursion}
use Rattle.std.proofs.lemmas.List.Elements.{All-from_recursion, All-contains}
use Rattle.std.proofs.lemmas.Option.{same_Some, none-some}
use Rattle.definitions.specs.Disk as disk
use Rattle.definitions.specs.NumberPages.{meta_of}
use Rattle.plain_machine.specs.Calls.{reads_mark, takes_back, syncs_back, LoadCall, syncs_first, of_mark, reads_image, load_call}
use Rattle.plain_machine.specs.Chain.{is_marked_disk}
use Rattle.plain_machine.specs.Image.{Image, d_of, n_of, resume_steps}
use Rattle.plain_machine.specs.Loader.{restored}
use Rattle.plain_machine.specs.Machine.{Hardware}
use Rattle.plain_machine.specs.Refusals.{refusal}
use Rattle.plain_machine.specs.State.{State, Held, Load, Found, loading, nothing, sure, maybe, own, other, not_yet, found_own, found_other}
use Rattle.plain_machine.specs.Step.{Step, Outcome, outcomes, only, load_step, load_fault, fault_of_load, load_answers, find_step, other_step, other_state, no_image, own_step, loaded_step, has_place, has_room, too_few, resumed}
use Rattle.plain_machine.specs.Trace.{trace}
use Rattle.plain_machine.specs.declared.event.Actor.TheVariants as actor
use Rattle.plain_machine.specs.declared.event.Event.TheVariants as event
use Rattle.plain_machine.specs.declared.reply.Reply.{Reply}
use Rattle.plain_machine.specs.declared.reply.Reply.TheVariants as reply
use Rattle.theorem_laws.specs.LoadEnds.{NamesItsEnd, NamesBytes, disk_found}

-- each outcome of the step names the end
abbrev Names : Hardware → disk.DiskImage → Load → ℕ → Outcome → Type 0
Names h v load k o = NamesItsEnd h v load k o.0

abbrev AllName : Hardware → disk.DiskImage → Load → ℕ → List Outcome → Type 0
AllName h v load k os = AllByRecursion (Names h v load k) os

-- a cause that the bytes show
bytes_name : (h : Hardware) (v : disk.DiskImage) (load : Load) (k : ℕ) (r : Reply) → NamesBytes h load (disk_found v load.found k) r → NamesItsEnd h v load k r
bytes_name h v load k r is = inr (inr (inr (inr is)))

fault_names : (h : Hardware) (v : disk.DiskImage) (load : Load) (k : ℕ) (call : LoadCall) → Names h v load k (fault_of_load load call)
fault_names h v load k syncs_first = inr (inr (inl tt))
fault_names h v load k (of_mark reads_mark) = inr (inr (inl tt))
fault_names h v load k (of_mark takes_back) = inr (inr (inl tt))
fault_names h v load k (of_mark syncs_back) = inr (inr (inl tt))
fault_names h v load k reads_image = inr (inr (inl tt))

by_place : (rs : List Reply) (k : ℕ) (r : Reply) → slice_get rs k ≡ Some r → Contains rs r
by_place [] k r says = absurd (none-some r says)
by_place (x ∷ rs) zero r says = (0, omega arith, same_Some x r says)
by_place (x ∷ rs) (suc k) r says = (let later = by_place rs k r says in (suc later.0, omega arith, later.2))

-- another machine's image: the trace of the disk that was found
other_names : (h : Hardware) (v w : disk.DiskImage) (load found : Load) (k : ℕ) (o : Option Reply) → slice_get (trace h load.dump w load.loader load.check) k ≡ o → disk_found v load.found k ≡ w →
    AllName h v load k (elim o as (λ x. List Outcome) [ None ↦ [] | Some r ↦ only r (other_state h found w k r) ])
other_names h v w load found k None says same = tt
other_names h v w load found k (Some r) says same =
    (bytes_name h v load k r (inr (subst (λ (u : disk.DiskImage). Contains (trace h load.dump u load.loader load.check) r) (sym same) (by_place (trace h load.dump w load.loader load.check) k r says))), tt)

either : (h : Hardware) (v : disk.DiskImage) (load : Load) (k : ℕ) (b : Bool) (xs ys : List Outcome) → AllName h v load k xs → AllName h v load k ys → AllName h v load k (cond b xs ys)
either h v load k true xs ys p q = p
either h v load k false xs ys p q = q

either_one : (h : Hardware) (v : disk.DiskImage) (load : Load) (k : ℕ) (b : Bool) (x y : Outcome) → Names h v load k x → Names h v load k y → Names h v load k (cond b x y)
either_one h v load k true x y p q = p
either_one h v load k false x y p q = q

none_names : (h : Hardware) (v : disk.DiskImage) (load : Load) → AllName h v load 1 no_image
none_names h v load = (bytes_name h v load 1 reply.NoImage (inl refl), tt)

find_names : (h : Hardware) (v : disk.DiskImage) (load : Load) (held : Held) → AllName h v load 1 (find_step h v load held)
find_names h v load nothing = none_names h v load
find_names h v load (sure (own i)) = (inl (2, refl), tt)
find_names h v load (maybe (own i)) = (inl (2, refl), none_names h v load)
find_names h v load (sure other) =
    either h v load 1 (is_marked_disk h v) (other_step h (record load { found = found_other v }) v 1) []
    (other_names h v v load (record load { found = found_other v }) 1 (slice_get (trace h load.dump v load.loader load.check) 1) refl refl) tt
find_names h v load (maybe other) = other_names h v v load (record load { found = found_other v }) 1 (slice_get (trace h load.dump v load.loader load.check) 1) refl refl

own_names : (h : Hardware) (v : disk.DiskImage) (load : Load) (i : Image) (k : ℕ) → Names h v load k (own_step h load i k)
own_names h v load i k =
    either_one h v load k ((eqb (k + 1) (6 + meta_of (n_of i))) && not (has_room h load (d_of i))) (too_few h load (d_of i)) _
    (inr (inr (inr (inl (_, _, refl)))))
    (either_one h v load k (eqb (k + 1) (resume_steps i)) (reply.Resumed (n_of i), resumed (restored h load.dump load.loader i) i.slots load.loader) (reply.Loading (k + 1), loading load (k + 1))
    (inr (inl (n_of i, refl))) (inl (k + 1, refl)))

loaded_names : (h : Hardware) (v : disk.DiskImage) (load : Load) (found : Found) (k : ℕ) → load.found ≡ found → AllName h v load (suc (suc k)) (loaded_step h load found (suc (suc k)))
loaded_names h v load not_yet k is = tt
loaded_names h v load (found_own i) k is = (own_names h v load i (suc (suc k)), tt)
loaded_names h v load (found_other w) k is =
    other_names h v w load load (suc (suc k)) (slice_get (trace h load.dump w load.loader load.check) (suc (suc k))) refl (ap (λ (f : Found). disk_found v f (suc (suc k))) is)

answers_name : (h : Hardware) (v : disk.DiskImage) (load : Load) (k : ℕ) → AllName h v load k (load_answers h v load k)
answers_name h v load zero = (inl (1, refl), tt)
answers_name h v load (suc zero) = find_names h v load load.held
answers_name h v load (suc (suc zero)) = loaded_names h v load load.found 0 refl
answers_name h v load (suc (suc (suc zero))) = loaded_names h v load load.found 1 refl
answers_name h v load (suc (suc (suc (suc k)))) = loaded_names h v load load.found (suc (suc k)) refl

loading_step : (h : Hardware) (v : disk.DiskImage) (load : Load) (k : ℕ) (r : Reply) (b : State) → Step h v (loading load k) (event.Step actor.Core) r b → Contains (load_step h v load k) (r, b)
unfolding outcomes refusal
loading_step h v load k r b step = step

-- A step of a resume goes on, succeeds, or names why it doesn't.
pub names_its_end : (h : Hardware) (v : disk.DiskImage) (load : Load) (k : ℕ) (r : Reply) (b : State) → Step h v (loading load k) (event.Step actor.Core) r b → NamesItsEnd h v load k r
names_its_end h v load k r b step =
    let os = load_step h v load k in
    let all : AllName h v load k os =
    either h v load k (ltb k 4 || has_place h load load.found k) (load_fault load k ∷ load_answers h v load k) [] (fault_names h v load k (load_call k), answers_name h v load k) tt in
    All-contains (Names h v load k) os (r, b) (All-from_recursion (Names h v load k) os all) (loading_step h v load k r b step)
