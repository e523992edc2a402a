-- What is known of a resume before a step, in the state that it stands for.
use Rattle.std.proofs.Common.{◌≡◌, ◌<◌, ℕ, List, Contains, Some, sym, ap, ap₂, ◌∙◌, subst, arith}
use Rattle.std.proofs.lemmas.Option.{same_Some}
use Rattle.definitions.proofs.DiskLaws.{length-as_it_reads}
use Rattle.std.specs.List.{zip}
use Rattle.definitions.specs.Disk as disk
use Rattle.placement.specs.Waiting.{waiting_pages}
use Rattle.plain_machine.specs.Machine.{Hardware, Memory}
use Rattle.plain_machine.specs.Chain.{blocks_of}
use Rattle.plain_machine.specs.Loader.{left_free, loader_frame}
use Rattle.plain_machine.specs.declared.event.Loader.{Loader}
use Rattle.plain_machine.specs.declared.event.IdentCheck.{IdentCheck}
use Rattle.plain_machine.specs.Shows.{loads}
use Rattle.plain_machine.specs.State.{State, loading, Load as Resume}
use Rattle.plain_machine.specs.declared.event.Event.{Event}
use Rattle.plain_machine.specs.declared.event.Event.TheVariants as event
use Rattle.plain_machine.specs.declared.event.Actor.TheVariants as actor
use Rattle.plain_machine.specs.declared.reply.Reply.{Reply}
use Rattle.plain_machine.specs.declared.reply.Reply.TheVariants as reply
use Rattle.protocol_laws.specs.LoadRows.{Goes, IsStop}
use Rattle.protocol_laws.specs.Loads.{ShowsLoad}
use Rattle.protocol_laws.specs.Rows as rows
use Rattle.machine.specs.declared.machine.Machine.{Machine}
use Rattle.resume_core.specs.Loading.{shown_by, activity_of}
use Rattle.resume_core.specs.Row.{ResumeStandsFor, StandsAfter, HasEnded, HasLoader, IsOfState, Simulates, NoneWaits}
use Rattle.resume_core.specs.declared.load.Load.{Load}
use Rattle.protocol_laws.proofs.LoadRows.{shows_none_read}
use Rattle.resume_core.proofs.Cases.{at_load}

-- a row that leads to what is there in the end
pub row_of : (machine : Machine) (frames : Memory) (load : Load) (machine' : Machine) (frames' : Memory) (load' end : Load) (r told : Reply) (c c' : disk.Content) → end ≡ load' → told ≡ r →
    Simulates machine frames load machine' frames' load' (event.Step actor.Core) r c c' → Simulates machine frames load machine' frames' end (event.Step actor.Core) told c c'
row_of machine frames load machine' frames' load' end r told c c' same reply row =
    subst (λ (x : Load). Simulates machine frames load machine' frames' x (event.Step actor.Core) told c c') (sym same) (subst (λ (q : Reply). Simulates machine frames load machine' frames' load' (event.Step actor.Core) q c c') (sym reply) row)

-- the rows of a resume
pub row_at_load : (machine : Machine) (frames : Memory) (load : Load) (machine' : Machine) (frames' : Memory) (load' : Load) (e : Event) (r : Reply) (c c' : disk.Content) (k : ℕ) → activity_of load ≡ loads k →
    ((l : Resume) → ResumeStandsFor machine frames load c (loading l k) → (b : State) × rows.StepsTo machine.hw (StandsAfter machine' frames' load' r (loading l k)) e r c c' (loading l k) b) →
    Simulates machine frames load machine' frames' load' e r c c'
row_at_load machine frames load machine' frames' load' e r c c' k is goes s stands =
    let at = at_load s k (sym is ∙ stands.stands.activity) in
    subst (λ (t : State). (b : State) × rows.StepsTo machine.hw (StandsAfter machine' frames' load' r t) e r c c' t b) (sym at.1)
    (goes at.0 (subst (ResumeStandsFor machine frames load c) at.1 stands))

-- a step that goes on to a state whose resume it is at
pub leads : (machine : Machine) (frames : Memory) (load : Load) (r : Reply) (c c' : disk.Content) (a b : State) → HasEnded machine frames c' r a b → Goes machine.hw (shown_by machine frames load) r c c' a b → IsOfState machine frames load c' b →
    rows.StepsTo machine.hw (StandsAfter machine frames load r a) (event.Step actor.Core) r c c' a b
leads machine frames load r c c' a b ended goes is = record { step = goes.step; stands = record { stands = goes.stands; resume = is; ended = ended }; area = goes.area; unwritten = goes.unwritten; leaves = goes.leaves; header = goes.header }

-- a resume that ends early leaves nothing to say of memory
pub stopped_early : (machine : Machine) (frames : Memory) (c : disk.Content) (r : Reply) (a b : State) → IsStop r → HasEnded machine frames c r a b
stopped_early machine frames c (reply.Resumed n) a b stop = absurd stop
stopped_early machine frames c _ a b stop = tt

-- Loader and check are those that are shown.

abbrev pub Asked : Type 0
Asked = Loader × IdentCheck

abbrev pub asked_of : Load → Asked
asked_of load = (load.loader, load.check)

abbrev pub asked_by : Resume → Asked
asked_by l = (l.loader, l.check)

pub load_told : (machine : Machine) (frames : Memory) (load : Load) (c : disk.Content) (l : Resume) (k : ℕ) → ResumeStandsFor machine frames load c (loading l k) → asked_of load ≡ asked_by l
load_told machine frames load c l k s = same_Some (asked_of load) (asked_by l) s.stands.parts.resume.shows.told

pub told_by : (load : Load) (l : Resume) {h : Hardware} → HasLoader h load l → Some (asked_of load) ≡ Some (asked_by l)
told_by load l has = ap₂ (λ (x : Loader) (y : IdentCheck). Some (x, y)) has.loader has.check

pub loader_of : (machine : Machine) (frames : Memory) (load : Load) (c : disk.Content) (l : Resume) (k : ℕ) → ResumeStandsFor machine frames load c (loading l k) → HasLoader machine.hw load l
loader_of machine frames load c l k s =
    let told = load_told machine frames load c l k s in
    record { loader = ap (λ (t : Asked). t.0) told; free = s.resume.free; check = ap (λ (t : Asked). t.1) told }

pub same_loader : (h : Hardware) (load load' : Load) (l : Resume) → load'.waiting.free ≡ load.waiting.free → load'.loader ≡ load.loader → load'.check ≡ load.check → HasLoader h load l → HasLoader h load' l
same_loader h load load' l free same check has = record { loader = same ∙ has.loader; free = free ∙ has.free; check = check ∙ has.check }

-- up to the info page nothing is shown of the pages
pub shows_none : (machine : Machine) (frames : Memory) (load load' : Load) (c : disk.Content) (l l' : Resume) (j k : ℕ) → ResumeStandsFor machine frames load c (loading l j) → l'.loader ≡ l.loader → l'.dump ≡ l.dump → activity_of load' ≡ loads k → asked_of load' ≡ asked_by l' → k < 7 → NoneWaits load' →
    ShowsLoad machine.hw (shown_by machine frames load') l' k
shows_none machine frames load load' c l l' j k s loader dump activity told few none =
    let kept = s.stands.parts.resume.shows.kept in
    shows_none_read machine.hw (shown_by machine frames load') l' k (omega arith) activity (ap Some told)
    (λ p lt free. kept p lt (λ has. free (subst (λ d. Contains (left_free machine.hw d l'.loader) p) (sym dump) (subst (λ x. Contains (left_free machine.hw l.dump x) p) (sym loader) has)))
    ∙ ap (λ d. loader_frame d l.loader p) (sym dump) ∙ ap (λ x. loader_frame l'.dump x p) (sym loader))
    (ap (λ (xs : List ℕ). zip xs (waiting_pages frames load'.waiting)) none)

pub count_of : (blocks : ℕ) (c : disk.Content) → disk.IsContent blocks c → blocks_of (disk.as_it_reads c) ≡ blocks
count_of blocks c whole = let size = length-as_it_reads c in let all = whole.size in omega arith
