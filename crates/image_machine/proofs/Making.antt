-- What a plan that was given an image's numbers makes of the image.
use Rattle.std.proofs.Common.{◌≡◌, ◌≤◌, ℕ, List, Option, Result, Ok, Err, IfOk, inl, inr, sym, ap₂, subst, ◌∙◌}
use Rattle.std.specs.List.{Contains}
use Rattle.definitions.specs.Disk.{Content}
use Rattle.definitions.specs.Zones.{numbers}
use Rattle.image_check.specs.Told.{Told}
use Rattle.image_pages.proofs.Earlier.{refused_earlier}
use Rattle.image_pages.proofs.Starting.{bad_earlier}
use Rattle.image_pages.specs.Opens.{IsBad}
use Rattle.image_pages.specs.SavedFrames.{AreAllSaved, SavedFrame}
use Rattle.image_pages.specs.SavedNumbers.{AreAllNumbers}
use Rattle.image_machine.specs.Layouts.{zones_of}
use Rattle.image_machine.specs.Limits.{PassesAtLast}
use Rattle.image_machine.specs.Loaders.{IsLoaderFor}
use Rattle.image_machine.specs.Machines.{IsMachineFor, PassesWith}
use Rattle.image_machine.specs.Plans.{IsPlan}
use Rattle.image_machine.specs.declared.filled.FilledPlan.{FilledPlan}
use Rattle.image_machine.specs.declared.heading.Heading.{Heading}
use Rattle.image_machine.specs.declared.heading.Layout.{Layout}
use Rattle.image_machine.specs.declared.limit.Limit.{Limit}
use Rattle.image_machine.specs.declared.plan.Plan.{Plan}
use Rattle.machine.specs.declared.dump.Dump.{Dump as MachineDump}
use Rattle.page_core.specs.declared.NoMemory.{NoMemory}
use Rattle.image_machine.specs.Adds.{IsOutside}
use Rattle.image_machine.specs.Headings.{IsHeadingOf}
use Rattle.image_machine.specs.Lays.{LiesOutside, pages_of}
use Rattle.image_machine.specs.Makes.{HasLimit, HasMachineLimit, IsLoaderFrom, IsMachineFrom, MakesBy, at_last, lies_outside, outside, passed_at_last}
use Rattle.image_machine.specs.declared.dump.made.Made.{Made}
use Rattle.image_machine.specs.declared.dump.made.Made.TheVariants.{NoImage, Refused, NoArea, Limit as Passed, Dump}

pub limit_outside : (area content : Option Content) (header : ℕ) (heading : Heading) (layout : Layout) (new : Plan) (limit : Limit) → IsPlan new →
    new.heading ≡ heading → new.layout ≡ layout → IsHeadingOf area layout.offset heading →
    IsOutside content header new limit → HasLimit area content header layout limit
limit_outside area content header heading layout new limit is e f headed o =
    let zones : new.zones ≡ zones_of heading layout = is.zones ∙ ap₂ zones_of e f in
    outside heading o.given o.number headed o.first o.last
    (λ in'. o.outside (subst (λ (zs : List (ℕ × ℕ)). Contains (numbers zs) o.number) (sym zones) in')) o.is

pub limit_at_last : (area content : Option Content) (header : ℕ) (heading : Heading) (layout : Layout) (new : Plan) (limit : Limit) →
    new.heading ≡ heading → new.layout ≡ layout → IsHeadingOf area layout.offset heading →
    AreAllNumbers content header new.saved.members →
    PassesAtLast new.heading new.layout new.saved.members limit → HasLimit area content header layout limit
limit_at_last area content header heading layout new limit e f headed all passes =
    at_last heading new.saved.members headed all
    (subst (λ (h : Heading). PassesAtLast h layout new.saved.members limit) e
    (subst (λ (l : Layout). PassesAtLast new.heading l new.saved.members limit) f passes))

pub loader_made : (area content : Option Content) (header : ℕ) (heading : Heading) (layout : Layout) (new : Plan) (dump : MachineDump) →
    new.heading ≡ heading → new.layout ≡ layout → IsHeadingOf area layout.offset heading →
    AreAllNumbers content header new.saved.members →
    IsLoaderFor new.heading new.layout new.saved.members dump.hw dump.frames → IsLoaderFrom area content header layout dump
loader_made area content header heading layout new dump e f headed all loader = record {
  heading = heading;
  saved = new.saved.members;
  headed = headed;
  read = all;
  loader =
      subst (λ (h : Heading). IsLoaderFor h layout new.saved.members dump.hw dump.frames) e
      (subst (λ (l : Layout). IsLoaderFor new.heading l new.saved.members dump.hw dump.frames) f loader);
}

-- A plan that was given page frames with their pages.

pub machine_outside : (area content : Option Content) (header : ℕ) (heading : Heading) (layout : Layout) (tables : Option (ℕ × ℕ)) (new : FilledPlan) (limit : Limit) →
    new.plan.zones ≡ zones_of heading layout → IsHeadingOf area layout.offset heading →
    LiesOutside content header new limit → HasMachineLimit area content header layout tables limit
machine_outside area content header heading layout tables new limit zones headed o =
    lies_outside heading o.given o.number headed o.first o.last
    (λ in'. o.outside (subst (λ (zs : List (ℕ × ℕ)). Contains (numbers zs) o.number) (sym zones) in')) o.is

pub machine_at_last : (area content : Option Content) (header : ℕ) (heading : Heading) (layout : Layout) (tables : Option (ℕ × ℕ)) (new : FilledPlan) (limit : Limit) →
    new.plan.heading ≡ heading → new.plan.layout ≡ layout → IsHeadingOf area layout.offset heading →
    (saved : List SavedFrame) → AreAllSaved content header saved →
    PassesWith new.plan.heading new.plan.layout tables (pages_of saved) limit → HasMachineLimit area content header layout tables limit
machine_at_last area content header heading layout tables new limit e f headed saved all passes =
    passed_at_last heading saved headed all
    (subst (λ (h : Heading). PassesWith h layout tables (pages_of saved) limit) e
    (subst (λ (l : Layout). PassesWith new.plan.heading l tables (pages_of saved) limit) f passes))

pub machine_made : (area content : Option Content) (header : ℕ) (heading : Heading) (layout : Layout) (tables : Option (ℕ × ℕ)) (new : FilledPlan) (dump : MachineDump) →
    new.plan.heading ≡ heading → new.plan.layout ≡ layout → IsHeadingOf area layout.offset heading →
    (saved : List SavedFrame) → AreAllSaved content header saved →
    IsMachineFor new.plan.heading new.plan.layout tables (pages_of saved) dump.hw dump.frames → IsMachineFrom area content header layout tables dump
machine_made area content header heading layout tables new dump e f headed saved all machine = record {
  heading = heading;
  saved = saved;
  headed = headed;
  read = all;
  machine =
      subst (λ (h : Heading). IsMachineFor h layout tables (pages_of saved) dump.hw dump.frames) e
      (subst (λ (l : Layout). IsMachineFor new.plan.heading l tables (pages_of saved) dump.hw dump.frames) f machine);
}

-- What was made is the same over a disk that reads as before, whichever limits and dumps are an image's.

bad_before : (content : Option Content) (blocks header before then now : ℕ) (told end : Told) → before ≤ then → IsBad content blocks header then now told end → IsBad content blocks header before now told end
bad_before content blocks header before then now told end le (inl bad) = inl (bad_earlier content blocks header before then now told end le bad)
bad_before content blocks header before then now told end le (inr (pages, refused)) = inr (pages, refused_earlier content blocks header before then now told end pages le refused)

makes_earlier : (no_area : Type 0) (limits : Limit → Type 0) (dumps : MachineDump → Type 0) (content : Option Content) (blocks header before then now : ℕ) (told end : Told) (made : Made) → before ≤ then → MakesBy no_area limits dumps content blocks header then now told end made → MakesBy no_area limits dumps content blocks header before now told end made
makes_earlier no_area limits dumps content blocks header before then now told end NoImage le h = h
makes_earlier no_area limits dumps content blocks header before then now told end Refused le h = bad_before content blocks header before then now told end le h
makes_earlier no_area limits dumps content blocks header before then now told end NoArea le h = h
makes_earlier no_area limits dumps content blocks header before then now told end (Passed limit) le h = h
makes_earlier no_area limits dumps content blocks header before then now told end (Dump dump) le h = h

module _ (no_area : Type 0) (limits : Option Content → Limit → Type 0) (dumps : Option Content → MachineDump → Type 0) where
  makes_since : (c d : Option Content) (m n header before then now : ℕ) (told old end : Told) (made : Made) → c ≡ d → m ≡ n → old ≡ told → before ≤ then → MakesBy no_area (limits c) (dumps c) c m header then now old end made → MakesBy no_area (limits d) (dumps d) d n header before now told end made
  makes_since c d m n header before then now told old end made e i t le h =
      makes_earlier no_area (limits d) (dumps d) d n header before then now told end made le
      (subst (λ (x : Told). MakesBy no_area (limits d) (dumps d) d n header then now x end made) t
      (subst (λ (x : Option Content). MakesBy no_area (limits x) (dumps x) x n header then now old end made) e
      (subst (λ (b : ℕ). MakesBy no_area (limits c) (dumps c) c b header then now old end made) i h)))

  pub if_made_since : (c d : Option Content) (m n header before then now : ℕ) (told old end : Told) (r : Result Made NoMemory) → c ≡ d → m ≡ n → old ≡ told → before ≤ then → IfOk r (MakesBy no_area (limits c) (dumps c) c m header then now old end) → IfOk r (MakesBy no_area (limits d) (dumps d) d n header before now told end)
  if_made_since c d m n header before then now told old end (Ok made) e i t le h = makes_since c d m n header before then now told old end made e i t le h
  if_made_since c d m n header before then now told old end (Err why) e i t le h = tt
