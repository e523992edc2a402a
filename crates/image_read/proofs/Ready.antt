-- A reader that took a block and went on is ready again.
use Rattle.std.proofs.Common.{◌≡◌, ℕ, ◌+◌, ◌%◌, ◌<◌, ◌≤◌, List, ◌++◌, length, length-append, Option, Some, None, Ok, refl, sym, ap, ◌∙◌, subst, inl, inr, arith}
use Rattle.std.proofs.lemmas.Bool.{cases_eq}
use Rattle.definitions.specs.Zones.{numbers}
use Rattle.definitions.specs.InfoPage.{info_of}
use Rattle.definitions.specs.declared.info.Ident.{Ident}
use Rattle.definitions.specs.declared.info.Info.{Info}
use Rattle.frame_sets.specs.Unpacked.{Unpacked, IsUpTo}
use Rattle.frame_sets.specs.Numbers.{page_fault, or_else, first_below, fault_in, end_fault, wanted, numbers_in, marked_in}
use Rattle.frame_sets.proofs.Listing.{up_to_numbers, up_to_marked}
use Rattle.frame_sets.specs.declared.packing.unpack.PfnFault.{PfnFault}
use Rattle.plain_machine.specs.Trace.{place_count}
use Rattle.image_read.specs.Reading.{Reading, IsReady}
use Rattle.image_read.specs.Faults.{info_fault, named_block}
use Rattle.image_read.specs.Taking.{Takes, Advances, numbers_fault, listing_fault, pfn_cause, with_info, with_numbers}
use Rattle.image_read.specs.declared.cause.Cause.{Cause}
use Rattle.image_read.proofs.Numbers.{length-numbers_in, all_read-all}
use Rattle.image_read.proofs.Counts.{info_sound, good_counts}
use Rattle.image_read.proofs.Places.{two_places}
use Rattle.image_read.proofs.Over.{cases_listed}

-- What is kept by each kind of block, but for the count of steps and the next block.
pub record IsTaken (r : Reading) (origs zeros : List ℕ) (old : Reading) : Type 0 where
  pub steps : r.steps ≡ old.steps
  pub block : r.block ≡ old.block
  pub blocks : r.blocks ≡ old.blocks
  pub within : r.steps + 1 ≤ place_count r.pages
  pub numbers : r.numbers.n ≡ r.saved
  pub count : length origs ≡ r.numbers.read
  pub wanted : 1 ≤ r.steps → r.listed ≡ None → r.numbers.read < r.saved
  pub begun : r.steps < 1 → (r.numbers.last ≡ None) × (r.numbers.read ≡ 0)
  pub listed_up : IsUpTo r.numbers.last origs
  pub marked_up : IsUpTo r.numbers.last zeros

-- of a page without a fault

no_fault : (a b : Option PfnFault) → or_else a b ≡ None → a ≡ None
no_fault None b h = refl
no_fault (Some x) b h = cc

pub page_sound : (zones : List (ℕ × ℕ)) (u : Unpacked) (page : List ℕ) → page_fault zones u page ≡ None → first_below (fault_in zones u page) (wanted u) ≡ None
unfolding page_fault
page_sound zones u page h = no_fault (first_below (fault_in zones u page) (wanted u)) (end_fault u page) h

none_of : (a : Option PfnFault) (b : Option Cause) → or_else (pfn_cause a) b ≡ None → (a ≡ None) × (b ≡ None)
none_of None b h = (refl, h)
none_of (Some x) b h = cc

pub numbers_sound : (zones : List (ℕ × ℕ)) (r : Reading) (zeros page : List ℕ) → numbers_fault zones r zeros page ≡ None → (page_fault zones r.numbers page ≡ None) × (listing_fault r (length (zeros ++ marked_in r.numbers page (wanted r.numbers))) ≡ None)
numbers_sound zones r zeros page h = none_of (page_fault zones r.numbers page) (listing_fault r (length (zeros ++ marked_in r.numbers page (wanted r.numbers)))) h

-- a map page
taken_map : (r : Reading) (origs zeros : List ℕ) (m : _) → IsReady r origs zeros → r.steps < place_count r.pages → r.steps % 512 ≡ 0 → IsTaken (record r { map = m }) origs zeros r
taken_map r origs zeros m ready more at = record {
  steps = refl;
  block = refl;
  blocks = refl;
  within = omega arith;
  numbers = ready.numbers;
  count = ready.count;
  wanted = λ some none. ready.wanted (omega arith) none;
  begun = λ few. ready.begun (omega arith);
  listed_up = ready.listed_up;
  marked_up = ready.marked_up;
}

-- the info page
no_members : (last : Option ℕ) (members : List ℕ) → last ≡ None → IsUpTo last members → IsUpTo None members
no_members last members is up = subst (λ (l : Option ℕ). IsUpTo l members) is up

taken_info : (own : Option Ident) (valid : ℕ) (r : Reading) (info : Info) (origs zeros : List ℕ) → IsReady r origs zeros → r.steps ≡ 1 → info_fault own valid r.format info ≡ None → IsTaken (with_info r info) origs zeros r
taken_info own valid r info origs zeros ready at sound =
    let two = two_places info.pages in
    let good = good_counts r.format valid info.image_pages info.pages (info_sound own valid r.format info sound) in
    let begun = ready.begun (omega arith) in
    record {
      steps = refl;
      block = refl;
      blocks = refl;
      within = omega arith;
      numbers = refl;
      count = ready.count ∙ begun.1;
      wanted = λ some none. good.0.some;
      begun = λ few. absurd (omega arith);
      listed_up = no_members r.numbers.last origs begun.0 ready.listed_up;
      marked_up = no_members r.numbers.last zeros begun.0 ready.marked_up;
    }

-- a number page
taken_numbers : (zones : List (ℕ × ℕ)) (r : Reading) (page origs zeros : List ℕ) → IsReady r origs zeros → r.steps < place_count r.pages → (r.steps % 512 ≡ 0 → ⊥) → (r.steps ≡ 1 → ⊥) → r.listed ≡ None → numbers_fault zones r zeros page ≡ None → IsTaken (with_numbers r page) (origs ++ numbers_in r.numbers page (wanted r.numbers)) (zeros ++ marked_in r.numbers page (wanted r.numbers)) r
taken_numbers zones r page origs zeros ready more apart other none fault =
    let sound = page_sound zones r.numbers page (numbers_sound zones r zeros page fault).0 in
    let n_is = ready.numbers in
    let old_count = ready.count in
    let room = ready.wanted (omega arith) none in
    record {
      steps = refl;
      block = refl;
      blocks = refl;
      within = omega arith;
      numbers = ready.numbers;
      count = omega (arith, length-append origs (numbers_in r.numbers page (wanted r.numbers)), length-numbers_in r.numbers page (wanted r.numbers));
      wanted = λ some left. elim (cases_eq (r.numbers.read + wanted r.numbers) r.saved) [
        | inl all ↦ absurd (let told = all_read-all r all in cc)
        | inr apart' ↦ omega arith
      ];
      begun = λ few. absurd (omega arith);
      listed_up = up_to_numbers zones r.numbers page origs (wanted r.numbers) (wanted r.numbers) (omega arith) sound ready.listed_up;
      marked_up = up_to_marked zones r.numbers page zeros (wanted r.numbers) (wanted r.numbers) (omega arith) sound ready.marked_up;
    }

-- a data page
taken_data : (r : Reading) (origs zeros : List ℕ) (frame : ℕ) → IsReady r origs zeros → r.steps < place_count r.pages → (r.steps % 512 ≡ 0 → ⊥) → (r.steps ≡ 1 → ⊥) → IsTaken (record r { frame = frame }) origs zeros r
taken_data r origs zeros frame ready more apart other = record {
  steps = refl;
  block = refl;
  blocks = refl;
  within = omega arith;
  numbers = ready.numbers;
  count = ready.count;
  wanted = λ some none. ready.wanted (omega arith) none;
  begun = λ few. ready.begun (omega arith);
  listed_up = ready.listed_up;
  marked_up = ready.marked_up;
}

-- the sets as they are
with_sets : (new old : Reading) (origs zeros new_origs new_zeros : List ℕ) → new_origs ≡ origs → new_zeros ≡ zeros → IsTaken new origs zeros old → IsTaken new new_origs new_zeros old
with_sets new old origs zeros new_origs new_zeros a b h =
    subst (λ (z : List ℕ). IsTaken new new_origs z old) (sym b) (subst (λ (o : List ℕ). IsTaken new o zeros old) (sym a) h)

pub taken : (own : Option Ident) (zones : List (ℕ × ℕ)) (page : List ℕ) (r : Reading) (origs zeros : List ℕ) (frame : Option ℕ) (new : Reading) (new_origs new_zeros : List ℕ) → IsReady r origs zeros → r.steps < place_count r.pages → Takes own zones page r origs zeros (Ok frame) new new_origs new_zeros → IsTaken new new_origs new_zeros r
taken own zones page r origs zeros frame new new_origs new_zeros ready more takes = elim (cases_eq (r.steps % 512) 0) [
  | inl at ↦
      let h = takes.map at in
      with_sets new r origs zeros new_origs new_zeros h.2 h.3
      (subst (λ (x : Reading). IsTaken x origs zeros r) (sym h.1) (taken_map r origs zeros _ ready more at))
  | inr apart ↦ elim (cases_eq r.steps 1) [
    | inl one ↦
        let h = takes.info one in
        with_sets new r origs zeros new_origs new_zeros h.1 h.2
        (subst (λ (x : Reading). IsTaken x origs zeros r) (sym h.0.2) (taken_info own (length (numbers zones)) r (info_of page) origs zeros ready one h.0.0))
    | inr other ↦ elim (cases_listed r.listed) [
      | inl none ↦
          let h = takes.numbers apart other none in
          with_sets new r _ _ new_origs new_zeros h.3 h.4
          (subst (λ (x : Reading). IsTaken x (origs ++ numbers_in r.numbers page (wanted r.numbers)) (zeros ++ marked_in r.numbers page (wanted r.numbers)) r) (sym h.2)
          (taken_numbers zones r page origs zeros ready more apart other none h.0))
      | inr told ↦
          let h = takes.saved_page told.0 apart other told.1 in
          with_sets new r origs zeros new_origs new_zeros h.2 h.3
          (subst (λ (x : Reading). IsTaken x origs zeros r) (sym h.1) (taken_data r origs zeros _ ready more apart other))
    ]
  ]
]

-- and then the step is counted
counted : (r : Reading) (origs zeros : List ℕ) (old : Reading) (block : ℕ) → IsTaken r origs zeros old → r.saved ≤ 65536 → block < r.blocks → IsReady (record r { steps = r.steps + 1; block = block }) origs zeros
counted r origs zeros old block h few below = record {
  saved = few;
  within = h.within;
  block = below;
  numbers = h.numbers;
  count = h.count;
  wanted = λ some none. h.wanted (omega arith) none;
  begun = λ low. h.begun (omega arith);
  listed_up = h.listed_up;
  marked_up = h.marked_up;
}

pub ready_after : (r old after : Reading) (origs zeros : List ℕ) (x : Unit {0}) → IsTaken r origs zeros old → r.saved ≤ 65536 → Advances r (Ok x) after → after.block < after.blocks → IsReady after origs zeros
ready_after r old after origs zeros x h few (inl over) below =
    let here : r.block < r.blocks = subst (λ (a : Reading). a.block < a.blocks) over.1 below in
    subst (λ (a : Reading). IsReady a origs zeros) (sym over.1) (counted r origs zeros old r.block h few here)
ready_after r old after origs zeros x h few (inr on) below =
    let here : named_block r (r.steps + 1) < r.blocks = subst (λ (a : Reading). a.block < a.blocks) on.2 below in
    subst (λ (a : Reading). IsReady a origs zeros) (sym on.2) (counted r origs zeros old (named_block r (r.steps + 1)) h few here)

-- and a step is counted
pub step_counted : (r old after : Reading) (x : Unit {0}) → r.steps ≡ old.steps → Advances r (Ok x) after → after.steps ≡ old.steps + 1
step_counted r old after x same (inl over) = let steps = ap (λ (a : Reading). a.steps) over.1 in omega arith
step_counted r old after x same (inr on) = let steps = ap (λ (a : Reading). a.steps) on.2 in omega arith
