-- What is known of a name that has no finding.
use Rattle.std.proofs.Common.{◌≡◌, ℕ, ◌+◌, ◌-◌, ◌*◌, ◌<◌, ◌≤◌, ◌&&◌, ◌||◌, ◌⊎◌, Bool, true, false, List, [], ◌∷◌, ◌++◌, Option, Some, None, Result, Ok, Err, cond, eqb, leb, ltb, not, refl, arith, sym, inl, inr}
use Rattle.std.proofs.lemmas.Bool.{leb-true, leb-false, ltb-true, ltb-false, eqb-true}
use Rattle.page_core.specs.declared.format.Format.{Format}
use Rattle.page_core.specs.declared.format.Format.TheVariants.{Plain, SkipZeros}
use Rattle.image_walk.specs.declared.limits.Limits.{Limits}
use Rattle.image_walk.specs.declared.visit.BlockFault.{BlockFault}
use Rattle.image_walk.specs.declared.visit.BlockFault.TheVariants as fault
use Rattle.image_walk.specs.Names.{Name, map_at, page_at, answer_of, maps_in, fault_of, is_bad, is_named, is_unread, IsAnswer, IsNext}
use Rattle.image_check.specs.Entries.{position_of, place_of, counts_of, entry_fault, is_unused, read_findings, wanted_fault, ends_fault}
use Rattle.image_check.specs.Image.{name_findings}
use Rattle.image_check.specs.Info.{counts_in, counts_fault, size_fault, identity_findings, info_findings}
use Rattle.image_check.specs.Told.{list_of}
use Rattle.image_check.specs.declared.finding.Counts.{Counts}
use Rattle.image_check.specs.declared.finding.Finding.{Finding}
use Rattle.image_check.specs.declared.finding.Finding.TheVariants as finding
use Rattle.image_check.specs.declared.finding.Place.{Place}
use Rattle.definitions.specs.Bytes.{number_at}
use Rattle.definitions.specs.NumberPages.{meta_of}

-- parts of no findings are none
pub left_none : {A : Type 0} (xs ys : List A) → xs ++ ys ≡ [] → xs ≡ []
left_none [] ys e = refl
left_none (x ∷ xs) ys e = cc

pub right_none : {A : Type 0} (xs ys : List A) → xs ++ ys ≡ [] → ys ≡ []
right_none [] ys e = e
right_none (x ∷ xs) ys e = cc

pub no_finding : (f : Option Finding) → list_of f ≡ [] → f ≡ None
no_finding None e = refl
no_finding (Some f) e = cc

-- why a block other than 0 isn't read
abbrev pub other_fault : Limits → List Name → ℕ → Option BlockFault
other_fault l h b =
    cond (leb l.blocks b) (Some (fault.BeyondFile b))
    (cond (ltb l.last b) (Some (fault.BeyondLast b))
    (cond (is_bad l b) (Some (fault.Bad b))
    (cond (eqb b l.header || is_named b h) (Some (fault.Again b)) None)))

map_unread : (none more : Bool) (e : Option Finding) (f : Finding) (rest : Option BlockFault) (b c : ℕ) → list_of (cond (none && more) e (Some f)) ≡ [] → IsAnswer (cond none (Some fault.Zero) rest) b (Err (fault.Unread c)) → ⊥
map_unread true more e f rest b c clean answer = cc
map_unread false more e f rest b c clean answer = cc

entry_unread : (unused none : Bool) (f g : Finding) (rest : Option BlockFault) (b c : ℕ) → list_of (cond unused (cond none None (Some f)) (Some g)) ≡ [] → IsAnswer (cond none (Some fault.Zero) rest) b (Err (fault.Unread c)) → ⊥
entry_unread true true f g rest b c clean answer = cc
entry_unread true false f g rest b c clean answer = cc
entry_unread false none f g rest b c clean answer = cc

-- the block of a name without a finding could be read
pub not_unread : (format : Format) (l : Limits) (first : ℕ) (h : List Name) (x : Name) → IsNext l first h x → name_findings format h x ≡ [] → is_unread (answer_of x) ≡ false
not_unread format l first h (map_at b (Ok page)) next clean = refl
not_unread format l first h (map_at b (Err fault.Zero)) next clean = refl
not_unread format l first h (map_at b (Err (fault.BeyondFile c))) next clean = refl
not_unread format l first h (map_at b (Err (fault.BeyondLast c))) next clean = refl
not_unread format l first h (map_at b (Err (fault.Bad c))) next clean = refl
not_unread format l first h (map_at b (Err (fault.Again c))) next clean = refl
not_unread format l first h (map_at b (Err (fault.Unread c))) next clean =
    absurd (map_unread (eqb b 0) (ltb 1 (maps_in h + 1)) (ends_fault (counts_of h) (maps_in h + 1 - 1)) (finding.Map (maps_in h + 1) (fault.Unread c)) (other_fault l h b) b c clean next.3)
not_unread format l first h (page_at b (Ok page)) next clean = refl
not_unread format l first h (page_at b (Err fault.Zero)) next clean = refl
not_unread format l first h (page_at b (Err (fault.BeyondFile c))) next clean = refl
not_unread format l first h (page_at b (Err (fault.BeyondLast c))) next clean = refl
not_unread format l first h (page_at b (Err (fault.Bad c))) next clean = refl
not_unread format l first h (page_at b (Err (fault.Again c))) next clean = refl
not_unread format l first h (page_at b (Err (fault.Unread c))) next clean =
    let answer : Result (List ℕ) BlockFault = Err (fault.Unread c) in
    absurd (entry_unread (is_unused (counts_of h) (position_of h) b) (eqb b 0) (finding.AfterPages (place_of h) b) (finding.Entry (place_of h) (fault.Unread c)) (other_fault l h b) b c
    (left_none (list_of (entry_fault (counts_of h) (position_of h) (place_of h) b answer)) [] clean) next.2)

-- the chain ends without a finding where no more entries are wanted
pub end_wanted : (none more : Bool) (m : ℕ) (c : Counts) (f : Finding) → list_of (cond (none && more) (ends_fault (Some c) m) (Some f)) ≡ [] → c.pages ≤ 511 * m
end_wanted true true m c f clean = go (ltb (511 * m) c.pages) refl (no_finding (ends_fault (Some c) m) clean) where
  go : (t : Bool) → t ≡ ltb (511 * m) c.pages → cond t (Some (finding.Ends m c.pages)) None ≡ None → c.pages ≤ 511 * m
  go true is e = cc
  go false is e = ltb-false (511 * m) c.pages (sym is)
end_wanted true false m c f clean = cc
end_wanted false more m c f clean = cc

-- the first map can't be missing
pub end_mapped : (none : Bool) (m : ℕ) (e : Option Finding) (f : Finding) → list_of (cond (none && ltb 1 (m + 1)) e (Some f)) ≡ [] → 0 < m
end_mapped none m e f clean = go none (ltb 1 (m + 1)) refl clean where
  go : (a b : Bool) → b ≡ ltb 1 (m + 1) → list_of (cond (a && b) e (Some f)) ≡ [] → 0 < m
  go true true is x = let y = ltb-true 1 (m + 1) (sym is) in omega arith
  go true false is x = cc
  go false b is x = cc

-- a wanted entry without a finding has a page
pub wanted_page : {A : Type 0} (place : Place) (answer : Result A BlockFault) (rest : List Finding) → list_of (wanted_fault place answer) ++ rest ≡ [] → (page : A) × (answer ≡ Ok page)
wanted_page place (Ok page) rest clean = (page, refl)
wanted_page place (Err why) rest clean = cc

-- the first entry without a finding has an info page, in which nothing is wrong
pub info_clean : (format : Format) (place : Place) (b : ℕ) (previous : Option ℕ) (answer : Result (List ℕ) BlockFault) → (more : List Finding) → list_of (entry_fault None 0 place b answer) ++ (read_findings format None 0 b previous answer ++ more) ≡ [] → (page : List ℕ) × (answer ≡ Ok page) × (info_findings format page ≡ [])
info_clean format place b previous (Ok page) more clean = (page, refl, left_none (info_findings format page) more clean)
info_clean format place b previous (Err why) more clean = cc

-- an entry that isn't wanted has no page
unused_answer : (none : Bool) (f : Finding) (rest : Option BlockFault) (b : ℕ) (more : List Finding) (answer : Result (List ℕ) BlockFault) → list_of (cond none None (Some f)) ++ more ≡ [] → IsAnswer (cond none (Some fault.Zero) rest) b answer → answer ≡ Err fault.Zero
unused_answer true f rest b more answer clean is = is
unused_answer false f rest b more answer clean is = cc

-- an entry after the info page is wanted, and has a page, or has none
pub entry_clean : (format : Format) (l : Limits) (h : List Name) (c : Counts) (position : ℕ) (place : Place) (b : ℕ) (previous : Option ℕ) (answer : Result (List ℕ) BlockFault) (more : List Finding) → list_of (entry_fault (Some c) position place b answer) ++ (read_findings format (Some c) position b previous answer ++ more) ≡ [] → IsAnswer (fault_of l h b) b answer → ((c.pages ≤ position) × (answer ≡ Err fault.Zero)) ⊎ ((position < c.pages) × ((page : List ℕ) × (answer ≡ Ok page)))
entry_clean format l h c position place b previous answer more clean is = go (leb c.pages position) refl clean where
  go : (t : Bool) → t ≡ leb c.pages position → list_of (cond t (cond (eqb b 0) None (Some (finding.AfterPages place b))) (wanted_fault place answer)) ++ (read_findings format (Some c) position b previous answer ++ more) ≡ []
      → ((c.pages ≤ position) × (answer ≡ Err fault.Zero)) ⊎ ((position < c.pages) × ((page : List ℕ) × (answer ≡ Ok page)))
  go true t none = inl (leb-true c.pages position (sym t), unused_answer (eqb b 0) (finding.AfterPages place b) (other_fault l h b) b (read_findings format (Some c) position b previous answer ++ more) answer none is)
  go false t none = inr (leb-false c.pages position (sym t), wanted_page place answer (read_findings format (Some c) position b previous answer ++ more) none)

-- there is a page
pub counts_some : (format : Format) (c : Counts) → counts_fault format c ≡ None → 0 < c.pages
counts_some Plain c e = go (eqb c.image_pages 0) (eqb c.pages (c.image_pages + (meta_of c.image_pages + 1))) refl e where
  go : (z t : Bool) → t ≡ eqb c.pages (c.image_pages + (meta_of c.image_pages + 1)) → cond (z || not t) (Some (finding.Counts c.image_pages c.pages)) None ≡ None → 0 < c.pages
  go true t is e = cc
  go false false is e = cc
  go false true is e = let k = eqb-true c.pages (c.image_pages + (meta_of c.image_pages + 1)) (sym is) in omega arith
counts_some SkipZeros c e = go (eqb c.image_pages 0) (leb (meta_of c.image_pages + 1) c.pages) (leb c.pages (c.image_pages + (meta_of c.image_pages + 1))) refl e where
  go : (z s t : Bool) → s ≡ leb (meta_of c.image_pages + 1) c.pages → cond (z || not (s && t)) (Some (finding.Counts c.image_pages c.pages)) None ≡ None → 0 < c.pages
  go true s t is e = cc
  go false false t is e = cc
  go false true false is e = cc
  go false true true is e = let k = leb-true (meta_of c.image_pages + 1) c.pages (sym is) in omega arith

-- in an info page in which nothing is wrong the numbers of pages follow from one another
pub info_counts : (format : Format) (page : List ℕ) → info_findings format page ≡ [] → counts_fault format (counts_in page) ≡ None
info_counts format page clean =
    let both = left_none (identity_findings page ++ list_of (counts_fault format (counts_in page))) (list_of (size_fault (number_at 8 page 432) (number_at 8 page 424))) clean in
    no_finding (counts_fault format (counts_in page)) (right_none (identity_findings page) (list_of (counts_fault format (counts_in page))) both)

-- a plain image has a page for each number, the number pages and the info page
pub plain_counts : (c : Counts) → counts_fault Plain c ≡ None → c.pages ≡ c.image_pages + (meta_of c.image_pages + 1)
plain_counts c e = go (eqb c.image_pages 0) (eqb c.pages (c.image_pages + (meta_of c.image_pages + 1))) refl e where
  go : (z t : Bool) → t ≡ eqb c.pages (c.image_pages + (meta_of c.image_pages + 1)) → cond (z || not t) (Some (finding.Counts c.image_pages c.pages)) None ≡ None → c.pages ≡ c.image_pages + (meta_of c.image_pages + 1)
  go true t is e = cc
  go false false is e = cc
  go false true is e = eqb-true c.pages (c.image_pages + (meta_of c.image_pages + 1)) (sym is)
