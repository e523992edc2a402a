-- What is told of an entry.
use Rattle.std.proofs.Common.{◌≡◌, ℕ, ◌++◌, List, Option, Result, Ok, Err, subst, sym, ap, ◌∙◌, refl}
use Rattle.page_core.specs.declared.format.Format.{Format}
use Rattle.image_walk.specs.Names.{Name, page_at, seen}
use Rattle.image_walk.specs.declared.visit.BlockFault.{BlockFault}
use Rattle.image_check.specs.declared.finding.Counts.{Counts}
use Rattle.image_check.specs.declared.finding.Finding.{Finding}
use Rattle.image_check.specs.declared.finding.Place.{Place}
use Rattle.image_check.specs.Told.{Told, Tells, list_of}
use Rattle.image_check.specs.Entries.{position_of, place_of, counts_of, previous_of, data_of, data_after, entry_fault, read_findings, data_findings}
use Rattle.image_check.specs.Image.{name_findings}
use Rattle.image_check.proofs.Telling.{tells_then, tells_only}

-- the findings of an entry, by what is kept of the history
abbrev pub page_by : Format → Option Counts → (previous counted : Option ℕ) → (position b : ℕ) → Result (List ℕ) BlockFault → List Finding
page_by format counts previous counted position b answer =
    read_findings format counts position b previous answer
    ++ data_findings format counts position (data_after counts position counted answer) answer

abbrev pub findings_by : Format → Option Counts → (previous counted : Option ℕ) → (position b : ℕ) → Place → Result (List ℕ) BlockFault → List Finding
findings_by format counts previous counted position b place answer =
    list_of (entry_fault counts position place b answer) ++ page_by format counts previous counted position b answer

-- the block's fault, and then what was told of the page, or nothing where it wasn't read
pub entry_told : (format : Format) (counts : Option Counts) (previous counted : Option ℕ) (position b : ℕ) (place : Place) (answer : Result (Unit {0}) BlockFault) (page : List ℕ) (first then last : Told) → Tells (list_of (entry_fault counts position place b answer)) first then → (answer ≡ Ok tt → Tells (page_by format counts previous counted position b (Ok page)) then last) → ((why : BlockFault) → answer ≡ Err why → last ≡ then) → Tells (findings_by format counts previous counted position b place (seen answer page)) first last
entry_told format counts previous counted position b place (Ok done) page first then last fault read none =
    tells_then (list_of (entry_fault counts position place b (Ok page))) (page_by format counts previous counted position b (Ok page)) first then last fault (read refl)
entry_told format counts previous counted position b place (Err why) page first then last fault read none =
    let found : Result (List ℕ) BlockFault = Err why in
    tells_only (list_of (entry_fault counts position place b found)) first last
    (subst (λ (t : Told). Tells (list_of (entry_fault counts position place b found)) first t) (sym (none why refl)) fault)

pub name_told : (format : Format) (h : List Name) (counts : Option Counts) (previous counted : Option ℕ) (position b : ℕ) (place : Place) (answer : Result (List ℕ) BlockFault) (first last : Told) → counts ≡ counts_of h → previous ≡ previous_of h → counted ≡ data_of h → position ≡ position_of h → place ≡ place_of h → Tells (findings_by format counts previous counted position b place answer) first last → Tells (name_findings format h (page_at b answer)) first last
name_told format h counts previous counted position b place answer first last cs pr co po pl told =
    let same : findings_by format counts previous counted position b place answer ≡ findings_by format (counts_of h) (previous_of h) (data_of h) (position_of h) b (place_of h) answer =
    ap (λ (x : Option Counts). findings_by format x previous counted position b place answer) cs
    ∙ ap (λ (x : Option ℕ). findings_by format (counts_of h) x counted position b place answer) pr
    ∙ ap (λ (x : Option ℕ). findings_by format (counts_of h) (previous_of h) x position b place answer) co
    ∙ ap (λ (x : ℕ). findings_by format (counts_of h) (previous_of h) (data_of h) x b place answer) po
    ∙ ap (λ (x : Place). findings_by format (counts_of h) (previous_of h) (data_of h) (position_of h) b x answer) pl in
    subst (λ (x : List Finding). Tells x first last) same told

-- a place by its parts
abbrev pub place_at : ℕ → ℕ → ℕ → Place
place_at m a e = record { map = m; at = a; entry = e }

pub same_place : (m n a b e f : ℕ) → m ≡ n → a ≡ b → e ≡ f → place_at m a e ≡ place_at n b f
same_place m n a b e f p q r = ap (λ x. place_at x a e) p ∙ ap (λ x. place_at n x e) q ∙ ap (place_at n b) r
