-- How many pages a reading without a finding has read.
use Rattle.std.proofs.Common.{◌≡◌, ℕ, ◌+◌, ◌-◌, ◌*◌, ◌<◌, ◌≤◌, List, [], ◌∷◌, ◌++◌, length, Option, Some, None, Result, Ok, Err, cond, eqb, ltb, ◌&&◌, refl, arith, append-nil, length-append, sym, ap, subst, ◌∙◌, inl, inr}
use Rattle.std.proofs.lemmas.Bool.{cases_lt, eq-eqb, ne_eqb}
use Rattle.page_core.specs.declared.format.Format.{Format}
use Rattle.image_walk.specs.declared.limits.Limits.{Limits}
use Rattle.image_walk.specs.declared.visit.BlockFault.{BlockFault}
use Rattle.image_walk.specs.Names.{Name, map_at, page_at, maps_in, left_in, IsNext, IsReading}
use Rattle.image_check.specs.Entries.{position_of, place_of, counts_of, counts_seen, previous_of, data_of, entry_fault, read_findings, data_findings, ends_fault}
use Rattle.image_check.specs.Image.{history_findings, name_findings}
use Rattle.image_check.specs.Info.{counts_in, counts_fault}
use Rattle.image_check.specs.Told.{list_of}
use Rattle.image_check.specs.declared.finding.Counts.{Counts}
use Rattle.image_check.specs.declared.finding.Finding.{Finding}
use Rattle.image_check.specs.declared.finding.Finding.TheVariants as finding
use Rattle.image_pages.specs.Clean.{counts_by, page_in, pages_in}
use Rattle.image_pages.proofs.Findings.{left_none, right_none, end_wanted, end_mapped, info_clean, entry_clean, info_counts, counts_some}

-- of the first `position` entries, the first ones have a page, as many as the info page says
pub record IsCounted (format : Format) (position : ℕ) (known : Option Counts) (pages : List (List ℕ)) : Type 0 where
  pub counts : Counts
  pub is_known : known ≡ Some counts
  pub said : counts_by pages ≡ Some counts
  pub fine : counts_fault format counts ≡ None
  pub before : position ≤ counts.pages → length pages ≡ position
  pub after : counts.pages ≤ position → length pages ≡ counts.pages

pub record Counted (format : Format) (h : List Name) : Type 0 where
  pub few : left_in h ≤ 511
  pub unmapped : maps_in h ≡ 0 → (left_in h ≡ 0) × (pages_in h ≡ []) × (counts_of h ≡ None)
  pub begun : 0 < maps_in h → position_of h ≡ 0 → (pages_in h ≡ []) × (counts_of h ≡ None)
  pub counted : 0 < maps_in h → 0 < position_of h → IsCounted format (position_of h) (counts_of h) (pages_in h)

none_more : (format : Format) (position : ℕ) (known : Option Counts) (pages : List (List ℕ)) → IsCounted format position known pages → IsCounted format position known (pages ++ [])
none_more format position known pages c = subst (λ (x : List (List ℕ)). IsCounted format position known x) (sym (append-nil pages)) c

at_same : (format : Format) (p q : ℕ) (known : Option Counts) (pages : List (List ℕ)) → p ≡ q → IsCounted format p known pages → IsCounted format q known pages
at_same format p q known pages e c = subst (λ (x : ℕ). IsCounted format x known pages) e c

map_read : (format : Format) (h : List Name) (b : ℕ) (page : List ℕ) → Counted format h → left_in h ≡ 0 → Counted format (map_at b (Ok page) ∷ h)
map_read format h b page c left = record {
  few = omega arith;
  unmapped = λ e. absurd (omega arith);
  begun = λ lt at. let first = c.unmapped (omega arith) in (append-nil (pages_in h) ∙ first.1, first.2);
  counted = λ lt at.
      let some : 0 < maps_in h = omega arith in
      let same : position_of h ≡ position_of (map_at b (Ok page) ∷ h) = omega arith in
      none_more format (position_of (map_at b (Ok page) ∷ h)) (counts_of h) (pages_in h) (at_same format (position_of h) (position_of (map_at b (Ok page) ∷ h)) (counts_of h) (pages_in h) same (c.counted some (omega arith)));
}

ended : (format : Format) (position last : ℕ) (known : Option Counts) (pages : List (List ℕ)) → position ≤ last → (c : IsCounted format position known pages) → c.counts.pages ≤ position → IsCounted format last known pages
ended format position last known pages le c all = record {
  counts = c.counts;
  is_known = c.is_known;
  said = c.said;
  fine = c.fine;
  before = λ less. omega (arith, c.after all);
  after = λ more. c.after all;
}

map_missed : (format : Format) (h : List Name) (b : ℕ) (why : BlockFault) → Counted format h → left_in h ≡ 0 → name_findings format h (map_at b (Err why)) ≡ [] → Counted format (map_at b (Err why) ∷ h)
map_missed format h b why c left clean =
    let some : 0 < maps_in h = end_mapped (eqb b 0) (maps_in h) (ends_fault (counts_of h) (maps_in h + 1 - 1)) (finding.Map (maps_in h + 1) why) clean in
    let all : position_of h ≡ 511 * maps_in h = omega arith in
    let was = c.counted some (omega arith) in
    let wanted : was.counts.pages ≤ 511 * (maps_in h + 1 - 1) =
    end_wanted (eqb b 0) (ltb 1 (maps_in h + 1)) (maps_in h + 1 - 1) was.counts (finding.Map (maps_in h + 1) why)
    (subst (λ (x : Option Counts). list_of (cond (eqb b 0 && ltb 1 (maps_in h + 1)) (ends_fault x (maps_in h + 1 - 1)) (Some (finding.Map (maps_in h + 1) why))) ≡ []) was.is_known clean) in
    record {
      few = omega arith;
      unmapped = λ e. absurd (omega arith);
      begun = λ lt at. absurd (omega arith);
      counted = λ lt at. none_more format (position_of (map_at b (Err why) ∷ h)) (counts_of h) (pages_in h) (ended format (position_of h) (position_of (map_at b (Err why) ∷ h)) (counts_of h) (pages_in h) (omega arith) was (omega arith));
    }

still_said : (pages : List (List ℕ)) (page : List ℕ) (c : Counts) → counts_by pages ≡ Some c → counts_by (pages ++ page ∷ []) ≡ Some c
still_said [] page c e = cc
still_said (info ∷ pages) page c e = e

one_read : (format : Format) (position : ℕ) (known : Option Counts) (pages : List (List ℕ)) (page : List ℕ) → (c : IsCounted format position known pages) → position < c.counts.pages → IsCounted format (position + 1) known (pages ++ page ∷ [])
one_read format position known pages page c lt = record {
  counts = c.counts;
  is_known = c.is_known;
  said = still_said pages page c.counts c.said;
  fine = c.fine;
  before = λ less. omega (arith, length-append pages (page ∷ []), c.before (omega arith));
  after = λ more. omega (arith, length-append pages (page ∷ []), c.before (omega arith));
}

first_read : (format : Format) (page : List ℕ) (pages : List (List ℕ)) → pages ≡ [] → counts_fault format (counts_in page) ≡ None → IsCounted format 1 (Some (counts_in page)) (pages ++ page ∷ [])
first_read format page pages none fine = subst (λ (x : List (List ℕ)). IsCounted format 1 (Some (counts_in page)) (x ++ page ∷ [])) (sym none) (record {
  counts = counts_in page;
  is_known = refl;
  said = refl;
  fine = fine;
  before = λ less. refl;
  after = λ more. let some = counts_some format (counts_in page) fine in omega arith;
})

-- the counts that are known after an entry
known_first : (position : ℕ) (answer : Result (List ℕ) BlockFault) (known : Option Counts) → position ≡ 0 → cond (eqb position 0) (counts_seen answer) known ≡ counts_seen answer
known_first position answer known e = ap (λ t. cond t (counts_seen answer) known) (eq-eqb position 0 e)

known_later : (position : ℕ) (answer : Result (List ℕ) BlockFault) (known : Option Counts) → 0 < position → cond (eqb position 0) (counts_seen answer) known ≡ known
known_later position answer known lt = ap (λ t. cond t (counts_seen answer) known) (ne_eqb position 0 (λ e. omega arith))

-- what is wrong with the number of data pages after an entry
abbrev data_in : Format → List Name → ℕ → Result (List ℕ) BlockFault → List Finding
data_in format h b answer = data_findings format (counts_of h) (position_of h) (data_of (page_at b answer ∷ h)) answer

info_read : (format : Format) (h : List Name) (b : ℕ) (answer : Result (List ℕ) BlockFault) → pages_in h ≡ [] → counts_of h ≡ None → position_of h ≡ 0 → name_findings format h (page_at b answer) ≡ [] → IsCounted format 1 (counts_seen answer) (pages_in h ++ page_in answer)
info_read format h b answer none unknown at clean =
    let more = data_in format h b answer in
    let (page, is, fine) = info_clean format (place_of h) b (previous_of h) answer more
    (subst (λ (k : ℕ). list_of (entry_fault None k (place_of h) b answer) ++ (read_findings format None k b (previous_of h) answer ++ more) ≡ []) at
    (subst (λ (x : Option Counts). list_of (entry_fault x (position_of h) (place_of h) b answer) ++ (read_findings format x (position_of h) b (previous_of h) answer ++ more) ≡ []) unknown clean)) in
    subst (λ (a : Result (List ℕ) BlockFault). IsCounted format 1 (counts_seen a) (pages_in h ++ page_in a)) (sym is)
    (first_read format page (pages_in h) none (info_counts format page fine))

later_read : (format : Format) (l : Limits) (first : ℕ) (h : List Name) (b : ℕ) (answer : Result (List ℕ) BlockFault) → IsNext l first h (page_at b answer) → name_findings format h (page_at b answer) ≡ [] → IsCounted format (position_of h) (counts_of h) (pages_in h) → IsCounted format (position_of h + 1) (counts_of h) (pages_in h ++ page_in answer)
later_read format l first h b answer next clean c =
    elim (entry_clean format l h c.counts (position_of h) (place_of h) b (previous_of h) answer (data_in format h b answer)
    (subst (λ (x : Option Counts). list_of (entry_fault x (position_of h) (place_of h) b answer) ++ (read_findings format x (position_of h) b (previous_of h) answer ++ data_in format h b answer) ≡ []) c.is_known clean) next.2) [
      | inl (all, is) ↦ subst (λ (a : Result (List ℕ) BlockFault). IsCounted format (position_of h + 1) (counts_of h) (pages_in h ++ page_in a)) (sym is)
          (none_more format (position_of h + 1) (counts_of h) (pages_in h) (ended format (position_of h) (position_of h + 1) (counts_of h) (pages_in h) (omega arith) c all))
      | inr (more, (page, is)) ↦ subst (λ (a : Result (List ℕ) BlockFault). IsCounted format (position_of h + 1) (counts_of h) (pages_in h ++ page_in a)) (sym is)
          (one_read format (position_of h) (counts_of h) (pages_in h) page c more)
    ]

entry_read : (format : Format) (l : Limits) (first : ℕ) (h : List Name) (b : ℕ) (answer : Result (List ℕ) BlockFault) → Counted format h → IsNext l first h (page_at b answer) → name_findings format h (page_at b answer) ≡ [] → Counted format (page_at b answer ∷ h)
entry_read format l first h b answer c next clean =
    let few = c.few in
    let some : 0 < maps_in h = elim (cases_lt 0 (maps_in h)) [ inl lt ↦ lt | inr none ↦ let z = (c.unmapped (omega arith)).0 in absurd (omega (arith, next.0)) ] in
    let more : position_of h + 1 ≡ position_of (page_at b answer ∷ h) = omega (arith, next.0) in
    record {
      few = omega arith;
      unmapped = λ e. absurd (omega arith);
      begun = λ lt at. absurd (omega arith);
      counted = λ lt at.
          at_same format (position_of h + 1) (position_of (page_at b answer ∷ h)) (counts_of (page_at b answer ∷ h)) (pages_in h ++ page_in answer) more
          (elim (cases_lt 0 (position_of h)) [
            | inl later ↦ subst (λ (x : Option Counts). IsCounted format (position_of h + 1) x (pages_in h ++ page_in answer)) (sym (known_later (position_of h) answer (counts_of h) later))
                (later_read format l first h b answer next clean (c.counted some later))
            | inr start ↦
                let zero : position_of h ≡ 0 = omega arith in
                let first = c.begun some zero in
                subst (λ (x : Option Counts). IsCounted format (position_of h + 1) x (pages_in h ++ page_in answer)) (sym (known_first (position_of h) answer (counts_of h) zero))
                (at_same format 1 (position_of h + 1) (counts_seen answer) (pages_in h ++ page_in answer) (omega arith) (info_read format h b answer first.0 first.1 zero clean))
          ]);
    }

pub counted_of : (format : Format) (l : Limits) (first : ℕ) (h : List Name) → IsReading l first h → history_findings format h ≡ [] → Counted format h
counted_of format l first [] reading clean = record {
  few = omega arith;
  unmapped = λ e. (refl, refl, refl);
  begun = λ lt at. absurd (omega arith);
  counted = λ lt at. absurd (omega arith);
}
counted_of format l first (map_at b (Ok page) ∷ h) reading clean =
    map_read format h b page (counted_of format l first h reading.0 (left_none (history_findings format h) (name_findings format h (map_at b (Ok page))) clean)) reading.1.0
counted_of format l first (map_at b (Err why) ∷ h) reading clean =
    map_missed format h b why (counted_of format l first h reading.0 (left_none (history_findings format h) (name_findings format h (map_at b (Err why))) clean)) reading.1.0
    (right_none (history_findings format h) (name_findings format h (map_at b (Err why))) clean)
counted_of format l first (page_at b answer ∷ h) reading clean =
    entry_read format l first h b answer (counted_of format l first h reading.0 (left_none (history_findings format h) (name_findings format h (page_at b answer)) clean)) reading.1
    (right_none (history_findings format h) (name_findings format h (page_at b answer)) clean)

pub the_same : (a b : Counts) → Some a ≡ Some b → a ≡ b
the_same a b e = cc

-- an entry with a page is the next one of the stream
pub next_page : (format : Format) (h : List Name) (b : ℕ) (page : List ℕ) → Counted format h → Counted format (page_at b (Ok page) ∷ h) → 0 < left_in h → length (pages_in h) ≡ position_of h
next_page format h b page c d left =
    let few = c.few in
    let some : 0 < maps_in h = elim (cases_lt 0 (maps_in h)) [ inl lt ↦ lt | inr none ↦ let z = (c.unmapped (omega arith)).0 in absurd (omega arith) ] in
    elim (cases_lt 0 (position_of h)) [
      | inl later ↦
          let was = c.counted some later in
          let now = d.counted some (omega arith) in
          let same : Some was.counts ≡ Some now.counts = sym was.is_known ∙ sym (known_later (position_of h) (Ok page) (counts_of h) later) ∙ now.is_known in
          let pages : was.counts.pages ≡ now.counts.pages = ap (λ (x : Counts). x.pages) (the_same was.counts now.counts same) in
          elim (cases_lt (position_of h) was.counts.pages) [
            | inl lt ↦ was.before (omega arith)
            | inr le ↦ absurd (let first = was.after le in let then = now.after (omega arith) in omega (arith, length-append (pages_in h) (page ∷ [])))
          ]
      | inr start ↦ let first = c.begun some (omega arith) in ap length first.0 ∙ omega arith
    ]

-- what the info page says is what the first page that was read says
pub counts_read : (format : Format) (h : List Name) → Counted format h → counts_of h ≡ counts_by (pages_in h)
counts_read format h c = elim (cases_lt 0 (maps_in h)) [
  | inr none ↦ let u = c.unmapped (omega arith) in u.2 ∙ ap counts_by (sym u.1)
  | inl some ↦ elim (cases_lt 0 (position_of h)) [
    | inl later ↦ let k = c.counted some later in k.is_known ∙ sym k.said
    | inr start ↦ let u = c.begun some (omega arith) in u.1 ∙ ap counts_by (sym u.0)
  ]
]
