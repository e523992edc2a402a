-- How many numbers have a data page, as they are counted while the number pages are read.
use Rattle.std.proofs.Common.{◌≡◌, ℕ, ◌+◌, ◌-◌, ◌*◌, ◌/◌, ◌%◌, ◌<◌, ◌≤◌, ◌&&◌, inl, inr, zero, suc, Bool, true, false, cond, not, eqb, leb, ltb, min, List, [], ◌∷◌, length, get_or, Option, Some, None, Ok, Err, append-nil, sym, ap, ap₂, ◌∙◌, refl, arith}
use Rattle.std.proofs.lemmas.Bool.{cases_lt, cond-true, le-leb, le-ltb, and_left, eq-eqb, eqb-true}
use Rattle.std.proofs.lemmas.List.{length-append}
use Rattle.page_core.specs.declared.format.Format.{Format}
use Rattle.page_core.specs.declared.format.Format.TheVariants.{SkipZeros}
use Rattle.definitions.specs.Bytes.{word}
use Rattle.definitions.specs.Disk.{Content, DiskImage, as_it_reads, block, last_count}
use Rattle.definitions.specs.NumberPages.{meta_of, zero_bit}
use Rattle.plain_machine.specs.Chain.{entry_block}
use Rattle.image_walk.specs.declared.limits.Limits.{Limits}
use Rattle.image_walk.specs.Names.{Name, map_at, page_at, maps_in, is_over, AreReadFrom, IsReading}
use Rattle.image_check.specs.Entries.{counts_of, counted_with, data_after, data_fault, data_of, position_of}
use Rattle.image_check.specs.Image.{history_findings, name_findings}
use Rattle.image_check.specs.Info.{counts_in}
use Rattle.image_check.specs.Numbers.{data_words}
use Rattle.image_check.specs.declared.finding.Counts.{Counts}
use Rattle.image_check.specs.declared.finding.Finding.{Finding}
use Rattle.image_check.specs.declared.finding.Finding.TheVariants as finding
use Rattle.image_pages.specs.Clean.{pages_in}
use Rattle.image_pages.proofs.Blocks.{each_in_chain, entry_named}
use Rattle.image_pages.proofs.Counting.{counted_of, counts_read}
use Rattle.image_pages.proofs.Findings.{left_none}
use Rattle.image_machine.proofs.Chains.{chain_at, few_pages, said_by}
use Rattle.image_machine.proofs.Tallies.{tally, tally_empty, tally_end, tally_few, tally_same, tally_shift, tally_split, kept_of_run}

-- whether number j, of n, has a data page
abbrev pub has_page : DiskImage → (first n j : ℕ) → Bool
has_page v first n j = ltb j n && ltb (word (chain_at v first (1 + j / 512)) (j % 512)) zero_bit

pub beyond : (v : DiskImage) (first n j : ℕ) → n ≤ j → has_page v first n j ≡ false
beyond v first n j le = and_left (ltb j n) (ltb (word (chain_at v first (1 + j / 512)) (j % 512)) zero_bit) (le-ltb j n le)

pub few_data : (v : DiskImage) (first n x : ℕ) → tally (has_page v first n) 0 x ≤ n
few_data v first n x = elim (cases_lt n x) [
  | inl more ↦
      let apart : x ≡ n + (x - n) = omega arith in
      let size = ap (tally (has_page v first n) 0) apart ∙ tally_end (has_page v first n) n (x - n) (beyond v first n) in
      let few = tally_few (has_page v first n) 0 n in
      omega arith
  | inr le ↦ let few = tally_few (has_page v first n) 0 x in omega arith
]

-- the numbers of one page
words_of_page : (v : DiskImage) (first n k : ℕ) (page : List ℕ) → page ≡ chain_at v first (suc k) → data_words n (suc k) page ≡ tally (has_page v first n) (512 * k) 512
words_of_page v first n k page is =
    let here : ℕ → Bool = λ i. ltb (512 * (suc k - 1) + i) n && ltb (word page i) zero_bit in
    kept_of_run here 0 512
    ∙ tally_same here (λ i. has_page v first n (512 * k + i)) 0 512 (λ i le lt.
    let at : 512 * (suc k - 1) + i ≡ 512 * k + i = omega arith in
    let number : suc k ≡ 1 + (512 * k + i) / 512 = omega arith in
    let index : i ≡ (512 * k + i) % 512 = omega arith in
    ap₂ (λ (x y : Bool). x && y) (ap (λ (j : ℕ). ltb j n) at)
    (ap (λ (p : List ℕ). ltb (word p i) zero_bit) is ∙ ap₂ (λ (p q : ℕ). ltb (word (chain_at v first p) q) zero_bit) number index))
    ∙ sym (tally_shift (has_page v first n) (512 * k) 0 512)
    ∙ ap (λ (a : ℕ). tally (has_page v first n) a 512) (let e : 512 * k + 0 ≡ 512 * k = omega arith in e)

summed : (a b c d n last : ℕ) → d ≡ b → a + b ≡ c → c ≤ n → n ≤ last → min (a + d) last ≡ c
summed a b c d n last same sum few fits = omega arith

more_words : (v : DiskImage) (first n k : ℕ) (page : List ℕ) → page ≡ chain_at v first (suc k) → n ≤ last_count →
    min (tally (has_page v first n) 0 (512 * k) + data_words n (suc k) page) last_count ≡ tally (has_page v first n) 0 (512 * suc k)
more_words v first n k page is few =
    let from : 0 + 512 * k ≡ 512 * k = omega arith in
    let to : 512 * k + 512 ≡ 512 * suc k = omega arith in
    summed (tally (has_page v first n) 0 (512 * k)) (tally (has_page v first n) (512 * k) 512) (tally (has_page v first n) 0 (512 * suc k)) (data_words n (suc k) page) n last_count
    (words_of_page v first n k page is)
    (ap (λ (a : ℕ). tally (has_page v first n) 0 (512 * k) + tally (has_page v first n) a 512) (sym from)
    ∙ sym (tally_split (has_page v first n) 0 (512 * k) 512) ∙ ap (tally (has_page v first n) 0) to)
    (few_data v first n (512 * suc k)) few

-- nothing is counted before the first page
none_counted : (format : Format) (l : Limits) (first : ℕ) (h : List Name) → IsReading l first h → history_findings format h ≡ [] → maps_in h ≡ 0 → data_of h ≡ Some 0
none_counted format l first [] reading clean none = refl
none_counted format l first (map_at b answer ∷ h) reading clean none = absurd (omega arith)
none_counted format l first (page_at b answer ∷ h) reading clean none =
    let c = counted_of format l first h reading.0 (left_none (history_findings format h) (name_findings format h (page_at b answer)) clean) in
    let left = (c.unmapped none).0 in
    absurd (omega (arith, reading.1.0))

start_counted : (format : Format) (l : Limits) (first : ℕ) (h : List Name) → IsReading l first h → history_findings format h ≡ [] → is_over h ≡ false → 0 < maps_in h → position_of h ≡ 0 → data_of h ≡ Some 0
start_counted format l first [] reading clean on some start = absurd (omega arith)
start_counted format l first (map_at b (Ok page) ∷ h) reading clean on some start =
    none_counted format l first h reading.0 (left_none (history_findings format h) (name_findings format h (map_at b (Ok page))) clean) (omega arith)
start_counted format l first (map_at b (Err why) ∷ h) reading clean on some start = cc
start_counted format l first (page_at b answer ∷ h) reading clean on some start =
    let c = counted_of format l first h reading.0 (left_none (history_findings format h) (name_findings format h (page_at b answer)) clean) in
    let few = c.few in
    absurd (omega (arith, reading.1.0))

-- what is counted up to a number page
pub data_is : (format : Format) (l : Limits) (held : Content) (first : ℕ) (h : List Name) → IsReading l first h → AreReadFrom (Some held) h → history_findings format h ≡ [] → is_over h ≡ false → 0 < maps_in h → length (pages_in h) ≡ position_of h →
    (counts_in (chain_at (as_it_reads held) first 0)).image_pages ≤ last_count → (k : ℕ) → position_of h ≡ suc k → k ≤ meta_of (counts_in (chain_at (as_it_reads held) first 0)).image_pages →
    data_of h ≡ Some (tally (has_page (as_it_reads held) first (counts_in (chain_at (as_it_reads held) first 0)).image_pages) 0 (512 * k))
data_is format l held first [] reading read clean on some all fits k at le = absurd (omega arith)
data_is format l held first (map_at b (Ok page) ∷ h) reading read clean on some all fits k at le =
    let left = reading.1.0 in
    let size = ap length (append-nil (pages_in h)) in
    data_is format l held first h reading.0 read.0 (left_none (history_findings format h) (name_findings format h (map_at b (Ok page))) clean) reading.1.1 (omega arith) (omega arith) fits k (omega arith) le
data_is format l held first (map_at b (Err why) ∷ h) reading read clean on some all fits k at le = cc
data_is format l held first (page_at b (Err why) ∷ h) reading read clean on some all fits k at le =
    let c = counted_of format l first h reading.0 (left_none (history_findings format h) (name_findings format h (page_at b (Err why))) clean) in
    let few = c.few in
    let size = ap length (append-nil (pages_in h)) in
    let less = few_pages format h c some in
    absurd (omega (arith, reading.1.0))
data_is format l held first (page_at b (Ok page) ∷ h) reading read clean on some all fits zero at le =
    let before = left_none (history_findings format h) (name_findings format h (page_at b (Ok page))) clean in
    let c = counted_of format l first h reading.0 before in
    let few = c.few in
    let left = reading.1.0 in
    let start : position_of h ≡ 0 = omega arith in
    ap (λ (x : Option Counts). data_after x (position_of h) (data_of h) (Ok page)) (c.begun some start).1
    ∙ start_counted format l first h reading.0 before on some start
    ∙ ap (λ (d : ℕ). Some d) (sym (tally_empty (has_page (as_it_reads held) first (counts_in (chain_at (as_it_reads held) first 0)).image_pages) 0))
data_is format l held first (page_at b (Ok page) ∷ h) reading read clean on some all fits (suc k) at le =
    let v = as_it_reads held in
    let said = counts_in (chain_at v first 0) in
    let n = said.image_pages in
    let before = left_none (history_findings format h) (name_findings format h (page_at b (Ok page))) clean in
    let c = counted_of format l first h reading.0 before in
    let few = c.few in
    let left = reading.1.0 in
    let size = length-append (pages_in h) (page ∷ []) in
    let here : position_of h ≡ suc k = omega arith in
    let read_all : length (pages_in h) ≡ position_of h = omega arith in
    let info : get_or (pages_in h) 0 [] ≡ chain_at v first 0 = each_in_chain format l held first h reading.0 read.0 before 0 (omega arith) in
    let known : counts_of h ≡ Some said = counts_read format h c ∙ said_by (pages_in h) (omega arith) ∙ ap (λ (p : List ℕ). Some (counts_in p)) info in
    let counted = data_is format l held first h reading.0 read.0 before on some read_all fits k here (omega arith) in
    let is : page ≡ chain_at v first (suc k) =
    read.1 ∙ ap (block v) (reading.1.1 ∙ entry_named l held first h reading.0 read.0 reading.1.0 ∙ ap (entry_block v first) here) in
    ap (λ (x : Option Counts). data_after x (position_of h) (data_of h) (Ok page)) known
    ∙ ap₂ (λ (p : ℕ) (d : Option ℕ). data_after (Some said) p d (Ok page)) here counted
    ∙ cond-true (leb (suc k) (meta_of n)) (counted_with (Some (tally (has_page v first n) 0 (512 * k))) (Some (data_words n (suc k) page))) (Some (tally (has_page v first n) 0 (512 * k))) (le-leb (suc k) (meta_of n) le)
    ∙ ap (λ (d : ℕ). Some d) (more_words v first n k page is fits)

-- nothing is found where the pages are as many as the numbers that have one
test_none : (a b : Bool) (x : Finding) → a ≡ true → cond (a && not b) (Some x) None ≡ None → b ≡ true
test_none true true x is e = refl
test_none true false x is e = cc
test_none false b x is e = cc

pub data_found : (c : Counts) (position d : ℕ) (counted : Option ℕ) → position ≡ meta_of c.image_pages → counted ≡ Some d → data_fault SkipZeros (Some c) position counted ≡ None → c.pages ≡ d + (meta_of c.image_pages + 1)
data_found c position d counted at is clean =
    eqb-true c.pages (d + (meta_of c.image_pages + 1))
    (test_none (eqb position (meta_of c.image_pages)) (eqb c.pages (d + (meta_of c.image_pages + 1))) (finding.DataPages d c.pages) (eq-eqb position (meta_of c.image_pages) at)
    (ap (λ (x : Option ℕ). data_fault SkipZeros (Some c) position x) (sym is) ∙ clean))
