-- The step at which the last number is read.
use Rattle.std.proofs.Common.{◌≡◌, ℕ, ◌+◌, ◌%◌, ◌<◌, ◌||◌, Bool, true, false, not, cond, eqb, ltb, List, Option, Some, None, refl, sym, ap, ◌∙◌, inl, inr, arith}
use Rattle.std.proofs.lemmas.Bool.{cases_eq, cases_lt, eq-eqb, false≢true}
use Rattle.std.proofs.lemmas.Option.{none-some}
use Rattle.page_core.specs.declared.format.Format.{Format}
use Rattle.page_core.specs.declared.format.Format.TheVariants.{Plain, SkipZeros}
use Rattle.definitions.specs.Disk as disk
use Rattle.definitions.specs.NumberPages.{meta_of}
use Rattle.plain_machine.specs.Machine.{Hardware, valid_count}
use Rattle.plain_machine.specs.Chain.{or_else}
use Rattle.plain_machine.specs.Trace.{Place, map_at, page_at, info_in, format_in, meta_in, place, are_bad_counts, identity_cause, memory_cause, counts_cause, info_cause, read_cause}
use Rattle.plain_machine.specs.declared.event.IdentCheck.{IdentCheck}
use Rattle.plain_machine.specs.declared.reply.Reply.{Reply}
use Rattle.plain_machine.specs.declared.reply.Reply.TheVariants as reply
use Rattle.image_read.specs.Reading.{Reading}
use Rattle.image_read.specs.Stream.{HasReadPlaces, pages_read, numbers_read, told}
use Rattle.image_read.proofs.Places.{at_map, at_page, read_at_map, read_at_page}
use Rattle.image_read.proofs.Read.{saved_is, told_all, told_more}
use Rattle.restore_laws.specs.Listing.{IsListedAt, ListsAt}
use Rattle.restore_laws.proofs.DataPlaces.{told_none, told_some}

-- Some numbers are listed.

no_left : (x y : Option Reply) → or_else x y ≡ None → (x ≡ None) × (y ≡ None)
no_left None y e = (refl, e)
no_left (Some r) y e = absurd (none-some r (sym e))

is_false : (b : Bool) (r : Reply) → cond b (Some r) None ≡ None → b ≡ false
is_false true r e = absurd (none-some r (sym e))
is_false false r e = refl

left_false : (a b : Bool) → (a || b) ≡ false → a ≡ false
left_false true b e = e
left_false false b e = refl

positive : (n : ℕ) → eqb n 0 ≡ false → 0 < n
positive n e = elim (cases_lt 0 n) [ inl lt ↦ lt | inr ge ↦ absurd (let is = eq-eqb n 0 (let zero_is : n ≡ 0 = omega arith in zero_is) in cc) ]

some_counted : (f : Format) (valid n pages : ℕ) → are_bad_counts f valid n pages ≡ false → 0 < n
some_counted Plain valid n pages e = positive n (left_false (eqb n 0) (ltb valid n) (left_false (eqb n 0 || ltb valid n) (not (eqb pages (n + meta_of n + 1))) e))
some_counted SkipZeros valid n pages e =
    positive n (left_false (eqb n 0) (ltb valid n) (left_false (eqb n 0 || ltb valid n) (ltb pages (meta_of n + 1))
    (left_false (eqb n 0 || ltb valid n || ltb pages (meta_of n + 1)) (ltb (n + meta_of n + 1) pages) e)))

some_by_info : (h : Hardware) (v : disk.DiskImage) (check : IdentCheck) → info_cause h v check ≡ None → 0 < (info_in h v).image_pages
some_by_info h v check none =
    let rest = no_left (identity_cause h v check) (or_else (memory_cause h v) (counts_cause h v)) none in
    let counts = no_left (memory_cause h v) (counts_cause h v) rest.1 in
    let n = (info_in h v).image_pages in
    let pages = (info_in h v).pages in
    some_counted (format_in h v) (valid_count h) n pages (is_false (are_bad_counts (format_in h v) (valid_count h) n pages) (reply.BadCounts n pages) counts.1)

-- at a page of the stream that has no cause
some_read : (h : Hardware) (v : disk.DiskImage) (check : IdentCheck) (r : Reading) (t : ℕ) (origs zeros : List ℕ) → HasReadPlaces h v check r t origs zeros → read_cause h v check (place t) ≡ None → (t % 512 ≡ 0 → ⊥) → 0 < (info_in h v).image_pages
some_read h v check r t origs zeros reading sound apart = elim (cases_lt (pages_read t) 1) [
  | inl few ↦
      let zero_is : pages_read t ≡ 0 = omega arith in
      some_by_info h v check (sym (ap (read_cause h v check) (at_page t apart ∙ ap page_at zero_is)) ∙ sound)
  | inr some ↦ (reading.counts some).some
]

page_of : Place → ℕ
page_of (map_at j) = 0
page_of (page_at k) = k

is_map : Place → Bool
is_map (map_at j) = true
is_map (page_at k) = false

page_place : (t k : ℕ) → place t ≡ page_at k → (t % 512 ≡ 0 → ⊥) × (pages_read t ≡ k)
unfolding page_of is_map
page_place t k is = elim (cases_eq (t % 512) 0) [
  | inl at ↦ absurd (false≢true (sym (ap is_map is) ∙ ap is_map (at_map t at)))
  | inr apart ↦ (apart, ap page_of (sym (at_page t apart) ∙ is))
]

-- the last number page
listed_there : (h : Hardware) (v : disk.DiskImage) (t : ℕ) → 0 < (info_in h v).image_pages → (t % 512 ≡ 0 → ⊥) → pages_read t ≡ meta_in h v → IsListedAt h v t
listed_there h v t some apart is =
    let k = pages_read t in
    let n = (info_in h v).image_pages in
    let next = read_at_page t apart in
    let saved = saved_is h v k (omega arith) in
    let saved_next = saved_is h v (k + 1) (omega arith) in
    let few : numbers_read h v k < n = omega arith in
    let all : numbers_read h v (k + 1) ≡ n = omega arith in
    (told_more h v k (omega arith) (λ e. omega arith), ap (told h v) next ∙ told_all h v (k + 1) (omega arith) all)

there_listed : (h : Hardware) (v : disk.DiskImage) (t : ℕ) → 0 < (info_in h v).image_pages → (t % 512 ≡ 0 → ⊥) → IsListedAt h v t → pages_read t ≡ meta_in h v
there_listed h v t some apart listed =
    let k = pages_read t in
    let next = read_at_page t apart in
    let after = told_some h v (pages_read (t + 1)) (info_in h v).image_pages listed.1 in
    let all = after.1 in
    elim (cases_lt k 1) [
      | inl few ↦ absurd (omega arith)
      | inr one ↦ let before = told_none h v k one listed.0 in omega arith
    ]

pub lists_at : ListsAt
lists_at h v check r t origs zeros reading sound = (
  λ is.
      let at = page_place t (meta_in h v) is in
      listed_there h v t (some_read h v check r t origs zeros reading sound at.0) at.0 at.1,
  λ listed. elim (cases_eq (t % 512) 0) [
    | inl at ↦ absurd (none-some (info_in h v).image_pages (sym listed.0 ∙ sym (ap (told h v) (read_at_map t at)) ∙ listed.1))
    | inr apart ↦ at_page t apart ∙ ap page_at (there_listed h v t (some_read h v check r t origs zeros reading sound apart) apart listed)
  ],
)
