-- How many data pages an image has.
use Rattle.std.proofs.Common.{◌≡◌, ℕ, ◌+◌, ◌-◌, ◌*◌, ◌&&◌, inl, inr, Bool, not, leb, ltb, List, [], ◌∷◌, length, filter, sym, ap, ◌∙◌, refl, arith}
use Rattle.std.proofs.lemmas.Bool.{cases_lt, cond-true, lt-ltb, lt-leb, le-leb, le-ltb}
use Rattle.std.proofs.lemmas.List.FromFn.{length-map-range_with_len}
use Rattle.page_core.specs.declared.format.Format.{Format}
use Rattle.page_core.specs.declared.format.Format.TheVariants.{Plain, SkipZeros}
use Rattle.definitions.specs.Disk.{DiskImage}
use Rattle.definitions.specs.NumberPages.{zero_bit}
use Rattle.plain_machine.specs.Machine.{Hardware}
use Rattle.plain_machine.specs.Trace.{d_in, first_map, format_in, info_in, is_marked_by, meta_in, number_word, words_in}
use Rattle.image_machine.proofs.Data.{has_page, beyond}
use Rattle.image_machine.proofs.Tallies.{kept_of_map, tally, tally_end, tally_same}

-- a plain image has a page for each number
unmarked : (f : Format) (ws : List ℕ) → f ≡ Plain → filter (λ w. not (is_marked_by f w)) ws ≡ ws
unmarked f [] plain = refl
unmarked f (w ∷ ws) plain =
    cond-true (not (is_marked_by f w)) (w ∷ filter (λ x. not (is_marked_by f x)) ws) (filter (λ x. not (is_marked_by f x)) ws) (ap (λ (g : Format). not (is_marked_by g w)) plain)
    ∙ ap (λ (xs : List ℕ). w ∷ xs) (unmarked f ws plain)

pub plain_data : (h : Hardware) (v : DiskImage) → format_in h v ≡ Plain → d_in h v ≡ (info_in h v).image_pages
plain_data h v plain = ap length (unmarked (format_in h v) (words_in h v) plain) ∙ length-map-range_with_len (number_word h v) 0 (info_in h v).image_pages

-- where pages of zeros have none, each number that isn't marked has one
below_mark : (w : ℕ) → not (leb zero_bit w) ≡ ltb w zero_bit
below_mark w = elim (cases_lt w zero_bit) [
  | inl lt ↦ ap not (lt-leb zero_bit w lt) ∙ sym (lt-ltb w zero_bit lt)
  | inr le ↦ ap not (le-leb zero_bit w le) ∙ sym (le-ltb w zero_bit le)
]

unmarked_word : (f : Format) (w : ℕ) → f ≡ SkipZeros → not (is_marked_by f w) ≡ ltb w zero_bit
unmarked_word f w skips = ap (λ (g : Format). not (is_marked_by g w)) skips ∙ below_mark w

pub data_same : (h : Hardware) (v : DiskImage) → format_in h v ≡ SkipZeros → tally (has_page v (first_map h v) (info_in h v).image_pages) 0 (512 * meta_in h v) ≡ d_in h v
data_same h v skips =
    let n = (info_in h v).image_pages in
    let f = format_in h v in
    let has = has_page v (first_map h v) n in
    let apart : 512 * meta_in h v ≡ n + (512 * meta_in h v - n) = omega arith in
    ap (tally has 0) apart
    ∙ tally_end has n (512 * meta_in h v - n) (beyond v (first_map h v) n)
    ∙ tally_same has (λ j. not (is_marked_by f (number_word h v j))) 0 n (λ j le lt.
    ap (λ (b : Bool). b && ltb (number_word h v j) zero_bit) (lt-ltb j n (omega arith)) ∙ sym (unmarked_word f (number_word h v j) skips))
    ∙ sym (kept_of_map (λ w. not (is_marked_by f w)) (number_word h v) 0 n)
