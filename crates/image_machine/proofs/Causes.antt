-- Between such an image and such a loader a resume has no cause to stop.
use Rattle.std.proofs.Common.{◌≡◌, ℕ, ◌+◌, ◌-◌, ◌*◌, ◌%◌, ◌<◌, ◌≤◌, ◌&&◌, ◌||◌, inl, inr, zero, suc, Bool, true, false, cond, not, eqb, leb, ltb, nat_eq, min, List, [], ◌∷◌, length, get_or, map, Option, Some, None, sym, ap, subst, ◌∙◌, refl, arith}
use Rattle.std.specs.List.{range_with_len}
use Rattle.std.specs.Cmp.Lexicographic.{pointwise}
use Rattle.std.proofs.lemmas.Bool.{cases_eq, cond-true, cond-false, le-ltb, eq-eqb, ne_eqb, leb-false, ltb-true, or_from, or_left, or_right, not_from_true, false≢true}
use Rattle.std.proofs.Math.Seq.{take-length}
use Rattle.std.proofs.lemmas.List.FromFn.{length-map-range_with_len, get_or-map-range_with_len}
use Rattle.page_core.specs.declared.format.Format.{Format}
use Rattle.page_core.specs.declared.format.Format.TheVariants.{Plain, SkipZeros}
use Rattle.definitions.specs.Disk.{DiskImage}
use Rattle.definitions.specs.InfoPage.{info_of}
use Rattle.definitions.specs.NumberPages.{meta_of, end_value}
use Rattle.definitions.specs.SwapHeader.{flags_of, hw_sig_of, sig_of, image_signature}
use Rattle.definitions.specs.Zones.{numbers}
use Rattle.definitions.specs.ZoneFacts.{AreZones}
use Rattle.definitions.specs.declared.info.Field.{Field}
use Rattle.definitions.proofs.ZoneNumbers.{IsStrictlyIncreasing-numbers, length-numbers_front}
use Rattle.plain_machine.specs.Chain.{first_some, header_of, map_fault, or_else}
use Rattle.plain_machine.specs.Loader.{left_free, need}
use Rattle.plain_machine.specs.Machine.{Hardware, Memory, is_valid, valid_count}
use Rattle.plain_machine.specs.Trace.{Place, map_at, page_at, are_bad_counts, cause_at, counts_cause, d_in, end_cause, first_map, format_in, header_cause, identity_cause, info_cause, info_in, is_set, listed_cause, memory_cause, meta_in, next_cause, number_cause, number_in, number_word, numbers_cause, place, place_cause, place_count, read_cause, room_cause, stream_page, taken_back_cause, want_cause}
use Rattle.plain_machine.specs.declared.event.IdentCheck.{IdentCheck}
use Rattle.plain_machine.specs.declared.event.IdentCheck.TheVariants.{Compare, Skip}
use Rattle.plain_machine.specs.declared.event.Loader.TheVariants as loader
use Rattle.plain_machine.specs.declared.reply.Reply.{Reply}
use Rattle.plain_machine.specs.declared.reply.Reply.TheVariants as reply
use Rattle.image_walk.specs.declared.limits.Limits.{Limits}
use Rattle.image_check.specs.Info.{counts_in}
use Rattle.image_machine.specs.Resumable.{IsIdentified}
use Rattle.image_machine.proofs.FewNumbers.{any_member, few_numbers, rising}
use Rattle.image_machine.proofs.Data.{has_page}
use Rattle.image_machine.proofs.DataPages.{data_same, plain_data}
use Rattle.image_machine.proofs.Numbers.{AreFine, counts_fine, numbers_ascend, numbers_end}
use Rattle.image_machine.proofs.Tallies.{tally}
use Rattle.image_machine.proofs.Prepared.{IsPrepared, no_map_fault, no_place_cause}

pub both_none : (x y : Option Reply) → x ≡ None → y ≡ None → or_else x y ≡ None
both_none x y e f = ap (λ (o : Option Reply). or_else o y) e ∙ f

either_none : (b : Bool) (x y : Option Reply) → x ≡ None → y ≡ None → cond b x y ≡ None
either_none true x y e f = e
either_none false x y e f = f

none_of_all : (faults : List (Option Reply)) → ((k : ℕ) → k < length faults → get_or faults k None ≡ None) → first_some faults ≡ None
none_of_all [] none = refl
none_of_all (x ∷ faults) none = both_none x (first_some faults) (none 0 (omega arith)) (none_of_all faults (λ k lt. none (suc k) (omega arith)))

and_fails : (b c : Bool) → (b ≡ true → c ≡ false) → (b && c) ≡ false
and_fails true c e = e refl
and_fails false c e = refl

-- what an info page says, by either definition
pub saved_same : (page : List ℕ) → (counts_in page).image_pages ≡ (info_of page).image_pages
unfolding info_of
saved_same page = refl

pub pages_same : (page : List ℕ) → (counts_in page).pages ≡ (info_of page).pages
unfolding info_of
pages_same page = refl

good_counts : (f : Format) (valid n pages : ℕ) → 0 < n → n ≤ valid → meta_of n + 1 ≤ pages → pages ≤ n + meta_of n + 1 → (f ≡ Plain → pages ≡ n + meta_of n + 1) → are_bad_counts f valid n pages ≡ false
good_counts Plain valid n pages some few least most whole =
    or_from (eqb n 0 || ltb valid n) (not (eqb pages (n + meta_of n + 1)))
    (or_from (eqb n 0) (ltb valid n) (ne_eqb n 0 (λ e. omega arith)) (le-ltb valid n few))
    (not_from_true (eqb pages (n + meta_of n + 1)) (eq-eqb pages (n + meta_of n + 1) (whole refl)))
good_counts SkipZeros valid n pages some few least most whole =
    or_from (eqb n 0 || ltb valid n || ltb pages (meta_of n + 1)) (ltb (n + meta_of n + 1) pages)
    (or_from (eqb n 0 || ltb valid n) (ltb pages (meta_of n + 1))
    (or_from (eqb n 0) (ltb valid n) (ne_eqb n 0 (λ e. omega arith)) (le-ltb valid n few)) (le-ltb pages (meta_of n + 1) least))
    (le-ltb (n + meta_of n + 1) pages most)

-- the machine's signature is the image's, or the image has none
same_signature : (b c : Bool) (x y : Option Reply) → (b ≡ true → c ≡ true) → y ≡ None → cond (b && not c) x y ≡ None
same_signature true true x y e none = none
same_signature true false x y e none = absurd (false≢true (e refl))
same_signature false c x y e none = none

abbrev field_reply : Option Field → Option Reply
field_reply f = elim f as (λ x. Option Reply) [ None ↦ None | Some field ↦ Some (reply.Mismatch field) ]

no_identity_cause : (h : Hardware) (v : DiskImage) (check : IdentCheck) → IsIdentified h v check → identity_cause h v check ≡ None
no_identity_cause h v Compare is = ap field_reply is
no_identity_cause h v Skip is = refl

few_frames : (zones : List (ℕ × ℕ)) → AreZones zones → length (numbers zones) ≤ 65536
few_frames zones are = subst (λ (zs : List (ℕ × ℕ)). length (numbers zs) ≤ 65536) (take-length zones) (length-numbers_front zones (length zones) are)

module _ (h : Hardware) (m : Memory) (v : DiskImage) (l : Limits) (is : IsPrepared h m v l) where
  n_of : ℕ
  n_of = (info_in h v).image_pages

  fine : AreFine (format_in h v) (counts_in (stream_page h v 0))
  fine = counts_fine l (format_in h v) v (first_map h v) (info_in h v).pages is.read

  saved : (counts_in (stream_page h v 0)).image_pages ≡ (info_in h v).image_pages
  saved = saved_same (stream_page h v 0)

  above : (j : ℕ) → 0 < j → j < (info_in h v).image_pages → leb (number_in h v j) (number_in h v (j - 1)) ≡ false
  above j some lt =
      let same = saved in
      numbers_ascend l (format_in h v) v (first_map h v) (info_in h v).pages is.read j some (omega arith)

  few : (info_in h v).image_pages ≤ valid_count h
  few =
      few_numbers (numbers h.zones) (number_in h v) (info_in h v).image_pages (IsStrictlyIncreasing-numbers h.zones is.hardware.zones.apart)
      (λ j lt. any_member (numbers h.zones) (number_in h v j) (is.valid j lt))
      (rising (number_in h v) (info_in h v).image_pages (λ j lt.
      let e : j + 1 - 1 ≡ j = omega arith in
      subst (λ (k : ℕ). number_in h v k < number_in h v (j + 1)) e (leb-false (number_in h v (j + 1)) (number_in h v (j + 1 - 1)) (above (j + 1) (omega arith) lt))))

  -- The header.

  pub no_header_cause : header_cause h v ≡ None
  no_header_cause =
      let page = header_of h v in
      cond-false (not (pointwise nat_eq (sig_of page) image_signature)) (Some reply.NoImage) (cond (not (is_set (flags_of page) 2)) (Some (reply.Compressed (flags_of page))) None) (not_from_true (pointwise nat_eq (sig_of page) image_signature) is.signed)
      ∙ cond-false (not (is_set (flags_of page) 2)) (Some (reply.Compressed (flags_of page))) None (not_from_true (is_set (flags_of page) 2) is.uncompressed)

  pub no_taken_back_cause : taken_back_cause h v ≡ None
  no_taken_back_cause =
      let page = header_of h v in
      same_signature (is_set (flags_of page) 8) (eqb (hw_sig_of page) h.hw_sig) (Some (reply.HwMismatch (hw_sig_of page) h.hw_sig)) (map_fault h v (first_map h v) 0)
      (λ set. eq-eqb (hw_sig_of page) h.hw_sig (is.signature set)) (no_map_fault h m v l is 0 (let some = is.read.some in omega arith))

  -- The info page.

  no_memory_cause : memory_cause h v ≡ None
  no_memory_cause =
      cond-true (eqb (info_in h v).physpages (valid_count h)) None (Some (reply.MemorySize (info_in h v).physpages (valid_count h))) (eq-eqb (info_in h v).physpages (valid_count h) is.pages)

  no_counts_cause : counts_cause h v ≡ None
  no_counts_cause =
      let n = (info_in h v).image_pages in
      let pages = (info_in h v).pages in
      let same = saved in
      let size = pages_same (stream_page h v 0) in
      let meta = ap meta_of same in
      let f = fine in
      let some = f.some in
      let least = f.least in
      let most = f.most in
      cond-false (are_bad_counts (format_in h v) (valid_count h) n pages) (Some (reply.BadCounts n pages)) None
      (good_counts (format_in h v) (valid_count h) n pages (omega arith) few (omega arith) (omega arith) (λ plain. let all = f.plain plain in omega arith))

  no_info_cause : (check : IdentCheck) → IsIdentified h v check → info_cause h v check ≡ None
  no_info_cause check ident =
      both_none (identity_cause h v check) (or_else (memory_cause h v) (counts_cause h v)) (no_identity_cause h v check ident)
      (both_none (memory_cause h v) (counts_cause h v) no_memory_cause no_counts_cause)

  -- The number pages.

  no_number_cause : (j : ℕ) → j < (info_in h v).image_pages → number_cause h v j ≡ None
  no_number_cause j lt =
      let p = number_in h v j in
      let q = number_in h v (j - 1) in
      let rises : (ltb 0 j && leb p q) ≡ false = and_fails (ltb 0 j) (leb p q) (λ some. above j (ltb-true 0 j some) lt) in
      cond-false (not (is_valid h p)) (Some (reply.BadPfn p)) (cond (ltb 0 j && leb p q) (Some (reply.PfnOrder q p)) None) (not_from_true (is_valid h p) (is.valid j lt))
      ∙ cond-false (ltb 0 j && leb p q) (Some (reply.PfnOrder q p)) None rises

  no_end_cause : end_cause h v (info_in h v).image_pages ≡ None
  no_end_cause =
      let n = (info_in h v).image_pages in
      let same = saved in
      let ends : (eqb (n % 512) 0 || eqb (number_word h v n) end_value) ≡ true = elim (cases_eq (n % 512) 0) [
        | inl full ↦ or_left (eqb (n % 512) 0) (eqb (number_word h v n) end_value) (eq-eqb (n % 512) 0 full)
        | inr more ↦
            or_right (eqb (n % 512) 0) (eqb (number_word h v n) end_value)
            (subst (λ (k : ℕ). eqb (number_word h v k) end_value ≡ true) same
            (numbers_end l (format_in h v) v (first_map h v) (info_in h v).pages is.read (λ e. more (omega arith))))
      ] in
      cond-true (eqb (n % 512) 0 || eqb (number_word h v n) end_value) None (Some (reply.PfnEnd (number_word h v n))) ends

  -- the pages are counted by the numbers that have one
  counted : (f : Format) → f ≡ format_in h v → (info_in h v).pages ≡ d_in h v + meta_in h v + 1
  counted Plain is_plain =
      let same = saved in
      let size = pages_same (stream_page h v 0) in
      let meta = ap meta_of same in
      let all = fine.plain (sym is_plain) in
      let with_data = plain_data h v (sym is_plain) in
      omega arith
  counted SkipZeros skips =
      let same = saved in
      let n = (info_in h v).image_pages in
      let meta = ap meta_of same in
      let f = fine in
      let some = f.some in
      let least = f.least in
      let size = pages_same (stream_page h v 0) in
      let valid = few in
      let small = few_frames h.zones is.hardware.zones in
      let last = (is.read.clean (meta_in h v) (omega arith)).listed (sym skips) (omega arith) (omega arith) (sym meta) in
      let with_data = data_same h v (sym skips) in
      let tallied = ap (λ (k : ℕ). tally (has_page v (first_map h v) k) 0 (512 * meta_in h v)) same in
      omega arith

  no_listed_cause : listed_cause h v ≡ None
  no_listed_cause =
      let pages = (info_in h v).pages in
      cond-true (eqb pages (d_in h v + meta_in h v + 1)) None (Some (reply.BadCounts (info_in h v).image_pages pages)) (eq-eqb pages (d_in h v + meta_in h v + 1) (counted (format_in h v) refl))

  no_numbers_cause : (q : ℕ) → numbers_cause h v q ≡ None
  no_numbers_cause q =
      let n = (info_in h v).image_pages in
      let faults = map (number_cause h v) (range_with_len (512 * q) (min 512 (n - 512 * q))) in
      let size = length-map-range_with_len (number_cause h v) (512 * q) (min 512 (n - 512 * q)) in
      let own = none_of_all faults (λ k lt.
      let here : k < min 512 (n - 512 * q) = omega arith in
      get_or-map-range_with_len (number_cause h v) (512 * q) (min 512 (n - 512 * q)) k (512 * q + k) None here refl ∙ no_number_cause (512 * q + k) (omega arith)) in
      either_none (eqb (q + 1) (meta_of n)) (or_else (first_some faults) (or_else (end_cause h v n) (listed_cause h v))) (first_some faults)
      (both_none (first_some faults) (or_else (end_cause h v n) (listed_cause h v)) own (both_none (end_cause h v n) (listed_cause h v) no_end_cause no_listed_cause)) own

  no_read_cause : (check : IdentCheck) (here : Place) → IsIdentified h v check → read_cause h v check here ≡ None
  no_read_cause check (map_at j) ident = refl
  no_read_cause check (page_at zero) ident = no_info_cause check ident
  no_read_cause check (page_at (suc q)) ident = either_none (ltb q (meta_in h v)) (numbers_cause h v q) None (no_numbers_cause q) refl

  -- The loader's room.

  no_room_cause : room_cause h m v loader.Table ≡ None
  no_room_cause =
      let free = length (left_free h m loader.Table) in
      cond-false (ltb free (need (d_in h v))) (Some (reply.TooFewLoaderFrames free (need (d_in h v)))) None (le-ltb free (need (d_in h v)) is.room)

  no_want_cause : (here : Place) → want_cause h m v loader.Table here ≡ None
  no_want_cause (map_at j) = refl
  no_want_cause (page_at k) = either_none (eqb k (meta_in h v)) (room_cause h m v loader.Table) None no_room_cause refl

  -- A place.

  no_next_cause : (t : ℕ) → next_cause h v t ≡ None
  no_next_cause t = go (ltb (t + 1) (place_count (info_in h v).pages)) refl where
    go : (b : Bool) → b ≡ ltb (t + 1) (place_count (info_in h v).pages) → cond b (place_cause h v (place (t + 1))) None ≡ None
    go true e =
        let lt = ltb-true (t + 1) (place_count (info_in h v).pages) (sym e) in
        let some = is.read.some in
        no_place_cause h m v l is (t + 1) (omega arith)
    go false e = refl

  pub no_cause_at : (check : IdentCheck) (t : ℕ) → IsIdentified h v check → cause_at h m v loader.Table check t ≡ None
  no_cause_at check t ident =
      let want = want_cause h m v loader.Table (place t) in
      both_none (read_cause h v check (place t)) (or_else want (next_cause h v t)) (no_read_cause check (place t) ident)
      (both_none want (next_cause h v t) (no_want_cause (place t)) (no_next_cause t))
