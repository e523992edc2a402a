-- A resume over a disk that holds an own image: the info page and the number pages have no cause to stop it.
use Rattle.std.proofs.Common.{◌≡◌, ℕ, ◌+◌, ◌-◌, ◌<◌, ◌≤◌, inl, inr, Bool, true, false, cond, eqb, ltb, leb, not, ◌&&◌, ◌||◌, nat_eq, List, [], ◌∷◌, length, get_or, map, filter, Option, Some, None, refl, sym, ap, ap₂, ◌∙◌, subst, arith, Contains}
use Rattle.std.specs.List.{list_any}
use Rattle.std.specs.List.Sorted.{IsStrictlyIncreasing}
use Rattle.std.specs.Cmp.Lexicographic.{pointwise, other_text}
use Rattle.std.proofs.lemmas.Bool.{cases_Bool, eq-eqb, ne_eqb, cond-true, cond-false, false≢true, ltb-true, leb-true}
use Rattle.std.proofs.lemmas.List.{length-map, get_or-map}
use Rattle.std.proofs.lemmas.List.Elements.{Contains-get_or}
use Rattle.std.proofs.lemmas.List.Folds.{list_any_at}
use Rattle.std.proofs.lemmas.List.Kept.{AllPairs-from_increasing, IsStrictlyIncreasing-filter}
use Rattle.std.proofs.lemmas.List.Sums.{count_by-le-length, length-filter}
use Rattle.page_core.specs.declared.format.Format.{Format}
use Rattle.page_core.specs.declared.format.Format.TheVariants.{Plain, SkipZeros}
use Rattle.definitions.specs.Disk as disk
use Rattle.definitions.specs.InfoPage.{mismatch, same_name, text_of_name}
use Rattle.definitions.specs.Tables.{saveable_frames}
use Rattle.definitions.specs.NumberPages.{meta_of}
use Rattle.definitions.specs.Tables.{frame, entry_at, page_flags, is_saveable}
use Rattle.definitions.specs.Zones.{numbers}
use Rattle.definitions.specs.declared.info.Field.{Field}
use Rattle.definitions.specs.declared.info.Field.TheVariants.{VersionCode, Sysname, Release, Version, Machine}
use Rattle.definitions.specs.declared.info.Ident.{Ident}
use Rattle.definitions.specs.declared.info.Info.{Info}
use Rattle.definitions.proofs.FrameSets.{Contains-from_filter}
use Rattle.definitions.proofs.ZoneNumbers.{IsStrictlyIncreasing-numbers}
use Rattle.plain_machine.specs.Machine.{Hardware, Memory, IsHardware, saveable, is_valid, valid_count}
use Rattle.plain_machine.specs.Chain.{Holds, or_else}
use Rattle.plain_machine.specs.Image.{Image, info_of_image, n_of, d_of, pages_of, has_data}
use Rattle.plain_machine.specs.Stands.{IsOwn}
use Rattle.plain_machine.specs.Trace.{info_in, format_in, number_in, identity_cause, memory_cause, counts_cause, are_bad_counts, info_cause, number_cause}
use Rattle.plain_machine.specs.declared.event.IdentCheck.{IdentCheck}
use Rattle.plain_machine.specs.declared.event.IdentCheck.TheVariants.{Compare, Skip}
use Rattle.plain_machine.specs.declared.reply.Reply.{Reply}
use Rattle.plain_machine.specs.declared.reply.Reply.TheVariants as reply
use Rattle.image_laws.specs.Decoding.{IsSayable}
use Rattle.image_laws.proofs.Decoding.{says_info, says_numbers, format_is, memories_are_sayable}
use Rattle.protocol_laws.proofs.Resumed.{table_saved}

-- What is read from such a disk.
pub record IsOwnDisk (h : Hardware) (v : disk.DiskImage) (i : Image) : Type 0 where
  pub hardware : IsHardware h
  pub holds : Holds h v i
  pub own : IsOwn h v i
  pub sayable : IsSayable i

pub own_sayable : (h : Hardware) (v : disk.DiskImage) (i : Image) → IsHardware h → IsOwn h v i → IsSayable i
own_sayable h v i hw is = subst IsSayable (sym is.of_memory.1.image) (memories_are_sayable h is.of_memory.0 i.slots i.format hw)

pub info_is : (h : Hardware) (v : disk.DiskImage) (i : Image) → IsOwnDisk h v i → info_in h v ≡ info_of_image i
info_is h v i is = says_info h v i is.holds is.sayable

-- The memory that it is the image of.
pub memory_of : (h : Hardware) (v : disk.DiskImage) (i : Image) → IsOwn h v i → Memory
memory_of h v i own = own.of_memory.0

pub frames_are : (h : Hardware) (v : disk.DiskImage) (i : Image) (own : IsOwn h v i) → i.frames ≡ map (λ p. (p, frame own.of_memory.0 p)) (saveable h own.of_memory.0)
frames_are h v i own = ap (λ (x : Image). x.frames) own.of_memory.1.image

-- The identity.

same_is_true : (xs : List ℕ) → pointwise nat_eq xs xs ≡ true
same_is_true xs = elim (cases_Bool (pointwise nat_eq xs xs)) [ inl e ↦ e | inr e ↦ absurd (other_text xs xs (sym e) refl) ]

not_true : (b : Bool) → b ≡ true → not b ≡ false
not_true true e = refl
not_true false e = absurd (false≢true e)

no_mismatch : (x : Ident) → mismatch x x ≡ None
unfolding mismatch
no_mismatch x =
    cond-false (not (eqb x.version_code x.version_code)) (Some VersionCode) _ (not_true (eqb x.version_code x.version_code) (eq-eqb x.version_code x.version_code refl))
    ∙ cond-false (not (same_name 0 x x)) (Some Sysname) _ (not_true (same_name 0 x x) (same_is_true (text_of_name (get_or x.names 0 []))))
    ∙ cond-false (not (same_name 2 x x)) (Some Release) _ (not_true (same_name 2 x x) (same_is_true (text_of_name (get_or x.names 2 []))))
    ∙ cond-false (not (same_name 3 x x)) (Some Version) _ (not_true (same_name 3 x x) (same_is_true (text_of_name (get_or x.names 3 []))))
    ∙ cond-false (not (same_name 4 x x)) (Some Machine) None (not_true (same_name 4 x x) (same_is_true (text_of_name (get_or x.names 4 []))))

abbrev field_reply : Option Field → Option Reply
field_reply f = elim f as (λ x. Option Reply) [ None ↦ None | Some field ↦ Some (reply.Mismatch field) ]

no_identity_cause : (h : Hardware) (v : disk.DiskImage) (i : Image) (check : IdentCheck) → IsOwnDisk h v i → identity_cause h v check ≡ None
no_identity_cause h v i Compare is =
    let ident : (info_in h v).ident ≡ h.ident = ap (λ (x : Info). x.ident) (info_is h v i is) ∙ ap (λ (x : Image). x.ident) is.own.of_memory.1.image in
    ap field_reply (ap (λ (x : Ident). mismatch x h.ident) ident ∙ no_mismatch h.ident)
no_identity_cause h v i Skip is = refl

no_memory_cause : (h : Hardware) (v : disk.DiskImage) (i : Image) → IsOwnDisk h v i → memory_cause h v ≡ None
no_memory_cause h v i is =
    let size : (info_in h v).physpages ≡ valid_count h = ap (λ (x : Info). x.physpages) (info_is h v i is) ∙ ap (λ (x : Image). x.physpages) is.own.of_memory.1.image in
    cond-true (eqb (info_in h v).physpages (valid_count h)) None (Some (reply.MemorySize (info_in h v).physpages (valid_count h))) (eq-eqb (info_in h v).physpages (valid_count h) size)

-- The counts.

pub n_is : (h : Hardware) (v : disk.DiskImage) (i : Image) (is : IsOwnDisk h v i) → n_of i ≡ length (saveable h is.own.of_memory.0)
n_is h v i is = ap length (frames_are h v i is.own) ∙ length-map (saveable h is.own.of_memory.0) (λ p. (p, frame is.own.of_memory.0 p))

-- a table frame is saved
pub some_saved : (h : Hardware) (v : disk.DiskImage) (i : Image) → IsOwnDisk h v i → 1 ≤ n_of i
some_saved h v i is =
    let m = is.own.of_memory.0 in
    let some = is.hardware.some_slots in
    let (k, lt, e) = table_saved h m 0 is.hardware is.own.of_memory.1.fits (omega arith) in
    let n = n_is h v i is in
    omega arith

pub few_saved : (h : Hardware) (v : disk.DiskImage) (i : Image) → IsOwnDisk h v i → n_of i ≤ valid_count h
unfolding saveable_frames
few_saved h v i is =
    let m = is.own.of_memory.0 in
    let test : ℕ → Bool = λ p. is_saveable (page_flags (entry_at m h.frame_table p)) in
    let count = length-filter test (numbers h.zones) in
    let part = count_by-le-length test (numbers h.zones) in
    let n = n_is h v i is in
    omega arith

pub few_data : (i : Image) → d_of i ≤ n_of i
few_data i = let count = length-filter (has_data i.format) i.frames in let part = count_by-le-length (has_data i.format) i.frames in omega arith

plain_data : (i : Image) → i.format ≡ Plain → d_of i ≡ n_of i
plain_data i plain = ap length (all_kept i.frames) where
  keeps : (s : ℕ × List ℕ) → has_data i.format s ≡ true
  keeps s = ap (λ (f : Format). has_data f s) plain

  all_kept : (xs : List (ℕ × List ℕ)) → filter (has_data i.format) xs ≡ xs
  all_kept [] = refl
  all_kept (x ∷ xs) = cond-true (has_data i.format x) (x ∷ filter (has_data i.format) xs) (filter (has_data i.format) xs) (keeps x) ∙ ap (λ (ys : List (ℕ × List ℕ)). x ∷ ys) (all_kept xs)

not_lt : (a b : ℕ) → b ≤ a → ltb a b ≡ false
not_lt a b le = elim (cases_Bool (ltb a b)) [ inl lt ↦ (let less = ltb-true a b lt in absurd (omega arith)) | inr isn't ↦ isn't ]

or-none : (a b : Bool) → a ≡ false → b ≡ false → (a || b) ≡ false
or-none true b e f = absurd (false≢true (sym e))
or-none false b e f = f

good_counts : (f : Format) (valid n d pages : ℕ) → 1 ≤ n → n ≤ valid → d ≤ n → (f ≡ Plain → d ≡ n) → pages ≡ d + meta_of n + 1 → are_bad_counts f valid n pages ≡ false
good_counts Plain valid n d pages some few part whole is =
    let all = whole refl in
    or-none (eqb n 0 || ltb valid n) (not (eqb pages (n + meta_of n + 1)))
    (or-none (eqb n 0) (ltb valid n) (ne_eqb n 0 (λ e. omega arith)) (not_lt valid n few))
    (not_true (eqb pages (n + meta_of n + 1)) (eq-eqb pages (n + meta_of n + 1) (omega arith)))
good_counts SkipZeros valid n d pages some few part whole is =
    or-none (eqb n 0 || ltb valid n || ltb pages (meta_of n + 1)) (ltb (n + meta_of n + 1) pages)
    (or-none (eqb n 0 || ltb valid n) (ltb pages (meta_of n + 1))
    (or-none (eqb n 0) (ltb valid n) (ne_eqb n 0 (λ e. omega arith)) (not_lt valid n few)) (not_lt pages (meta_of n + 1) (omega arith)))
    (not_lt (n + meta_of n + 1) pages (omega arith))

no_counts_cause : (h : Hardware) (v : disk.DiskImage) (i : Image) → IsOwnDisk h v i → counts_cause h v ≡ None
no_counts_cause h v i is =
    let info = info_is h v i is in
    let n = (info_in h v).image_pages in
    let pages = (info_in h v).pages in
    let bad : are_bad_counts (format_in h v) (valid_count h) n pages ≡ false =
    ap₂ (λ (f : Format) (x : Info). are_bad_counts f (valid_count h) x.image_pages x.pages) (format_is h v i is.holds) info
    ∙ good_counts i.format (valid_count h) (n_of i) (d_of i) (pages_of i) (some_saved h v i is) (few_saved h v i is) (few_data i) (plain_data i) refl in
    cond-false (are_bad_counts (format_in h v) (valid_count h) n pages) (Some (reply.BadCounts n pages)) None bad

pub both_none : (x y : Option Reply) → x ≡ None → y ≡ None → or_else x y ≡ None
both_none x y e f = ap (λ (o : Option Reply). or_else o y) e ∙ f

pub no_info_cause : (h : Hardware) (v : disk.DiskImage) (i : Image) (check : IdentCheck) → IsOwnDisk h v i → info_cause h v check ≡ None
no_info_cause h v i check is =
    both_none (identity_cause h v check) (or_else (memory_cause h v) (counts_cause h v)) (no_identity_cause h v i check is)
    (both_none (memory_cause h v) (counts_cause h v) (no_memory_cause h v i is) (no_counts_cause h v i is))

-- The numbers: valid, and ascending.

pub number_is : (h : Hardware) (v : disk.DiskImage) (i : Image) (j : ℕ) (is : IsOwnDisk h v i) → j < n_of i → number_in h v j ≡ get_or (saveable h is.own.of_memory.0) j 0
number_is h v i j is lt =
    let m = is.own.of_memory.0 in
    let pair : ℕ → ℕ × List ℕ = λ p. (p, frame m p) in
    let first : ℕ × List ℕ → ℕ = λ saved. saved.0 in
    let n = n_is h v i is in
    let inside : j < length (map pair (saveable h m)) = omega (arith, length-map (saveable h m) pair) in
    says_numbers h v i is.holds is.sayable j lt
    ∙ ap (λ (xs : List (ℕ × List ℕ)). get_or (map first xs) j 0) (frames_are h v i is.own)
    ∙ get_or-map first (map pair (saveable h m)) j (0, []) 0 inside
    ∙ ap first (get_or-map pair (saveable h m) j 0 (0, []) (omega arith))

any_true : (xs : List ℕ) (p : ℕ) → Contains xs p → list_any (λ q. eqb q p) xs ≡ true
any_true xs p (k, lt, e) = list_any_at (λ q. eqb q p) xs k p lt (eq-eqb (get_or xs k p) p e)

valid_number : (h : Hardware) (m : Memory) (j : ℕ) → j < length (saveable h m) → is_valid h (get_or (saveable h m) j 0) ≡ true
unfolding saveable_frames
valid_number h m j lt =
    let p = get_or (saveable h m) j 0 in
    any_true (numbers h.zones) p (Contains-from_filter (λ q. is_saveable (page_flags (entry_at m h.frame_table q))) (numbers h.zones) p (Contains-get_or (saveable h m) j 0 lt)).0

ascend : (h : Hardware) (m : Memory) → IsHardware h → IsStrictlyIncreasing (saveable h m)
unfolding saveable_frames
ascend h m hw = IsStrictlyIncreasing-filter (λ p. is_saveable (page_flags (entry_at m h.frame_table p))) (numbers h.zones) (IsStrictlyIncreasing-numbers h.zones hw.zones.apart)

leb_fails : (a b : ℕ) → a < b → leb b a ≡ false
leb_fails a b lt = elim (cases_Bool (leb b a)) [ inl le ↦ (let at_most = leb-true b a le in absurd (omega arith)) | inr isn't ↦ isn't ]

and_fails : (b c : Bool) → (b ≡ true → c ≡ false) → (b && c) ≡ false
and_fails true c e = e refl
and_fails false c e = refl

pub no_number_cause : (h : Hardware) (v : disk.DiskImage) (i : Image) (j : ℕ) → IsOwnDisk h v i → j < n_of i → number_cause h v j ≡ None
no_number_cause h v i j is lt =
    let m = is.own.of_memory.0 in
    let n = n_is h v i is in
    let here = number_is h v i j is lt in
    let valid : is_valid h (number_in h v j) ≡ true = ap (is_valid h) here ∙ valid_number h m j (omega arith) in
    let rises : (ltb 0 j && leb (number_in h v j) (number_in h v (j - 1))) ≡ false =
    and_fails (ltb 0 j) (leb (number_in h v j) (number_in h v (j - 1)))
    (λ some.
    let first = ltb-true 0 j some in
    let before = number_is h v i (j - 1) is (omega arith) in
    let less = AllPairs-from_increasing (saveable h m) (ascend h m is.hardware) (j - 1) j 0 (omega arith) (omega arith) in
    leb_fails (number_in h v (j - 1)) (number_in h v j) (subst (λ (x : ℕ). x < number_in h v j) (sym before) (subst (λ (x : ℕ). get_or (saveable h m) (j - 1) 0 < x) (sym here) less))) in
    cond-false (not (is_valid h (number_in h v j))) (Some (reply.BadPfn (number_in h v j))) (cond (ltb 0 j && leb (number_in h v j) (number_in h v (j - 1))) (Some (reply.PfnOrder (number_in h v (j - 1)) (number_in h v j))) None) (not_true (is_valid h (number_in h v j)) valid)
    ∙ cond-false (ltb 0 j && leb (number_in h v j) (number_in h v (j - 1))) (Some (reply.PfnOrder (number_in h v (j - 1)) (number_in h v j))) None rises
