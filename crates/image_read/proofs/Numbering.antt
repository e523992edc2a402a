-- The numbers of a number page of an image, as a resume has them.
use Rattle.std.proofs.Common.{◌≡◌, ℕ, ◌+◌, ◌-◌, ◌*◌, ◌/◌, ◌%◌, ◌<◌, ◌≤◌, ◌==◌, ◌&&◌, ◌||◌, zero, suc, List, [], ◌∷◌, ◌++◌, map, filter, Bool, true, false, not, cond, leb, eqb, Option, Some, None, refl, sym, ap, ap₂, ◌∙◌, inl, inr, append_assoc, append-nil, add-one, arith}
use Rattle.std.proofs.lemmas.Bool.{cases_Bool, cases_eq, cond-true, cond-false, eq-eqb, ne_eqb, lt-ltb, le-ltb}
use Rattle.std.proofs.lemmas.List.{map-append}
use Rattle.std.proofs.lemmas.List.FromFn.{map-range_with_len_more}
use Rattle.std.specs.List.{range_with_len}
use Rattle.definitions.specs.Bytes.{word}
use Rattle.definitions.specs.Disk as disk
use Rattle.definitions.specs.NumberPages.{end_value}
use Rattle.definitions.proofs.ZoneLists.{filter-range_more}
use Rattle.page_core.specs.declared.format.Format.{Format}
use Rattle.frame_sets.specs.Unpacked.{Unpacked}
use Rattle.frame_sets.specs.Numbers as pack
use Rattle.frame_sets.specs.declared.packing.unpack.PfnFault.{PfnFault}
use Rattle.frame_sets.specs.declared.packing.unpack.PfnFault.TheVariants as fault
use Rattle.frame_sets.proofs.Listing.{numbers_in-none, numbers_in-more, marked_in-none, marked_in-one, marked_in-same}
use Rattle.plain_machine.specs.Machine.{Hardware, is_valid}
use Rattle.plain_machine.specs.Chain.{or_else, first_some}
use Rattle.plain_machine.specs.Trace.{stream_page, info_in, format_in, number_in, number_word, is_marked_by, number_cause, end_cause}
use Rattle.plain_machine.specs.declared.reply.Reply.{Reply}
use Rattle.plain_machine.specs.declared.reply.Reply.TheVariants as reply
use Rattle.image_read.specs.Taking.{pfn_cause}
use Rattle.image_read.specs.Stream.{frames_in, marked_in, last_number}
use Rattle.image_read.proofs.Over.{as_reply}

-- number page q, as it is read after the pages before it
pub record IsAt (h : Hardware) (v : disk.DiskImage) (q : ℕ) (u : Unpacked) (page : List ℕ) : Type 0 where
  pub format : u.format ≡ format_in h v
  pub n : u.n ≡ (info_in h v).image_pages
  pub read : u.read ≡ 512 * q
  pub last : u.last ≡ last_number h v (512 * q)
  pub page_is : page ≡ stream_page h v (1 + q)

-- word j of the number page, and the number in that word
pub word_is : (h : Hardware) (v : disk.DiskImage) (q j : ℕ) → j < 512 → number_word h v (512 * q + j) ≡ word (stream_page h v (1 + q)) j
word_is h v q j lt =
    let block : (512 * q + j) / 512 ≡ q = omega arith in
    let place : (512 * q + j) % 512 ≡ j = omega arith in
    ap₂ (λ (b i : ℕ). word (stream_page h v (1 + b)) i) block place

pub word_at : (h : Hardware) (v : disk.DiskImage) (q : ℕ) (u : Unpacked) (page : List ℕ) (j : ℕ) → IsAt h v q u page → j < 512 → word page j ≡ number_word h v (512 * q + j)
word_at h v q u page j at lt = ap (λ (p : List ℕ). word p j) at.page_is ∙ sym (word_is h v q j lt)

pub number_at : (h : Hardware) (v : disk.DiskImage) (q : ℕ) (u : Unpacked) (page : List ℕ) (j : ℕ) → IsAt h v q u page → j < 512 → pack.number_in u page j ≡ number_in h v (512 * q + j)
number_at h v q u page j at lt = ap₂ (λ (f : Format) (w : ℕ). pack.number_by f w) at.format (word_at h v q u page j at lt)

pub marked_at : (h : Hardware) (v : disk.DiskImage) (q : ℕ) (u : Unpacked) (page : List ℕ) (j : ℕ) → IsAt h v q u page → j < 512 → pack.is_marked_by u.format (word page j) ≡ is_marked_by (format_in h v) (number_word h v (512 * q + j))
marked_at h v q u page j at lt = ap₂ (λ (f : Format) (w : ℕ). pack.is_marked_by f w) at.format (word_at h v q u page j at lt)

-- the number before number j
pub before_at : (h : Hardware) (v : disk.DiskImage) (q : ℕ) (u : Unpacked) (page : List ℕ) (j : ℕ) → IsAt h v q u page → j ≤ 512 → pack.before_in u page j ≡ last_number h v (512 * q + j)
before_at h v q u page zero at le = at.last ∙ ap (last_number h v) (let e : 512 * q ≡ 512 * q + 0 = omega arith in e)
before_at h v q u page (suc j) at le =
    ap Some (number_at h v q u page j at (omega arith)) ∙ ap (last_number h v) (let e : suc (512 * q + j) ≡ 512 * q + suc j = omega arith in e)

-- The fault of a number.

valid_or : (valid : Bool) (a b : Option Reply) → cond valid a b ≡ cond (not valid) b a
valid_or true a b = refl
valid_or false a b = refl

lift : (b : Bool) (x y : Option PfnFault) → as_reply (pfn_cause (cond b x y)) ≡ cond b (as_reply (pfn_cause x)) (as_reply (pfn_cause y))
lift true x y = refl
lift false x y = refl

pub number_fault_is : (h : Hardware) (v : disk.DiskImage) (i : ℕ) → as_reply (pfn_cause (pack.number_fault h.zones (last_number h v i) (number_in h v i))) ≡ number_cause h v i
number_fault_is h v zero =
    lift (is_valid h (number_in h v 0)) None (Some (fault.BadPfn (number_in h v 0)))
    ∙ valid_or (is_valid h (number_in h v 0)) None (Some (reply.BadPfn (number_in h v 0)))
number_fault_is h v (suc m) =
    let p = number_in h v (suc m) in
    let before = number_in h v m in
    let same : suc m - 1 ≡ m = omega arith in
    lift (is_valid h p) (pack.order_fault (Some before) p) (Some (fault.BadPfn p))
    ∙ ap (λ o. cond (is_valid h p) o (Some (reply.BadPfn p))) (lift (leb p before) (Some (fault.PfnOrder before p)) None)
    ∙ valid_or (is_valid h p) (cond (leb p before) (Some (reply.PfnOrder before p)) None) (Some (reply.BadPfn p))
    ∙ ap (λ (k : ℕ). cond (not (is_valid h p)) (Some (reply.BadPfn p)) (cond (leb p (number_in h v k)) (Some (reply.PfnOrder (number_in h v k) p)) None)) (sym same)
    ∙ ap (λ b. cond (not (is_valid h p)) (Some (reply.BadPfn p)) (cond (b && leb p (number_in h v (suc m - 1))) (Some (reply.PfnOrder (number_in h v (suc m - 1)) p)) None)) (sym (lt-ltb 0 (suc m) (omega arith)))

-- The first fault of a page's numbers.

first_some-append : (xs : List (Option Reply)) (x : Option Reply) → first_some (xs ++ x ∷ []) ≡ or_else (first_some xs) x
first_some-append [] None = refl
first_some-append [] (Some r) = refl
first_some-append (None ∷ xs) x = first_some-append xs x
first_some-append (Some r ∷ xs) x = refl

lift_or : (a b : Option PfnFault) → as_reply (pfn_cause (pack.or_else a b)) ≡ or_else (as_reply (pfn_cause a)) (as_reply (pfn_cause b))
lift_or None b = refl
lift_or (Some x) b = refl

pub first_is : (f : ℕ → Option PfnFault) (g : ℕ → Option Reply) (a w m : ℕ) → m ≤ w → ((j : ℕ) → j < w → as_reply (pfn_cause (f j)) ≡ g (a + j)) → as_reply (pfn_cause (pack.first_below f m)) ≡ first_some (map g (range_with_len a m))
first_is f g a w zero le each = refl
first_is f g a w (suc m) le each =
    lift_or (pack.first_below f m) (f m)
    ∙ ap₂ or_else (first_is f g a w m (omega arith) each) (each m (omega arith))
    ∙ sym (first_some-append (map g (range_with_len a m)) (g (a + m)))
    ∙ ap first_some (sym (map-range_with_len_more g a m (a + m) refl))
    ∙ ap (λ (n : ℕ). first_some (map g (range_with_len a n))) (add-one m)

-- The word after the last number.

none_lift : (b c : Bool) (r : ℕ) → b ≡ false → cond ((not b) || c) None (Some (reply.PfnEnd r)) ≡ None
none_lift b c r is = ap (λ x. cond ((not x) || c) None (Some (reply.PfnEnd r))) is

end_lift : (c : Bool) (a b : ℕ) → a ≡ b → as_reply (pfn_cause (cond (true && not c) (Some (fault.PfnEnd a)) None)) ≡ cond (false || c) None (Some (reply.PfnEnd b))
end_lift true a b e = refl
end_lift false a b e = ap (λ x. Some (reply.PfnEnd x)) e

pub end_is : (h : Hardware) (v : disk.DiskImage) (q : ℕ) (u : Unpacked) (page : List ℕ) → IsAt h v q u page → 512 * q < (info_in h v).image_pages → (info_in h v).image_pages ≤ 512 * q + 512 → as_reply (pfn_cause (pack.end_fault u page)) ≡ end_cause h v (info_in h v).image_pages
end_is h v q u page at lt le =
    let n = (info_in h v).image_pages in
    let n_is = at.n in
    let read_is = at.read in
    elim (cases_eq (n % 512) 0) [
      | inl full ↦
          let left : 512 ≤ u.n - u.read = omega arith in
          ap (λ b. as_reply (pfn_cause (cond (b && not (word page (u.n - u.read) == end_value)) (Some (fault.PfnEnd (word page (u.n - u.read)))) None))) (le-ltb (u.n - u.read) 512 left)
          ∙ sym (ap (λ b. cond (b || (number_word h v n == end_value)) None (Some (reply.PfnEnd (number_word h v n)))) (eq-eqb (n % 512) 0 full))
      | inr more ↦
          let left : u.n - u.read < 512 = omega arith in
          let place : 512 * q + (u.n - u.read) ≡ n = omega arith in
          let word_same : word page (u.n - u.read) ≡ number_word h v n = word_at h v q u page (u.n - u.read) at left ∙ ap (number_word h v) place in
          ap (λ b. as_reply (pfn_cause (cond (b && not (word page (u.n - u.read) == end_value)) (Some (fault.PfnEnd (word page (u.n - u.read)))) None))) (lt-ltb (u.n - u.read) 512 left)
          ∙ ap (λ c. as_reply (pfn_cause (cond (true && not c) (Some (fault.PfnEnd (word page (u.n - u.read)))) None))) (ap (λ (w : ℕ). eqb w end_value) word_same)
          ∙ end_lift (number_word h v n == end_value) (word page (u.n - u.read)) (number_word h v n) word_same
          ∙ sym (ap (λ b. cond (b || (number_word h v n == end_value)) None (Some (reply.PfnEnd (number_word h v n)))) (ne_eqb (n % 512) 0 more))
    ]

pub no_end : (h : Hardware) (v : disk.DiskImage) (q : ℕ) (u : Unpacked) (page : List ℕ) → IsAt h v q u page → 512 * q + 512 < (info_in h v).image_pages → pack.end_fault u page ≡ None
no_end h v q u page at lt =
    let n_is = at.n in
    let read_is = at.read in
    let left : 512 ≤ u.n - u.read = omega arith in
    ap (λ b. cond (b && not (word page (u.n - u.read) == end_value)) (Some (fault.PfnEnd (word page (u.n - u.read)))) None) (le-ltb (u.n - u.read) 512 left)

-- The lists with the page's numbers.

pub frames_in-more : (h : Hardware) (v : disk.DiskImage) (m : ℕ) → frames_in h v (m + 1) ≡ frames_in h v m ++ number_in h v m ∷ []
unfolding frames_in
frames_in-more h v m = map-range_with_len_more (number_in h v) 0 m m (omega arith)

marked_more : (h : Hardware) (v : disk.DiskImage) (m : ℕ) → marked_in h v (m + 1) ≡ marked_in h v m ++ map (number_in h v) (cond (is_marked_by (format_in h v) (number_word h v m)) (m ∷ []) [])
unfolding marked_in
marked_more h v m =
    let test : ℕ → Bool = λ j. is_marked_by (format_in h v) (number_word h v j) in
    let this : 0 + m ≡ m = omega arith in
    ap (map (number_in h v)) (filter-range_more test 0 m)
    ∙ map-append (number_in h v) (filter test (range_with_len 0 m)) (cond (test (0 + m)) ((0 + m) ∷ []) [])
    ∙ ap (λ (i : ℕ). map (number_in h v) (filter test (range_with_len 0 m)) ++ map (number_in h v) (cond (test i) (i ∷ []) [])) this

pub frames_with : (h : Hardware) (v : disk.DiskImage) (q : ℕ) (u : Unpacked) (page : List ℕ) (m : ℕ) → IsAt h v q u page → m ≤ 512 → frames_in h v (512 * q) ++ pack.numbers_in u page m ≡ frames_in h v (512 * q + m)
frames_with h v q u page zero at le =
    ap (λ t. frames_in h v (512 * q) ++ t) (numbers_in-none u page) ∙ append-nil (frames_in h v (512 * q)) ∙ ap (frames_in h v) (let e : 512 * q ≡ 512 * q + 0 = omega arith in e)
frames_with h v q u page (suc m) at le =
    ap (λ (k : ℕ). frames_in h v (512 * q) ++ pack.numbers_in u page k) (sym (add-one m))
    ∙ ap (λ t. frames_in h v (512 * q) ++ t) (numbers_in-more u page m)
    ∙ sym (append_assoc (frames_in h v (512 * q)) (pack.numbers_in u page m) (pack.number_in u page m ∷ []))
    ∙ ap₂ (λ (xs : List ℕ) (x : ℕ). xs ++ x ∷ []) (frames_with h v q u page m at (omega arith)) (number_at h v q u page m at (omega arith))
    ∙ sym (frames_in-more h v (512 * q + m))
    ∙ ap (frames_in h v) (let e : 512 * q + m + 1 ≡ 512 * q + suc m = omega arith in e)

pub marks_with : (h : Hardware) (v : disk.DiskImage) (q : ℕ) (u : Unpacked) (page : List ℕ) (m : ℕ) → IsAt h v q u page → m ≤ 512 → marked_in h v (512 * q) ++ pack.marked_in u page m ≡ marked_in h v (512 * q + m)
marks_with h v q u page zero at le =
    ap (λ t. marked_in h v (512 * q) ++ t) (marked_in-none u page) ∙ append-nil (marked_in h v (512 * q)) ∙ ap (marked_in h v) (let e : 512 * q ≡ 512 * q + 0 = omega arith in e)
marks_with h v q u page (suc m) at le =
    let rest = marks_with h v q u page m at (omega arith) in
    let i = 512 * q + m in
    let same = marked_at h v q u page m at (omega arith) in
    let next : 512 * q + m + 1 ≡ 512 * q + suc m = omega arith in
    elim (cases_Bool (is_marked_by (format_in h v) (number_word h v i))) [
      | inl is ↦
          ap (λ (k : ℕ). marked_in h v (512 * q) ++ pack.marked_in u page k) (sym (add-one m))
          ∙ ap (λ t. marked_in h v (512 * q) ++ t) (marked_in-one u page m (same ∙ is))
          ∙ sym (append_assoc (marked_in h v (512 * q)) (pack.marked_in u page m) (pack.number_in u page m ∷ []))
          ∙ ap₂ (λ (xs : List ℕ) (x : ℕ). xs ++ x ∷ []) rest (number_at h v q u page m at (omega arith))
          ∙ sym (marked_more h v i ∙ ap (λ t. marked_in h v i ++ map (number_in h v) t) (cond-true (is_marked_by (format_in h v) (number_word h v i)) (i ∷ []) [] is))
          ∙ ap (marked_in h v) next
      | inr is ↦
          ap (λ (k : ℕ). marked_in h v (512 * q) ++ pack.marked_in u page k) (sym (add-one m))
          ∙ ap (λ t. marked_in h v (512 * q) ++ t) (marked_in-same u page m (same ∙ is))
          ∙ rest
          ∙ sym (marked_more h v i ∙ ap (λ t. marked_in h v i ++ map (number_in h v) t) (cond-false (is_marked_by (format_in h v) (number_word h v i)) (i ∷ []) [] is) ∙ append-nil (marked_in h v i))
          ∙ ap (marked_in h v) next
    ]
