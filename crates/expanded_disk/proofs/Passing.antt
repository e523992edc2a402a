-- The units of an image, one after another.
use Rattle.std.proofs.Common.{◌≡◌, ℕ, ◌+◌, ◌<◌, List, [], ◌∷◌, ◌++◌, length, take, map, get_or, Option, None, Some, IfSome, refl, sym, ap, ap₂, subst, ◌∙◌, inl, inr, arith, zero-add, append-nil, below_more}
use Rattle.std.specs.List.{concat, range_with_len}
use Rattle.std.proofs.Math.Seq.{get_or-append_seam}
use Rattle.std.proofs.Math.ListN.{get_or-append}
use Rattle.std.proofs.lemmas.Bool.{cases_lt}
use Rattle.std.proofs.lemmas.List.Folds.{concat-append}
use Rattle.std.proofs.lemmas.List.FromFn.{map-range_with_len_more}
use Rattle.compression.specs.Crc.{crc32}
use Rattle.compression.proofs.Composing.{composes}
use Rattle.definitions.specs.Disk.{Content, as_it_reads}
use Rattle.image_walk.specs.declared.limits.Limits.{Limits}
use Rattle.image_check.specs.declared.finding.Finding.{Finding}
use Rattle.expanded_disk.specs.Chains.{IsSameChain}
use Rattle.expanded_disk.specs.Faults.{AreWhole, IsExpanded, IsUnitWrong, StandsBefore}
use Rattle.expanded_disk.specs.Names.{chain_of}
use Rattle.expanded_disk.specs.Opens.{AreFine}
use Rattle.expanded_disk.specs.Passes.{IsBadPass}
use Rattle.expanded_disk.specs.Units.{IsUnit, bytes_of, checksum_of, size_of, start_of, units_of}
use Rattle.expanded_disk.specs.declared.units.chain.Chain.{Chain}
use Rattle.expanded_disk.proofs.UnitSteps.{start_of-zero}

-- nothing was read yet
pub before_first : (content : Option Content) (c : Chain) → c.count ≡ 1 → StandsBefore content 0 c
before_first None c e = tt
before_first (Some held) c e = e ∙ sym (start_of-zero (chain_of (as_it_reads held) c.first))

pub whole_first : (content : Option Content) (first pages : ℕ) → IfSome content (λ held. AreWhole (as_it_reads held) first pages 0 [] 0)
whole_first None first pages = tt
whole_first (Some held) first pages = record {
  starts_are = λ j lt. absurd (omega arith);
  whole = λ j lt. absurd (omega arith);
  checksum_is = refl;
}

starts_more : (chain : ℕ → List ℕ) (n start : ℕ) (starts : List ℕ) → length starts ≡ n → ((j : ℕ) → j < n → get_or starts j 0 ≡ start_of chain j) → start ≡ start_of chain n → (j : ℕ) → j < n + 1 → get_or (starts ++ start ∷ []) j 0 ≡ start_of chain j
starts_more chain n start starts size are is j lt =
    elim (cases_lt j (length starts)) [
      | inl old ↦ get_or-append starts (start ∷ []) 0 j old ∙ are j (omega arith)
      | inr new ↦
          let at : length starts ≡ j = omega arith in
          ap (λ (k : ℕ). get_or (starts ++ start ∷ []) k 0) (sym at) ∙ get_or-append_seam starts start [] 0 ∙ is ∙ ap (start_of chain) (sym size ∙ at)
    ]

checksum_more : (chain : ℕ → List ℕ) (pages n crc : ℕ) (bytes : List ℕ) → crc ≡ checksum_of chain pages n → bytes ≡ bytes_of chain pages n → crc32 crc bytes ≡ checksum_of chain pages (n + 1)
checksum_more chain pages n crc bytes e is =
    let f = bytes_of chain pages in
    ap₂ crc32 e is
    ∙ composes 0 (concat (map f (range_with_len 0 n))) (f n)
    ∙ ap (crc32 0) (sym (ap concat (map-range_with_len_more f 0 n n (zero-add n)) ∙ concat-append (map f (range_with_len 0 n)) (f n ∷ []) ∙ ap (λ (x : List ℕ). concat (map f (range_with_len 0 n)) ++ x) (append-nil (f n))))

-- a unit more
pub whole_more : (content : Option Content) (old now : Chain) (pages n crc sum : ℕ) (starts starts' bytes : List ℕ) → IsSameChain old now → length starts ≡ n → starts' ≡ starts ++ now.count ∷ [] → StandsBefore content n now → sum ≡ crc32 crc (take (size_of pages n) bytes) → IfSome content (λ held. IsExpanded (as_it_reads held) now.first pages n bytes) → IfSome content (λ held. AreWhole (as_it_reads held) old.first pages n starts crc) → IfSome content (λ held. AreWhole (as_it_reads held) old.first pages (n + 1) starts' sum)
whole_more None old now pages n crc sum starts starts' bytes same size grown at summed unit w = tt
whole_more (Some held) old now pages n crc sum starts starts' bytes same size grown at summed unit w =
    let v = as_it_reads held in
    let chain = chain_of v old.first in
    let u = subst (λ (f : ℕ). IsExpanded v f pages n bytes) same.first unit in
    record {
      starts_are = subst (λ (s : List ℕ). (j : ℕ) → j < n + 1 → get_or s j 0 ≡ start_of chain j) (sym grown)
          (starts_more chain n now.count starts size w.starts_are (at ∙ ap (λ (f : ℕ). start_of (chain_of v f) n) same.first));
      whole = below_more (λ (j : ℕ). IsUnit chain pages j) n w.whole u.whole;
      checksum_is = summed ∙ checksum_more chain pages n crc (take (size_of pages n) bytes) w.checksum_is u.bytes_are;
    }

wrong_along : (content : Option Content) (old now : Chain) (pages unit before then : ℕ) (f : Finding) → IsSameChain old now → IsUnitWrong now.walker.limits now.first content pages unit before then f → IsUnitWrong old.walker.limits old.first content pages unit before then f
wrong_along content old now pages unit before then f same wrong =
    subst (λ (l : Limits). IsUnitWrong l old.first content pages unit before then f) same.limits
    (subst (λ (n : ℕ). IsUnitWrong now.walker.limits n content pages unit before then f) same.first wrong)

fine_by : (content : Option Content) (first pages n crc : ℕ) (starts : List ℕ) → IfSome content (λ held. AreWhole (as_it_reads held) first pages n starts crc) → AreFine content first pages n
fine_by None first pages n crc starts w = tt
fine_by (Some held) first pages n crc starts w = w.whole

-- a unit with a fault
pub bad_pass : (content : Option Content) (old now : Chain) (pages n before then crc : ℕ) (starts : List ℕ) (f : Finding) → IsSameChain old now → n < units_of pages → IfSome content (λ held. AreWhole (as_it_reads held) old.first pages n starts crc) → IsUnitWrong now.walker.limits now.first content pages n before then f → IsBadPass content pages before then old f
bad_pass content old now pages n before then crc starts f same few w wrong = record {
  unit = n;
  few = few;
  earlier = fine_by content old.first pages n crc starts w;
  wrong = wrong_along content old now pages n before then f same wrong;
}

-- the end
pub pass_ends : (content : Option Content) (old now : Chain) (pages n crc : ℕ) (starts starts' : List ℕ) → IsSameChain old now → n ≡ units_of pages → length starts ≡ n → starts' ≡ starts ++ now.count ∷ [] → StandsBefore content n now → IfSome content (λ held. AreWhole (as_it_reads held) old.first pages n starts crc) → IfSome content (λ held. AreWhole (as_it_reads held) old.first pages (units_of pages) starts' crc × (now.count ≡ start_of (chain_of (as_it_reads held) old.first) (units_of pages)) × (get_or starts' (units_of pages) 0 ≡ now.count))
pass_ends None old now pages n crc starts starts' same all size grown at w = tt
pass_ends (Some held) old now pages n crc starts starts' same all size grown at w =
    let v = as_it_reads held in
    let chain = chain_of v old.first in
    let here = at ∙ ap (λ (f : ℕ). start_of (chain_of v f) n) same.first in
    let seam : get_or (starts ++ now.count ∷ []) (length starts) 0 ≡ now.count = get_or-append_seam starts now.count [] 0 in (
      record {
        starts_are = λ j lt.
            let few : j < n = omega arith in
            let inside : j < length starts = omega arith in
            ap (λ (s : List ℕ). get_or s j 0) grown ∙ get_or-append starts (now.count ∷ []) 0 j inside ∙ w.starts_are j few;
        whole = λ j lt. w.whole j (omega arith);
        checksum_is = w.checksum_is ∙ ap (checksum_of chain pages) all;
      },
      here ∙ ap (start_of chain) all,
      ap₂ (λ (s : List ℕ) (j : ℕ). get_or s j 0) grown (sym (size ∙ all)) ∙ seam,
    )
