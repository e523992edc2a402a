-- What a crash inside a call may leave, where only the header block is written.
use Rattle.std.proofs.Common.{◌≡◌, ℕ, ◌+◌, ◌*◌, ◌-◌, ◌<◌, ◌≤◌, ◌⊎◌, zero, suc, List, [], ◌∷◌, Contains, length, get_or, Option, Some, None, IsTrue, IsSome, IfSome, refl, sym, ap, subst, ◌∙◌, inl, inr, arith}
use Rattle.std.proofs.lemmas.Bool.{cases_lt}
use Rattle.definitions.specs.Disk.{Content, DiskImage, IsContent, IsImage, IsMixture, SameOutside, TakesBytes, Changes, Elapses, Writes, FailsToWrite, Syncs, as_it_reads, block, sector, sector_bytes, settled}
use Rattle.definitions.specs.SwapHeader.{IsMarked, taken_back}
use Rattle.definitions.proofs.DiskLaws.{IsImage-as_it_reads, length-as_it_reads}
use Rattle.image_cli.specs.Crashes.{IsCrash, IsLeft}

-- each candidate of each sector is one that a crash may leave
pub record Within (header : ℕ) (page : List ℕ) (old c : Content) : Type 0 where
  pub size : length c ≡ length old
  pub each : (s : ℕ) (x : List ℕ) → s < length c → Contains (sector c s).candidates x → IsLeft header page old s x

within_same : (header : ℕ) (page : List ℕ) (old : Content) → Within header page old old
within_same header page old = record { size = refl; each = λ s x lt in'. inl in' }

-- where a sector lies of a block
data Place (b s : ℕ) : Type 0 where
  below : s < 8 * b → Place b s
  inside : (j : ℕ) → j < 8 → s ≡ 8 * b + j → Place b s
  above : 8 * b + 8 ≤ s → Place b s

place : (b s : ℕ) → Place b s
place b s = elim (cases_lt s (8 * b)) [
  | inl lt ↦ below lt
  | inr ge ↦ elim (cases_lt s (8 * b + 8)) [
    | inl lt ↦ inside (s - 8 * b) (omega arith) (omega arith)
    | inr past ↦ above past
  ]
]

-- a sector of the block takes its bytes, or is as before
within_block : (header : ℕ) (page : List ℕ) (old c d : Content) → Within header page old c → IsMarked page → SameOutside header c d
    → ((j : ℕ) → j < 8 → (sector d (8 * header + j) ≡ sector c (8 * header + j))
    ⊎ TakesBytes (sector_bytes (taken_back page) j) (sector c (8 * header + j)) (sector d (8 * header + j)))
    → Within header page old d
within_block header page old c d w marked same takes = record {
  size = same.size ∙ w.size;
  each = λ s x lt in'. go s x (omega (arith, same.size)) in' (place header s);
} where
  go : (s : ℕ) (x : List ℕ) → s < length c → Contains (sector d s).candidates x → Place header s → IsLeft header page old s x
  go s x lt in' (below under) = w.each s x lt (subst (λ y. Contains y.candidates x) (same.below s under) in')
  go s x lt in' (above past) = w.each s x lt (subst (λ y. Contains y.candidates x) (same.above s past) in')
  go s x lt in' (inside j few is) = elim (takes j few) [
    | inl e ↦ w.each s x lt (subst (λ y. Contains y.candidates x) (ap (sector d) is ∙ e ∙ ap (sector c) (sym is)) in')
    | inr t ↦ elim (t.candidates x (subst (λ y. Contains (sector d y).candidates x) is in')) [
      | inl before ↦ w.each s x lt (subst (λ y. Contains (sector c y).candidates x) (sym is) before)
      | inr e ↦ inr (marked, (j, (few, is, e)))
    ]
  ]

of_one : (x y : List ℕ) → Contains (x ∷ []) y → y ≡ x
of_one x y (zero, lt, e) = sym e
of_one x y (suc k, lt, e) = absurd (omega arith)

settled_candidate : (u : DiskImage) (s : ℕ) (x : List ℕ) → s < length u → Contains (sector (settled u) s).candidates x → x ≡ get_or u s []
settled_candidate [] s x lt in' = absurd (omega arith)
settled_candidate (y ∷ u) zero x lt in' = of_one y x in'
settled_candidate (y ∷ u) (suc s) x lt in' = settled_candidate u s x (omega arith) in'

length-settled : (u : DiskImage) → length (settled u) ≡ length u
length-settled [] = refl
length-settled (y ∷ u) = ap suc (length-settled u)

within_synced : (header blocks : ℕ) (page : List ℕ) (old c d : Content) → IsContent blocks c → Within header page old c → Syncs c d → Within header page old d
within_synced header blocks page old c d is w synced =
    let reads = length-as_it_reads c in
    let live = IsImage-as_it_reads blocks c is in
    let size : length d ≡ length c = ap length synced ∙ length-settled (as_it_reads c) ∙ reads in
    record {
      size = size ∙ w.size;
      each = λ s x lt in'.
          let inside : s < length c = omega (arith, size) in
          let at : x ≡ get_or (as_it_reads c) s [] =
          settled_candidate (as_it_reads c) s x (omega (arith, size, reads)) (subst (λ (z : Content). Contains (sector z s).candidates x) synced in') in
          w.each s x inside (subst (λ (bytes : List ℕ). Contains (sector c s).candidates bytes) (sym at) (live.chosen s inside));
    }

crash_of_mixture : (header : ℕ) (old c d : Content) (v : DiskImage) → Within header (block (as_it_reads old) header) old c → Within header (block (as_it_reads old) header) old d → IsMixture c d v → IsCrash header old v
crash_of_mixture header old c d v w u mixed = record {
  size = mixed.size ∙ w.size;
  each = λ s lt. elim (mixed.each s lt) [
    | inl in' ↦ w.each s (get_or v s []) (omega (arith, mixed.size)) in'
    | inr in' ↦ u.each s (get_or v s []) (omega (arith, mixed.size, w.size, u.size)) in'
  ];
}

-- if the disk tells what it holds

abbrev pub AreWithin : ℕ → Option Content → Option Content → Type 0
AreWithin header old c = IfSome old (λ held. IfSome c (λ now. Within header (block (as_it_reads held) header) held now))

abbrev pub Crashes : ℕ → Option Content → (DiskImage → Type 0) → Type 0
Crashes header old left = (v : DiskImage) → left v → IfSome old (λ held. IsCrash header held v)

pub nothing_yet : (header : ℕ) (old c : Option Content) → c ≡ old → AreWithin header old c
nothing_yet header old c e = subst (λ (o : Option Content). AreWithin header old o) (sym e) (same old) where
  same : (o : Option Content) → AreWithin header o o
  same None = tt
  same (Some held) = within_same header (block (as_it_reads held) header) held

pub at_begin : (header : ℕ) (old : Option Content) (left : DiskImage → Type 0) → ((v : DiskImage) → left v → IfSome old (λ held. IsImage held v)) → Crashes header old left
at_begin header None left now = λ v l. tt
at_begin header (Some held) left now = λ v l.
    let image = now v l in
    record { size = image.size; each = λ s lt. inl (image.chosen s (omega (arith, image.size))) }

pub after_call : (header t m n : ℕ) (past since : ℕ → DiskImage → Type 0) (old c d : Option Content) → IsSome c → Changes (Elapses m n past since) c d → t ≤ m → AreWithin header old c → AreWithin header old d → Crashes header old (past t) → Crashes header old (since t)
after_call header t m n past since None c d some elapses le w u before = λ v left. tt
after_call header t m n past since (Some held) None d some elapses le w u before = λ v left. absurd (cc)
after_call header t m n past since (Some held) (Some x) None some elapses le w u before = λ v left. absurd elapses
after_call header t m n past since (Some held) (Some x) (Some y) some elapses le w u before = λ v left.
    elim (elapses.nothing_else t v le left) [ inl p ↦ before v p | inr mixed ↦ crash_of_mixture header held x y v w u mixed ]

pub time_goes_on : (m n : ℕ) (past since : ℕ → DiskImage → Type 0) (c d : Option Content) → IsSome c → Changes (Elapses m n past since) c d → m ≤ n
time_goes_on m n past since None d some elapses = absurd (cc)
time_goes_on m n past since (Some x) None some elapses = absurd elapses
time_goes_on m n past since (Some x) (Some y) some elapses = elapses.later

pub after_write : (header : ℕ) (page back : List ℕ) (old c d : Option Content) → back ≡ taken_back page → IsMarked page → IfSome old (λ held. page ≡ block (as_it_reads held) header) → AreWithin header old c → Changes (Writes header back) c d → AreWithin header old d
after_write header page back None c d is marked read w written = tt
after_write header page back (Some held) None None is marked read w written = tt
after_write header page back (Some held) None (Some y) is marked read w written = absurd written
after_write header page back (Some held) (Some x) None is marked read w written = tt
after_write header page back (Some held) (Some x) (Some y) is marked read w written =
    let over : Writes header (taken_back (block (as_it_reads held) header)) x y = subst (λ (p : List ℕ). Writes header p x y) (is ∙ ap taken_back read) written in
    within_block header (block (as_it_reads held) header) held x y w (subst IsMarked read marked) over.others (λ j few. inr (over.within j few))

pub after_failed_write : (header : ℕ) (page back : List ℕ) (old c d : Option Content) → back ≡ taken_back page → IsMarked page → IfSome old (λ held. page ≡ block (as_it_reads held) header) → AreWithin header old c → Changes (FailsToWrite header back) c d → AreWithin header old d
after_failed_write header page back None c d is marked read w tried = tt
after_failed_write header page back (Some held) None None is marked read w tried = tt
after_failed_write header page back (Some held) None (Some y) is marked read w tried = absurd tried
after_failed_write header page back (Some held) (Some x) None is marked read w tried = tt
after_failed_write header page back (Some held) (Some x) (Some y) is marked read w tried =
    let over : FailsToWrite header (taken_back (block (as_it_reads held) header)) x y = subst (λ (p : List ℕ). FailsToWrite header p x y) (is ∙ ap taken_back read) tried in
    within_block header (block (as_it_reads held) header) held x y w (subst IsMarked read marked) over.others over.within

pub after_sync : (header blocks : ℕ) (old c d : Option Content) → IfSome c (IsContent blocks) → AreWithin header old c → Changes Syncs c d → AreWithin header old d
after_sync header blocks None c d is w synced = tt
after_sync header blocks (Some held) None None is w synced = tt
after_sync header blocks (Some held) None (Some y) is w synced = absurd synced
after_sync header blocks (Some held) (Some x) None is w synced = tt
after_sync header blocks (Some held) (Some x) (Some y) is w synced = within_synced header blocks (block (as_it_reads held) header) held x y is w synced
