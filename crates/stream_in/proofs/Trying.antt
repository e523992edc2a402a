-- Moments of a disk over the calls that mark an image.
use Rattle.std.proofs.Common.{◌≡◌, ◌⊎◌, ℕ, ◌+◌, ◌*◌, ◌<◌, ◌≤◌, List, [], Contains, length, get_or, Option, Some, None, IfSome, IsSome, sym, ap, ◌∙◌, subst, inl, inr, ⊎_elim, arith}
use Rattle.std.proofs.lemmas.Bool.{cases_lt, cases_eq}
use Rattle.std.proofs.lemmas.List.{ext_get_or, get_or_past}
use Rattle.definitions.specs.Bytes.{IsPage}
use Rattle.definitions.specs.Disk.{Content, DiskImage, Sector, IsContent, IsImage, IsMixture, Changes, Elapses, Syncs, Writes, FailsToWrite, TakesBytes, as_it_reads, block, settled, sector, sector_bytes}
use Rattle.definitions.specs.SwapHeader.{marked, taken_back}
use Rattle.definitions.proofs.DiskLaws.{IsImage-as_it_reads, IsImage-after_sync, length-as_it_reads, length-settled, block-same}
use Rattle.definitions.proofs.Marks.{length-marked}
use Rattle.image_format.specs.AreaKind.{area_kind}
use Rattle.plain_machine.specs.UsableArea.{kind_fault}
use Rattle.image_laws.proofs.ImageBlocks.{earlier_or_written, same_sector, marked_within, taken_back_within, length-taken_back, sector_of_block, block_of_sectors, long}
use Rattle.protocol_laws.proofs.Marking.{length-block}
use Rattle.stream_in.specs.Moments.{AddsNoImage, TriesMark, ElapsesAlike, IsSectorOver, LiesOver, ReadsOver, ElapsesTrying, IsTried, ElapsesOverMark}
use Rattle.stream_in.proofs.Moments.{CountsNow, settled_candidate}

-- The disk's images over the calls.

-- a disk that reads as u alone
pub lies_settled : (page : List ℕ) (u : DiskImage) → LiesOver page u (settled u)
lies_settled page u = record { size = length-settled u; each = λ s x lt in'. inl (settled_candidate u s x lt in') }

-- which of the two pages is written
abbrev pub IsEither : List ℕ → List ℕ → Type 0
IsEither page other = (other ≡ page) ⊎ (other ≡ taken_back page)

over_part : (page other : List ℕ) (u : DiskImage) (s : ℕ) (x : List ℕ) → IsEither page other → s < 8 → x ≡ sector_bytes other s → IsSectorOver page u s x
over_part page other u s x (inl e) lt is = inr (lt, inl (is ∙ ap (λ p. sector_bytes p s) e))
over_part page other u s x (inr e) lt is = inr (lt, inr (is ∙ ap (λ p. sector_bytes p s) e))

lies_failed : (page other : List ℕ) (u : DiskImage) (x y : Content) → IsEither page other → LiesOver page u x → FailsToWrite 0 other x y → LiesOver page u y
lies_failed page other u x y which lies fails =
    let same = fails.others.size in
    record {
      size = same ∙ lies.size;
      each = λ s bytes lt in'. elim (cases_lt s 8) [
        | inl few ↦ ⊎_elim (λ (old : Contains (sector x s).candidates bytes). lies.each s bytes lt old) (λ (new : bytes ≡ sector_bytes other s). over_part page other u s bytes which few new)
            (earlier_or_written (sector x s) (sector y s) (sector_bytes other s) bytes (here other x y s fails few) in')
        | inr behind ↦ lies.each s bytes lt (subst (λ (z : Sector). Contains z.candidates bytes) (fails.others.above s (omega arith)) in')
      ];
    }
  where
    here : (other : List ℕ) (x y : Content) (s : ℕ) → FailsToWrite 0 other x y → s < 8 → (sector y s ≡ sector x s) ⊎ TakesBytes (sector_bytes other s) (sector x s) (sector y s)
    here other x y s fails few =
        let at : 8 * 0 + s ≡ s = omega arith in
        subst (λ (k : ℕ). (sector y k ≡ sector x k) ⊎ TakesBytes (sector_bytes other s) (sector x k) (sector y k)) at (fails.within s few)

written_fails : (b : ℕ) (page : List ℕ) (x y : Content) → Writes b page x y → FailsToWrite b page x y
written_fails b page x y writes = record { others = writes.others; within = λ j few. inr (writes.within j few) }

lies_synced : (blocks : ℕ) (page : List ℕ) (u : DiskImage) (x y : Content) → IsContent blocks x → LiesOver page u x → Syncs x y → LiesOver page u y
lies_synced blocks page u x y is lies synced =
    let reads = length-as_it_reads x in
    let size = lies.size in
    let live = IsImage-as_it_reads blocks x is in
    record {
      size = ap length synced ∙ length-settled (as_it_reads x) ∙ reads ∙ size;
      each = λ s bytes lt in'.
          let is_live = settled_candidate (as_it_reads x) s bytes (omega arith) (subst (λ (z : Content). Contains (sector z s).candidates bytes) synced in') in
          lies.each s bytes lt (subst (λ (z : List ℕ). Contains (sector x s).candidates z) (sym is_live) (live.chosen s (omega arith)));
    }

pub told_lies_written : (page other : List ℕ) (u : DiskImage) (a b : Option Content) → IsEither page other → IfSome a (LiesOver page u) → Changes (Writes 0 other) a b → IfSome b (LiesOver page u)
told_lies_written page other u None None which lies wrote = tt
told_lies_written page other u None (Some y) which lies wrote = absurd wrote
told_lies_written page other u (Some x) None which lies wrote = tt
told_lies_written page other u (Some x) (Some y) which lies wrote = lies_failed page other u x y which lies (written_fails 0 other x y wrote)

pub told_lies_failed : (page other : List ℕ) (u : DiskImage) (a b : Option Content) → IsEither page other → IfSome a (LiesOver page u) → Changes (FailsToWrite 0 other) a b → IfSome b (LiesOver page u)
told_lies_failed page other u None None which lies fails = tt
told_lies_failed page other u None (Some y) which lies fails = absurd fails
told_lies_failed page other u (Some x) None which lies fails = tt
told_lies_failed page other u (Some x) (Some y) which lies fails = lies_failed page other u x y which lies fails

pub told_lies_synced : (blocks : ℕ) (page : List ℕ) (u : DiskImage) (a b : Option Content) → IfSome a (IsContent blocks) → IfSome a (LiesOver page u) → Changes Syncs a b → IfSome b (LiesOver page u)
told_lies_synced blocks page u None None is lies synced = tt
told_lies_synced blocks page u None (Some y) is lies synced = absurd synced
told_lies_synced blocks page u (Some x) None is lies synced = tt
told_lies_synced blocks page u (Some x) (Some y) is lies synced = lies_synced blocks page u x y is lies synced

pub told_lies_same : (page : List ℕ) (u : DiskImage) (a b : Option Content) → b ≡ a → IfSome a (LiesOver page u) → IfSome b (LiesOver page u)
told_lies_same page u a b same lies = subst (λ (o : Option Content). IfSome o (LiesOver page u)) (sym same) lies

-- Time goes on over the calls.

mixture_over : (page : List ℕ) (u : DiskImage) (x y : Content) (v : DiskImage) → LiesOver page u x → LiesOver page u y → IsMixture x y v → ReadsOver page u v
mixture_over page u x y v old new mixed =
    let size = mixed.size in
    let same = old.size in
    record {
      size = size ∙ same;
      each = λ s lt. ⊎_elim (λ (c : Contains (sector x s).candidates (get_or v s [])). old.each s (get_or v s []) lt c) (λ (c : Contains (sector y s).candidates (get_or v s [])). new.each s (get_or v s []) lt c) (mixed.each s (omega arith));
    }

trying_one : (page : List ℕ) (u : DiskImage) (m n : ℕ) (past since : ℕ → DiskImage → Type 0) (x y : Content) → Elapses m n past since x y → LiesOver page u x → LiesOver page u y → ElapsesTrying page u m n past since
trying_one page u m n past since x y elapses old new = record {
  later = elapses.later;
  keeps = elapses.keeps;
  nothing_else = λ t v le left. ⊎_elim (λ (p : past t v). inl p) (λ (mixed : IsMixture x y v). inr (mixture_over page u x y v old new mixed)) (elapses.nothing_else t v le left);
}

pub trying_call : (page : List ℕ) (u : DiskImage) (m n : ℕ) (past since : ℕ → DiskImage → Type 0) (a b : Option Content) → IsSome a → Changes (Elapses m n past since) a b → IfSome a (LiesOver page u) → IfSome b (LiesOver page u) → ElapsesTrying page u m n past since
trying_call page u m n past since None b told elapses old new = absurd (cc)
trying_call page u m n past since (Some x) None told elapses old new = absurd elapses
trying_call page u m n past since (Some x) (Some y) told elapses old new = trying_one page u m n past since x y elapses old new

pub trying_then : (page : List ℕ) (u : DiskImage) (m n o : ℕ) (p q r : ℕ → DiskImage → Type 0) → ElapsesTrying page u m n p q → ElapsesTrying page u n o q r → ElapsesTrying page u m o p r
trying_then page u m n o p q r first second =
    let le = first.later in
    let le' = second.later in
    record {
      later = omega arith;
      keeps = λ t v before left. second.keeps t v (omega arith) (first.keeps t v before left);
      nothing_else = λ t v before left. ⊎_elim (λ (mid : q t v). first.nothing_else t v before mid) (λ (over : ReadsOver page u v). inr over) (second.nothing_else t v (omega arith) left);
    }

pub alike_trying : (page : List ℕ) (u : DiskImage) (m n o : ℕ) (p q r : ℕ → DiskImage → Type 0) → ElapsesAlike m n p q → ElapsesTrying page u n o q r → ElapsesTrying page u m o p r
alike_trying page u m n o p q r first second =
    let le = first.later in
    let le' = second.later in
    record {
      later = omega arith;
      keeps = λ t v before left. second.keeps t v (omega arith) (first.keeps t v before left);
      nothing_else = λ t v before left. ⊎_elim (λ (mid : q t v). inl (first.nothing_else t v before mid)) (λ (over : ReadsOver page u v). inr over) (second.nothing_else t v (omega arith) left);
    }

-- The header block, whole.

-- a page that differs from the header within its last sector alone
record IsLikeHeader (u : DiskImage) (page : List ℕ) : Type 0 where
  pub whole : IsPage page
  pub same : (j : ℕ) → j < 7 → sector_bytes page j ≡ get_or u j []

-- the last sector is the page's
header_with : (page q : List ℕ) (u v : DiskImage) → IsLikeHeader u q → 8 ≤ length v → ((j : ℕ) → j < 7 → get_or v j [] ≡ get_or u j []) → get_or v 7 [] ≡ sector_bytes q 7 → block v 0 ≡ q
header_with page q u v like within front last =
    block_of_sectors v 0 q like.whole (omega arith) (λ j few. elim (cases_eq j 7) [
      | inl here ↦
          let at : 8 * 0 + j ≡ 7 = omega arith in
          ap (λ k. get_or v k []) at ∙ last ∙ ap (sector_bytes q) (sym here)
      | inr apart ↦
          let at : 8 * 0 + j ≡ j = omega arith in
          ap (λ k. get_or v k []) at ∙ front j (omega arith) ∙ sym (like.same j (omega arith))
    ])

front_same : (page : List ℕ) (u v : DiskImage) → IsLikeHeader u page → IsLikeHeader u (taken_back page) → ReadsOver page u v → 8 ≤ length u → (j : ℕ) → j < 7 → get_or v j [] ≡ get_or u j []
front_same page u v like back over within j few = elim (over.each j (omega arith)) [
  | inl same ↦ same
  | inr (lt, which) ↦ ⊎_elim (λ (e : get_or v j [] ≡ sector_bytes page j). e ∙ like.same j few) (λ (e : get_or v j [] ≡ sector_bytes (taken_back page) j). e ∙ back.same j few) which
]

behind_same : (page : List ℕ) (u v : DiskImage) → ReadsOver page u v → (s : ℕ) → 8 ≤ s → s < length u → get_or v s [] ≡ get_or u s []
behind_same page u v over s le lt = ⊎_elim (λ (same : get_or v s [] ≡ get_or u s []). same)
    (λ (w : (s < 8) × ((get_or v s [] ≡ sector_bytes page s) ⊎ (get_or v s [] ≡ sector_bytes (taken_back page) s))). absurd (let few = w.0 in omega arith)) (over.each s lt)

all_same : (page : List ℕ) (u v : DiskImage) → IsLikeHeader u page → IsLikeHeader u (taken_back page) → ReadsOver page u v → 8 ≤ length u → get_or v 7 [] ≡ get_or u 7 [] → v ≡ u
all_same page u v like back over within last =
    let size = over.size in
    ext_get_or [] v u over.size (λ s lt. elim (cases_lt s 7) [
      | inl few ↦ front_same page u v like back over within s few
      | inr ge ↦ elim (cases_eq s 7) [
        | inl here ↦ subst (λ (k : ℕ). get_or v k [] ≡ get_or u k []) (sym here) last
        | inr apart ↦ behind_same page u v over s (omega arith) (omega arith)
      ]
    ])

others_same : (page : List ℕ) (u v : DiskImage) → ReadsOver page u v → (b : ℕ) → 0 < b → block v b ≡ block u b
others_same page u v over b some =
    let size = over.size in
    block-same v u b over.size (λ j few. elim (cases_lt (8 * b + j) (length u)) [
      | inl lt ↦ behind_same page u v over (8 * b + j) (omega arith) lt
      | inr ge ↦ get_or_past v (8 * b + j) [] (omega arith) ∙ sym (get_or_past u (8 * b + j) [] ge)
    ])

-- the marked header, and it taken back
like_marked : (blocks first : ℕ) (x : Content) → IsContent blocks x → 0 < blocks → IsLikeHeader (as_it_reads x) (marked (block (as_it_reads x) 0) first 2 0)
like_marked blocks first x is some =
    let u = as_it_reads x in
    let reads = IsImage-as_it_reads blocks x is in
    let size = is.size in
    let length-u = length-as_it_reads x in
    let whole = length-block blocks x u 0 is reads some in
    record {
      whole = length-marked (block u 0) first 2 0 whole;
      same = λ j few.
          let at : 8 * 0 + j ≡ j = omega arith in
          sym (same_sector (block u 0) (marked (block u 0) first 2 0) 7 j (marked_within (block u 0) first 2 0 whole) (λ e. omega arith))
          ∙ sector_of_block u 0 j (omega arith) (λ i below. long blocks x u (8 * 0 + i) is reads (omega arith)) (omega arith) ∙ ap (λ k. get_or u k []) at;
    }

like_back : (u : DiskImage) (page : List ℕ) → IsLikeHeader u page → IsLikeHeader u (taken_back page)
like_back u page like = record {
  whole = length-taken_back page like.whole;
  same = λ j few. sym (same_sector page (taken_back page) 7 j (taken_back_within page like.whole) (λ e. omega arith)) ∙ like.same j few;
}

tried : (blocks first : ℕ) (x : Content) (v : DiskImage) → IsContent blocks x → 0 < blocks → kind_fault (area_kind (block (as_it_reads x) 0)) ≡ None → ReadsOver (marked (block (as_it_reads x) 0) first 2 0) (as_it_reads x) v →
    (v ≡ as_it_reads x) ⊎ IsTried (marked (block (as_it_reads x) 0) first 2 0) (as_it_reads x) v
tried blocks first x v is some area over =
    let u = as_it_reads x in
    let page = marked (block u 0) first 2 0 in
    let size = is.size in
    let length-u = length-as_it_reads x in
    let length-v = over.size in
    let like = like_marked blocks first x is some in
    let back = like_back u page like in
    let front = front_same page u v like back over (omega arith) in
    elim (over.each 7 (omega arith)) [
      | inl same ↦ inl (all_same page u v like back over (omega arith) same)
      | inr (lt, which) ↦ inr (record {
        area = area;
        size = over.size;
        others = others_same page u v over;
        header = ⊎_elim (λ (e : get_or v 7 [] ≡ sector_bytes page 7). inl (header_with page page u v like (omega arith) front e))
            (λ (e : get_or v 7 [] ≡ sector_bytes (taken_back page) 7). inr (header_with page (taken_back page) u v back (omega arith) front e)) which;
      })
    ]

over_mark : (blocks first m n : ℕ) (past since : ℕ → DiskImage → Type 0) (x : Content) → IsContent blocks x → 0 < blocks → kind_fault (area_kind (block (as_it_reads x) 0)) ≡ None → ElapsesTrying (marked (block (as_it_reads x) 0) first 2 0) (as_it_reads x) m n past since →
    ((t : ℕ) (v : DiskImage) → t ≤ m → IsImage x v → past t v) → ElapsesOverMark first m n past since x
over_mark blocks first m n past since x is some area elapses counts =
    let u = as_it_reads x in
    let page = marked (block u 0) first 2 0 in
    record {
      later = elapses.later;
      keeps = elapses.keeps;
      nothing_else = λ t v le left. ⊎_elim (λ (p : past t v). inl p)
          (λ (over : ReadsOver page u v). ⊎_elim (λ (same : v ≡ u). inl (subst (past t) (sym same) (counts t u le (IsImage-as_it_reads blocks x is)))) (λ (is_tried : IsTried page u v). inr is_tried) (tried blocks first x v is some area over))
          (elapses.nothing_else t v le left);
    }

-- A marking, if the content is told.

pub told_marking : (blocks first : ℕ) (page over : List ℕ) (m n o : ℕ) (p q r : ℕ → DiskImage → Type 0) (a b : Option Content) → IfSome a (IsContent blocks) → 0 < blocks → kind_fault (area_kind page) ≡ None → over ≡ marked page first 2 0 →
    IfSome a (λ held. page ≡ block (as_it_reads held) 0) → Changes Syncs a b → ElapsesAlike m n p q → ((u : DiskImage) → IfSome b (LiesOver over u) → ElapsesTrying over u n o q r) → CountsNow m p a → IfSome a (λ held. ElapsesOverMark first m o p r held)
told_marking blocks first page over m n o p q r None b is some area e read synced alike trying counts = tt
told_marking blocks first page over m n o p q r (Some x) None is some area e read synced alike trying counts = absurd synced
told_marking blocks first page over m n o p q r (Some x) (Some y) is some area e read synced alike trying counts =
    let u = as_it_reads x in
    let lies : LiesOver over u y = subst (LiesOver over u) (sym synced) (lies_settled over u) in
    let header : over ≡ marked (block u 0) first 2 0 = e ∙ ap (λ k. marked k first 2 0) read in
    let all = subst (λ (k : List ℕ). ElapsesTrying k u m o p r) header (alike_trying over u m n o p q r alike (trying u lies)) in
    over_mark blocks first m o p r x is some (ap (λ k. kind_fault (area_kind k)) (sym read) ∙ area) all counts

alike_mark : (first m n : ℕ) (p q : ℕ → DiskImage → Type 0) (x : Content) → ElapsesAlike m n p q → ElapsesOverMark first m n p q x
alike_mark first m n p q x alike = record { later = alike.later; keeps = alike.keeps; nothing_else = λ t v le left. inl (alike.nothing_else t v le left) }

pub told_alike_mark : (first m n : ℕ) (p q : ℕ → DiskImage → Type 0) (a : Option Content) → ElapsesAlike m n p q → IfSome a (λ held. ElapsesOverMark first m n p q held)
told_alike_mark first m n p q None alike = tt
told_alike_mark first m n p q (Some x) alike = alike_mark first m n p q x alike

-- The images of the disk, whether or not it tells moments.

pub told_adds_same : (a b : Option Content) → b ≡ a → Changes AddsNoImage a b
told_adds_same a b e = subst (λ (o : Option Content). Changes AddsNoImage a o) (sym e) (still a) where
  still : (o : Option Content) → Changes AddsNoImage o o
  still None = tt
  still (Some x) = λ v is. is

adds_synced : (blocks : ℕ) (x y : Content) → IsContent blocks x → Syncs x y → AddsNoImage x y
adds_synced blocks x y is synced v in' = subst (IsImage x) (sym (IsImage-after_sync x y v synced in')) (IsImage-as_it_reads blocks x is)

pub told_adds_synced : (blocks : ℕ) (a b : Option Content) → IfSome a (IsContent blocks) → Changes Syncs a b → Changes AddsNoImage a b
told_adds_synced blocks None None is synced = tt
told_adds_synced blocks None (Some y) is synced = absurd synced
told_adds_synced blocks (Some x) None is synced = absurd synced
told_adds_synced blocks (Some x) (Some y) is synced = adds_synced blocks x y is synced

lies_image : (page : List ℕ) (u : DiskImage) (y : Content) (v : DiskImage) → LiesOver page u y → IsImage y v → ReadsOver page u v
lies_image page u y v lies is =
    let size = lies.size in
    record { size = is.size ∙ size; each = λ s lt. lies.each s (get_or v s []) lt (is.chosen s (omega arith)) }

tries : (blocks first : ℕ) (page over : List ℕ) (x z : Content) → IsContent blocks x → 0 < blocks → kind_fault (area_kind page) ≡ None → over ≡ marked page first 2 0 → page ≡ block (as_it_reads x) 0 → LiesOver over (as_it_reads x) z → TriesMark first x z
tries blocks first page over x z is some area e read lies v in' =
    let u = as_it_reads x in
    let header : over ≡ marked (block u 0) first 2 0 = e ∙ ap (λ k. marked k first 2 0) read in
    let reads = lies_image (marked (block u 0) first 2 0) u z v (subst (λ (k : List ℕ). LiesOver k u z) header lies) in' in
    ⊎_elim (λ (same : v ≡ u). inl (subst (IsImage x) (sym same) (IsImage-as_it_reads blocks x is))) (λ (is_tried : IsTried (marked (block u 0) first 2 0) u v). inr is_tried)
    (tried blocks first x v is some (ap (λ k. kind_fault (area_kind k)) (sym read) ∙ area) reads)

pub told_tries : (blocks first : ℕ) (page over : List ℕ) (a b c : Option Content) → IfSome a (IsContent blocks) → 0 < blocks → kind_fault (area_kind page) ≡ None → over ≡ marked page first 2 0 →
    IfSome a (λ held. page ≡ block (as_it_reads held) 0) → Changes Syncs a b → ((u : DiskImage) → IfSome b (LiesOver over u) → IfSome c (LiesOver over u)) → IfSome a (λ held. IfSome c (TriesMark first held))
told_tries blocks first page over None b c is some area e read synced lies = tt
told_tries blocks first page over (Some x) None c is some area e read synced lies = absurd synced
told_tries blocks first page over (Some x) (Some y) c is some area e read synced lies =
    let u = as_it_reads x in
    last blocks first page over x c is some area e read (lies u (subst (LiesOver over u) (sym synced) (lies_settled over u)))
  where
    last : (blocks first : ℕ) (page over : List ℕ) (x : Content) (c : Option Content) → IsContent blocks x → 0 < blocks → kind_fault (area_kind page) ≡ None → over ≡ marked page first 2 0 → page ≡ block (as_it_reads x) 0 → IfSome c (LiesOver over (as_it_reads x)) → IfSome c (TriesMark first x)
    last blocks first page over x None is some area e read lies = tt
    last blocks first page over x (Some z) is some area e read lies = tries blocks first page over x z is some area e read lies

pub told_tries_none : (first : ℕ) (a b : Option Content) → Changes AddsNoImage a b → IfSome a (λ held. IfSome b (TriesMark first held))
told_tries_none first None b adds = tt
told_tries_none first (Some x) None adds = tt
told_tries_none first (Some x) (Some y) adds = λ v is. inl (adds v is)
