-- Pages of page frames that are written one after another, run by run.
use Rattle.std.proofs.Common.{◌≡◌, ℕ, zero, suc, ◌+◌, ◌-◌, ◌<◌, List, [], ◌∷◌, ◌++◌, length, take, drop, Option, sym, ap, ◌∙◌, subst, arith, append-nil}
use Rattle.std.proofs.lemmas.List.{map-append, take-append-drop}
use Rattle.std.proofs.lemmas.List.Folds.{concat-append}
use Rattle.std.specs.List.{concat, range_with_len}
use Rattle.definitions.specs.Streams.{TakesAll, TakesFront}
use Rattle.definitions.specs.Tables.{frame}
use Rattle.definitions.specs.Zones.{numbers, zone_at}
use Rattle.definitions.proofs.ZoneNumbers.{numbers-append, numbers-take_more}
use Rattle.plain_machine.specs.Machine.{Memory}
use Rattle.byte_streams.proofs.Taken.{TakesAll-both, TakesFront-first, TakesFront-second}
use Rattle.dump_core.specs.Cores.{pages_of}

-- the bytes of the pages of page frames
abbrev pub page_bytes : Memory → List ℕ → List ℕ
page_bytes m frames = concat (pages_of m frames)

page_bytes-append : (m : Memory) (ps qs : List ℕ) → page_bytes m (ps ++ qs) ≡ page_bytes m ps ++ page_bytes m qs
page_bytes-append m ps qs = ap concat (map-append (frame m) ps qs) ∙ concat-append (pages_of m ps) (pages_of m qs)

range-append : (a n k : ℕ) → range_with_len a (n + k) ≡ range_with_len a n ++ range_with_len (a + n) k
range-append a zero k =
    let same : 0 + k ≡ k = omega arith in
    let from : a ≡ a + 0 = omega arith in
    ap (range_with_len a) same ∙ ap (λ x. range_with_len x k) from
range-append a (suc n) k =
    let more : suc n + k ≡ suc (n + k) = omega arith in
    let from : a + 1 + n ≡ a + suc n = omega arith in
    ap (range_with_len a) more ∙ ap (λ (t : List ℕ). a ∷ t) (range-append (a + 1) n k)
    ∙ ap (λ (x : ℕ). a ∷ (range_with_len (a + 1) n ++ range_with_len x k)) from

one_page_more : (m : Memory) (a i : ℕ) → page_bytes m (range_with_len a (i + 1)) ≡ page_bytes m (range_with_len a i) ++ frame m (a + i)
one_page_more m a i =
    ap (page_bytes m) (range-append a i 1) ∙ page_bytes-append m (range_with_len a i) ((a + i) ∷ [])
    ∙ ap (λ (bytes : List ℕ). page_bytes m (range_with_len a i) ++ bytes) (append-nil (frame m (a + i)))

-- One page more of a run is taken, or a prefix of the page.

pub all_pages_more : (m : Memory) (a i : ℕ) (page : List ℕ) (old mid new : Option (List ℕ)) → page ≡ frame m (a + i) → TakesAll (page_bytes m (range_with_len a i)) old mid → TakesAll page mid new → TakesAll (page_bytes m (range_with_len a (i + 1))) old new
all_pages_more m a i page old mid new e so_far more =
    subst (λ (text : List ℕ). TakesAll text old new) (sym (one_page_more m a i))
    (TakesAll-both (page_bytes m (range_with_len a i)) (frame m (a + i)) old mid new so_far (subst (λ (text : List ℕ). TakesAll text mid new) e more))

pub front_of_pages : (m : Memory) (a i n : ℕ) (page : List ℕ) (old mid new : Option (List ℕ)) → i < n → page ≡ frame m (a + i) → TakesAll (page_bytes m (range_with_len a i)) old mid → TakesFront page mid new → TakesFront (page_bytes m (range_with_len a n)) old new
front_of_pages m a i n page old mid new lt e so_far front =
    let rest = page_bytes m (range_with_len (a + (i + 1)) (n - (i + 1))) in
    let count : i + 1 + (n - (i + 1)) ≡ n = omega arith in
    let all : page_bytes m (range_with_len a (i + 1)) ++ rest ≡ page_bytes m (range_with_len a n) =
    sym (page_bytes-append m (range_with_len a (i + 1)) (range_with_len (a + (i + 1)) (n - (i + 1))))
    ∙ ap (page_bytes m) (sym (range-append a (i + 1) (n - (i + 1))))
    ∙ ap (λ (k : ℕ). page_bytes m (range_with_len a k)) count in
    let first : TakesFront (page_bytes m (range_with_len a (i + 1))) old new =
    subst (λ (text : List ℕ). TakesFront text old new) (sym (one_page_more m a i))
    (TakesFront-second (page_bytes m (range_with_len a i)) (frame m (a + i)) old mid new so_far (subst (λ (text : List ℕ). TakesFront text mid new) e front)) in
    subst (λ (text : List ℕ). TakesFront text old new) all (TakesFront-first (page_bytes m (range_with_len a (i + 1))) rest old new first)

-- One run more is taken, or a prefix of the run.

run_more : (m : Memory) (runs : List (ℕ × ℕ)) (j : ℕ) → j < length runs → page_bytes m (numbers (take (j + 1) runs)) ≡ page_bytes m (numbers (take j runs)) ++ page_bytes m (range_with_len (zone_at runs j).0 (zone_at runs j).1)
run_more m runs j lt =
    ap (page_bytes m) (numbers-take_more runs j lt)
    ∙ page_bytes-append m (numbers (take j runs)) (range_with_len (zone_at runs j).0 (zone_at runs j).1)

pub all_runs_more : (m : Memory) (runs : List (ℕ × ℕ)) (j : ℕ) (old mid new : Option (List ℕ)) → j < length runs → TakesAll (page_bytes m (numbers (take j runs))) old mid → TakesAll (page_bytes m (range_with_len (zone_at runs j).0 (zone_at runs j).1)) mid new → TakesAll (page_bytes m (numbers (take (j + 1) runs))) old new
all_runs_more m runs j old mid new lt so_far more =
    let run = zone_at runs j in
    subst (λ (text : List ℕ). TakesAll text old new) (sym (run_more m runs j lt))
    (TakesAll-both (page_bytes m (numbers (take j runs))) (page_bytes m (range_with_len run.0 run.1)) old mid new so_far more)

pub front_of_runs : (m : Memory) (runs : List (ℕ × ℕ)) (j : ℕ) (old mid new : Option (List ℕ)) → j < length runs → TakesAll (page_bytes m (numbers (take j runs))) old mid → TakesFront (page_bytes m (range_with_len (zone_at runs j).0 (zone_at runs j).1)) mid new → TakesFront (page_bytes m (numbers runs)) old new
front_of_runs m runs j old mid new lt so_far front =
    let run = zone_at runs j in
    let rest = page_bytes m (numbers (drop (j + 1) runs)) in
    let all : page_bytes m (numbers (take (j + 1) runs)) ++ rest ≡ page_bytes m (numbers runs) =
    sym (page_bytes-append m (numbers (take (j + 1) runs)) (numbers (drop (j + 1) runs)))
    ∙ ap (page_bytes m) (sym (numbers-append (take (j + 1) runs) (drop (j + 1) runs)))
    ∙ ap (λ (rs : List (ℕ × ℕ)). page_bytes m (numbers rs)) (take-append-drop (j + 1) runs) in
    let first : TakesFront (page_bytes m (numbers (take (j + 1) runs))) old new =
    subst (λ (text : List ℕ). TakesFront text old new) (sym (run_more m runs j lt))
    (TakesFront-second (page_bytes m (numbers (take j runs))) (page_bytes m (range_with_len run.0 run.1)) old mid new so_far front) in
    subst (λ (text : List ℕ). TakesFront text old new) all (TakesFront-first (page_bytes m (numbers (take (j + 1) runs))) rest old new first)
