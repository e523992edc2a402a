-- Program headers of runs that are written one after another.
use Rattle.std.proofs.Common.{◌≡◌, ℕ, ◌+◌, ◌*◌, ◌<◌, List, [], ◌∷◌, ◌++◌, length, take, drop, get_or, Option, sym, ap, ◌∙◌, subst, arith, append-nil, append_assoc, add-zero}
use Rattle.std.proofs.lemmas.List.{take-append-drop, take_more}
use Rattle.std.proofs.lemmas.List.Sums.{sum_by-append, sum_by-cons}
use Rattle.definitions.specs.Streams.{TakesAll, TakesFront}
use Rattle.byte_streams.proofs.Taken.{TakesAll-both, TakesFront-first, TakesFront-second}
use Rattle.elf_core.specs.Elf.{load_bytes, loads_bytes}
use Rattle.dump_core.specs.Runs.{frames_in}

loads_bytes-append : (start : ℕ) (xs ys : List (ℕ × ℕ)) → loads_bytes start (xs ++ ys) ≡ loads_bytes start xs ++ loads_bytes (start + 4096 * frames_in xs) ys
loads_bytes-append start [] ys = ap (λ (k : ℕ). loads_bytes k ys) (sym (add-zero start))
loads_bytes-append start (run ∷ xs) ys =
    let on : start + 4096 * run.1 + 4096 * frames_in xs ≡ start + 4096 * frames_in (run ∷ xs) = omega (arith, sum_by-cons (λ (r : ℕ × ℕ). r.1) run xs) in
    ap (λ (bytes : List ℕ). load_bytes start run.0 run.1 ++ bytes) (loads_bytes-append (start + 4096 * run.1) xs ys)
    ∙ ap (λ (k : ℕ). load_bytes start run.0 run.1 ++ (loads_bytes (start + 4096 * run.1) xs ++ loads_bytes k ys)) on
    ∙ sym (append_assoc (load_bytes start run.0 run.1) (loads_bytes (start + 4096 * run.1) xs) (loads_bytes (start + 4096 * frames_in (run ∷ xs)) ys))

loads_bytes-one : (start : ℕ) (runs : List (ℕ × ℕ)) (run : ℕ × ℕ) → loads_bytes start (runs ++ run ∷ []) ≡ loads_bytes start runs ++ load_bytes (start + 4096 * frames_in runs) run.0 run.1
loads_bytes-one start runs run =
    loads_bytes-append start runs (run ∷ [])
    ∙ ap (λ (bytes : List ℕ). loads_bytes start runs ++ bytes) (append-nil (load_bytes (start + 4096 * frames_in runs) run.0 run.1))

-- how many page frames one run more has
pub frames_in_more : (runs : List (ℕ × ℕ)) (i : ℕ) → i < length runs → frames_in (take (i + 1) runs) ≡ frames_in (take i runs) + (get_or runs i (0, 0)).1
frames_in_more runs i lt =
    let run = get_or runs i (0, 0) in
    omega (arith, ap frames_in (take_more runs i (0, 0) lt), sum_by-append (λ (r : ℕ × ℕ). r.1) (take i runs) (run ∷ []), sum_by-cons (λ (r : ℕ × ℕ). r.1) run [])

loads_more : (start : ℕ) (runs : List (ℕ × ℕ)) (i offset : ℕ) → i < length runs → offset ≡ start + 4096 * frames_in (take i runs) → loads_bytes start (take (i + 1) runs) ≡ loads_bytes start (take i runs) ++ load_bytes offset (get_or runs i (0, 0)).0 (get_or runs i (0, 0)).1
loads_more start runs i offset lt at =
    let run = get_or runs i (0, 0) in
    ap (loads_bytes start) (take_more runs i (0, 0) lt) ∙ loads_bytes-one start (take i runs) run
    ∙ ap (λ (k : ℕ). loads_bytes start (take i runs) ++ load_bytes k run.0 run.1) (sym at)

-- The headers so far are taken, and then the next header, or a prefix of it.

pub all_loads_more : (start : ℕ) (runs : List (ℕ × ℕ)) (i offset : ℕ) (old mid new : Option (List ℕ)) → i < length runs → offset ≡ start + 4096 * frames_in (take i runs) → TakesAll (loads_bytes start (take i runs)) old mid
    → TakesAll (load_bytes offset (get_or runs i (0, 0)).0 (get_or runs i (0, 0)).1) mid new → TakesAll (loads_bytes start (take (i + 1) runs)) old new
all_loads_more start runs i offset old mid new lt at so_far more =
    let run = get_or runs i (0, 0) in
    subst (λ (text : List ℕ). TakesAll text old new) (sym (loads_more start runs i offset lt at))
    (TakesAll-both (loads_bytes start (take i runs)) (load_bytes offset run.0 run.1) old mid new so_far more)

pub front_of_loads : (start : ℕ) (runs : List (ℕ × ℕ)) (i offset : ℕ) (old mid new : Option (List ℕ)) → i < length runs → offset ≡ start + 4096 * frames_in (take i runs) → TakesAll (loads_bytes start (take i runs)) old mid
    → TakesFront (load_bytes offset (get_or runs i (0, 0)).0 (get_or runs i (0, 0)).1) mid new → TakesFront (loads_bytes start runs) old new
front_of_loads start runs i offset old mid new lt at so_far front =
    let run = get_or runs i (0, 0) in
    let then = start + 4096 * frames_in (take (i + 1) runs) in
    let rest = loads_bytes then (drop (i + 1) runs) in
    let all : loads_bytes start (take (i + 1) runs) ++ rest ≡ loads_bytes start runs =
    sym (loads_bytes-append start (take (i + 1) runs) (drop (i + 1) runs)) ∙ ap (loads_bytes start) (take-append-drop (i + 1) runs) in
    let first : TakesFront (loads_bytes start (take (i + 1) runs)) old new =
    subst (λ (text : List ℕ). TakesFront text old new) (sym (loads_more start runs i offset lt at))
    (TakesFront-second (loads_bytes start (take i runs)) (load_bytes offset run.0 run.1) old mid new so_far front) in
    subst (λ (text : List ℕ). TakesFront text old new) all (TakesFront-first (loads_bytes start (take (i + 1) runs)) rest old new first)
