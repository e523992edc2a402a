-- Laws of memory as a list of pages.
use Rattle.std.proofs.Common.{◌≡◌, ℕ, ◌+◌, ◌-◌, ◌<◌, ◌≤◌, suc, List, [], ◌∷◌, ◌++◌, length, take, drop, set, sym, ap, ◌∙◌, arith, refl, append_assoc, append-nil, add-zero, add-one, length-append, length-drop}
use Rattle.std.proofs.lemmas.List.{take-append-drop, length-take-le, get_or-take, get_or-drop, get_or_append_left, get_or-append_right, take_more, drop_more, set_at}
use Rattle.definitions.specs.Tables.{frame}
use Rattle.definitions.specs.FrameRuns.{run_at, with_run}

pub length-with_run : (frames : List (List ℕ)) (p : ℕ) (pages : List (List ℕ)) → p + length pages ≤ length frames → length (with_run frames p pages) ≡ length frames
unfolding with_run
length-with_run frames p pages h =
    omega (arith, length-append (take p frames ++ pages) (drop (p + length pages) frames), length-append (take p frames) pages, length-take-le p frames (omega arith), length-drop (p + length pages) frames)

-- The frames below, within and above the run.

pub frame-with_run_below : (frames : List (List ℕ)) (p : ℕ) (pages : List (List ℕ)) (q : ℕ) → p + length pages ≤ length frames → q < p → frame (with_run frames p pages) q ≡ frame frames q
unfolding with_run
frame-with_run_below frames p pages q h lt =
    let front = length-take-le p frames (omega arith) in
    get_or_append_left (take p frames ++ pages) (drop (p + length pages) frames) [] q (omega (arith, length-append (take p frames) pages))
    ∙ get_or_append_left (take p frames) pages [] q (omega arith) ∙ get_or-take p frames q [] lt

pub frame-with_run_within : (frames : List (List ℕ)) (p : ℕ) (pages : List (List ℕ)) (i : ℕ) → p + length pages ≤ length frames → i < length pages → frame (with_run frames p pages) (p + i) ≡ frame pages i
unfolding with_run
frame-with_run_within frames p pages i h lt =
    let front = length-take-le p frames (omega arith) in
    let at : p + i - p ≡ i = omega arith in
    get_or_append_left (take p frames ++ pages) (drop (p + length pages) frames) [] (p + i) (omega (arith, length-append (take p frames) pages))
    ∙ get_or-append_right (take p frames) pages p (p + i) [] front (omega arith) ∙ ap (frame pages) at

pub frame-with_run_above : (frames : List (List ℕ)) (p : ℕ) (pages : List (List ℕ)) (q : ℕ) → p + length pages ≤ length frames → p + length pages ≤ q → frame (with_run frames p pages) q ≡ frame frames q
unfolding with_run
frame-with_run_above frames p pages q h le =
    let front = length-take-le p frames (omega arith) in
    let all : length (take p frames ++ pages) ≡ p + length pages = omega (arith, length-append (take p frames) pages) in
    let at : p + length pages + (q - (p + length pages)) ≡ q = omega arith in
    get_or-append_right (take p frames ++ pages) (drop (p + length pages) frames) (p + length pages) q [] all le
    ∙ get_or-drop (p + length pages) frames (q - (p + length pages)) [] ∙ ap (frame frames) at

-- A run is written page by page, upwards or downwards.

pub with_run_none : (frames : List (List ℕ)) (p : ℕ) → with_run frames p [] ≡ frames
unfolding with_run
with_run_none frames p = rw (append-nil, add-zero, take-append-drop) refl

pub with_run_push : (frames : List (List ℕ)) (p : ℕ) (pages : List (List ℕ)) (page : List ℕ) → p + length pages < length frames → set (with_run frames p pages) (p + length pages) page ≡ with_run frames p (pages ++ page ∷ [])
unfolding with_run
with_run_push frames p pages page h =
    let n = p + length pages in
    let front = take p frames ++ pages in
    let size : length front ≡ n = omega (arith, length-append (take p frames) pages, length-take-le p frames (omega arith)) in
    let one_more : n + 1 ≡ p + length (pages ++ page ∷ []) = omega (arith, length-append pages (page ∷ [])) in
    ap (λ (rest : List (List ℕ)). set (front ++ rest) n page) (drop_more frames n [] h)
    ∙ set_at front (frame frames n) (drop (n + 1) frames) page n size
    ∙ sym (append_assoc front (page ∷ []) (drop (n + 1) frames))
    ∙ ap (λ (xs : List (List ℕ)). xs ++ drop (n + 1) frames) (append_assoc (take p frames) pages (page ∷ []))
    ∙ ap (λ (m : ℕ). take p frames ++ (pages ++ page ∷ []) ++ drop m frames) one_more

pub with_run_cons : (frames : List (List ℕ)) (p : ℕ) (pages : List (List ℕ)) (page : List ℕ) → p + 1 + length pages ≤ length frames → set (with_run frames (p + 1) pages) p page ≡ with_run frames p (page ∷ pages)
unfolding with_run
with_run_cons frames p pages page h =
    let rest = drop (p + 1 + length pages) frames in
    let same : p + 1 + length pages ≡ p + suc (length pages) = omega arith in
    let old = frame frames p in
    ap (λ (xs : List (List ℕ)). set (xs ++ pages ++ rest) p page) (take_more frames p [] (omega arith))
    ∙ ap (λ (xs : List (List ℕ)). set xs p page) (append_assoc (take p frames ++ old ∷ []) pages rest ∙ append_assoc (take p frames) (old ∷ []) (pages ++ rest))
    ∙ set_at (take p frames) old (pages ++ rest) page p (length-take-le p frames (omega arith))
    ∙ sym (append_assoc (take p frames) (page ∷ pages) rest)
    ∙ ap (λ (m : ℕ). take p frames ++ (page ∷ pages) ++ drop m frames) same

-- one page more of a copy that goes upwards, to frames below the source
pub with_run-copies_up : (frames : List (List ℕ)) (from to i : ℕ) → from + i < length frames → to < from → set (with_run frames to (run_at i frames from)) (to + i) (frame (with_run frames to (run_at i frames from)) (from + i)) ≡ with_run frames to (run_at (i + 1) frames from)
with_run-copies_up frames from to i h down =
    let pages = run_at i frames from in
    let size : length pages ≡ i = length-take-le i (drop from frames) (omega (arith, length-drop from frames)) in
    let one_more : run_at (i + 1) frames from ≡ pages ++ frame frames (from + i) ∷ [] =
    take_more (drop from frames) i [] (omega (arith, length-drop from frames)) ∙ ap (λ (page : List ℕ). pages ++ page ∷ []) (get_or-drop from frames i []) in
    ap (set (with_run frames to pages) (to + i)) (frame-with_run_above frames to pages (from + i) (omega arith) (omega arith))
    ∙ ap (λ (n : ℕ). set (with_run frames to pages) (to + n) (frame frames (from + i))) (sym size)
    ∙ with_run_push frames to pages (frame frames (from + i)) (omega arith)
    ∙ ap (with_run frames to) (sym one_more)

-- one page more of a copy that goes downwards, to frames at or above the source
pub with_run-copies_down : (frames : List (List ℕ)) (from to i m : ℕ) → to + i + 1 + m ≤ length frames → from ≤ to → set (with_run frames (to + i + 1) (run_at m frames (from + i + 1))) (to + i) (frame (with_run frames (to + i + 1) (run_at m frames (from + i + 1))) (from + i)) ≡ with_run frames (to + i) (run_at (m + 1) frames (from + i))
with_run-copies_down frames from to i m h up =
    let pages = run_at m frames (from + i + 1) in
    let size : length pages ≡ m = length-take-le m (drop (from + i + 1) frames) (omega (arith, length-drop (from + i + 1) frames)) in
    let one_more : run_at (m + 1) frames (from + i) ≡ frame frames (from + i) ∷ pages =
    ap (take (m + 1)) (drop_more frames (from + i) [] (omega arith))
    ∙ ap (λ (n : ℕ). take n (frame frames (from + i) ∷ drop (from + i + 1) frames)) (add-one m) in
    ap (set (with_run frames (to + i + 1) pages) (to + i)) (frame-with_run_below frames (to + i + 1) pages (from + i) (omega arith) (omega arith))
    ∙ with_run_cons frames (to + i) pages (frame frames (from + i)) (omega arith)
    ∙ ap (with_run frames (to + i)) (sym one_more)
