-- Pages moved between page frames (struct pbe, the restore list of kernel/power/snapshot.c). A move is a pair (from,
-- to) of page frames; the sources are distinct, and so are the targets. A page frame may be both a source and a target.
use Rattle.std.specs.Prelude.{◌≡◌, ℕ, ◌+◌, ◌-◌, ◌==◌, ◌&&◌, ◌||◌, Bool, true, false, not, nat_lt, nat_le, List, [], ◌∷◌}
use Rattle.std.specs.Prelude.{◌++◌, length, map, filter, reverse, Option, Some, None, if◌then◌else◌, zero, suc}
use Rattle.std.specs.List.{list_any, find, range_with_len}
use Rattle.definitions.specs.Tables.{frame}

abbrev pub Move : Type 0
Move = ℕ × ℕ

-- the move into page frame p, if there is one
abbrev pub move_into : List Move → ℕ → Option Move
move_into moves p = find (λ m. m.1 == p) moves

abbrev pub page_from : List (List ℕ) → Option Move → List ℕ → List ℕ
page_from frames None page = page
page_from frames (Some m) page = frame frames m.0

-- Assign(F, moves): all moves made at once. Each target has the page that its source has in F; all other page frames
-- are as in F.
unfoldable pub assigned : List (List ℕ) → List Move → List (List ℕ)
assigned frames moves =
    map (λ p. page_from frames (move_into moves p) (frame frames p)) (range_with_len 0 (length frames))

-- [order of moves]: the order in which pending moves are emitted, so that making them one after another has the effect
-- of making them all at once.

-- whether page frame p is the source of a pending move
abbrev pub is_source : List Move → ℕ → Bool
is_source pending p = list_any (λ m. m.0 == p) pending

abbrev pub is_target : List Move → ℕ → Bool
is_target pending p = list_any (λ m. m.1 == p) pending

abbrev pub without_target : List Move → ℕ → List Move
without_target pending p = filter (λ m. not (m.1 == p)) pending

-- The state of a pass: the moves emitted, in order, and those still pending.
pub record Pass : Type 0 where
  pub emitted : List Move
  pub pending : List Move

-- emits the move into p, if its target isn't the source of a pending move
abbrev pub emit : Pass → Option Move → Pass
emit pass None = pass
emit pass (Some m) =
    if is_source pass.pending m.1 then pass
    else record { emitted = pass.emitted ++ m ∷ []; pending = without_target pass.pending m.1 }

-- tries the move into each of these targets, in this order
abbrev pub pass_over : List ℕ → Pass → Pass
pass_over [] pass = pass
pass_over (p ∷ ps) pass = pass_over ps (emit pass (move_into pass.pending p))

abbrev pub ascending : ℕ → List ℕ
ascending top = range_with_len 0 top

abbrev pub descending : ℕ → List ℕ
descending top = reverse (range_with_len 0 top)

-- A path: the move into p, then the pending move whose target is the source just freed, and so on.
abbrev pub path_from : ℕ → Option Move → Pass → Pass
path_from zero next pass = pass
path_from (suc n) None pass = pass
path_from (suc n) (Some m) pass =
    let rest = without_target pass.pending m.1 in
    path_from n (move_into rest m.0) (record { emitted = pass.emitted ++ m ∷ []; pending = rest })

abbrev pub paths_over : List ℕ → Pass → Pass
paths_over [] pass = pass
paths_over (p ∷ ps) pass =
    paths_over ps (if is_target pass.pending p && not (is_source pass.pending p)
    then path_from (length pass.pending) (move_into pass.pending p) pass else pass)

-- A cycle through t: the page of t waits in the bounce frame, and the last move takes it from there.
abbrev pub with_bounce : ℕ → ℕ → Move → Move
with_bounce bounce t m = if m.0 == t then (bounce, m.1) else m

abbrev pub cycle_from : ℕ → ℕ → ℕ → Option Move → Pass → Pass
cycle_from zero bounce t next pass = pass
cycle_from (suc n) bounce t None pass = pass
cycle_from (suc n) bounce t (Some m) pass =
    let rest = without_target pass.pending m.1 in
    cycle_from n bounce t (move_into rest m.0) (record {
      emitted = pass.emitted ++ with_bounce bounce t m ∷ [];
      pending = rest;
    })

abbrev pub cycles_over : ℕ → List ℕ → Pass → Pass
cycles_over bounce [] pass = pass
cycles_over bounce (t ∷ ts) pass =
    let waiting : Pass = record { emitted = pass.emitted ++ (t, bounce) ∷ []; pending = pass.pending } in
    cycles_over bounce ts (if is_target pass.pending t
    then cycle_from (length pass.pending) bounce t (move_into pass.pending t) waiting else pass)

-- the moves in order: descending, ascending, paths, cycles; a move of a page frame to itself is dropped at once
unfoldable pub sequence : ℕ → ℕ → List Move → List Move
sequence top bounce moves =
    let first : Pass = record { emitted = []; pending = filter (λ m. not (m.0 == m.1)) moves } in
    (cycles_over bounce (ascending top)
    (paths_over (ascending top) (pass_over (ascending top) (pass_over (descending top) first)))).emitted

-- Joining: an entry is a run (from, to, count). In order, each move joins the run before it if neither touches the
-- bounce frame and the move continues that run, upwards or downwards.
abbrev pub Entry : Type 0
Entry = ℕ × ℕ × ℕ

abbrev pub touches : ℕ → Entry → Bool
touches bounce e = (e.0 == bounce) || (e.1 == bounce)

abbrev pub goes_up : Entry → Move → Bool
goes_up e m = (m.0 == e.0 + e.2) && (m.1 == e.1 + e.2)

abbrev pub goes_down : Entry → Move → Bool
goes_down e m = (m.0 + 1 == e.0) && (m.1 + 1 == e.1)

abbrev pub joined : ℕ → Entry → List Move → List Entry
joined bounce e [] = e ∷ []
joined bounce e (m ∷ moves) =
    if touches bounce e || touches bounce (m.0, m.1, 1) then e ∷ joined bounce (m.0, m.1, 1) moves
    else (if goes_up e m then joined bounce (e.0, e.1, e.2 + 1) moves
    else (if goes_down e m then joined bounce (m.0, m.1, e.2 + 1) moves
    else e ∷ joined bounce (m.0, m.1, 1) moves))

abbrev pub join_all : ℕ → List Move → List Entry
join_all bounce [] = []
join_all bounce (m ∷ moves) = joined bounce (m.0, m.1, 1) moves

-- [order of moves]: the restore list of a placement's moves over page frames below `top`
unfoldable pub order_of_moves : ℕ → ℕ → List Move → List Entry
order_of_moves top bounce moves = join_all bounce (sequence top bounce moves)
