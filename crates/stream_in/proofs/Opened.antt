-- A newly opened session.
use Rattle.std.proofs.Common.{refl, sym, ◌≡◌, ℕ, ◌+◌, ◌*◌, ◌/◌, ◌%◌, ◌<◌, ◌≤◌, eqb, cond, filter, suc, Bool, true, false, inl, inr, List, [], ◌∷◌, length, take, drop, get_or, replicate, ap, ◌∙◌, subst, arith}
use Rattle.std.specs.List.{All, Contains, range_with_len}
use Rattle.std.proofs.lemmas.List.{length-replicate, get_or-replicate, get_or-drop}
use Rattle.std.proofs.lemmas.List.Elements.{All-replicate, Contains-get_or}
use Rattle.std.proofs.lemmas.List.FromFn.{length-range_with_len}
use Rattle.definitions.specs.Bytes.{IsPage, zero_page, number_at}
use Rattle.definitions.specs.Tables.{free_slots}
use Rattle.definitions.specs.FreeRuns.{runs_of, free_runs}
use Rattle.definitions.specs.Tables.{entry_at, with_entries, HasTable}
use Rattle.definitions.proofs.Ascending.{Contains-cons_cases}
use Rattle.definitions.proofs.PageBytes.{length-zero_page, get_or-zero_page}
use Rattle.definitions.proofs.FreeSlots.{Contains-free_slots, free_slot, IsStrictlyIncreasing-free_slots}
use Rattle.definitions.proofs.TableEntries.{entry_at-with_entries_same, entry_at-with_entries_other}
use Rattle.image_format.specs.declared.signature.area.Area.{Area}
use Rattle.plain_machine.specs.UsableArea.{bad_slots_of}
use Rattle.image_write.specs.Writing.{BlocksBelow}
use Rattle.definitions.specs.FileMaps.{IsFileMap}
use Rattle.stream_in.specs.Holding.{AreOfMap}
use Rattle.stream_in.specs.Area.{AreUsable, HasBounds}

-- a table without slots has no runs of free ones
pub no_runs : (frames : List (List ℕ)) → [] ≡ free_runs 0 0 frames
unfolding runs_of free_slots
no_runs frames = refl

zero_number : (k : ℕ) → k + 4 ≤ 4096 → number_at 4 zero_page k ≡ 0
unfolding number_at
zero_number k h =
    let z : (i : ℕ) → i < 4 → get_or (drop k zero_page) i 0 ≡ 0 = λ i lt. get_or-drop k zero_page i 0 ∙ get_or-zero_page (k + i) (omega arith) in
    let a = z 0 (omega arith) in
    let b = z 1 (omega arith) in
    let c = z 2 (omega arith) in
    let d = z 3 (omega arith) in
    omega arith

fresh : List (List ℕ)
fresh = replicate 128 zero_page

fresh_entry : (s : ℕ) → s < 131072 → entry_at fresh 0 s ≡ 0
unfolding entry_at fresh
fresh_entry s lt =
    ap (λ p. number_at 4 p (4 * (s % 1024))) (get_or-replicate {A = List ℕ} 128 (0 + s / 1024) zero_page [] (omega arith)) ∙ zero_number (4 * (s % 1024)) (omega arith)

fresh_pages : All IsPage fresh
unfolding fresh
fresh_pages = All-replicate IsPage 128 zero_page length-zero_page

fresh_table : (n : ℕ) → n ≤ 131072 → HasTable fresh 0 n
unfolding fresh
fresh_table n le = let size = length-replicate {A = List ℕ} 128 zero_page in omega arith

bad_below : (area : Area) → HasBounds area → (k : ℕ) → Contains (bad_slots_of area) k → k < area.last + 1
bad_below area bounds k in' = elim (Contains-cons_cases 0 (take area.count area.bad) k in') [
  | inl zero ↦ omega arith
  | inr later ↦ let le = bounds.bad k later in omega arith
]

-- the table with the bad slots of an area
pub record IsTable (area : Area) (frames : List (List ℕ)) : Type 0 where
  pub frames_are : frames ≡ with_entries (replicate 128 zero_page) 0 (bad_slots_of area) 131072
  pub bounds : HasBounds area
  pub room : area.last < 131072

pub usable_slots : (area : Area) (frames : List (List ℕ)) → IsTable area frames → AreUsable area (free_slots (area.last + 1) 0 frames)
unfolding fresh
usable_slots area frames t =
    let n = area.last + 1 in
    let bad = bad_slots_of area in
    let room = t.room in
    let is : frames ≡ with_entries fresh 0 bad 131072 = t.frames_are in
    let within = fresh_table n (omega arith) in
    record {
      ascending = IsStrictlyIncreasing-free_slots n 0 frames;
      each = λ s in'.
          let free = free_slot n 0 frames s in' in
          let below = free.0 in (
            omega arith,
            λ is_bad.
                let same = entry_at-with_entries_same fresh 0 n bad 131072 s fresh_pages within (omega arith) (bad_below area t.bounds) is_bad in
                let entry : entry_at frames 0 s ≡ 131072 = ap (λ f. entry_at f 0 s) is ∙ same in
                let none = free.1 in
                omega arith,
          );
      every = λ s le not_bad.
          let other = entry_at-with_entries_other fresh 0 n bad 131072 s fresh_pages within (λ k in'. (bad_below area t.bounds k in', λ e. not_bad (subst (λ (x : ℕ). Contains bad x) e in'))) in
          Contains-free_slots n 0 frames s (omega arith) (ap (λ f. entry_at f 0 s) is ∙ other ∙ fresh_entry s (omega arith));
    }

fewer : (p : ℕ → Bool) (xs : List ℕ) → length (filter p xs) ≤ length xs
fewer p [] = omega arith
fewer p (x ∷ xs) = let rest = fewer p xs in pick (p x) x (filter p xs) (length xs) rest where
  pick : (b : Bool) (x : ℕ) (ys : List ℕ) (n : ℕ) → length ys ≤ n → length (cond b (x ∷ ys) ys) ≤ suc n
  pick true x ys n h = omega arith
  pick false x ys n h = omega arith

pub few_slots : (n : ℕ) (frames : List (List ℕ)) → length (free_slots n 0 frames) ≤ n
unfolding free_slots
few_slots n frames = omega (arith, fewer (λ s. eqb (entry_at frames 0 s) 0) (range_with_len 0 n), length-range_with_len 0 n)

pub slots_below : (n blocks : ℕ) (frames : List (List ℕ)) → n ≤ blocks → BlocksBelow ((0, n, 0) ∷ []) (free_slots n 0 frames) (length (free_slots n 0 frames)) blocks
slots_below n blocks frames le place lt =
    let free = free_slot n 0 frames (get_or (free_slots n 0 frames) place 0) (Contains-get_or (free_slots n 0 frames) place 0 lt) in
    let below = free.0 in
    omega arith

-- each free slot is one of the map's
pub of_map : (n : ℕ) (frames : List (List ℕ)) (extents : List (ℕ × ℕ × ℕ)) → extents ≡ (0, n, 0) ∷ [] → IsFileMap ((0, n, 0) ∷ []) n → AreOfMap extents (free_slots n 0 frames)
of_map n frames extents is map =
    (n, subst (λ (x : List (ℕ × ℕ × ℕ)). IsFileMap x n) (sym is) map, λ place lt. (free_slot n 0 frames (get_or (free_slots n 0 frames) place 0) (Contains-get_or (free_slots n 0 frames) place 0 lt)).0)
