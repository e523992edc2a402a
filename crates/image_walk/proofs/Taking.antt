-- What a walk takes: an entry, or a map.
use Rattle.std.proofs.Common.{◌≡◌, ℕ, ◌+◌, ◌-◌, ◌*◌, ◌<◌, ◌≤◌, Bool, true, false, List, ◌∷◌, ltb, cond, min, Some, None, Result, Ok, Err, OnErr, refl, inl, inr, sym, ap, ◌∙◌, arith}
use Rattle.std.proofs.lemmas.Bool.{cond-true, cond-false, lt-ltb, le-ltb}
use Rattle.std.proofs.lemmas.Option.{same_Some}
use Rattle.definitions.specs.SwapMap.{map_entry}
use Rattle.image_walk.specs.Names.{Name, map_at, page_at, seen, left_in, newest_page, IsNext, IsAnswer, fault_of}
use Rattle.image_walk.specs.Taken.{IsTaken}
use Rattle.image_walk.specs.Walking.{unread_left, Stands, Takes, block_asked, after_map}
use Rattle.image_walk.specs.declared.limits.Limits.{Limits}
use Rattle.image_walk.specs.declared.visit.BlockFault.{BlockFault}
use Rattle.image_walk.specs.declared.visit.Visit.TheVariants as visit
use Rattle.image_walk.specs.declared.walk.Walk.{Walk}
use Rattle.image_walk.proofs.FewMaps.{few_maps}

asked_entry : (k : Walk) (b : ℕ) → k.entry < 511 → block_asked k ≡ Some b → map_entry k.map k.entry ≡ b
asked_entry k b lt asked =
    same_Some (map_entry k.map k.entry) b
    (sym (cond-true (ltb k.entry 511) (Some (map_entry k.map k.entry)) (cond k.over None (Some k.next)) (lt-ltb k.entry 511 lt)) ∙ asked)

none_or : (over : Bool) (next b : ℕ) → cond over None (Some next) ≡ Some b → (over ≡ false) × (next ≡ b)
none_or true next b e = cc
none_or false next b e = (refl, same_Some next b e)

asked_map : (k : Walk) (b : ℕ) → 511 ≤ k.entry → block_asked k ≡ Some b → (k.over ≡ false) × (k.next ≡ b)
asked_map k b ge asked =
    none_or k.over k.next b
    (sym (cond-false (ltb k.entry 511) (Some (map_entry k.map k.entry)) (cond k.over None (Some k.next)) (le-ltb k.entry 511 ge)) ∙ asked)

pub entry_taken : (l : Limits) (first b : ℕ) (h : List Name) (told : Result (Unit {0}) BlockFault) (old : Walk) (before words page : List ℕ) → old.entry < 511 → Stands l first old before h → block_asked old ≡ Some b → IsAnswer (fault_of l h b) b (seen told page) → IsTaken l words (page_at b (seen told page) ∷ h) → Takes l first h b told old (record old { entry = old.entry + 1 }) words (visit.Entry old.maps old.at old.entry b told) page
entry_taken l first b h told old before words page lt f asked answer taken =
    let left : 0 < left_in h = omega (arith, f.left) in
    let index : old.entry ≡ 511 - left_in h = omega (arith, f.left) in
    let place : b ≡ map_entry (newest_page h) (511 - left_in h) =
    sym (asked_entry old b lt asked) ∙ ap (λ (p : List ℕ). map_entry p old.entry) (f.page lt) ∙ ap (map_entry (newest_page h)) index in
    let next : IsNext l first h (page_at b (seen told page)) = (left, place, answer) in
    record {
      next = next;
      block = refl;
      answer = refl;
      place = (f.maps, f.at, index);
      stands = record {
        reading = (f.reading, next);
        taken = taken;
        maps = f.maps;
        at = f.at;
        page = λ more. f.page lt;
        left = omega (arith, f.left);
        next = f.next;
        over = f.over;
      };
      fewer = omega arith;
    }

-- a walk that names one more map has fewer names left
fewer : (l : Limits) (first : ℕ) (h : List Name) (old : Walk) (before : List ℕ) (left : ℕ) → l.blocks < 4294967296 → Stands l first old before h → old.over ≡ false → left ≤ 511 → (min (old.maps + 1) 4294967295 ≡ old.maps + 1) × (512 * (l.blocks + 1 - (old.maps + 1)) + left < 512 * (l.blocks + 1 - old.maps))
fewer l first h old before left blocks f on le =
    elim (few_maps l first h f.reading (sym f.over ∙ on)) [ inl none ↦ (omega (arith, f.maps), omega (arith, f.maps)) | inr lt ↦ (omega (arith, f.maps), omega (arith, f.maps)) ]

pub map_taken : (l : Limits) (first b : ℕ) (h : List Name) (told : Result (Unit {0}) BlockFault) (old : Walk) (before words page : List ℕ) → 511 ≤ old.entry → l.blocks < 4294967296 → Stands l first old before h → block_asked old ≡ Some b → IsAnswer (fault_of l h b) b (seen told page) → IsTaken l words (map_at b (seen told page) ∷ h) → Takes l first h b told old (after_map b told page old) words (visit.Map (after_map b told page old).maps b told) page
map_taken l first b h (Ok done) old before words page ge blocks f asked answer taken =
    let named = asked_map old b ge asked in
    let less = fewer l first h old before 511 blocks f named.0 (omega arith) in
    let next : IsNext l first h (map_at b (Ok page)) = (omega (arith, f.left), sym f.over ∙ named.0, sym named.1 ∙ f.next, answer) in
    record {
      next = next;
      block = refl;
      answer = refl;
      place = less.0 ∙ ap (λ k. k + 1) f.maps;
      stands = record {
        reading = (f.reading, next);
        taken = taken;
        maps = less.0 ∙ ap (λ k. k + 1) f.maps;
        at = refl;
        page = λ more. refl;
        left = refl;
        next = refl;
        over = named.0;
      };
      fewer = omega (arith, less.0, less.1);
    }
map_taken l first b h (Err why) old before words page ge blocks f asked answer taken =
    let named = asked_map old b ge asked in
    let less = fewer l first h old before 511 blocks f named.0 (omega arith) in
    let next : IsNext l first h (map_at b (Err why)) = (omega (arith, f.left), sym f.over ∙ named.0, sym named.1 ∙ f.next, answer) in
    record {
      next = next;
      block = refl;
      answer = refl;
      place = less.0 ∙ ap (λ k. k + 1) f.maps;
      stands = record {
        reading = (f.reading, next);
        taken = taken;
        maps = less.0 ∙ ap (λ k. k + 1) f.maps;
        at = refl;
        page = λ more. absurd (omega arith);
        left = omega arith;
        next = refl;
        over = refl;
      };
      fewer = omega (arith, less.0, less.1);
    }

pub entry_fewer : (told : Result (Unit {0}) BlockFault) (old : Walk) → old.entry < 511 → OnErr told (unread_left (record old { entry = old.entry + 1 }) < unread_left old)
entry_fewer (Ok done) old lt = tt
entry_fewer (Err why) old lt = omega arith

pub map_fewer : (told : Result (Unit {0}) BlockFault) (block b : ℕ) (old : Walk) (page : List ℕ) → 511 ≤ old.entry → block_asked old ≡ Some b → OnErr told (unread_left (after_map block told page old) < unread_left old)
map_fewer (Ok done) block b old page ge asked = tt
map_fewer (Err why) block b old page ge asked =
    let one : cond {A = ℕ} old.over 0 1 ≡ 1 = ap (λ (t : Bool). cond {A = ℕ} t 0 1) (asked_map old b ge asked).0 in
    omega (arith, one)
