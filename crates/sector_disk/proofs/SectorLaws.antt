-- Laws of runs of sectors.
use Rattle.std.proofs.Common.{◌≡◌, ℕ, Bool, true, false, cond, length-drop, zero, suc, All, mul-suc, mul-zero, ◌+◌, ◌-◌, ◌*◌, ◌<◌, ◌≤◌, List, [], ◌++◌, length, get_or, take, drop, refl, sym, ap, ◌∙◌, subst, arith}
use Rattle.std.proofs.lemmas.List.{ext_get_or, places, length-take-le, drop-drop, get_or_default, get_or-take, get_or-drop}
use Rattle.std.proofs.lemmas.Grind.{common_steps}
use Rattle.std.proofs.lemmas.List.Elements.{All-append, All-take, All-drop}
use Rattle.std.specs.Simd.{first_chunks}
use Rattle.std.proofs.lemmas.Slice.{between-put_mid}
use Rattle.std.proofs.Math.Nat.{mul-le-mul_left}
use borrow.Rule.Slice.PartMut.{put_mid}
use Rattle.definitions.specs.Disk.{DiskImage, sector_bytes}
use Rattle.sector_disk.specs.Sectors.{SameOutsideRange, IsPickedFrom, picks, TakesPage, TakesPicked}

-- if the range is empty, the durable and the live sectors are the same
pub same_everywhere : (low high : ℕ) (durable live : DiskImage) → length durable ≡ length live → SameOutsideRange low high durable live → high ≤ low → durable ≡ live
same_everywhere low high durable live n outside le = ext_get_or [] durable live n (λ s lt. grind (arith, outside.below s, outside.above s))

-- what lies outside of a range is the same, whatever is put into it
pub same_outside_put : (low high : ℕ) (durable live ys : DiskImage) → length durable ≡ length live → SameOutsideRange low high durable live → low < high → high ≤ length live → length ys ≡ high - low →
    put_mid low (high - low) durable ys ≡ put_mid low (high - low) live ys
same_outside_put low high durable live ys n outside lt le m =
    ext_get_or [] (put_mid low (high - low) durable ys) (put_mid low (high - low) live ys) (grind (arith, common_steps, places)) (λ s below. grind (arith, places, outside.below s, outside.above s))

-- a range put back
pub put_back : (low high : ℕ) (live : DiskImage) → low < high → high ≤ length live → put_mid low (high - low) live (take (high - low) (drop low live)) ≡ live
put_back low high live lt le =
    ext_get_or [] (put_mid low (high - low) live (take (high - low) (drop low live))) live (grind (arith, common_steps, places)) (λ s below. grind (arith, places))

-- if the picked run is put into both, the durable and the live sectors are the same
pub same_both_put : (low high : ℕ) (durable live ys zs : DiskImage) → length durable ≡ length live → SameOutsideRange low high durable live → low < high → high ≤ length live → length ys ≡ high - low →
    zs ≡ take (high - low) (drop low (put_mid low (high - low) durable ys)) → put_mid low (high - low) durable ys ≡ put_mid low (high - low) live zs
same_both_put low high durable live ys zs n outside lt le m e =
    same_outside_put low high durable live ys n outside lt le m
    ∙ ap (put_mid low (high - low) live) (sym (e ∙ between-put_mid low (high - low) durable ys high (omega arith) m))

-- a part of a run has its length
pub length_part : (low high : ℕ) (live : DiskImage) → low < high → high ≤ length live → length (take (high - low) (drop low live)) ≡ high - low
length_part low high live lt le = grind (arith, common_steps)

-- what holds of each sector and of each that is put in holds afterwards
pub All-put_mid : (P : List ℕ → Type 0) (a k : ℕ) (xs ys : DiskImage) → All P xs → All P ys → All P (put_mid a k xs ys)
All-put_mid P a k xs ys hx hy = All-append P (take a xs) (ys ++ drop k (drop a xs)) (All-take P a xs hx) (All-append P ys (drop k (drop a xs)) hy (All-drop P k (drop a xs) (All-drop P a xs hx)))

-- sector j of a page
pub get_or-first_chunks : (n k j : ℕ) (page : List ℕ) (d : List ℕ) → j < k → get_or (first_chunks n k page) j d ≡ take n (drop (n * j) page)
get_or-first_chunks n zero j page d lt = absurd (omega arith)
get_or-first_chunks n (suc k) zero page d lt = rw mul-zero refl
get_or-first_chunks n (suc k) (suc j) page d lt = get_or-first_chunks n k j (drop n page) d (omega arith) ∙ ap (take n) (drop-drop (n * j) n page ∙ ap (λ i. drop i page) (omega arith))

pub length-first_chunks : (n k : ℕ) (page : List ℕ) → length (first_chunks n k page) ≡ k
length-first_chunks n zero page = refl
length-first_chunks n (suc k) page = ap suc (length-first_chunks n k (drop n page))

pub first_chunks-whole : (n k : ℕ) (page : List ℕ) → n * k ≤ length page → All (λ bytes. length bytes ≡ n) (first_chunks n k page)
first_chunks-whole n k page le = λ j d lt.
    let below : j < k = omega (arith, length-first_chunks n k page) in
    let below' : suc j ≤ k = omega arith in
    let row : n * j + n ≤ n * k = omega (arith, mul-le-mul_left n below', mul-suc n j) in
    rw (get_or-first_chunks n k j page d below) (length-take-le n (drop (n * j) page) (omega (arith, length-drop (n * j) page)))

-- the bytes of each sector that is read
pub All-from_nil : (P : List ℕ → Type 0) (xs : DiskImage) → ((i : ℕ) → i < length xs → P (get_or xs i [])) → All P xs
All-from_nil P xs h = λ i d lt. subst P (get_or_default xs i [] d lt) (h i lt)

-- a choice of each sector has what both have
chosen_has : (P : List ℕ → Type 0) (b : Bool) (x y : List ℕ) → P x → P y → P (cond b x y)
chosen_has P true x y hx hy = hx
chosen_has P false x y hx hy = hy

pub All-picked : (P : List ℕ → Type 0) (first pick : ℕ) (old new image : DiskImage) → IsPickedFrom first pick old new image → length new ≡ length old → All P old → All P new → All P image
All-picked P first pick old new image picked n ho hn =
    All-from_nil P image
    (λ i lt.
    subst P (sym (picked.each i lt))
    (chosen_has P (picks pick (first + i)) (get_or new i []) (get_or old i []) (hn i [] (omega (arith, picked.size))) (ho i [] (omega (arith, picked.size)))))

pub get_or-put_mid : (a k j : ℕ) (xs ys : DiskImage) (d : List ℕ) → a ≤ length xs → j < length ys → get_or (put_mid a k xs ys) (a + j) d ≡ get_or ys j d
get_or-put_mid a k j xs ys d le lt = grind (arith, places)

get_or-part : (a k j : ℕ) (xs : DiskImage) (d : List ℕ) → j < k → get_or (take k (drop a xs)) j d ≡ get_or xs (a + j) d
get_or-part a k j xs d lt = get_or-take k (drop a xs) j d lt ∙ get_or-drop a xs j d

-- the sectors of a block after a write
pub takes_page : (b : ℕ) (page : List ℕ) (old part : DiskImage) → 8 * b + 8 ≤ length old → part ≡ first_chunks 512 8 page → TakesPage b page (put_mid (8 * b) (8 * b + 8 - 8 * b) old part)
takes_page b page old part le e j lt =
    get_or-put_mid (8 * b) (8 * b + 8 - 8 * b) j old part [] (omega arith) (omega (arith, ap length e))
    ∙ ap (λ xs. get_or xs j []) e
    ∙ get_or-first_chunks 512 8 j page [] lt

pub takes_picked : (pick b : ℕ) (page : List ℕ) (old new part : DiskImage) → 8 * b + 8 ≤ length old → new ≡ first_chunks 512 8 page → IsPickedFrom (8 * b) pick (take (8 * b + 8 - 8 * b) (drop (8 * b) old)) new part →
    TakesPicked pick b page old (put_mid (8 * b) (8 * b + 8 - 8 * b) old part)
takes_picked pick b page old new part le e picked j lt =
    let long : j < length part = omega (arith, picked.size, length_part (8 * b) (8 * b + 8) old (omega arith) le) in
    get_or-put_mid (8 * b) (8 * b + 8 - 8 * b) j old part [] (omega arith) long
    ∙ picked.each j long
    ∙ ap (λ x. cond (picks pick (8 * b + j)) x (get_or (take (8 * b + 8 - 8 * b) (drop (8 * b) old)) j [])) (ap (λ xs. get_or xs j []) e ∙ get_or-first_chunks 512 8 j page [] lt)
    ∙ ap (λ y. cond (picks pick (8 * b + j)) (sector_bytes page j) y) (get_or-part (8 * b) (8 * b + 8 - 8 * b) j old [] (omega arith))
