-- A block that is written and synced.
use Rattle.std.proofs.Common.{◌≡◌, ℕ, ◌+◌, ◌*◌, ◌<◌, ◌≤◌, zero, suc, List, [], ◌∷◌, ◌++◌, length, get_or, take, drop, map, Option, Some, None, refl, sym, ap, ap₂, subst, ◌∙◌, arith, zero-add, append-nil, length-drop}
use Rattle.std.specs.List.{concat, range_with_len}
use Rattle.std.specs.Option.{IfSome}
use Rattle.std.proofs.Math.Seq.{take-add}
use Rattle.std.proofs.lemmas.List.{ext_get_or, get_or-drop, get_or-take, take_all, length-take-le}
use Rattle.std.proofs.lemmas.List.Folds.{concat-append}
use Rattle.std.proofs.lemmas.List.FromFn.{length-map-range_with_len, get_or-map-range_with_len, map-range_with_len_more}
use Rattle.definitions.specs.Bytes.{IsPage}
use Rattle.definitions.specs.Disk.{Content, DiskImage, IsContent, IsImage, as_it_reads, settled, block, sector, sector_bytes, Writes, Syncs, Changes}
use Rattle.definitions.specs.SwapHeader.{IsMarked, sig_of, image_signature, taken_back}
use Rattle.definitions.proofs.DiskLaws.{length-as_it_reads, IsImage-settled}
use Rattle.image_cli.specs.Unmarks.{LeavesNoImage, TakesBack}

pieces : (page : List ℕ) (n : ℕ) → concat (map (sector_bytes page) (range_with_len 0 n)) ≡ take (512 * n) page
pieces page zero = refl
pieces page (suc n) =
    let one_more : suc n ≡ n + 1 = omega arith in
    let bytes : 512 * n + 512 ≡ 512 * suc n = omega arith in
    ap (λ (k : ℕ). concat (map (sector_bytes page) (range_with_len 0 k))) one_more
    ∙ ap concat (map-range_with_len_more (sector_bytes page) 0 n n (zero-add n))
    ∙ concat-append (map (sector_bytes page) (range_with_len 0 n)) (sector_bytes page n ∷ [])
    ∙ ap₂ (λ (xs ys : List ℕ). xs ++ ys) (pieces page n) (append-nil (sector_bytes page n))
    ∙ sym (take-add (512 * n) 512 page)
    ∙ ap (λ (k : ℕ). take k page) bytes

-- a block whose sectors are a page's is that page
block_of_sectors : (v : DiskImage) (b : ℕ) (page : List ℕ) → IsPage page → 8 * b + 8 ≤ length v → ((j : ℕ) → j < 8 → get_or v (8 * b + j) [] ≡ sector_bytes page j) → block v b ≡ page
unfolding block
block_of_sectors v b page whole within each =
    let part = take 8 (drop (8 * b) v) in
    let size : length part ≡ 8 = length-take-le 8 (drop (8 * b) v) (omega (arith, length-drop (8 * b) v)) in
    let parts : part ≡ map (sector_bytes page) (range_with_len 0 8) =
    ext_get_or [] part (map (sector_bytes page) (range_with_len 0 8)) (size ∙ sym (length-map-range_with_len (sector_bytes page) 0 8))
    (λ j lt.
    let few : j < 8 = omega arith in
    get_or-take 8 (drop (8 * b) v) j [] few ∙ get_or-drop (8 * b) v j [] ∙ each j few
    ∙ sym (get_or-map-range_with_len (sector_bytes page) 0 8 j j [] few (zero-add j))) in
    ap concat parts ∙ pieces page 8 ∙ take_all 4096 page (omega arith)

live_at : (c : Content) (s : ℕ) → get_or (as_it_reads c) s [] ≡ (sector c s).live
live_at [] s = refl
live_at (x ∷ c) zero = refl
live_at (x ∷ c) (suc s) = live_at c s

block_written : (blocks b : ℕ) (page : List ℕ) (old written : Content) → IsContent blocks old → b < blocks → IsPage page → Writes b page old written → block (as_it_reads written) b ≡ page
block_written blocks b page old written whole lt is w =
    block_of_sectors (as_it_reads written) b page is (omega (arith, length-as_it_reads written, w.others.size, whole.size))
    (λ j few. live_at written (8 * b + j) ∙ (w.within j few).live)

pub leaves_none : (blocks b : ℕ) (page : List ℕ) (old written new : Option Content) → IfSome old (IsContent blocks) → b < blocks → IsPage page → (IsMarked page → ⊥)
    → Changes (Writes b page) old written → Changes Syncs written new → IfSome new (LeavesNoImage b)
leaves_none blocks b page old written None whole lt is none w s = tt
leaves_none blocks b page old None (Some new) whole lt is none w s = absurd s
leaves_none blocks b page None (Some written) (Some new) whole lt is none w s = absurd w
leaves_none blocks b page (Some old) (Some written) (Some new) whole lt is none w s = λ v image marked.
    let same : v ≡ as_it_reads written = IsImage-settled (as_it_reads written) v (subst (λ (c : Content). IsImage c v) s image) in
    none (subst IsMarked (ap (λ (x : DiskImage). block x b) same ∙ block_written blocks b page old written whole lt is w) marked)

pub takes_back : (b : ℕ) (page : List ℕ) (old written new : Option Content) → Changes (Writes b (taken_back page)) old written → Changes Syncs written new → Changes (TakesBack b page) old new
takes_back b page None None None w s = tt
takes_back b page None None (Some new) w s = s
takes_back b page None (Some written) new w s = absurd w
takes_back b page (Some old) None new w s = absurd w
takes_back b page (Some old) (Some written) None w s = s
takes_back b page (Some old) (Some written) (Some new) w s = (written, (w, s))
