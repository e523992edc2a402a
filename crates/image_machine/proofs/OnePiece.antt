-- The blocks of an area that lies from block 0 on in one piece.
use Rattle.std.proofs.Common.{◌≡◌, ℕ, ◌≤◌, ◌==◌, Bool, true, false, cond, nat_lt, List, [], ◌∷◌, Option, Some, None, length, inl, suc, drop, take, ◌<◌, ◌*◌, mul-zero, mul-suc, sym, ap, subst, ◌∙◌, refl, arith}
use Rattle.std.specs.List.{All, concat}
use Rattle.std.proofs.lemmas.List.Elements.{All-contains}
use Rattle.std.proofs.lemmas.List.{length-append, length-map, length-drop, length-take-le, get_or-map, get_or-take, get_or_default}
use Rattle.definitions.specs.Bytes.{IsPage}
use Rattle.definitions.specs.Disk.{Content, IsContent, Sector, as_it_reads, block, no_sector, sector}
use Rattle.definitions.specs.Slots.{block_of}
use Rattle.definitions.specs.SwapHeader.{area_signature, bad_count_of, bad_pages_of, first_outside, image_signature, last_page_of, old_signature, orig_sig_of, sig_of, taken_back, version_of}
use Rattle.definitions.proofs.PageBytes.{bytes_at-with_bytes_apart, number_at-same}
use Rattle.image_format.specs.AreaKind.{area_kind, area_of, area_with, mark_of, same_bytes, version_1_kind}
use Rattle.image_format.specs.declared.signature.area.Area.{Area}
use Rattle.image_format.specs.declared.signature.area.AreaFault.{AreaFault}
use Rattle.image_format.specs.declared.signature.area.AreaFault.TheVariants.{Version, BadCount, LastZero}
use Rattle.image_format.specs.declared.signature.area.AreaKind.{AreaKind}
use Rattle.image_format.specs.declared.signature.area.AreaKind.TheVariants as kind
use Rattle.plain_machine.specs.Chain.{blocks_of}
use Rattle.plain_machine.specs.Machine.{Hardware}
use Rattle.image_walk.specs.declared.limits.Limits.{Limits}
use Rattle.image_check.specs.Header.{area_fault, compressed_fault, limits_of}
use Rattle.image_check.specs.Told.{list_of}
use Rattle.image_pages.proofs.Findings.{left_none, no_finding}
use Rattle.image_machine.specs.Resumable.{IsOnePiece, IsSlotBlock, MayName, OnePieceNamesSlots, limits_in}
use Rattle.image_machine.proofs.Found.{faultless, size_of}
use Rattle.image_machine.proofs.Prepared.{inside_of}

-- where an area ends, if there is one
abbrev last_in : AreaKind → Option ℕ
last_in (kind.Image mark) = None
last_in kind.Old = None
last_in (kind.Other sig) = None
last_in (kind.BadArea why) = None
last_in (kind.Swap area) = Some area.last

same_number : (a b : ℕ) → Some a ≡ Some b → b ≡ a
same_number a b e = cc

none_some : (b : ℕ) → None ≡ Some b → ⊥
none_some b e = cc

last_of : (page : List ℕ) → (area_of page).last ≡ last_page_of page
unfolding area_of
last_of page = refl

last_by : (a b c : Bool) (x y z : AreaFault) (page : List ℕ) (bad : Option ℕ) (last : ℕ) → last_in (cond a (cond b (kind.BadArea x) (cond c (kind.BadArea y) (area_with page bad))) (kind.BadArea z)) ≡ Some last → last ≡ last_page_of page
last_by true true c x y z page bad last e = absurd (none_some last e)
last_by true false true x y z page bad last e = absurd (none_some last e)
last_by true false false x y z page (Some slot) last e = absurd (none_some last e)
last_by true false false x y z page None last e = same_number (area_of page).last last e ∙ last_of page
last_by false b c x y z page bad last e = absurd (none_some last e)

-- the area of a block ends where its last page says
kind_last : (page : List ℕ) (last : ℕ) → last_in (area_kind page) ≡ Some last → last ≡ last_page_of page
unfolding area_kind
kind_last page last is = go (same_bytes (sig_of page) image_signature) (same_bytes (sig_of page) old_signature) (same_bytes (sig_of page) area_signature) is where
  go : (a b c : Bool) → last_in (cond a (kind.Image (mark_of page)) (cond b kind.Old (cond c (version_1_kind page) (kind.Other (sig_of page))))) ≡ Some last → last ≡ last_page_of page
  go true b c e = absurd (none_some last e)
  go false true c e = absurd (none_some last e)
  go false false true e =
      last_by (version_of page == 1) (nat_lt 630 (bad_count_of page)) (last_page_of page == 0) (BadCount (bad_count_of page)) LastZero (Version (version_of page)) page (first_outside (last_page_of page) (bad_pages_of page (bad_count_of page))) last e
  go false false false e = absurd (none_some last e)

-- taking a block back doesn't change where its area ends
last_taken_back : (page : List ℕ) → IsPage page → last_page_of (taken_back page) ≡ last_page_of page
unfolding taken_back
last_taken_back page whole =
    let few = length-take-le 10 (drop 4076 page) (omega (arith, length-drop 4076 page)) in
    number_at-same 4 (taken_back page) page 1028 (bytes_at-with_bytes_apart 4 page 4086 (orig_sig_of page) 1028 (omega arith) (inl (omega arith)))

-- A block of the disk has 4096 bytes.

length-concat : (n : ℕ) (xss : List (List ℕ)) → All (λ xs. length xs ≡ n) xss → length (concat xss) ≡ n * length xss
length-concat n [] h = rw mul-zero refl
length-concat n (xs ∷ xss) h =
    let first : length xs ≡ n = h 0 [] (omega arith) in
    let rest : length (concat xss) ≡ n * length xss = length-concat n xss (λ k d lt. h (suc k) d (omega arith)) in
    omega (arith, length-append xs (concat xss), mul-suc n (length xss))

header_page : (blocks : ℕ) (held : Content) → IsContent blocks held → 0 < blocks → IsPage (block (as_it_reads held) 0)
unfolding block
header_page blocks held is some =
    let v = as_it_reads held in
    let all = is.size in
    let size = length-map held (λ (s : Sector). s.live) in
    let part = take 8 (drop 0 v) in
    let eight : length part ≡ 8 = length-take-le 8 v (omega arith) in
    let each : All (λ xs. length xs ≡ 512) part = λ j d j_lt.
    (let few : j < 8 = omega arith in
    let here = is.sectors j no_sector (omega arith) in
    ap length (get_or_default part j d [] j_lt ∙ get_or-take 8 v j [] few ∙ get_or-map (λ (s : Sector). s.live) held j no_sector [] (omega arith))
    ∙ All-contains (λ (bytes : List ℕ). length bytes ≡ 512) (sector held j).candidates (sector held j).live here.each here.live) in
    length-concat 512 part each ∙ ap (λ (n : ℕ). 512 * n) eight

one_extent : (extents : List (ℕ × ℕ × ℕ)) (slots b : ℕ) → extents ≡ (0, slots, 0) ∷ [] → block_of extents b ≡ b
one_extent extents slots b one = ap (λ (es : List (ℕ × ℕ × ℕ)). block_of es b) one ∙ omega arith

-- what an image of a version 1 area may name are blocks of its slots
slots_of_area : (blocks : ℕ) (held : Content) (h : Hardware) (area : Area) → IsContent blocks held → IsOnePiece h → area_kind (taken_back (block (as_it_reads held) 0)) ≡ kind.Swap area → (b : ℕ) → MayName (limits_in (as_it_reads held) 0) b → IsSlotBlock h (block (as_it_reads held) 0) b
slots_of_area blocks held h area is one swap b may =
    let v = as_it_reads held in
    let kind = area_kind (taken_back (block v 0)) in
    let limits : limits_of (blocks_of v) 0 kind ≡ record { blocks = blocks_of v; header = 0; last = area.last; bad = area.bad } = ap (limits_of (blocks_of v) 0) swap in
    let inside = inside_of (limits_of (blocks_of v) 0 kind) b may in
    let first = inside.some in
    let size = size_of blocks held is in
    let below : b < blocks_of v = subst (λ (l : Limits). b < l.blocks) limits inside.inside in
    let some : 0 < blocks = omega arith in
    let le : b ≤ area.last = subst (λ (l : Limits). b ≤ l.last) limits inside.to in
    let last : area.last ≡ last_page_of (block v 0) =
    kind_last (taken_back (block v 0)) area.last (ap last_in swap) ∙ last_taken_back (block v 0) (header_page blocks held is some) in
    record { slot = b; from = omega arith; to = omega arith; lies = one_extent h.extents h.slots b one }

-- an area in which nothing is found is of version 1
version_1 : (blocks header : ℕ) (k : AreaKind) → area_fault blocks header k ≡ None → (area : Area) × (k ≡ kind.Swap area)
version_1 blocks header (kind.Image mark) none = cc
version_1 blocks header kind.Old none = cc
version_1 blocks header (kind.Other sig) none = cc
version_1 blocks header (kind.BadArea why) none = cc
version_1 blocks header (kind.Swap area) none = (area, refl)

pub one_piece : OnePieceNamesSlots
one_piece blocks before now held h is one finds =
    let s = (faultless blocks 0 before now held is finds).begins in
    let fault = area_fault blocks 0 (area_kind (taken_back s.page)) in
    let none = no_finding fault (left_none (list_of fault) (list_of (compressed_fault s.mark.flags)) s.clean) in
    let (area, swap) = version_1 blocks 0 (area_kind (taken_back s.page)) none in (
      one_extent h.extents h.slots 0 one,
      λ b named may. slots_of_area blocks held h area is one (ap (λ (p : List ℕ). area_kind (taken_back p)) (sym s.read) ∙ swap) b may,
    )
