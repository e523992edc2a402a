-- What a marked header block says: its first map, and how many blocks there are.
use Rattle.std.proofs.Common.{◌≡◌, ℕ, ◌==◌, eqb, Bool, true, false, List, Option, Some, None, cond, nat_lt, sym, ap, refl}
use Rattle.definitions.specs.SwapHeader.{image_signature, old_signature, area_signature, version_of, last_page_of, bad_count_of, bad_pages_of, image_of, sig_of, first_outside}
use Rattle.image_format.specs.AreaKind.{area_kind, area_with, mark_of, same_bytes, version_1_kind}
use Rattle.image_format.specs.declared.signature.area.Mark.{Mark}
use Rattle.image_format.specs.declared.signature.area.AreaFault.{AreaFault}
use Rattle.image_format.specs.declared.signature.area.AreaFault.TheVariants.{Version, BadCount, LastZero}
use Rattle.image_format.specs.declared.signature.area.AreaKind.TheVariants as kind
use Rattle.image_format.specs.declared.signature.area.AreaKind.{AreaKind}
use Rattle.image_walk.specs.declared.limits.Limits.{Limits}
use Rattle.image_check.specs.Checked.{mark_in}
use Rattle.image_check.specs.Header.{any_block, limits_of}

no_mark : (a b c : Bool) (x y z : AreaFault) (page : List ℕ) (bad : Option ℕ) → mark_in (cond a (cond b (kind.BadArea x) (cond c (kind.BadArea y) (area_with page bad))) (kind.BadArea z)) ≡ None
no_mark true true c x y z page bad = refl
no_mark true false true x y z page bad = refl
no_mark true false false x y z page (Some slot) = refl
no_mark true false false x y z page None = refl
no_mark false b c x y z page bad = refl

same_mark : (a b : Mark) → Some a ≡ Some b → a ≡ b
same_mark a b e = cc

none_some : (m : Option Mark) (mark : Mark) → m ≡ None → m ≡ Some mark → ⊥
none_some m mark e f = cc

pub marked_first : (page : List ℕ) (mark : Mark) → mark_in (area_kind page) ≡ Some mark → mark.first ≡ image_of page
unfolding area_kind
marked_first page mark is = go (same_bytes (sig_of page) image_signature) (same_bytes (sig_of page) old_signature) (same_bytes (sig_of page) area_signature) is where
  go : (a b c : Bool) → mark_in (cond a (kind.Image (mark_of page)) (cond b kind.Old (cond c (version_1_kind page) (kind.Other (sig_of page))))) ≡ Some mark → mark.first ≡ image_of page
  go true b c e = ap (λ (m : Mark). m.first) (sym (same_mark (mark_of page) mark e))
  go false true c e = cc
  go false false true e =
      absurd (none_some (mark_in (version_1_kind page)) mark
      (no_mark (version_of page == 1) (nat_lt 630 (bad_count_of page)) (last_page_of page == 0) (BadCount (bad_count_of page)) LastZero (Version (version_of page)) page (first_outside (last_page_of page) (bad_pages_of page (bad_count_of page)))) e)
  go false false false e = cc

by_test : (t : Bool) (a b : Limits) (n : ℕ) → a.blocks ≡ n → b.blocks ≡ n → (cond t a b).blocks ≡ n
by_test true a b n e f = e
by_test false a b n e f = f

-- the image may name blocks of the disk
pub limits_blocks : (blocks header : ℕ) (k : AreaKind) → (limits_of blocks header k).blocks ≡ blocks
limits_blocks blocks header (kind.Image mark) = refl
limits_blocks blocks header kind.Old = refl
limits_blocks blocks header (kind.Other sig) = refl
limits_blocks blocks header (kind.BadArea why) = refl
limits_blocks blocks header (kind.Swap area) =
    by_test (eqb header 0) (record { blocks = blocks; header = header; last = area.last; bad = area.bad }) (any_block blocks header) blocks refl refl
