-- What a resume gives back.
use Rattle.std.proofs.Common.{◌≡◌, ℕ, ◌<◌, zero, suc, Bool, true, false, cond, eqb, List, [], ◌∷◌, map, Contains, Option, Some, refl, sym, ap, ◌∙◌, arith}
use Rattle.std.proofs.lemmas.List.FromFn.{get_or-map-range_with_len}
use Rattle.std.proofs.lemmas.Bool.{eqb-true, eq-eqb, false≢true}
use Rattle.definitions.specs.Bytes.{zero_page}
use Rattle.definitions.specs.Zones.{top}
use Rattle.definitions.specs.Tables.{frame}
use Rattle.plain_machine.specs.Machine.{Hardware, Memory, saveable}
use Rattle.plain_machine.specs.Image.{Image, SlotPages, image_of_memory}
use Rattle.plain_machine.specs.Loader.{saved_page, restored, restored_page, page_or, left_free, has, loader_frame}
use Rattle.plain_machine.specs.declared.event.Loader.{Loader}
use Rattle.page_core.specs.declared.format.Format.{Format}

-- a page frame below the top has its restored page
pub frame-restored : (h : Hardware) (dump : Memory) (loader : Loader) (i : Image) (p : ℕ) → p < top h.zones → frame (restored h dump loader i) p ≡ restored_page h dump loader i p
unfolding restored
frame-restored h dump loader i p lt =
    get_or-map-range_with_len {X = List ℕ} (restored_page h dump loader i) 0 (top h.zones) p p [] lt (omega arith)

by_test : (b : Bool) (x y z : Option (List ℕ)) → (b ≡ true → x ≡ z) → (b ≡ false → y ≡ z) → cond b x y ≡ z
by_test true x y z p q = p refl
by_test false x y z p q = q refl

in_tail : (q : ℕ) (ps : List ℕ) (p : ℕ) → Contains (q ∷ ps) p → eqb q p ≡ false → Contains ps p
in_tail q ps p (zero, lt, e) other = absurd (false≢true (sym other ∙ eq-eqb q p e))
in_tail q ps p (suc k, lt, e) other = (k, omega arith, e)

-- the saved page of a page frame among those of a memory
pub saved_page-of_memory : (m : Memory) (ps : List ℕ) (p : ℕ) → Contains ps p → saved_page (map (λ q. (q, frame m q)) ps) p ≡ Some (frame m p)
saved_page-of_memory m [] p (k, lt, e) = absurd (omega arith)
saved_page-of_memory m (q ∷ ps) p here =
    by_test (eqb q p) (Some (frame m q)) (saved_page (map (λ r. (r, frame m r)) ps) p) (Some (frame m p))
    (λ same. ap (λ (r : ℕ). Some (frame m r)) (eqb-true q p same))
    (λ apart. saved_page-of_memory m ps p (in_tail q ps p here apart))

-- Restored gives every saveable page of the memory that the image was made of.
pub restored-saveable : (h : Hardware) (dump m : Memory) (loader : Loader) (slots : SlotPages) (f : Format) (p : ℕ) → Contains (saveable h m) p → p < top h.zones → frame (restored h dump loader (image_of_memory h m slots f)) p ≡ frame m p
restored-saveable h dump m loader slots f p saved lt =
    frame-restored h dump loader (image_of_memory h m slots f) p lt
    ∙ ap (λ (o : Option (List ℕ)). page_or o (cond (has (left_free h dump loader) p) zero_page (loader_frame dump loader p))) (saved_page-of_memory m (saveable h m) p saved)
