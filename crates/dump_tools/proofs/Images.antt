-- What an image takes, by the counts of page frames.
use Rattle.std.proofs.Common.{◌≡◌, ℕ, suc, ◌&&◌, Bool, true, false, not, cond, List, [], ◌∷◌, length, filter, map, refl, sym, ap, ap₂, ◌∙◌}
use Rattle.std.proofs.lemmas.List.{length-map}
use Rattle.page_core.specs.declared.format.Format.{Format}
use Rattle.page_core.specs.declared.format.Format.TheVariants.{Plain, SkipZeros}
use Rattle.definitions.specs.Tables.{saveable_frames}
use Rattle.definitions.specs.Tables.{frame}
use Rattle.definitions.specs.Zones.{numbers}
use Rattle.plain_machine.specs.Image.{Image, image_of_memory, has_data, is_zeros, n_of, d_of}
use Rattle.plain_machine.specs.Machine.{Hardware, Memory, saveable}
use Rattle.plain_machine.specs.Step.{no_slots}
use Rattle.frame_table.specs.Tests.{saveable_by_entry}
use Rattle.dump_tools.specs.Counts.{frames_of}
use Rattle.dump_tools.specs.Facts.{facts_of_image, image_facts}
use Rattle.dump_tools.specs.declared.facts.counting.Kind.TheVariants.{Saveable, WithData}

-- the saveable page frames are those that are counted as saveable
pub saveable_are : (h : Hardware) (m : Memory) → frames_of h m Saveable ≡ saveable h m
unfolding saveable_frames
saveable_are h m = refl

pub n_is : (h : Hardware) (m : Memory) (f : Format) → n_of (image_of_memory h m no_slots f) ≡ length (frames_of h m Saveable)
n_is h m f = length-map (saveable h m) (λ (p : ℕ). (p, frame m p)) ∙ ap length (sym (saveable_are h m))

-- In the plain format each saved page has data.

plain_all : (xs : List (ℕ × List ℕ)) → filter (has_data Plain) xs ≡ xs
plain_all [] = refl
plain_all (x ∷ xs) = ap (λ (t : List (ℕ × List ℕ)). x ∷ t) (plain_all xs)

pub plain_d_is : (h : Hardware) (m : Memory) → d_of (image_of_memory h m no_slots Plain) ≡ length (frames_of h m Saveable)
plain_d_is h m = ap length (plain_all (map (λ (p : ℕ). (p, frame m p)) (saveable h m))) ∙ n_is h m Plain

-- In the other those that aren't all zero.

abbrev has_bytes : Memory → ℕ → Bool
has_bytes m p = not (is_zeros (frame m p))

same_len : {X Y : Type 0} (b : Bool) (x : X) (xs : List X) (y : Y) (ys : List Y) → length xs ≡ length ys → length (cond b (x ∷ xs) xs) ≡ length (cond b (y ∷ ys) ys)
same_len true x xs y ys e = ap suc e
same_len false x xs y ys e = e

with_bytes_are : (m : Memory) (ps : List ℕ) → length (filter (has_data SkipZeros) (map (λ (p : ℕ). (p, frame m p)) ps)) ≡ length (filter (has_bytes m) ps)
with_bytes_are m [] = refl
with_bytes_are m (p ∷ ps) =
    same_len (has_bytes m p) (p, frame m p) (filter (has_data SkipZeros) (map (λ (q : ℕ). (q, frame m q)) ps)) p (filter (has_bytes m) ps) (with_bytes_are m ps)

step_both : (b : Bool) (q : ℕ → Bool) (x : ℕ) (xs ys : List ℕ) → filter q xs ≡ ys → filter q (cond b (x ∷ xs) xs) ≡ cond (b && q x) (x ∷ ys) ys
step_both true q x xs ys e = ap (λ (t : List ℕ). cond (q x) (x ∷ t) t) e
step_both false q x xs ys e = e

filter_both : (p q : ℕ → Bool) (xs : List ℕ) → filter q (filter p xs) ≡ filter (λ x. p x && q x) xs
filter_both p q [] = refl
filter_both p q (x ∷ xs) = step_both (p x) q x (filter p xs) (filter (λ x. p x && q x) xs) (filter_both p q xs)

pub zeros_d_is : (h : Hardware) (m : Memory) → d_of (image_of_memory h m no_slots SkipZeros) ≡ length (frames_of h m WithData)
zeros_d_is h m =
    with_bytes_are m (saveable h m)
    ∙ ap (λ (ps : List ℕ). length (filter (has_bytes m) ps)) (sym (saveable_are h m))
    ∙ ap length (filter_both (saveable_by_entry h.frame_table m) (has_bytes m) (numbers h.zones))

-- the facts of an image, by its counts
pub image_facts_are : (f : Format) (i : Image) (n d : ℕ) → n_of i ≡ n → d_of i ≡ d → image_facts f n d ≡ facts_of_image f i
image_facts_are f i n d p q = ap₂ (image_facts f) (sym p) (sym q)
