-- The pages after the info page, before any number was given.
use Rattle.std.proofs.Common.{◌≡◌, ℕ, ◌+◌, ◌≤◌, List, [], ◌∷◌, length, Option, refl, sym, subst, arith}
use Rattle.definitions.specs.Disk.{Content}
use Rattle.definitions.specs.NumberPages.{meta_of}
use Rattle.image_check.specs.Info.{counts_in}
use Rattle.image_pages.specs.Stands.{Stands}
use Rattle.image_pages.specs.declared.pages.Pages.{Pages}
use Rattle.image_pages.proofs.SinceSaved.{stands_since}
use Rattle.image_pages.specs.Numbered.{HasNumbered}
use Rattle.image_pages.specs.declared.frames.numbers.Numbers.{Numbers}

no_list : (l : List (List ℕ)) → length l ≡ 0 → l ≡ []
no_list [] e = refl
no_list (x ∷ xs) e = cc

pub info_stands : (content : Option Content) (blocks header : ℕ) (n : Numbers) → HasNumbered content blocks header n [] → Stands content blocks header n.pages (n.info ∷ [])
info_stands content blocks header n h =
    let none : n.given ≡ 0 = sym h.size in
    subst (λ (x : List (List ℕ)). Stands content blocks header n.pages (n.info ∷ x)) (no_list h.listed (omega (arith, h.listed_size, none))) h.stands

-- other pages stand ahead too, if they stand where these do, over a disk that reads as before
pub ahead_stands : (c d : Option Content) (m k header : ℕ) (n : Numbers) (p : Pages) → d ≡ c → k ≡ m → HasNumbered c m header n [] → (Stands c m header n.pages (n.info ∷ []) → Stands c m header p (n.info ∷ [])) → Stands d k header p (n.info ∷ [])
ahead_stands c d m k header n p e i h f =
    stands_since c d m k header p (n.info ∷ []) (sym e) (sym i) (f (info_stands c m header n h))

pub enough_ahead : (content : Option Content) (blocks header : ℕ) (n : Numbers) (count pages : ℕ) → HasNumbered content blocks header n [] → count ≡ (counts_in n.info).image_pages → pages ≡ meta_of count → length (n.info ∷ []) + pages ≤ (counts_in n.info).pages
enough_ahead content blocks header n count pages h same all = omega (arith, h.room, h.count, same, all)
