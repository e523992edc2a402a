-- What the getters of clap's matches give, by the rows of the matches.
use Rattle.std.proofs.Common.{◌≡◌, ◌∙◌, ℕ, Bool, refl, sym, ap, Option, Some, None, List, codes}
use Rattle.clap.specs.Words.{Row, Text, first_of}
use Rattle.command_words.specs.Matched.{flag_at, number_at, swap_in}
use Rattle.command_words.specs.ImageMatched.{area_in, differ_in, formed_in, page_in}
use Rattle.command_words.specs.ImageWords.{Asked, SwapArea, page, differ}

module _ (rows : List Row) where
  pub no_swap : (x : SwapArea) → swap_in rows ≡ None → area_in rows ≡ Some x → ⊥
  no_swap x none e = let no : area_in rows ≡ None = rw none refl in cc

  pub no_offset : (x : SwapArea) (swap : Text) → swap_in rows ≡ Some swap → number_at 32 (codes "offset") rows ≡ None → area_in rows ≡ Some x → ⊥
  no_offset x swap is none e = let no : area_in rows ≡ None = rw (is, none) refl in cc

  pub has_area : (x : SwapArea) (swap : Text) (offset : ℕ) → swap_in rows ≡ Some swap → number_at 32 (codes "offset") rows ≡ Some offset → area_in rows ≡ Some x
      → Some (record { swap = swap; offset = offset }) ≡ Some x
  has_area x swap offset is at e = let made : area_in rows ≡ Some (record { swap = swap; offset = offset }) = rw (is, at) refl in sym made ∙ e

  -- a page's area is what the area's getter gives
  area_of_page : (x : Asked) (answer : Option SwapArea) → ((area : SwapArea) → area_in rows ≡ Some area → answer ≡ Some area) → page_in rows ≡ Some x
      → (area : SwapArea) × (area_in rows ≡ Some area) × (answer ≡ Some area)
  area_of_page x answer told e = go (area_in rows) refl
    where
      go : (o : Option SwapArea) → area_in rows ≡ o → (area : SwapArea) × (area_in rows ≡ Some area) × (answer ≡ Some area)
      go None is = let no : page_in rows ≡ None = rw is refl in cc
      go (Some area) is = (area, is, told area is)

  pub no_area : (x : Asked) → ((area : SwapArea) → area_in rows ≡ Some area → None ≡ Some area) → page_in rows ≡ Some x → ⊥
  no_area x told e = let p = area_of_page x None told e in let no : None ≡ Some p.0 = p.2 in cc

  pub no_frame : (x : Asked) (answer : Option SwapArea) → ((area : SwapArea) → area_in rows ≡ Some area → answer ≡ Some area)
      → number_at 64 (codes "frame") rows ≡ None → page_in rows ≡ Some x → ⊥
  no_frame x answer told none e =
      let p = area_of_page x answer told e in
      let no : page_in rows ≡ None = rw (p.1, none) refl in cc

  pub has_page : (x : Asked) (area : SwapArea) (frame : ℕ) → ((known : SwapArea) → area_in rows ≡ Some known → Some area ≡ Some known)
      → number_at 64 (codes "frame") rows ≡ Some frame → page_in rows ≡ Some x → Some (page area frame) ≡ Some x
  has_page x area frame told at e =
      let p = area_of_page x (Some area) told e in
      let made : page_in rows ≡ Some (page p.0 frame) = rw (p.1, at) refl in
      let same : area ≡ p.0 = cc in
      ap (λ (a : SwapArea). Some (page a frame)) same ∙ (sym made ∙ e)

  -- and that of a comparison
  area_of_differ : (x : Asked) (answer : Option SwapArea) → ((area : SwapArea) → area_in rows ≡ Some area → answer ≡ Some area) → differ_in rows ≡ Some x
      → (area : SwapArea) × (area_in rows ≡ Some area) × (answer ≡ Some area)
  area_of_differ x answer told e = go (area_in rows) refl
    where
      go : (o : Option SwapArea) → area_in rows ≡ o → (area : SwapArea) × (area_in rows ≡ Some area) × (answer ≡ Some area)
      go None is = let no : differ_in rows ≡ None = rw is refl in cc
      go (Some area) is = (area, is, told area is)

  pub no_compared : (x : Asked) → ((area : SwapArea) → area_in rows ≡ Some area → None ≡ Some area) → differ_in rows ≡ Some x → ⊥
  no_compared x told e = let p = area_of_differ x None told e in let no : None ≡ Some p.0 = p.2 in cc

  pub no_other : (x : Asked) (answer : Option SwapArea) → ((area : SwapArea) → area_in rows ≡ Some area → answer ≡ Some area)
      → first_of (codes "other") rows ≡ None → differ_in rows ≡ Some x → ⊥
  no_other x answer told none e =
      let p = area_of_differ x answer told e in
      let no : differ_in rows ≡ None = rw (p.1, none) refl in cc

  pub has_compared : (x : Asked) (area : SwapArea) (other : Text) (first_only : Bool) → ((known : SwapArea) → area_in rows ≡ Some known → Some area ≡ Some known)
      → first_of (codes "other") rows ≡ Some other → ((flag : Bool) → flag_at (codes "first") rows ≡ Some flag → first_only ≡ flag) → differ_in rows ≡ Some x
      → Some (differ first_only area other) ≡ Some x
  has_compared x area other first_only told at flagged e =
      let p = area_of_differ x (Some area) told e in
      let same : area ≡ p.0 = cc in
      go p.0 p.1 same (flag_at (codes "first") rows) refl
    where
      go : (known : SwapArea) → area_in rows ≡ Some known → area ≡ known → (o : Option Bool) → flag_at (codes "first") rows ≡ o → Some (differ first_only area other) ≡ Some x
      go known is same None off = let none : differ_in rows ≡ None = rw (is, at, off) refl in cc
      go known is same (Some flag) on =
          let made : differ_in rows ≡ Some (differ flag known other) = rw (is, at, on) refl in
          ap (λ (b : Bool). Some (differ b area other)) (flagged flag on) ∙ (ap (λ (a : SwapArea). Some (differ flag a other)) same ∙ (sym made ∙ e))

  -- and so is that of a command in one of two forms
  area_of_formed : (x : Bool × SwapArea) (answer : Option SwapArea) → ((area : SwapArea) → area_in rows ≡ Some area → answer ≡ Some area) → formed_in rows ≡ Some x
      → (area : SwapArea) × (area_in rows ≡ Some area) × (answer ≡ Some area)
  area_of_formed x answer told e = go (area_in rows) refl
    where
      go : (o : Option SwapArea) → area_in rows ≡ o → (area : SwapArea) × (area_in rows ≡ Some area) × (answer ≡ Some area)
      go None is = let no : formed_in rows ≡ None = rw is refl in cc
      go (Some area) is = (area, is, told area is)

  pub no_formed : (x : Bool × SwapArea) → ((area : SwapArea) → area_in rows ≡ Some area → None ≡ Some area) → formed_in rows ≡ Some x → ⊥
  no_formed x told e = let p = area_of_formed x None told e in let no : None ≡ Some p.0 = p.2 in cc

  pub has_formed : (x : Bool × SwapArea) (area : SwapArea) (json : Bool) → ((known : SwapArea) → area_in rows ≡ Some known → Some area ≡ Some known)
      → ((flag : Bool) → flag_at (codes "json") rows ≡ Some flag → json ≡ flag) → formed_in rows ≡ Some x → Some (json, area) ≡ Some x
  has_formed x area json told flagged e =
      let p = area_of_formed x (Some area) told e in
      let same : area ≡ p.0 = cc in
      go p.0 p.1 same (flag_at (codes "json") rows) refl
    where
      go : (known : SwapArea) → area_in rows ≡ Some known → area ≡ known → (o : Option Bool) → flag_at (codes "json") rows ≡ o → Some (json, area) ≡ Some x
      go known is same None off = let none : formed_in rows ≡ None = rw (is, off) refl in cc
      go known is same (Some flag) at =
          let made : formed_in rows ≡ Some (flag, known) = rw (is, at) refl in
          ap (λ (b : Bool). Some (b, area)) (flagged flag at) ∙ (ap (λ (a : SwapArea). Some (flag, a)) same ∙ (sym made ∙ e))
