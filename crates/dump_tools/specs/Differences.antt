-- How two dumps differ: in their hardware, or in what an image of their memories would save (saveable_page,
-- kernel/power/snapshot.c).
use Rattle.std.specs.Prelude.{◌≡◌, ◌≢◌, ◌<◌, ◌↔◌, ◌⊎◌, ℕ, Contains}
use Rattle.definitions.specs.Tables.{frame}
use Rattle.plain_machine.specs.Machine as plain
use Rattle.machine.specs.declared.dump.Dump.{Dump}
use Rattle.dump_tools.specs.declared.difference.Difference.{Difference}
use Rattle.dump_tools.specs.declared.difference.Difference.TheVariants.{Hardware, Saveable, Page}

-- page frame p is saveable in a dump
abbrev pub IsSaveable : Dump → ℕ → Type 0
IsSaveable d p = Contains (plain.saveable d.hw d.frames) p

-- page frame p is saveable in only one of two dumps
abbrev pub IsOfOneAlone : Dump → Dump → ℕ → Type 0
IsOfOneAlone a b p = (IsSaveable a p × (IsSaveable b p → ⊥)) ⊎ ((IsSaveable a p → ⊥) × IsSaveable b p)

-- page frame p is saveable in both, with different pages
pub record HasTwoPages (a b : Dump) (p : ℕ) : Type 0 where
  pub first : IsSaveable a p
  pub second : IsSaveable b p
  pub other : frame b.frames p ≢ frame a.frames p

-- two dumps agree at page frame p: it is saveable in both or in neither, and if it is saveable it has the same page
pub record AgreeAt (a b : Dump) (p : ℕ) : Type 0 where
  pub saveable : IsSaveable a p ↔ IsSaveable b p
  pub page : IsSaveable a p → frame b.frames p ≡ frame a.frames p

-- two dumps agree at each page frame, or at each below p
abbrev pub AgreeEverywhere : Dump → Dump → Type 0
AgreeEverywhere a b = (p : ℕ) → AgreeAt a b p

abbrev pub AgreeBelow : Dump → Dump → ℕ → Type 0
AgreeBelow a b p = (q : ℕ) → q < p → AgreeAt a b q

-- The same hardware, the same saveable page frames, and the same page in each of these.
pub record AreSame (a b : Dump) : Type 0 where
  pub hardware : b.hw ≡ a.hw
  pub frames : plain.saveable b.hw b.frames ≡ plain.saveable a.hw a.frames
  pub pages : (p : ℕ) → IsSaveable a p → frame b.frames p ≡ frame a.frames p

-- the difference that two dumps have at page frame p
abbrev pub IsDifferenceAt : Dump → Dump → ℕ → Difference → Type 0
IsDifferenceAt a b p Hardware = ⊥
IsDifferenceAt a b p (Saveable q) = (q ≡ p) × IsOfOneAlone a b p
IsDifferenceAt a b p (Page q) = (q ≡ p) × HasTwoPages a b p

-- The first difference of two dumps: the hardware, or else the lowest page frame that is saveable in only one or has
-- different pages.
abbrev pub IsFirst : Dump → Dump → Difference → Type 0
IsFirst a b Hardware = b.hw ≢ a.hw
IsFirst a b (Saveable p) = (b.hw ≡ a.hw) × AgreeBelow a b p × IsOfOneAlone a b p
IsFirst a b (Page p) = (b.hw ≡ a.hw) × AgreeBelow a b p × HasTwoPages a b p
