-- What holds over a disk that reads as before.
use Rattle.std.proofs.Common.{◌≡◌, ℕ, ◌≤◌, List, Option, Result, Ok, Err, OnErr, inl, inr, subst}
use Rattle.definitions.specs.Disk.{Content}
use Rattle.image_check.specs.Told.{Told}
use Rattle.image_pages.proofs.Earlier.{refused_earlier}
use Rattle.image_pages.proofs.Starting.{bad_earlier}
use Rattle.image_pages.specs.Opens.{IsBad}
use Rattle.image_pages.specs.OpensFrames.{OpensNumbers}
use Rattle.image_pages.specs.Numbered.{HasNumbered, HasTooMany}
use Rattle.image_pages.specs.declared.frames.numbers.Numbers.{Numbers}
use Rattle.image_pages.specs.declared.frames.numbers.Numbers.{Numbers}
use Rattle.image_pages.specs.declared.opened.Opened.{Opened}
use Rattle.image_pages.specs.declared.opened.Opened.TheVariants.{NoImage, Refused, Open}

bad_before : (content : Option Content) (blocks header before then now : ℕ) (told end : Told) → before ≤ then → IsBad content blocks header then now told end → IsBad content blocks header before now told end
bad_before content blocks header before then now told end le (inl bad) = inl (bad_earlier content blocks header before then now told end le bad)
bad_before content blocks header before then now told end le (inr (pages, refused)) = inr (pages, refused_earlier content blocks header before then now told end pages le refused)

numbers_open_earlier : (content : Option Content) (blocks header before then now : ℕ) (told end : Told) (o : Opened Numbers) → before ≤ then → OpensNumbers content blocks header then now told end o → OpensNumbers content blocks header before now told end o
numbers_open_earlier content blocks header before then now told end NoImage le h = h
numbers_open_earlier content blocks header before then now told end Refused le h = bad_before content blocks header before then now told end le h
numbers_open_earlier content blocks header before then now told end (Open numbers) le h = h

pub numbers_open_since : (c d : Option Content) (m n header before then now : ℕ) (told old end : Told) (o : Opened Numbers) → c ≡ d → m ≡ n → old ≡ told → before ≤ then → OpensNumbers c m header then now old end o → OpensNumbers d n header before now told end o
numbers_open_since c d m n header before then now told old end o e i t le h =
    numbers_open_earlier d n header before then now told end o le
    (subst (λ (x : Told). OpensNumbers d n header then now x end o) t
    (subst (λ (x : Option Content). OpensNumbers x n header then now old end o) e
    (subst (λ (k : ℕ). OpensNumbers c k header then now old end o) i h)))

pub on_err_any : {T E P : Type 0} (r : Result T E) → P → OnErr r P
on_err_any (Ok x) p = tt
on_err_any (Err e) p = p

pub too_many_since : (c d : Option Content) (m k header : ℕ) (n : Numbers) (given : List ℕ) → c ≡ d → m ≡ k → (h : HasNumbered c m header n given) → HasTooMany c m header n given h → (r : HasNumbered d k header n given) × HasTooMany d k header n given r
too_many_since c d m k header n given e i h many =
    subst (λ (x : Option Content). (r : HasNumbered x k header n given) × HasTooMany x k header n given r) e
    (subst (λ (j : ℕ). (r : HasNumbered c j header n given) × HasTooMany c j header n given r) i (h, many))
