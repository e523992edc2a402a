-- The end of an image's pages over a disk that reads as before.
use Rattle.std.proofs.Common.{◌≡◌, ℕ, ◌≤◌, List, ◌∷◌, Option, subst, ◌∙◌}
use Rattle.definitions.specs.Disk.{Content}
use Rattle.image_check.specs.Told.{Told}
use Rattle.image_pages.specs.Chain.{IsWholeStream}
use Rattle.image_pages.specs.Ends.{IsEnded}
use Rattle.image_pages.specs.declared.pages.Pages.{Pages}
use Rattle.image_pages.proofs.Earlier.{ended_earlier}
use Rattle.image_pages.proofs.SinceSaved.{refused_since, stands_since}
use Rattle.image_pages.specs.Turns.{Ends, IsFull}
use Rattle.image_pages.specs.declared.frames.frames.Next.{Next}
use Rattle.image_pages.specs.declared.frames.frames.Next.TheVariants.{Frame, End, Refused}

pub full_since : (c d : Option Content) (m n header : ℕ) (p : Pages) (info : List ℕ) (rest : List (List ℕ)) → c ≡ d → m ≡ n → IsFull c m header p info rest → IsFull d n header p info rest
full_since c d m n header p info rest e i f = record { stands = stands_since c d m n header p (info ∷ rest) e i f.stands; size = f.size }

ended_since : (c d : Option Content) (m n header before then now : ℕ) (pages : List (List ℕ)) → c ≡ d → m ≡ n → before ≤ then → IsEnded c m header then now pages → IsEnded d n header before now pages
ended_since c d m n header before then now pages e i le h =
    ended_earlier d n header before then now pages le
    (subst (λ (x : Option Content). IsEnded x n header then now pages) e (subst (λ (k : ℕ). IsEnded c k header then now pages) i h))

pub ends_since : (c d : Option Content) (m n header before then now : ℕ) (told old end : Told) (pages : List (List ℕ)) (next : Next) → c ≡ d → m ≡ n → old ≡ told → before ≤ then → Ends c m header then now old end pages next → Ends d n header before now told end pages next
ends_since c d m n header before then now told old end pages (Frame number) e i t le h = absurd h
ends_since c d m n header before then now told old end pages End e i t le (untold, ended, whole) =
    (untold ∙ t, ended_since c d m n header before then now pages e i le ended, subst (λ (x : Option Content). IsWholeStream x header pages) e whole)
ends_since c d m n header before then now told old end pages Refused e i t le h = refused_since c d m n header before then now told old end pages e i t le h
