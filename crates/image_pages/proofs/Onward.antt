-- What is returned after steps that gave nothing.
use Rattle.std.proofs.Common.{◌≡◌, ℕ, ◌≤◌, List, Option, subst, ◌∙◌, arith}
use Rattle.definitions.specs.Disk.{Content}
use Rattle.image_walk.specs.Walking.{names_left}
use Rattle.image_check.specs.Told.{Told}
use Rattle.image_pages.specs.Ends.{IsRefused, Says}
use Rattle.image_pages.specs.declared.pages.Next.{Next}
use Rattle.image_pages.specs.declared.pages.Next.TheVariants.{Page, End, Refused}
use Rattle.image_pages.specs.declared.pages.Pages.{Pages}
use Rattle.image_pages.proofs.Earlier.{ended_earlier, refused_earlier}

pub says_earlier : (content : Option Content) (blocks header before then now : ℕ) (first old new : Told) (given : List (List ℕ)) (o p q : Pages) (page : List ℕ) (n : Next) → old ≡ first → before ≤ then → names_left p.walker ≤ names_left o.walker → Says content blocks header then now old new given p q page n → Says content blocks header before now first new given o q page n
says_earlier content blocks header before then now first old new given o p q page Page same le few (told, stands, chain, fewer) =
    (told ∙ same, stands, chain, omega arith)
says_earlier content blocks header before then now first old new given o p q page End same le few (told, ended, whole) =
    (told ∙ same, ended_earlier content blocks header before then now given le ended, whole)
says_earlier content blocks header before then now first old new given o p q page Refused same le few refused =
    subst (λ (t : Told). IsRefused content blocks header before now t new given) same
    (refused_earlier content blocks header before then now old new given le refused)
