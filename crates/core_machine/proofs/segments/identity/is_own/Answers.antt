use Rattle.std.proofs.Common.{◌≡◌, ℕ, List, [], ◌∷◌, refl, ap, ◌∙◌}
use Rattle.std.specs.Prelude.{nat_eq}
use Rattle.std.specs.List.{starts_with}
use Rattle.elf_core.specs.Elf.{note_bytes}
use Rattle.elf_core.specs.Numbers.{word}
use Rattle.core_machine.proofs.segments.identity.is_own.Goals as goal

-- how such a note begins
head_is : 9 ∷ 0 ∷ 0 ∷ 0 ∷ 140 ∷ 1 ∷ 0 ∷ 0 ∷ 1 ∷ 0 ∷ 0 ∷ 0 ∷ 68 ∷ 73 ∷ 82 ∷ 85 ∷ 75 ∷ 79 ∷ 70 ∷ 69 ∷ 0 ∷ 0 ∷ 0 ∷ 0 ∷ [] ≡ note_bytes []
unfolding note_bytes word
head_is = refl

pub returns : goal.returns
returns c = c.starts_with.ensures.value ∙ ap (λ (head : List ℕ). starts_with nat_eq c.args.note.now head) head_is
