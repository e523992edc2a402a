-- What a step over a disk shows, by what the walk takes.
use Rattle.std.proofs.Common.{◌≡◌, ℕ, true, List, ◌++◌, length, take, drop, Option, Result, sym, subst, ap, ◌∙◌, arith}
use Rattle.std.proofs.Math.Seq.{take-length}
use Rattle.std.proofs.lemmas.List.{take-append-le}
use Rattle.definitions.specs.Disk.{Content, HasRisen}
use Rattle.image_walk.specs.Names.{Name, seen, block_of, is_unread, IsReadFrom}
use Rattle.image_walk.specs.Walking.{IsSeen, Takes, name_of}
use Rattle.image_walk.specs.declared.limits.Limits.{Limits}
use Rattle.image_walk.specs.declared.visit.BlockFault.{BlockFault}
use Rattle.image_walk.specs.declared.visit.Visit.{Visit}
use Rattle.image_walk.specs.declared.walk.Walk.{Walk}

pub seen_by : (l : Limits) (first : ℕ) (content : Option Content) (before now : ℕ) (h : List Name) (b : ℕ) (told : Result (Unit {0}) BlockFault) (old new : Walk) (words : List ℕ) (v : Visit) (page : List ℕ) → Takes l first h b told old new words v page → IsReadFrom content b (seen told page) → (is_unread (seen told page) ≡ true → HasRisen before now) → IsSeen l first content before now h (name_of v page)
seen_by l first content before now h b told old new words v page t read unread = record {
  next = t.next;
  page = subst (λ (a : Result (List ℕ) BlockFault). IsReadFrom content (block_of (name_of v page)) a) (sym t.answer)
      (subst (λ k. IsReadFrom content k (seen told page)) (sym t.block) read);
  unread = λ e. unread (ap is_unread (sym t.answer) ∙ e);
}

-- words that were lent whole come back whole
pub lent_back : (n : ℕ) (xs ws : List ℕ) → n ≡ length xs → length ws ≡ length xs → take n (ws ++ drop (length ws) xs) ≡ ws
lent_back n xs ws e size =
    take-append-le n ws (drop (length ws) xs) (omega arith) ∙ ap (λ k. take k ws) (e ∙ sym size) ∙ take-length ws
