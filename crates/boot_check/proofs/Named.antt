-- One more name.
use Rattle.std.proofs.Common.{◌≡◌, ℕ, ◌<◌, ◌≤◌, ◌++◌, ◌||◌, Bool, true, false, List, [], ◌∷◌, Option, Some, Result, Err, refl, sym, subst, ap, ◌∙◌, arith, append-nil, append_assoc, cond}
use Rattle.page_core.specs.declared.format.Format.{Format}
use Rattle.definitions.specs.Disk.{Content}
use Rattle.image_walk.specs.Names.{block_of, answer_of, seen, is_unread, IsReadFrom}
use Rattle.image_walk.specs.Walking.{Stands}
use Rattle.image_walk.specs.declared.limits.Limits.{Limits}
use Rattle.image_walk.specs.declared.visit.BlockFault.{BlockFault}
use Rattle.image_walk.specs.declared.visit.BlockFault.TheVariants as fault
use Rattle.image_check.specs.Checked.{has_unread}
use Rattle.image_check.specs.Image.{history_findings, name_findings}
use Rattle.image_check.specs.Told.{Told, Tells}
use Rattle.image_check.specs.declared.finding.Finding.{Finding}
use Rattle.image_check.proofs.Telling.{tells_none, tells_then}
use Rattle.boot_check.specs.Named.{HasNamed, TellsName, asked_in, asked_with}
use Rattle.boot_check.specs.declared.names.Names.{Names}

either : {P : Type 0} (a b : Bool) → (a || b) ≡ true → (a ≡ true → P) → (b ≡ true → P) → P
either true b e f g = f refl
either false b e f g = g e

pub named_more : (content : Option Content) (before faults first b : ℕ) (told : Result (Unit {0}) BlockFault) (page : List ℕ) (old new : Names) (words lent asked : List ℕ) (found : List Finding) (a z : Told) (s : HasNamed content before first old words asked found) (t : TellsName first b s.history told page old new lent a z) → new.limits ≡ old.limits → new.format ≡ old.format → before ≤ faults → IsReadFrom content b (seen told page) → (is_unread (seen told page) ≡ true → 0 < faults) → HasNamed content faults first new lent (asked_with (seen told page) b asked) (found ++ name_findings old.format s.history t.name)
named_more content before faults first b told page old new words lent asked found a z s t limits format le read unread = record {
  history = t.name ∷ s.history;
  stands = subst (λ (l : Limits). Stands l first new.walk lent (t.name ∷ s.history)) (sym limits) t.stands;
  knows = t.knows;
  pages = (
    s.pages,
    subst (λ (r : Result (List ℕ) BlockFault). IsReadFrom content (block_of t.name) r) (sym t.answer)
        (subst (λ k. IsReadFrom content k (seen told page)) (sym t.block) read),
  );
  unread = λ e. either (is_unread (answer_of t.name)) (has_unread s.history) e
      (λ u. unread (ap is_unread (sym t.answer) ∙ u)) (λ u. let some = s.unread u in omega arith);
  asked_is = ap (asked_with (seen told page) b) s.asked_is
      ∙ ap (λ k. asked_with (seen told page) k (asked_in s.history)) (sym t.block)
      ∙ ap (λ (r : Result (List ℕ) BlockFault). asked_with r (block_of t.name) (asked_in s.history)) (sym t.answer);
  found_is = ap (λ (f : List Finding). f ++ name_findings old.format s.history t.name) s.found_is
      ∙ ap (λ (f : Format). history_findings f (t.name ∷ s.history)) (sym format);
}

-- a fault that isn't that of a read
pub not_unread : (why : BlockFault) → ((b : ℕ) → ◌≡◌ {A = Option BlockFault} (Some why) (Some (fault.Unread b)) → ⊥) → is_unread (Err why) ≡ false
not_unread fault.Zero h = refl
not_unread (fault.BeyondFile b) h = refl
not_unread (fault.BeyondLast b) h = refl
not_unread (fault.Bad b) h = refl
not_unread (fault.Again b) h = refl
not_unread (fault.Unread b) h = absurd (h b refl)

-- such a name isn't asked for
pub not_asked : (why : BlockFault) (b : ℕ) (asked : List ℕ) → is_unread (Err why) ≡ false → asked_with (Err why) b asked ≡ asked
not_asked why b asked e = ap (λ (t : Bool). cond t (b ∷ asked) asked) e

-- What is told after what was told before, of names that follow one another.
pub record Goes (content : Option Content) (faults first : ℕ) (n : Names) (words asked : List ℕ) (found : List Finding) (start last : Told) : Type 0 where
  pub more : List Finding
  pub tells : Tells more start last
  pub named : HasNamed content faults first n words asked (found ++ more)

pub goes_start : (content : Option Content) (faults first : ℕ) (n : Names) (words asked : List ℕ) (found : List Finding) (start : Told) → HasNamed content faults first n words asked found → Goes content faults first n words asked found start start
goes_start content faults first n words asked found start s = record {
  more = [];
  tells = tells_none start;
  named = subst (λ (f : List Finding). HasNamed content faults first n words asked f) (sym (append-nil found)) s;
}

pub goes_more : (content : Option Content) (faults first b : ℕ) (why : BlockFault) (page : List ℕ) (old new : Names) (words lent asked : List ℕ) (found : List Finding) (start mid last : Told) (i : Goes content faults first old words asked found start mid) → TellsName first b i.named.history (Err why) page old new lent mid last → new.limits ≡ old.limits → new.format ≡ old.format → is_unread (Err why) ≡ false → Goes content faults first new lent asked found start last
goes_more content faults first b why page old new words lent asked found start mid last i t limits format read =
    let more = name_findings old.format i.named.history t.name in
    record {
      more = i.more ++ more;
      tells = tells_then i.more more start mid last i.tells t.tells;
      named = subst (λ (f : List Finding). HasNamed content faults first new lent asked f) (append_assoc found i.more more)
          (subst (λ (a : List ℕ). HasNamed content faults first new lent a ((found ++ i.more) ++ more)) (not_asked why b asked read)
          (named_more content faults faults first b (Err why) page old new words lent asked (found ++ i.more) mid last i.named t limits format (omega arith) tt (λ u. absurd (both u read))));
    } where
      both : {x : Bool} → x ≡ true → x ≡ false → ⊥
      both u v = cc
