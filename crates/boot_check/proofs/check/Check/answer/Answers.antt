use Rattle.std.proofs.Common.{◌≡◌, ℕ, ◌++◌, ◌∷◌, [], List, Ok, true, false, arith, sym, subst}
use Rattle.image_walk.specs.Names.{IsReadFrom}
use Rattle.image_check.specs.declared.finding.Finding.{Finding}
use Rattle.boot_check.specs.Found.{HasFound}
use Rattle.boot_check.proofs.Between.{at_header, at_name}
use Rattle.boot_check.proofs.check.Check.answer.Goals as goal

pub returns-in-Header-clause-found : goal.returns-in-Header-clause-found
returns-in-Header-clause-found g c = λ content faults blocks header b asked found h pending read.
    let self = c.args.self.now in
    let a = at_header content faults blocks header b self.stage self.names c.args.words.now asked found c.in-Header.is h pending in
    let t = c.take_header.ensures.found content faults blocks header a.within a.blocks_are a.header_is
    (subst (λ k. IsReadFrom content k (Ok c.args.page.now)) (sym a.block) read) in
    let new = c.take_header.new.self in
    let lent = c.take_header.new.words in (
      t.0,
      (
        t.1.0,
        subst (λ k. HasFound content faults blocks header new lent (k ∷ asked) (found ++ t.0)) a.block
            (subst (λ (x : List ℕ). HasFound content faults blocks header new lent (header ∷ x) (found ++ t.0)) a.none_asked
            (subst (λ (f : List Finding). HasFound content faults blocks header new lent (header ∷ []) (f ++ t.0)) a.none_found t.1.1)),
      ),
    )

not_so : false ≡ true → ⊥
not_so e = cc

pub returns-in-Name-clause-found : goal.returns-in-Name-clause-found
returns-in-Name-clause-found g c = λ content faults blocks header b asked found h pending read.
    let self = c.args.self.now in
    let a = at_name content faults blocks header b c.in-Name.block self.stage self.names c.args.words.now asked found c.in-Name.is h pending in
    c.take_name.ensures.found content faults faults blocks header b asked found a.1
    (record { read = read; told = tt; rises = omega arith; unread = λ u. absurd (not_so u) })
