use Rattle.std.proofs.Common.{◌≡◌, ◌∙◌, ap, sym, arith, subst, List, ℕ}
use Rattle.definitions.specs.SwapMap.{map_page, map_link}
use Rattle.definitions.proofs.PageWords.{word-with_word}
use Rattle.image_format.specs.Writer.{entries_of}
use Rattle.image_format.proofs.Entries.{whole, kept_by_link, entries_of-with_word}
use Rattle.image_format.proofs.map.writer.MapWriter.link.Goals as goal

pub invariant_of-self : goal.invariant_of-self
invariant_of-self c =
    let a = c.self.inside in
    record {
      room = c.self.invariant.room;
      page = subst (λ (p : List ℕ). p ≡ map_page (entries_of p a.count) (map_link p)) (sym c.set_word.ensures.set) (kept_by_link a.page a.count c.args.next c.self.invariant.room (omega arith) c.self.invariant.page);
    }

pub returns-clause-link : goal.returns-clause-link
returns-clause-link c =
    let a = c.self.inside in
    ap map_link c.set_word.ensures.set ∙ word-with_word a.page 511 c.args.next (whole a.page a.count c.self.invariant.room c.self.invariant.page) (omega arith) (omega arith)

pub returns-clause-entries : goal.returns-clause-entries
returns-clause-entries c =
    let a = c.self.inside in
    ap (λ (p : List ℕ). entries_of p a.count) c.set_word.ensures.set
    ∙ entries_of-with_word a.page 511 c.args.next a.count (whole a.page a.count c.self.invariant.room c.self.invariant.page) (omega arith) c.self.invariant.room
    ∙ ap (λ m. m.entries) c.self.view_is
