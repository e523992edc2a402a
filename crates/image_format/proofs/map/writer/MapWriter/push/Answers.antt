use Rattle.std.proofs.Common.{◌≡◌, ◌<◌, ◌∙◌, ◌+◌, ◌++◌, ◌∷◌, [], ap, sym, inr, arith, subst, length, List, ℕ}
use Rattle.definitions.specs.SwapMap.{map_page, map_link}
use Rattle.definitions.proofs.PageWords.{word-with_word_other}
use Rattle.image_format.specs.MapPages.{MapEntries}
use Rattle.image_format.specs.Writer.{entries_of}
use Rattle.image_format.proofs.Entries.{whole, kept_by_push, entries_of-push, length-entries_of}
use Rattle.image_format.proofs.map.writer.MapWriter.push.Goals as goal

pub invariant_of-self : goal.invariant_of-self
invariant_of-self c =
    let a = c.self.inside in
    let size = length-entries_of a.page a.count in
    let room : a.count < 511 = omega (arith, ap (λ (m : MapEntries). length m.entries) c.self.view_is, c.requires) in
    record {
      room = omega arith;
      page = subst (λ (p : List ℕ). p ≡ map_page (entries_of p (a.count + 1)) (map_link p)) (sym c.set_word.ensures.set) (kept_by_push a.page a.count c.args.block room (omega arith) c.self.invariant.page);
    }

pub returns-clause-entries : goal.returns-clause-entries
returns-clause-entries c =
    let a = c.self.inside in
    let size = length-entries_of a.page a.count in
    let room : a.count < 511 = omega (arith, ap (λ (m : MapEntries). length m.entries) c.self.view_is, c.requires) in
    ap (λ (p : List ℕ). entries_of p (a.count + 1)) c.set_word.ensures.set
    ∙ entries_of-push a.page a.count c.args.block (whole a.page a.count (omega arith) c.self.invariant.page) room (omega arith)
    ∙ ap (λ m. m.entries ++ c.args.block ∷ []) c.self.view_is

pub returns-clause-link : goal.returns-clause-link
returns-clause-link c =
    let a = c.self.inside in
    let size = length-entries_of a.page a.count in
    let room : a.count < 511 = omega (arith, ap (λ (m : MapEntries). length m.entries) c.self.view_is, c.requires) in
    ap map_link c.set_word.ensures.set
    ∙ word-with_word_other a.page a.count 511 c.args.block (whole a.page a.count (omega arith) c.self.invariant.page) (omega arith) (inr room)
    ∙ ap (λ m. m.link) c.self.view_is

pub returns-clause-full : goal.returns-clause-full
returns-clause-full c = rw (length-entries_of c.set_word.new.self (c.self.inside.count + 1)) c.room_after.ensures.full

pub returns-clause-room : goal.returns-clause-room
returns-clause-room c = rw (length-entries_of c.set_word.new.self (c.self.inside.count + 1)) c.room_after.ensures.room
