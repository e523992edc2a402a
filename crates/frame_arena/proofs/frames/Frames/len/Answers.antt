use Rattle.std.proofs.Common.{ℕ, List, All, length, sym, ap, ◌∙◌, subst}
use Rattle.definitions.specs.Bytes.{IsPage}
use Rattle.frame_arena.proofs.Places.{length-contents, contents_pages}
use Rattle.frame_arena.proofs.frames.Frames.len.Goals as goal

pub returns-clause-len : goal.returns-clause-len
returns-clause-len c =
    let places = c.self.inside.places in
    c.len.ensures ∙ places.ok.0 ∙ sym (length-contents places.items c.self.inside.pages.items) ∙ ap length c.self.view_is

pub returns-clause-pages : goal.returns-clause-pages
returns-clause-pages c =
    let each : List (List ℕ) → Type 0 = λ frames. All IsPage frames in
    subst each c.self.view_is (contents_pages c.self.inside.places.items c.self.inside.pages.items)
