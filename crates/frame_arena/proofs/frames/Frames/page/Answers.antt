use Rattle.std.proofs.Common.{◌<◌, ℕ, sym, subst}
use Rattle.frame_arena.proofs.Places.{within, place_inside, page_of}
use Rattle.frame_arena.proofs.frames.Frames.page.Goals as goal

pub index-place-requires : goal.index-place-requires
index-place-requires c =
    let places = c.self.inside.places in
    let pages = c.self.inside.pages in
    subst (λ (n : ℕ). c.args.p < n) (sym places.ok.0) (within places.items pages.items pages.cap c.self.invariant c.args.self.now c.self.view_is c.args.p c.requires)

pub index-page-requires : goal.index-page-requires
index-page-requires c =
    let places = c.self.inside.places in
    let pages = c.self.inside.pages in
    let place = c.index-place.result.now in
    subst (λ (n : ℕ). place < n) (sym pages.ok.0) (place_inside places.items pages.items pages.cap c.self.invariant c.args.self.now c.self.view_is c.args.p c.requires place c.index-place.ensures)

pub returns-clause-content : goal.returns-clause-content
returns-clause-content c =
    let places = c.self.inside.places in
    let pages = c.self.inside.pages in
    page_of places.items pages.items pages.cap c.self.invariant c.args.self.now c.self.view_is c.args.p c.requires c.index-place.result.now c.index-place.ensures c.index-page.result.now c.index-page.ensures c.is_page.ensures.page
