use Rattle.std.proofs.Common.{sym, refl, ◌∙◌}
use Rattle.std.proofs.lemmas.List.{get_or_default}
use Rattle.frame_arena.proofs.Places.{within, page_of, lent_over}
use Rattle.frame_arena.proofs.frames.Frames.page_mut.Goals as goal

pub own_place-place-requires-clause-in_range : goal.own_place-place-requires-clause-in_range
own_place-place-requires-clause-in_range c =
    let places = c.self.inside.places in
    let pages = c.self.inside.pages in
    within places.items pages.items pages.cap c.self.invariant c.args.self.now c.self.view_is c.args.p c.requires

pub returns : goal.returns
returns c =
    let p = c.args.p in
    let places = c.own_place-place.new.places in
    let pages = c.own_place-place.new.pages in
    let place = c.own_place-place.result in
    let kept = c.own_place-place.ensures.kept in
    let seen = c.own_place-place.ensures.contents ∙ c.self.view_is in
    let lt = within places.items pages.items pages.cap kept c.args.self.now seen p c.requires in
    let at = sym c.own_place-place.ensures.place ∙ get_or_default places.items p 0 place lt in
    let page = c.index_mut-page.result.now in (
      (refl, λ last. lent_over places.items pages.items pages.cap kept c.args.self.now seen p c.requires place at last c.own_place-place.ensures.own),
      record {
        writes_back = tt;
        value = page_of places.items pages.items pages.cap kept c.args.self.now seen p c.requires place at page c.index_mut-page.ensures.value c.is_page.ensures.page;
      },
    )
