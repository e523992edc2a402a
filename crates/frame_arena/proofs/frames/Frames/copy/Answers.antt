use Rattle.std.proofs.Common.{◌<◌, ◌∙◌, [], ℕ, List, get_or, set, sym, ap, ap₂, subst, arith}
use Rattle.definitions.specs.Tables.{with_frame}
use Rattle.frame_arena.specs.Places.{contents}
use Rattle.frame_arena.proofs.Places.{within, place_inside, page_of, shared_of, written_over, seen_in, added_over, kept_added_over, room_over}
use Rattle.frame_arena.proofs.frames.Frames.copy.Goals as goal

pub index-source-requires : goal.index-source-requires
index-source-requires c =
    let places = c.self.inside.places in
    let pages = c.self.inside.pages in
    subst (λ (n : ℕ). c.args.from < n) (sym places.ok.0) (within places.items pages.items pages.cap c.self.invariant c.args.self.now c.self.view_is c.args.from c.requires.from_in_range)

pub returns-then-source-lt-SHARED : goal.returns-then-source-lt-SHARED
returns-then-source-lt-SHARED c =
    let places = c.self.inside.places in
    let pages = c.self.inside.pages in
    let shared = c.index-source.result.now in
    c.share.ensures ∙ ap (with_frame c.args.self.now c.args.to) (sym (shared_of places.items pages.items pages.cap c.self.invariant c.args.self.now c.self.view_is c.args.from c.requires.from_in_range shared c.index-source.ensures (omega arith)))

pub index-target-requires : goal.index-target-requires
index-target-requires c =
    let places = c.self.inside.places in
    let pages = c.self.inside.pages in
    subst (λ (n : ℕ). c.args.to < n) (sym places.ok.0) (within places.items pages.items pages.cap c.self.invariant c.args.self.now c.self.view_is c.args.to c.requires.to_in_range)

pub index_mut-requires : goal.index_mut-requires
index_mut-requires c =
    let places = c.self.inside.places in
    let pages = c.self.inside.pages in
    subst (λ (n : ℕ). c.args.to < n) (sym places.ok.0) (within places.items pages.items pages.cap c.self.invariant c.args.self.now c.self.view_is c.args.to c.requires.to_in_range)

pub push_copy-requires-clause-in_range : goal.push_copy-requires-clause-in_range
push_copy-requires-clause-in_range c =
    let places = c.self.inside.places in
    let pages = c.self.inside.pages in
    place_inside places.items pages.items pages.cap c.self.invariant c.args.self.now c.self.view_is c.args.from c.requires.from_in_range c.index-source.result.now c.index-source.ensures

pub push_copy-requires-clause-room : goal.push_copy-requires-clause-room
push_copy-requires-clause-room c =
    let places = c.self.inside.places in
    let pages = c.self.inside.pages in
    let room = room_over places.items pages.items pages.cap c.self.invariant c.args.self.now c.self.view_is c.args.to c.requires.to_in_range c.index-target.result.now c.index-target.ensures (omega arith) in
    subst (λ (n : ℕ). n < pages.cap) (sym pages.ok.0) room

pub invariant_of-self : goal.invariant_of-self
invariant_of-self c =
    let places = c.self.inside.places in
    let pages = c.self.inside.pages in
    let size = c.len.ensures ∙ pages.ok.0 in
    let page = get_or pages.items c.index-source.result.now [] in
    rw (size, c.push_copy.ensures.pages, c.push_copy.ensures.capacity)
    (kept_added_over places.items pages.items pages.cap c.self.invariant c.args.self.now c.self.view_is c.args.to c.requires.to_in_range c.index-target.result.now c.index-target.ensures page (omega arith))

pub returns-then-target-lt-SHARED : goal.returns-then-target-lt-SHARED
returns-then-target-lt-SHARED c =
    let places = c.self.inside.places in
    let pages = c.self.inside.pages in
    let size = c.len.ensures ∙ pages.ok.0 in
    let page = get_or pages.items c.index-source.result.now [] in
    ap₂ (λ (place : ℕ) (all : List (List ℕ)). contents (set places.items c.args.to place) all) size c.push_copy.ensures.pages
    ∙ added_over places.items pages.items pages.cap c.self.invariant c.args.self.now c.self.view_is c.args.to c.requires.to_in_range c.index-target.result.now c.index-target.ensures page
    ∙ ap (with_frame c.args.self.now c.args.to) (seen_in places.items pages.items pages.cap c.self.invariant c.args.self.now c.self.view_is c.args.from c.requires.from_in_range c.index-source.result.now c.index-source.ensures)

pub index-requires : goal.index-requires
index-requires c =
    let places = c.self.inside.places in
    let pages = c.self.inside.pages in
    let source = c.index-source.result.now in
    subst (λ (n : ℕ). source < n) (sym pages.ok.0) (place_inside places.items pages.items pages.cap c.self.invariant c.args.self.now c.self.view_is c.args.from c.requires.from_in_range source c.index-source.ensures)

pub index_mut-requires-2 : goal.index_mut-requires-2
index_mut-requires-2 c =
    let places = c.self.inside.places in
    let pages = c.self.inside.pages in
    let target = c.index-target.result.now in
    subst (λ (n : ℕ). target < n) (sym pages.ok.0) (place_inside places.items pages.items pages.cap c.self.invariant c.args.self.now c.self.view_is c.args.to c.requires.to_in_range target c.index-target.ensures)

pub returns : goal.returns
returns c =
    let places = c.self.inside.places in
    let pages = c.self.inside.pages in
    let target = c.index-target.result.now in
    let page = c.from_bytes-page.result in
    let read = page_of places.items pages.items pages.cap c.self.invariant c.args.self.now c.self.view_is c.args.from c.requires.from_in_range c.index-source.result.now c.index-source.ensures c.index.result.now c.index.ensures c.as_bytes.ensures.page in
    written_over places.items pages.items pages.cap c.self.invariant c.args.self.now c.self.view_is c.args.to c.requires.to_in_range target c.index-target.ensures page (omega arith) c.from_bytes-page.ensures.page
    ∙ ap (with_frame c.args.self.now c.args.to) (c.from_bytes-page.ensures.bytes ∙ c.as_bytes.ensures.bytes ∙ read)
