use Rattle.std.proofs.Common.{◌<◌, ◌^◌, ◌∷◌, ◌++◌, [], ℕ, List, get_or, set, length, sym, subst, ap, ◌∙◌, ap₂, arith}
use Rattle.std.proofs.lemmas.List.{get_or_default}
use Rattle.frame_arena.specs.Places.{contents, shared_page}
use Rattle.frame_arena.proofs.Places.{contents_same, room_for_one, few_pages, kept_added}
use Rattle.frame_arena.proofs.frames.own_place.Goals as goal

pub overflow_cast-added : goal.overflow_cast-added
overflow_cast-added c =
    let places = c.args.places.now in
    let pages = c.args.pages.now in
    let at = get_or_default places.items c.args.p 0 c.index-place.result.now c.requires.in_range ∙ sym c.index-place.ensures in
    record { fits = subst (λ (n : ℕ). n < 2 ^ 32) (sym (c.len-added.ensures ∙ pages.ok.0)) (few_pages places.items pages.items pages.cap c.requires.kept c.args.p c.requires.in_range (omega arith)) }

pub push_shared-requires-clause-room : goal.push_shared-requires-clause-room
push_shared-requires-clause-room c =
    let places = c.args.places.now in
    let pages = c.args.pages.now in
    let at = get_or_default places.items c.args.p 0 c.index-place.result.now c.requires.in_range ∙ sym c.index-place.ensures in
    subst (λ (n : ℕ). n < pages.cap) (sym pages.ok.0) (room_for_one places.items pages.items pages.cap c.requires.kept c.args.p c.requires.in_range (omega arith))

pub returns-clause-kept : goal.returns-clause-kept
returns-clause-kept c =
    let places = c.args.places.now in
    let pages = c.args.pages.now in
    let at = get_or_default places.items c.args.p 0 c.index-place.result.now c.requires.in_range ∙ sym c.index-place.ensures in
    let size = c.len-added.ensures ∙ pages.ok.0 in
    let page = shared_page c.index-place.result.now in
    rw (size, c.push_shared.ensures.pages, c.push_shared.ensures.capacity) (kept_added places.items pages.items pages.cap c.requires.kept c.args.p page c.requires.in_range (omega arith))

pub returns-clause-contents : goal.returns-clause-contents
returns-clause-contents c =
    let places = c.args.places.now in
    let pages = c.args.pages.now in
    let place = c.index-place.result.now in
    let at = get_or_default places.items c.args.p 0 place c.requires.in_range ∙ sym c.index-place.ensures in
    let size = c.len-added.ensures ∙ pages.ok.0 in
    let seen = sym (c.requires.kept.shared place (omega arith)) ∙ ap (λ (k : ℕ). get_or pages.items k []) (sym at) in
    ap₂ (λ (place : ℕ) (all : List (List ℕ)). contents (set places.items c.args.p place) all) size c.push_shared.ensures.pages
    ∙ ap (λ (page : List ℕ). contents (set places.items c.args.p (length pages.items)) (pages.items ++ page ∷ [])) seen
    ∙ contents_same places.items pages.items pages.cap c.requires.kept c.args.p c.requires.in_range
