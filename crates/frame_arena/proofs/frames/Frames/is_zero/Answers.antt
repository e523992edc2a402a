use Rattle.std.proofs.Common.{◌≡◌, ◌<◌, ◌∙◌, ℕ, List, refl, sym, subst, ap, ap₂, nat_eq, arith}
use Rattle.std.specs.Cmp.Lexicographic.{pointwise, bytes_decides}
use Rattle.definitions.specs.Bytes.{zero_page}
use Rattle.frame_arena.specs.Places.{shared_page}
use Rattle.frame_arena.proofs.Places.{within, place_inside, page_of, shared_of, shared_in, shared_zeros}
use Rattle.frame_arena.proofs.frames.Frames.is_zero.Goals as goal

pub index-place-requires : goal.index-place-requires
index-place-requires c =
    let places = c.self.inside.places in
    let pages = c.self.inside.pages in
    subst (λ (n : ℕ). c.args.p < n) (sym places.ok.0) (within places.items pages.items pages.cap c.self.invariant c.args.self.now c.self.view_is c.args.p c.requires)

pub index-requires : goal.index-requires
index-requires c =
    let places = c.self.inside.places in
    let pages = c.self.inside.pages in
    let place = c.index-place.result.now in
    subst (λ (n : ℕ). place < n) (sym pages.ok.0) (place_inside places.items pages.items pages.cap c.self.invariant c.args.self.now c.self.view_is c.args.p c.requires place c.index-place.ensures)

pub returns-then-place-eq-ZEROS : goal.returns-then-place-eq-ZEROS
returns-then-place-eq-ZEROS c =
    let places = c.self.inside.places in
    let pages = c.self.inside.pages in
    let zeros = shared_of places.items pages.items pages.cap c.self.invariant c.args.self.now c.self.view_is c.args.p c.requires c.index-place.result.now c.index-place.ensures (omega arith) ∙ ap shared_page c.if-place-eq-ZEROS.true ∙ shared_zeros in
    sym (ap (λ (page : List ℕ). pointwise nat_eq page zero_page) zeros ∙ (bytes_decides zero_page zero_page).1 refl)

pub returns : goal.returns
returns c =
    let places = c.self.inside.places in
    let pages = c.self.inside.pages in
    let read =
    page_of places.items pages.items pages.cap c.self.invariant c.args.self.now c.self.view_is c.args.p c.requires c.index-place.result.now c.index-place.ensures c.index.result.now c.index.ensures c.as_bytes.ensures.page in
    let zeros : c.index-2.result.now ≡ zero_page =
    shared_in places.items pages.items pages.cap c.self.invariant 0 (omega arith) c.index-2.result.now c.index-2.ensures ∙ shared_zeros in
    c.eq.ensures ∙ ap₂ (λ (page : List ℕ) (none : List ℕ). pointwise nat_eq page none) (c.as_bytes.ensures.bytes ∙ read) (c.as_bytes-2.ensures.bytes ∙ zeros)
