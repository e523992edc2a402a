use Rattle.std.proofs.Common.{◌≡◌, ◌<◌, ◌∙◌, ℕ, sym, ap, subst, arith}
use Rattle.definitions.specs.Bytes.{IsPage}
use Rattle.definitions.specs.Tables.{with_frame}
use Rattle.frame_arena.specs.Places.{shared_page}
use Rattle.frame_arena.proofs.Whole.{page_of_zeros}
use Rattle.frame_arena.proofs.Places.{shared_zeros, shared_filled, within, place_inside, kept_over, moved_over, written_over}
use Rattle.frame_arena.proofs.frames.Frames.share.Goals as goal

pub index-place-requires : goal.index-place-requires
index-place-requires c =
    let places = c.self.inside.places in
    let pages = c.self.inside.pages in
    subst (λ (n : ℕ). c.args.p < n) (sym places.ok.0) (within places.items pages.items pages.cap c.self.invariant c.args.self.now c.self.view_is c.args.p c.requires.in_range)

pub index_mut-requires : goal.index_mut-requires
index_mut-requires c =
    let places = c.self.inside.places in
    let pages = c.self.inside.pages in
    subst (λ (n : ℕ). c.args.p < n) (sym places.ok.0) (within places.items pages.items pages.cap c.self.invariant c.args.self.now c.self.view_is c.args.p c.requires.in_range)

pub invariant_of-self : goal.invariant_of-self
invariant_of-self c =
    let places = c.self.inside.places in
    let pages = c.self.inside.pages in
    let place = c.index-place.result.now in
    kept_over places.items pages.items pages.cap c.self.invariant c.args.self.now c.self.view_is c.args.p c.requires.in_range place c.index-place.ensures c.args.shared c.requires.shared (omega arith)

pub returns-then-place-lt-SHARED : goal.returns-then-place-lt-SHARED
returns-then-place-lt-SHARED c =
    let places = c.self.inside.places in
    let pages = c.self.inside.pages in
    let place = c.index-place.result.now in
    moved_over places.items pages.items pages.cap c.self.invariant c.args.self.now c.self.view_is c.args.p c.requires.in_range place c.index-place.ensures c.args.shared c.requires.shared

pub index_mut-requires-then-shared-eq-ZEROS : goal.index_mut-requires-then-shared-eq-ZEROS
index_mut-requires-then-shared-eq-ZEROS c =
    let places = c.self.inside.places in
    let pages = c.self.inside.pages in
    let place = c.index-place.result.now in
    subst (λ (n : ℕ). place < n) (sym pages.ok.0) (place_inside places.items pages.items pages.cap c.self.invariant c.args.self.now c.self.view_is c.args.p c.requires.in_range place c.index-place.ensures)

pub index_mut-requires-else-shared-eq-ZEROS : goal.index_mut-requires-else-shared-eq-ZEROS
index_mut-requires-else-shared-eq-ZEROS c =
    let places = c.self.inside.places in
    let pages = c.self.inside.pages in
    let place = c.index-place.result.now in
    subst (λ (n : ℕ). place < n) (sym pages.ok.0) (place_inside places.items pages.items pages.cap c.self.invariant c.args.self.now c.self.view_is c.args.p c.requires.in_range place c.index-place.ensures)

pub returns-then-shared-eq-ZEROS : goal.returns-then-shared-eq-ZEROS
returns-then-shared-eq-ZEROS c =
    let places = c.self.inside.places in
    let pages = c.self.inside.pages in
    let place = c.index-place.result.now in
    written_over places.items pages.items pages.cap c.self.invariant c.args.self.now c.self.view_is c.args.p c.requires.in_range place c.index-place.ensures c.zero.result (omega arith) (subst IsPage (sym c.zero.ensures) page_of_zeros)
    ∙ ap (with_frame c.args.self.now c.args.p) (c.zero.ensures ∙ sym shared_zeros ∙ ap shared_page (sym c.if-shared-eq-ZEROS.true))

pub returns-else-shared-eq-ZEROS : goal.returns-else-shared-eq-ZEROS
returns-else-shared-eq-ZEROS c =
    let places = c.self.inside.places in
    let pages = c.self.inside.pages in
    let place = c.index-place.result.now in
    let second : c.args.shared ≡ 1 = omega (arith, c.requires.shared, c.if-shared-eq-ZEROS.false) in
    written_over places.items pages.items pages.cap c.self.invariant c.args.self.now c.self.view_is c.args.p c.requires.in_range place c.index-place.ensures c.filled.result (omega arith) c.filled.ensures.page
    ∙ ap (with_frame c.args.self.now c.args.p) (c.filled.ensures.bytes ∙ sym shared_filled ∙ ap shared_page (sym second))
