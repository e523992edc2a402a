use Rattle.std.proofs.Common.{◌≡◌, ℕ, List, length, replicate, sym, ap, ap₂, ◌∙◌}
use Rattle.definitions.specs.Bytes.{zero_page}
use Rattle.frame_arena.specs.Places.{contents}
use Rattle.frame_arena.proofs.Places.{length-contents, kept_forgotten, contents_forgotten}
use Rattle.frame_arena.proofs.frames.Frames.zero_all.Goals as goal

-- each number of the table is set to zero
zeros : (places filled : List ℕ) (len : ℕ) → len ≡ length places → filled ≡ replicate len 0 → filled ≡ replicate (length places) 0
zeros places filled len size is = is ∙ ap (λ (n : ℕ). replicate n 0) size

pub invariant_of-self : goal.invariant_of-self
invariant_of-self c =
    let places = c.self.inside.places in
    let pages = c.self.inside.pages in
    rw (zeros places.items c.fill.new.self.items places.len places.ok.0 (c.fill.ensures.items (λ y is. is)), c.truncate.ensures.items, c.truncate.ensures.capacity) (kept_forgotten places.items pages.items pages.cap c.self.invariant)

pub returns : goal.returns
returns c =
    let places = c.self.inside.places in
    let pages = c.self.inside.pages in
    let size = sym (length-contents places.items pages.items) ∙ ap length c.self.view_is in
    ap₂ contents (zeros places.items c.fill.new.self.items places.len places.ok.0 (c.fill.ensures.items (λ y is. is))) c.truncate.ensures.items
    ∙ contents_forgotten places.items pages.items pages.cap c.self.invariant
    ∙ ap (λ (n : ℕ). replicate n zero_page) size
