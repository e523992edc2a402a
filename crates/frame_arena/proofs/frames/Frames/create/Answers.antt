use Rattle.std.proofs.Common.{◌≡◌, ◌+◌, ◌∷◌, ◌++◌, ℕ, List, [], replicate, ap₂, refl, ◌∙◌, arith}
use Rattle.definitions.specs.Bytes.{zero_page, filled_page}
use Rattle.frame_arena.specs.Places.{contents}
use Rattle.frame_arena.proofs.Places.{kept_zeros, contents_zeros, shared_pages}
use Rattle.frame_arena.proofs.frames.Frames.create.Goals as goal

-- the two pages alone
alone : (pages first none : List (List ℕ)) (page other : List ℕ) → pages ≡ first ++ other ∷ [] → first ≡ none ++ page ∷ [] → none ≡ [] → page ≡ zero_page → other ≡ filled_page 165
    → pages ≡ zero_page ∷ filled_page 165 ∷ []
alone pages first none page other is before empty zeros filled =
    is ∙ ap₂ (λ (all : List (List ℕ)) (last : List ℕ). all ++ last ∷ []) (before ∙ ap₂ (λ (all : List (List ℕ)) (last : List ℕ). all ++ last ∷ []) empty zeros) filled

pub invariant_of-result : goal.invariant_of-result
invariant_of-result c =
    let n = c.args.n in
    let pages = c.push_reserved-2.new.self in
    let places : c.in-Ok.places.items ≡ replicate n 0 = c.in-Ok.ensures.items_if_clones_equal (λ y is. is) in
    let page : pages.items ≡ zero_page ∷ filled_page 165 ∷ [] =
    alone pages.items c.push_reserved.new.self.items c.in-Ok-with_capacity.pages.items c.zero.result c.filled.result c.push_reserved-2.ensures.items c.push_reserved.ensures.items c.in-Ok-with_capacity.ensures.items c.zero.ensures c.filled.ensures.bytes in
    let room : pages.cap ≡ 2 + n = (let same = c.push_reserved.ensures.capacity in let same_too = c.push_reserved-2.ensures.capacity in let exact = c.in-Ok-with_capacity.ensures.exact in omega arith) in
    rw (places, page) (kept_zeros n (zero_page ∷ filled_page 165 ∷ []) pages.cap (omega arith) (shared_pages (zero_page ∷ filled_page 165 ∷ []) refl) refl room)

pub returns : goal.returns
returns c =
    let n = c.args.n in
    let pages = c.push_reserved-2.new.self in
    let places : c.in-Ok.places.items ≡ replicate n 0 = c.in-Ok.ensures.items_if_clones_equal (λ y is. is) in
    let page : pages.items ≡ zero_page ∷ filled_page 165 ∷ [] =
    alone pages.items c.push_reserved.new.self.items c.in-Ok-with_capacity.pages.items c.zero.result c.filled.result c.push_reserved-2.ensures.items c.push_reserved.ensures.items c.in-Ok-with_capacity.ensures.items c.zero.ensures c.filled.ensures.bytes in
    ap₂ contents places page ∙ contents_zeros n (zero_page ∷ filled_page 165 ∷ []) (shared_pages (zero_page ∷ filled_page 165 ∷ []) refl 0 (omega arith))
