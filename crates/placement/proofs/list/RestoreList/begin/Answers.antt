use Rattle.std.proofs.Common.{◌≡◌, ◌<◌, ◌≤◌, ◌+◌, ℕ, refl, List, length, get_or, arith, sym, ap, ◌∙◌, subst, nat_eq, All, Contains, true}
use Rattle.std.specs.List.{IsDistinct, list_any}
use Rattle.std.proofs.lemmas.Bool.{eqb-true}
use Rattle.std.proofs.lemmas.List.{length-set}
use Rattle.std.proofs.lemmas.Map.Steps.{length-le_from_distinct_below}
use Rattle.std.proofs.lemmas.Map.Views.{Contains-from_any}
use Rattle.definitions.specs.Bytes.{with_word, zero_page}
use Rattle.definitions.specs.Tables.{frame, with_frame}
use Rattle.definitions.specs.Zones.{top, numbers}
use Rattle.definitions.proofs.ZoneNumbers.{below_top, top_at_most}
use Rattle.placement.specs.Placed.{Placed, IsPlacement}
use Rattle.placement.proofs.ListPages.{AreMade, one_more_made, all_made, set_word_in}
use Rattle.placement.proofs.list.RestoreList.begin.Goals as goal

-- a list frame of a placement is a page frame of memory
within_memory : (p : Placed) (memory : List (List ℕ)) → IsPlacement p → top p.zones ≤ length memory → All (λ q. q < length memory) p.list
within_memory p memory h le i d lt =
    let low = below_top p.zones (get_or p.list i d) h.zones.apart (h.list_valid i d lt) in
    omega arith

-- there are at most 65,536 list frames
few_frames : (p : Placed) → IsPlacement p → length p.list ≤ 65536
few_frames p h =
    let most = top_at_most p.zones h.zones in
    let each : (q : ℕ) → list_any (nat_eq q) p.list ≡ true → q < top p.zones = λ q any.
    let in' = Contains-from_any (λ x y e. eqb-true x y e) q p.list any in
    below_top p.zones q h.zones.apart (subst (λ (x : ℕ). Contains (numbers p.zones) x) in'.2 (h.list_valid in'.0 q in'.1)) in
    let count = length-le_from_distinct_below p.list (top p.zones) h.list_distinct each in
    omega arith

-- the list frame that the loop is at
here : (p : Placed) (memory now : List (List ℕ)) (list : List ℕ) (i : ℕ) → IsPlacement p → top p.zones ≤ length memory → list ≡ p.list → length now ≡ length memory → i < length list → get_or list i 0 < length now
here p memory now list i h le is size lt =
    let within = subst (λ (ps : List ℕ). All (λ q. q < length memory) ps) (sym is) (within_memory p memory h le) in
    let low = within i 0 lt in
    omega arith

pub zero-requires : goal.zero-requires
zero-requires c =
    here c.args.placement.now c.args.frames.now c.loop-i.frames c.list_frames-list.result.now c.loop-i.i c.list_frames-list.ensures.placement c.requires.frames c.list_frames-list.ensures.list c.loop-i.invariant.size c.loop-i-test.true

pub set_word-requires-clause-frame_in_range : goal.set_word-requires-clause-frame_in_range
set_word-requires-clause-frame_in_range c =
    let low = here c.args.placement.now c.args.frames.now c.loop-i.frames c.list_frames-list.result.now c.loop-i.i c.list_frames-list.ensures.placement c.requires.frames c.list_frames-list.ensures.list c.loop-i.invariant.size c.loop-i-test.true in
    let same = ap length c.zero.ensures ∙ length-set c.loop-i.frames (get_or c.list_frames-list.result.now c.loop-i.i 0) zero_page in
    omega arith

pub loop-i-preserved : goal.loop-i-preserved
unfolding set_word_in
loop-i-preserved c =
    let old = c.args.frames.now in
    let now = c.loop-i.frames in
    let list = c.list_frames-list.result.now in
    let i = c.loop-i.i in
    let p = get_or list i 0 in
    let low = here c.args.placement.now old now list i c.list_frames-list.ensures.placement c.requires.frames c.list_frames-list.ensures.list c.loop-i.invariant.size c.loop-i-test.true in
    let distinct = subst (λ (ps : List ℕ). IsDistinct nat_eq ps) (sym c.list_frames-list.ensures.list) c.list_frames-list.ensures.placement.list_distinct in
    let more = one_more_made old now list i p c.next_frame.result distinct c.loop-i-test.true refl c.next_frame.ensures low c.loop-i.invariant in
    let memory_is : c.set_word.new.self ≡ set_word_in (with_frame now p zero_page) p 0 c.next_frame.result =
    c.set_word.ensures ∙ ap (λ (m : List (List ℕ)). with_frame m p (with_word (frame m p) 0 c.next_frame.result)) c.zero.ensures in
    subst (λ (m : List (List ℕ)). AreMade old m list (i + 1)) (sym memory_is) more

pub invariant_of-result : goal.invariant_of-result
invariant_of-result c =
    let few = few_frames c.args.placement.now c.list_frames-list.ensures.placement in
    let same = ap length c.list_frames-list.ensures.list in
    record { few = omega arith; room = omega arith }

pub returns-clause-empty : goal.returns-clause-empty
returns-clause-empty c =
    let old = c.args.frames.now in
    let list = c.list_frames-list.result.now in
    let back = sym c.list_frames-list.ensures.list in
    let distinct = subst (λ (ps : List ℕ). IsDistinct nat_eq ps) back c.list_frames-list.ensures.placement.list_distinct in
    let within = subst (λ (ps : List ℕ). All (λ q. q < length old) ps) back (within_memory c.args.placement.now old c.list_frames-list.ensures.placement c.requires.frames) in
    let ended = c.loop-i-test.false in
    let most = c.loop-i.auto.i-end in
    all_made old c.loop-i.frames list c.loop-i.i (omega arith) distinct within c.loop-i.invariant
