use Rattle.std.proofs.Common.{◌≡◌, ℕ, ◌+◌, ◌<◌, ◌++◌, ◌∷◌, [], List, sym, ap, ap₂, ◌∙◌, subst, append_assoc, append-nil, arith, rules}
use Rattle.std.specs.List.{Contains}
use Rattle.definitions.specs.Bytes.{word}
use Rattle.definitions.specs.Zones.{numbers}
use Rattle.definitions.specs.FrameSets.{inserted}
use Rattle.definitions.proofs.ZoneNumbers.{below_top, top_at_most}
use Rattle.frame_sets.specs.FrameSet.{FrameSet}
use Rattle.frame_sets.specs.Numbers.{fault_in, before_in, number_in, number_by, is_marked_by, numbers_in, marked_in}
use Rattle.frame_sets.proofs.Firsts.{first_below-none}
use Rattle.frame_sets.proofs.Listing.{numbers_in-none, marked_in-none, numbers_in-more, marked_in-one, marked_in-same, valid_number, inserted_number, up_to_numbers, up_to_marked}
use Rattle.frame_sets.proofs.packing.unpack.Unpack.list.Goals as goal
use Rattle.frame_sets.proofs.packing.unpack.Unpack.list.Goals.{then-is_marked, else-is_marked}

-- no number yet
same_set : (set : FrameSet) (more : List ℕ) → more ≡ [] → set ≡ record set { members = set.members ++ more }
same_set set more none = ap (λ members. record set { members = members }) (sym (append-nil set.members) ∙ ap (λ t. set.members ++ t) (sym none))

pub loop-j-init : goal.loop-j-init
loop-j-init c = record {
  listed = same_set c.args.origs.now (numbers_in c.args.self.now c.args.page.now 0) (numbers_in-none c.args.self.now c.args.page.now);
  marked = same_set c.args.zeros.now (marked_in c.args.self.now c.args.page.now 0) (marked_in-none c.args.self.now c.args.page.now);
}

pub overflow_cast-p : goal.overflow_cast-p
overflow_cast-p c =
    let u = c.args.self.now in
    let page = c.args.page.now in
    let zones = c.args.origs.now.zones in
    let j = c.loop-j.j in
    let sound = first_below-none (fault_in zones u page) j c.args.count c.loop-j-test.true c.requires.sound in
    let low = below_top zones (number_in u page j) c.is_frame_set.ensures.set.zones.apart (valid_number zones (before_in u page j) (number_in u page j) sound) in
    let top = top_at_most zones c.is_frame_set.ensures.set.zones in
    let is : c.number-p.result ≡ number_in u page j = c.number-p.ensures ∙ ap (number_by u.format) c.word-word.ensures in
    let fits : c.number-p.result < 65536 = omega arith in
    search rules

pub set-requires : goal.set-requires
set-requires c =
    let u = c.args.self.now in
    let page = c.args.page.now in
    let zones = c.args.origs.now.zones in
    let j = c.loop-j.j in
    let sound = first_below-none (fault_in zones u page) j c.args.count c.loop-j-test.true c.requires.sound in
    let is : c.number-p.result ≡ number_in u page j = c.number-p.ensures ∙ ap (number_by u.format) c.word-word.ensures in
    let here : c.loop-j.origs.zones ≡ zones = ap (λ (s : FrameSet). s.zones) c.loop-j.invariant.listed in
    subst (λ (zs : List (ℕ × ℕ)). Contains (numbers zs) c.number-p.result) (sym here)
    (subst (λ (p : ℕ). Contains (numbers zones) p) (sym is) (valid_number zones (before_in u page j) (number_in u page j) sound))

pub set-requires-then-is_marked : goal.set-requires-then-is_marked
set-requires-then-is_marked c =
    let u = c.args.self.now in
    let page = c.args.page.now in
    let zones = c.args.origs.now.zones in
    let j = c.loop-j.j in
    let sound = first_below-none (fault_in zones u page) j c.args.count c.loop-j-test.true c.requires.sound in
    let is : c.number-p.result ≡ number_in u page j = c.number-p.ensures ∙ ap (number_by u.format) c.word-word.ensures in
    let here : c.loop-j.zeros.zones ≡ zones = ap (λ (s : FrameSet). s.zones) c.loop-j.invariant.marked ∙ c.requires.same_zones in
    subst (λ (zs : List (ℕ × ℕ)). Contains (numbers zs) c.number-p.result) (sym here)
    (subst (λ (p : ℕ). Contains (numbers zones) p) (sym is) (valid_number zones (before_in u page j) (number_in u page j) sound))

-- a set with the next number
with_next : (old set new : FrameSet) (more next : List ℕ) (p q : ℕ) → set ≡ record old { members = old.members ++ more } → new ≡ record set { members = inserted set.members q } → q ≡ p → inserted (old.members ++ more) p ≡ (old.members ++ more) ++ p ∷ [] → next ≡ more ++ p ∷ [] → new ≡ record old { members = old.members ++ next }
with_next old set new more next p q set_is new_is q_is insert next_is =
    let set_of : List (ℕ × ℕ) → List ℕ → FrameSet = λ zones members. record { zones = zones; members = members } in
    new_is
    ∙ ap₂ set_of (ap (λ (s : FrameSet). s.zones) set_is)
    (ap₂ inserted (ap (λ (s : FrameSet). s.members) set_is) q_is ∙ insert ∙ append_assoc old.members more (p ∷ []) ∙ ap (λ t. old.members ++ t) (sym next_is))

pub loop-j-preserved : goal.loop-j-preserved
loop-j-preserved c =
    let u = c.args.self.now in
    let page = c.args.page.now in
    let zones = c.args.origs.now.zones in
    let j = c.loop-j.j in
    let p = number_in u page j in
    let sound = first_below-none (fault_in zones u page) j c.args.count c.loop-j-test.true c.requires.sound in
    let is : c.number-p.result ≡ p = c.number-p.ensures ∙ ap (number_by u.format) c.word-word.ensures in
    let marked_is : c.is_marked.result ≡ is_marked_by u.format (word page j) = c.is_marked.ensures ∙ ap (is_marked_by u.format) c.word-word.ensures in
    let listed_up = up_to_numbers zones u page c.args.origs.now.members c.args.count j (omega arith) c.requires.sound c.requires.listed in
    let marked_up = up_to_marked zones u page c.args.zeros.now.members c.args.count j (omega arith) c.requires.sound c.requires.marked in
    record {
      listed = with_next c.args.origs.now c.loop-j.origs c.set.new.self (numbers_in u page j) (numbers_in u page (j + 1)) p c.number-p.result
          c.loop-j.invariant.listed c.set.ensures is (inserted_number zones (before_in u page j) p (c.args.origs.now.members ++ numbers_in u page j) listed_up sound) (numbers_in-more u page j);
      marked = elim c.if-is_marked.branch [
        | then-is_marked w ↦
            w.zeros-is
            ∙ with_next c.args.zeros.now c.loop-j.zeros w.set-then-is_marked.new.self (marked_in u page j) (marked_in u page (j + 1)) p c.number-p.result
            c.loop-j.invariant.marked w.set-then-is_marked.ensures is (inserted_number zones (before_in u page j) p (c.args.zeros.now.members ++ marked_in u page j) marked_up sound)
            (marked_in-one u page j (sym marked_is ∙ w.if-is_marked.true))
        | else-is_marked w ↦
            w.zeros-is ∙ c.loop-j.invariant.marked
            ∙ ap (λ members. record c.args.zeros.now { members = c.args.zeros.now.members ++ members }) (sym (marked_in-same u page j (sym marked_is ∙ w.if-is_marked.false)))
      ];
    }
