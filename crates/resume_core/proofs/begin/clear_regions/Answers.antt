use Rattle.std.proofs.Common.{◌≡◌, ◌≤◌, ◌<◌, ◌+◌, ◌-◌, ◌&&◌, ℕ, List, length, get_or, leb, ltb, eqb, filter, not, Bool, true, false, refl, sym, ap, ◌∙◌, subst, inl, inr, arith}
use Rattle.std.proofs.lemmas.Bool.{cases_lt, le-leb, lt-leb, lt-ltb, le-ltb, eq-eqb, ne_eqb, and_right}
use Rattle.std.proofs.lemmas.List.{take_all}
use Rattle.definitions.proofs.ZoneNumbers.{below_top, top_at_most}
use Rattle.frame_sets.specs.FrameSet.{FrameSet, IsFrameSet}
use Rattle.plain_machine.specs.Machine.{Hardware, IsHardware}
use Rattle.resume_core.proofs.Clearing.{without_any, one_more, none_more, none_yet, set_left, set_is}
use Rattle.resume_core.proofs.begin.clear_regions.Goals as goal
use Rattle.resume_core.proofs.begin.clear_regions.Goals.{then-flags-ne0, else-flags-ne0}

abbrev in_region : ℕ × ℕ × ℕ → ℕ → Bool
in_region r p = leb r.0 p && ltb p (r.0 + r.1) && not (eqb r.2 0)

-- of a region with flags: from its first page frame to its last
last_of : (first count p : ℕ) → 0 < count → leb p (first + count - 1) ≡ ltb p (first + count)
last_of first count p some = elim (cases_lt p (first + count)) [
  | inl lt ↦ le-leb p (first + count - 1) (omega arith) ∙ sym (lt-ltb p (first + count) lt)
  | inr ge ↦ lt-leb p (first + count - 1) (omega arith) ∙ sym (le-ltb p (first + count) ge)
]

and_true : (a b c : Bool) → c ≡ true → (a && b) ≡ (a && b && c)
and_true true true c e = sym e
and_true true false c e = refl
and_true false b c e = refl

with_flags : (r : ℕ × ℕ × ℕ) (p : ℕ) → 0 < r.1 → (r.2 ≡ 0 → ⊥) → (leb r.0 p && leb p (r.0 + r.1 - 1)) ≡ in_region r p
with_flags r p some flags =
    ap (λ (b : Bool). leb r.0 p && b) (last_of r.0 r.1 p some)
    ∙ and_true (leb r.0 p) (ltb p (r.0 + r.1)) (not (eqb r.2 0)) (ap not (ne_eqb r.2 0 flags))

-- a region of the machine isn't empty, and lies below 65536
small : (h : Hardware) (k : ℕ) → IsHardware h → k < length h.regions → (0 < (get_or h.regions k (0, 0, 0)).1) × ((get_or h.regions k (0, 0, 0)).0 + (get_or h.regions k (0, 0, 0)).1 ≤ 65536)
small h k hw lt =
    let r = get_or h.regions k (0, 0, 0) in
    let is = hw.regions k (0, 0, 0) lt in
    let some = is.some in
    let valid = is.valid (r.0 + r.1 - 1) (record { from = omega arith; below = omega arith }) in
    let below = below_top h.zones (r.0 + r.1 - 1) hw.zones.apart valid in
    let most = top_at_most h.zones hw.zones in
    (omega arith, omega arith)

pub loop-start-init : goal.loop-start-init
loop-start-init c = record { set = c.requires; zones = refl; members = none_yet in_region c.args.hw.now.regions c.args.set.now.members }

pub loop-start-preserved : goal.loop-start-preserved
loop-start-preserved c =
    let items = c.regions-start-items.result.now in
    let regions = c.args.hw.now.regions in
    let are : items ≡ regions = c.regions-start-items.ensures.regions in
    let k = c.loop-start.start-index in
    let lt = c.loop-start-test.true in
    let count = ap length are in
    let within : k < length regions = omega arith in
    let r = get_or items k (0, 0, 0) in
    let at : r ≡ get_or regions k (0, 0, 0) = ap (λ (rs : List (ℕ × ℕ × ℕ)). get_or rs k (0, 0, 0)) are in
    let few = subst (λ (x : ℕ × ℕ × ℕ). (0 < x.1) × (x.0 + x.1 ≤ 65536)) (sym at) (small c.args.hw.now k c.regions-start-items.ensures.hardware within) in
    elim c.if-flags-ne0.branch [
      | then-flags-ne0 w ↦
          let is = w.set-is ∙ w.clear_between.ensures in
          record {
            set = set_left c.loop-start.set c.if-flags-ne0.set _ c.loop-start.invariant.set is;
            zones = ap (λ (s : FrameSet). s.zones) is ∙ c.loop-start.invariant.zones;
            members =
                ap (λ (s : FrameSet). s.members) is
                ∙ ap (λ (ms : List ℕ). filter (λ p. not (leb r.0 p && leb p (r.0 + r.1 - 1))) ms) c.loop-start.invariant.members
                ∙ one_more in_region regions k (0, 0, 0) (λ p. leb r.0 p && leb p (r.0 + r.1 - 1)) c.args.set.now.members within
                (λ p. with_flags r p few.0 w.if-flags-ne0.true ∙ ap (λ (x : ℕ × ℕ × ℕ). in_region x p) at);
          }
      | else-flags-ne0 w ↦
          record {
            set = subst IsFrameSet (sym w.set-is) c.loop-start.invariant.set;
            zones = ap (λ (s : FrameSet). s.zones) w.set-is ∙ c.loop-start.invariant.zones;
            members =
                ap (λ (s : FrameSet). s.members) w.set-is ∙ c.loop-start.invariant.members
                ∙ none_more in_region regions k (0, 0, 0) c.args.set.now.members within
                (λ p. ap (λ (x : ℕ × ℕ × ℕ). in_region x p) (sym at) ∙ and_right (leb r.0 p && ltb p (r.0 + r.1)) (not (eqb r.2 0)) (ap not (eq-eqb r.2 0 w.if-flags-ne0.false)));
          }
    ]

pub returns-clause-set : goal.returns-clause-set
returns-clause-set c =
    let regions = c.args.hw.now.regions in
    let count = ap length c.regions-start-items.ensures.regions in
    let over = c.loop-start-test.false in
    set_is c.loop-start.set c.args.set.now.zones c.loop-start.invariant.zones
    (c.loop-start.invariant.members ∙ ap (λ (rs : List (ℕ × ℕ × ℕ)). without_any in_region rs c.args.set.now.members) (take_all c.loop-start.start-index regions (omega arith)))

pub overflow_add-start : goal.overflow_add-start
overflow_add-start c =
    let items = c.regions-start-items.result.now in
    let are = c.regions-start-items.ensures.regions in
    let k = c.loop-start.start-index in
    let lt = c.loop-start-test.true in
    let count = ap length are in
    let at = ap (λ (rs : List (ℕ × ℕ × ℕ)). get_or rs k (0, 0, 0)) are in
    let few = subst (λ (x : ℕ × ℕ × ℕ). (0 < x.1) × (x.0 + x.1 ≤ 65536)) (sym at) (small c.args.hw.now k c.regions-start-items.ensures.hardware (omega arith)) in
    record { fits = let low = few.1 in omega arith }
