-- What was asked, call by call.
use Rattle.std.proofs.Common.{◌≡◌, ℕ, ◌+◌, ◌<◌, ◌≤◌, inl, inr, List, [], ◌∷◌, ◌++◌, length, length-append, refl, sym, ap, ◌∙◌, subst, Option, Some, None, Result, Ok, Err, IfOk, Bool, true, false, cond, not, ltb, leb, arith}
use Rattle.std.proofs.lemmas.Bool.{cond-false, le-ltb, leb-false}
use Rattle.boot_resume.specs.Asked.{Asked, AsksOn, HasBegun, IsAbove, IsSafe, IsTakenBack, MayPlace, first_calls, left_at, left_behind, newest}
use Rattle.boot_resume.specs.Ends.{IsEnd}
use Rattle.boot_resume.specs.Memory.{is_memory}
use Rattle.boot_resume.specs.OnDisk.{number_fault, order_fault}
use Rattle.boot_resume.specs.Wanted.{IsRead, IsReadAt}
use Rattle.boot_resume.specs.declared.call.Call.{Call}
use Rattle.boot_resume.specs.declared.call.Call.TheVariants.{Sync, Read, Write, Page, Done, Refused, Failed}
use Rattle.boot_resume.specs.declared.call.Left.TheVariants as left
use Rattle.boot_resume.specs.declared.cause.Cause.{Cause}
use Rattle.boot_resume.specs.declared.cause.Cause.TheVariants.{BadPfn, PfnOrder}
use Rattle.boot_resume.specs.declared.machine.Machine.{Machine}
use Rattle.boot_resume.specs.declared.stage.Move.{Move}
use Rattle.boot_resume.specs.declared.reading.Reading.{Reading}
use Rattle.boot_resume.specs.declared.stage.Stage.{Stage}
use Rattle.boot_resume.specs.declared.stage.Stage.TheVariants as stage

pub later_call : (m : Machine) (c : Call) (made : List Call) → IsTakenBack m made → IsTakenBack m (c ∷ made)
later_call m c made begun = (c ∷ begun.0, ap (λ (x : List Call). c ∷ x) begun.1)

-- after the first four calls
pub begun_first : (m : Machine) (c : Call) (made : List Call) → c ≡ Sync → made ≡ Write m.header ∷ Read m.header ∷ Sync ∷ [] → HasBegun m (c ∷ made)
begun_first m c made sync is =
    subst (λ (y : Call). HasBegun m (y ∷ made)) (sym sync)
    (subst (λ (x : List Call). HasBegun m (Sync ∷ x)) (sym is) (([], refl), (refl, (refl, tt))))

pub newest_first : (m : Machine) (c : Call) (made : List Call) → c ≡ Sync → made ≡ Write m.header ∷ Read m.header ∷ Sync ∷ [] → newest (c ∷ made) ≡ None
newest_first m c made sync is = ap (λ (y : Call). newest (y ∷ made)) sync ∙ ap newest is

-- after a read
pub begun_read : (m : Machine) (c : Call) (made : List Call) → IsRead c → HasBegun m made → HasBegun m (c ∷ made)
begun_read m (Read b) made read begun = (later_call m (Read b) made begun.0, begun.1)
begun_read m Sync made read begun = absurd read
begun_read m (Write b) made read begun = absurd read
begun_read m (Page p) made read begun = absurd read
begun_read m (Done n) made read begun = absurd read
begun_read m (Refused why) made read begun = absurd read
begun_read m (Failed call left) made read begun = absurd read

pub newest_read : (c : Call) (made : List Call) → IsRead c → newest (c ∷ made) ≡ newest made
newest_read (Read b) made read = refl
newest_read Sync made read = absurd read
newest_read (Write b) made read = absurd read
newest_read (Page p) made read = absurd read
newest_read (Done n) made read = absurd read
newest_read (Refused why) made read = absurd read
newest_read (Failed call left) made read = absurd read

-- after a page that was handed out
pub begun_page : (m : Machine) (c : Call) (p : ℕ) (made : List Call) → c ≡ Page p → MayPlace m p (newest made) → HasBegun m made → HasBegun m (c ∷ made)
begun_page m c p made is may begun =
    subst (λ (x : Call). HasBegun m (x ∷ made)) (sym is) (later_call m (Page p) made begun.0, (begun.0, (may, begun.1)))

pub newest_page : (c : Call) (p : ℕ) (made : List Call) → c ≡ Page p → newest (c ∷ made) ≡ Some p
newest_page c p made is = ap (λ (x : Call). newest (x ∷ made)) is

-- a pending call is as safe as what was made
pub safe_end : (m : Machine) (c : Call) (made : List Call) → IsEnd c → IsSafe m made → IsSafe m (c ∷ made)
safe_end m Sync made over safe = safe
safe_end m (Read b) made over safe = safe
safe_end m (Write b) made over safe = cc
safe_end m (Page p) made over safe = cc
safe_end m (Done n) made over safe = safe
safe_end m (Refused why) made over safe = safe
safe_end m (Failed call left) made over safe = safe

pub safe_read : (m : Machine) (c : Call) (made : List Call) → IsRead c → IsSafe m made → IsSafe m (c ∷ made)
safe_read m c made read safe = safe_reads m c made read safe where
  safe_reads : (m : Machine) (c : Call) (made : List Call) → IsRead c → IsSafe m made → IsSafe m (c ∷ made)
  safe_reads m (Read b) made read safe = safe
  safe_reads m Sync made read safe = safe
  safe_reads m (Write b) made read safe = absurd read
  safe_reads m (Page p) made read safe = absurd read
  safe_reads m (Done n) made read safe = safe
  safe_reads m (Refused why) made read safe = safe
  safe_reads m (Failed call left) made read safe = safe

safe_placed : (m : Machine) (r : Reading) (c : Call) (made : List Call) → HasBegun m made → newest made ≡ r.last → c ≡ Page r.frame → MayPlace m r.frame r.last → IsSafe m (c ∷ made)
safe_placed m r c made begun new is may =
    subst (λ (x : Call). IsSafe m (x ∷ made)) (sym is)
    (begun.0, (subst (λ x. MayPlace m r.frame x) (sym new) may, begun.1))

pub safe_asked : (m : Machine) (r : Reading) (s : Stage) (c : Call) (made : List Call) → Asked m r s c made → IsSafe m made → IsSafe m (c ∷ made)
safe_asked m r stage.FirstSync c made a safe = subst (λ (x : Call). IsSafe m (x ∷ made)) (sym a.1) safe
safe_asked m r stage.Header c made a safe = subst (λ (x : Call). IsSafe m (x ∷ made)) (sym a.1) safe
safe_asked m r stage.TakeBack c made a safe = subst (λ (x : Call). IsSafe m (x ∷ made)) (sym a.1) (refl, (a.0, safe))
safe_asked m r stage.SettleBack c made a safe = subst (λ (x : Call). IsSafe m (x ∷ made)) (sym a.1) safe
safe_asked m r stage.ListMap c made a safe = safe_read m c made a.1.1 safe
safe_asked m r stage.ListPage c made a safe = safe_read m c made a.1.1 safe
safe_asked m r stage.NumberMap c made a safe = safe_read m c made a.1.1 safe
safe_asked m r stage.NumberPage c made a safe = safe_read m c made a.1.1 safe
safe_asked m r stage.DataMap c made a safe = safe_read m c made a.1.1.0 safe
safe_asked m r stage.DataPage c made a safe = safe_read m c made a.1.1.0 safe
safe_asked m r stage.Place c made a safe = safe_placed m r c made a.0 a.1.0 a.1.1.0 a.1.1.1
safe_asked m r stage.Ended c made a safe = safe_end m c made a safe

-- What a failed call leaves.

left_late : (n : ℕ) → 4 ≤ n → left.Gone ≡ left_behind n
left_late n late =
    let above : 2 ≤ n = omega arith in
    sym (cond-false (ltb n 2) left.Same (cond (ltb n 4) left.Unsure left.Gone) (le-ltb n 2 above) ∙ cond-false (ltb n 4) left.Unsure left.Gone (le-ltb n 4 late))

left_begun : (m : Machine) (made : List Call) → HasBegun m made → left.Gone ≡ left_behind (length made)
left_begun m made begun =
    let all : length made ≡ length (begun.0.0 ++ first_calls m) = ap length begun.0.1 in
    let sum : length (begun.0.0 ++ first_calls m) ≡ length begun.0.0 + 4 = length-append begun.0.0 (first_calls m) in
    left_late (length made) (omega arith)

pub left_asked : (m : Machine) (r : Reading) (s : Stage) (c : Call) (made : List Call) → Asked m r s c made → (IsEnd c → ⊥) → left_at s ≡ left_behind (length made)
left_asked m r stage.FirstSync c made a live = ap (λ (x : List Call). left_behind (length x)) (sym a.0)
left_asked m r stage.Header c made a live = ap (λ (x : List Call). left_behind (length x)) (sym a.0)
left_asked m r stage.TakeBack c made a live = ap (λ (x : List Call). left_behind (length x)) (sym a.0)
left_asked m r stage.SettleBack c made a live = ap (λ (x : List Call). left_behind (length x)) (sym a.0)
left_asked m r stage.ListMap c made a live = left_begun m made a.0
left_asked m r stage.ListPage c made a live = left_begun m made a.0
left_asked m r stage.NumberMap c made a live = left_begun m made a.0
left_asked m r stage.NumberPage c made a live = left_begun m made a.0
left_asked m r stage.DataMap c made a live = left_begun m made a.0
left_asked m r stage.DataPage c made a live = left_begun m made a.0
left_asked m r stage.Place c made a live = left_begun m made a.0
left_asked m r stage.Ended c made a live = absurd (live a)

-- a move of each kind
pub asks_back : (m : Machine) (r : Reading) (made : List Call) (result : Result Move Cause) → IfOk result (λ to. to ≡ record { stage = stage.TakeBack; call = Write m.header }) → made ≡ Read m.header ∷ Sync ∷ [] → AsksOn m r made result
asks_back m r made (Ok to) is at = subst (λ (x : Move). Asked m r x.stage x.call made) (sym is) (at, refl)
asks_back m r made (Err why) is at = tt

pub asks_more : (m : Machine) (r : Reading) (made : List Call) (result : Result Move Cause) → IfOk result (IsReadAt (stage.ListMap, stage.ListPage)) → HasBegun m made → newest made ≡ None → AsksOn m r made result
asks_more m r made (Ok to) (read, inl at) begun new = subst (λ s. Asked m r s to.call made) (sym at) (begun, (new, read))
asks_more m r made (Ok to) (read, inr at) begun new = subst (λ s. Asked m r s to.call made) (sym at) (begun, (new, read))
asks_more m r made (Err why) read begun new = tt

pub asks_data : (m : Machine) (r : Reading) (made : List Call) (result : Result Move Cause) → IfOk result (IsReadAt (stage.DataMap, stage.DataPage)) → HasBegun m made → newest made ≡ r.last → MayPlace m r.frame r.last → AsksOn m r made result
asks_data m r made (Ok to) (read, inl at) begun new may = subst (λ s. Asked m r s to.call made) (sym at) (begun, (new, (read, may)))
asks_data m r made (Ok to) (read, inr at) begun new may = subst (λ s. Asked m r s to.call made) (sym at) (begun, (new, (read, may)))
asks_data m r made (Err why) read begun new may = tt

-- a number that passes its test may be handed out
pub may_place : (m : Machine) (last : Option ℕ) (p : ℕ) → number_fault m last p ≡ None → MayPlace m p last
may_place m last p sound = passed (is_memory m.memory p) (order_fault last p) sound (above last) where
  above : (o : Option ℕ) → order_fault o p ≡ None → IsAbove o p
  above None is = tt
  above (Some q) is = over (leb p q) is (leb-false p q) where
    over : (b : Bool) → cond b (Some (PfnOrder q p)) None ≡ None → (b ≡ false → q < p) → q < p
    over true is by = cc
    over false is by = by refl

  passed : (b : Bool) (o : Option Cause) → cond (not b) (Some (BadPfn p)) o ≡ None → (o ≡ None → IsAbove last p) → (b ≡ true) × IsAbove last p
  passed true o is then_above = (refl, then_above is)
  passed false o is then_above = cc

pub asks_as : (m : Machine) (r : Reading) (made : List Call) (to wanted : Move) → to ≡ wanted → Asked m r wanted.stage wanted.call made → Asked m r to.stage to.call made
asks_as m r made to wanted is asked = subst (λ (x : Move). Asked m r x.stage x.call made) (sym is) asked
