-- The events of a drill: how they are put together, and what holds for all of them.
use Rattle.std.proofs.Common.{◌≡◌, ◌≤◌, ◌<◌, ◌++◌, ℕ, ◌+◌, ◌-◌, ◌*◌, ◌∷◌, List, [], Option, Some, None, map, reverse, flat_map, replicate, length, refl, sym, ap, ◌∙◌, arith, suc, zero, subst, inl, inr, nat_lt, append_assoc, append-nil, map-id, All, length-append}
use Rattle.std.specs.Bool.{⊤}
use Rattle.std.specs.List.{range_with_len}
use Rattle.std.proofs.lemmas.Bool.{cases_lt, cond-true, cond-false, lt-ltb, le-ltb}
use Rattle.std.proofs.lemmas.List.{reverse-append, map-append, length-map, length-reverse, length-replicate}
use Rattle.std.proofs.lemmas.List.FromFn.{map-range_with_len_more, length-range_with_len, length-map-range_with_len, get_or-range_with_len}
use Rattle.std.proofs.lemmas.List.Elements.{All-append, All-push, All-map, All-replicate}
use Rattle.std.proofs.lemmas.List.Concat.{length-flat_map}
use Rattle.std.proofs.lemmas.List.Sums.{sum_by-le}
use Rattle.std.proofs.lemmas.Grind.{flat_map-append}
use Rattle.page_core.specs.declared.format.Format.TheVariants.{Plain}
use Rattle.plain_machine.specs.Fitting.{AreRanges, IsFitting, IsFittingOp, IsRange}
use Rattle.plain_machine.specs.Machine.{IsTask}
use Rattle.plain_machine.specs.Image.{maps_of, maps_read}
use Rattle.plain_machine.specs.declared.event.Event.{Event}
use Rattle.plain_machine.specs.declared.event.Event.TheVariants as event
use Rattle.plain_machine.specs.declared.event.Actor.TheVariants as actor
use Rattle.plain_machine.specs.declared.event.BootFrom.TheVariants.{Fresh}
use Rattle.plain_machine.specs.declared.event.IdentCheck.TheVariants.{Compare}
use Rattle.plain_machine.specs.declared.event.Loader.TheVariants as loader
use Rattle.plain_machine.specs.declared.event.TaskOp.{TaskOp}
use Rattle.plain_machine.specs.declared.event.TaskOp.TheVariants as op
use Rattle.machine.specs.HardFault.{hard_fault}
use Rattle.machine.specs.declared.hardware.HardFault.{HardFault}
use Rattle.definitions.specs.declared.info.Ident.{Ident}
use Rattle.script.specs.Drill.{asks, below, boots, claimed, claims, core_steps, drill_events, drill_hardware, frame, goes_out, gone_out, hibernates, loader_ranges, pages, resumes, shows, steps, stores, swapped, taken_in, takes_in, task, value, word}
use Rattle.script.specs.Shapes.{IsScripted}

abbrev HasNone : Option HardFault → Type 0
HasNone None = ⊤
HasNone (Some fault) = ⊥

-- the parts of the machine fit together, whatever its identity
pub drill_fits : (ident : Ident) (fault : HardFault) → hard_fault (record drill_hardware { ident = ident }) ≡ Some fault → ⊥
unfolding hard_fault
drill_fits ident fault is = subst HasNone is tt

-- One number more.

map_next : {A : Type 0} (f : ℕ → A) (k : ℕ) → map f (below (k + 1)) ≡ map f (below k) ++ f k ∷ []
map_next f k = map-range_with_len_more f 0 k k (omega arith)

below_next : (k : ℕ) → below (k + 1) ≡ below k ++ k ∷ []
below_next k = sym (map-id (below (k + 1))) ∙ map_next (λ x. x) k ∙ ap (λ xs. xs ++ k ∷ []) (map-id (below k))

flat_next : {A : Type 0} (f : ℕ → List A) (k : ℕ) → flat_map f (below (k + 1)) ≡ flat_map f (below k) ++ f k
flat_next f k = ap (flat_map f) (below_next k) ∙ flat_map-append f (below k) (k ∷ []) ∙ ap (λ xs. flat_map f (below k) ++ xs) (append-nil (f k))

-- one event more is pushed
pub one_pushed : {A : Type 0} (f : ℕ → A) (k : ℕ) (old mid new : List A) (x : A) → mid ≡ old ++ map f (below k) → new ≡ mid ++ x ∷ [] → x ≡ f k → new ≡ old ++ map f (below (k + 1))
one_pushed f k old mid new x so_far one is =
    one ∙ ap (λ y. mid ++ y ∷ []) is ∙ ap (λ ys. ys ++ f k ∷ []) so_far ∙ append_assoc old (map f (below k)) (f k ∷ []) ∙ ap (λ ys. old ++ ys) (sym (map_next f k))

-- two events more are pushed
pub two_pushed : {A : Type 0} (f g : ℕ → A) (k : ℕ) (old mid next new : List A) (x y : A) → mid ≡ old ++ flat_map (λ i. f i ∷ g i ∷ []) (below k) → next ≡ mid ++ x ∷ [] → x ≡ f k → new ≡ next ++ y ∷ [] → y ≡ g k →
    new ≡ old ++ flat_map (λ i. f i ∷ g i ∷ []) (below (k + 1))
two_pushed f g k old mid next new x y so_far one x_is two y_is =
    two ∙ ap (λ z. next ++ z ∷ []) y_is ∙ ap (λ ys. ys ++ g k ∷ []) (one ∙ ap (λ z. mid ++ z ∷ []) x_is) ∙ append_assoc mid (f k ∷ []) (g k ∷ []) ∙ ap (λ ys. ys ++ f k ∷ g k ∷ []) so_far
    ∙ append_assoc old (flat_map (λ i. f i ∷ g i ∷ []) (below k)) (f k ∷ g k ∷ []) ∙ ap (λ ys. old ++ ys) (sym (flat_next (λ i. f i ∷ g i ∷ []) k))

-- the numbers from k on below n, backwards
abbrev pub back_to : ℕ → ℕ → List ℕ
back_to k n = reverse (range_with_len k (n - k))

back_next : (k n : ℕ) → suc k ≤ n → back_to k n ≡ back_to (suc k) n ++ k ∷ []
back_next k n le =
    ap (λ m. reverse (range_with_len k m)) (let e : n - k ≡ suc (n - suc k) = omega arith in e)
    ∙ reverse-append (k ∷ []) (range_with_len (k + 1) (n - suc k))
    ∙ ap (λ a. reverse (range_with_len a (n - suc k)) ++ k ∷ []) (let e : k + 1 ≡ suc k = omega arith in e)

-- the next number backwards is pushed
pub last_pushed : {A : Type 0} (f : ℕ → A) (k n : ℕ) (old mid new : List A) (x : A) → mid ≡ old ++ map f (back_to k n) → new ≡ mid ++ x ∷ [] → x ≡ f (k - 1) → 1 ≤ k → k ≤ n → new ≡ old ++ map f (back_to (k - 1) n)
last_pushed f zero n old mid new x so_far one is some le = absurd (omega arith)
last_pushed f (suc k) n old mid new x so_far one is some le =
    one ∙ ap (λ y. mid ++ y ∷ []) is ∙ ap (λ a. mid ++ f a ∷ []) before ∙ ap (λ ys. ys ++ f k ∷ []) so_far ∙ append_assoc old (map f (back_to (suc k) n)) (f k ∷ [])
    ∙ ap (λ ys. old ++ ys) (sym (map-append f (back_to (suc k) n) (k ∷ [])) ∙ ap (map f) (sym (back_next k n le)))
    ∙ ap (λ a. old ++ map f (back_to a n)) (sym before) where
      before : suc k - 1 ≡ k
      before = omega arith

-- What each event has, all have.

all_below : (P : ℕ → Type 0) (n : ℕ) → ((i : ℕ) → i < n → P i) → All P (below n)
all_below P n each = λ k d lt. let len = length-range_with_len 0 n in subst P (sym (get_or-range_with_len 0 n k d (omega arith) ∙ (let e : 0 + k ≡ k = omega arith in e))) (each k (omega arith))

all_reverse : {A : Type 0} (P : A → Type 0) (xs : List A) → All P xs → All P (reverse xs)
all_reverse P [] all = all
all_reverse P (x ∷ xs) all =
    subst (All P) (sym (reverse-append (x ∷ []) xs)) (All-push P (reverse xs) x (all_reverse P xs (λ k d lt. all (suc k) d (omega arith))) (all 0 x (omega arith)))

all_flat : {A : Type 0} (P : A → Type 0) (f : ℕ → List A) (xs : List ℕ) → All (λ i. All P (f i)) xs → All P (flat_map f xs)
all_flat P f [] all = λ k d lt. absurd (omega arith)
all_flat P f (x ∷ xs) all = All-append P (f x) (flat_map f xs) (all 0 x (omega arith)) (all_flat P f xs (λ k d lt. all (suc k) d (omega arith)))

one : {A : Type 0} (P : A → Type 0) (x : A) → P x → All P (x ∷ [])
one P x p = All-push P [] x (λ k d lt. absurd (omega arith)) p

-- an event that the machine takes and that a line may give
abbrev pub IsGood : Event → Type 0
IsGood e = IsFitting e × IsScripted e

is_task : (i : ℕ) → IsTask (task i)
is_task i = record { some = omega arith; few = omega arith }

each_good : (f : ℕ → Event) (n : ℕ) → ((i : ℕ) → i < n → IsGood (f i)) → All IsGood (map f (below n))
each_good f n each = All-map IsGood f (below n) (all_below (λ i. IsGood (f i)) n each)

core_good : (n : ℕ) → All IsGood (core_steps n)
core_good n = All-replicate IsGood n (event.Step actor.Core) (tt, tt)

asks_good : (i : ℕ) (o : TaskOp) → IsFittingOp o → IsGood (asks i o)
asks_good i o fits = ((is_task i, fits), tt)

swaps_few : (c : ℕ) → swapped c ≤ 8
swaps_few c = elim (cases_lt c 8) [ inl lt ↦ subst (λ (n : ℕ). n ≤ 8) (sym (cond-true (nat_lt c 8) c 8 (lt-ltb c 8 lt))) (omega arith) | inr ge ↦ subst (λ (n : ℕ). n ≤ 8) (sym (cond-false (nat_lt c 8) c 8 (le-ltb c 8 ge))) (omega arith) ]

claimed_good : (c : ℕ) → c ≤ 2000 → All IsGood (claimed c)
claimed_good c few =
    all_flat IsGood (λ i. claims i ∷ stores (value c i) i ∷ []) (below c)
    (all_below (λ i. All IsGood (claims i ∷ stores (value c i) i ∷ [])) c (λ i lt. All-push IsGood (claims i ∷ []) (stores (value c i) i) (one IsGood (claims i) (asks_good i (op.Claim (frame i)) (omega arith))) (asks_good i (op.Store (frame i) (word i) (value c i)) (omega arith, omega arith))))

gone_out_good : (c t : ℕ) → t ≤ 8 → All IsGood (gone_out c t)
gone_out_good c t few =
    All-append IsGood (map goes_out (below t) ++ map steps (reverse (below t))) (map (λ i. stores (value c i + 1) i) (below t))
    (All-append IsGood (map goes_out (below t)) (map steps (reverse (below t))) (each_good goes_out t (λ i lt. asks_good i (op.Out (frame i)) (omega arith)))
    (All-map IsGood steps (reverse (below t)) (all_reverse (λ i. IsGood (steps i)) (below t) (all_below (λ i. IsGood (steps i)) t (λ i lt. (is_task i, tt))))))
    (each_good (λ i. stores (value c i + 1) i) t (λ i lt. asks_good i (op.Store (frame i) (word i) (value c i + 1)) (omega arith, omega arith)))

shown_good : (n : ℕ) → n ≤ 2000 → All IsGood (map shows (below n))
shown_good n few = each_good shows n (λ i lt. asks_good i (op.Show (frame i) (word i)) (omega arith, omega arith))

taken_in_good : (t : ℕ) → t ≤ 8 → All IsGood (taken_in t)
taken_in_good t few =
    All-append IsGood (map takes_in (below t) ++ map steps (below t)) (map shows (below t))
    (All-append IsGood (map takes_in (below t)) (map steps (below t)) (each_good takes_in t (λ i lt. asks_good i (op.TakeIn (i + 1) (frame i)) (omega arith, omega arith))) (each_good steps t (λ i lt. (is_task i, tt))))
    (shown_good t (omega arith))

-- the loader's ranges are ones
loader_good : AreRanges loader_ranges
loader_good = record {
  few = omega arith;
  each = All-append IsRange ((0, 99) ∷ []) ((4000, 4999) ∷ replicate 6 (0, 0)) (one IsRange (0, 99) (range 0 99 (omega arith) (omega arith)))
      (All-append IsRange ((4000, 4999) ∷ []) (replicate 6 (0, 0)) (one IsRange (4000, 4999) (range 4000 4999 (omega arith) (omega arith))) (All-replicate IsRange 6 (0, 0) (range 0 0 (omega arith) (omega arith))));
} where
  range : (a b : ℕ) → a ≤ b → b < 65536 → IsRange (a, b)
  range a b le lt = record { ordered = le; below = lt }

hibernates_good : (c : ℕ) → All IsGood (hibernates c)
hibernates_good c = All-append IsGood (event.Hibernate Plain ∷ []) (core_steps (pages c + maps_of (pages c) + 4)) (one IsGood (event.Hibernate Plain) (tt, tt)) (core_good (pages c + maps_of (pages c) + 4))

resumes_good : (c : ℕ) → All IsGood (resumes c)
resumes_good c =
    All-append IsGood (event.Cut c ∷ resume ∷ []) (core_steps (4 + maps_read (pages c) + pages c)) (All-push IsGood (event.Cut c ∷ []) resume (one IsGood (event.Cut c) (tt, tt)) (loader_good, (tt, refl))) (core_good (4 + maps_read (pages c) + pages c)) where
      resume : Event
      resume = event.Resume (loader.Ranges loader_ranges) Compare

all_good : (c : ℕ) → c ≤ 2000 → All IsGood (drill_events c)
unfolding drill_events
all_good c few =
    let t = swapped c in
    let out = boots ++ claimed c ++ gone_out c t in
    let saved = out ++ hibernates c in
    let restored = saved ++ resumes c in
    All-append IsGood (restored ++ map shows (below c)) (taken_in t) (All-append IsGood restored (map shows (below c)) (All-append IsGood saved (resumes c) (All-append IsGood out (hibernates c)
    (All-append IsGood (boots ++ claimed c) (gone_out c t) (All-append IsGood boots (claimed c)
    (All-append IsGood (event.Boot Fresh ∷ []) (core_steps 2) (one IsGood (event.Boot Fresh) (tt, refl)) (core_good 2)) (claimed_good c few))
    (gone_out_good c t (swaps_few c))) (hibernates_good c)) (resumes_good c)) (shown_good c few)) (taken_in_good t (swaps_few c))

pub all_fit : (c : ℕ) → c ≤ 2000 → All IsFitting (drill_events c)
all_fit c few = λ k d lt. (all_good c few k d lt).0

pub all_scripted : (c : ℕ) → c ≤ 2000 → All IsScripted (drill_events c)
all_scripted c few = λ k d lt. (all_good c few k d lt).1

-- How many events there are.

three : (a b d : List Event) → length (a ++ b ++ d) ≡ length a + length b + length d
three a b d = length-append (a ++ b) d ∙ ap (λ n. n + length d) (length-append a b)

seven : (a b d e f g h : List Event) → length (a ++ b ++ d ++ e ++ f ++ g ++ h) ≡ length a + length b + length d + length e + length f + length g + length h
seven a b d e f g h =
    three (a ++ b ++ d ++ e ++ f) g h ∙ ap (λ n. n + length g + length h) (three (a ++ b ++ d) e f ∙ ap (λ n. n + length e + length f) (three a b d))

each_length : (f : ℕ → Event) (n : ℕ) → length (map f (below n)) ≡ n
each_length f n = length-map-range_with_len f 0 n

two_each : (f g : ℕ → Event) (n : ℕ) → length (flat_map (λ i. f i ∷ g i ∷ []) (below n)) ≤ 2 * n
two_each f g n =
    let len = length-flat_map (λ i. f i ∷ g i ∷ []) (below n) in
    let most = sum_by-le (λ i. length (f i ∷ g i ∷ [])) 2 (below n) (λ k d lt. omega arith) in
    let count = length-range_with_len 0 n in
    omega arith

pub few_events : (c : ℕ) → c ≤ 2000 → length (drill_events c) ≤ 100000
unfolding drill_events
few_events c few =
    let t = swapped c in
    let n = pages c in
    let all = seven boots (claimed c) (gone_out c t) (hibernates c) (resumes c) (map shows (below c)) (taken_in t) in
    let claimed_few = two_each claims (λ i. stores (value c i) i) c in
    let out = three (map goes_out (below t)) (map steps (reverse (below t))) (map (λ i. stores (value c i + 1) i) (below t)) in
    let outs = each_length goes_out t in
    let back = length-map (reverse (below t)) steps ∙ length-reverse (below t) ∙ length-range_with_len 0 t in
    let again = each_length (λ i. stores (value c i + 1) i) t in
    let saved = length-replicate (n + maps_of n + 4) (event.Step actor.Core) in
    let restored = length-replicate (4 + maps_read n + n) (event.Step actor.Core) in
    let shown = each_length shows c in
    let in' = three (map takes_in (below t)) (map steps (below t)) (map shows (below t)) in
    let ins = each_length takes_in t in
    let stepped = each_length steps t in
    let shown_again = each_length shows t in
    let swapped_few = swaps_few c in
    omega arith
