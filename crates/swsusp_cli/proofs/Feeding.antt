-- A session that is fed what a source hands out, piece by piece.
use Rattle.std.proofs.Common.{◌≡◌, ◌≤◌, ℕ, ◌+◌, ◌-◌, ◌*◌, ◌/◌, List, [], ◌++◌, length, take, Option, Some, None, Result, Err, refl, sym, ap, ◌∙◌, subst, inl, inr, arith, length-append, append_assoc}
use Rattle.std.proofs.lemmas.Bool.{cases_lt}
use Rattle.std.proofs.lemmas.List.{take_all}
use Rattle.definitions.specs.Disk.{Content, Changes, HasRisen}
use Rattle.definitions.specs.Streams.{HandsOut}
use Rattle.stream_in.specs.Grammar.{first_fault}
use Rattle.stream_in.proofs.Steps.{sound_from}
use Rattle.stream_in.specs.Outside.{StopsAtRest, WritesAtRest}
use Rattle.stream_in.specs.Area.{HasTooFewFor, SufficeFor}
use Rattle.stream_in.specs.Stops.{IsOfFeed}
use Rattle.stream_in.specs.Holding.{WritesOn}
use Rattle.stream_in.specs.declared.stop.InStop.{InStop}
use Rattle.stream_in.specs.declared.stop.InStop.TheVariants as stop
use Rattle.stream_in.specs.declared.checking.fault.StreamFault.{StreamFault}
use Rattle.stream_in.proofs.Rests.{stops_then, unwritten, writes_then}
use Rattle.swsusp_cli.specs.Imports.{IsCalledAtMost}
use Rattle.swsusp_cli.specs.Feeding.{HoldsFed, IsStopFor}
use Rattle.command_kit.specs.View.{DiskView}

-- No stream without a fault is longer than the longest.

pub bounded : (bs : List ℕ) → first_fault bs ≡ None → length bs ≤ 268963840
bounded bs sound = elim (cases_lt (length bs) 4096) [
  | inl early ↦ omega arith
  | inr late ↦ let is = sound_from bs late sound in let few = is.are.few in let all = is.are.all in let within = is.within in omega arith
]

-- Bytes that were handed out, and some more.

all_of : (bs part piece : List ℕ) (k : ℕ) → part ≡ take k piece → take (length (bs ++ part)) (bs ++ part) ≡ bs ++ take k piece
all_of bs part piece k is = take_all (length (bs ++ part)) (bs ++ part) (omega arith) ∙ ap (λ xs. bs ++ xs) is

pub handed_more : (bs part piece : List ℕ) (k : ℕ) (old mid new : Option (List ℕ)) → part ≡ take k piece → HandsOut (length bs) bs old mid → HandsOut k piece mid new → HandsOut (length (bs ++ part)) (bs ++ part) old new
handed_more bs part piece k None None None is first then = tt
handed_more bs part piece k None None (Some new) is first then = then
handed_more bs part piece k None (Some mid) new is first then = absurd first
handed_more bs part piece k (Some old) None new is first then = absurd first
handed_more bs part piece k (Some old) (Some mid) None is first then = absurd then
handed_more bs part piece k (Some old) (Some mid) (Some new) is first then =
    let whole : take (length bs) bs ≡ bs = take_all (length bs) bs (omega arith) in
    first ∙ ap (λ xs. xs ++ mid) whole ∙ ap (λ xs. bs ++ xs) then ∙ sym (append_assoc bs (take k piece) new) ∙ ap (λ xs. xs ++ new) (sym (all_of bs part piece k is))

pub same_left : (bs : List ℕ) (old mid new : Option (List ℕ)) → new ≡ mid → HandsOut (length bs) bs old mid → HandsOut (length bs) bs old new
same_left bs old mid new e h = subst (λ (o : Option (List ℕ)). HandsOut (length bs) bs old o) (sym e) h

-- What the disk holds of the bytes that were fed.

pub holds_none : (extents : List (ℕ × ℕ × ℕ)) (free : List ℕ) (x : Content) → HoldsFed extents free [] x x
holds_none extents free x = record { outside = unwritten extents free 0 0 x (λ le. absurd (omega arith)); written = λ late. absurd (omega arith) }

pub holds_more : (extents extents' : List (ℕ × ℕ × ℕ)) (free bs part : List ℕ) (a b c : Option Content) → extents' ≡ extents → Changes (HoldsFed extents free bs) a b → Changes (WritesOn extents' free bs part) b c →
    Changes (WritesAtRest extents' free (length bs) (length (bs ++ part))) b c → Changes (HoldsFed extents free (bs ++ part)) a c
holds_more extents extents' free bs part None None None e h i j = tt
holds_more extents extents' free bs part None None (Some z) e h i j = absurd i
holds_more extents extents' free bs part None (Some y) c e h i j = absurd h
holds_more extents extents' free bs part (Some x) None c e h i j = absurd h
holds_more extents extents' free bs part (Some x) (Some y) None e h i j = absurd i
holds_more extents extents' free bs part (Some x) (Some y) (Some z) e h i j =
    let w : WritesOn extents free bs part y z = subst (λ (m : List (ℕ × ℕ × ℕ)). WritesOn m free bs part y z) e i in
    let k : WritesAtRest extents free (length bs) (length (bs ++ part)) y z = subst (λ (m : List (ℕ × ℕ × ℕ)). WritesAtRest m free (length bs) (length (bs ++ part)) y z) e j in
    record { outside = writes_then extents free 0 (length bs) (length (bs ++ part)) x y z (omega arith) (omega (arith, length-append bs part)) h.outside k; written = w h.written }

-- or the session stops after them
pub keeps_more : (extents extents' : List (ℕ × ℕ × ℕ)) (free bs : List ℕ) (a b c : Option Content) → extents' ≡ extents → Changes (HoldsFed extents free bs) a b → Changes (StopsAtRest extents' free (length bs)) b c → Changes (StopsAtRest extents free 0) a c
keeps_more extents extents' free bs None None None e h j = tt
keeps_more extents extents' free bs None None (Some z) e h j = absurd j
keeps_more extents extents' free bs None (Some y) c e h j = absurd h
keeps_more extents extents' free bs (Some x) None c e h j = absurd h
keeps_more extents extents' free bs (Some x) (Some y) None e h j = absurd j
keeps_more extents extents' free bs (Some x) (Some y) (Some z) e h j =
    let k : StopsAtRest extents free (length bs) y z = subst (λ (m : List (ℕ × ℕ × ℕ)). StopsAtRest m free (length bs) y z) e j in
    stops_then extents free 0 (length bs) x y z (omega arith) h.outside k

-- How often the disk was called.

pub called_none : (d : DiskView) → IsCalledAtMost 0 d d
called_none d = record { calls = omega arith; faults = omega arith; orders = refl; blocks = refl }

pub called_more : (bs part : List ℕ) (d e f : DiskView) → IsCalledAtMost (3 * (length bs / 4096)) d e → f.calls ≤ e.calls + 3 * (length (bs ++ part) / 4096 - length bs / 4096) → e.faults ≤ f.faults → f.orders ≡ e.orders → f.blocks ≡ e.blocks →
    IsCalledAtMost (3 * (length (bs ++ part) / 4096)) d f
called_more bs part d e f h calls faults orders blocks =
    let size = length-append bs part in
    let more : length bs / 4096 ≤ length (bs ++ part) / 4096 = omega arith in
    let before = h.calls in
    let counted = h.faults in
    record { calls = omega arith; faults = omega arith; orders = orders ∙ h.orders; blocks = blocks ∙ h.blocks }

-- Why the feeding stops.

pub stop_for : {A : Type 0} (free bs : List ℕ) (why : InStop) (r : Result A InStop) → r ≡ Err why → IsOfFeed why → ((fault : StreamFault) → r ≡ Err (stop.Stream fault) → first_fault bs ≡ Some fault) →
    ((fault : StreamFault) → r ≡ Err (stop.Stream fault) → SufficeFor free bs) →
    ((told need : ℕ) → r ≡ Err (stop.NoSlots told need) → HasTooFewFor free bs told need) → IsStopFor free bs why
stop_for free bs stop.NoMemory r is of stream suffice few = of
stop_for free bs (stop.NoSwap why) r is of stream suffice few = of
stop_for free bs (stop.NoSlots told need) r is of stream suffice few = few told need is
stop_for free bs (stop.Stream fault) r is of stream suffice few = (stream fault is, suffice fault is)
stop_for free bs (stop.ReadFault left) r is of stream suffice few = of
stop_for free bs (stop.WriteFault left) r is of stream suffice few = of
stop_for free bs (stop.SyncFault left) r is of stream suffice few = of

-- a rise is one since an earlier moment
pub risen_from : (before mid now : ℕ) → before ≤ mid → HasRisen mid now → HasRisen before now
risen_from before mid now le (inl lt) = inl (omega arith)
risen_from before mid now le (inr last) = inr last
