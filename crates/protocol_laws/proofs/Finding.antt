-- The first four steps of a resume: a sync, the read of block(0), its write taken back, a sync.
use Rattle.std.proofs.Common.{◌≡◌, ℕ, inl, inr, Bool, true, false, length, sym, ap, ◌∙◌, subst, arith}
use Rattle.std.proofs.lemmas.Bool.{false≢true}
use Rattle.definitions.specs.Disk as disk
use Rattle.definitions.proofs.DiskLaws.{as_it_reads-settled, IsImage-after_sync, IsImage-as_it_reads}
use Rattle.plain_machine.specs.Machine.{Hardware}
use Rattle.plain_machine.specs.Chain.{header_of, Marked, Holds}
use Rattle.plain_machine.specs.Image.{Image}
use Rattle.plain_machine.specs.Stands.{IsHeld, IsOwn, IsSameOrTakenBack, HasOneImage}
use Rattle.plain_machine.specs.State.{Held, nothing, sure, maybe, own, other, Found, not_yet, found_own, found_other}
use Rattle.protocol_laws.specs.Resuming.{IsHeldOwn, FindsNone, FindsOwn, LoadBegins, LoadSyncs}
use Rattle.protocol_laws.proofs.Same.{header_kept, by_sync}

-- What was found.

found_something : (i : Image) → not_yet ≡ found_own i → ⊥
found_something i e = false≢true (ap is_found e) where
  is_found : Found → Bool
  is_found not_yet = false
  is_found (found_own i) = true
  is_found (found_other v) = true

found_another : (v : disk.DiskImage) → not_yet ≡ found_other v → ⊥
found_another v e = false≢true (ap is_found e) where
  is_found : Found → Bool
  is_found not_yet = false
  is_found (found_own i) = true
  is_found (found_other v) = true

pub own_isn't_other : (i : Image) (v : disk.DiskImage) → found_own i ≡ found_other v → ⊥
own_isn't_other i v e = false≢true (ap is_other e) where
  is_other : Found → Bool
  is_other not_yet = false
  is_other (found_own i) = false
  is_other (found_other v) = true

pub same_own : (i j : Image) → found_own i ≡ found_own j → i ≡ j
same_own i j e = ap image_or e where
  image_or : Found → Image
  image_or not_yet = i
  image_or (found_own k) = k
  image_or (found_other v) = i

-- The begin.

pub load_begins : LoadBegins
load_begins h shown shown' c held kept load stands is fresh fits shows = record {
  activity = shows.activity;
  parts = record {
    held = subst (IsHeld h c) (sym is) stands.parts.held;
    header = stands.parts.header;
    resume = record {
      shows = shows.shows;
      fits = fits;
      found = λ le. absurd (omega arith);
      own = λ i e. absurd (found_something i (sym fresh ∙ e));
      others = λ v e. absurd (found_another v (sym fresh ∙ e));
      taken_back = λ le. absurd (omega arith);
    };
    before = tt;
  };
}

-- What fewer images keep.

held_by_fewer : (h : Hardware) (c c' : disk.Content) (held : Held) → ((v : disk.DiskImage) → disk.IsImage c' v → disk.IsImage c v) → IsHeld h c held → IsHeld h c' held
held_by_fewer h c c' nothing fewer is = λ v in'. is v (fewer v in')
held_by_fewer h c c' (sure (own i)) fewer is = λ v in'. is v (fewer v in')
held_by_fewer h c c' (sure other) fewer is = λ v in'. is v (fewer v in')
held_by_fewer h c c' (maybe (own i)) fewer is = λ v in'. is v (fewer v in')
held_by_fewer h c c' (maybe other) fewer is = is

fewer_by_sync : (blocks : ℕ) (c c' : disk.Content) → disk.IsContent blocks c → disk.Syncs c c' → (v : disk.DiskImage) → disk.IsImage c' v → disk.IsImage c v
fewer_by_sync blocks c c' whole syncs v in' = subst (disk.IsImage c) (sym (IsImage-after_sync c c' v syncs in')) (IsImage-as_it_reads blocks c whole)

one_by_sync : (c c' : disk.Content) → disk.Syncs c c' → HasOneImage c'
one_by_sync c c' syncs v w in_v in_w = IsImage-after_sync c c' v syncs in_v ∙ sym (IsImage-after_sync c c' w syncs in_w)

reads_by_sync : (c c' : disk.Content) → disk.Syncs c c' → disk.as_it_reads c' ≡ disk.as_it_reads c
reads_by_sync c c' syncs = ap disk.as_it_reads syncs ∙ as_it_reads-settled (disk.as_it_reads c)

-- the first sync
pub load_syncs : LoadSyncs
load_syncs h shown shown' c c' blocks load whole stands syncs shows =
    let fewer = fewer_by_sync blocks c c' whole syncs in
    let was = stands.parts.resume in
    record {
      activity = shows.activity;
      parts = record {
        held = held_by_fewer h c c' load.held fewer stands.parts.held;
        header = header_kept h c c' (by_sync h blocks c c' whole syncs) stands.parts.header;
        resume = record {
          shows = shows.shows;
          fits = was.fits;
          found = λ le. absurd (omega arith);
          own = λ i e. let o = was.own i e in (o.0, o.1, o.2, λ v in'. o.3 v (fewer v in'));
          others = λ v e w in'. was.others v e w (fewer w in');
          taken_back = λ le. absurd (omega arith);
        };
        before = one_by_sync c c' syncs;
      };
    }

-- The read of block(0).

-- no mark: no image is held
pub finds_none : FindsNone
finds_none h shown shown' c blocks load whole stands unmarked activity kept =
    let one = stands.parts.before in
    let here = IsImage-as_it_reads blocks c whole in
    record {
      activity = activity;
      parts = record { memory = kept; held = λ v in' m. unmarked (subst (Marked h) (one v (disk.as_it_reads c) in' here) m); header = stands.parts.header };
    }

own_there : (h : Hardware) (c : disk.Content) (held : Held) (i : Image) (v : disk.DiskImage) → IsHeldOwn held i → IsHeld h c held → disk.IsImage c v → Marked h v → Holds h v i × IsOwn h v i
own_there h c held i v (inl is) there in' marked = subst (IsHeld h c) is there v in'
own_there h c held i v (inr is) there in' marked =
    let it = subst (IsHeld h c) is there v in' in
    (elim it.0 [ inl never ↦ absurd (never marked) | inr holds ↦ holds ], it.1)

pub itself : (h : Hardware) (v w : disk.DiskImage) → w ≡ v → IsSameOrTakenBack h v w
itself h v w e = record { size = ap length e; others = λ b lt apart. ap (λ (u : disk.DiskImage). disk.block u b) e; header = inl (ap (header_of h) e) }

pub finds_own : FindsOwn
finds_own h shown shown' c blocks load i whole stands held marked header shows =
    let v = disk.as_it_reads c in
    let one = stands.parts.before in
    let here = IsImage-as_it_reads blocks c whole in
    let there = own_there h c load.held i v held stands.parts.held here marked in
    record {
      activity = shows.activity;
      parts = record {
        held = λ w in'. let e = one v w here in' in (subst (λ (u : disk.DiskImage). Holds h u i) e there.0, subst (λ (u : disk.DiskImage). IsOwn h u i) e there.1);
        header = stands.parts.header;
        resume = record {
          shows = shows.shows;
          fits = stands.parts.resume.fits;
          found = λ le. tt;
          own = λ j e. let is = same_own i j e in (v, subst (Holds h v) is there.0, subst (IsOwn h v) is there.1, λ w in'. itself h v w (one w v in' here));
          others = λ w e. absurd (own_isn't_other i w e);
          taken_back = λ le. absurd (omega arith);
        };
        before = record { one = one; header = header };
      };
    }
