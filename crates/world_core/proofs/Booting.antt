-- Rows of a boot, but for its end.
use Rattle.protocol_laws.proofs.Leaving.{leaves_refused}
use Rattle.protocol_laws.proofs.Unwritten.{block_same, block_synced}
use Rattle.std.proofs.Common.{◌≡◌, ℕ, true, false, ◌&&◌, [], Option, Some, None, is_none, refl, sym, ap, ◌∙◌, arith, subst, unwrap_or}
use Rattle.std.proofs.lemmas.Bool.{false≢true}
use Rattle.definitions.specs.Disk as disk
use Rattle.definitions.proofs.DiskLaws.{IsImage-as_it_reads, IsImage-after_sync, as_it_reads-settled}
use Rattle.plain_machine.specs.Machine.{Hardware, Memory, Fits}
use Rattle.plain_machine.specs.UsableArea.{area_block}
use Rattle.plain_machine.specs.State.{off, booting, Held, nothing, sure, maybe, own, other}
use Rattle.plain_machine.specs.Stands.{Stands, IsHeld, IsHeader, HasOneImage, AgreeOnArea, ShowsBoot}
use Rattle.plain_machine.specs.FreshMemory.{fresh_frames}
use Rattle.plain_machine.specs.Refusals.{refusal, refused_if, asks_dump_to_boot}
use Rattle.plain_machine.specs.declared.event.BootFrom.{BootFrom}
use Rattle.plain_machine.specs.declared.event.BootFrom.TheVariants.{Fresh, Kept}
use Rattle.plain_machine.specs.declared.event.Event.{Event}
use Rattle.plain_machine.specs.declared.event.Event.TheVariants as event
use Rattle.plain_machine.specs.declared.event.Actor.TheVariants as actor
use Rattle.plain_machine.specs.declared.reply.Left.TheVariants.{Same}
use Rattle.plain_machine.specs.declared.reply.Reply.TheVariants as reply
use Rattle.world_core.specs.declared.world.Core.TheVariants.{Off, BootBegun, BootSynced}
use Rattle.world_core.specs.World.{World}
use Rattle.world_core.specs.StandsFor.{StandsFor, IsOff, hardware_of, keeps_dump, shown}
use Rattle.world_core.specs.Row.{Simulates}
use Rattle.world_core.proofs.Cases.{activity_by}
use Rattle.world_core.proofs.Rows.{area_of_same, accepted_step, refused_step, row_at_rest, row_at_boot}

-- What a smaller choice of images keeps.

pub held_by_images : (h : Hardware) (c c' : disk.Content) (held : Held) → ((v : disk.DiskImage) → disk.IsImage c' v → disk.IsImage c v) → IsHeld h c held → IsHeld h c' held
held_by_images h c c' nothing fewer is = λ v in'. is v (fewer v in')
held_by_images h c c' (sure (own i)) fewer is = λ v in'. is v (fewer v in')
held_by_images h c c' (sure other) fewer is = λ v in'. is v (fewer v in')
held_by_images h c c' (maybe (own i)) fewer is = λ v in'. is v (fewer v in')
held_by_images h c c' (maybe other) fewer is = is

pub header_by_images : (h : Hardware) (c c' : disk.Content) → ((v : disk.DiskImage) → disk.IsImage c' v → disk.IsImage c v) → disk.as_it_reads c' ≡ disk.as_it_reads c → IsHeader h c → IsHeader h c'
header_by_images h c c' fewer reads is = record {
  unmarked = λ v in'. is.unmarked v (fewer v in');
  one = λ v in'. subst (λ (w : disk.DiskImage). AgreeOnArea (area_block h v) (area_block h w)) (sym reads) (is.one v (fewer v in'));
}

pub fewer_after_sync : (blocks : ℕ) (c c' : disk.Content) → disk.IsContent blocks c → disk.Syncs c c' → (v : disk.DiskImage) → disk.IsImage c' v → disk.IsImage c v
fewer_after_sync blocks c c' whole syncs v in' = subst (disk.IsImage c) (sym (IsImage-after_sync c c' v syncs in')) (IsImage-as_it_reads blocks c whole)

pub reads_after_sync : (c c' : disk.Content) → disk.Syncs c c' → disk.as_it_reads c' ≡ disk.as_it_reads c
reads_after_sync c c' syncs = ap disk.as_it_reads syncs ∙ as_it_reads-settled (disk.as_it_reads c)

pub one_after_sync : (c c' : disk.Content) → disk.Syncs c c' → HasOneImage c'
one_after_sync c c' syncs v w in_v in_w = IsImage-after_sync c c' v syncs in_v ∙ sym (IsImage-after_sync c c' w syncs in_w)

-- Begin.

-- what is kept, by what the world shows
no_kept : (w : World) (c : disk.Content) (held : Held) (kept : Option Memory) → keeps_dump w.core ≡ false → StandsFor w c (off held kept) → kept ≡ None
no_kept w c held None none stands = refl
no_kept w c held (Some m) none stands = absurd (false≢true (sym none ∙ stands.stands.parts.memory.0))

pub kept_is : (w : World) (c : disk.Content) (held : Held) (kept : Option Memory) → keeps_dump w.core ≡ true → StandsFor w c (off held kept) → (kept ≡ Some w.frames) × Fits (hardware_of w) w.frames
kept_is w c held None some stands = absurd (false≢true (sym stands.stands.parts.memory ∙ some))
kept_is w c held (Some m) some stands = (ap Some (sym stands.stands.parts.memory.1), subst (Fits (hardware_of w)) (sym stands.stands.parts.memory.1) stands.stands.parts.memory.2)

-- An event that asks for a dump is refused where none is kept.

refuses_none : (h : Hardware) (e : Event) (held : Held) (kept : Option Memory) → kept ≡ None → refusal h (off held None) e ≡ Some reply.NoDump → refusal h (off held kept) e ≡ Some reply.NoDump
refuses_none h e held kept none refused = ap (λ (k : Option Memory). refusal h (off held k) e) none ∙ refused

pub no_dump : (e : Event) (w : World) (c : disk.Content) → IsOff w → keeps_dump w.core ≡ false → ((held : Held) → refusal (hardware_of w) (off held None) e ≡ Some reply.NoDump) → Simulates e w w reply.NoDump c c
no_dump e w c core none refused =
    row_at_rest e w w reply.NoDump c c core
    (λ held kept stands.
    let why = refuses_none (hardware_of w) e held kept (no_kept w c held kept none stands) (refused held) in (
      off held kept,
      record {
        step = refused_step (hardware_of w) (disk.as_it_reads c) (off held kept) e reply.NoDump why;
        stands = stands;
        area = area_of_same (hardware_of w) (disk.as_it_reads c) (disk.as_it_reads c) refl;
        unwritten = λ b not. block_same b _;
        leaves = leaves_refused (hardware_of w) e reply.NoDump (off held kept) c why;
        header = tt;
      },
    ))

pub refuses_boot : (h : Hardware) (held : Held) (from : BootFrom) → asks_dump_to_boot from ≡ true → refusal h (off held None) (event.Boot from) ≡ Some reply.NoDump
unfolding refusal
refuses_boot h held Fresh asks = absurd (false≢true asks)
refuses_boot h held Kept asks = refl

-- A boot is begun, from fresh memory or the dump's that is kept.
pub record BeginsBoot (from : BootFrom) (old new : World) : Type 0 where
  pub off : IsOff old
  pub core : new.core ≡ BootBegun from
  pub hardware : hardware_of new ≡ hardware_of old
  pub fresh : from ≡ Fresh → new.frames ≡ fresh_frames (hardware_of old)
  pub kept : from ≡ Kept → new.frames ≡ old.frames
  pub dump : asks_dump_to_boot from ≡ true → keeps_dump old.core ≡ true

accepts_boot : (old new : World) (c : disk.Content) (held : Held) (kept : Option Memory) (from : BootFrom) → BeginsBoot from old new → StandsFor old c (off held kept) → refusal (hardware_of old) (off held kept) (event.Boot from) ≡ None
unfolding refusal
accepts_boot old new c held kept Fresh begins stands = refl
accepts_boot old new c held kept Kept begins stands = ap (λ (o : Option Memory). refused_if (true && is_none o) reply.NoDump) (kept_is old c held kept (begins.dump refl) stands).0

shows_boot : (old new : World) (c : disk.Content) (held : Held) (kept : Option Memory) (from : BootFrom) → BeginsBoot from old new → StandsFor old c (off held kept) → ShowsBoot (hardware_of old) (shown new) from (unwrap_or kept [])
shows_boot old new c held kept Fresh begins stands = begins.fresh refl
shows_boot old new c held kept Kept begins stands =
    let is = kept_is old c held kept (begins.dump refl) stands in
    let dump : unwrap_or kept [] ≡ old.frames = ap (λ (o : Option Memory). unwrap_or o []) is.0 in
    (begins.kept refl ∙ sym dump, subst (Fits (hardware_of old)) (sym dump) is.1)

begun_stands : (old new : World) (c : disk.Content) (held : Held) (kept : Option Memory) (from : BootFrom) → BeginsBoot from old new → StandsFor old c (off held kept) → StandsFor new c (booting from (unwrap_or kept []) held 0)
begun_stands old new c held kept from begins stands =
    record {
      stands = subst (λ (h : Hardware). Stands h (shown new) c (booting from (unwrap_or kept []) held 0)) (sym begins.hardware)
          (record { activity = activity_by new (BootBegun from) begins.core; parts = record { memory = shows_boot old new c held kept from begins stands; held = stands.stands.parts.held; header = stands.stands.parts.header; before = tt } });
      image = tt;
      resume = tt;
    }

pub boot_begins : (old new : World) (c : disk.Content) (from : BootFrom) → BeginsBoot from old new → Simulates (event.Boot from) old new (reply.More 0 2) c c
boot_begins old new c from begins =
    row_at_rest (event.Boot from) old new (reply.More 0 2) c c begins.off
    (λ held kept stands. (
      booting from (unwrap_or kept []) held 0,
      record {
        step = accepted_step (hardware_of old) (disk.as_it_reads c) (off held kept) (event.Boot from) (reply.More 0 2) (booting from (unwrap_or kept []) held 0) (accepts_boot old new c held kept from begins stands) (0, omega arith, refl);
        stands = begun_stands old new c held kept from begins stands;
        area = area_of_same (hardware_of old) (disk.as_it_reads c) (disk.as_it_reads c) refl;
        unwritten = λ b not. block_same b _;
        leaves = tt;
        header = tt;
      },
    ))

-- The sync.

pub accepts_step : (h : Hardware) (from : BootFrom) (dump : Memory) (held : Held) (k : ℕ) → refusal h (booting from dump held k) (event.Step actor.Core) ≡ None
unfolding refusal
accepts_step h from dump held k = refl

shows_still : (h : Hardware) (old new : World) (from : BootFrom) (dump : Memory) → new.frames ≡ old.frames → ShowsBoot h (shown old) from dump → ShowsBoot h (shown new) from dump
shows_still h old new Fresh dump frames shows = frames ∙ shows
shows_still h old new Kept dump frames shows = (frames ∙ shows.0, shows.1)

synced_stands : (old new : World) (blocks : ℕ) (c c' : disk.Content) (from : BootFrom) (dump : Memory) (held : Held) → disk.IsContent blocks c → disk.Syncs c c' → new.core ≡ BootSynced from → hardware_of new ≡ hardware_of old → new.frames ≡ old.frames → StandsFor old c (booting from dump held 0) → StandsFor new c' (booting from dump held 1)
synced_stands old new blocks c c' from dump held whole syncs core hw frames stands =
    let fewer = fewer_after_sync blocks c c' whole syncs in
    record {
      stands = subst (λ (h : Hardware). Stands h (shown new) c' (booting from dump held 1)) (sym hw)
          (record {
            activity = activity_by new (BootSynced from) core;
            parts = record {
              memory = shows_still (hardware_of old) old new from dump frames stands.stands.parts.memory;
              held = held_by_images (hardware_of old) c c' held fewer stands.stands.parts.held;
              header = header_by_images (hardware_of old) c c' fewer (reads_after_sync c c' syncs) stands.stands.parts.header;
              before = one_after_sync c c' syncs;
            };
          });
      image = tt;
      resume = tt;
    }

pub boot_syncs : (old new : World) (blocks : ℕ) (c c' : disk.Content) (from : BootFrom) → disk.IsContent blocks c → disk.Syncs c c' → old.core ≡ BootBegun from → new.core ≡ BootSynced from → hardware_of new ≡ hardware_of old → new.frames ≡ old.frames → Simulates (event.Step actor.Core) old new (reply.More 1 2) c c'
boot_syncs old new blocks c c' from whole syncs core core' hw frames =
    row_at_boot (event.Step actor.Core) old new (reply.More 1 2) c c' from 0 (activity_by old (BootBegun from) core)
    (λ dump held stands. (
      booting from dump held 1,
      record {
        step = accepted_step (hardware_of old) (disk.as_it_reads c) (booting from dump held 0) (event.Step actor.Core) (reply.More 1 2) (booting from dump held 1) (accepts_step (hardware_of old) from dump held 0) (0, omega arith, refl);
        stands = synced_stands old new blocks c c' from dump held whole syncs core' hw frames stands;
        area = area_of_same (hardware_of old) (disk.as_it_reads c) (disk.as_it_reads c') (reads_after_sync c c' syncs);
        unwritten = λ b not. block_synced blocks b c c' whole syncs;
        leaves = tt;
        header = tt;
      },
    ))

-- A call of the disk that fails.

pub failed_stands : (old new : World) (c : disk.Content) (from : BootFrom) (dump : Memory) (held : Held) (k : ℕ) → new.core ≡ Off false → hardware_of new ≡ hardware_of old → StandsFor old c (booting from dump held k) → StandsFor new c (off held None)
failed_stands old new c from dump held k core hw stands =
    record {
      stands = subst (λ (h : Hardware). Stands h (shown new) c (off held None)) (sym hw)
          (record { activity = activity_by new (Off false) core; parts = record { memory = ap keeps_dump core; held = stands.stands.parts.held; header = stands.stands.parts.header } });
      image = tt;
      resume = tt;
    }

pub boot_sync_fails : (old new : World) (c : disk.Content) (from : BootFrom) → old.core ≡ BootBegun from → new.core ≡ Off false → hardware_of new ≡ hardware_of old → Simulates (event.Step actor.Core) old new (reply.SyncFault Same) c c
boot_sync_fails old new c from core core' hw =
    row_at_boot (event.Step actor.Core) old new (reply.SyncFault Same) c c from 0 (activity_by old (BootBegun from) core)
    (λ dump held stands. (
      off held None,
      record {
        step = accepted_step (hardware_of old) (disk.as_it_reads c) (booting from dump held 0) (event.Step actor.Core) (reply.SyncFault Same) (off held None) (accepts_step (hardware_of old) from dump held 0) (1, omega arith, refl);
        stands = failed_stands old new c from dump held 0 core' hw stands;
        area = area_of_same (hardware_of old) (disk.as_it_reads c) (disk.as_it_reads c) refl;
        unwritten = λ b not. block_same b _;
        leaves = tt;
        header = tt;
      },
    ))
