-- The steps that take a mark back before a machine that slept runs.
use Rattle.std.proofs.Common.{ℕ, inl, inr, ap}
use Rattle.definitions.specs.Disk as disk
use Rattle.plain_machine.specs.Machine.{Hardware}
use Rattle.plain_machine.specs.Image.{Image}
use Rattle.plain_machine.specs.Shows.{WorldView}
use Rattle.plain_machine.specs.Stands.{Stands, IsSaved}
use Rattle.plain_machine.specs.State.{waking, Running, Held, perhaps}
use Rattle.definitions.specs.SwapHeader.{unmarked_block}
use Rattle.protocol_laws.specs.Settling.{IsOnDisk}
use Rattle.protocol_laws.specs.Waking.{WakeBegins, WakeReads, WakeReadFails, WakeWrites, WakeWriteFails, WakeKeepsArea, WakeSyncs, WakeSyncFails}
use Rattle.protocol_laws.proofs.Behind.{waits_on, unmarking, area_tried, waits_tried, names_perhaps, runs_synced}
use Rattle.protocol_laws.proofs.Unmarking.{IsUnmarking, reads_unmarked}

pub wake_begins : WakeBegins
wake_begins h shown shown' c i held a stands activity shows names = record {
  activity = activity;
  parts = record { behind = waits_on h shown shown' c a held stands.parts.behind shows; names = names; saved = stands.parts.saved; before = tt };
}

pub wake_reads : WakeReads
wake_reads h shown shown' c i held a stands header activity shows names = record {
  activity = activity;
  parts = record { behind = waits_on h shown shown' c a held stands.parts.behind shows; names = names; saved = stands.parts.saved; before = header };
}

pub wake_read_fails : WakeReadFails
wake_read_fails h shown shown' c i held a stands activity shows names = record {
  activity = activity;
  parts = record { behind = waits_on h shown shown' c a held stands.parts.behind shows; names = names; saved = stands.parts.saved };
}

unmarking_waked : (h : Hardware) (shown : WorldView) (c : disk.Content) (blocks : ℕ) (i : Image) (held : Held) (a : Running) → IsOnDisk h blocks c → Stands h shown c (waking i held a 1) → IsUnmarking h (unmarked_block shown.header) c blocks
unmarking_waked h shown c blocks i held a over stands = unmarking h shown c blocks a held over stands.parts.behind stands.parts.before

pub wake_keeps_area : WakeKeepsArea
wake_keeps_area h shown c c' blocks i held a over stands tries = area_tried h (unmarked_block shown.header) c c' blocks (unmarking_waked h shown c blocks i held a over stands) tries

pub wake_writes : WakeWrites
wake_writes h shown shown' c c' blocks i held a over after stands writes activity shows names =
    let page = unmarked_block shown.header in
    let un = unmarking_waked h shown c blocks i held a over stands in
    record {
      activity = activity;
      parts = record {
        behind = waits_tried h shown shown' page c c' blocks a held over.hardware un after (inl writes) stands.parts.behind shows;
        names = names;
        saved = stands.parts.saved;
        before = reads_unmarked h page c c' blocks un after writes;
      };
    }

-- the image is still that of the memory that is kept, where it is only perhaps there
saved_perhaps : (h : Hardware) (i : Image) (held : Held) (a : Running) → IsSaved h i held a → IsSaved h i (perhaps held) a
saved_perhaps h i held a is = record {
  image = is.image;
  is_held = elim is.is_held [ inl is_sure ↦ inr (ap perhaps is_sure) | inr is_maybe ↦ inr (ap perhaps is_maybe) ];
}

pub wake_write_fails : WakeWriteFails
wake_write_fails h shown shown' c c' blocks i held a over after stands fails activity shows names =
    let un = unmarking_waked h shown c blocks i held a over stands in
    record {
      activity = activity;
      parts = record {
        behind = waits_tried h shown shown' (unmarked_block shown.header) c c' blocks a held over.hardware un after (inr fails) stands.parts.behind shows;
        names = names_perhaps h shown' held names;
        saved = saved_perhaps h i held a stands.parts.saved;
      };
    }

pub wake_syncs : WakeSyncs
wake_syncs h shown shown' c c' blocks i held a whole stands syncs activity shows names = record {
  activity = activity;
  parts = record { memory = shows; disk = runs_synced h shown shown' c c' blocks a (perhaps held) whole syncs stands.parts.before stands.parts.behind names };
}

pub wake_sync_fails : WakeSyncFails
wake_sync_fails h shown shown' c i held a stands activity shows names = record {
  activity = activity;
  parts = record { behind = waits_on h shown shown' c a (perhaps held) stands.parts.behind shows; names = names_perhaps h shown' held names; saved = saved_perhaps h i held a stands.parts.saved };
}
