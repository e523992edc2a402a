-- The steps that take a mark back while the machine runs.
use Rattle.std.proofs.Common.{ℕ, inl, inr}
use Rattle.definitions.specs.Disk as disk
use Rattle.plain_machine.specs.Machine.{Hardware}
use Rattle.plain_machine.specs.Shows.{WorldView}
use Rattle.plain_machine.specs.Stands.{Stands}
use Rattle.plain_machine.specs.State.{settling, Running, perhaps}
use Rattle.definitions.specs.SwapHeader.{unmarked_block}
use Rattle.protocol_laws.specs.Settling.{IsOnDisk, SettleBegins, SettleReads, SettleReadFails, SettleWrites, SettleWriteFails, SettleKeepsArea, SettleSyncs, SettleSyncFails}
use Rattle.protocol_laws.proofs.Behind.{waits_on, unmarking, area_tried, waits_tried, runs_unsure, runs_synced}
use Rattle.protocol_laws.proofs.Unmarking.{IsUnmarking, reads_unmarked}

pub settle_begins : SettleBegins
settle_begins h shown shown' c a stands activity shows names =
    let was = stands.parts.disk in
    record {
      activity = activity;
      parts = record {
        behind = record {
          memory = shows;
          held = was.held;
          task_slots = was.task_slots;
          flights = was.flights;
          slot_pages = was.slot_pages;
          header = was.header;
          area = was.area;
        };
        names = names;
        before = tt;
      };
    }

pub settle_reads : SettleReads
settle_reads h shown shown' c a stands header activity shows names = record {
  activity = activity;
  parts = record { behind = waits_on h shown shown' c a a.held stands.parts.behind shows; names = names; before = header };
}

pub settle_read_fails : SettleReadFails
settle_read_fails h shown shown' c a stands activity shows names =
    let was = stands.parts.behind in
    record {
      activity = activity;
      parts = record {
        memory = shows;
        disk = record {
          held = was.held;
          task_slots = was.task_slots;
          flights = was.flights;
          slot_pages = was.slot_pages;
          names = names;
          header = was.header;
          area = was.area;
        };
      };
    }

unmarking_settled : (h : Hardware) (shown : WorldView) (c : disk.Content) (blocks : ℕ) (a : Running) → IsOnDisk h blocks c → Stands h shown c (settling a 1) → IsUnmarking h (unmarked_block shown.header) c blocks
unmarking_settled h shown c blocks a over stands = unmarking h shown c blocks a a.held over stands.parts.behind stands.parts.before

pub settle_keeps_area : SettleKeepsArea
settle_keeps_area h shown c c' blocks a over stands tries = area_tried h (unmarked_block shown.header) c c' blocks (unmarking_settled h shown c blocks a over stands) tries

pub settle_writes : SettleWrites
settle_writes h shown shown' c c' blocks a over after stands writes activity shows names =
    let page = unmarked_block shown.header in
    let un = unmarking_settled h shown c blocks a over stands in
    record {
      activity = activity;
      parts = record {
        behind = waits_tried h shown shown' page c c' blocks a a.held over.hardware un after (inl writes) stands.parts.behind shows;
        names = names;
        before = reads_unmarked h page c c' blocks un after writes;
      };
    }

pub settle_write_fails : SettleWriteFails
settle_write_fails h shown shown' c c' blocks a over after stands fails activity shows names =
    let un = unmarking_settled h shown c blocks a over stands in
    let waits = waits_tried h shown shown (unmarked_block shown.header) c c' blocks a a.held over.hardware un after (inr fails) stands.parts.behind stands.parts.behind.memory in
    record { activity = activity; parts = record { memory = shows; disk = runs_unsure h shown shown' c' a waits names } }

pub settle_syncs : SettleSyncs
settle_syncs h shown shown' c c' blocks a whole stands syncs activity shows names = record {
  activity = activity;
  parts = record { memory = shows; disk = runs_synced h shown shown' c c' blocks a (perhaps a.held) whole syncs stands.parts.before stands.parts.behind names };
}

pub settle_sync_fails : SettleSyncFails
settle_sync_fails h shown shown' c a stands activity shows names = record { activity = activity; parts = record { memory = shows; disk = runs_unsure h shown shown' c a stands.parts.behind names } }
