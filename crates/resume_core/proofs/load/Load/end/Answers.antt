use Rattle.std.proofs.Common.{◌≡◌, ◌≤◌, ℕ, length, rules, refl, sym, ap, ◌∙◌, subst, arith}
use Rattle.definitions.specs.FreeRuns.{free_runs}
use Rattle.placement.specs.Waiting.{Awaiting}
use Rattle.swap_slots.specs.Runs.{SlotRuns}
use Rattle.swap_slots.specs.Table.{Matches}
use Rattle.swap_slots.specs.declared.table.SlotTable.{SlotTable}
use Rattle.machine.specs.Running.{slot_table_of}
use Rattle.machine.proofs.Readiness.{flights-none}
use Rattle.plain_machine.specs.declared.reply.Reply.{Reply}
use Rattle.resume_core.specs.Row.{EndsOn, HasRead}
use Rattle.resume_core.specs.declared.load.Load.{Load}
use Rattle.resume_core.specs.declared.load.OpenChain.{OpenChain}
use Rattle.resume_core.specs.declared.load.Stage.TheVariants as stage
use Rattle.resume_core.proofs.Listing.{same_read}
use Rattle.resume_core.proofs.Ending.{resumed_row, resumed_off_row, bad_tables_row}
use Rattle.resume_core.proofs.load.Load.end.Goals as goal

pub returns-in-Table-clause-row : goal.returns-in-Table-clause-row
returns-in-Table-clause-row c = λ chain at d l v k read places room over.
    let row = resumed_off_row c.args.machine.now c.args.frames.now c.finish.new.frames c.args.self.now c.stop.new.self chain c.len-saved.result c.in-Table.is
    (record { restored = c.finish.ensures.restored; size = c.finish.ensures.size ∙ c.requires.ready.over.size }) c.len-saved.ensures.len (ap (λ (x : Load). x.stage) c.stop.ensures.load) in
    subst (λ (r : Reply). EndsOn c.args.machine.now c.args.frames.now c.args.self.now chain c.args.machine.now c.finish.new.frames c.stop.new.self r) (sym c.stop.ensures.reply) row d l v k read places room over

pub returns-in-Ok-clause-row : goal.returns-in-Ok-clause-row
returns-in-Ok-clause-row c = λ chain at d l v k read places room over.
    let row = resumed_row c.args.machine.now c.args.frames.now c.finish.new.frames c.args.self.now (record c.args.self.now { stage = stage.Runs; waiting = c.finish.new.self }) c.in-Read.chain c.in-Ranges.field-0 c.in-Ok.area c.len-saved.result c.in-Ranges.is c.are_pages.ensures.pages
    (record { restored = c.finish.ensures.restored; size = c.finish.ensures.size ∙ c.requires.ready.over.size }) c.in-Ok.ensures.tables c.in-Ok.ensures.kind c.len-saved.ensures.len refl in
    row d l v k (subst (λ (x : OpenChain). HasRead c.args.machine.now c.args.frames.now c.args.self.now x d l v k) (same_read chain c.in-Read.chain (sym at ∙ c.in-Read.is)) read) places room over

pub returns-in-Err-clause-row : goal.returns-in-Err-clause-row
returns-in-Err-clause-row c = λ chain at d l v k read places room over.
    let row = bad_tables_row c.args.machine.now c.args.frames.now c.finish.new.frames c.args.self.now c.stop-in-Err.new.self c.in-Read.chain c.in-Ranges.field-0 c.in-Err.frame c.in-Ranges.is
    (record { restored = c.finish.ensures.restored; size = c.finish.ensures.size ∙ c.requires.ready.over.size }) c.in-Err.ensures.tables (ap (λ (x : Load). x.stage) c.stop-in-Err.ensures.load) in
    subst (λ (r : Reply). EndsOn c.args.machine.now c.args.frames.now c.args.self.now c.in-Read.chain c.args.machine.now c.finish.new.frames c.stop-in-Err.new.self r) (sym c.stop-in-Err.ensures.reply) row d l v k
    (subst (λ (x : OpenChain). HasRead c.args.machine.now c.args.frames.now c.args.self.now x d l v k) (same_read chain c.in-Read.chain (sym at ∙ c.in-Read.is)) read) places room over

pub returns-in-Ok-clause-proceeded : goal.returns-in-Ok-clause-proceeded
returns-in-Ok-clause-proceeded c =
    let over = c.requires.ready.over in
    let h = c.args.machine.now.hw in
    let size : length c.finish.new.frames ≡ length c.args.frames.now = c.finish.ensures.size in
    let room : h.slots ≤ c.rebuild.new.self.room = subst (λ (n : ℕ). h.slots ≤ n) (sym (ap (λ (x : SlotRuns). x.room) c.rebuild.ensures)) over.room in
    let matches : Matches c.finish.new.frames (slot_table_of h) c.rebuild.new.self = record {
      room = room;
      runs = ap (λ (x : SlotRuns). x.runs) c.rebuild.ensures ∙ ap (λ (t : SlotTable). free_runs t.slots t.first c.finish.new.frames) c.slot_table.ensures.table;
    } in
    record {
      activity = search rules;
      loader = search rules;
      works = search rules;
      ready = record {
        over = record {
          hardware = over.hardware;
          few = over.few;
          size = size ∙ over.size;
          table = (let lies = over.table in omega arith);
          room = room;
          origs = over.origs;
          zeros = over.zeros;
          waiting = ap (λ (x : Awaiting). x.zones) c.finish.ensures.waiting ∙ over.waiting;
        };
        next = record {
          area = refl;
          usable = c.in-Ok.ensures.fits;
          matches = matches;
          unheld = refl;
          reserved = c.in-Ok.ensures.reserved;
          idle = λ t. flights-none 64 t;
        };
      };
      no_fault = search rules;
      machine = record { hw = refl; blocks = refl };
    }
