use Rattle.std.proofs.Common.{◌≡◌, ℕ, ◌≤◌, ◌+◌, length, refl, sym, ap, ◌∙◌, subst, arith}
use Rattle.definitions.specs.Tables.{table_frame_count}
use Rattle.definitions.specs.Zones.{top}
use Rattle.machine.proofs.Rows.{slot_table_fits}
use Rattle.frame_sets.specs.FrameSet.{FrameSet}
use Rattle.resume_core.proofs.Beginning.{begun_row}
use Rattle.resume_core.proofs.load.Load.begin.Goals as goal

pub begin-requires : goal.begin-requires
begin-requires c = ap (λ (s : FrameSet). s.zones) c.make_loader.ensures.set ∙ c.requires.ready.origs ∙ sym c.requires.ready.waiting

pub returns-clause-row : goal.returns-clause-row
returns-clause-row c =
    begun_row c.args.machine.now c.args.frames.now c.make_loader.new.frames _ c.args.loader c.args.check
    (record {
      kept = λ p lt free. c.make_loader.ensures.loader p (let size = c.requires.ready.size in omega arith) free;
      free = c.begin.ensures.free ∙ ap (λ (s : FrameSet). s.members) c.make_loader.ensures.set;
      none = c.begin.ensures.empty;
      is_loader = refl;
      checks = refl;
      at = refl;
      origs = ap (λ (s : FrameSet). s.members) c.clear_all.ensures;
      zeros = ap (λ (s : FrameSet). s.members) c.clear_all-2.ensures;
    })

pub returns-clause-ready : goal.returns-clause-ready
returns-clause-ready c = λ runs room.
    let h = c.args.machine.now.hw in
    let size : length c.make_loader.new.frames ≡ top h.zones = c.make_loader.ensures.size ∙ c.requires.ready.size in
    let fits : h.slot_table + table_frame_count h.slots ≤ length c.make_loader.new.frames = subst (λ (n : ℕ). h.slot_table + table_frame_count h.slots ≤ n) (sym size) (slot_table_fits h c.make_loader.ensures.hardware) in
    record {
      over = record {
        hardware = c.make_loader.ensures.hardware;
        few = omega arith;
        size = size;
        table = fits;
        room = room;
        origs = ap (λ (s : FrameSet). s.zones) c.clear_all.ensures ∙ ap (λ (s : FrameSet). s.zones) c.make_loader.ensures.set ∙ c.requires.ready.origs;
        zeros = ap (λ (s : FrameSet). s.zones) c.clear_all-2.ensures ∙ c.requires.ready.zeros;
        waiting = c.begin.ensures.zones ∙ c.requires.ready.waiting;
      };
      next = (ap (λ (s : FrameSet). s.members) c.clear_all.ensures, ap (λ (s : FrameSet). s.members) c.clear_all-2.ensures);
    }
