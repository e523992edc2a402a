use Rattle.std.proofs.Common.{[], ◌∷◌, take, get_or, refl, sym, ap, ◌∙◌, arith}
use Rattle.std.proofs.lemmas.List.{take_more, take_all}
use Rattle.std.proofs.lemmas.List.Elements.{Contains-get_or}
use Rattle.definitions.specs.Tables.{with_entry, with_entries}
use Rattle.definitions.proofs.TableEntries.{with_entries-none, with_entries-more}
use Rattle.stream_in.proofs.Opened.{usable_slots}
use Rattle.stream_in.proofs.slots.SlotMemory.with_area.Goals as goal

pub loop-slot-init : goal.loop-slot-init
loop-slot-init c =
    let frames = c.args.self.frames in
    record {
      set = c.set.ensures.entry ∙ ap (λ f. with_entry f 0 0 131072) (sym (with_entries-none frames 0 131072))
          ∙ sym (with_entries-more frames 0 [] 0 131072);
      size = c.set.ensures.len;
    }

pub set-requires-in-loop-slot-clause-slot : goal.set-requires-in-loop-slot-clause-slot
set-requires-in-loop-slot-clause-slot c =
    let named = take c.args.area.now.count c.args.area.now.bad in
    let below = c.requires.bounds.bad (get_or named c.loop-slot.slot-index 0) (Contains-get_or named c.loop-slot.slot-index 0 c.loop-slot-test.true) in
    omega arith

pub loop-slot-preserved : goal.loop-slot-preserved
loop-slot-preserved c =
    let frames = c.args.self.frames in
    let named = take c.args.area.now.count c.args.area.now.bad in
    let i = c.loop-slot.slot-index in
    record {
      set = c.set-in-loop-slot.ensures.entry ∙ ap (λ f. with_entry f 0 (get_or named i 0) 131072) c.loop-slot.invariant.set
          ∙ sym (with_entries-more frames 0 (0 ∷ take i named) (get_or named i 0) 131072)
          ∙ ap (λ ks. with_entries frames 0 (0 ∷ ks) 131072) (sym (take_more named i 0 c.loop-slot-test.true));
      size = c.set-in-loop-slot.ensures.len ∙ c.loop-slot.invariant.size;
    }

pub returns : goal.returns
returns c =
    let area = c.args.area.now in
    let named = take area.count area.bad in
    record {
      table = refl;
      usable = usable_slots area c.loop-slot.frames (record {
        frames_are = c.loop-slot.invariant.set
            ∙ ap (λ ks. with_entries c.args.self.frames 0 (0 ∷ ks) 131072) (take_all c.loop-slot.slot-index named (omega arith))
            ∙ ap (λ f. with_entries f 0 (0 ∷ named) 131072) c.requires.unused.frames;
        bounds = c.requires.bounds;
        room = c.requires.room;
      });
    }
