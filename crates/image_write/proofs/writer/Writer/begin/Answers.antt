use Rattle.std.proofs.Common.{◌≡◌, ℕ, List, get_or, sym, ap, ◌∙◌, subst, arith, rules}
use Rattle.definitions.specs.Tables.{with_entries}
use Rattle.definitions.proofs.FreeSlots.{IsStrictlyIncreasing-free_slots}
use Rattle.swap_slots.specs.Table.{free_in}
use Rattle.image_write.specs.Writing.{HasTaken, data_written}
use Rattle.image_write.specs.Copies.{IsPassed}
use Rattle.image_write.proofs.Taking.{IsTable}
use Rattle.image_write.proofs.Paging.{first_slot, one_slot}
use Rattle.image_write.proofs.Mapping.{few_free, first_taken}
use Rattle.image_write.proofs.writer.Writer.begin.Goals as goal

pub returns-clause-begun : goal.returns-clause-begun
returns-clause-begun c =
    let frames = c.args.frames.now in
    let table = c.args.table.now in
    let free = free_in frames table in
    let room = c.requires.room in
    let at : IsTable frames table = record { pages = c.take_block-block.ensures.pages; lies = c.requires.slots.lies } in
    let few = few_free frames table in
    let slots = first_taken frames table at (omega arith) in
    record {
      info_is = search rules;
      extents_are = search rules;
      table_is = search rules;
      written = search rules;
      writing = record {
        ascending = IsStrictlyIncreasing-free_slots table.slots table.first frames;
        few = let count = c.free_count.ensures in let fits = c.free_count.type_inv in omega arith;
        room = room;
        blocks = c.requires.blocks;
        unfinished = omega arith;
        slots = subst (λ memory. HasTaken free 1 memory table) (sym c.take_block-block.ensures.taken) slots;
        first = c.take_block-block.ensures.block;
        block = c.take_block-block.ensures.block;
        entries = c.begin.ensures.entries;
        link = c.begin.ensures.link;
        next = λ e. absurd (omega arith);
      };
    }

pub returns-clause-reading : goal.returns-clause-reading
returns-clause-reading c origs copies zeros =
    let none : 0 ≡ data_written c.args.info.now 0 = omega arith in
    subst (λ (found : ℕ). IsPassed origs copies zeros c.begin-2.result.orig c.begin-2.result.copy c.begin-2.result.passed found) none (c.begin-2.ensures origs copies zeros)

pub returns-clause-taken : goal.returns-clause-taken
returns-clause-taken c =
    let frames = c.args.frames.now in
    let table = c.args.table.now in
    let free = free_in frames table in
    let room = c.requires.room in
    c.take_block-block.ensures.taken
    ∙ sym (one_slot frames table.first (get_or free 0 0) 65536)
    ∙ ap (λ (ss : List ℕ). with_entries frames table.first ss 65536) (sym (first_slot free 0 (omega arith)))
