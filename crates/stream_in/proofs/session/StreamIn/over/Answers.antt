use Rattle.std.proofs.Common.{ℕ, ◌+◌, ◌≡◌, List, length, sym, ap, subst, refl, arith}
use Rattle.definitions.specs.Tables.{free_slots}
use Rattle.swap_slots.specs.Table.{free_in}
use Rattle.image_write.specs.Writing.{BlocksBelow}
use Rattle.stream_in.specs.Area.{AreUsable}
use Rattle.stream_in.specs.Slots.{free_of}
use Rattle.stream_in.proofs.Opened.{few_slots, slots_below, of_map}
use Rattle.stream_in.proofs.session.StreamIn.over.Goals as goal

pub returns : goal.returns
returns c =
    let area = c.args.area.now in
    let frames = c.args.memory.frames in
    let n = area.last + 1 in
    let last = c.requires.last in
    let free = free_slots n 0 frames in
    let few = few_slots n frames in
    let is_free : free_of c.args.memory ≡ free = ap (λ t. free_in frames t) c.requires.memory.table in
    let P : List (ℕ × ℕ × ℕ) → Type 0 = λ x. BlocksBelow x free (length free) c.args.blocks in
    record {
      fed = (
        free,
        subst (AreUsable area) is_free c.requires.memory.usable,
        of_map n frames c.whole_map.result c.whole_map.ensures.map c.whole_map.ensures.file_map,
        record {
          taken = c.begin.ensures;
          going = refl;
          page_is = λ i lt. absurd (omega arith);
          few = omega arith;
          count = omega arith;
          on_disk = subst P (sym c.whole_map.ensures.map) (slots_below n c.args.blocks frames (omega arith));
          output = record { early = omega arith; is_free = is_free };
        },
      );
      map_is = c.whole_map.ensures.map;
      blocks_are = refl;
    }
