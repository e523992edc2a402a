use Rattle.std.proofs.Common.{◌≡◌, ℕ, ◌<◌, ◌+◌, ◌∷◌, ◌++◌, [], List, length, get_or, false, refl, sym, ap, ◌∙◌, subst, arith}
use Rattle.definitions.specs.Slots.{block_of}
use Rattle.definitions.specs.Tables.{with_entry}
use Rattle.plain_machine.specs.Image.{is_map_write}
use Rattle.swap_slots.specs.Table.{LiesIn, free_in}
use Rattle.image_write.specs.Kept.{writing}
use Rattle.image_write.specs.Steps.{TakesSlots}
use Rattle.image_write.specs.Writing.{Writing, IsWriting, taken_after}
use Rattle.image_write.proofs.Places.{page_write}
use Rattle.image_write.proofs.Taking.{IsTable}
use Rattle.image_write.proofs.Paging.{length-entries, with_room, with_map, is_full, frames_with_room, frames_with_map}
use Rattle.image_write.proofs.writer.Writer.take_page.Goals as goal

pub push-requires : goal.push-requires
push-requires c =
    let w = writing c.self.inside in
    let frames = c.args.frames.now in
    let is = c.self.view_is in
    let back = λ (free : List ℕ) (h : IsWriting free frames c.args.self.now). subst (λ (v : Writing). IsWriting free frames v) (sym is) h in
    let is_page : is_map_write w.info.pages w.written ≡ false = subst (λ (v : Writing). is_map_write v.info.pages v.written ≡ false) (sym is) c.requires.page in
    let here = back c.requires.writing.0 c.requires.writing.1 in
    let page = page_write w.info.pages w.written here.unfinished is_page in
    let at : IsTable frames w.table = record { pages = c.take_block-block.ensures.pages; lies = subst (λ (v : Writing). LiesIn frames v.table) (sym is) c.requires.slots.lies } in
    let below = page.below in
    let size = length-entries c.requires.writing.0 frames w here in
    omega arith

pub returns-in-Room-clause-writing : goal.returns-in-Room-clause-writing
returns-in-Room-clause-writing c =
    let w = writing c.self.inside in
    let frames = c.args.frames.now in
    let is = c.self.view_is in
    let back = λ (free : List ℕ) (h : IsWriting free frames c.args.self.now). subst (λ (v : Writing). IsWriting free frames v) (sym is) h in
    let is_page : is_map_write w.info.pages w.written ≡ false = subst (λ (v : Writing). is_map_write v.info.pages v.written ≡ false) (sym is) c.requires.page in
    let here = back c.requires.writing.0 c.requires.writing.1 in
    let page = page_write w.info.pages w.written here.unfinished is_page in
    let at : IsTable frames w.table = record { pages = c.take_block-block.ensures.pages; lies = subst (λ (v : Writing). LiesIn frames v.table) (sym is) c.requires.slots.lies } in
    let m = c.push.new.self in
    let entries : m.entries ≡ w.entries.entries ++ c.take_block-block.result ∷ [] = c.push.ensures.entries ∙ ap (λ (b : ℕ). w.entries.entries ++ b ∷ []) c.from.ensures in
    let fits = c.in-Room.ensures.room.0 refl in
    λ free h. subst (λ (after : List (List ℕ)). IsWriting free after (record w { written = w.written + 1; entries = m })) (sym c.take_block-block.ensures.taken)
    (with_room free frames w m c.take_block-block.result (back free h) page at c.take_block-block.ensures.block entries c.push.ensures.link fits)

pub returns-in-Room-clause-slots : goal.returns-in-Room-clause-slots
returns-in-Room-clause-slots c =
    let w = writing c.self.inside in
    let frames = c.args.frames.now in
    let is = c.self.view_is in
    let back = λ (free : List ℕ) (h : IsWriting free frames c.args.self.now). subst (λ (v : Writing). IsWriting free frames v) (sym is) h in
    let is_page : is_map_write w.info.pages w.written ≡ false = subst (λ (v : Writing). is_map_write v.info.pages v.written ≡ false) (sym is) c.requires.page in
    let here = back c.requires.writing.0 c.requires.writing.1 in
    let page = page_write w.info.pages w.written here.unfinished is_page in
    let at : IsTable frames w.table = record { pages = c.take_block-block.ensures.pages; lies = subst (λ (v : Writing). LiesIn frames v.table) (sym is) c.requires.slots.lies } in
    let m = c.push.new.self in
    let entries : m.entries ≡ w.entries.entries ++ c.take_block-block.result ∷ [] = c.push.ensures.entries ∙ ap (λ (b : ℕ). w.entries.entries ++ b ∷ []) c.from.ensures in
    let fits = c.in-Room.ensures.room.0 refl in
    subst (λ (v : Writing). TakesSlots v frames c.take_block-block.new.frames c.args.runs.now c.take_block-block.new.runs) is record {
      taken = λ free h. c.take_block-block.ensures.taken ∙ frames_with_room free frames w m c.take_block-block.result h is_page entries fits;
      kept = c.take_block-block.ensures.kept;
    }

pub take_block-self-inside-requires-clause-some : goal.take_block-self-inside-requires-clause-some
take_block-self-inside-requires-clause-some c =
    let w = writing c.self.inside in
    let frames = c.args.frames.now in
    let is = c.self.view_is in
    let back = λ (free : List ℕ) (h : IsWriting free frames c.args.self.now). subst (λ (v : Writing). IsWriting free frames v) (sym is) h in
    let is_page : is_map_write w.info.pages w.written ≡ false = subst (λ (v : Writing). is_map_write v.info.pages v.written ≡ false) (sym is) c.requires.page in
    let here = back c.requires.writing.0 c.requires.writing.1 in
    let page = page_write w.info.pages w.written here.unfinished is_page in
    let at : IsTable frames w.table = record { pages = c.take_block-block.ensures.pages; lies = subst (λ (v : Writing). LiesIn frames v.table) (sym is) c.requires.slots.lies } in
    let m = c.push.new.self in
    let entries : m.entries ≡ w.entries.entries ++ c.take_block-block.result ∷ [] = c.push.ensures.entries ∙ ap (λ (b : ℕ). w.entries.entries ++ b ∷ []) c.from.ensures in
    let full : length m.entries < 511 → ⊥ = λ lt. c.in_default.not-Room (c.push.ensures.room.1 lt) in
    let f = is_full c.requires.writing.0 frames w m c.take_block-block.result here page at entries full in
    subst (λ (after : List (List ℕ)). 0 < length (free_in after w.table)) (sym c.take_block-block.ensures.taken) f.some

pub take_block-self-inside-requires-clause-fits : goal.take_block-self-inside-requires-clause-fits
take_block-self-inside-requires-clause-fits c =
    let w = writing c.self.inside in
    let frames = c.args.frames.now in
    let is = c.self.view_is in
    let back = λ (free : List ℕ) (h : IsWriting free frames c.args.self.now). subst (λ (v : Writing). IsWriting free frames v) (sym is) h in
    let is_page : is_map_write w.info.pages w.written ≡ false = subst (λ (v : Writing). is_map_write v.info.pages v.written ≡ false) (sym is) c.requires.page in
    let here = back c.requires.writing.0 c.requires.writing.1 in
    let page = page_write w.info.pages w.written here.unfinished is_page in
    let at : IsTable frames w.table = record { pages = c.take_block-block.ensures.pages; lies = subst (λ (v : Writing). LiesIn frames v.table) (sym is) c.requires.slots.lies } in
    let m = c.push.new.self in
    let entries : m.entries ≡ w.entries.entries ++ c.take_block-block.result ∷ [] = c.push.ensures.entries ∙ ap (λ (b : ℕ). w.entries.entries ++ b ∷ []) c.from.ensures in
    let full : length m.entries < 511 → ⊥ = λ lt. c.in_default.not-Room (c.push.ensures.room.1 lt) in
    let free = c.requires.writing.0 in
    let f = is_full free frames w m c.take_block-block.result here page at entries full in
    subst (λ (after : List (List ℕ)). block_of w.extents (get_or (free_in after w.table) 0 0) < 4294967296) (sym c.take_block-block.ensures.taken)
    (subst (λ (s : ℕ). block_of w.extents s < 4294967296) (sym f.slot) (here.blocks (taken_after w.written + 1) f.within))

pub returns-clause-writing : goal.returns-clause-writing
returns-clause-writing c =
    let w = writing c.self.inside in
    let frames = c.args.frames.now in
    let is = c.self.view_is in
    let back = λ (free : List ℕ) (h : IsWriting free frames c.args.self.now). subst (λ (v : Writing). IsWriting free frames v) (sym is) h in
    let is_page : is_map_write w.info.pages w.written ≡ false = subst (λ (v : Writing). is_map_write v.info.pages v.written ≡ false) (sym is) c.requires.page in
    let here = back c.requires.writing.0 c.requires.writing.1 in
    let page = page_write w.info.pages w.written here.unfinished is_page in
    let at : IsTable frames w.table = record { pages = c.take_block-block.ensures.pages; lies = subst (λ (v : Writing). LiesIn frames v.table) (sym is) c.requires.slots.lies } in
    let m = c.push.new.self in
    let entries : m.entries ≡ w.entries.entries ++ c.take_block-block.result ∷ [] = c.push.ensures.entries ∙ ap (λ (b : ℕ). w.entries.entries ++ b ∷ []) c.from.ensures in
    let full : length m.entries < 511 → ⊥ = λ lt. c.in_default.not-Room (c.push.ensures.room.1 lt) in
    let one = c.take_block-block.ensures.taken in
    let two = c.take_block-self-inside.ensures.taken ∙ ap (λ (memory : List (List ℕ)). with_entry memory w.table.first (get_or (free_in memory w.table) 0 0) 65536) one in
    let next = c.take_block-self-inside.ensures.block ∙ ap (λ (memory : List (List ℕ)). block_of w.extents (get_or (free_in memory w.table) 0 0)) one in
    λ free h. subst (λ (after : List (List ℕ)). IsWriting free after (record w { written = w.written + 1; entries = c.link.new.self; next = c.take_block-self-inside.result })) (sym two)
    (with_map free frames w m c.link.new.self c.take_block-block.result c.take_block-self-inside.result (back free h) page at c.take_block-block.ensures.block entries full next
    c.link.ensures.entries (c.link.ensures.link ∙ c.from-2.ensures))

pub returns-clause-slots : goal.returns-clause-slots
returns-clause-slots c =
    let w = writing c.self.inside in
    let frames = c.args.frames.now in
    let is = c.self.view_is in
    let back = λ (free : List ℕ) (h : IsWriting free frames c.args.self.now). subst (λ (v : Writing). IsWriting free frames v) (sym is) h in
    let is_page : is_map_write w.info.pages w.written ≡ false = subst (λ (v : Writing). is_map_write v.info.pages v.written ≡ false) (sym is) c.requires.page in
    let here = back c.requires.writing.0 c.requires.writing.1 in
    let page = page_write w.info.pages w.written here.unfinished is_page in
    let at : IsTable frames w.table = record { pages = c.take_block-block.ensures.pages; lies = subst (λ (v : Writing). LiesIn frames v.table) (sym is) c.requires.slots.lies } in
    let m = c.push.new.self in
    let entries : m.entries ≡ w.entries.entries ++ c.take_block-block.result ∷ [] = c.push.ensures.entries ∙ ap (λ (b : ℕ). w.entries.entries ++ b ∷ []) c.from.ensures in
    let full : length m.entries < 511 → ⊥ = λ lt. c.in_default.not-Room (c.push.ensures.room.1 lt) in
    let one = c.take_block-block.ensures.taken in
    let two = c.take_block-self-inside.ensures.taken ∙ ap (λ (memory : List (List ℕ)). with_entry memory w.table.first (get_or (free_in memory w.table) 0 0) 65536) one in
    let first = c.take_block-block.ensures.kept in
    let last = c.take_block-self-inside.ensures.kept in
    subst (λ (v : Writing). TakesSlots v frames c.take_block-self-inside.new.frames c.args.runs.now c.take_block-self-inside.new.runs) is record {
      taken = λ free h. two ∙ frames_with_map free frames w h is_page (is_full free frames w m c.take_block-block.result h page at entries full);
      kept = record { len = last.len ∙ first.len; runs = last.runs; room = last.room ∙ first.room };
    }
