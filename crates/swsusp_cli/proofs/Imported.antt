-- What an import leaves on the disk, and what it says, at each of its ends.
use Rattle.std.proofs.Common.{◌≡◌, ◌↔◌, ◌≤◌, ◌<◌, zero, suc, ℕ, ◌+◌, ◌*◌, ◌/◌, Bool, true, false, cond, eqb, leb, List, [], ◌∷◌, length, get_or, Option, Some, None, Result, Ok, Err, IfSome, refl, sym, ap, ◌∙◌, subst, inl, inr, arith}
use Rattle.std.proofs.lemmas.Bool.{and_parts, leb-true, cond-true}
use Rattle.std.proofs.lemmas.Bool.Decides.{eqb_tells}
use Rattle.std.proofs.lemmas.List.Elements.{Contains-get_or}
use Rattle.definitions.specs.Disk.{Sector, Content, Changes, HasRisen, as_it_reads, block, sector, settled}
use Rattle.definitions.specs.Streams.{IsUsedUp}
use Rattle.definitions.specs.SwapHeader.{marked}
use Rattle.definitions.proofs.DiskLaws.{as_it_reads-settled, block-same, length-as_it_reads, length-settled}
use Rattle.image_format.specs.AreaKind.{area_kind}
use Rattle.image_format.specs.declared.signature.area.Area.{Area}
use Rattle.image_format.specs.declared.signature.area.AreaKind.TheVariants as kind
use Rattle.plain_machine.specs.Image.{maps_of}
use Rattle.plain_machine.specs.Image.{laid_block, laid_write, page_of_write}
use Rattle.plain_machine.specs.UsableArea.{kind_fault}
use Rattle.plain_machine.specs.declared.no_swap.NoSwap.{NoSwap}
use Rattle.image_write.proofs.Done.{place_of, place_below, block_of_write}
use Rattle.stream_in.specs.Grammar.{image_pages, all_pages, first_fault, short_fault, is_whole}
use Rattle.stream_in.specs.declared.checking.fault.StreamFault.{StreamFault}
use Rattle.stream_in.proofs.Steps.{sound_from}
use Rattle.stream_in.specs.Area.{AreUsable, first_block, open_fault}
use Rattle.stream_in.specs.Holding.{ComesIn}
use Rattle.stream_in.specs.Marking.{LeavesAt}
use Rattle.stream_in.specs.Marked.{Marks}
use Rattle.stream_in.specs.Outside.{IsBlockOf, KeepsOutside, StopsAtRest}
use Rattle.stream_in.proofs.Rests.{stops_still}
use Rattle.stream_in.specs.Session.{IsOpened}
use Rattle.stream_in.specs.Stops.{IsDiskStop, IsOfOpen, IsOfFinish, IfNoSwap}
use Rattle.stream_in.specs.Holding.{page_at, writes_after}
use Rattle.stream_in.specs.declared.session.StreamIn.{StreamIn}
use Rattle.stream_in.specs.declared.stop.InStop.{InStop}
use Rattle.stream_in.specs.declared.stop.InStop.TheVariants as stop
use Rattle.stream_in.proofs.ComingIn.{has_room}
use Rattle.stream_in.proofs.Contents.{changes_then, changes_as}
use Rattle.stream_in.proofs.Undoing.{first_block-some}
use Rattle.swsusp_cli.specs.Imports.{IsCalledAtMost}
use Rattle.swsusp_cli.specs.Feeding.{Feeds, HoldsFed, HasFed, HasStopped, IsStopFor}
use Rattle.swsusp_cli.specs.Imports.{Ends, HasWritten, IsArea, AreRead, IsUnmarked, IsUsable, KeepsUnusable, LeavesUnusable, MarksNot, OfSome, Stores, whole_map}
use Rattle.command_kit.specs.View.{DiskView}
use Rattle.swsusp_cli.specs.declared.importing.ImportStop.{ImportStop}
use Rattle.swsusp_cli.specs.declared.importing.ImportStop.TheVariants.{Source, Session}
use Rattle.swsusp_cli.proofs.Feeding.{bounded, risen_from}

-- Blocks that an image isn't written to.

block_usable : (area : Area) (free : List ℕ) (b : ℕ) → AreUsable area free → IsBlockOf (whole_map area) free b → IsUsable area b
block_usable area free b slots (place, lt, e) =
    let is : b ≡ get_or free place 0 = omega (arith, e) in
    subst (IsUsable area) (sym is) (slots.each (get_or free place 0) (Contains-get_or free place 0 lt))

header_unusable : (area : Area) → IsUsable area 0 → ⊥
header_unusable area usable = usable.1 (0, omega arith, refl)

keeps_unusable : (area : Area) (free : List ℕ) (old new : Content) → AreUsable area free → KeepsOutside (whole_map area) free old new → KeepsUnusable area old new
keeps_unusable area free old new slots keeps = record { size = keeps.size; sectors = λ b j lt not. keeps.others b j lt (λ of. not (block_usable area free b slots of)) }

leaves_unusable : (area : Area) (free : List ℕ) (old new : Content) → AreUsable area free → StopsAtRest (whole_map area) free 0 old new → LeavesUnusable area old new
leaves_unusable area free old new slots (inl same) = inl same
leaves_unusable area free old new slots (inr keeps) = inr (keeps_unusable area free (settled (as_it_reads old)) new slots (keeps.first (omega arith)))

live_at : (c : Content) (s : ℕ) → get_or (as_it_reads c) s [] ≡ (sector c s).live
live_at [] s = refl
live_at (x ∷ c) zero = refl
live_at (x ∷ c) (suc s) = live_at c s

sectors_kept : (area : Area) (b : ℕ) (old new : Content) → KeepsUnusable area old new → (IsUsable area b → ⊥) → block (as_it_reads new) b ≡ block (as_it_reads old) b
sectors_kept area b old new keeps not =
    block-same (as_it_reads new) (as_it_reads old) b (length-as_it_reads new ∙ keeps.size ∙ sym (length-as_it_reads old))
    (λ j lt. live_at new (8 * b + j) ∙ ap (λ (s : Sector). s.live) (keeps.sectors b j lt not) ∙ sym (live_at old (8 * b + j)))

block_kept : (area : Area) (b : ℕ) (old new : Content) → LeavesUnusable area old new → (IsUsable area b → ⊥) → block (as_it_reads new) b ≡ block (as_it_reads old) b
block_kept area b old new (inl same) not = ap (λ (c : Content). block (as_it_reads c) b) same
block_kept area b old new (inr keeps) not = sectors_kept area b (settled (as_it_reads old)) new keeps not ∙ ap (λ v. block v b) (as_it_reads-settled (as_it_reads old))

size_kept : (area : Area) (old new : Content) → LeavesUnusable area old new → length new ≡ length old
size_kept area old new (inl same) = ap length same
size_kept area old new (inr keeps) = keeps.size ∙ length-settled (as_it_reads old) ∙ length-as_it_reads old

-- what the writes of these bytes leave
holds_unusable : (area : Area) (free bs : List ℕ) (old new : Content) → AreUsable area free → HoldsFed (whole_map area) free bs old new → LeavesUnusable area old new
holds_unusable area free bs old new slots holds = leaves_unusable area free old new slots (stops_still (whole_map area) free 0 (length bs) old new holds.outside)

pub has_written : (area : Area) (free bs : List ℕ) (old new : Content) → AreUsable area free → HoldsFed (whole_map area) free bs old new → HasWritten area free bs old new
has_written area free bs old new slots holds = record { leaves = holds_unusable area free bs old new slots holds; written = holds.written }

-- A whole stream.

pub record IsWhole (bs : List ℕ) : Type 0 where
  pub info : 4096 ≤ length bs
  pub size : length bs ≡ 4096 * all_pages bs
  pub few : all_pages bs ≤ 65665

some_whole : (b : Bool) (f : StreamFault) → cond b None (Some f) ≡ None → b ≡ true
some_whole true f h = refl
some_whole false f h = cc

pub whole_from : (bs : List ℕ) → first_fault bs ≡ None → short_fault bs ≡ None → IsWhole bs
whole_from bs sound whole =
    let parts = and_parts (leb 4096 (length bs)) (leb (4096 * all_pages bs) (length bs)) (some_whole (is_whole bs) _ whole) in
    let info : 4096 ≤ length bs = leb-true 4096 (length bs) parts.0 in
    let enough : 4096 * all_pages bs ≤ length bs = leb-true (4096 * all_pages bs) (length bs) parts.1 in
    let is = sound_from bs info sound in
    let within = is.within in
    let few = is.are.few in
    let all = is.are.all in
    record { info = info; size = omega arith; few = omega arith }

-- The mark, after all that was written.

same_number : (n : ℕ) → eqb n n ≡ true
same_number n = elim (eqb_tells n n) [
  | inl same ↦ same.0
  | inr other ↦ absurd (other.1 refl)
]

-- the area's header block, on a disk that has one
abbrev IsHeaderOf : Area → ℕ → Content → Type 0
IsHeaderOf area blocks held = area_kind (first_block blocks (as_it_reads held)) ≡ kind.Swap area

stores : (area : Area) (free bs : List ℕ) (blocks : ℕ) (x y z : Content) → 0 < blocks → AreUsable area free → IsWhole bs → all_pages bs + 1026 ≤ length free → HoldsFed (whole_map area) free bs x y × IsHeaderOf area blocks x →
    Marks (laid_block (whole_map area) free 0) y z × ComesIn area free bs y z → Stores area free bs x z
stores area free bs blocks x y z some slots whole room (holds, header) (marks, comes) =
    let pages = all_pages bs in
    let leaves = holds_unusable area free bs x y slots holds in
    let has = marks.marked in
    let few = whole.few in
    let size = whole.size in
    let full : length bs / 4096 ≡ pages = omega arith in
    let all : writes_after pages (length bs / 4096) ≡ pages + maps_of pages =
    ap (writes_after pages) full ∙ cond-true (eqb pages pages) (pages + maps_of pages) (pages + pages / 511) (same_number pages) in
    record {
      size = has.size ∙ size_kept area x y leaves;
      one_image = has.one_image;
      header = has.header ∙ ap (λ p. marked p (laid_block (whole_map area) free 0) 2 0) (block_kept area 0 x y leaves (header_unusable area));
      laid = λ j lt.
          let page = page_at bs (page_of_write j) in
          let at = (laid_write (whole_map area) free pages page j).0 in
          let place = place_of pages j in
          let within : place < length free = let below = place_below pages j lt in omega arith in
          let is : at ≡ laid_block (whole_map area) free place = block_of_write (whole_map area) free pages j page in
          let usable = block_usable area free at slots (place, within, is) in
          let above : 0 < at = no_header area at usable in
          has.others at above ∙ holds.written whole.info j (subst (λ (n : ℕ). j < n) (sym all) lt);
      comes_in = comes (record {
        header = ap area_kind (block_kept area 0 x y leaves (header_unusable area) ∙ sym (first_block-some blocks (as_it_reads x) some)) ∙ header;
        written = holds.written;
      });
      others = λ b above not. has.others b above ∙ block_kept area b x y leaves not;
    } where
      no_header : (area : Area) (b : ℕ) → IsUsable area b → 0 < b
      no_header area zero usable = absurd (header_unusable area usable)
      no_header area (suc b) usable = omega arith

-- two changes are one with both properties; so are a change and a fact of the content before
changes_both : (P Q : Content → Content → Type 0) (a b : Option Content) → Changes P a b → Changes Q a b → Changes (λ x y. P x y × Q x y) a b
changes_both P Q None None p q = tt
changes_both P Q None (Some y) p q = absurd p
changes_both P Q (Some x) None p q = absurd p
changes_both P Q (Some x) (Some y) p q = (p, q)

changes_of : (P : Content → Content → Type 0) (K : Content → Type 0) (a b : Option Content) → Changes P a b → IfSome a K → Changes (λ x y. P x y × K x) a b
changes_of P K None None p k = tt
changes_of P K None (Some y) p k = absurd p
changes_of P K (Some x) None p k = absurd p
changes_of P K (Some x) (Some y) p k = (p, k)

-- How often the disk is called.

called_then : (k m n : ℕ) (d e f : DiskView) → IsCalledAtMost k d e → IsCalledAtMost m e f → k + m ≤ n → IsCalledAtMost n d f
called_then k m n d e f h i le =
    let a = h.calls in
    let b = i.calls in
    let p = h.faults in
    let q = i.faults in
    record { calls = omega arith; faults = omega arith; orders = i.orders ∙ h.orders; blocks = i.blocks ∙ h.blocks }

-- A session over an area.

pub record HasOpened (area : Area) (free : List ℕ) (s : StreamIn) (d e : DiskView) : Type 0 where
  pub area_is : IsArea d area free
  pub map_is : s.map ≡ whole_map area
  pub blocks_are : s.blocks ≡ d.blocks
  pub content : e.content ≡ d.content
  pub called : IsCalledAtMost 1 d e

room_of : (area : Area) (blocks : ℕ) (o : Option Content) → IfSome o (λ held. area_kind (first_block blocks (as_it_reads held)) ≡ kind.Swap area) → IfSome o (λ held. open_fault blocks (area_kind (first_block blocks (as_it_reads held))) ≡ None) →
    IfSome o (λ held. open_fault blocks (kind.Swap area) ≡ None)
room_of area blocks None is usable = tt
room_of area blocks (Some held) is usable = ap (open_fault blocks) (sym is) ∙ usable

pub has_opened : (area : Area) (s : StreamIn) (d e : DiskView) → (is : IsOpened area d.blocks s) → IfSome d.content (λ held. area_kind (first_block d.blocks (as_it_reads held)) ≡ kind.Swap area) →
    IfSome d.content (λ held. open_fault d.blocks (area_kind (first_block d.blocks (as_it_reads held))) ≡ None) → e.content ≡ d.content → IsCalledAtMost 1 d e → HasOpened area is.fed.0 s d e
has_opened area s d e is kind_is usable content called = record {
  area_is = record { kind_is = kind_is; room = room_of area d.blocks d.content kind_is usable; slots = is.fed.1 };
  map_is = is.map_is;
  blocks_are = is.blocks_are;
  content = content;
  called = called;
}

holds_of : (area : Area) (free bs : List ℕ) (s : StreamIn) (a b c : Option Content) → s.map ≡ whole_map area → b ≡ a → Changes (HoldsFed s.map free bs) b c → Changes (HoldsFed (whole_map area) free bs) a c
holds_of area free bs s a b c map_is same h =
    subst (λ (m : List (ℕ × ℕ × ℕ)). Changes (HoldsFed m free bs) a c) map_is (subst (λ (o : Option Content). Changes (HoldsFed s.map free bs) o c) same h)

keeps_of : (area : Area) (free : List ℕ) (s : StreamIn) (a b c : Option Content) → s.map ≡ whole_map area → b ≡ a → Changes (StopsAtRest s.map free 0) b c → Changes (StopsAtRest (whole_map area) free 0) a c
keeps_of area free s a b c map_is same h =
    subst (λ (m : List (ℕ × ℕ × ℕ)). Changes (StopsAtRest m free 0) a c) map_is (subst (λ (o : Option Content). Changes (StopsAtRest s.map free 0) o c) same h)

-- the bytes that a session has taken
fed_read : (free bs : List ℕ) (s s' : StreamIn) (left left' : Option (List ℕ)) (e f : DiskView) → HasFed free bs s s' left left' e f → AreRead bs left left'
fed_read free bs s s' left left' e f fed = record { handed = fed.handed; few = let few = bounded bs fed.fed.taken.read.sound in omega arith }

-- the source failed
pub ends_cut_off : (area : Area) (free bs : List ℕ) (s s' : StreamIn) (left left' : Option (List ℕ)) (d e f : DiskView) → HasOpened area free s d e → HasFed free bs s s' left left' e f → Ends left left' d f (Err Source)
ends_cut_off area free bs s s' left left' d e f opened fed = (
  area,
  free,
  bs,
  record {
    area_is = opened.area_is;
    bytes = fed_read free bs s s' left left' e f fed;
    sound = fed.fed.taken.read.sound;
    content = changes_as (HoldsFed (whole_map area) free bs) (HasWritten area free bs) d.content f.content (λ x y. has_written area free bs x y opened.area_is.slots)
        (holds_of area free bs s d.content e.content f.content opened.map_is opened.content fed.content);
    called = called_then 1 (3 * (length bs / 4096)) (1 + 3 * (length bs / 4096)) d e f opened.called fed.called (omega arith);
  },
)

-- the session stopped
pub ends_stopped : (area : Area) (free bs : List ℕ) (why : InStop) (s : StreamIn) (left left' : Option (List ℕ)) (d e f : DiskView) → HasOpened area free s d e → HasStopped free bs why s left left' e f → Ends left left' d f (Err (Session why))
ends_stopped area free bs why s left left' d e f opened stopped = by_why why stopped.why_is stopped.risen where
  bytes : AreRead bs left left'
  bytes = record { handed = stopped.handed; few = stopped.few }

  content : Changes (LeavesUnusable area) d.content f.content
  content = changes_as (StopsAtRest (whole_map area) free 0) (LeavesUnusable area) d.content f.content (λ x y. leaves_unusable area free x y opened.area_is.slots)
      (keeps_of area free s d.content e.content f.content opened.map_is opened.content stopped.content)

  called : IsCalledAtMost (1 + 3 * (length bs / 4096)) d f
  called = called_then 1 (3 * (length bs / 4096)) (1 + 3 * (length bs / 4096)) d e f opened.called stopped.called (omega arith)

  by_why : (why : InStop) → IsStopFor free bs why → (IsDiskStop why → HasRisen e.faults f.faults) → Ends left left' d f (Err (Session why))
  by_why stop.NoMemory is risen = absurd is
  by_why (stop.NoSwap why) is risen = absurd is
  by_why (stop.NoSlots told need) is risen = (area, free, bs, record { area_is = opened.area_is; bytes = bytes; too_few = is; content = content; called = called })
  by_why (stop.Stream fault) is risen = (area, free, bs, record { area_is = opened.area_is; bytes = bytes; says = inl is.0; suffice = is.1; content = content; called = called })
  by_why (stop.ReadFault what) is risen = absurd is
  by_why (stop.WriteFault what) is risen =
      inl (is, (area, free, bs, record { area_is = opened.area_is; bytes = bytes; content = content; called = called; risen = risen_from d.faults e.faults f.faults opened.called.faults (risen tt) }))
  by_why (stop.SyncFault what) is risen =
      inl (is, (area, free, bs, record { area_is = opened.area_is; bytes = bytes; content = content; called = called; risen = risen_from d.faults e.faults f.faults opened.called.faults (risen tt) }))

-- one of the two happened
pub ends_unfed : (area : Area) (free : List ℕ) (stop : ImportStop) (s s' : StreamIn) (left left' : Option (List ℕ)) (d e f : DiskView) → HasOpened area free s d e → Feeds free s s' left left' e f (Err stop) → Ends left left' d f (Err stop)
ends_unfed area free Source s s' left left' d e f opened (bs, fed) = ends_cut_off area free bs s s' left left' d e f opened fed
ends_unfed area free (Session why) s s' left left' d e f opened (bs, stopped) = ends_stopped area free bs why s left left' d e f opened stopped

-- The end of the input: the session is finished.

not_short : (bs : List ℕ) (r : Result ℕ InStop) (n : ℕ) (o : Option StreamFault) → r ≡ Ok n → ((fault : StreamFault) → (r ≡ Err (stop.Stream fault)) ↔ (short_fault bs ≡ Some fault)) → short_fault bs ≡ o → o ≡ None
not_short bs r n None is short e = refl
not_short bs r n (Some fault) is short e = let not = (short fault).1 e in cc

pub ends_imported : (area : Area) (free bs : List ℕ) (s s' : StreamIn) (r : Result ℕ InStop) (n : ℕ) (left left' : Option (List ℕ)) (d e f g : DiskView) → HasOpened area free s d e → HasFed free bs s s' left left' e f → IsUsedUp left' →
    r ≡ Ok n → n ≡ image_pages bs → ((fault : StreamFault) → (r ≡ Err (stop.Stream fault)) ↔ (short_fault bs ≡ Some fault)) → Changes (Marks (laid_block s'.map free 0)) f.content g.content → Changes (ComesIn area free bs) f.content g.content → IsCalledAtMost 6 f g →
    Ends left left' d g (Ok n)
ends_imported area free bs s s' r n left left' d e f g opened fed over is pages short marks comes called =
    let sound = fed.fed.taken.read.sound in
    let none : short_fault bs ≡ None = not_short bs r n (short_fault bs) is short refl in
    let whole = whole_from bs sound none in
    let room = has_room free bs s'.memory s'.map s'.writer fed.fed.output whole.info in
    let map_is : s'.map ≡ whole_map area = fed.map ∙ opened.map_is in
    let below = fed.fed.on_disk 0 (omega arith) in
    let same : s'.blocks ≡ d.blocks = fed.blocks ∙ opened.blocks_are in
    let some : 0 < d.blocks = omega arith in
    let holds = holds_of area free bs s d.content e.content f.content opened.map_is opened.content fed.content in
    let marks_of = subst (λ (m : List (ℕ × ℕ × ℕ)). Changes (Marks (laid_block m free 0)) f.content g.content) map_is marks in (
      area,
      free,
      bs,
      record {
        area_is = opened.area_is;
        bytes = fed_read free bs s s' left left' e f fed;
        over = over;
        stream = (sound, none);
        pages = pages;
        enough = room;
        content = changes_then (λ x y. HoldsFed (whole_map area) free bs x y × IsHeaderOf area d.blocks x) (λ y z. Marks (laid_block (whole_map area) free 0) y z × ComesIn area free bs y z) (Stores area free bs) d.content f.content g.content
            (λ x y z. stores area free bs d.blocks x y z some opened.area_is.slots whole room)
            (changes_of (HoldsFed (whole_map area) free bs) (IsHeaderOf area d.blocks) d.content f.content holds opened.area_is.kind_is)
            (changes_both (Marks (laid_block (whole_map area) free 0)) (ComesIn area free bs) f.content g.content marks_of comes);
        called = called_then (1 + 3 * (length bs / 4096)) 6 (7 + 3 * (length bs / 4096)) d f g
            (called_then 1 (3 * (length bs / 4096)) (1 + 3 * (length bs / 4096)) d e f opened.called fed.called (omega arith)) called (omega arith);
      },
    )

-- The area wasn't opened.
pub ends_unopened : (why : InStop) (left left' : Option (List ℕ)) (d e : DiskView) → IsOfOpen why → IfNoSwap why (λ reason. IfSome d.content (λ held. open_fault d.blocks (area_kind (first_block d.blocks (as_it_reads held))) ≡ Some reason)) →
    (why ≡ stop.NoMemory → e ≡ d) → left' ≡ left → e.content ≡ d.content → IsCalledAtMost 1 d e → (IsDiskStop why → HasRisen d.faults e.faults) → Ends left left' d e (Err (Session why))
ends_unopened stop.NoMemory left left' d e of says untouched unread content called risen = (unread, untouched refl)
ends_unopened (stop.NoSwap why) left left' d e of says untouched unread content called risen = inl (record { says = says; unread = unread; content = content; called = called })
ends_unopened (stop.NoSlots told need) left left' d e of says untouched unread content called risen = absurd of
ends_unopened (stop.Stream fault) left left' d e of says untouched unread content called risen = absurd of
ends_unopened (stop.ReadFault what) left left' d e of says untouched unread content called risen = inl (of, record { unread = unread; content = content; called = called; risen = risen tt })
ends_unopened (stop.WriteFault what) left left' d e of says untouched unread content called risen = absurd of
ends_unopened (stop.SyncFault what) left left' d e of says untouched unread content called risen = absurd of

not_short_at : (bs : List ℕ) (r : Result ℕ InStop) (why : InStop) (o : Option StreamFault) → r ≡ Err why → ((fault : StreamFault) → why ≡ stop.Stream fault → ⊥) → ((fault : StreamFault) → (r ≡ Err (stop.Stream fault)) ↔ (short_fault bs ≡ Some fault)) → short_fault bs ≡ o → o ≡ None
not_short_at bs r why None is other short e = refl
not_short_at bs r why (Some fault) is other short e = let at = (short fault).1 e in absurd (other fault (cc))

untold : (area : Area) (free bs : List ℕ) (reason : NoSwap) (blocks : ℕ) (a b : Option Content) → 0 < blocks → AreUsable area free → Changes (HoldsFed (whole_map area) free bs) a b → IfSome a (λ held. area_kind (first_block blocks (as_it_reads held)) ≡ kind.Swap area) →
    IfSome b (λ held. kind_fault (area_kind (block (as_it_reads held) 0)) ≡ Some reason) → a ≡ None
untold area free bs reason blocks None b some slots holds is fault = refl
untold area free bs reason blocks (Some x) None some slots holds is fault = absurd holds
untold area free bs reason blocks (Some x) (Some y) some slots holds is fault =
    let leaves = holds_unusable area free bs x y slots holds in
    let same : block (as_it_reads y) 0 ≡ first_block blocks (as_it_reads x) = block_kept area 0 x y leaves (header_unusable area) ∙ sym (first_block-some blocks (as_it_reads x) some) in
    let none : kind_fault (area_kind (block (as_it_reads y) 0)) ≡ None = ap (λ page. kind_fault (area_kind page)) same ∙ ap kind_fault is in
    cc

marks_not : (why : InStop) (area : Area) (free bs : List ℕ) (x y z : Content) → AreUsable area free → HoldsFed (whole_map area) free bs x y → LeavesAt why y z → MarksNot why area free bs x z
marks_not why area free bs x y z slots holds leaves = (y, has_written area free bs x y slots holds, leaves)

pub ends_unfinished : (area : Area) (free bs : List ℕ) (s s' : StreamIn) (r : Result ℕ InStop) (why : InStop) (left left' : Option (List ℕ)) (d e f g : DiskView) → HasOpened area free s d e → HasFed free bs s s' left left' e f → IsUsedUp left' →
    r ≡ Err why → IsOfFinish why → ((fault : StreamFault) → (r ≡ Err (stop.Stream fault)) ↔ (short_fault bs ≡ Some fault)) → IfNoSwap why (λ reason. IfSome f.content (λ held. kind_fault (area_kind (block (as_it_reads held) 0)) ≡ Some reason)) →
    ((fault : StreamFault) → r ≡ Err (stop.Stream fault) → g ≡ f) → Changes (LeavesAt why) f.content g.content → IsCalledAtMost 6 f g → (IsDiskStop why → HasRisen f.faults g.faults) → Ends left left' d g (Err (Session why))
ends_unfinished area free bs s s' r why left left' d e f g opened fed over is of short no_swap untouched leaves called risen = by_why why is of no_swap leaves risen where
  sound : first_fault bs ≡ None
  sound = fed.fed.taken.read.sound

  bytes : AreRead bs left left'
  bytes = fed_read free bs s s' left left' e f fed

  holds : Changes (HoldsFed (whole_map area) free bs) d.content f.content
  holds = holds_of area free bs s d.content e.content f.content opened.map_is opened.content fed.content

  so_far : IsCalledAtMost (1 + 3 * (length bs / 4096)) d f
  so_far = called_then 1 (3 * (length bs / 4096)) (1 + 3 * (length bs / 4096)) d e f opened.called fed.called (omega arith)

  in_all : IsCalledAtMost (7 + 3 * (length bs / 4096)) d g
  in_all = called_then (1 + 3 * (length bs / 4096)) 6 (7 + 3 * (length bs / 4096)) d f g so_far called (omega arith)

  whole : (why : InStop) → r ≡ Err why → ((fault : StreamFault) → why ≡ stop.Stream fault → ⊥) → short_fault bs ≡ None
  whole why is other = not_short_at bs r why (short_fault bs) is other short refl

  some : (why : InStop) → r ≡ Err why → ((fault : StreamFault) → why ≡ stop.Stream fault → ⊥) → 0 < d.blocks
  some why is other =
      let info = whole_from bs sound (whole why is other) in
      let room = has_room free bs s'.memory s'.map s'.writer fed.fed.output info.info in
      let below = fed.fed.on_disk 0 (omega arith) in
      let same : s'.blocks ≡ d.blocks = fed.blocks ∙ opened.blocks_are in
      omega arith

  unmarked : (why : InStop) → r ≡ Err why → ((fault : StreamFault) → why ≡ stop.Stream fault → ⊥) → Changes (LeavesAt why) f.content g.content → HasRisen f.faults g.faults → OfSome (λ area free bs. IsUnmarked why area free bs left left' d g)
  unmarked why is other leaves risen = (
    area,
    free,
    bs,
    record {
      area_is = opened.area_is;
      bytes = bytes;
      over = over;
      stream = (sound, whole why is other);
      content = changes_then (HoldsFed (whole_map area) free bs) (LeavesAt why) (MarksNot why area free bs) d.content f.content g.content (λ x y z. marks_not why area free bs x y z opened.area_is.slots) holds leaves;
      called = in_all;
      risen = risen_from d.faults f.faults g.faults so_far.faults risen;
    },
  )

  by_why : (why : InStop) → r ≡ Err why → IsOfFinish why → IfNoSwap why (λ reason. IfSome f.content (λ held. kind_fault (area_kind (block (as_it_reads held) 0)) ≡ Some reason)) → Changes (LeavesAt why) f.content g.content → (IsDiskStop why → HasRisen f.faults g.faults) → Ends left left' d g (Err (Session why))
  by_why stop.NoMemory is of no_swap leaves risen = absurd of
  by_why (stop.NoSwap reason) is of no_swap leaves risen =
      let other : (fault : StreamFault) → stop.NoSwap reason ≡ stop.Stream fault → ⊥ = λ fault e. cc in
      inr (record {
        bs = bs;
        bytes = bytes;
        over = over;
        stream = (sound, whole (stop.NoSwap reason) is other);
        untold = untold area free bs reason d.blocks d.content f.content (some (stop.NoSwap reason) is other) opened.area_is.slots holds opened.area_is.kind_is no_swap;
        called = in_all;
      })
  by_why (stop.NoSlots told need) is of no_swap leaves risen = absurd of
  by_why (stop.Stream fault) is of no_swap leaves risen =
      let same : g ≡ f = untouched fault is in
      let content : Changes (LeavesUnusable area) d.content f.content = changes_as (HoldsFed (whole_map area) free bs) (LeavesUnusable area) d.content f.content (λ x y h. holds_unusable area free bs x y opened.area_is.slots h) holds in (
        area,
        free,
        bs,
        record {
          area_is = opened.area_is;
          bytes = bytes;
          says = inr (sound, (short fault).0 is, over);
          suffice = λ late _. has_room free bs s'.memory s'.map s'.writer fed.fed.output late;
          content = subst (λ (v : DiskView). Changes (LeavesUnusable area) d.content v.content) (sym same) content;
          called = subst (IsCalledAtMost (1 + 3 * (length bs / 4096)) d) (sym same) so_far;
        },
      )
  by_why (stop.ReadFault what) is of no_swap leaves risen = inr (unmarked (stop.ReadFault what) is (λ fault e. cc) leaves (risen tt))
  by_why (stop.WriteFault what) is of no_swap leaves risen = inr (unmarked (stop.WriteFault what) is (λ fault e. cc) leaves (risen tt))
  by_why (stop.SyncFault what) is of no_swap leaves risen = inr (unmarked (stop.SyncFault what) is (λ fault e. cc) leaves (risen tt))
