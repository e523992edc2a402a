-- Block 0 as it is written and synced.
use Rattle.std.proofs.Common.{◌≡◌, ◌⊎◌, ℕ, ◌<◌, eqb, List, length, Option, None, IfSome, false, refl, sym, ap, ◌∙◌, subst, inl, inr, arith}
use Rattle.std.proofs.lemmas.Bool.{cond-false, ne_eqb}
use Rattle.definitions.specs.Bytes.{IsPage, AgreeBut, zero_page}
use Rattle.definitions.specs.Disk.{Content, DiskImage, Changes, IsContent, as_it_reads, block, settled, Writes, Syncs, SameOutside}
use Rattle.definitions.specs.SwapHeader.{IsMarked, marked, taken_back}
use Rattle.definitions.proofs.DiskLaws.{as_it_reads-settled, length-settled, length-as_it_reads, block-other}
use Rattle.plain_machine.proofs.DiskBlocks.{block-written}
use Rattle.plain_machine.specs.UsableArea.{kind_fault}
use Rattle.image_format.specs.AreaKind.{area_kind}
use Rattle.image_format.specs.declared.signature.area.AreaKind.{AreaKind}
use Rattle.image_format.specs.declared.signature.area.AreaKind.TheVariants as kind
use Rattle.protocol_laws.specs.Headers.{is_image}
use Rattle.protocol_laws.proofs.Areas.{sig_same}
use Rattle.protocol_laws.proofs.Signatures.{marked_false}
use Rattle.plain_machine.specs.declared.reply.Left.{Left}
use Rattle.plain_machine.specs.declared.reply.Left.TheVariants.{Same, Gone, Unsure}
use Rattle.stream_in.specs.Area.{first_block}
use Rattle.stream_in.specs.Marking.{Leaves, LeavesAt}
use Rattle.stream_in.specs.Marked.{HasHeader, Marks, LeavesOver, FailsToMark}
use Rattle.stream_in.specs.declared.stop.InStop.{InStop}
use Rattle.stream_in.specs.declared.stop.InStop.TheVariants as stop
use Rattle.stream_in.proofs.Contents.{changes_then, changes_from, changes_to}

-- what a sync reads as
pub reads_synced : (old new : Content) → Syncs old new → as_it_reads new ≡ as_it_reads old
reads_synced old new synced = ap as_it_reads synced ∙ as_it_reads-settled (as_it_reads old)

pub length-synced : (old new : Content) → Syncs old new → length new ≡ length old
length-synced old new synced = ap length synced ∙ length-settled (as_it_reads old) ∙ length-as_it_reads old

-- block 0 written and synced
pub written_synced : (blocks : ℕ) (page : List ℕ) (old new last : Content) → IsContent blocks old → 0 < blocks → IsPage page → Writes 0 page old new → Syncs new last → HasHeader page old last
written_synced blocks page old new last is some whole writes synced =
    let reads = reads_synced new last synced in
    let size = is.size in
    record {
      one_image = synced ∙ sym (ap settled reads);
      header = ap (λ v. block v 0) reads ∙ block-written 0 page old new whole (omega arith) writes;
      others = λ b above. ap (λ v. block v b) reads ∙ block-other 0 b old new writes.others (inr above);
      size = length-synced new last synced ∙ writes.others.size;
    }

not_image_kind : (kind : AreaKind) → kind_fault kind ≡ None → is_image kind ≡ false
not_image_kind (kind.Image mark) e = cc
not_image_kind kind.Old e = cc
not_image_kind (kind.Other sig) e = cc
not_image_kind (kind.BadArea why) e = cc
not_image_kind (kind.Swap area) e = refl

-- an area without an image, marked and taken back, isn't marked
pub unmarked : (page back : List ℕ) → kind_fault (area_kind page) ≡ None → AgreeBut 4056 4086 back page → IsMarked back → ⊥
unmarked page back none agree is =
    marked_false page (not_image_kind (area_kind page) none) (sym (sig_same back page agree) ∙ is)

-- Block 0 written and synced, if the content is told.

pub told_header : (blocks : ℕ) (page back : List ℕ) (a b c : Option Content) → IfSome a (IsContent blocks) → 0 < blocks → IsPage page → page ≡ back →
    Changes (Writes 0 page) a b → Changes Syncs b c → Changes (HasHeader back) a c
told_header blocks page back a b c is some whole e writes synced =
    changes_then (λ x y. IsContent blocks x × Writes 0 page x y) Syncs (HasHeader back) a b c
    (λ x y z w s. subst (λ (p : List ℕ). HasHeader p x z) e (written_synced blocks page x y z w.0 some whole w.1 s))
    (changes_from (IsContent blocks) (Writes 0 page) (λ x y. IsContent blocks x × Writes 0 page x y) a b (λ x y p r. (p, r)) is writes)
    synced

-- Where only block 0 was written before.

same_twice : (x y z : Content) → SameOutside 0 x y → SameOutside 0 y z → SameOutside 0 x z
same_twice x y z first second = record {
  size = second.size ∙ first.size;
  below = λ s lt. absurd (omega arith);
  above = λ s le. second.above s le ∙ first.above s le;
}

header_behind : (page : List ℕ) (x y z : Content) → SameOutside 0 x y → HasHeader page y z → HasHeader page x z
header_behind page x y z same has = record {
  one_image = has.one_image;
  header = has.header;
  others = λ b above. has.others b above ∙ block-other 0 b x y same (inr above);
  size = has.size ∙ same.size;
}

no_same : (Same ≡ Gone) ⊎ (Same ≡ Unsure) → {A : Type 0} → A
no_same (inl e) = absurd (cc)
no_same (inr e) = absurd (cc)

pub left_over : (page : List ℕ) (left : Left) (a b c : Option Content) → Changes (SameOutside 0) a b → (left ≡ Gone) ⊎ (left ≡ Unsure) →
    (left ≡ Gone → Changes (HasHeader (taken_back page)) b c) → (left ≡ Unsure → Changes (SameOutside 0) b c) → Changes (LeavesOver page left) a c
left_over page Same a b c same either gone unsure = no_same either
left_over page Gone a b c same either gone unsure =
    changes_then (SameOutside 0) (HasHeader (taken_back page)) (HasHeader (taken_back page)) a b c (header_behind (taken_back page)) same (gone refl)
left_over page Unsure a b c same either gone unsure =
    changes_then (SameOutside 0) (SameOutside 0) (SameOutside 0) a b c same_twice same (unsure refl)

-- The header block that is read after a sync.

pub first_block-some : (blocks : ℕ) (v : DiskImage) → 0 < blocks → first_block blocks v ≡ block v 0
first_block-some blocks v some = cond-false (eqb blocks 0) zero_page (block v 0) (ne_eqb blocks 0 (λ e. omega arith))

pub header_read : (blocks : ℕ) (page : List ℕ) (a b : Option Content) → 0 < blocks → Changes Syncs a b → IfSome b (λ held. page ≡ first_block blocks (as_it_reads held)) → IfSome a (λ held. page ≡ block (as_it_reads held) 0)
header_read blocks page a b some synced read =
    changes_to (λ held. page ≡ block (as_it_reads held) 0) (λ held. page ≡ first_block blocks (as_it_reads held)) Syncs a b
    (λ x y s e. e ∙ first_block-some blocks (as_it_reads y) some ∙ ap (λ v. block v 0) (reads_synced x y s)) synced read

-- A mark after a sync.

-- the header block of an area without an image
abbrev pub IsHeader : List ℕ → Content → Type 0
IsHeader page held = page ≡ block (as_it_reads held) 0

marks : (page : List ℕ) (first : ℕ) (x y z : Content) → kind_fault (area_kind page) ≡ None → IsHeader page x → Syncs x y → HasHeader (marked page first 2 0) y z → Marks first x z
marks page first x y z none is synced has =
    let reads = reads_synced x y synced in
    record {
      area = ap (λ p. kind_fault (area_kind p)) (sym is) ∙ none;
      marked = record {
        one_image = has.one_image;
        header = has.header ∙ ap (λ p. marked p first 2 0) is;
        others = λ b above. has.others b above ∙ ap (λ v. block v b) reads;
        size = has.size ∙ length-synced x y synced;
      };
    }

pub told_marks : (page over : List ℕ) (first : ℕ) (a b c : Option Content) → kind_fault (area_kind page) ≡ None → over ≡ marked page first 2 0 → IfSome a (IsHeader page) → Changes Syncs a b → Changes (HasHeader over) b c → Changes (Marks first) a c
told_marks page over first a b c none e read synced has =
    changes_then (λ x y. IsHeader page x × Syncs x y) (HasHeader over) (Marks first) a b c
    (λ x y z s h. marks page first x y z none s.0 s.1 (subst (λ (p : List ℕ). HasHeader p y z) e h))
    (changes_from (IsHeader page) Syncs (λ x y. IsHeader page x × Syncs x y) a b (λ x y p r. (p, r)) read synced) has

-- and what a fault of the mark leaves

leaves_over : (page over : List ℕ) (left : Left) (x y z : Content) → kind_fault (area_kind page) ≡ None → AgreeBut 4056 4086 (taken_back over) page → Syncs x y → LeavesOver over left y z → Leaves left x z
leaves_over page over Same x y z none agree synced h = absurd h
leaves_over page over Gone x y z none agree synced h = record {
  one_image = h.one_image;
  unmarked = λ is. unmarked page (taken_back over) none agree (subst IsMarked h.header is);
  others = λ b above. h.others b above ∙ ap (λ v. block v b) (reads_synced x y synced);
}
leaves_over page over Unsure x y z none agree synced h = subst (λ (c : Content). SameOutside 0 c z) synced h

leaves_mark : (page over : List ℕ) (why : InStop) (x y z : Content) → kind_fault (area_kind page) ≡ None → AgreeBut 4056 4086 (taken_back over) page → Syncs x y → FailsToMark over why y z → LeavesAt why x z
leaves_mark page over (stop.WriteFault left) x y z none agree synced h = leaves_over page over left x y z none agree synced h
leaves_mark page over (stop.SyncFault left) x y z none agree synced h = leaves_over page over left x y z none agree synced h
leaves_mark page over (stop.ReadFault left) x y z none agree synced h = absurd h
leaves_mark page over (stop.NoSwap why) x y z none agree synced h = absurd h
leaves_mark page over stop.NoMemory x y z none agree synced h = absurd h
leaves_mark page over (stop.NoSlots free need) x y z none agree synced h = absurd h
leaves_mark page over (stop.Stream fault) x y z none agree synced h = absurd h

pub told_leaves : (page over : List ℕ) (why : InStop) (a b c : Option Content) → kind_fault (area_kind page) ≡ None → AgreeBut 4056 4086 (taken_back over) page → Changes Syncs a b → Changes (FailsToMark over why) b c → Changes (LeavesAt why) a c
told_leaves page over why a b c none agree synced h =
    changes_then Syncs (FailsToMark over why) (LeavesAt why) a b c (λ x y z s l. leaves_mark page over why x y z none agree s l) synced h
