-- Block(0) is written with a page that isn't marked and says of the area what the block says: a mark is taken back.
use Rattle.std.proofs.Common.{◌≡◌, ℕ, ◌+◌, ◌-◌, ◌/◌, ◌<◌, inl, inr, Bool, true, false, cond, min, nat_eq, List, get_or, take, drop, refl, sym, ap, ap₂, ◌∙◌, subst, arith}
use Rattle.std.specs.Cmp.Lexicographic.{pointwise}
use Rattle.std.proofs.lemmas.Bool.{cases_lt}
use Rattle.std.proofs.lemmas.List.{ext_get_or, get_or-take, length-take, get_or-drop, get_or_past}
use Rattle.definitions.specs.Bytes.{IsPage, AgreeBut, with_bytes}
use Rattle.definitions.specs.Disk as disk
use Rattle.definitions.specs.SwapHeader.{IsMarked, image_signature, sig_of, orig_sig_of, taken_back}
use Rattle.definitions.proofs.DiskLaws.{length-as_it_reads, IsImage-as_it_reads}
use Rattle.definitions.proofs.Marks.{length-bytes_at}
use Rattle.definitions.proofs.PageBytes.{length-with_bytes, get_or-with_bytes_below}
use Rattle.image_format.specs.AreaKind.{area_kind}
use Rattle.image_format.specs.declared.signature.area.AreaKind.{AreaKind}
use Rattle.plain_machine.specs.Machine.{Hardware, IsHardware, Fits, block_of_slot}
use Rattle.plain_machine.specs.Chain.{header_of, blocks_of, Marked}
use Rattle.plain_machine.specs.Image.{Image}
use Rattle.plain_machine.specs.State.{Running}
use Rattle.plain_machine.specs.Stands.{IsHeader, IsOwn, HasArea, AreTaskSlots, AgreeOnArea}
use Rattle.plain_machine.specs.UsableArea.{area_block, area_fault, bad_set_fault, dump_area_fault, first_fault, kind_or_fit_fault}
use Rattle.plain_machine.proofs.DiskBlocks.{block-written}
use Rattle.image_laws.specs.ImageBlocks.{Tries}
use Rattle.image_laws.proofs.ImageBlocks.{length-taken_back}
use Rattle.image_laws.proofs.Images.{SameBut, torn_image}
use Rattle.protocol_laws.proofs.Areas.{area_kind_same}
use Rattle.protocol_laws.proofs.Back.{ReadsSlots}
use Rattle.protocol_laws.proofs.Marked.{agree_both}
use Rattle.protocol_laws.proofs.Marking.{header_is, length-block, image_blocks, area_block-unmarked}
use Rattle.protocol_laws.proofs.Places.{task_not_header}
use Rattle.protocol_laws.proofs.Same.{reads_kept}

-- Before the write.
pub record IsUnmarking (h : Hardware) (page : List ℕ) (c : disk.Content) (blocks : ℕ) : Type 0 where
  pub content : disk.IsContent blocks c
  pub on_disk : block_of_slot h 0 < blocks
  pub whole : IsPage page
  pub unmarked : IsMarked page → ⊥
  pub area : AgreeOnArea page (area_block h (disk.as_it_reads c))
  pub header : IsHeader h c

pub header_page : (h : Hardware) (page : List ℕ) (c : disk.Content) (blocks : ℕ) (v : disk.DiskImage) → IsUnmarking h page c blocks → disk.IsImage c v → header_of h v ≡ disk.block v (block_of_slot h 0)
header_page h page c blocks v is in' =
    let lt = is.on_disk in
    let n = image_blocks blocks c v is.content in' in
    header_is h v (omega arith)

-- The front of the block is the same in every image, marked or not.

back_front : (page : List ℕ) → IsPage page → take 4056 (taken_back page) ≡ take 4056 page
unfolding taken_back
back_front page whole =
    let back = length-with_bytes page 4086 (orig_sig_of page) (let sig = length-bytes_at 10 page 4076 (omega arith) in omega arith) in
    let sig = length-bytes_at 10 page 4076 (omega arith) in
    let a = length-take 4056 (with_bytes page 4086 (orig_sig_of page)) in
    let b = length-take 4056 page in
    ext_get_or 0 (take 4056 (with_bytes page 4086 (orig_sig_of page))) (take 4056 page) (a ∙ ap (λ (n : ℕ). min 4056 n) back ∙ sym b)
    (λ i lt. let here : i < 4056 = omega arith in
    get_or-take 4056 (with_bytes page 4086 (orig_sig_of page)) i 0 here ∙ get_or-with_bytes_below page 4086 (orig_sig_of page) i 0 (omega arith) (omega arith) ∙ sym (get_or-take 4056 page i 0 here))

area_front_by : (header : List ℕ) (b : Bool) → IsPage header → take 4056 (cond b (taken_back header) header) ≡ take 4056 header
area_front_by header true whole = back_front header whole
area_front_by header false whole = refl

pub area_front : (h : Hardware) (v : disk.DiskImage) → IsPage (header_of h v) → take 4056 (area_block h v) ≡ take 4056 (header_of h v)
area_front h v whole = area_front_by (header_of h v) (pointwise nat_eq (sig_of (header_of h v)) image_signature) whole

pub same_front : (p q : List ℕ) → IsPage p → IsPage q → take 4056 p ≡ take 4056 q → AgreeBut 3584 4096 p q
same_front p q a b front = record {
  size = a ∙ sym b;
  before = λ i lt. sym (get_or-take 4056 p i 0 (omega arith)) ∙ ap (λ (xs : List ℕ). get_or xs i 0) front ∙ get_or-take 4056 q i 0 (omega arith);
  after = λ i le. get_or_past p i 0 (omega arith) ∙ sym (get_or_past q i 0 (omega arith));
}

pub area_page : (h : Hardware) (v : disk.DiskImage) → IsPage (header_of h v) → IsPage (area_block h v)
area_page h v whole = either (pointwise nat_eq (sig_of (header_of h v)) image_signature) where
  either : (b : Bool) → IsPage (cond b (taken_back (header_of h v)) (header_of h v))
  either true = length-taken_back (header_of h v) whole
  either false = whole

page_before : (h : Hardware) (page : List ℕ) (c : disk.Content) (blocks : ℕ) (v : disk.DiskImage) → IsUnmarking h page c blocks → disk.IsImage c v → IsPage (header_of h v)
page_before h page c blocks v is in' = subst IsPage (sym (header_page h page c blocks v is in')) (length-block blocks c v (block_of_slot h 0) is.content in' is.on_disk)

block_agrees : (h : Hardware) (page : List ℕ) (c : disk.Content) (blocks : ℕ) (w : disk.DiskImage) → IsUnmarking h page c blocks → disk.IsImage c w → AgreeBut 3584 4096 (disk.block w (block_of_slot h 0)) page
block_agrees h page c blocks w is in' =
    let at = header_page h page c blocks w is in' in
    let one = is.header.one w in' in
    same_front (disk.block w (block_of_slot h 0)) page (length-block blocks c w (block_of_slot h 0) is.content in' is.on_disk) is.whole
    (ap (take 4056) (sym at) ∙ sym (area_front h w (page_before h page c blocks w is in')) ∙ one.front ∙ sym is.area.front)

-- An image after the write, failed or not: one of before, or with the page in the block.
pub data Torn (h : Hardware) (page : List ℕ) (c : disk.Content) (v : disk.DiskImage) : Type 0 where
  still : disk.IsImage c v → Torn h page c v
  back : (w : disk.DiskImage) → disk.IsImage c w → SameBut (block_of_slot h 0) v w → header_of h v ≡ page → Torn h page c v

pub torn : (h : Hardware) (page : List ℕ) (c c' : disk.Content) (blocks : ℕ) (v : disk.DiskImage) → IsUnmarking h page c blocks → Tries (block_of_slot h 0) page c c' → disk.IsImage c' v → Torn h page c v
torn h page c c' blocks v is tries in' =
    let lt = is.on_disk in
    elim (torn_image blocks (block_of_slot h 0) page c c' v is.content lt is.whole tries (λ w in_w. block_agrees h page c blocks w is in_w) in') [
      | inl was ↦ still was
      | inr taken ↦
          let n = image_blocks blocks c taken.1.0 is.content taken.1.1 in
          let size = taken.1.2.size in
          back taken.1.0 taken.1.1 taken.1.2 (header_is h v (omega arith) ∙ taken.0)
    ]

-- What each says of the area.
pub record SaysArea (h : Hardware) (c : disk.Content) (v : disk.DiskImage) : Type 0 where
  pub agrees : AgreeOnArea (area_block h v) (area_block h (disk.as_it_reads c))
  pub unmarked : IsMarked (area_block h v) → ⊥

says_area : (h : Hardware) (page : List ℕ) (c : disk.Content) (blocks : ℕ) (v : disk.DiskImage) → IsUnmarking h page c blocks → Torn h page c v → SaysArea h c v
says_area h page c blocks v is (still was) = record { agrees = is.header.one v was; unmarked = is.header.unmarked v was }
says_area h page c blocks v is (back w in_w same header) =
    let here : area_block h v ≡ page = area_block-unmarked h v (λ m. is.unmarked (subst IsMarked header m)) ∙ header in
    record {
      agrees = subst (λ (p : List ℕ). AgreeOnArea p (area_block h (disk.as_it_reads c))) (sym here) is.area;
      unmarked = λ m. is.unmarked (subst IsMarked here m);
    }

agree_but : (p q : List ℕ) → IsPage p → IsPage q → AgreeOnArea p q → AgreeBut 4056 4086 p q
agree_but p q a b agree = record {
  size = a ∙ sym b;
  before = λ i lt. sym (get_or-take 4056 p i 0 lt) ∙ ap (λ (xs : List ℕ). get_or xs i 0) agree.front ∙ get_or-take 4056 q i 0 lt;
  after = λ i le. elim (cases_lt i 4096) [
    | inl lt ↦
        let at : 4086 + (i - 4086) ≡ i = omega arith in
        ap (λ (k : ℕ). get_or p k 0) (sym at) ∙ sym (get_or-take 10 (drop 4086 p) (i - 4086) 0 (omega arith) ∙ get_or-drop 4086 p (i - 4086) 0)
        ∙ ap (λ (xs : List ℕ). get_or xs (i - 4086) 0) agree.signature
        ∙ get_or-take 10 (drop 4086 q) (i - 4086) 0 (omega arith) ∙ get_or-drop 4086 q (i - 4086) 0 ∙ ap (λ (k : ℕ). get_or q k 0) at
    | inr past ↦ get_or_past p i 0 (omega arith) ∙ sym (get_or_past q i 0 (omega arith))
  ];
}

page_torn : (h : Hardware) (page : List ℕ) (c : disk.Content) (blocks : ℕ) (v : disk.DiskImage) → IsUnmarking h page c blocks → Torn h page c v → IsPage (header_of h v)
page_torn h page c blocks v is (still was) = page_before h page c blocks v is was
page_torn h page c blocks v is (back w in_w same header) = subst IsPage (sym header) is.whole

pub kind_torn : (h : Hardware) (page : List ℕ) (c : disk.Content) (blocks : ℕ) (v : disk.DiskImage) → IsUnmarking h page c blocks → Torn h page c v → area_kind (area_block h v) ≡ area_kind (area_block h (disk.as_it_reads c))
kind_torn h page c blocks v is t =
    let says = says_area h page c blocks v is t in
    let w = disk.as_it_reads c in
    let here = IsImage-as_it_reads blocks c is.content in
    area_kind_same (area_block h v) (area_block h w)
    (agree_but (area_block h v) (area_block h w) (area_page h v (page_torn h page c blocks v is t)) (area_page h w (page_before h page c blocks w is here)) says.agrees) says.unmarked

pub count_torn : (h : Hardware) (page : List ℕ) (c : disk.Content) (blocks : ℕ) (v : disk.DiskImage) → disk.IsContent blocks c → Torn h page c v → blocks_of v ≡ blocks
count_torn h page c blocks v whole (still was) = image_blocks blocks c v whole was
count_torn h page c blocks v whole (back w in_w same header) = ap (λ (n : ℕ). n / 8) same.size ∙ image_blocks blocks c w whole in_w

-- an own image whose block was taken back
pub own_torn : (h : Hardware) (i : Image) (v w : disk.DiskImage) → IsOwn h w i → blocks_of v ≡ blocks_of w → area_kind (area_block h v) ≡ area_kind (area_block h w) → (Marked h v → ⊥) → IsOwn h v i
unfolding area_fault
own_torn h i v w own_is blocks kind unmarked =
    let m = own_is.of_memory.1 in
    record {
      of_memory = (
        own_is.of_memory.0,
        record {
          fits = m.fits;
          task_slots = m.task_slots;
          fits_area = record {
            area = ap₂ (λ (k : ℕ) (x : AreaKind). kind_or_fit_fault h k x) blocks kind ∙ m.fits_area.area;
            bad_slots = ap (bad_set_fault h own_is.of_memory.0) kind ∙ m.fits_area.bad_slots;
          };
          image = m.image;
        },
      );
      signature = λ marked. absurd (unmarked marked);
    }

-- What is there after the write.

pub header_still : (h : Hardware) (page : List ℕ) (c c' : disk.Content) (blocks : ℕ) → IsUnmarking h page c blocks → disk.IsContent blocks c' → Tries (block_of_slot h 0) page c c' → IsHeader h c'
header_still h page c c' blocks is after tries =
    let says = λ (v : disk.DiskImage) (in' : disk.IsImage c' v). says_area h page c blocks v is (torn h page c c' blocks v is tries in') in
    let v' = disk.as_it_reads c' in
    record {
      unmarked = λ v in'. (says v in').unmarked;
      one = λ v in'. agree_both (area_block h v) (area_block h v') (area_block h (disk.as_it_reads c)) (says v in').agrees (says v' (IsImage-as_it_reads blocks c' after)).agrees;
    }

pub area_still : (h : Hardware) (page : List ℕ) (c c' : disk.Content) (blocks : ℕ) (a : Running) → IsUnmarking h page c blocks → disk.IsContent blocks c' → Tries (block_of_slot h 0) page c c' → HasArea h c a → HasArea h c' a
unfolding area_fault dump_area_fault
area_still h page c c' blocks a is after tries area =
    let v' = disk.as_it_reads c' in
    let w = disk.as_it_reads c in
    let t = torn h page c c' blocks v' is tries (IsImage-as_it_reads blocks c' after) in
    let kind = kind_torn h page c blocks v' is t in
    let n : blocks_of v' ≡ blocks_of w = count_torn h page c blocks v' is.content t ∙ sym (image_blocks blocks c w is.content (IsImage-as_it_reads blocks c is.content)) in
    area ∙ sym (ap₂ (λ (k : ℕ) (x : AreaKind). first_fault (kind_or_fit_fault h k x) (bad_set_fault h a.memory x)) n kind)

pub slots_still : (h : Hardware) (page : List ℕ) (c c' : disk.Content) (a : Running) → IsHardware h → Fits h a.memory → AreTaskSlots h a.unusable a.memory a.flights a.slots → Tries (block_of_slot h 0) page c c' → ReadsSlots h c c' a.slots
slots_still h page c c' a hw fits tasks tries s old e =
    let task = tasks.tasks s old e in
    reads_kept (block_of_slot h 0) (block_of_slot h s) page c c' tries (task_not_header h a.memory s hw fits task.0 task.2)

-- The disk reads as unmarked once the write is made.
pub reads_page : (h : Hardware) (page : List ℕ) (c c' : disk.Content) (blocks : ℕ) → IsUnmarking h page c blocks → disk.IsContent blocks c' → disk.Writes (block_of_slot h 0) page c c' → header_of h (disk.as_it_reads c') ≡ page
reads_page h page c c' blocks is after writes =
    let lt = is.on_disk in
    let size = is.content.size in
    let size' = after.size in
    let reads' = length-as_it_reads c' in
    header_is h (disk.as_it_reads c') (omega arith) ∙ block-written (block_of_slot h 0) page c c' is.whole (omega arith) writes

pub reads_unmarked : (h : Hardware) (page : List ℕ) (c c' : disk.Content) (blocks : ℕ) → IsUnmarking h page c blocks → disk.IsContent blocks c' → disk.Writes (block_of_slot h 0) page c c' → Marked h (disk.as_it_reads c') → ⊥
reads_unmarked h page c c' blocks is after writes marked = is.unmarked (subst IsMarked (reads_page h page c c' blocks is after writes) marked)
