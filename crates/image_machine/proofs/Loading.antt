-- The loader that is made from an image is a loader of that image.
use Rattle.std.proofs.Common.{◌≡◌, cond, ℕ, ◌+◌, ◌-◌, ◌/◌, ◌%◌, ◌<◌, ◌≤◌, Bool, true, not, eqb, inl, inr, nat_eq, List, [], ◌∷◌, length, get_or, map, Some, None, Contains, sym, ap, subst, ◌∙◌, refl, arith}
use Rattle.std.specs.Cmp.Lexicographic.{pointwise, other_text}
use Rattle.std.specs.List.{list_any, range_with_len}
use Rattle.std.proofs.lemmas.Bool.{cases_Bool, cond-false, eq-eqb, not_from_true}
use Rattle.std.proofs.lemmas.List.Elements.{Contains-get_or}
use Rattle.std.proofs.lemmas.List.Folds.{list_any_at}
use Rattle.std.proofs.lemmas.List.FromFn.{get_or-map-range_with_len, length-map-range_with_len}
use Rattle.std.proofs.lemmas.List.Sums.{count_by-le-length, length-filter}
use Rattle.page_core.specs.declared.format.Format.{Format}
use Rattle.page_core.specs.declared.format.Format.TheVariants.{Plain, SkipZeros}
use Rattle.definitions.specs.Disk.{Content, DiskImage, IsContent, as_it_reads, block}
use Rattle.definitions.specs.Bytes.{word}
use Rattle.definitions.specs.InfoPage.{info_of, mismatch, same_name, text_of_name}
use Rattle.definitions.specs.declared.info.Field.TheVariants.{VersionCode, Sysname, Release, Version, Machine}
use Rattle.definitions.specs.Slots.{block_of, extent_at}
use Rattle.definitions.specs.FileMaps.{IsFileMap}
use Rattle.definitions.specs.SwapHeader.{flags_of, hw_sig_of, image_of}
use Rattle.definitions.specs.Zones.{numbers}
use Rattle.definitions.specs.declared.info.Ident.{Ident}
use Rattle.definitions.proofs.FileMaps.{block_of-extent}
use Rattle.image_format.specs.AreaKind.{area_kind, mark_of}
use Rattle.image_format.specs.declared.signature.area.Mark.{Mark}
use Rattle.machine.specs.declared.dump.Dump.{Dump}
use Rattle.plain_machine.specs.Chain.{entry_block, header_of}
use Rattle.plain_machine.specs.Loader.{need}
use Rattle.plain_machine.specs.Machine.{Hardware, block_of_slot, is_valid}
use Rattle.plain_machine.specs.Trace.{d_in, format_in, info_in, is_marked_by, is_set, number_by, number_in, number_word, stream_page, words_in}
use Rattle.plain_machine.specs.declared.event.IdentCheck.{IdentCheck}
use Rattle.plain_machine.specs.declared.event.IdentCheck.TheVariants.{Compare, Skip}
use Rattle.image_check.specs.Checked.{Finds, format_of, mark_in}
use Rattle.image_check.specs.Info.{counts_in}
use Rattle.image_check.specs.Numbers.{frame_of}
use Rattle.image_pages.specs.Chain.{chain_page}
use Rattle.image_pages.specs.Formats.{chain_format, format_marked}
use Rattle.image_pages.specs.Saved as by_page
use Rattle.image_machine.specs.Layouts.{extents_or_one, slots_of}
use Rattle.image_machine.specs.declared.heading.Layout.{Layout}
use Rattle.image_machine.specs.Headings.{signature_of}
use Rattle.image_machine.specs.Makes as makes
use Rattle.image_machine.specs.Resumable.{IsIdentified, IsLoaderOf, IsOnePiece, NamesSlots}
use Rattle.image_machine.proofs.Causes.{saved_same}
use Rattle.image_machine.proofs.Flags.{format_same, signature_counts}
use Rattle.image_machine.proofs.Found.{faultless, marked_as, size_of}
use Rattle.image_machine.proofs.Numbers.{frame_same}
use Rattle.image_machine.proofs.OnePiece.{one_piece}
use Rattle.image_machine.proofs.Resuming.{header_there, whole_is_resumed}
use Rattle.image_machine.specs.Loaded.{LoaderOfOnePieceResumes, LoaderResumes}

-- slot 0 lies on the first block of the first extent
slot_0 : (extents : List (ℕ × ℕ × ℕ)) (slots : ℕ) → IsFileMap extents slots → block_of extents 0 ≡ (extent_at extents 0).2
slot_0 extents slots are =
    let some = are.count.some in
    block_of-extent extents 0 0 (omega arith) (λ j lt. absurd (omega arith))
    (λ more. let next = (are.each 1 (omega arith)).start in let first = (are.each 0 (omega arith)).some in omega arith)
    ∙ omega arith

any_true : (xs : List ℕ) (p : ℕ) → Contains xs p → list_any (λ q. eqb q p) xs ≡ true
any_true xs p (k, lt, e) = list_any_at (λ q. eqb q p) xs k p lt (eq-eqb (get_or xs k p) p e)

few_data : (h : Hardware) (v : DiskImage) → d_in h v ≤ (info_in h v).image_pages
few_data h v =
    let test : ℕ → Bool = λ w. not (is_marked_by (format_in h v) w) in
    let count = length-filter test (words_in h v) in
    let part = count_by-le-length test (words_in h v) in
    let size = length-map-range_with_len (number_word h v) 0 (info_in h v).image_pages in
    omega arith

need_more : (d n : ℕ) → d ≤ n → need d ≤ need n
need_more d n le = omega arith

-- a page of the chain, by either definition
chain_is : (h : Hardware) (v : DiskImage) (offset k : ℕ) → header_of h v ≡ block v offset → chain_page v offset k ≡ stream_page h v k
chain_is h v offset k there = ap (λ (p : List ℕ). block v (entry_block v (image_of p) k)) (sym there)

-- each number is one of those that were saved
saved_there : (format : Format) (at : ℕ → List ℕ) (given : List ℕ) (j : ℕ) → given ≡ map (by_page.number_in format at) (range_with_len 0 (by_page.count_in at)) → j < by_page.count_in at → Contains given (by_page.number_in format at j)
saved_there format at given j is lt =
    let all = map (by_page.number_in format at) (range_with_len 0 (by_page.count_in at)) in
    let size = length-map-range_with_len (by_page.number_in format at) 0 (by_page.count_in at) in
    subst (λ (xs : List ℕ). Contains xs (by_page.number_in format at j)) (sym is)
    (subst (λ (p : ℕ). Contains all p) (get_or-map-range_with_len (by_page.number_in format at) 0 (by_page.count_in at) j j 0 lt (omega arith)) (Contains-get_or all j 0 (omega arith)))

-- without extents the image's blocks are those of slots
names_slots : (blocks before now : ℕ) (held : Content) (layout : Layout) (dump : Dump) → IsContent blocks held → makes.IsLoaderOf (Some held) layout dump → layout.extents.now ≡ [] → Finds (Some held) blocks layout.offset before now (Some []) → NamesSlots dump.hw (as_it_reads held) layout.offset
names_slots blocks before now held layout dump is made none finds =
    let v = as_it_reads held in
    let h = dump.hw in
    let heading = made.heading in
    let f = made.loader in
    let slots = ap (λ (x : Hardware). x.slots) f.is in
    let extents : h.extents ≡ (0, slots_of heading, 0) ∷ [] = ap (λ (x : Hardware). x.extents) f.is ∙ ap (λ (es : List (ℕ × ℕ × ℕ)). extents_or_one es (slots_of heading)) none in
    let one : IsOnePiece h = extents ∙ ap (λ (n : ℕ). (0, n, 0) ∷ []) (sym slots) in
    let begun : 0 ≡ layout.offset = ap (λ (es : List (ℕ × ℕ × ℕ)). (extent_at es 0).2) (sym extents) ∙ f.header in
    subst (λ (o : ℕ). Finds (Some held) blocks o before now (Some []) → NamesSlots h v o) begun
    (λ found. (one_piece blocks before now held h is one found).1) finds

pub is_loader : (blocks : ℕ) (held : Content) (layout : Layout) (dump : Dump) → IsContent blocks held → makes.IsLoaderOf (Some held) layout dump → NamesSlots dump.hw (as_it_reads held) layout.offset → layout.offset < blocks →
    IsLoaderOf (as_it_reads held) layout.offset dump.hw dump.frames
is_loader blocks held layout dump is made slots inside =
    let v = as_it_reads held in
    let h = dump.hw in
    let offset = layout.offset in
    let headed = made.headed in
    let f = made.loader in
    let at = chain_page v offset in
    let first_slot : block_of_slot h 0 ≡ offset = slot_0 h.extents h.slots f.hardware.map ∙ f.header in
    let there = header_there h v offset first_slot (subst (λ (n : ℕ). offset < n) (sym (size_of blocks held is)) inside) in
    let mark : headed.mark ≡ mark_of (block v offset) = (marked_as headed.page headed.mark headed.block.marked).1 ∙ ap mark_of headed.block.read in
    let format = chain_format v offset in
    let same_format : format ≡ format_in h v =
    ap (λ (p : List ℕ). format_marked (mark_in (area_kind p))) (sym headed.block.read)
    ∙ ap format_marked headed.block.marked
    ∙ ap (λ (m : Mark). format_of m.flags) mark
    ∙ sym (format_same (flags_of (block v offset)))
    ∙ ap (λ (p : List ℕ). cond (is_set (flags_of p) 256) SkipZeros Plain) (sym there) in
    let info : headed.info ≡ stream_page h v 0 = headed.first ∙ chain_is h v offset 0 there in
    let count : by_page.count_in at ≡ (info_in h v).image_pages = ap (λ (p : List ℕ). (counts_in p).image_pages) (chain_is h v offset 0 there) ∙ saved_same (stream_page h v 0) in
    record {
      hardware = f.hardware;
      first_slot = first_slot;
      slots = slots;
      signature = λ set.
          let flags = flags_of (block v offset) in
          sym (ap (λ (x : Hardware). x.hw_sig) f.is ∙ headed.hw_sig ∙ ap signature_of mark
          ∙ cond-false (eqb (flags / 8 % 2) 0) 0 (hw_sig_of (block v offset)) (signature_counts flags set));
      pages = ap (λ (p : List ℕ). (info_of p).physpages) (sym info) ∙ sym headed.physpages ∙ sym f.pages;
      valid = λ j lt.
          let number : by_page.number_in format at j ≡ number_in h v j =
          ap (λ (p : List ℕ). frame_of format (word p (j % 512))) (chain_is h v offset (1 + j / 512) there)
          ∙ frame_same format (number_word h v j)
          ∙ ap (λ (x : Format). number_by x (number_word h v j)) same_format in
          let in' : Contains (numbers h.zones) (number_in h v j) =
          subst (λ (p : ℕ). Contains (numbers h.zones) p) number (f.inside (by_page.number_in format at j) (saved_there format at made.saved j made.read (omega arith))) in
          any_true (numbers h.zones) (number_in h v j) in';
      room =
          let few = few_data h v in
          let size = ap length made.read ∙ length-map-range_with_len (by_page.number_in format at) 0 (by_page.count_in at) in
          let more = need_more (d_in h v) (length made.saved) (omega arith) in
          let room = f.room in
          omega arith;
    }

-- The loader's identity is the image's.

same_is_true : (xs : List ℕ) → pointwise nat_eq xs xs ≡ true
same_is_true xs = elim (cases_Bool (pointwise nat_eq xs xs)) [ inl e ↦ e | inr e ↦ absurd (other_text xs xs (sym e) refl) ]

no_mismatch : (x : Ident) → mismatch x x ≡ None
unfolding mismatch
no_mismatch x =
    cond-false (not (eqb x.version_code x.version_code)) (Some VersionCode) _ (not_from_true (eqb x.version_code x.version_code) (eq-eqb x.version_code x.version_code refl))
    ∙ cond-false (not (same_name 0 x x)) (Some Sysname) _ (not_from_true (same_name 0 x x) (same_is_true (text_of_name (get_or x.names 0 []))))
    ∙ cond-false (not (same_name 2 x x)) (Some Release) _ (not_from_true (same_name 2 x x) (same_is_true (text_of_name (get_or x.names 2 []))))
    ∙ cond-false (not (same_name 3 x x)) (Some Version) _ (not_from_true (same_name 3 x x) (same_is_true (text_of_name (get_or x.names 3 []))))
    ∙ cond-false (not (same_name 4 x x)) (Some Machine) None (not_from_true (same_name 4 x x) (same_is_true (text_of_name (get_or x.names 4 []))))

identified : (h : Hardware) (v : DiskImage) (check : IdentCheck) → (info_in h v).ident ≡ h.ident → IsIdentified h v check
identified h v Compare same = ap (λ (x : Ident). mismatch x h.ident) same ∙ no_mismatch h.ident
identified h v Skip same = tt

pub loader_resumes : LoaderResumes
loader_resumes blocks before now held layout dump check is made slots finds =
    let v = as_it_reads held in
    let h = dump.hw in
    let inside = (faultless blocks layout.offset before now held is finds).begins.inside in
    let loader = is_loader blocks held layout dump is made slots inside in
    let there = header_there h v layout.offset loader.first_slot (subst (λ (n : ℕ). layout.offset < n) (sym (size_of blocks held is)) inside) in
    let ident : (info_in h v).ident ≡ h.ident =
    ap (λ (p : List ℕ). (info_of p).ident) (sym (made.headed.first ∙ chain_is h v layout.offset 0 there)) ∙ sym made.headed.ident ∙ sym (ap (λ (x : Hardware). x.ident) made.loader.is) in
    whole_is_resumed blocks layout.offset before now held h dump.frames check is finds loader (identified h v check ident)

pub loader_of_one_piece_resumes : LoaderOfOnePieceResumes
loader_of_one_piece_resumes blocks before now held layout dump check is made none finds =
    loader_resumes blocks before now held layout dump check is made (names_slots blocks before now held layout dump is made none finds) finds
