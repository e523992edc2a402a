-- The info page.
use Rattle.std.proofs.Common.{◌≡◌, ℕ, ◌-◌, List, Bool, cond, eqb, Option, Some, None, refl, sym, ap, ap₂, ◌∙◌, subst, arith}
use Rattle.definitions.specs.Disk as disk
use Rattle.definitions.specs.InfoPage.{info_of, mismatch}
use Rattle.definitions.specs.NumberPages.{meta_of}
use Rattle.definitions.specs.declared.info.Ident.{Ident}
use Rattle.definitions.specs.declared.info.Info.{Info}
use Rattle.definitions.specs.declared.info.Field.{Field}
use Rattle.page_core.specs.declared.format.Format.{Format}
use Rattle.page_core.specs.declared.format.Format.TheVariants.{Plain, SkipZeros}
use Rattle.image_format.specs.Counts.{are_bad_counts}
use Rattle.frame_sets.specs.Unpacked.{Unpacked}
use Rattle.plain_machine.specs.Machine.{Hardware, valid_count}
use Rattle.plain_machine.specs.Chain.{or_else}
use Rattle.plain_machine.specs.Trace as trace
use Rattle.plain_machine.specs.Trace.{first_map, info_in, format_in, meta_in, map_at, page_at, place, place_count, read_cause, stream_page, info_cause, identity_cause, memory_cause, counts_cause, data_frames}
use Rattle.plain_machine.specs.declared.event.IdentCheck.{IdentCheck}
use Rattle.plain_machine.specs.declared.event.IdentCheck.TheVariants.{Compare, Skip}
use Rattle.plain_machine.specs.declared.reply.Reply.{Reply}
use Rattle.plain_machine.specs.declared.reply.Reply.TheVariants as reply
use Rattle.image_read.specs.Reading.{Reading}
use Rattle.image_read.specs.Faults.{info_fault, identity_fault, size_fault, counts_fault, field_fault}
use Rattle.image_read.specs.Taking.{with_info}
use Rattle.image_read.specs.Answers.{Compares}
use Rattle.image_read.specs.Stream.{HasReadPlaces, place_block, pages_read, numbers_read, frames_in, marked_in, last_number, told, frame_after}
use Rattle.image_read.specs.declared.cause.Cause.TheVariants.{MemorySize, BadCounts}
use Rattle.image_read.proofs.Over.{as_reply, as_reply-or_else, as_reply-cond}
use Rattle.image_read.proofs.Counts.{info_sound, good_counts}
use Rattle.image_read.proofs.Places.{two_places}
use Rattle.image_read.proofs.Read.{IsRead, told_more}

field_reply : (f : Option Field) → as_reply (field_fault f) ≡ elim f as (λ x. Option Reply) [ None ↦ None | Some field ↦ Some (reply.Mismatch field) ]
field_reply None = refl
field_reply (Some field) = refl

identity_is : (h : Hardware) (v : disk.DiskImage) (check : IdentCheck) (own : Option Ident) → Compares h check own → as_reply (identity_fault own (info_in h v)) ≡ identity_cause h v check
identity_is h v Compare own is = ap (λ (o : Option Ident). as_reply (identity_fault o (info_in h v))) is ∙ field_reply (mismatch (info_in h v).ident h.ident)
identity_is h v Skip own is = ap (λ (o : Option Ident). as_reply (identity_fault o (info_in h v))) is

same_test : (f : Format) (valid n pages : ℕ) → are_bad_counts f valid n pages ≡ trace.are_bad_counts f valid n pages
same_test Plain valid n pages = refl
same_test SkipZeros valid n pages = refl

-- what is wrong with the info page is what a resume replies
pub info_fault_is : (h : Hardware) (v : disk.DiskImage) (check : IdentCheck) (own : Option Ident) (valid : ℕ) (format : Format) (info : Info) → Compares h check own → valid ≡ valid_count h → format ≡ format_in h v → info ≡ info_in h v → as_reply (info_fault own valid format info) ≡ info_cause h v check
unfolding info_fault
info_fault_is h v check own valid format info compares valid_is format_is info_is =
    let n = (info_in h v).image_pages in
    let pages = (info_in h v).pages in
    ap (λ (i : Info). as_reply (or_else (identity_fault own i) (or_else (size_fault valid i) (counts_fault valid format i)))) info_is
    ∙ ap₂ (λ (w : ℕ) (f : Format). as_reply (or_else (identity_fault own (info_in h v)) (or_else (size_fault w (info_in h v)) (counts_fault w f (info_in h v))))) valid_is format_is
    ∙ as_reply-or_else (identity_fault own (info_in h v)) (or_else (size_fault (valid_count h) (info_in h v)) (counts_fault (valid_count h) (format_in h v) (info_in h v)))
    ∙ ap₂ or_else (identity_is h v check own compares)
    (as_reply-or_else (size_fault (valid_count h) (info_in h v)) (counts_fault (valid_count h) (format_in h v) (info_in h v))
    ∙ ap₂ or_else (as_reply-cond (eqb (info_in h v).physpages (valid_count h)) None (Some (MemorySize (info_in h v).physpages (valid_count h))))
    (as_reply-cond (are_bad_counts (format_in h v) (valid_count h) n pages) (Some (BadCounts n pages)) None
    ∙ ap (λ (b : Bool). cond b (Some (reply.BadCounts n pages)) None) (same_test (format_in h v) (valid_count h) n pages)))

abbrev begun : ℕ → Format → Unpacked
begun n format = record { n = n; format = format; read = 0; last = None }

abbrev at_number : Hardware → disk.DiskImage → ℕ → Unpacked
at_number h v m = record { n = (info_in h v).image_pages; format = format_in h v; read = m; last = last_number h v m }

-- an info page that was accepted
pub read_info : (h : Hardware) (v : disk.DiskImage) (check : IdentCheck) (own : Option Ident) (valid : ℕ) (r new : Reading) (page origs zeros : List ℕ) → HasReadPlaces h v check r 1 origs zeros → page ≡ disk.block v (place_block h v (place 1)) → Compares h check own → valid ≡ valid_count h → info_fault own valid r.format (info_of page) ≡ None → new ≡ with_info r (info_of page) → IsRead h v check new 1 1 origs zeros
read_info h v check own valid r new page origs zeros reading page_is compares valid_is sound new_is =
    let info_is : info_of page ≡ info_in h v = ap info_of page_is in
    let cause_is = info_fault_is h v check own valid r.format (info_of page) compares valid_is reading.area.same_format info_is in
    let good = good_counts r.format valid (info_of page).image_pages (info_of page).pages (info_sound own valid r.format (info_of page) sound) in
    let n_is : (info_of page).image_pages ≡ (info_in h v).image_pages = ap (λ (i : Info). i.image_pages) info_is in
    let pages_is : (info_of page).pages ≡ (info_in h v).pages = ap (λ (i : Info). i.pages) info_is in
    let n = (info_in h v).image_pages in
    let some = good.0.some in
    let least = good.0.least in
    let none_read : numbers_read h v 1 ≡ 0 = omega arith in
    let none_before : numbers_read h v (pages_read 1) ≡ 0 = omega arith in
    let two = two_places (info_in h v).pages in
    let none_data : 1 - 1 - meta_in h v ≡ 0 = omega arith in
    let none_data_before : pages_read 1 - 1 - meta_in h v ≡ 0 = omega arith in
    let meta_is : meta_of (info_of page).image_pages ≡ meta_of n = ap meta_of n_is in
    let told_none : told h v 1 ≡ None = told_more h v 1 (omega arith) (λ e. let low : n ≡ 0 = sym e ∙ none_read in omega arith) in
    let listed_none : r.listed ≡ None = reading.listed in
    subst (λ (x : Reading). IsRead h v check x 1 1 origs zeros) (sym new_is) (record {
      area = reading.area;
      steps = reading.steps;
      sound = reading.sound;
      cause = sym cause_is ∙ ap as_reply sound;
      pages = pages_is;
      saved = n_is;
      within = two;
      map = reading.map (λ e. omega arith);
      numbers = ap₂ (λ (m : ℕ) (f : Format). begun m f) n_is reading.area.same_format ∙ ap (λ (m : ℕ). at_number h v m) (sym none_read);
      listed = listed_none ∙ sym told_none;
      frame = reading.frame ∙ ap (frame_after (data_frames h v)) (none_data_before ∙ sym none_data);
      frames = reading.frames ∙ ap (frames_in h v) (none_before ∙ sym none_read);
      marks = reading.marks ∙ ap (marked_in h v) (none_before ∙ sym none_read);
      rising = reading.rising;
      counts = λ le. record { some = omega arith; least = omega arith };
      whole = λ m told_is. cc;
    })
