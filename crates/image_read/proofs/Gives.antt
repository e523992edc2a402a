-- What a reader gives over a disk is what a resume replies.
use Rattle.std.proofs.Common.{◌≡◌, ℕ, ◌+◌, ◌-◌, ◌%◌, ◌<◌, ◌≤◌, suc, List, length, cond, ltb, slice_get, Option, Some, None, is_none, Result, Ok, Err, sym, ap, ◌∙◌, subst, inl, inr, arith}
use Rattle.std.proofs.lemmas.Bool.{cases_eq, cond-false, le-ltb}
use Rattle.definitions.specs.Disk as disk
use Rattle.definitions.specs.Zones.{numbers, first_from}
use Rattle.definitions.specs.InfoPage.{info_of}
use Rattle.definitions.specs.declared.info.Ident.{Ident}
use Rattle.plain_machine.specs.Machine.{Hardware, valid_count}
use Rattle.plain_machine.specs.Chain.{or_else}
use Rattle.plain_machine.specs.Trace.{page_at, info_in, meta_in, place, place_count, read_cause, next_cause, data_frames}
use Rattle.plain_machine.specs.declared.event.IdentCheck.{IdentCheck}
use Rattle.plain_machine.specs.declared.reply.Reply.{Reply}
use Rattle.image_read.specs.Causes.{reply_of}
use Rattle.image_read.specs.Reading.{Reading, IsReady}
use Rattle.image_read.specs.Taking.{Takes, Advances, with_data}
use Rattle.image_read.specs.Stream.{HasReadPlaces, place_block, pages_read, known_pages, told, frame_at}
use Rattle.image_read.specs.Answers.{Compares, Gives}
use Rattle.image_read.specs.declared.cause.Cause.{Cause}
use Rattle.image_read.proofs.Over.{as_reply, cases_listed}
use Rattle.image_read.proofs.Places.{at_map, read_at_page, some_read}
use Rattle.image_read.proofs.Read.{IsRead, are_listed, read_map}
use Rattle.image_read.proofs.ReadInfo.{read_info, info_fault_is}
use Rattle.image_read.proofs.ReadNumbers.{at_numbers, cause_of_place, read_numbers}
use Rattle.image_read.proofs.ReadData.{at_data, frame_found, read_data}
use Rattle.image_read.proofs.Next.{next_refused, goes_on}

-- a reader over the disk h, v that takes this page
pub record Over (h : Hardware) (v : disk.DiskImage) (check : IdentCheck) (own : Option Ident) (zones : List (ℕ × ℕ)) (r : Reading) (t : ℕ) (page origs zeros : List ℕ) : Type 0 where
  pub reading : HasReadPlaces h v check r t origs zeros
  pub ready : IsReady r origs zeros
  pub more : r.steps < place_count r.pages
  pub page_is : page ≡ disk.block v (place_block h v (place t))
  pub zones_is : zones ≡ h.zones
  pub compares : Compares h check own

more_places : (h : Hardware) (v : disk.DiskImage) (check : IdentCheck) (own : Option Ident) (zones : List (ℕ × ℕ)) (r : Reading) (t : ℕ) (page origs zeros : List ℕ) → Over h v check own zones r t page origs zeros → t < place_count (known_pages h v (pages_read t))
more_places h v check own zones r t page origs zeros over =
    let steps_is = over.reading.steps in
    let pages_is = ap place_count over.reading.pages in
    let more = over.more in
    omega arith

none_of_none : (o : Option Reply) (a b : Option ℕ) → o ≡ None → cond (is_none o) a b ≡ a
none_of_none o a b h = ap (λ x. cond (is_none x) a b) h

some_of_some : (o : Option Reply) (r : Reply) (a b : Option ℕ) → o ≡ Some r → cond (is_none o) a b ≡ b
some_of_some o r a b h = ap (λ x. cond (is_none x) a b) h

-- What was taken: the place was read, and whose page it is.
pub record WasTaken (h : Hardware) (v : disk.DiskImage) (check : IdentCheck) (t : ℕ) (frame : Option ℕ) (new : Reading) (origs zeros : List ℕ) : Type 0 where
  pub read : IsRead h v check new t (pages_read (t + 1)) origs zeros
  pub whose : frame ≡ frame_at h v (place t)

ok_is : (a b : Option ℕ) → ◌≡◌ {A = Result (Option ℕ) Cause} (Ok a) (Ok b) → a ≡ b
ok_is a b e = cc

zones_count : (h : Hardware) (zones : List (ℕ × ℕ)) → zones ≡ h.zones → length (numbers zones) ≡ valid_count h
zones_count h zones e = ap (λ (z : List (ℕ × ℕ)). length (numbers z)) e

no_frame : (h : Hardware) (v : disk.DiskImage) (k : ℕ) → k ≤ meta_in h v → frame_at h v (page_at k) ≡ None
no_frame h v k le = cond-false (ltb (meta_in h v) k) (slice_get (data_frames h v) (k - 1 - meta_in h v)) None (le-ltb (meta_in h v) k le)

pub was_taken : (h : Hardware) (v : disk.DiskImage) (check : IdentCheck) (own : Option Ident) (zones : List (ℕ × ℕ)) (r : Reading) (t : ℕ) (page origs zeros : List ℕ) (frame : Option ℕ) (new : Reading) (new_origs new_zeros : List ℕ) → Over h v check own zones r t page origs zeros → Takes own zones page r origs zeros (Ok frame) new new_origs new_zeros → WasTaken h v check t frame new new_origs new_zeros
was_taken h v check own zones r t page origs zeros frame new new_origs new_zeros over takes =
    let reading = over.reading in
    let steps_is = reading.steps in
    let lt = more_places h v check own zones r t page origs zeros over in
    let sets : (xs ys : List ℕ) → new_origs ≡ xs → new_zeros ≡ ys → (k : ℕ) → IsRead h v check new t k xs ys → IsRead h v check new t k new_origs new_zeros =
    λ xs ys a b k read. subst (λ (z : List ℕ). IsRead h v check new t k new_origs z) (sym b) (subst (λ (o : List ℕ). IsRead h v check new t k o ys) (sym a) read) in
    elim (cases_eq (t % 512) 0) [
      | inl at ↦
          let h' = takes.map (ap (λ (s : ℕ). s % 512) steps_is ∙ at) in
          record {
            read = sets origs zeros h'.2 h'.3 (pages_read (t + 1)) (read_map h v check r new t page origs zeros reading lt at over.page_is h'.1);
            whose = ok_is frame None h'.0 ∙ sym (ap (frame_at h v) (at_map t at));
          }
      | inr apart ↦ elim (cases_eq t 1) [
        | inl one ↦
            let h' = takes.info (steps_is ∙ one) in
            let at_one : HasReadPlaces h v check r 1 origs zeros = subst (λ (s : ℕ). HasReadPlaces h v check r s origs zeros) one reading in
            let page_one : page ≡ disk.block v (place_block h v (place 1)) = over.page_is ∙ ap (λ (s : ℕ). disk.block v (place_block h v (place s))) one in
            let read = read_info h v check own (length (numbers zones)) r new page origs zeros at_one page_one over.compares (zones_count h zones over.zones_is) h'.0.0 h'.0.2 in
            let k_is : 1 ≡ pages_read (1 + 1) = omega arith in
            let here : WasTaken h v check 1 frame new new_origs new_zeros = record {
              read = subst (λ (k : ℕ). IsRead h v check new 1 k new_origs new_zeros) k_is
                  (subst (λ (z : List ℕ). IsRead h v check new 1 1 new_origs z) (sym h'.2) (subst (λ (o : List ℕ). IsRead h v check new 1 1 o zeros) (sym h'.1) read));
              whose = h'.0.1 ∙ sym (no_frame h v 0 (omega arith));
            } in
            subst (λ (s : ℕ). WasTaken h v check s frame new new_origs new_zeros) (sym one) here
        | inr other ↦
            let apart' : r.steps % 512 ≡ 0 → ⊥ = λ e. apart (ap (λ (s : ℕ). s % 512) (sym steps_is) ∙ e) in
            let other' : r.steps ≡ 1 → ⊥ = λ e. other (sym steps_is ∙ e) in
            let some = some_read t (omega arith) in
            elim (cases_listed r.listed) [
              | inl none ↦
                  let h' = takes.numbers apart' other' none in
                  let place_is = at_numbers h v check r t page origs zeros reading apart some none over.page_is in
                  let more = place_is.more in
                  record {
                    read = subst (λ (k : ℕ). IsRead h v check new t k new_origs new_zeros) (sym (read_at_page t apart))
                        (read_numbers h v check zones r new t page origs zeros new_origs new_zeros reading over.ready lt apart some none over.page_is over.zones_is h'.0 h'.2 h'.3 h'.4);
                    whose = h'.1 ∙ sym (ap (frame_at h v) place_is.place_is ∙ no_frame h v (suc (pages_read t - 1)) (omega arith));
                  }
              | inr listed ↦
                  let h' = takes.saved_page listed.0 apart' other' listed.1 in
                  let at = at_data h v check r t listed.0 origs zeros reading lt apart some listed.1 in
                  record {
                    read = subst (λ (k : ℕ). IsRead h v check new t k new_origs new_zeros) (sym (read_at_page t apart))
                        (sets origs zeros h'.2 h'.3 (pages_read t + 1) (read_data h v check r new t listed.0 origs zeros reading at lt apart listed.1 h'.1));
                    whose = ok_is frame (first_from (with_data origs zeros) r.frame) h'.0 ∙ frame_found h v check r t origs zeros at apart;
                  }
            ]
      ]
    ]

-- What was refused: its cause, and nothing is listed by it nor was before.
refused_here : (h : Hardware) (v : disk.DiskImage) (check : IdentCheck) (own : Option Ident) (zones : List (ℕ × ℕ)) (r : Reading) (t : ℕ) (page origs zeros : List ℕ) (cause : Cause) (new : Reading) (new_origs new_zeros : List ℕ) → Over h v check own zones r t page origs zeros → Takes own zones page r origs zeros (Err cause) new new_origs new_zeros → (read_cause h v check (place t) ≡ Some (reply_of cause)) × (new.listed ≡ r.listed) × (r.listed ≡ None)
refused_here h v check own zones r t page origs zeros cause new new_origs new_zeros over takes =
    let reading = over.reading in
    let steps_is = reading.steps in
    let lt = more_places h v check own zones r t page origs zeros over in
    elim (cases_eq (t % 512) 0) [
      | inl at ↦ let h' = takes.map (ap (λ (s : ℕ). s % 512) steps_is ∙ at) in absurd (let no = h'.0 in cc)
      | inr apart ↦ elim (cases_eq t 1) [
        | inl one ↦
            let h' = takes.info (steps_is ∙ one) in
            let page_one : page ≡ disk.block v (place_block h v (place 1)) = over.page_is ∙ ap (λ (s : ℕ). disk.block v (place_block h v (place s))) one in
            let info_is : info_of page ≡ info_in h v = ap info_of page_one in (
              ap (λ (s : ℕ). read_cause h v check (place s)) one
                  ∙ sym (info_fault_is h v check own (length (numbers zones)) r.format (info_of page) over.compares (zones_count h zones over.zones_is) reading.area.same_format info_is)
                  ∙ ap as_reply h'.0.0,
              h'.0.1,
              reading.listed ∙ ap (λ (s : ℕ). told h v (pages_read s)) one,
            )
        | inr other ↦
            let apart' : r.steps % 512 ≡ 0 → ⊥ = λ e. apart (ap (λ (s : ℕ). s % 512) (sym steps_is) ∙ e) in
            let other' : r.steps ≡ 1 → ⊥ = λ e. other (sym steps_is ∙ e) in
            let some = some_read t (omega arith) in
            elim (cases_listed r.listed) [
              | inl none ↦
                  let h' = takes.numbers apart' other' none in
                  let place_is = at_numbers h v check r t page origs zeros reading apart some none over.page_is in
                  (cause_of_place h v check zones r t (pages_read t - 1) page zeros place_is over.zones_is ∙ ap as_reply h'.0, h'.1, none)
              | inr listed ↦ let h' = takes.saved_page listed.0 apart' other' listed.1 in absurd (let no = h'.0 in cc)
            ]
      ]
    ]

pub gives_refused : (h : Hardware) (v : disk.DiskImage) (check : IdentCheck) (own : Option Ident) (zones : List (ℕ × ℕ)) (r : Reading) (t : ℕ) (page origs zeros : List ℕ) (cause : Cause) (new : Reading) (new_origs new_zeros : List ℕ) → Over h v check own zones r t page origs zeros → Takes own zones page r origs zeros (Err cause) new new_origs new_zeros → Gives h v check t (Err cause) new new_origs new_zeros
gives_refused h v check own zones r t page origs zeros cause new new_origs new_zeros over takes =
    let both = refused_here h v check own zones r t page origs zeros cause new new_origs new_zeros over takes in (
      ap (λ o. or_else o (next_cause h v t)) both.0,
      both.1 ∙ over.reading.listed ∙ sym (some_of_some (read_cause h v check (place t)) (reply_of cause) (told h v (pages_read (t + 1))) (told h v (pages_read t)) both.0),
      λ n listed. absurd (let no : Some n ≡ None = sym listed ∙ both.1 ∙ both.2 in cc),
    )

pub gives_next_refused : (h : Hardware) (v : disk.DiskImage) (check : IdentCheck) (t : ℕ) (frame : Option ℕ) (mid after : Reading) (origs zeros : List ℕ) (cause : Cause) → WasTaken h v check t frame mid origs zeros → Advances mid (Err cause) after → Gives h v check t (Err cause) after origs zeros
gives_next_refused h v check t frame mid after origs zeros cause taken on = (
  next_refused h v check mid after t origs zeros cause taken.read on,
  on.2 ∙ taken.read.listed ∙ sym (none_of_none (read_cause h v check (place t)) (told h v (pages_read (t + 1))) (told h v (pages_read t)) taken.read.cause),
  λ n listed. are_listed h v check mid t (pages_read (t + 1)) n origs zeros taken.read (sym on.2 ∙ listed),
)

pub gives_on : (h : Hardware) (v : disk.DiskImage) (check : IdentCheck) (t : ℕ) (frame : Option ℕ) (mid after : Reading) (origs zeros : List ℕ) (x : Unit {0}) → WasTaken h v check t frame mid origs zeros → Advances mid (Ok x) after → Gives h v check t (Ok frame) after origs zeros
gives_on h v check t frame mid after origs zeros x taken on =
    let next = goes_on h v check mid after t origs zeros x taken.read on in
    (next.cause, next.reading, taken.whose)
