use Rattle.std.proofs.Common.{◌≡◌, ◌+◌, ◌*◌, ◌/◌, ◌%◌, ◌<◌, ℕ, List, length, arith, ap, ap₂, ◌∙◌, refl, slice_index, get_or}
use Rattle.std.proofs.lemmas.Option.{slice_get-get_or}
use Rattle.definitions.specs.Bytes.{number_at}
use Rattle.definitions.specs.Moves.{Entry}
use Rattle.placement.specs.Listed.{Listed, IsEntry, next_frame, part}
use Rattle.placement.proofs.ListPages.{page_of_entry, from_of_entry, to_of_entry, count_of_entry, get_or-part, within-part, All-part}
use Rattle.placement.proofs.list.RestoreList.entry.Goals as goal

pub returns : goal.returns
returns c = λ entries h.
    let j = c.args.j in
    let i = j / 170 in
    let k = j % 170 in
    let listed = c.args.self.now in
    let memory = c.args.frames.now in
    let p = c.place-p.result.0 in
    let es = part entries i in
    let next = next_frame listed.frames i in
    let len = h.len in
    let j_lt : j < listed.len = c.requires.listed in
    let j_within : j < length entries = omega arith in
    let p_is : p ≡ slice_index listed.frames (j / 170) = c.place-p.ensures.frame ∙ ap (λ (l : Listed). slice_index l.frames (j / 170)) c.self.view_is in
    let page = page_of_entry memory listed entries j p j_lt p_is h in
    let inside = within-part entries j j_within in
    let fits = All-part IsEntry entries i h.fits in
    let entry_is = get_or-part entries j in
    let from_is : c.u32_at.result ≡ (get_or entries j (0, 0, 0)).0 =
    c.u32_at.ensures ∙ ap₂ (λ (bytes : List ℕ) (n : ℕ). number_at 4 bytes (8 * n)) page c.place-p.ensures.word
    ∙ from_of_entry next es k inside fits ∙ ap (λ (e : Entry). e.0) entry_is in
    let to_is : c.u32_at-2.result ≡ (get_or entries j (0, 0, 0)).1 =
    c.u32_at-2.ensures ∙ ap₂ (λ (bytes : List ℕ) (n : ℕ). number_at 4 bytes (8 * n + 8)) page c.place-p.ensures.word
    ∙ to_of_entry next es k inside fits ∙ ap (λ (e : Entry). e.1) entry_is in
    let count_is : c.u32_at-3.result ≡ (get_or entries j (0, 0, 0)).2 =
    c.u32_at-3.ensures ∙ ap₂ (λ (bytes : List ℕ) (n : ℕ). number_at 4 bytes (8 * n + 16)) page c.place-p.ensures.word
    ∙ count_of_entry next es k inside fits ∙ ap (λ (e : Entry). e.2) entry_is in
    rw (slice_get-get_or entries j (0, 0, 0) j_within, from_is, to_is, count_is) refl
