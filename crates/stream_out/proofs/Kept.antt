-- What is kept of a stream: its pages, and what is left after its cursor.
use Rattle.std.proofs.Common.{◌≡◌, ◌≤◌, ◌<◌, ◌⊎◌, inl, inr, ℕ, ◌+◌, ◌-◌, List, [], length, get_or, map, sym, ap, ◌∙◌, subst, ⊎_elim, arith}
use Rattle.std.proofs.lemmas.Bool.{cases_lt}
use Rattle.std.proofs.lemmas.List.{get_or-map, length-map}
use Rattle.definitions.specs.NumberPages.{meta_of}
use Rattle.definitions.specs.Tables.{frame}
use Rattle.frame_sets.specs.Places.{count_below}
use Rattle.plain_machine.specs.Image.{stream_of}
use Rattle.stream_out.specs.Bytes.{plain_image}
use Rattle.stream_out.specs.Cursor.{IsPart, left_behind}
use Rattle.stream_out.specs.Kept.{IsKept}
use Rattle.stream_out.specs.Pages.{stream_over, IsHead}
use Rattle.stream_out.specs.declared.cursor.Cursor.{Cursor}
use Rattle.stream_out.specs.declared.stream.StreamOut.TheInside.{Inside}
use Rattle.stream_out.proofs.Streams.{stream_is, length-stream_over, data_page_at, nothing_left}

-- a part ends in its page or before the next one
pub moved : (page : List ℕ) (old new : Cursor) (before after : List ℕ) (count : ℕ) → IsPart page old new before after count → (new.at < 4096) × ((new.page ≡ old.page) ⊎ (new.page ≡ old.page + 1))
moved page old new before after count part = elim (cases_lt (old.at + count) 4096) [
  | inl below ↦ let is = part.same_page below in let at = is.1 in (omega arith, inl is.0)
  | inr above ↦ let fits = part.of_page in let is = part.next_page (omega arith) in let at = is.1 in (omega arith, inr is.0)
]

module _ (s : Inside) (kept : IsKept s) where
  abbrev pub pages : List (List ℕ)
  pages = stream_of (plain_image s.hw.now s.frames.now)

  abbrev members : List ℕ
  members = s.saveable.now.members

  abbrev saved : List (List ℕ)
  saved = map (frame s.frames.now) members

  abbrev heads : ℕ
  heads = meta_of (length members) + 1

  pages_are : pages ≡ stream_over s.hw.now members saved
  pages_are =
      stream_is s.hw.now s.frames.now
      ∙ ap (λ (ps : List ℕ). stream_over s.hw.now ps (map (frame s.frames.now) ps)) (sym kept.saveable.members)

  pub length_pages : length pages ≡ heads + length members
  length_pages = ap length pages_are ∙ length-stream_over s.hw.now members saved ∙ ap (λ (n : ℕ). heads + n) (length-map members (frame s.frames.now))

  pub over : s.cursor.page ≡ heads + length members → left_behind pages s.cursor ≡ []
  over end = let size = length_pages in nothing_left pages s.cursor (omega arith)

  -- a part of a page of the stream
  pub head_part : (new : Cursor) (before after : List ℕ) (count : ℕ) → ((data' : List (List ℕ)) → IsPart (get_or (stream_over s.hw.now members data') s.cursor.page []) s.cursor new before after count) → IsPart (get_or pages s.cursor.page []) s.cursor new before after count
  head_part new before after count part = subst (λ (ps : List (List ℕ)). IsPart (get_or ps s.cursor.page []) s.cursor new before after count) (sym pages_are) (part saved)

  data_page : heads ≤ s.cursor.page → s.cursor.page < heads + length members → get_or pages s.cursor.page [] ≡ frame s.frames.now (get_or members (count_below members s.cursor.from) 0)
  data_page le lt =
      let from = kept.from in
      ap (λ (ps : List (List ℕ)). get_or ps s.cursor.page []) pages_are
      ∙ data_page_at s.hw.now members saved s.cursor.page le
      ∙ get_or-map (frame s.frames.now) members (s.cursor.page - heads) 0 [] (omega arith)
      ∙ ap (λ (k : ℕ). frame s.frames.now (get_or members k 0)) (sym from)

  pub data_part : (new : Cursor) (before after : List ℕ) (count : ℕ) → heads ≤ s.cursor.page → s.cursor.page < heads + length members → IsPart (frame s.frames.now (get_or members (count_below members s.cursor.from) 0)) s.cursor new before after count →
      IsPart (get_or pages s.cursor.page []) s.cursor new before after count
  data_part new before after count le lt part = subst (λ (p : List ℕ). IsPart p s.cursor new before after count) (sym (data_page le lt)) part

  -- what is kept of the stream after a part of a page

  within : s.cursor.page < heads + length members → s.cursor.page < length pages
  within lt = let size = length_pages in omega arith

  pub head_within : s.cursor.page < heads → s.cursor.page < length pages
  head_within lt = within (omega arith)

  pub data_within : s.cursor.page < heads + length members → s.cursor.page < length pages
  data_within lt = within lt

  pub kept_in_head : (new : Cursor) (head : List ℕ) (before after : List ℕ) (count : ℕ) → s.cursor.page < heads → IsPart (get_or pages s.cursor.page []) s.cursor new before after count →
      (0 < new.at → IsHead s.hw.now members new.page head) → new.from ≡ s.cursor.from → IsKept (record s { cursor = new; head = head })
  kept_in_head new head before after count lt part made from =
      let is = moved (get_or pages s.cursor.page []) s.cursor new before after count part in
      let page : new.page ≤ heads = ⊎_elim (λ same. omega arith) (λ next. omega arith) is.1 in
      let none = kept.from in
      record {
        frames = kept.frames;
        saveable = kept.saveable;
        page = omega arith;
        at = is.0;
        from = ap (count_below members) from ∙ omega arith;
        head = λ some _. made some;
      }

  pub kept_in_data : (new : Cursor) (before after : List ℕ) (count : ℕ) → heads ≤ s.cursor.page → s.cursor.page < heads + length members → IsPart (get_or pages s.cursor.page []) s.cursor new before after count →
      count_below members new.from ≡ count_below members s.cursor.from + (new.page - s.cursor.page) → IsKept (record s { cursor = new })
  kept_in_data new before after count le lt part from =
      let is = moved (get_or pages s.cursor.page []) s.cursor new before after count part in
      let passed = kept.from in
      let page : (s.cursor.page ≤ new.page) × (new.page ≤ s.cursor.page + 1) = ⊎_elim (λ same. (omega arith, omega arith)) (λ next. (omega arith, omega arith)) is.1 in
      record {
        frames = kept.frames;
        saveable = kept.saveable;
        page = omega arith;
        at = is.0;
        from = omega arith;
        head = λ some in_head. absurd (omega arith);
      }
