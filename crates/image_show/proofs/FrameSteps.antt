-- A loop that has come to the end of a history, and has printed the runs of its page frames that have ended.
use Rattle.std.proofs.Common.{◌≡◌, ℕ, ◌+◌, ◌-◌, ◌*◌, ◌<◌, ◌≤◌, ◌⊎◌, List, [], ◌∷◌, ◌++◌, length, map, take, get_or, min, zero, suc, Bool, true, false, Option, Some, None, refl, sym, ap, ◌∙◌, subst, inl, inr, arith, append-nil, append_assoc, length-append}
use Rattle.std.proofs.lemmas.Bool.{cases_eq}
use Rattle.std.proofs.lemmas.Grind.{flat_map-append}
use Rattle.std.proofs.lemmas.List.{map-append, take-map, take-take, take_min, take_all, length-take-le}
use Rattle.std.proofs.lemmas.List.FromFn.{get_or-map-range_with_len, length-map-range_with_len}
use Rattle.std.specs.List.{flat_map}
use Rattle.definitions.specs.Bytes.{number_at, word}
use Rattle.definitions.specs.Disk.{Content}
use Rattle.definitions.specs.FreeRuns.{runs_of}
use Rattle.byte_streams.proofs.Joined.{map-take_more}
use Rattle.page_core.specs.declared.format.Format.{Format}
use Rattle.image_walk.specs.Names.{Name, AreReadFrom, IsReading}
use Rattle.image_walk.specs.declared.limits.Limits.{Limits}
use Rattle.image_check.specs.Numbers.{frame_of}
use Rattle.image_show.specs.Reads.{name_of_part, IsPart, Reads, ReadsOn}
use Rattle.image_show.specs.Runs.{count_of, list_of, IsUpTo}
use Rattle.image_show.specs.Told.{frame_run, frames_in, numbers_in, pages_in, words_of, HasNumbers, IsEnd}
use Rattle.image_show.specs.declared.facts.fact.Fact.{Fact}
use Rattle.image_show.specs.declared.facts.part.Part.{Part}
use Rattle.image_show.specs.declared.facts.part.Part.TheVariants as part
use Rattle.image_show.specs.declared.facts.reading.Reading.{Reading}
use Rattle.image_show.specs.Parts.{left_after, numbers_in_part, rest_of, RunsOn}
use Rattle.image_show.specs.Shown.{but_last, frame_facts, ShowsFrames}
use Rattle.image_show.specs.Forms.{Puts, PutsFront, Style, Written}
use Rattle.image_show.proofs.BlockSteps.{all_but_last, end_earlier, Adds}
use Rattle.image_show.proofs.Putting.{front_then, puts_none, whole_then}

-- The numbers of a page, one after another.

pub record NumbersSoFar (style : Style) (old last : Option (ℕ × ℕ)) (numbers : List ℕ) (before now : Written) : Type 0 where
  pub more : List (ℕ × ℕ)
  pub runs : RunsOn old last numbers more
  pub taken : Puts style (map frame_run more) before now

pub numbers_start : (style : Style) (last : Option (ℕ × ℕ)) (now : Written) → NumbersSoFar style last last [] now now
numbers_start style last now = record {
  more = [];
  runs = λ numbers ended u. subst (λ (ns : List ℕ). IsUpTo ns last (ended ++ [])) (sym (append-nil numbers)) (subst (λ (rs : List (ℕ × ℕ)). IsUpTo numbers last rs) (sym (append-nil ended)) u);
  taken = puts_none style now;
}

adds_more : (old mid new e : Option (ℕ × ℕ)) (ns : List ℕ) (n : ℕ) (more : List (ℕ × ℕ)) → RunsOn old mid ns more → Adds mid n new e → RunsOn old new (ns ++ n ∷ []) (more ++ list_of e)
adds_more old mid new e ns n more on adds = λ numbers ended u.
    subst (λ (xs : List ℕ). IsUpTo xs new (ended ++ (more ++ list_of e))) (append_assoc numbers ns (n ∷ []))
    (subst (λ (rs : List (ℕ × ℕ)). IsUpTo ((numbers ++ ns) ++ n ∷ []) new rs) (append_assoc ended more (list_of e)) (adds (numbers ++ ns) (ended ++ more) (on numbers ended u)))

runs_text : (more : List (ℕ × ℕ)) (e : Option (ℕ × ℕ)) → map frame_run more ++ map frame_run (list_of e) ≡ map frame_run (more ++ list_of e)
runs_text more e = sym (map-append frame_run more (list_of e))

pub numbers_more : (style : Style) (old mid new e : Option (ℕ × ℕ)) (ns : List ℕ) (n : ℕ) (before then now : Written) → NumbersSoFar style old mid ns before then → Adds mid n new e → Puts style (map frame_run (list_of e)) then now → NumbersSoFar style old new (ns ++ n ∷ []) before now
numbers_more style old mid new e ns n before then now s adds takes = record {
  more = s.more ++ list_of e;
  runs = adds_more old mid new e ns n s.more s.runs adds;
  taken = subst (λ (fs : List Fact). Puts style fs before now) (runs_text s.more e) (whole_then style (map frame_run s.more) (map frame_run (list_of e)) before then now s.taken takes);
}

pub numbers_cut : (style : Style) (old mid new e : Option (ℕ × ℕ)) (ns : List ℕ) (n : ℕ) (before then now : Written) → NumbersSoFar style old mid ns before then → Adds mid n new e → PutsFront style (map frame_run (list_of e)) then now
    → (more : List (ℕ × ℕ)) × (RunsOn old new (ns ++ n ∷ []) more × PutsFront style (map frame_run more) before now)
numbers_cut style old mid new e ns n before then now s adds takes = (
  s.more ++ list_of e,
  (
    adds_more old mid new e ns n s.more s.runs adds,
    subst (λ (fs : List Fact). PutsFront style fs before now) (runs_text s.more e) (front_then style (map frame_run s.more) (map frame_run (list_of e)) before then now s.taken takes),
  ),
)

length-words : (page : List ℕ) → length (words_of page) ≡ 512
unfolding words_of
length-words page = length-map-range_with_len (word page) 0 512

word-of : (page : List ℕ) (i : ℕ) → i < 512 → get_or (words_of page) i 0 ≡ word page i
unfolding words_of
word-of page i lt = get_or-map-range_with_len (word page) 0 512 i i 0 lt (omega arith)

pub one_word : (f : ℕ → ℕ) (page : List ℕ) (i : ℕ) → i < 512 → map f (take (i + 1) (words_of page)) ≡ map f (take i (words_of page)) ++ f (word page i) ∷ []
one_word f page i lt =
    map-take_more f (words_of page) i 0 (omega (arith, length-words page))
    ∙ ap (λ w. map f (take i (words_of page)) ++ f w ∷ []) (word-of page i lt)

-- The numbers of a part.

abbrev pub numbers_left : List (List ℕ) → Option ℕ
numbers_left [] = None
numbers_left (info ∷ rest) = Some (number_at 8 info 416 - 512 * length rest)

take-none : (n : ℕ) (xs : List ℕ) → xs ≡ [] → take n xs ≡ xs
take-none zero [] e = refl
take-none (suc n) [] e = refl
take-none n (x ∷ xs) e = cc

take-both : (n : ℕ) (xs ys : List ℕ) → take n (xs ++ ys) ≡ take n xs ++ take (n - length xs) ys
take-both n [] ys =
    let all : n - 0 ≡ n = omega arith in
    ap (λ m. take m ys) (sym all) ∙ ap (λ (zs : List ℕ). zs ++ take (n - 0) ys) (sym (take-none n [] refl))
take-both zero (x ∷ xs) ys =
    let none : zero - length (x ∷ xs) ≡ 0 = omega arith in
    ap (λ m. take m ys) (sym none)
take-both (suc n) (x ∷ xs) ys =
    let less : n - length xs ≡ suc n - length (x ∷ xs) = omega arith in
    ap (λ (zs : List ℕ). x ∷ zs) (take-both n xs ys ∙ ap (λ m. take n xs ++ take m ys) less)

length-all_words : (rest : List (List ℕ)) → length (flat_map words_of rest) ≡ 512 * length rest
length-all_words [] = refl
length-all_words (page ∷ rest) =
    omega (arith, length-all_words rest, length-words page, length-append (words_of page) (flat_map words_of rest))

page_more : (n : ℕ) (rest : List (List ℕ)) (page : List ℕ) → take n (flat_map words_of (rest ++ page ∷ [])) ≡ take n (flat_map words_of rest) ++ take (min (n - 512 * length rest) 512) (words_of page)
page_more n rest page =
    let ws : List ℕ = flat_map words_of rest in
    let left : n - length ws ≡ n - 512 * length rest = ap (λ m. n - m) (length-all_words rest) in
    ap (take n) (flat_map-append words_of rest (page ∷ []) ∙ ap (λ (zs : List ℕ). ws ++ zs) (append-nil (words_of page)))
    ∙ take-both n ws (words_of page)
    ∙ ap (λ m. take n ws ++ take m (words_of page)) left
    ∙ ap (λ (zs : List ℕ). take n ws ++ zs) (
    sym (take_min (n - 512 * length rest) (words_of page))
    ∙ ap (λ m. take (min (n - 512 * length rest) m) (words_of page)) (length-words page)
    )

pages_more : (ps : List (List ℕ)) (page : List ℕ) (left : Option ℕ) → 0 < length ps → left ≡ numbers_left ps → numbers_in (ps ++ page ∷ []) ≡ numbers_in ps ++ take (min (rest_of left) 512) (words_of page)
unfolding numbers_in
pages_more [] page left lt e = absurd (omega arith)
pages_more (info ∷ rest) page left lt e =
    page_more (number_at 8 info 416) rest page
    ∙ ap (λ (o : Option ℕ). take (number_at 8 info 416) (flat_map words_of rest) ++ take (min (rest_of o) 512) (words_of page)) (sym e)

info_numbers : (ps : List (List ℕ)) (page : List ℕ) → ps ≡ [] → numbers_in (ps ++ page ∷ []) ≡ []
unfolding numbers_in
info_numbers ps page e = ap (λ (xs : List (List ℕ)). numbers_in (xs ++ page ∷ [])) e ∙ take-none (number_at 8 page 416) [] refl

no_numbers : (ps : List (List ℕ)) → ps ≡ [] → numbers_in ps ≡ []
unfolding numbers_in
no_numbers ps e = ap numbers_in e

pub frames_more : (format : Format) (h : List Name) (p : Part) (page : List ℕ) (left : Option ℕ) → IsPart h p → left ≡ numbers_left (pages_in h)
    → frames_in format (name_of_part p page ∷ h) ≡ frames_in format h ++ map (frame_of format) (take (numbers_in_part left p) (words_of page))
frames_more format h (part.Map m b) page left place e = sym (append-nil (frames_in format h))
frames_more format h (part.Info b) page left place e =
    ap (map (frame_of format)) (info_numbers (pages_in h) page place)
    ∙ ap (λ (ns : List ℕ). map (frame_of format) ns ++ []) (sym (no_numbers (pages_in h) place))
frames_more format h (part.Page b) page left place e =
    ap (map (frame_of format)) (pages_more (pages_in h) page left place e)
    ∙ map-append (frame_of format) (numbers_in (pages_in h)) (take (min (rest_of left) 512) (words_of page))

fewer_left : (ps : List (List ℕ)) (page : List ℕ) (left : Option ℕ) → 0 < length ps → left ≡ numbers_left ps → Some (rest_of left - 512) ≡ numbers_left (ps ++ page ∷ [])
fewer_left [] page left lt e = absurd (omega arith)
fewer_left (info ∷ rest) page left lt e =
    let here : rest_of left ≡ number_at 8 info 416 - 512 * length rest = ap rest_of e in
    ap Some (omega (arith, here, length-append rest (page ∷ [])))

left_more : (h : List Name) (p : Part) (page : List ℕ) (left : Option ℕ) → IsPart h p → left ≡ numbers_left (pages_in h) → left_after left p page ≡ numbers_left (pages_in (name_of_part p page ∷ h))
left_more h (part.Map m b) page left place e = e
left_more h (part.Info b) page left place e =
    let all : number_at 8 page 416 ≡ number_at 8 page 416 - 512 * 0 = omega arith in
    ap Some all ∙ ap (λ (ps : List (List ℕ)). numbers_left (ps ++ page ∷ [])) (sym place)
left_more h (part.Page b) page left place e = fewer_left (pages_in h) page left place e

-- no number is left
all_numbers : (ps : List (List ℕ)) → Some 0 ≡ numbers_left ps → HasNumbers ps
unfolding numbers_in
all_numbers [] e = absurd (let none : Some 0 ≡ None = e in cc)
all_numbers (info ∷ rest) e =
    let left : 0 ≡ number_at 8 info 416 - 512 * length rest = some_same e in
    length-take-le (number_at 8 info 416) (flat_map words_of rest) (omega (arith, left, length-all_words rest)) where
      some_same : {x y : ℕ} → Some x ≡ Some y → x ≡ y
      some_same f = cc

pub record FramesSoFar (style : Style) (l : Limits) (first : ℕ) (content : Option Content) (before now : ℕ) (format : Format) (old new : Written) (r : Reading) (last : Option (ℕ × ℕ)) (left : Option ℕ) : Type 0 where
  pub names : List Name
  pub limits : r.walker.limits ≡ l
  pub rises : before ≤ now
  pub reads : Reads first r names
  pub pages : AreReadFrom content names
  pub ended : List (ℕ × ℕ)
  pub runs : IsUpTo (frames_in format names) last ended
  pub is_left : left ≡ numbers_left (pages_in names)
  pub room : count_of last + rest_of left < 18446744073709551616
  pub none : left ≡ None → count_of last ≡ 0
  pub taken : Puts style (map frame_run ended) old new

pub frames_start : (style : Style) (first : ℕ) (content : Option Content) (before : ℕ) (format : Format) (old : Written) (r : Reading) (last : Option (ℕ × ℕ)) → Reads first r [] → IsUpTo [] last [] → count_of last ≡ 0 → FramesSoFar style r.walker.limits first content before before format old old r last None
unfolding numbers_in
frames_start style first content before format old r last reads runs zero_of = record {
  names = [];
  limits = refl;
  rises = omega arith;
  reads = reads;
  pages = tt;
  ended = [];
  runs = runs;
  is_left = refl;
  room = omega (arith, zero_of);
  none = λ e. zero_of;
  taken = puts_none style old;
}

room_more : (old left : Option ℕ) (p : Part) (page : List ℕ) (count new n : ℕ) (h : List Name) → IsPart h p → old ≡ numbers_left (pages_in h) → (old ≡ None → count ≡ 0) → left ≡ left_after old p page → rest_of left < 18446744073709551616 → count + rest_of old < 18446744073709551616 → n ≡ numbers_in_part old p → n ≤ rest_of old → n ≤ 512 → new ≤ count + n → new + rest_of left < 18446744073709551616
room_more old left (part.Map m b) page count new n h place is none e fits room c enough few le =
    let same : rest_of left ≡ rest_of old = ap rest_of e in
    let none_here : n ≡ 0 = c in
    omega (arith, same, none_here, room, le)
room_more old left (part.Info b) page count new n h place is none e fits room c enough few le =
    let first : old ≡ None = is ∙ ap numbers_left place in
    let none_here : n ≡ 0 = c in
    omega (arith, none first, fits, none_here, le)
room_more old left (part.Page b) page count new n h place is none e fits room c enough few le =
    let fewer : rest_of left ≡ rest_of old - 512 = ap rest_of e in
    omega (arith, fewer, room, enough, few, le)

none_more : (old left : Option ℕ) (p : Part) (page : List ℕ) (count new n : ℕ) → (old ≡ None → count ≡ 0) → left ≡ left_after old p page → n ≡ numbers_in_part old p → new ≤ count + n → left ≡ None → new ≡ 0
none_more old left (part.Map m b) page count new n none e c le is =
    let none_here : n ≡ 0 = c in
    omega (arith, none (sym e ∙ is), none_here, le)
none_more old left (part.Info b) page count new n none e c le is = absurd (let f : Some (number_at 8 page 416) ≡ None = sym e ∙ is in cc)
none_more old left (part.Page b) page count new n none e c le is = absurd (let f : Some (rest_of old - 512) ≡ None = sym e ∙ is in cc)

module _ (style : Style) (l : Limits) (first : ℕ) (content : Option Content) (before then now : ℕ) (format : Format) (old mid new : Written) (r s : Reading) (last next : Option (ℕ × ℕ)) (left : Option ℕ) (p : Part) (page : List ℕ) where
  pub frames_step : (b : FramesSoFar style l first content before then format old mid r last left) (left' : Option ℕ) (n : ℕ) → then ≤ now → s.walker.limits ≡ r.walker.limits → ReadsOn first content then now b.names r s p page
      → n ≡ numbers_in_part left p → n ≤ rest_of left → n ≤ 512 → left' ≡ left_after left p page → rest_of left' < 18446744073709551616 → count_of next ≤ count_of last + n
      → (more : List (ℕ × ℕ)) × (RunsOn last next (map (frame_of format) (take n (words_of page))) more × Puts style (map frame_run more) mid new)
      → FramesSoFar style l first content before now format old new s next left'
  frames_step b left' n le limits on c enough few e fits count (more, (runs, takes)) = record {
    names = name_of_part p page ∷ b.names;
    limits = limits ∙ b.limits;
    rises = omega (arith, b.rises);
    reads = on.reads;
    pages = (b.pages, on.seen.page);
    ended = b.ended ++ more;
    runs =
        subst (λ (ns : List ℕ). IsUpTo ns next (b.ended ++ more))
        (ap (λ m. frames_in format b.names ++ map (frame_of format) (take m (words_of page))) c ∙ sym (frames_more format b.names p page left on.place b.is_left))
        (runs (frames_in format b.names) b.ended b.runs);
    is_left = e ∙ left_more b.names p page left on.place b.is_left;
    room = room_more left left' p page (count_of last) (count_of next) n b.names on.place b.is_left b.none e fits b.room c enough few count;
    none = none_more left left' p page (count_of last) (count_of next) n b.none e c count;
    taken = subst (λ (fs : List Fact). Puts style fs old new) (sym (map-append frame_run b.ended more))
        (whole_then style (map frame_run b.ended) (map frame_run more) old mid new b.taken takes);
  }

  -- a write has failed among the numbers of a page
  pub frames_cut : (b : FramesSoFar style l first content before then format old mid r last left) (n : ℕ) → s.walker.limits ≡ r.walker.limits → ReadsOn first content then now b.names r s p page → n ≡ numbers_in_part left p
      → (m : ℕ) × ((m ≤ n) × ((more : List (ℕ × ℕ)) × (RunsOn last next (map (frame_of format) (take m (words_of page))) more × PutsFront style (map frame_run more) mid new)))
      → (facts : List Fact) × (ShowsFrames false l first content before now format facts × PutsFront style facts old new)
  frames_cut b n limits on c (m, (le, (more, (runs, takes)))) =
      let names : List Name = name_of_part p page ∷ b.names in
      let so_far : List ℕ = frames_in format b.names in
      let here : List ℕ = map (frame_of format) (take m (words_of page)) in
      let whole : frames_in format names ≡ so_far ++ map (frame_of format) (take n (words_of page)) =
      frames_more format b.names p page left on.place b.is_left ∙ ap (λ k. so_far ++ map (frame_of format) (take k (words_of page))) (sym c) in
      let rest_size : (length so_far + m) - length so_far ≡ m = omega arith in
      let shown : take (length so_far + m) (frames_in format names) ≡ so_far ++ here =
      ap (take (length so_far + m)) whole
      ∙ take-both (length so_far + m) so_far (map (frame_of format) (take n (words_of page)))
      ∙ ap (λ (xs : List ℕ). xs ++ take ((length so_far + m) - length so_far) (map (frame_of format) (take n (words_of page)))) (take_all (length so_far + m) so_far (omega arith))
      ∙ ap (λ k. so_far ++ take k (map (frame_of format) (take n (words_of page)))) rest_size
      ∙ ap (λ (xs : List ℕ). so_far ++ xs) (take-map (frame_of format) m (take n (words_of page)) ∙ ap (map (frame_of format)) (take-take m n (words_of page) le)) in
      let ended : frame_facts false (length so_far + m) (frames_in format names) ≡ map frame_run (b.ended ++ more) =
      ap (λ (ns : List ℕ). map frame_run (but_last (runs_of ns))) shown
      ∙ ap (map frame_run) (all_but_last (so_far ++ here) next (b.ended ++ more) (runs so_far b.ended b.runs)) in (
        frame_facts false (length so_far + m) (frames_in format names),
        (
          record {
            names = names;
            front = record {
              reading = subst (λ (x : Limits). IsReading x first names) (limits ∙ b.limits) on.reads.follows.reading;
              told = on.reads.told;
              pages = (b.pages, on.seen.page);
            };
            end = λ f. absurd (let g : false ≡ true = f in cc);
            count = length so_far + m;
            says = refl;
          },
          subst (λ (fs : List Fact). PutsFront style fs old new) (sym (map-append frame_run b.ended more) ∙ sym ended)
              (front_then style (map frame_run b.ended) (map frame_run more) old mid new b.taken takes),
        ),
      )

module _ (style : Style) (l : Limits) (first : ℕ) (content : Option Content) (before then now : ℕ) (format : Format) (old mid : Written) (r : Reading) (last : Option (ℕ × ℕ)) (left : Option ℕ) where
  is_zero : (o : Option ℕ) → (o ≡ Some 0) ⊎ (o ≡ Some 0 → ⊥)
  is_zero None = inr (λ e. cc)
  is_zero (Some n) = elim (cases_eq n 0) [ inl e ↦ inl (ap Some e) | inr ne ↦ inr (λ e. ne (let f : Some n ≡ Some 0 = e in cc)) ]

  shows_all : (b : FramesSoFar style l first content before then format old mid r last left) → ((left ≡ Some 0 → ⊥) → IsEnd r.walker.limits first content then now b.names) → ShowsFrames true l first content before now format (frame_facts true 0 (frames_in format b.names))
  shows_all b end = record {
    names = b.names;
    front = record {
      reading = subst (λ (x : Limits). IsReading x first b.names) b.limits b.reads.follows.reading;
      told = b.reads.told;
      pages = b.pages;
    };
    end = λ e. elim (is_zero left) [
      | inl zero_left ↦ inr (all_numbers (pages_in b.names) (sym zero_left ∙ b.is_left))
      | inr more ↦ inl (subst (λ (x : Limits). IsEnd x first content before now b.names) b.limits (end_earlier r.walker.limits first content before then now b.names b.rises (end more)))
    ];
    count = 0;
    says = refl;
  }

  text_at_end : (b : FramesSoFar style l first content before then format old mid r last left) → map frame_run b.ended ++ map frame_run (list_of last) ≡ frame_facts true 0 (frames_in format b.names)
  text_at_end b = sym (map-append frame_run b.ended (list_of last)) ∙ ap (map frame_run) (sym b.runs.runs)

  pub frames_whole : (new : Written) (b : FramesSoFar style l first content before then format old mid r last left) → ((left ≡ Some 0 → ⊥) → IsEnd r.walker.limits first content then now b.names) → Puts style (map frame_run (list_of last)) mid new
      → (facts : List Fact) × (ShowsFrames true l first content before now format facts × Puts style facts old new)
  frames_whole new b end takes = (
    frame_facts true 0 (frames_in format b.names),
    (
      shows_all b end,
      subst (λ (fs : List Fact). Puts style fs old new) (text_at_end b) (whole_then style (map frame_run b.ended) (map frame_run (list_of last)) old mid new b.taken takes),
    ),
  )

  pub frames_end_cut : (new : Written) (b : FramesSoFar style l first content before then format old mid r last left) → ((left ≡ Some 0 → ⊥) → IsEnd r.walker.limits first content then now b.names) → PutsFront style (map frame_run (list_of last)) mid new
      → (whole : Bool) × ((facts : List Fact) × (ShowsFrames whole l first content before now format facts × PutsFront style facts old new))
  frames_end_cut new b end takes = (
    true,
    (
      frame_facts true 0 (frames_in format b.names),
      (
        shows_all b end,
        subst (λ (fs : List Fact). PutsFront style fs old new) (text_at_end b) (front_then style (map frame_run b.ended) (map frame_run (list_of last)) old mid new b.taken takes),
      ),
    ),
  )
