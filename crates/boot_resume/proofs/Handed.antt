-- From the list of numbers to the pages, and from page to page.
use Rattle.std.proofs.Common.{◌≡◌, ◌≢◌, ℕ, zero, suc, ◌+◌, ◌*◌, ◌/◌, ◌%◌, ◌-◌, ◌^◌, ◌<◌, ◌≤◌, ◌⊎◌, inl, inr, List, ◌∷◌, [], true, false, refl, sym, ap, ◌∙◌, subst, None, Some, Option, arith}
use Rattle.std.proofs.lemmas.Bool.{cond-true, cond-false}
use Rattle.page_core.specs.declared.format.Format.{Format}
use Rattle.plain_machine.specs.Trace.{number_by, is_marked_by}
use Rattle.definitions.specs.Bytes.{zero_page}
use Rattle.definitions.specs.Disk.{DiskImage, block}
use Rattle.definitions.specs.SwapMap.{map_link}
use Rattle.boot_resume.specs.Accepted.{Tallied}
use Rattle.boot_resume.specs.Calls.{Turn, asks, entry_then, page_then, data_then, places, handed_from}
use Rattle.boot_resume.specs.Memory.{block_fault}
use Rattle.boot_resume.specs.OnDisk.{data_before, data_place, format_by, has_no_data, number_fault, word_in, map_at, map_cause, map_fault, mark_in, meta_in, number_before, number_cause, number_in, page_at, page_cause, saved_in, stream_page}
use Rattle.boot_resume.specs.Standing.{Goes, Handing, HasListed, HasNumbers, Listing, Numbered, Placing, WantsNumberMap, from_number}
use Rattle.boot_resume.specs.Wanted.{HasMapBefore, IsMap, entry_of}
use Rattle.boot_resume.specs.declared.call.Call.{Call}
use Rattle.boot_resume.specs.declared.call.Call.TheVariants.{Read, Page, Refused}
use Rattle.boot_resume.specs.declared.cause.Cause.{Cause}
use Rattle.boot_resume.specs.declared.machine.Machine.{Machine}
use Rattle.boot_resume.specs.declared.reading.Reading.{Reading}
use Rattle.boot_resume.specs.declared.stage.Stage.TheVariants as stage
use Rattle.boot_resume.proofs.Counting.{again_first, data_before-le, data_before-none, data_before-one, handed_more, map_at-link, unless_none, unless_some}
use Rattle.boot_resume.proofs.Wanting.{entry_named, map_cause-named, page_cause-named}

-- The list.

pub next_map : (m : Machine) (v : DiskImage) (map : List ℕ) (k : ℕ) → IsMap m v map (k / 511) → HasMapBefore m v map (k + 1)
next_map m v map k is above =
    let same : k / 511 ≡ (k + 1 - 1) / 511 = omega arith in
    subst (IsMap m v map) same is

-- all numbers were listed
pub has_listed : (m : Machine) (v : DiskImage) (k : ℕ) (r : Reading) → Tallied m v k r → r.mark ≡ mark_in m v → r.page ≡ k + 1 → HasMapBefore m v r.map r.page → r.given ≡ r.saved → HasListed m v r
has_listed m v k r t mark page map all = record {
  mark = mark;
  map = map;
  counted = t.counted;
  page = at_end t.place;
  given = all;
} where
  at_end : ((r.given ≡ r.saved) × (k ≡ meta_in m v)) ⊎ ((r.given < r.saved) × (r.given ≡ 512 * k)) → r.page ≡ meta_in m v + 1
  at_end (inl p) = page ∙ ap (λ x. x + 1) p.1
  at_end (inr p) = absurd (omega (arith, p.0, all))

few_before : (k n page : ℕ) → page ≡ k + 1 → 512 * k < n → page ≤ (n + 511) / 512
few_before k n page is most = omega arith

-- there are more
pub lists_on : (m : Machine) (v : DiskImage) (k : ℕ) (r : Reading) → Tallied m v k r → r.mark ≡ mark_in m v → r.page ≡ k + 1 → (r.given ≢ r.saved) → Listing m v r × (r.page ≤ meta_in m v)
lists_on m v k r t mark page not = on t.place where
  on : ((r.given ≡ r.saved) × (k ≡ meta_in m v)) ⊎ ((r.given < r.saved) × (r.given ≡ 512 * k)) → Listing m v r × (r.page ≤ meta_in m v)
  on (inl p) = absurd (not p.0)
  on (inr p) =
      let more : r.given < r.saved = p.0 in
      let given : r.given ≡ 512 * k = p.1 in
      let at : r.given ≡ 512 * (r.page - 1) = omega arith in
      let saved : r.saved ≡ saved_in m v = t.counted.saved in
      let n : ℕ = saved_in m v in
      let most : 512 * k < saved_in m v = omega arith in (
        record {
          mark = mark;
          numbers = inr (record {
            counted = t.counted;
            begun = omega arith;
            given = at;
            more = more;
            last = t.last;
            with_data = t.with_data;
          });
        },
        few_before k (saved_in m v) r.page page most,
      )

-- how far the list can come
pub few_listed : (m : Machine) (v : DiskImage) (k : ℕ) (r : Reading) → Tallied m v k r → r.saved < 2 ^ 52 → k < 2 ^ 63
few_listed m v k r t few = at t.place where
  at : ((r.given ≡ r.saved) × (k ≡ meta_in m v)) ⊎ ((r.given < r.saved) × (r.given ≡ 512 * k)) → k < 2 ^ 63
  at (inl p) =
      let is : k ≡ meta_in m v = p.1 in
      let saved : r.saved ≡ saved_in m v = t.counted.saved in
      let n : saved_in m v < 2 ^ 52 = omega arith in
      omega arith
  at (inr p) =
      let less : r.given < r.saved = p.0 in
      let is : r.given ≡ 512 * k = p.1 in
      omega arith

-- The pages.

pub begins_pages : (m : Machine) (v : DiskImage) (old new : Reading) → HasListed m v old → new.mark ≡ old.mark → new.saved ≡ old.saved → new.pages ≡ old.pages → new.page ≡ old.page → new.given ≡ 0 → new.last ≡ None → Handing m v new
begins_pages m v old new h mark saved pages page given last = record {
  mark = mark ∙ h.mark;
  counted = record { saved = saved ∙ h.counted.saved; pages = pages ∙ h.counted.pages; some = subst (λ x. 0 < x) (sym saved) h.counted.some };
  last = last ∙ ap (number_before m v) (sym given);
  page = page ∙ h.page ∙ at_none ∙ ap (data_place m v) (sym given);
} where
  at_none : meta_in m v + 1 ≡ 1 + meta_in m v + 0
  at_none = omega arith

pub number_map_goes : (m : Machine) (v : DiskImage) (r : Reading) (page : List ℕ) (x : ℕ) → Handing m v r → HasMapBefore m v r.map r.page → r.given < r.saved → r.given % 512 ≡ 0 → r.again ≡ map_at m v ((1 + r.given / 512) / 511) → map_fault m r.mark.last ((1 + r.given / 512) / 511) r.again ≡ None → x ≡ r.again → Goes m v r page (handed_from m v r.given) stage.NumberMap (Read x)
number_map_goes m v r page x h map more first again sound is =
    let j : ℕ = (1 + r.given / 512) / 511 in
    let rest : List Turn = entry_then m v (1 + r.given / 512) (from_number m v r.given) in
    let less : r.given < saved_in m v = subst (λ n. r.given < n) h.counted.saved more in
    let none : map_cause m v ((1 + r.given / 512) / 511) ≡ None = map_cause-named m v r.mark ((1 + r.given / 512) / 511) r.again h.mark again ∙ sound in
    record {
      turn = asks (Read (map_at m v ((1 + r.given / 512) / 511)));
      left = handed_more m v r.given less ∙ again_first m v r.given (from_number m v r.given) first
          ∙ unless_none (map_cause m v ((1 + r.given / 512) / 511)) (asks (Read (map_at m v ((1 + r.given / 512) / 511))) ∷ entry_then m v (1 + r.given / 512) (from_number m v r.given)) none;
      call = ap Read (sym again ∙ sym is);
      fits = tt;
      knows = record { handing = h; map = map; more = more; first = first; again = again; call = ap Read (is ∙ again) };
    }

pub number_map_refused : (m : Machine) (v : DiskImage) (r : Reading) (why : Cause) → Handing m v r → r.given < r.saved → r.given % 512 ≡ 0 → r.again ≡ map_at m v ((1 + r.given / 512) / 511) → map_fault m r.mark.last ((1 + r.given / 512) / 511) r.again ≡ Some why → handed_from m v r.given ≡ asks (Refused why) ∷ []
number_map_refused m v r why h more first again fault =
    let less : r.given < saved_in m v = subst (λ n. r.given < n) h.counted.saved more in
    handed_more m v r.given less ∙ again_first m v r.given (from_number m v r.given) first
    ∙ unless_some (map_cause m v ((1 + r.given / 512) / 511)) why (asks (Read (map_at m v ((1 + r.given / 512) / 511))) ∷ entry_then m v (1 + r.given / 512) (from_number m v r.given))
    (map_cause-named m v r.mark ((1 + r.given / 512) / 511) r.again h.mark again ∙ fault)

-- the map of the next number page
pub map_behind_named : (m : Machine) (v : DiskImage) (map : List ℕ) (k at x : ℕ) → IsMap m v map (k / 511) → at ≡ map_at m v (k / 511) → ((k + 1) % 511 ≡ 0 → x ≡ map_link map) → (((k + 1) % 511 ≢ 0) → x ≡ at) → x ≡ map_at m v ((k + 1) / 511)
map_behind_named m v map k at x is here begins goes_on = by_place ((k + 1) % 511) refl where
  by_place : (d : ℕ) → (k + 1) % 511 ≡ d → x ≡ map_at m v ((k + 1) / 511)
  by_place zero e =
      let step : (k + 1) / 511 ≡ suc (k / 511) = omega arith in
      begins e ∙ ap map_link is ∙ sym (map_at-link m v ((k + 1) / 511) (k / 511) step)
  by_place (suc d) e =
      let step : k / 511 ≡ (k + 1) / 511 = omega arith in
      goes_on (λ none. absurd (omega (arith, e, none))) ∙ here ∙ ap (map_at m v) step

-- one page frame further
pub further : (m : Machine) (v : DiskImage) (old new : Reading) → Placing m v old → new.mark ≡ old.mark → new.saved ≡ old.saved → new.pages ≡ old.pages → new.page ≡ old.page → new.given ≡ old.given + 1 → new.last ≡ Some old.frame → Handing m v new
further m v old new p mark saved pages page given last = record {
  mark = mark ∙ p.mark;
  counted = record { saved = saved ∙ p.counted.saved; pages = pages ∙ p.counted.pages; some = subst (λ x. 0 < x) (sym saved) p.counted.some };
  last = last ∙ ap Some p.frame ∙ sym (ap (number_before m v) (given ∙ on));
  page = page ∙ p.page ∙ ap (data_place m v) (sym given);
} where
  on : old.given + 1 ≡ suc old.given
  on = omega arith

-- in the next number page, or in the same one
pub again_further : (m : Machine) (v : DiskImage) (again i j : ℕ) → again ≡ map_at m v ((2 + i / 512) / 511) → j ≡ i + 1 → j % 512 ≡ 0 → again ≡ map_at m v ((1 + j / 512) / 511)
again_further m v again i j is next first =
    let step : 2 + i / 512 ≡ 1 + j / 512 = omega arith in
    is ∙ ap (λ x. map_at m v (x / 511)) step

pub numbers_further : (m : Machine) (v : DiskImage) (old new : Reading) → HasNumbers m v old → new.numbers ≡ old.numbers → new.again ≡ old.again → new.given ≡ old.given + 1 → (new.given % 512 ≢ 0) → HasNumbers m v new
numbers_further m v old new h numbers again given not =
    let same : old.given / 512 ≡ new.given / 512 = same_line old.given new.given given not in
    record {
      numbers = numbers ∙ h.numbers ∙ ap (λ x. stream_page m v (1 + x)) same;
      again = again ∙ h.again ∙ ap (λ x. map_at m v ((2 + x) / 511)) same;
    }
  where
    same_line : (i j : ℕ) → j ≡ i + 1 → (j % 512 ≢ 0) → i / 512 ≡ j / 512
    same_line i j is not = by_place (j % 512) refl where
      by_place : (d : ℕ) → j % 512 ≡ d → i / 512 ≡ j / 512
      by_place zero e = absurd (not e)
      by_place (suc d) e = omega arith

-- a page of zeros is handed out
pub zeros_go : (m : Machine) (v : DiskImage) (r : Reading) (page : List ℕ) → Handing m v r → HasMapBefore m v r.map r.page → r.given < r.saved → HasNumbers m v r → r.frame ≡ number_in m v r.given → number_cause m v r.given ≡ None → has_no_data m v r.given ≡ true → page ≡ zero_page → Goes m v r page (from_number m v r.given) stage.Place (Page r.frame)
zeros_go m v r page h map more numbers frame sound none is =
    let n : ℕ = r.given in
    record {
      turn = places m v r.given;
      left = unless_none (number_cause m v r.given) (data_then m v r.given (places m v r.given ∷ handed_from m v (r.given + 1))) sound
          ∙ cond-true (has_no_data m v r.given) (places m v r.given ∷ handed_from m v (r.given + 1)) (page_then m v (data_place m v r.given) (places m v r.given ∷ handed_from m v (r.given + 1))) none;
      call = ap Page (sym frame);
      fits = is ∙ sym (cond-true (has_no_data m v r.given) zero_page (stream_page m v (data_place m v r.given)) none);
      knows = (
        record {
          mark = h.mark;
          counted = h.counted;
          more = more;
          numbers = numbers;
          frame = frame;
          page = h.page ∙ ap (λ d. 1 + meta_in m v + d) (sym (data_before-none m v r.given none));
          map = map;
        },
        refl,
      );
    }

pub from_data : (m : Machine) (v : DiskImage) (i : ℕ) → number_cause m v i ≡ None → has_no_data m v i ≡ false → from_number m v i ≡ page_then m v (data_place m v i) (places m v i ∷ handed_from m v (i + 1))
from_data m v i sound has =
    unless_none (number_cause m v i) (data_then m v i (places m v i ∷ handed_from m v (i + 1))) sound
    ∙ cond-false (has_no_data m v i) (places m v i ∷ handed_from m v (i + 1)) (page_then m v (data_place m v i) (places m v i ∷ handed_from m v (i + 1))) has

pub few_pages : (m : Machine) (v : DiskImage) (r : Reading) → Handing m v r → r.given < r.saved → r.saved < 2 ^ 52 → r.page < 2 ^ 63
few_pages m v r h more few =
    let at : r.page ≡ 1 + meta_in m v + data_before m v r.given = h.page in
    let most : data_before m v r.given ≤ r.given = data_before-le m v r.given in
    let saved : r.saved ≡ saved_in m v = h.counted.saved in
    let n : saved_in m v < 2 ^ 52 = omega arith in
    omega arith

-- a data page is handed out
pub data_goes : (m : Machine) (v : DiskImage) (old new : Reading) (page : List ℕ) → Numbered m v old → IsMap m v old.map (old.page / 511) → page ≡ stream_page m v old.page → new.mark ≡ old.mark → new.saved ≡ old.saved → new.pages ≡ old.pages → new.given ≡ old.given → new.numbers ≡ old.numbers → new.again ≡ old.again → new.frame ≡ old.frame → new.map ≡ old.map → new.page ≡ old.page + 1 → Goes m v new page (places m v old.given ∷ handed_from m v (old.given + 1)) stage.Place (Page new.frame)
data_goes m v old new page n map is mark saved pages given numbers again frame same_map next = record {
  turn = places m v old.given;
  left = ap (λ i. places m v old.given ∷ handed_from m v (i + 1)) (sym given);
  call = ap Page (sym n.frame ∙ sym frame);
  fits = is ∙ ap (stream_page m v) n.handing.page ∙ sym (cond-false (has_no_data m v old.given) zero_page (stream_page m v (data_place m v old.given)) n.has);
  knows = (
    record {
      mark = mark ∙ n.handing.mark;
      counted = record { saved = saved ∙ n.handing.counted.saved; pages = pages ∙ n.handing.counted.pages; some = subst (λ x. 0 < x) (sym saved) n.handing.counted.some };
      more = subst (λ x. x < new.saved) (sym given) (subst (λ x. old.given < x) (sym saved) n.more);
      numbers = record {
        numbers = numbers ∙ n.numbers.numbers ∙ ap (λ i. stream_page m v (1 + i / 512)) (sym given);
        again = again ∙ n.numbers.again ∙ ap (λ i. map_at m v ((2 + i / 512) / 511)) (sym given);
      };
      frame = frame ∙ n.frame ∙ ap (number_in m v) (sym given);
      page = next ∙ ap (λ x. x + 1) n.handing.page ∙ one_more ∙ ap (λ i. data_place m v (i + 1)) (sym given);
      map = subst (λ x. HasMapBefore m v x new.page) (sym same_map) (subst (HasMapBefore m v old.map) (sym next) (next_map m v old.map old.page map));
    },
    refl,
  );
} where
  one_more : 1 + meta_in m v + data_before m v old.given + 1 ≡ 1 + meta_in m v + data_before m v (old.given + 1)
  one_more = omega (arith, data_before-one m v old.given n.has)

-- the number page by its map
pub number_page_goes : (m : Machine) (v : DiskImage) (old new : Reading) (page : List ℕ) (k x : ℕ) (c : Call) → WantsNumberMap m v old c → page ≡ block v (map_at m v ((1 + old.given / 512) / 511)) → k ≡ 1 + old.given / 512 → block_fault m old.mark.last (entry_of page k) ≡ None → x ≡ entry_of page k → ((k + 1) % 511 ≡ 0 → new.again ≡ map_link page) → (((k + 1) % 511 ≢ 0) → new.again ≡ old.again) → new.mark ≡ old.mark → new.saved ≡ old.saved → new.pages ≡ old.pages → new.given ≡ old.given → new.last ≡ old.last → new.page ≡ old.page → new.map ≡ old.map → Goes m v new page (entry_then m v (1 + old.given / 512) (from_number m v old.given)) stage.NumberPage (Read x)
number_page_goes m v old new page k x c w is at sound named begins goes_on mark saved pages given last same_page same_map =
    let map : IsMap m v page (k / 511) = is ∙ ap (λ i. block v (map_at m v (i / 511))) (sym at) in
    let here : x ≡ page_at m v k = named ∙ entry_named m v page k map in
    let none : page_cause m v k ≡ None = page_cause-named m v old.mark page k w.handing.mark map ∙ sound in
    let next : new.again ≡ map_at m v ((k + 1) / 511) = map_behind_named m v page k old.again new.again map (w.again ∙ ap (λ i. map_at m v (i / 511)) (sym at)) begins goes_on in
    let two : k + 1 ≡ 2 + old.given / 512 = omega arith in
    record {
      turn = asks (Read (page_at m v (1 + old.given / 512)));
      left = unless_none (page_cause m v (1 + old.given / 512)) (asks (Read (page_at m v (1 + old.given / 512))) ∷ from_number m v old.given) (subst (λ i. page_cause m v i ≡ None) at none)
          ∙ ap (λ i. asks (Read (page_at m v (1 + old.given / 512))) ∷ from_number m v i) (sym given);
      call = ap Read (sym (here ∙ ap (page_at m v) at));
      fits = tt;
      knows = record {
        handing = record {
          mark = mark ∙ w.handing.mark;
          counted = record { saved = saved ∙ w.handing.counted.saved; pages = pages ∙ w.handing.counted.pages; some = subst (λ y. 0 < y) (sym saved) w.handing.counted.some };
          last = last ∙ w.handing.last ∙ ap (number_before m v) (sym given);
          page = same_page ∙ w.handing.page ∙ ap (data_place m v) (sym given);
        };
        map = subst (λ y. HasMapBefore m v y new.page) (sym same_map) (subst (HasMapBefore m v old.map) (sym same_page) w.map);
        more = subst (λ y. y < new.saved) (sym given) (subst (λ y. old.given < y) (sym saved) w.more);
        first = ap (λ i. i % 512) given ∙ w.first;
        again = next ∙ ap (λ i. map_at m v (i / 511)) two ∙ ap (λ i. map_at m v ((2 + i / 512) / 511)) (sym given);
        call = ap Read (here ∙ ap (page_at m v) at ∙ ap (λ i. page_at m v (1 + i / 512)) (sym given));
      };
    }

pub number_page_refused : (m : Machine) (v : DiskImage) (old : Reading) (page : List ℕ) (k : ℕ) (why : Cause) (c : Call) → WantsNumberMap m v old c → page ≡ block v (map_at m v ((1 + old.given / 512) / 511)) → k ≡ 1 + old.given / 512 → block_fault m old.mark.last (entry_of page k) ≡ Some why → entry_then m v (1 + old.given / 512) (from_number m v old.given) ≡ asks (Refused why) ∷ []
number_page_refused m v old page k why c w is at fault =
    let map : IsMap m v page (k / 511) = is ∙ ap (λ i. block v (map_at m v (i / 511))) (sym at) in
    let some : page_cause m v k ≡ Some why = page_cause-named m v old.mark page k w.handing.mark map ∙ fault in
    unless_some (page_cause m v (1 + old.given / 512)) why (asks (Read (page_at m v (1 + old.given / 512))) ∷ from_number m v old.given)
    (subst (λ i. page_cause m v i ≡ Some why) at some)

-- The tally of a reading holds for another with the same values in these fields.

pub tallied_as : (m : Machine) (v : DiskImage) (k : ℕ) (a r : Reading) → Tallied m v k a → r.saved ≡ a.saved → r.pages ≡ a.pages → r.given ≡ a.given → r.last ≡ a.last → r.with_data ≡ a.with_data → Tallied m v k r
tallied_as m v k a r t saved pages given last with_data = record {
  counted = record { saved = saved ∙ t.counted.saved; pages = pages ∙ t.counted.pages; some = subst (λ x. 0 < x) (sym saved) t.counted.some };
  last = last ∙ t.last ∙ ap (number_before m v) (sym given);
  with_data = with_data ∙ t.with_data ∙ ap (data_before m v) (sym given);
  place = at t.place;
} where
  at : ((a.given ≡ a.saved) × (k ≡ meta_in m v)) ⊎ ((a.given < a.saved) × (a.given ≡ 512 * k)) → ((r.given ≡ r.saved) × (k ≡ meta_in m v)) ⊎ ((r.given < r.saved) × (r.given ≡ 512 * k))
  at (inl p) = inl (given ∙ p.0 ∙ sym saved, p.1)
  at (inr p) = inr (subst (λ x. x < r.saved) (sym given) (subst (λ x. a.given < x) (sym saved) p.0), given ∙ p.1)

pub handing_as : (m : Machine) (v : DiskImage) (a r : Reading) → Handing m v a → r.mark ≡ a.mark → r.saved ≡ a.saved → r.pages ≡ a.pages → r.given ≡ a.given → r.last ≡ a.last → r.page ≡ a.page → Handing m v r
handing_as m v a r h mark saved pages given last page = record {
  mark = mark ∙ h.mark;
  counted = record { saved = saved ∙ h.counted.saved; pages = pages ∙ h.counted.pages; some = subst (λ x. 0 < x) (sym saved) h.counted.some };
  last = last ∙ h.last ∙ ap (number_before m v) (sym given);
  page = page ∙ h.page ∙ ap (data_place m v) (sym given);
}

pub numbers_as : (m : Machine) (v : DiskImage) (a r : Reading) → HasNumbers m v a → r.numbers ≡ a.numbers → r.again ≡ a.again → r.given ≡ a.given → HasNumbers m v r
numbers_as m v a r h numbers again given = record {
  numbers = numbers ∙ h.numbers ∙ ap (λ i. stream_page m v (1 + i / 512)) (sym given);
  again = again ∙ h.again ∙ ap (λ i. map_at m v ((2 + i / 512) / 511)) (sym given);
}

-- number i by its word
pub frame_named : (m : Machine) (v : DiskImage) (format : Format) (w f i : ℕ) → format ≡ format_by (mark_in m v).flags → w ≡ word_in m v i → f ≡ number_by format w → f ≡ number_in m v i
frame_named m v format w f i same at is = is ∙ ap (λ x. number_by x w) same ∙ ap (number_by (format_by (mark_in m v).flags)) at

pub mark_named : (m : Machine) (v : DiskImage) (format : Format) (w i : ℕ) → format ≡ format_by (mark_in m v).flags → w ≡ word_in m v i → is_marked_by format w ≡ has_no_data m v i
mark_named m v format w i same at = ap (λ x. is_marked_by x w) same ∙ ap (is_marked_by (format_by (mark_in m v).flags)) at

pub cause_named : (m : Machine) (v : DiskImage) (last : Option ℕ) (f i : ℕ) → last ≡ number_before m v i → f ≡ number_in m v i → number_cause m v i ≡ number_fault m last f
cause_named m v last f i before is = ap (λ x. number_fault m x (number_in m v i)) (sym before) ∙ ap (number_fault m last) (sym is)
