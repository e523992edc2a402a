-- A number page that was taken.
use Rattle.std.proofs.Common.{◌≡◌, ◌≢◌, ℕ, zero, suc, ◌+◌, ◌*◌, ◌/◌, ◌-◌, ◌<◌, ◌≤◌, ◌⊎◌, inl, inr, List, min, sym, ap, ◌∙◌, subst, None, Some, Result, Ok, Err, arith}
use Rattle.definitions.specs.Disk.{DiskImage}
use Rattle.plain_machine.specs.Chain.{or_else}
use Rattle.boot_resume.specs.Accepted.{AcceptsPage, Tallied}
use Rattle.boot_resume.specs.Listed.{Lists, first_cause}
use Rattle.boot_resume.specs.OnDisk.{content_cause, data_before, end_cause, end_fault, info_in, listed_cause, listed_fault, meta_in, number_before, saved_in, stream_page}
use Rattle.boot_resume.specs.Standing.{ListsNumbers}
use Rattle.boot_resume.specs.declared.cause.Cause.{Cause}
use Rattle.boot_resume.specs.declared.machine.Machine.{Machine}
use Rattle.boot_resume.specs.declared.numbers.Tally.{Tally}
use Rattle.boot_resume.specs.declared.reading.Reading.{Reading}
use Rattle.boot_resume.proofs.Listing.{content-numbers, end_passed, end_refused, numbers_last, numbers_more, numbers_refused}

-- where the last numbers end
ends_at : (q n given count : ℕ) → given ≡ 512 * q → given < n → count ≡ min 512 (n - given) → given + count ≡ n → q + 1 ≡ (n + 511) / 512
ends_at q n given count at more is all = omega arith

goes_at : (q n given count : ℕ) → given ≡ 512 * q → given < n → count ≡ min 512 (n - given) → (given + count ≢ n) → (given + count < n) × (given + count ≡ 512 * (q + 1)) × ((q + 1 ≡ (n + 511) / 512) → ⊥)
goes_at q n given count at more is not =
    let all : count ≡ 512 = full count (n - given) is (λ e. not (omega arith)) in
    let less : given + count < n = below (given + count) n not (omega arith) in
    (less, omega arith, λ e. absurd (omega arith))
  where
    full : (count left : ℕ) → count ≡ min 512 left → (count ≡ left → ⊥) → count ≡ 512
    full count left is not = by_less 512 left count is not where
      by_less : (a b x : ℕ) → x ≡ min a b → (x ≡ b → ⊥) → x ≡ a
      by_less a b x is not = either (order a b) where
        order : (a b : ℕ) → (a ≤ b) ⊎ (b < a)
        order zero b = inl (omega arith)
        order (suc a) zero = inr (omega arith)
        order (suc a) (suc b) = lifted (order a b) where
          lifted : (a ≤ b) ⊎ (b < a) → (suc a ≤ suc b) ⊎ (suc b < suc a)
          lifted (inl le) = inl (omega arith)
          lifted (inr lt) = inr (omega arith)

        either : (a ≤ b) ⊎ (b < a) → x ≡ a
        either (inl le) = omega arith
        either (inr lt) = absurd (not (omega arith))

    below : (x n : ℕ) → (x ≢ n) → x ≤ n → x < n
    below x n not le = omega arith

module _ (m : Machine) (v : DiskImage) (old : Reading) (h : ListsNumbers m v old) (count : ℕ) (is : count ≡ min 512 (old.saved - old.given)) where
  same_count : count ≡ min 512 (saved_in m v - 512 * (old.page - 1))
  same_count = is ∙ ap (λ n. min 512 (n - old.given)) h.counted.saved ∙ ap (λ g. min 512 (saved_in m v - g)) h.given

  pub page_refused : (why : Cause) → first_cause m v (512 * (old.page - 1)) count ≡ Some why → content_cause m v old.page ≡ Some why
  page_refused why fault =
      content-numbers m v old.page h.begun
      ∙ numbers_refused m v (old.page - 1) why (ap (first_cause m v (512 * (old.page - 1))) (sym same_count) ∙ fault)

  last_page : old.given + count ≡ old.saved → old.page ≡ meta_in m v
  last_page all =
      let begun : 0 < old.page = h.begun in
      let one : old.page - 1 + 1 ≡ old.page = omega arith in
      let at : old.page - 1 + 1 ≡ (old.saved + 511) / 512 = ends_at (old.page - 1) old.saved old.given count h.given h.more is all in
      sym one ∙ at ∙ ap (λ n. (n + 511) / 512) h.counted.saved

  last_content : old.given + count ≡ old.saved → first_cause m v (512 * (old.page - 1)) count ≡ None → content_cause m v old.page ≡ or_else (end_cause m v) (listed_cause m v)
  last_content all sound =
      let begun : 0 < old.page = h.begun in
      let one : old.page - 1 + 1 ≡ old.page = omega arith in
      content-numbers m v old.page h.begun
      ∙ numbers_last m v (old.page - 1) (ap (first_cause m v (512 * (old.page - 1))) (sym same_count) ∙ sound) (one ∙ last_page all)

  at_end : (page : List ℕ) → page ≡ stream_page m v old.page → old.given + count ≡ old.saved → end_cause m v ≡ end_fault page old.saved
  at_end page here all =
      ap (λ k. end_fault (stream_page m v k) (saved_in m v)) (sym (last_page all))
      ∙ ap (λ p. end_fault p (saved_in m v)) (sym here)
      ∙ ap (end_fault page) (sym h.counted.saved)

  pub end_wrong : (page : List ℕ) (why : Cause) → page ≡ stream_page m v old.page → old.given + count ≡ old.saved → first_cause m v (512 * (old.page - 1)) count ≡ None → end_fault page old.saved ≡ Some why → content_cause m v old.page ≡ Some why
  end_wrong page why here all sound fault = last_content all sound ∙ end_refused m v why (at_end page here all ∙ fault)

  at_listed : (with_data : ℕ) → with_data ≡ data_before m v (512 * (old.page - 1) + count) → old.given + count ≡ old.saved → listed_cause m v ≡ listed_fault old.saved old.pages with_data
  at_listed with_data counted all =
      let sum : 512 * (old.page - 1) + count ≡ saved_in m v = ap (λ g. g + count) (sym h.given) ∙ all ∙ h.counted.saved in
      ap (λ d. listed_fault (saved_in m v) (info_in m v).pages d) (sym (counted ∙ ap (data_before m v) sum))
      ∙ ap (λ p. listed_fault (saved_in m v) p with_data) (sym h.counted.pages)
      ∙ ap (λ n. listed_fault n old.pages with_data) (sym h.counted.saved)

  pub listed_wrong : (page : List ℕ) (with_data : ℕ) (why : Cause) → page ≡ stream_page m v old.page → old.given + count ≡ old.saved → first_cause m v (512 * (old.page - 1)) count ≡ None → end_fault page old.saved ≡ None → with_data ≡ data_before m v (512 * (old.page - 1) + count) → listed_fault old.saved old.pages with_data ≡ Some why → content_cause m v old.page ≡ Some why
  listed_wrong page with_data why here all sound ended counted fault =
      last_content all sound ∙ end_passed m v (at_end page here all ∙ ended) ∙ at_listed with_data counted all ∙ fault

  pub all_right : (page : List ℕ) (with_data : ℕ) → page ≡ stream_page m v old.page → old.given + count ≡ old.saved → first_cause m v (512 * (old.page - 1)) count ≡ None → end_fault page old.saved ≡ None → with_data ≡ data_before m v (512 * (old.page - 1) + count) → listed_fault old.saved old.pages with_data ≡ None → content_cause m v old.page ≡ None
  all_right page with_data here all sound ended counted right =
      last_content all sound ∙ end_passed m v (at_end page here all ∙ ended) ∙ at_listed with_data counted all ∙ right

  pub more_right : (old.given + count ≢ old.saved) → first_cause m v (512 * (old.page - 1)) count ≡ None → content_cause m v old.page ≡ None
  more_right not sound =
      let begun : 0 < old.page = h.begun in
      let goes = goes_at (old.page - 1) old.saved old.given count h.given h.more is not in
      content-numbers m v old.page h.begun
      ∙ numbers_more m v (old.page - 1) (ap (first_cause m v (512 * (old.page - 1))) (sym same_count) ∙ sound)
      (λ e. goes.2 (e ∙ ap (λ n. (n + 511) / 512) (sym h.counted.saved)))

  sums_up : 512 * (old.page - 1) + count ≡ old.given + count
  sums_up = ap (λ g. g + count) (sym h.given)

  pub tallied_all : (new : Reading) (tally : Tally) → Lists m v (old.page - 1) count (Ok tally) → old.given + count ≡ old.saved → new.saved ≡ old.saved → new.pages ≡ old.pages → new.given ≡ old.given + count → new.last ≡ tally.last → new.with_data ≡ tally.with_data → Tallied m v old.page new
  tallied_all new tally lists all saved pages given last with_data = record {
    counted = record { saved = saved ∙ h.counted.saved; pages = pages ∙ h.counted.pages; some = subst (λ x. 0 < x) (sym saved) h.counted.some };
    last = last ∙ lists.1.0 ∙ ap (number_before m v) (sums_up ∙ sym given);
    with_data = with_data ∙ lists.1.1 ∙ ap (data_before m v) (sums_up ∙ sym given);
    place = inl (given ∙ all ∙ sym saved, last_page all);
  }

  pub tallied_more : (new : Reading) (tally : Tally) → Lists m v (old.page - 1) count (Ok tally) → (old.given + count ≢ old.saved) → new.saved ≡ old.saved → new.pages ≡ old.pages → new.given ≡ old.given + count → new.last ≡ tally.last → new.with_data ≡ tally.with_data → Tallied m v old.page new
  tallied_more new tally lists not saved pages given last with_data =
      let begun : 0 < old.page = h.begun in
      let one : old.page - 1 + 1 ≡ old.page = omega arith in
      let goes = goes_at (old.page - 1) old.saved old.given count h.given h.more is not in
      record {
        counted = record { saved = saved ∙ h.counted.saved; pages = pages ∙ h.counted.pages; some = subst (λ x. 0 < x) (sym saved) h.counted.some };
        last = last ∙ lists.1.0 ∙ ap (number_before m v) (sums_up ∙ sym given);
        with_data = with_data ∙ lists.1.1 ∙ ap (data_before m v) (sums_up ∙ sym given);
        place = inr (subst (λ x. x < new.saved) (sym given) (subst (λ x. old.given + count < x) (sym saved) goes.0), given ∙ goes.1 ∙ ap (λ k. 512 * k) one);
      }

pub accepts_refused : (m : Machine) (v : DiskImage) (k : ℕ) (r : Reading) (result : Result (Unit {0}) Cause) (why : Cause) → result ≡ Err why → content_cause m v k ≡ Some why → AcceptsPage m v k r result
accepts_refused m v k r result why is fault = subst (λ (x : Result (Unit {0}) Cause). AcceptsPage m v k r x) (sym is) fault
