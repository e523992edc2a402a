-- Which call of a hibernation comes after k steps.
use Rattle.std.proofs.Common.{◌≡◌, ◌≤◌, ◌<◌, ℕ, ◌+◌, ◌-◌, zero, suc, ltb, true, Option, Some, None, refl, sym, ap, ◌∙◌, subst, inl, inr, arith}
use Rattle.std.proofs.lemmas.Bool.{cases_lt, cond-true, cond-false, lt-ltb, le-ltb}
use Rattle.plain_machine.specs.Image.{Image, pages_of, maps_of, hibernate_steps}
use Rattle.plain_machine.specs.Calls.{HibernationCall, writes_page, syncs_pages, reads_header, writes_mark, syncs_mark, call_behind_pages, hibernation_call, are_synced_before, reads_image, load_call}

abbrev written : Image → ℕ
written i = pages_of i + maps_of (pages_of i)

pub call_writes : (i : Image) (k : ℕ) → k + 4 < hibernate_steps i → hibernation_call i k ≡ Some writes_page
call_writes i k lt = cond-true (ltb k (written i)) (Some writes_page) (call_behind_pages (k - written i)) (lt-ltb k (written i) (omega arith))

behind : (i : Image) (k j : ℕ) → k ≡ written i + j → hibernation_call i k ≡ call_behind_pages j
behind i k j is =
    let past : k - written i ≡ j = omega arith in
    cond-false (ltb k (written i)) (Some writes_page) (call_behind_pages (k - written i)) (le-ltb k (written i) (omega arith)) ∙ ap call_behind_pages past

pub call_syncs : (i : Image) (k : ℕ) → k + 4 ≡ hibernate_steps i → hibernation_call i k ≡ Some syncs_pages
call_syncs i k is = behind i k 0 (omega arith)

pub call_reads : (i : Image) (k : ℕ) → k + 3 ≡ hibernate_steps i → hibernation_call i k ≡ Some reads_header
call_reads i k is = behind i k 1 (omega arith)

pub call_marks : (i : Image) (k : ℕ) → k + 2 ≡ hibernate_steps i → hibernation_call i k ≡ Some writes_mark
call_marks i k is = behind i k 2 (omega arith)

pub call_last : (i : Image) (k : ℕ) → k + 1 ≡ hibernate_steps i → hibernation_call i k ≡ Some syncs_mark
call_last i k is = behind i k 3 (omega arith)

behind_all : (j : ℕ) → 4 ≤ j → call_behind_pages j ≡ None
behind_all zero le = absurd (omega arith)
behind_all (suc zero) le = absurd (omega arith)
behind_all (suc (suc zero)) le = absurd (omega arith)
behind_all (suc (suc (suc zero))) le = absurd (omega arith)
behind_all (suc (suc (suc (suc j)))) le = refl

pub call_none : (i : Image) (k : ℕ) → hibernate_steps i ≤ k → hibernation_call i k ≡ None
call_none i k le = behind i k (k - written i) (omega arith) ∙ behind_all (k - written i) (omega arith)

-- how many steps are made before a call of N
abbrev pub IsAt : Option HibernationCall → ℕ → ℕ → Type 0
IsAt (Some writes_page) k n = k + 4 < n
IsAt (Some syncs_pages) k n = k + 4 ≡ n
IsAt (Some reads_header) k n = k + 3 ≡ n
IsAt (Some writes_mark) k n = k + 2 ≡ n
IsAt (Some syncs_mark) k n = k + 1 ≡ n
IsAt None k n = n ≤ k

is_behind : (i : Image) (k j : ℕ) → k ≡ written i + j → IsAt (call_behind_pages j) k (hibernate_steps i)
is_behind i k zero is = omega arith
is_behind i k (suc zero) is = omega arith
is_behind i k (suc (suc zero)) is = omega arith
is_behind i k (suc (suc (suc zero))) is = omega arith
is_behind i k (suc (suc (suc (suc j)))) is = omega arith

pub is_at : (i : Image) (k : ℕ) → IsAt (hibernation_call i k) k (hibernate_steps i)
is_at i k = elim (cases_lt k (written i)) [
  | inl lt ↦ subst (λ (call : Option HibernationCall). IsAt call k (hibernate_steps i)) (sym (call_writes i k (omega arith))) (omega arith)
  | inr ge ↦
      let is : k ≡ written i + (k - written i) = omega arith in
      subst (λ (call : Option HibernationCall). IsAt call k (hibernate_steps i)) (sym (behind i k (k - written i) is)) (is_behind i k (k - written i) is)
]

-- After the first sync three calls are left, or fewer.
pub synced_at : (i : Image) (k : ℕ) → are_synced_before (hibernation_call i k) ≡ true → hibernate_steps i ≤ k + 3
synced_at i k = by_call (hibernation_call i k) (is_at i k) where
  by_call : (call : Option HibernationCall) → IsAt call k (hibernate_steps i) → are_synced_before call ≡ true → hibernate_steps i ≤ k + 3
  by_call (Some writes_page) at synced = cc
  by_call (Some syncs_pages) at synced = cc
  by_call (Some reads_header) at synced = omega arith
  by_call (Some writes_mark) at synced = omega arith
  by_call (Some syncs_mark) at synced = omega arith
  by_call None at synced = omega arith

pub synced_from : (i : Image) (k : ℕ) → hibernate_steps i ≤ k + 3 → are_synced_before (hibernation_call i k) ≡ true
synced_from i k = by_call (hibernation_call i k) (is_at i k) where
  by_call : (call : Option HibernationCall) → IsAt call k (hibernate_steps i) → hibernate_steps i ≤ k + 3 → are_synced_before call ≡ true
  by_call (Some writes_page) at le = absurd (omega arith)
  by_call (Some syncs_pages) at le = absurd (omega arith)
  by_call (Some reads_header) at le = refl
  by_call (Some writes_mark) at le = refl
  by_call (Some syncs_mark) at le = refl
  by_call None at le = refl

-- After the fourth step of a resume the image is read.
pub load_call-late : (k : ℕ) → 4 ≤ k → load_call k ≡ reads_image
load_call-late zero le = absurd (omega arith)
load_call-late (suc zero) le = absurd (omega arith)
load_call-late (suc (suc zero)) le = absurd (omega arith)
load_call-late (suc (suc (suc zero))) le = absurd (omega arith)
load_call-late (suc (suc (suc (suc k)))) le = refl
