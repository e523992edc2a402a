-- Settings that describe a machine, and those that describe none.
use Rattle.std.proofs.Common.{◌≡◌, ◌↔◌, ℕ, ◌<◌, ◌≤◌, List, [], ◌∷◌, length, All, Bool, true, false, ◌||◌, ◌+◌, nat_lt, Option, Some, None, Result, Ok, Err, zero, suc, refl, sym, ap, ◌∙◌, arith}
use Rattle.std.specs.Prelude.{is_some, IsNone, IsOk}
use Rattle.std.specs.List.{list_any}
use Rattle.std.specs.Result.{result_ok}
use Rattle.std.proofs.lemmas.Bool.{false≢true}
use Rattle.std.proofs.lemmas.Bool.Decides.{nat_tests}
use Rattle.plain_machine.specs.Machine.{Hardware}
use Rattle.machine.specs.HardFault.{hard_fault}
use Rattle.machine.specs.declared.hardware.HardFault.{HardFault}
use Rattle.script.specs.Settings.{SettingsValue, hardware_by, is_faulty, or_default, tables_by, zones_by}
use Rattle.script.specs.Items.{AreFitting}
use Rattle.script.specs.Settings.{scripted_ident}
use Rattle.definitions.specs.declared.info.Ident.{Ident}

-- parts that are those of the settings make their hardware
pub hardware_by-parts : (s : SettingsValue) (zones : List (ℕ × ℕ)) (slots f t : ℕ) (regions : List (ℕ × ℕ × ℕ)) (ident : Ident) (hw_sig : ℕ) (extents : List (ℕ × ℕ × ℕ)) → zones ≡ zones_by s → slots ≡ s.last + 1 → f ≡ (tables_by s).0 → t ≡ (tables_by s).1 → regions ≡ s.regions → ident ≡ scripted_ident → hw_sig ≡ s.hw_sig → extents ≡ or_default s.extents ((0, s.last + 1, 0) ∷ []) →
    ◌≡◌ {A = Hardware} (record { zones = zones; slots = slots; frame_table = f; slot_table = t; regions = regions; ident = ident; hw_sig = hw_sig; extents = extents }) (hardware_by s)
hardware_by-parts s zones slots f t regions ident hw_sig extents z n ft st r i h e = rw (z, n, ft, st, r, i, h, e) refl

pub above : (s : SettingsValue) (last : ℕ) (slots : List ℕ) → last ≡ s.last → slots ≡ s.bad → list_any (nat_lt s.last) s.bad ≡ list_any (nat_lt last) slots
above s last slots l b = rw (l, b) refl

pub extents_by : (s : SettingsValue) (last : ℕ) (extents : List (ℕ × ℕ × ℕ)) → last ≡ s.last → extents ≡ s.extents → or_default extents ((0, last + 1, 0) ∷ []) ≡ or_default s.extents ((0, s.last + 1, 0) ∷ [])
extents_by s last extents l e = rw (l, e) refl

pub is_faulty-many : (s : SettingsValue) → 630 < length s.bad → is_faulty s ≡ true
unfolding is_faulty
is_faulty-many s many = let e : nat_lt 630 (length s.bad) ≡ true = grind (arith, nat_tests) in rw e refl

pub is_faulty-above : (s : SettingsValue) → list_any (nat_lt s.last) s.bad ≡ true → is_faulty s ≡ true
unfolding is_faulty
is_faulty-above s above = by (nat_lt 630 (length s.bad)) (list_any (nat_lt s.last) s.bad) above where
  by : (a b : Bool) → b ≡ true → (a || b || is_some (hard_fault (hardware_by s))) ≡ true
  by true b e = refl
  by false b e = rw e refl

pub is_faulty-hardware : (s : SettingsValue) → length s.bad ≤ 630 → list_any (nat_lt s.last) s.bad ≡ false → is_faulty s ≡ is_some (hard_fault (hardware_by s))
unfolding is_faulty
is_faulty-hardware s few none = let e : nat_lt 630 (length s.bad) ≡ false = grind (arith, nat_tests) in rw (e, none) refl

-- the hardware of settings whose bad slots are in order, if its parts fit together
pub no_hardware : {H : Type 0} (s : SettingsValue) (h : Hardware) (r : Result H HardFault) (o : Option H) → IsOk r ↔ (hard_fault h ≡ None) → o ≡ result_ok r → length s.bad ≤ 630 → list_any (nat_lt s.last) s.bad ≡ false → h ≡ hardware_by s → IsNone o ↔ (is_faulty s ≡ true)
no_hardware s h r o ok is few none same =
    let faulty : is_faulty s ≡ is_some (hard_fault h) = is_faulty-hardware s few none ∙ ap (λ x. is_some (hard_fault x)) (sym same) in
    rw (is, faulty) (by r (hard_fault h) ok) where
      by : {H : Type 0} (r : Result H HardFault) (f : Option HardFault) → IsOk r ↔ (f ≡ None) → IsNone (result_ok r) ↔ (is_some f ≡ true)
      by (Ok x) None ok = (λ e. absurd (cc), λ e. absurd (cc))
      by (Ok x) (Some k) ok = let no : Some k ≡ None = ok.0 refl in absurd (cc)
      by (Err k) None ok = absurd (false≢true (ok.1 refl))
      by (Err k) (Some j) ok = (λ e. refl, λ e. refl)

sound_parts : (a b c : Bool) → (a || b || c) ≡ false → (a ≡ false) × (b ≡ false)
sound_parts true b c e = absurd (cc)
sound_parts false true c e = absurd (cc)
sound_parts false false c e = (refl, refl)

sound : (s : SettingsValue) → is_faulty s ≡ false → (nat_lt 630 (length s.bad) ≡ false) × (list_any (nat_lt s.last) s.bad ≡ false)
unfolding is_faulty
sound s e = sound_parts (nat_lt 630 (length s.bad)) (list_any (nat_lt s.last) s.bad) (is_some (hard_fault (hardware_by s))) e

pub few_bad : (s : SettingsValue) → is_faulty s ≡ false → length s.bad ≤ 630
few_bad s e = let few = (sound s e).0 in grind (arith, nat_tests)

none_above : (last : ℕ) (slots : List ℕ) → list_any (nat_lt last) slots ≡ false → All (λ slot. slot ≤ last) slots
none_above last [] e k d in_slots = absurd (omega arith)
none_above last (slot ∷ slots) e zero d in_slots = by (nat_lt last slot) refl e where
  by : (b : Bool) → nat_lt last slot ≡ b → (b || list_any (nat_lt last) slots) ≡ false → slot ≤ last
  by true is e = absurd (cc)
  by false is e = grind (arith, nat_tests)
none_above last (slot ∷ slots) e (suc k) d in_slots = none_above last slots (by (nat_lt last slot) e) k d (omega arith) where
  by : (b : Bool) → (b || list_any (nat_lt last) slots) ≡ false → list_any (nat_lt last) slots ≡ false
  by true e = absurd (cc)
  by false e = e

-- each bad slot is one that an area may have
pub bad_within : (s : SettingsValue) → AreFitting s → is_faulty s ≡ false → All (λ slot. (1 ≤ slot) × (slot ≤ s.last)) s.bad
bad_within s fits e = λ k d in_bad. (fits.bad k d in_bad, none_above s.last s.bad (sound s e).1 k d in_bad)
