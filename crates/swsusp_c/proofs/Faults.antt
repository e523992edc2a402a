-- Which code the tests of a machine lead to.
use Rattle.std.proofs.Common.{◌≡◌, ℕ, ◌+◌, ◌^◌, ◌<◌, ◌≤◌, ◌⊎◌, inl, inr, ◌||◌, List, [], ◌∷◌, Bool, true, false, None, eqb, refl, ap, sym, ◌∙◌, arith}
use Rattle.std.proofs.lemmas.Bool.{false≢true, eq-eqb, ne_eqb, le-leb, lt-leb, lt-ltb}
use Rattle.std.specs.Prelude.{nat_le, nat_lt, is_some}
use Rattle.boot_resume.specs.Memory.{AreApart, AreBehind}
use Rattle.boot_resume.specs.Ranges.{IsMachineFault, misplaced}
use Rattle.boot_resume.specs.declared.machine.FrameRange.{FrameRange}
use Rattle.boot_resume.specs.declared.machine.MachineFault.{MachineFault}
use Rattle.boot_resume.specs.declared.machine.MachineFault.TheVariants.{Memory, Present, Header}
use Rattle.swsusp_c.specs.Codes.{code_where, fault_code, header_code, identity_code, machine_code, memory_code, or_code, present_code}
use Rattle.swsusp_c.specs.Told.{IsTaken}
use Rattle.swsusp_c.specs.declared.machine.SwsuspMachine.{SwsuspMachine}

where_so : (wrong : Bool) (code : ℕ) → wrong ≡ true → code_where wrong code ≡ code
where_so wrong code is = ap (λ x. code_where x code) is

where_not : (wrong : Bool) (code : ℕ) → wrong ≡ false → code_where wrong code ≡ 0
where_not wrong code is = ap (λ x. code_where x code) is

next_code : (code next : ℕ) → code ≡ 0 → or_code code next ≡ next
next_code code next is = ap (λ x. or_code x next) is

none_misplaced : (floor index : ℕ) (rs : List FrameRange) → AreBehind floor rs → misplaced floor index rs ≡ None
none_misplaced floor index [] apart = refl
none_misplaced floor index (r ∷ rs) apart =
    rw (le-leb floor r.start apart.0, lt-ltb r.start r.end apart.1.0) (none_misplaced r.end (index + 1) rs apart.1.1)

memory_right : (memory : List FrameRange) → AreApart memory → memory_code memory ≡ 0
memory_right memory apart = ap (λ o. code_where (is_some o) 3) (none_misplaced 0 0 memory apart)

either_so : (a b : Bool) → (a ≡ true) ⊎ (b ≡ true) → (a || b) ≡ true
either_so true b is = refl
either_so false b (inl is) = absurd (false≢true is)
either_so false b (inr is) = is

neither_so : (a b : Bool) → a ≡ false → b ≡ false → (a || b) ≡ false
neither_so a b first second = ap (λ x. x || b) first ∙ second

present_right : (n : ℕ) → 0 < n → n < 2 ^ 52 → present_code n ≡ 0
present_right n some few =
    where_not (eqb n 0 || nat_le (2 ^ 52) n) 4 (neither_so (eqb n 0) (nat_le (2 ^ 52) n) (ne_eqb n 0 (λ is. omega (arith, is, some))) (lt-leb (2 ^ 52) n few))

present_wrong : (n : ℕ) → (n ≡ 0) ⊎ (2 ^ 52 ≤ n) → present_code n ≡ 4
present_wrong n (inl none) = where_so (eqb n 0 || nat_le (2 ^ 52) n) 4 (either_so (eqb n 0) (nat_le (2 ^ 52) n) (inl (eq-eqb n 0 none)))
present_wrong n (inr most) = where_so (eqb n 0 || nat_le (2 ^ 52) n) 4 (either_so (eqb n 0) (nat_le (2 ^ 52) n) (inr (le-leb (2 ^ 52) n most)))

header_right : (blocks header : ℕ) → header < blocks → header_code blocks header ≡ 0
header_right blocks header within = where_not (nat_le blocks header) 5 (lt-leb blocks header within)

header_wrong : (blocks header : ℕ) → blocks ≤ header → header_code blocks header ≡ 5
header_wrong blocks header beyond = where_so (nat_le blocks header) 5 (le-leb blocks header beyond)

identity_right : (identity : ℕ) → identity ≤ 2 → identity_code identity ≡ 0
identity_right identity few = where_not (nat_lt 2 identity) 6 (lt-leb 3 identity (omega (arith, few)))

module _ (told : SwsuspMachine) (memory : List FrameRange) (few : told.identity ≤ 2) where
  after_identity : machine_code told memory ≡ or_code (memory_code memory) (or_code (present_code told.present) (header_code told.blocks told.header))
  after_identity = next_code (identity_code told.identity) (or_code (memory_code memory) (or_code (present_code told.present) (header_code told.blocks told.header))) (identity_right told.identity few)

  after_memory : AreApart memory → machine_code told memory ≡ or_code (present_code told.present) (header_code told.blocks told.header)
  after_memory apart = after_identity ∙ next_code (memory_code memory) (or_code (present_code told.present) (header_code told.blocks told.header)) (memory_right memory apart)

  after_present : AreApart memory → 0 < told.present → told.present < 2 ^ 52 → machine_code told memory ≡ header_code told.blocks told.header
  after_present apart some less = after_memory apart ∙ next_code (present_code told.present) (header_code told.blocks told.header) (present_right told.present some less)

  pub fault_told : (why : MachineFault) → IsMachineFault memory told.present told.blocks told.header why → fault_code why ≡ machine_code told memory
  fault_told (Memory index) fault =
      sym (after_identity ∙ ap (λ o. or_code (code_where (is_some o) 3) (or_code (present_code told.present) (header_code told.blocks told.header))) fault)
  fault_told (Present n) fault =
      sym (after_memory fault.0 ∙ ap (λ x. or_code x (header_code told.blocks told.header)) (present_wrong told.present fault.1.1))
  fault_told (Header n) fault =
      sym (after_present fault.0 fault.1.0 fault.1.1.0 ∙ header_wrong told.blocks told.header fault.1.1.1.1)

pub right_code : (told : SwsuspMachine) (memory : List FrameRange) → IsTaken told memory → machine_code told memory ≡ 0
right_code told memory taken =
    after_present told memory taken.identity taken.ranges taken.some taken.few ∙ header_right told.blocks told.header taken.header
