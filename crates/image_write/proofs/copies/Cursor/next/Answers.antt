use Rattle.std.proofs.Common.{◌≡◌, ℕ, ◌+◌, Bool, true, false, not, eqb, cond, get_or, option_copied, sym, ap, ◌∙◌, subst, arith}
use Rattle.std.proofs.lemmas.Option.{same_Some}
use Rattle.std.specs.List.{list_any, Contains}
use Rattle.std.proofs.lemmas.List.Elements.{Contains-get_or}
use Rattle.frame_sets.specs.Places.{members_in}
use Rattle.frame_sets.proofs.Below.{small}
use Rattle.image_write.specs.Copies.{IsPassed, has_data}
use Rattle.image_write.proofs.Cursors.{pass_one, found_next, some_left, next_orig, next_copy, next_pair, ArePaired}
use Rattle.image_write.proofs.copies.Cursor.next.Goals as goal

pub unwrap-orig-requires : goal.unwrap-orig-requires
unwrap-orig-requires c =
    let origs = c.args.origs.now.members in
    let copies = c.args.copies.now.members in
    let zeros = members_in (option_copied c.args.zeros) in
    let pair : ArePaired origs copies = record { up = c.len-count.ensures.set.ascending; copies_up = c.len.ensures.set.ascending; equal = c.requires.equal } in
    let found = c.requires.more.0 in
    let at = c.pairs.invariant found c.requires.more.2 in
    let lt = some_left origs copies zeros c.pairs.self.orig c.pairs.self.copy c.pairs.self.passed found pair at c.requires.more.1 in
    let orig_is = next_orig origs copies zeros c.pairs.self.orig c.pairs.self.copy c.pairs.self.passed found pair at lt in
    rw (c.first_from.ensures, orig_is)

pub unwrap-copy-requires : goal.unwrap-copy-requires
unwrap-copy-requires c =
    let origs = c.args.origs.now.members in
    let copies = c.args.copies.now.members in
    let zeros = members_in (option_copied c.args.zeros) in
    let pair : ArePaired origs copies = record { up = c.len-count.ensures.set.ascending; copies_up = c.len.ensures.set.ascending; equal = c.requires.equal } in
    let found = c.requires.more.0 in
    let at = c.pairs.invariant found c.requires.more.2 in
    let lt = some_left origs copies zeros c.pairs.self.orig c.pairs.self.copy c.pairs.self.passed found pair at c.requires.more.1 in
    let orig_is = next_orig origs copies zeros c.pairs.self.orig c.pairs.self.copy c.pairs.self.passed found pair at lt in
    let copy_is = next_copy origs copies zeros c.pairs.self.orig c.pairs.self.copy c.pairs.self.passed found pair at lt in
    rw (c.first_from-in-pairs.ensures, copy_is)

pub overflow_add-self : goal.overflow_add-self
overflow_add-self c =
    let origs = c.args.origs.now.members in
    let copies = c.args.copies.now.members in
    let zeros = members_in (option_copied c.args.zeros) in
    let pair : ArePaired origs copies = record { up = c.len-count.ensures.set.ascending; copies_up = c.len.ensures.set.ascending; equal = c.requires.equal } in
    let found = c.requires.more.0 in
    let at = c.pairs.invariant found c.requires.more.2 in
    let lt = some_left origs copies zeros c.pairs.self.orig c.pairs.self.copy c.pairs.self.passed found pair at c.requires.more.1 in
    let orig_is = next_orig origs copies zeros c.pairs.self.orig c.pairs.self.copy c.pairs.self.passed found pair at lt in
    let copy_is = next_copy origs copies zeros c.pairs.self.orig c.pairs.self.copy c.pairs.self.passed found pair at lt in
    let orig : c.unwrap-orig.result ≡ get_or origs c.pairs.self.passed 0 = same_Some _ _ (sym c.unwrap-orig.ensures ∙ c.first_from.ensures ∙ orig_is) in
    let copy : c.unwrap-copy.result ≡ get_or copies c.pairs.self.passed 0 = same_Some _ _ (sym c.unwrap-copy.ensures ∙ c.first_from-in-pairs.ensures ∙ copy_is) in
    let low = small c.args.origs.now c.pairs.self.passed c.len-count.ensures.set lt in
    record { fits = omega arith }

pub overflow_add-self-in-pairs : goal.overflow_add-self-in-pairs
overflow_add-self-in-pairs c =
    let origs = c.args.origs.now.members in
    let copies = c.args.copies.now.members in
    let zeros = members_in (option_copied c.args.zeros) in
    let pair : ArePaired origs copies = record { up = c.len-count.ensures.set.ascending; copies_up = c.len.ensures.set.ascending; equal = c.requires.equal } in
    let found = c.requires.more.0 in
    let at = c.pairs.invariant found c.requires.more.2 in
    let lt = some_left origs copies zeros c.pairs.self.orig c.pairs.self.copy c.pairs.self.passed found pair at c.requires.more.1 in
    let orig_is = next_orig origs copies zeros c.pairs.self.orig c.pairs.self.copy c.pairs.self.passed found pair at lt in
    let copy_is = next_copy origs copies zeros c.pairs.self.orig c.pairs.self.copy c.pairs.self.passed found pair at lt in
    let orig : c.unwrap-orig.result ≡ get_or origs c.pairs.self.passed 0 = same_Some _ _ (sym c.unwrap-orig.ensures ∙ c.first_from.ensures ∙ orig_is) in
    let copy : c.unwrap-copy.result ≡ get_or copies c.pairs.self.passed 0 = same_Some _ _ (sym c.unwrap-copy.ensures ∙ c.first_from-in-pairs.ensures ∙ copy_is) in
    let equal = pair.equal in
    let low = small c.args.copies.now c.pairs.self.passed c.len.ensures.set (omega arith) in
    record { fits = omega arith }

pub overflow_add-self-in-pairs-2 : goal.overflow_add-self-in-pairs-2
overflow_add-self-in-pairs-2 c =
    let origs = c.args.origs.now.members in
    let copies = c.args.copies.now.members in
    let zeros = members_in (option_copied c.args.zeros) in
    let pair : ArePaired origs copies = record { up = c.len-count.ensures.set.ascending; copies_up = c.len.ensures.set.ascending; equal = c.requires.equal } in
    let found = c.requires.more.0 in
    let at = c.pairs.invariant found c.requires.more.2 in
    let lt = some_left origs copies zeros c.pairs.self.orig c.pairs.self.copy c.pairs.self.passed found pair at c.requires.more.1 in
    let orig_is = next_orig origs copies zeros c.pairs.self.orig c.pairs.self.copy c.pairs.self.passed found pair at lt in
    let n = c.len-count.ensures.len in
    record { fits = omega arith }

pub returns-then-not-is_in-clause-member : goal.returns-then-not-is_in-clause-member
returns-then-not-is_in-clause-member c =
    let origs = c.args.origs.now.members in
    let copies = c.args.copies.now.members in
    let zeros = members_in (option_copied c.args.zeros) in
    let pair : ArePaired origs copies = record { up = c.len-count.ensures.set.ascending; copies_up = c.len.ensures.set.ascending; equal = c.requires.equal } in
    let found = c.requires.more.0 in
    let at = c.pairs.invariant found c.requires.more.2 in
    let lt = some_left origs copies zeros c.pairs.self.orig c.pairs.self.copy c.pairs.self.passed found pair at c.requires.more.1 in
    let orig_is = next_orig origs copies zeros c.pairs.self.orig c.pairs.self.copy c.pairs.self.passed found pair at lt in
    let copy_is = next_copy origs copies zeros c.pairs.self.orig c.pairs.self.copy c.pairs.self.passed found pair at lt in
    let orig : c.unwrap-orig.result ≡ get_or origs c.pairs.self.passed 0 = same_Some _ _ (sym c.unwrap-orig.ensures ∙ c.first_from.ensures ∙ orig_is) in
    let copy : c.unwrap-copy.result ≡ get_or copies c.pairs.self.passed 0 = same_Some _ _ (sym c.unwrap-copy.ensures ∙ c.first_from-in-pairs.ensures ∙ copy_is) in
    let equal = pair.equal in
    subst (λ (x : ℕ). Contains copies x) (sym copy) (Contains-get_or copies c.pairs.self.passed 0 (omega arith))

pub returns-then-not-is_in-clause-copy : goal.returns-then-not-is_in-clause-copy
returns-then-not-is_in-clause-copy c =
    let origs = c.args.origs.now.members in
    let copies = c.args.copies.now.members in
    let zeros = members_in (option_copied c.args.zeros) in
    let pair : ArePaired origs copies = record { up = c.len-count.ensures.set.ascending; copies_up = c.len.ensures.set.ascending; equal = c.requires.equal } in
    let found = c.requires.more.0 in
    let at = c.pairs.invariant found c.requires.more.2 in
    let lt = some_left origs copies zeros c.pairs.self.orig c.pairs.self.copy c.pairs.self.passed found pair at c.requires.more.1 in
    let orig_is = next_orig origs copies zeros c.pairs.self.orig c.pairs.self.copy c.pairs.self.passed found pair at lt in
    let copy_is = next_copy origs copies zeros c.pairs.self.orig c.pairs.self.copy c.pairs.self.passed found pair at lt in
    let orig : c.unwrap-orig.result ≡ get_or origs c.pairs.self.passed 0 = same_Some _ _ (sym c.unwrap-orig.ensures ∙ c.first_from.ensures ∙ orig_is) in
    let copy : c.unwrap-copy.result ≡ get_or copies c.pairs.self.passed 0 = same_Some _ _ (sym c.unwrap-copy.ensures ∙ c.first_from-in-pairs.ensures ∙ copy_is) in
    let marked : c.is_in.result ≡ list_any (λ q. eqb q (get_or origs c.pairs.self.passed 0)) zeros = c.is_in.ensures ∙ ap (λ (p : ℕ). list_any (λ q. eqb q p) zeros) orig in
    let passes : has_data zeros (next_pair origs copies c.pairs.self.passed) ≡ true = ap not (sym marked ∙ c.if-not-is_in.true) in
    λ n start.
    let here = c.pairs.invariant n start in
    copy ∙ sym (ap (λ (p : ℕ × ℕ). p.1) (found_next origs copies zeros c.pairs.self.orig c.pairs.self.copy c.pairs.self.passed n pair here lt passes))

pub returns-then-not-is_in-clause-passed : goal.returns-then-not-is_in-clause-passed
returns-then-not-is_in-clause-passed c =
    let origs = c.args.origs.now.members in
    let copies = c.args.copies.now.members in
    let zeros = members_in (option_copied c.args.zeros) in
    let pair : ArePaired origs copies = record { up = c.len-count.ensures.set.ascending; copies_up = c.len.ensures.set.ascending; equal = c.requires.equal } in
    let found = c.requires.more.0 in
    let at = c.pairs.invariant found c.requires.more.2 in
    let lt = some_left origs copies zeros c.pairs.self.orig c.pairs.self.copy c.pairs.self.passed found pair at c.requires.more.1 in
    let orig_is = next_orig origs copies zeros c.pairs.self.orig c.pairs.self.copy c.pairs.self.passed found pair at lt in
    let copy_is = next_copy origs copies zeros c.pairs.self.orig c.pairs.self.copy c.pairs.self.passed found pair at lt in
    let orig : c.unwrap-orig.result ≡ get_or origs c.pairs.self.passed 0 = same_Some _ _ (sym c.unwrap-orig.ensures ∙ c.first_from.ensures ∙ orig_is) in
    let copy : c.unwrap-copy.result ≡ get_or copies c.pairs.self.passed 0 = same_Some _ _ (sym c.unwrap-copy.ensures ∙ c.first_from-in-pairs.ensures ∙ copy_is) in
    let marked : c.is_in.result ≡ list_any (λ q. eqb q (get_or origs c.pairs.self.passed 0)) zeros = c.is_in.ensures ∙ ap (λ (p : ℕ). list_any (λ q. eqb q p) zeros) orig in
    let passes : has_data zeros (next_pair origs copies c.pairs.self.passed) ≡ true = ap not (sym marked ∙ c.if-not-is_in.true) in
    λ n start.
    let more = pass_one origs copies zeros c.pairs.self.orig c.pairs.self.copy c.pairs.self.passed n pair (c.pairs.invariant n start) lt in
    rw (orig, copy) (subst (λ (b : Bool). IsPassed origs copies zeros (get_or origs c.pairs.self.passed 0 + 1) (get_or copies c.pairs.self.passed 0 + 1) (c.pairs.self.passed + 1) (n + cond b 1 0)) passes more)

pub pairs-smaller : goal.pairs-smaller
pairs-smaller c =
    let origs = c.args.origs.now.members in
    let copies = c.args.copies.now.members in
    let zeros = members_in (option_copied c.args.zeros) in
    let pair : ArePaired origs copies = record { up = c.len-count.ensures.set.ascending; copies_up = c.len.ensures.set.ascending; equal = c.requires.equal } in
    let found = c.requires.more.0 in
    let at = c.pairs.invariant found c.requires.more.2 in
    let lt = some_left origs copies zeros c.pairs.self.orig c.pairs.self.copy c.pairs.self.passed found pair at c.requires.more.1 in
    let orig_is = next_orig origs copies zeros c.pairs.self.orig c.pairs.self.copy c.pairs.self.passed found pair at lt in
    omega arith

pub pairs-preserved : goal.pairs-preserved
pairs-preserved c =
    let origs = c.args.origs.now.members in
    let copies = c.args.copies.now.members in
    let zeros = members_in (option_copied c.args.zeros) in
    let pair : ArePaired origs copies = record { up = c.len-count.ensures.set.ascending; copies_up = c.len.ensures.set.ascending; equal = c.requires.equal } in
    let found = c.requires.more.0 in
    let at = c.pairs.invariant found c.requires.more.2 in
    let lt = some_left origs copies zeros c.pairs.self.orig c.pairs.self.copy c.pairs.self.passed found pair at c.requires.more.1 in
    let orig_is = next_orig origs copies zeros c.pairs.self.orig c.pairs.self.copy c.pairs.self.passed found pair at lt in
    let copy_is = next_copy origs copies zeros c.pairs.self.orig c.pairs.self.copy c.pairs.self.passed found pair at lt in
    let orig : c.unwrap-orig.result ≡ get_or origs c.pairs.self.passed 0 = same_Some _ _ (sym c.unwrap-orig.ensures ∙ c.first_from.ensures ∙ orig_is) in
    let copy : c.unwrap-copy.result ≡ get_or copies c.pairs.self.passed 0 = same_Some _ _ (sym c.unwrap-copy.ensures ∙ c.first_from-in-pairs.ensures ∙ copy_is) in
    let marked : c.is_in.result ≡ list_any (λ q. eqb q (get_or origs c.pairs.self.passed 0)) zeros = c.is_in.ensures ∙ ap (λ (p : ℕ). list_any (λ q. eqb q p) zeros) orig in
    let fails : has_data zeros (next_pair origs copies c.pairs.self.passed) ≡ false = ap not (sym marked ∙ c.if-not-is_in.false) in
    λ n start.
    let more = pass_one origs copies zeros c.pairs.self.orig c.pairs.self.copy c.pairs.self.passed n pair (c.pairs.invariant n start) lt in
    let same : n + 0 ≡ n = omega arith in
    rw (orig, copy) (subst (λ (m : ℕ). IsPassed origs copies zeros (get_or origs c.pairs.self.passed 0 + 1) (get_or copies c.pairs.self.passed 0 + 1) (c.pairs.self.passed + 1) m) same
    (subst (λ (b : Bool). IsPassed origs copies zeros (get_or origs c.pairs.self.passed 0 + 1) (get_or copies c.pairs.self.passed 0 + 1) (c.pairs.self.passed + 1) (n + cond b 1 0)) fails more))
