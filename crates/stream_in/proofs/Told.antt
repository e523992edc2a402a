-- A result that is refused with the fault that there is, and one that isn't refused.
use Rattle.std.proofs.Common.{◌≡◌, ◌↔◌, refl, sym, ◌∙◌, Option, Some, None, Result, Ok, Err, IsOk, IfOk}

pub refused : {A E : Type 0} (r : Result A E) (o : Option E) (e : E) → r ≡ Err e → o ≡ Some e → (f : E) → (r ≡ Err f) ↔ (o ≡ Some f)
refused r o e r_is o_is f = (λ is. cc, λ is. cc)

pub passed : {A E : Type 0} (r : Result A E) (o : Option E) (x : A) → r ≡ Ok x → o ≡ None → (f : E) → (r ≡ Err f) ↔ (o ≡ Some f)
passed r o x r_is o_is f = (λ is. cc, λ is. cc)

-- if a result reports the fault and isn't refused, there is no fault
pub none_from : {A E : Type 0} (r : Result A E) (o : Option E) (x : A) → r ≡ Ok x → ((f : E) → (r ≡ Err f) ↔ (o ≡ Some f)) → o ≡ None
none_from r None x is told = refl
none_from r (Some e) x is told = let no : r ≡ Err e = (told e).1 refl in cc

-- and where it is refused, this is the fault
pub some_from : {A E : Type 0} (r : Result A E) (o : Option E) (e : E) → r ≡ Err e → ((f : E) → (r ≡ Err f) ↔ (o ≡ Some f)) → o ≡ Some e
some_from r o e is told = (told e).0 is

-- two results that report the same fault
pub told_along : {A B E : Type 0} (r : Result A E) (s : Result B E) (o : Option E) (e : E) → r ≡ Err e → s ≡ Err e → ((f : E) → (r ≡ Err f) ↔ (o ≡ Some f)) → (f : E) → (s ≡ Err f) ↔ (o ≡ Some f)
told_along r s o e r_is s_is told f = refused s o e s_is (some_from r o e r_is told) f

-- the fault of one is that of the other
pub told_as : {A E : Type 0} (r : Result A E) (o p : Option E) → o ≡ p → ((f : E) → (r ≡ Err f) ↔ (p ≡ Some f)) → (f : E) → (r ≡ Err f) ↔ (o ≡ Some f)
told_as r o p same told f = (λ is. same ∙ (told f).0 is, λ is. (told f).1 (sym same ∙ is))

-- what holds of a result that isn't refused
pub ok_from : {A E : Type 0} (r : Result A E) (o : Option E) (P Q : A → Type 0) → ((f : E) → (r ≡ Err f) ↔ (o ≡ Some f)) → IfOk r P → ((x : A) → o ≡ None → P x → Q x) → IfOk r Q
ok_from (Ok x) o P Q told p step = step x (none_from (Ok x) o x refl told) p
ok_from (Err e) o P Q told p step = tt

-- two facts of such a result are one fact
pub both : {A E : Type 0} (r : Result A E) (P Q R : A → Type 0) → ((x : A) → P x → Q x → R x) → IfOk r P → IfOk r Q → IfOk r R
both (Ok x) P Q R join p q = join x p q
both (Err e) P Q R join p q = tt

pub refused_ok : {A E : Type 0} (r : Result A E) (o : Option E) (e : E) → r ≡ Err e → o ≡ Some e → IsOk r ↔ (o ≡ None)
refused_ok (Ok x) o e r_is o_is = cc
refused_ok (Err x) o e r_is o_is = (λ no. cc, λ none. cc)
