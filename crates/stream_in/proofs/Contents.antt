-- Calls of the disk in a row, by what they make of its content where it is told.
use Rattle.std.proofs.Common.{◌≡◌, Option, Some, None, IfSome, Result, Ok, Err, OnOk, OnErr, IfErr, sym, subst}
use Rattle.definitions.specs.Disk.{Content, Changes}

pub changes_then : (R S T : Content → Content → Type 0) (a b c : Option Content) → ((x y z : Content) → R x y → S y z → T x z) → Changes R a b → Changes S b c → Changes T a c
changes_then R S T None None None step r s = tt
changes_then R S T None None (Some z) step r s = absurd s
changes_then R S T None (Some y) c step r s = absurd r
changes_then R S T (Some x) None c step r s = absurd r
changes_then R S T (Some x) (Some y) None step r s = absurd s
changes_then R S T (Some x) (Some y) (Some z) step r s = step x y z r s

pub changes_as : (R S : Content → Content → Type 0) (a b : Option Content) → ((x y : Content) → R x y → S x y) → Changes R a b → Changes S a b
changes_as R S None None step r = tt
changes_as R S None (Some y) step r = absurd r
changes_as R S (Some x) None step r = absurd r
changes_as R S (Some x) (Some y) step r = step x y r

-- with a fact of the content before
pub changes_from : (P : Content → Type 0) (R S : Content → Content → Type 0) (a b : Option Content) → ((x y : Content) → P x → R x y → S x y) → IfSome a P → Changes R a b → Changes S a b
changes_from P R S None None step p r = tt
changes_from P R S None (Some y) step p r = absurd r
changes_from P R S (Some x) None step p r = absurd r
changes_from P R S (Some x) (Some y) step p r = step x y p r

-- and of the one after
pub changes_to : (P Q : Content → Type 0) (R : Content → Content → Type 0) (a b : Option Content) → ((x y : Content) → R x y → Q y → P x) → Changes R a b → IfSome b Q → IfSome a P
changes_to P Q R None b step r q = tt
changes_to P Q R (Some x) None step r q = absurd r
changes_to P Q R (Some x) (Some y) step r q = step x y r q

pub if_and : (P Q : Content → Type 0) (a : Option Content) → IfSome a P → IfSome a Q → IfSome a (λ x. P x × Q x)
if_and P Q None p q = tt
if_and P Q (Some x) p q = (p, q)

-- a call that leaves the content
pub changes_none : (R : Content → Content → Type 0) (a b : Option Content) → ((x : Content) → R x x) → b ≡ a → Changes R a b
changes_none R a b same e = subst (λ (o : Option Content). Changes R a o) (sym e) (still R a same) where
  still : (R : Content → Content → Type 0) (o : Option Content) → ((x : Content) → R x x) → Changes R o o
  still R None same = tt
  still R (Some x) same = same x

pub if_map : (P Q : Content → Type 0) (a : Option Content) → ((x : Content) → P x → Q x) → IfSome a P → IfSome a Q
if_map P Q None step p = tt
if_map P Q (Some x) step p = step x p

-- What holds of a result.

pub on_ok : {A E : Type 0} (r : Result A E) (P Q : Type 0) → (P → Q) → OnOk r P → OnOk r Q
on_ok (Ok x) P Q step p = step p
on_ok (Err e) P Q step p = tt

pub if_err : {A E : Type 0} (r : Result A E) (P Q : E → Type 0) → ((e : E) → P e → Q e) → IfErr r P → IfErr r Q
if_err (Ok x) P Q step p = tt
if_err (Err e) P Q step p = step e p

pub on_err_any : {A E : Type 0} (r : Result A E) (P : Type 0) → P → OnErr r P
on_err_any (Ok x) P p = tt
on_err_any (Err e) P p = p

pub on_any_err : {A E : Type 0} (r : Result A E) (P : Type 0) → P → IfErr r (λ (e : E). P)
on_any_err (Ok x) P p = tt
on_any_err (Err e) P p = p

pub err_same : {A E : Type 0} (r : Result A E) (x y : E) → r ≡ Err x → r ≡ Err y → x ≡ y
err_same r x y is is' = cc
