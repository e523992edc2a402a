-- What the tests of two machines' parts say.
use Rattle.std.proofs.Common.{◌≡◌, ℕ, ◌&&◌, Bool, true, false, not, List, refl, sym, ap, ◌∙◌, eqb}
use Rattle.std.proofs.lemmas.Bool.{false≢true}
use Rattle.std.proofs.lemmas.Bool.Decides.{Decides-eqb, Decides-and, Decides-like}
use Rattle.std.proofs.lemmas.Slice.Eq.{slice_eq-Decides}
use Rattle.std.specs.Bool.{Decides}
use Rattle.std.specs.Cmp.Lexicographic.{pointwise}
use Rattle.definitions.specs.declared.info.Ident.{Ident}
use Rattle.plain_machine.specs.Machine.{Hardware}

-- pairs, and triples

abbrev pub same_pair : ℕ × ℕ → ℕ × ℕ → Bool
same_pair x y = eqb x.0 y.0 && eqb x.1 y.1

abbrev pub same_triple : ℕ × ℕ × ℕ → ℕ × ℕ × ℕ → Bool
same_triple x y = (eqb x.0 y.0 && eqb x.1 y.1) && eqb x.2 y.2

pair_decides : (x y : ℕ × ℕ) → Decides (same_pair x y) (x ≡ y)
pair_decides (a, b) (c, d) =
    Decides-like (eqb a c && eqb b d) (λ (p : (a ≡ c) × (b ≡ d)). let e = p.0 in let f = p.1 in let r : ◌≡◌ {A = ℕ × ℕ} (a, b) (c, d) = cc in r)
    (λ (e : ◌≡◌ {A = ℕ × ℕ} (a, b) (c, d)). (ap (λ (x : ℕ × ℕ). x.0) e, ap (λ (x : ℕ × ℕ). x.1) e))
    (Decides-and (eqb a c) (eqb b d) (Decides-eqb a c) (Decides-eqb b d))

triple_decides : (x y : ℕ × ℕ × ℕ) → Decides (same_triple x y) (x ≡ y)
triple_decides (a, b, c) (d, e, f) =
    Decides-like ((eqb a d && eqb b e) && eqb c f)
    (λ (p : ((a ≡ d) × (b ≡ e)) × (c ≡ f)). let x = p.0.0 in let y = p.0.1 in let z = p.1 in let r : ◌≡◌ {A = ℕ × ℕ × ℕ} (a, b, c) (d, e, f) = cc in r)
    (λ (s : ◌≡◌ {A = ℕ × ℕ × ℕ} (a, b, c) (d, e, f)).
    ((ap (λ (x : ℕ × ℕ × ℕ). x.0) s, ap (λ (x : ℕ × ℕ × ℕ). x.1) s), ap (λ (x : ℕ × ℕ × ℕ). x.2) s))
    (Decides-and (eqb a d && eqb b e) (eqb c f) (Decides-and (eqb a d) (eqb b e) (Decides-eqb a d) (Decides-eqb b e)) (Decides-eqb c f))

-- a test of whether two of these lists differ decides whether they are the same

not_decides : {P : Type 0} (t r : Bool) → Decides t P → r ≡ not t → (r ≡ false → P) × (r ≡ true → P → ⊥)
not_decides true r d e = (λ _. d.0 refl, λ is _. false≢true (sym e ∙ is))
not_decides false r d e = (λ is. absurd (false≢true (sym is ∙ e)), λ _ p. false≢true (d.1 p))

pub triples_told : (xs ys : List (ℕ × ℕ × ℕ)) (r : Bool) → r ≡ not (pointwise same_triple xs ys) → (r ≡ false → xs ≡ ys) × (r ≡ true → xs ≡ ys → ⊥)
triples_told xs ys r e =
    not_decides (pointwise same_triple xs ys) r (slice_eq-Decides triple_decides xs ys (pointwise same_triple xs ys) refl) e

pub pairs_told : (xs ys : List (ℕ × ℕ)) (r : Bool) → r ≡ not (pointwise same_pair xs ys) → (r ≡ false → xs ≡ ys) × (r ≡ true → xs ≡ ys → ⊥)
pairs_told xs ys r e =
    not_decides (pointwise same_pair xs ys) r (slice_eq-Decides pair_decides xs ys (pointwise same_pair xs ys) refl) e

-- identities

pub ident_decides : (a b : Ident) (r : Bool) → r ≡ (eqb a.version_code b.version_code && pointwise (pointwise eqb) a.names b.names) → Decides r (a ≡ b)
ident_decides a b r e =
    let names = slice_eq-Decides (λ (x y : List ℕ). slice_eq-Decides Decides-eqb x y (pointwise eqb x y) refl) a.names b.names (pointwise (pointwise eqb) a.names b.names) refl in
    let both = Decides-and (eqb a.version_code b.version_code) (pointwise (pointwise eqb) a.names b.names) (Decides-eqb a.version_code b.version_code) names in (
      λ is.
          let parts = both.0 (sym e ∙ is) in
          ap (λ (n : ℕ). record a { version_code = n }) parts.0 ∙ ap (λ (ns : List (List ℕ)). record b { names = ns }) parts.1,
      λ same. e ∙ both.1 (ap (λ (i : Ident). i.version_code) same, ap (λ (i : Ident). i.names) same),
    )

-- machines with the same parts are the same
pub hardware_same : (a b : Hardware) → b.zones ≡ a.zones → b.slots ≡ a.slots → b.frame_table ≡ a.frame_table → b.slot_table ≡ a.slot_table → b.regions ≡ a.regions → b.ident ≡ a.ident → b.hw_sig ≡ a.hw_sig → b.extents ≡ a.extents → b ≡ a
hardware_same a b zones slots frame_table slot_table regions ident hw_sig extents =
    ap (λ (x : List (ℕ × ℕ)). record b { zones = x }) zones
    ∙ ap (λ (x : ℕ). record b { zones = a.zones; slots = x }) slots
    ∙ ap (λ (x : ℕ). record b { zones = a.zones; slots = a.slots; frame_table = x }) frame_table
    ∙ ap (λ (x : ℕ). record b { zones = a.zones; slots = a.slots; frame_table = a.frame_table; slot_table = x }) slot_table
    ∙ ap (λ (x : List (ℕ × ℕ × ℕ)). record a { regions = x; ident = b.ident; hw_sig = b.hw_sig; extents = b.extents }) regions
    ∙ ap (λ (x : Ident). record a { ident = x; hw_sig = b.hw_sig; extents = b.extents }) ident
    ∙ ap (λ (x : ℕ). record a { hw_sig = x; extents = b.extents }) hw_sig
    ∙ ap (λ (x : List (ℕ × ℕ × ℕ)). record a { extents = x }) extents
