use Rattle.std.proofs.Common.{ℕ, ◌+◌, length, refl, sym, ap, ◌∙◌, arith, ◌≡◌, true, nat_lt}
use Rattle.std.specs.List.{list_any}
use Rattle.script.specs.Settings.{SettingsValue, is_faulty}
use Rattle.script.proofs.SettingsLaws.{above, extents_by, hardware_by-parts, is_faulty-many, is_faulty-above, no_hardware}
use Rattle.script.proofs.settings.Settings.hardware.Goals as goal

pub returns-then-len-gt-MOST_BADPAGES-clause-none : goal.returns-then-len-gt-MOST_BADPAGES-clause-none
returns-then-len-gt-MOST_BADPAGES-clause-none c =
    let faulty : is_faulty c.args.self.now ≡ true = is_faulty-many c.args.self.now (omega (arith, ap (λ (s : SettingsValue). length s.bad) c.self.view_is)) in
    (λ e. faulty, λ e. refl)

pub returns-then-has_above-clause-none : goal.returns-then-has_above-clause-none
returns-then-has_above-clause-none c =
    let any = sym c.has_above.ensures ∙ c.if-has_above.true in
    let slots : list_any (nat_lt c.args.self.now.last) c.args.self.now.bad ≡ list_any (nat_lt c.self.inside.last) c.as_slice.result.now = above c.args.self.now c.self.inside.last c.as_slice.result.now (ap (λ (s : SettingsValue). s.last) c.self.view_is) (c.as_slice.ensures.value ∙ ap (λ (s : SettingsValue). s.bad) c.self.view_is) in
    let faulty : is_faulty c.args.self.now ≡ true = is_faulty-above c.args.self.now (slots ∙ any) in
    (λ e. faulty, λ e. refl)

pub returns-clause-none : goal.returns-clause-none
returns-clause-none c =
    let s = c.args.self.now in
    let view = c.self.view_is in
    let none = sym c.has_above.ensures ∙ c.if-has_above.false in
    let slots : list_any (nat_lt s.last) s.bad ≡ list_any (nat_lt c.self.inside.last) c.as_slice.result.now = above s c.self.inside.last c.as_slice.result.now (ap (λ (s : SettingsValue). s.last) view) (c.as_slice.ensures.value ∙ ap (λ (s : SettingsValue). s.bad) view) in
    let extents = c.or_default.ensures ∙ extents_by s c.self.inside.last c.as_slice-3.result.now (ap (λ (s : SettingsValue). s.last) view) (c.as_slice-3.ensures.value ∙ ap (λ (s : SettingsValue). s.extents) view) in
    no_hardware s _ c.of.result c.ok.result c.of.ensures.ok c.ok.ensures.value (omega (arith, ap (λ (s : SettingsValue). length s.bad) view)) (slots ∙ none)
    (hardware_by-parts s _ _ _ _ _ _ _ _ c.zones-zones.ensures.zones (ap (λ (s : SettingsValue). s.last + 1) view) (ap (λ (p : ℕ × ℕ). p.0) c.tables-frame_table.ensures) (ap (λ (p : ℕ × ℕ). p.1) c.tables-frame_table.ensures)
    (c.as_slice-2.ensures.value ∙ ap (λ (s : SettingsValue). s.regions) view) c.scripted_ident.ensures (ap (λ (s : SettingsValue). s.hw_sig) view) extents)
