-- A walk that meets a subcommand at the first word leaves the words after it to this.
use Rattle.std.proofs.Common.{◌≡◌, ◌∙◌, ◌&&◌, Bool, true, false, refl, sym, ap, ap₂, Option, Some, List, is_some, [], ◌∷◌, ◌++◌}
use Rattle.std.specs.Prelude.{find, fold}
use Rattle.std.specs.List.{list_all}
use Rattle.std.specs.Option.{option_map_or}
use Rattle.clap.specs.Simple.{App, Shape, entered, label_of, names_of}
use Rattle.clap.specs.Takes.{built_takes, default_passes, entered_passes, is_valid, level_passes, settle_passes, turn_passes, walk_passes}
use Rattle.clap.specs.Walk.{Held, Names, Row, Text, Walk, answers_to, finished, nothing_held, rows_after, stop_after, walk, walk_from, walked}
use Rattle.clap.proofs.WalkLemmas.{walk_stopped}

-- the walk's words aren't looked at any more
stopped_passes : (s : Shape) (names : Names) (w : Walk) (p : Text × List Text) (words : List Text) → walk_passes s names (record w { stopped = Some p }) words ≡ true
unfolding walk_passes walked
stopped_passes s names w p [] = refl
stopped_passes s names w p (x ∷ xs) = stopped_passes s names w (p.0, p.1 ++ x ∷ []) xs

abbrev stopped_at : Text → List Text → Walk
stopped_at name words = record (walk_from nothing_held) { stopped = Some (name, words) }

-- what is asked after the walk, where it held nothing
abbrev end_passes : Shape → Held → Bool
end_passes s end =
    settle_passes s.rules s.args_override_self end && (list_all default_passes s.rules && is_valid s (finished s.rules end) true)

-- the built command meets its subcommand by this name
pub record Meets (app : App) (name : Text) (sub : Shape) : Type 0 where
  pub stops : ◌≡◌ {A = Walk} (walked app.top.rules (names_of app) (walk_from nothing_held) name) (stopped_at name [])
  pub turn : turn_passes app.top (names_of app) (walk_from nothing_held) name ≡ true
  pub ends : end_passes app.top nothing_held ≡ true
  pub found : find (λ s. answers_to name (label_of s)) app.subs ≡ Some sub

module _ (app : App) (name : Text) (sub : Shape) (m : Meets app name sub) (words : List Text) where
  walk_is : ◌≡◌ {A = Walk} (walk app.top.rules (names_of app) nothing_held (name ∷ words)) (stopped_at name words)
  walk_is = ap (λ (w : Walk). fold (walked app.top.rules (names_of app)) w words) m.stops
      ∙ sym (walk_stopped app.top.rules (names_of app) (walk_from nothing_held) name [] words)

  walk_is_taken : walk_passes app.top (names_of app) (walk_from nothing_held) (name ∷ words) ≡ true
  unfolding walk_passes
  walk_is_taken = ap₂ (λ a b. a && b) m.turn
      (ap (λ (w : Walk). walk_passes app.top (names_of app) w words) m.stops ∙ stopped_passes app.top (names_of app) (walk_from nothing_held) (name, []) words)

  entered_is : entered app (Some (name, words)) ≡ Some (sub.name, rows_after sub.rules [] words)
  entered_is = rw m.found refl

  level_is_taken : level_passes app.top (names_of app) nothing_held (name ∷ words) true ≡ true
  level_is_taken = ap₂ (λ a b. a && b) walk_is_taken (ap (λ (w : Walk). end_passes app.top w.held) walk_is ∙ m.ends)

  sub_is_taken : level_passes sub [] nothing_held words false ≡ true → entered_passes app (Some (name, words)) ≡ true
  sub_is_taken passes = ap (λ (o : Option Shape). option_map_or (λ s. level_passes s [] nothing_held words false) o true) m.found ∙ passes

  pub takes_built : level_passes sub [] nothing_held words false ≡ true → built_takes app nothing_held (name ∷ words) ≡ true
  takes_built passes =
      ap (λ (w : Walk). entered_passes app w.stopped && level_passes app.top (names_of app) nothing_held (name ∷ words) (is_some (entered app w.stopped))) walk_is
      ∙ ap₂ (λ a b. a && b) (sub_is_taken passes)
      (ap (λ (o : Option (Text × List Row)). level_passes app.top (names_of app) nothing_held (name ∷ words) (is_some o)) entered_is ∙ level_is_taken)

  pub entered_built : entered app (stop_after app.top.rules (names_of app) (name ∷ words)) ≡ Some (sub.name, rows_after sub.rules [] words)
  entered_built = ap (λ (w : Walk). entered app w.stopped) walk_is ∙ entered_is
