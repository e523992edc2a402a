-- A script as far as it is read.
use Rattle.std.specs.Prelude.{◌≡◌, ◌<◌, ◌≤◌, All, List, [], false, length, Option, MatchOption}
use Rattle.plain_machine.specs.declared.event.Event.{Event}
use Rattle.plain_machine.specs.Fitting.{IsFitting}
use Rattle.plain_machine.specs.Machine.{Hardware}
use Rattle.script.specs.Settings.{SettingsValue, hardware_by, is_faulty}
use Rattle.script.specs.Items.{AreFitting}
use Rattle.script.specs.Shapes.{IsScripted}

-- the settings so far, their hardware from the first event on, and the events so far
pub record Reading : Type 0 where
  pub settings : SettingsValue
  pub hardware : Option Hardware
  pub events : List Event

-- the hardware that the settings describe, once there is an event
pub record IsSettled (r : Reading) (h : Hardware) : Type 0 where
  pub begun : 0 < length r.events
  pub hardware : h ≡ hardware_by r.settings
  pub sound : is_faulty r.settings ≡ false

-- everything read is what lines may give, and the hardware is known if and only if there is an event
pub record IsOfLines (r : Reading) : Type 0 where
  pub settings : AreFitting r.settings
  pub few : length r.events ≤ 100000
  pub fits : All IsFitting r.events
  pub scripted : All IsScripted r.events
  pub hardware_at_events : MatchOption r.hardware (r.events ≡ []) (IsSettled r)
