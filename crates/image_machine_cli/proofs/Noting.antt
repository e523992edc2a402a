-- Findings that are noted before the last note.
use Rattle.std.proofs.Common.{◌≡◌, ℕ, ◌≤◌, Option, length, ap, inl, inr, arith}
use Rattle.definitions.specs.Disk.{Content}
use Rattle.definitions.specs.Zones.{top}
use Rattle.image_check.specs.Told.{Told}
use Rattle.image_machine.specs.declared.heading.Layout.{Layout}
use Rattle.image_machine.specs.Headings.{HasNoArea}
use Rattle.image_machine.specs.Makes.{HasLimit, HasMachineLimit, IsLoaderFrom, IsMachineFrom, MakesBy}
use Rattle.image_machine.specs.declared.dump.made.Made.{Made}
use Rattle.image_machine.specs.declared.dump.made.Made.TheVariants.{NoImage, Refused, NoArea, Limit, Dump}
use Rattle.image_machine.specs.declared.limit.Limit.{Limit as OneLimit}
use Rattle.machine.specs.declared.dump.Dump.{Dump as MachineDump}
use Rattle.image_machine_cli.specs.Loads.{HasFrames}
use Rattle.image_machine_cli.specs.Makes.{MakesWanted}
use Rattle.image_machine_cli.specs.declared.wanted.Wanted.{Wanted}
use Rattle.image_machine_cli.specs.declared.wanted.Wanted.TheVariants.{Loader, Saved}

pub same_faults : (told then : Told) → then ≡ told → told.faults ≤ then.faults
same_faults told then e = omega (arith, ap (λ (t : Told). t.faults) e)

-- the faults of the notes don't fall
made_counted : (no_area : Type 0) (limits : OneLimit → Type 0) (dumps : MachineDump → Type 0) (content : Option Content) (blocks header before now : ℕ) (told then : Told) (what : Made) → MakesBy no_area limits dumps content blocks header before now told then what → told.faults ≤ then.faults
made_counted no_area limits dumps content blocks header before now told then NoImage none = same_faults told then none.0
made_counted no_area limits dumps content blocks header before now told then Refused (inl (inl (tells, risen))) = tells.faults
made_counted no_area limits dumps content blocks header before now told then Refused (inl (inr (page, (mark, (read, marked, some, tells))))) = tells.faults
made_counted no_area limits dumps content blocks header before now told then Refused (inr (pages, stopped)) = stopped.told.faults
made_counted no_area limits dumps content blocks header before now told then NoArea (none, untold) = same_faults told then untold
made_counted no_area limits dumps content blocks header before now told then (Limit limit) (untold, has) = same_faults told then untold
made_counted no_area limits dumps content blocks header before now told then (Dump dump) (untold, is) = same_faults told then untold

pub wanted_counted : (wanted : Wanted) (area content : Option Content) (blocks header before now : ℕ) (told then : Told) (layout : Layout) (what : Made) → MakesWanted wanted area content blocks header before now told then layout what → told.faults ≤ then.faults
wanted_counted Loader area content blocks header before now told then layout what makes =
    made_counted (HasNoArea area layout.offset) (HasLimit area content header layout) (IsLoaderFrom area content header layout) content blocks header before now told then what makes
wanted_counted (Saved tables) area content blocks header before now told then layout what makes =
    made_counted (HasNoArea area layout.offset) (HasMachineLimit area content header layout tables) (IsMachineFrom area content header layout tables) content blocks header before now told then what makes

-- a dump that was made has as many page frames as its zones
frames_by : (no_area : Type 0) (limits : OneLimit → Type 0) (dumps : MachineDump → Type 0) (content : Option Content) (blocks header before now : ℕ) (told then : Told) (what : Made) → ((d : MachineDump) → dumps d → length d.frames ≡ top d.hw.zones) →
    MakesBy no_area limits dumps content blocks header before now told then what → HasFrames what
frames_by no_area limits dumps content blocks header before now told then NoImage size makes = tt
frames_by no_area limits dumps content blocks header before now told then Refused size makes = tt
frames_by no_area limits dumps content blocks header before now told then NoArea size makes = tt
frames_by no_area limits dumps content blocks header before now told then (Limit limit) size makes = tt
frames_by no_area limits dumps content blocks header before now told then (Dump dump) size (untold, is) = size dump is

pub wanted_frames : (wanted : Wanted) (area content : Option Content) (blocks header before now : ℕ) (told then : Told) (layout : Layout) (what : Made) → MakesWanted wanted area content blocks header before now told then layout what → HasFrames what
wanted_frames Loader area content blocks header before now told then layout what makes =
    frames_by (HasNoArea area layout.offset) (HasLimit area content header layout) (IsLoaderFrom area content header layout) content blocks header before now told then what (λ d is. is.loader.fits.size) makes
wanted_frames (Saved tables) area content blocks header before now told then layout what makes =
    frames_by (HasNoArea area layout.offset) (HasMachineLimit area content header layout tables) (IsMachineFrom area content header layout tables) content blocks header before now told then what (λ d is. is.machine.fits.size) makes
