-- What a world over a dump's memory did is what the dump's machine did.
use Rattle.std.proofs.Common.{◌≡◌, List, subst}
use Rattle.plain_machine.specs.Machine.{Hardware, Memory}
use Rattle.plain_machine.specs.Shows.{WorldView}
use Rattle.plain_machine.specs.declared.event.Event.{Event}
use Rattle.plain_machine.specs.declared.reply.Reply.{Reply}
use Rattle.sector_disk.specs.declared.disk.Disk.{Ghosts}
use Rattle.command_core.specs.Runs.{RanAs}

pub ran_as : {X : Type 0} (D : Ghosts X) (IsThis : List Event → List Reply → Type 0) (h h' : Hardware) (m m' : Memory) (shown : WorldView) (x y : X) → h ≡ h' → m ≡ m' → RanAs IsThis D h m shown x y → RanAs IsThis D h' m' shown x y
ran_as D IsThis h h' m m' shown x y hw memory ran =
    subst (λ (g : Hardware). RanAs IsThis D g m' shown x y) hw (subst (λ (n : Memory). RanAs IsThis D h n shown x y) memory ran)
