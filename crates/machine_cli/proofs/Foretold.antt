-- What a check foretells of the machine of a dump.
use Rattle.std.proofs.Common.{◌≡◌, ◌≤◌, ℕ, ◌+◌, subst, sym, arith}
use Rattle.definitions.specs.Disk as disk
use Rattle.command_core.specs.declared.ending.Ended.{Ended}
use Rattle.machine_cli.specs.Foretold.{Foretells}
use Rattle.plain_machine.specs.Chain.{Marked}
use Rattle.plain_machine.specs.Machine.{Hardware, Memory}
use Rattle.plain_machine.specs.UsableArea.{HasOriginal}
use Rattle.plain_machine.specs.declared.event.IdentCheck.{IdentCheck}

-- a machine that is that of a dump foretells what the dump's would
pub foretold_by : (h : Hardware) (m : Memory) (h' : Hardware) (m' : Memory) → h ≡ h' → m ≡ m' → (check : IdentCheck) (c : disk.Content) (frames : Memory) (ended : Ended) →
    (Marked h' (disk.as_it_reads c) → HasOriginal h' (disk.as_it_reads c)) →
    ((Marked h (disk.as_it_reads c) → HasOriginal h (disk.as_it_reads c)) → Foretells h m check (disk.as_it_reads c) frames ended) →
    Foretells h' m' check (disk.as_it_reads c) frames ended
foretold_by h m h' m' hw memory check c frames ended original foretells =
    let v = disk.as_it_reads c in
    subst (λ (x : Memory). Foretells h' x check v frames ended) memory
    (subst (λ (g : Hardware). Foretells g m check v frames ended) hw (foretells (subst (λ (g : Hardware). Marked g v → HasOriginal g v) (sym hw) original)))

pub few_more : (calls : ℕ) → calls ≤ calls + 65800
few_more calls = omega arith
