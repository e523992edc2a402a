-- The numbers of a call, by their names in include/swsusp.h.
use Rattle.std.specs.Prelude.{ℕ, Bool, ◌==◌, ◌||◌, Option, Some, None, if◌then◌else◌}
use Rattle.definitions.specs.declared.info.Field.{Field}
use Rattle.definitions.specs.declared.info.Field.TheVariants as field
use Rattle.boot_resume.specs.declared.call.Call.{Call}
use Rattle.boot_resume.specs.declared.call.Call.TheVariants.{Sync, Read, Write, Page, Done, Refused, Failed}
use Rattle.boot_resume.specs.declared.call.FailedCall.{FailedCall}
use Rattle.boot_resume.specs.declared.call.FailedCall.TheVariants as failed
use Rattle.boot_resume.specs.declared.call.Left.{Left}
use Rattle.boot_resume.specs.declared.call.Left.TheVariants as left
use Rattle.boot_resume.specs.declared.cause.Cause.{Cause}
use Rattle.boot_resume.specs.declared.cause.Cause.TheVariants as cause
use Rattle.swsusp_c.specs.declared.calls.SwsuspCall.{SwsuspCall}

abbrev pub numbers : (kind reason first second : ℕ) → SwsuspCall
numbers k r a b = record { kind = k; reason = r; first = a; second = b }

abbrev pub field_code : Field → ℕ
field_code field.VersionCode = 1
field_code field.Sysname = 2
field_code field.Release = 3
field_code field.Version = 4
field_code field.Machine = 5

abbrev pub cause_code : Cause → SwsuspCall
cause_code cause.NoImage = numbers 6 1 0 0
cause_code (cause.Compressed flags) = numbers 6 2 flags 0
cause_code (cause.HwMismatch image machine) = numbers 6 3 image machine
cause_code cause.NoChain = numbers 6 4 0 0
cause_code (cause.BadBlock b) = numbers 6 5 b 0
cause_code (cause.ChainEnds j) = numbers 6 6 j 0
cause_code (cause.Mismatch f) = numbers 6 7 (field_code f) 0
cause_code cause.Architecture = numbers 6 8 0 0
cause_code (cause.MemorySize image machine) = numbers 6 9 image machine
cause_code (cause.BadCounts n pages) = numbers 6 10 n pages
cause_code (cause.BadPfn p) = numbers 6 11 p 0
cause_code (cause.PfnOrder a b) = numbers 6 12 a b
cause_code (cause.PfnEnd w) = numbers 6 13 w 0

abbrev pub failed_code : FailedCall → ℕ
failed_code failed.Sync = 1
failed_code failed.Read = 2
failed_code failed.Write = 3
failed_code failed.Page = 4

abbrev pub left_code : Left → ℕ
left_code left.Same = 1
left_code left.Unsure = 2
left_code left.Gone = 3

abbrev pub call_code : Call → SwsuspCall
call_code Sync = numbers 1 0 0 0
call_code (Read b) = numbers 2 0 b 0
call_code (Write b) = numbers 3 0 b 0
call_code (Page p) = numbers 4 0 p 0
call_code (Done n) = numbers 5 0 n 0
call_code (Refused why) = cause_code why
call_code (Failed call left) = numbers 7 (failed_code call) (left_code left) 0

-- the call of these numbers, if it is one that the caller makes
abbrev pub live_call : SwsuspCall → Option Call
live_call c =
    if c.kind == 1 then Some Sync
    else (if c.kind == 2 then Some (Read c.first)
    else (if c.kind == 3 then Some (Write c.first) else (if c.kind == 4 then Some (Page c.first) else None)))

-- whether these numbers say that there is no further call
abbrev pub is_over : SwsuspCall → Bool
is_over c = (c.kind == 5) || ((c.kind == 6) || (c.kind == 7))
