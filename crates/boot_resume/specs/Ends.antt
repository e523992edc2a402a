-- The calls that end a resume.
use Rattle.std.specs.Prelude.{Bool, true, false, IsTrue}
use Rattle.boot_resume.specs.declared.call.Call.{Call}
use Rattle.boot_resume.specs.declared.call.Call.TheVariants.{Sync, Read, Write, Page, Done, Refused, Failed}

abbrev pub is_end : Call → Bool
is_end Sync = false
is_end (Read b) = false
is_end (Write b) = false
is_end (Page p) = false
is_end (Done n) = true
is_end (Refused why) = true
is_end (Failed call left) = true

-- a call that nothing follows
abbrev pub IsEnd : Call → Type 0
IsEnd c = IsTrue (is_end c)
