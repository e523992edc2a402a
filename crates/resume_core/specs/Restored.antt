-- The memory that a resume restores, by the image that it found (swsusp_arch_resume, and the copy list of
-- kernel/power/snapshot.c).
use Rattle.std.specs.Prelude.{[]}
use Rattle.plain_machine.specs.Machine.{Hardware, Memory}
use Rattle.plain_machine.specs.Loader.{restored}
use Rattle.plain_machine.specs.State.{Load as Resume, Found, not_yet, found_own, found_other}
use Rattle.plain_machine.specs.Trace.{restored_in}

-- Restored, from the image that was found: the pages of an own image, or those of another's on the disk v
abbrev pub restored_found : Hardware → Resume → Found → Memory
restored_found h l not_yet = []
restored_found h l (found_own i) = restored h l.dump l.loader i
restored_found h l (found_other v) = restored_in h l.dump v l.loader

abbrev pub restored_by : Hardware → Resume → Memory
restored_by h l = restored_found h l l.found
