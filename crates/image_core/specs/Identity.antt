-- Whose image it is, by its info page (struct swsusp_info, kernel/power/power.h).
use Rattle.std.specs.Prelude.{ℕ, ◌==◌, List, if◌then◌else◌}
use Rattle.definitions.specs.Bytes.{bytes_at, number_at, word}
use Rattle.definitions.specs.InfoPage.{text_of_name}
use Rattle.image_check.specs.Info.{is_version_text, magic}
use Rattle.elf_core.specs.Machines.{machine_of_name}

-- What precedes the counts: the six names or the header of an architecture, 2 bytes, and the version code.
abbrev pub identity_of : List ℕ → List ℕ
identity_of info = bytes_at 396 info 0

-- the machine of the header of an architecture (EM_X86_64, EM_AARCH64, or EM_NONE)
abbrev pub arch_machine : List ℕ → ℕ
arch_machine info =
    if word info 3 == magic then 62 else (if is_version_text (text_of_name (bytes_at 65 info 0)) then 183 else 0)

-- the machine's ELF number: an info page without a version code begins with the header of an architecture, and another
-- one has the name of the machine as its fifth name
unfoldable pub machine_of : List ℕ → ℕ
machine_of info =
    if number_at 4 info 392 == 0 then arch_machine info else machine_of_name (text_of_name (bytes_at 65 info 260))
