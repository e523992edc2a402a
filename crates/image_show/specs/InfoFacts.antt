-- What an info page says (struct swsusp_info, kernel/power/power.h; init_header_complete, kernel/power/snapshot.c).
use Rattle.std.specs.Prelude.{ℕ, ◌/◌, ◌%◌, ◌==◌, List, [], ◌∷◌, ◌++◌, if◌then◌else◌, slice_index_or}
use Rattle.definitions.specs.Bytes.{bytes_at, word}
use Rattle.definitions.specs.InfoPage.{info_of, text_of_name}
use Rattle.definitions.specs.declared.info.Ident.{Ident}
use Rattle.byte_streams.specs.declared.facts.name.Name.{Name}
use Rattle.byte_streams.specs.declared.facts.name.Name.TheVariants as name
use Rattle.image_check.specs.Info.{is_version_text, magic}
use Rattle.image_show.specs.declared.facts.fact.Fact.{Fact}
use Rattle.image_show.specs.declared.facts.fact.Fact.TheVariants as fact
use Rattle.image_show.specs.declared.facts.fact.Header.TheVariants.{Generic, X86, Arm64, Unknown}

abbrev pub name_fact : Ident → ℕ → Name → Fact
name_fact ident j key = fact.Name key (slice_index_or ident.names j [])

-- the generic header: the names, and the version code with its numbers (KERNEL_VERSION, include/linux/version.h)
abbrev pub generic_facts : Ident → List Fact
generic_facts ident =
    fact.Header Generic
    ∷ name_fact ident 0 name.Sysname ∷ name_fact ident 1 name.Nodename ∷ name_fact ident 2 name.Release
    ∷ name_fact ident 3 name.Version ∷ name_fact ident 4 name.Machine ∷ name_fact ident 5 name.Domainname
    ∷ fact.VersionCode ident.version_code
    ∷ fact.Kernel (ident.version_code / 65536) (ident.version_code / 256 % 256) (ident.version_code % 256) ∷ []

-- the header of x86-64 (struct restore_data_record, arch/x86/power/hibernate.c); word 3 is its magic number
abbrev pub x86_facts : List ℕ → List Fact
x86_facts page =
    fact.Header X86 ∷ fact.JumpAddress (word page 0) ∷ fact.JumpAddressPhysical (word page 1)
    ∷ fact.Cr3 (word page 2) ∷ fact.MemoryMapChecksum (word page 4) ∷ []

-- the header of arm64 begins with the kernel's version (struct arch_hibernate_hdr, arch/arm64/kernel/hibernate.c)
abbrev pub text_facts : List ℕ → List Fact
text_facts text =
    if is_version_text (text_of_name text) then fact.Header Arm64 ∷ fact.KernelVersion text
    ∷ [] else fact.Header Unknown ∷ []

-- the header of an architecture
abbrev pub arch_facts : List ℕ → List Fact
arch_facts page = if word page 3 == magic then x86_facts page else text_facts (bytes_at 65 page 0)

-- an info page without a version code begins with the header of an architecture
abbrev pub start_facts : List ℕ → Ident → List Fact
start_facts page ident = if ident.version_code == 0 then arch_facts page else generic_facts ident

-- all that an info page says
abbrev pub info_facts : List ℕ → List Fact
info_facts page =
    start_facts page (info_of page).ident
    ++ fact.MemoryPages (info_of page).physpages ∷ fact.ImagePages (info_of page).image_pages
    ∷ fact.StreamPages (info_of page).pages ∷ []
