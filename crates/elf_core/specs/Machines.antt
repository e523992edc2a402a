-- The numbers of machines (e_machine, elf.h: EM_X86_64, EM_AARCH64, EM_386, EM_RISCV, EM_PPC64, EM_S390, EM_LOONGARCH,
-- EM_ARM) by the names that Linux has for them (`uname -m`). 0 is EM_NONE.
use Rattle.std.specs.Prelude.{ℕ, ◌||◌, Bool, List, take, nat_eq, codes, if◌then◌else◌}
use Rattle.std.specs.Cmp.Lexicographic.{pointwise}

abbrev pub is_name : List ℕ → List ℕ → Bool
is_name text name = pointwise nat_eq text name

abbrev pub machine_of_name : List ℕ → ℕ
machine_of_name text =
    if is_name text (codes "x86_64") then 62
    else (if is_name text (codes "aarch64") then 183
    else (if is_name text (codes "i386") || is_name text (codes "i686") then 3
    else (if is_name text (codes "riscv64") then 243
    else (if is_name text (codes "ppc64le") then 21
    else (if is_name text (codes "s390x") then 22
    else (if is_name text (codes "loongarch64") then 258
    else (if is_name (take 3 text) (codes "arm") then 40 else 0)))))))
