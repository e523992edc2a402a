-- A machine as lists and numbers: what its caller says of it, independent of where that lies in memory.
use Rattle.std.specs.Prelude.{ℕ, List, Option, Some, None}
use Rattle.definitions.specs.declared.info.Ident.{Ident}
use Rattle.boot_resume.specs.declared.machine.FrameRange.{FrameRange}
use Rattle.boot_resume.specs.declared.machine.Identity.{Identity}
use Rattle.boot_resume.specs.declared.machine.Identity.TheVariants.{Generic, Architecture}

-- what an image's identity is compared with: nothing, a kernel's, or the bytes of an architecture's header
pub data Compared : Type 0 where
  any_kernel : Compared
  same_kernel : Ident → Compared
  same_bytes : List ℕ → Compared

abbrev pub compared_by : Option Identity → Compared
compared_by None = any_kernel
compared_by (Some (Generic kernel)) = same_kernel kernel.now
compared_by (Some (Architecture bytes)) = same_bytes bytes.now

pub record Facts : Type 0 where
  pub memory : List FrameRange
  pub present : ℕ
  pub identity : Compared
  pub hardware_signature : ℕ
  pub blocks : ℕ
  pub header : ℕ

abbrev pub facts : List FrameRange → ℕ → Compared → (s b h : ℕ) → Facts
facts ranges n compared s b h = record {
  memory = ranges;
  present = n;
  identity = compared;
  hardware_signature = s;
  blocks = b;
  header = h;
}
