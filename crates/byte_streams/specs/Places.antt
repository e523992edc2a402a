-- The places of standard streams among a program's descriptors: 0 is standard input, 1 standard output, 2 standard
-- error (unistd.h).
use Rattle.std.specs.Prelude.{◌≡◌, ◌⊎◌, ℤ, pos, IfSome}
use Rattle.std.specs.Fd.{file_raw_fd}
use Rattle.byte_streams.specs.declared.standard.Held.{Held}

abbrev pub IsInput : ℤ → Type 0
IsInput place = place ≡ pos 0

abbrev pub IsOutput : ℤ → Type 0
IsOutput place = (place ≡ pos 1) ⊎ (place ≡ pos 2)

-- Each file that is kept takes the place of a standard stream, so no other file of the program can take it.
pub record TakesPlaces (held : Held) : Type 0 where
  pub input : IfSome held.input (λ file. IsInput (file_raw_fd file))
  pub first : IfSome held.first (λ file. IsOutput (file_raw_fd file))
  pub second : IfSome held.second (λ file. IsOutput (file_raw_fd file))
