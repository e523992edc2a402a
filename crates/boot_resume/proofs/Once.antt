-- A block that was taken back is no image's.
use Rattle.std.proofs.Common.{◌≡◌, ◌≢◌, ℕ, List, ◌∷◌, length, Bool, true, false, cond, not, nat_eq, Some, refl, sym, ap, ◌∙◌, arith}
use Rattle.std.specs.Cmp.Lexicographic.{pointwise, same_text}
use Rattle.definitions.specs.Bytes.{IsPage, bytes_at, with_bytes}
use Rattle.definitions.specs.Disk.{DiskImage}
use Rattle.definitions.specs.SwapHeader.{image_signature, orig_sig_of, sig_of, taken_back}
use Rattle.definitions.proofs.Marks.{length-bytes_at}
use Rattle.definitions.proofs.PageBytes.{bytes_at-with_bytes}
use Rattle.image_format.specs.AreaKind.{mark_of}
use Rattle.boot_resume.specs.OnDisk.{header_cause, header_in, mode_cause}
use Rattle.boot_resume.specs.Calls.{asks, asks_with, calls, settled_then, unmarked_calls}
use Rattle.boot_resume.specs.declared.call.Call.TheVariants.{Sync, Read, Write}
use Rattle.boot_resume.specs.declared.cause.Cause.TheVariants.{NoImage}
use Rattle.boot_resume.specs.declared.machine.Machine.{Machine}
use Rattle.boot_resume.proofs.Counting.{unless_some}

sig_of-taken_back : (page : List ℕ) → IsPage page → sig_of (taken_back page) ≡ orig_sig_of page
unfolding taken_back
sig_of-taken_back page whole =
    let ten : length (orig_sig_of page) ≡ 10 = length-bytes_at 10 page 4076 (omega arith) in
    ap (λ n. bytes_at n (with_bytes page 4086 (orig_sig_of page)) 4086) (sym ten)
    ∙ bytes_at-with_bytes page 4086 (orig_sig_of page) (omega arith)

other_sig : (page : List ℕ) → (sig_of page ≢ image_signature) → header_cause page ≡ Some NoImage
other_sig page other = by_test (pointwise nat_eq (sig_of page) image_signature) refl where
  by_test : (b : Bool) → pointwise nat_eq (sig_of page) image_signature ≡ b → cond (not b) (Some NoImage) (mode_cause (mark_of page)) ≡ Some NoImage
  by_test true e = absurd (other (same_text (sig_of page) image_signature (sym e)))
  by_test false e = refl

pub calls_once : (m : Machine) (v : DiskImage) (page : List ℕ) → IsPage page → header_in m v ≡ taken_back page → (orig_sig_of page ≢ image_signature) → calls m v ≡ unmarked_calls m
calls_once m v page whole back other =
    let cause : header_cause (header_in m v) ≡ Some NoImage =
    ap header_cause back ∙ other_sig (taken_back page) (λ e. other (sym (sig_of-taken_back page whole) ∙ e)) in
    ap (λ rest. asks Sync ∷ asks (Read m.header) ∷ rest)
    (unless_some (header_cause (header_in m v)) NoImage (asks_with (Write m.header) (taken_back (header_in m v)) ∷ settled_then m v) cause)
