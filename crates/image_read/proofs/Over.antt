-- A reader over a disk: what the reader calls a fault is what a resume replies.
use Rattle.std.proofs.Common.{◌≡◌, ◌⊎◌, ℕ, List, Option, Some, None, Bool, true, false, cond, inl, inr, refl, ap, ap₂, ◌∙◌}
use Rattle.definitions.specs.Disk as disk
use Rattle.plain_machine.specs.Machine.{Hardware}
use Rattle.plain_machine.specs.Chain.{or_else, is_fault_of, is_at_fault}
use Rattle.plain_machine.specs.declared.reply.Reply.{Reply}
use Rattle.page_core.specs.declared.format.Format.{Format}
use Rattle.image_read.specs.Causes.{reply_of}
use Rattle.image_read.specs.Stream.{IsAreaOf}
use Rattle.image_read.specs.declared.cause.Cause.{Cause}

abbrev pub as_reply : Option Cause → Option Reply
as_reply None = None
as_reply (Some cause) = Some (reply_of cause)

pub same_fault : (h : Hardware) (v : disk.DiskImage) (extents : List (ℕ × ℕ × ℕ)) (last blocks : ℕ) (format : Format) (x : ℕ) → IsAreaOf h v extents last blocks format → is_fault_of extents blocks last x ≡ is_at_fault h v x
same_fault h v extents last blocks format x area =
    ap (λ e. is_fault_of e blocks last x) area.same_extents
    ∙ ap₂ (λ b l. is_fault_of h.extents b l x) area.same_blocks area.same_last

pub as_reply-or_else : (a b : Option Cause) → as_reply (or_else a b) ≡ or_else (as_reply a) (as_reply b)
as_reply-or_else None b = refl
as_reply-or_else (Some x) b = refl

pub as_reply-cond : (b : Bool) (x y : Option Cause) → as_reply (cond b x y) ≡ cond b (as_reply x) (as_reply y)
as_reply-cond true x y = refl
as_reply-cond false x y = refl

-- the first of two, and of a test

pub or_else-none : (a : Option Reply) → or_else a None ≡ a
or_else-none None = refl
or_else-none (Some x) = refl

pub cond-none : (bad : Bool) (cause : Cause) → cond bad (Some cause) None ≡ None → bad ≡ false
cond-none true cause h = cc
cond-none false cause h = refl

-- whether all numbers are listed
pub cases_listed : (o : Option ℕ) → (o ≡ None) ⊎ ((n : ℕ) × (o ≡ Some n))
cases_listed None = inl refl
cases_listed (Some n) = inr (n, refl)
