-- What ends a resume at a block of the chain.
use Rattle.std.specs.Prelude.{ℕ, nat_lt, Option, Some, None, unwrap_or, if◌then◌else◌}
use Rattle.placement.specs.Plan.{need_for}
use Rattle.plain_machine.specs.declared.reply.Reply.{Reply}
use Rattle.plain_machine.specs.declared.reply.Reply.TheVariants as reply
use Rattle.image_read.specs.Causes.{reply_of}
use Rattle.image_read.specs.declared.cause.Cause.{Cause}

-- the refusal if too few page frames are free for the data pages
abbrev pub room_refusal : ℕ → ℕ → Option Reply
room_refusal have d = if nat_lt have (need_for d) then Some (reply.TooFewLoaderFrames have (need_for d)) else None

-- the refusal at a block at fault: after the last number page, too little room comes first
abbrev pub refusal_behind : Option ℕ → ℕ → ℕ → Cause → Reply
refusal_behind None have d cause = reply_of cause
refusal_behind (Some n) have d cause = unwrap_or (room_refusal have d) (reply_of cause)
