-- The calls that a resume has made, the newest first, whatever the disk answered.
use Rattle.std.specs.Prelude.{◌≡◌, ℕ, ◌<◌, List, [], ◌∷◌, ◌++◌, true, nat_lt, Option, Some, None, Result, Ok, Err}
use Rattle.std.specs.Prelude.{if◌then◌else◌}
use Rattle.boot_resume.specs.Ends.{IsEnd}
use Rattle.boot_resume.specs.Memory.{is_memory}
use Rattle.boot_resume.specs.Wanted.{IsRead}
use Rattle.boot_resume.specs.declared.call.Call.{Call}
use Rattle.boot_resume.specs.declared.call.Call.TheVariants.{Sync, Read, Write, Page, Done, Refused, Failed}
use Rattle.boot_resume.specs.declared.call.FailedCall.{FailedCall}
use Rattle.boot_resume.specs.declared.call.FailedCall.TheVariants as failed
use Rattle.boot_resume.specs.declared.call.Left.{Left}
use Rattle.boot_resume.specs.declared.call.Left.TheVariants as left
use Rattle.boot_resume.specs.declared.cause.Cause.{Cause}
use Rattle.boot_resume.specs.declared.machine.Machine.{Machine}
use Rattle.boot_resume.specs.declared.resume.Resume.{Resume}
use Rattle.boot_resume.specs.declared.stage.Move.{Move}
use Rattle.boot_resume.specs.declared.reading.Reading.{Reading}
use Rattle.boot_resume.specs.declared.stage.Stage.{Stage}
use Rattle.boot_resume.specs.declared.stage.Stage.TheVariants as stage

-- the page frame that was handed out last
abbrev pub newest : List Call → Option ℕ
newest [] = None
newest (Page p ∷ made) = Some p
newest (Sync ∷ made) = newest made
newest (Read b ∷ made) = newest made
newest (Write b ∷ made) = newest made
newest (Done n ∷ made) = newest made
newest (Refused why ∷ made) = newest made
newest (Failed call left ∷ made) = newest made

-- The first four calls: the header block was written back with its mark taken back, and the sync after that was done.
abbrev pub first_calls : Machine → List Call
first_calls m = Sync ∷ Write m.header ∷ Read m.header ∷ Sync ∷ []

abbrev pub IsTakenBack : Machine → List Call → Type 0
IsTakenBack m made = (later : List Call) × (made ≡ later ++ first_calls m)

abbrev pub IsAbove : Option ℕ → ℕ → Type 0
IsAbove None p = Unit {0}
IsAbove (Some last) p = last < p

-- a page frame of memory above the one that was handed out last
abbrev pub MayPlace : Machine → ℕ → Option ℕ → Type 0
MayPlace m p last = (is_memory m.memory p ≡ true) × IsAbove last p

-- A page is handed out only after the first four calls, each page frame is above those before it, and the only write is
-- that of the header block, once, directly after its read.
abbrev pub IsSafe : Machine → List Call → Type 0
IsSafe m [] = Unit {0}
IsSafe m (Page p ∷ made) = IsTakenBack m made × (MayPlace m p (newest made) × IsSafe m made)
IsSafe m (Write b ∷ made) = (b ≡ m.header) × ((made ≡ Read m.header ∷ Sync ∷ []) × IsSafe m made)
IsSafe m (Sync ∷ made) = IsSafe m made
IsSafe m (Read b ∷ made) = IsSafe m made
IsSafe m (Done n ∷ made) = IsSafe m made
IsSafe m (Refused why ∷ made) = IsSafe m made
IsSafe m (Failed call left ∷ made) = IsSafe m made

abbrev pub HasBegun : Machine → List Call → Type 0
HasBegun m made = IsTakenBack m made × IsSafe m made

-- the calls made before this stage with this call pending
abbrev pub Asked : Machine → Reading → Stage → Call → List Call → Type 0
Asked m r stage.FirstSync c made = (made ≡ []) × (c ≡ Sync)
Asked m r stage.Header c made = (made ≡ Sync ∷ []) × (c ≡ Read m.header)
Asked m r stage.TakeBack c made = (made ≡ Read m.header ∷ Sync ∷ []) × (c ≡ Write m.header)
Asked m r stage.SettleBack c made = (made ≡ Write m.header ∷ Read m.header ∷ Sync ∷ []) × (c ≡ Sync)
Asked m r stage.ListMap c made = HasBegun m made × ((newest made ≡ None) × IsRead c)
Asked m r stage.ListPage c made = HasBegun m made × ((newest made ≡ None) × IsRead c)
Asked m r stage.NumberMap c made = HasBegun m made × ((newest made ≡ r.last) × IsRead c)
Asked m r stage.NumberPage c made = HasBegun m made × ((newest made ≡ r.last) × IsRead c)
Asked m r stage.DataMap c made = HasBegun m made × ((newest made ≡ r.last) × (IsRead c × MayPlace m r.frame r.last))
Asked m r stage.DataPage c made = HasBegun m made × ((newest made ≡ r.last) × (IsRead c × MayPlace m r.frame r.last))
Asked m r stage.Place c made =
    HasBegun m made × ((newest made ≡ r.last) × ((c ≡ Page r.frame) × MayPlace m r.frame r.last))
Asked m r stage.Ended c made = IsEnd c

-- these calls were made, and together with the pending one they are safe
abbrev pub HasAsked : Machine → Resume → List Call → Type 0
HasAsked m r made = Asked m r.reading r.pending.stage r.pending.call made × IsSafe m (r.pending.call ∷ made)

abbrev pub AsksOn : Machine → Reading → List Call → Result Move Cause → Type 0
AsksOn m r made (Ok to) = Asked m r to.stage to.call made
AsksOn m r made (Err why) = Unit {0}

-- which of the caller's calls failed; a call that ends the resume can't
abbrev pub failed_by : Call → FailedCall
failed_by Sync = failed.Sync
failed_by (Read b) = failed.Read
failed_by (Write b) = failed.Write
failed_by (Page p) = failed.Page
failed_by (Done n) = failed.Page
failed_by (Refused why) = failed.Page
failed_by (Failed call left) = call

-- What a call that fails after `made` calls leaves: the third call writes the block taken back, the fourth syncs it.
abbrev pub left_behind : ℕ → Left
left_behind made = if nat_lt made 2 then left.Same else (if nat_lt made 4 then left.Unsure else left.Gone)

abbrev pub left_at : Stage → Left
left_at stage.FirstSync = left.Same
left_at stage.Header = left.Same
left_at stage.TakeBack = left.Unsure
left_at stage.SettleBack = left.Unsure
left_at stage.ListMap = left.Gone
left_at stage.ListPage = left.Gone
left_at stage.NumberMap = left.Gone
left_at stage.NumberPage = left.Gone
left_at stage.DataMap = left.Gone
left_at stage.DataPage = left.Gone
left_at stage.Place = left.Gone
left_at stage.Ended = left.Gone
