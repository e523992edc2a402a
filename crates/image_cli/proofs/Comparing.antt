-- From two images that are compared to two that may each be compressed.
use Rattle.std.proofs.Common.{◌≡◌, ℕ, Bool, List, Option, ap₂, sym, subst, ◌∙◌}
use Rattle.definitions.specs.Disk.{Content}
use Rattle.command_kit.specs.View.{SinkView}
use Rattle.command_kit.specs.declared.status.Status.{Status}
use Rattle.image_check.specs.Told.{Told}
use Rattle.image_cli.specs.Differs.{Differs}
use Rattle.image_differ.specs.Sides.{OnlyReads, SideView}
use Rattle.image_cli.specs.ExpandedDiffers.{DiffersFrom, DiffersOver, DiffersSecond, LacksMemory, read_as}
use Rattle.sector_disk.specs.declared.orders.Order.{Order}
use Rattle.image_cli.proofs.Running.{Alike}

-- a side after its disk was read
read_view : (v w : SideView) → OnlyReads v w → w ≡ read_as v.content v.blocks v.header w.faults v.orders w.told
read_view v w f =
    ap₂ (λ (x : Option Content) (y : ℕ). record { content = x; blocks = y; faults = w.faults; orders = w.orders; header = w.header; told = w.told }) f.content f.blocks
    ∙ ap₂ (λ (x : ℕ) (y : List Order). record { content = v.content; blocks = v.blocks; faults = w.faults; orders = y; header = x; told = w.told }) f.header f.orders

pub from_read : (first_only : Bool) (a a' v w : SideView) (status : Status) (out out' note note' : SinkView) → OnlyReads v w → Differs first_only a a' v w status out out' note note' → DiffersFrom first_only a a' v.told w.told status out out' note note' v.content v.blocks v.header v.faults w.faults
from_read first_only a a' v w status out out' note note' f h =
    (v.orders, subst (λ (x : SideView). Differs first_only a a' v x status out out' note note') (read_view v w f) h)

pub over_read : (first_only : Bool) (v w b b' : SideView) (status : Status) (out out' note note' : SinkView) → OnlyReads v w → DiffersSecond first_only v w b b' status out out' note note' → DiffersOver first_only v.told w.told b b' status out out' note note' v.content v.blocks v.header v.faults w.faults
over_read first_only v w b b' status out out' note note' f h =
    (v.orders, subst (λ (x : SideView). DiffersSecond first_only v x b b' status out out' note note') (read_view v w f) h)

-- after nothing was told

pub from_since : (first_only : Bool) (a a' : SideView) (told then told' : Told) (status : Status) (out out' note note' : SinkView) → then ≡ told →
    Alike (DiffersFrom first_only a a' then told' status out out' note note') (DiffersFrom first_only a a' told told' status out out' note note')
from_since first_only a a' told then told' status out out' note note' same c n h b f runs =
    subst (λ (t : Told). DiffersFrom first_only a a' t told' status out out' note note' c n h b f) same runs

pub over_since : (first_only : Bool) (told then told' : Told) (b b' : SideView) (status : Status) (out out' note note' : SinkView) → then ≡ told →
    Alike (DiffersOver first_only then told' b b' status out out' note note') (DiffersOver first_only told told' b b' status out out' note note')
over_since first_only told then told' b b' status out out' note note' same c n h t f runs =
    subst (λ (x : Told). DiffersOver first_only x told' b b' status out out' note note' c n h t f) same runs

pub lacks_since : (told told' other then other' : Told) (status : Status) (out out' note note' : SinkView) → then ≡ other → LacksMemory told told' then other' status out out' note note' → LacksMemory told told' other other' status out out' note note'
lacks_since told told' other then other' status out out' note note' same h =
    subst (λ (t : Told). LacksMemory told told' t other' status out out' note note') same h

pub first_lacks_since : (told then told' other other' : Told) (status : Status) (out out' note note' : SinkView) → then ≡ told → LacksMemory then told' other other' status out out' note note' → LacksMemory told told' other other' status out out' note note'
first_lacks_since told then told' other other' status out out' note note' same h =
    subst (λ (t : Told). LacksMemory t told' other other' status out out' note note') same h
