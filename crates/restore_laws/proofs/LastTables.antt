-- The last reply.
use Rattle.std.proofs.Common.{◌≡◌, ℕ, Bool, true, false, cond, Option, Some, None, unwrap_or, is_none, refl, sym, ap, ap₂, ◌∙◌}
use Rattle.std.proofs.lemmas.Option.{none-some}
use Rattle.definitions.specs.Disk as disk
use Rattle.plain_machine.specs.Machine.{Hardware, Memory}
use Rattle.plain_machine.specs.Chain.{or_else}
use Rattle.plain_machine.specs.Trace.{info_in}
use Rattle.plain_machine.specs.UsableArea.{area_block, area_fault, dump_area_fault, has_bad_slots_of, bad_set_fault, first_fault}
use Rattle.plain_machine.specs.declared.no_swap.NoSwap.{NoSwap}
use Rattle.plain_machine.specs.declared.no_swap.NoSwap.TheVariants as no_swap
use Rattle.plain_machine.specs.declared.reply.Reply.{Reply}
use Rattle.plain_machine.specs.declared.reply.Reply.TheVariants as reply
use Rattle.image_format.specs.AreaKind.{area_kind}
use Rattle.image_format.specs.declared.signature.area.Area.{Area}
use Rattle.image_format.specs.declared.signature.area.AreaKind.{AreaKind}
use Rattle.image_format.specs.declared.signature.area.AreaKind.TheVariants.{Swap}
use Rattle.restore_laws.specs.LastReply.{LastResumed, LastRefused, TableAtFault, TablesFit, AreaMisfits, AreaFits, BadSetDiffers, AreaUnusable}

pub last_resumed : LastResumed
last_resumed h dump v ranges none = ap (λ (o : Option Reply). unwrap_or o (reply.Resumed (info_in h v).image_pages)) none

pub last_refused : LastRefused
last_refused h dump v ranges r some = ap (λ (o : Option Reply). unwrap_or o (reply.Resumed (info_in h v).image_pages)) some

-- The tables.

abbrev frame_reply : Option ℕ → Option Reply
frame_reply o = elim o as (λ _. Option Reply) [ None ↦ None | Some f ↦ Some (reply.BadTables f) ]

abbrev cause_of : Hardware → Option ℕ → Option NoSwap → Option Reply
cause_of h tables area = frame_reply (or_else tables (cond (is_none area) None (Some h.slot_table)))

pub table_at_fault : TableAtFault
table_at_fault h v m f fault = ap (λ (o : Option ℕ). cause_of h o (dump_area_fault h v m)) fault

pub tables_fit : TablesFit
tables_fit h v m sound fits = ap₂ (cause_of h) sound fits

pub area_misfits : AreaMisfits
area_misfits h v m why sound misfits = ap₂ (cause_of h) sound misfits

-- The area.

by_area : (h : Hardware) (v : disk.DiskImage) (m : Memory) (area : Area) → area_fault h v ≡ None → area_kind (area_block h v) ≡ Swap area → dump_area_fault h v m ≡ cond (has_bad_slots_of h m area) None (Some no_swap.BadSet)
unfolding dump_area_fault
by_area h v m area usable is = ap₂ (λ (o : Option NoSwap) (k : AreaKind). first_fault o (bad_set_fault h m k)) usable is

bad_set : (b : Bool) → cond b None (Some no_swap.BadSet) ≡ None → b ≡ true
bad_set true e = refl
bad_set false e = absurd (none-some no_swap.BadSet (sym e))

pub area_fits : AreaFits
area_fits h v m area usable is =
    let same = by_area h v m area usable is in
    (λ none. bad_set (has_bad_slots_of h m area) (sym same ∙ none), λ all. same ∙ ap (λ (b : Bool). cond b None (Some no_swap.BadSet)) all)

pub bad_set_differs : BadSetDiffers
bad_set_differs h v m area usable is differs = by_area h v m area usable is ∙ ap (λ (b : Bool). cond b None (Some no_swap.BadSet)) differs

pub area_unusable : AreaUnusable
unfolding dump_area_fault
area_unusable h v m why fault = ap (λ (o : Option NoSwap). first_fault o (bad_set_fault h m (area_kind (area_block h v)))) fault
