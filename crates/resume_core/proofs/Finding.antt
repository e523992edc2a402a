-- The rows of the first sync, and of the read of the header block.
use Rattle.std.proofs.Common.{◌≡◌, inl, inr, ℕ, Bool, true, false, List, Some, None, refl, sym, ap, ◌∙◌, subst, arith}
use Rattle.definitions.specs.Disk as disk
use Rattle.definitions.specs.SwapHeader.{taken_back}
use Rattle.std.proofs.lemmas.Bool.{false≢true}
use Rattle.std.proofs.lemmas.Option.{none-some, same_Some}
use Rattle.image_format.specs.AreaKind.{mark_of, area_kind}
use Rattle.protocol_laws.proofs.LoadReplies.{a_mark, no_mark, gone_early}
use Rattle.protocol_laws.proofs.Marking.{area_block-marked}
use Rattle.image_format.specs.declared.signature.area.Mark.{Mark}
use Rattle.plain_machine.specs.Machine.{Hardware, Memory}
use Rattle.plain_machine.specs.Chain.{header_of, Marked}
use Rattle.plain_machine.specs.State.{off, loading, nothing, sure, other, Load as Resume}
use Rattle.plain_machine.specs.Trace.{header_cause}
use Rattle.plain_machine.specs.declared.event.Event.TheVariants as event
use Rattle.plain_machine.specs.declared.event.Actor.TheVariants as actor
use Rattle.plain_machine.specs.declared.reply.Reply.{Reply}
use Rattle.plain_machine.specs.declared.reply.Reply.TheVariants as reply
use Rattle.plain_machine.specs.declared.reply.Left.TheVariants.{Same}
use Rattle.plain_machine.specs.Machine.{IsHardware}
use Rattle.protocol_laws.specs.LoadRows.{with_finding}
use Rattle.machine.specs.declared.machine.Machine.{Machine}
use Rattle.resume_core.specs.Header.{header_fault}
use Rattle.unmark.specs.Unmarking.{from_write}
use Rattle.resume_core.specs.Loading.{shown_by, activity_at, FindsMark}
use Rattle.resume_core.specs.Row.{ResumeStandsFor, Simulates, KnowsAt, swap_area}
use Rattle.resume_core.specs.declared.load.Load.{Load}
use Rattle.resume_core.specs.declared.load.Stage.{Stage}
use Rattle.resume_core.specs.declared.load.Stage.TheVariants as stage
use Rattle.resume_core.proofs.Headers.{header_faults}
use Rattle.protocol_laws.proofs.LoadRows.{load_sync_row, load_sync_fault_row, find_none_row, find_compressed_row, find_row, find_fault_row}
use Rattle.resume_core.proofs.Facts.{row_at_load, leads, shows_none, count_of, load_told}

abbrev pub stopped : Load → Load
stopped load = record load { stage = stage.Rest }

pub knows_at : (machine : Machine) (frames : Memory) (load : Load) (c : disk.Content) (l : Resume) (k : ℕ) (at : Stage) → load.stage ≡ at → ResumeStandsFor machine frames load c (loading l k) → KnowsAt at machine frames load c l k
knows_at machine frames load c l k at is s = subst (λ (t : Stage). KnowsAt t machine frames load c l k) is s.resume.knows

pub activity_is : (load : Load) (at : Stage) → load.stage ≡ at → activity_at load.stage ≡ activity_at at
activity_is load at is = ap activity_at is

pub synced_row : (machine : Machine) (frames : Memory) (load : Load) (c c' : disk.Content) → load.stage ≡ stage.Sync → disk.IsContent machine.blocks c → disk.Syncs c c' →
    Simulates machine frames load machine frames (record load { stage = stage.Find }) (event.Step actor.Core) (reply.Loading 1) c c'
synced_row machine frames load c c' at whole syncs =
    let new = record load { stage = stage.Find } in
    row_at_load machine frames load machine frames new (event.Step actor.Core) (reply.Loading 1) c c' 0 (activity_is load stage.Sync at)
    (λ l s.
    let knows = knows_at machine frames load c l 0 stage.Sync at s in (
      loading l 1,
      leads machine frames new (reply.Loading 1) c c' (loading l 0) (loading l 1) tt
          (load_sync_row machine.hw (shown_by machine frames load) (shown_by machine frames new) c c' machine.blocks l whole s.stands syncs
          (shows_none machine frames load new c l l 0 1 s refl refl refl (load_told machine frames load c l 0 s) (omega arith) knows.2))
          (record { free = s.resume.free; knows = knows }),
    ))

pub sync_failed_row : (machine : Machine) (frames : Memory) (load : Load) (c : disk.Content) → load.stage ≡ stage.Sync →
    Simulates machine frames load machine frames (stopped load) (event.Step actor.Core) (reply.SyncFault Same) c c
sync_failed_row machine frames load c at =
    row_at_load machine frames load machine frames (stopped load) (event.Step actor.Core) (reply.SyncFault Same) c c 0 (activity_is load stage.Sync at)
    (λ l s. (
      off l.held None,
      leads machine frames (stopped load) (reply.SyncFault Same) c c (loading l 0) (off l.held None) tt
          (load_sync_fault_row machine.hw (shown_by machine frames load) (shown_by machine frames (stopped load)) c l s.stands (refl, refl)) tt,
    ))

pub find_failed_row : (machine : Machine) (frames : Memory) (load : Load) (c : disk.Content) → load.stage ≡ stage.Find →
    Simulates machine frames load machine frames (stopped load) (event.Step actor.Core) (reply.ReadFault Same) c c
find_failed_row machine frames load c at =
    let new = stopped load in
    row_at_load machine frames load machine frames new (event.Step actor.Core) (reply.ReadFault Same) c c 1 (activity_is load stage.Find at)
    (λ l s. (
      off l.held None,
      leads machine frames new (reply.ReadFault Same) c c (loading l 1) (off l.held None) tt
          (find_fault_row machine.hw (shown_by machine frames load) (shown_by machine frames new) c l s.stands (refl, refl)) tt,
    ))

-- without a mark nothing is found
pub none_row : (machine : Machine) (frames : Memory) (load : Load) (c : disk.Content) → load.stage ≡ stage.Find → disk.IsContent machine.blocks c → header_cause machine.hw (disk.as_it_reads c) ≡ Some reply.NoImage →
    Simulates machine frames load machine frames (stopped load) (event.Step actor.Core) reply.NoImage c c
none_row machine frames load c at whole none =
    let new = stopped load in
    row_at_load machine frames load machine frames new (event.Step actor.Core) reply.NoImage c c 1 (activity_is load stage.Find at)
    (λ l s. (
      off nothing None,
      leads machine frames new reply.NoImage c c (loading l 1) (off nothing None) tt
          (find_none_row machine.hw (shown_by machine frames load) (shown_by machine frames new) c machine.blocks l whole s.stands none (refl, refl)) tt,
    ))

compressed_row : (machine : Machine) (frames : Memory) (load : Load) (c : disk.Content) (flags : ℕ) → load.stage ≡ stage.Find → disk.IsContent machine.blocks c → header_cause machine.hw (disk.as_it_reads c) ≡ Some (reply.Compressed flags) →
    Simulates machine frames load machine frames (stopped load) (event.Step actor.Core) (reply.Compressed flags) c c
compressed_row machine frames load c flags at whole cause =
    let new = stopped load in
    row_at_load machine frames load machine frames new (event.Step actor.Core) (reply.Compressed flags) c c 1 (activity_is load stage.Find at)
    (λ l s. (
      off (sure other) None,
      leads machine frames new (reply.Compressed flags) c c (loading l 1) (off (sure other) None) tt
          (find_compressed_row machine.hw (shown_by machine frames load) (shown_by machine frames new) c machine.blocks flags l whole s.stands cause (refl, refl)) tt,
    ))

pub found_row : (machine : Machine) (frames : Memory) (load : Load) (header : List ℕ) (mark : Mark) (c : disk.Content) → IsHardware machine.hw → load.stage ≡ stage.Find → disk.IsContent machine.blocks c →
    header ≡ header_of machine.hw (disk.as_it_reads c) → header_fault header ≡ None → mark ≡ mark_of header →
    Simulates machine frames load machine frames (record load { stage = stage.Back (from_write header) mark }) (event.Step actor.Core) (reply.Loading 2) c c
found_row machine frames load header mark c hardware at whole read none marks =
    let new = record load { stage = stage.Back (from_write header) mark } in
    let v = disk.as_it_reads c in
    let uncaused : header_cause machine.hw v ≡ None = subst (λ (p : List ℕ). header_fault p ≡ None) read none in
    row_at_load machine frames load machine frames new (event.Step actor.Core) (reply.Loading 2) c c 1 (activity_is load stage.Find at)
    (λ l s.
    let knows = knows_at machine frames load c l 1 stage.Find at s in
    let found = find_row machine.hw (shown_by machine frames load) (shown_by machine frames new) c machine.blocks l hardware whole s.stands uncaused read in
    let l' = with_finding l found.0 in (
      loading l' 2,
      leads machine frames new (reply.Loading 2) c c (loading l 1) (loading l' 2) tt
          (found.2 (shows_none machine frames load new c l l' 1 2 s refl refl refl (load_told machine frames load c l 1 s) (omega arith) knows.2))
          (record {
            free = s.resume.free;
            knows = (
              v,
              record { found = found.1; uncaused = uncaused; is_header = read; reads = λ b lt ne. refl; blocks = count_of machine.blocks c whole; area = ap (λ (p : List ℕ). swap_area (area_kind p)) (area_block-marked machine.hw v (a_mark machine.hw v None uncaused (λ e. none-some reply.NoImage e)) ∙ ap taken_back (sym read)) },
              gone_early machine.hw l' v 2 (omega arith) uncaused,
              knows.0,
              knows.1,
              knows.2,
              marks ∙ ap mark_of read,
            );
          }),
    ))

-- why nothing is read, by the header
pub fault_row : (machine : Machine) (frames : Memory) (load : Load) (header : List ℕ) (c : disk.Content) (why : Reply) → load.stage ≡ stage.Find → disk.IsContent machine.blocks c → header ≡ header_of machine.hw (disk.as_it_reads c) → header_fault header ≡ Some why →
    Simulates machine frames load machine frames (stopped load) (event.Step actor.Core) why c c
fault_row machine frames load header c why at whole read some =
    let cause : header_cause machine.hw (disk.as_it_reads c) ≡ Some why = subst (λ (p : List ℕ). header_fault p ≡ Some why) read some in
    elim (header_faults header why some) [
      | inl none ↦ (
          let is : header_cause machine.hw (disk.as_it_reads c) ≡ Some reply.NoImage = cause ∙ ap (λ (r : Reply). Some r) none in
          subst (λ (r : Reply). Simulates machine frames load machine frames (stopped load) (event.Step actor.Core) r c c) (sym none)
          (none_row machine frames load c at whole is))
      | inr of ↦ (
          let is : header_cause machine.hw (disk.as_it_reads c) ≡ Some (reply.Compressed of.0) = cause ∙ ap (λ (r : Reply). Some r) of.1 in
          subst (λ (r : Reply). Simulates machine frames load machine frames (stopped load) (event.Step actor.Core) r c c) (sym of.1)
          (compressed_row machine frames load c of.0 at whole is))
    ]

-- What the second step says of an image.

abbrev is_missing : Reply → Bool
is_missing reply.NoImage = true
is_missing _ = false

pub none_found : (h : Hardware) (v : disk.DiskImage) (r : Reply) → header_cause h v ≡ Some reply.NoImage → r ≡ reply.NoImage → FindsMark h r v
none_found h v r none is = subst (λ (q : Reply). FindsMark h q v) (sym is) (no_mark h v none)

pub image_found : (h : Hardware) (v : disk.DiskImage) (header : List ℕ) → header ≡ header_of h v → header_fault header ≡ None → Marked h v
image_found h v header read none = a_mark h v None (subst (λ (p : List ℕ). header_fault p ≡ None) read none) (λ e. none-some reply.NoImage e)

pub fault_found : (h : Hardware) (v : disk.DiskImage) (header : List ℕ) (why r : Reply) → header ≡ header_of h v → header_fault header ≡ Some why → r ≡ why → FindsMark h r v
fault_found h v header why r read some is =
    let cause : header_cause h v ≡ Some why = subst (λ (p : List ℕ). header_fault p ≡ Some why) read some in
    subst (λ (q : Reply). FindsMark h q v) (sym is) (elim (header_faults header why some) [
      | inl none ↦ none_found h v why (cause ∙ ap (λ (q : Reply). Some q) none) none
      | inr of ↦ (
          let marked = a_mark h v (Some why) cause (λ e. false≢true (sym (ap is_missing of.1) ∙ ap is_missing (same_Some why reply.NoImage e))) in
          subst (λ (q : Reply). FindsMark h q v) (sym of.1) marked)
    ])
