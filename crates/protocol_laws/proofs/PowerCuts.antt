-- A power cut, at any state.
use Rattle.std.proofs.Common.{ℕ, ◌/◌, List, sym, ap, ◌∙◌, subst}
use Rattle.definitions.specs.Disk as disk
use Rattle.definitions.proofs.DiskLaws.{as_it_reads-settled, IsImage-after_restart, length-as_it_reads}
use Rattle.plain_machine.specs.Machine.{Hardware}
use Rattle.plain_machine.specs.Shows.{WorldView}
use Rattle.plain_machine.specs.Stands.{Stands, IsHeld, IsHeader, AgreeOnArea}
use Rattle.plain_machine.specs.State.{State, off, on, booting, hibernating, undoing, settling, waking, loading, asleep, Held, nothing, sure, maybe, own, other, held_in}
use Rattle.plain_machine.specs.UsableArea.{area_block}
use Rattle.protocol_laws.specs.Cuts.{CutKeepsArea, CutsOff}

-- what is held in a state, and its header block
holds_in : (h : Hardware) (shown : WorldView) (c : disk.Content) (a : State) → Stands h shown c a → IsHeld h c (held_in a) × IsHeader h c
holds_in h shown c (off held kept) stands = (stands.parts.held, stands.parts.header)
holds_in h shown c (on a) stands = (stands.parts.disk.held, stands.parts.disk.header)
holds_in h shown c (booting from dump held k) stands = (stands.parts.held, stands.parts.header)
holds_in h shown c (hibernating suspends i a k) stands = (stands.parts.behind.held, stands.parts.behind.header)
holds_in h shown c (undoing i call a k) stands = (stands.parts.behind.held, stands.parts.behind.header)
holds_in h shown c (settling a k) stands = (stands.parts.behind.held, stands.parts.behind.header)
holds_in h shown c (waking i held a k) stands = (stands.parts.behind.held, stands.parts.behind.header)
holds_in h shown c (loading load k) stands = (stands.parts.held, stands.parts.header)
holds_in h shown c (asleep i held a) stands = (stands.parts.behind.held, stands.parts.behind.header)

-- each image after a restart is one from before
fewer : (c c' : disk.Content) (w : disk.DiskImage) → disk.Restarts c c' → disk.IsImage c' w → disk.IsImage c w
fewer c c' w restarts in' = let left = IsImage-after_restart c c' restarts in subst (disk.IsImage c) (sym (left.2 w in')) left.1

held_still : (h : Hardware) (c c' : disk.Content) (held : Held) → disk.Restarts c c' → IsHeld h c held → IsHeld h c' held
held_still h c c' nothing restarts is = λ v in'. is v (fewer c c' v restarts in')
held_still h c c' (sure (own i)) restarts is = λ v in'. is v (fewer c c' v restarts in')
held_still h c c' (sure other) restarts is = λ v in'. is v (fewer c c' v restarts in')
held_still h c c' (maybe (own i)) restarts is = λ v in'. is v (fewer c c' v restarts in')
held_still h c c' (maybe other) restarts is = is

agree : (a b d : List ℕ) → AgreeOnArea a d → AgreeOnArea b d → AgreeOnArea a b
agree a b d x y = record { front = x.front ∙ sym y.front; signature = x.signature ∙ sym y.signature }

-- what the disk reads as afterwards was one of its images
read_before : (c c' : disk.Content) → disk.Restarts c c' → disk.IsImage c (disk.as_it_reads c')
read_before c c' restarts = subst (disk.IsImage c) (sym (ap disk.as_it_reads restarts.2 ∙ as_it_reads-settled restarts.0)) restarts.1

header_still : (h : Hardware) (c c' : disk.Content) → disk.Restarts c c' → IsHeader h c → IsHeader h c'
header_still h c c' restarts is = record {
  unmarked = λ v in'. is.unmarked v (fewer c c' v restarts in');
  one = λ v in'. agree (area_block h v) (area_block h (disk.as_it_reads c')) (area_block h (disk.as_it_reads c)) (is.one v (fewer c c' v restarts in')) (is.one (disk.as_it_reads c') (read_before c c' restarts));
}

pub cuts_off : CutsOff
cuts_off h shown shown' c c' a stands restarts activity kept =
    let was = holds_in h shown c a stands in
    record { activity = activity; parts = record { memory = kept; held = held_still h c c' (held_in a) restarts was.0; header = header_still h c c' restarts was.1 } }

pub cut_keeps_area : CutKeepsArea
cut_keeps_area h shown c c' blocks a whole stands restarts =
    let header = (holds_in h shown c a stands).1 in
    let before = read_before c c' restarts in
    record {
      blocks = ap (λ (n : ℕ). n / 8) (before.size ∙ sym (length-as_it_reads c));
      header = header.one (disk.as_it_reads c') before;
    }
