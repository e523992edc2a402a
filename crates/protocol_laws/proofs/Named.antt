-- The slots that an image names are those of the page frames that are shown.
use Rattle.std.proofs.Common.{◌≡◌, ◌<◌, ℕ, sym, ap, ◌∙◌}
use Rattle.plain_machine.specs.Machine.{Hardware, Memory, raw_slot_entry}
use Rattle.plain_machine.specs.Shows.{WorldView}
use Rattle.plain_machine.specs.Stands.{NamesHeld}
use Rattle.plain_machine.specs.State.{Held, nothing, sure, maybe, own, other}

-- page frames with the same slot entries name the same slots
pub names_by_entries : (h : Hardware) (s s' : WorldView) (held : Held) → ((k : ℕ) → k < h.slots → raw_slot_entry h s'.frames k ≡ raw_slot_entry h s.frames k) → NamesHeld h s held → NamesHeld h s' held
names_by_entries h s s' nothing same names = λ k lt e. names k lt (sym (same k lt) ∙ e)
names_by_entries h s s' (sure (own i)) same names = record { memory = names.memory; image = names.image; names = λ k lt e. names.names k lt (sym (same k lt) ∙ e) }
names_by_entries h s s' (sure other) same names = λ k lt e. names k lt (sym (same k lt) ∙ e)
names_by_entries h s s' (maybe (own i)) same names = record { memory = names.memory; image = names.image; names = λ k lt e. names.names k lt (sym (same k lt) ∙ e) }
names_by_entries h s s' (maybe other) same names = λ k lt e. names k lt (sym (same k lt) ∙ e)

-- and so do the same page frames
pub names_same : (h : Hardware) (s s' : WorldView) (held : Held) → s'.frames ≡ s.frames → NamesHeld h s held → NamesHeld h s' held
names_same h s s' held same names = names_by_entries h s s' held (λ k lt. ap (λ (m : Memory). raw_slot_entry h m k) same) names
