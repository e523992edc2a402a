-- A resume from a disk that holds the image of a memory gives that memory's saveable pages.
use Rattle.std.proofs.Common.{◌≡◌, None, ap, ◌∙◌}
use Rattle.page_core.specs.declared.format.Format.{Format}
use Rattle.definitions.specs.Disk as disk
use Rattle.definitions.specs.Tables.{frame}
use Rattle.definitions.proofs.ZoneLists.{Contains-from_saveable_frames}
use Rattle.definitions.proofs.ZoneNumbers.{below_top}
use Rattle.plain_machine.specs.Machine.{Hardware, Memory, IsHardware}
use Rattle.plain_machine.specs.Image.{Image, SlotPages, image_of_memory}
use Rattle.plain_machine.specs.Chain.{Holds}
use Rattle.plain_machine.specs.Loader.{restored}
use Rattle.plain_machine.specs.Trace.{image_in}
use Rattle.plain_machine.proofs.Restoring.{restored-saveable}
use Rattle.image_laws.specs.Decoding.{ResumesMemory}
use Rattle.image_laws.proofs.Decoding.{decodes, memories_are_sayable}

-- the image without its slots
without_slots : Image → Image
without_slots i = record { frames = i.frames; slots = λ s. None; ident = i.ident; physpages = i.physpages; format = i.format }

decoded : (h : Hardware) (m : Memory) (slots : SlotPages) (f : Format) (v : disk.DiskImage) → IsHardware h → Holds h v (image_of_memory h m slots f) → image_in h v (λ s. None) ≡ image_of_memory h m (λ s. None) f
unfolding without_slots
decoded h m slots f v hw holds =
    ap without_slots (decodes h v (image_of_memory h m slots f) holds (memories_are_sayable h m slots f hw))

pub resumes_memory : ResumesMemory
resumes_memory h m slots f dump loader v hw holds p saved =
    let valid = (Contains-from_saveable_frames h.zones h.frame_table m p saved).0 in
    ap (λ (i : Image). frame (restored h dump loader i) p) (decoded h m slots f v hw holds)
    ∙ restored-saveable h dump m loader (λ s. None) f p saved (below_top h.zones p hw.zones.apart valid)
