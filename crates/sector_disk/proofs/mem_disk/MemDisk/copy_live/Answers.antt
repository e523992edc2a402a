use Rattle.std.proofs.Common.{◌≡◌, ◌∙◌, ◌*◌, ap, sym, subst}
use Rattle.sector_disk.specs.Sectors.{padded, AreSectors}
use Rattle.sector_disk.specs.ContentLaws.{padded_whole}
use Rattle.sector_disk.proofs.mem_disk.MemDisk.copy_live.Goals as goal

pub returns-clause-whole : goal.returns-clause-whole
returns-clause-whole c =
    let d = c.args.self.now in
    let is : c.copy_first.new.into ≡ padded (8 * d.blocks) d.live.items = c.copy_first.ensures ∙ ap (λ n. padded n c.deref.result.now) c.requires.size ∙ ap (padded (8 * d.blocks)) c.deref.ensures.value in
    subst (AreSectors (8 * d.blocks)) (sym is) (padded_whole (8 * d.blocks) d.live.items d.within d.live_whole)
