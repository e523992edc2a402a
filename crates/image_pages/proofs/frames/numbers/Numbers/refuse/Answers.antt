use Rattle.std.proofs.Common.{◌≡◌, ◌+◌, ◌-◌, ℕ, ◌∷◌, arith}
use Rattle.definitions.specs.NumberPages.{meta_of}
use Rattle.image_pages.proofs.Refusing.{enough_left, not_all}
use Rattle.image_pages.proofs.frames.numbers.Numbers.refuse.Goals as goal

pub read_ahead-requires : goal.read_ahead-requires
read_ahead-requires g c =
    let (header, (given, (h, too_many))) = c.requires in
    let n = c.args.self.now in
    let left = c.number_page_count.result - c.number_page_count-2.result in
    let rest : meta_of n.given + left ≡ meta_of n.count = omega (arith, c.number_page_count.ensures, c.number_page_count-2.ensures, h.few) in
    (header, (n.info, (h.listed, (h.stands, enough_left (g.D.Disk.content c.args.disk.now) (g.D.Disk.block_count c.args.disk.now) header n given h left rest))))

pub unreachable-requires : goal.unreachable-requires
unreachable-requires g c =
    let (header, (given, (h, too_many))) = c.requires in
    let content = g.D.Disk.content c.args.disk.now in
    let blocks = g.D.Disk.block_count c.args.disk.now in
    let n = c.args.self.now in
    let left = c.number_page_count.result - c.number_page_count-2.result in
    let rest : meta_of n.given + left ≡ meta_of n.count = omega (arith, c.number_page_count.ensures, c.number_page_count-2.ensures, h.few) in
    let more = c.if-read_ahead.ensures.gives header n.info h.listed h.stands (enough_left content blocks header n given h left rest) in
    not_all content blocks header n given h c.read_ahead.new.pages more.1.more left too_many rest more.1.size c.read_ahead.ensures.format more.1.stands

pub returns-clause-refused : goal.returns-clause-refused
returns-clause-refused g c = λ header given h too_many.
    let n = c.args.self.now in
    let left = c.number_page_count.result - c.number_page_count-2.result in
    let rest : meta_of n.given + left ≡ meta_of n.count = omega (arith, c.number_page_count.ensures, c.number_page_count-2.ensures, h.few) in
    c.if-read_ahead.ensures.gives header n.info h.listed h.stands (enough_left (g.D.Disk.content c.args.disk.now) (g.D.Disk.block_count c.args.disk.now) header n given h left rest)
