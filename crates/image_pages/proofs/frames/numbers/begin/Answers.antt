use Rattle.std.proofs.Common.{◌≡◌, [], ◌∷◌, Option, Some, None, inr, refl}
use Rattle.image_check.specs.Info.{counts_in}
use Rattle.image_check.specs.declared.finding.Counts.{Counts}
use Rattle.image_pages.proofs.Searching.{info_has}
use Rattle.image_pages.proofs.frames.numbers.begin.Goals as goal

some_none : (o : Option Counts) (c : Counts) → o ≡ Some c → o ≡ None → ⊥
some_none o c e f = cc

pub read_page-requires : goal.read_page-requires
read_page-requires g c = let (header, s) = c.requires in (header, ([], (s, tt)))

pub returns-then-not-read_page-clause-opened : goal.returns-then-not-read_page-clause-opened
returns-then-not-read_page-clause-opened g c = λ header s. inr ([], c.if-not-read_page.ensures.gives header [] s tt)

pub unreachable-requires : goal.unreachable-requires
unreachable-requires g c =
    let (header, s) = c.requires in
    let info = c.read_page.new.page in
    let gives = c.if-not-read_page.ensures.gives header [] s tt in
    some_none c.counts.result (counts_in info) (c.counts.ensures (g.D.Disk.content c.args.disk.now) (g.D.Disk.block_count c.args.disk.now) header (info ∷ []) gives.1) c.in_default.is

pub returns-clause-opened : goal.returns-clause-opened
returns-clause-opened g c = λ header s.
    let info = c.read_page.new.page in
    let content = g.D.Disk.content c.args.disk.now in
    let blocks = g.D.Disk.block_count c.args.disk.now in
    let gives = c.if-not-read_page.ensures.gives header [] s tt in
    let here = info_has content content blocks blocks header c.read_page.new.pages info c.counts.result c.in-Some.counts c.counts.ensures c.in-Some.is refl refl gives.1 in
    (gives.0, c.of.ensures.numbered content blocks header here)
