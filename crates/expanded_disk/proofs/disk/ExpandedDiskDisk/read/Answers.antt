use Rattle.std.proofs.Common.{◌≡◌, ℕ, List, sym, subst, ◌∙◌, arith}
use Rattle.definitions.specs.Disk.{as_it_reads, block}
use Rattle.expanded_disk.specs.Laid.{expanded}
use Rattle.expanded_disk.specs.LaidLaws.{page_inside}
use Rattle.expanded_disk.proofs.ExpandedReads.{IsBlock, block-expanded, reads-header, reads-map, reads-page}
use Rattle.expanded_disk.proofs.Loads.{index_in, on_ok_map}
use Rattle.expanded_disk.proofs.Refusals.{read_through}
use Rattle.expanded_disk.proofs.disk.ExpandedDiskDisk.read.Goals as goal

pub returns-in-Header-clause-bytes : goal.returns-in-Header-clause-bytes
returns-in-Header-clause-bytes g c =
    let state = g.K.Original.state in
    let self = c.args.self.now in
    let page = c.plain_header.result in
    read_through (λ held. page ≡ block (as_it_reads held) c.args.b) self.refused (expanded self.at state.content) (sym c.is_some.ensures ∙ c.if-is_some.false)
    (block-expanded state.blocks state.content self.at self.index c.args.b page self.indexed c.requires
    (subst (λ (page : List ℕ). IsBlock state.content self.at c.args.b page) (sym c.plain_header.ensures)
    (reads-header state.blocks state.content self.at self.index c.args.b self.indexed c.in-Header.ensures)))

pub returns-in-Map-clause-bytes : goal.returns-in-Map-clause-bytes
returns-in-Map-clause-bytes g c =
    let state = g.K.Original.state in
    let self = c.args.self.now in
    let part = c.in-Map.ensures in
    let page = c.laid_map.result in
    read_through (λ held. page ≡ block (as_it_reads held) c.args.b) self.refused (expanded self.at state.content) (sym c.is_some.ensures ∙ c.if-is_some.false)
    (block-expanded state.blocks state.content self.at self.index c.args.b page self.indexed c.requires
    (subst (λ (page : List ℕ). IsBlock state.content self.at c.args.b page) (sym c.laid_map.ensures)
    (reads-map state.blocks state.content self.at self.index c.args.b c.in-Map.map self.indexed part.0 part.1 part.2)))

pub read_page-answer-requires-clause-inside : goal.read_page-answer-requires-clause-inside
read_page-answer-requires-clause-inside g c =
    let part = c.in-Page.ensures in
    let pages = c.args.self.now.index.pages in
    omega (arith, part.2, page_inside pages c.args.b c.requires part.0 part.1)

pub read_page-answer-requires-clause-indexed : goal.read_page-answer-requires-clause-indexed
read_page-answer-requires-clause-indexed g c =
    let state = g.K.Original.state in
    let self = c.args.self.now in
    index_in state.content state.blocks self.at self.index self.indexed

pub returns-else-is_err-clause-bytes : goal.returns-else-is_err-clause-bytes
returns-else-is_err-clause-bytes g c =
    let state = g.K.Original.state in
    let self = c.args.self.now in
    let part = c.in-Page.ensures in
    let page = c.read_page-answer.new.into in
    on_ok_map c.read_page-answer.result
    (λ is. read_through (λ held. page ≡ block (as_it_reads held) c.args.b) self.refused (expanded self.at state.content) (sym c.is_some.ensures ∙ c.if-is_some.false)
    (block-expanded state.blocks state.content self.at self.index c.args.b page self.indexed c.requires
    (reads-page state.blocks state.content self.at self.index c.args.b c.in-Page.page page self.indexed part.0 part.1 part.2 is)))
    c.read_page-answer.ensures.page
