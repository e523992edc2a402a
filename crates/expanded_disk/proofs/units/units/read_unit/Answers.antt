use Rattle.std.proofs.Common.{◌≡◌, ℕ, ◌-◌, [], Option, Some, None, true, subst, ap, sym, ◌∙◌}
use Rattle.definitions.specs.Bytes.{word}
use Rattle.image_check.specs.declared.finding.Finding.{Finding}
use Rattle.expanded_disk.specs.Chains.{Gives}
use Rattle.expanded_disk.specs.Faults.{FillSays}
use Rattle.expanded_disk.specs.Units.{is_length, pages_with, size_of}
use Rattle.expanded_disk.specs.declared.units.chain.Read.{Read}
use Rattle.expanded_disk.proofs.UnitTelling.{expanded_by, says_expanded, says_unread, says_unread_behind}
use Rattle.expanded_disk.proofs.units.units.read_unit.Goals as goal

pub returns-in-Wrong-clause-says : goal.returns-in-Wrong-clause-says
returns-in-Wrong-clause-says g c =
    let content = g.K.Original.state.content in
    let before = g.K.Original.state.faults in
    let now = (g.B.ReadOnly.state c.next.new.source.below).faults in
    let old = c.args.chain.now in
    let new = c.next.new.self in
    let gives = subst (λ (r : Read). Gives content c.args.pages before now old new c.next.new.page r) c.in-Wrong.is c.in_ok-finding.ensures.read in
    says_unread content c.args.pages c.args.number before now old new [] c.in-Wrong.finding c.requires.before gives

pub returns-in-Some-clause-says : goal.returns-in-Some-clause-says
returns-in-Some-clause-says g c =
    let content = g.K.Original.state.content in
    let before = g.K.Original.state.faults in
    let now = (g.B.ReadOnly.state c.fill.new.source.below).faults in
    let old = c.args.chain.now in
    let mid = c.next.new.self in
    let new = c.fill.new.chain in
    let page = c.next.new.page in
    let packed = c.put.new.self.packed.items in
    let filled = c.fill.new.unit.packed.items in
    let gives = subst (λ (r : Read). Gives content c.args.pages before (g.B.ReadOnly.state c.next.new.source.below).faults old mid page r) c.in-Page.is c.in_ok-finding.ensures.read in
    let len : is_length (word page 0) ≡ true = ap is_length (sym c.word-len.ensures) ∙ sym c.if-not-is_length.ensures in
    let behind = c.pages_with-behind.ensures.pages ∙ ap pages_with c.word-len.ensures in
    let says = subst (λ (o : Option Finding). FillSays content c.args.pages (c.pages_with-behind.result - 1) before now mid new packed filled o) c.in-Some.is c.in_ok-finding-2.ensures.says in
    says_unread_behind content c.args.pages c.args.number before now old mid new page c.in-Page.place [] packed filled c.in-Some.finding
    c.requires.before c.next.ensures.same gives.1 gives.2 len
    (subst (λ (n : ℕ). FillSays content c.args.pages (n - 1) before now mid new packed filled (Some c.in-Some.finding)) behind says)

pub returns-in-None-clause-says : goal.returns-in-None-clause-says
returns-in-None-clause-says g c =
    let content = g.K.Original.state.content in
    let before = g.K.Original.state.faults in
    let now = (g.B.ReadOnly.state c.fill.new.source.below).faults in
    let old = c.args.chain.now in
    let mid = c.next.new.self in
    let new = c.fill.new.chain in
    let page = c.next.new.page in
    let packed = c.put.new.self.packed.items in
    let filled = c.fill.new.unit.packed.items in
    let bytes = c.expand.new.unit.bytes.items in
    let gives = subst (λ (r : Read). Gives content c.args.pages before (g.B.ReadOnly.state c.next.new.source.below).faults old mid page r) c.in-Page.is c.in_ok-finding.ensures.read in
    let len : is_length (word page 0) ≡ true = ap is_length (sym c.word-len.ensures) ∙ sym c.if-not-is_length.ensures in
    let behind = c.pages_with-behind.ensures.pages ∙ ap pages_with c.word-len.ensures in
    let says = subst (λ (o : Option Finding). FillSays content c.args.pages (c.pages_with-behind.result - 1) before now mid new packed filled o) c.in-None.is c.in_ok-finding-2.ensures.says in
    let told = expanded_by c.args.number c.size_of.result (size_of c.args.pages c.args.number) c.word-len.result (word page 0) filled bytes c.expand.result
    c.size_of.ensures.size c.word-len.ensures c.expand.ensures.fault c.expand.ensures.bytes in
    says_expanded content c.args.pages c.args.number before now old mid new page c.in-Page.place bytes packed filled c.expand.result
    c.requires.before c.next.ensures.same c.fill.ensures.same gives.1 gives.2 len c.put.ensures.added
    (subst (λ (n : ℕ). FillSays content c.args.pages (n - 1) before now mid new packed filled None) behind says)
    told.0 told.1
