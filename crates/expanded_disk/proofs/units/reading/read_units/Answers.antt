use Rattle.std.proofs.Common.{◌≡◌, ℕ, ◌<◌, List, [], ◌∷◌, ◌++◌, length, take, Option, IfSome, refl, sym, ap, subst, ◌∙◌, arith}
use Rattle.std.proofs.lemmas.List.{length-append}
use Rattle.compression.specs.Crc.{crc32}
use Rattle.definitions.specs.Disk.{as_it_reads}
use Rattle.image_check.specs.declared.finding.Finding.{Finding}
use Rattle.expanded_disk.specs.Faults.{AreWhole, UnitSays}
use Rattle.expanded_disk.specs.Units.{units_of}
use Rattle.expanded_disk.proofs.Passing.{bad_pass, before_first, pass_ends, whole_first, whole_more}
use Rattle.expanded_disk.proofs.UnitTelling.{same_along}
use Rattle.expanded_disk.proofs.units.reading.read_units.Goals as goal

pub loop-number-init : goal.loop-number-init
loop-number-init g c =
    let content = g.K.Original.state.content in
    let old = c.args.chain.now in
    record {
      stands = c.requires.stands;
      same = record { limits = refl; first = refl };
      count = ap length c.new-starts.ensures.items;
      before = before_first content old c.requires.first;
      whole = subst (λ (s : List ℕ). IfSome content (λ held. AreWhole (as_it_reads held) old.first c.args.pages 0 s 0)) (sym c.new-starts.ensures.items) (whole_first content old.first c.args.pages);
    }

pub loop-number-preserved : goal.loop-number-preserved
loop-number-preserved g c =
    let content = g.K.Original.state.content in
    let before = g.K.Original.state.faults in
    let now = (g.B.ReadOnly.state c.read_unit.new.source.below).faults in
    let old = c.args.chain.now in
    let mid = c.loop-number.chain in
    let new = c.read_unit.new.chain in
    let n = c.loop-number.number in
    let bytes = c.read_unit.new.unit.bytes.items in
    let i = c.loop-number.invariant in
    let says = subst (λ (o : Option Finding). UnitSays content c.args.pages n before now mid new bytes o) c.in-None.is c.in_ok-finding.ensures.says in
    let grown : c.add_start.new.starts.items ≡ c.loop-number.starts.items ++ mid.count ∷ [] = c.in_ok-add_start.ensures in
    record {
      stands = says.0;
      same = same_along old mid new i.same c.read_unit.ensures.same;
      count = omega (arith, ap length grown, length-append c.loop-number.starts.items (mid.count ∷ []), i.count);
      before = says.1;
      whole = whole_more content old mid c.args.pages n c.loop-number.crc c.checksum-crc.result c.loop-number.starts.items c.add_start.new.starts.items bytes i.same i.count grown i.before
          (c.checksum-crc.ensures ∙ ap (λ (s : ℕ). crc32 c.loop-number.crc (take s bytes)) c.size_of.ensures.size) says.2 i.whole;
    }

pub returns-in-Some-clause-says : goal.returns-in-Some-clause-says
returns-in-Some-clause-says g c =
    let content = g.K.Original.state.content in
    let before = g.K.Original.state.faults in
    let now = (g.B.ReadOnly.state c.read_unit.new.source.below).faults in
    let mid = c.loop-number.chain in
    let n = c.loop-number.number in
    let i = c.loop-number.invariant in
    let says = subst (λ (o : Option Finding). UnitSays content c.args.pages n before now mid c.read_unit.new.chain c.read_unit.new.unit.bytes.items o) c.in-Some.is c.in_ok-finding.ensures.says in
    let few : n < units_of c.args.pages = omega (arith, c.loop-number-test.true, c.units_of-number-end.ensures) in
    bad_pass content c.args.chain.now mid c.args.pages n before now c.loop-number.crc c.loop-number.starts.items c.in-Some.finding i.same few i.whole says

pub returns-clause-says : goal.returns-clause-says
returns-clause-says g c =
    let content = g.K.Original.state.content in
    let old = c.args.chain.now in
    let mid = c.loop-number.chain in
    let n = c.loop-number.number in
    let i = c.loop-number.invariant in
    let grown : c.add_start-2.new.starts.items ≡ c.loop-number.starts.items ++ mid.count ∷ [] = c.in_ok-add_start-2.ensures in
    let all : n ≡ units_of c.args.pages = omega (arith, c.loop-number-test.false, c.loop-number.auto.number-end, c.units_of-number-end.ensures) in (
      i.stands,
      omega (arith, ap length grown, length-append c.loop-number.starts.items (mid.count ∷ []), i.count, all),
      pass_ends content old mid c.args.pages n c.loop-number.crc c.loop-number.starts.items c.add_start-2.new.starts.items i.same all i.count grown i.before i.whole,
    )
