use Rattle.std.proofs.Common.{ℕ, List, [], ◌∷◌, ◌++◌, Option, refl, sym, subst, ◌∙◌, arith}
use Rattle.std.specs.List.{Contains}
use Rattle.definitions.specs.Disk.{Content}
use Rattle.definitions.specs.Zones.{numbers}
use Rattle.image_pages.specs.Given.{frame_of}
use Rattle.image_pages.specs.SavedFrames.{AreAllSaved, AreFirstSaved}
use Rattle.image_machine.specs.Filled.{IsFilled}
use Rattle.image_pages.proofs.SinceSaved.{refused_since}
use Rattle.image_machine.specs.Lays.{pages_of}
use Rattle.image_machine.proofs.Laid.{above_numbers, fewer_laid, has_number, pages_more}
use Rattle.image_machine.proofs.Since.{given_since}
use Rattle.image_machine.proofs.dump.laying.lay_all.Goals as goal

pub loop-number-init : goal.loop-number-init
loop-number-init g c = record {
  laid = λ header begun. record { given = []; stands = begun; has = c.requires.filled };
  untold = refl;
  heading = refl;
  layout = refl;
  zones = refl;
  content = refl;
  faults = omega arith;
  orders = refl;
  blocks = refl;
}

pub next-requires : goal.next-requires
next-requires g c =
    let i = c.loop-number.invariant in
    let (header, begun) = c.requires.given in
    let laid = i.laid header begun in
    (header, (laid.given, given_since (g.D.Disk.content c.args.disk.now) (g.D.Disk.content c.loop-number.disk) (g.D.Disk.block_count c.args.disk.now) (g.D.Disk.block_count c.loop-number.disk) header c.loop-number.frames laid.given (sym i.content) (sym i.blocks) laid.stands))

pub add-requires : goal.add-requires
add-requires g c =
    let (header, begun) = c.requires.given in
    let laid = c.loop-number.invariant.laid header begun in
    (pages_of laid.given, laid.has)

pub loop-number-smaller : goal.loop-number-smaller
loop-number-smaller g c =
    let i = c.loop-number.invariant in
    let (header, begun) = c.requires.given in
    let laid = i.laid header begun in
    let says = c.in-Frame.ensures.says header laid.given (given_since (g.D.Disk.content c.args.disk.now) (g.D.Disk.content c.loop-number.disk) (g.D.Disk.block_count c.args.disk.now) (g.D.Disk.block_count c.loop-number.disk) header c.loop-number.frames laid.given (sym i.content) (sym i.blocks) laid.stands) in
    fewer_laid c.loop-number.filled c.add.new.self (pages_of laid.given) (c.in-Frame.number, c.next.new.page) laid.has
    (c.in-Ok.ensures.filled (pages_of laid.given) laid.has (above_numbers laid.given c.in-Frame.number says.1.above))

pub loop-number-preserved : goal.loop-number-preserved
loop-number-preserved g c =
    let i = c.loop-number.invariant in
    let first = g.D.Disk.content c.args.disk.now in
    let mid = g.D.Disk.content c.loop-number.disk in
    let blocks = g.D.Disk.block_count c.args.disk.now in
    let there = g.D.Disk.block_count c.loop-number.disk in
    let (header, begun) = c.requires.given in
    let new = frame_of c.in-Frame.number c.next.new.page in
    record {
      laid = λ h b.
          let laid = i.laid h b in
          let says = c.in-Frame.ensures.says h laid.given (given_since (g.D.Disk.content c.args.disk.now) (g.D.Disk.content c.loop-number.disk) (g.D.Disk.block_count c.args.disk.now) (g.D.Disk.block_count c.loop-number.disk) h c.loop-number.frames laid.given (sym i.content) (sym i.blocks) laid.stands) in
          record {
            given = laid.given ++ new ∷ [];
            stands = given_since mid first there blocks h c.next.new.self (laid.given ++ new ∷ []) i.content i.blocks says.1.stands;
            has =
                subst (IsFilled c.add.new.self) (sym (pages_more laid.given new))
                (c.in-Ok.ensures.filled (pages_of laid.given) laid.has (above_numbers laid.given c.in-Frame.number says.1.above));
          };
      untold =
          let laid = i.laid header begun in
          (c.in-Frame.ensures.says header laid.given (given_since (g.D.Disk.content c.args.disk.now) (g.D.Disk.content c.loop-number.disk) (g.D.Disk.block_count c.args.disk.now) (g.D.Disk.block_count c.loop-number.disk) header c.loop-number.frames laid.given (sym i.content) (sym i.blocks) laid.stands)).0 ∙ i.untold;
      heading = c.add.ensures.heading ∙ i.heading;
      layout = c.add.ensures.layout ∙ i.layout;
      zones = c.add.ensures.zones ∙ i.zones;
      content = c.next.ensures.content ∙ i.content;
      faults = omega (arith, c.next.ensures.faults, i.faults);
      orders = c.next.ensures.orders ∙ i.orders;
      blocks = c.next.ensures.blocks ∙ i.blocks;
    }

pub returns-in-Err-clause-lays : goal.returns-in-Err-clause-lays
returns-in-Err-clause-lays g c = λ header begun.
    let i = c.loop-number.invariant in
    let laid = i.laid header begun in
    let new = frame_of c.in-Frame.number c.next.new.page in
    let says = c.in-Frame.ensures.says header laid.given (given_since (g.D.Disk.content c.args.disk.now) (g.D.Disk.content c.loop-number.disk) (g.D.Disk.block_count c.args.disk.now) (g.D.Disk.block_count c.loop-number.disk) header c.loop-number.frames laid.given (sym i.content) (sym i.blocks) laid.stands) in
    let out = c.in-Err.ensures.outside in (
      says.0 ∙ i.untold,
      record {
        given = laid.given ++ new ∷ [];
        number = c.in-Frame.number;
        first = subst (λ (x : Option Content). AreFirstSaved x header (laid.given ++ new ∷ [])) i.content says.1.first;
        last = has_number laid.given new;
        outside = λ in'. out.1 (subst (λ (zs : List (ℕ × ℕ)). Contains (numbers zs) c.in-Frame.number) c.add.ensures.zones in');
        is = out.0;
      },
    )

pub returns-in-End-clause-lays : goal.returns-in-End-clause-lays
returns-in-End-clause-lays g c = λ header begun.
    let i = c.loop-number.invariant in
    let laid = i.laid header begun in
    let says = c.in-End.ensures.says header laid.given (given_since (g.D.Disk.content c.args.disk.now) (g.D.Disk.content c.loop-number.disk) (g.D.Disk.block_count c.args.disk.now) (g.D.Disk.block_count c.loop-number.disk) header c.loop-number.frames laid.given (sym i.content) (sym i.blocks) laid.stands) in (
      says.0 ∙ i.untold,
      record {
        saved = laid.given;
        all = subst (λ (x : Option Content). AreAllSaved x header laid.given) i.content says.1.all;
        has = laid.has;
      },
    )

pub returns-in-Refused-clause-lays : goal.returns-in-Refused-clause-lays
returns-in-Refused-clause-lays g c = λ header begun.
    let i = c.loop-number.invariant in
    let laid = i.laid header begun in
    let says = c.in-Refused.ensures.says header laid.given (given_since (g.D.Disk.content c.args.disk.now) (g.D.Disk.content c.loop-number.disk) (g.D.Disk.block_count c.args.disk.now) (g.D.Disk.block_count c.loop-number.disk) header c.loop-number.frames laid.given (sym i.content) (sym i.blocks) laid.stands) in
    (says.0, refused_since (g.D.Disk.content c.loop-number.disk) (g.D.Disk.content c.args.disk.now) (g.D.Disk.block_count c.loop-number.disk) (g.D.Disk.block_count c.args.disk.now) header (g.D.Disk.faults c.args.disk.now) (g.D.Disk.faults c.loop-number.disk) (g.D.Disk.faults c.next.new.disk) (g.R.Report.told c.args.report.now) (g.R.Report.told c.loop-number.report) (g.R.Report.told c.next.new.report) says.0 i.content i.blocks i.untold i.faults says.1)
