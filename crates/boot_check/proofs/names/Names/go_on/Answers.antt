use Rattle.std.proofs.Common.{◌≡◌, Option, Some, Err, refl, sym, subst, ◌∙◌}
use Rattle.image_walk.specs.Names.{IsAnswer, fault_of, seen}
use Rattle.image_walk.specs.declared.visit.BlockFault.{BlockFault}
use Rattle.boot_check.proofs.Named.{goes_more, goes_start, not_unread}
use Rattle.boot_check.proofs.names.Names.go_on.Goals as goal

pub loop-named-init : goal.loop-named-init
loop-named-init g c = record {
  so_far = λ content faults first asked found s. goes_start content faults first _ _ asked found (g.R.Report.told c.args.report.now) s;
  limits = refl;
  format = refl;
  room = refl;
}

pub loop-named-preserved : goal.loop-named-preserved
loop-named-preserved g c =
    let i = c.loop-named.invariant in
    let n = c.in-Some.named in
    let why = c.in-Some-fault.why in
    let page = c.zero-page.result in
    record {
      so_far = λ content faults first asked found s.
          let go = i.so_far content faults first asked found s in
          let h = go.named.history in
          let fault : fault_of c.loop-named.self.limits h n.block ≡ Some why = sym (c.in-Some.ensures.asked first h go.named.stands) ∙ c.in-Some-fault.is in
          let t = c.tell.ensures.told first n.block h go.named.stands go.named.knows c.in-Some.ensures.block
          (subst (λ (f : Option BlockFault). IsAnswer f n.block (seen (Err why) page)) (sym fault) refl) in
          goes_more content faults first n.block why page c.loop-named.self c.tell.new.self c.loop-named.words c.tell.new.words asked found
          (g.R.Report.told c.args.report.now) (g.R.Report.told c.loop-named.report) (g.R.Report.told c.tell.new.report) go t
          c.tell.ensures.limits c.tell.ensures.format (not_unread why (λ b e. c.in-Some.ensures.inside.other b (c.in-Some-fault.is ∙ e)));
      limits = c.tell.ensures.limits ∙ i.limits;
      format = c.tell.ensures.format ∙ i.format;
      room = c.tell.ensures.room ∙ i.room;
    }

pub returns-in_default-fault-clause-went : goal.returns-in_default-fault-clause-went
returns-in_default-fault-clause-went g c = λ content faults first asked found s.
    let go = c.loop-named.invariant.so_far content faults first asked found s in (
      go.more,
      (
        go.tells,
        record {
          named = go.named;
          block = c.in-Some.ensures.block;
          free = sym (c.in-Some.ensures.asked first go.named.history go.named.stands) ∙ c.in_default-fault.is;
        },
      ),
    )

pub returns-clause-went : goal.returns-clause-went
returns-clause-went g c = λ content faults first asked found s.
    let go = c.loop-named.invariant.so_far content faults first asked found s in
    (go.more, (go.tells, record { named = go.named; over = c.in_default.ensures.end first go.named.history go.named.stands }))
