use Rattle.std.proofs.Common.{◌≡◌, ◌+◌, ◌<◌, ◌^◌, List, Err, refl, sym, ap, ◌∙◌, subst}
use Rattle.std.proofs.lemmas.Result.{err_from_is_err_and}
use Rattle.boot_resume.specs.OnDisk.{content_cause, mark_in}
use Rattle.boot_resume.specs.Calls.{Turn, handed_from, listed_from, page_then, unless}
use Rattle.boot_resume.specs.Wanted.{HasMapBefore}
use Rattle.boot_resume.proofs.Asking.{asks_more}
use Rattle.boot_resume.proofs.Counting.{listed_end, listed_more, unless_none, unless_some}
use Rattle.boot_resume.proofs.Going.{leads_over, leads_refused, listing_leads}
use Rattle.boot_resume.proofs.Handed.{few_listed, has_listed, lists_on, next_map, tallied_as}
use Rattle.boot_resume.proofs.reading.Reading.take_listed.Goals as goal

pub returns-in_err-accept-clause-leads : goal.returns-in_err-accept-clause-leads
returns-in_err-accept-clause-leads c = λ v listing map is.
    let p = err_from_is_err_and c.from_residual.result c.from_residual.ensures.1 in
    leads_refused c.args.machine.now v _ c.args.page.now (unless (content_cause c.args.machine.now v c.args.self.now.page) (listed_from c.args.machine.now v (c.args.self.now.page + 1))) c.from_residual.result c.in_err-accept.field-0.0 (p.1 ∙ ap Err p.2)
    (unless_some (content_cause c.args.machine.now v c.args.self.now.page) c.in_err-accept.field-0.0 (listed_from c.args.machine.now v (c.args.self.now.page + 1)) (c.in_err-accept.ensures.accepts v listing is))

pub returns-then-self-clause-leads : goal.returns-then-self-clause-leads
returns-then-self-clause-leads c = λ v listing map is.
    let acc = c.in_ok-accept.ensures.accepts v listing is in
    let kept = c.in_ok-accept.ensures.kept in
    let few : c.args.self.now.page < 2 ^ 63 = few_listed c.args.machine.now v c.args.self.now.page c.accept.new.self acc.1 c.accept.new.self.few in
    let next : c.following-self.result ≡ c.args.self.now.page + 1 = c.following-self.ensures (subst (λ x. x < 2 ^ 63) (sym kept.page) few) ∙ ap (λ x. x + 1) kept.page in
    let mark : c.accept.new.self.mark ≡ mark_in c.args.machine.now v = kept.mark ∙ listing.mark in
    let before : HasMapBefore c.args.machine.now v c.accept.new.self.map c.following-self.result =
    subst (λ x. HasMapBefore c.args.machine.now v x c.following-self.result) (sym kept.map) (subst (HasMapBefore c.args.machine.now v c.args.self.now.map) (sym next) (next_map c.args.machine.now v c.args.self.now.map c.args.self.now.page map)) in
    let all = has_listed c.args.machine.now v c.args.self.now.page _ (tallied_as c.args.machine.now v c.args.self.now.page c.accept.new.self _ acc.1 refl refl refl refl refl) mark next before c.if-self.true in
    leads_over c.args.machine.now v _ c.args.page.now (handed_from c.args.machine.now v 0) (unless (content_cause c.args.machine.now v c.args.self.now.page) (listed_from c.args.machine.now v (c.args.self.now.page + 1))) c.begin_pages.result
    (unless_none (content_cause c.args.machine.now v c.args.self.now.page) (listed_from c.args.machine.now v (c.args.self.now.page + 1)) acc.0 ∙ listed_end c.args.machine.now v (c.args.self.now.page + 1) (sym next ∙ all.page))
    (c.begin_pages.ensures.leads v c.args.page.now all)

pub returns-else-self-clause-leads : goal.returns-else-self-clause-leads
returns-else-self-clause-leads c = λ v listing map is.
    let acc = c.in_ok-accept.ensures.accepts v listing is in
    let kept = c.in_ok-accept.ensures.kept in
    let few : c.args.self.now.page < 2 ^ 63 = few_listed c.args.machine.now v c.args.self.now.page c.accept.new.self acc.1 c.accept.new.self.few in
    let next : c.following-self.result ≡ c.args.self.now.page + 1 = c.following-self.ensures (subst (λ x. x < 2 ^ 63) (sym kept.page) few) ∙ ap (λ x. x + 1) kept.page in
    let mark : c.accept.new.self.mark ≡ mark_in c.args.machine.now v = kept.mark ∙ listing.mark in
    let before : HasMapBefore c.args.machine.now v c.accept.new.self.map c.following-self.result =
    subst (λ x. HasMapBefore c.args.machine.now v x c.following-self.result) (sym kept.map) (subst (HasMapBefore c.args.machine.now v c.args.self.now.map) (sym next) (next_map c.args.machine.now v c.args.self.now.map c.args.self.now.page map)) in
    let on = lists_on c.args.machine.now v c.args.self.now.page _ (tallied_as c.args.machine.now v c.args.self.now.page c.accept.new.self _ acc.1 refl refl refl refl refl) mark next c.if-self.false in
    let rest : List Turn = unless (content_cause c.args.machine.now v c.following-self.result) (listed_from c.args.machine.now v (c.following-self.result + 1)) in
    leads_over c.args.machine.now v _ c.args.page.now (page_then c.args.machine.now v c.following-self.result rest) (unless (content_cause c.args.machine.now v c.args.self.now.page) (listed_from c.args.machine.now v (c.args.self.now.page + 1))) c.want.result
    (unless_none (content_cause c.args.machine.now v c.args.self.now.page) (listed_from c.args.machine.now v (c.args.self.now.page + 1)) acc.0 ∙ ap (listed_from c.args.machine.now v) (sym next) ∙ listed_more c.args.machine.now v c.following-self.result on.1)
    (listing_leads c.args.machine.now v _ c.args.page.now (page_then c.args.machine.now v c.following-self.result rest) c.want.result on.0 (c.want.ensures.wants v rest mark before))

pub returns-then-self-clause-asks : goal.returns-then-self-clause-asks
returns-then-self-clause-asks c = λ made begun new. c.begin_pages.ensures.asks made begun new

pub returns-else-self-clause-asks : goal.returns-else-self-clause-asks
returns-else-self-clause-asks c = λ made begun new. asks_more c.args.machine.now c.accept.new.self made c.want.result c.want.ensures.reads begun new
