use Rattle.std.proofs.Common.{List, ◌∷◌, refl, sym, ap, ◌∙◌, subst}
use Rattle.boot_resume.specs.Asked.{Asked, MayPlace}
use Rattle.boot_resume.specs.Standing.{IsAnswer, Knows, behind}
use Rattle.boot_resume.specs.declared.call.Call.{Call}
use Rattle.boot_resume.specs.declared.call.Call.TheVariants.{Sync, Read, Write}
use Rattle.boot_resume.specs.declared.stage.Stage.TheVariants as stage
use Rattle.boot_resume.proofs.Asking.{asks_back, begun_first, begun_page, begun_read, newest_first, newest_page, newest_read}
use Rattle.boot_resume.proofs.Going.{back_goes, first_goes, leads_over}
use Rattle.boot_resume.proofs.reading.Reading.take.Goals as goal

pub returns-in-FirstSync-clause-leads : goal.returns-in-FirstSync-clause-leads
returns-in-FirstSync-clause-leads c = λ v knows answer live.
    let k = subst (λ s. Knows c.args.machine.now v c.args.self.now s c.args.pending.call) c.in-FirstSync.is knows in
    first_goes c.args.machine.now v c.args.self.now c.args.page.now c.args.pending.stage c.header.result c.in-FirstSync.is c.header.ensures

pub returns-in-FirstSync-clause-asks : goal.returns-in-FirstSync-clause-asks
returns-in-FirstSync-clause-asks c = λ made asked live.
    let a = subst (λ s. Asked c.args.machine.now c.args.self.now s c.args.pending.call made) c.in-FirstSync.is asked in
    (ap (λ (x : Call). x ∷ made) a.1 ∙ ap (λ (x : List Call). Sync ∷ x) a.0, ap Read c.header.ensures)

pub returns-in-Header-clause-leads : goal.returns-in-Header-clause-leads
returns-in-Header-clause-leads c = λ v knows answer live.
    let k = subst (λ s. Knows c.args.machine.now v c.args.self.now s c.args.pending.call) c.in-Header.is knows in
    leads_over c.args.machine.now v c.take_header.new.self c.take_header.new.page (behind c.args.machine.now v c.args.self.now stage.Header) (behind c.args.machine.now v c.args.self.now c.args.pending.stage) c.take_header.result (ap (behind c.args.machine.now v c.args.self.now) c.in-Header.is)
    (c.take_header.ensures.leads v (subst (λ x. IsAnswer v x c.args.page.now) k answer))

pub returns-in-Header-clause-asks : goal.returns-in-Header-clause-asks
returns-in-Header-clause-asks c = λ made asked live.
    let a = subst (λ s. Asked c.args.machine.now c.args.self.now s c.args.pending.call made) c.in-Header.is asked in
    asks_back c.args.machine.now c.take_header.new.self (c.args.pending.call ∷ made) c.take_header.result c.take_header.ensures.moves (ap (λ (x : Call). x ∷ made) a.1 ∙ ap (λ (x : List Call). Read c.args.machine.now.header ∷ x) a.0)

pub returns-in-TakeBack-clause-leads : goal.returns-in-TakeBack-clause-leads
returns-in-TakeBack-clause-leads c = λ v knows answer live.
    let k = subst (λ s. Knows c.args.machine.now v c.args.self.now s c.args.pending.call) c.in-TakeBack.is knows in
    back_goes c.args.machine.now v c.args.self.now c.args.page.now c.args.pending.stage c.in-TakeBack.is k

pub returns-in-TakeBack-clause-asks : goal.returns-in-TakeBack-clause-asks
returns-in-TakeBack-clause-asks c = λ made asked live.
    let a = subst (λ s. Asked c.args.machine.now c.args.self.now s c.args.pending.call made) c.in-TakeBack.is asked in
    (ap (λ (x : Call). x ∷ made) a.1 ∙ ap (λ (x : List Call). Write c.args.machine.now.header ∷ x) a.0, refl)

pub returns-in-SettleBack-clause-leads : goal.returns-in-SettleBack-clause-leads
returns-in-SettleBack-clause-leads c = λ v knows answer live.
    let k = subst (λ s. Knows c.args.machine.now v c.args.self.now s c.args.pending.call) c.in-SettleBack.is knows in
    leads_over c.args.machine.now v c.open.new.self c.args.page.now (behind c.args.machine.now v c.args.self.now stage.SettleBack) (behind c.args.machine.now v c.args.self.now c.args.pending.stage) c.open.result (ap (behind c.args.machine.now v c.args.self.now) c.in-SettleBack.is)
    (c.open.ensures.leads v c.args.page.now k)

pub returns-in-SettleBack-clause-asks : goal.returns-in-SettleBack-clause-asks
returns-in-SettleBack-clause-asks c = λ made asked live.
    let a = subst (λ s. Asked c.args.machine.now c.args.self.now s c.args.pending.call made) c.in-SettleBack.is asked in
    c.open.ensures.asks (c.args.pending.call ∷ made) (begun_first c.args.machine.now c.args.pending.call made a.1 a.0) (newest_first c.args.machine.now c.args.pending.call made a.1 a.0)

pub returns-in-ListMap-clause-leads : goal.returns-in-ListMap-clause-leads
returns-in-ListMap-clause-leads c = λ v knows answer live.
    let k = subst (λ s. Knows c.args.machine.now v c.args.self.now s c.args.pending.call) c.in-ListMap.is knows in
    leads_over c.args.machine.now v c.take_list_map.new.self c.args.page.now (behind c.args.machine.now v c.args.self.now stage.ListMap) (behind c.args.machine.now v c.args.self.now c.args.pending.stage) c.take_list_map.result (ap (behind c.args.machine.now v c.args.self.now) c.in-ListMap.is)
    (c.take_list_map.ensures.leads v k.0 (subst (λ x. IsAnswer v x c.args.page.now) k.1 answer))

pub returns-in-ListMap-clause-asks : goal.returns-in-ListMap-clause-asks
returns-in-ListMap-clause-asks c = λ made asked live.
    let a = subst (λ s. Asked c.args.machine.now c.args.self.now s c.args.pending.call made) c.in-ListMap.is asked in
    c.take_list_map.ensures.asks (c.args.pending.call ∷ made) (begun_read c.args.machine.now c.args.pending.call made a.1.1 a.0) (newest_read c.args.pending.call made a.1.1 ∙ a.1.0)

pub returns-in-ListPage-clause-leads : goal.returns-in-ListPage-clause-leads
returns-in-ListPage-clause-leads c = λ v knows answer live.
    let k = subst (λ s. Knows c.args.machine.now v c.args.self.now s c.args.pending.call) c.in-ListPage.is knows in
    leads_over c.args.machine.now v c.take_listed.new.self c.args.page.now (behind c.args.machine.now v c.args.self.now stage.ListPage) (behind c.args.machine.now v c.args.self.now c.args.pending.stage) c.take_listed.result (ap (behind c.args.machine.now v c.args.self.now) c.in-ListPage.is)
    (c.take_listed.ensures.leads v k.0 k.1.1 (subst (λ x. IsAnswer v x c.args.page.now) k.1.0 answer))

pub returns-in-ListPage-clause-asks : goal.returns-in-ListPage-clause-asks
returns-in-ListPage-clause-asks c = λ made asked live.
    let a = subst (λ s. Asked c.args.machine.now c.args.self.now s c.args.pending.call made) c.in-ListPage.is asked in
    c.take_listed.ensures.asks (c.args.pending.call ∷ made) (begun_read c.args.machine.now c.args.pending.call made a.1.1 a.0) (newest_read c.args.pending.call made a.1.1 ∙ a.1.0)

pub returns-in-NumberMap-clause-leads : goal.returns-in-NumberMap-clause-leads
returns-in-NumberMap-clause-leads c = λ v knows answer live.
    let k = subst (λ s. Knows c.args.machine.now v c.args.self.now s c.args.pending.call) c.in-NumberMap.is knows in
    leads_over c.args.machine.now v c.take_number_map.new.self c.args.page.now (behind c.args.machine.now v c.args.self.now stage.NumberMap) (behind c.args.machine.now v c.args.self.now c.args.pending.stage) c.take_number_map.result (ap (behind c.args.machine.now v c.args.self.now) c.in-NumberMap.is)
    (c.take_number_map.ensures.leads v c.args.pending.call k (subst (λ x. IsAnswer v x c.args.page.now) k.call answer))

pub returns-in-NumberPage-clause-leads : goal.returns-in-NumberPage-clause-leads
returns-in-NumberPage-clause-leads c = λ v knows answer live.
    let k = subst (λ s. Knows c.args.machine.now v c.args.self.now s c.args.pending.call) c.in-NumberPage.is knows in
    leads_over c.args.machine.now v c.take_number_page.new.self c.take_number_page.new.page (behind c.args.machine.now v c.args.self.now stage.NumberPage) (behind c.args.machine.now v c.args.self.now c.args.pending.stage) c.take_number_page.result (ap (behind c.args.machine.now v c.args.self.now) c.in-NumberPage.is)
    (c.take_number_page.ensures.leads v c.args.pending.call k (subst (λ x. IsAnswer v x c.args.page.now) k.call answer))

pub returns-in-NumberMap-clause-asks : goal.returns-in-NumberMap-clause-asks
returns-in-NumberMap-clause-asks c = λ made asked live.
    let a = subst (λ s. Asked c.args.machine.now c.args.self.now s c.args.pending.call made) c.in-NumberMap.is asked in
    c.take_number_map.ensures.asks (c.args.pending.call ∷ made) (begun_read c.args.machine.now c.args.pending.call made a.1.1 a.0) (newest_read c.args.pending.call made a.1.1 ∙ a.1.0)

pub returns-in-NumberPage-clause-asks : goal.returns-in-NumberPage-clause-asks
returns-in-NumberPage-clause-asks c = λ made asked live.
    let a = subst (λ s. Asked c.args.machine.now c.args.self.now s c.args.pending.call made) c.in-NumberPage.is asked in
    c.take_number_page.ensures.asks (c.args.pending.call ∷ made) (begun_read c.args.machine.now c.args.pending.call made a.1.1 a.0) (newest_read c.args.pending.call made a.1.1 ∙ a.1.0)

pub returns-in-DataMap-clause-leads : goal.returns-in-DataMap-clause-leads
returns-in-DataMap-clause-leads c = λ v knows answer live.
    let k = subst (λ s. Knows c.args.machine.now v c.args.self.now s c.args.pending.call) c.in-DataMap.is knows in
    leads_over c.args.machine.now v c.take_data_map.new.self c.args.page.now (behind c.args.machine.now v c.args.self.now stage.DataMap) (behind c.args.machine.now v c.args.self.now c.args.pending.stage) c.take_data_map.result (ap (behind c.args.machine.now v c.args.self.now) c.in-DataMap.is)
    (c.take_data_map.ensures.leads v k.0 (subst (λ x. IsAnswer v x c.args.page.now) k.1 answer))

pub returns-in-DataMap-clause-asks : goal.returns-in-DataMap-clause-asks
returns-in-DataMap-clause-asks c = λ made asked live.
    let a = subst (λ s. Asked c.args.machine.now c.args.self.now s c.args.pending.call made) c.in-DataMap.is asked in
    c.take_data_map.ensures.asks (c.args.pending.call ∷ made) (begun_read c.args.machine.now c.args.pending.call made a.1.1.0 a.0) (newest_read c.args.pending.call made a.1.1.0 ∙ a.1.0) a.1.1.1

pub returns-in-DataPage-clause-leads : goal.returns-in-DataPage-clause-leads
returns-in-DataPage-clause-leads c = λ v knows answer live.
    let k = subst (λ s. Knows c.args.machine.now v c.args.self.now s c.args.pending.call) c.in-DataPage.is knows in
    leads_over c.args.machine.now v c.take_data_page.new.self c.args.page.now (behind c.args.machine.now v c.args.self.now stage.DataPage) (behind c.args.machine.now v c.args.self.now c.args.pending.stage) c.take_data_page.result (ap (behind c.args.machine.now v c.args.self.now) c.in-DataPage.is)
    (c.take_data_page.ensures.leads c.args.machine.now v c.args.page.now k.0 k.1.1 (subst (λ x. IsAnswer v x c.args.page.now) k.1.0 answer))

pub returns-in-DataPage-clause-asks : goal.returns-in-DataPage-clause-asks
returns-in-DataPage-clause-asks c = λ made asked live.
    let a = subst (λ s. Asked c.args.machine.now c.args.self.now s c.args.pending.call made) c.in-DataPage.is asked in
    c.take_data_page.ensures.asks c.args.machine.now (c.args.pending.call ∷ made) (begun_read c.args.machine.now c.args.pending.call made a.1.1.0 a.0) (newest_read c.args.pending.call made a.1.1.0 ∙ a.1.0) a.1.1.1

pub returns-in-Place-clause-leads : goal.returns-in-Place-clause-leads
returns-in-Place-clause-leads c = λ v knows answer live.
    let k = subst (λ s. Knows c.args.machine.now v c.args.self.now s c.args.pending.call) c.in-Place.is knows in
    leads_over c.args.machine.now v c.take_placed.new.self c.take_placed.new.page (behind c.args.machine.now v c.args.self.now stage.Place) (behind c.args.machine.now v c.args.self.now c.args.pending.stage) c.take_placed.result (ap (behind c.args.machine.now v c.args.self.now) c.in-Place.is)
    (c.take_placed.ensures.leads v k.0)

pub returns-in-Place-clause-asks : goal.returns-in-Place-clause-asks
returns-in-Place-clause-asks c = λ made asked live.
    let a = subst (λ s. Asked c.args.machine.now c.args.self.now s c.args.pending.call made) c.in-Place.is asked in
    c.take_placed.ensures.asks (c.args.pending.call ∷ made) (begun_page c.args.machine.now c.args.pending.call c.args.self.now.frame made a.1.1.0 (subst (MayPlace c.args.machine.now c.args.self.now.frame) (sym a.1.0) a.1.1.1) a.0) (newest_page c.args.pending.call c.args.self.now.frame made a.1.1.0)

pub returns-in-Ended-clause-leads : goal.returns-in-Ended-clause-leads
returns-in-Ended-clause-leads c = λ v knows answer live.
    let k = subst (λ s. Knows c.args.machine.now v c.args.self.now s c.args.pending.call) c.in-Ended.is knows in
    absurd (live k)

pub returns-in-Ended-clause-asks : goal.returns-in-Ended-clause-asks
returns-in-Ended-clause-asks c = λ made asked live.
    let a = subst (λ s. Asked c.args.machine.now c.args.self.now s c.args.pending.call made) c.in-Ended.is asked in
    absurd (live a)
