use Rattle.std.proofs.Common.{◌≡◌, [], ◌∷◌, Bool, true, false, Option, Result, Ok, Err, OnOk, OnErr, refl, sym, ap, ◌∙◌, subst, inl, inr, arith}
use Rattle.std.specs.Result.{is_err}
use Rattle.std.proofs.lemmas.Result.{err_from_is_err_and}
use Rattle.definitions.specs.Disk.{Content}
use Rattle.image_walk.specs.Names.{IsReadFrom}
use Rattle.image_show.specs.declared.facts.fact.Fact.TheVariants as fact
use Rattle.image_show.specs.Shown.{ShowsHeader}
use Rattle.image_show.specs.Forms.{Puts, PutsFront}
use Rattle.image_show.specs.declared.fault.Fault.{Fault}
use Rattle.image_show.specs.declared.fault.Fault.TheVariants.{Write}
use Rattle.image_show.specs.declared.shown.Shown.{Shown}
use Rattle.image_show.proofs.Earlier.{header_earlier}
use Rattle.image_show.proofs.area.show.Goals as goal

on_ok : {T E P : Type 0} (r : Result T E) (b : Bool) → b ≡ false → b ≡ is_err r → OnOk r P → P
on_ok (Ok v) b f e h = h
on_ok (Err w) b f e h = cc

on_err : {T E P : Type 0} (r : Result T E) (b : Bool) → b ≡ true → b ≡ is_err r → OnErr r P → P
on_err (Ok v) b f e h = cc
on_err (Err w) b f e h = h

or_this : Fault → Result Shown Fault → Fault
or_this f (Ok v) = f
or_this f (Err g) = g

fault_is : (f : Fault) → ◌≡◌ {A = Result Shown Fault} (Err f) (Err Write) → f ≡ Write
unfolding or_this
fault_is f e = ap (or_this f) e

write_passed : (f : Fault) → ◌≡◌ {A = Result Shown Fault} (Err f) (Err Write) → ◌≡◌ {A = Result (Unit {0}) Fault} (Err f) (Err Write)
write_passed f e = ap {B = Result (Unit {0}) Fault} Err (fault_is f e)

pub returns-then-header-blocks-clause-shown : goal.returns-then-header-blocks-clause-shown
returns-then-header-blocks-clause-shown g c =
    let blocks = g.D.Disk.block_count c.args.disk.now in (
      fact.Blocks blocks ∷ fact.HeaderMissing ∷ [],
      (
        inl (omega (arith, c.if-header-blocks.true, c.blocks-blocks.ensures), refl),
        subst (λ n. Puts g.F.Form.style (fact.Blocks n ∷ fact.HeaderMissing ∷ []) (g.F.Form.written c.args.form.now) (g.F.Form.written c.print_only.new.form)) c.blocks-blocks.ensures c.in_ok-print_only.ensures.whole,
      ),
    )

pub returns-in_err-print_only-clause-front : goal.returns-in_err-print_only-clause-front
returns-in_err-print_only-clause-front g c = λ e.
    let blocks = g.D.Disk.block_count c.args.disk.now in (
      fact.Blocks blocks ∷ fact.HeaderMissing ∷ [],
      (
        inl (inl (omega (arith, c.if-header-blocks.true, c.blocks-blocks.ensures), refl)),
        subst (λ n. PutsFront g.F.Form.style (fact.Blocks n ∷ fact.HeaderMissing ∷ []) (g.F.Form.written c.args.form.now) (g.F.Form.written c.print_only.new.form)) c.blocks-blocks.ensures c.print_only.ensures.front,
      ),
    )

pub returns-then-is_err-clause-shown : goal.returns-then-is_err-clause-shown
returns-then-is_err-clause-shown g c =
    let blocks = g.D.Disk.block_count c.args.disk.now in (
      fact.Blocks blocks ∷ fact.HeaderUnread ∷ [],
      (
        inr (on_err c.read.result c.is_err.result c.if-is_err.true c.is_err.ensures.value c.read.ensures.cause, refl),
        subst (λ n. Puts g.F.Form.style (fact.Blocks n ∷ fact.HeaderUnread ∷ []) (g.F.Form.written c.args.form.now) (g.F.Form.written c.print_only-then-is_err.new.form)) c.blocks-blocks.ensures c.in_ok-print_only-2.ensures.whole,
      ),
    )

pub returns-in_err-print_only-2-clause-front : goal.returns-in_err-print_only-2-clause-front
returns-in_err-print_only-2-clause-front g c = λ e.
    let blocks = g.D.Disk.block_count c.args.disk.now in (
      fact.Blocks blocks ∷ fact.HeaderUnread ∷ [],
      (
        inl (inr (on_err c.read.result c.is_err.result c.if-is_err.true c.is_err.ensures.value c.read.ensures.cause, refl)),
        subst (λ n. PutsFront g.F.Form.style (fact.Blocks n ∷ fact.HeaderUnread ∷ []) (g.F.Form.written c.args.form.now) (g.F.Form.written c.print_only-then-is_err.new.form)) c.blocks-blocks.ensures c.print_only-then-is_err.ensures.front,
      ),
    )

pub returns-clause-shown : goal.returns-clause-shown
returns-clause-shown g c =
    let content = g.D.Disk.content c.args.disk.now in
    let blocks = g.D.Disk.block_count c.args.disk.now in
    let header = c.args.header in
    let before = g.D.Disk.faults c.args.disk.now in
    let then = g.D.Disk.faults c.read.new.self in
    let now = g.D.Disk.faults c.show_header.new.disk in
    let page = c.read.new.into in
    let here : IsReadFrom content header (Ok page) = on_ok c.read.result c.is_err.result c.if-is_err.false c.is_err.ensures.value c.read.ensures.bytes in
    let read : IsReadFrom (g.D.Disk.content c.read.new.self) header (Ok page) = subst (λ (x : Option Content). IsReadFrom x header (Ok page)) (sym c.read.ensures.content) here in
    let shown = c.in_ok-show_header.ensures.shown read in
    let same_content : ShowsHeader true content (g.D.Disk.block_count c.read.new.self) header then now shown.0 =
    subst (λ (x : Option Content). ShowsHeader true x (g.D.Disk.block_count c.read.new.self) header then now shown.0) c.read.ensures.content shown.1.0 in
    let same_blocks : ShowsHeader true content blocks header then now shown.0 =
    subst (λ n. ShowsHeader true content n header then now shown.0) c.read.ensures.blocks same_content in
    (shown.0, (header_earlier true content blocks header before then now shown.0 c.read.ensures.faults same_blocks, shown.1.1))

pub returns-in_err-show_header-clause-front : goal.returns-in_err-show_header-clause-front
returns-in_err-show_header-clause-front g c = λ e.
    let content = g.D.Disk.content c.args.disk.now in
    let blocks = g.D.Disk.block_count c.args.disk.now in
    let header = c.args.header in
    let before = g.D.Disk.faults c.args.disk.now in
    let then = g.D.Disk.faults c.read.new.self in
    let now = g.D.Disk.faults c.show_header.new.disk in
    let page = c.read.new.into in
    let here : IsReadFrom content header (Ok page) = on_ok c.read.result c.is_err.result c.if-is_err.false c.is_err.ensures.value c.read.ensures.bytes in
    let read : IsReadFrom (g.D.Disk.content c.read.new.self) header (Ok page) = subst (λ (x : Option Content). IsReadFrom x header (Ok page)) (sym c.read.ensures.content) here in
    let p = err_from_is_err_and c.from_residual-in_err-show_header.result c.from_residual-in_err-show_header.ensures.1 in
    let shown = c.in_err-show_header.ensures.front read (write_passed c.in_err-show_header.field-0.0 (sym (p.1 ∙ ap Err p.2) ∙ e)) in
    let same_content : ShowsHeader false content (g.D.Disk.block_count c.read.new.self) header then now shown.0 =
    subst (λ (x : Option Content). ShowsHeader false x (g.D.Disk.block_count c.read.new.self) header then now shown.0) c.read.ensures.content shown.1.0 in
    let same_blocks : ShowsHeader false content blocks header then now shown.0 =
    subst (λ n. ShowsHeader false content n header then now shown.0) c.read.ensures.blocks same_content in
    (shown.0, (inr (header_earlier false content blocks header before then now shown.0 c.read.ensures.faults same_blocks), shown.1.1))
