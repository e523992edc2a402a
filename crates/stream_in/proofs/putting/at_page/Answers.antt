use Rattle.std.proofs.Common.{ℕ, List, Option, IsSomeAnd, OnOk, sym, subst}
use Rattle.image_write.specs.Writing.{Writing}
use Rattle.stream_in.specs.Putting.{CanPut, IsAtPage}
use Rattle.stream_in.proofs.AtPage.{at_begun}
use Rattle.stream_in.proofs.putting.at_page.Goals as goal

pub returns-in-None-clause-ready : goal.returns-in-None-clause-ready
returns-in-None-clause-ready c =
    let P : Option Writing → Type 0 = λ old. (free : List ℕ) (blocks : ℕ) → CanPut free c.args.memory.now c.args.map.now blocks c.args.page.now old →
    OnOk c.begin.result (IsSomeAnd c.begin.new.writer (λ next. IsAtPage free c.begin.new.memory c.args.map.now blocks c.args.page.now old next)) in
    let e = c.begin.ensures in
    subst P (sym c.in-None.is) (λ free blocks can.
    at_begun free c.args.memory.now c.begin.new.memory c.args.map.now blocks c.args.page.now c.begin.new.writer c.begin.result can e.begun e.enough)
