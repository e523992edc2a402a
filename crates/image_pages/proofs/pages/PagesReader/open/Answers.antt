use Rattle.std.proofs.Common.{◌≡◌, ℕ, [], Bool, false, None, Some, Result, Ok, Err, OnOk, refl, subst, sym, ap, ◌∙◌}
use Rattle.std.specs.Result.{is_err}
use Rattle.image_check.specs.Checked.{mark_in}
use Rattle.image_pages.specs.Stands.{Stands}
use Rattle.image_pages.specs.declared.pages.Pages.{Pages}
use Rattle.image_pages.proofs.pages.PagesReader.open.Goals as goal

on_ok : {T E P : Type 0} (r : Result T E) (b : Bool) → b ≡ false → b ≡ is_err r → OnOk r P → P
on_ok (Ok v) b f e h = h
on_ok (Err w) b f e h = cc

pub returns-clause-opened : goal.returns-clause-opened
returns-clause-opened g c =
    let content = g.D.Disk.content c.args.disk.now in
    let mark = c.in-Some.mark in
    let page = c.read.new.into in
    let pages : Pages = record {
      walker = c.in_ok-begin.field-0;
      format = c.format_of.result;
      progress = record { counts = None; previous = None; counted = Some 0 };
    } in
    let fine = c.if-not-accept_header.ensures in (
      fine.1,
      subst (λ (n : ℕ). Stands content n c.args.header pages []) c.blocks-blocks.ensures (record {
        start = record { limits = c.limits_of-limits.result; first = mark.first; format = c.format_of.result };
        history = [];
        begins = record {
          page = page;
          mark = mark;
          inside = c.if-header-blocks.false;
          read = on_ok c.read.result c.is_err.result c.if-is_err.false c.is_err.ensures.value c.read.ensures.bytes;
          marked = ap mark_in (sym c.read-2.ensures) ∙ sym c.mark_in.ensures ∙ c.in-Some.is;
          clean = fine.0;
          limits = c.limits_of-limits.ensures;
          first = refl;
          format = c.format_of.ensures;
        };
        clean = record { reading = tt; pages = tt; clean = refl };
        limits = c.in_ok-begin.ensures.limits;
        format = refl;
        follows = c.in_ok-begin.ensures.start;
        knows = record { counts = refl; previous = refl; counted = refl };
        pages = refl;
      }),
    )
