use Rattle.std.proofs.Common.{◌≡◌, ◌<◌, ◌++◌, refl, ℕ, ◌+◌, ◌%◌, List, length, Err, sym, ap, subst, ◌∙◌, arith, rules, length-append}
use Rattle.std.proofs.lemmas.Result.{err_from_is_err_and}
use Rattle.stream_in.specs.declared.stop.InStop.TheVariants as stop
use Rattle.stream_in.specs.declared.session.StreamIn.{StreamIn}
use Rattle.stream_in.specs.Putting.{CanPut}
use Rattle.stream_in.specs.Session.{IsFed}
use Rattle.stream_in.proofs.Contents.{err_same, changes_none, changes_as, on_err_any}
use Rattle.definitions.specs.Disk.{as_it_reads}
use Rattle.stream_in.specs.Putting.{pages_in, pages_written, writes_made}
use Rattle.stream_in.specs.Holding.{MakesMore, WritesOn, page_at}
use Rattle.stream_in.proofs.Pages.{written_part, next_page, page_count, written_on, goes_on}
use Rattle.stream_in.proofs.Rests.{told_full, told_no_stop, told_part, told_stop}
use Rattle.stream_in.proofs.Moments.{outside_none}
use Rattle.stream_in.proofs.Sessions.{IsFull, full_page, page_open, page_closed, output_open, can_put, output_full, part_suffice, too_few}
use Rattle.stream_in.proofs.session.StreamIn.take.Goals as goal

-- A session has taken one list of bytes, so begun is the length of what is in the page.
began : (s : StreamIn) (begun : ℕ) → (free : List ℕ) × (bs : List ℕ) × IsFed free bs s × (begun ≡ length bs % 4096) → (free bs : List ℕ) → IsFed free bs s → begun ≡ length bs % 4096
began s begun (free', bs', fed', is) free bs fed = is ∙ ap (λ n. n % 4096) (sym fed'.taken.taken ∙ fed.taken.taken)

pub returns-in_err-take-clause-answer : goal.returns-in_err-take-clause-answer
returns-in_err-take-clause-answer g c = record {
  taken = search rules;
  stream = λ free bs fed fault is.
      let p = err_from_is_err_and c.from_residual.result c.from_residual.ensures.1 in
      let told : stop.Stream c.in_err-take.field-0.0 ≡ stop.Stream fault = err_same c.from_residual.result _ _ (p.1 ∙ ap Err p.2) is in
      let same : c.in_err-take.field-0.0 ≡ fault = cc in
      (c.take.ensures.fault bs fed.taken fault).0 (c.in_err-take.was ∙ ap Err same);
  suffice = λ free bs fed fault is.
      let p = err_from_is_err_and c.from_residual.result c.from_residual.ensures.1 in
      let told : stop.Stream c.in_err-take.field-0.0 ≡ stop.Stream fault = err_same c.from_residual.result _ _ (p.1 ∙ ap Err p.2) is in
      let same : c.in_err-take.field-0.0 ≡ fault = cc in
      let begun : c.args.begun ≡ length bs % 4096 = began c.args.self.now c.args.begun c.requires.session free bs fed in
      part_suffice free bs c.args.part.now fault c.args.self.now.memory c.args.self.now.map c.args.self.now.writer fed.output (omega arith)
      ((c.take.ensures.fault bs fed.taken fault).0 (c.in_err-take.was ∙ ap Err same));
  too_few = search rules;
}

pub returns-then-end-lt-PAGE-clause-answer : goal.returns-then-end-lt-PAGE-clause-answer
returns-then-end-lt-PAGE-clause-answer g c = record {
  taken = λ free bs fed.
      let part = c.args.part.now in
      let page = c.args.self.now.page in
      let size : length page ≡ 4096 = search rules in
      let begun : c.args.begun ≡ length bs % 4096 = began c.args.self.now c.args.begun c.requires.session free bs fed in
      record {
        taken = c.in_ok-take.ensures.taken bs fed.taken;
        going = fed.going;
        page_is = page_open bs part page c.copy_from_slice.new.self _ c.args.begun begun (omega arith) (omega arith) c.copy_from_slice.ensures.after fed.page_is;
        few = fed.few;
        count = fed.count;
        on_disk = fed.on_disk;
        output = output_open free bs part c.args.self.now.memory c.args.self.now.map c.args.self.now.writer (omega arith) fed.output;
      };
  stream = search rules;
  suffice = search rules;
  too_few = search rules;
}

pub put_full-requires : goal.put_full-requires
put_full-requires g c =
    let free = c.requires.session.0 in
    let bs = c.requires.session.1 in
    let fed = c.requires.session.2 in
    let s = c.args.self.now in
    let size : length s.page ≡ 4096 = search rules in
    let begun : c.args.begun ≡ length bs % 4096 = began s c.args.begun c.requires.session free bs fed in
    let full : IsFull bs c.args.part.now c.from_bytes-page.result =
    full_page bs c.args.part.now c.args.self.now.page c.copy_from_slice.new.self _ c.from_bytes-page.result c.args.begun begun (omega arith) (omega arith)
    c.copy_from_slice.ensures.after fed.page_is c.from_bytes-page.ensures.bytes c.from_bytes-page.ensures.page c.requires.some (c.in_ok-take.ensures.taken bs fed.taken).read.sound in
    let blocks = g.D.Disk.block_count c.args.disk.now in
    let same : s.blocks ≡ blocks = sym c.requires.blocks in
    let P : ℕ → Type 0 = λ n. CanPut free s.memory s.map n c.from_bytes-page.result s.writer in
    let can = subst P same (can_put free bs c.args.part.now c.from_bytes-page.result s.memory s.map s.blocks s.writer fed.few fed.count fed.on_disk full fed.output) in
    record { put = (free, can) }

pub returns-in_err-put_full-clause-answer : goal.returns-in_err-put_full-clause-answer
returns-in_err-put_full-clause-answer g c = record {
  taken = search rules;
  stream = search rules;
  suffice = search rules;
  too_few = λ free bs fed told need is.
      let s = c.args.self.now in
      let size : length s.page ≡ 4096 = search rules in
      let begun : c.args.begun ≡ length bs % 4096 = began s c.args.begun c.requires.session free bs fed in
      let full : IsFull bs c.args.part.now c.from_bytes-page.result =
      full_page bs c.args.part.now c.args.self.now.page c.copy_from_slice.new.self _ c.from_bytes-page.result c.args.begun begun (omega arith) (omega arith)
      c.copy_from_slice.ensures.after fed.page_is c.from_bytes-page.ensures.bytes c.from_bytes-page.ensures.page c.requires.some (c.in_ok-take.ensures.taken bs fed.taken).read.sound in
      let blocks = g.D.Disk.block_count c.args.disk.now in
      let same : s.blocks ≡ blocks = sym c.requires.blocks in
      let P : ℕ → Type 0 = λ n. CanPut free s.memory s.map n c.from_bytes-page.result s.writer in
      let can = subst P same (can_put free bs c.args.part.now c.from_bytes-page.result s.memory s.map s.blocks s.writer fed.few fed.count fed.on_disk full fed.output) in
      let p = err_from_is_err_and c.from_residual-in_err-put_full.result c.from_residual-in_err-put_full.ensures.1 in
      let why : c.in_err-put_full.field-0.0 ≡ stop.NoSlots told need = err_same c.from_residual-in_err-put_full.result _ _ (p.1 ∙ ap Err p.2) is in
      let few = (c.put_full.ensures.puts free can).too_few told need (c.in_err-put_full.was ∙ ap Err why) in
      too_few free bs c.args.part.now c.from_bytes-page.result s.memory s.map s.writer told need full fed.output few;
}

pub returns-clause-answer : goal.returns-clause-answer
returns-clause-answer g c = record {
  taken = λ free bs fed.
      let s = c.args.self.now in
      let size : length s.page ≡ 4096 = search rules in
      let begun : c.args.begun ≡ length bs % 4096 = began s c.args.begun c.requires.session free bs fed in
      let full : IsFull bs c.args.part.now c.from_bytes-page.result =
      full_page bs c.args.part.now c.args.self.now.page c.copy_from_slice.new.self _ c.from_bytes-page.result c.args.begun begun (omega arith) (omega arith)
      c.copy_from_slice.ensures.after fed.page_is c.from_bytes-page.ensures.bytes c.from_bytes-page.ensures.page c.requires.some (c.in_ok-take.ensures.taken bs fed.taken).read.sound in
      let blocks = g.D.Disk.block_count c.args.disk.now in
      let same : s.blocks ≡ blocks = sym c.requires.blocks in
      let P : ℕ → Type 0 = λ n. CanPut free s.memory s.map n c.from_bytes-page.result s.writer in
      let can = subst P same (can_put free bs c.args.part.now c.from_bytes-page.result s.memory s.map s.blocks s.writer fed.few fed.count fed.on_disk full fed.output) in
      let put = (c.in_ok-put_full.ensures.puts free can).put in
      let enough = (c.in_ok-put_full.ensures.puts free can).enough in
      record {
        taken = c.in_ok-take.ensures.taken bs fed.taken;
        going = fed.going;
        page_is = page_closed bs c.args.part.now _ (omega arith);
        few = fed.few;
        count = fed.count;
        on_disk = fed.on_disk;
        output = output_full free bs c.args.part.now c.from_bytes-page.result s.memory c.put_full.new.memory s.map s.writer c.put_full.new.writer full fed.output put enough;
      };
  stream = search rules;
  suffice = search rules;
  too_few = search rules;
}

-- The other blocks.

pub returns-in_err-take-clause-writes : goal.returns-in_err-take-clause-writes
returns-in_err-take-clause-writes g c = record {
  done = search rules;
  outside = search rules;
  stopped = λ free bs fed. on_err_any c.from_residual.result _ (told_no_stop c.args.self.now.map free (length bs) (g.D.Disk.content c.args.disk.now));
}

pub returns-then-end-lt-PAGE-clause-writes : goal.returns-then-end-lt-PAGE-clause-writes
returns-then-end-lt-PAGE-clause-writes g c = record {
  done = λ free bs fed of.
      let part = c.args.part.now in
      let a = g.D.Disk.content c.args.disk.now in
      let begun : c.args.begun ≡ length bs % 4096 = began c.args.self.now c.args.begun c.requires.session free bs fed in
      let few : length bs % 4096 + length part < 4096 = omega arith in
      let sound = (c.in_ok-take.ensures.taken bs fed.taken).read.sound in
      changes_none (WritesOn c.args.self.now.map free bs part) a a
      (λ x. written_part c.args.self.now.map free bs part (as_it_reads x) few (goes_on bs part sound c.requires.some)) refl;
  outside = λ free bs fed.
      let part = c.args.part.now in
      let begun : c.args.begun ≡ length bs % 4096 = began c.args.self.now c.args.begun c.requires.session free bs fed in
      told_part c.args.self.now.map free bs part (g.D.Disk.content c.args.disk.now) (omega arith);
  stopped = search rules;
}

pub returns-in_err-put_full-clause-writes : goal.returns-in_err-put_full-clause-writes
returns-in_err-put_full-clause-writes g c = record {
  done = search rules;
  outside = search rules;
  stopped = λ free bs fed.
      let s = c.args.self.now in
      let size : length s.page ≡ 4096 = search rules in
      let begun : c.args.begun ≡ length bs % 4096 = began s c.args.begun c.requires.session free bs fed in
      let full : IsFull bs c.args.part.now c.from_bytes-page.result =
      full_page bs c.args.part.now c.args.self.now.page c.copy_from_slice.new.self _ c.from_bytes-page.result c.args.begun begun (omega arith) (omega arith)
      c.copy_from_slice.ensures.after fed.page_is c.from_bytes-page.ensures.bytes c.from_bytes-page.ensures.page c.requires.some (c.in_ok-take.ensures.taken bs fed.taken).read.sound in
      let blocks = g.D.Disk.block_count c.args.disk.now in
      let same : s.blocks ≡ blocks = sym c.requires.blocks in
      let P : ℕ → Type 0 = λ n. CanPut free s.memory s.map n c.from_bytes-page.result s.writer in
      let can = subst P same (can_put free bs c.args.part.now c.from_bytes-page.result s.memory s.map s.blocks s.writer fed.few fed.count fed.on_disk full fed.output) in
      let a = g.D.Disk.content c.args.disk.now in
      let b = g.D.Disk.content c.put_full.new.disk in
      on_err_any c.from_residual-in_err-put_full.result _ (told_stop free bs s.memory s.map s.writer a b fed.output (c.in_err-put_full.ensures.puts free can).stopped);
}

pub returns-clause-writes : goal.returns-clause-writes
returns-clause-writes g c = record {
  done = λ free bs fed of.
      let s = c.args.self.now in
      let size : length s.page ≡ 4096 = search rules in
      let begun : c.args.begun ≡ length bs % 4096 = began s c.args.begun c.requires.session free bs fed in
      let full : IsFull bs c.args.part.now c.from_bytes-page.result =
      full_page bs c.args.part.now c.args.self.now.page c.copy_from_slice.new.self _ c.from_bytes-page.result c.args.begun begun (omega arith) (omega arith)
      c.copy_from_slice.ensures.after fed.page_is c.from_bytes-page.ensures.bytes c.from_bytes-page.ensures.page c.requires.some (c.in_ok-take.ensures.taken bs fed.taken).read.sound in
      let blocks = g.D.Disk.block_count c.args.disk.now in
      let same : s.blocks ≡ blocks = sym c.requires.blocks in
      let P : ℕ → Type 0 = λ n. CanPut free s.memory s.map n c.from_bytes-page.result s.writer in
      let can = subst P same (can_put free bs c.args.part.now c.from_bytes-page.result s.memory s.map s.blocks s.writer fed.few fed.count fed.on_disk full fed.output) in
      let put = (c.in_ok-put_full.ensures.puts free can).put in
      let enough = (c.in_ok-put_full.ensures.puts free can).enough in
      let a = g.D.Disk.content c.args.disk.now in
      let b = g.D.Disk.content c.put_full.new.disk in
      let pages = page_at (bs ++ c.args.part.now) in
      let next : c.from_bytes-page.result ≡ pages (pages_written s.writer) =
      next_page bs c.args.part.now c.from_bytes-page.result full ∙ ap pages (page_count free bs c.args.part.now c.from_bytes-page.result s.memory s.map s.writer full fed.output) in
      let made = (c.in_ok-put_full.ensures.puts free can).done pages of next in
      changes_as (MakesMore s.map free (pages_in c.from_bytes-page.result s.writer) pages (writes_made s.writer) (writes_made c.put_full.new.writer)) (WritesOn s.map free bs c.args.part.now) a b
      (written_on free bs c.args.part.now c.from_bytes-page.result s.memory c.put_full.new.memory s.map s.writer c.put_full.new.writer full fed.output put enough) made;
  outside = λ free bs fed.
      let s = c.args.self.now in
      let size : length s.page ≡ 4096 = search rules in
      let begun : c.args.begun ≡ length bs % 4096 = began s c.args.begun c.requires.session free bs fed in
      let full : IsFull bs c.args.part.now c.from_bytes-page.result =
      full_page bs c.args.part.now c.args.self.now.page c.copy_from_slice.new.self _ c.from_bytes-page.result c.args.begun begun (omega arith) (omega arith)
      c.copy_from_slice.ensures.after fed.page_is c.from_bytes-page.ensures.bytes c.from_bytes-page.ensures.page c.requires.some (c.in_ok-take.ensures.taken bs fed.taken).read.sound in
      let blocks = g.D.Disk.block_count c.args.disk.now in
      let same : s.blocks ≡ blocks = sym c.requires.blocks in
      let P : ℕ → Type 0 = λ n. CanPut free s.memory s.map n c.from_bytes-page.result s.writer in
      let can = subst P same (can_put free bs c.args.part.now c.from_bytes-page.result s.memory s.map s.blocks s.writer fed.few fed.count fed.on_disk full fed.output) in
      let a = g.D.Disk.content c.args.disk.now in
      let b = g.D.Disk.content c.put_full.new.disk in
      told_full free bs c.args.part.now s.memory s.map s.writer a b (omega (arith, length-append bs c.args.part.now)) fed.output (c.in_ok-put_full.ensures.puts free can).outside;
  stopped = search rules;
}

-- What is on the disk.

-- Moments.

pub returns-in_err-take-clause-time : goal.returns-in_err-take-clause-time
returns-in_err-take-clause-time g c = λ tells free bs fed. outside_none c.args.self.now.map free (g.D.Disk.moment c.args.disk.now) (g.D.Disk.left_since c.args.disk.now)

pub returns-then-end-lt-PAGE-clause-time : goal.returns-then-end-lt-PAGE-clause-time
returns-then-end-lt-PAGE-clause-time g c = λ tells free bs fed. outside_none c.args.self.now.map free (g.D.Disk.moment c.args.disk.now) (g.D.Disk.left_since c.args.disk.now)

pub returns-in_err-put_full-clause-time : goal.returns-in_err-put_full-clause-time
returns-in_err-put_full-clause-time g c = λ tells free bs fed.
    let s = c.args.self.now in
    let size : length s.page ≡ 4096 = search rules in
    let begun : c.args.begun ≡ length bs % 4096 = began s c.args.begun c.requires.session free bs fed in
    let full : IsFull bs c.args.part.now c.from_bytes-page.result =
    full_page bs c.args.part.now c.args.self.now.page c.copy_from_slice.new.self _ c.from_bytes-page.result c.args.begun begun (omega arith) (omega arith)
    c.copy_from_slice.ensures.after fed.page_is c.from_bytes-page.ensures.bytes c.from_bytes-page.ensures.page c.requires.some (c.in_ok-take.ensures.taken bs fed.taken).read.sound in
    let blocks = g.D.Disk.block_count c.args.disk.now in
    let same : s.blocks ≡ blocks = sym c.requires.blocks in
    let P : ℕ → Type 0 = λ n. CanPut free s.memory s.map n c.from_bytes-page.result s.writer in
    let can = subst P same (can_put free bs c.args.part.now c.from_bytes-page.result s.memory s.map s.blocks s.writer fed.few fed.count fed.on_disk full fed.output) in
    c.put_full.ensures.time tells free can

pub returns-clause-time : goal.returns-clause-time
returns-clause-time g c = λ tells free bs fed.
    let s = c.args.self.now in
    let size : length s.page ≡ 4096 = search rules in
    let begun : c.args.begun ≡ length bs % 4096 = began s c.args.begun c.requires.session free bs fed in
    let full : IsFull bs c.args.part.now c.from_bytes-page.result =
    full_page bs c.args.part.now c.args.self.now.page c.copy_from_slice.new.self _ c.from_bytes-page.result c.args.begun begun (omega arith) (omega arith)
    c.copy_from_slice.ensures.after fed.page_is c.from_bytes-page.ensures.bytes c.from_bytes-page.ensures.page c.requires.some (c.in_ok-take.ensures.taken bs fed.taken).read.sound in
    let blocks = g.D.Disk.block_count c.args.disk.now in
    let same : s.blocks ≡ blocks = sym c.requires.blocks in
    let P : ℕ → Type 0 = λ n. CanPut free s.memory s.map n c.from_bytes-page.result s.writer in
    let can = subst P same (can_put free bs c.args.part.now c.from_bytes-page.result s.memory s.map s.blocks s.writer fed.few fed.count fed.on_disk full fed.output) in
    c.put_full.ensures.time tells free can
