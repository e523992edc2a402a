use Rattle.std.proofs.Common.{◌≡◌, ◌≤◌, ℕ, List, [], ◌∷◌, ◌++◌, Option, Result, Ok, Err, OnErr, refl, sym, ap, subst, ◌∙◌, arith}
use Rattle.definitions.specs.Disk.{Content}
use Rattle.definitions.specs.Streams.{TakesAll, TakesFront}
use Rattle.image_pages.specs.Given.{frame_of}
use Rattle.image_pages.specs.SavedFrames.{SavedFrame}
use Rattle.image_pages.specs.Says.{AreAllGiven}
use Rattle.image_pages.proofs.SinceSaved.{refused_since}
use Rattle.image_stream.specs.Converted.{IsFrameFront}
use Rattle.image_stream.proofs.Framing.{fewer_left, frames_cut, has_frames, writes_more, writes_none}
use Rattle.image_stream.proofs.Starting.{given_earlier}
use Rattle.image_stream.proofs.converting.write_frames.Goals as goal

on_err_any : {A E : Type 0} (r : Result A E) (P : Type 0) → P → OnErr r P
on_err_any (Ok x) P p = tt
on_err_any (Err e) P p = p

all_since : (c d : Option Content) (m n header before then now : ℕ) (info : List ℕ) (frames : List SavedFrame) → c ≡ d → m ≡ n → before ≤ then → AreAllGiven c m header then now info frames → AreAllGiven d n header before now info frames
all_since c d m n header before then now info frames e f le a =
    subst (λ (x : Option Content). AreAllGiven x n header before now info frames) e
    (subst (λ (k : ℕ). AreAllGiven c k header before now info frames) f (given_earlier c m header before then now info frames le a))

pub next-requires : goal.next-requires
next-requires g c =
    let (header, h) = c.requires in
    let s = c.loop-out.invariant.so_far header h in
    (header, (s.given, s.stands))

pub loop-out-init : goal.loop-out-init
loop-out-init g c = record {
  so_far = λ header h. writes_none (g.D.Disk.content c.args.disk.now) (g.D.Disk.block_count c.args.disk.now) header c.args.frames (g.S.Sink.taken c.args.out.now) h;
  told = refl;
  counted = omega arith;
  content = refl;
  faults = omega arith;
  orders = refl;
  blocks = refl;
}

pub loop-out-smaller : goal.loop-out-smaller
loop-out-smaller g c =
    let (header, h) = c.requires in
    let s = c.loop-out.invariant.so_far header h in
    fewer_left (g.D.Disk.content c.loop-out.disk) (g.D.Disk.block_count c.loop-out.disk) header c.loop-out.frames c.next.new.self s.given (frame_of c.in-Frame.field-0 c.next.new.page) s.stands (c.in-Frame.ensures.says header s.given s.stands).1 c.next.ensures.info

pub loop-out-preserved : goal.loop-out-preserved
loop-out-preserved g c =
    let i = c.loop-out.invariant in
    let (begun, start) = c.requires in
    let s = i.so_far begun start in
    let first = g.S.Sink.taken c.args.out.now in
    let mid = g.S.Sink.taken c.loop-out.out in
    let last = g.S.Sink.taken c.put_all.new.sink in
    record {
      so_far = λ header h.
          let t = i.so_far header h in
          writes_more (g.D.Disk.content c.loop-out.disk) (g.D.Disk.content c.next.new.disk) (g.D.Disk.block_count c.loop-out.disk) (g.D.Disk.block_count c.next.new.disk) header c.loop-out.frames c.next.new.self c.args.frames.numbers.info c.in-Frame.field-0 c.next.new.page first mid last (sym c.next.ensures.content) (sym c.next.ensures.blocks) t (c.in-Frame.ensures.says header t.given t.stands).1 c.next.ensures.info
          (subst (λ (x : List ℕ). TakesAll x mid last) c.as_bytes.ensures.bytes c.in_ok-put_all-in-Frame.ensures.whole);
      told = (c.in-Frame.ensures.says begun s.given s.stands).0 ∙ i.told;
      counted = omega (arith, i.counted, c.put_all.ensures.counted);
      content = c.next.ensures.content ∙ i.content;
      faults = omega (arith, i.faults, c.next.ensures.faults);
      orders = c.next.ensures.orders ∙ i.orders;
      blocks = c.next.ensures.blocks ∙ i.blocks;
    }

pub returns-in_err-put_all-in-Frame-clause-stopped : goal.returns-in_err-put_all-in-Frame-clause-stopped
returns-in_err-put_all-in-Frame-clause-stopped g c = λ header h.
    let i = c.loop-out.invariant in
    let s = i.so_far header h in
    let first = g.S.Sink.taken c.args.out.now in
    let mid = g.S.Sink.taken c.loop-out.out in
    let last = g.S.Sink.taken c.put_all.new.sink in
    on_err_any c.from_residual.result (IsFrameFront (g.D.Disk.content c.args.disk.now) (g.D.Disk.block_count c.args.disk.now) header c.args.frames.numbers.info first last)
    (frames_cut (g.D.Disk.content c.loop-out.disk) (g.D.Disk.content c.args.disk.now) (g.D.Disk.block_count c.loop-out.disk) (g.D.Disk.block_count c.args.disk.now) header c.loop-out.frames c.next.new.self c.args.frames.numbers.info c.in-Frame.field-0 c.next.new.page first mid last i.content i.blocks s (c.in-Frame.ensures.says header s.given s.stands).1 c.next.ensures.info
    (subst (λ (x : List ℕ). TakesFront x mid last) c.as_bytes.ensures.bytes c.in_err-put_all-in-Frame.ensures.front))

pub returns-in_err-put_all-in-Frame-clause-untold : goal.returns-in_err-put_all-in-Frame-clause-untold
returns-in_err-put_all-in-Frame-clause-untold g c =
    let i = c.loop-out.invariant in
    let (header, h) = c.requires in
    let s = i.so_far header h in
    on_err_any c.from_residual.result (g.R.Report.told c.next.new.report ≡ g.R.Report.told c.args.report.now) ((c.in-Frame.ensures.says header s.given s.stands).0 ∙ i.told)

pub returns-in-End-clause-written : goal.returns-in-End-clause-written
returns-in-End-clause-written g c = λ header h.
    let i = c.loop-out.invariant in
    let s = i.so_far header h in
    let says = c.in-End.ensures.says header s.given s.stands in
    let info = c.args.frames.numbers.info in
    let all = subst (λ (x : List ℕ). AreAllGiven (g.D.Disk.content c.loop-out.disk) (g.D.Disk.block_count c.loop-out.disk) header (g.D.Disk.faults c.loop-out.disk) (g.D.Disk.faults c.next.new.disk) x s.given) (c.next.ensures.info ∙ s.same) says.1 in (
      says.0 ∙ i.told,
      (
        s.given,
        (
          all_since (g.D.Disk.content c.loop-out.disk) (g.D.Disk.content c.args.disk.now) (g.D.Disk.block_count c.loop-out.disk) (g.D.Disk.block_count c.args.disk.now) header (g.D.Disk.faults c.args.disk.now) (g.D.Disk.faults c.loop-out.disk) (g.D.Disk.faults c.next.new.disk) info s.given i.content i.blocks i.faults all,
          s.taken,
        ),
      ),
    )

pub returns-in-Refused-clause-written : goal.returns-in-Refused-clause-written
returns-in-Refused-clause-written g c = λ header h.
    let i = c.loop-out.invariant in
    let s = i.so_far header h in
    let says = c.in-Refused.ensures.says header s.given s.stands in (
      s.given,
      (
        has_frames (g.D.Disk.content c.loop-out.disk) (g.D.Disk.content c.args.disk.now) (g.D.Disk.block_count c.loop-out.disk) (g.D.Disk.block_count c.args.disk.now) header c.loop-out.frames c.args.frames.numbers.info (g.S.Sink.taken c.args.out.now) (g.S.Sink.taken c.loop-out.out) i.content i.blocks s,
        (
          says.0,
          refused_since (g.D.Disk.content c.loop-out.disk) (g.D.Disk.content c.args.disk.now) (g.D.Disk.block_count c.loop-out.disk) (g.D.Disk.block_count c.args.disk.now) header (g.D.Disk.faults c.args.disk.now) (g.D.Disk.faults c.loop-out.disk) (g.D.Disk.faults c.next.new.disk) (g.R.Report.told c.args.report.now) (g.R.Report.told c.loop-out.report) (g.R.Report.told c.next.new.report) says.0 i.content i.blocks i.told i.faults says.1,
        ),
        s.taken,
      ),
    )
