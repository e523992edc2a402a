use Rattle.std.proofs.Common.{◌≡◌, ◌-◌, None, ℕ, refl, sym, ap, ◌∙◌, arith}
use Rattle.page_core.specs.declared.format.Format.{Format}
use Rattle.frame_sets.specs.Unpacked.{Unpacked}
use Rattle.plain_machine.specs.Chain.{is_fault_of}
use Rattle.plain_machine.specs.Trace.{meta_in, data_frames}
use Rattle.image_read.specs.Stream.{frames_in, marked_in, frame_after}
use Rattle.image_read.proofs.Over.{same_fault}
use Rattle.image_read.proofs.reader.Reader.begin.Goals as goal

abbrev begun : Format → Unpacked
begun format = record { n = 0; format = format; read = 0; last = None }

none_left : (m : ℕ) → 0 - m ≡ 0
none_left m = omega arith

pub returns-clause-reading : goal.returns-clause-reading
unfolding frames_in marked_in
returns-clause-reading c = λ h v check area first. record {
  area = area;
  steps = refl;
  sound = λ s lt. absurd (omega arith);
  pages = refl;
  saved = refl;
  within = omega arith;
  block = λ lt. c.in_ok-block.ensures.same ∙ first;
  apart = λ lt.
      sym (same_fault h v c.args.map.now c.args.last c.args.blocks c.args.format c.in_ok-block.block area)
      ∙ ap (λ x. is_fault_of c.args.map.now c.args.blocks c.args.last x) c.in_ok-block.ensures.same
      ∙ c.in_ok-block.ensures.ok.0 refl;
  map = λ apart. absurd (apart refl);
  numbers = c.begin.ensures ∙ ap begun area.same_format;
  listed = refl;
  frame = sym (ap (frame_after (data_frames h v)) (none_left (meta_in h v)));
  frames = refl;
  marks = refl;
  rising = λ k lt. absurd (omega arith);
  counts = λ some. absurd (omega arith);
  whole = λ n told. cc;
}
