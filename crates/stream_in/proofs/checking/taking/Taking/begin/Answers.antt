use Rattle.std.proofs.Common.{[], refl, arith}
use Rattle.stream_in.proofs.Steps.{first_fault-early}
use Rattle.stream_in.proofs.checking.taking.Taking.begin.Goals as goal

pub returns-clause-taken : goal.returns-clause-taken
returns-clause-taken c = record {
  taken = refl;
  read = record {
    sound = first_fault-early [] (omega arith);
    image_count = λ h. absurd (omega arith);
    page_count = λ h. absurd (omega arith);
    numbers_end = refl;
    end = λ h. absurd (omega arith);
    least = λ h. refl;
  };
  begun = λ h i lt. absurd (omega arith);
}
