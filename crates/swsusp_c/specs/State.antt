-- The state of a resume, as C keeps it.
use Rattle.std.specs.Prelude.{ℕ, ◌==◌, Option, Some, None, if◌then◌else◌}
use Rattle.boot_resume.specs.Ends.{IsEnd}
use Rattle.boot_resume.specs.declared.resume.Resume.{Resume}
use Rattle.image_format.specs.declared.signature.area.Mark.{Mark}
use Rattle.swsusp_c.specs.Calls.{call_code}
use Rattle.swsusp_c.specs.Stages.{stage_code}
use Rattle.swsusp_c.specs.declared.state.SwsuspResume.{SwsuspResume}

abbrev pub has_of : Option ℕ → ℕ
has_of None = 0
has_of (Some n) = 1

abbrev pub number_of : Option ℕ → ℕ
number_of None = 0
number_of (Some n) = n

abbrev pub last_by : ℕ → ℕ → Option ℕ
last_by has n = if has == 0 then None else Some n

abbrev pub mark_by : SwsuspResume → Mark
mark_by s = record {
  last = s.mark_last;
  count = s.mark_count;
  first = s.mark_first;
  flags = s.mark_flags;
  hw_sig = s.mark_hw_sig;
}

abbrev pub state_of : Resume → SwsuspResume
state_of r = record {
  stage = stage_code r.pending.stage;
  has_last = has_of r.reading.last;
  call = call_code r.pending.call;
  mark_last = r.reading.mark.last;
  mark_count = r.reading.mark.count;
  mark_first = r.reading.mark.first;
  mark_flags = r.reading.mark.flags;
  mark_hw_sig = r.reading.mark.hw_sig;
  saved = r.reading.saved;
  pages = r.reading.pages;
  page = r.reading.page;
  given = r.reading.given;
  last = number_of r.reading.last;
  with_data = r.reading.with_data;
  again = r.reading.again;
  frame = r.reading.frame;
  map = r.reading.map;
  numbers = r.reading.numbers;
}

-- a resume that hasn't ended
abbrev pub IsLive : Resume → Type 0
IsLive r = IsEnd r.pending.call → ⊥
