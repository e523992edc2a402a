-- An image that is shown in two readings.
use Rattle.std.proofs.Common.{◌≡◌, ℕ, ◌≤◌, List, [], ◌++◌, Bool, true, false, Option, refl, inl, inr, arith}
use Rattle.std.proofs.lemmas.Bool.{cases_lt}
use Rattle.page_core.specs.declared.format.Format.{Format}
use Rattle.definitions.specs.Disk.{Content, HasRisen}
use Rattle.definitions.specs.FreeRuns.{runs_of}
use Rattle.image_walk.specs.Names.{Name}
use Rattle.image_walk.specs.declared.limits.Limits.{Limits}
use Rattle.image_show.specs.Told.{IsEnd}
use Rattle.image_show.specs.declared.facts.fact.Fact.{Fact}
use Rattle.image_show.specs.Shown.{ShowsBlocks, ShowsFrames, ShowsImage}
use Rattle.image_show.proofs.BlockSteps.{end_earlier}

false_true : false ≡ true → ⊥
false_true e = cc

stays : (before then now : ℕ) → before ≤ then → then ≤ now → HasRisen before then → HasRisen before now
stays before then now le more (inl lt) = inl (omega arith)
stays before then now le more (inr last) = elim (cases_lt then now) [ inl lt ↦ inl (omega arith) | inr ge ↦ inr (omega arith) ]

end_later : (l : Limits) (first : ℕ) (content : Option Content) (before then now : ℕ) (h : List Name) → before ≤ then → then ≤ now → IsEnd l first content before then h → IsEnd l first content before now h
end_later l first content before then now h le more (x, (seen, told)) = (
  x,
  (record { next = seen.next; page = seen.page; unread = λ e. stays before then now le more (seen.unread e) }, told),
)

pub blocks_later : (whole : Bool) (l : Limits) (first : ℕ) (content : Option Content) (before then now : ℕ) (facts : List Fact) → before ≤ then → then ≤ now → ShowsBlocks whole l first content before then facts → ShowsBlocks whole l first content before now facts
blocks_later whole l first content before then now facts le more s = record {
  names = s.names;
  front = s.front;
  end = λ e. end_later l first content before then now s.names le more (s.end e);
  says = s.says;
}

pub frames_earlier : (whole : Bool) (l : Limits) (first : ℕ) (content : Option Content) (before then now : ℕ) (format : Format) (facts : List Fact) → before ≤ then → ShowsFrames whole l first content then now format facts → ShowsFrames whole l first content before now format facts
frames_earlier whole l first content before then now format facts le s = record {
  names = s.names;
  front = s.front;
  end = λ e. elim (s.end e) [ inl end ↦ inl (end_earlier l first content before then now s.names le end) | inr all ↦ inr all ];
  count = s.count;
  says = s.says;
}

no_blocks : (l : Limits) (first : ℕ) (content : Option Content) (before now : ℕ) → ShowsBlocks false l first content before now []
unfolding runs_of
no_blocks l first content before now = record {
  names = [];
  front = record { reading = tt; told = tt; pages = tt };
  end = λ e. absurd (false_true e);
  says = refl;
}

no_frames : (l : Limits) (first : ℕ) (content : Option Content) (before now : ℕ) (format : Format) → ShowsFrames false l first content before now format []
unfolding runs_of
no_frames l first content before now format = record {
  names = [];
  front = record { reading = tt; told = tt; pages = tt };
  end = λ e. absurd (false_true e);
  count = 0;
  says = refl;
}

pub image_none : (l : Limits) (first : ℕ) (content : Option Content) (before now : ℕ) (format : Format) → ShowsImage false l first content before now format []
image_none l first content before now format = record {
  blocks = [];
  frames = [];
  all_blocks = false;
  all_frames = false;
  shows_blocks = no_blocks l first content before now;
  shows_frames = no_frames l first content before now format;
  order = λ e. refl;
  whole = λ e. absurd (false_true e);
  says = refl;
}

pub image_begun : (whole : Bool) (l : Limits) (first : ℕ) (content : Option Content) (before now : ℕ) (format : Format) (facts : List Fact) → ShowsBlocks whole l first content before now facts → ShowsImage false l first content before now format (facts ++ [])
image_begun whole l first content before now format facts s = record {
  blocks = facts;
  frames = [];
  all_blocks = whole;
  all_frames = false;
  shows_blocks = s;
  shows_frames = no_frames l first content before now format;
  order = λ e. refl;
  whole = λ e. absurd (false_true e);
  says = refl;
}

pub image_of_both : (all whole : Bool) (l : Limits) (first : ℕ) (content : Option Content) (before now : ℕ) (format : Format) (blocks frames : List Fact) → (all ≡ true → whole ≡ true) → ShowsBlocks true l first content before now blocks → ShowsFrames whole l first content before now format frames
    → ShowsImage all l first content before now format (blocks ++ frames)
image_of_both all whole l first content before now format blocks frames to_end s t = record {
  blocks = blocks;
  frames = frames;
  all_blocks = true;
  all_frames = whole;
  shows_blocks = s;
  shows_frames = t;
  order = λ e. absurd (let f : true ≡ false = e in cc);
  whole = λ e. (refl, to_end e);
  says = refl;
}
