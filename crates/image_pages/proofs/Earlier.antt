-- A reading that began before other calls of the disk.
use Rattle.std.proofs.Common.{ℕ, ◌≤◌, List, Option, inl, inr, arith}
use Rattle.definitions.specs.Disk.{Content, HasRisen}
use Rattle.image_check.specs.Told.{Told}
use Rattle.image_pages.specs.Ends.{IsEnded, IsRefused}

risen_earlier : (before then now : ℕ) → before ≤ then → HasRisen then now → HasRisen before now
risen_earlier before then now le (inl lt) = inl (omega arith)
risen_earlier before then now le (inr last) = inr last

pub ended_earlier : (content : Option Content) (blocks header before then now : ℕ) (given : List (List ℕ)) → before ≤ then → IsEnded content blocks header then now given → IsEnded content blocks header before now given
ended_earlier content blocks header before then now given le e = record {
  start = e.start;
  history = e.history;
  begins = e.begins;
  whole = record {
    reading = e.whole.reading;
    over = e.whole.over;
    pages = e.whole.pages;
    unread = λ u. risen_earlier before then now le (e.whole.unread u);
  };
  clean = e.clean;
  pages = e.pages;
}

pub refused_earlier : (content : Option Content) (blocks header before then now : ℕ) (old new : Told) (given : List (List ℕ)) → before ≤ then → IsRefused content blocks header then now old new given → IsRefused content blocks header before now old new given
refused_earlier content blocks header before then now old new given le e = record {
  start = e.start;
  history = e.history;
  name = e.name;
  begins = e.begins;
  clean = e.clean;
  pages = e.pages;
  reading = e.reading;
  read = e.read;
  wrong = e.wrong;
  told = e.told;
  unread = λ u. risen_earlier before then now le (e.unread u);
}
