-- A stream whose disk was called before, to open the image.
use Rattle.std.proofs.Common.{◌≡◌, ℕ, ◌≤◌, List, Option, inl, inr, subst, arith}
use Rattle.definitions.specs.Disk.{Content, HasRisen}
use Rattle.image_check.specs.Told.{Told}
use Rattle.image_pages.proofs.Earlier.{ended_earlier, refused_earlier}
use Rattle.image_pages.specs.SavedFrames.{SavedFrame}
use Rattle.image_pages.specs.Says.{AreAllGiven}
use Rattle.image_pages.proofs.Starting.{bad_earlier}
use Rattle.image_stream.specs.Streamed.{IsCutShort, IsStreamed, IsWritten}
use Rattle.image_stream.specs.declared.streaming.Streamed.{Streamed}
use Rattle.image_stream.specs.declared.streaming.Streamed.TheVariants.{NoImage, Refused, Whole}

pub risen_later : (before then now : ℕ) → before ≤ then → HasRisen then now → HasRisen before now
risen_later before then now le (inl lt) = inl (omega arith)
risen_later before then now le (inr last) = inr last

cut_earlier : (content : Option Content) (blocks header before then now : ℕ) (told end : Told) (old new : Option (List ℕ)) → before ≤ then → IsCutShort content blocks header then now told end old new → IsCutShort content blocks header before now told end old new
cut_earlier content blocks header before then now told end old new le cut = record {
  pieces = cut.pieces;
  refused = elim cut.refused [
    | inl (refused, as_read) ↦ inl (refused_earlier content blocks header before then now told end cut.pieces le refused, as_read)
    | inr (pieces, (pages, refused)) ↦ inr (pieces, (pages, refused_earlier content blocks header before then now told end pages le refused))
  ];
  begun = cut.begun;
  taken = cut.taken;
}

pub given_earlier : (content : Option Content) (blocks header before then now : ℕ) (info : List ℕ) (frames : List SavedFrame) → before ≤ then → AreAllGiven content blocks header then now info frames → AreAllGiven content blocks header before now info frames
given_earlier content blocks header before then now info frames le a = record {
  pages = a.pages;
  ended = ended_earlier content blocks header before then now a.pages le a.ended;
  whole = a.whole;
  first_page = a.first_page;
  count = a.count;
  format = a.format;
  saves = a.saves;
  listed = a.listed;
  read = a.read;
  saved = a.saved;
  all = a.all;
}

written_earlier : (content : Option Content) (blocks header before then now : ℕ) (old new : Option (List ℕ)) → before ≤ then → IsWritten content blocks header then now old new → IsWritten content blocks header before now old new
written_earlier content blocks header before then now old new le w = record {
  pieces = w.pieces;
  read = elim w.read [
    | inl p ↦ inl (record { ended = ended_earlier content blocks header before then now w.pieces le p.ended; whole = p.whole; plain = p.plain })
    | inr p ↦ inr (record {
      info = p.info;
      listed = p.listed;
      frames = p.frames;
      saves = p.saves;
      read = p.read;
      full = p.full;
      all = given_earlier content blocks header before then now p.info p.frames le p.all;
      made = p.made;
    })
  ];
  stream = w.stream;
  taken = w.taken;
}

pub streamed_earlier : (content : Option Content) (blocks header before then now : ℕ) (told end : Told) (old new : Option (List ℕ)) (s : Streamed) → before ≤ then → IsStreamed content blocks header then now told end old new s → IsStreamed content blocks header before now told end old new s
streamed_earlier content blocks header before then now told end old new NoImage le h = h
streamed_earlier content blocks header before then now told end old new Refused le (inl (bad, same)) =
    inl (bad_earlier content blocks header before then now told end le bad, same)
streamed_earlier content blocks header before then now told end old new Refused le (inr cut) =
    inr (cut_earlier content blocks header before then now told end old new le cut)
streamed_earlier content blocks header before then now told end old new Whole le (w, same) =
    (written_earlier content blocks header before then now old new le w, same)

-- a stream is the same over a disk that reads as before
pub streamed_since : (c d : Option Content) (m n header before then now : ℕ) (told mid end : Told) (old new : Option (List ℕ)) (s : Streamed) → c ≡ d → m ≡ n → mid ≡ told → before ≤ then → IsStreamed c m header then now mid end old new s → IsStreamed d n header before now told end old new s
streamed_since c d m n header before then now told mid end old new s e f t le h =
    streamed_earlier d n header before then now told end old new s le
    (subst (λ (x : Told). IsStreamed d n header then now x end old new s) t
    (subst (λ (x : Option Content). IsStreamed x n header then now mid end old new s) e
    (subst (λ (k : ℕ). IsStreamed c k header then now mid end old new s) f h)))
