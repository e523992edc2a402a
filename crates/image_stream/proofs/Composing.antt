-- The parts of a stream that is made of an image that skips pages of zeros.
use Rattle.std.proofs.Common.{◌≡◌, ℕ, ◌+◌, ◌≤◌, List, [], ◌∷◌, ◌++◌, length, Option, Some, None, Result, Ok, Err, IfOk, OnErr, refl, sym, ap, subst, ◌∙◌, inl, inr, arith}
use Rattle.std.specs.List.{concat}
use Rattle.std.proofs.lemmas.List.Folds.{concat-append}
use Rattle.page_core.specs.declared.format.Format.{Format}
use Rattle.page_core.specs.declared.format.Format.TheVariants.{SkipZeros}
use Rattle.definitions.specs.Disk.{Content}
use Rattle.definitions.specs.NumberPages.{meta_of}
use Rattle.definitions.specs.Streams.{TakesAll, TakesFront}
use Rattle.byte_streams.proofs.Taken.{TakesAll-none, TakesAll-both, TakesFront-all, TakesFront-first, TakesFront-second}
use Rattle.image_check.specs.Info.{counts_in}
use Rattle.image_check.specs.Told.{Told}
use Rattle.image_check.specs.declared.finding.Counts.{Counts}
use Rattle.image_pages.specs.Ends.{IsRefused}
use Rattle.image_pages.specs.Stands.{Stands}
use Rattle.image_pages.specs.declared.pages.Pages.{Pages}
use Rattle.image_pages.proofs.Reading.{read_given, read_refused}
use Rattle.image_pages.specs.Ahead.{HasInfo}
use Rattle.image_pages.specs.Formats.{SavesThere}
use Rattle.image_pages.specs.Found.{page_at}
use Rattle.image_pages.proofs.Saving.{saves_of}
use Rattle.image_pages.specs.Numbered.{HasNumbered}
use Rattle.image_pages.specs.SavedFrames.{SavedFrame}
use Rattle.image_pages.specs.Says.{AreAllGiven}
use Rattle.image_pages.specs.declared.frames.numbers.Numbers.{Numbers}
use Rattle.image_stream.specs.Converted.{AreAllPieces, ArePieces, HasFrames, HasLists, HasRefusedLists, IsAtLists, IsAtRest, IsFrameFront, IsListFront, WritesFrames, pages_of, pieces_of}
use Rattle.image_stream.specs.Plain.{plain_info, plain_lists}
use Rattle.image_stream.specs.Streamed.{IsCutShort, IsFront, IsStreamed, IsWritten}
use Rattle.image_stream.specs.declared.streaming.Streamed.{Streamed}
use Rattle.image_stream.specs.declared.streaming.Streamed.TheVariants.{NoImage, Refused, Whole}
use Rattle.image_stream.proofs.Framing.{first_none}
use Rattle.image_stream.proofs.Starting.{streamed_since}
use Rattle.image_stream.proofs.Making.{begun_none, begun_of, stream_of}

pub if_ok_map : {A E : Type 0} (r : Result A E) (P Q : A → Type 0) → ((x : A) → P x → Q x) → IfOk r P → IfOk r Q
if_ok_map (Ok x) P Q f p = f x p
if_ok_map (Err e) P Q f p = tt

pub on_err_map : {A E : Type 0} (r : Result A E) (P Q : Type 0) → (P → Q) → OnErr r P → OnErr r Q
on_err_map (Ok x) P Q f p = tt
on_err_map (Err e) P Q f p = f p

-- bytes that are taken part by part
taken_pieces : (info : List ℕ) (lists pages : List (List ℕ)) (old one two new : Option (List ℕ)) → TakesAll (plain_info info) old one → TakesAll (concat lists) one two → TakesAll (concat pages) two new → TakesAll (concat (plain_info info ∷ (lists ++ pages))) old new
taken_pieces info lists pages old one two new a b c =
    subst (λ (x : List ℕ). TakesAll (plain_info info ++ x) old new) (sym (concat-append lists pages))
    (TakesAll-both (plain_info info) (concat lists ++ concat pages) old one new a (TakesAll-both (concat lists) (concat pages) one two new b c))

front_pieces : (info : List ℕ) (lists pages : List (List ℕ)) (old one two new : Option (List ℕ)) → TakesAll (plain_info info) old one → TakesAll (concat lists) one two → TakesFront (concat pages) two new → TakesFront (concat (plain_info info ∷ (lists ++ pages))) old new
front_pieces info lists pages old one two new a b c =
    subst (λ (x : List ℕ). TakesFront (plain_info info ++ x) old new) (sym (concat-append lists pages))
    (TakesFront-second (plain_info info) (concat lists ++ concat pages) old one new a (TakesFront-second (concat lists) (concat pages) one two new b c))

front_lists : (info : List ℕ) (lists : List (List ℕ)) (old one new : Option (List ℕ)) → TakesAll (plain_info info) old one → TakesFront (concat lists) one new → TakesFront (concat (plain_info info ∷ (lists ++ []))) old new
front_lists info lists old one new a b =
    subst (λ (x : List ℕ). TakesFront (plain_info info ++ x) old new) (sym (concat-append lists []))
    (TakesFront-second (plain_info info) (concat lists ++ []) old one new a (TakesFront-first (concat lists) [] one new b))

saves_zeros : (content : Option Content) (blocks header : ℕ) (p : Pages) (given : List (List ℕ)) → Stands content blocks header p given → p.format ≡ SkipZeros → SavesThere SkipZeros content blocks header
saves_zeros content blocks header p given s skips = subst (λ (f : Format). SavesThere f content blocks header) skips (saves_of content blocks header p given s)

pub saves_rest : (content : Option Content) (blocks header : ℕ) (n : Numbers) (p : Pages) → IsAtRest content blocks header n p → SavesThere SkipZeros content blocks header
saves_rest content blocks header n p r = saves_zeros content blocks header p (n.info ∷ []) r.stands r.skips

-- number pages come next
pub at_lists : (content : Option Content) (blocks header : ℕ) (n : Numbers) (p : Pages) (count : ℕ) → IsAtRest content blocks header n p → count ≡ (counts_in n.info).image_pages → IsAtLists content blocks header p n.info count
at_lists content blocks header n p count r same = record {
  stands = r.stands;
  counts = sym same;
  room = omega (arith, same, r.numbered.count, r.numbered.room);
}

-- cut short among the number pages
pub cut_lists : (content : Option Content) (blocks header before now : ℕ) (told then : Told) (info : List ℕ) (count : ℕ) (first old new : Option (List ℕ)) → SavesThere SkipZeros content blocks header → count ≡ (counts_in info).image_pages → TakesAll (plain_info info) first old → HasRefusedLists content blocks header before now told then info count old new → IsCutShort content blocks header before now told then first new
cut_lists content blocks header before now told then info count first old new saves same taken r =
    let l = subst (λ (n : ℕ). HasRefusedLists content blocks header before now told then info n old new) same r in
    let n = (counts_in info).image_pages in
    let lists = plain_lists n (page_at (info ∷ l.listed)) (length l.listed) in
    let pieces : ArePieces content blocks header (pieces_of info l.listed []) = record {
      info = info;
      listed = l.listed;
      frames = [];
      saves = saves;
      read = read_refused content blocks header before now told then (info ∷ l.listed) l.refused;
      few = l.few;
      first = first_none content header;
      inside = omega arith;
      order = inl refl;
      made = refl;
    } in
    record {
      pieces = pieces_of info l.listed [];
      refused = inr (pieces, (info ∷ l.listed, l.refused));
      begun = begun_of content blocks header (pieces_of info l.listed []) pieces;
      taken = taken_pieces info lists [] first old new new taken l.taken (TakesAll-none new);
    }

pub front_in_lists : (content : Option Content) (blocks header : ℕ) (info : List ℕ) (count : ℕ) (first old new : Option (List ℕ)) → SavesThere SkipZeros content blocks header → count ≡ (counts_in info).image_pages → TakesAll (plain_info info) first old → IsListFront content blocks header info count old new → IsFront content blocks header first new
front_in_lists content blocks header info count first old new saves same taken r =
    let l = subst (λ (n : ℕ). IsListFront content blocks header info n old new) same r in
    let n = (counts_in info).image_pages in
    let lists = plain_lists n (page_at (info ∷ l.listed)) (length l.listed) in
    let pieces : ArePieces content blocks header (pieces_of info l.listed []) = record {
      info = info;
      listed = l.listed;
      frames = [];
      saves = saves;
      read = l.read;
      few = l.few;
      first = first_none content header;
      inside = omega arith;
      order = inl refl;
      made = refl;
    } in
    record {
      pieces = pieces_of info l.listed [];
      read = inr pieces;
      begun = begun_of content blocks header (pieces_of info l.listed []) pieces;
      taken = front_lists info lists first old new taken l.taken;
    }

-- all number pages are written: those of page frames come next
pub record HasAllLists (content : Option Content) (blocks header : ℕ) (info : List ℕ) (old new : Option (List ℕ)) : Type 0 where
  pub p : Pages
  pub listed : List (List ℕ)
  pub saves : SavesThere SkipZeros content blocks header
  pub stands : Stands content blocks header p (info ∷ listed)
  pub full : length listed ≡ meta_of (counts_in info).image_pages
  pub taken : TakesAll (concat (plain_lists (counts_in info).image_pages (page_at (info ∷ listed)) (length listed))) old new

pub all_lists : (content : Option Content) (blocks header : ℕ) (p : Pages) (info : List ℕ) (count : ℕ) (old new : Option (List ℕ)) → SavesThere SkipZeros content blocks header → count ≡ (counts_in info).image_pages → HasLists content blocks header p info count (meta_of count) old new → HasAllLists content blocks header info old new
all_lists content blocks header p info count old new saves same r =
    let l = subst (λ (n : ℕ). HasLists content blocks header p info n (meta_of n) old new) same r in
    record {
      p = p;
      listed = l.listed;
      saves = saves;
      stands = l.stands;
      full = l.size;
      taken = subst (λ (k : ℕ). TakesAll (concat (plain_lists (counts_in info).image_pages (page_at (info ∷ l.listed)) k)) old new) (sym l.size) l.taken;
    }

pieces_after : (content : Option Content) (blocks header : ℕ) (info : List ℕ) (frames : List SavedFrame) (old new : Option (List ℕ)) (l : HasAllLists content blocks header info old new) → HasFrames content blocks header info frames → ArePieces content blocks header (pieces_of info l.listed frames)
pieces_after content blocks header info frames old new l f = record {
  info = info;
  listed = l.listed;
  frames = frames;
  saves = l.saves;
  read = read_given content blocks header l.p (info ∷ l.listed) l.stands;
  few = omega (arith, l.full);
  first = f.first;
  inside = f.inside;
  order = inr (l.full, f.given);
  made = refl;
}

pub front_in_frames : (content : Option Content) (blocks header : ℕ) (info : List ℕ) (first old mid new : Option (List ℕ)) → TakesAll (plain_info info) first old → HasAllLists content blocks header info old mid → IsFrameFront content blocks header info mid new → IsFront content blocks header first new
front_in_frames content blocks header info first old mid new taken l (frames, (has, front)) =
    let pieces = pieces_after content blocks header info frames old mid l has in
    record {
      pieces = pieces_of info l.listed frames;
      read = inr pieces;
      begun = begun_of content blocks header (pieces_of info l.listed frames) pieces;
      taken = front_pieces info (plain_lists (counts_in info).image_pages (page_at (info ∷ l.listed)) (length l.listed)) (pages_of frames) first old mid new taken l.taken front;
    }

pub frames_streamed : (content : Option Content) (blocks header before now : ℕ) (told then : Told) (info : List ℕ) (first old mid new : Option (List ℕ)) (s : Streamed) → TakesAll (plain_info info) first old → HasAllLists content blocks header info old mid → WritesFrames content blocks header before now told then info mid new s → IsStreamed content blocks header before now told then first new s
frames_streamed content blocks header before now told then info first old mid new NoImage taken l w = absurd w
frames_streamed content blocks header before now told then info first old mid new Whole taken l (untold, (frames, (all, written))) =
    let pieces : AreAllPieces content blocks header before now (pieces_of info l.listed frames) = record {
      info = info;
      listed = l.listed;
      frames = frames;
      saves = l.saves;
      read = read_given content blocks header l.p (info ∷ l.listed) l.stands;
      full = l.full;
      all = all;
      made = refl;
    } in (
      record {
        pieces = pieces_of info l.listed frames;
        read = inr pieces;
        stream = stream_of content blocks header before now (pieces_of info l.listed frames) pieces;
        taken = taken_pieces info (plain_lists (counts_in info).image_pages (page_at (info ∷ l.listed)) (length l.listed)) (pages_of frames) first old mid new taken l.taken written;
      },
      untold,
    )
frames_streamed content blocks header before now told then info first old mid new Refused taken l (frames, (has, refused, written)) =
    let pieces = pieces_after content blocks header info frames old mid l has in
    inr (record {
      pieces = pieces_of info l.listed frames;
      refused = inr (pieces, refused);
      begun = begun_of content blocks header (pieces_of info l.listed frames) pieces;
      taken = taken_pieces info (plain_lists (counts_in info).image_pages (page_at (info ∷ l.listed)) (length l.listed)) (pages_of frames) first old mid new taken l.taken written;
    })

-- a front of the info page
pub front_of_info : (content : Option Content) (blocks header : ℕ) (p : Pages) (info : List ℕ) (first new : Option (List ℕ)) → Stands content blocks header p (info ∷ []) → p.format ≡ SkipZeros → TakesFront (plain_info info) first new → IsFront content blocks header first new
front_of_info content blocks header p info first new s skips front =
    let pieces : ArePieces content blocks header (pieces_of info [] []) = record {
      info = info;
      listed = [];
      frames = [];
      saves = saves_zeros content blocks header p (info ∷ []) s skips;
      read = read_given content blocks header p (info ∷ []) s;
      few = omega arith;
      first = first_none content header;
      inside = omega arith;
      order = inl refl;
      made = refl;
    } in
    record {
      pieces = pieces_of info [] [];
      read = inr pieces;
      begun = begun_of content blocks header (pieces_of info [] []) pieces;
      taken = TakesFront-first (plain_info info) [] first new front;
    }

-- cut short before the info page
pub cut_at_info : (content : Option Content) (blocks header before now : ℕ) (told then : Told) (old : Option (List ℕ)) → IsRefused content blocks header before now told then [] → IsCutShort content blocks header before now told then old old
cut_at_info content blocks header before now told then old refused = record {
  pieces = [];
  refused = inl (refused, inr refl);
  begun = begun_none content header;
  taken = TakesAll-none old;
}

lists_on : (c d : Option Content) (m n header : ℕ) (info : List ℕ) (old new : Option (List ℕ)) → d ≡ c → n ≡ m → HasAllLists c m header info old new → HasAllLists d n header info old new
lists_on c d m n header info old new e f l =
    subst (λ (x : Option Content). HasAllLists x n header info old new) (sym e) (subst (λ (k : ℕ). HasAllLists c k header info old new) (sym f) l)

-- the page frames are written over a disk that reads as before
pub rest_streamed : (c d : Option Content) (m n header before then now : ℕ) (told between end : Told) (info first_page : List ℕ) (first old mid new : Option (List ℕ)) (s : Streamed) → d ≡ c → n ≡ m → between ≡ told → before ≤ then → first_page ≡ info → TakesAll (plain_info info) first old → HasAllLists c m header info old mid → WritesFrames d n header then now between end first_page mid new s → IsStreamed c m header before now told end first new s
rest_streamed c d m n header before then now told between end info first_page first old mid new s e f t le same taken l w =
    streamed_since d c n m header before then now told between end first new s e f t le
    (frames_streamed d n header then now between end info first old mid new s taken (lists_on c d m n header info old mid e f l)
    (subst (λ (x : List ℕ). WritesFrames d n header then now between end x mid new s) same w))

pub rest_front : (c d : Option Content) (m n header : ℕ) (info first_page : List ℕ) (first old mid new : Option (List ℕ)) → d ≡ c → n ≡ m → first_page ≡ info → TakesAll (plain_info info) first old → HasAllLists c m header info old mid → IsFrameFront d n header first_page mid new → IsFront c m header first new
rest_front c d m n header info first_page first old mid new e f same taken l w =
    front_in_frames c m header info first old mid new taken l
    (subst (λ (x : List ℕ). IsFrameFront c m header x mid new) same
    (subst (λ (x : Option Content). IsFrameFront x m header first_page mid new) e
    (subst (λ (k : ℕ). IsFrameFront d k header first_page mid new) f w)))

-- a front of a stream, over a disk that reads as before
pub front_on : (c d : Option Content) (m n header : ℕ) (old new : Option (List ℕ)) → c ≡ d → m ≡ n → IsFront c m header old new → IsFront d n header old new
front_on c d m n header old new e f s =
    subst (λ (x : Option Content). IsFront x n header old new) e (subst (λ (k : ℕ). IsFront c k header old new) f s)

-- no number was given of an image whose info page was read
pub at_rest : (content : Option Content) (blocks header : ℕ) (n : Numbers) (p : Pages) (info : List ℕ) → n.info ≡ info → HasNumbered content blocks header n [] → Stands content blocks header p (info ∷ []) → p.format ≡ SkipZeros → IsAtRest content blocks header n p
at_rest content blocks header n p info same h s skips = record {
  numbered = h;
  stands = subst (λ (x : List ℕ). Stands content blocks header p (x ∷ [])) (sym same) s;
  skips = skips;
}

-- the same holds of a fork of the pages
pub fork_info : (content : Option Content) (blocks header : ℕ) (p q : Pages) (counts : Counts) (info : List ℕ) → HasInfo content blocks header p counts info → (Stands content blocks header p (info ∷ []) → Stands content blocks header q (info ∷ [])) → HasInfo content blocks header q counts info
fork_info content blocks header p q counts info h f = record { stands = f h.stands; said = h.said; room = h.room }
