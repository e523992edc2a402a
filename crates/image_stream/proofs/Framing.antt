-- Page frames that are given one after another, whose pages are written.
use Rattle.std.proofs.Common.{◌≡◌, ℕ, ◌+◌, ◌-◌, ◌≤◌, ◌<◌, List, [], ◌∷◌, ◌++◌, length, map, Option, Some, None, refl, sym, ap, subst, ◌∙◌, arith, length-append, append-nil}
use Rattle.std.specs.List.{concat}
use Rattle.std.proofs.lemmas.List.{map-append}
use Rattle.std.proofs.lemmas.List.Folds.{concat-append}
use Rattle.definitions.specs.Disk.{Content}
use Rattle.definitions.specs.Streams.{TakesAll, TakesFront}
use Rattle.byte_streams.proofs.Taken.{TakesAll-both, TakesAll-none, TakesFront-second}
use Rattle.image_check.specs.Info.{counts_in}
use Rattle.image_pages.specs.Given.{HasGiven, frame_of}
use Rattle.image_pages.specs.SavedFrames.{AreFirstSaved, SavedFrame}
use Rattle.image_pages.specs.Says.{IsNextFrame}
use Rattle.image_pages.specs.declared.frames.frames.Frames.{Frames}
use Rattle.image_pages.proofs.Giving.{given_size}
use Rattle.image_stream.specs.Converted.{HasFrames, IsFrameFront, pages_of}

pub first_none : (content : Option Content) (header : ℕ) → AreFirstSaved content header []
first_none None header = tt
first_none (Some held) header = refl

pages_one : (xs : List SavedFrame) (number : ℕ) (page : List ℕ) → concat (pages_of (xs ++ frame_of number page ∷ [])) ≡ concat (pages_of xs) ++ page
pages_one xs number page =
    ap concat (map-append (λ (f : SavedFrame). f.page) xs (frame_of number page ∷ []))
    ∙ concat-append (pages_of xs) (page ∷ [])
    ∙ ap (λ (bytes : List ℕ). concat (pages_of xs) ++ bytes) (append-nil page)

pub record Writes (content : Option Content) (blocks header : ℕ) (f : Frames) (info : List ℕ) (old new : Option (List ℕ)) : Type 0 where
  pub given : List SavedFrame
  pub stands : HasGiven content blocks header f given
  pub first : AreFirstSaved content header given
  pub same : f.numbers.info ≡ info
  pub taken : TakesAll (concat (pages_of given)) old new

pub writes_none : (content : Option Content) (blocks header : ℕ) (f : Frames) (old : Option (List ℕ)) → HasGiven content blocks header f [] → Writes content blocks header f f.numbers.info old old
writes_none content blocks header f old h = record { given = []; stands = h; first = first_none content header; same = refl; taken = TakesAll-none old }

pub given_since : (c d : Option Content) (m k header : ℕ) (f : Frames) (given : List SavedFrame) → c ≡ d → m ≡ k → HasGiven c m header f given → HasGiven d k header f given
given_since c d m k header f given e g h =
    subst (λ (x : Option Content). HasGiven x k header f given) e (subst (λ (j : ℕ). HasGiven c j header f given) g h)

pub writes_more : (c d : Option Content) (m k header : ℕ) (p q : Frames) (info : List ℕ) (number : ℕ) (page : List ℕ) (old mid new : Option (List ℕ)) → c ≡ d → m ≡ k → (s : Writes c m header p info old mid) → IsNextFrame c m header s.given q (frame_of number page) → q.numbers.info ≡ p.numbers.info → TakesAll page mid new → Writes d k header q info old new
writes_more c d m k header p q info number page old mid new e f s next same taken = record {
  given = s.given ++ frame_of number page ∷ [];
  stands = given_since c d m k header q (s.given ++ frame_of number page ∷ []) e f next.stands;
  first = subst (λ (x : Option Content). AreFirstSaved x header (s.given ++ frame_of number page ∷ [])) e next.first;
  same = same ∙ s.same;
  taken = subst (λ (x : List ℕ). TakesAll x old new) (sym (pages_one s.given number page)) (TakesAll-both (concat (pages_of s.given)) page old mid new s.taken taken);
}

-- no more than the info page counts
inside_of : (content : Option Content) (blocks header : ℕ) (f : Frames) (info : List ℕ) (given : List SavedFrame) → HasGiven content blocks header f given → f.numbers.info ≡ info → length given ≤ (counts_in info).image_pages
inside_of content blocks header f info given h same =
    omega (arith, given_size content blocks header f given h, h.numbered.few, h.numbered.count, ap (λ (p : List ℕ). (counts_in p).image_pages) same)

pub has_frames : (c d : Option Content) (m k header : ℕ) (f : Frames) (info : List ℕ) (old new : Option (List ℕ)) → c ≡ d → m ≡ k → (s : Writes c m header f info old new) → HasFrames d k header info s.given
has_frames c d m k header f info old new e g s = record {
  given = (f, (given_since c d m k header f s.given e g s.stands, s.same));
  first = subst (λ (x : Option Content). AreFirstSaved x header s.given) e s.first;
  inside = inside_of c m header f info s.given s.stands s.same;
}

pub frames_cut : (c d : Option Content) (m k header : ℕ) (p q : Frames) (info : List ℕ) (number : ℕ) (page : List ℕ) (old mid new : Option (List ℕ)) → c ≡ d → m ≡ k → (s : Writes c m header p info old mid) → IsNextFrame c m header s.given q (frame_of number page) → q.numbers.info ≡ p.numbers.info → TakesFront page mid new → IsFrameFront d k header info old new
frames_cut c d m k header p q info number page old mid new e g s next same front =
    let all = s.given ++ frame_of number page ∷ [] in (
      all,
      (
        record {
          given = (q, (given_since c d m k header q all e g next.stands, same ∙ s.same));
          first = subst (λ (x : Option Content). AreFirstSaved x header all) e next.first;
          inside = inside_of c m header q info all next.stands (same ∙ s.same);
        },
        subst (λ (x : List ℕ). TakesFront x old new) (sym (pages_one s.given number page)) (TakesFront-second (concat (pages_of s.given)) page old mid new s.taken front),
      ),
    )

-- fewer page frames are left
pub fewer_left : (content : Option Content) (blocks header : ℕ) (p q : Frames) (given : List SavedFrame) (f : SavedFrame) → HasGiven content blocks header p given → IsNextFrame content blocks header given q f → q.numbers.info ≡ p.numbers.info → q.numbers.count - q.numbers.given < p.numbers.count - p.numbers.given
fewer_left content blocks header p q given f h next same =
    let now = next.stands in
    let counts : q.numbers.count ≡ p.numbers.count = sym now.numbered.count ∙ ap (λ (x : List ℕ). (counts_in x).image_pages) same ∙ h.numbered.count in
    omega (arith, given_size content blocks header p given h, given_size content blocks header q (given ++ f ∷ []) now, length-append given (f ∷ []), now.numbered.few, counts)
