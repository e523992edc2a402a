-- The next page frame of an image.
use Rattle.std.proofs.Common.{◌++◌, ◌≡◌, ℕ, ◌+◌, ◌-◌, ◌≤◌, ◌||◌, Bool, true, false, List, [], ◌∷◌, refl, sym, ap, subst, ◌∙◌, arith, append-nil, length-append}
use Rattle.std.proofs.lemmas.List.Elements.{All-nil, All-push}
use Rattle.image_check.specs.Info.{counts_in}
use Rattle.page_core.specs.declared.format.Format.{Format}
use Rattle.image_walk.specs.declared.limits.Limits.{Limits}
use Rattle.image_walk.specs.Names.{Name, IsReading as IsReadingOf}
use Rattle.image_check.specs.Checked.{has_unread}
use Rattle.image_check.specs.Image.{history_findings, name_findings}
use Rattle.image_pages.proofs.Findings.{left_none, right_none, not_unread}
use Rattle.image_pages.proofs.Giving.{given_size}
use Rattle.image_pages.specs.Given.{frame_of}
use Rattle.image_pages.specs.SavedFrames.{SavedFrame}
use Rattle.image_pages.specs.Says.{AreAllGiven, IsNextFrame}
use Rattle.image_pages.specs.declared.frames.frames.Frames.{Frames}
use Rattle.image_differ.specs.Readings.{AreAll, IsPlace, IsReading, IsReady, left_at}
use Rattle.image_differ.specs.Sides.{SideView}
use Rattle.image_differ.specs.declared.reading.Place.{Place}
use Rattle.image_differ.specs.declared.reading.Place.TheVariants.{Unread, At, Ended}
use Rattle.image_differ.specs.declared.reading.Reading.{Reading}

pub ready_before : (v : SideView) (r : Reading) (given : List SavedFrame) (bound : ℕ) → IsReading v r given bound → (r.place ≡ Unread → ⊥) → IsReady v given bound r r
ready_before v r given bound i read = record {
  more = [];
  from = All-nil (λ (g : SavedFrame). bound ≤ g.number);
  reading = subst (λ (x : List SavedFrame). IsReading v r x bound) (sym (append-nil given)) i;
  read = read;
  info = refl;
  left = omega arith;
}

at_unread : (p : ℕ) → At p ≡ Unread → ⊥
at_unread p e = cc

ended_unread : Ended ≡ Unread → ⊥
ended_unread e = cc

-- a page frame that comes next
pub ready_at : (v : SideView) (r : Reading) (given : List SavedFrame) (bound : ℕ) (q : Frames) (number : ℕ) (page : List ℕ) → IsReading v r given bound → r.place ≡ Unread → IsNextFrame v.content v.blocks v.header given q (frame_of number page) → q.numbers.info ≡ r.frames.numbers.info → IsReady v given bound r (record { frames = q; place = At number; page = page })
ready_at v r given bound q number page i at f same =
    let (stands, used) = subst (IsPlace v r given bound) at i.place in
    let le : bound ≤ number = used.least number f.above in
    let was = given_size v.content v.blocks v.header r.frames given stands in
    let now = given_size v.content v.blocks v.header q (given ++ frame_of number page ∷ []) f.stands in
    let size = length-append given (frame_of number page ∷ []) in
    let count : q.numbers.count ≡ r.frames.numbers.count = sym f.stands.numbered.count ∙ ap (λ (p : List ℕ). (counts_in p).image_pages) same ∙ stands.numbered.count in
    let few = f.stands.numbered.few in
    record {
      more = frame_of number page ∷ [];
      from = All-push (λ (g : SavedFrame). bound ≤ g.number) [] (frame_of number page) (All-nil (λ (g : SavedFrame). bound ≤ g.number)) le;
      reading = record {
        place = (f.stands, record { before = given; is = refl; below = used.below; above = le; small = f.small });
      };
      read = at_unread number;
      info = same;
      left = subst (λ (x : Place). q.numbers.count - q.numbers.given + 1 ≤ left_at r.frames x) (sym at) (omega arith);
    }

-- nothing was unread where nothing is wrong
never_unread : (format : Format) (l : Limits) (first : ℕ) (h : List Name) → IsReadingOf l first h → history_findings format h ≡ [] → has_unread h ≡ false
never_unread format l first [] reading clean = refl
never_unread format l first (x ∷ h) reading clean =
    let now = not_unread format l first h x reading.1 (right_none (history_findings format h) (name_findings format h x) clean) in
    let then = never_unread format l first h reading.0 (left_none (history_findings format h) (name_findings format h x) clean) in
    ap (λ (t : Bool). t || has_unread h) now ∙ then

not_both : (t : Bool) → t ≡ false → t ≡ true → ⊥
not_both t e f = cc

-- it doesn't matter which calls of the disk failed
pub all_since : (v : SideView) (before now : ℕ) (info : List ℕ) (given : List SavedFrame) → AreAllGiven v.content v.blocks v.header before now info given → AreAll v info given
all_since v before now info given a = λ earlier later.
    let e = a.ended in
    record {
      pages = a.pages;
      ended = record {
        start = e.start;
        history = e.history;
        begins = e.begins;
        whole = record {
          reading = e.whole.reading;
          over = e.whole.over;
          pages = e.whole.pages;
          unread = λ u. absurd (not_both (has_unread e.history) (never_unread e.start.format e.start.limits e.start.first e.history e.clean.reading e.clean.clean) u);
        };
        clean = e.clean;
        pages = e.pages;
      };
      whole = a.whole;
      first_page = a.first_page;
      count = a.count;
      format = a.format;
      saves = a.saves;
      listed = a.listed;
      read = a.read;
      saved = a.saved;
      all = a.all;
    }

-- the end of the page frames
pub ready_end : (v : SideView) (r : Reading) (given : List SavedFrame) (bound : ℕ) (q : Frames) (page : List ℕ) → IsReading v r given bound → r.place ≡ Unread → AreAll v q.numbers.info given → q.numbers.info ≡ r.frames.numbers.info → IsReady v given bound r (record { frames = q; place = Ended; page = page })
ready_end v r given bound q page i at all same =
    let (stands, used) = subst (IsPlace v r given bound) at i.place in
    record {
      more = [];
      from = All-nil (λ (g : SavedFrame). bound ≤ g.number);
      reading = subst (λ (x : List SavedFrame). IsReading v (record { frames = q; place = Ended; page = page }) x bound) (sym (append-nil given))
          (record { place = (used.below, all) });
      read = ended_unread;
      info = same;
      left = omega arith;
    }
