-- The number page of the next number.
use Rattle.std.proofs.Common.{◌≡◌, ℕ, ◌/◌, ◌%◌, ◌<◌, ◌≤◌, Bool, true, false, List, [], ◌∷◌, ◌++◌, length, Option, refl, sym, ap, ◌∙◌, arith, length-append}
use Rattle.std.proofs.Math.ListN.{get_or-append}
use Rattle.std.proofs.Math.Seq.{get_or-append_seam}
use Rattle.definitions.specs.Disk.{Content}
use Rattle.image_check.specs.Told.{Told}
use Rattle.image_pages.specs.Stands.{Stands}
use Rattle.image_pages.specs.declared.pages.Pages.{Pages}
use Rattle.image_pages.specs.Ahead.{GivesOne, HasMore}
use Rattle.image_pages.specs.Found.{page_at}
use Rattle.image_pages.specs.Turns.{IsAtNumber, IsNumberRead, Turns}

pub wants_more : (content : Option Content) (blocks header : ℕ) (p : Pages) (info : List ℕ) (pages : List (List ℕ)) (given : ℕ) (listed : List ℕ) → IsAtNumber content blocks header p info pages given listed → given % 512 ≤ 0 → HasMore (info ∷ pages)
wants_more content blocks header p info pages given listed at start = omega (arith, at.size, at.count, at.room, start)

-- the newest number page has the next number too
pub same_page : (content : Option Content) (blocks header : ℕ) (p : Pages) (info : List ℕ) (pages : List (List ℕ)) (given : ℕ) (listed : List ℕ) → IsAtNumber content blocks header p info pages given listed → 0 < given % 512 → IsNumberRead content blocks header p info pages given listed
same_page content blocks header p info pages given listed at inside = record {
  all = pages;
  stands = at.stands;
  size = omega (arith, at.size);
  newest = at.newest inside;
  same = λ k lt. refl;
}

next_page : (content : Option Content) (blocks header : ℕ) (p q : Pages) (info : List ℕ) (pages : List (List ℕ)) (given : ℕ) (listed page : List ℕ) → IsAtNumber content blocks header p info pages given listed → given % 512 ≤ 0 → Stands content blocks header q ((info ∷ pages) ++ page ∷ []) → IsNumberRead content blocks header q info pages given page
next_page content blocks header p q info pages given listed page at start s = record {
  all = pages ++ page ∷ [];
  stands = s;
  size = omega (arith, at.size, length-append pages (page ∷ []));
  newest = sym (get_or-append_seam pages page [] []) ∙ ap (page_at (pages ++ page ∷ [])) (let e : length pages ≡ given / 512 = omega (arith, at.size) in e);
  same = λ k lt. get_or-append pages (page ∷ []) [] k lt;
}

pub page_turned : (content : Option Content) (blocks header before now : ℕ) (told then : Told) (p q : Pages) (info : List ℕ) (pages : List (List ℕ)) (given : ℕ) (listed page : List ℕ) (t : Bool) → IsAtNumber content blocks header p info pages given listed → given % 512 ≤ 0 → GivesOne content blocks header before now told then (info ∷ pages) q page t → Turns content blocks header before now told then info pages given q page t
page_turned content blocks header before now told then p q info pages given listed page true at start (untold, s) =
    (untold, next_page content blocks header p q info pages given listed page at start s)
page_turned content blocks header before now told then p q info pages given listed page false at start refused = refused
