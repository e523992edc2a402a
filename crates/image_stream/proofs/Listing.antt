-- Number pages that are written one after another without their marks.
use Rattle.std.proofs.Common.{◌≡◌, ℕ, ◌+◌, ◌*◌, ◌-◌, ◌<◌, ◌≤◌, List, [], ◌∷◌, ◌++◌, length, Option, refl, sym, ap, subst, ◌∙◌, arith, length-append}
use Rattle.std.specs.List.{concat}
use Rattle.definitions.specs.Disk.{Content}
use Rattle.definitions.specs.NumberPages.{meta_of}
use Rattle.definitions.specs.Streams.{TakesAll, TakesFront}
use Rattle.byte_streams.proofs.Taken.{TakesAll-none, TakesAll-both, TakesFront-second}
use Rattle.image_check.specs.Info.{counts_in}
use Rattle.image_check.specs.Told.{Told}
use Rattle.image_pages.specs.Ends.{IsRefused}
use Rattle.image_pages.specs.Stands.{Stands}
use Rattle.image_pages.specs.declared.pages.Pages.{Pages}
use Rattle.image_pages.proofs.Reading.{read_given}
use Rattle.image_pages.specs.Ahead.{HasMore}
use Rattle.image_pages.specs.Found.{page_at}
use Rattle.image_stream.specs.Converted.{HasLists, HasRefusedLists, IsAtLists, IsListFront}
use Rattle.image_stream.specs.Plain.{plain_lists, plain_numbers}
use Rattle.image_stream.proofs.Making.{lists_more}
use Rattle.image_stream.proofs.Writing.{concat_one}

pub more_lists : (info : List ℕ) (listed : List (List ℕ)) (count k : ℕ) → meta_of count + 1 ≤ (counts_in info).pages → length listed ≡ k → k < meta_of count → HasMore (info ∷ listed)
more_lists info listed count k room size lt = omega (arith, room, size, lt)

pub lists_none : (content : Option Content) (blocks header : ℕ) (p : Pages) (info : List ℕ) (count : ℕ) (old : Option (List ℕ)) → IsAtLists content blocks header p info count → HasLists content blocks header p info count 0 old old
lists_none content blocks header p info count old at = record { listed = []; stands = at.stands; size = refl; taken = TakesAll-none old }

-- the bytes of one more
one_more : (n k : ℕ) (info page : List ℕ) (listed : List (List ℕ)) → length listed ≡ k → concat (plain_lists n (page_at (info ∷ listed)) k) ++ plain_numbers (n - 512 * k) page ≡ concat (plain_lists n (page_at (info ∷ (listed ++ page ∷ []))) (k + 1))
one_more n k info page listed size =
    concat_one (plain_lists n (page_at (info ∷ listed)) k) (plain_numbers (n - 512 * k) page)
    ∙ ap concat (sym (lists_more n k info page listed size))

pub lists_next : (content : Option Content) (blocks header : ℕ) (p q : Pages) (info page : List ℕ) (count k : ℕ) (old mid new : Option (List ℕ)) (s : HasLists content blocks header p info count k old mid) → Stands content blocks header q ((info ∷ s.listed) ++ page ∷ []) → TakesAll (plain_numbers (count - 512 * k) page) mid new → HasLists content blocks header q info count (k + 1) old new
lists_next content blocks header p q info page count k old mid new s t taken = record {
  listed = s.listed ++ page ∷ [];
  stands = t;
  size = omega (arith, length-append s.listed (page ∷ []), s.size);
  taken = subst (λ (x : List ℕ). TakesAll x old new) (one_more count k info page s.listed s.size)
      (TakesAll-both (concat (plain_lists count (page_at (info ∷ s.listed)) k)) (plain_numbers (count - 512 * k) page) old mid new s.taken taken);
}

pub lists_cut : (content : Option Content) (blocks header : ℕ) (p q : Pages) (info page : List ℕ) (count k : ℕ) (old mid new : Option (List ℕ)) (s : HasLists content blocks header p info count k old mid) → Stands content blocks header q ((info ∷ s.listed) ++ page ∷ []) → k < meta_of count → TakesFront (plain_numbers (count - 512 * k) page) mid new → IsListFront content blocks header info count old new
lists_cut content blocks header p q info page count k old mid new s t lt taken =
    let size : length (s.listed ++ page ∷ []) ≡ k + 1 = omega (arith, length-append s.listed (page ∷ []), s.size) in
    record {
      listed = s.listed ++ page ∷ [];
      few = omega (arith, size, lt);
      read = read_given content blocks header q (info ∷ (s.listed ++ page ∷ [])) t;
      taken = subst (λ (x : List ℕ). TakesFront x old new)
          (one_more count k info page s.listed s.size ∙ ap (λ (j : ℕ). concat (plain_lists count (page_at (info ∷ (s.listed ++ page ∷ []))) j)) (sym size))
          (TakesFront-second (concat (plain_lists count (page_at (info ∷ s.listed)) k)) (plain_numbers (count - 512 * k) page) old mid new s.taken taken);
    }

pub lists_refused : (content : Option Content) (blocks header before now : ℕ) (told then : Told) (p : Pages) (info : List ℕ) (count k : ℕ) (old new : Option (List ℕ)) (c : Option Content) (m : ℕ) (s : HasLists c m header p info count k old new) → k ≤ meta_of count → IsRefused content blocks header before now told then (info ∷ s.listed) → HasRefusedLists content blocks header before now told then info count old new
lists_refused content blocks header before now told then p info count k old new c m s le refused = record {
  listed = s.listed;
  few = omega (arith, s.size, le);
  refused = refused;
  taken = subst (λ (j : ℕ). TakesAll (concat (plain_lists count (page_at (info ∷ s.listed)) j)) old new) (sym s.size) s.taken;
}

-- over a disk that reads as before
pub lists_since : (c d : Option Content) (m n header : ℕ) (p : Pages) (info : List ℕ) (count k : ℕ) (old new : Option (List ℕ)) → c ≡ d → m ≡ n → HasLists c m header p info count k old new → HasLists d n header p info count k old new
lists_since c d m n header p info count k old new e f s =
    subst (λ (x : Option Content). HasLists x n header p info count k old new) e (subst (λ (j : ℕ). HasLists c j header p info count k old new) f s)

pub front_since : (c d : Option Content) (m n header : ℕ) (info : List ℕ) (count : ℕ) (old new : Option (List ℕ)) → c ≡ d → m ≡ n → IsListFront c m header info count old new → IsListFront d n header info count old new
front_since c d m n header info count old new e f s =
    subst (λ (x : Option Content). IsListFront x n header info count old new) e (subst (λ (j : ℕ). IsListFront c j header info count old new) f s)
