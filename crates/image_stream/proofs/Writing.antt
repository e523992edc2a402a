-- Pages that are written one after another.
use Rattle.std.proofs.Common.{◌≡◌, ℕ, ◌+◌, ◌≤◌, List, [], ◌∷◌, ◌++◌, Option, refl, arith, sym, ap, subst, ◌∙◌, append-nil, append_assoc, inl, inr}
use Rattle.std.specs.List.{concat}
use Rattle.page_core.specs.declared.format.Format.TheVariants.{Plain}
use Rattle.definitions.specs.Disk.{Content}
use Rattle.definitions.specs.Streams.{TakesAll, TakesFront}
use Rattle.byte_streams.proofs.Taken.{TakesAll-none, TakesAll-both, TakesFront-second}
use Rattle.image_check.specs.Told.{Told}
use Rattle.image_pages.specs.Chain.{IsWholeStream}
use Rattle.image_pages.specs.Ends.{IsEnded, IsRefused}
use Rattle.image_pages.specs.Stands.{Stands}
use Rattle.image_pages.specs.declared.pages.Pages.{Pages}
use Rattle.image_pages.proofs.Earlier.{ended_earlier, refused_earlier}
use Rattle.image_pages.proofs.Reading.{read_given}
use Rattle.image_stream.specs.Streamed.{IsCutShort, IsFront, IsWritten}
use Rattle.image_stream.proofs.Making.{plain_begun, plain_whole}

-- the pages `given` were given, and their bytes taken
pub record SoFar (content : Option Content) (blocks header : ℕ) (p : Pages) (old new : Option (List ℕ)) : Type 0 where
  pub given : List (List ℕ)
  pub stands : Stands content blocks header p given
  pub taken : TakesAll (concat given) old new

pub so_far_none : (content : Option Content) (blocks header : ℕ) (p : Pages) (old : Option (List ℕ)) → Stands content blocks header p [] → SoFar content blocks header p old old
so_far_none content blocks header p old s = record { given = []; stands = s; taken = TakesAll-none old }

pub concat_one : (given : List (List ℕ)) (page : List ℕ) → concat given ++ page ≡ concat (given ++ page ∷ [])
concat_one [] page = sym (append-nil page)
concat_one (x ∷ xs) page = append_assoc x (concat xs) page ∙ ap (λ (y : List ℕ). x ++ y) (concat_one xs page)

pub so_far_more : (content : Option Content) (blocks header : ℕ) (p q : Pages) (page : List ℕ) (old mid new : Option (List ℕ)) (s : SoFar content blocks header p old mid) → Stands content blocks header q (s.given ++ page ∷ []) → TakesAll page mid new → SoFar content blocks header q old new
so_far_more content blocks header p q page old mid new s t taken = record {
  given = s.given ++ page ∷ [];
  stands = t;
  taken = subst (λ (x : List ℕ). TakesAll x old new) (concat_one s.given page) (TakesAll-both (concat s.given) page old mid new s.taken taken);
}

pub so_far_front : (content : Option Content) (blocks header : ℕ) (p q : Pages) (page : List ℕ) (old mid new : Option (List ℕ)) (s : SoFar content blocks header p old mid) → Stands content blocks header q (s.given ++ page ∷ []) → q.format ≡ Plain → TakesFront page mid new → IsFront content blocks header old new
so_far_front content blocks header p q page old mid new s t plain taken = record {
  pieces = s.given ++ page ∷ [];
  read = inl (read_given content blocks header q (s.given ++ page ∷ []) t, inl (t.start, t.begins, sym t.format ∙ plain));
  begun = plain_begun content blocks header q (s.given ++ page ∷ []) t plain;
  taken = subst (λ (x : List ℕ). TakesFront x old new) (concat_one s.given page) (TakesFront-second (concat s.given) page old mid new s.taken taken);
}

pub so_far_whole : (content : Option Content) (blocks header before then now : ℕ) (p : Pages) (old new : Option (List ℕ)) (s : SoFar content blocks header p old new) → before ≤ then → IsEnded content blocks header then now s.given → IsWholeStream content header s.given → p.format ≡ Plain → IsWritten content blocks header before now old new
so_far_whole content blocks header before then now p old new s le ended whole plain = record {
  pieces = s.given;
  read = inl (record {
    ended = ended_earlier content blocks header before then now s.given le ended;
    whole = whole;
    plain = (s.stands.start, s.stands.begins, sym s.stands.format ∙ plain);
  });
  stream = plain_whole content blocks header p s.given s.stands plain whole;
  taken = s.taken;
}

pub so_far_cut : (content : Option Content) (blocks header before then now : ℕ) (p : Pages) (told last : Told) (old new : Option (List ℕ)) (s : SoFar content blocks header p old new) → before ≤ then → IsRefused content blocks header then now told last s.given → p.format ≡ Plain → IsCutShort content blocks header before now told last old new
so_far_cut content blocks header before then now p told last old new s le refused plain = record {
  pieces = s.given;
  refused = inl (refused_earlier content blocks header before then now told last s.given le refused, inl (s.stands.start, s.stands.begins, sym s.stands.format ∙ plain));
  begun = plain_begun content blocks header p s.given s.stands plain;
  taken = s.taken;
}
