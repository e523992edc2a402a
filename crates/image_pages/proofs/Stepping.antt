-- A step after some pages were given.
use Rattle.std.proofs.Common.{◌≡◌, ℕ, ◌<◌, ◌||◌, Bool, true, false, List, [], ◌∷◌, ◌++◌, length, Option, Ok, Err, refl, sym, ap, subst, ◌∙◌, append-nil, cond, eqb}
use Rattle.page_core.specs.declared.format.Format.{Format}
use Rattle.definitions.specs.Disk.{Content}
use Rattle.image_format.specs.AreaKind.{area_kind}
use Rattle.image_format.specs.declared.signature.area.AreaKind.{AreaKind}
use Rattle.image_format.specs.declared.signature.area.AreaKind.TheVariants as kind
use Rattle.definitions.specs.SwapHeader.{taken_back}
use Rattle.image_walk.specs.declared.limits.Limits.{Limits}
use Rattle.image_walk.specs.declared.visit.Visit.{Visit}
use Rattle.image_walk.specs.declared.visit.Visit.TheVariants as visit
use Rattle.image_walk.specs.Names.{Name, is_over, IsNext, IsReading}
use Rattle.image_walk.specs.Walking.{StepsTo, name_of}
use Rattle.image_check.specs.Checked.{has_unread}
use Rattle.image_check.specs.Header.{any_block, limits_of}
use Rattle.image_check.specs.Image.{history_findings, name_findings}
use Rattle.image_check.specs.Knows.{Knows}
use Rattle.image_check.specs.Told.{Told, Tells}
use Rattle.image_check.specs.declared.finding.Finding.{Finding}
use Rattle.image_pages.specs.Accepted.{Accepts}
use Rattle.image_pages.specs.Clean.{pages_of}
use Rattle.image_pages.specs.Ends.{IsRefused, Reads, Says}
use Rattle.image_pages.specs.Stands.{Stands}
use Rattle.image_pages.specs.Visited.{page_seen}
use Rattle.image_pages.specs.declared.pages.Next.TheVariants.{End}
use Rattle.image_pages.specs.declared.pages.Pages.{Pages}
use Rattle.image_pages.proofs.Ending.{newest_in_chain, whole_stream}
use Rattle.image_pages.proofs.Findings.{left_none, right_none, not_unread}

both_none : (xs ys : List Finding) → xs ≡ [] → ys ≡ [] → xs ++ ys ≡ []
both_none xs ys e f = ap (λ (x : List Finding). x ++ ys) e ∙ f

by_test : (t : Bool) (a b : Limits) (n : ℕ) → a.blocks ≡ n → b.blocks ≡ n → (cond t a b).blocks ≡ n
by_test true a b n e f = e
by_test false a b n e f = f

-- the image may name blocks of the disk
limits_blocks : (blocks header : ℕ) (k : AreaKind) → (limits_of blocks header k).blocks ≡ blocks
limits_blocks blocks header (kind.Image mark) = refl
limits_blocks blocks header kind.Old = refl
limits_blocks blocks header (kind.Other sig) = refl
limits_blocks blocks header (kind.BadArea why) = refl
limits_blocks blocks header (kind.Swap area) =
    by_test (eqb header 0) (record { blocks = blocks; header = header; last = area.last; bad = area.bad }) (any_block blocks header) blocks refl refl

pub blocks_of : (content : Option Content) (blocks header : ℕ) (p : Pages) (given : List (List ℕ)) → Stands content blocks header p given → blocks ≡ p.walker.limits.blocks
blocks_of content blocks header p given s =
    sym (ap (λ (l : Limits). l.blocks) (s.limits ∙ s.begins.limits) ∙ limits_blocks blocks header (area_kind (taken_back s.begins.page)))

stands_more : (content : Option Content) (blocks header before now : ℕ) (given : List (List ℕ)) (p q : Pages) (s : Stands content blocks header p given) (v : Visit) (page : List ℕ) → q.walker.limits ≡ p.walker.limits → q.format ≡ p.format → StepsTo s.start.first content before now s.history p.walker q.walker v page → name_findings p.format s.history (name_of v page) ≡ [] → Knows q.progress (name_of v page ∷ s.history) → Stands content blocks header q (given ++ pages_of (name_of v page))
stands_more content blocks header before now given p q s v page limits format step clean knows =
    let x = name_of v page in
    record {
      start = s.start;
      history = x ∷ s.history;
      begins = s.begins;
      clean = record {
        reading = (s.clean.reading, subst (λ (l : Limits). IsNext l s.start.first s.history x) s.limits step.seen.next);
        pages = (s.clean.pages, step.seen.page);
        clean = both_none (history_findings s.start.format s.history) (name_findings s.start.format s.history x) s.clean.clean
            (subst (λ (f : Format). name_findings f s.history x ≡ []) s.format clean);
      };
      limits = limits ∙ s.limits;
      format = format ∙ s.format;
      follows = step.follows;
      knows = knows;
      pages = ap (λ (g : List (List ℕ)). g ++ pages_of x) s.pages;
    }

nothing_more : (content : Option Content) (blocks header : ℕ) (given : List (List ℕ)) (q : Pages) → Stands content blocks header q (given ++ []) → Stands content blocks header q given
nothing_more content blocks header given q s = subst (λ (g : List (List ℕ)). Stands content blocks header q g) (append-nil given) s

-- a name without a finding
pub reads_more : (content : Option Content) (blocks header before now : ℕ) (old new : Told) (given : List (List ℕ)) (p q : Pages) (s : Stands content blocks header p given) (v : Visit) (page : List ℕ) → q.walker.limits ≡ p.walker.limits → q.format ≡ p.format → StepsTo s.start.first content before now s.history p.walker q.walker v page → Accepts (name_findings p.format s.history (name_of v page)) old new true → Knows q.progress (name_of v page ∷ s.history) → Reads content blocks header before now old new given p q page (page_seen v)
reads_more content blocks header before now old new given p q s (visit.Map m b answer) page limits format step clean knows =
    (clean.1, nothing_more content blocks header given q (stands_more content blocks header before now given p q s (visit.Map m b answer) page limits format step clean.0 knows), step.fewer)
reads_more content blocks header before now old new given p q s (visit.Entry m a i b (Err why)) page limits format step clean knows =
    (clean.1, nothing_more content blocks header given q (stands_more content blocks header before now given p q s (visit.Entry m a i b (Err why)) page limits format step clean.0 knows), step.fewer)
reads_more content blocks header before now old new given p q s (visit.Entry m a i b (Ok done)) page limits format step clean knows =
    let t = stands_more content blocks header before now given p q s (visit.Entry m a i b (Ok done)) page limits format step clean.0 knows in
    (clean.1, t, newest_in_chain content blocks header t.start t.history given page t.begins t.clean t.pages, step.fewer)

-- a name with findings
pub reads_wrong : (content : Option Content) (blocks header before now : ℕ) (old new : Told) (given : List (List ℕ)) (p q : Pages) (s : Stands content blocks header p given) (v : Visit) (page : List ℕ) → StepsTo s.start.first content before now s.history p.walker q.walker v page → Accepts (name_findings p.format s.history (name_of v page)) old new false → IsRefused content blocks header before now old new given
reads_wrong content blocks header before now old new given p q s v page step wrong =
    let x = name_of v page in
    record {
      start = s.start;
      history = s.history;
      name = x;
      begins = s.begins;
      clean = s.clean;
      pages = s.pages;
      reading = (s.clean.reading, subst (λ (l : Limits). IsNext l s.start.first s.history x) s.limits step.seen.next);
      read = (s.clean.pages, step.seen.page);
      wrong = subst (λ (f : Format). 0 < length (name_findings f s.history x)) s.format wrong.0;
      told = subst (λ (f : Format). Tells (name_findings f s.history x) old new) s.format wrong.1;
      unread = step.seen.unread;
    }

-- nothing was unread where nothing is wrong
never_unread : (format : Format) (l : Limits) (first : ℕ) (h : List Name) → IsReading l first h → history_findings format h ≡ [] → has_unread h ≡ false
never_unread format l first [] reading clean = refl
never_unread format l first (x ∷ h) reading clean =
    let now = not_unread format l first h x reading.1 (right_none (history_findings format h) (name_findings format h x) clean) in
    let then = never_unread format l first h reading.0 (left_none (history_findings format h) (name_findings format h x) clean) in
    ap (λ (t : Bool). t || has_unread h) now ∙ then

not_both : (t : Bool) → t ≡ false → t ≡ true → ⊥
not_both t e f = cc

-- the end of the chain
pub reads_end : (content : Option Content) (blocks header before now : ℕ) (old : Told) (given : List (List ℕ)) (p q : Pages) (page : List ℕ) (s : Stands content blocks header p given) → is_over s.history ≡ true → Says content blocks header before now old old given p q page End
reads_end content blocks header before now old given p q page s over = (
  refl,
  record {
    start = s.start;
    history = s.history;
    begins = s.begins;
    whole = record {
      reading = s.clean.reading;
      over = over;
      pages = s.clean.pages;
      unread = λ e. absurd (not_both (has_unread s.history) (never_unread s.start.format s.start.limits s.start.first s.history s.clean.reading s.clean.clean) e);
    };
    clean = s.clean;
    pages = s.pages;
  },
  whole_stream content blocks header s.start s.history given s.begins s.clean over s.pages,
)
