-- What is told of a whole image.
use Rattle.std.proofs.Common.{◌≡◌, ℕ, ◌+◌, ◌*◌, ◌<◌, ◌≤◌, List, [], ◌∷◌, length, get_or, Option, None, Some, IfSome, Result, Ok, Err, IfOk, true, refl, sym, ap, subst, ◌∙◌, inl, inr, arith}
use Rattle.std.proofs.lemmas.Bool.{cases_lt}
use Rattle.definitions.specs.Disk.{Content, DiskImage, as_it_reads, block}
use Rattle.definitions.specs.SwapHeader.{image_of, taken_back}
use Rattle.image_format.specs.AreaKind.{area_kind}
use Rattle.image_format.specs.declared.signature.area.Mark.{Mark}
use Rattle.image_walk.specs.declared.limits.Limits.{Limits}
use Rattle.image_walk.specs.Names.{IsReadFrom}
use Rattle.image_check.specs.Checked.{format_of, mark_in}
use Rattle.image_check.specs.Header.{header_findings, is_compressed, limits_of}
use Rattle.image_check.specs.Info.{counts_in, info_findings}
use Rattle.image_check.specs.Told.{Told}
use Rattle.image_check.specs.declared.finding.Finding.TheVariants as finding
use Rattle.image_check.specs.declared.finding.Place.{Place}
use Rattle.expanded_disk.proofs.Marked.{limits_blocks, marked_first}
use Rattle.expanded_disk.specs.Chains.{IsChain, IsNextPage, IsSameChain, StandsAt}
use Rattle.expanded_disk.specs.Faults.{AreWhole, IsUnitWrong}
use Rattle.expanded_disk.specs.Index.{Agrees, IsIndexOf, IsIndexed, checksum_wanted}
use Rattle.expanded_disk.specs.Names.{chain_of}
use Rattle.expanded_disk.specs.Opens.{AreFine, IsBadImage, IsInfo, OpensUnits}
use Rattle.expanded_disk.specs.Passes.{Compares, IsOtherSum, OpensBehind, OpensChain}
use Rattle.expanded_disk.specs.Units.{IsUnit, checksum_of, start_of, units_of}
use Rattle.expanded_disk.specs.declared.units.chain.Chain.{Chain}
use Rattle.expanded_disk.specs.declared.units.index.Index.{Index}
use Rattle.expanded_disk.specs.declared.units.reading.Opened.{Opened}
use Rattle.expanded_disk.specs.declared.units.reading.Opened.TheVariants.{Plain, Refused, Whole}

-- an index is made of these
pub record IsMade (index : Index) (block page : List ℕ) (count : ℕ) (c : Chain) (places : List ℕ) : Type 0 where
  pub header : index.header ≡ block
  pub first : index.first ≡ c.first
  pub info : index.info ≡ page
  pub pages : index.pages ≡ count
  pub maps : index.maps.items ≡ c.maps.items
  pub starts : index.starts.items ≡ places

-- what is known once all units were read
record AreAll (blocks : ℕ) (v : DiskImage) (first pages crc : ℕ) (maps starts : List ℕ) : Type 0 where
  whole : AreWhole v first pages (units_of pages) starts crc
  maps_are : IsChain blocks v first (start_of (chain_of v first) (units_of pages)) maps
  enough : start_of (chain_of v first) (units_of pages) ≤ 511 * length maps
  count : length starts ≡ units_of pages + 1
  last : get_or starts (units_of pages) 0 ≡ start_of (chain_of v first) (units_of pages)

agreed : (o : Option ℕ) (a b : ℕ) → a ≡ b → Agrees o a → Agrees o b
agreed None a b e h = tt
agreed (Some w) a b e h = h ∙ e

all_starts : (chain : ℕ → List ℕ) (n : ℕ) (starts : List ℕ) → ((j : ℕ) → j < n → get_or starts j 0 ≡ start_of chain j) → get_or starts n 0 ≡ start_of chain n → (j : ℕ) → j ≤ n → get_or starts j 0 ≡ start_of chain j
all_starts chain n starts are last j le =
    elim (cases_lt j n) [
      | inl lt ↦ are j lt
      | inr ge ↦
          let at : n ≡ j = omega arith in
          subst (λ (k : ℕ). get_or starts k 0 ≡ start_of chain k) at last
    ]

-- the same once an index was made
indexed : (blocks : ℕ) (v : DiskImage) (first pages crc : ℕ) (header info maps starts : List ℕ) (c : Chain) (index : Index) → IsMade index header info pages c starts → c.first ≡ first → c.maps.items ≡ maps → info ≡ chain_of v first 0 → pages ≡ (counts_in info).pages → AreAll blocks v first pages crc maps starts → Agrees (checksum_wanted index.header) crc → IsIndexOf blocks v first header index
indexed blocks v first pages crc header info maps starts c index made at mapped is count all agrees =
    let chain = chain_of v first in
    let e = sym made.pages in
    record {
      header_is = made.header;
      first_is = made.first ∙ at;
      info_is = made.info ∙ is;
      pages_are = made.pages ∙ count ∙ ap (λ (p : List ℕ). (counts_in p).pages) is;
      maps = subst (λ (n : ℕ). IsChain blocks v first (start_of chain (units_of n)) index.maps.items) e
          (subst (λ (m : List ℕ). IsChain blocks v first (start_of chain (units_of pages)) m) (sym (made.maps ∙ mapped)) all.maps_are);
      enough = subst (λ (n : ℕ). start_of chain (units_of n) ≤ 511 * length index.maps.items) e
          (subst (λ (m : List ℕ). start_of chain (units_of pages) ≤ 511 * length m) (sym (made.maps ∙ mapped)) all.enough);
      starts_count = ap length made.starts ∙ all.count ∙ ap (λ (n : ℕ). units_of n + 1) e;
      starts = subst (λ (n : ℕ). (j : ℕ) → j ≤ units_of n → get_or index.starts.items j 0 ≡ start_of chain j) e
          (subst (λ (s : List ℕ). (j : ℕ) → j ≤ units_of pages → get_or s j 0 ≡ start_of chain j) (sym made.starts)
          (all_starts chain (units_of pages) starts all.whole.starts_are all.last));
      units = subst (λ (n : ℕ). (j : ℕ) → j < units_of n → IsUnit chain n j) e all.whole.whole;
      checksum = subst (λ (n : ℕ). Agrees (checksum_wanted header) (checksum_of chain n (units_of n))) e
          (subst (λ (p : List ℕ). Agrees (checksum_wanted p) (checksum_of chain pages (units_of pages))) made.header
          (agreed (checksum_wanted index.header) crc (checksum_of chain pages (units_of pages)) all.whole.checksum_is agrees));
    }

abbrev WholePass : Option Content → ℕ → Chain → Chain → List ℕ → ℕ → Type 0
WholePass content pages old new starts crc =
    StandsAt content new × (length starts ≡ units_of pages + 1)
    × IfSome content (λ held. AreWhole (as_it_reads held) old.first pages (units_of pages) starts crc
    × (new.count ≡ start_of (chain_of (as_it_reads held) old.first) (units_of pages))
    × (get_or starts (units_of pages) 0 ≡ new.count))

whole_index : (content : Option Content) (header info : List ℕ) (old new : Chain) (pages crc : ℕ) (starts : List ℕ) (index : Index) → IsSameChain old new → pages ≡ (counts_in info).pages → WholePass content pages old new starts crc → IsMade index header info pages new starts → Agrees (checksum_wanted index.header) crc → IsInfo content old.first info → IfSome content (λ held. IsIndexOf old.walker.limits.blocks (as_it_reads held) old.first header index)
whole_index None header info old new pages crc starts index same count pass made agrees is = tt
whole_index (Some held) header info old new pages crc starts index same count (stands, size, facts) made agrees is =
    let v = as_it_reads held in
    let chain = chain_of v old.first in
    let here : IsChain old.walker.limits.blocks v old.first new.count new.maps.items =
    subst (λ (l : Limits). IsChain l.blocks v old.first new.count new.maps.items) same.limits
    (subst (λ (f : ℕ). IsChain new.walker.limits.blocks v f new.count new.maps.items) same.first stands.chain) in
    indexed old.walker.limits.blocks v old.first pages crc header info new.maps.items starts new index made same.first refl is count
    (record {
      whole = facts.0;
      maps_are = subst (λ (k : ℕ). IsChain old.walker.limits.blocks v old.first k new.maps.items) facts.1 here;
      enough = omega (arith, facts.1, stands.enough);
      count = size;
      last = facts.2 ∙ facts.1;
    })
    agrees

fine_sum : (content : Option Content) (old new : Chain) (pages crc : ℕ) (starts : List ℕ) → WholePass content pages old new starts crc → AreFine content old.first pages (units_of pages) × IfSome content (λ held. crc ≡ checksum_of (chain_of (as_it_reads held) old.first) pages (units_of pages))
fine_sum None old new pages crc starts pass = (tt, tt)
fine_sum (Some held) old new pages crc starts (stands, size, facts) = (facts.0.whole, facts.0.checksum_is)

-- what the comparison of the checksums says
pub behind_compared : (content : Option Content) (header info : List ℕ) (old new : Chain) (before now : ℕ) (told then : Told) (pages crc : ℕ) (starts : List ℕ) (index : Index) (o : Opened) → IsSameChain old new → pages ≡ (counts_in info).pages → WholePass content pages old new starts crc → IsMade index header info pages new starts → Compares index crc told then o → OpensBehind content header info old before now told then o
behind_compared content header info old new before now told then pages crc starts index Plain same count pass made says = absurd says
behind_compared content header info old new before now told then pages crc starts index Refused same count pass made (wanted, (has, other, tells)) =
    let known = fine_sum content old new pages crc starts pass in (
      finding.Checksum wanted crc,
      (
        tells,
        inr (subst (λ (n : ℕ). IsOtherSum content n header old (finding.Checksum wanted crc)) count (record {
          all = known.0;
          wanted = wanted;
          found = crc;
          has = ap checksum_wanted (sym made.header) ∙ has;
          other = other;
          is = known.1;
          finding = refl;
        })),
      ),
    )
behind_compared content header info old new before now told then pages crc starts index (Whole same_index) same count pass made (e, untold, agrees) = (
  untold,
  λ is. subst (λ (i : Index). IfSome content (λ held. IsIndexOf old.walker.limits.blocks (as_it_reads held) old.first header i)) (sym e)
      (whole_index content header info old new pages crc starts index same count pass made agrees is),
)

-- what is said after the info page, of the whole image
pub opens_behind : (content : Option Content) (flags : ℕ) (header info : List ℕ) (old mid : Chain) (before now : ℕ) (told then : Told) (o : Opened) → IsSameChain old mid → IsInfo content old.first info → info_findings (format_of flags) info ≡ [] → OpensBehind content header info mid before now told then o → OpensChain content flags header old before now told then o
opens_behind content flags header info old mid before now told then Plain same is clean says = absurd says
opens_behind content flags header info old mid before now told then Refused same is clean (f, (tells, inl bad)) = (
  f ∷ [],
  (
    tells,
    omega arith,
    inr (inr (inl (
      f,
      (
        refl,
        record {
          info = info;
          read = is;
          clean = clean;
          unit = bad.unit;
          few = bad.few;
          earlier = subst (λ (n : ℕ). AreFine content n (counts_in info).pages bad.unit) same.first bad.earlier;
          wrong = subst (λ (l : Limits). IsUnitWrong l old.first content (counts_in info).pages bad.unit before now f) same.limits
              (subst (λ (n : ℕ). IsUnitWrong mid.walker.limits n content (counts_in info).pages bad.unit before now f) same.first bad.wrong);
        },
      ),
    ))),
  ),
)
opens_behind content flags header info old mid before now told then Refused same is clean (f, (tells, inr other)) = (
  f ∷ [],
  (
    tells,
    omega arith,
    inr (inr (inr (
      f,
      (
        refl,
        record {
          info = info;
          read = is;
          clean = clean;
          all = subst (λ (n : ℕ). AreFine content n (counts_in info).pages (units_of (counts_in info).pages)) same.first other.all;
          wanted = other.wanted;
          found = other.found;
          has = other.has;
          other = other.other;
          is = subst (λ (n : ℕ). IfSome content (λ held. other.found ≡ checksum_of (chain_of (as_it_reads held) n) (counts_in info).pages (units_of (counts_in info).pages))) same.first other.is;
          finding = other.finding;
        },
      ),
    ))),
  ),
)
opens_behind content flags header info old mid before now told then (Whole index) same is clean (untold, whole) = (
  untold,
  subst (λ (l : Limits). IfSome content (λ held. IsIndexOf l.blocks (as_it_reads held) old.first header index)) same.limits
      (subst (λ (n : ℕ). IfSome content (λ held. IsIndexOf mid.walker.limits.blocks (as_it_reads held) n header index)) same.first
      (whole (subst (λ (n : ℕ). IsInfo content n info) (sym same.first) is))),
)

pub if_ok : {T E : Type 0} {P Q : T → Type 0} (r : Result T E) → ((x : T) → P x → Q x) → IfOk r P → IfOk r Q
if_ok (Ok x) f h = f x h
if_ok (Err e) f h = tt

-- the first page that is read is the info page
pub info_page : (content : Option Content) (c : Chain) (page : List ℕ) (place : Place) → c.count ≡ 0 → IsNextPage content c page place → IsInfo content c.first page
info_page None c page place none next = tt
info_page (Some held) c page place none next = next.0 ∙ ap (chain_of (as_it_reads held) c.first) none

-- what is said of the whole image, by its header block
pub opens_units : (content : Option Content) (blocks header before now : ℕ) (told then : Told) (page : List ℕ) (mark : Mark) (c : Chain) (o : Opened) → header < blocks → IsReadFrom content header (Ok page) → mark_in (area_kind page) ≡ Some mark → is_compressed mark.flags ≡ true → header_findings blocks header (mark.flags + 2) page ≡ [] → c.walker.limits ≡ limits_of blocks header (area_kind (taken_back page)) → c.first ≡ mark.first → OpensChain content mark.flags page c before now told then o → OpensUnits content blocks header before now told then o
opens_units content blocks header before now told then page mark c Plain inside read marked compressed clean limits first says = absurd says
opens_units content blocks header before now told then page mark c Refused inside read marked compressed clean limits first (found, (tells, some, bad)) = (
  found,
  (
    tells,
    inr (record {
      page = page;
      mark = mark;
      inside = inside;
      read = read;
      marked = marked;
      compressed = compressed;
      some = some;
      wrong = inr (
        clean,
        subst (λ (l : Limits). IsBadImage l mark.first content (format_of mark.flags) before now page found) limits
            (subst (λ (n : ℕ). IsBadImage c.walker.limits n content (format_of mark.flags) before now page found) first bad),
      );
    }),
  ),
)
opens_units content blocks header before now told then page mark c (Whole index) inside read marked compressed clean limits first (untold, whole) =
    (untold, at content read whole) where
      at : (content : Option Content) → IsReadFrom content header (Ok page) → IfSome content (λ held. IsIndexOf c.walker.limits.blocks (as_it_reads held) c.first page index) → IfSome content (λ held. IsIndexed blocks (as_it_reads held) header index)
      at None read whole = tt
      at (Some held) read whole =
          let v = as_it_reads held in
          let size : c.walker.limits.blocks ≡ blocks = ap (λ (l : Limits). l.blocks) limits ∙ limits_blocks blocks header (area_kind (taken_back page)) in
          let here : c.first ≡ image_of (block v header) = first ∙ marked_first page mark marked ∙ ap image_of read in
          subst (λ (n : ℕ). IsIndexOf n v (image_of (block v header)) (block v header) index) size
          (subst (λ (f : ℕ). IsIndexOf c.walker.limits.blocks v f (block v header) index) here
          (subst (λ (p : List ℕ). IsIndexOf c.walker.limits.blocks v c.first p index) read whole))
