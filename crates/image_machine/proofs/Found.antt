-- What is known of an image in which nothing is found.
use Rattle.std.proofs.Common.{◌≡◌, ℕ, ◌*◌, ◌≤◌, ◌<◌, ◌==◌, inl, inr, Bool, true, false, cond, nat_lt, List, [], ◌∷◌, ◌++◌, length, take, drop, Option, Some, None, refl, sym, ap, ◌∙◌, subst, arith}
use Rattle.std.specs.Bool.{MatchBool}
use Rattle.std.specs.List.{concat}
use Rattle.std.proofs.lemmas.Bool.{cases_lt, cond-true, true≢false}
use Rattle.std.proofs.lemmas.List.{length-map, length-drop, nil_from_length}
use Rattle.definitions.specs.Disk.{Content, DiskImage, IsContent, Sector, as_it_reads, block}
use Rattle.definitions.specs.SwapHeader.{image_signature, old_signature, area_signature, version_of, last_page_of, bad_count_of, bad_pages_of, sig_of, first_outside, taken_back}
use Rattle.image_format.specs.AreaKind.{area_kind, area_with, mark_of, same_bytes, version_1_kind}
use Rattle.image_format.specs.declared.signature.area.Mark.{Mark}
use Rattle.image_format.specs.declared.signature.area.AreaFault.{AreaFault}
use Rattle.image_format.specs.declared.signature.area.AreaFault.TheVariants.{Version, BadCount, LastZero}
use Rattle.image_format.specs.declared.signature.area.AreaKind.TheVariants as kind
use Rattle.plain_machine.specs.Chain.{blocks_of}
use Rattle.image_walk.specs.Names.{Name}
use Rattle.image_check.specs.Checked.{Finds, FindsImage, FindsMark, FindsNames, IsWhole, format_of, mark_in}
use Rattle.image_check.specs.Header.{area_fault, compressed_fault, header_findings, is_compressed, limits_of}
use Rattle.image_check.specs.Told.{list_of}
use Rattle.image_check.specs.declared.finding.Finding.{Finding}
use Rattle.image_check.specs.declared.finding.Finding.TheVariants as finding
use Rattle.image_pages.specs.Clean.{Start, IsStart, IsClean}
use Rattle.image_pages.proofs.Findings.{left_none, right_none, no_finding}

-- The mark.

no_mark : (a b c : Bool) (x y z : AreaFault) (page : List ℕ) (bad : Option ℕ) → mark_in (cond a (cond b (kind.BadArea x) (cond c (kind.BadArea y) (area_with page bad))) (kind.BadArea z)) ≡ None
no_mark true true c x y z page bad = refl
no_mark true false true x y z page bad = refl
no_mark true false false x y z page (Some slot) = refl
no_mark true false false x y z page None = refl
no_mark false b c x y z page bad = refl

same_mark : (a b : Mark) → Some a ≡ Some b → b ≡ a
same_mark a b e = cc

none_some : {A : Type 0} (m : Option A) (x : A) → m ≡ None → m ≡ Some x → ⊥
none_some m x e f = cc

-- the block has the signature of an image, and the mark its fields
pub marked_as : (page : List ℕ) (mark : Mark) → mark_in (area_kind page) ≡ Some mark → (same_bytes (sig_of page) image_signature ≡ true) × (mark ≡ mark_of page)
unfolding area_kind
marked_as page mark is = go (same_bytes (sig_of page) image_signature) (same_bytes (sig_of page) old_signature) (same_bytes (sig_of page) area_signature) is where
  go : (a b c : Bool) → mark_in (cond a (kind.Image (mark_of page)) (cond b kind.Old (cond c (version_1_kind page) (kind.Other (sig_of page))))) ≡ Some mark → (a ≡ true) × (mark ≡ mark_of page)
  go true b c e = (refl, same_mark (mark_of page) mark e)
  go false true c e = absurd (none_some {A = Mark} None mark refl e)
  go false false true e =
      absurd (none_some (mark_in (version_1_kind page)) mark
      (no_mark (version_of page == 1) (nat_lt 630 (bad_count_of page)) (last_page_of page == 0) (BadCount (bad_count_of page)) LastZero (Version (version_of page)) page (first_outside (last_page_of page) (bad_pages_of page (bad_count_of page)))) e)
  go false false false e = absurd (none_some {A = Mark} None mark refl e)

-- The header block is one of the disk's.

nothing_there : (v : DiskImage) (b : ℕ) → length v ≤ 8 * b → block v b ≡ []
unfolding block
nothing_there v b le =
    let none : drop (8 * b) v ≡ [] = nil_from_length (drop (8 * b) v) (length-drop (8 * b) v ∙ omega arith) in
    ap (λ (s : List (List ℕ)). concat (take 8 s)) none

unsigned : same_bytes (sig_of []) image_signature ≡ true → ⊥
unsigned e = true≢false (sym e)

pub size_of : (blocks : ℕ) (held : Content) → IsContent blocks held → blocks_of (as_it_reads held) ≡ blocks
size_of blocks held is = let size = length-map held (λ (s : Sector). s.live) in let all = is.size in omega arith

inside_disk : (blocks header : ℕ) (held : Content) → IsContent blocks held → same_bytes (sig_of (block (as_it_reads held) header)) image_signature ≡ true → header < blocks
inside_disk blocks header held is signed = elim (cases_lt header blocks) [
  | inl lt ↦ lt
  | inr le ↦
      let size = length-map held (λ (s : Sector). s.live) in
      let all = is.size in
      absurd (unsigned (subst (λ (page : List ℕ). same_bytes (sig_of page) image_signature ≡ true) (nothing_there (as_it_reads held) header (omega arith)) signed))
]

-- Nothing is found.

-- nothing is wrong with the header block of an image, nor with a whole reading of it
pub record IsFaultless (held : Content) (blocks header before now : ℕ) : Type 0 where
  pub start : Start
  pub history : List Name
  pub begins : IsStart (Some held) blocks header start
  pub whole : IsWhole start.limits start.first (Some held) before now history
  pub clean : IsClean (Some held) start history

compressed_found : (flags : ℕ) → is_compressed flags ≡ true → compressed_fault flags ≡ None → ⊥
compressed_found flags e none = none_some (compressed_fault flags) (finding.Compressed flags) none (cond-true (is_compressed flags) (Some (finding.Compressed flags)) None e)

header_compressed : (blocks header flags : ℕ) (page : List ℕ) → header_findings blocks header flags page ≡ [] → compressed_fault flags ≡ None
header_compressed blocks header flags page clean =
    no_finding (compressed_fault flags) (right_none (list_of (area_fault blocks header (area_kind (taken_back page)))) (list_of (compressed_fault flags)) clean)

false_of : (b : Bool) → (b ≡ true → ⊥) → b ≡ false
false_of true never = absurd (never refl)
false_of false never = refl

pub start_uncompressed : (content : Option Content) (blocks header : ℕ) (start : Start) (s : IsStart content blocks header start) → is_compressed s.mark.flags ≡ false
start_uncompressed content blocks header start s =
    false_of (is_compressed s.mark.flags) (λ e. compressed_found s.mark.flags e (header_compressed blocks header s.mark.flags s.page s.clean))

by_names : (blocks header before now : ℕ) (held : Content) (page : List ℕ) (mark : Mark) (more : List Finding) → IsContent blocks held → page ≡ block (as_it_reads held) header → mark_in (area_kind page) ≡ Some mark → header_findings blocks header mark.flags page ≡ [] → more ≡ [] → FindsNames (limits_of blocks header (area_kind (taken_back page))) mark.first (Some held) before now (format_of mark.flags) more → IsFaultless held blocks header before now
by_names blocks header before now held page mark more is read marked clean none (h, (whole, names)) = record {
  start = record { limits = limits_of blocks header (area_kind (taken_back page)); first = mark.first; format = format_of mark.flags };
  history = h;
  begins = record {
    page = page;
    mark = mark;
    inside = inside_disk blocks header held is (subst (λ (p : List ℕ). same_bytes (sig_of p) image_signature ≡ true) read (marked_as page mark marked).0);
    read = read;
    marked = marked;
    clean = clean;
    limits = refl;
    first = refl;
    format = refl;
  };
  whole = whole;
  clean = record { reading = whole.reading; pages = whole.pages; clean = sym names ∙ none };
}

by_image : (blocks header before now : ℕ) (held : Content) (page : List ℕ) (mark : Mark) → IsContent blocks held → page ≡ block (as_it_reads held) header → mark_in (area_kind page) ≡ Some mark → FindsImage (Some held) blocks header before now mark page [] → IsFaultless held blocks header before now
by_image blocks header before now held page mark is read marked finds = go (is_compressed mark.flags) refl finds where
  go : (b : Bool) → b ≡ is_compressed mark.flags → MatchBool b ([] ≡ header_findings blocks header mark.flags page)
      ((more : List Finding) × (FindsNames (limits_of blocks header (area_kind (taken_back page))) mark.first (Some held) before now
      (format_of mark.flags) more × ([] ≡ header_findings blocks header mark.flags page ++ more))) → IsFaultless held blocks header before now
  go true e none = absurd (compressed_found mark.flags (sym e) (header_compressed blocks header mark.flags page (sym none)))
  go false e (more, (names, all)) =
      by_names blocks header before now held page mark more is read marked
      (left_none (header_findings blocks header mark.flags page) more (sym all)) (right_none (header_findings blocks header mark.flags page) more (sym all)) names

by_mark : (blocks header before now : ℕ) (held : Content) (page : List ℕ) (m : Option Mark) → IsContent blocks held → page ≡ block (as_it_reads held) header → mark_in (area_kind page) ≡ m → FindsMark (Some held) blocks header before now page m (Some []) → IsFaultless held blocks header before now
by_mark blocks header before now held page None is read marked finds = absurd (none_some (Some []) [] finds refl)
by_mark blocks header before now held page (Some mark) is read marked finds = by_image blocks header before now held page mark is read marked finds

one_found : (x : Finding) (xs : List Finding) → Some [] ≡ Some (x ∷ xs) → ⊥
one_found x xs e = cc

pub faultless : (blocks header before now : ℕ) (held : Content) → IsContent blocks held → Finds (Some held) blocks header before now (Some []) → IsFaultless held blocks header before now
faultless blocks header before now held is (inl (beyond, none)) = absurd (none_some (Some []) [] none refl)
faultless blocks header before now held is (inr (inl (unread, risen))) = absurd (one_found (finding.HeaderUnread header) [] unread)
faultless blocks header before now held is (inr (inr (page, (read, finds)))) = by_mark blocks header before now held page (mark_in (area_kind page)) is read refl finds
