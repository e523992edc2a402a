-- A resume of another's image: its first steps.
use Rattle.std.proofs.Common.{◌≡◌, ℕ, ◌+◌, ◌-◌, ◌<◌, ◌≤◌, inl, inr, List, ◌++◌, length, take, drop, get_or, min, refl, sym, ap, ◌∙◌, subst, arith, length-append, length-drop}
use Rattle.std.proofs.lemmas.Bool.{cases_lt}
use Rattle.std.proofs.lemmas.Grind.{same_number_lists}
use Rattle.std.proofs.lemmas.List.{length-take, get_or-take, get_or-drop, get_or_append_left, get_or-append_right}
use Rattle.definitions.specs.Bytes.{IsPage, with_bytes}
use Rattle.definitions.specs.Disk as disk
use Rattle.definitions.specs.SwapHeader.{orig_sig_of, taken_back}
use Rattle.definitions.proofs.DiskLaws.{IsImage-as_it_reads}
use Rattle.plain_machine.specs.Machine.{Hardware}
use Rattle.plain_machine.specs.Chain.{header_of, Marked}
use Rattle.plain_machine.specs.Shows.{WorldView}
use Rattle.plain_machine.specs.Stands.{Stands, IsHeld, IsSameOrTakenBack}
use Rattle.plain_machine.specs.State.{loading, sure, other, Load, Found, not_yet, found_own, found_other}
use Rattle.image_laws.proofs.ImageBlocks.{length-taken_back}
use Rattle.protocol_laws.specs.ResumingOther.{with_found_other, BackSyncOtherFails, BackSyncsOther, FindsOther, ReadsPageOther, StopsAtOther, TakeBackOtherFails, TakesBackOther}
use Rattle.protocol_laws.proofs.Finding.{own_isn't_other, itself}
use Rattle.protocol_laws.proofs.HeaderBack.{IsBefore, is_before, still_header, each_taken_back, reads_unmarked}
use Rattle.protocol_laws.proofs.TakingBack.{unmarked_synced, page_read}

pub same_other : (v w : disk.DiskImage) → found_other v ≡ found_other w → v ≡ w
same_other v w e = ap image_or e where
  image_or : Found → disk.DiskImage
  image_or not_yet = v
  image_or (found_own i) = v
  image_or (found_other u) = u

-- The read of block(0).

all_marked : (h : Hardware) (shown : WorldView) (c : disk.Content) (blocks : ℕ) (load : Load) → disk.IsContent blocks c → Stands h shown c (loading load 1) → Marked h (disk.as_it_reads c) → IsHeld h c (sure other)
all_marked h shown c blocks load whole stands marked v in' =
    subst (Marked h) (stands.parts.before (disk.as_it_reads c) v (IsImage-as_it_reads blocks c whole) in') marked

pub finds_other : FindsOther
finds_other h shown shown' c blocks load whole stands held marked header shows =
    let v = disk.as_it_reads c in
    let one = stands.parts.before in
    let here = IsImage-as_it_reads blocks c whole in
    record {
      activity = shows.activity;
      parts = record {
        held = all_marked h shown c blocks load whole stands marked;
        header = stands.parts.header;
        resume = record {
          shows = shows.shows;
          fits = stands.parts.resume.fits;
          found = λ le. tt;
          own = λ i e. absurd (own_isn't_other i v (sym e));
          others = λ u e w in'. subst (λ (x : disk.DiskImage). IsSameOrTakenBack h x w) (same_other v u e) (itself h v w (one w v in' here));
          taken_back = λ le. absurd (omega arith);
        };
        before = record { one = one; header = header };
      };
    }

pub stops_at_other : StopsAtOther
stops_at_other h shown shown' c blocks load whole stands held marked activity kept = record {
  activity = activity;
  parts = record { memory = kept; held = all_marked h shown c blocks load whole stands marked; header = stands.parts.header };
}

-- The write of block(0) taken back.

before_other : (h : Hardware) (shown : WorldView) (c : disk.Content) (blocks : ℕ) (load : Load) (v : disk.DiskImage) → disk.IsContent blocks c → Stands h shown c (loading (with_found_other load v) 2) → IsBefore h shown c blocks
before_other h shown c blocks load v whole stands =
    is_before h shown c blocks whole stands.parts.before.one stands.parts.before.header (stands.parts.held (disk.as_it_reads c) (IsImage-as_it_reads blocks c whole)) stands.parts.header

-- A block that is taken back twice is the block taken back.

abbrev behind : List ℕ → List ℕ
behind page = drop (4086 + length (orig_sig_of page)) page

-- the bytes before its signature stay, and the ones of the signature are those 10 before
record IsBack (page back : List ℕ) : Type 0 where
  front : (i : ℕ) → i < 4086 → get_or back i 0 ≡ get_or page i 0
  sig : (i : ℕ) → i < 10 → get_or back (4086 + i) 0 ≡ get_or page (4076 + i) 0

orig_size : (page : List ℕ) → length (orig_sig_of page) ≡ min 10 (length page - 4076)
orig_size page = length-take 10 (drop 4076 page) ∙ ap (min 10) (length-drop 4076 page)

long_enough : (n o f : ℕ) → o ≡ min 10 (n - 4076) → f ≡ min 4086 n → f + o + (n - (4086 + o)) ≡ 4096 → (4086 ≤ n) × (o ≡ 10) × (f ≡ 4086)
long_enough n o f is_o is_f size = elim (cases_lt n 4086) [ inl lt ↦ absurd (omega arith) | inr le ↦ (le, omega arith, omega arith) ]

is_back : (page : List ℕ) → IsPage (taken_back page) → IsBack page (taken_back page)
unfolding taken_back with_bytes
is_back page whole =
    let o = orig_sig_of page in
    let f = length-append (take 4086 page) o in
    let all = length-append (take 4086 page ++ o) (behind page) in
    let r = length-drop (4086 + length o) page in
    let n = long_enough (length page) (length o) (length (take 4086 page)) (orig_size page) (length-take 4086 page) (omega arith) in
    record {
      front = λ i lt.
          get_or_append_left (take 4086 page ++ o) (behind page) 0 i (omega arith)
          ∙ get_or_append_left (take 4086 page) o 0 i (omega arith) ∙ get_or-take 4086 page i 0 lt;
      sig = λ i lt.
          let at : 4086 + i - 4086 ≡ i = omega arith in
          get_or_append_left (take 4086 page ++ o) (behind page) 0 (4086 + i) (omega arith)
          ∙ get_or-append_right (take 4086 page) o 4086 (4086 + i) 0 n.2 (omega arith) ∙ ap (λ (j : ℕ). get_or o j 0) at
          ∙ get_or-take 10 (drop 4076 page) i 0 lt ∙ get_or-drop 4076 page i 0;
    }

back_twice : (page : List ℕ) → IsPage (taken_back page) → taken_back (taken_back page) ≡ taken_back page
back_twice page whole =
    let once = is_back page whole in
    let whole' = length-taken_back (taken_back page) whole in
    let twice = is_back (taken_back page) whole' in
    same_number_lists (taken_back (taken_back page)) (taken_back page) (whole' ∙ sym whole) (λ i lt. elim (cases_lt i 4086) [
      | inl front ↦ twice.front i front
      | inr sig ↦
          let at : 4086 + (i - 4086) ≡ i = omega arith in
          subst (λ (j : ℕ). get_or (taken_back (taken_back page)) j 0 ≡ get_or (taken_back page) j 0) at
          (twice.sig (i - 4086) (omega arith) ∙ once.front (4076 + (i - 4086)) (omega arith) ∙ sym (once.sig (i - 4086) (omega arith)))
    ])

-- if w is v or v taken back, and u is w or w taken back, then u is v or v taken back
back_again : (h : Hardware) (v w u : disk.DiskImage) → IsPage (header_of h w) → IsSameOrTakenBack h v w → IsSameOrTakenBack h w u → IsSameOrTakenBack h v u
back_again h v w u page first second =
    let size = first.size in
    record {
      size = second.size ∙ first.size;
      others = λ b lt apart. second.others b (omega arith) apart ∙ first.others b lt apart;
      header = elim second.header [
        | inl kept ↦ elim first.header [ inl same ↦ inl (kept ∙ same) | inr once ↦ inr (kept ∙ once) ]
        | inr back ↦ elim first.header [
          | inl same ↦ inr (back ∙ ap taken_back same)
          | inr once ↦ inr (back ∙ ap taken_back once ∙ back_twice (header_of h v) (subst IsPage once page))
        ]
      ];
    }

-- Block(0) is written taken back.

pub takes_other_back : TakesBackOther
takes_other_back h shown shown' c c' blocks load v hw whole after stands writes shows =
    let before = before_other h shown c blocks load v whole stands in
    let w = disk.as_it_reads c in
    let found = stands.parts.resume.others v refl w (IsImage-as_it_reads blocks c whole) in
    let page : IsPage (header_of h w) = subst IsPage (sym before.header) before.page in
    record {
      activity = shows.activity;
      parts = record {
        held = tt;
        header = still_header h shown c c' blocks before after (inl writes);
        resume = record {
          shows = shows.shows;
          fits = stands.parts.resume.fits;
          found = λ le. tt;
          own = λ i e. absurd (own_isn't_other i v (sym e));
          others = λ x e u in'. subst (λ (y : disk.DiskImage). IsSameOrTakenBack h y u) (same_other v x e) (back_again h v w u page found (each_taken_back h shown c c' blocks u before (inl writes) in'));
          taken_back = λ le. absurd (omega arith);
        };
        before = reads_unmarked h shown c c' blocks before after writes;
      };
    }

pub take_other_back_fails : TakeBackOtherFails
take_other_back_fails h shown shown' c c' blocks load v hw whole after stands fails activity kept = record {
  activity = activity;
  parts = record { memory = kept; held = tt; header = still_header h shown c c' blocks (before_other h shown c blocks load v whole stands) after (inr fails) };
}

-- The sync after that write.

pub back_syncs_other : BackSyncsOther
back_syncs_other h shown shown' c c' blocks load v = unmarked_synced h shown shown' c c' blocks (with_found_other load v)

pub back_sync_other_fails : BackSyncOtherFails
back_sync_other_fails h shown shown' c load v stands activity kept = record { activity = activity; parts = record { memory = kept; held = stands.parts.held; header = stands.parts.header } }

pub reads_page_other : ReadsPageOther
reads_page_other h shown shown' c load v k = page_read h shown shown' c (with_found_other load v) k
