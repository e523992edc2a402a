-- What is known of two images over disks that read as before.
use Rattle.std.proofs.Common.{◌≡◌, ℕ, List, [], ◌∷◌, ◌++◌, Option, Ok, sym, subst, ◌∙◌, arith}
use Rattle.definitions.specs.Disk.{Content}
use Rattle.image_walk.specs.Names.{IsReadFrom}
use Rattle.image_pages.specs.Given.{HasGiven}
use Rattle.image_pages.specs.SavedFrames.{SavedFrame}
use Rattle.image_pages.specs.Says.{AreAllGiven}
use Rattle.image_pages.specs.declared.frames.frames.Frames.{Frames}
use Rattle.image_pages.specs.Ends.{IsRefused}
use Rattle.image_pages.proofs.SinceSaved.{refused_since}
use Rattle.image_differ.specs.Compares.{HasCompared, IsWrong, Says}
use Rattle.image_differ.specs.Marks.{IsHeading}
use Rattle.image_differ.specs.Readings.{IsPlace, IsReading}
use Rattle.image_differ.specs.Sides.{OnlyReads, SideView}
use Rattle.image_differ.specs.declared.comparison.Comparison.{Comparison}
use Rattle.image_differ.specs.declared.comparison.Next.{Next}
use Rattle.image_differ.specs.declared.comparison.Next.TheVariants as next
use Rattle.image_differ.specs.declared.difference.Difference.{Difference}
use Rattle.image_differ.specs.declared.heading.Heading.{Heading}
use Rattle.image_differ.specs.declared.reading.Place.{Place}
use Rattle.image_differ.specs.declared.reading.Place.TheVariants.{Unread, At, Ended}
use Rattle.image_differ.specs.declared.reading.Reading.{Reading}
use Rattle.image_differ.specs.declared.side.Which.TheVariants.{First, Second}
use Rattle.image_differ.proofs.Readying.{all_since}

-- two views that read alike
pub record ReadsLike (v w : SideView) : Type 0 where
  pub content : v.content ≡ w.content
  pub blocks : v.blocks ≡ w.blocks
  pub header : v.header ≡ w.header

pub as_before : (old new : SideView) → OnlyReads old new → ReadsLike new old
as_before old new f = record { content = f.content; blocks = f.blocks; header = f.header }

pub as_after : (old new : SideView) → OnlyReads old new → ReadsLike old new
as_after old new f = record { content = sym f.content; blocks = sym f.blocks; header = sym f.header }

-- what is said of a content, a number of blocks and the block of a header
pub said_since : (P : Option Content → (blocks header : ℕ) → Type 0) (v w : SideView) → ReadsLike v w → P v.content v.blocks v.header → P w.content w.blocks w.header
said_since P v w e p =
    subst (λ (x : Option Content). P x w.blocks w.header) e.content
    (subst (λ (n : ℕ). P v.content n w.header) e.blocks
    (subst (λ (n : ℕ). P v.content v.blocks n) e.header p))

heading_since : (v w : SideView) (info : List ℕ) (h : Heading) → ReadsLike v w → IsHeading v info h → IsHeading w info h
heading_since v w info h e i = record {
  mark = i.mark;
  marked = record {
    page = i.marked.page;
    read = said_since (λ c n b. IsReadFrom c b (Ok i.marked.page)) v w e i.marked.read;
    marked = i.marked.marked;
  };
  flags = i.flags;
  hw_sig = i.hw_sig;
  info = i.info;
}

pub given_since : (v w : SideView) (f : Frames) (given : List SavedFrame) → ReadsLike v w → HasGiven v.content v.blocks v.header f given → HasGiven w.content w.blocks w.header f given
given_since v w f given e h = said_since (λ c n b. HasGiven c n b f given) v w e h

place_since : (v w : SideView) (r : Reading) (given : List SavedFrame) (bound : ℕ) (place : Place) → ReadsLike v w → IsPlace v r given bound place → IsPlace w r given bound place
place_since v w r given bound Unread e (h, used) = (given_since v w r.frames given e h, used)
place_since v w r given bound (At p) e (h, head) = (given_since v w r.frames given e h, head)
place_since v w r given bound Ended e (below, all) = (
  below,
  λ before now. said_since (λ c n b. AreAllGiven c n b before now r.frames.numbers.info given) v w e (all before now),
)

reading_since : (v w : SideView) (r : Reading) (given : List SavedFrame) (bound : ℕ) → ReadsLike v w → IsReading v r given bound → IsReading w r given bound
reading_since v w r given bound e i = record { place = place_since v w r given bound r.place e i.place }

pub compared_since : (a c b d : SideView) (k : Comparison) (told : List Difference) → ReadsLike a c → ReadsLike b d → HasCompared a b k told → HasCompared c d k told
compared_since a c b d k told e f h = record {
  first_heading = heading_since a c k.first.frames.numbers.info k.one e h.first_heading;
  second_heading = heading_since b d k.second.frames.numbers.info k.two f h.second_heading;
  first_frames = h.first_frames;
  second_frames = h.second_frames;
  bound = h.bound;
  first = reading_since a c k.first h.first_frames h.bound e h.first;
  second = reading_since b d k.second h.second_frames h.bound f h.second;
  small = h.small;
  parts = h.parts;
  order = h.order;
  is = h.is;
}

-- over two disks that were read
pub compared_after : (a x b y : SideView) (k : Comparison) (told : List Difference) → OnlyReads a x → OnlyReads b y → HasCompared a b k told → HasCompared x y k told
compared_after a x b y k told f g h = compared_since a x b y k told (as_after a x f) (as_after b y g) h

pub compared_before : (a x b y : SideView) (k : Comparison) (told : List Difference) → OnlyReads a x → OnlyReads b y → HasCompared x y k told → HasCompared a b k told
compared_before a x b y k told f g h = compared_since x a y b k told (as_before a x f) (as_before b y g) h

pub reads_on : (a b c : SideView) → OnlyReads a b → OnlyReads b c → OnlyReads a c
reads_on a b c f g = record {
  content = g.content ∙ f.content;
  blocks = g.blocks ∙ f.blocks;
  faults = omega (arith, f.faults, g.faults);
  orders = g.orders ∙ f.orders;
  header = g.header ∙ f.header;
}

all_given_since : (v w u : SideView) (info : List ℕ) (given : List SavedFrame) → ReadsLike v w → AreAllGiven v.content v.blocks v.header v.faults u.faults info given → AreAllGiven w.content w.blocks w.header w.faults u.faults info given
all_given_since v w u info given e a =
    said_since (λ c n b. AreAllGiven c n b w.faults u.faults info given) v w e (all_since v v.faults u.faults info given a w.faults u.faults)

wrong_since : (v w u : SideView) → OnlyReads w v → v.told ≡ w.told → IsWrong v u → IsWrong w u
wrong_since v w u r told (pages, refused) =
    let there : IsRefused v.content v.blocks w.header v.faults u.faults v.told u.told pages =
    subst (λ (n : ℕ). IsRefused v.content v.blocks n v.faults u.faults v.told u.told pages) r.header refused in
    (pages, refused_since v.content w.content v.blocks w.blocks w.header w.faults v.faults u.faults w.told v.told u.told pages r.content r.blocks told r.faults there)

-- what is returned after steps that gave nothing
pub says_since : (a x a' b y b' : SideView) (told : List Difference) (q : Comparison) (n : Next) → OnlyReads a x → OnlyReads b y → x.told ≡ a.told → y.told ≡ b.told → Says x a' y b' told q n → Says a a' b b' told q n
says_since a x a' b y b' told q (next.Difference d) f g e h (untold, s) =
    ((untold.0 ∙ e, untold.1 ∙ h), compared_before a x b y q (told ++ d ∷ []) f g s)
says_since a x a' b y b' told q next.End f g e h (untold, s) = (
  (untold.0 ∙ e, untold.1 ∙ h),
  record {
    first = s.first;
    second = s.second;
    first_info = s.first_info;
    second_info = s.second_info;
    first_heading = heading_since x a s.first_info s.first.heading (as_before a x f) s.first_heading;
    second_heading = heading_since y b s.second_info s.second.heading (as_before b y g) s.second_heading;
    first_all = all_given_since x a a' s.first_info s.first.frames (as_before a x f) s.first_all;
    second_all = all_given_since y b b' s.second_info s.second.frames (as_before b y g) s.second_all;
    is = s.is;
  },
)
says_since a x a' b y b' told q (next.Refused First) f g e h (wrong, untold) = (wrong_since x a a' f e wrong, untold ∙ h)
says_since a x a' b y b' told q (next.Refused Second) f g e h (wrong, untold) = (wrong_since y b b' g h wrong, untold ∙ e)
