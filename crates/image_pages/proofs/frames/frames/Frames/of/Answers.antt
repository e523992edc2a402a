use Rattle.std.proofs.Common.{◌≡◌, ◌-◌, ◌+◌, ◌≤◌, ℕ, ◌∷◌, [], Option, Some, None, sym, ap, ◌∙◌, arith}
use Rattle.definitions.specs.NumberPages.{meta_of}
use Rattle.image_check.specs.Info.{counts_in}
use Rattle.image_check.specs.declared.finding.Counts.{Counts}
use Rattle.image_pages.proofs.Counting.{the_same}
use Rattle.image_pages.proofs.Giving.{begun_given}
use Rattle.image_pages.proofs.frames.frames.Frames.of.Goals as goal

some_none : (o : Option Counts) (c : Counts) → o ≡ Some c → o ≡ None → ⊥
some_none o c e f = cc

pub unreachable-requires : goal.unreachable-requires
unreachable-requires c =
    let (content, (blocks, (header, p))) = c.requires in
    some_none c.counts.result (counts_in c.args.numbers.info) (c.counts.ensures content blocks header (c.args.numbers.info ∷ p.passed) p.stands) c.in_default.is

pub returns-clause-given : goal.returns-clause-given
returns-clause-given c = λ content blocks header p.
    let n = c.args.numbers in
    let known = the_same c.in-Some.counts (counts_in n.info) (sym c.in-Some.is ∙ c.counts.ensures content blocks header (n.info ∷ p.passed) p.stands) in
    let same = c.count.ensures.count content blocks header [] p.numbered in
    begun_given content blocks header n c.args.pages (c.in-Some.counts.pages - c.number_page_count.result - 1) p
    (omega (arith, ap (λ (x : Counts). x.pages) known, same, p.numbered.count, c.number_page_count.ensures))

-- the image has an info page and its number pages
room : (pages count numbers lists : ℕ) → pages ≡ count → meta_of numbers + 1 ≤ count → lists ≡ meta_of numbers → lists + 1 ≤ pages
room pages count numbers lists e le f = omega arith

pub overflow_sub-left : goal.overflow_sub-left
overflow_sub-left c =
    let (content, (blocks, (header, p))) = c.requires in
    let n = c.args.numbers in
    let known = the_same c.in-Some.counts (counts_in n.info) (sym c.in-Some.is ∙ c.counts.ensures content blocks header (n.info ∷ p.passed) p.stands) in
    let same = c.count.ensures.count content blocks header [] p.numbered in
    let all : c.number_page_count.result ≡ meta_of n.count = omega (arith, c.number_page_count.ensures, same, p.numbered.count) in
    omega (arith, room c.in-Some.counts.pages (counts_in n.info).pages n.count c.number_page_count.result (ap (λ (x : Counts). x.pages) known) p.numbered.room all)

pub overflow_sub-left-2 : goal.overflow_sub-left-2
overflow_sub-left-2 c =
    let (content, (blocks, (header, p))) = c.requires in
    let n = c.args.numbers in
    let known = the_same c.in-Some.counts (counts_in n.info) (sym c.in-Some.is ∙ c.counts.ensures content blocks header (n.info ∷ p.passed) p.stands) in
    let same = c.count.ensures.count content blocks header [] p.numbered in
    let all : c.number_page_count.result ≡ meta_of n.count = omega (arith, c.number_page_count.ensures, same, p.numbered.count) in
    omega (arith, room c.in-Some.counts.pages (counts_in n.info).pages n.count c.number_page_count.result (ap (λ (x : Counts). x.pages) known) p.numbered.room all)
