-- What a read of the expanding disk gives.
use Rattle.std.proofs.Common.{◌≡◌, ℕ, ◌+◌, ◌-◌, ◌*◌, ◌/◌, ◌%◌, ◌<◌, ◌≤◌, Bool, true, false, cond, List, Option, Some, None, IfSome, refl, sym, ap, ap₂, subst, ◌∙◌, arith, eqb, take, drop}
use Rattle.std.proofs.lemmas.Bool.{ne_eqb}
use Rattle.std.proofs.lemmas.List.{drop-take, take-take}
use Rattle.std.specs.Option.{ForSome}
use Rattle.definitions.specs.Disk.{Content, DiskImage, as_it_reads, block}
use Rattle.definitions.proofs.DiskLaws.{as_it_reads-settled}
use Rattle.expanded_disk.specs.Index.{IsIndexed, first_of, pages_of_chain}
use Rattle.expanded_disk.specs.Names.{chain_of}
use Rattle.expanded_disk.specs.Units.{bytes_of}
use Rattle.expanded_disk.specs.declared.units.index.Index.{Index}
use Rattle.expanded_disk.specs.Laid.{blocks_for, expanded, expanded_page, laid_block, laid_map, plain_block, plain_header, plain_image}
use Rattle.expanded_disk.specs.LaidLaws.{block-image, IsPage-plain}

-- a page is block b of the plain image, if the disk tells its content
abbrev pub IsBlock : Option Content → (header b : ℕ) → List ℕ → Type 0
IsBlock content header b page = IfSome content (λ held. page ≡ plain_block (as_it_reads held) header b)

pub block-expanded : (blocks : ℕ) (content : Option Content) (header : ℕ) (index : Index) (b : ℕ) (page : List ℕ) → ForSome content (λ held. IsIndexed blocks (as_it_reads held) header index) → b < blocks_for index.pages → IsBlock content header b page → IfSome (expanded header content) (λ held. page ≡ block (as_it_reads held) b)
block-expanded blocks None header index b page indexed lt is = tt
block-expanded blocks (Some held) header index b page indexed lt is =
    let v = as_it_reads held in
    let i = indexed held refl in
    let n = pages_of_chain (chain_of v (first_of v header)) in
    let inside : b < blocks_for n = subst (λ (m : ℕ). b < blocks_for m) i.pages_are lt in
    is
    ∙ sym (block-image (plain_block v header) (blocks_for n) b (IsPage-plain blocks v header index i b inside) inside)
    ∙ ap (λ (w : DiskImage). block w b) (sym (as_it_reads-settled (plain_image v header)))

test_true : (t : Bool) (x y : List ℕ) → t ≡ true → cond t x y ≡ x
test_true t x y e = ap (λ (u : Bool). cond u x y) e

test_false : (t : Bool) (x y : List ℕ) → t ≡ false → cond t x y ≡ y
test_false t x y e = ap (λ (u : Bool). cond u x y) e

zero_test : (n : ℕ) → n ≡ 0 → eqb n 0 ≡ true
zero_test n e = ap (λ (m : ℕ). eqb m 0) e

other_test : (n : ℕ) → 0 < n → eqb n 0 ≡ false
other_test n lt = ne_eqb n 0 (λ e. omega arith)

laid-header : (header : List ℕ) (page : ℕ → List ℕ) (pages b : ℕ) → b ≡ 0 → laid_block header page pages b ≡ header
unfolding laid_block
laid-header header page pages b e = test_true (eqb b 0) header _ (zero_test b e)

laid-map : (header : List ℕ) (page : ℕ → List ℕ) (pages b : ℕ) → 0 < b → (b - 1) % 512 ≡ 0 → laid_block header page pages b ≡ laid_map pages ((b - 1) / 512)
unfolding laid_block
laid-map header page pages b some e = test_false (eqb b 0) header _ (other_test b some) ∙ test_true (eqb ((b - 1) % 512) 0) _ _ (zero_test ((b - 1) % 512) e)

laid-page : (header : List ℕ) (page : ℕ → List ℕ) (pages b : ℕ) → 0 < b → 0 < (b - 1) % 512 → laid_block header page pages b ≡ page (511 * ((b - 1) / 512) + (b - 1) % 512 - 1)
unfolding laid_block
laid-page header page pages b some e = test_false (eqb b 0) header _ (other_test b some) ∙ test_false (eqb ((b - 1) % 512) 0) _ _ (other_test ((b - 1) % 512) e)

pub reads-header : (blocks : ℕ) (content : Option Content) (header : ℕ) (index : Index) (b : ℕ) → ForSome content (λ held. IsIndexed blocks (as_it_reads held) header index) → b ≡ 0 → IsBlock content header b (plain_header index.header index.pages)
reads-header blocks None header index b indexed e = tt
reads-header blocks (Some held) header index b indexed e =
    let v = as_it_reads held in
    let i = indexed held refl in
    let chain = chain_of v (first_of v header) in
    let n = pages_of_chain chain in
    ap₂ plain_header i.header_is i.pages_are ∙ sym (laid-header (plain_header (block v header) n) (expanded_page chain n) n b e)

pub reads-map : (blocks : ℕ) (content : Option Content) (header : ℕ) (index : Index) (b m : ℕ) → ForSome content (λ held. IsIndexed blocks (as_it_reads held) header index) → 0 < b → (b - 1) % 512 ≡ 0 → m ≡ (b - 1) / 512 → IsBlock content header b (laid_map index.pages m)
reads-map blocks None header index b m indexed some e at = tt
reads-map blocks (Some held) header index b m indexed some e at =
    let v = as_it_reads held in
    let i = indexed held refl in
    let chain = chain_of v (first_of v header) in
    let n = pages_of_chain chain in
    ap₂ laid_map i.pages_are at ∙ sym (laid-map (plain_header (block v header) n) (expanded_page chain n) n b some e)

pub reads-page : (blocks : ℕ) (content : Option Content) (header : ℕ) (index : Index) (b k : ℕ) (page : List ℕ) → ForSome content (λ held. IsIndexed blocks (as_it_reads held) header index) → 0 < b → 0 < (b - 1) % 512 → k ≡ 511 * ((b - 1) / 512) + (b - 1) % 512 - 1 → IfSome content (λ held. page ≡ expanded_page (chain_of (as_it_reads held) index.first) index.pages k) → IsBlock content header b page
reads-page blocks None header index b k page indexed some e at is = tt
reads-page blocks (Some held) header index b k page indexed some e at is =
    let v = as_it_reads held in
    let i = indexed held refl in
    let chain = chain_of v (first_of v header) in
    let n = pages_of_chain chain in
    is
    ∙ ap₂ (λ (f m : ℕ). expanded_page (chain_of v f) m k) i.first_is i.pages_are
    ∙ ap (expanded_page chain n) at
    ∙ sym (laid-page (plain_header (block v header) n) (expanded_page chain n) n b some e)

-- page k of a unit that is kept
pub page-of_unit : (chain : ℕ → List ℕ) (pages k size : ℕ) (bytes : List ℕ) → 0 < k → 4096 * ((k - 1) % 32) + 4096 ≤ size → take size bytes ≡ bytes_of chain pages ((k - 1) / 32) → take 4096 (drop (4096 * ((k - 1) % 32)) bytes) ≡ expanded_page chain pages k
unfolding expanded_page
page-of_unit chain pages k size bytes some fits is =
    let i = 4096 * ((k - 1) % 32) in
    let room : i + (size - i) ≡ size = omega arith in
    let few : 4096 ≤ size - i = omega arith in
    sym (take-take 4096 (size - i) (drop i bytes) few)
    ∙ ap (take 4096) (sym (drop-take i (size - i) bytes) ∙ ap (λ (n : ℕ). drop i (take n bytes)) room ∙ ap (drop i) is)
    ∙ sym (test_false (eqb k 0) (chain 0) (take 4096 (drop i (bytes_of chain pages ((k - 1) / 32)))) (other_test k some))

pub page-info : (chain : ℕ → List ℕ) (pages k : ℕ) → k ≡ 0 → expanded_page chain pages k ≡ chain 0
unfolding expanded_page
page-info chain pages k e = test_true (eqb k 0) (chain 0) _ (zero_test k e)
