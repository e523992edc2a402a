use Rattle.std.proofs.Common.{◌≡◌, ℕ, ◌+◌, ◌-◌, ◌<◌, ◌≤◌, suc, List, length, leb, ap, arith, rules, inl, inr}
use Rattle.std.proofs.lemmas.Bool.{cases_lt, leb-true, leb-false}
use Rattle.std.proofs.lemmas.List.Sorted.{IsPartitionPoint-from_clause, IsPartitionedBy-leb, IsNonDecreasingBy-from_default}
use Rattle.std.specs.List.Sorted.{IsNonDecreasingBy}
use Rattle.definitions.specs.Slots.{block_of, extent_at, slots_of}
use Rattle.definitions.specs.FileMaps.{IsFileMap}
use Rattle.definitions.proofs.FileMaps.{block_of-extent, ends_before}
use Rattle.swap_slots.proofs.file_map.last_from.Goals as goal

rises : (extents : List (ℕ × ℕ × ℕ)) → IsFileMap extents (slots_of extents) → IsNonDecreasingBy (λ e. e.0) extents
rises extents h = IsNonDecreasingBy-from_default (λ e. e.0) extents (0, 0, 0) (λ i j le lt. elim (cases_lt i j) [
  | inl below ↦ let end = ends_before extents i j h.each below lt in omega arith
  | inr ge ↦ let same : i ≡ j = omega arith in let start = ap (λ k. (extent_at extents k).0) same in omega arith
])

-- the extents before the i-th begin at or below slot s, and the others above it
record IsSplit (extents : List (ℕ × ℕ × ℕ)) (s i : ℕ) : Type 0 where
  most : i ≤ length extents
  below : (k : ℕ) → k < i → (extent_at extents k).0 ≤ s
  above : (k : ℕ) → i ≤ k → k < length extents → s < (extent_at extents k).0

some_before : (extents : List (ℕ × ℕ × ℕ)) (s i : ℕ) → IsFileMap extents (slots_of extents) → IsSplit extents s i → 1 ≤ i
some_before extents s i h split = elim (cases_lt i 1) [
  | inl none ↦ absurd (let some = h.count.some in let first = (h.each 0 some).start in let above = split.above 0 (omega arith) some in omega arith)
  | inr ge ↦ ge
]

block_at : (extents : List (ℕ × ℕ × ℕ)) (s i : ℕ) → IsFileMap extents (slots_of extents) → IsSplit extents s i → block_of extents s ≡ (extent_at extents (i - 1)).2 + (s - (extent_at extents (i - 1)).0)
block_at extents s i h split =
    let some = some_before extents s i h split in
    let most = split.most in
    block_of-extent extents (i - 1) s (omega arith) (λ j lt. split.below (suc j) (omega arith)) (λ lt. split.above (suc (i - 1)) (omega arith) lt)

pub overflow_sub-result : goal.overflow_sub-result
overflow_sub-result c =
    let parted = IsPartitionedBy-leb (λ e. e.0) c.args.extents.now c.args.s (rises c.args.extents.now c.requires) in
    let point = IsPartitionPoint-from_clause (λ e. leb e.0 c.args.s) _ _ c.partition_point-after.ensures.partitioned parted (λ a r q k. search rules) in
    let split : IsSplit c.args.extents.now c.args.s c.partition_point-after.result = record {
      most = c.partition_point-after.ensures.bound;
      below = λ k lt. leb-true (extent_at c.args.extents.now k).0 c.args.s (point.0 k (0, 0, 0) (omega arith) lt);
      above = λ k le lt. leb-false (extent_at c.args.extents.now k).0 c.args.s (point.1 k (0, 0, 0) le lt);
    } in
    some_before c.args.extents.now c.args.s c.partition_point-after.result c.requires split

pub returns-clause-start : goal.returns-clause-start
returns-clause-start c =
    let parted = IsPartitionedBy-leb (λ e. e.0) c.args.extents.now c.args.s (rises c.args.extents.now c.requires) in
    let point = IsPartitionPoint-from_clause (λ e. leb e.0 c.args.s) _ _ c.partition_point-after.ensures.partitioned parted (λ a r q k. search rules) in
    let split : IsSplit c.args.extents.now c.args.s c.partition_point-after.result = record {
      most = c.partition_point-after.ensures.bound;
      below = λ k lt. leb-true (extent_at c.args.extents.now k).0 c.args.s (point.0 k (0, 0, 0) (omega arith) lt);
      above = λ k le lt. leb-false (extent_at c.args.extents.now k).0 c.args.s (point.1 k (0, 0, 0) le lt);
    } in
    let some = some_before c.args.extents.now c.args.s c.partition_point-after.result c.requires split in
    split.below (c.partition_point-after.result - 1) (omega arith)

pub returns-clause-block : goal.returns-clause-block
returns-clause-block c =
    let parted = IsPartitionedBy-leb (λ e. e.0) c.args.extents.now c.args.s (rises c.args.extents.now c.requires) in
    let point = IsPartitionPoint-from_clause (λ e. leb e.0 c.args.s) _ _ c.partition_point-after.ensures.partitioned parted (λ a r q k. search rules) in
    let split : IsSplit c.args.extents.now c.args.s c.partition_point-after.result = record {
      most = c.partition_point-after.ensures.bound;
      below = λ k lt. leb-true (extent_at c.args.extents.now k).0 c.args.s (point.0 k (0, 0, 0) (omega arith) lt);
      above = λ k le lt. leb-false (extent_at c.args.extents.now k).0 c.args.s (point.1 k (0, 0, 0) le lt);
    } in
    block_at c.args.extents.now c.args.s c.partition_point-after.result c.requires split
