-- Entries side by side, each tested once it has been read: zones, and extents.
use Rattle.std.proofs.Common.{◌≡◌, ℕ, ◌+◌, ◌<◌, ◌≤◌, Bool, true, false, List, [], ◌∷◌, ◌++◌, length, map, take, Option, Some, None, sym, ap, ◌∙◌, arith}
use Rattle.std.proofs.Math.ListN.{set}
use Rattle.std.proofs.lemmas.List.{take_more_set}
use Rattle.std.proofs.lemmas.List.FromFn.{map-range_with_len_more}
use Rattle.std.specs.List.{range_with_len}
use Rattle.plain_machine.specs.Chain.{first_some, or_else}
use Rattle.dump_file.specs.Dump.{unless, wanted}
use Rattle.dump_file.specs.declared.dump.DumpFault.{DumpFault}
use Rattle.dump_file.specs.declared.dump.DumpKind.{DumpKind}
use Rattle.dump_file.proofs.Chains.{first-at, first-none, or_else-none, or_else-some, unless-false, unless-true, wanted-there}

-- what is wrong with entry j, which begins at byte `place j`
abbrev pub item : List ℕ → (ℕ → ℕ) → (ℕ → Bool) → DumpKind → ℕ → Option DumpFault
item bytes place test kind j = or_else (wanted bytes (place (j + 1))) (unless (test j) kind (place j))

pub item_right : (bytes : List ℕ) (place : ℕ → ℕ) (test : ℕ → Bool) (kind : DumpKind) (j : ℕ) → place (j + 1) ≤ length bytes → test j ≡ true → item bytes place test kind j ≡ None
item_right bytes place test kind j there right =
    or_else-none (wanted bytes (place (j + 1))) (unless (test j) kind (place j)) (wanted-there bytes (place (j + 1)) there)
    ∙ unless-true (test j) kind (place j) right

-- the first entry whose bytes are missing
pub items_short : (bytes : List ℕ) (place : ℕ → ℕ) (test : ℕ → Bool) (kind : DumpKind) (n j : ℕ) (f : DumpFault) → j < n → ((i : ℕ) → i < j → item bytes place test kind i ≡ None) → wanted bytes (place (j + 1)) ≡ Some f → first_some (map (item bytes place test kind) (range_with_len 0 n)) ≡ Some f
items_short bytes place test kind n j f lt right short =
    first-at (item bytes place test kind) 0 n j f (omega arith) (omega (arith, lt)) (λ i from i_lt. right i i_lt)
    (or_else-some (wanted bytes (place (j + 1))) (unless (test j) kind (place j)) f short)

-- the first entry that its test refuses
pub items_wrong : (bytes : List ℕ) (place : ℕ → ℕ) (test : ℕ → Bool) (kind : DumpKind) (n j : ℕ) → j < n → ((i : ℕ) → i < j → item bytes place test kind i ≡ None) → place (j + 1) ≤ length bytes → test j ≡ false → first_some (map (item bytes place test kind) (range_with_len 0 n)) ≡ Some (record { kind = kind; at = place j })
items_wrong bytes place test kind n j lt right there wrong =
    first-at (item bytes place test kind) 0 n j (record { kind = kind; at = place j }) (omega arith) (omega (arith, lt)) (λ i from i_lt. right i i_lt)
    (or_else-none (wanted bytes (place (j + 1))) (unless (test j) kind (place j)) (wanted-there bytes (place (j + 1)) there)
    ∙ unless-false (test j) kind (place j) wrong)

pub items_right : (bytes : List ℕ) (place : ℕ → ℕ) (test : ℕ → Bool) (kind : DumpKind) (n : ℕ) → ((i : ℕ) → i < n → item bytes place test kind i ≡ None) → first_some (map (item bytes place test kind) (range_with_len 0 n)) ≡ None
items_right bytes place test kind n right = first-none (item bytes place test kind) 0 n (λ i from lt. right i (omega (arith, lt)))

-- one entry more was read
pub grown : {X : Type 0} (f : ℕ → X) (xs : List X) (j : ℕ) (v : X) → j < length xs → take j xs ≡ map f (range_with_len 0 j) → v ≡ f j → take (j + 1) (set xs j v) ≡ map f (range_with_len 0 (j + 1))
grown {X} f xs j v lt so_far is =
    let place : 0 + j ≡ j = omega arith in
    take_more_set xs j v lt ∙ ap (λ (ys : List X). ys ++ v ∷ []) so_far ∙ ap (λ (x : X). map f (range_with_len 0 j) ++ x ∷ []) is
    ∙ sym (map-range_with_len_more f 0 j j place)
