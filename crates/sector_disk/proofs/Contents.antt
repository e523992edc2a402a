-- What the calls of a disk in memory make of its content.
use Rattle.std.proofs.Common.{◌≡◌, ℕ, Result, Ok, Err, OnOk, OnErr, ◌+◌, ◌*◌, ◌<◌, ◌≤◌, ◌⊎◌, Bool, true, false, cond, Contains, List, [], ◌∷◌, length, get_or, take, drop, refl, sym, ap, ◌∙◌, inl, inr, subst, arith}
use Rattle.std.specs.List.{concat}
use Rattle.std.proofs.lemmas.List.{get_or_past}
use Rattle.std.proofs.lemmas.Bool.{cases_lt}
use Rattle.definitions.specs.Disk.{no_sector, sector, DiskImage, as_it_reads, settled, block, SameOutside, TakesBytes, Writes, FailsToWrite, Restarts, Syncs, sector_bytes}
use Rattle.sector_disk.specs.Sectors.{candidates_of, content_of, picks, IsPicked, TakesPage, TakesPicked, SameOutsideBlock}
use Rattle.sector_disk.specs.ContentLaws.{candidates_of-are, candidates_of-live, candidates_of-durable, candidates_of-same, length-content_of, get_or-content_of}

pub as_it_reads-content_of : (durable live : DiskImage) → length durable ≡ length live → as_it_reads (content_of durable live) ≡ live
as_it_reads-content_of [] [] n = refl
as_it_reads-content_of [] (l ∷ live) n = absurd (omega arith)
as_it_reads-content_of (d ∷ durable) [] n = absurd (omega arith)
as_it_reads-content_of (d ∷ durable) (l ∷ live) n = ap (λ xs. l ∷ xs) (as_it_reads-content_of durable live (omega arith))

-- where each sector is durable there is one image
pub content_of-settled : (live : DiskImage) → content_of live live ≡ settled live
content_of-settled [] = refl
content_of-settled (l ∷ live) = rw (candidates_of-same l, content_of-settled live) refl

-- a block as the disk reads
pub block-content_of : (durable live : DiskImage) (b : ℕ) → length durable ≡ length live → block (as_it_reads (content_of durable live)) b ≡ concat (take 8 (drop (8 * b) live))
unfolding block
block-content_of durable live b n = ap (λ xs. concat (take 8 (drop (8 * b) xs))) (as_it_reads-content_of durable live n)

-- a sector whose live bytes stay
same_sector : (durable old new : DiskImage) (s : ℕ) → length durable ≡ length old → length new ≡ length old → get_or new s [] ≡ get_or old s [] →
    sector (content_of durable new) s ≡ sector (content_of durable old) s
same_sector durable old new s n m same =
    elim (cases_lt s (length old)) [
      | inl lt ↦
          get_or-content_of durable new s no_sector (omega arith) (omega arith)
          ∙ ap (λ l. record { live = l; candidates = candidates_of (get_or durable s []) l }) same
          ∙ sym (get_or-content_of durable old s no_sector (omega arith) lt)
      | inr ge ↦
          get_or_past (content_of durable new) s no_sector (omega (arith, length-content_of durable new (n ∙ sym m)))
          ∙ sym (get_or_past (content_of durable old) s no_sector (omega (arith, length-content_of durable old n)))
    ]

takes_live : (d l l' bytes : List ℕ) → l' ≡ bytes → TakesBytes bytes (record { live = l; candidates = candidates_of d l }) (record { live = l'; candidates = candidates_of d l' })
takes_live d l l' bytes e = record {
  live = e;
  candidates = λ x h.
      elim (candidates_of-are d l' x h) [
        | inl q ↦ inl (subst (Contains (candidates_of d l)) (sym q) (candidates_of-durable d l))
        | inr q ↦ inr (q ∙ e)
      ];
}

-- a sector that takes bytes
takes_bytes : (durable old new : DiskImage) (s : ℕ) (bytes : List ℕ) → length durable ≡ length old → length new ≡ length old → s < length old → get_or new s [] ≡ bytes →
    TakesBytes bytes (sector (content_of durable old) s) (sector (content_of durable new) s)
takes_bytes durable old new s bytes n m lt same =
    subst (λ a. TakesBytes bytes a (sector (content_of durable new) s))
    (sym (get_or-content_of durable old s no_sector (omega arith) lt))
    (subst (TakesBytes bytes (record { live = get_or old s []; candidates = candidates_of (get_or durable s []) (get_or old s []) }))
    (sym (get_or-content_of durable new s no_sector (omega arith) (omega arith)))
    (takes_live (get_or durable s []) (get_or old s []) (get_or new s []) bytes same))

same_outside : (durable old new : DiskImage) (b : ℕ) → length durable ≡ length old → SameOutsideBlock b old new → SameOutside b (content_of durable old) (content_of durable new)
same_outside durable old new b n others = record {
  size = length-content_of durable new (n ∙ sym others.size) ∙ others.size ∙ sym (length-content_of durable old n);
  below = λ s lt. same_sector durable old new s n others.size (others.below s lt);
  above = λ s ge. same_sector durable old new s n others.size (others.above s ge);
}

pub writes : (durable old new : DiskImage) (b : ℕ) (page : List ℕ) → length durable ≡ length old → 8 * b + 8 ≤ length old → SameOutsideBlock b old new → TakesPage b page new →
    Writes b page (content_of durable old) (content_of durable new)
writes durable old new b page n le others within = record {
  others = same_outside durable old new b n others;
  within = λ j lt. takes_bytes durable old new (8 * b + j) (sector_bytes page j) n others.size (omega arith) (within j lt);
}

fails_sector : (t : Bool) (durable old new : DiskImage) (s : ℕ) (bytes : List ℕ) → length durable ≡ length old → length new ≡ length old → s < length old → get_or new s [] ≡ cond t bytes (get_or old s []) →
    (sector (content_of durable new) s ≡ sector (content_of durable old) s) ⊎ TakesBytes bytes (sector (content_of durable old) s) (sector (content_of durable new) s)
fails_sector true durable old new s bytes n m lt same = inr (takes_bytes durable old new s bytes n m lt same)
fails_sector false durable old new s bytes n m lt same = inl (same_sector durable old new s n m same)

pub fails_to_write : (durable old new : DiskImage) (b pick : ℕ) (page : List ℕ) → length durable ≡ length old → 8 * b + 8 ≤ length old → SameOutsideBlock b old new → TakesPicked pick b page old new →
    FailsToWrite b page (content_of durable old) (content_of durable new)
fails_to_write durable old new b pick page n le others within = record {
  others = same_outside durable old new b n others;
  within = λ j lt. fails_sector (picks pick (8 * b + j)) durable old new (8 * b + j) (sector_bytes page j) n others.size (omega arith) (within j lt);
}

picked_candidate : (t : Bool) (d l x : List ℕ) → x ≡ cond t l d → Contains (candidates_of d l) x
picked_candidate true d l x e = subst (Contains (candidates_of d l)) (sym e) (candidates_of-live d l)
picked_candidate false d l x e = subst (Contains (candidates_of d l)) (sym e) (candidates_of-durable d l)

pub restarts : (durable old new : DiskImage) (pick : ℕ) → length durable ≡ length old → IsPicked pick durable old new → Restarts (content_of durable old) (content_of new new)
restarts durable old new pick n picked = (
  new,
  record {
    size = picked.size ∙ n ∙ sym (length-content_of durable old n);
    chosen = λ s lt.
        let below : s < length old = omega (arith, length-content_of durable old n) in
        subst (λ c. Contains c.candidates (get_or new s []))
        (sym (get_or-content_of durable old s no_sector (omega arith) below))
        (picked_candidate (picks pick (0 + s)) (get_or durable s []) (get_or old s []) (get_or new s []) (picked.each s (omega (arith, picked.size))));
  },
  content_of-settled new,
)

pub on_ok : {T E P : Type 0} (r : Result T E) → P → OnOk r P
on_ok (Ok v) p = p
on_ok (Err e) p = tt

pub on_err : {T E P : Type 0} (r : Result T E) → P → OnErr r P
on_err (Ok v) p = tt
on_err (Err e) p = p

-- a sync and a restart, by the sectors that are kept
pub syncs_kept : (durable live kept : DiskImage) → length durable ≡ length live → kept ≡ live → Syncs (content_of durable live) (content_of kept live)
syncs_kept durable live kept n k =
    ap (λ (xs : DiskImage). content_of xs live) k ∙ content_of-settled live ∙ ap settled (sym (as_it_reads-content_of durable live n))

pub restarts_kept : (durable old new kept_durable kept_live : DiskImage) (pick : ℕ) → kept_durable ≡ new → kept_live ≡ new → length durable ≡ length old → IsPicked pick durable old new → Restarts (content_of durable old) (content_of kept_durable kept_live)
restarts_kept durable old new kept_durable kept_live pick kd kl n picked =
    subst (λ (xs : DiskImage). Restarts (content_of durable old) (content_of xs kept_live)) (sym kd)
    (subst (λ (xs : DiskImage). Restarts (content_of durable old) (content_of new xs)) (sym kl) (restarts durable old new pick n picked))
