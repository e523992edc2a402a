-- What `padded` and `content_of` say of each sector.
use Rattle.std.proofs.Common.{◌≡◌, ℕ, ◌-◌, ◌*◌, ◌<◌, ◌≤◌, ◌⊎◌, zero, suc, Bool, true, false, cond, List, [], ◌∷◌}
use Rattle.std.proofs.Common.{length, get_or, replicate, All, Contains, refl, sym, ap, ◌∙◌, inl, inr, subst, arith}
use Rattle.std.proofs.lemmas.Slice.Eq.{bytes_eq-Decides}
use Rattle.std.proofs.lemmas.List.{get_or_default, length-replicate, length-append}
use Rattle.std.proofs.lemmas.List.Elements.{All-append, All-replicate}
use Rattle.std.specs.Str.{bytes_eq}
use Rattle.definitions.specs.Disk.{Sector, DiskImage, IsSector, IsContent}
use Rattle.sector_disk.specs.Sectors.{zero_sector, padded, candidates_of, content_of, AreSectors}

-- padding gives `count` sectors of 512 bytes, if the sectors that are kept have 512 bytes
pub length-padded : (count : ℕ) (kept : DiskImage) → length kept ≤ count → length (padded count kept) ≡ count
unfolding padded
length-padded count kept le =
    length-append kept (replicate (count - length kept) zero_sector)
    ∙ omega (arith, length-replicate (count - length kept) zero_sector)

pub padded_whole : (count : ℕ) (kept : DiskImage) → length kept ≤ count →
    All (λ bytes. length bytes ≡ 512) kept → AreSectors count (padded count kept)
unfolding padded
padded_whole count kept le whole = record {
  size = length-padded count kept le;
  whole = All-append (λ bytes. length bytes ≡ 512) kept (replicate (count - length kept) zero_sector) whole
      (All-replicate (λ bytes. length bytes ≡ 512) (count - length kept) zero_sector (length-replicate {A = ℕ} 512 0));
}

-- one or two candidates
of_one : (l x : List ℕ) → Contains (l ∷ []) x → x ≡ l
of_one l x (zero, lt, e) = sym e
of_one l x (suc k, lt, e) = absurd (omega arith)

of_two : (d l x : List ℕ) → Contains (d ∷ l ∷ []) x → (x ≡ d) ⊎ (x ≡ l)
of_two d l x (zero, lt, e) = inl (sym e)
of_two d l x (suc zero, lt, e) = inr (sym e)
of_two d l x (suc (suc k), lt, e) = absurd (omega arith)

chosen : (b : Bool) (d l x : List ℕ) → Contains (cond b (l ∷ []) (d ∷ l ∷ [])) x → (x ≡ d) ⊎ (x ≡ l)
chosen true d l x h = inr (of_one l x h)
chosen false d l x h = of_two d l x h

-- the candidates are the durable bytes and the live ones
pub candidates_of-are : (d l x : List ℕ) → Contains (candidates_of d l) x → (x ≡ d) ⊎ (x ≡ l)
unfolding candidates_of
candidates_of-are d l x h = chosen (bytes_eq d l) d l x h

has_live : (b : Bool) (d l : List ℕ) → Contains (cond b (l ∷ []) (d ∷ l ∷ [])) l
has_live true d l = (0, omega arith, refl)
has_live false d l = (1, omega arith, refl)

pub candidates_of-live : (d l : List ℕ) → Contains (candidates_of d l) l
unfolding candidates_of
candidates_of-live d l = has_live (bytes_eq d l) d l

has_durable : (b : Bool) (d l : List ℕ) → (b ≡ true → d ≡ l) → Contains (cond b (l ∷ []) (d ∷ l ∷ [])) d
has_durable true d l same = (0, omega arith, sym (same refl))
has_durable false d l same = (0, omega arith, refl)

pub candidates_of-durable : (d l : List ℕ) → Contains (candidates_of d l) d
unfolding candidates_of
candidates_of-durable d l = has_durable (bytes_eq d l) d l (λ e. (bytes_eq-Decides d l).0 e)

-- if the durable and the live bytes are the same, they are the one candidate
pub candidates_of-same : (l : List ℕ) → candidates_of l l ≡ l ∷ []
unfolding candidates_of
candidates_of-same l = rw ((bytes_eq-Decides l l).1 refl) refl

pub length-content_of : (durable live : DiskImage) → length durable ≡ length live →
    length (content_of durable live) ≡ length live
length-content_of [] [] h = refl
length-content_of [] (l ∷ live) h = absurd (omega arith)
length-content_of (d ∷ durable) [] h = absurd (omega arith)
length-content_of (d ∷ durable) (l ∷ live) h = ap suc (length-content_of durable live (omega arith))

pub get_or-content_of : (durable live : DiskImage) (s : ℕ) (e : Sector) → s < length durable → s < length live →
    get_or (content_of durable live) s e ≡ record {
      live = get_or live s [];
      candidates = candidates_of (get_or durable s []) (get_or live s []);
    }
get_or-content_of [] live s e hd hl = absurd (omega arith)
get_or-content_of (d ∷ durable) [] s e hd hl = absurd (omega arith)
get_or-content_of (d ∷ durable) (l ∷ live) zero e hd hl = refl
get_or-content_of (d ∷ durable) (l ∷ live) (suc s) e hd hl =
    get_or-content_of durable live s e (omega arith) (omega arith)

either_length : (d l x : List ℕ) → length d ≡ 512 → length l ≡ 512 → (x ≡ d) ⊎ (x ≡ l) → length x ≡ 512
either_length d l x hd hl (inl e) = ap length e ∙ hd
either_length d l x hd hl (inr e) = ap length e ∙ hl

is_sector : (d l : List ℕ) → length d ≡ 512 → length l ≡ 512 →
    IsSector (record { live = l; candidates = candidates_of d l })
is_sector d l hd hl = record {
  each = λ k e lt.
      either_length d l (get_or (candidates_of d l) k e) hd hl
      (candidates_of-are d l (get_or (candidates_of d l) k e)
      (k, lt, get_or_default (candidates_of d l) k (get_or (candidates_of d l) k e) e lt));
  live = candidates_of-live d l;
}

-- the content of a disk of `blocks` blocks
pub content_of-is : (blocks : ℕ) (durable live : DiskImage) → AreSectors (8 * blocks) durable →
    AreSectors (8 * blocks) live → IsContent blocks (content_of durable live)
content_of-is blocks durable live hd hl = record {
  size = length-content_of durable live (hd.size ∙ sym hl.size) ∙ hl.size;
  sectors = λ k e lt.
      let below : k < length live = omega (arith, length-content_of durable live (hd.size ∙ sym hl.size)) in
      let below_durable : k < length durable = omega (arith, hd.size, hl.size) in
      subst IsSector
      (sym (get_or-content_of durable live k e below_durable below))
      (is_sector (get_or durable k []) (get_or live k []) (hd.whole k [] below_durable) (hl.whole k [] below));
}

-- the content of a disk of `blocks` blocks that keeps only their first sectors
pub content_of_padded : (blocks : ℕ) (durable live : DiskImage) → length durable ≡ length live →
    length live ≤ 8 * blocks → All (λ bytes. length bytes ≡ 512) durable → All (λ bytes. length bytes ≡ 512) live →
    IsContent blocks (content_of (padded (8 * blocks) durable) (padded (8 * blocks) live))
content_of_padded blocks durable live same le hd hl =
    content_of-is blocks (padded (8 * blocks) durable) (padded (8 * blocks) live)
    (padded_whole (8 * blocks) durable (omega arith) hd)
    (padded_whole (8 * blocks) live le hl)
