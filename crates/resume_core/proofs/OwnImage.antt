-- The pages of the image that was found, as they are shown.
use Rattle.std.proofs.Common.{◌≡◌, ◌≤◌, ℕ, ◌+◌, List, [], ◌∷◌, take, length, None, refl, sym, ap, ◌∙◌, subst, arith}
use Rattle.std.specs.List.{zip}
use Rattle.std.proofs.lemmas.List.{length-map}
use Rattle.std.proofs.lemmas.List.FromFn.{length-map-range_with_len}
use Rattle.definitions.specs.Disk as disk
use Rattle.plain_machine.specs.Machine.{Hardware}
use Rattle.plain_machine.specs.Chain.{Holds}
use Rattle.plain_machine.specs.Image.{Image, with_data}
use Rattle.plain_machine.specs.Stands.{data_read, data_read_in, IsOwn}
use Rattle.plain_machine.specs.State.{found_other, Load as Resume}
use Rattle.plain_machine.specs.Trace.{d_in, data_frames, data_page, data_pages}
use Rattle.image_laws.specs.Decoding.{IsSayable}
use Rattle.image_read.specs.Stream.{pages_read, told}
use Rattle.protocol_laws.specs.LoadRows.{IsFoundOn}
use Rattle.restore_laws.specs.DataPages.{data_before}
use Rattle.restore_laws.proofs.DataPlaces.{data_count, none_before}
use Rattle.restore_laws.proofs.OwnPages.{own_read, own_frames, own_pages}

-- before the last number page no page with data is read
pub none_read_yet : (h : Hardware) (v : disk.DiskImage) (i : Image) (t : ℕ) → Holds h v i → IsOwn h v i → IsSayable i → told h v (pages_read t) ≡ None → data_read i (4 + t) ≡ 0
none_read_yet h v i t holds own sayable none = own_read h v i t holds sayable ∙ none_before h v t none

zip_take : (xs : List ℕ) (ys : List (List ℕ)) → zip xs ys ≡ zip (take (length ys) xs) ys
zip_take [] [] = refl
zip_take [] (y ∷ ys) = refl
zip_take (x ∷ xs) [] = refl
zip_take (x ∷ xs) (y ∷ ys) = ap (λ (zs : List (ℕ × List ℕ)). (x, y) ∷ zs) (zip_take xs ys)

-- after it the pages read are the image's first ones with data
pub pages_are : (h : Hardware) (v : disk.DiskImage) (i : Image) (t m : ℕ) → Holds h v i → IsSayable i → m ≡ data_before h v t → m ≤ length (data_frames h v) → zip (data_frames h v) (data_pages h v m) ≡ take (data_read i (4 + t)) (with_data i)
pages_are h v i t m holds sayable is few =
    let count = ap length (own_frames h v i holds sayable) ∙ length-map (with_data i) (λ (saved : ℕ × List ℕ). saved.0) in
    zip_take (data_frames h v) (data_pages h v m) ∙ ap (λ (n : ℕ). zip (take n (data_frames h v)) (data_pages h v m)) (length-map-range_with_len (data_page h v) 0 m)
    ∙ own_pages h v i m holds sayable (omega arith) ∙ ap (λ (n : ℕ). take n (with_data i)) (is ∙ sym (own_read h v i t holds sayable))

-- and those of another's on the disk w are the disk's first ones
pub other_pages : (h : Hardware) (v w : disk.DiskImage) (l : Resume) (t k : ℕ) → 4 + t ≡ k → IsFoundOn h v l.found → l.found ≡ found_other w → zip (data_frames h v) (data_pages h v (data_before h v t)) ≡ zip (data_frames h w) (data_pages h w (data_read_in h w k))
other_pages h v w l t k is found other =
    let same : v ≡ w = subst (IsFoundOn h v) other found in
    let count : data_before h v t ≡ data_read_in h v k = omega arith in
    ap (λ (m : ℕ). zip (data_frames h v) (data_pages h v m)) count ∙ ap (λ (u : disk.DiskImage). zip (data_frames h u) (data_pages h u (data_read_in h u k))) same

-- how many pages have data
pub count_is : (h : Hardware) (v : disk.DiskImage) → d_in h v ≡ length (data_frames h v)
count_is h v = sym (data_count h v)
