-- The pages that a resume's calls hand out are the image's, in order.
use Rattle.std.proofs.Common.{◌≡◌, ℕ, zero, suc, ◌+◌, ◌-◌, ◌%◌, ◌/◌, List, [], ◌∷◌, Bool, true, false, cond, eqb, map, refl, sym, ap, subst, Option, Some, None, arith}
use Rattle.std.specs.List.{range_with_len}
use Rattle.definitions.specs.Disk.{DiskImage}
use Rattle.definitions.specs.SwapHeader.{taken_back}
use Rattle.boot_resume.specs.OnDisk.{content_cause, data_place, has_no_data, hardware_cause, header_cause, header_in, map_at, map_cause, mark_in, meta_in, number_cause, number_in, page_at, page_cause, saved_in, saved_page}
use Rattle.boot_resume.specs.Calls.{Turn, again_then, asks, asks_with, calls, data_then, entry_then, handed_from, handing, listed_from, listing, map_then, page_then, places, settled_then, unless}
use Rattle.boot_resume.specs.HandedOut.{Placed, Places, saved_frames}
use Rattle.boot_resume.specs.declared.call.Call.TheVariants.{Read, Write, Refused}
use Rattle.boot_resume.specs.declared.cause.Cause.{Cause}
use Rattle.boot_resume.specs.declared.machine.Machine.{Machine}

-- no page
gives_none : (why : Cause) (frames : List Placed) → Places (asks (Refused why) ∷ []) frames
gives_none why frames = record { rest = frames; front = refl; all = λ over. cc }

gives_unless : (fault : Option Cause) (turns : List Turn) (frames : List Placed) → Places turns frames → Places (unless fault turns) frames
gives_unless None turns frames g = g
gives_unless (Some why) turns frames g = gives_none why frames

gives_read : (b : ℕ) (turns : List Turn) (frames : List Placed) → Places turns frames → Places (asks (Read b) ∷ turns) frames
gives_read b turns frames g = record { rest = g.rest; front = g.front; all = g.all }

gives_either : (b : Bool) (xs ys : List Turn) (frames : List Placed) → Places xs frames → Places ys frames → Places (cond b xs ys) frames
gives_either true xs ys frames g h = g
gives_either false xs ys frames g h = h

module _ (m : Machine) (v : DiskImage) where
  gives_map : (j : ℕ) (turns : List Turn) (frames : List Placed) → Places turns frames → Places (map_then m v j turns) frames
  gives_map j turns frames g = gives_unless (map_cause m v j) _ frames (gives_read (map_at m v j) turns frames g)

  gives_entry : (k : ℕ) (turns : List Turn) (frames : List Placed) → Places turns frames → Places (entry_then m v k turns) frames
  gives_entry k turns frames g = gives_unless (page_cause m v k) _ frames (gives_read (page_at m v k) turns frames g)

  gives_page : (k : ℕ) (turns : List Turn) (frames : List Placed) → Places turns frames → Places (page_then m v k turns) frames
  gives_page k turns frames g =
      let entry = gives_entry k turns frames g in
      gives_either (eqb (k % 511) 0) (map_then m v (k / 511) (entry_then m v k turns)) (entry_then m v k turns) frames
      (gives_map (k / 511) (entry_then m v k turns) frames entry) entry

  gives_again : (i : ℕ) (turns : List Turn) (frames : List Placed) → Places turns frames → Places (again_then m v i turns) frames
  gives_again i turns frames g =
      gives_either (eqb (i % 512) 0) (map_then m v ((1 + i / 512) / 511) (entry_then m v (1 + i / 512) turns)) turns frames
      (gives_map ((1 + i / 512) / 511) (entry_then m v (1 + i / 512) turns) frames (gives_entry (1 + i / 512) turns frames g)) g

  gives_data : (i : ℕ) (turns : List Turn) (frames : List Placed) → Places turns frames → Places (data_then m v i turns) frames
  gives_data i turns frames g =
      gives_either (has_no_data m v i) turns (page_then m v (data_place m v i) turns) frames g (gives_page (data_place m v i) turns frames g)

  gives_place : (i : ℕ) (turns : List Turn) (frames : List Placed) → Places turns frames → Places (places m v i ∷ turns) ((number_in m v i, saved_page m v i) ∷ frames)
  gives_place i turns frames g = record {
    rest = g.rest;
    front = ap (λ (x : List Placed). (number_in m v i, saved_page m v i) ∷ x) g.front;
    all = λ over. ap (λ (x : List Placed). (number_in m v i, saved_page m v i) ∷ x) (g.all over);
  }

  gives_handing : (i more : ℕ) → Places (handing m v i more) (map (λ j. (number_in m v j, saved_page m v j)) (range_with_len i more))
  unfolding handing
  gives_handing i zero = record { rest = []; front = refl; all = λ over. refl }
  gives_handing i (suc more) =
      let frames : List Placed = (number_in m v i, saved_page m v i) ∷ map (λ j. (number_in m v j, saved_page m v j)) (range_with_len (i + 1) more) in
      let later = gives_place i (handing m v (i + 1) more) _ (gives_handing (i + 1) more) in
      gives_again i _ frames (gives_unless (number_cause m v i) _ frames (gives_data i _ frames later))

  gives_handed : Places (handed_from m v 0) (saved_frames m v)
  gives_handed =
      let all : saved_in m v - 0 ≡ saved_in m v = omega arith in
      subst (λ n. Places (handing m v 0 n) (saved_frames m v)) (sym all) (gives_handing 0 (saved_in m v))

  gives_listing : (k more : ℕ) → Places (listing m v k more) (saved_frames m v)
  unfolding listing
  gives_listing k zero = gives_handed
  gives_listing k (suc more) = gives_page k _ (saved_frames m v) (gives_unless (content_cause m v k) _ (saved_frames m v) (gives_listing (k + 1) more))

  pub calls_place : Places (calls m v) (saved_frames m v)
  calls_place =
      let frames : List Placed = saved_frames m v in
      let listed = gives_listing 0 (meta_in m v + 1 - 0) in
      let settled = gives_unless (hardware_cause m (mark_in m v)) (listed_from m v 0) (saved_frames m v) listed in
      let written : Places (asks_with (Write m.header) (taken_back (header_in m v)) ∷ settled_then m v) (saved_frames m v) =
      record { rest = settled.rest; front = settled.front; all = settled.all } in
      let marked = gives_unless (header_cause (header_in m v)) (asks_with (Write m.header) (taken_back (header_in m v)) ∷ settled_then m v) (saved_frames m v) written in
      record { rest = marked.rest; front = marked.front; all = marked.all }
