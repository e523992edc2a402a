-- Moves to the next of a resume's calls.
use Rattle.std.proofs.Common.{◌≡◌, ℕ, zero, suc, drop, ◌+◌, ◌/◌, inl, inr, List, [], ◌∷◌, refl, sym, ap, ◌∙◌, subst, None, Result, Ok, Err, arith}
use Rattle.definitions.specs.Disk.{DiskImage}
use Rattle.definitions.specs.SwapHeader.{taken_back}
use Rattle.image_format.specs.AreaKind.{mark_of}
use Rattle.boot_resume.specs.OnDisk.{header_in, mark_in, map_at, page_at, header_cause, page_cause, content_cause}
use Rattle.boot_resume.specs.Calls.{Turn, asks, asks_with, unless, entry_then, places, handed_from, listed_from, marked_then}
use Rattle.boot_resume.specs.Standing.{Goes, Leads, Listing, Numbered, behind}
use Rattle.boot_resume.specs.Wanted.{Wants}
use Rattle.boot_resume.specs.declared.call.Call.{Call}
use Rattle.boot_resume.specs.declared.call.Call.TheVariants.{Sync, Read, Write, Refused}
use Rattle.boot_resume.specs.declared.cause.Cause.{Cause}
use Rattle.boot_resume.specs.declared.machine.Machine.{Machine}
use Rattle.boot_resume.specs.declared.stage.Move.{Move}
use Rattle.boot_resume.specs.declared.reading.Reading.{Reading}
use Rattle.boot_resume.specs.declared.stage.Stage.{Stage}
use Rattle.boot_resume.specs.declared.stage.Stage.TheVariants as stage
use Rattle.boot_resume.proofs.Counting.{unless_none}

pub goes_as : (m : Machine) (v : DiskImage) (r : Reading) (page : List ℕ) (turns : List Turn) (s s' : Stage) (c c' : Call) → s' ≡ s → c' ≡ c → Goes m v r page turns s c → Goes m v r page turns s' c'
goes_as m v r page turns s s' c c' same_stage same_call goes =
    subst (λ x. Goes m v r page turns x c') (sym same_stage)
    (subst (λ x. Goes m v r page turns s x) (sym same_call) goes)

pub goes_over : (m : Machine) (v : DiskImage) (r : Reading) (page : List ℕ) (turns others : List Turn) (s : Stage) (c : Call) → others ≡ turns → Goes m v r page turns s c → Goes m v r page others s c
goes_over m v r page turns others s c same goes = subst (λ x. Goes m v r page x s c) (sym same) goes

pub leads_over : (m : Machine) (v : DiskImage) (r : Reading) (page : List ℕ) (turns others : List Turn) (result : Result Move Cause) → others ≡ turns → Leads m v r page turns result → Leads m v r page others result
leads_over m v r page turns others result same leads = subst (λ x. Leads m v r page x result) (sym same) leads

pub header_goes : (m : Machine) (v : DiskImage) (r : Reading) (old page : List ℕ) → old ≡ header_in m v → header_cause old ≡ None → r.mark ≡ mark_of old → page ≡ taken_back old → Goes m v r page (marked_then m v) stage.TakeBack (Write m.header)
header_goes m v r old page at sound mark back = record {
  turn = asks_with (Write m.header) (taken_back (header_in m v));
  left = unless_none (header_cause (header_in m v)) _ (ap header_cause (sym at) ∙ sound);
  call = refl;
  fits = back ∙ ap taken_back at;
  knows = mark ∙ ap mark_of at;
}

pub listing_leads : (m : Machine) (v : DiskImage) (r : Reading) (page : List ℕ) (turns : List Turn) (result : Result Move Cause) → Listing m v r → Wants m v r.map r.page (stage.ListMap, stage.ListPage) (unless (content_cause m v r.page) (listed_from m v (r.page + 1))) turns result → Leads m v r page turns result
listing_leads m v r page turns (Ok to) listing (inl w) =
    goes_as m v r page turns stage.ListMap to.stage (Read (map_at m v (r.page / 511))) to.call w.stage w.call
    (record { turn = asks (Read (map_at m v (r.page / 511))); left = w.left; call = refl; fits = tt; knows = (listing, refl) })
listing_leads m v r page turns (Ok to) listing (inr w) =
    goes_as m v r page turns stage.ListPage to.stage (Read (page_at m v r.page)) to.call w.stage w.call
    (record { turn = asks (Read (page_at m v r.page)); left = w.left; call = refl; fits = tt; knows = (listing, (refl, w.has_map)) })
listing_leads m v r page turns (Err why) listing w = w

pub data_leads : (m : Machine) (v : DiskImage) (r : Reading) (page : List ℕ) (turns : List Turn) (result : Result Move Cause) → Numbered m v r → Wants m v r.map r.page (stage.DataMap, stage.DataPage) (places m v r.given ∷ handed_from m v (r.given + 1)) turns result → Leads m v r page turns result
data_leads m v r page turns (Ok to) numbered (inl w) =
    goes_as m v r page turns stage.DataMap to.stage (Read (map_at m v (r.page / 511))) to.call w.stage w.call
    (record { turn = asks (Read (map_at m v (r.page / 511))); left = w.left; call = refl; fits = tt; knows = (numbered, refl) })
data_leads m v r page turns (Ok to) numbered (inr w) =
    goes_as m v r page turns stage.DataPage to.stage (Read (page_at m v r.page)) to.call w.stage w.call
    (record { turn = asks (Read (page_at m v r.page)); left = w.left; call = refl; fits = tt; knows = (numbered, (refl, w.has_map)) })
data_leads m v r page turns (Err why) numbered w = w

-- a page by its map
pub page_goes : (m : Machine) (v : DiskImage) (k : ℕ) (rest : List Turn) → page_cause m v k ≡ None → entry_then m v k rest ≡ asks (Read (page_at m v k)) ∷ rest
page_goes m v k rest sound = unless_none (page_cause m v k) (asks (Read (page_at m v k)) ∷ rest) sound

pub leads_refused : (m : Machine) (v : DiskImage) (r : Reading) (page : List ℕ) (turns : List Turn) (result : Result Move Cause) (why : Cause) → result ≡ Err why → turns ≡ asks (Refused why) ∷ [] → Leads m v r page turns result
leads_refused m v r page turns result why is refused = subst (λ x. Leads m v r page turns x) (sym is) refused

pub first_goes : (m : Machine) (v : DiskImage) (r : Reading) (page : List ℕ) (s : Stage) (x : ℕ) → s ≡ stage.FirstSync → x ≡ m.header → Goes m v r page (behind m v r s) stage.Header (Read x)
first_goes m v r page s x at is = record {
  turn = asks (Read m.header);
  left = ap (behind m v r) at;
  call = ap Read (sym is);
  fits = tt;
  knows = ap Read is;
}

pub back_goes : (m : Machine) (v : DiskImage) (r : Reading) (page : List ℕ) (s : Stage) → s ≡ stage.TakeBack → r.mark ≡ mark_in m v → Goes m v r page (behind m v r s) stage.SettleBack Sync
back_goes m v r page s at mark = record {
  turn = asks Sync;
  left = ap (behind m v r) at;
  call = refl;
  fits = tt;
  knows = mark;
}

drop_next : (k : ℕ) (xs ys : List Turn) (t : Turn) → drop k xs ≡ t ∷ ys → drop (suc k) xs ≡ ys
drop_next zero [] ys t is = cc
drop_next zero (x ∷ xs) ys t is = cc
drop_next (suc k) [] ys t is = cc
drop_next (suc k) (x ∷ xs) ys t is = drop_next k xs ys t is

pub goes_next : (m : Machine) (v : DiskImage) (r r' : Reading) (asked page : List ℕ) (k : ℕ) (turns : List Turn) (s s' : Stage) (c c' : Call) → Goes m v r asked (drop k turns) s c → Goes m v r' page (behind m v r s) s' c' → Goes m v r' page (drop (k + 1) turns) s' c'
goes_next m v r r' asked page k turns s s' c c' before next =
    let on : k + 1 ≡ suc k = omega arith in
    goes_over m v r' page (behind m v r s) (drop (k + 1) turns) s' c'
    (ap (λ i. drop i turns) on ∙ drop_next k turns (behind m v r s) before.turn before.left) next

pub refused_next : (m : Machine) (v : DiskImage) (r r' : Reading) (asked page : List ℕ) (k : ℕ) (turns : List Turn) (s : Stage) (c : Call) (why : Cause) → Goes m v r asked (drop k turns) s c → behind m v r s ≡ asks (Refused why) ∷ [] → Goes m v r' page (drop (k + 1) turns) stage.Ended (Refused why)
refused_next m v r r' asked page k turns s c why before refused =
    let on : k + 1 ≡ suc k = omega arith in
    record {
      turn = asks (Refused why);
      left = ap (λ i. drop i turns) on ∙ drop_next k turns (behind m v r s) before.turn before.left ∙ refused;
      call = refl;
      fits = tt;
      knows = refl;
    }
