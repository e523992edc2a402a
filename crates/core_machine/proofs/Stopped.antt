-- What is made of a core file, and why nothing is.
use Rattle.std.proofs.Common.{◌≡◌, ◌≤◌, ℕ, List, [], ◌∷◌, length, Option, Some, None, refl, sym, ap, subst, ◌∙◌}
use Rattle.definitions.specs.declared.info.Ident.{Ident}
use Rattle.core_machine.specs.Faults.{wanted}
use Rattle.core_machine.specs.Heads.{segments_in}
use Rattle.core_machine.specs.Notes.{head_end, head_fault, ident_in}
use Rattle.core_machine.specs.Pages.{core_fault, places_end}
use Rattle.core_machine.specs.Reading.{Stops}
use Rattle.core_machine.specs.declared.segments.fault.Stop.{Stop as CoreStop}
use Rattle.core_machine.specs.declared.segments.fault.Stop.TheVariants as core
use Rattle.core_machine.specs.declared.segments.segment.Segment.{Segment}
use Rattle.core_machine.proofs.Faults.{or_else-none, or_else-some, wanted-there}
use Rattle.image_machine.specs.Layouts.{zones_of, zones_or_one}
use Rattle.image_machine.specs.Limits.{PassesAtOnce, StopsAtOnce}
use Rattle.image_machine.specs.Machines.{IsMachineFor, PassesWith}
use Rattle.image_machine.specs.declared.heading.Heading.{Heading}
use Rattle.image_machine.specs.declared.heading.Layout.{Layout}
use Rattle.image_machine.specs.declared.limit.Limit.{Limit}
use Rattle.image_machine.specs.declared.limit.Stop.{Stop as MachineStop}
use Rattle.image_machine.specs.declared.limit.Stop.TheVariants as machine
use Rattle.machine.specs.declared.dump.Dump.{Dump}
use Rattle.core_machine.specs.Made.{HasLimit, IsOfCore, IsPlain, LacksMachine, at_last, at_once, frames_in, heading_in, heading_of, saved_in, saved_of}
use Rattle.core_machine.specs.Stops.{StopsIn, core_stop, machine_stop}
use Rattle.core_machine.specs.declared.stop.Stop.{Stop}
use Rattle.core_machine.specs.declared.stop.Stop.TheVariants as stop

pub lacks_head : (bytes : List ℕ) (slots : Option ℕ) (why : CoreStop) → Stops (head_fault bytes) why → LacksMachine bytes slots (core_stop why)
unfolding core_fault
lacks_head bytes slots (core.Fault f) h = or_else-some (head_fault bytes) (wanted bytes (places_end (head_end bytes) (segments_in bytes))) f h
lacks_head bytes slots core.Source h = tt
lacks_head bytes slots core.Memory h = tt

pub lacks_bytes : (bytes : List ℕ) (slots : Option ℕ) (end : ℕ) (why : Stop) → head_fault bytes ≡ None → end ≡ places_end (head_end bytes) (segments_in bytes) →
    StopsIn (wanted bytes end) why → LacksMachine bytes slots why
unfolding core_fault
lacks_bytes bytes slots end (stop.Core f) none e h =
    or_else-none (head_fault bytes) (wanted bytes (places_end (head_end bytes) (segments_in bytes))) none ∙ ap (wanted bytes) (sym e) ∙ h
lacks_bytes bytes slots end (stop.Limit limit) none e h = absurd h
lacks_bytes bytes slots end stop.Source none e h = tt
lacks_bytes bytes slots end stop.Memory none e h = tt

pub core_right : (bytes : List ℕ) (end : ℕ) → head_fault bytes ≡ None → end ≡ places_end (head_end bytes) (segments_in bytes) → end ≤ length bytes → core_fault bytes ≡ None
unfolding core_fault
core_right bytes end none e le =
    or_else-none (head_fault bytes) (wanted bytes (places_end (head_end bytes) (segments_in bytes))) none ∙ ap (wanted bytes) (sym e) ∙ wanted-there bytes end le

pub heading_is : (bytes : List ℕ) (slots : Option ℕ) (heading : Heading) (ident : Ident) (frames : ℕ) (segments : List Segment) → heading ≡ heading_of ident frames slots →
    ident ≡ ident_in bytes → frames ≡ frames_in segments → segments ≡ segments_in bytes → heading ≡ heading_in bytes slots
heading_is bytes slots heading ident frames segments is ident_is frames_is segments_is =
    is ∙ ap (λ (i : Ident). heading_of i frames slots) ident_is
    ∙ ap (λ (n : ℕ). heading_of (ident_in bytes) n slots) (frames_is ∙ ap frames_in segments_is)

pub end_is : (bytes : List ℕ) (place : ℕ) (segments : List Segment) → place ≡ head_end bytes → segments ≡ segments_in bytes →
    places_end place segments ≡ places_end (head_end bytes) (segments_in bytes)
end_is bytes place segments place_is segments_is =
    ap (λ (k : ℕ). places_end k segments) place_is ∙ ap (places_end (head_end bytes)) segments_is

pub lacks_at_once : (bytes : List ℕ) (slots : Option ℕ) (layout : Layout) (heading : Heading) (why : MachineStop) → IsPlain layout → head_fault bytes ≡ None →
    heading ≡ heading_in bytes slots → StopsAtOnce heading layout why → LacksMachine bytes slots (machine_stop why)
lacks_at_once bytes slots layout heading (machine.Limit limit) plain none is h =
    at_once layout plain none (subst (λ (x : Heading). PassesAtOnce x layout limit) is h)
lacks_at_once bytes slots layout heading machine.Memory plain none is h = tt

pub lacks_at_last : (bytes : List ℕ) (slots : Option ℕ) (layout : Layout) (heading : Heading) (segments : List Segment) (saved : List (ℕ × List ℕ)) (limit : Limit) →
    IsPlain layout → core_fault bytes ≡ None → heading ≡ heading_in bytes slots → saved ≡ saved_of bytes segments → segments ≡ segments_in bytes →
    PassesWith heading layout None saved limit → HasLimit bytes slots limit
lacks_at_last bytes slots layout heading segments saved limit plain none is saved_is segments_is h =
    at_last layout plain none
    (subst (λ (xs : List (ℕ × List ℕ)). PassesWith (heading_in bytes slots) layout None xs limit) (saved_is ∙ ap (saved_of bytes) segments_is)
    (subst (λ (x : Heading). PassesWith x layout None saved limit) is h))

pub made : (bytes : List ℕ) (slots : Option ℕ) (layout : Layout) (heading : Heading) (segments : List Segment) (saved : List (ℕ × List ℕ)) (dump : Dump) →
    IsPlain layout → core_fault bytes ≡ None → heading ≡ heading_in bytes slots → saved ≡ saved_of bytes segments → segments ≡ segments_in bytes →
    IsMachineFor heading layout None saved dump.hw dump.frames → IsOfCore bytes slots dump
made bytes slots layout heading segments saved dump plain none is saved_is segments_is h = record {
  no_fault = none;
  layout = layout;
  plain = plain;
  machine =
      subst (λ (xs : List (ℕ × List ℕ)). IsMachineFor (heading_in bytes slots) layout None xs dump.hw dump.frames) (saved_is ∙ ap (saved_of bytes) segments_is)
      (subst (λ (x : Heading). IsMachineFor x layout None saved dump.hw dump.frames) is h);
}

pub one_zone : (zones : List (ℕ × ℕ)) (heading : Heading) (layout : Layout) (ident : Ident) (frames : ℕ) (slots : Option ℕ) → zones ≡ zones_of heading layout →
    heading ≡ heading_of ident frames slots → IsPlain layout → zones ≡ (0, frames) ∷ []
one_zone zones heading layout ident frames slots is heading_is plain =
    is ∙ ap (λ (zs : List (ℕ × ℕ)). zones_or_one zs heading.physpages) plain.zones ∙ ap (λ (h : Heading). (0, h.physpages) ∷ []) heading_is
