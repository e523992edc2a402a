-- The runs of the commands, from their parts.
use Rattle.std.proofs.Common.{◌≡◌, ◌⊎◌, inl, inr, ◌↔◌, ℕ, Bool, true, false, List, [], ◌∷◌, ◌++◌, length-append, ◌+◌, Option, Some, None, Ok, Err, refl, sym, ap, ◌∙◌, subst, arith}
use Rattle.std.specs.Prelude.{IsTrue}
use Rattle.std.proofs.lemmas.Bool.{false≢true}
use Rattle.std.proofs.lemmas.List.{map-append}
use Rattle.protocol_laws.specs.Rows.{TellsNewFault}
use Rattle.std.specs.Option.{IfSome}
use Rattle.page_core.specs.declared.format.Format.{Format}
use Rattle.definitions.specs.Disk as disk
use Rattle.definitions.proofs.DiskLaws.{IsImage-settled}
use Rattle.plain_machine.specs.State.{off}
use Rattle.plain_machine.specs.declared.event.Actor.TheVariants as actor
use Rattle.plain_machine.specs.declared.event.BootFrom.TheVariants.{Kept}
use Rattle.plain_machine.specs.declared.event.Event.{Event}
use Rattle.plain_machine.specs.declared.event.Event.TheVariants as event
use Rattle.plain_machine.specs.declared.event.IdentCheck.{IdentCheck}
use Rattle.plain_machine.specs.declared.event.Loader.TheVariants.{Table}
use Rattle.plain_machine.specs.declared.reply.Reply.{Reply}
use Rattle.sector_disk.specs.declared.disk.Disk.{Ghosts}
use Rattle.world_core.specs.StandsFor.{IsNewWorld, hardware_of, shown}
use Rattle.world_core.specs.World.{World}
use Rattle.command_core.specs.Played.{Played, situation_of}
use Rattle.command_core.specs.Turns.{Situation}
use Rattle.command_core.proofs.Playing.{played_none, played_then}
use Rattle.command_core.specs.Runs.{goes_on, held_at_first, is_booted}
use Rattle.command_core.specs.Parts.{Boots, Finishes, GoesOn, Starts}
use Rattle.command_core.specs.Runs.{GoOn, HasNewFault, IsHibernation, IsReady, IsResumption, Ran, boot_events, core_steps, last_reply}
use Rattle.command_core.specs.declared.ending.Ended.{Ended}
use Rattle.command_core.proofs.Beginning.{new_stands}

-- Steps, and one more.

last_more : (r : Reply) (rest : List Reply) (s : Reply) → last_reply r (rest ++ s ∷ []) ≡ s
last_more r [] s = refl
last_more r (q ∷ rest) s = last_more q rest s

goes_more : (r : Reply) (rest : List Reply) (s : Reply) → GoOn r rest → goes_on (last_reply r rest) ≡ true → GoOn r (rest ++ s ∷ [])
goes_more r [] s goes last = (last, tt)
goes_more r (q ∷ rest) s (first, goes) last = (first, goes_more q rest s goes last)

abbrev core_step : Reply → Event
core_step r = event.Step actor.Core

fault_first : (r : Reply) (rest : List Reply) → HasNewFault rest → HasNewFault (rest ++ r ∷ [])
fault_first r [] is = absurd is
fault_first r (q ∷ rest) (inl here) = inl here
fault_first r (q ∷ rest) (inr later) = inr (fault_first r rest later)

fault_last : (r : Reply) (rest : List Reply) → TellsNewFault r → HasNewFault (rest ++ r ∷ [])
fault_last r [] is = inl is
fault_last r (q ∷ rest) is = inr (fault_last r rest is)

fault_either : (r : Reply) (rest : List Reply) → HasNewFault (rest ++ r ∷ []) → HasNewFault rest ⊎ TellsNewFault r
fault_either r [] (inl is) = inr is
fault_either r [] (inr none) = absurd none
fault_either r (q ∷ rest) (inl here) = inl (inl here)
fault_either r (q ∷ rest) (inr later) = elim (fault_either r rest later) [ inl first ↦ inl (inr first) | inr last ↦ inr last ]

pub goes_first : {X : Type 0} (D : Ghosts X) (w : World) (begun : Reply) (x : X) → GoesOn D w w begun begun false x x
goes_first D w begun x = ([], record { last_is = refl; goes = tt; failed_is = (λ is. false≢true is, λ none. absurd none) }, played_none D w x)

pub goes_then : {X : Type 0} (D : Ghosts X) (old mid new : World) (begun last r : Reply) (failed now : Bool) (x y z : X) →
    GoesOn D old mid begun last failed x y → goes_on last ≡ true → (failed ≡ true → now ≡ true) → (TellsNewFault r → now ≡ true) → (now ≡ true → (failed ≡ true) ⊎ TellsNewFault r) →
    Played D mid new (event.Step actor.Core ∷ []) (r ∷ []) y z → GoesOn D old new begun r now x z
goes_then D old mid new begun last r failed now x y z (rest, stepped, so_far) goes noted noticed no_other one = (
  rest ++ r ∷ [],
  record {
    last_is = last_more begun rest r;
    goes = goes_more begun rest r stepped.goes (ap goes_on stepped.last_is ∙ goes);
    failed_is = (
      λ is. elim (no_other is) [ inl before ↦ fault_first r rest (stepped.failed_is.0 before) | inr new' ↦ fault_last r rest new' ],
      λ has. elim (fault_either r rest has) [ inl before ↦ noted (stepped.failed_is.1 before) | inr new' ↦ noticed new' ],
    );
  },
  subst (λ (es : List Event). Played D old new es (rest ++ r ∷ []) x z) (sym (map-append core_step rest (r ∷ [])))
      (played_then D old mid new (core_steps rest) (event.Step actor.Core ∷ []) rest (r ∷ []) x y z so_far one),
)

pub finishes : {X : Type 0} (D : Ghosts X) (old new : World) (begun : Reply) (ended : Ended) (x y : X) →
    GoesOn D old new begun ended.reply ended.failed x y → goes_on ended.reply ≡ false → Finishes D old new begun ended x y
finishes D old new begun ended x y (rest, stepped, played) over =
    (rest, record { last_is = stepped.last_is; goes = stepped.goes; over = over; failed = stepped.failed_is }, played)

-- A boot, by how it ends.

pub boots_unsynced : {X : Type 0} (D : Ghosts X) (old one two : World) (begun r : Reply) (ended : Ended) (x y z : X) → ended.reply ≡ r → (ended.failed ≡ true) ↔ TellsNewFault r → goes_on r ≡ false →
    Played D old one (event.Boot Kept ∷ []) (begun ∷ []) x y → Played D one two (event.Step actor.Core ∷ []) (r ∷ []) y z → Boots D old two (Err ended) x z
boots_unsynced D old one two begun r ended x y z is failed stops first second =
    let replies = begun ∷ ended.reply ∷ [] in (
      event.Boot Kept ∷ event.Step actor.Core ∷ [],
      replies,
      inl (record { begun = begun; stops = ap goes_on is ∙ stops; failed = subst (λ (q : Reply). (ended.failed ≡ true) ↔ TellsNewFault q) (sym is) failed; events_are = refl; replies_are = refl }),
      subst (λ (q : Reply). Played D old two (event.Boot Kept ∷ event.Step actor.Core ∷ []) (begun ∷ q ∷ []) x z) (sym is)
          (played_then D old one two (event.Boot Kept ∷ []) (event.Step actor.Core ∷ []) (begun ∷ []) (r ∷ []) x y z first second),
    )

played_boot : {X : Type 0} (D : Ghosts X) (old one two three : World) (begun synced r : Reply) (x y z u : X) →
    Played D old one (event.Boot Kept ∷ []) (begun ∷ []) x y → Played D one two (event.Step actor.Core ∷ []) (synced ∷ []) y z →
    Played D two three (event.Step actor.Core ∷ []) (r ∷ []) z u → Played D old three boot_events (begun ∷ synced ∷ r ∷ []) x u
played_boot D old one two three begun synced r x y z u first second third =
    played_then D old one three (event.Boot Kept ∷ []) (event.Step actor.Core ∷ event.Step actor.Core ∷ []) (begun ∷ []) (synced ∷ r ∷ []) x y u first
    (played_then D one two three (event.Step actor.Core ∷ []) (event.Step actor.Core ∷ []) (synced ∷ []) (r ∷ []) y z u second third)

pub boots_unread : {X : Type 0} (D : Ghosts X) (old one two three : World) (begun synced r : Reply) (ended : Ended) (x y z u : X) → ended.reply ≡ r → (ended.failed ≡ true) ↔ TellsNewFault r →
    goes_on synced ≡ true → is_booted r ≡ false → Played D old one (event.Boot Kept ∷ []) (begun ∷ []) x y →
    Played D one two (event.Step actor.Core ∷ []) (synced ∷ []) y z → Played D two three (event.Step actor.Core ∷ []) (r ∷ []) z u → Boots D old three (Err ended) x u
boots_unread D old one two three begun synced r ended x y z u is failed goes stops first second third = (
  boot_events,
  begun ∷ synced ∷ ended.reply ∷ [],
  inr (record { begun = begun; synced = synced; goes = goes; stops = ap is_booted is ∙ stops; failed = subst (λ (q : Reply). (ended.failed ≡ true) ↔ TellsNewFault q) (sym is) failed; events_are = refl; replies_are = refl }),
  subst (λ (q : Reply). Played D old three boot_events (begun ∷ synced ∷ q ∷ []) x u) (sym is) (played_boot D old one two three begun synced r x y z u first second third),
)

pub boots_up : {X : Type 0} (D : Ghosts X) (old one two three : World) (begun synced r : Reply) (x y z u : X) →
    goes_on synced ≡ true → is_booted r ≡ true → Played D old one (event.Boot Kept ∷ []) (begun ∷ []) x y →
    Played D one two (event.Step actor.Core ∷ []) (synced ∷ []) y z → Played D two three (event.Step actor.Core ∷ []) (r ∷ []) z u → Boots D old three (Ok tt) x u
boots_up D old one two three begun synced r x y z u goes boots first second third = (
  boot_events,
  begun ∷ synced ∷ r ∷ [],
  record { begun = begun; synced = synced; booted = r; shrunk = []; goes = goes; boots = boots; sizes = refl; events_are = refl; replies_are = refl },
  played_boot D old one two three begun synced r x y z u first second third,
)

-- Then what is cached is dropped.

ready_shrunk : (want : ℕ) (r : Reply) (events : List Event) (replies : List Reply) → IsReady None events replies →
    IsReady (Some want) (events ++ event.Shrink want ∷ []) (replies ++ r ∷ [])
ready_shrunk want r events replies is = record {
  begun = is.begun;
  synced = is.synced;
  booted = is.booted;
  shrunk = is.shrunk ++ r ∷ [];
  goes = is.goes;
  boots = is.boots;
  sizes = length-append is.shrunk (r ∷ []) ∙ ap (λ (n : ℕ). n + 1) is.sizes;
  events_are = ap (λ (es : List Event). es ++ event.Shrink want ∷ []) is.events_are;
  replies_are = ap (λ (rs : List Reply). rs ++ r ∷ []) is.replies_are;
}

pub starts_shrunk : {X : Type 0} (D : Ghosts X) (old mid new : World) (want : ℕ) (r : Reply) (x y z : X) → Boots D old mid (Ok tt) x y →
    Played D mid new (event.Shrink want ∷ []) (r ∷ []) y z → Starts D (Some want) old new (Ok tt) x z
starts_shrunk D old mid new want r x y z (events, replies, ready, booted) one = (
  events ++ event.Shrink want ∷ [],
  replies ++ r ∷ [],
  ready_shrunk want r events replies ready,
  played_then D old mid new events (event.Shrink want ∷ []) replies (r ∷ []) x y z booted one,
)

-- A whole run over a disk with one image, from a new world.

told_whole : (blocks : ℕ) (told : Option disk.Content) (c : disk.Content) → told ≡ Some c → IfSome told (disk.IsContent blocks) → disk.IsContent blocks c
told_whole blocks told c e is = subst (λ (o : Option disk.Content). IfSome o (disk.IsContent blocks)) e is

pub only_one : (told : Option disk.Content) (v w : disk.DiskImage) → told ≡ Some (disk.settled v) → IfSome told (λ c. disk.IsImage c w) → w ≡ v
only_one told v w is image = IsImage-settled v w (subst (λ (o : Option disk.Content). IfSome o (λ c. disk.IsImage c w)) is image)

pub ran : {X : Type 0} (D : Ghosts X) (old new : World) (events : List Event) (replies : List Reply) (x y : X) → IsNewWorld (hardware_of old) (Some old.frames) old →
    IfSome (D.content x) (disk.IsContent (D.block_count x)) → ((v w : disk.DiskImage) → D.content x ≡ Some (disk.settled v) → IsTrue (D.tells_moments x) → D.left_since x (D.moment x) w → w ≡ v) →
    Played D old new events replies x y → Ran D (hardware_of old) old.frames events replies (shown new) x y
ran D old new events replies x y fresh whole only played = record {
  calls = played.calls;
  faults = played.faults;
  over = λ v told original.
      let h = hardware_of old in
      let m = old.frames in
      let a = off (held_at_first h v) (Some m) in
      let stands = new_stands h m old v fresh original in
      let leads = played.leads (disk.settled v) a told stands in
      record {
        first = situation_of old (disk.settled v) a;
        state = refl;
        content = refl;
        stands = stands.stands;
        whole = (D.block_count x, told_whole (D.block_count x) (D.content x) (disk.settled v) told whole);
        through = leads.through;
        turns = leads.turns;
        told = leads.told ∙ ap (λ (p : Situation). Some p.content) (sym leads.ends);
        shown_is = ap (λ (p : Situation). p.shown) leads.ends;
        later = λ tells. (leads.time tells).later;
        inside = λ tells w left. elim ((leads.time tells).nothing_else (D.moment x) w (omega arith) left) [
          | inl was ↦ inl (only v w told tells was)
          | inr inside ↦ inr inside
        ];
      };
}

-- The commands.

pub asked : {X : Type 0} (D : Ghosts X) (f : Format) (size : Option ℕ) (old started begun new : World) (b : Reply) (ended : Ended) (x y z u : X) →
    Starts D size old started (Ok tt) x y → Played D started begun (event.Hibernate f ∷ []) (b ∷ []) y z → Finishes D begun new b ended z u →
    (events : List Event) × (replies : List Reply) × IsHibernation f size ended events replies × Played D old new events replies x u
asked D f size old started begun new b ended x y z u (front, first, ready, so_far) one (rest, stepped, finished) =
    let then = event.Hibernate f ∷ core_steps rest in (
      front ++ then,
      first ++ b ∷ rest,
      inr (record { front = front; first = first; ready = ready; begun = b; rest = rest; stepped = stepped; events_are = refl; replies_are = refl }),
      played_then D old started new front then first (b ∷ rest) x y u so_far
          (played_then D started begun new (event.Hibernate f ∷ []) (core_steps rest) (b ∷ []) rest y z u one finished),
    )

pub resumed : {X : Type 0} (D : Ghosts X) (check : IdentCheck) (old begun new : World) (b : Reply) (ended : Ended) (x y z : X) →
    Played D old begun (event.Resume Table check ∷ []) (b ∷ []) x y → Finishes D begun new b ended y z →
    (events : List Event) × (replies : List Reply) × IsResumption check ended events replies × Played D old new events replies x z
resumed D check old begun new b ended x y z one (rest, stepped, finished) = (
  event.Resume Table check ∷ core_steps rest,
  b ∷ rest,
  record { begun = b; rest = rest; stepped = stepped; events_are = refl; replies_are = refl },
  played_then D old begun new (event.Resume Table check ∷ []) (core_steps rest) (b ∷ []) rest x y z one finished,
)
