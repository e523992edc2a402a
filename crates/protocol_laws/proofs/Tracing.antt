-- The trace over a disk that holds an own image.
use Rattle.std.proofs.Common.{◌≡◌, ◌≢◌, ℕ, ◌+◌, ◌-◌, ◌/◌, ◌%◌, ◌<◌, ◌≤◌, ◌⊎◌, inl, inr, zero, suc, Bool, true, false, cond, eqb, ltb, not, ◌&&◌, max, List, length, map, Option, Some, None, unwrap_or, is_none, refl, sym, ap, ap₂, ◌∙◌, arith}
use Rattle.std.specs.List.{range_with_len}
use Rattle.std.proofs.lemmas.Bool.{cases_eq, cases_lt, cases_Bool, eq-eqb, ne_eqb, cond-true, cond-false, leb-true, leb-false, lt-ltb, ltb-true, ltb-false}
use Rattle.definitions.specs.Disk as disk
use Rattle.definitions.specs.NumberPages.{meta_of}
use Rattle.definitions.specs.Zones.{top}
use Rattle.definitions.specs.declared.info.Info.{Info}
use Rattle.definitions.proofs.ZoneNumbers.{count_at_most, top_at_most}
use Rattle.plain_machine.specs.Machine.{Hardware, Memory, tables_fault}
use Rattle.plain_machine.specs.Chain.{or_else}
use Rattle.plain_machine.specs.Image.{Image, n_of, d_of, pages_of, maps_read, resume_steps}
use Rattle.plain_machine.specs.Loader.{left_free, need, restored, restored_page}
use Rattle.plain_machine.specs.State.{Load, loading}
use Rattle.plain_machine.specs.Step.{Outcome, has_room, too_few, resumed}
use Rattle.plain_machine.specs.Trace.{info_in, meta_in, d_in, image_in, map_at, page_at, place, place_count, place_cause, read_cause, want_cause, room_cause, tables_cause, restored_in, next_cause, cause_at, step_count, last_reply}
use Rattle.plain_machine.specs.UsableArea.{dump_area_fault}
use Rattle.plain_machine.specs.declared.no_swap.NoSwap.{NoSwap}
use Rattle.plain_machine.specs.declared.event.Loader.{Loader}
use Rattle.plain_machine.specs.declared.event.Loader.TheVariants.{Ranges, Table}
use Rattle.plain_machine.specs.declared.reply.Reply.{Reply}
use Rattle.plain_machine.specs.declared.reply.Reply.TheVariants as reply
use Rattle.image_laws.proofs.Decoding.{meta_is, decodes}
use Rattle.protocol_laws.specs.OwnTrace.{own_reply, Comes, TracesOwn}
use Rattle.protocol_laws.specs.TraceAt.{reply_past, reply_at}
use Rattle.protocol_laws.proofs.OwnCauses.{IsOwnDisk, info_is, some_saved, few_saved, both_none, own_sayable}
use Rattle.protocol_laws.proofs.OwnChain.{no_header_cause, no_taken_back_cause, no_place_cause}
use Rattle.protocol_laws.proofs.OwnNumbers.{d_is, no_read_cause}
use Rattle.protocol_laws.proofs.Restored.{restored_fits, fits_no_fault, restored_area}
use Rattle.protocol_laws.proofs.TraceAt.{past_more, past_last, first_reply, traces_at}

-- Sizes.

abbrev pub meta : Image → ℕ
meta i = meta_of (n_of i)

record AreFew (i : Image) : Type 0 where
  some : 1 ≤ n_of i
  few : n_of i ≤ 65536

are_few : (h : Hardware) (v : disk.DiskImage) (i : Image) → IsOwnDisk h v i → AreFew i
are_few h v i is =
    let few = few_saved h v i is in
    let all = count_at_most h.zones is.hardware.zones in
    let most = top_at_most h.zones is.hardware.zones in
    record { some = some_saved h v i is; few = omega arith }

max_pages : (i : Image) → max (pages_of i) 1 ≡ pages_of i
max_pages i = omega arith

pub count_is : (h : Hardware) (v : disk.DiskImage) (i : Image) → IsOwnDisk h v i → place_count (info_in h v).pages ≡ maps_read (pages_of i) + pages_of i
count_is h v i is = ap (λ (x : Info). place_count x.pages) (info_is h v i is) ∙ ap₂ (λ (m p : ℕ). maps_read m + p) (max_pages i) (max_pages i)

-- The loader's room, which is tested at the last number page.

abbrev pub have : Hardware → Load → ℕ
have h load = length (left_free h load.dump load.loader)

abbrev pub few_reply : Hardware → Load → Image → Reply
few_reply h load i = reply.TooFewLoaderFrames (have h load) (need (d_of i))

room_there : (h : Hardware) (v : disk.DiskImage) (i : Image) (load : Load) → IsOwnDisk h v i → has_room h load (d_of i) ≡ true → room_cause h load.dump v load.loader ≡ None
room_there h v i load is room =
    let enough = leb-true (need (d_of i)) (have h load) room in
    let d = d_is h v i is in
    let same = ap need d in
    cond-false (ltb (have h load) (need (d_in h v))) (Some (reply.TooFewLoaderFrames (have h load) (need (d_in h v)))) None (not_lt (have h load) (need (d_in h v)) (omega arith)) where
      not_lt : (a b : ℕ) → b ≤ a → ltb a b ≡ false
      not_lt a b le = elim (cases_Bool (ltb a b)) [ inl lt ↦ (let less = ltb-true a b lt in absurd (omega arith)) | inr isn't ↦ isn't ]

no_room : (h : Hardware) (v : disk.DiskImage) (i : Image) (load : Load) → IsOwnDisk h v i → has_room h load (d_of i) ≡ false → room_cause h load.dump v load.loader ≡ Some (few_reply h load i)
no_room h v i load is none =
    let less = leb-false (need (d_of i)) (have h load) none in
    let same = ap need (d_is h v i is) in
    cond-true (ltb (have h load) (need (d_in h v))) (Some (reply.TooFewLoaderFrames (have h load) (need (d_in h v)))) None (lt-ltb (have h load) (need (d_in h v)) (omega arith))
    ∙ ap (λ (n : ℕ). Some (reply.TooFewLoaderFrames (have h load) n)) same

-- which place is the last number page
number_place : (m : ℕ) → 1 ≤ m → m ≤ 200 → place (m + 1) ≡ page_at m
number_place m some few =
    let within : (m + 1) % 512 ≢ 0 = λ e. omega arith in
    let index : m + 1 - (m + 1) / 512 - 1 ≡ m = omega arith in
    cond-false (eqb ((m + 1) % 512) 0) (map_at ((m + 1) / 512)) (page_at (m + 1 - (m + 1) / 512 - 1)) (ne_eqb ((m + 1) % 512) 0 within) ∙ ap page_at index

other_place : (m t : ℕ) → m ≤ 200 → t % 512 ≢ 0 → t ≢ m + 1 → t - t / 512 - 1 ≢ m
other_place m t few page other e = other (omega arith)

want_other : (h : Hardware) (v : disk.DiskImage) (i : Image) (load : Load) (t : ℕ) → IsOwnDisk h v i → t ≢ meta i + 1 → want_cause h load.dump v load.loader (place t) ≡ None
want_other h v i load t is other =
    let sizes = are_few h v i is in
    let some = sizes.some in
    let few = sizes.few in
    let m = meta_is h v i is.holds is.sayable in
    elim (cases_eq (t % 512) 0) [
      | inl first ↦ ap (want_cause h load.dump v load.loader) (cond-true (eqb (t % 512) 0) (map_at (t / 512)) (page_at (t - t / 512 - 1)) (eq-eqb (t % 512) 0 first))
      | inr page ↦
          ap (want_cause h load.dump v load.loader) (cond-false (eqb (t % 512) 0) (map_at (t / 512)) (page_at (t - t / 512 - 1)) (ne_eqb (t % 512) 0 page))
          ∙ cond-false (eqb (t - t / 512 - 1) (meta_in h v)) (room_cause h load.dump v load.loader) None
          (ne_eqb (t - t / 512 - 1) (meta_in h v) (λ e. other_place (meta i) t (omega arith) page other (e ∙ m)))
    ]

want_here : (h : Hardware) (v : disk.DiskImage) (i : Image) (load : Load) (t : ℕ) → IsOwnDisk h v i → t ≡ meta i + 1 → want_cause h load.dump v load.loader (place t) ≡ room_cause h load.dump v load.loader
want_here h v i load t is here =
    let sizes = are_few h v i is in
    let some = sizes.some in
    let few = sizes.few in
    let m = meta_is h v i is.holds is.sayable in
    ap (λ (s : ℕ). want_cause h load.dump v load.loader (place s)) here
    ∙ ap (want_cause h load.dump v load.loader) (number_place (meta i) (omega arith) (omega arith))
    ∙ cond-true (eqb (meta i) (meta_in h v)) (room_cause h load.dump v load.loader) None (eq-eqb (meta i) (meta_in h v) (sym m))

-- a step that isn't stopped there
abbrev GoesOn : Hardware → Load → Image → ℕ → Type 0
GoesOn h load i t = (t ≢ meta i + 1) ⊎ (has_room h load (d_of i) ≡ true)

no_want : (h : Hardware) (v : disk.DiskImage) (i : Image) (load : Load) (t : ℕ) → IsOwnDisk h v i → GoesOn h load i t → want_cause h load.dump v load.loader (place t) ≡ None
no_want h v i load t is (inl other) = want_other h v i load t is other
no_want h v i load t is (inr room) = elim (cases_eq t (meta i + 1)) [
  | inl here ↦ want_here h v i load t is here ∙ room_there h v i load is room
  | inr other ↦ want_other h v i load t is other
]

want_few : (h : Hardware) (v : disk.DiskImage) (i : Image) (load : Load) (t : ℕ) → IsOwnDisk h v i → t ≡ meta i + 1 → has_room h load (d_of i) ≡ false → want_cause h load.dump v load.loader (place t) ≡ Some (few_reply h load i)
want_few h v i load t is here none = want_here h v i load t is here ∙ no_room h v i load is none

no_next : (h : Hardware) (v : disk.DiskImage) (i : Image) (t : ℕ) → IsOwnDisk h v i → next_cause h v t ≡ None
no_next h v i t is =
    let count = count_is h v i is in
    elim (cases_Bool (ltb (t + 1) (place_count (info_in h v).pages))) [
      | inl more ↦ (
          let lt = ltb-true (t + 1) (place_count (info_in h v).pages) more in
          cond-true (ltb (t + 1) (place_count (info_in h v).pages)) (place_cause h v (place (t + 1))) None more ∙ no_place_cause h v i (t + 1) is.holds (omega arith)
          )
      | inr last ↦ cond-false (ltb (t + 1) (place_count (info_in h v).pages)) (place_cause h v (place (t + 1))) None last
    ]

no_cause : (h : Hardware) (v : disk.DiskImage) (i : Image) (load : Load) (t : ℕ) → IsOwnDisk h v i → GoesOn h load i t → cause_at h load.dump v load.loader load.check t ≡ None
no_cause h v i load t is goes =
    let want = want_cause h load.dump v load.loader (place t) in
    both_none (read_cause h v load.check (place t)) (or_else want (next_cause h v t)) (no_read_cause h v i load.check (place t) is)
    (both_none want (next_cause h v t) (no_want h v i load t is goes) (no_next h v i t is))

earlier_goes : (h : Hardware) (load : Load) (i : Image) (k t s : ℕ) → k ≡ t + 4 → s < t → Comes h load i k → GoesOn h load i s
earlier_goes h load i k t s is lt (inl early) = inl (λ e. omega arith)
earlier_goes h load i k t s is lt (inr room) = inr room

earlier_comes : (h : Hardware) (load : Load) (i : Image) (k j : ℕ) → j < k → Comes h load i k → Comes h load i j
earlier_comes h load i k j lt (inl early) = inl (omega arith)
earlier_comes h load i k j lt (inr room) = inr room

-- What the plain machine replies.

and_true_left : (b c : Bool) → c ≡ false → (b && c) ≡ false
and_true_left true c e = e
and_true_left false c e = refl

stops : (h : Hardware) (load : Load) (i : Image) (k t : ℕ) → k ≡ t + 4 → GoesOn h load i t → (eqb (k + 1) (6 + meta i) && not (has_room h load (d_of i))) ≡ false
stops h load i k t is (inl other) = ap (λ (b : Bool). b && not (has_room h load (d_of i))) (ne_eqb (k + 1) (6 + meta i) (λ e. other (omega arith)))
stops h load i k t is (inr room) = and_true_left (eqb (k + 1) (6 + meta i)) (not (has_room h load (d_of i))) (ap not room)

abbrev late : Hardware → Load → Image → ℕ → Outcome
late h load i k = cond (eqb (k + 1) (resume_steps i)) (reply.Resumed (n_of i), resumed (restored h load.dump load.loader i) i.slots load.loader) (reply.Loading (k + 1), loading load (k + 1))

own_late : (h : Hardware) (load : Load) (i : Image) (k t : ℕ) → k ≡ t + 4 → GoesOn h load i t → own_reply h load i k ≡ (late h load i k).0
own_late h load i k t is goes =
    ap (λ (o : Outcome). o.0) (cond-false (eqb (k + 1) (6 + meta i) && not (has_room h load (d_of i))) (too_few h load (d_of i)) (late h load i k) (stops h load i k t is goes))

late_loading : (h : Hardware) (load : Load) (i : Image) (k : ℕ) → k + 1 ≢ resume_steps i → (late h load i k).0 ≡ reply.Loading (k + 1)
late_loading h load i k other =
    ap (λ (o : Outcome). o.0) (cond-false (eqb (k + 1) (resume_steps i)) (reply.Resumed (n_of i), resumed (restored h load.dump load.loader i) i.slots load.loader) (reply.Loading (k + 1), loading load (k + 1)) (ne_eqb (k + 1) (resume_steps i) other))

late_resumed : (h : Hardware) (load : Load) (i : Image) (k : ℕ) → k + 1 ≡ resume_steps i → (late h load i k).0 ≡ reply.Resumed (n_of i)
late_resumed h load i k last =
    ap (λ (o : Outcome). o.0) (cond-true (eqb (k + 1) (resume_steps i)) (reply.Resumed (n_of i), resumed (restored h load.dump load.loader i) i.slots load.loader) (reply.Loading (k + 1), loading load (k + 1)) (eq-eqb (k + 1) (resume_steps i) last))

pub own_few : (h : Hardware) (load : Load) (i : Image) (k : ℕ) → k + 1 ≡ 6 + meta i → has_room h load (d_of i) ≡ false → own_reply h load i k ≡ few_reply h load i
own_few h load i k here none =
    ap (λ (o : Outcome). o.0) (cond-true (eqb (k + 1) (6 + meta i) && not (has_room h load (d_of i))) (too_few h load (d_of i)) (late h load i k)
    (ap₂ (λ (b c : Bool). b && not c) (eq-eqb (k + 1) (6 + meta i) here) none))

-- The end.

restored-frames : (h : Hardware) (dump : Memory) (loader : Loader) (i j : Image) → i.frames ≡ j.frames → restored h dump loader i ≡ restored h dump loader j
unfolding restored
restored-frames h dump loader i j e = ap (λ (xs : List (ℕ × List ℕ)). map (page_of xs) (range_with_len 0 (top h.zones))) e where
  page_of : List (ℕ × List ℕ) → ℕ → List ℕ
  page_of xs p = restored_page h dump loader (record { frames = xs; slots = i.slots; ident = i.ident; physpages = i.physpages; format = i.format }) p

abbrev table_reply : Option ℕ → Option Reply
table_reply o = elim o as (λ x. Option Reply) [ None ↦ None | Some f ↦ Some (reply.BadTables f) ]

pub restored_is : (h : Hardware) (v : disk.DiskImage) (i : Image) (dump : Memory) (loader : Loader) → IsOwnDisk h v i → restored_in h dump v loader ≡ restored h dump loader i
restored_is h v i dump loader is = restored-frames h dump loader (image_in h v (λ s. None)) i (ap (λ (x : Image). x.frames) (decodes h v i is.holds is.sayable))

ends_resumed : (h : Hardware) (v : disk.DiskImage) (i : Image) (dump : Memory) (loader : Loader) → IsOwnDisk h v i → last_reply h dump v loader ≡ reply.Resumed (n_of i)
ends_resumed h v i dump (Ranges ranges) is =
    let m = is.own.of_memory.0 in
    let own = is.own.of_memory.1 in
    let new = restored h dump (Ranges ranges) i in
    let fits = restored_fits h dump m ranges i is.hardware own.fits own.image in
    let no_fault : or_else (tables_fault h new) (cond (is_none (dump_area_fault h v new)) None (Some h.slot_table)) ≡ None =
    ap₂ (λ (o : Option ℕ) (p : Option NoSwap). or_else o (cond (is_none p) None (Some h.slot_table))) (fits_no_fault h new fits) (restored_area h v dump m (Ranges ranges) i is.hardware own) in
    ap (λ (x : Memory). unwrap_or (tables_cause h v x) (reply.Resumed (info_in h v).image_pages)) (restored_is h v i dump (Ranges ranges) is)
    ∙ ap (λ (o : Option ℕ). unwrap_or (table_reply o) (reply.Resumed (info_in h v).image_pages)) no_fault
    ∙ ap (λ (x : Info). reply.Resumed x.image_pages) (info_is h v i is)
ends_resumed h v i dump Table is = ap (λ (x : Info). reply.Resumed x.image_pages) (info_is h v i is)

-- The trace.

early_reply : (h : Hardware) (load : Load) (i : Image) (k : ℕ) → k < 4 → 1 ≤ n_of i → own_reply h load i k ≡ reply.Loading (k + 1)
early_reply h load i k early some =
    ap (λ (o : Outcome). o.0) (cond-false (eqb (k + 1) (6 + meta i) && not (has_room h load (d_of i))) (too_few h load (d_of i)) (late h load i k)
    (ap (λ (b : Bool). b && not (has_room h load (d_of i))) (ne_eqb (k + 1) (6 + meta i) (λ e. omega arith))))
    ∙ late_loading h load i k (λ e. omega arith)

-- what comes past a step without a cause
past_is : (h : Hardware) (v : disk.DiskImage) (i : Image) (load : Load) (k t : ℕ) → IsOwnDisk h v i → k ≡ t + 4 → k < resume_steps i → GoesOn h load i t → reply_past h load.dump v load.loader k ≡ own_reply h load i k
past_is h v i load k t is four lt goes =
    let count = count_is h v i is in
    let step = own_late h load i k t four goes in
    elim (cases_lt (k + 1) (step_count h v)) [
      | inl more ↦ past_more h load.dump v load.loader k more ∙ sym (step ∙ late_loading h load i k (λ e. omega arith))
      | inr over ↦ past_last h load.dump v load.loader k over ∙ ends_resumed h v i load.dump load.loader is ∙ sym (step ∙ late_resumed h load i k (omega arith))
    ]

later_reply : (h : Hardware) (v : disk.DiskImage) (i : Image) (load : Load) (k t : ℕ) → IsOwnDisk h v i → k ≡ t + 4 → k < resume_steps i → Comes h load i k → unwrap_or (cause_at h load.dump v load.loader load.check t) (reply_past h load.dump v load.loader k) ≡ own_reply h load i k
later_reply h v i load k t is four lt comes = elim (cases_Bool (has_room h load (d_of i))) [
  | inl room ↦ goes_on (inr room)
  | inr none ↦ elim (cases_eq t (meta i + 1)) [
    | inl here ↦
        let want = want_cause h load.dump v load.loader (place t) in
        ap (λ (o : Option Reply). unwrap_or (or_else o (or_else want (next_cause h v t))) (reply_past h load.dump v load.loader k)) (no_read_cause h v i load.check (place t) is)
        ∙ ap (λ (o : Option Reply). unwrap_or (or_else o (next_cause h v t)) (reply_past h load.dump v load.loader k)) (want_few h v i load t is here none)
        ∙ sym (own_few h load i k (omega arith) none)
    | inr other ↦ goes_on (inl other)
  ]
] where
  goes_on : GoesOn h load i t → unwrap_or (cause_at h load.dump v load.loader load.check t) (reply_past h load.dump v load.loader k) ≡ own_reply h load i k
  goes_on goes =
      ap (λ (o : Option Reply). unwrap_or o (reply_past h load.dump v load.loader k)) (no_cause h v i load t is goes)
      ∙ past_is h v i load k t is four lt goes

-- there is a map, and the info page
some_places : (h : Hardware) (v : disk.DiskImage) → 4 < step_count h v
some_places h v = omega arith

-- a step over an own image has the reply of the plain machine
reply_own : (h : Hardware) (v : disk.DiskImage) (i : Image) (load : Load) (k : ℕ) → IsOwnDisk h v i → 1 ≤ k → k < resume_steps i → Comes h load i k → reply_at h load.dump v load.loader load.check k ≡ own_reply h load i k
reply_own h v i load zero is some lt comes = absurd (omega arith)
reply_own h v i load (suc zero) is some lt comes =
    ap (λ (o : Option Reply). unwrap_or o (reply_past h load.dump v load.loader 1)) (no_header_cause h v i is.holds) ∙ past_more h load.dump v load.loader 1 (omega arith) ∙ sym (early_reply h load i 1 (omega arith) (are_few h v i is).some)
reply_own h v i load (suc (suc zero)) is some lt comes = past_more h load.dump v load.loader 2 (omega arith) ∙ sym (early_reply h load i 2 (omega arith) (are_few h v i is).some)
reply_own h v i load (suc (suc (suc zero))) is some lt comes =
    ap (λ (o : Option Reply). unwrap_or o (reply_past h load.dump v load.loader 3)) (no_taken_back_cause h v i is.holds is.own) ∙ past_more h load.dump v load.loader 3 (some_places h v) ∙ sym (early_reply h load i 3 (omega arith) (are_few h v i is).some)
reply_own h v i load (suc (suc (suc (suc t)))) is some lt comes = later_reply h v i load (suc (suc (suc (suc t)))) t is (omega arith) lt comes

-- each step before that one went on
gone_on : (h : Hardware) (v : disk.DiskImage) (i : Image) (load : Load) (k j : ℕ) → IsOwnDisk h v i → k < resume_steps i → Comes h load i k → j < k → reply_at h load.dump v load.loader load.check j ≡ reply.Loading (j + 1)
gone_on h v i load k zero is lt comes j_lt = first_reply h load.dump v load.loader load.check
gone_on h v i load k (suc j) is lt comes j_lt =
    let some = (are_few h v i is).some in
    let goes = earlier_comes h load i k (suc j) j_lt comes in
    reply_own h v i load (suc j) is (omega arith) (omega arith) goes
    ∙ (elim (cases_lt (suc j) 4) [
      | inl early ↦ early_reply h load i (suc j) early some
      | inr late_step ↦
          own_late h load i (suc j) (suc j - 4) (omega arith) (earlier_goes h load i k (k - 4) (suc j - 4) (omega arith) (omega arith) comes)
          ∙ late_loading h load i (suc j) (λ e. omega arith)
    ])

pub traces_own : TracesOwn
traces_own h v i load k hw holds own some lt comes =
    let is : IsOwnDisk h v i = record { hardware = hw; holds = holds; own = own; sayable = own_sayable h v i hw own } in
    let count = count_is h v i is in
    traces_at h load.dump v load.loader load.check k (omega arith) (λ j j_lt. gone_on h v i load k j is lt comes j_lt)
    ∙ ap Some (reply_own h v i load k is some lt comes)
