-- What one more recorded call makes of a disk's content and of its past.
use Rattle.std.proofs.Common.{◌≡◌, ℕ, ◌+◌, ◌-◌, ◌*◌, ◌<◌, ◌≤◌, ◌⊎◌, Bool, true, false, cond, All, List, [], ◌∷◌, ◌++◌, length, get_or, Contains, refl, sym, ap, ◌∙◌, inl, inr, subst, arith}
use Rattle.std.proofs.lemmas.List.{get_or_default, length_push}
use Rattle.std.proofs.lemmas.List.Elements.{All-push, All-same}
use Rattle.std.proofs.lemmas.Bool.{cases_lt}
use Rattle.definitions.specs.Disk.{Sector, Content, DiskImage, no_sector, sector, as_it_reads, settled, IsSector, IsContent, IsImage, IsMixture, Writes, FailsToWrite, Restarts, Elapses}
use Rattle.definitions.proofs.DiskLaws.{as_it_reads-settled}
use Rattle.sector_disk.specs.Recorded.{after, held_after, as_synced, page_size, blocks_needed}
use Rattle.sector_disk.specs.RecordedLaws.{live_at, synced_at, length-as_synced, as_synced-settled, length-after, written-Writes, written-FailsToWrite, held_after-push}
use Rattle.sector_disk.proofs.Recordings.{synced_written, live_written, live_failed}
use Rattle.recording_disk.specs.Moments.{held_at, WasLeft}
use Rattle.recording_disk.specs.MomentLaws.{held_at-all, held_at-earlier, IsImage-mixture, along}
use Rattle.sector_disk.specs.Sectors.{content_of, picks, IsPicked, TakesPicked}
use Rattle.sector_disk.specs.declared.recorded.Recorded.{Recorded}
use Rattle.sector_disk.specs.declared.recorded.Recorded.TheVariants.{Write, FailedWrite, Sync, FailedSync}

-- Time.

before_of_two : (c d : Content) (v : DiskImage) → IsImage c v → IsMixture c d v
before_of_two c d v image = record { size = image.size; each = λ s lt. inl (image.chosen s (omega (arith, image.size))) }

after_of_two : (c d : Content) (v : DiskImage) → length d ≡ length c → IsImage d v → IsMixture c d v
after_of_two c d v same image = record { size = image.size ∙ same; each = λ s lt. inr (image.chosen s (omega (arith, image.size))) }

keeps_past : (start : DiskImage) (log : List Recorded) (r : Recorded) (t : ℕ) (v : DiskImage) → WasLeft start log t v → WasLeft start (log ++ r ∷ []) t v
keeps_past start log r t v (k, low, high, mixed) =
    let here : held_at start log k ≡ held_at start (log ++ r ∷ []) k = sym (held_at-earlier start log r k high) in (
      k,
      low,
      omega (arith, length_push log r),
      elim (cases_lt k (length log)) [
        | inl lt ↦ along (held_at start log k) (held_at start log (k + 1)) (held_at start (log ++ r ∷ []) k) (held_at start (log ++ r ∷ []) (k + 1)) v here (sym (held_at-earlier start log r (k + 1) (omega arith))) mixed
        | inr ge ↦
            let same : held_at start log (k + 1) ≡ held_at start log k = held_at-all start log (k + 1) (omega arith) ∙ sym (held_at-all start log k ge) in
            let image : IsImage (held_at start log k) v = IsImage-mixture (held_at start log k) v (along (held_at start log k) (held_at start log (k + 1)) (held_at start log k) (held_at start log k) v refl same mixed) in
            before_of_two (held_at start (log ++ r ∷ []) k) (held_at start (log ++ r ∷ []) (k + 1)) v (subst (λ (c : Content). IsImage c v) here image)
      ],
    )

no_other : (start : DiskImage) (log : List Recorded) (r : Recorded) (t : ℕ) (v : DiskImage) → WasLeft start (log ++ r ∷ []) t v →
    WasLeft start log t v ⊎ IsMixture (held_after start log) (held_after start (log ++ r ∷ [])) v
no_other start log r t v (k, low, high, mixed) =
    let old : Content = held_after start log in
    let new : Content = held_after start (log ++ r ∷ []) in
    let first : Content = held_at start (log ++ r ∷ []) k in
    let second : Content = held_at start (log ++ r ∷ []) (k + 1) in
    elim (cases_lt k (length log)) [
      | inl lt ↦ inl (k, low, omega arith, along first second (held_at start log k) (held_at start log (k + 1)) v (held_at-earlier start log r k (omega arith)) (held_at-earlier start log r (k + 1) (omega arith)) mixed)
      | inr ge ↦
          let at_end : second ≡ new = held_at-all start (log ++ r ∷ []) (k + 1) (omega (arith, length_push log r)) in
          inr (elim (cases_lt (length log) k) [
            | inl lt ↦
                let also_first : first ≡ new = held_at-all start (log ++ r ∷ []) k (omega (arith, length_push log r)) in
                let size : length new ≡ length old = ap length (held_after-push start log r) ∙ length-after old r in
                after_of_two old new v size (IsImage-mixture new v (along first second new new v also_first at_end mixed))
            | inr le ↦
                let begins : first ≡ old = held_at-earlier start log r k le ∙ held_at-all start log k ge in
                along first second old new v begins at_end mixed
          ])
    ]

-- where a call is recorded
pub Elapses-recorded : (start : DiskImage) (log : List Recorded) (r : Recorded) →
    Elapses (length log) (length (log ++ r ∷ [])) (WasLeft start log) (WasLeft start (log ++ r ∷ [])) (held_after start log) (held_after start (log ++ r ∷ []))
Elapses-recorded start log r = record {
  later = omega (arith, length_push log r);
  keeps = λ t v le past. keeps_past start log r t v past;
  nothing_else = λ t v le since. no_other start log r t v since;
}

has_last : (xs : List (List ℕ)) (y : List ℕ) → Contains xs y → Contains xs (get_or xs (length xs - 1) [])
has_last [] y (k, lt, e) = absurd (omega arith)
has_last (x ∷ xs) y h = (length (x ∷ xs) - 1, omega arith, get_or_default (x ∷ xs) (length (x ∷ xs) - 1) (get_or (x ∷ xs) (length (x ∷ xs) - 1) []) [] (omega arith))

chosen_of : (t : Bool) (x : Sector) (y : List ℕ) → IsSector x → y ≡ cond t x.live (get_or x.candidates (length x.candidates - 1) []) → Contains x.candidates y
chosen_of true x y whole e = subst (Contains x.candidates) (sym e) whole.live
chosen_of false x y whole e = subst (Contains x.candidates) (sym e) (has_last x.candidates x.live whole.live)

-- a restart that takes of each sector the live bytes or the oldest candidate
pub restarts_to : (blocks pick : ℕ) (c : Content) (v : DiskImage) → IsContent blocks c → IsPicked pick (as_synced c) (as_it_reads c) v → Restarts c (settled v)
restarts_to blocks pick c v whole picked = (
  v,
  record {
    size = picked.size ∙ length-as_synced c;
    chosen = λ s lt.
        chosen_of (picks pick (0 + s)) (sector c s) (get_or v s []) (whole.sectors s no_sector lt)
        (picked.each s (omega (arith, picked.size, length-as_synced c))
        ∙ ap (λ (x : List ℕ). cond (picks pick (0 + s)) x (get_or (as_synced c) s [])) (live_at c s)
        ∙ ap (λ (x : List ℕ). cond (picks pick (0 + s)) (sector c s).live x) (synced_at c s));
  },
  refl,
)

-- where nothing is recorded yet
pub reads_new : (start live : DiskImage) (log : List Recorded) → log ≡ [] → live ≡ start → live ≡ as_it_reads (held_after start log)
reads_new start live log none e = e ∙ sym (as_it_reads-settled start) ∙ ap (λ (xs : List Recorded). as_it_reads (held_after start xs)) (sym none)

pub synced_new : (start durable : DiskImage) (log : List Recorded) → log ≡ [] → durable ≡ start → durable ≡ as_synced (held_after start log)
synced_new start durable log none e = e ∙ sym (as_synced-settled start) ∙ ap (λ (xs : List Recorded). as_synced (held_after start xs)) (sym none)

pub block_inside : (blocks b : ℕ) (c : Content) → IsContent blocks c → b < blocks → 8 * b + 8 ≤ length c
block_inside blocks b c whole lt = omega (arith, whole.size)

-- a record whose last page was copied
pub write_of : (log new : List Recorded) (b : ℕ) (copy page : List ℕ) → new ≡ log ++ Write b copy ∷ [] → copy ≡ page → new ≡ log ++ Write b page ∷ []
write_of log new b copy page e same = e ∙ ap (λ (x : List ℕ). log ++ Write b x ∷ []) same

pub failed_write_of : (log new : List Recorded) (b : ℕ) (copy page : List ℕ) (seen pick : ℕ) → new ≡ log ++ FailedWrite b copy seen ∷ [] → copy ≡ page → seen ≡ pick → new ≡ log ++ FailedWrite b page pick ∷ []
failed_write_of log new b copy page seen pick e same armed = e ∙ ap (λ (x : List ℕ). log ++ FailedWrite b x seen ∷ []) same ∙ ap (λ (x : ℕ). log ++ FailedWrite b page x ∷ []) armed

-- The sectors that a disk keeps, after one more recorded call. `new` is the record then.

held_new : (start : DiskImage) (log new : List Recorded) (r : Recorded) → new ≡ log ++ r ∷ [] → held_after start new ≡ after (held_after start log) r
held_new start log new r e = ap (held_after start) e ∙ held_after-push start log r

pub live_write : (start : DiskImage) (log new : List Recorded) (b : ℕ) (page : List ℕ) (durable live kept_durable kept_live : DiskImage) → new ≡ log ++ Write b page ∷ [] →
    length durable ≡ length live → length kept_durable ≡ length kept_live → 8 * b + 8 ≤ length (held_after start log) → live ≡ as_it_reads (held_after start log) →
    Writes b page (content_of durable live) (content_of kept_durable kept_live) → kept_live ≡ as_it_reads (held_after start new)
live_write start log new b page durable live kept_durable kept_live e n m le reads wrote =
    live_written b page (held_after start log) durable live kept_durable kept_live n m le reads wrote ∙ ap as_it_reads (sym (held_new start log new (Write b page) e))

pub live_failed_write : (start : DiskImage) (log new : List Recorded) (b : ℕ) (page : List ℕ) (pick : ℕ) (durable live kept_durable kept_live : DiskImage) → new ≡ log ++ FailedWrite b page pick ∷ [] →
    length durable ≡ length live → length kept_durable ≡ length kept_live → 8 * b + 8 ≤ length (held_after start log) → live ≡ as_it_reads (held_after start log) →
    FailsToWrite b page (content_of durable live) (content_of kept_durable kept_live) → TakesPicked pick b page live kept_live → kept_live ≡ as_it_reads (held_after start new)
live_failed_write start log new b page pick durable live kept_durable kept_live e n m le reads wrote picked =
    live_failed b page pick (held_after start log) durable live kept_durable kept_live n m le reads wrote picked ∙ ap as_it_reads (sym (held_new start log new (FailedWrite b page pick) e))

pub synced_write : (blocks : ℕ) (start : DiskImage) (log new : List Recorded) (b : ℕ) (page : List ℕ) (durable kept_durable : DiskImage) → new ≡ log ++ Write b page ∷ [] →
    IsContent blocks (held_after start log) → 8 * b + 8 ≤ length (held_after start log) → durable ≡ as_synced (held_after start log) → kept_durable ≡ durable → kept_durable ≡ as_synced (held_after start new)
synced_write blocks start log new b page durable kept_durable e whole le synced kept =
    kept ∙ synced ∙ sym (synced_written blocks (λ s. true) b page (held_after start log) whole le) ∙ ap as_synced (sym (held_new start log new (Write b page) e))

pub synced_failed_write : (blocks : ℕ) (start : DiskImage) (log new : List Recorded) (b : ℕ) (page : List ℕ) (pick : ℕ) (durable kept_durable : DiskImage) → new ≡ log ++ FailedWrite b page pick ∷ [] →
    IsContent blocks (held_after start log) → 8 * b + 8 ≤ length (held_after start log) → durable ≡ as_synced (held_after start log) → kept_durable ≡ durable → kept_durable ≡ as_synced (held_after start new)
synced_failed_write blocks start log new b page pick durable kept_durable e whole le synced kept =
    kept ∙ synced ∙ sym (synced_written blocks (picks pick) b page (held_after start log) whole le) ∙ ap as_synced (sym (held_new start log new (FailedWrite b page pick) e))

pub live_sync : (start : DiskImage) (log new : List Recorded) (live : DiskImage) → new ≡ log ++ Sync ∷ [] → live ≡ as_it_reads (held_after start log) → live ≡ as_it_reads (held_after start new)
live_sync start log new live e reads = reads ∙ sym (as_it_reads-settled (as_it_reads (held_after start log))) ∙ ap as_it_reads (sym (held_new start log new Sync e))

pub synced_sync : (start : DiskImage) (log new : List Recorded) (live : DiskImage) → new ≡ log ++ Sync ∷ [] → live ≡ as_it_reads (held_after start log) → live ≡ as_synced (held_after start new)
synced_sync start log new live e reads = reads ∙ sym (as_synced-settled (as_it_reads (held_after start log))) ∙ ap as_synced (sym (held_new start log new Sync e))

pub held_failed_sync : (start : DiskImage) (log new : List Recorded) → new ≡ log ++ FailedSync ∷ [] → held_after start new ≡ held_after start log
held_failed_sync start log new e = held_new start log new FailedSync e

pub whole_push : (log new : List Recorded) (r : Recorded) → new ≡ log ++ r ∷ [] → page_size r ≡ 4096 → All (λ q. page_size q ≡ 4096) log → All (λ q. page_size q ≡ 4096) new
whole_push log new r e size sizes = All-same (λ q. page_size q ≡ 4096) new (log ++ r ∷ []) e (All-push (λ q. page_size q ≡ 4096) log r sizes size)

pub blocks_push : (blocks new_blocks : ℕ) (log new : List Recorded) (r : Recorded) → new ≡ log ++ r ∷ [] → blocks_needed r ≤ blocks → All (λ q. blocks_needed q ≤ blocks) log → new_blocks ≡ blocks → All (λ q. blocks_needed q ≤ new_blocks) new
blocks_push blocks new_blocks log new r e enough inside same =
    subst (λ (n : ℕ). All (λ q. blocks_needed q ≤ n) new) (sym same) (All-same (λ q. blocks_needed q ≤ blocks) new (log ++ r ∷ []) e (All-push (λ q. blocks_needed q ≤ blocks) log r inside enough))

-- What the calls make of the content, where the record is `new` then.

pub content_writes : (start : DiskImage) (log new : List Recorded) (b : ℕ) (page : List ℕ) → new ≡ log ++ Write b page ∷ [] → 8 * b + 8 ≤ length (held_after start log) →
    Writes b page (held_after start log) (held_after start new)
content_writes start log new b page e le =
    subst (Writes b page (held_after start log)) (sym (held_new start log new (Write b page) e)) (written-Writes b page (held_after start log) le)

pub content_fails_to_write : (start : DiskImage) (log new : List Recorded) (b : ℕ) (page : List ℕ) (pick : ℕ) → new ≡ log ++ FailedWrite b page pick ∷ [] → 8 * b + 8 ≤ length (held_after start log) →
    FailsToWrite b page (held_after start log) (held_after start new)
content_fails_to_write start log new b page pick e le =
    subst (FailsToWrite b page (held_after start log)) (sym (held_new start log new (FailedWrite b page pick) e)) (written-FailsToWrite (picks pick) b page (held_after start log) le)

pub time_recorded : (start : DiskImage) (log new : List Recorded) (r : Recorded) → new ≡ log ++ r ∷ [] →
    Elapses (length log) (length new) (WasLeft start log) (WasLeft start new) (held_after start log) (held_after start new)
time_recorded start log new r e =
    subst (λ (xs : List Recorded). Elapses (length log) (length xs) (WasLeft start log) (WasLeft start xs) (held_after start log) (held_after start xs)) (sym e) (Elapses-recorded start log r)

pub content_restarts : (blocks pick : ℕ) (start : DiskImage) (log : List Recorded) (durable live new_start : DiskImage) (new : List Recorded) → IsContent blocks (held_after start log) →
    durable ≡ as_synced (held_after start log) → live ≡ as_it_reads (held_after start log) → IsPicked pick durable live new_start → new ≡ [] → Restarts (held_after start log) (held_after new_start new)
content_restarts blocks pick start log durable live new_start new whole synced reads picked none =
    subst (λ (xs : List Recorded). Restarts (held_after start log) (held_after new_start xs)) (sym none)
    (restarts_to blocks pick (held_after start log) new_start whole
    (subst (λ (v : DiskImage). IsPicked pick v (as_it_reads (held_after start log)) new_start) synced (subst (λ (v : DiskImage). IsPicked pick durable v new_start) reads picked)))

-- an image of the content after k calls might have been left since then
pub WasLeft-at : (start : DiskImage) (log : List Recorded) (k : ℕ) (v : DiskImage) → k ≤ length log → IsImage (held_at start log k) v → WasLeft start log k v
WasLeft-at start log k v le image = (k, omega arith, le, before_of_two (held_at start log k) (held_at start log (k + 1)) v image)
