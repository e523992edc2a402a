-- The row of a begin.
use Rattle.protocol_laws.proofs.Unwritten.{block_same}
use Rattle.std.proofs.lemmas.Bool.{true≢false, false≢true}
use Rattle.std.proofs.Common.{◌≡◌, ◌<◌, ℕ, true, ◌&&◌, List, [], Contains, Option, Some, None, is_none, unwrap_or, refl, sym, ap, ap₂, ◌∙◌, subst, arith}
use Rattle.std.specs.List.{zip}
use Rattle.definitions.specs.Disk as disk
use Rattle.definitions.specs.Tables.{frame}
use Rattle.definitions.specs.Zones.{top}
use Rattle.placement.specs.Waiting.{waiting_pages}
use Rattle.plain_machine.specs.Machine.{Hardware, Memory, Fits}
use Rattle.plain_machine.specs.Loader.{left_free, loader_frame}
use Rattle.plain_machine.specs.Refusals.{refusal, refused_if}
use Rattle.plain_machine.specs.Shows.{WorldView, ShowsKept}
use Rattle.plain_machine.specs.State.{off, loading, Held, not_yet, Load as Resume}
use Rattle.plain_machine.specs.Step.{Step, outcomes, accepted, refused_or}
use Rattle.plain_machine.specs.declared.event.Event.TheVariants as event
use Rattle.plain_machine.specs.declared.event.IdentCheck.{IdentCheck}
use Rattle.plain_machine.specs.declared.event.Loader.{Loader}
use Rattle.plain_machine.specs.declared.event.Loader.TheVariants as loader
use Rattle.plain_machine.specs.declared.reply.Reply.{Reply}
use Rattle.plain_machine.specs.declared.reply.Reply.TheVariants as reply
use Rattle.machine.specs.declared.machine.Machine.{Machine}
use Rattle.resume_core.specs.Loading.{shown_by}
use Rattle.resume_core.specs.Row.{BeginsRow, HasLoaderMemory, KnowsAt}
use Rattle.resume_core.specs.declared.load.Load.{Load}
use Rattle.resume_core.specs.declared.load.Stage.{Stage}
use Rattle.resume_core.specs.declared.load.Stage.TheVariants as stage
use Rattle.protocol_laws.proofs.LoadRows.{shows_none_read}
use Rattle.protocol_laws.proofs.Finding.{load_begins}
use Rattle.resume_core.proofs.Finding.{activity_is}

-- The loader's memory is what is kept, where the loader is a dump's.

kept_is : (h : Hardware) (frames : Memory) (shown : WorldView) (kept : Option Memory) → HasLoaderMemory loader.Table frames shown → ShowsKept h shown kept → kept ≡ Some frames
kept_is h frames shown None has shows = absurd (true≢false (sym has.0 ∙ shows))
kept_is h frames shown (Some m) has shows = ap Some (sym shows.1 ∙ has.1)

goes : (h : Hardware) (held : Held) (kept : Option Memory) (frames : Memory) (shown : WorldView) (l : Loader) (check : IdentCheck) → HasLoaderMemory l frames shown → ShowsKept h shown kept → refusal h (off held kept) (event.Resume l check) ≡ None
unfolding refusal
goes h held kept frames shown (loader.Ranges ranges) check has shows = refl
goes h held kept frames shown loader.Table check has shows = ap (λ (o : Option Memory). refused_if (true && is_none o) reply.NoDump) (kept_is h frames shown kept has shows)

free_is : (h : Hardware) (kept : Option Memory) (frames : Memory) (shown : WorldView) (l : Loader) → HasLoaderMemory l frames shown → ShowsKept h shown kept → left_free h (unwrap_or kept []) l ≡ left_free h frames l
free_is h kept frames shown (loader.Ranges ranges) has shows = refl
free_is h kept frames shown loader.Table has shows = ap (λ (o : Option Memory). left_free h (unwrap_or o []) loader.Table) (kept_is h frames shown kept has shows)

page_is : (h : Hardware) (kept : Option Memory) (frames : Memory) (shown : WorldView) (l : Loader) (p : ℕ) → HasLoaderMemory l frames shown → ShowsKept h shown kept → loader_frame (unwrap_or kept []) l p ≡ loader_frame frames l p
page_is h kept frames shown (loader.Ranges ranges) p has shows = refl
page_is h kept frames shown loader.Table p has shows = ap (λ (o : Option Memory). loader_frame (unwrap_or o []) loader.Table p) (kept_is h frames shown kept has shows)

fits_is : (h : Hardware) (kept : Option Memory) (frames : Memory) (shown : WorldView) (l : Loader) → HasLoaderMemory l frames shown → ShowsKept h shown kept → l ≡ loader.Table → Fits h (unwrap_or kept [])
fits_is h kept frames shown (loader.Ranges ranges) has shows table = absurd (ranges_differ table) where
  ranges_differ : loader.Ranges ranges ≡ loader.Table → ⊥
  ranges_differ e = cc
fits_is h None frames shown loader.Table has shows table = absurd (false≢true (sym shows ∙ has.0))
fits_is h (Some m) frames shown loader.Table has shows table = shows.2

-- the state that it begins
abbrev begun : Held → Option Memory → Loader → IdentCheck → Resume
begun held kept l check = record { held = held; found = not_yet; loader = l; dump = unwrap_or kept []; check = check }

begin_step : (h : Hardware) (v : disk.DiskImage) (held : Held) (kept : Option Memory) (l : Loader) (check : IdentCheck) → refusal h (off held kept) (event.Resume l check) ≡ None → Step h v (off held kept) (event.Resume l check) (reply.Loading 0) (loading (begun held kept l check) 0)
unfolding outcomes
begin_step h v held kept l check none =
    subst (λ (o : Option Reply). Contains (refused_or (off held kept) o (accepted h v (off held kept) (event.Resume l check))) (reply.Loading 0, loading (begun held kept l check) 0)) (sym none) (0, omega arith, refl)

pub record HasBegun (machine : Machine) (frames frames' : Memory) (load : Load) (l : Loader) (check : IdentCheck) : Type 0 where
  pub kept : (p : ℕ) → p < top machine.hw.zones → (Contains (left_free machine.hw frames l) p → ⊥) → frame frames' p ≡ loader_frame frames l p
  pub free : load.waiting.free ≡ left_free machine.hw frames l
  pub none : load.waiting.originals ≡ []
  pub is_loader : load.loader ≡ l
  pub checks : load.check ≡ check
  pub at : load.stage ≡ stage.Sync
  pub origs : load.origs.members ≡ []
  pub zeros : load.zeros.members ≡ []

pub begun_row : (machine : Machine) (frames frames' : Memory) (load : Load) (x : Loader) (check : IdentCheck) → HasBegun machine frames frames' load x check → BeginsRow machine frames frames' load x check (reply.Loading 0)
begun_row machine frames frames' load x check is shown c held kept has stands =
    let h = machine.hw in
    let l = begun held kept x check in
    let shows = stands.parts.memory in (
      loading l 0,
      record {
        step = begin_step h (disk.as_it_reads c) held kept x check (goes h held kept frames shown x check has shows);
        stands = record {
          stands = load_begins h shown (shown_by machine frames' load) c held kept l stands refl refl (fits_is h kept frames shown x has shows)
              (shows_none_read h (shown_by machine frames' load) l 0 (omega arith) (activity_is load stage.Sync is.at) (ap₂ (λ (y : Loader) (z : IdentCheck). Some (y, z)) is.is_loader is.checks) (λ p lt free. is.kept p lt (λ member. free (subst (λ (members : List ℕ). Contains members p) (sym (free_is h kept frames shown x has shows)) member)) ∙ sym (page_is h kept frames shown x p has shows))
              (ap (λ (xs : List ℕ). zip xs (waiting_pages frames' load.waiting)) is.none));
          resume = record {
            free = is.free ∙ sym (free_is h kept frames shown x has shows);
            knows = subst (λ (s : Stage). KnowsAt s machine frames' load c l 0) (sym is.at) (is.origs, is.zeros, is.none);
          };
          ended = tt;
        };
        area = record { blocks = refl; header = record { front = refl; signature = refl } };
        unwritten = λ b not. block_same b _;
        leaves = tt;
        header = tt;
      },
    )
