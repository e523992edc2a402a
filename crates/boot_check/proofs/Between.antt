-- From one read to the next.
use Rattle.std.proofs.Common.{◌≡◌, ℕ, ◌+◌, ◌<◌, ◌++◌, Bool, true, false, List, [], ◌∷◌, Option, Some, None, Result, Ok, refl, sym, subst, ap, ◌∙◌, inl, inr, arith, append-nil, append_assoc, cond}
use Rattle.page_core.specs.declared.format.Format.{Format}
use Rattle.definitions.specs.Disk.{Content}
use Rattle.definitions.specs.SwapHeader.{taken_back}
use Rattle.image_format.specs.AreaKind.{area_kind}
use Rattle.image_format.specs.declared.signature.area.Mark.{Mark}
use Rattle.image_walk.specs.Names.{seen, IsReadFrom, IsReading}
use Rattle.image_walk.specs.declared.limits.Limits.{Limits}
use Rattle.image_walk.specs.declared.visit.BlockFault.{BlockFault}
use Rattle.image_check.specs.Checked.{Finds, FindsImage, FindsMark, FindsNames, IsWhole, format_of, mark_in}
use Rattle.image_check.specs.Header.{header_findings, is_compressed, limits_of}
use Rattle.image_check.specs.Image.{history_findings, name_findings}
use Rattle.image_check.specs.Told.{Told}
use Rattle.image_check.specs.declared.checking.Outcome.{Outcome}
use Rattle.image_check.specs.declared.checking.Outcome.TheVariants.{NoImage, Checked}
use Rattle.image_check.specs.declared.finding.Finding.{Finding}
use Rattle.image_check.specs.declared.finding.Finding.TheVariants as finding
use Rattle.image_check.proofs.Earlier.{header_found, names_found}
use Rattle.boot_check.specs.Found.{AsksNames, FoundAt, IsAll, IsAtName, IsBetween, IsImageOf, IsOutcome, IsTurn, pending_at, stage_after}
use Rattle.boot_check.specs.Named.{HasEnded, HasNamed, TellsName, Waits, asked_in}
use Rattle.boot_check.specs.declared.names.Names.{Names}
use Rattle.boot_check.specs.declared.stage.Stage.{Stage}
use Rattle.boot_check.specs.declared.stage.Stage.TheVariants as stage
use Rattle.boot_check.specs.declared.stage.Step.{Step}
use Rattle.boot_check.specs.declared.stage.Step.TheVariants as step
use Rattle.boot_check.proofs.Asked.{fresh, inside, limits_at, outcome_asked}
use Rattle.boot_check.proofs.Named.{named_more}

same_image : (content : Option Content) (blocks header : ℕ) (old new : Names) (page : List ℕ) (mark : Mark) → IsImageOf content blocks header old page mark → new.limits ≡ old.limits → new.format ≡ old.format → IsImageOf content blocks header new page mark
same_image content blocks header old new page mark i limits format = record {
  read = i.read;
  marked = i.marked;
  plain = i.plain;
  limits = limits ∙ i.limits;
  format = format ∙ i.format;
}

-- after the block that was waited for
pub between_more : (content : Option Content) (before faults blocks header b : ℕ) (told : Result (Unit {0}) BlockFault) (page : List ℕ) (old new : Names) (words lent asked : List ℕ) (found : List Finding) (a z : Told) (s : IsAtName content before blocks header old words asked found b) (t : TellsName s.between.mark.first b s.between.named.history told page old new lent a z) → new.limits ≡ old.limits → new.format ≡ old.format → IsOutcome content before faults b (seen told page) → IsBetween content faults blocks header new lent (b ∷ asked) (found ++ name_findings old.format s.between.named.history t.name)
between_more content before faults blocks header b told page old new words lent asked found a z s t limits format o =
    let i = s.between in
    let more = name_findings old.format i.named.history t.name in
    record {
      page = i.page;
      mark = i.mark;
      image = same_image content blocks header old new i.page i.mark i.image limits format;
      blocks_asked = b ∷ i.blocks_asked;
      names_found = i.names_found ++ more;
      asked_is = ap (λ (x : List ℕ). b ∷ x) i.asked_is;
      found_is = ap (λ (f : List Finding). f ++ more) i.found_is ∙ append_assoc (header_findings blocks header i.mark.flags i.page) i.names_found more;
      named = subst (λ (x : List ℕ). HasNamed content faults i.mark.first new lent x (i.names_found ++ more))
          (ap (λ (x : Bool). cond x (b ∷ i.blocks_asked) i.blocks_asked) (outcome_asked (seen told page) b o.told))
          (named_more content before faults i.mark.first b told page old new words lent i.blocks_asked i.names_found a z i.named t limits format o.rises o.read o.unread);
    }

-- the whole of an image
ended : (content : Option Content) (faults blocks header : ℕ) (n : Names) (words asked : List ℕ) (found : List Finding) (page : List ℕ) (mark : Mark) → IsImageOf content blocks header n page mark → HasEnded content faults mark.first n words asked found → IsAll content faults blocks header (asked ++ header ∷ []) (header_findings blocks header mark.flags page ++ found) Checked
ended content faults blocks header n words asked found page mark i e =
    let s = e.named in
    let limits = limits_of blocks header (area_kind (taken_back page)) in
    let all = header_findings blocks header mark.flags page ++ found in
    let whole : IsWhole limits mark.first content 0 faults s.history = record {
      reading = subst (λ (l : Limits). IsReading l mark.first s.history) i.limits s.stands.reading;
      over = e.over;
      pages = s.pages;
      unread = λ u. inl (s.unread u);
    } in
    let is : found ≡ history_findings (format_of mark.flags) s.history = s.found_is ∙ ap (λ (f : Format). history_findings f s.history) i.format in
    let names : FindsNames limits mark.first content 0 faults (format_of mark.flags) found = (s.history, (whole, is)) in
    let image : FindsImage content blocks header 0 faults mark page all = names_found content blocks header 0 faults mark page found i.plain names in
    let finds : Finds content blocks header 0 faults (Some all) =
    inr (inr (page, (i.read, subst (λ (m : Option Mark). FindsMark content blocks header 0 faults page m (Some all)) (sym i.marked) image))) in
    let asks : AsksNames content faults blocks header (asked ++ header ∷ []) all =
    (page, mark, s.history, (i.read, (whole, (ap (λ (f : List Finding). header_findings blocks header mark.flags page ++ f) is, ap (λ (x : List ℕ). x ++ header ∷ []) s.asked_is)))) in
    (finds, inr asks)

-- where the names that aren't read end
pub waits_found : (content : Option Content) (faults blocks header : ℕ) (old new : Names) (words lent asked : List ℕ) (found more : List Finding) (o : Option ℕ) (i : IsBetween content faults blocks header old words asked found) → new.limits ≡ old.limits → new.format ≡ old.format → Waits content faults i.mark.first new lent i.blocks_asked (i.names_found ++ more) o → FoundAt (stage_after o) content faults blocks header new lent asked (found ++ more)
waits_found content faults blocks header old new words lent asked found more (Some b) i limits format w = record {
  between = record {
    page = i.page;
    mark = i.mark;
    image = same_image content blocks header old new i.page i.mark i.image limits format;
    blocks_asked = i.blocks_asked;
    names_found = i.names_found ++ more;
    asked_is = i.asked_is;
    found_is = ap (λ (f : List Finding). f ++ more) i.found_is ∙ append_assoc (header_findings blocks header i.mark.flags i.page) i.names_found more;
    named = w.named;
  };
  block = w.block;
  free = w.free;
}
waits_found content faults blocks header old new words lent asked found more None i limits format w =
    let first = header_findings blocks header i.mark.flags i.page in
    let is : found ++ more ≡ first ++ (i.names_found ++ more) =
    ap (λ (f : List Finding). f ++ more) i.found_is ∙ append_assoc first i.names_found more in
    subst (λ (f : List Finding). IsAll content faults blocks header asked f Checked) (sym is)
    (subst (λ (x : List ℕ). IsAll content faults blocks header x (first ++ (i.names_found ++ more)) Checked) (sym i.asked_is)
    (ended content faults blocks header new lent i.blocks_asked (i.names_found ++ more) i.page i.mark
    (same_image content blocks header old new i.page i.mark i.image limits format) w))

-- what is asked for next, by what was found
pub turn_of : (content : Option Content) (faults blocks header : ℕ) (s : Stage) (n : Names) (words asked : List ℕ) (found : List Finding) → FoundAt s content faults blocks header n words asked found → IsTurn content faults blocks header asked found (pending_at s n.limits.header)
turn_of content faults blocks header stage.Header n words asked found (lt, (blocks_is, (header_is, (asked_is, found_is)))) =
    subst (λ k. IsTurn content faults blocks header asked found (step.Read k)) (sym header_is)
    (subst (λ (x : List ℕ). IsTurn content faults blocks header x found (step.Read header)) (sym asked_is) (lt, refl))
turn_of content faults blocks header (stage.Name b) n words asked found s =
    let i = s.between in
    let at = limits_at blocks header (area_kind (taken_back i.page)) in
    let blocks_is : n.limits.blocks ≡ blocks = ap (λ (l : Limits). l.blocks) i.image.limits ∙ at.0 in
    let header_is : n.limits.header ≡ header = ap (λ (l : Limits). l.header) i.image.limits ∙ at.1 in
    let all : i.blocks_asked ++ header ∷ [] ≡ asked_in i.named.history ++ header ∷ [] = ap (λ (x : List ℕ). x ++ header ∷ []) i.named.asked_is in
    subst (λ (x : List ℕ). IsTurn content faults blocks header x found (step.Read b)) (sym (i.asked_is ∙ all))
    (inside n.limits i.named.history b blocks s.free blocks_is, fresh n.limits i.named.history b header s.free header_is)
turn_of content faults blocks header (stage.Over outcome) n words asked found s = s

-- the header block has no mark
pub none_found : (content : Option Content) (faults blocks header : ℕ) (page asked : List ℕ) → IsReadFrom content header (Ok page) → mark_in (area_kind page) ≡ None → IsAll content faults blocks header asked [] NoImage
none_found content faults blocks header page asked read none = (
  refl,
  inr (inr (page, (read, subst (λ (m : Option Mark). FindsMark content blocks header 0 faults page m None) (sym none) refl))),
)

-- the header block marks a compressed image
pub compressed_found : (content : Option Content) (faults blocks header : ℕ) (page : List ℕ) (mark : Mark) → IsReadFrom content header (Ok page) → mark_in (area_kind page) ≡ Some mark → is_compressed mark.flags ≡ true → IsAll content faults blocks header (header ∷ []) (header_findings blocks header mark.flags page) Checked
compressed_found content faults blocks header page mark read marked compressed =
    let all = header_findings blocks header mark.flags page in
    let image : FindsImage content blocks header 0 faults mark page all = header_found content blocks header 0 faults mark page compressed in
    (inr (inr (page, (read, subst (λ (m : Option Mark). FindsMark content blocks header 0 faults page m (Some all)) (sym marked) image))), inl refl)

-- the marked image isn't compressed, and its names come next
pub names_begin : (content : Option Content) (faults blocks header : ℕ) (page : List ℕ) (mark : Mark) (n : Names) (words : List ℕ) → IsReadFrom content header (Ok page) → mark_in (area_kind page) ≡ Some mark → is_compressed mark.flags ≡ false → n.limits ≡ limits_of blocks header (area_kind (taken_back page)) → n.format ≡ format_of mark.flags → HasNamed content faults mark.first n words [] [] → IsBetween content faults blocks header n words (header ∷ []) (header_findings blocks header mark.flags page)
names_begin content faults blocks header page mark n words read marked plain limits format named = record {
  page = page;
  mark = mark;
  image = record { read = read; marked = marked; plain = plain; limits = limits; format = format };
  blocks_asked = [];
  names_found = [];
  asked_is = refl;
  found_is = sym (append-nil (header_findings blocks header mark.flags page));
  named = named;
}

-- the read of the header block failed
pub unread_found : (content : Option Content) (faults blocks header : ℕ) → IsAll content (faults + 1) blocks header (header ∷ []) (finding.HeaderUnread header ∷ []) Checked
unread_found content faults blocks header = (inr (inl (refl, inl (omega arith))), inl refl)

-- what the pending read is of
abbrev block_in : Step → ℕ
block_in (step.Read b) = b
block_in (step.Over outcome) = 0

pub record IsHeader (content : Option Content) (blocks header b : ℕ) (n : Names) (asked : List ℕ) (found : List Finding) : Type 0 where
  pub within : header < blocks
  pub blocks_are : n.limits.blocks ≡ blocks
  pub header_is : n.limits.header ≡ header
  pub block : header ≡ b
  pub none_asked : [] ≡ asked
  pub none_found : [] ≡ found

pub at_header : (content : Option Content) (faults blocks header b : ℕ) (s : Stage) (n : Names) (words asked : List ℕ) (found : List Finding) → s ≡ stage.Header → FoundAt s content faults blocks header n words asked found → pending_at s n.limits.header ≡ step.Read b → IsHeader content blocks header b n asked found
at_header content faults blocks header b s n words asked found is h pending =
    let at = subst (λ (x : Stage). FoundAt x content faults blocks header n words asked found) is h in
    record {
      within = at.0;
      blocks_are = at.1.0;
      header_is = at.1.1.0;
      block = sym at.1.1.0 ∙ ap (λ (x : Stage). block_in (pending_at x n.limits.header)) (sym is) ∙ ap block_in pending;
      none_asked = sym at.1.1.1.0;
      none_found = sym at.1.1.1.1;
    }

pub at_name : (content : Option Content) (faults blocks header b x : ℕ) (s : Stage) (n : Names) (words asked : List ℕ) (found : List Finding) → s ≡ stage.Name x → FoundAt s content faults blocks header n words asked found → pending_at s n.limits.header ≡ step.Read b → (x ≡ b) × IsAtName content faults blocks header n words asked found b
at_name content faults blocks header b x s n words asked found is h pending =
    let same : x ≡ b = ap (λ (y : Stage). block_in (pending_at y n.limits.header)) (sym is) ∙ ap block_in pending in
    let at : IsAtName content faults blocks header n words asked found x = subst (λ (y : Stage). FoundAt y content faults blocks header n words asked found) is h in
    (same, subst (λ (k : ℕ). IsAtName content faults blocks header n words asked found k) same at)

abbrev is_read : Step → Bool
is_read (step.Read b) = true
is_read (step.Over outcome) = false

pub at_end : (b : ℕ) (o : Outcome) (s : Stage) (k : ℕ) → s ≡ stage.Over o → pending_at s k ≡ step.Read b → ⊥
at_end b o s k is pending = let e = ap (λ (y : Stage). is_read (pending_at y k)) (sym is) ∙ ap is_read pending in cc
