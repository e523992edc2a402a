-- What is found of an image by its header block, and in a check that begins with more calls of the disk.
use Rattle.std.proofs.Common.{◌≡◌, ℕ, ◌≤◌, ◌++◌, Bool, true, false, List, Option, refl, sym, subst, inl, inr, arith}
use Rattle.std.specs.Bool.{MatchBool}
use Rattle.page_core.specs.declared.format.Format.{Format}
use Rattle.definitions.specs.Disk.{Content}
use Rattle.definitions.specs.SwapHeader.{taken_back}
use Rattle.image_format.specs.AreaKind.{area_kind}
use Rattle.image_format.specs.declared.signature.area.Mark.{Mark}
use Rattle.image_walk.specs.declared.limits.Limits.{Limits}
use Rattle.image_check.specs.Checked.{FindsImage, FindsNames, format_of}
use Rattle.image_check.specs.Header.{header_findings, is_compressed, limits_of}
use Rattle.image_check.specs.declared.finding.Finding.{Finding}

names_earlier : (l : Limits) (first : ℕ) (content : Option Content) (before then now : ℕ) (format : Format) (found : List Finding) → before ≤ then → FindsNames l first content then now format found → FindsNames l first content before now format found
names_earlier l first content before then now format found le (h, (whole, is)) = (
  h,
  (
    record {
      reading = whole.reading;
      over = whole.over;
      pages = whole.pages;
      unread = λ e. elim (whole.unread e) [ inl lt ↦ inl (omega arith) | inr last ↦ inr last ];
    },
    is,
  ),
)

-- an image that is compressed, and one that isn't
pub header_found : (content : Option Content) (blocks header before now : ℕ) (mark : Mark) (page : List ℕ) → is_compressed mark.flags ≡ true → FindsImage content blocks header before now mark page (header_findings blocks header mark.flags page)
header_found content blocks header before now mark page e =
    subst (λ (b : Bool). MatchBool b (header_findings blocks header mark.flags page ≡ header_findings blocks header mark.flags page)
    ((more : List Finding) × (FindsNames (limits_of blocks header (area_kind (taken_back page))) mark.first content before now
    (format_of mark.flags) more × (header_findings blocks header mark.flags page ≡ header_findings blocks header mark.flags page ++ more)))) (sym e) refl

pub names_found : (content : Option Content) (blocks header before now : ℕ) (mark : Mark) (page : List ℕ) (more : List Finding) → is_compressed mark.flags ≡ false → FindsNames (limits_of blocks header (area_kind (taken_back page))) mark.first content before now (format_of mark.flags) more → FindsImage content blocks header before now mark page (header_findings blocks header mark.flags page ++ more)
names_found content blocks header before now mark page more e h =
    let all = header_findings blocks header mark.flags page ++ more in
    subst (λ (b : Bool). MatchBool b (all ≡ header_findings blocks header mark.flags page)
    ((rest : List Finding) × (FindsNames (limits_of blocks header (area_kind (taken_back page))) mark.first content before now
    (format_of mark.flags) rest × (all ≡ header_findings blocks header mark.flags page ++ rest)))) (sym e) (more, (h, refl))

pub image_earlier : (content : Option Content) (blocks header before then now : ℕ) (mark : Mark) (page : List ℕ) (found : List Finding) → before ≤ then → FindsImage content blocks header then now mark page found → FindsImage content blocks header before now mark page found
image_earlier content blocks header before then now mark page found le h = go (is_compressed mark.flags) h where
  go : (b : Bool) → MatchBool b (found ≡ header_findings blocks header mark.flags page)
      ((more : List Finding) × (FindsNames (limits_of blocks header (area_kind (taken_back page))) mark.first content then now
      (format_of mark.flags) more × (found ≡ header_findings blocks header mark.flags page ++ more)))
      → MatchBool b (found ≡ header_findings blocks header mark.flags page)
      ((more : List Finding) × (FindsNames (limits_of blocks header (area_kind (taken_back page))) mark.first content before now
      (format_of mark.flags) more × (found ≡ header_findings blocks header mark.flags page ++ more)))
  go true is = is
  go false (more, (names, is)) = (more, (names_earlier (limits_of blocks header (area_kind (taken_back page))) mark.first content before then now (format_of mark.flags) more le names, is))
