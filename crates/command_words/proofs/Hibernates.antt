-- Clap takes the plain words of a hibernation, and its matches ask for it.
use Rattle.std.proofs.Common.{◌≡◌, ◌∙◌, ◌&&◌, ℕ, Bool, true, false, refl, ap, ap₂, Some, None, List, [], ◌∷◌, codes}
use Rattle.clap.specs.Words.{Row, Rule, Shape, Text, subcommand_of, takes}
use Rattle.clap.specs.Simple.{help_rule, new_shape}
use Rattle.clap.specs.Takes.{default_passes, is_valid, level_passes, settle_passes, walk_passes}
use Rattle.clap.specs.Walk.{Held, finished, nothing_held, rows_after, walk, walk_from}
use Rattle.std.specs.List.{list_all}
use Rattle.clap.specs.ValueTests.{accepts}
use Rattle.clap.proofs.OnLiterals.{clap_on_literals}
use Rattle.clap.specs.declared.builder.action.ArgAction.TheVariants.{Set}
use Rattle.clap.specs.declared.builder.value_parser.ValueParser.TheVariants as parser
use Rattle.clap.specs.declared.builder.value_parser.Reading.TheVariants.{AsWritten}
use Rattle.clap.specs.declared.parser.matches.ValueSource.TheVariants.{CommandLine}
use Rattle.page_core.specs.declared.format.Format.TheVariants.{Plain, SkipZeros}
use Rattle.command_words.specs.App.{swsusp_app, skip_zeros_rule, image_size_rule, swap_rule}
use Rattle.command_words.specs.Matched.{asked_in, hibernate_in, parsed}
use Rattle.command_words.specs.Words.{hibernate}
use Rattle.command_words.proofs.Values.{Asks, IsNumber, IsValue}

-- the command as it is built
abbrev rules : List Rule
rules =
    record skip_zeros_rule {
      range = Some (record { start_inclusive = 0; end_inclusive = 0 });
      defaults = codes "false" ∷ [];
      missing = codes "true" ∷ [];
      parser = Some parser.Bool;
    }
    ∷ record image_size_rule { action = Some Set; range = Some (record { start_inclusive = 1; end_inclusive = 1 }) }
    ∷ record swap_rule {
      action = Some Set;
      range = Some (record { start_inclusive = 1; end_inclusive = 1 });
      parser = Some parser.String;
      index = Some 1;
    }
    ∷ record help_rule { range = Some (record { start_inclusive = 0; end_inclusive = 0 }); parser = Some parser.String }
    ∷ []

abbrev shape : Shape
shape = record (new_shape (codes "hibernate")) { rules = rules; disable_help_subcommand = true; is_built = true }

abbrev skip_zeros_row : Row
skip_zeros_row = record {
  id = codes "skip-zeros";
  values = codes "true" ∷ [];
  count = None;
  source = Some CommandLine;
  reading = AsWritten;
}

abbrev image_size_row : Text → Row
image_size_row number = record {
  id = codes "image-size";
  values = number ∷ [];
  count = None;
  source = Some CommandLine;
  reading = AsWritten;
}

-- the given rows, with SWAP's value to come
abbrev held_with : List Row → Text → Held
held_with rows swap = record { rows = rows; pending = Some (codes "swap", swap ∷ []); skip = 0 }

abbrev end_passes : Held → Bool
end_passes end = settle_passes rules false end && (list_all default_passes rules && is_valid shape (finished rules end) false)

-- the words of the command are left to the command
module _ (name : Text) where
  taken_1 : (a : Text) → level_passes shape [] nothing_held (a ∷ []) false ≡ true → takes swsusp_app (name ∷ codes "hibernate" ∷ a ∷ []) ≡ true
  unfolding clap_on_literals
  taken_1 a e = ap (λ b. b && true) e

  taken_2 : (a b : Text) → level_passes shape [] nothing_held (a ∷ b ∷ []) false ≡ true → takes swsusp_app (name ∷ codes "hibernate" ∷ a ∷ b ∷ []) ≡ true
  unfolding clap_on_literals
  taken_2 a b e = ap (λ b. b && true) e

  taken_3 : (a b c : Text) → level_passes shape [] nothing_held (a ∷ b ∷ c ∷ []) false ≡ true
      → takes swsusp_app (name ∷ codes "hibernate" ∷ a ∷ b ∷ c ∷ []) ≡ true
  unfolding clap_on_literals
  taken_3 a b c e = ap (λ b. b && true) e

  taken_4 : (a b c d : Text) → level_passes shape [] nothing_held (a ∷ b ∷ c ∷ d ∷ []) false ≡ true
      → takes swsusp_app (name ∷ codes "hibernate" ∷ a ∷ b ∷ c ∷ d ∷ []) ≡ true
  unfolding clap_on_literals
  taken_4 a b c d e = ap (λ b. b && true) e

  rows_1 : (a : Text) → subcommand_of swsusp_app (name ∷ codes "hibernate" ∷ a ∷ []) ≡ Some (codes "hibernate", rows_after rules [] (a ∷ []))
  unfolding clap_on_literals
  rows_1 a = refl

  rows_2 : (a b : Text) → subcommand_of swsusp_app (name ∷ codes "hibernate" ∷ a ∷ b ∷ []) ≡ Some (codes "hibernate", rows_after rules [] (a ∷ b ∷ []))
  unfolding clap_on_literals
  rows_2 a b = refl

  rows_3 : (a b c : Text) → subcommand_of swsusp_app (name ∷ codes "hibernate" ∷ a ∷ b ∷ c ∷ []) ≡ Some (codes "hibernate", rows_after rules [] (a ∷ b ∷ c ∷ []))
  unfolding clap_on_literals
  rows_3 a b c = refl

  rows_4 : (a b c d : Text)
      → subcommand_of swsusp_app (name ∷ codes "hibernate" ∷ a ∷ b ∷ c ∷ d ∷ []) ≡ Some (codes "hibernate", rows_after rules [] (a ∷ b ∷ c ∷ d ∷ []))
  unfolding clap_on_literals
  rows_4 a b c d = refl

module _ (swap : Text) (s : IsValue swap) where
  passes_plain : level_passes shape [] nothing_held (swap ∷ []) false ≡ true
  unfolding clap_on_literals
  passes_plain = simp (s.dash, s.dashes)

  asks_plain : hibernate_in (rows_after rules [] (swap ∷ [])) ≡ Some (hibernate Plain None swap)
  unfolding clap_on_literals
  asks_plain = simp (s.dash, s.dashes)

  passes_without : level_passes shape [] nothing_held (codes "--skip-zeros" ∷ swap ∷ []) false ≡ true
  unfolding clap_on_literals
  passes_without = simp (s.dash, s.dashes)

  asks_without : hibernate_in (rows_after rules [] (codes "--skip-zeros" ∷ swap ∷ [])) ≡ Some (hibernate SkipZeros None swap)
  unfolding clap_on_literals
  asks_without = simp (s.dash, s.dashes)

  module _ (number : Text) (d : IsValue number) where
    -- what is held after both options and SWAP
    held_both : (walk rules [] nothing_held (codes "--skip-zeros" ∷ codes "--image-size" ∷ number ∷ swap ∷ [])).held
        ≡ held_with (skip_zeros_row ∷ image_size_row number ∷ []) swap
    unfolding clap_on_literals
    held_both = simp (s.dash, s.dashes, d.dash, d.dashes)

    held_turned : (walk rules [] nothing_held (codes "--image-size" ∷ number ∷ codes "--skip-zeros" ∷ swap ∷ [])).held
        ≡ held_with (image_size_row number ∷ skip_zeros_row ∷ []) swap
    unfolding clap_on_literals
    held_turned = simp (s.dash, s.dashes, d.dash, d.dashes)

    module _ (fits : accepts false (parser.Unsigned 0 18446744073709551615) number ≡ true) where
      passes_sized : level_passes shape [] nothing_held (codes "--image-size" ∷ number ∷ swap ∷ []) false ≡ true
      unfolding clap_on_literals
      passes_sized = simp (s.dash, s.dashes, d.dash, d.dashes, fits)

      walk_passes_both : walk_passes shape [] (walk_from nothing_held) (codes "--skip-zeros" ∷ codes "--image-size" ∷ number ∷ swap ∷ []) ≡ true
      unfolding clap_on_literals
      walk_passes_both = simp (s.dash, s.dashes, d.dash, d.dashes, fits)

      passes_both : level_passes shape [] nothing_held (codes "--skip-zeros" ∷ codes "--image-size" ∷ number ∷ swap ∷ []) false ≡ true
      passes_both = ap₂ (λ a b. a && b) walk_passes_both (ap end_passes held_both)

      passes_turned : level_passes shape [] nothing_held (codes "--image-size" ∷ number ∷ codes "--skip-zeros" ∷ swap ∷ []) false ≡ true
      unfolding clap_on_literals
      passes_turned = simp (s.dash, s.dashes, d.dash, d.dashes, fits)

    module _ (n : ℕ) (reads : parsed 64 number ≡ Some n) where
      asks_sized : hibernate_in (rows_after rules [] (codes "--image-size" ∷ number ∷ swap ∷ [])) ≡ Some (hibernate Plain (Some n) swap)
      unfolding clap_on_literals
      asks_sized = simp (s.dash, s.dashes, d.dash, d.dashes, reads)

      asks_both : hibernate_in (rows_after rules [] (codes "--skip-zeros" ∷ codes "--image-size" ∷ number ∷ swap ∷ [])) ≡ Some (hibernate SkipZeros (Some n) swap)
      asks_both = ap (λ h. hibernate_in (finished rules h)) held_both ∙ ap (λ size. Some (hibernate SkipZeros size swap)) reads

      asks_turned : hibernate_in (rows_after rules [] (codes "--image-size" ∷ number ∷ codes "--skip-zeros" ∷ swap ∷ []))
          ≡ Some (hibernate SkipZeros (Some n) swap)
      asks_turned = ap (λ h. hibernate_in (finished rules h)) held_turned ∙ ap (λ size. Some (hibernate SkipZeros size swap)) reads

module _ (name swap : Text) (s : IsValue swap) where
  pub hibernates_plain : Asks (name ∷ codes "hibernate" ∷ swap ∷ []) (hibernate Plain None swap)
  hibernates_plain = record { taken = taken_1 name swap (passes_plain swap s); matched = ap asked_in (rows_1 name swap) ∙ asks_plain swap s }

  pub hibernates_without : Asks (name ∷ codes "hibernate" ∷ codes "--skip-zeros" ∷ swap ∷ []) (hibernate SkipZeros None swap)
  hibernates_without = record {
    taken = taken_2 name (codes "--skip-zeros") swap (passes_without swap s);
    matched = ap asked_in (rows_2 name (codes "--skip-zeros") swap) ∙ asks_without swap s;
  }

  module _ (number : Text) (n : ℕ) (d : IsNumber 64 (parser.Unsigned 0 18446744073709551615) number n) where
    pub hibernates_sized : Asks (name ∷ codes "hibernate" ∷ codes "--image-size" ∷ number ∷ swap ∷ []) (hibernate Plain (Some n) swap)
    hibernates_sized = record {
      taken = taken_3 name (codes "--image-size") number swap (passes_sized swap s number d.plain d.fits);
      matched = ap asked_in (rows_3 name (codes "--image-size") number swap) ∙ asks_sized swap s number d.plain n d.reads;
    }

    pub hibernates_both : Asks (name ∷ codes "hibernate" ∷ codes "--skip-zeros" ∷ codes "--image-size" ∷ number ∷ swap ∷ []) (hibernate SkipZeros (Some n) swap)
    hibernates_both = record {
      taken = taken_4 name (codes "--skip-zeros") (codes "--image-size") number swap (passes_both swap s number d.plain d.fits);
      matched = ap asked_in (rows_4 name (codes "--skip-zeros") (codes "--image-size") number swap) ∙ asks_both swap s number d.plain n d.reads;
    }

    pub hibernates_turned : Asks (name ∷ codes "hibernate" ∷ codes "--image-size" ∷ number ∷ codes "--skip-zeros" ∷ swap ∷ [])
        (hibernate SkipZeros (Some n) swap)
    hibernates_turned = record {
      taken = taken_4 name (codes "--image-size") number (codes "--skip-zeros") swap (passes_turned swap s number d.plain d.fits);
      matched = ap asked_in (rows_4 name (codes "--image-size") number (codes "--skip-zeros") swap) ∙ asks_turned swap s number d.plain n d.reads;
    }
