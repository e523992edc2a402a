-- A subcommand with an area takes the plain words of one, and its matches ask for it.
use Rattle.std.proofs.Common.{◌≡◌, ◌∙◌, ◌&&◌, ℕ, Bool, true, false, pos, refl, ap, ap₂, Some, None, List, [], ◌∷◌, codes}
use Rattle.std.specs.List.{list_all}
use Rattle.clap.specs.Words.{Row, Rule, Shape, Text}
use Rattle.clap.specs.Simple.{help_rule, new_shape}
use Rattle.clap.specs.Takes.{default_passes, is_valid, level_passes, settle_passes, walk_passes}
use Rattle.clap.specs.Walk.{Held, finished, nothing_held, rows_after, walk, walk_from}
use Rattle.clap.proofs.OnLiterals.{clap_on_literals}
use Rattle.clap.specs.declared.builder.action.ArgAction.TheVariants.{Set}
use Rattle.clap.specs.declared.builder.value_parser.ValueParser.TheVariants as parser
use Rattle.clap.specs.declared.builder.value_parser.Reading.{Reading}
use Rattle.clap.specs.declared.builder.value_parser.Reading.TheVariants.{AsWritten, WithoutMinus}
use Rattle.clap.specs.declared.parser.matches.ValueSource.TheVariants.{CommandLine}
use Rattle.command_words.specs.App.{offset_rule, swap_rule}
use Rattle.command_words.specs.Matched.{parsed}
use Rattle.command_words.proofs.Values.{IsNumber, IsValue}
use Rattle.command_words.specs.ImageApp.{first_rule, frame_rule, json_rule, other_rule}
use Rattle.command_words.specs.ImageMatched.{area_in, differ_in, formed_in, page_in}
use Rattle.command_words.specs.ImageWords.{page, differ}

-- the arguments as they are built
abbrev built_offset : Rule
built_offset = record offset_rule { action = Some Set; range = Some (record { start_inclusive = 1; end_inclusive = 1 }) }

abbrev built_swap : Rule
built_swap = record swap_rule {
  action = Some Set;
  range = Some (record { start_inclusive = 1; end_inclusive = 1 });
  parser = Some parser.String;
  index = Some 1;
}

abbrev built_frame : Rule
built_frame = record frame_rule { action = Some Set; range = Some (record { start_inclusive = 1; end_inclusive = 1 }); index = Some 2 }

abbrev built_json : Rule
built_json = record json_rule {
  range = Some (record { start_inclusive = 0; end_inclusive = 0 });
  defaults = codes "false" ∷ [];
  missing = codes "true" ∷ [];
  parser = Some parser.Bool;
}

abbrev built_help : Rule
built_help = record help_rule { range = Some (record { start_inclusive = 0; end_inclusive = 0 }); parser = Some parser.String }

abbrev pub area_rules : List Rule
area_rules = built_offset ∷ built_swap ∷ built_help ∷ []

abbrev pub formed_rules : List Rule
formed_rules = built_offset ∷ built_swap ∷ built_json ∷ built_help ∷ []

abbrev built_first : Rule
built_first = record first_rule {
  range = Some (record { start_inclusive = 0; end_inclusive = 0 });
  defaults = codes "false" ∷ [];
  missing = codes "true" ∷ [];
  parser = Some parser.Bool;
}

abbrev built_other : Rule
built_other = record other_rule {
  action = Some Set;
  range = Some (record { start_inclusive = 1; end_inclusive = 1 });
  parser = Some parser.String;
  index = Some 2;
}

abbrev pub differ_rules : List Rule
differ_rules = built_offset ∷ built_swap ∷ built_first ∷ built_other ∷ built_help ∷ []

abbrev pub page_rules : List Rule
page_rules = built_offset ∷ built_swap ∷ built_frame ∷ built_help ∷ []

-- a subcommand with these
abbrev pub shape_of_rules : List Rule → Text → Shape
shape_of_rules rules name = record (new_shape name) { rules = rules; disable_help_subcommand = true; is_built = true }

-- a word of the command line as it is held
abbrev row_of : Text → Text → Reading → Row
row_of id word reading = record { id = id; values = word ∷ []; count = None; source = Some CommandLine; reading = reading }

-- the offset and the path, with the frame's number to come
abbrev held_with_frame : Text → Text → Text → Held
held_with_frame number swap frame = record {
  rows = row_of (codes "offset") number WithoutMinus ∷ row_of (codes "swap") swap AsWritten ∷ [];
  pending = Some (codes "frame", frame ∷ []);
  skip = 0;
}

-- --json, and what is held with the path to come
abbrev json_row : Row
json_row = row_of (codes "json") (codes "true") AsWritten

abbrev held_with_swap : List Row → Text → Held
held_with_swap rows swap = record { rows = rows; pending = Some (codes "swap", swap ∷ []); skip = 0 }

-- --first, and what is held with the other path to come
abbrev first_row : Row
first_row = row_of (codes "first") (codes "true") AsWritten

abbrev held_with_other : List Row → Text → Held
held_with_other rows other = record { rows = rows; pending = Some (codes "other", other ∷ []); skip = 0 }

-- what is asked after the walk
abbrev end_passes : Shape → Held → Bool
end_passes s end =
    settle_passes s.rules s.args_override_self end && (list_all default_passes s.rules && is_valid s (finished s.rules end) false)

zero_parsed : parsed 32 (codes "0") ≡ Some 0
unfolding parsed
zero_parsed = refl

module _ (swap : Text) (s : IsValue swap) where
  pub passes_area : (name : Text) → level_passes (shape_of_rules area_rules name) [] nothing_held (swap ∷ []) false ≡ true
  unfolding clap_on_literals
  passes_area name = simp (s.dash, s.dashes)

  pub asks_area : area_in (rows_after area_rules [] (swap ∷ [])) ≡ Some (record { swap = swap; offset = 0 })
  unfolding clap_on_literals
  asks_area = simp (s.dash, s.dashes, zero_parsed)

  module _ (number : Text) (n : ℕ) (d : IsNumber 32 (parser.Signed (pos 0) (pos 4294967295)) number n) where
    pub passes_area_at : (name : Text) → level_passes (shape_of_rules area_rules name) [] nothing_held (codes "--offset" ∷ number ∷ swap ∷ []) false ≡ true
    unfolding clap_on_literals
    passes_area_at name = simp (s.dash, s.dashes, d.plain.dash, d.plain.dashes, d.fits)

    pub asks_area_at : area_in (rows_after area_rules [] (codes "--offset" ∷ number ∷ swap ∷ [])) ≡ Some (record { swap = swap; offset = n })
    unfolding clap_on_literals
    asks_area_at = simp (s.dash, s.dashes, d.plain.dash, d.plain.dashes, d.reads)

    pub passes_lines_at : (name : Text) → level_passes (shape_of_rules formed_rules name) [] nothing_held (codes "--offset" ∷ number ∷ swap ∷ []) false ≡ true
    unfolding clap_on_literals
    passes_lines_at name = simp (s.dash, s.dashes, d.plain.dash, d.plain.dashes, d.fits)

    pub asks_lines_at : formed_in (rows_after formed_rules [] (codes "--offset" ∷ number ∷ swap ∷ [])) ≡ Some (false, record { swap = swap; offset = n })
    unfolding clap_on_literals
    asks_lines_at = simp (s.dash, s.dashes, d.plain.dash, d.plain.dashes, d.reads)

    -- what is held after --json and the offset, in either order
    held_json_before : (walk formed_rules [] nothing_held (codes "--json" ∷ codes "--offset" ∷ number ∷ swap ∷ [])).held
        ≡ held_with_swap (json_row ∷ row_of (codes "offset") number WithoutMinus ∷ []) swap
    unfolding clap_on_literals
    held_json_before = simp (s.dash, s.dashes, d.plain.dash, d.plain.dashes)

    walk_passes_json_before : (name : Text) → walk_passes (shape_of_rules formed_rules name) [] (walk_from nothing_held) (codes "--json" ∷ codes "--offset" ∷ number ∷ swap ∷ []) ≡ true
    unfolding clap_on_literals
    walk_passes_json_before name = simp (s.dash, s.dashes, d.plain.dash, d.plain.dashes, d.fits)

    end_passes_json_before : (name : Text) → end_passes (shape_of_rules formed_rules name) (held_with_swap (json_row ∷ row_of (codes "offset") number WithoutMinus ∷ []) swap) ≡ true
    unfolding clap_on_literals
    end_passes_json_before name = refl

    pub passes_json_before : (name : Text) → level_passes (shape_of_rules formed_rules name) [] nothing_held (codes "--json" ∷ codes "--offset" ∷ number ∷ swap ∷ []) false ≡ true
    passes_json_before name =
        ap₂ (λ a b. a && b) (walk_passes_json_before name) (ap (end_passes (shape_of_rules formed_rules name)) held_json_before ∙ end_passes_json_before name)

    pub asks_json_before : formed_in (rows_after formed_rules [] (codes "--json" ∷ codes "--offset" ∷ number ∷ swap ∷ [])) ≡ Some (true, record { swap = swap; offset = n })
    unfolding clap_on_literals
    asks_json_before = ap (λ h. formed_in (finished formed_rules h)) held_json_before ∙ simp (d.plain.dash, d.reads)

    held_json_after : (walk formed_rules [] nothing_held (codes "--offset" ∷ number ∷ codes "--json" ∷ swap ∷ [])).held
        ≡ held_with_swap (row_of (codes "offset") number WithoutMinus ∷ json_row ∷ []) swap
    unfolding clap_on_literals
    held_json_after = simp (s.dash, s.dashes, d.plain.dash, d.plain.dashes)

    walk_passes_json_after : (name : Text) → walk_passes (shape_of_rules formed_rules name) [] (walk_from nothing_held) (codes "--offset" ∷ number ∷ codes "--json" ∷ swap ∷ []) ≡ true
    unfolding clap_on_literals
    walk_passes_json_after name = simp (s.dash, s.dashes, d.plain.dash, d.plain.dashes, d.fits)

    end_passes_json_after : (name : Text) → end_passes (shape_of_rules formed_rules name) (held_with_swap (row_of (codes "offset") number WithoutMinus ∷ json_row ∷ []) swap) ≡ true
    unfolding clap_on_literals
    end_passes_json_after name = refl

    pub passes_json_after : (name : Text) → level_passes (shape_of_rules formed_rules name) [] nothing_held (codes "--offset" ∷ number ∷ codes "--json" ∷ swap ∷ []) false ≡ true
    passes_json_after name =
        ap₂ (λ a b. a && b) (walk_passes_json_after name) (ap (end_passes (shape_of_rules formed_rules name)) held_json_after ∙ end_passes_json_after name)

    pub asks_json_after : formed_in (rows_after formed_rules [] (codes "--offset" ∷ number ∷ codes "--json" ∷ swap ∷ [])) ≡ Some (true, record { swap = swap; offset = n })
    unfolding clap_on_literals
    asks_json_after = ap (λ h. formed_in (finished formed_rules h)) held_json_after ∙ simp (d.plain.dash, d.reads)

  pub passes_lines : (name : Text) → level_passes (shape_of_rules formed_rules name) [] nothing_held (swap ∷ []) false ≡ true
  unfolding clap_on_literals
  passes_lines name = simp (s.dash, s.dashes)

  pub asks_lines : formed_in (rows_after formed_rules [] (swap ∷ [])) ≡ Some (false, record { swap = swap; offset = 0 })
  unfolding clap_on_literals
  asks_lines = simp (s.dash, s.dashes, zero_parsed)

  pub passes_json : (name : Text) → level_passes (shape_of_rules formed_rules name) [] nothing_held (codes "--json" ∷ swap ∷ []) false ≡ true
  unfolding clap_on_literals
  passes_json name = simp (s.dash, s.dashes)

  pub asks_json : formed_in (rows_after formed_rules [] (codes "--json" ∷ swap ∷ [])) ≡ Some (true, record { swap = swap; offset = 0 })
  unfolding clap_on_literals
  asks_json = simp (s.dash, s.dashes, zero_parsed)

  module _ (frame : Text) (p : ℕ) (f : IsNumber 64 (parser.Unsigned 0 18446744073709551615) frame p) where
    pub passes_page : (name : Text) → level_passes (shape_of_rules page_rules name) [] nothing_held (swap ∷ frame ∷ []) false ≡ true
    unfolding clap_on_literals
    passes_page name = simp (s.dash, s.dashes, f.plain.dash, f.plain.dashes, f.fits)

    pub asks_page : page_in (rows_after page_rules [] (swap ∷ frame ∷ [])) ≡ Some (page (record { swap = swap; offset = 0 }) p)
    unfolding clap_on_literals
    asks_page = simp (s.dash, s.dashes, f.plain.dash, f.plain.dashes, f.reads, zero_parsed)

    module _ (number : Text) (n : ℕ) (d : IsNumber 32 (parser.Signed (pos 0) (pos 4294967295)) number n) where
      -- what is held after the words
      held_page_at : (walk page_rules [] nothing_held (codes "--offset" ∷ number ∷ swap ∷ frame ∷ [])).held ≡ held_with_frame number swap frame
      unfolding clap_on_literals
      held_page_at = simp (s.dash, s.dashes, f.plain.dash, f.plain.dashes, d.plain.dash, d.plain.dashes)

      walk_passes_page_at : (name : Text)
          → walk_passes (shape_of_rules page_rules name) [] (walk_from nothing_held) (codes "--offset" ∷ number ∷ swap ∷ frame ∷ []) ≡ true
      unfolding clap_on_literals
      walk_passes_page_at name = simp (s.dash, s.dashes, f.plain.dash, f.plain.dashes, d.plain.dash, d.plain.dashes, d.fits)

      end_passes_page_at : (name : Text) → end_passes (shape_of_rules page_rules name) (held_with_frame number swap frame) ≡ true
      unfolding clap_on_literals
      end_passes_page_at name = simp (f.fits)

      pub passes_page_at : (name : Text)
          → level_passes (shape_of_rules page_rules name) [] nothing_held (codes "--offset" ∷ number ∷ swap ∷ frame ∷ []) false ≡ true
      passes_page_at name =
          ap₂ (λ a b. a && b) (walk_passes_page_at name) (ap (end_passes (shape_of_rules page_rules name)) held_page_at ∙ end_passes_page_at name)

      pub asks_page_at : page_in (rows_after page_rules [] (codes "--offset" ∷ number ∷ swap ∷ frame ∷ [])) ≡ Some (page (record { swap = swap; offset = n }) p)
      unfolding clap_on_literals
      asks_page_at = ap (λ h. page_in (finished page_rules h)) held_page_at ∙ simp (d.plain.dash, f.reads, d.reads)

  module _ (other : Text) (o : IsValue other) where
    held_differ_plain : (walk differ_rules [] nothing_held (swap ∷ other ∷ [])).held ≡ held_with_other (row_of (codes "swap") swap AsWritten ∷ []) other
    unfolding clap_on_literals
    held_differ_plain = simp (s.dash, s.dashes, o.dash, o.dashes)

    walk_passes_differ_plain : (name : Text) → walk_passes (shape_of_rules differ_rules name) [] (walk_from nothing_held) (swap ∷ other ∷ []) ≡ true
    unfolding clap_on_literals
    walk_passes_differ_plain name = simp (s.dash, s.dashes, o.dash, o.dashes)

    end_passes_differ_plain : (name : Text) → end_passes (shape_of_rules differ_rules name) (held_with_other (row_of (codes "swap") swap AsWritten ∷ []) other) ≡ true
    unfolding clap_on_literals
    end_passes_differ_plain name = refl

    pub passes_differ_plain : (name : Text) → level_passes (shape_of_rules differ_rules name) [] nothing_held (swap ∷ other ∷ []) false ≡ true
    passes_differ_plain name = ap₂ (λ a b. a && b) (walk_passes_differ_plain name) (ap (end_passes (shape_of_rules differ_rules name)) held_differ_plain ∙ end_passes_differ_plain name)

    pub asks_differ_plain : differ_in (rows_after differ_rules [] (swap ∷ other ∷ [])) ≡ Some (differ false (record { swap = swap; offset = 0 }) other)
    unfolding clap_on_literals
    asks_differ_plain = ap (λ h. differ_in (finished differ_rules h)) held_differ_plain ∙ simp (zero_parsed)

    held_differ_first : (walk differ_rules [] nothing_held (codes "--first" ∷ swap ∷ other ∷ [])).held ≡ held_with_other (first_row ∷ row_of (codes "swap") swap AsWritten ∷ []) other
    unfolding clap_on_literals
    held_differ_first = simp (s.dash, s.dashes, o.dash, o.dashes)

    walk_passes_differ_first : (name : Text) → walk_passes (shape_of_rules differ_rules name) [] (walk_from nothing_held) (codes "--first" ∷ swap ∷ other ∷ []) ≡ true
    unfolding clap_on_literals
    walk_passes_differ_first name = simp (s.dash, s.dashes, o.dash, o.dashes)

    end_passes_differ_first : (name : Text) → end_passes (shape_of_rules differ_rules name) (held_with_other (first_row ∷ row_of (codes "swap") swap AsWritten ∷ []) other) ≡ true
    unfolding clap_on_literals
    end_passes_differ_first name = refl

    pub passes_differ_first : (name : Text) → level_passes (shape_of_rules differ_rules name) [] nothing_held (codes "--first" ∷ swap ∷ other ∷ []) false ≡ true
    passes_differ_first name = ap₂ (λ a b. a && b) (walk_passes_differ_first name) (ap (end_passes (shape_of_rules differ_rules name)) held_differ_first ∙ end_passes_differ_first name)

    pub asks_differ_first : differ_in (rows_after differ_rules [] (codes "--first" ∷ swap ∷ other ∷ [])) ≡ Some (differ true (record { swap = swap; offset = 0 }) other)
    unfolding clap_on_literals
    asks_differ_first = ap (λ h. differ_in (finished differ_rules h)) held_differ_first ∙ simp (zero_parsed)

    module _ (number : Text) (n : ℕ) (d : IsNumber 32 (parser.Signed (pos 0) (pos 4294967295)) number n) where
      held_differ_at : (walk differ_rules [] nothing_held (codes "--offset" ∷ number ∷ swap ∷ other ∷ [])).held ≡ held_with_other (row_of (codes "offset") number WithoutMinus ∷ row_of (codes "swap") swap AsWritten ∷ []) other
      unfolding clap_on_literals
      held_differ_at = simp (s.dash, s.dashes, o.dash, o.dashes, d.plain.dash, d.plain.dashes)

      walk_passes_differ_at : (name : Text) → walk_passes (shape_of_rules differ_rules name) [] (walk_from nothing_held) (codes "--offset" ∷ number ∷ swap ∷ other ∷ []) ≡ true
      unfolding clap_on_literals
      walk_passes_differ_at name = simp (s.dash, s.dashes, o.dash, o.dashes, d.plain.dash, d.plain.dashes, d.fits)

      end_passes_differ_at : (name : Text) → end_passes (shape_of_rules differ_rules name) (held_with_other (row_of (codes "offset") number WithoutMinus ∷ row_of (codes "swap") swap AsWritten ∷ []) other) ≡ true
      unfolding clap_on_literals
      end_passes_differ_at name = refl

      pub passes_differ_at : (name : Text) → level_passes (shape_of_rules differ_rules name) [] nothing_held (codes "--offset" ∷ number ∷ swap ∷ other ∷ []) false ≡ true
      passes_differ_at name = ap₂ (λ a b. a && b) (walk_passes_differ_at name) (ap (end_passes (shape_of_rules differ_rules name)) held_differ_at ∙ end_passes_differ_at name)

      pub asks_differ_at : differ_in (rows_after differ_rules [] (codes "--offset" ∷ number ∷ swap ∷ other ∷ [])) ≡ Some (differ false (record { swap = swap; offset = n }) other)
      unfolding clap_on_literals
      asks_differ_at = ap (λ h. differ_in (finished differ_rules h)) held_differ_at ∙ simp (d.plain.dash, d.reads)

      held_differ_first_at : (walk differ_rules [] nothing_held (codes "--first" ∷ codes "--offset" ∷ number ∷ swap ∷ other ∷ [])).held ≡ held_with_other (first_row ∷ row_of (codes "offset") number WithoutMinus ∷ row_of (codes "swap") swap AsWritten ∷ []) other
      unfolding clap_on_literals
      held_differ_first_at = simp (s.dash, s.dashes, o.dash, o.dashes, d.plain.dash, d.plain.dashes)

      walk_passes_differ_first_at : (name : Text) → walk_passes (shape_of_rules differ_rules name) [] (walk_from nothing_held) (codes "--first" ∷ codes "--offset" ∷ number ∷ swap ∷ other ∷ []) ≡ true
      unfolding clap_on_literals
      walk_passes_differ_first_at name = simp (s.dash, s.dashes, o.dash, o.dashes, d.plain.dash, d.plain.dashes, d.fits)

      end_passes_differ_first_at : (name : Text) → end_passes (shape_of_rules differ_rules name) (held_with_other (first_row ∷ row_of (codes "offset") number WithoutMinus ∷ row_of (codes "swap") swap AsWritten ∷ []) other) ≡ true
      unfolding clap_on_literals
      end_passes_differ_first_at name = refl

      pub passes_differ_first_at : (name : Text) → level_passes (shape_of_rules differ_rules name) [] nothing_held (codes "--first" ∷ codes "--offset" ∷ number ∷ swap ∷ other ∷ []) false ≡ true
      passes_differ_first_at name = ap₂ (λ a b. a && b) (walk_passes_differ_first_at name) (ap (end_passes (shape_of_rules differ_rules name)) held_differ_first_at ∙ end_passes_differ_first_at name)

      pub asks_differ_first_at : differ_in (rows_after differ_rules [] (codes "--first" ∷ codes "--offset" ∷ number ∷ swap ∷ other ∷ [])) ≡ Some (differ true (record { swap = swap; offset = n }) other)
      unfolding clap_on_literals
      asks_differ_first_at = ap (λ h. differ_in (finished differ_rules h)) held_differ_first_at ∙ simp (d.plain.dash, d.reads)

      held_differ_at_first : (walk differ_rules [] nothing_held (codes "--offset" ∷ number ∷ codes "--first" ∷ swap ∷ other ∷ [])).held ≡ held_with_other (row_of (codes "offset") number WithoutMinus ∷ first_row ∷ row_of (codes "swap") swap AsWritten ∷ []) other
      unfolding clap_on_literals
      held_differ_at_first = simp (s.dash, s.dashes, o.dash, o.dashes, d.plain.dash, d.plain.dashes)

      walk_passes_differ_at_first : (name : Text) → walk_passes (shape_of_rules differ_rules name) [] (walk_from nothing_held) (codes "--offset" ∷ number ∷ codes "--first" ∷ swap ∷ other ∷ []) ≡ true
      unfolding clap_on_literals
      walk_passes_differ_at_first name = simp (s.dash, s.dashes, o.dash, o.dashes, d.plain.dash, d.plain.dashes, d.fits)

      end_passes_differ_at_first : (name : Text) → end_passes (shape_of_rules differ_rules name) (held_with_other (row_of (codes "offset") number WithoutMinus ∷ first_row ∷ row_of (codes "swap") swap AsWritten ∷ []) other) ≡ true
      unfolding clap_on_literals
      end_passes_differ_at_first name = refl

      pub passes_differ_at_first : (name : Text) → level_passes (shape_of_rules differ_rules name) [] nothing_held (codes "--offset" ∷ number ∷ codes "--first" ∷ swap ∷ other ∷ []) false ≡ true
      passes_differ_at_first name = ap₂ (λ a b. a && b) (walk_passes_differ_at_first name) (ap (end_passes (shape_of_rules differ_rules name)) held_differ_at_first ∙ end_passes_differ_at_first name)

      pub asks_differ_at_first : differ_in (rows_after differ_rules [] (codes "--offset" ∷ number ∷ codes "--first" ∷ swap ∷ other ∷ [])) ≡ Some (differ true (record { swap = swap; offset = n }) other)
      unfolding clap_on_literals
      asks_differ_at_first = ap (λ h. differ_in (finished differ_rules h)) held_differ_at_first ∙ simp (d.plain.dash, d.reads)
