-- The formats and timers of the typed program of a program that breaks no rule.
use Rattle.std.proofs.Common.{◌≡◌, ℕ, inl, inr, List, [], ◌∷◌, Option, Some, None, refl, sym, subst}
use Rattle.std.specs.Prelude.{All, filter_map}
use Rattle.std.specs.List.{AllByRecursion, cons_option}
use Rattle.std.proofs.lemmas.List.Elements.{All-from_recursion}
use Rattle.run_effects.specs.Effect.{IsUnit}
use Rattle.write_format.specs.Line.{IsCharArray, FormatText, IsShort, char_arrays}
use Rattle.dbc_reader.specs.declared.message.DbcMessage.{DbcMessage}
use Rattle.capl_tree.specs.declared.expr.Expr.{Expr}
use Rattle.capl_tree.specs.declared.file.Program.{Program}
use Rattle.typed_tree.specs.declared.program.Typed.{Typed}
use Rattle.capl_meaning.specs.Variable.{Form, Timer, Variable}
use Rattle.capl_meaning.specs.Names.{Function, Names, Scope, inside_function, names_of}
use Rattle.capl_meaning.specs.Calls.{function_numbered}
use Rattle.capl_meaning.specs.Offences.{offences_of}
use Rattle.capl_meaning.specs.Statement.{Handler}
use Rattle.capl_meaning.specs.Store.{unit_of}
use Rattle.capl_meaning.specs.Inside.Procedure.{handlers_of}
use Rattle.typed_laws.specs.Laid.{IsAmong}
use Rattle.typed_laws.proofs.Declared.{all_append}
use Rattle.typed_source.specs.Program.{formats_of_body, formats_of_function, formats_of_functions, formats_of_handlers, typed_program}
use Rattle.typed_source.specs.Sound.{HasTables}
use Rattle.typed_source.specs.Statement.{format_of, text_written}
use Rattle.typed_source.proofs.Units.{have_units}
use Rattle.sound_programs.specs.Given.{HaveForms, IsReadable}
use Rattle.sound_programs.specs.Small.{IsSmallExpr}
use Rattle.sound_programs.proofs.Declarations.{have_forms, parts_clean}
use Rattle.sound_programs.proofs.Formats.{alone_formats, body_formats, written_arrays}
use Rattle.sound_programs.proofs.Parts.{IsGoodBody, IsGoodHandler, handlers_good, numbered_good}
use Rattle.sound_programs.proofs.Procedures.{tables_there}
use Rattle.sound_programs.proofs.Texts.{written_short}
use Rattle.sound_programs.proofs.Written.{Fits}

module _ (base : List DbcMessage) (program : Program) (order : List ℕ) (line : ℕ → ℕ → ℕ) (readable : IsReadable program) (clean : offences_of base program ≡ []) where
  abbrev names : Names
  names = names_of base program

  abbrev whole : Typed
  whole = typed_program base program order line

  -- ---- formats

  module _ (P : FormatText → Type 0)
      (written : (s : Scope) → s.names ≡ names → (format : Expr) (arguments : List Expr) (fit : Fits s format arguments) → IsSmallExpr format → AllByRecursion IsSmallExpr arguments → P (format_of s (text_written format) fit.pieces arguments)) where
    of_body : (s : Scope) → s.names ≡ names → (body : _) → IsGoodBody s body → AllByRecursion P (formats_of_body s body)
    of_body s named body good =
        body_formats s P (λ e few none. alone_formats s (subst HaveForms (sym named) (have_forms base program clean)) P (written s named) e few none) body good.small good.no_offence

    of_function : (number : ℕ) (o : Option Function) → function_numbered names number ≡ o → AllByRecursion P (formats_of_function names o)
    of_function number None is = tt
    of_function number (Some f) is = of_body (inside_function names f) refl f.body (numbered_good base program readable (parts_clean base program clean) number f is).body

    of_functions : (numbers : List ℕ) → AllByRecursion P (formats_of_functions names numbers)
    of_functions [] = tt
    of_functions (number ∷ rest) = all_append P (formats_of_function names (function_numbered names number)) (formats_of_functions names rest) (of_function number (function_numbered names number) refl) (of_functions rest)

    of_handlers : (handlers : List Handler) → AllByRecursion (IsGoodHandler names) handlers → AllByRecursion P (formats_of_handlers handlers)
    of_handlers [] good = tt
    of_handlers (h ∷ rest) good = all_append P (formats_of_body h.scope h.body) (formats_of_handlers rest) (of_body h.scope good.0.named h.body good.0.body) (of_handlers rest good.1)

    -- what holds of each format of a `write` holds of all formats
    all_formats : All P whole.formats
    all_formats = All-from_recursion P whole.formats
        (all_append P (formats_of_functions names order) (formats_of_handlers (handlers_of names program)) (of_functions order) (of_handlers (handlers_of names program) (handlers_good base program readable (parts_clean base program clean))))

  -- all arrays that the formats read are there and of characters
  pub arrays_there : All (λ format. All (IsCharArray (typed_program base program order line).cells) (char_arrays format)) (typed_program base program order line).formats
  arrays_there = all_formats (λ format. All (IsCharArray whole.cells) (char_arrays format))
      (λ s named format arguments fit few others. All-from_recursion (IsCharArray whole.cells) (char_arrays (format_of s (text_written format) fit.pieces arguments))
      (written_arrays whole s (subst (λ n. HasTables n whole) (sym named) (tables_there base program order line readable clean)) format arguments fit))

  -- and all formats are short
  pub formats_short : All IsShort (typed_program base program order line).formats
  formats_short = all_formats IsShort (λ s named format arguments fit few others. written_short s format arguments fit few others)

  -- ---- timers

  units_of : (vs : List Variable) → ((v : Variable) → IsAmong v vs → IsAmong v names.variables) → AllByRecursion IsUnit (filter_map (λ v. unit_of v.form) vs)
  units_of [] all = tt
  units_of (v ∷ vs) all = go v.form refl (units_of vs (λ u among. all u (inr among)))
    where
      go : (form : Form) → v.form ≡ form → AllByRecursion IsUnit (filter_map (λ v. unit_of v.form) vs) → AllByRecursion IsUnit (cons_option (unit_of form) (filter_map (λ v. unit_of v.form) vs))
      go (Timer unit) is rest = (have_units base program v unit (record { among = all v (inl refl); form_is = is }), rest)
      go other is rest = rest

  -- all timers have a unit
  pub units_fine : All IsUnit (typed_program base program order line).timers
  units_fine = All-from_recursion IsUnit whole.timers (units_of names.variables (λ v among. among))
