-- The typed program of a source does what the source does.
use Rattle.std.proofs.Common.{◌≡◌, ℕ, zero, suc, ◌+◌, List, [], ◌∷◌, ◌++◌, length, Some, None, refl, sym, ap, ◌∙◌, subst, arith}
use Rattle.std.specs.Prelude.{slice_get}
use Rattle.std.specs.List.{AllByRecursion, AllZip}
use Rattle.std.specs.Option.{option_map_or}
use Rattle.write_format.specs.Line.{FormatText}
use Rattle.dbc_reader.specs.declared.message.DbcMessage.{DbcMessage}
use Rattle.capl_tree.specs.declared.file.Program.{Program}
use Rattle.capl_tree.specs.declared.statement.Stmt.{Stmt}
use Rattle.typed_tree.specs.declared.program.TFun.{TFun}
use Rattle.typed_tree.specs.declared.program.Typed.{Typed}
use Rattle.typed_tree.specs.Expression.{params_of}
use Rattle.typed_tree.specs.Program.{body_of as typed_body_of}
use Rattle.capl_meaning.specs.Variable.{parts_of}
use Rattle.capl_meaning.specs.Names.{Function, Names, Scope, inside_function, names_of}
use Rattle.capl_meaning.specs.Calls.{function_numbered}
use Rattle.capl_meaning.specs.Initial.{first_store}
use Rattle.capl_meaning.specs.Statement.{Handler}
use Rattle.capl_meaning.specs.Inside.Procedure.{handlers_of}
use Rattle.typed_laws.specs.Agreement.{DoesAs, HandlerDoesAs, ProgramDoesAs, parameter_slots}
use Rattle.typed_laws.proofs.Declared.{handlers_named}
use Rattle.typed_source.specs.Statement.{StandFrom, formats_of}
use Rattle.typed_source.specs.Program.{HasEach, HasNoOther, body_of, formats_of_body, formats_of_function, formats_of_functions, formats_of_handlers, function_of, functions_of, typed_handlers, typed_program}
use Rattle.typed_source.proofs.Formats.{first_part, second_part}
use Rattle.typed_source.proofs.Starts.{store_made}
use Rattle.typed_source.proofs.Statements.{does}

-- a body
pub body_does : (scope : Scope) (order : List ℕ) → HasEach scope.names order → (formats : List FormatText) (before : ℕ) (body : List Stmt) → StandFrom before (formats_of_body scope body) formats →
    AllZip (DoesAs scope order formats) body (body_of scope order before body)
body_does scope order each formats before [] there = tt
body_does scope order each formats before (first ∷ rest) there = (
  does scope order each formats before first (first_part before (formats_of scope first) (formats_of_body scope rest) formats there),
  body_does scope order each formats (before + length (formats_of scope first)) rest (second_part before (formats_of scope first) (formats_of_body scope rest) formats there),
)

-- ---- functions

-- a function of a typed program, at its place among others: so many formats stand before its own
record Placed (names : Names) (order : List ℕ) (formats : List FormatText) (functions : List TFun) (k number : ℕ) : Type 0 where
  before : ℕ
  is_there : slice_get functions k ≡ Some (function_of names order before (function_numbered names number))
  formats_there : StandFrom before (formats_of_function names (function_numbered names number)) formats

placed : (names : Names) (order : List ℕ) (formats : List FormatText) (before : ℕ) (numbers : List ℕ) → StandFrom before (formats_of_functions names numbers) formats → (k number : ℕ) →
    slice_get numbers k ≡ Some number → Placed names order formats (functions_of names order before numbers) k number
placed names order formats before [] there k number e = absurd (let f : None ≡ Some number = e in cc)
placed names order formats before (first ∷ rest) there zero number e =
    let own = formats_of_function names (function_numbered names first) in
    let same : first ≡ number = let f : Some first ≡ Some number = e in cc in
    subst (λ x. Placed names order formats (functions_of names order before (first ∷ rest)) zero x) same
    (record { before = before; is_there = refl; formats_there = first_part before own (formats_of_functions names rest) formats there })
placed names order formats before (first ∷ rest) there (suc k) number e =
    let own = formats_of_function names (function_numbered names first) in
    let found = placed names order formats (before + length own) rest (second_part before own (formats_of_functions names rest) formats there) k number e in
    record { before = found.before; is_there = found.is_there; formats_there = found.formats_there }

-- ---- event procedures

handlers_do : (names : Names) (order : List ℕ) → HasEach names order → (line : ℕ → ℕ → ℕ) (formats : List FormatText) (before : ℕ) (handlers : List Handler) →
    AllByRecursion (λ (h : Handler). h.scope.names ≡ names) handlers → StandFrom before (formats_of_handlers handlers) formats →
    AllZip (HandlerDoesAs order formats) handlers (typed_handlers order line before handlers)
handlers_do names order each line formats before [] named there = tt
handlers_do names order each line formats before (h ∷ rest) named there =
    let own = formats_of_body h.scope h.body in (
      record {
        event = refl;
        file = refl;
        body = body_does h.scope order (subst (λ ns. HasEach ns order) (sym named.0) each) formats before h.body (first_part before own (formats_of_handlers rest) formats there);
      },
      handlers_do names order each line formats (before + length own) rest named.1 (second_part before own (formats_of_handlers rest) formats there),
    )

-- ---- programs

module _ (base : List DbcMessage) (program : Program) (order : List ℕ) (line : ℕ → ℕ → ℕ) where
  abbrev names : Names
  names = names_of base program

  abbrev own_formats : List FormatText
  own_formats = formats_of_functions names order

  abbrev all_formats : List FormatText
  all_formats = own_formats ++ formats_of_handlers (handlers_of names program)

  all_stand : StandFrom 0 all_formats all_formats
  all_stand i format e = let first : 0 + i ≡ i = omega arith in ap (slice_get all_formats) first ∙ e

  abbrev whole : Typed
  whole = typed_program base program order line

  -- the typed program of a source does what the source does, in any order that has its functions
  pub program_does : HasEach names order → HasNoOther names order → ProgramDoesAs base program whole
  program_does each no_other = record {
    order = order;
    fits = record { kinds = refl; timers = refl; functions = λ k number at. fits k number at (no_other k number at) };
    starts = record { made = store_made names (first_store names) };
    functions = record { bodies = λ k number f at is. bodies k number f at is };
    handlers = handlers_do names order each line all_formats (length own_formats) (handlers_of names program) (handlers_named names (parts_of program)) behind;
  }
    where
      at_place : (k number : ℕ) → slice_get order k ≡ Some number → Placed names order all_formats whole.functions k number
      at_place k number at =
          placed names order all_formats 0 order (first_part 0 own_formats (formats_of_handlers (handlers_of names program)) all_formats all_stand) k number at

      fits : (k number : ℕ) → slice_get order k ≡ Some number → (f : Function) × (function_numbered names number ≡ Some f) →
          (f : Function) × (function_numbered names number ≡ Some f) × (params_of whole k ≡ parameter_slots names f)
      fits k number at found =
          let here = at_place k number at in (
            found.0,
            found.1,
            ap (λ o. option_map_or (λ (f : TFun). f.params) o []) here.is_there
                ∙ ap (λ o. (function_of names order here.before o).params) found.1,
          )

      bodies : (k number : ℕ) (f : Function) → slice_get order k ≡ Some number → function_numbered names number ≡ Some f →
          AllZip (DoesAs (inside_function names f) order all_formats) f.body (typed_body_of whole k)
      bodies k number f at is =
          let here = at_place k number at in
          let found : typed_body_of whole k ≡ body_of (inside_function names f) order here.before f.body =
          ap (λ o. option_map_or (λ (f : TFun). f.body) o []) here.is_there ∙ ap (λ o. (function_of names order here.before o).body) is in
          subst (λ l. AllZip (DoesAs (inside_function names f) order all_formats) f.body l) (sym found)
          (body_does (inside_function names f) order each all_formats here.before f.body
          (subst (λ o. StandFrom here.before (formats_of_function names o) all_formats) is here.formats_there))

      behind : StandFrom (length own_formats) (formats_of_handlers (handlers_of names program)) all_formats
      behind = let first : 0 + length own_formats ≡ length own_formats = omega arith in
          subst (λ n. StandFrom n (formats_of_handlers (handlers_of names program)) all_formats) first
          (second_part 0 own_formats (formats_of_handlers (handlers_of names program)) all_formats all_stand)
