-- The functions and event procedures of the typed program of a program that breaks no rule are sound, where each
-- function stands behind those that it calls.
use Rattle.std.proofs.Common.{◌≡◌, ◌≢◌, ℕ, zero, suc, ◌+◌, ◌≤◌, ◌<◌, ◌^◌, Bool, true, false, List, [], ◌∷◌, ◌++◌, length, map, Option, Some, None, refl, sym, ap, ◌∙◌, subst, arith}
use Rattle.std.specs.Prelude.{⊤, ◌==◌, All, AllPairs, Contains, filter_map, flat_map, is_some, slice_get}
use Rattle.std.specs.List.{AllByRecursion, cons_option}
use Rattle.std.specs.Option.{option_map_or}
use Rattle.std.proofs.lemmas.List.{length-map}
use Rattle.std.proofs.lemmas.List.Elements.{All-from_recursion, recursion_from_All}
use Rattle.std.proofs.lemmas.Option.{slice_get_within}
use Rattle.write_format.specs.Line.{FormatText}
use Rattle.dbc_reader.specs.declared.message.DbcMessage.{DbcMessage}
use Rattle.capl_tree.specs.declared.file.Program.{Program}
use Rattle.capl_tree.specs.declared.statement.Stmt.{Stmt}
use Rattle.capl_tree.specs.Grammar.{IsBodyPart}
use Rattle.typed_tree.specs.declared.program.TFun.{TFun}
use Rattle.typed_tree.specs.declared.program.THandler.{THandler}
use Rattle.typed_tree.specs.declared.program.Typed.{Typed}
use Rattle.typed_tree.specs.Sound.{IsSoundFunction, IsSoundHandler}
use Rattle.typed_tree.specs.SoundStatement.{IsSoundStmt}
use Rattle.capl_meaning.specs.Variable.{parts_of, variables_of}
use Rattle.capl_meaning.specs.Names.{Callee, Function, Names, OfProgram, Scope, callee, function_of_part, inside_function, names_of}
use Rattle.capl_meaning.specs.Calls.{called_by, called_by_number, names_called, function_numbered, number_of_callee}
use Rattle.capl_meaning.specs.Offences.{offences_of}
use Rattle.capl_meaning.specs.Statement.{Handler}
use Rattle.capl_meaning.specs.StatementRules.{in_body, statement_offences}
use Rattle.capl_meaning.specs.Inside.Procedure.{handlers_of}
use Rattle.typed_laws.specs.Agreement.{ArePlain, parameter_slots}
use Rattle.typed_laws.specs.Laid.{AreDistinct, IsAmong}
use Rattle.typed_laws.proofs.Declared.{plain_names}
use Rattle.typed_laws.proofs.Distinct.{distinct_without_offences}
use Rattle.typed_laws.proofs.Places.{found_among}
use Rattle.typed_source.specs.Expression.{place_in}
use Rattle.typed_source.specs.Program.{IsBefore, IsGoodOrder, body_of, formats_of_body, formats_of_function, formats_of_functions, formats_of_handlers, function_of, functions_of, typed_handlers, typed_program}
use Rattle.typed_source.specs.Sound.{HasTables, IsCallable}
use Rattle.typed_source.specs.Statement.{StandFrom, formats_of, statement_of}
use Rattle.typed_source.proofs.Formats.{first_part, second_part}
use Rattle.typed_source.proofs.Orders.{at_place, has_place}
use Rattle.typed_source.proofs.Tables.{has_tables}
use Rattle.typed_source.proofs.Units.{have_units}
use Rattle.sound_programs.specs.Given.{AreCallable, HaveForms, IsReadable, in_procedure}
use Rattle.sound_programs.specs.Small.{IsSmallStmt}
use Rattle.sound_programs.proofs.Declarations.{have_elements, have_forms, parts_clean}
use Rattle.sound_programs.proofs.Empty.{back, front}
use Rattle.sound_programs.proofs.Made.{all_back, all_front}
use Rattle.sound_programs.proofs.Parameters.{HasDistinctParameters, cells_apart, cells_there, distinct_functions}
use Rattle.sound_programs.proofs.Parts.{IsGoodBody, IsGoodFunction, IsGoodHandler, handlers_good, numbered_good, one_among}
use Rattle.sound_programs.proofs.Repeated.{pairs}
use Rattle.sound_programs.proofs.Statements.{statement}

-- ---- bodies

module _ (typed : Typed) (number : ℕ) (s : Scope) (order : List ℕ) (tables : HasTables s.names typed) (forms : HaveForms s.names) where
  -- the statements of a body
  body_sound : (before : ℕ) (body : List Stmt) → AllByRecursion IsBodyPart body → AllByRecursion IsSmallStmt body → flat_map (statement_offences s in_body) body ≡ [] →
      AreCallable s.names order typed number (flat_map names_called body) → StandFrom before (formats_of_body s body) typed.formats → AllByRecursion (IsSoundStmt typed (in_procedure number s)) (body_of s order before body)
  body_sound before [] formed few none called formats = tt
  body_sound before (first ∷ rest) formed few none called formats = (
    statement typed number s order tables forms in_body before first formed.0 few.0 (front (statement_offences s in_body first) _ none) (all_front _ (names_called first) (flat_map names_called rest) called)
        (first_part before (formats_of s first) (formats_of_body s rest) typed.formats formats),
    body_sound (before + length (formats_of s first)) rest formed.1 few.1 (back (statement_offences s in_body first) _ none) (all_back _ (names_called first) (flat_map names_called rest) called)
        (second_part before (formats_of s first) (formats_of_body s rest) typed.formats formats),
  )

-- as many trees as statements
body_long : (s : Scope) (order : List ℕ) (before : ℕ) (body : List Stmt) → length (body_of s order before body) ≡ length body
body_long s order before [] = refl
body_long s order before (first ∷ rest) = ap suc (body_long s order (before + length (formats_of s first)) rest)

-- ---- functions at their places

-- a function of a typed program, by its number in the source: so many formats stand before its own
record Placed (names : Names) (order : List ℕ) (formats : List FormatText) (number : ℕ) (function : TFun) : Type 0 where
  before : ℕ
  is : function ≡ function_of names order before (function_numbered names number)
  formats_there : StandFrom before (formats_of_function names (function_numbered names number)) formats

-- the functions of numbers stand at the places of these
placed : (names : Names) (order : List ℕ) (formats : List FormatText) (before : ℕ) (numbers : List ℕ) → StandFrom before (formats_of_functions names numbers) formats → (k number : ℕ) → slice_get numbers k ≡ Some number →
    (function : TFun) × (slice_get (functions_of names order before numbers) k ≡ Some function) × Placed names order formats number function
placed names order formats before [] there k number e = absurd (let f : None ≡ Some number = e in cc)
placed names order formats before (first ∷ rest) there zero number e =
    let own = formats_of_function names (function_numbered names first) in
    let same : first ≡ number = let f : Some first ≡ Some number = e in cc in (
      function_of names order before (function_numbered names first),
      refl,
      subst (λ n. Placed names order formats n (function_of names order before (function_numbered names first))) same (record { before = before; is = refl; formats_there = first_part before own (formats_of_functions names rest) formats there }),
    )
placed names order formats before (first ∷ rest) there (suc k) number e =
    let own = formats_of_function names (function_numbered names first) in
    placed names order formats (before + length own) rest (second_part before own (formats_of_functions names rest) formats there) k number e

-- each function has a number
numbered : (names : Names) (order : List ℕ) (before : ℕ) (numbers : List ℕ) (k : ℕ) (function : TFun) → slice_get (functions_of names order before numbers) k ≡ Some function → (number : ℕ) × (slice_get numbers k ≡ Some number)
numbered names order before [] k function e = absurd (let f : None ≡ Some function = e in cc)
numbered names order before (first ∷ rest) zero function e = (first, refl)
numbered names order before (first ∷ rest) (suc k) function e = numbered names order (before + length (formats_of_function names (function_numbered names first))) rest k function e

module _ (base : List DbcMessage) (program : Program) (order : List ℕ) (line : ℕ → ℕ → ℕ) (readable : IsReadable program) (none : offences_of base program ≡ []) where
  abbrev names : Names
  names = names_of base program

  abbrev whole : Typed
  whole = typed_program base program order line

  abbrev own_formats : List FormatText
  own_formats = formats_of_functions names order

  abbrev all_formats : List FormatText
  all_formats = own_formats ++ formats_of_handlers (handlers_of names program)

  distinct : AreDistinct names.variables
  distinct = distinct_without_offences base program none

  plain : ArePlain names
  plain = plain_names base program distinct

  -- the tables are those of the names
  pub tables_there : HasTables (names_of base program) (typed_program base program order line)
  tables_there = has_tables names distinct whole refl refl (have_elements base program none) (have_units base program)

  all_stand : StandFrom 0 all_formats all_formats
  all_stand i format e = let first : 0 + i ≡ i = omega arith in ap (slice_get all_formats) first ∙ e

  at_order : (k number : ℕ) → slice_get order k ≡ Some number → (function : TFun) × (slice_get whole.functions k ≡ Some function) × Placed names order all_formats number function
  at_order k number at = placed names order all_formats 0 order (first_part 0 own_formats (formats_of_handlers (handlers_of names program)) all_formats all_stand) k number at

  module _ (good : IsGoodOrder (names_of base program) order) where
    -- ---- calls

    -- a function that is called stands at a place
    stands : (name : List ℕ) (f : Function) → callee names name ≡ OfProgram f → (k : ℕ) × (place_in order f.number ≡ Some k) × (slice_get order k ≡ Some f.number)
    stands name f is = go (place_in order f.number) refl
      where
        there : Contains order f.number
        there = good.has_each f.number f (plain.numbered name f is)

        go : (o : Option ℕ) → place_in order f.number ≡ o → (k : ℕ) × (place_in order f.number ≡ Some k) × (slice_get order k ≡ Some f.number)
        go None e = absurd (has_place f.number order there e)
        go (Some k) e = (k, e, at_place f.number order k e)

    -- it can be called where its place is before the procedure
    callable : (name : List ℕ) (f : Function) → callee names name ≡ OfProgram f → (number : ℕ) → ((k : ℕ) → slice_get order k ≡ Some f.number → k < number) → IsCallable order whole number f
    callable name f is number earlier =
        let here = stands name f is in
        let function = at_order here.0 f.number here.2 in
        let found = plain.numbered name f is in
        let same : function.0 ≡ function_of names order function.2.before (Some f) = function.2.is ∙ ap (function_of names order function.2.before) found in
        record {
          place = here.0;
          is_there = here.1;
          earlier = earlier here.0 here.2;
          function = function.0;
          is_function = function.1;
          same_count = ap (λ (t : TFun). length t.params) same ∙ length-map f.parameters _;
          same_gives = ap (λ (t : TFun). t.gives) same;
          few_parameters = (numbered_good base program readable (parts_clean base program none) f.number f found).few;
        }

    -- each function that an event procedure calls
    callable_in_handler : (called : List (List ℕ)) → AreCallable names order whole (length whole.functions) called
    callable_in_handler [] = tt
    callable_in_handler (name ∷ rest) =
        (λ f is. callable name f is (length whole.functions) (λ k at. slice_get_within whole.functions k (at_order k f.number at).0 (at_order k f.number at).1), callable_in_handler rest)

    -- each function that a function calls
    callable_in_function : (number k : ℕ) → slice_get order k ≡ Some number → (called : List (List ℕ)) →
        AllByRecursion (λ other. IsBefore order other number) (filter_map (λ name. number_of_callee (callee names name)) called) → AreCallable names order whole k called
    callable_in_function number k at [] before = tt
    callable_in_function number k at (name ∷ rest) before =
        (λ f is. callable name f is k (λ i there. (first f is) i k there at), callable_in_function number k at rest (others (number_of_callee (callee names name)) before))
      where
        first : (f : Function) → callee names name ≡ OfProgram f → IsBefore order f.number number
        first f is =
            (subst (λ c. AllByRecursion (λ other. IsBefore order other number) (cons_option (number_of_callee c) (filter_map (λ name. number_of_callee (callee names name)) rest))) is before).0

        others : (o : Option ℕ) → AllByRecursion (λ other. IsBefore order other number) (cons_option o (filter_map (λ name. number_of_callee (callee names name)) rest)) →
            AllByRecursion (λ other. IsBefore order other number) (filter_map (λ name. number_of_callee (callee names name)) rest)
        others None h = h
        others (Some n) h = h.1

    -- ---- functions

    function_sound : (k number before : ℕ) (f : Function) → slice_get order k ≡ Some number → function_numbered names number ≡ Some f →
        StandFrom before (formats_of_function names (Some f)) all_formats → IsSoundFunction whole k (function_of names order before (Some f))
    function_sound k number before f at is formats =
        let fine = numbered_good base program readable (parts_clean base program none) number f is in
        let params = plain.parameters number f is in
        let distinct_names = one_among HasDistinctParameters (filter_map function_of_part (parts_of program)) f (distinct_functions base (parts_of program) distinct) (found_among (λ g. g.number == number) names.functions f is) in
        let before_it : AllByRecursion (λ other. IsBefore order other number) (called_by names f) =
        subst (λ o. AllByRecursion (λ other. IsBefore order other number) (option_map_or (called_by names) o [])) is (recursion_from_All (λ other. IsBefore order other number) (called_by_number names number) (good.calls_earlier number)) in
        record {
          few_params = subst (λ n. n < 2 ^ 32) (sym (length-map f.parameters _)) fine.few;
          params_exist = All-from_recursion (λ param. param < length whole.cells) (parameter_slots names f) (cells_there names distinct f.number f.file whole tables_there f.parameters params);
          params_differ = pairs (λ a b. a ≢ b) (parameter_slots names f) (cells_apart names distinct f.number f.file f.parameters distinct_names params);
          few_statements = subst (λ n. n < 2 ^ 32) (sym (body_long (inside_function names f) order before f.body)) fine.body.few;
          statements = body_sound whole k (inside_function names f) order tables_there (have_forms base program none) before f.body fine.body.well_formed fine.body.small fine.body.no_offence
              (callable_in_function number k at (flat_map names_called f.body) before_it) formats;
        }

    -- each function is sound
    pub functions_sound : (k : ℕ) (function : TFun) → slice_get (typed_program base program order line).functions k ≡ Some function → IsSoundFunction (typed_program base program order line) k function
    functions_sound k function e =
        let number = numbered names order 0 order k function e in
        let here = at_order k number.0 number.1 in
        let f = good.has_no_other k number.0 number.1 in
        let same : here.0 ≡ function = let g : Some here.0 ≡ Some function = sym here.1 ∙ e in cc in
        let is : here.0 ≡ function_of names order here.2.before (Some f.0) = here.2.is ∙ ap (function_of names order here.2.before) f.1 in
        subst (λ t. IsSoundFunction whole k t) (sym is ∙ same)
        (function_sound k number.0 here.2.before f.0 number.1 f.1 (subst (λ o. StandFrom here.2.before (formats_of_function names o) all_formats) f.1 here.2.formats_there))

    -- ---- event procedures

    handler_sound : (before : ℕ) (h : Handler) → IsGoodHandler names h → StandFrom before (formats_of_body h.scope h.body) all_formats → IsSoundHandler whole (record {
      event = h.event;
      body = body_of h.scope order before h.body;
      file = h.file;
      line = line h.file h.token;
    })
    handler_sound before h fine formats = record {
      few_selectors = fine.few;
      few_statements = subst (λ n. n < 2 ^ 32) (sym (body_long h.scope order before h.body)) fine.body.few;
      statements = subst (λ b. AllByRecursion (IsSoundStmt whole (record { number = length whole.functions; gives = b; breakable = false; continuable = false })) (body_of h.scope order before h.body)) fine.gives
          (body_sound whole (length whole.functions) h.scope order (subst (λ n. HasTables n whole) (sym fine.named) tables_there) (subst HaveForms (sym fine.named) (have_forms base program none)) before h.body
          fine.body.well_formed fine.body.small fine.body.no_offence
          (subst (λ n. AreCallable n order whole (length whole.functions) (flat_map names_called h.body)) (sym fine.named) (callable_in_handler (flat_map names_called h.body))) formats);
    }

    all_sound : (before : ℕ) (handlers : List Handler) → AllByRecursion (IsGoodHandler names) handlers → StandFrom before (formats_of_handlers handlers) all_formats →
        AllByRecursion (IsSoundHandler whole) (typed_handlers order line before handlers)
    all_sound before [] fine formats = tt
    all_sound before (h ∷ rest) fine formats =
        let own = formats_of_body h.scope h.body in
        (handler_sound before h fine.0 (first_part before own (formats_of_handlers rest) all_formats formats), all_sound (before + length own) rest fine.1 (second_part before own (formats_of_handlers rest) all_formats formats))

    -- each event procedure is sound
    pub handlers_sound : All (IsSoundHandler (typed_program base program order line)) (typed_program base program order line).handlers
    handlers_sound =
        let first : 0 + length own_formats ≡ length own_formats = omega arith in
        All-from_recursion (IsSoundHandler whole) whole.handlers
        (all_sound (length own_formats) (handlers_of names program) (handlers_good base program readable (parts_clean base program none))
        (subst (λ n. StandFrom n (formats_of_handlers (handlers_of names program)) all_formats) first (second_part 0 own_formats (formats_of_handlers (handlers_of names program)) all_formats all_stand)))
