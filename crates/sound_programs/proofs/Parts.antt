-- What is known of the procedures of a program that breaks no rule.
use Rattle.std.proofs.Common.{◌≡◌, ℕ, suc, ◌*◌, ◌≤◌, ◌<◌, ◌^◌, length-append, inl, inr, Bool, true, false, List, [], ◌∷◌, length, Option, Some, None, refl, subst, arith}
use Rattle.std.specs.Prelude.{⊤, ◌==◌, if◌then◌else◌, filter_map, flat_map, is_some}
use Rattle.std.specs.List.{AllByRecursion, cons_option}
use Rattle.std.specs.Option.{option_map_or}
use Rattle.std.proofs.lemmas.List.Elements.{recursion_from_All}
use Rattle.run_effects.specs.declared.event.Event.{Event}
use Rattle.run_effects.specs.declared.event.Selector.{Selector}
use Rattle.run_effects.specs.Effect.{selectors_of}
use Rattle.dbc_reader.specs.declared.message.DbcMessage.{DbcMessage}
use Rattle.capl_tree.specs.declared.file.FileTree.{FileTree}
use Rattle.capl_tree.specs.declared.file.Program.{Program}
use Rattle.capl_tree.specs.declared.file.TopItem.{TopItem}
use Rattle.capl_tree.specs.declared.file.TopItem.TheVariants as top
use Rattle.capl_tree.specs.declared.procedure.Head.{Head}
use Rattle.capl_tree.specs.declared.procedure.Head.TheVariants as head
use Rattle.capl_tree.specs.declared.procedure.Proc.{Proc}
use Rattle.capl_tree.specs.declared.procedure.Sel.{Sel}
use Rattle.capl_tree.specs.declared.statement.Stmt.{Stmt}
use Rattle.capl_tree.specs.Grammar.{IsBodyPart, IsFile, IsProcedure, IsTopItem}
use Rattle.capl_meaning.specs.Variable.{Part, Globals, Procedure, parts_of, parts_of_files, parts_of_items}
use Rattle.capl_meaning.specs.Names.{Function, Names, Scope, function_by, function_of_part, inside, inside_function, names_of}
use Rattle.capl_meaning.specs.Calls.{function_numbered}
use Rattle.capl_meaning.specs.Offences.{part_offences}
use Rattle.capl_meaning.specs.Statement.{Handler, event_of, handlers_of_part, handlers_in}
use Rattle.capl_meaning.specs.ProcedureRules.{Both, Channels, First, Second, all_on, channels_of, head_offences, identifiers_on, inner_name_offences, keys_on, ranges_of, selector_of}
use Rattle.capl_meaning.specs.StatementRules.{in_body, statement_offences}
use Rattle.typed_laws.specs.Laid.{IsAmong}
use Rattle.typed_laws.proofs.Declared.{all_append}
use Rattle.typed_laws.proofs.Places.{found_among}
use Rattle.sound_programs.specs.Given.{IsReadable}
use Rattle.sound_programs.specs.Small.{IsSmallHead, IsSmallItem, IsSmallProcedure, IsSmallStmt}
use Rattle.sound_programs.proofs.Empty.{back, front}

-- ---- parts

-- the procedure of a part, if it is one, is well formed and small
abbrev pub IsReadablePart : Part → Type 0
IsReadablePart (Globals file declarations) = ⊤
IsReadablePart (Procedure number file procedure) = IsProcedure procedure × IsSmallProcedure procedure

readable_items : (file : ℕ) (items : List TopItem) (number : ℕ) (others : ℕ → List Part) → AllByRecursion IsTopItem items → AllByRecursion IsSmallItem items →
    ((n : ℕ) → AllByRecursion IsReadablePart (others n)) → AllByRecursion IsReadablePart (parts_of_items file items number others)
readable_items file [] number others formed few rest = rest number
readable_items file (top.Includes names ∷ items) number others formed few rest = readable_items file items number others formed.1 few.1 rest
readable_items file (top.Variables declarations ∷ items) number others formed few rest = (tt, readable_items file items number others formed.1 few.1 rest)
readable_items file (top.Proc procedure ∷ items) number others formed few rest = ((formed.0, few.0), readable_items file items (suc number) others formed.1 few.1 rest)

readable_files : (file : ℕ) (trees : List FileTree) (number : ℕ) → AllByRecursion IsFile trees → AllByRecursion (λ (tree : FileTree). AllByRecursion IsSmallItem tree.items) trees →
    AllByRecursion IsReadablePart (parts_of_files file trees number)
readable_files file [] number formed few = tt
readable_files file (tree ∷ trees) number formed few =
    readable_items file tree.items number (parts_of_files (suc file) trees) (recursion_from_All IsTopItem tree.items formed.0) few.0 (λ n. readable_files (suc file) trees n formed.1 few.1)

-- each part of a readable program
pub readable_parts : (program : Program) → IsReadable program → AllByRecursion IsReadablePart (parts_of program)
readable_parts program readable = readable_files 0 program.files 1 (recursion_from_All IsFile program.files readable.well_formed) readable.small

-- ---- functions

-- a body is well formed and small and breaks no rule
pub record IsGoodBody (s : Scope) (body : List Stmt) : Type 0 where
  pub well_formed : AllByRecursion IsBodyPart body
  pub few : length body < 2 ^ 32
  pub small : AllByRecursion IsSmallStmt body
  pub no_offence : flat_map (statement_offences s in_body) body ≡ []

-- a function has few parameters and a good body
pub record IsGoodFunction (names : Names) (f : Function) : Type 0 where
  pub few : length f.parameters < 2 ^ 32
  pub body : IsGoodBody (inside_function names f) f.body

-- a procedure has a good body
good_body : (names : Names) (number file : ℕ) (procedure : Proc) → IsProcedure procedure × IsSmallProcedure procedure → part_offences names (Procedure number file procedure) ≡ [] →
    IsGoodBody (inside names number file procedure.head) procedure.body
good_body names number file procedure readable none = record {
  well_formed = recursion_from_All IsBodyPart procedure.body (readable.0).1;
  few = (readable.1).few_statements;
  small = (readable.1).statements;
  no_offence = back (inner_name_offences names number) _ (back (head_offences (inside names number file procedure.head) procedure.head) _ none);
}

good_function : (names : Names) (number file : ℕ) (form : Head) (body : List Stmt) (fs : List Function) → IsSmallHead form → IsGoodBody (inside names number file form) body → AllByRecursion (IsGoodFunction names) fs →
    AllByRecursion (IsGoodFunction names) (cons_option (function_by number file form body) fs)
good_function names number file (head.Function kind name parameters at) body fs few good rest = (record { few = few; body = good }, rest)
good_function names number file other body fs few good rest = rest

good_functions : (names : Names) (parts : List Part) → AllByRecursion IsReadablePart parts → flat_map (part_offences names) parts ≡ [] → AllByRecursion (IsGoodFunction names) (filter_map function_of_part parts)
good_functions names [] readable none = tt
good_functions names (Globals file declarations ∷ parts) readable none = good_functions names parts readable.1 (back (part_offences names (Globals file declarations)) _ none)
good_functions names (Procedure number file procedure ∷ parts) readable none =
    good_function names number file procedure.head procedure.body (filter_map function_of_part parts) ((readable.0).1).head
    (good_body names number file procedure readable.0 (front (part_offences names (Procedure number file procedure)) _ none)) (good_functions names parts readable.1 (back (part_offences names (Procedure number file procedure)) _ none))

-- what holds of each holds of one among them
pub one_among : {A : Type 0} (P : A → Type 0) (xs : List A) (x : A) → AllByRecursion P xs → IsAmong x xs → P x
one_among P [] x all among = elim among [ ]
one_among P (y ∷ ys) x all (inl e) = subst P e all.0
one_among P (y ∷ ys) x all (inr s) = one_among P ys x all.1 s

-- ---- event procedures

-- an event procedure has few selectors, gives nothing, and has a good body
pub record IsGoodHandler (names : Names) (h : Handler) : Type 0 where
  pub named : h.scope.names ≡ names
  pub few : length (selectors_of h.event) < 2 ^ 32
  pub gives : is_some h.scope.gives ≡ false
  pub body : IsGoodBody h.scope h.body

-- a selector stands for two ranges at most
few_on : (channels : Channels) (keys : Selector) → length (keys_on channels keys) ≤ 2
few_on channels keys = go (keys.rank == 2) channels
  where
    go : (b : Bool) (channels : Channels) → length (if b then all_on channels else identifiers_on channels keys) ≤ 2
    go true Both = omega arith
    go true First = omega arith
    go true Second = omega arith
    go false Both = omega arith
    go false First = omega arith
    go false Second = omega arith

few_selected : (base : List DbcMessage) (selectors : List Sel) → length (flat_map (ranges_of base) selectors) ≤ 2 * length selectors
few_selected base [] = omega arith
few_selected base (selector ∷ rest) =
    let one : length (ranges_of base selector) ≤ 2 = go (selector_of base selector.what) in
    let more = few_selected base rest in
    let both = length-append (ranges_of base selector) (flat_map (ranges_of base) rest) in
    omega (arith, one, more, both)
  where
    go : (o : Option Selector) → length (option_map_or (keys_on (channels_of selector.chan)) o []) ≤ 2
    go None = omega arith
    go (Some keys) = few_on (channels_of selector.chan) keys

good_handler : (names : Names) (number file token : ℕ) (form : Head) (body : List Stmt) → IsSmallHead form → IsGoodBody (inside names number file form) body →
    AllByRecursion (IsGoodHandler names) (option_map_or (λ (e : Event). record {
      scope = inside names number file form;
      event = e;
      body = body;
      file = file;
      token = token;
    } ∷ []) (event_of names form) [])
good_handler names number file token (head.Function kind name parameters at) body few good = tt
good_handler names number file token head.PreStart body few good = (record { named = refl; few = omega arith; gives = refl; body = good }, tt)
good_handler names number file token head.Start body few good = (record { named = refl; few = omega arith; gives = refl; body = good }, tt)
good_handler names number file token head.Stop body few good = (record { named = refl; few = omega arith; gives = refl; body = good }, tt)
good_handler names number file token (head.Message selectors) body few good =
    (record { named = refl; few = (let most : length (flat_map (ranges_of names.base) selectors) ≤ 2 * length selectors = few_selected names.base selectors in omega (arith, most, few)); gives = refl; body = good }, tt)
good_handler names number file token (head.Timer name at) body few good = (record { named = refl; few = omega arith; gives = refl; body = good }, tt)
good_handler names number file token (head.Key value) body few good = (record { named = refl; few = omega arith; gives = refl; body = good }, tt)

good_handlers : (names : Names) (parts : List Part) → AllByRecursion IsReadablePart parts → flat_map (part_offences names) parts ≡ [] → AllByRecursion (IsGoodHandler names) (flat_map (handlers_of_part names) parts)
good_handlers names [] readable none = tt
good_handlers names (Globals file declarations ∷ parts) readable none = good_handlers names parts readable.1 (back (part_offences names (Globals file declarations)) _ none)
good_handlers names (Procedure number file procedure ∷ parts) readable none =
    all_append (IsGoodHandler names) (handlers_of_part names (Procedure number file procedure)) (flat_map (handlers_of_part names) parts)
    (good_handler names number file procedure.at procedure.head procedure.body ((readable.0).1).head (good_body names number file procedure readable.0 (front (part_offences names (Procedure number file procedure)) _ none)))
    (good_handlers names parts readable.1 (back (part_offences names (Procedure number file procedure)) _ none))

module _ (base : List DbcMessage) (program : Program) (readable : IsReadable program) (clean : flat_map (part_offences (names_of base program)) (parts_of program) ≡ []) where
  -- each function of the program
  pub function_good : (f : Function) → IsAmong f (names_of base program).functions → IsGoodFunction (names_of base program) f
  function_good f among = one_among (IsGoodFunction (names_of base program)) (filter_map function_of_part (parts_of program)) f (good_functions (names_of base program) (parts_of program) (readable_parts program readable) clean) among

  -- and that of a number
  pub numbered_good : (number : ℕ) (f : Function) → function_numbered (names_of base program) number ≡ Some f → IsGoodFunction (names_of base program) f
  numbered_good number f is = function_good f (found_among (λ f. f.number == number) (names_of base program).functions f is)

  -- each event procedure
  pub handlers_good : AllByRecursion (IsGoodHandler (names_of base program)) (handlers_in base program)
  handlers_good = good_handlers (names_of base program) (parts_of program) (readable_parts program readable) clean
