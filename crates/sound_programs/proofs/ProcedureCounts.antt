-- The weight of a program bounds the functions, event procedures and formats of its typed program.
use Rattle.std.proofs.Common.{◌≡◌, ◌≢◌, ℕ, zero, suc, ◌+◌, ◌*◌, ◌≤◌, ◌<◌, ◌^◌, Bool, true, false, cond, List, [], ◌∷◌, ◌++◌, length, Option, Some, None, refl, sym, ap, ◌∙◌, subst, arith, length-append}
use Rattle.std.specs.Prelude.{⊤, ◌==◌, AllPairs, filter_map, find, flat_map, slice_get, sum_by}
use Rattle.std.specs.List.{AllByRecursion, cons_option}
use Rattle.std.specs.Option.{option_map_or}
use Rattle.std.proofs.lemmas.Bool.{eqb-true}
use Rattle.std.proofs.lemmas.Cmp.{nat_eq_equiv}
use Rattle.std.proofs.lemmas.List.Sums.{sum_by-append, sum_by-cons}
use Rattle.run_effects.specs.declared.event.Event.{Event}
use Rattle.dbc_reader.specs.declared.message.DbcMessage.{DbcMessage}
use Rattle.capl_tree.specs.declared.file.FileTree.{FileTree}
use Rattle.capl_tree.specs.declared.file.Program.{Program}
use Rattle.capl_tree.specs.declared.file.TopItem.{TopItem}
use Rattle.capl_tree.specs.declared.file.TopItem.TheVariants as top
use Rattle.capl_tree.specs.declared.procedure.Head.{Head}
use Rattle.capl_tree.specs.declared.procedure.Head.TheVariants as head
use Rattle.capl_tree.specs.declared.statement.Stmt.{Stmt}
use Rattle.capl_tree.specs.Weight.{file_weight, procedure_weight, statement_weight, top_item_weight, weight}
use Rattle.typed_tree.specs.declared.program.Typed.{Typed}
use Rattle.capl_meaning.specs.Variable.{Part, Globals, Procedure, parts_of, parts_of_files, parts_of_items}
use Rattle.capl_meaning.specs.Names.{Function, Names, function_by, function_of_part, inside, inside_function, names_of}
use Rattle.capl_meaning.specs.Calls.{function_numbered}
use Rattle.capl_meaning.specs.Statement.{Handler, event_of, handlers_of_part, handlers_in}
use Rattle.typed_source.specs.Program.{HasNoOther, formats_of_body, formats_of_function, formats_of_functions, formats_of_handlers, functions_of, typed_handlers, typed_program}
use Rattle.sound_programs.specs.Given.{HasShortLists}
use Rattle.sound_programs.proofs.FormatCounts.{body_light}
use Rattle.sound_programs.proofs.Repeated.{Apart, unpairs}

-- ---- parts

-- the weight of a part
abbrev part_weight : Part → ℕ
part_weight (Globals file declarations) = 0
part_weight (Procedure number file procedure) = procedure_weight procedure

items_light : (file : ℕ) (items : List TopItem) (number : ℕ) (others : ℕ → List Part) (rest : ℕ) → ((n : ℕ) → sum_by part_weight (others n) ≤ rest) →
    sum_by part_weight (parts_of_items file items number others) ≤ sum_by top_item_weight items + rest
items_light file [] number others rest h = let g : sum_by part_weight (others number) ≤ rest = h number in omega (arith, g)
items_light file (top.Includes names ∷ items) number others rest h =
    let g : sum_by part_weight (parts_of_items file items number others) ≤ sum_by top_item_weight items + rest = items_light file items number others rest h in
    let sum : sum_by top_item_weight (top.Includes names ∷ items) ≡ 0 + sum_by top_item_weight items = sum_by-cons top_item_weight (top.Includes names) items in
    omega (arith, g, sum)
items_light file (top.Variables declarations ∷ items) number others rest h =
    let g : sum_by part_weight (parts_of_items file items number others) ≤ sum_by top_item_weight items + rest = items_light file items number others rest h in
    let sum : sum_by top_item_weight (top.Variables declarations ∷ items) ≡ 0 + sum_by top_item_weight items = sum_by-cons top_item_weight (top.Variables declarations) items in
    let parts : sum_by part_weight (Globals file declarations ∷ parts_of_items file items number others) ≡ 0 + sum_by part_weight (parts_of_items file items number others) = sum_by-cons part_weight (Globals file declarations) (parts_of_items file items number others) in
    omega (arith, g, sum, parts)
items_light file (top.Proc procedure ∷ items) number others rest h =
    let g : sum_by part_weight (parts_of_items file items (suc number) others) ≤ sum_by top_item_weight items + rest = items_light file items (suc number) others rest h in
    let sum : sum_by top_item_weight (top.Proc procedure ∷ items) ≡ procedure_weight procedure + sum_by top_item_weight items = sum_by-cons top_item_weight (top.Proc procedure) items in
    let parts : sum_by part_weight (Procedure number file procedure ∷ parts_of_items file items (suc number) others) ≡ procedure_weight procedure + sum_by part_weight (parts_of_items file items (suc number) others) = sum_by-cons part_weight (Procedure number file procedure) (parts_of_items file items (suc number) others) in
    omega (arith, g, sum, parts)

files_light : (file : ℕ) (trees : List FileTree) (number : ℕ) → sum_by part_weight (parts_of_files file trees number) ≤ sum_by file_weight trees
files_light file [] number = omega arith
files_light file (tree ∷ trees) number =
    let g : sum_by part_weight (parts_of_items file tree.items number (parts_of_files (suc file) trees)) ≤ sum_by top_item_weight tree.items + sum_by file_weight trees =
    items_light file tree.items number (parts_of_files (suc file) trees) (sum_by file_weight trees) (λ n. files_light (suc file) trees n) in
    let sum : sum_by file_weight (tree ∷ trees) ≡ file_weight tree + sum_by file_weight trees = sum_by-cons file_weight tree trees in
    omega (arith, g, sum)

-- ---- functions and event procedures

-- what a function and its formats count
abbrev function_count : Names → Function → ℕ
function_count names f = 8 + 8 * length (formats_of_body (inside_function names f) f.body)

-- what an event procedure and its formats count
abbrev handler_count : Handler → ℕ
handler_count h = 8 + 8 * length (formats_of_body h.scope h.body)

module _ (names : Names) where
  -- a procedure is a function or an event procedure
  head_light : (number file token : ℕ) (form : Head) (body : List Stmt) (fs : List Function) → sum_by (function_count names) (cons_option (function_by number file form body) fs) + sum_by handler_count (option_map_or (λ (e : Event). record {
    scope = inside names number file form;
    event = e;
    body = body;
    file = file;
    token = token;
  } ∷ []) (event_of names form) []) ≤ 8 + sum_by statement_weight body + sum_by (function_count names) fs
  head_light number file token (head.Function kind name parameters at) body fs =
      let g : 8 * length (formats_of_body (inside names number file (head.Function kind name parameters at)) body) ≤ sum_by statement_weight body = body_light (inside names number file (head.Function kind name parameters at)) body in
      let f : Function = record {
        number = number;
        file = file;
        token = at;
        name = name;
        gives = kind;
        parameters = parameters;
        body = body;
      } in
      let sum : sum_by (function_count names) (f ∷ fs) ≡ function_count names f + sum_by (function_count names) fs = sum_by-cons (function_count names) f fs in
      omega (arith, g, sum)
  head_light number file token head.PreStart body fs =
      let g : 8 * length (formats_of_body (inside names number file head.PreStart) body) ≤ sum_by statement_weight body = body_light (inside names number file head.PreStart) body in omega (arith, g)
  head_light number file token head.Start body fs =
      let g : 8 * length (formats_of_body (inside names number file head.Start) body) ≤ sum_by statement_weight body = body_light (inside names number file head.Start) body in omega (arith, g)
  head_light number file token head.Stop body fs =
      let g : 8 * length (formats_of_body (inside names number file head.Stop) body) ≤ sum_by statement_weight body = body_light (inside names number file head.Stop) body in omega (arith, g)
  head_light number file token (head.Message selectors) body fs =
      let g : 8 * length (formats_of_body (inside names number file (head.Message selectors)) body) ≤ sum_by statement_weight body = body_light (inside names number file (head.Message selectors)) body in omega (arith, g)
  head_light number file token (head.Timer name at) body fs =
      let g : 8 * length (formats_of_body (inside names number file (head.Timer name at)) body) ≤ sum_by statement_weight body = body_light (inside names number file (head.Timer name at)) body in omega (arith, g)
  head_light number file token (head.Key value) body fs =
      let g : 8 * length (formats_of_body (inside names number file (head.Key value)) body) ≤ sum_by statement_weight body = body_light (inside names number file (head.Key value)) body in omega (arith, g)

  -- all together weigh no more than the parts
  parts_light : (parts : List Part) → sum_by (function_count names) (filter_map function_of_part parts) + sum_by handler_count (flat_map (handlers_of_part names) parts) ≤ sum_by part_weight parts
  parts_light [] = omega arith
  parts_light (Globals file declarations ∷ parts) =
      let h : sum_by (function_count names) (filter_map function_of_part parts) + sum_by handler_count (flat_map (handlers_of_part names) parts) ≤ sum_by part_weight parts = parts_light parts in
      let sum : sum_by part_weight (Globals file declarations ∷ parts) ≡ 0 + sum_by part_weight parts = sum_by-cons part_weight (Globals file declarations) parts in
      omega (arith, h, sum)
  parts_light (Procedure number file procedure ∷ parts) =
      let h : sum_by (function_count names) (filter_map function_of_part parts) + sum_by handler_count (flat_map (handlers_of_part names) parts) ≤ sum_by part_weight parts = parts_light parts in
      let sum : sum_by part_weight (Procedure number file procedure ∷ parts) ≡ procedure_weight procedure + sum_by part_weight parts = sum_by-cons part_weight (Procedure number file procedure) parts in
      let own : sum_by (function_count names) (cons_option (function_by number file procedure.head procedure.body) (filter_map function_of_part parts)) + sum_by handler_count (handlers_of_part names (Procedure number file procedure)) ≤
      procedure_weight procedure + sum_by (function_count names) (filter_map function_of_part parts) = head_light number file procedure.at procedure.head procedure.body (filter_map function_of_part parts) in
      let split : sum_by handler_count (handlers_of_part names (Procedure number file procedure) ++ flat_map (handlers_of_part names) parts) ≡
      sum_by handler_count (handlers_of_part names (Procedure number file procedure)) + sum_by handler_count (flat_map (handlers_of_part names) parts) = sum_by-append handler_count (handlers_of_part names (Procedure number file procedure)) _ in
      omega (arith, h, sum, own, split)

  -- ---- event procedures

  handlers_counted : (handlers : List Handler) → 8 * length handlers + 8 * length (formats_of_handlers handlers) ≤ sum_by handler_count handlers
  handlers_counted [] = omega arith
  handlers_counted (h ∷ rest) =
      let g : 8 * length rest + 8 * length (formats_of_handlers rest) ≤ sum_by handler_count rest = handlers_counted rest in
      let sum : sum_by handler_count (h ∷ rest) ≡ handler_count h + sum_by handler_count rest = sum_by-cons handler_count h rest in
      let split : length (formats_of_body h.scope h.body ++ formats_of_handlers rest) ≡ length (formats_of_body h.scope h.body) + length (formats_of_handlers rest) = length-append (formats_of_body h.scope h.body) _ in
      omega (arith, g, sum, split)

  -- ---- functions in an order

  -- what the function of a number counts
  abbrev count_at : List Function → ℕ → ℕ
  count_at fs n = option_map_or (function_count names) (find (λ f. f.number == n) fs) 0

  none_counted : (order : List ℕ) → sum_by (count_at []) order ≡ 0
  none_counted [] = refl
  none_counted (n ∷ rest) =
      let h : sum_by (count_at []) rest ≡ 0 = none_counted rest in
      let sum : sum_by (count_at []) (n ∷ rest) ≡ 0 + sum_by (count_at []) rest = sum_by-cons (count_at []) n rest in
      omega (arith, h, sum)

  -- a function that has none of these numbers counts for none
  not_counted : (f : Function) (fs : List Function) (order : List ℕ) → AllByRecursion (λ n. f.number ≢ n) order → sum_by (count_at (f ∷ fs)) order ≡ sum_by (count_at fs) order
  not_counted f fs [] apart = refl
  not_counted f fs (n ∷ rest) apart =
      let h : sum_by (count_at (f ∷ fs)) rest ≡ sum_by (count_at fs) rest = not_counted f fs rest apart.1 in
      let one : sum_by (count_at (f ∷ fs)) (n ∷ rest) ≡ count_at (f ∷ fs) n + sum_by (count_at (f ∷ fs)) rest = sum_by-cons (count_at (f ∷ fs)) n rest in
      let two : sum_by (count_at fs) (n ∷ rest) ≡ count_at fs n + sum_by (count_at fs) rest = sum_by-cons (count_at fs) n rest in
      let same : count_at (f ∷ fs) n ≡ count_at fs n = go (f.number == n) refl in
      omega (arith, h, one, two, same)
    where
      go : (b : Bool) → f.number == n ≡ b → option_map_or (function_count names) (cond (f.number == n) (Some f) (find (λ f. f.number == n) fs)) 0 ≡ count_at fs n
      go true is = absurd (apart.0 (eqb-true f.number n is))
      go false is = ap (λ b. option_map_or (function_count names) (cond b (Some f) (find (λ f. f.number == n) fs)) 0) is

  -- a function counts once at most
  once_counted : (f : Function) (fs : List Function) (order : List ℕ) → Apart (λ a b. a ≢ b) order → sum_by (count_at (f ∷ fs)) order ≤ function_count names f + sum_by (count_at fs) order
  once_counted f fs [] apart = omega arith
  once_counted f fs (n ∷ rest) apart = go (f.number == n) refl (once_counted f fs rest apart.1)
    where
      one : sum_by (count_at (f ∷ fs)) (n ∷ rest) ≡ count_at (f ∷ fs) n + sum_by (count_at (f ∷ fs)) rest
      one = sum_by-cons (count_at (f ∷ fs)) n rest

      two : sum_by (count_at fs) (n ∷ rest) ≡ count_at fs n + sum_by (count_at fs) rest
      two = sum_by-cons (count_at fs) n rest

      go : (b : Bool) → f.number == n ≡ b → sum_by (count_at (f ∷ fs)) rest ≤ function_count names f + sum_by (count_at fs) rest →
          sum_by (count_at (f ∷ fs)) (n ∷ rest) ≤ function_count names f + sum_by (count_at fs) (n ∷ rest)
      go true is h =
          let same : f.number ≡ n = eqb-true f.number n is in
          let here : count_at (f ∷ fs) n ≡ function_count names f = ap (λ b. option_map_or (function_count names) (cond b (Some f) (find (λ f. f.number == n) fs)) 0) is in
          let others : sum_by (count_at (f ∷ fs)) rest ≡ sum_by (count_at fs) rest = not_counted f fs rest (subst (λ m. AllByRecursion (λ k. m ≢ k) rest) (sym same) apart.0) in
          omega (arith, one, two, here, others)
      go false is h =
          let here : count_at (f ∷ fs) n ≡ count_at fs n = ap (λ b. option_map_or (function_count names) (cond b (Some f) (find (λ f. f.number == n) fs)) 0) is in
          omega (arith, one, two, here, h)

  -- functions of different numbers count no more than all functions
  all_counted : (fs : List Function) (order : List ℕ) → Apart (λ a b. a ≢ b) order → sum_by (count_at fs) order ≤ sum_by (function_count names) fs
  all_counted [] order apart = let h : sum_by (count_at []) order ≡ 0 = none_counted order in omega (arith, h)
  all_counted (f ∷ fs) order apart =
      let h : sum_by (count_at fs) order ≤ sum_by (function_count names) fs = all_counted fs order apart in
      let g : sum_by (count_at (f ∷ fs)) order ≤ function_count names f + sum_by (count_at fs) order = once_counted f fs order apart in
      let sum : sum_by (function_count names) (f ∷ fs) ≡ function_count names f + sum_by (function_count names) fs = sum_by-cons (function_count names) f fs in
      omega (arith, h, g, sum)

  -- functions in an order, and their formats
  order_counted : (order : List ℕ) → ((k number : ℕ) → slice_get order k ≡ Some number → (f : Function) × (function_numbered names number ≡ Some f)) →
      8 * length order + 8 * length (formats_of_functions names order) ≤ sum_by (count_at names.functions) order
  order_counted [] there = omega arith
  order_counted (n ∷ rest) there =
      let h : 8 * length rest + 8 * length (formats_of_functions names rest) ≤ sum_by (count_at names.functions) rest = order_counted rest (λ k number e. there (suc k) number e) in
      let sum : sum_by (count_at names.functions) (n ∷ rest) ≡ count_at names.functions n + sum_by (count_at names.functions) rest = sum_by-cons (count_at names.functions) n rest in
      let found = there zero n refl in
      let own : 8 + 8 * length (formats_of_function names (function_numbered names n)) ≡ count_at names.functions n =
      ap (λ o. 8 + 8 * length (formats_of_function names o)) found.1 ∙ sym (ap (λ o. option_map_or (function_count names) o 0) found.1) in
      let split : length (formats_of_function names (function_numbered names n) ++ formats_of_functions names rest) ≡ length (formats_of_function names (function_numbered names n)) + length (formats_of_functions names rest) = length-append (formats_of_function names (function_numbered names n)) _ in
      omega (arith, h, sum, own, split)

-- ---- typed programs

functions_long : (names : Names) (order : List ℕ) (before : ℕ) (numbers : List ℕ) → length (functions_of names order before numbers) ≡ length numbers
functions_long names order before [] = refl
functions_long names order before (n ∷ rest) = ap suc (functions_long names order (before + length (formats_of_function names (function_numbered names n))) rest)

handlers_long : (order : List ℕ) (line : ℕ → ℕ → ℕ) (before : ℕ) (handlers : List Handler) → length (typed_handlers order line before handlers) ≡ length handlers
handlers_long order line before [] = refl
handlers_long order line before (h ∷ rest) = ap suc (handlers_long order line (before + length (formats_of_body h.scope h.body)) rest)

-- a light program has few functions, event procedures and formats
pub short_lists : (base : List DbcMessage) (program : Program) (order : List ℕ) (line : ℕ → ℕ → ℕ) → HasNoOther (names_of base program) order → AllPairs (λ a b. a ≢ b) order → weight program < 2 ^ 35 →
    HasShortLists (typed_program base program order line)
short_lists base program order line other once light =
    let names : Names = names_of base program in
    let a : sum_by part_weight (parts_of program) ≤ weight program = files_light 0 program.files 1 in
    let b : sum_by (function_count (names_of base program)) (names_of base program).functions + sum_by handler_count (handlers_in base program) ≤ sum_by part_weight (parts_of program) = parts_light (names_of base program) (parts_of program) in
    let c : 8 * length (handlers_in base program) + 8 * length (formats_of_handlers (handlers_in base program)) ≤ sum_by handler_count (handlers_in base program) =
    handlers_counted (names_of base program) (handlers_in base program) in
    let d : sum_by (count_at (names_of base program) (names_of base program).functions) order ≤ sum_by (function_count (names_of base program)) (names_of base program).functions =
    all_counted (names_of base program) (names_of base program).functions order (unpairs (λ a b. a ≢ b) order once) in
    let e : 8 * length order + 8 * length (formats_of_functions (names_of base program) order) ≤ sum_by (count_at (names_of base program) (names_of base program).functions) order = order_counted (names_of base program) order other in
    let f : length (functions_of (names_of base program) order 0 order) ≡ length order = functions_long (names_of base program) order 0 order in
    let g : length (typed_program base program order line).handlers ≡ length (handlers_in base program) = handlers_long order line _ (handlers_in base program) in
    let h : length (formats_of_functions (names_of base program) order ++ formats_of_handlers (handlers_in base program)) ≡
    length (formats_of_functions (names_of base program) order) + length (formats_of_handlers (handlers_in base program)) = length-append (formats_of_functions (names_of base program) order) _ in
    record {
      functions = omega (arith, a, b, c, d, e, f, light);
      handlers = omega (arith, a, b, c, d, e, g, light);
      formats = omega (arith, a, b, c, d, e, h, light);
    }
