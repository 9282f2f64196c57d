-- The code of a sound typed program is no longer than the source's weight.
use Rattle.std.proofs.Common.{◌≡◌, ◌≢◌, ℕ, zero, suc, ◌+◌, ◌≤◌, Bool, true, false, List, [], ◌∷◌, ◌++◌, length, Option, Some, None, refl, sym, ap, ◌∙◌, subst, arith}
use Rattle.std.specs.Prelude.{All, AllPairs, ◌==◌, cond, filter_map, find, flat_map, is_some, slice_get, sum_by}
use Rattle.std.specs.List.{AllByRecursion, cons_option}
use Rattle.std.specs.Option.{option_map_or}
use Rattle.std.proofs.lemmas.Bool.{eqb-true}
use Rattle.std.proofs.lemmas.List.Elements.{recursion_from_All}
use Rattle.std.proofs.lemmas.List.Sums.{sum_by-cons}
use Rattle.run_effects.specs.declared.event.Event.{Event}
use Rattle.run_effects.specs.declared.event.Event.TheVariants as event
use Rattle.dbc_reader.specs.declared.message.DbcMessage.{DbcMessage}
use Rattle.capl_tree.specs.declared.file.FileTree.{FileTree}
use Rattle.capl_tree.specs.declared.file.Program.{Program}
use Rattle.capl_tree.specs.declared.file.TopItem.{TopItem}
use Rattle.capl_tree.specs.declared.file.TopItem.TheVariants as top
use Rattle.capl_tree.specs.declared.procedure.Head.{Head}
use Rattle.capl_tree.specs.declared.procedure.Head.TheVariants as head
use Rattle.capl_tree.specs.declared.procedure.Proc.{Proc}
use Rattle.capl_tree.specs.declared.statement.Stmt.{Stmt}
use Rattle.capl_tree.specs.Weight.{file_weight, procedure_weight, statement_weight, top_item_weight, weight}
use Rattle.typed_tree.specs.declared.program.TFun.{TFun}
use Rattle.typed_tree.specs.declared.program.THandler.{THandler}
use Rattle.typed_tree.specs.declared.program.Typed.{Typed}
use Rattle.typed_tree.specs.declared.statement.TStmt.{TStmt}
use Rattle.typed_tree.specs.Shape.{body_goes_on}
use Rattle.typed_tree.specs.Size.{procedure_size, size, stmt_size, tail_size}
use Rattle.typed_tree.specs.Sound.{IsSound, IsSoundHandler, in_function, in_handler}
use Rattle.typed_tree.specs.SoundStatement.{Around, IsSoundStmt}
use Rattle.capl_meaning.specs.Variable.{Part, Globals, Procedure, parts_of, parts_of_files, parts_of_items}
use Rattle.capl_meaning.specs.Names.{Function, Names, Scope, function_by, function_of_part, inside, inside_function, names_of}
use Rattle.capl_meaning.specs.Calls.{function_numbered}
use Rattle.capl_meaning.specs.Statement.{Handler, event_of, handlers_of_part, timer_named}
use Rattle.capl_meaning.specs.ProcedureRules.{ranges_of}
use Rattle.capl_meaning.specs.Inside.Procedure.{handlers_of}
use Rattle.typed_source.specs.Statement.{formats_of, statement_of}
use Rattle.typed_source.specs.Program.{HasNoOther, body_of, formats_of_body, formats_of_function, formats_of_functions, function_of, functions_of, typed_handlers, typed_program}
use Rattle.typed_source.proofs.StatementSizes.{small}

-- ---- weights

-- what the statements of a procedure weigh, with 8 for itself
abbrev body_weight : List Stmt → ℕ
body_weight body = 8 + sum_by statement_weight body

abbrev part_weighs : Part → ℕ
part_weighs (Globals file declarations) = 0
part_weighs (Procedure number file procedure) = procedure_weight procedure

items_weight : (file : ℕ) (items : List TopItem) (number : ℕ) (others : ℕ → List Part) (w : ℕ) → ((n : ℕ) → sum_by part_weighs (others n) ≡ w) →
    sum_by part_weighs (parts_of_items file items number others) ≡ sum_by top_item_weight items + w
items_weight file [] number others w h = let e : w ≡ 0 + w = omega arith in h number ∙ e
items_weight file (top.Includes names ∷ items) number others w h =
    let e : sum_by top_item_weight (top.Includes names ∷ items) ≡ 0 + sum_by top_item_weight items = sum_by-cons top_item_weight (top.Includes names) items in
    let f : sum_by part_weighs (parts_of_items file items number others) ≡ sum_by top_item_weight items + w = items_weight file items number others w h in
    omega (arith, e, f)
items_weight file (top.Variables declarations ∷ items) number others w h =
    let e : sum_by top_item_weight (top.Variables declarations ∷ items) ≡ 0 + sum_by top_item_weight items = sum_by-cons top_item_weight (top.Variables declarations) items in
    let f : sum_by part_weighs (parts_of_items file items number others) ≡ sum_by top_item_weight items + w = items_weight file items number others w h in
    let g : sum_by part_weighs (Globals file declarations ∷ parts_of_items file items number others) ≡ 0 + sum_by part_weighs (parts_of_items file items number others) =
    sum_by-cons part_weighs (Globals file declarations) (parts_of_items file items number others) in
    omega (arith, e, f, g)
items_weight file (top.Proc procedure ∷ items) number others w h =
    let e : sum_by top_item_weight (top.Proc procedure ∷ items) ≡ procedure_weight procedure + sum_by top_item_weight items = sum_by-cons top_item_weight (top.Proc procedure) items in
    let f : sum_by part_weighs (parts_of_items file items (suc number) others) ≡ sum_by top_item_weight items + w = items_weight file items (suc number) others w h in
    let g : sum_by part_weighs (Procedure number file procedure ∷ parts_of_items file items (suc number) others) ≡ procedure_weight procedure + sum_by part_weighs (parts_of_items file items (suc number) others) =
    sum_by-cons part_weighs (Procedure number file procedure) (parts_of_items file items (suc number) others) in
    omega (arith, e, f, g)

files_weight : (file : ℕ) (trees : List FileTree) (number : ℕ) → sum_by part_weighs (parts_of_files file trees number) ≡ sum_by file_weight trees
files_weight file [] number = refl
files_weight file (tree ∷ trees) number =
    items_weight file tree.items number (parts_of_files (suc file) trees) (sum_by file_weight trees) (λ n. files_weight (suc file) trees n) ∙ sym (sum_by-cons file_weight tree trees)

-- ---- functions and event procedures of parts

abbrev function_weighs : Function → ℕ
function_weighs f = body_weight f.body

abbrev handler_weighs : Handler → ℕ
handler_weighs h = body_weight h.body

module _ (names : Names) where
  abbrev handlers_in : List Part → List Handler
  handlers_in parts = flat_map (handlers_of_part names) parts

  abbrev functions_in : List Part → List Function
  functions_in parts = filter_map function_of_part parts

  procedure_weighs : (number file : ℕ) (procedure : Proc) (fs : List Function) (hs : List Handler) (w : ℕ) → sum_by function_weighs fs + sum_by handler_weighs hs ≤ w → (form : Head) →
      sum_by function_weighs (cons_option (function_by number file form procedure.body) fs) + sum_by handler_weighs (option_map_or (λ (e : Event). record {
        scope = inside names number file procedure.head;
        event = e;
        body = procedure.body;
        file = file;
        token = procedure.at;
      } ∷ []) (event_of names form) [] ++ hs) ≤ procedure_weight procedure + w
  procedure_weighs number file procedure fs hs w h form = go form
    where
      one_handler : (e : Event) → sum_by function_weighs fs + sum_by handler_weighs (record { scope = inside names number file procedure.head; event = e; body = procedure.body; file = file; token = procedure.at } ∷ hs) ≤ procedure_weight procedure + w
      one_handler e =
          let p : sum_by handler_weighs (record { scope = inside names number file procedure.head; event = e; body = procedure.body; file = file; token = procedure.at } ∷ hs) ≡ body_weight procedure.body + sum_by handler_weighs hs =
          sum_by-cons handler_weighs (record { scope = inside names number file procedure.head; event = e; body = procedure.body; file = file; token = procedure.at }) hs in
          omega (arith, h, p)

      go : (form : Head) → sum_by function_weighs (cons_option (function_by number file form procedure.body) fs) + sum_by handler_weighs (option_map_or (λ (e : Event). record {
        scope = inside names number file procedure.head;
        event = e;
        body = procedure.body;
        file = file;
        token = procedure.at;
      } ∷ []) (event_of names form) [] ++ hs) ≤ procedure_weight procedure + w
      go (head.Function kind name parameters at) =
          let f : Function = record { number = number; file = file; token = at; name = name; gives = kind; parameters = parameters; body = procedure.body } in
          let p : sum_by function_weighs (f ∷ fs) ≡ body_weight procedure.body + sum_by function_weighs fs = sum_by-cons function_weighs f fs in
          omega (arith, h, p)
      go head.PreStart = one_handler event.PreStart
      go head.Start = one_handler event.Start
      go head.Stop = one_handler event.Stop
      go (head.Message selectors) = one_handler (event.Message (flat_map (ranges_of names.base) selectors))
      go (head.Timer name at) = one_handler (event.Timer (timer_named names name))
      go (head.Key value) = one_handler (event.Key value)

  parts_weigh : (parts : List Part) → sum_by function_weighs (functions_in parts) + sum_by handler_weighs (handlers_in parts) ≤ sum_by part_weighs parts
  parts_weigh [] = omega arith
  parts_weigh (Globals file declarations ∷ parts) =
      let h : sum_by function_weighs (functions_in parts) + sum_by handler_weighs (handlers_in parts) ≤ sum_by part_weighs parts = parts_weigh parts in
      let e : sum_by part_weighs (Globals file declarations ∷ parts) ≡ 0 + sum_by part_weighs parts = sum_by-cons part_weighs (Globals file declarations) parts in
      omega (arith, h, e)
  parts_weigh (Procedure number file procedure ∷ parts) =
      let e : sum_by part_weighs (Procedure number file procedure ∷ parts) ≡ procedure_weight procedure + sum_by part_weighs parts = sum_by-cons part_weighs (Procedure number file procedure) parts in
      subst (λ n. sum_by function_weighs (functions_in (Procedure number file procedure ∷ parts)) + sum_by handler_weighs (handlers_in (Procedure number file procedure ∷ parts)) ≤ n) (sym e)
      (procedure_weighs number file procedure (functions_in parts) (handlers_in parts) (sum_by part_weighs parts) (parts_weigh parts) procedure.head)

-- ---- sizes

tail_short : (gives b : Bool) → tail_size gives b ≤ 2
tail_short true true = omega arith
tail_short false true = omega arith
tail_short true false = omega arith
tail_short false false = omega arith

module _ (typed : Typed) (order : List ℕ) where
  body_small : (s : Scope) (around : Around) (before : ℕ) (body : List Stmt) → AllByRecursion (IsSoundStmt typed around) (body_of s order before body) →
      sum_by (stmt_size typed) (body_of s order before body) ≤ sum_by statement_weight body
  body_small s around before [] sound = omega arith
  body_small s around before (first ∷ rest) sound =
      let p : stmt_size typed (statement_of s order before first) ≤ statement_weight first = small typed s order around before first sound.0 in
      let q : sum_by (stmt_size typed) (body_of s order (before + length (formats_of s first)) rest) ≤ sum_by statement_weight rest = body_small s around (before + length (formats_of s first)) rest sound.1 in
      let e : sum_by (stmt_size typed) (statement_of s order before first ∷ body_of s order (before + length (formats_of s first)) rest) ≡
      stmt_size typed (statement_of s order before first) + sum_by (stmt_size typed) (body_of s order (before + length (formats_of s first)) rest) =
      sum_by-cons (stmt_size typed) (statement_of s order before first) (body_of s order (before + length (formats_of s first)) rest) in
      let f : sum_by statement_weight (first ∷ rest) ≡ statement_weight first + sum_by statement_weight rest = sum_by-cons statement_weight first rest in
      omega (arith, p, q, e, f)

  procedure_small : (s : Scope) (around : Around) (before : ℕ) (gives : Bool) (body : List Stmt) → AllByRecursion (IsSoundStmt typed around) (body_of s order before body) →
      procedure_size typed gives (body_of s order before body) ≤ body_weight body
  procedure_small s around before gives body sound =
      let p : sum_by (stmt_size typed) (body_of s order before body) ≤ sum_by statement_weight body = body_small s around before body sound in
      let q : tail_size gives (body_goes_on true (body_of s order before body)) ≤ 2 = tail_short gives (body_goes_on true (body_of s order before body)) in
      omega (arith, p, q)

  -- all statements of a procedure are sound, wherever it stands
  abbrev IsSoundBody : List TStmt → Type 0
  IsSoundBody body = (around : Around) × AllByRecursion (IsSoundStmt typed around) body

  abbrev function_size : TFun → ℕ
  function_size f = procedure_size typed (is_some f.gives) f.body

  abbrev handler_size : THandler → ℕ
  handler_size h = procedure_size typed false h.body

  handlers_small : (line : ℕ → ℕ → ℕ) (before : ℕ) (hs : List Handler) → AllByRecursion (λ (h : THandler). IsSoundBody h.body) (typed_handlers order line before hs) →
      sum_by handler_size (typed_handlers order line before hs) ≤ sum_by handler_weighs hs
  handlers_small line before [] sound = omega arith
  handlers_small line before (h ∷ hs) sound =
      let later = before + length (formats_of_body h.scope h.body) in
      let made : THandler = record { event = h.event; body = body_of h.scope order before h.body; file = h.file; line = line h.file h.token } in
      let p : procedure_size typed false (body_of h.scope order before h.body) ≤ body_weight h.body = procedure_small h.scope sound.0.0 before false h.body sound.0.1 in
      let q : sum_by handler_size (typed_handlers order line later hs) ≤ sum_by handler_weighs hs = handlers_small line later hs sound.1 in
      let e : sum_by handler_size (made ∷ typed_handlers order line later hs) ≡ procedure_size typed false (body_of h.scope order before h.body) + sum_by handler_size (typed_handlers order line later hs) =
      sum_by-cons handler_size made (typed_handlers order line later hs) in
      let f : sum_by handler_weighs (h ∷ hs) ≡ body_weight h.body + sum_by handler_weighs hs = sum_by-cons handler_weighs h hs in
      omega (arith, p, q, e, f)

  -- what the function of a number weighs
  abbrev weighs : List Function → ℕ → ℕ
  weighs fs number = option_map_or function_weighs (find (λ f. f.number == number) fs) 0

  function_small : (names : Names) (before number : ℕ) (o : Option Function) → function_numbered names number ≡ o → (f : Function) → function_numbered names number ≡ Some f →
      IsSoundBody (function_of names order before o).body → function_size (function_of names order before o) ≤ weighs names.functions number
  function_small names before number None is f there sound = absurd (let e : None ≡ Some f = sym is ∙ there in cc)
  function_small names before number (Some g) is f there sound =
      let e : weighs names.functions number ≡ body_weight g.body = ap (λ o. option_map_or function_weighs o 0) is in
      let p : procedure_size typed (is_some g.gives) (body_of (inside_function names g) order before g.body) ≤ body_weight g.body =
      procedure_small (inside_function names g) sound.0 before (is_some g.gives) g.body sound.1 in
      omega (arith, e, p)

  functions_small : (names : Names) (before : ℕ) (numbers : List ℕ) → HasNoOther names numbers →
      ((k : ℕ) (f : TFun) → slice_get (functions_of names order before numbers) k ≡ Some f → IsSoundBody f.body) →
      sum_by function_size (functions_of names order before numbers) ≤ sum_by (weighs names.functions) numbers
  functions_small names before [] there sound = omega arith
  functions_small names before (number ∷ rest) there sound =
      let found = function_numbered names number in
      let later = before + length (formats_of_function names found) in
      let one = there zero number refl in
      let p : function_size (function_of names order before found) ≤ weighs names.functions number = function_small names before number found refl one.0 one.1 (sound zero (function_of names order before found) refl) in
      let q : sum_by function_size (functions_of names order later rest) ≤ sum_by (weighs names.functions) rest =
      functions_small names later rest (λ k n e. there (suc k) n e) (λ k f e. sound (suc k) f e) in
      let e : sum_by function_size (function_of names order before found ∷ functions_of names order later rest) ≡ function_size (function_of names order before found) + sum_by function_size (functions_of names order later rest) =
      sum_by-cons function_size (function_of names order before found) (functions_of names order later rest) in
      let f : sum_by (weighs names.functions) (number ∷ rest) ≡ weighs names.functions number + sum_by (weighs names.functions) rest = sum_by-cons (weighs names.functions) number rest in
      omega (arith, p, q, e, f)

-- ---- each function once

-- what one number weighs among others, which differ
abbrev only : ℕ → ℕ → ℕ → ℕ
only m w n = cond (m == n) w 0

only_other : (m w : ℕ) (numbers : List ℕ) → All (λ n. m ≢ n) numbers → sum_by (only m w) numbers ≡ 0
only_other m w [] others = refl
only_other m w (n ∷ rest) others =
    let e : sum_by (only m w) (n ∷ rest) ≡ only m w n + sum_by (only m w) rest = sum_by-cons (only m w) n rest in
    let h : sum_by (only m w) rest ≡ 0 = only_other m w rest (λ k d less. others (suc k) d (omega (arith, less))) in
    let f : only m w n ≡ 0 = go (m == n) refl in
    omega (arith, e, h, f)
  where
    go : (b : Bool) → m == n ≡ b → cond b w 0 ≡ 0
    go false is = refl
    go true is = absurd (others zero n (omega arith) (eqb-true m n is))

only_once : (m w : ℕ) (numbers : List ℕ) → AllPairs (λ one other. one ≢ other) numbers → sum_by (only m w) numbers ≤ w
only_once m w [] differ = omega arith
only_once m w (n ∷ rest) differ =
    let e : sum_by (only m w) (n ∷ rest) ≡ only m w n + sum_by (only m w) rest = sum_by-cons (only m w) n rest in
    subst (λ s. s ≤ w) (sym e) (go (m == n) refl (only_once m w rest (λ i j d less within. differ (suc i) (suc j) d (omega (arith, less)) (omega (arith, within)))))
  where
    go : (b : Bool) → m == n ≡ b → sum_by (only m w) rest ≤ w → cond b w 0 + sum_by (only m w) rest ≤ w
    go false is h = omega (arith, h)
    go true is h =
        let same : m ≡ n = eqb-true m n is in
        let none : sum_by (only m w) rest ≡ 0 = only_other m w rest (λ k d less f. differ zero (suc k) d (omega arith) (omega (arith, less)) (sym same ∙ f)) in
        omega (arith, none)

found_weighs : (g : Function) (fs : List Function) (number : ℕ) → option_map_or function_weighs (find (λ f. f.number == number) (g ∷ fs)) 0 ≤
    only g.number (function_weighs g) number + option_map_or function_weighs (find (λ f. f.number == number) fs) 0
found_weighs g fs number = go (g.number == number)
  where
    go : (b : Bool) → option_map_or function_weighs (cond b (Some g) (find (λ f. f.number == number) fs)) 0 ≤ cond b (function_weighs g) 0 + option_map_or function_weighs (find (λ f. f.number == number) fs) 0
    go true = omega arith
    go false = omega arith

sum_of_both : (f g h : ℕ → ℕ) → ((n : ℕ) → f n ≤ g n + h n) → (ns : List ℕ) → sum_by f ns ≤ sum_by g ns + sum_by h ns
sum_of_both f g h less [] = omega arith
sum_of_both f g h less (n ∷ ns) =
    let a : sum_by f (n ∷ ns) ≡ f n + sum_by f ns = sum_by-cons f n ns in
    let b : sum_by g (n ∷ ns) ≡ g n + sum_by g ns = sum_by-cons g n ns in
    let c : sum_by h (n ∷ ns) ≡ h n + sum_by h ns = sum_by-cons h n ns in
    let p : f n ≤ g n + h n = less n in
    let q : sum_by f ns ≤ sum_by g ns + sum_by h ns = sum_of_both f g h less ns in
    omega (arith, a, b, c, p, q)

none_weighs : (numbers : List ℕ) → sum_by (λ number. option_map_or function_weighs (find (λ (f : Function). f.number == number) []) 0) numbers ≡ 0
none_weighs [] = refl
none_weighs (n ∷ ns) =
    let e : sum_by (λ number. option_map_or function_weighs (find (λ (f : Function). f.number == number) []) 0) (n ∷ ns) ≡ 0 + sum_by (λ number. option_map_or function_weighs (find (λ (f : Function). f.number == number) []) 0) ns =
    sum_by-cons (λ number. option_map_or function_weighs (find (λ (f : Function). f.number == number) []) 0) n ns in
    let h : sum_by (λ number. option_map_or function_weighs (find (λ (f : Function). f.number == number) []) 0) ns ≡ 0 = none_weighs ns in
    omega (arith, e, h)

-- functions of different numbers weigh no more than all functions
once_weigh : (numbers : List ℕ) → AllPairs (λ one other. one ≢ other) numbers → (fs : List Function) →
    sum_by (λ number. option_map_or function_weighs (find (λ f. f.number == number) fs) 0) numbers ≤ sum_by function_weighs fs
once_weigh numbers differ [] = let e : sum_by (λ number. option_map_or function_weighs (find (λ (f : Function). f.number == number) []) 0) numbers ≡ 0 = none_weighs numbers in omega (arith, e)
once_weigh numbers differ (g ∷ fs) =
    let a : sum_by (λ number. option_map_or function_weighs (find (λ f. f.number == number) (g ∷ fs)) 0) numbers ≤
    sum_by (only g.number (function_weighs g)) numbers + sum_by (λ number. option_map_or function_weighs (find (λ f. f.number == number) fs) 0) numbers =
    sum_of_both (λ number. option_map_or function_weighs (find (λ f. f.number == number) (g ∷ fs)) 0) (only g.number (function_weighs g))
    (λ number. option_map_or function_weighs (find (λ f. f.number == number) fs) 0) (found_weighs g fs) numbers in
    let b : sum_by (only g.number (function_weighs g)) numbers ≤ function_weighs g = only_once g.number (function_weighs g) numbers differ in
    let c : sum_by (λ number. option_map_or function_weighs (find (λ f. f.number == number) fs) 0) numbers ≤ sum_by function_weighs fs = once_weigh numbers differ fs in
    let d : sum_by function_weighs (g ∷ fs) ≡ function_weighs g + sum_by function_weighs fs = sum_by-cons function_weighs g fs in
    omega (arith, a, b, c, d)

-- ---- programs

sound_bodies : (typed : Typed) (order : List ℕ) (hs : List THandler) → AllByRecursion (IsSoundHandler typed) hs → AllByRecursion (λ (h : THandler). IsSoundBody typed order h.body) hs
sound_bodies typed order [] sound = tt
sound_bodies typed order (h ∷ hs) sound = ((in_handler (length typed.functions), sound.0.statements), sound_bodies typed order hs sound.1)

-- the code of a sound typed program has at most as many instructions as the source's weight
pub program_small : (base : List DbcMessage) (program : Program) (order : List ℕ) (line : ℕ → ℕ → ℕ) → HasNoOther (names_of base program) order → AllPairs (λ one other. one ≢ other) order →
    IsSound (typed_program base program order line) → size (typed_program base program order line) ≤ weight program
program_small base program order line no_other differ sound =
    let names = names_of base program in
    let typed = typed_program base program order line in
    let formats = formats_of_functions names order in
    let a : sum_by (function_size typed order) (functions_of names order 0 order) ≤ sum_by (weighs typed order names.functions) order =
    functions_small typed order names 0 order no_other (λ k f e. (in_function k f, (sound.functions k f e).statements)) in
    let b : sum_by (weighs typed order names.functions) order ≤ sum_by function_weighs names.functions = once_weigh order differ names.functions in
    let c : sum_by (handler_size typed order) (typed_handlers order line (length formats) (handlers_of names program)) ≤ sum_by handler_weighs (handlers_of names program) =
    handlers_small typed order line (length formats) (handlers_of names program)
    (sound_bodies typed order (typed_handlers order line (length formats) (handlers_of names program)) (recursion_from_All (IsSoundHandler typed) _ sound.handlers)) in
    let d : sum_by function_weighs names.functions + sum_by handler_weighs (handlers_of names program) ≤ sum_by part_weighs (parts_of program) = parts_weigh names (parts_of program) in
    let e : sum_by part_weighs (parts_of program) ≡ weight program = files_weight 0 program.files 1 in
    omega (arith, a, b, c, d, e)
