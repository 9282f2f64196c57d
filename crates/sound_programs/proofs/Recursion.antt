-- No function that is called in a program that breaks no rule reaches the procedure that calls it.
use mathlib.Core.Former.{Count}
use Rattle.std.proofs.Common.{◌≡◌, ℕ, Bool, true, false, not, ◌&&◌, cond, List, [], ◌∷◌, ◌++◌, length, Option, Some, None, refl, ap, subst}
use Rattle.std.specs.Prelude.{⊤, ◌==◌, All, filter_map, find, flat_map, if◌then◌else◌}
use Rattle.std.specs.List.{AllByRecursion, cons_option}
use Rattle.std.specs.Option.{option_map_or, option_to_list}
use Rattle.std.proofs.lemmas.Bool.{eqb-true}
use Rattle.std.proofs.lemmas.List.Elements.{All-from_recursion}
use Rattle.dbc_reader.specs.declared.message.DbcMessage.{DbcMessage}
use Rattle.dbc_reader.specs.declared.signals.DbcSignal.{DbcSignal}
use Rattle.capl_tree.specs.declared.declaration.Decl.{Decl}
use Rattle.capl_tree.specs.declared.declaration.DeclType.{DeclType}
use Rattle.capl_tree.specs.declared.declaration.Declr.{Declr}
use Rattle.capl_tree.specs.declared.declaration.Init.{Init}
use Rattle.capl_tree.specs.declared.declaration.Init.TheVariants.{One, Many}
use Rattle.capl_tree.specs.declared.declaration.Item.{Item}
use Rattle.capl_tree.specs.declared.declaration.Item.TheVariants.{Plain, Set}
use Rattle.capl_tree.specs.declared.expr.Expr.{Expr, Row_of-Expr, end_of-Expr, more_of-Expr, items-the_row-Expr}
use Rattle.capl_tree.specs.declared.expr.Expr.TheVariants as expr
use Rattle.capl_tree.specs.declared.expr.Field.{Field}
use Rattle.capl_tree.specs.declared.expr.Field.TheVariants.{Named}
use Rattle.capl_tree.specs.declared.file.Program.{Program}
use Rattle.capl_tree.specs.declared.statement.Label.{Label}
use Rattle.capl_tree.specs.declared.statement.Stmt.{Stmt, Row_of-Stmt, end_of-Stmt, more_of-Stmt}
use Rattle.capl_tree.specs.declared.statement.Stmt.TheBlock.{Row_of-Arm, end_of-Arm, more_of-Arm, Row_of-Group, end_of-Group, more_of-Group, Held-Stmt-If-1}
use Rattle.capl_tree.specs.declared.statement.Stmt.TheVariants as stmt
use Rattle.capl_tree.specs.Forms as tree
use Rattle.capl_meaning.specs.Variable.{Form, Number, Array, Message, Timer, Misfit, form_of, parts_of}
use Rattle.capl_meaning.specs.Names.{Callee, Function, Names, OfLanguage, OfProgram, Unknown, Scope, callee, inside_function, names_of}
use Rattle.capl_meaning.specs.Calls.{called_by, called_by_number, calls_in, calls_in_declarator, calls_in_field, calls_in_init, calls_in_item, calls_in_labels, calls_in_part, calls_in_row, names_called, calls_of_arms, calls_of_else, calls_of_groups, calls_of_row, function_numbered, number_of_callee, reaches}
use Rattle.capl_meaning.specs.Message.{signals_of_type}
use Rattle.capl_meaning.specs.Sort.{is_recursive, sort_of}
use Rattle.capl_meaning.specs.ExpressionRules.{call_rules, function_rules, integer_needed, integer_offences, offence, offences, offences_of_field, offences_of_row}
use Rattle.capl_meaning.specs.DeclarationRules.{array_item_rules, constant_offences, field_item_rules, initialiser_offences, item_offences, many_rules, message_item_rules, const_rule, declaration_offences, declarator_offences, form_rule, size_offences, type_rules}
use Rattle.capl_meaning.specs.StatementRules as source
use Rattle.capl_meaning.specs.StatementRules.{alone_offences, in_body, in_loop, label_offences, labels_said, labels_rule, needed_offences, offences_of_arms, offences_of_else, offences_of_groups, offences_of_statements, return_rule, statement_offences}
use Rattle.capl_meaning.specs.Offences.{offences_of}
use Rattle.typed_laws.proofs.Declared.{all_append}
use Rattle.sound_programs.specs.Given.{IsReadable}
use Rattle.sound_programs.proofs.Declarations.{parts_clean}
use Rattle.sound_programs.proofs.Empty.{back, front, full, unbroken}
use Rattle.sound_programs.proofs.Parts.{numbered_good}

module _ (s : Scope) where
  -- no function of the program that one of these names calls reaches the procedure
  abbrev NotBack : List ℕ → Type 0
  NotBack name = (f : Function) → callee s.names name ≡ OfProgram f → is_recursive s f ≡ false

  abbrev Forward : List (List ℕ) → Type 0
  Forward called = AllByRecursion NotBack called

  joined : (xs ys : List (List ℕ)) → Forward xs → Forward ys → Forward (xs ++ ys)
  joined xs ys f g = all_append NotBack xs ys f g

  called_forward : (at : ℕ) (f : Function) (arguments : List Expr) → function_rules s at f arguments ≡ [] → is_recursive s f ≡ false
  called_forward at f arguments none =
      unbroken (is_recursive s f) s at 26 (back (flat_map (integer_needed s) arguments) _ (back (if not (length arguments == length f.parameters) then offence s at 16 ∷ [] else []) _ none))

  -- ---- expressions

  mutual
    forward : (e : Expr) → offences s e ≡ [] → Forward (calls_in e)
    forward (expr.Num value extended at) none = tt
    forward (expr.Char value at) none = tt
    forward (expr.Str text at) none = tt
    forward (expr.This at) none = tt
    forward (expr.Name name at) none = tt
    forward (tree.Paren inner at) none = forward inner none
    forward (expr.Call' name shape args at) none =
        (λ f is. called_forward at f (items-the_row-Expr _ args) (subst (λ c. call_rules s at c (items-the_row-Expr _ args) ≡ []) is (back (offences_of_row s args) _ none)), forward_row args (front (offences_of_row s args) _ none))
    forward (tree.Index base index at) none =
        joined (calls_in base) (calls_in index) (forward base (front (offences s base) _ none)) (forward index (front (offences s index) _ (back (offences s base) _ none)))
    forward (tree.Member base field at) none =
        joined (calls_in base) (calls_in_field field) (forward base (front (offences s base) _ none)) (forward_field field (front (offences_of_field s field) _ (back (offences s base) _ none)))
    forward (tree.Cast k inner at) none = forward inner (front (offences s inner) _ none)
    forward (tree.Unary operator inner at) none = forward inner (front (offences s inner) _ none)
    forward (tree.Post up inner at) none = forward inner (front (offences s inner) _ none)
    forward (tree.Binary operator left right at) none =
        joined (calls_in left) (calls_in right) (forward left (front (offences s left) _ none)) (forward right (front (offences s right) _ (back (offences s left) _ none)))
    forward (tree.Cond given one other at) none =
        let rest = back (offences s given) _ none in
        joined (calls_in given) (calls_in one ++ calls_in other) (forward given (front (offences s given) _ none))
        (joined (calls_in one) (calls_in other) (forward one (front (offences s one) _ rest)) (forward other (front (offences s other) _ (back (offences s one) _ rest))))
    forward (tree.Assign operator left right at) none =
        joined (calls_in left) (calls_in right) (forward left (front (offences s left) _ none)) (forward right (front (offences s right) _ (back (offences s left) _ none)))

    forward_field : (field : Field) → offences_of_field s field ≡ [] → Forward (calls_in_field field)
    forward_field (Named name at) none = tt
    forward_field (tree.Bytes k index at) none = forward index none

    forward_row : {m : Count} (row : Row_of-Expr m) → offences_of_row s row ≡ [] → Forward (calls_in_row row)
    forward_row end_of-Expr none = tt
    forward_row (more_of-Expr first rest) none =
        joined (calls_in first) (calls_in_row rest) (forward first (front (offences s first) _ none)) (forward_row rest (back (offences s first) _ none))

  alone_forward : (part : Option Expr) → alone_offences s part ≡ [] → Forward (calls_in_part part)
  alone_forward None none = tt
  alone_forward (Some e) none = joined (calls_in e) [] (forward e (front (offences s e) [] none)) tt

  needed_forward : (part : Option Expr) → needed_offences s part ≡ [] → Forward (calls_in_part part)
  needed_forward None none = tt
  needed_forward (Some e) none = joined (calls_in e) [] (forward e (front (offences s e) _ (front (integer_offences s e) [] none))) tt

  label_forward : (label : Label) → label_offences s label ≡ [] → Forward (calls_in_part label.value)
  label_forward label none = go label.value none
    where
      go : (value : Option Expr) → flat_map (constant_offences s label.at) (option_to_list value) ≡ [] → Forward (calls_in_part value)
      go None none = tt
      go (Some e) none = joined (calls_in e) [] (forward e (front (offences s e) _ (front (constant_offences s label.at e) [] none))) tt

  labels_forward : (labels : List Label) → flat_map (label_offences s) labels ≡ [] → Forward (calls_in_labels labels)
  labels_forward [] none = tt
  labels_forward (label ∷ rest) none =
      joined (calls_in_part label.value) (calls_in_labels rest) (label_forward label (front (label_offences s label) _ none)) (labels_forward rest (back (label_offences s label) _ none))

  -- ---- declarations

  array_items : (token at : ℕ) (items : List Item) → flat_map (array_item_rules s token at) items ≡ [] → Forward (flat_map calls_in_item items)
  array_items token at [] none = tt
  array_items token at (Plain value ∷ rest) none =
      joined (calls_in value) (flat_map calls_in_item rest) (forward value (front (offences s value) _ (front (constant_offences s token value) _ none))) (array_items token at rest (back (constant_offences s token value) _ none))
  array_items token at (Set field value ∷ rest) none = absurd (full _ _ none)

  field_forward : (token at : ℕ) (signals : Option (List DbcSignal)) (field : Field) → field_item_rules s token at signals field ≡ [] → Forward (calls_in_field field)
  field_forward token at signals (Named name name_at) none = tt
  field_forward token at signals (tree.Bytes k index kind_at) none = forward index (front (offences s index) _ (front (constant_offences s token index) _ none))

  message_items : (token at : ℕ) (signals : Option (List DbcSignal)) (items : List Item) → flat_map (message_item_rules s token at signals) items ≡ [] → Forward (flat_map calls_in_item items)
  message_items token at signals [] none = tt
  message_items token at signals (Plain value ∷ rest) none = absurd (full _ _ none)
  message_items token at signals (Set field value ∷ rest) none =
      let first = front (message_item_rules s token at signals (Set field value)) _ none in
      joined (calls_in_field field ++ calls_in value) (flat_map calls_in_item rest)
      (joined (calls_in_field field) (calls_in value) (field_forward token at signals field (front (field_item_rules s token at signals field) _ first))
      (forward value (front (offences s value) _ (back (field_item_rules s token at signals field) _ first))))
      (message_items token at signals rest (back (message_item_rules s token at signals (Set field value)) _ none))

  other_items : (items : List Item) → flat_map (item_offences s) items ≡ [] → Forward (flat_map calls_in_item items)
  other_items [] none = tt
  other_items (Plain value ∷ rest) none = joined (calls_in value) (flat_map calls_in_item rest) (forward value (front (offences s value) _ none)) (other_items rest (back (offences s value) _ none))
  other_items (Set field value ∷ rest) none =
      let first = front (offences_of_field s field ++ offences s value) _ none in
      joined (calls_in_field field ++ calls_in value) (flat_map calls_in_item rest)
      (joined (calls_in_field field) (calls_in value) (forward_field field (front (offences_of_field s field) _ first)) (forward value (back (offences_of_field s field) _ first)))
      (other_items rest (back (offences_of_field s field ++ offences s value) _ none))

  many_forward : (token at : ℕ) (form : Form) (items : List Item) → many_rules s token at form items ≡ [] → Forward (flat_map calls_in_item items)
  many_forward token at (Array k fixed size) items none = array_items token at items (back _ (flat_map (array_item_rules s token at) items) none)
  many_forward token at (Message type_) items none = message_items token at (signals_of_type type_) items none
  many_forward token at Misfit items none = other_items items none
  many_forward token at (Number k fixed) items none = absurd (full _ _ none)
  many_forward token at (Timer unit) items none = absurd (full _ _ none)

  init_forward : (token : ℕ) (form : Form) (init : Option Init) → option_map_or (initialiser_offences s token form) init [] ≡ [] → Forward (flat_map calls_in_init (option_to_list init))
  init_forward token form None none = tt
  init_forward token form (Some (One e)) none = joined (calls_in e) [] (forward e (front (offences s e) _ none)) tt
  init_forward token form (Some (Many items at)) none = joined (flat_map calls_in_item items) [] (many_forward token at form items none) tt

  size_forward : (at : ℕ) (size : Option Expr) → size_offences s at size ≡ [] → Forward (calls_in_part size)
  size_forward at None none = tt
  size_forward at (Some e) none = joined (calls_in e) [] (forward e (front (offences s e) _ (front (constant_offences s at e) _ none))) tt

  declared_forward : (what : DeclType) (items : List Declr) → flat_map (declarator_offences s what) items ≡ [] → Forward (flat_map calls_in_declarator items)
  declared_forward what [] none = tt
  declared_forward what (d ∷ rest) none =
      let first = front (declarator_offences s what d) _ none in
      let last = back (const_rule s d.at what d.init) _ (back (form_rule s d.at (form_of s.names.base what d.size)) _ first) in
      joined (calls_in_declarator d) (flat_map calls_in_declarator rest)
      (joined (calls_in_part d.size) (flat_map calls_in_init (option_to_list d.init)) (size_forward d.at d.size (front (size_offences s d.at d.size) _ last))
      (init_forward d.at (form_of s.names.base what d.size) d.init (back (size_offences s d.at d.size) _ last)))
      (declared_forward what rest (back (declarator_offences s what d) _ none))

  -- ---- statements

  mutual
    statement_forward : (around : source.Around) (x : Stmt) → statement_offences s around x ≡ [] → Forward (names_called x)
    statement_forward around stmt.Empty none = tt
    statement_forward around (stmt.Block' shape body) none = statements_forward around body none
    statement_forward around (stmt.Decl declaration) none = declared_forward declaration.what declaration.items (back (type_rules s declaration.what) _ none)
    statement_forward around (stmt.Expr e) none = forward e none
    statement_forward around (stmt.If' shape arms other) none =
        joined (calls_of_arms arms) (calls_of_else other) (arms_forward around arms (front (offences_of_arms s around arms) _ none)) (else_forward around other (back (offences_of_arms s around arms) _ none))
    statement_forward around (tree.While given body) none =
        joined (calls_in given) (names_called body) (forward given (front (offences s given) _ (front (integer_offences s given) _ none))) (statement_forward in_loop body (back (integer_offences s given) _ none))
    statement_forward around (tree.Do body given) none =
        joined (names_called body) (calls_in given) (statement_forward in_loop body (front (statement_offences s in_loop body) _ none)) (forward given (front (offences s given) _ (back (statement_offences s in_loop body) _ none)))
    statement_forward around (tree.For init given step body) none =
        let rules = back (alone_offences s init) _ none in
        let last = back (needed_offences s given) _ rules in
        joined (calls_in_part init) (calls_in_part given ++ (calls_in_part step ++ names_called body)) (alone_forward init (front (alone_offences s init) _ none))
        (joined (calls_in_part given) (calls_in_part step ++ names_called body) (needed_forward given (front (needed_offences s given) _ rules))
        (joined (calls_in_part step) (names_called body) (alone_forward step (front (alone_offences s step) _ last)) (statement_forward in_loop body (back (alone_offences s step) _ last))))
    statement_forward around (stmt.Switch' on shape groups) none =
        joined (calls_in on) (calls_of_groups groups) (forward on (front (offences s on) _ (front (integer_offences s on) _ none)))
        (groups_forward (source.in_switch around) groups (back (labels_rule s (sort_of s on) (labels_said groups)) _ (back (integer_offences s on) _ none)))
    statement_forward around (stmt.Break at) none = tt
    statement_forward around (stmt.Continue at) none = tt
    statement_forward around (stmt.Return value at) none = needed_forward value (back (return_rule s at s.gives value) _ none)

    statements_forward : (around : source.Around) {m : Count} (row : Row_of-Stmt m) → offences_of_statements s around row ≡ [] → Forward (calls_of_row row)
    statements_forward around end_of-Stmt none = tt
    statements_forward around (more_of-Stmt first rest) none =
        joined (names_called first) (calls_of_row rest) (statement_forward around first (front (statement_offences s around first) _ none)) (statements_forward around rest (back (statement_offences s around first) _ none))

    arms_forward : (around : source.Around) {m : Count} (arms : Row_of-Arm m) → offences_of_arms s around arms ≡ [] → Forward (calls_of_arms arms)
    arms_forward around end_of-Arm none = tt
    arms_forward around (more_of-Arm given body rest) none =
        let rules = back (integer_offences s given) _ none in
        joined (calls_in given) (names_called body ++ calls_of_arms rest) (forward given (front (offences s given) _ (front (integer_offences s given) _ none)))
        (joined (names_called body) (calls_of_arms rest) (statement_forward around body (front (statement_offences s around body) _ rules)) (arms_forward around rest (back (statement_offences s around body) _ rules)))

    else_forward : (around : source.Around) (other : Held-Stmt-If-1) → offences_of_else s around other ≡ [] → Forward (calls_of_else other)
    else_forward around tree.NoElse none = tt
    else_forward around (tree.Else body) none = statement_forward around body none

    groups_forward : (around : source.Around) {m : Count} (groups : Row_of-Group m) → offences_of_groups s around groups ≡ [] → Forward (calls_of_groups groups)
    groups_forward around end_of-Group none = tt
    groups_forward around (more_of-Group labels shape body rest) none =
        let rules = back (flat_map (label_offences s) labels) (offences_of_statements s around body ++ offences_of_groups s around rest) none in
        joined (calls_in_labels labels) (calls_of_row body ++ calls_of_groups rest) (labels_forward labels (front (flat_map (label_offences s) labels) (offences_of_statements s around body ++ offences_of_groups s around rest) none))
        (joined (calls_of_row body) (calls_of_groups rest) (statements_forward around body (front (offences_of_statements s around body) _ rules)) (groups_forward around rest (back (offences_of_statements s around body) _ rules)))

  body_forward : (body : List Stmt) → flat_map (statement_offences s in_body) body ≡ [] → Forward (flat_map names_called body)
  body_forward [] none = tt
  body_forward (first ∷ rest) none =
      joined (names_called first) (flat_map names_called rest) (statement_forward in_body first (front (statement_offences s in_body first) _ none)) (body_forward rest (back (statement_offences s in_body first) _ none))

  -- the numbers of the functions that are called
  numbers_forward : (called : List (List ℕ)) → Forward called → AllByRecursion (λ number. reaches s.names number s.owner ≡ false) (filter_map (λ name. number_of_callee (callee s.names name)) called)
  numbers_forward [] all = tt
  numbers_forward (name ∷ rest) all = go (callee s.names name) all.0 (numbers_forward rest all.1)
    where
      go : (c : Callee) → ((f : Function) → c ≡ OfProgram f → is_recursive s f ≡ false) → AllByRecursion (λ number. reaches s.names number s.owner ≡ false) (filter_map (λ name. number_of_callee (callee s.names name)) rest) →
          AllByRecursion (λ number. reaches s.names number s.owner ≡ false) (cons_option (number_of_callee c) (filter_map (λ name. number_of_callee (callee s.names name)) rest))
      go (OfProgram f) h others = (h f refl, others)
      go (OfLanguage b) h others = others
      go Unknown h others = others

-- no function that a function calls reaches it
pub none_back : (base : List DbcMessage) (program : Program) → IsReadable program → offences_of base program ≡ [] → (number : ℕ) →
    All (λ called. reaches (names_of base program) called number ≡ false) (called_by_number (names_of base program) number)
none_back base program readable none number = All-from_recursion (λ called. reaches names called number ≡ false) (called_by_number names number) (go (function_numbered names number) refl)
  where
    names : Names
    names = names_of base program

    numbered : (fs : List Function) (f : Function) → find (λ f. f.number == number) fs ≡ Some f → f.number ≡ number
    numbered [] f e = absurd (let g : None ≡ Some f = e in cc)
    numbered (h ∷ fs) f e = by (h.number == number) refl e (numbered fs f)
      where
        by : (b : Bool) → h.number == number ≡ b → cond b (Some h) (find (λ f. f.number == number) fs) ≡ Some f → (find (λ f. f.number == number) fs ≡ Some f → f.number ≡ number) → f.number ≡ number
        by true is e further = let g : Some h ≡ Some f = e in let same : h ≡ f = cc in subst (λ (x : Function). x.number ≡ number) same (eqb-true h.number number is)
        by false is e further = further e

    go : (o : Option Function) → function_numbered (names_of base program) number ≡ o → AllByRecursion (λ called. reaches (names_of base program) called number ≡ false) (option_map_or (called_by (names_of base program)) o [])
    go None is = tt
    go (Some f) is =
        let good = numbered_good base program readable (parts_clean base program none) number f is in
        subst (λ n. AllByRecursion (λ called. reaches (names_of base program) called n ≡ false) (called_by (names_of base program) f)) (numbered (names_of base program).functions f is)
        (numbers_forward (inside_function (names_of base program) f) (flat_map names_called f.body) (body_forward (inside_function (names_of base program) f) f.body good.body.no_offence))
