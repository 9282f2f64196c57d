-- Each variable of a program that breaks no rule was declared so.
use mathlib.Core.Former.{Count}
use Rattle.std.proofs.Common.{◌≡◌, ℕ, ◌-◌, ◌≤◌, ◌<◌, ◌^◌, inl, inr, Bool, true, false, not, ◌&&◌, List, [], ◌∷◌, ◌++◌, Option, Some, None, refl, ap, ◌∙◌, subst, arith}
use Rattle.std.specs.Prelude.{⊤, ◌||◌, ℤ, pos, negsuc, flat_map, if◌then◌else◌, is_some, map, nat_le, nat_lt, unwrap_or}
use Rattle.std.specs.List.{AllByRecursion}
use Rattle.std.specs.Option.{option_and_then, option_map_or}
use Rattle.std.proofs.lemmas.Bool.{leb-true, ltb-false}
use Rattle.int_kinds.specs.declared.kinds.Kind.{Kind}
use Rattle.dbc_reader.specs.declared.message.DbcMessage.{DbcMessage}
use Rattle.capl_tree.specs.declared.declaration.Decl.{Decl}
use Rattle.capl_tree.specs.declared.declaration.DeclType.{DeclType}
use Rattle.capl_tree.specs.declared.declaration.DeclType.TheVariants as decl_type
use Rattle.capl_tree.specs.declared.declaration.Declr.{Declr}
use Rattle.capl_tree.specs.declared.expr.Expr.{Expr}
use Rattle.capl_tree.specs.declared.file.Program.{Program}
use Rattle.capl_tree.specs.declared.procedure.Param.{Param}
use Rattle.capl_tree.specs.declared.statement.Stmt.{Stmt, Row_of-Stmt, end_of-Stmt, more_of-Stmt}
use Rattle.capl_tree.specs.declared.statement.Stmt.TheBlock.{Row_of-Arm, end_of-Arm, more_of-Arm, Row_of-Group, end_of-Group, more_of-Group, Held-Stmt-If-1}
use Rattle.capl_tree.specs.declared.statement.Stmt.TheVariants as stmt
use Rattle.capl_tree.specs.Forms as tree
use Rattle.capl_meaning.specs.declared.offence.Offence.{Offence}
use Rattle.capl_meaning.specs.Variable.{Form, Array, Message, Part, Globals, Procedure, Variable, ByIdentifier, ByName, declarations_in, declarations_of, declarations_of_arms, declarations_of_else, declarations_of_groups, form_of, identifier, message_named, parameters_of, parts_of, variable_of_parameter, variables_of, variables_of_declaration, variables_of_part}
use Rattle.capl_meaning.specs.Names.{Names, NoThis, Scope, ThisForm, inside, names_of, outside}
use Rattle.capl_meaning.specs.Sort.{is_bad, sort_of}
use Rattle.capl_meaning.specs.Constant.{array_length, constant_at, elements_of, length_by, scope_of}
use Rattle.capl_meaning.specs.ExpressionRules.{integer_offences, offence, offences}
use Rattle.capl_meaning.specs.DeclarationRules.{constant_needed, constant_offences, initialiser_offences, const_rule, database_rule, declaration_offences, declarator_offences, form_rule, is_identifier, is_in_range, size_offences, size_rule, type_rules}
use Rattle.capl_meaning.specs.StatementRules as source
use Rattle.capl_meaning.specs.StatementRules.{alone_offences, in_body, in_loop, label_offences, labels_said, labels_rule, needed_offences, offences_of_arms, offences_of_else, offences_of_groups, offences_of_statements, statement_offences}
use Rattle.capl_meaning.specs.ProcedureRules.{head_offences, inner_name_offences, outer_name_offences, purpose_offences}
use Rattle.capl_meaning.specs.Offences.{offences_of, part_offences}
use Rattle.capl_tree.specs.Place.{expression_place}
use Rattle.typed_laws.specs.Laid.{IsAmong}
use Rattle.typed_laws.proofs.Declared.{all_append}
use Rattle.typed_source.specs.Sound.{HaveElements}
use Rattle.sound_programs.specs.Given.{HaveForms}
use Rattle.sound_programs.proofs.Constants.{at_same}
use Rattle.sound_programs.proofs.Empty.{back, each_empty, front, full, unbroken}
use Rattle.sound_programs.proofs.Fine.{fine, swapped}
use Rattle.sound_programs.proofs.Sorts.{IsFine, needed}

-- ---- declarations in statements

module _ (s : Scope) where
  -- a declaration breaks no rule
  abbrev Clean : Decl → Type 0
  Clean d = declaration_offences s d ≡ []

  mutual
    -- the declarations in a statement that breaks no rule
    clean : (around : source.Around) (x : Stmt) → statement_offences s around x ≡ [] → AllByRecursion Clean (declarations_in x)
    clean around stmt.Empty none = tt
    clean around (stmt.Block' shape body) none = clean_row around body none
    clean around (stmt.Decl declaration) none = (none, tt)
    clean around (stmt.Expr e) none = tt
    clean around (stmt.If' shape arms other) none =
        all_append Clean (declarations_of_arms arms) (declarations_of_else other) (clean_arms around arms (front (offences_of_arms s around arms) _ none)) (clean_else around other (back (offences_of_arms s around arms) _ none))
    clean around (tree.While given body) none = clean in_loop body (back (integer_offences s given) _ none)
    clean around (tree.Do body given) none = clean in_loop body (front (statement_offences s in_loop body) _ none)
    clean around (tree.For init given step body) none =
        clean in_loop body (back (alone_offences s step) _ (back (needed_offences s given) _ (back (alone_offences s init) _ none)))
    clean around (stmt.Switch' on shape groups) none = clean_groups (source.in_switch around) groups (back (labels_rule s (sort_of s on) (labels_said groups)) _ (back (integer_offences s on) _ none))
    clean around other none = tt

    clean_row : (around : source.Around) {m : Count} (row : Row_of-Stmt m) → offences_of_statements s around row ≡ [] → AllByRecursion Clean (declarations_of row)
    clean_row around end_of-Stmt none = tt
    clean_row around (more_of-Stmt first rest) none =
        all_append Clean (declarations_in first) (declarations_of rest) (clean around first (front (statement_offences s around first) _ none)) (clean_row around rest (back (statement_offences s around first) _ none))

    clean_arms : (around : source.Around) {m : Count} (arms : Row_of-Arm m) → offences_of_arms s around arms ≡ [] → AllByRecursion Clean (declarations_of_arms arms)
    clean_arms around end_of-Arm none = tt
    clean_arms around (more_of-Arm given body rest) none =
        let rules = back (integer_offences s given) _ none in
        all_append Clean (declarations_in body) (declarations_of_arms rest) (clean around body (front (statement_offences s around body) _ rules)) (clean_arms around rest (back (statement_offences s around body) _ rules))

    clean_else : (around : source.Around) (other : Held-Stmt-If-1) → offences_of_else s around other ≡ [] → AllByRecursion Clean (declarations_of_else other)
    clean_else around tree.NoElse none = tt
    clean_else around (tree.Else body) none = clean around body none

    clean_groups : (around : source.Around) {m : Count} (groups : Row_of-Group m) → offences_of_groups s around groups ≡ [] → AllByRecursion Clean (declarations_of_groups groups)
    clean_groups around end_of-Group none = tt
    clean_groups around (more_of-Group labels shape body rest) none =
        let rules = back (flat_map (label_offences s) labels) (offences_of_statements s around body ++ offences_of_groups s around rest) none in
        all_append Clean (declarations_of body) (declarations_of_groups rest) (clean_row around body (front (offences_of_statements s around body) _ rules)) (clean_groups around rest (back (offences_of_statements s around body) _ rules))

  -- those of a body
  clean_body : (body : List Stmt) → flat_map (statement_offences s in_body) body ≡ [] → AllByRecursion Clean (flat_map declarations_in body)
  clean_body [] none = tt
  clean_body (first ∷ rest) none =
      all_append Clean (declarations_in first) (flat_map declarations_in rest) (clean in_body first (front (statement_offences s in_body first) _ none)) (clean_body rest (back (statement_offences s in_body first) _ none))

-- ---- variables

-- the scope in which a variable is declared
abbrev pub declared_in : Names → Variable → ThisForm → Option Kind → Scope
declared_in names v this gives = record { names = names; owner = v.owner; file = v.file; this = this; gives = gives }

-- what the size of an array breaks
abbrev pub size_by : Scope → ℕ → Form → List Offence
size_by s at (Array k fixed size) = size_offences s at (Some size)
size_by s at _ = []

-- a message has an identifier and a length that their cells hold
abbrev pub IsHeldType : Form → Type 0
IsHeldType (Message (ByIdentifier id)) = id < 2 ^ 32
IsHeldType (Message (ByName (Some m))) = (m.id < 2 ^ 32) × (m.len ≤ 8)
IsHeldType _ = ⊤

-- a variable was declared where no rule was broken
pub record IsDeclaredWell (names : Names) (v : Variable) : Type 0 where
  pub this : ThisForm
  pub gives : Option Kind
  pub held : IsHeldType v.form
  pub form : form_rule (declared_in names v this gives) v.token v.form ≡ []
  pub size : size_by (declared_in names v this gives) v.token v.form ≡ []
  pub init : option_map_or (initialiser_offences (declared_in names v this gives) v.token v.form) v.init [] ≡ []

sized : (s : Scope) (at : ℕ) (what : DeclType) (size : Option Expr) → size_offences s at size ≡ [] → size_by s at (form_of s.names.base what size) ≡ []
sized s at (decl_type.Number k fixed) None none = refl
sized s at (decl_type.Number k fixed) (Some size) none = none
sized s at decl_type.Any None none = refl
sized s at decl_type.Any (Some size) none = refl
sized s at (decl_type.ById value extended id_at) None none = refl
sized s at (decl_type.ById value extended id_at) (Some size) none = refl
sized s at (decl_type.ByName name name_at) None none = refl
sized s at (decl_type.ByName name name_at) (Some size) none = refl
sized s at decl_type.Seconds None none = refl
sized s at decl_type.Seconds (Some size) none = refl
sized s at decl_type.Millis None none = refl
sized s at decl_type.Millis (Some size) none = refl

-- the identifier of a declaration is one
held_identifier : (value : Option ℕ) (extended : Bool) → is_identifier value extended ≡ true → option_map_or (λ n. identifier n extended) value 0 < 2 ^ 32
held_identifier None extended is = absurd (let f : false ≡ true = is in cc)
held_identifier (Some n) true is = omega (arith, leb-true n 0x1FFFFFFF is)
held_identifier (Some n) false is = omega (arith, leb-true n 0x7FF is)

-- and so is that of a message of the database
held_range : (id : ℕ) → is_in_range id ≡ true → id < 2 ^ 32
held_range id is = go (nat_le (2 ^ 31) id) is
  where
    go : (b : Bool) → (if b then nat_le (id - 2 ^ 31) 0x1FFFFFFF else nat_le id 0x7FF) ≡ true → id < 2 ^ 32
    go true e = omega (arith, leb-true (id - 2 ^ 31) 0x1FFFFFFF e)
    go false e = omega (arith, leb-true id 0x7FF e)

held_named : (s : Scope) (at : ℕ) (o : Option DbcMessage) → option_map_or (database_rule s at) o (offence s at 11 ∷ []) ≡ [] → IsHeldType (Message (ByName o))
held_named s at None none = tt
held_named s at (Some m) none = go (nat_lt 8 m.len) (is_in_range m.id) refl refl (unbroken (nat_lt 8 m.len || not (is_in_range m.id)) s at 23 none)
  where
    go : (a b : Bool) → nat_lt 8 m.len ≡ a → is_in_range m.id ≡ b → a || not b ≡ false → (m.id < 2 ^ 32) × (m.len ≤ 8)
    go false true long range e = (held_range m.id range, ltb-false 8 m.len long)
    go false false long range e = absurd (let f : true ≡ false = e in cc)
    go true b long range e = absurd (let f : true ≡ false = e in cc)

held_type : (s : Scope) (what : DeclType) (size : Option Expr) → type_rules s what ≡ [] → IsHeldType (form_of s.names.base what size)
held_type s (decl_type.Number k fixed) None none = tt
held_type s (decl_type.Number k fixed) (Some size) none = tt
held_type s decl_type.Any None none = omega arith
held_type s decl_type.Any (Some size) none = tt
held_type s (decl_type.ById value extended at) None none = held_identifier value extended (negated (is_identifier value extended) (unbroken (not (is_identifier value extended)) s at 21 none))
  where
    negated : (b : Bool) → not b ≡ false → b ≡ true
    negated true e = refl
    negated false e = absurd (let f : true ≡ false = e in cc)
held_type s (decl_type.ById value extended at) (Some size) none = tt
held_type s (decl_type.ByName name at) None none = held_named s at (message_named s.names.base name) none
held_type s (decl_type.ByName name at) (Some size) none = tt
held_type s decl_type.Seconds None none = tt
held_type s decl_type.Seconds (Some size) none = tt
held_type s decl_type.Millis None none = tt
held_type s decl_type.Millis (Some size) none = tt

module _ (base : List DbcMessage) (program : Program) where
  abbrev names : Names
  names = names_of base program

  abbrev Well : Variable → Type 0
  Well v = IsDeclaredWell names v

  abbrev standing : ℕ → ℕ → ThisForm → Option Kind → Scope
  standing owner file this gives = record { names = names; owner = owner; file = file; this = this; gives = gives }

  declared : (owner file : ℕ) (this : ThisForm) (gives : Option Kind) (what : DeclType) (items : List Declr) → type_rules (standing owner file this gives) what ≡ [] → flat_map (declarator_offences (standing owner file this gives) what) items ≡ [] →
      AllByRecursion Well (map (λ (d : Declr). record {
        owner = owner;
        file = file;
        token = d.at;
        name = d.name;
        form = form_of base what d.size;
        init = d.init;
      }) items)
  declared owner file this gives what [] types none = tt
  declared owner file this gives what (d ∷ items) types none =
      let s = standing owner file this gives in
      let first = front (declarator_offences s what d) _ none in
      let two = back (form_rule s d.at (form_of base what d.size)) _ first in
      let three = back (const_rule s d.at what d.init) _ two in (
        record {
          this = this;
          gives = gives;
          held = held_type s what d.size types;
          form = front (form_rule s d.at (form_of base what d.size)) _ first;
          size = sized s d.at what d.size (front (size_offences s d.at d.size) _ three);
          init = back (size_offences s d.at d.size) _ three;
        },
        declared owner file this gives what items types (back (declarator_offences s what d) _ none),
      )

  all_declared : (owner file : ℕ) (this : ThisForm) (gives : Option Kind) (ds : List Decl) → AllByRecursion (λ d. declaration_offences (standing owner file this gives) d ≡ []) ds →
      AllByRecursion Well (flat_map (variables_of_declaration base owner file) ds)
  all_declared owner file this gives [] all = tt
  all_declared owner file this gives (d ∷ ds) all =
      all_append Well (variables_of_declaration base owner file d) (flat_map (variables_of_declaration base owner file) ds)
      (declared owner file this gives d.what d.items (front (type_rules (standing owner file this gives) d.what) _ all.0) (back (type_rules (standing owner file this gives) d.what) _ all.0)) (all_declared owner file this gives ds all.1)

  parameters : (owner file : ℕ) (ps : List Param) → AllByRecursion Well (map (variable_of_parameter owner file) ps)
  parameters owner file [] = tt
  parameters owner file (p ∷ ps) = (record { this = NoThis; gives = None; held = tt; form = refl; size = refl; init = refl }, parameters owner file ps)

  of_part : (part : Part) → part_offences names part ≡ [] → AllByRecursion Well (variables_of_part base part)
  of_part (Globals file declarations) none = all_declared 0 file NoThis None declarations (each_empty (declaration_offences (outside names file)) declarations none)
  of_part (Procedure number file procedure) none =
      let s = inside names number file procedure.head in
      let rest = back (inner_name_offences names number) _ (back (head_offences s procedure.head) _ none) in
      all_append Well (map (variable_of_parameter number file) (parameters_of procedure.head)) (flat_map (variables_of_declaration base number file) (flat_map declarations_in procedure.body))
      (parameters number file (parameters_of procedure.head))
      (all_declared number file s.this s.gives (flat_map declarations_in procedure.body) (clean_body s procedure.body rest))

  of_parts : (parts : List Part) → flat_map (part_offences names) parts ≡ [] → AllByRecursion Well (flat_map (variables_of_part base) parts)
  of_parts [] none = tt
  of_parts (part ∷ parts) none =
      all_append Well (variables_of_part base part) (flat_map (variables_of_part base) parts) (of_part part (front (part_offences names part) _ none)) (of_parts parts (back (part_offences names part) _ none))

  among_all : (vs : List Variable) (v : Variable) → AllByRecursion Well vs → IsAmong v vs → Well v
  among_all [] v all x = elim x [ ]
  among_all (u ∷ us) v all (inl e) = subst Well e all.0
  among_all (u ∷ us) v all (inr s) = among_all us v all.1 s

  module _ (none : offences_of base program ≡ []) where
    -- the parts break no rule
    pub parts_clean : flat_map (part_offences (names_of base program)) (parts_of program) ≡ []
    parts_clean = back (purpose_offences names (parts_of program)) _ (back (outer_name_offences (parts_of program)) _ none)

    -- each variable was declared where no rule was broken
    pub well_declared : (v : Variable) → IsAmong v (variables_of base program) → IsDeclaredWell (names_of base program) v
    well_declared v among = among_all (variables_of base program) v (of_parts (parts_of program) parts_clean) among

    -- no variable is an array of messages or timers
    pub have_forms : HaveForms (names_of base program)
    have_forms v real =
        let well = well_declared v real.among in
        full _ _ (subst (λ f. form_rule (declared_in names v well.this well.gives) v.token f ≡ []) real.form_is well.form)

    -- an array has an element
    pub have_elements : HaveElements (names_of base program)
    have_elements v k fixed size real =
        let well = well_declared v real.among in
        let s : Scope = declared_in (names_of base program) v well.this well.gives in
        let rules : constant_offences s v.token size ++ size_rule s v.token size ≡ [] = subst (λ f. size_by (declared_in names v well.this well.gives) v.token f ≡ []) real.form_is well.size in
        let whole : offences s size ++ constant_needed s v.token size ≡ [] = front (constant_offences s v.token size) _ rules in
        let good : IsFine (sort_of s size) = fine s have_forms size (front (offences s size) _ whole) in
        let there : is_some (constant_at s v.token size) ≡ true =
        needed (is_some (constant_at s v.token size)) (sort_of s size) good (swapped (not (is_bad (sort_of s size))) _ (unbroken _ s (expression_place size) 19 (back (offences s size) _ whole))) in
        let fits : option_map_or (λ n. not (is_some (array_length n))) (constant_at s v.token size) false ≡ false = unbroken _ s v.token 12 (back (constant_offences s v.token size) _ rules) in
        let least : 1 ≤ unwrap_or (option_and_then array_length (constant_at s v.token size)) 0 = go (constant_at s v.token size) there fits in
        let same : constant_at (scope_of (names_of base program) v) v.token size ≡ constant_at s v.token size = at_same (names_of base program) v.owner v.file NoThis well.this None well.gives v.token size in
        let is : elements_of (names_of base program) v ≡ unwrap_or (option_and_then array_length (constant_at s v.token size)) 0 =
        ap (length_by (scope_of (names_of base program) v) v.token) real.form_is ∙ ap (λ o. unwrap_or (option_and_then array_length o) 0) same in
        omega (arith, least, is)
      where
        some : (n : ℤ) → not (is_some (array_length n)) ≡ false → 1 ≤ unwrap_or (array_length n) 0
        some (pos n) e = by (nat_le 1 n) (nat_le n 1000000) refl e
          where
            by : (a b : Bool) → nat_le 1 n ≡ a → not (is_some (if a && b then Some n else None)) ≡ false → 1 ≤ unwrap_or (if a && b then Some n else None) 0
            by true true is e = leb-true 1 n is
            by true false is e = absurd (let f : true ≡ false = e in cc)
            by false b is e = absurd (let f : true ≡ false = e in cc)
        some (negsuc n) e = absurd (let f : true ≡ false = e in cc)

        go : (o : Option ℤ) → is_some o ≡ true → option_map_or (λ n. not (is_some (array_length n))) o false ≡ false → 1 ≤ unwrap_or (option_and_then array_length o) 0
        go None there fits = absurd (let f : false ≡ true = there in cc)
        go (Some n) there fits = some n fits
