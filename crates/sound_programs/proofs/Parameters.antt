-- The cells of a function's parameters are there and differ.
use Rattle.std.proofs.Common.{◌≡◌, ◌≢◌, ℕ, zero, suc, ◌+◌, ◌<◌, inl, inr, Bool, true, false, List, [], ◌∷◌, ◌++◌, length, map, Option, Some, None, refl, sym, ap, ◌∙◌, subst, arith}
use Rattle.std.specs.Prelude.{⊤, filter_map, flat_map, if◌then◌else◌, slice_get}
use Rattle.std.specs.List.{AllByRecursion, cons_option}
use Rattle.int_kinds.specs.declared.kinds.Kind.{Kind}
use Rattle.dbc_reader.specs.declared.message.DbcMessage.{DbcMessage}
use Rattle.capl_tree.specs.declared.procedure.Head.{Head}
use Rattle.capl_tree.specs.declared.procedure.Head.TheVariants as head
use Rattle.capl_tree.specs.declared.procedure.Param.{Param}
use Rattle.capl_tree.specs.declared.statement.Stmt.{Stmt}
use Rattle.typed_tree.specs.declared.program.Typed.{Typed}
use Rattle.capl_meaning.specs.Variable.{Number, Part, Globals, Procedure, Variable, declarations_in, parameters_of, variable_of_parameter, variables_of_declaration, variables_of_part}
use Rattle.capl_meaning.specs.Names.{Function, Names, function_by, function_of_part}
use Rattle.capl_meaning.specs.Store.{Key, variable_key, same_key}
use Rattle.typed_laws.specs.Laid.{AreDistinct, HasForm, IsAmong, cell_count, cells_before, cells_by_form, slot}
use Rattle.typed_laws.proofs.Parts.{fresh, key_other, key_self}
use Rattle.typed_source.specs.Sound.{HasTables}
use Rattle.sound_programs.proofs.Made.{all_front}
use Rattle.sound_programs.proofs.Repeated.{Apart}

-- ---- distinct variables

distinct_front : (xs ys : List Variable) → AreDistinct (xs ++ ys) → AreDistinct xs
distinct_front [] ys h = tt
distinct_front (x ∷ xs) ys h = (all_front (λ u. same_key (variable_key u) (variable_key x) ≡ false) xs ys h.0, distinct_front xs ys h.1)

distinct_back : (xs ys : List Variable) → AreDistinct (xs ++ ys) → AreDistinct ys
distinct_back [] ys h = h
distinct_back (x ∷ xs) ys h = distinct_back xs ys h.1

-- the parameters of a function have different names
abbrev pub HasDistinctParameters : Function → Type 0
HasDistinctParameters f = AreDistinct (map (variable_of_parameter f.number f.file) f.parameters)

distinct_function : (number file : ℕ) (form : Head) (body : List Stmt) (fs : List Function) → AreDistinct (map (variable_of_parameter number file) (parameters_of form)) → AllByRecursion HasDistinctParameters fs →
    AllByRecursion HasDistinctParameters (cons_option (function_by number file form body) fs)
distinct_function number file (head.Function kind name parameters at) body fs h rest = (h, rest)
distinct_function number file other body fs h rest = rest

-- so have those of all functions of parts whose variables are distinct
pub distinct_functions : (base : List DbcMessage) (parts : List Part) → AreDistinct (flat_map (variables_of_part base) parts) → AllByRecursion HasDistinctParameters (filter_map function_of_part parts)
distinct_functions base [] h = tt
distinct_functions base (Globals file declarations ∷ parts) h = distinct_functions base parts (distinct_back (variables_of_part base (Globals file declarations)) (flat_map (variables_of_part base) parts) h)
distinct_functions base (Procedure number file procedure ∷ parts) h =
    distinct_function number file procedure.head procedure.body (filter_map function_of_part parts)
    (distinct_front (map (variable_of_parameter number file) (parameters_of procedure.head)) (flat_map (variables_of_declaration base number file) (flat_map declarations_in procedure.body))
    (distinct_front (variables_of_part base (Procedure number file procedure)) (flat_map (variables_of_part base) parts) h))
    (distinct_functions base parts (distinct_back (variables_of_part base (Procedure number file procedure)) (flat_map (variables_of_part base) parts) h))

-- ---- cells

module _ (names : Names) where
  first_cell : (w : Variable) (ws : List Variable) (k : Key) → same_key (variable_key w) k ≡ true → cells_before names (w ∷ ws) k ≡ 0
  first_cell w ws k is = ap (λ b. if b then 0 else cell_count names w + cells_before names ws k) is

  later_cell : (w : Variable) (ws : List Variable) (k : Key) → same_key (variable_key w) k ≡ false → cells_before names (w ∷ ws) k ≡ cell_count names w + cells_before names ws k
  later_cell w ws k is = ap (λ b. if b then 0 else cell_count names w + cells_before names ws k) is

  -- a variable is a number
  abbrev IsOne : Variable → Type 0
  IsOne v = cell_count names v ≡ 1

  -- two variables of one cell each do not begin at one cell
  cells_differ : (vs : List Variable) → AreDistinct vs → (u v : Variable) → IsAmong u vs → IsAmong v vs → IsOne u → IsOne v → same_key (variable_key v) (variable_key u) ≡ false →
      cells_before names vs (variable_key u) ≢ cells_before names vs (variable_key v)
  cells_differ [] distinct u v a b one other apart same = elim a [ ]
  cells_differ (w ∷ ws) distinct u v (inl e) (inl f) one other apart same =
      let itself : same_key (variable_key v) (variable_key u) ≡ true = subst (λ x. same_key (variable_key v) (variable_key x) ≡ true) (sym f ∙ e) (key_self (variable_key v)) in
      let g : true ≡ false = sym itself ∙ apart in cc
  cells_differ (w ∷ ws) distinct u v (inl e) (inr s) one other apart same =
      let here : cells_before names (w ∷ ws) (variable_key u) ≡ 0 = first_cell w ws (variable_key u) (subst (λ x. same_key (variable_key w) (variable_key x) ≡ true) e (key_self (variable_key w))) in
      let there : cells_before names (w ∷ ws) (variable_key v) ≡ cell_count names w + cells_before names ws (variable_key v) = later_cell w ws (variable_key v) (key_other (variable_key v) (variable_key w) (fresh w v ws distinct.0 s)) in
      let count : cell_count names w ≡ 1 = ap (λ x. cell_count names x) e ∙ one in
      omega (arith, here, there, count, same)
  cells_differ (w ∷ ws) distinct u v (inr s) (inl f) one other apart same =
      let here : cells_before names (w ∷ ws) (variable_key v) ≡ 0 = first_cell w ws (variable_key v) (subst (λ x. same_key (variable_key w) (variable_key x) ≡ true) f (key_self (variable_key w))) in
      let there : cells_before names (w ∷ ws) (variable_key u) ≡ cell_count names w + cells_before names ws (variable_key u) = later_cell w ws (variable_key u) (key_other (variable_key u) (variable_key w) (fresh w u ws distinct.0 s)) in
      let count : cell_count names w ≡ 1 = ap (λ x. cell_count names x) f ∙ other in
      omega (arith, here, there, count, same)
  cells_differ (w ∷ ws) distinct u v (inr s) (inr r) one other apart same =
      let here : cells_before names (w ∷ ws) (variable_key u) ≡ cell_count names w + cells_before names ws (variable_key u) = later_cell w ws (variable_key u) (key_other (variable_key u) (variable_key w) (fresh w u ws distinct.0 s)) in
      let there : cells_before names (w ∷ ws) (variable_key v) ≡ cell_count names w + cells_before names ws (variable_key v) = later_cell w ws (variable_key v) (key_other (variable_key v) (variable_key w) (fresh w v ws distinct.0 r)) in
      let equal : cells_before names ws (variable_key u) ≡ cells_before names ws (variable_key v) = omega (arith, here, there, same) in
      cells_differ ws distinct.1 u v s r one other apart equal

  module _ (distinct : AreDistinct names.variables) (owner file : ℕ) where
    abbrev of : Param → Variable
    of p = variable_of_parameter owner file p

    abbrev cell : Param → ℕ
    cell p = slot names (record { owner = owner; name = p.name })

    -- one parameter's cell differs from those of others
    others_differ : (p : Param) → IsAmong (of p) names.variables → (ps : List Param) → AllByRecursion (λ u. same_key (variable_key u) (variable_key (of p)) ≡ false) (map of ps) →
        ((i : ℕ) (q : Param) → slice_get ps i ≡ Some q → IsAmong (of q) names.variables) → AllByRecursion (λ c. cell p ≢ c) (map cell ps)
    others_differ p among [] apart all = tt
    others_differ p among (q ∷ qs) apart all =
        (λ same. cells_differ names.variables distinct (of p) (of q) among (all 0 q refl) refl refl apart.0 (omega (arith, same)), others_differ p among qs apart.1 (λ i r e. all (suc i) r e))

    -- the cells of parameters of different names differ
    pub cells_apart : (ps : List Param) → AreDistinct (map (variable_of_parameter owner file) ps) → ((i : ℕ) (q : Param) → slice_get ps i ≡ Some q → IsAmong (variable_of_parameter owner file q) names.variables) →
        Apart (λ a b. a ≢ b) (map (λ p. slot names (record { owner = owner; name = p.name })) ps)
    cells_apart [] h all = tt
    cells_apart (p ∷ ps) h all = (others_differ p (all 0 p refl) ps h.0 (λ i q e. all (suc i) q e), cells_apart ps h.1 (λ i q e. all (suc i) q e))

    -- and are there
    pub cells_there : (typed : Typed) → HasTables names typed → (ps : List Param) → ((i : ℕ) (q : Param) → slice_get ps i ≡ Some q → IsAmong (variable_of_parameter owner file q) names.variables) →
        AllByRecursion (λ c. c < length typed.cells) (map (λ p. slot names (record { owner = owner; name = p.name })) ps)
    cells_there typed tables [] all = tt
    cells_there typed tables (p ∷ ps) all =
        (tables.numbers (of p) p.kind false (record { among = all 0 p refl; form_is = refl }), cells_there typed tables ps (λ i q e. all (suc i) q e))
