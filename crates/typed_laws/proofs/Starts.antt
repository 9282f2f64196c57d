-- The first cells, variable by variable and start by start.
use Rattle.std.proofs.Common.{◌≡◌, ℕ, suc, inl, inr, true, List, [], ◌∷◌, ◌++◌, length, Some, refl, sym, ap, ◌∙◌, subst, append_assoc}
use Rattle.std.specs.Prelude.{ℤ, pos, cond, find, flat_map, replicate, slice_set}
use Rattle.std.specs.Option.{option_map_or}
use Rattle.capl_meaning.specs.Variable.{Form, Number, Array, Message, Timer, Misfit, Variable}
use Rattle.capl_meaning.specs.Names.{Names}
use Rattle.capl_meaning.specs.Constant.{elements_of}
use Rattle.capl_meaning.specs.Initial.{element_of_form, first_store, message_of_form, number_of_form, plain_message, variable_of}
use Rattle.capl_meaning.specs.Store.{cells_by, cells_of, variable_key, lay, message_cells, same_key}
use Rattle.typed_laws.specs.Laid.{AreDistinct, IsAmong}
use Rattle.typed_laws.specs.Starts.{first_by_form, first_cells_of, started}
use Rattle.typed_laws.proofs.Lists.{row_same}
use Rattle.typed_laws.proofs.Parts.{fresh, key_self}

-- the variable of a key
key_found : (vs : List Variable) (v : Variable) → AreDistinct vs → IsAmong v vs → find (λ u. same_key (variable_key v) (variable_key u)) vs ≡ Some v
key_found [] v distinct among = elim among [ ]
key_found (u ∷ us) v distinct (inl e) =
    let same : same_key (variable_key v) (variable_key u) ≡ true = subst (λ x. same_key (variable_key v) (variable_key x) ≡ true) (sym e) (key_self (variable_key v)) in
    ap (λ b. cond b (Some u) (find (λ u. same_key (variable_key v) (variable_key u)) us)) same ∙ ap (λ x. Some x) e
key_found (u ∷ us) v distinct (inr s) =
    ap (λ b. cond b (Some u) (find (λ u. same_key (variable_key v) (variable_key u)) us)) (fresh u v us distinct.0 s) ∙ key_found us v distinct.1 s

-- the first cells of a variable
first_own : (names : Names) → AreDistinct names.variables → (v : Variable) → IsAmong v names.variables → cells_of names (first_store names) v ≡ first_cells_of names v
first_own names distinct v among = by_form v.form refl
  where
    found : variable_of names (variable_key v) ≡ Some v
    found = key_found names.variables v distinct among

    by_form : (form : Form) → v.form ≡ form → cells_by (first_store names) (variable_key v) (elements_of names v) form ≡ first_by_form names v (elements_of names v) form
    by_form (Number k fixed) is = ap (λ o. option_map_or (λ v. number_of_form names v v.form) o (pos 0) ∷ []) found ∙ ap (λ form. number_of_form names v form ∷ []) is
    by_form (Array k fixed size) is =
        row_same (λ i. element_of_form names v i (Array k fixed size)) ((first_store names).element (variable_key v)) 0 (elements_of names v)
        (λ m _ _. ap (λ o. option_map_or (λ v. element_of_form names v m v.form) o (pos 0)) found ∙ ap (element_of_form names v m) is)
    by_form (Message type_) is =
        ap (λ o. message_cells (option_map_or (λ v. message_of_form names v v.form) o (plain_message 0 8))) found ∙ ap (λ form. message_cells (message_of_form names v form)) is
    by_form (Timer unit) is = refl
    by_form Misfit is = refl

-- the first store is laid out variable by variable
pub first_laid : (names : Names) → AreDistinct names.variables → lay names (first_store names) ≡ flat_map (first_cells_of names) names.variables
first_laid names distinct = go names.variables (λ v among. among)
  where
    go : (vs : List Variable) → ((v : Variable) → IsAmong v vs → IsAmong v names.variables) → flat_map (cells_of names (first_store names)) vs ≡ flat_map (first_cells_of names) vs
    go [] h = refl
    go (v ∷ vs) h = ap (λ l. l ++ flat_map (cells_of names (first_store names)) vs) (first_own names distinct v (h v (inl refl))) ∙ ap (λ l. first_cells_of names v ++ l) (go vs (λ u among. h u (inr among)))

-- Starts that make some cells, with zeros behind them, make one more by a start behind these.
pub one_started : (n rest : ℕ) (starts : List (ℕ × ℤ)) (made : List ℤ) (x : ℤ) → started (replicate n (pos 0)) starts ≡ made ++ replicate (suc rest) (pos 0) →
    started (replicate n (pos 0)) (starts ++ (length made, x) ∷ []) ≡ (made ++ x ∷ []) ++ replicate rest (pos 0)
one_started n rest starts made x e =
    one_more (replicate n (pos 0)) starts ∙ ap (λ l. slice_set l (length made) x) e ∙ set_first made
  where
    one_more : (cells : List ℤ) (starts : List (ℕ × ℤ)) → started cells (starts ++ (length made, x) ∷ []) ≡ slice_set (started cells starts) (length made) x
    one_more cells [] = refl
    one_more cells (s ∷ starts) = one_more (slice_set cells s.0 s.1) starts

    set_first : (made : List ℤ) → slice_set (made ++ replicate (suc rest) (pos 0)) (length made) x ≡ (made ++ x ∷ []) ++ replicate rest (pos 0)
    set_first [] = refl
    set_first (y ∷ made) = ap (λ l. y ∷ l) (set_first made)

-- A cell that is 0 needs no start.
pub none_started : (rest : ℕ) (made : List ℤ) → made ++ replicate (suc rest) (pos 0) ≡ (made ++ pos 0 ∷ []) ++ replicate rest (pos 0)
none_started rest made = sym (append_assoc made (pos 0 ∷ []) (replicate rest (pos 0)))
