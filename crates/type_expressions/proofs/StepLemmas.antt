-- One more variable, in each pass over the variables of a program.
use Rattle.std.proofs.Common.{◌≡◌, ℕ, zero, suc, ◌+◌, ◌<◌, ◌≤◌, List, [], ◌∷◌, ◌++◌, length, drop, Option, Some, None, refl, sym, ap, ◌∙◌, append_assoc, arith}
use Rattle.std.specs.Prelude.{Bool, true, false, if◌then◌else◌, filter_map, flat_map, slice_get}
use Rattle.std.specs.Option.{option_map_or}
use Rattle.std.proofs.lemmas.List.{append-nil}
use Rattle.std.proofs.lemmas.List.Sums.{sum_by-cons}
use Rattle.int_kinds.specs.declared.kinds.Kind.{Kind}
use Rattle.dbc_reader.specs.declared.message.DbcMessage.{DbcMessage}
use Rattle.capl_meaning.specs.Variable.{Array, Form, Message, Misfit, Number, Timer, Variable}
use Rattle.capl_meaning.specs.Names.{Names}
use Rattle.capl_meaning.specs.Constant.{elements_of}
use Rattle.capl_meaning.specs.Store.{size_of_form, Key, variable_key, kinds_by, same_key, unit_of}
use Rattle.capl_meaning.specs.Message.{Held, HeldFrame, HeldVariable}
use Rattle.typed_laws.specs.Laid.{cell_count, cells_before, cells_by_form, message_slot}
use Rattle.check_names.specs.declared.variable.Declared.{Declared}
use Rattle.check_names.specs.Variable.{variables_in}
use Rattle.type_expressions.specs.declared.layout.Laid.{Laid}
use Rattle.type_expressions.specs.Layout.{laid_from, size_in, timer_at, timers_with}

-- what is left of a list from a place on: the item there, and the rest
pub record Step {X : Type 0} (xs : List X) (i : ℕ) : Type 0 where
  pub item : X
  pub at : slice_get xs i ≡ Some item
  pub rest : drop i xs ≡ item ∷ drop (i + 1) xs

-- there is one more item before the end
pub step : {X : Type 0} (xs : List X) (i : ℕ) → i < length xs → Step xs i
step [] i less = absurd (omega (arith, less))
step (x ∷ xs) zero less = record { item = x; at = refl; rest = refl }
step (x ∷ xs) (suc i) less =
    let s = step xs i (omega (arith, less)) in
    let next : suc (i + 1) ≡ suc i + 1 = omega arith in
    record { item = s.item; at = s.at; rest = s.rest ∙ ap (λ n. s.item ∷ drop n (x ∷ xs)) next }

-- nothing is left from the end on
pub none_left : {X : Type 0} (xs : List X) (i : ℕ) → length xs ≤ i → drop i xs ≡ []
none_left [] zero le = refl
none_left [] (suc i) le = refl
none_left (x ∷ xs) zero le = absurd (omega (arith, le))
none_left (x ∷ xs) (suc i) le = none_left xs i (omega (arith, le))

-- variables that are listed are as many
pub as_many : (base : List DbcMessage) (ds : List Declared) → length (variables_in base ds) ≡ length ds
as_many base [] = refl
as_many base (d ∷ ds) = ap suc (as_many base ds)

-- a variable's form and its elements, as they are found by its number
pub record Found (names : Names) (i elements : ℕ) (form : Form) : Type 0 where
  pub form_is : (v : Variable) → slice_get names.variables i ≡ Some v → form ≡ v.form
  pub elements_are : (v : Variable) → slice_get names.variables i ≡ Some v → elements ≡ elements_of names v

-- a variable's form, where it is found
pub form_there : (vs : List Variable) (i : ℕ) (form : Form) → form ≡ option_map_or (λ v. v.form) (slice_get vs i) Misfit →
    (v : Variable) → slice_get vs i ≡ Some v → form ≡ v.form
form_there vs i form is v at = is ∙ ap (λ (o : Option Variable). option_map_or (λ v. v.form) o Misfit) at

-- a variable's elements, where it is found
pub elements_there : (vs : List Variable) (i : ℕ) (f : Variable → ℕ) (elements : ℕ) → elements ≡ option_map_or f (slice_get vs i) 0 →
    (v : Variable) → slice_get vs i ≡ Some v → elements ≡ f v
elements_there vs i f elements is v at = is ∙ ap (λ (o : Option Variable). option_map_or f o 0) at

-- the kinds of the cells of variables
abbrev pub kinds_from : Names → List Variable → List Kind
kinds_from names vs = flat_map (λ v. kinds_by (elements_of names v) v.form) vs

-- one more variable's kinds
pub kinds_more : (names : Names) (i elements : ℕ) (form : Form) (before after whole : List Kind) → i < length names.variables →
    Found names i elements form → before ++ kinds_from names (drop i names.variables) ≡ whole → after ≡ before ++ kinds_by elements form →
    after ++ kinds_from names (drop (i + 1) names.variables) ≡ whole
kinds_more names i elements form before after whole less found known new =
    let s = step names.variables i less in
    let rest = kinds_from names (drop (i + 1) names.variables) in
    ap (λ l. l ++ rest) new ∙ append_assoc before (kinds_by elements form) rest
    ∙ ap (λ l. before ++ (l ++ rest)) (ap (λ n. kinds_by n form) (found.elements_are s.item s.at) ∙ ap (kinds_by (elements_of names s.item)) (found.form_is s.item s.at))
    ∙ ap (λ l. before ++ kinds_from names l) (sym s.rest) ∙ known

-- the units of timers among variables
abbrev pub units_from : List Variable → List ℕ
units_from vs = filter_map (λ v. unit_of v.form) vs

-- the unit of a timer, and nothing of all else
abbrev pub unit_list : Option ℕ → List ℕ
unit_list unit = filter_map (λ (u : Option ℕ). u) (unit ∷ [])

units_first : (v : Variable) (vs : List Variable) (unit : Option ℕ) → unit_of v.form ≡ unit → units_from (v ∷ vs) ≡ unit_list unit ++ units_from vs
units_first v vs None is = rw is refl
units_first v vs (Some unit) is = rw is refl

-- one more variable's unit
pub units_more : (vs : List Variable) (i : ℕ) (form : Form) (before after whole : List ℕ) → i < length vs →
    ((v : Variable) → slice_get vs i ≡ Some v → form ≡ v.form) → before ++ units_from (drop i vs) ≡ whole →
    after ≡ before ++ unit_list (unit_of form) → after ++ units_from (drop (i + 1) vs) ≡ whole
units_more vs i form before after whole less is known new =
    let s = step vs i less in
    let rest = units_from (drop (i + 1) vs) in
    ap (λ l. l ++ rest) new ∙ append_assoc before (unit_list (unit_of form)) rest
    ∙ ap (λ f. before ++ (unit_list (unit_of f) ++ rest)) (is s.item s.at)
    ∙ ap (λ l. before ++ l) (sym (units_first s.item (drop (i + 1) vs) (unit_of s.item.form) refl))
    ∙ ap (λ l. before ++ units_from l) (sym s.rest) ∙ known

-- one more variable is laid
pub laid_more : (names : Names) (i elements cell timers cell' timers' : ℕ) (form : Form) (before after whole : List Laid) → i < length names.variables →
    Found names i elements form → before ++ laid_from names cell timers (drop i names.variables) ≡ whole →
    after ≡ before ++ (record { slot = cell; elements = elements; timer = timer_at timers form } ∷ []) →
    cell' ≡ cell + cells_by_form elements form → timers' ≡ timers_with timers form →
    after ++ laid_from names cell' timers' (drop (i + 1) names.variables) ≡ whole
laid_more names i elements cell timers cell' timers' form before after whole less found known new cells counted =
    let s = step names.variables i less in
    let e = found.elements_are s.item s.at in
    let f = found.form_is s.item s.at in
    let rest : ℕ → ℕ → List Laid = λ c t. laid_from names c t (drop (i + 1) names.variables) in
    let item : ℕ → Form → Laid = λ n g. record { slot = cell; elements = n; timer = timer_at timers g } in
    ap (λ l. l ++ rest cell' timers') new ∙ append_assoc before (item elements form ∷ []) (rest cell' timers')
    ∙ ap (λ c. before ++ (item elements form ∷ rest c timers')) cells
    ∙ ap (λ t. before ++ (item elements form ∷ rest (cell + cells_by_form elements form) t)) counted
    ∙ ap (λ n. before ++ (item n form ∷ rest (cell + cells_by_form n form) (timers_with timers form))) e
    ∙ ap (λ g. before ++ (item (elements_of names s.item) g ∷ rest (cell + cells_by_form (elements_of names s.item) g) (timers_with timers g))) f
    ∙ ap (λ l. before ++ laid_from names cell timers l) (sym s.rest) ∙ known

-- all variables are laid
pub laid_whole : (names : Names) (i cell timers : ℕ) (before whole : List Laid) → length names.variables ≤ i →
    before ++ laid_from names cell timers (drop i names.variables) ≡ whole → before ≡ whole
laid_whole names i cell timers before whole le known =
    sym (append-nil before) ∙ ap (λ l. before ++ laid_from names cell timers l) (sym (none_left names.variables i le)) ∙ known

-- one more variable counts
pub size_more : (names : Names) (i elements size whole : ℕ) (form : Form) → i < length names.variables → Found names i elements form →
    size + size_in names (drop i names.variables) ≡ whole →
    size + size_of_form elements form + size_in names (drop (i + 1) names.variables) ≡ whole
size_more names i elements size whole form less found known =
    let s = step names.variables i less in
    let first : size_of_form elements form ≡ size_of_form (elements_of names s.item) s.item.form =
    ap (λ n. size_of_form n form) (found.elements_are s.item s.at) ∙ ap (size_of_form (elements_of names s.item)) (found.form_is s.item s.at) in
    let all : size_in names (drop i names.variables) ≡ size_of_form (elements_of names s.item) s.item.form + size_in names (drop (i + 1) names.variables) =
    ap (size_in names) s.rest ∙ sum_by-cons (λ v. size_of_form (elements_of names v) v.form) s.item (drop (i + 1) names.variables) in
    omega (arith, first, all, known)

-- all variables count
pub size_whole : (names : Names) (i size whole : ℕ) → length names.variables ≤ i → size + size_in names (drop i names.variables) ≡ whole → size ≡ whole
size_whole names i size whole le known =
    let none : size_in names (drop i names.variables) ≡ 0 = ap (size_in names) (none_left names.variables i le) in
    omega (arith, none, known)

-- what a variable of a form has is cells, or a timer
pub split_size : (elements timers : ℕ) (form : Form) →
    cells_by_form elements form + timers_with timers form ≡ size_of_form elements form + timers
split_size elements timers (Number k fixed) = omega arith
split_size elements timers (Array k fixed size) = omega arith
split_size elements timers (Message type_) = omega arith
split_size elements timers (Timer unit) = omega arith
split_size elements timers Misfit = omega arith

-- the cells before those of a key are no more than the size
before_few : (names : Names) (vs : List Variable) (k : Key) → cells_before names vs k ≤ size_in names vs
before_few names [] k = omega arith
before_few names (v ∷ vs) k = by (same_key (variable_key v) k) (before_few names vs k)
  where
    by : (b : Bool) → cells_before names vs k ≤ size_in names vs → (if b then 0 else cell_count names v + cells_before names vs k) ≤ size_in names (v ∷ vs)
    by true rest = omega arith
    by false rest =
        omega (
          arith,
          rest,
          split_size (elements_of names v) 0 v.form,
          sum_by-cons (λ v. size_of_form (elements_of names v) v.form) v vs,
        )

-- a message of a program with few cells has a low first cell
pub message_low : (names : Names) (held : Held) → size_in names names.variables ≤ 1000000 → message_slot names held ≤ 1000015
message_low names (HeldFrame signals) few = omega arith
message_low names (HeldVariable v signals) few = omega (arith, few, before_few names names.variables (variable_key v))
