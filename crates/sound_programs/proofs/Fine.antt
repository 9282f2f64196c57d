-- An expression that breaks no rule is not bad, and one of which an integer is needed is a number.
use mathlib.Core.Former.{Count}
use Rattle.std.proofs.Common.{◌≡◌, ℕ, suc, Bool, true, false, not, ◌&&◌, ◌||◌, List, [], ◌∷◌, length, Option, Some, None, refl, sym, ap, ◌∙◌, subst}
use Rattle.std.specs.Prelude.{⊤, ◌==◌, flat_map, if◌then◌else◌, is_none}
use Rattle.std.specs.List.{AllByRecursion, list_all, zip}
use Rattle.std.specs.Option.{option_and_then, option_map_or}
use Rattle.std.proofs.lemmas.Cmp.{nat_eq_equiv}
use Rattle.std.proofs.lemmas.Bool.{eqb-true}
use Rattle.texts.specs.declared.text.Text.{Text}
use Rattle.int_kinds.specs.declared.kinds.Kind.TheVariants as kind
use Rattle.int_kinds.specs.declared.operators.BinOp.{BinOp}
use Rattle.int_kinds.specs.declared.operators.UnOp.{UnOp}
use Rattle.int_kinds.specs.declared.operators.UnOp.TheVariants as prefix
use Rattle.write_format.specs.declared.code.Code.{Code}
use Rattle.dbc_reader.specs.declared.signals.DbcSignal.{DbcSignal}
use Rattle.capl_tree.specs.declared.expr.Expr.{Expr, Row_of-Expr, end_of-Expr, more_of-Expr, items-the_row-Expr}
use Rattle.capl_tree.specs.declared.expr.Expr.TheVariants as expr
use Rattle.capl_tree.specs.declared.expr.Field.{Field}
use Rattle.capl_tree.specs.declared.expr.Field.TheVariants.{Named}
use Rattle.capl_tree.specs.Forms as tree
use Rattle.capl_tree.specs.Place.{expression_place}
use Rattle.capl_meaning.specs.declared.builtin.Builtin.{Builtin}
use Rattle.capl_meaning.specs.declared.builtin.Builtin.TheVariants as builtin
use Rattle.capl_meaning.specs.declared.sort.Sort.{Sort}
use Rattle.capl_meaning.specs.declared.sort.Sort.TheVariants as sort
use Rattle.capl_meaning.specs.Variable.{Form, Number, Array, Message, Timer, Misfit, Variable}
use Rattle.capl_meaning.specs.Names.{Callee, Function, OfLanguage, OfProgram, Unknown, Scope, ThisForm, NoThis, ThisFrame, ThisKey, callee, direction, means}
use Rattle.capl_meaning.specs.Format.{first_text, format_codes, show_all, shows, quoted_text}
use Rattle.capl_meaning.specs.Message.{Held, NamedMember, IsField, IsSignal, IsUnusable, IsUnknown, held_by, is_message_place, is_number_place, is_open_number, is_variable, member_named, message_in, signals_of}
use Rattle.capl_meaning.specs.Sort.{is_bad, is_number, is_recursive, number_from, sort_given, sort_of, sort_of_assignment, sort_of_builtin, sort_of_call, sort_of_direction, sort_of_element, sort_of_form, sort_of_function, sort_of_member, sort_of_name, sort_of_number, sort_of_part, sort_of_prefix, sort_of_step, sort_of_this, sorts_of}
use Rattle.capl_meaning.specs.ExpressionRules.{argument_rule, broken_where, builtin_rules, call_rules, codes_rules, format_rules, function_rules, index_needed, index_rule, integer_needed, integer_offences, is_array, is_message_sort, is_place_for, is_timer_sort, left_rule, member_rules, name_of_member_rule, name_rule, number_rule, prefix_rule, offence, offences, offences_of_field, offences_of_row, part_rules, right_rule, shown_rule, sides_rule, step_rule, this_rule}
use Rattle.typed_laws.specs.Laid.{HasForm}
use Rattle.typed_laws.proofs.Places.{means_among}
use Rattle.typed_source.specs.Sound.{IsOfNumber}
use Rattle.sound_programs.specs.Given.{HaveForms}
use Rattle.sound_programs.proofs.Empty.{back, full, front, unbroken}
use Rattle.sound_programs.proofs.Sorts.{IsFine, binary_number, choice_number, element_fine, element_number, fine_good, from_fine, from_number, given_fine, needed, number_fine, of_array, of_message, of_number, of_timer}

-- expressions of these sorts are fine
abbrev AreFine : List Sort → Type 0
AreFine sorts = AllByRecursion IsFine sorts

-- ---- single forms

fine_number : (s : Scope) (at : ℕ) (value : Option ℕ) (extended : Bool) → number_rule s at value extended ≡ [] → IsFine (sort_of_number value extended)
fine_number s at value extended none = go (sort_of_number value extended) (unbroken (is_bad (sort_of_number value extended)) s at 18 none)
  where
    go : (g : Sort) → is_bad g ≡ false → IsFine g
    go sort.Bad e = absurd (let f : true ≡ false = e in cc)
    go g e = tt

fine_this : (s : Scope) (at : ℕ) (this : ThisForm) → this_rule s at this ≡ [] → IsFine (sort_of_this this)
fine_this s at NoThis none = absurd (full _ _ none)
fine_this s at (ThisFrame signals) none = tt
fine_this s at ThisKey none = tt

fine_direction : (s : Scope) (at : ℕ) (o : Option ℕ) → broken_where (is_none o) s at 9 ≡ [] → IsFine (sort_of_direction o)
fine_direction s at None none = absurd (full _ _ none)
fine_direction s at (Some n) none = tt

fine_member : (s : Scope) (at name_at : ℕ) (m : NamedMember) → name_of_member_rule s at name_at m ≡ [] → IsOfNumber (sort_of_member m)
fine_member s at name_at (IsField f) none = tt
fine_member s at name_at (IsSignal layout) none = tt
fine_member s at name_at IsUnusable none = absurd (full _ _ none)
fine_member s at name_at (IsUnknown true) none = absurd (full _ _ none)
fine_member s at name_at (IsUnknown false) none = absurd (full _ _ none)

-- a place of a number is assigned a number
pub fine_assigned : (operator : Option BinOp) (message : Bool) (left right : Sort) → IsOfNumber left → IsOfNumber right → IsOfNumber (sort_of_assignment operator true message left right)
fine_assigned None true (sort.Number k) (sort.Number j) one other = tt
fine_assigned None false (sort.Number k) (sort.Number j) one other = tt
fine_assigned (Some operator) message (sort.Number k) (sort.Number j) one other = tt
fine_assigned operator message (sort.Number k) right one other = elim other [ ]
fine_assigned operator message left right one other = elim one [ ]

-- a message variable is assigned a message
fine_copied : (place : Bool) (left right : Sort) → left ≡ sort.Message → right ≡ sort.Message → IsFine (sort_of_assignment None place true left right)
fine_copied place left right one other = subst (λ g. IsFine (sort_of_assignment None place true g right)) (sym one) (subst (λ g. IsFine (sort_of_assignment None place true sort.Message g)) (sym other) tt)

-- the right side of an assignment to a number is one
pub right_number : (s : Scope) (at : ℕ) (left right : Expr) → IsOfNumber (sort_of s left) → IsFine (sort_of s right) →
    sides_rule s at (sort_of s left) (sort_of s right) ≡ [] → right_rule s left right ≡ [] → IsOfNumber (sort_of s right)
right_number s at left right number fine sides none = go (sort_of s left) (sort_of s right) number fine sides none
  where
    go : (g h : Sort) → IsOfNumber g → IsFine h → sides_rule s at g h ≡ [] →
        (if is_message_sort g || is_message_sort h then [] else (if not (is_number h) && not (is_bad h) then offence s (expression_place right) 13 ∷ [] else [])) ≡ [] → IsOfNumber h
    go (sort.Number k) (sort.Number j) number fine sides none = tt
    go (sort.Number k) (sort.Array j) number fine sides none = absurd (full _ _ none)
    go (sort.Number k) sort.Message number fine sides none = absurd (full _ _ sides)
    go (sort.Number k) sort.Timer number fine sides none = absurd (full _ _ none)
    go (sort.Number k) sort.Text number fine sides none = absurd (full _ _ none)
    go (sort.Number k) sort.Nothing number fine sides none = absurd (full _ _ none)
    go (sort.Number k) sort.Bad number fine sides none = elim fine [ ]
    go g h number fine sides none = elim number [ ]

-- the right side of an assignment to a message is one
pub right_message : (s : Scope) (at : ℕ) (left right : Sort) → left ≡ sort.Message → IsFine right → sides_rule s at left right ≡ [] → right ≡ sort.Message
right_message s at left right is fine none =
    of_message right (needed (is_message_sort right) right fine (unbroken (not (is_message_sort right) && not (is_bad right)) s at 28 (subst (λ g. sides_rule s at g right ≡ []) is none)))

-- ---- messages and texts

-- a message that is named is of its sort
pub message_sort : (s : Scope) (e : Expr) (held : Held) → message_in s e ≡ Some held → sort_of s e ≡ sort.Message
message_sort s (tree.Paren inner at) held is = message_sort s inner held is
message_sort s (expr.This at) held is = go s.this is
  where
    go : (this : ThisForm) → message_in (record s { this = this }) (expr.This at) ≡ Some held → sort_of_this this ≡ sort.Message
    go NoThis e = absurd (let f : None ≡ Some held = e in cc)
    go (ThisFrame signals) e = refl
    go ThisKey e = absurd (let f : None ≡ Some held = e in cc)
message_sort s (expr.Name name at) held is = go (means s name at) is
  where
    by : (v : Variable) (f : Form) → held_by v f ≡ Some held → sort_of_form f ≡ sort.Message
    by v (Message type_) e = refl
    by v other e = absurd (let f : None ≡ Some held = e in cc)

    go : (o : Option Variable) → option_and_then (λ v. held_by v v.form) o ≡ Some held → sort_of_name name o ≡ sort.Message
    go None e = absurd (let f : None ≡ Some held = e in cc)
    go (Some v) e = by v v.form e
message_sort s e held is = absurd (let f : None ≡ Some held = is in cc)

-- a message variable is a message
pub message_place : (s : Scope) (e : Expr) → is_message_place s e ≡ true → (held : Held) × (message_in s e ≡ Some held) × (is_variable held ≡ true)
message_place s e is = go (message_in s e) refl is
  where
    go : (o : Option Held) → message_in s e ≡ o → option_map_or is_variable o false ≡ true → (held : Held) × (message_in s e ≡ Some held) × (is_variable held ≡ true)
    go None there e = absurd (let f : false ≡ true = e in cc)
    go (Some held) there e = (held, there, e)

-- a text is of its sort
pub text_sort : (s : Scope) (e : Expr) (text : List ℕ) → quoted_text e ≡ Some text → sort_of s e ≡ sort.Text
text_sort s (tree.Paren inner at) text is = text_sort s inner text is
text_sort s (expr.Str bytes at) text is = refl
text_sort s e text is = absurd (let f : None ≡ Some text = is in cc)

-- ---- places of numbers

-- a part of a message that is fine is a number
pub part_number : (s : Scope) (signals : Option (List DbcSignal)) (field : Field) → IsFine (sort_of_part s signals field) → IsOfNumber (sort_of_part s signals field)
part_number s signals (Named name at) fine = go (member_named signals name) fine
  where
    go : (m : NamedMember) → IsFine (sort_of_member m) → IsOfNumber (sort_of_member m)
    go (IsField f) fine = tt
    go (IsSignal layout) fine = tt
    go IsUnusable fine = elim fine [ ]
    go (IsUnknown by_name) fine = elim fine [ ]
part_number s signals (tree.Bytes k index at) fine = from_fine (sort_of s index) k fine

-- a place of a number that is fine is a number
pub place_number : (s : Scope) (e : Expr) → is_number_place s e ≡ true → IsFine (sort_of s e) → IsOfNumber (sort_of s e)
place_number s (tree.Paren inner at) is fine = place_number s inner is fine
place_number s (expr.Name name at) is fine = go (means s name at) is
  where
    by : (f : Form) → is_open_number f ≡ true → IsOfNumber (sort_of_form f)
    by (Number k fixed) e = tt
    by other e = absurd (let f : false ≡ true = e in cc)

    go : (o : Option Variable) → option_map_or (λ v. is_open_number v.form) o false ≡ true → IsOfNumber (sort_of_name name o)
    go None e = absurd (let f : false ≡ true = e in cc)
    go (Some v) e = by v.form e
place_number s (tree.Index base index at) is fine = element_fine (sort_of s base) (sort_of s index) fine
place_number s (tree.Member base field at) is fine = go (message_in s base) fine
  where
    go : (o : Option Held) → IsFine (option_map_or (λ message. sort_of_part s (signals_of message) field) o sort.Bad) → IsOfNumber (option_map_or (λ message. sort_of_part s (signals_of message) field) o sort.Bad)
    go None fine = elim fine [ ]
    go (Some held) fine = part_number s (signals_of held) field fine
place_number s e is fine = absurd (let f : false ≡ true = is in cc)

-- ---- rules of what is needed

-- what is needed as an integer and is fine is a number
pub integer : (s : Scope) (e : Expr) → IsFine (sort_of s e) → integer_needed s e ≡ [] → IsOfNumber (sort_of s e)
integer s e fine none = of_number (sort_of s e) (needed (is_number (sort_of s e)) (sort_of s e) fine (unbroken _ s (expression_place e) 13 none))

-- both ways round
pub swapped : (a b : Bool) → a && b ≡ false → b && a ≡ false
swapped true true e = e
swapped true false e = refl
swapped false true e = refl
swapped false false e = refl

-- what `++` and `--` stand at is a place of a number
pub stepped : (s : Scope) (e : Expr) → IsFine (sort_of s e) → step_rule s e ≡ [] → is_number_place s e ≡ true
stepped s e fine none = go (is_number_place s e) (sort_of s e) fine (unbroken _ s (expression_place e) 14 none)
  where
    go : (place : Bool) (g : Sort) → IsFine g → not (is_bad g) && not place ≡ false → place ≡ true
    go place g fine e = needed place g fine (swapped (not (is_bad g)) (not place) e)

-- an argument is the timer, message or array that is needed
pub argument_so : (s : Scope) (at : ℕ) (is_so : Sort → Bool) (e : Expr) → IsFine (sort_of s e) → argument_rule s at is_so e ≡ [] → is_so (sort_of s e) ≡ true
argument_so s at is_so e fine none = needed (is_so (sort_of s e)) (sort_of s e) fine (unbroken _ s at 16 none)

-- ---- calls of functions of the language

-- as many sorts as expressions
pub sorts_long : (s : Scope) {m : Count} (row : Row_of-Expr m) → length (sorts_of s row) ≡ length (items-the_row-Expr m row)
sorts_long s end_of-Expr = refl
sorts_long s (more_of-Expr first rest) = ap suc (sorts_long s rest)

-- each code shows its argument
all_shown : (s : Scope) (found : List Code) {m : Count} (row : Row_of-Expr m) → AreFine (sorts_of s row) →
    flat_map (λ (pair : Code × Expr). shown_rule s pair.0 pair.1) (zip found (items-the_row-Expr m row)) ≡ [] →
    list_all (λ (pair : Code × Sort). shows pair.0 pair.1) (zip found (sorts_of s row)) ≡ true
all_shown s [] row fine none = refl
all_shown s (code ∷ found) end_of-Expr fine none = refl
all_shown s (code ∷ found) (more_of-Expr first rest) fine none =
    both (shows code (sort_of s first)) _ (needed (shows code (sort_of s first)) (sort_of s first) fine.0 (unbroken _ s (expression_place first) 17 (front (shown_rule s code first) _ none)))
    (all_shown s found rest fine.1 (back (shown_rule s code first) _ none))
  where
    both : (a b : Bool) → a ≡ true → b ≡ true → a && b ≡ true
    both a b e f = ap (λ x. x && b) e ∙ f

-- a format that breaks no rule shows its arguments
pub shown_codes : (s : Scope) (at : ℕ) (o : Option (List Code)) {m : Count} (row : Row_of-Expr m) → AreFine (sorts_of s row) → codes_rules s at o (items-the_row-Expr m row) ≡ [] →
    option_map_or (λ found. show_all found (sorts_of s row)) o false ≡ true
shown_codes s at None row fine none = absurd (full _ _ none)
shown_codes s at (Some found) {m} row fine none = go (length found == length (items-the_row-Expr m row)) refl none
  where
    go : (b : Bool) → length found == length (items-the_row-Expr m row) ≡ b →
        (if b then flat_map (λ (pair : Code × Expr). shown_rule s pair.0 pair.1) (zip found (items-the_row-Expr m row)) else offence s at 17 ∷ []) ≡ [] →
        show_all found (sorts_of s row) ≡ true
    go false e none = absurd (full _ _ none)
    go true e none =
        ap (λ n. (length found == n) && list_all (λ (pair : Code × Sort). shows pair.0 pair.1) (zip found (sorts_of s row))) (sorts_long s row)
        ∙ ap (λ b. b && list_all (λ (pair : Code × Sort). shows pair.0 pair.1) (zip found (sorts_of s row))) e
        ∙ all_shown s found row fine none

fine_write : (s : Scope) (at : ℕ) (format : Expr) {m : Count} (rest : Row_of-Expr m) → IsFine (sort_of s format) → AreFine (sorts_of s rest) →
    format_rules s format (quoted_text format) (items-the_row-Expr m rest) ≡ [] → IsFine (sort_of_builtin builtin.Write (quoted_text format) (sort_of s format ∷ sorts_of s rest))
fine_write s at format {m} rest fine others none = go (quoted_text format) refl none
  where
    chosen : (b : Bool) → b ≡ true → IsFine (if b then sort.Nothing else sort.Bad)
    chosen true e = tt
    chosen false e = absurd (let f : false ≡ true = e in cc)

    go : (o : Option (List ℕ)) → quoted_text format ≡ o → format_rules s format o (items-the_row-Expr m rest) ≡ [] → IsFine (sort_of_builtin builtin.Write o (sort_of s format ∷ sorts_of s rest))
    go None is none = absurd (fine_good (sort_of s format) fine (unbroken _ s (expression_place format) 17 none))
    go (Some text) is none = subst (λ g. IsFine (sort_of_builtin builtin.Write (Some text) (g ∷ sorts_of s rest))) (sym (text_sort s format text is))
        (chosen (option_map_or (λ found. show_all found (sorts_of s rest)) (format_codes text) false) (shown_codes s (expression_place format) (format_codes text) rest others none))

fine_one : (b : Builtin) (text : Option (List ℕ)) (g h : Sort) → g ≡ h → IsFine (sort_of_builtin b text (h ∷ [])) → IsFine (sort_of_builtin b text (g ∷ []))
fine_one b text g h is fine = subst (λ g. IsFine (sort_of_builtin b text (g ∷ []))) (sym is) fine

-- `setTimer` and `setTimerCyclic` of a timer and a number
fine_set : (text : Option (List ℕ)) (g h : Sort) → g ≡ sort.Timer → IsOfNumber h → IsFine (sort_of_builtin builtin.SetTimer text (g ∷ h ∷ [])) × IsFine (sort_of_builtin builtin.SetTimerCyclic text (g ∷ h ∷ []))
fine_set text sort.Timer (sort.Number k) is number = (tt, tt)
fine_set text sort.Timer h is number = elim number [ ]
fine_set text g h is number = absurd (cc)

fine_builtin : (s : Scope) (at : ℕ) (b : Builtin) {m : Count} (row : Row_of-Expr m) → AreFine (sorts_of s row) → builtin_rules s at b (items-the_row-Expr m row) ≡ [] →
    IsFine (sort_of_builtin b (first_text row) (sorts_of s row))
fine_builtin s at builtin.Output (more_of-Expr message end_of-Expr) fine none =
    fine_one builtin.Output (quoted_text message) _ sort.Message (of_message (sort_of s message) (argument_so s at is_message_sort message fine.0 none)) tt
fine_builtin s at builtin.Write (more_of-Expr format rest) fine none = fine_write s at format rest fine.0 fine.1 none
fine_builtin s at builtin.SetTimer (more_of-Expr timer (more_of-Expr duration end_of-Expr)) fine none =
    (fine_set (quoted_text timer) (sort_of s timer) (sort_of s duration) (of_timer (sort_of s timer) (argument_so s at is_timer_sort timer fine.0 (front (argument_rule s at is_timer_sort timer) (integer_needed s duration) none)))
    (integer s duration (fine.1).0 (back (argument_rule s at is_timer_sort timer) (integer_needed s duration) none))).0
fine_builtin s at builtin.SetTimerCyclic (more_of-Expr timer (more_of-Expr duration end_of-Expr)) fine none =
    (fine_set (quoted_text timer) (sort_of s timer) (sort_of s duration) (of_timer (sort_of s timer) (argument_so s at is_timer_sort timer fine.0 (front (argument_rule s at is_timer_sort timer) (integer_needed s duration) none)))
    (integer s duration (fine.1).0 (back (argument_rule s at is_timer_sort timer) (integer_needed s duration) none))).1
fine_builtin s at builtin.CancelTimer (more_of-Expr timer end_of-Expr) fine none =
    fine_one builtin.CancelTimer (quoted_text timer) _ sort.Timer (of_timer (sort_of s timer) (argument_so s at is_timer_sort timer fine.0 none)) tt
fine_builtin s at builtin.Stop end_of-Expr fine none = tt
fine_builtin s at builtin.IsTimerActive (more_of-Expr timer end_of-Expr) fine none =
    fine_one builtin.IsTimerActive (quoted_text timer) _ sort.Timer (of_timer (sort_of s timer) (argument_so s at is_timer_sort timer fine.0 none)) tt
fine_builtin s at builtin.TimeNow end_of-Expr fine none = tt
fine_builtin s at builtin.ElCount (more_of-Expr array end_of-Expr) fine none =
    let is = of_array (sort_of s array) (argument_so s at is_array array fine.0 none) in fine_one builtin.ElCount (quoted_text array) _ (sort.Array is.0) is.1 tt
fine_builtin s at b row fine none = absurd (full _ _ none)

-- ---- calls of functions of the program

-- arguments of which integers are needed are numbers
pub all_integers : (s : Scope) {m : Count} (row : Row_of-Expr m) → AreFine (sorts_of s row) → flat_map (integer_needed s) (items-the_row-Expr m row) ≡ [] → list_all is_number (sorts_of s row) ≡ true
all_integers s end_of-Expr fine none = refl
all_integers s (more_of-Expr first rest) fine none =
    ap (λ b. b && list_all is_number (sorts_of s rest)) (needed (is_number (sort_of s first)) (sort_of s first) fine.0 (unbroken _ s (expression_place first) 13 (front (integer_needed s first) _ none)))
    ∙ all_integers s rest fine.1 (back (integer_needed s first) _ none)

-- a call of a function that breaks no rule has as many arguments as there are parameters
pub as_many : (s : Scope) (at : ℕ) (f : Function) {m : Count} (row : Row_of-Expr m) → function_rules s at f (items-the_row-Expr m row) ≡ [] → length (items-the_row-Expr m row) ≡ length f.parameters
as_many s at f {m} row none = eqb-true _ _ (negated (length (items-the_row-Expr m row) == length f.parameters) (unbroken _ s at 16 (front _ _ none)))
  where
    negated : (b : Bool) → not b ≡ false → b ≡ true
    negated true e = refl
    negated false e = absurd (let f : true ≡ false = e in cc)

fine_function : (s : Scope) (at : ℕ) (f : Function) {m : Count} (row : Row_of-Expr m) → AreFine (sorts_of s row) → function_rules s at f (items-the_row-Expr m row) ≡ [] → IsFine (sort_of_function s f (sorts_of s row))
fine_function s at f {m} row fine none =
    let rest = back (if not (length (items-the_row-Expr m row) == length f.parameters) then offence s at 16 ∷ [] else []) _ none in
    let long : length (sorts_of s row) ≡ length f.parameters = sorts_long s row ∙ as_many s at f row none in
    let numbers = all_integers s row fine (front (flat_map (integer_needed s) (items-the_row-Expr m row)) _ rest) in
    let once = unbroken (is_recursive s f) s at 26 (back (flat_map (integer_needed s) (items-the_row-Expr m row)) _ rest) in
    let same : length (sorts_of s row) == length f.parameters ≡ true = subst (λ n. length (sorts_of s row) == n ≡ true) long (nat_eq_equiv.refl (length (sorts_of s row))) in
    go (length (sorts_of s row) == length f.parameters) (list_all is_number (sorts_of s row)) (is_recursive s f) same numbers once
  where
    go : (a b c : Bool) → a ≡ true → b ≡ true → c ≡ false → IsFine (if a && (b && not c) then sort_given f.gives else sort.Bad)
    go true true false p q r = given_fine f.gives
    go true true true p q r = absurd (let f : true ≡ false = r in cc)
    go true false c p q r = absurd (let f : false ≡ true = q in cc)
    go false b c p q r = absurd (let f : false ≡ true = p in cc)

fine_call : (s : Scope) (at : ℕ) (c : Callee) {m : Count} (row : Row_of-Expr m) → AreFine (sorts_of s row) → call_rules s at c (items-the_row-Expr m row) ≡ [] → IsFine (sort_of_call s c (first_text row) (sorts_of s row))
fine_call s at (OfLanguage b) row fine none = fine_builtin s at b row fine none
fine_call s at (OfProgram f) row fine none = fine_function s at f row fine none
fine_call s at Unknown row fine none = absurd (full _ _ none)

-- ---- expressions

-- a place that is stepped
fine_step : (place : Bool) (g : Sort) → place ≡ true → IsFine g → IsFine (sort_of_step place g)
fine_step true g is fine = fine
fine_step false g is fine = absurd (let f : false ≡ true = is in cc)

-- the operand of a prefix operator
fine_prefix : (s : Scope) (operator : UnOp) (e : Expr) → IsFine (sort_of s e) → prefix_rule s operator e ≡ [] → IsFine (sort_of_prefix operator (is_number_place s e) (sort_of s e))
fine_prefix s prefix.Up e fine none = fine_step (is_number_place s e) (sort_of s e) (stepped s e fine none) fine
fine_prefix s prefix.Down e fine none = fine_step (is_number_place s e) (sort_of s e) (stepped s e fine none) fine
fine_prefix s prefix.Not e fine none = number_fine _ (from_number (sort_of s e) kind.Long (integer s e fine none))
fine_prefix s other e fine none = number_fine _ (from_number (sort_of s e) _ (integer s e fine none))

-- an element of an array
fine_index : (s : Scope) (at : ℕ) (base index : Expr) → IsFine (sort_of s base) → IsFine (sort_of s index) → index_rule s at (sort_of s base) ≡ [] → integer_needed s index ≡ [] →
    IsOfNumber (sort_of_element (sort_of s base) (sort_of s index))
fine_index s at base index fine index_fine none needs =
    let is = of_array (sort_of s base) (needed (is_array (sort_of s base)) (sort_of s base) fine (unbroken _ s at 28 none)) in
    element_number (sort_of s base) (sort_of s index) is.0 is.1 (integer s index index_fine needs)

-- the index of a field, if it has one, is a number
abbrev IndexIsNumber : Scope → Field → Type 0
IndexIsNumber s (Named name at) = ⊤
IndexIsNumber s (tree.Bytes k index at) = IsOfNumber (sort_of s index)

-- a member of a message
fine_part : (s : Scope) (at : ℕ) (base : Expr) (field : Field) (o : Option Held) → IsFine (sort_of s base) → IndexIsNumber s field →
    option_map_or (part_rules s at field) o (if not (is_bad (sort_of s base)) then offence s at 28 ∷ [] else []) ≡ [] →
    IsFine (option_map_or (λ message. sort_of_part s (signals_of message) field) o sort.Bad)
fine_part s at base field None fine index none = absurd (fine_good (sort_of s base) fine (unbroken _ s at 28 none))
fine_part s at base (Named name name_at) (Some held) fine index none = number_fine _ (fine_member s at name_at (member_named (signals_of held) name) none)
fine_part s at base (tree.Bytes k inner kind_at) (Some held) fine index none = number_fine _ (from_number (sort_of s inner) k index)

-- the left of an assignment is a place
pub left_place : (s : Scope) (operator : Option BinOp) (left : Expr) → IsFine (sort_of s left) → left_rule s operator left ≡ [] → is_place_for operator s left ≡ true
left_place s operator left fine none = go (is_place_for operator s left) (sort_of s left) fine (unbroken _ s (expression_place left) 14 none)
  where
    go : (place : Bool) (g : Sort) → IsFine g → not (is_bad g) && not place ≡ false → place ≡ true
    go place g fine e = needed place g fine (swapped (not (is_bad g)) (not place) e)

-- an assignment to a number
fine_assign_number : (s : Scope) (operator : Option BinOp) (left right : Expr) (at : ℕ) → is_number_place s left ≡ true → IsFine (sort_of s left) → IsFine (sort_of s right) →
    sides_rule s at (sort_of s left) (sort_of s right) ≡ [] → right_rule s left right ≡ [] →
    IsFine (sort_of_assignment operator (is_number_place s left) (is_message_place s left) (sort_of s left) (sort_of s right))
fine_assign_number s operator left right at place fine other sides none =
    let number = place_number s left place fine in
    subst (λ b. IsFine (sort_of_assignment operator b (is_message_place s left) (sort_of s left) (sort_of s right))) (sym place)
    (number_fine _ (fine_assigned operator (is_message_place s left) (sort_of s left) (sort_of s right) number (right_number s at left right number other sides none)))

-- an assignment
fine_assign : (s : Scope) (operator : Option BinOp) (left right : Expr) (at : ℕ) → IsFine (sort_of s left) → IsFine (sort_of s right) →
    left_rule s operator left ≡ [] → sides_rule s at (sort_of s left) (sort_of s right) ≡ [] → right_rule s left right ≡ [] →
    IsFine (sort_of_assignment operator (is_number_place s left) (is_message_place s left) (sort_of s left) (sort_of s right))
fine_assign s (Some operator) left right at fine other places sides none =
    fine_assign_number s (Some operator) left right at (left_place s (Some operator) left fine places) fine other sides none
fine_assign s None left right at fine other places sides none = go (is_number_place s left) refl (left_place s None left fine places)
  where
    go : (b : Bool) → is_number_place s left ≡ b → b || is_message_place s left ≡ true →
        IsFine (sort_of_assignment None (is_number_place s left) (is_message_place s left) (sort_of s left) (sort_of s right))
    go true is e = fine_assign_number s None left right at is fine other sides none
    go false is e =
        let held = message_place s left e in
        let message = message_sort s left held.0 held.1 in
        subst (λ b. IsFine (sort_of_assignment None (is_number_place s left) b (sort_of s left) (sort_of s right))) (sym e)
        (fine_copied (is_number_place s left) (sort_of s left) (sort_of s right) message (right_message s at (sort_of s left) (sort_of s right) message other sides))

module _ (s : Scope) (forms : HaveForms s.names) where
  fine_name : (name : Text) (at : ℕ) (o : Option Variable) → means s name at ≡ o → name_rule s at name o ≡ [] → IsFine (sort_of_name name o)
  fine_name name at None is none = fine_direction s at (direction name) none
  fine_name name at (Some v) is none = go v.form refl
    where
      go : (f : Form) → v.form ≡ f → IsFine (sort_of_form f)
      go Misfit e = forms v (record { among = means_among s name at v is; form_is = e })
      go other e = tt

  mutual
    -- an expression that breaks no rule is not bad
    pub fine : (e : Expr) → offences s e ≡ [] → IsFine (sort_of s e)
    fine (expr.Num value extended at) none = fine_number s at value extended none
    fine (expr.Char value at) none = tt
    fine (expr.Str text at) none = tt
    fine (expr.This at) none = fine_this s at s.this none
    fine (expr.Name name at) none = fine_name name at (means s name at) refl none
    fine (tree.Paren inner at) none = fine inner none
    fine (expr.Call' name shape args at) none =
        fine_call s at (callee s.names name) args (fine_row args (front (offences_of_row s args) _ none)) (back (offences_of_row s args) _ none)
    fine (tree.Index base index at) none =
        let rest = back (offences s base) _ none in
        let rules = back (offences s index) _ rest in
        number_fine _ (fine_index s at base index (fine base (front (offences s base) _ none)) (fine index (front (offences s index) _ rest))
        (front (index_rule s at (sort_of s base)) _ rules) (back (index_rule s at (sort_of s base)) _ rules))
    fine (tree.Member base field at) none =
        let rest = back (offences s base) _ none in
        let rules = back (offences_of_field s field) _ rest in
        fine_part s at base field (message_in s base) (fine base (front (offences s base) _ none))
        (index_number field (front (offences_of_field s field) _ rest) (front (index_needed s field) _ rules)) (back (index_needed s field) _ rules)
    fine (tree.Cast k inner at) none =
        number_fine _ (from_number (sort_of s inner) k (integer s inner (fine inner (front (offences s inner) _ none)) (back (offences s inner) _ none)))
    fine (tree.Unary operator inner at) none = fine_prefix s operator inner (fine inner (front (offences s inner) _ none)) (back (offences s inner) _ none)
    fine (tree.Post up inner at) none =
        let good = fine inner (front (offences s inner) _ none) in
        fine_step (is_number_place s inner) (sort_of s inner) (stepped s inner good (back (offences s inner) _ none)) good
    fine (tree.Binary operator left right at) none =
        let rest = back (offences s left) _ none in
        let rules = back (offences s right) _ rest in
        number_fine _ (binary_number operator (sort_of s left) (sort_of s right) (integer s left (fine left (front (offences s left) _ none)) (front (integer_needed s left) _ rules))
        (integer s right (fine right (front (offences s right) _ rest)) (back (integer_needed s left) _ rules)))
    fine (tree.Cond test one other at) none =
        let rest = back (offences s test) _ none in
        let last = back (offences s one) _ rest in
        let rules = back (offences s other) _ last in
        let two = back (integer_needed s test) _ rules in
        number_fine _ (choice_number (sort_of s test) (sort_of s one) (sort_of s other)
        (integer s test (fine test (front (offences s test) _ none)) (front (integer_needed s test) _ rules))
        (integer s one (fine one (front (offences s one) _ rest)) (front (integer_needed s one) _ two))
        (integer s other (fine other (front (offences s other) _ last)) (back (integer_needed s one) _ two)))
    fine (tree.Assign operator left right at) none =
        let rest = back (offences s left) _ none in
        let rules = back (offences s right) _ rest in
        let two = back (left_rule s operator left) _ rules in
        fine_assign s operator left right at (fine left (front (offences s left) _ none)) (fine right (front (offences s right) _ rest))
        (front (left_rule s operator left) _ rules) (front (sides_rule s at (sort_of s left) (sort_of s right)) _ two) (back (sides_rule s at (sort_of s left) (sort_of s right)) _ two)

    index_number : (field : Field) → offences_of_field s field ≡ [] → index_needed s field ≡ [] → IndexIsNumber s field
    index_number (Named name at) none needs = tt
    index_number (tree.Bytes k index at) none needs = integer s index (fine index none) needs

    -- expressions in a row that break no rule are not bad
    pub fine_row : {m : Count} (row : Row_of-Expr m) → offences_of_row s row ≡ [] → AllByRecursion IsFine (sorts_of s row)
    fine_row end_of-Expr none = tt
    fine_row (more_of-Expr first rest) none = (fine first (front (offences s first) _ none), fine_row rest (back (offences s first) _ none))

  -- an expression of which an integer is needed is a number, where it breaks no rule
  pub number : (e : Expr) → integer_offences s e ≡ [] → IsOfNumber (sort_of s e)
  number e none = integer s e (fine e (front (offences s e) _ none)) (back (offences s e) _ none)
