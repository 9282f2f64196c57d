-- The typed tree of an expression that stands alone and breaks no rule is sound, and may be the first or the third
-- part of a `for`.
use mathlib.Core.Former.{Count}
use Rattle.std.proofs.Common.{◌≡◌, ℕ, suc, ◌+◌, ◌≤◌, ◌<◌, ◌^◌, Bool, true, false, not, ◌||◌, cond, List, [], ◌∷◌, length, map, Option, Some, None, refl, sym, ap, ◌∙◌, subst, arith}
use Rattle.std.specs.Prelude.{◌==◌, IsSomeAnd, pos, count_by, filter, flat_map, if◌then◌else◌, nat_le, slice_get}
use Rattle.std.specs.List.{AllByRecursion, list_all}
use Rattle.std.specs.Option.{option_map_or}
use Rattle.std.proofs.lemmas.Int.{ints}
use Rattle.std.proofs.lemmas.List.{length-map}
use Rattle.std.proofs.lemmas.List.Sums.{count_by-le-length, length-filter}
use Rattle.std.proofs.lemmas.Option.{slice_get_within}
use Rattle.texts.specs.declared.text.Text.{Text}
use Rattle.int_kinds.specs.declared.kinds.Kind.TheVariants as kind
use Rattle.int_kinds.specs.declared.operators.BinOp.{BinOp}
use Rattle.int_kinds.specs.declared.operators.UnOp.{UnOp}
use Rattle.int_kinds.specs.declared.operators.UnOp.TheVariants as prefix
use Rattle.int_kinds.specs.Kind.{IsNumber}
use Rattle.write_format.specs.Line.{FormatText, numbers_taken}
use Rattle.message_cells.specs.Message.{IsMessage}
use Rattle.capl_tree.specs.declared.expr.Expr.{Expr, Row_of-Expr, end_of-Expr, more_of-Expr, items-the_row-Expr}
use Rattle.capl_tree.specs.declared.expr.Expr.TheVariants as expr
use Rattle.capl_tree.specs.declared.expr.Field.{Field}
use Rattle.capl_tree.specs.Forms as tree
use Rattle.capl_tree.specs.Grammar.{IsExpression}
use Rattle.typed_tree.specs.declared.expression.TExpr.{TExpr, items-the_row-TExpr}
use Rattle.typed_tree.specs.declared.expression.TExpr.TheVariants.{Const, Call'}
use Rattle.typed_tree.specs.declared.program.TFun.{TFun}
use Rattle.typed_tree.specs.declared.program.Typed.{Typed}
use Rattle.typed_tree.specs.declared.statement.TStmt.{TStmt}
use Rattle.typed_tree.specs.declared.statement.TStmt.TheVariants.{Cancel, Empty, Eval, Send}
use Rattle.typed_tree.specs.SoundExpression.{AreSoundArguments, IsSoundAlone, IsSoundExpr}
use Rattle.typed_tree.specs.SoundStatement.{Around, IsPlainStmt, IsSoundStmt}
use Rattle.capl_meaning.specs.declared.builtin.Builtin.{Builtin}
use Rattle.capl_meaning.specs.declared.builtin.Builtin.TheVariants as builtin
use Rattle.capl_meaning.specs.declared.sort.Sort.{Sort}
use Rattle.capl_meaning.specs.declared.sort.Sort.TheVariants as sort
use Rattle.capl_meaning.specs.Variable.{Form, Number, Variable}
use Rattle.capl_meaning.specs.Names.{Callee, Function, OfLanguage, OfProgram, Unknown, Scope, ThisForm, NoThis, ThisFrame, ThisKey, callee, direction, means}
use Rattle.capl_meaning.specs.Calls.{calls_in}
use Rattle.capl_meaning.specs.Format.{first_text}
use Rattle.capl_meaning.specs.Message.{Held, HeldFrame, HeldVariable, is_message_place, is_number_place, is_variable, message_in, signals_of}
use Rattle.capl_meaning.specs.Sort.{is_number, sort_of, sort_of_assignment, sort_of_binary, sort_of_builtin, sort_of_call, sort_of_choice, sort_of_direction, sort_of_form, sort_of_name, sort_of_number, sort_of_part, sort_of_prefix, sort_of_step, sort_of_this, sorts_of}
use Rattle.capl_meaning.specs.ExpressionRules.{argument_rule, builtin_rules, call_rules, function_rules, integer_needed, is_message_sort, is_timer_sort, left_rule, offence, offences, offences_of_row, sides_rule}
use Rattle.capl_meaning.specs.Expression.{timer_in}
use Rattle.capl_meaning.specs.Store.{timer_number}
use Rattle.typed_laws.specs.Laid.{IsHeld, message_slot}
use Rattle.typed_laws.proofs.Places.{message_named}
use Rattle.typed_laws.proofs.Timers.{timer_named}
use Rattle.typed_source.specs.Expression.{expression_of, loaded, of_call, of_name, of_this, place_of_form, row_of}
use Rattle.typed_source.specs.Statement.{StandFrom, alone_of, format_of, formats_of_alone, formats_of_call, formats_written, numbers_of, of_assignment, of_call_alone, pieces_written, setting, text_written, writing}
use Rattle.typed_source.specs.Sound.{CanBeMade, CanRowBeMade, HasTables, IsOfNumber}
use Rattle.typed_source.proofs.SoundExpressions.{sound}
use Rattle.sound_programs.specs.Given.{AreCallable, HaveForms}
use Rattle.sound_programs.specs.Small.{IsSmallExpr}
use Rattle.sound_programs.proofs.Empty.{back, front, full}
use Rattle.sound_programs.proofs.Sorts.{IsFine, element_fine, from_fine, of_message, of_number, of_timer}
use Rattle.sound_programs.proofs.Fine.{all_integers, argument_so, as_many, fine, fine_assigned, fine_row, integer, left_place, message_place, message_sort, part_number, place_number, right_message, right_number}
use Rattle.sound_programs.proofs.Made.{made}
use Rattle.sound_programs.proofs.Named.{message_there, timer_there}
use Rattle.sound_programs.proofs.Written.{Fits, and_both, fits, numbers_counted}

-- ---- forms that are numbers where they are fine

binary_fine : (operator : BinOp) (left right : Sort) → IsFine (sort_of_binary operator left right) → IsOfNumber (sort_of_binary operator left right)
binary_fine operator (sort.Number a) (sort.Number b) good = tt
binary_fine operator left right good = elim good [ ]

choice_fine : (given one other : Sort) → IsFine (sort_of_choice given one other) → IsOfNumber (sort_of_choice given one other)
choice_fine (sort.Number a) (sort.Number b) (sort.Number c) good = tt
choice_fine given one other good = elim good [ ]

update_fine : (operator : BinOp) (place message : Bool) (left right : Sort) → IsFine (sort_of_assignment (Some operator) place message left right) → IsOfNumber (sort_of_assignment (Some operator) place message left right)
update_fine operator true message (sort.Number k) (sort.Number j) good = tt
update_fine operator place message left right good = elim good [ ]

numeral_fine : (value : Option ℕ) (extended : Bool) → IsFine (sort_of_number value extended) → IsOfNumber (sort_of_number value extended)
numeral_fine None extended good = elim good [ ]
numeral_fine (Some n) false good = tt
numeral_fine (Some n) true good = go (nat_le n 0x1FFFFFFF) good
  where
    go : (b : Bool) → IsFine (if b then sort.Number kind.Dword else sort.Bad) → IsOfNumber (if b then sort.Number kind.Dword else sort.Bad)
    go true good = tt
    go false good = elim good [ ]

member_fine : (s : Scope) (field : Field) (o : Option Held) → IsFine (option_map_or (λ message. sort_of_part s (signals_of message) field) o sort.Bad) → IsOfNumber (option_map_or (λ message. sort_of_part s (signals_of message) field) o sort.Bad)
member_fine s field None good = elim good [ ]
member_fine s field (Some held) good = part_number s (signals_of held) field good

step_fine : (s : Scope) (e : Expr) (place : Bool) → is_number_place s e ≡ place → IsFine (sort_of_step place (sort_of s e)) → IsOfNumber (sort_of_step place (sort_of s e))
step_fine s e true is good = place_number s e is good
step_fine s e false is good = elim good [ ]

prefix_fine : (s : Scope) (operator : UnOp) (e : Expr) → IsFine (sort_of_prefix operator (is_number_place s e) (sort_of s e)) → IsOfNumber (sort_of_prefix operator (is_number_place s e) (sort_of s e))
prefix_fine s prefix.Up e good = step_fine s e (is_number_place s e) refl good
prefix_fine s prefix.Down e good = step_fine s e (is_number_place s e) refl good
prefix_fine s prefix.Not e good = from_fine (sort_of s e) kind.Long good
prefix_fine s other e good = from_fine (sort_of s e) _ good

-- the functions of the language that give something give a number
active_fine : (text : Option (List ℕ)) (sorts : List Sort) → IsFine (sort_of_builtin builtin.IsTimerActive text sorts) → IsOfNumber (sort_of_builtin builtin.IsTimerActive text sorts)
active_fine text (sort.Timer ∷ []) good = tt
active_fine text sorts good = elim good [ ]

now_fine : (text : Option (List ℕ)) (sorts : List Sort) → IsFine (sort_of_builtin builtin.TimeNow text sorts) → IsOfNumber (sort_of_builtin builtin.TimeNow text sorts)
now_fine text [] good = tt
now_fine text sorts good = elim good [ ]

count_fine : (text : Option (List ℕ)) (sorts : List Sort) → IsFine (sort_of_builtin builtin.ElCount text sorts) → IsOfNumber (sort_of_builtin builtin.ElCount text sorts)
count_fine text (sort.Array k ∷ []) good = tt
count_fine text sorts good = elim good [ ]

module _ (typed : Typed) (around : Around) where
  -- zero is sound
  sound_zero : IsSoundExpr typed around.number (Const (pos 0))
  sound_zero =
      let in_range : IsNumber (pos 0) = record { at_least = omega (arith, ints); below = omega (arith, ints) } in
      assumption in_range

  -- what is sound where a number is used is sound alone
  alone_from : (t : TExpr) → IsSoundExpr typed around.number t → IsSoundAlone typed around.number t
  alone_from (Call' f shape args) h = (h.0, h.2)
  alone_from t h = h

  -- a statement is sound, and may be a part of a `for`
  abbrev IsSoundPlain : TStmt → Type 0
  IsSoundPlain t = IsSoundStmt typed around t × IsPlainStmt t

  module _ (s : Scope) (order : List ℕ) (tables : HasTables s.names typed) (forms : HaveForms s.names) where
    -- a number that can be made stands alone
    eval_number : (e : Expr) → IsOfNumber (sort_of s e) → CanBeMade s order typed around.number e → IsSoundAlone typed around.number (expression_of s order e)
    eval_number e is can = alone_from (expression_of s order e) (sound typed around.number s order tables e is can)

    -- a message that is named is there
    held_there : (e : Expr) (held : Held) → message_in s e ≡ Some held → IsMessage typed.cells (message_slot s.names held)
    held_there e held is = go held (message_named s e held is)
      where
        go : (held : Held) → IsHeld s.names held → IsMessage typed.cells (message_slot s.names held)
        go (HeldFrame signals) h = tables.event.message
        go (HeldVariable v signals) h = tables.messages v h.0 h.1

    -- ---- calls of functions of the language

    sound_output : (at : ℕ) (message : Expr) → IsFine (sort_of s message) → argument_rule s at is_message_sort message ≡ [] →
        IsSoundPlain (option_map_or (λ held. Send (message_slot s.names held)) (message_in s message) Empty)
    sound_output at message good none =
        let there = message_there s message (of_message (sort_of s message) (argument_so s at is_message_sort message good none)) in
        subst (λ o. IsSoundPlain (option_map_or (λ held. Send (message_slot s.names held)) o Empty)) (sym there.1)
        (assumption (held_there message there.0 there.1))

    -- the timer of a call is there
    timer_exists : (at : ℕ) (timer : Expr) → IsFine (sort_of s timer) → argument_rule s at is_timer_sort timer ≡ [] →
        (v : Variable) × (timer_in s timer ≡ Some v) × (timer_number s.names v < length typed.timers)
    timer_exists at timer good none =
        let there = timer_there s timer (of_timer (sort_of s timer) (argument_so s at is_timer_sort timer good none)) in
        let real = timer_named s timer there.0 there.1 in
        (there.0, there.1, tables.timers there.0 real.0 real.1)

    sound_set : (at : ℕ) (timer : Expr) (cyclic : Bool) (t : TExpr) → IsFine (sort_of s timer) → argument_rule s at is_timer_sort timer ≡ [] → IsSoundExpr typed around.number t →
        IsSoundPlain (setting s.names (timer_in s timer) cyclic t)
    sound_set at timer cyclic t good none duration =
        let there = timer_exists at timer good none in
        subst (λ o. IsSoundPlain (setting s.names o cyclic t)) (sym there.1) (assumption (there.2, duration))

    sound_cancel : (at : ℕ) (timer : Expr) → IsFine (sort_of s timer) → argument_rule s at is_timer_sort timer ≡ [] →
        IsSoundPlain (option_map_or (λ v. Cancel (timer_number s.names v)) (timer_in s timer) Empty)
    sound_cancel at timer good none =
        let there = timer_exists at timer good none in
        subst (λ o. IsSoundPlain (option_map_or (λ v. Cancel (timer_number s.names v)) o Empty)) (sym there.1) (assumption there.2)

    -- the arguments of a `write` that are numbers
    sound_numbers : {m : Count} (row : Row_of-Expr m) → CanRowBeMade s order typed around.number row →
        AllByRecursion (IsSoundExpr typed around.number) (numbers_of s order (items-the_row-Expr m row))
    sound_numbers end_of-Expr can = tt
    sound_numbers {m} (more_of-Expr first rest) can = go (is_number (sort_of s first)) refl (sound_numbers rest can.1)
      where
        go : (b : Bool) → is_number (sort_of s first) ≡ b → AllByRecursion (IsSoundExpr typed around.number) (numbers_of s order (items-the_row-Expr _ rest)) →
            AllByRecursion (IsSoundExpr typed around.number) (map (expression_of s order)
            (cond b (first ∷ filter (λ e. is_number (sort_of s e)) (items-the_row-Expr _ rest)) (filter (λ e. is_number (sort_of s e)) (items-the_row-Expr _ rest))))
        go true is others = (sound typed around.number s order tables first (of_number (sort_of s first) is) can.0, others)
        go false is others = others

    sound_write : (before : ℕ) (format : Expr) (arguments : List Expr) → Fits s format arguments → length arguments < 2 ^ 32 →
        StandFrom before (formats_written s (text_written format) (pieces_written s format arguments) arguments) typed.formats →
        AllByRecursion (IsSoundExpr typed around.number) (numbers_of s order arguments) →
        IsSoundPlain (writing s order before (pieces_written s format arguments) arguments)
    sound_write before format arguments fit few formats numbers =
        let here : slice_get typed.formats (before + 0) ≡ Some (format_of s (text_written format) fit.pieces arguments) =
        (subst (λ o. StandFrom before (formats_written s (text_written format) o arguments) typed.formats) fit.are formats) 0 (format_of s (text_written format) fit.pieces arguments) refl in
        let zero_more : before ≡ before + 0 = omega arith in
        let at : slice_get typed.formats before ≡ Some (format_of s (text_written format) fit.pieces arguments) = ap (slice_get typed.formats) zero_more ∙ here in
        let long : length (numbers_of s order arguments) ≡ length (filter (λ e. is_number (sort_of s e)) arguments) = length-map (filter (λ e. is_number (sort_of s e)) arguments) (expression_of s order) in
        let taken : numbers_taken (format_of s (text_written format) fit.pieces arguments) ≡ length (filter (λ e. is_number (sort_of s e)) arguments) =
        numbers_counted s fit.pieces arguments (fit.as_many ∙ length-map arguments (sort_of s)) fit.shown in
        let most : length (filter (λ e. is_number (sort_of s e)) arguments) ≤ length arguments =
        let all : length (filter (λ e. is_number (sort_of s e)) arguments) ≡ count_by (λ e. is_number (sort_of s e)) arguments = length-filter (λ e. is_number (sort_of s e)) arguments in
        let some : count_by (λ e. is_number (sort_of s e)) arguments ≤ length arguments = count_by-le-length (λ e. is_number (sort_of s e)) arguments in
        omega (arith, all, some) in
        let short : length (numbers_of s order arguments) < 2 ^ 32 = omega (arith, long, most, few) in
        subst (λ o. IsSoundPlain (writing s order before o arguments)) (sym fit.are) (assumption (
          slice_get_within typed.formats before (format_of s (text_written format) fit.pieces arguments) at,
          subst (λ o. IsSomeAnd o (λ (format : FormatText). length (numbers_of s order arguments) ≡ numbers_taken format)) (sym at) (long ∙ sym taken),
          short,
        ))

    -- ---- calls

    -- arguments that are numbers
    sound_arguments : {m : Count} (row : Row_of-Expr m) → list_all is_number (sorts_of s row) ≡ true → CanRowBeMade s order typed around.number row → AreSoundArguments typed around.number (row_of s order row)
    sound_arguments end_of-Expr are can = tt
    sound_arguments (more_of-Expr first rest) are can =
        let both = and_both (is_number (sort_of s first)) (list_all is_number (sorts_of s rest)) are in
        (sound typed around.number s order tables first (of_number (sort_of s first) both.0) can.0, sound_arguments rest both.1 can.1)

    row_long : {m : Count} (row : Row_of-Expr m) → length (items-the_row-TExpr m (row_of s order row)) ≡ length (items-the_row-Expr m row)
    row_long end_of-Expr = refl
    row_long (more_of-Expr first rest) = ap suc (row_long rest)

    -- the arguments of a call of a function of the program: as many as it has parameters, and sound
    called_arguments : (at : ℕ) (f : Function) {m : Count} (row : Row_of-Expr m) → AllByRecursion IsFine (sorts_of s row) → function_rules s at f (items-the_row-Expr m row) ≡ [] →
        CanRowBeMade s order typed around.number row → (length (items-the_row-TExpr m (row_of s order row)) ≡ length f.parameters) × AreSoundArguments typed around.number (row_of s order row)
    called_arguments at f {m} row good none can =
        let rest = back (if not (length (items-the_row-Expr m row) == length f.parameters) then offence s at 16 ∷ [] else []) _ none in
        let numbers = all_integers s row good (front (flat_map (integer_needed s) (items-the_row-Expr m row)) _ rest) in
        (row_long row ∙ as_many s at f row none, sound_arguments row numbers can)

    -- an expression that stands alone is what it is as an expression
    eval : (t : TExpr) → IsSoundAlone typed around.number t → IsSoundPlain (Eval t)
    eval t h = (h, tt)

    -- a call of a function of the language
    sound_builtin : (at before : ℕ) (b : Builtin) {m : Count} (row : Row_of-Expr m) (other : TExpr) → AllByRecursion IsFine (sorts_of s row) → builtin_rules s at b (items-the_row-Expr m row) ≡ [] →
        CanRowBeMade s order typed around.number row → length (items-the_row-Expr m row) < 2 ^ 32 → StandFrom before (formats_of_call s (OfLanguage b) (items-the_row-Expr m row)) typed.formats →
        (IsOfNumber (sort_of_builtin b (first_text row) (sorts_of s row)) → IsSoundAlone typed around.number other) → IsFine (sort_of_builtin b (first_text row) (sorts_of s row)) →
        IsSoundPlain (of_call_alone s order before (OfLanguage b) (items-the_row-Expr m row) (Eval other))
    sound_builtin at before builtin.Output (more_of-Expr message end_of-Expr) other good none can few formats is all = sound_output at message good.0 none
    sound_builtin at before builtin.Write (more_of-Expr format rest) other good none can few formats is all =
        sound_write before format _ (fits s format rest good.0 good.1 none) (omega (arith, few)) formats (sound_numbers rest can.1)
    sound_builtin at before builtin.SetTimer (more_of-Expr timer (more_of-Expr duration end_of-Expr)) other good none can few formats is all =
        sound_set at timer false (expression_of s order duration) good.0 (front (argument_rule s at is_timer_sort timer) _ none)
        (sound typed around.number s order tables duration (integer s duration (good.1).0 (back (argument_rule s at is_timer_sort timer) _ none)) (can.1).0)
    sound_builtin at before builtin.SetTimerCyclic (more_of-Expr timer (more_of-Expr duration end_of-Expr)) other good none can few formats is all =
        sound_set at timer true (expression_of s order duration) good.0 (front (argument_rule s at is_timer_sort timer) _ none)
        (sound typed around.number s order tables duration (integer s duration (good.1).0 (back (argument_rule s at is_timer_sort timer) _ none)) (can.1).0)
    sound_builtin at before builtin.CancelTimer (more_of-Expr timer end_of-Expr) other good none can few formats is all = sound_cancel at timer good.0 none
    sound_builtin at before builtin.Stop end_of-Expr other good none can few formats is all = (tt, tt)
    sound_builtin at before builtin.IsTimerActive row other good none can few formats is all = eval other (is (active_fine (first_text row) (sorts_of s row) all))
    sound_builtin at before builtin.TimeNow row other good none can few formats is all = eval other (is (now_fine (first_text row) (sorts_of s row) all))
    sound_builtin at before builtin.ElCount row other good none can few formats is all = eval other (is (count_fine (first_text row) (sorts_of s row) all))
    sound_builtin at before b row other good none can few formats is all = absurd (full _ _ none)

    -- a call, by what is called
    sound_call : (at before : ℕ) (c : Callee) {m : Count} (row : Row_of-Expr m) (other : TExpr) → AllByRecursion IsFine (sorts_of s row) → call_rules s at c (items-the_row-Expr m row) ≡ [] →
        CanRowBeMade s order typed around.number row → length (items-the_row-Expr m row) < 2 ^ 32 → StandFrom before (formats_of_call s c (items-the_row-Expr m row)) typed.formats →
        (IsOfNumber (sort_of_call s c (first_text row) (sorts_of s row)) → IsSoundAlone typed around.number other) → IsFine (sort_of_call s c (first_text row) (sorts_of s row)) →
        ((f : Function) → c ≡ OfProgram f → IsSoundAlone typed around.number other) →
        IsSoundPlain (of_call_alone s order before c (items-the_row-Expr m row) (Eval other))
    sound_call at before (OfLanguage b) row other good none can few formats is all program = sound_builtin at before b row other good none can few formats is all
    sound_call at before (OfProgram f) row other good none can few formats is all program = eval other (program f refl)
    sound_call at before Unknown row other good none can few formats is all program = absurd (full _ _ none)

    -- ---- assignments

    -- a message is copied to a message variable
    sound_copy : (left right : Held) (other : TStmt) → is_variable left ≡ true → IsMessage typed.cells (message_slot s.names left) → IsMessage typed.cells (message_slot s.names right) →
        IsSoundPlain (of_assignment s.names (Some left) (Some right) other)
    sound_copy (HeldFrame signals) right other is one two = absurd (let f : false ≡ true = is in cc)
    sound_copy (HeldVariable v signals) right other is one two = assumption (one, two)

    -- an assignment
    sound_assign : (left right : Expr) (at : ℕ) → IsFine (sort_of s left) → IsFine (sort_of s right) → left_rule s None left ≡ [] → sides_rule s at (sort_of s left) (sort_of s right) ≡ [] →
        (is_number_place s left ≡ true → IsSoundAlone typed around.number (expression_of s order (tree.Assign None left right at))) →
        IsSoundPlain (of_assignment s.names (message_in s left) (message_in s right) (Eval (expression_of s order (tree.Assign None left right at))))
    sound_assign left right at good other places sides number = go (is_number_place s left) refl (left_place s None left good places)
      where
        by_held : (o : Option Held) → message_in s left ≡ o → IsOfNumber (sort_of s left) → IsSoundAlone typed around.number (expression_of s order (tree.Assign None left right at)) →
            IsSoundPlain (of_assignment s.names o (message_in s right) (Eval (expression_of s order (tree.Assign None left right at))))
        by_held None is is_number h = (h, tt)
        by_held (Some held) is is_number h = elim (subst IsOfNumber (message_sort s left held is) is_number) [ ]

        go : (b : Bool) → is_number_place s left ≡ b → b || is_message_place s left ≡ true →
            IsSoundPlain (of_assignment s.names (message_in s left) (message_in s right) (Eval (expression_of s order (tree.Assign None left right at))))
        go true is e = by_held (message_in s left) refl (place_number s left is good) (number is)
        go false is e =
            let to = message_place s left e in
            let from = message_there s right (right_message s at (sort_of s left) (sort_of s right) (message_sort s left to.0 to.1) other sides) in
            subst (λ o. IsSoundPlain (of_assignment s.names o (message_in s right) (Eval (expression_of s order (tree.Assign None left right at))))) (sym to.1)
            (subst (λ o. IsSoundPlain (of_assignment s.names (Some to.0) o (Eval (expression_of s order (tree.Assign None left right at))))) (sym from.1)
            (sound_copy to.0 from.0 (Eval (expression_of s order (tree.Assign None left right at))) to.2 (held_there left to.0 to.1) (held_there right from.0 from.1)))

    -- ---- expressions that stand alone

    -- a name
    name_alone : (name : Text) (o : Option Variable) → IsFine (sort_of_name name o) → (IsOfNumber (sort_of_name name o) → IsSoundAlone typed around.number (of_name s.names name o)) →
        IsSoundAlone typed around.number (of_name s.names name o)
    name_alone name None good number = number (go (direction name) good)
      where
        go : (o : Option ℕ) → IsFine (sort_of_direction o) → IsOfNumber (sort_of_direction o)
        go None good = elim good [ ]
        go (Some n) good = tt
    name_alone name (Some v) good number = go v.form number
      where
        go : (f : Form) → (IsOfNumber (sort_of_form f) → IsSoundAlone typed around.number (loaded (place_of_form s.names v f))) → IsSoundAlone typed around.number (loaded (place_of_form s.names v f))
        go (Number k fixed) number = number tt
        go other number = sound_zero

    -- `this`
    this_alone : (this : ThisForm) → (IsOfNumber (sort_of_this this) → IsSoundAlone typed around.number (of_this this)) → IsSoundAlone typed around.number (of_this this)
    this_alone NoThis number = sound_zero
    this_alone (ThisFrame signals) number = sound_zero
    this_alone ThisKey number = number tt

    -- an expression that breaks no rule can be made
    can_be_made : (e : Expr) → IsExpression e → IsSmallExpr e → offences s e ≡ [] → AreCallable s.names order typed around.number (calls_in e) → CanBeMade s order typed around.number e
    can_be_made e formed few none called = made typed around.number s order e formed few none called

    -- a number
    number_alone : (e : Expr) → IsOfNumber (sort_of s e) → IsExpression e → IsSmallExpr e → offences s e ≡ [] → AreCallable s.names order typed around.number (calls_in e) →
        IsSoundPlain (Eval (expression_of s order e))
    number_alone e is formed few none called = eval (expression_of s order e) (eval_number e is (can_be_made e formed few none called))

    -- each expression that breaks no rule
    pub alone : (before : ℕ) (e : Expr) → IsExpression e → IsSmallExpr e → offences s e ≡ [] → AreCallable s.names order typed around.number (calls_in e) →
        StandFrom before (formats_of_alone s e) typed.formats → IsSoundPlain (alone_of s order before e)
    alone before (tree.Paren inner at) formed few none called formats = alone before inner formed few none called formats
    alone before (expr.Call' name shape args at) formed few none called formats =
        let can = can_be_made (expr.Call' name shape args at) formed few none called in
        let good = fine_row s forms args (front (offences_of_row s args) _ none) in
        let rules = back (offences_of_row s args) _ none in
        sound_call at before (callee s.names name) args (expression_of s order (expr.Call' name shape args at)) good rules can.1 few.0 formats
        (λ is. eval_number (expr.Call' name shape args at) is can) (fine s forms (expr.Call' name shape args at) none) (λ f is.
        let callable = can.0 f is in
        let given = called_arguments at f args good (subst (λ c. call_rules s at c (items-the_row-Expr _ args) ≡ []) is rules) can.1 in
        subst (λ c. IsSoundAlone typed around.number (of_call s order c (items-the_row-Expr _ args) (λ k. Call' k shape (row_of s order args)))) (sym is)
        (subst (λ o. IsSoundAlone typed around.number (option_map_or (λ k. Call' k shape (row_of s order args)) o (Const (pos 0)))) (sym callable.is_there) (assumption (
          callable.earlier,
          subst (λ o. IsSomeAnd o (λ (function : TFun). length (items-the_row-TExpr _ (row_of s order args)) ≡ length function.params)) (sym callable.is_function) (given.0 ∙ sym callable.same_count),
          subst (λ n. n < 2 ^ 32) (sym given.0) callable.few_parameters,
          given.1,
        ))))
    alone before (tree.Assign None left right at) formed few none called formats =
        let rest = back (offences s left) _ none in
        let rules = back (offences s right) _ rest in
        let two = back (left_rule s None left) _ rules in
        let good = fine s forms left (front (offences s left) _ none) in
        let other = fine s forms right (front (offences s right) _ rest) in
        let sides = front (sides_rule s at (sort_of s left) (sort_of s right)) _ two in
        sound_assign left right at good other (front (left_rule s None left) _ rules) sides (λ is.
        let number = place_number s left is good in
        let of_right = right_number s at left right number other sides (back (sides_rule s at (sort_of s left) (sort_of s right)) _ two) in
        let whole : IsOfNumber (sort_of s (tree.Assign None left right at)) =
        subst (λ b. IsOfNumber (sort_of_assignment None b (is_message_place s left) (sort_of s left) (sort_of s right))) (sym is) (fine_assigned None (is_message_place s left) (sort_of s left) (sort_of s right) number of_right) in
        eval_number (tree.Assign None left right at) whole (can_be_made (tree.Assign None left right at) formed few none called))
    alone before (tree.Assign (Some operator) left right at) formed few none called formats =
        number_alone (tree.Assign (Some operator) left right at) (update_fine operator (is_number_place s left) (is_message_place s left) (sort_of s left) (sort_of s right) (fine s forms (tree.Assign (Some operator) left right at) none)) formed few none called
    alone before (expr.Name name at) formed few none called formats =
        eval (of_name s.names name (means s name at)) (name_alone name (means s name at) (fine s forms (expr.Name name at) none) (λ is. eval_number (expr.Name name at) is (can_be_made (expr.Name name at) formed few none called)))
    alone before (expr.This at) formed few none called formats =
        eval (of_this s.this) (this_alone s.this (λ is. eval_number (expr.This at) is (can_be_made (expr.This at) formed few none called)))
    alone before (expr.Str text at) formed few none called formats = eval (Const (pos 0)) sound_zero
    alone before (expr.Num value extended at) formed few none called formats =
        number_alone (expr.Num value extended at) (numeral_fine value extended (fine s forms (expr.Num value extended at) none)) formed few none called
    alone before (expr.Char value at) formed few none called formats = number_alone (expr.Char value at) tt formed few none called
    alone before (tree.Index base index at) formed few none called formats =
        number_alone (tree.Index base index at) (element_fine (sort_of s base) (sort_of s index) (fine s forms (tree.Index base index at) none)) formed few none called
    alone before (tree.Member base field at) formed few none called formats =
        number_alone (tree.Member base field at) (member_fine s field (message_in s base) (fine s forms (tree.Member base field at) none)) formed few none called
    alone before (tree.Cast k inner at) formed few none called formats =
        number_alone (tree.Cast k inner at) (from_fine (sort_of s inner) k (fine s forms (tree.Cast k inner at) none)) formed few none called
    alone before (tree.Unary operator inner at) formed few none called formats =
        number_alone (tree.Unary operator inner at) (prefix_fine s operator inner (fine s forms (tree.Unary operator inner at) none)) formed few none called
    alone before (tree.Post up inner at) formed few none called formats =
        number_alone (tree.Post up inner at) (step_fine s inner (is_number_place s inner) refl (fine s forms (tree.Post up inner at) none)) formed few none called
    alone before (tree.Binary operator left right at) formed few none called formats =
        number_alone (tree.Binary operator left right at) (binary_fine operator (sort_of s left) (sort_of s right) (fine s forms (tree.Binary operator left right at) none)) formed few none called
    alone before (tree.Cond given one other at) formed few none called formats =
        number_alone (tree.Cond given one other at) (choice_fine (sort_of s given) (sort_of s one) (sort_of s other) (fine s forms (tree.Cond given one other at) none)) formed few none called
