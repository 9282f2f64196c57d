-- One more const integer.
use Rattle.std.proofs.Common.{◌≡◌, ◌∙◌, ◌==◌, ◌&&◌, ◌++◌, ℕ, List, Some, None, ap, subst, sym}
use Rattle.std.specs.Prelude.{ℤ, if◌then◌else◌}
use Rattle.std.specs.Int.{cast_signed, cast_unsigned, w128}
use Rattle.std.specs.Option.{option_copied, option_or}
use Rattle.int_kinds.specs.Kind.{IsNumber}
use Rattle.capl_meaning.specs.Constant.{Constant, first_number, scope_of}
use Rattle.capl_meaning.specs.Names.{Scope}
use Rattle.check_names.specs.Variable.{variable_in}
use Rattle.check_sorts.specs.Constant.{AreValues, fixed_kind, held}
use Rattle.check_sorts.specs.Scope.{scope_in}
use Rattle.check_sorts.proofs.EvaluationLemmas.{back, declared_place, number_back}
use Rattle.check_sorts.proofs.KnownLemmas.{first_is_number, fixed, more_numbers, noted}
use Rattle.check_sorts.proofs.constants.note_constant.Goals as goal

pub returns-in_ok-note-in-Some-clause-values : goal.returns-in_ok-note-in-Some-clause-values
returns-in_ok-note-in-Some-clause-values c = λ known are.
    let names = c.args.names.now in
    let d = c.args.declared.now in
    let v = variable_in names.base d in
    let k = c.in-Some.kind in
    let old = held c.args.table.now in
    let is_fixed : fixed_kind v.form ≡ Some k = ap fixed_kind (sym c.declared_form.ensures) ∙ sym c.in-Some.ensures in
    let number = c.first_number-value.ensures known are
    ∙ ap (λ (s : Scope). first_number known s k (option_copied c.init.result)) c.of_declared-scope.ensures.scope
    ∙ ap (first_number known (scope_of names v) k) (c.init.ensures names.base) in
    let value = c.first_number-value.result in
    let is_number = subst IsNumber (sym (c.first_number-value.ensures known are))
    (first_is_number known (scope_in c.of_declared-scope.result) k (option_copied c.init.result)) in
    let written = cast_signed w128 (cast_unsigned w128 value) in
    let one : Constant = record { file = v.file; token = v.token; value = first_number known (scope_of names v) k v.init } in
    let grown = noted old (held c.note.new.self) known one are
    (λ f t. c.in_ok-note-in-Some.ensures f t
    ∙ ap (λ (n : ℕ). option_or (old f t) (if f == n && t == c.token.result then Some written else None))
    (sym (declared_place names.base d))
    ∙ ap (λ (n : ℕ). option_or (old f t) (if f == v.file && t == n then Some written else None))
    (c.token.ensures names.base)
    ∙ ap (λ (z : ℤ). option_or (old f t) (if f == v.file && t == v.token then Some z else None)) (back value is_number ∙ number)) in
    subst (λ (cs : List Constant). AreValues (held c.note.new.self) (known ++ cs))
    (sym (fixed known (scope_of names v) v v.form k is_fixed)) grown

pub returns-in_ok-note-in-Some-clause-numbers : goal.returns-in_ok-note-in-Some-clause-numbers
returns-in_ok-note-in-Some-clause-numbers c = λ known are.
    let value = c.first_number-value.result in
    let number = subst IsNumber (sym (c.first_number-value.ensures known are))
    (first_is_number known (scope_in c.of_declared-scope.result) c.in-Some.kind (option_copied c.init.result)) in
    more_numbers (held c.args.table.now) (held c.note.new.self) c.args.declared.now.place.file c.token.result
    (cast_signed w128 (cast_unsigned w128 value)) c.requires (number_back value number) (λ f t. c.in_ok-note-in-Some.ensures f t)
