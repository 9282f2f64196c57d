-- By the first variable of the name, as the table has it.
use Rattle.std.proofs.Common.{◌≡◌, ◌≢◌, ◌≤◌, ◌∙◌, ℕ, List, None, Option, Some, ap, arith, false, length, nat_le, nat_lt, refl, sym}
use Rattle.std.specs.Prelude.{slice_get}
use Rattle.std.proofs.lemmas.Bool.Decides.{nat_tests}
use Rattle.std.proofs.lemmas.List.{length-map}
use Rattle.std.proofs.lemmas.Option.{slice_get_past}
use Rattle.dbc_reader.specs.declared.message.DbcMessage.{DbcMessage}
use Rattle.capl_meaning.specs.Variable.{Variable}
use Rattle.check_names.specs.declared.table.NameTable.{NameTable}
use Rattle.check_names.specs.declared.variable.Declared.{Declared}
use Rattle.check_names.specs.Inside.Table.{number_at}
use Rattle.check_names.specs.Variable.{variable_in, variables_in}
use Rattle.check_names.proofs.InnerTurns.{owner_by}
use Rattle.check_names.proofs.NameLemmas.{listed_at}
use Rattle.check_names.proofs.ScopeLemmas.{in_order-by, in_order-outside}
use Rattle.check_names.proofs.scope.is_in_order.Goals as goal

-- what the table has for a variable's name
known_as : (base : List DbcMessage) (tables : List NameTable) (d : Declared) (name : List ℕ) (place : Option ℕ)
    → name ≡ (variable_in base d).name → number_at tables d.place.owner name ≡ place
    → number_at tables (variable_in base d).owner (variable_in base d).name ≡ place
known_as base tables d name place named is =
    ap (λ (o : ℕ). number_at tables o (variable_in base d).name) (sym (owner_by base d.place d.source))
    ∙ ap (λ (n : List ℕ). number_at tables d.place.owner n) (sym named) ∙ is

-- a number beyond those that are listed
listed_nowhere : (base : List DbcMessage) (all : List Declared) (number : ℕ) → false ≡ nat_lt number (length all)
    → slice_get (variables_in base all) number ≡ None
listed_nowhere base all number beyond =
    let past : length all ≤ number = grind (arith, nat_tests, beyond) in
    slice_get_past (variables_in base all) number (omega (arith, past, length-map all (variable_in base)))

-- a variable of a procedure is one
inside : (base : List DbcMessage) (d : Declared) → d.place.owner ≢ 0 → (variable_in base d).owner ≢ 0
inside base d is = λ outside. is (owner_by base d.place d.source ∙ outside)

pub returns-then-owner-eq0 : goal.returns-then-owner-eq0
returns-then-owner-eq0 c = λ base.
    let d = c.args.variable.now in
    in_order-outside (variables_in base c.args.variables.now) (variable_in base d)
    (sym (owner_by base d.place d.source) ∙ c.if-owner-eq0.true)

pub returns-in_default : goal.returns-in_default
returns-in_default c = λ base.
    let d = c.args.variable.now in
    in_order-by c.args.tables.now (variables_in base c.args.variables.now) (variable_in base d) None None
    (c.requires base) (inside base d c.if-owner-eq0.false)
    (known_as base c.args.tables.now d c.name.result.now None (c.name.ensures base) (sym c.number_at.ensures ∙ c.in_default.is))
    refl

pub returns-in-Some-get : goal.returns-in-Some-get
returns-in-Some-get c = λ base.
    let d = c.args.variable.now in
    let number = c.in-Some.number in
    let w : Variable = variable_in base c.in-Some-get.first.now in
    let lookup = c.in-Some-get.ensures.lookup in
    ap (λ (t : ℕ). nat_le t c.token-in-Some-get.result) (c.token.ensures base)
    ∙ ap (λ (t : ℕ). nat_le w.token t) (c.token-in-Some-get.ensures base)
    ∙ in_order-by c.args.tables.now (variables_in base c.args.variables.now) (variable_in base d) (Some number) (Some w)
    (c.requires base) (inside base d c.if-owner-eq0.false)
    (known_as base c.args.tables.now d c.name.result.now (Some number) (c.name.ensures base) (sym c.number_at.ensures ∙ c.in-Some.is))
    (listed_at base c.args.variables.now c.args.variables.now number c.in-Some-get.first.now refl lookup.0 lookup.1)

pub returns-in-None : goal.returns-in-None
returns-in-None c = λ base.
    let d = c.args.variable.now in
    let number = c.in-Some.number in
    let lookup = c.in-None.ensures.lookup in
    in_order-by c.args.tables.now (variables_in base c.args.variables.now) (variable_in base d) (Some number) None
    (c.requires base) (inside base d c.if-owner-eq0.false)
    (known_as base c.args.tables.now d c.name.result.now (Some number) (c.name.ensures base) (sym c.number_at.ensures ∙ c.in-Some.is))
    (listed_nowhere base c.args.variables.now number lookup.0)
