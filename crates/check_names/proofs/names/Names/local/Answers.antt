-- The first variable of the name in the procedure, where it stands before the token.
use Rattle.std.proofs.Common.{◌≡◌, ◌<◌, ◌≤◌, ◌∙◌, List, ℕ, Some, ap, subst, sym}
use Rattle.std.specs.Prelude.{position}
use Rattle.dbc_reader.specs.declared.message.DbcMessage.{DbcMessage}
use Rattle.capl_meaning.specs.Names.{Names, is_local}
use Rattle.check_names.specs.declared.table.NameTable.{NameTable}
use Rattle.check_names.specs.declared.variable.Declared.{Declared}
use Rattle.check_names.specs.Inside.Table.{is_named_before, number_at}
use Rattle.check_names.specs.Names.{messages_of}
use Rattle.check_names.specs.Variable.{variable_in, variables_in}
use Rattle.check_names.proofs.NameLemmas.{listed_at, local_early, local_first, local_late, local_missing, no_local}
use Rattle.check_names.proofs.names.Names.local.Goals as goal

pub returns-then-procedure-eq0 : goal.returns-then-procedure-eq0
returns-then-procedure-eq0 c =
    no_local c.args.procedure c.args.name.now c.args.token c.args.self.now.variables c.if-procedure-eq0.true

pub returns-in_err-number : goal.returns-in_err-number
returns-in_err-number c =
    let names = c.self.inside in
    let missing =
    ap (λ (ts : List NameTable). number_at ts c.args.procedure c.args.name.now) (sym c.as_slice.ensures.value)
    ∙ sym c.in_err-number.ensures in
    c.from_residual.ensures
    ∙ local_missing names.tables.items (variables_in (messages_of names.base) names.variables.items) c.args.procedure
    c.args.name.now c.args.token c.self.invariant.0 c.if-procedure-eq0.false missing
    ∙ ap (λ (n : Names). position (is_local c.args.procedure c.args.name.now c.args.token) n.variables) c.self.view_is

pub returns-then-token : goal.returns-then-token
returns-then-token c =
    let names = c.self.inside in
    let base : List DbcMessage = messages_of names.base in
    let number = c.in_ok-number.number in
    let lookup = c.in_ok-variable.ensures.lookup in
    let there : number_at names.tables.items c.args.procedure c.args.name.now ≡ Some number =
    ap (λ (ts : List NameTable). number_at ts c.args.procedure c.args.name.now) (sym c.as_slice.ensures.value)
    ∙ sym c.in_ok-number.ensures in
    local_early names.tables.items (variables_in base names.variables.items) c.args.procedure c.args.name.now
    c.args.token number (variable_in base c.in_ok-variable.variable.now) c.self.invariant.0 c.if-procedure-eq0.false there
    (listed_at base names.variables.items c.deref.result.now number c.in_ok-variable.variable.now c.deref.ensures.value lookup.0 lookup.1)
    (subst (λ (t : ℕ). t < c.args.token) (c.token.ensures base) c.if-token.true)
    ∙ ap (λ (n : Names). position (is_local c.args.procedure c.args.name.now c.args.token) n.variables) c.self.view_is

pub returns-then-self : goal.returns-then-self
returns-then-self c =
    let names = c.self.inside in
    let base : List DbcMessage = messages_of names.base in
    let number = c.in_ok-number.number in
    let lookup = c.in_ok-variable.ensures.lookup in
    let there : number_at names.tables.items c.args.procedure c.args.name.now ≡ Some number =
    ap (λ (ts : List NameTable). number_at ts c.args.procedure c.args.name.now) (sym c.as_slice.ensures.value)
    ∙ sym c.in_ok-number.ensures in
    local_late names.tables.items (variables_in base names.variables.items) c.args.procedure c.args.name.now
    c.args.token number (variable_in base c.in_ok-variable.variable.now) c.self.invariant.0 c.if-procedure-eq0.false there
    (listed_at base names.variables.items c.deref.result.now number c.in_ok-variable.variable.now c.deref.ensures.value lookup.0 lookup.1)
    (subst (λ (t : ℕ). c.args.token ≤ t) (c.token.ensures base) c.if-token.false)
    (c.self.invariant.1.1.0 c.if-self.true)
    ∙ ap (λ (n : Names). position (is_local c.args.procedure c.args.name.now c.args.token) n.variables) c.self.view_is

pub returns : goal.returns
returns c =
    let names = c.self.inside in
    let base : List DbcMessage = messages_of names.base in
    local_first (variables_in base names.variables.items) c.args.procedure c.args.name.now c.args.token c.first_before.result
    c.if-procedure-eq0.false
    (c.first_before.ensures base
    ∙ ap (λ (ds : List Declared). position (is_named_before c.args.procedure c.args.name.now c.args.token) (variables_in base ds))
    c.as_slice-2.ensures.value)
    ∙ ap (λ (n : Names). position (is_local c.args.procedure c.args.name.now c.args.token) n.variables) c.self.view_is
