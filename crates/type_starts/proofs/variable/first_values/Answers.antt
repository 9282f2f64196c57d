-- One more variable, and the whole.
use Rattle.std.proofs.Common.{◌++◌, ◌∙◌, ap, sym, subst, take, arith}
use Rattle.std.specs.Prelude.{flat_map}
use Rattle.capl_meaning.specs.Variable.{Variable}
use Rattle.typed_laws.specs.Starts.{first_cells_of}
use Rattle.typed_laws.proofs.Starts.{first_laid}
use Rattle.typed_source.specs.Program.{starts_from}
use Rattle.type_starts.specs.Identifier.{IsDeclaredShort}
use Rattle.type_starts.specs.Starts.{Goes}
use Rattle.type_starts.proofs.StartLemmas.{goes_on}
use Rattle.type_starts.proofs.VariableLemmas.{all_at, cells_within, flat_more, take_whole, there_is}
use Rattle.type_starts.proofs.variable.first_values.Goals as goal

pub loop-number-preserved : goal.loop-number-preserved
loop-number-preserved c =
    let names = c.args.names.now in
    let s = there_is names.variables c.loop-number.number (omega (arith, c.variable_count-count.ensures)) in
    subst (λ cells. Goes (record { cell = 15; all = c.new.result }) c.push_variable.new.starts cells) (sym (flat_more (first_cells_of names) names.variables c.loop-number.number s.0 s.1))
    (goes_on _ _ _ _ _ c.loop-number.invariant (c.in_ok-push_variable.ensures s.0 s.1))

pub returns : goal.returns
returns c =
    let names = c.args.names.now in
    c.loop-number.invariant.all
    ∙ ap (λ l. l ++ starts_from 15 (flat_map (first_cells_of names) (take c.loop-number.number names.variables))) c.new.ensures.items
    ∙ ap (λ vs. starts_from 15 (flat_map (first_cells_of names) vs)) (take_whole names.variables c.loop-number.number (omega (arith, c.variable_count-count.ensures)))
    ∙ ap (starts_from 15) (sym (first_laid names c.requires.distinct))

pub push_variable-requires-clause-room : goal.push_variable-requires-clause-room
push_variable-requires-clause-room c = λ v at.
    let names = c.args.names.now in
    omega (arith, c.loop-number.invariant.cell, cells_within names names.variables c.loop-number.number v at, c.requires.few)

pub push_variable-requires-clause-identifier : goal.push_variable-requires-clause-identifier
push_variable-requires-clause-identifier c = λ v at.
    all_at (λ (v : Variable). IsDeclaredShort v.form) c.args.names.now.variables c.loop-number.number v c.requires.identifiers at
