-- One more parameter.
use Rattle.std.proofs.Common.{◌∙◌, ◌++◌, ◌∷◌, [], ℕ, List, ap, length, refl, sym, take}
use Rattle.std.specs.Prelude.{map}
use Rattle.std.proofs.lemmas.Option.{slice_get_read}
use Rattle.capl_tree.specs.declared.procedure.Param.{Param}
use Rattle.typed_laws.specs.Laid.{slot}
use Rattle.check_names.specs.Function.{function_in}
use Rattle.check_types.proofs.MadeLemmas.{map_more}
use Rattle.check_types.proofs.functions.parameter_slots.Goals as goal

pub loop-parameter-preserved : goal.loop-parameter-preserved
loop-parameter-preserved c =
    let cell : List ℕ → ℕ = λ n. slot c.args.names.now (record { owner = c.args.function.now.number; name = n }) in
    let all : List Param = c.args.function.now.parameters.now in
    let i = c.loop-parameter.parameter-index in
    c.in_ok-push.ensures.items
    ∙ ap (λ (l : List ℕ). l ++ c.parameter_slot-slot.result ∷ []) c.loop-parameter.invariant
    ∙ ap (λ (n : ℕ). map (λ (p : Param). cell p.name) (take i all) ++ n ∷ []) c.parameter_slot-slot.ensures
    ∙ sym (map_more (λ (p : Param). cell p.name) all i c.parameter-item.result c.loop-parameter-test.true c.parameter-item.is)

pub parameter_slot-slot-requires-clause-declared : goal.parameter_slot-slot-requires-clause-declared
parameter_slot-slot-requires-clause-declared c =
    let all : List Param = c.args.function.now.parameters.now in
    let i = c.loop-parameter.parameter-index in
    let p = c.parameter-item.result in
    c.requires.plain.parameters c.args.function.now.number (function_in c.args.function.now) c.requires.listed i p
    (slice_get_read all (length all) i p refl c.loop-parameter-test.true c.parameter-item.is)
