-- States of the machine with the same parts.
use Rattle.std.proofs.Common.{◌≡◌, ℕ, Bool, List, ap, ◌∙◌}
use Rattle.std.specs.Prelude.{ℤ}
use Rattle.run_effects.specs.Effect.{Effect}
use Rattle.bytecode.specs.Machine.{Machine}

-- states with the same parts are the same
pub same_machine : (m n : Machine) → m.place ≡ n.place → m.stack ≡ n.stack → m.calls ≡ n.calls → m.cells ≡ n.cells → m.turns ≡ n.turns → m.active ≡ n.active → m.effects ≡ n.effects → m ≡ n
same_machine m n place stack calls cells turns active effects =
    ap (λ (x : ℕ). record m { place = x }) place
    ∙ ap (λ (x : List ℤ). record m { place = n.place; stack = x }) stack
    ∙ ap (λ (x : List ℕ). record m { place = n.place; stack = n.stack; calls = x }) calls
    ∙ ap (λ (x : List ℤ). record m { place = n.place; stack = n.stack; calls = n.calls; cells = x }) cells
    ∙ ap (λ (x : ℕ). record m { place = n.place; stack = n.stack; calls = n.calls; cells = n.cells; turns = x }) turns
    ∙ ap (λ (x : List Bool). record m { place = n.place; stack = n.stack; calls = n.calls; cells = n.cells; turns = n.turns; active = x }) active
    ∙ ap (λ (x : List Effect). record n { effects = x }) effects
