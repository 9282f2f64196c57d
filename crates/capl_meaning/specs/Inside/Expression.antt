-- Words for parts of what expressions mean.
use Rattle.std.specs.Prelude.{ℕ, Bool, if◌then◌else◌, List, Option, ℤ, pos}
use Rattle.std.specs.Option.{option_map_or}
use Rattle.int_kinds.specs.declared.operators.BinOp.{BinOp}
use Rattle.int_kinds.specs.declared.operators.BinOp.TheVariants as op
use Rattle.control_flow.specs.World.{World, Run, Gives}
use Rattle.capl_meaning.specs.Variable.{Variable}
use Rattle.capl_meaning.specs.Names.{direction}
use Rattle.capl_meaning.specs.Expression.{Memory, Setting, Spot, Nowhere, reads, spot_of_form}

-- the spot of a name, by what it means
abbrev pub spot_of_name : Option Variable → Spot
spot_of_name means = option_map_or (λ v. spot_of_form v v.form) means Nowhere

-- the value of a name, by what it means: RX and TX are 0 and 1 where no variable has the name
abbrev pub value_of_name : Setting → List ℕ → Option Variable → World Memory → Run Memory ℤ
value_of_name s name means w =
    option_map_or (λ v. reads s (spot_of_form v v.form) w) means
    (Gives (option_map_or pos (direction name) (pos 0)) w)

-- the operator of `++` or `--`
abbrev pub step_operator : Bool → BinOp
step_operator up = if up then op.Add else op.Sub
