-- Code that stands at its place does what the expression means.
use Rattle.std.specs.Prelude.{◌≡◌, ℕ, ◌+◌, List, [], ◌∷◌, ◌++◌, length, drop}
use Rattle.std.proofs.Common.{refl}
use Rattle.bytecode.specs.declared.code.Code.{Code}
use Rattle.control_flow.specs.Control.{Calls}
use Rattle.typed_tree.specs.declared.expression.TExpr.{TExpr}
use Rattle.typed_tree.specs.declared.program.Typed.{Typed}
use Rattle.typed_tree.specs.Expression.{Setting}
use Rattle.typed_tree.specs.Memory.{Memory}
use Rattle.typed_tree.specs.Size.{value_size}
use Rattle.typed_tree.specs.Sound.{IsSound}
use Rattle.typed_tree.specs.SoundExpression.{IsSoundExpr}
use Rattle.code_listing.specs.Expression.{value_code}
use Rattle.code_listing.specs.Listing.{Listing}
use Rattle.code_listing.specs.Runs.{IsSetFor, RunsAsValue}
use Rattle.gen_expr.specs.Meaning.{MeansValue}

-- what stands behind a list
drop_front : {A : Type 0} (xs ys : List A) → drop (length xs) (xs ++ ys) ≡ ys
drop_front [] ys = refl
drop_front (x ∷ xs) ys = drop_front xs ys

-- the appended code of an expression does what the expression means
pub means_value : (typed : Typed) (e : TExpr) (before after : Listing) (depth : ℕ) →
    after ≡ before ++ value_code typed e (length before) depth →
    length after ≡ length before + value_size typed e →
    ((code : Code) (s : Setting) (call : Calls Memory) (most number : ℕ) (e : TExpr) → IsSound s.typed →
    IsSetFor code s call most number → IsSoundExpr s.typed number e → RunsAsValue code s call most e) →
    MeansValue typed e before after
means_value typed e before after depth code_is grows law =
    λ code s call most number same sound set sound_e stack calls w fit stands.
    let here = rw (← same) at code_is in
    let long = rw (← same) at grows in
    let at = rw (here, drop_front before (value_code s.typed e (length before) depth)) at stands in
    rw long
    (law code s call most number e (rw same sound) set (rw same sound_e) (length before) depth stack calls w fit at)
