-- Appended code that does what an expression means.
use Rattle.std.specs.Prelude.{◌≡◌, ℕ, List, length, drop, ℤ}
use Rattle.bytecode.specs.declared.code.Code.{Code}
use Rattle.control_flow.specs.World.{World}
use Rattle.control_flow.specs.Control.{Calls}
use Rattle.typed_tree.specs.declared.expression.TExpr.{TExpr}
use Rattle.typed_tree.specs.declared.program.Typed.{Typed}
use Rattle.typed_tree.specs.Expression.{Setting, value_of}
use Rattle.typed_tree.specs.Memory.{Memory}
use Rattle.typed_tree.specs.Sound.{IsSound}
use Rattle.typed_tree.specs.SoundExpression.{IsSoundExpr}
use Rattle.code_listing.specs.Listing.{Listing}
use Rattle.code_listing.specs.Runs.{IsFit, IsSetFor, Leaves, StandsAt}

-- What was appended to one listing in another, for an expression of a sound program: in every code that has
-- it at its place and is set for the expression, from any stack, open calls and fit world, it runs to its end
-- with the expression's number on top and all below as it was, or is trapped or cut where the expression is.
abbrev pub MeansValue : Typed → TExpr → Listing → Listing → Type 0
MeansValue typed e before after =
    (code : Code) (s : Setting) (call : Calls Memory) (most number : ℕ) → s.typed ≡ typed → IsSound typed →
    IsSetFor code s call most number → IsSoundExpr typed number e →
    (stack : List ℤ) (calls : List ℕ) (w : World Memory) → IsFit code most w →
    StandsAt code (length before) (drop (length before) after) →
    Leaves code s.closed s.moment (length before) stack calls w (length after) (value_of s call e w)
