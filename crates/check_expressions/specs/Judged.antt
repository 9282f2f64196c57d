-- Expressions whose sorts are known.
use Rattle.std.specs.Prelude.{◌≡◌, ℕ, List, [], ◌∷◌, map, Option, Some, None}
use Rattle.capl_tree.specs.declared.expr.Expr.{Expr}
use Rattle.capl_tree.specs.declared.expr.Field.{Field}
use Rattle.capl_tree.specs.declared.expr.Field.TheVariants.{Named}
use Rattle.capl_tree.specs.Forms as tree
use Rattle.capl_meaning.specs.declared.sort.Sort.{Sort}
use Rattle.capl_meaning.specs.Names.{Scope}
use Rattle.capl_meaning.specs.Format.{quoted_text}
use Rattle.capl_meaning.specs.Sort.{sort_of}
use Rattle.check_expressions.specs.declared.judged.Judged.{Judged}

-- an expression with its sort where it stands
abbrev pub IsJudged : Scope → Judged → Type 0
IsJudged s j = j.sort ≡ sort_of s j.e.now

-- of which sorts expressions are
abbrev pub sorts_in : Scope → List Expr → List Sort
sorts_in s es = map (sort_of s) es

-- the bytes of the first of expressions, where it is a text
abbrev pub text_in_first : List Expr → Option (List ℕ)
text_in_first [] = None
text_in_first (e ∷ es) = quoted_text e

-- of which sort the index of payload bytes is
abbrev pub index_sort : Scope → Field → Option Sort
index_sort s (Named name at) = None
index_sort s (tree.Bytes kind index at) = Some (sort_of s index)
