-- An expression that is known to give 0 or 1 does so.
use Rattle.std.proofs.Common.{◌≡◌, Bool, true, false, refl, sym, subst}
use Rattle.std.specs.Prelude.{ℤ, pos, not, if◌then◌else◌}
use Rattle.std.specs.Ordering.{int_eq}
use Rattle.int_kinds.specs.declared.kinds.Kind.{Kind}
use Rattle.int_kinds.specs.declared.operators.UnOp.{UnOp}
use Rattle.int_kinds.specs.declared.operators.UnOp.TheVariants.{Minus, Plus, Not, Inv, Up, Down}
use Rattle.int_kinds.specs.declared.operators.BinOp.{BinOp}
use Rattle.int_kinds.specs.Arithmetic.{truth}
use Rattle.control_flow.specs.World.{World, Run, Gives, Fails, and_then}
use Rattle.control_flow.specs.Control.{Calls}
use Rattle.typed_tree.specs.declared.expression.TExpr.{TExpr}
use Rattle.typed_tree.specs.declared.expression.TExpr.TheVariants.{Const, Load, Bump, Call', Active, Now}
use Rattle.typed_tree.specs.Expression.{Setting, gives_or_traps, operates, prefix_value, truth_of, value_of}
use Rattle.typed_tree.specs.Forms.{Binary, Both, Cond, Convert, Either, Store, Unary, Update}
use Rattle.typed_tree.specs.Memory.{Memory}
use Rattle.typed_tree.specs.Shape.{is_comparison, is_not, is_truth}
use Rattle.code_listing.proofs.ChoiceRuns.{GivesTruth}
use Rattle.code_listing.proofs.ComparisonLemmas.{comparison_decides}

truth_again : (b : Bool) → truth_of (truth b) ≡ truth b
truth_again true = refl
truth_again false = refl

truth_after : {A : Type 0} (run : Run Memory A) (next : A → World Memory → Run Memory ℤ) →
    ((a : A) (w : World Memory) → GivesTruth (next a w)) → GivesTruth (and_then run next)
truth_after (Gives a w) next h = h a w
truth_after (Fails o w) next h = tt

truth_if : (b : Bool) (one other : Run Memory ℤ) → GivesTruth one → GivesTruth other → GivesTruth (if b then one else other)
truth_if true one other h k = h
truth_if false one other h k = k

truth_of_prefix : (op : UnOp) (k : Kind) (n : ℤ) → is_not op ≡ true → truth_of (prefix_value op k n) ≡ prefix_value op k n
truth_of_prefix Not k n e = truth_again (int_eq n (pos 0))
truth_of_prefix Minus k n e = absurd (let f : false ≡ true = e in cc)
truth_of_prefix Plus k n e = absurd (let f : false ≡ true = e in cc)
truth_of_prefix Inv k n e = absurd (let f : false ≡ true = e in cc)
truth_of_prefix Up k n e = absurd (let f : false ≡ true = e in cc)
truth_of_prefix Down k n e = absurd (let f : false ≡ true = e in cc)

truth_of_operator : (op : BinOp) (k : Kind) (x y : ℤ) (w : World Memory) → is_comparison op ≡ true → GivesTruth (operates op k x y w)
truth_of_operator op k x y w e =
    let d = comparison_decides op k x y e in
    subst (λ o. GivesTruth (gives_or_traps o w)) (sym d.value_is) (truth_again d.holds)

-- such an expression gives 0 or 1
pub truth_given : (s : Setting) (call : Calls Memory) (e : TExpr) (w : World Memory) → is_truth e ≡ true → GivesTruth (value_of s call e w)
truth_given s call (Unary op k e) w h = truth_after (value_of s call e w) _ (λ n w. truth_of_prefix op k n h)
truth_given s call (Binary op k a b) w h =
    truth_after (value_of s call a w) _ (λ x w. truth_after (value_of s call b w) _ (λ y w. truth_of_operator op k x y w h))
truth_given s call (Both a b) w h = truth_after (value_of s call a w) _ (λ n w. truth_if (int_eq n (pos 0)) _ _ refl
    (truth_after (value_of s call b w) _ (λ n w. truth_again (not (int_eq n (pos 0))))))
truth_given s call (Either a b) w h = truth_after (value_of s call a w) _ (λ n w. truth_if (int_eq n (pos 0)) _ _
    (truth_after (value_of s call b w) _ (λ n w. truth_again (not (int_eq n (pos 0))))) refl)
truth_given s call (Active timer) w h = truth_again _
truth_given s call (Const n) w h = absurd (let f : false ≡ true = h in cc)
truth_given s call (Load at) w h = absurd (let f : false ≡ true = h in cc)
truth_given s call (Store at e) w h = absurd (let f : false ≡ true = h in cc)
truth_given s call (Update op k back at e) w h = absurd (let f : false ≡ true = h in cc)
truth_given s call (Bump at k up post) w h = absurd (let f : false ≡ true = h in cc)
truth_given s call (Cond t a b) w h = absurd (let f : false ≡ true = h in cc)
truth_given s call (Convert k e) w h = absurd (let f : false ≡ true = h in cc)
truth_given s call (Call' g shape args) w h = absurd (let f : false ≡ true = h in cc)
truth_given s call Now w h = absurd (let f : false ≡ true = h in cc)
