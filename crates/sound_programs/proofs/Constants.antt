-- A constant has one number wherever it stands in a procedure, whatever `this` is there and the procedure gives.
use Rattle.std.proofs.Common.{◌≡◌, ℕ, Bool, true, false, ◌&&◌, List, Option, None, refl, sym, ap, ◌∙◌}
use Rattle.std.specs.Prelude.{if◌then◌else◌}
use Rattle.std.specs.Option.{option_map}
use Rattle.int_kinds.specs.declared.kinds.Kind.{Kind}
use Rattle.int_kinds.specs.declared.operators.UnOp.{UnOp}
use Rattle.int_kinds.specs.declared.operators.UnOp.TheVariants as prefix
use Rattle.int_kinds.specs.Kind.{join, wrap}
use Rattle.capl_tree.specs.declared.expr.Expr.{Expr}
use Rattle.capl_tree.specs.declared.expr.Expr.TheVariants as expr
use Rattle.capl_tree.specs.Forms as tree
use Rattle.capl_meaning.specs.declared.sort.Sort.{Sort}
use Rattle.capl_meaning.specs.Names.{Names, Scope, ThisForm}
use Rattle.capl_meaning.specs.Operator.{prefix_value}
use Rattle.capl_meaning.specs.Sort.{kind_in, number_from, sort_of, sort_of_binary, sort_of_choice, sort_of_prefix, working_kind}
use Rattle.capl_meaning.specs.Constant.{Constant, chosen, constant, constant_at, constant_value, is_constant, is_constant_prefix, operator_value}
use Rattle.sound_programs.proofs.Written.{and_both}

module _ (names : Names) (owner file : ℕ) (one other : ThisForm) (gives given : Option Kind) where
  -- two scopes of one procedure
  abbrev here : Scope
  here = record { names = names; owner = owner; file = file; this = one; gives = gives }

  abbrev there : Scope
  there = record { names = names; owner = owner; file = file; this = other; gives = given }

  both : (a b c d : Bool) → a ≡ c → b ≡ d → a && b ≡ c && d
  both a b c d e f = ap (λ x. x && b) e ∙ ap (λ x. c && x) f

  -- it is a constant in both or in neither
  constant_same : (known : List Constant) (e : Expr) → is_constant known here e ≡ is_constant known there e
  constant_same known (expr.Num value extended at) = refl
  constant_same known (expr.Char value at) = refl
  constant_same known (expr.Str text at) = refl
  constant_same known (expr.This at) = refl
  constant_same known (expr.Name name at) = refl
  constant_same known (tree.Paren inner at) = constant_same known inner
  constant_same known (expr.Call' name shape args at) = refl
  constant_same known (tree.Index base index at) = refl
  constant_same known (tree.Member base field at) = refl
  constant_same known (tree.Cast k inner at) = constant_same known inner
  constant_same known (tree.Unary operator inner at) = ap (λ b. is_constant_prefix operator && b) (constant_same known inner)
  constant_same known (tree.Post up inner at) = refl
  constant_same known (tree.Binary operator left right at) = both _ _ _ _ (constant_same known left) (constant_same known right)
  constant_same known (tree.Cond chosen_by chosen_one chosen_other at) = both _ _ _ _ (constant_same known chosen_by) (both _ _ _ _ (constant_same known chosen_one) (constant_same known chosen_other))
  constant_same known (tree.Assign operator left right at) = refl

  -- a constant prefix operator needs no place
  prefix_same : (operator : UnOp) (a b : Bool) (g h : Sort) → is_constant_prefix operator ≡ true → g ≡ h → sort_of_prefix operator a g ≡ sort_of_prefix operator b h
  prefix_same prefix.Up a b g h is e = absurd (let f : false ≡ true = is in cc)
  prefix_same prefix.Down a b g h is e = absurd (let f : false ≡ true = is in cc)
  prefix_same prefix.Minus a b g h is e = ap (λ g. number_from g (join (kind_in g) (kind_in g))) e
  prefix_same prefix.Plus a b g h is e = ap (λ g. number_from g (join (kind_in g) (kind_in g))) e
  prefix_same prefix.Not a b g h is e = ap (λ g. sort_of_prefix prefix.Not a g) e
  prefix_same prefix.Inv a b g h is e = ap (λ g. number_from g (join (kind_in g) (kind_in g))) e

  -- a constant has one sort
  sort_same : (known : List Constant) (e : Expr) → is_constant known here e ≡ true → sort_of here e ≡ sort_of there e
  sort_same known (expr.Num value extended at) is = refl
  sort_same known (expr.Char value at) is = refl
  sort_same known (expr.Name name at) is = refl
  sort_same known (tree.Paren inner at) is = sort_same known inner is
  sort_same known (tree.Cast k inner at) is = ap (λ g. number_from g k) (sort_same known inner is)
  sort_same known (tree.Unary operator inner at) is =
      let parts = and_both (is_constant_prefix operator) _ is in prefix_same operator _ _ (sort_of here inner) (sort_of there inner) parts.0 (sort_same known inner parts.1)
  sort_same known (tree.Binary operator left right at) is =
      let parts = and_both (is_constant known here left) _ is in
      ap (λ g. sort_of_binary operator g (sort_of here right)) (sort_same known left parts.0) ∙ ap (λ g. sort_of_binary operator (sort_of there left) g) (sort_same known right parts.1)
  sort_same known (tree.Cond chosen_by chosen_one chosen_other at) is =
      let parts = and_both (is_constant known here chosen_by) _ is in
      let two = and_both (is_constant known here chosen_one) _ parts.1 in
      ap (λ g. sort_of_choice g (sort_of here chosen_one) (sort_of here chosen_other)) (sort_same known chosen_by parts.0)
      ∙ ap (λ g. sort_of_choice (sort_of there chosen_by) g (sort_of here chosen_other)) (sort_same known chosen_one two.0)
      ∙ ap (λ g. sort_of_choice (sort_of there chosen_by) (sort_of there chosen_one) g) (sort_same known chosen_other two.1)
  sort_same known other is = absurd (let f : false ≡ true = is in cc)

  -- and one value
  value_same : (known : List Constant) (e : Expr) → is_constant known here e ≡ true → constant_value known here e ≡ constant_value known there e
  value_same known (expr.Num value extended at) is = refl
  value_same known (expr.Char value at) is = refl
  value_same known (expr.Name name at) is = refl
  value_same known (tree.Paren inner at) is = value_same known inner is
  value_same known (tree.Cast k inner at) is = ap (option_map (wrap k)) (value_same known inner is)
  value_same known (tree.Unary operator inner at) is =
      let parts = and_both (is_constant_prefix operator) _ is in
      ap (λ g. option_map (prefix_value operator (join (kind_in g) (kind_in g))) (constant_value known here inner)) (sort_same known inner parts.1)
      ∙ ap (option_map (prefix_value operator (join (kind_in (sort_of there inner)) (kind_in (sort_of there inner))))) (value_same known inner parts.1)
  value_same known (tree.Binary operator left right at) is =
      let parts = and_both (is_constant known here left) _ is in
      ap (λ g. operator_value operator (working_kind operator (kind_in g) (kind_in (sort_of here right))) (constant_value known here left) (constant_value known here right)) (sort_same known left parts.0)
      ∙ ap (λ g. operator_value operator (working_kind operator (kind_in (sort_of there left)) (kind_in g)) (constant_value known here left) (constant_value known here right)) (sort_same known right parts.1)
      ∙ ap (λ o. operator_value operator (working_kind operator (kind_in (sort_of there left)) (kind_in (sort_of there right))) o (constant_value known here right)) (value_same known left parts.0)
      ∙ ap (λ o. operator_value operator (working_kind operator (kind_in (sort_of there left)) (kind_in (sort_of there right))) (constant_value known there left) o) (value_same known right parts.1)
  value_same known (tree.Cond chosen_by chosen_one chosen_other at) is =
      let parts = and_both (is_constant known here chosen_by) _ is in
      let two = and_both (is_constant known here chosen_one) _ parts.1 in
      ap (λ g. option_map (wrap (join (kind_in g) (kind_in (sort_of here chosen_other)))) (chosen (constant_value known here chosen_by) (constant_value known here chosen_one) (constant_value known here chosen_other))) (sort_same known chosen_one two.0)
      ∙ ap (λ g. option_map (wrap (join (kind_in (sort_of there chosen_one)) (kind_in g))) (chosen (constant_value known here chosen_by) (constant_value known here chosen_one) (constant_value known here chosen_other))) (sort_same known chosen_other two.1)
      ∙ ap (λ o. option_map (wrap (join (kind_in (sort_of there chosen_one)) (kind_in (sort_of there chosen_other)))) (chosen o (constant_value known here chosen_one) (constant_value known here chosen_other))) (value_same known chosen_by parts.0)
      ∙ ap (λ o. option_map (wrap (join (kind_in (sort_of there chosen_one)) (kind_in (sort_of there chosen_other)))) (chosen (constant_value known there chosen_by) o (constant_value known here chosen_other))) (value_same known chosen_one two.0)
      ∙ ap (λ o. option_map (wrap (join (kind_in (sort_of there chosen_one)) (kind_in (sort_of there chosen_other)))) (chosen (constant_value known there chosen_by) (constant_value known there chosen_one) o)) (value_same known chosen_other two.1)
  value_same known other is = absurd (let f : false ≡ true = is in cc)

  -- the number of a constant
  number_same : (known : List Constant) (e : Expr) → constant known here e ≡ constant known there e
  number_same known e = go (is_constant known here e) refl
    where
      go : (b : Bool) → is_constant known here e ≡ b → constant known here e ≡ constant known there e
      go true is =
          ap (λ b. if b then constant_value known here e else None) is ∙ value_same known e is
          ∙ sym (ap (λ b. if b then constant_value known there e else None) (sym (constant_same known e) ∙ is))
      go false is =
          ap (λ b. if b then constant_value known here e else None) is
          ∙ sym (ap (λ b. if b then constant_value known there e else None) (sym (constant_same known e) ∙ is))

  -- the number of a constant by the const integers that are declared before it
  pub at_same : (token : ℕ) (e : Expr) →
      constant_at (record { names = names; owner = owner; file = file; this = one; gives = gives }) token e ≡ constant_at (record { names = names; owner = owner; file = file; this = other; gives = given }) token e
  at_same token e = number_same _ e
