-- A sound expression that is plain changes nothing, and no trap ends it but that of an index.
use Rattle.std.proofs.Common.{◌≡◌, ℕ, Bool, true, false, refl, sym, subst}
use Rattle.std.specs.Prelude.{ℤ, pos, not, ◌&&◌, if◌then◌else◌}
use Rattle.std.specs.Ordering.{int_eq}
use Rattle.std.proofs.lemmas.Bool.{and_parts}
use Rattle.int_kinds.specs.declared.kinds.Kind.{Kind}
use Rattle.int_kinds.specs.declared.operators.BinOp.{BinOp}
use Rattle.int_kinds.specs.declared.operators.BinOp.TheVariants.{OrElse, AndAlso, Div, Rem}
use Rattle.run_effects.specs.declared.outcome.Outcome.TheVariants.{Trapped}
use Rattle.run_effects.specs.declared.outcome.TrapKind.TheVariants.{Index}
use Rattle.control_flow.specs.World.{World, Run, Gives, Fails, and_then, run_map}
use Rattle.control_flow.specs.Control.{Calls, deciding}
use Rattle.typed_tree.specs.declared.expression.Place.{Place}
use Rattle.typed_tree.specs.declared.expression.Place.TheVariants.{Cell, Signal}
use Rattle.typed_tree.specs.declared.expression.Place.TheVariants as place
use Rattle.typed_tree.specs.declared.expression.TExpr.{TExpr}
use Rattle.typed_tree.specs.declared.expression.TExpr.TheVariants.{Const, Load, Bump, Call', Active, Now}
use Rattle.typed_tree.specs.Expression.{Setting, indexing, operates, reads, spot_of, truth_of, value_of}
use Rattle.typed_tree.specs.Forms.{Binary, Both, Bytes, Cond, Convert, Either, Elem, Store, Unary, Update}
use Rattle.typed_tree.specs.Memory.{Memory, Spot}
use Rattle.typed_tree.specs.Shape.{divides, has_plain_index, is_plain}
use Rattle.typed_tree.specs.SoundExpression.{HasSoundIndex, IsOperation, IsSoundExpr}
use Rattle.code_listing.proofs.PartRuns.{Indexes, Inside, Outside, indexes}

-- a part of a program changes nothing, and no trap ends it but that of an index
abbrev pub IsStill : {A : Type 0} → World Memory → Run Memory A → Type 0
IsStill w (Gives a after) = after ≡ w
IsStill w (Fails outcome after) = (outcome ≡ Trapped Index) × (after ≡ w)

-- one such part after another
still_then : {A B : Type 0} (w : World Memory) (run : Run Memory A) (next : A → World Memory → Run Memory B) → IsStill w run →
    ((a : A) → IsStill w (next a w)) → IsStill w (and_then run next)
still_then w (Gives a after) next h further = subst (λ x. IsStill w (next a x)) (sym h) (further a)
still_then w (Fails o after) next h further = h

-- an operator that does not divide has a value
still_operates : (op : BinOp) (k : Kind) (a b : ℤ) (w : World Memory) → IsOperation op → divides op ≡ false → IsStill w (operates op k a b w)
still_operates OrElse k a b w is plain = absurd is
still_operates AndAlso k a b w is plain = absurd is
still_operates Div k a b w is plain = absurd (let t : true ≡ false = plain in cc)
still_operates Rem k a b w is plain = absurd (let t : true ≡ false = plain in cc)
still_operates op k a b w is plain = refl

-- an index is checked
still_indexing : (len : ℕ) (i : ℤ) (w : World Memory) (spot : ℕ → Spot) → IsStill w (indexing len i w spot)
still_indexing len i w spot = at_index (indexes len i)
  where
    at_index : Indexes len i → IsStill w (indexing len i w spot)
    at_index (Inside k below is row) = subst (λ run. IsStill w run) (sym (is w spot)) refl
    at_index (Outside is row) = subst (λ run. IsStill w run) (sym (is w spot)) (refl, refl)

-- what is done by a number
still_if : {A : Type 0} (b : Bool) (w : World Memory) (one other : Run Memory A) → IsStill w one → IsStill w other → IsStill w (if b then one else other)
still_if true w one other h k = h
still_if false w one other h k = k

still_deciding : {A : Type 0} (w : World Memory) (test : Run Memory ℤ) (one other : World Memory → Run Memory A) → IsStill w test →
    IsStill w (one w) → IsStill w (other w) → IsStill w (deciding test one other)
still_deciding w test one other h f g =
    still_then w test (λ n w. if int_eq n (pos 0) then other w else one w) h (λ n. still_if (int_eq n (pos 0)) w (other w) (one w) g f)

-- a plain operator does not divide
not_dividing : (b : Bool) → not b ≡ true → b ≡ false
not_dividing true h = absurd (let t : false ≡ true = h in cc)
not_dividing false h = refl

module _ (s : Setting) (call : Calls Memory) (number : ℕ) where
  mutual
    -- an expression
    pub plain_still : (e : TExpr) → IsSoundExpr s.typed number e → is_plain e ≡ true → (w : World Memory) → IsStill w (value_of s call e w)
    plain_still (Const n) sound plain w = refl
    plain_still (Load at) sound plain w = still_then w (spot_of s call at w) reads (index_still at sound.1 plain w) (λ spot. refl)
    plain_still (Store at e) sound plain w = absurd (let t : false ≡ true = plain in cc)
    plain_still (Update op k back at e) sound plain w = absurd (let t : false ≡ true = plain in cc)
    plain_still (Bump at k up post) sound plain w = absurd (let t : false ≡ true = plain in cc)
    plain_still (Unary op k e) sound plain w = still_then w (value_of s call e w) _ (plain_still e sound.1 plain w) (λ n. refl)
    plain_still (Binary op k a b) sound plain w =
        let one = and_parts (not (divides op)) (is_plain a && is_plain b) plain in
        let two = and_parts (is_plain a) (is_plain b) one.1 in
        still_then w (value_of s call a w) _ (plain_still a sound.1 two.0 w) (λ m.
        still_then w (value_of s call b w) _ (plain_still b sound.2 two.1 w) (λ n.
        still_operates op k m n w sound.0.operation (not_dividing (divides op) one.0)))
    plain_still (Both a b) sound plain w =
        let two = and_parts (is_plain a) (is_plain b) plain in
        still_deciding w (value_of s call a w) (λ w. run_map truth_of (value_of s call b w)) (Gives (pos 0)) (plain_still a sound.1 two.0 w)
        (still_then w (value_of s call b w) _ (plain_still b sound.2 two.1 w) (λ n. refl)) refl
    plain_still (Either a b) sound plain w =
        let two = and_parts (is_plain a) (is_plain b) plain in
        still_deciding w (value_of s call a w) (Gives (pos 1)) (λ w. run_map truth_of (value_of s call b w)) (plain_still a sound.1 two.0 w)
        refl (still_then w (value_of s call b w) _ (plain_still b sound.2 two.1 w) (λ n. refl))
    plain_still (Cond test a b) sound plain w =
        let one = and_parts (is_plain test) (is_plain a && is_plain b) plain in
        let two = and_parts (is_plain a) (is_plain b) one.1 in
        still_deciding w (value_of s call test w) (value_of s call a) (value_of s call b) (plain_still test sound.1 one.0 w)
        (plain_still a sound.2 two.0 w) (plain_still b sound.3 two.1 w)
    plain_still (Convert k e) sound plain w = still_then w (value_of s call e w) _ (plain_still e sound.1 plain w) (λ n. refl)
    plain_still (Call' f shape args) sound plain w = absurd (let t : false ≡ true = plain in cc)
    plain_still (Active timer) sound plain w = refl
    plain_still Now sound plain w = refl

    -- the index of a place
    index_still : (at : Place) → HasSoundIndex s.typed number at → has_plain_index at ≡ true → (w : World Memory) → IsStill w (spot_of s call at w)
    index_still (Cell cell) sound plain w = refl
    index_still (Elem base len index) sound plain w =
        still_then w (value_of s call index w) _ (plain_still index sound plain w) (λ i. still_indexing len i w _)
    index_still (place.Set at field) sound plain w = refl
    index_still (Bytes at k index) sound plain w =
        still_then w (value_of s call index w) _ (plain_still index sound plain w) (λ i. still_indexing _ i w _)
    index_still (Signal at l) sound plain w = refl
