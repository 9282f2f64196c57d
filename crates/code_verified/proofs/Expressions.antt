-- The code of each sound expression keeps the rules, as a value and as a test.
use mathlib.Core.Former.{Count}
use Rattle.std.proofs.Common.{◌≡◌, ℕ, ◌+◌, Bool, true, false, [], ◌∷◌, ◌++◌, length, Some, slice_get, refl, sym, ap, ◌∙◌, subst, arith}
use Rattle.std.specs.Prelude.{◌&&◌, not, if◌then◌else◌, is_some, IsSome, IsSomeAnd}
use Rattle.std.specs.Option.{option_map_or}
use Rattle.int_kinds.specs.declared.kinds.Kind.{Kind}
use Rattle.int_kinds.specs.declared.operators.UnOp.{UnOp}
use Rattle.bytecode.specs.declared.instr.Instr.{Instr}
use Rattle.bytecode.specs.declared.instr.Instr.TheVariants as instr
use Rattle.typed_tree.specs.declared.expression.Place.{Place}
use Rattle.typed_tree.specs.declared.expression.Place.TheVariants.{Cell, Signal}
use Rattle.typed_tree.specs.declared.expression.Place.TheVariants as place
use Rattle.typed_tree.specs.declared.expression.TExpr.{TExpr, Row_of-TExpr, end_of-TExpr, more_of-TExpr, items-the_row-TExpr}
use Rattle.typed_tree.specs.declared.expression.TExpr.TheVariants.{Const, Load, Bump, Call', Active, Now}
use Rattle.typed_tree.specs.declared.program.TFun.{TFun}
use Rattle.typed_tree.specs.declared.program.Typed.{Typed}
use Rattle.typed_tree.specs.Expression.{params_of}
use Rattle.typed_tree.specs.Forms.{Binary, Both, Bytes, Cond, Convert, Either, Elem, Store, Unary, Update}
use Rattle.typed_tree.specs.Shape.{has_index, is_checked_first, is_not, is_plain, is_wrapped_first}
use Rattle.typed_tree.specs.Size.{Sizes, by_value, index_size, negation_sizes, sizes_of}
use Rattle.typed_tree.specs.SoundExpression.{AreSoundArguments, GivesNumber, HasSoundIndex, IsSoundExpr, PlaceExists}
use Rattle.code_listing.specs.Expression.{Codes, codes_by_value, codes_of, index_code, negation_codes, prefix_instr}
use Rattle.code_listing.specs.Place.{index_count, kind_at_index, read_instr, write_instr}
use Rattle.code_listing.proofs.CallRuns.{args_count, args_listed}
use Rattle.code_verified.proofs.CallCodes.{LawfulArgs, lawful_call, lawful_more_args, lawful_no_args, some_of}
use Rattle.code_verified.proofs.Choices.{lawful_both, lawful_choice, lawful_either}
use Rattle.code_verified.proofs.Codes.{Lawful, LawfulValue, lawful_behind, lawful_by_value, lawful_negation, lawful_operator}
use Rattle.code_verified.proofs.Instructions.{Suits, is_operation, opposite_operation, plain_active, plain_conv, plain_now, plain_prefix, plain_push, plain_read, plain_write}
use Rattle.code_verified.proofs.PlaceCodes.{LawfulIndex, lawful_bump_at_index, lawful_bump_in_place, lawful_load, lawful_store, lawful_update, no_index, value_index}
use Rattle.code_verified.proofs.Places.{Plain, Site, kept_none, kept_then}

-- both of two truths
first_of_both : (b c : Bool) → (b && c) ≡ true → b ≡ true
first_of_both true c e = refl
first_of_both false c e = e

module _ (typed : Typed) (s : Site) (below : ℕ) (suits : Suits typed s below) where
  -- one instruction that gives a number
  lawful_one : (i : Instr) → Plain s i 0 1 → LawfulValue s (λ place depth. (i, depth) ∷ []) 1
  lawful_one i plain = record {
    long = λ place depth. refl;
    begins = λ place depth. refl;
    keeps = λ place depth stands low after.
        (kept_then s plain stands.0 low depth (omega arith) refl (kept_none s refl refl after)).keep;
  }

  -- a prefix operator
  lawful_prefix : (op : UnOp) (k : Kind) (c : Codes) (z : Sizes) → Lawful s c z → (b : Bool) →
      Lawful s (if b then negation_codes c
      else codes_by_value (λ place depth. c.value place depth ++ (prefix_instr op k, depth + 1) ∷ []))
      (if b then negation_sizes z else by_value (z.value + 1))
  lawful_prefix op k c z h true = lawful_negation s h
  lawful_prefix op k c z h false = lawful_by_value s (lawful_behind s (prefix_instr op k) (plain_prefix s op k) h.value)

  -- a function that gives a number
  gives_some : (f : ℕ) (function : TFun) → slice_get typed.functions f ≡ Some function → GivesNumber typed f →
      is_some function.gives ≡ true
  gives_some f function is h = subst (λ o. IsSomeAnd o (λ (g : TFun). IsSome g.gives)) is h

  -- a call has as many arguments as the function has parameters
  pub count_is : (f : ℕ) {m : Count} (args : Row_of-TExpr m) (function : TFun) →
      slice_get typed.functions f ≡ Some function → length (items-the_row-TExpr _ args) ≡ length function.params →
      args_count args ≡ length (params_of typed f)
  count_is f args function is count =
      args_listed args ∙ count ∙
      ap length (sym (ap (λ o. option_map_or (λ (g : TFun). g.params) o []) is))

  mutual
    -- the codes of an expression
    pub lawful : (e : TExpr) → IsSoundExpr typed below e → Lawful s (codes_of typed e) (sizes_of typed e)
    lawful (Const n) h = lawful_by_value s (lawful_one (instr.Push n) (plain_push s n h.constant_in_range))
    lawful (Load at) h = lawful_by_value s (lawful_load s (read_instr at) (lawful_place at h.1)
        (plain_read typed s below suits at h.0.names_exist))
    lawful (Store at e) h = lawful_by_value s (lawful_store s (is_checked_first at e) (index_count at) (write_instr at)
        (lawful_place at h.1) (lawful e h.2).value (first_of_both (has_index at) (not (is_plain e)))
        (plain_write typed s below suits at h.0.names_exist))
    lawful (Update op k back at e) h = lawful_by_value s (lawful_update s op k back (is_wrapped_first typed at back)
        (read_instr at) (write_instr at) (is_operation op h.0.operation)
        (lawful_place at h.1) (lawful e h.2).value
        (plain_read typed s below suits at h.0.names_exist) (plain_write typed s below suits at h.0.names_exist))
    lawful (Bump at k up post) h = lawful_bump at k up post h.0.names_exist h.1
    lawful (Unary op k e) h = lawful_prefix op k _ _ (lawful e h.1) (is_not op)
    lawful (Binary op k a b) h = lawful_operator s op k (is_operation op h.0.operation)
        (opposite_operation op h.0.operation) (lawful a h.1).value (lawful b h.2).value
    lawful (Both a b) h = lawful_both s b (lawful a h.1) (lawful b h.2)
    lawful (Either a b) h = lawful_either s b (lawful a h.1) (lawful b h.2)
    lawful (Cond test a b) h = lawful_by_value s (lawful_choice s (lawful test h.1) (lawful a h.2) (lawful b h.3))
    lawful (Convert k e) h = lawful_by_value s (lawful_behind s (instr.Conv k) (plain_conv s k) (lawful e h.1).value)
    lawful (Call' f shape args) h =
        let found = some_of (slice_get typed.functions f) _ h.0.calls_earlier.1 in
        lawful_by_value s (lawful_call typed s below suits f found.0 args h.0.calls_earlier.0 found.1
        (gives_some f found.0 found.1 h.1) (lawful_args args h.2) (count_is f args found.0 found.1 found.2))
    lawful (Active timer) h = lawful_by_value s
        (lawful_one (instr.Active timer) (plain_active typed s below suits timer h.names_exist))
    lawful Now h = lawful_by_value s (lawful_one instr.Now (plain_now s))

    -- the index of a place
    lawful_place : (at : Place) → HasSoundIndex typed below at →
        LawfulIndex s (index_code typed at) (index_size typed at) (has_index at)
    lawful_place (Cell cell) h = no_index s
    lawful_place (Elem base len index) h = value_index s (lawful index h).value
    lawful_place (place.Set at field) h = no_index s
    lawful_place (Bytes at k index) h = value_index s (lawful index h).value
    lawful_place (Signal at l) h = no_index s

    -- a place to which 1 is added
    pub lawful_bump : (at : Place) (k : Kind) (up post : Bool) → PlaceExists typed at → HasSoundIndex typed below at →
        Lawful s (codes_of typed (Bump at k up post)) (sizes_of typed (Bump at k up post))
    lawful_bump (Cell cell) k up post there h = lawful_by_value s (lawful_bump_in_place s k up post
        (read_instr (Cell cell)) (write_instr (Cell cell))
        (plain_read typed s below suits (Cell cell) there) (plain_write typed s below suits (Cell cell) there))
    lawful_bump (Elem base len index) k up post there h = lawful_by_value s (lawful_bump_at_index s k
        (kind_at_index typed (Elem base len index)) up post (instr.Elem base len) (instr.SetElem base len)
        (lawful index h).value (plain_read typed s below suits (Elem base len index) there)
        (plain_write typed s below suits (Elem base len index) there))
    lawful_bump (place.Set at field) k up post there h = lawful_by_value s (lawful_bump_in_place s k up post
        (read_instr (place.Set at field)) (write_instr (place.Set at field))
        (plain_read typed s below suits (place.Set at field) there)
        (plain_write typed s below suits (place.Set at field) there))
    lawful_bump (Bytes at of index) k up post there h = lawful_by_value s (lawful_bump_at_index s k
        of up post (instr.Bytes of at) (instr.SetBytes of at)
        (lawful index h).value (plain_read typed s below suits (Bytes at of index) there)
        (plain_write typed s below suits (Bytes at of index) there))
    lawful_bump (Signal at l) k up post there h = lawful_by_value s (lawful_bump_in_place s k up post
        (read_instr (Signal at l)) (write_instr (Signal at l))
        (plain_read typed s below suits (Signal at l) there) (plain_write typed s below suits (Signal at l) there))

    -- the arguments of a call
    pub lawful_args : {m : Count} (args : Row_of-TExpr m) → AreSoundArguments typed below args → LawfulArgs s typed args
    lawful_args end_of-TExpr h = lawful_no_args typed s
    lawful_args (more_of-TExpr e rest) h = lawful_more_args typed s e rest (lawful e h.0).value (lawful_args rest h.1)
