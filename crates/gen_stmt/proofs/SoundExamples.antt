-- A worked program is sound: it is, where the statements of its event procedure are.
use Rattle.std.proofs.Common.{ℕ, ◌≢◌, ◌<◌, ◌^◌, List, [], ◌∷◌, length, pos, arith, rules, refl}
use Rattle.std.proofs.lemmas.Int.{ints}
use Rattle.std.specs.List.{All, AllByRecursion, AllPairs}
use Rattle.std.proofs.lemmas.List.Elements.{All-nil, All-cons}
use Rattle.message_cells.specs.Cells.{IsHeldStart}
use Rattle.stack_vm.proofs.NumberLemmas.{Holds-byte}
use Rattle.run_effects.specs.Effect.{AreApart}
use Rattle.typed_tree.specs.declared.statement.TStmt.{TStmt}
use Rattle.typed_tree.specs.declared.program.Typed.{Typed}
use Rattle.typed_tree.specs.declared.expression.TExpr.TheVariants.{Const}
use Rattle.typed_tree.specs.SoundExpression.{IsSoundExpr}
use Rattle.code_meaning.specs.Example.{endless_loop}
use Rattle.typed_tree.specs.Sound.{IsSound, IsSoundHandler, in_handler}
use Rattle.typed_tree.specs.SoundStatement.{IsSoundStmt}
use Rattle.gen_stmt.specs.Example.{on_start}

-- what holds of the item of a list of one
All-one : {X : Type 0} (P : X → Type 0) (x : X) → P x → All P (x ∷ [])
All-one P x h = All-cons P x [] h (All-nil P)

-- no two items stand in a list of none
AllPairs-nil : {X : Type 0} (R : X → X → Type 0) → AllPairs R []
AllPairs-nil R i j d before within = absurd (omega arith)

-- a number in range is sound in an event procedure of a program without functions
number_sound : (typed : Typed) (n : ℕ) → n < 2 ^ 63 → IsSoundExpr typed 0 (Const (pos n))
number_sound typed n small = record {
  names_exist = tt;
  constant_in_range = record { at_least = search rules; below = omega (arith, ints) };
  operation = tt;
  calls_earlier = tt;
  few_arguments = tt;
  can_give_back = tt;
}

-- the program whose event procedure has these statements
pub on_start_sound : (body : List TStmt) → length body < 2 ^ 32
    → AllByRecursion (IsSoundStmt (on_start body) (in_handler 0)) body → IsSound (on_start body)
on_start_sound body few statements = record {
  short = record {
    functions = omega arith;
    handlers = omega arith;
    cells = omega arith;
    starts = omega arith;
    timers = omega arith;
    formats = omega arith;
    texts = All-nil _;
  };
  functions = λ number function is. cc;
  handlers = All-one (IsSoundHandler (on_start body)) _ (record { few_selectors = omega arith; few_statements = few; statements = statements });
  event_cells = record { message = refl; key = refl };
  starts_held = All-one (IsHeldStart (on_start body).cells) _ (Holds-byte 255 (omega arith));
  units = All-nil _;
  arrays_exist = All-nil _;
  selectors = record { ranks = All-nil _; apart = AllPairs-nil AreApart };
  timers = record { exist = All-nil _; differ = AllPairs-nil (λ a b. a ≢ b) };
  keys_differ = AllPairs-nil (λ a b. a ≢ b);
}

-- `while (1) ;` is sound
pub endless_loop_sound : IsSound (on_start endless_loop)
endless_loop_sound = on_start_sound endless_loop (omega arith) ((number_sound (on_start endless_loop) 1 (omega arith), tt), tt)
