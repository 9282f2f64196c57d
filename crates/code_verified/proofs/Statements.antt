-- The code of each sound statement keeps the rules, and control may come to its first place.
use mathlib.Core.Former.{Count}
use Rattle.std.proofs.Common.{◌≡◌, ℕ, zero, suc, ◌+◌, ◌<◌, ◌≤◌, Bool, true, false, List, [], ◌∷◌, ◌++◌, length, Option, Some, None, slice_get, refl, sym, ap, ◌∙◌, subst, arith}
use Rattle.std.specs.Prelude.{◌*◌, ◌&&◌, ◌||◌, if◌then◌else◌, ℤ, take, sum, sum_by, is_some, flat_map}
use Rattle.std.specs.List.{AllByRecursion}
use Rattle.std.specs.Option.{option_map_or}
use Rattle.std.proofs.lemmas.List.Elements.{recursion_from_All}
use Rattle.write_format.specs.Line.{FormatText, numbers_taken}
use Rattle.bytecode.specs.declared.instr.Instr.{Instr}
use Rattle.bytecode.specs.declared.instr.Instr.TheVariants as instr
use Rattle.typed_tree.specs.declared.expression.TExpr.{TExpr, Row_of-TExpr}
use Rattle.typed_tree.specs.declared.expression.TExpr.TheVariants.{Const, Load, Bump, Call', Active, Now}
use Rattle.typed_tree.specs.declared.program.TFun.{TFun}
use Rattle.typed_tree.specs.declared.program.Typed.{Typed}
use Rattle.typed_tree.specs.declared.statement.TStmt.{TStmt, Row_of-TStmt, end_of-TStmt, more_of-TStmt}
use Rattle.typed_tree.specs.declared.statement.TStmt.TheVariants.{Empty, Block', If', Switch', Break, Continue, Return, Eval, Write, Send, Copy, Halt, Set, Cancel}
use Rattle.typed_tree.specs.declared.statement.TStmt.TheBlock.{Held-TStmt-If-1, Row_of-TArm, end_of-TArm, more_of-TArm, Row_of-TGroup, end_of-TGroup, more_of-TGroup}
use Rattle.typed_tree.specs.Forms.{Binary, Both, Cond, Convert, Do, Either, For, NoPart, Part, Store, Unary, Update, While}
use Rattle.typed_tree.specs.Expression.{params_of}
use Rattle.typed_tree.specs.Shape.{arms_go_on, goes_on, is_break, is_end, is_end_of_groups, last_goes_on, leaves_number, part_goes_on}
use Rattle.typed_tree.specs.Size.{args_size, arms_size, case_count, dropped_size, for_test_size, group_sizes, jump_size, last_group_size, one_if, part_size, returned_size, stmt_size, stmts_size, test_size, value_size}
use Rattle.typed_tree.specs.SoundExpression.{AreSoundArguments, IsSoundAlone, IsSoundExpr}
use Rattle.typed_tree.specs.SoundStatement.{AreSoundArms, AreSoundGroups, AreSoundStmts, Around, IsSoundOption, IsSoundPart, IsSoundStmt, ReturnsWhatIsGiven, in_loop, in_switch}
use Rattle.typed_tree.specs.Statement.{default_group, labels_of}
use Rattle.code_listing.specs.Exit.{Backward, Exit, Forward}
use Rattle.code_listing.specs.Expression.{args_code, params_code, test_code, value_code}
use Rattle.code_listing.specs.Listing.{Listing, instr_if, jump_code}
use Rattle.code_listing.specs.Statement.{Exits, arms_code, back_code, cases_code, dropped_code, for_test_code, groups_code, last_group_code, loop_code, part_code, return_code, stmt_code, stmts_code, values_code}
use Rattle.code_listing.proofs.CallRuns.{args_count}
use Rattle.code_listing.proofs.ExpressionSizes.{both_long}
use Rattle.code_listing.specs.Runs.{StandsAt}
use Rattle.code_listing.proofs.MachineRuns.{stands_back, stands_front}
use Rattle.code_listing.proofs.StatementSizes.{cases_long, jump_long, part_long, sizes_of_groups, stmt_long, stmts_long, last_group_long, sum-cons, values_long}
use Rattle.code_verified.proofs.CallCodes.{LawfulArgs, call_begins, call_keeps, lawful_call, some_of}
use Rattle.code_verified.proofs.Choices.{value_kept}
use Rattle.code_verified.proofs.Codes.{Begins, begins_some, first_reached, value_some}
use Rattle.code_verified.proofs.Expressions.{count_is, lawful, lawful_args, lawful_bump}
use Rattle.code_verified.proofs.Instructions.{Suits, plain_cancel, plain_copy, plain_drop, plain_send, plain_set, plain_stop, plain_turn, plain_write_line}
use Rattle.code_verified.proofs.Jumps.{keep_jump, keep_return}
use Rattle.code_verified.proofs.Places.{Keep, Kept, Plain, Reached, Site, Stands, comes_to, keep_at, keep_both, keep_none, kept_at, kept_both, kept_none, kept_then, reached_at}
use Rattle.code_verified.proofs.StatementParts.{ExitsReached, Keeps, all_front, always_back, cases_kept, dropped_kept, exits_within, jump_kept, loop_kept, values_kept, values_room}

-- the code of a procedure has the tables that its statements name, and gives a number where they return one
pub record Suited (typed : Typed) (s : Site) (around : Around) : Type 0 where
  pub tables : Suits typed s around.number
  pub gives : around.gives ≡ s.function.gives

-- places keep their rules, and control may come to the first of them if it comes to what stands before
pub record RowKept (s : Site) (from to : ℕ) (before : Bool) : Type 0 where
  pub keep : Keep s from to
  pub first : before ≡ true → Reached s from 0

-- groups keep their rules, and control may come to each of them and to their end
pub record GroupsKept (s : Site) (from : ℕ) (sizes : List ℕ) : Type 0 where
  pub keep : Keep s from (from + sum sizes)
  pub each : (k : ℕ) → Reached s (from + sum (take k sizes)) 0

-- the labels of groups, group by group
labels_by_group : {A : Type 0} (P : A → Type 0) (labels : List (List A)) →
    AllByRecursion P (flat_map (λ labels. labels) labels) → AllByRecursion (AllByRecursion P) labels
labels_by_group P [] h = tt
labels_by_group P (labels ∷ groups) h =
    let parts = all_front P labels (flat_map (λ labels. labels) groups) h in (parts.0, labels_by_group P groups parts.1)

-- one of two truths
or_left : (b c : Bool) → b ≡ true → (b || c) ≡ true
or_left true c e = refl
or_left false c e = absurd (cc)

-- the other one
or_right : (b c : Bool) → c ≡ true → (b || c) ≡ true
or_right true c e = refl
or_right false c e = e

module _ (typed : Typed) (s : Site) where
  -- an instruction alone
  one_kept : (around : Around) (exits : Exits) (i : Instr) → Plain s i 0 0 →
      Keeps s around exits (λ place. (i, 0) ∷ []) 1 true
  one_kept around exits i plain = λ place stands low end exited after.
      kept_then s plain stands.0 (omega (arith, low)) 0 refl refl (kept_none s refl refl (after refl))

  -- `break` and `continue`
  leaving_kept : (target place : ℕ) → Stands s place (instr.Jump target) 0 → s.function.start ≤ place →
      Reached s target 0 × (place + 1 ≤ target) → Kept s place (place + 1) 0
  leaving_kept target place stands low there = record {
    keep = keep_jump s stands (omega (arith, low)) (omega (arith, there.1)) there.0;
    first = comes_to s stands (omega (arith, low)) (omega (arith, there.1, there.0.below));
  }

  -- a `return`
  return_kept : (around : Around) (exits : Exits) (value : Option TExpr) → ReturnsWhatIsGiven around.gives (Return value) →
      IsSoundOption typed around.number value → Suited typed s around →
      Keeps s around exits (return_code typed value) (returned_size typed value + 1) false
  return_kept around exits None returns h suited = λ place stands low end exited after.
      let none : s.function.gives ≡ false = sym suited.gives ∙ returns in
      record {
        keep = keep_at s refl (omega arith)
            (keep_return s stands.0 (omega (arith, low)) (omega (arith, end)) (sym (ap (λ b. if b then 1 else 0) none)));
        first = comes_to s stands.0 (omega (arith, low)) (omega (arith, end));
      }
  return_kept around exits (Some e) returns h suited = λ place stands low end exited after.
      let n : ℕ = value_size typed e in
      let law = (lawful typed s around.number suited.tables e h).value in
      let gives : s.function.gives ≡ true = sym suited.gives ∙ returns in
      let xs : Listing = value_code typed e place 0 in
      let last : Listing = (instr.Ret, 1) ∷ [] in
      let at : StandsAt s.code (place + n) last = stands_back s.code place n xs last (law.long place 0) stands in
      let low' : s.function.start + 1 ≤ place + n = omega (arith, low, value_some s law) in
      kept_both s
      (value_kept s law place 0 (stands_front s.code place xs last stands) (omega (arith, low))
      (comes_to s at.0 low' (omega (arith, end))))
      (keep_at s refl (omega arith)
      (keep_return s at.0 low' (omega (arith, end)) (sym (ap (λ b. if b then 1 else 0) gives))))

  -- a call alone, whose number is dropped if it gives one
  call_kept : (around : Around) → Suited typed s around → (f : ℕ) (function : TFun) {m : Count} (args : Row_of-TExpr m) →
      f < around.number → slice_get typed.functions f ≡ Some function → args_count args ≡ length (params_of typed f) →
      AreSoundArguments typed around.number args → (b : Bool) → is_some function.gives ≡ b → (place : ℕ) →
      StandsAt s.code place ((args_code typed args place 0 ++
      (params_code (params_of typed f) 0 ++ (instr.Call f, 0) ∷ [])) ++ instr_if b (instr.Drop, 1)) →
      s.function.start ≤ place →
      Reached s (place + (args_size typed args + (2 * length (params_of typed f) + 1) + one_if b)) 0 →
      Kept s place (place + (args_size typed args + (2 * length (params_of typed f) + 1) + one_if b)) 0
  call_kept around suited f function args earlier is count h true gives place stands low after =
      dropped_kept s (lawful_call typed s around.number suited.tables f function args earlier is gives
      (lawful_args typed s around.number suited.tables args h) count) place stands low after
  call_kept around suited f function args earlier is count h false gives place stands low after =
      let n : ℕ = args_size typed args + (2 * length (params_of typed f) + 1) in
      let all : LawfulArgs s typed args = lawful_args typed s around.number suited.tables args h in
      let xs : Listing = args_code typed args place 0 ++ (params_code (params_of typed f) 0 ++ (instr.Call f, 0) ∷ []) in
      let here : StandsAt s.code place xs = stands_front s.code place xs [] stands in
      let same : place + n ≡ place + (n + 0) = omega arith in
      let none : one_if (is_some function.gives) ≡ 0 = ap one_if gives in
      kept_at s refl same refl (record {
        keep = call_keeps typed s around.number suited.tables f function args earlier is all count place 0 here
            (omega (arith, low)) (reached_at s (sym same) (omega (arith, none)) after);
        first = first_reached s xs here (call_begins typed s around.number suited.tables f args all count place 0)
            (omega (arith, low)) (omega (arith, after.below));
      })

  -- an expression alone
  eval_kept : (around : Around) (exits : Exits) (e : TExpr) → IsSoundAlone typed around.number e → Suited typed s around →
      Keeps s around exits (λ place. dropped_code typed e place ++ instr_if (leaves_number typed e) (instr.Drop, 1))
      (dropped_size typed e + one_if (leaves_number typed e)) true
  eval_kept around exits (Call' f shape args) h suited = λ place stands low end exited after.
      let found = some_of (slice_get typed.functions f) _ h.0.calls_earlier.1 in
      let gives : is_some found.0.gives ≡ leaves_number typed (Call' f shape args) =
      sym (ap (λ o. option_map_or (λ (g : TFun). is_some g.gives) o true) found.1) in
      call_kept around suited f found.0 args h.0.calls_earlier.0 found.1
      (count_is typed s around.number suited.tables f args found.0 found.1 found.2) h.1
      (leaves_number typed (Call' f shape args)) gives place stands low (after refl)
  eval_kept around exits (Bump at k up post) h suited = λ place stands low end exited after.
      dropped_kept s (lawful_bump typed s around.number suited.tables at k up false h.0.names_exist h.1).value
      place stands low (after refl)
  eval_kept around exits (Const n) h suited = λ place stands low end exited after.
      dropped_kept s (lawful typed s around.number suited.tables (Const n) h).value place stands low (after refl)
  eval_kept around exits (Load at) h suited = λ place stands low end exited after.
      dropped_kept s (lawful typed s around.number suited.tables (Load at) h).value place stands low (after refl)
  eval_kept around exits (Store at e) h suited = λ place stands low end exited after.
      dropped_kept s (lawful typed s around.number suited.tables (Store at e) h).value place stands low (after refl)
  eval_kept around exits (Update op k back at e) h suited = λ place stands low end exited after.
      dropped_kept s (lawful typed s around.number suited.tables (Update op k back at e) h).value place stands low (after refl)
  eval_kept around exits (Unary op k e) h suited = λ place stands low end exited after.
      dropped_kept s (lawful typed s around.number suited.tables (Unary op k e) h).value place stands low (after refl)
  eval_kept around exits (Binary op k a b) h suited = λ place stands low end exited after.
      dropped_kept s (lawful typed s around.number suited.tables (Binary op k a b) h).value place stands low (after refl)
  eval_kept around exits (Both a b) h suited = λ place stands low end exited after.
      dropped_kept s (lawful typed s around.number suited.tables (Both a b) h).value place stands low (after refl)
  eval_kept around exits (Either a b) h suited = λ place stands low end exited after.
      dropped_kept s (lawful typed s around.number suited.tables (Either a b) h).value place stands low (after refl)
  eval_kept around exits (Cond a b c) h suited = λ place stands low end exited after.
      dropped_kept s (lawful typed s around.number suited.tables (Cond a b c) h).value place stands low (after refl)
  eval_kept around exits (Convert k e) h suited = λ place stands low end exited after.
      dropped_kept s (lawful typed s around.number suited.tables (Convert k e) h).value place stands low (after refl)
  eval_kept around exits (Active timer) h suited = λ place stands low end exited after.
      dropped_kept s (lawful typed s around.number suited.tables (Active timer) h).value place stands low (after refl)
  eval_kept around exits Now h suited = λ place stands low end exited after.
      dropped_kept s (lawful typed s around.number suited.tables Now h).value place stands low (after refl)

  -- expressions in order, and a line of them
  write_kept : (around : Around) (exits : Exits) (format : ℕ) (args : List TExpr) (text : FormatText) →
      slice_get typed.formats format ≡ Some text → length args ≡ numbers_taken text →
      AllByRecursion (IsSoundExpr typed around.number) args → Suited typed s around →
      Keeps s around exits (λ place. values_code typed args place 0 ++ (instr.Write format, length args) ∷ [])
      (sum_by (value_size typed) args + 1) true
  write_kept around exits format args text is count h suited = λ place stands low end exited after.
      let n : ℕ = sum_by (value_size typed) args in
      let xs : Listing = values_code typed args place 0 in
      let last : Listing = (instr.Write format, length args) ∷ [] in
      let at : StandsAt s.code (place + n) last =
      stands_back s.code place n xs last (values_long typed args place 0) stands in
      let writes : Kept s (place + n) (place + (n + 1)) (length args) =
      kept_then s (plain_write_line typed s around.number suited.tables format text is) at.0
      (omega (arith, low, values_room typed s around.number suited.tables args h)) 0 (omega (arith, count)) refl
      (kept_none s (omega arith) refl (after refl)) in
      kept_both s (values_kept typed s around.number suited.tables args h place 0
      (stands_front s.code place xs last stands) (omega (arith, low)) (reached_at s refl (omega arith) writes.first)) writes.keep

  -- a timer that is set
  set_kept : (around : Around) (exits : Exits) (timer : ℕ) (cyclic : Bool) (e : TExpr) → timer < length typed.timers →
      IsSoundExpr typed around.number e → Suited typed s around →
      Keeps s around exits (λ place. value_code typed e place 0 ++ (instr.Set timer cyclic, 1) ∷ [])
      (value_size typed e + 1) true
  set_kept around exits timer cyclic e there h suited = λ place stands low end exited after.
      let n : ℕ = value_size typed e in
      let law = (lawful typed s around.number suited.tables e h).value in
      let xs : Listing = value_code typed e place 0 in
      let last : Listing = (instr.Set timer cyclic, 1) ∷ [] in
      let at : StandsAt s.code (place + n) last = stands_back s.code place n xs last (law.long place 0) stands in
      let sets : Kept s (place + n) (place + (n + 1)) 1 =
      kept_then s (plain_set typed s around.number suited.tables timer cyclic there) at.0
      (omega (arith, low, value_some s law)) 0 refl refl (kept_none s (omega arith) refl (after refl)) in
      kept_both s (value_kept s law place 0 (stands_front s.code place xs last stands) (omega (arith, low)) sets.first)
      sets.keep

  -- the test of a `for` begins with nothing on the stack
  for_test_begins : (around : Around) (test : Option TExpr) → IsSoundOption typed around.number test →
      Suited typed s around → (target place : ℕ) → Begins 0 (for_test_code typed test target place)
  for_test_begins around None h suited target place = refl
  for_test_begins around (Some e) h suited target place =
      (lawful typed s around.number suited.tables e h).test_begins true (Backward target) place 0

  -- the test of a loop goes back or on
  back_keeps : (around : Around) (test : TExpr) → IsSoundExpr typed around.number test → Suited typed s around →
      (target place : ℕ) → StandsAt s.code place (back_code typed test target place) → s.function.start ≤ place →
      target ≤ place → Reached s target 0 → Reached s (place + test_size typed true true test) 0 →
      Keep s place (place + test_size typed true true test)
  back_keeps around test h suited target place stands low back next further =
      (lawful typed s around.number suited.tables test h).test_keeps true (Backward target) place 0 stands
      (omega (arith, low)) (next, back) further

  -- and so does that of a `for`
  for_test_keeps : (around : Around) (test : Option TExpr) → IsSoundOption typed around.number test →
      Suited typed s around → (target place : ℕ) → StandsAt s.code place (for_test_code typed test target place) →
      s.function.start ≤ place → target ≤ place → Reached s target 0 → Reached s (place + for_test_size typed test) 0 →
      Keep s place (place + for_test_size typed test)
  for_test_keeps around None h suited target place stands low back next further =
      always_back s place target stands low back next further
  for_test_keeps around (Some e) h suited target place stands low back next further =
      back_keeps around e h suited target place stands low back next further

  -- the jump of an arm over what is behind it, where its body goes on
  arm_jump : (goes : Bool) (behind place : ℕ) → StandsAt s.code place (if goes then jump_code behind place else []) →
      s.function.start ≤ place →
      (goes ≡ true → Reached s (place + (if goes then jump_size behind else 0) + behind) 0) →
      RowKept s place (place + (if goes then jump_size behind else 0)) goes
  arm_jump true behind place stands low after =
      let jump : Kept s place (place + jump_size behind) 0 = jump_kept s behind place stands low (after refl) in
      record { keep = jump.keep; first = λ e. jump.first }
  arm_jump false behind place stands low after = record {
    keep = keep_none s place (place + 0) (omega arith);
    first = λ e. absurd (cc);
  }

  -- its length
  arm_jump_long : (goes : Bool) (behind place : ℕ) →
      length (if goes then jump_code behind place else []) ≡ (if goes then jump_size behind else 0)
  arm_jump_long true behind place = jump_long behind place
  arm_jump_long false behind place = refl

  -- what is left out at the end of a `switch`
  maybe_kept : (around : Around) (exits : Exits) (b : Bool) (code : ℕ → Listing) (size : ℕ) (goes : Bool) →
      Keeps s around exits code size goes →
      Keeps s around exits (λ place. if b then [] else code place) (if b then 0 else size) true
  maybe_kept around exits true code size goes h = λ place stands low end exited after.
      kept_none s (omega arith) refl (after refl)
  maybe_kept around exits false code size goes h = λ place stands low end exited after.
      h place stands low end exited (λ e. after refl)

  -- one or another
  one_of_kept : (around : Around) (exits : Exits) (b : Bool) (one other : ℕ → Listing) (m n : ℕ) (goes goes' : Bool) →
      Keeps s around exits one m goes → Keeps s around exits other n goes' →
      Keeps s around exits (λ place. if b then one place else other place) (if b then m else n) true
  one_of_kept around exits true one other m n goes goes' h k = λ place stands low end exited after.
      h place stands low end exited (λ e. after refl)
  one_of_kept around exits false one other m n goes goes' h k = λ place stands low end exited after.
      k place stands low end exited (λ e. after refl)

  -- and its length
  one_of_long : (b : Bool) (xs ys : Listing) (m n : ℕ) → length xs ≡ m → length ys ≡ n →
      length (if b then xs else ys) ≡ (if b then m else n)
  one_of_long true xs ys m n e f = e
  one_of_long false xs ys m n e f = f

  -- a test has an instruction
  test_some : (around : Around) (test : TExpr) → IsSoundExpr typed around.number test → Suited typed s around →
      1 ≤ test_size typed true true test
  test_some around test h suited =
      let law = lawful typed s around.number suited.tables test h in
      let exit : Exit = Backward 0 in
      omega (
        arith,
        law.fits.test true exit 0 0,
        begins_some 0 (test_code typed true exit test 0 0) (law.test_begins true exit 0 0),
      )

  -- and so has that of a `for`
  for_test_some : (around : Around) (test : Option TExpr) → IsSoundOption typed around.number test →
      Suited typed s around → 1 ≤ for_test_size typed test
  for_test_some around None h suited = omega arith
  for_test_some around (Some e) h suited = test_some around e h suited

  -- what is asked around a loop is asked in it
  suited_in_loop : (around : Around) → Suited typed s around → Suited typed s (in_loop around)
  suited_in_loop around suited = record { tables = suited.tables; gives = suited.gives }

  -- and in a `switch`
  suited_in_switch : (around : Around) → Suited typed s around → Suited typed s (in_switch around)
  suited_in_switch around suited = record { tables = suited.tables; gives = suited.gives }

  -- control may come to each of groups, where it may come to the first of them and to each of the others
  each_of : (n : ℕ) (sizes : List ℕ) (place : ℕ) → Reached s place 0 →
      ((k : ℕ) → Reached s (place + n + sum (take k sizes)) 0) → (k : ℕ) → Reached s (place + sum (take k (n ∷ sizes))) 0
  each_of n sizes place first others zero = reached_at s (omega arith) refl first
  each_of n sizes place first others (suc k) =
      let sums : sum (n ∷ take k sizes) ≡ n + sum (take k sizes) = sum-cons n (take k sizes) in
      reached_at s (omega (arith, sums)) refl (others k)

  mutual
    -- the code of a statement
    pub stmt_kept : (around : Around) (exits : Exits) (st : TStmt) → IsSoundStmt typed around st → Suited typed s around →
        Keeps s around exits (stmt_code typed exits st) (stmt_size typed st) (goes_on st)
    stmt_kept around exits Empty h suited = λ place stands low end exited after.
        kept_none s (omega arith) refl (after refl)
    stmt_kept around exits (Block' shape all) h suited = λ place stands low end exited after.
        let rows : RowKept s place (place + stmts_size typed all) true =
        stmts_kept around exits true all h.1 suited place stands low end exited after in
        record { keep = rows.keep; first = rows.first refl }
    stmt_kept around exits (If' shape arms other) h suited =
        arms_kept around exits arms h.1 suited (part_size typed other) (part_code typed exits other) (part_goes_on other)
        (part_kept around exits other h.2 suited)
    stmt_kept around exits (While test body) h suited = λ place stands low end exited after.
        let size : ℕ = stmt_size typed body in
        let t : ℕ = test_size typed true true test in
        let body_at : ℕ = place + jump_size size in
        let test_at : ℕ = place + (jump_size size + size) in
        let inner : Exits = record { break_at = test_at + t; continue_at = test_at } in
        let behind : ℕ = place + (jump_size size + (size + t)) in
        let finish : Reached s behind 0 = after refl in
        loop_kept s size (stmt_code typed inner body) (back_code typed test) place behind
        (stmt_long typed inner body body_at) stands low
        (let some = test_some around test h.0 suited in omega (arith, finish.below, some))
        ((lawful typed s around.number suited.tables test h.0).test_begins true (Backward body_at) (body_at + size) 0)
        (λ stands' first. stmt_kept (in_loop around) inner body h.1 (suited_in_loop around suited) body_at stands'
        (omega (arith, low)) (omega (arith, first.below)) (record {
          breaks = λ may. (reached_at s (omega arith) refl finish, omega arith);
          continues = λ may. (reached_at s (omega arith) refl first, omega arith);
        }) (λ e. first))
        (λ stands' first. keep_at s refl (omega arith) (back_keeps around test h.0 suited body_at (body_at + size) stands'
        (omega (arith, low)) (omega arith) first (reached_at s (omega arith) refl finish)))
    stmt_kept around exits (Do body test) h suited = λ place stands low end exited after.
        let size : ℕ = stmt_size typed body in
        let t : ℕ = test_size typed true true test in
        let body_at : ℕ = place + 1 in
        let test_at : ℕ = place + 1 + size in
        let inner : Exits = record { break_at = test_at + t; continue_at = test_at } in
        let behind : ℕ = place + (1 + (size + t)) in
        let finish : Reached s behind 0 = after refl in
        let xs : Listing = stmt_code typed inner body body_at in
        let ys : Listing = back_code typed test body_at test_at in
        let some : 1 ≤ t = test_some around test h.1 suited in
        let tested : StandsAt s.code test_at ys =
        stands_back s.code body_at size xs ys (stmt_long typed inner body body_at) stands.1 in
        let first : Reached s test_at 0 = first_reached s ys tested
        ((lawful typed s around.number suited.tables test h.1).test_begins true (Backward body_at) test_at 0)
        (omega (arith, low)) (omega (arith, finish.below, some)) in
        let round : Kept s body_at test_at 0 =
        stmt_kept (in_loop around) inner body h.0 (suited_in_loop around suited) body_at
        (stands_front s.code body_at xs ys stands.1)
        (omega (arith, low)) (omega (arith, first.below)) (record {
          breaks = λ may. (reached_at s (omega arith) refl finish, omega arith);
          continues = λ may. (first, omega arith);
        }) (λ e. first) in
        let back : Keep s test_at (test_at + t) = back_keeps around test h.1 suited body_at test_at tested
        (omega (arith, low)) (omega arith) round.first (reached_at s (omega arith) refl finish) in
        kept_then s (plain_turn s) stands.0 (omega (arith, low)) 0 refl refl
        (kept_both s round (keep_at s refl (omega arith) back))
    stmt_kept around exits (For init test step body) h suited = λ place stands low end exited after.
        let loop_at : ℕ = place + part_size typed init in
        let body_size : ℕ = stmt_size typed body in
        let size : ℕ = body_size + part_size typed step in
        let t : ℕ = for_test_size typed test in
        let body_at : ℕ = loop_at + jump_size size in
        let step_at : ℕ = loop_at + (jump_size size + body_size) in
        let inner : Exits = record { break_at = step_at + (part_size typed step + t); continue_at = step_at } in
        let behind : ℕ = place + (part_size typed init + (jump_size size + (size + t))) in
        let finish : Reached s behind 0 = after refl in
        let round : ℕ → Listing =
        λ at. stmt_code typed inner body at ++ part_code typed exits step (at + body_size) in
        let xs : Listing = part_code typed exits init place in
        let ys : Listing = loop_code size round (for_test_code typed test) loop_at in
        let some : 1 ≤ t = for_test_some around test h.2 suited in
        let loop : Kept s loop_at behind 0 =
        loop_kept s size round (for_test_code typed test) loop_at behind
        (both_long _ _ _ _ (stmt_long typed inner body body_at) (part_long typed exits step (body_at + body_size)))
        (stands_back s.code place (part_size typed init) xs ys (part_long typed exits init place) stands) (omega (arith, low))
        (omega (arith, finish.below, some))
        (for_test_begins around test h.2 suited body_at (body_at + size))
        (λ stands' first.
        let bs : Listing = stmt_code typed inner body body_at in
        let ss : Listing = part_code typed exits step (body_at + body_size) in
        let step_end : body_at + body_size + part_size typed step ≡ body_at + size = omega arith in
        let steps : Kept s (body_at + body_size) (body_at + body_size + part_size typed step) 0 =
        part_kept around exits step h.3 suited (body_at + body_size)
        (stands_back s.code body_at body_size bs ss (stmt_long typed inner body body_at) stands')
        (omega (arith, low)) (omega (arith, first.below)) (exits_within s (omega arith) exited)
        (λ e. reached_at s (sym step_end) refl first) in
        let rounds : Kept s body_at (body_at + body_size) 0 =
        stmt_kept (in_loop around) inner body h.4 (suited_in_loop around suited) body_at
        (stands_front s.code body_at bs ss stands') (omega (arith, low)) (omega (arith, first.below)) (record {
          breaks = λ may. (reached_at s (omega arith) refl finish, omega arith);
          continues = λ may. (reached_at s (omega arith) refl steps.first, omega arith);
        }) (λ e. steps.first) in
        kept_both s rounds (keep_at s refl step_end steps.keep))
        (λ stands' first. keep_at s refl (omega arith) (for_test_keeps around test h.2 suited body_at (body_at + size) stands'
        (omega (arith, low)) (omega arith) first (reached_at s (omega arith) refl finish))) in
        kept_both s
        (part_kept around exits init h.1 suited place (stands_front s.code place xs ys stands) low
        (omega (arith, loop.first.below)) (exits_within s (omega arith) exited) (λ e. loop.first)) loop.keep
    stmt_kept around exits (Switch' on shape groups) h suited = λ place stands low end exited after.
        let sizes : List ℕ = group_sizes typed groups in
        let labels : List (List (Option ℤ)) = labels_of groups in
        let n : ℕ = value_size typed on in
        let cases_at : ℕ = place + n in
        let over : ℕ = sum (take (default_group labels) sizes) in
        let behind : ℕ = cases_at + (case_count labels + (1 + (jump_size over + sum sizes))) in
        let inner : Exits = record { break_at = behind; continue_at = exits.continue_at } in
        let drop_at : ℕ = cases_at + case_count labels in
        let groups_at : ℕ = drop_at + (1 + jump_size over) in
        let finish : Reached s (place + (n + (case_count labels + (1 + (jump_size over + sum sizes))))) 0 = after refl in
        let law = (lawful typed s around.number suited.tables on h.1).value in
        let xs : Listing = value_code typed on place 0 in
        let cs : Listing = cases_code labels sizes groups_at in
        let js : Listing = jump_code over (drop_at + 1) in
        let gs : Listing = groups_code typed inner groups groups_at in
        let ds : Listing = (instr.Drop, 1) ∷ (js ++ gs) in
        let h1 : StandsAt s.code cases_at (cs ++ ds) = stands_back s.code place n xs (cs ++ ds) (law.long place 0) stands in
        let h2 : StandsAt s.code drop_at ds = stands_back s.code cases_at (case_count labels) cs ds
        (cases_long labels sizes groups_at (sizes_of_groups typed groups)) h1 in
        let jumps_at : drop_at + 1 + jump_size over ≡ groups_at = omega arith in
        let h3 : StandsAt s.code groups_at gs = subst (λ p. StandsAt s.code p gs) jumps_at
        (stands_back s.code (drop_at + 1) (jump_size over) js gs (jump_long over (drop_at + 1)) h2.1) in
        let some : 1 ≤ n = value_some s law in
        let all : GroupsKept s groups_at sizes = groups_kept (in_switch around) inner groups h.2
        (suited_in_switch around suited) groups_at h3 (omega (arith, low))
        (record {
          breaks = λ may. (reached_at s (omega arith) refl finish, omega arith);
          continues = λ may. let exit = exited.continues may in (exit.0, omega (arith, exit.1));
        }) (reached_at s (omega arith) refl finish) in
        let none : sum (take 0 sizes) ≡ 0 = refl in
        let jump : Kept s (drop_at + 1) groups_at 0 = kept_at s refl jumps_at refl
        (jump_kept s over (drop_at + 1) (stands_front s.code (drop_at + 1) js gs h2.1) (omega (arith, low))
        (reached_at s (omega arith) refl (all.each (default_group labels)))) in
        let drop : Kept s drop_at groups_at 1 =
        kept_then s (plain_drop s) h2.0 (omega (arith, low, some)) 0 refl refl jump in
        let cases : Kept s cases_at drop_at 1 = cases_kept s labels sizes (sizes_of_groups typed groups)
        (labels_by_group _ labels (recursion_from_All _ _ h.0.labels_in_range)) groups_at cases_at
        (stands_front s.code cases_at cs ds h1) (omega (arith, low, some)) (omega arith) all.each drop.first in
        let value : Kept s place cases_at 0 =
        value_kept s law place 0 (stands_front s.code place xs (cs ++ ds) stands) (omega (arith, low)) cases.first in
        kept_both s value (keep_both s cases.keep (keep_both s drop.keep (keep_at s refl (omega arith) all.keep)))
    stmt_kept around exits Break h suited = λ place stands low end exited after.
        leaving_kept exits.break_at place stands.0 low (exited.breaks h.leaves)
    stmt_kept around exits Continue h suited = λ place stands low end exited after.
        leaving_kept exits.continue_at place stands.0 low (exited.continues h.leaves)
    stmt_kept around exits (Return value) h suited = return_kept around exits value h.0.returns h.1 suited
    stmt_kept around exits (Eval e) h suited = eval_kept around exits e h suited
    stmt_kept around exits (Write format args) h suited =
        let found = some_of (slice_get typed.formats format) _ h.0.writes in
        write_kept around exits format args found.0 found.1 found.2 h.1 suited
    stmt_kept around exits (Send at) h suited =
        one_kept around exits (instr.Send at) (plain_send typed s around.number suited.tables at h.names_exist)
    stmt_kept around exits (Copy to from) h suited =
        one_kept around exits (instr.Copy to from) (plain_copy typed s around.number suited.tables to from h.names_exist)
    stmt_kept around exits Halt h suited = one_kept around exits instr.Stop (plain_stop s)
    stmt_kept around exits (Set timer cyclic e) h suited =
        set_kept around exits timer cyclic e h.0.names_exist h.1 suited
    stmt_kept around exits (Cancel timer) h suited =
        one_kept around exits (instr.Cancel timer) (plain_cancel typed s around.number suited.tables timer h.names_exist)

    -- the code of statements in a row
    stmts_kept : (around : Around) (exits : Exits) (before : Bool) {m : Count} (all : Row_of-TStmt m) →
        AreSoundStmts typed around all → Suited typed s around → (place : ℕ) →
        StandsAt s.code place (stmts_code typed exits all place) → s.function.start ≤ place →
        place + stmts_size typed all ≤ s.function.end → ExitsReached s around exits (place + stmts_size typed all) →
        (last_goes_on before all ≡ true → Reached s (place + stmts_size typed all) 0) →
        RowKept s place (place + stmts_size typed all) before
    stmts_kept around exits before end_of-TStmt h suited place stands low end exited after = record {
      keep = keep_none s place (place + 0) (omega arith);
      first = λ e. reached_at s (omega arith) refl (after e);
    }
    stmts_kept around exits before (more_of-TStmt st rest) h suited place stands low end exited after =
        let n : ℕ = stmt_size typed st in
        let xs : Listing = stmt_code typed exits st place in
        let ys : Listing = stmts_code typed exits rest (place + n) in
        let all_end : place + n + stmts_size typed rest ≡ place + (n + stmts_size typed rest) = omega arith in
        let others : RowKept s (place + n) (place + n + stmts_size typed rest) (goes_on st) =
        stmts_kept around exits (goes_on st) rest h.1 suited (place + n)
        (stands_back s.code place n xs ys (stmt_long typed exits st place) stands)
        (omega (arith, low)) (omega (arith, end)) (exits_within s (omega arith) exited)
        (λ e. reached_at s (sym all_end) refl (after e)) in
        let one : Kept s place (place + n) 0 =
        stmt_kept around exits st h.0 suited place (stands_front s.code place xs ys stands) low (omega (arith, end))
        (exits_within s (omega arith) exited) others.first in
        record { keep = keep_both s one.keep (keep_at s refl all_end others.keep); first = λ e. one.first }

    -- the code of arms, and of what stands behind them
    arms_kept : (around : Around) (exits : Exits) {m : Count} (arms : Row_of-TArm m) → AreSoundArms typed around arms →
        Suited typed s around → (size : ℕ) (other : ℕ → Listing) (goes : Bool) → Keeps s around exits other size goes →
        Keeps s around exits (arms_code typed exits arms size other) (arms_size typed arms size) (arms_go_on arms goes)
    arms_kept around exits end_of-TArm h suited size other goes kept = kept
    arms_kept around exits (more_of-TArm test body rest) h suited size other goes kept = λ place stands low end exited after.
        let law = lawful typed s around.number suited.tables test h.0 in
        let t : ℕ = test_size typed false false test in
        let b : ℕ = stmt_size typed body in
        let behind : ℕ = arms_size typed rest size in
        let j : ℕ = if goes_on body then jump_size behind else 0 in
        let body_at : ℕ = place + t in
        let jump_at : ℕ = body_at + b in
        let next : ℕ = jump_at + j in
        let all_end : next + behind ≡ place + (t + (b + (j + behind))) = omega arith in
        let ts : Listing = test_code typed false (Forward next) test place 0 in
        let bs : Listing = stmt_code typed exits body body_at in
        let js : Listing = if goes_on body then jump_code behind jump_at else [] in
        let rs : Listing = arms_code typed exits rest size other next in
        let h1 : StandsAt s.code body_at (bs ++ (js ++ rs)) =
        stands_back s.code place t ts _ (law.fits.test false (Forward next) place 0) stands in
        let h2 : StandsAt s.code jump_at (js ++ rs) =
        stands_back s.code body_at b bs _ (stmt_long typed exits body body_at) h1 in
        let h3 : StandsAt s.code next rs =
        stands_back s.code jump_at j js rs (arm_jump_long (goes_on body) behind jump_at) h2 in
        let others : Kept s next (next + behind) 0 =
        arms_kept around exits rest h.2 suited size other goes kept next h3 (omega (arith, low)) (omega (arith, end, all_end))
        (exits_within s (omega (arith, all_end)) exited)
        (λ e. reached_at s (sym all_end) refl (after (or_right (goes_on body) _ e))) in
        let jump : RowKept s jump_at next (goes_on body) =
        arm_jump (goes_on body) behind jump_at (stands_front s.code jump_at js rs h2) (omega (arith, low))
        (λ e. reached_at s (sym all_end) refl (after (or_left _ _ e))) in
        let one : Kept s body_at jump_at 0 =
        stmt_kept around exits body h.1 suited body_at (stands_front s.code body_at bs _ h1) (omega (arith, low))
        (omega (arith, end)) (exits_within s (omega arith) exited) jump.first in
        let tests : Keep s place body_at =
        law.test_keeps false (Forward next) place 0 (stands_front s.code place ts _ stands) (omega (arith, low))
        (others.first, omega arith) one.first in
        record {
          keep = keep_both s tests (keep_both s one.keep (keep_both s jump.keep (keep_at s refl all_end others.keep)));
          first = first_reached s ts (stands_front s.code place ts _ stands)
              (law.test_begins false (Forward next) place 0) (omega (arith, low)) (omega (arith, one.first.below));
        }

    -- the code of a part that may be missing
    part_kept : (around : Around) (exits : Exits) (part : Held-TStmt-If-1) → IsSoundPart typed around part →
        Suited typed s around → Keeps s around exits (part_code typed exits part) (part_size typed part) (part_goes_on part)
    part_kept around exits NoPart h suited = λ place stands low end exited after.
        kept_none s (omega arith) refl (after refl)
    part_kept around exits (Part part) h suited = stmt_kept around exits part h suited

    -- the code of the groups of a `switch`
    groups_kept : (around : Around) (exits : Exits) {m : Count} (groups : Row_of-TGroup m) →
        AreSoundGroups typed around groups → Suited typed s around → (place : ℕ) →
        StandsAt s.code place (groups_code typed exits groups place) → s.function.start ≤ place →
        ExitsReached s around exits (place + sum (group_sizes typed groups)) →
        Reached s (place + sum (group_sizes typed groups)) 0 → GroupsKept s place (group_sizes typed groups)
    groups_kept around exits end_of-TGroup h suited place stands low exited after = record {
      keep = keep_none s place (place + 0) (omega arith);
      each = λ k. reached_at s (no_groups place k) refl after;
    }
      where
        no_groups : (place k : ℕ) → place + 0 ≡ place + sum (take k [])
        no_groups place zero = refl
        no_groups place (suc k) = refl
    groups_kept around exits (more_of-TGroup labels shape body rest) h suited place stands low exited after =
        let n : ℕ = if is_end_of_groups rest then last_group_size typed body else stmts_size typed body in
        let sizes : List ℕ = group_sizes typed rest in
        let sums : sum (n ∷ sizes) ≡ n + sum sizes = sum-cons n sizes in
        let xs : Listing = if is_end_of_groups rest
        then last_group_code typed exits body place else stmts_code typed exits body place in
        let ys : Listing = groups_code typed exits rest (place + n) in
        let all_end : place + n + sum sizes ≡ place + sum (n ∷ sizes) = omega (arith, sums) in
        let others : GroupsKept s (place + n) sizes = groups_kept around exits rest h.2 suited (place + n)
        (stands_back s.code place n xs ys
        (one_of_long (is_end_of_groups rest) _ _ _ _ (last_group_long typed exits body place) (stmts_long typed exits body place))
        stands) (omega (arith, low)) (exits_within s (omega (arith, all_end)) exited)
        (reached_at s (sym all_end) refl after) in
        let next : Reached s (place + n) 0 = reached_at s (omega arith) refl (others.each 0) in
        let one : Kept s place (place + n) 0 =
        one_of_kept around exits (is_end_of_groups rest) (last_group_code typed exits body) (stmts_code typed exits body)
        (last_group_size typed body) (stmts_size typed body) true (last_goes_on true body)
        (last_group_kept around exits body h.1 suited)
        (λ place stands low end exited after.
        let rows : RowKept s place (place + stmts_size typed body) true =
        stmts_kept around exits true body h.1 suited place stands low end exited after in
        record { keep = rows.keep; first = rows.first refl })
        place (stands_front s.code place xs ys stands) low (omega (arith, next.below))
        (exits_within s (omega (arith, all_end)) exited) (λ e. next) in
        record {
          keep = keep_both s one.keep (keep_at s refl all_end others.keep);
          each = each_of n sizes place one.first others.each;
        }

    -- the code of the last group
    last_group_kept : (around : Around) (exits : Exits) {m : Count} (all : Row_of-TStmt m) →
        AreSoundStmts typed around all → Suited typed s around →
        Keeps s around exits (last_group_code typed exits all) (last_group_size typed all) true
    last_group_kept around exits end_of-TStmt h suited = λ place stands low end exited after.
        kept_none s (omega arith) refl (after refl)
    last_group_kept around exits (more_of-TStmt st rest) h suited =
        maybe_kept around exits (is_break st && is_end rest)
        (λ place. stmt_code typed exits st place ++ last_group_code typed exits rest (place + stmt_size typed st))
        (stmt_size typed st + last_group_size typed rest) true
        (λ place stands low end exited after.
        let n : ℕ = stmt_size typed st in
        let xs : Listing = stmt_code typed exits st place in
        let ys : Listing = last_group_code typed exits rest (place + n) in
        let all_end : place + n + last_group_size typed rest ≡ place + (n + last_group_size typed rest) = omega arith in
        let others : Kept s (place + n) (place + n + last_group_size typed rest) 0 =
        last_group_kept around exits rest h.1 suited (place + n)
        (stands_back s.code place n xs ys (stmt_long typed exits st place) stands)
        (omega (arith, low)) (omega (arith, end)) (exits_within s (omega arith) exited)
        (λ e. reached_at s (sym all_end) refl (after refl)) in
        let one : Kept s place (place + n) 0 =
        stmt_kept around exits st h.0 suited place (stands_front s.code place xs ys stands) low (omega (arith, end))
        (exits_within s (omega arith) exited) (λ e. others.first) in
        kept_both s one (keep_at s refl all_end others.keep))
