-- The code of each statement does what the statement means, where the code of its expressions does.
use mathlib.Core.Former.{Count}
use Rattle.std.proofs.Common.{◌≡◌, ℕ, zero, suc, ◌+◌, Bool, true, false, List, [], ◌∷◌, ◌++◌, length, take, Option, Some, None, slice_get, refl, sym, ap, ◌∙◌, subst, arith}
use Rattle.std.specs.Prelude.{ℤ, pos, ◌&&◌, if◌then◌else◌, IsSomeAnd, sum, sum_by}
use Rattle.std.proofs.lemmas.Bool.{and_parts}
use Rattle.write_format.specs.Line.{FormatText, numbers_taken}
use Rattle.bytecode.specs.declared.code.Code.{Code}
use Rattle.bytecode.specs.declared.instr.Instr.TheVariants as instr
use Rattle.bytecode.specs.Machine.{Machine}
use Rattle.control_flow.specs.World.{World, Run, Gives, Fails, and_then}
use Rattle.control_flow.specs.Control.{Breaks, Calls, Continues, Does, End, GoesOn, Returns, followed_by, going_on, leaving_switch, loop, looping, nothing}
use Rattle.typed_tree.specs.declared.expression.TExpr.{TExpr}
use Rattle.typed_tree.specs.declared.statement.TStmt.{TStmt, Row_of-TStmt, end_of-TStmt, more_of-TStmt}
use Rattle.typed_tree.specs.declared.statement.TStmt.TheVariants.{Empty, Block', If', Switch', Break, Continue, Return, Eval, Write, Send, Copy, Halt, Set, Cancel}
use Rattle.typed_tree.specs.declared.statement.TStmt.TheBlock.{Held-TStmt-If-1, Row_of-TArm, end_of-TArm, more_of-TArm, Row_of-TGroup, end_of-TGroup, more_of-TGroup}
use Rattle.typed_tree.specs.declared.program.Typed.{Typed}
use Rattle.typed_tree.specs.Expression.{Setting, value_of}
use Rattle.typed_tree.specs.Forms.{Do, For, NoPart, Part, While}
use Rattle.typed_tree.specs.Memory.{Memory}
use Rattle.typed_tree.specs.Shape.{goes_on, is_break, is_end, is_end_of_groups}
use Rattle.typed_tree.specs.Size.{arms_size, case_count, for_test_size, group_sizes, jump_size, last_group_size, part_size, stmt_size, stmts_size, test_size, value_size}
use Rattle.typed_tree.specs.Sound.{IsSound}
use Rattle.typed_tree.specs.SoundExpression.{IsSoundAlone, IsSoundExpr}
use Rattle.typed_tree.specs.SoundStatement.{AreSoundArms, AreSoundGroups, AreSoundStmts, Around, IsSoundOption, IsSoundPart, IsSoundStmt, ReturnsWhatIsGiven}
use Rattle.typed_tree.specs.Statement.{arms_of, default_group, for_test, group_for, groups_of, labels_of, numbers_of, part_of, returns, sets, stmt_of, stmts_of, writes}
use Rattle.typed_tree.proofs.TurnsLeft.{for_test_adds_none, value_adds_none}
use Rattle.code_listing.specs.Exit.{Backward, Forward}
use Rattle.code_listing.specs.Expression.{test_code, value_code}
use Rattle.code_listing.specs.Listing.{Listing, jump_code}
use Rattle.code_listing.specs.Statement.{Exits, arms_code, back_code, for_test_code, groups_code, last_group_code, part_code, return_code, stmt_code, stmts_code, switch_code, values_code}
use Rattle.code_listing.proofs.ChoiceRuns.{decides_then}
use Rattle.code_listing.proofs.ExpressionRuns.{Means}
use Rattle.code_listing.proofs.ExpressionSizes.{both_long}
use Rattle.code_listing.proofs.MachineRuns.{at_place, comes_on, follows_then, one_moves, stands_back, stands_front, stays}
use Rattle.code_listing.proofs.StatementSizes.{jump_long, last_group_long, part_long, sizes_of_groups, stmts_long, stmt_long, sum-cons, values_long}
use Rattle.code_listing.proofs.TestRuns.{exit_runs, goes_from, still_fit}
use Rattle.code_meaning.proofs.EffectRuns.{cancel_runs, copy_runs, send_runs, set_runs, stop_runs, values_run, write_runs}
use Rattle.code_meaning.proofs.EndsAllowed.{EndsOnlySo, IsAllowed, stmt_allowed}
use Rattle.code_meaning.proofs.LeavingOff.{jumps, obeys_at, obeys_on, obeys_switch, obeys_then, obeys_to, ret_returns, returned_on}
use Rattle.code_meaning.proofs.LoopRuns.{jump_over, loop_runs, round_runs, turn_runs}
use Rattle.code_meaning.proofs.SwitchRuns.{groups_stand, switch_leads}
use Rattle.code_meaning.specs.Statement.{IsSetForStatements}
use Rattle.code_listing.proofs.EveryExpression.{ParamsExist, alone_runs, every_means}
use Rattle.code_listing.specs.Runs.{RunsAlone, Comes, Follows, GoesBy, IsFit, StandsAt, branch, machine_at}
use Rattle.code_meaning.specs.Statement.{HasReturned, LeavesOff, Obeys, with_given}

none_left : (k : ℕ) (none : List ℕ) → none ≡ [] → sum (take k none) ≡ 0
none_left zero none e = refl
none_left (suc k) none e = ap (λ xs. sum (take (suc k) xs)) e

arm_jump_long : (goes : Bool) (behind place : ℕ) → length (if goes then jump_code behind place else []) ≡ (if goes then jump_size behind else 0)
arm_jump_long true behind place = jump_long behind place
arm_jump_long false behind place = refl

-- a format takes as many numbers as there are
count_taken : (o : Option FormatText) (m n : ℕ) → m ≡ n → IsSomeAnd o (λ text. m ≡ numbers_taken text) → IsSomeAnd o (λ text. n ≡ numbers_taken text)
count_taken None m n e h = h
count_taken (Some text) m n e h = sym e ∙ h

-- the code of a group
group_long : (typed : Typed) (exits : Exits) {m : Count} (body : Row_of-TStmt m) (last : Bool) (place : ℕ) →
    length (if last then last_group_code typed exits body place else stmts_code typed exits body place) ≡
    (if last then last_group_size typed body else stmts_size typed body)
group_long typed exits body true place = last_group_long typed exits body place
group_long typed exits body false place = stmts_long typed exits body place

-- behind the last group there is none
none_behind : (typed : Typed) {m : Count} (groups : Row_of-TGroup m) → is_end_of_groups groups ≡ true → sum (group_sizes typed groups) ≡ 0
none_behind typed end_of-TGroup e = refl
none_behind typed (more_of-TGroup labels shape body rest) e = absurd (let f : false ≡ true = e in cc)

module _ (code : Code) (s : Setting) (sound_program : IsSound s.typed) (call : Calls Memory) (n number : ℕ)
    (set : IsSetForStatements code s call n number) (gives : Bool) (stack : List ℤ) (calls : List ℕ) where
  params : ParamsExist s.typed
  params = λ f function there. (sound_program.functions f function there).params_exist

  -- the code of the expressions of the procedure does what they mean
  means : (e : TExpr) → IsSoundExpr s.typed number e → Means code s call n e
  means e sound = every_means code s set.expressions.cells call n number set.expressions.functions set.expressions.timers params e sound

  -- and that of an expression that stands alone
  alone : (e : TExpr) → IsSoundAlone s.typed number e → RunsAlone code s call n e
  alone e sound = alone_runs code s set.expressions.cells call n number set.expressions.functions set.expressions.timers params e sound

  -- what a statement of the procedure stands in
  abbrev around : Bool → Bool → Around
  around breakable continuable = record { number = number; gives = gives; breakable = breakable; continuable = continuable }

  abbrev at : ℕ → World Memory → Machine
  at place w = machine_at place stack calls w

  abbrev Fit : World Memory → Type 0
  Fit w = IsFit code n w

  abbrev Left : Exits → ℕ → Machine → End → World Memory → Type 0
  Left exits end m = LeavesOff code s.closed s.moment gives stack calls exits end m

  abbrev Runs : Exits → ℕ → World Memory → ℕ → Run Memory End → Type 0
  Runs exits place w end run = Obeys code s.closed s.moment gives stack calls exits place w end run

  abbrev To : Machine → Machine → Type 0
  To m after = Comes code s.closed s.moment m after

  -- a statement begins at a place that is written in another way
  runs_from : (exits : Exits) (p q : ℕ) (w : World Memory) (end : ℕ) (run : Run Memory End) → p ≡ q → Runs exits p w end run → Runs exits q w end run
  runs_from exits p q w end run e h = subst (λ k. Runs exits k w end run) e h

  -- and ends at one
  runs_at : (exits : Exits) (place : ℕ) (w : World Memory) (p q : ℕ) (run : Run Memory End) → p ≡ q → Runs exits place w p run → Runs exits place w q run
  runs_at exits place w p q run e h = obeys_at code s.closed s.moment gives stack calls exits p q (at place w) run e h

  -- a statement whose end control cannot come to leads to any end
  runs_nowhere : (exits : Exits) (mid end : ℕ) (m : Machine) (b c : Bool) (run : Run Memory End) → EndsOnlySo (IsAllowed (around b c) false) run →
      Follows code s.closed s.moment m (Left exits mid m) run → Follows code s.closed s.moment m (Left exits end m) run
  runs_nowhere exits mid end m b c (Gives GoesOn w) allowed h = absurd (let f : false ≡ true = allowed in cc)
  runs_nowhere exits mid end m b c (Gives Breaks w) allowed h = h
  runs_nowhere exits mid end m b c (Gives Continues w) allowed h = h
  runs_nowhere exits mid end m b c (Gives (Returns v) w) allowed h = h
  runs_nowhere exits mid end m b c (Fails o w) allowed h = h

  -- the end of an arm: a jump over what is behind it, where control comes to it
  arm_ends : (goes : Bool) (exits : Exits) (place mid behind : ℕ) (w : World Memory) (b c : Bool) (run : Run Memory End) →
      EndsOnlySo (IsAllowed (around b c) goes) run → StandsAt code mid (if goes then jump_code behind mid else []) →
      Runs exits place w mid run → Runs exits place w (mid + ((if goes then jump_size behind else 0) + behind)) run
  arm_ends true exits place mid behind w b c run allowed h r =
      obeys_to code s.closed s.moment gives stack calls exits mid (mid + (jump_size behind + behind)) (at place w) run
      (λ w1. jump_over code s.closed s.moment gives stack calls behind mid w1 h) r
  arm_ends false exits place mid behind w b c run allowed h r = runs_nowhere exits mid (mid + (0 + behind)) (at place w) b c run allowed r

  -- `return`
  return_runs : (value : Option TExpr) (exits : Exits) (place end : ℕ) (w : World Memory) → ReturnsWhatIsGiven gives (Return value) →
      IsSoundOption s.typed number value → Fit w → StandsAt code place (return_code s.typed value place) → Runs exits place w end (returns s call value w)
  return_runs None exits place end w given sound fit h =
      subst (λ g. HasReturned code s.closed s.moment gives stack (machine_at place (with_given g (pos 0) stack) calls w) calls (pos 0) w) given
      (ret_returns code s.closed s.moment gives stack calls place (pos 0) w h.0.0)
  return_runs (Some e) exits place end w given sound fit h =
      let m = at place w in
      let mean = means e sound in
      let z = value_size s.typed e in
      let xs = value_code s.typed e place 0 in
      let last : Listing = (instr.Ret, 1) ∷ [] in
      let there = stands_back code place z xs last (mean.fits.value place 0) h in
      follows_then code s.closed s.moment m _ (Left exits end m) (value_of s call e w) (λ v w. Gives (Returns v) w)
      (mean.value place 0 stack calls w fit (stands_front code place xs last h))
      (λ v w1 r. returned_on code s.closed s.moment gives stack calls v w1 r
      (subst (λ g. HasReturned code s.closed s.moment gives stack (machine_at (place + z) (with_given g v stack) calls w1) calls v w1) given
      (ret_returns code s.closed s.moment gives stack calls (place + z) v w1 there.0.0)))

  -- the test of a `for`
  for_test_runs : (test : Option TExpr) (start place : ℕ) (w : World Memory) → IsSoundOption s.typed number test → Fit w →
      StandsAt code place (for_test_code s.typed test start place) →
      GoesBy code s.closed s.moment (at place w) (Backward start) stack calls (place + for_test_size s.typed test)
      (and_then (for_test s call test w) (branch true (Backward start)))
  for_test_runs None start place w sound fit h =
      goes_from code s.closed s.moment (at place w) (machine_at (place + 1) (pos 1 ∷ stack) calls w) (Backward start) stack calls (place + 1 + 1) (place + 2)
      (branch true (Backward start) (pos 1) w) (omega arith)
      (one_moves code s.closed s.moment place (place + 1) stack (pos 1 ∷ stack) calls w (instr.Push (pos 1)) h.0.0 refl)
      (exit_runs code s.closed s.moment true (Backward start) (place + 1) 1 (pos 1) stack calls w h.1)
  for_test_runs (Some e) start place w sound fit h = (means e sound).test true (Backward start) place 0 stack calls w fit h

  -- a `break` breaks
  breaks : (st : TStmt) (w : World Memory) → is_break st ≡ true → stmt_of s call n st w ≡ Gives Breaks w
  breaks Break w e = refl
  breaks Empty w e = absurd (let f : false ≡ true = e in cc)
  breaks (Block' shape all) w e = absurd (let f : false ≡ true = e in cc)
  breaks (If' shape arms other) w e = absurd (let f : false ≡ true = e in cc)
  breaks (While test body) w e = absurd (let f : false ≡ true = e in cc)
  breaks (Do body test) w e = absurd (let f : false ≡ true = e in cc)
  breaks (For init test step body) w e = absurd (let f : false ≡ true = e in cc)
  breaks (Switch' on shape groups) w e = absurd (let f : false ≡ true = e in cc)
  breaks Continue w e = absurd (let f : false ≡ true = e in cc)
  breaks (Return value) w e = absurd (let f : false ≡ true = e in cc)
  breaks (Eval e') w e = absurd (let f : false ≡ true = e in cc)
  breaks (Write format args) w e = absurd (let f : false ≡ true = e in cc)
  breaks (Send msg) w e = absurd (let f : false ≡ true = e in cc)
  breaks (Copy to from) w e = absurd (let f : false ≡ true = e in cc)
  breaks Halt w e = absurd (let f : false ≡ true = e in cc)
  breaks (Set timer cyclic e') w e = absurd (let f : false ≡ true = e in cc)
  breaks (Cancel timer) w e = absurd (let f : false ≡ true = e in cc)

  -- a statement of the last group and those behind it, where a `break` at the end has no code
  last_group_more : (d : Bool) (exits : Exits) (place size rest : ℕ) (w : World Memory) (xs ys : Listing) (first second : Does Memory) →
      length xs ≡ size → exits.break_at ≡ place + (if d then 0 else size + rest) → (d ≡ true → first w ≡ Gives Breaks w) → Fit w →
      (StandsAt code place xs → Runs exits place w (place + size) (first w)) →
      ((w1 : World Memory) → exits.break_at ≡ place + size + rest → Fit w1 → StandsAt code (place + size) ys →
      Runs exits (place + size) w1 (place + size + rest) (second w1)) →
      StandsAt code place (if d then [] else (xs ++ ys)) → Runs exits place w (place + (if d then 0 else size + rest)) (followed_by first second w)
  last_group_more true exits place size rest w xs ys first second long ends is_break fit one other h =
      subst (λ run. Runs exits place w (place + 0) (and_then run (going_on second))) (sym (is_break refl))
      (at_place code s.closed s.moment place exits.break_at (omega (arith, ends)) (stays code s.closed s.moment (at place w)))
  last_group_more false exits place size rest w xs ys first second long ends is_break fit one other h =
      runs_at exits place w (place + size + rest) (place + (size + rest)) (followed_by first second w) (omega arith)
      (obeys_then code s.closed s.moment gives stack calls n exits place (place + size) (place + size + rest) w (first w) second fit
      (one (stands_front code place xs ys h))
      (λ w1 fit1. other w1 (omega (arith, ends)) fit1 (stands_back code place size xs ys long h)))

  -- a group, which is the last one or not
  group_runs : (last : Bool) (exits : Exits) (place long short : ℕ) (w : World Memory) (xs ys : Listing) (run : Run Memory End) →
      (last ≡ true → StandsAt code place xs → Runs exits place w (place + short) run) →
      (StandsAt code place ys → Runs exits place w (place + long) run) → StandsAt code place (if last then xs else ys) → Runs exits place w (place + (if last then short else long)) run
  group_runs true exits place long short w xs ys run one other h = one refl h
  group_runs false exits place long short w xs ys run one other h = other h

  mutual
    -- the code of a statement does what it means
    pub stmt_runs : (st : TStmt) (b c : Bool) (exits : Exits) (place : ℕ) (w : World Memory) → IsSoundStmt s.typed (around b c) st → Fit w →
        StandsAt code place (stmt_code s.typed exits st place) → Runs exits place w (place + stmt_size s.typed st) (stmt_of s call n st w)
    stmt_runs Empty b c exits place w sound fit h =
        at_place code s.closed s.moment place (place + 0) (omega arith) (stays code s.closed s.moment (at place w))
    stmt_runs (Block' shape all) b c exits place w sound fit h = stmts_run all b c exits place w sound.1 fit h
    stmt_runs (If' shape arms other) b c exits place w sound fit h =
        arms_run arms b c exits (part_size s.typed other) (part_code s.typed exits other) (part_of s call n other) place w sound.1
        (λ p w1 fit1 h1. part_runs other b c exits p w1 sound.2 fit1 h1) fit h
    stmt_runs (While test body) b c exits place w sound fit h =
        let size = stmt_size s.typed body in
        let body_at = place + jump_size size in
        let test_at = place + (jump_size size + size) in
        let end = test_at + test_size s.typed true true test in
        let inner : Exits = record { break_at = end; continue_at = test_at } in
        let js = jump_code size place in
        let bs = stmt_code s.typed inner body body_at in
        let ts = back_code s.typed test body_at (body_at + size) in
        let here : body_at + size ≡ test_at = omega arith in
        let len : end ≡ place + stmt_size s.typed (While test body) = omega arith in
        let h1 = stands_back code place (jump_size size) js (bs ++ ts) (jump_long size place) h in
        let h2 = subst (λ p. StandsAt code p (back_code s.typed test body_at p)) here
        (stands_back code body_at size bs ts (stmt_long s.typed inner body body_at) h1) in
        runs_at exits place w end (place + stmt_size s.typed (While test body)) (stmt_of s call n (While test body) w) len
        (obeys_on code s.closed s.moment gives stack calls exits end (at place w) (at test_at w) (stmt_of s call n (While test body) w)
        (jump_over code s.closed s.moment gives stack calls size place w (stands_front code place js (bs ++ ts) h))
        (loop_runs code s.closed s.moment gives stack calls n exits test_at body_at test_at end (stmt_of s call n body)
        (λ w1 fit1. runs_at inner body_at w1 (body_at + size) test_at (stmt_of s call n body w1) here
        (stmt_runs body true true inner body_at w1 sound.1 fit1 (stands_front code body_at bs ts h1)))
        (value_of s call test) nothing (value_adds_none s call set.turns test)
        (λ w1 fit1. (means test sound.0).test true (Backward body_at) test_at 0 stack calls w1 fit1 h2)
        (λ w1 fit1. stays code s.closed s.moment (at test_at w1))
        (suc n) w (omega (arith, fit.turns)) fit))
    stmt_runs (Do body test) b c exits place w sound fit h =
        let size = stmt_size s.typed body in
        let body_at = place + 1 in
        let test_at = place + 1 + size in
        let end = test_at + test_size s.typed true true test in
        let inner : Exits = record { break_at = end; continue_at = test_at } in
        let bs = stmt_code s.typed inner body body_at in
        let ts = back_code s.typed test body_at test_at in
        let again : Does Memory = loop n (value_of s call test) (stmt_of s call n body) nothing in
        let len : end ≡ place + stmt_size s.typed (Do body test) = omega arith in
        let h1 = stands_back code body_at size bs ts (stmt_long s.typed inner body body_at) h.1 in
        runs_at exits place w end (place + stmt_size s.typed (Do body test)) (stmt_of s call n (Do body test) w) len
        (turn_runs code s.closed s.moment gives stack calls place (Left exits end (at place w)) w
        (λ w. and_then (stmt_of s call n body w) (looping again)) h.0.0
        (λ w1 r fewer. obeys_on code s.closed s.moment gives stack calls exits end (at place w) (at body_at w1)
        (and_then (stmt_of s call n body w1) (looping again)) r
        (round_runs code s.closed s.moment gives stack calls n exits test_at body_at test_at end (stmt_of s call n body)
        (λ w2 fit2. stmt_runs body true true inner body_at w2 sound.0 fit2 (stands_front code body_at bs ts h.1)) n again
        (λ w2 less fit2. loop_runs code s.closed s.moment gives stack calls n exits test_at body_at test_at end (stmt_of s call n body)
        (λ w3 fit3. stmt_runs body true true inner body_at w3 sound.0 fit3 (stands_front code body_at bs ts h.1))
        (value_of s call test) nothing (value_adds_none s call set.turns test)
        (λ w3 fit3. (means test sound.1).test true (Backward body_at) test_at 0 stack calls w3 fit3 h1)
        (λ w3 fit3. stays code s.closed s.moment (at test_at w3)) n w2 less fit2)
        w1 (omega (arith, fewer, fit.turns)) (still_fit code s.closed s.moment fit r))))
    stmt_runs (For init test step body) b c exits place w sound fit h =
        let loop_at = place + part_size s.typed init in
        let size = stmt_size s.typed body + part_size s.typed step in
        let body_at = loop_at + jump_size size in
        let step_at = loop_at + (jump_size size + stmt_size s.typed body) in
        let test_at = body_at + size in
        let end = step_at + (part_size s.typed step + for_test_size s.typed test) in
        let inner : Exits = record { break_at = end; continue_at = step_at } in
        let is = part_code s.typed exits init place in
        let js = jump_code size loop_at in
        let bs = stmt_code s.typed inner body body_at in
        let ss = part_code s.typed exits step (body_at + stmt_size s.typed body) in
        let ts = for_test_code s.typed test body_at test_at in
        let here : body_at + stmt_size s.typed body ≡ step_at = omega arith in
        let there : loop_at + (jump_size size + size) ≡ test_at = omega arith in
        let behind : step_at + part_size s.typed step ≡ test_at = omega arith in
        let last : test_at + for_test_size s.typed test ≡ end = omega arith in
        let len : end ≡ place + stmt_size s.typed (For init test step body) = omega arith in
        let h1 = stands_back code place (part_size s.typed init) is (js ++ ((bs ++ ss) ++ ts)) (part_long s.typed exits init place) h in
        let h2 = stands_back code loop_at (jump_size size) js ((bs ++ ss) ++ ts) (jump_long size loop_at) h1 in
        let h3 = stands_front code body_at (bs ++ ss) ts h2 in
        let h4 = subst (λ p. StandsAt code p (part_code s.typed exits step p)) here
        (stands_back code body_at (stmt_size s.typed body) bs ss (stmt_long s.typed inner body body_at) h3) in
        let h5 = stands_back code body_at size (bs ++ ss) ts
        (both_long bs ss _ _ (stmt_long s.typed inner body body_at) (part_long s.typed exits step (body_at + stmt_size s.typed body))) h2 in
        let whole : Does Memory = loop (suc n) (for_test s call test) (stmt_of s call n body) (part_of s call n step) in
        runs_at exits place w end (place + stmt_size s.typed (For init test step body)) (stmt_of s call n (For init test step body) w) len
        (obeys_then code s.closed s.moment gives stack calls n exits place loop_at end w (part_of s call n init w) whole fit
        (part_runs init b c exits place w sound.1 fit (stands_front code place is _ h))
        (λ w1 fit1. obeys_on code s.closed s.moment gives stack calls exits end (at loop_at w1) (at test_at w1) (whole w1)
        (at_place code s.closed s.moment _ test_at there
        (jump_over code s.closed s.moment gives stack calls size loop_at w1 (stands_front code loop_at js _ h1)))
        (loop_runs code s.closed s.moment gives stack calls n exits test_at body_at step_at end (stmt_of s call n body)
        (λ w2 fit2. runs_at inner body_at w2 (body_at + stmt_size s.typed body) step_at (stmt_of s call n body w2) here
        (stmt_runs body true true inner body_at w2 sound.4 fit2 (stands_front code body_at bs ss h3)))
        (for_test s call test) (part_of s call n step) (for_test_adds_none s call set.turns test)
        (λ w2 fit2. subst (λ p. GoesBy code s.closed s.moment (at test_at w2) (Backward body_at) stack calls p
        (and_then (for_test s call test w2) (branch true (Backward body_at)))) last (for_test_runs test body_at test_at w2 sound.2 fit2 h5))
        (λ w2 fit2. runs_at exits step_at w2 (step_at + part_size s.typed step) test_at (part_of s call n step w2) behind
        (part_runs step b c exits step_at w2 sound.3 fit2 h4))
        (suc n) w1 (omega (arith, fit1.turns)) fit1)))
    stmt_runs (Switch' on shape groups) b c exits place w sound fit h =
        let z = value_size s.typed on in
        let sizes = group_sizes s.typed groups in
        let labels = labels_of groups in
        let cases_at = place + z in
        let over = sum (take (default_group labels) sizes) in
        let groups_at = cases_at + case_count labels + (1 + jump_size over) in
        let end = cases_at + (case_count labels + (1 + (jump_size over + sum sizes))) in
        let inner : Exits = record { break_at = end; continue_at = exits.continue_at } in
        let xs = value_code s.typed on place 0 in
        let cs = switch_code labels sizes (groups_code s.typed inner groups) cases_at in
        let mean = means on sound.1 in
        let same = sizes_of_groups s.typed groups in
        let here : groups_at + sum sizes ≡ end = omega arith in
        let len : end ≡ place + stmt_size s.typed (Switch' on shape groups) = omega arith in
        let h1 = stands_back code place z xs cs (mean.fits.value place 0) h in
        let h2 = groups_stand code s.closed s.moment gives stack calls labels sizes (groups_code s.typed inner groups) cases_at same h1 in
        let m = at place w in
        runs_at exits place w end (place + stmt_size s.typed (Switch' on shape groups)) (stmt_of s call n (Switch' on shape groups) w) len
        (follows_then code s.closed s.moment m _ (Left exits end m) (value_of s call on w)
        (λ v w1. and_then (groups_of s call n groups (group_for v labels) w1) leaving_switch)
        (mean.value place 0 stack calls w fit (stands_front code place xs cs h))
        (λ v w1 r.
        let k = group_for v labels in
        let run = groups_of s call n groups k w1 in
        let led = comes_on code s.closed s.moment r
        (switch_leads code s.closed s.moment gives stack calls labels sizes (groups_code s.typed inner groups) cases_at v w1 same h1) in
        obeys_switch code s.closed s.moment gives stack calls exits inner end m run refl refl
        (obeys_on code s.closed s.moment gives stack calls inner end m (at (groups_at + sum (take k sizes)) w1) run led
        (runs_at inner (groups_at + sum (take k sizes)) w1 (groups_at + sum sizes) end run here
        (groups_run groups k c inner groups_at w1 sound.2 (sym here) (still_fit code s.closed s.moment fit led) h2)))))
    stmt_runs Break b c exits place w sound fit h = jumps code s.closed s.moment gives stack calls place exits.break_at w h.0.0
    stmt_runs Continue b c exits place w sound fit h = jumps code s.closed s.moment gives stack calls place exits.continue_at w h.0.0
    stmt_runs (Return value) b c exits place w sound fit h = return_runs value exits place _ w sound.0.returns sound.1 fit h
    stmt_runs (Eval e) b c exits place w sound fit h =
        follows_then code s.closed s.moment (at place w) _ (Left exits (place + stmt_size s.typed (Eval e)) (at place w)) (value_of s call e w)
        (λ v w1. Gives GoesOn w1) (alone e sound exits place stack calls w fit h) (λ v w1 r. r)
    stmt_runs (Write format args) b c exits place w sound fit h =
        let z = sum_by (value_size s.typed) args in
        let xs = values_code s.typed args place 0 in
        let last : Listing = (instr.Write format, length args) ∷ [] in
        let there = stands_back code place z xs last (values_long s.typed args place 0) h in
        let m = at place w in
        let end = place + (z + 1) in
        follows_then code s.closed s.moment m _ (Left exits end m) (numbers_of s call args w) (writes s format)
        (values_run code s call n number set calls means args sound.1 place 0 stack w fit (stands_front code place xs last h))
        (λ ns w1 r. at_place code s.closed s.moment (place + z + 1) end (omega arith) (comes_on code s.closed s.moment r.1
        (write_runs code s call n number set calls sound_program format (place + z) ns stack w1 (still_fit code s.closed s.moment fit r.1)
        (count_taken (slice_get s.typed.formats format) (length args) (length ns) (sym r.0) sound.0.writes) there.0.0)))
    stmt_runs (Send msg) b c exits place w sound fit h = send_runs code s call n number set calls msg place stack w fit sound.names_exist h.0.0
    stmt_runs (Copy to from) b c exits place w sound fit h =
        copy_runs code s call n number set calls to from place stack w fit sound.names_exist.0 sound.names_exist.1 h.0.0
    stmt_runs Halt b c exits place w sound fit h = stop_runs code s call n number set calls place stack w h.0.0
    stmt_runs (Set timer cyclic e) b c exits place w sound fit h =
        let mean = means e sound.1 in
        let z = value_size s.typed e in
        let xs = value_code s.typed e place 0 in
        let last : Listing = (instr.Set timer cyclic, 1) ∷ [] in
        let there = stands_back code place z xs last (mean.fits.value place 0) h in
        let m = at place w in
        let end = place + (z + 1) in
        follows_then code s.closed s.moment m _ (Left exits end m) (value_of s call e w) (sets s timer cyclic)
        (mean.value place 0 stack calls w fit (stands_front code place xs last h))
        (λ v w1 r. at_place code s.closed s.moment (place + z + 1) end (omega arith) (comes_on code s.closed s.moment r
        (set_runs code s call n number set calls timer (place + z) cyclic v stack w1 (still_fit code s.closed s.moment fit r) sound.0.names_exist there.0.0)))
    stmt_runs (Cancel timer) b c exits place w sound fit h = cancel_runs code s call n number set calls timer place stack w fit sound.names_exist h.0.0

    -- statements in a row
    stmts_run : {m : Count} (all : Row_of-TStmt m) (b c : Bool) (exits : Exits) (place : ℕ) (w : World Memory) → AreSoundStmts s.typed (around b c) all →
        Fit w → StandsAt code place (stmts_code s.typed exits all place) → Runs exits place w (place + stmts_size s.typed all) (stmts_of s call n all w)
    stmts_run end_of-TStmt b c exits place w sound fit h =
        at_place code s.closed s.moment place (place + 0) (omega arith) (stays code s.closed s.moment (at place w))
    stmts_run (more_of-TStmt st rest) b c exits place w sound fit h =
        let z = stmt_size s.typed st in
        let xs = stmt_code s.typed exits st place in
        let ys = stmts_code s.typed exits rest (place + z) in
        runs_at exits place w (place + z + stmts_size s.typed rest) (place + (z + stmts_size s.typed rest)) _ (omega arith)
        (obeys_then code s.closed s.moment gives stack calls n exits place (place + z) (place + z + stmts_size s.typed rest) w
        (stmt_of s call n st w) (stmts_of s call n rest) fit
        (stmt_runs st b c exits place w sound.0 fit (stands_front code place xs ys h))
        (λ w1 fit1. stmts_run rest b c exits (place + z) w1 sound.1 fit1
        (stands_back code place z xs ys (stmt_long s.typed exits st place) h)))

    -- the arms of an `if`, and what stands behind them
    arms_run : {m : Count} (arms : Row_of-TArm m) (b c : Bool) (exits : Exits) (size : ℕ) (other_code : ℕ → Listing) (other : Does Memory) (place : ℕ)
        (w : World Memory) → AreSoundArms s.typed (around b c) arms →
        ((p : ℕ) (w : World Memory) → Fit w → StandsAt code p (other_code p) → Runs exits p w (p + size) (other w)) → Fit w →
        StandsAt code place (arms_code s.typed exits arms size other_code place) →
        Runs exits place w (place + arms_size s.typed arms size) (arms_of s call n arms other w)
    arms_run end_of-TArm b c exits size other_code other place w sound other_runs fit h = other_runs place w fit h
    arms_run (more_of-TArm test body rest) b c exits size other_code other place w sound other_runs fit h =
        let t = test_size s.typed false false test in
        let behind = arms_size s.typed rest size in
        let body_at = place + t in
        let jump_at = body_at + stmt_size s.typed body in
        let skipped = if goes_on body then jump_size behind else 0 in
        let next = jump_at + skipped in
        let end = place + (t + (stmt_size s.typed body + (skipped + behind))) in
        let xs = test_code s.typed false (Forward next) test place 0 in
        let ys = stmt_code s.typed exits body body_at in
        let js = if goes_on body then jump_code behind jump_at else [] in
        let zs = arms_code s.typed exits rest size other_code next in
        let mean = means test sound.0 in
        let after : jump_at + (skipped + behind) ≡ end = omega arith in
        let len : next + behind ≡ end = omega arith in
        let h1 = stands_back code place t xs (ys ++ (js ++ zs)) (mean.fits.test false (Forward next) place 0) h in
        let h2 = stands_back code body_at (stmt_size s.typed body) ys (js ++ zs) (stmt_long s.typed exits body body_at) h1 in
        let h3 = stands_back code jump_at skipped js zs (arm_jump_long (goes_on body) behind jump_at) h2 in
        let m = at place w in
        decides_then code s.closed s.moment m next body_at stack calls (Left exits end m) (value_of s call test w) (stmt_of s call n body)
        (arms_of s call n rest other)
        (mean.test false (Forward next) place 0 stack calls w fit (stands_front code place xs (ys ++ (js ++ zs)) h))
        (λ w1 r. obeys_on code s.closed s.moment gives stack calls exits end m (at body_at w1) (stmt_of s call n body w1) r
        (runs_at exits body_at w1 (jump_at + (skipped + behind)) end (stmt_of s call n body w1) after
        (arm_ends (goes_on body) exits body_at jump_at behind w1 b c (stmt_of s call n body w1)
        (stmt_allowed s call n body (around b c) sound.1 w1) (stands_front code jump_at js zs h2)
        (stmt_runs body b c exits body_at w1 sound.1 (still_fit code s.closed s.moment fit r) (stands_front code body_at ys (js ++ zs) h1)))))
        (λ w1 r. obeys_on code s.closed s.moment gives stack calls exits end m (at next w1) (arms_of s call n rest other w1) r
        (runs_at exits next w1 (next + behind) end (arms_of s call n rest other w1) len
        (arms_run rest b c exits size other_code other next w1 sound.2 other_runs (still_fit code s.closed s.moment fit r) h3)))

    -- a part that may be missing
    part_runs : (part : Held-TStmt-If-1) (b c : Bool) (exits : Exits) (place : ℕ) (w : World Memory) → IsSoundPart s.typed (around b c) part → Fit w →
        StandsAt code place (part_code s.typed exits part place) → Runs exits place w (place + part_size s.typed part) (part_of s call n part w)
    part_runs NoPart b c exits place w sound fit h =
        at_place code s.closed s.moment place (place + 0) (omega arith) (stays code s.closed s.moment (at place w))
    part_runs (Part part) b c exits place w sound fit h = stmt_runs part b c exits place w sound fit h

    -- the groups of a `switch`, from one on by its number
    groups_run : {m : Count} (groups : Row_of-TGroup m) (k : ℕ) (c : Bool) (exits : Exits) (place : ℕ) (w : World Memory) →
        AreSoundGroups s.typed (around true c) groups → exits.break_at ≡ place + sum (group_sizes s.typed groups) → Fit w →
        StandsAt code place (groups_code s.typed exits groups place) →
        Runs exits (place + sum (take k (group_sizes s.typed groups))) w (place + sum (group_sizes s.typed groups)) (groups_of s call n groups k w)
    groups_run end_of-TGroup k c exits place w sound ends fit h =
        let none : sum (take k []) ≡ 0 = none_left k [] refl in
        at_place code s.closed s.moment (place + sum (take k [])) (place + 0) (omega (arith, none)) (stays code s.closed s.moment (at (place + sum (take k [])) w))
    groups_run (more_of-TGroup labels shape body rest) zero c exits place w sound ends fit h =
        let last = is_end_of_groups rest in
        let short = last_group_size s.typed body in
        let long = stmts_size s.typed body in
        let size = if last then short else long in
        let sizes = group_sizes s.typed rest in
        let xs = last_group_code s.typed exits body place in
        let ys = stmts_code s.typed exits body place in
        let zs = groups_code s.typed exits rest (place + size) in
        let all : sum (size ∷ sizes) ≡ size + sum sizes = sum-cons size sizes in
        let len : place + size + sum sizes ≡ place + sum (size ∷ sizes) = omega (arith, all) in
        let front = stands_front code place (if last then xs else ys) zs h in
        let back = stands_back code place size (if last then xs else ys) zs (group_long s.typed exits body last place) h in
        runs_from exits place (place + 0) w _ _ (omega arith)
        (runs_at exits place w (place + size + sum sizes) (place + sum (size ∷ sizes)) _ len
        (obeys_then code s.closed s.moment gives stack calls n exits place (place + size) (place + size + sum sizes) w (stmts_of s call n body w)
        (groups_of s call n rest zero) fit
        (group_runs last exits place long short w xs ys (stmts_of s call n body w)
        (λ e h1. last_group_run body c exits place w sound.1
        (let same : size ≡ short = ap (λ b. if b then short else long) e in omega (arith, ends, all, same, none_behind s.typed rest e)) fit h1)
        (λ h1. stmts_run body true c exits place w sound.1 fit h1) front)
        (λ w1 fit1. runs_from exits (place + size + 0) (place + size) w1 _ _ (omega arith)
        (groups_run rest zero c exits (place + size) w1 sound.2 (omega (arith, ends, all)) fit1 back))))
    groups_run (more_of-TGroup labels shape body rest) (suc k) c exits place w sound ends fit h =
        let last = is_end_of_groups rest in
        let size = if last then last_group_size s.typed body else stmts_size s.typed body in
        let sizes = group_sizes s.typed rest in
        let xs = if last then last_group_code s.typed exits body place else stmts_code s.typed exits body place in
        let zs = groups_code s.typed exits rest (place + size) in
        let from : place + size + sum (take k sizes) ≡ place + sum (take (suc k) (size ∷ sizes)) = omega (arith, sum-cons size (take k sizes)) in
        let len : place + size + sum sizes ≡ place + sum (size ∷ sizes) = omega (arith, sum-cons size sizes) in
        runs_from exits _ _ w _ _ from
        (runs_at exits (place + size + sum (take k sizes)) w _ _ _ len
        (groups_run rest k c exits (place + size) w sound.2 (omega (arith, ends, len)) fit
        (stands_back code place size xs zs (group_long s.typed exits body last place) h)))

    -- the last group
    last_group_run : {m : Count} (all : Row_of-TStmt m) (c : Bool) (exits : Exits) (place : ℕ) (w : World Memory) →
        AreSoundStmts s.typed (around true c) all → exits.break_at ≡ place + last_group_size s.typed all → Fit w →
        StandsAt code place (last_group_code s.typed exits all place) →
        Runs exits place w (place + last_group_size s.typed all) (stmts_of s call n all w)
    last_group_run end_of-TStmt c exits place w sound ends fit h =
        at_place code s.closed s.moment place (place + 0) (omega arith) (stays code s.closed s.moment (at place w))
    last_group_run (more_of-TStmt st rest) c exits place w sound ends fit h =
        let z = stmt_size s.typed st in
        last_group_more (is_break st && is_end rest) exits place z (last_group_size s.typed rest) w (stmt_code s.typed exits st place)
        (last_group_code s.typed exits rest (place + z)) (stmt_of s call n st) (stmts_of s call n rest) (stmt_long s.typed exits st place) ends
        (λ d. breaks st w (and_parts (is_break st) (is_end rest) d).0) fit
        (λ h1. stmt_runs st true c exits place w sound.0 fit h1)
        (λ w1 ends1 fit1 h1. last_group_run rest c exits (place + z) w1 sound.1 ends1 fit1 h1) h
