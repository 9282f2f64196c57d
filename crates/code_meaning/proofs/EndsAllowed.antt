-- How a sound statement may end: it breaks only where a `break` may stand, continues only where a `continue` may, and where
-- control cannot come to its end it does not go on.
use mathlib.Core.Former.{Count}
use Rattle.std.proofs.Common.{◌≡◌, ℕ, zero, suc, Bool, true, false, List, [], ◌∷◌, Option, Some, None, refl}
use Rattle.std.specs.Prelude.{IsTrue, ◌||◌, if◌then◌else◌, ℤ, pos, ⊤}
use Rattle.std.specs.Ordering.{int_eq}
use Rattle.std.specs.List.{AllByRecursion}
use Rattle.control_flow.specs.World.{World, Run, Gives, Fails, and_then, taking_turn_of}
use Rattle.control_flow.specs.Control.{Breaks, Calls, Computes, Continues, Does, End, GoesOn, Returns, deciding, followed_by, going_on, leaving_switch, loop, looping, nothing, round}
use Rattle.typed_tree.specs.declared.expression.TExpr.{TExpr}
use Rattle.typed_tree.specs.declared.statement.TStmt.{TStmt, Row_of-TStmt, end_of-TStmt, more_of-TStmt}
use Rattle.typed_tree.specs.declared.statement.TStmt.TheVariants.{Empty, Block', If', Switch', Break, Continue, Return, Eval, Write, Send, Copy, Halt, Set, Cancel}
use Rattle.typed_tree.specs.declared.statement.TStmt.TheBlock.{Held-TStmt-If-1, Row_of-TArm, end_of-TArm, more_of-TArm, Row_of-TGroup, end_of-TGroup, more_of-TGroup}
use Rattle.typed_tree.specs.Forms.{Do, For, NoPart, Part, While}
use Rattle.typed_tree.specs.Expression.{Setting, value_of}
use Rattle.typed_tree.specs.Memory.{Memory}
use Rattle.typed_tree.specs.Program.{runs}
use Rattle.typed_tree.specs.Shape.{arms_go_on, body_goes_on, goes_on, last_goes_on, part_goes_on}
use Rattle.typed_tree.specs.SoundStatement.{AreSoundArms, AreSoundGroups, AreSoundStmts, Around, IsSoundPart, IsSoundStmt, in_switch}
use Rattle.typed_tree.specs.Statement.{arms_of, for_test, groups_of, group_for, labels_of, numbers_of, part_of, returns, sets, stmt_of, stmts_of, writes}

-- an end that a part of a procedure may have, by what it stands in and whether control may come to its end
abbrev pub IsAllowed : Around → Bool → End → Type 0
IsAllowed around goes GoesOn = IsTrue goes
IsAllowed around goes Breaks = IsTrue around.breakable
IsAllowed around goes Continues = IsTrue around.continuable
IsAllowed around goes (Returns n) = ⊤

-- a part of a procedure ends only so, where it ends in one of these ways
abbrev pub EndsOnlySo : (End → Type 0) → Run Memory End → Type 0
EndsOnlySo IsSo (Gives e w) = IsSo e
EndsOnlySo IsSo (Fails outcome w) = ⊤

-- a part of a procedure ends only as it may, from any world
abbrev pub EndsAllowed : Around → Bool → Does Memory → Type 0
EndsAllowed around goes does = (w : World Memory) → EndsOnlySo (IsAllowed around goes) (does w)

-- what is done behind something ends so
so_behind : {A : Type 0} (IsSo : End → Type 0) (run : Run Memory A) (next : A → World Memory → Run Memory End) →
    ((a : A) (w : World Memory) → EndsOnlySo IsSo (next a w)) → EndsOnlySo IsSo (and_then run next)
so_behind IsSo (Gives a w) next h = h a w
so_behind IsSo (Fails o w) next h = tt

-- what is done behind a part that ends in a way
so_then : (IsSo Then : End → Type 0) (run : Run Memory End) (next : End → World Memory → Run Memory End) → EndsOnlySo IsSo run →
    ((e : End) (w : World Memory) → IsSo e → EndsOnlySo Then (next e w)) → EndsOnlySo Then (and_then run next)
so_then IsSo Then (Gives e w) next h k = k e w h
so_then IsSo Then (Fails o w) next h k = tt

so_if : (IsSo : End → Type 0) (b : Bool) (one other : Run Memory End) → EndsOnlySo IsSo one → EndsOnlySo IsSo other → EndsOnlySo IsSo (if b then one else other)
so_if IsSo true one other h k = h
so_if IsSo false one other h k = k

so_deciding : (IsSo : End → Type 0) (test : Run Memory ℤ) (one other : Does Memory) → ((w : World Memory) → EndsOnlySo IsSo (one w)) →
    ((w : World Memory) → EndsOnlySo IsSo (other w)) → EndsOnlySo IsSo (deciding test one other)
so_deciding IsSo test one other h k = so_behind IsSo test _ (λ n w. so_if IsSo (int_eq n (pos 0)) _ _ (k w) (h w))

so_turn_of : (IsSo : End → Type 0) (n : ℕ) (w : World Memory) (next : Does Memory) → ((w : World Memory) → EndsOnlySo IsSo (next w)) →
    EndsOnlySo IsSo (taking_turn_of n w next)
so_turn_of IsSo zero w next h = tt
so_turn_of IsSo (suc n) w next h = h (record w { turns = n })

-- it may be in more ways
allowed_or : (around : Around) (a b : Bool) (e : End) → IsAllowed around a e → IsAllowed around (a || b) e
allowed_or around true b GoesOn h = refl
allowed_or around false b GoesOn h = absurd (let f : false ≡ true = h in cc)
allowed_or around a b Breaks h = h
allowed_or around a b Continues h = h
allowed_or around a b (Returns n) h = tt

or_allowed : (around : Around) (a b : Bool) (e : End) → IsAllowed around b e → IsAllowed around (a || b) e
or_allowed around true b GoesOn h = refl
or_allowed around false b GoesOn h = h
or_allowed around a b Breaks h = h
or_allowed around a b Continues h = h
or_allowed around a b (Returns n) h = tt

so_more : (IsSo Then : End → Type 0) (run : Run Memory End) → ((e : End) → IsSo e → Then e) → EndsOnlySo IsSo run → EndsOnlySo Then run
so_more IsSo Then (Gives e w) f h = f e h
so_more IsSo Then (Fails o w) f h = tt

-- what follows where a part goes on, and ends as it may itself
so_going_on : (around : Around) (before goes : Bool) (next : Does Memory) (e : End) (w : World Memory) → IsAllowed around before e →
    (IsTrue before → EndsAllowed around goes next) → EndsOnlySo (IsAllowed around goes) (going_on next e w)
so_going_on around before goes next GoesOn w h k = k h w
so_going_on around before goes next Breaks w h k = h
so_going_on around before goes next Continues w h k = h
so_going_on around before goes next (Returns n) w h k = tt

so_followed : (around : Around) (before goes : Bool) (first second : Does Memory) → EndsAllowed around before first →
    (IsTrue before → EndsAllowed around goes second) → EndsAllowed around goes (followed_by first second)
so_followed around before goes first second h k w =
    so_then (IsAllowed around before) (IsAllowed around goes) (first w) (going_on second) (h w)
    (λ e w1 allowed. so_going_on around before goes second e w1 allowed k)

so_looping : (around : Around) (before : Bool) (again : Does Memory) (e : End) (w : World Memory) → EndsAllowed around true again →
    EndsOnlySo (IsAllowed around true) (looping again e w)
so_looping around before again GoesOn w k = k w
so_looping around before again Breaks w k = refl
so_looping around before again Continues w k = k w
so_looping around before again (Returns n) w k = tt

so_round : (around : Around) (body again : Does Memory) → EndsAllowed around true again → EndsAllowed around true (round body again)
so_round around body again k w = so_turn_of (IsAllowed around true) w.turns w _
    (λ w. so_behind (IsAllowed around true) (body w) (looping again) (λ e w. so_looping around true again e w k))

-- a loop goes on, or returns, and does what its third part may
so_loop : (around : Around) (n : ℕ) (test : Computes Memory) (body step : Does Memory) (before : Bool) → EndsAllowed around before step →
    EndsAllowed around true (loop n test body step)
so_loop around zero test body step before h w = tt
so_loop around (suc n) test body step before h w = so_deciding (IsAllowed around true) (test w) _ _
    (so_round around body _ (so_followed around before true step _ h (λ _. so_loop around n test body step before h))) (λ w. refl)

so_leaving : (around : Around) (before : Bool) (e : End) (w : World Memory) → IsAllowed (in_switch around) before e →
    EndsOnlySo (IsAllowed around true) (leaving_switch e w)
so_leaving around before GoesOn w h = refl
so_leaving around before Breaks w h = refl
so_leaving around before Continues w h = h
so_leaving around before (Returns n) w h = tt

module _ (s : Setting) (call : Calls Memory) (n : ℕ) where
  so_returns : (around : Around) (goes : Bool) (value : Option TExpr) → EndsAllowed around goes (returns s call value)
  so_returns around goes None w = tt
  so_returns around goes (Some e) w = so_behind (IsAllowed around goes) (value_of s call e w) _ (λ n w. tt)

  mutual
    -- a sound statement ends as it may
    pub stmt_allowed : (st : TStmt) (around : Around) → IsSoundStmt s.typed around st → EndsAllowed around (goes_on st) (stmt_of s call n st)
    stmt_allowed Empty around sound w = refl
    stmt_allowed (Block' shape all) around sound w = stmts_allowed all around true refl sound.1 w
    stmt_allowed (If' shape arms other) around sound w =
        arms_allowed arms around (part_goes_on other) _ sound.1 (part_allowed other around sound.2) w
    stmt_allowed (While test body) around sound w = so_loop around (suc n) (value_of s call test) (stmt_of s call n body) nothing true (λ w. refl) w
    stmt_allowed (Do body test) around sound w = so_round around (stmt_of s call n body) _ (so_loop around n (value_of s call test) (stmt_of s call n body) nothing true (λ w. refl)) w
    stmt_allowed (For init test step body) around sound w =
        so_followed around (part_goes_on init) true _ _ (part_allowed init around sound.1)
        (λ _. so_loop around (suc n) (for_test s call test) (stmt_of s call n body) (part_of s call n step) (part_goes_on step) (part_allowed step around sound.3)) w
    stmt_allowed (Switch' on shape groups) around sound w = so_behind (IsAllowed around true) (value_of s call on w) _
        (λ v w. so_then (IsAllowed (in_switch around) true) (IsAllowed around true) _ leaving_switch
        (groups_allowed groups (group_for v (labels_of groups)) (in_switch around) sound.2 w)
        (λ e w h. so_leaving around true e w h))
    stmt_allowed Break around sound w = sound.leaves
    stmt_allowed Continue around sound w = sound.leaves
    stmt_allowed (Return value) around sound w = so_returns around false value w
    stmt_allowed (Eval e) around sound w =
        so_behind (IsAllowed around true) (value_of s call e w) (λ n w. Gives GoesOn w) (λ n w. refl)
    stmt_allowed (Write format args) around sound w = so_behind (IsAllowed around true) (numbers_of s call args w) (writes s format) (λ ns w. refl)
    stmt_allowed (Send at) around sound w = refl
    stmt_allowed (Copy to from) around sound w = refl
    stmt_allowed Halt around sound w = refl
    stmt_allowed (Set timer cyclic e) around sound w =
        so_behind (IsAllowed around true) (value_of s call e w) (sets s timer cyclic) (λ n w. refl)
    stmt_allowed (Cancel timer) around sound w = refl

    -- statements in a row end as the last one may
    stmts_allowed : {m : Count} (all : Row_of-TStmt m) (around : Around) (before : Bool) → IsTrue before → AreSoundStmts s.typed around all →
        EndsAllowed around (last_goes_on before all) (stmts_of s call n all)
    stmts_allowed end_of-TStmt around before goes sound w = goes
    stmts_allowed (more_of-TStmt st rest) around before goes sound w =
        so_followed around (goes_on st) (last_goes_on (goes_on st) rest) _ _ (stmt_allowed st around sound.0)
        (λ went. stmts_allowed rest around (goes_on st) went sound.1) w

    -- the arms of an `if` end as one of them may, or as what stands behind them
    arms_allowed : {m : Count} (arms : Row_of-TArm m) (around : Around) (goes : Bool) (other : Does Memory) → AreSoundArms s.typed around arms →
        EndsAllowed around goes other → EndsAllowed around (arms_go_on arms goes) (arms_of s call n arms other)
    arms_allowed end_of-TArm around goes other sound h w = h w
    arms_allowed (more_of-TArm test body rest) around goes other sound h w =
        so_deciding (IsAllowed around (goes_on body || arms_go_on rest goes)) (value_of s call test w) _ _
        (λ w. so_more (IsAllowed around (goes_on body)) _ _ (allowed_or around (goes_on body) (arms_go_on rest goes))
        (stmt_allowed body around sound.1 w))
        (λ w. so_more (IsAllowed around (arms_go_on rest goes)) _ _ (or_allowed around (goes_on body) (arms_go_on rest goes))
        (arms_allowed rest around goes other sound.2 h w))

    -- a part that may be missing
    part_allowed : (part : Held-TStmt-If-1) (around : Around) → IsSoundPart s.typed around part →
        EndsAllowed around (part_goes_on part) (part_of s call n part)
    part_allowed NoPart around sound w = refl
    part_allowed (Part part) around sound w = stmt_allowed part around sound w

    -- the groups of a `switch`
    groups_allowed : {m : Count} (groups : Row_of-TGroup m) (k : ℕ) (around : Around) → AreSoundGroups s.typed around groups →
        EndsAllowed around true (groups_of s call n groups k)
    groups_allowed end_of-TGroup k around sound w = refl
    groups_allowed (more_of-TGroup labels shape body rest) zero around sound w =
        so_followed around (last_goes_on true body) true _ _ (stmts_allowed body around true refl sound.1) (λ _. groups_allowed rest zero around sound.2) w
    groups_allowed (more_of-TGroup labels shape body rest) (suc k) around sound w = groups_allowed rest k around sound.2 w

  -- the statements of a procedure end as the last one may
  pub body_allowed : (body : List TStmt) (around : Around) (before : Bool) → IsTrue before → AllByRecursion (IsSoundStmt s.typed around) body →
      EndsAllowed around (body_goes_on before body) (runs s call n body)
  body_allowed [] around before goes sound w = goes
  body_allowed (st ∷ rest) around before goes sound w =
      so_followed around (goes_on st) (body_goes_on (goes_on st) rest) _ _ (stmt_allowed st around sound.0)
      (λ went. body_allowed rest around (goes_on st) went sound.1) w
