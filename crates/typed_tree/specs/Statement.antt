-- What the statements of a typed program mean (CAPL manual, statements, write, output, timers, stop).
use Rattle.std.specs.Prelude.{ℕ, zero, suc, Bool, true, false, if◌then◌else◌, List, [], ◌∷◌, length, slice_get, slice_index_or, position, Option, Some, None, unwrap_or, ℤ, pos}
use Rattle.std.specs.List.{list_any}
use Rattle.std.specs.Option.{option_map_or}
use Rattle.std.specs.Ordering.{int_eq}
use Rattle.write_format.specs.Line.{FormatText, rendered}
use Rattle.run_effects.specs.Effect.{micros}
use Rattle.run_effects.specs.Effect as effect
use Rattle.message_cells.specs.Message.{frame_of, message_of, with_message}
use Rattle.control_flow.specs.World.{World, Run, Gives, and_then, run_map, after_effect}
use Rattle.control_flow.specs.Control.{Calls, Computes, Does, GoesOn, Breaks, Continues, Returns, deciding, for_loop, do_loop, followed_by, leaving_switch, nothing, while_loop}
use Rattle.typed_tree.specs.declared.expression.TExpr.{TExpr}
use Rattle.typed_tree.specs.declared.statement.TStmt.{TStmt, Row_of-TStmt, end_of-TStmt, more_of-TStmt}
use Rattle.typed_tree.specs.declared.statement.TStmt.TheVariants.{Empty, Block', If', Switch', Break, Continue, Return, Eval, Write, Send, Copy, Halt, Set, Cancel}
use Rattle.typed_tree.specs.declared.statement.TStmt.TheBlock.{Held-TStmt-If-1, Row_of-TArm, end_of-TArm, more_of-TArm, Row_of-TGroup, end_of-TGroup, more_of-TGroup}
use Rattle.typed_tree.specs.Forms.{Do, For, NoPart, Part, While}
use Rattle.typed_tree.specs.Memory.{Memory, with_cells, with_timer}
use Rattle.typed_tree.specs.Expression.{Setting, value_of}

-- the numbers that expressions give, in order
abbrev pub numbers_of : Setting → Calls Memory → List TExpr → World Memory → Run Memory (List ℤ)
numbers_of s call [] w = Gives [] w
numbers_of s call (e ∷ rest) w =
    and_then (value_of s call e w) (λ n w. run_map (λ ns. n ∷ ns) (numbers_of s call rest w))

-- what changes in the world, unless the measurement has ended
abbrev pub unless_closed : Setting → (World Memory → World Memory) → Does Memory
unless_closed s change w = Gives GoesOn (if s.closed then w else change w)

-- the world after the line of a format with numbers
abbrev pub with_line : List ℤ → World Memory → FormatText → World Memory
with_line ns w format = after_effect (effect.Line (rendered format ns w.memory.cells)) w

-- writes the line of a format with numbers
abbrev pub writes : Setting → ℕ → List ℤ → Does Memory
writes s format ns w =
    Gives GoesOn (option_map_or (with_line ns w) (slice_get s.typed.formats format) w)

-- sends the frame of the message at a cell
abbrev pub sends : Setting → ℕ → Does Memory
sends s at = unless_closed s (λ w. after_effect (effect.Send (frame_of (message_of at w.memory.cells))) w)

-- copies the message at one cell to another
abbrev pub copies : ℕ → ℕ → Does Memory
copies to from w =
    Gives GoesOn (with_cells (with_message to (message_of from w.memory.cells) w.memory.cells) w)

-- sets a timer to a duration in its unit
abbrev pub sets : Setting → ℕ → Bool → ℤ → Does Memory
sets s timer cyclic n =
    let duration : ℕ = micros (slice_index_or s.typed.timers timer 0) n in
    unless_closed s (λ w. after_effect (effect.Set timer duration cyclic) (with_timer timer true w))

-- cancels a timer
abbrev pub cancels : Setting → ℕ → Does Memory
cancels s timer = unless_closed s (λ w. after_effect (effect.Cancel timer) (with_timer timer false w))

-- returns a number, or 0 where there is none
abbrev pub returns : Setting → Calls Memory → Option TExpr → Does Memory
returns s call None w = Gives (Returns (pos 0)) w
returns s call (Some e) w = run_map Returns (value_of s call e w)

-- the test of a `for`; where there is none it goes on
abbrev pub for_test : Setting → Calls Memory → Option TExpr → Computes Memory
for_test s call None w = Gives (pos 1) w
for_test s call (Some e) w = value_of s call e w

-- two labels are the same, where none stands for `default`
abbrev pub same_label : Option ℤ → Option ℤ → Bool
same_label None None = true
same_label (Some m) (Some n) = int_eq m n
same_label _ _ = false

-- the labels of each group
abbrev pub labels_of : {m : _} → Row_of-TGroup m → List (List (Option ℤ))
labels_of end_of-TGroup = []
labels_of (more_of-TGroup labels shape body rest) = labels ∷ labels_of rest

-- the number of the first group that has a label
abbrev pub group_with : Option ℤ → List (List (Option ℤ)) → Option ℕ
group_with label groups = position (list_any (same_label label)) groups

-- the number of the first group with `default`, else behind the last
abbrev pub default_group : List (List (Option ℤ)) → ℕ
default_group groups = unwrap_or (group_with None groups) (length groups)

-- the number of the group that a value leads to: the first that has it as a label, else the first with
-- `default`, else behind the last
abbrev pub group_for : ℤ → List (List (Option ℤ)) → ℕ
group_for n groups = unwrap_or (group_with (Some n) groups) (default_group groups)

abbrev mutual
  -- what a statement does, where calls do what `call` says and at most n turns are left
  pub stmt_of : Setting → Calls Memory → ℕ → TStmt → Does Memory
  stmt_of s call n Empty w = Gives GoesOn w
  stmt_of s call n (Block' shape all) w = stmts_of s call n all w
  stmt_of s call n (If' shape arms other) w = arms_of s call n arms (part_of s call n other) w
  stmt_of s call n (While test body) w = while_loop n (value_of s call test) (stmt_of s call n body) w
  stmt_of s call n (Do body test) w = do_loop n (stmt_of s call n body) (value_of s call test) w
  stmt_of s call n (For init test step body) w =
      for_loop n (part_of s call n init) (for_test s call test)
      (part_of s call n step) (stmt_of s call n body) w
  stmt_of s call n (Switch' on shape groups) w =
      and_then (value_of s call on w) (λ v w.
      and_then (groups_of s call n groups (group_for v (labels_of groups)) w) leaving_switch)
  stmt_of s call n Break w = Gives Breaks w
  stmt_of s call n Continue w = Gives Continues w
  stmt_of s call n (Return value) w = returns s call value w
  stmt_of s call n (Eval e) w = run_map (λ _. GoesOn) (value_of s call e w)
  stmt_of s call n (Write format args) w = and_then (numbers_of s call args w) (writes s format)
  stmt_of s call n (Send at) w = sends s at w
  stmt_of s call n (Copy to from) w = copies to from w
  stmt_of s call n Halt w = unless_closed s (after_effect effect.Stop) w
  stmt_of s call n (Set timer cyclic e) w = and_then (value_of s call e w) (sets s timer cyclic)
  stmt_of s call n (Cancel timer) w = cancels s timer w

  -- statements in a row
  pub stmts_of : Setting → Calls Memory → ℕ → {m : _} → Row_of-TStmt m → Does Memory
  stmts_of s call n end_of-TStmt w = nothing w
  stmts_of s call n (more_of-TStmt first rest) w =
      followed_by (stmt_of s call n first) (stmts_of s call n rest) w

  -- the arms of an `if`, and what is done where the test of each is 0
  pub arms_of : Setting → Calls Memory → ℕ → {m : _} → Row_of-TArm m → Does Memory → Does Memory
  arms_of s call n end_of-TArm other w = other w
  arms_of s call n (more_of-TArm test body rest) other w =
      deciding (value_of s call test w) (stmt_of s call n body) (arms_of s call n rest other)

  -- a part of a statement that may be missing
  pub part_of : Setting → Calls Memory → ℕ → Held-TStmt-If-1 → Does Memory
  part_of s call n NoPart w = nothing w
  part_of s call n (Part part) w = stmt_of s call n part w

  -- the groups of a `switch` from one on, by its number
  pub groups_of : Setting → Calls Memory → ℕ → {m : _} → Row_of-TGroup m → ℕ → Does Memory
  groups_of s call n end_of-TGroup k w = nothing w
  groups_of s call n (more_of-TGroup labels shape body rest) zero w =
      followed_by (stmts_of s call n body) (groups_of s call n rest zero) w
  groups_of s call n (more_of-TGroup labels shape body rest) (suc k) w = groups_of s call n rest k w
