-- Code that does nothing and has the tables of a program keeps the verifier's rules exactly where the tables do.
use Rattle.std.proofs.Common.{◌≡◌, ◌≢◌, ℕ, zero, suc, ◌<◌, ◌^◌, false, List, [], ◌∷◌, ◌++◌, length, Some, None, slice_get, refl, sym, ap, subst, arith}
use Rattle.std.specs.Prelude.{All, AllPairs, map}
use Rattle.std.specs.List.{cons_option}
use Rattle.std.proofs.lemmas.List.Elements.{All-nil, All-cons, All-head, All-tail}
use Rattle.run_effects.specs.Effect.{KeepsSelectors, KeepsTimers, key_of, selectors_of, timer_of}
use Rattle.bytecode.specs.declared.code.Fun.{Fun}
use Rattle.bytecode.specs.declared.code.Handler.{Handler}
use Rattle.bytecode.specs.declared.instr.Instr.{Instr}
use Rattle.bytecode.specs.declared.instr.Instr.TheVariants.{Ret}
use Rattle.bytecode.specs.Failure.{FailsFirstAt, layout, rule, tables}
use Rattle.bytecode.specs.Rule.{KeepsRule}
use Rattle.bytecode.specs.Tables.{GivesNothing}
use Rattle.bytecode.specs.Tables as code_tables
use Rattle.bytecode.specs.Verified.{IsLaidOut, IsShortCode, KeepsAllRules}
use Rattle.typed_tree.specs.declared.program.THandler.{THandler}
use Rattle.typed_tree.specs.declared.program.Typed.{Typed}
use Rattle.typed_tree.specs.Sound.{IsShortProgram, all_keys, all_selectors, all_timers}
use Rattle.sound_check.specs.Tables.{HaveFewSelectors, KeepsTables, idle, idle_code_of}

-- the event procedures react to the same
idle_selectors : (all : List THandler) → code_tables.all_selectors (map idle all) ≡ all_selectors all
idle_selectors [] = refl
idle_selectors (handler ∷ rest) = ap (λ ss. selectors_of handler.event ++ ss) (idle_selectors rest)

idle_timers : (all : List THandler) → code_tables.all_timers (map idle all) ≡ all_timers all
idle_timers [] = refl
idle_timers (handler ∷ rest) = ap (λ ts. cons_option (timer_of handler.event) ts) (idle_timers rest)

idle_keys : (all : List THandler) → code_tables.all_keys (map idle all) ≡ all_keys all
idle_keys [] = refl
idle_keys (handler ∷ rest) = ap (λ ks. cons_option (key_of handler.event) ks) (idle_keys rest)

-- there are as many
idle_length : (all : List THandler) → length (map idle all) ≡ length all
idle_length [] = refl
idle_length (handler ∷ rest) = ap suc (idle_length rest)

-- an event procedure runs a function that gives nothing
abbrev RunsNothing : List Fun → Handler → Type 0
RunsNothing functions handler = GivesNothing functions handler.function

-- each runs the function that gives nothing
idle_give_nothing : (functions : List Fun) → GivesNothing functions 0 → (all : List THandler) →
    All (RunsNothing functions) (map idle all)
idle_give_nothing functions nothing [] = All-nil (RunsNothing functions)
idle_give_nothing functions nothing (handler ∷ rest) =
    All-cons (RunsNothing functions) (idle handler) (map idle rest) nothing (idle_give_nothing functions nothing rest)

-- an event procedure has few selectors
abbrev HasFew : Handler → Type 0
HasFew handler = length (selectors_of handler.event) < 2 ^ 32

abbrev HasFewInTree : THandler → Type 0
HasFewInTree handler = length (selectors_of handler.event) < 2 ^ 32

-- no one has many selectors
idle_few : (all : List THandler) → All HasFewInTree all → All HasFew (map idle all)
idle_few [] h = All-nil HasFew
idle_few (handler ∷ rest) h =
    All-cons HasFew (idle handler) (map idle rest) (All-head HasFewInTree handler rest h)
    (idle_few rest (All-tail HasFewInTree handler rest h))

-- no list of the code is too long
pub idle_short : (typed : Typed) → IsShortProgram typed → HaveFewSelectors typed.handlers →
    IsShortCode (idle_code_of typed)
idle_short typed short few =
    let Short : ℕ → Type 0 = λ n. n < 2 ^ 32 in
    record {
      instrs = omega arith;
      depths = omega arith;
      functions = omega arith;
      handlers = subst Short (sym (idle_length typed.handlers)) short.handlers;
      selectors = idle_few typed.handlers few;
      cells = short.cells;
      starts = short.starts;
      timers = short.timers;
      formats = short.formats;
      texts = short.texts;
    }

-- its one function covers its one instruction
idle_laid_out : (typed : Typed) → IsLaidOut (idle_code_of typed)
idle_laid_out typed = record { covered = (refl, omega arith, refl); depths = refl }

-- there is one function
only_one : (the : Fun) (number : ℕ) (function : Fun) → slice_get (the ∷ []) number ≡ Some function → function ≡ the
only_one the zero function h = let e : Some the ≡ Some function = h in cc
only_one the (suc n) function h = let e : None ≡ Some function = h in absurd (cc)

-- the rule of its one instruction holds
idle_rules : (typed : Typed) → KeepsAllRules (idle_code_of typed)
idle_rules typed place below number function instr depth is_function inside is_instr is_depth =
    let first : place ≡ 0 = omega arith in
    let the : Fun = record { start = 0; end = 1; gives = false } in
    let code = idle_code_of typed in
    let Instrs : ℕ → Type 0 = λ n. slice_get code.instrs n ≡ Some instr in
    let Depths : ℕ → Type 0 = λ n. slice_get code.depths n ≡ Some depth in
    let same_instr : instr ≡ Ret = let h : Some Ret ≡ Some instr = subst Instrs first is_instr in cc in
    let same_depth : depth ≡ 0 = let h : Some 0 ≡ Some depth = subst Depths first is_depth in cc in
    let same_function : function ≡ the = only_one the number function is_function in
    let P : ℕ → Type 0 = λ place. KeepsRule code number function place instr depth in
    let Q : Fun → Type 0 = λ function. KeepsRule code number function 0 instr depth in
    let R : Instr → Type 0 = λ instr. KeepsRule code number the 0 instr depth in
    let S : ℕ → Type 0 = λ depth. KeepsRule code number the 0 Ret depth in
    let rule : S 0 = record {
      depth_in_range = omega arith;
      begins_empty = λ _. refl;
      takes_what_is_there = omega arith;
      targets_agree = tt;
      goes_the_right_way = tt;
      calls_earlier = tt;
      returns_as_it_says = refl;
      names_exist = tt;
    } in
    subst P (sym first) (subst Q (sym same_function) (subst R (sym same_instr) (subst S (sym same_depth) rule)))

-- its tables keep their rules where those of the program do
pub idle_keeps : (typed : Typed) → KeepsTables typed → code_tables.KeepsTables (idle_code_of typed)
idle_keeps typed keeps = record {
  event_cells = keeps.event_cells;
  starts_held = keeps.starts_held;
  handlers = record {
    give_nothing = idle_give_nothing (idle_code_of typed).functions refl typed.handlers;
    selectors = subst KeepsSelectors (sym (idle_selectors typed.handlers)) keeps.selectors;
    timers = subst (λ ts. KeepsTimers ts (length typed.timers)) (sym (idle_timers typed.handlers)) keeps.timers;
    keys_differ = subst (λ ks. AllPairs (λ a b. a ≢ b) ks) (sym (idle_keys typed.handlers)) keeps.keys_differ;
  };
  units = keeps.units;
  arrays_exist = keeps.arrays_exist;
}

-- the tables of a program keep their rules where those of the code do
pub kept_of_idle : (typed : Typed) → code_tables.KeepsTables (idle_code_of typed) → KeepsTables typed
kept_of_idle typed keeps = record {
  event_cells = keeps.event_cells;
  starts_held = keeps.starts_held;
  units = keeps.units;
  arrays_exist = keeps.arrays_exist;
  selectors = subst KeepsSelectors (idle_selectors typed.handlers) keeps.handlers.selectors;
  timers = subst (λ ts. KeepsTimers ts (length typed.timers)) (idle_timers typed.handlers) keeps.handlers.timers;
  keys_differ = subst (λ ks. AllPairs (λ a b. a ≢ b) ks) (idle_keys typed.handlers) keeps.handlers.keys_differ;
}

-- where the code fails a rule, it is one of the tables
pub idle_fails : (typed : Typed) (place : ℕ) → FailsFirstAt (idle_code_of typed) place → KeepsTables typed → ⊥
idle_fails typed place (layout fails at) keeps = fails (idle_laid_out typed)
idle_fails typed place (rule laid below fails earlier) keeps = fails (idle_rules typed place below)
idle_fails typed place (tables laid rules fails at) keeps = fails (idle_keeps typed keeps)
