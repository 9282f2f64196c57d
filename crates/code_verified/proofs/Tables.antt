-- The tables of the code of a sound program keep their rules, and its lists are short.
use Rattle.std.proofs.Common.{◌≡◌, ◌≢◌, ℕ, suc, ◌+◌, ◌<◌, ◌≤◌, ◌^◌, false, List, [], ◌∷◌, ◌++◌, length, Some, slice_get, refl, sym, ap, subst, arith}
use Rattle.std.specs.Prelude.{All, AllPairs, IsSomeAnd}
use Rattle.std.specs.List.{AllByRecursion, cons_option}
use Rattle.std.proofs.lemmas.List.Elements.{All-from_recursion}
use Rattle.write_format.specs.Line.{IsCharArray, FormatText, IsShort, char_arrays}
use Rattle.run_effects.specs.Effect.{IsUnit, KeepsSelectors, KeepsTimers, key_of, selectors_of, timer_of}
use Rattle.message_cells.specs.Cells.{BeginWithEvent, IsHeldStart}
use Rattle.bytecode.specs.declared.code.Code.{Code}
use Rattle.bytecode.specs.declared.code.Fun.{Fun}
use Rattle.bytecode.specs.declared.code.Handler.{Handler}
use Rattle.bytecode.specs.Tables.{GivesNothing, KeepsHandlers, KeepsTables, all_keys, all_selectors, all_timers}
use Rattle.bytecode.specs.Verified.{Cover, IsShortCode}
use Rattle.typed_tree.specs.declared.program.THandler.{THandler}
use Rattle.typed_tree.specs.declared.program.Typed.{Typed}
use Rattle.typed_tree.specs.Size.{size}
use Rattle.typed_tree.specs.Sound.{IsSound, IsSoundHandler}
use Rattle.typed_tree.specs.Sound.{all_keys as tree_keys}
use Rattle.typed_tree.specs.Sound.{all_selectors as tree_selectors}
use Rattle.typed_tree.specs.Sound.{all_timers as tree_timers}
use Rattle.code_listing.specs.Program.{IsCodeOf, handler_table}
use Rattle.code_listing.proofs.ProgramStands.{handler_listed}
use Rattle.code_verified.proofs.Programs.{all_at, depths_long, instrs_long, laid_out}

-- the table of event procedures has their events
table_selectors : (all : List THandler) (number : ℕ) → all_selectors (handler_table all number) ≡ tree_selectors all
table_selectors [] number = refl
table_selectors (handler ∷ rest) number = ap (λ ss. selectors_of handler.event ++ ss) (table_selectors rest (number + 1))

table_timers : (all : List THandler) (number : ℕ) → all_timers (handler_table all number) ≡ tree_timers all
table_timers [] number = refl
table_timers (handler ∷ rest) number = ap (λ ts. cons_option (timer_of handler.event) ts) (table_timers rest (number + 1))

table_keys : (all : List THandler) (number : ℕ) → all_keys (handler_table all number) ≡ tree_keys all
table_keys [] number = refl
table_keys (handler ∷ rest) number = ap (λ ks. cons_option (key_of handler.event) ks) (table_keys rest (number + 1))

-- it is as long
table_length : (all : List THandler) (number : ℕ) → length (handler_table all number) ≡ length all
table_length [] number = refl
table_length (handler ∷ rest) number = ap suc (table_length rest (number + 1))

-- what holds of each function that it names, and of each event
functions_named : (P : ℕ → Type 0) (all : List THandler) (number : ℕ) →
    ((k : ℕ) (handler : THandler) → slice_get all k ≡ Some handler → P (number + k)) →
    AllByRecursion (λ (handler : Handler). P handler.function) (handler_table all number)
functions_named P [] number h = tt
functions_named P (handler ∷ rest) number h = (
  (let here : number + 0 ≡ number = omega arith in subst P here (h 0 handler refl)),
  functions_named P rest (number + 1) (λ k other e.
      let there : number + suc k ≡ number + 1 + k = omega arith in subst P there (h (suc k) other e)),
)

short_selectors : (typed : Typed) (all : List THandler) (number : ℕ) →
    ((k : ℕ) (handler : THandler) → slice_get all k ≡ Some handler → IsSoundHandler typed handler) →
    AllByRecursion (λ (handler : Handler). length (selectors_of handler.event) < 2 ^ 32) (handler_table all number)
short_selectors typed [] number h = tt
short_selectors typed (handler ∷ rest) number h = (
  (h 0 handler refl).few_selectors,
  short_selectors typed rest (number + 1) (λ k other e. h (suc k) other e),
)

-- functions that cover places are no more than these
cover_few : (from : ℕ) (functions : List Fun) (end : ℕ) → Cover from functions end → from + length functions ≤ end
cover_few from [] end h = omega (arith, h)
cover_few from (f ∷ fs) end h = omega (arith, h.1, cover_few f.end fs end h.2)

module _ (typed : Typed) (code : Code) (sound : IsSound typed) (few : size typed ≤ 1000000) (is : IsCodeOf typed code) where
  -- the table of event procedures keeps its rules
  handlers_keep : KeepsHandlers code
  handlers_keep =
      let all : code.handlers ≡ handler_table typed.handlers (length typed.functions) = is.handlers in
      record {
        give_nothing = subst (λ (hs : List Handler). All (λ (handler : Handler). GivesNothing code.functions handler.function) hs)
            (sym all) (All-from_recursion _ _
            (functions_named (λ number. GivesNothing code.functions number) typed.handlers (length typed.functions)
            (λ k handler e. gives_nothing k handler e)));
        selectors = subst (λ (hs : List Handler). KeepsSelectors (all_selectors hs)) (sym all)
            (subst (λ ss. KeepsSelectors ss) (sym (table_selectors typed.handlers _)) sound.selectors);
        timers = subst (λ (hs : List Handler). KeepsTimers (all_timers hs) (length code.timers)) (sym all)
            (subst (λ (us : List ℕ). KeepsTimers (all_timers (handler_table typed.handlers (length typed.functions))) (length us)) (sym is.timers)
            (subst (λ ts. KeepsTimers ts (length typed.timers)) (sym (table_timers typed.handlers _)) sound.timers));
        keys_differ = subst (λ (hs : List Handler). AllPairs (λ a b. a ≢ b) (all_keys hs)) (sym all)
            (subst (λ ks. AllPairs (λ a b. a ≢ b) ks) (sym (table_keys typed.handlers _)) sound.keys_differ);
      }
    where
      gives_nothing : (k : ℕ) (handler : THandler) → slice_get typed.handlers k ≡ Some handler →
          GivesNothing code.functions (length typed.functions + k)
      gives_nothing k handler e =
          let listed = handler_listed code typed is k handler e in
          subst (λ o. IsSomeAnd o (λ (function : Fun). function.gives ≡ false)) (sym listed.listed) refl

  -- and so does each other table
  pub tables_keep : KeepsTables code
  tables_keep = record {
    event_cells = subst BeginWithEvent (sym is.cells) sound.event_cells;
    starts_held = subst (λ starts. All (IsHeldStart code.cells) starts) (sym is.starts)
        (subst (λ kinds. All (IsHeldStart kinds) typed.starts) (sym is.cells) sound.starts_held);
    handlers = handlers_keep;
    units = subst (λ units. All IsUnit units) (sym is.timers) sound.units;
    arrays_exist = subst (λ (formats : List FormatText). All (λ format. All (IsCharArray code.cells) (char_arrays format)) formats)
        (sym is.formats)
        (subst (λ kinds. All (λ format. All (IsCharArray kinds) (char_arrays format)) typed.formats) (sym is.cells)
        sound.arrays_exist);
  }

  -- no list of the code is too long
  pub short : IsShortCode code
  short = record {
    instrs = omega (arith, instrs_long typed code sound few is);
    depths = omega (arith, depths_long typed code sound few is);
    functions = omega (
      arith,
      cover_few 0 code.functions (length code.instrs) (laid_out typed code sound few is).covered,
      instrs_long typed code sound few is,
    );
    handlers = omega (arith, sound.short.handlers, ap length is.handlers, table_length typed.handlers (length typed.functions));
    selectors = subst (λ (hs : List Handler). All (λ (handler : Handler). length (selectors_of handler.event) < 2 ^ 32) hs)
        (sym is.handlers) (All-from_recursion _ _ (short_selectors typed typed.handlers (length typed.functions)
        (λ k handler e. all_at (IsSoundHandler typed) typed.handlers sound.handlers k handler e)));
    cells = omega (arith, sound.short.cells, ap length is.cells);
    starts = omega (arith, sound.short.starts, ap length is.starts);
    timers = omega (arith, sound.short.timers, ap length is.timers);
    formats = omega (arith, sound.short.formats, ap length is.formats);
    texts = subst (λ (formats : List FormatText). All IsShort formats) (sym is.formats) sound.short.texts;
  }
