-- Calls: of functions of the program, and of those of the language.
use mathlib.Core.Former.{Count}
use Rattle.std.proofs.Common.{◌≡◌, ℕ, zero, suc, false, List, [], ◌∷◌, Some, refl, sym, ap, ◌∙◌, subst}
use Rattle.std.specs.Prelude.{ℤ, pos, map, slice_get, slice_index_or}
use Rattle.std.specs.List.{AllZip}
use Rattle.std.specs.Option.{option_map_or}
use Rattle.int_kinds.specs.Arithmetic.{truth}
use Rattle.texts.specs.declared.text.Text.{Text}
use Rattle.control_flow.specs.World.{World, Gives}
use Rattle.capl_tree.specs.declared.expr.Expr.{Expr, Row_of-Expr, end_of-Expr, more_of-Expr, items-the_row-Expr, items_hidden-the_row-Expr-1}
use Rattle.capl_tree.specs.declared.expr.Expr.TheVariants as expr
use Rattle.capl_tree.specs.declared.procedure.Param.{Param}
use Rattle.typed_tree.specs.declared.expression.TExpr.{TExpr, Row_of-TExpr, end_of-TExpr, more_of-TExpr, items-the_row-TExpr, items_hidden-the_row-TExpr-1}
use Rattle.typed_tree.specs.declared.expression.TExpr.TheVariants.{Const, Call, Call', Active, Now}
use Rattle.typed_tree.specs.Expression as typed
use Rattle.typed_tree.specs.Memory as cells
use Rattle.capl_meaning.specs.declared.builtin.Builtin.{Builtin}
use Rattle.capl_meaning.specs.declared.builtin.Builtin.TheVariants as builtin
use Rattle.capl_meaning.specs.Variable.{Variable, variable_of_parameter}
use Rattle.capl_meaning.specs.Names.{Callee, Function, Names, OfLanguage, OfProgram, Scope, Unknown, callee}
use Rattle.capl_meaning.specs.Calls.{function_numbered}
use Rattle.capl_meaning.specs.Constant.{elements_of}
use Rattle.capl_meaning.specs.Store.{Store, This, timer_number}
use Rattle.capl_meaning.specs.Expression.{InNumber, builtin_value, call_value, calling, timer_in, value_of, values_of, with_arguments, with_store}
use Rattle.capl_meaning.specs.Expression as source
use Rattle.typed_laws.specs.Laid.{AreDistinct, IsAmong, laid, laid_run, slot}
use Rattle.typed_laws.specs.Agreement.{ArePlain, Beside, GivesAs, GivesZero, array_given, parameter_slots, source_setting, timer_given, typed_setting}
use Rattle.typed_laws.proofs.Cells.{all_cells, all_kinds, write_laid}
use Rattle.typed_laws.proofs.Expressions.{constant_as}
use Rattle.typed_laws.proofs.Runs.{map_same, then_same}

-- the row of a call's arguments
abbrev pub source_row : Expr → (n : Count) × Row_of-Expr n
source_row (expr.Call' _ _ row _) = (_, row)
source_row _ = (_, end_of-Expr)

abbrev typed_row : TExpr → (n : Count) × Row_of-TExpr n
typed_row (Call' _ _ row) = (_, row)
typed_row _ = (_, end_of-TExpr)

-- the arguments are stored in the parameters
arguments_laid : (names : Names) → ArePlain names → (this : This) (f : Function) (ps : List Param) → ((i : ℕ) (p : Param) → slice_get ps i ≡ Some p → IsAmong (variable_of_parameter f.number f.file p) names.variables) →
    (ns : List ℤ) (s : Store) →
    typed.with_arguments (all_kinds names) (map (λ p. slot names (record { owner = f.number; name = p.name })) ps) ns (all_cells names this s) ≡ all_cells names this (with_arguments f.number ps ns s)
arguments_laid names plain this f [] among ns s = refl
arguments_laid names plain this f (p ∷ ps) among [] s = refl
arguments_laid names plain this f (p ∷ ps) among (n ∷ ns) s =
    ap (cells.write (all_kinds names) (cells.InCell (slot names (record { owner = f.number; name = p.name }))) n) (arguments_laid names plain this f ps (λ i q e. among (suc i) q e) ns s)
    ∙ write_laid names plain.distinct this (with_arguments f.number ps ns s) (InNumber p.kind (variable_of_parameter f.number f.file p)) n (false, record { among = among zero p refl; form_is = refl }) tt

module _ (names : Names) (order : List ℕ) (b : Beside names order) where
  -- a function of the program is called with numbers
  pub calling_same : (f : Function) (k : ℕ) (ns : List ℤ) (w : World source.Memory) → function_numbered names f.number ≡ Some f → slice_get order k ≡ Some f.number →
      typed.calling (typed_setting b) b.typed_call k ns (laid names b.this w) ≡ laid_run names b.this (calling b.call f ns w)
  calling_same f k ns w is at =
      let found = b.fits.functions k f.number at in
      let same : found.0 ≡ f = let e : Some found.0 ≡ Some f = sym found.1 ∙ is in cc in
      let params : typed.params_of b.program k ≡ parameter_slots names f = found.2 ∙ ap (parameter_slots names) same in
      ap (λ kinds. b.typed_call k (cells.with_cells (typed.with_arguments kinds (typed.params_of b.program k) ns (all_cells names b.this w.memory.store)) (laid names b.this w))) b.fits.kinds
      ∙ ap (λ slots. b.typed_call k (cells.with_cells (typed.with_arguments (all_kinds names) slots ns (all_cells names b.this w.memory.store)) (laid names b.this w))) params
      ∙ ap (λ all. b.typed_call k (cells.with_cells all (laid names b.this w)))
      (arguments_laid names b.plain b.this f f.parameters (b.plain.parameters f.number f is) ns w.memory.store)
      ∙ b.same_calls k f.number at (with_store (with_arguments f.number f.parameters ns w.memory.store) w)

module _ (scope : Scope) (order : List ℕ) where
  -- arguments, from left to right
  pub values_same : (b : Beside scope.names order) (w : World source.Memory) {m n : Count} (row : Row_of-Expr m) (row' : Row_of-TExpr n) →
      AllZip (GivesAs scope order) (items-the_row-Expr m row) (items-the_row-TExpr n row') →
      typed.values_of (typed_setting b) b.typed_call row' (laid scope.names b.this w) ≡ laid_run scope.names b.this (values_of (source_setting b scope) b.call row w)
  values_same b w end_of-Expr end_of-TExpr h = refl
  values_same b w end_of-Expr (more_of-TExpr t rest') h = elim h [ ]
  values_same b w (more_of-Expr e rest) end_of-TExpr h = elim h [ ]
  values_same b w (more_of-Expr e rest) (more_of-TExpr t rest') h =
      then_same scope.names b.this (λ n. n) (λ ns. ns) (value_of (source_setting b scope) b.call e w) _ _ _ (h.0.same b w) (λ n w.
      map_same scope.names b.this (λ ns. n ∷ ns) (λ ns. n ∷ ns) _ _ (values_same b w rest rest' h.1) (λ ns. refl))

  -- the value of a call, whose arguments are a list
  call_whole : (b : Beside scope.names order) (name : Text) (args : List Expr) (at : ℕ) (found : Callee) (w : World source.Memory) → callee scope.names name ≡ found →
      value_of (source_setting b scope) b.call (expr.Call name args at) w ≡
      call_value (source_setting b scope) b.call found args (values_of (source_setting b scope) b.call (source_row (expr.Call name args at)).1) w
  call_whole b name args at found w is =
      let row = source_row (expr.Call name args at) in
      ap (λ c. call_value (source_setting b scope) b.call c (items-the_row-Expr row.0 row.1) (values_of (source_setting b scope) b.call row.1) w) is
      ∙ ap (λ l. call_value (source_setting b scope) b.call found l (values_of (source_setting b scope) b.call row.1) w) (items_hidden-the_row-Expr-1 args)

  -- a call of a function of the program
  pub call_as : (name : Text) (args : List Expr) (at : ℕ) (f : Function) (k : ℕ) (typed_args : List TExpr) → callee scope.names name ≡ OfProgram f →
      slice_get order k ≡ Some f.number → AllZip (GivesAs scope order) args typed_args → GivesAs scope order (expr.Call name args at) (Call k typed_args)
  call_as name args at f k typed_args is numbered same_args =
      let row = source_row (expr.Call name args at) in
      let row' = typed_row (Call k typed_args) in
      let zipped : AllZip (GivesAs scope order) (items-the_row-Expr row.0 row.1) (items-the_row-TExpr row'.0 row'.1) =
      subst (λ l. AllZip (GivesAs scope order) l (items-the_row-TExpr row'.0 row'.1)) (sym (items_hidden-the_row-Expr-1 args))
      (subst (λ l. AllZip (GivesAs scope order) args l) (sym (items_hidden-the_row-TExpr-1 typed_args)) same_args) in
      record {
        same = λ b w.
            then_same scope.names b.this (λ ns. ns) (λ n. n) (values_of (source_setting b scope) b.call row.1 w) _ _ _ (values_same b w row.1 row'.1 zipped) (λ ns w.
            calling_same scope.names order b f k ns w (b.plain.numbered name f is) numbered)
            ∙ ap (laid_run scope.names b.this) (sym (call_whole b name args at (OfProgram f) w is));
      }

  -- a call of nothing
  pub unknown_call_as : (name : Text) (args : List Expr) (at : ℕ) → callee scope.names name ≡ Unknown → GivesAs scope order (expr.Call name args at) (Const (pos 0))
  unknown_call_as name args at is = constant_as scope order _ _ (λ b w. call_whole b name args at Unknown w is)

  -- whether a timer is active
  pub active_as : (name : Text) (args : List Expr) (at : ℕ) (v : Variable) (timer : ℕ) → callee scope.names name ≡ OfLanguage builtin.IsTimerActive →
      timer_given scope args ≡ Some v → (AreDistinct scope.names.variables → timer ≡ timer_number scope.names v) → GivesAs scope order (expr.Call name args at) (Active timer)
  active_as name args at v timer is named number = record {
    same = λ b w.
        ap (λ n. Gives (truth (slice_index_or w.memory.active n false)) (laid scope.names b.this w)) (number b.plain.distinct)
        ∙ ap (laid_run scope.names b.this) (sym (call_whole b name args at (OfLanguage builtin.IsTimerActive) w is ∙ ap (λ n. Gives n w) (activity_of (source_setting b scope) w args)
        ∙ ap (λ o. Gives (truth (option_map_or (λ v. slice_index_or w.memory.active (timer_number scope.names v) false) o false)) w) named));
  }
    where
      activity_of : (s : source.Setting) (w : World source.Memory) (args : List Expr) → builtin_value s w builtin.IsTimerActive args ≡ truth (option_map_or (λ v. slice_index_or w.memory.active (timer_number s.scope.names v) false) (timer_given s.scope args) false)
      activity_of s w [] = refl
      activity_of s w (e ∷ []) = refl
      activity_of s w (e ∷ f ∷ more) = refl

  -- the moment
  pub now_as : (name : Text) (args : List Expr) (at : ℕ) → callee scope.names name ≡ OfLanguage builtin.TimeNow → GivesAs scope order (expr.Call name args at) Now
  now_as name args at is = record { same = λ b w. ap (laid_run scope.names b.this) (sym (call_whole b name args at (OfLanguage builtin.TimeNow) w is)) }

  -- the number of elements of an array
  pub count_as : (name : Text) (args : List Expr) (at : ℕ) (v : Variable) → callee scope.names name ≡ OfLanguage builtin.ElCount → array_given scope args ≡ Some v →
      GivesAs scope order (expr.Call name args at) (Const (pos (elements_of scope.names v)))
  count_as name args at v is named =
      constant_as scope order _ _ (λ b w. call_whole b name args at (OfLanguage builtin.ElCount) w is ∙ ap (λ n. Gives n w) (count_of (source_setting b scope) w args)
      ∙ ap (λ o. Gives (option_map_or (λ v. pos (elements_of scope.names v)) o (pos 0)) w) named)
    where
      count_of : (s : source.Setting) (w : World source.Memory) (args : List Expr) → builtin_value s w builtin.ElCount args ≡ option_map_or (λ v. pos (elements_of s.scope.names v)) (array_given s.scope args) (pos 0)
      count_of s w [] = refl
      count_of s w (e ∷ []) = refl
      count_of s w (e ∷ f ∷ more) = refl

  -- a function of the language that gives 0: one that stands alone in a program without offences, or that is given what it does not take
  pub builtin_zero_as : (name : Text) (args : List Expr) (at : ℕ) (found : Builtin) → callee scope.names name ≡ OfLanguage found → GivesZero scope found args → GivesAs scope order (expr.Call name args at) (Const (pos 0))
  builtin_zero_as name args at found is none =
      constant_as scope order _ _ (λ b w. call_whole b name args at (OfLanguage found) w is ∙ ap (λ n. Gives n w) (zero_of (source_setting b scope) w found args none))
    where
      zero_of : (s : source.Setting) (w : World source.Memory) (found : Builtin) (args : List Expr) → GivesZero s.scope found args → builtin_value s w found args ≡ pos 0
      zero_of s w builtin.IsTimerActive [] h = refl
      zero_of s w builtin.IsTimerActive (e ∷ []) h = ap (λ o. truth (option_map_or (λ v. slice_index_or w.memory.active (timer_number s.scope.names v) false) o false)) h
      zero_of s w builtin.IsTimerActive (e ∷ f ∷ more) h = refl
      zero_of s w builtin.ElCount [] h = refl
      zero_of s w builtin.ElCount (e ∷ []) h = ap (λ o. option_map_or (λ v. pos (elements_of s.scope.names v)) o (pos 0)) h
      zero_of s w builtin.ElCount (e ∷ f ∷ more) h = refl
      zero_of s w builtin.TimeNow args h = elim h [ ]
      zero_of s w found args h = refl
