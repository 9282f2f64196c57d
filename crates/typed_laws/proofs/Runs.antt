-- One part of a run after another, where each does the same in cells.
use Rattle.std.proofs.Common.{◌≡◌, ℕ, zero, suc, Bool, true, false, refl, ap, ◌∙◌}
use Rattle.std.specs.Prelude.{ℤ, pos, if◌then◌else◌}
use Rattle.std.specs.Ordering.{int_eq}
use Rattle.control_flow.specs.World.{World, Run, Gives, Fails, and_then, run_map, taking_turn_of}
use Rattle.control_flow.specs.Control.{Computes, Does, End, GoesOn, Breaks, Continues, Returns, deciding, do_loop, followed_by, for_loop, going_on, leaving_switch, loop, looping, nothing, round, while_loop}
use Rattle.capl_meaning.specs.Names.{Names}
use Rattle.capl_meaning.specs.Store.{This}
use Rattle.capl_meaning.specs.Expression as source
use Rattle.typed_tree.specs.Memory as typed
use Rattle.typed_laws.specs.Laid.{GivesOnly, laid, laid_run, mapped}
use Rattle.typed_laws.specs.Agreement.{SameEnd, SameNumber}

module _ (names : Names) (this : This) where
  pub then_same : {A B C D : Type 0} (f : A → C) (g : B → D) (run : Run source.Memory A) (run' : Run typed.Memory C)
      (next : A → World source.Memory → Run source.Memory B) (next' : C → World typed.Memory → Run typed.Memory D) →
      run' ≡ mapped names this f run → ((a : A) (w : World source.Memory) → next' (f a) (laid names this w) ≡ mapped names this g (next a w)) →
      and_then run' next' ≡ mapped names this g (and_then run next)
  then_same f g run run' next next' e h = ap (λ r. and_then r next') e ∙ on run
    where
      on : (r : Run source.Memory _) → and_then (mapped names this f r) next' ≡ mapped names this g (and_then r next)
      on (Gives a w) = h a w
      on (Fails o w) = refl

  -- the same, where only some things are given
  pub then_only : {A B C D : Type 0} (P : A → Type 0) (f : A → C) (g : B → D) (run : Run source.Memory A) (run' : Run typed.Memory C)
      (next : A → World source.Memory → Run source.Memory B) (next' : C → World typed.Memory → Run typed.Memory D) →
      run' ≡ mapped names this f run → GivesOnly P run →
      ((a : A) (w : World source.Memory) → P a → next' (f a) (laid names this w) ≡ mapped names this g (next a w)) →
      and_then run' next' ≡ mapped names this g (and_then run next)
  then_only P f g run run' next next' e only h = ap (λ r. and_then r next') e ∙ on run only
    where
      on : (r : Run source.Memory _) → GivesOnly P r → and_then (mapped names this f r) next' ≡ mapped names this g (and_then r next)
      on (Gives a w) p = h a w p
      on (Fails o w) p = refl

  -- what is made of what is given
  pub map_same : {A B : Type 0} (f f' : A → B) (run : Run source.Memory A) (run' : Run typed.Memory A) → run' ≡ laid_run names this run → ((a : A) → f' a ≡ f a) →
      run_map f' run' ≡ laid_run names this (run_map f run)
  map_same f f' run run' e h = then_same (λ a. a) (λ b. b) run run' _ _ e (λ a w. ap (λ b. Gives b (laid names this w)) (h a))

  -- one of two things after a test
  pub deciding_same : {A : Type 0} (test : Run source.Memory ℤ) (test' : Run typed.Memory ℤ) (one other : World source.Memory → Run source.Memory A)
      (one' other' : World typed.Memory → Run typed.Memory A) → test' ≡ laid_run names this test →
      ((w : World source.Memory) → one' (laid names this w) ≡ laid_run names this (one w)) → ((w : World source.Memory) → other' (laid names this w) ≡ laid_run names this (other w)) →
      deciding test' one' other' ≡ laid_run names this (deciding test one other)
  deciding_same test test' one other one' other' e f g = then_same (λ a. a) (λ b. b) test test' _ _ e (λ n w. chosen (int_eq n (pos 0)) w)
    where
      chosen : (z : Bool) (w : World source.Memory) → (if z then other' (laid names this w) else one' (laid names this w)) ≡ laid_run names this (if z then other w else one w)
      chosen true w = g w
      chosen false w = f w

  -- ---- statements

  pub nothing_same : SameEnd names this nothing nothing
  nothing_same w = refl

  pub going_same : (next : Does source.Memory) (next' : Does typed.Memory) → SameEnd names this next next' → (e : End) (w : World source.Memory) →
      going_on next' e (laid names this w) ≡ laid_run names this (going_on next e w)
  going_same next next' f GoesOn w = f w
  going_same next next' f Breaks w = refl
  going_same next next' f Continues w = refl
  going_same next next' f (Returns n) w = refl

  pub followed_same : (first second : Does source.Memory) (first' second' : Does typed.Memory) → SameEnd names this first first' → SameEnd names this second second' →
      SameEnd names this (followed_by first second) (followed_by first' second')
  followed_same first second first' second' f g w = then_same (λ a. a) (λ b. b) (first w) _ _ _ (f w) (going_same second second' g)

  pub leaving_same : (e : End) (w : World source.Memory) → leaving_switch e (laid names this w) ≡ laid_run names this (leaving_switch e w)
  leaving_same GoesOn w = refl
  leaving_same Breaks w = refl
  leaving_same Continues w = refl
  leaving_same (Returns n) w = refl

  looping_same : (again : Does source.Memory) (again' : Does typed.Memory) → SameEnd names this again again' → (e : End) (w : World source.Memory) →
      looping again' e (laid names this w) ≡ laid_run names this (looping again e w)
  looping_same again again' f GoesOn w = f w
  looping_same again again' f Breaks w = refl
  looping_same again again' f Continues w = f w
  looping_same again again' f (Returns n) w = refl

  pub turn_same : {A : Type 0} (k : ℕ) (w : World source.Memory) (next : World source.Memory → Run source.Memory A) (next' : World typed.Memory → Run typed.Memory A) →
      ((w : World source.Memory) → next' (laid names this w) ≡ laid_run names this (next w)) → taking_turn_of k (laid names this w) next' ≡ laid_run names this (taking_turn_of k w next)
  turn_same zero w next next' f = refl
  turn_same (suc k) w next next' f = f (record w { turns = k })

  round_same : (body again : Does source.Memory) (body' again' : Does typed.Memory) → SameEnd names this body body' → SameEnd names this again again' →
      SameEnd names this (round body again) (round body' again')
  round_same body again body' again' f g w =
      turn_same w.turns w _ _ (λ w. then_same (λ a. a) (λ b. b) (body w) _ _ _ (f w) (looping_same again again' g))

  loop_same : (n : ℕ) (test : Computes source.Memory) (test' : Computes typed.Memory) (body step : Does source.Memory) (body' step' : Does typed.Memory) →
      SameNumber names this test test' → SameEnd names this body body' → SameEnd names this step step' → SameEnd names this (loop n test body step) (loop n test' body' step')
  loop_same zero test test' body step body' step' f g h w = refl
  loop_same (suc n) test test' body step body' step' f g h w =
      deciding_same (test w) (test' (laid names this w)) _ _ _ _ (f w)
      (round_same body _ body' _ g (followed_same step (loop n test body step) step' (loop n test' body' step') h (loop_same n test test' body step body' step' f g h))) nothing_same

  pub while_same : (n : ℕ) (test : Computes source.Memory) (test' : Computes typed.Memory) (body : Does source.Memory) (body' : Does typed.Memory) →
      SameNumber names this test test' → SameEnd names this body body' → SameEnd names this (while_loop n test body) (while_loop n test' body')
  while_same n test test' body body' f g = loop_same (suc n) test test' body nothing body' nothing f g nothing_same

  pub do_same : (n : ℕ) (test : Computes source.Memory) (test' : Computes typed.Memory) (body : Does source.Memory) (body' : Does typed.Memory) →
      SameNumber names this test test' → SameEnd names this body body' → SameEnd names this (do_loop n body test) (do_loop n body' test')
  do_same n test test' body body' f g = round_same body _ body' _ g (loop_same n test test' body nothing body' nothing f g nothing_same)

  pub for_same : (n : ℕ) (test : Computes source.Memory) (test' : Computes typed.Memory) (init step body : Does source.Memory) (init' step' body' : Does typed.Memory) →
      SameEnd names this init init' → SameNumber names this test test' → SameEnd names this step step' → SameEnd names this body body' →
      SameEnd names this (for_loop n init test step body) (for_loop n init' test' step' body')
  for_same n test test' init step body init' step' body' i f h g =
      followed_same init _ init' _ i (loop_same (suc n) test test' body step body' step' f g h)
