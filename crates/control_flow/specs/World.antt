-- What a part of a program does, over any memory. The meaning of a source on its variables and that of its
-- typed tree on cells are both said with these words, so that they speak of the same things.
use Rattle.std.specs.Prelude.{ℕ, zero, suc, List, [], ◌∷◌, ◌++◌}
use Rattle.run_effects.specs.Effect.{Effect}
use Rattle.run_effects.specs.declared.outcome.Outcome.{Outcome}
use Rattle.run_effects.specs.declared.outcome.Outcome.TheVariants.{Cut}

-- the memory, the turns that are left, and the effects so far, in order
pub record World (M : Type 0) : Type 0 where
  pub memory : M
  pub turns : ℕ
  pub effects : List Effect

-- a part of a program gives something, or the whole run ends in it: it is trapped, or cut
pub data Run (M A : Type 0) : Type 0 where
  Gives : A → World M → Run M A
  Fails : Outcome → World M → Run M A

-- what comes after, where something is given
abbrev pub and_then : {M A B : Type 0} → Run M A → (A → World M → Run M B) → Run M B
and_then (Gives a w) next = next a w
and_then (Fails outcome w) next = Fails outcome w

-- what a function makes of what is given
abbrev pub run_map : {M A B : Type 0} → (A → B) → Run M A → Run M B
run_map f run = and_then run (λ a w. Gives (f a) w)

-- what comes after a turn was taken, of which there are so many; the run is cut where there is none
abbrev pub taking_turn_of : {M A : Type 0} → ℕ → World M → (World M → Run M A) → Run M A
taking_turn_of zero w next = Fails Cut w
taking_turn_of (suc turns) w next = next (record w { turns = turns })

-- what comes after a turn was taken; the run is cut where none is left
abbrev pub taking_turn : {M A : Type 0} → World M → (World M → Run M A) → Run M A
taking_turn w next = taking_turn_of w.turns w next

-- the world after one more effect
abbrev pub after_effect : {M : Type 0} → Effect → World M → World M
after_effect effect w = record w { effects = w.effects ++ effect ∷ [] }
