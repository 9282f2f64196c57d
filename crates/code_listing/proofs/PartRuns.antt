-- Parts of programs one after the other, each of which comes to a state of the machine, and what they say of an index.
use Rattle.std.proofs.Common.{◌≡◌, ℕ, suc, ◌+◌, ◌<◌, Bool, true, false, List, ◌∷◌, refl, ap, subst}
use Rattle.std.specs.Prelude.{ℤ, pos, negsuc, if◌then◌else◌, nat_lt}
use Rattle.std.proofs.lemmas.Bool.{leb-true}
use Rattle.run_effects.specs.declared.outcome.Outcome.TheVariants.{Trapped}
use Rattle.run_effects.specs.declared.outcome.TrapKind.TheVariants.{Index}
use Rattle.bytecode.specs.declared.code.Code.{Code}
use Rattle.bytecode.specs.Machine.{Machine, Next, Ends}
use Rattle.bytecode.specs.Step.{indexing as row_indexing}
use Rattle.control_flow.specs.World.{World, Run, Gives, Fails, and_then}
use Rattle.typed_tree.specs.Expression.{indexing}
use Rattle.typed_tree.specs.Memory.{Memory, Spot}
use Rattle.typed_tree.specs.Size.{Sizes}
use Rattle.control_flow.specs.Control.{Computes}
use Rattle.code_listing.specs.Expression.{Codes}
use Rattle.code_listing.specs.Runs.{Arrives, Comes, IsFit, Leaves, StandsAt, machine_at}
use Rattle.code_listing.proofs.MachineRuns.{comes_on, follows_from, then_on}
use Rattle.code_listing.proofs.TestRuns.{Mean}

module _ (code : Code) (closed : Bool) (moment : ℕ) where
  -- one part after another
  pub arrives_then : {A B : Type 0} (m : Machine) (there : A → World Memory → Machine) (end : B → World Memory → Machine)
      (run : Run Memory A) (next : A → World Memory → Run Memory B) → Arrives code closed moment m there run →
      ((a : A) (w : World Memory) → Comes code closed moment m (there a w) → Arrives code closed moment (there a w) end (next a w)) →
      Arrives code closed moment m end (and_then run next)
  arrives_then m there end run next first second =
      then_on code closed moment m there (λ m b after. Comes code closed moment m (end b after)) run next
      (λ m' b after r g. comes_on code closed moment r g) first second

  -- steps, and then a part
  pub arrives_from : {B : Type 0} (m m' : Machine) (end : B → World Memory → Machine) (run : Run Memory B) →
      Comes code closed moment m m' → Arrives code closed moment m' end run → Arrives code closed moment m end run
  arrives_from m m' end run r h =
      follows_from code closed moment m m' (λ b after. Comes code closed moment m' (end b after))
      (λ b after. Comes code closed moment m (end b after)) run r (λ b after g. comes_on code closed moment r g) h

  -- a part, and then steps
  pub arrives_on : {B : Type 0} (m : Machine) (there end : B → World Memory → Machine) (run : Run Memory B) → Arrives code closed moment m there run →
      ((b : B) (w : World Memory) → Comes code closed moment m (there b w) → Comes code closed moment (there b w) (end b w)) → Arrives code closed moment m end run
  arrives_on m there end (Gives b w) h f = comes_on code closed moment h (f b w h)
  arrives_on m there end (Fails o w) h f = h

  -- the same with the place at which the number is left written in another way
  pub leaves_at : (m : Machine) (stack : List ℤ) (calls : List ℕ) (run : Run Memory ℤ) (p q : ℕ) → p ≡ q →
      Arrives code closed moment m (λ n after. machine_at p (n ∷ stack) calls after) run → Arrives code closed moment m (λ n after. machine_at q (n ∷ stack) calls after) run
  leaves_at m stack calls run p q e h = subst (λ k. Arrives code closed moment m (λ n after. machine_at k (n ∷ stack) calls after) run) e h

  -- the value of an expression, at a place that its code writes in another way
  pub value_runs : (most : ℕ) (c : Codes) (z : Sizes) (does : Computes Memory) → Mean code closed moment most c z does →
      (p q depth : ℕ) → q ≡ p → (stack : List ℤ) (calls : List ℕ) (w : World Memory) → IsFit code most w →
      StandsAt code p (c.value q depth) → Leaves code closed moment p stack calls w (p + z.value) (does w)
  value_runs most c z does means p q depth e stack calls w fit h =
      subst (λ k. StandsAt code k (c.value q depth) → Leaves code closed moment k stack calls w (k + z.value) (does w)) e
      (λ here. means.value q depth stack calls w fit here) h

-- A number as an index of so many things: it is one, the same in every world and for the machine too, or it traps in
-- both.
pub data Indexes (len : ℕ) (i : ℤ) : Type 0 where
  Inside : (k : ℕ) → k < len → ((w : World Memory) (spot : ℕ → Spot) → indexing len i w spot ≡ Gives (spot k) w) →
      ((m : Machine) (inside : ℕ → Next) → row_indexing i len m inside ≡ inside k) → Indexes len i
  Outside : ((w : World Memory) (spot : ℕ → Spot) → indexing len i w spot ≡ Fails (Trapped Index) w) →
      ((m : Machine) (inside : ℕ → Next) → row_indexing i len m inside ≡ Ends (Trapped Index) m) → Indexes len i

-- each number is one or the other
pub indexes : (len : ℕ) (i : ℤ) → Indexes len i
indexes len (negsuc i) = Outside (λ w spot. refl) (λ m inside. refl)
indexes len (pos k) = by_range (nat_lt k len) refl
  where
    by_range : (b : Bool) → nat_lt k len ≡ b → Indexes len (pos k)
    by_range true e = Inside k (leb-true (suc k) len e)
        (λ w spot. ap (λ (b : Bool). if b then Gives (spot k) w else Fails (Trapped Index) w) e)
        (λ m inside. ap (λ (b : Bool). if b then inside k else Ends (Trapped Index) m) e)
    by_range false e = Outside
        (λ w spot. ap (λ (b : Bool). if b then Gives (spot k) w else Fails (Trapped Index) w) e)
        (λ m inside. ap (λ (b : Bool). if b then inside k else Ends (Trapped Index) m) e)
