-- Lows of streams: times that no wait which is long enough is below.
use Rattle.std.proofs.Common.{◌≡◌, ℕ, ◌≤◌, Bool, true, false, cond, List, [], ◌∷◌, ltb, refl, sym, subst, ◌∙◌, arith}
use Rattle.std.specs.Prelude.{max}
use Rattle.std.specs.List.{filter, sum_by}
use Rattle.std.proofs.lemmas.Bool.Decides.{nat_tests}
use Rattle.std.proofs.lemmas.List.Sums.{sum_by-cons}
use Rattle.can_frame.specs.Frame.{arbitration_key}
use Rattle.can_bus.proofs.Precedence.{wins-key}
use Rattle.load_bound.specs.declared.stream.Stream.{Stream}
use Rattle.load_bound.specs.Streams.{is_stronger}
use Rattle.load_bound.specs.Waits.{interference, HasGood}
use Rattle.load_bound.specs.Inside.Starts.{IsLow}
use Rattle.load_bound.proofs.KeyLemmas.{data_frame}
use Rattle.load_bound.proofs.WaitLemmas.{stream_time}

-- ---- stronger streams
key_of : Stream → ℕ
key_of s = arbitration_key (data_frame s.ident)

through : (a b c : ℕ) → ltb a b ≡ true → ltb b c ≡ true → ltb a c ≡ true
through a b c h g = grind (arith, nat_tests)

is_stronger-key : (r s : Stream) → is_stronger r s ≡ ltb (key_of r) (key_of s)
unfolding key_of
is_stronger-key r s = wins-key (data_frame r.ident) (data_frame s.ident)

-- what is stronger than a stronger stream is stronger
pub stronger_through : (q r s : Stream) → is_stronger q r ≡ true → is_stronger r s ≡ true → is_stronger q s ≡ true
stronger_through q r s h g =
    is_stronger-key q s ∙ through (key_of q) (key_of r) (key_of s) (sym (is_stronger-key q r) ∙ h) (sym (is_stronger-key r s) ∙ g)

-- ---- sums
-- the sum of more terms is no less
pub sum-more_pass : (p q : Stream → Bool) (f : Stream → ℕ) → ((x : Stream) → p x ≡ true → q x ≡ true) → (xs : List Stream) → sum_by f (filter p xs) ≤ sum_by f (filter q xs)
sum-more_pass p q f pass [] = omega arith
sum-more_pass p q f pass (x ∷ xs) =
    let rest = sum-more_pass p q f pass xs in
    elim (p x) as (λ b. p x ≡ b → sum_by f (cond b (x ∷ filter p xs) (filter p xs)) ≤ sum_by f (cond (q x) (x ∷ filter q xs) (filter q xs))) [
      | true ↦ λ holds.
          subst (λ b. sum_by f (x ∷ filter p xs) ≤ sum_by f (cond b (x ∷ filter q xs) (filter q xs))) (sym (pass x holds))
          (omega (arith, sum_by-cons f x (filter p xs), sum_by-cons f x (filter q xs)))
      | false ↦ λ fails.
          elim (q x) as (λ b. sum_by f (filter p xs) ≤ sum_by f (cond b (x ∷ filter q xs) (filter q xs))) [
            | true ↦ omega (arith, sum_by-cons f x (filter q xs))
            | false ↦ rest
          ]
    ] refl

module _ (bit : ℕ) (streams : List Stream) (r s : Stream) (stronger : is_stronger r s ≡ true) where
  -- streams stronger than a stronger one keep the bus no longer
  pub interference-weaker : (w : ℕ) → interference bit streams r w ≤ interference bit streams s w
  interference-weaker w = sum-more_pass (λ q. is_stronger q r) (λ q. is_stronger q s) (stream_time bit w) (λ q h. stronger_through q r s h stronger) streams

  -- a low of a stronger stream is one of a weaker
  pub low_weaker : (low : ℕ) → IsLow bit streams r low → IsLow bit streams s low
  low_weaker low h = λ w enough. h w (let less = interference-weaker w in omega (arith, enough))

-- a stream whose low is not before its next request has no good wait
pub none_good : (bit : ℕ) (streams : List Stream) (r : Stream) (low : ℕ) → IsLow bit streams r low → r.apart ≤ low → HasGood bit streams r → ⊥
none_good bit streams r low h late good =
    let above = h good.0 good.1.enough in let below = good.1.before_next in absurd (omega arith)

-- the greater of two lows is one
pub low_max : (bit : ℕ) (streams : List Stream) (s : Stream) (a b : ℕ) → IsLow bit streams s a → IsLow bit streams s b → IsLow bit streams s (max a b)
low_max bit streams s a b h g = λ w enough. let one = h w enough in let other = g w enough in omega arith

-- 0 is a low
pub low_zero : (bit : ℕ) (streams : List Stream) (s : Stream) → IsLow bit streams s 0
low_zero bit streams s = λ w enough. omega arith
