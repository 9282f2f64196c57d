-- Which timers are active after one was set or cancelled.
use Rattle.std.proofs.Common.{◌≡◌, ◌≢◌, ℕ, zero, suc, ◌+◌, ◌<◌, ◌≤◌, inl, inr, eqb, Bool, true, false, cond, not, ◌||◌, List, [], ◌∷◌, ◌++◌, length, get_or, map, arith, refl, ap, ap₂, sym, ◌∙◌}
use Rattle.std.proofs.Math.ListN.{set}
use Rattle.std.proofs.Math.Bool.{or-true}
use Rattle.std.proofs.lemmas.Bool.Decides.{eqb_tells}
use Rattle.std.proofs.lemmas.List.Folds.{list_any-append}
use Rattle.std.proofs.lemmas.List.FromFn.{get_or-map-range_with_len, length-map-range_with_len}
use Rattle.std.specs.List.{range_with_len}
use Rattle.timer_queue.specs.declared.setting.Setting.{Setting}
use Rattle.timer_queue.specs.Timers.{Timers, active_timers, after_cancel, after_set, is_active, is_of, others, set_at}
use Rattle.timer_queue.proofs.TimersLemmas.{others_inactive}

-- as many are told as there are timers
pub length-active_timers : (timers : Timers) → length (active_timers timers) ≡ timers.count
length-active_timers timers = length-map-range_with_len (is_active timers.settings) 0 timers.count

-- whether one is active
pub get_or-active_timers : (timers : Timers) (timer : ℕ) → timer < timers.count → get_or (active_timers timers) timer false ≡ is_active timers.settings timer
get_or-active_timers timers timer within = get_or-map-range_with_len (is_active timers.settings) 0 timers.count timer timer false within (omega arith)

map_agrees : (f g : ℕ → Bool) (a n : ℕ) → ((x : ℕ) → a ≤ x → f x ≡ g x) → map f (range_with_len a n) ≡ map g (range_with_len a n)
map_agrees f g a zero same = refl
map_agrees f g a (suc n) same =
    ap₂ (λ (x : Bool) (xs : List Bool). x ∷ xs) (same a (omega arith)) (map_agrees f g (a + 1) n (λ x above. same x (omega arith)))

map_set : (f g : ℕ → Bool) (a n k : ℕ) (b : Bool) → f (a + k) ≡ b → ((x : ℕ) → x ≢ a + k → f x ≡ g x)
    → map f (range_with_len a n) ≡ set (map g (range_with_len a n)) k b
map_set f g a zero k b is same = refl
map_set f g a (suc n) zero b is same =
    let here : a + 0 ≡ a = omega arith in
    ap₂ (λ (x : Bool) (xs : List Bool). x ∷ xs) (ap f (sym here) ∙ is) (map_agrees f g (a + 1) n (λ x above. same x (λ at. omega (arith, at))))
map_set f g a (suc n) (suc k) b is same =
    let at : a + 1 + k ≡ a + suc k = omega arith in
    ap₂ (λ (x : Bool) (xs : List Bool). x ∷ xs) (same a (λ here. omega (arith, here)))
    (map_set f g (a + 1) n k b (ap f at ∙ is) (λ x other. same x (λ there. other (there ∙ sym at))))

-- the settings of another timer stay
others_active : (settings : List Setting) (timer x : ℕ) → x ≢ timer → is_active (others settings timer) x ≡ is_active settings x
others_active [] timer x other = refl
others_active (s ∷ settings) timer x other = elim (eqb_tells s.timer timer) [
  | inl same ↦ elim (eqb_tells s.timer x) [
    | inl equal ↦ absurd (other (sym equal.1 ∙ same.1))
    | inr differs ↦
        ap (λ b. is_active (cond (not b) (s ∷ others settings timer) (others settings timer)) x) same.0 ∙ others_active settings timer x other
        ∙ sym (ap (λ b. b || is_active settings x) differs.0)
  ]
  | inr differs ↦
      ap (λ b. is_active (cond (not b) (s ∷ others settings timer) (others settings timer)) x) differs.0
      ∙ ap (λ b. eqb s.timer x || b) (others_active settings timer x other)
]

-- a timer that is set is active, and the others are as they were
pub active-after_set : (timers : Timers) (timer now micros : ℕ) (cyclic : Bool)
    → active_timers (after_set timers timer now micros cyclic) ≡ set (active_timers timers) timer true
active-after_set timers timer now micros cyclic =
    map_set (is_active (others timers.settings timer ++ set_at timer now micros cyclic ∷ [])) (is_active timers.settings) 0 timers.count timer true
    (let at : 0 + timer ≡ timer = omega arith in
    ap (is_active (others timers.settings timer ++ set_at timer now micros cyclic ∷ [])) at
    ∙ list_any-append (is_of timer) (others timers.settings timer) (set_at timer now micros cyclic ∷ [])
    ∙ ap (λ b. is_active (others timers.settings timer) timer || (b || false)) (eqb_self timer)
    ∙ or-true (is_active (others timers.settings timer) timer))
    (λ x other.
    let differs : x ≢ timer = λ same. other (same ∙ sym at_timer) in
    list_any-append (is_of x) (others timers.settings timer) (set_at timer now micros cyclic ∷ [])
    ∙ ap₂ (λ (a : Bool) (b : Bool). a || (b || false)) (others_active timers.settings timer x differs) (eqb_other timer x differs)
    ∙ or_false (is_active timers.settings x))
  where
    at_timer : 0 + timer ≡ timer
    at_timer = omega arith

    eqb_self : (n : ℕ) → eqb n n ≡ true
    eqb_self n = elim (eqb_tells n n) [ inl same ↦ same.0 | inr differs ↦ absurd (differs.1 refl) ]

    eqb_other : (n x : ℕ) → x ≢ n → eqb n x ≡ false
    eqb_other n x other = elim (eqb_tells n x) [ inl same ↦ absurd (other (sym same.1)) | inr differs ↦ differs.0 ]

    or_false : (b : Bool) → (b || (false || false)) ≡ b
    or_false true = refl
    or_false false = refl

-- a timer that is cancelled is not active, and the others are as they were
pub active-after_cancel : (timers : Timers) (timer : ℕ) → active_timers (after_cancel timers timer) ≡ set (active_timers timers) timer false
active-after_cancel timers timer =
    map_set (is_active (others timers.settings timer)) (is_active timers.settings) 0 timers.count timer false
    (ap (is_active (others timers.settings timer)) at_timer ∙ others_inactive timers.settings timer)
    (λ x other. others_active timers.settings timer x (λ same. other (same ∙ sym at_timer)))
  where
    at_timer : 0 + timer ≡ timer
    at_timer = omega arith
