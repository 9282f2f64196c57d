-- A timer is due where the least due moment has come.
use Rattle.std.proofs.Common.{◌≡◌, ℕ, inl, inr, leb, Bool, true, false, cond, List, [], ◌∷◌, Option, None, Some, is_some, min, arith, refl, ap, sym, ◌∙◌}
use Rattle.std.proofs.lemmas.Bool.Decides.{leb_tells}
use Rattle.std.specs.Option.{option_map_or}
use Rattle.timer_queue.specs.declared.setting.Setting.{Setting}
use Rattle.timer_queue.specs.Timers.{first_due, least_due}

none_due : (settings : List Setting) (now : ℕ) → least_due settings ≡ None → first_due settings now ≡ None
none_due [] now none = refl
none_due (s ∷ settings) now none = absurd (cc)

min_due : (a b now : ℕ) → leb (min a b) now ≡ cond (leb a now) true (leb b now)
min_due a b now = elim (leb_tells a now) [
  | inl h ↦ elim (leb_tells (min a b) now) [
    | inl k ↦ k.0 ∙ sym (ap (λ x. cond x true (leb b now)) h.0)
    | inr k ↦ absurd (let above = k.1 in let below = h.1 in omega arith)
  ]
  | inr h ↦ elim (leb_tells b now) [
    | inl g ↦ elim (leb_tells (min a b) now) [
      | inl k ↦ k.0 ∙ sym (ap (λ x. cond x true (leb b now)) h.0 ∙ g.0)
      | inr k ↦ absurd (let above = k.1 in let below = g.1 in omega arith)
    ]
    | inr g ↦ elim (leb_tells (min a b) now) [
      | inl k ↦ absurd (let above = k.1 in let one = h.1 in let other = g.1 in omega arith)
      | inr k ↦ k.0 ∙ sym (ap (λ x. cond x true (leb b now)) h.0 ∙ g.0)
    ]
  ]
]

some_of : (b : Bool) (s : Setting) (o : Option Setting) → is_some (cond b (Some s) o) ≡ cond b true (is_some o)
some_of true s o = refl
some_of false s o = refl

some_same : {X : Type 0} {a b : X} → Some a ≡ Some b → a ≡ b
some_same h = cc

or_false : (b : Bool) → b ≡ cond b true false
or_false true = refl
or_false false = refl

least_of : (s : Setting) (settings : List Setting) (now due : ℕ) → ((e : ℕ) → least_due settings ≡ Some e → leb e now ≡ is_some (first_due settings now))
    → (rest : Option ℕ) → least_due settings ≡ rest → option_map_or (min s.due) (least_due settings) s.due ≡ due → leb due now ≡ is_some (first_due (s ∷ settings) now)
least_of s settings now due later None none is =
    ap (λ d. leb d now) (sym is ∙ ap (λ o. option_map_or (min s.due) o s.due) none)
    ∙ or_false (leb s.due now)
    ∙ sym (some_of (leb s.due now) s (first_due settings now) ∙ ap (λ (o : Option Setting). cond (leb s.due now) true (is_some o)) (none_due settings now none))
least_of s settings now due later (Some e) some is =
    ap (λ d. leb d now) (sym is ∙ ap (λ o. option_map_or (min s.due) o s.due) some) ∙ min_due s.due e now
    ∙ ap (λ b. cond (leb s.due now) true b) (later e some)
    ∙ sym (some_of (leb s.due now) s (first_due settings now))

-- the least due moment has come exactly where a timer is due
pub least_due_tells : (settings : List Setting) (now due : ℕ) → least_due settings ≡ Some due → leb due now ≡ is_some (first_due settings now)
least_due_tells [] now due is = absurd (cc)
least_due_tells (s ∷ settings) now due is =
    least_of s settings now due (λ e some. least_due_tells settings now e some) (least_due settings) refl (some_same is)
