-- What `finish` gives, and that a disturbed frame waits again.
use Rattle.std.proofs.Common.{◌≡◌, ℕ, Bool, true, false, not, cond, ◌⊎◌, eqb, refl, sym, ap, subst, ◌∙◌, inl, inr, arith}
use Rattle.std.specs.Prelude.{Option, None, Some, ◌↔◌}
use Rattle.std.specs.FinMap.{get, insert, retain_keys, get-insert}
use Rattle.std.proofs.lemmas.Bool.Decides.{nat_tests}
use Rattle.can_bus.specs.declared.bus.Ended.{Ended}
use Rattle.can_bus.specs.declared.waiting.Waiting.{Waiting}
use Rattle.can_bus.specs.Waiting.{Waits, request_name}
use Rattle.can_bus.specs.Bus as channel
use Rattle.can_bus.proofs.Requests.{name_cmp_total}
use Rattle.channel_errors.specs.Errors.{ErrorState, is_off, is_disturbed, after_sent, after_disturbed, after_finish_of}
use Rattle.channel_errors.specs.Laws.{GivesNothing, WaitsAgain}
use Rattle.channel_errors.proofs.Waits.{own_name}

nothing : (b : Bool) (o : Option Ended) → (cond b None o ≡ None) ↔ ((b ≡ true) ⊎ (o ≡ None))
nothing true o = (λ _. inl refl, λ _. refl)
nothing false o = (λ e. inr e, λ h. elim h [ inl e ↦ absurd (cc) | inr e ↦ e ])

-- nothing is given exactly where no undisturbed transmission ends now
pub gives_nothing : (s : ErrorState) (now : ℕ) → GivesNothing s now
gives_nothing s now = nothing (is_disturbed s) (channel.ended s.plain now)

-- ---- a disturbed frame
-- the request waits, where its node is not off
abbrev WaitsOn : Waiting → ErrorState → Type 0
WaitsOn r u = is_off u r.node ≡ false → Waits u.plain.waiting r

waits_disturbed : (s : ErrorState) (r : Waiting) → WaitsOn r (after_disturbed s r)
waits_disturbed s r on =
    ap (λ b. get (cond b (retain_keys s.plain.waiting (λ name. not (eqb name.0 r.node))) (insert s.plain.waiting (request_name r) r.frame)) (request_name r)) on
    ∙ get-insert name_cmp_total s.plain.waiting (request_name r) r.frame (request_name r)
    ∙ ap (λ b. cond b (Some r.frame) (get s.plain.waiting (request_name r))) (own_name (request_name r))

ends_now : (m n : ℕ) → m ≡ n → eqb m n ≡ true
ends_now m n e = grind (arith, nat_tests)

-- it waits again under its own number, where its node is not off then
pub waits_again : (s : ErrorState) (now : ℕ) → WaitsAgain s now
waits_again s now t h =
    subst (λ w. WaitsOn t.request (after_finish_of w s now)) (sym h.on_wire)
    (subst (λ b. WaitsOn t.request (cond b (cond (is_disturbed s) (after_disturbed s t.request) (after_sent s t.request)) s)) (sym (ends_now t.end now h.ends))
    (subst (λ b. WaitsOn t.request (cond b (after_disturbed s t.request) (after_sent s t.request))) (sym h.disturbed)
    (waits_disturbed s t.request)))
