-- The first one stands before the number, or does not.
use Rattle.std.proofs.Common.{◌≡◌, ◌<◌, ◌∙◌, ◌&&◌, ℕ, Bool, true, false, ap, arith, nat_lt, refl, sym}
use Rattle.std.proofs.lemmas.Bool.Decides.{nat_tests}
use Rattle.check_names.specs.Inside.Table.{is_named}
use Rattle.check_names.proofs.PositionLemmas.{is_early, is_nowhere}
use Rattle.check_names.proofs.inner.is_known.Goals as goal

-- neither of two where the second is not
neither : (b : Bool) → false ≡ b && false
neither true = refl
neither false = refl

-- the second of two where the first is
second : (procedure : ℕ) (b : Bool) → 0 < procedure → b ≡ nat_lt 0 procedure && b
second procedure b inside =
    let is : true ≡ nat_lt 0 procedure = grind (arith, nat_tests, inside) in ap (λ (first : Bool). first && b) is

pub returns-in-Some : goal.returns-in-Some
returns-in-Some c =
    let named = is_named c.args.procedure c.args.name.now in
    let inside : 0 < c.args.procedure = omega (arith, c.if-procedure-eq0.false) in
    second c.args.procedure (nat_lt c.in-Some.earliest c.args.number) inside
    ∙ ap (λ (b : Bool). nat_lt 0 c.args.procedure && b)
    (sym (is_early named c.args.names.now.variables c.args.number c.in-Some.earliest (sym c.first_named.ensures ∙ c.in-Some.is)))

pub returns-in-None : goal.returns-in-None
returns-in-None c =
    let named = is_named c.args.procedure c.args.name.now in
    neither (nat_lt 0 c.args.procedure)
    ∙ ap (λ (b : Bool). nat_lt 0 c.args.procedure && b)
    (sym (is_nowhere named c.args.names.now.variables c.args.number (sym c.first_named.ensures ∙ c.in-None.is)))
