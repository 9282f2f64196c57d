-- The verifier takes the code exactly where the tables keep their rules.
use Rattle.std.proofs.Common.{◌≡◌, ◌∙◌, false, true, refl, subst, sym, Result}
use Rattle.std.specs.Prelude.{IfErr}
use Rattle.bytecode.specs.declared.code.Code.{Code}
use Rattle.bytecode.specs.declared.refusal.VerifyRefusal.{VerifyRefusal}
use Rattle.bytecode.specs.Failure.{FailsFirstAt}
use Rattle.bytecode.specs.Refusal.{IsRefusalOf}
use Rattle.bytecode.specs.Verified.{IsShortCode, IsVerified}
use Rattle.sound_check.specs.Tables.{idle_code_of}
use Rattle.sound_check.proofs.IdleCode.{idle_fails, idle_short, kept_of_idle}
use Rattle.sound_check.proofs.tables.keeps_tables.Goals as goal

pub verify-requires : goal.verify-requires
verify-requires c =
    subst IsShortCode (sym c.in_ok-code.ensures) (idle_short c.args.typed.now c.requires.short c.requires.selectors)

pub returns-in-Ok : goal.returns-in-Ok
returns-in-Ok c =
    let is : c.in_ok-code.code ≡ idle_code_of c.args.typed.now = c.in_ok-code.ensures in
    let same : c.in-Ok.field-0 ≡ c.in_ok-code.code = c.in-Ok.ensures.same in
    let verified : IsVerified (idle_code_of c.args.typed.now) = subst IsVerified (same ∙ is) c.in-Ok.ensures.verified in
    (λ _. kept_of_idle c.args.typed.now verified.tables, λ _. refl)

pub returns-in-Err-Unverified : goal.returns-in-Err-Unverified
returns-in-Err-Unverified c =
    let code : Code = c.in_ok-code.code in
    let is : code ≡ idle_code_of c.args.typed.now = c.in_ok-code.ensures in
    let Refused : Result Code VerifyRefusal → Type 0 = λ r. IfErr r (IsRefusalOf code) in
    let Refusal : VerifyRefusal → Type 0 = λ r. IsRefusalOf code r in
    let Fails : Code → Type 0 = λ code. FailsFirstAt code c.in-Err-Unverified.field-0-0 in
    let refused : Refusal c.in-Err-Unverified.field-0 = subst Refused c.in-Err-Unverified.is c.verify.ensures.unverified in
    let fails = subst Refusal c.in-Err-Unverified.field-0-is refused in (
      λ t. absurd (let e : false ≡ true = t in cc),
      λ keeps. absurd (idle_fails c.args.typed.now c.in-Err-Unverified.field-0-0 (subst Fails is fails.0) keeps),
    )
