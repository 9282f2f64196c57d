-- How the rules of places within their functions make the rules of all places.
use Rattle.std.proofs.Common.{◌≡◌, ◌<◌, ◌≤◌, ◌+◌, ℕ, length, slice_get, Some, sym, subst, arith, inl, inr}
use Rattle.std.proofs.lemmas.Bool.{cases_order}
use Rattle.std.proofs.lemmas.Option.{slice_get_within}
use Rattle.bytecode.specs.declared.code.Code.{Code}
use Rattle.bytecode.specs.declared.code.Fun.{Fun}
use Rattle.bytecode.specs.Rule.{IsIn}
use Rattle.bytecode.specs.Verified.{IsLaidOut, KeepsAllRules}
use Rattle.bytecode.specs.Inside.Failure.{FailsFirstIn, FailsFirstOfAll, KeepsRuleIn, KeepsRulesOf}
use Rattle.bytecode.proofs.CoverLemmas.{Cover-follows}
use Rattle.bytecode.proofs.PlaceRules.{lies_in_code}

-- the places of the functions before this one keep their rules
abbrev pub EarlierKeep : Code → ℕ → Type 0
EarlierKeep code number = (earlier : ℕ) (function : Fun) → earlier < number → slice_get code.functions earlier ≡ Some function → KeepsRulesOf code earlier function

-- the first place of a function that breaks its rule is the first of all, if all places of the functions before keep theirs
pub first_of_all : (code : Code) → IsLaidOut code → (number : ℕ) (function : Fun) →
    slice_get code.functions number ≡ Some function → EarlierKeep code number →
    (place : ℕ) → FailsFirstIn code number function place → FailsFirstOfAll code place
first_of_all code laid number function there before place fails =
    let lies = lies_in_code code number function laid there in
    record {
      inside = omega (arith, lies.ends, fails.inside.below);
      breaks = λ keeps. fails.breaks (λ instr depth ei ed. keeps number function instr depth there fails.inside ei ed);
      earlier_keep = λ earlier below other g instr depth there' inside ei ed.
          elim (cases_order other number) [
            | inl same ↦ (
                let there'' : slice_get code.functions number ≡ Some g = subst (λ (n : ℕ). slice_get code.functions n ≡ Some g) same there' in
                let is : function ≡ g = cc in
                let inside' : IsIn function earlier = subst (λ (h : Fun). IsIn h earlier) (sym is) inside in
                let kept : KeepsRuleIn code number function earlier = fails.earlier_keep earlier inside' below in
                subst (λ (h : Fun). KeepsRuleIn code other h earlier) is (subst (λ (n : ℕ). KeepsRuleIn code n function earlier) (sym same) kept) instr depth ei ed)
            | inr apart ↦ elim apart [
              | inl less ↦ before other g less there' earlier inside instr depth ei ed
              | inr more ↦ (
                  let follows = Cover-follows 0 code.functions (length code.instrs) laid.covered number other function g there there' more in
                  absurd (omega (arith, follows, inside.from, fails.inside.below)))
            ]
          ];
    }

-- one more function whose places keep their rules
pub one_more : (code : Code) (number : ℕ) (function : Fun) → slice_get code.functions number ≡ Some function →
    EarlierKeep code number → KeepsRulesOf code number function → EarlierKeep code (number + 1)
one_more code number function there before keeps other g below there' place inside instr depth ei ed =
    elim (cases_order other number) [
      | inl same ↦ (
          let there'' : slice_get code.functions number ≡ Some g = subst (λ (n : ℕ). slice_get code.functions n ≡ Some g) same there' in
          let is : function ≡ g = cc in
          let kept : KeepsRuleIn code number g place = subst (λ (h : Fun). KeepsRulesOf code number h) is keeps place inside in
          subst (λ (n : ℕ). KeepsRuleIn code n g place) (sym same) kept instr depth ei ed)
      | inr apart ↦ elim apart [
        | inl less ↦ before other g less there' place inside instr depth ei ed
        | inr more ↦ absurd (omega arith)
      ]
    ]

-- where the places of all functions keep their rules, all places do
pub all_keep : (code : Code) (count : ℕ) → length code.functions ≤ count → EarlierKeep code count →
    KeepsAllRules code
all_keep code count all keep place below number function instr depth there inside ei ed =
    let within = slice_get_within code.functions number function there in
    keep number function (omega (arith, within)) there place inside instr depth ei ed
