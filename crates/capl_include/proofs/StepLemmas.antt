-- The step of an include.
use Rattle.std.proofs.Common.{◌≡◌, ℕ, true, false, List, [], ◌∷◌, refl, sym, ap, subst}
use Rattle.texts.specs.declared.blame.Blame.{Blame}
use Rattle.capl_lexer.specs.declared.token.Tok.{Tok}
use Rattle.capl_lexer.specs.declared.token.Tok.TheVariants as tok
use Rattle.capl_lexer.specs.declared.token.Token.{Token}
use Rattle.capl_include.specs.Blame.{place_blame}
use Rattle.capl_include.specs.Expansion.{included_name, is_included_name, Include, includes_of, include_then}
use Rattle.capl_include.specs.Inside.Step.{Refused, Passed, Visited, has_met}
use Rattle.capl_include.specs.Inside.Visit.{HasStep, StepAgrees}
use Rattle.capl_include.specs.Inside.Refusal.{IsBlamedOrNoMemory}
use Rattle.capl_include.specs.declared.refusal.ExpandRefusal.{ExpandRefusal}
use Rattle.capl_include.specs.declared.refusal.ExpandRefusal.TheVariants.{Blamed, Failed, NoMemory}
use Rattle.std.proofs.Common.{Err}
use Rattle.texts.specs.Rule.{source_rule}

-- the include of a token
abbrev pub include_at : Token → List ℕ → Include
include_at token own = record { own = own; line = token.line; column = token.column }

-- a token with a name is an include
pub one_include : (token : Token) (own : List ℕ) → token.tok ≡ tok.Include own → includes_of (token ∷ []) ≡ include_at token own ∷ []
one_include token own is = ap (λ (t : Tok). include_then token t []) is

-- its step where the name is none
pub step_refused : (naming : List ℕ) (token : Token) (met : List (List ℕ)) (own name : List ℕ) → token.tok ≡ tok.Include own
    → name ≡ included_name naming own → is_included_name own name ≡ false
    → HasStep naming token met (Refused (place_blame naming token.line token.column (source_rule 8)))
step_refused naming token met own name is name_is bad = record {
  include = include_at token own;
  only = one_include token own is;
  is = rw (sym name_is, bad) refl;
}

-- where it was met
pub step_passed : (naming : List ℕ) (token : Token) (met : List (List ℕ)) (own name : List ℕ) → token.tok ≡ tok.Include own
    → name ≡ included_name naming own → is_included_name own name ≡ true → has_met met name ≡ true
    → HasStep naming token met Passed
step_passed naming token met own name is name_is good before = record {
  include = include_at token own;
  only = one_include token own is;
  is = rw (sym name_is, good, before) refl;
}

-- where it was not
pub step_visited : (naming : List ℕ) (token : Token) (met : List (List ℕ)) (own name : List ℕ) → token.tok ≡ tok.Include own
    → name ≡ included_name naming own → is_included_name own name ≡ true → has_met met name ≡ false
    → HasStep naming token met (Visited name)
step_visited naming token met own name is name_is good before = record {
  include = include_at token own;
  only = one_include token own is;
  is = rw (sym name_is, good, before) refl;
}

-- a refusal of the name
pub refused_step : (naming : List ℕ) (token : Token) (met : List (List ℕ)) (refusal : ExpandRefusal)
    → HasStep naming token met (Refused (place_blame naming token.line token.column (source_rule 8)))
    → IsBlamedOrNoMemory (place_blame naming token.line token.column (source_rule 8)) refusal
    → StepAgrees naming token met (Err refusal)
refused_step naming token met (Blamed blame) has is = subst (λ (b : Blame). HasStep naming token met (Refused b)) (sym is) has
refused_step naming token met Failed has is = is
refused_step naming token met NoMemory has is = tt
