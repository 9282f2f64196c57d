-- What the parts of a visit answer.
use Rattle.std.specs.Prelude.{◌≡◌, ◌+◌, ◌<◌, ◌≤◌, ◌⊎◌, ⊤, ℕ, List, [], ◌∷◌, length, Option, Some, None, Result, Ok, Err}
use Rattle.std.specs.Global.{Vec}
use Rattle.texts.specs.declared.blame.Blame.{Blame}
use Rattle.texts.specs.Rule.{source_rule}
use Rattle.capl_lexer.specs.Reading.{IsReading, IsBadPlace, line_at, column_at, token_limit}
use Rattle.capl_lexer.specs.declared.token.Token.{Token}
use Rattle.capl_include.specs.Blame.{too_long_rule, file_blame, place_blame}
use Rattle.capl_include.specs.Expansion.{Contents, Expansion, Outcome, Include, Stopped, IsVisit, includes_of, file_limit, byte_limit}
use Rattle.capl_include.specs.Inside.Step.{Inclusion, Refused, Passed, Visited, step_of}
use Rattle.capl_include.specs.declared.refusal.ExpandRefusal.{ExpandRefusal}
use Rattle.capl_include.specs.declared.refusal.ExpandRefusal.TheVariants.{Blamed, Failed, NoMemory}

-- a file is held and has a reading, with few enough tokens behind so many
pub record IsRead (contents : Contents) (name : List ℕ) (count : ℕ) (tokens : List Token) : Type 0 where
  pub text : List ℕ
  pub held : contents name ≡ Some text
  pub short : length text ≤ byte_limit
  pub reading : IsReading text tokens
  pub few : count + length tokens ≤ token_limit

-- a file is held, but has more bytes than it may
abbrev pub IsTooLong : Contents → List ℕ → Type 0
IsTooLong contents name = (text : List ℕ) × (contents name ≡ Some text) × (byte_limit < length text)

-- a file is held and has this bad place
pub record HasBadPlace (contents : Contents) (name : List ℕ) (line column : ℕ) : Type 0 where
  pub text : List ℕ
  pub held : contents name ≡ Some text
  pub short : length text ≤ byte_limit
  pub place : ℕ
  pub bad : IsBadPlace text place
  pub line_is : line ≡ line_at text place
  pub column_is : column ≡ column_at text place

-- a file is held and has a reading, but with too many tokens behind so many
pub record HasTooMany (contents : Contents) (name : List ℕ) (count : ℕ) : Type 0 where
  pub text : List ℕ
  pub held : contents name ≡ Some text
  pub short : length text ≤ byte_limit
  pub tokens : List Token
  pub reading : IsReading text tokens
  pub many : token_limit < count + length tokens

-- the blame of a file by itself
abbrev pub IsReadBlame : Contents → List ℕ → ℕ → Blame → Type 0
IsReadBlame contents name count blame =
    ((contents name ≡ None) × (blame ≡ file_blame name (source_rule 7)))
    ⊎ (IsTooLong contents name × (blame ≡ file_blame name too_long_rule))
    ⊎ ((line column : ℕ) × HasBadPlace contents name line column
    × (blame ≡ place_blame name line column (source_rule 1)))
    ⊎ (HasTooMany contents name count × (blame ≡ file_blame name (source_rule 4)))

-- reading a file behind so many tokens gives its tokens or its blame
abbrev pub ReadAgrees : Contents → List ℕ → ℕ → Result (Vec Token) ExpandRefusal → Type 0
ReadAgrees contents name count (Ok tokens) = IsRead contents name count tokens.items
ReadAgrees contents name count (Err (Blamed blame)) = IsReadBlame contents name count blame
ReadAgrees contents name count (Err Failed) = ⊤
ReadAgrees contents name count (Err NoMemory) = ⊤

-- a token is the include for which this step comes
pub record HasStep (naming : List ℕ) (token : Token) (met : List (List ℕ)) (step : Inclusion) : Type 0 where
  pub include : Include
  pub only : includes_of (token ∷ []) ≡ include ∷ []
  pub is : step_of naming include met ≡ step

-- a token gives the name of a file to visit, or none, or its blame
abbrev pub StepAgrees : List ℕ → Token → List (List ℕ) → Result (Option (List ℕ)) ExpandRefusal → Type 0
StepAgrees naming token met (Ok None) = (includes_of (token ∷ []) ≡ []) ⊎ HasStep naming token met Passed
StepAgrees naming token met (Ok (Some name)) = HasStep naming token met (Visited name)
StepAgrees naming token met (Err (Blamed blame)) = HasStep naming token met (Refused blame)
StepAgrees naming token met (Err Failed) = ⊥
StepAgrees naming token met (Err NoMemory) = ⊤

-- a visit goes so however many files may be inside one another, if those that may still be met are
abbrev pub IsVisitAt : Contents → List ℕ → List ℕ → Expansion → Outcome → Type 0
IsVisitAt contents root name old outcome =
    (deeper : ℕ) → file_limit ≤ deeper + length old.met → IsVisit contents root deeper name old outcome

-- a visit was refused with its blame, if with any
abbrev pub IsVisitRefusal : Contents → List ℕ → List ℕ → Expansion → ExpandRefusal → Type 0
IsVisitRefusal contents root name old (Blamed blame) = IsVisitAt contents root name old (Stopped blame)
IsVisitRefusal contents root name old Failed = ⊤
IsVisitRefusal contents root name old NoMemory = ⊤
