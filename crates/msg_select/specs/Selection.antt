-- Which message procedure a frame is for (CAPL manual, on message): the one for its identifier, else one
-- whose range holds it, else the one for `*`.
use Rattle.std.specs.Prelude.{◌≡◌, ℕ, ◌≤◌, List, All, AllPairs, Contains}
use Rattle.msg_select.specs.declared.selector.MessageSelector.{MessageSelector}

-- a selector holds a selection key
pub record Holds (key : ℕ) (selector : MessageSelector) : Type 0 where
  pub from : selector.low ≤ key
  pub to : key ≤ selector.high

-- no selector holds the key
abbrev pub NoneHolds : List MessageSelector → ℕ → Type 0
NoneHolds selectors key = All (λ selector. Holds key selector → ⊥) selectors

-- the handler is that of a selector that holds the key, and no selector that holds it has a lesser rank
pub record IsChosen (selectors : List MessageSelector) (key handler : ℕ) : Type 0 where
  pub chosen : MessageSelector
  pub among : Contains selectors chosen
  pub holds : Holds key chosen
  pub least : All (λ other. Holds key other → chosen.rank ≤ other.rank) selectors
  pub is : chosen.handler ≡ handler

-- two selectors of one rank have no key in common
abbrev pub AreApart : MessageSelector → MessageSelector → Type 0
AreApart a b = a.rank ≡ b.rank → (key : ℕ) → Holds key a → Holds key b → ⊥

-- where selectors of one rank are apart, there is one choice at most
abbrev pub IsOnlyChoice : List MessageSelector → ℕ → Type 0
IsOnlyChoice selectors key =
    (a b : ℕ) → AllPairs AreApart selectors → IsChosen selectors key a → IsChosen selectors key b → a ≡ b
