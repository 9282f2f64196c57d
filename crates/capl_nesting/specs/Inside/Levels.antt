-- The levels of a scan for nesting, as its code keeps them.
use Rattle.std.specs.Prelude.{◌≡◌, ℕ, suc, Bool, true, false, if◌then◌else◌, List, [], ◌∷◌, reverse, Option, Some, None}
use Rattle.std.specs.Borrow.{Bor}
use Rattle.capl_lexer.specs.declared.token.Tok.{Tok}
use Rattle.capl_lexer.specs.declared.token.Token.{Token}
use Rattle.capl_lexer.specs.declared.token.Word.{Word}
use Rattle.capl_lexer.specs.declared.token.Word.TheVariants as word
use Rattle.capl_lexer.specs.declared.token.Sign.{Sign}
use Rattle.capl_lexer.specs.declared.token.Sign.TheVariants as sign
use Rattle.capl_tree.specs.Nesting.{counted, cleared, closed, depth}
use Rattle.capl_nesting.specs.declared.levels.Levels.{Levels}

-- the counts, the last level's first
abbrev pub counts : Levels → List ℕ
counts levels = levels.last ∷ reverse levels.outer.items

-- the depth is that of the levels
abbrev pub IsSummed : Levels → Type 0
IsSummed levels = levels.depth ≡ depth (counts levels)

-- what a token behind a reference is
abbrev pub told : Option (Bor Token) → Option Tok
told None = None
told (Some token) = Some token.now.tok

-- the levels behind a sign, by whether `]` and whether the word of a kind stands before it, and whether
-- `else` or `while` stands behind it
abbrev pub sign_levels : List ℕ → Bool → Bool → Bool → Sign → List ℕ
sign_levels levels bracket kind more sign.OpenParen = 0 ∷ levels
sign_levels levels bracket kind more sign.OpenBrace = 0 ∷ levels
sign_levels levels bracket kind more sign.OpenBracket =
    if bracket then 0 ∷ counted levels else 0 ∷ levels
sign_levels levels bracket kind more sign.CloseParen = if kind then counted (closed levels) else closed levels
sign_levels levels bracket kind more sign.CloseBracket = closed levels
sign_levels levels bracket kind more sign.CloseBrace = if more then closed levels else cleared (closed levels)
sign_levels levels bracket kind more sign.Semi = if more then levels else cleared levels
sign_levels levels bracket kind more sign.Comma = cleared levels
sign_levels levels bracket kind more operator = counted levels

-- whether a word is counted in its level
abbrev pub is_counted : Word → Bool
is_counted word.If = true
is_counted word.While = true
is_counted word.For = true
is_counted word.Do = true
is_counted word.Switch = true
is_counted _ = false
