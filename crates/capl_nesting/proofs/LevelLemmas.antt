-- The levels of a scan, and what a token does to them.
use Rattle.std.proofs.Common.{◌≡◌, ℕ, ◌≤◌, ◌<◌, max, List, [], ◌∷◌, Option, Some, if◌then◌else◌, refl, arith}
use Rattle.std.specs.Prelude.{◌↔◌}
use Rattle.capl_lexer.specs.declared.token.Word.{Word}
use Rattle.capl_lexer.specs.declared.token.Word.TheVariants as word
use Rattle.capl_lexer.specs.declared.token.Tok.{Tok}
use Rattle.capl_lexer.specs.declared.token.Tok.TheVariants as tok
use Rattle.capl_lexer.specs.declared.token.Sign.{Sign}
use Rattle.capl_lexer.specs.declared.token.Sign.TheVariants as sign
use Rattle.capl_tree.specs.Nesting.{counted, depth, deepest, levels_behind, closes_bracket, names_kind, goes_on}
use Rattle.capl_nesting.specs.Inside.Levels.{sign_levels, is_counted}

-- a sign, by what stands before and behind it
pub behind_sign : (levels : List ℕ) (before : Option Tok) (of : Sign) (ts : List Tok)
    → levels_behind levels before (tok.Sign of) ts ≡ sign_levels levels (closes_bracket before) (names_kind before) (goes_on ts) of
behind_sign levels before sign.OpenParen ts = refl
behind_sign levels before sign.OpenBrace ts = refl
behind_sign levels before sign.OpenBracket ts = refl
behind_sign levels before sign.CloseParen ts = refl
behind_sign levels before sign.CloseBracket ts = refl
behind_sign levels before sign.CloseBrace ts = refl
behind_sign levels before sign.Semi ts = refl
behind_sign levels before sign.Comma ts = refl
behind_sign levels before _ ts = refl

-- a word
pub behind_word : (levels : List ℕ) (before : Option Tok) (of : Word) (ts : List Tok)
    → levels_behind levels before (tok.Word of) ts ≡ (if is_counted of then counted levels else levels)
behind_word levels before word.If ts = refl
behind_word levels before word.While ts = refl
behind_word levels before word.For ts = refl
behind_word levels before word.Do ts = refl
behind_word levels before word.Switch ts = refl
behind_word levels before _ ts = refl

-- the scan goes at least as deep as it is
pub deepest_least : (levels : List ℕ) (before : Option Tok) (ts : List Tok) → depth levels ≤ deepest levels before ts
deepest_least levels before [] = omega arith
deepest_least levels before (first ∷ ts) = omega arith

-- where it is not too deep, it is by what is behind the next token
pub goes_deeper : (most : ℕ) (levels : List ℕ) (before : Option Tok) (first : Tok) (ts : List Tok) → depth levels ≤ most
    → (most < deepest levels before (first ∷ ts)) ↔ (most < deepest (levels_behind levels before first ts) (Some first) ts)
goes_deeper most levels before first ts low = (λ deep. omega arith, λ deep. omega arith)
