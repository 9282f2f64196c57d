-- How deep the tokens of a source nest, by a scan over them.
--
-- The scan keeps levels, the last one first, each with a count. The nesting is the greatest number, over the
-- scan, of the levels but one and of all their counts.
use Rattle.std.specs.Prelude.{ℕ, suc, ◌+◌, ◌-◌, Bool, true, false, ◌||◌, if◌then◌else◌, List, [], ◌∷◌, Option, Some, None, length, sum, max}
use Rattle.capl_lexer.specs.declared.token.Tok.{Tok}
use Rattle.capl_lexer.specs.declared.token.Tok.TheVariants as tok
use Rattle.capl_lexer.specs.declared.token.Word.TheVariants as word
use Rattle.capl_lexer.specs.declared.token.Sign.TheVariants as sign

-- one more in the last level's count
abbrev pub counted : List ℕ → List ℕ
counted [] = []
counted (last ∷ outer) = suc last ∷ outer

-- 0 as the last level's count
abbrev pub cleared : List ℕ → List ℕ
cleared [] = []
cleared (last ∷ outer) = 0 ∷ outer

-- the last level taken away, where there is more than one
abbrev pub closed : List ℕ → List ℕ
closed (last ∷ next ∷ outer) = next ∷ outer
closed levels = levels

-- `]`
abbrev pub closes_bracket : Option Tok → Bool
closes_bracket (Some (tok.Sign sign.CloseBracket)) = true
closes_bracket _ = false

-- the word of a kind
abbrev pub names_kind : Option Tok → Bool
names_kind (Some (tok.Word word.Byte)) = true
names_kind (Some (tok.Word word.Word)) = true
names_kind (Some (tok.Word word.Dword)) = true
names_kind (Some (tok.Word word.Qword)) = true
names_kind (Some (tok.Word word.Int)) = true
names_kind (Some (tok.Word word.Long)) = true
names_kind (Some (tok.Word word.Int64)) = true
names_kind (Some (tok.Word word.Char)) = true
names_kind _ = false

-- `else` or `while` is the next token
abbrev pub goes_on : List Tok → Bool
goes_on (tok.Word word.Else ∷ ts) = true
goes_on (tok.Word word.While ∷ ts) = true
goes_on _ = false

-- the levels behind a token, by the token before it and those behind it
abbrev pub levels_behind : List ℕ → Option Tok → Tok → List Tok → List ℕ
levels_behind levels before (tok.Sign sign.OpenParen) ts = 0 ∷ levels
levels_behind levels before (tok.Sign sign.OpenBrace) ts = 0 ∷ levels
levels_behind levels before (tok.Sign sign.OpenBracket) ts =
    if closes_bracket before then 0 ∷ counted levels else 0 ∷ levels
levels_behind levels before (tok.Sign sign.CloseParen) ts =
    if names_kind before then counted (closed levels) else closed levels
levels_behind levels before (tok.Sign sign.CloseBracket) ts = closed levels
levels_behind levels before (tok.Sign sign.CloseBrace) ts =
    if goes_on ts then closed levels else cleared (closed levels)
levels_behind levels before (tok.Sign sign.Semi) ts = if goes_on ts then levels else cleared levels
levels_behind levels before (tok.Sign sign.Comma) ts = cleared levels
levels_behind levels before (tok.Sign operator) ts = counted levels
levels_behind levels before (tok.Word word.If) ts = counted levels
levels_behind levels before (tok.Word word.While) ts = counted levels
levels_behind levels before (tok.Word word.For) ts = counted levels
levels_behind levels before (tok.Word word.Do) ts = counted levels
levels_behind levels before (tok.Word word.Switch) ts = counted levels
levels_behind levels before _ ts = levels

-- the levels but one, and their counts
abbrev pub depth : List ℕ → ℕ
depth levels = length levels - 1 + sum levels

-- the greatest depth from here on
abbrev pub deepest : List ℕ → Option Tok → List Tok → ℕ
deepest levels before [] = depth levels
deepest levels before (first ∷ ts) =
    max (depth levels) (deepest (levels_behind levels before first ts) (Some first) ts)

-- how deep the tokens nest
abbrev pub nesting : List Tok → ℕ
nesting ts = deepest (0 ∷ []) None ts
