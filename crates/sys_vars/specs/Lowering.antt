-- How the tokens of a file name system variables (CAPL manual, system variables, `on sysvar`), and what
-- stands in their place, which is this project's own.
--
-- A use is `@ SPACE :: NAME` or `@ sysvar :: SPACE :: NAME`; it becomes one name. A head is, directly
-- behind `on`, `sysvar SPACE :: NAME` or `sysvar sysvar :: SPACE :: NAME`; it becomes `timer` and one name.
-- Both only where SPACE and NAME are those of a declared variable.
use Rattle.std.specs.Prelude.{ℕ, zero, suc, Bool, true, false, ◌&&◌, if◌then◌else◌, List, [], ◌∷◌, ◌++◌, Option, Some, None, codes}
use Rattle.std.specs.Str.{bytes_eq}
use Rattle.capl_lexer.specs.declared.token.Tok.{Tok}
use Rattle.capl_lexer.specs.declared.token.Tok.TheVariants as tok
use Rattle.capl_lexer.specs.declared.token.Token.{Token}
use Rattle.capl_lexer.specs.declared.token.Word.TheVariants as word
use Rattle.capl_lexer.specs.declared.token.Sign.TheVariants as sign
use Rattle.capl_nesting.specs.Tokens.{toks}
use Rattle.sys_vars.specs.declared.item.SysItem.{SysItem}
use Rattle.sys_vars.specs.Name.{variable_name, timer_name, is_declared}

-- `on`
abbrev pub is_on : Tok → Bool
is_on (tok.Word word.On) = true
is_on _ = false

-- `@`
abbrev pub is_at : Tok → Bool
is_at (tok.Sign sign.At) = true
is_at _ = false

-- `::`
abbrev pub is_scope : Tok → Bool
is_scope (tok.Sign sign.Scope) = true
is_scope _ = false

-- the name `sysvar`
abbrev pub is_sysvar : Tok → Bool
is_sysvar (tok.Name text) = bytes_eq text (codes "sysvar")
is_sysvar _ = false

-- the text of a name, and None for another token
abbrev pub name_of : Tok → Option (List ℕ)
name_of (tok.Name text) = Some text
name_of _ = None

-- a variable that tokens name: its two names, and how many tokens that takes
pub record Named : Type 0 where
  pub space : List ℕ
  pub name : List ℕ
  pub width : ℕ

-- two names, where they are those of a declared variable, by so many tokens
abbrev pub declared_by : List SysItem → ℕ → Option (List ℕ) → Option (List ℕ) → Option Named
declared_by items width (Some space) (Some name) =
    if is_declared items space name
    then Some record { space = space; name = name; width = width } else None
declared_by items width _ _ = None

-- `SPACE :: NAME` of a declared variable, at the front of these tokens; behind others that belong to it, by
-- so many tokens in all
abbrev pub path : List SysItem → ℕ → List Tok → Option Named
path items width (first ∷ second ∷ third ∷ rest) =
    if is_scope second then declared_by items width (name_of first) (name_of third) else None
path items width _ = None

-- what stands behind `@` or behind `on sysvar`: the longer form alone, `sysvar :: SPACE :: NAME`, where the
-- first name is `sysvar`, and else `SPACE :: NAME`
abbrev pub named : List SysItem → List Tok → Option Named
named items (first ∷ second ∷ rest) =
    if is_sysvar first then (if is_scope second then path items 5 rest else None)
    else path items 3 (first ∷ second ∷ rest)
named items _ = None

-- another token at the place of this one
abbrev pub in_place : Token → Tok → Token
in_place token what = record token { tok = what }

-- what stands in the place of some tokens, the first of which has so many of them behind it
pub record Replaced : Type 0 where
  pub tokens : List Token
  pub behind : ℕ

-- a token that is in no form
abbrev pub kept : Token → Replaced
kept token = record { tokens = token ∷ []; behind = 0 }

-- a use that begins with this token: one name
abbrev pub use_of : Token → Option Named → Replaced
use_of token None = kept token
use_of token (Some found) = record {
  tokens = in_place token (tok.Name (variable_name found.space found.name)) ∷ [];
  behind = found.width;
}

-- a head that begins with this token, behind `on`: `timer` and one name
abbrev pub head_of : Token → Option Named → Replaced
head_of token None = kept token
head_of token (Some found) = record {
  tokens = in_place token (tok.Word word.Timer)
      ∷ in_place token (tok.Name (timer_name found.space found.name)) ∷ [];
  behind = found.width;
}

-- what stands in the place of a token, which may stand behind `on`, and of some of the rest
abbrev pub replaced : List SysItem → Bool → Token → List Token → Replaced
replaced items behind_on token rest =
    if is_at token.tok then use_of token (named items (toks rest))
    else (if behind_on && is_sysvar token.tok then head_of token (named items (toks rest))
    else kept token)

-- tokens, from left to right: of which so many are passed over, since they belong to a form before them, and
-- which may stand behind `on`
unfoldable pub lowered_from : List SysItem → ℕ → Bool → List Token → List Token
lowered_from items passed behind_on [] = []
lowered_from items zero behind_on (token ∷ rest) =
    let there = replaced items behind_on token rest in
    there.tokens ++ lowered_from items there.behind (is_on token.tok) rest
lowered_from items (suc passed) behind_on (token ∷ rest) =
    lowered_from items passed (is_on token.tok) rest

-- the tokens of a file, with names in place of system variables
abbrev pub lowered : List SysItem → List Token → List Token
lowered items tokens = lowered_from items 0 false tokens
