-- The block of declarations that stands before a program's own: each system variable, and for each a hidden
-- timer that runs its procedures. It is this project's own.
use Rattle.std.specs.Prelude.{ℕ, ◌+◌, false, List, [], ◌∷◌, ◌++◌, length, map, flat_map, Some, None, ℤ, pos, negsuc}
use Rattle.int_kinds.specs.declared.kinds.Kind.TheVariants as kind
use Rattle.int_kinds.specs.declared.operators.UnOp.TheVariants as un
use Rattle.capl_lexer.specs.declared.token.Tok.{Tok}
use Rattle.capl_lexer.specs.declared.token.Tok.TheVariants as tok
use Rattle.capl_lexer.specs.declared.token.Token.{Token}
use Rattle.capl_lexer.specs.declared.token.Word.TheVariants as word
use Rattle.capl_lexer.specs.declared.token.Sign.TheVariants as sign
use Rattle.capl_tree.specs.declared.expr.Expr.{Expr}
use Rattle.capl_tree.specs.declared.expr.Expr.TheVariants as expr
use Rattle.capl_tree.specs.declared.declaration.Decl.{Decl}
use Rattle.capl_tree.specs.declared.declaration.DeclType.TheVariants as type
use Rattle.capl_tree.specs.declared.declaration.Init.TheVariants.{One}
use Rattle.capl_tree.specs.declared.file.FileTree.{FileTree}
use Rattle.capl_tree.specs.declared.file.TopItem.TheVariants as top
use Rattle.capl_tree.specs.Forms as form
use Rattle.sys_vars.specs.declared.item.SysItem.{SysItem}
use Rattle.sys_vars.specs.Name.{variable_name, timer_name}

-- `VALUE`: its digits, behind `-` where it is below 0
abbrev pub value_toks : ℤ → List Tok
value_toks (pos n) = tok.Num false (Some n) ∷ []
value_toks (negsuc n) = tok.Sign sign.Minus ∷ tok.Num false (Some (n + 1)) ∷ []

-- `long SPACE::NAME = VALUE ;`
abbrev pub variable_toks : SysItem → List Tok
variable_toks item =
    tok.Word word.Long ∷ tok.Name (variable_name item.space item.name) ∷ tok.Sign sign.Assign
    ∷ (value_toks item.value ++ tok.Sign sign.Semi ∷ [])

-- `msTimer` and the name of its hidden timer, and `;`
abbrev pub timer_toks : SysItem → List Tok
timer_toks item =
    tok.Word word.MsTimer ∷ tok.Name (timer_name item.space item.name) ∷ tok.Sign sign.Semi ∷ []

-- `variables { }` with all variables and then all their timers, in order
abbrev pub prelude_toks : List SysItem → List Tok
prelude_toks items =
    tok.Word word.Variables ∷ tok.Sign sign.OpenBrace
    ∷ (flat_map variable_toks items ++ flat_map timer_toks items ++ tok.Sign sign.CloseBrace ∷ [])

-- a token that stands in no file: its places, its line and its column are 0
abbrev pub unplaced : Tok → Token
unplaced what = record { tok = what; from = 0; to = 0; line = 0; column = 0 }

-- the tokens of the prelude
abbrev pub prelude_tokens : List SysItem → List Token
prelude_tokens items = map unplaced (prelude_toks items)

-- the tree of a value whose first token has this number
abbrev pub value_tree : ℕ → ℤ → Expr
value_tree at (pos n) = expr.Num (Some n) false at
value_tree at (negsuc n) = form.Unary un.Minus (expr.Num (Some (n + 1)) false (at + 1)) at

-- the declaration of a variable whose first token has this number
abbrev pub variable_declaration : ℕ → SysItem → Decl
variable_declaration at item = record {
  what = type.Number kind.Long false;
  items = record {
    name = variable_name item.space item.name;
    at = at + 1;
    size = None;
    init = Some (One (value_tree (at + 3) item.value));
  } ∷ [];
  at = at;
}

-- the declaration of its hidden timer
abbrev pub timer_declaration : ℕ → SysItem → Decl
timer_declaration at item = record {
  what = type.Millis;
  items = record {
    name = timer_name item.space item.name;
    at = at + 1;
    size = None;
    init = None;
  } ∷ [];
  at = at;
}

-- declarations in order, where the first token has this number and each has these tokens
abbrev pub declared_in_order : (ℕ → SysItem → Decl) → (SysItem → List Tok) → ℕ → List SysItem → List Decl
declared_in_order declaration tokens at [] = []
declared_in_order declaration tokens at (item ∷ items) =
    declaration at item
    ∷ declared_in_order declaration tokens (at + length (tokens item)) items

-- the tree of the prelude: each variable in order, and then each hidden timer in order
abbrev pub prelude_tree : List SysItem → FileTree
prelude_tree items = record {
  items = top.Variables
      (declared_in_order variable_declaration variable_toks 2 items
      ++ declared_in_order timer_declaration timer_toks (2 + length (flat_map variable_toks items)) items)
      ∷ [];
}
