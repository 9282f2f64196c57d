-- That goals go the way of a reader: what tokens fulfil behind a reading.
use Rattle.std.proofs.Common.{◌≡◌, ℕ, zero, suc, ◌≤◌, ◌<◌, Bool, false, List, ◌∷◌, length, Some, None, refl}
use Rattle.std.specs.Prelude.{⊤}
use Rattle.capl_lexer.specs.declared.token.Tok.{Tok}
use Rattle.capl_lexer.specs.declared.token.Tok.TheVariants as tok
use Rattle.capl_lexer.specs.declared.token.Word.{Word}
use Rattle.capl_lexer.specs.declared.token.Sign.{Sign}
use Rattle.capl_tree.specs.declared.expr.Expr.{Expr}
use Rattle.capl_tree.specs.declared.declaration.Decl.{Decl}
use Rattle.expr_parser.specs.Reading.{Read, and_then, begins, begins_word}
use Rattle.expr_parser.specs.Operators.{kind_at, operator_at}
use Rattle.parser_laws.specs.Statement.{Parts}
use Rattle.viable_prefixes.specs.declared.goal.Goal.TheVariants as goal
use Rattle.viable_prefixes.specs.Inside.Token.{is_sign, is_word, kind_in, operator_in}
use Rattle.viable_prefixes.specs.Inside.Stack.{Stack}
use Rattle.viable_prefixes.specs.Inside.Expression.{declaration_from}
use Rattle.viable_prefixes.specs.Inside.Goals.{accepts, accepts_behind}

-- whether something was read, and the tokens behind it fulfil the goals
abbrev pub goes : {A : Type 0} → Read A → Stack → Bool
goes None stack = false
goes (Some found) stack = accepts stack found.1

-- what is read behind what was read first
pub goes_on : {A B : Type 0} (read : Read A) (next : A → List Tok → Read B) (stack other : Stack)
    → ((a : A) (rest : List Tok) → read ≡ Some (a, rest) → accepts stack rest ≡ goes (next a rest) other)
    → goes read stack ≡ goes (and_then read next) other
goes_on None next stack other same = refl
goes_on (Some found) next stack other same = same found.0 found.1 refl

-- a reader of expressions goes the way of their goal at a level. No expression is read at the level 0, where
-- nothing binds too weakly, and a reading with turns left wants an operator at the end of the file too.
abbrev pub GoesAt : (ℕ → List Tok → Read Expr) → ℕ → List Tok → Stack → Type 0
GoesAt inner zero ts stack = ⊤
GoesAt inner (suc level) ts stack = accepts (goal.Expression (suc level) ∷ stack) ts ≡ goes (inner (suc level) ts) stack

-- it does so on at most so many tokens, and leaves less than it is given
pub record IsFollowed (inner : ℕ → List Tok → Read Expr) (most : ℕ) : Type 0 where
  pub same : (level : ℕ) (ts : List Tok) (stack : Stack) → length ts ≤ most → GoesAt inner level ts stack
  pub less : (level : ℕ) (ts : List Tok) (e : Expr) (rest : List Tok) → inner level ts ≡ Some (e, rest) → length rest < length ts

-- the readers of the parts of statements go the way of their goals, and leave less than they are given
pub record AreFollowed (parts : Parts) : Type 0 where
  pub value : IsFollowed parts.value parts.total
  pub declared_same : (t : Tok) (ts : List Tok) (stack : Stack) → length (t ∷ ts) ≤ parts.total →
      accepts_behind (declaration_from t stack) ts ≡ goes (parts.declared (t ∷ ts)) stack
  pub declared_less : (ts : List Tok) (d : Decl) (rest : List Tok) → parts.declared ts ≡ Some (d, rest) → length rest < length ts

-- what the first of tokens is
pub sign_first : (wanted : Sign) (t : Tok) (ts : List Tok) → begins wanted (t ∷ ts) ≡ is_sign wanted t
sign_first wanted (tok.Sign found) ts = refl
sign_first wanted (tok.Name name) ts = refl
sign_first wanted (tok.Word found) ts = refl
sign_first wanted (tok.Num ext value) ts = refl
sign_first wanted tok.Float ts = refl
sign_first wanted (tok.Char value) ts = refl
sign_first wanted (tok.Str text) ts = refl
sign_first wanted (tok.Include text) ts = refl
sign_first wanted tok.Directive ts = refl

-- the same of a word
pub word_first : (wanted : Word) (t : Tok) (ts : List Tok) → begins_word wanted (t ∷ ts) ≡ is_word wanted t
word_first wanted (tok.Word found) ts = refl
word_first wanted (tok.Name name) ts = refl
word_first wanted (tok.Sign found) ts = refl
word_first wanted (tok.Num ext value) ts = refl
word_first wanted tok.Float ts = refl
word_first wanted (tok.Char value) ts = refl
word_first wanted (tok.Str text) ts = refl
word_first wanted (tok.Include text) ts = refl
word_first wanted tok.Directive ts = refl

-- the same of the word of a kind
pub kind_first : (t : Tok) (ts : List Tok) → kind_at (t ∷ ts) ≡ kind_in t
kind_first (tok.Word found) ts = refl
kind_first (tok.Name name) ts = refl
kind_first (tok.Sign found) ts = refl
kind_first (tok.Num ext value) ts = refl
kind_first tok.Float ts = refl
kind_first (tok.Char value) ts = refl
kind_first (tok.Str text) ts = refl
kind_first (tok.Include text) ts = refl
kind_first tok.Directive ts = refl

-- the same of an operator
pub operator_first : (t : Tok) (ts : List Tok) → operator_at (t ∷ ts) ≡ operator_in t
operator_first (tok.Sign found) ts = refl
operator_first (tok.Name name) ts = refl
operator_first (tok.Word found) ts = refl
operator_first (tok.Num ext value) ts = refl
operator_first tok.Float ts = refl
operator_first (tok.Char value) ts = refl
operator_first (tok.Str text) ts = refl
operator_first (tok.Include text) ts = refl
operator_first tok.Directive ts = refl
