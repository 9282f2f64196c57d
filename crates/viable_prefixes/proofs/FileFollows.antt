-- The goals of a file go the way of its reader.
use Rattle.std.proofs.Common.{◌≡◌, ℕ, suc, ◌+◌, ◌≤◌, ◌<◌, Bool, true, false, List, [], ◌∷◌, ◌++◌, length, Option, Some, None, refl, sym, ap, ◌∙◌, arith}
use Rattle.std.specs.Prelude.{is_some}
use Rattle.int_kinds.specs.declared.kinds.Kind.{Kind}
use Rattle.capl_lexer.specs.declared.token.Tok.{Tok}
use Rattle.capl_lexer.specs.declared.token.Tok.TheVariants as tok
use Rattle.capl_lexer.specs.declared.token.Word.{Word}
use Rattle.capl_lexer.specs.declared.token.Word.TheVariants as word
use Rattle.capl_lexer.specs.declared.token.Sign.TheVariants as sign
use Rattle.capl_tree.specs.declared.file.TopItem.{TopItem}
use Rattle.capl_tree.specs.declared.file.FileTree.{FileTree}
use Rattle.capl_grammar.specs.File.{IsSourceOf}
use Rattle.capl_grammar.proofs.SameFile.{read, written}
use Rattle.capl_tree.specs.declared.file.TopItem.TheVariants as top
use Rattle.expr_parser.specs.Reading.{Read, and_then, begins}
use Rattle.expr_parser.specs.Operators.{kind_of}
use Rattle.parser_laws.specs.Statement.{Parts, parts_of}
use Rattle.parser_laws.specs.File.{included, includes, variables, signature, function_of, procedure_head, procedure, top_item, is_end, file}
use Rattle.parser_laws.proofs.Whole.{tree_read, read_tree}
use Rattle.viable_prefixes.specs.declared.goal.Goal.{Goal}
use Rattle.viable_prefixes.specs.declared.goal.Goal.TheVariants as goal
use Rattle.viable_prefixes.specs.Inside.Token.{is_sign}
use Rattle.viable_prefixes.specs.Inside.Stack.{Stack, when}
use Rattle.viable_prefixes.specs.Inside.File as from
use Rattle.viable_prefixes.specs.Inside.Goals.{accepts, accepts_behind}
use Rattle.viable_prefixes.proofs.Follows.{goes, AreFollowed, sign_first}
use Rattle.viable_prefixes.proofs.Together.{leads, leads_goes, Goes, goes_then, read_here, gives, goes_made, sign_goes, until_goes, braced}
use Rattle.viable_prefixes.proofs.StatementFollows.{body_goes}
use Rattle.viable_prefixes.proofs.HeadFollows.{event_goes, signature_goes}

-- where the names of included files end
includes_stop : (ts : List Tok) (stack : Stack) → begins sign.CloseBrace ts ≡ true → accepts (goal.Includes ∷ stack) ts ≡ accepts (goal.Sign sign.CloseBrace ∷ stack) ts
includes_stop (tok.Sign of ∷ ts) stack is = refl
includes_stop (_ ∷ ts) stack is = absurd cc
includes_stop [] stack is = absurd cc

-- the name of an included file, where no brace ends them
includes_on : (most : ℕ) (ts : List Tok) (stack : Stack) → length ts ≤ most → begins sign.CloseBrace ts ≡ false
    → accepts (goal.Includes ∷ stack) ts ≡ leads (included ts) (accepts (goal.Includes ∷ stack))
includes_on most (tok.Sign of ∷ ts) stack fits is = rw is refl
includes_on most (_ ∷ ts) stack fits is = refl
includes_on most [] stack fits is = refl

included_less : (most : ℕ) (ts : List Tok) (text : List ℕ) (rest : List Tok) → length ts ≤ most → included ts ≡ Some (text, rest) → length rest < length ts
included_less most (tok.Include name ∷ ts) text rest fits e = let fewer = (gives name ts).less text rest e in omega arith
included_less most (_ ∷ ts) text rest fits e = absurd cc
included_less most [] text rest fits e = absurd cc

-- behind `includes`
includes_goes : (ts : List Tok) → Goes (goal.Sign sign.OpenBrace ∷ goal.Includes ∷ []) (includes ts) ts 2
unfolding includes
includes_goes ts =
    goes_then (sign_goes sign.OpenBrace ts) (λ u ts less.
    braced (begins sign.CloseBrace) included goal.Includes top.Includes (length ts) includes_stop (includes_on (length ts)) (included_less (length ts)) (λ stack. refl) ts (omega arith))

-- where declarations end
variables_stop : (ts : List Tok) (stack : Stack) → begins sign.CloseBrace ts ≡ true → accepts (goal.Variables ∷ stack) ts ≡ accepts (goal.Sign sign.CloseBrace ∷ stack) ts
variables_stop [] stack is = absurd cc
variables_stop (t ∷ ts) stack is = let brace : is_sign sign.CloseBrace t ≡ true = sym (sign_first sign.CloseBrace t ts) ∙ is in rw brace refl

none_read : {A : Type 0} (read : Read A) (wanted : List Tok → Bool) → ((a : A) (rest : List Tok) → read ≡ Some (a, rest) → ⊥) → false ≡ leads read wanted
none_read None wanted none = refl
none_read (Some found) wanted none = absurd (none found.0 found.1 refl)

module _ (parts : Parts) (known : AreFollowed parts) where
  -- a declaration, where no brace ends them
  variables_on : (ts : List Tok) (stack : Stack) → length ts ≤ parts.total → begins sign.CloseBrace ts ≡ false
      → accepts (goal.Variables ∷ stack) ts ≡ leads (parts.declared ts) (accepts (goal.Variables ∷ stack))
  variables_on [] stack fits is = none_read (parts.declared []) (accepts (goal.Variables ∷ stack)) (λ d rest e. let fewer = known.declared_less [] d rest e in omega arith)
  variables_on (t ∷ ts) stack fits is =
      let brace : is_sign sign.CloseBrace t ≡ false = sym (sign_first sign.CloseBrace t ts) ∙ is in
      rw brace (known.declared_same t ts (goal.Variables ∷ stack) fits ∙ leads_goes (parts.declared (t ∷ ts)) (goal.Variables ∷ stack))

  -- behind `variables`
  variables_goes : (ts : List Tok) → length ts ≤ parts.total → Goes (goal.Sign sign.OpenBrace ∷ goal.Variables ∷ []) (variables parts ts) ts 2
  unfolding variables
  variables_goes ts fits =
      goes_then (sign_goes sign.OpenBrace ts) (λ u ts less.
      braced (begins sign.CloseBrace) parts.declared goal.Variables top.Variables parts.total variables_stop variables_on
      (λ ts d rest fits e. known.declared_less ts d rest e) (λ stack. refl) ts (omega arith))

  -- a procedure behind its head
  procedure_goes : {goals : List Goal} {least : ℕ} (whole ts : List Tok) → length ts ≤ parts.total → Goes goals (procedure_head parts.total whole) ts least
      → Goes (goals ++ goal.Sign sign.OpenBrace ∷ goal.Body ∷ []) (procedure parts whole) ts (least + 2)
  unfolding procedure
  procedure_goes whole ts fits of =
      goes_then of (λ of rest one.
      goes_then (sign_goes sign.OpenBrace rest) (λ u rest two.
      goes_then (body_goes parts known rest (omega arith)) (λ body rest three. gives _ rest)))

  -- a part of a file goes the way of its goals, the goal of a file behind them, and takes a token
  record IsTurn (ts : List Tok) : Type 0 where
    same : (stack : Stack) → accepts (goal.File ∷ stack) ts ≡ leads (top_item parts ts) (accepts (goal.File ∷ stack))
    less : (one : TopItem) (rest : List Tok) → top_item parts ts ≡ Some (one, rest) → length rest < length ts

  -- by goals that come in place of the goal of a file, up to what is left
  turn : {goals : List Goal} {least : ℕ} (ts left : List Tok) → Goes goals (top_item parts ts) left least → length left < length ts + least
      → ((stack : Stack) → accepts (goal.File ∷ stack) ts ≡ accepts (goals ++ goal.File ∷ stack) left) → IsTurn ts
  turn ts left found below takes = record {
    same = λ stack. takes stack ∙ found.same (goal.File ∷ stack);
    less = λ one rest e. omega (arith, found.less one rest e);
  }

  -- a procedure, by the goals of its head
  head_turn : {goals : List Goal} {least : ℕ} (ts left : List Tok) → length left ≤ parts.total → length left < length ts + least
      → Goes goals (procedure_head parts.total ts) left least → top_item parts ts ≡ and_then (procedure parts ts) (λ of ts. read_here (top.Proc of) ts)
      → ((stack : Stack) → accepts (goal.File ∷ stack) ts ≡ accepts ((goals ++ goal.Sign sign.OpenBrace ∷ goal.Body ∷ []) ++ goal.File ∷ stack) left) → IsTurn ts
  head_turn {goals} {least} ts left fits below of same takes =
      let found : Goes (goals ++ goal.Sign sign.OpenBrace ∷ goal.Body ∷ []) (top_item parts ts) left (least + 2) = rw same (goes_made top.Proc (procedure_goes ts left fits of)) in
      turn ts left found (omega arith) takes

  -- no part of a file
  no_turn : (ts : List Tok) → procedure_head parts.total ts ≡ None → top_item parts ts ≡ and_then (procedure parts ts) (λ of ts. read_here (top.Proc of) ts)
      → ((stack : Stack) → accepts (goal.File ∷ stack) ts ≡ false) → IsTurn ts
  unfolding procedure
  no_turn ts none same ends =
      let read : top_item parts ts ≡ None = same ∙ rw none refl in
      record { same = λ stack. rw read (ends stack); less = λ one rest e. absurd cc }

  -- a function that the word of a kind may begin
  kind_turn : (kind : Option Kind) (of : Word) (ts : List Tok) → length ts ≤ parts.total
      → procedure_head parts.total (tok.Word of ∷ ts) ≡ function_of parts.total kind (tok.Word of ∷ ts)
      → top_item parts (tok.Word of ∷ ts) ≡ and_then (procedure parts (tok.Word of ∷ ts)) (λ of ts. read_here (top.Proc of) ts)
      → ((stack : Stack) → accepts (goal.File ∷ stack) (tok.Word of ∷ ts) ≡ accepts_behind (when (is_some kind) (from.function stack)) ts) → IsTurn (tok.Word of ∷ ts)
  unfolding function_of signature
  kind_turn None of ts fits head same takes = no_turn (tok.Word of ∷ ts) head same takes
  kind_turn (Some kind) of ts fits head same takes =
      let found : Goes (goal.Name ∷ goal.Sign sign.OpenParen ∷ goal.Parameters ∷ []) (procedure_head parts.total (tok.Word of ∷ ts)) ts 3 =
      rw head (signature_goes parts.total (Some kind) ts) in
      head_turn (tok.Word of ∷ ts) ts fits (omega arith) found same takes

  -- a part of a file
  top_turn : (ts : List Tok) → length ts ≤ parts.total → is_end ts ≡ false → IsTurn ts
  unfolding top_item procedure_head function_of signature
  top_turn [] fits is = absurd cc
  top_turn (tok.Word word.Includes ∷ ts) fits is = turn _ ts (includes_goes ts) (omega arith) (λ stack. refl)
  top_turn (tok.Word word.Variables ∷ ts) fits is = turn _ ts (variables_goes ts (omega arith)) (omega arith) (λ stack. refl)
  top_turn (tok.Word word.On ∷ ts) fits is = head_turn (tok.Word word.On ∷ ts) ts (omega arith) (omega arith) (event_goes parts.total ts) refl (λ stack. refl)
  top_turn (tok.Word word.Void ∷ ts) fits is = head_turn (tok.Word word.Void ∷ ts) ts (omega arith) (omega arith) (signature_goes parts.total None ts) refl (λ stack. refl)
  top_turn (tok.Word of ∷ ts) fits is = kind_turn (kind_of of) of ts (omega arith) refl refl (λ stack. refl)
  top_turn (tok.Name text ∷ ts) fits is =
      head_turn (tok.Name text ∷ ts) (tok.Name text ∷ ts) fits (omega arith) (signature_goes parts.total None (tok.Name text ∷ ts)) refl (λ stack. refl)
  top_turn (t ∷ ts) fits is = no_turn (t ∷ ts) refl refl (λ stack. refl)

  top_less : (ts : List Tok) (one : TopItem) (rest : List Tok) → length ts ≤ parts.total → top_item parts ts ≡ Some (one, rest) → length rest < length ts
  unfolding top_item procedure procedure_head function_of signature
  top_less [] one rest fits e = absurd cc
  top_less (t ∷ ts) one rest fits e = (top_turn (t ∷ ts) fits refl).less one rest e

  file_over : (ts : List Tok) → is_end ts ≡ true → accepts (goal.File ∷ []) ts ≡ accepts [] ts
  file_over [] is = refl
  file_over (t ∷ ts) is = absurd cc

  file_same : (ts : List Tok) → length ts ≤ parts.total → accepts (goal.File ∷ []) ts ≡ leads (file parts ts) (accepts [])
  unfolding file
  file_same ts fits =
      until_goes is_end (top_item parts) (accepts (goal.File ∷ [])) (accepts []) parts.total 1 (λ ts fits is. file_over ts is)
      (λ ts fits is. (top_turn ts fits is).same []) top_less (λ ts short. absurd (omega arith)) (suc (length ts)) [] ts fits (omega arith)

-- the goal of a file goes the way of its reader
pub file_followed : (parts : Parts) → AreFollowed parts → (ts : List Tok) → length ts ≤ parts.total → accepts (goal.File ∷ []) ts ≡ goes (file parts ts) []
file_followed parts known ts fits = file_same parts known ts fits ∙ sym (leads_goes (file parts ts) [])

-- what is read with no token left fulfils the goal of a file
pub tree_accepted : ((total : ℕ) → AreFollowed (parts_of total)) → (ts : List Tok) (tree : FileTree) → IsSourceOf ts tree → accepts (goal.File ∷ []) ts ≡ true
tree_accepted known ts tree is =
    file_followed (parts_of (length ts)) (known (length ts)) ts (omega arith) ∙ ap (λ (read : Read (List TopItem)). goes read []) (tree_read ts tree (read ts tree is))

tree_of : (ts : List Tok) (read : Read (List TopItem)) → file (parts_of (length ts)) ts ≡ read → goes read [] ≡ true → (tree : FileTree) × IsSourceOf ts tree
tree_of ts None same is = absurd cc
tree_of ts (Some found) same is = (record { items = found.0 }, written ts (record { items = found.0 }) (read_tree ts found.0 found.1 same))

-- tokens that fulfil the goal of a file are those of a tree
pub accepted_tree : ((total : ℕ) → AreFollowed (parts_of total)) → (ts : List Tok) → accepts (goal.File ∷ []) ts ≡ true → (tree : FileTree) × IsSourceOf ts tree
accepted_tree known ts is =
    tree_of ts (file (parts_of (length ts)) ts) refl (sym (file_followed (parts_of (length ts)) (known (length ts)) ts (omega arith)) ∙ is)
