-- What is read is the tree, and the only one; where nothing is, there is none.
use Rattle.std.proofs.lemmas.Grind.{common_steps}
use Rattle.std.proofs.Common.{rules, arith, ◌≡◌, List, length, Some, None, Err, refl, subst}
use Rattle.capl_lexer.specs.declared.token.Tok.{Tok}
use Rattle.capl_nesting.specs.Tokens.{toks}
use Rattle.capl_tree.specs.declared.file.FileTree.{FileTree}
use Rattle.expr_parser.specs.declared.refusal.Refusal.{Refusal}
use Rattle.expr_parser.specs.Reading.{Gives}
use Rattle.parser_laws.specs.File.{file}
use Rattle.parser_laws.specs.Statement.{parts_of}
use Rattle.capl_parser.proofs.Whole.{tree_parsed, none_parsed, only_parsed}
use Rattle.capl_parser.proofs.parsing.parse.Goals as goal

pub returns-in-Ok-clause-tree : goal.returns-in-Ok-clause-tree
returns-in-Ok-clause-tree c =
    tree_parsed c.args.tokens.now (length c.args.tokens.now) c.in-Ok.items c.read_file.new.cursor refl
    (subst (λ (ts : List Tok). file (parts_of (length c.args.tokens.now)) ts ≡ Some (c.in-Ok.items, c.read_file.new.cursor)) c.new-cursor.ensures c.in-Ok.ensures)

pub returns-in-Ok-clause-only : goal.returns-in-Ok-clause-only
returns-in-Ok-clause-only c =
    let is = tree_parsed c.args.tokens.now (length c.args.tokens.now) c.in-Ok.items c.read_file.new.cursor refl
    (subst (λ (ts : List Tok). file (parts_of (length c.args.tokens.now)) ts ≡ Some (c.in-Ok.items, c.read_file.new.cursor)) c.new-cursor.ensures c.in-Ok.ensures) in
    λ (other : FileTree) spelled. only_parsed (toks c.args.tokens.now) other (record { items = c.in-Ok.items }) spelled is

pub returns-in_ok-token-in-Err-NotSpelled-clause-refusal : goal.returns-in_ok-token-in-Err-NotSpelled-clause-refusal
returns-in_ok-token-in-Err-NotSpelled-clause-refusal c =
    let none : file (parts_of (length c.args.tokens.now)) (toks c.args.tokens.now) ≡ None =
    subst (λ (ts : List Tok). file (parts_of (length c.args.tokens.now)) ts ≡ None) c.new-cursor.ensures
    (subst (λ (why : Refusal). Gives (file (parts_of (length c.args.tokens.now)) c.new-cursor.result) (Err why) c.read_file.new.cursor) c.in-Err-NotSpelled.field-0-is
    c.in-Err-NotSpelled.ensures) in
    (first_of (search rules, grind (arith, common_steps)), none_parsed c.args.tokens.now (length c.args.tokens.now) refl none, c.in_ok-token-in-Err-NotSpelled.ensures)
