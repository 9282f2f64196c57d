-- A file that small tokens spell is small, and it is light.
use Rattle.std.proofs.Common.{◌≡◌, ℕ, zero, suc, ◌+◌, ◌*◌, ◌≤◌, Bool, true, false, List, [], ◌∷◌, length, Option, Some, None, ap, subst, arith}
use Rattle.std.specs.Prelude.{⊤, sum_by}
use Rattle.std.specs.List.{AllByRecursion, AllZip}
use Rattle.std.proofs.lemmas.List.Elements.{recursion_from_All}
use Rattle.std.proofs.lemmas.List.Sums.{sum_by-cons}
use Rattle.int_kinds.specs.declared.kinds.Kind.{Kind}
use Rattle.capl_lexer.specs.declared.token.Tok.{Tok}
use Rattle.capl_lexer.specs.declared.token.Tok.TheVariants as tok
use Rattle.capl_lexer.specs.declared.token.Sign.TheVariants as sign
use Rattle.capl_tree.specs.declared.expr.Expr.{Expr}
use Rattle.capl_tree.specs.declared.statement.Stmt.{Stmt}
use Rattle.capl_tree.specs.declared.procedure.Proc.{Proc}
use Rattle.capl_tree.specs.declared.procedure.Head.{Head}
use Rattle.capl_tree.specs.declared.procedure.Head.TheVariants as head
use Rattle.capl_tree.specs.declared.procedure.Param.{Param}
use Rattle.capl_tree.specs.declared.procedure.SelWhat.{SelWhat}
use Rattle.capl_tree.specs.declared.procedure.SelWhat.TheVariants as selected
use Rattle.capl_tree.specs.declared.file.TopItem.{TopItem}
use Rattle.capl_tree.specs.declared.file.TopItem.TheVariants as top
use Rattle.capl_tree.specs.declared.file.FileTree.{FileTree}
use Rattle.capl_tree.specs.Grammar.{IsBodyPart, IsFile, IsProcedure, IsTopItem}
use Rattle.capl_tree.specs.Spelling.{declaration}
use Rattle.capl_tree.specs.FileSpelling as spell
use Rattle.capl_tree.specs.FileSpelling.{Voids, each}
use Rattle.capl_tree.specs.Tree.{AreInPlace, IsTreeOf}
use Rattle.capl_tree.specs.Weight.{file_weight, procedure_weight, statement_weight, top_item_weight}
use Rattle.sound_programs.specs.Small.{IsShortList, IsSmallDecl, IsSmallHead, IsSmallItem, IsSmallProcedure, IsSmallStmt}
use Rattle.small_trees.specs.Tokens.{AreSmallToks, IsSmallText}
use Rattle.small_trees.proofs.LightStatements.{statement_light, statement_longer}
use Rattle.small_trees.proofs.Longer.{IsLonger, declaration_longer, each_longer, expression_longer, separated_longer, separated_with_commas}
use Rattle.small_trees.proofs.SmallExpressions.{expression_small}
use Rattle.small_trees.proofs.SmallDeclarations.{IsSmallWhere, declaration_small, each_small, separated_small}
use Rattle.small_trees.proofs.SmallStatements.{statement_small}

-- ---- heads

-- what is behind the first number of a selector
range_longer : (high : Option Expr) (ts : List Tok) → length ts ≤ length (spell.range_end high ts)
range_longer None ts = omega arith
range_longer (Some high) ts = omega (arith, expression_longer high ts)

-- which frames of a channel
selection_longer : IsLonger spell.selection
selection_longer (selected.Any at) ts = omega arith
selection_longer (selected.Name name at) ts = omega arith
selection_longer (selected.Ids low high at) ts = omega (arith, expression_longer low (spell.range_end high ts), range_longer high ts)

selection_small : (what : SelWhat) (ts : List Tok) → IsShortList (spell.selection what ts) → AreSmallToks (spell.selection what ts) → AreSmallToks ts
selection_small (selected.Any at) ts short small = small.1
selection_small (selected.Name name at) ts short small = small.1
selection_small (selected.Ids low high at) ts short small = by high (omega (arith, short, expression_longer low (spell.range_end high ts)))
    (expression_small low (spell.range_end high ts) short small).1
  where
    by : (high : Option Expr) → IsShortList (spell.range_end high ts) → AreSmallToks (spell.range_end high ts) → AreSmallToks ts
    by None short small = small
    by (Some high) short small = (expression_small high ts (omega (arith, short)) small.1).1

-- the channel of a selector
channel_longer : (chan : ℕ) (ts : List Tok) → length ts ≤ length (spell.channel chan ts)
channel_longer zero ts = omega arith
channel_longer (suc zero) ts = omega arith
channel_longer (suc (suc zero)) ts = omega arith
channel_longer (suc (suc (suc n))) ts = omega arith

channel_small : (chan : ℕ) (ts : List Tok) → AreSmallToks (spell.channel chan ts) → AreSmallToks ts
channel_small zero ts small = small
channel_small (suc zero) ts small = small.1.1
channel_small (suc (suc zero)) ts small = small.1.1
channel_small (suc (suc (suc n))) ts small = small

-- a selector
selector_longer : IsLonger spell.selector
selector_longer one ts = omega (arith, selection_longer one.what ts, channel_longer one.chan (spell.selection one.what ts))

selector_small : IsSmallWhere spell.selector (λ selector. ⊤)
selector_small one ts short small =
    let behind = spell.selection one.what ts in
    (tt, selection_small one.what ts (omega (arith, short, channel_longer one.chan behind)) (channel_small one.chan behind small))

-- a parameter
parameter_longer : IsLonger spell.parameter
parameter_longer p ts = omega arith

parameter_small : IsSmallWhere spell.parameter (λ p. ⊤)
parameter_small p ts short small = (tt, small.1.1)

-- parameters
pub parameters_longer : (all : List Param) (void : Bool) (ts : List Tok) → length all + length ts ≤ length (spell.parameters all void ts)
parameters_longer [] true ts = omega arith
parameters_longer [] false ts = omega arith
parameters_longer (p ∷ all) true ts = separated_longer spell.parameter parameter_longer (p ∷ all) ts
parameters_longer (p ∷ all) false ts = separated_longer spell.parameter parameter_longer (p ∷ all) ts

parameters_small : (all : List Param) (void : Bool) (ts : List Tok) → IsShortList (spell.parameters all void ts) → AreSmallToks (spell.parameters all void ts) →
    AreSmallToks ts
parameters_small [] true ts short small = small.1
parameters_small [] false ts short small = small
parameters_small (p ∷ all) true ts short small =
    (separated_small spell.parameter (λ p. ⊤) parameter_longer parameter_small (p ∷ all) ts short small).1
parameters_small (p ∷ all) false ts short small =
    (separated_small spell.parameter (λ p. ⊤) parameter_longer parameter_small (p ∷ all) ts short small).1

-- what a function gives
pub gives_longer : (kind : Option Kind) (void : Bool) (ts : List Tok) → length ts ≤ length (spell.gives kind void ts)
gives_longer (Some kind) true ts = omega arith
gives_longer (Some kind) false ts = omega arith
gives_longer None true ts = omega arith
gives_longer None false ts = omega arith

gives_small : (kind : Option Kind) (void : Bool) (ts : List Tok) → AreSmallToks (spell.gives kind void ts) → AreSmallToks ts
gives_small (Some kind) true ts small = small.1
gives_small (Some kind) false ts small = small.1
gives_small None true ts small = small.1
gives_small None false ts small = small

-- the key of a procedure
key_longer : (value : Option ℕ) (ts : List Tok) → length ts ≤ length (spell.key value ts)
key_longer None ts = omega arith
key_longer (Some value) ts = omega arith

key_small : (value : Option ℕ) (ts : List Tok) → AreSmallToks (spell.key value ts) → AreSmallToks ts
key_small None ts small = small.1
key_small (Some value) ts small = small.1

-- a head
pub head_longer : (voids : Voids) (h : Head) (ts : List Tok) → length ts ≤ length (spell.procedure_head voids h ts)
head_longer voids head.PreStart ts = omega arith
head_longer voids head.Start ts = omega arith
head_longer voids head.Stop ts = omega arith
head_longer voids (head.Message selectors) ts = omega (arith, separated_longer spell.selector selector_longer selectors ts)
head_longer voids (head.Timer name at) ts = omega arith
head_longer voids (head.Key value) ts = omega (arith, key_longer value ts)
head_longer voids (head.Function kind name all at) ts =
    let behind = tok.Sign sign.CloseParen ∷ ts in
    omega (arith, gives_longer kind voids.before (spell.signature name all voids.between ts), parameters_longer all voids.between behind)

head_small : (voids : Voids) (h : Head) (ts : List Tok) → IsShortList (spell.procedure_head voids h ts) → AreSmallToks (spell.procedure_head voids h ts) →
    IsSmallHead h × AreSmallToks ts
head_small voids head.PreStart ts short small = (tt, small.1.1)
head_small voids head.Start ts short small = (tt, small.1.1)
head_small voids head.Stop ts short small = (tt, small.1.1)
head_small voids (head.Message selectors) ts short small = (
  omega (arith, short, separated_with_commas spell.selector selector_longer selectors ts),
  (separated_small spell.selector (λ s. ⊤) selector_longer selector_small selectors ts (omega (arith, short)) small.1.1).1,
)
head_small voids (head.Timer name at) ts short small = (tt, small.1.1.1)
head_small voids (head.Key value) ts short small = (tt, key_small value ts small.1.1)
head_small voids (head.Function kind name all at) ts short small =
    let behind = tok.Sign sign.CloseParen ∷ ts in
    let signed = gives_small kind voids.before (spell.signature name all voids.between ts) small in
    let less = gives_longer kind voids.before (spell.signature name all voids.between ts) in
    let inner : IsShortList (spell.parameters all voids.between behind) = omega (arith, short, less) in
    (omega (arith, inner, parameters_longer all voids.between behind), (parameters_small all voids.between behind inner signed.1.1).1)

-- ---- bodies

-- the statements of a body
body_small : (body : List Stmt) (ts : List Tok) → AllByRecursion IsBodyPart body → IsShortList (each spell.statement body ts) →
    AreSmallToks (each spell.statement body ts) → AllByRecursion IsSmallStmt body × AreSmallToks ts
body_small [] ts are short small = (tt, small)
body_small (s ∷ body) ts are short small =
    let behind = each spell.statement body ts in
    let one = statement_small s behind are.0 short small in
    let two = body_small body ts are.1 (omega (arith, short, statement_longer s behind are.0)) one.1 in
    ((one.0, two.0), two.1)

body_longer : (body : List Stmt) (ts : List Tok) → AllByRecursion IsBodyPart body → length body + length ts ≤ length (each spell.statement body ts)
body_longer [] ts are = omega arith
body_longer (s ∷ body) ts are = omega (arith, statement_longer s (each spell.statement body ts) are.0, body_longer body ts are.1)

body_light : (body : List Stmt) (ts : List Tok) → AllByRecursion IsBodyPart body →
    sum_by statement_weight body + 8 * length ts ≤ 8 * length (each spell.statement body ts)
body_light [] ts are = omega arith
body_light (s ∷ body) ts are =
    omega (arith, sum_by-cons statement_weight s body, statement_light s (each spell.statement body ts) are.0, body_light body ts are.1)

-- ---- parts of a file

-- a procedure
procedure_small : (voids : Voids) (p : Proc) (ts : List Tok) → IsProcedure p → IsShortList (spell.procedure voids p ts) →
    AreSmallToks (spell.procedure voids p ts) → IsSmallProcedure p × AreSmallToks ts
procedure_small voids p ts is short small =
    let last = tok.Sign sign.CloseBrace ∷ ts in
    let behind = tok.Sign sign.OpenBrace ∷ each spell.statement p.body last in
    let are = recursion_from_All IsBodyPart p.body is.1 in
    let one = head_small voids p.head behind short small in
    let two_short : IsShortList (each spell.statement p.body last) = omega (arith, short, head_longer voids p.head behind) in
    let two = body_small p.body last are two_short one.1.1 in (
      record { head = one.0; few_statements = omega (arith, two_short, body_longer p.body last are); statements = two.0 },
      two.1.1,
    )

procedure_light : (voids : Voids) (p : Proc) (ts : List Tok) → IsProcedure p → procedure_weight p + 8 * length ts ≤ 8 * length (spell.procedure voids p ts)
procedure_light voids p ts is =
    let last = tok.Sign sign.CloseBrace ∷ ts in
    let behind = tok.Sign sign.OpenBrace ∷ each spell.statement p.body last in
    omega (arith, head_longer voids p.head behind, body_light p.body last (recursion_from_All IsBodyPart p.body is.1))

-- the name of an included file
included_longer : IsLonger spell.included
included_longer name ts = omega arith

included_small : IsSmallWhere spell.included (λ name. ⊤)
included_small name ts short small = (tt, small.1)

-- a part of a file
item_small : (voids : Voids) (item : TopItem) (ts : List Tok) → IsTopItem item → IsShortList (spell.top_item voids item ts) →
    AreSmallToks (spell.top_item voids item ts) → IsSmallItem item × AreSmallToks ts
item_small voids (top.Includes names) ts is short small =
    let last = tok.Sign sign.CloseBrace ∷ ts in
    (tt, (each_small spell.included (λ name. ⊤) included_longer included_small names last (omega (arith, short)) small.1.1).1.1)
item_small voids (top.Variables declarations) ts is short small =
    let last = tok.Sign sign.CloseBrace ∷ ts in
    let it = each_small declaration IsSmallDecl declaration_longer declaration_small declarations last (omega (arith, short)) small.1.1 in
    (it.0, it.1.1)
item_small voids (top.Proc p) ts is short small = procedure_small voids p ts is short small

-- an item weighs at most eight times as much as there are tokens that spell it
pub item_light : (voids : Voids) (item : TopItem) (ts : List Tok) → IsTopItem item → top_item_weight item + 8 * length ts ≤ 8 * length (spell.top_item voids item ts)
item_light voids (top.Includes names) ts is = omega (arith, each_longer spell.included included_longer names (tok.Sign sign.CloseBrace ∷ ts))
item_light voids (top.Variables declarations) ts is = omega (arith, each_longer declaration declaration_longer declarations (tok.Sign sign.CloseBrace ∷ ts))
item_light voids (top.Proc p) ts is = procedure_light voids p ts is

-- ---- files

items_small : (total : ℕ) (items : List TopItem) (tokens : List Tok) → AllByRecursion IsTopItem items → AreInPlace total items tokens → IsShortList tokens →
    AreSmallToks tokens → AllByRecursion IsSmallItem items
items_small total [] tokens are place short small = tt
items_small total (item ∷ items) tokens are place short small =
    let whole = spell.top_item place.0 item place.1 in
    let whole_short = subst IsShortList place.2 short in
    let one = item_small place.0 item place.1 are.0 whole_short (subst AreSmallToks place.2 small) in
    (one.0, items_small total items place.1 are.1 place.4 (omega (arith, whole_short, item_light place.0 item place.1 are.0)) one.1)

items_light : (total : ℕ) (items : List TopItem) (tokens : List Tok) → AllByRecursion IsTopItem items → AreInPlace total items tokens →
    sum_by top_item_weight items ≤ 8 * length tokens
items_light total [] tokens are place = omega arith
items_light total (item ∷ items) tokens are place =
    let same = ap length place.2 in
    omega (arith, sum_by-cons top_item_weight item items, same, item_light place.0 item place.1 are.0, items_light total items place.1 are.1 place.4)

-- the tree of small tokens
pub tree_small : (tokens : List Tok) (tree : FileTree) → IsTreeOf tokens tree → IsSmallText tokens → AllByRecursion IsSmallItem tree.items
tree_small tokens tree is text =
    items_small (length tokens) tree.items tokens (recursion_from_All IsTopItem tree.items is.well_formed) is.spelled_in_place text.0 text.1

-- the weight of a tree
pub tree_light : (tokens : List Tok) (tree : FileTree) → IsTreeOf tokens tree → file_weight tree ≤ 8 * length tokens
tree_light tokens tree is =
    items_light (length tokens) tree.items tokens (recursion_from_All IsTopItem tree.items is.well_formed) is.spelled_in_place

-- ---- programs

-- the trees of small texts are well formed
pub trees_formed : (texts : List (List Tok)) (files : List FileTree) → AllZip IsTreeOf texts files → AllByRecursion IsFile files
trees_formed [] [] are = tt
trees_formed [] (file ∷ files) are = absurd are
trees_formed (text ∷ texts) [] are = absurd are
trees_formed (text ∷ texts) (file ∷ files) are = (are.0.well_formed, trees_formed texts files are.1)

-- and small
pub trees_small : (texts : List (List Tok)) (files : List FileTree) → AllZip IsTreeOf texts files → AllByRecursion IsSmallText texts →
    AllByRecursion (λ file. AllByRecursion IsSmallItem file.items) files
trees_small [] [] are small = tt
trees_small [] (file ∷ files) are small = absurd are
trees_small (text ∷ texts) [] are small = absurd are
trees_small (text ∷ texts) (file ∷ files) are small = (tree_small text file are.0 small.0, trees_small texts files are.1 small.1)

-- and light
pub trees_light : (texts : List (List Tok)) (files : List FileTree) → AllZip IsTreeOf texts files → sum_by file_weight files ≤ 8 * sum_by length texts
trees_light [] [] are = omega arith
trees_light [] (file ∷ files) are = absurd are
trees_light (text ∷ texts) [] are = absurd are
trees_light (text ∷ texts) (file ∷ files) are =
    let many : sum_by length (text ∷ texts) ≡ length text + sum_by length texts = sum_by-cons length text texts in
    omega (arith, many, sum_by-cons file_weight file files, tree_light text file are.0, trees_light texts files are.1)
