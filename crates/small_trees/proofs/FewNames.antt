-- A program declares no more variables than there are tokens that spell it, and has no more parts.
use Rattle.std.proofs.Common.{◌≡◌, ◌+◌, ◌≤◌, ◌<◌, ℕ, suc, List, [], ◌∷◌, ◌++◌, length, refl, ap, arith, length-append}
use Rattle.std.specs.Prelude.{flat_map, map, sum_by}
use Rattle.std.specs.List.{AllByRecursion, AllZip}
use Rattle.std.proofs.lemmas.List.{length-map}
use Rattle.std.proofs.lemmas.List.Elements.{recursion_from_All}
use Rattle.std.proofs.lemmas.List.Sums.{sum_by-cons}
use Rattle.capl_lexer.specs.declared.token.Tok.{Tok}
use Rattle.capl_lexer.specs.declared.token.Tok.TheVariants as tok
use Rattle.capl_lexer.specs.declared.token.Word.TheVariants as word
use Rattle.capl_lexer.specs.declared.token.Sign.TheVariants as sign
use Rattle.capl_tree.specs.declared.declaration.Decl.{Decl}
use Rattle.capl_tree.specs.declared.statement.Stmt.{Stmt, Row_of-Stmt, end_of-Stmt, more_of-Stmt}
use Rattle.capl_tree.specs.declared.statement.Stmt.TheBlock.{Row_of-Arm, end_of-Arm, more_of-Arm, Row_of-Group, end_of-Group, more_of-Group, Held-Stmt-If-1}
use Rattle.capl_tree.specs.declared.statement.Stmt.TheVariants as stmt
use Rattle.capl_tree.specs.declared.procedure.Head.{Head}
use Rattle.capl_tree.specs.declared.procedure.Head.TheVariants as head
use Rattle.capl_tree.specs.declared.procedure.Proc.{Proc}
use Rattle.capl_tree.specs.declared.file.TopItem.{TopItem}
use Rattle.capl_tree.specs.declared.file.TopItem.TheVariants as top
use Rattle.capl_tree.specs.declared.file.FileTree.{FileTree}
use Rattle.capl_tree.specs.Forms as form
use Rattle.capl_tree.specs.Grammar.{AreArms, AreGroups, AreStatements, IsBodyPart, IsElse, IsProcedure, IsTopItem}
use Rattle.capl_tree.specs.Spelling.{declaration, declarator, expression, separated}
use Rattle.capl_tree.specs.FileSpelling as spell
use Rattle.capl_tree.specs.FileSpelling.{Voids, each, label, part}
use Rattle.capl_tree.specs.Tree.{AreInPlace, IsTreeOf}
use Rattle.dbc_reader.specs.declared.message.DbcMessage.{DbcMessage}
use Rattle.capl_meaning.specs.Variable.{Part, Globals, Procedure, declarations_in, declarations_of, declarations_of_arms, declarations_of_else, declarations_of_groups, parameters_of, parts_of_files, parts_of_items, variable_of_parameter, variables_of_declaration, variables_of_part}
use Rattle.small_trees.proofs.Forms.{AreFurtherArms, arm_parts, as_part, group_parts, row_parts}
use Rattle.small_trees.proofs.LightExpressions.{part_light}
use Rattle.small_trees.proofs.Longer.{declarator_longer, each_longer, expression_longer, label_longer, separated_longer, type_longer}
use Rattle.small_trees.proofs.SmallFiles.{gives_longer, head_longer, item_light, parameters_longer}

-- how many variables declarations declare
abbrev count : List Decl → ℕ
count [] = 0
count (d ∷ ds) = length d.items + count ds

count-append : (xs ys : List Decl) → count (xs ++ ys) ≡ count xs + count ys
count-append [] ys = omega arith
count-append (d ∷ ds) ys = omega (arith, count-append ds ys)

-- ---- statements

-- a declaration
declaration_names : (d : Decl) (ts : List Tok) → length d.items + length ts ≤ length (declaration d ts)
declaration_names d ts =
    let behind = separated declarator d.items (tok.Sign sign.Semi ∷ ts) in
    omega (arith, type_longer d.what behind, separated_longer declarator declarator_longer d.items (tok.Sign sign.Semi ∷ ts))

-- declarations, one after another
declarations_names : (ds : List Decl) (ts : List Tok) → count ds + length ts ≤ length (each declaration ds ts)
declarations_names [] ts = omega arith
declarations_names (d ∷ ds) ts = omega (arith, declaration_names d (each declaration ds ts), declarations_names ds ts)

mutual
  -- a part of a body
  statement_names : (s : Stmt) (ts : List Tok) → IsBodyPart s → count (declarations_in s) + length ts ≤ length (spell.statement s ts)
  statement_names stmt.Empty ts is = omega arith
  statement_names (stmt.Block' shape body) ts is = omega (arith, statements_names body (tok.Sign sign.CloseBrace ∷ ts) is)
  statement_names (stmt.Decl declared) ts is = omega (arith, declaration_names declared ts)
  statement_names (stmt.Expr e) ts is = omega (arith, expression_longer e (tok.Sign sign.Semi ∷ ts))
  statement_names (stmt.If' shape arms other) ts is =
      omega (
        arith,
        count-append (declarations_of_arms arms) (declarations_of_else other),
        arms_names arms other (spell.last_else other ts) is.0,
        else_names other ts is.1,
      )
  statement_names (form.While test body) ts is =
      omega (arith, expression_longer test (tok.Sign sign.CloseParen ∷ spell.statement body ts), statement_names body ts (as_part body is.1))
  statement_names (form.Do body test) ts is =
      let behind = tok.Sign sign.CloseParen ∷ tok.Sign sign.Semi ∷ ts in
      omega (
        arith,
        expression_longer test behind,
        statement_names body (tok.Word word.While ∷ tok.Sign sign.OpenParen ∷ expression test behind) (as_part body is.0),
      )
  statement_names (form.For init test step body) ts is =
      let third = tok.Sign sign.CloseParen ∷ spell.statement body ts in
      let second = tok.Sign sign.Semi ∷ part step third in
      omega (
        arith,
        part_light init (tok.Sign sign.Semi ∷ part test second),
        part_light test second,
        part_light step third,
        statement_names body ts (as_part body is.3),
      )
  statement_names (stmt.Switch' on shape groups) ts is =
      let inner = spell.label_groups groups (tok.Sign sign.CloseBrace ∷ ts) in
      omega (
        arith,
        expression_longer on (tok.Sign sign.CloseParen ∷ tok.Sign sign.OpenBrace ∷ inner),
        groups_names groups (tok.Sign sign.CloseBrace ∷ ts) is.1,
      )
  statement_names (stmt.Break at) ts is = omega arith
  statement_names (stmt.Continue at) ts is = omega arith
  statement_names (stmt.Return value at) ts is = omega (arith, part_light value (tok.Sign sign.Semi ∷ ts))

  -- parts of a body
  statements_names : {m : _} (row : Row_of-Stmt m) (ts : List Tok) → AreStatements row →
      count (declarations_of row) + length ts ≤ length (spell.statements row ts)
  statements_names end_of-Stmt ts is = omega arith
  statements_names (more_of-Stmt first others) ts is =
      let parts = row_parts first others is in
      omega (
        arith,
        count-append (declarations_in first) (declarations_of others),
        statement_names first (spell.statements others ts) parts.0,
        statements_names others ts parts.1,
      )

  -- the first arm is the statement itself
  arms_names : {m : _} (row : Row_of-Arm m) (other : Held-Stmt-If-1) (ts : List Tok) → AreArms row other →
      count (declarations_of_arms row) + length ts ≤ length (spell.first_arm row ts)
  arms_names end_of-Arm other ts is = absurd is
  arms_names (more_of-Arm test body others) other ts is =
      let left = spell.further_arms others ts in
      let parts = arm_parts test body others other is in
      omega (
        arith,
        count-append (declarations_in body) (declarations_of_arms others),
        further_names others other ts parts.1,
        statement_names body left parts.0,
        expression_longer test (tok.Sign sign.CloseParen ∷ spell.statement body left),
      )

  -- arms behind the first
  further_names : {m : _} (row : Row_of-Arm m) (other : Held-Stmt-If-1) (ts : List Tok) → AreFurtherArms row other →
      count (declarations_of_arms row) + length ts ≤ length (spell.further_arms row ts)
  further_names end_of-Arm other ts is = omega arith
  further_names (more_of-Arm test body others) other ts is =
      let left = spell.further_arms others ts in
      let parts = arm_parts test body others other is in
      omega (
        arith,
        count-append (declarations_in body) (declarations_of_arms others),
        further_names others other ts parts.1,
        statement_names body left parts.0,
        expression_longer test (tok.Sign sign.CloseParen ∷ spell.statement body left),
      )

  -- what stands behind a last `else`
  else_names : (other : Held-Stmt-If-1) (ts : List Tok) → IsElse other → count (declarations_of_else other) + length ts ≤ length (spell.last_else other ts)
  else_names form.NoElse ts is = omega arith
  else_names (form.Else body) ts is = omega (arith, statement_names body ts (as_part body is.0))

  -- the groups of a `switch`
  groups_names : {m : _} (row : Row_of-Group m) (ts : List Tok) → AreGroups row → count (declarations_of_groups row) + length ts ≤ length (spell.label_groups row ts)
  groups_names end_of-Group ts is = omega arith
  groups_names (more_of-Group labels shape body others) ts is =
      let left = spell.label_groups others ts in
      let parts = group_parts labels shape body others is in
      omega (
        arith,
        count-append (declarations_of body) (declarations_of_groups others),
        groups_names others ts parts.2,
        statements_names body left parts.1,
        each_longer label label_longer labels (spell.statements body left),
      )

-- the statements of a body
body_names : (body : List Stmt) (ts : List Tok) → AllByRecursion IsBodyPart body →
    count (flat_map declarations_in body) + length ts ≤ length (each spell.statement body ts)
body_names [] ts are = omega arith
body_names (s ∷ body) ts are =
    omega (
      arith,
      count-append (declarations_in s) (flat_map declarations_in body),
      statement_names s (each spell.statement body ts) are.0,
      body_names body ts are.1,
    )

-- ---- parts of a file

-- a head
head_names : (voids : Voids) (h : Head) (ts : List Tok) → length (parameters_of h) + length ts ≤ length (spell.procedure_head voids h ts)
head_names voids head.PreStart ts = omega (arith, head_longer voids head.PreStart ts)
head_names voids head.Start ts = omega (arith, head_longer voids head.Start ts)
head_names voids head.Stop ts = omega (arith, head_longer voids head.Stop ts)
head_names voids (head.Message selectors) ts = omega (arith, head_longer voids (head.Message selectors) ts)
head_names voids (head.Timer name at) ts = omega (arith, head_longer voids (head.Timer name at) ts)
head_names voids (head.Key value) ts = omega (arith, head_longer voids (head.Key value) ts)
head_names voids (head.Function kind name all at) ts =
    let behind = tok.Sign sign.CloseParen ∷ ts in
    omega (arith, gives_longer kind voids.before (spell.signature name all voids.between ts), parameters_longer all voids.between behind)

-- the variables of declarations
declared_count : (base : List DbcMessage) (owner file : ℕ) (ds : List Decl) → length (flat_map (variables_of_declaration base owner file) ds) ≡ count ds
declared_count base owner file [] = refl
declared_count base owner file (d ∷ ds) =
    let one : length (variables_of_declaration base owner file d) ≡ length d.items = length-map d.items _ in
    let more = length-append (variables_of_declaration base owner file d) (flat_map (variables_of_declaration base owner file) ds) in
    omega (arith, one, more, declared_count base owner file ds)

-- how many variables parts declare
abbrev declared : List DbcMessage → List Part → ℕ
declared base parts = length (flat_map (variables_of_part base) parts)

-- a procedure
procedure_names : (base : List DbcMessage) (number file : ℕ) (voids : Voids) (p : Proc) (ts : List Tok) → IsProcedure p →
    length (variables_of_part base (Procedure number file p)) + length ts < length (spell.procedure voids p ts)
procedure_names base number file voids p ts is =
    let last = tok.Sign sign.CloseBrace ∷ ts in
    let behind = tok.Sign sign.OpenBrace ∷ each spell.statement p.body last in
    let inside = flat_map declarations_in p.body in
    let one : length (map (variable_of_parameter number file) (parameters_of p.head)) ≡ length (parameters_of p.head) =
    length-map (parameters_of p.head) (variable_of_parameter number file) in
    omega (
      arith,
      one,
      length-append (map (variable_of_parameter number file) (parameters_of p.head)) (flat_map (variables_of_declaration base number file) inside),
      declared_count base number file inside,
      head_names voids p.head behind,
      body_names p.body last (recursion_from_All IsBodyPart p.body is.1),
    )

-- the parts of a file's items, with those that follow
items_names : (base : List DbcMessage) (file total most : ℕ) (items : List TopItem) (tokens : List Tok) (number : ℕ) (others : ℕ → List Part) →
    AllByRecursion IsTopItem items → AreInPlace total items tokens → ((n : ℕ) → declared base (others n) ≤ most) →
    declared base (parts_of_items file items number others) ≤ length tokens + most
items_names base file total most [] tokens number others are place rest = omega (arith, rest number)
items_names base file total most (top.Includes names ∷ items) tokens number others are place rest =
    let same = ap length place.2 in
    omega (arith, same, item_light place.0 (top.Includes names) place.1 are.0, items_names base file total most items place.1 number others are.1 place.4 rest)
items_names base file total most (top.Variables ds ∷ items) tokens number others are place rest =
    let same = ap length place.2 in
    let more = parts_of_items file items number others in
    omega (
      arith,
      same,
      length-append (variables_of_part base (Globals file ds)) (flat_map (variables_of_part base) more),
      declared_count base 0 file ds,
      declarations_names ds (tok.Sign sign.CloseBrace ∷ place.1),
      items_names base file total most items place.1 number others are.1 place.4 rest,
    )
items_names base file total most (top.Proc p ∷ items) tokens number others are place rest =
    let same = ap length place.2 in
    let more = parts_of_items file items (suc number) others in
    omega (
      arith,
      same,
      length-append (variables_of_part base (Procedure number file p)) (flat_map (variables_of_part base) more),
      procedure_names base number file place.0 p place.1 are.0,
      items_names base file total most items place.1 (suc number) others are.1 place.4 rest,
    )

-- the same of how many there are
items_parts : (file total most : ℕ) (items : List TopItem) (tokens : List Tok) (number : ℕ) (others : ℕ → List Part) →
    AllByRecursion IsTopItem items → AreInPlace total items tokens → ((n : ℕ) → length (others n) ≤ most) →
    length (parts_of_items file items number others) ≤ length tokens + most
items_parts file total most [] tokens number others are place rest = omega (arith, rest number)
items_parts file total most (top.Includes names ∷ items) tokens number others are place rest =
    omega (arith, ap length place.2, item_light place.0 (top.Includes names) place.1 are.0, items_parts file total most items place.1 number others are.1 place.4 rest)
items_parts file total most (top.Variables ds ∷ items) tokens number others are place rest =
    omega (
      arith,
      ap length place.2,
      declarations_names ds (tok.Sign sign.CloseBrace ∷ place.1),
      items_parts file total most items place.1 number others are.1 place.4 rest,
    )
items_parts file total most (top.Proc p ∷ items) tokens number others are place rest =
    omega (
      arith,
      ap length place.2,
      procedure_names [] number file place.0 p place.1 are.0,
      items_parts file total most items place.1 (suc number) others are.1 place.4 rest,
    )

-- ---- programs

-- the variables of files
pub files_names : (base : List DbcMessage) (texts : List (List Tok)) (files : List FileTree) (file number : ℕ) → AllZip IsTreeOf texts files →
    declared base (parts_of_files file files number) ≤ sum_by length texts
files_names base [] [] file number are = omega arith
files_names base [] (tree ∷ trees) file number are = absurd are
files_names base (text ∷ texts) [] file number are = absurd are
files_names base (text ∷ texts) (tree ∷ trees) file number are =
    let many : sum_by length (text ∷ texts) ≡ length text + sum_by length texts = sum_by-cons length text texts in
    let formed = recursion_from_All IsTopItem tree.items are.0.well_formed in
    let one = items_names base file (length text) (sum_by length texts) tree.items text number (parts_of_files (suc file) trees) formed
    are.0.spelled_in_place (λ n. files_names base texts trees (suc file) n are.1) in
    omega (arith, many, one)

-- their parts
pub files_parts : (texts : List (List Tok)) (files : List FileTree) (file number : ℕ) → AllZip IsTreeOf texts files →
    length (parts_of_files file files number) ≤ sum_by length texts
files_parts [] [] file number are = omega arith
files_parts [] (tree ∷ trees) file number are = absurd are
files_parts (text ∷ texts) [] file number are = absurd are
files_parts (text ∷ texts) (tree ∷ trees) file number are =
    let many : sum_by length (text ∷ texts) ≡ length text + sum_by length texts = sum_by-cons length text texts in
    let formed = recursion_from_All IsTopItem tree.items are.0.well_formed in
    let one = items_parts file (length text) (sum_by length texts) tree.items text number (parts_of_files (suc file) trees) formed
    are.0.spelled_in_place (λ n. files_parts texts trees (suc file) n are.1) in
    omega (arith, many, one)

-- there are as many files as texts
pub files_counted : (texts : List (List Tok)) (files : List FileTree) → AllZip IsTreeOf texts files → length files ≡ length texts
files_counted [] [] are = refl
files_counted [] (tree ∷ trees) are = absurd are
files_counted (text ∷ texts) [] are = absurd are
files_counted (text ∷ texts) (tree ∷ trees) are = ap suc (files_counted texts trees are.1)
