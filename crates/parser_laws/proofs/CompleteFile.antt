-- A file whose parts stand in their places is what is read from its tokens.
use Rattle.std.proofs.Common.{append_assoc, ◌≡◌, ◌≢◌, ◌-◌, ℕ, zero, suc, ◌+◌, ◌≤◌, ◌<◌, Bool, true, false, List, [], ◌∷◌, ◌++◌, length, Option, Some, None, refl, ap, sym, subst, ◌∙◌, arith}
use Rattle.std.specs.Prelude.{⊤, codes}
use Rattle.std.specs.List.{All}
use Rattle.std.proofs.lemmas.List.Elements.{All-head, All-tail}
use Rattle.texts.specs.declared.text.Text.{Text}
use Rattle.int_kinds.specs.declared.kinds.Kind.{Kind}
use Rattle.int_kinds.specs.declared.kinds.Kind.TheVariants as kind
use Rattle.capl_lexer.specs.declared.token.Tok.{Tok}
use Rattle.capl_lexer.specs.declared.token.Tok.TheVariants as tok
use Rattle.capl_lexer.specs.declared.token.Word.TheVariants as word
use Rattle.capl_lexer.specs.declared.token.Sign.TheVariants as sign
use Rattle.capl_tree.specs.declared.expr.Expr.{Expr}
use Rattle.capl_tree.specs.declared.expr.Expr.TheVariants as expr
use Rattle.capl_tree.specs.declared.declaration.Decl.{Decl}
use Rattle.capl_tree.specs.declared.statement.Stmt.{Stmt}
use Rattle.capl_tree.specs.declared.statement.Stmt.TheVariants as stmt
use Rattle.capl_tree.specs.declared.procedure.Proc.{Proc}
use Rattle.capl_tree.specs.declared.procedure.Head.{Head}
use Rattle.capl_tree.specs.declared.procedure.Head.TheVariants as head
use Rattle.capl_tree.specs.declared.procedure.Param.{Param}
use Rattle.capl_tree.specs.declared.procedure.Sel.{Sel}
use Rattle.capl_tree.specs.declared.procedure.SelWhat.{SelWhat}
use Rattle.capl_tree.specs.declared.procedure.SelWhat.TheVariants as selected
use Rattle.capl_tree.specs.declared.file.TopItem.{TopItem}
use Rattle.capl_tree.specs.declared.file.TopItem.TheVariants as top
use Rattle.capl_tree.specs.declared.file.FileTree.{FileTree}
use Rattle.capl_tree.specs.Grammar.{IsBodyPart, IsDeclaration, IsNumeral, IsSelection, IsSelector, IsHead, IsProcedure, IsTopItem, IsFile}
use Rattle.capl_tree.specs.Binding.{kind_word}
use Rattle.capl_tree.specs.Spelling.{expression, declaration, further, separated}
use Rattle.capl_tree.specs.Placed.{IsAt, IsPlaced, EachBefore, IsDeclarationPlaced}
use Rattle.capl_tree.specs.FileSpelling as spell
use Rattle.capl_tree.specs.FileSpelling.{each, braced, Voids}
use Rattle.capl_tree.specs.FilePlaced.{EachPlaced, IsStatementPlaced, IsSelectionPlaced, IsSelectorPlaced, IsParameterPlaced, IsHeadPlaced, IsProcedurePlaced, IsTopItemPlaced}
use Rattle.capl_tree.specs.Tree.{AreInPlace, IsTreeOf}
use Rattle.expr_parser.specs.Operators.{kind_at, kind_of}
use Rattle.expr_parser.specs.Reading.{Read, begins, begins_word, behind, after, items}
use Rattle.expr_parser.proofs.Lists.{EachRead, items_complete}
use Rattle.parser_laws.specs.Statement.{Parts, until, begins_declaration, ends_body, body_part, body, block, statement}
use Rattle.parser_laws.specs.File as read
use Rattle.parser_laws.specs.File.{name, included, numeral, range, one_selection, selection, channel_named, on_channel, named_selector, selector, key, named_event, event, parameter_of, parameter, parameters, signature, function_of, procedure_head, procedure, includes, variables, top_item, is_end, file}
use Rattle.parser_laws.proofs.Chains.{Chain, until_chain, IsRead, each_chain, each_both}
use Rattle.parser_laws.proofs.Starts.{declaration_declares, starts_part, no_else, no_end, part_starts}
use Rattle.parser_laws.proofs.Known.{AreComplete}
use Rattle.parser_laws.proofs.Lengths.{statement_longer, statement_strict}
use Rattle.parser_laws.proofs.ReadForms.{Follows, end_no_else, declared_part, statement_part}
use Rattle.parser_laws.proofs.CompleteStatement.{all_read}

abbrev param_given : Param → List Tok → Read Param
param_given p ts = Some (p, ts)

abbrev proc_given : Proc → List Tok → Read Proc
proc_given p ts = Some (p, ts)

-- the word of a kind is that of the kind, and neither `on` nor `void` nor one of the blocks of a file
kind_found : (k : Kind) → kind_of (kind_word k) ≡ Some k
kind_found kind.Byte = refl
kind_found kind.Word = refl
kind_found kind.Dword = refl
kind_found kind.Qword = refl
kind_found kind.Int = refl
kind_found kind.Long = refl
kind_found kind.Int64 = refl
kind_found kind.Char = refl

kind_no_void : (k : Kind) (ts : List Tok) → begins_word word.Void (tok.Word (kind_word k) ∷ ts) ≡ false
kind_no_void kind.Byte ts = refl
kind_no_void kind.Word ts = refl
kind_no_void kind.Dword ts = refl
kind_no_void kind.Qword ts = refl
kind_no_void kind.Int ts = refl
kind_no_void kind.Long ts = refl
kind_no_void kind.Int64 ts = refl
kind_no_void kind.Char ts = refl

kind_head : (total : ℕ) (k : Kind) (ts : List Tok) → procedure_head total (tok.Word (kind_word k) ∷ ts) ≡ signature total (Some k) ts
unfolding procedure_head function_of
kind_head total kind.Byte ts = refl
kind_head total kind.Word ts = refl
kind_head total kind.Dword ts = refl
kind_head total kind.Qword ts = refl
kind_head total kind.Int ts = refl
kind_head total kind.Long ts = refl
kind_head total kind.Int64 ts = refl
kind_head total kind.Char ts = refl

kind_item : (parts : Parts) (k : Kind) (ts : List Tok) → (begins_word word.Includes (tok.Word (kind_word k) ∷ ts) ≡ false) × (begins_word word.Variables (tok.Word (kind_word k) ∷ ts) ≡ false)
kind_item parts kind.Byte ts = (refl, refl)
kind_item parts kind.Word ts = (refl, refl)
kind_item parts kind.Dword ts = (refl, refl)
kind_item parts kind.Qword ts = (refl, refl)
kind_item parts kind.Int ts = (refl, refl)
kind_item parts kind.Long ts = (refl, refl)
kind_item parts kind.Int64 ts = (refl, refl)
kind_item parts kind.Char ts = (refl, refl)

-- Selectors.

-- the numbers of a range, or one number
ids_read : (total : ℕ) (value : Option ℕ) (ext : Bool) (first : ℕ) (high : Option Expr) (at : ℕ) (ts : List Tok)
    → (let low = expr.Num value ext first in IsSelection (selected.Ids low high at) → IsSelectionPlaced total (selected.Ids low high at) ts → begins sign.Minus ts ≡ false
    → selection total (spell.selection (selected.Ids low high at) ts) ≡ Some (selected.Ids low high at, ts))
unfolding selection one_selection range
ids_read total value ext first None at ts well placed over =
    let is : at ≡ total - suc (length ts) = omega (arith, placed.0) in
    let is_first : first ≡ total - suc (length ts) = omega (arith, placed.1) in
    rw (is, is_first, over) refl
ids_read total value ext first (Some (expr.Num last mark second)) at ts well placed over =
    let is : at ≡ total - suc (suc (suc (length ts))) = omega (arith, placed.0) in
    let is_first : first ≡ total - suc (suc (suc (length ts))) = omega (arith, placed.1) in
    let is_second : second ≡ total - suc (length ts) = omega (arith, placed.2) in
    rw (is, is_first, is_second) refl
ids_read total value ext first (Some high) at ts well placed over = absurd (well.1 high refl)

-- which frames of a channel
selection_read : (total : ℕ) (what : SelWhat) (ts : List Tok) → IsSelection what → IsSelectionPlaced total what ts → begins sign.Minus ts ≡ false
    → selection total (spell.selection what ts) ≡ Some (what, ts)
unfolding selection one_selection
selection_read total (selected.Any at) ts well placed over = let is : at ≡ total - suc (length ts) = omega (arith, placed) in rw is refl
selection_read total (selected.Name text at) ts well placed over = let is : at ≡ total - suc (length ts) = omega (arith, placed) in rw is refl
selection_read total (selected.Ids (expr.Num value ext first) high at) ts well placed over = ids_read total value ext first high at ts well placed over
selection_read total (selected.Ids _ high at) ts well placed over = absurd well.0

-- neither a range nor a channel goes on in these tokens
abbrev IsOver : List Tok → Type 0
IsOver ts = (begins sign.Minus ts ≡ false) × (begins sign.Dot ts ≡ false)

-- a selector of no channel
plain_read : (total : ℕ) (what : SelWhat) (ts : List Tok) → IsSelection what → IsSelectionPlaced total what ts → IsOver ts
    → selector total (spell.selection what ts) ≡ Some (record { chan = 0; what = what }, ts)
unfolding selector named_selector on_channel
plain_read total (selected.Name text at) ts well placed over =
    let is : at ≡ total - suc (length ts) = omega (arith, placed) in rw (is, over.1) refl
plain_read total (selected.Any at) ts well placed over =
    rw (selection_read total (selected.Any at) ts well placed over.0) refl
plain_read total (selected.Ids (expr.Num value ext first) high at) ts well placed over =
    rw (selection_read total (selected.Ids (expr.Num value ext first) high at) ts well placed over.0) refl
plain_read total (selected.Ids _ high at) ts well placed over = absurd well.0

-- a selector, by its channel
channel_read : (total chan : ℕ) (what : SelWhat) (ts : List Tok) → chan ≤ 2 → IsSelection what → IsSelectionPlaced total what ts → IsOver ts
    → selector total (spell.channel chan (spell.selection what ts)) ≡ Some (record { chan = chan; what = what }, ts)
unfolding selector named_selector on_channel
channel_read total zero what ts known well placed over = plain_read total what ts well placed over
channel_read total (suc zero) what ts known well placed over = rw (selection_read total what ts well placed over.0) refl
channel_read total (suc (suc zero)) what ts known well placed over = rw (selection_read total what ts well placed over.0) refl
channel_read total (suc (suc (suc chan))) what ts known well placed over = absurd (omega (arith, known))

-- a selector
selector_read : (total : ℕ) (s : Sel) (ts : List Tok) → IsSelector s → IsSelectorPlaced total s ts → IsOver ts
    → selector total (spell.selector s ts) ≡ Some (s, ts)
selector_read total s ts well placed over = channel_read total s.chan s.what ts well.0 well.1 placed over

further_over : (others : List Sel) (rest : List Tok) → IsOver rest → IsOver (further spell.selector others rest)
further_over [] rest over = over
further_over (s ∷ others) rest over = (refl, refl)

selectors_each : (total : ℕ) (all : List Sel) (rest : List Tok) → All IsSelector all → EachBefore spell.selector (IsSelectorPlaced total) all rest
    → IsOver rest → EachRead (selector total) spell.selector all rest
selectors_each total [] rest well placed over = tt
selectors_each total (s ∷ others) rest well placed over = (
  selector_read total s (further spell.selector others rest) (All-head IsSelector s others well) placed.0 (further_over others rest over),
  selectors_each total others rest (All-tail IsSelector s others well) placed.1 over,
)

-- Functions.

parameter_read : (total : ℕ) (p : Param) (ts : List Tok) → IsParameterPlaced total p ts → parameter total (spell.parameter p ts) ≡ Some (p, ts)
unfolding parameter parameter_of
parameter_read total p ts placed =
    let is : p.at ≡ total - suc (length ts) = omega (arith, placed) in
    rw (kind_found p.kind) (ap (λ (at : ℕ). param_given (record { kind = p.kind; name = p.name; at = at }) ts) (sym is))

parameters_each : (total : ℕ) (all : List Param) (rest : List Tok) → EachBefore spell.parameter (IsParameterPlaced total) all rest
    → EachRead (parameter total) spell.parameter all rest
parameters_each total [] rest placed = tt
parameters_each total (p ∷ others) rest placed =
    (parameter_read total p (further spell.parameter others rest) placed.0, parameters_each total others rest placed.1)

parameters_read : (total : ℕ) (params : List Param) (void : Bool) (rest : List Tok)
    → EachBefore spell.parameter (IsParameterPlaced total) params (tok.Sign sign.CloseParen ∷ rest)
    → parameters total (spell.parameters params void (tok.Sign sign.CloseParen ∷ rest)) ≡ Some (params, rest)
unfolding parameters after
parameters_read total [] true rest placed = refl
parameters_read total [] false rest placed = refl
parameters_read total (p ∷ others) void rest placed =
    rw (
      kind_no_void p.kind (tok.Name p.name ∷ further spell.parameter others (tok.Sign sign.CloseParen ∷ rest)),
      items_complete (parameter total) spell.parameter p others (tok.Sign sign.CloseParen ∷ rest)
          (parameters_each total (p ∷ others) (tok.Sign sign.CloseParen ∷ rest) placed) (λ item ts. omega arith) refl,
    ) refl

signature_read : (total : ℕ) (of : Option Kind) (text : Text) (params : List Param) (at : ℕ) (void : Bool) (rest : List Tok)
    → IsAt total at (spell.signature text params void rest)
    → EachBefore spell.parameter (IsParameterPlaced total) params (tok.Sign sign.CloseParen ∷ rest)
    → signature total of (spell.signature text params void rest) ≡ Some (head.Function of text params at, rest)
unfolding signature after
signature_read total of text params at void rest here placed =
    let is : at ≡ total - length (spell.signature text params void rest) = omega (arith, here) in
    rw (is, parameters_read total params void rest placed) refl

function_read : (total : ℕ) (of : Option Kind) (text : Text) (params : List Param) (at : ℕ) (before between : Bool) (rest : List Tok)
    → IsAt total at (spell.signature text params between rest)
    → EachBefore spell.parameter (IsParameterPlaced total) params (tok.Sign sign.CloseParen ∷ rest)
    → procedure_head total (spell.gives of before (spell.signature text params between rest)) ≡ Some (head.Function of text params at, rest)
unfolding procedure_head function_of
function_read total (Some k) text params at before between rest here placed =
    kind_head total k (spell.signature text params between rest) ∙ signature_read total (Some k) text params at between rest here placed
function_read total None text params at true between rest here placed = signature_read total None text params at between rest here placed
function_read total None text params at false between rest here placed = signature_read total None text params at between rest here placed

-- Heads.

module _ (parts : Parts) (known : AreComplete parts) where
  selection_longer : (what : SelWhat) (ts : List Tok) → length ts < length (spell.selection what ts)
  selection_longer (selected.Any at) ts = omega arith
  selection_longer (selected.Name text at) ts = omega arith
  selection_longer (selected.Ids low None at) ts = known.value_longer low ts
  selection_longer (selected.Ids low (Some high) at) ts =
      omega (arith, known.value_longer high ts, known.value_longer low (tok.Sign sign.Minus ∷ expression high ts))

  channel_longer : (chan : ℕ) (ts : List Tok) → length ts ≤ length (spell.channel chan ts)
  channel_longer zero ts = omega arith
  channel_longer (suc zero) ts = omega arith
  channel_longer (suc (suc zero)) ts = omega arith
  channel_longer (suc (suc (suc chan))) ts = omega arith

  selector_longer : (s : Sel) (ts : List Tok) → length ts < length (spell.selector s ts)
  selector_longer s ts = omega (arith, selection_longer s.what ts, channel_longer s.chan (spell.selection s.what ts))

  head_read : (voids : Voids) (of : Head) (ts : List Tok) → IsHead of → IsHeadPlaced parts.total voids of (tok.Sign sign.OpenBrace ∷ ts)
      → procedure_head parts.total (spell.procedure_head voids of (tok.Sign sign.OpenBrace ∷ ts)) ≡ Some (of, tok.Sign sign.OpenBrace ∷ ts)
  unfolding procedure_head event named_event key after
  head_read voids head.PreStart ts well placed = refl
  head_read voids head.Start ts well placed = refl
  head_read voids head.Stop ts well placed = refl
  head_read voids (head.Message []) ts well placed = absurd (well.0 refl)
  head_read voids (head.Message (s ∷ others)) ts well placed =
      rw (items_complete (selector parts.total) spell.selector s others (tok.Sign sign.OpenBrace ∷ ts)
      (selectors_each parts.total (s ∷ others) (tok.Sign sign.OpenBrace ∷ ts) well.1 placed (refl, refl)) selector_longer refl) refl
  head_read voids (head.Timer text at) ts well placed =
      let is : at ≡ parts.total - suc (suc (length ts)) = omega (arith, placed) in rw is refl
  head_read voids (head.Key None) ts well placed = refl
  head_read voids (head.Key (Some value)) ts well placed = refl
  head_read voids (head.Function of text params at) ts well placed =
      function_read parts.total of text params at voids.before voids.between (tok.Sign sign.OpenBrace ∷ ts) placed.0 placed.1

  separated_longer : {A : Type 0} (one : A → List Tok → List Tok) (all : List A) (ts : List Tok)
      → ((item : A) (ts : List Tok) → length ts < length (one item ts)) → length ts ≤ length (separated one all ts)
  separated_longer one [] ts longer = omega arith
  separated_longer {A} one (item ∷ others) ts longer = omega (arith, longer item (further one others ts), further_longer others)
    where
      further_longer : (others : List A) → length ts ≤ length (further one others ts)
      further_longer [] = omega arith
      further_longer (item ∷ others) = omega (arith, longer item (further one others ts), further_longer others)

  parameters_longer : (params : List Param) (void : Bool) (ts : List Tok) → length ts ≤ length (spell.parameters params void ts)
  parameters_longer [] true ts = omega arith
  parameters_longer [] false ts = omega arith
  parameters_longer (p ∷ others) void ts = separated_longer spell.parameter (p ∷ others) ts (λ item ts. omega arith)

  function_longer : (of : Option Kind) (void : Bool) (ts : List Tok) → length ts ≤ length (spell.gives of void ts)
  function_longer (Some k) void ts = omega arith
  function_longer None true ts = omega arith
  function_longer None false ts = omega arith

  head_longer : (voids : Voids) (of : Head) (ts : List Tok) → length ts < length (spell.procedure_head voids of ts)
  head_longer voids head.PreStart ts = omega arith
  head_longer voids head.Start ts = omega arith
  head_longer voids head.Stop ts = omega arith
  head_longer voids (head.Message selectors) ts = omega (arith, separated_longer spell.selector selectors ts selector_longer)
  head_longer voids (head.Timer text at) ts = omega arith
  head_longer voids (head.Key None) ts = omega arith
  head_longer voids (head.Key (Some value)) ts = omega arith
  head_longer voids (head.Function of text params at) ts =
      omega (arith, function_longer of voids.before (spell.signature text params voids.between ts), parameters_longer params voids.between (tok.Sign sign.CloseParen ∷ ts))

  -- Bodies.

  each_no_else : (all : List Stmt) (ts : List Tok) → All IsBodyPart all → ends_body ts ≡ true → begins_word word.Else (each spell.statement all ts) ≡ false
  each_no_else [] ts well over = end_no_else ts over
  each_no_else (s ∷ others) ts well over =
      no_else (spell.statement s (each spell.statement others ts)) (part_starts s (each spell.statement others ts) (All-head IsBodyPart s others well))

  -- one of them
  one_read : (s : Stmt) → IsBodyPart s → (depth : ℕ) (ts : List Tok) → IsStatementPlaced parts.total s ts → begins_word word.Else ts ≡ false
      → length (spell.statement s ts) ≤ depth → body_part parts (statement parts depth) (spell.statement s ts) ≡ Some (s, ts)
  one_read (stmt.Decl declared) well depth ts placed no_else small = declared_part parts known declared (statement parts depth) ts well placed
  one_read s well depth ts placed no_else small = statement_part parts known s (statement parts depth) ts well (all_read parts known depth s ts well placed (λ _. no_else) small)

  list_chain : (all : List Stmt) (depth : ℕ) (ts : List Tok) → All IsBodyPart all → ends_body ts ≡ true → EachPlaced spell.statement (IsStatementPlaced parts.total) all ts
      → length (each spell.statement all ts) ≤ depth → Chain ends_body (body_part parts (statement parts depth)) all (each spell.statement all ts) ts
  list_chain [] depth ts well over placed small = (refl, over)
  list_chain (s ∷ others) depth ts well over placed small =
      let left = each spell.statement others ts in
      let one = All-head IsBodyPart s others well in
      let rest = All-tail IsBodyPart s others well in
      let longer = statement_strict parts known s left one in (
        left,
        no_end (spell.statement s left) (part_starts s left one),
        one_read s one depth left placed.0 (each_no_else others ts rest over) small,
        longer,
        list_chain others depth ts rest over placed.1 (omega (arith, longer)),
      )

  procedure_read : (voids : Voids) (p : Proc) (ts : List Tok) → IsProcedure p → IsProcedurePlaced parts.total voids p ts
      → procedure parts (spell.procedure voids p ts) ≡ Some (p, ts)
  unfolding procedure block body after
  procedure_read voids p ts well placed =
      let inside = each spell.statement p.body (tok.Sign sign.CloseBrace ∷ ts) in
      let whole = spell.procedure voids p ts in
      let longer = head_longer voids p.head (braced spell.statement p.body ts) in
      let is : p.at ≡ parts.total - length whole = omega (arith, placed.0) in
      rw (
        head_read voids p.head inside well.0 placed.1,
        until_chain ends_body (body_part parts (statement parts parts.total)) (length inside) [] p.body inside (tok.Sign sign.CloseBrace ∷ ts)
            (list_chain p.body parts.total (tok.Sign sign.CloseBrace ∷ ts) well.1 refl placed.2 (omega (arith, longer, placed.0))) (omega arith),
      )
      (ap (λ (at : ℕ). proc_given (record { head = p.head; body = p.body; at = at }) ts) (sym is))

  -- Files.

  procedure_no_block : (voids : Voids) (of : Head) (ts : List Tok)
      → (begins_word word.Includes (spell.procedure_head voids of ts) ≡ false) × (begins_word word.Variables (spell.procedure_head voids of ts) ≡ false)
  procedure_no_block voids head.PreStart ts = (refl, refl)
  procedure_no_block voids head.Start ts = (refl, refl)
  procedure_no_block voids head.Stop ts = (refl, refl)
  procedure_no_block voids (head.Message selectors) ts = (refl, refl)
  procedure_no_block voids (head.Timer text at) ts = (refl, refl)
  procedure_no_block voids (head.Key value) ts = (refl, refl)
  procedure_no_block voids (head.Function of text params at) ts = by_kind of voids.before
    where
      by_kind : (of : Option Kind) (void : Bool)
          → (begins_word word.Includes (spell.gives of void (spell.signature text params voids.between ts)) ≡ false)
          × (begins_word word.Variables (spell.gives of void (spell.signature text params voids.between ts)) ≡ false)
      by_kind (Some k) void = kind_item parts k (spell.signature text params voids.between ts)
      by_kind None true = (refl, refl)
      by_kind None false = (refl, refl)

  include_read : (text : Text) (rest : List Tok) → IsRead (begins sign.CloseBrace) included spell.included text rest
  include_read text rest = (refl, refl, omega arith)

  includes_each : (names : List Text) (rest : List Tok) → EachPlaced spell.included (IsRead (begins sign.CloseBrace) included spell.included) names rest
  includes_each [] rest = tt
  includes_each (text ∷ names) rest = (include_read text (each spell.included names rest), includes_each names rest)

  declared_no_brace : (ts : List Tok) → begins_declaration ts ≡ true → begins sign.CloseBrace ts ≡ false
  declared_no_brace [] is = refl
  declared_no_brace (tok.Sign _ ∷ ts) is = absurd cc
  declared_no_brace (_ ∷ ts) is = refl

  declared_read : (d : Decl) (rest : List Tok) → IsDeclaration d → IsDeclarationPlaced parts.total d rest → IsRead (begins sign.CloseBrace) parts.declared declaration d rest
  declared_read d rest well placed = (declared_no_brace (declaration d rest) (declaration_declares d rest), known.declared d rest well placed, known.declared_longer d rest)

  item_read : (voids : Voids) (of : TopItem) (ts : List Tok) → IsTopItem of → IsTopItemPlaced parts.total voids of ts → top_item parts (spell.top_item voids of ts) ≡ Some (of, ts)
  unfolding top_item includes variables after
  item_read voids (top.Includes names) ts well placed =
      let inside = each spell.included names (tok.Sign sign.CloseBrace ∷ ts) in
      rw (until_chain (begins sign.CloseBrace) included (length inside) [] names inside (tok.Sign sign.CloseBrace ∷ ts)
      (each_chain (begins sign.CloseBrace) included spell.included names (tok.Sign sign.CloseBrace ∷ ts) refl (includes_each names (tok.Sign sign.CloseBrace ∷ ts))) (omega arith)) refl
  item_read voids (top.Variables declared) ts well placed =
      let inside = each declaration declared (tok.Sign sign.CloseBrace ∷ ts) in
      rw (until_chain (begins sign.CloseBrace) parts.declared (length inside) [] declared inside (tok.Sign sign.CloseBrace ∷ ts)
      (each_chain (begins sign.CloseBrace) parts.declared declaration declared (tok.Sign sign.CloseBrace ∷ ts) refl
      (each_both IsDeclaration (IsDeclarationPlaced parts.total) (IsRead (begins sign.CloseBrace) parts.declared declaration) declaration declared (tok.Sign sign.CloseBrace ∷ ts)
      declared_read well placed)) (omega arith)) refl
  item_read voids (top.Proc p) ts well placed =
      let none = procedure_no_block voids p.head (braced spell.statement p.body ts) in
      rw (none.0, none.1, procedure_read voids p ts well placed) refl

  item_longer : (voids : Voids) (of : TopItem) (ts : List Tok) → length ts < length (spell.top_item voids of ts)
  item_longer voids (top.Includes names) ts = omega (arith, names_longer names)
    where
      names_longer : (names : List Text) → length ts < length (each spell.included names (tok.Sign sign.CloseBrace ∷ ts))
      names_longer [] = omega arith
      names_longer (text ∷ names) = omega (arith, names_longer names)
  item_longer voids (top.Variables declared) ts = omega (arith, all_longer declared)
    where
      all_longer : (all : List Decl) → length ts < length (each declaration all (tok.Sign sign.CloseBrace ∷ ts))
      all_longer [] = omega arith
      all_longer (d ∷ all) = omega (arith, known.declared_longer d (each declaration all (tok.Sign sign.CloseBrace ∷ ts)), all_longer all)
  item_longer voids (top.Proc p) ts = omega (arith, head_longer voids p.head (braced spell.statement p.body ts), body_longer p.body)
    where
      body_longer : (all : List Stmt) → length ts < length (each spell.statement all (tok.Sign sign.CloseBrace ∷ ts))
      body_longer [] = omega arith
      body_longer (s ∷ all) = omega (arith, statement_longer parts known s (each spell.statement all (tok.Sign sign.CloseBrace ∷ ts)), body_longer all)

  some_end : (ts : List Tok) → 0 < length ts → is_end ts ≡ false
  some_end [] some = absurd (omega arith)
  some_end (t ∷ ts) some = refl

  items_chain : (all : List TopItem) (ts : List Tok) → All IsTopItem all → AreInPlace parts.total all ts → Chain is_end (top_item parts) all ts []
  items_chain [] ts well placed = (placed, refl)
  items_chain (of ∷ others) ts well placed =
      let voids = placed.0 in
      let rest = placed.1 in
      let same = placed.2 in
      let longer = item_longer voids of rest in (
        rest,
        some_end ts (omega (arith, ap length same, longer)),
        ap (top_item parts) same ∙ item_read voids of rest (All-head IsTopItem of others well) placed.3,
        omega (arith, ap length same, longer),
        items_chain others rest (All-tail IsTopItem of others well) placed.4,
      )

  -- the file that is spelled is the one that is read
  pub file_complete : (tree : FileTree) (ts : List Tok) → IsFile tree → AreInPlace parts.total tree.items ts → file parts ts ≡ Some (tree.items, [])
  unfolding file
  file_complete tree ts well placed = until_chain is_end (top_item parts) (suc (length ts)) [] tree.items ts [] (items_chain tree.items ts well placed) (omega arith)
