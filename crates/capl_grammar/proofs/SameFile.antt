-- The grammar and the definitions of `capl_tree` say the same of a file.
use Rattle.std.proofs.Common.{◌≡◌, inl, inr, ℕ, zero, suc, ◌+◌, ◌≤◌, Bool, true, false, List, [], ◌∷◌, length, Option, Some, None, refl, ap, ◌∙◌, arith}
use Rattle.std.specs.Prelude.{⊤, codes}
use Rattle.std.specs.Option.{ForSome}
use Rattle.std.specs.List.{All}
use Rattle.std.proofs.lemmas.List.Elements.{All-cons, All-nil, All-head, All-tail}
use Rattle.texts.specs.declared.text.Text.{Text}
use Rattle.int_kinds.specs.declared.kinds.Kind.{Kind}
use Rattle.capl_lexer.specs.declared.token.Tok.{Tok}
use Rattle.capl_lexer.specs.declared.token.Tok.TheVariants as tok
use Rattle.capl_lexer.specs.declared.token.Word.TheVariants as word
use Rattle.capl_lexer.specs.declared.token.Sign.TheVariants as sign
use Rattle.capl_tree.specs.declared.expr.Expr.{Expr}
use Rattle.capl_tree.specs.declared.expr.Expr.TheVariants as expr
use Rattle.capl_tree.specs.declared.procedure.Proc.{Proc}
use Rattle.capl_tree.specs.declared.procedure.Head.{Head}
use Rattle.capl_tree.specs.declared.procedure.Head.TheVariants as head
use Rattle.capl_tree.specs.declared.procedure.Param.{Param}
use Rattle.capl_tree.specs.declared.procedure.Sel.{Sel}
use Rattle.capl_tree.specs.declared.procedure.SelWhat.{SelWhat}
use Rattle.capl_tree.specs.declared.procedure.SelWhat.TheVariants as selected
use Rattle.capl_tree.specs.declared.file.TopItem.{TopItem}
use Rattle.capl_tree.specs.declared.file.TopItem.TheVariants as top
use Rattle.capl_tree.specs.declared.file.FileTree.{FileTree}
use Rattle.capl_tree.specs.Grammar.{IsNumeral, IsSelection, IsSelector, IsHead, IsProcedure, IsTopItem}
use Rattle.capl_tree.specs.Spelling as spelled
use Rattle.capl_tree.specs.Binding.{kind_word}
use Rattle.capl_tree.specs.Placed.{IsAt, IsPlaced, EachBefore}
use Rattle.capl_tree.specs.FileSpelling as spelled_file
use Rattle.capl_tree.specs.FileSpelling.{Voids}
use Rattle.capl_tree.specs.FilePlaced.{IsPartPlaced, EachPlaced, IsSelectionPlaced, IsSelectorPlaced, IsParameterPlaced, IsHeadPlaced, IsProcedurePlaced, IsTopItemPlaced}
use Rattle.capl_tree.specs.Tree.{AreInPlace, IsTreeOf}
use Rattle.capl_grammar.specs.Expression.{Piece, VoidOrNothing, Spells}
use Rattle.capl_grammar.specs.File.{each, numeral, range_end, selection, channel, selector, key, parameter, gives, parameters, signature, procedure_head, procedure, included, top_item, IsSourceOf}
use Rattle.capl_grammar.proofs.Same.{Written, Chosen, Same, ItemSame, again, nothing, token, only, both, ended, became, placed, asked, never, free, missing, present, some_items, separated_same, braced_same}
use Rattle.capl_grammar.proofs.SameDeclaration.{declaration_same}
use Rattle.capl_grammar.proofs.SameStatement.{body_part_same}

-- what asks for nothing holds of each item
all_free : {A : Type 0} (items : List A) → All (λ (item : A). ⊤) items
all_free items k d below = tt

-- names have no place
names_free : (names : List Text) (rest : List Tok)
    → EachPlaced spelled_file.included (λ (name : Text) (rest : List Tok). ⊤) names rest
names_free [] rest = tt
names_free (name ∷ names) rest = (tt, names_free names rest)

-- no `void` at all
abbrev no_voids : Voids
no_voids = record { before = false; between = false }

module _ (total : ℕ) where
  -- Selectors.

  numeral_same : (e : Expr) → ItemSame total numeral spelled.expression IsNumeral (IsPlaced total) e
  numeral_same (expr.Num value ext at) = became (placed at (only (tok.Num ext value))) assumption
  numeral_same _ = never (λ choice rest h. h.0)

  range_end_same : (high : Option Expr)
      → Same total (range_end high) (spelled_file.range_end high)
      (λ rest. ForSome high IsNumeral × IsPartPlaced total high rest)
  range_end_same None = missing IsNumeral
  range_end_same (Some high) = present IsNumeral high (token (tok.Sign sign.Minus) (numeral_same high))

  selection_same : (what : SelWhat)
      → ItemSame total selection spelled_file.selection IsSelection (IsSelectionPlaced total) what
  selection_same (selected.Any at) = became (placed at (only (tok.Sign sign.Star))) assumption
  selection_same (selected.Name name at) = became (placed at (only (tok.Name name))) assumption
  selection_same (selected.Ids low high at) =
      became (placed at (both (numeral_same low) (range_end_same high))) assumption

  channel_same : (chan : ℕ) → Same total (channel chan) (spelled_file.channel chan) (λ rest. chan ≤ 2)
  channel_same zero = became nothing (λ choice rest. (λ h. omega arith, λ h. tt))
  channel_same (suc zero) =
      became (token (tok.Name (codes "CAN1")) (only (tok.Sign sign.Dot)))
      (λ choice rest. (λ h. omega arith, λ h. tt))
  channel_same (suc (suc zero)) =
      became (token (tok.Name (codes "CAN2")) (only (tok.Sign sign.Dot)))
      (λ choice rest. (λ h. omega arith, λ h. tt))
  channel_same (suc (suc (suc chan))) = never (λ choice rest known. omega (arith, known))

  selector_same : (s : Sel)
      → ItemSame total selector spelled_file.selector IsSelector (IsSelectorPlaced total) s
  selector_same s = became (both (channel_same s.chan) (selection_same s.what)) assumption

  -- Functions.

  parameter_same : (p : Param)
      → ItemSame total parameter spelled_file.parameter (λ p. ⊤) (IsParameterPlaced total) p
  parameter_same p =
      became (token (tok.Word (kind_word p.kind)) (placed p.at (only (tok.Name p.name)))) assumption

  void_written : (void : Bool) (behind : List Piece) (rest : List Tok) → Written total behind rest
      → Written total (VoidOrNothing ∷ behind) (spelled_file.gives None void rest)
  void_written true behind rest written number here =
      inr (rest, refl, written (suc number) (omega (arith, here)))
  void_written false behind rest written number here = inl (written number here)

  -- `void` or nothing
  void_same : Chosen {V = Bool} total (λ behind. VoidOrNothing ∷ behind) (spelled_file.gives None)
      (λ void rest. ⊤)
  void_same = record {
    reads = λ number behind tokens here spells.
        elim spells [
          | inl none ↦
              let found = (nothing {total = total}).reads number behind tokens here none in
              again found false found.spelled tt
          | inr void ↦
              let found = (only (tok.Word word.Void)).reads number behind tokens here void in
              again found true found.spelled tt
        ];
    writes = λ void behind rest h written. void_written void behind rest written;
  }

  -- what a function gives
  gives_same : (kind : Option Kind)
      → Chosen {V = Bool} total (gives kind) (spelled_file.gives kind) (λ void rest. ⊤)
  gives_same None = void_same
  gives_same (Some kind) = free false (only (tok.Word (kind_word kind)))

  parameters_same : (params : List Param)
      → Chosen {V = Bool} total (parameters params) (spelled_file.parameters params)
      (λ void rest. EachBefore spelled_file.parameter (IsParameterPlaced total) params rest)
  parameters_same [] = void_same
  parameters_same (first ∷ others) =
      free false
      (became (separated_same parameter_same (first ∷ others))
      (λ choice rest. (λ h. h.1, λ h. (all_free (first ∷ others), h))))

  signature_same : (name : Text) (params : List Param) (at : ℕ)
      → Chosen {V = Bool} total (signature name params at) (spelled_file.signature name params)
      (λ void rest. IsAt total at (spelled_file.signature name params void rest)
      × EachBefore spelled_file.parameter (IsParameterPlaced total) params (tok.Sign sign.CloseParen ∷ rest))
  signature_same name params at =
      placed at
      (token (tok.Name name)
      (token (tok.Sign sign.OpenParen) (ended (parameters_same params) (tok.Sign sign.CloseParen))))

  -- Procedures.

  key_same : (pressed : Option ℕ) → Same total (key pressed) (spelled_file.key pressed) (λ rest. ⊤)
  key_same None = only (tok.Sign sign.Star)
  key_same (Some pressed) = only (tok.Char pressed)

  head_same : (h : Head)
      → Chosen {V = Voids} total (procedure_head h) (λ voids. spelled_file.procedure_head voids h)
      (λ voids rest. IsHead h × IsHeadPlaced total voids h rest)
  head_same head.PreStart =
      free no_voids (became (token (tok.Word word.On) (only (tok.Name (codes "preStart")))) assumption)
  head_same head.Start =
      free no_voids (became (token (tok.Word word.On) (only (tok.Name (codes "start")))) assumption)
  head_same head.Stop =
      free no_voids (became (token (tok.Word word.On) (only (tok.Name (codes "stopMeasurement")))) assumption)
  head_same (head.Message selectors) =
      free no_voids
      (became
      (token (tok.Word word.On)
      (token (tok.Word word.Message) (asked (some_items selectors) (separated_same selector_same selectors))))
      assumption)
  head_same (head.Timer name at) =
      free no_voids
      (became
      (token (tok.Word word.On) (token (tok.Word word.Timer) (placed at (only (tok.Name name)))))
      assumption)
  head_same (head.Key pressed) =
      free no_voids
      (became (token (tok.Word word.On) (token (tok.Name (codes "key")) (key_same pressed))) assumption)
  head_same (head.Function kind name params at) =
      let before = gives_same kind in
      let function = signature_same name params at in
      record {
        reads = λ number behind tokens here spells.
            let first = before.reads number (signature name params at behind) tokens here spells in
            let second = function.reads first.number behind first.rest first.here first.goes_on in
            again second (record { before = first.choice; between = second.choice })
            (first.spelled ∙ ap (spelled_file.gives kind first.choice) second.spelled) (tt, second.holds);
        writes = λ voids behind rest h written.
            before.writes voids.before (signature name params at behind) _ tt
            (function.writes voids.between behind rest h.1 written);
      }

  procedure_same : (p : Proc)
      → Chosen {V = Voids} total (procedure p) (λ voids. spelled_file.procedure voids p)
      (λ voids rest. IsProcedure p × IsProcedurePlaced total voids p rest)
  procedure_same p =
      became (placed p.at (both (head_same p.head) (braced_same (body_part_same total) p.body))) assumption

  -- Files.

  included_same : (name : Text)
      → ItemSame total included spelled_file.included (λ name. ⊤) (λ name rest. ⊤) name
  included_same name = became (only (tok.Include name)) assumption

  top_item_same : (item : TopItem)
      → Chosen {V = Voids} total (top_item item) (λ voids. spelled_file.top_item voids item)
      (λ voids rest. IsTopItem item × IsTopItemPlaced total voids item rest)
  top_item_same (top.Includes names) =
      free no_voids
      (became (token (tok.Word word.Includes) (braced_same included_same names))
      (λ choice rest. (λ h. (tt, tt), λ h. (all_free names, names_free names _))))
  top_item_same (top.Variables declarations) =
      free no_voids (token (tok.Word word.Variables) (braced_same (declaration_same total) declarations))
  top_item_same (top.Proc p) = procedure_same p

  items_read : (number : ℕ) (items : List TopItem) (tokens : List Tok) → number + length tokens ≡ total
      → Spells number (each top_item items []) tokens → All IsTopItem items × AreInPlace total items tokens
  items_read number [] tokens here spells = (All-nil IsTopItem, spells)
  items_read number (first ∷ others) tokens here spells =
      let found = (top_item_same first).reads number (each top_item others []) tokens here spells in
      let more = items_read found.number others found.rest found.here found.goes_on in (
        All-cons IsTopItem first others found.holds.0 more.0,
        (found.choice, found.rest, found.spelled, found.holds.1, more.1),
      )

  items_written : (items : List TopItem) (tokens : List Tok) → All IsTopItem items
      → AreInPlace total items tokens → Written total (each top_item items []) tokens
  items_written [] tokens well none = λ number here. none
  items_written (first ∷ others) tokens well are =
      rw are.2
      ((top_item_same first).writes are.0 (each top_item others []) are.1
      (All-head IsTopItem first others well, are.3)
      (items_written others are.1 (All-tail IsTopItem first others well) are.4))

-- The tokens of a source spell its tree, whose parts stand where they may and where their places say.
pub read : (tokens : List Tok) (file : FileTree) → IsSourceOf tokens file → IsTreeOf tokens file
read tokens file source =
    let found = items_read (length tokens) 0 file.items tokens (omega arith) source in
    record { well_formed = found.0; spelled_in_place = found.1 }

-- Tokens that spell a tree in its places are a source of it.
pub written : (tokens : List Tok) (file : FileTree) → IsTreeOf tokens file → IsSourceOf tokens file
written tokens file tree =
    items_written (length tokens) file.items tokens tree.well_formed tree.spelled_in_place 0 (omega arith)
