-- What is read as a file is one whose parts stand in their places, and the tokens spell it.
use Rattle.std.proofs.Common.{append_assoc, ◌≡◌, ◌≢◌, ◌-◌, ℕ, zero, suc, ◌+◌, ◌≤◌, ◌<◌, Bool, true, false, if◌then◌else◌, List, [], ◌∷◌, ◌++◌, length, Option, Some, None, refl, ap, sym, subst, ◌∙◌, arith}
use Rattle.std.specs.Prelude.{⊤, codes}
use Rattle.std.specs.Str.{bytes_eq}
use Rattle.std.specs.List.{All}
use Rattle.std.proofs.lemmas.List.Elements.{All-cons}
use Rattle.std.proofs.lemmas.Slice.Eq.{bytes_eq-Decides}
use Rattle.texts.specs.declared.text.Text.{Text}
use Rattle.int_kinds.specs.declared.kinds.Kind.{Kind}
use Rattle.int_kinds.specs.declared.kinds.Kind.TheVariants as kind
use Rattle.capl_lexer.specs.declared.token.Tok.{Tok}
use Rattle.capl_lexer.specs.declared.token.Tok.TheVariants as tok
use Rattle.capl_lexer.specs.declared.token.Word.{Word}
use Rattle.capl_lexer.specs.declared.token.Word.TheVariants as word
use Rattle.capl_lexer.specs.declared.token.Sign.TheVariants as sign
use Rattle.capl_tree.specs.declared.expr.Expr.{Expr}
use Rattle.capl_tree.specs.declared.expr.Expr.TheVariants as expr
use Rattle.capl_tree.specs.declared.declaration.Decl.{Decl}
use Rattle.capl_tree.specs.declared.statement.Stmt.{Stmt}
use Rattle.capl_tree.specs.declared.procedure.Proc.{Proc}
use Rattle.capl_tree.specs.declared.procedure.Head.{Head}
use Rattle.capl_tree.specs.declared.procedure.Head.TheVariants as head
use Rattle.capl_tree.specs.declared.procedure.Param.{Param}
use Rattle.capl_tree.specs.declared.procedure.Sel.{Sel}
use Rattle.capl_tree.specs.declared.procedure.SelWhat.{SelWhat}
use Rattle.capl_tree.specs.declared.procedure.SelWhat.TheVariants as selected
use Rattle.capl_tree.specs.declared.file.TopItem.{TopItem}
use Rattle.capl_tree.specs.declared.file.TopItem.TheVariants as top
use Rattle.capl_tree.specs.declared.file.FileTree.{FileTree}
use Rattle.capl_tree.specs.Grammar.{IsBodyPart, IsStatement, IsDeclaration, IsNumeral, IsSelection, IsSelector, IsHead, IsProcedure, IsTopItem, IsFile}
use Rattle.capl_tree.specs.Binding.{kind_word}
use Rattle.capl_tree.specs.Spelling.{expression, declaration, further, separated}
use Rattle.capl_tree.specs.Placed.{IsAt, IsPlaced, EachBefore, IsDeclarationPlaced}
use Rattle.capl_tree.specs.FileSpelling as spell
use Rattle.capl_tree.specs.FileSpelling.{each, braced, Voids}
use Rattle.capl_tree.specs.FilePlaced.{EachPlaced, IsStatementPlaced, IsSelectionPlaced, IsSelectorPlaced, IsParameterPlaced, IsHeadPlaced, IsProcedurePlaced, IsTopItemPlaced}
use Rattle.capl_tree.specs.Tree.{AreInPlace}
use Rattle.expr_parser.specs.Operators.{kind_at, kind_of}
use Rattle.expr_parser.specs.Reading.{Read, and_then, begins, begins_word, behind, after, next_item, items_from, items}
use Rattle.parser_laws.specs.Statement.{Parts, until, block, statement}
use Rattle.parser_laws.specs.File.{name, included, numeral, range, one_selection, selection, channel_named, on_channel, named_selector, selector, key, named_event, event, parameter_of, parameter, parameters, signature, function_of, procedure_head, procedure, includes, variables, top_item, is_end, file}
use Rattle.parser_laws.proofs.Steps.{step, by_test, moved, sign_next, word_next, after_some, IsFound, IsSound, WasRead, until_read, AreFound, all_found}
use Rattle.parser_laws.proofs.SoundStatement.{AreSound, Sits, block_sound, statement_sound}

-- Lists with commas.

-- the items that are read behind those that were found
record Listed {A : Type 0} (one : A → List Tok → List Tok) (P : A → Type 0) (Q : A → List Tok → Type 0) (found : List A) (ts : List Tok) (all : List A) (rest : List Tok) : Type 0 where
  first : A
  others : List A
  made : all ≡ found ++ first ∷ others
  spelled : ts ≡ separated one (first ∷ others) rest
  well : All P (first ∷ others)
  placed : EachBefore one Q (first ∷ others) rest
  shorter : length rest ≤ length ts

none_all : {A : Type 0} (P : A → Type 0) → All P []
none_all P k d below = absurd (omega arith)

abbrev list_given : {A : Type 0} → List A → List Tok → Read (List A)
list_given all ts = Some (all, ts)

listed : {A : Type 0} (total : ℕ) (reader : List Tok → Read A) (one : A → List Tok → List Tok) (P : A → Type 0) (Q : A → List Tok → Type 0) → IsSound total reader one P Q
    → (n : ℕ) (found : List A) (ts : List Tok) (all : List A) (rest : List Tok) → length ts ≤ total → items_from reader n found ts ≡ Some (all, rest)
    → Listed one P Q found ts all rest
unfolding items_from
listed total reader one P Q sound zero found ts all rest fits e = absurd cc
listed {A} total reader one P Q sound (suc n) found ts all rest fits e =
    step (reader ts) (λ item rest. next_item (items_from reader n (found ++ item ∷ [])) (found ++ item ∷ []) rest) all rest (Listed one P Q found ts all rest) e
    (λ item mid read e.
    let a = sound ts item mid fits read in
    by_test (begins sign.Comma mid) (items_from reader n (found ++ item ∷ []) (behind mid)) (list_given (found ++ item ∷ []) mid) (all, rest) (Listed one P Q found ts all rest) e
    (λ is e.
    let comma = sign_next sign.Comma mid is in
    let more = listed total reader one P Q sound n (found ++ item ∷ []) (behind mid) all rest (omega (arith, a.shorter, ap length comma)) e in
    let same = comma ∙ ap (λ (x : List Tok). tok.Sign sign.Comma ∷ x) more.spelled in
    record {
      first = item;
      others = more.first ∷ more.others;
      made = more.made ∙ append_assoc found (item ∷ []) (more.first ∷ more.others);
      spelled = a.spelled ∙ ap (λ (x : List Tok). one item x) same;
      well = All-cons P item (more.first ∷ more.others) a.well more.well;
      placed = (subst (λ (x : List Tok). Q item x) same a.placed, more.placed);
      shorter = omega (arith, a.shorter, ap length comma, more.shorter);
    })
    (λ is e.
    moved (Listed one P Q found ts) (found ++ item ∷ []) all mid rest e
    (record { first = item; others = []; made = refl; spelled = a.spelled; well = All-cons P item [] a.well (none_all P); placed = (a.placed, tt); shorter = a.shorter })))

-- items with commas between them
items_sound : {A : Type 0} (total : ℕ) (reader : List Tok → Read A) (one : A → List Tok → List Tok) (P : A → Type 0) (Q : A → List Tok → Type 0) → IsSound total reader one P Q
    → IsSound total (items reader) (separated one) (λ all. (all ≢ []) × All P all) (EachBefore one Q)
unfolding items
items_sound {A} total reader one P Q sound ts all rest fits e =
    let list = listed total reader one P Q sound (length ts) [] ts all rest fits e in
    subst (λ (x : List A). IsFound (separated one) (λ all. (all ≢ []) × All P all) (EachBefore one Q) ts x rest) (sym list.made)
    (record { spelled = list.spelled; well = (λ none. absurd cc, list.well); placed = list.placed; shorter = list.shorter })

-- Words and names.

name_found : (ts : List Tok) (text : Text) (rest : List Tok) → name ts ≡ Some (text, rest) → ts ≡ tok.Name text ∷ rest
name_found [] text rest e = absurd cc
name_found (tok.Name found ∷ ts) text rest e = moved (λ (x : Text) (r : List Tok). tok.Name found ∷ ts ≡ tok.Name x ∷ r) found text ts rest e refl
name_found (_ ∷ ts) text rest e = absurd cc

included_sound : (total : ℕ) → IsSound total included spell.included (λ text. ⊤) (λ text rest. ⊤)
included_sound total [] text rest fits e = absurd cc
included_sound total (tok.Include found ∷ ts) text rest fits e =
    moved (IsFound spell.included (λ text. ⊤) (λ text rest. ⊤) (tok.Include found ∷ ts)) found text ts rest e
    (record { spelled = refl; well = tt; placed = tt; shorter = omega arith })
included_sound total (_ ∷ ts) text rest fits e = absurd cc

-- the word of a kind
kind_next : (of : Word) (k : Kind) → kind_of of ≡ Some k → of ≡ kind_word k
kind_next word.Byte k e = let same : kind.Byte ≡ k = cc in ap kind_word same
kind_next word.Word k e = let same : kind.Word ≡ k = cc in ap kind_word same
kind_next word.Dword k e = let same : kind.Dword ≡ k = cc in ap kind_word same
kind_next word.Qword k e = let same : kind.Qword ≡ k = cc in ap kind_word same
kind_next word.Int k e = let same : kind.Int ≡ k = cc in ap kind_word same
kind_next word.Long k e = let same : kind.Long ≡ k = cc in ap kind_word same
kind_next word.Int64 k e = let same : kind.Int64 ≡ k = cc in ap kind_word same
kind_next word.Char k e = let same : kind.Char ≡ k = cc in ap kind_word same
kind_next _ k e = absurd cc

kind_first : (ts : List Tok) (k : Kind) → kind_at ts ≡ Some k → ts ≡ tok.Word (kind_word k) ∷ behind ts
kind_first [] k e = absurd cc
kind_first (tok.Word of ∷ ts) k e = ap (λ (w : Word). tok.Word w ∷ ts) (kind_next of k e)
kind_first (_ ∷ ts) k e = absurd cc

-- Selectors.

numeral_sound : (total : ℕ) → IsSound total (numeral total) expression IsNumeral (IsPlaced total)
numeral_sound total [] e rest fits is = absurd cc
numeral_sound total (tok.Num ext value ∷ ts) e rest fits is =
    moved (IsFound expression IsNumeral (IsPlaced total) (tok.Num ext value ∷ ts)) (expr.Num value ext (total - suc (length ts))) e ts rest is
    (record { spelled = refl; well = tt; placed = omega arith; shorter = omega arith })
numeral_sound total (_ ∷ ts) e rest fits is = absurd cc

some_numeral : (high : Expr) → IsNumeral high → (x : Expr) → (let y : Option Expr = Some high in y) ≡ Some x → IsNumeral x
some_numeral high well x e = let same : high ≡ x = cc in subst IsNumeral same well

abbrev what_given : SelWhat → List Tok → Read SelWhat
what_given what ts = Some (what, ts)

abbrev WhatFound : ℕ → List Tok → SelWhat → List Tok → Type 0
WhatFound total ts what rest = IsFound spell.selection IsSelection (IsSelectionPlaced total) ts what rest

range_sound : (total : ℕ) (ts : List Tok) (low : Expr) (mid : List Tok) (s : SelWhat) (rest : List Tok) → length ts ≤ total → IsFound expression IsNumeral (IsPlaced total) ts low mid
    → range total (total - length ts) low mid ≡ Some (s, rest) → WhatFound total ts s rest
unfolding range
range_sound total ts low mid s rest fits first e =
    let at = total - length ts in
    by_test (begins sign.Minus mid) (and_then (numeral total (behind mid)) (λ high ts. what_given (selected.Ids low (Some high) at) ts)) (what_given (selected.Ids low None at) mid) (s, rest) (WhatFound total ts s rest) e
    (λ is e. step (numeral total (behind mid)) (λ high ts. what_given (selected.Ids low (Some high) at) ts) s rest (WhatFound total ts s rest) e
    (λ high left read e.
    let minus = sign_next sign.Minus mid is in
    let second = numeral_sound total (behind mid) high left (omega (arith, first.shorter, ap length minus)) read in
    let mid_is = minus ∙ ap (λ (x : List Tok). tok.Sign sign.Minus ∷ x) second.spelled in
    let same = first.spelled ∙ ap (λ (x : List Tok). expression low x) mid_is in
    moved (WhatFound total ts) (selected.Ids low (Some high) at) s left rest e
    (record {
      spelled = same;
      well = (first.well, some_numeral high second.well);
      placed = (omega (arith, ap length same), subst (λ (x : List Tok). IsPlaced total low x) mid_is first.placed, second.placed);
      shorter = omega (arith, first.shorter, ap length minus, second.shorter);
    })))
    (λ is e. moved (WhatFound total ts) (selected.Ids low None at) s mid rest e
    (record { spelled = first.spelled; well = (first.well, λ x e. absurd cc); placed = (omega (arith, ap length first.spelled), first.placed, tt); shorter = first.shorter }))

one_selection_sound : (total : ℕ) (ts : List Tok) (s : SelWhat) (rest : List Tok) → length ts ≤ total → one_selection total (total - length ts) ts ≡ Some (s, rest) → WhatFound total ts s rest
unfolding one_selection
one_selection_sound total (tok.Name text ∷ ts) s rest fits e =
    moved (WhatFound total (tok.Name text ∷ ts)) (selected.Name text (total - suc (length ts))) s ts rest e
    (record { spelled = refl; well = tt; placed = omega arith; shorter = omega arith })
one_selection_sound total ts s rest fits e =
    step (numeral total ts) (λ low mid. range total (total - length ts) low mid) s rest (WhatFound total ts s rest) e
    (λ low mid read e. range_sound total ts low mid s rest fits (numeral_sound total ts low mid fits read) e)

selection_sound : (total : ℕ) → IsSound total (selection total) spell.selection IsSelection (IsSelectionPlaced total)
unfolding selection
selection_sound total ts s rest fits e =
    by_test (begins sign.Star ts) (what_given (selected.Any (total - length ts)) (behind ts)) (one_selection total (total - length ts) ts) (s, rest) (WhatFound total ts s rest) e
    (λ is e.
    let star = sign_next sign.Star ts is in
    moved (WhatFound total ts) (selected.Any (total - length ts)) s (behind ts) rest e
    (record { spelled = star; well = tt; placed = omega (arith, ap length star); shorter = omega (arith, ap length star) }))
    (λ is e. one_selection_sound total ts s rest fits e)

abbrev sel_given : Sel → List Tok → Read Sel
sel_given s ts = Some (s, ts)

abbrev SelFound : ℕ → List Tok → Sel → List Tok → Type 0
SelFound total ts s rest = IsFound spell.selector IsSelector (IsSelectorPlaced total) ts s rest

-- a selector of no channel is what is selected
plain_found : (total : ℕ) (ts : List Tok) (what : SelWhat) (rest : List Tok) → WhatFound total ts what rest
    → SelFound total ts (record { chan = 0; what = what }) rest
plain_found total ts what rest found =
    record { spelled = found.spelled; well = (omega arith, found.well); placed = found.placed; shorter = found.shorter }

plain_sound : (total : ℕ) (ts : List Tok) (s : Sel) (rest : List Tok) → length ts ≤ total
    → and_then (selection total ts) (λ what ts. sel_given (record { chan = 0; what = what }) ts) ≡ Some (s, rest) → SelFound total ts s rest
plain_sound total ts s rest fits e =
    step (selection total ts) (λ what ts. sel_given (record { chan = 0; what = what }) ts) s rest (SelFound total ts s rest) e
    (λ what left read e.
    moved (SelFound total ts) (record { chan = 0; what = what }) s left rest e
    (plain_found total ts what left (selection_sound total ts what left fits read)))

-- equal bytes are one list
bytes_same : (xs ys : List ℕ) → bytes_eq xs ys ≡ true → xs ≡ ys
bytes_same xs ys e = (bytes_eq-Decides xs ys).0 e

-- the name of a channel is spelled as such, before a dot and the rest
named_as : (text name : List ℕ) (n chan : ℕ) (ts : List Tok) → bytes_eq text name ≡ true → n ≤ 2 → tok.Name name ∷ tok.Sign sign.Dot ∷ ts ≡ spell.channel n ts
    → Some n ≡ Some chan → (chan ≤ 2) × (tok.Name text ∷ tok.Sign sign.Dot ∷ ts ≡ spell.channel chan ts)
named_as text name n chan ts same least spelled e =
    let is : n ≡ chan = cc in
    subst (λ (m : ℕ). (m ≤ 2) × (tok.Name text ∷ tok.Sign sign.Dot ∷ ts ≡ spell.channel m ts)) is
    (least, ap (λ (x : List ℕ). tok.Name x ∷ tok.Sign sign.Dot ∷ ts) (bytes_same text name same) ∙ spelled)

channel_spelled : (text : List ℕ) (chan : ℕ) (ts : List Tok) → channel_named text ≡ Some chan
    → (chan ≤ 2) × (tok.Name text ∷ tok.Sign sign.Dot ∷ ts ≡ spell.channel chan ts)
channel_spelled text chan ts e = by_name (bytes_eq text (codes "CAN1")) (bytes_eq text (codes "CAN2")) refl refl e
  where
    by_name : (one two : Bool) → bytes_eq text (codes "CAN1") ≡ one → bytes_eq text (codes "CAN2") ≡ two
        → (if one then Some 1 else (if two then Some 2 else None)) ≡ Some chan
        → (chan ≤ 2) × (tok.Name text ∷ tok.Sign sign.Dot ∷ ts ≡ spell.channel chan ts)
    by_name true two is other e = named_as text (codes "CAN1") 1 chan ts is (omega arith) refl e
    by_name false true is other e = named_as text (codes "CAN2") 2 chan ts other (omega arith) refl e
    by_name false false is other e = absurd cc

-- a channel comes by its name and a dot
channel_comes : (text : List ℕ) (ts : List Tok) (chan : ℕ) → (if begins sign.Dot ts then channel_named text else None) ≡ Some chan
    → (begins sign.Dot ts ≡ true) × (channel_named text ≡ Some chan)
channel_comes text ts chan e = by_dot (begins sign.Dot ts) refl e
  where
    by_dot : (dot : Bool) → begins sign.Dot ts ≡ dot → (if dot then channel_named text else None) ≡ Some chan
        → (begins sign.Dot ts ≡ true) × (channel_named text ≡ Some chan)
    by_dot true is e = (is, e)
    by_dot false is e = absurd cc

on_channel_sound : (total : ℕ) (text : List ℕ) (of : Option ℕ) (ts : List Tok) (s : Sel) (rest : List Tok) → suc (length ts) ≤ total
    → (if begins sign.Dot ts then channel_named text else None) ≡ of → on_channel total (total - suc (length ts)) text of ts ≡ Some (s, rest)
    → SelFound total (tok.Name text ∷ ts) s rest
unfolding on_channel
on_channel_sound total text None ts s rest fits is e =
    moved (SelFound total (tok.Name text ∷ ts)) (record { chan = 0; what = selected.Name text (total - suc (length ts)) }) s ts rest e
    (record { spelled = refl; well = (omega arith, tt); placed = omega arith; shorter = omega arith })
on_channel_sound total text (Some chan) ts s rest fits is e =
    let comes = channel_comes text ts chan is in
    let next = sign_next sign.Dot ts comes.0 in
    let spelled = channel_spelled text chan (behind ts) comes.1 in
    step (selection total (behind ts)) (λ what ts. sel_given (record { chan = chan; what = what }) ts) s rest (SelFound total (tok.Name text ∷ ts) s rest) e
    (λ what left read e.
    let found = selection_sound total (behind ts) what left (omega (arith, ap length next)) read in
    moved (SelFound total (tok.Name text ∷ ts)) (record { chan = chan; what = what }) s left rest e
    (record {
      spelled = ap (λ (x : List Tok). tok.Name text ∷ x) next ∙ spelled.1 ∙ ap (λ (x : List Tok). spell.channel chan x) found.spelled;
      well = (spelled.0, found.well);
      placed = found.placed;
      shorter = omega (arith, ap length next, found.shorter);
    }))

selector_sound : (total : ℕ) → IsSound total (selector total) spell.selector IsSelector (IsSelectorPlaced total)
unfolding selector named_selector
selector_sound total (tok.Name text ∷ ts) s rest fits e =
    on_channel_sound total text (if begins sign.Dot ts then channel_named text else None) ts s rest fits refl e
selector_sound total ts s rest fits e = plain_sound total ts s rest fits e

-- Heads.

abbrev head_given : Head → List Tok → Read Head
head_given of ts = Some (of, ts)

-- a head at the front of the tokens
record HeadFound (total : ℕ) (ts : List Tok) (of : Head) (rest : List Tok) : Type 0 where
  voids : Voids
  spelled : ts ≡ spell.procedure_head voids of rest
  well : IsHead of
  placed : IsHeadPlaced total voids of rest
  shorter : length rest ≤ length ts

abbrev no_voids : Voids
no_voids = record { before = false; between = false }

-- behind `on key`
key_found : (total : ℕ) (ts : List Tok) (of : Head) (rest : List Tok) → key ts ≡ Some (of, rest)
    → HeadFound total (tok.Word word.On ∷ tok.Name (codes "key") ∷ ts) of rest
unfolding key
key_found total (tok.Char value ∷ ts) of rest e =
    moved (HeadFound total (tok.Word word.On ∷ tok.Name (codes "key") ∷ tok.Char value ∷ ts)) (head.Key (Some value)) of ts rest e
    (record { voids = no_voids; spelled = refl; well = tt; placed = tt; shorter = omega arith })
key_found total ts of rest e =
    step (after sign.Star ts) (λ _ ts. head_given (head.Key None) ts) of rest (HeadFound total (tok.Word word.On ∷ tok.Name (codes "key") ∷ ts) of rest) e
    (λ u left read e.
    let star = after_some sign.Star ts u left read in
    moved (HeadFound total (tok.Word word.On ∷ tok.Name (codes "key") ∷ ts)) (head.Key None) of left rest e
    (record { voids = no_voids; spelled = ap (λ (x : List Tok). tok.Word word.On ∷ tok.Name (codes "key") ∷ x) star; well = tt; placed = tt; shorter = omega (arith, ap length star) }))

-- behind `on` and a name
named_found : (total : ℕ) (text : List ℕ) (ts : List Tok) (of : Head) (rest : List Tok) → named_event text ts ≡ Some (of, rest)
    → HeadFound total (tok.Word word.On ∷ tok.Name text ∷ ts) of rest
unfolding named_event
named_found total text ts of rest e =
    let R = HeadFound total (tok.Word word.On ∷ tok.Name text ∷ ts) of rest in
    let fourth = if bytes_eq text (codes "key") then key ts else None in
    let third = if bytes_eq text (codes "stopMeasurement") then head_given head.Stop ts else fourth in
    let second = if bytes_eq text (codes "start") then head_given head.Start ts else third in
    by_test (bytes_eq text (codes "preStart")) (head_given head.PreStart ts) second (of, rest) R e
    (λ is e. moved (HeadFound total (tok.Word word.On ∷ tok.Name text ∷ ts)) head.PreStart of ts rest e
    (record { voids = no_voids; spelled = ap (λ (x : List ℕ). tok.Word word.On ∷ tok.Name x ∷ ts) (bytes_same text (codes "preStart") is); well = tt; placed = tt; shorter = omega arith }))
    (λ is e. by_test (bytes_eq text (codes "start")) (head_given head.Start ts) third (of, rest) R e
    (λ is e. moved (HeadFound total (tok.Word word.On ∷ tok.Name text ∷ ts)) head.Start of ts rest e
    (record { voids = no_voids; spelled = ap (λ (x : List ℕ). tok.Word word.On ∷ tok.Name x ∷ ts) (bytes_same text (codes "start") is); well = tt; placed = tt; shorter = omega arith }))
    (λ is e. by_test (bytes_eq text (codes "stopMeasurement")) (head_given head.Stop ts) fourth (of, rest) R e
    (λ is e. moved (HeadFound total (tok.Word word.On ∷ tok.Name text ∷ ts)) head.Stop of ts rest e
    (record { voids = no_voids; spelled = ap (λ (x : List ℕ). tok.Word word.On ∷ tok.Name x ∷ ts) (bytes_same text (codes "stopMeasurement") is); well = tt; placed = tt; shorter = omega arith }))
    (λ is e. by_test (bytes_eq text (codes "key")) (key ts) None (of, rest) R e
    (λ is e. subst (λ (x : List ℕ). HeadFound total (tok.Word word.On ∷ tok.Name x ∷ ts) of rest) (sym (bytes_same text (codes "key") is)) (key_found total ts of rest e))
    (λ is e. absurd cc))))

event_found : (total : ℕ) (ts : List Tok) (of : Head) (rest : List Tok) → length ts ≤ total → event total ts ≡ Some (of, rest) → HeadFound total (tok.Word word.On ∷ ts) of rest
unfolding event
event_found total ts of rest fits e =
    let R = HeadFound total (tok.Word word.On ∷ ts) in
    let third = and_then (name ts) (λ text ts. named_event text ts) in
    let second = if begins_word word.Timer ts
    then and_then (name (behind ts)) (λ text rest. head_given (head.Timer text (total - length (behind ts))) rest) else third in
    by_test (begins_word word.Message ts) (and_then (items (selector total) (behind ts)) (λ selectors ts. head_given (head.Message selectors) ts)) second (of, rest) (R of rest) e
    (λ is e. step (items (selector total) (behind ts)) (λ selectors ts. head_given (head.Message selectors) ts) of rest (R of rest) e
    (λ all left read e.
    let first = word_next word.Message ts is in
    let list = items_sound total (selector total) spell.selector IsSelector (IsSelectorPlaced total) (selector_sound total) (behind ts) all left (omega (arith, ap length first)) read in
    moved R (head.Message all) of left rest e
    (record {
      voids = no_voids;
      spelled = ap (λ (x : List Tok). tok.Word word.On ∷ x) (first ∙ ap (λ (x : List Tok). tok.Word word.Message ∷ x) list.spelled);
      well = list.well;
      placed = list.placed;
      shorter = omega (arith, ap length first, list.shorter);
    })))
    (λ is e. by_test (begins_word word.Timer ts) (and_then (name (behind ts)) (λ text rest. head_given (head.Timer text (total - length (behind ts))) rest)) third (of, rest) (R of rest) e
    (λ is e. step (name (behind ts)) (λ text rest. head_given (head.Timer text (total - length (behind ts))) rest) of rest (R of rest) e
    (λ text left read e.
    let first = word_next word.Timer ts is in
    let named = name_found (behind ts) text left read in
    moved R (head.Timer text (total - length (behind ts))) of left rest e
    (record {
      voids = no_voids;
      spelled = ap (λ (x : List Tok). tok.Word word.On ∷ x) (first ∙ ap (λ (x : List Tok). tok.Word word.Timer ∷ x) named);
      well = tt;
      placed = omega (arith, ap length first, ap length named);
      shorter = omega (arith, ap length first, ap length named);
    })))
    (λ is e. step (name ts) (λ text ts. named_event text ts) of rest (R of rest) e
    (λ text left read e.
    let named = name_found ts text left read in
    subst (λ (x : List Tok). HeadFound total (tok.Word word.On ∷ x) of rest) (sym named) (named_found total text left of rest e))))

-- Functions.

abbrev param_given : Param → List Tok → Read Param
param_given p ts = Some (p, ts)

parameter_of_found : (total : ℕ) (ts : List Tok) (of : Option Kind) (p : Param) (rest : List Tok) → length ts ≤ total → kind_at ts ≡ of → parameter_of total of (behind ts) ≡ Some (p, rest)
    → IsFound spell.parameter (λ p. ⊤) (IsParameterPlaced total) ts p rest
unfolding parameter_of
parameter_of_found total ts None p rest fits is e = absurd cc
parameter_of_found total ts (Some k) p rest fits is e =
    let R = IsFound spell.parameter (λ p. ⊤) (IsParameterPlaced total) ts in
    let at = total - length (behind ts) in
    step (name (behind ts)) (λ text rest. param_given (record { kind = k; name = text; at = at }) rest) p rest (R p rest) e
    (λ text left read e.
    let first = kind_first ts k is in
    let named = name_found (behind ts) text left read in
    moved R (record { kind = k; name = text; at = at }) p left rest e
    (record {
      spelled = first ∙ ap (λ (x : List Tok). tok.Word (kind_word k) ∷ x) named;
      well = tt;
      placed = omega (arith, ap length first, ap length named);
      shorter = omega (arith, ap length first, ap length named);
    }))

parameter_sound : (total : ℕ) → IsSound total (parameter total) spell.parameter (λ p. ⊤) (IsParameterPlaced total)
unfolding parameter
parameter_sound total ts p rest fits e = parameter_of_found total ts (kind_at ts) p rest fits refl e

-- parameters, and the parenthesis behind them
record ParamsFound (total : ℕ) (ts : List Tok) (params : List Param) (rest : List Tok) : Type 0 where
  void : Bool
  spelled : ts ≡ spell.parameters params void (tok.Sign sign.CloseParen ∷ rest)
  placed : EachBefore spell.parameter (IsParameterPlaced total) params (tok.Sign sign.CloseParen ∷ rest)
  shorter : length rest ≤ length ts

abbrev params_given : List Param → List Tok → Read (List Param)
params_given params ts = Some (params, ts)

-- the spelling of parameters, of which there is one
some_params : (params : List Param) (ts : List Tok) → (params ≢ []) → separated spell.parameter params ts ≡ spell.parameters params false ts
some_params [] ts some = absurd (some refl)
some_params (p ∷ others) ts some = refl

parameters_found : (total : ℕ) (ts : List Tok) (params : List Param) (rest : List Tok) → length ts ≤ total → parameters total ts ≡ Some (params, rest) → ParamsFound total ts params rest
unfolding parameters
parameters_found total ts params rest fits e =
    let R = ParamsFound total ts in
    let third = and_then (items (parameter total) ts) (λ params ts. and_then (after sign.CloseParen ts) (λ _ ts. params_given params ts)) in
    let second = if begins_word word.Void ts then and_then (after sign.CloseParen (behind ts)) (λ _ ts. params_given [] ts) else third in
    by_test (begins sign.CloseParen ts) (params_given [] (behind ts)) second (params, rest) (R params rest) e
    (λ is e.
    let close = sign_next sign.CloseParen ts is in
    moved R [] params (behind ts) rest e (record { void = false; spelled = close; placed = tt; shorter = omega (arith, ap length close) }))
    (λ is e. by_test (begins_word word.Void ts) (and_then (after sign.CloseParen (behind ts)) (λ _ ts. params_given [] ts)) third (params, rest) (R params rest) e
    (λ is e. step (after sign.CloseParen (behind ts)) (λ _ ts. params_given [] ts) params rest (R params rest) e
    (λ u left read e.
    let same = word_next word.Void ts is ∙ ap (λ (x : List Tok). tok.Word word.Void ∷ x) (after_some sign.CloseParen (behind ts) u left read) in
    moved R [] params left rest e (record { void = true; spelled = same; placed = tt; shorter = omega (arith, ap length same) })))
    (λ is e. step (items (parameter total) ts) (λ params ts. and_then (after sign.CloseParen ts) (λ _ ts. params_given params ts)) params rest (R params rest) e
    (λ all mid read_all e. step (after sign.CloseParen mid) (λ _ ts. params_given all ts) params rest (R params rest) e
    (λ u left read e.
    let list = items_sound total (parameter total) spell.parameter (λ p. ⊤) (IsParameterPlaced total) (parameter_sound total) ts all mid fits read_all in
    let close = after_some sign.CloseParen mid u left read in
    moved R all params left rest e
    (record {
      void = false;
      spelled = list.spelled ∙ ap (λ (x : List Tok). separated spell.parameter all x) close ∙ some_params all (tok.Sign sign.CloseParen ∷ left) list.well.0;
      placed = subst (λ (x : List Tok). EachBefore spell.parameter (IsParameterPlaced total) all x) close list.placed;
      shorter = omega (arith, list.shorter, ap length close);
    })))))

-- a function from its name on
record SignatureFound (total : ℕ) (of : Option Kind) (ts : List Tok) (found : Head) (rest : List Tok) : Type 0 where
  text : Text
  params : List Param
  at : ℕ
  void : Bool
  made : found ≡ head.Function of text params at
  spelled : ts ≡ spell.signature text params void rest
  here : IsAt total at (spell.signature text params void rest)
  placed : EachBefore spell.parameter (IsParameterPlaced total) params (tok.Sign sign.CloseParen ∷ rest)
  shorter : length rest ≤ length ts

signature_found : (total : ℕ) (of : Option Kind) (ts : List Tok) (found : Head) (rest : List Tok) → length ts ≤ total → signature total of ts ≡ Some (found, rest)
    → SignatureFound total of ts found rest
unfolding signature
signature_found total of ts found rest fits e =
    let R = SignatureFound total of ts in
    let at = total - length ts in
    step (name ts) (λ text rest. and_then (after sign.OpenParen rest) (λ _ rest. and_then (parameters total rest) (λ params rest. head_given (head.Function of text params at) rest))) found rest (R found rest) e
    (λ text mid read_name e. step (after sign.OpenParen mid) (λ _ rest. and_then (parameters total rest) (λ params rest. head_given (head.Function of text params at) rest)) found rest (R found rest) e
    (λ u inside read_open e. step (parameters total inside) (λ params rest. head_given (head.Function of text params at) rest) found rest (R found rest) e
    (λ params left read e.
    let named = name_found ts text mid read_name in
    let opened = after_some sign.OpenParen mid u inside read_open in
    let list = parameters_found total inside params left (omega (arith, ap length named, ap length opened)) read in
    let same = named ∙ ap (λ (x : List Tok). tok.Name text ∷ x) (opened ∙ ap (λ (x : List Tok). tok.Sign sign.OpenParen ∷ x) list.spelled) in
    moved R (head.Function of text params at) found left rest e
    (record {
      text = text;
      params = params;
      at = at;
      void = list.void;
      made = refl;
      spelled = same;
      here = omega (arith, ap length same);
      placed = list.placed;
      shorter = omega (arith, ap length named, ap length opened, list.shorter);
    }))))

-- with what stands before the name
function_found : (total : ℕ) (of : Option Kind) (before : Bool) (whole ts : List Tok) (found : Head) (rest : List Tok) → SignatureFound total of ts found rest
    → ((ts : List Tok) → length ts ≤ length (spell.gives of before ts)) → whole ≡ spell.gives of before ts → HeadFound total whole found rest
function_found total of before whole ts found rest sig longer same =
    subst (λ (x : Head). HeadFound total whole x rest) (sym sig.made)
    (record {
      voids = record { before = before; between = sig.void };
      spelled = same ∙ ap (λ (x : List Tok). spell.gives of before x) sig.spelled;
      well = tt;
      placed = (sig.here, sig.placed);
      shorter = omega (arith, sig.shorter, longer ts, ap length same);
    })

function_of_found : (total : ℕ) (ts : List Tok) (of : Option Kind) (found : Head) (rest : List Tok) → length ts ≤ total → kind_at ts ≡ of → function_of total of ts ≡ Some (found, rest)
    → HeadFound total ts found rest
unfolding function_of
function_of_found total ts None found rest fits is e =
    function_found total None false ts ts found rest (signature_found total None ts found rest fits e) (λ ts. omega arith) refl
function_of_found total ts (Some k) found rest fits is e =
    let first = kind_first ts k is in
    function_found total (Some k) false ts (behind ts) found rest (signature_found total (Some k) (behind ts) found rest (omega (arith, ap length first)) e) (λ ts. omega arith) first

head_found : (total : ℕ) (ts : List Tok) (of : Head) (rest : List Tok) → length ts ≤ total → procedure_head total ts ≡ Some (of, rest) → HeadFound total ts of rest
unfolding procedure_head
head_found total ts of rest fits e =
    let second = if begins_word word.Void ts then signature total None (behind ts) else function_of total (kind_at ts) ts in
    by_test (begins_word word.On ts) (event total (behind ts)) second (of, rest) (HeadFound total ts of rest) e
    (λ is e.
    let first = word_next word.On ts is in
    subst (λ (x : List Tok). HeadFound total x of rest) (sym first) (event_found total (behind ts) of rest (omega (arith, ap length first)) e))
    (λ is e. by_test (begins_word word.Void ts) (signature total None (behind ts)) (function_of total (kind_at ts) ts) (of, rest) (HeadFound total ts of rest) e
    (λ is e.
    let first = word_next word.Void ts is in
    function_found total None true ts (behind ts) of rest (signature_found total None (behind ts) of rest (omega (arith, ap length first)) e) (λ ts. omega arith) first)
    (λ is e. function_of_found total ts (kind_at ts) of rest fits refl e))

-- Files.

abbrev proc_given : Proc → List Tok → Read Proc
proc_given p ts = Some (p, ts)

-- a part of a file at the front of the tokens
record ItemFound (total : ℕ) (ts : List Tok) (of : TopItem) (rest : List Tok) : Type 0 where
  voids : Voids
  spelled : ts ≡ spell.top_item voids of rest
  well : IsTopItem of
  placed : IsTopItemPlaced total voids of rest
  shorter : length rest ≤ length ts

record ProcFound (total : ℕ) (ts : List Tok) (p : Proc) (rest : List Tok) : Type 0 where
  voids : Voids
  spelled : ts ≡ spell.procedure voids p rest
  well : IsProcedure p
  placed : IsProcedurePlaced total voids p rest
  shorter : length rest ≤ length ts

abbrev item_given : TopItem → List Tok → Read TopItem
item_given of ts = Some (of, ts)

module _ (parts : Parts) (known : AreSound parts) where
  procedure_found : (ts : List Tok) (p : Proc) (rest : List Tok) → length ts ≤ parts.total → procedure parts ts ≡ Some (p, rest) → ProcFound parts.total ts p rest
  unfolding procedure
  procedure_found ts p rest fits e =
      let R = ProcFound parts.total ts in
      let at = parts.total - length ts in
      step (procedure_head parts.total ts) (λ of rest. and_then (after sign.OpenBrace rest) (λ _ rest. and_then (block parts (statement parts parts.total) rest) (λ body rest.
      proc_given (record { head = of; body = body; at = at }) rest))) p rest (R p rest) e
      (λ of mid read_head e. step (after sign.OpenBrace mid) (λ _ rest. and_then (block parts (statement parts parts.total) rest) (λ body rest.
      proc_given (record { head = of; body = body; at = at }) rest)) p rest (R p rest) e
      (λ u inside read_open e. step (block parts (statement parts parts.total) inside) (λ body rest. proc_given (record { head = of; body = body; at = at }) rest) p rest (R p rest) e
      (λ body left read_body e.
      let a = head_found parts.total ts of mid fits read_head in
      let opened = after_some sign.OpenBrace mid u inside read_open in
      let b = block_sound parts known (statement parts parts.total) (statement_sound parts known parts.total) inside body left (omega (arith, a.shorter, ap length opened)) read_body in
      let mid_is = opened ∙ ap (λ (x : List Tok). tok.Sign sign.OpenBrace ∷ x) b.spelled in
      let same = a.spelled ∙ ap (λ (x : List Tok). spell.procedure_head a.voids of x) mid_is in
      moved R (record { head = of; body = body; at = at }) p left rest e
      (record {
        voids = a.voids;
        spelled = same;
        well = (a.well, b.well);
        placed = (omega (arith, ap length same), subst (λ (x : List Tok). IsHeadPlaced parts.total a.voids of x) mid_is a.placed, b.placed);
        shorter = omega (arith, a.shorter, ap length opened, b.shorter);
      }))))

  includes_found : (ts : List Tok) (of : TopItem) (rest : List Tok) → length ts ≤ parts.total → includes ts ≡ Some (of, rest) → ItemFound parts.total (tok.Word word.Includes ∷ ts) of rest
  unfolding includes
  includes_found ts of rest fits e =
      let R = ItemFound parts.total (tok.Word word.Includes ∷ ts) in
      step (after sign.OpenBrace ts) (λ _ ts. and_then (until (begins sign.CloseBrace) included (length ts) [] ts) (λ names ts. and_then (after sign.CloseBrace ts) (λ _ ts. item_given (top.Includes names) ts))) of rest (R of rest) e
      (λ u inside read_open e. step (until (begins sign.CloseBrace) included (length inside) [] inside) (λ names ts. and_then (after sign.CloseBrace ts) (λ _ ts. item_given (top.Includes names) ts)) of rest (R of rest) e
      (λ names end read_names e. step (after sign.CloseBrace end) (λ _ ts. item_given (top.Includes names) ts) of rest (R of rest) e
      (λ v left read_close e.
      let opened = after_some sign.OpenBrace ts u inside read_open in
      let read = until_read (begins sign.CloseBrace) included (length inside) [] inside names end read_names in
      let all = all_found parts.total (begins sign.CloseBrace) included spell.included (λ text. ⊤) (λ text rest. ⊤) (included_sound parts.total) read.0 inside end (omega (arith, ap length opened)) read.2 in
      let close = after_some sign.CloseBrace end v left read_close in
      let inside_is = all.spelled ∙ ap (λ (x : List Text). each spell.included x end) (sym read.1) ∙ ap (λ (x : List Tok). each spell.included names x) close in
      moved R (top.Includes names) of left rest e
      (record {
        voids = no_voids;
        spelled = ap (λ (x : List Tok). tok.Word word.Includes ∷ x) (opened ∙ ap (λ (x : List Tok). tok.Sign sign.OpenBrace ∷ x) inside_is);
        well = tt;
        placed = tt;
        shorter = omega (arith, ap length opened, all.shorter, ap length close);
      }))))

  variables_found : (ts : List Tok) (of : TopItem) (rest : List Tok) → length ts ≤ parts.total → variables parts ts ≡ Some (of, rest) → ItemFound parts.total (tok.Word word.Variables ∷ ts) of rest
  unfolding variables
  variables_found ts of rest fits e =
      let R = ItemFound parts.total (tok.Word word.Variables ∷ ts) in
      step (after sign.OpenBrace ts) (λ _ ts. and_then (until (begins sign.CloseBrace) parts.declared (length ts) [] ts) (λ declared ts. and_then (after sign.CloseBrace ts) (λ _ ts. item_given (top.Variables declared) ts))) of rest (R of rest) e
      (λ u inside read_open e. step (until (begins sign.CloseBrace) parts.declared (length inside) [] inside) (λ declared ts. and_then (after sign.CloseBrace ts) (λ _ ts. item_given (top.Variables declared) ts)) of rest (R of rest) e
      (λ declared end read_all e. step (after sign.CloseBrace end) (λ _ ts. item_given (top.Variables declared) ts) of rest (R of rest) e
      (λ v left read_close e.
      let opened = after_some sign.OpenBrace ts u inside read_open in
      let read = until_read (begins sign.CloseBrace) parts.declared (length inside) [] inside declared end read_all in
      let all = all_found parts.total (begins sign.CloseBrace) parts.declared declaration IsDeclaration (IsDeclarationPlaced parts.total) known.declared read.0 inside end (omega (arith, ap length opened)) read.2 in
      let close = after_some sign.CloseBrace end v left read_close in
      let inside_is = all.spelled ∙ ap (λ (x : List Decl). each declaration x end) (sym read.1) ∙ ap (λ (x : List Tok). each declaration declared x) close in
      moved R (top.Variables declared) of left rest e
      (record {
        voids = no_voids;
        spelled = ap (λ (x : List Tok). tok.Word word.Variables ∷ x) (opened ∙ ap (λ (x : List Tok). tok.Sign sign.OpenBrace ∷ x) inside_is);
        well = subst (λ (x : List Decl). All IsDeclaration x) (sym read.1) all.well;
        placed = subst (λ (x : List Tok). EachPlaced declaration (IsDeclarationPlaced parts.total) declared x) close
            (subst (λ (x : List Decl). EachPlaced declaration (IsDeclarationPlaced parts.total) x end) (sym read.1) all.placed);
        shorter = omega (arith, ap length opened, all.shorter, ap length close);
      }))))

  item_found : (ts : List Tok) (of : TopItem) (rest : List Tok) → length ts ≤ parts.total → top_item parts ts ≡ Some (of, rest) → ItemFound parts.total ts of rest
  unfolding top_item
  item_found ts of rest fits e =
      let R = ItemFound parts.total ts in
      let third = and_then (procedure parts ts) (λ p ts. item_given (top.Proc p) ts) in
      let second = if begins_word word.Variables ts then variables parts (behind ts) else third in
      by_test (begins_word word.Includes ts) (includes (behind ts)) second (of, rest) (R of rest) e
      (λ is e.
      let first = word_next word.Includes ts is in
      subst (λ (x : List Tok). ItemFound parts.total x of rest) (sym first) (includes_found (behind ts) of rest (omega (arith, ap length first)) e))
      (λ is e. by_test (begins_word word.Variables ts) (variables parts (behind ts)) third (of, rest) (R of rest) e
      (λ is e.
      let first = word_next word.Variables ts is in
      subst (λ (x : List Tok). ItemFound parts.total x of rest) (sym first) (variables_found (behind ts) of rest (omega (arith, ap length first)) e))
      (λ is e. step (procedure parts ts) (λ p ts. item_given (top.Proc p) ts) of rest (R of rest) e
      (λ p left read e.
      let a = procedure_found ts p left fits read in
      moved R (top.Proc p) of left rest e (record { voids = a.voids; spelled = a.spelled; well = a.well; placed = a.placed; shorter = a.shorter }))))

  end_empty : (ts : List Tok) → is_end ts ≡ true → ts ≡ []
  end_empty [] e = refl
  end_empty (t ∷ ts) e = absurd cc

  items_found : (all : List TopItem) (ts rest : List Tok) → length ts ≤ parts.total → WasRead is_end (top_item parts) all ts rest
      → All IsTopItem all × AreInPlace parts.total all ts × (rest ≡ [])
  items_found [] ts rest fits read = (none_all IsTopItem, read.0 ∙ end_empty rest read.1, end_empty rest read.1)
  items_found (of ∷ others) ts rest fits read =
      let a = item_found ts of read.0 fits read.2 in
      let more = items_found others read.0 rest (omega (arith, a.shorter)) read.3 in
      (All-cons IsTopItem of others a.well more.0, (a.voids, read.0, a.spelled, a.placed, more.1), more.2)

  -- what is read as a file stands in its place
  pub file_sound : (ts : List Tok) (all : List TopItem) (rest : List Tok) → length ts ≤ parts.total → file parts ts ≡ Some (all, rest)
      → All IsTopItem all × AreInPlace parts.total all ts × (rest ≡ [])
  unfolding file
  file_sound ts all rest fits e =
      let read = until_read is_end (top_item parts) (suc (length ts)) [] ts all rest e in
      subst (λ (x : List TopItem). All IsTopItem x × AreInPlace parts.total x ts × (rest ≡ [])) (sym read.1) (items_found read.0 ts rest fits read.2)
