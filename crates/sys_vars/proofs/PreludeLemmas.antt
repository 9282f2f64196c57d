-- The tokens of the prelude spell its tree, in place, and nest little.
use Rattle.std.proofs.Common.{append_assoc, ◌≡◌, ℕ, ◌+◌, ◌*◌, ◌≤◌, Bool, false, List, [], ◌∷◌, ◌++◌, length, length-append, map, Option, Some, refl, ap, sym, subst, ◌∙◌, arith}
use Rattle.std.specs.Prelude.{FitsSigned, flat_map, ℤ, pos, negsuc, max, if◌then◌else◌}
use Rattle.std.proofs.lemmas.List.{append-nil, map-append}
use Rattle.std.proofs.lemmas.Int.{ints}
use Rattle.std.specs.List.{All}
use Rattle.std.proofs.lemmas.List.Elements.{All-cons, All-nil}
use mir.Syntax.{w128}
use Rattle.capl_lexer.specs.declared.token.Tok.{Tok}
use Rattle.capl_lexer.specs.declared.token.Tok.TheVariants as tok
use Rattle.capl_lexer.specs.declared.token.Token.{Token}
use Rattle.capl_lexer.specs.declared.token.Word.TheVariants as word
use Rattle.capl_lexer.specs.declared.token.Sign.TheVariants as sign
use Rattle.capl_nesting.specs.Tokens.{toks}
use Rattle.capl_tree.specs.declared.declaration.Decl.{Decl}
use Rattle.capl_tree.specs.declared.declaration.Init.TheVariants.{One}
use Rattle.capl_tree.specs.declared.file.TopItem.TheVariants as top
use Rattle.capl_tree.specs.Grammar.{IsDeclaration, IsDeclared, IsInitialiser, IsTopItem, IsValue}
use Rattle.capl_tree.specs.Spelling.{expression, declaration}
use Rattle.capl_tree.specs.FileSpelling.{each}
use Rattle.capl_tree.specs.Placed.{IsPlaced, IsDeclarationPlaced}
use Rattle.capl_tree.specs.FilePlaced.{EachPlaced}
use Rattle.capl_tree.specs.Tree.{IsTreeOf}
use Rattle.capl_grammar.specs.File.{IsSourceOf}
use Rattle.capl_grammar.proofs.SameFile.{written}
use Rattle.capl_tree.specs.Nesting.{deepest, goes_on, nesting}
use Rattle.sys_vars.specs.declared.item.SysItem.{SysItem}
use Rattle.sys_vars.specs.Name.{IsLong, timer_name, variable_name}
use Rattle.sys_vars.specs.Prelude.{value_toks, variable_toks, timer_toks, prelude_toks, prelude_tokens, unplaced, value_tree, variable_declaration, timer_declaration, declared_in_order, prelude_tree}

-- tokens that stand in no file are what they are
pub unplaced_toks : (ts : List Tok) → toks (map unplaced ts) ≡ ts
unplaced_toks [] = refl
unplaced_toks (t ∷ ts) = ap (λ (rest : List Tok). t ∷ rest) (unplaced_toks ts)

-- Spelling.

value_spelled : (at : ℕ) (n : ℤ) (rest : List Tok) → expression (value_tree at n) rest ≡ value_toks n ++ rest
value_spelled at (pos n) rest = refl
value_spelled at (negsuc n) rest = refl

variable_spelled : (at : ℕ) (item : SysItem) (rest : List Tok) → declaration (variable_declaration at item) rest ≡ variable_toks item ++ rest
variable_spelled at item rest =
    ap (λ (ts : List Tok). tok.Word word.Long ∷ tok.Name (variable_name item.space item.name) ∷ tok.Sign sign.Assign ∷ ts)
    (value_spelled (at + 3) item.value (tok.Sign sign.Semi ∷ rest) ∙ sym (append_assoc (value_toks item.value) (tok.Sign sign.Semi ∷ []) rest))

timer_spelled : (at : ℕ) (item : SysItem) (rest : List Tok) → declaration (timer_declaration at item) rest ≡ timer_toks item ++ rest
timer_spelled at item rest = refl

-- declarations, each of which is spelled by its tokens
AreSpelled : (ℕ → SysItem → Decl) → (SysItem → List Tok) → Type 0
AreSpelled one tokens = (at : ℕ) (item : SysItem) (rest : List Tok) → declaration (one at item) rest ≡ tokens item ++ rest

in_order_spelled : (one : ℕ → SysItem → Decl) (tokens : SysItem → List Tok) → AreSpelled one tokens → (at : ℕ) (items : List SysItem) (rest : List Tok)
    → each declaration (declared_in_order one tokens at items) rest ≡ flat_map tokens items ++ rest
unfolding AreSpelled
in_order_spelled one tokens spelled at [] rest = refl
in_order_spelled one tokens spelled at (item ∷ items) rest =
    spelled at item (each declaration (declared_in_order one tokens (at + length (tokens item)) items) rest)
    ∙ ap (λ (ts : List Tok). tokens item ++ ts) (in_order_spelled one tokens spelled (at + length (tokens item)) items rest)
    ∙ sym (append_assoc (tokens item) (flat_map tokens items) rest)

each_append : (xs ys : List Decl) (rest : List Tok) → each declaration (xs ++ ys) rest ≡ each declaration xs (each declaration ys rest)
each_append [] ys rest = refl
each_append (x ∷ xs) ys rest = ap (λ (ts : List Tok). declaration x ts) (each_append xs ys rest)

-- Places.

value_placed : (total at : ℕ) (n : ℤ) (rest : List Tok) → at + length (expression (value_tree at n) rest) ≡ total → IsPlaced total (value_tree at n) rest
value_placed total at (pos n) rest e = e
value_placed total at (negsuc n) rest e = (e, omega arith)

variable_placed : (total at : ℕ) (item : SysItem) (rest : List Tok) → at + length (declaration (variable_declaration at item) rest) ≡ total
    → IsDeclarationPlaced total (variable_declaration at item) rest
variable_placed total at item rest e =
    let value : at + 3 + length (expression (value_tree (at + 3) item.value) (tok.Sign sign.Semi ∷ rest)) ≡ total = omega (arith, e) in
    (e, tt, ((omega (arith, e), tt, value_placed total (at + 3) item.value (tok.Sign sign.Semi ∷ rest) value), tt))

timer_placed : (total at : ℕ) (item : SysItem) (rest : List Tok) → at + length (declaration (timer_declaration at item) rest) ≡ total
    → IsDeclarationPlaced total (timer_declaration at item) rest
timer_placed total at item rest e = (e, tt, ((omega (arith, e), tt, tt), tt))

-- declarations, each of which stands in its place
ArePlaced : (ℕ → SysItem → Decl) → Type 0
ArePlaced one = (total at : ℕ) (item : SysItem) (rest : List Tok) → at + length (declaration (one at item) rest) ≡ total → IsDeclarationPlaced total (one at item) rest

in_order_placed : (one : ℕ → SysItem → Decl) (tokens : SysItem → List Tok) → AreSpelled one tokens → ArePlaced one
    → (total at : ℕ) (items : List SysItem) (rest : List Tok) → at + length (flat_map tokens items ++ rest) ≡ total
    → EachPlaced declaration (IsDeclarationPlaced total) (declared_in_order one tokens at items) rest
unfolding AreSpelled ArePlaced
in_order_placed one tokens spelled placed total at [] rest e = tt
in_order_placed one tokens spelled placed total at (item ∷ items) rest e =
    let others = each declaration (declared_in_order one tokens (at + length (tokens item)) items) rest in
    let behind : length others ≡ length (flat_map tokens items ++ rest) = ap length (in_order_spelled one tokens spelled (at + length (tokens item)) items rest) in
    let here : length (declaration (one at item) others) ≡ length (tokens item) + length others = ap length (spelled at item others) ∙ length-append (tokens item) others in
    let whole : length (tokens item ++ flat_map tokens items ++ rest) ≡ length (tokens item) + length (flat_map tokens items ++ rest) =
    ap length (append_assoc (tokens item) (flat_map tokens items) rest) ∙ length-append (tokens item) (flat_map tokens items ++ rest) in (
      placed total at item others (omega (arith, e, behind, here, whole)),
      in_order_placed one tokens spelled placed total (at + length (tokens item)) items rest (omega (arith, e, whole)),
    )

placed_append : (total : ℕ) (xs ys : List Decl) (rest : List Tok) → EachPlaced declaration (IsDeclarationPlaced total) xs (each declaration ys rest)
    → EachPlaced declaration (IsDeclarationPlaced total) ys rest → EachPlaced declaration (IsDeclarationPlaced total) (xs ++ ys) rest
placed_append total [] ys rest first second = second
placed_append total (x ∷ xs) ys rest first second = (
  subst (λ (ts : List Tok). IsDeclarationPlaced total x ts) (sym (each_append xs ys rest)) first.0,
  placed_append total xs ys rest first.1 second,
)

-- Form.

in_order_well : (one : ℕ → SysItem → Decl) (tokens : SysItem → List Tok) → ((at : ℕ) (item : SysItem) → IsDeclaration (one at item))
    → (at : ℕ) (items : List SysItem) (rest : List Decl) → All IsDeclaration rest → All IsDeclaration (declared_in_order one tokens at items ++ rest)
in_order_well one tokens well at [] rest all = all
in_order_well one tokens well at (item ∷ items) rest all =
    All-cons IsDeclaration (one at item) (declared_in_order one tokens (at + length (tokens item)) items ++ rest) (well at item)
    (in_order_well one tokens well (at + length (tokens item)) items rest all)

-- The whole.

-- what stands between the braces
abbrev inner : List SysItem → List Tok
inner items = flat_map variable_toks items ++ flat_map timer_toks items ++ tok.Sign sign.CloseBrace ∷ []

-- the declarations of the variables
abbrev variables_of : List SysItem → List Decl
variables_of items = declared_in_order variable_declaration variable_toks 2 items

-- the declarations of their timers
abbrev timers_of : List SysItem → List Decl
timers_of items = declared_in_order timer_declaration timer_toks (2 + length (flat_map variable_toks items)) items

-- `}`
abbrev close : List Tok
close = tok.Sign sign.CloseBrace ∷ []

variables_spelled : AreSpelled variable_declaration variable_toks
unfolding AreSpelled
variables_spelled at item rest = variable_spelled at item rest

timers_spelled : AreSpelled timer_declaration timer_toks
unfolding AreSpelled
timers_spelled at item rest = timer_spelled at item rest

variables_placed : ArePlaced variable_declaration
unfolding ArePlaced
variables_placed total at item rest e = variable_placed total at item rest e

timers_placed : ArePlaced timer_declaration
unfolding ArePlaced
timers_placed total at item rest e = timer_placed total at item rest e

inner_spelled : (items : List SysItem) → inner items ≡ each declaration (variables_of items ++ timers_of items) close
inner_spelled items =
    append_assoc (flat_map variable_toks items) (flat_map timer_toks items) close
    ∙ ap (λ (ts : List Tok). flat_map variable_toks items ++ ts)
    (sym (in_order_spelled timer_declaration timer_toks timers_spelled (2 + length (flat_map variable_toks items)) items close))
    ∙ sym (in_order_spelled variable_declaration variable_toks variables_spelled 2 items (each declaration (timers_of items) close))
    ∙ sym (each_append (variables_of items) (timers_of items) close)

inner_placed : (items : List SysItem) (total : ℕ) → 2 + length (inner items) ≡ total
    → EachPlaced declaration (IsDeclarationPlaced total) (variables_of items ++ timers_of items) close
inner_placed items total e =
    let timers : each declaration (timers_of items) close ≡ flat_map timer_toks items ++ close =
    in_order_spelled timer_declaration timer_toks timers_spelled (2 + length (flat_map variable_toks items)) items close in
    let whole : length (inner items) ≡ length (flat_map variable_toks items ++ each declaration (timers_of items) close) =
    ap length (append_assoc (flat_map variable_toks items) (flat_map timer_toks items) close)
    ∙ ap (λ (ts : List Tok). length (flat_map variable_toks items ++ ts)) (sym timers) in
    let parts : length (inner items) ≡ length (flat_map variable_toks items) + length (flat_map timer_toks items ++ close) =
    ap length (append_assoc (flat_map variable_toks items) (flat_map timer_toks items) close)
    ∙ length-append (flat_map variable_toks items) (flat_map timer_toks items ++ close) in
    placed_append total (variables_of items) (timers_of items) close
    (in_order_placed variable_declaration variable_toks variables_spelled variables_placed total 2 items (each declaration (timers_of items) close) (omega (arith, e, whole)))
    (in_order_placed timer_declaration timer_toks timers_spelled timers_placed total (2 + length (flat_map variable_toks items)) items close (omega (arith, e, parts)))

value_well : (at : ℕ) (n : ℤ) → IsValue (value_tree at n)
value_well at (pos n) = (tt, omega arith)
value_well at (negsuc n) = ((tt, omega arith), omega arith)

variable_well : (at : ℕ) (item : SysItem) → IsDeclaration (variable_declaration at item)
variable_well at item = (
  λ none. absurd cc,
  All-cons IsDeclared _ [] (λ size e. absurd cc, λ init e. let same : One (value_tree (at + 3) item.value) ≡ init = cc in subst IsInitialiser same (value_well (at + 3) item.value)) (All-nil IsDeclared),
)

timer_well : (at : ℕ) (item : SysItem) → IsDeclaration (timer_declaration at item)
timer_well at item = (λ none. absurd cc, All-cons IsDeclared _ [] (λ size e. absurd cc, λ init e. absurd cc) (All-nil IsDeclared))

all_well : (items : List SysItem) → All IsDeclaration (variables_of items ++ timers_of items)
all_well items =
    in_order_well variable_declaration variable_toks variable_well 2 items (timers_of items)
    (subst (λ (ds : List Decl). All IsDeclaration ds) (append-nil (timers_of items))
    (in_order_well timer_declaration timer_toks timer_well (2 + length (flat_map variable_toks items)) items [] (All-nil IsDeclaration)))

-- the tokens spell the tree, whose parts stand in their places
prelude_is_tree : (items : List SysItem) → IsTreeOf (prelude_toks items) (prelude_tree items)
prelude_is_tree items = record {
  well_formed = All-cons IsTopItem (top.Variables (variables_of items ++ timers_of items)) [] (all_well items) (All-nil IsTopItem);
  spelled_in_place = (
    record { before = false; between = false },
    [],
    ap (λ (ts : List Tok). tok.Word word.Variables ∷ tok.Sign sign.OpenBrace ∷ ts) (inner_spelled items),
    inner_placed items (length (prelude_toks items)) (omega arith),
    refl,
  );
}

-- the tokens are a source of the tree
pub prelude_is_source : (items : List SysItem) → IsSourceOf (prelude_toks items) (prelude_tree items)
prelude_is_source items = written (prelude_toks items) (prelude_tree items) (prelude_is_tree items)

-- Nesting.

-- inside the braces these tokens nest at most three deep
IsShallow : List Tok → Type 0
IsShallow ts = (before : Option Tok) → deepest (0 ∷ 0 ∷ []) before ts ≤ 3

-- these tokens do not go on with a statement, and nest little
IsCalm : List Tok → Type 0
IsCalm ts = (goes_on ts ≡ false) × IsShallow ts

-- of two numbers the greater is at most three
below : (a b : ℕ) → a ≤ 3 → b ≤ 3 → max a b ≤ 3
below a b first second = omega arith

-- the levels behind `;`, where the tokens go on with a statement or not
behind_semi : (count : ℕ) (rest : List Tok) (goes : Bool) → ℕ
behind_semi count rest goes = deepest (if goes then count ∷ 0 ∷ [] else 0 ∷ 0 ∷ []) (Some (tok.Sign sign.Semi)) rest

semi_below : (count : ℕ) (rest : List Tok) → IsCalm rest → behind_semi count rest (goes_on rest) ≤ 3
unfolding IsCalm IsShallow behind_semi
semi_below count rest calm =
    subst (λ (goes : Bool). deepest (if goes then count ∷ 0 ∷ [] else 0 ∷ 0 ∷ []) (Some (tok.Sign sign.Semi)) rest ≤ 3) (sym calm.0) (calm.1 (Some (tok.Sign sign.Semi)))

value_calm : (name : List ℕ) (n : ℤ) (rest : List Tok) → IsCalm rest
    → IsCalm (tok.Word word.Long ∷ tok.Name name ∷ tok.Sign sign.Assign ∷ (value_toks n ++ tok.Sign sign.Semi ∷ []) ++ rest)
unfolding IsCalm IsShallow behind_semi
value_calm name (pos n) rest calm =
    let last = semi_below 1 rest calm in
    (refl, λ before. below 1 _ (omega arith) (below 1 _ (omega arith) (below 1 _ (omega arith) (below 2 _ (omega arith) (below 2 _ (omega arith) last)))))
value_calm name (negsuc n) rest calm =
    let last = semi_below 2 rest calm in
    (refl, λ before. below 1 _ (omega arith) (below 1 _ (omega arith) (below 1 _ (omega arith) (below 2 _ (omega arith) (below 3 _ (omega arith) (below 3 _ (omega arith) last))))))

variable_calm : (item : SysItem) (rest : List Tok) → IsCalm rest → IsCalm (variable_toks item ++ rest)
variable_calm item rest calm = value_calm (variable_name item.space item.name) item.value rest calm

timer_calm : (item : SysItem) (rest : List Tok) → IsCalm rest → IsCalm (timer_toks item ++ rest)
unfolding IsCalm IsShallow behind_semi
timer_calm item rest calm =
    let last = semi_below 0 rest calm in
    (refl, λ before. below 1 _ (omega arith) (below 1 _ (omega arith) (below 1 _ (omega arith) last)))

all_calm : (one : SysItem → List Tok) → ((item : SysItem) (rest : List Tok) → IsCalm rest → IsCalm (one item ++ rest))
    → (items : List SysItem) (rest : List Tok) → IsCalm rest → IsCalm (flat_map one items ++ rest)
all_calm one calms [] rest calm = calm
all_calm one calms (item ∷ items) rest calm =
    subst IsCalm (sym (append_assoc (one item) (flat_map one items) rest)) (calms item (flat_map one items ++ rest) (all_calm one calms items rest calm))

close_calm : IsCalm close
unfolding IsCalm IsShallow
close_calm = (refl, λ before. omega arith)

-- the tokens of the prelude nest at most three deep
pub prelude_shallow : (items : List SysItem) → nesting (prelude_toks items) ≤ 3
unfolding IsCalm IsShallow
prelude_shallow items =
    let calm = all_calm variable_toks variable_calm items (flat_map timer_toks items ++ close) (all_calm timer_toks timer_calm items close close_calm) in
    let inside : deepest (0 ∷ 0 ∷ []) (Some (tok.Sign sign.OpenBrace)) (inner items) ≤ 3 =
    subst (λ (ts : List Tok). deepest (0 ∷ 0 ∷ []) (Some (tok.Sign sign.OpenBrace)) ts ≤ 3)
    (sym (append_assoc (flat_map variable_toks items) (flat_map timer_toks items) close)) (calm.1 (Some (tok.Sign sign.OpenBrace))) in
    below 0 _ (omega arith) (below 0 _ (omega arith) inside)

-- Length.

value_short : (n : ℤ) → length (value_toks n) ≤ 2
value_short (pos n) = omega arith
value_short (negsuc n) = omega arith

variables_short : (items : List SysItem) → length (flat_map variable_toks items) ≤ 6 * length items
variables_short [] = omega arith
variables_short (item ∷ items) =
    omega (
      arith,
      length-append (variable_toks item) (flat_map variable_toks items),
      length-append (value_toks item.value) (tok.Sign sign.Semi ∷ []),
      value_short item.value,
      variables_short items,
    )

timers_short : (items : List SysItem) → length (flat_map timer_toks items) ≤ 3 * length items
timers_short [] = omega arith
timers_short (item ∷ items) = omega (arith, timers_short items)

-- the prelude has at most nine tokens for each variable, and three more
pub prelude_short : (items : List SysItem) → length (prelude_toks items) ≤ 3 + 9 * length items
prelude_short items =
    omega (
      arith,
      length-append (flat_map variable_toks items ++ flat_map timer_toks items) close,
      length-append (flat_map variable_toks items) (flat_map timer_toks items),
      variables_short items,
      timers_short items,
    )

-- Writing.

-- a variable's declaration, token by token
pub variable_written : (before : List Token) (item : SysItem)
    → ((((before ++ unplaced (tok.Word word.Long) ∷ []) ++ unplaced (tok.Name (variable_name item.space item.name)) ∷ []) ++ unplaced (tok.Sign sign.Assign) ∷ [])
    ++ map unplaced (value_toks item.value)) ++ unplaced (tok.Sign sign.Semi) ∷ [] ≡ before ++ map unplaced (variable_toks item)
variable_written before item =
    let value = map unplaced (value_toks item.value) in
    let long = unplaced (tok.Word word.Long) ∷ [] in
    let name = unplaced (tok.Name (variable_name item.space item.name)) ∷ [] in
    let assign = unplaced (tok.Sign sign.Assign) ∷ [] in
    let semi = unplaced (tok.Sign sign.Semi) ∷ [] in
    append_assoc (((before ++ long) ++ name) ++ assign) value semi
    ∙ append_assoc ((before ++ long) ++ name) assign (value ++ semi)
    ∙ append_assoc (before ++ long) name (assign ++ (value ++ semi))
    ∙ append_assoc before long (name ++ (assign ++ (value ++ semi)))
    ∙ ap (λ (ts : List Token). before ++ (long ++ (name ++ (assign ++ ts)))) (sym (map-append unplaced (value_toks item.value) (tok.Sign sign.Semi ∷ [])))

-- its timer's
pub timer_written : (before : List Token) (item : SysItem)
    → ((before ++ unplaced (tok.Word word.MsTimer) ∷ []) ++ unplaced (tok.Name (timer_name item.space item.name)) ∷ []) ++ unplaced (tok.Sign sign.Semi) ∷ []
    ≡ before ++ map unplaced (timer_toks item)
timer_written before item =
    let timer = unplaced (tok.Word word.MsTimer) ∷ [] in
    let name = unplaced (tok.Name (timer_name item.space item.name)) ∷ [] in
    let semi = unplaced (tok.Sign sign.Semi) ∷ [] in
    append_assoc (before ++ timer) name semi ∙ append_assoc before timer (name ++ semi)

-- a variable's declaration, one push after another
pub variable_pushed : (before one two three four five : List Token) (text space name : List ℕ) (item : SysItem)
    → text ≡ variable_name space name → space ≡ item.space → name ≡ item.name
    → one ≡ before ++ unplaced (tok.Word word.Long) ∷ [] → two ≡ one ++ unplaced (tok.Name text) ∷ []
    → three ≡ two ++ unplaced (tok.Sign sign.Assign) ∷ [] → four ≡ three ++ map unplaced (value_toks item.value)
    → five ≡ four ++ unplaced (tok.Sign sign.Semi) ∷ [] → five ≡ before ++ map unplaced (variable_toks item)
variable_pushed before one two three four five text space name item named same_space same_name first second third fourth fifth =
    let is : text ≡ variable_name item.space item.name =
    named ∙ ap (λ (s : List ℕ). variable_name s name) same_space ∙ ap (λ (n : List ℕ). variable_name item.space n) same_name in
    fifth
    ∙ ap (λ (ts : List Token). ts ++ unplaced (tok.Sign sign.Semi) ∷ []) fourth
    ∙ ap (λ (ts : List Token). (ts ++ map unplaced (value_toks item.value)) ++ unplaced (tok.Sign sign.Semi) ∷ []) third
    ∙ ap (λ (ts : List Token). ((ts ++ unplaced (tok.Sign sign.Assign) ∷ []) ++ map unplaced (value_toks item.value)) ++ unplaced (tok.Sign sign.Semi) ∷ []) second
    ∙ ap (λ (ts : List Token). (((ts ++ unplaced (tok.Name text) ∷ []) ++ unplaced (tok.Sign sign.Assign) ∷ []) ++ map unplaced (value_toks item.value)) ++ unplaced (tok.Sign sign.Semi) ∷ []) first
    ∙ ap (λ (n : List ℕ). ((((before ++ unplaced (tok.Word word.Long) ∷ []) ++ unplaced (tok.Name n) ∷ []) ++ unplaced (tok.Sign sign.Assign) ∷ [])
    ++ map unplaced (value_toks item.value)) ++ unplaced (tok.Sign sign.Semi) ∷ []) is
    ∙ variable_written before item

-- a long fits in 128 bits
pub long_fits : (n : ℤ) → IsLong n → FitsSigned w128 n
long_fits (pos n) long = record { sfits = omega (arith, ints, long.at_most) }
long_fits (negsuc n) long = record { sfits = omega (arith, ints, long.at_least) }

-- its timer's
pub timer_pushed : (before one two three : List Token) (text space name : List ℕ) (item : SysItem)
    → text ≡ timer_name space name → space ≡ item.space → name ≡ item.name
    → one ≡ before ++ unplaced (tok.Word word.MsTimer) ∷ [] → two ≡ one ++ unplaced (tok.Name text) ∷ []
    → three ≡ two ++ unplaced (tok.Sign sign.Semi) ∷ [] → three ≡ before ++ map unplaced (timer_toks item)
timer_pushed before one two three text space name item named same_space same_name first second third =
    let is : text ≡ timer_name item.space item.name =
    named ∙ ap (λ (s : List ℕ). timer_name s name) same_space ∙ ap (λ (n : List ℕ). timer_name item.space n) same_name in
    third
    ∙ ap (λ (ts : List Token). ts ++ unplaced (tok.Sign sign.Semi) ∷ []) second
    ∙ ap (λ (ts : List Token). (ts ++ unplaced (tok.Name text) ∷ []) ++ unplaced (tok.Sign sign.Semi) ∷ []) first
    ∙ ap (λ (n : List ℕ). ((before ++ unplaced (tok.Word word.MsTimer) ∷ []) ++ unplaced (tok.Name n) ∷ []) ++ unplaced (tok.Sign sign.Semi) ∷ []) is
    ∙ timer_written before item

-- all tokens
pub all_written : (items : List SysItem)
    → map unplaced (tok.Word word.Variables ∷ tok.Sign sign.OpenBrace ∷ (flat_map variable_toks items ++ flat_map timer_toks items)) ++ unplaced (tok.Sign sign.CloseBrace) ∷ []
    ≡ prelude_tokens items
all_written items =
    sym (map-append unplaced (tok.Word word.Variables ∷ tok.Sign sign.OpenBrace ∷ (flat_map variable_toks items ++ flat_map timer_toks items)) close)
