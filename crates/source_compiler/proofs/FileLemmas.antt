-- The files of a program have one first that is wrong, with one blame, or are one program.
use Rattle.std.proofs.Common.{◌≡◌, ◌<◌, ◌≤◌, ◌+◌, ℕ, zero, suc, ◌-◌, List, [], ◌∷◌, ◌++◌, length, slice_get, get_or, take, drop, All, refl, sym, ap, subst, ◌∙◌, append_assoc, arith, inl, inr}
use Rattle.std.proofs.lemmas.List.Elements.{All-append, All-cons, All-nil}
use Rattle.std.proofs.lemmas.List.{take_more}
use Rattle.std.proofs.lemmas.List.Sums.{get_or-le-sum_by}
use Rattle.capl_include.specs.Answer.{token_count}
use Rattle.capl_include.specs.Blame.{place_blame}
use Rattle.std.proofs.lemmas.Bool.{cases_order}
use Rattle.std.specs.List.{AllZip}
use Rattle.texts.specs.declared.blame.Blame.{Blame}
use Rattle.texts.specs.declared.blame.Rule.{Rule}
use Rattle.capl_lexer.specs.Screening.{Breaks, BreaksBehind, EndsWith, IsFloatWord, IsFloatingPoint, IsOutside, IsOutsideWord, kinds_of}
use Rattle.capl_lexer.specs.declared.token.Sign.TheVariants as sign
use Rattle.capl_lexer.specs.declared.token.Tok.{Tok}
use Rattle.capl_lexer.specs.declared.token.Tok.TheVariants as tok
use Rattle.capl_lexer.specs.declared.token.Token.{Token}
use Rattle.capl_lexer.specs.declared.token.Word.{Word}
use Rattle.capl_lexer.specs.declared.token.Word.TheVariants as word
use Rattle.capl_nesting.specs.Tokens.{toks}
use Rattle.capl_parser.proofs.Whole.{only_parsed}
use Rattle.capl_tree.specs.declared.file.FileTree.{FileTree}
use Rattle.capl_tree.specs.declared.file.Program.{Program}
use Rattle.capl_include.specs.declared.expanded.SourceFile.{SourceFile}
use Rattle.source_compiler.specs.Source.{AreTreesOf, HasTree, IsFirstFile, IsParsed, IsScreened, IsTokenBlame, IsTreeBlame, wrong_blame}
use Rattle.source_compiler.proofs.WrongLemmas.{one_wrong}

-- ---- the first file

first_of : {X : Type 0} (P : X → Type 0) (x : X) (xs : List X) → All P (x ∷ xs) → P x
first_of P x xs all = all 0 x (omega arith)

rest_of : {X : Type 0} (P : X → Type 0) (x : X) (xs : List X) → All P (x ∷ xs) → All P xs
rest_of P x xs all = λ k d within. all (suc k) d (omega arith)

same_file : (IsRight IsWrong IsAlso : SourceFile → Type 0) →
    ((file : SourceFile) → IsRight file → IsWrong file → ⊥) → ((file : SourceFile) → IsRight file → IsAlso file → ⊥) →
    (before more : List SourceFile) (file other : SourceFile) (after rest : List SourceFile) → before ++ file ∷ after ≡ more ++ other ∷ rest →
    All IsRight before → All IsRight more → IsWrong file → IsAlso other → file ≡ other
same_file IsRight IsWrong IsAlso not_wrong not_also [] [] file other after rest same right right_too wrong also = cc
same_file IsRight IsWrong IsAlso not_wrong not_also [] (y ∷ more) file other after rest same right right_too wrong also =
    let head : y ≡ file = cc in
    absurd (not_wrong file (subst IsRight head (first_of IsRight y more right_too)) wrong)
same_file IsRight IsWrong IsAlso not_wrong not_also (x ∷ before) [] file other after rest same right right_too wrong also =
    let head : x ≡ other = cc in
    absurd (not_also other (subst IsRight head (first_of IsRight x before right)) also)
same_file IsRight IsWrong IsAlso not_wrong not_also (x ∷ before) (y ∷ more) file other after rest same right right_too wrong also =
    same_file IsRight IsWrong IsAlso not_wrong not_also before more file other after rest (cc)
    (rest_of IsRight x before right) (rest_of IsRight y more right_too) wrong also

-- where each file has one blame and none that is right has one, the first file that is wrong has one blame
one_first_blame : (IsRight : SourceFile → Type 0) (IsWrong : Blame → SourceFile → Type 0) →
    ((blame : Blame) (file : SourceFile) → IsRight file → IsWrong blame file → ⊥) →
    ((blame other : Blame) (file : SourceFile) → IsWrong blame file → IsWrong other file → blame ≡ other) →
    (files : List SourceFile) (blame other : Blame) → IsFirstFile IsRight (IsWrong blame) files → IsFirstFile IsRight (IsWrong other) files → blame ≡ other
one_first_blame IsRight IsWrong not_both once files blame other one two =
    let same = same_file IsRight (IsWrong blame) (IsWrong other) (not_both blame) (not_both other) one.before two.before one.file two.file one.after two.after
    (sym one.split ∙ two.split) one.right_before two.right_before one.wrong two.wrong in
    once blame other two.file (subst (IsWrong blame) same one.wrong) two.wrong

at_split : {X : Type 0} (P : X → Type 0) (before : List X) (x : X) (after : List X) → All P (before ++ x ∷ after) → P x
at_split P [] x after all = first_of P x after all
at_split P (y ∷ before) x after all = at_split P before x after (rest_of P y (before ++ x ∷ after) all)

-- where all files are right there is none
no_first : (IsRight IsWrong : SourceFile → Type 0) → ((file : SourceFile) → IsRight file → IsWrong file → ⊥) → (files : List SourceFile) → All IsRight files → IsFirstFile IsRight IsWrong files → ⊥
no_first IsRight IsWrong not_both files right first =
    not_both first.file (at_split IsRight first.before first.file first.after (subst (All IsRight) first.split right)) first.wrong

-- ---- tokens

float_or_outside : (w : Word) → IsFloatWord w → IsOutsideWord w → ⊥
float_or_outside word.Float is also = also
float_or_outside word.Double is also = also
float_or_outside _ is also = is

last_differs : (first other : List Tok) (one two : Tok) → first ++ one ∷ [] ≡ other ++ two ∷ [] → one ≡ two
last_differs [] [] one two same = cc
last_differs [] (y ∷ []) one two same = absurd cc
last_differs [] (y ∷ z ∷ other) one two same = absurd cc
last_differs (x ∷ []) [] one two same = absurd cc
last_differs (x ∷ z ∷ first) [] one two same = absurd cc
last_differs (x ∷ first) (y ∷ other) one two same = last_differs first other one two cc

point_or_on : (before : List Tok) → EndsWith before (tok.Sign sign.Dot ∷ []) → EndsWith before (tok.Word word.On ∷ []) → ⊥
point_or_on before (first, is) (other, also) = let same = last_differs first other (tok.Sign sign.Dot) (tok.Word word.On) (sym is ∙ also) in cc

point_or_key : (before : List Tok) (name : List ℕ) → EndsWith before (tok.Sign sign.Dot ∷ []) → EndsWith before (tok.Word word.On ∷ tok.Name name ∷ []) → ⊥
point_or_key before name (first, is) (other, also) =
    let split : other ++ (tok.Word word.On ∷ tok.Name name ∷ []) ≡ (other ++ tok.Word word.On ∷ []) ++ tok.Name name ∷ [] =
    sym (append_assoc other (tok.Word word.On ∷ []) (tok.Name name ∷ [])) in
    let same = last_differs first (other ++ tok.Word word.On ∷ []) (tok.Sign sign.Dot) (tok.Name name) (sym is ∙ also ∙ split) in
    cc

-- no token breaks both rules
float_or_else : (before : List Tok) (t : Tok) → IsFloatingPoint before t → IsOutside before t → ⊥
float_or_else before (tok.Word w) is also = float_or_outside w is also
float_or_else before tok.Float is also = also
float_or_else before (tok.Name name) (phys, point) (inl (on, event)) = point_or_on before point on
float_or_else before (tok.Name name) (phys, point) (inr key) = point_or_key before _ point key
float_or_else before _ is also = is

one_rule : (before : List Tok) (t : Tok) (rule other : Rule) → BreaksBehind before t rule → BreaksBehind before t other → rule ≡ other
one_rule before t rule other (inl (is, one)) (inl (also, two)) = is ∙ sym also
one_rule before t rule other (inl (is, one)) (inr (also, two)) = absurd (float_or_else before t one two)
one_rule before t rule other (inr (is, one)) (inl (also, two)) = absurd (float_or_else before t two one)
one_rule before t rule other (inr (is, one)) (inr (also, two)) = is ∙ sym also

same_before : (before more : List Token) (one two : Token) (after rest : List Token) → before ++ one ∷ after ≡ more ++ two ∷ rest → length before ≡ length more → before ≡ more
same_before [] [] one two after rest same sized = refl
same_before [] (y ∷ more) one two after rest same sized = absurd (omega arith)
same_before (x ∷ before) [] one two after rest same sized = absurd (omega arith)
same_before (x ∷ before) (y ∷ more) one two after rest same sized =
    let head : x ≡ y = cc in
    let tail = same_before before more one two after rest (cc) (omega arith) in
    (λ i. head i ∷ tail i)

same_token : (before more : List Token) (one two : Token) (after rest : List Token) → before ++ one ∷ after ≡ more ++ two ∷ rest → length before ≡ length more → one ≡ two
same_token [] [] one two after rest same sized = cc
same_token [] (y ∷ more) one two after rest same sized = absurd (omega arith)
same_token (x ∷ before) [] one two after rest same sized = absurd (omega arith)
same_token (x ∷ before) (y ∷ more) one two after rest same sized = same_token before more one two after rest (cc) (omega arith)

token_of : (tokens : List Token) (place : ℕ) (rule other : Rule) (one : Breaks tokens place rule) (two : Breaks tokens place other) → one.token ≡ two.token
token_of tokens place rule other one two =
    same_token one.before two.before one.token two.token one.after two.after (sym one.split ∙ two.split) (sym one.at ∙ two.at)

rule_of : (tokens : List Token) (place : ℕ) (rule other : Rule) → Breaks tokens place rule → Breaks tokens place other → rule ≡ other
rule_of tokens place rule other one two =
    let before = same_before one.before two.before one.token two.token one.after two.after (sym one.split ∙ two.split) (sym one.at ∙ two.at) in
    let token = token_of tokens place rule other one two in
    one_rule (kinds_of two.before) two.token.tok rule other
    (subst (λ (t : Token). BreaksBehind (kinds_of two.before) t.tok rule) token (subst (λ (b : List Token). BreaksBehind (kinds_of b) one.token.tok rule) before one.breaks)) two.breaks

same_place : (tokens : List Token) (name : List ℕ) (place : ℕ) (rule other : Rule) (one : Breaks tokens place rule) (two : Breaks tokens place other) →
    place_blame name one.token.line one.token.column rule ≡ place_blame name two.token.line two.token.column other
same_place tokens name place rule other one two =
    let rules = rule_of tokens place rule other one two in
    let token = token_of tokens place rule other one two in
    (λ i. place_blame name ((token i).line) ((token i).column) (rules i))

moved_place : (tokens : List Token) (name : List ℕ) (place spot : ℕ) (rule other : Rule) → place ≡ spot → (one : Breaks tokens place rule) (two : Breaks tokens spot other) →
    place_blame name one.token.line one.token.column rule ≡ place_blame name two.token.line two.token.column other
moved_place tokens name place spot rule other same one two =
    subst (λ (p : ℕ). (third : Breaks tokens p other) → place_blame name one.token.line one.token.column rule ≡ place_blame name third.token.line third.token.column other) same
    (λ third. same_place tokens name place rule other one third) two

one_token : (blame other : Blame) (file : SourceFile) → IsTokenBlame blame file → IsTokenBlame other file → blame ≡ other
one_token blame other file one two =
    elim (cases_order one.place two.place) [
      | inl same ↦ one.is ∙ moved_place file.tokens file.name one.place two.place one.rule two.rule same one.breaks two.breaks ∙ sym two.is
      | inr order ↦ elim order [
        | inl before ↦ absurd (two.first one.place one.rule before one.breaks)
        | inr before ↦ absurd (one.first two.place two.rule before two.breaks)
      ]
    ]

screened_or_token : (blame : Blame) (file : SourceFile) → IsScreened file → IsTokenBlame blame file → ⊥
screened_or_token blame file right wrong = right wrong.place wrong.rule wrong.breaks

-- the tokens of files have one blame
pub one_screen_blame : (files : List SourceFile) (blame other : Blame) → IsFirstFile IsScreened (IsTokenBlame blame) files → IsFirstFile IsScreened (IsTokenBlame other) files → blame ≡ other
one_screen_blame files blame other one two = one_first_blame IsScreened IsTokenBlame screened_or_token one_token files blame other one two

-- or none
pub screened_or_blame : (files : List SourceFile) (blame : Blame) → All IsScreened files → IsFirstFile IsScreened (IsTokenBlame blame) files → ⊥
screened_or_blame files blame right first = no_first IsScreened (IsTokenBlame blame) (screened_or_token blame) files right first

-- ---- trees

one_tree_blame : (blame other : Blame) (file : SourceFile) → IsTreeBlame blame file → IsTreeBlame other file → blame ≡ other
one_tree_blame blame other file (inl (deep, is)) (inl (deep_too, also)) = is ∙ sym also
one_tree_blame blame other file (inl (deep, is)) (inr wrong) = absurd (omega (arith, deep, wrong.shallow))
one_tree_blame blame other file (inr wrong) (inl (deep, also)) = absurd (omega (arith, deep, wrong.shallow))
one_tree_blame blame other file (inr one) (inr two) =
    let same = one_wrong (toks file.tokens) one.number two.number one.first two.first in
    one.is
    ∙ ap (λ (number : ℕ). wrong_blame file.name (slice_get file.tokens number) (slice_get file.tokens (length file.tokens - 1))) same
    ∙ sym two.is

parsed_or_tree : (blame : Blame) (file : SourceFile) → IsParsed file → IsTreeBlame blame file → ⊥
parsed_or_tree blame file (tree, (flat, spelled)) (inl (deep, also)) = absurd (omega arith)
parsed_or_tree blame file (tree, (flat, spelled)) (inr wrong) = wrong.no_tree tree spelled

-- the trees of files have one blame
pub one_parse_blame : (files : List SourceFile) (blame other : Blame) → IsFirstFile IsParsed (IsTreeBlame blame) files → IsFirstFile IsParsed (IsTreeBlame other) files → blame ≡ other
one_parse_blame files blame other one two = one_first_blame IsParsed IsTreeBlame parsed_or_tree one_tree_blame files blame other one two

all_parsed : (files : List SourceFile) (trees : List FileTree) → AllZip HasTree files trees → All IsParsed files
all_parsed [] trees zipped = All-nil IsParsed
all_parsed (file ∷ files) [] zipped = absurd zipped
all_parsed (file ∷ files) (tree ∷ trees) zipped = All-cons IsParsed file files (tree, zipped.0) (all_parsed files trees zipped.1)

-- or none
pub parsed_or_blame : (files : List SourceFile) (program : Program) (blame : Blame) → AreTreesOf files program → IsFirstFile IsParsed (IsTreeBlame blame) files → ⊥
parsed_or_blame files program blame trees first = no_first IsParsed (IsTreeBlame blame) (parsed_or_tree blame) files (all_parsed files program.files trees) first

one_zip : (files : List SourceFile) (trees others : List FileTree) → AllZip HasTree files trees → AllZip HasTree files others → trees ≡ others
one_zip [] [] [] one two = refl
one_zip [] [] (y ∷ others) one two = absurd two
one_zip [] (x ∷ trees) others one two = absurd one
one_zip (file ∷ files) [] others one two = absurd one
one_zip (file ∷ files) (x ∷ trees) [] one two = absurd two
one_zip (file ∷ files) (x ∷ trees) (y ∷ others) one two =
    let head = only_parsed (toks file.tokens) x y one.0.1 two.0.1 in
    let tail = one_zip files trees others one.1 two.1 in
    (λ i. head i ∷ tail i)

-- files are one program
pub one_program : (files : List SourceFile) (program other : Program) → AreTreesOf files program → AreTreesOf files other → program ≡ other
one_program files program other one two = let same = one_zip files program.files other.files one two in (λ i. record { files = same i })

-- ---- where a loop over files stands

-- the files before one, it, and those after it
pub split_around : {X : Type 0} (xs : List X) (i : ℕ) (x : X) → i < length xs → x ≡ get_or xs i x → xs ≡ take i xs ++ x ∷ drop (i + 1) xs
split_around [] i x within is = absurd (omega arith)
split_around (y ∷ ys) zero x within is = grind arith
split_around (y ∷ ys) (suc i) x within is = grind (arith, split_around ys i x (omega arith) is)

-- what holds of all before one, and of it, holds of all up to it
pub all_more : {X : Type 0} (P : X → Type 0) (xs : List X) (i : ℕ) (x : X) → i < length xs → x ≡ get_or xs i x → All P (take i xs) → P x → All P (take (i + 1) xs)
all_more P xs i x within is all here =
    subst (All P) (sym (take_more xs i x within ∙ ap (λ y. take i xs ++ y ∷ []) (sym is)))
    (All-append P (take i xs) (x ∷ []) all (All-cons P x [] here (All-nil P)))

-- a file behind right ones is the first that is wrong
pub first_at : (IsRight IsWrong : SourceFile → Type 0) (files : List SourceFile) (i : ℕ) (file : SourceFile) → i < length files → file ≡ get_or files i file →
    All IsRight (take i files) → IsWrong file → IsFirstFile IsRight IsWrong files
first_at IsRight IsWrong files i file within is right wrong = record {
  before = take i files;
  file = file;
  after = drop (i + 1) files;
  split = split_around files i file within is;
  right_before = right;
  wrong = wrong;
}

zip_push : (files : List SourceFile) (trees : List FileTree) (file : SourceFile) (tree : FileTree) → AllZip HasTree files trees → HasTree file tree → AllZip HasTree (files ++ file ∷ []) (trees ++ tree ∷ [])
zip_push [] [] file tree zipped has = (has, tt)
zip_push [] (y ∷ trees) file tree zipped has = absurd zipped
zip_push (x ∷ files) [] file tree zipped has = absurd zipped
zip_push (x ∷ files) (y ∷ trees) file tree zipped has = (zipped.0, zip_push files trees file tree zipped.1 has)

-- one more file with its tree
pub zip_more : (files : List SourceFile) (i : ℕ) (trees : List FileTree) (file : SourceFile) (tree : FileTree) → i < length files → file ≡ get_or files i file →
    AllZip HasTree (take i files) trees → HasTree file tree → AllZip HasTree (take (i + 1) files) (trees ++ tree ∷ [])
zip_more files i trees file tree within is zipped has =
    subst (λ (f : List SourceFile). AllZip HasTree f (trees ++ tree ∷ [])) (sym (take_more files i file within ∙ ap (λ y. take i files ++ y ∷ []) (sym is)))
    (zip_push (take i files) trees file tree zipped has)

-- files with trees are parsed
pub zip_parsed : (files : List SourceFile) (trees : List FileTree) → AllZip HasTree files trees → All IsParsed files
zip_parsed files trees zipped = all_parsed files trees zipped

-- each file has at most as many tokens as all have
pub few_in_each : (files : List SourceFile) (i : ℕ) (file : SourceFile) → i < length files → file ≡ get_or files i file → length file.tokens ≤ token_count files
few_in_each files i file within is =
    subst (λ (f : SourceFile). length f.tokens ≤ token_count files) (sym is) (get_or-le-sum_by (λ (f : SourceFile). length f.tokens) files i file within)

-- ---- the token of a place

token_at : (before : List Token) (token : Token) (after : List Token) (d : Token) → get_or (before ++ token ∷ after) (length before) d ≡ token
token_at [] token after d = refl
token_at (x ∷ before) token after d = token_at before token after d

token_found : (tokens : List Token) (place : ℕ) (rule : Rule) (breaks : Breaks tokens place rule) (d : Token) → get_or tokens place d ≡ breaks.token
token_found tokens place rule breaks d =
    ap (λ (t : List Token). get_or t place d) breaks.split ∙ ap (λ n. get_or (breaks.before ++ breaks.token ∷ breaks.after) n d) breaks.at
    ∙ token_at breaks.before breaks.token breaks.after d

-- the first token of a file that a program may not have is to blame
pub token_blame : (file : SourceFile) (tokens : List Token) (name : List ℕ) (place : ℕ) (rule : Rule) (d : Token) → tokens ≡ file.tokens → name ≡ file.name →
    Breaks tokens place rule → ((earlier : ℕ) (other : Rule) → earlier < place → Breaks tokens earlier other → ⊥) →
    IsTokenBlame (place_blame name (get_or tokens place d).line (get_or tokens place d).column rule) file
token_blame file tokens name place rule d same named breaks first =
    let moved = subst (λ (t : List Token). Breaks t place rule) same breaks in
    let token : get_or tokens place d ≡ moved.token = ap (λ (t : List Token). get_or t place d) same ∙ token_found file.tokens place rule moved d in
    record {
      place = place;
      rule = rule;
      breaks = moved;
      first = subst (λ (t : List Token). (earlier : ℕ) (other : Rule) → earlier < place → Breaks t earlier other → ⊥) same first;
      is = λ i. place_blame (named i) ((token i).line) ((token i).column) rule;
    }
