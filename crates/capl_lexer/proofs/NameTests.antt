-- The tests of names tell what a name is.
use Rattle.std.proofs.Common.{◌≡◌, ℕ, Bool, true, false, not, List, [], ◌∷◌, ◌&&◌, ◌||◌, get_or, refl, sym, subst, ◌∙◌, ap, arith, All, ◌≢◌, inl, inr}
use Rattle.std.specs.Prelude.{IsTrue, ◌⊎◌}
use Rattle.std.specs.List.{list_all, list_any}
use Rattle.std.specs.Str.{bytes_eq}
use Rattle.std.specs.Bool.{Decides}
use Rattle.std.proofs.lemmas.Bool.{false≢true, not-true}
use Rattle.std.proofs.lemmas.Bool.Decides.{nat_tests}
use Rattle.std.proofs.lemmas.List.Sums.{AllPass-from_list_all, list_all-from_AllPass}
use Rattle.std.proofs.lemmas.List.Folds.{list_any_none}
use Rattle.std.proofs.lemmas.Slice.Eq.{bytes_eq-Decides}
use Rattle.capl_lexer.specs.Spelling.{IsNameStart, IsNamePart, IsName, word_spelling}
use Rattle.capl_lexer.specs.Name.{is_name_start, is_name_part, reserved_words, is_reserved, is_name}
use Rattle.capl_lexer.specs.declared.token.Word.{Word}
use Rattle.capl_lexer.specs.declared.token.Word.TheVariants as word

start_passes : (byte : ℕ) → IsNameStart byte → is_name_start byte ≡ true
start_passes byte start = grind (arith, nat_tests)

passes_start : (byte : ℕ) → is_name_start byte ≡ true → IsNameStart byte
passes_start byte passes = grind (arith, nat_tests)

part_passes : (byte : ℕ) → IsNamePart byte → is_name_part byte ≡ true
part_passes byte part = grind (arith, nat_tests)

passes_part : (byte : ℕ) → is_name_part byte ≡ true → IsNamePart byte
passes_part byte passes = grind (arith, nat_tests)

-- each word is in the list of them
reserved : (word : Word) → is_reserved (word_spelling word) ≡ true
reserved word.Includes = refl
reserved word.Variables = refl
reserved word.On = refl
reserved word.This = refl
reserved word.If = refl
reserved word.Else = refl
reserved word.While = refl
reserved word.Do = refl
reserved word.For = refl
reserved word.Switch = refl
reserved word.Case = refl
reserved word.Default = refl
reserved word.Break = refl
reserved word.Continue = refl
reserved word.Return = refl
reserved word.Message = refl
reserved word.Timer = refl
reserved word.MsTimer = refl
reserved word.Byte = refl
reserved word.Word = refl
reserved word.Dword = refl
reserved word.Qword = refl
reserved word.Int = refl
reserved word.Long = refl
reserved word.Int64 = refl
reserved word.Char = refl
reserved word.Void = refl
reserved word.Const = refl
reserved word.Float = refl
reserved word.Double = refl
reserved word.Struct = refl
reserved word.Enum = refl
reserved word.Stack = refl
reserved word.Testcase = refl
reserved word.Testfunction = refl
reserved word.DiagRequest = refl
reserved word.DiagResponse = refl
reserved word.LinFrame = refl
reserved word.FrFrame = refl
reserved word.EthernetPacket = refl

-- bytes that are not reserved spell no word, and the other way round
not_reserved : (bytes : List ℕ) → is_reserved bytes ≡ false → (some : Word) → bytes ≢ word_spelling some
not_reserved bytes free some same =
    let found : is_reserved bytes ≡ true = ap is_reserved same ∙ reserved some in
    cc

free_of_words : (bytes : List ℕ) → ((some : Word) → bytes ≢ word_spelling some) → is_reserved bytes ≡ false
free_of_words bytes free =
    list_any_none (λ (some : Word). bytes_eq bytes (word_spelling some)) reserved_words
    (λ k d within. by (get_or reserved_words k d) (bytes_eq bytes (word_spelling (get_or reserved_words k d))) refl)
  where
    by : (some : Word) (b : Bool) → bytes_eq bytes (word_spelling some) ≡ b → b ≡ false
    by some true is = absurd (free some ((bytes_eq-Decides bytes (word_spelling some)).0 is))
    by some false is = refl

-- three tests that hold
three_hold : (a b c : Bool) → (a && b && c) ≡ true → (a ≡ true) × (b ≡ true) × (c ≡ true)
three_hold true true true all = (refl, refl, refl)
three_hold true true false all = absurd (false≢true all)
three_hold true false c all = absurd (false≢true all)
three_hold false b c all = absurd (false≢true all)

-- and the other way round
hold_three : (a b c : Bool) → a ≡ true → b ≡ true → c ≡ true → (a && b && c) ≡ true
hold_three a b c first second third = rw (first, second, third) refl

-- the test tells names
pub is_name-Decides : (bytes : List ℕ) → Decides (is_name bytes) (IsName bytes)
is_name-Decides [] = ((λ no. absurd (false≢true no)), (λ name. absurd name.start))
is_name-Decides (byte ∷ bytes) = (name_from_test, test_from_name)
  where
    name_from_test : is_name (byte ∷ bytes) ≡ true → IsName (byte ∷ bytes)
    name_from_test passes =
        let all = three_hold (is_name_start byte) (list_all is_name_part (byte ∷ bytes)) (not (is_reserved (byte ∷ bytes))) passes in
        record {
          start = passes_start byte all.0;
          parts = λ k d within. passes_part _ (AllPass-from_list_all is_name_part (byte ∷ bytes) all.1 k d within);
          not_reserved = not_reserved (byte ∷ bytes) (not-true (is_reserved (byte ∷ bytes)) all.2);
        }

    test_from_name : IsName (byte ∷ bytes) → is_name (byte ∷ bytes) ≡ true
    test_from_name name =
        let start : is_name_start byte ≡ true = start_passes byte name.start in
        let parts : list_all is_name_part (byte ∷ bytes) ≡ true =
        list_all-from_AllPass is_name_part (byte ∷ bytes) (λ k d within. part_passes _ (name.parts k d within)) in
        let free : is_reserved (byte ∷ bytes) ≡ false = free_of_words (byte ∷ bytes) name.not_reserved in
        hold_three (is_name_start byte) (list_all is_name_part (byte ∷ bytes)) (not (is_reserved (byte ∷ bytes))) start parts (ap not free)

-- what tells names is the test
pub told_by_test : (bytes : List ℕ) (told : Bool) → (IsTrue told → IsName bytes) × (IsName bytes → IsTrue told) → told ≡ is_name bytes
told_by_test bytes told tells = by told (is_name bytes) refl refl
  where
    by : (b c : Bool) → told ≡ b → is_name bytes ≡ c → b ≡ c
    by true true first second = refl
    by false false first second = refl
    by true false first second =
        let yes : is_name bytes ≡ true = (is_name-Decides bytes).1 (tells.0 (subst IsTrue (sym first) refl)) in cc
    by false true first second =
        let yes : IsTrue told = tells.1 ((is_name-Decides bytes).0 second) in cc
