-- When bytes are a name, by their first byte and the run of name bytes at their front.
use Rattle.std.proofs.Common.{refl, ◌≡◌, ◌≢◌, ◌≤◌, ℕ, List, [], ◌∷◌, length, sym}
use Rattle.std.specs.Prelude.{Bool, true, false, not, Option, Some, None, IsTrue, is_none, is_some}
use Rattle.std.proofs.lemmas.Bool.{false≢true}
use Rattle.items.specs.Search.{Finds}
use Rattle.capl_lexer.specs.Spelling.{IsNameFront, IsName, word_spelling}
use Rattle.capl_lexer.specs.Inside.ByteClass.{IsFirstInClass, IsRun}
use Rattle.capl_lexer.specs.declared.byte_class.ByteClass.TheVariants as class
use Rattle.capl_lexer.specs.declared.token.Word.{Word}
use Rattle.capl_lexer.proofs.ByteClassLemmas.{run-whole, whole-run}

-- the first byte is that of a name
pub first_from_front : (bytes : List ℕ) → IsNameFront bytes → IsFirstInClass class.NameStart bytes
first_from_front [] front = front
first_from_front (byte ∷ bytes) front = front

front_from_first : (bytes : List ℕ) → IsFirstInClass class.NameStart bytes → IsNameFront bytes
front_from_first [] first = first
front_from_first (byte ∷ bytes) first = first

-- a name is one run of name bytes
pub name_is_run : (bytes : List ℕ) (count : ℕ) → IsRun class.NamePart bytes count → IsName bytes → length bytes ≤ count
name_is_run bytes count run name = whole-run class.NamePart bytes count run name.parts

-- a run of name bytes that begins as a name is one, if it is no reserved word
pub name_from_run : (bytes : List ℕ) (count : ℕ) → IsFirstInClass class.NameStart bytes → IsRun class.NamePart bytes count → length bytes ≤ count →
    ((word : Word) → bytes ≢ word_spelling word) → IsName bytes
name_from_run bytes count first run whole free =
    record {
      start = front_from_first bytes first;
      parts = run-whole class.NamePart bytes count run whole;
      not_reserved = free;
    }

-- whether no word was found tells whether the bytes are a name
pub name_by_words : (bytes : List ℕ) (count : ℕ) (found : Option Word) → IsFirstInClass class.NameStart bytes → IsRun class.NamePart bytes count → length bytes ≤ count →
    Finds (λ (word : Word). bytes ≡ word_spelling word) found →
    (IsTrue (is_none found) → IsName bytes) × (IsName bytes → IsTrue (is_none found))
name_by_words bytes count None first run whole free = ((λ yes. name_from_run bytes count first run whole free), (λ name. refl))
name_by_words bytes count (Some word) first run whole is = ((λ no. absurd (false≢true no)), (λ name. absurd (name.not_reserved word is)))

-- what `is_none` answers
pub is_none_is : (found : Option Word) (r : Bool) → is_some found ≡ not r → is_none found ≡ r
is_none_is None true same = refl
is_none_is None false same = absurd (false≢true same)
is_none_is (Some _) true same = absurd (false≢true (sym same))
is_none_is (Some _) false same = refl
