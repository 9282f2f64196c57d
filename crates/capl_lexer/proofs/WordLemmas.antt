-- The reserved words, found by their bytes.
use Rattle.std.proofs.Common.{◌≡◌, ℕ, List, Option, Some, refl}
use Rattle.items.specs.Search.{Finds}
use Rattle.capl_lexer.specs.Spelling.{word_spelling}
use Rattle.capl_lexer.specs.declared.token.Word.{Word}
use Rattle.capl_lexer.specs.declared.token.Word.TheVariants as word
use Rattle.capl_lexer.specs.Inside.Words.{words_beginning_as}
use Rattle.capl_lexer.proofs.FindLemmas.{spelled_in, spelled_in-sound, spelling-injective}

-- the reserved word of these bytes, which is looked for among those that begin so
abbrev pub word_of : List ℕ → Option Word
word_of bytes = spelled_in word_spelling (words_beginning_as bytes) bytes

-- each word is found by its spelling
pub word_of-spelling : (word : Word) → word_of (word_spelling word) ≡ Some word
word_of-spelling word.Includes = refl
word_of-spelling _ = refl

-- what is found is spelled so, and where nothing is found no word is
pub word_of-sound : (bytes : List ℕ)
    → Finds (λ (word : Word). bytes ≡ word_spelling word) (word_of bytes)
word_of-sound bytes = spelled_in-sound word_spelling words_beginning_as word_of-spelling bytes

-- two words with one spelling are one word
pub word_spelling-injective : (word other : Word) → word_spelling word ≡ word_spelling other
    → word ≡ other
word_spelling-injective word other same = spelling-injective word_spelling words_beginning_as word_of-spelling word other same
