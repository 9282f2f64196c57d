-- The word that is found has these bytes, and where none is found no word has.
use Rattle.std.proofs.Common.{rules, tests, ◌≡◌, option_map, Option, Some, None, refl, sym, ◌∙◌}
use Rattle.std.specs.Str.{bytes_eq}
use Rattle.std.proofs.lemmas.Iterator.{YieldsList-from_slice}
use Rattle.std.proofs.lemmas.Iterator.Consumers.{YieldsList-from_copied}
use Rattle.std.proofs.lemmas.Iterator.Search.{find_from_yields_List}
use Rattle.capl_lexer.specs.Spelling.{word_spelling}
use Rattle.capl_lexer.specs.declared.token.Word.{Word}
use Rattle.capl_lexer.specs.Inside.Words.{words_beginning_as}
use Rattle.capl_lexer.proofs.WordLemmas.{word_of, word_of-sound}
use Rattle.capl_lexer.proofs.words.reserved_word.Goals as goal

option_map-id : (found : Option Word) → option_map (λ (word : Word). word) found ≡ found
option_map-id (Some found) = refl
option_map-id None = refl

pub returns : goal.returns
returns c =
    let found : option_map (λ (word : Word). word) c.find.result ≡ word_of c.args.bytes.now =
    find_from_yields_List (λ word. bytes_eq (word_spelling word) c.args.bytes.now) _ _ c.find.result c.find.ensures.ran
    (YieldsList-from_copied (YieldsList-from_slice (words_beginning_as c.args.bytes.now) cc)) (λ x b q k. search (rules, tests)) in
    rw (sym (option_map-id c.find.result) ∙ found) (word_of-sound c.args.bytes.now)
