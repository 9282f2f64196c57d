-- Bytes are a name where they are one run of name bytes and no reserved word.
use Rattle.std.proofs.Common.{rules, arith, subst, false}
use Rattle.std.proofs.lemmas.Bool.{false≢true}
use Rattle.std.specs.Prelude.{IsTrue}
use Rattle.capl_lexer.specs.Inside.ByteClass.{IsFirstInClass}
use Rattle.capl_lexer.specs.Spelling.{IsName}
use Rattle.capl_lexer.specs.declared.byte_class.ByteClass.TheVariants as class
use Rattle.capl_lexer.proofs.NameTests.{told_by_test}
use Rattle.capl_lexer.proofs.NameLemmas.{name_is_run, name_by_words, is_none_is}
use Rattle.capl_lexer.proofs.names.is_name.Goals as goal

pub returns-clause-name : goal.returns-clause-name
returns-clause-name c =
    let first : IsFirstInClass class.NameStart c.args.bytes.now = search (rules, c.begins.ensures, c.if-not-begins.false) in
    subst (λ r. (IsTrue r → IsName c.args.bytes.now) × (IsName c.args.bytes.now → IsTrue r)) (is_none_is c.reserved_word.result c.is_none.result c.is_none.ensures)
    (name_by_words c.args.bytes.now c.run.result c.reserved_word.result first c.run.ensures c.if-run-bytes.false c.reserved_word.ensures)

-- a name would be one run
pub returns-then-run-bytes-clause-name : goal.returns-then-run-bytes-clause-name
returns-then-run-bytes-clause-name c =
    ((λ no. absurd (false≢true no)), (λ name. absurd (omega (arith, name_is_run c.args.bytes.now c.run.result c.run.ensures name, c.if-run-bytes.true))))

pub returns-then-run-bytes-clause-value : goal.returns-then-run-bytes-clause-value
returns-then-run-bytes-clause-value c = told_by_test c.args.bytes.now false (returns-then-run-bytes-clause-name c)

pub returns-clause-value : goal.returns-clause-value
returns-clause-value c = told_by_test c.args.bytes.now c.is_none.result (returns-clause-name c)
