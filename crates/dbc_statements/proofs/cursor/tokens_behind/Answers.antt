-- Behind a part and its blanks stand the same tokens.
use Rattle.std.proofs.Common.{◌≡◌, ◌+◌, ◌-◌, ◌≤◌, ◌^◌, ℕ, List, take, drop, length, length-drop, sym, subst, ap, ◌∙◌, false, not, ◌||◌, arith, is_none, IsTrue}
use Rattle.std.specs.List.{prefix_len}
use Rattle.std.proofs.lemmas.List.{take_rest, length-take-le}
use Rattle.dbc_statements.specs.Token as spec
use Rattle.dbc_statements.specs.Inside.Lexer.{begins_with_blank}
use Rattle.dbc_statements.proofs.LexerLemmas.{behind_part, behind_rest, at_token, stays_open}
use Rattle.dbc_statements.proofs.cursor.tokens_behind.Goals as goal

pub invariant_of-result : goal.invariant_of-result
invariant_of-result c =
    let text = c.args.text.now in
    let n = c.args.count + c.blanks.result in
    let blanks : c.blanks.result ≡ prefix_len spec.is_blank (drop c.args.count text) = c.blanks.ensures.count ∙ ap (prefix_len spec.is_blank) (take_rest text c.args.count) in
    let rest : take (length text - n) (drop n text) ≡ drop n text = take_rest text n in
    let whole : length (drop n text) ≡ length text - n = length-drop n text in
    let behind : length (take (length text - c.args.count) (drop c.args.count text)) ≡ length text - c.args.count = ap length (take_rest text c.args.count) ∙ length-drop c.args.count text in
    let part : c.args.count + c.blanks.result ≤ length text = omega (arith, c.blanks.ensures.within, behind, c.requires.within) in
    let passed : length (take n text) ≡ n = length-take-le n text part in
    let fits : c.line_behind.result + length (take (length text - n) (drop n text)) ≤ 2 ^ 32 =
    subst (λ (xs : List ℕ). c.line_behind.result + length xs ≤ 2 ^ 32) (sym rest) (omega (arith, c.requires.fits, c.line_behind.ensures.within, whole, passed, part)) in (
      fits,
      (
        subst (λ (xs : List ℕ). begins_with_blank xs ≡ false) (sym rest) (subst (λ m. begins_with_blank (drop (c.args.count + m) text) ≡ false) (sym blanks) (at_token c.args.count text)),
        (subst (λ (xs : List ℕ). IsTrue (not c.args.no_string || is_none (spec.closing 92 xs))) (sym rest) (stays_open c.args.no_string n text c.requires.open), tt),
      ),
    )

pub returns : goal.returns
returns c =
    let text = c.args.text.now in
    let n = c.args.count + c.blanks.result in
    let blanks : c.blanks.result ≡ prefix_len spec.is_blank (drop c.args.count text) = c.blanks.ensures.count ∙ ap (prefix_len spec.is_blank) (take_rest text c.args.count) in
    ap (λ (xs : List ℕ). spec.tokens_behind 0 c.line_behind.result xs) (take_rest text n)
    ∙ ap (λ line. spec.tokens_behind 0 line (drop n text)) c.line_behind.ensures.line
    ∙ sym (behind_rest n c.args.line text)
    ∙ ap (λ m. spec.tokens_behind (c.args.count + m) c.args.line text) blanks
    ∙ sym (behind_part c.args.count c.args.line text)
