-- The text of code, and the code of a text.
use Rattle.std.proofs.Common.{◌≡◌, ◌∙◌, ℕ, List, [], ◌∷◌, ◌++◌, All, Option, Some, None, ap, append_assoc, arith, drop, length, refl, subst, sym, take, true, false, Bool}
use Rattle.std.specs.Prelude.{⊤, ◌==◌, codes, if◌then◌else◌, nat_eq}
use Rattle.std.specs.Cmp.Lexicographic.{same_text}
use Rattle.std.specs.List.{starts_with}
use Rattle.std.proofs.lemmas.Option.{none-some}
use Rattle.std.proofs.lemmas.Bool.{eqb-true}
use Rattle.std.proofs.lemmas.List.{append-nil, take-append-drop}
use Rattle.std.proofs.lemmas.List.Elements.{All-cons, All-head, All-nil, All-tail}
use Rattle.std.specs.Int.{w128}
use Rattle.std.specs.Int.RustNames.{FitsSigned}
use Rattle.write_format.specs.Line.{IsShort}
use Rattle.bytecode.specs.declared.code.Code.{Code}
use Rattle.bytecode.specs.Failure.{FailsFirstAt, layout, rule, tables}
use Rattle.bytecode.specs.Verified.{IsVerified}
use Rattle.object_file.specs.Number.{dword, list, qword}
use Rattle.object_file.specs.Table.{format_text, function_text, handler_text, kind_text, start_text}
use Rattle.object_file.specs.Instruction.{instruction_text}
use Rattle.object_file.specs.Object.{HasNoCode, IsKept, IsStorable, IsTextOf, code_text}
use Rattle.object_file.specs.Inside.Lists.{Lists, ListsHold, behind_letters, lists_at, lists_of, lists_text, with_lists}
use Rattle.object_file.specs.Inside.Reading.{dword_at}
use Rattle.object_file.proofs.Pairs.{IsComplete}
use Rattle.object_file.proofs.TableLemmas.{all_true}

-- what is there, or something else
abbrev some_or : {A : Type 0} → A → Option A → A
some_or other None = other
some_or other (Some x) = x

-- what follows from what is true of each is true of each
pub all_each : {A : Type 0} (P Q : A → Type 0) → ((x : A) → P x → Q x) → (xs : List A) → All P xs → All Q xs
all_each P Q follows [] all = All-nil Q
all_each P Q follows (x ∷ xs) all = All-cons Q x xs (follows x (All-head P x xs all)) (all_each P Q follows xs (All-tail P x xs all))

-- one list behind another
pub rolled : (m a b c d e f g h : List ℕ) → m ++ a ++ b ++ c ++ d ++ e ++ f ++ g ++ h ≡ m ++ (a ++ (b ++ (c ++ (d ++ (e ++ (f ++ (g ++ h)))))))
rolled m a b c d e f g h =
    append_assoc (m ++ a ++ b ++ c ++ d ++ e ++ f) g h
    ∙ append_assoc (m ++ a ++ b ++ c ++ d ++ e) f (g ++ h)
    ∙ append_assoc (m ++ a ++ b ++ c ++ d) e (f ++ (g ++ h))
    ∙ append_assoc (m ++ a ++ b ++ c) d (e ++ (f ++ (g ++ h)))
    ∙ append_assoc (m ++ a ++ b) c (d ++ (e ++ (f ++ (g ++ h))))
    ∙ append_assoc (m ++ a) b (c ++ (d ++ (e ++ (f ++ (g ++ h)))))
    ∙ append_assoc m a (b ++ (c ++ (d ++ (e ++ (f ++ (g ++ h))))))

-- and a number behind them
unroll : (m a b c d e f g h z : List ℕ) → m ++ ((a ++ (b ++ (c ++ (d ++ (e ++ (f ++ (g ++ h))))))) ++ z) ≡ m ++ a ++ b ++ c ++ d ++ e ++ f ++ g ++ h ++ z
unroll m a b c d e f g h z =
    sym (append_assoc m (a ++ (b ++ (c ++ (d ++ (e ++ (f ++ (g ++ h))))))) z) ∙ ap (λ l. l ++ z) (sym (rolled m a b c d e f g h))

-- a list without items
pub nil_of : (l : List ℕ) → (length l == 0) ≡ true → l ≡ []
nil_of [] is = refl
nil_of (x ∷ l) is = absurd (let same = eqb-true (length (x ∷ l)) 0 is in omega (arith, same))

-- the text of code is that of its lists
pub text_of_lists : (code : Code) → codes "CAPLOBJ1" ++ (lists_text (lists_of code) ++ dword 0) ≡ code_text code
text_of_lists code =
    unroll (codes "CAPLOBJ1") (list kind_text code.cells) (list start_text code.starts) (list qword code.timers) (list format_text code.formats)
    (list function_text code.functions) (list handler_text code.handlers) (list instruction_text code.instrs) (list dword code.depths) (dword 0)

-- lists that are stored make code that can be
pub lists_storable : (lists : Lists) → ListsHold lists → IsStorable (with_lists lists)
lists_storable lists hold =
    let starts = hold.1.0 in
    let formats = hold.1.1.1.0 in
    let handlers = hold.1.1.1.1.1.0 in
    let instrs = hold.1.1.1.1.1.1.0 in
    record {
      short = record {
        instrs = instrs.0;
        depths = hold.1.1.1.1.1.1.1.0;
        functions = hold.1.1.1.1.0.0;
        handlers = handlers.0;
        selectors = handlers.1;
        cells = hold.0.0;
        starts = starts.0;
        timers = hold.1.1.0.0;
        formats = formats.0;
        texts = all_each IsKept IsShort (λ format kept. kept.short) (lists.1.1.1.0) formats.1;
      };
      starts = all_each (λ start. ⊤ × FitsSigned w128 start.1) (λ start. FitsSigned w128 start.1) (λ start fits. fits.1) (lists.1.0) starts.1;
      formats = formats.1;
      instrs = instrs.1;
    }

-- and the other way round
pub storable_lists : (code : Code) → IsStorable code → ListsHold (lists_of code)
storable_lists code is =
    let short = is.short in (
      (short.cells, all_true code.cells),
      (
        (short.starts, all_each (λ start. FitsSigned w128 start.1) (λ start. ⊤ × FitsSigned w128 start.1) (λ start fits. (tt, fits)) code.starts is.starts),
        (
          (short.timers, all_true code.timers),
          (
            (short.formats, is.formats),
            (
              (short.functions, all_true code.functions),
              (
                (short.handlers, short.selectors),
                (
                  (short.instrs, is.instrs),
                  (short.depths, all_true code.depths),
                ),
              ),
            ),
          ),
        ),
      ),
    )

-- what bytes begin with
begins_with : (needle bytes : List ℕ) → starts_with nat_eq bytes needle ≡ true → bytes ≡ needle ++ drop (length needle) bytes
begins_with needle bytes is =
    sym (take-append-drop (length needle) bytes)
    ∙ ap (λ l. l ++ drop (length needle) bytes) (sym (same_text needle (take (length needle) bytes) (sym is)))

-- what stands behind the letters, by whether bytes begin with them
by_letters : (bytes front : List ℕ) (b : Bool) → starts_with nat_eq bytes (codes "CAPLOBJ1") ≡ b → behind_letters bytes ≡ Some front
    → bytes ≡ codes "CAPLOBJ1" ++ front
by_letters bytes front true is found =
    let same = sym (ap (λ b. if b then Some (drop 8 bytes) else None) is) ∙ found in
    begins_with (codes "CAPLOBJ1") bytes is ∙ ap (λ l. codes "CAPLOBJ1" ++ l) (ap (some_or front) same)
by_letters bytes front false is found =
    let none = sym (ap (λ b. if b then Some (drop 8 bytes) else None) is) ∙ found in absurd (cc)

-- the letters, and what stands behind them
pub letters_before : (bytes front : List ℕ) → behind_letters bytes ≡ Some front → bytes ≡ codes "CAPLOBJ1" ++ front
letters_before bytes front found = by_letters bytes front (starts_with nat_eq bytes (codes "CAPLOBJ1")) refl found

-- without the letters bytes are the text of no code
pub no_letters : (bytes : List ℕ) → behind_letters bytes ≡ None → HasNoCode bytes
no_letters bytes none code is =
    let some : behind_letters bytes ≡ Some (lists_text (lists_of code) ++ dword 0) = ap behind_letters (is.spelled ∙ sym (text_of_lists code)) in
    let apart : None ≡ Some (lists_text (lists_of code) ++ dword 0) = sym none ∙ some in
    none-some (lists_text (lists_of code) ++ dword 0) apart

-- the code of a text
module _ (lists : IsComplete lists_text ListsHold lists_at) (number : IsComplete dword (λ n. ⊤) dword_at) (bytes front : List ℕ)
    (letters : bytes ≡ codes "CAPLOBJ1" ++ front) where
  -- its lists are found behind the letters
  behind : (code : Code) → IsTextOf code bytes → lists_at front ≡ Some (lists_of code, dword 0)
  behind code is =
      ap (λ l. lists_at (drop 8 l)) (sym letters ∙ is.spelled ∙ sym (text_of_lists code))
      ∙ lists (lists_of code) (dword 0) (storable_lists code is.storable)

  -- where they are not found, no code has this text
  pub no_lists : lists_at front ≡ None → HasNoCode bytes
  no_lists none code is = none-some (lists_of code, dword 0) (sym none ∙ behind code is)

  -- the lists that are found are those of the code, and a number of 0 ends the text
  ends : (found : Lists) (rest : List ℕ) → front ≡ lists_text found ++ rest → ListsHold found → (code : Code) → IsTextOf code bytes → rest ≡ dword 0
  ends found rest is hold code text =
      let one : Some (found, rest) ≡ Some (lists_of code, dword 0) = sym (lists found rest hold) ∙ sym (ap lists_at is) ∙ behind code text in
      ap (λ o. (some_or {A = Lists × List ℕ} (found, rest) o).1) one

  -- where no number stands behind them, no code has this text
  pub no_number : (found : Lists) (rest : List ℕ) → front ≡ lists_text found ++ rest → ListsHold found → dword_at rest ≡ None → HasNoCode bytes
  no_number found rest is hold none code text =
      let end = ends found rest is hold code text in
      none-some (0, []) (sym none ∙ ap dword_at (end ∙ sym (append-nil (dword 0))) ∙ number 0 [] tt)

  -- nor where another number or more bytes stand there
  pub no_end : (found : Lists) (rest : List ℕ) → front ≡ lists_text found ++ rest → ListsHold found → (last : ℕ) (more : List ℕ)
      → rest ≡ dword last ++ more → (last ≡ 0 → more ≡ [] → ⊥) → HasNoCode bytes
  no_end found rest is hold last more spelled other code text =
      let end = ends found rest is hold code text in
      let one : Some (last, more) ≡ Some (0, []) = sym (number last more tt) ∙ sym (ap dword_at spelled) ∙ ap dword_at (end ∙ sym (append-nil (dword 0))) ∙ number 0 [] tt in
      other (ap (λ o. (some_or {A = ℕ × List ℕ} (last, more) o).0) one) (ap (λ o. (some_or {A = ℕ × List ℕ} (last, more) o).1) one)

-- a text is of one code
pub one_code : IsComplete lists_text ListsHold lists_at → IsComplete dword (λ n. ⊤) dword_at → (bytes : List ℕ) (code other : Code)
    → IsTextOf code bytes → IsTextOf other bytes → other ≡ code
one_code lists number bytes code other is also =
    let front = lists_text (lists_of code) ++ dword 0 in
    let letters = is.spelled ∙ sym (text_of_lists code) in
    let same : Some (lists_of code, dword 0) ≡ Some (lists_of other, dword 0) =
    sym (behind lists number bytes front letters code is) ∙ behind lists number bytes front letters other also in
    sym (ap (λ o. with_lists (some_or {A = Lists × List ℕ} (lists_of code, dword 0) o).0) same)

-- no rule fails of verified code
no_failure : (code : Code) (place : ℕ) → IsVerified code → FailsFirstAt code place → ⊥
no_failure code place is (layout wrong at) = wrong is.laid_out
no_failure code place is (rule laid within wrong earlier) = wrong (is.places place within)
no_failure code place is (tables laid places wrong at) = wrong is.tables

-- nor of code with the text of verified code
pub no_rule_fails : IsComplete lists_text ListsHold lists_at → IsComplete dword (λ n. ⊤) dword_at → (bytes : List ℕ) (code other : Code) (place : ℕ)
    → IsVerified code → IsTextOf code bytes → IsTextOf other bytes → FailsFirstAt other place → ⊥
no_rule_fails lists number bytes code other place verified is also fails =
    no_failure code place verified (subst (λ c. FailsFirstAt c place) (one_code lists number bytes code other is also) fails)

-- the lists behind the letters and a number of 0 make the code of a text
pub is_text : (bytes front rest more : List ℕ) (found : Lists) (last : ℕ) → bytes ≡ codes "CAPLOBJ1" ++ front → front ≡ lists_text found ++ rest
    → ListsHold found → rest ≡ dword last ++ more → last ≡ 0 → more ≡ [] → IsTextOf (with_lists found) bytes
is_text bytes front rest more found last letters is hold spelled zero none =
    let end : rest ≡ dword 0 = spelled ∙ ap (λ n. dword n ++ more) zero ∙ ap (λ l. dword 0 ++ l) none ∙ append-nil (dword 0) in
    record {
      storable = lists_storable found hold;
      spelled = letters ∙ ap (λ l. codes "CAPLOBJ1" ++ l) (is ∙ ap (λ l. lists_text found ++ l) end) ∙ text_of_lists (with_lists found);
    }
