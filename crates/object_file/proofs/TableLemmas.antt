-- What stands in tables is read.
use Rattle.std.proofs.Common.{◌≡◌, ◌∙◌, ◌<◌, ◌^◌, ℕ, List, [], ◌∷◌, ◌++◌, All, Some, None, ap, append_assoc, arith, drop, length, refl, take}
use Rattle.std.specs.Prelude.{⊤, if◌then◌else◌}
use Rattle.std.specs.Option.{option_and_then}
use Rattle.std.proofs.Math.Seq.{drop-append_seam, take-append_seam}
use Rattle.std.proofs.lemmas.Bool.{le-leb}
use Rattle.std.proofs.lemmas.List.{length-append}
use Rattle.std.proofs.lemmas.List.Elements.{All-cons, All-nil}
use Rattle.run_effects.specs.declared.event.Event.TheVariants as event
use Rattle.run_effects.specs.declared.event.Selector.{Selector}
use Rattle.write_format.specs.declared.argument.ArgKind.TheVariants as argument
use Rattle.write_format.specs.Line.{IsShortArgument}
use Rattle.object_file.specs.Number.{dword, list, text}
use Rattle.object_file.specs.Table.{argument_text, event_text, key_text, kind_text, selector_text}
use Rattle.object_file.specs.Inside.Reading.{bytes_of, dword_at, list_at, pair_at, text_at}
use Rattle.object_file.specs.Inside.Tables.{IsShortEvent, argument_at, event_at, key_at, kind_at, selector_at}
use Rattle.object_file.proofs.Pairs.{IsComplete, made_complete}

-- what asks nothing is true of each
pub all_true : {A : Type 0} (xs : List A) → All (λ (x : A). ⊤) xs
all_true [] = All-nil (λ x. ⊤)
all_true (x ∷ xs) = All-cons (λ x. ⊤) x xs tt (all_true xs)

-- so many bytes as there are
bytes_there : (own rest : List ℕ) → bytes_of (length own) (own ++ rest) ≡ Some (own, rest)
bytes_there own rest =
    let whole = length-append own rest in
    ap (λ b. if b then Some (take (length own) (own ++ rest), drop (length own) (own ++ rest)) else None)
    (le-leb (length own) (length (own ++ rest)) (omega (arith, whole)))
    ∙ ap (λ front. Some (front, drop (length own) (own ++ rest))) (take-append_seam own rest)
    ∙ ap (λ behind. Some (own, behind)) (drop-append_seam own rest)

-- a text
pub text_complete : IsComplete dword (λ n. ⊤) dword_at → IsComplete text (λ own. length own < 2 ^ 32) text_at
text_complete number own rest short =
    ap text_at (append_assoc (dword (length own)) own rest)
    ∙ ap (option_and_then (λ count. bytes_of count.0 count.1)) (number (length own) (own ++ rest) tt)
    ∙ bytes_there own rest

-- an event
pub event_complete : IsComplete (list selector_text) (λ all. (length all < 2 ^ 32) × All (λ (s : Selector). ⊤) all) (list_at selector_at)
    → IsComplete dword (λ n. ⊤) dword_at → IsComplete key_text (λ k. ⊤) key_at → IsComplete event_text IsShortEvent event_at
event_complete selectors timer key event.PreStart rest sound = refl
event_complete selectors timer key event.Start rest sound = refl
event_complete selectors timer key event.Stop rest sound = refl
event_complete selectors timer key (event.Message all) rest sound =
    made_complete event.Message (list selector_text) (λ all. (length all < 2 ^ 32) × All (λ (s : Selector). ⊤) all) (list_at selector_at)
    selectors all rest (sound, all_true all)
event_complete selectors timer key (event.Timer t) rest sound = made_complete event.Timer dword (λ n. ⊤) dword_at timer t rest tt
event_complete selectors timer key (event.Key k) rest sound = made_complete event.Key key_text (λ k. ⊤) key_at key k rest tt

-- an argument
pub argument_complete : IsComplete kind_text (λ k. ⊤) kind_at
    → IsComplete (λ (p : ℕ × ℕ). dword p.0 ++ dword p.1) (λ p. ⊤ × ⊤) (pair_at dword_at dword_at)
    → IsComplete text (λ own. length own < 2 ^ 32) text_at → IsComplete argument_text IsShortArgument argument_at
argument_complete kind array own (argument.Number k) rest sound = made_complete argument.Number kind_text (λ k. ⊤) kind_at kind k rest tt
argument_complete kind array own (argument.Chars base len) rest sound =
    made_complete (λ p. argument.Chars p.0 p.1) (λ (p : ℕ × ℕ). dword p.0 ++ dword p.1) (λ p. ⊤ × ⊤) (pair_at dword_at dword_at) array (base, len) rest (tt, tt)
argument_complete kind array own (argument.Str bytes) rest sound =
    made_complete argument.Str text (λ own. length own < 2 ^ 32) text_at own bytes rest sound
