-- Runs of bytes of one class, against other splits of the text.
use Rattle.std.proofs.Common.{◌≡◌, ◌<◌, ◌≤◌, ℕ, List, [], ◌∷◌, ◌++◌, length, get_or, take, drop, All, inl, inr, refl, sym, ap, subst, ◌∙◌, arith, length-append, drop-cons}
use Rattle.std.proofs.lemmas.Bool.{cases_lt}
use Rattle.std.proofs.Math.Seq.{take-length}
use Rattle.std.proofs.lemmas.Grind.{common_steps}
use Rattle.std.proofs.lemmas.List.{append-nil}
use Rattle.std.proofs.lemmas.List.{get_or_append_left, get_or_at, get_or-take}
use Rattle.capl_lexer.specs.Inside.ByteClass.{IsInClass, IsFirstInClass, IsRun}
use Rattle.capl_lexer.specs.declared.byte_class.ByteClass.{ByteClass}

-- the byte at a place is the first of what follows the place
first_at : (class : ByteClass) (text : List ℕ) (place : ℕ) → place < length text
    → IsInClass class (get_or text place 0) → IsFirstInClass class (drop place text)
first_at class text place within is_in = rw (drop-cons text place 0) is_in

-- bytes of the class at the front are no more than the run
pub run-le : (class : ByteClass) (text : List ℕ) (count : ℕ) (front after : List ℕ)
    → IsRun class text count → text ≡ front ++ after → All (IsInClass class) front
    → length front ≤ count
run-le class text count front after run split all =
    elim (cases_lt count (length front)) [
      | inl short ↦
          let at : get_or text count 0 ≡ get_or front count 0 = ap (λ bytes. get_or bytes count 0) split ∙ get_or_append_left front after 0 count short in
          let within : count < length text = omega (arith, ap length split, length-append front after) in
          absurd (run.ends (first_at class text count within (rw at (all count 0 short))))
      | inr long ↦ long
    ]

-- bytes of the class before a byte that is not of it are the run
pub run-exact : (class : ByteClass) (text : List ℕ) (count : ℕ) (front : List ℕ) (byte : ℕ) (after : List ℕ) → IsRun class text count → text ≡ front ++ byte ∷ after → All (IsInClass class) front → (IsInClass class byte → ⊥) → length front ≡ count
run-exact class text count front byte after run split all outside =
    let le : length front ≤ count = run-le class text count front (byte ∷ after) run split all in
    elim (cases_lt (length front) count) [
      | inl short ↦
          let at : get_or text (length front) 0 ≡ byte = ap (λ bytes. get_or bytes (length front) 0) split ∙ get_or_at front byte after 0 (length front) refl in
          let taken : get_or (take count text) (length front) 0 ≡ byte = get_or-take count text (length front) 0 short ∙ at in
          let inside : length front < length (take count text) = let within = run.within in grind (arith, common_steps) in
          absurd (outside (let P : ℕ → Type 0 = IsInClass class in subst P taken (run.inside (length front) 0 inside)))
      | inr long ↦ omega arith
    ]

-- a run that ends with the text is the whole text
pub run-whole : (class : ByteClass) (text : List ℕ) (count : ℕ) → IsRun class text count → length text ≤ count → All (IsInClass class) text
run-whole class text count run whole =
    let all : count ≡ length text = omega (arith, run.within) in
    subst (All (IsInClass class)) (take-length text) (subst (λ n. All (IsInClass class) (take n text)) all run.inside)

-- a text of one class is one run
pub whole-run : (class : ByteClass) (text : List ℕ) (count : ℕ) → IsRun class text count → All (IsInClass class) text → length text ≤ count
whole-run class text count run all = run-le class text count text [] run (sym (append-nil text)) all
