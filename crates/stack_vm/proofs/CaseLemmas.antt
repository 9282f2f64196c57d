-- Cases in a code: the list that has them, and that the machine passes over those with other labels.
use Rattle.std.proofs.Common.{◌≡◌, ◌≢◌, ◌≤◌, ◌<◌, ◌+◌, ◌-◌, ℕ, zero, suc, Bool, true, false, cond, List, [], ◌∷◌, ◌++◌, length, get_or, slice_get, Some, ℤ, pos, All, Contains, Decides, drop, IsPermutation, inl, inr, refl, sym, ap, ◌∙◌, subst, arith}
use Rattle.std.proofs.lemmas.Bool.{cases_lt}
use Rattle.std.proofs.lemmas.Bool.Decides.{Decides-int_eq}
use Rattle.std.proofs.lemmas.List.{get_or_append_left, get_or_push, length_push}
use Rattle.std.proofs.lemmas.List.Elements.{All-contains, All-nil, All-push, All-weaker, Contains-append_left, Contains-push}
use Rattle.std.proofs.lemmas.List.Sorted.{All-permutation, Contains-permutation, length_permutation}
use Rattle.std.proofs.lemmas.Option.{get_or_from_slice_get, slice_get-get_or, slice_get_within}
use Rattle.std.specs.Ordering.{int_eq}
use Rattle.int_kinds.specs.Kind.{IsNumber}
use Rattle.bytecode.specs.declared.code.Code.{Code}
use Rattle.bytecode.specs.declared.instr.Instr.{Instr}
use Rattle.bytecode.specs.declared.instr.Instr.TheVariants.{Case}
use Rattle.bytecode.specs.Machine.{Machine, Next, Goes}
use Rattle.bytecode.specs.Rule.{NamesWhatExists}
use Rattle.bytecode.specs.Shape.{shape_of}
use Rattle.bytecode.specs.Step.{continuing, go, goes_on, goes_to, row, step, taking_one}
use Rattle.bytecode.specs.Verified.{IsVerified}
use Rattle.bytecode.proofs.CoverLemmas.{Cover-has}
use Rattle.bytecode.proofs.PlaceRules.{rule_at}
use Rattle.bytecode.proofs.RunLemmas.{step_is_row}
use Rattle.stack_vm.specs.Cases.{AreCasesFrom, HasOtherLabel, HaveOtherLabels, IsFirstWith, IsIndexOf, IsListed, IsRunFrom}
use Rattle.stack_vm.specs.Inside.State.{RunState}
use Rattle.stack_vm.specs.Inside.Step.{Passes, top_of}
use Rattle.stack_vm.proofs.ListLemmas.{item_read}

-- ---- the list of the Cases from a place on

-- a Case of so many places from one on
abbrev IsWithin : ℕ → ℕ → ℤ × ℕ → Type 0
IsWithin start count case = (start ≤ case.1) × (case.1 < start + count)

-- more Cases have those of fewer
more_within : (start count more : ℕ) → count ≤ more → (cases : List (ℤ × ℕ)) → All (IsWithin start count) cases → All (IsWithin start more) cases
more_within start count more h cases all = All-weaker (IsWithin start count) (IsWithin start more) (λ case within. (within.0, omega (arith, within.1, h))) cases all

-- no Cases
pub no_cases : (code : Code) (start : ℕ) → AreCasesFrom code start []
no_cases code start = record { within = All-nil _; whole = λ place from below. absurd (omega (arith, from, below)) }

-- one Case more, behind them
pub one_more : (code : Code) (start : ℕ) (cases : List (ℤ × ℕ)) (label : ℤ) (target place : ℕ) → place ≡ start + length cases →
    slice_get code.instrs place ≡ Some (Case target label) → AreCasesFrom code start cases → AreCasesFrom code start (cases ++ (label, place) ∷ [])
one_more code start cases label target place e is are =
    let long = length_push cases (label, place) in
    record {
      within = All-push (IsWithin start (length (cases ++ (label, place) ∷ []))) cases (label, place)
          (more_within start (length cases) (length (cases ++ (label, place) ∷ [])) (omega (arith, long)) cases are.within)
          (let w : IsWithin start (length (cases ++ (label, place) ∷ [])) (label, place) = (omega (arith, e), omega (arith, e, long)) in w);
      whole = λ other from below. elim (cases_lt other place) [
        | inl before ↦ (let l = are.whole other from (omega (arith, before, e)) in record {
          label = l.label;
          target = l.target;
          is_case = l.is_case;
          is_listed = Contains-append_left cases ((label, place) ∷ []) (l.label, other) l.is_listed;
        })
        | inr after ↦ (let same : place ≡ other = omega (arith, after, below, e, long) in
            subst (IsListed code (cases ++ (label, place) ∷ [])) same
            (record { label = label; target = target; is_case = is; is_listed = Contains-push cases (label, place) }))
      ];
    }

-- the same Cases in another order
pub in_another_order : (code : Code) (start : ℕ) (xs ys : List (ℤ × ℕ)) → IsPermutation xs ys → AreCasesFrom code start xs → AreCasesFrom code start ys
in_another_order code start xs ys same are =
    let long : length ys ≡ length xs = length_permutation xs ys same in
    record {
      within = All-permutation (IsWithin start (length ys)) xs ys same (more_within start (length xs) (length ys) (omega (arith, long)) xs are.within);
      whole = λ place from below. (let l = are.whole place from (omega (arith, below, long)) in record {
        label = l.label;
        target = l.target;
        is_case = l.is_case;
        is_listed = Contains-permutation xs ys (l.label, place) same l.is_listed;
      });
    }

-- the Cases that an index has for a place, as they are read
pub run_at : (code : Code) (index : List (List (ℤ × ℕ))) → IsIndexOf code index → (place : ℕ) (cases read : List (ℤ × ℕ)) → place < length index →
    cases ≡ get_or index place cases → read ≡ cases → IsRunFrom code place read
run_at code index is place cases read below e same =
    subst (IsRunFrom code place) (sym same) (is place cases (item_read index refl refl below cases ∙ ap (λ (cs : List (ℤ × ℕ)). Some cs) (sym e)))

-- an index with the Cases of one place more
pub index_more : (code : Code) (index : List (List (ℤ × ℕ))) (cases : List (ℤ × ℕ)) → IsIndexOf code index → IsRunFrom code (length index) cases →
    IsIndexOf code (index ++ cases ∷ [])
index_more code index cases is run place found e =
    let long = length_push index cases in
    let within = slice_get_within (index ++ cases ∷ []) place found e in
    let read : get_or (index ++ cases ∷ []) place [] ≡ found = get_or_from_slice_get (index ++ cases ∷ []) place found [] e in
    elim (cases_lt place (length index)) [
      | inl below ↦ is place found (slice_get-get_or index place [] below
          ∙ ap (λ (cs : List (ℤ × ℕ)). Some cs) (sym (get_or_append_left index (cases ∷ []) [] place below) ∙ read))
      | inr above ↦ (
          let at : length index ≡ place = omega (arith, above, within, long) in
          let same : cases ≡ found = sym (get_or_push index cases [] place at) ∙ read in
          subst (λ (n : ℕ). IsRunFrom code n found) at (subst (IsRunFrom code (length index)) same run))
    ]

-- the label of a Case of verified code is a number
pub label_is_number : (code : Code) → IsVerified code → (place target : ℕ) (label : ℤ) → place < length code.instrs →
    slice_get code.instrs place ≡ Some (Case target label) → IsNumber label
label_is_number code verified place target label below is =
    let has = Cover-has 0 code.functions (length code.instrs) verified.laid_out.covered place (omega arith) below in
    let rule = rule_at code verified has.number has.function place has.is_there has.inside in
    let same : rule.instr ≡ Case target label = (let e : Some rule.instr ≡ Some (Case target label) = sym rule.is_instr ∙ is in cc) in
    names_number rule.instr same rule.keeps.names_exist
  where
    names_number : (instr : Instr) → instr ≡ Case target label → NamesWhatExists code (shape_of code instr).named → IsNumber label
    names_number instr e named = subst (λ (i : Instr). NamesWhatExists code (shape_of code i).named) e named

-- ---- Cases with other labels

-- up to the first Case with a label, those of a run have other labels
pub others_before : (code : Code) (start : ℕ) (cases : List (ℤ × ℕ)) → AreCasesFrom code start cases → (n : ℤ) (first : ℕ) → IsFirstWith n cases first →
    HaveOtherLabels code n start first
others_before code start cases are n first is place from before =
    let within = All-contains (IsWithin start (length cases)) cases (n, first) are.within is.is_there in
    let l = are.whole place from (omega (arith, before, within.1)) in
    record {
      label = l.label;
      target = l.target;
      is_case = l.is_case;
      other = λ same. (let h = is.first place (subst (λ (z : ℤ). Contains cases (z, place)) same l.is_listed) in omega (arith, h, before));
    }

-- where none has the label, all have other ones
pub others_all : (code : Code) (start : ℕ) (cases : List (ℤ × ℕ)) → AreCasesFrom code start cases → (n : ℤ) →
    ((place : ℕ) → Contains cases (n, place) → ⊥) → HaveOtherLabels code n start (start + length cases)
others_all code start cases are n none place from before =
    let l = are.whole place from before in
    record {
      label = l.label;
      target = l.target;
      is_case = l.is_case;
      other = λ same. none place (subst (λ (z : ℤ). Contains cases (z, place)) same l.is_listed);
    }

-- ---- passing over them

other_row : (code : Code) (closed : Bool) (moment : ℕ) (m : Machine) (label : ℤ) (target : ℕ) (n : ℤ) (below : List ℤ) → m.stack ≡ n ∷ below → label ≢ n →
    row code closed moment m (Case target label) m.stack ≡ Goes (record m { place = m.place + 1 })
other_row code closed moment m label target n below e other =
    let doing : ℤ → List ℤ → Next = λ top rest. cond (int_eq top label) (goes_to target m rest) (goes_on m (top ∷ rest)) in
    let not_equal : int_eq n label ≡ false = differs (int_eq n label) (Decides-int_eq n label) in
    ap (λ (stack : List ℤ). taking_one stack doing) e ∙ ap (λ (b : Bool). cond b (goes_to target m below) (goes_on m (n ∷ below))) not_equal
    ∙ ap (λ (stack : List ℤ). goes_on m stack) (sym e)
  where
    differs : (b : Bool) → Decides b (n ≡ label) → b ≡ false
    differs true d = absurd (other (sym (d.0 refl)))
    differs false d = refl

-- so many steps pass over as many Cases with other labels than the top
pub pass_over : (code : Code) (closed : Bool) (moment : ℕ) (n : ℤ) (below : List ℤ) (count : ℕ) (m : Machine) → m.stack ≡ n ∷ below →
    HaveOtherLabels code n m.place (m.place + count) → go code closed moment count m ≡ Goes (record m { place = m.place + count })
pass_over code closed moment n below zero m e others = ap (λ (p : ℕ). Goes (record m { place = p })) (let same : m.place ≡ m.place + 0 = omega arith in same)
pass_over code closed moment n below (suc count) m e others =
    let here = others m.place (omega arith) (omega arith) in
    let next : Machine = record m { place = m.place + 1 } in
    let one : step code closed moment m ≡ Goes next = step_is_row code closed moment m (Case here.target here.label) here.is_case
    ∙ other_row code closed moment m here.label here.target n below e here.other in
    ap (λ (after : Next). continuing after (λ m'. go code closed moment count m')) one
    ∙ pass_over code closed moment n below count next e (λ place from before. others place (omega (arith, from)) (omega (arith, before)))
    ∙ ap (λ (p : ℕ). Goes (record m { place = p })) (let same : m.place + 1 + count ≡ m.place + suc count = omega arith in same)

-- the machine passes over Cases with other labels than its top, where it has one
pub passes_to : (code : Code) (closed : Bool) (moment : ℕ) (m : Machine) (end : ℕ) → 1 ≤ length m.stack → m.place < end →
    HaveOtherLabels code (get_or m.stack 0 (pos 0)) m.place end → go code closed moment (end - m.place) m ≡ Goes (record m { place = end })
passes_to code closed moment m end has before others =
    let whole : m.place + (end - m.place) ≡ end = omega (arith, before) in
    pass_over code closed moment (get_or m.stack 0 (pos 0)) (drop 1 m.stack) (end - m.place) m (top_and_below m.stack has)
    (subst (HaveOtherLabels code (get_or m.stack 0 (pos 0)) m.place) (sym whole) others)
    ∙ ap (λ (p : ℕ). Goes (record m { place = p })) whole
  where
    top_and_below : (stack : List ℤ) → 1 ≤ length stack → stack ≡ get_or stack 0 (pos 0) ∷ drop 1 stack
    top_and_below [] h = absurd (omega arith)
    top_and_below (x ∷ xs) h = refl

-- a state passes over one such Case
pub passes_one : (code : Code) (before after : RunState) → HasOtherLabel code (top_of before) before.place →
    after ≡ record before { place = before.place + 1 } → Passes code before after
passes_one code before after other e = record {
  end = before.place + 1;
  above = omega arith;
  others = λ place from below. (let same : before.place ≡ place = omega (arith, from, below) in subst (HasOtherLabel code (top_of before)) same other);
  leads = e;
}
