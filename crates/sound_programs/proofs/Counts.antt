-- The cells of a program bound the cells, initial values and timers of its typed program.
use Rattle.std.proofs.Common.{◌≡◌, ℕ, suc, ◌+◌, ◌≤◌, ◌<◌, ◌^◌, Bool, true, false, List, [], ◌∷◌, ◌++◌, length, arith, length-append}
use Rattle.std.specs.Prelude.{ℤ, pos, filter_map, flat_map, if◌then◌else◌, sum_by}
use Rattle.std.specs.List.{cons_option}
use Rattle.std.specs.Ordering.{int_eq}
use Rattle.std.proofs.lemmas.List.Sums.{sum_by-cons}
use Rattle.int_kinds.specs.Kind.{Holds}
use Rattle.bytecode.proofs.ZippedLists.{AllZip-same_length}
use Rattle.dbc_reader.specs.declared.message.DbcMessage.{DbcMessage}
use Rattle.capl_tree.specs.declared.file.Program.{Program}
use Rattle.typed_tree.specs.declared.program.Typed.{Typed}
use Rattle.capl_meaning.specs.Variable.{Form, Number, Array, Message, Timer, Misfit, Variable}
use Rattle.capl_meaning.specs.Names.{Names, names_of}
use Rattle.capl_meaning.specs.Constant.{elements_of}
use Rattle.capl_meaning.specs.Initial.{first_store}
use Rattle.capl_meaning.specs.Offences.{offences_of}
use Rattle.capl_meaning.specs.Store.{cells_of_program, size_of_form, event_kinds, kinds_by, laid_kinds, lay, unit_of}
use Rattle.typed_laws.proofs.Lists.{replicate_long}
use Rattle.typed_source.specs.Program.{starts_from, typed_program}
use Rattle.sound_programs.specs.Given.{IsReadable}
use Rattle.sound_programs.proofs.Starts.{all_held}

-- no more starts than cells
starts_few : (cells : List ℤ) (n : ℕ) → length (starts_from n cells) ≤ length cells
starts_few [] n = omega arith
starts_few (c ∷ cells) n = go (int_eq c (pos 0)) (starts_few cells (suc n))
  where
    go : (b : Bool) → length (starts_from (suc n) cells) ≤ length cells → length (if b then starts_from (suc n) cells else (n, c) ∷ starts_from (suc n) cells) ≤ suc (length cells)
    go true h = omega (arith, h)
    go false h = omega (arith, h)

module _ (names : Names) where
  -- the size of a variable
  abbrev size : Variable → ℕ
  size v = size_of_form (elements_of names v) v.form

  kinds_few : (elements : ℕ) (form : Form) → length (kinds_by elements form) ≤ size_of_form elements form
  kinds_few elements (Number k fixed) = omega arith
  kinds_few elements (Array k fixed count) = let long : length (kinds_by elements (Array k fixed count)) ≡ elements = replicate_long elements k in omega (arith, long)
  kinds_few elements other = omega arith

  cells_few : (vs : List Variable) → length (flat_map (λ v. kinds_by (elements_of names v) v.form) vs) ≤ sum_by size vs
  cells_few [] = omega arith
  cells_few (v ∷ vs) =
      let first : length (kinds_by (elements_of names v) v.form) ≤ size v = kinds_few (elements_of names v) v.form in
      let rest : length (flat_map (λ v. kinds_by (elements_of names v) v.form) vs) ≤ sum_by size vs = cells_few vs in
      let split : length (kinds_by (elements_of names v) v.form ++ flat_map (λ v. kinds_by (elements_of names v) v.form) vs) ≡
      length (kinds_by (elements_of names v) v.form) + length (flat_map (λ v. kinds_by (elements_of names v) v.form) vs) = length-append (kinds_by (elements_of names v) v.form) _ in
      let sum : sum_by size (v ∷ vs) ≡ size v + sum_by size vs = sum_by-cons size v vs in
      omega (arith, first, rest, split, sum)

  timers_few : (vs : List Variable) → length (filter_map (λ v. unit_of v.form) vs) ≤ sum_by size vs
  timers_few [] = omega arith
  timers_few (v ∷ vs) =
      let rest : length (filter_map (λ v. unit_of v.form) vs) ≤ sum_by size vs = timers_few vs in
      let sum : sum_by size (v ∷ vs) ≡ size v + sum_by size vs = sum_by-cons size v vs in
      let first : length (cons_option (unit_of v.form) (filter_map (λ v. unit_of v.form) vs)) ≤ size v + length (filter_map (λ v. unit_of v.form) vs) = go v.form in
      omega (arith, rest, sum, first)
    where
      go : (form : Form) → length (cons_option (unit_of form) (filter_map (λ v. unit_of v.form) vs)) ≤ size_of_form (elements_of names v) form + length (filter_map (λ v. unit_of v.form) vs)
      go (Timer unit) = omega arith
      go (Number k fixed) = omega arith
      go (Array k fixed count) = omega arith
      go (Message type_) = omega arith
      go Misfit = omega arith

-- the tables of a typed program are short where its cells are few
pub record HasFewCells (typed : Typed) : Type 0 where
  pub cells : length typed.cells < 2 ^ 32
  pub starts : length typed.starts < 2 ^ 32
  pub timers : length typed.timers < 2 ^ 32

-- so they are where a program has at most 1,000,000 cells
pub few_cells : (base : List DbcMessage) (program : Program) (order : List ℕ) (line : ℕ → ℕ → ℕ) → IsReadable program → offences_of base program ≡ [] → cells_of_program base program ≤ 1000000 →
    HasFewCells (typed_program base program order line)
few_cells base program order line readable none few =
    let names : Names = names_of base program in
    let kinds : length (laid_kinds (names_of base program)) ≤ cells_of_program base program = cells_few (names_of base program) (names_of base program).variables in
    let units : length (typed_program base program order line).timers ≤ cells_of_program base program = timers_few (names_of base program) (names_of base program).variables in
    let all : length (event_kinds ++ laid_kinds (names_of base program)) ≡ 15 + length (laid_kinds (names_of base program)) = length-append event_kinds (laid_kinds (names_of base program)) in
    let same : length (lay (names_of base program) (first_store (names_of base program))) ≡ length (laid_kinds (names_of base program)) = AllZip-same_length Holds _ _ (all_held base program order line readable none) in
    let starts : length (starts_from 15 (lay (names_of base program) (first_store (names_of base program)))) ≤ length (lay (names_of base program) (first_store (names_of base program))) = starts_few (lay (names_of base program) (first_store (names_of base program))) 15 in
    record {
      cells = omega (arith, kinds, all, few);
      starts = omega (arith, kinds, same, starts, few);
      timers = omega (arith, units, few);
    }
