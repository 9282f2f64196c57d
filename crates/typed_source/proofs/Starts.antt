-- The starts of the typed program of a source make the first store.
use Rattle.std.proofs.Common.{◌≡◌, ℕ, zero, suc, ◌+◌, Bool, true, false, List, [], ◌∷◌, ◌++◌, length, refl, sym, ap, ◌∙◌, arith, append_assoc, length-append}
use Rattle.std.specs.Prelude.{ℤ, pos, flat_map, if◌then◌else◌, replicate, slice_set}
use Rattle.std.specs.Ordering.{int_eq}
use Rattle.std.proofs.lemmas.Bool.Decides.{Decides-int_eq}
use Rattle.capl_meaning.specs.Variable.{Form, Number, Array, Message, Timer, Misfit, Variable}
use Rattle.capl_meaning.specs.Names.{Names}
use Rattle.capl_meaning.specs.Constant.{elements_of}
use Rattle.capl_meaning.specs.Store.{Store, cells_by, cells_of, event_kinds, variable_key, kinds_by, laid_kinds, lay}
use Rattle.typed_laws.specs.Starts.{started}
use Rattle.typed_laws.proofs.Lists.{replicate_long, row_long, set_middle}
use Rattle.typed_source.specs.Program.{starts_from}

-- ---- starts behind cells that are done

-- starts behind one more cell
abbrev Makes : List ℤ → List ℤ → ℤ → Type 0
Makes front ns m = started ((front ++ m ∷ []) ++ replicate (length ns) (pos 0)) (starts_from (length (front ++ m ∷ [])) ns) ≡ (front ++ m ∷ []) ++ ns

-- starts from a cell on put their numbers behind the cells before it
starts_make : (front cells : List ℤ) → started (front ++ replicate (length cells) (pos 0)) (starts_from (length front) cells) ≡ front ++ cells
starts_make front [] = refl
starts_make front (n ∷ ns) = go (int_eq n (pos 0)) refl (λ m. starts_make (front ++ m ∷ []) ns)
  where
    step : (m : ℤ) → Makes front ns m → started ((front ++ m ∷ []) ++ replicate (length ns) (pos 0)) (starts_from (suc (length front)) ns) ≡ front ++ m ∷ ns
    step m makes =
        let long : length (front ++ m ∷ []) ≡ suc (length front) = let e : length (front ++ m ∷ []) ≡ length front + 1 = length-append front (m ∷ []) in omega (arith, e) in
        ap (λ k. started ((front ++ m ∷ []) ++ replicate (length ns) (pos 0)) (starts_from k ns)) (sym long) ∙ makes ∙ append_assoc front (m ∷ []) ns

    go : (b : Bool) → int_eq n (pos 0) ≡ b → ((m : ℤ) → Makes front ns m) →
        started (front ++ pos 0 ∷ replicate (length ns) (pos 0)) (if b then starts_from (suc (length front)) ns else (length front, n) ∷ starts_from (suc (length front)) ns) ≡ front ++ n ∷ ns
    go true e makes =
        let same : n ≡ pos 0 = (Decides-int_eq n (pos 0)).0 e in
        ap (λ cells. started cells (starts_from (suc (length front)) ns)) (sym (append_assoc front (pos 0 ∷ []) (replicate (length ns) (pos 0)))) ∙ step (pos 0) (makes (pos 0))
        ∙ ap (λ m. front ++ m ∷ ns) (sym same)
    go false e makes =
        let at : length front + 0 ≡ length front = omega arith in
        let put : slice_set (front ++ pos 0 ∷ replicate (length ns) (pos 0)) (length front) n ≡ front ++ n ∷ replicate (length ns) (pos 0) =
        ap (λ k. slice_set (front ++ pos 0 ∷ replicate (length ns) (pos 0)) k n) (sym at) ∙ set_middle front (pos 0 ∷ []) (replicate (length ns) (pos 0)) 0 n (omega arith) in
        ap (λ cells. started cells (starts_from (suc (length front)) ns)) (put ∙ sym (append_assoc front (n ∷ []) (replicate (length ns) (pos 0)))) ∙ step n (makes n)

-- ---- as many cells as kinds

as_many : (names : Names) (s : Store) (v : Variable) (elements : ℕ) (form : Form) → length (kinds_by elements form) ≡ length (cells_by s (variable_key v) elements form)
as_many names s v elements (Number k fixed) = refl
as_many names s v elements (Array k fixed size) = replicate_long elements k ∙ sym (row_long (s.element (variable_key v)) 0 elements)
as_many names s v elements other = refl

all_as_many : (names : Names) (s : Store) (vs : List Variable) → length (flat_map (λ v. kinds_by (elements_of names v) v.form) vs) ≡ length (flat_map (cells_of names s) vs)
all_as_many names s [] = refl
all_as_many names s (v ∷ vs) =
    let a : length (kinds_by (elements_of names v) v.form ++ flat_map (λ v. kinds_by (elements_of names v) v.form) vs) ≡
    length (kinds_by (elements_of names v) v.form) + length (flat_map (λ v. kinds_by (elements_of names v) v.form) vs) = length-append (kinds_by (elements_of names v) v.form) _ in
    let b : length (cells_of names s v ++ flat_map (cells_of names s) vs) ≡ length (cells_of names s v) + length (flat_map (cells_of names s) vs) = length-append (cells_of names s v) _ in
    let c : length (kinds_by (elements_of names v) v.form) ≡ length (cells_of names s v) = as_many names s v (elements_of names v) v.form in
    let d : length (flat_map (λ v. kinds_by (elements_of names v) v.form) vs) ≡ length (flat_map (cells_of names s) vs) = all_as_many names s vs in
    omega (arith, a, b, c, d)

-- starts behind the event's cells make the store
pub store_made : (names : Names) (s : Store) →
    started (replicate (length (event_kinds ++ laid_kinds names)) (pos 0)) (starts_from 15 (lay names s)) ≡ replicate 15 (pos 0) ++ lay names s
store_made names s =
    let a : length (event_kinds ++ laid_kinds names) ≡ 15 + length (laid_kinds names) = length-append event_kinds (laid_kinds names) in
    let b : length (laid_kinds names) ≡ length (lay names s) = all_as_many names s names.variables in
    ap (λ n. started (replicate n (pos 0)) (starts_from 15 (lay names s))) (a ∙ ap (λ n. 15 + n) b)
    ∙ ap (λ l. started l (starts_from 15 (lay names s))) (parts 15 (length (lay names s)))
    ∙ starts_make (replicate 15 (pos 0)) (lay names s)
  where
    parts : (m n : ℕ) → replicate (m + n) (pos 0) ≡ replicate m (pos 0) ++ replicate n (pos 0)
    parts zero n = let e : 0 + n ≡ n = omega arith in ap (λ k. replicate k (pos 0)) e
    parts (suc m) n = let e : suc m + n ≡ suc (m + n) = omega arith in ap (λ k. replicate k (pos 0)) e ∙ ap (λ l. pos 0 ∷ l) (parts m n)
