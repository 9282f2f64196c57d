-- Rows of called functions.
use Rattle.std.proofs.Common.{◌≡◌, ◌+◌, ◌<◌, ◌∙◌, ◌++◌, ◌∷◌, [], ℕ, List, Option, ap, sym, get_or, length, take}
use Rattle.std.specs.Prelude.{map}
use Rattle.std.specs.Global.{Vec}
use Rattle.std.proofs.lemmas.List.{map-append, take_more}
use Rattle.check_names.specs.declared.function.DeclaredFunction.{DeclaredFunction}
use Rattle.check_names.specs.Function.{function_in, functions_in}
use Rattle.capl_meaning.specs.Names.{Function, Names}
use Rattle.check_calls.specs.Callees.{callees, calls_of_all, functions_at}
use Rattle.check_calls.specs.Graph.{rows_of}
use Rattle.check_calls.specs.Inside.Added.{AreAdded}

-- what was added to nothing
added_whole : (names : Names) (places : List ℕ) (all : List (List ℕ)) → AreAdded names places [] all →
    functions_at names places ≡ callees names all
unfolding functions_at
added_whole names places all is = is

-- one more of a list that each item is made from
map_more : {X Y : Type 0} (f : X → Y) (i : ℕ) (xs : List X) (x : X) → i < length xs → x ≡ get_or xs i x
    → map f (take (i + 1) xs) ≡ map f (take i xs) ++ f x ∷ []
map_more f i xs x within is =
    ap (map f) (take_more xs i x within) ∙ map-append f (take i xs) (get_or xs i x ∷ [])
    ∙ ap (λ y. map f (take i xs) ++ f y ∷ []) (sym is)

-- one more row
pub rows_more : (names : Names) (rows : List (Vec ℕ)) (row : Vec ℕ) (fs : List DeclaredFunction) (i : ℕ) (f : DeclaredFunction) →
    i < length fs → f ≡ get_or fs i f → AreAdded names row.items [] (calls_of_all f.body.now) →
    map (functions_at names) (rows_of rows) ≡ map (λ g. callees names (calls_of_all g.body)) (functions_in (take i fs)) →
    map (functions_at names) (rows_of (rows ++ row ∷ []))
    ≡ map (λ g. callees names (calls_of_all g.body)) (functions_in (take (i + 1) fs))
rows_more names rows row fs i f within is added before =
    let g : Function → List (Option Function) = λ h. callees names (calls_of_all h.body) in
    ap (map (functions_at names)) (map-append (λ (r : Vec ℕ). r.items) rows (row ∷ []))
    ∙ map-append (functions_at names) (rows_of rows) (row.items ∷ [])
    ∙ ap (λ (l : List (List (Option Function))). l ++ functions_at names row.items ∷ []) before
    ∙ ap (λ (l : List (Option Function)). map g (functions_in (take i fs)) ++ l ∷ []) (added_whole names row.items (calls_of_all f.body.now) added)
    ∙ sym (ap (map g) (map_more function_in i fs f within is) ∙ map-append g (functions_in (take i fs)) (function_in f ∷ []))
