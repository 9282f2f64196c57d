-- Functions and event procedures that are made one after another.
use Rattle.std.proofs.Common.{◌≡◌, ◌+◌, ◌<◌, ◌∙◌, ◌++◌, ◌∷◌, ℕ, List, [], ap, sym, refl, arith, append_assoc, get_or, length, length-append, take}
use Rattle.std.specs.Prelude.{flat_map, map}
use Rattle.std.proofs.lemmas.List.{append-nil, map-append, take_more}
use Rattle.std.proofs.lemmas.List.Concat.{flat_map-append}
use Rattle.std.proofs.lemmas.Option.{same_Some, slice_get-get_or}
use Rattle.write_format.specs.Line.{FormatText}
use Rattle.typed_tree.specs.declared.program.TFun.{TFun}
use Rattle.typed_tree.specs.declared.program.THandler.{THandler}
use Rattle.capl_meaning.specs.Calls.{function_numbered}
use Rattle.capl_meaning.specs.Names.{Names}
use Rattle.capl_meaning.specs.Statement.{Handler}
use Rattle.typed_source.specs.Program.{formats_of_body, formats_of_function, formats_of_functions, formats_of_handlers, function_of, functions_of, handler_of, typed_handlers}

-- one more of a list
pub flat_map_take : {X Y : Type 0} (f : X → List Y) (xs : List X) (i : ℕ) (x : X) → i < length xs → x ≡ get_or xs i x →
    flat_map f (take (i + 1) xs) ≡ flat_map f (take i xs) ++ f x
flat_map_take f xs i x within is =
    ap (flat_map f) (take_more xs i x within) ∙ flat_map-append f (take i xs) (get_or xs i x ∷ [])
    ∙ ap (λ l. flat_map f (take i xs) ++ l) (append-nil (f (get_or xs i x)) ∙ ap f (sym is))

-- so many of a sum
sum-length : {Y : Type 0} (before : ℕ) (one other : List Y) → before + length one + length other ≡ before + length (one ++ other)
sum-length before one other = let h = length-append one other in omega (arith, h)

-- event procedures in two parts
pub handlers_append : (order : List ℕ) (line : ℕ → ℕ → ℕ) (before : ℕ) (one other : List Handler) →
    typed_handlers order line before (one ++ other)
    ≡ typed_handlers order line before one ++ typed_handlers order line (before + length (formats_of_handlers one)) other
handlers_append order line before [] other = let same : before ≡ before + 0 = omega arith in ap (λ n. typed_handlers order line n other) same
handlers_append order line before (h ∷ one) other =
    ap (λ l. handler_of order line before h ∷ l)
    (handlers_append order line (before + length (formats_of_body h.scope h.body)) one other
    ∙ ap (λ n. typed_handlers order line (before + length (formats_of_body h.scope h.body)) one ++ typed_handlers order line n other)
    (sum-length before (formats_of_body h.scope h.body) (formats_of_handlers one)))

-- functions in two parts
pub functions_append : (names : Names) (order : List ℕ) (before : ℕ) (one other : List ℕ) →
    functions_of names order before (one ++ other)
    ≡ functions_of names order before one ++ functions_of names order (before + length (formats_of_functions names one)) other
functions_append names order before [] other = let same : before ≡ before + 0 = omega arith in ap (λ n. functions_of names order n other) same
functions_append names order before (number ∷ one) other =
    let made = formats_of_function names (function_numbered names number) in
    ap (λ l. function_of names order before (function_numbered names number) ∷ l)
    (functions_append names order (before + length made) one other
    ∙ ap (λ n. functions_of names order (before + length made) one ++ functions_of names order n other)
    (sum-length before made (formats_of_functions names one)))

-- the formats of one more of a list
pub formats_more : {X : Type 0} (f : X → List FormatText) (old formats after : List FormatText) (all : List X) (i : ℕ) (x : X) →
    i < length all → x ≡ get_or all i x → formats ≡ old ++ flat_map f (take i all) → after ≡ formats ++ f x →
    after ≡ old ++ flat_map f (take (i + 1) all)
formats_more f old formats after all i x within is listed new =
    new ∙ ap (λ l. l ++ f x) listed ∙ append_assoc old (flat_map f (take i all)) (f x)
    ∙ ap (λ l. old ++ l) (sym (flat_map_take f all i x within is))

-- one more function
pub functions_more : (names : Names) (order : List ℕ) (old formats : List FormatText) (all : List ℕ) (i number : ℕ) (trees : List TFun)
    (tree : TFun) → i < length all → number ≡ get_or all i number → trees ≡ functions_of names order (length old) (take i all) →
    formats ≡ old ++ formats_of_functions names (take i all) →
    tree ≡ function_of names order (length formats) (function_numbered names number) →
    trees ++ tree ∷ [] ≡ functions_of names order (length old) (take (i + 1) all)
functions_more names order old formats all i number trees tree within is made listed new =
    let before = length old in
    let done = take i all in
    let count : length formats ≡ before + length (formats_of_functions names done) = ap length listed ∙ length-append old (formats_of_functions names done) in
    ap (λ l. l ++ tree ∷ []) made
    ∙ ap (λ (t : TFun). functions_of names order before done ++ t ∷ []) (new ∙ ap (λ n. function_of names order n (function_numbered names number)) count)
    ∙ sym (ap (functions_of names order before) (take_more all i number within ∙ ap (λ y. done ++ y ∷ []) (sym is))
    ∙ functions_append names order before done (number ∷ []))

-- the event procedures of one more part
pub handlers_more : {X : Type 0} (f : X → List Handler) (order : List ℕ) (line : ℕ → ℕ → ℕ) (old formats : List FormatText) (all : List X)
    (i : ℕ) (x : X) (trees more : List THandler) → i < length all → x ≡ get_or all i x →
    trees ≡ typed_handlers order line (length old) (flat_map f (take i all)) →
    formats ≡ old ++ formats_of_handlers (flat_map f (take i all)) → more ≡ typed_handlers order line (length formats) (f x) →
    trees ++ more ≡ typed_handlers order line (length old) (flat_map f (take (i + 1) all))
handlers_more f order line old formats all i x trees more within is made listed new =
    let before = length old in
    let done = flat_map f (take i all) in
    let count : length formats ≡ before + length (formats_of_handlers done) = ap length listed ∙ length-append old (formats_of_handlers done) in
    ap (λ l. l ++ more) made
    ∙ ap (λ l. typed_handlers order line before done ++ l) (new ∙ ap (λ n. typed_handlers order line n (f x)) count)
    ∙ sym (ap (typed_handlers order line before) (flat_map_take f all i x within is) ∙ handlers_append order line before done (f x))

-- the formats of the event procedures of one more part
pub handler_formats_more : {X : Type 0} (f : X → List Handler) (old formats after : List FormatText) (all : List X) (i : ℕ) (x : X) →
    i < length all → x ≡ get_or all i x → formats ≡ old ++ formats_of_handlers (flat_map f (take i all)) →
    after ≡ formats ++ formats_of_handlers (f x) → after ≡ old ++ formats_of_handlers (flat_map f (take (i + 1) all))
handler_formats_more f old formats after all i x within is listed new =
    let done = flat_map f (take i all) in
    new ∙ ap (λ l. l ++ formats_of_handlers (f x)) listed
    ∙ append_assoc old (formats_of_handlers done) (formats_of_handlers (f x))
    ∙ ap (λ l. old ++ l) (sym (ap formats_of_handlers (flat_map_take f all i x within is)
    ∙ flat_map-append (λ h. formats_of_body h.scope h.body) done (f x)))

-- one more of a list that each item is made from
pub map_more : {X Y : Type 0} (f : X → Y) (all : List X) (i : ℕ) (x : X) → i < length all → x ≡ get_or all i x →
    map f (take (i + 1) all) ≡ map f (take i all) ++ f x ∷ []
map_more f all i x within is =
    ap (map f) (take_more all i x within ∙ ap (λ z. take i all ++ z ∷ []) (sym is)) ∙ map-append f (take i all) (x ∷ [])

-- lists of what is made from each
pub flat_map-map : {X Y Z : Type 0} (f : Y → List Z) (g : X → Y) (xs : List X) → flat_map f (map g xs) ≡ flat_map (λ x. f (g x)) xs
flat_map-map f g [] = refl
flat_map-map f g (x ∷ xs) = ap (λ l. f (g x) ++ l) (flat_map-map f g xs)

-- a read inside of a list hangs on no default
pub read_same : (xs : List ℕ) (i : ℕ) → i < length xs → get_or xs i 0 ≡ get_or xs i (get_or xs i 0)
read_same xs i within = same_Some _ _ (sym (slice_get-get_or xs i 0 within) ∙ slice_get-get_or xs i (get_or xs i 0) within)
