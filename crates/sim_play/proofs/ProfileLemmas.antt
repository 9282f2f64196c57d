-- The lines of a profile, part by part.
use Rattle.std.proofs.Common.{◌≡◌, ℕ, ◌+◌, ◌<◌, List, [], ◌∷◌, ◌++◌, Option, drop, get_or, length, take, add-one, arith, ap, sym, subst, ◌∙◌}
use Rattle.std.proofs.lemmas.List.{append-nil, append_assoc, length-take-le, take-append-drop}
use Rattle.std.proofs.Math.Seq.{take-suc}
use Rattle.bytecode.specs.declared.code.Handler.{Handler}
use Rattle.stack_vm.specs.declared.meter.MeterRow.{MeterRow}
use Rattle.sim_outside.specs.Sink.{GrowsBy, GrowsByPrefix}
use Rattle.sim_play.specs.Profile.{handler_lines}
use Rattle.sim_play.specs.Inside.Counted.{handler_line}
use Rattle.sim_play.proofs.Grows.{begins_more, grows_more, grows_same}

-- the lines of handlers in two parts
pub handler_lines-append : (name : List ℕ) (files : List (List ℕ)) (row : ℕ → MeterRow) (number : ℕ) (xs ys : List Handler)
    → handler_lines name files row number (xs ++ ys) ≡ handler_lines name files row number xs ++ handler_lines name files row (number + length xs) ys
handler_lines-append name files row number [] ys = ap (λ n. handler_lines name files row n ys) (omega arith)
handler_lines-append name files row number (x ∷ xs) ys =
    ap (λ (zs : List ℕ). handler_line name files (row number) x ++ zs) (handler_lines-append name files row (number + 1) xs ys ∙ ap (λ n. handler_lines name files row (number + 1) xs ++ handler_lines name files row n ys) (omega arith))
    ∙ sym (append_assoc (handler_line name files (row number) x) (handler_lines name files row (number + 1) xs) (handler_lines name files row (number + length (x ∷ xs)) ys))

-- the lines of the first handlers, and of one more
pub handler_lines-more : (name : List ℕ) (files : List (List ℕ)) (row : ℕ → MeterRow) (number : ℕ) (handlers : List Handler) (place : ℕ) (handler : Handler) → handler ≡ get_or handlers place handler → place < length handlers
    → handler_lines name files row number (take (place + 1) handlers) ≡ handler_lines name files row number (take place handlers) ++ handler_line name files (row (number + place)) handler
handler_lines-more name files row number handlers place handler is there =
    ap (handler_lines name files row number) (ap (λ n. take n handlers) (add-one place) ∙ take-suc handlers place handler there ∙ ap (λ (h : Handler). take place handlers ++ (h ∷ [])) (sym is))
    ∙ handler_lines-append name files row number (take place handlers) (handler ∷ [])
    ∙ ap (λ (zs : List ℕ). handler_lines name files row number (take place handlers) ++ zs) (append-nil (handler_line name files (row (number + length (take place handlers))) handler))
    ∙ ap (λ n. handler_lines name files row number (take place handlers) ++ handler_line name files (row (number + n)) handler) (length-take-le place handlers (omega arith))

-- the lines of all handlers are those of the first and those of the others
pub handler_lines-split : (name : List ℕ) (files : List (List ℕ)) (row : ℕ → MeterRow) (number : ℕ) (handlers : List Handler) (place : ℕ)
    → handler_lines name files row number handlers ≡ handler_lines name files row number (take place handlers) ++ handler_lines name files row (number + length (take place handlers)) (drop place handlers)
handler_lines-split name files row number handlers place =
    ap (handler_lines name files row number) (sym (take-append-drop place handlers)) ∙ handler_lines-append name files row number (take place handlers) (drop place handlers)

-- the lines of all handlers are those of the first, that of the next, and those of the others
pub handler_lines-at : (name : List ℕ) (files : List (List ℕ)) (row : ℕ → MeterRow) (number : ℕ) (handlers : List Handler) (place : ℕ) (handler : Handler) → handler ≡ get_or handlers place handler → place < length handlers
    → handler_lines name files row number handlers
    ≡ handler_lines name files row number (take place handlers)
    ++ (handler_line name files (row (number + place)) handler ++ handler_lines name files row (number + length (take (place + 1) handlers)) (drop (place + 1) handlers))
handler_lines-at name files row number handlers place handler is there =
    let rest : List ℕ = handler_lines name files row (number + length (take (place + 1) handlers)) (drop (place + 1) handlers) in
    handler_lines-split name files row number handlers (place + 1) ∙ ap (λ (zs : List ℕ). zs ++ rest) (handler_lines-more name files row number handlers place handler is there)
    ∙ append_assoc (handler_lines name files row number (take place handlers)) (handler_line name files (row (number + place)) handler) rest

-- what was written has grown by the lines of one handler more
pub grows_at : (a b c : Option (List ℕ)) (name : List ℕ) (files : List (List ℕ)) (row : ℕ → MeterRow) (number : ℕ) (handlers : List Handler) (place : ℕ) (handler : Handler) (own : MeterRow)
    → own ≡ row (number + place) → handler ≡ get_or handlers place handler → place < length handlers → GrowsBy a b (handler_lines name files row number (take place handlers))
    → GrowsBy b c (handler_line name files own handler) → GrowsBy a c (handler_lines name files row number (take (place + 1) handlers))
grows_at a b c name files row number handlers place handler own is_row is there first second =
    grows_same a c (sym (handler_lines-more name files row number handlers place handler is there))
    (grows_more a b c (handler_lines name files row number (take place handlers)) (handler_line name files (row (number + place)) handler) first
    (subst (λ (r : MeterRow). GrowsBy b c (handler_line name files r handler)) is_row second))

-- it has grown by the lines of the first handlers and the beginning of the next line
pub begins_at : (a b c : Option (List ℕ)) (name : List ℕ) (files : List (List ℕ)) (row : ℕ → MeterRow) (number : ℕ) (handlers : List Handler) (place : ℕ) (handler : Handler) (own : MeterRow)
    → own ≡ row (number + place) → handler ≡ get_or handlers place handler → place < length handlers → GrowsBy a b (handler_lines name files row number (take place handlers))
    → GrowsByPrefix b c (handler_line name files own handler) → GrowsByPrefix a c (handler_lines name files row number handlers)
begins_at a b c name files row number handlers place handler own is_row is there first second =
    begins_more a b c (handler_lines name files row number (take place handlers)) (handler_line name files (row (number + place)) handler) (handler_lines name files row number handlers)
    (handler_lines name files row (number + length (take (place + 1) handlers)) (drop (place + 1) handlers)) first
    (subst (λ (r : MeterRow). GrowsByPrefix b c (handler_line name files r handler)) is_row second)
    (handler_lines-at name files row number handlers place handler is there)
