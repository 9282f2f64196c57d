-- What is known by the numbers, by the ranks and by the components, and else by a search.
use Rattle.std.proofs.Common.{◌≡◌, ◌==◌, ◌<◌, ◌∙◌, ℕ, List, ap, sym, subst, arith, true, false, length}
use Rattle.std.specs.Prelude.{slice_index}
use Rattle.std.specs.List.{list_any}
use Rattle.std.specs.Global.{Vec}
use Rattle.std.specs.Option.{option_map_or}
use Rattle.std.proofs.lemmas.List.{length-map}
use Rattle.capl_meaning.specs.Calls.{reaches}
use Rattle.check_calls.specs.Graph.{Keeps, rows_of}
use Rattle.check_calls.specs.Inside.Search.{AllPass, IsClosed}
use Rattle.check_calls.proofs.ComponentLemmas.{not_reached, reached_number}
use Rattle.check_calls.proofs.GraphLemmas.{before_false, place_within, reached_keeps, reached_place, search_answer}
use Rattle.check_calls.proofs.ReachLemmas.{itself}
use Rattle.check_calls.proofs.calls.Calls.is_recursive.Goals as goal

pub returns-in_default : goal.returns-in_default
returns-in_default c = λ s f are owner at.
    sym (ap (reaches s.names f.number) owner
    ∙ not_reached s.names c.args.self.now.numbers.items c.args.function f c.args.owner are.numbers at (c.in_default.ensures s.names are))

pub returns-then-is_below : goal.returns-then-is_below
returns-then-is_below c = λ s f are owner at.
    let calls = c.args.self.now in
    let rows = rows_of calls.callees.items in
    let here = c.in-Some.ensures s.names are in
    let low = c.is_below.ensures rows are.components c.if-is_below.true in
    sym (ap (reaches s.names f.number) owner
    ∙ before_false s.names rows calls.components.ranks.items calls.numbers.items c.args.function f c.in-Some.caller c.args.owner
    are.callees are.numbered low.0 are.numbers are.apart at here low.1)

pub returns-then-are_joined : goal.returns-then-are_joined
returns-then-are_joined c = λ s f are owner at.
    let calls = c.args.self.now in
    let rows = rows_of calls.callees.items in
    let here = c.in-Some.ensures s.names are in
    sym (ap (reaches s.names f.number) owner
    ∙ reached_number s.names rows calls.numbers.items c.args.function f c.in-Some.caller c.args.owner are.callees are.numbered
    are.numbers at here (c.are_joined.ensures rows are.components c.if-are_joined.true))

pub returns : goal.returns
returns c = λ s f are owner at.
    let calls = c.args.self.now in
    let rows = rows_of calls.callees.items in
    let numbers = calls.numbers.items in
    let found : List ℕ = c.in_ok-found.found.items in
    let same : rows_of c.as_slice.result.now ≡ rows = ap rows_of c.as_slice.ensures.value in
    let closed : IsClosed rows found = subst (λ (r : List (List ℕ)). IsClosed r found) same c.in_ok-found.ensures.closed in
    let test = reached_place s.names f.number in
    let first : test c.args.function ≡ true =
    ap (λ o. option_map_or (λ g. reaches s.names f.number g.number) o false) at ∙ itself s.names (length s.names.functions) f.number in
    let keeps = subst (λ (r : List (List ℕ)). Keeps r test) (sym same) (reached_keeps s.names rows f.number are.callees are.numbered) in
    let pass : AllPass test found = c.in_ok-found.ensures.least test first keeps in
    let many = length-map c.as_slice.result.now (λ (row : Vec ℕ). row.items) in
    let placed = place_within s.names rows c.args.function f are.callees at in
    let within : c.args.function < length c.as_slice.result.now = omega (arith, many, ap length same, placed) in
    c.is_among.ensures
    ∙ ap (λ (l : List ℕ). list_any (λ place. slice_index l place == c.args.owner) c.as_slice-3.result.now) c.as_slice-2.ensures.value
    ∙ ap (list_any (λ place. slice_index numbers place == c.args.owner)) c.as_slice-3.ensures.value
    ∙ search_answer s.names rows numbers found c.args.function f c.args.owner are.callees are.numbered are.numbers at
    (c.in_ok-found.ensures.has within) closed pass
    ∙ ap (reaches s.names f.number) (sym owner)
