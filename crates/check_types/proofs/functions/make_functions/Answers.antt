-- One more function.
use Rattle.std.proofs.Common.{◌≡◌, ◌∙◌, ◌<◌, ℕ, ◌++◌, List, Option, Some, ap, arith, subst, sym, length, get_or}
use Rattle.capl_meaning.specs.Calls.{function_numbered}
use Rattle.capl_meaning.specs.Names.{Function}
use Rattle.check_names.specs.Function.{function_in}
use Rattle.type_alone.specs.Tables.{order_of}
use Rattle.typed_source.specs.Program.{formats_of_function, function_of}
use Rattle.check_types.proofs.MadeLemmas.{formats_more, functions_more, read_same}
use Rattle.check_types.proofs.NameLemmas.{listed_is, ordered}
use Rattle.check_types.proofs.RoomLemmas.{room_for_next}
use Rattle.type_alone.proofs.RoomLemmas.{HaveNumbers}
use Rattle.check_types.proofs.functions.make_functions.Goals as goal

pub bounds-indices-at : goal.bounds-indices-at
bounds-indices-at c =
    let at = c.loop-at.at in
    let within = subst (λ (l : List ℕ). at < length l) c.order-order.ensures c.loop-at-test.true in
    let found = ordered c.args.names.now c.args.tables.now.trees.calls.now c.functions-all.result.now at c.requires.tables.trees.calls c.functions-all.ensures within in
    subst (λ (l : List ℕ). at < length l) (sym c.indices-indices.ensures) found.within

pub bounds-all-indices : goal.bounds-all-indices
bounds-all-indices c =
    let at = c.loop-at.at in
    let within = subst (λ (l : List ℕ). at < length l) c.order-order.ensures c.loop-at-test.true in
    let found = ordered c.args.names.now c.args.tables.now.trees.calls.now c.functions-all.result.now at c.requires.tables.trees.calls c.functions-all.ensures within in
    let place : get_or c.indices-indices.result.now at 0 ≡ found.place = ap (λ (l : List ℕ). get_or l at 0) c.indices-indices.ensures ∙ found.place_is in
    omega (arith, place, found.inside)

pub make_function-requires-clause-listed : goal.make_function-requires-clause-listed
make_function-requires-clause-listed c =
    let names = c.args.names.now in
    let at = c.loop-at.at in
    let within = subst (λ (l : List ℕ). at < length l) c.order-order.ensures c.loop-at-test.true in
    let found = ordered names c.args.tables.now.trees.calls.now c.functions-all.result.now at c.requires.tables.trees.calls c.functions-all.ensures within in
    let place : get_or c.indices-indices.result.now at 0 ≡ found.place = ap (λ (l : List ℕ). get_or l at 0) c.indices-indices.ensures ∙ found.place_is in
    let function : function_in c.index-all-indices.result ≡ found.function =
    listed_is names c.functions-all.result.now found.place c.index-all-indices.result found.function c.functions-all.ensures found.inside
    (c.index-all-indices.is ∙ ap (λ (i : ℕ). get_or c.functions-all.result.now i c.index-all-indices.result) place) found.there in
    subst (λ (f : Function). function_numbered names f.number ≡ Some f) (sym function) found.numbered

pub loop-at-preserved : goal.loop-at-preserved
loop-at-preserved c =
    let names = c.args.names.now in
    let order = order_of c.args.tables.now in
    let at = c.loop-at.at in
    let number = get_or order at 0 in
    let old = c.args.formats.now.items in
    let within : at < length order = subst (λ (l : List ℕ). at < length l) c.order-order.ensures c.loop-at-test.true in
    let found = ordered names c.args.tables.now.trees.calls.now c.functions-all.result.now at c.requires.tables.trees.calls c.functions-all.ensures within in
    let place : get_or c.indices-indices.result.now at 0 ≡ found.place = ap (λ (l : List ℕ). get_or l at 0) c.indices-indices.ensures ∙ found.place_is in
    let function : function_in c.index-all-indices.result ≡ found.function =
    listed_is names c.functions-all.result.now found.place c.index-all-indices.result found.function c.functions-all.ensures found.inside
    (c.index-all-indices.is ∙ ap (λ (i : ℕ). get_or c.functions-all.result.now i c.index-all-indices.result) place) found.there in
    let named : function_numbered names number ≡ Some (function_in c.index-all-indices.result) =
    ap (function_numbered names) (sym found.number_is) ∙ found.numbered ∙ ap (λ (f : Function). Some f) (sym function) in
    let before = c.loop-at.formats.items in
    let is = c.loop-at.invariant in
    record {
      trees =
          c.in_ok-push.ensures.items
          ∙ functions_more names order old before order at number c.loop-at.trees.items c.in_ok-tree.tree within
          (read_same order at within) is.trees is.formats
          (c.in_ok-tree.ensures.tree ∙ ap (function_of names order (length before)) (sym named));
      formats =
          formats_more (λ n. formats_of_function names (function_numbered names n)) old before c.make_function.new.formats.items order at
          number within (read_same order at within) is.formats
          (c.in_ok-tree.ensures.formats ∙ ap (λ o. before ++ formats_of_function names o) (sym named));
    }

pub make_function-requires-clause-room : goal.make_function-requires-clause-room
make_function-requires-clause-room c =
    let names = c.args.names.now in
    let order = order_of c.args.tables.now in
    let at = c.loop-at.at in
    let number = get_or order at 0 in
    let within : at < length order = subst (λ (l : List ℕ). at < length l) c.order-order.ensures c.loop-at-test.true in
    let found = ordered names c.args.tables.now.trees.calls.now c.functions-all.result.now at c.requires.tables.trees.calls c.functions-all.ensures within in
    let place : get_or c.indices-indices.result.now at 0 ≡ found.place = ap (λ (l : List ℕ). get_or l at 0) c.indices-indices.ensures ∙ found.place_is in
    let function : function_in c.index-all-indices.result ≡ found.function =
    listed_is names c.functions-all.result.now found.place c.index-all-indices.result found.function c.functions-all.ensures found.inside
    (c.index-all-indices.is ∙ ap (λ (i : ℕ). get_or c.functions-all.result.now i c.index-all-indices.result) place) found.there in
    let named : function_numbered names number ≡ Some (function_in c.index-all-indices.result) =
    ap (function_numbered names) (sym found.number_is) ∙ found.numbered ∙ ap (λ (f : Function). Some f) (sym function) in
    let before = c.loop-at.formats.items in
    subst (λ (o : Option Function). HaveNumbers (before ++ formats_of_function names o)) named
    (room_for_next (λ (n : ℕ). formats_of_function names (function_numbered names n)) c.args.formats.now.items before order at number within
    (read_same order at within) c.loop-at.invariant.formats c.requires.room)
