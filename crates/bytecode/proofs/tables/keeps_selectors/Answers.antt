-- Where the ranks are known, the keys decide.
use Rattle.std.proofs.Common.{◌≡◌, ◌≤◌, ◌∙◌, true, false, sym}
use Rattle.std.specs.Prelude.{◌↔◌, AllPairs, IsTrue}
use Rattle.std.proofs.lemmas.Result.{IfOk-weaker}
use Rattle.run_effects.specs.Effect.{AreApart, KeepsSelectors, selectors_of}
use Rattle.bytecode.specs.Tables.{all_selectors}
use Rattle.bytecode.proofs.GivenLemmas.{All-flat_map}
use Rattle.bytecode.proofs.tables.keeps_selectors.Goals as goal

pub returns-then-not-ranks_are_known : goal.returns-then-not-ranks_are_known
returns-then-not-ranks_are_known c = (
  λ t. absurd (let e : false ≡ true = t in cc),
  λ keeps. absurd (let t : false ≡ true = sym c.if-not-ranks_are_known.true ∙ c.ranks_are_known.ensures.1
      ((All-flat_map (λ handler. selectors_of handler.event) (λ selector. selector.rank ≤ 2) c.args.handlers.now).1 keeps.ranks) in cc),
)

pub returns : goal.returns
returns c =
    let known = (All-flat_map (λ handler. selectors_of handler.event) (λ selector. selector.rank ≤ 2) c.args.handlers.now).0
    (c.ranks_are_known.ensures.0 c.if-not-ranks_are_known.false) in
    IfOk-weaker c.selectors_are_apart.result (λ apart. IsTrue apart ↔ AllPairs AreApart (all_selectors c.args.handlers.now))
    (λ keeps. IsTrue keeps ↔ KeepsSelectors (all_selectors c.args.handlers.now))
    (λ _ h. (λ t. record { ranks = known; apart = h.0 t }, λ keeps. h.1 keeps.apart)) c.selectors_are_apart.ensures
