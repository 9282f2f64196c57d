-- One more parameter differs from those before it where they do not contain it.
use Rattle.std.proofs.Common.{arith, ◌≡◌, ◌≢◌, ◌<◌, ◌≤◌, ◌∙◌, ℕ, true, false, eqb, List, length, take, get_or, refl, sym, length-take}
use Rattle.std.specs.Prelude.{AllPairs}
use Rattle.std.proofs.lemmas.Bool.Decides.{Decides-eqb}
use Rattle.std.proofs.lemmas.List.{get_or-take, get_or_default}
use Rattle.bytecode.proofs.ListPairs.{AllPairs-take_more, AllPairs-taken}
use Rattle.sound_check.proofs.program.params_differ.Goals as goal

-- an equal parameter among the first ones
found : (params : List ℕ) (i k : ℕ) → i < length params → k < length (take i params) →
    ((d : ℕ) → eqb (get_or (take i params) k d) (get_or params i 0) ≡ true) →
    AllPairs (λ (a b : ℕ). a ≢ b) params → ⊥
found params i k within below same all =
    let small : k < i = omega (arith, below, length-take i params) in
    all k i 0 small within (sym (get_or-take i params k 0 small) ∙ (Decides-eqb _ _).0 (same 0))

-- no equal parameter among the first ones
none_found : (params : List ℕ) (i : ℕ) → i < length params →
    ((k d : ℕ) → 0 ≤ k → k < length (take i params) → eqb (get_or (take i params) k d) (get_or params i 0) ≡ false) →
    (k d : ℕ) → k < i → get_or params k d ≢ get_or params i d
none_found params i within differs k d below e =
    let small : k < length (take i params) = omega (arith, below, within, length-take i params) in
    let same : get_or (take i params) k d ≡ get_or params i 0 = get_or-take i params k d below ∙ e ∙ get_or_default params i d 0 within in
    let t : true ≡ false = sym ((Decides-eqb _ _).1 same) ∙ differs k d (omega arith) small in cc

pub returns-then-contains : goal.returns-then-contains
returns-then-contains c = (
  λ t. absurd (let e : false ≡ true = t in cc),
  λ all. absurd (let h = c.if-contains.ensures.cases in found c.args.params.now c.loop-i.i h.0 c.loop-i-test.true h.1 h.2 all),
)

pub loop-i-preserved : goal.loop-i-preserved
loop-i-preserved c =
    AllPairs-take_more (λ (a b : ℕ). a ≢ b) c.args.params.now c.loop-i.i c.loop-i-test.true c.loop-i.invariant
    (none_found c.args.params.now c.loop-i.i c.loop-i-test.true c.if-contains.ensures.cases)

pub returns : goal.returns
returns c = (λ _. AllPairs-taken (λ (a b : ℕ). a ≢ b) c.args.params.now c.loop-i.i c.loop-i-test.false c.loop-i.invariant, λ _. refl)
