-- The bytes before the first other one, or all bytes, are the run.
use Rattle.std.proofs.Common.{◌≡◌, ℕ, List, All, take, drop, length, [], arith, subst}
use Rattle.std.proofs.lemmas.List.{drop_all}
use Rattle.std.proofs.lemmas.List.Elements.{All-more}
use Rattle.capl_lexer.specs.Inside.ByteClass.{IsInClass, IsFirstInClass}
use Rattle.capl_lexer.proofs.byte_class.ByteClass.run.Goals as goal

pub loop-place-preserved : goal.loop-place-preserved
loop-place-preserved c =
    All-more (IsInClass c.args.self) c.args.text.now c.loop-place.place 0 c.loop-place-test.true c.loop-place.invariant
    (c.contains.ensures.0 c.if-not-contains.false)

pub returns : goal.returns
returns c =
    let whole : c.loop-place.place ≡ length c.args.text.now = omega arith in
    let P : ℕ → Type 0 = λ n. All (IsInClass c.args.self) (take n c.args.text.now) in
    let none : drop (length c.args.text.now) c.args.text.now ≡ [] = drop_all (length c.args.text.now) c.args.text.now (omega arith) in
    let Q : List ℕ → Type 0 = IsFirstInClass c.args.self in
    record {
      within = omega arith;
      inside = subst P whole c.loop-place.invariant;
      ends = λ first. subst Q none first;
    }
