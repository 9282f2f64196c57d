-- Places of a function that keep their rules, and places that control comes to.
use Rattle.std.proofs.Common.{◌≡◌, ℕ, ◌+◌, ◌-◌, ◌<◌, ◌≤◌, [], ◌∷◌, Some, slice_get, refl, sym, ap, ◌∙◌, subst, arith, inl, inr}
use Rattle.std.proofs.lemmas.Bool.{cases_lt}
use Rattle.bytecode.specs.declared.code.Code.{Code}
use Rattle.bytecode.specs.declared.code.Fun.{Fun}
use Rattle.bytecode.specs.declared.instr.Instr.{Instr}
use Rattle.bytecode.specs.Rule.{CallsEarlier, GoesTheRightWay, IsReached, KeepsRule, NamesWhatExists, ReturnsAsItSays, targets}
use Rattle.bytecode.specs.Shape.{shape_of}
use Rattle.std.specs.List.{AllByRecursion}

-- a function of code with its number, which ends at place 1,000,000 at most
pub record Site : Type 0 where
  pub code : Code
  pub number : ℕ
  pub function : Fun
  pub small : function.end ≤ 1000000

-- the instruction and the depth that stand at a place
abbrev pub Stands : Site → ℕ → Instr → ℕ → Type 0
Stands s place instr depth =
    (slice_get s.code.instrs place ≡ Some instr) × (slice_get s.code.depths place ≡ Some depth)

-- control may come to a place of the function with this depth, which is not greater than the number of places before it
pub record Reached (s : Site) (place depth : ℕ) : Type 0 where
  pub low : s.function.start + depth ≤ place
  pub below : place < s.function.end
  pub depth_there : slice_get s.code.depths place ≡ Some depth

-- the places from one on up to another keep their rules
pub record Keep (s : Site) (from to : ℕ) : Type 0 where
  pub at : (place : ℕ) → from ≤ place → place < to → (instr : Instr) (depth : ℕ) →
      Stands s place instr depth → KeepsRule s.code s.number s.function place instr depth

-- places keep their rules, and control may come to the first of them, or to the place behind them where there is none
pub record Kept (s : Site) (from to depth : ℕ) : Type 0 where
  pub keep : Keep s from to
  pub first : Reached s from depth

-- an instruction that goes to the next place, there or by way of a function of a smaller number; it takes and gives
-- so many numbers, and names what exists
pub record Plain (s : Site) (i : Instr) (taken given : ℕ) : Type 0 where
  pub takes : (shape_of s.code i).taken ≡ taken
  pub goes_next : (place depth : ℕ) → targets (shape_of s.code i) place depth ≡
      record { place = place + 1; depth = depth - taken + given } ∷ []
  pub goes_the_right_way : (place : ℕ) → GoesTheRightWay (shape_of s.code i).flow place
  pub calls_earlier : CallsEarlier (shape_of s.code i).flow s.number
  pub returns : (depth : ℕ) → ReturnsAsItSays (shape_of s.code i).flow s.function depth
  pub names_exist : NamesWhatExists s.code (shape_of s.code i).named

module _ (s : Site) where
  -- no places
  pub keep_none : (from to : ℕ) → to ≤ from → Keep s from to
  keep_none from to h = record { at = λ place low high. absurd (omega arith) }

  -- places and those behind them
  pub keep_both : {from middle to : ℕ} → Keep s from middle → Keep s middle to → Keep s from to
  keep_both {from} {middle} {to} h k = record {
    at = λ place low high instr depth stands. elim (cases_lt place middle) [
      | inl below ↦ h.at place low below instr depth stands
      | inr above ↦ k.at place above high instr depth stands
    ];
  }

  -- the same places, by other numbers
  pub keep_at : {from to from' to' : ℕ} → from ≡ from' → to ≡ to' → Keep s from to → Keep s from' to'
  keep_at {from} {to} {from'} {to'} e f h = record {
    at = λ place low high instr depth stands. h.at place (omega (arith, e)) (omega (arith, f)) instr depth stands;
  }

  -- the same place and depth, by other numbers
  pub reached_at : {place depth place' depth' : ℕ} → place ≡ place' → depth ≡ depth' → Reached s place depth →
      Reached s place' depth'
  reached_at {place} {depth} {place'} {depth'} e f h =
      subst (λ d. Reached s place' d) f (subst (λ p. Reached s p depth) e h)

  -- control comes to a place that has this depth, before the end
  pub comes_to : {i : Instr} {place depth : ℕ} → Stands s place i depth → s.function.start + depth ≤ place →
      place < s.function.end → Reached s place depth
  comes_to stands low below = record { low = low; below = below; depth_there = stands.1 }

  -- as the rules say it
  pub is_reached : {place depth : ℕ} → Reached s place depth →
      IsReached s.code s.function (record { place = place; depth = depth })
  is_reached {place} {depth} h = record {
    inside = record { from = omega (arith, h.low); below = h.below };
    depth = h.depth_there;
  }

  -- the rule of the instruction at a place that control comes to is the rule of the place
  pub keep_one : {i : Instr} {place depth : ℕ} → Stands s place i depth →
      KeepsRule s.code s.number s.function place i depth → Keep s place (place + 1)
  keep_one {i} {place} {depth} stands rule = record {
    at = λ place' low high instr depth' stands'.
        let same : place ≡ place' = omega arith in
        let e : Some i ≡ Some instr =
        sym stands.0 ∙ ap (slice_get s.code.instrs) same ∙ stands'.0 in
        let f : Some depth ≡ Some depth' =
        sym stands.1 ∙ ap (slice_get s.code.depths) same ∙ stands'.1 in
        let e' : i ≡ instr = cc in
        let f' : depth ≡ depth' = cc in
        subst (λ d. KeepsRule s.code s.number s.function place' instr d) f'
        (subst (λ j. KeepsRule s.code s.number s.function place' j depth) e'
        (subst (λ p. KeepsRule s.code s.number s.function p i depth) same rule));
  }

  -- an instruction that goes to the next place keeps its rule where control comes to that
  pub keep_plain : {i : Instr} {place depth taken given : ℕ} → Plain s i taken given → Stands s place i depth →
      s.function.start + depth ≤ place → (base : ℕ) → depth ≡ base + taken → Reached s (place + 1) (base + given) →
      Keep s place (place + 1)
  keep_plain {i} {place} {depth} {taken} {given} plain stands low base e next =
      let left : base + given ≡ depth - taken + given = omega (arith, e) in
      let there : IsReached s.code s.function (record { place = place + 1; depth = depth - taken + given }) =
      is_reached (reached_at refl left next) in
      keep_one stands (record {
        depth_in_range = omega (arith, s.small, next.below);
        begins_empty = λ same. omega (arith, same, low);
        takes_what_is_there = omega (arith, plain.takes, e);
        targets_agree = subst (λ ts. AllByRecursion (IsReached s.code s.function) ts)
            (sym (plain.goes_next place depth)) (there, tt);
        goes_the_right_way = plain.goes_the_right_way place;
        calls_earlier = plain.calls_earlier;
        returns_as_it_says = plain.returns depth;
        names_exist = plain.names_exist;
      })

  -- an instruction that goes to the next place, and places behind it
  pub kept_then : {i : Instr} {place depth taken given after to : ℕ} → Plain s i taken given → Stands s place i depth →
      s.function.start + depth ≤ place → (base : ℕ) → depth ≡ base + taken → after ≡ base + given →
      Kept s (place + 1) to after → Kept s place to depth
  kept_then {i} {place} {depth} {taken} {given} {after} {to} plain stands low base e f rest = record {
    keep = keep_both (keep_plain plain stands low base e (reached_at refl f rest.first)) rest.keep;
    first = comes_to stands low (omega (arith, rest.first.below));
  }

  -- the place to whose end control comes, without an instruction
  pub kept_none : {place to depth after : ℕ} → place ≡ to → depth ≡ after → Reached s to after → Kept s place to depth
  kept_none {place} {to} e f h = record {
    keep = keep_none place to (omega (arith, e));
    first = reached_at (sym e) (sym f) h;
  }

  -- places and those behind them
  pub kept_both : {from middle to depth : ℕ} → Kept s from middle depth → Keep s middle to → Kept s from to depth
  kept_both h k = record { keep = keep_both h.keep k; first = h.first }

  -- the same places, by other numbers
  pub kept_at : {from to depth from' to' depth' : ℕ} → from ≡ from' → to ≡ to' → depth ≡ depth' → Kept s from to depth →
      Kept s from' to' depth'
  kept_at e f g h = record { keep = keep_at e f h.keep; first = reached_at e g h.first }
