-- The test of identifiers, and that equal arbitration fields are of one identifier.
use Rattle.std.proofs.Common.{◌≡◌, ℕ, ◌/◌, ◌%◌, ◌^◌, ◌≤◌, Bool, true, false, List, [], ◌∷◌, ◌++◌, length, eqb, sym, ap, subst, ◌∙◌, inl, inr, arith, ◌⊎◌, length-append}
use Rattle.std.proofs.lemmas.Bool.Decides.{nat_tests}
use Rattle.can_frame.specs.declared.Ident.{Ident}
use Rattle.can_frame.specs.declared.Ident.TheVariants.{Std, Ext}
use Rattle.can_frame.specs.Frame.{field_bits, number_of, IsIdent, Wins, arbitration_bits, arbitration_field}
use Rattle.can_frame.proofs.BitLists.{length-field_bits, number_of-field_bits}
use Rattle.can_frame.proofs.Fields.{fronts_same, length-arbitration_std, length-arbitration_ext}
use Rattle.can_bus.specs.Waiting.{wins, GoesBefore, Requests, Waits, request_name}
use Rattle.can_bus.specs.declared.waiting.Waiting.{Waiting}
use Rattle.can_bus.proofs.Precedence.{wins-decides}
use Rattle.can_bus.proofs.Winner.{same_request}
use Rattle.load_bound.specs.declared.stream.Stream.{Stream}
use Rattle.load_bound.specs.Streams.{is_stronger}
use Rattle.load_bound.specs.Kept.{same_ident}

-- ---- the test of identifiers
same_itself : (i : Ident) → same_ident i i ≡ true
same_itself (Std n) = grind (arith, nat_tests)
same_itself (Ext n) = grind (arith, nat_tests)

-- equal identifiers pass the test
pub same_ident-yes : (i j : Ident) → i ≡ j → same_ident i j ≡ true
same_ident-yes i j e = ap (same_ident i) (sym e) ∙ same_itself i

number_same : (m n : ℕ) → eqb m n ≡ true → m ≡ n
number_same m n e = grind (arith, nat_tests)

-- and no others
pub same_ident-only : (i j : Ident) → same_ident i j ≡ true → i ≡ j
same_ident-only (Std m) (Std n) e = ap Std (number_same m n e)
same_ident-only (Std m) (Ext n) e = absurd (cc)
same_ident-only (Ext m) (Std n) e = absurd (cc)
same_ident-only (Ext m) (Ext n) e = ap Ext (number_same m n e)

-- ---- equal fields
number_in : (k m n : ℕ) → field_bits k m ≡ field_bits k n → m % 2 ^ k ≡ n % 2 ^ k
number_in k m n e = sym (number_of-field_bits k m) ∙ ap number_of e ∙ number_of-field_bits k n

same_low : (m n : ℕ) → m ≤ 0x7FF → n ≤ 0x7FF → m % 2 ^ 11 ≡ n % 2 ^ 11 → m ≡ n
same_low m n low high e = omega arith

same_parts : (m n : ℕ) → m ≤ 0x1FFFFFFF → n ≤ 0x1FFFFFFF → m / 2 ^ 18 % 2 ^ 11 ≡ n / 2 ^ 18 % 2 ^ 11 → m % 2 ^ 18 ≡ n % 2 ^ 18 → m ≡ n
same_parts m n low high e f = omega arith

length_front : (n : ℕ) → length (field_bits 11 (n / 2 ^ 18) ++ true ∷ true ∷ field_bits 18 n) ≡ 31
length_front n =
    omega (arith, length-append (field_bits 11 (n / 2 ^ 18)) (true ∷ true ∷ field_bits 18 n), length-field_bits 11 (n / 2 ^ 18), length-field_bits 18 n)

same_fronts : (m n : ℕ) → arbitration_bits (Ext m) false ≡ arbitration_bits (Ext n) false
    → (field_bits 11 (m / 2 ^ 18) ≡ field_bits 11 (n / 2 ^ 18)) × (true ∷ true ∷ field_bits 18 m ≡ true ∷ true ∷ field_bits 18 n)
same_fronts m n e =
    let whole = (fronts_same (field_bits 11 (m / 2 ^ 18) ++ true ∷ true ∷ field_bits 18 m) (field_bits 11 (n / 2 ^ 18) ++ true ∷ true ∷ field_bits 18 n) (false ∷ []) (false ∷ []) (length_front m ∙ sym (length_front n)) e).0 in
    fronts_same (field_bits 11 (m / 2 ^ 18)) (field_bits 11 (n / 2 ^ 18)) (true ∷ true ∷ field_bits 18 m) (true ∷ true ∷ field_bits 18 n)
    (length-field_bits 11 (m / 2 ^ 18) ∙ sym (length-field_bits 11 (n / 2 ^ 18))) whole

-- identifiers in range with equal arbitration fields are equal
pub same_fields : (i j : Ident) → IsIdent i → IsIdent j → arbitration_bits i false ≡ arbitration_bits j false → i ≡ j
same_fields (Std m) (Std n) low high e =
    let fronts = (fronts_same (field_bits 11 m) (field_bits 11 n) (false ∷ false ∷ []) (false ∷ false ∷ []) (length-field_bits 11 m ∙ sym (length-field_bits 11 n)) e).0 in
    ap Std (same_low m n low high (number_in 11 m n fronts))
same_fields (Std m) (Ext n) low high e =
    let long = sym (length-arbitration_std m false) ∙ ap length e ∙ length-arbitration_ext n false in absurd (omega (arith, long))
same_fields (Ext m) (Std n) low high e =
    let long = sym (length-arbitration_ext m false) ∙ ap length e ∙ length-arbitration_std n false in absurd (omega (arith, long))
same_fields (Ext m) (Ext n) low high e =
    let parts = same_fronts m n e in
    let rest = parts.1 in
    let further : field_bits 18 m ≡ field_bits 18 n = cc in
    ap Ext (same_parts m n low high (number_in 11 (m / 2 ^ 18) (n / 2 ^ 18) parts.0) (number_in 18 m n further))

-- ---- what goes before a frame of a stream
module _ (j s : Stream) (x r : Waiting) (ident_r : r.frame.ident ≡ j.ident) (data_r : r.frame.remote ≡ false) (ident_x : x.frame.ident ≡ s.ident) (data_x : x.frame.remote ≡ false) where
  field_r : arbitration_field r.frame ≡ arbitration_bits j.ident false
  field_r = λ i. arbitration_bits (ident_r i) (data_r i)

  field_x : arbitration_field x.frame ≡ arbitration_bits s.ident false
  field_x = λ i. arbitration_bits (ident_x i) (data_x i)

  -- it is of a stronger stream, or of the same identifier
  pub goes_before-stronger : IsIdent j.ident → IsIdent s.ident → (request_name x ≡ request_name r) ⊎ GoesBefore r x → (w : Requests) → Waits w r → Waits w x
      → (is_stronger j s ≡ true) ⊎ (j.ident ≡ s.ident)
  goes_before-stronger low high (inl same) w of_r of_x =
      let one : r ≡ x = same_request w r x of_r of_x same in
      inr (sym ident_r ∙ ap (λ (q : Waiting). q.frame.ident) one ∙ ident_x)
  goes_before-stronger low high (inr (inl wins)) w of_r of_x =
      let P : List Bool → Type 0 = λ f. Wins f (arbitration_field x.frame) in
      let Q : List Bool → Type 0 = λ f. Wins (arbitration_bits j.ident false) f in
      inl ((wins-decides (arbitration_bits j.ident false) (arbitration_bits s.ident false)).1 (subst Q field_x (subst P field_r wins)))
  goes_before-stronger low high (inr (inr tied)) w of_r of_x =
      inr (same_fields j.ident s.ident low high (sym field_r ∙ tied.0 ∙ field_x))
