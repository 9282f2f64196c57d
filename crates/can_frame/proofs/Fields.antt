-- Of two arbitration fields, the one that wins spells the lesser number once both are filled to 32 bits.
use Rattle.std.proofs.Common.{◌≡◌, ◌≢◌, ℕ, pred, ◌-◌, ◌/◌, ◌^◌, ◌<◌, Bool, true, false, List, [], ◌∷◌, ◌++◌, length, replicate, refl, sym, ap, subst, ◌∙◌, arith, length-append, append_assoc}
use Rattle.std.proofs.lemmas.List.{append-nil}
use Rattle.can_frame.specs.declared.Ident.{Ident}
use Rattle.can_frame.specs.declared.Ident.TheVariants.{Std, Ext}
use Rattle.can_frame.specs.Frame.{field_bits, number_of, FrameFields, Wins, filled, arbitration_bits, arbitration_key, KeysOrderFields}
use Rattle.can_frame.proofs.BitLists.{length-field_bits, number_of-one, number_of-zero, number_of-lt, length-filled}

-- ---- lists of one length: to win is to spell the lesser number
pub Wins-from_lt : (a b : List Bool) → length a ≡ length b → number_of a < number_of b → Wins a b
Wins-from_lt [] [] e h = absurd (omega (arith, h))
Wins-from_lt [] (y ∷ b) e h = absurd (omega (arith, e))
Wins-from_lt (x ∷ a) [] e h = absurd (omega (arith, e))
Wins-from_lt (false ∷ a) (true ∷ b) e h = tt
Wins-from_lt (true ∷ a) (false ∷ b) e h =
    absurd (omega (arith, number_of-one a, number_of-zero b, h, number_of-lt b, ap (λ n. 2 ^ pred n) e))
Wins-from_lt (false ∷ a) (false ∷ b) e h =
    Wins-from_lt a b (omega (arith, e)) (omega (arith, number_of-zero a, number_of-zero b, h))
Wins-from_lt (true ∷ a) (true ∷ b) e h =
    Wins-from_lt a b (omega (arith, e)) (omega (arith, number_of-one a, number_of-one b, h, ap (λ n. 2 ^ pred n) e))

-- of lists of one length, the one that wins spells the lesser number
pub lt-from_Wins : (a b : List Bool) → length a ≡ length b → Wins a b → number_of a < number_of b
lt-from_Wins [] b e w = absurd w
lt-from_Wins (x ∷ a) [] e w = absurd w
lt-from_Wins (false ∷ a) (true ∷ b) e w =
    omega (arith, number_of-one b, number_of-zero a, number_of-lt a, ap (λ n. 2 ^ pred n) e)
lt-from_Wins (true ∷ a) (false ∷ b) e w = absurd w
lt-from_Wins (false ∷ a) (false ∷ b) e w =
    omega (arith, number_of-zero a, number_of-zero b, lt-from_Wins a b (omega (arith, e)) w)
lt-from_Wins (true ∷ a) (true ∷ b) e w =
    omega (arith, number_of-one a, number_of-one b, ap (λ n. 2 ^ pred n) e, lt-from_Wins a b (omega (arith, e)) w)

-- lists of one length that spell one number are equal
pub same-from_number : (a b : List Bool) → length a ≡ length b → number_of a ≡ number_of b → a ≡ b
same-from_number [] [] e h = refl
same-from_number [] (y ∷ b) e h = absurd (omega (arith, e))
same-from_number (x ∷ a) [] e h = absurd (omega (arith, e))
same-from_number (false ∷ a) (true ∷ b) e h =
    absurd (omega (arith, number_of-one b, number_of-zero a, h, number_of-lt a, ap (λ n. 2 ^ pred n) e))
same-from_number (true ∷ a) (false ∷ b) e h =
    absurd (omega (arith, number_of-one a, number_of-zero b, h, number_of-lt b, ap (λ n. 2 ^ pred n) e))
same-from_number (false ∷ a) (false ∷ b) e h =
    ap (λ c. false ∷ c) (same-from_number a b (omega (arith, e)) (omega (arith, number_of-zero a, number_of-zero b, h)))
same-from_number (true ∷ a) (true ∷ b) e h =
    ap (λ c. true ∷ c) (same-from_number a b (omega (arith, e)) (omega (arith, number_of-one a, number_of-one b, h, ap (λ n. 2 ^ pred n) e)))

-- ---- longer lists
-- no list wins over itself
pub not_Wins_self : (a : List Bool) → ¬ Wins a a
not_Wins_self [] w = w
not_Wins_self (false ∷ a) w = not_Wins_self a w
not_Wins_self (true ∷ a) w = not_Wins_self a w

-- a list that wins does so whatever follows
pub Wins-append : (a b s t : List Bool) → Wins a b → Wins (a ++ s) (b ++ t)
Wins-append [] b s t w = absurd w
Wins-append (x ∷ a) [] s t w = absurd w
Wins-append (false ∷ a) (true ∷ b) s t w = tt
Wins-append (true ∷ a) (false ∷ b) s t w = absurd w
Wins-append (false ∷ a) (false ∷ b) s t w = Wins-append a b s t w
Wins-append (true ∷ a) (true ∷ b) s t w = Wins-append a b s t w

-- where two lists of one length differ, what follows them decides nothing
pub Wins-front : (a b s t : List Bool) → length a ≡ length b → a ≢ b → Wins (a ++ s) (b ++ t) → Wins a b
Wins-front [] [] s t e ne w = absurd (ne refl)
Wins-front [] (y ∷ b) s t e ne w = absurd (omega (arith, e))
Wins-front (x ∷ a) [] s t e ne w = absurd (omega (arith, e))
Wins-front (false ∷ a) (true ∷ b) s t e ne w = tt
Wins-front (true ∷ a) (false ∷ b) s t e ne w = absurd w
Wins-front (false ∷ a) (false ∷ b) s t e ne w =
    Wins-front a b s t (omega (arith, e)) (λ q. ne (ap (λ c. false ∷ c) q)) w
Wins-front (true ∷ a) (true ∷ b) s t e ne w =
    Wins-front a b s t (omega (arith, e)) (λ q. ne (ap (λ c. true ∷ c) q)) w

-- the same end decides nothing either
pub Wins-front_same : (a b s : List Bool) → length a ≡ length b → Wins (a ++ s) (b ++ s) → Wins a b
Wins-front_same [] [] s e w = absurd (not_Wins_self s w)
Wins-front_same [] (y ∷ b) s e w = absurd (omega (arith, e))
Wins-front_same (x ∷ a) [] s e w = absurd (omega (arith, e))
Wins-front_same (false ∷ a) (true ∷ b) s e w = tt
Wins-front_same (true ∷ a) (false ∷ b) s e w = absurd w
Wins-front_same (false ∷ a) (false ∷ b) s e w = Wins-front_same a b s (omega (arith, e)) w
Wins-front_same (true ∷ a) (true ∷ b) s e w = Wins-front_same a b s (omega (arith, e)) w

-- lists of one length that begin equal lists are equal, and so are the rests
pub fronts_same : (a b s t : List Bool) → length a ≡ length b → a ++ s ≡ b ++ t → (a ≡ b) × (s ≡ t)
fronts_same [] [] s t e q = (refl, q)
fronts_same [] (y ∷ b) s t e q = absurd (omega (arith, e))
fronts_same (x ∷ a) [] s t e q = absurd (omega (arith, e))
fronts_same (x ∷ a) (y ∷ b) s t e q =
    let rest : (a ≡ b) × (s ≡ t) = fronts_same a b s t (omega (arith, e)) cc in
    let head : x ≡ y = cc in
    (cc (head, rest.0), rest.1)

-- ---- fields filled to 32 bits
-- filling keeps which of two fields wins, and whether they are equal
record FillKeeps (a b : List Bool) : Type 0 where
  pub wins : Wins (filled a) (filled b) → Wins a b
  pub same : filled a ≡ filled b → a ≡ b

-- fields of one length are filled with the same zeros
FillKeeps-one_length : (a b : List Bool) → length a ≡ length b → FillKeeps a b
FillKeeps-one_length a b e =
    let ends : replicate (32 - length a) false ≡ replicate (32 - length b) false = ap (λ n. replicate (32 - n) false) e in
    record {
      wins = λ w. Wins-front_same a b (replicate (32 - length a) false) e (subst (λ z. Wins (a ++ replicate (32 - length a) false) (b ++ z)) (sym ends) w);
      same = λ q. (fronts_same a b _ _ e q).0;
    }

-- fields that differ in a front of one length
FillKeeps-apart : (a b s t : List Bool) → length a ≡ length b → a ≢ b → FillKeeps (a ++ s) (b ++ t)
FillKeeps-apart a b s t e ne =
    let y : List Bool = replicate (32 - length (a ++ s)) false in
    let z : List Bool = replicate (32 - length (b ++ t)) false in
    record {
      wins = λ w. Wins-append a b s t (Wins-front a b (s ++ y) (t ++ z) e ne (rw (← append_assoc a s y, ← append_assoc b t z) w));
      same = λ q. absurd (ne (fronts_same a b (s ++ y) (t ++ z) e (rw (← append_assoc a s y, ← append_assoc b t z) q)).0);
    }

-- the fronts of a standard and an extended field differ in the IDE bit
formats_differ : (p q : List Bool) (r : Bool) → length p ≡ length q → p ++ r ∷ false ∷ [] ≢ q ++ true ∷ true ∷ []
formats_differ p q r e h = let ends : r ∷ false ∷ [] ≡ true ∷ true ∷ [] = (fronts_same p q _ _ e h).1 in cc

-- a standard arbitration field has 13 bits with IDE
pub length-arbitration_std : (n : ℕ) (r : Bool) → length (arbitration_bits (Std n) r) ≡ 13
length-arbitration_std n r = rw (length-append, length-field_bits) refl

-- an extended one has 32
pub length-arbitration_ext : (n : ℕ) (r : Bool) → length (arbitration_bits (Ext n) r) ≡ 32
length-arbitration_ext n r =
    rw (length-append, length-append, length-field_bits 11 (n / 2 ^ 18), length-field_bits 18 n) refl

ext_front : (n : ℕ) (r : Bool) → (field_bits 11 (n / 2 ^ 18) ++ true ∷ true ∷ []) ++ (field_bits 18 n ++ r ∷ []) ≡ arbitration_bits (Ext n) r
ext_front n r =
    append_assoc (field_bits 11 (n / 2 ^ 18)) (true ∷ true ∷ []) (field_bits 18 n ++ r ∷ [])
    ∙ sym (append_assoc (field_bits 11 (n / 2 ^ 18)) (true ∷ true ∷ field_bits 18 n) (r ∷ []))

length-front : (n : ℕ) (x y : Bool) → length (field_bits 11 n ++ x ∷ y ∷ []) ≡ 13
length-front n x y = rw (length-append, length-field_bits) refl

FillKeeps-fields : (i j : Ident) (r q : Bool) → FillKeeps (arbitration_bits i r) (arbitration_bits j q)
FillKeeps-fields (Std n) (Std m) r q = FillKeeps-one_length _ _ (length-arbitration_std n r ∙ sym (length-arbitration_std m q))
FillKeeps-fields (Ext n) (Ext m) r q = FillKeeps-one_length _ _ (length-arbitration_ext n r ∙ sym (length-arbitration_ext m q))
FillKeeps-fields (Std n) (Ext m) r q =
    let a : List Bool = field_bits 11 n ++ r ∷ false ∷ [] in
    let b : List Bool = field_bits 11 (m / 2 ^ 18) ++ true ∷ true ∷ [] in
    let apart : FillKeeps (a ++ []) (b ++ (field_bits 18 m ++ q ∷ [])) =
    FillKeeps-apart a b [] (field_bits 18 m ++ q ∷ []) (length-front n r false ∙ sym (length-front (m / 2 ^ 18) true true)) (formats_differ _ _ r (length-field_bits 11 n ∙ sym (length-field_bits 11 (m / 2 ^ 18)))) in
    subst (λ f. FillKeeps a f) (ext_front m q) (subst (λ f. FillKeeps f (b ++ (field_bits 18 m ++ q ∷ []))) (append-nil a) apart)
FillKeeps-fields (Ext n) (Std m) r q =
    let a : List Bool = field_bits 11 (n / 2 ^ 18) ++ true ∷ true ∷ [] in
    let b : List Bool = field_bits 11 m ++ q ∷ false ∷ [] in
    let apart : FillKeeps (a ++ (field_bits 18 n ++ r ∷ [])) (b ++ []) =
    FillKeeps-apart a b (field_bits 18 n ++ r ∷ []) [] (length-front (n / 2 ^ 18) true true ∙ sym (length-front m q false)) (λ e. formats_differ _ _ q (length-field_bits 11 m ∙ sym (length-field_bits 11 (n / 2 ^ 18))) (sym e)) in
    subst (λ f. FillKeeps f b) (ext_front n r) (subst (λ f. FillKeeps (a ++ (field_bits 18 n ++ r ∷ [])) f) (append-nil b) apart)

-- a filled field is 32 bits long
length-filled_field : (i : Ident) (r : Bool) → length (filled (arbitration_bits i r)) ≡ 32
length-filled_field (Std n) r = length-filled (arbitration_bits (Std n) r) (omega (arith, length-arbitration_std n r))
length-filled_field (Ext n) r = length-filled (arbitration_bits (Ext n) r) (omega (arith, length-arbitration_ext n r))

-- the law of the arbitration keys
pub KeysOrderFields-all : (f g : FrameFields) → KeysOrderFields f g
unfolding arbitration_key
KeysOrderFields-all f g =
    let a : List Bool = arbitration_bits f.ident f.remote in
    let b : List Bool = arbitration_bits g.ident g.remote in
    let keeps : FillKeeps a b = FillKeeps-fields f.ident g.ident f.remote g.remote in
    let one_length : length (filled a) ≡ length (filled b) =
    length-filled_field f.ident f.remote ∙ sym (length-filled_field g.ident g.remote) in
    record {
      lesser = (
        λ h. keeps.wins (Wins-from_lt (filled a) (filled b) one_length h),
        λ w. lt-from_Wins (filled a) (filled b) one_length (Wins-append a b _ _ w),
      );
      equal = (λ h. keeps.same (same-from_number (filled a) (filled b) one_length h), λ q. ap (λ c. number_of (filled c)) q);
    }
