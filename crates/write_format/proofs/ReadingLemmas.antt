-- Pieces one after another.
use Rattle.std.proofs.Common.{◌≡◌, ◌<◌, ◌≤◌, ◌+◌, ℕ, suc, Bool, true, false, not, List, [], ◌∷◌, ◌++◌, length, get_or, inl, inr, refl, sym, ap, subst, ◌∙◌, append-nil, arith, Option, Some, None, ◌⊎◌}
use Rattle.std.specs.Prelude.{◌==◌, if◌then◌else◌, nat_lt, position}
use Rattle.std.specs.List.{position_or_len, zip}
use Rattle.std.specs.Option.{is_some}
use Rattle.std.proofs.lemmas.Bool.{cases_lt}
use Rattle.std.proofs.lemmas.Bool.Decides.{nat_tests}
use Rattle.std.proofs.lemmas.List.{length-append}
use Rattle.std.proofs.lemmas.List.Folds.{prefix_len-append}
use Rattle.std.proofs.lemmas.List.Sums.{prefix_len-le-length}
use Rattle.std.proofs.lemmas.Option.{none-some, same_Some}
use Rattle.write_format.specs.Reading.{piece_at, AreSpelled, HasCodesFor, IsFirstUnfit, codes_of, first_unfit, is_fit}
use Rattle.write_format.specs.declared.argument.ArgKind.{ArgKind}
use Rattle.write_format.specs.declared.code.Code as declared
use Rattle.write_format.specs.declared.piece.Piece.{Piece}
use Rattle.write_format.specs.declared.piece.Piece.TheVariants.{Byte, Argument}
use Rattle.write_format.proofs.FrontLemmas.{piece_found, piece_shorter, piece_spelled}

-- pieces that are found one after another lead from a text to what stands behind them
abbrev pub Leads : List ℕ → List Piece → List ℕ → Type 0
Leads text [] rest = text ≡ rest
Leads text (piece ∷ pieces) rest = (between : List ℕ) × (piece_at text ≡ Some (piece, between)) × Leads between pieces rest

-- pieces that spell a text lead to its end
leads_spelled : (pieces : List Piece) (text : List ℕ) → AreSpelled text pieces → Leads text pieces []
leads_spelled [] text is = is
leads_spelled (piece ∷ pieces) text is =
    (is.1, ap piece_at is.2 ∙ piece_found is.0 piece is.1 is.3, leads_spelled pieces is.1 is.4)

-- and the other way round
spelled_leads : (pieces : List Piece) (text : List ℕ) → Leads text pieces [] → AreSpelled text pieces
spelled_leads [] text is = is
spelled_leads (piece ∷ pieces) text is =
    let front = piece_spelled text piece is.0 is.1 in
    (front.bytes, is.0, front.text_is, front.spelled, spelled_leads pieces is.0 is.2)

-- one more piece
pub leads_push : (pieces : List Piece) (text rest : List ℕ) (piece : Piece) (behind : List ℕ) → Leads text pieces rest
    → piece_at rest ≡ Some (piece, behind) → Leads text (pieces ++ piece ∷ []) behind
leads_push [] text rest piece behind is found = (behind, ap piece_at is ∙ found, refl)
leads_push (first ∷ pieces) text rest piece behind is found = (is.0, is.1, leads_push pieces is.0 rest piece behind is.2 found)

-- what leads from the text to its end begins with what leads to a place
leads_front : (pieces all : List Piece) (text rest : List ℕ) → Leads text pieces rest → Leads text all []
    → (more : List Piece) × (all ≡ pieces ++ more) × Leads rest more []
leads_front [] all text rest is whole = (all, refl, subst (λ l. Leads l all []) is whole)
leads_front (piece ∷ pieces) [] text rest is whole =
    let nothing : piece_at [] ≡ Some (piece, is.0) = subst (λ l. piece_at l ≡ Some (piece, is.0)) whole is.1 in
    absurd (none-some (piece, is.0) nothing)
leads_front (piece ∷ pieces) (other ∷ all) text rest is whole =
    let same : (piece, is.0) ≡ (other, whole.0) = same_Some (piece, is.0) (other, whole.0) (sym is.1 ∙ whole.1) in
    let between : is.0 ≡ whole.0 = ap (λ (pair : Piece × List ℕ). pair.1) same in
    let tail = leads_front pieces all whole.0 rest (subst (λ l. Leads l pieces rest) between is.2) whole.2 in
    (tail.0, ap (λ p. p ∷ all) (sym (ap (λ (pair : Piece × List ℕ). pair.0) same)) ∙ ap (λ l. piece ∷ l) tail.1, tail.2)

-- a text has one reading
pub one_reading : (text : List ℕ) (pieces others : List Piece) → AreSpelled text pieces → AreSpelled text others → others ≡ pieces
one_reading text pieces others is spelled =
    let rest = leads_front pieces others text [] (leads_spelled pieces text is) (leads_spelled others text spelled) in
    rest.1 ∙ ap (λ l. pieces ++ l) (nothing_left rest.0 rest.2) ∙ append-nil pieces
  where
    nothing_left : (more : List Piece) → Leads [] more [] → more ≡ []
    nothing_left [] leads = refl
    nothing_left (piece ∷ more) leads = absurd (none-some (piece, leads.0) leads.1)

-- the pieces that lead to the end spell the text
pub whole_reading : (pieces : List Piece) (text rest : List ℕ) → Leads text pieces rest → rest ≡ [] → AreSpelled text pieces
whole_reading pieces text rest leads none = spelled_leads pieces text (subst (Leads text pieces) none leads)

-- where no piece stands, and yet there is text, there is no reading
pub no_reading : (pieces all : List Piece) (text rest : List ℕ) → Leads text pieces rest → piece_at rest ≡ None → (rest ≡ [] → ⊥)
    → AreSpelled text all → ⊥
no_reading pieces all text rest leads none some spelled =
    let more = leads_front pieces all text rest leads (leads_spelled all text spelled) in
    stuck more.0 more.2
  where
    stuck : (more : List Piece) → Leads rest more [] → ⊥
    stuck [] is = some is
    stuck (piece ∷ more) is = none-some (piece, is.0) (sym none ∙ is.1)

-- the codes of more pieces
pub codes_of-append : (pieces more : List Piece) → codes_of (pieces ++ more) ≡ codes_of pieces ++ codes_of more
codes_of-append [] more = refl
codes_of-append (Byte byte ∷ pieces) more = codes_of-append pieces more
codes_of-append (Argument code ∷ pieces) more = ap (λ l. code ∷ l) (codes_of-append pieces more)

-- a reading goes on from a place of it
pub record GoesOn (all pieces : List Piece) (rest : List ℕ) : Type 0 where
  pub more : List Piece
  pub all_are : all ≡ pieces ++ more
  pub leads : Leads rest more []

-- from there it leads to the end
pub goes_on : (pieces all : List Piece) (text rest : List ℕ) → Leads text pieces rest → AreSpelled text all → GoesOn all pieces rest
goes_on pieces all text rest leads spelled =
    let more = leads_front pieces all text rest leads (leads_spelled all text spelled) in
    record { more = more.0; all_are = more.1; leads = more.2 }

-- where a code stands, a reading has one more
pub codes_left : (pieces all : List Piece) (text rest : List ℕ) (code : declared.Code) (behind : List ℕ) → Leads text pieces rest → AreSpelled text all
    → piece_at rest ≡ Some (Argument code, behind) → length (codes_of pieces) < length (codes_of all)
codes_left pieces all text rest code behind leads spelled found =
    let next = goes_on (pieces ++ Argument code ∷ []) all text behind (leads_push pieces text rest (Argument code) behind leads found) spelled in
    let codes = ap (λ l. length (codes_of l)) next.all_are
    ∙ ap length (codes_of-append (pieces ++ Argument code ∷ []) next.more)
    ∙ length-append (codes_of (pieces ++ Argument code ∷ [])) (codes_of next.more) in
    let front = ap length (codes_of-append pieces (Argument code ∷ [])) ∙ length-append (codes_of pieces) (code ∷ []) in
    omega (arith, codes, front)

-- at the end of a text a reading has no more
pub at_end : (pieces all : List Piece) (text rest : List ℕ) → Leads text pieces rest → AreSpelled text all → piece_at rest ≡ None → all ≡ pieces
at_end pieces all text rest leads spelled none =
    let next = goes_on pieces all text rest leads spelled in
    next.all_are ∙ ap (λ l. pieces ++ l) (last next.more next.leads) ∙ append-nil pieces
  where
    last : (more : List Piece) → Leads rest more [] → more ≡ []
    last [] is = refl
    last (piece ∷ more) is = absurd (none-some (piece, is.0) (sym none ∙ is.1))

-- whether a code does not show its argument
abbrev pub is_unfit : declared.Code × ArgKind → Bool
is_unfit pair = not (is_fit (pair.0).conversion pair.1)

-- what is known after some pieces of a text
pub record IsSurvey (text : List ℕ) (arguments : List ArgKind) (rest : List ℕ) (codes : ℕ) (unfit : Option ℕ) : Type 0 where
  pub pieces : List Piece
  pub leads : Leads text pieces rest
  pub count : codes ≡ length (codes_of pieces)
  pub first : unfit ≡ first_unfit (codes_of pieces) arguments
  pub few : codes + length rest ≤ length text

-- one more code, which has an argument
zip-push : (codes : List declared.Code) (arguments : List ArgKind) (code : declared.Code) (argument : ArgKind) → length codes < length arguments
    → zip (codes ++ code ∷ []) arguments ≡ zip codes arguments ++ (code, get_or arguments (length codes) argument) ∷ []
zip-push [] [] code argument within = absurd (omega (arith, within))
zip-push [] (first ∷ arguments) code argument within = refl
zip-push (c ∷ codes) [] code argument within = absurd (omega (arith, within))
zip-push (c ∷ codes) (first ∷ arguments) code argument within =
    ap (λ l. (c, first) ∷ l) (zip-push codes arguments code argument (omega (arith, within)))

-- or none
zip-past : (codes : List declared.Code) (arguments : List ArgKind) (code : declared.Code) → length arguments ≤ length codes
    → zip (codes ++ code ∷ []) arguments ≡ zip codes arguments
zip-past [] [] code past = refl
zip-past [] (first ∷ arguments) code past = absurd (omega (arith, past))
zip-past (c ∷ codes) [] code past = refl
zip-past (c ∷ codes) (first ∷ arguments) code past = ap (λ l. (c, first) ∷ l) (zip-past codes arguments code (omega (arith, past)))

-- as many pairs as codes
zip-length : (codes : List declared.Code) (arguments : List ArgKind) → length codes ≤ length arguments → length (zip codes arguments) ≡ length codes
zip-length [] arguments few = refl
zip-length (c ∷ codes) [] few = absurd (omega (arith, few))
zip-length (c ∷ codes) (first ∷ arguments) few = ap suc (zip-length codes arguments (omega (arith, few)))

-- no element passes
pub none_passes : {X : Type 0} (test : X → Bool) (xs : List X) → position test xs ≡ None → position_or_len test xs ≡ length xs
none_passes test xs none = by_test (nat_lt (position_or_len test xs) (length xs)) refl
  where
    by_test : (t : Bool) → nat_lt (position_or_len test xs) (length xs) ≡ t → position_or_len test xs ≡ length xs
    by_test true is =
        let found : Some (position_or_len test xs) ≡ None = let e = none in rw is at e in
        absurd (none-some (position_or_len test xs) (sym found))
    by_test false is =
        let le = prefix_len-le-length (λ x. not (test x)) xs in
        let ge : length xs ≤ position_or_len test xs = grind (arith, nat_tests, is) in
        omega (arith, le, ge)

-- one more element, where none passes before
position_after_none : {X : Type 0} (test : X → Bool) (xs : List X) (x : X) → position test xs ≡ None
    → position test (xs ++ x ∷ []) ≡ (if test x then Some (length xs) else None)
position_after_none test xs x none = by_test (test x) refl
  where
    count : position_or_len test xs ≡ length xs
    count = none_passes test xs none

    whole : length (xs ++ x ∷ []) ≡ length xs + 1
    whole = length-append xs (x ∷ [])

    by_test : (t : Bool) → test x ≡ t → position test (xs ++ x ∷ []) ≡ (if t then Some (length xs) else None)
    by_test true is =
        let place : position_or_len test (xs ++ x ∷ []) ≡ length xs = grind (arith, nat_tests, prefix_len-append (λ y. not (test y)) xs (x ∷ []), count, is) in
        let within : nat_lt (length xs) (length (xs ++ x ∷ [])) ≡ true = grind (arith, nat_tests, whole) in
        rw (place, within) refl
    by_test false is =
        let place : position_or_len test (xs ++ x ∷ []) ≡ length xs + 1 = grind (arith, nat_tests, prefix_len-append (λ y. not (test y)) xs (x ∷ []), count, is) in
        let past : nat_lt (length xs + 1) (length (xs ++ x ∷ [])) ≡ false = grind (arith, nat_tests, whole) in
        rw (place, past) refl

-- one more element, where one passes before
position_after_some : {X : Type 0} (test : X → Bool) (xs : List X) (x : X) (place : ℕ) → position test xs ≡ Some place
    → position test (xs ++ x ∷ []) ≡ Some place
position_after_some test xs x place some = by_test (nat_lt (position_or_len test xs) (length xs)) refl
  where
    by_test : (t : Bool) → nat_lt (position_or_len test xs) (length xs) ≡ t → position test (xs ++ x ∷ []) ≡ Some place
    by_test true is =
        let at : position_or_len test xs ≡ place = same_Some _ _ (let e = some in rw is at e) in
        let low : position_or_len test xs < length xs = grind (arith, nat_tests, is) in
        let stays : position_or_len test (xs ++ x ∷ []) ≡ place = grind (arith, nat_tests, prefix_len-append (λ y. not (test y)) xs (x ∷ []), low, at) in
        let whole = length-append xs (x ∷ []) in
        let within : nat_lt place (length (xs ++ x ∷ [])) ≡ true = grind (arith, nat_tests, whole, low, at) in
        rw (stays, within) refl
    by_test false is =
        let found : None ≡ Some place = let e = some in rw is at e in
        absurd (none-some place found)

-- the first argument that its code does not show, where one more code shows its argument, or does not
unfit_after_none : (codes : List declared.Code) (arguments : List ArgKind) (code : declared.Code) (argument : ArgKind) (fit : Bool)
    → first_unfit codes arguments ≡ None → length codes < length arguments → argument ≡ get_or arguments (length codes) argument
    → is_fit code.conversion argument ≡ fit → first_unfit (codes ++ code ∷ []) arguments ≡ (if fit then None else Some (length codes))
unfit_after_none codes arguments code argument fit none within is shows =
    let pair : declared.Code × ArgKind = (code, get_or arguments (length codes) argument) in
    let test : is_unfit pair ≡ not fit = ap (λ a. not (is_fit code.conversion a)) (sym is) ∙ ap not shows in
    ap (position is_unfit) (zip-push codes arguments code argument within)
    ∙ position_after_none is_unfit (zip codes arguments) pair none
    ∙ ap (λ t. if t then Some (length (zip codes arguments)) else None) test
    ∙ ap (λ n. if not fit then Some n else None) (zip-length codes arguments (omega (arith, within)))
    ∙ turned fit
  where
    turned : (t : Bool) → (if not t then Some (length codes) else None) ≡ (if t then None else Some (length codes))
    turned true = refl
    turned false = refl

-- it stays the first
unfit_after_some : (codes : List declared.Code) (arguments : List ArgKind) (code : declared.Code) (place : ℕ)
    → first_unfit codes arguments ≡ Some place → first_unfit (codes ++ code ∷ []) arguments ≡ Some place
unfit_after_some codes arguments code place some = by_room (cases_lt (length codes) (length arguments))
  where
    by_room : (length codes < length arguments) ⊎ (length arguments ≤ length codes) → first_unfit (codes ++ code ∷ []) arguments ≡ Some place
    by_room (inl within) = with_argument arguments refl
      where
        with_argument : (all : List ArgKind) → arguments ≡ all → first_unfit (codes ++ code ∷ []) arguments ≡ Some place
        with_argument [] is = absurd (omega (arith, within, ap length is))
        with_argument (first ∷ more) is =
            ap (position is_unfit) (zip-push codes arguments code first within)
            ∙ position_after_some is_unfit (zip codes arguments) (code, get_or arguments (length codes) first) place some
    by_room (inr past) = ap (position is_unfit) (zip-past codes arguments code past) ∙ some

-- codes past the arguments change nothing
unfit_past : (codes : List declared.Code) (arguments : List ArgKind) (code : declared.Code) → length arguments ≤ length codes
    → first_unfit (codes ++ code ∷ []) arguments ≡ first_unfit codes arguments
unfit_past codes arguments code past = ap (position is_unfit) (zip-past codes arguments code past)

-- before any piece
pub survey_begins : (text : List ℕ) (arguments : List ArgKind) → IsSurvey text arguments text 0 None
survey_begins text arguments = record { pieces = []; leads = refl; count = refl; first = refl; few = omega arith }

-- after a byte
pub survey_byte : (text : List ℕ) (arguments : List ArgKind) (rest : List ℕ) (codes : ℕ) (unfit : Option ℕ) (byte : ℕ) (behind : List ℕ)
    → IsSurvey text arguments rest codes unfit → piece_at rest ≡ Some (Byte byte, behind) → IsSurvey text arguments behind codes unfit
survey_byte text arguments rest codes unfit byte behind s found =
    let same : codes_of (s.pieces ++ Byte byte ∷ []) ≡ codes_of s.pieces = codes_of-append s.pieces (Byte byte ∷ []) ∙ append-nil (codes_of s.pieces) in
    let shorter = piece_shorter rest (Byte byte) behind found in
    let few = s.few in
    record {
      pieces = s.pieces ++ Byte byte ∷ [];
      leads = leads_push s.pieces text rest (Byte byte) behind s.leads found;
      count = s.count ∙ ap length (sym same);
      first = s.first ∙ ap (λ l. first_unfit l arguments) (sym same);
      few = omega (arith, few, shorter);
    }

-- after a code
pub survey_code : (text : List ℕ) (arguments : List ArgKind) (rest : List ℕ) (codes : ℕ) (unfit next : Option ℕ) (code : declared.Code) (behind : List ℕ)
    → (s : IsSurvey text arguments rest codes unfit) → piece_at rest ≡ Some (Argument code, behind)
    → next ≡ first_unfit (codes_of s.pieces ++ code ∷ []) arguments → IsSurvey text arguments behind (codes + 1) next
survey_code text arguments rest codes unfit next code behind s found is =
    let more : codes_of (s.pieces ++ Argument code ∷ []) ≡ codes_of s.pieces ++ code ∷ [] = codes_of-append s.pieces (Argument code ∷ []) in
    let shorter = piece_shorter rest (Argument code) behind found in
    let few = s.few in
    let longer = length-append (codes_of s.pieces) (code ∷ []) in
    let count = s.count in
    record {
      pieces = s.pieces ++ Argument code ∷ [];
      leads = leads_push s.pieces text rest (Argument code) behind s.leads found;
      count = omega (arith, count, longer, ap length more);
      first = is ∙ ap (λ l. first_unfit l arguments) (sym more);
      few = omega (arith, few, shorter);
    }

-- the first argument that its code does not show, by what the test of one more code said
pub unfit_here : (text : List ℕ) (arguments : List ArgKind) (rest : List ℕ) (codes : ℕ) (unfit : Option ℕ) (code : declared.Code) (argument : ArgKind) (fit : Bool)
    → (s : IsSurvey text arguments rest codes unfit) → unfit ≡ None → codes < length arguments → argument ≡ get_or arguments codes argument
    → is_fit code.conversion argument ≡ fit → (if fit then None else Some codes) ≡ first_unfit (codes_of s.pieces ++ code ∷ []) arguments
unfit_here text arguments rest codes unfit code argument fit s none within is shows =
    let count = s.count in
    let at : argument ≡ get_or arguments (length (codes_of s.pieces)) argument = is ∙ ap (λ n. get_or arguments n argument) count in
    ap (λ n. if fit then None else Some n) count
    ∙ sym (unfit_after_none (codes_of s.pieces) arguments code argument fit (sym s.first ∙ none) (omega (arith, count, within)) at shows)

-- one that was found before stays the first
pub unfit_before : (text : List ℕ) (arguments : List ArgKind) (rest : List ℕ) (codes : ℕ) (unfit : Option ℕ) (code : declared.Code)
    → (s : IsSurvey text arguments rest codes unfit) → is_some unfit ≡ true → unfit ≡ first_unfit (codes_of s.pieces ++ code ∷ []) arguments
unfit_before text arguments rest codes None code s some = absurd (let e : false ≡ true = some in cc)
unfit_before text arguments rest codes (Some place) code s some = sym (unfit_after_some (codes_of s.pieces) arguments code place (sym s.first))

-- a code without an argument changes nothing
pub unfit_without : (text : List ℕ) (arguments : List ArgKind) (rest : List ℕ) (codes : ℕ) (unfit : Option ℕ) (code : declared.Code)
    → (s : IsSurvey text arguments rest codes unfit) → length arguments ≤ codes → unfit ≡ first_unfit (codes_of s.pieces ++ code ∷ []) arguments
unfit_without text arguments rest codes unfit code s past =
    let count = s.count in
    s.first ∙ sym (unfit_past (codes_of s.pieces) arguments code (omega (arith, count, past)))

-- an option without a value
pub no_value : {A : Type 0} (o : Option A) → is_some o ≡ false → o ≡ None
no_value None is = refl
no_value (Some x) is = absurd (let e : true ≡ false = is in cc)

-- a list without elements
pub is_nil : {A : Type 0} (xs : List A) → (length xs == 0) ≡ true → xs ≡ []
is_nil [] is = refl
is_nil (x ∷ xs) is = absurd (grind (arith, nat_tests, is))

-- and one with some
pub is_some_list : {A : Type 0} (xs : List A) → (length xs == 0) ≡ false → xs ≡ [] → ⊥
is_some_list xs is none = absurd (let zero_long : length xs ≡ 0 = ap length none in grind (arith, nat_tests, is, zero_long))

-- what the whole text says
pub survey_ends : (text : List ℕ) (arguments : List ArgKind) (rest : List ℕ) (codes : ℕ) (unfit : Option ℕ) → (s : IsSurvey text arguments rest codes unfit)
    → rest ≡ [] → AreSpelled text s.pieces
survey_ends text arguments rest codes unfit s none = whole_reading s.pieces text rest s.leads none

-- a text whose reading has another number of codes has none with the right one
pub count_differs : (text : List ℕ) (arguments : List ArgKind) (pieces : List Piece) → AreSpelled text pieces
    → (length (codes_of pieces) ≡ length arguments → ⊥) → HasCodesFor text arguments → ⊥
count_differs text arguments pieces spelled other has =
    let same = one_reading text pieces has.0 spelled (has.1).spelled in
    other (ap (λ l. length (codes_of l)) (sym same) ∙ (has.1).count)

-- the first argument that its code does not show is one
pub one_unfit : (text : List ℕ) (arguments : List ArgKind) (pieces : List Piece) (found : Option ℕ) → AreSpelled text pieces
    → found ≡ first_unfit (codes_of pieces) arguments → (place : ℕ) → IsFirstUnfit text arguments place → found ≡ Some place
one_unfit text arguments pieces found spelled is place unfit =
    let same = one_reading text pieces unfit.0 spelled (unfit.1).spelled in
    is ∙ ap (λ l. first_unfit (codes_of l) arguments) (sym same) ∙ unfit.2
