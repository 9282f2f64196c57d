-- Why fields have no reading.
use Rattle.std.proofs.Common.{◌≡◌, ℕ, inl, inr, List, [], ◌∷◌, ◌++◌, get_or, sym, ap, subst, ◌∙◌, arith}
use Rattle.can_frame.specs.Frame.{FrameFields}
use Rattle.log_line.specs.Reading.{IsStamp, SpellsData, SpellsFrame, IsLongCode, IsDirection, IsPassedOver, FieldsRead}
use Rattle.log_line.specs.Inside.FrameField.{IsFrameField}
use Rattle.log_line.specs.declared.frame_text.FrameField.{FrameField}
use Rattle.log_line.specs.declared.frame_text.FrameField.TheVariants.{Read, Unread, LongCode}
use Rattle.log_line.specs.declared.line.Line.{Line}
use Rattle.log_line.specs.declared.line.Line.TheVariants.{Entry, Skip, Empty}
use Rattle.log_line.proofs.FrameFieldLemmas.{one_parts, parts_of_flexible, parts_of_above, parts_of_long}
use Rattle.log_line.proofs.OneReading.{not_passed_over, no_second_sign, ident_within}

-- the first field is no stamp
pub no_stamp : (fields : List (List ℕ)) (stamp : List ℕ) (more : List (List ℕ)) → fields ≡ stamp ∷ more → ((seconds micros : ℕ) → IsStamp stamp seconds micros → ⊥)
    → (reading : Line) → FieldsRead fields reading → ⊥
no_stamp fields stamp more split none (Entry entry) is =
    let both = sym split ∙ is.are in
    let same : is.stamp ≡ stamp = cc in
    none entry.seconds entry.micros (subst (λ s. IsStamp s entry.seconds entry.micros) same is.is_stamp)
no_stamp fields stamp more split none Skip is =
    let both = sym split ∙ is.are in
    let same : is.stamp ≡ stamp = cc in
    none (is.is_stamp).0 (is.is_stamp).1 (subst (λ s. IsStamp s (is.is_stamp).0 (is.is_stamp).1) same (is.is_stamp).2)
no_stamp fields stamp more split none Empty is = let a = split in let b = is in cc

-- a frame that is passed over is of a kind
passed_over_kind : (field : List ℕ) (more : List (List ℕ)) → IsPassedOver field more → (x : FrameField) × IsFrameField field x
passed_over_kind field more (inl flexible) = (Unread, inl flexible)
passed_over_kind field more (inr (inl above)) = (Unread, inr above)
passed_over_kind field more (inr (inr long)) = (LongCode, long.0)

-- the third field is no frame of any kind
pub no_frame_field : (fields : List (List ℕ)) (stamp interface field : List ℕ) (more : List (List ℕ)) → fields ≡ stamp ∷ interface ∷ field ∷ more → ((x : FrameField) → IsFrameField field x → ⊥)
    → (reading : Line) → FieldsRead fields reading → ⊥
no_frame_field fields stamp interface field more split none (Entry entry) is =
    let both = sym split ∙ is.are in
    let same : is.frame ≡ field = cc in
    none (Read entry.frame) (subst (λ f. SpellsFrame f entry.frame) same is.is_frame)
no_frame_field fields stamp interface field more split none Skip is =
    let both = sym split ∙ is.are in
    let same : is.frame ≡ field = cc in
    let kind = passed_over_kind is.frame is.more is.is_passed_over in
    none kind.0 (subst (λ f. IsFrameField f kind.0) same kind.1)
no_frame_field fields stamp interface field more split none Empty is = let a = split in let b = is in cc

-- a frame with a long code does not begin a frame of another kind
long_begins : (field : List ℕ) → IsLongCode field → IsFrameField field Unread → ⊥
long_begins field long (inl flexible) =
    let same = one_parts field _ _ _ _ _ _ (parts_of_long field long) (parts_of_flexible field flexible) in
    let frame = (long.frame).0 in
    begins_with_data ((long.frame).1).behind (95 ∷ long.digit ∷ []) flexible.behind frame ((long.frame).1).carries same.behinds
    (λ none. let first : 95 ≡ 35 = ap (λ l. get_or l 0 0) none in omega (arith, first))
  where
    begins_with_data : (behind code rest : List ℕ) (frame : FrameFields) → SpellsData behind frame.remote frame.dlc frame.payload → behind ++ code ≡ 35 ∷ rest → (code ≡ 35 ∷ rest → ⊥) → ⊥
    begins_with_data [] code rest frame spells split other = other split
    begins_with_data (byte ∷ behind) code rest frame spells split other =
        let first : byte ≡ 35 = cc in
        no_second_sign behind frame.remote frame.dlc frame.payload (subst (λ b. SpellsData (b ∷ behind) frame.remote frame.dlc frame.payload) first spells)
long_begins field long (inr above) =
    let same = one_parts field _ _ _ _ _ _ (parts_of_long field long) (parts_of_above field above) in
    let frame = (long.frame).0 in
    let within = ident_within frame.ident (((long.frame).1).ident).in_range in
    let number = same.numbers in
    let high = above.above in
    omega (arith, within, number, high)

-- what stands behind a frame is no direction
pub no_direction : (fields : List (List ℕ)) (stamp interface field : List ℕ) (more : List (List ℕ)) → fields ≡ stamp ∷ interface ∷ field ∷ more
    → (frame : FrameFields) → SpellsFrame field frame → (IsDirection more → ⊥) → (reading : Line) → FieldsRead fields reading → ⊥
no_direction fields stamp interface field more split frame spells none (Entry entry) is =
    let both = sym split ∙ is.are in
    let same : is.direction ≡ more = cc in
    none (subst IsDirection same is.is_direction)
no_direction fields stamp interface field more split frame spells none Skip is =
    let both = sym split ∙ is.are in
    let same : is.frame ≡ field = cc in
    not_passed_over field is.more frame spells (subst (λ f. IsPassedOver f is.more) same is.is_passed_over)
no_direction fields stamp interface field more split frame spells none Empty is = let a = split in let b = is in cc

-- a frame with a long code is passed over before a direction alone
long_before : (field : List ℕ) (more : List (List ℕ)) → IsLongCode field → IsPassedOver field more → IsDirection more
long_before field more long (inl flexible) = absurd (long_begins field long (inl flexible))
long_before field more long (inr (inl above)) = absurd (long_begins field long (inr above))
long_before field more long (inr (inr both)) = both.1

-- what stands behind a frame with a long code is no direction
pub no_direction_behind_long : (fields : List (List ℕ)) (stamp interface field : List ℕ) (more : List (List ℕ)) → fields ≡ stamp ∷ interface ∷ field ∷ more
    → IsLongCode field → (IsDirection more → ⊥) → (reading : Line) → FieldsRead fields reading → ⊥
no_direction_behind_long fields stamp interface field more split long none (Entry entry) is =
    let both = sym split ∙ is.are in
    let same : is.direction ≡ more = cc in
    none (subst IsDirection same is.is_direction)
no_direction_behind_long fields stamp interface field more split long none Skip is =
    let both = sym split ∙ is.are in
    let same : is.frame ≡ field = cc in
    let others : is.more ≡ more = cc in
    none (subst IsDirection others (long_before is.frame is.more (subst IsLongCode (sym same) long) is.is_passed_over))
no_direction_behind_long fields stamp interface field more split long none Empty is = let a = split in let b = is in cc
