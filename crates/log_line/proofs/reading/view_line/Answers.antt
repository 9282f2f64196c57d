-- Each way that a line may have no reading.
use Rattle.std.proofs.Common.{◌≡◌, ◌∷◌, sym, ap, subst, ◌∙◌}
use Rattle.log_line.specs.Reading.{log_fields, without_return}
use Rattle.log_line.specs.Inside.FrameField.{IsFrameField}
use Rattle.log_line.proofs.ReadingLemmas.{no_stamp, no_frame_field, no_direction, no_direction_behind_long}
use Rattle.log_line.proofs.reading.view_line.Goals as goal
use Rattle.log_line.proofs.reading.view_line.Goals.{in_default-2-via-in-LongCode+else-is_direction, in_default-2-via-in-Read+else-is_direction-2}

pub returns-in_err-stamp : goal.returns-in_err-stamp
returns-in_err-stamp c =
    let fields = log_fields (without_return c.args.line.now) in
    let split : fields ≡ c.in-Some.stamp.now ∷ log_fields c.in-Some.rest.now = ap log_fields (sym c.without_return.ensures) ∙ c.in-Some.ensures in
    rw c.from_residual-in_err-stamp.ensures
    (no_stamp fields c.in-Some.stamp.now (log_fields c.in-Some.rest.now) split
    (λ seconds micros is. c.in_err-stamp.ensures (record { seconds = seconds; micros = micros }) is))

pub returns-in_err-frame_field : goal.returns-in_err-frame_field
returns-in_err-frame_field c =
    let fields = log_fields (without_return c.args.line.now) in
    let split : fields ≡ c.in-Some.stamp.now ∷ c.in_ok-interface.interface.now ∷ c.in_ok-field.field.now ∷ log_fields c.in_ok-field.rest.now =
    ap log_fields (sym c.without_return.ensures) ∙ c.in-Some.ensures ∙ ap (λ l. c.in-Some.stamp.now ∷ l) c.in_ok-interface.ensures
    ∙ ap (λ l. c.in-Some.stamp.now ∷ c.in_ok-interface.interface.now ∷ l) c.in_ok-field.ensures in
    rw c.from_residual-in_err-frame_field.ensures
    (no_frame_field fields c.in-Some.stamp.now c.in_ok-interface.interface.now c.in_ok-field.field.now (log_fields c.in_ok-field.rest.now) split c.in_err-frame_field.ensures)

pub returns-in_default-2 : goal.returns-in_default-2
returns-in_default-2 c =
    let fields = log_fields (without_return c.args.line.now) in
    let split : fields ≡ c.in-Some.stamp.now ∷ c.in_ok-interface.interface.now ∷ c.in_ok-field.field.now ∷ log_fields c.in_ok-field.rest.now =
    ap log_fields (sym c.without_return.ensures) ∙ c.in-Some.ensures ∙ ap (λ l. c.in-Some.stamp.now ∷ l) c.in_ok-interface.ensures
    ∙ ap (λ l. c.in-Some.stamp.now ∷ c.in_ok-interface.interface.now ∷ l) c.in_ok-field.ensures in
    elim c.in_default-2.branch [
      | in_default-2-via-in-LongCode+else-is_direction w ↦
          no_direction_behind_long fields c.in-Some.stamp.now c.in_ok-interface.interface.now c.in_ok-field.field.now (log_fields c.in_ok-field.rest.now) split
          (subst (IsFrameField c.in_ok-field.field.now) w.in-LongCode.is c.in_ok-frame_field.ensures)
          (λ direction. let yes = w.if-is_direction.ensures.1 direction in cc)
      | in_default-2-via-in-Read+else-is_direction-2 w ↦
          no_direction fields c.in-Some.stamp.now c.in_ok-interface.interface.now c.in_ok-field.field.now (log_fields c.in_ok-field.rest.now) split
          w.in-Read.frame (subst (IsFrameField c.in_ok-field.field.now) w.in-Read.is c.in_ok-frame_field.ensures)
          (λ direction. let yes = w.if-is_direction-2.ensures.1 direction in cc)
    ]
