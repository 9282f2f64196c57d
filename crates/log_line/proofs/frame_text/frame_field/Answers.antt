-- Each kind of a field, and none.
use Rattle.std.proofs.Common.{subst, rules}
use Rattle.log_line.specs.Inside.FrameField.{IsFrameWith}
use Rattle.log_line.proofs.FrameFieldLemmas.{no_parts, is_unread, no_ident, no_frame, is_long, one_front}
use Rattle.log_line.proofs.frame_text.frame_field.Goals as goal

pub returns-in_err-parts : goal.returns-in_err-parts
returns-in_err-parts c = rw c.from_residual.ensures (no_parts c.args.field.now c.in_err-parts.ensures)

pub returns-then-is_unread : goal.returns-then-is_unread
returns-then-is_unread c =
    let parts = c.in_ok-parts.parts in
    is_unread c.args.field.now parts.count parts.number parts.behind.now c.in_ok-parts.ensures (search (rules, c.is_unread.ensures, c.if-is_unread.true))

pub returns-in_err-ident : goal.returns-in_err-ident
returns-in_err-ident c =
    let parts = c.in_ok-parts.parts in
    rw c.from_residual-in_err-ident.ensures
    (no_ident c.args.field.now parts.count parts.number parts.behind.now c.in_ok-parts.ensures
    (λ unread. let yes = c.is_unread.ensures.1 unread in let no = c.if-is_unread.false in cc) c.in_err-ident.ensures)

pub returns-in_err-front : goal.returns-in_err-front
returns-in_err-front c =
    let parts = c.in_ok-parts.parts in
    rw c.from_residual-in_err-front.ensures
    (no_frame c.args.field.now parts.count parts.number parts.behind.now c.in_ok-ident.ident c.in_ok-parts.ensures
    (λ unread. let yes = c.is_unread.ensures.1 unread in let no = c.if-is_unread.false in cc) c.in_ok-ident.ensures
    c.in_default.ensures (λ front frame code with. c.in_err-front.ensures front code))

pub returns-in-Some-frame_with : goal.returns-in-Some-frame_with
returns-in-Some-frame_with c =
    let parts = c.in_ok-parts.parts in
    is_long c.args.field.now parts.count parts.number parts.behind.now c.in_ok-front.front.now c.in_ok-ident.ident c.in-Some-frame_with.field-0
    c.in_ok-parts.ensures c.in_ok-ident.ensures c.in_ok-front.ensures c.in-Some-frame_with.ensures

pub returns-in-None : goal.returns-in-None
returns-in-None c =
    let parts = c.in_ok-parts.parts in
    no_frame c.args.field.now parts.count parts.number parts.behind.now c.in_ok-ident.ident c.in_ok-parts.ensures
    (λ unread. let yes = c.is_unread.ensures.1 unread in let no = c.if-is_unread.false in cc) c.in_ok-ident.ensures
    c.in_default.ensures
    (λ front frame code with.
    let same = one_front parts.behind.now front c.in_ok-front.front.now code c.in_ok-front.ensures in
    c.in-None.ensures frame (subst (λ f. IsFrameWith c.in_ok-ident.ident f frame) same with))
