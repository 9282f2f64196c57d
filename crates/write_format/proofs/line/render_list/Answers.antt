-- One more piece, and the end.
use Rattle.std.proofs.Common.{rules, ◌≡◌, ◌≤◌, [], ◌∷◌, ◌++◌, Some, length, take, drop, refl, sym, ap, subst, ◌∙◌, arith}
use Rattle.std.proofs.lemmas.List.{length-drop}
use Rattle.write_format.specs.Line.{element_of, line_of, rendered}
use Rattle.write_format.specs.Reading.{piece_at}
use Rattle.write_format.specs.Inside.Shown.{plain_at}
use Rattle.write_format.specs.declared.piece.Piece.{Piece}
use Rattle.write_format.specs.declared.piece.Piece.TheVariants.{Argument, Byte}
use Rattle.write_format.proofs.FrontLemmas.{piece_shorter}
use Rattle.write_format.proofs.RangeLemmas.{rest_whole}
use Rattle.write_format.proofs.ShowLemmas.{IsToShow, code_argument, show_begins, show_byte, show_code, show_ends, show_on, show_same}
use Rattle.write_format.proofs.line.render_list.Goals as goal
use Rattle.write_format.proofs.line.render_list.Goals.{in-Byte+in_ok-push-in-Byte, in-Argument+in_ok-append_argument-in-Argument}

pub loop-piece-init : goal.loop-piece-init
loop-piece-init c =
    let format = c.args.f.now in
    let numbers = c.args.numbers.now in
    let cells = c.args.cells.now in
    let shown = rendered format numbers cells in
    let text = c.text.result.now in
    let first = show_begins format numbers cells c.text.ensures.read c.requires.numbers c.requires.arrays in
    let same = show_same shown cells [] [] format.text format.arguments c.args-args.result.now numbers numbers first refl c.args-args.ensures refl in
    let begun : IsToShow shown cells [] text c.args-args.result.now numbers = subst (λ l. IsToShow shown cells [] l c.args-args.result.now numbers) (sym c.text.ensures.text) same in
    show_on shown cells [] c.append_plain.new.line.items text c.in_ok-rest.rest.now c.args-args.result.now numbers begun
    (c.in_ok-rest.ensures.line ∙ ap (λ l. l ++ take (plain_at text) text) c.in_ok-line.ensures.items) c.in_ok-rest.ensures.rest

pub bounds-args-0 : goal.bounds-args-0
bounds-args-0 c =
    let rest = c.loop-piece.rest.now in
    let behind = c.in-Some.behind.now in
    let found : piece_at rest ≡ Some (Argument c.in-Argument.code, behind) = sym c.in-Some.ensures ∙ ap (λ (p : Piece). Some (p, behind)) c.in-Argument.is in
    code_argument (rendered c.args.f.now c.args.numbers.now c.args.cells.now) c.args.cells.now c.loop-piece.line.items rest c.loop-piece.args.now c.loop-piece.numbers.now c.in-Argument.code behind c.loop-piece.invariant found

pub append_argument-requires-clause-numbers : goal.append_argument-requires-clause-numbers
append_argument-requires-clause-numbers c =
    let rest = c.loop-piece.rest.now in
    let behind = c.in-Some.behind.now in
    let found : piece_at rest ≡ Some (Argument c.in-Argument.code, behind) = sym c.in-Some.ensures ∙ ap (λ (p : Piece). Some (p, behind)) c.in-Argument.is in
    (show_code (rendered c.args.f.now c.args.numbers.now c.args.cells.now) c.args.cells.now c.loop-piece.line.items rest c.loop-piece.args.now c.loop-piece.numbers.now c.in-Argument.code behind c.index-args-0.result c.loop-piece.invariant found c.index-args-0.is).few

pub append_argument-requires-clause-arrays : goal.append_argument-requires-clause-arrays
append_argument-requires-clause-arrays c =
    let rest = c.loop-piece.rest.now in
    let behind = c.in-Some.behind.now in
    let found : piece_at rest ≡ Some (Argument c.in-Argument.code, behind) = sym c.in-Some.ensures ∙ ap (λ (p : Piece). Some (p, behind)) c.in-Argument.is in
    (show_code (rendered c.args.f.now c.args.numbers.now c.args.cells.now) c.args.cells.now c.loop-piece.line.items rest c.loop-piece.args.now c.loop-piece.numbers.now c.in-Argument.code behind c.index-args-0.result c.loop-piece.invariant found c.index-args-0.is).arrays

pub behind_number-numbers-requires : goal.behind_number-numbers-requires
behind_number-numbers-requires c =
    let rest = c.loop-piece.rest.now in
    let behind = c.in-Some.behind.now in
    let found : piece_at rest ≡ Some (Argument c.in-Argument.code, behind) = sym c.in-Some.ensures ∙ ap (λ (p : Piece). Some (p, behind)) c.in-Argument.is in
    (show_code (rendered c.args.f.now c.args.numbers.now c.args.cells.now) c.args.cells.now c.loop-piece.line.items rest c.loop-piece.args.now c.loop-piece.numbers.now c.in-Argument.code behind c.index-args-0.result c.loop-piece.invariant found c.index-args-0.is).taken

pub slice_bounds-args-count : goal.slice_bounds-args-count
slice_bounds-args-count c =
    let rest = c.loop-piece.rest.now in
    let behind = c.in-Some.behind.now in
    let found : piece_at rest ≡ Some (Argument c.in-Argument.code, behind) = sym c.in-Some.ensures ∙ ap (λ (p : Piece). Some (p, behind)) c.in-Argument.is in
    let some = code_argument (rendered c.args.f.now c.args.numbers.now c.args.cells.now) c.args.cells.now c.loop-piece.line.items rest c.loop-piece.args.now c.loop-piece.numbers.now c.in-Argument.code behind c.loop-piece.invariant found in
    omega (arith, some)

pub slice_bounds-args-start : goal.slice_bounds-args-start
slice_bounds-args-start c =
    let rest = c.loop-piece.rest.now in
    let behind = c.in-Some.behind.now in
    let found : piece_at rest ≡ Some (Argument c.in-Argument.code, behind) = sym c.in-Some.ensures ∙ ap (λ (p : Piece). Some (p, behind)) c.in-Argument.is in
    let some = code_argument (rendered c.args.f.now c.args.numbers.now c.args.cells.now) c.args.cells.now c.loop-piece.line.items rest c.loop-piece.args.now c.loop-piece.numbers.now c.in-Argument.code behind c.loop-piece.invariant found in
    let most : 1 ≤ length c.loop-piece.args.now = omega (arith, some) in
    search (rules, most)

pub loop-piece-smaller : goal.loop-piece-smaller
loop-piece-smaller c =
    let behind = c.in-Some.behind.now in
    let shorter = piece_shorter c.loop-piece.rest.now c.in-Some.piece behind (sym c.in-Some.ensures) in
    let left = ap length c.in_ok-rest-2.ensures.rest ∙ length-drop (plain_at behind) behind in
    omega (arith, shorter, left)

pub loop-piece-preserved : goal.loop-piece-preserved
loop-piece-preserved c =
    let shown = rendered c.args.f.now c.args.numbers.now c.args.cells.now in
    let cells = c.args.cells.now in
    let line = c.loop-piece.line.items in
    let rest = c.loop-piece.rest.now in
    let given = c.loop-piece.args.now in
    let numbers = c.loop-piece.numbers.now in
    let behind = c.in-Some.behind.now in
    let next : IsToShow shown cells c.match-piece.line.items behind c.match-piece.args.now c.match-piece.numbers.now =
    elim c.match-piece.branch [
      | in-Byte+in_ok-push-in-Byte w ↦
          let found : piece_at rest ≡ Some (Byte w.in-Byte.byte, behind) = sym c.in-Some.ensures ∙ ap (λ (p : Piece). Some (p, behind)) w.in-Byte.is in
          show_same shown cells (line ++ w.in-Byte.byte ∷ []) c.match-piece.line.items behind given c.match-piece.args.now numbers c.match-piece.numbers.now
          (show_byte shown cells line rest given numbers w.in-Byte.byte behind c.loop-piece.invariant found)
          (ap (λ l. l.items) w.line-is ∙ w.in_ok-push-in-Byte.ensures.items) (ap (λ l. l.now) w.args-is) (ap (λ l. l.now) w.numbers-is)
      | in-Argument+in_ok-append_argument-in-Argument w ↦
          let code = w.in-Argument.code in
          let found : piece_at rest ≡ Some (Argument code, behind) = sym c.in-Some.ensures ∙ ap (λ (p : Piece). Some (p, behind)) w.in-Argument.is in
          let first = w.index-args-0.result in
          let shows = show_code shown cells line rest given numbers code behind first c.loop-piece.invariant found w.index-args-0.is in
          show_same shown cells (line ++ line_of (element_of code.field code.conversion first) numbers cells) c.match-piece.line.items behind (drop 1 given) c.match-piece.args.now (drop _ numbers) c.match-piece.numbers.now
          shows.next
          (ap (λ l. l.items) w.line-is ∙ w.in_ok-append_argument-in-Argument.ensures) (ap (λ l. l.now) w.args-is ∙ rest_whole 1 given) (ap (λ l. l.now) w.numbers-is ∙ w.behind_number-numbers.ensures)
    ] in
    show_on shown cells c.match-piece.line.items c.append_plain-in-Some.new.line.items behind c.in_ok-rest-2.rest.now c.match-piece.args.now c.match-piece.numbers.now
    next c.in_ok-rest-2.ensures.line c.in_ok-rest-2.ensures.rest

pub returns : goal.returns
returns c =
    sym (show_ends (rendered c.args.f.now c.args.numbers.now c.args.cells.now) c.args.cells.now c.loop-piece.line.items c.loop-piece.rest.now c.loop-piece.args.now c.loop-piece.numbers.now
    c.loop-piece.invariant (sym c.in_default.ensures))
