-- Parentheses, and an assignment.
use Rattle.std.proofs.Common.{◌≡◌, ◌++◌, ◌∙◌, IfOk, OnOk, length, ap, rules, subst, sym}
use Rattle.capl_tree.specs.declared.expr.Expr.{the_lemmas}
use Rattle.typed_source.specs.Statement.{alone_of, formats_of_alone}
use Rattle.check_sorts.specs.Scope.{scope_in}
use Rattle.type_alone.specs.Tables.{order_of}
use Rattle.type_alone.proofs.AloneLemmas.{assignment_alone, paren_alone, paren_formats}
use Rattle.type_alone.proofs.RoomLemmas.{room_same}
use Rattle.type_alone.proofs.alone.+make_alone.Goals as goal

pub returns-in-Paren-clause-tree : goal.returns-in-Paren-clause-tree
returns-in-Paren-clause-tree t c =
    let s = scope_in c.args.scope in
    let order = order_of c.args.tables.now in
    let before = length c.args.formats.now.items in
    subst (λ one. IfOk c.make_alone.result (λ tree. tree ≡ one))
    (ap (alone_of s order before) c.get.ensures ∙ paren_alone s order before c.args.e.now _ _ c.in-Paren.is)
    c.make_alone.ensures.tree

pub returns-in-Paren-clause-formats : goal.returns-in-Paren-clause-formats
returns-in-Paren-clause-formats t c =
    let s = scope_in c.args.scope in
    subst (λ fs. OnOk c.make_alone.result (c.make_alone.new.formats.items ≡ c.args.formats.now.items ++ fs))
    (ap (formats_of_alone s) c.get.ensures ∙ paren_formats s c.args.e.now _ _ c.in-Paren.is)
    c.make_alone.ensures.formats

pub returns-in-None-clause-tree : goal.returns-in-None-clause-tree
returns-in-None-clause-tree t c =
    let s = scope_in c.args.scope in
    let order = order_of c.args.tables.now in
    let before = length c.args.formats.now.items in
    subst (λ one. IfOk c.assigned.result (λ tree. tree ≡ one))
    (assignment_alone s order before c.args.e.now _ _ _ _ _ _ c.in-Assign.is c.in-None.is c.get-in-None.ensures c.get-in-None-2.ensures)
    c.assigned.ensures

pub make_alone-requires : goal.make_alone-requires
make_alone-requires t c =
    let s = scope_in c.args.scope in (
      search (rules, the_lemmas, c.in-Paren.is, c.get.ensures),
      (
        c.requires.tables,
        room_same c.args.formats.now.items (formats_of_alone s c.args.e.now) (formats_of_alone s c.get.result.now)
            (sym (ap (formats_of_alone s) c.get.ensures ∙ paren_formats s c.args.e.now _ _ c.in-Paren.is)) c.requires.room,
      ),
    )
