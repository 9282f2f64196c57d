-- What is written with a format, and without one.
use Rattle.std.proofs.Common.{◌≡◌, ◌∙◌, ◌++◌, IfOk, OnOk, ap, length, length-append, subst, sym, arith}
use Rattle.std.proofs.lemmas.List.{append-nil}
use Rattle.typed_tree.specs.declared.statement.TStmt.TheVariants.{Write}
use Rattle.check_sorts.specs.Scope.{scope_in}
use Rattle.typed_source.specs.Statement.{formats_written, pieces_written, text_written}
use Rattle.type_alone.specs.Tables.{order_of}
use Rattle.type_alone.proofs.FormatLemmas.{is_written, nothing_written}
use Rattle.type_alone.proofs.write.make_write.Goals as goal

pub shown_format-requires : goal.shown_format-requires
shown_format-requires c = (
  scope_in c.args.scope,
  c.args.arguments.now,
  record {
    kinds_are = c.as_slice.ensures.value ∙ c.in_ok-made.ensures.kinds;
    sorts_are = c.as_slice-2.ensures.value ∙ c.in_ok-made.ensures.sorts;
  },
)

pub returns-in-None-clause-tree : goal.returns-in-None-clause-tree
returns-in-None-clause-tree c =
    let s = scope_in c.args.scope in
    let found = c.in_ok-read.ensures s c.args.arguments.now (record {
      kinds_are = c.as_slice.ensures.value ∙ c.in_ok-made.ensures.kinds;
      sorts_are = c.as_slice-2.ensures.value ∙ c.in_ok-made.ensures.sorts;
    }) in
    sym ((nothing_written s c.args.format.now c.args.arguments.now (sym c.in-None.is ∙ found)).empty
    (order_of c.args.tables.now) (length c.args.formats.now.items))

pub returns-in-None-clause-formats : goal.returns-in-None-clause-formats
returns-in-None-clause-formats c =
    let s = scope_in c.args.scope in
    let old = c.args.formats.now.items in
    let found = c.in_ok-read.ensures s c.args.arguments.now (record {
      kinds_are = c.as_slice.ensures.value ∙ c.in_ok-made.ensures.kinds;
      sorts_are = c.as_slice-2.ensures.value ∙ c.in_ok-made.ensures.sorts;
    }) in
    sym (ap (λ fs. old ++ fs) (nothing_written s c.args.format.now c.args.arguments.now (sym c.in-None.is ∙ found)).none
    ∙ append-nil old)

pub push_write-requires : goal.push_write-requires
push_write-requires c =
    let s = scope_in c.args.scope in
    let format = c.args.format.now in
    let all = c.args.arguments.now in
    omega (
      arith,
      c.requires.room,
      length-append c.args.formats.now.items (formats_written s (text_written format) (pieces_written s format all) all),
    )

pub returns-in-Some-clause-tree : goal.returns-in-Some-clause-tree
returns-in-Some-clause-tree c =
    let s = scope_in c.args.scope in
    let number = length c.args.formats.now.items in
    let found = c.in_ok-read.ensures s c.args.arguments.now (record {
      kinds_are = c.as_slice.ensures.value ∙ c.in_ok-made.ensures.kinds;
      sorts_are = c.as_slice-2.ensures.value ∙ c.in_ok-made.ensures.sorts;
    }) in
    subst (λ one. IfOk c.push_write.result (λ tree. tree ≡ one))
    (ap (Write number) (c.numbers_in.ensures ∙ c.in_ok-made.ensures.numbers)
    ∙ sym ((is_written s c.args.format.now c.args.arguments.now _ (sym c.in-Some.is ∙ found)).tree (order_of c.args.tables.now) number))
    c.push_write.ensures.tree

pub returns-in-Some-clause-formats : goal.returns-in-Some-clause-formats
returns-in-Some-clause-formats c =
    let s = scope_in c.args.scope in
    let old = c.args.formats.now.items in
    let found = c.in_ok-read.ensures s c.args.arguments.now (record {
      kinds_are = c.as_slice.ensures.value ∙ c.in_ok-made.ensures.kinds;
      sorts_are = c.as_slice-2.ensures.value ∙ c.in_ok-made.ensures.sorts;
    }) in
    subst (λ fs. OnOk c.push_write.result (c.push_write.new.formats.items ≡ old ++ fs))
    (sym (is_written s c.args.format.now c.args.arguments.now _ (sym c.in-Some.is ∙ found)).one)
    c.push_write.ensures.formats
