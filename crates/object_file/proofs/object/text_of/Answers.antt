-- The letters, the lists and the number behind them are the text.
use Rattle.std.proofs.Common.{◌++◌, ◌∙◌, ap, append_assoc}
use Rattle.std.specs.Prelude.{codes}
use Rattle.object_file.specs.Number.{dword}
use Rattle.object_file.specs.Inside.Lists.{lists_of, lists_text}
use Rattle.object_file.proofs.ObjectLemmas.{storable_lists, text_of_lists}
use Rattle.object_file.proofs.object.text_of.Goals as goal

pub write_lists-requires : goal.write_lists-requires
write_lists-requires c = storable_lists c.args.code.now c.requires

pub returns : goal.returns
returns c =
    let lists = lists_of c.args.code.now in
    record {
      storable = c.requires;
      spelled = c.in_ok-write.ensures ∙ ap (λ l. l ++ dword 0) (c.in_ok-write_lists.ensures ∙ ap (λ l. l ++ lists_text lists) c.in_ok-bytes.ensures.items)
          ∙ append_assoc (codes "CAPLOBJ1") (lists_text lists) (dword 0) ∙ text_of_lists c.args.code.now;
    }
