use Rattle.std.proofs.Common.{◌++◌, map, sym, ap, ◌∙◌}
use Rattle.std.proofs.lemmas.List.{take_all}
use Rattle.gx_model.specs.Objects.{entry_text, tree_text}
use Rattle.gx_tree.specs.Views.{Remembers, own_entry}
use Rattle.gx_tree.proofs.Homes.{all_at}
use Rattle.gx_tree.proofs.WrittenHomes.{text_more}
use Rattle.gx_tree.proofs.writing.encode_entries.Goals as goal

pub append_to-requires : goal.append_to-requires
append_to-requires g c = all_at (λ e. Remembers e.item) c.args.entries.now c.loop-entry.entry-index c.entry-item.result c.loop-entry-test.true c.entry-item.is c.requires

pub loop-entry-preserved : goal.loop-entry-preserved
loop-entry-preserved g c =
    c.in_ok-append_to.ensures ∙ ap (λ z. z ++ entry_text (own_entry c.entry-item.result)) c.loop-entry.invariant
    ∙ sym (text_more c.args.entries.now c.loop-entry.entry-index c.entry-item.result c.loop-entry-test.true c.entry-item.is)

pub returns : goal.returns
returns g c = c.loop-entry.invariant ∙ ap (λ z. tree_text (map own_entry z)) (take_all c.loop-entry.entry-index c.args.entries.now c.loop-entry-test.false)
