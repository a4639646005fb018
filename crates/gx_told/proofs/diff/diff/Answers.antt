use Rattle.gx_model.specs.Records.HistoryOf.{history_of}
use Rattle.gx_print.specs.Stored.{files_of_word}
use Rattle.gx_rev.specs.Objects.{files_at}
use Rattle.gx_text.specs.Lent.{lent_texts}
use Rattle.gx_told.specs.Differing.{asked_between}
use Rattle.gx_told.proofs.ToldDifferences.{both_given, first_refused, second_refused}
use Rattle.gx_told.proofs.diff.diff.Goals as goal

pub returns-in-Ok-tree_of_word : goal.returns-in-Ok-tree_of_word
returns-in-Ok-tree_of_word g c =
    let name = g.O.Objects.name_of c.args.objects.now in
    both_given (λ r. files_of_word name (history_of r) c.args.old.now) (λ r. files_of_word name (history_of r) c.args.new.now) (λ r. asked_between name (lent_texts c.args.asked.now)) c.args.options (g.O.Objects.told c.args.objects.now)
    (g.W.Sink.taken c.args.sink.now) (λ r. files_at r c.in-Ok.old) (λ r. files_at r c.in-Ok-tree_of_word.new) (g.W.Sink.taken c.diff_trees.new.sink) c.diff_trees.result c.in-Ok.ensures.files c.in-Ok-tree_of_word.ensures.files c.diff_trees.ensures

pub returns-in-Ok : goal.returns-in-Ok
returns-in-Ok g c =
    let name = g.O.Objects.name_of c.args.objects.now in
    rw c.refused.ensures
    (second_refused (λ r. files_of_word name (history_of r) c.args.old.now) (λ r. files_of_word name (history_of r) c.args.new.now) (λ r. asked_between name (lent_texts c.args.asked.now)) c.args.options (g.O.Objects.told c.args.objects.now)
    (g.W.Sink.taken c.args.sink.now) (λ r. files_at r c.in-Ok.old) c.in-Err-tree_of_word.fault c.in-Ok.ensures.files c.in-Err-tree_of_word.ensures.files)

pub returns : goal.returns
returns g c =
    let name = g.O.Objects.name_of c.args.objects.now in
    rw c.refused-in-Err.ensures
    (first_refused (λ r. files_of_word name (history_of r) c.args.old.now) (λ r. files_of_word name (history_of r) c.args.new.now) (λ r. asked_between name (lent_texts c.args.asked.now)) c.args.options (g.O.Objects.told c.args.objects.now)
    (g.W.Sink.taken c.args.sink.now) c.in-Err.fault c.in-Err.ensures.files)
