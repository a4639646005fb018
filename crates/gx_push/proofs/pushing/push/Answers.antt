use Rattle.gx_push.specs.Calls.{answer_of, texts}
use Rattle.gx_push.specs.Pushes.{push_features, pushed}
use Rattle.gx_push.specs.Wants.{shown_wants, wants_in}
use Rattle.gx_push.proofs.SettledPushes.{nothing_retold, unread}
use Rattle.gx_push.proofs.pushing.push.Goals as goal

pub returns-in_default-clause-pushed : goal.returns-in_default-clause-pushed
returns-in_default-clause-pushed g c =
    unread (g.N.Namer.name_of c.args.repo.0) (push_features c.args.done) c.args.repo.1 (wants_in c.args.repo.1.refs (texts c.args.lines.now)) (g.R.Source.coming c.args.source) (g.W.Sink.taken c.args.sink.now)

pub returns-clause-retold : goal.returns-clause-retold
returns-clause-retold g c = λ _.
    let new = c.import_explained.new.repo.1 in
    nothing_retold (g.N.Namer.name_of c.args.repo.0) c.args.done c.args.repo.1 new (g.W.Sink.taken c.args.sink.now) (g.W.Sink.taken c.import_explained.new.sink) c.import_explained.new.told c.in-Ok-import_explained.report
    (pushed c.in-Ok.before new (shown_wants c.in_ok-wants.wants.list.items)) (answer_of c.left_by.result) c.left_by.ensures.settled c.in-Ok-import_explained.ensures.explained
