use Rattle.gx_stream.specs.Input.{is_full, text_of}
use Rattle.gx_stream.proofs.Views.{Answers-found}
use Rattle.gx_stream.proofs.input.Input.take_next.Goals as goal

pub returns-clause-answers : goal.returns-clause-answers
returns-clause-answers g c =
    let i = c.find_next.new.self in
    let found = c.in-Ok.ensures.found in
    Answers-found (is_full i) _ i.room (g.R.Source.coming i.source) (text_of i) i.state c.take.new.state i.at i.at c.take.new.at c.in-Ok.found c.in-Ok.ensures.keeps found.0 found.1 c.take.ensures
