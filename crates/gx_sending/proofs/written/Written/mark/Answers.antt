use Rattle.std.proofs.Common.{refl}
use Rattle.gx_sending.proofs.Marks.{next_written}
use Rattle.gx_sending.proofs.written.Written.mark.Goals as goal

pub returns-clause-value : goal.returns-clause-value
returns-clause-value g c = λ name r ws namer sound held h more.
    next_written name namer r sound ws c.args.name.now held c.args.self.now (record { output = c.args.self.now.output; count = c.next_mark-self.result; marks = c.insert.new.self }) h more refl (c.next_mark-self.ensures r ws h) c.in_ok-insert.ensures.updates.0
