use Rattle.std.proofs.Common.{subst}
use Rattle.gx_c.specs.Called as called
use Rattle.gx_c.proofs.Calling.{goes_over}
use Rattle.gx_c.proofs.reading.ginlarch_range.Goals as goal

pub returns : goal.returns
returns c =
    let goes = subst (λ was. called.Range c.args.closed was c.export_range.new.self) c.deref_mut.ensures.value c.export_range.ensures in
    goes_over (called.Range c.args.closed) c.args.store.now c.put_back.new.store c.in-Some.ensures.1 c.put_back.ensures.held goes c.put_back.ensures.status c.put_back.ensures.open
