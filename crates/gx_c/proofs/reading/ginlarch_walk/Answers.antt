use Rattle.std.proofs.Common.{subst}
use Rattle.gx_c.specs.Called as called
use Rattle.gx_c.proofs.Calling.{goes_over}
use Rattle.gx_c.proofs.reading.ginlarch_walk.Goals as goal

pub returns : goal.returns
returns c =
    let goes = subst (λ was. called.Walk was c.walk.new.self) c.deref_mut.ensures.value c.walk.ensures in
    goes_over called.Walk c.args.store.now c.put_back.new.store c.in-Some.ensures.1 c.put_back.ensures.held goes c.put_back.ensures.status c.put_back.ensures.open
