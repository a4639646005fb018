use Rattle.std.proofs.Common.{subst, Err}
use Rattle.gx_model.specs.Texts.Sinks.{Took}
use Rattle.gx_adapt.specs.Adapting.{Puts}
use Rattle.gx_adapt.proofs.SentTexts.{announcement, filled, block_first, block_second, block_whole}
use Rattle.gx_adapt.proofs.adapting.send_kept_block.Goals as goal

pub returns-in-Err : goal.returns-in-Err
returns-in-Err g c =
    let x = c.args.bytes.now in
    let taken = g.W.Sink.taken in
    let text = filled c.deref.result.now c.put_announcement.new.out.items c.clear.new.self.items (announcement x) c.deref.ensures.value c.in_ok-put_announcement.ensures c.clear.ensures.items in
    record { sends = block_first (taken c.args.sink.now) (taken c.send_all.new.sink) x c.in-Err.fault (subst (λ t. Puts {A = Unit {0}} t (taken c.args.sink.now) (taken c.send_all.new.sink) (Err c.in-Err.fault)) text c.in-Err.ensures) }

pub returns-in-Err-send_all : goal.returns-in-Err-send_all
returns-in-Err-send_all g c =
    let x = c.args.bytes.now in
    let taken = g.W.Sink.taken in
    let text = filled c.deref.result.now c.put_announcement.new.out.items c.clear.new.self.items (announcement x) c.deref.ensures.value c.in_ok-put_announcement.ensures c.clear.ensures.items in
    record { sends = block_second (taken c.args.sink.now) (taken c.send_all.new.sink) (taken c.send_all-2.new.sink) x c.in-Err-send_all.fault (subst (Took (taken c.args.sink.now) (taken c.send_all.new.sink)) text c.in_default.ensures) c.in-Err-send_all.ensures }

pub returns : goal.returns
returns g c =
    let x = c.args.bytes.now in
    let taken = g.W.Sink.taken in
    let text = filled c.deref.result.now c.put_announcement.new.out.items c.clear.new.self.items (announcement x) c.deref.ensures.value c.in_ok-put_announcement.ensures c.clear.ensures.items in
    record { sends = block_whole (taken c.args.sink.now) (taken c.send_all.new.sink) (taken c.send_all-2.new.sink) (taken c.send_all-3.new.sink) x c.send_all-3.result (subst (Took (taken c.args.sink.now) (taken c.send_all.new.sink)) text c.in_default.ensures) c.in_default-send_all.ensures c.send_all-3.ensures }
