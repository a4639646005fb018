use Rattle.std.proofs.lemmas.Result.{err_from_is_err_and}
use Rattle.gx_kept.proofs.SentBundles.{bundle_named, bundle_sent, head_stops}
use Rattle.gx_kept.proofs.bundling.send_bundle.Goals as goal

pub returns-in_err-send_head-clause-text : goal.returns-in_err-send_head-clause-text
returns-in_err-send_head-clause-text g c =
    let p = err_from_is_err_and c.from_residual.result c.from_residual.ensures.1 in
    rw (p.1, p.2) (head_stops c.args.bundled.now c.args.marks.now (g.W.Sink.taken c.args.sink.now) (g.W.Sink.taken c.send_head.new.sink) (g.O.Objects.told c.args.objects.now) _ c.in_err-send_head.ensures.text)

pub returns-clause-text : goal.returns-clause-text
returns-clause-text g c =
    bundle_sent c.args.bundled.now c.args.marks.now (g.W.Sink.taken c.args.sink.now) (g.W.Sink.taken c.send_head.new.sink) c.in_ok-send_head.ensures.text (g.O.Objects.name_of c.args.objects.now) (g.O.Objects.told c.args.objects.now) c.args.listing.now
    (g.W.Sink.taken c.send_pack.new.sink) c.send_pack.result c.send_pack.ensures.text

pub returns-clause-named : goal.returns-clause-named
returns-clause-named g c =
    bundle_named c.args.bundled.now c.args.marks.now (g.W.Sink.taken c.args.sink.now) (g.W.Sink.taken c.send_head.new.sink) c.in_ok-send_head.ensures.text (g.O.Objects.name_of c.args.objects.now) (g.O.Objects.told c.args.objects.now) c.args.listing.now
    (g.W.Sink.taken c.send_pack.new.sink) c.requires.spelled c.send_pack.result c.send_pack.ensures.text
