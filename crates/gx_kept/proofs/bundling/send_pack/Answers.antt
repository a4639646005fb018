use Rattle.std.proofs.Common.{rules}
use Rattle.gx_kept.proofs.SentBundles.{pack_begun}
use Rattle.gx_kept.proofs.bundling.send_pack.Goals as goal

pub returns-clause-text : goal.returns-clause-text
returns-clause-text g c =
    let name = g.O.Objects.name_of c.args.objects.now in
    let told = g.O.Objects.told c.args.objects.now in
    let was = g.W.Sink.taken c.args.sink.now in
    let after = c.write_pack-written.new.pack in
    let result = c.write_pack-written.result in
    let sent = pack_begun name told c.args.listing.now c.args.marks.now c.new-pack.result after was result c.new-pack.ensures.taken c.write_pack-written.ensures.pack in
    let left = c.into_sink.ensures.taken in
    let first = c.new-pack.ensures.name in
    let kept = c.write_pack-written.ensures.pack.0 in
    let last = c.into_sink.ensures.name in
    search (rules, sent, left, first, kept, last)
