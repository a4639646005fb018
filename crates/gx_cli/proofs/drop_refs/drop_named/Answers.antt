use Rattle.std.proofs.Common.{◌++◌, Err, map, subst}
use Rattle.gx_repo.specs.Dropping.{dropped}
use Rattle.gx_cli.specs.Dropping.{IsDropped, shown_left}
use Rattle.gx_text.specs.Lent.{lent_texts}
use Rattle.gx_cli.proofs.DroppedStores.{from_source, lines_dropped, lines_unread, without_lines}
use Rattle.gx_cli.proofs.drop_refs.drop_named.Goals as goal

pub returns-in-Err-clause-dropped : goal.returns-in-Err-clause-dropped
returns-in-Err-clause-dropped g c =
    let name = g.N.Namer.name_of c.args.repo.0 in
    let old = c.args.repo.1 in
    let words = lent_texts c.args.words.now in
    let coming = g.R.Source.coming c.args.source in
    from_source name old words (Err c.in-Err.fault) c.args.stdin coming c.if-stdin.true (lines_unread g.row.A.Denot name old words coming c.in-Err.fault c.in-Err.ensures)

pub returns-in-Ok-clause-dropped : goal.returns-in-Ok-clause-dropped
returns-in-Ok-clause-dropped g c =
    let name = g.N.Namer.name_of c.args.repo.0 in
    let old = c.args.repo.1 in
    let words = lent_texts c.args.words.now in
    let coming = g.R.Source.coming c.args.source in
    let answer = shown_left c.drop_lines.result in
    let gone = subst (λ lines. IsDropped name old (dropped (words ++ map (λ line. line.items) lines) old.refs) answer) c.as_slice.ensures.value c.drop_lines.ensures.dropped in
    from_source name old words answer c.args.stdin coming c.if-stdin.true (lines_dropped name old words answer coming c.in-Ok.lines c.in-Ok.ensures gone)

pub returns-else-stdin-clause-dropped : goal.returns-else-stdin-clause-dropped
returns-else-stdin-clause-dropped g c =
    without_lines (g.N.Namer.name_of c.args.repo.0) c.args.repo.1 (lent_texts c.args.words.now) (shown_left c.drop_lines-else-stdin.result) c.args.stdin (g.R.Source.coming c.args.source) c.if-stdin.false c.drop_lines-else-stdin.ensures.dropped
