use Rattle.std.proofs.Common.{subst}
use Rattle.std.specs.Prelude.{IfSome}
use Rattle.std.proofs.lemmas.Result.{err_from_is_err_and}
use Rattle.gx_kept.specs.Collecting.{Rewrites}
use Rattle.gx_kept.specs.Faults.{IsOnTheWay}
use Rattle.gx_kept.specs.Sending.{SendsNamed}
use Rattle.gx_plain.specs.Plain.{told_by}
use Rattle.gx_plain.proofs.GrownTexts.{grown_so, not_opened}
use Rattle.gx_plain.proofs.growing.grow.Goals as goal

pub returns-in_err-plain-clause-text : goal.returns-in_err-plain-clause-text
returns-in_err-plain-clause-text g c =
    let p = err_from_is_err_and c.from_residual.result c.from_residual.ensures.1 in
    rw (p.1, p.2) (not_opened (g.N.Namer.name_of c.args.namer) (g.W.Sink.taken c.args.sink.now) (g.S.ReadAt.text c.args.source) c.in_err-plain.field-0.0 c.in_err-plain.ensures.fault)

pub returns-clause-text : goal.returns-clause-text
returns-clause-text g c =
    let was = g.W.Sink.taken c.args.sink.now in
    let now = g.W.Sink.taken c.rewrite.new.sink in
    let result = c.rewrite.result in
    let is = c.in_ok-plain.ensures.plain in
    grown_so (g.N.Namer.name_of c.args.namer) was now (g.S.ReadAt.text c.args.source) result c.in_ok-plain.ensures.read
    (subst (λ p. IfSome (told_by (g.N.Namer.name_of p.0) p.1) (λ r. Rewrites (g.N.Namer.name_of p.0) r was now result)) is c.rewrite.ensures.text)
    (subst (λ p. IsOnTheWay (told_by (g.N.Namer.name_of p.0) p.1) result) is c.rewrite.ensures.fault)

pub returns-clause-named : goal.returns-clause-named
returns-clause-named g c =
    subst (λ p. SendsNamed (g.N.Namer.name_of p.0) (g.W.Sink.taken c.args.sink.now) (g.W.Sink.taken c.rewrite.new.sink) c.rewrite.result) c.in_ok-plain.ensures.plain c.rewrite.ensures.named
