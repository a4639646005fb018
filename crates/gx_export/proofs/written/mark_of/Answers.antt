use Rattle.std.proofs.Common.{◌<◌, ◌∙◌, length, arith}
use Rattle.gx_model.specs.Laws.RepositoryLaws.{values_of}
use Rattle.gx_model.proofs.Records.Standing.{at_within}
use Rattle.gx_rev.specs.Objects.{value_at}
use Rattle.gx_export.proofs.Numbering.{any_default}
use Rattle.gx_export.proofs.written.mark_of.Goals as goal

pub index-requires : goal.index-requires
index-requires g c =
    let r = c.args.repo.now.1 in
    let within = at_within (values_of r) c.place_of-place.result (value_at r c.args.name.now) c.place_of-place.ensures in
    omega (arith, within, c.requires.long, c.args.written.now.marks.ok)

pub returns : goal.returns
returns g c = λ ws h.
    let r = c.args.repo.now.1 in
    let marks = c.args.written.now.marks.items in
    let place = c.place_of-place.result in
    let at = at_within (values_of r) place (value_at r c.args.name.now) c.place_of-place.ensures in
    let within : place < length marks = omega (arith, at, c.requires.long) in
    c.index.ensures ∙ any_default marks place c.index.result.now 0 within ∙ h.numbers place (value_at r c.args.name.now) c.place_of-place.ensures
