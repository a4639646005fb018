use Rattle.std.proofs.Common.{Ok}
use Rattle.std.proofs.lemmas.Result.{err_from_is_err_and}
use Rattle.gx_model.specs.Records.HistoryOf.{history_of}
use Rattle.gx_ranges.proofs.WordTips.{look_word}
use Rattle.gx_merge_base.specs.Asked.{bases_denoted}
use Rattle.gx_merge_base.specs.Bases.{bases}
use Rattle.gx_merge_base.specs.Words.{commits_denoted}
use Rattle.gx_merge_base.proofs.Answered.{given_bases, given_held, refused_then}
use Rattle.gx_merge_base.proofs.asked.bases_asked.Goals as goal

pub merge_bases-requires : goal.merge_bases-requires
merge_bases-requires g c =
    let o = c.args.objects.now in
    record { held = given_held (g.O.Objects.name_of o) c.args.revisions.now c.in_ok-commits.commits.items c.as_slice.result.now c.as_slice.ensures.value (g.O.Objects.told o) c.in_ok-commits.ensures }

pub returns-in_err-commits : goal.returns-in_err-commits
returns-in_err-commits g c =
    let p = err_from_is_err_and c.from_residual.result c.from_residual.ensures.1 in
    let o = c.args.objects.now in
    rw (p.1, p.2) (refused_then (g.O.Objects.told o) (commits_denoted (g.O.Objects.name_of o) c.args.revisions.now) (λ r cs. Ok (bases c.args.octopus cs (history_of r))) c.in_err-commits.field-0.0.word c.in_err-commits.field-0.0.kind c.in_err-commits.ensures)

pub returns-in_err-bases : goal.returns-in_err-bases
returns-in_err-bases g c =
    let p = err_from_is_err_and c.from_residual-in_err-bases.result c.from_residual-in_err-bases.ensures.1 in
    let o = c.args.objects.now in
    rw (p.1, p.2) (look_word (g.O.Objects.told o) (bases_denoted (g.O.Objects.name_of o) c.args.octopus c.args.revisions.now) c.in_err-bases.field-0.0 c.in_err-bases.ensures.fault)

pub returns : goal.returns
returns g c =
    let o = c.args.objects.now in
    given_bases (g.O.Objects.name_of o) c.args.revisions.now c.in_ok-commits.commits.items c.as_slice.result.now c.as_slice.ensures.value (g.O.Objects.told o) c.args.octopus c.in_ok-bases.bases.items c.in_ok-commits.ensures c.in_ok-bases.ensures.bases
