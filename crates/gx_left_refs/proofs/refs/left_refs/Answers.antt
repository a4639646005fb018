use Rattle.std.proofs.lemmas.Result.{err_from_is_err_and}
use Rattle.gx_ref_lines.specs.Refs.{shown_refs}
use Rattle.gx_repo.specs.Dropping.{without}
use Rattle.gx_repo.specs.declared.fault.DropFault.TheVariants.{OutOfMemory}
use Rattle.gx_repo.proofs.DroppedRefs.{none_unknown}
use Rattle.gx_text.specs.Lent.{lent_texts}
use Rattle.gx_left_refs.proofs.DroppedLines.{none_dropped, none_hidden}
use Rattle.gx_left_refs.proofs.refs.left_refs.Goals as goal

pub returns-in_err-gone-clause-dropped : goal.returns-in_err-gone-clause-dropped
returns-in_err-gone-clause-dropped g c sorted =
    let refs = shown_refs c.args.held.now.refs.items in
    let names = lent_texts c.args.names.now in
    let p = err_from_is_err_and c.from_residual.result c.from_residual.ensures.1 in
    rw (p.1, p.2) (none_dropped refs (without names refs) names c.in_err-gone.field-0.0 (c.in_err-gone.ensures.known sorted))

pub returns-in_err-gone-clause-unhidden : goal.returns-in_err-gone-clause-unhidden
returns-in_err-gone-clause-unhidden g c sorted =
    let refs = shown_refs c.args.held.now.refs.items in
    let names = lent_texts c.args.names.now in
    let p = err_from_is_err_and c.from_residual.result c.from_residual.ensures.1 in
    rw (p.1, p.2) (none_hidden refs names c.in_err-gone.field-0.0 (c.in_err-gone.ensures.known sorted))

pub returns-in-Ok-clause-dropped : goal.returns-in-Ok-clause-dropped
returns-in-Ok-clause-dropped g c sorted = none_unknown (lent_texts c.args.names.now) (shown_refs c.args.held.now.refs.items) (c.in_ok-gone.ensures.known sorted)

pub returns-clause-unhidden : goal.returns-clause-unhidden
returns-clause-unhidden g c sorted = none_hidden (shown_refs c.args.held.now.refs.items) (lent_texts c.args.names.now) OutOfMemory (c.in_ok-gone.ensures.known sorted)
