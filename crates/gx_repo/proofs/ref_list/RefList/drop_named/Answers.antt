use Rattle.std.proofs.Common.{◌≡◌, Err, rules}
use Rattle.std.specs.Prelude.{not}
use Rattle.std.specs.List.{filter}
use Rattle.std.proofs.lemmas.Fn.{filter_same}
use Rattle.std.proofs.lemmas.Result.{err_from_is_err_and}
use Rattle.gx_repo.specs.Dropping.{is_entered}
use Rattle.gx_repo.proofs.DroppedRefs.{all_dropped, left_in_order, none_dropped, none_hidden}
use Rattle.gx_repo.proofs.ref_list.RefList.drop_named.Goals as goal

pub returns-in_err-enter_names-clause-dropped : goal.returns-in_err-enter_names-clause-dropped
returns-in_err-enter_names-clause-dropped g c =
    let p = err_from_is_err_and c.from_residual.result c.from_residual.ensures.1 in
    rw (p.1, p.2) (none_dropped c.args.self.now c.args.self.now c.enter_names.new.entered c.args.names.now c.in_err-enter_names.field-0.0 c.in_err-enter_names.ensures)

pub returns-in_err-enter_names-clause-unhidden : goal.returns-in_err-enter_names-clause-unhidden
returns-in_err-enter_names-clause-unhidden g c =
    let p = err_from_is_err_and c.from_residual.result c.from_residual.ensures.1 in
    rw (p.1, p.2) (none_hidden c.args.self.now c.enter_names.new.entered c.args.names.now (Err c.in_err-enter_names.field-0.0) c.in_err-enter_names.ensures)

pub invariant_of-self : goal.invariant_of-self
invariant_of-self g c =
    let left : c.retain.new.self.items ≡ filter (λ ref. not (is_entered c.enter_names.new.entered ref.name.items)) c.self.inside.refs.items = filter_same _ _ _ (λ x b f' k. search rules) _ _ c.retain.ensures.filtered in
    left_in_order c.self.inside.refs.items c.retain.new.self.items c.args.self.now c.enter_names.new.entered c.args.names.now c.self.view_is c.in_ok-enter_names.ensures left c.self.invariant

pub returns-clause-dropped : goal.returns-clause-dropped
returns-clause-dropped g c =
    let left : c.retain.new.self.items ≡ filter (λ ref. not (is_entered c.enter_names.new.entered ref.name.items)) c.self.inside.refs.items = filter_same _ _ _ (λ x b f' k. search rules) _ _ c.retain.ensures.filtered in
    all_dropped c.self.inside.refs.items c.retain.new.self.items c.args.self.now c.enter_names.new.entered c.args.names.now c.self.view_is c.in_ok-enter_names.ensures left
