use Rattle.std.proofs.Common.{refl, subst, sym, map}
use Rattle.gx_repo.specs.Refs.{shown_update}
use Rattle.gx_ref_lines.specs.Refs.{shown_refs}
use Rattle.gx_small_repo.specs.Small.{AreOf}
use Rattle.gx_small_repo.proofs.RefsOf.{set_stays}
use Rattle.gx_small_repo.proofs.small.set_refs.Goals as goal

pub loop-name-init : goal.loop-name-init
loop-name-init g c = record { same = refl; are = subst (AreOf (shown_refs c.args.lines.now.refs.items)) (sym c.new-changes.ensures.items) (λ sorted. tt) }

pub loop-name-preserved : goal.loop-name-preserved
loop-name-preserved g c = record { same = c.loop-name.invariant.same; are = c.in_ok-add_change.ensures.kept c.loop-name.invariant.are }

pub returns-clause-refs : goal.returns-clause-refs
returns-clause-refs g c = λ sorted.
    let refs = shown_refs c.args.lines.now.refs.items in
    let r = c.args.repo.now.1 in
    let are = subst (AreOf refs) (sym c.as_slice-2.ensures.value) c.loop-name.invariant.are in
    set_stays refs r (map shown_update c.as_slice-2.result.now) c.publish.new.self.1.refs c.in_ok-publish.ensures.refs (are sorted)
