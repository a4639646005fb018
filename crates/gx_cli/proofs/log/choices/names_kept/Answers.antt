use Rattle.std.proofs.Common.{[], ap, subst, sym, ◌∙◌}
use Rattle.gx_print.specs.Choices.{passes}
use Rattle.gx_cli.proofs.KeptCommits.{KeptFirst, all_kept, none_kept, one_kept, one_left_out}
use Rattle.gx_cli.proofs.log.choices.names_kept.Goals as goal

pub loop-name-init : goal.loop-name-init
loop-name-init g c =
    let name = g.N.Namer.name_of c.args.repo.now.0 in
    let r = c.args.repo.now.1 in
    subst (KeptFirst name c.args.only r c.args.names.now 0) (sym c.new-kept.ensures.items) (none_kept name c.args.only r c.args.names.now)

pub loop-name-preserved-then-not-passes : goal.loop-name-preserved-then-not-passes
loop-name-preserved-then-not-passes g c =
    let out = ap (passes c.args.only) (sym c.view_of.ensures) ∙ sym c.passes.ensures ∙ c.if-not-passes.true in
    one_left_out (g.N.Namer.name_of c.args.repo.now.0) c.args.only c.args.repo.now.1 c.args.names.now c.loop-name.name-index c.loop-name.kept.items (record { bytes = [] }) c.loop-name-test.true out c.loop-name.invariant

pub loop-name-preserved : goal.loop-name-preserved
loop-name-preserved g c =
    let kept = ap (passes c.args.only) (sym c.view_of.ensures) ∙ sym c.passes.ensures ∙ c.if-not-passes.false in
    one_kept (g.N.Namer.name_of c.args.repo.now.0) c.args.only c.args.repo.now.1 c.args.names.now c.loop-name.name-index c.loop-name.kept.items c.push.new.self.items (record { bytes = [] }) c.loop-name-test.true c.requires c.in_ok-push.ensures.items kept c.loop-name.invariant

pub returns : goal.returns
returns g c = all_kept (g.N.Namer.name_of c.args.repo.now.0) c.args.only c.args.repo.now.1 c.args.names.now c.loop-name.name-index c.loop-name.kept.items c.loop-name-test.false c.loop-name.invariant
