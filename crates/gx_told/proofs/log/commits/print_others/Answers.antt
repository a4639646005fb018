use Rattle.std.proofs.Common.{[], ◌+◌, ◌++◌, drop, get_or, map, subst, Err}
use Rattle.std.specs.List.{flat_map}
use Rattle.std.proofs.lemmas.List.{drop_all, drop_more}
use Rattle.std.proofs.lemmas.Result.{err_from_is_err_and}
use Rattle.gx_model.specs.declared.objects.Kind.TheVariants as kinds
use Rattle.gx_model.specs.Texts.Sinks.{Took}
use Rattle.gx_rev.specs.Objects.{IsHeldAs, commit_at}
use Rattle.gx_print.specs.Logs.{AreCommits, entry_of, next_entry}
use Rattle.gx_told.specs.Printing.{PrintsText}
use Rattle.gx_told.proofs.CommitLines.{Goes, ends, goes_on, starts, stops}
use Rattle.gx_told.proofs.Tellings.{both_told, map_told}
use Rattle.gx_told.proofs.log.commits.print_others.Goals as goal

pub loop-name-init : goal.loop-name-init
loop-name-init g c =
    let name = g.O.Objects.name_of c.args.objects.now in
    let names = c.args.names.now in
    let was = g.W.Sink.taken c.args.sink.now in
    map_told (g.O.Objects.told c.args.objects.now) (λ r. AreCommits r names) (Goes name c.args.options names was was names) (λ r h. starts name c.args.options names was r h) c.requires

pub print_commit-requires : goal.print_commit-requires
print_commit-requires g c =
    let name = g.O.Objects.name_of c.args.objects.now in
    let names = c.args.names.now in
    let i = c.loop-name.name-index in
    let n = get_or names i (record { bytes = [] }) in
    let was = g.W.Sink.taken c.args.sink.now in
    let mid = g.W.Sink.taken c.loop-name.sink in
    map_told (g.O.Objects.told c.args.objects.now) (Goes name c.args.options names was mid (drop i names)) (λ r. IsHeldAs kinds.Commit r n)
    (λ r h. (subst (AreCommits r) (drop_more names i (record { bytes = [] }) c.loop-name-test.true) h.held).0) c.loop-name.invariant

pub returns-in_err-print_commit : goal.returns-in_err-print_commit
returns-in_err-print_commit g c =
    let p = err_from_is_err_and c.from_residual.result c.from_residual.ensures.1 in
    let told = g.O.Objects.told c.args.objects.now in
    let name = g.O.Objects.name_of c.args.objects.now in
    let o = c.args.options in
    let names = c.args.names.now in
    let i = c.loop-name.name-index in
    let n = get_or names i (record { bytes = [] }) in
    let left = drop (i + 1) names in
    let was = g.W.Sink.taken c.args.sink.now in
    let mid = g.W.Sink.taken c.loop-name.sink in
    let now = g.W.Sink.taken c.print_commit.new.sink in
    let fault = c.in_err-print_commit.field-0.0 in
    rw (p.1, p.2) (both_told told (Goes name o names was mid (drop i names)) (λ r. PrintsText (c.gap.result.now ++ entry_of name o (commit_at r n)) mid now (Err fault))
    (λ r. PrintsText (flat_map (next_entry name o) (map (commit_at r) names)) was now (Err fault))
    (λ r h k. stops name o names was mid now n left fault r (subst (λ ns. Goes name o names was mid ns r) (drop_more names i (record { bytes = [] }) c.loop-name-test.true) h) (subst (λ between. PrintsText (between ++ entry_of name o (commit_at r n)) mid now (Err fault)) c.gap.ensures k))
    c.loop-name.invariant c.in_err-print_commit.ensures)

pub loop-name-preserved : goal.loop-name-preserved
loop-name-preserved g c =
    let told = g.O.Objects.told c.args.objects.now in
    let name = g.O.Objects.name_of c.args.objects.now in
    let o = c.args.options in
    let names = c.args.names.now in
    let i = c.loop-name.name-index in
    let n = get_or names i (record { bytes = [] }) in
    let left = drop (i + 1) names in
    let was = g.W.Sink.taken c.args.sink.now in
    let mid = g.W.Sink.taken c.loop-name.sink in
    let now = g.W.Sink.taken c.print_commit.new.sink in
    both_told told (Goes name o names was mid (drop i names)) (λ r. Took mid now (c.gap.result.now ++ entry_of name o (commit_at r n))) (Goes name o names was now left)
    (λ r h k. goes_on name o names was mid now n left r (subst (λ ns. Goes name o names was mid ns r) (drop_more names i (record { bytes = [] }) c.loop-name-test.true) h) (subst (λ between. Took mid now (between ++ entry_of name o (commit_at r n))) c.gap.ensures k))
    c.loop-name.invariant c.in_ok-print_commit.ensures

pub returns : goal.returns
returns g c =
    let name = g.O.Objects.name_of c.args.objects.now in
    let o = c.args.options in
    let names = c.args.names.now in
    let i = c.loop-name.name-index in
    let was = g.W.Sink.taken c.args.sink.now in
    let now = g.W.Sink.taken c.loop-name.sink in
    map_told (g.O.Objects.told c.args.objects.now) (Goes name o names was now (drop i names)) (λ r. Took was now (flat_map (next_entry name o) (map (commit_at r) names)))
    (λ r h. ends name o names was now r (subst (λ ns. Goes name o names was now ns r) (drop_all i names c.loop-name-test.false) h)) c.loop-name.invariant
