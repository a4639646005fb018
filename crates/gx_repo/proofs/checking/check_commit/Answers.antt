use Rattle.std.proofs.Common.{◌≡◌, true, false, ◌&&◌, ◌+◌, [], get_or, None, Some, drop, sym, ap, ◌∙◌, arith, drop_of_length-le}
use Rattle.std.specs.List.{list_all}
use Rattle.std.proofs.lemmas.Option.{slice_get-get_or}
use Rattle.gx_model.specs.declared.objects.Kind.TheVariants as kinds
use Rattle.gx_model.specs.Records.RecordFaults.{is_held}
use Rattle.gx_repo.proofs.ContentFaults.{commit_dangling, commit_fine, dangling_passed, next_name, not_canonical, told_bad}
use Rattle.gx_repo.proofs.checking.check_commit.Goals as goal

pub returns-in_default-clause-fault : goal.returns-in_default-clause-fault
returns-in_default-clause-fault g c =
    not_canonical c.args.store.now.1 kinds.Commit c.args.body.now (told_bad c.bodies_are_read.ensures kinds.Commit c.args.body.now (λ p. c.in_default.ensures.only p.0 p.1))

pub returns-in_err-place_of-clause-fault : goal.returns-in_err-place_of-clause-fault
returns-in_err-place_of-clause-fault g c =
    let rs = c.args.store.now.1 in
    let ns = c.in-Ok.commit.parents in
    let tree : is_held rs kinds.Tree c.in-Ok.commit.tree ≡ false = ap (is_held rs kinds.Tree) (sym c.tree.ensures) ∙ c.in_err-place_of.ensures.dangling in
    dangling_passed rs kinds.Commit c.args.body.now c.from_residual.result c.in_err-place_of.field-0.0 c.from_residual.ensures.1 c.in_err-place_of.ensures.fault
    (commit_dangling c.bodies_are_read.ensures rs c.args.body.now c.in-Ok.commit c.in-Ok.ensures.found (ap (λ b. b && list_all (is_held rs kinds.Commit) ns) tree))

pub unreachable-requires : goal.unreachable-requires
unreachable-requires g c =
    let ns = c.in-Ok.commit.parents in
    let there = slice_get-get_or ns c.loop-place.place [] (omega (arith, c.loop-place-test.true, c.parent_count-place-end.ensures)) in
    let clash : None ≡ Some (get_or ns c.loop-place.place []) = c.in_default-parent.ensures ∙ there in
    cc

pub returns-in_err-place_of-2-clause-fault : goal.returns-in_err-place_of-2-clause-fault
returns-in_err-place_of-2-clause-fault g c =
    let rs = c.args.store.now.1 in
    let ns = c.in-Ok.commit.parents in
    let tree : is_held rs kinds.Tree c.in-Ok.commit.tree ≡ true = ap (is_held rs kinds.Tree) (sym c.tree.ensures) ∙ c.in_ok-place_of.ensures.held in
    let all : list_all (is_held rs kinds.Commit) ns ≡ false =
    c.loop-place.invariant ∙ ap (list_all (is_held rs kinds.Commit)) (next_name c.loop-place.place ns c.in-Some.parent.bytes c.in-Some.ensures)
    ∙ ap (λ b. b && list_all (is_held rs kinds.Commit) (drop (c.loop-place.place + 1) ns)) c.in_err-place_of-2.ensures.dangling in
    dangling_passed rs kinds.Commit c.args.body.now c.from_residual-in_err-place_of-2.result c.in_err-place_of-2.field-0.0 c.from_residual-in_err-place_of-2.ensures.1 c.in_err-place_of-2.ensures.fault
    (commit_dangling c.bodies_are_read.ensures rs c.args.body.now c.in-Ok.commit c.in-Ok.ensures.found (λ i. tree i && all i))

pub loop-place-preserved : goal.loop-place-preserved
loop-place-preserved g c =
    let rs = c.args.store.now.1 in
    let ns = c.in-Ok.commit.parents in
    c.loop-place.invariant ∙ ap (list_all (is_held rs kinds.Commit)) (next_name c.loop-place.place ns c.in-Some.parent.bytes c.in-Some.ensures)
    ∙ ap (λ b. b && list_all (is_held rs kinds.Commit) (drop (c.loop-place.place + 1) ns)) c.in_ok-place_of-2.ensures.held

pub returns-clause-ok : goal.returns-clause-ok
returns-clause-ok g c =
    let rs = c.args.store.now.1 in
    let ns = c.in-Ok.commit.parents in
    let tree : is_held rs kinds.Tree c.in-Ok.commit.tree ≡ true = ap (is_held rs kinds.Tree) (sym c.tree.ensures) ∙ c.in_ok-place_of.ensures.held in
    let all : list_all (is_held rs kinds.Commit) ns ≡ true =
    c.loop-place.invariant ∙ ap (list_all (is_held rs kinds.Commit)) (drop_of_length-le ns (omega (arith, c.loop-place-test.false, c.parent_count-place-end.ensures))) in
    commit_fine c.bodies_are_read.ensures rs c.args.body.now c.in-Ok.commit c.in-Ok.ensures.found (λ i. tree i && all i)
