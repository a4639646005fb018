use Rattle.std.proofs.Common.{◌≡◌, Some, subst}
use Rattle.std.specs.Option.{option_map}
use Rattle.gx_model.specs.Histories.{Records}
use Rattle.gx_model.specs.Records.Lookups.{commit_named}
use Rattle.gx_model.proofs.Records.HeldObjects.{IsShown, commit_peeled, is_shown, tag_peeled}
use Rattle.gx_repo.proofs.repo.Repo.peel.Goals as goal

pub returns-in-Commit-clause-commit : goal.returns-in-Commit-clause-commit
returns-in-Commit-clause-commit g c =
    let rs = c.self.inside.store.1 in
    let shown = is_shown rs c.args.name.now.bytes c.in_ok-kind.kind c.in_ok-kind.body.now c.in_ok-kind.ensures in
    subst (λ v. Some c.args.name.now.bytes ≡ commit_named v.1.records c.args.name.now.bytes) c.self.view_is
    (commit_peeled rs c.args.name.now.bytes c.in_ok-kind.body.now (subst (λ k. IsShown rs c.args.name.now.bytes k c.in_ok-kind.body.now) c.in-Commit.is shown))

pub returns-in-Tag-clause-commit : goal.returns-in-Tag-clause-commit
returns-in-Tag-clause-commit g c =
    let rs = c.self.inside.store.1 in
    let r : Records = record { records = rs; refs = c.self.inside.refs } in
    let shown = is_shown rs c.args.name.now.bytes c.in_ok-kind.kind c.in_ok-kind.body.now c.in_ok-kind.ensures in
    subst (λ v. option_map (λ n. n.bytes) c.tag_object.result ≡ commit_named v.1.records c.args.name.now.bytes) c.self.view_is
    (tag_peeled (g.N.Namer.name_of c.self.inside.store.0) (g.met.N.Namer.is_namer c.self.inside.store.0) r c.self.invariant.0 c.args.name.now.bytes c.in_ok-kind.body.now
    (subst (λ k. IsShown rs c.args.name.now.bytes k c.in_ok-kind.body.now) c.in-Tag.is shown)
    (option_map (λ n. n.bytes) c.tag_object.result) c.tag_object.ensures)
