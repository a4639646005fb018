use Rattle.std.proofs.Common.{◌≡◌, IsTrue, subst, sym, rules}
use Rattle.gx_model.specs.Records.HistoryOf.{commit_of_value, value_of_name}
use Rattle.gx_model.specs.Revisions.Ranges.{reaches}
use Rattle.gx_model.proofs.Records.HeldValues.{parent_there}
use Rattle.gx_rev.specs.Objects.{commit_at}
use Rattle.gx_rev.proofs.PlaceLists.{parent_reached}
use Rattle.gx_rev.proofs.ancestors.is_first_parent.Goals as goal

pub returns-in-Some : goal.returns-in-Some
returns-in-Some g c = λ t.
    let r = c.args.repo.now.1 in
    let there = parent_there (g.N.Namer.name_of c.args.repo.now.0) (g.met.N.Namer.is_namer c.args.repo.now.0) r c.sound.ensures c.args.new.now.bytes c.in-Some.parent.bytes 0 c.requires (rw c.view_of-view.ensures at c.in-Some.ensures) in
    let same : c.in-Some.parent.bytes ≡ c.args.old.now.bytes = search rules in
    sym (subst (λ n. IsTrue (reaches (commit_at r c.args.new.now) (commit_of_value (value_of_name r.records n)))) same (parent_reached (commit_at r c.args.new.now) (commit_at r c.in-Some.parent) 0 there.0))
