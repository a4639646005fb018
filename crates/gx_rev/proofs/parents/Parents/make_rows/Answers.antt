use Rattle.std.proofs.Common.{◌≡◌, ◌∙◌, ap, arith, length}
use Rattle.gx_model.specs.Laws.RepositoryLaws.{values_of}
use Rattle.gx_model.specs.Histories.Values.{commit_value}
use Rattle.gx_model.proofs.Records.Standing.{as_many, at_within}
use Rattle.std.proofs.lemmas.List.{length-replicate}
use Rattle.gx_rev.specs.Parents.{no_row}
use Rattle.gx_rev.proofs.ParentPlaces.{nothing_known}
use Rattle.gx_rev.proofs.parents.Parents.make_rows.Goals as goal

pub returns-clause-holds : goal.returns-clause-holds
returns-clause-holds g c =
    nothing_known c.args.repo.now.1 c.in_ok-self.field-0.items c.args.self.now.places.items c.len-2.result (c.in_ok-self.ensures.items_if_clones_equal (λ y e. e))

pub returns-clause-there : goal.returns-clause-there
returns-clause-there g c =
    let r = c.args.repo.now.1 in
    let n = as_many (g.N.Namer.name_of c.args.repo.now.0) (g.met.N.Namer.is_namer c.args.repo.now.0) r c.store.ensures.sound in
    let m : c.len-2.result ≡ length r.records = c.len-2.ensures.count ∙ ap (λ s. length s.1) c.store.ensures.held in
    let within = at_within (values_of r) c.args.place (commit_value c.requires.commit.0) c.requires.commit.1 in
    let long = ap length (c.in_ok-self.ensures.items_if_clones_equal (λ y e. e)) ∙ length-replicate c.len-2.result no_row in
    omega (arith, n, m, within, long)
