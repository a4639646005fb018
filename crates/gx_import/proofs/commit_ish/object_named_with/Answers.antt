use Rattle.gx_import.proofs.NamedCommits.{branch_named, revision_named}
use Rattle.gx_import.proofs.commit_ish.object_named_with.Goals as goal

pub returns-in-Some-clause-names : goal.returns-in-Some-clause-names
returns-in-Some-clause-names g c = λ s h.
    let name = g.N.Namer.name_of c.args.repo.now.0 in
    let found = rw c.as_slice.ensures.value at c.in-Some.ensures in
    rw (c.branch_object.ensures, c.in-Text.is) (branch_named name c.args.repo.now.1 c.args.tables.now s h c.in-Text.text.items c.in-Some.tip.now found)

pub returns-in-None-clause-names : goal.returns-in-None-clause-names
returns-in-None-clause-names g c = λ s h.
    let name = g.N.Namer.name_of c.args.repo.now.0 in
    let found = rw c.as_slice.ensures.value at c.in-None.ensures in
    let given = rw c.as_slice-in-None.ensures.value at c.revision_object.ensures.shows in
    rw c.in-Text.is (revision_named name c.args.repo.now.1 c.args.tables.now s h c.in-Text.text.items found c.revision_object.result given)
