use Rattle.gx_rev.proofs.shown.tree.Goals as goal

pub returns-clause-files : goal.returns-clause-files
returns-clause-files g c = rw c.in_ok-object.ensures.value c.tree_of.ensures.files

pub returns-clause-held : goal.returns-clause-held
returns-clause-held g c = c.tree_of.ensures.held
