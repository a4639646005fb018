use Rattle.std.proofs.Common.{sym}
use Rattle.gx_rev.proofs.PathSteps.{place_held}
use Rattle.gx_rev.proofs.places.entry_of.Goals as goal

pub returns-clause-entry : goal.returns-clause-entry
returns-clause-entry g c = rw (sym c.entries_of.ensures.entries) c.find_entry.ensures

pub returns-clause-held : goal.returns-clause-held
returns-clause-held g c =
    let name = g.N.Namer.name_of c.args.repo.now.0 in
    let namer = g.met.N.Namer.is_namer c.args.repo.now.0 in
    let r = c.args.repo.now.1 in
    place_held name namer r c.sound.ensures c.args.tree.now.bytes c.args.component.now c.entries_of.result c.find_entry.result c.requires c.entries_of.ensures.files c.find_entry.ensures
