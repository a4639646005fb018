use Rattle.std.proofs.Common.{subst}
use Rattle.gx_model.specs.declared.store_faults.FileFault.TheVariants as model
use Rattle.gx_model.specs.Histories.{record_for}
use Rattle.gx_repo.specs.Checking.{MayRefuse}
use Rattle.gx_repo.proofs.AddedRecords.{against_record}
use Rattle.gx_repo.proofs.wanting.fault_without_memory.Goals as goal

pub fault_without_rooms-requires-clause-linked : goal.fault_without_rooms-requires-clause-linked
fault_without_rooms-requires-clause-linked g c = subst (MayRefuse c.args.store.now.1 c.args.kind c.args.body.now) c.in-OutOfMemory.is c.requires.fault

pub returns-in-BadObject : goal.returns-in-BadObject
returns-in-BadObject g c =
    against_record c.args.store.now.1 (record_for (g.N.Namer.name_of c.args.store.now.0) c.args.kind c.args.body.now) model.BadObject
    (subst (MayRefuse c.args.store.now.1 c.args.kind c.args.body.now) c.in-BadObject.is c.requires.fault)

pub returns-in-Dangling : goal.returns-in-Dangling
returns-in-Dangling g c =
    against_record c.args.store.now.1 (record_for (g.N.Namer.name_of c.args.store.now.0) c.args.kind c.args.body.now) model.Dangling
    (subst (MayRefuse c.args.store.now.1 c.args.kind c.args.body.now) c.in-Dangling.is c.requires.fault)

pub returns-in-DuplicateObject : goal.returns-in-DuplicateObject
returns-in-DuplicateObject g c =
    against_record c.args.store.now.1 (record_for (g.N.Namer.name_of c.args.store.now.0) c.args.kind c.args.body.now) model.DuplicateObject
    (subst (MayRefuse c.args.store.now.1 c.args.kind c.args.body.now) c.in-DuplicateObject.is c.requires.fault)
