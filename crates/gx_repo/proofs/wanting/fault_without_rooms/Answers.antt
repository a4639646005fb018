use Rattle.std.proofs.Common.{◌≡◌, true, subst, sym, ◌∙◌}
use Rattle.gx_model.specs.Histories.{record_for}
use Rattle.gx_model.specs.Records.RecordFaults.{is_body}
use Rattle.gx_repo.proofs.WantingTrees.{empty_fault, held_fault}
use Rattle.gx_repo.proofs.wanting.fault_without_rooms.Goals as goal

pub has_empty_directory-requires : goal.has_empty_directory-requires
has_empty_directory-requires g c = subst (λ k. is_body k c.args.body.now ≡ true) c.requires.linked.0 c.requires.linked.1

pub returns-then-has_empty_directory : goal.returns-then-has_empty_directory
returns-then-has_empty_directory g c =
    let r = record_for (g.N.Namer.name_of c.args.store.now.0) c.args.kind c.args.body.now in
    empty_fault c.args.store.now.1 r c.requires.linked (sym c.has_empty_directory.ensures ∙ c.if-has_empty_directory.true)

pub returns-then-is_held : goal.returns-then-is_held
returns-then-is_held g c =
    held_fault (g.N.Namer.name_of c.args.store.now.0) (g.met.N.Namer.is_namer c.args.store.now.0) c.args.store.now.1 c.requires.sound c.args.kind c.args.body.now c.requires.linked
    (sym c.has_empty_directory.ensures ∙ c.if-has_empty_directory.false) (c.is_held.ensures.held c.if-is_held.true)

pub returns : goal.returns
returns g c = (c.requires.linked, sym c.has_empty_directory.ensures ∙ c.if-has_empty_directory.false, c.is_held.ensures.new c.if-is_held.false)
