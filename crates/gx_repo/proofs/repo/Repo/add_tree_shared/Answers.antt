use Rattle.std.proofs.Common.{Ok, Err, ap, subst, sym, take, ◌∙◌}
use Rattle.gx_model.specs.Histories.{Records, with_tree}
use Rattle.gx_model.specs.Records.HistoryOf.{contents_of, named_values}
use Rattle.gx_model.specs.Laws.RepositoryLaws.{values_of}
use Rattle.gx_model.specs.declared.objects.Kind.TheVariants as kinds
use Rattle.gx_model.specs.Records.Sound.{Holds, IsSound, Keeps}
use Rattle.gx_model.specs.Records.Growth.{tree_records}
use Rattle.gx_tree.specs.Named.{IsAtHome}
use Rattle.gx_tree.specs.Writes.{map_name}
use Rattle.gx_repo.specs.Additions.{AddsAll, HasValues}
use Rattle.gx_repo.specs.Rooms.{IsFront}
use Rattle.gx_repo.proofs.PutRecords.{trees_grown, writes_refused}
use Rattle.gx_repo.proofs.HeldRecords.{keeps_front, keeps_same, tree_holds}
use Rattle.gx_repo.proofs.RecordRooms.{front_kept}
use Rattle.gx_repo.proofs.repo.Repo.add_tree_shared.Goals as goal

pub invariant_of-self : goal.invariant_of-self
invariant_of-self g c =
    let names = g.N.Namer.name_of c.self.inside.store.0 in
    let namer = g.met.N.Namer.is_namer c.self.inside.store.0 in
    let r : Records = record { records = c.self.inside.store.1; refs = c.self.inside.refs } in
    let named = rw (sym c.self.view_is) at c.requires.named in (
      subst (λ n. IsSound (g.N.Namer.name_of n) (record { records = c.write_shared.new.store.1; refs = c.self.inside.refs })) (sym c.write_shared.ensures.namer)
          (trees_grown names (c.trees_add_file_maps.ensures names namer) (c.puts_add_values.ensures names namer) r c.self.invariant.0 c.args.tree.now.files named c.write_shared.new.store.1 c.in-Ok.ensures.records).0,
      front_kept c.self.inside.store.1 c.write_shared.new.store.1 c.self.inside.rooms.items c.self.invariant.1 c.write_shared.ensures.front,
    )

pub returns-clause-history : goal.returns-clause-history
returns-clause-history g c =
    let names = g.N.Namer.name_of c.self.inside.store.0 in
    let namer = g.met.N.Namer.is_namer c.self.inside.store.0 in
    let r : Records = record { records = c.self.inside.store.1; refs = c.self.inside.refs } in
    let named = rw (sym c.self.view_is) at c.requires.named in
    subst (λ v. HasValues v.1 (record { records = c.write_shared.new.store.1; refs = c.self.inside.refs }) (with_tree (values_of v.1) (contents_of (named_values v.1.records) c.args.tree.now.files))) c.self.view_is
    (trees_grown names (c.trees_add_file_maps.ensures names namer) (c.puts_add_values.ensures names namer) r c.self.invariant.0 c.args.tree.now.files named c.write_shared.new.store.1 c.in-Ok.ensures.records).1

pub returns-clause-held : goal.returns-clause-held
returns-clause-held g c =
    subst (Holds c.write_shared.new.store.1 kinds.Tree) (sym c.in-Ok.ensures.name)
    (tree_holds (g.N.Namer.name_of c.self.inside.store.0) c.args.tree.now.files c.self.inside.store.1 c.write_shared.new.store.1 c.in-Ok.ensures.records)

pub returns-clause-keeps : goal.returns-clause-keeps
returns-clause-keeps g c = subst (λ v. Keeps v.1.records c.write_shared.new.store.1) c.self.view_is (keeps_front c.self.inside.store.1 c.write_shared.new.store.1 c.write_shared.ensures.front)

pub invariant_of-self-in-Err : goal.invariant_of-self-in-Err
invariant_of-self-in-Err g c =
    let refs = c.self.inside.refs in
    let old = ap (λ v. v.1) c.truncate.ensures ∙ ap (λ k. take k c.write_shared.new.store.1) c.len-held.ensures.count ∙ c.write_shared.ensures.front in
    let namer = ap (λ v. v.0) c.truncate.ensures ∙ c.write_shared.ensures.namer in (
      subst (λ n. IsSound (g.N.Namer.name_of n) (record { records = c.truncate.new.self.1; refs = refs })) (sym namer)
          (subst (λ rs. IsSound (g.N.Namer.name_of c.self.inside.store.0) (record { records = rs; refs = refs })) (sym old) c.self.invariant.0),
      subst (IsFront c.self.inside.rooms.items) (sym old) c.self.invariant.1,
    )

pub returns-in-Err-clause-adds : goal.returns-in-Err-clause-adds
returns-in-Err-clause-adds g c =
    let files = c.args.tree.now.files in
    let old = ap (λ v. v.1) c.truncate.ensures ∙ ap (λ k. take k c.write_shared.new.store.1) c.len-held.ensures.count ∙ c.write_shared.ensures.front in
    let names = g.N.Namer.name_of c.self.inside.store.0 in
    subst (λ v. AddsAll v.1.records c.truncate.new.self.1 (tree_records (g.N.Namer.name_of v.0) files) (map_name (g.N.Namer.name_of v.0) files) (Err c.store_fault.result)) c.self.view_is
    (writes_refused c.self.inside.store.1 c.truncate.new.self.1 c.write_shared.new.store.1 (tree_records names files) (map_name names files) c.store_fault.result c.in-Err.fault c.store_fault.ensures c.in-Err.ensures.records old)

pub returns-in-Err-clause-keeps : goal.returns-in-Err-clause-keeps
returns-in-Err-clause-keeps g c =
    let old = ap (λ v. v.1) c.truncate.ensures ∙ ap (λ k. take k c.write_shared.new.store.1) c.len-held.ensures.count ∙ c.write_shared.ensures.front in
    subst (λ v. Keeps v.1.records c.truncate.new.self.1) c.self.view_is (keeps_same c.self.inside.store.1 c.truncate.new.self.1 old)

pub returns-in-Err-clause-namer : goal.returns-in-Err-clause-namer
returns-in-Err-clause-namer g c = ap (λ v. v.0) c.truncate.ensures ∙ c.write_shared.ensures.namer ∙ ap (λ v. v.0) c.self.view_is

pub returns-in-Err-clause-refs : goal.returns-in-Err-clause-refs
returns-in-Err-clause-refs g c = ap (λ v. v.1.refs) c.self.view_is

pub returns-clause-namer : goal.returns-clause-namer
returns-clause-namer g c = c.write_shared.ensures.namer ∙ ap (λ v. v.0) c.self.view_is

pub returns-clause-adds : goal.returns-clause-adds
returns-clause-adds g c =
    let files = c.args.tree.now.files in
    subst (λ v. AddsAll v.1.records c.write_shared.new.store.1 (tree_records (g.N.Namer.name_of v.0) files) (map_name (g.N.Namer.name_of v.0) files) (Ok c.in-Ok.name)) c.self.view_is
    (c.in-Ok.ensures.name, c.in-Ok.ensures.records)

pub returns-clause-refs : goal.returns-clause-refs
returns-clause-refs g c = ap (λ v. v.1.refs) c.self.view_is

pub returns-clause-home : goal.returns-clause-home
returns-clause-home g c = subst (λ v. IsAtHome (g.N.Namer.name_of v.0) c.write_shared.new.store.1 c.write_shared.new.self) c.self.view_is c.in-Ok.ensures.home

pub returns-in-Err-clause-home : goal.returns-in-Err-clause-home
returns-in-Err-clause-home g c =
    let old = ap (λ v. v.1) c.truncate.ensures ∙ ap (λ k. take k c.write_shared.new.store.1) c.len-held.ensures.count ∙ c.write_shared.ensures.front ∙ ap (λ v. v.1.records) c.self.view_is in
    subst (λ rs. IsAtHome (g.N.Namer.name_of c.args.self.now.0) rs c.write_shared.new.self) (sym old)
    (subst (IsAtHome (g.N.Namer.name_of c.args.self.now.0) c.args.self.now.1.records) (sym c.in-Err.ensures.unchanged) c.requires.home)
