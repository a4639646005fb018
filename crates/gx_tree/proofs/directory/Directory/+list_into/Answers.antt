use Rattle.gx_tree.proofs.Homes.{items_are_those, files_same}
use Rattle.std.proofs.Common.{◌≡◌, ◌<◌, arith, true, rules, refl, ap, ◌∙◌}
use Rattle.std.specs.List.{list_all}
use Rattle.gx_model.specs.Texts.Paths.{is_component, is_short}
use Rattle.gx_tree.specs.Components.{bytes_of}
use Rattle.gx_tree.specs.Nodes.{components, file, folder}
use Rattle.gx_tree.specs.Lists.{below}
use Rattle.gx_tree.specs.Views.{shown_item}
use Rattle.gx_tree.proofs.Measures.{folder_less}
use Rattle.gx_tree.proofs.Listed.{listed_at, list_file, list_folder, list_more}
use Rattle.gx_tree.proofs.directory.Directory.+list_into.Goals as goal
use Rattle.gx_tree.proofs.directory.Directory.+list_into.Goals.{in-File+in_ok-push-in-File, in-Folder+in_ok-list_into-in-Folder}

pub child-requires-clause-component : goal.child-requires-clause-component
child-requires-clause-component g t c = ap is_component c.component.ensures ∙ (listed_at c.args.front.now c.self.inside.entries.value.items c.as_slice-entry-items.result.now c.loop-entry.entry-index c.entry-item.result c.loop-entry-test.true c.entry-item.is (items_are_those c.as_slice-entry-items.ensures.value c.deref.ensures) (files_same c.self.view_is) c.self.invariant.0 c.requires).0

pub child-requires-clause-short : goal.child-requires-clause-short
child-requires-clause-short g t c = rw c.component.ensures (listed_at c.args.front.now c.self.inside.entries.value.items c.as_slice-entry-items.result.now c.loop-entry.entry-index c.entry-item.result c.loop-entry-test.true c.entry-item.is (items_are_those c.as_slice-entry-items.ensures.value c.deref.ensures) (files_same c.self.view_is) c.self.invariant.0 c.requires).1

pub loop-entry-preserved : goal.loop-entry-preserved
loop-entry-preserved g t c =
    let front = c.args.front.now in let r = c.entry-item.result in
    elim c.match-entry.branch [
      | in-File+in_ok-push-in-File w ↦ rw w.out-is (list_more front c.as_slice-entry-items.result.now c.loop-entry.entry-index r (file (w.in-File.mode, w.in-File.name.bytes)) _ c.loop-entry.out.items w.push.new.self.items c.loop-entry-test.true c.entry-item.is (ap shown_item w.in-File.is)
          (list_file front c.in_ok-path.path c.component.result.now (bytes_of r.component) w.in-File.mode w.in-File.name c.loop-entry.out.items w.push.new.self.items c.in_ok-path.ensures c.component.ensures w.in_ok-push-in-File.ensures.items) c.loop-entry.invariant)
      | in-Folder+in_ok-list_into-in-Folder w ↦ rw w.out-is (list_more front c.as_slice-entry-items.result.now c.loop-entry.entry-index r (folder w.in-Folder.below.files) _ c.loop-entry.out.items w.list_into.new.out.items c.loop-entry-test.true c.entry-item.is (ap shown_item w.in-Folder.is)
          (list_folder front c.in_ok-path.path c.component.result.now (bytes_of r.component) w.in-Folder.below.files w.in-Folder.below.files c.loop-entry.out.items w.list_into.new.out.items c.in_ok-path.ensures c.component.ensures refl w.in_ok-list_into-in-Folder.ensures) c.loop-entry.invariant)
    ]

pub list_into-requires : goal.list_into-requires
list_into-requires g t c =
    let k : shown_item c.entry-item.result.item ≡ folder c.in-Folder.below.files = ap shown_item c.in-Folder.is in
    let all = (listed_at c.args.front.now c.self.inside.entries.value.items c.as_slice-entry-items.result.now c.loop-entry.entry-index c.entry-item.result c.loop-entry-test.true c.entry-item.is (items_are_those c.as_slice-entry-items.ensures.value c.deref.ensures) (files_same c.self.view_is) c.self.invariant.0 c.requires).2 in
    let short : list_all (λ e. is_short e.0) (below c.in_ok-path.path c.in-Folder.below.files) ≡ true = rw (c.in_ok-path.ensures, c.component.ensures) (rw k at all) in
    let falls = folder_less c.self.inside.entries.value.items c.as_slice-entry-items.result.now c.loop-entry.entry-index c.entry-item.result c.in-Folder.below.files c.in-Folder.below.files c.loop-entry-test.true c.entry-item.is (items_are_those c.as_slice-entry-items.ensures.value c.deref.ensures) (files_same c.self.view_is) c.self.invariant.0 k refl in
    let less : components c.in-Folder.below.files < t = omega (arith, falls, c.decreases) in
    λ κs o. (less, (search rules, short))
