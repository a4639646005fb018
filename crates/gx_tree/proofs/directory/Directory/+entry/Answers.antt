use Rattle.gx_tree.proofs.Homes.{items_are_those, files_same}
use Rattle.std.proofs.Common.{◌≡◌, ◌+◌, ◌<◌, length, Some, None, sym, ap, ◌∙◌, arith, cond}
use Rattle.gx_tree.proofs.Below.{standing_step, root_at_end, no_root_before}
use Rattle.gx_tree.specs.Nodes.{file, folder, kept_at}
use Rattle.gx_tree.specs.Standings.{a_file}
use Rattle.gx_tree.specs.Views.{shown_item, shown_entries}
use Rattle.gx_tree.proofs.directory.Directory.+entry.Goals as goal

pub returns-in-None : goal.returns-in-None
returns-in-None g t c =
    let l : c.args.depth < length c.args.path.now = omega arith in
    standing_step c.args.path.now c.args.depth (shown_entries c.self.inside.entries.value.items) l (files_same c.self.view_is) c.self.invariant.0 c.component.ensures.component (ap shown_entries (items_are_those c.as_slice.ensures.value c.deref.ensures)) None c.in-None.ensures.kept

pub returns-then-depth-len-2 : goal.returns-then-depth-len-2
returns-then-depth-len-2 g t c =
    let l : c.args.depth < length c.args.path.now = omega arith in
    let x = shown_item c.in-Some-File.field-0.now in
    let at : kept_at c.component.result.now (shown_entries c.as_slice.result.now) ≡ Some (file (c.in-Some-File.mode, c.in-Some-File.name.bytes)) = c.in-Some-File.ensures.kept ∙ ap (λ i. Some (shown_item i)) c.in-Some-File.field-0-is in
    ap (λ b. cond b (Some (a_file (c.in-Some-File.mode, c.in-Some-File.name.bytes))) None) (sym (root_at_end c.args.path.now c.args.depth (omega arith)))
    ∙ standing_step c.args.path.now c.args.depth (shown_entries c.self.inside.entries.value.items) l (files_same c.self.view_is) c.self.invariant.0 c.component.ensures.component (ap shown_entries (items_are_those c.as_slice.ensures.value c.deref.ensures)) (Some (file (c.in-Some-File.mode, c.in-Some-File.name.bytes))) at

pub returns-else-depth-len-2 : goal.returns-else-depth-len-2
returns-else-depth-len-2 g t c =
    let l : c.args.depth < length c.args.path.now = omega arith in
    let at : kept_at c.component.result.now (shown_entries c.as_slice.result.now) ≡ Some (file (c.in-Some-File.mode, c.in-Some-File.name.bytes)) = c.in-Some-File.ensures.kept ∙ ap (λ i. Some (shown_item i)) c.in-Some-File.field-0-is in
    ap (λ b. cond b (Some (a_file (c.in-Some-File.mode, c.in-Some-File.name.bytes))) None) (sym (no_root_before c.args.path.now (c.args.depth + 1) (omega arith)))
    ∙ standing_step c.args.path.now c.args.depth (shown_entries c.self.inside.entries.value.items) l (files_same c.self.view_is) c.self.invariant.0 c.component.ensures.component (ap shown_entries (items_are_those c.as_slice.ensures.value c.deref.ensures)) (Some (file (c.in-Some-File.mode, c.in-Some-File.name.bytes))) at

pub returns-in-Some-Folder : goal.returns-in-Some-Folder
returns-in-Some-Folder g t c =
    let l : c.args.depth < length c.args.path.now = omega arith in
    let d = c.in-Some-Folder.below.files in
    let at : kept_at c.component.result.now (shown_entries c.as_slice.result.now) ≡ Some (folder d) = c.in-Some-Folder.ensures.kept ∙ ap (λ i. Some (shown_item i)) c.in-Some-Folder.field-0-is in
    let step = standing_step c.args.path.now c.args.depth (shown_entries c.self.inside.entries.value.items) l (files_same c.self.view_is) c.self.invariant.0 c.component.ensures.component (ap shown_entries (items_are_those c.as_slice.ensures.value c.deref.ensures)) (Some (folder d)) at in
    c.entry.ensures ∙ step
