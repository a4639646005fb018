use Rattle.std.proofs.Common.{◌≡◌, ◌∷◌, [], ◌++◌, map, Some, sym, ap, subst, ◌∙◌}
use Rattle.std.specs.List.{filter}
use Rattle.std.specs.Map.{lookup}
use Rattle.std.specs.Option.{option_map}
use Rattle.gx_model.specs.Texts.{same_bytes}
use Rattle.gx_object.specs.declared.name.Name.{Name}
use Rattle.gx_repo.specs.Refs.{shown_update}
use Rattle.gx_import.specs.RefChanges.{is_due, is_due_by, tag_changes}
use Rattle.gx_import.specs.Rows.{row_of}
use Rattle.gx_import.proofs.MovedChanges.{one_appended}
use Rattle.gx_import.proofs.publishing.append_tags.Goals as goal

pub loop-name-preserved : goal.loop-name-preserved
loop-name-preserved g c =
    let refs = c.args.repo.now.1.refs in
    let branches = c.args.tables.now.branches in
    let was = map shown_update c.loop-name.changes.items in
    let now = map shown_update c.append_tag.new.changes.items in
    let n = c.in-Some.name.now.items in
    let object = c.in-Some.object.now in
    let held = c.ref_near-next.ensures.object ∙ ap (λ m. lookup (same_bytes m) refs) c.as_slice.ensures.value in
    let appended = subst (λ m. now ≡ was ++ filter (is_due_by branches (option_map (λ (called : Name). called.bytes) c.ref_near-next.result.1)) ((m, object.bytes) ∷ [])) c.as_slice-in-loop-name.ensures.value c.in_ok-append_tag.ensures in
    let named = subst (λ h. now ≡ was ++ filter (is_due_by branches h) ((n, object.bytes) ∷ [])) held appended in
    one_appended (is_due branches refs) was now n (Some object) (tag_changes (map row_of c.next.new.self)) named
    ∙ sym (ap (λ rows. was ++ filter (is_due branches refs) (tag_changes (map row_of rows))) c.in-Some.ensures.steps)
    ∙ c.loop-name.invariant
