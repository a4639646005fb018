use Rattle.std.proofs.Common.{◌≡◌, ◌+◌, map, take, sym, ap, ◌∙◌, subst}
use Rattle.gx_model.specs.Histories.Edits.{modified}
use Rattle.gx_model.specs.Objects.NameMaps.{IsNameMap}
use Rattle.gx_tree.specs.Lists.{shown_listed}
use Rattle.gx_tree.proofs.Relisted.{next_file, refused_alone, same_ok}
use Rattle.gx_tree.proofs.path_tree.PathTree.without_names.Goals as goal

pub modify-requires : goal.modify-requires
modify-requires g c =
    let xs = c.as_slice-file-items.result.now in
    let listed : c.args.self.now.files ≡ map shown_listed xs = same_ok c.args.self.now.files (map shown_listed c.in_ok-files.files.items) c.in_ok-files.ensures ∙ ap (map shown_listed) (sym c.as_slice-file-items.ensures.value) in
    (next_file xs c.loop-file.file-index c.file-item.result (subst IsNameMap listed (subst (λ t. IsNameMap t.files) c.self.view_is c.self.invariant)) c.loop-file-test.true c.file-item.is).0

pub returns-in_err-modify-clause-files : goal.returns-in_err-modify-clause-files
returns-in_err-modify-clause-files g c =
    let xs = c.as_slice-file-items.result.now in
    let r = c.file-item.result in
    let listed : c.args.self.now.files ≡ map shown_listed xs = same_ok c.args.self.now.files (map shown_listed c.in_ok-files.files.items) c.in_ok-files.ensures ∙ ap (map shown_listed) (sym c.as_slice-file-items.ensures.value) in
    let next = next_file xs c.loop-file.file-index r (subst IsNameMap listed (subst (λ t. IsNameMap t.files) c.self.view_is c.self.invariant)) c.loop-file-test.true c.file-item.is in
    refused_alone c.args.self.now.files (take (c.loop-file.file-index + 1) (map shown_listed xs)) _ c.from_residual-in_err-modify.result c.in_err-modify.field-0.0 c.from_residual-in_err-modify.ensures.0 c.from_residual-in_err-modify.ensures.1
    (ap (λ f. modified f r.0 (r.1, r.2.bytes)) c.loop-file.invariant.0 ∙ next.1) c.in_err-modify.ensures.map

pub loop-file-preserved : goal.loop-file-preserved
loop-file-preserved g c =
    let xs = c.as_slice-file-items.result.now in
    let r = c.file-item.result in
    let listed : c.args.self.now.files ≡ map shown_listed xs = same_ok c.args.self.now.files (map shown_listed c.in_ok-files.files.items) c.in_ok-files.ensures ∙ ap (map shown_listed) (sym c.as_slice-file-items.ensures.value) in
    let next = next_file xs c.loop-file.file-index r (subst IsNameMap listed (subst (λ t. IsNameMap t.files) c.self.view_is c.self.invariant)) c.loop-file-test.true c.file-item.is in (
      same_ok _ _ (sym c.in_ok-modify.ensures.map ∙ ap (λ f. modified f r.0 (r.1, r.2.bytes)) c.loop-file.invariant.0 ∙ next.1),
      λ name rs h. c.modify.ensures.home name rs (c.loop-file.invariant.1 name rs h),
    )
