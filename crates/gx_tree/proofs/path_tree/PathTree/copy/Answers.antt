use Rattle.std.proofs.Common.{Ok, sym, ap, ◌∙◌, subst}
use Rattle.gx_model.specs.Histories.Edits.{copied, copy_fault}
use Rattle.gx_model.specs.Objects.NameMaps.{IsNameMap}
use Rattle.gx_tree.specs.Calls.{Becomes}
use Rattle.gx_tree.specs.Copies.{graft_fault, shown_held}
use Rattle.gx_tree.specs.Faults.{Refuses}
use Rattle.gx_tree.specs.Named.{IsAtHome}
use Rattle.gx_tree.specs.Nodes.{IsKept, kept_map}
use Rattle.gx_tree.specs.Steps.{grafted}
use Rattle.gx_tree.specs.Views.{root_tree}
use Rattle.gx_tree.proofs.CopyLaws.{fault_passed, refusal_passed, copied_there}
use Rattle.gx_tree.proofs.Homes.{files_same}
use Rattle.gx_tree.proofs.NamedFiles.{names-copied}
use Rattle.gx_tree.proofs.path_tree.PathTree.copy.Goals as goal

pub returns-in_err-held-clause-map : goal.returns-in_err-held-clause-map
returns-in_err-held-clause-map g c =
    let same = files_same (ap root_tree (sym c.in-Some.is) ∙ c.self.view_is) in
    subst (λ f. Becomes c.in-Some.root c.from_residual.result (copied f c.args.source.now c.args.destination.now)) same
    (fault_passed (copy_fault c.in-Some.root.files c.args.source.now c.args.destination.now) _ c.in-Some.root c.from_residual.result c.in_err-held.field-0.0 c.from_residual.ensures.0 c.from_residual.ensures.1 c.in_err-held.ensures.refused)

pub returns-in_err-held-clause-refused : goal.returns-in_err-held-clause-refused
returns-in_err-held-clause-refused g c =
    let same = files_same (ap root_tree (sym c.in-Some.is) ∙ c.self.view_is) in
    subst (λ f. Refuses (copied f c.args.source.now c.args.destination.now) c.from_residual.result) same
    (refusal_passed (copy_fault c.in-Some.root.files c.args.source.now c.args.destination.now) _ c.from_residual.result c.in_err-held.field-0.0 c.from_residual.ensures.0 c.from_residual.ensures.1 c.in_err-held.ensures.refused)

pub returns-in_err-item-clause-refused : goal.returns-in_err-item-clause-refused
returns-in_err-item-clause-refused g c =
    let same = files_same (ap root_tree (sym c.in-Some.is) ∙ c.self.view_is) in
    let held = c.in_ok-held.ensures.held in
    let there = copied_there c.in-Some.root.files c.args.source.now c.args.destination.now (shown_held c.in_ok-held.held) held.0 held.1 c.in_ok-held.ensures.fits in
    subst (λ d. Refuses {Y = Unit {0}} d c.from_residual-in_err-item.result) (sym there ∙ ap (λ f. copied f c.args.source.now c.args.destination.now) same) tt

pub returns-in_err-place-clause-refused : goal.returns-in_err-place-clause-refused
returns-in_err-place-clause-refused g c =
    let same = files_same (ap root_tree (sym c.in-Some.is) ∙ c.self.view_is) in
    let held = c.in_ok-held.ensures.held in
    let there = copied_there c.in-Some.root.files c.args.source.now c.args.destination.now (shown_held c.in_ok-held.held) held.0 held.1 c.in_ok-held.ensures.fits in
    subst (λ d. Refuses {Y = Unit {0}} d c.from_residual-in_err-place.result) (sym there ∙ ap (λ f. copied f c.args.source.now c.args.destination.now) same) tt

pub place-requires : goal.place-requires
place-requires g c = record {
  kept = subst IsKept (sym c.in_ok-item.ensures.kept) c.in_ok-held.ensures.held.1;
  fits = ap (λ k. graft_fault k c.args.destination.now) c.in_ok-item.ensures.kept ∙ c.in_ok-held.ensures.fits;
}

pub returns-clause-map : goal.returns-clause-map
returns-clause-map g c =
    let f = c.in-Some.root.files in
    let held = c.in_ok-held.ensures.held in
    let same = files_same (ap root_tree (sym c.in-Some.is) ∙ c.self.view_is) in
    let is = c.in_ok-place.ensures.files ∙ ap (λ k. grafted c.args.destination.now (kept_map k) f) c.in_ok-item.ensures.kept in
    ap (λ f. copied f c.args.source.now c.args.destination.now) (sym same)
    ∙ copied_there f c.args.source.now c.args.destination.now (shown_held c.in_ok-held.held) held.0 held.1 c.in_ok-held.ensures.fits ∙ ap Ok (sym is)

pub returns-clause-refused : goal.returns-clause-refused
returns-clause-refused g c = subst (λ d. Refuses {Y = Unit {0}} d (Ok tt)) (sym (returns-clause-map g c)) tt

pub invariant_of-self-2 : goal.invariant_of-self-2
invariant_of-self-2 g c =
    let f = c.in-Some.root.files in
    let held = c.in_ok-held.ensures.held in
    let is = c.in_ok-place.ensures.files ∙ ap (λ k. grafted c.args.destination.now (kept_map k) f) c.in_ok-item.ensures.kept in
    names-copied f (kept_map (shown_held c.in_ok-held.held)) c.place.new.self.files c.args.source.now c.args.destination.now c.in_ok-held.ensures.path held.0 is
    (copied_there f c.args.source.now c.args.destination.now (shown_held c.in_ok-held.held) held.0 held.1 c.in_ok-held.ensures.fits ∙ ap Ok (sym is))
    (subst (λ r. IsNameMap (root_tree r).files) c.in-Some.is c.self.invariant)

pub returns-clause-home : goal.returns-clause-home
returns-clause-home g c name rs h =
    let at = subst (IsAtHome name rs) (sym (ap root_tree (sym c.in-Some.is) ∙ c.self.view_is)) h in
    c.in_ok-place.ensures.home name rs (c.in_ok-item.ensures.home name rs (c.in_ok-held.ensures.home name rs at), at)
