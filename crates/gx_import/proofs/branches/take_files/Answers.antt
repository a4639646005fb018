use Rattle.std.proofs.Common.{map, refl, sym, subst, ap, ◌∙◌, inl}
use Rattle.std.specs.Map.{lookup}
use Rattle.std.specs.Ordering.{is_eq}
use Rattle.gx_model.specs.Texts.{byte_cmp, same_bytes}
use Rattle.gx_import.specs.Rows.{AreRows, row_of}
use Rattle.gx_import.specs.Standing.{IsTaken}
use Rattle.gx_import.proofs.SortedRows.{found_at}
use Rattle.gx_import.proofs.RelatedRows.{related_written, related_itself, some_more, sorted_same}
use Rattle.gx_import.proofs.branches.take_files.Goals as goal

-- there is no such branch
pub returns-in_err-tip-clause-taken : goal.returns-in_err-tip-clause-taken
returns-in_err-tip-clause-taken g c =
    let was = c.args.branches.now in
    subst (λ rows. AreRows IsTaken was (map row_of rows.entries)) (sym c.get_mut.follows.holds-at-none)
    (subst (AreRows IsTaken was) (sym c.branches.view_is) (related_itself IsTaken (λ t. (refl, refl, inl refl)) was))

pub returns-clause-taken : goal.returns-clause-taken
returns-clause-taken g c =
    let es = c.branches.inside.rows.entries in
    let written = related_written IsTaken (λ t. (refl, refl, inl refl)) (λ k. is_eq (byte_cmp c.args.name.now k.items)) es c.in_ok-tip.tip.now c.take_files.new.self (sym c.in_ok-tip.ensures.value) c.take_files.ensures.taken in
    let all = subst (λ ws. AreRows IsTaken (map row_of es) (map row_of ws)) (sym (c.get_mut.follows.holds c.take_files.new.self).0) written in
    subst (λ was. AreRows IsTaken was (map row_of (c.get_mut.follows.lender c.take_files.new.self).entries)) c.branches.view_is all

pub invariant_of-branches-2 : goal.invariant_of-branches-2
invariant_of-branches-2 g c =
    let es = c.branches.inside.rows.entries in
    let written = related_written IsTaken (λ t. (refl, refl, inl refl)) (λ k. is_eq (byte_cmp c.args.name.now k.items)) es c.in_ok-tip.tip.now c.take_files.new.self (sym c.in_ok-tip.ensures.value) c.take_files.ensures.taken in
    let all = subst (λ ws. AreRows IsTaken (map row_of es) (map row_of ws)) (sym (c.get_mut.follows.holds c.take_files.new.self).0) written in
    sym (sorted_same IsTaken _ _ all) ∙ c.branches.invariant

pub returns-clause-files : goal.returns-clause-files
returns-clause-files g c =
    let n = c.args.name.now in
    let es = c.branches.inside.rows.entries in
    let found = ap (lookup (same_bytes n)) (sym c.branches.view_is) ∙ sym (found_at n es) ∙ sym c.in_ok-tip.ensures.value in
    some_more _ _ c.take_files.result (λ f h. (c.in_ok-tip.tip.now, found, h)) c.take_files.ensures.files
