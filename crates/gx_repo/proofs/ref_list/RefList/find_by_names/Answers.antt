use Rattle.std.proofs.Common.{ap, ◌∙◌, ◌++◌, append-nil, codes, drop}
use Rattle.std.specs.Map.{lookup}
use Rattle.gx_model.specs.Texts.{same_bytes}
use Rattle.gx_model.specs.Records.Lookups.{first_named}
use Rattle.std.specs.Option.{option_or}
use Rattle.gx_model.specs.Revisions.Denotation.{ref_names}
use Rattle.gx_repo.proofs.ref_list.RefList.find_by_names.Goals as goal

pub returns-in-Some : goal.returns-in-Some
returns-in-Some g c =
    let n = c.args.word.now in
    let refs = c.args.self.now in
    let one = c.in-Some.ensures ∙ ap (λ z. lookup (same_bytes z) refs) (append-nil n) in
    λ i. option_or (one i) (first_named refs (drop 1 (ref_names n)))

pub returns-in-Some-find : goal.returns-in-Some-find
returns-in-Some-find g c =
    let n = c.args.word.now in
    let refs = c.args.self.now in
    let one = c.in_default.ensures ∙ ap (λ z. lookup (same_bytes z) refs) (append-nil n) in
    let two = c.in-Some-find.ensures ∙ ap (λ z. lookup (same_bytes z) refs) (append-nil (codes "refs/" ++ n)) in
    λ i. option_or (one i) (option_or (two i) (first_named refs (drop 2 (ref_names n))))

pub returns-in-Some-find-2 : goal.returns-in-Some-find-2
returns-in-Some-find-2 g c =
    let n = c.args.word.now in
    let refs = c.args.self.now in
    let one = c.in_default.ensures ∙ ap (λ z. lookup (same_bytes z) refs) (append-nil n) in
    let two = c.in_default-find.ensures ∙ ap (λ z. lookup (same_bytes z) refs) (append-nil (codes "refs/" ++ n)) in
    let three = c.in-Some-find-2.ensures ∙ ap (λ z. lookup (same_bytes z) refs) (append-nil (codes "refs/tags/" ++ n)) in
    λ i. option_or (one i) (option_or (two i) (option_or (three i) (first_named refs (drop 3 (ref_names n)))))

pub returns : goal.returns
returns g c =
    let n = c.args.word.now in
    let refs = c.args.self.now in
    let one = c.in_default.ensures ∙ ap (λ z. lookup (same_bytes z) refs) (append-nil n) in
    let two = c.in_default-find.ensures ∙ ap (λ z. lookup (same_bytes z) refs) (append-nil (codes "refs/" ++ n)) in
    let three = c.in_default-find-2.ensures ∙ ap (λ z. lookup (same_bytes z) refs) (append-nil (codes "refs/tags/" ++ n)) in
    c.find_branch.ensures ∙ (λ i. option_or (one i) (option_or (two i) (option_or (three i) (first_named refs (drop 3 (ref_names n))))))
