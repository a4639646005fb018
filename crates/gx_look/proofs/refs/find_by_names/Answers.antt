use Rattle.std.proofs.Common.{ap, ◌∙◌, ◌++◌, append-nil, codes, drop}
use Rattle.std.specs.Map.{lookup}
use Rattle.std.specs.Option.{option_or}
use Rattle.gx_model.specs.Texts.{same_bytes}
use Rattle.gx_model.specs.Records.Lookups.{first_named}
use Rattle.gx_model.specs.Revisions.Denotation.{ref_names}
use Rattle.gx_look.proofs.refs.find_by_names.Goals as goal

pub returns-in-Some-find-2 : goal.returns-in-Some-find-2
returns-in-Some-find-2 c = λ refs h.
    let n = c.args.word.now in
    let one = c.in_default.ensures refs h ∙ ap (λ z. lookup (same_bytes z) refs) (append-nil n) in
    let two = c.in_default-find.ensures refs h ∙ ap (λ z. lookup (same_bytes z) refs) (append-nil (codes "refs/" ++ n)) in
    let three = c.in-Some-find-2.ensures refs h ∙ ap (λ z. lookup (same_bytes z) refs) (append-nil (codes "refs/tags/" ++ n)) in
    λ i. option_or (one i) (option_or (two i) (option_or (three i) (first_named refs (drop 3 (ref_names n)))))

pub returns : goal.returns
returns c = λ refs h.
    let n = c.args.word.now in
    let one = c.in_default.ensures refs h ∙ ap (λ z. lookup (same_bytes z) refs) (append-nil n) in
    let two = c.in_default-find.ensures refs h ∙ ap (λ z. lookup (same_bytes z) refs) (append-nil (codes "refs/" ++ n)) in
    let three = c.in_default-find-2.ensures refs h ∙ ap (λ z. lookup (same_bytes z) refs) (append-nil (codes "refs/tags/" ++ n)) in
    c.find_branch.ensures refs h ∙ (λ i. option_or (one i) (option_or (two i) (option_or (three i) (first_named refs (drop 3 (ref_names n))))))
