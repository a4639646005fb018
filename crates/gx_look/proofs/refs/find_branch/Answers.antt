use Rattle.std.proofs.Common.{◌≡◌, refl, sym, ap, ◌∙◌, ◌++◌, append-nil, codes, [], ◌∷◌, Option, Some, None}
use Rattle.std.specs.Map.{lookup}
use Rattle.std.specs.Option.{option_or}
use Rattle.gx_model.specs.Texts.{Bytes, same_bytes}
use Rattle.gx_model.specs.Records.Lookups.{first_named}
use Rattle.gx_look.proofs.refs.find_branch.Goals as goal

or_none : (o : Option Bytes) → option_or o None ≡ o
or_none None = refl
or_none (Some x) = refl

pub returns-in-Some : goal.returns-in-Some
returns-in-Some c = λ refs h.
    let n = c.args.word.now in
    let one = c.in-Some.ensures refs h ∙ ap (λ z. lookup (same_bytes z) refs) (append-nil (codes "refs/heads/" ++ n)) in
    λ i. option_or (one i) (first_named refs ((codes "refs/remotes/" ++ n) ∷ (codes "refs/remotes/" ++ n ++ codes "/HEAD") ∷ []))

pub returns-in-Some-find : goal.returns-in-Some-find
returns-in-Some-find c = λ refs h.
    let n = c.args.word.now in
    let one = c.in_default.ensures refs h ∙ ap (λ z. lookup (same_bytes z) refs) (append-nil (codes "refs/heads/" ++ n)) in
    let two = c.in-Some-find.ensures refs h ∙ ap (λ z. lookup (same_bytes z) refs) (append-nil (codes "refs/remotes/" ++ n)) in
    λ i. option_or (one i) (option_or (two i) (first_named refs ((codes "refs/remotes/" ++ n ++ codes "/HEAD") ∷ [])))

pub returns : goal.returns
returns c = λ refs h.
    let n = c.args.word.now in
    let one = c.in_default.ensures refs h ∙ ap (λ z. lookup (same_bytes z) refs) (append-nil (codes "refs/heads/" ++ n)) in
    let two = c.in_default-find.ensures refs h ∙ ap (λ z. lookup (same_bytes z) refs) (append-nil (codes "refs/remotes/" ++ n)) in
    c.find-3.ensures refs h ∙ sym (or_none (lookup (same_bytes (codes "refs/remotes/" ++ n ++ codes "/HEAD")) refs)) ∙ (λ i. option_or (one i) (option_or (two i) (first_named refs ((codes "refs/remotes/" ++ n ++ codes "/HEAD") ∷ []))))
