-- What a push leaves, where each ref may become of what it was whatever it is then.
use Rattle.std.proofs.Common.{◌≡◌, ℕ, ◌+◌, true, List, [], ◌∷◌, length, None, Some, Ok, Err, refl, ap, ◌∙◌}
use Rattle.std.specs.Prelude.{if◌then◌else◌}
use Rattle.std.specs.List.{AllByRecursion}
use Rattle.gx_model.specs.Histories.{Records}
use Rattle.gx_model.specs.Records.Publishing.{Ref}
use Rattle.gx_push.specs.declared.fault.RefFault.TheVariants.{RefMoved}
use Rattle.gx_push.specs.Forward.{first_lost}
use Rattle.gx_push.specs.Pushes.{are_kept, pushed, unless_refused, vanishing}
use Rattle.gx_push.specs.Wants.{Wanted, refs_of}
use Rattle.gx_repo.specs.Dropping.{without}
use Rattle.gx_repo.specs.Refs.{object_named}
use Rattle.gx_growing_push.specs.Wanting.{IsFree}

-- none loses commits
none_lost : (r : Records) (number : ℕ) (wants : List Wanted) → AllByRecursion IsFree wants → first_lost r number wants ≡ None
none_lost r number [] h = refl
none_lost r number (w ∷ ws) h =
    ap (λ b. if b then first_lost r (number + 1) ws else Some number) (h.0 r (object_named r.refs w.ref)) ∙ none_lost r (number + 1) ws h.1

-- so those are left that aren't removed
pub those_left : (before made : List Ref) (wants : List Wanted) → AllByRecursion IsFree wants → are_kept (refs_of wants) before made ≡ true
    → (r : Records) → r.refs ≡ made → pushed before r wants ≡ Ok (without (vanishing made wants) made)
those_left before made wants free kept r e =
    ap (unless_refused before r wants) (none_lost r 1 wants free)
    ∙ ap (λ refs. if are_kept (refs_of wants) before refs then Ok (without (vanishing refs wants) refs) else Err (length wants + 1, RefMoved)) e
    ∙ ap (λ b. if b then Ok (without (vanishing made wants) made) else Err (length wants + 1, RefMoved)) kept
