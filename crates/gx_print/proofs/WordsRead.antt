-- What is printed of words that are read and then evaluated, one after the other.
use Rattle.std.proofs.Common.{ap, ◌≡◌, refl, ◌∙◌, List, [], ◌∷◌, ◌++◌, map}
use Rattle.std.specs.List.{AllByRecursion, flat_map}
use Rattle.gx_model.specs.declared.objects.Kind.{Kind}
use Rattle.gx_model.specs.Texts.{Bytes}
use Rattle.gx_model.specs.Histories.{Records}
use Rattle.gx_model.specs.Objects.{hex}
use Rattle.gx_rev.specs.Answers.{IsNamed, shown_by}
use Rattle.gx_rev.specs.declared.shown.Shown.{Shown as Answer}
use Rattle.gx_rev.specs.declared.shown.Shown.TheVariants.{Object, Submodule}
use Rattle.gx_print.specs.Stored.{name_line, shown_line}

-- one more of which something holds
pub all_push : {X : Type 0} (P : X → Type 0) (xs : List X) (x : X) → AllByRecursion P xs → P x → AllByRecursion P (xs ++ x ∷ [])
all_push P [] x h k = (k, tt)
all_push P (y ∷ ys) x h k = (h.0, all_push P ys x h.1 k)

-- the lines of what is shown are those of the values' names
pub lines_named : (name : Kind → Bytes → Bytes) (repository : Records) (shown : List Answer) → AllByRecursion (IsNamed name repository) shown → flat_map shown_line shown ≡ flat_map (name_line name) (map (shown_by repository) shown)
lines_named name repository [] h = refl
lines_named name repository (Object kind called ∷ shown) h = let e = lines_named name repository shown h.1 in ap (λ n. (hex n ++ 10 ∷ []) ++ flat_map shown_line shown) h.0.1 ∙ ap (λ x. name_line name (shown_by repository (Object kind called)) ++ x) e
lines_named name repository (Submodule called ∷ shown) h = ap (λ x. (hex called.bytes ++ 10 ∷ []) ++ x) (lines_named name repository shown h.1)
