-- Tips of refs, one ref after the other.
use Rattle.std.proofs.Common.{◌≡◌, ℕ, Bool, true, false, refl, sym, ap, subst, ◌∙◌, List, [], ◌∷◌, ◌++◌, map, Some, append_assoc}
use Rattle.std.proofs.lemmas.List.{map-append}
use Rattle.std.specs.Prelude.{◌||◌}
use Rattle.gx_model.specs.declared.objects.Kind.{Kind}
use Rattle.gx_model.specs.Texts.{Bytes}
use Rattle.gx_model.specs.Histories.Values.{Commit}
use Rattle.gx_model.specs.Histories.{Records, Target}
use Rattle.gx_model.specs.Objects.{IsNamer}
use Rattle.gx_model.specs.Export.{is_reached}
use Rattle.gx_model.specs.Records.HistoryOf.{commit_of_value, target_in, value_of_name}
use Rattle.gx_model.specs.Records.Lookups.{commit_named}
use Rattle.gx_model.specs.Records.Sound.{IsSound, IsTarget}
use Rattle.gx_model.specs.Replay.{peeled_at}
use Rattle.gx_model.specs.Revisions.Ranges.{reaches}
use Rattle.gx_model.proofs.Records.HeldValues.{peeled_to}
use Rattle.gx_model.proofs.Records.PeeledRefs.{target_peels, told}
use Rattle.gx_rev.specs.Tips.{AddsTips, AreTips}
use Rattle.gx_rev.proofs.Tips.{or_assoc, same_tips}

or_false : (b : Bool) → (false || b) ≡ (b || false)
or_false true = refl
or_false false = refl

-- what the refs reach, with one ref more
one_more : (refs : List (Bytes × Target)) (ref : Bytes × Target) (d : Commit) → (is_reached refs d || reaches (peeled_at ref.1) d) ≡ is_reached (refs ++ ref ∷ []) d
one_more [] ref d = or_false (reaches (peeled_at ref.1) d)
one_more (q ∷ refs) ref d = or_assoc (reaches (peeled_at q.1) d) (is_reached refs d) (reaches (peeled_at ref.1) d) ∙ ap (λ b. reaches (peeled_at q.1) d || b) (one_more refs ref d)

-- one ref of the repository more, whose commit is marked
pub next_ref : (r : Records) (before rest next : List (Bytes × Bytes)) (ref : Bytes × Bytes) (marks new : List Bool) (c : Commit) → r.refs ≡ before ++ rest → rest ≡ ref ∷ next → c ≡ peeled_at (told r ref).1
    → AreTips r (is_reached (map (told r) before)) marks → AddsTips r (reaches c) marks new → (all : List (Bytes × Bytes)) × (r.refs ≡ all ++ next) × AreTips r (is_reached (map (told r) all)) new
next_ref r before rest next ref marks new c e f same a more = (
  before ++ ref ∷ [],
  e ∙ ap (λ x. before ++ x) f ∙ sym (append_assoc before (ref ∷ []) next),
  subst (λ refs. AreTips r (is_reached refs) new) (sym (map-append (told r) before (ref ∷ [])))
      (same_tips r _ _ new (λ d. ap (λ b. is_reached (map (told r) before) d || reaches b d) same ∙ one_more (map (told r) before) (told r ref) d) (more (is_reached (map (told r) before)) a)),
)

-- the commit that a ref's object peels to
pub tip_is : (name : Kind → List ℕ → List ℕ) (namer : IsNamer name) (r : Records) (sound : IsSound name r) (ref n c : Bytes) → IsTarget r.records ref n → Some c ≡ commit_named r.records n → commit_of_value (value_of_name r.records c) ≡ peeled_at (target_in (value_of_name r.records n))
tip_is name namer r sound ref n c h e =
    let p = target_peels name namer r sound ref n h in
    let both = sym (peeled_to name namer r sound n c p.held e).0 ∙ p.to in
    cc both
