-- The commits of refs, put into a front one after the other.
use Rattle.std.proofs.Common.{◌≡◌, ℕ, zero, suc, ◌+◌, ◌<◌, sym, ap, subst, ◌∙◌, arith, List, [], ◌∷◌, length, take, get_or, Option, Some, None}
use Rattle.std.specs.Prelude.{IfSome}
use Rattle.std.specs.BTreeMap.{insert_entry}
use Rattle.std.specs.List.{AllByRecursion}
use Rattle.std.specs.Ordering.{nat_cmp}
use Rattle.std.proofs.Math.Seq.{take-suc}
use Rattle.gx_model.specs.declared.objects.Kind.{Kind}
use Rattle.gx_model.specs.Histories.{Records}
use Rattle.gx_model.specs.Objects.{IsNamer}
use Rattle.gx_model.specs.Records.Sound.{IsSound}
use Rattle.gx_model.specs.Texts.{Bytes}
use Rattle.gx_object.specs.declared.name.Name.{Name}
use Rattle.gx_ranges.specs.Fronts as fronts
use Rattle.gx_ranges.proofs.Steps.{StandsInOrder}
use Rattle.gx_ranges.proofs.Tips.{tips_inserted}
use Rattle.gx_tips.specs.Tips.{AreTips, IsTip}
use Rattle.gx_tips.specs.declared.tips.Tip.{Tip}
use Rattle.gx_tips.proofs.Lists.{holds_for, with_one_more}
use Rattle.gx_ref_filters.specs.Steps.{HoldsRef, HoldsRefs}
use Rattle.gx_ref_filters.proofs.Fronts.{kept_from, new_from}

-- what holds of each holds of the one at a place
held_within : {X : Type 0} (P : X → Type 0) (xs : List X) (i : ℕ) (d : X) → i < length xs → AllByRecursion P xs → P (get_or xs i d)
held_within P [] i d l h = absurd (omega (arith, l))
held_within P (x ∷ xs) zero d l h = h.0
held_within P (x ∷ xs) (suc i) d l h = held_within P xs i d (omega (arith, l)) h.1

pub no_refs_held : (stands : ℕ → ℕ) (told : Option Records) (refs : List Tip) (front : List (ℕ × Name)) → front ≡ [] → IfSome told (λ r. HoldsRefs stands (take 0 refs) r front)
no_refs_held stands None refs front e = tt
no_refs_held stands (Some r) [] front e = subst (HoldsRefs stands [] r) (sym e) (record { tips = tt; each = tt })
no_refs_held stands (Some r) (x ∷ xs) front e = subst (HoldsRefs stands [] r) (sym e) (record { tips = tt; each = tt })

pub one_ref_held : (name : Kind → Bytes → Bytes) → IsNamer name → (stands : ℕ → ℕ) (told : Option Records) (refs : List Tip) (i : ℕ) (d : Tip) (now new : List (ℕ × Name)) → i < length refs
    → new ≡ insert_entry nat_cmp now (get_or refs i d).place (get_or refs i d).commit → IfSome told (IsSound name) → IfSome told (StandsInOrder stands) → IfSome told (AreTips stands refs)
    → IfSome told (λ r. HoldsRefs stands (take i refs) r now) → IfSome told (λ r. HoldsRefs stands (take (i + 1) refs) r new)
one_ref_held name namer stands None refs i d now new l e s o t h = tt
one_ref_held name namer stands (Some r) refs i d now new l e s o t h =
    let tip = get_or refs i d in
    let is = held_within (IsTip stands r) refs i d l t in
    let there : fronts.IsTip stands r (tip.place, tip.commit) = (is.commit, is.place) in
    let taken = ap (λ n. take n refs) (let n : i + 1 ≡ suc i = omega arith in n) ∙ take-suc refs i d l in
    subst (HoldsRefs stands (take (i + 1) refs) r) (sym e) (record {
      tips = tips_inserted name namer r s stands o tip.place tip.commit now there h.tips;
      each = subst (AllByRecursion (HoldsRef r (insert_entry nat_cmp now tip.place tip.commit))) (sym taken)
          (with_one_more (HoldsRef r (insert_entry nat_cmp now tip.place tip.commit)) (take i refs) tip
          (holds_for (HoldsRef r now) (HoldsRef r (insert_entry nat_cmp now tip.place tip.commit)) (λ x f goal g. kept_from name namer r s stands o tip.place tip.commit now goal x.place there h.tips (f goal g)) (take i refs) h.each)
          (λ goal g. new_from name namer r s stands o tip.place tip.commit now goal g));
    })
