-- Items as the code has them, taken apart one after the other.
use Rattle.std.proofs.Common.{◌≡◌, ℕ, ◌+◌, List, [], ◌∷◌, ◌++◌, append-nil, length, map, refl, sym, ap, subst, ◌∙◌, arith}
use Rattle.std.specs.declared.vec.Vec.{Vec}
use Rattle.std.proofs.lemmas.List.{length-map, map-append}
use Rattle.gx_store.specs.Bodies.{bytes_of}
use Rattle.gx_offered.specs.Items.{shown_offer, shown_offered}
use Rattle.gx_offered.specs.declared.offered.Offered.{Offered}
use Rattle.gx_offered.specs.declared.offered.Offered.TheVariants as offered
use Rattle.gx_offered.specs.declared.offered.OfferedObject.{OfferedObject}
use Rattle.gx_offered.specs.declared.offered.OfferedRef.{OfferedRef}
use Rattle.gx_placed.specs.Places.{shown_object}
use Rattle.gx_taken.specs.Parts.{ArePartsOf, ref_offered, shown_label, shown_labels, shown_ref_item, shown_ref_items}
use Rattle.gx_taken.specs.declared.parts.Label.{Label}
use Rattle.gx_taken.specs.declared.parts.Parts.{Parts}
use Rattle.gx_taken.specs.declared.parts.RefItem.{RefItem}
use Rattle.gx_taken.proofs.Splits.{AreSplit, none_split, object_split, ref_split}

-- a list of no length
pub empty : {X : Type 0} (xs : List X) → length xs ≡ 0 → xs ≡ []
empty [] e = refl
empty (x ∷ xs) e = absurd (omega (arith, e))

module _ {A : Type 0} where
  abbrev pub AreSplitOff : List (Offered A) → List (Offered A) → List (OfferedObject A) → List Label → List (RefItem A) → Type 0
  AreSplitOff all rest objects labels refs = AreSplit (map shown_offered all) (map shown_offered rest) (map shown_object objects) (shown_labels labels) (shown_ref_items refs)

  pub start : (all rest : List (Offered A)) (objects : List (OfferedObject A)) (labels : List Label) (refs : List (RefItem A)) → rest ≡ all → objects ≡ [] → labels ≡ [] → refs ≡ [] → AreSplitOff all rest objects labels refs
  start all rest objects labels refs e f g h =
      subst (λ rs. AreSplitOff all rs objects labels refs) (sym e)
      (subst (λ os. AreSplitOff all all os labels refs) (sym f)
      (subst (λ ls. AreSplitOff all all [] ls refs) (sym g)
      (subst (λ rs. AreSplitOff all all [] [] rs) (sym h) (none_split (map shown_offered all)))))

  module _ (all rest next : List (Offered A)) (item : Offered A) (objects : List (OfferedObject A)) (labels : List Label) (refs : List (RefItem A)) (behind : rest ≡ item ∷ next) (h : AreSplitOff all rest objects labels refs) where
    first : (shown : Offered A) → item ≡ shown → AreSplitOff all (shown ∷ next) objects labels refs
    first shown is = subst (λ rs. AreSplitOff all rs objects labels refs) (behind ∙ ap (λ i. i ∷ next) is) h

    counted : (number : ℕ) → number ≡ length labels + length refs + 1 → length (shown_labels labels) + length (shown_ref_items refs) + 1 ≡ number
    counted number e = ap (λ n. n + length (shown_ref_items refs) + 1) (length-map labels shown_label) ∙ ap (λ n. length labels + n + 1) (length-map refs shown_ref_item) ∙ sym e

    -- one object more
    pub object_off : (one : OfferedObject A) (label : Label) (now : List (OfferedObject A)) (told : List Label) → item ≡ offered.Object one → label.number ≡ length labels + length refs + 1 → label.name ≡ one.name
        → now ≡ objects ++ one ∷ [] → told ≡ labels ++ label ∷ [] → AreSplitOff all next now told refs
    object_off one label now told is number name made pushed =
        let split = object_split (map shown_offered all) (map shown_offered next) (map shown_object objects) (shown_labels labels) (shown_ref_items refs) one.kind one.name.bytes (bytes_of one.body) (first (offered.Object one) is) in
        let labelled : (length (shown_labels labels) + length (shown_ref_items refs) + 1, one.name.bytes) ≡ shown_label label = λ i. (counted label.number number i, (sym name i).bytes) in
        subst (λ os. AreSplit (map shown_offered all) (map shown_offered next) os (shown_labels told) (shown_ref_items refs)) (sym (ap (map shown_object) made ∙ map-append shown_object objects (one ∷ [])))
        (subst (λ ls. AreSplit (map shown_offered all) (map shown_offered next) (map shown_object objects ++ shown_object one ∷ []) ls (shown_ref_items refs))
        (ap (λ l. shown_labels labels ++ l ∷ []) labelled ∙ sym (ap shown_labels pushed ∙ map-append shown_label labels (label ∷ []))) split)

    -- one ref more
    pub ref_off : (one : OfferedRef A) (ref : RefItem A) (now : List (RefItem A)) → item ≡ offered.Ref one → ref.number ≡ length labels + length refs + 1 → ref.offered ≡ one → now ≡ refs ++ ref ∷ []
        → AreSplitOff all next objects labels now
    ref_off one ref now is number same made =
        let split = ref_split (map shown_offered all) (map shown_offered next) (map shown_object objects) (shown_labels labels) (shown_ref_items refs) one.object.bytes (bytes_of one.name) (first (offered.Ref one) is) in
        let told : (length (shown_labels labels) + length (shown_ref_items refs) + 1, ref_offered one) ≡ shown_ref_item ref = λ i. (counted ref.number number i, ref_offered (sym same i)) in
        subst (λ rs. AreSplit (map shown_offered all) (map shown_offered next) (map shown_object objects) (shown_labels labels) rs)
        (ap (λ r. shown_ref_items refs ++ r ∷ []) told ∙ sym (ap shown_ref_items made ∙ map-append shown_ref_item refs (ref ∷ []))) split

  -- none is left
  pub all_off : (items : Vec (Offered A) A) (rest : List (Offered A)) (parts : Parts A) → rest ≡ [] → AreSplitOff items.items rest parts.objects.items parts.labels.items parts.refs.items → ArePartsOf (shown_offer items) parts
  all_off items rest parts none h =
      let end = subst (λ rs. AreSplitOff items.items rs parts.objects.items parts.labels.items parts.refs.items) none h in record {
        objects = sym (append-nil (map shown_object parts.objects.items)) ∙ end.objects_are;
        labels = sym (append-nil (shown_labels parts.labels.items)) ∙ end.labels_are;
        refs = sym (append-nil (shown_ref_items parts.refs.items)) ∙ end.refs_are;
      }
