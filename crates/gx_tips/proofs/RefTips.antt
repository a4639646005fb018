-- Refs line by line, with the commits that they hold.
use Rattle.std.proofs.Common.{◌≡◌, ℕ, refl, sym, ap, subst, ◌∙◌, List, [], ◌∷◌, ◌++◌, map, Option, Some, None, Ok, append_assoc, append-nil}
use Rattle.std.specs.Prelude.{IfSome}
use Rattle.std.specs.List.{flat_map}
use Rattle.std.proofs.lemmas.List.{map-append}
use Rattle.gx_model.specs.declared.objects.Kind.{Kind}
use Rattle.gx_model.specs.declared.objects.Kind.TheVariants as kinds
use Rattle.gx_model.specs.Histories.{Records}
use Rattle.gx_model.specs.Objects.{IsNamer}
use Rattle.gx_model.specs.Records.Sound.{IsSound}
use Rattle.gx_model.specs.Revisions.Denotation.{commit_in}
use Rattle.gx_model.specs.Stores.StoreText.{stored_ref}
use Rattle.gx_model.specs.Texts.{Bytes}
use Rattle.gx_object.specs.declared.name.Name.{Name}
use Rattle.gx_objects.specs.Answers.{StandsThere}
use Rattle.gx_rev.specs.Objects.{IsHeld, IsHeldAs, commit_at, value_at}
use Rattle.gx_ranges.specs.Refs.{IsPeeled, first_ref}
use Rattle.gx_ranges.proofs.RefLines.{IsPeeling, cut_first, none_behind, object_peels, peeling}
use Rattle.gx_tips.specs.Tips.{AreAllRefs, AreTips, IsTip, shown_tip}
use Rattle.gx_tips.specs.declared.tips.Tip.{Tip}
use Rattle.gx_tips.proofs.Lists.{with_one_more}

-- the first refs are these, and the others' lines are to be read
pub record AreRead (stands : ℕ → ℕ) (r : Records) (text : Bytes) (found : List Tip) : Type 0 where
  pub left : List (Bytes × Bytes)
  pub refs : r.refs ≡ map shown_tip found ++ left
  pub lines : text ≡ flat_map stored_ref left
  pub each : AreTips stands found r

-- the next line is that of a ref, whose object peels to a commit
record IsNext (stands : ℕ → ℕ) (r : Records) (text : Bytes) (found : List Tip) : Type 0 where
  ref : Bytes × Bytes
  rest : Bytes
  line : text ≡ stored_ref ref ++ rest
  is : IsPeeling r ref
  then_read : (tip : Tip) → shown_tip tip ≡ ref → IsTip stands r tip → AreRead stands r rest (found ++ tip ∷ [])

module _ (stands : ℕ → ℕ) where
  pub lines_begin : (told : Option Records) (text : Bytes) (found : List Tip) → found ≡ [] → IfSome told (λ r. text ≡ flat_map stored_ref r.refs) → IfSome told (λ r. AreRead stands r text found)
  lines_begin None text found e t = tt
  lines_begin (Some r) text found e t = subst (AreRead stands r text) (sym e) (record { left = r.refs; refs = refl; lines = t; each = tt })

  pub lines_end : (told : Option Records) (text : Bytes) (found : List Tip) → text ≡ [] → IfSome told (λ r. AreRead stands r text found) → IfSome told (λ r. AreAllRefs stands r found)
  lines_end None text found e a = tt
  lines_end (Some r) text found e a = record {
    refs = sym (a.refs ∙ ap (λ left. map shown_tip found ++ left) (none_behind a.left (sym a.lines ∙ e)) ∙ append-nil (map shown_tip found));
    each = a.each;
  }

  module _ (name : Kind → Bytes → Bytes) (namer : IsNamer name) (text : Bytes) (found : List Tip) (some : text ≡ [] → ⊥) where
    next_read : (r : Records) → IsSound name r → AreRead stands r text found → IsNext stands r text found
    next_read r sound a = by a.left a.refs a.lines
      where
        by : (left : List (Bytes × Bytes)) → r.refs ≡ map shown_tip found ++ left → text ≡ flat_map stored_ref left → IsNext stands r text found
        by [] f g = absurd (some g)
        by (ref ∷ left) f g = record {
          ref = ref;
          rest = flat_map stored_ref left;
          line = g;
          is = peeling name namer r sound (map shown_tip found) left ref f;
          then_read = λ tip e t. record {
            left = left;
            refs = f ∙ ap (λ q. map shown_tip found ++ q ∷ left) (sym e) ∙ sym (append_assoc (map shown_tip found) (shown_tip tip ∷ []) left) ∙ ap (λ qs. qs ++ left) (sym (map-append shown_tip found (tip ∷ [])));
            lines = refl;
            each = with_one_more (IsTip stands r) found tip a.each t;
          };
        }

    pub line_told : (told : Option Records) → None ≡ first_ref text → IfSome told (IsSound name) → IfSome told (λ r. AreRead stands r text found) → told ≡ None
    line_told None e s a = refl
    line_told (Some r) e s a =
        let n = next_read r s a in
        absurd (let o = cut_first r n.ref n.rest text None n.is n.line e in cc o)

    module _ (object : Name) (called behind : Bytes) (cut : Some ((called, object.bytes), behind) ≡ first_ref text) where
      is_next : (r : Records) (n : IsNext stands r text found) → ((called, object.bytes) ≡ n.ref) × (behind ≡ n.rest)
      is_next r n =
          let o = cut_first r n.ref n.rest text (Some ((called, object.bytes), behind)) n.is n.line cut in
          let p : ((called, object.bytes), behind) ≡ (n.ref, n.rest) = cc o in
          (ap (λ (q : (Bytes × Bytes) × Bytes). q.0) p, ap (λ (q : (Bytes × Bytes) × Bytes). q.1) p)

      pub line_peels : (told : Option Records) → IfSome told (IsSound name) → IfSome told (λ r. AreRead stands r text found) → IfSome told (IsPeeled object)
      line_peels None s a = tt
      line_peels (Some r) s a =
          let n = next_read r s a in
          object_peels r n.ref object n.is (sym (ap (λ (q : Bytes × Bytes). q.1) (is_next r n).0))

      pub line_read : (told : Option Records) (tip : Tip) (more : List Tip) → tip.name.now ≡ called → tip.object ≡ object → more ≡ found ++ tip ∷ []
          → IfSome told (IsSound name) → IfSome told (λ r. AreRead stands r text found) → IfSome told (λ r. commit_in (value_at r object) ≡ Ok (commit_at r tip.commit)) → IfSome told (λ r. IsHeldAs kinds.Commit r tip.commit)
          → IfSome told (λ r. StandsThere stands tip.commit.bytes r (Some tip.place)) → IfSome told (λ r. AreRead stands r behind more)
      line_read None tip more e f g s a p h k = tt
      line_read (Some r) tip more e f g s a p h k =
          let n = next_read r s a in
          let i = is_next r n in
          let shown : shown_tip tip ≡ n.ref = ap (λ b. (b, tip.object.bytes)) e ∙ ap (λ (o : Name). (called, o.bytes)) f ∙ i.0 in
          let held = (object_peels r n.ref object n.is (sym (ap (λ (q : Bytes × Bytes). q.1) i.0))).0 in
          let t : IsTip stands r tip = record {
            object = subst (λ (o : Name). IsHeld r o) (sym f) held;
            peeled = ap (λ o. commit_in (value_at r o)) f ∙ p;
            commit = h;
            place = k;
          } in
          subst (λ t. AreRead stands r t more) (sym i.1) (subst (AreRead stands r n.rest) (sym g) (n.then_read tip shown t))
