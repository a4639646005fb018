-- What is found and put in a table's map, as rows in order.
use Rattle.std.proofs.Common.{◌≡◌, ℕ, cond, List, [], ◌∷◌, map, Some, refl, sym, ap, subst}
use Rattle.std.specs.Prelude.{IsTrue}
use Rattle.std.specs.Bool.{passes}
use Rattle.std.specs.Map.{lookup}
use Rattle.std.specs.Ordering.{is_eq, match_ordering}
use Rattle.std.specs.declared.cmp.Ordering.TheVariants.{Less, Equal, Greater}
use Rattle.std.specs.declared.vec.Vec.{Vec}
use Rattle.std.specs.BTreeMap.{insert_entry}
use Rattle.std.specs.FinMap.Entries.{by_order, is_sorted, is_sorted-put, put}
use Rattle.std.proofs.lemmas.Map.Text.{is_eq-slice_cmp}
use Rattle.gx_model.specs.Texts.{Bytes, byte_cmp, same_bytes}
use Rattle.gx_model.proofs.Records.SortedRefs.{order}
use Rattle.gx_model.proofs.Texts.PathTests.{is_true}
use Rattle.gx_import.specs.Rows.{row_of}

module _ {A V : Type 0} where
  -- what is found at a name
  pub found_at : (n : Bytes) (es : List (Vec ℕ A × V)) → lookup (λ k. is_eq (byte_cmp n k.items)) es ≡ lookup (same_bytes n) (map row_of es)
  found_at n [] = refl
  found_at n (e ∷ es) = λ i. cond (is_eq-slice_cmp n e.0.items i) (Some e.1) (found_at n es i)

  -- what an entry is put into
  pub put_in : (k : Vec ℕ A) (v : V) (es : List (Vec ℕ A × V)) → map row_of (insert_entry (λ x y. byte_cmp x.items y.items) es k v) ≡ put byte_cmp k.items v (map row_of es)
  put_in k v [] = refl
  put_in k v (e ∷ es) =
      elim (byte_cmp k.items e.0.items) as (λ o. map row_of (match_ordering o ((k, v) ∷ e ∷ es) ((e.0, v) ∷ es) (e ∷ insert_entry (λ x y. byte_cmp x.items y.items) es k v))
      ≡ by_order o ((k.items, v) ∷ row_of e ∷ map row_of es) ((e.0.items, v) ∷ map row_of es) (row_of e ∷ put byte_cmp k.items v (map row_of es))) [
        | Less ↦ refl
        | Equal ↦ refl
        | Greater ↦ ap (λ rows. row_of e ∷ rows) (put_in k v es)
      ]

  -- and what is in order stays so
  pub put_sorted : (k : Vec ℕ A) (v : V) (es : List (Vec ℕ A × V)) → IsTrue (is_sorted byte_cmp (map row_of es))
      → IsTrue (is_sorted byte_cmp (map row_of (insert_entry (λ x y. byte_cmp x.items y.items) es k v)))
  put_sorted k v es sorted =
      subst (λ rows. IsTrue (is_sorted byte_cmp rows)) (sym (put_in k v es))
      (is_true _ (is_sorted-put byte_cmp order k.items v (map row_of es) (passes _ sorted)))
