-- Maps by texts, in byte order: what is found in them.
use Rattle.std.proofs.Common.{◌≡◌, true, false, cond, Some, None, List, [], ◌∷◌, refl, sym, ap, ◌∙◌}
use Rattle.std.proofs.lemmas.Map.Text.{is_eq-slice_cmp}
use Rattle.std.proofs.lemmas.Slice.Eq.{bytes_eq-Decides}
use Rattle.std.specs.Cmp.{IsTotalOrder}
use Rattle.std.specs.Cmp.Lexicographic.{nat_list_cmp_total}
use Rattle.std.specs.FinMap.Entries.{put, find, below_all, find-put}
use Rattle.std.specs.Map.{lookup}
use Rattle.std.specs.Ordering.{is_lt, is_eq, eq_by_cmp}
use Rattle.std.specs.Prelude.{T}
use Rattle.std.specs.declared.cmp.Ordering.TheVariants.{Less, Equal, Greater}
use Rattle.gx_model.specs.Texts.{Bytes, byte_cmp, same_bytes}
use Rattle.gx_model.proofs.Texts.PathTests.{first, is_true, second}

-- texts that tie are one
pub same_text : (x y : Bytes) → byte_cmp x y ≡ Equal → x ≡ y
same_text x y e = (bytes_eq-Decides x y).0 (sym (is_eq-slice_cmp x y) ∙ ap is_eq e)

-- the byte order of texts is a total order
pub order : IsTotalOrder byte_cmp
order = nat_list_cmp_total

less_apart : (o : _) → is_lt o ≡ true → is_eq o ≡ false
less_apart Less e = refl
less_apart Equal e = absurd cc
less_apart Greater e = absurd cc

-- a result of a comparison that ties is that of equal texts
pub tied : (q n : Bytes) → eq_by_cmp byte_cmp q n ≡ true → byte_cmp q n ≡ Equal
tied q n e = by (byte_cmp q n) e where
  by : (r : _) → is_eq r ≡ true → r ≡ Equal
  by Equal e = refl
  by Less e = absurd cc
  by Greater e = absurd cc

-- a text ties with itself
pub tied_with_itself : (q : Bytes) → eq_by_cmp byte_cmp q q ≡ true
tied_with_itself q = is_eq-slice_cmp q q ∙ (bytes_eq-Decides q q).1 refl

module _ {X : Type 0} where
  -- a text before all the others is none of them
  pub none_below : (q : Bytes) (es : List (Bytes × X)) → T (below_all byte_cmp q es) → find byte_cmp q es ≡ None
  none_below q [] h = refl
  none_below q (e ∷ es) h = ap (λ t. cond t (Some e.1) (find byte_cmp q es)) (less_apart (byte_cmp q e.0) (is_true _ (first _ _ h))) ∙ none_below q es (second _ _ h)

  -- what a look-up by bytes finds
  pub lookup_is : (q : Bytes) (es : List (Bytes × X)) → lookup (same_bytes q) es ≡ find byte_cmp q es
  lookup_is q [] = refl
  lookup_is q (e ∷ es) = ap (λ t. cond t (Some e.1) (lookup (same_bytes q) es)) (sym (is_eq-slice_cmp q e.0)) ∙ ap (cond (eq_by_cmp byte_cmp q e.0) (Some e.1)) (lookup_is q es)

  -- what was put is found
  pub lookup_put : (q : Bytes) (x : X) (es : List (Bytes × X)) → lookup (same_bytes q) (put byte_cmp q x es) ≡ Some x
  lookup_put q x es = lookup_is q (put byte_cmp q x es) ∙ find-put byte_cmp order q q x es ∙ ap (λ t. cond t (Some x) (find byte_cmp q es)) (tied_with_itself q)
