-- Refs that are all among others stay so where others of these are set.
use Rattle.std.proofs.Common.{◌≡◌, List, [], ◌∷◌, ◌++◌, map, Some, Ok, refl, sym, subst}
use Rattle.std.specs.Prelude.{IsTrue}
use Rattle.std.specs.List.{AllByRecursion}
use Rattle.std.specs.Map.{lookup}
use Rattle.std.specs.declared.cmp.Ordering.TheVariants.{Less, Equal, Greater}
use Rattle.std.specs.FinMap.Entries.{by_order, is_sorted, put}
use Rattle.gx_model.specs.Texts.{Bytes, byte_cmp, same_bytes}
use Rattle.gx_model.specs.Histories.{Records}
use Rattle.gx_model.specs.Records.Publishing.{Change, Ref, published, with_changes}
use Rattle.gx_model.proofs.Records.ChangedRefs.{are_set}
use Rattle.gx_model.proofs.Records.SortedRefs.{same_text}
use Rattle.gx_repo.specs.declared.publishing.RefChange.{RefChange}
use Rattle.gx_repo.specs.Refs.{shown_update}
use Rattle.gx_small_repo.specs.Small.{AreOf, IsRefOf, StayAmong}

module _ (refs : List Ref) where
  put_stays : (n object : Bytes) (es : List Ref) → IsRefOf refs (n, object) → AllByRecursion (IsRefOf refs) es → AllByRecursion (IsRefOf refs) (put byte_cmp n object es)
  put_stays n object [] is h = (is, tt)
  put_stays n object (e ∷ es) is h =
      elim (byte_cmp n e.0) as (λ o. byte_cmp n e.0 ≡ o → AllByRecursion (IsRefOf refs) (by_order o ((n, object) ∷ e ∷ es) ((e.0, object) ∷ es) (e ∷ put byte_cmp n object es))) [
        | Less ↦ λ q. (is, h)
        | Equal ↦ λ q. (subst (λ z. lookup (same_bytes z) refs ≡ Some object) (same_text n e.0 q) is, h.1)
        | Greater ↦ λ q. (h.0, put_stays n object es is h.1)
      ] refl

  all_stay : (changes : List Change) (old : List Ref) → AllByRecursion (IsRefOf refs) changes → StayAmong refs old (with_changes old changes)
  all_stay [] old is h = h
  all_stay (c ∷ cs) old is h = all_stay cs (put byte_cmp c.0 c.1 old) is.1 (put_stays c.0 c.1 old is.0 h)

  pub set_stays : (r : Records) (changes : List Change) (new : List Ref) → published r changes ≡ Ok new → AllByRecursion (IsRefOf refs) changes → StayAmong refs r.refs new
  set_stays r changes new e is h =
      let set = are_set r changes new e in
      subst (AllByRecursion (IsRefOf refs)) (sym set.are) (all_stay changes r.refs is h)

pub push_of : (refs : List Ref) (changes new : List RefChange) (change : RefChange) → new ≡ changes ++ change ∷ []
    → (IsTrue (is_sorted byte_cmp refs) → Some change.target.bytes ≡ lookup (same_bytes change.name.now) refs) → AreOf refs changes → AreOf refs new
push_of refs changes new change e is are = λ sorted. subst (λ cs. AllByRecursion (IsRefOf refs) (map shown_update cs)) (sym e) (by changes (are sorted) (sym (is sorted)))
  where
    by : (cs : List RefChange) → AllByRecursion (IsRefOf refs) (map shown_update cs) → IsRefOf refs (shown_update change) → AllByRecursion (IsRefOf refs) (map shown_update (cs ++ change ∷ []))
    by [] h p = (p, tt)
    by (c ∷ cs) h p = (h.0, by cs h.1 p)
