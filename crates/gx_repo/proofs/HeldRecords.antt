-- What is put is held, and what was held stays so.
use Rattle.std.proofs.Common.{◌≡◌, true, false, cond, List, [], ◌∷◌, ◌++◌, length, map, take, drop, Option, Some, None, is_some, ◌⊎◌, refl, sym, ap, subst, ◌∙◌, inl, inr, zero, suc, arith, length-append}
use Rattle.std.specs.List.{flat_map}
use Rattle.std.specs.Bool.{passes}
use Rattle.std.proofs.lemmas.List.{map-append, take-append-drop}
use Rattle.gx_model.specs.declared.objects.Kind.{Kind}
use Rattle.gx_model.specs.declared.objects.Kind.TheVariants as kinds
use Rattle.gx_model.specs.Texts.{Bytes, same_bytes}
use Rattle.gx_model.specs.Histories.Files.{FileMap, depth}
use Rattle.gx_model.specs.Histories.Values.{sub_maps}
use Rattle.gx_model.specs.Histories.{Record}
use Rattle.gx_model.specs.Records.Sound.{AnyByRecursion, Holds, Keeps}
use Rattle.gx_model.specs.Records.Growth.{all_trees_to, put, put_all, put_under, record_named, same_kind, same_object, tree_record, tree_records}
use Rattle.std.specs.Option.{option_and_then}
use Rattle.gx_model.proofs.Texts.PathTests.{first, is_true}
use Rattle.gx_tree.specs.Writes.{map_name}
use Rattle.gx_model.proofs.Records.Puts.{put_all-append}
use Rattle.gx_model.proofs.Records.HeldObjects.{any_named}

pub some_left : {X : Type 0} (P : X → Type 0) (xs ys : List X) → AnyByRecursion P xs → AnyByRecursion P (xs ++ ys)
some_left P [] ys h = absurd h
some_left P (x ∷ xs) ys (inl h) = inl h
some_left P (x ∷ xs) ys (inr h) = inr (some_left P xs ys h)

some_last : {X : Type 0} (P : X → Type 0) (xs : List X) (x : X) → P x → AnyByRecursion P (xs ++ x ∷ [])
some_last P [] x h = inl h
some_last P (y ∷ xs) x h = inr (some_last P xs x h)

pub keeps_front : (old new : List Record) → take (length old) new ≡ old → Keeps old new
keeps_front old new e = λ k n h.
    subst (λ rs. Holds rs k n) (take-append-drop (length old) new)
    (some_left (λ held. (held.kind ≡ k) × (held.name ≡ n)) (take (length old) new) (drop (length old) new) (subst (λ rs. Holds rs k n) (sym e) h))

pub keeps_same : (old new : List Record) → new ≡ old → Keeps old new
keeps_same old new e = λ k n h. subst (λ rs. Holds rs k n) (sym e) h

pub kind_is : (k l : Kind) → same_kind k l ≡ true → k ≡ l
kind_is kinds.Blob kinds.Blob e = refl
kind_is kinds.Tree kinds.Tree e = refl
kind_is kinds.Commit kinds.Commit e = refl
kind_is kinds.Tag kinds.Tag e = refl
kind_is _ _ e = absurd (cc)

pub put_holds : (old new : List Record) (r : Record) → put old r ≡ Some new → Holds new r.kind r.name
put_holds old new r e = by (record_named old r.name) refl e
  where
    same : (s : Record) (b : _) → same_object s r ≡ b → record_named old r.name ≡ Some s → cond b (Some old) None ≡ Some new → Holds new r.kind r.name
    same s true k f e =
        let now : old ≡ new = cc in
        subst (λ rs. Holds rs r.kind r.name) now (any_named _ old r.name s f (λ m. (kind_is s.kind r.kind (is_true _ (first (same_kind s.kind r.kind) (same_bytes s.body r.body) (passes _ k))), m)))
    same s false k f e = absurd (cc)

    by : (o : Option Record) → record_named old r.name ≡ o → put_under o old r ≡ Some new → Holds new r.kind r.name
    by None f e = let now : old ++ r ∷ [] ≡ new = cc in subst (λ rs. Holds rs r.kind r.name) now (some_last _ old r (refl, refl))
    by (Some s) f e = same s (same_object s r) refl f e

-- what a put leaves: the records where this one is held, and otherwise this one behind them
pub put_cases : (old new : List Record) (r : Record) → put old r ≡ Some new → ((new ≡ old) × (is_some (record_named old r.name) ≡ true)) ⊎ ((new ≡ old ++ r ∷ []) × (record_named old r.name ≡ None))
put_cases old new r e = by (record_named old r.name) refl e
  where
    same : (s : Record) (b : _) → record_named old r.name ≡ Some s → cond b (Some old) None ≡ Some new → ((new ≡ old) × (is_some (record_named old r.name) ≡ true)) ⊎ ((new ≡ old ++ r ∷ []) × (record_named old r.name ≡ None))
    same s true f e = let is : old ≡ new = cc in inl (sym is, ap is_some f)
    same s false f e = absurd (cc)

    by : (o : Option Record) → record_named old r.name ≡ o → put_under o old r ≡ Some new → ((new ≡ old) × (is_some (record_named old r.name) ≡ true)) ⊎ ((new ≡ old ++ r ∷ []) × (record_named old r.name ≡ None))
    by None f e = let is : old ++ r ∷ [] ≡ new = cc in inr (sym is, f)
    by (Some s) f e = same s (same_object s r) f e

-- where there are as many records as before, they are those of before
pub put_held : (old new : List Record) (r : Record) → put old r ≡ Some new → length new ≡ length old → (new ≡ old) × (is_some (record_named old r.name) ≡ true)
put_held old new r e l = elim (put_cases old new r e) [
  | inl h ↦ h
  | inr h ↦ absurd (omega (arith, l, ap length h.0, length-append old (r ∷ [])))
]

-- where there are more, this one stands last
pub put_last : (old new : List Record) (r : Record) → put old r ≡ Some new → (length new ≡ length old → ⊥) → (new ≡ old ++ r ∷ []) × (record_named old r.name ≡ None)
put_last old new r e l = elim (put_cases old new r e) [
  | inl h ↦ absurd (l (ap length h.0))
  | inr h ↦ h
]

-- ---- trees

last_put : (o : Option (List Record)) (new : List Record) (r : Record) → option_and_then (λ rs. put_all rs (r ∷ [])) o ≡ Some new → Holds new r.kind r.name
last_put None new r e = absurd (cc)
last_put (Some rs) new r e = by (put rs r) refl e
  where
    by : (o : Option (List Record)) → put rs r ≡ o → option_and_then (λ now. put_all now []) o ≡ Some new → Holds new r.kind r.name
    by None f e = absurd (cc)
    by (Some now) f e = let same : now ≡ new = cc in put_holds rs new r (f ∙ ap Some same)

last_holds : (old new rs : List Record) (r : Record) → put_all old (rs ++ r ∷ []) ≡ Some new → Holds new r.kind r.name
last_holds old new rs r e = last_put (put_all old rs) new r (sym (put_all-append old rs (r ∷ [])) ∙ e)

-- a map's own tree comes last
pub tree_holds : (name : Kind → Bytes → Bytes) (names : FileMap Bytes) (old new : List Record) → put_all old (tree_records name names) ≡ Some new → Holds new kinds.Tree (map_name name names)
tree_holds name names old new e = by (depth names) e
  where
    by : (n : _) → put_all old (map (tree_record name) (all_trees_to n names)) ≡ Some new → Holds new kinds.Tree (map_name name names)
    by zero e = last_holds old new [] (tree_record name names) e
    by (suc n) e = last_holds old new (map (tree_record name) (flat_map (all_trees_to n) (sub_maps names))) (tree_record name names) (ap (put_all old) (sym (map-append (tree_record name) (flat_map (all_trees_to n) (sub_maps names)) (names ∷ []))) ∙ e)
