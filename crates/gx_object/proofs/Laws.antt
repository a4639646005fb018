-- A decoded tree's body is the text of its entries, and the text of entries is decoded as them.
use Rattle.std.proofs.Common.{◌≡◌, ℕ, zero, suc, Bool, true, false, cond, List, [], ◌∷◌, ◌++◌, length, Some, None, Result, Ok, Err, refl, sym, ap, subst, ◌∙◌}
use Rattle.std.specs.Prelude.{IfOk, IsOkAnd, nat_lt, nat_eq}
use Rattle.std.specs.List.{list_all, AllByRecursion}
use Rattle.std.specs.Result.{result_ok}
use Rattle.std.proofs.lemmas.Bool.{and_from, and_parts, eq-eqb, eqb-true}
use Rattle.std.proofs.lemmas.List.Concat.{flat_map-cons}
use Rattle.std.proofs.lemmas.List.Folds.{list_all-append}
use Rattle.gx_model.specs.Texts.{Bytes, lacks}
use Rattle.gx_model.specs.Texts.Paths.{is_component}
use Rattle.gx_model.specs.Objects.{Entry, IsTreeText, entry_text, is_canonical, is_name, mode_text, tree_text}
use Rattle.gx_object.specs.Trees.{entry_at, entries_within, entries_of, tree_of}
use Rattle.gx_model.proofs.ObjectTexts.NameDigits.{AreBytes, all_bytes}
use Rattle.gx_object.proofs.Orders.{canonical_parts}
use Rattle.gx_object.proofs.Bodies.{bind_some, some_is, Takes, entry_takes, entry_again, entries_step}

abbrev HaveNames : List Entry → Type 0
HaveNames es = AllByRecursion (λ e. length e.name ≡ 20) es

abbrev LackNul : List Entry → Type 0
LackNul es = AllByRecursion (λ e. lacks 0 e.component ≡ true) es

abbrev small : Bytes → Bool
small = list_all (λ b. nat_lt b 256)

entries_take : (n : ℕ) (bytes : Bytes) (es : List Entry) → entries_within n bytes ≡ Some es → HaveNames es × (bytes ≡ tree_text es)
unfolding entries_within
entries_take n [] es e = subst (λ (xs : List Entry). HaveNames xs × ([] ≡ tree_text xs)) (some_is [] es e) (tt, refl)
entries_take zero (b ∷ bytes) es e = absurd cc
entries_take (suc n) (b ∷ bytes) es e =
    let first = bind_some (entry_at (b ∷ bytes)) _ es e in
    let others = bind_some (entries_within n first.0.1) _ es first.2 in
    let t = entry_takes (b ∷ bytes) first.0 first.1 in
    let again = entries_take n first.0.1 others.0 others.1 in
    joined (b ∷ bytes) first.0 others.0 es t again (some_is _ es others.2) where
      joined : (bytes : Bytes) (x : Entry × Bytes) (more es : List Entry) → Takes bytes x → HaveNames more × (x.1 ≡ tree_text more) → x.0 ∷ more ≡ es → HaveNames es × (bytes ≡ tree_text es)
      joined bytes x more es t again is = subst (λ (xs : List Entry). HaveNames xs × (bytes ≡ tree_text xs)) is ((t.name, again.0), t.parts ∙ ap (λ (r : Bytes). entry_text x.0 ++ r) again.1 ∙ sym (flat_map-cons entry_text x.0 more))

entries_again : (es : List Entry) → HaveNames es → LackNul es → entries_of (tree_text es) ≡ Some es
unfolding entries_within
entries_again [] h k = refl
entries_again (e ∷ es) h k =
    ap entries_of (flat_map-cons entry_text e es) ∙ entries_step (entry_text e ++ tree_text es) (e, tree_text es) (entry_again e (tree_text es) k.0 h.0) ∙ rw (entries_again es h.1 k.1) refl

lack_nul : (es : List Entry) → list_all (λ e. is_component e.component) es ≡ true → LackNul es
lack_nul [] h = tt
lack_nul (e ∷ es) h =
    let p = and_parts (is_component e.component) _ h in
    ((and_parts _ (lacks 0 e.component) p.0).1, lack_nul es p.1)

have_names : (es : List Entry) → list_all (λ e. is_name e.name) es ≡ true → HaveNames es
have_names [] h = tt
have_names (e ∷ es) h =
    let p = and_parts (is_name e.name) _ h in
    (eqb-true _ _ (and_parts (nat_eq (length e.name) 20) _ p.0).0, have_names es p.1)

-- the names in a body are bytes, as all of it is
small_name : (m c n : Bytes) → small (m ++ (32 ∷ (c ++ 0 ∷ n))) ≡ true → small n ≡ true
small_name m c n h =
    let p = and_parts (small m) _ (sym (list_all-append (λ b. nat_lt b 256) m (32 ∷ (c ++ 0 ∷ n))) ∙ h) in
    (and_parts (small c) (small n) (sym (list_all-append (λ b. nat_lt b 256) c (0 ∷ n)) ∙ p.1)).1

are_names : (es : List Entry) → HaveNames es → small (tree_text es) ≡ true → list_all (λ e. is_name e.name) es ≡ true
are_names [] h s = refl
are_names (e ∷ es) h s =
    let p = and_parts (small (entry_text e)) _ (sym (list_all-append (λ b. nat_lt b 256) (entry_text e) (tree_text es)) ∙ ap small (sym (flat_map-cons entry_text e es)) ∙ s) in
    and_from _ _ (and_from _ _ (eq-eqb (length e.name) 20 h.0) (small_name (mode_text e.mode) e.component e.name p.0)) (are_names es h.1 p.1)

guard_is : (b : Bool) (x y : List Entry) → cond b (Some x) None ≡ Some y → (b ≡ true) × (x ≡ y)
guard_is true x y e = (refl, some_is x y e)
guard_is false x y e = absurd cc

-- what is read as a tree's body is one
pub tree_takes : (body : Bytes) (es : List Entry) → AreBytes body → tree_of body ≡ Some es → IsTreeText es body
tree_takes body es bytes e =
    let read = bind_some (entries_of body) (λ xs. cond (is_canonical xs) (Some xs) None) es e in
    let g = guard_is (is_canonical read.0) read.0 es read.2 in
    let taken = entries_take (length body) body read.0 read.1 in
    let names = are_names read.0 taken.0 (ap small (sym taken.1) ∙ all_bytes body bytes) in
    subst (λ (xs : List Entry). IsTreeText xs body) g.1 (taken.1, g.0, names)

-- what the body of a tree gives is its entries
pub tree_read : (body : Bytes) (es : List Entry) → IsTreeText es body → entries_of body ≡ Some es
tree_read body es h = ap entries_of h.0 ∙ entries_again es (have_names es h.2) (lack_nul es (canonical_parts es h.1).components)

pub tree_again : (body : Bytes) (es : List Entry) → IsTreeText es body → tree_of body ≡ Some es
tree_again body es h = rw (tree_read body es h, h.1) refl

pub tree_found : {E : Type 0} (body : Bytes) (r : Result (List Entry) E) → AreBytes body → result_ok r ≡ tree_of body → IfOk r (λ es. IsTreeText es body)
tree_found body (Ok es) bytes e = tree_takes body es bytes (sym e)
tree_found body (Err d) bytes e = tt

ok_and : {A E : Type 0} (r : Result A E) (x : A) → result_ok r ≡ Some x → IsOkAnd r (λ found. found ≡ x)
ok_and (Ok y) x e = some_is y x e
ok_and (Err d) x e = absurd cc

pub tree_only : {E : Type 0} (body : Bytes) (r : Result (List Entry) E) → result_ok r ≡ tree_of body → (es : List Entry) → IsTreeText es body → IsOkAnd r (λ found. found ≡ es)
tree_only body r e es h = ok_and r es (e ∙ tree_again body es h)
