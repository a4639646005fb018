-- The refs that differ between two times, one after the other.
use Rattle.std.proofs.Common.{◌≡◌, ◌≤◌, Bool, true, false, cond, List, [], ◌∷◌, ◌++◌, append_assoc, append-nil, length, map, Option, Some, None, inl, inr, refl, sym, ap, subst, ◌∙◌, arith}
use Rattle.std.specs.Prelude.{T, ◌⊎◌, is_some, IsTrue}
use Rattle.std.specs.Bool.{passes}
use Rattle.std.specs.FinMap.Entries.{below_all, is_sorted}
use Rattle.std.specs.List.{flat_map, slice_get}
use Rattle.std.specs.Map.{lookup}
use Rattle.std.specs.Ordering.{is_lt, is_some_and, nat_cmp, ordering_reverse, partial_lt}
use Rattle.std.specs.Cmp.Lexicographic.{lists_agrees, slice_partial_cmp}
use Rattle.std.specs.declared.cmp.Ordering.{Ordering}
use Rattle.std.specs.declared.cmp.Ordering.TheVariants.{Less, Equal, Greater}
use Rattle.std.proofs.lemmas.Bool.{false≢true}
use Rattle.gx_model.specs.Records.Publishing.{Ref}
use Rattle.gx_model.specs.Texts.{Bytes, byte_cmp, same_bytes}
use Rattle.gx_model.proofs.Texts.PathTests.{both, first, is_same, is_true, same_is, second}
use Rattle.gx_model.proofs.Texts.TextMaps.{lookup_is, none_below, order, same_text}
use Rattle.gx_repo.specs.Refs.{object_named, shown_ref}
use Rattle.gx_repo.specs.declared.refs.Ref.{Ref as HeldRef}
use Rattle.gx_repo.specs.Reporting.{AreChanges, IsFrom, IsNextName, IsReport, Objects, behind, change_line, line_where_they_differ, object_first, where_they_differ}

-- ---- in order

is_less : (o : Ordering) → T (is_lt o) → o ≡ Less
is_less Less h = refl
is_less Equal h = absurd h
is_less Greater h = absurd h

-- what is before a name is before all that are behind it
below_further : (n m : Bytes) (rs : List Ref) → T (is_lt (byte_cmp n m)) → T (below_all byte_cmp m rs) → T (below_all byte_cmp n rs)
below_further n m [] l h = tt
below_further n m (r ∷ rs) l h =
    both (is_lt (byte_cmp n r.0)) (below_all byte_cmp n rs) (subst (λ o. T (is_lt o)) (sym (order.trans n m r.0 (is_less _ l) (is_less _ (first _ _ h)))) tt)
    (below_further n m rs l (second (is_lt (byte_cmp m r.0)) (below_all byte_cmp m rs) h))

-- the refs behind a name that none is before are later
later : (n : Bytes) (rs : List Ref) → T (is_sorted byte_cmp rs) → IsFrom n rs → T (below_all byte_cmp n (behind rs n))
later n [] s f = tt
later n (r ∷ rs) s f = by (same_bytes r.0 n) refl f where
  by : (b : Bool) → same_bytes r.0 n ≡ b → (n ≡ r.0) ⊎ IsTrue (is_lt (byte_cmp n r.0)) → T (below_all byte_cmp n (cond b rs (r ∷ rs)))
  by true e g = subst (λ m. T (below_all byte_cmp m rs)) (same_is r.0 n (passes _ e)) (first (below_all byte_cmp r.0 rs) _ s)
  by false e (inl g) = absurd (false≢true (sym e ∙ is_true _ (is_same r.0 n (sym g))))
  by false e (inr g) = both (is_lt (byte_cmp n r.0)) (below_all byte_cmp n rs) (passes _ g) (below_further n r.0 rs (passes _ g) (first (below_all byte_cmp r.0 rs) _ s))

pub behind_sorted : (n : Bytes) (rs : List Ref) → T (is_sorted byte_cmp rs) → T (is_sorted byte_cmp (behind rs n))
behind_sorted n [] s = tt
behind_sorted n (r ∷ rs) s = by (same_bytes r.0 n) where
  by : (b : Bool) → T (is_sorted byte_cmp (cond b rs (r ∷ rs)))
  by true = second (below_all byte_cmp r.0 rs) _ s
  by false = s

-- a later name isn't found
none_later : {X : Type 0} (n : Bytes) (es : List (Bytes × X)) → T (below_all byte_cmp n es) → lookup (same_bytes n) es ≡ None
none_later n es h = lookup_is n es ∙ none_below n es h

-- what is found is later
found_later : {X : Type 0} (n m : Bytes) (es : List (Bytes × X)) → T (below_all byte_cmp n es) → T (is_some (lookup (same_bytes m) es)) → T (is_lt (byte_cmp n m))
found_later n m [] h k = absurd k
found_later {X} n m (e ∷ es) h k = by (same_bytes m e.0) refl k (found_later n m es (second (is_lt (byte_cmp n e.0)) (below_all byte_cmp n es) h)) where
  by : (b : Bool) → same_bytes m e.0 ≡ b → T (is_some (cond b (Some e.1) (lookup (same_bytes m) es))) → (T (is_some (lookup (same_bytes m) es)) → T (is_lt (byte_cmp n m))) → T (is_lt (byte_cmp n m))
  by true e2 j again = subst (λ x. T (is_lt (byte_cmp n x))) (sym (same_is m e.0 (passes _ e2))) (first (is_lt (byte_cmp n e.0)) _ h)
  by false e2 j again = again j

-- where all that is found is later, all is
all_later : {X : Type 0} (n : Bytes) (es : List (Bytes × X)) → ((m : Bytes) → T (is_some (lookup (same_bytes m) es)) → T (is_lt (byte_cmp n m))) → T (below_all byte_cmp n es)
all_later n [] f = tt
all_later {X} n (e ∷ es) f = both (is_lt (byte_cmp n e.0)) (below_all byte_cmp n es) (f e.0 own) (all_later n es (λ m k. f m (more m k))) where
  own : T (is_some (lookup (same_bytes e.0) (e ∷ es)))
  own = subst (λ b. T (is_some (cond b (Some e.1) (lookup (same_bytes e.0) es)))) (sym (is_true _ (is_same e.0 e.0 refl))) tt

  more : (m : Bytes) → T (is_some (lookup (same_bytes m) es)) → T (is_some (lookup (same_bytes m) (e ∷ es)))
  more m k = by (same_bytes m e.0) where
    by : (b : Bool) → T (is_some (cond b (Some e.1) (lookup (same_bytes m) es)))
    by true = tt
    by false = k

-- ---- one name

-- where no ref is before a name, the first has it, or none does
first_is : (n : Bytes) (rs : List Ref) → T (is_sorted byte_cmp rs) → IsFrom n rs → object_named rs n ≡ object_first rs n
first_is n [] s f = refl
first_is n (r ∷ rs) s f = by (same_bytes r.0 n) refl f where
  by : (b : Bool) → same_bytes r.0 n ≡ b → (n ≡ r.0) ⊎ IsTrue (is_lt (byte_cmp n r.0)) → lookup (same_bytes n) (r ∷ rs) ≡ cond b (Some r.1) None
  by true e g = ap (λ b. cond b (Some r.1) (lookup (same_bytes n) rs)) (is_true _ (is_same n r.0 (sym (same_is r.0 n (passes _ e)))))
  by false e (inl g) = absurd (false≢true (sym e ∙ is_true _ (is_same r.0 n (sym g))))
  by false e (inr g) = none_later n (r ∷ rs) (both (is_lt (byte_cmp n r.0)) (below_all byte_cmp n rs) (passes _ g) (below_further n r.0 rs (passes _ g) (first (below_all byte_cmp r.0 rs) _ s)))

-- another name is found behind it
other_is : (n m : Bytes) (rs : List Ref) → same_bytes m n ≡ false → object_named rs m ≡ object_named (behind rs n) m
other_is n m [] e = refl
other_is n m (r ∷ rs) e = by (same_bytes r.0 n) refl where
  by : (b : Bool) → same_bytes r.0 n ≡ b → lookup (same_bytes m) (r ∷ rs) ≡ lookup (same_bytes m) (cond b rs (r ∷ rs))
  by true k = ap (λ b. cond b (Some r.1) (lookup (same_bytes m) rs)) (ap (same_bytes m) (same_is r.0 n (passes _ k)) ∙ e)
  by false k = refl

some_side : (old new : Option Bytes) → T (is_some (where_they_differ old new)) → T (is_some old) ⊎ T (is_some new)
some_side (Some x) new h = inl tt
some_side None (Some y) h = inr tt
some_side None None h = absurd h

abbrev one : Bytes → Option Objects → List (Bytes × Objects)
one n None = []
one n (Some objects) = (n, objects) ∷ []

module _ (n : Bytes) (os ns : List Ref) (os_sorted : T (is_sorted byte_cmp os)) (ns_sorted : T (is_sorted byte_cmp ns)) (os_from : IsFrom n os) (ns_from : IsFrom n ns) (cs : List (Bytes × Objects)) (are : AreChanges (behind os n) (behind ns n) cs) where
  abbrev here : Option Objects
  here = where_they_differ (object_first os n) (object_first ns n)

  old_later : T (below_all byte_cmp n (behind os n))
  old_later = later n os os_sorted os_from

  new_later : T (below_all byte_cmp n (behind ns n))
  new_later = later n ns ns_sorted ns_from

  rest_later : T (below_all byte_cmp n cs)
  rest_later = all_later n cs (λ m k.
      elim (some_side (object_named (behind os n) m) (object_named (behind ns n) m) (subst (λ o. T (is_some o)) (are.objects m) k)) [
        | inl j ↦ found_later n m (behind os n) old_later j
        | inr j ↦ found_later n m (behind ns n) new_later j
      ])

  all_sorted : (o : Option Objects) → IsTrue (is_sorted byte_cmp (one n o ++ cs))
  all_sorted None = are.sorted
  all_sorted (Some objects) = is_true _ (both (below_all byte_cmp n cs) (is_sorted byte_cmp cs) rest_later (passes _ are.sorted))

  at_name : (m : Bytes) (b : Bool) → same_bytes m n ≡ b → (o : Option Objects) → here ≡ o → lookup (same_bytes m) (one n o ++ cs) ≡ where_they_differ (object_named os m) (object_named ns m)
  at_name m true e (Some objects) h =
      let is : m ≡ n = same_is m n (passes _ e) in
      ap (λ b. cond b (Some objects) (lookup (same_bytes m) cs)) e ∙ sym h
      ∙ (λ i. where_they_differ (sym (first_is n os os_sorted os_from) i) (sym (first_is n ns ns_sorted ns_from) i))
      ∙ ap (λ x. where_they_differ (object_named os x) (object_named ns x)) (sym is)
  at_name m true e None h =
      let is : m ≡ n = same_is m n (passes _ e) in
      ap (λ x. lookup (same_bytes x) cs) is ∙ none_later n cs rest_later ∙ sym h
      ∙ (λ i. where_they_differ (sym (first_is n os os_sorted os_from) i) (sym (first_is n ns ns_sorted ns_from) i))
      ∙ ap (λ x. where_they_differ (object_named os x) (object_named ns x)) (sym is)
  at_name m false e (Some objects) h =
      ap (λ b. cond b (Some objects) (lookup (same_bytes m) cs)) e ∙ are.objects m ∙ (λ i. where_they_differ (sym (other_is n m os e) i) (sym (other_is n m ns e) i))
  at_name m false e None h = are.objects m ∙ (λ i. where_they_differ (sym (other_is n m os e) i) (sym (other_is n m ns e) i))

  -- the changes behind a name that none is before, with its own
  pub with_next : AreChanges os ns (one n here ++ cs)
  with_next = record { sorted = all_sorted here; objects = λ m. at_name m (same_bytes m n) refl here refl }

-- ---- the next name

behind_own : (r : Ref) (rs : List Ref) (n : Bytes) → n ≡ r.0 → length (behind (r ∷ rs) n) ≡ length rs
behind_own r rs n e = ap (λ b. length (cond b rs (r ∷ rs))) (is_true _ (is_same r.0 n (sym e)))

behind_within : (n : Bytes) (rs : List Ref) → length (behind rs n) ≤ length rs
behind_within n [] = omega arith
behind_within n (r ∷ rs) = by (same_bytes r.0 n) where
  by : (b : Bool) → length (cond b rs (r ∷ rs)) ≤ length (r ∷ rs)
  by true = omega arith
  by false = omega arith

-- the first ref of the earlier time has the next name
next_before : (r : Ref) (rs after : List Ref) (n : Bytes) → n ≡ r.0 → IsFrom n after → IsNextName (r ∷ rs) after n
next_before r rs after n e f =
    let own : length (behind (r ∷ rs) n) ≡ length rs = behind_own r rs n e in
    let within : length (behind after n) ≤ length after = behind_within n after in
    (inl e, f, omega (arith, own, within))

-- and that of the later time
next_after : (before : List Ref) (r : Ref) (rs : List Ref) (n : Bytes) → n ≡ r.0 → IsFrom n before → IsNextName before (r ∷ rs) n
next_after before r rs n e f =
    let own : length (behind (r ∷ rs) n) ≡ length rs = behind_own r rs n e in
    let within : length (behind before n) ≤ length before = behind_within n before in
    (f, inl e, omega (arith, own, within))

-- what no other is less than is before it, or is it
not_less : (n m : Bytes) → is_lt (byte_cmp m n) ≡ false → (n ≡ m) ⊎ IsTrue (is_lt (byte_cmp n m))
not_less n m e = by (byte_cmp m n) refl e where
  by : (o : Ordering) → byte_cmp m n ≡ o → is_lt o ≡ false → (n ≡ m) ⊎ IsTrue (is_lt (byte_cmp n m))
  by Less h k = absurd (false≢true (sym k))
  by Equal h k = inl (sym (same_text m n h))
  by Greater h k = inr (ap is_lt (order.antisymm n m ∙ ap ordering_reverse h))

-- the test of two slices is that of the byte order
less_is : (x y : Bytes) → partial_lt (slice_partial_cmp (λ a b. Some (nat_cmp a b))) x y ≡ is_lt (byte_cmp x y)
less_is x y = ap (is_some_and is_lt) (lists_agrees (λ a b. refl) x y)

some_same : {X : Type 0} (x y : X) → Some x ≡ Some y → x ≡ y
some_same x y e = cc

module _ {A : Type 0} where
  pub next_if_none_before : (before after : List (HeldRef A)) (r : HeldRef A) (n : Bytes) → None ≡ slice_get before 0 → Some r ≡ slice_get after 0 → n ≡ r.name.items → IsNextName (map shown_ref before) (map shown_ref after) n
  next_if_none_before (q ∷ before) after r n none some e = absurd (cc)
  next_if_none_before [] [] r n none some e = absurd (cc)
  next_if_none_before [] (q ∷ after) r n none some e =
      let same : r ≡ q = cc in
      next_after [] (shown_ref q) (map shown_ref after) n (e ∙ ap (λ (x : HeldRef A). x.name.items) same) tt

  pub next_if_none_after : (before after : List (HeldRef A)) (r : HeldRef A) (n : Bytes) → Some r ≡ slice_get before 0 → None ≡ slice_get after 0 → n ≡ r.name.items → IsNextName (map shown_ref before) (map shown_ref after) n
  next_if_none_after before (q ∷ after) r n some none e = absurd (cc)
  next_if_none_after [] [] r n some none e = absurd (cc)
  next_if_none_after (q ∷ before) [] r n some none e =
      let same : r ≡ q = cc in
      next_before (shown_ref q) (map shown_ref before) [] n (e ∙ ap (λ (x : HeldRef A). x.name.items) same) tt

  -- the first refs have these names, which were compared
  module _ (p q : HeldRef A) (n x y : Bytes) (b : Bool) (x_is : x ≡ q.name.items) (y_is : y ≡ p.name.items) (test : b ≡ partial_lt (slice_partial_cmp (λ a c. Some (nat_cmp a c))) x y) where
    tested : is_lt (byte_cmp q.name.items p.name.items) ≡ b
    tested = (λ i. is_lt (byte_cmp (sym x_is i) (sym y_is i))) ∙ sym (less_is x y) ∙ sym test

    pub next_if_less : (before after : List (HeldRef A)) → Some p ≡ slice_get before 0 → Some q ≡ slice_get after 0 → n ≡ q.name.items → b ≡ true → IsNextName (map shown_ref before) (map shown_ref after) n
    next_if_less [] after first second e t = absurd (cc first)
    next_if_less (s ∷ before) [] first second e t = absurd (cc second)
    next_if_less (s ∷ before) (r ∷ after) first second e t =
        let held : p ≡ s = some_same p s first in
        let holds : q ≡ r = some_same q r second in
        let less : is_lt (byte_cmp n s.name.items) ≡ true = (λ i. is_lt (byte_cmp (e i) (ap (λ (z : HeldRef A). z.name.items) (sym held) i))) ∙ tested ∙ t in
        next_after (shown_ref s ∷ map shown_ref before) (shown_ref r) (map shown_ref after) n (e ∙ ap (λ (z : HeldRef A). z.name.items) holds) (inr less)

    pub next_if_not_less : (before after : List (HeldRef A)) → Some p ≡ slice_get before 0 → Some q ≡ slice_get after 0 → n ≡ p.name.items → b ≡ false → IsNextName (map shown_ref before) (map shown_ref after) n
    next_if_not_less [] after first second e t = absurd (cc first)
    next_if_not_less (s ∷ before) [] first second e t = absurd (cc second)
    next_if_not_less (s ∷ before) (r ∷ after) first second e t =
        let held : p ≡ s = some_same p s first in
        let holds : q ≡ r = some_same q r second in
        let not : is_lt (byte_cmp r.name.items n) ≡ false = (λ i. is_lt (byte_cmp (ap (λ (z : HeldRef A). z.name.items) (sym holds) i) (e i))) ∙ tested ∙ t in
        next_before (shown_ref s) (map shown_ref before) (shown_ref r ∷ map shown_ref after) n (e ∙ ap (λ (z : HeldRef A). z.name.items) held) (not_less n r.name.items not)

-- what is known of refs as they are held is known of them as they are seen
pub next_seen : {A : Type 0} (before after : List (HeldRef A)) (b a : List Ref) (n : Bytes) → map shown_ref before ≡ b → map shown_ref after ≡ a → IsNextName (map shown_ref before) (map shown_ref after) n → IsNextName b a n
next_seen before after b a n e f h = subst (λ rs. IsNextName rs a n) e (subst (λ rs. IsNextName (map shown_ref before) rs n) f h)

-- ---- all names

pub no_changes : AreChanges [] [] []
no_changes = record { sorted = refl; objects = λ m. refl }

-- these lines are written, and the changes of those refs are left
pub record IsReportedTo (old new before after : List Ref) (report : Bytes) : Type 0 where
  pub done : List (Bytes × Objects)
  pub text : report ≡ flat_map change_line done
  pub rest : (cs : List (Bytes × Objects)) → AreChanges before after cs → AreChanges old new (done ++ cs)

pub reported_none : (old new : List Ref) (report : Bytes) → report ≡ [] → IsReportedTo old new old new report
reported_none old new report e = record { done = []; text = e; rest = λ cs h. h }

lines_both : (xs ys : List (Bytes × Objects)) → flat_map change_line (xs ++ ys) ≡ flat_map change_line xs ++ flat_map change_line ys
lines_both [] ys = refl
lines_both (x ∷ xs) ys = ap (λ t. change_line x ++ t) (lines_both xs ys) ∙ sym (append_assoc (change_line x) (flat_map change_line xs) (flat_map change_line ys))

line_of_one : (n : Bytes) (o : Option Objects) → line_where_they_differ n o ≡ flat_map change_line (one n o)
line_of_one n None = refl
line_of_one n (Some objects) = sym (append-nil (change_line (n, objects)))

pub reported_next : (old new before after : List Ref) (report more : Bytes) (n : Bytes) → IsReportedTo old new before after report → IsTrue (is_sorted byte_cmp before) → IsTrue (is_sorted byte_cmp after) → IsNextName before after n
    → more ≡ report ++ line_where_they_differ n (where_they_differ (object_first before n) (object_first after n)) → IsReportedTo old new (behind before n) (behind after n) more
reported_next old new before after report more n h s t next e =
    let o = where_they_differ (object_first before n) (object_first after n) in
    record {
      done = h.done ++ one n o;
      text = e ∙ (λ i. h.text i ++ line_of_one n o i) ∙ sym (lines_both h.done (one n o));
      rest = λ cs are. subst (AreChanges old new) (sym (append_assoc h.done (one n o) cs)) (h.rest (one n o ++ cs) (with_next n before after (passes _ s) (passes _ t) next.0 next.1 cs are));
    }

pub reported_all : (old new before after : List Ref) (report : Bytes) → IsReportedTo old new before after report → before ≡ [] → after ≡ [] → IsReport old new report
reported_all old new before after report h e f = record {
  changes = h.done;
  are = subst (AreChanges old new) (append-nil h.done) (h.rest [] (subst (λ x. AreChanges x after []) (sym e) (subst (λ x. AreChanges [] x []) (sym f) no_changes)));
  text = h.text;
}
