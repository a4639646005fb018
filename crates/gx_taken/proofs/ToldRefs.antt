-- Refs that are told of one after the other come to names that are dropped first, and changes behind that.
use Rattle.std.proofs.Common.{◌≡◌, Bool, true, false, cond, List, [], ◌∷◌, Some, None, refl, sym, ap, ◌∙◌}
use Rattle.std.specs.Prelude.{T, not, ◌||◌, if◌then◌else◌}
use Rattle.std.specs.List.{fold}
use Rattle.std.specs.Bool.{passes}
use Rattle.std.specs.Ordering.{eq_by_cmp, is_eq}
use Rattle.std.specs.declared.cmp.Ordering.{Ordering}
use Rattle.std.specs.declared.cmp.Ordering.TheVariants.{Less, Equal, Greater}
use Rattle.std.specs.FinMap.Entries.{find, find-put, find-where_key, is_sorted, is_sorted-put, is_sorted-where_key, put, same_entries}
use Rattle.gx_model.specs.Texts.{Bytes, byte_cmp, same_bytes}
use Rattle.gx_model.specs.Records.Publishing.{Change, Ref, with_changes}
use Rattle.gx_model.proofs.Records.SortedRefs.{order, same_text}
use Rattle.gx_model.proofs.Texts.PathTests.{same_is}
use Rattle.gx_repo.specs.Dropping.{is_among, without}
use Rattle.gx_wide.specs.Placing.{is_dropped}
use Rattle.gx_taken.specs.Taking.{with_told}

tied : (q n : Bytes) → eq_by_cmp byte_cmp q n ≡ true → byte_cmp q n ≡ Equal
tied q n t = of (byte_cmp q n) t where
  of : (o : Ordering) → is_eq o ≡ true → o ≡ Equal
  of Less e = absurd (cc e)
  of Equal e = refl
  of Greater e = absurd (cc e)

pub is_one : (q n : Bytes) → eq_by_cmp byte_cmp q n ≡ true → q ≡ n
is_one q n t = same_text q n (tied q n t)

module _ (names : List Bytes) where
  abbrev pub is_left : Bytes → Bool
  is_left n = not (is_among names n)

  alike : (q x : Bytes) → byte_cmp q x ≡ Equal → is_left x ≡ is_left q
  alike q x e = ap is_left (sym (same_text q x e))

  -- what is found where some are left out
  pub found_left : (q : Bytes) (refs : List Ref) → find byte_cmp q (without names refs) ≡ cond (is_left q) (find byte_cmp q refs) None
  found_left q refs = find-where_key byte_cmp is_left q (alike q) refs

  pub sorted_left : (refs : List Ref) → T (is_sorted byte_cmp refs) → T (is_sorted byte_cmp (without names refs))
  sorted_left refs s = is_sorted-where_key byte_cmp is_left refs s

  module _ (n object : Bytes) (refs : List Ref) (s : T (is_sorted byte_cmp refs)) where
    with_one : List Ref
    with_one = put byte_cmp n object refs

    found_put : (q : Bytes) → find byte_cmp q (without names (put byte_cmp n object refs)) ≡ cond (is_left q) (cond (eq_by_cmp byte_cmp q n) (Some object) (find byte_cmp q refs)) None
    found_put q = found_left q (put byte_cmp n object refs) ∙ ap (λ o. cond (is_left q) o None) (find-put byte_cmp order q n object refs)

    -- a ref that is set is left, where its name is
    pub put_left : is_among names n ≡ false → without names (put byte_cmp n object refs) ≡ put byte_cmp n object (without names refs)
    put_left new =
        same_entries byte_cmp order same_text (without names (put byte_cmp n object refs)) (put byte_cmp n object (without names refs))
        (sorted_left (put byte_cmp n object refs) (is_sorted-put byte_cmp order n object refs s))
        (is_sorted-put byte_cmp order n object (without names refs) (sorted_left refs s))
        (λ q. found_put q ∙ by q (eq_by_cmp byte_cmp q n) refl
        ∙ sym (find-put byte_cmp order q n object (without names refs) ∙ ap (cond (eq_by_cmp byte_cmp q n) (Some object)) (found_left q refs)))
      where
        by : (q : Bytes) (b : Bool) → eq_by_cmp byte_cmp q n ≡ b
            → cond (is_left q) (cond b (Some object) (find byte_cmp q refs)) None ≡ cond b (Some object) (cond (is_left q) (find byte_cmp q refs) None)
        by q true t = ap (λ l. cond l (Some object) None) (ap is_left (is_one q n t) ∙ ap not new)
        by q false t = refl

    -- and otherwise it isn't there
    pub put_gone : is_among names n ≡ true → without names (put byte_cmp n object refs) ≡ without names refs
    put_gone known =
        same_entries byte_cmp order same_text (without names (put byte_cmp n object refs)) (without names refs)
        (sorted_left (put byte_cmp n object refs) (is_sorted-put byte_cmp order n object refs s)) (sorted_left refs s)
        (λ q. found_put q ∙ by q (eq_by_cmp byte_cmp q n) refl ∙ sym (found_left q refs))
      where
        by : (q : Bytes) (b : Bool) → eq_by_cmp byte_cmp q n ≡ b
            → cond (is_left q) (cond b (Some object) (find byte_cmp q refs)) None ≡ cond (is_left q) (find byte_cmp q refs) None
        by q true t =
            let out : is_left q ≡ false = ap is_left (is_one q n t) ∙ ap not known in
            ap (λ l. cond l (Some object) None) out ∙ ap (λ l. cond l (find byte_cmp q refs) None) (sym out)
        by q false t = refl

  module _ (n : Bytes) where
    -- one name more is left out
    pub without_more : (refs : List Ref) → without names (without (n ∷ []) refs) ≡ without (n ∷ names) refs
    without_more [] = refl
    without_more (r ∷ rs) = by (same_bytes n r.0) (without_more rs) where
      by : (a : Bool) → without names (without (n ∷ []) rs) ≡ without (n ∷ names) rs
          → without names (cond (not (a || false)) (r ∷ without (n ∷ []) rs) (without (n ∷ []) rs)) ≡ cond (not (a || is_among names r.0)) (r ∷ without (n ∷ names) rs) (without (n ∷ names) rs)
      by true k = k
      by false k = ap (λ z. cond (not (is_among names r.0)) (r ∷ z) z) k

    -- one that is left out already changes nothing
    pub without_again : is_among names n ≡ true → (refs : List Ref) → without names (without (n ∷ []) refs) ≡ without names refs
    without_again known [] = refl
    without_again known (r ∷ rs) = by (same_bytes n r.0) refl (without_again known rs) where
      by : (a : Bool) → same_bytes n r.0 ≡ a → without names (without (n ∷ []) rs) ≡ without names rs
          → without names (cond (not (a || false)) (r ∷ without (n ∷ []) rs) (without (n ∷ []) rs)) ≡ cond (not (is_among names r.0)) (r ∷ without names rs) (without names rs)
      by true e k =
          let same : n ≡ r.0 = same_is n r.0 (passes _ e) in
          k ∙ ap (λ b. cond (not b) (r ∷ without names rs) (without names rs)) (sym (ap (is_among names) (sym same) ∙ known))
      by false e k = ap (λ z. cond (not (is_among names r.0)) (r ∷ z) z) k

-- ---- all that is told

-- what is dropped, and what is set behind that, by one ref more in front
abbrev pub turn : Ref → List Bytes × List Change → List Bytes × List Change
turn told later = if is_among later.0 told.0 then later else (if is_dropped told.1 then (told.0 ∷ later.0, later.1) else (later.0, told ∷ later.1))

abbrev pub turned : List Ref → List Bytes × List Change
turned [] = ([], [])
turned (told ∷ others) = turn told (turned others)

pub without_none : (refs : List Ref) → without [] refs ≡ refs
without_none [] = refl
without_none (r ∷ rs) = ap (λ z. r ∷ z) (without_none rs)

sorted_told : (refs : List Ref) (told : Ref) → T (is_sorted byte_cmp refs) → T (is_sorted byte_cmp (with_told refs told))
sorted_told refs told s = by (is_dropped told.1) where
  by : (d : Bool) → T (is_sorted byte_cmp (if d then without (told.0 ∷ []) refs else put byte_cmp told.0 told.1 refs))
  by true = sorted_left (told.0 ∷ []) refs s
  by false = is_sorted-put byte_cmp order told.0 told.1 refs s

one_turned : (refs : List Ref) (told : Ref) (later : List Bytes × List Change) → T (is_sorted byte_cmp refs)
    → with_changes (without later.0 (with_told refs told)) later.1 ≡ with_changes (without (turn told later).0 refs) (turn told later).1
one_turned refs told later s = by (is_among later.0 told.0) (is_dropped told.1) refl where
  by : (a d : Bool) → is_among later.0 told.0 ≡ a
      → with_changes (without later.0 (if d then without (told.0 ∷ []) refs else put byte_cmp told.0 told.1 refs)) later.1
      ≡ with_changes (without (if a then later else (if d then (told.0 ∷ later.0, later.1) else (later.0, told ∷ later.1))).0 refs) (if a then later else (if d then (told.0 ∷ later.0, later.1) else (later.0, told ∷ later.1))).1
  by true true e = ap (λ rs. with_changes rs later.1) (without_again later.0 told.0 e refs)
  by true false e = ap (λ rs. with_changes rs later.1) (put_gone later.0 told.0 told.1 refs s e)
  by false true e = ap (λ rs. with_changes rs later.1) (without_more later.0 told.0 refs)
  by false false e = ap (λ rs. with_changes rs later.1) (put_left later.0 told.0 told.1 refs s e)

-- the refs come to be what is told in order
pub all_turned : (told : List Ref) (refs : List Ref) → T (is_sorted byte_cmp refs) → fold with_told refs told ≡ with_changes (without (turned told).0 refs) (turned told).1
all_turned [] refs s = sym (without_none refs)
all_turned (t ∷ ts) refs s = all_turned ts (with_told refs t) (sorted_told refs t s) ∙ one_turned refs t (turned ts) s
