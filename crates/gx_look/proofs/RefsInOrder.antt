-- Lines of refs in the order of their names: from where on one has a name.
use Rattle.std.proofs.Common.{◌≡◌, ◌⊎◌, inl, inr, ℕ, Bool, true, false, cond, eqb, List, [], ◌∷◌, ◌++◌, codes, take, drop, Option, Some, None, refl, sym, ap, ◌∙◌, subst, append_assoc}
use Rattle.std.specs.Prelude.{T, IsTrue}
use Rattle.std.specs.Bool.{passes}
use Rattle.std.specs.FinMap.Entries.{below_all, is_sorted}
use Rattle.std.specs.Map.{lookup}
use Rattle.std.specs.Option.{option_map}
use Rattle.std.specs.Ordering.{is_lt, ordering_reverse}
use Rattle.std.specs.declared.cmp.Ordering.{Ordering}
use Rattle.std.specs.declared.cmp.Ordering.TheVariants.{Less, Equal, Greater}
use Rattle.std.proofs.lemmas.Bool.{eqb-true, false_from_ne_true}
use Rattle.std.proofs.lemmas.Cmp.{nat_list_cmp_total}
use Rattle.std.proofs.lemmas.List.{take-append-drop}
use Rattle.gx_model.specs.Texts.{Bytes, byte_cmp, cut_at, same_bytes}
use Rattle.gx_model.specs.Objects.{hex}
use Rattle.gx_model.proofs.Histories.PathRuns.{less_is}
use Rattle.gx_model.proofs.Records.SortedRefs.{same_text}
use Rattle.gx_model.proofs.Texts.Cuts.{cut_here, cut_past, cut_spelled, map_some, some_is}
use Rattle.gx_model.proofs.Texts.PathTests.{first, is_same, is_true, same_is, second}
use Rattle.gx_look.specs.Refs.{AreLeft, AreLines, BeginsBefore, LeavesName}
use Rattle.gx_look.specs.Tails.{refs_text}
use Rattle.gx_look.proofs.LinesOfRefs.{is_first, last_line, one_line, others}

-- ---- names

not_less : (x : Bytes) → byte_cmp x x ≡ Less → ⊥
not_less x e = let k : Less ≡ Greater = sym e ∙ nat_list_cmp_total.antisymm x x ∙ ap ordering_reverse e in cc

-- a lesser name is another
less_other : (n x : Bytes) → byte_cmp x n ≡ Less → same_bytes n x ≡ false
less_other n x l = false_from_ne_true _ (λ t. not_less x (subst (λ z. byte_cmp x z ≡ Less) (same_is n x (passes _ t)) l))

-- so is a greater one
greater_other : (n x : Bytes) → byte_cmp n x ≡ Less → same_bytes n x ≡ false
greater_other n x l = false_from_ne_true _ (λ t. not_less n (subst (λ z. byte_cmp n z ≡ Less) (sym (same_is n x (passes _ t))) l))

module _ (name : Bytes) where
  -- what is less than a name isn't among those above it
  below_more : (y : Bytes) (refs : List (Bytes × Bytes)) → byte_cmp name y ≡ Less → T (below_all byte_cmp y refs) → lookup (same_bytes name) refs ≡ None
  below_more y [] l h = refl
  below_more y (x ∷ xs) l h =
      let less = nat_list_cmp_total.trans name y x.0 l (less_is (byte_cmp y x.0) (first (is_lt (byte_cmp y x.0)) (below_all byte_cmp y xs) h)) in
      ap (λ b. cond b (Some x.1) (lookup (same_bytes name) xs)) (greater_other name x.0 less) ∙ below_more y xs l (second (is_lt (byte_cmp y x.0)) (below_all byte_cmp y xs) h)

  -- what is less than all is less than the one in the midst
  less_than : (a : Bytes) (front : List (Bytes × Bytes)) (x : Bytes × Bytes) (xs : List (Bytes × Bytes)) → T (below_all byte_cmp a (front ++ x ∷ xs)) → byte_cmp a x.0 ≡ Less
  less_than a [] x xs h = less_is (byte_cmp a x.0) (first (is_lt (byte_cmp a x.0)) (below_all byte_cmp a xs) h)
  less_than a (y ∷ ys) x xs h = less_than a ys x xs (second (is_lt (byte_cmp a y.0)) (below_all byte_cmp a (ys ++ x ∷ xs)) h)

  -- in front of a lesser name it isn't
  none_before : (front : List (Bytes × Bytes)) (x : Bytes × Bytes) (xs : List (Bytes × Bytes)) → T (is_sorted byte_cmp (front ++ x ∷ xs)) → byte_cmp x.0 name ≡ Less
      → lookup (same_bytes name) (front ++ x ∷ xs) ≡ lookup (same_bytes name) (x ∷ xs)
  none_before [] x xs s l = refl
  none_before (a ∷ front) x xs s l =
      let below = below_all byte_cmp a.0 (front ++ x ∷ xs) in
      let rest = is_sorted byte_cmp (front ++ x ∷ xs) in
      let less = less_than a.0 front x xs (first below rest s) in
      ap (λ b. cond b (Some a.1) (lookup (same_bytes name) (front ++ x ∷ xs))) (less_other name a.0 (nat_list_cmp_total.trans a.0 x.0 name less l))
      ∙ none_before front x xs (second below rest s) l

-- ---- where lines are cut

nothing_cut : cut_at 10 [] ≡ None
unfolding cut_at
nothing_cut = refl

some_none : {A : Type 0} (x : A) (o : Option A) → o ≡ Some x → o ≡ None → ⊥
some_none x None e f = cc
some_none x (Some y) e f = cc

map_none : {A B : Type 0} (f : A → B) (o : Option A) → option_map f o ≡ None → o ≡ None
map_none f None e = refl
map_none f (Some x) e = absurd (cc)

-- behind a text without an LF, the LF cuts
cut_front : (c : ℕ) (xs ys : Bytes) → cut_at c xs ≡ None → cut_at c (xs ++ c ∷ ys) ≡ Some (xs, ys)
cut_front c [] ys e = cut_here c ys
cut_front c (x ∷ xs) ys e = by (eqb x c) refl (cut_front c xs ys)
  where
    by : (t : Bool) → eqb x c ≡ t → (cut_at c xs ≡ None → cut_at c (xs ++ c ∷ ys) ≡ Some (xs, ys)) → cut_at c (x ∷ (xs ++ c ∷ ys)) ≡ Some (x ∷ xs, ys)
    by true t again =
        absurd (some_none ([], xs) (cut_at c (c ∷ xs)) (cut_here c xs) (ap (λ z. cut_at c (z ∷ xs)) (sym (eqb-true x c t)) ∙ e))
    by false t again =
        let none = map_none (λ (p : Bytes × Bytes). (x ∷ p.0, p.1)) (cut_at c xs) (sym (cut_past c x xs t) ∙ e) in
        cut_past c x (xs ++ c ∷ ys) t ∙ ap (option_map (λ (p : Bytes × Bytes). (x ∷ p.0, p.1))) (again none)

-- what follows a text doesn't change where it is cut
cut_within : (c : ℕ) (xs ys : Bytes) (p : Bytes × Bytes) → cut_at c xs ≡ Some p → cut_at c (xs ++ ys) ≡ Some (p.0, p.1 ++ ys)
unfolding cut_at
cut_within c [] ys p e = absurd (cc)
cut_within c (x ∷ xs) ys p e = by (eqb x c) refl (λ q. cut_within c xs ys q)
  where
    by : (t : Bool) → eqb x c ≡ t → ((q : Bytes × Bytes) → cut_at c xs ≡ Some q → cut_at c (xs ++ ys) ≡ Some (q.0, q.1 ++ ys)) → cut_at c (x ∷ (xs ++ ys)) ≡ Some (p.0, p.1 ++ ys)
    by true t again =
        let q : ([], xs) ≡ p = some_is ([], xs) p (sym (cut_here c xs) ∙ ap (λ z. cut_at c (z ∷ xs)) (sym (eqb-true x c t)) ∙ e) in
        subst (λ (q : Bytes × Bytes). cut_at c (x ∷ (xs ++ ys)) ≡ Some (q.0, q.1 ++ ys)) q (ap (λ z. cut_at c (z ∷ (xs ++ ys))) (eqb-true x c t) ∙ cut_here c (xs ++ ys))
    by false t again =
        let m = map_some (λ (q : Bytes × Bytes). (x ∷ q.0, q.1)) (cut_at c xs) p (sym (cut_past c x xs t) ∙ e) in
        subst (λ (q : Bytes × Bytes). cut_at c (x ∷ (xs ++ ys)) ≡ Some (q.0, q.1 ++ ys)) m.2
        (cut_past c x (xs ++ ys) t ∙ ap (option_map (λ (q : Bytes × Bytes). (x ∷ q.0, q.1))) (again m.0 m.1))

-- the lines of the last refs
pub record AreLast (from : Bytes) (refs : List (Bytes × Bytes)) : Type 0 where
  pub front : List (Bytes × Bytes)
  pub behind : List (Bytes × Bytes)
  pub all : refs ≡ front ++ behind
  pub lines : AreLines from behind

-- behind an LF among lines stand nothing, or the lines of the last refs
cut_lines : (rest front from : Bytes) (refs : List (Bytes × Bytes)) → AreLines rest refs → rest ≡ front ++ 10 ∷ from → (from ≡ []) ⊎ AreLast from refs
cut_lines rest front from [] lines e = by (cut_at 10 front) refl
  where
    here : cut_at 10 (front ++ 10 ∷ from) ≡ Some (codes "end", [])
    here = ap (cut_at 10) (sym e ∙ lines.spelled) ∙ last_line

    some_behind : (x y : Bytes) → x ++ 10 ∷ y ≡ [] → ⊥
    some_behind [] y k = cc
    some_behind (z ∷ zs) y k = cc

    by : (o : Option (Bytes × Bytes)) → cut_at 10 front ≡ o → (from ≡ []) ⊎ AreLast from []
    by None n =
        let is = some_is (front, from) (codes "end", []) (sym (cut_front 10 front from n) ∙ here) in
        inl (ap (λ (p : Bytes × Bytes). p.1) is)
    by (Some p) s =
        let is = some_is (p.0, p.1 ++ 10 ∷ from) (codes "end", []) (sym (cut_within 10 front (10 ∷ from) p s) ∙ here) in
        absurd (some_behind p.1 from (ap (λ (p : Bytes × Bytes). p.1) is))
cut_lines rest front from (x ∷ xs) lines e = by (cut_at 10 front) refl (λ p. cut_lines (refs_text xs) p from xs (others rest x xs lines))
  where
    by : (o : Option (Bytes × Bytes)) → cut_at 10 front ≡ o → ((p : Bytes) → refs_text xs ≡ p ++ 10 ∷ from → (from ≡ []) ⊎ AreLast from xs) → (from ≡ []) ⊎ AreLast from (x ∷ xs)
    by None n again =
        let is = some_is (front, from) (hex x.1 ++ 32 ∷ x.0, refs_text xs) (sym (cut_front 10 front from n) ∙ ap (cut_at 10) (sym e) ∙ one_line rest x xs lines) in
        inr (record { front = x ∷ []; behind = xs; all = refl; lines = subst (λ z. AreLines z xs) (sym (ap (λ (p : Bytes × Bytes). p.1) is)) (others rest x xs lines) })
    by (Some p) s again =
        let is = some_is (p.0, p.1 ++ 10 ∷ from) (hex x.1 ++ 32 ∷ x.0, refs_text xs) (sym (cut_within 10 front (10 ∷ from) p s) ∙ ap (cut_at 10) (sym e) ∙ one_line rest x xs lines) in
        elim (again p.1 (sym (ap (λ (p : Bytes × Bytes). p.1) is))) [
          | inl nothing ↦ inl nothing
          | inr last ↦ inr (record { front = x ∷ last.front; behind = last.behind; all = ap (λ z. x ∷ z) last.all; lines = last.lines })
        ]

-- ---- what is left

pub all_left : (lines name : Bytes) → LeavesName lines name lines
all_left lines name = λ refs h. record { left = refs; lines = h; same = refl }

pub more_left : (lines rest later name : Bytes) → LeavesName lines name rest → LeavesName rest name later → LeavesName lines name later
more_left lines rest later name one two = λ refs h.
    let a = one refs h in
    let b = two a.left a.lines in
    record { left = b.left; lines = b.lines; same = a.same ∙ b.same }

-- behind a line whose next one has a lesser name the ref stands, if it does
pub later_left : (lines : Bytes) (n : ℕ) (part later name : Bytes) → cut_at 10 (drop n lines) ≡ Some (part, later) → BeginsBefore name later → LeavesName lines name later
later_left lines n part later name cut before = λ refs h.
    let e : lines ≡ (take n lines ++ part) ++ 10 ∷ later =
    sym (take-append-drop n lines) ∙ ap (λ z. take n lines ++ z) (cut_spelled 10 (drop n lines) (part, later) cut) ∙ sym (append_assoc (take n lines) part (10 ∷ later)) in
    by refs h (cut_lines lines (take n lines ++ part) later refs h e)
  where
    by : (refs : List (Bytes × Bytes)) → AreLines lines refs → (later ≡ []) ⊎ AreLast later refs → AreLeft name later refs
    by refs h (inl nothing) =
        absurd (some_none (before.stands.line, before.stands.behind) (cut_at 10 later) before.stands.front (ap (cut_at 10) nothing ∙ nothing_cut))
    by refs h (inr last) =
        let f = is_first later before.stands.line before.stands.behind before.digits before.called last.behind last.lines before.stands.front before.stands.parts in
        let less = subst (λ z. byte_cmp z name ≡ Less) f.called_is before.less in
        let all : refs ≡ last.front ++ f.x ∷ f.xs = last.all ∙ ap (λ z. last.front ++ z) f.refs_are in
        let sorted = passes _ (subst (λ z. IsTrue (is_sorted byte_cmp z)) all h.sorted) in
        record {
          left = last.behind;
          lines = last.lines;
          same = ap (lookup (same_bytes name)) all ∙ none_before name last.front f.x f.xs sorted less ∙ ap (lookup (same_bytes name)) (sym f.refs_are);
        }

-- where the first name isn't less, nor the same, none is
pub none_later : (name rest line behind digits called : Bytes) (refs : List (Bytes × Bytes)) → AreLines rest refs → cut_at 10 rest ≡ Some (line, behind) → cut_at 32 line ≡ Some (digits, called)
    → same_bytes called name ≡ false → is_lt (byte_cmp called name) ≡ false → lookup (same_bytes name) refs ≡ None
none_later name rest line behind digits called refs h c s other not_lt =
    let f = is_first rest line behind digits called refs h c s in
    let above = subst (λ z. byte_cmp name z ≡ Less) f.called_is (greater (byte_cmp called name) refl not_lt) in
    let sorted = passes _ (subst (λ z. IsTrue (is_sorted byte_cmp z)) f.refs_are h.sorted) in
    ap (lookup (same_bytes name)) f.refs_are
    ∙ ap (λ b. cond b (Some f.x.1) (lookup (same_bytes name) f.xs)) (greater_other name f.x.0 above)
    ∙ below_more name f.x.0 f.xs above (first (below_all byte_cmp f.x.0 f.xs) (is_sorted byte_cmp f.xs) sorted)
  where
    greater : (o : Ordering) → byte_cmp called name ≡ o → is_lt o ≡ false → byte_cmp name called ≡ Less
    greater Less e k = absurd (cc)
    greater Equal e k = let l = sym (is_true _ (is_same called name (same_text called name e))) ∙ other in absurd (cc)
    greater Greater e k = nat_list_cmp_total.antisymm name called ∙ ap ordering_reverse e
