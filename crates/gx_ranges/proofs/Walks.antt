-- The walk: what was told, as it goes down commit by commit.
use Rattle.std.proofs.Common.{◌≡◌, ℕ, zero, suc, ◌+◌, ◌-◌, ◌<◌, ◌≤◌, Bool, true, false, cond, refl, sym, ap, subst, ◌∙◌, arith, List, [], ◌∷◌, ◌++◌, drop, length, Some, inl, inr, append-nil}
use Rattle.std.specs.Prelude.{IsTrue, ◌&&◌, not, reverse}
use Rattle.std.specs.List.{filter, filter_map, slice_get}
use Rattle.std.proofs.lemmas.List.{drop_all}
use Rattle.std.proofs.lemmas.List.Elements.{filter-append}
use Rattle.std.proofs.lemmas.Grind.{reverse_onto}
use Rattle.gx_model.specs.declared.objects.Kind.{Kind}
use Rattle.gx_model.specs.Histories.{Records}
use Rattle.gx_model.specs.Histories.Marks.{IsAt}
use Rattle.gx_model.specs.Histories.Values.{Commit, Value, blob_value, commit_of, commit_value, parents_of, tag_value, tree_value}
use Rattle.gx_model.specs.Laws.RepositoryLaws.{values_of}
use Rattle.gx_model.specs.Objects.{IsNamer}
use Rattle.gx_model.specs.Records.Sound.{IsSound}
use Rattle.gx_model.specs.Revisions.Ranges.{reaches, some_reaches}
use Rattle.gx_model.specs.Texts.{Bytes}
use Rattle.gx_model.proofs.Records.Standing.{at_within, same_place}
use Rattle.gx_model.proofs.Histories.ReachedCommits.{itself}
use Rattle.gx_model.proofs.Texts.PathTests.{is_true}
use Rattle.gx_object.specs.declared.name.Name.{Name}
use Rattle.gx_objects.specs.Answers.{GoesUp}
use Rattle.gx_rev.specs.Objects.{commit_at}
use Rattle.gx_ranges.specs.Fronts.{Adds, AreBelow, AreTips, GoesDown, IsLast, IsTip, lead_to}
use Rattle.gx_ranges.specs.Walks.{IsWalk, passing_from}
use Rattle.gx_ranges.proofs.Tips.{all_last, last_leads, leads_further, not_behind, number_of, reached_below, before}
use Rattle.gx_ranges.proofs.Reached.{by_parents, or_either, or_first, or_second, reached_before, reaches_by, true_or_false}

abbrev Tip : Type 0
Tip = ℕ × Name

-- ---- what passes from a number on

-- the commits of some values that pass, the last one first
abbrev pub passing : (Commit → Bool) → List Value → List Commit
passing test vs = filter test (reverse (filter_map commit_of vs))

-- the commit that is a value, where it passes
abbrev pub if_passing : (Commit → Bool) → Value → List Commit
if_passing test (commit_value c) = cond (test c) (c ∷ []) []
if_passing test _ = []

reversed_onto : {X : Type 0} (xs : List X) (x : X) → reverse (x ∷ xs) ≡ reverse xs ++ x ∷ []
reversed_onto xs x = reverse_onto xs x []

pub passing_first : (test : Commit → Bool) (v : Value) (vs : List Value) → passing test (v ∷ vs) ≡ passing test vs ++ if_passing test v
passing_first test (blob_value x) vs = sym (append-nil (passing test vs))
passing_first test (tree_value f) vs = sym (append-nil (passing test vs))
passing_first test (tag_value t) vs = sym (append-nil (passing test vs))
passing_first test (commit_value c) vs =
    ap (filter test) (reversed_onto (filter_map commit_of vs) c) ∙ filter-append test (reverse (filter_map commit_of vs)) (c ∷ [])

-- no commit among the first n passes
abbrev NonePass : (Commit → Bool) → List Value → ℕ → Type 0
NonePass test vs n = (i : ℕ) (c : Commit) → i < n → slice_get vs i ≡ Some (commit_value c) → IsTrue (test c) → ⊥

passing_none : (test : Commit → Bool) (v : Value) → ((c : Commit) → v ≡ commit_value c → IsTrue (test c) → ⊥) → if_passing test v ≡ []
passing_none test (blob_value x) h = refl
passing_none test (tree_value f) h = refl
passing_none test (tag_value t) h = refl
passing_none test (commit_value c) h = elim (true_or_false (test c)) [
  | inl e ↦ absurd (h c refl e)
  | inr e ↦ ap (λ b. cond b (c ∷ []) []) e
]

-- those that don't pass may be left out
pub passing_later : (test : Commit → Bool) (vs : List Value) (n : ℕ) → NonePass test vs n → passing test vs ≡ passing test (drop n vs)
passing_later test [] zero h = refl
passing_later test [] (suc n) h = refl
passing_later test (v ∷ vs) zero h = refl
passing_later test (v ∷ vs) (suc n) h =
    passing_first test v vs
    ∙ ap (λ cs. passing test vs ++ cs) (passing_none test v (λ c e k. h 0 c (omega arith) (ap Some e) k))
    ∙ append-nil (passing test vs)
    ∙ passing_later test vs n (λ i c l e k. h (suc i) c (omega (arith, l)) e k)

dropped_at : (vs : List Value) (i : ℕ) (v : Value) → slice_get vs i ≡ Some v → drop i vs ≡ v ∷ drop (suc i) vs
dropped_at [] i v e = absurd cc
dropped_at (w ∷ vs) zero v e = let same : w ≡ v = cc in ap (λ u. u ∷ vs) same
dropped_at (w ∷ vs) (suc i) v e = dropped_at vs i v e

dropped_get : (vs : List Value) (n i : ℕ) → slice_get (drop n vs) i ≡ slice_get vs (n + i)
dropped_get vs zero i = ap (slice_get vs) (let e : i ≡ 0 + i = omega arith in e)
dropped_get [] (suc n) i = refl
dropped_get (v ∷ vs) (suc n) i = dropped_get vs n i ∙ ap (slice_get (v ∷ vs)) (let e : suc (n + i) ≡ suc n + i = omega arith in e)

pub drop_none : (n : ℕ) → ◌≡◌ {A = List Value} (drop n []) []
drop_none zero = refl
drop_none (suc n) = refl

dropped_on : (vs : List Value) (n m : ℕ) → drop m (drop n vs) ≡ drop (n + m) vs
dropped_on vs zero m = ap (λ k. drop k vs) (let e : m ≡ 0 + m = omega arith in e)
dropped_on [] (suc n) m = drop_none m ∙ sym (drop_none (suc n + m))
dropped_on (v ∷ vs) (suc n) m = dropped_on vs n m ∙ ap (λ k. drop k (v ∷ vs)) (let e : suc (n + m) ≡ suc n + m = omega arith in e)

module _ (r : Records) (included excluded : Commit → Bool) where
  abbrev pub passes_both : Commit → Bool
  passes_both c = included c && not (excluded c)

  -- between two numbers none passes
  pub passing_between : (n m : ℕ) → n ≤ m → ((i : ℕ) (c : Commit) → IsAt r i c → n ≤ i → i < m → IsTrue (passes_both c) → ⊥)
      → passing_from r included excluded m ≡ passing_from r included excluded n
  passing_between n m l h =
      let e : n + (m - n) ≡ m = omega arith in
      ap (λ k. passing passes_both (drop k (values_of r))) (sym e)
      ∙ ap (passing passes_both) (sym (dropped_on (values_of r) n (m - n)))
      ∙ sym (passing_later passes_both (drop n (values_of r)) (m - n) (λ i c k e p. h (n + i) c (sym (dropped_get (values_of r) n i) ∙ e) (omega arith) (omega (arith, k, l)) p))

  -- the one at a number passes
  pub passing_here : (n : ℕ) (c : Commit) → IsAt r n c → IsTrue (passes_both c) → passing_from r included excluded n ≡ passing_from r included excluded (suc n) ++ c ∷ []
  passing_here n c e p =
      ap (passing passes_both) (dropped_at (values_of r) n (commit_value c) e)
      ∙ passing_first passes_both (commit_value c) (drop (suc n) (values_of r))
      ∙ ap (λ b. passing passes_both (drop (suc n) (values_of r)) ++ cond b (c ∷ []) []) p

pub passing_ends : (r : Records) (included excluded : Commit → Bool) → passing_from r included excluded (length (values_of r)) ≡ []
passing_ends r included excluded = ap (passing (λ made. included made && not (excluded made))) (drop_all (length (values_of r)) (values_of r) (omega arith))

-- ---- the walk

passes_of : (a b : Bool) → IsTrue (a && not b) → IsTrue a × (b ≡ false)
passes_of true false h = (refl, refl)
passes_of true true h = absurd cc
passes_of false b h = absurd cc

passes_if : (a b : Bool) → IsTrue a → b ≡ false → IsTrue (a && not b)
passes_if true false h e = refl
passes_if true true h e = absurd cc
passes_if false b h e = absurd cc

module _ (name : Kind → Bytes → Bytes) (namer : IsNamer name) (r : Records) (sound : IsSound name r) (stands : ℕ → ℕ) (order : GoesUp stands (length r.records)) where
  -- how it begins
  pub begins : (wanted unwanted : List Tip) → AreTips stands wanted r → AreTips stands unwanted r
      → IsWalk stands (lead_to r wanted) (lead_to r unwanted) wanted unwanted [] (length (values_of r)) r
  begins wanted unwanted t u = record {
    wanted_tips = t;
    unwanted_tips = u;
    below = λ i c e h. at_within (values_of r) i (commit_value c) e;
    only = λ c h. h;
    excludes = λ i c e l. refl;
    includes = λ i c e l h. inl h;
    told = sym (passing_ends r (lead_to r wanted) (lead_to r unwanted));
  }

  module _ (included excluded : Commit → Bool) where
    abbrev Walk : List Tip → List Tip → List Commit → ℕ → Type 0
    Walk wanted unwanted told number = IsWalk stands included excluded wanted unwanted told number r

    -- nothing that passes isn't reached by what is wanted
    wanted_leads : (wanted unwanted : List Tip) (told : List Commit) (number : ℕ) → Walk wanted unwanted told number → (i : ℕ) (c : Commit) → IsAt r i c → i < number → IsTrue (included c && not (excluded c)) → IsTrue (lead_to r wanted c)
    wanted_leads wanted unwanted told number w i c e l p =
        let both = passes_of (included c) (excluded c) p in
        elim (w.includes i c e l both.0) [
          | inl a ↦ a
          | inr a ↦ absurd (let o : false ≡ true = sym both.1 ∙ w.excludes i c e l ∙ a in cc o)
        ]

    -- where nothing is wanted any more, all are told
    pub ends : (unwanted : List Tip) (told : List Commit) (number : ℕ) → Walk [] unwanted told number → told ≡ passing_from r included excluded 0
    ends unwanted told number w =
        w.told ∙ passing_between r included excluded 0 number (omega arith) (λ i c e l m p. let o : false ≡ true = wanted_leads [] unwanted told number w i c e m p in cc o)

    module _ (wanted rest unwanted : List Tip) (told : List Commit) (last : Tip) (was : IsLast wanted rest last) where
      -- the last one that is wanted reaches itself
      last_leads_itself : IsTrue (lead_to r (rest ++ last ∷ []) (commit_at r last.1))
      last_leads_itself = last_leads r rest last (commit_at r last.1) ∙ or_second (lead_to r rest (commit_at r last.1)) (reaches (commit_at r last.1) (commit_at r last.1)) (is_true _ (itself (commit_at r last.1)))

      -- the walk has come down to it
      pub comes_down : (number : ℕ) → Walk wanted unwanted told number → (j : ℕ) × IsAt r j (commit_at r last.1) × (stands j ≡ last.0) × Walk (rest ++ last ∷ []) unwanted told (suc j)
      comes_down number walk = (
        j,
        at,
        here.2,
        record {
          wanted_tips = w.wanted_tips;
          unwanted_tips = w.unwanted_tips;
          below = λ i c e h. lower i c e h;
          only = w.only;
          excludes = λ i c e l. w.excludes i c e (omega (arith, l, first));
          includes = λ i c e l. w.includes i c e (omega (arith, l, first));
          told = w.told ∙ passing_between r included excluded (suc j) number first (λ i c e l m p. let k = lower i c e (wanted_leads (rest ++ last ∷ []) unwanted told number w i c e m p) in omega (arith, k, l));
        },
      )
        where
          w : Walk (rest ++ last ∷ []) unwanted told number
          w = subst (λ xs. Walk xs unwanted told number) was.0 walk

          tips : AreTips stands rest r × IsTip stands r last
          tips = all_last (IsTip stands r) rest last w.wanted_tips

          here : (i : ℕ) × IsAt r i (commit_at r last.1) × (stands i ≡ last.0)
          here = number_of name namer r sound stands order last tips.1

          j : ℕ
          j = here.0

          at : IsAt r j (commit_at r last.1)
          at = here.1

          first : suc j ≤ number
          first = let l = w.below j (commit_at r last.1) at last_leads_itself in omega (arith, l)

          lower : (i : ℕ) (c : Commit) → IsAt r i c → IsTrue (lead_to r (rest ++ last ∷ []) c) → i < suc j
          lower i c e h = elim (or_either (lead_to r rest c) (reaches (commit_at r last.1) c) (sym (last_leads r rest last c) ∙ h)) [
            | inl a ↦
                let l = reached_below name namer r sound stands order last.0 rest i c tips.0 was.1 e a in
                let s = here.2 in
                let m = before name namer r sound stands order i j c (commit_at r last.1) e at (omega (arith, l, s)) in
                omega (arith, m)
            | inr a ↦ let l = reached_before name namer r sound (commit_at r last.1) c j i at e a in omega (arith, l)
          ]

      module _ (j : ℕ) (at : IsAt r j (commit_at r last.1)) (there : stands j ≡ last.0) where
        -- the unwanted come down to it
        pub unwanted_down : (new : List Tip) → GoesDown stands last.0 unwanted new r → Walk (rest ++ last ∷ []) unwanted told (suc j) → Walk (rest ++ last ∷ []) new told (suc j)
        unwanted_down new down w = record {
          wanted_tips = w.wanted_tips;
          unwanted_tips = down.tips;
          below = w.below;
          only = w.only;
          excludes = λ i c e l. w.excludes i c e l ∙ sym (down.same i c e (near i c e l));
          includes = λ i c e l h. elim (w.includes i c e l h) [ inl a ↦ inl a | inr a ↦ inr (down.same i c e (near i c e l) ∙ a) ];
          told = w.told;
        }
          where
            near : (i : ℕ) (c : Commit) → IsAt r i c → i < suc j → stands i ≤ last.0
            near i c e l = let m = not_behind name namer r sound stands order i j c (commit_at r last.1) e at (omega (arith, l)) in omega (arith, m, there)

        -- it is excluded, and dropped
        pub drops : IsTrue (lead_to r unwanted (commit_at r last.1)) → Walk (rest ++ last ∷ []) unwanted told (suc j) → Walk rest unwanted told (suc j)
        drops reached w = record {
          wanted_tips = (all_last (IsTip stands r) rest last w.wanted_tips).0;
          unwanted_tips = w.unwanted_tips;
          below = λ i c e h. w.below i c e (front c h);
          only = λ c h. w.only c (front c h);
          excludes = w.excludes;
          includes = λ i c e l h. elim (w.includes i c e l h) [
            | inl a ↦ elim (or_either (lead_to r rest c) (reaches (commit_at r last.1) c) (sym (last_leads r rest last c) ∙ a)) [
              | inl b ↦ inl b
              | inr b ↦ inr (leads_further r unwanted (commit_at r last.1) c reached b)
            ]
            | inr a ↦ inr a
          ];
          told = w.told;
        }
          where
            front : (c : Commit) → IsTrue (lead_to r rest c) → IsTrue (lead_to r (rest ++ last ∷ []) c)
            front c h = last_leads r rest last c ∙ or_first (lead_to r rest c) (reaches (commit_at r last.1) c) h

        -- whether it is excluded
        pub is_excluded_there : Walk (rest ++ last ∷ []) unwanted told (suc j) → excluded (commit_at r last.1) ≡ lead_to r unwanted (commit_at r last.1)
        is_excluded_there w = w.excludes j (commit_at r last.1) at (omega arith)

        -- it is told, and goes on to its parents
        pub tells : (new : List Tip) → excluded (commit_at r last.1) ≡ false → AreBelow last.0 new → Adds stands (some_reaches (parents_of (commit_at r last.1))) rest new r
            → Walk (rest ++ last ∷ []) unwanted told (suc j) → Walk new unwanted (told ++ commit_at r last.1 ∷ []) j
        tells new kept low adds w = record {
          wanted_tips = adds.tips;
          unwanted_tips = w.unwanted_tips;
          below = λ i c e h.
              let l = reached_below name namer r sound stands order last.0 new i c adds.tips low e h in
              before name namer r sound stands order i j c (commit_at r last.1) e at (omega (arith, l, there));
          only = λ c h. w.only c (last_leads r rest last c ∙ elim (or_either (lead_to r rest c) (some_reaches (parents_of (commit_at r last.1)) c) (sym (adds.reach c) ∙ h)) [
            | inl a ↦ or_first (lead_to r rest c) (reaches (commit_at r last.1) c) a
            | inr a ↦ or_second (lead_to r rest c) (reaches (commit_at r last.1) c) (by_parents (commit_at r last.1) c a)
          ]);
          excludes = λ i c e l. w.excludes i c e (omega (arith, l));
          includes = λ i c e l h. elim (w.includes i c e (omega (arith, l)) h) [
            | inl a ↦ inl (adds.reach c ∙ elim (or_either (lead_to r rest c) (reaches (commit_at r last.1) c) (sym (last_leads r rest last c) ∙ a)) [
              | inl b ↦ or_first (lead_to r rest c) (some_reaches (parents_of (commit_at r last.1)) c) b
              | inr b ↦ elim (reaches_by (commit_at r last.1) c b) [
                | inl s ↦ absurd (let o = same_place name namer r sound (commit_value c) j i (subst (IsAt r j) s at) e in omega (arith, l, o))
                | inr q ↦ or_second (lead_to r rest c) (some_reaches (parents_of (commit_at r last.1)) c) q
              ]
            ])
            | inr a ↦ inr a
          ];
          told = ap (λ cs. cs ++ commit_at r last.1 ∷ []) w.told
              ∙ sym (passing_here r included excluded j (commit_at r last.1) at (passes_if (included (commit_at r last.1)) (excluded (commit_at r last.1)) (w.only (commit_at r last.1) last_leads_itself) kept));
        }
