-- Two walks that meet: what both reach is reached from where they met.
use Rattle.std.proofs.Common.{◌≡◌, ℕ, Bool, true, false, refl, sym, ap, subst, ◌∙◌, arith, List, [], ◌∷◌, ◌++◌, length, Option, Some, None, inl, inr, ◌⊎◌}
use Rattle.std.specs.Prelude.{IfSome, IsTrue, ◌&&◌, ◌||◌}
use Rattle.std.specs.BTreeMap.{insert_entry, is_at}
use Rattle.std.specs.Map.{remove_entry}
use Rattle.std.specs.Ordering.{nat_cmp}
use Rattle.gx_model.specs.declared.objects.Kind.{Kind}
use Rattle.gx_model.specs.Histories.{Records}
use Rattle.gx_model.specs.Histories.Marks.{IsAt}
use Rattle.gx_model.specs.Histories.Values.{Commit, parents_of}
use Rattle.gx_model.specs.Objects.{IsNamer}
use Rattle.gx_model.specs.Records.Sound.{IsSound}
use Rattle.gx_model.specs.Revisions.Ranges.{reaches, some_reaches}
use Rattle.gx_model.specs.Texts.{Bytes}
use Rattle.gx_object.specs.declared.name.Name.{Name}
use Rattle.gx_objects.specs.Answers.{GoesUp}
use Rattle.gx_rev.specs.Objects.{commit_at, parents_at}
use Rattle.gx_ranges.specs.Fronts.{Adds, AreTips, GoesDown, IsLast, IsTip, LeadsToPlace, lead_to}
use Rattle.gx_ranges.specs.Walks.{reach_both}
use Rattle.gx_ranges.proofs.Tips.{all_last, fewer_lead, inserted, last_leads, leads_at, leads_further, not_behind, number_of, removed_leads, tips_removed}
use Rattle.gx_ranges.proofs.Reached.{by_parents, or_either, or_first, or_second, reached_at, reaches_by, same_tests}
use Rattle.gx_ranges.proofs.Steps.{StandsInOrder}

abbrev Tip : Type 0
Tip = ℕ × Name

-- What both reach is reached from the common ones, or both walks come to it.
pub record IsMeeting (stands : ℕ → ℕ) (first_lefts first_rights old lefts rights common : List Tip) (r : Records) : Type 0 where
  pub left_tips : AreTips stands lefts r
  pub right_tips : AreTips stands rights r
  pub common_tips : AreTips stands common r
  pub from_left : (c : Commit) → IsTrue (lead_to r lefts c) → IsTrue (lead_to r first_lefts c)
  pub from_right : (c : Commit) → IsTrue (lead_to r rights c) → IsTrue (lead_to r first_rights c)
  pub keeps : (c : Commit) → IsTrue (lead_to r old c) → IsTrue (lead_to r common c)
  pub only : (c : Commit) → IsTrue (lead_to r common c) → IsTrue (lead_to r old c) ⊎ (IsTrue (lead_to r first_lefts c) × IsTrue (lead_to r first_rights c))
  pub all : (c : Commit) → IsTrue (lead_to r first_lefts c) → IsTrue (lead_to r first_rights c)
      → IsTrue (lead_to r common c) ⊎ (IsTrue (lead_to r lefts c) × IsTrue (lead_to r rights c))

both_of : (a b : Bool) → IsTrue (a && b) → IsTrue a × IsTrue b
both_of true b h = (refl, h)
both_of false b h = absurd cc

both_if : (a b : Bool) → IsTrue a → IsTrue b → IsTrue (a && b)
both_if true b h k = k
both_if false b h k = absurd cc

module _ (r : Records) (stands : ℕ → ℕ) (lefts rights old : List Tip) where
  pub meeting_begins : AreTips stands lefts r → AreTips stands rights r → AreTips stands old r → IsMeeting stands lefts rights old lefts rights old r
  meeting_begins t u v = record {
    left_tips = t;
    right_tips = u;
    common_tips = v;
    from_left = λ c h. h;
    from_right = λ c h. h;
    keeps = λ c h. h;
    only = λ c h. inl h;
    all = λ c h k. inr (h, k);
  }

  -- one of the walks has come to its end
  pub meeting_ends : (xs ys common : List Tip) → (xs ≡ [] ⊎ ys ≡ []) → IsMeeting stands lefts rights old xs ys common r → Adds stands (λ c. lead_to r lefts c && lead_to r rights c) old common r
  meeting_ends xs ys common over m = record {
    tips = m.common_tips;
    reach = λ c. same_tests _ _
        (λ h. elim (m.only c h) [
          | inl a ↦ or_first (lead_to r old c) (lead_to r lefts c && lead_to r rights c) a
          | inr p ↦ or_second (lead_to r old c) (lead_to r lefts c && lead_to r rights c) (both_if (lead_to r lefts c) (lead_to r rights c) p.0 p.1)
        ])
        (λ h. elim (or_either (lead_to r old c) (lead_to r lefts c && lead_to r rights c) h) [
          | inl a ↦ m.keeps c a
          | inr p ↦
              let b = both_of (lead_to r lefts c) (lead_to r rights c) p in
              elim (m.all c b.0 b.1) [ inl a ↦ a | inr q ↦ absurd (none c q.0 q.1) ]
        ]);
  }
    where
      none : (c : Commit) → IsTrue (lead_to r xs c) → IsTrue (lead_to r ys c) → ⊥
      none c h k = elim over [
        | inl e ↦ let o : false ≡ true = ap (λ zs. lead_to r zs c) (sym e) ∙ h in cc o
        | inr e ↦ let o : false ≡ true = ap (λ zs. lead_to r zs c) (sym e) ∙ k in cc o
      ]

module _ (name : Kind → Bytes → Bytes) (namer : IsNamer name) (r : Records) (sound : IsSound name r) (stands : ℕ → ℕ) (order : GoesUp stands (length r.records)) (first_lefts first_rights old : List Tip) where
  abbrev Meeting : List Tip → List Tip → List Tip → Type 0
  Meeting lefts rights common = IsMeeting stands first_lefts first_rights old lefts rights common r

  module _ (lefts rest rights down common : List Tip) (last : Tip) (was : IsLast lefts rest last) (goes : GoesDown stands last.0 rights down r) (walk : Meeting lefts rights common) where
    abbrev pub here : Commit
    here = commit_at r last.1

    m : Meeting (rest ++ last ∷ []) rights common
    m = subst (λ xs. Meeting xs rights common) was.0 walk

    tips : AreTips stands rest r × IsTip stands r last
    tips = all_last (IsTip stands r) rest last m.left_tips

    place : (i : ℕ) × IsAt r i here × (stands i ≡ last.0)
    place = number_of name namer r sound stands order last tips.1

    front : (c : Commit) → IsTrue (lead_to r rest c) → IsTrue (lead_to r (rest ++ last ∷ []) c)
    front c h = last_leads r rest last c ∙ or_first (lead_to r rest c) (reaches here c) h

    behind : (c : Commit) → IsTrue (reaches here c) → IsTrue (lead_to r (rest ++ last ∷ []) c)
    behind c h = last_leads r rest last c ∙ or_second (lead_to r rest c) (reaches here c) h

    parts : (c : Commit) → IsTrue (lead_to r (rest ++ last ∷ []) c) → IsTrue (lead_to r rest c) ⊎ IsTrue (reaches here c)
    parts c h = or_either (lead_to r rest c) (reaches here c) (sym (last_leads r rest last c) ∙ h)

    -- what the one walk comes to, the other does further down
    still : (c : Commit) → IsTrue (lead_to r rest c) ⊎ IsTrue (reaches here c) → IsTrue (lead_to r rights c) → IsTrue (lead_to r down c)
    still c h k = elim h [
      | inl a ↦ let w = leads_at name namer r sound stands order last.0 rest c tips.0 was.1 a in goes.same w.0 c w.1 (let l = w.2 in omega arith) ∙ k
      | inr a ↦
          let w = reached_at name namer r sound here c place.0 place.1 a in
          let l = not_behind name namer r sound stands order w.0 place.0 c here w.2 place.1 w.1 in
          goes.same w.0 c w.2 (let s = place.2 in omega arith) ∙ k
    ]

    -- both come to one commit
    pub met : (new : List Tip) → LeadsToPlace stands last.0 rights r true → Adds stands (reaches here) common new r → Meeting rest (remove_entry (is_at (nat_cmp last.0)) down) new
    met new reached adds = record {
      left_tips = tips.0;
      right_tips = tips_removed name namer r sound stands order (is_at (nat_cmp last.0)) down goes.tips;
      common_tips = adds.tips;
      from_left = λ c h. m.from_left c (front c h);
      from_right = λ c h. m.from_right c (goes.only c (fewer_lead name namer r sound stands order (is_at (nat_cmp last.0)) down c h));
      keeps = λ c h. adds.reach c ∙ or_first (lead_to r common c) (reaches here c) (m.keeps c h);
      only = λ c h. elim (or_either (lead_to r common c) (reaches here c) (sym (adds.reach c) ∙ h)) [
        | inl a ↦ m.only c a
        | inr a ↦ inr (
          m.from_left c (behind c a),
          leads_further r first_rights here c (m.from_right here (sym (reached place.0 here place.1 place.2))) a,
        )
      ];
      all = λ c h k. elim (m.all c h k) [
        | inl a ↦ inl (adds.reach c ∙ or_first (lead_to r common c) (reaches here c) a)
        | inr p ↦ elim (parts c p.0) [
          | inl a ↦ elim (removed_leads name namer r sound stands order last down c tips.1 goes.tips (still c (inl a) p.1)) [
            | inl b ↦ inr (a, b)
            | inr b ↦ inl (adds.reach c ∙ or_second (lead_to r common c) (reaches here c) b)
          ]
          | inr a ↦ inl (adds.reach c ∙ or_second (lead_to r common c) (reaches here c) a)
        ]
      ];
    }

    -- only one of them does, and goes on to the parents
    pub goes_on : (new : List Tip) → LeadsToPlace stands last.0 rights r false → Adds stands (some_reaches (parents_of here)) rest new r → Meeting new down common
    goes_on new alone adds = record {
      left_tips = adds.tips;
      right_tips = goes.tips;
      common_tips = m.common_tips;
      from_left = λ c h. m.from_left c (elim (or_either (lead_to r rest c) (some_reaches (parents_of here) c) (sym (adds.reach c) ∙ h)) [
        | inl a ↦ front c a
        | inr a ↦ behind c (by_parents here c a)
      ]);
      from_right = λ c h. m.from_right c (goes.only c h);
      keeps = m.keeps;
      only = m.only;
      all = λ c h k. elim (m.all c h k) [
        | inl a ↦ inl a
        | inr p ↦ inr (adds.reach c ∙ left c p.1 (parts c p.0), still c (parts c p.0) p.1)
      ];
    }
      where
        left : (c : Commit) → IsTrue (lead_to r rights c) → IsTrue (lead_to r rest c) ⊎ IsTrue (reaches here c) → IsTrue (lead_to r rest c || some_reaches (parents_of here) c)
        left c k h = elim h [
          | inl a ↦ or_first (lead_to r rest c) (some_reaches (parents_of here) c) a
          | inr a ↦ elim (reaches_by here c a) [
            | inl s ↦ absurd (let o : false ≡ true = alone place.0 here place.1 place.2 ∙ ap (lead_to r rights) s ∙ k in cc o)
            | inr b ↦ or_second (lead_to r rest c) (some_reaches (parents_of here) c) b
          ]
        ]

-- ---- the same of the repository that is told

module _ (name : Kind → Bytes → Bytes) (namer : IsNamer name) (stands : ℕ → ℕ) (first_lefts first_rights old : List Tip) where
  abbrev pub Meets : List Tip → List Tip → List Tip → Records → Type 0
  Meets lefts rights common r = IsMeeting stands first_lefts first_rights old lefts rights common r

  pub meets_first : (told : Option Records) → IfSome told (AreTips stands first_lefts) → IfSome told (AreTips stands first_rights) → IfSome told (AreTips stands old) → IfSome told (Meets first_lefts first_rights old)
  meets_first None t u v = tt
  meets_first (Some r) t u v = meeting_begins r stands first_lefts first_rights old t u v

  pub meets_last : (told : Option Records) (lefts rights common : List Tip) → (lefts ≡ [] ⊎ rights ≡ []) → IfSome told (Meets lefts rights common)
      → IfSome told (λ r. Adds stands (λ c. lead_to r first_lefts c && lead_to r first_rights c) old common r)
  meets_last None lefts rights common over m = tt
  meets_last (Some r) lefts rights common over m = meeting_ends r stands first_lefts first_rights old lefts rights common over m

  pub left_tips_of : (told : Option Records) (lefts rights common : List Tip) → IfSome told (Meets lefts rights common) → IfSome told (AreTips stands lefts)
  left_tips_of None lefts rights common m = tt
  left_tips_of (Some r) lefts rights common m = m.left_tips

  pub right_tips_of : (told : Option Records) (lefts rights common : List Tip) → IfSome told (Meets lefts rights common) → IfSome told (AreTips stands rights)
  right_tips_of None lefts rights common m = tt
  right_tips_of (Some r) lefts rights common m = m.right_tips

  module _ (lefts rest rights down common new : List Tip) (last : Tip) (was : IsLast lefts rest last) where
    pub meets_there : (told : Option Records) (left : List Tip) → left ≡ remove_entry (is_at (nat_cmp last.0)) down → new ≡ insert_entry nat_cmp common last.0 last.1 → IfSome told (IsSound name) → IfSome told (StandsInOrder stands)
        → IfSome told (Meets lefts rights common) → IfSome told (GoesDown stands last.0 rights down) → IfSome told (λ r. LeadsToPlace stands last.0 rights r true) → IfSome told (Meets rest left new)
    meets_there None left e f s o meets goes reached = tt
    meets_there (Some r) left e f s o meets goes reached =
        let tip = (all_last (IsTip stands r) rest last (subst (λ xs. AreTips stands xs r) was.0 meets.left_tips)).1 in
        let adds = subst (λ xs. Adds stands (reaches (commit_at r last.1)) common xs r) (sym f) (inserted name namer r s stands o last.0 last.1 common tip meets.common_tips) in
        subst (λ xs. Meets rest xs new r) (sym e) (met name namer r s stands o first_lefts first_rights old lefts rest rights down common last was goes meets new reached adds)

    pub meets_later : (told : Option Records) → IfSome told (IsSound name) → IfSome told (StandsInOrder stands) → IfSome told (Meets lefts rights common) → IfSome told (GoesDown stands last.0 rights down)
        → IfSome told (λ r. LeadsToPlace stands last.0 rights r false) → IfSome told (λ r. Adds stands (some_reaches (parents_at r last.1)) rest new r) → IfSome told (Meets new down common)
    meets_later None s o meets goes alone adds = tt
    meets_later (Some r) s o meets goes alone adds = goes_on name namer r s stands o first_lefts first_rights old lefts rest rights down common last was goes meets new alone adds

-- what two commits reach, from fronts of one each
pub both_added : (stands : ℕ → ℕ) (told : Option Records) (left right : Name) (none lefts rights old common : List Tip) → none ≡ [] → IfSome told (λ r. Adds stands (reaches (commit_at r left)) none lefts r)
    → IfSome told (λ r. Adds stands (reaches (commit_at r right)) none rights r) → IfSome told (λ r. Adds stands (λ c. lead_to r lefts c && lead_to r rights c) old common r)
    → IfSome told (λ r. Adds stands (reach_both (commit_at r left) (commit_at r right)) old common r)
both_added stands None left right none lefts rights old common e a b m = tt
both_added stands (Some r) left right none lefts rights old common e a b m = record {
  tips = m.tips;
  reach = λ c. m.reach c ∙ (λ i. lead_to r old c || (alone left lefts a c i && alone right rights b c i));
}
  where
    alone : (called : Name) (front : List Tip) → Adds stands (reaches (commit_at r called)) none front r → (c : Commit) → lead_to r front c ≡ reaches (commit_at r called) c
    alone called front h c = h.reach c ∙ ap (λ xs. lead_to r xs c || reaches (commit_at r called) c) e
