-- Steps that a walk takes, one commit after the other.
use Rattle.std.proofs.Common.{◌≡◌, ℕ, suc, ◌<◌, ◌≤◌, true, false, sym, ap, subst, ◌∙◌, arith, List, [], ◌∷◌, ◌++◌, append_assoc, append-nil, Option, Some, None, inl, inr, ◌⊎◌}
use Rattle.std.specs.Prelude.{IfSome, IsTrue, ◌&&◌, ◌||◌, nat_eq}
use Rattle.std.specs.BTreeMap.{insert_entry}
use Rattle.std.specs.Ordering.{nat_cmp}
use Rattle.std.proofs.lemmas.Bool.{and_from, and_parts}
use Rattle.gx_model.specs.declared.objects.Kind.{Kind}
use Rattle.gx_model.specs.Histories.{Records}
use Rattle.gx_model.specs.Histories.Marks.{IsAt}
use Rattle.gx_model.specs.Histories.Values.{Commit, commit_value}
use Rattle.gx_model.specs.Objects.{IsNamer}
use Rattle.gx_model.specs.Records.Sound.{IsSound}
use Rattle.gx_model.specs.Revisions.Ranges.{reaches, some_reaches}
use Rattle.gx_model.specs.Texts.{Bytes}
use Rattle.gx_model.proofs.Histories.ReachedCommits.{itself}
use Rattle.gx_model.proofs.Records.Standing.{same_place as one_place}
use Rattle.gx_model.proofs.Texts.PathTests.{is_true}
use Rattle.gx_object.specs.declared.name.Name.{Name}
use Rattle.gx_ranges.specs.Fronts.{Adds, AreBelow, AreTips, IsTip, lead_to}
use Rattle.gx_ranges.proofs.Reached.{by_parents, or_either, or_first, or_second, reaches_by, reaches_further}
use Rattle.gx_ranges.proofs.Steps.{StandsInOrder}
use Rattle.gx_ranges.proofs.Tips.{all_last, last_leads, number_of, tips_inserted}
use Rattle.gx_rev.specs.Objects.{commit_at, parents_at}
use Rattle.gx_ref_filters.specs.Steps.{AreSound, AreSteps, LeadOn, Reaching, Step, TakesSteps, leads_by, reaches_from}
use Rattle.gx_ref_filters.proofs.Fronts.{from_below, from_last, from_reaching, goal_reaches, kept_from, new_from, not_before, reaching_tip, tip_reaches}
use Rattle.gx_ref_filters.proofs.Leading.{at_itself, at_same, led_at, led_further, led_on, same_place}

abbrev Tip : Type 0
Tip = ℕ × Name

-- ---- steps one behind the other

no_steps : (stands : ℕ → ℕ) (r : Records) → AreSound stands r []
no_steps stands r = λ goal test f place h. f place h

both_sound : (stands : ℕ → ℕ) (r : Records) (xs ys : List Step) → AreSound stands r xs → AreSound stands r ys → AreSound stands r (xs ++ ys)
both_sound stands r xs ys a b = λ goal test f place h. a goal (leads_by test ys) (λ k g. b goal test f k g) place (sym (led_on test xs ys place) ∙ h)

one_sound : (stands : ℕ → ℕ) (r : Records) (above below : ℕ) → ((goal : Commit) → Reaching stands r goal below → Reaching stands r goal above) → AreSound stands r ((above, below) ∷ [])
one_sound stands r above below g = λ goal test f place h. elim (or_either (test place) (nat_eq above place && test below) h) [
  | inl a ↦ f place a
  | inr a ↦ let w = and_parts (nat_eq above place) (test below) a in subst (Reaching stands r goal) (same_place above place w.0) (g goal (f below w.1))
]

-- some parents of the last commit came in, and the steps to them were taken
pub record Taking (stands : ℕ → ℕ) (last : Tip) (rest : List Tip) (before : List Step) (left now : List Tip) (steps : List Step) (r : Records) : Type 0 where
  pub tips : AreTips stands now r
  pub left_tips : AreTips stands left r
  pub only : (d : Commit) → IsTrue (lead_to r left d) → IsTrue (some_reaches (parents_at r last.1) d)
  pub taken : List Step
  pub more : steps ≡ before ++ taken
  pub sound : AreSound stands r taken
  pub grows : (goal : Commit) (k : ℕ) → IsTrue (reaches_from r rest goal k) → IsTrue (reaches_from r now goal k)
  pub reach : (goal : Commit) → IsTrue (some_reaches (parents_at r last.1) goal) → IsTrue (lead_to r left goal) ⊎ IsTrue (leads_by (reaches_from r now goal) taken last.0)

pub start_tips : (stands : ℕ → ℕ) (told : Option Records) (front : List Tip) → front ≡ [] → IfSome told (AreTips stands front)
start_tips stands None front e = tt
start_tips stands (Some r) front e = subst (λ xs. AreTips stands xs r) (sym e) tt

module _ (stands : ℕ → ℕ) (last : Tip) (rest : List Tip) (before : List Step) where
  pub none_taken : (told : Option Records) (start left : List Tip) → start ≡ [] → IfSome told (AreTips stands rest) → IfSome told (λ r. Adds stands (some_reaches (parents_at r last.1)) start left r) → IfSome told (Taking stands last rest before left rest before)
  none_taken None start left e t a = tt
  none_taken (Some r) start left e t a =
      let adds = subst (λ xs. Adds stands (some_reaches (parents_at r last.1)) xs left r) e a in
      record {
        tips = t;
        left_tips = adds.tips;
        only = λ d h. sym (adds.reach d) ∙ h;
        taken = [];
        more = sym (append-nil before);
        sound = no_steps stands r;
        grows = λ goal k h. h;
        reach = λ goal h. inl (adds.reach goal ∙ h);
      }

  pub taking_tips : (told : Option Records) (left now : List Tip) (steps : List Step) → IfSome told (Taking stands last rest before left now steps) → IfSome told (AreTips stands now)
  taking_tips None left now steps t = tt
  taking_tips (Some r) left now steps t = t.tips

  module _ (name : Kind → Bytes → Bytes) (namer : IsNamer name) (there : ℕ) (parent : Name) (left fewer now new : List Tip) (steps longer : List Step) (was : left ≡ fewer ++ (there, parent) ∷ []) (grown : longer ≡ steps ++ (last.0, there) ∷ []) (put : new ≡ insert_entry nat_cmp now there parent) where
    module _ (r : Records) (s : IsSound name r) (o : StandsInOrder stands r) (here : IsTip stands r last) (t : Taking stands last rest before left now steps r) where
      tip : IsTip stands r (there, parent)
      tip = (all_last (IsTip stands r) fewer (there, parent) (subst (λ xs. AreTips stands xs r) was t.left_tips)).1

      whole : (d : Commit) → lead_to r left d ≡ (lead_to r fewer d || reaches (commit_at r parent) d)
      whole d = ap (λ xs. lead_to r xs d) was ∙ last_leads r fewer (there, parent) d

      -- the last commit reaches its parent, and what that reaches
      above : (goal : Commit) → Reaching stands r goal there → Reaching stands r goal last.0
      above goal w =
          let p = commit_at r parent in
          let down = reaching_tip name namer r s stands o (there, parent) goal tip w in
          let own = t.only p (whole p ∙ or_second (lead_to r fewer p) (reaches p p) (is_true _ (itself p))) in
          tip_reaches name namer r s stands o last goal here (reaches_further (commit_at r last.1) p goal (by_parents (commit_at r last.1) p own) down)

      -- where the parent comes in, what was there stays
      stays : (goal : Commit) (k : ℕ) → IsTrue (reaches_from r now goal k) → IsTrue (reaches_from r new goal k)
      stays goal k h = subst (λ xs. IsTrue (reaches_from r xs goal k)) (sym put) (kept_from name namer r s stands o there parent now goal k tip t.tips h)

      comes : (goal : Commit) → IsTrue (reaches (commit_at r parent) goal) → IsTrue (reaches_from r new goal there)
      comes goal h = subst (λ xs. IsTrue (reaches_from r xs goal there)) (sym put) (new_from name namer r s stands o there parent now goal h)

      abbrev step : List Step
      step = (last.0, there) ∷ []

      reached : (goal : Commit) → IsTrue (lead_to r left goal) ⊎ IsTrue (leads_by (reaches_from r now goal) t.taken last.0) → IsTrue (lead_to r fewer goal) ⊎ IsTrue (leads_by (reaches_from r new goal) (t.taken ++ step) last.0)
      reached goal (inl a) = elim (or_either (lead_to r fewer goal) (reaches (commit_at r parent) goal) (sym (whole goal) ∙ a)) [
        | inl b ↦ inl b
        | inr b ↦ inr (led_on (reaches_from r new goal) t.taken step last.0 ∙ led_at (leads_by (reaches_from r new goal) step) t.taken last.0
            (or_second (reaches_from r new goal last.0) (nat_eq last.0 last.0 && reaches_from r new goal there) (and_from (nat_eq last.0 last.0) (reaches_from r new goal there) (at_itself last.0) (comes goal b))))
      ]
      reached goal (inr a) = inr (led_on (reaches_from r new goal) t.taken step last.0
          ∙ led_further (reaches_from r now goal) (leads_by (reaches_from r new goal) step) (λ k h. or_first (reaches_from r new goal k) (nat_eq last.0 k && reaches_from r new goal there) (stays goal k h)) t.taken last.0 a)

      one_more : Taking stands last rest before fewer new longer r
      one_more = record {
        tips = subst (λ xs. AreTips stands xs r) (sym put) (tips_inserted name namer r s stands o there parent now tip t.tips);
        left_tips = (all_last (IsTip stands r) fewer (there, parent) (subst (λ xs. AreTips stands xs r) was t.left_tips)).0;
        only = λ d h. t.only d (whole d ∙ or_first (lead_to r fewer d) (reaches (commit_at r parent) d) h);
        taken = t.taken ++ step;
        more = grown ∙ ap (λ xs. xs ++ step) t.more ∙ append_assoc before t.taken step;
        sound = both_sound stands r t.taken step t.sound (one_sound stands r last.0 there above);
        grows = λ goal k h. stays goal k (t.grows goal k h);
        reach = λ goal h. reached goal (t.reach goal h);
      }

    pub one_taken : (told : Option Records) → IfSome told (IsSound name) → IfSome told (StandsInOrder stands) → IfSome told (λ r. IsTip stands r last) → IfSome told (Taking stands last rest before left now steps) → IfSome told (Taking stands last rest before fewer new longer)
    one_taken None s o h t = tt
    one_taken (Some r) s o h t = one_more r s o h t

  pub all_taken : (name : Kind → Bytes → Bytes) → IsNamer name → (told : Option Records) (left now : List Tip) (steps : List Step) → left ≡ [] → IfSome told (IsSound name) → IfSome told (StandsInOrder stands) → IfSome told (λ r. IsTip stands r last)
      → IfSome told (Taking stands last rest before left now steps) → IfSome told (λ r. TakesSteps stands last rest now before steps r)
  all_taken name namer None left now steps e s o h t = tt
  all_taken name namer (Some r) left now steps e s o h t = record {
    tips = t.tips;
    taken = t.taken;
    more = t.more;
    sound = t.sound;
    lead = λ number goal at low k f. by number goal at low k (or_either (reaches_from r rest goal k) (nat_eq last.0 k && reaches (commit_at r last.1) goal) (sym (from_last r rest last goal k) ∙ f));
  }
    where
      up : (number : ℕ) (goal : Commit) → IsAt r number goal → stands number < last.0 → IsTrue (reaches (commit_at r last.1) goal) → IsTrue (leads_by (reaches_from r now goal) t.taken last.0)
      up number goal at low f = elim (reaches_by (commit_at r last.1) goal f) [
        | inl same ↦ absurd (
            let n = number_of name namer r s stands o last h in
            let i = one_place name namer r s (commit_value goal) n.0 number (subst (IsAt r n.0) same n.1) at in
            let q = ap stands i in
            let p = n.2 in omega (arith, low, p, q))
        | inr b ↦ elim (t.reach goal b) [
          | inl a ↦ absurd (let none : false ≡ true = subst (λ xs. IsTrue (lead_to r xs goal)) e a in cc none)
          | inr a ↦ a
        ]
      ]

      by : (number : ℕ) (goal : Commit) → IsAt r number goal → stands number < last.0 → (k : ℕ) → IsTrue (reaches_from r rest goal k) ⊎ IsTrue (nat_eq last.0 k && reaches (commit_at r last.1) goal) → IsTrue (leads_by (reaches_from r now goal) t.taken k)
      by number goal at low k (inl a) = led_at (reaches_from r now goal) t.taken k (t.grows goal k a)
      by number goal at low k (inr a) =
          let w = and_parts (nat_eq last.0 k) (reaches (commit_at r last.1) goal) a in
          subst (λ q. IsTrue (leads_by (reaches_from r now goal) t.taken q)) (same_place last.0 k w.0) (up number goal at low w.1)

-- ---- from commit to commit

-- the steps down to a place that were taken so far
pub record Going (stands : ℕ → ℕ) (place : ℕ) (first now : List Tip) (steps : List Step) (r : Records) : Type 0 where
  pub tips : AreTips stands now r
  pub sound : AreSound stands r steps
  pub lead : LeadOn stands r (λ k. k ≤ place) first now steps

module _ (stands : ℕ → ℕ) (place : ℕ) (first : List Tip) where
  pub not_gone : (told : Option Records) (steps : List Step) → steps ≡ [] → IfSome told (AreTips stands first) → IfSome told (Going stands place first first steps)
  not_gone None steps e t = tt
  not_gone (Some r) steps e t = subst (λ xs. Going stands place first first xs r) (sym e) (record { tips = t; sound = no_steps stands r; lead = λ number goal at low k h. h })

  pub going_tips : (told : Option Records) (now : List Tip) (steps : List Step) → IfSome told (Going stands place first now steps) → IfSome told (AreTips stands now)
  going_tips None now steps g = tt
  going_tips (Some r) now steps g = g.tips

  pub goes_on : (told : Option Records) (last : Tip) (now rest new : List Tip) (steps longer : List Step) → place < last.0 → now ≡ rest ++ last ∷ [] → IfSome told (Going stands place first now steps) → IfSome told (λ r. TakesSteps stands last rest new steps longer r)
      → IfSome told (Going stands place first new longer)
  goes_on None last now rest new steps longer l was g t = tt
  goes_on (Some r) last now rest new steps longer l was g t = subst (λ xs. Going stands place first new xs r) (sym t.more) (record {
    tips = t.tips;
    sound = both_sound stands r steps t.taken g.sound t.sound;
    lead = λ number goal at low k h.
        led_on (reaches_from r new goal) steps t.taken k
        ∙ led_further (reaches_from r now goal) (leads_by (reaches_from r new goal) t.taken)
        (λ q f. t.lead number goal at (omega (arith, low, l)) q (subst (λ xs. IsTrue (reaches_from r xs goal q)) was f)) steps k (g.lead number goal at low k h);
  })

  pub gone_down : (name : Kind → Bytes → Bytes) → IsNamer name → (told : Option Records) (now : List Tip) (steps : List Step) → AreBelow (suc place) now → IfSome told (IsSound name) → IfSome told (StandsInOrder stands)
      → IfSome told (Going stands place first now steps) → IfSome told (λ r. AreSteps stands place first r steps)
  gone_down name namer None now steps b s o g = tt
  gone_down name namer (Some r) now steps b s o g = record {
    only = λ number goal at e from h. g.sound goal (nat_eq place) (goal_reaches name namer r s stands o goal number place at e) from h;
    all = λ number goal at e from h. led_further (reaches_from r now goal) (nat_eq place) (here number goal at e) steps from (g.lead number goal at (omega (arith, e)) from h);
  }
    where
      here : (number : ℕ) (goal : Commit) → IsAt r number goal → stands number ≡ place → (k : ℕ) → IsTrue (reaches_from r now goal k) → IsTrue (nat_eq place k)
      here number goal at e k h =
          let low = from_below r (suc place) now goal k b h in
          let high = not_before name namer r s stands o goal number place k at e (from_reaching name namer r s stands o now goal k g.tips h) in
          at_same place k (omega (arith, low, high))
