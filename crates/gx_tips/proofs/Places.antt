-- Places that are taken off a set, the last one first, and what a front reaches at each.
use Rattle.std.proofs.Common.{◌≡◌, ℕ, suc, ◌+◌, ◌<◌, ◌≤◌, Bool, true, false, cond, refl, sym, ap, subst, ◌∙◌, arith, List, [], ◌∷◌, length, take, get_or, Option, Some, None, inl, inr}
use Rattle.std.specs.Prelude.{IfSome, IsTrue}
use Rattle.std.specs.BTreeMap.{is_at}
use Rattle.std.specs.BTreeSet.{BTreeSet, contains}
use Rattle.std.specs.List.{AllByRecursion, list_any}
use Rattle.std.specs.Ordering.{is_lt, nat_cmp}
use Rattle.std.proofs.Math.Seq.{take-suc}
use Rattle.std.proofs.lemmas.Bool.Decides.{nat_tests}
use Rattle.gx_model.specs.Histories.{Records}
use Rattle.gx_model.specs.Histories.Marks.{IsAt}
use Rattle.gx_model.specs.Histories.Values.{Commit}
use Rattle.gx_object.specs.declared.name.Name.{Name}
use Rattle.gx_ranges.specs.Fronts.{AreTips, GoesDown, LeadsToPlace, lead_to}
use Rattle.gx_ranges.proofs.Reached.{true_or_false}
use Rattle.gx_tips.specs.Spans.{FindsReached}
use Rattle.gx_tips.specs.declared.tips.Tip.{Tip}
use Rattle.gx_tips.proofs.Lists.{holds_for, with_one_more}

-- ---- sets of places

same_place : (k q : ℕ) → is_at (nat_cmp k) q ≡ true → k ≡ q
same_place k q e = grind (arith, nat_tests)

at_itself : (k : ℕ) → is_at (nat_cmp k) k ≡ true
at_itself k = grind (arith, nat_tests)

not_above : (k q : ℕ) → is_lt (nat_cmp k q) ≡ false → q ≤ k
not_above k q e = grind (arith, nat_tests)

-- a set has a place more
abbrev pub IsAdded : ℕ → BTreeSet ℕ → BTreeSet ℕ → Type 0
IsAdded k old new = (q : ℕ) → contains nat_cmp new q ≡ cond (is_at (nat_cmp k) q) true (contains nat_cmp old q)

-- or a place less
abbrev pub IsTakenOut : ℕ → BTreeSet ℕ → BTreeSet ℕ → Type 0
IsTakenOut k old new = (q : ℕ) → contains nat_cmp new q ≡ cond (is_at (nat_cmp k) q) false (contains nat_cmp old q)

-- it has where these refs' commits stand
abbrev pub HasPlaces : BTreeSet ℕ → List Tip → Type 0
HasPlaces places refs = AllByRecursion (λ tip. IsTrue (contains nat_cmp places tip.place)) refs

still_had : (at : Bool) (old : Bool) → IsTrue old → IsTrue (cond at true old)
still_had true old h = refl
still_had false old h = h

has_these : (k : ℕ) (old new : BTreeSet ℕ) (refs : List Tip) → IsAdded k old new → HasPlaces old refs → HasPlaces new refs
has_these k old new refs added h =
    holds_for (λ (tip : Tip). IsTrue (contains nat_cmp old tip.place)) (λ tip. IsTrue (contains nat_cmp new tip.place))
    (λ tip t. added tip.place ∙ still_had (is_at (nat_cmp k) tip.place) (contains nat_cmp old tip.place) t) refs h

has_it : (k : ℕ) (old new : BTreeSet ℕ) → IsAdded k old new → IsTrue (contains nat_cmp new k)
has_it k old new added = added k ∙ ap (λ b. cond b true (contains nat_cmp old k)) (at_itself k)

-- one place more
pub has_more : (refs : List Tip) (i : ℕ) (d : Tip) (old new : BTreeSet ℕ) → i < length refs → IsAdded (get_or refs i d).place old new → HasPlaces old (take i refs) → HasPlaces new (take (i + 1) refs)
has_more refs i d old new l added h =
    let e = ap (λ n. take n refs) (let s : i + 1 ≡ suc i = omega arith in s) ∙ take-suc refs i d l in
    subst (HasPlaces new) (sym e) (with_one_more (λ (tip : Tip). IsTrue (contains nat_cmp new tip.place)) (take i refs) (get_or refs i d)
    (has_these (get_or refs i d).place old new (take i refs) added h) (has_it (get_or refs i d).place old new added))

-- ---- places taken off, the last one first

module _ (stands : ℕ → ℕ) (first : List (ℕ × Name)) (places : BTreeSet ℕ) where
  -- the front reaches at the places that are left what the first one did, and of the others it is found
  pub record AreFound (left reached : BTreeSet ℕ) (front : List (ℕ × Name)) (r : Records) : Type 0 where
    pub tips : AreTips stands front r
    pub same : (number : ℕ) (standing : Commit) → IsAt r number standing → IsTrue (contains nat_cmp left (stands number)) → lead_to r front standing ≡ lead_to r first standing
    pub fresh : (place : ℕ) → IsTrue (contains nat_cmp left place) → contains nat_cmp reached place ≡ false
    pub found : (place : ℕ) → IsTrue (contains nat_cmp places place) → contains nat_cmp left place ≡ false → LeadsToPlace stands place first r (contains nat_cmp reached place)

  pub none_found : (told : Option Records) (reached : BTreeSet ℕ) → reached.keys ≡ [] → IfSome told (AreTips stands first) → IfSome told (AreFound places reached first)
  none_found None reached e t = tt
  none_found (Some r) reached e t = record {
    tips = t;
    same = λ number standing at h. refl;
    fresh = λ place h. ap (list_any (is_at (nat_cmp place))) e;
    found = λ place h n. absurd (let o : false ≡ true = sym n ∙ h in cc o);
  }

  pub tips_now : (told : Option Records) (left reached : BTreeSet ℕ) (front : List (ℕ × Name)) → IfSome told (AreFound left reached front) → IfSome told (AreTips stands front)
  tips_now None left reached front f = tt
  tips_now (Some r) left reached front f = f.tips

  pub all_found : (told : Option Records) (left reached : BTreeSet ℕ) (front : List (ℕ × Name)) → (0 < length left.keys → ⊥) → IfSome told (AreFound left reached front) → IfSome told (λ r. FindsReached stands first places r reached)
  all_found None left reached front e f = tt
  all_found (Some r) left reached front e f = λ place h. f.found place h (ap (list_any (is_at (nat_cmp place))) (nothing left.keys e))
    where
      nothing : (ks : List ℕ) → (0 < length ks → ⊥) → ks ≡ []
      nothing [] h = refl
      nothing (k ∷ ks) h = absurd (h (omega arith))

  module _ (k : ℕ) (left rest reached now : BTreeSet ℕ) (front new : List (ℕ × Name)) (there : IsTrue (contains nat_cmp left k)) (out : IsTakenOut k left rest) (last : (q : ℕ) → IsTrue (contains nat_cmp left q) → is_lt (nat_cmp k q) ≡ false) where
    -- what is left was there, and is another
    was_left : (q : ℕ) → IsTrue (contains nat_cmp rest q) → IsTrue (contains nat_cmp left q) × (is_at (nat_cmp k) q ≡ false)
    was_left q h = elim (true_or_false (is_at (nat_cmp k) q)) [
      | inl a ↦ absurd (let o : false ≡ true = sym (out q ∙ ap (λ b. cond b false (contains nat_cmp left q)) a) ∙ h in cc o)
      | inr a ↦ (sym (out q ∙ ap (λ b. cond b false (contains nat_cmp left q)) a) ∙ h, a)
    ]

    one_found : (r : Records) (found : Bool) → ((q : ℕ) → contains nat_cmp now q ≡ cond (is_at (nat_cmp k) q) found (contains nat_cmp reached q)) → AreFound left reached front r → GoesDown stands k front new r → LeadsToPlace stands k front r found
        → AreFound rest now new r
    one_found r found more f down answer = record {
      tips = down.tips;
      same = λ number standing at h.
          let w = (was_left (stands number) h).0 in
          down.same number standing at (not_above k (stands number) (last (stands number) w)) ∙ f.same number standing at w;
      fresh = λ place h.
          let w = was_left place h in
          more place ∙ ap (λ b. cond b found (contains nat_cmp reached place)) w.1 ∙ f.fresh place w.0;
      found = λ place h n. by place h n (is_at (nat_cmp k) place) refl;
    }
      where
        by : (place : ℕ) → IsTrue (contains nat_cmp places place) → contains nat_cmp rest place ≡ false → (b : Bool) → is_at (nat_cmp k) place ≡ b → LeadsToPlace stands place first r (contains nat_cmp now place)
        by place h n true e = λ number standing at s.
            let same : k ≡ place = same_place k place e in
            more place ∙ ap (λ b. cond b found (contains nat_cmp reached place)) e ∙ answer number standing at (s ∙ sym same)
            ∙ f.same number standing at (subst (λ p. IsTrue (contains nat_cmp left p)) (same ∙ sym s) there)
        by place h n false e =
            subst (LeadsToPlace stands place first r) (sym (more place ∙ ap (λ b. cond b found (contains nat_cmp reached place)) e))
            (f.found place h (sym (ap (λ b. cond b false (contains nat_cmp left place)) e) ∙ sym (out place) ∙ n))

    pub one_reached : (told : Option Records) → IsAdded k reached now → IfSome told (AreFound left reached front) → IfSome told (GoesDown stands k front new) → IfSome told (λ r. LeadsToPlace stands k front r true) → IfSome told (AreFound rest now new)
    one_reached None added f down answer = tt
    one_reached (Some r) added f down answer = one_found r true added f down answer

  pub one_not_reached : (k : ℕ) (left rest reached : BTreeSet ℕ) (front new : List (ℕ × Name)) → IsTrue (contains nat_cmp left k) → IsTakenOut k left rest → ((q : ℕ) → IsTrue (contains nat_cmp left q) → is_lt (nat_cmp k q) ≡ false)
      → (told : Option Records) → IfSome told (AreFound left reached front) → IfSome told (GoesDown stands k front new) → IfSome told (λ r. LeadsToPlace stands k front r false) → IfSome told (AreFound rest reached new)
  one_not_reached k left rest reached front new there out last None f down answer = tt
  one_not_reached k left rest reached front new there out last (Some r) f down answer = one_found k left rest reached reached front new there out last r false same f down answer
    where
      same : (q : ℕ) → contains nat_cmp reached q ≡ cond (is_at (nat_cmp k) q) false (contains nat_cmp reached q)
      same q = by (is_at (nat_cmp k) q) refl
        where
          by : (b : Bool) → is_at (nat_cmp k) q ≡ b → contains nat_cmp reached q ≡ cond b false (contains nat_cmp reached q)
          by true e = f.fresh q (subst (λ p. IsTrue (contains nat_cmp left p)) (same_place k q e) there)
          by false e = refl
