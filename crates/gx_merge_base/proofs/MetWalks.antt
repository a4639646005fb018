-- Two walks that meet, where the one doesn't go on from what common ones reach.
use Rattle.std.proofs.Common.{◌≡◌, ℕ, true, false, sym, subst, ◌∙◌, List, [], ◌∷◌, ◌++◌, Option, Some, None, inl, inr, ◌⊎◌}
use Rattle.std.specs.Prelude.{IfSome, IsTrue, ◌&&◌}
use Rattle.std.specs.BTreeMap.{insert_entry, is_at}
use Rattle.std.specs.Map.{remove_entry}
use Rattle.std.specs.Ordering.{nat_cmp}
use Rattle.gx_model.specs.declared.objects.Kind.{Kind}
use Rattle.gx_model.specs.Histories.{Records}
use Rattle.gx_model.specs.Histories.Marks.{IsAt}
use Rattle.gx_model.specs.Histories.Values.{Commit}
use Rattle.gx_model.specs.Objects.{IsNamer}
use Rattle.gx_model.specs.Records.Sound.{IsSound}
use Rattle.gx_model.specs.Revisions.Ranges.{reaches, some_reaches}
use Rattle.gx_model.specs.Texts.{Bytes}
use Rattle.gx_object.specs.declared.name.Name.{Name}
use Rattle.gx_rev.specs.Objects.{commit_at, parents_at}
use Rattle.gx_ranges.specs.Fronts.{Adds, AreTips, GoesDown, IsLast, IsTip, LeadsToPlace, lead_to}
use Rattle.gx_ranges.proofs.MeetingWalks.{IsMeeting, meeting_begins, meeting_ends, goes_on, meets_there}
use Rattle.gx_ranges.proofs.Reached.{or_either, or_first, or_second}
use Rattle.gx_ranges.proofs.Steps.{StandsInOrder}
use Rattle.gx_ranges.proofs.Tips.{all_last, inserted, last_leads, leads_further, number_of}
use Rattle.gx_merge_base.specs.Fronts.{IsFront}

abbrev Tip : Type 0
Tip = ℕ × Name

-- what both reach is reached from the common ones, or both walks come to it; what those that were met reach, common ones do
pub record Meets (stands : ℕ → ℕ) (first_lefts first_rights lefts rights common met : List Tip) (r : Records) : Type 0 where
  pub walks : IsMeeting stands first_lefts first_rights [] lefts rights common r
  pub met_tips : AreTips stands met r
  pub met_only : (c : Commit) → IsTrue (lead_to r met c) → IsTrue (lead_to r common c)

module _ (stands : ℕ → ℕ) (first_lefts first_rights : List Tip) where
  abbrev pub MeetsSo : List Tip → List Tip → List Tip → List Tip → Records → Type 0
  MeetsSo lefts rights common met r = Meets stands first_lefts first_rights lefts rights common met r

  pub begins : (told : Option Records) (common met : List Tip) → common ≡ [] → met ≡ [] → IfSome told (AreTips stands first_lefts) → IfSome told (AreTips stands first_rights) → IfSome told (MeetsSo first_lefts first_rights common met)
  begins None common met e f t u = tt
  begins (Some r) common met e f t u =
      subst (λ xs. MeetsSo first_lefts first_rights xs met r) (sym e) (subst (λ xs. MeetsSo first_lefts first_rights [] xs r) (sym f)
      (record { walks = meeting_begins r stands first_lefts first_rights [] t u tt; met_tips = tt; met_only = λ c h. h }))

  pub ends : (told : Option Records) (lefts rights common met : List Tip) → (lefts ≡ [] ⊎ rights ≡ []) → IfSome told (MeetsSo lefts rights common met)
      → IfSome told (λ r. IsFront stands (λ c. lead_to r first_lefts c && lead_to r first_rights c) r common)
  ends None lefts rights common met over m = tt
  ends (Some r) lefts rights common met over m =
      let adds = meeting_ends r stands first_lefts first_rights [] lefts rights common over m.walks in
      record { tips_are = adds.tips; reach = adds.reach }

  pub left_tips_of : (told : Option Records) (lefts rights common met : List Tip) → IfSome told (MeetsSo lefts rights common met) → IfSome told (AreTips stands lefts)
  left_tips_of None lefts rights common met m = tt
  left_tips_of (Some r) lefts rights common met m = m.walks.left_tips

  pub right_tips_of : (told : Option Records) (lefts rights common met : List Tip) → IfSome told (MeetsSo lefts rights common met) → IfSome told (AreTips stands rights)
  right_tips_of None lefts rights common met m = tt
  right_tips_of (Some r) lefts rights common met m = m.walks.right_tips

  pub met_tips_of : (told : Option Records) (lefts rights common met : List Tip) → IfSome told (MeetsSo lefts rights common met) → IfSome told (AreTips stands met)
  met_tips_of None lefts rights common met m = tt
  met_tips_of (Some r) lefts rights common met m = m.met_tips

module _ (name : Kind → Bytes → Bytes) (namer : IsNamer name) (stands : ℕ → ℕ) (first_lefts first_rights : List Tip) (lefts rest rights common met met_down : List Tip) (last : Tip) (was : IsLast lefts rest last) where
  abbrev Now : List Tip → List Tip → List Tip → List Tip → Records → Type 0
  Now ls rs cs ms r = Meets stands first_lefts first_rights ls rs cs ms r

  -- what common ones reach is left
  pub leaves : (told : Option Records) → IfSome told (IsSound name) → IfSome told (StandsInOrder stands) → IfSome told (Now lefts rights common met) → IfSome told (GoesDown stands last.0 met met_down)
      → IfSome told (λ r. LeadsToPlace stands last.0 met r true) → IfSome told (Now rest rights common met_down)
  leaves None s o m down reached = tt
  leaves (Some r) s o m down reached = record {
    walks = record {
      left_tips = tips.0;
      right_tips = w.right_tips;
      common_tips = w.common_tips;
      from_left = λ c h. w.from_left c (last_leads r rest last c ∙ or_first (lead_to r rest c) (reaches here c) h);
      from_right = w.from_right;
      keeps = w.keeps;
      only = w.only;
      all = λ c h k. elim (w.all c h k) [
        | inl a ↦ inl a
        | inr p ↦ elim (or_either (lead_to r rest c) (reaches here c) (sym (last_leads r rest last c) ∙ p.0)) [
          | inl a ↦ inr (a, p.1)
          | inr a ↦ inl (leads_further r common here c (m.met_only here (sym (reached place.0 here place.1 place.2))) a)
        ]
      ];
    };
    met_tips = down.tips;
    met_only = λ c h. m.met_only c (down.only c h);
  }
    where
      here : Commit
      here = commit_at r last.1

      w : IsMeeting stands first_lefts first_rights [] (rest ++ last ∷ []) rights common r
      w = subst (λ xs. IsMeeting stands first_lefts first_rights [] xs rights common r) was.0 m.walks

      tips : AreTips stands rest r × IsTip stands r last
      tips = all_last (IsTip stands r) rest last w.left_tips

      place : (i : ℕ) × IsAt r i here × (stands i ≡ last.0)
      place = number_of name namer r s stands o last tips.1

  module _ (down : List Tip) where
    -- only one of the walks comes to it, and it goes on to the parents
    pub later : (told : Option Records) (new : List Tip) → IfSome told (IsSound name) → IfSome told (StandsInOrder stands) → IfSome told (Now lefts rights common met) → IfSome told (GoesDown stands last.0 met met_down)
        → IfSome told (GoesDown stands last.0 rights down) → IfSome told (λ r. LeadsToPlace stands last.0 rights r false) → IfSome told (λ r. Adds stands (some_reaches (parents_at r last.1)) rest new r)
        → IfSome told (Now new down common met_down)
    later None new s o m lower goes alone adds = tt
    later (Some r) new s o m lower goes alone adds = record {
      walks = goes_on name namer r s stands o first_lefts first_rights [] lefts rest rights down common last was goes m.walks new alone adds;
      met_tips = lower.tips;
      met_only = λ c h. m.met_only c (lower.only c h);
    }

    -- both walks come to it
    pub there : (told : Option Records) (left new new_met : List Tip) → left ≡ remove_entry (is_at (nat_cmp last.0)) down → new ≡ insert_entry nat_cmp common last.0 last.1 → new_met ≡ insert_entry nat_cmp met_down last.0 last.1
        → IfSome told (IsSound name) → IfSome told (StandsInOrder stands) → IfSome told (Now lefts rights common met) → IfSome told (GoesDown stands last.0 met met_down)
        → IfSome told (GoesDown stands last.0 rights down) → IfSome told (λ r. LeadsToPlace stands last.0 rights r true) → IfSome told (Now rest left new new_met)
    there None left new new_met e f h s o m lower goes reached = tt
    there (Some r) left new new_met e f h s o m lower goes reached = record {
      walks = meets_there name namer stands first_lefts first_rights [] lefts rest rights down common new last was (Some r) left e f s o m.walks goes reached;
      met_tips = more_met.tips;
      met_only = λ c k. more_common.reach c ∙ elim (or_either (lead_to r met_down c) (reaches (commit_at r last.1) c) (sym (more_met.reach c) ∙ k)) [
        | inl a ↦ or_first (lead_to r common c) (reaches (commit_at r last.1) c) (m.met_only c (lower.only c a))
        | inr a ↦ or_second (lead_to r common c) (reaches (commit_at r last.1) c) a
      ];
    }
      where
        tip : IsTip stands r last
        tip = (all_last (IsTip stands r) rest last (subst (λ xs. AreTips stands xs r) was.0 m.walks.left_tips)).1

        more_met : Adds stands (reaches (commit_at r last.1)) met_down new_met r
        more_met = subst (λ xs. Adds stands (reaches (commit_at r last.1)) met_down xs r) (sym h) (inserted name namer r s stands o last.0 last.1 met_down tip lower.tips)

        more_common : Adds stands (reaches (commit_at r last.1)) common new r
        more_common = subst (λ xs. Adds stands (reaches (commit_at r last.1)) common xs r) (sym f) (inserted name namer r s stands o last.0 last.1 common tip m.walks.common_tips)
