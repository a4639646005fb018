-- Fronts of commits that are given one after the other.
use Rattle.std.proofs.Common.{◌≡◌, ℕ, zero, suc, ◌+◌, ◌<◌, Bool, true, false, refl, sym, ap, subst, ◌∙◌, arith, List, [], ◌∷◌, ◌++◌, map, take, length, get_or, append_assoc, append-nil, Option, Some, None, Result, Ok, Err}
use Rattle.std.specs.Prelude.{IfSome, ◌&&◌, ◌||◌}
use Rattle.std.specs.BTreeMap.{insert_entry}
use Rattle.std.specs.declared.collections.BTreeMap.{BTreeMap}
use Rattle.std.specs.List.{AllByRecursion, list_all, list_any}
use Rattle.std.specs.Ordering.{nat_cmp}
use Rattle.std.proofs.lemmas.List.Folds.{list_all_more, list_any-append, list_any_more}
use Rattle.gx_model.specs.declared.objects.Kind.{Kind}
use Rattle.gx_model.specs.declared.objects.Kind.TheVariants as kinds
use Rattle.gx_model.specs.Histories.{Records}
use Rattle.gx_model.specs.Histories.Values.{Commit}
use Rattle.gx_model.specs.Objects.{IsNamer}
use Rattle.gx_model.specs.Records.Sound.{IsSound}
use Rattle.gx_model.specs.Revisions.Ranges.{reaches, some_reaches}
use Rattle.gx_model.specs.Texts.{Bytes}
use Rattle.gx_object.specs.declared.name.Name.{Name}
use Rattle.gx_objects.specs.Answers.{StandsThere, Tells}
use Rattle.gx_objects.specs.declared.fault.LookFault.{LookFault}
use Rattle.gx_print.specs.Logs.{AreCommits}
use Rattle.gx_rev.specs.Objects.{IsHeldAs, commit_at, parents_at}
use Rattle.gx_ranges.specs.Fronts.{Adds, AreTips, IsTip, LeadsToPlace, lead_to}
use Rattle.gx_ranges.proofs.Reached.{or_none}
use Rattle.gx_ranges.proofs.Steps.{StandsInOrder, adds_one}
use Rattle.gx_ranges.proofs.Tips.{number_of}
use Rattle.gx_merge_base.specs.Bases.{has_behind, is_common, some_reach}
use Rattle.gx_merge_base.specs.Fronts.{IsFront, lead_behind, reached_by_all}
use Rattle.gx_merge_base.proofs.Tests.{all_mapped, and_all, and_joined, any_mapped, holds_behind}

abbrev Tip : Type 0
Tip = ℕ × Name

-- whether one of the commits of these names reaches another
abbrev pub names_reach : Records → List Name → Commit → Bool
names_reach r names c = list_any (λ called. reaches (commit_at r called) c) names

pub held_at : (P : Name → Type 0) (xs : List Name) (i : ℕ) (d : Name) → i < length xs → AllByRecursion P xs → P (get_or xs i d)
held_at P [] i d l h = absurd (omega arith)
held_at P (x ∷ xs) zero d l h = h.0
held_at P (x ∷ xs) (suc i) d l h = held_at P xs i d (omega arith) h.1

module _ (stands : ℕ → ℕ) (all : List Name) where
  -- the front of the first of some names
  abbrev pub IsFrontOf : ℕ → List Tip → Records → Type 0
  IsFrontOf count front r = IsFront stands (names_reach r (take count all)) r front

  pub held_next : (told : Option Records) (i : ℕ) (d : Name) → i < length all → IfSome told (λ r. AreCommits r all) → IfSome told (λ r. IsHeldAs kinds.Commit r (get_or all i d))
  held_next None i d l h = tt
  held_next (Some r) i d l h = held_at (IsHeldAs kinds.Commit r) all i d l h

  pub none_yet : (told : Option Records) (front : List Tip) → front ≡ [] → IfSome told (IsFrontOf 0 front)
  none_yet None front e = tt
  none_yet (Some r) front e = subst (λ xs. IsFrontOf 0 xs r) (sym e) (record { tips_are = tt; reach = λ c. nothing all c })
    where
      nothing : (xs : List Name) (c : Commit) → false ≡ names_reach r (take 0 xs) c
      nothing [] c = refl
      nothing (x ∷ xs) c = refl

  pub front_tips : (told : Option Records) (test : Records → Commit → Bool) (front : List Tip) → IfSome told (λ r. IsFront stands (test r) r front) → IfSome told (AreTips stands front)
  front_tips None test front f = tt
  front_tips (Some r) test front f = f.tips_are

  module _ (name : Kind → Bytes → Bytes) (namer : IsNamer name) where
    -- one name more
    pub next_one : (told : Option Records) (i : ℕ) (d : Name) (place : ℕ) (front new : List Tip) → i < length all → new ≡ insert_entry nat_cmp front place (get_or all i d)
        → IfSome told (IsSound name) → IfSome told (StandsInOrder stands) → IfSome told (λ r. AreCommits r all) → IfSome told (λ r. StandsThere stands (get_or all i d).bytes r (Some place))
        → IfSome told (IsFrontOf i front) → IfSome told (IsFrontOf (i + 1) new)
    next_one None i d place front new l e s o h p f = tt
    next_one (Some r) i d place front new l e s o h p f =
        let adds = adds_one name namer stands (Some r) (get_or all i d) place front new e s o f.tips_are (held_at (IsHeldAs kinds.Commit r) all i d l h) p in
        record {
          tips_are = adds.tips;
          reach = λ c. adds.reach c ∙ ap (λ b. b || reaches (commit_at r (get_or all i d)) c) (f.reach c) ∙ sym (list_any_more (λ called. reaches (commit_at r called) c) all i d l);
        }

  -- all names
  pub last_one : (told : Option Records) (i : ℕ) (front : List Tip) → take i all ≡ all → IfSome told (IsFrontOf i front) → IfSome told (λ r. IsFront stands (some_reach (map (commit_at r) all)) r front)
  last_one None i front e f = tt
  last_one (Some r) i front e f = record {
    tips_are = f.tips_are;
    reach = λ c. f.reach c ∙ ap (λ names. names_reach r names c) e ∙ sym (any_mapped (λ x. reaches x c) (commit_at r) all);
  }

-- ---- what is behind a front

-- the parents of the first of a front's commits
pub record AreBehind (stands : ℕ → ℕ) (all left now : List Tip) (r : Records) : Type 0 where
  pub done : List Tip
  pub whole : all ≡ done ++ left
  pub front : IsFront stands (lead_behind r done) r now

module _ (stands : ℕ → ℕ) (all : List Tip) where
  pub none_behind : (told : Option Records) (left now : List Tip) → left ≡ all → now ≡ [] → IfSome told (AreBehind stands all left now)
  none_behind None left now e f = tt
  none_behind (Some r) left now e f = subst (λ xs. AreBehind stands all left xs r) (sym f) (record { done = []; whole = sym e; front = record { tips_are = tt; reach = λ c. refl } })

  pub next_tip : (told : Option Records) (tip : Tip) (left rest now : List Tip) → left ≡ tip ∷ rest → IfSome told (AreTips stands all) → IfSome told (AreBehind stands all left now) → IfSome told (λ r. IsTip stands r tip)
  next_tip None tip left rest now e t a = tt
  next_tip (Some r) tip left rest now e t a = holds_behind (IsTip stands r) a.done tip rest (subst (λ xs. AreTips stands xs r) (a.whole ∙ ap (λ xs. a.done ++ xs) e) t)

  pub behind_tips : (told : Option Records) (left now : List Tip) → IfSome told (AreBehind stands all left now) → IfSome told (AreTips stands now)
  behind_tips None left now a = tt
  behind_tips (Some r) left now a = a.front.tips_are

  pub next_behind : (told : Option Records) (tip : Tip) (left rest now new : List Tip) → left ≡ tip ∷ rest → IfSome told (λ r. Adds stands (some_reaches (parents_at r tip.1)) now new r)
      → IfSome told (AreBehind stands all left now) → IfSome told (AreBehind stands all rest new)
  next_behind None tip left rest now new e adds a = tt
  next_behind (Some r) tip left rest now new e adds a = record {
    done = a.done ++ tip ∷ [];
    whole = a.whole ∙ ap (λ xs. a.done ++ xs) e ∙ sym (append_assoc a.done (tip ∷ []) rest);
    front = record {
      tips_are = adds.tips;
      reach = λ c. adds.reach c ∙ ap (λ b. b || some_reaches (parents_at r tip.1) c) (a.front.reach c) ∙ sym (list_any-append (λ x. has_behind (commit_at r x.1) c) a.done (tip ∷ []) ∙ ap (λ b. lead_behind r a.done c || b) (or_none (has_behind (commit_at r tip.1) c)));
    };
  }

  pub all_behind : (told : Option Records) (left now : List Tip) → left ≡ [] → IfSome told (AreBehind stands all left now) → IfSome told (λ r. IsFront stands (lead_behind r all) r now)
  all_behind None left now e a = tt
  all_behind (Some r) left now e a =
      let same : all ≡ a.done = a.whole ∙ ap (λ xs. a.done ++ xs) e ∙ append-nil a.done in
      subst (λ xs. IsFront stands (lead_behind r xs) r now) (sym same) a.front

-- ---- what is common

module _ (stands : ℕ → ℕ) (first : List Tip) (all : List Name) where
  -- what a front and the first of some commits reach
  abbrev pub IsCommonTo : ℕ → List Tip → Records → Type 0
  IsCommonTo count now r = IsFront stands (reached_by_all r first (take count all)) r now

  pub common_first : (told : Option Records) → IfSome told (AreTips stands first) → IfSome told (IsCommonTo 0 first)
  common_first None t = tt
  common_first (Some r) t = record { tips_are = t; reach = λ c. sym (ap (λ b. lead_to r first c && b) (nothing all c) ∙ and_all (lead_to r first c)) }
    where
      nothing : (xs : List Name) (c : Commit) → list_all (λ called. reaches (commit_at r called) c) (take 0 xs) ≡ true
      nothing [] c = refl
      nothing (x ∷ xs) c = refl

  pub common_next : (told : Option Records) (i : ℕ) (d : Name) (only : List Name) (now rights new : List Tip) → i < length all → only ≡ get_or all i d ∷ []
      → IfSome told (λ r. IsFront stands (some_reach (map (commit_at r) only)) r rights)
      → IfSome told (λ r. IsFront stands (λ c. lead_to r now c && lead_to r rights c) r new)
      → IfSome told (IsCommonTo i now) → IfSome told (IsCommonTo (i + 1) new)
  common_next None i d only now rights new l e f m h = tt
  common_next (Some r) i d only now rights new l e f m h = record {
    tips_are = m.tips_are;
    reach = λ c.
        let alone = f.reach c ∙ ap (λ xs. some_reach (map (commit_at r) xs) c) e ∙ or_none (reaches (commit_at r (get_or all i d)) c) in
        m.reach c ∙ (λ j. h.reach c j && alone j)
        ∙ and_joined (lead_to r first c) (list_all (λ called. reaches (commit_at r called) c) (take i all)) (reaches (commit_at r (get_or all i d)) c)
        ∙ ap (λ b. lead_to r first c && b) (sym (list_all_more (λ called. reaches (commit_at r called) c) all i d l));
  }

  pub common_last : (told : Option Records) (i : ℕ) (now : List Tip) → take i all ≡ all → IfSome told (IsCommonTo i now) → IfSome told (λ r. IsFront stands (reached_by_all r first all) r now)
  common_last None i now e h = tt
  common_last (Some r) i now e h = subst (λ xs. IsFront stands (reached_by_all r first xs) r now) e h

module _ (stands : ℕ → ℕ) (commits : List Name) where
  -- nothing has no ancestor
  pub none_common : (octopus : Bool) (told : Option Records) (front : List Tip) → commits ≡ [] → front ≡ [] → IfSome told (λ r. IsFront stands (is_common octopus (map (commit_at r) commits)) r front)
  none_common octopus None front e f = tt
  none_common octopus (Some r) front e f =
      subst (λ xs. IsFront stands (is_common octopus (map (commit_at r) commits)) r xs) (sym f)
      (record { tips_are = tt; reach = λ c. sym (ap (λ xs. is_common octopus (map (commit_at r) xs) c) e ∙ nothing octopus c) })
    where
      nothing : (b : Bool) (c : Commit) → is_common b [] c ≡ false
      nothing true c = refl
      nothing false c = refl

  module _ (first : Name) (only others : List Name) (e : commits ≡ first ∷ others) (one : only ≡ first ∷ []) (lefts : List Tip) where
    alone : (r : Records) → IsFront stands (some_reach (map (commit_at r) only)) r lefts → (c : Commit) → lead_to r lefts c ≡ reaches (commit_at r first) c
    alone r f c = f.reach c ∙ ap (λ xs. some_reach (map (commit_at r) xs) c) one ∙ or_none (reaches (commit_at r first) c)

    pub common_octopus : (told : Option Records) (octopus : Bool) (front : List Tip) → octopus ≡ true → IfSome told (λ r. IsFront stands (some_reach (map (commit_at r) only)) r lefts)
        → IfSome told (λ r. IsFront stands (reached_by_all r lefts others) r front) → IfSome told (λ r. IsFront stands (is_common octopus (map (commit_at r) commits)) r front)
    common_octopus None octopus front b f h = tt
    common_octopus (Some r) octopus front b f h = record {
      tips_are = h.tips_are;
      reach = λ c. h.reach c ∙ (λ j. alone r f c j && sym (all_mapped (λ x. reaches x c) (commit_at r) others) j) ∙ sym (ap (λ o. is_common o (map (commit_at r) commits) c) b ∙ ap (λ xs. is_common true (map (commit_at r) xs) c) e);
    }

    pub common_merged : (told : Option Records) (octopus : Bool) (rights front : List Tip) → octopus ≡ false → IfSome told (λ r. IsFront stands (some_reach (map (commit_at r) only)) r lefts)
        → IfSome told (λ r. IsFront stands (some_reach (map (commit_at r) others)) r rights)
        → IfSome told (λ r. IsFront stands (λ c. lead_to r lefts c && lead_to r rights c) r front) → IfSome told (λ r. IsFront stands (is_common octopus (map (commit_at r) commits)) r front)
    common_merged None octopus rights front b f g h = tt
    common_merged (Some r) octopus rights front b f g h = record {
      tips_are = h.tips_are;
      reach = λ c. h.reach c ∙ (λ j. alone r f c j && g.reach c j) ∙ sym (ap (λ o. is_common o (map (commit_at r) commits) c) b ∙ ap (λ xs. is_common false (map (commit_at r) xs) c) e);
    }

-- whether a commit is an ancestor of another is whether its place is reached
pub ancestor_found : (name : Kind → Bytes → Bytes) (namer : IsNamer name) (stands : ℕ → ℕ) (ancestor descendant : Name) (only : List Name) (front : List Tip) (place : ℕ) (told : Option Records) (is_one : Bool) → only ≡ descendant ∷ []
    → IfSome told (IsSound name) → IfSome told (StandsInOrder stands) → IfSome told (λ r. IsHeldAs kinds.Commit r ancestor) → IfSome told (λ r. StandsThere stands ancestor.bytes r (Some place))
    → IfSome told (λ r. IsFront stands (some_reach (map (commit_at r) only)) r front) → IfSome told (λ r. LeadsToPlace stands place front r is_one)
    → IfSome told (λ r. is_one ≡ reaches (commit_at r descendant) (commit_at r ancestor))
ancestor_found name namer stands ancestor descendant only front place None is_one e s o h p f l = tt
ancestor_found name namer stands ancestor descendant only front place (Some r) is_one e s o h p f l =
    let n = number_of name namer r s stands o (place, ancestor) (h, p) in
    let c = commit_at r ancestor in
    l n.0 c n.1 n.2 ∙ f.reach c ∙ ap (λ xs. some_reach (map (commit_at r) xs) c) e ∙ or_none (reaches (commit_at r descendant) c)

-- ---- the same of an answer

pub ancestor_told : (name : Kind → Bytes → Bytes) (namer : IsNamer name) (stands : ℕ → ℕ) (ancestor descendant : Name) (only : List Name) (front : List Tip) (place : ℕ) (told : Option Records) (result : Result Bool LookFault) → only ≡ descendant ∷ []
    → IfSome told (IsSound name) → IfSome told (StandsInOrder stands) → IfSome told (λ r. IsHeldAs kinds.Commit r ancestor) → IfSome told (λ r. StandsThere stands ancestor.bytes r (Some place))
    → IfSome told (λ r. IsFront stands (some_reach (map (commit_at r) only)) r front) → Tells told (LeadsToPlace stands place front) result
    → Tells told (λ r is_one. is_one ≡ reaches (commit_at r descendant) (commit_at r ancestor)) result
ancestor_told name namer stands ancestor descendant only front place None result e s o h p f l = tt
ancestor_told name namer stands ancestor descendant only front place (Some r) (Err fault) e s o h p f l = tt
ancestor_told name namer stands ancestor descendant only front place (Some r) (Ok is_one) e s o h p f l =
    ancestor_found name namer stands ancestor descendant only front place (Some r) is_one e s o h p f l

pub octopus_told : (A : Type 0) (stands : ℕ → ℕ) (commits : List Name) (first : Name) (only others : List Name) (e : commits ≡ first ∷ others) (one : only ≡ first ∷ []) (lefts : List Tip) (told : Option Records) (octopus : Bool) (result : Result (BTreeMap ℕ Name A) LookFault)
    → octopus ≡ true → IfSome told (λ r. IsFront stands (some_reach (map (commit_at r) only)) r lefts)
    → Tells told (λ r common. IsFront stands (reached_by_all r lefts others) r common.entries) result → Tells told (λ r common. IsFront stands (is_common octopus (map (commit_at r) commits)) r common.entries) result
octopus_told A stands commits first only others e one lefts None octopus result b f h = tt
octopus_told A stands commits first only others e one lefts (Some r) octopus (Err fault) b f h = tt
octopus_told A stands commits first only others e one lefts (Some r) octopus (Ok common) b f h = common_octopus stands commits first only others e one lefts (Some r) octopus common.entries b f h
