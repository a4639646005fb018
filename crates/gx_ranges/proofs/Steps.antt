-- Steps of the code, as facts of the repository that is told.
use Rattle.std.proofs.Common.{◌≡◌, ℕ, suc, ◌+◌, ◌<◌, ◌≤◌, Bool, true, refl, sym, ap, subst, ◌∙◌, arith, List, [], ◌∷◌, ◌++◌, length, Option, Some, None}
use Rattle.std.specs.Prelude.{IfSome, is_some, ◌||◌}
use Rattle.std.specs.Borrow.{Bor}
use Rattle.std.specs.List.{slice_get}
use Rattle.std.specs.Option.{option_map}
use Rattle.std.specs.BTreeMap.{insert_entry, is_at}
use Rattle.std.specs.Map.{lookup}
use Rattle.std.specs.Ordering.{nat_cmp}
use Rattle.gx_model.specs.declared.objects.Kind.{Kind}
use Rattle.gx_model.specs.declared.objects.Kind.TheVariants as kinds
use Rattle.gx_model.specs.Histories.{Records, object_of}
use Rattle.gx_model.specs.Histories.Values.{Commit, list_of, parents_of}
use Rattle.gx_model.specs.Objects.{CommitParts, IsCommitText, IsNamer}
use Rattle.gx_model.specs.Records.{names_of, parts_of_commit}
use Rattle.gx_model.specs.Records.Growth.{record_named}
use Rattle.gx_model.specs.Records.Sound.{IsSound}
use Rattle.gx_model.specs.Revisions.Ranges.{reaches, some_reaches}
use Rattle.gx_model.specs.Texts.{Bytes}
use Rattle.gx_model.proofs.Records.HeldValues.{commit_text_held, got, kind_held, names_long, no_parent_there, parent_there}
use Rattle.gx_object.specs.declared.name.Name.{Name}
use Rattle.gx_objects.specs.Answers.{GoesUp, StandsThere}
use Rattle.gx_questions.specs.Objects.{IsCommitAt}
use Rattle.gx_rev.specs.Objects.{IsHeldAs, commit_at, parents_at}
use Rattle.gx_ranges.specs.Fronts.{Adds, AreBelow, AreTips, GoesDown, IsLast, IsTip, LeadsToPlace, StandsBefore, lead_to}
use Rattle.gx_ranges.proofs.Tips.{all_last, down_further, found_there, inserted, not_behind_limit, not_nowhere, parent_below, parents_down, told_there}
use Rattle.gx_ranges.proofs.Reached.{first_all, first_more, first_reach, first_same, no_first, or_joined, or_none}

abbrev Tip : Type 0
Tip = ℕ × Name

-- the order in which the objects of a repository stand
abbrev pub StandsInOrder : (ℕ → ℕ) → Records → Type 0
StandsInOrder stands r = GoesUp stands (length r.records)

-- the first parents of a commit were added
abbrev pub AddsFirst : (ℕ → ℕ) → ℕ → Name → List Tip → List Tip → Records → Type 0
AddsFirst stands number called old now r = Adds stands (first_reach (parents_at r called) number) old now r

-- the parts of a commit
abbrev pub ArePartsOf : (Kind → Bytes → Bytes) → Name → CommitParts → Records → Type 0
ArePartsOf name called parts r = parts ≡ parts_of_commit name (commit_at r called)

module _ (name : Kind → Bytes → Bytes) (namer : IsNamer name) (stands : ℕ → ℕ) where
  -- ---- places

  pub place_is_told : (told : Option Records) (called : Name) → IfSome told (IsSound name) → IfSome told (StandsInOrder stands) → IfSome told (λ r. IsHeldAs kinds.Commit r called) → IfSome told (λ r. StandsThere stands called.bytes r None) → told ≡ None
  place_is_told None called s o h p = refl
  place_is_told (Some r) called s o h p = absurd (not_nowhere name namer r s stands o called h p)

  pub is_before : (told : Option Records) (called : Name) (place limit : ℕ) → IfSome told (IsSound name) → IfSome told (StandsInOrder stands) → IfSome told (λ r. IsHeldAs kinds.Commit r called) → IfSome told (λ r. StandsThere stands called.bytes r (Some place))
      → IfSome told (StandsBefore stands limit called) → limit ≤ place → told ≡ None
  is_before None called place limit s o h p b l = refl
  is_before (Some r) called place limit s o h p b l = absurd (let m = not_behind_limit name namer r s stands o called place limit (h, p) b in omega arith)

  pub adds_one : (told : Option Records) (called : Name) (place : ℕ) (old new : List Tip) → new ≡ insert_entry nat_cmp old place called → IfSome told (IsSound name) → IfSome told (StandsInOrder stands)
      → IfSome told (AreTips stands old) → IfSome told (λ r. IsHeldAs kinds.Commit r called) → IfSome told (λ r. StandsThere stands called.bytes r (Some place)) → IfSome told (λ r. Adds stands (reaches (commit_at r called)) old new r)
  adds_one None called place old new e s o t h p = tt
  adds_one (Some r) called place old new e s o t h p = subst (λ xs. Adds stands (reaches (commit_at r called)) old xs r) (sym e) (inserted name namer r s stands o place called old (h, p) t)

  -- ---- parents

  pub adds_none : (told : Option Records) (called : Name) (old : List Tip) → IfSome told (AreTips stands old) → IfSome told (AddsFirst stands 0 called old old)
  adds_none None called old t = tt
  adds_none (Some r) called old t = record { tips = t; reach = λ d. sym (ap (λ b. lead_to r old d || b) (no_first (parents_at r called) d) ∙ or_none (lead_to r old d)) }

  module _ (called parent : Name) (place number : ℕ) (parts : CommitParts) (e : Some parent.bytes ≡ slice_get parts.parents number) where
    parent_is : (r : Records) → ArePartsOf name called parts r → Some parent.bytes ≡ slice_get (names_of name (parents_of (commit_at r called))) number
    parent_is r p = e ∙ ap (λ q. slice_get q.parents number) p

    pub parent_is_held : (told : Option Records) → IfSome told (IsSound name) → IfSome told (λ r. IsTip stands r (place, called)) → IfSome told (ArePartsOf name called parts) → IfSome told (λ r. IsHeldAs kinds.Commit r parent)
    parent_is_held None s t p = tt
    parent_is_held (Some r) s t p = (parent_there name namer r s called.bytes parent.bytes number t.0 (parent_is r p)).1

    pub parent_is_before : (told : Option Records) → IfSome told (IsSound name) → IfSome told (StandsInOrder stands) → IfSome told (λ r. IsTip stands r (place, called)) → IfSome told (ArePartsOf name called parts) → IfSome told (StandsBefore stands place parent)
    parent_is_before None s o t p = tt
    parent_is_before (Some r) s o t p =
        let there = parent_there name namer r s called.bytes parent.bytes number t.0 (parent_is r p) in
        parent_below name namer r s stands o place called parent number t there.1 there.0

    pub adds_next : (told : Option Records) (old now new : List Tip) → IfSome told (IsSound name) → IfSome told (λ r. IsTip stands r (place, called)) → IfSome told (ArePartsOf name called parts)
        → IfSome told (λ r. Adds stands (reaches (commit_at r parent)) now new r) → IfSome told (AddsFirst stands number called old now) → IfSome told (AddsFirst stands (number + 1) called old new)
    adds_next None old now new s t p one first = tt
    adds_next (Some r) old now new s t p one first =
        let there = parent_there name namer r s called.bytes parent.bytes number t.0 (parent_is r p) in
        record {
          tips = one.tips;
          reach = λ d. one.reach d ∙ ap (λ b. b || reaches (commit_at r parent) d) (first.reach d)
              ∙ or_joined (lead_to r old d) (first_reach (parents_at r called) number d) (reaches (commit_at r parent) d)
              ∙ ap (λ b. lead_to r old d || b) (sym (first_more (parents_at r called) number (commit_at r parent) d there.0));
        }

  pub adds_no_more : (called : Name) (place number : ℕ) (parts : CommitParts) → None ≡ slice_get parts.parents number
      → (told : Option Records) (old now : List Tip) → IfSome told (IsSound name) → IfSome told (λ r. IsTip stands r (place, called)) → IfSome told (ArePartsOf name called parts) → IfSome told (AddsFirst stands number called old now) → IfSome told (AddsFirst stands (number + 1) called old now)
  adds_no_more called place number parts e None old now s t p first = tt
  adds_no_more called place number parts e (Some r) old now s t p first =
      let none = no_parent_there name namer r s called.bytes number (e ∙ ap (λ q. slice_get q.parents number) p) in
      record {
        tips = first.tips;
        reach = λ d. first.reach d ∙ ap (λ b. lead_to r old d || b) (sym (first_same (parents_at r called) number d none));
      }

  pub adds_all : (called : Name) (number : ℕ) (parts : CommitParts) → length parts.parents ≤ number
      → (told : Option Records) (old now : List Tip) → IfSome told (ArePartsOf name called parts) → IfSome told (AddsFirst stands number called old now) → IfSome told (λ r. Adds stands (some_reaches (parents_at r called)) old now r)
  adds_all called number parts l None old now p first = tt
  adds_all called number parts l (Some r) old now p first =
      let count : length (list_of (parents_at r called)) ≤ number = (let e = ap (λ q. length q.parents) p ∙ names_long name (parents_at r called) in omega arith) in
      record { tips = first.tips; reach = λ d. first.reach d ∙ ap (λ b. lead_to r old d || b) (first_all (parents_at r called) number d count) }

  -- ---- bodies

  module _ (called : Name) (place : ℕ) (kind : Kind) (body : Bytes) where
    -- the object that stands there
    abbrev pub IsObject : Records → Type 0
    IsObject r = Some (kind, body) ≡ option_map object_of (record_named r.records called.bytes)

    pub commit_is_told : (told : Option Records) → IfSome told (IsSound name) → IfSome told (λ r. IsTip stands r (place, called)) → IfSome told IsObject → (kind ≡ kinds.Commit → ⊥) → told ≡ None
    commit_is_told None s t o n = refl
    commit_is_told (Some r) s t o n =
        let k = kind_held name namer r s kinds.Commit called.bytes t.0 in
        let e = got name namer r s called.bytes (kind, body) k.0 o in
        absurd (n (ap (λ p. p.0) e ∙ k.1))

    text_is_held : (r : Records) → IsSound name r → IsTip stands r (place, called) → IsObject r → IsCommitText (parts_of_commit name (commit_at r called)) body
    text_is_held r s t o =
        let k = kind_held name namer r s kinds.Commit called.bytes t.0 in
        let e = got name namer r s called.bytes (kind, body) k.0 o in
        commit_text_held name namer r s called.bytes body t.0 (ap (λ p. p.1) e)

    pub text_is_told : (told : Option Records) → IfSome told (IsSound name) → IfSome told (λ r. IsTip stands r (place, called)) → IfSome told IsObject → ((parts : CommitParts) → IsCommitText parts body → ⊥) → told ≡ None
    text_is_told None s t o n = refl
    text_is_told (Some r) s t o n = absurd (n _ (text_is_held r s t o))

    pub commit_is_there : (told : Option Records) (lent : Bor Bytes) (view : CommitParts) → lent.now ≡ body → IfSome told (IsSound name) → IfSome told (λ r. IsTip stands r (place, called)) → IfSome told IsObject → ((parts : CommitParts) → IsCommitText parts body → view ≡ parts) → IfSome told (λ r. IsCommitAt name called r (lent, view))
    commit_is_there None lent view b s t o f = tt
    commit_is_there (Some r) lent view b s t o f =
        let k = kind_held name namer r s kinds.Commit called.bytes t.0 in
        let e = got name namer r s called.bytes (kind, body) k.0 o in
        record { body = b ∙ ap (λ p. p.1) e; parts = f _ (text_is_held r s t o) }

  -- the parts of a commit that is there
  pub parts_of_it : (called : Name) (told : Option Records) (found : Bor Bytes × CommitParts) → IfSome told (λ r. IsCommitAt name called r found) → IfSome told (ArePartsOf name called found.1)
  parts_of_it called None found h = tt
  parts_of_it called (Some r) found h = h.parts

  -- ---- going down

  pub stays_there : (told : Option Records) (place : ℕ) (tips : List Tip) → IfSome told (AreTips stands tips) → IfSome told (GoesDown stands place tips tips)
  stays_there None place tips t = tt
  stays_there (Some r) place tips t = record { tips = t; same = λ i d e l. refl; only = λ d h. h }

  -- the last one was taken out
  pub rest_are_tips : (told : Option Records) (old rest : List Tip) (last : Tip) → old ≡ rest ++ last ∷ [] → IfSome told (AreTips stands old) → IfSome told (AreTips stands rest)
  rest_are_tips None old rest last e t = tt
  rest_are_tips (Some r) old rest last e t = (all_last (IsTip stands r) rest last (subst (λ xs. AreTips stands xs r) e t)).0

  pub last_is_tip : (told : Option Records) (old rest : List Tip) (last : Tip) → old ≡ rest ++ last ∷ [] → IfSome told (AreTips stands old) → IfSome told (λ r. IsTip stands r last)
  last_is_tip None old rest last e t = tt
  last_is_tip (Some r) old rest last e t = (all_last (IsTip stands r) rest last (subst (λ xs. AreTips stands xs r) e t)).1

  -- and it went on to its parents
  pub goes_further : (told : Option Records) (place : ℕ) (first now rest new : List Tip) (last : Tip) → place < last.0 → IsLast now rest last → IfSome told (IsSound name) → IfSome told (StandsInOrder stands)
      → IfSome told (GoesDown stands place first now) → IfSome told (λ r. Adds stands (some_reaches (parents_at r last.1)) rest new r) → IfSome told (GoesDown stands place first new)
  goes_further None place first now rest new last l was s o down adds = tt
  goes_further (Some r) place first now rest new last l was s o down adds =
      down_further name namer r s stands o place first now new down (parents_down name namer r s stands o place now rest new last l was down.tips adds)

  pub down_tips : (told : Option Records) (place : ℕ) (old new : List Tip) → IfSome told (GoesDown stands place old new) → IfSome told (AreTips stands new)
  down_tips None place old new d = tt
  down_tips (Some r) place old new d = d.tips

  pub adds_tips : (told : Option Records) (test : Records → Commit → Bool) (old new : List Tip) → IfSome told (λ r. Adds stands (test r) old new r) → IfSome told (AreTips stands new)
  adds_tips None test old new a = tt
  adds_tips (Some r) test old new a = a.tips

  pub found_at_once : (told : Option Records) (place : ℕ) (tips : List Tip) (found : Bool) → found ≡ is_some (lookup (is_at (nat_cmp place)) tips) → found ≡ true → IfSome told (IsSound name) → IfSome told (StandsInOrder stands)
      → IfSome told (AreTips stands tips) → IfSome told (λ r. LeadsToPlace stands place tips r true)
  found_at_once None place tips found e f s o t = tt
  found_at_once (Some r) place tips found e f s o t = found_there name namer r s stands o place tips (sym e ∙ f) t

  pub found_later : (told : Option Records) (place : ℕ) (old new : List Tip) (found : Bool) → found ≡ is_some (lookup (is_at (nat_cmp place)) new) → AreBelow (suc place) new → IfSome told (IsSound name) → IfSome told (StandsInOrder stands)
      → IfSome told (GoesDown stands place old new) → IfSome told (λ r. LeadsToPlace stands place old r found)
  found_later None place old new found e b s o d = tt
  found_later (Some r) place old new found e b s o d = told_there name namer r s stands o place old new found e b d
