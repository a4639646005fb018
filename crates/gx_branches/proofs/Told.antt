-- Steps of the code, as facts of the repository that is told.
use Rattle.std.proofs.Common.{◌≡◌, ℕ, suc, ◌+◌, ◌<◌, ◌≤◌, min, Bool, refl, sym, ap, subst, ◌∙◌, List, [], ◌∷◌, ◌++◌, length, Option, Some, None}
use Rattle.std.specs.Prelude.{IfSome}
use Rattle.std.specs.BTreeMap.{insert_entry}
use Rattle.std.specs.List.{slice_get}
use Rattle.std.specs.List.Sorted.{IsStrictlySortedBy}
use Rattle.std.specs.Map.{keys_of}
use Rattle.std.specs.Ordering.{nat_cmp}
use Rattle.gx_model.specs.declared.objects.Kind.{Kind}
use Rattle.gx_model.specs.declared.objects.Kind.TheVariants as kinds
use Rattle.gx_model.specs.Histories.{Records}
use Rattle.gx_model.specs.Histories.Values.{Commit}
use Rattle.gx_model.specs.Objects.{IsNamer}
use Rattle.gx_model.specs.Records.Sound.{IsSound}
use Rattle.gx_model.specs.Revisions.Ranges.{reaches, some_reaches}
use Rattle.gx_model.specs.Texts.{Bytes}
use Rattle.gx_object.specs.declared.name.Name.{Name}
use Rattle.gx_objects.specs.Answers.{GoesUp, StandsThere}
use Rattle.gx_ranges.specs.Fronts.{Adds, AreBelow, AreTips, IsTip}
use Rattle.gx_ranges.proofs.Tips.{all_last}
use Rattle.gx_rev.specs.Objects.{IsHeldAs, commit_at, parents_at}
use Rattle.gx_tips.specs.Spans.{AreNewestFirst}
use Rattle.gx_tips.specs.Tips as tips
use Rattle.gx_tips.specs.declared.tips.Tip.{Tip}
use Rattle.gx_branches.specs.Ranks.{AreRanked, AreRanks, HandsDown, HoldTips, Lowers, Ranked, all_unranked, rank_there, unranked}
use Rattle.gx_branches.specs.Branches.{FindsBranches, candidates}
use Rattle.gx_branches.specs.declared.branches.Branches.{Branches}
use Rattle.gx_branches.proofs.Found.{candidates_hold, finds}
use Rattle.gx_branches.proofs.RankedFronts.{AreHanded, all_handed, hands_further, lowered, none_handed, one_handed, rest_and_last}
use Rattle.gx_branches.proofs.Tips.{HoldFirst, RanksFirst, held_at, hold_all, hold_next, hold_none, ranks_all, ranks_next, ranks_none}

-- the order in which the objects of a repository stand
abbrev pub StandsInOrder : (ℕ → ℕ) → Records → Type 0
StandsInOrder stands r = GoesUp stands (length r.records)

together : (told : Option Records) (P Q : Records → Type 0) → IfSome told P → IfSome told Q → IfSome told (λ r. P r × Q r)
together None P Q h k = tt
together (Some r) P Q h k = (h, k)

module _ (name : Kind → Bytes → Bytes) (namer : IsNamer name) (stands : ℕ → ℕ) where
  -- what follows of one fact of a sound repository, and of two
  follows : (told : Option Records) (P Q : Records → Type 0) → ((r : Records) → IsSound name r → StandsInOrder stands r → P r → Q r)
      → IfSome told (IsSound name) → IfSome told (StandsInOrder stands) → IfSome told P → IfSome told Q
  follows None P Q f s o h = tt
  follows (Some r) P Q f s o h = f r s o h

  follows_two : (told : Option Records) (P Q R : Records → Type 0) → ((r : Records) → IsSound name r → StandsInOrder stands r → P r → Q r → R r)
      → IfSome told (IsSound name) → IfSome told (StandsInOrder stands) → IfSome told P → IfSome told Q → IfSome told R
  follows_two None P Q R f s o h k = tt
  follows_two (Some r) P Q R f s o h k = f r s o h k

  module _ (told : Option Records) (sound : IfSome told (IsSound name)) (order : IfSome told (StandsInOrder stands)) where
    -- ---- a number is handed to a commit

    pub is_lowered : (p rank q v : ℕ) (n : Name) (xs new : List Ranked) → q ≡ rank_there xs p rank → v ≡ min q rank → new ≡ insert_entry nat_cmp xs p (n, v) → IsStrictlySortedBy nat_cmp (keys_of new)
        → IfSome told (λ r. IsTip stands r (p, n)) → IfSome told (AreRanked stands xs) → IfSome told (λ r. Lowers stands (reaches (commit_at r n)) rank xs new r)
    is_lowered p rank q v n xs new f m e o =
        follows_two told (λ r. IsTip stands r (p, n)) (AreRanked stands xs) (λ r. Lowers stands (reaches (commit_at r n)) rank xs new r) (λ r s u. lowered name namer r s stands u p rank v n xs new (m ∙ ap (λ k. min k rank) f) e o) sound order

    -- ---- parents

    pub are_left : (test : Records → Commit → Bool) (rank : ℕ) (left : List (ℕ × Name)) (old : List Ranked) → IfSome told (AreRanked stands old) → IfSome told (λ r. Adds stands (test r) [] left r)
        → IfSome told (λ r. AreHanded stands (test r) rank left old old r)
    are_left test rank left old =
        follows_two told (AreRanked stands old) (λ r. Adds stands (test r) [] left r) (λ r. AreHanded stands (test r) rank left old old r) (λ r s u. none_handed name namer r s stands u (test r) rank left old) sound order

    pub last_left : (test : Records → Commit → Bool) (rank : ℕ) (left rest : List (ℕ × Name)) (last : ℕ × Name) (old now : List Ranked) → left ≡ rest ++ last ∷ []
        → IfSome told (λ r. AreHanded stands (test r) rank left old now r) → IfSome told (λ r. IsTip stands r last)
    last_left test rank left rest last old now e =
        follows told (λ r. AreHanded stands (test r) rank left old now r) (λ r. IsTip stands r last) (λ r s u h. (all_last (IsTip stands r) rest last (subst (λ ys. AreTips stands ys r) e h.tips)).1) sound order

    pub ranked_left : (test : Records → Commit → Bool) (rank : ℕ) (left : List (ℕ × Name)) (old now : List Ranked)
        → IfSome told (λ r. AreHanded stands (test r) rank left old now r) → IfSome told (AreRanked stands now)
    ranked_left test rank left old now = follows told (λ r. AreHanded stands (test r) rank left old now r) (AreRanked stands now) (λ r s u h. h.ranked) sound order

    pub one_less : (test : Records → Commit → Bool) (rank : ℕ) (left rest : List (ℕ × Name)) (last : ℕ × Name) (old now new : List Ranked) → left ≡ rest ++ last ∷ []
        → IfSome told (λ r. AreHanded stands (test r) rank left old now r) → IfSome told (λ r. Lowers stands (reaches (commit_at r last.1)) rank now new r)
        → IfSome told (λ r. AreHanded stands (test r) rank rest old new r)
    one_less test rank left rest last old now new e =
        follows_two told (λ r. AreHanded stands (test r) rank left old now r) (λ r. Lowers stands (reaches (commit_at r last.1)) rank now new r) (λ r. AreHanded stands (test r) rank rest old new r)
        (λ r s u. one_handed name namer r s stands u (test r) rank left rest last old now new e) sound order

    pub none_left : (test : Records → Commit → Bool) (rank : ℕ) (left : List (ℕ × Name)) (old new : List Ranked) → left ≡ []
        → IfSome told (λ r. AreHanded stands (test r) rank left old new r) → IfSome told (λ r. Lowers stands (test r) rank old new r)
    none_left test rank left old new e =
        follows told (λ r. AreHanded stands (test r) rank left old new r) (λ r. Lowers stands (test r) rank old new r) (λ r s u. all_handed name namer r s stands u (test r) rank left old new e) sound order

    -- ---- going down

    pub stays_there : (place : ℕ) (front : List Ranked) → IfSome told (AreRanked stands front) → IfSome told (HandsDown stands place front front)
    stays_there place front = follows told (AreRanked stands front) (HandsDown stands place front front) (λ r s u a. record { ranked = a; same = λ limit i d e m. refl }) sound order

    pub ranked_now : (place : ℕ) (old new : List Ranked) → IfSome told (HandsDown stands place old new) → IfSome told (AreRanked stands new)
    ranked_now place old new = follows told (HandsDown stands place old new) (AreRanked stands new) (λ r s u h. h.ranked) sound order

    pub rest_is_ranked : (place : ℕ) (first now rest : List Ranked) (last : Ranked) → now ≡ rest ++ last ∷ [] → IfSome told (HandsDown stands place first now) → IfSome told (AreRanked stands rest)
    rest_is_ranked place first now rest last e =
        follows told (HandsDown stands place first now) (AreRanked stands rest) (λ r s u h. (rest_and_last name namer r s stands u now rest last e h.ranked).0) sound order

    pub last_is_tip : (place : ℕ) (first now rest : List Ranked) (last : Ranked) → now ≡ rest ++ last ∷ [] → IfSome told (HandsDown stands place first now) → IfSome told (λ r. IsTip stands r (unranked last))
    last_is_tip place first now rest last e =
        follows told (HandsDown stands place first now) (λ r. IsTip stands r (unranked last)) (λ r s u h. (rest_and_last name namer r s stands u now rest last e h.ranked).1) sound order

    pub goes_further : (place : ℕ) (first now rest new : List Ranked) (last : Ranked) → place < last.0 → now ≡ rest ++ last ∷ [] → IfSome told (HandsDown stands place first now)
        → IfSome told (λ r. Lowers stands (some_reaches (parents_at r last.1.0)) last.1.1 rest new r) → IfSome told (HandsDown stands place first new)
    goes_further place first now rest new last l e =
        follows_two told (HandsDown stands place first now) (λ r. Lowers stands (some_reaches (parents_at r last.1.0)) last.1.1 rest new r) (HandsDown stands place first new)
        (λ r s u. hands_further name namer r s stands u place first now rest new last l e) sound order

    -- ---- tips

    pub no_tip_yet : (all : List Tip) (front : List Ranked) → front ≡ [] → IfSome told (tips.AreTips stands all) → IfSome told (HoldFirst stands all 0 front)
    no_tip_yet all front e =
        follows told (tips.AreTips stands all) (HoldFirst stands all 0 front) (λ r s u h. subst (λ xs. HoldFirst stands all 0 xs r) (sym e) (hold_none stands all r)) sound order

    pub ranked_first : (all : List Tip) (number : ℕ) (front : List Ranked) → IfSome told (HoldFirst stands all number front) → IfSome told (AreRanked stands front)
    ranked_first all number front = follows told (HoldFirst stands all number front) (AreRanked stands front) (λ r s u h. h.ranked) sound order

    pub tip_is_there : (all : List Tip) (number : ℕ) (tip : Tip) → slice_get all number ≡ Some tip → IfSome told (tips.AreTips stands all) → IfSome told (λ r. IsTip stands r (tip.place, tip.commit))
    tip_is_there all number tip e =
        follows told (tips.AreTips stands all) (λ r. IsTip stands r (tip.place, tip.commit)) (λ r s u h. let t = held_at (tips.IsTip stands r) all number tip e h in (t.commit, t.place)) sound order

    pub next_tip : (all : List Tip) (number : ℕ) (tip : Tip) (old new : List Ranked) → slice_get all number ≡ Some tip → IfSome told (HoldFirst stands all number old)
        → IfSome told (λ r. Lowers stands (reaches (commit_at r tip.commit)) number old new r) → IfSome told (HoldFirst stands all (number + 1) new)
    next_tip all number tip old new e =
        follows_two told (HoldFirst stands all number old) (λ r. Lowers stands (reaches (commit_at r tip.commit)) number old new r) (HoldFirst stands all (number + 1) new)
        (λ r s u. hold_next stands all number tip old new r e) sound order

    pub all_tips : (all : List Tip) (number : ℕ) (front : List Ranked) → length all ≤ number → IfSome told (HoldFirst stands all number front) → IfSome told (λ r. HoldTips stands all r front)
    all_tips all number front l = follows told (HoldFirst stands all number front) (λ r. HoldTips stands all r front) (λ r s u. hold_all stands all number front r l) sound order

    -- ---- commits

    pub no_rank_yet : (first : List Ranked) (count : ℕ) (names : List Name) (ranks : List ℕ) → ranks ≡ [] → IfSome told (AreRanked stands first) → IfSome told (RanksFirst stands first count names 0 first ranks)
    no_rank_yet first count names ranks e =
        follows told (AreRanked stands first) (RanksFirst stands first count names 0 first ranks) (λ r s u a. subst (λ xs. RanksFirst stands first count names 0 first xs r) (sym e) (ranks_none stands first count names r a)) sound order

    pub ranked_still : (first : List Ranked) (count : ℕ) (names : List Name) (number : ℕ) (now : List Ranked) (ranks : List ℕ) → IfSome told (RanksFirst stands first count names number now ranks) → IfSome told (AreRanked stands now)
    ranked_still first count names number now ranks = follows told (RanksFirst stands first count names number now ranks) (AreRanked stands now) (λ r s u w. w.ranked) sound order

    pub commit_is_held : (names : List Name) (number : ℕ) (commit : Name) → slice_get names number ≡ Some commit → IfSome told (AreNewestFirst names) → IfSome told (λ r. IsHeldAs kinds.Commit r commit)
    commit_is_held names number commit e =
        follows told (AreNewestFirst names) (λ r. IsHeldAs kinds.Commit r commit) (λ r s u h. held_at (IsHeldAs kinds.Commit r) names number commit e h.commits) sound order

    pub next_rank : (first : List Ranked) (count : ℕ) (names : List Name) (number : ℕ) (commit : Name) (place rank : ℕ) (now new : List Ranked) (ranks more : List ℕ)
        → slice_get names number ≡ Some commit → AreBelow (suc place) (all_unranked new) → rank ≡ rank_there new place count → more ≡ ranks ++ rank ∷ []
        → IfSome told (AreNewestFirst names) → IfSome told (λ r. StandsThere stands commit.bytes r (Some place)) → IfSome told (HandsDown stands place now new)
        → IfSome told (RanksFirst stands first count names number now ranks) → IfSome told (RanksFirst stands first count names (number + 1) new more)
    next_rank first count names number commit place rank now new ranks more e b f m newest there down was =
        follows_two told (λ r. AreNewestFirst names r × StandsThere stands commit.bytes r (Some place)) (λ r. HandsDown stands place now new r × RanksFirst stands first count names number now ranks r)
        (RanksFirst stands first count names (number + 1) new more)
        (λ r s u p q. ranks_next name namer r s stands u first count names number commit place now new ranks more e (held_at (IsHeldAs kinds.Commit r) names number commit e p.0.commits, p.1) p.0 q.0 b (m ∙ ap (λ k. ranks ++ k ∷ []) f) q.1)
        sound order (together told (AreNewestFirst names) (λ r. StandsThere stands commit.bytes r (Some place)) newest there)
        (together told (HandsDown stands place now new) (RanksFirst stands first count names number now ranks) down was)

    pub all_ranks : (first : List Ranked) (count : ℕ) (names : List Name) (number : ℕ) (now : List Ranked) (ranks : List ℕ) → length names ≤ number
        → IfSome told (RanksFirst stands first count names number now ranks) → IfSome told (λ r. AreRanks first count names r ranks)
    all_ranks first count names number now ranks l =
        follows told (RanksFirst stands first count names number now ranks) (λ r. AreRanks first count names r ranks) (λ r s u. ranks_all stands first count names number now ranks r l) sound order

    -- ---- branches

    pub candidates_are_tips : (refs all : List Tip) → all ≡ candidates refs → IfSome told (tips.AreTips stands refs) → IfSome told (tips.AreTips stands all)
    candidates_are_tips refs all e =
        follows told (tips.AreTips stands refs) (tips.AreTips stands all) (λ r s u t. subst (λ ts. tips.AreTips stands ts r) (sym e) (candidates_hold (tips.IsTip stands r) refs t)) sound order

    pub ranked_by_tips : (all : List Tip) (front : List Ranked) → IfSome told (λ r. HoldTips stands all r front) → IfSome told (AreRanked stands front)
    ranked_by_tips all front = follows told (λ r. HoldTips stands all r front) (AreRanked stands front) (λ r s u h. h.ranked) sound order

    pub are_found : {A : Type 0} (refs all : List Tip) (sent : List Name) (front : List Ranked) (count : ℕ) (branches : Branches A) → all ≡ candidates refs → branches.candidates.items ≡ candidates refs → count ≡ length (candidates refs)
        → IfSome told (tips.AreTips stands refs) → IfSome told (λ r. HoldTips stands all r front) → IfSome told (λ r. AreRanks front count sent r branches.ranks.items) → IfSome told (λ r. FindsBranches refs sent r branches)
    are_found refs all sent front count branches f e n t h =
        follows_two told (λ r. tips.AreTips stands refs r × HoldTips stands all r front) (λ r. AreRanks front count sent r branches.ranks.items) (λ r. FindsBranches refs sent r branches)
        (λ r s u p a. finds stands r refs sent front count branches e n p.0 (subst (λ ts. HoldTips stands ts r front) f p.1) a) sound order (together told (tips.AreTips stands refs) (λ r. HoldTips stands all r front) t h)
