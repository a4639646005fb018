-- What a walk still lists, as it goes on commit by commit.
use Rattle.std.proofs.Common.{◌≡◌, ℕ, zero, suc, ◌-◌, ◌<◌, ◌≤◌, Bool, true, false, cond, refl, sym, ap, subst, ◌∙◌, arith, List, [], ◌∷◌, ◌++◌, map, take, drop, length, Option, Some, None, Result, Ok, Err, inl, inr, append_assoc, append-nil}
use Rattle.std.specs.Prelude.{IsTrue, IfSome, ◌&&◌, nat_eq, not}
use Rattle.std.specs.List.{slice_get}
use Rattle.std.specs.declared.vec.Vec.{Vec}
use Rattle.std.specs.Option.{option_map}
use Rattle.std.proofs.lemmas.Bool.Decides.{nat_tests}
use Rattle.std.proofs.lemmas.List.{drop_all, map-append}
use Rattle.gx_model.specs.declared.objects.Kind.{Kind}
use Rattle.gx_model.specs.declared.objects.Kind.TheVariants as kinds
use Rattle.gx_model.specs.Histories.{Records}
use Rattle.gx_model.specs.Histories.Values.{Commit, Value, blob_value, commit_value, tag_value, tree_value}
use Rattle.gx_model.specs.Laws.RepositoryLaws.{values_of}
use Rattle.gx_model.specs.Objects.{IsNamer}
use Rattle.gx_model.specs.Records.HistoryOf.{history_of}
use Rattle.gx_model.specs.Records.Sound.{IsSound}
use Rattle.gx_model.specs.Revisions.{RangeWord}
use Rattle.gx_model.specs.Revisions.Ranges.{some_reaches}
use Rattle.gx_model.specs.Texts.{Bytes}
use Rattle.gx_object.specs.declared.name.Name.{Name}
use Rattle.gx_objects.specs.Answers.{Tells}
use Rattle.gx_objects.specs.declared.fault.LookFault.{LookFault}
use Rattle.gx_questions.specs.Objects.{IsCommitAt}
use Rattle.gx_rev.specs.Objects.{IsHeldAs, commit_at, parents_at}
use Rattle.gx_print.specs.Logs.{AreCommits, commits_logged, limited}
use Rattle.gx_ranges.specs.Answers.{AreLogged}
use Rattle.gx_ranges.specs.Fronts.{Adds, AreBelow, AreTips, IsTip, lead_to}
use Rattle.gx_ranges.specs.Listings.{AreAllNames, AreReached, AreTipsOf, Listed, ListsNext, StillLists, is_done}
use Rattle.gx_ranges.specs.Walks.{FindsNext, IsWalk, passing_from}
use Rattle.gx_ranges.specs.declared.walking.CommitWalk.{CommitWalk}
use Rattle.gx_ranges.proofs.Reached.{true_or_false}
use Rattle.gx_ranges.proofs.Steps.{StandsInOrder}
use Rattle.gx_ranges.proofs.Tips.{all_last}
use Rattle.gx_ranges.proofs.Walks.{begins, drop_none, if_passing, passing, passing_first, passing_later, tells}

abbrev Tip : Type 0
Tip = ℕ × Name

-- ---- one test above a number, and another below it

module _ (f g : Commit → Bool) where
  same_if : (v : Value) → ((c : Commit) → v ≡ commit_value c → f c ≡ g c) → if_passing f v ≡ if_passing g v
  same_if (blob_value x) h = refl
  same_if (tree_value x) h = refl
  same_if (tag_value x) h = refl
  same_if (commit_value c) h = ap (λ b. cond b (c ∷ []) []) (h c refl)

  none_pass : (vs : List Value) → ((i : ℕ) (c : Commit) → slice_get vs i ≡ Some (commit_value c) → g c ≡ false) → passing g vs ≡ []
  none_pass vs h =
      passing_later g vs (length vs) (λ i c l e p. let x : false ≡ true = sym (h i c e) ∙ p in cc x) ∙ ap (passing g) (drop_all (length vs) vs (omega arith))

  same_below : (vs : List Value) (n : ℕ) (told : List Commit) → told ≡ passing f (drop n vs) → ((i : ℕ) (c : Commit) → i < n → slice_get vs i ≡ Some (commit_value c) → f c ≡ g c)
      → ((i : ℕ) (c : Commit) → n ≤ i → slice_get vs i ≡ Some (commit_value c) → g c ≡ false) → passing f vs ≡ told ++ passing g vs
  same_below [] n told e h k = sym (append-nil told ∙ e ∙ ap (passing f) (drop_none n))
  same_below (v ∷ vs) zero told e h k =
      sym (ap (λ cs. told ++ cs) (none_pass (v ∷ vs) (λ i c q. k i c (omega arith) q)) ∙ append-nil told ∙ e)
  same_below (v ∷ vs) (suc n) told e h k =
      passing_first f v vs
      ∙ ap (λ cs. cs ++ if_passing f v) (same_below vs n told e (λ i c l q. h (suc i) c (omega (arith, l)) q) (λ i c l q. k (suc i) c (omega (arith, l)) q))
      ∙ append_assoc told (passing g vs) (if_passing f v)
      ∙ ap (λ cs. told ++ (passing g vs ++ cs)) (same_if v (λ c q. h 0 c (omega arith) (ap Some q)))
      ∙ ap (λ cs. told ++ cs) (sym (passing_first g v vs))

both_pass : (a b x y : Bool) → x ≡ y → (IsTrue a → y ≡ false → IsTrue b) → (IsTrue b → IsTrue a) → (a && not x) ≡ (b && not y)
both_pass true true x y e f g = ap not e
both_pass false false x y e f g = refl
both_pass true false x true e f g = ap not e
both_pass true false x false e f g = absurd (let l : false ≡ true = f refl refl in cc l)
both_pass false true x y e f g = absurd (let l : false ≡ true = g refl in cc l)

-- what passes is what was told, and then what a walk leads to
lists_rest : (r : Records) (stands : ℕ → ℕ) (included excluded : Commit → Bool) (wanted unwanted : List Tip) (told : List Commit) (number : ℕ) → IsWalk stands included excluded wanted unwanted told number r
    → passing_from r included excluded 0 ≡ told ++ passing_from r (lead_to r wanted) (lead_to r unwanted) 0
lists_rest r stands included excluded wanted unwanted told number w =
    same_below (λ c. included c && not (excluded c)) (λ c. lead_to r wanted c && not (lead_to r unwanted c)) (values_of r) number told w.told
    (λ i c l e. both_pass (included c) (lead_to r wanted c) (excluded c) (lead_to r unwanted c) (w.excludes i c e l)
    (λ t k. elim (w.includes i c e l t) [ inl a ↦ a | inr a ↦ absurd (let x : false ≡ true = sym k ∙ a in cc x) ]) (w.only c))
    (λ i c l e. elim (true_or_false (lead_to r wanted c)) [
      | inl t ↦ absurd (let m = w.below i c e t in omega (arith, l, m))
      | inr t ↦ ap (λ b. b && not (lead_to r unwanted c)) t
    ])

-- ---- so many at most

first_limited : (left : Option ℕ) (commits rest : List Commit) (c : Commit) → is_done left ≡ false → commits ≡ limited left (c ∷ rest) → commits ≡ c ∷ limited (option_map (λ n. n - 1) left) rest
first_limited None commits rest c d e = e
first_limited (Some zero) commits rest c d e = absurd (cc d)
first_limited (Some (suc n)) commits rest c d e = e ∙ ap (λ k. c ∷ take k rest) (let l : n ≡ suc n - 1 = omega arith in l)

none_limited : (left : Option ℕ) (commits all : List Commit) → all ≡ [] → commits ≡ limited left all → commits ≡ []
none_limited left commits all n e = e ∙ ap (limited left) n ∙ by left
  where
    by : (left : Option ℕ) → ◌≡◌ {A = List Commit} (limited left []) []
    by None = refl
    by (Some zero) = refl
    by (Some (suc n)) = refl

done_limited : (left : Option ℕ) (commits all : List Commit) → is_done left ≡ true → commits ≡ limited left all → commits ≡ []
done_limited None commits all d e = absurd (cc d)
done_limited (Some n) commits all d e = e ∙ ap (λ k. take k all) (none_left n d)
  where
    none_left : (n : ℕ) → nat_eq n 0 ≡ true → n ≡ 0
    none_left n h = grind (arith, nat_tests)

-- ---- the walk

-- a walk whose tips are held lists what they lead to
abbrev pub still_listed : {A : Type 0} → Records → CommitWalk A → List Commit
still_listed r walk = limited walk.left (passing_from r (lead_to r walk.wanted.entries) (lead_to r walk.unwanted.entries) 0)

pub lists_some : {A : Type 0} (stands : ℕ → ℕ) (r : Records) (walk : CommitWalk A) → AreTipsOf stands r walk → StillLists stands r walk (still_listed r walk)
lists_some stands r walk t = record { tips = t; lists = refl }

pub wanted_tips : {A : Type 0} (stands : ℕ → ℕ) (told : Option Records) (walk : CommitWalk A) → IfSome told (λ r. AreTipsOf stands r walk) → IfSome told (AreTips stands walk.wanted.entries)
wanted_tips stands None walk t = tt
wanted_tips stands (Some r) walk t = t.wanted

pub unwanted_tips : {A : Type 0} (stands : ℕ → ℕ) (told : Option Records) (walk : CommitWalk A) → IfSome told (λ r. AreTipsOf stands r walk) → IfSome told (AreTips stands walk.unwanted.entries)
unwanted_tips stands None walk t = tt
unwanted_tips stands (Some r) walk t = t.unwanted

-- where nothing more may come, nothing does
pub done_lists : {A : Type 0} (name : Kind → Bytes → Bytes) (stands : ℕ → ℕ) (told : Option Records) (old : CommitWalk A) → is_done old.left ≡ true → IfSome told (λ r. ListsNext name stands old old r None)
done_lists name stands None old d = tt
done_lists name stands (Some r) old d = λ commits s. done_limited old.left commits _ d s.lists

module _ {A : Type 0} (name : Kind → Bytes → Bytes) (namer : IsNamer name) (stands : ℕ → ℕ) (old : CommitWalk A) (rest unwanted : List Tip) where
  abbrev Finds : Option Tip → Records → Type 0
  Finds found r = FindsNext stands old.wanted.entries old.unwanted.entries rest unwanted r found

  -- nothing more comes
  pub none_lists : (new : CommitWalk A) (told : Option Records) → IfSome told (IsSound name) → IfSome told (StandsInOrder stands) → IfSome told (λ r. AreTipsOf stands r old) → IfSome told (Finds None) → IfSome told (λ r. ListsNext name stands old new r None)
  none_lists new None s o t f = tt
  none_lists new (Some r) s o t f = λ commits l.
      let begun = begins name namer r s stands o old.wanted.entries old.unwanted.entries t.wanted t.unwanted in
      let all = f (lead_to r old.wanted.entries) (lead_to r old.unwanted.entries) [] (length (values_of r)) begun in
      none_limited old.left commits _ (sym all) l.lists

  module _ (last : Tip) where
    -- the next one is held, and stands at its place; so do those that are left
    next_tips : (r : Records) → IsSound name r → StandsInOrder stands r → AreTipsOf stands r old → Finds (Some last) r → AreTips stands rest r × IsTip stands r last
    next_tips r s o t f =
        let begun = begins name namer r s stands o old.wanted.entries old.unwanted.entries t.wanted t.unwanted in
        let n = f (lead_to r old.wanted.entries) (lead_to r old.unwanted.entries) [] (length (values_of r)) begun in
        all_last (IsTip stands r) rest last n.3.wanted_tips

    pub next_tip : (told : Option Records) → IfSome told (IsSound name) → IfSome told (StandsInOrder stands) → IfSome told (λ r. AreTipsOf stands r old) → IfSome told (Finds (Some last)) → IfSome told (λ r. IsTip stands r last)
    next_tip None s o t f = tt
    next_tip (Some r) s o t f = (next_tips r s o t f).1

    pub rest_tips : (told : Option Records) → IfSome told (IsSound name) → IfSome told (StandsInOrder stands) → IfSome told (λ r. AreTipsOf stands r old) → IfSome told (Finds (Some last)) → IfSome told (AreTips stands rest)
    rest_tips None s o t f = tt
    rest_tips (Some r) s o t f = (next_tips r s o t f).0

    pub next_lists : (new : CommitWalk A) (listed : Listed) → listed.0 ≡ last.1 → new.unwanted.entries ≡ unwanted → new.left ≡ option_map (λ n. n - 1) old.left → is_done old.left ≡ false → AreBelow last.0 rest → AreBelow last.0 new.wanted.entries
        → (told : Option Records) → IfSome told (IsSound name) → IfSome told (StandsInOrder stands) → IfSome told (λ r. AreTipsOf stands r old) → IfSome told (Finds (Some last))
        → IfSome told (λ r. Adds stands (some_reaches (parents_at r last.1)) rest new.wanted.entries r) → IfSome told (λ r. IsCommitAt name last.1 r listed.1) → IfSome told (λ r. ListsNext name stands old new r (Some listed))
    next_lists new listed same kept left more low lower None s o t f adds is = tt
    next_lists new listed same kept left more low lower (Some r) s o t f adds is = λ commits l.
        let c = commit_at r last.1 in
        let begun = begins name namer r s stands o old.wanted.entries old.unwanted.entries t.wanted t.unwanted in
        let wanted = lead_to r old.wanted.entries in
        let excluded = lead_to r old.unwanted.entries in
        let n = f wanted excluded [] (length (values_of r)) begun in
        let w = tells name namer r s stands o wanted excluded (rest ++ last ∷ []) rest unwanted [] last (refl, low) n.0 n.1 n.2 new.wanted.entries n.4 lower adds n.3 in
        let walked = subst (λ us. IsWalk stands wanted excluded new.wanted.entries us (c ∷ []) n.0 r) (sym kept) w in
        let all : passing_from r wanted excluded 0 ≡ c ∷ passing_from r (lead_to r new.wanted.entries) (lead_to r new.unwanted.entries) 0 =
        lists_rest r stands wanted excluded new.wanted.entries new.unwanted.entries (c ∷ []) n.0 walked in
        let head = first_limited old.left commits _ c more (l.lists ∙ ap (limited old.left) all) in
        let tip = (all_last (IsTip stands r) rest last n.3.wanted_tips).1 in
        record {
          rest = limited new.left (passing_from r (lead_to r new.wanted.entries) (lead_to r new.unwanted.entries) 0);
          first = head ∙ (λ i. commit_at r (sym same i) ∷ limited (sym left i) (passing_from r (lead_to r new.wanted.entries) (lead_to r new.unwanted.entries) 0));
          held = subst (IsHeldAs kinds.Commit r) (sym same) tip.0;
          is = subst (λ called. IsCommitAt name called r listed.1) (sym same) is;
          still = record {
            tips = record { wanted = adds.tips; unwanted = walked.unwanted_tips };
            lists = refl;
          };
        }

-- ---- all names

-- of the commits that a walk lists these were given, and it still lists the others
pub record AreNamed {A : Type 0} (stands : ℕ → ℕ) (walk : CommitWalk A) (names : List Name) (commits : List Commit) (r : Records) : Type 0 where
  pub rest : List Commit
  pub first : commits ≡ map (commit_at r) names ++ rest
  pub held : AreCommits r names
  pub still : StillLists stands r walk rest

module _ {A : Type 0} (stands : ℕ → ℕ) (old : CommitWalk A) where
  -- whatever a walk lists, these are the first of it
  abbrev pub NamesFirst : CommitWalk A → List Name → Records → Type 0
  NamesFirst now names r = AreTipsOf stands r old × ((commits : List Commit) → StillLists stands r old commits → AreNamed stands now names commits r)

  pub none_named : (told : Option Records) (names : List Name) → names ≡ [] → IfSome told (λ r. AreTipsOf stands r old) → IfSome told (NamesFirst old names)
  none_named None names e t = tt
  none_named (Some r) names e t = (
    t,
    λ commits l. subst (λ ns. AreNamed stands old ns commits r) (sym e) (record { rest = commits; first = refl; held = tt; still = l }),
  )

  pub tips_now : (told : Option Records) (now : CommitWalk A) (names : List Name) → IfSome told (NamesFirst now names) → IfSome told (λ r. AreTipsOf stands r now)
  tips_now None now names h = tt
  tips_now (Some r) now names h = (h.1 (still_listed r old) (lists_some stands r old h.0)).still.tips

  pub one_named : (name : Kind → Bytes → Bytes) (told : Option Records) (now new : CommitWalk A) (names more : List Name) (listed : Listed) → more ≡ names ++ listed.0 ∷ [] → IfSome told (NamesFirst now names) → IfSome told (λ r. ListsNext name stands now new r (Some listed))
      → IfSome told (NamesFirst new more)
  one_named name None now new names more listed e h f = tt
  one_named name (Some r) now new names more listed e h f = (
    h.0,
    λ commits l.
        let n = h.1 commits l in
        let g = f n.rest n.still in
        subst (λ ns. AreNamed stands new ns commits r) (sym e) (record {
          rest = g.rest;
          first = n.first ∙ ap (λ cs. map (commit_at r) names ++ cs) g.first ∙ sym (append_assoc (map (commit_at r) names) (commit_at r listed.0 ∷ []) g.rest)
              ∙ ap (λ cs. cs ++ g.rest) (sym (map-append (commit_at r) names (listed.0 ∷ [])));
          held = all_held names n.held g.held;
          still = g.still;
        }),
  )
    where
      all_held : (names : List Name) → AreCommits r names → IsHeldAs kinds.Commit r listed.0 → AreCommits r (names ++ listed.0 ∷ [])
      all_held [] h k = (k, tt)
      all_held (n ∷ ns) h k = (h.0, all_held ns h.1 k)

  pub all_named : (name : Kind → Bytes → Bytes) (told : Option Records) (now new : CommitWalk A) (names : List Name) → IfSome told (NamesFirst now names) → IfSome told (λ r. ListsNext name stands now new r None) → IfSome told (λ r. AreAllNames stands old r names)
  all_named name None now new names h f = tt
  all_named name (Some r) now new names h f = λ commits l.
      let n = h.1 commits l in
      (n.first ∙ ap (λ cs. map (commit_at r) names ++ cs) (f n.rest n.still) ∙ append-nil (map (commit_at r) names), n.held)

-- ---- two fronts

pub fronts_tips : {A : Type 0} (stands : ℕ → ℕ) (told : Option Records) (walk : CommitWalk A) → IfSome told (AreTips stands walk.wanted.entries) → IfSome told (AreTips stands walk.unwanted.entries) → IfSome told (λ r. AreTipsOf stands r walk)
fronts_tips stands None walk t u = tt
fronts_tips stands (Some r) walk t u = record { wanted = t; unwanted = u }

-- what a walk from them lists, without a limit
pub fronts_listed : {A : Type 0} (stands : ℕ → ℕ) (told : Option Records) (walk : CommitWalk A) (result : Result (Vec Name A) LookFault) → walk.left ≡ None → IfSome told (λ r. AreTipsOf stands r walk)
    → Tells told (λ r names. AreAllNames stands walk r names.items) result → Tells told (λ r names. AreReached walk.wanted.entries walk.unwanted.entries r names.items) result
fronts_listed stands None walk result e t h = tt
fronts_listed stands (Some r) walk (Err f) e t h = tt
fronts_listed stands (Some r) walk (Ok names) e t h =
    let n = h (still_listed r walk) (lists_some stands r walk t) in
    record { commits = sym n.0 ∙ ap (λ left. limited left (passing_from r (lead_to r walk.wanted.entries) (lead_to r walk.unwanted.entries) 0)) e; held = n.1 }

-- ---- what is logged

-- its names
pub names_logged : {A : Type 0} (name : Kind → Bytes → Bytes) (stands : ℕ → ℕ) (told : Option Records) (asked : List RangeWord) (refs : Bool) (most : Option ℕ) (walk : CommitWalk A) (names : List Name)
    → IfSome told (λ r. (commits : List Commit) × (commits_logged name (history_of r) refs asked ≡ Ok commits) × StillLists stands r walk (limited most commits)) → IfSome told (λ r. AreAllNames stands walk r names)
    → IfSome told (λ r. AreLogged most r (commits_logged name (history_of r) refs asked) names)
names_logged name stands None asked refs most walk names b h = tt
names_logged name stands (Some r) asked refs most walk names b h = let n = h (limited most b.0) b.2 in ((b.0, b.1, sym n.0), n.1)

-- a walk that begins with the commits that are logged
pub begun_tips : {A : Type 0} (name : Kind → Bytes → Bytes) (stands : ℕ → ℕ) (told : Option Records) (asked : List RangeWord) (refs : Bool) (most : Option ℕ) (walk : CommitWalk A)
    → IfSome told (λ r. (commits : List Commit) × (commits_logged name (history_of r) refs asked ≡ Ok commits) × StillLists stands r walk (limited most commits)) → IfSome told (λ r. AreTipsOf stands r walk)
begun_tips name stands None asked refs most walk b = tt
begun_tips name stands (Some r) asked refs most walk b = b.2.tips
