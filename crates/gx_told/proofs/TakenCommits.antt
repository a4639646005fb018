-- Which of the commits that a walk lists are still to be taken, commit by commit.
use Rattle.std.proofs.Common.{◌≡◌, ◌∙◌, ◌+◌, ◌-◌, ℕ, zero, suc, Bool, true, false, refl, sym, ap, subst, List, [], ◌∷◌, ◌++◌, map, length, take, drop, Option, Some, None, append_assoc, append-nil, arith}
use Rattle.std.specs.Prelude.{IfSome, cond, nat_eq, nat_lt}
use Rattle.std.specs.List.{filter}
use Rattle.std.specs.Option.{option_map}
use Rattle.std.proofs.lemmas.Bool.Decides.{nat_tests}
use Rattle.std.proofs.lemmas.List.{map-append}
use Rattle.gx_model.specs.declared.objects.Kind.{Kind}
use Rattle.gx_model.specs.declared.objects.Kind.TheVariants as kinds
use Rattle.gx_model.specs.Histories.{Records}
use Rattle.gx_model.specs.Histories.Values.{Commit}
use Rattle.gx_model.specs.Texts.{Bytes}
use Rattle.gx_object.specs.declared.name.Name.{Name}
use Rattle.gx_asks.specs.declared.question.CommitFilter.{CommitFilter}
use Rattle.gx_print.specs.Choices.{keeps}
use Rattle.gx_print.specs.Logs.{AreCommits, limited, skipped}
use Rattle.gx_questions.specs.Objects.{IsCommitAt}
use Rattle.gx_ranges.specs.Fronts.{lead_to}
use Rattle.gx_ranges.specs.Listings.{AreTipsOf, IsListedFirst, Listed, ListsNext, is_done}
use Rattle.gx_ranges.specs.Walks.{passing_from}
use Rattle.gx_ranges.specs.declared.walking.CommitWalk.{CommitWalk}
use Rattle.gx_rev.specs.Objects.{IsHeldAs, commit_at}
use Rattle.gx_told.specs.Choosing.{AreSoMany, AreTaken, StillTakes, Takes, counted, skips, taken_of}
use Rattle.gx_told.specs.declared.log.choices.Choice.{Choice}
use Rattle.gx_told.proofs.Tellings.{each_told, map_told}

-- ---- one commit more

-- those that are passed over, and those that are taken of these
abbrev left_of : Option ℕ → Option ℕ → List Commit → List Commit
left_of skip left commits = limited left (skipped skip commits)

one_less : (n : ℕ) → n ≡ suc n - 1
one_less n = omega arith

module _ (name : Kind → Bytes → Bytes) (made : Commit) (others : List Commit) where
  -- one that isn't kept
  pub left_out : (choice : Choice) → keeps name choice.only made ≡ false → taken_of name choice (made ∷ others) ≡ taken_of name choice others
  left_out choice e = ap (λ b. left_of choice.skip choice.left (cond b (made ∷ filter (keeps name choice.only) others) (filter (keeps name choice.only) others))) e

  -- one that is kept comes first
  kept_first : (choice : Choice) → keeps name choice.only made ≡ true → taken_of name choice (made ∷ others) ≡ left_of choice.skip choice.left (made ∷ filter (keeps name choice.only) others)
  kept_first choice e = ap (λ b. left_of choice.skip choice.left (cond b (made ∷ filter (keeps name choice.only) others) (filter (keeps name choice.only) others))) e

  -- it is passed over
  over_one : (skip left : Option ℕ) (xs : List Commit) → skips skip ≡ true → left_of skip left (made ∷ xs) ≡ left_of (option_map (λ n. n - 1) skip) left xs
  over_one None left xs e = absurd (cc e)
  over_one (Some zero) left xs e = absurd (cc e)
  over_one (Some (suc n)) left xs e = ap (λ k. limited left (drop k xs)) (one_less n)

  -- it is taken
  one_of : (skip left : Option ℕ) (xs : List Commit) → skips skip ≡ false → is_done left ≡ false → left_of skip left (made ∷ xs) ≡ made ∷ left_of skip (option_map (λ n. n - 1) left) xs
  one_of skip (Some zero) xs e d = absurd (cc d)
  one_of (Some (suc n)) left xs e d =
      let more : nat_lt 0 (suc n) ≡ true = grind (arith, nat_tests) in
      let no : false ≡ true = sym e ∙ more in
      absurd (cc no)
  one_of None None xs e d = refl
  one_of None (Some (suc m)) xs e d = ap (λ k. made ∷ take k xs) (one_less m)
  one_of (Some zero) None xs e d = refl
  one_of (Some zero) (Some (suc m)) xs e d = ap (λ k. made ∷ take k xs) (one_less m)

  pub passed_over : (only : CommitFilter) (skip left : Option ℕ) → keeps name only made ≡ true → skips skip ≡ true
      → taken_of name (record { only = only; skip = skip; left = left }) (made ∷ others) ≡ taken_of name (record { only = only; skip = option_map (λ n. n - 1) skip; left = left }) others
  passed_over only skip left e s = kept_first (record { only = only; skip = skip; left = left }) e ∙ over_one skip left (filter (keeps name only) others) s

  pub taken_first : (only : CommitFilter) (skip left : Option ℕ) → keeps name only made ≡ true → skips skip ≡ false → is_done left ≡ false
      → taken_of name (record { only = only; skip = skip; left = left }) (made ∷ others) ≡ made ∷ taken_of name (record { only = only; skip = skip; left = option_map (λ n. n - 1) left }) others
  taken_first only skip left e s d = kept_first (record { only = only; skip = skip; left = left }) e ∙ one_of skip left (filter (keeps name only) others) s d

-- where no more are taken, none is left
pub none_taken : (name : Kind → Bytes → Bytes) (choice : Choice) (xs : List Commit) → is_done choice.left ≡ true → taken_of name choice xs ≡ []
none_taken name choice xs e = by choice.left e
  where
    none_left : (n : ℕ) → nat_eq n 0 ≡ true → n ≡ 0
    none_left n h = grind (arith, nat_tests)

    by : (left : Option ℕ) → is_done left ≡ true → limited left (skipped choice.skip (filter (keeps name choice.only) xs)) ≡ []
    by None d = absurd (cc d)
    by (Some n) d = ap (λ k. take k (skipped choice.skip (filter (keeps name choice.only) xs))) (none_left n d)

-- of none none is taken
pub taken_of_none : (name : Kind → Bytes → Bytes) (choice : Choice) → taken_of name choice [] ≡ []
taken_of_none name choice = by choice.skip choice.left
  where
    none : (left : Option ℕ) → left_of None left [] ≡ []
    none None = refl
    none (Some zero) = refl
    none (Some (suc n)) = refl

    by : (skip left : Option ℕ) → left_of skip left [] ≡ []
    by None left = none left
    by (Some zero) left = none left
    by (Some (suc n)) left = none left

-- ---- the steps of a walk

module _ {A : Type 0} (name : Kind → Bytes → Bytes) (stands : ℕ → ℕ) where
  -- what is taken first, and what is still taken then
  pub record IsTakenFirst (r : Records) (walk : CommitWalk A) (choice : Choice) (commits : List Commit) (listed : Listed) : Type 0 where
    pub rest : List Commit
    pub first : commits ≡ commit_at r listed.0 ∷ rest
    pub held : IsHeldAs kinds.Commit r listed.0
    pub is : IsCommitAt name listed.0 r listed.1
    pub still : StillTakes name stands r walk choice rest

  module _ (r : Records) (walk new : CommitWalk A) (choice next : Choice) (listed : Listed) (f : ListsNext name stands walk new r (Some listed)) (commits : List Commit) (s : StillTakes name stands r walk choice commits) where
    abbrev one : IsListedFirst name stands r new s.listed listed
    one = f s.listed s.still

    pub is_taken : Takes choice next listed.1.1 true → IsTakenFirst r new next commits listed
    is_taken t = record {
      rest = taken_of name next one.rest;
      first = s.taken ∙ ap (taken_of name choice) one.first ∙ t name (commit_at r listed.0) one.rest one.is.parts;
      held = one.held;
      is = one.is;
      still = record { listed = one.rest; still = one.still; taken = refl };
    }

    pub is_passed : Takes choice next listed.1.1 false → StillTakes name stands r new next commits
    is_passed t = record {
      listed = one.rest;
      still = one.still;
      taken = s.taken ∙ ap (taken_of name choice) one.first ∙ t name (commit_at r listed.0) one.rest one.is.parts;
    }

  module _ (r : Records) (walk : CommitWalk A) (choice : Choice) (commits : List Commit) (s : StillTakes name stands r walk choice commits) where
    -- no more are taken
    pub is_ended : is_done choice.left ≡ true → commits ≡ []
    is_ended e = s.taken ∙ none_taken name choice s.listed e

    -- no more are listed
    pub is_empty : (new : CommitWalk A) → ListsNext name stands walk new r None → commits ≡ []
    is_empty new f = s.taken ∙ ap (taken_of name choice) (f s.listed s.still) ∙ taken_of_none name choice

  -- some commits are still to be taken
  abbrev pub some_taken : Records → CommitWalk A → Choice → List Commit
  some_taken r walk choice = taken_of name choice (limited walk.left (passing_from r (lead_to r walk.wanted.entries) (lead_to r walk.unwanted.entries) 0))

  pub takes_some : (r : Records) (walk : CommitWalk A) (choice : Choice) → AreTipsOf stands r walk → StillTakes name stands r walk choice (some_taken r walk choice)
  takes_some r walk choice t =
      record { listed = limited walk.left (passing_from r (lead_to r walk.wanted.entries) (lead_to r walk.unwanted.entries) 0); still = record { tips = t; lists = refl }; taken = refl }

-- ---- a walk that goes on

module _ {A : Type 0} (name : Kind → Bytes → Bytes) (stands : ℕ → ℕ) (old : CommitWalk A) (begun : Choice) where
  -- these are left of the commits that were to be taken, and so it is with both
  pub record Leaves (Q : List Commit → List Commit → Type 0) (walk : CommitWalk A) (choice : Choice) (commits : List Commit) (r : Records) : Type 0 where
    pub rest : List Commit
    pub still : StillTakes name stands r walk choice rest
    pub so : Q commits rest

  abbrev pub Leads : (Records → List Commit → List Commit → Type 0) → CommitWalk A → Choice → Records → Type 0
  Leads Q walk choice r = AreTipsOf stands r old × ((commits : List Commit) → StillTakes name stands r old begun commits → Leaves (Q r) walk choice commits r)

  module _ (Q : Records → List Commit → List Commit → Type 0) where
    pub leads_first : (told : Option Records) → ((r : Records) (commits : List Commit) → Q r commits commits) → IfSome told (λ r. AreTipsOf stands r old) → IfSome told (Leads Q old begun)
    leads_first None q t = tt
    leads_first (Some r) q t = (t, λ commits s. record { rest = commits; still = s; so = q r commits })

    pub leads_tips : (told : Option Records) (walk : CommitWalk A) (choice : Choice) → IfSome told (Leads Q walk choice) → IfSome told (λ r. AreTipsOf stands r walk)
    leads_tips None walk choice h = tt
    leads_tips (Some r) walk choice h = (h.1 (some_taken name stands r old begun) (takes_some name stands r old begun h.0)).still.still.tips

    -- one that is passed over
    pub leads_passed : (told : Option Records) (walk new : CommitWalk A) (choice next : Choice) (listed : Listed) → Takes choice next listed.1.1 false → IfSome told (Leads Q walk choice)
        → IfSome told (λ r. ListsNext name stands walk new r (Some listed)) → IfSome told (Leads Q new next)
    leads_passed None walk new choice next listed t h f = tt
    leads_passed (Some r) walk new choice next listed t h f = (
      h.0,
      λ commits s.
          let l = h.1 commits s in
          record { rest = l.rest; still = is_passed name stands r walk new choice next listed f l.rest l.still t; so = l.so },
    )

    -- the commit that is taken next
    abbrev pub FoundFirst : CommitWalk A → Choice → Listed → Records → Type 0
    FoundFirst new next listed r = (commits : List Commit) → StillTakes name stands r old begun commits
        → (rest : List Commit) × StillTakes name stands r new next rest × IsHeldAs kinds.Commit r listed.0 × IsCommitAt name listed.0 r listed.1 × Q r commits (commit_at r listed.0 ∷ rest)

    pub leads_found : (told : Option Records) (walk new : CommitWalk A) (choice next : Choice) (listed : Listed) → Takes choice next listed.1.1 true → IfSome told (Leads Q walk choice)
        → IfSome told (λ r. ListsNext name stands walk new r (Some listed)) → IfSome told (FoundFirst new next listed)
    leads_found None walk new choice next listed t h f = tt
    leads_found (Some r) walk new choice next listed t h f = λ commits s.
        let l = h.1 commits s in
        let k = is_taken name stands r walk new choice next listed f l.rest l.still t in
        (k.rest, k.still, k.held, k.is, subst (Q r commits) k.first l.so)

    -- no more are taken
    pub leads_done : (told : Option Records) (walk : CommitWalk A) (choice : Choice) → is_done choice.left ≡ true → IfSome told (Leads Q walk choice)
        → IfSome told (λ r. (commits : List Commit) → StillTakes name stands r old begun commits → Q r commits [])
    leads_done None walk choice e h = tt
    leads_done (Some r) walk choice e h = λ commits s. let l = h.1 commits s in subst (Q r commits) (is_ended name stands r walk choice l.rest l.still e) l.so

    -- no more are listed
    pub leads_empty : (told : Option Records) (walk new : CommitWalk A) (choice : Choice) → IfSome told (Leads Q walk choice) → IfSome told (λ r. ListsNext name stands walk new r None)
        → IfSome told (λ r. (commits : List Commit) → StillTakes name stands r old begun commits → Q r commits [])
    leads_empty None walk new choice h f = tt
    leads_empty (Some r) walk new choice h f = λ commits s. let l = h.1 commits s in subst (Q r commits) (is_empty name stands r walk choice l.rest l.still new f) l.so

  -- one that is taken, and how it is with those behind it
  pub leads_on : (Q R : Records → List Commit → List Commit → Type 0) (told : Option Records) (walk new : CommitWalk A) (choice next : Choice) (listed : Listed) → Takes choice next listed.1.1 true → IfSome told (Leads Q walk choice)
      → IfSome told (λ r. ListsNext name stands walk new r (Some listed))
      → IfSome told (λ r. (commits rest : List Commit) → IsHeldAs kinds.Commit r listed.0 → IsCommitAt name listed.0 r listed.1 → Q r commits (commit_at r listed.0 ∷ rest) → R r commits rest)
      → IfSome told (Leads R new next)
  leads_on Q R None walk new choice next listed t h f g = tt
  leads_on Q R (Some r) walk new choice next listed t h f g = (
    h.0,
    λ commits s.
        let k = leads_found Q (Some r) walk new choice next listed t h f commits s in
        record { rest = k.0; still = k.1; so = g commits k.0 k.2 k.3 k.4 },
  )

-- ---- how many they are

-- so many were taken of these, and others are left
abbrev pub Counts : ℕ → Records → List Commit → List Commit → Type 0
Counts count r commits rest = count + length rest ≡ length commits

module _ {A : Type 0} (name : Kind → Bytes → Bytes) (stands : ℕ → ℕ) (old : CommitWalk A) (begun : Choice) where
  pub next_counted : (taken : Bool) (told : Option Records) (walk new : CommitWalk A) (choice next : Choice) (count more : ℕ) (listed : Listed) → more ≡ counted count taken → Takes choice next listed.1.1 taken
      → IfSome told (Leads name stands old begun (Counts count) walk choice) → IfSome told (λ r. ListsNext name stands walk new r (Some listed)) → IfSome told (Leads name stands old begun (Counts more) new next)
  next_counted true told walk new choice next count more listed e t h f =
      leads_on name stands old begun (Counts count) (Counts more) told walk new choice next listed t h f
      (each_told told _ (λ r commits rest held is q. let m : more ≡ suc count = e in let n : count + suc (length rest) ≡ length commits = q in omega (arith, m, n)))
  next_counted false told walk new choice next count more listed e t h f =
      subst (λ n. IfSome told (Leads name stands old begun (Counts n) new next)) (sym e) (leads_passed name stands old begun (Counts count) told walk new choice next listed t h f)

  pub all_counted : (told : Option Records) (count : ℕ) → IfSome told (λ r. (commits : List Commit) → StillTakes name stands r old begun commits → Counts count r commits [])
      → IfSome told (λ r. AreSoMany name stands old begun r count)
  all_counted told count = map_told told _ (λ r. AreSoMany name stands old begun r count) (λ r h commits s. let q : count + 0 ≡ length commits = h commits s in omega (arith, q))

-- ---- their names

-- these are the names of those that were taken, and others are left
abbrev pub Names : List Name → Records → List Commit → List Commit → Type 0
Names names r commits rest = (commits ≡ map (commit_at r) names ++ rest) × AreCommits r names

module _ {A : Type 0} (name : Kind → Bytes → Bytes) (stands : ℕ → ℕ) (old : CommitWalk A) (begun : Choice) where
  all_held : (r : Records) (n : Name) (names : List Name) → AreCommits r names → IsHeldAs kinds.Commit r n → AreCommits r (names ++ n ∷ [])
  all_held r n [] h k = (k, tt)
  all_held r n (m ∷ names) h k = (h.0, all_held r n names h.1 k)

  pub named_first : (told : Option Records) (names : List Name) → names ≡ [] → IfSome told (λ r. AreTipsOf stands r old) → IfSome told (Leads name stands old begun (Names names) old begun)
  named_first told names e t =
      subst (λ ns. IfSome told (Leads name stands old begun (Names ns) old begun)) (sym e) (leads_first name stands old begun (Names []) told (λ r commits. (refl, tt)) t)

  pub next_named : (told : Option Records) (walk new : CommitWalk A) (choice next : Choice) (names more : List Name) (listed : Listed) → more ≡ names ++ listed.0 ∷ [] → Takes choice next listed.1.1 true
      → IfSome told (Leads name stands old begun (Names names) walk choice) → IfSome told (λ r. ListsNext name stands walk new r (Some listed)) → IfSome told (Leads name stands old begun (Names more) new next)
  next_named told walk new choice next names more listed e t h f =
      leads_on name stands old begun (Names names) (Names more) told walk new choice next listed t h f
      (each_told told _ (λ r commits rest held is q. subst (λ ns. Names ns r commits rest) (sym e) (
        q.0 ∙ sym (append_assoc (map (commit_at r) names) (commit_at r listed.0 ∷ []) rest) ∙ ap (λ cs. cs ++ rest) (sym (map-append (commit_at r) names (listed.0 ∷ []))),
        all_held r listed.0 names q.1 held,
      )))

  pub all_named : (told : Option Records) (names : List Name) → IfSome told (λ r. (commits : List Commit) → StillTakes name stands r old begun commits → Names names r commits [])
      → IfSome told (λ r. AreTaken name stands old begun r names)
  all_named told names = map_told told _ (λ r. AreTaken name stands old begun r names) (λ r h commits s. let q = h commits s in (q.0 ∙ append-nil (map (commit_at r) names), q.1))
