-- What one word includes and excludes, from the commits that its revisions give.
use Rattle.std.proofs.Common.{◌≡◌, ℕ, ◌+◌, refl, sym, ap, subst, ◌∙◌, arith, List, [], ◌∷◌, ◌++◌, Option, Some, None, Ok, Err}
use Rattle.std.specs.Prelude.{IfSome, ◌||◌}
use Rattle.gx_model.specs.declared.faults.Fault.{Fault}
use Rattle.gx_model.specs.declared.objects.Kind.{Kind}
use Rattle.gx_model.specs.Faults.{Given, ◌>>=◌}
use Rattle.gx_model.specs.Histories.{Records}
use Rattle.gx_model.specs.Histories.Values.{Commit}
use Rattle.gx_model.specs.Laws.RangeLaws.{is_excluded}
use Rattle.gx_model.specs.Records.HistoryOf.{history_of}
use Rattle.gx_model.specs.Revisions.{RangeWord, Revision, AllParents, Alone, Apart, Between, WithAncestors, WithoutAncestors, WithoutOne}
use Rattle.gx_model.specs.Revisions.Denotation.{commit_denoted, nth_parent}
use Rattle.gx_model.specs.Revisions.Ranges.{Word, all_parents, alone, apart, between, reaches, some_reaches, span, with_ancestors, without_ancestors, without_one, word_denoted, words_denoted}
use Rattle.gx_model.specs.Texts.{Bytes}
use Rattle.gx_object.specs.declared.name.Name.{Name}
use Rattle.gx_objects.specs.declared.fault.LookFault.{LookFault}
use Rattle.gx_objects.specs.declared.fault.LookFault.TheVariants as look
use Rattle.gx_questions.specs.Answers.{Refuses, of_look}
use Rattle.gx_questions.specs.declared.fault.AskFault.{AskFault}
use Rattle.gx_questions.specs.declared.fault.AskFault.TheVariants.{OutOfMemory, ReadFailed, Damaged, Revision as Refused}
use Rattle.gx_rev.specs.Objects.{commit_at, parents_at}
use Rattle.gx_rev.specs.RevFaults.{fault_of}
use Rattle.gx_rev.specs.Walking.{is_included}
use Rattle.gx_rev.proofs.Listings.{AreRead, all_done, next_fails, none_read, word_done}
use Rattle.gx_ranges.specs.Answers.{RefusesWord, refused_at}
use Rattle.gx_ranges.specs.Fronts.{Adds, AreTips}
use Rattle.gx_ranges.specs.Walks.{reach_both}
use Rattle.gx_ranges.specs.Words.{AddsSpan}
use Rattle.gx_ranges.proofs.WordTips.{adds_both, adds_nothing, adds_same, word_more}

abbrev Tip : Type 0
Tip = ℕ × Name

-- what a look refuses
pub look_refuses : {X : Type 0} (told : Option Records) (given : Records → Given X) (fault : LookFault) → (fault ≡ look.Damaged → told ≡ None) → Refuses told given (of_look fault)
look_refuses told given look.OutOfMemory h = tt
look_refuses told given look.ReadFailed h = tt
look_refuses told given look.Damaged h = h refl

-- what the first revision refuses, the word does
pub fails_first : {X Y : Type 0} (told : Option Records) (given : Records → Given X) (next : Records → X → Given Y) (fault : AskFault) → Refuses told given fault → Refuses told (λ r. given r >>= next r) fault
fails_first told given next OutOfMemory h = tt
fails_first told given next ReadFailed h = tt
fails_first told given next Damaged h = h
fails_first None given next (Refused f) h = tt
fails_first (Some r) given next (Refused f) h = ap (λ g. g >>= next r) h

-- where the commits before it are given, what one refuses the word does
pub refuses_then : {X Y : Type 0} (told : Option Records) (P : Records → Type 0) (given : Records → Given X) (other : Records → Given Y) (fault : AskFault)
    → ((r : Records) (f : Fault) → P r → given r ≡ Err f → other r ≡ Err f) → IfSome told P → Refuses told given fault → Refuses told other fault
refuses_then told P given other OutOfMemory h p k = tt
refuses_then told P given other ReadFailed h p k = tt
refuses_then told P given other Damaged h p k = k
refuses_then None P given other (Refused f) h p k = tt
refuses_then (Some r) P given other (Refused f) h p k = h r (fault_of f) p k

-- a revision gives this commit
abbrev pub GivesCommit : (Kind → Bytes → Bytes) → Revision → Name → Records → Type 0
GivesCommit name revision called r = commit_denoted name (history_of r) revision ≡ Ok (commit_at r called)

module _ (name : Kind → Bytes → Bytes) (stands : ℕ → ℕ) where
  -- to one front come these commits
  abbrev pub AddsCommit : Name → List Tip → List Tip → Records → Type 0
  AddsCommit called old new r = Adds stands (reaches (commit_at r called)) old new r

  abbrev pub AddsParentsOf : Name → List Tip → List Tip → Records → Type 0
  AddsParentsOf called old new r = Adds stands (some_reaches (parents_at r called)) old new r

  abbrev pub IsSpan : RangeWord → List Tip × List Tip → List Tip × List Tip → Records → Type 0
  IsSpan asked old new r = (word : Word) × (word_denoted name (history_of r) asked ≡ Ok word) × AddsSpan stands word old new r

  one_given : (revision : Revision) (called : Name) (r : Records) (f : Commit → Given Word) → GivesCommit name revision called r → (commit_denoted name (history_of r) revision >>= f) ≡ f (commit_at r called)
  one_given revision called r f e = ap (λ g. g >>= f) e

  pub span_with : (told : Option Records) (revision : Revision) (called : Name) (old new rest : List Tip) → IfSome told (GivesCommit name revision called) → IfSome told (AddsCommit called old new) → IfSome told (AreTips stands rest)
      → IfSome told (IsSpan (WithAncestors revision) (old, rest) (new, rest))
  span_with None revision called old new rest e a t = tt
  span_with (Some r) revision called old new rest e a t = (with_ancestors (commit_at r called), one_given revision called r (λ c. Ok (with_ancestors c)) e, record { included = a; excluded = adds_nothing stands rest r t })

  pub span_without : (told : Option Records) (revision : Revision) (called : Name) (old new rest : List Tip) → IfSome told (GivesCommit name revision called) → IfSome told (AddsCommit called old new) → IfSome told (AreTips stands rest)
      → IfSome told (IsSpan (WithoutAncestors revision) (rest, old) (rest, new))
  span_without None revision called old new rest e a t = tt
  span_without (Some r) revision called old new rest e a t = (without_ancestors (commit_at r called), one_given revision called r (λ c. Ok (without_ancestors c)) e, record { included = adds_nothing stands rest r t; excluded = a })

  pub span_between : (told : Option Records) (left right : Revision) (a b : Name) (old old_un new new_un : List Tip) → IfSome told (GivesCommit name left a) → IfSome told (GivesCommit name right b)
      → IfSome told (AddsCommit b old new) → IfSome told (AddsCommit a old_un new_un) → IfSome told (IsSpan (Between left right) (old, old_un) (new, new_un))
  span_between None left right a b old old_un new new_un e f p q = tt
  span_between (Some r) left right a b old old_un new new_un e f p q = (
    between (commit_at r a) (commit_at r b),
    one_given left a r (λ c. commit_denoted name (history_of r) right >>= λ d. Ok (between c d)) e ∙ one_given right b r (λ d. Ok (between (commit_at r a) d)) f,
    record { included = p; excluded = q },
  )

  pub span_apart : (told : Option Records) (left right : Revision) (a b : Name) (old now new old_un new_un : List Tip) → IfSome told (GivesCommit name left a) → IfSome told (GivesCommit name right b)
      → IfSome told (AddsCommit a old now) → IfSome told (AddsCommit b now new) → IfSome told (λ r. Adds stands (reach_both (commit_at r a) (commit_at r b)) old_un new_un r) → IfSome told (IsSpan (Apart left right) (old, old_un) (new, new_un))
  span_apart None left right a b old now new old_un new_un e f p q m = tt
  span_apart (Some r) left right a b old now new old_un new_un e f p q m = (
    apart (commit_at r a) (commit_at r b),
    one_given left a r (λ c. commit_denoted name (history_of r) right >>= λ d. Ok (apart c d)) e ∙ one_given right b r (λ d. Ok (apart (commit_at r a) d)) f,
    record { included = adds_both stands r (reaches (commit_at r a)) (reaches (commit_at r b)) old now new p q; excluded = m },
  )

  pub span_parents : (told : Option Records) (revision : Revision) (called : Name) (old new rest : List Tip) → IfSome told (GivesCommit name revision called) → IfSome told (AddsParentsOf called old new) → IfSome told (AreTips stands rest)
      → IfSome told (IsSpan (AllParents revision) (old, rest) (new, rest))
  span_parents None revision called old new rest e a t = tt
  span_parents (Some r) revision called old new rest e a t = (all_parents (commit_at r called), one_given revision called r (λ c. Ok (all_parents c)) e, record { included = a; excluded = adds_nothing stands rest r t })

  pub span_alone : (told : Option Records) (revision : Revision) (called : Name) (old old_un new new_un : List Tip) → IfSome told (GivesCommit name revision called) → IfSome told (AddsCommit called old new) → IfSome told (AddsParentsOf called old_un new_un)
      → IfSome told (IsSpan (Alone revision) (old, old_un) (new, new_un))
  span_alone None revision called old old_un new new_un e p q = tt
  span_alone (Some r) revision called old old_un new new_un e p q = (alone (commit_at r called), one_given revision called r (λ c. Ok (alone c)) e, record { included = p; excluded = q })

  pub span_without_one : (told : Option Records) (revision : Revision) (number : ℕ) (called parent : Name) (old old_un new new_un : List Tip) → IfSome told (GivesCommit name revision called) → IfSome told (λ r. nth_parent number (commit_at r called) ≡ Ok (commit_at r parent))
      → IfSome told (AddsCommit called old new) → IfSome told (AddsCommit parent old_un new_un) → IfSome told (IsSpan (WithoutOne revision number) (old, old_un) (new, new_un))
  span_without_one None revision number called parent old old_un new new_un e f p q = tt
  span_without_one (Some r) revision number called parent old old_un new new_un e f p q = (
    without_one (commit_at r called) (commit_at r parent),
    one_given revision called r (λ c. nth_parent number c >>= λ p. Ok (without_one c p)) e ∙ ap (λ g. g >>= λ p. Ok (without_one (commit_at r called) p)) f,
    record { included = p; excluded = q },
  )

-- ---- words one behind the other

module _ (name : Kind → Bytes → Bytes) (stands : ℕ → ℕ) (all : List RangeWord) where
  -- the first words are these, and their commits were added
  abbrev pub AreWordsAdded : List RangeWord → ℕ → List Tip → List Tip → Records → Type 0
  AreWordsAdded left count wanted unwanted r =
      (done : List Word) × AreRead (word_denoted name (history_of r)) all left count done × Adds stands (is_included done) [] wanted r × Adds stands (is_excluded done) [] unwanted r

  pub no_word_yet : (told : Option Records) (wanted unwanted : List Tip) → wanted ≡ [] → unwanted ≡ [] → IfSome told (AreWordsAdded all 0 wanted unwanted)
  no_word_yet None wanted unwanted e f = tt
  no_word_yet (Some r) wanted unwanted e f =
      subst (λ xs. AreWordsAdded all 0 wanted xs r) (sym f) (subst (λ xs. AreWordsAdded all 0 xs [] r) (sym e)
      ([], none_read (word_denoted name (history_of r)) all, record { tips = tt; reach = λ c. refl }, record { tips = tt; reach = λ c. refl }))

  pub wanted_of_words : (told : Option Records) (left : List RangeWord) (count : ℕ) (wanted unwanted : List Tip) → IfSome told (AreWordsAdded left count wanted unwanted) → IfSome told (AreTips stands wanted)
  wanted_of_words None left count wanted unwanted w = tt
  wanted_of_words (Some r) left count wanted unwanted w = w.2.tips

  pub unwanted_of_words : (told : Option Records) (left : List RangeWord) (count : ℕ) (wanted unwanted : List Tip) → IfSome told (AreWordsAdded left count wanted unwanted) → IfSome told (AreTips stands unwanted)
  unwanted_of_words None left count wanted unwanted w = tt
  unwanted_of_words (Some r) left count wanted unwanted w = w.3.tips

  module _ (word : RangeWord) (now left : List RangeWord) (count : ℕ) (wanted unwanted : List Tip) (from : now ≡ word ∷ left) where
    pub next_word_added : (told : Option Records) (new_wanted new_unwanted : List Tip) → IfSome told (AreWordsAdded now count wanted unwanted) → IfSome told (IsSpan name stands word (wanted, unwanted) (new_wanted, new_unwanted))
        → IfSome told (AreWordsAdded left (count + 1) new_wanted new_unwanted)
    next_word_added None new_wanted new_unwanted w s = tt
    next_word_added (Some r) new_wanted new_unwanted w s = (
      w.0 ++ s.0 ∷ [],
      word_done (word_denoted name (history_of r)) all left word count w.0 s.0 s.1 (subst (λ ws. AreRead (word_denoted name (history_of r)) all ws count w.0) from w.1),
      adds_same stands r (λ c. is_included w.0 c || (span s.0).included c) (is_included (w.0 ++ s.0 ∷ [])) [] new_wanted (λ c. word_more (λ x c. (span x).included c) w.0 s.0 c)
          (adds_both stands r (is_included w.0) (span s.0).included [] wanted new_wanted w.2 s.2.included),
      adds_same stands r (λ c. is_excluded w.0 c || (span s.0).excluded c) (is_excluded (w.0 ++ s.0 ∷ [])) [] new_unwanted (λ c. word_more (λ x c. (span x).excluded c) w.0 s.0 c)
          (adds_both stands r (is_excluded w.0) (span s.0).excluded [] unwanted new_unwanted w.3 s.2.excluded),
    )

    pub next_word_refused : (told : Option Records) (kind : AskFault) (at : ℕ) → at ≡ count + 1 → IfSome told (AreWordsAdded now count wanted unwanted) → Refuses told (λ r. word_denoted name (history_of r) word) kind
        → RefusesWord told (λ r. words_denoted name (history_of r) all) (refused_at at kind).word (refused_at at kind).kind
    next_word_refused told OutOfMemory at e w h = refl
    next_word_refused told ReadFailed at e w h = refl
    next_word_refused told Damaged at e w h = (refl, h)
    next_word_refused None (Refused f) at e w h = tt
    next_word_refused (Some r) (Refused f) at e w h =
        next_fails (word_denoted name (history_of r)) all left word count w.0 (fault_of f) h (subst (λ ws. AreRead (word_denoted name (history_of r)) all ws count w.0) from w.1)
        ∙ ap (λ n. Err (record { word = n; fault = fault_of f })) (let s : 1 + count ≡ at = omega arith in s)

  pub all_words_added : (told : Option Records) (left : List RangeWord) (count : ℕ) (wanted unwanted : List Tip) → left ≡ [] → IfSome told (AreWordsAdded left count wanted unwanted)
      → IfSome told (λ r. (words : List Word) × (words_denoted name (history_of r) all ≡ Ok words) × Adds stands (is_included words) [] wanted r × Adds stands (is_excluded words) [] unwanted r)
  all_words_added None left count wanted unwanted e w = tt
  all_words_added (Some r) left count wanted unwanted e w =
      (w.0, all_done (word_denoted name (history_of r)) all count w.0 (subst (λ ws. AreRead (word_denoted name (history_of r)) all ws count w.0) e w.1), w.2, w.3)

-- ---- why a word is refused

-- the second revision of two is refused
pub second_refused : (name : Kind → Bytes → Bytes) (word : Commit → Commit → Word) (told : Option Records) (left right : Revision) (a : Name) (fault : AskFault) → IfSome told (GivesCommit name left a) → Refuses told (λ r. commit_denoted name (history_of r) right) fault
    → Refuses told (λ r. commit_denoted name (history_of r) left >>= λ c. commit_denoted name (history_of r) right >>= λ d. Ok (word c d)) fault
second_refused name word told left right a fault e h =
    refuses_then told (GivesCommit name left a) (λ r. commit_denoted name (history_of r) right) (λ r. commit_denoted name (history_of r) left >>= λ c. commit_denoted name (history_of r) right >>= λ d. Ok (word c d)) fault
    (λ r f p k. ap (λ g. g >>= λ c. commit_denoted name (history_of r) right >>= λ d. Ok (word c d)) p ∙ ap (λ g. g >>= λ d. Ok (word (commit_at r a) d)) k) e h

-- the parent is
pub parent_refused : (name : Kind → Bytes → Bytes) (told : Option Records) (revision : Revision) (number : ℕ) (called : Name) (fault : AskFault) → IfSome told (GivesCommit name revision called) → Refuses told (λ r. nth_parent number (commit_at r called)) fault
    → Refuses told (λ r. word_denoted name (history_of r) (WithoutOne revision number)) fault
parent_refused name told revision number called fault e h =
    refuses_then told (GivesCommit name revision called) (λ r. nth_parent number (commit_at r called)) (λ r. word_denoted name (history_of r) (WithoutOne revision number)) fault
    (λ r f p k. ap (λ g. g >>= λ c. nth_parent number c >>= λ q. Ok (without_one c q)) p ∙ ap (λ g. g >>= λ q. Ok (without_one (commit_at r called) q)) k) e h
