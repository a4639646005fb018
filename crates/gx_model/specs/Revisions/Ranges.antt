-- What range words give in a history: the commits that they include and don't exclude. Source: gitrevisions(7), "Specifying Ranges".
use Rattle.std.specs.Prelude.{ℕ, ◌+◌, Bool, false, not, ◌&&◌, ◌||◌, List, [], ◌∷◌, map, reverse}
use Rattle.std.specs.declared.result.Result.{Result}
use Rattle.std.specs.declared.result.Result.TheVariants.{Ok, Err}
use Rattle.std.specs.List.{list_any, filter, filter_map}
use Rattle.gx_model.specs.declared.objects.Kind.{Kind}
use Rattle.gx_model.specs.declared.faults.Fault.{Fault}
use Rattle.gx_model.specs.Texts.{Bytes}
use Rattle.gx_model.specs.Faults.{Given, ◌>>=◌}
use Rattle.gx_model.specs.Revisions.{RangeWord, WithAncestors, WithoutAncestors, Between, Apart, AllParents, Alone, WithoutOne}
use Rattle.gx_model.specs.Histories.Values.{Commit, Commits, commit, commit_of, commit_value, more, none, parents_of, same_commit}
use Rattle.gx_model.specs.Records.{name_of}
use Rattle.gx_model.specs.Histories.{History}
use Rattle.gx_model.specs.Revisions.Denotation.{commit_denoted, nth_parent}

-- ---- what a commit reaches

abbrev mutual
  -- whether the second commit is the first or one of its ancestors
  pub reaches : Commit → Commit → Bool
  reaches (commit f ps t) d = same_commit (commit f ps t) d || some_reaches ps d

  -- whether one of these commits reaches another
  pub some_reaches : Commits → Commit → Bool
  some_reaches none d = false
  some_reaches (more c cs) d = reaches c d || some_reaches cs d

-- ---- words with their commits

-- what a word includes and excludes, as tests
pub record Span : Type 0 where
  pub included : Commit → Bool
  pub excluded : Commit → Bool

-- no commit
abbrev pub no_commit : Commit → Bool
no_commit c = false

-- a range word, with its commits
pub data Word : Type 0 where
  -- r, ^r, a..b, a...b
  with_ancestors : Commit → Word
  without_ancestors : Commit → Word
  between : Commit → Commit → Word
  apart : Commit → Commit → Word
  -- r^@, r^!, and r^-n with that parent
  all_parents : Commit → Word
  alone : Commit → Word
  without_one : Commit → Commit → Word

-- what a word includes and excludes
abbrev pub span : Word → Span
span (with_ancestors r) = record { included = reaches r; excluded = no_commit }
span (without_ancestors r) = record { included = no_commit; excluded = reaches r }
span (between a b) = record { included = reaches b; excluded = reaches a }
span (apart a b) = record { included = λ c. reaches a c || reaches b c; excluded = λ c. reaches a c && reaches b c }
span (all_parents r) = record { included = some_reaches (parents_of r); excluded = no_commit }
span (alone r) = record { included = reaches r; excluded = some_reaches (parents_of r) }
span (without_one r p) = record { included = reaches r; excluded = reaches p }

-- the commits that some word includes and none excludes, the newest made first
abbrev pub listing : History → List Word → List Commit
listing h ws =
    filter (λ c. list_any (λ w. (span w).included c) ws && not (list_any (λ w. (span w).excluded c) ws)) (reverse (filter_map commit_of h.values))

-- ---- several words, and the first that is refused

-- the number of a word, from 1, and why it is refused
pub record WordFault : Type 0 where
  pub word : ℕ
  pub fault : Fault

-- a fault, with the number of its word
abbrev pub at_word : {A : Type 0} → ℕ → Given A → Result A WordFault
at_word n (Ok x) = Ok x
at_word n (Err f) = Err (record { word = n; fault = f })

-- each word in order, the first of which has the number n
abbrev pub each_from : {A B : Type 0} → ℕ → (A → Given B) → List A → Result (List B) WordFault
each_from n f [] = Ok []
each_from n f (x ∷ xs) = at_word n (f x) >>= λ y. each_from (n + 1) f xs >>= λ ys. Ok (y ∷ ys)

-- each word in order
abbrev pub each_word : {A B : Type 0} → (A → Given B) → List A → Result (List B) WordFault
each_word f xs = each_from 1 f xs

-- ---- words with revisions

module _ (name : Kind → Bytes → Bytes) where
  -- each revision from left to right, peeled to a commit
  abbrev pub word_denoted : History → RangeWord → Given Word
  word_denoted h (WithAncestors r) = commit_denoted name h r >>= λ c. Ok (with_ancestors c)
  word_denoted h (WithoutAncestors r) = commit_denoted name h r >>= λ c. Ok (without_ancestors c)
  word_denoted h (Between a b) = commit_denoted name h a >>= λ c. commit_denoted name h b >>= λ d. Ok (between c d)
  word_denoted h (Apart a b) = commit_denoted name h a >>= λ c. commit_denoted name h b >>= λ d. Ok (apart c d)
  word_denoted h (AllParents r) = commit_denoted name h r >>= λ c. Ok (all_parents c)
  word_denoted h (Alone r) = commit_denoted name h r >>= λ c. Ok (alone c)
  word_denoted h (WithoutOne r n) = commit_denoted name h r >>= λ c. nth_parent n c >>= λ p. Ok (without_one c p)

  -- what range words give, or the first fault with its word's number
  abbrev pub words_denoted : History → List RangeWord → Result (List Word) WordFault
  words_denoted h ws = each_word (word_denoted h) ws

  -- the names of the commits that range words list
  unfoldable pub listed : History → List RangeWord → Result (List Bytes) WordFault
  listed h ws = (words_denoted h ws >>= λ xs. Ok (map (λ c. name_of name (commit_value c)) (listing h xs)))
