-- What the laws of reachable objects say: which these are, and that a repository with these alone answers as before.
-- Source: git-prune(1), and gitglossary(7), "reachable".
use Rattle.std.specs.Prelude.{◌≡◌, ◌↔◌, ◌⊎◌, Bool, ◌&&◌, false, nat_eq, length, List, [], ◌∷◌, IsTrue, Some, Ok}
use Rattle.std.specs.List.{AllByRecursion}
use Rattle.gx_model.specs.declared.objects.Kind.{Kind}
use Rattle.gx_model.specs.Texts.{Bytes}
use Rattle.gx_model.specs.Histories.Values.{Value}
use Rattle.gx_model.specs.Histories.{History, IsIn, Record, Records, Target}
use Rattle.gx_model.specs.Laws.ExportLaws.{IsReached}
use Rattle.gx_model.specs.Laws.RepositoryLaws.{values_of}
use Rattle.gx_model.specs.Pruning.{is_kept, is_reachable, links_of, pruned}
use Rattle.gx_model.specs.Records.{name_of}
use Rattle.gx_model.specs.Records.HistoryOf.{history_of}
use Rattle.gx_model.specs.Records.Sound.{AnyByRecursion, IsSound}
use Rattle.gx_model.specs.Revisions.{AllParents, Alone, Apart, Between, RangeWord, Revision, WithAncestors, WithoutAncestors, WithoutOne}
use Rattle.gx_model.specs.Revisions.Denotation.{are_digits, base_value, denoted, find_ref}
use Rattle.gx_model.specs.Revisions.Ranges.{listed}

-- ---- the least set

-- what a record names has this property
abbrev pub LinksHave : (Bytes → Bool) → Record → Type 0
LinksHave set held = AllByRecursion (λ linked. IsTrue (set linked)) (links_of held.kind held.body)

-- What refs reach is the least set of names with those that refs hold and with those that its members name.
pub record ReachableIsLeast (name : Kind → Bytes → Bytes) : Type 0 where
  pub refs : (repository : Records) → AllByRecursion (λ ref. IsTrue (is_reachable repository.refs repository.records ref.1)) repository.refs
  pub closed : (repository : Records) → IsSound name repository → (held : Record) → AnyByRecursion (λ other. other ≡ held) repository.records
      → IsTrue (is_kept repository held) → LinksHave (is_reachable repository.refs repository.records) held
  pub least : (repository : Records) (set : Bytes → Bool) → AllByRecursion (λ ref. IsTrue (set ref.1)) repository.refs
      → AllByRecursion (λ held. IsTrue (set held.name) → LinksHave set held) repository.records
      → (called : Bytes) → IsTrue (is_reachable repository.refs repository.records called) → IsTrue (set called)

-- ---- the history

-- those of the first list that have this property, in their order
abbrev pub AreThose : {X : Type 0} → (X → Type 0) → List X → List X → Type 0
AreThose P [] those = those ≡ []
AreThose {X} P (x ∷ xs) those = (P x × ((rest : List X) × (those ≡ x ∷ rest) × AreThose P xs rest)) ⊎ ((P x → ⊥) × AreThose P xs those)

-- a history with what its refs reach alone
pub record IsPruned (old new : History) : Type 0 where
  pub values : AreThose (IsReached old) old.values new.values
  pub refs : new.refs ≡ old.refs

-- The records that refs reach are those of the values that refs reach. A sound repository with these alone is sound, and its
-- history has these values alone. So nothing that any ref reaches is lost, and nothing else is kept.
pub record PrunedStands (name : Kind → Bytes → Bytes) : Type 0 where
  pub reached : (repository : Records) → IsSound name repository → (value : Value) → IsIn (values_of repository) value
      → IsTrue (is_reachable repository.refs repository.records (name_of name value)) ↔ IsReached (history_of repository) value
  pub sound : (repository : Records) → IsSound name repository → IsSound name (pruned repository)
  pub history : (repository : Records) → IsSound name repository → IsPruned (history_of repository) (history_of (pruned repository))
  pub held : (repository : Records) → IsSound name repository → (value : Value) → IsReached (history_of repository) value → IsIn (values_of (pruned repository)) value

-- ---- revisions and ranges

module _ (name : Kind → Bytes → Bytes) where
  -- the base of a revision gives a value that refs reach
  abbrev pub GivesReached : History → Bytes → Type 0
  GivesReached history base = (value : Value) × (base_value name history base ≡ Ok value) × IsReached history value

  -- the bases of a word's revisions give values that refs reach
  abbrev pub HasReached : History → RangeWord → Type 0
  HasReached history (WithAncestors r) = GivesReached history r.base
  HasReached history (WithoutAncestors r) = GivesReached history r.base
  HasReached history (Between a b) = GivesReached history a.base × GivesReached history b.base
  HasReached history (Apart a b) = GivesReached history a.base × GivesReached history b.base
  HasReached history (AllParents r) = GivesReached history r.base
  HasReached history (Alone r) = GivesReached history r.base
  HasReached history (WithoutOne r n) = GivesReached history r.base

  -- What a base gives that refs reach it gives afterwards, and so a ref that is found gives what it gave. A revision with such a
  -- base gives what it gave, be it a fault, and ranges of such words list what they listed.
  pub record PrunedAnswers : Type 0 where
    pub refs : (repository : Records) → IsSound name repository → (base : Bytes) → find_ref (history_of (pruned repository)) base ≡ find_ref (history_of repository) base
    pub by_ref : (repository : Records) → IsSound name repository → (base : Bytes) (target : Target) → find_ref (history_of repository) base ≡ Some target
        → (are_digits name base && nat_eq (length base) 40) ≡ false → GivesReached (history_of repository) base
    pub bases : (repository : Records) → IsSound name repository → (base : Bytes) (value : Value) → base_value name (history_of repository) base ≡ Ok value → IsReached (history_of repository) value
        → base_value name (history_of (pruned repository)) base ≡ Ok value
    pub revisions : (repository : Records) → IsSound name repository → (revision : Revision) → GivesReached (history_of repository) revision.base
        → denoted name (history_of (pruned repository)) revision ≡ denoted name (history_of repository) revision
    pub ranges : (repository : Records) → IsSound name repository → (words : List RangeWord) → AllByRecursion (HasReached (history_of repository)) words
        → listed name (history_of (pruned repository)) words ≡ listed name (history_of repository) words
