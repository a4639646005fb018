-- Marks that are set at the numbers of names.
use Rattle.std.proofs.Common.{◌≡◌, ℕ, ◌∙◌, Bool, true, List, [], ◌∷◌, ◌++◌, append_assoc, append-nil, set, Some, None, Result, Ok, Err, refl, sym, subst}
use Rattle.std.specs.Prelude.{IfErr}
use Rattle.std.specs.List.{AllByRecursion}
use Rattle.gx_model.specs.declared.objects.Kind.{Kind}
use Rattle.gx_model.specs.Pruning.{links_of}
use Rattle.gx_model.specs.Texts.{Bytes}
use Rattle.gx_repo.proofs.PrunedRecords.{mark_nowhere, mark_there, marks_both, marks_none}
use Rattle.gx_listed.specs.Listings.{Listed, number_named}
use Rattle.gx_kept.specs.Marking.{IsBelow, MarksHeld, RefusesOthers}
use Rattle.gx_kept.proofs.ListedRecords.{number_is}

-- the object of a name is marked
pub listed_there : (listed : List Listed) (n : Bytes) (i : ℕ) (marks : List Bool) → Some i ≡ number_named listed n → MarksHeld listed (n ∷ []) marks (set marks i true)
listed_there listed n i marks e records h d = mark_there n records i marks d (e ∙ number_is n listed records h)

-- where none has it, nothing changes
pub listed_nowhere : (listed : List Listed) (n : Bytes) (marks : List Bool) → None ≡ number_named listed n → MarksHeld listed (n ∷ []) marks marks
listed_nowhere listed n marks e records h d = mark_nowhere n records marks (e ∙ number_is n listed records h)

-- ---- names one after the other

-- the objects of these names were marked, and those of the others are left
pub record MarksListedSoFar (listed : List Listed) (names left : List Bytes) (old new : List Bool) : Type 0 where
  pub done : List Bytes
  pub all : done ++ left ≡ names
  pub marks : MarksHeld listed done old new

pub listed_none : (listed : List Listed) (names : List Bytes) (marks : List Bool) → MarksListedSoFar listed names names marks marks
listed_none listed names marks = record { done = []; all = refl; marks = λ records h d. marks_none records marks }

pub listed_next : (listed : List Listed) (names left : List Bytes) (n : Bytes) (old marks new : List Bool) → MarksListedSoFar listed names (n ∷ left) old marks → MarksHeld listed (n ∷ []) marks new → MarksListedSoFar listed names left old new
listed_next listed names left n old marks new h k = record {
  done = h.done ++ n ∷ [];
  all = append_assoc h.done (n ∷ []) left ∙ h.all;
  marks = λ records heads d. marks_both records h.done (n ∷ []) old marks new (h.marks records heads d) (k records heads d);
}

pub listed_all : (listed : List Listed) (names : List Bytes) (old new : List Bool) → MarksListedSoFar listed names [] old new → MarksHeld listed names old new
listed_all listed names old new h = subst (λ ns. MarksHeld listed ns old new) (sym (append-nil h.done) ∙ h.all) h.marks

-- what holds of all names holds of the first that is left
pub next_has : (P : Bytes → Type 0) (listed : List Listed) (names left : List Bytes) (n : Bytes) (old new : List Bool) → MarksListedSoFar listed names (n ∷ left) old new → AllByRecursion P names → P n
next_has P listed names left n old new h a = among h.done (subst (AllByRecursion P) (sym h.all) a)
  where
    among : (done : List Bytes) → AllByRecursion P (done ++ n ∷ left) → P n
    among [] b = b.0
    among (d ∷ done) b = among done b.1

-- where the object of the one name that a body has is refused the body is
pub one_refuses : {X E : Type 0} (listed : List Listed) (limit : ℕ) (kind : Kind) (body n : Bytes) (result : Result X E) → links_of kind body ≡ n ∷ [] → IfErr result (λ fault. IsBelow listed limit n → ⊥) → RefusesOthers listed limit kind body result
one_refuses listed limit kind body n (Ok x) e h = tt
one_refuses listed limit kind body n (Err fault) e h = λ canonical below. h (subst (AllByRecursion (IsBelow listed limit)) e below).0
