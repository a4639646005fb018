-- Which refs pass filters. Source: git-for-each-ref(1).
use Rattle.std.specs.Prelude.{◌≡◌, ℕ, Bool, true, false, not, ◌&&◌, ◌||◌, List, Option, Result, Ok, Err, IfSome}
use Rattle.std.specs.List.{filter, list_all}
use Rattle.std.specs.declared.vec.Vec.{Vec}
use Rattle.gx_model.specs.declared.objects.Kind.{Kind}
use Rattle.gx_model.specs.Faults.{Given, ◌>>=◌}
use Rattle.gx_model.specs.Histories.{History, Records, Target, value_at}
use Rattle.gx_model.specs.Histories.Values.{Value, commit_value}
use Rattle.gx_model.specs.Records.{name_of}
use Rattle.gx_model.specs.Records.HistoryOf.{history_of}
use Rattle.gx_model.specs.Replay.{peeled_at}
use Rattle.gx_model.specs.Revisions.{Revision, revision_of}
use Rattle.gx_model.specs.Revisions.Denotation.{commit_denoted, value_denoted}
use Rattle.gx_model.specs.Revisions.Ranges.{WordFault, each_word, reaches}
use Rattle.gx_model.specs.Texts.{Bytes, same_bytes}
use Rattle.gx_asks.specs.declared.question.RefFilter.{RefFilter}
use Rattle.gx_asks.specs.declared.question.RefTest.{RefTest}
use Rattle.gx_asks.specs.declared.question.RefTest.TheVariants.{PointsAt, Contains, NoContains, Merged, NoMerged}
use Rattle.gx_object.specs.declared.name.Name.{Name}
use Rattle.gx_questions.specs.declared.fault.AskFault.{AskFault}
use Rattle.gx_questions.specs.Answers.{Refuses}
use Rattle.gx_ranges.specs.Answers.{RefusesWord}
use Rattle.gx_ranges.specs.declared.fault.RangeFault.{RangeFault}
use Rattle.gx_tips.specs.Tips.{AreTips, targets}
use Rattle.gx_tips.specs.declared.tips.Tip.{Tip}
use Rattle.gx_ref_filters.specs.Patterns.{is_named}

-- ---- the refs of a history that pass

-- a filter: its test, and its revision as it is written
abbrev pub Filter : Type 0
Filter = RefTest × Bytes

-- a test as it is, or turned round
abbrev pub agrees : Bool → Bool → Bool
agrees true b = b
agrees false b = not b

-- those refs whose names match, and that pass each test
abbrev pub passing_refs : History → List Bytes → List (Target → Bool) → List (Bytes × Target)
passing_refs h patterns tests = filter (λ ref. is_named patterns ref.0 && list_all (λ test. test ref.1) tests) h.refs

module _ (name : Kind → Bytes → Bytes) where
  -- whether what a ref holds, or the commit that this peels to, has the name of a value
  abbrev pub points_at : Value → Target → Bool
  points_at v held =
      same_bytes (name_of name (value_at held)) (name_of name v) || same_bytes (name_of name (commit_value (peeled_at held))) (name_of name v)

  -- whether their commits reach that of a revision, or it reaches theirs; or that they don't
  abbrev pub reaching_test : History → Bool → Revision → Given (Target → Bool)
  reaching_test h so asked = commit_denoted name h asked >>= λ c. Ok (λ held. agrees so (reaches (peeled_at held) c))

  abbrev pub reached_test : History → Bool → Revision → Given (Target → Bool)
  reached_test h so asked = commit_denoted name h asked >>= λ c. Ok (λ held. agrees so (reaches c (peeled_at held)))

  -- what a test asks of the refs, by what a revision gives
  abbrev pub test_by : History → RefTest → Revision → Given (Target → Bool)
  test_by h PointsAt asked = value_denoted name h asked >>= λ v. Ok (points_at v)
  test_by h Contains asked = reaching_test h true asked
  test_by h NoContains asked = reaching_test h false asked
  test_by h Merged asked = reached_test h true asked
  test_by h NoMerged asked = reached_test h false asked

  -- what a filter asks
  abbrev pub test_of : History → Filter → Given (Target → Bool)
  test_of h asked = revision_of asked.1 >>= test_by h asked.0

  -- those that pass filters, or the first filter that is refused
  unfoldable pub kept_refs : History → List Filter → List Bytes → Result (List (Bytes × Target)) WordFault
  kept_refs h filters patterns = (each_word (test_of h) filters >>= λ tests. Ok (passing_refs h patterns tests))

-- ---- how the code has them

-- a filter, without where its revision stands
abbrev pub shown_filter : RefFilter → Filter
shown_filter asked = (asked.test, asked.revision.now)

-- whether a ref's object or its commit has a name
abbrev pub is_or_names : Name → Tip → Bool
is_or_names called tip = same_bytes tip.object.bytes called.bytes || same_bytes tip.commit.bytes called.bytes

-- these are those of some refs that pass
pub record AreKept (stands : ℕ → ℕ) (test : Bytes × Target → Bool) (refs : List Tip) (repository : Records) (found : List Tip) : Type 0 where
  pub kept : targets repository found ≡ filter test (targets repository refs)
  pub each : AreTips stands found repository

-- those of some refs that pass the test that is given, or why it isn't
abbrev pub PassesGiven : {A : Type 0} → (ℕ → ℕ) → Option Records → (Records → Given (Target → Bool)) → List Tip → Result (Vec Tip A) AskFault → Type 0
PassesGiven stands told given refs (Ok found) =
    IfSome told (λ r. (test : Target → Bool) × (given r ≡ Ok test) × AreKept stands (λ ref. test ref.1) refs r found.items)
PassesGiven stands told given refs (Err fault) = Refuses told given fault

-- by a filter
abbrev pub Passes : {A : Type 0} → (Kind → Bytes → Bytes) → (ℕ → ℕ) → Option Records → Filter → List Tip → Result (Vec Tip A) AskFault → Type 0
Passes name stands told asked refs result = PassesGiven stands told (λ r. test_of name (history_of r) asked) refs result

-- by a revision that was read
abbrev pub PassesBy : {A : Type 0} → (Kind → Bytes → Bytes) → (ℕ → ℕ) → Option Records → RefTest → Revision → List Tip → Result (Vec Tip A) AskFault → Type 0
PassesBy name stands told test asked refs result = PassesGiven stands told (λ r. test_by name (history_of r) test asked) refs result

-- all refs that filters keep, or the first filter that is refused
abbrev pub FindsKept : {A : Type 0} → (Kind → Bytes → Bytes) → (ℕ → ℕ) → Option Records → List Filter → List Bytes → Result (Vec Tip A) RangeFault → Type 0
FindsKept name stands told filters patterns (Ok found) =
    IfSome told (λ r. (kept_refs name (history_of r) filters patterns ≡ Ok (targets r found.items)) × AreTips stands found.items r)
FindsKept name stands told filters patterns (Err refusal) =
    RefusesWord told (λ r. kept_refs name (history_of r) filters patterns) refusal.word refusal.kind
