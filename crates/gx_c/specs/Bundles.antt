-- What a bundle of a repository is, or why there is none.
-- Source: git-bundle(1), gitformat-bundle(5), and gitrevisions(7), "Specifying Ranges".
use Rattle.std.specs.Prelude.{◌≡◌, ◌⊎◌, ℕ, ◌+◌, ◌<◌, ◌≤◌, ◌^◌, Bool, true, false, not, if◌then◌else◌, List, [], ◌∷◌, length, Option, None, Some, Ok, Err}
use Rattle.std.specs.List.{flat_map}
use Rattle.std.specs.Option.{ok_or}
use Rattle.sha1.specs.Sha1.{sha1}
use Rattle.gx_model.specs.declared.faults.Fault.TheVariants as fault
use Rattle.gx_model.specs.declared.objects.Kind.{Kind}
use Rattle.gx_model.specs.declared.objects.Kind.TheVariants as kinds
use Rattle.gx_model.specs.Faults.{Given, ◌>>=◌}
use Rattle.gx_model.specs.Histories.{Records}
use Rattle.gx_model.specs.Records.HistoryOf.{history_of}
use Rattle.gx_model.specs.Records.Lookups.{first_named}
use Rattle.gx_model.specs.Records.RecordFaults.{is_held}
use Rattle.gx_model.specs.Revisions.{RangeWord}
use Rattle.gx_model.specs.Revisions.Denotation.{ref_names}
use Rattle.gx_model.specs.Revisions.Ranges.{Word, words_denoted}
use Rattle.gx_model.specs.Stores.StoreText.{stored_ref}
use Rattle.gx_model.specs.Texts.{Bytes}
use Rattle.gx_object.specs.Parts.{bytes_if}
use Rattle.gx_objects.specs.Answers.{SpellsRefs}
use Rattle.gx_pack.specs.Bundles.{bundle_text}
use Rattle.gx_kept.specs.Telling.{OfRefs, bundle_with, sent_with}
use Rattle.gx_kept.specs.declared.bundled.Bundled.{Bundled}
use Rattle.gx_questions.specs.declared.fault.AskFault.{AskFault}
use Rattle.gx_questions.specs.declared.fault.AskFault.TheVariants as ask
use Rattle.gx_rev.specs.RevFaults.{fault_of}
use Rattle.gx_rev.specs.declared.fault.RevFault.{RevFault}
use Rattle.gx_rev.specs.declared.fault.RevFault.TheVariants as rev
use Rattle.gx_bundled.specs.Excluded.{AreExcluded}
use Rattle.gx_bundled.specs.Named.{told_refs}
use Rattle.gx_bundled.specs.declared.told.Told.{Told}
use Rattle.gx_c.specs.declared.answer.Answer.{Answer}
use Rattle.gx_c.specs.declared.answer.Why.{Why}
use Rattle.gx_c.specs.declared.answer.Why.TheVariants.{Done, Empty, Field, Import, Item, Revision, Store, Unsupported}

-- why a word is refused of a repository in memory, of which no read fails
abbrev pub why_of : AskFault → Why
why_of (ask.Revision fault) = Revision fault
why_of ask.OutOfMemory = Revision rev.OutOfMemory
why_of ask.ReadFailed = Revision rev.OutOfMemory
why_of ask.Damaged = Revision rev.OutOfMemory

-- whether there is an element
abbrev pub has_some : {X : Type 0} → List X → Bool
has_some [] = false
has_some (x ∷ xs) = true

-- ---- what it tells

-- an object that HEAD can be: a commit
abbrev pub only_held_commit : Records → Bytes → Given (Option Bytes)
only_held_commit r called = if is_held r.records kinds.Commit called then Ok (Some called) else Err fault.WrongKind

-- the commit of the ref that is to be HEAD, where a text names one
abbrev pub head_given : Records → Bytes → Given (Option Bytes)
head_given r [] = Ok None
head_given r (b ∷ bs) = ok_or (first_named r.refs (ref_names (b ∷ bs))) fault.UnknownRef >>= only_held_commit r

-- the lines of the refs that words name, or of all
abbrev pub lines_told : Records → List RangeWord → Bytes → Bytes
lines_told r words head = flat_map stored_ref (told_refs (not (has_some words)) (has_some head) words r.refs)

-- the commits reach what words exclude
abbrev pub Excludes : (Kind → Bytes → Bytes) → Records → List RangeWord → Bundled → Type 0
Excludes name r asked bundled = (words : List Word) × (words_denoted name (history_of r) asked ≡ Ok words) × AreExcluded words r bundled.had.now

-- what words and a text for HEAD have a bundle tell
pub record IsToldBy (name : Kind → Bytes → Bytes) (r : Records) (words : List RangeWord) (asked : Bytes) (bundled : Bundled) : Type 0 where
  pub refs : bundled.refs.now ≡ lines_told r words asked
  pub spelled : SpellsRefs bundled.refs.now
  pub head : head_given r asked ≡ Ok (bytes_if bundled.head)
  pub had : Excludes name r words bundled

-- ---- what is answered

-- The bundle that tells this, unless memory ran out, or too many objects would go out.
abbrev pub AnswersBundled : {A : Type 0} → Records → Bundled → Why → Answer A → Type 0
AnswersBundled r bundled Done answer = OfRefs bundled.refs.now (λ refs. (answer.bytes.items ≡ bundle_text sha1 (bundle_with bundled refs r)) × (answer.number ≡ 0))
AnswersBundled r bundled Unsupported answer = OfRefs bundled.refs.now (λ refs. 2 ^ 32 ≤ length (sent_with bundled refs r)) × (answer.bytes.items ≡ [])
AnswersBundled r bundled (Revision fault) answer = (fault ≡ rev.OutOfMemory) × (answer.bytes.items ≡ [])
AnswersBundled r bundled (Import fault) answer = ⊥
AnswersBundled r bundled (Store fault) answer = ⊥
AnswersBundled r bundled (Item told) answer = ⊥
AnswersBundled r bundled Field answer = ⊥
AnswersBundled r bundled Empty answer = ⊥

-- The same of what is told, with a text for HEAD.
abbrev pub IsToldWith : {A : Type 0} → Records → Told A → Bytes → Bundled → Type 0
IsToldWith r told head bundled =
    (bundled.refs.now ≡ told.refs.items) × (bundled.had.now ≡ told.had.items) × SpellsRefs bundled.refs.now × (head_given r head ≡ Ok (bytes_if bundled.head))

abbrev pub AnswersToldSo : {A : Type 0} → Records → Told A → ℕ → Bytes → Why → Answer A → Type 0
AnswersToldSo r told words head Done answer = (bundled : Bundled) × IsToldWith r told head bundled × AnswersBundled r bundled Done answer
AnswersToldSo r told words head Unsupported answer = (bundled : Bundled) × IsToldWith r told head bundled × AnswersBundled r bundled Unsupported answer
AnswersToldSo r told words head Empty answer = (told.refs.items ≡ []) × (head ≡ []) × (0 < words) × (answer.bytes.items ≡ [])
AnswersToldSo r told words head (Revision rev.OutOfMemory) answer = answer.bytes.items ≡ []
AnswersToldSo r told words head (Revision fault) answer = (head_given r head ≡ Err (fault_of fault)) × (answer.number ≡ words + 1) × (answer.bytes.items ≡ [])
AnswersToldSo r told words head (Import fault) answer = ⊥
AnswersToldSo r told words head (Store fault) answer = ⊥
AnswersToldSo r told words head (Item item) answer = ⊥
AnswersToldSo r told words head Field answer = ⊥

abbrev pub AnswersTold : {A : Type 0} → Records → Told A → ℕ → Bytes → Answer A → Type 0
AnswersTold r told words head answer = AnswersToldSo r told words head answer.why answer

module _ (name : Kind → Bytes → Bytes) (r : Records) where
  -- this word is refused, or HEAD behind the words
  abbrev pub RefusesAt : List RangeWord → Bytes → RevFault → ℕ → Type 0
  RefusesAt words head fault number =
      (words_denoted name (history_of r) words ≡ Err (record { word = number; fault = fault_of fault }))
      ⊎ ((head_given r head ≡ Err (fault_of fault)) × (number ≡ length words + 1))

  abbrev pub AnswersBundleSo : {A : Type 0} → List RangeWord → Bytes → Why → Answer A → Type 0
  AnswersBundleSo words head Done answer = (bundled : Bundled) × IsToldBy name r words head bundled × AnswersBundled r bundled Done answer
  AnswersBundleSo words head Unsupported answer = (bundled : Bundled) × IsToldBy name r words head bundled × AnswersBundled r bundled Unsupported answer
  AnswersBundleSo words head Empty answer = (lines_told r words head ≡ []) × (head ≡ []) × (0 < length words) × (answer.bytes.items ≡ [])
  AnswersBundleSo words head (Revision rev.OutOfMemory) answer = answer.bytes.items ≡ []
  AnswersBundleSo words head (Revision fault) answer = RefusesAt words head fault answer.number × (answer.bytes.items ≡ [])
  AnswersBundleSo words head (Import fault) answer = ⊥
  AnswersBundleSo words head (Store fault) answer = ⊥
  AnswersBundleSo words head (Item item) answer = ⊥
  AnswersBundleSo words head Field answer = ⊥

  abbrev pub AnswersBundle : {A : Type 0} → List RangeWord → Bytes → Answer A → Type 0
  AnswersBundle words head answer = AnswersBundleSo words head answer.why answer
