-- What is told of a reference that is refused; and nothing is told where a fault is that of no reference.
use Rattle.std.proofs.Common.{◌≡◌, List, [], Option, Some, None, Result, Ok, Err, refl, inl, inr, sym, ap, subst}
use Rattle.std.specs.Prelude.{false, IfErr}
use Rattle.std.specs.Map.{lookup}
use Rattle.std.specs.Option.{option_map}
use Rattle.gx_model.specs.declared.objects.Kind.{Kind}
use Rattle.gx_model.specs.declared.objects.Mode.{Mode}
use Rattle.gx_model.specs.declared.faults.Fault.{Fault}
use Rattle.gx_model.specs.declared.faults.Fault.TheVariants.{OutOfMemory}
use Rattle.gx_model.specs.Faults.{IsFaultOf, ◌>>=◌}
use Rattle.gx_model.specs.Texts.{Bytes, same_bytes}
use Rattle.gx_model.specs.Histories.Values.{Commit, Value}
use Rattle.gx_model.specs.Streams.Commands.{CommitIsh, CommitParts, DataRef, Inline, Mark, Object}
use Rattle.gx_model.specs.Replay.{State, all_committed, committed_for, content, first_parent, own_commit, starting_files}
use Rattle.gx_tree.specs.Faults.{fault_of as of_tree}
use Rattle.gx_tree.specs.declared.fault.TreeFault.{TreeFault}
use Rattle.gx_tree.specs.declared.fault.TreeFault.TheVariants as tree
use Rattle.gx_import.specs.Additions.{Clash, content_added}
use Rattle.gx_import.specs.Answers.{AddsAs}
use Rattle.gx_import.specs.Asking.{AsksByChange, AsksByCommit, AsksByContent, AsksByFrom, AsksByMerge, IsRefusedWith, Reference, TellsVain, TellsVainIn, is_of_reference, of_commit_ish, of_data, shown_asked}
use Rattle.gx_import.specs.Steps.{optional_commit}
use Rattle.gx_import.specs.declared.explanation.Asked.{Asked}
use Rattle.gx_import.proofs.AddedAnswers.{adds_so, fault_so}
use Rattle.gx_import.proofs.Clashes.{content_inline}

-- ---- where nothing is told

pub none_vain : {A : Type 0} (Asks : Reference → Type 0) (e : Fault) (told : Option (Asked A)) → told ≡ None → is_of_reference e ≡ false → TellsVain Asks e told
none_vain Asks e told blank h = subst (λ o. TellsVain Asks e o) (sym blank) h

-- a step that the model accepts is refused for want of memory, or for a name that is held
pub adds_free : {X Y : Type 0} (clash : Type 0) (Is : Y → X → Type 0) (e : Fault) (given : Result Y Fault) → AddsAs clash Is (Err e) given → (y : Y) → given ≡ Ok y → is_of_reference e ≡ false
adds_free clash Is e given h y ok = elim (adds_so clash Is e given h) as (λ _. is_of_reference e ≡ false) [
  | inl memory ↦ ap is_of_reference memory
  | inr (inl held) ↦ ap is_of_reference held.0
  | inr (inr refused) ↦ absurd (cc (sym ok, refused))
]

-- trees have no fault of a reference
pub tree_free : (e : TreeFault) → is_of_reference (of_tree e) ≡ false
tree_free tree.OutOfMemory = refl
tree_free tree.NoSuchPath = refl
tree_free tree.RootNotTree = refl
tree_free tree.PathTooLong = refl
tree_free tree.NameHeld = refl

-- nor has a call that is refused for want of memory alone
pub late_vain : {X A : Type 0} (Asks : Fault → Reference → Type 0) (told : Option (Asked A)) → told ≡ None → (r : Result X Fault) → IfErr r (λ e. e ≡ OutOfMemory) → TellsVainIn Asks r told
late_vain Asks told blank (Ok x) h = blank
late_vain Asks told blank (Err e) h = none_vain (Asks e) e told blank (ap is_of_reference h)

-- what a part asks for is what the whole does
pub vain_as : {A : Type 0} (P Q : Reference → Type 0) (e : Fault) (told : Option (Asked A)) → ((r : Reference) → P r → Q r) → TellsVain P e told → TellsVain Q e told
vain_as P Q e None f h = h
vain_as P Q e (Some a) f h = f (shown_asked a) h

-- ---- refusals

-- what no clash refuses
refused_with : {X Y : Type 0} (clash : Type 0) → (clash → ⊥) → (Is : Y → X → Type 0) (e : Fault) (given : Result Y Fault) → AddsAs clash Is (Err e) given → IsRefusedWith e given
refused_with clash never Is e given h = elim (adds_so clash Is e given h) as (λ _. IsRefusedWith e given) [
  | inl memory ↦ inl memory
  | inr (inl held) ↦ absurd (never held.1)
  | inr (inr refused) ↦ inr refused
]

memory_alone : {Y : Type 0} (e : Fault) (y : Y) → IsFaultOf e (Ok y) → e ≡ OutOfMemory
memory_alone e y h = elim (fault_so e (Ok y) h) as (λ _. e ≡ OutOfMemory) [ inl memory ↦ memory | inr refused ↦ absurd (cc refused) ]

first_alone : {X Y : Type 0} (e : Fault) (given : Result X Fault) (f : X → Y) → (given >>= λ x. Ok (f x)) ≡ Err e → given ≡ Err e
first_alone e (Ok x) f h = absurd (cc h)
first_alone e (Err d) f h = let k : d ≡ e = cc h in ap Err k

first_with : {X Y : Type 0} (e : Fault) (given : Result X Fault) (f : X → Y) → IsFaultOf e (given >>= λ x. Ok (f x)) → IsRefusedWith e given
first_with e given f h = elim (fault_so e (given >>= λ x. Ok (f x)) h) as (λ _. IsRefusedWith e given) [
  | inl memory ↦ inl memory
  | inr refused ↦ inr (first_alone e given f refused)
]

module _ (name : Kind → Bytes → Bytes) where
  -- the content of a file
  pub data_vain : {X A : Type 0} (vs : List Value) (s : State) (mode : Mode) (d : DataRef) (Is : State × Bytes → X → Type 0) (e : Fault) (told : Option (Asked A)) → option_map shown_asked told ≡ of_data d
      → AddsAs (Clash name vs (content_added d)) Is (Err e) (content name s mode d) → TellsVain (AsksByContent name s mode d e) e told
  data_vain vs s mode (Inline x) Is e None same h = adds_free (Clash name vs (content_added (Inline x))) Is e (content name s mode (Inline x)) h _ (content_inline name s mode x)
  data_vain vs s mode (Inline x) Is e (Some a) same h = absurd (cc same)
  data_vain vs s mode (Mark n) Is e None same h = absurd (cc same)
  data_vain vs s mode (Mark n) Is e (Some a) same h = (sym same, refused_with (Clash name vs []) (λ k. absurd (cc k)) Is e (content name s mode (Mark n)) h)
  data_vain vs s mode (Object x) Is e None same h = absurd (cc same)
  data_vain vs s mode (Object x) Is e (Some a) same h = (sym same, refused_with (Clash name vs []) (λ k. absurd (cc k)) Is e (content name s mode (Object x)) h)

  -- a line that may be missing
  line_vain : {A : Type 0} (b : Bytes) (s : State) (o : Option CommitIsh) (e : Fault) (told : Option (Asked A)) → option_map shown_asked told ≡ option_map of_commit_ish o
      → (o ≡ None → e ≡ OutOfMemory) → ((x : CommitIsh) → o ≡ Some x → IsRefusedWith e (committed_for name b s x)) → TellsVain (AsksByFrom name b s o e) e told
  line_vain b s None e None same none some = ap is_of_reference (none refl)
  line_vain b s None e (Some a) same none some = absurd (cc same)
  line_vain b s (Some x) e None same none some = absurd (cc same)
  line_vain b s (Some x) e (Some a) same none some = let k : shown_asked a ≡ of_commit_ish x = cc same in (k, some x refl)

  -- that of a reset
  pub reset_vain : {A : Type 0} (b : Bytes) (s : State) (o : Option CommitIsh) (e : Fault) (told : Option (Asked A)) → option_map shown_asked told ≡ option_map of_commit_ish o
      → IsFaultOf e (optional_commit name s b o) → TellsVain (AsksByFrom name b s o e) e told
  reset_vain b s o e told same h =
      line_vain b s o e told same
      (λ n. memory_alone e None (subst (λ p. IsFaultOf e (optional_commit name s b p)) n h))
      (λ x n. first_with e (committed_for name b s x) Some (subst (λ p. IsFaultOf e (optional_commit name s b p)) n h))

  module _ (s : State) (c : CommitParts) where
    -- the first parent of a commit, where its line is there or not
    abbrev parent_by : Option CommitIsh → Result (Option Commit) Fault
    parent_by o = elim o [
      | None ↦ Ok (own_commit (lookup (same_bytes c.ref) s.branches))
      | Some x ↦ committed_for name c.ref s x >>= λ p. Ok (Some p)
    ]

    -- that of a commit
    pub parent_vain : {A : Type 0} (e : Fault) (told : Option (Asked A)) → option_map shown_asked told ≡ option_map of_commit_ish c.parent → IsFaultOf e (first_parent name s c) → TellsVain (AsksByCommit name s c e) e told
    parent_vain e told same h =
        vain_as (AsksByFrom name c.ref s c.parent e) (AsksByCommit name s c e) e told (λ r k. inl k)
        (line_vain c.ref s c.parent e told same
        (λ n. memory_alone e (own_commit (lookup (same_bytes c.ref) s.branches)) (subst (λ p. IsFaultOf e (parent_by p)) n h))
        (λ x n. first_with e (committed_for name c.ref s x) Some (subst (λ p. IsFaultOf e (parent_by p)) n h)))

    -- a merge of it
    pub merge_vain : {A : Type 0} (first : Option Commit) → first_parent name s c ≡ Ok first → (e : Fault) (told : Option (Asked A)) → TellsVain (AsksByMerge name c.ref s c.merges e) e told → TellsVain (AsksByCommit name s c e) e told
    merge_vain first parent e told h =
        vain_as (AsksByMerge name c.ref s c.merges e) (AsksByCommit name s c e) e told (λ r k. inr (inl (record { first = first; parent = parent; asks = k }))) h

    -- a change of it
    pub change_vain : {A : Type 0} (first : Option Commit) (others : List Commit) → first_parent name s c ≡ Ok first → all_committed name c.ref s c.merges ≡ Ok others → (e : Fault) (told : Option (Asked A))
        → TellsVain (AsksByChange name s (starting_files first) c.changes e) e told → TellsVain (AsksByCommit name s c e) e told
    change_vain first others parent merges e told h =
        vain_as (AsksByChange name s (starting_files first) c.changes e) (AsksByCommit name s c e) e told (λ r k. inr (inr (record { first = first; others = others; parent = parent; merges = merges; asks = k }))) h
