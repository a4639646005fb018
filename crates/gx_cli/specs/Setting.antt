-- What is left of a store whose refs were set. Source: git-update-ref(1).
use Rattle.std.specs.Prelude.{◌≡◌, ◌⊎◌, Bool, true, false, ◌||◌, if◌then◌else◌, is_some, List, [], ◌∷◌, ◌++◌, Option, Some, None, Result, Ok, Err, ⊤, codes}
use Rattle.std.specs.Option.{option_map_or}
use Rattle.gx_model.specs.declared.objects.Kind.{Kind}
use Rattle.gx_model.specs.declared.store_faults.FileFault.{FileFault}
use Rattle.gx_model.specs.declared.store_faults.FileFault.TheVariants as file
use Rattle.gx_model.specs.Texts.{Bytes, cut_at}
use Rattle.gx_model.specs.Histories.{Records}
use Rattle.gx_model.specs.Laws.RepositoryLaws.{with_refs}
use Rattle.gx_model.specs.Records.Publishing.{Ref as StoredRef}
use Rattle.gx_model.specs.Records.Sound.{IsSound}
use Rattle.gx_model.specs.Stores.StoreReading.{Stored}
use Rattle.gx_text.specs.Devices.{Coming}
use Rattle.gx_push.specs.Lines.{Refusal}
use Rattle.gx_push.specs.Settings.{set_refs}
use Rattle.gx_push.specs.declared.fault.RefFault.TheVariants.{BadLine}
use Rattle.gx_asks.specs.declared.change.RefChange.{RefChange}
use Rattle.gx_cli.specs.Gathering.{OfLines}
use Rattle.gx_cli.specs.declared.fault.CliFault.{CliFault}
use Rattle.gx_cli.specs.declared.fault.CliFault.TheVariants.{OutOfMemory, ReadFailed, Ref, Store}

-- ---- a change of a command line

-- a word has a space
abbrev pub has_space : Bytes → Bool
has_space word = is_some (cut_at 32 word)

-- a word of a change has a space
abbrev pub is_divided : RefChange → Bool
is_divided change = has_space change.name.now || has_space change.new.now || option_map_or (λ old. has_space old.now) change.old false

-- the line of a change
abbrev pub change_line : RefChange → Bytes
change_line change = codes "update " ++ change.name.now ++ 32 ∷ change.new.now ++ option_map_or (λ old. 32 ∷ old.now) change.old []

-- the refs that a change leaves, or why it is refused
abbrev pub changed_refs : Bool → Records → RefChange → Result (List StoredRef) Refusal
changed_refs forced old change = if is_divided change then Err (1, BadLine) else set_refs forced old (change_line change ∷ [])

module _ (name : Kind → Bytes → Bytes) where
  -- what is left of a repository that has these refs then, which is sound, or the line with this number is refused; memory may run
  -- out whatever the lines are
  abbrev pub IsSet : Records → Result (List StoredRef) Refusal → Result Records CliFault → Type 0
  IsSet old given (Ok new) = (given ≡ Ok new.refs) × (new ≡ with_refs old new.refs) × IsSound name new
  IsSet old given (Err OutOfMemory) = ⊤
  IsSet old given (Err (Ref number kind)) = given ≡ Err (number, kind)
  IsSet old given (Err fault) = ⊥

  -- refs of a repository are set as lines tell, all of them or none, where this is behind the lines: an end, or a failure, and then
  -- none is
  abbrev pub SetsRead : Bool → Bool → Records → List Bytes → Result Records CliFault → Type 0
  SetsRead false forced old lines answer = IsSet old (set_refs forced old lines) answer
  SetsRead true forced old lines answer = (answer ≡ Err ReadFailed) ⊎ (answer ≡ Err OutOfMemory)

  -- the same by the change that is given or, where none is, by the lines of a source
  abbrev pub SetsFrom : Bool → Records → Option RefChange → Option Coming → Result Records CliFault → Type 0
  SetsFrom forced old (Some change) coming answer = IsSet old (changed_refs forced old change) answer
  SetsFrom forced old None coming answer = OfLines coming (λ lines fails. SetsRead fails forced old lines answer)

  -- the same of the store that a text was read as
  abbrev pub SetsStored : Bool → Stored Records → Option RefChange → Option Coming → Result Records CliFault → Type 0
  SetsStored forced (Ok old) change coming answer = (answer ≡ Err (Store file.OutOfMemory)) ⊎ SetsFrom forced old change coming answer
  SetsStored forced (Err f) change coming answer = (why : FileFault) × ((why ≡ file.OutOfMemory) ⊎ (f ≡ why)) × (answer ≡ Err (Store why))
