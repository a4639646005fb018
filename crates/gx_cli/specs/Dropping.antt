-- What is left of a store once refs left it. Source: git-update-ref(1), "delete".
use Rattle.std.specs.Prelude.{◌≡◌, ◌⊎◌, ℕ, Bool, true, false, List, ◌++◌, Option, Result, Ok, Err, ⊤}
use Rattle.gx_model.specs.declared.objects.Kind.{Kind}
use Rattle.gx_model.specs.declared.store_faults.FileFault.{FileFault}
use Rattle.gx_model.specs.declared.store_faults.FileFault.TheVariants as file
use Rattle.gx_model.specs.Texts.{Bytes}
use Rattle.gx_model.specs.Histories.{Records}
use Rattle.gx_model.specs.Laws.RepositoryLaws.{with_refs}
use Rattle.gx_model.specs.Records.Publishing.{Ref}
use Rattle.gx_model.specs.Records.Sound.{IsSound}
use Rattle.gx_model.specs.Stores.StoreReading.{Stored}
use Rattle.gx_text.specs.Devices.{Coming}
use Rattle.gx_repo.specs.Dropping.{dropped}
use Rattle.gx_repo.specs.Repositories.{Repository}
use Rattle.gx_rev.specs.declared.fault.RevFault.TheVariants.{UnknownRef}
use Rattle.gx_cli.specs.Gathering.{OfLines}
use Rattle.gx_cli.specs.declared.fault.CliFault.{CliFault}
use Rattle.gx_cli.specs.declared.fault.CliFault.TheVariants.{OutOfMemory, ReadFailed, Revision, Store}

-- the refusal of the word with this number, which is no ref's name, or is given before
abbrev pub unknown_at : ℕ → CliFault
unknown_at number = Revision number UnknownRef

-- the refs with these names leave a repository, or this word is refused
abbrev pub DropsAll : {N : Type 0} → Repository N → Repository N → List Bytes → Result (Unit {0}) CliFault → Type 0
DropsAll old new names (Ok done) = (dropped names old.1.refs ≡ Ok new.1.refs) × (new ≡ (old.0, with_refs old.1 new.1.refs))
DropsAll old new names (Err OutOfMemory) = ⊤
DropsAll old new names (Err fault) = (number : ℕ) × (fault ≡ unknown_at number) × (dropped names old.1.refs ≡ Err number)

-- what is left, without its namer
abbrev pub shown_left : {N : Type 0} → Result (Repository N) CliFault → Result Records CliFault
shown_left (Ok left) = Ok left.1
shown_left (Err fault) = Err fault

module _ (name : Kind → Bytes → Bytes) where
  -- what is left of a repository where these refs are, which is sound, or the word with this number is refused; memory may run
  -- out whatever the words are
  abbrev pub IsDropped : Records → Result (List Ref) ℕ → Result Records CliFault → Type 0
  IsDropped old given (Err OutOfMemory) = ⊤
  IsDropped old (Ok refs) (Ok new) = (new ≡ with_refs old refs) × IsSound name new
  IsDropped old (Ok refs) (Err fault) = ⊥
  IsDropped old (Err number) (Ok new) = ⊥
  IsDropped old (Err number) (Err fault) = fault ≡ unknown_at number

  -- the refs with these names leave a repository, all of them or none, where this is behind the names: an end, or a failure, and
  -- then none does
  abbrev pub DropsRead : Bool → Records → List Bytes → Result Records CliFault → Type 0
  DropsRead false old names answer = IsDropped old (dropped names old.refs) answer
  DropsRead true old names answer = (answer ≡ Err ReadFailed) ⊎ (answer ≡ Err OutOfMemory)

  -- the same of words and, where they are asked for, of the lines of a source behind them
  abbrev pub DropsFrom : Bool → Records → List Bytes → Option Coming → Result Records CliFault → Type 0
  DropsFrom false old words coming answer = DropsRead false old words answer
  DropsFrom true old words coming answer = OfLines coming (λ lines fails. DropsRead fails old (words ++ lines) answer)

  -- the same of the store that a text was read as
  abbrev pub DropsStored : Bool → Stored Records → List Bytes → Option Coming → Result Records CliFault → Type 0
  DropsStored stdin (Ok old) words coming answer = (answer ≡ Err (Store file.OutOfMemory)) ⊎ DropsFrom stdin old words coming answer
  DropsStored stdin (Err f) words coming answer = (why : FileFault) × ((why ≡ file.OutOfMemory) ⊎ (f ≡ why)) × (answer ≡ Err (Store why))
