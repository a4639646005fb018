-- What is entered of a command. Source: git-fast-import(1), "Commands".
use Rattle.std.specs.Prelude.{ℕ, List, ⊤}
use Rattle.std.specs.declared.vec.Vec.{Vec}
use Rattle.gx_model.specs.Texts.{Bytes}
use Rattle.gx_model.specs.Streams.Commands.{Change, Command, CommitIsh, CommitParts}
use Rattle.gx_stand_ins.specs.Asked.{OfChange, OfCommit, OfCommitIsh}
use Rattle.gx_stand_ins.specs.SmallRepositories.{BeginsOtherwise}
use Rattle.gx_stand_ins.specs.declared.bodies.TheConstants.{NONCE}
use Rattle.gx_asked.specs.Asking.{AsksAmong, HasOtherMessage, IsAmong, texts_of}
use Rattle.gx_asked.specs.declared.asked.Asked.{Asked}
use Rattle.gx_asked.specs.declared.fault.AskedFault.{AskedFault}
use Rattle.gx_asked.specs.declared.fault.AskedFault.TheVariants.{OutOfMemory, Unread, StandsForAnother}

module _ {A : Type 0} where
  -- each text that was among the first is among the second
  abbrev pub KeepsTexts : List (Vec ℕ A) → List (Vec ℕ A) → Type 0
  KeepsTexts old new = (text : Bytes) → IsAmong (texts_of old) text → IsAmong (texts_of new) text

  -- the branches and the bases that were entered stay
  pub record Keeps (old new : Asked A) : Type 0 where
    pub branches : KeepsTexts old.branches.keys new.branches.keys
    pub bases : KeepsTexts old.bases.keys new.bases.keys

  module _ (asked : Asked A) where
    -- a branch and a base were entered
    abbrev pub HasBranch : Bytes → Type 0
    HasBranch = IsAmong (texts_of asked.branches.keys)

    abbrev pub HasBase : Bytes → Type 0
    HasBase = IsAmong (texts_of asked.bases.keys)

    -- all that a command asks for was entered, and what it brings begins otherwise than what stands for others
    abbrev pub Asks : Command → Type 0
    Asks = AsksAmong (texts_of asked.branches.keys) (texts_of asked.bases.keys)

    -- so it is with its parts
    abbrev pub AsksCommit : CommitParts → Type 0
    AsksCommit = OfCommit HasBranch HasBase (BeginsOtherwise NONCE) HasOtherMessage

    abbrev pub AsksCommitIsh : CommitIsh → Type 0
    AsksCommitIsh = OfCommitIsh HasBranch HasBase (BeginsOtherwise NONCE) HasOtherMessage

    abbrev pub AsksChange : Change → Type 0
    AsksChange = OfChange HasBranch HasBase (BeginsOtherwise NONCE) HasOtherMessage

-- what the parts of a command bring begins otherwise
abbrev pub IsOtherCommit : CommitParts → Type 0
IsOtherCommit = OfCommit (λ branch. ⊤) (λ base. ⊤) (BeginsOtherwise NONCE) HasOtherMessage

abbrev pub IsOtherChange : Change → Type 0
IsOtherChange = OfChange (λ branch. ⊤) (λ base. ⊤) (BeginsOtherwise NONCE) HasOtherMessage

-- why something isn't entered: a growth was refused, or it doesn't begin otherwise, as it would have to
abbrev pub IsWhy : Type 0 → AskedFault → Type 0
IsWhy otherwise OutOfMemory = ⊤
IsWhy otherwise (Unread fault) = ⊥
IsWhy otherwise StandsForAnother = otherwise → ⊥
