-- By which calls a text takes a store file's place, and by which it doesn't.
use Rattle.std.specs.Prelude.{◌≡◌, ◌≢◌, ℕ, List, [], ◌∷◌, Result, Ok, Err}
use Rattle.std.specs.IoError.{error_kind}
use Rattle.std.specs.declared.io.Error.{Error}
use Rattle.std.specs.declared.io.ErrorKind.TheVariants.{NotFound, InvalidInput}
use Rattle.gx_place.specs.declared.fault.PlaceFault.{PlaceFault}
use Rattle.gx_place.specs.declared.fault.PlaceFault.TheVariants.{Exists, Changed, Unwritten}
use Rattle.gx_place.specs.declared.fault.Subject.TheVariants as subject
use Rattle.gx_place.specs.declared.look.Look.{Look}
use Rattle.gx_place.specs.declared.look.Stamp.{Stamp}
use Rattle.gx_place.specs.declared.putting.Expected.{Expected}
use Rattle.gx_place.specs.declared.putting.Expected.TheVariants.{Nothing, Stamped}
use Rattle.gx_place.specs.Calls.{Text, Call, Looked, LookedAtName, LookedAt, Synced, Renamed}

-- a store file's path and that of its next text, the next text and the folder, which are open, and what has to stand in its place
pub record Files : Type 0 where
  pub store : Text
  pub next : Text
  pub held : ℕ
  pub folder : ℕ
  pub expected : Expected

-- what is seen is as expected: nothing, or the file with this stamp
abbrev pub IsExpected : Expected → Result Look Error → Type 0
IsExpected Nothing (Ok look) = ⊥
IsExpected Nothing (Err error) = error_kind error ≡ NotFound
IsExpected (Stamped stamp) (Ok look) = look.stamp ≡ stamp
IsExpected (Stamped stamp) (Err error) = ⊥

-- The text was synced, and its name named it still.
abbrev pub durable_by : Files → Look → Look → List Call
durable_by f named now = LookedAt f.held (Ok now) ∷ LookedAtName f.next (Ok named) ∷ Synced f.held (Ok tt) ∷ []

abbrev pub IsSame : Look → Look → Type 0
IsSame named now = named.stamp.identity ≡ now.stamp.identity

-- then FILE was looked at
abbrev pub seen_by : Files → Look → Look → Result Look Error → List Call
seen_by f named now seen = Looked f.store seen ∷ durable_by f named now

-- It wasn't synced, or is without its name.
pub data IsUndurable (f : Files) : List Call → Type 0 where
  unsynced : {error : Error} → IsUndurable f (Synced f.held (Err error) ∷ [])
  nameless : {error : Error} → IsUndurable f (LookedAtName f.next (Err error) ∷ Synced f.held (Ok tt) ∷ [])
  unknown : {named : Look} {error : Error} → IsUndurable f (LookedAt f.held (Err error) ∷ LookedAtName f.next (Ok named) ∷ Synced f.held (Ok tt) ∷ [])
  replaced : {named now : Look} → (named.stamp.identity ≡ now.stamp.identity → ⊥) → IsUndurable f (durable_by f named now)

-- a folder is synced, or is of a file system that has no such request
abbrev pub IsSynced : Result (Unit {0}) Error → Type 0
IsSynced (Ok done) = Unit {0}
IsSynced (Err error) = error_kind error ≡ InvalidInput

-- Each outcome with all calls that lead to it. The last two alone rename, and only where the text is durable under its name, and FILE
-- was as expected at the look just before.
pub data Puts (f : Files) : Result Stamp PlaceFault → List Call → Type 0 where
  undurable : {error : Error} {made : List Call} → IsUndurable f made → Puts f (Err (Unwritten subject.NextText error)) made
  exists : {named now seen : Look} → IsSame named now → f.expected ≡ Nothing → Puts f (Err Exists) (seen_by f named now (Ok seen))
  changed : {named now seen : Look} {stamp : Stamp} → IsSame named now → f.expected ≡ Stamped stamp → (seen.stamp ≡ stamp → ⊥)
      → Puts f (Err Changed) (seen_by f named now (Ok seen))
  unseen : {named now : Look} {error : Error} → IsSame named now → Puts f (Err (Unwritten subject.Store error)) (seen_by f named now (Err error))
  unrenamed : {named now : Look} {seen : Result Look Error} {error : Error} → IsSame named now → IsExpected f.expected seen
      → Puts f (Err (Unwritten subject.Store error)) (Renamed f.next f.store (Err error) ∷ seen_by f named now seen)
  unsynced_folder : {named now : Look} {seen : Result Look Error} {error : Error} → IsSame named now → IsExpected f.expected seen
      → Puts f (Err (Unwritten subject.Folder error)) (Synced f.folder (Err error) ∷ Renamed f.next f.store (Ok tt) ∷ seen_by f named now seen)
  put : {named now : Look} {seen : Result Look Error} {synced : Result (Unit {0}) Error} → IsSame named now → IsExpected f.expected seen → IsSynced synced
      → Puts f (Ok now.stamp) (Synced f.folder synced ∷ Renamed f.next f.store (Ok tt) ∷ seen_by f named now seen)

-- What is seen is as expected, or is refused: as it is there, is another file, or couldn't be looked at.
abbrev pub Wants : Expected → Result Look Error → Result (Unit {0}) PlaceFault → Type 0
Wants expected seen (Ok done) = IsExpected expected seen
Wants expected (Ok look) (Err Exists) = expected ≡ Nothing
Wants expected (Ok look) (Err Changed) = (stamp : Stamp) × (expected ≡ Stamped stamp) × (look.stamp ≡ stamp → ⊥)
Wants expected (Err error) (Err fault) = fault ≡ Unwritten subject.Store error
Wants expected seen (Err fault) = ⊥
