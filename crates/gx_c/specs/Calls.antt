-- What a call of C does with a handle.
-- Source: this project's own.
use Rattle.std.specs.Prelude.{◌≡◌, ℕ, ◌++◌, min, length, take, drop, false, true, [], Option, Some, None}
use Rattle.std.specs.declared.boxed.Box.{Box}
use Rattle.gx_model.specs.Texts.{Bytes}
use Rattle.gx_versions.specs.declared.forms.StoreForm.TheVariants.{Plain}
use Rattle.gx_c.specs.Answers.{status_of}
use Rattle.gx_c.specs.declared.answer.Why.TheVariants.{Done}
use Rattle.gx_c.specs.declared.opened.Opened.{Opened}
use Rattle.gx_c.specs.declared.store.Store.{Store}

-- what a handle holds is taken, which leaves it closed; of a closed one nothing is
abbrev pub Takes : {A : Type 0} → Store → Store → Option (Box Opened A) → Type 0
Takes old new None = (old.held.value ≡ None) × (new ≡ old)
Takes old new (Some opened) = (old.is_open ≡ true) × (old.held.value ≡ Some opened.value) × (new.is_open ≡ false) × (new.held.value ≡ None)

-- the repository has no objects and no refs and is of no growing text, and no words are given
pub record IsNew (opened : Opened) : Type 0 where
  pub repository : opened.repo.1 ≡ record { records = []; refs = [] }
  pub form : opened.form ≡ Plain
  pub words : opened.words.items ≡ []
  pub done : opened.answer.why ≡ Done
  pub nothing : opened.answer.bytes.items ≡ []

-- A closed handle holds a new repository, unless memory ran out; one that is open stays as it was.
abbrev pub Opens : Option Opened → Option Opened → Store → Store → ℕ → Type 0
Opens (Some was) held old new status = (status ≡ 3) × (new ≡ old)
Opens None None old new status = (status ≡ 4) × (new ≡ old)
Opens None (Some now) old new status = (status ≡ 0) × (new.is_open ≡ true) × IsNew now

-- it holds nothing
abbrev pub Closes : Store → Type 0
Closes new = (new.is_open ≡ false) × (new.held.value ≡ None)

-- What an open handle holds goes over into what it holds then, and the status is that of its answer. A closed one stays as it was, with the
-- status 2.
abbrev pub CallsSo : (Opened → Opened → Type 0) → Option Opened → Option Opened → Store → Store → ℕ → Type 0
CallsSo Goes None held old new status = (status ≡ 2) × (new ≡ old)
CallsSo Goes (Some was) None old new status = ⊥
CallsSo Goes (Some was) (Some now) old new status = Goes was now × (status ≡ status_of now.answer.why) × (new.is_open ≡ true)

abbrev pub Calls : (Opened → Opened → Type 0) → Store → Store → ℕ → Type 0
Calls Goes old new status = CallsSo Goes old.held.value new.held.value old new status

-- What an open handle holds is so, and of a closed one this holds. Neither changes.
abbrev pub ReadsSo : (Opened → Type 0) → Type 0 → Option Opened → Type 0
ReadsSo IsSo IsClosed None = IsClosed
ReadsSo IsSo IsClosed (Some opened) = IsSo opened

abbrev pub Reads : (Opened → Type 0) → Type 0 → Store → Store → Type 0
Reads IsSo IsClosed old new = ReadsSo IsSo IsClosed old.held.value × (new.held.value ≡ old.held.value) × (new.is_open ≡ old.is_open)

-- the front of a text goes over the front of a room, as far as both go, and so many bytes were copied
pub record IsCopied (text old new : Bytes) (count : ℕ) : Type 0 where
  pub number : count ≡ min (length text) (length old)
  pub bytes : new ≡ take count text ++ drop count old

-- This text of what an open handle holds is copied, and of a closed one nothing. Neither changes.
abbrev pub Copies : (Opened → Bytes) → Bytes → Bytes → ℕ → Store → Store → Type 0
Copies text_of room_was room count old new =
    Reads (λ opened. IsCopied (text_of opened) room_was room count) (IsCopied [] room_was room count) old new
