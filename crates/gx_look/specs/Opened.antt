-- What is held of a growing text that was opened.
use Rattle.std.specs.Prelude.{◌≡◌, ℕ, ◌<◌, ◌^◌, Bool, Option, Some, None, Ok, ⊤}
use Rattle.sha2.specs.Sha256.{sha256}
use Rattle.gx_model.specs.declared.objects.Kind.{Kind}
use Rattle.gx_model.specs.Texts.{Bytes}
use Rattle.gx_model.specs.Histories.{Records}
use Rattle.gx_growing.specs.GrowingText.{Slot, part, picks_first}
use Rattle.gx_growing.specs.GrowingReading.{Front, front_of, grown_of}
use Rattle.gx_look.specs.declared.tail.Tail.{Tail}
use Rattle.gx_look.specs.Tails.{HoldsTail, IsWithin}

-- the end and the tail are those of a growing text
abbrev pub IsOpenedAs : {A : Type 0} → (Kind → Bytes → Bytes) → Option Bytes → ℕ → Tail A → Type 0
IsOpenedAs name None ends tail = ⊤
IsOpenedAs name (Some text) ends tail =
    (r : Records) → grown_of name sha256 text ≡ Ok r → (x : Slot × Front) → front_of name text ≡ Ok x
    → (ends ≡ x.0.ends) × HoldsTail x.1.runs x.1.refs tail

-- a growing text picks the first slot, or the second
abbrev pub IsPicked : (Kind → Bytes → Bytes) → Option Bytes → Bool → Type 0
IsPicked name None is_first = ⊤
IsPicked name (Some text) is_first = (r : Records) → grown_of name sha256 text ≡ Ok r → picks_first (part text 10 1) ≡ is_first

pub record IsOpened {A : Type 0} (name : Kind → Bytes → Bytes) (told : Option Bytes) (is_first : Bool) (ends : ℕ) (tail : Tail A) : Type 0 where
  pub small : ends < 2 ^ 64
  pub within : IsWithin ends tail
  pub picks : IsPicked name told is_first
  pub last : IsOpenedAs name told ends tail
