-- Identities: who made a commit or a tag, and when. Source: git-fast-import(1), "author", "committer" and "Date Formats".
use Rattle.std.specs.Prelude.{IsTrue, ◌≡◌, ℕ, Bool, false, ◌&&◌, ◌||◌, ◌==◌, nat_eq, nat_lt, nat_le, codes, [], ◌∷◌, ◌++◌, length, Option, Some, None, ◌⊎◌}
use Rattle.std.specs.List.{list_all, ends_with}
use Rattle.std.specs.Char.{is_ascii_digit}
use Rattle.std.specs.Str.Parse.{digits_value}
use Rattle.gx_model.specs.Texts.{Bytes, cut_at, lacks}
use Rattle.gx_model.specs.Texts.Numbers.{is_number}

-- a name or an email: no `<`, no `>` and no LF
abbrev pub is_plain : Bytes → Bool
is_plain bs = lacks 60 bs && lacks 62 bs && lacks 10 bs

-- what stands before the `<`: nothing, or a name and a space
abbrev pub IsIdentHead : Bytes → Type 0
IsIdentHead head = (head ≡ []) ⊎ ((name : Bytes) × IsTrue (is_plain name) × (head ≡ name ++ 32 ∷ []))

-- digits of an offset: one or more, of value at most 1400
abbrev pub is_offset : Bytes → Bool
is_offset ds = list_all is_ascii_digit ds && nat_lt 0 (length ds) && nat_le (digits_value 10 ds) 1400

-- a name, an email, and a date: seconds and an offset
pub record IsIdent (bs : Bytes) : Type 0 where
  pub head : Bytes
  pub email : Bytes
  pub seconds : Bytes
  pub sign : ℕ
  pub offset : Bytes
  pub spelled : bs ≡ head ++ 60 ∷ email ++ 62 ∷ 32 ∷ seconds ++ 32 ∷ sign ∷ offset
  pub head_is : IsIdentHead head
  pub email_is : IsTrue (is_plain email)
  pub seconds_is : IsTrue (is_number seconds)
  pub sign_is : (sign ≡ 43) ⊎ (sign ≡ 45)
  pub offset_is : IsTrue (is_offset offset)

-- ---- the same, read from the left

-- the test of a value, failed where there is none
abbrev pub on_some : {A : Type 0} → Option A → (A → Bool) → Bool
on_some None f = false
on_some (Some x) f = f x

-- the same as IsIdentHead, as a test
abbrev pub is_head : Bytes → Bool
is_head head = length head == 0 || (is_plain head && ends_with nat_eq head (codes " "))

-- a sign and the digits of an offset
abbrev pub is_signed_offset : Bytes → Bool
is_signed_offset [] = false
is_signed_offset (sign ∷ offset) = (sign == 43 || sign == 45) && is_offset offset

-- the same as IsIdent, as a test
unfoldable pub is_ident : Bytes → Bool
is_ident bs =
    on_some (cut_at 60 bs) (λ a. on_some (cut_at 62 a.1) (λ b. on_some (cut_at 32 b.1) (λ c. on_some (cut_at 32 c.1) (λ d.
    is_head a.0 && is_plain b.0 && length c.0 == 0 && is_number d.0 && is_signed_offset d.1))))
