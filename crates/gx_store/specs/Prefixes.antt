-- What a prefix gives, by the records that it begins.
use Rattle.std.specs.Prelude.{◌≡◌, ℕ, ◌-◌, Bool, false, List, [], ◌∷◌, ◌++◌, length, nat_le, replicate, IsTrue, Option, None, if◌then◌else◌}
use Rattle.gx_model.specs.Texts.{Bytes}
use Rattle.gx_model.specs.Objects.{is_name}
use Rattle.gx_model.specs.Objects.Naming.{name_in}
use Rattle.gx_model.specs.Revisions.Denotation.{begins_with_digits}
use Rattle.gx_model.specs.Histories.{Record}
use Rattle.gx_object.specs.declared.name.Name.{Name}
use Rattle.gx_store.specs.NameOrder.{is_within}
use Rattle.gx_store.specs.declared.prefix.Prefix.{Prefix}
use Rattle.gx_store.specs.declared.prefix.Prefix.TheVariants.{Unique, Absent, Ambiguous}

abbrev pub prefix_of : List Record → Prefix
prefix_of [] = Absent
prefix_of (r ∷ []) = Unique (record { bytes = r.name })
prefix_of (r ∷ s ∷ rs) = Ambiguous

-- what two answers give together, where what they found differs
abbrev pub joined : Prefix → Prefix → Prefix
joined Absent found = found
joined (Unique name) Absent = Unique name
joined (Unique name) (Unique other) = Ambiguous
joined (Unique name) Ambiguous = Ambiguous
joined Ambiguous found = Ambiguous

-- what is found among these names by a test
abbrev pub picked : (Name → Bool) → List Name → Prefix
picked test [] = Absent
picked test (name ∷ names) = if test name then joined (Unique name) (picked test names) else picked test names

-- what is found between two names, both included
abbrev pub found_between : Name × Name → List Name → Prefix
found_between ends names = picked (λ name. is_within ends.0.bytes ends.1.bytes name.bytes) names

-- the name whose digits are these and then one digit again and again
unfoldable pub filled : Bytes → ℕ → Option Bytes
filled digits digit = if nat_le (length digits) 40 then name_in (digits ++ replicate (40 - length digits) digit) else None

-- the names that begin with these digits are those between two
abbrev pub AreEnds : Bytes → Name → Name → Type 0
AreEnds digits least greatest = (name : Bytes) → IsTrue (is_name name) → is_within least.bytes greatest.bytes name ≡ begins_with_digits digits name

-- no name begins with these digits
abbrev pub BeginNone : Bytes → Type 0
BeginNone digits = (name : Bytes) → IsTrue (is_name name) → begins_with_digits digits name ≡ false
