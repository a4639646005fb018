-- Refs that are found in their lines.
use Rattle.std.specs.Prelude.{◌≡◌, ℕ, true, Bool, List, length, Option, Some, IsTrue}
use Rattle.std.specs.declared.cmp.Ordering.TheVariants.{Less}
use Rattle.std.specs.FinMap.Entries.{is_sorted}
use Rattle.std.specs.Borrow.{Bor}
use Rattle.std.specs.List.{AllByRecursion, flat_map}
use Rattle.std.specs.Map.{lookup}
use Rattle.std.specs.Option.{option_and_then, option_map}
use Rattle.gx_model.specs.Texts.{Bytes, byte_cmp, cut_at, is_line, same_bytes}
use Rattle.gx_model.specs.Objects.{is_name}
use Rattle.gx_model.specs.Records.Lookups.{first_named}
use Rattle.gx_model.specs.Stores.StoreReading.{ref_line}
use Rattle.gx_model.specs.Stores.StoreText.{stored_ref}
use Rattle.gx_object.specs.Parts.{bytes_if}
use Rattle.gx_object.specs.declared.name.Name.{Name}
use Rattle.gx_objects.specs.Answers.{AreRefs}
use Rattle.gx_look.specs.Tails.{refs_text}

-- ---- that they are lines of refs

-- the ref in the first line, and what follows the line
abbrev pub first_ref : Bytes → Option ((Bytes × Bytes) × Bytes)
first_ref text = option_and_then (λ l. option_map (λ ref. (ref, l.1)) (ref_line l.0)) (cut_at 10 text)

-- a ref's name, and what follows its line
abbrev pub name_and_rest : (Bytes × Bytes) × Bytes → Bytes × Bytes
name_and_rest first = (first.0.0, first.1)

-- lines of so many refs, with the last line, are passed
abbrev pub PassesRefs : ℕ → Bytes → Bool → Type 0
PassesRefs count text is_passed = (refs : List (Bytes × Bytes)) → text ≡ refs_text refs → AreRefs refs → length refs ≡ count → is_passed ≡ true

-- ---- which ref has a name

-- lines of refs in the order of their names: no name breaks one, and what a ref holds is a name
pub record AreLines (lines : Bytes) (refs : List (Bytes × Bytes)) : Type 0 where
  pub spelled : lines ≡ refs_text refs
  pub names : AllByRecursion (λ ref. IsTrue (is_line ref.0)) refs
  pub targets : AllByRecursion (λ ref. IsTrue (is_name ref.1)) refs
  pub sorted : IsTrue (is_sorted byte_cmp refs)

-- what is found is the object of the ref of this name
abbrev pub FindsOne : Bytes → Bytes → Option Name → Type 0
FindsOne lines name found = (refs : List (Bytes × Bytes)) → AreLines lines refs → bytes_if found ≡ lookup (same_bytes name) refs

-- what is found is the object of the first of these names that is a ref's
abbrev pub FindsAmong : Bytes → List Bytes → Option Name → Type 0
FindsAmong lines names found = (refs : List (Bytes × Bytes)) → AreLines lines refs → bytes_if found ≡ first_named refs names

-- what is left of lines, where no ref in front has the name
pub record AreLeft (name rest : Bytes) (refs : List (Bytes × Bytes)) : Type 0 where
  pub left : List (Bytes × Bytes)
  pub lines : AreLines rest left
  pub same : lookup (same_bytes name) refs ≡ lookup (same_bytes name) left

abbrev pub LeavesName : Bytes → Bytes → Bytes → Type 0
LeavesName lines name rest = (refs : List (Bytes × Bytes)) → AreLines lines refs → AreLeft name rest refs

-- digits and a name stand in the first line
pub record AreFirst (lines digits called : Bytes) : Type 0 where
  pub line : Bytes
  pub behind : Bytes
  pub front : cut_at 10 lines ≡ Some (line, behind)
  pub parts : cut_at 32 line ≡ Some (digits, called)

-- the name in the first line is less than this one
pub record BeginsBefore (name lines : Bytes) : Type 0 where
  pub digits : Bytes
  pub called : Bytes
  pub stands : AreFirst lines digits called
  pub less : byte_cmp called name ≡ Less

-- what is left of lines are those of the refs
abbrev pub LeavesEnd : Bytes → Option (Bor Bytes) → Type 0
LeavesEnd lines left = (refs : List (Bytes × Bytes)) → AreLines lines refs → option_map (λ text. text.now) left ≡ Some (flat_map stored_ref refs)
