-- The names that the lines of records state.
use Rattle.std.proofs.Common.{◌≡◌, ℕ, true, false, cond, Option, Some, None, sym, ap, ◌∙◌}
use Rattle.std.specs.Prelude.{Bool, refl}
use Rattle.std.specs.Option.{option_and_then}
use Rattle.std.proofs.lemmas.Option.{cond_some}
use Rattle.std.specs.Map.{lookup}
use Rattle.gx_model.specs.declared.objects.Kind.{Kind}
use Rattle.gx_model.specs.declared.store_versions.Version.{Version}
use Rattle.gx_model.specs.declared.store_versions.Version.TheVariants.{Two}
use Rattle.gx_model.specs.Texts.{Bytes, cut_at, same_bytes}
use Rattle.gx_model.specs.Texts.Digits.{is_name_text}
use Rattle.gx_model.specs.Objects.{unhex}
use Rattle.gx_model.specs.Objects.Naming.{lower_name_in}
use Rattle.gx_model.specs.Stores.StoreReading.{Length, kind_words, length_field, record_line, stored_number, with_digits, with_length}

-- The length and the digits of a name that stand in a field.
module _ (field number digits : Bytes) (n : ℕ) (cut : Some (number, digits) ≡ cut_at 32 field) (counted : Some n ≡ stored_number number) where
  -- What is read of the digits tells what is read of the field.
  so : length_field Two field ≡ with_digits digits n
  so =
      ap (option_and_then (λ p. option_and_then (with_digits p.1) (stored_number p.0))) (sym cut)
      ∙ ap (option_and_then (with_digits digits)) (sym counted)

  -- A name that is read is stated.
  pub stated : (name : Bytes) → Some name ≡ lower_name_in digits → Some (n, Some name) ≡ length_field Two field
  unfolding lower_name_in
  stated name read =
      let q = cond_some (is_name_text digits) (unhex digits) name (sym read) in
      sym (so ∙ (λ i. cond (q.0 i) (Some (n, Some (q.1 i))) None))

  -- Where no name is read, none is stated.
  pub unstated : None ≡ lower_name_in digits → None ≡ length_field Two field
  unfolding lower_name_in
  unstated read = sym (so ∙ by (is_name_text digits) refl read)
    where
      by : (b : Bool) → is_name_text digits ≡ b → None ≡ cond b (Some (unhex digits)) None → with_digits digits n ≡ None
      by true e h = absurd (cc)
      by false e h = λ i. cond (e i) (Some (n, Some (unhex digits))) None

-- A record's line is read where its kind and its field are.
pub heading_read : (v : Version) (l word field : Bytes) (k : Kind) (n : Option Length) → Some (word, field) ≡ cut_at 32 l → Some k ≡ lookup (same_bytes word) kind_words → n ≡ length_field v field → option_and_then (λ n. Some (k, n)) n ≡ record_line v l
heading_read v l word field k n c s h =
    ap (option_and_then (λ n. Some (k, n))) h
    ∙ ap (option_and_then (with_length v field)) s
    ∙ ap (option_and_then (λ p. option_and_then (with_length v p.1) (lookup (same_bytes p.0) kind_words))) c
