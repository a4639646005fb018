-- The line of a record at the front of a text.
use Rattle.std.proofs.Common.{◌≡◌, ℕ, ◌+◌, ◌-◌, ◌≤◌, ◌++◌, ◌∷◌, length, Some, None, sym, ap, ◌∙◌, arith}
use Rattle.std.specs.Bool.{passes}
use Rattle.std.proofs.lemmas.List.{length-append}
use Rattle.gx_model.specs.declared.store_faults.FileFault.TheVariants as fault
use Rattle.gx_model.specs.declared.store_versions.Version.TheVariants.{Two}
use Rattle.gx_model.specs.Texts.{Bytes, cut_at}
use Rattle.gx_model.specs.Objects.Naming.{kind_word}
use Rattle.gx_model.specs.Histories.{Record}
use Rattle.gx_model.specs.Stores.StoreReading.{record_line}
use Rattle.gx_model.specs.Stores.StoreText.{length_text}
use Rattle.gx_model.proofs.Texts.Cuts.{cut_spelled, some_is}
use Rattle.gx_model.proofs.Stores.RecordLines.{kind_found, length_is_line, record_line_read}
use Rattle.gx_model.proofs.Stores.StoreTexts.{if_there, word_line_read}
use Rattle.gx_look.specs.Records.{IsWritten, heading_text}

-- a line's cut is in the text
pub rest_short : (text line rest : Bytes) → cut_at 10 text ≡ Some (line, rest) → length rest ≤ length text
rest_short text line rest e =
    let l = ap length (cut_spelled 10 text (line, rest) e) ∙ length-append line (10 ∷ rest) in
    omega arith

module _ (held : Record) (rest text : Bytes) (written : IsWritten held) (spelled : text ≡ heading_text held ++ rest) where
  -- what stands in the line
  abbrev inside : Bytes
  inside = kind_word held.kind ++ 32 ∷ length_text Two (length held.body) held.name

  cut_there : cut_at 10 text ≡ Some (inside, rest)
  cut_there =
      ap (cut_at 10) spelled
      ∙ if_there fault.Truncated (cut_at 10 (heading_text held ++ rest)) (inside, rest)
      (word_line_read (kind_word held.kind) (length_text Two (length held.body) held.name) rest (kind_found held.kind).2 (length_is_line Two (length held.body) held.name))

  line_there : record_line Two inside ≡ Some (held.kind, (length held.body, Some held.name))
  line_there = record_line_read Two held.kind (length held.body) held.name written.length (passes _ written.name)

  -- a line is there
  pub some_line : cut_at 10 text ≡ None → ⊥
  some_line e = let l = sym cut_there ∙ e in cc

  -- and it is a record's
  pub some_heading : (line after : Bytes) → cut_at 10 text ≡ Some (line, after) → record_line Two line ≡ Some (held.kind, (length held.body, Some held.name))
  some_heading line after e =
      let same = some_is (line, after) (inside, rest) (sym e ∙ cut_there) in
      ap (record_line Two) (ap (λ (p : Bytes × Bytes). p.0) same) ∙ line_there

  -- what follows it stands behind its bytes
  pub heading_long : (line after : Bytes) → cut_at 10 text ≡ Some (line, after) → length text - length after ≡ length (heading_text held)
  heading_long line after e =
      let same = ap (λ (p : Bytes × Bytes). length p.1) (some_is (line, after) (inside, rest) (sym e ∙ cut_there)) in
      let l = ap length spelled ∙ length-append (heading_text held) rest in
      less (length text) (length after) (length rest) (length (heading_text held)) same l
    where
      less : (text after rest heading : ℕ) → after ≡ rest → text ≡ heading + rest → text - after ≡ heading
      less text after rest heading e f = omega arith
