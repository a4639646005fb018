-- The record at a place of a text that is told, or why there is none.
use Rattle.std.proofs.Common.{◌≡◌, ℕ, ◌+◌, ◌-◌, ◌<◌, ◌≤◌, ◌∷◌, length, take, drop, Option, Some, None, Ok, Err, refl, sym, ap, ◌∙◌, subst, arith}
use Rattle.std.proofs.Math.Seq.{drop-drop}
use Rattle.std.proofs.lemmas.List.{length-append, length-drop}
use Rattle.gx_model.specs.declared.store_faults.FileFault.{FileFault}
use Rattle.gx_model.specs.declared.store_versions.Version.{Version}
use Rattle.gx_model.specs.Texts.{Bytes}
use Rattle.gx_model.specs.Stores.StoreReading.{record_line, stored_body, stored_line}
use Rattle.gx_model.proofs.Stores.StoreTexts.{line_of}
use Rattle.gx_object.specs.Parts.{bytes_if}
use Rattle.gx_objects.specs.declared.fault.LookFault.{LookFault}
use Rattle.gx_objects.specs.declared.fault.LookFault.TheVariants.{Damaged}
use Rattle.gx_look.specs.Reading.{EndsBefore}
use Rattle.gx_plain.specs.Reading.{IsFrontAt, IsRefused}
use Rattle.gx_plain.specs.Records.{IsParts, ReadsParts, end_of, next_parts, shown_heading}
use Rattle.gx_plain.specs.declared.heading.Heading.{Heading}
use Rattle.gx_plain.specs.declared.records.Found.{Found}
use Rattle.gx_plain.proofs.PartsOfRecords.{body_there, ends_before, no_body, no_heading, no_line}

-- what follows a line is a part of what was read
pub line_fits : (first : Bytes) (l : Bytes × Bytes) → stored_line first ≡ Ok l → length l.1 < length first
line_fits first l e = let long = ap length (line_of first l e) ∙ length-append l.0 (10 ∷ l.1) in omega arith

-- other faults tell nothing of the text
pub unknown_parts : (v : Version) (told : Option Bytes) (at : ℕ) (room : Bytes) (why : LookFault) → (why ≡ Damaged → ⊥) → ReadsParts v told at room (Err why)
unknown_parts v None at room why h = tt
unknown_parts v (Some text) at room why h = λ same. absurd (h same)

-- what is refused of each text that is told
refused_parts : (v : Version) (told : Option Bytes) (at : ℕ) (room : Bytes) → ((text : Bytes) → told ≡ Some text → IsRefused (next_parts v (drop at text))) → ReadsParts v told at room (Err Damaged)
refused_parts v None at room f = tt
refused_parts v (Some text) at room f = λ same. f text refl

module _ (v : Version) (told : Option Bytes) (at : ℕ) (first : Bytes) (c : ℕ) (wide : 80 ≤ c) (front : IsFrontAt told at c first) where
  -- what was read first of a text that is told
  front_in : (text : Bytes) → told ≡ Some text → first ≡ take c (drop at text)
  front_in text e = subst (λ t. IsFrontAt t at c first) e front

  pub no_line_told : (room : Bytes) (why : FileFault) → stored_line first ≡ Err why → ReadsParts v told at room (Err Damaged)
  no_line_told room why e = refused_parts v told at room (λ text is. no_line v (drop at text) c why wide (ap stored_line (sym (front_in text is)) ∙ e))

  module _ (l : Bytes × Bytes) (line : stored_line first ≡ Ok l) where
    line_in : (text : Bytes) → told ≡ Some text → stored_line (take c (drop at text)) ≡ Ok l
    line_in text is = ap stored_line (sym (front_in text is)) ∙ line

    pub no_heading_told : (room : Bytes) → None ≡ record_line v l.0 → ReadsParts v told at room (Err Damaged)
    no_heading_told room none = refused_parts v told at room (λ text is. no_heading v (drop at text) c l (line_in text is) none)

    module _ (heading : Heading) (start end : ℕ) (said : Some (shown_heading heading) ≡ record_line v l.0) (starts : start ≡ length first - length l.1) (ends : end ≡ start + heading.length) where
      start_is : start ≡ length l.0 + 1
      start_is = let long = ap length (line_of first l line) ∙ length-append l.0 (10 ∷ l.1) in omega arith

      pub ends_told : (room : Bytes) (why : LookFault) → EndsBefore told (at + end + 1) why → ReadsParts v told at room (Err why)
      ends_told room why short = by told refl short
        where
          by : (o : Option Bytes) → told ≡ o → EndsBefore o (at + end + 1) why → ReadsParts v o at room (Err why)
          by None is h = tt
          by (Some text) is h = λ same.
              let few = h same in
              let long = length-drop at text in
              ends_before v (drop at text) c l (line_in text is) (shown_heading heading) start said start_is (omega arith)

      module _ (room : Bytes) (m : ℕ) (read : IsFrontAt told at m room) (enough : end < length room) where
        read_in : (text : Bytes) → told ≡ Some text → room ≡ take m (drop at text)
        read_in text is = subst (λ t. IsFrontAt t at m room) is read

        pub no_body_told : (why : FileFault) → stored_body heading.length (drop start room) ≡ Err why → ReadsParts v told at room (Err Damaged)
        no_body_told why e = refused_parts v told at room (λ text is.
            no_body v (drop at text) c l (line_in text is) (shown_heading heading) start said start_is room m (read_in text is) (omega arith) why e)

        pub found_told : (x : Bytes × Bytes) → stored_body heading.length (drop start room) ≡ Ok x → ReadsParts v told at room (Ok (record { kind = heading.kind; stated = heading.stated; start = start; end = end }))
        found_told x e = by told (λ text is. there text is)
          where
            found : Found
            found = record { kind = heading.kind; stated = heading.stated; start = start; end = end }

            there : (text : Bytes) → told ≡ Some text → IsParts v text at room found
            there text is =
                let b = body_there v (drop at text) c l (line_in text is) (shown_heading heading) start said start_is room m (read_in text is) (omega arith) x e in
                let n : heading.length ≡ end - start = omega arith in
                let s : at + (start + heading.length + 1) ≡ end_of at found = omega arith in
                let rest : drop (start + heading.length + 1) (drop at text) ≡ drop (end_of at found) text = drop-drop (start + heading.length + 1) at text ∙ ap (λ k. drop k text) s in
                let long = length-drop at text in
                let fits = b.1 in
                record {
                  parts = b.0 ∙ (λ i. Ok ((heading.kind, (n i, bytes_if heading.stated)), (take (n i) (drop start room), rest i)));
                  within = omega arith;
                }

            by : (o : Option Bytes) → ((text : Bytes) → o ≡ Some text → IsParts v text at room found) → ReadsParts v o at room (Ok found)
            by None f = tt
            by (Some text) f = f text refl
