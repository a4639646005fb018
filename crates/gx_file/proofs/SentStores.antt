-- A sound repository whose numbers a store text can state is read from its text.
use Rattle.std.proofs.Common.{◌≡◌, ◌<◌, ◌^◌, ℕ, List, [], ◌++◌, ◌∷◌, length, codes, Option, None, Ok, refl, sym, ap, subst, ◌∙◌, append_assoc}
use Rattle.std.specs.Bool.{passes}
use Rattle.std.specs.List.{flat_map}
use Rattle.gx_model.specs.Texts.Numbers.{number_text}
use Rattle.gx_model.specs.declared.objects.Kind.{Kind}
use Rattle.gx_model.specs.declared.store_versions.Version.{Version}
use Rattle.gx_model.specs.Texts.{Bytes}
use Rattle.gx_model.specs.Faults.{◌>>=◌}
use Rattle.gx_model.specs.Objects.{IsNamer, line}
use Rattle.gx_model.specs.Histories.{Record, Records}
use Rattle.gx_model.specs.Records.Sound.{IsSound}
use Rattle.gx_model.specs.Stores.StoreText.{store_text, stored_record, stored_ref, version_text}
use Rattle.gx_model.specs.Stores.StoreReading.{Stored, next_records, next_refs, store_of, stored_count, stored_end}
use Rattle.gx_model.proofs.Stores.ReadStores.{text_of}
use Rattle.gx_model.proofs.Stores.StoreTexts.{count_read, end_read, magic_read}
use Rattle.gx_model.proofs.Stores.StoredRecords.{records_read}
use Rattle.gx_model.proofs.Stores.StoredRefs.{refs_read, targets_name, targets_test}
use Rattle.gx_model.specs.Texts.Sinks.{Taken}
use Rattle.gx_file.specs.Sending.{HaveLengths}
use Rattle.gx_model.proofs.Texts.SentTexts.{IsLeft, all_left}

-- seven texts in a row, grouped to the right
grouped : (a b c d e f g : Bytes) → a ++ b ++ c ++ d ++ e ++ f ++ g ≡ a ++ (b ++ (c ++ (d ++ (e ++ (f ++ g)))))
grouped a b c d e f g = simp append_assoc

-- the text of a repository, grouped to the right
pub text_grouped : (v : Version) (r : Records) → store_text v r ≡ text_of v (length r.records) r.records (length r.refs) r.refs (codes "end" ++ 10 ∷ [])
unfolding store_text
text_grouped v r =
    grouped (line (codes "gxstore") (version_text v)) (line (codes "objects") (number_text (length r.records))) (flat_map (stored_record v) r.records) (line (codes "refs") (number_text (length r.refs))) (flat_map stored_ref r.refs) (codes "end") (10 ∷ [])

-- before anything goes out, four texts of a repository are left
pub store_left : (v : Version) (r : Records) (was : Option Taken)
    → IsLeft (store_text v r) was was (line (codes "gxstore") (version_text v) ++ ((line (codes "objects") (number_text (length r.records)) ++ flat_map (stored_record v) r.records) ++ ((line (codes "refs") (number_text (length r.refs)) ++ flat_map stored_ref r.refs) ++ (codes "end" ++ 10 ∷ []))))
store_left v r was =
    let start = line (codes "gxstore") (version_text v) in
    let objects = line (codes "objects") (number_text (length r.records)) in
    let records = flat_map (stored_record v) r.records in
    let counted = line (codes "refs") (number_text (length r.refs)) in
    let refs = flat_map stored_ref r.refs in
    let ends = codes "end" ++ 10 ∷ [] in
    let whole = all_left (store_text v r) was in
    let parts = text_grouped v r ∙ ap (λ t. start ++ t) (sym (append_assoc objects records (counted ++ (refs ++ ends))) ∙ ap (λ t. (objects ++ records) ++ t) (sym (append_assoc counted refs ends))) in
    subst (IsLeft (store_text v r) was was) parts whole

module _ (name : Kind → Bytes → Bytes) where
  -- what is read once the refs are
  abbrev whole : List Record → List (Bytes × Bytes) × Bytes → Stored Records
  whole rs named = stored_end named.1 >>= λ u. Ok (record { records = rs; refs = named.0 })

  -- what is read once the refs are counted
  abbrev refs_rest : List Record → ℕ × Bytes → Stored Records
  refs_rest rs refs = next_refs refs.0 rs None refs.1 >>= whole rs

  -- what is read once the records are
  abbrev refs_count : List Record × Bytes → Stored Records
  refs_count records = stored_count (codes "refs") records.1 >>= refs_rest records.0

  -- what is read once the records are counted
  abbrev records_rest : Version → ℕ × Bytes → Stored Records
  records_rest v objects = (next_records name v objects.0 [] objects.1) >>= refs_count

  -- what is read once the first line is
  abbrev records_count : Version × Bytes → Stored Records
  records_count start = stored_count (codes "objects") start.1 >>= records_rest start.0

  pub sent_store_read : IsNamer name → (v : Version) (r : Records) → IsSound name r → length r.records < 2 ^ 64 → HaveLengths r.records → length r.refs < 2 ^ 64 → store_of name (store_text v r) ≡ Ok r
  unfolding store_of
  sent_store_read namer v r i few short few_refs =
      let rs = r.records in
      let xs = r.refs in
      let ends = codes "end" ++ 10 ∷ [] in
      let refs_text = flat_map stored_ref xs ++ ends in
      let objects_text = flat_map (stored_record v) rs ++ (line (codes "refs") (number_text (length xs)) ++ refs_text) in
      let alone : IsSound name (record { records = rs; refs = [] }) = record { named = i.named; distinct = i.distinct; linked = i.linked; paths = i.paths; sorted = refl; ref_names = refl; held = tt } in
      ap (store_of name) (text_grouped v r)
      ∙ ap (λ s. s >>= records_count) (magic_read v (line (codes "objects") (number_text (length rs)) ++ objects_text))
      ∙ ap (λ s. s >>= records_rest v) (count_read (codes "objects") (length rs) objects_text tt few)
      ∙ ap (λ s. s >>= refs_count) (records_read name v namer [] rs (line (codes "refs") (number_text (length xs)) ++ refs_text) alone short)
      ∙ ap (λ s. s >>= refs_rest rs) (count_read (codes "refs") (length xs) refs_text tt few_refs)
      ∙ ap (λ s. s >>= whole rs) (refs_read rs None xs ends (targets_name name namer rs i.distinct i.named xs i.held) (passes _ i.ref_names) (targets_test rs i.distinct xs i.held) tt (passes _ i.sorted))
      ∙ ap (λ s. s >>= λ u. Ok (record { records = rs; refs = xs })) end_read
