-- The text of a sound repository is read as that repository, and nothing else is read of any text.
use Rattle.std.proofs.Common.{◌≡◌, ℕ, ◌+◌, ◌≤◌, ◌<◌, ◌^◌, refl, sym, ap, subst, ◌∙◌, List, [], ◌∷◌, ◌++◌, length, None, Ok, codes, arith, append_assoc, length-append}
use Rattle.std.specs.Bool.{passes}
use Rattle.std.specs.List.{AllByRecursion, flat_map}
use Rattle.gx_model.specs.declared.objects.Kind.{Kind}
use Rattle.gx_model.specs.declared.store_versions.Version.{Version}
use Rattle.gx_model.specs.Texts.Numbers.{number_text}
use Rattle.gx_model.specs.Texts.{Bytes}
use Rattle.gx_model.specs.Faults.{◌>>=◌}
use Rattle.gx_model.specs.Objects.{IsNamer, hex, line}
use Rattle.gx_model.specs.Histories.{Record, Records}
use Rattle.gx_model.specs.Objects.Naming.{kind_word}
use Rattle.gx_model.specs.Records.Sound.{IsSound}
use Rattle.gx_model.specs.Stores.StoreText.{IsStoreText, length_text, store_text, stored_record, stored_ref, version_text}
use Rattle.gx_model.specs.Stores.StoreReading.{Stored, after_magic, next_records, next_refs, store_of, stored_count, stored_end}
use Rattle.gx_model.proofs.Texts.PathTests.{is_true}
use Rattle.gx_model.proofs.Stores.StoreTexts.{both_steps, count_of, count_read, end_of, end_read, magic_of, magic_read, ok_is}
use Rattle.gx_model.proofs.Stores.StoredRecords.{records_of_text, records_read}
use Rattle.gx_model.proofs.Stores.StoredRefs.{refs_of_text, refs_read, targets_name, targets_of, targets_test}

-- ---- the parts of a text

-- seven texts in a row, grouped to the right
grouped : (a b c d e f g : Bytes) → a ++ b ++ c ++ d ++ e ++ f ++ g ≡ a ++ (b ++ (c ++ (d ++ (e ++ (f ++ g)))))
grouped a b c d e f g = simp append_assoc

-- a text of this many records and refs, grouped to the right
abbrev pub text_of : Version → ℕ → List Record → ℕ → List (Bytes × Bytes) → Bytes → Bytes
text_of v n rs m xs rest = line (codes "gxstore") (version_text v) ++ (line (codes "objects") (number_text n) ++ (flat_map (stored_record v) rs ++ (line (codes "refs") (number_text m) ++ (flat_map stored_ref xs ++ rest))))

-- the text of a repository, grouped to the right
pub store_text_flat : (v : Version) (r : Records) → store_text v r ≡ text_of v (length r.records) r.records (length r.refs) r.refs (codes "end" ++ 10 ∷ [])
unfolding store_text
store_text_flat v r =
    grouped (line (codes "gxstore") (version_text v)) (line (codes "objects") (number_text (length r.records))) (flat_map (stored_record v) r.records) (line (codes "refs") (number_text (length r.refs))) (flat_map stored_ref r.refs) (codes "end") (10 ∷ [])

-- the version in the first line of a text
pub told_version : (v : Version) (r : Records) → after_magic (store_text v r) ≡ Ok (v, line (codes "objects") (number_text (length r.records)) ++ (flat_map (stored_record v) r.records ++ (line (codes "refs") (number_text (length r.refs)) ++ (flat_map stored_ref r.refs ++ (codes "end" ++ 10 ∷ [])))))
told_version v r = ap after_magic (store_text_flat v r) ∙ magic_read v _

-- one text is of one version
pub one_version : (v w : Version) (r s : Records) → store_text v r ≡ store_text w s → v ≡ w
one_version v w r s e = let same = ok_is _ _ (sym (told_version v r) ∙ ap after_magic e ∙ told_version w s) in ap (λ (z : Version × Bytes). z.0) same

-- ---- lengths

-- as many texts as there are, each with a byte or more, have as many bytes or more
many_bytes : {X : Type 0} (f : X → Bytes) → ((x : X) → 1 ≤ length (f x)) → (xs : List X) → length xs ≤ length (flat_map f xs)
many_bytes f g [] = omega arith
many_bytes f g (x ∷ xs) =
    let one = g x in
    let rest = many_bytes f g xs in
    let l = length-append (f x) (flat_map f xs) in
    omega arith

-- a line has a byte or more
line_some : (w x : Bytes) → 1 ≤ length (line w x)
line_some w x = let a = length-append (w ++ 32 ∷ x) (10 ∷ []) in omega arith

-- a record's text is longer than its body
record_long : (v : Version) (r : Record) → length r.body < length (stored_record v r)
record_long v r =
    let l = line (kind_word r.kind) (length_text v (length r.body) r.name) in
    let a = length-append (l ++ r.body) (10 ∷ []) in
    let b = length-append l r.body in
    longer (length r.body) (length l) (length (l ++ r.body)) (length (stored_record v r)) a b
  where
    longer : (n k m t : ℕ) → t ≡ m + 1 → m ≡ k + n → n < t
    longer n k m t a b = omega arith

-- a record's text has a byte or more
record_some : (v : Version) (r : Record) → 1 ≤ length (stored_record v r)
record_some v r = let l = record_long v r in omega arith

-- bodies are shorter than the texts of their records together
bodies_short : (v : Version) (limit : ℕ) (rs : List Record) → length (flat_map (stored_record v) rs) < limit → AllByRecursion (λ r. length r.body < limit) rs
bodies_short v limit [] h = tt
bodies_short v limit (r ∷ rs) h =
    let l = length-append (stored_record v r) (flat_map (stored_record v) rs) in
    let k = record_long v r in
    (shorter (length r.body) (length (stored_record v r)) (length (flat_map (stored_record v) rs)) (length (stored_record v r ++ flat_map (stored_record v) rs)) k l h, bodies_short v limit rs (rest_shorter (length (stored_record v r)) (length (flat_map (stored_record v) rs)) (length (stored_record v r ++ flat_map (stored_record v) rs)) l h))
  where
    shorter : (n k m t : ℕ) → n < k → t ≡ k + m → t < limit → n < limit
    shorter n k m t a b c = omega arith

    rest_shorter : (k m t : ℕ) → t ≡ k + m → t < limit → m < limit
    rest_shorter k m t b c = omega arith

-- the records and the refs of a text have no more bytes than the text
parts_short : (a b c d e f : Bytes) (limit : ℕ) → length (a ++ (b ++ (c ++ (d ++ (e ++ f))))) < limit → (length c < limit) × (length e < limit)
parts_short a b c d e f limit h =
    let j = length-append e f in
    let i = length-append d (e ++ f) in
    let k = length-append c (d ++ (e ++ f)) in
    let l = length-append b (c ++ (d ++ (e ++ f))) in
    let m = length-append a (b ++ (c ++ (d ++ (e ++ f)))) in
    (omega arith, omega arith)

-- ---- the steps of a reading

module _ (name : Kind → Bytes → Bytes) where
  -- what is read once the refs are
  abbrev whole : List Record → List (Bytes × Bytes) × Bytes → Stored Records
  whole rs named = stored_end named.1 >>= λ u. Ok (record { records = rs; refs = named.0 })

  -- what is read once the refs are counted
  abbrev refs_rest : List Record → ℕ × Bytes → Stored Records
  refs_rest rs refs = next_refs refs.0 rs None refs.1 >>= whole rs

  -- what is read once the records are
  abbrev refs_count : List Record × Bytes → Stored Records
  refs_count records = stored_count (codes "refs") records.1 >>= refs_rest records.0

  -- what is read once the records are counted
  abbrev records_rest : Version → ℕ × Bytes → Stored Records
  records_rest v objects = (next_records name v objects.0 [] objects.1) >>= refs_count

  -- what is read once the first line is
  abbrev records_count : Version × Bytes → Stored Records
  records_count start = stored_count (codes "objects") start.1 >>= records_rest start.0

  module _ (namer : IsNamer name) where
    -- a repository of nothing is sound
    no_records : IsSound name (record { records = []; refs = [] })
    no_records = record { named = tt; distinct = tt; linked = tt; paths = tt; sorted = refl; ref_names = refl; held = tt }

    -- what is read of a text is sound, and has that text
    pub only_stores : (text : Bytes) (r : Records) → store_of name text ≡ Ok r → IsSound name r × IsStoreText text r
    unfolding store_of
    only_stores text r e =
        let a = both_steps (after_magic text) records_count r e in
        let v = a.0.0 in
        let b = both_steps (stored_count (codes "objects") a.0.1) (records_rest v) r a.2 in
        let c = both_steps (next_records name v b.0.0 [] b.0.1) refs_count r b.2 in
        let d = both_steps (stored_count (codes "refs") c.0.1) (refs_rest c.0.0) r c.2 in
        let f = both_steps (next_refs d.0.0 c.0.0 None d.0.1) (whole c.0.0) r d.2 in
        let g = both_steps (stored_end f.0.1) (λ u. Ok (record { records = c.0.0; refs = f.0.0 })) r f.2 in
        let q = records_of_text name v namer b.0.0 [] b.0.1 c.0 no_records c.1 in
        let s = refs_of_text c.0.0 d.0.0 None d.0.1 f.0 f.1 in
        let same : ◌≡◌ {A = Records} (record { records = c.0.0; refs = f.0.0 }) r = ok_is (record { records = c.0.0; refs = f.0.0 }) r g.2 in
        let spelled : text ≡ text_of v b.0.0 c.0.0 d.0.0 f.0.0 (codes "end" ++ 10 ∷ []) =
        magic_of text a.0 a.1
        ∙ ap (λ z. line (codes "gxstore") (version_text v) ++ z) (count_of (codes "objects") a.0.1 b.0 b.1)
        ∙ ap (λ z. line (codes "gxstore") (version_text v) ++ (line (codes "objects") (number_text b.0.0) ++ z)) (q.spelled ∙ ap (λ z. flat_map (stored_record v) z ++ c.0.1) (sym q.whole))
        ∙ ap (λ z. line (codes "gxstore") (version_text v) ++ (line (codes "objects") (number_text b.0.0) ++ (flat_map (stored_record v) c.0.0 ++ z))) (count_of (codes "refs") c.0.1 d.0 d.1)
        ∙ ap (λ z. line (codes "gxstore") (version_text v) ++ (line (codes "objects") (number_text b.0.0) ++ (flat_map (stored_record v) c.0.0 ++ (line (codes "refs") (number_text d.0.0) ++ z)))) s.spelled
        ∙ ap (text_of v b.0.0 c.0.0 d.0.0 f.0.0) (end_of f.0.1 g.0 g.1) in
        let counted : text_of v b.0.0 c.0.0 d.0.0 f.0.0 (codes "end" ++ 10 ∷ []) ≡ text_of v (length c.0.0) c.0.0 (length f.0.0) f.0.0 (codes "end" ++ 10 ∷ []) =
        λ i. text_of v (sym (ap length q.whole ∙ q.count) i) c.0.0 (sym s.count i) f.0.0 (codes "end" ++ 10 ∷ []) in
        let sound : IsSound name (record { records = c.0.0; refs = f.0.0 }) = record {
          named = q.sound.named;
          distinct = q.sound.distinct;
          linked = q.sound.linked;
          paths = q.sound.paths;
          sorted = is_true _ s.sorted;
          ref_names = is_true _ s.named;
          held = targets_of c.0.0 q.sound.linked f.0.0 s.targets;
        } in
        (subst (IsSound name) same sound, (v, spelled ∙ counted ∙ sym (store_text_flat v (record { records = c.0.0; refs = f.0.0 })) ∙ ap (store_text v) same))

    -- a sound repository is read from its text
    pub stores_read : (v : Version) (r : Records) → IsSound name r → length (store_text v r) < 2 ^ 64 → store_of name (store_text v r) ≡ Ok r
    unfolding store_of
    stores_read v r i h =
        let rs = r.records in
        let xs = r.refs in
        let ends = codes "end" ++ 10 ∷ [] in
        let refs_text = flat_map stored_ref xs ++ ends in
        let objects_text = flat_map (stored_record v) rs ++ (line (codes "refs") (number_text (length xs)) ++ refs_text) in
        let short = parts_short (line (codes "gxstore") (version_text v)) (line (codes "objects") (number_text (length rs))) (flat_map (stored_record v) rs) (line (codes "refs") (number_text (length xs))) (flat_map stored_ref xs) ends (2 ^ 64)
        (subst (λ t. length t < 2 ^ 64) (store_text_flat v r) h) in
        let few = fewer (length rs) (length (flat_map (stored_record v) rs)) (2 ^ 64) (many_bytes (stored_record v) (record_some v) rs) short.0 in
        let few_refs = fewer (length xs) (length (flat_map stored_ref xs)) (2 ^ 64) (many_bytes stored_ref (λ x. line_some (hex x.1) x.0) xs) short.1 in
        let alone : IsSound name (record { records = rs; refs = [] }) = record { named = i.named; distinct = i.distinct; linked = i.linked; paths = i.paths; sorted = refl; ref_names = refl; held = tt } in
        ap (store_of name) (store_text_flat v r)
        ∙ ap (λ s. s >>= records_count) (magic_read v (line (codes "objects") (number_text (length rs)) ++ objects_text))
        ∙ ap (λ s. s >>= records_rest v) (count_read (codes "objects") (length rs) objects_text tt few)
        ∙ ap (λ s. s >>= refs_count) (records_read name v namer [] rs (line (codes "refs") (number_text (length xs)) ++ refs_text) alone (bodies_short v (2 ^ 64) rs short.0))
        ∙ ap (λ s. s >>= refs_rest rs) (count_read (codes "refs") (length xs) refs_text tt few_refs)
        ∙ ap (λ s. s >>= whole rs) (refs_read rs None xs ends (targets_name name namer rs i.distinct i.named xs i.held) (passes _ i.ref_names) (targets_test rs i.distinct xs i.held) tt (passes _ i.sorted))
        ∙ ap (λ s. s >>= λ u. Ok (record { records = rs; refs = xs })) end_read
      where
        fewer : (n m limit : ℕ) → n ≤ m → m < limit → n < limit
        fewer n m limit a b = omega arith
