-- Two sound repositories with one store text are one, however long it is.
use Rattle.std.proofs.Common.{◌≡◌, ℕ, true, refl, sym, ap, ◌∙◌, List, [], ◌∷◌, ◌++◌, length, take, drop, codes, append_assoc}
use Rattle.std.specs.Prelude.{T}
use Rattle.std.specs.Bool.{passes}
use Rattle.std.specs.List.{AllByRecursion, flat_map, list_all}
use Rattle.std.specs.Map.{lookup}
use Rattle.std.proofs.lemmas.List.{drop_at, take_at}
use Rattle.gx_model.specs.declared.objects.Kind.{Kind}
use Rattle.gx_model.specs.declared.store_versions.Version.{Version}
use Rattle.gx_model.specs.declared.store_versions.Version.TheVariants.{One, Two}
use Rattle.gx_model.specs.Texts.{Bytes, cut_at, is_line, lacks, same_bytes}
use Rattle.gx_model.specs.Texts.Numbers.{number_text}
use Rattle.gx_model.specs.Texts.RefNames.{is_ref_name}
use Rattle.gx_model.specs.Objects.{IsNamer, hex, is_name, line, unhex}
use Rattle.gx_model.specs.Objects.Naming.{kind_word}
use Rattle.gx_model.specs.Histories.{Record, Records}
use Rattle.gx_model.specs.Records.Sound.{IsSound}
use Rattle.gx_model.specs.Stores.StoreText.{length_text, store_text, stored_record, stored_ref}
use Rattle.gx_model.specs.Stores.StoreReading.{after_magic, after_word, kind_words}
use Rattle.gx_model.proofs.Texts.PathTests.{first, is_true, second}
use Rattle.gx_model.proofs.Texts.Cuts.{cut_after, some_is}
use Rattle.gx_model.proofs.Texts.Decimals.{text_one}
use Rattle.gx_model.proofs.Texts.LineTexts.{line_append, ref_is_line}
use Rattle.gx_model.proofs.Streams.CommandFields.{link_no_space, number_no_space}
use Rattle.gx_model.proofs.ObjectTexts.BodiesReadBack.{bytes_name, unhex_hex}
use Rattle.gx_model.proofs.Records.OneHistory.{hex_line}
use Rattle.gx_model.proofs.Records.ReadRecords.{hex_text}
use Rattle.gx_model.proofs.Stores.StoreTexts.{line_lacks, line_text, number_line, ok_is, word_read}
use Rattle.gx_model.proofs.Stores.RecordLines.{kind_found, length_is_line}
use Rattle.gx_model.proofs.Stores.StoredRecords.{record_flat}
use Rattle.gx_model.proofs.Stores.StoredRefs.{targets_name}
use Rattle.gx_model.proofs.Stores.ReadStores.{one_version, told_version}

-- ---- lines

-- texts that are cut at one byte have one front and one rest
cut_one : (c : ℕ) (x r y s : Bytes) → lacks c x ≡ true → lacks c y ≡ true → x ++ c ∷ r ≡ y ++ c ∷ s → (x ≡ y) × (r ≡ s)
cut_one c x r y s h g e =
    let same = some_is (x, r) (y, s) (sym (cut_after c x r h) ∙ ap (cut_at c) e ∙ cut_after c y s g) in
    (ap (λ (p : Bytes × Bytes). p.0) same, ap (λ (p : Bytes × Bytes). p.1) same)

-- the first lines are one, and what follows them
line_one : (w x r v y s : Bytes) → T (is_line w) → T (is_line x) → T (is_line v) → T (is_line y) → line w x ++ r ≡ line v y ++ s → (w ++ 32 ∷ x ≡ v ++ 32 ∷ y) × (r ≡ s)
line_one w x r v y s a b c d e =
    cut_one 10 (w ++ 32 ∷ x) r (v ++ 32 ∷ y) s
    (line_lacks (w ++ 32 ∷ x) (passes _ (line_append w (32 ∷ x) (is_true _ a) (is_true _ b))))
    (line_lacks (v ++ 32 ∷ y) (passes _ (line_append v (32 ∷ y) (is_true _ c) (is_true _ d))))
    (line_text w x r ∙ e ∙ sym (line_text v y s))

-- the numbers of a word's lines are one
count_one : (w : Bytes) (m n : ℕ) (r s : Bytes) → T (is_line w) → line w (number_text m) ++ r ≡ line w (number_text n) ++ s → (m ≡ n) × (r ≡ s)
count_one w m n r s h e =
    let l = line_one w (number_text m) r w (number_text n) s h (number_line m) h (number_line n) e in
    let texts = some_is (number_text m) (number_text n) (sym (word_read w (number_text m)) ∙ ap (after_word w) l.0 ∙ word_read w (number_text n)) in
    (text_one m n texts, l.1)

-- ---- records

-- one length has one text
length_one : (v : Version) (m n : ℕ) (x y : Bytes) → length_text v m x ≡ length_text v n y → m ≡ n
length_one One m n x y e = text_one m n e
length_one Two m n x y e = text_one m n (cut_one 32 (number_text m) (hex x) (number_text n) (hex y) (number_no_space m) (number_no_space n) e).0

-- one kind has one word
kind_one : (k j : Kind) → kind_word k ≡ kind_word j → k ≡ j
kind_one k j e = some_is k j (sym (kind_found k).0 ∙ ap (λ w. lookup (same_bytes w) kind_words) e ∙ (kind_found j).0)

-- texts of one length are one, and what follows them behind an LF
body_one : (x r y s : Bytes) → length x ≡ length y → x ++ 10 ∷ r ≡ y ++ 10 ∷ s → (x ≡ y) × (r ≡ s)
body_one x r y s l e =
    let behind : 10 ∷ r ≡ 10 ∷ s = sym (drop_at x (10 ∷ r) (length x) refl) ∙ (λ i. drop (l i) (e i)) ∙ drop_at y (10 ∷ s) (length y) refl in (
      sym (take_at x (10 ∷ r) (length x) refl) ∙ (λ i. take (l i) (e i)) ∙ take_at y (10 ∷ s) (length y) refl,
      ap (drop 1) behind,
    )

module _ (name : Kind → Bytes → Bytes) (v : Version) where
  abbrev IsNamed : Record → Type 0
  IsNamed r = r.name ≡ name r.kind r.body

  record_one : (r s : Record) (rest more : Bytes) → IsNamed r → IsNamed s → stored_record v r ++ rest ≡ stored_record v s ++ more → (r ≡ s) × (rest ≡ more)
  record_one r s rest more h g e =
      let k = kind_found r.kind in
      let j = kind_found s.kind in
      let rt = length_text v (length r.body) r.name in
      let st = length_text v (length s.body) s.name in
      let l = line_one (kind_word r.kind) rt (r.body ++ 10 ∷ rest) (kind_word s.kind) st (s.body ++ 10 ∷ more) k.2 (length_is_line v (length r.body) r.name) j.2 (length_is_line v (length s.body) s.name)
      (sym (record_flat v r rest) ∙ e ∙ record_flat v s more) in
      let words = cut_one 32 (kind_word r.kind) rt (kind_word s.kind) st k.1 j.1 l.0 in
      let kinds = kind_one r.kind s.kind words.0 in
      let bodies = body_one r.body rest s.body more (length_one v (length r.body) (length s.body) r.name s.name words.1) l.1 in
      let names : r.name ≡ s.name = h ∙ (λ i. name (kinds i) (bodies.0 i)) ∙ sym g in
      ((λ i. record { name = names i; kind = kinds i; body = bodies.0 i }), bodies.1)

  records_one : (rs ss : List Record) (rest more : Bytes) → AllByRecursion IsNamed rs → AllByRecursion IsNamed ss → length rs ≡ length ss
      → flat_map (stored_record v) rs ++ rest ≡ flat_map (stored_record v) ss ++ more → (rs ≡ ss) × (rest ≡ more)
  records_one [] [] rest more h g l e = (refl, e)
  records_one [] (s ∷ ss) rest more h g l e = absurd cc
  records_one (r ∷ rs) [] rest more h g l e = absurd cc
  records_one (r ∷ rs) (s ∷ ss) rest more h g l e =
      let tails = λ (z : Record) (zs : List Record) (t : Bytes). append_assoc (stored_record v z) (flat_map (stored_record v) zs) t in
      let one = record_one r s (flat_map (stored_record v) rs ++ rest) (flat_map (stored_record v) ss ++ more) h.0 g.0 (sym (tails r rs rest) ∙ e ∙ tails s ss more) in
      let few : length rs ≡ length ss = cc in
      let all = records_one rs ss rest more h.1 g.1 few one.1 in
      ((λ i. one.0 i ∷ all.0 i), all.1)

-- ---- refs

-- a ref and its object's name
abbrev IsNamedRef : Bytes × Bytes → Type 0
IsNamedRef x = T (is_name x.1) × T (is_ref_name x.0)

ref_one : (x y : Bytes × Bytes) (rest more : Bytes) → IsNamedRef x → IsNamedRef y → stored_ref x ++ rest ≡ stored_ref y ++ more → (x ≡ y) × (rest ≡ more)
ref_one x y rest more h g e =
    let l = line_one (hex x.1) x.0 rest (hex y.1) y.0 more (hex_line x.1) (passes _ (ref_is_line x.0 (is_true _ h.1))) (hex_line y.1) (passes _ (ref_is_line y.0 (is_true _ g.1))) e in
    let no_space = λ (n : Bytes) (is : T (is_name n)). link_no_space (hex n) (is_true _ (hex_text n is)) in
    let parts = cut_one 32 (hex x.1) x.0 (hex y.1) y.0 (no_space x.1 h.0) (no_space y.1 g.0) l.0 in
    let names : x.1 ≡ y.1 = sym (unhex_hex x.1 (bytes_name x.1 h.0)) ∙ ap unhex parts.0 ∙ unhex_hex y.1 (bytes_name y.1 g.0) in
    ((λ i. (parts.1 i, names i)), l.1)

refs_one : (xs ys : List (Bytes × Bytes)) (rest more : Bytes) → AllByRecursion IsNamedRef xs → AllByRecursion IsNamedRef ys → length xs ≡ length ys
    → flat_map stored_ref xs ++ rest ≡ flat_map stored_ref ys ++ more → xs ≡ ys
refs_one [] [] rest more h g l e = refl
refs_one [] (y ∷ ys) rest more h g l e = absurd cc
refs_one (x ∷ xs) [] rest more h g l e = absurd cc
refs_one (x ∷ xs) (y ∷ ys) rest more h g l e =
    let tails = λ (z : Bytes × Bytes) (zs : List (Bytes × Bytes)) (t : Bytes). append_assoc (stored_ref z) (flat_map stored_ref zs) t in
    let one = ref_one x y (flat_map stored_ref xs ++ rest) (flat_map stored_ref ys ++ more) h.0 g.0 (sym (tails x xs rest) ∙ e ∙ tails y ys more) in
    let few : length xs ≡ length ys = cc in
    let all = refs_one xs ys rest more h.1 g.1 few one.1 in
    λ i. one.0 i ∷ all i

named_refs : (xs : List (Bytes × Bytes)) → AllByRecursion (λ x. T (is_name x.1)) xs → T (list_all (λ x. is_ref_name x.0) xs) → AllByRecursion IsNamedRef xs
named_refs [] h g = tt
named_refs (x ∷ xs) h g = ((h.0, first (is_ref_name x.0) _ g), named_refs xs h.1 (second (is_ref_name x.0) _ g))

-- ---- the whole

module _ (name : Kind → Bytes → Bytes) (namer : IsNamer name) where
  refs_named : (r : Records) → IsSound name r → AllByRecursion IsNamedRef r.refs
  refs_named r i = named_refs r.refs (targets_name name namer r.records i.distinct i.named r.refs i.held) (passes _ i.ref_names)

  -- repositories with one text of one version are one
  same_store : (v : Version) (r s : Records) → IsSound name r → IsSound name s → store_text v r ≡ store_text v s → r ≡ s
  same_store v r s i j e =
      let ends = codes "end" ++ 10 ∷ [] in
      let behind = λ (z : Records). flat_map (stored_record v) z.records ++ (line (codes "refs") (number_text (length z.refs)) ++ (flat_map stored_ref z.refs ++ ends)) in
      let told = ok_is _ _ (sym (told_version v r) ∙ ap after_magic e ∙ told_version v s) in
      let begun = ap (λ (z : Version × Bytes). z.1) told in
      let objects = count_one (codes "objects") (length r.records) (length s.records) (behind r) (behind s) tt begun in
      let records = records_one name v r.records s.records _ _ i.named j.named objects.0 objects.1 in
      let counted = count_one (codes "refs") (length r.refs) (length s.refs) (flat_map stored_ref r.refs ++ ends) (flat_map stored_ref s.refs ++ ends) tt records.1 in
      let refs = refs_one r.refs s.refs ends ends (refs_named r i) (refs_named s j) counted.0 counted.1 in
      λ k. record { records = records.0 k; refs = refs k }

  -- one text is of one version, and of one repository
  pub one_store : (v w : Version) (r s : Records) → IsSound name r → IsSound name s → store_text v r ≡ store_text w s → (v ≡ w) × (r ≡ s)
  one_store v w r s i j e =
      let versions = one_version v w r s e in
      (versions, same_store v r s i j (e ∙ ap (λ u. store_text u s) (sym versions)))
