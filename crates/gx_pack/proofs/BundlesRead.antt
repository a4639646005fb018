-- Bundles are read as what was written.
use Rattle.std.proofs.Common.{◌≡◌, ℕ, zero, suc, ◌+◌, ◌/◌, ◌<◌, ◌≤◌, ◌^◌, true, false, cond, List, [], ◌∷◌, ◌++◌, length, Option, None, Some, refl, sym, ap, ◌∙◌, arith, append_assoc, length-append}
use Rattle.std.specs.Prelude.{T, Bool, nat_eq, nat_lt, IsTrue}
use Rattle.std.specs.Bool.{passes}
use Rattle.std.specs.List.{flat_map, list_all}
use Rattle.std.specs.Option.{option_and_then, option_map}
use Rattle.std.proofs.lemmas.Bool.{ne_eqb}
use Rattle.gx_model.specs.Texts.{Bytes, cut_at, is_line}
use Rattle.gx_model.specs.Texts.RefNames.{is_ref_name}
use Rattle.gx_model.specs.Objects.{hex, hex_digit, is_name, line, unhex}
use Rattle.gx_model.specs.Objects.Naming.{lower_name_in}
use Rattle.gx_model.specs.Stores.StoreReading.{if_ref, ref_line}
use Rattle.gx_model.proofs.Texts.PathTests.{both, first, is_true, second}
use Rattle.gx_model.proofs.Texts.Cuts.{cut_after, cut_here}
use Rattle.gx_model.proofs.Texts.LineTexts.{line_append, ref_is_line}
use Rattle.gx_model.proofs.Streams.CommandFields.{link_no_space}
use Rattle.gx_model.proofs.Records.OneHistory.{hex_line}
use Rattle.gx_model.proofs.Records.ReadRecords.{hex_text}
use Rattle.gx_model.proofs.ObjectTexts.BodiesReadBack.{bytes_name, unhex_hex}
use Rattle.gx_model.proofs.Stores.StoreTexts.{line_lacks, line_text}
use Rattle.gx_pack.specs.Packs.{pack_text}
use Rattle.gx_pack.specs.Bundles.{Bundle, bundle_head, bundle_mark, bundle_text, had_line, held_line}
use Rattle.gx_pack.specs.BundleReading.{bundle_of, had_in, had_rest, had_within, is_dashed, line_rest, marked, pack_rest, ref_rest, refs_rest, refs_within, with_name, with_objects, with_ref}
use Rattle.gx_pack.specs.PackLaws.{BundlesAreRead}
use Rattle.gx_pack.proofs.DataRead.{front_read}
use Rattle.gx_pack.proofs.PacksRead.{packs_are_read}

-- a line before an LF is cut off
line_cut : (x rest : Bytes) → is_line x ≡ true → cut_at 10 (x ++ 10 ∷ rest) ≡ Some (x, rest)
line_cut x rest h = cut_after 10 x rest (line_lacks x (passes _ h))

-- as many texts as there are, each with a byte or more, have as many bytes or more
many_bytes : {X : Type 0} (f : X → Bytes) → ((x : X) → 1 ≤ length (f x)) → (xs : List X) → length xs ≤ length (flat_map f xs)
many_bytes f some [] = omega arith
many_bytes f some (x ∷ xs) =
    let one = some x in
    let rest = many_bytes f some xs in
    let long = length-append (f x) (flat_map f xs) in
    omega arith

-- ---- objects that the reader has

name_read : (x : Bytes) → T (is_name x) → had_in ((45 ∷ hex x) ++ 32 ∷ []) ≡ Some x
unfolding lower_name_in
name_read x h =
    let text = hex_text x h in
    ap (option_and_then (λ parts. lower_name_in parts.0)) (cut_after 32 (hex x) [] (link_no_space (hex x) (is_true _ text)))
    ∙ ap (λ (b : Bool). cond b (Some (unhex (hex x))) None) (is_true _ text)
    ∙ ap (λ (y : Bytes). Some y) (unhex_hex x (bytes_name x h))

had_flat : (x more : Bytes) → had_line x ++ more ≡ ((45 ∷ hex x) ++ 32 ∷ []) ++ 10 ∷ more
had_flat x more = append_assoc (45 ∷ hex x) (32 ∷ 10 ∷ []) more ∙ sym (append_assoc (45 ∷ hex x) (32 ∷ []) (10 ∷ more))

had_one : (n : ℕ) (x more : Bytes) (others : List Bytes) (rest : Bytes) → T (is_name x) → had_within n more ≡ Some (others, rest)
    → had_within (suc n) (had_line x ++ more) ≡ Some (x ∷ others, rest)
unfolding had_within
had_one n x more others rest h k =
    let is = line_append (45 ∷ hex x) (32 ∷ []) (is_true _ (hex_line x)) refl in
    ap (had_within (suc n)) (had_flat x more)
    ∙ ap (option_and_then (had_rest (had_within n))) (line_cut ((45 ∷ hex x) ++ 32 ∷ []) more is)
    ∙ ap (option_and_then (λ called. option_map (with_name called) (had_within n more))) (name_read x h)
    ∙ ap (option_map (with_name x)) k

had_read : (n : ℕ) (names : List Bytes) (rest : Bytes) → length names ≤ n → T (list_all is_name names) → is_dashed rest ≡ false
    → had_within n (flat_map had_line names ++ rest) ≡ Some (names, rest)
unfolding had_within
had_read zero [] rest l h plain = refl
had_read (suc n) [] rest l h plain = rw plain refl
had_read zero (x ∷ xs) rest l h plain = absurd (omega (arith, l))
had_read (suc n) (x ∷ xs) rest l h plain =
    ap (had_within (suc n)) (append_assoc (had_line x) (flat_map had_line xs) rest)
    ∙ had_one n x (flat_map had_line xs ++ rest) xs rest (first (is_name x) (list_all is_name xs) h)
    (had_read n xs rest (omega (arith, l)) (second (is_name x) (list_all is_name xs) h) plain)

-- ---- refs

-- a digit is no dash
digit_no_dash : (n : ℕ) → nat_eq (hex_digit n) 45 ≡ false
digit_no_dash n = elim (nat_lt n 10) as (λ c. nat_eq (cond c (48 + n) (87 + n)) 45 ≡ false) [ true ↦ ne_eqb (48 + n) 45 (λ e. omega (arith, e)) | false ↦ ne_eqb (87 + n) 45 (λ e. omega (arith, e)) ]

-- neither the line of a ref nor an empty one begins with a dash
no_dash : (refs : List (Bytes × Bytes)) (rest : Bytes) → is_dashed (flat_map held_line refs ++ 10 ∷ rest) ≡ false
no_dash [] rest = refl
no_dash (x ∷ xs) rest = by x.1
  where
    by : (called : Bytes) → is_dashed ((line (hex called) x.0 ++ flat_map held_line xs) ++ 10 ∷ rest) ≡ false
    by [] = refl
    by (b ∷ bs) = digit_no_dash (b / 16)

ref_read : (x : Bytes × Bytes) → T (is_name x.1) → T (is_ref_name x.0) → ref_line (hex x.1 ++ 32 ∷ x.0) ≡ Some x
ref_read x n r =
    let text = hex_text x.1 n in
    ap (option_and_then if_ref) (cut_after 32 (hex x.1) x.0 (link_no_space (hex x.1) (is_true _ text)))
    ∙ ap (λ (b : Bool). cond {A = Option (Bytes × Bytes)} b (Some (x.0, unhex (hex x.1))) None) (is_true _ (both _ _ text r))
    ∙ ap (λ (y : Bytes). Some (x.0, y)) (unhex_hex x.1 (bytes_name x.1 n))

ref_one : (n : ℕ) (x : Bytes × Bytes) (more : Bytes) (others : List (Bytes × Bytes)) (rest : Bytes) → T (is_name x.1) → T (is_ref_name x.0) → refs_within n more ≡ Some (others, rest)
    → refs_within (suc n) (held_line x ++ more) ≡ Some (x ∷ others, rest)
unfolding refs_within
ref_one n x more others rest h r k =
    let text = hex x.1 ++ 32 ∷ x.0 in
    let is = line_append (hex x.1) (32 ∷ x.0) (is_true _ (hex_line x.1)) (ref_is_line x.0 (is_true _ r)) in
    let long = length-append (hex x.1) (32 ∷ x.0) in
    let some : nat_eq (length text) 0 ≡ false = ne_eqb (length text) 0 (λ e. omega (arith, e, long)) in
    ap (refs_within (suc n)) (sym (line_text (hex x.1) x.0 more))
    ∙ ap (option_and_then (line_rest (refs_within n))) (line_cut text more is)
    ∙ ap (λ (b : Bool). cond {A = Option (List (Bytes × Bytes) × Bytes)} b (Some ([], more)) (ref_rest (refs_within n) (text, more))) some
    ∙ ap (option_and_then (λ ref. option_map (with_ref ref) (refs_within n more))) (ref_read x h r)
    ∙ ap (option_map (with_ref x)) k

refs_read : (n : ℕ) (refs : List (Bytes × Bytes)) (rest : Bytes) → length refs < n → T (list_all (λ ref. is_name ref.1) refs) → T (list_all (λ ref. is_ref_name ref.0) refs)
    → refs_within n (flat_map held_line refs ++ 10 ∷ rest) ≡ Some (refs, rest)
unfolding refs_within
refs_read zero refs rest l h r = absurd (omega (arith, l))
refs_read (suc n) [] rest l h r = ap (option_and_then (line_rest (refs_within n))) (cut_here 10 rest)
refs_read (suc n) (x ∷ xs) rest l h r =
    ap (refs_within (suc n)) (append_assoc (held_line x) (flat_map held_line xs) (10 ∷ rest))
    ∙ ref_one n x (flat_map held_line xs ++ 10 ∷ rest) xs rest (first (is_name x.1) (list_all (λ ref. is_name ref.1) xs) h) (first (is_ref_name x.0) (list_all (λ ref. is_ref_name ref.0) xs) r)
    (refs_read n xs rest (omega (arith, l)) (second (is_name x.1) (list_all (λ ref. is_name ref.1) xs) h) (second (is_ref_name x.0) (list_all (λ ref. is_ref_name ref.0) xs) r))

-- ---- bundles

bundle_flat : (digest : Bytes → Bytes) (b : Bundle)
    → bundle_text digest b ≡ bundle_mark ++ (flat_map had_line b.had ++ (flat_map held_line b.refs ++ 10 ∷ pack_text digest b.objects))
unfolding bundle_head
bundle_flat digest b =
    let had = flat_map had_line b.had in
    let refs = flat_map held_line b.refs in
    let pack = pack_text digest b.objects in
    append_assoc bundle_mark (had ++ (refs ++ 10 ∷ [])) pack ∙ ap (λ t. bundle_mark ++ t) (append_assoc had (refs ++ 10 ∷ []) pack ∙ ap (λ t. had ++ t) (append_assoc refs (10 ∷ []) pack))

bundle_read : (digest : Bytes → Bytes) (b : Bundle) → IsTrue (list_all is_name b.had) → IsTrue (list_all (λ ref. is_name ref.1) b.refs) → IsTrue (list_all (λ ref. is_ref_name ref.0) b.refs) → length b.objects < 2 ^ 32
    → bundle_of digest (bundle_text digest b) ≡ Some b
unfolding bundle_of
bundle_read digest b names objects refs few =
    let pack = pack_text digest b.objects in
    let held = flat_map held_line b.refs ++ 10 ∷ pack in
    let lines = flat_map had_line b.had ++ held in
    let had_long = length-append (flat_map had_line b.had) held in
    let held_long = length-append (flat_map held_line b.refs) (10 ∷ pack) in
    let had_many = many_bytes had_line (λ x. omega arith) b.had in
    let held_many = many_bytes held_line (λ x. let a = length-append (hex x.1 ++ 32 ∷ x.0) (10 ∷ []) in omega arith) b.refs in
    ap (bundle_of digest) (bundle_flat digest b)
    ∙ ap (λ o. option_and_then (λ text. option_and_then (refs_rest digest) (had_within (length text) text)) (option_and_then marked o)) (front_read bundle_mark lines 16 refl)
    ∙ ap (option_and_then (refs_rest digest)) (had_read (length lines) b.had held (omega (arith, had_long, had_many)) (passes _ names) (no_dash b.refs pack))
    ∙ ap (option_and_then (pack_rest digest b.had)) (refs_read (length held) b.refs pack (omega (arith, held_long, held_many)) (passes _ objects) (passes _ refs))
    ∙ ap (option_map (with_objects b.had b.refs)) (packs_are_read.packs digest b.objects few)

pub bundles_are_read : BundlesAreRead
bundles_are_read = bundle_read
