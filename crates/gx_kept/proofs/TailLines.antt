-- Tails in which the refs stand by their lines, which are counted.
use Rattle.std.proofs.Common.{◌≡◌, ℕ, suc, true, cond, List, [], ◌∷◌, ◌++◌, codes, length, append_assoc, refl, sym, ap, ◌∙◌, subst, Option}
use Rattle.std.specs.Prelude.{nat_eq, not}
use Rattle.std.specs.List.{filter, flat_map, list_all}
use Rattle.std.proofs.lemmas.Bool.{and_parts, not-true}
use Rattle.gx_model.specs.Objects.{hex, line}
use Rattle.gx_model.specs.Stores.StoreText.{stored_ref}
use Rattle.gx_model.specs.Texts.{Bytes, is_line}
use Rattle.gx_model.specs.Texts.Numbers.{number_text}
use Rattle.gx_model.specs.Texts.RefNames.{is_ref_name}
use Rattle.gx_model.specs.Texts.Sinks.{Taken}
use Rattle.gx_model.proofs.Records.OneHistory.{hex_line}
use Rattle.gx_model.proofs.Stores.StoreTexts.{line_text}
use Rattle.gx_model.proofs.Texts.LineTexts.{line_append, ref_is_line}
use Rattle.gx_model.proofs.Texts.PathTests.{is_true}
use Rattle.gx_model.proofs.Texts.SentTexts.{IsLeft, all_left}
use Rattle.gx_growing.specs.GrowingText.{Run, run_text, tail_text}

abbrev pub line_count : Bytes → ℕ
line_count text = length (filter (λ byte. nat_eq byte 10) text)

-- within a line none ends
none_within : (x rest : Bytes) → is_line x ≡ true → line_count (x ++ rest) ≡ line_count rest
none_within [] rest h = refl
none_within (b ∷ x) rest h =
    let p = and_parts (not (nat_eq b 10)) (is_line x) h in
    let more = filter (λ byte. nat_eq byte 10) (x ++ rest) in
    ap (λ t. length (cond t (b ∷ more) more)) (not-true _ p.0) ∙ none_within x rest p.1

-- each ref has a line
pub refs_counted : (refs : List (Bytes × Bytes)) → list_all (λ ref. is_ref_name ref.0) refs ≡ true → line_count (flat_map stored_ref refs) ≡ length refs
refs_counted [] h = refl
refs_counted (x ∷ xs) h =
    let p = and_parts (is_ref_name x.0) (list_all (λ ref. is_ref_name ref.0) xs) h in
    let one : is_line (hex x.1 ++ 32 ∷ x.0) ≡ true = line_append (hex x.1) (32 ∷ x.0) (is_true _ (hex_line x.1)) (ref_is_line x.0 p.0) in
    ap line_count (sym (line_text (hex x.1) x.0 (flat_map stored_ref xs)))
    ∙ none_within (hex x.1 ++ 32 ∷ x.0) (10 ∷ flat_map stored_ref xs) one
    ∙ ap suc (refs_counted xs p.1)

-- the number of runs, and the runs
abbrev pub runs_part : List Run → Bytes
runs_part runs = line (codes "runs") (number_text (length runs)) ++ flat_map run_text runs

-- what follows them, the number of refs aside
abbrev pub refs_part : List (Bytes × Bytes) → Bytes
refs_part refs = flat_map stored_ref refs ++ (codes "end" ++ 10 ∷ [])

abbrev pub count_part : List (Bytes × Bytes) → Bytes
count_part refs = line (codes "refs") (number_text (length refs))

-- before anything of a tail goes out, its parts are left
pub tail_begun : (runs : List Run) (refs : List (Bytes × Bytes)) (was : Option Taken) → IsLeft (tail_text runs refs) was was (runs_part runs ++ (count_part refs ++ refs_part refs))
tail_begun runs refs was =
    subst (IsLeft (tail_text runs refs) was was) (sym (append_assoc (line (codes "runs") (number_text (length runs))) (flat_map run_text runs) (count_part refs ++ refs_part refs)))
    (all_left (tail_text runs refs) was)
