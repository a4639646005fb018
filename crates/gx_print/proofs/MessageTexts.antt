-- White space at the end of a text, and the lines of a message.
use Rattle.std.proofs.Common.{◌≡◌, ℕ, Bool, true, false, cond, refl, ap, subst, arith, ◌∙◌, ◌&&◌, List, [], ◌∷◌, ◌++◌, map, take, length, Option, None, Some}
use Rattle.std.specs.Prelude.{◌==◌, eqb}
use Rattle.std.specs.List.{flat_map, join_by, list_all, onto_first, slice_split}
use Rattle.std.specs.Option.{option_map}
use Rattle.std.proofs.lemmas.Bool.{eqb-true}
use Rattle.std.proofs.lemmas.List.Folds.{list_all-append}
use Rattle.gx_model.specs.Texts.{Bytes, cut_at}
use Rattle.gx_print.specs.Messages.{behind_blank, is_space, message_lines, paragraph, subject, trimmed}

-- ---- white space at the end

and_true : (b : Bool) → (b && true) ≡ b
and_true true = refl
and_true false = refl

and_false : (b : Bool) → (b && false) ≡ false
and_false true = refl
and_false false = refl

-- whether all of a text is white space, with one byte more at its end
all_behind : (front : Bytes) (last : ℕ) (t : Bool) → is_space last ≡ t → list_all is_space (front ++ last ∷ []) ≡ (list_all is_space front && t)
all_behind front last t e = list_all-append is_space front (last ∷ []) ∙ ap (λ b. list_all is_space front && b) (and_true (is_space last) ∙ e)

-- white space at the end is left out
pub trimmed_space : (front : Bytes) (last : ℕ) → is_space last ≡ true → trimmed (front ++ last ∷ []) ≡ trimmed front
unfolding trimmed
trimmed_space [] last e = ap (λ b. cond b [] (last ∷ [])) (and_true (is_space last) ∙ e)
trimmed_space (b ∷ front) last e =
    let same = all_behind (b ∷ front) last true e ∙ and_true (list_all is_space (b ∷ front)) in
    let rest = trimmed_space front last e in
    λ i. cond (same i) [] (b ∷ rest i)

-- where another byte is the last, nothing is
pub trimmed_whole : (front : Bytes) (last : ℕ) → is_space last ≡ false → trimmed (front ++ last ∷ []) ≡ front ++ last ∷ []
unfolding trimmed
trimmed_whole [] last e = ap (λ b. cond b [] (last ∷ [])) (and_true (is_space last) ∙ e)
trimmed_whole (b ∷ front) last e =
    let none = all_behind (b ∷ front) last false e ∙ and_false (list_all is_space (b ∷ front)) in
    let rest = trimmed_whole front last e in
    λ i. cond (none i) [] (b ∷ rest i)

pub trimmed_nothing : (text : Bytes) → length text ≡ 0 → trimmed text ≡ text
unfolding trimmed
trimmed_nothing [] e = refl
trimmed_nothing (b ∷ bs) e = absurd (omega arith)

-- ---- lines

abbrev is_lf : ℕ → Bool
is_lf b = b == 10

-- the first line ends at the first LF
split_cut : (text : Bytes) (p : Bytes × Bytes) → cut_at 10 text ≡ Some p → slice_split is_lf text ≡ p.0 ∷ slice_split is_lf p.1
unfolding cut_at
split_cut [] p e = absurd (cc e)
split_cut (b ∷ bs) p e = by (is_lf b) (cut_at 10 bs) (split_cut bs) e
  where
    by : (t : Bool) (o : Option (Bytes × Bytes)) → ((q : Bytes × Bytes) → o ≡ Some q → slice_split is_lf bs ≡ q.0 ∷ slice_split is_lf q.1)
        → cond t (Some ([], bs)) (option_map (λ q. (b ∷ q.0, q.1)) o) ≡ Some p → cond t ([] ∷ slice_split is_lf bs) (onto_first b (slice_split is_lf bs)) ≡ p.0 ∷ slice_split is_lf p.1
    by true o h k = let same : ([], bs) ≡ p = cc k in λ i. (same i).0 ∷ slice_split is_lf (same i).1
    by false None h k = absurd (cc k)
    by false (Some q) h k = let same : (b ∷ q.0, q.1) ≡ p = cc k in ap (onto_first b) (h q refl) ∙ (λ i. (same i).0 ∷ slice_split is_lf (same i).1)

-- where there is no LF, all is one line
split_whole : (text : Bytes) → cut_at 10 text ≡ None → slice_split is_lf text ≡ text ∷ []
unfolding cut_at
split_whole [] e = refl
split_whole (b ∷ bs) e = by (is_lf b) (cut_at 10 bs) (split_whole bs) e
  where
    by : (t : Bool) (o : Option (Bytes × Bytes)) → (o ≡ None → slice_split is_lf bs ≡ bs ∷ [])
        → cond {A = Option (Bytes × Bytes)} t (Some ([], bs)) (option_map (λ q. (b ∷ q.0, q.1)) o) ≡ None → cond t ([] ∷ slice_split is_lf bs) (onto_first b (slice_split is_lf bs)) ≡ (b ∷ bs) ∷ []
    by true o h k = absurd (cc k)
    by false None h k = ap (onto_first b) (h refl)
    by false (Some q) h k = absurd (cc k)

pub lines_cut : (text : Bytes) (p : Bytes × Bytes) → cut_at 10 text ≡ Some p → message_lines text ≡ trimmed p.0 ∷ message_lines p.1
lines_cut text p e = ap (map trimmed) (split_cut text p e)

pub lines_whole : (text : Bytes) → cut_at 10 text ≡ None → message_lines text ≡ trimmed text ∷ []
lines_whole text e = ap (map trimmed) (split_whole text e)

-- ---- blank lines

-- a blank line is passed
pub blank_passed : (line : Bytes) (lines : List Bytes) → eqb (length line) 0 ≡ true → behind_blank (line ∷ lines) ≡ behind_blank lines
blank_passed [] lines e = refl
blank_passed (b ∷ line) lines e = absurd (omega (arith, eqb-true (length (b ∷ line)) 0 e))

-- and no other line
pub line_stands : (line : Bytes) (lines : List Bytes) → eqb (length line) 0 ≡ false → behind_blank (line ∷ lines) ≡ line ∷ lines
line_stands [] lines e = absurd (cc e)
line_stands (b ∷ line) lines e = refl

-- the first line behind blank ones belongs to the paragraph
pub first_stands : (all : List Bytes) (line : Bytes) (lines : List Bytes) → behind_blank all ≡ line ∷ lines → paragraph (line ∷ lines) ≡ line ∷ paragraph lines
first_stands [] line lines e = absurd (cc e)
first_stands ([] ∷ all) line lines e = first_stands all line lines e
first_stands ((b ∷ x) ∷ all) line lines e = let same : b ∷ x ≡ line = cc e in subst (λ l. paragraph (l ∷ lines) ≡ l ∷ paragraph lines) same refl

-- the paragraph ends at a blank line, and holds any other
pub paragraph_ends : (line : Bytes) (lines : List Bytes) → eqb (length line) 0 ≡ true → paragraph (line ∷ lines) ≡ []
paragraph_ends [] lines e = refl
paragraph_ends (b ∷ line) lines e = absurd (omega (arith, eqb-true (length (b ∷ line)) 0 e))

pub paragraph_goes : (line : Bytes) (lines : List Bytes) → eqb (length line) 0 ≡ false → paragraph (line ∷ lines) ≡ line ∷ paragraph lines
paragraph_goes [] lines e = absurd (cc e)
paragraph_goes (b ∷ line) lines e = refl

-- the subject begins with the first line behind blank ones
pub subject_parts : (message first : Bytes) (rest : List Bytes) → behind_blank (message_lines message) ≡ first ∷ rest → subject message ≡ first ++ flat_map (λ line. 32 ∷ line) (paragraph rest)
subject_parts message first rest e =
    ap (λ lines. join_by (λ line. line) (32 ∷ []) (paragraph lines)) e ∙ ap (join_by (λ line. line) (32 ∷ [])) (first_stands (message_lines message) first rest e)

-- nothing is shown of blank lines
pub no_subject : (message : Bytes) → behind_blank (message_lines message) ≡ [] → subject message ≡ []
no_subject message e = ap (λ lines. join_by (λ line. line) (32 ∷ []) (paragraph lines)) e

-- what is left is a front
pub trimmed_front : (text : Bytes) → take (length (trimmed text)) text ≡ trimmed text
unfolding trimmed
trimmed_front [] = refl
trimmed_front (b ∷ bs) =
    elim (list_all is_space (b ∷ bs)) as (λ t. take (length (cond t [] (b ∷ trimmed bs))) (b ∷ bs) ≡ cond t [] (b ∷ trimmed bs)) [
      | true ↦ refl
      | false ↦ ap (λ x. b ∷ x) (trimmed_front bs)
    ]
