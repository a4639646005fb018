-- A line tells the mark that is read in it, and no other.
use Rattle.std.proofs.Common.{◌≡◌, ℕ, ◌<◌, ◌^◌, Bool, true, false, cond, ◌&&◌, refl, sym, ap, subst, ◌∙◌, arith, [], ◌∷◌, ◌++◌, map, length, take, drop, append-nil, Option, Some, None, Ok, Err, inl, inr}
use Rattle.std.specs.Prelude.{◌==◌, nat_eq}
use Rattle.std.specs.Bool.{passes}
use Rattle.std.specs.Char.{is_ascii_digit}
use Rattle.std.specs.List.{list_all}
use Rattle.std.specs.Option.{ok_or, option_and_then, option_map}
use Rattle.std.specs.Result.{result_ok}
use Rattle.std.specs.Str.Parse.{digits_value}
use Rattle.std.proofs.lemmas.Bool.{and_from, and_parts, eqb-true}
use Rattle.std.proofs.lemmas.Bool.Decides.{nat_tests}
use Rattle.std.proofs.lemmas.List.{take-append-drop, take_all, drop_all}
use Rattle.std.proofs.lemmas.Slice.Eq.{bytes_eq-Decides}
use Rattle.gx_model.specs.Faults.{◌>>=◌}
use Rattle.gx_model.specs.declared.faults.Fault.TheVariants as faults
use Rattle.gx_model.specs.Export.{mark_text}
use Rattle.gx_model.specs.Objects.{hex, is_name, unhex}
use Rattle.gx_model.specs.Objects.Naming.{name_in}
use Rattle.gx_model.specs.Streams.LineShapes.{IsMarkText, is_mark}
use Rattle.gx_model.specs.Streams.Lines.{mark_number, mark_of, of_mark}
use Rattle.gx_model.specs.Texts.{Bytes, cut_at, is_line, lacks}
use Rattle.gx_model.specs.Texts.Digits.{is_any_digit, is_lower_digit, lower}
use Rattle.gx_model.specs.Texts.Numbers.{decimal_of, is_number}
use Rattle.gx_model.proofs.ObjectTexts.BodiesReadBack.{unhex_hex}
use Rattle.gx_model.proofs.ObjectTexts.NameDigits.{hex_long, hex_lower}
use Rattle.gx_model.proofs.Revisions.Bases.{name_written}
use Rattle.gx_model.proofs.Stores.StoreTexts.{both_some, line_lacks}
use Rattle.gx_model.proofs.Streams.TextShapes.{mark_shape}
use Rattle.gx_model.proofs.Texts.Cuts.{cut_after, cut_spelled, map_some}
use Rattle.gx_model.proofs.Texts.Decimals.{decimal_read}
use Rattle.gx_model.proofs.Texts.Idents.{and_one, and_two}
use Rattle.gx_model.proofs.Texts.LineTexts.{digits_are_line, line_append, line_by}
use Rattle.gx_model.proofs.Texts.LowerDigits.{lower_again}
use Rattle.gx_marks.specs.Marks.{IsLineEnd, LeadsWith, NumberedName, TellsMark}
use Rattle.gx_marks.specs.Reading.{first_in, is_line_end, mark_before, mark_in, mark_of_parts, named_in}

-- ---- the number

-- digits write a number from 1
abbrev WritesNumber : Bytes → ℕ → Type 0
WritesNumber ds n = (decimal_of ds ≡ Some n) × (0 < n)

unless_zero : (m n : ℕ) (ds : Bytes) → decimal_of ds ≡ Some m → (t : Bool) → (m == 0) ≡ t → result_ok (cond t (Err faults.BadNumber) (Ok m)) ≡ Some n → WritesNumber ds n
unless_zero m n ds d true z f = absurd cc
unless_zero m n ds d false z f =
    let is : m ≡ n = cc in
    let some : 0 < m = grind (arith, nat_tests) in
    (d ∙ ap Some is, subst (λ k. 0 < k) is some)

digits_write : (ds : Bytes) (n : ℕ) → result_ok (mark_number ds) ≡ Some n → WritesNumber ds n
digits_write ds n e = by (decimal_of ds) refl e
  where
    by : (o : Option ℕ) → decimal_of ds ≡ o → result_ok (ok_or o faults.BadNumber >>= λ m. cond (m == 0) (Err faults.BadNumber) (Ok m)) ≡ Some n → WritesNumber ds n
    by None d f = absurd cc
    by (Some m) d f = unless_zero m n ds d (m == 0) refl f

-- a mark is a colon and such digits
pub number_tells : (text : Bytes) (n : ℕ) → result_ok (mark_of text) ≡ Some n → (ds : Bytes) × (text ≡ 58 ∷ ds) × WritesNumber ds n
unfolding mark_of
number_tells [] n e = absurd cc
number_tells (b ∷ bs) n e = by (b == 58) refl e
  where
    by : (t : Bool) → (b == 58) ≡ t → result_ok (of_mark (cond t (Some (mark_number bs)) None)) ≡ Some n → (ds : Bytes) × (b ∷ bs ≡ 58 ∷ ds) × WritesNumber ds n
    by false h f = absurd cc
    by true h f = (bs, ap (λ c. c ∷ bs) (eqb-true b 58 h), digits_write bs n f)

pub number_told : (text : Bytes) (n : ℕ) → IsMarkText text (Ok n) → result_ok (mark_of text) ≡ Some n
number_told text n h = ap result_ok (mark_shape text (Ok n) h)

digits_of_number : (ds : Bytes) (n : ℕ) → decimal_of ds ≡ Some n → list_all is_ascii_digit ds ≡ true
digits_of_number ds n e = by (is_number ds) refl e
  where
    by : (b : Bool) → is_number ds ≡ b → cond b (Some (digits_value 10 ds)) None ≡ Some n → list_all is_ascii_digit ds ≡ true
    by false h f = absurd cc
    by true h f = and_one _ _ (and_one _ _ h)

-- no space and no LF stand in a mark
lacks-by : (P : ℕ → Bool) → ((b : ℕ) → P b ≡ true → (b == 32) ≡ false) → (xs : Bytes) → list_all P xs ≡ true → lacks 32 xs ≡ true
lacks-by P f [] e = refl
lacks-by P f (x ∷ xs) e = rw (f x (and_one (P x) _ e)) (lacks-by P f xs (and_two (P x) _ e))

digit_no_space : (b : ℕ) → is_ascii_digit b ≡ true → (b == 32) ≡ false
digit_no_space b e = grind (arith, nat_tests)

number_lacks : (text : Bytes) (n : ℕ) → IsMarkText text (Ok n) → lacks 32 text ≡ true
number_lacks text n h =
    let t = number_tells text n (number_told text n h) in
    subst (λ x. lacks 32 x ≡ true) (sym t.1) (lacks-by is_ascii_digit digit_no_space t.0 (digits_of_number t.0 n t.2.0))

number_line : (text : Bytes) (n : ℕ) → IsMarkText text (Ok n) → is_line text ≡ true
number_line text n h =
    let t = number_tells text n (number_told text n h) in
    subst (λ x. is_line x ≡ true) (sym t.1) (digits_are_line t.0 (digits_of_number t.0 n t.2.0))

-- ---- the name

-- a name is read in 40 digits
record IsDigits (text : Bytes) : Type 0 where
  pub long : length text ≡ 40
  pub digits : list_all is_any_digit text ≡ true

name_digits : (text name : Bytes) → name_in text ≡ Some name → IsDigits text
unfolding name_in
name_digits text name e = by (nat_eq (length text) 40 && list_all is_any_digit text) refl e
  where
    by : (b : Bool) → (nat_eq (length text) 40 && list_all is_any_digit text) ≡ b → cond b (Some (unhex (map lower text))) None ≡ Some name → IsDigits text
    by false h f = absurd cc
    by true h f = record { long = eqb-true _ _ (and_one (nat_eq (length text) 40) _ h); digits = and_two (nat_eq (length text) 40) _ h }

pub end_is : (end : Bytes) → IsLineEnd end → is_line_end end ≡ true
end_is end (inl e) = rw e refl
end_is end (inr e) = rw e refl

pub is_end_is : (end : Bytes) → is_line_end end ≡ true → IsLineEnd end
is_end_is [] h = inl refl
is_end_is (b ∷ bs) h =
    let some : (length (b ∷ bs) == 0) ≡ false = grind (arith, nat_tests) in
    inr ((bytes_eq-Decides (b ∷ bs) (13 ∷ [])).0 (rw some at h))

-- fewer than 40 bytes are no name
pub short_name : (text : Bytes) → length text < 40 → None ≡ named_in text
unfolding name_in
short_name text few =
    let none : drop 40 text ≡ [] = drop_all 40 text (omega arith) in
    let all : take 40 text ≡ text = take_all 40 text (omega arith) in
    let other : nat_eq (length text) 40 ≡ false = grind (arith, nat_tests) in
    rw (none, all, other) refl

-- a name and what ends a line, read as such
pub name_told : (name end object : Bytes) → name_in name ≡ Some object → IsLineEnd end → named_in (name ++ end) ≡ Some object
name_told name end object e h =
    let long = (name_digits name object e).long in
    let front : take 40 (name ++ end) ≡ name = subst (λ n. take n (name ++ end) ≡ name) long (front_of name end) in
    let rest : drop 40 (name ++ end) ≡ end = subst (λ n. drop n (name ++ end) ≡ end) long (rest_of name end) in
    rw (front, rest, end_is end h) e
  where
    front_of : (xs ys : Bytes) → take (length xs) (xs ++ ys) ≡ xs
    front_of [] ys = refl
    front_of (x ∷ xs) ys = ap (λ zs. x ∷ zs) (front_of xs ys)

    rest_of : (xs ys : Bytes) → drop (length xs) (xs ++ ys) ≡ ys
    rest_of [] ys = refl
    rest_of (x ∷ xs) ys = rest_of xs ys

-- what is read as a name stands so
record IsNamed (text object : Bytes) : Type 0 where
  pub name : Bytes
  pub end : Bytes
  pub parts : text ≡ name ++ end
  pub named : name_in name ≡ Some object
  pub ends : IsLineEnd end

name_tells : (text object : Bytes) → named_in text ≡ Some object → IsNamed text object
name_tells text object e = by (is_line_end (drop 40 text)) refl e
  where
    by : (t : Bool) → is_line_end (drop 40 text) ≡ t → cond t (name_in (take 40 text)) None ≡ Some object → IsNamed text object
    by false h f = absurd cc
    by true h f = record {
      name = take 40 text;
      end = drop 40 text;
      parts = sym (take-append-drop 40 text);
      named = f;
      ends = is_end_is (drop 40 text) h;
    }

-- ---- the line

pub mark_told : (text : Bytes) (mark : NumberedName) → TellsMark text mark → mark_in text ≡ Some mark
unfolding mark_in
mark_told text mark h =
    ap (λ t. option_and_then mark_of_parts (cut_at 32 t)) h.parts
    ∙ ap (option_and_then mark_of_parts) (cut_after 32 h.number (h.name ++ h.end) (number_lacks h.number mark.0 h.is_number))
    ∙ ap (λ o. option_and_then (λ n. option_map (λ name. (n, name)) (named_in (h.name ++ h.end))) o) (number_told h.number mark.0 h.is_number)
    ∙ ap (option_map (λ name. (mark.0, name))) (name_told h.name h.end mark.1 h.is_name h.is_end)

pub mark_tells : (text : Bytes) (mark : NumberedName) → mark_in text ≡ Some mark → TellsMark text mark
unfolding mark_in
mark_tells text mark e =
    let parts = both_some mark_of_parts (cut_at 32 text) mark e in
    let number = both_some (λ n. option_map (λ name. (n, name)) (named_in parts.0.1)) (result_ok (mark_of parts.0.0)) mark parts.2 in
    let named = map_some (λ name. (number.0, name)) (named_in parts.0.1) mark number.2 in
    let told = number_tells parts.0.0 number.0 number.1 in
    let name = name_tells parts.0.1 named.0 named.1 in
    subst (TellsMark text) named.2 (record {
      number = parts.0.0;
      name = name.name;
      end = name.end;
      parts = cut_spelled 32 text parts.0 parts.1 ∙ ap (λ x. parts.0.0 ++ 32 ∷ x) name.parts;
      is_number = is_mark told.1 told.2.0 told.2.1;
      is_name = name.named;
      is_end = name.ends;
    })

any_no_lf : is_any_digit 10 ≡ false
any_no_lf = refl

end_line : (end : Bytes) → IsLineEnd end → is_line end ≡ true
end_line end (inl e) = rw e refl
end_line end (inr e) = rw e refl

-- no LF stands in the line of a mark
pub told_lacks : (text : Bytes) (mark : NumberedName) → TellsMark text mark → lacks 10 text ≡ true
told_lacks text mark h =
    let name = line_by is_any_digit any_no_lf h.name (name_digits h.name mark.1 h.is_name).digits in
    let behind = line_append h.name h.end name (end_line h.end h.is_end) in
    line_lacks text (passes _ (ap is_line h.parts ∙ line_append h.number (32 ∷ (h.name ++ h.end)) (number_line h.number mark.0 h.is_number) behind))

-- ---- the first line

pub first_told : (text : Bytes) (mark : NumberedName) (rest : Bytes) → LeadsWith text mark rest → first_in text ≡ Some (mark, rest)
unfolding first_in
first_told text mark rest h =
    ap (λ t. option_and_then mark_before (cut_at 10 t)) h.1
    ∙ ap (option_and_then mark_before) (cut_after 10 h.0 rest (told_lacks h.0 mark h.2))
    ∙ ap (option_map (λ m. (m, rest))) (mark_told h.0 mark h.2)

pub first_tells : (text : Bytes) (mark : NumberedName) (rest : Bytes) → first_in text ≡ Some (mark, rest) → LeadsWith text mark rest
unfolding first_in
first_tells text mark rest e =
    let parts = both_some mark_before (cut_at 10 text) (mark, rest) e in
    let told = map_some (λ m. (m, parts.0.1)) (mark_in parts.0.0) (mark, rest) parts.2 in
    let same = ap (λ (p : NumberedName × Bytes). p.0) told.2 in
    let behind = ap (λ (p : NumberedName × Bytes). p.1) told.2 in
    subst (λ r. LeadsWith text mark r) behind
    (parts.0.0, cut_spelled 10 text parts.0 parts.1, mark_tells parts.0.0 mark (told.1 ∙ ap Some same))

-- ---- the line as it is written

name_read : (name : Bytes) → is_name name ≡ true → name_in (hex name) ≡ Some name
name_read name h =
    let p = and_parts (nat_eq (length name) 20) _ h in
    let long = eqb-true _ _ p.0 in
    let digits = hex_long name in
    let low = hex_lower name p.1 in
    name_written (hex name) (omega arith) (each_any (hex name) low) ∙ ap (λ x. Some (unhex x)) (lower_again (hex name) (passes _ low)) ∙ ap Some (unhex_hex name (passes _ p.1))
  where
    any_digit : (d : ℕ) → is_lower_digit d ≡ true → is_any_digit d ≡ true
    any_digit d e = grind (arith, nat_tests)

    each_any : (x : Bytes) → list_all is_lower_digit x ≡ true → list_all is_any_digit x ≡ true
    each_any [] e = refl
    each_any (d ∷ x) e = and_from _ _ (any_digit d (and_one (is_lower_digit d) _ e)) (each_any x (and_two (is_lower_digit d) _ e))

-- a mark's number and name, without the LF, tell the mark
pub written_tells : (mark : NumberedName) → 0 < mark.0 → mark.0 < 2 ^ 64 → is_name mark.1 ≡ true → TellsMark (mark_text mark.0 ++ 32 ∷ hex mark.1) mark
written_tells mark some small named = record {
  number = mark_text mark.0;
  name = hex mark.1;
  end = [];
  parts = ap (λ x. mark_text mark.0 ++ 32 ∷ x) (sym (append-nil (hex mark.1)));
  is_number = is_mark refl (decimal_read mark.0 small) some;
  is_name = name_read mark.1 named;
  is_end = inl refl;
}
