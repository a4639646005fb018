-- A text has one reading at most.
use Rattle.std.proofs.Common.{◌≡◌, ℕ, zero, suc, ◌+◌, ◌<◌, ◌≤◌, Bool, true, false, ◌||◌, ◌&&◌, inl, inr, Some, None, List, [], ◌∷◌, ◌++◌, length, take, drop, nat_eq, nat_lt, codes, refl, sym, ap, ◌∙◌, arith, append_assoc}
use Rattle.std.specs.List.{starts_with}
use Rattle.std.specs.Str.{bytes_eq}
use Rattle.std.proofs.lemmas.Bool.{false≢true}
use Rattle.std.proofs.lemmas.List.{take_at, drop_at, length-append, take_all, drop_all}
use Rattle.std.proofs.lemmas.Slice.Eq.{starts_is, bytes_eq-Decides}
use Rattle.std.proofs.Math.Seq.{drop-append-add}
use Rattle.std.proofs.lemmas.Bool.Decides.{Decides-eqb, nat_tests}
use Rattle.gx_model.specs.Texts.Numbers.{decimal_of}
use Rattle.gx_model.specs.Texts.{Bytes}
use Rattle.gx_model.specs.declared.faults.Fault.TheVariants as faults
use Rattle.gx_model.specs.Streams.Items.{Item, Line, Data, End, Finished, Failed, takes, drops, ends, first_of, first_line, counted, counted_block, delimited, delimited_by, lines_before, with_line, without_lf, line_len, has_no_line, end_of, cut_off, then_comes, after, read_upto, items_of}
use Rattle.gx_model.specs.Streams.Spelling.{HasNoLf, BeginsLine, comment_line, data_line, delimiter_text, IsNot, NoLfFirst, EndsBlock, AreOther, text_of_lines, Spells, IsCut, Ends, IsReading, ended, taken, dropped}

pub refuted : (b : Bool) → (b ≡ true → ⊥) → b ≡ false
refuted true h = absurd (h refl)
refuted false h = refl

line_len-stop : (l rest : Bytes) → HasNoLf l → line_len (l ++ 10 ∷ rest) ≡ length l
line_len-stop [] rest h = refl
line_len-stop (b ∷ bs) rest h = rw h.0 (omega (arith, line_len-stop bs rest h.1))

pub line_len-all : (l : Bytes) → HasNoLf l → line_len l ≡ length l
line_len-all [] h = refl
line_len-all (b ∷ bs) h = rw h.0 (omega (arith, line_len-all bs h.1))

-- a line at the front is found there
pub record Finds (text : Bytes) (fails : Bool) (l rest : Bytes) : Type 0 where
  pub some : has_no_line text fails ≡ false
  pub front : take (line_len text) text ≡ l
  pub back : drop (line_len text + 1) text ≡ rest
  pub shorter : length rest < length text

tested : (n m : ℕ) (fails : Bool) → 0 < n → (fails ≡ true → m < n) → (nat_eq n 0 || (fails && nat_eq m n)) ≡ false
tested n m true l h = let k = h refl in grind (arith, nat_tests)
tested n m false l h = grind (arith, nat_tests)

pub finds : (text : Bytes) (fails : Bool) (l rest : Bytes) → BeginsLine text fails l rest → Finds text fails l rest
finds text fails l rest (h, inl e) =
    let len : line_len text ≡ length l = ap line_len e ∙ line_len-stop l rest h in
    let long : length text ≡ length l + suc (length rest) = ap length e ∙ length-append l (10 ∷ rest) in
    record {
      some = tested (length text) (line_len text) fails (omega (arith, long)) (λ _. omega (arith, long, len));
      front = ap (λ k. take k text) len ∙ ap (take (length l)) e ∙ take_at l (10 ∷ rest) (length l) refl;
      back = ap (λ k. drop (k + 1) text) len ∙ ap (drop (length l + 1)) e ∙ drop-append-add l (10 ∷ rest) 1;
      shorter = omega (arith, long);
    }
finds text fails l rest (h, inr e) =
    let len : line_len text ≡ length l = ap line_len e.0 ∙ line_len-all l h in
    let long : length text ≡ length l = ap length e.0 in
    let none : length rest ≡ 0 = ap length e.1 in
    record {
      some = tested (length text) (line_len text) fails (omega (arith, long, e.2)) (λ f. absurd (false≢true (sym e.3 ∙ f)));
      front = take_all (line_len text) text (omega (arith, len, long)) ∙ e.0;
      back = drop_all (line_len text + 1) text (omega (arith, len, long)) ∙ sym e.1;
      shorter = omega (arith, long, none, e.2);
    }

pub first_of-line : (text : Bytes) (fails : Bool) (l rest : Bytes) → BeginsLine text fails l rest → first_of text fails ≡ first_line l rest fails
unfolding first_of
first_of-line text fails l rest h =
    let f = finds text fails l rest h in
    rw f.some (ap (λ v. first_line v (drop (line_len text + 1) text) fails) f.front ∙ ap (λ v. first_line l v fails) f.back)

-- ---- what a line is

not_form : (p l : Bytes) → ((x : Bytes) → l ≡ p ++ x → ⊥) → starts_with nat_eq l p ≡ false
not_form p l h = refuted _ (λ e. h (drop (length p) l) ((starts_is Decides-eqb l p _ refl).0 e))

pub plain_line : (l rest : Bytes) (fails : Bool) → IsNot comment_line l → IsNot data_line l → first_line l rest fails ≡ takes (Line l) rest
unfolding first_line
plain_line l rest fails c d = rw (not_form (codes "#") l c, not_form (codes "data ") l d) refl

pub comment_first : (x rest : Bytes) (fails : Bool) → first_line (comment_line x) rest fails ≡ drops rest
unfolding first_line
comment_first x rest fails = refl

pub counted_first : (y rest : Bytes) (fails : Bool) → IsNot delimiter_text y → first_line (data_line y) rest fails ≡ counted (decimal_of y) rest fails
unfolding first_line
counted_first y rest fails h = rw (not_form (codes "<<") y h) refl

pub delimited_first : (d rest : Bytes) (fails : Bool) → first_line (data_line (delimiter_text d)) rest fails ≡ delimited d rest fails
unfolding first_line
delimited_first d rest fails = refl

-- ---- blocks

kept : (rest : Bytes) → NoLfFirst rest → without_lf rest ≡ rest
kept [] h = refl
kept (b ∷ bs) h = rw h refl

-- what follows a block, and the byte that has to stand there
record Follows (after rest : Bytes) (fails : Bool) : Type 0 where
  pub rest_is : without_lf after ≡ rest
  pub some : fails ≡ true → 0 < length after

ends_block : (after : Bytes) (fails : Bool) (rest : Bytes) → EndsBlock after fails rest → Follows after rest fails
ends_block after fails rest (inl e) = record { rest_is = ap without_lf e; some = λ _. let k = ap length e in omega (arith, k) }
ends_block after fails rest (inr e) = record { rest_is = ap without_lf e.0 ∙ kept rest e.1; some = λ f. let k = ap length e.0 in omega (arith, k, e.2 f) }

counted_yes : (x bytes after rest : Bytes) (fails : Bool) → bytes ≡ x ++ after → Follows after rest fails → counted_block (length x) bytes fails ≡ takes (Data x) rest
unfolding counted_block
counted_yes x bytes more rest fails e f =
    let long : length bytes ≡ length x + length more = ap length e ∙ length-append x more in
    let test = by (length bytes) (length x) (length more) fails long f.some in
    rw test (ap (λ v. takes (Data v) (without_lf (drop (length x) bytes))) (ap (take (length x)) e ∙ take_at x more (length x) refl) ∙ ap (λ v. takes (Data x) (without_lf v)) (ap (drop (length x)) e ∙ drop_at x more (length x) refl) ∙ ap (takes (Data x)) f.rest_is)
  where
    by : (n m k : ℕ) (fails : Bool) → n ≡ m + k → (fails ≡ true → 0 < k) → (nat_lt n m || (fails && nat_eq n m)) ≡ false
    by n m k true e h = let l = h refl in grind (arith, nat_tests)
    by n m k false e h = grind (arith, nat_tests)

pub counted_no : (n : ℕ) (bytes : Bytes) (fails : Bool) → length bytes ≤ n → (fails ≡ false → length bytes < n) → counted_block n bytes fails ≡ ends (cut_off fails)
unfolding counted_block
counted_no n bytes true l m =
    let test : (nat_lt (length bytes) n || (true && nat_eq (length bytes) n)) ≡ true = grind (arith, nat_tests) in
    rw test refl
counted_no n bytes false l m =
    let k = m refl in
    let test : (nat_lt (length bytes) n || (false && nat_eq (length bytes) n)) ≡ true = grind (arith, nat_tests) in
    rw test refl

-- ---- delimited blocks

not_same : (l d : Bytes) → (l ≡ d → ⊥) → bytes_eq l d ≡ false
not_same l d h = refuted _ (λ e. h ((bytes_eq-Decides l d).0 e))

pub one_line : (n : ℕ) (d text : Bytes) (fails : Bool) (l rest : Bytes) → BeginsLine text fails l rest → (l ≡ d → ⊥) → lines_before (suc n) d text fails ≡ with_line l (lines_before n d rest fails)
unfolding lines_before
one_line n d text fails l rest h other =
    let f = finds text fails l rest h in
    rw (f.some, f.front, f.back, not_same l d other) refl

pub its_line : (n : ℕ) (d text : Bytes) (fails : Bool) (rest : Bytes) → BeginsLine text fails d rest → lines_before (suc n) d text fails ≡ Some ([], rest)
unfolding lines_before
its_line n d text fails rest h =
    let f = finds text fails d rest h in
    let same : bytes_eq d d ≡ true = (bytes_eq-Decides d d).1 refl in
    rw (f.some, f.front, f.back, same) refl

pub no_line_left : (n : ℕ) (d text : Bytes) (fails : Bool) → has_no_line text fails ≡ true → lines_before (suc n) d text fails ≡ None
unfolding lines_before
no_line_left n d text fails h = rw h refl

lines_found : (n : ℕ) (d : Bytes) (fails : Bool) (ls : List Bytes) (more rest : Bytes) → length (text_of_lines ls ++ more) < n → AreOther d ls → BeginsLine more fails d rest → lines_before n d (text_of_lines ls ++ more) fails ≡ Some (text_of_lines ls, rest)
lines_found zero d fails ls more rest lt h b = absurd (omega arith)
lines_found (suc n) d fails [] more rest lt h b = its_line n d more fails rest b
lines_found (suc n) d fails (l ∷ ls) more rest lt h b =
    let e : text_of_lines (l ∷ ls) ++ more ≡ l ++ 10 ∷ (text_of_lines ls ++ more) = simp append_assoc in
    let long = ap length e ∙ length-append l (10 ∷ (text_of_lines ls ++ more)) in
    one_line n d (text_of_lines (l ∷ ls) ++ more) fails l (text_of_lines ls ++ more) (h.0, inl e) h.1
    ∙ ap (with_line l) (lines_found n d fails ls more rest (omega (arith, long, lt)) h.2 b) ∙ ap (λ x. Some (x, rest)) (sym (append_assoc l (10 ∷ []) (text_of_lines ls)))

pub nothing_before : (n : ℕ) (d : Bytes) (fails : Bool) → lines_before n d [] fails ≡ None
unfolding lines_before
nothing_before zero d fails = refl
nothing_before (suc n) d fails = refl

pub by_zero : (d text : Bytes) (fails : Bool) → lines_before zero d text fails ≡ None
unfolding lines_before
by_zero d text fails = refl

last_none : (n : ℕ) (d : Bytes) (fails : Bool) (last : Bytes) → HasNoLf last → (fails ≡ false → last ≡ d → last ≡ []) → lines_before n d last fails ≡ None
last_none n d fails [] h o = nothing_before n d fails
last_none zero d fails (b ∷ bs) h o = by_zero d (b ∷ bs) fails
last_none (suc n) d true (b ∷ bs) h o =
    let len = line_len-all (b ∷ bs) h in
    let test : has_no_line (b ∷ bs) true ≡ true = grind (arith, nat_tests) in
    no_line_left n d (b ∷ bs) true test
last_none (suc n) d false (b ∷ bs) h o =
    one_line n d (b ∷ bs) false (b ∷ bs) [] (h, inr (refl, refl, omega arith, refl)) (λ e. let k = ap length (o refl e) in omega (arith, k)) ∙ ap (with_line (b ∷ bs)) (nothing_before n d false)

lines_none : (n : ℕ) (d : Bytes) (fails : Bool) (ls : List Bytes) (last : Bytes) → AreOther d ls → HasNoLf last → (fails ≡ false → last ≡ d → last ≡ []) → lines_before n d (text_of_lines ls ++ last) fails ≡ None
lines_none n d fails [] last h k o = last_none n d fails last k o
lines_none zero d fails (l ∷ ls) last h k o = by_zero d (text_of_lines (l ∷ ls) ++ last) fails
lines_none (suc n) d fails (l ∷ ls) last h k o =
    let e : text_of_lines (l ∷ ls) ++ last ≡ l ++ 10 ∷ (text_of_lines ls ++ last) = simp append_assoc in
    one_line n d (text_of_lines (l ∷ ls) ++ last) fails l (text_of_lines ls ++ last) (h.0, inl e) h.1 ∙ ap (with_line l) (lines_none n d fails ls last h.2 k o)

delimited_yes : (d bytes : Bytes) (fails : Bool) (ls : List Bytes) (more rest : Bytes) (end : Bytes) → AreOther d ls → bytes ≡ text_of_lines ls ++ more → BeginsLine more fails d end → Follows end rest fails → delimited d bytes fails ≡ takes (Data (text_of_lines ls)) rest
unfolding delimited
delimited_yes d bytes fails ls more rest end h e b f =
    let k = ap length e in
    let test = by fails (length end) f.some in
    ap (λ o. delimited_by o fails) (ap (λ t. lines_before (suc (length bytes)) d t fails) e ∙ lines_found (suc (length bytes)) d fails ls more end (omega (arith, k)) h b) ∙ rw test (ap (takes (Data (text_of_lines ls))) f.rest_is)
  where
    by : (fails : Bool) (n : ℕ) → (fails ≡ true → 0 < n) → (fails && nat_eq n 0) ≡ false
    by true n h = let l = h refl in grind (arith, nat_tests)
    by false n h = refl

delimited_none : (d bytes : Bytes) (fails : Bool) (ls : List Bytes) (last : Bytes) → AreOther d ls → bytes ≡ text_of_lines ls ++ last → HasNoLf last → (fails ≡ false → last ≡ d → last ≡ []) → delimited d bytes fails ≡ ends (cut_off fails)
unfolding delimited
delimited_none d bytes fails ls last h e k o = ap (λ x. delimited_by x fails) (ap (λ t. lines_before (suc (length bytes)) d t fails) e ∙ lines_none (suc (length bytes)) d fails ls last h k o)

delimited_short : (d bytes : Bytes) (ls : List Bytes) (last : Bytes) → AreOther d ls → bytes ≡ text_of_lines ls ++ last → HasNoLf d → last ≡ d ++ 10 ∷ [] → delimited d bytes true ≡ ends (cut_off true)
unfolding delimited
delimited_short d bytes ls last h e k is =
    let n = ap length e in
    ap (λ x. delimited_by x true) (ap (λ t. lines_before (suc (length bytes)) d t true) e ∙ lines_found (suc (length bytes)) d true ls last [] (omega (arith, n)) h (k, inl is))

-- ---- what a text begins with

pub item_first : (text : Bytes) (fails : Bool) (i : Item) (rest : Bytes) → Spells text fails i rest → first_of text fails ≡ takes i rest
item_first text fails (Line l) rest h = first_of-line text fails l rest h.0 ∙ plain_line l rest fails h.1 h.2
item_first text fails (Data x) rest (y, bytes, b, inl c) =
    first_of-line text fails (data_line y) bytes b ∙ counted_first y bytes fails c.0 ∙ ap (λ v. counted v bytes fails) c.1 ∙ counted_yes x bytes c.2 rest fails c.3 (ends_block c.2 fails rest c.4)
item_first text fails (Data x) rest (y, bytes, b, inr (d, e, c)) =
    first_of-line text fails (data_line y) bytes b ∙ ap (λ v. first_line (data_line v) bytes fails) e ∙ delimited_first d bytes fails
    ∙ delimited_yes d bytes fails c.0 c.1 rest c.2 c.3 (c.5 ∙ ap (λ v. v ++ c.1) c.4) c.6 (ends_block c.2 fails rest c.7) ∙ ap (λ v. takes (Data v) rest) (sym c.4)

cut_first : (text : Bytes) (fails : Bool) → IsCut text fails → first_of text fails ≡ ends (cut_off fails)
cut_first text fails (y, bytes, b, inl c) =
    first_of-line text fails (data_line y) bytes b ∙ counted_first y bytes fails c.0 ∙ ap (λ v. counted v bytes fails) c.2 ∙ counted_no c.1 bytes fails c.3 c.4
cut_first text fails (y, bytes, b, inr (d, e, ls, last, o, is, inl c)) =
    first_of-line text fails (data_line y) bytes b ∙ ap (λ v. first_line (data_line v) bytes fails) e ∙ delimited_first d bytes fails ∙ delimited_none d bytes fails ls last o is c.0 c.1
cut_first text fails (y, bytes, b, inr (d, e, ls, last, o, is, inr c)) =
    first_of-line text fails (data_line y) bytes b ∙ ap (λ v. first_line (data_line v) bytes fails) e ∙ delimited_first d bytes fails
    ∙ ap (delimited d bytes) c.0 ∙ delimited_short d bytes ls last o is c.1 c.2 ∙ ap (λ f. ends (cut_off f)) (sym c.0)

no_line : (text : Bytes) (fails : Bool) → has_no_line text fails ≡ true → first_of text fails ≡ ends (end_of fails)
unfolding first_of
no_line text fails h = rw h refl

pub end_first : (text : Bytes) (fails : Bool) (e : End) → Ends text fails e → first_of text fails ≡ ends e
end_first text fails Finished h =
    let test : has_no_line text fails ≡ true = ap (λ t. has_no_line t fails) h.0 in
    no_line text fails test ∙ ap (λ f. ends (end_of f)) h.1
end_first text fails (Failed faults.BadNumber) h = first_of-line text fails (data_line h.0) h.1 h.2 ∙ counted_first h.0 h.1 fails h.3 ∙ ap (λ v. counted v h.1 fails) h.4
end_first text fails (Failed faults.TruncatedData) h = cut_first text fails h.1 ∙ ap (λ f. ends (cut_off f)) h.0
end_first text fails (Failed faults.ReadFailed) (f, inl h) =
    let len = line_len-all text h in
    let t : has_no_line text true ≡ true = grind (arith, nat_tests) in
    ap (first_of text) f ∙ no_line text true t
end_first text fails (Failed faults.ReadFailed) (f, inr c) = cut_first text fails c ∙ ap (λ f. ends (cut_off f)) f
end_first text fails (Failed _) h = absurd h

-- ---- the whole text

ends_shorter : (after : Bytes) (fails : Bool) (rest : Bytes) → EndsBlock after fails rest → length rest ≤ length after
ends_shorter end fails rest (inl e) = let k = ap length e in omega (arith, k)
ends_shorter end fails rest (inr e) = let k = ap length e.0 in omega (arith, k)

pub spells_shorter : (text : Bytes) (fails : Bool) (i : Item) (rest : Bytes) → Spells text fails i rest → length rest < length text
spells_shorter text fails (Line l) rest h = (finds text fails l rest h.0).shorter
spells_shorter text fails (Data x) rest (y, bytes, b, inl c) =
    let s = (finds text fails (data_line y) bytes b).shorter in
    let k = ap length c.3 ∙ length-append x c.2 in
    omega (arith, s, k, ends_shorter c.2 fails rest c.4)
spells_shorter text fails (Data x) rest (y, bytes, b, inr (d, e, c)) =
    let s = (finds text fails (data_line y) bytes b).shorter in
    let k = ap length c.5 ∙ length-append x c.1 in
    let t = (finds c.1 fails d c.2 c.6).shorter in
    omega (arith, s, k, t, ends_shorter c.2 fails rest c.7)

upto : (n : ℕ) (text : Bytes) (fails : Bool) (is : List Item) (e : End) → IsReading fails text is e → length text < n → read_upto n text fails ≡ record { items = is; end = e }
unfolding read_upto
upto zero text fails is e h lt = absurd (omega arith)
upto (suc n) text fails [] e (ended h) lt = ap (λ f. after f (λ rest. read_upto n rest fails)) (end_first text fails e h)
upto (suc n) text fails (i ∷ is) e (taken rest s r) lt =
    let k = spells_shorter text fails i rest s in
    ap (λ f. after f (λ rest. read_upto n rest fails)) (item_first text fails i rest s) ∙ ap (then_comes i) (upto n rest fails is e r (omega (arith, k, lt)))
upto (suc n) text fails is e (dropped x rest b r) lt =
    let k = (finds text fails (comment_line x) rest b).shorter in
    ap (λ f. after f (λ rest. read_upto n rest fails)) (first_of-line text fails (comment_line x) rest b ∙ comment_first x rest fails) ∙ upto n rest fails is e r (omega (arith, k, lt))

pub only_reading : (text : Bytes) (fails : Bool) (is : List Item) (e : End) → IsReading fails text is e → items_of text fails ≡ record { items = is; end = e }
unfolding items_of
only_reading text fails is e h = upto (suc (length text)) text fails is e h (omega arith)
