-- Each text has a reading.
use Rattle.std.proofs.Common.{◌≡◌, ℕ, zero, suc, ◌+◌, ◌<◌, ◌≤◌, Bool, true, false, cond, ◌||◌, ◌&&◌, ◌⊎◌, inl, inr, Option, Some, None, List, [], ◌∷◌, ◌++◌, length, take, drop, nat_eq, nat_lt, codes, refl, sym, ap, subst, ◌∙◌, arith, append_assoc}
use Rattle.std.specs.List.{starts_with}
use Rattle.std.specs.Str.{bytes_eq}
use Rattle.std.proofs.lemmas.Bool.{false≢true}
use Rattle.std.proofs.lemmas.List.{length-drop, length-take, take-append-drop, take_all, drop_all, nil_from_length}
use Rattle.std.proofs.lemmas.Slice.Eq.{starts_is, bytes_eq-Decides}
use Rattle.std.proofs.lemmas.Bool.Decides.{Decides-eqb, nat_tests}
use Rattle.gx_model.specs.Texts.Numbers.{decimal_of}
use Rattle.gx_model.specs.Texts.{Bytes}
use Rattle.gx_model.specs.Streams.Items.{Line, Data, First, takes, drops, ends, first_of, first_line, announced, counted, counted_block, delimited, delimited_by, lines_before, with_line, without_lf, is_lf, line_len, has_no_line, end_of, cut_off, after, read_upto, items_of}
use Rattle.gx_model.proofs.Streams.Readings.{finds, nothing_before, one_line, its_line, no_line_left, spells_shorter}
use Rattle.gx_model.specs.Streams.Spelling.{HasNoLf, BeginsLine, comment_line, data_line, delimiter_text, IsNot, EndsBlock, AreOther, text_of_lines, Spells, IsCut, Ends, IsReading, ended, taken, dropped}

-- ---- lines

abbrev Splits : ℕ → Bytes → Type 0
Splits n text = HasNoLf (take n text) × ((n ≡ length text) ⊎ (text ≡ take n text ++ 10 ∷ drop (n + 1) text))

splits_more : (b : ℕ) (bs : Bytes) (n : ℕ) → is_lf b ≡ false → Splits n bs → Splits (suc n) (b ∷ bs)
splits_more b bs n e (h, inl l) = ((e, h), inl (ap suc l))
splits_more b bs n e (h, inr l) =
    let next : drop (suc n + 1) (b ∷ bs) ≡ drop (n + 1) bs = let k : suc n + 1 ≡ suc (n + 1) = omega arith in ap (λ m. drop m (b ∷ bs)) k in
    ((e, h), inr (ap (λ xs. b ∷ xs) l ∙ ap (λ xs. b ∷ (take n bs ++ 10 ∷ xs)) (sym next)))

split_go : (b : ℕ) (bs : Bytes) (v : Bool) → is_lf b ≡ v → Splits (line_len bs) bs → Splits (line_len (b ∷ bs)) (b ∷ bs)
split_go b bs true e h =
    let zero-len : line_len (b ∷ bs) ≡ 0 = rw e refl in
    subst (λ n. Splits n (b ∷ bs)) (sym zero-len) (tt, inr (ap (λ x. x ∷ bs) ((Decides-eqb b 10).0 e)))
split_go b bs false e h =
    let len : line_len (b ∷ bs) ≡ suc (line_len bs) = rw e (omega arith) in
    subst (λ n. Splits n (b ∷ bs)) (sym len) (splits_more b bs (line_len bs) e h)

split_at_lf : (text : Bytes) → Splits (line_len text) text
split_at_lf [] = (tt, inl refl)
split_at_lf (b ∷ bs) = split_go b bs (is_lf b) refl (split_at_lf bs)

line_there : (text : Bytes) (fails : Bool) → has_no_line text fails ≡ false → BeginsLine text fails (take (line_len text) text) (drop (line_len text + 1) text)
line_there text fails e = by fails e (split_at_lf text) where
  by : (fails : Bool) → has_no_line text fails ≡ false → Splits (line_len text) text → BeginsLine text fails (take (line_len text) text) (drop (line_len text + 1) text)
  by fails e (h, inr l) = (h, inl l)
  by true e (h, inl l) =
      let t : has_no_line text true ≡ true = grind (arith, nat_tests) in
      absurd (false≢true (sym e ∙ t))
  by false e (h, inl l) =
      let whole = take_all (line_len text) text (omega (arith, l)) in
      let some : 0 < length text = grind (arith, nat_tests) in
      (h, inr (sym whole, drop_all (line_len text + 1) text (omega (arith, l)), subst (λ x. 0 < length x) (sym whole) some, refl))

-- no line stands there: the text has no LF, and is empty where an end follows
no_line_there : (text : Bytes) (fails : Bool) → has_no_line text fails ≡ true → HasNoLf text × (fails ≡ false → text ≡ [])
no_line_there [] fails e = (tt, λ _. refl)
no_line_there (b ∷ bs) true e =
    let l : line_len (b ∷ bs) ≡ length (b ∷ bs) = grind (arith, nat_tests) in
    (subst HasNoLf (take_all (line_len (b ∷ bs)) (b ∷ bs) (omega (arith, l))) (split_at_lf (b ∷ bs)).0, λ f. absurd (false≢true (sym f)))
no_line_there (b ∷ bs) false e =
    let k : has_no_line (b ∷ bs) false ≡ false = grind (arith, nat_tests) in
    absurd (false≢true (sym k ∙ e))

-- ---- delimited blocks

abbrev Found : Bytes → Bytes → Bool → Option (Bytes × Bytes) → Type 0
Found d text fails (Some p) = (ls : List Bytes) × (more : Bytes) × AreOther d ls × (p.0 ≡ text_of_lines ls) × (text ≡ text_of_lines ls ++ more) × BeginsLine more fails d p.1
Found d text fails None = (ls : List Bytes) × (last : Bytes) × AreOther d ls × (text ≡ text_of_lines ls ++ last) × HasNoLf last × (fails ≡ false → last ≡ d → last ≡ [])

with_first : (d text : Bytes) (fails : Bool) (l rest : Bytes) (o : Option (Bytes × Bytes)) → HasNoLf l → (l ≡ d → ⊥) → text ≡ l ++ 10 ∷ rest → Found d rest fails o → Found d text fails (with_line l o)
with_first d text fails l rest (Some p) h other e f = (
  l ∷ f.0,
  f.1,
  (h, other, f.2),
  ap (λ x. l ++ 10 ∷ x) f.3 ∙ sym (append_assoc l (10 ∷ []) (text_of_lines f.0)),
  e ∙ ap (λ x. l ++ 10 ∷ x) f.4 ∙ sym (append_assoc l (10 ∷ []) (text_of_lines f.0 ++ f.1)) ∙ sym (append_assoc (l ++ 10 ∷ []) (text_of_lines f.0) f.1),
  f.5,
)
with_first d text fails l rest None h other e f = (
  l ∷ f.0,
  f.1,
  (h, other, f.2),
  e ∙ ap (λ x. l ++ 10 ∷ x) f.3 ∙ sym (append_assoc l (10 ∷ []) (text_of_lines f.0 ++ f.1)) ∙ sym (append_assoc (l ++ 10 ∷ []) (text_of_lines f.0) f.1),
  f.4,
  f.5,
)

lines_there : (n : ℕ) (d text : Bytes) (fails : Bool) → length text < n → Found d text fails (lines_before n d text fails)
lines_there zero d text fails lt = absurd (omega arith)
lines_there (suc n) d text fails lt = by (λ rest l. lines_there n d rest fails l) (has_no_line text fails) refl where
  other_line : ((rest : Bytes) → length rest < n → Found d rest fails (lines_before n d rest fails)) → (l rest : Bytes) → BeginsLine text fails l rest → (t : Bool) → bytes_eq l d ≡ t → Found d text fails (lines_before (suc n) d text fails)
  other_line again l rest b true e =
      let same = (bytes_eq-Decides l d).0 e in
      let b' = subst (λ x. BeginsLine text fails x rest) same b in
      subst (Found d text fails) (sym (its_line n d text fails rest b')) ([], text, tt, refl, refl, b')
  other_line again l rest (k, inl q) false e =
      let other = λ (x : l ≡ d). false≢true (sym e ∙ (bytes_eq-Decides l d).1 x) in
      let s = (finds text fails l rest (k, inl q)).shorter in
      subst (Found d text fails) (sym (one_line n d text fails l rest (k, inl q) other)) (with_first d text fails l rest (lines_before n d rest fails) k other q (again rest (omega (arith, s, lt))))
  other_line again l rest (k, inr q) false e =
      let other = λ (x : l ≡ d). false≢true (sym e ∙ (bytes_eq-Decides l d).1 x) in
      let result = one_line n d text fails l rest (k, inr q) other ∙ ap (λ r. with_line l (lines_before n d r fails)) q.1 ∙ ap (with_line l) (nothing_before n d fails) in
      subst (Found d text fails) (sym result) ([], text, tt, refl, subst HasNoLf (sym q.0) k, λ f x. absurd (other (sym q.0 ∙ x)))

  by : ((rest : Bytes) → length rest < n → Found d rest fails (lines_before n d rest fails)) → (t : Bool) → has_no_line text fails ≡ t → Found d text fails (lines_before (suc n) d text fails)
  by again true e = let h = no_line_there text fails e in subst (Found d text fails) (sym (no_line_left n d text fails e)) ([], text, tt, refl, h.0, λ f x. h.1 f)
  by again false e = other_line again (take (line_len text) text) (drop (line_len text + 1) text) (line_there text fails e) (bytes_eq (take (line_len text) text) d) refl

-- ---- what is found is spelled so

abbrev Is : Bytes → Bool → First → Type 0
Is text fails (takes i rest) = Spells text fails i rest
Is text fails (drops rest) = (x : Bytes) × BeginsLine text fails (comment_line x) rest
Is text fails (ends e) = Ends text fails e

cut_there : (text : Bytes) (fails : Bool) → IsCut text fails → Ends text fails (cut_off fails)
cut_there text true c = (refl, inr c)
cut_there text false c = (refl, c)

after_there : (after : Bytes) (fails : Bool) → (fails ≡ true → 0 < length after) → EndsBlock after fails (without_lf after)
after_there [] fails h = inr (refl, tt, h)
after_there (b ∷ bs) fails h =
    elim (is_lf b) as (λ t. is_lf b ≡ t → EndsBlock (b ∷ bs) fails (cond t bs (b ∷ bs))) [
      | true ↦ λ e. inl (ap (λ x. x ∷ bs) ((Decides-eqb b 10).0 e))
      | false ↦ λ e. inr (refl, e, h)
    ] refl

delimited_there : (text : Bytes) (fails : Bool) (d bytes : Bytes) → BeginsLine text fails (data_line (delimiter_text d)) bytes → Is text fails (delimited d bytes fails)
unfolding delimited
delimited_there text fails d bytes b = by (lines_before (suc (length bytes)) d bytes fails) (lines_there (suc (length bytes)) d bytes fails (omega arith)) where
  whole : (p : Bytes × Bytes) → Found d bytes fails (Some p) → (t : Bool) → (fails && nat_eq (length p.1) 0) ≡ t → Is text fails (cond t (ends (cut_off fails)) (takes (Data p.0) (without_lf p.1)))
  whole p f true e =
      let none : length p.1 ≡ 0 = zero_of fails (length p.1) e in
      let fail : fails ≡ true = fails_of fails _ e in
      cut_there text fails (delimiter_text d, bytes, b, inr (d, refl, f.0, f.1, f.2, f.4, inr (fail, f.5.0, last f.5.1 fail (nil_from_length p.1 none))))
    where
      zero_of : (g : Bool) (n : ℕ) → (g && nat_eq n 0) ≡ true → n ≡ 0
      zero_of true n e = (Decides-eqb n 0).0 e
      zero_of false n e = absurd (false≢true e)

      fails_of : (g x : Bool) → (g && x) ≡ true → g ≡ true
      fails_of true x e = refl
      fails_of false x e = absurd (false≢true e)

      last : ((f.1 ≡ d ++ 10 ∷ p.1) ⊎ ((f.1 ≡ d) × (p.1 ≡ []) × (0 < length d) × (fails ≡ false))) → fails ≡ true → p.1 ≡ [] → f.1 ≡ d ++ 10 ∷ []
      last (inl q) g z = q ∙ ap (λ x. d ++ 10 ∷ x) z
      last (inr q) g z = absurd (false≢true (sym q.3 ∙ g))
  whole p f false e =
      (delimiter_text d, bytes, b, inr (d, refl, (f.0, f.1, p.1, f.2, f.3, f.4 ∙ ap (λ x. x ++ f.1) (sym f.3), f.5, after_there p.1 fails (some_of fails (length p.1) e))))
    where
      some_of : (g : Bool) (n : ℕ) → (g && nat_eq n 0) ≡ false → g ≡ true → 0 < n
      some_of true n e h = grind (arith, nat_tests)
      some_of false n e h = absurd (false≢true h)

  by : (o : Option (Bytes × Bytes)) → Found d bytes fails o → Is text fails (delimited_by o fails)
  by None f = cut_there text fails (delimiter_text d, bytes, b, inr (d, refl, f.0, f.1, f.2, f.3, inl (f.4, f.5)))
  by (Some p) f = whole p f (fails && nat_eq (length p.1) 0) refl

block_there : (text : Bytes) (fails : Bool) (y bytes : Bytes) (n : ℕ) → BeginsLine text fails (data_line y) bytes → IsNot delimiter_text y → decimal_of y ≡ Some n → Is text fails (counted_block n bytes fails)
unfolding counted_block
block_there text fails y bytes n b o e = by (nat_lt (length bytes) n || (fails && nat_eq (length bytes) n)) refl where
  few : (g : Bool) (k m : ℕ) → (nat_lt k m || (g && nat_eq k m)) ≡ true → (k ≤ m) × (g ≡ false → k < m)
  few true k m e = (grind (arith, nat_tests), λ h. absurd (false≢true (sym h)))
  few false k m e = (grind (arith, nat_tests), λ h. grind (arith, nat_tests))

  enough : (g : Bool) (k m : ℕ) → (nat_lt k m || (g && nat_eq k m)) ≡ false → (m ≤ k) × (g ≡ true → m < k)
  enough true k m e = (grind (arith, nat_tests), λ h. grind (arith, nat_tests))
  enough false k m e = (grind (arith, nat_tests), λ h. absurd (false≢true h))

  by : (t : Bool) → (nat_lt (length bytes) n || (fails && nat_eq (length bytes) n)) ≡ t → Is text fails (cond t (ends (cut_off fails)) (takes (Data (take n bytes)) (without_lf (drop n bytes))))
  by true t = let f = few fails (length bytes) n t in cut_there text fails (y, bytes, b, inl (o, n, e, f.0, f.1))
  by false t =
      let f = enough fails (length bytes) n t in
      let size : n ≡ length (take n bytes) = omega (arith, length-take n bytes, f.0) in
      (y, bytes, b, inl (o, e ∙ ap Some size, drop n bytes, sym (take-append-drop n bytes), after_there (drop n bytes) fails (λ g. let k = f.1 g in omega (arith, k, length-drop n bytes))))

counted_there : (text : Bytes) (fails : Bool) (y bytes : Bytes) (v : Option ℕ) → BeginsLine text fails (data_line y) bytes → IsNot delimiter_text y → decimal_of y ≡ v → Is text fails (counted v bytes fails)
counted_there text fails y bytes None b o e = (y, bytes, b, o, e)
counted_there text fails y bytes (Some n) b o e = block_there text fails y bytes n b o e

form_is : (p l : Bytes) → starts_with nat_eq l p ≡ true → l ≡ p ++ drop (length p) l
form_is p l e = (starts_is Decides-eqb l p _ refl).0 e

pub not_form : (p l : Bytes) → starts_with nat_eq l p ≡ false → (x : Bytes) → l ≡ p ++ x → ⊥
not_form p l e x is = false≢true (sym e ∙ (starts_is Decides-eqb l p _ refl).1 x is)

announced_there : (text : Bytes) (fails : Bool) (y bytes : Bytes) → BeginsLine text fails (data_line y) bytes → (t : Bool) → starts_with nat_eq y (codes "<<") ≡ t → Is text fails (cond t (delimited (drop 2 y) bytes fails) (counted (decimal_of y) bytes fails))
announced_there text fails y bytes b true e = delimited_there text fails (drop 2 y) bytes (subst (λ x. BeginsLine text fails (data_line x) bytes) (form_is (codes "<<") y e) b)
announced_there text fails y bytes b false e = counted_there text fails y bytes (decimal_of y) b (not_form (codes "<<") y e) refl

data_there : (text : Bytes) (fails : Bool) (l bytes : Bytes) → BeginsLine text fails l bytes → IsNot comment_line l → (t : Bool) → starts_with nat_eq l (codes "data ") ≡ t → Is text fails (cond t (announced (drop 5 l) bytes fails) (takes (Line l) bytes))
data_there text fails l bytes b o true e = announced_there text fails (drop 5 l) bytes (subst (λ x. BeginsLine text fails x bytes) (form_is (codes "data ") l e) b) (starts_with nat_eq (drop 5 l) (codes "<<")) refl
data_there text fails l bytes b o false e = (b, o, not_form (codes "data ") l e)

line_is : (text : Bytes) (fails : Bool) (l bytes : Bytes) → BeginsLine text fails l bytes → Is text fails (first_line l bytes fails)
unfolding first_line
line_is text fails l bytes b = by (starts_with nat_eq l (codes "#")) refl where
  by : (t : Bool) → starts_with nat_eq l (codes "#") ≡ t → Is text fails (cond t (drops bytes) (cond (starts_with nat_eq l (codes "data ")) (announced (drop 5 l) bytes fails) (takes (Line l) bytes)))
  by true e = (drop 1 l, subst (λ x. BeginsLine text fails x bytes) (form_is (codes "#") l e) b)
  by false e = data_there text fails l bytes b (not_form (codes "#") l e) (starts_with nat_eq l (codes "data ")) refl

end_is : (text : Bytes) (fails : Bool) → has_no_line text fails ≡ true → Ends text fails (end_of fails)
end_is text true e = (refl, inl (no_line_there text true e).0)
end_is text false e = ((no_line_there text false e).1 refl, refl)

first_is : (text : Bytes) (fails : Bool) → Is text fails (first_of text fails)
unfolding first_of
first_is text fails = by (has_no_line text fails) refl where
  by : (t : Bool) → has_no_line text fails ≡ t → Is text fails (cond t (ends (end_of fails)) (first_line (take (line_len text) text) (drop (line_len text + 1) text) fails))
  by true e = end_is text fails e
  by false e = line_is text fails (take (line_len text) text) (drop (line_len text + 1) text) (line_there text fails e)

reads : (n : ℕ) (text : Bytes) (fails : Bool) → length text < n → IsReading fails text (read_upto n text fails).items (read_upto n text fails).end
unfolding read_upto
reads zero text fails lt = absurd (omega arith)
reads (suc n) text fails lt = by (first_of text fails) (first_is text fails) (λ rest l. reads n rest fails l) where
  by : (f : First) → Is text fails f → ((rest : Bytes) → length rest < n → IsReading fails rest (read_upto n rest fails).items (read_upto n rest fails).end)
      → IsReading fails text (after f (λ rest. read_upto n rest fails)).items (after f (λ rest. read_upto n rest fails)).end
  by (takes i rest) h again = let k = spells_shorter text fails i rest h in taken rest h (again rest (omega (arith, k, lt)))
  by (drops rest) h again = let k = (finds text fails (comment_line h.0) rest h.1).shorter in dropped h.0 rest h.1 (again rest (omega (arith, k, lt)))
  by (ends e) h again = ended h

pub has_reading : (text : Bytes) (fails : Bool) → IsReading fails text (items_of text fails).items (items_of text fails).end
unfolding items_of
has_reading text fails = reads (suc (length text)) text fails (omega arith)
