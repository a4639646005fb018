-- Texts between quotes: what is read is what was written, and what was printed is read again.
use Rattle.std.proofs.Common.{◌≡◌, ◌↔◌, ℕ, zero, suc, ◌+◌, ◌-◌, ◌*◌, ◌/◌, ◌%◌, ◌<◌, ◌≤◌, Bool, true, false, cond, ◌||◌, ◌&&◌, eqb, leb, [], ◌∷◌, ◌++◌, length, Option, Some, None, Result, Ok, Err, refl, sym, ap, subst, ◌∙◌, arith, inl, inr, ◌⊎◌, append_assoc}
use Rattle.std.specs.Prelude.{◌==◌}
use Rattle.std.specs.List.{list_all, flat_map}
use Rattle.std.specs.Option.{option_map, option_and_then}
use Rattle.std.proofs.lemmas.Bool.{eqb-true}
use Rattle.std.proofs.lemmas.Bool.Decides.{nat_tests}
use Rattle.std.proofs.lemmas.List.{length-append}
use Rattle.std.proofs.lemmas.List.Concat.{flat_map-cons}
use Rattle.gx_model.specs.declared.faults.Fault.{Fault}
use Rattle.gx_model.specs.declared.faults.Fault.TheVariants as faults
use Rattle.gx_model.specs.Faults.{◌>>=◌}
use Rattle.gx_model.specs.Texts.{Bytes}
use Rattle.gx_model.specs.Texts.Paths.{Path, AreBytes, is_quoted, with_rest, path_text, path_of, path_at, named, is_octal, octal_of, escape_at, char_at, with_char, unquote_within, unquote, quoted_of, is_itself, WritesByte, as_itself, by_letter, by_digits, WritesText, writes_none, writes_more, IsQuotedText, letter_of, is_printed_bare, escaped, printed_byte, printed}
use Rattle.gx_model.specs.Streams.Lines.{last_path}
use Rattle.gx_model.specs.Laws.TextLaws.{IsQuotedPath, IsQuotedFault, HasNoQuotedText}
use Rattle.gx_model.proofs.Texts.Cuts.{some_is, map_some}
use Rattle.gx_model.proofs.Texts.Idents.{and_one}
use Rattle.gx_model.proofs.Texts.PathTexts.{path_bytes, path_tells}

-- ---- what is read was written

abbrev Escapes : Bytes → ℕ → Bytes → Type 0
Escapes bs b rest = (w : Bytes) × WritesByte (92 ∷ w) b × (bs ≡ w ++ rest)

letter_found : (l b : ℕ) (bs rest : Bytes) → option_map {U = ℕ × Bytes} (λ x. (x, bs)) (named l) ≡ Some (b, rest) → Escapes (l ∷ bs) b rest
letter_found l b bs rest e =
    let h = map_some (λ (x : ℕ). (x, bs)) (named l) (b, rest) e in
    let is : h.0 ≡ b = ap (λ (p : ℕ × Bytes). p.0) h.2 in
    (l ∷ [], by_letter (h.1 ∙ ap Some is), ap (λ t. l ∷ t) (ap (λ (p : ℕ × Bytes). p.1) h.2))

digits_found : (x y z b : ℕ) (bs rest : Bytes) → option_map {U = ℕ × Bytes} (λ v. (v, bs)) (octal_of x y z) ≡ Some (b, rest) → Escapes (x ∷ y ∷ z ∷ bs) b rest
digits_found x y z b bs rest e =
    let h = map_some (λ (v : ℕ). (v, bs)) (octal_of x y z) (b, rest) e in
    let is : h.0 ≡ b = ap (λ (p : ℕ × Bytes). p.0) h.2 in
    (x ∷ y ∷ z ∷ [], by_digits (h.1 ∙ ap Some is), ap (λ t. x ∷ y ∷ z ∷ t) (ap (λ (p : ℕ × Bytes). p.1) h.2))

escape_found : (bs : Bytes) (b : ℕ) (rest : Bytes) → escape_at bs ≡ Some (b, rest) → Escapes bs b rest
escape_found [] b rest e = absurd cc
escape_found (x ∷ []) b rest e = letter_found x b [] rest e
escape_found (x ∷ y ∷ []) b rest e = letter_found x b (y ∷ []) rest e
escape_found (x ∷ y ∷ z ∷ bs) b rest e = by (leb 48 x && leb x 51) e where
  by : (t : Bool) → cond t (option_map {U = ℕ × Bytes} (λ v. (v, bs)) (octal_of x y z)) (option_map {U = ℕ × Bytes} (λ v. (v, y ∷ z ∷ bs)) (named x)) ≡ Some (b, rest) → Escapes (x ∷ y ∷ z ∷ bs) b rest
  by true e = digits_found x y z b bs rest e
  by false e = letter_found x b (y ∷ z ∷ bs) rest e

-- what a char read is: a byte and its writing, or the closing quote
abbrev IsChar : Bytes → Option ℕ → Bytes → Type 0
IsChar bs (Some b) rest = (w : Bytes) × WritesByte w b × (bs ≡ w ++ rest)
IsChar bs None rest = bs ≡ 34 ∷ rest

char_found : (bs : Bytes) (c : Option ℕ × Bytes) → char_at bs ≡ Some c → IsChar bs c.0 c.1
unfolding char_at
char_found [] c e = absurd cc
char_found (x ∷ bs) c e = by (x == 34) refl (x == 92) refl (x == 10) (x == 0) refl refl e where
  plain : x ∷ [] ≡ x ∷ [] → is_itself x ≡ true → IsChar (x ∷ bs) (Some x) bs
  plain s h = (x ∷ [], as_itself h, refl)

  by : (p : Bool) → (x == 34) ≡ p → (q : Bool) → (x == 92) ≡ q → (r s : Bool) → (x == 10) ≡ r → (x == 0) ≡ s
      → cond p (Some (None, bs)) (cond q (option_map (λ v. (Some v.0, v.1)) (escape_at bs)) (cond (r || s) None (Some (Some x, bs)))) ≡ Some c → IsChar (x ∷ bs) c.0 c.1
  by true p q k r s l m e = subst (λ (c : Option ℕ × Bytes). IsChar (x ∷ bs) c.0 c.1) (some_is (None, bs) c e) (ap (λ v. v ∷ bs) (eqb-true x 34 p))
  by false p true k r s l m e =
      let h = map_some (λ (v : ℕ × Bytes). (Some v.0, v.1)) (escape_at bs) c e in
      let w = escape_found bs h.0.0 h.0.1 h.1 in
      subst (λ (c : Option ℕ × Bytes). IsChar (x ∷ bs) c.0 c.1) h.2 (92 ∷ w.0, w.1, ap (λ v. v ∷ bs) (eqb-true x 92 k) ∙ ap (λ t. 92 ∷ t) w.2)
  by false p false k true s l m e = absurd cc
  by false p false k false true l m e = absurd cc
  by false p false k false false l m e =
      subst (λ (c : Option ℕ × Bytes). IsChar (x ∷ bs) c.0 c.1) (some_is (Some x, bs) c e) (plain refl (rw (p, k, l, m) refl))

abbrev Writes : Bytes → Bytes → Bytes → Type 0
Writes bs text rest = (body : Bytes) × WritesText body text × (bs ≡ body ++ 34 ∷ rest)

unquote_found : (n : ℕ) (bs : Bytes) (p : Bytes × Bytes) → unquote_within n bs ≡ Some p → Writes bs p.0 p.1
unfolding unquote_within
unquote_found zero bs p e = absurd cc
unquote_found (suc n) bs p e = by (char_at bs) (char_found bs) (λ r q. unquote_found n r q) e where
  by : (c : Option (Option ℕ × Bytes)) → ((d : Option ℕ × Bytes) → c ≡ Some d → IsChar bs d.0 d.1) → ((r : Bytes) (q : Bytes × Bytes) → unquote_within n r ≡ Some q → Writes r q.0 q.1)
      → option_and_then (λ x. with_char x.0 x.1 (unquote_within n x.1)) c ≡ Some p → Writes bs p.0 p.1
  by None f again e = absurd cc
  by (Some (None, r)) f again e = subst (λ (p : Bytes × Bytes). Writes bs p.0 p.1) (some_is ([], r) p e) ([], writes_none, f (None, r) refl)
  by (Some (Some b, r)) f again e =
      let h = map_some (λ (q : Bytes × Bytes). (b ∷ q.0, q.1)) (unquote_within n r) p e in
      let w = f (Some b, r) refl in
      let more = again r h.0 h.1 in
      subst (λ (p : Bytes × Bytes). Writes bs p.0 p.1) h.2 (w.0 ++ more.0, writes_more w.1 more.1, w.2 ∙ ap (λ t. w.0 ++ t) more.2 ∙ sym (append_assoc w.0 more.0 (34 ∷ h.0.1)))

quoted_found : (bs text rest : Bytes) → unquote bs ≡ Some (text, rest) → IsQuotedText bs text rest
quoted_found [] text rest e = absurd cc
quoted_found (x ∷ bs) text rest e = by (x == 34) refl e where
  by : (t : Bool) → (x == 34) ≡ t → cond t (unquote_within (length bs) bs) None ≡ Some (text, rest) → IsQuotedText (x ∷ bs) text rest
  by true k e =
      let h = unquote_found (length bs) bs (text, rest) e in
      record { body = h.0; spelled = ap (λ v. v ∷ bs) (eqb-true x 34 k) ∙ ap (λ t. 34 ∷ t) h.2; writes = h.1 }
  by false k e = absurd cc

-- ---- what is written is read

letter_no_digit : (l x : ℕ) → named l ≡ Some x → (leb 48 l && leb l 51) ≡ false
letter_no_digit l x e = grind (arith, nat_tests)

escape_letter : (l x : ℕ) (rest : Bytes) → named l ≡ Some x → escape_at (l ∷ rest) ≡ Some (x, rest)
escape_letter l x [] e = rw e refl
escape_letter l x (b ∷ []) e = rw e refl
escape_letter l x (b ∷ c ∷ rest) e = rw (letter_no_digit l x e, e) refl

digits_first : (x y z b : ℕ) → octal_of x y z ≡ Some b → (leb 48 x && leb x 51) ≡ true
digits_first x y z b e = by (leb 48 x) (leb x 51) (is_octal y) (is_octal z) e where
  by : (p q r s : Bool) → cond (p && q && r && s) (Some ((x - 48) * 64 + (y - 48) * 8 + (z - 48))) None ≡ Some b → (p && q) ≡ true
  by true true r s e = refl
  by true false r s e = absurd cc
  by false q r s e = absurd cc

escape_digits : (x y z b : ℕ) (rest : Bytes) → octal_of x y z ≡ Some b → escape_at (x ∷ y ∷ z ∷ rest) ≡ Some (b, rest)
escape_digits x y z b rest e =
    ap (λ t. cond t (option_map {U = ℕ × Bytes} (λ v. (v, rest)) (octal_of x y z)) (option_map {U = ℕ × Bytes} (λ v. (v, y ∷ z ∷ rest)) (named x))) (digits_first x y z b e) ∙ ap (option_map {U = ℕ × Bytes} (λ v. (v, rest))) e

char_written : {w : Bytes} {b : ℕ} → WritesByte w b → (rest : Bytes) → char_at (w ++ rest) ≡ Some (Some b, rest)
unfolding char_at
char_written (as_itself {b} h) rest =
    let p : eqb b 34 ≡ false = grind (arith, nat_tests) in
    let q : eqb b 92 ≡ false = grind (arith, nat_tests) in
    let r : eqb b 10 ≡ false = grind (arith, nat_tests) in
    let s : eqb b 0 ≡ false = grind (arith, nat_tests) in
    rw (p, q, r, s) refl
char_written (by_letter {l} {b} e) rest = rw (escape_letter l b rest e) refl
char_written (by_digits {x} {y} {z} {b} e) rest = rw (escape_digits x y z b rest e) refl

quote_char : (rest : Bytes) → char_at (34 ∷ rest) ≡ Some (None, rest)
unfolding char_at
quote_char rest = refl

some_written : {w : Bytes} {b : ℕ} → WritesByte w b → 1 ≤ length w
some_written (as_itself h) = omega arith
some_written (by_letter e) = omega arith
some_written (by_digits e) = omega arith

text_written : {ws bs : Bytes} → WritesText ws bs → length bs ≤ length ws
text_written writes_none = omega arith
text_written (writes_more {w} {ws} {bs} {b} h more) = omega (arith, some_written h, text_written more, length-append w ws)

unquote_written : {ws bs : Bytes} (n : ℕ) → WritesText ws bs → (rest : Bytes) → length bs < n → unquote_within n (ws ++ 34 ∷ rest) ≡ Some (bs, rest)
unfolding unquote_within
unquote_written zero h rest lt = absurd (omega arith)
unquote_written (suc n) writes_none rest lt = rw (quote_char rest) refl
unquote_written (suc n) (writes_more {w} {ws} {bs} {b} h more) rest lt =
    ap (unquote_within (suc n)) (append_assoc w ws (34 ∷ rest)) ∙ rw (char_written h (ws ++ 34 ∷ rest), unquote_written n more rest (omega arith)) refl

quoted_again : (bs text rest : Bytes) → IsQuotedText bs text rest → unquote bs ≡ Some (text, rest)
quoted_again bs text rest h =
    let enough : length text < length (h.body ++ 34 ∷ rest) = omega (arith, text_written h.writes, length-append h.body (34 ∷ rest)) in
    ap unquote h.spelled ∙ unquote_written (length (h.body ++ 34 ∷ rest)) h.writes rest enough

pub quoted_text_tells : (bs text rest : Bytes) → (unquote bs ≡ Some (text, rest)) ↔ IsQuotedText bs text rest
quoted_text_tells bs text rest = (quoted_found bs text rest, quoted_again bs text rest)

-- ---- quoted paths

ok_is : (x y : Path × Bytes) → ◌≡◌ {A = Result (Path × Bytes) Fault} (Ok x) (Ok y) → x ≡ y
ok_is x y e = cc

with_rest_is : (rest : Bytes) (r : Result Path Fault) (p : Path) (more : Bytes) → with_rest rest r ≡ Ok (p, more) → (r ≡ Ok p) × (rest ≡ more)
with_rest_is rest (Ok q) p more e = let h = ok_is (q, rest) (p, more) e in (ap (λ (x : Path × Bytes). Ok x.0) h, ap (λ (x : Path × Bytes). x.1) h)
with_rest_is rest (Err f) p more e = absurd cc

with_rest_refused : (rest : Bytes) (r : Result Path Fault) (f : Fault) → with_rest rest r ≡ Err f → r ≡ Err f
with_rest_refused rest (Ok q) f e = absurd cc
with_rest_refused rest (Err g) f e = cc

path_found : (bs : Bytes) (p : Path) (rest : Bytes) → quoted_of bs ≡ Ok (p, rest) → IsQuotedPath bs p rest
unfolding quoted_of
path_found bs p rest e = by (unquote bs) (λ t r. quoted_found bs t r) e where
  by : (o : Option (Bytes × Bytes)) → ((t r : Bytes) → o ≡ Some (t, r) → IsQuotedText bs t r) → path_at o ≡ Ok (p, rest) → IsQuotedPath bs p rest
  by None f e = absurd cc
  by (Some (t, r)) f e =
      let h = with_rest_is r (path_of t) p rest e in
      record { text = t; quoted = subst (IsQuotedText bs t) h.1 (f t r refl); path = (path_tells t p).0 h.0 }

path_written : (bs : Bytes) (p : Path) (rest : Bytes) → IsQuotedPath bs p rest → quoted_of bs ≡ Ok (p, rest)
unfolding quoted_of
path_written bs p rest h = ap path_at (quoted_again bs h.text rest h.quoted) ∙ ap (with_rest rest) ((path_tells h.text p).1 h.path)

pub quoted_path_tells : (bs : Bytes) (p : Path) (rest : Bytes) → (quoted_of bs ≡ Ok (p, rest)) ↔ IsQuotedPath bs p rest
quoted_path_tells bs p rest = (path_found bs p rest, path_written bs p rest)

abbrev IsRefused : Bytes → Fault → Type 0
IsRefused bs f = ((f ≡ faults.BadPath) × HasNoQuotedText bs) ⊎ IsQuotedFault bs f

refused : (bs : Bytes) (f : Fault) → quoted_of bs ≡ Err f → IsRefused bs f
unfolding quoted_of
refused bs f e = by (unquote bs) refl e where
  by : (o : Option (Bytes × Bytes)) → unquote bs ≡ o → path_at o ≡ Err f → IsRefused bs f
  by None k e =
      let same : f ≡ faults.BadPath = cc in
      inl (same, λ text rest h. absurd (let s : None ≡ Some (text, rest) = sym k ∙ quoted_again bs text rest h in cc))
  by (Some (t, r)) k e = inr (record { text = t; rest = r; quoted = quoted_found bs t r k; refused = with_rest_refused r (path_of t) f e })

refused_again : (bs : Bytes) (f : Fault) → IsRefused bs f → quoted_of bs ≡ Err f
unfolding quoted_of
refused_again bs f (inl h) = by (unquote bs) refl where
  by : (o : Option (Bytes × Bytes)) → unquote bs ≡ o → path_at o ≡ Err f
  by None k = ap Err (sym h.0)
  by (Some (t, r)) k = absurd (h.1 t r (quoted_found bs t r k))
refused_again bs f (inr h) = ap path_at (quoted_again bs h.text h.rest h.quoted) ∙ ap (with_rest h.rest) h.refused

pub quoted_path_refused : (bs : Bytes) (f : Fault) → (quoted_of bs ≡ Err f) ↔ IsRefused bs f
quoted_path_refused bs f = (refused bs f, refused_again bs f)

-- ---- what was printed is read again

named_letter : (x l : ℕ) → letter_of x ≡ Some l → named l ≡ Some x
named_letter x l e = grind (arith, nat_tests)

octal_value : (x : ℕ) → x < 256 → (48 + x / 8 / 8 - 48) * 64 + (48 + x / 8 % 8 - 48) * 8 + (48 + x % 8 - 48) ≡ x
octal_value x lt = omega arith

octal_first : (x : ℕ) → x < 256 → (leb 48 (48 + x / 8 / 8) && leb (48 + x / 8 / 8) 51) ≡ true
octal_first x lt = let a : x / 8 / 8 ≤ 3 = omega arith in grind (arith, nat_tests)

octal_digit : (x : ℕ) → is_octal (48 + x % 8) ≡ true
octal_digit x = let a : x % 8 < 8 = omega arith in grind (arith, nat_tests)

bare_is_itself : (x : ℕ) → is_printed_bare x ≡ true → is_itself x ≡ true
bare_is_itself x e = grind (arith, nat_tests)

writes_escaped : (x : ℕ) (o : Option ℕ) → x < 256 → letter_of x ≡ o → WritesByte (escaped x o) x
writes_escaped x None lt e = by_digits (rw (octal_first x lt, octal_digit (x / 8), octal_digit x, octal_value x lt) refl)
writes_escaped x (Some l) lt e = by_letter (named_letter x l e)

writes_printed : (x : ℕ) → x < 256 → WritesByte (printed_byte x) x
writes_printed x lt = by (is_printed_bare x) refl where
  by : (b : Bool) → is_printed_bare x ≡ b → WritesByte (cond b (x ∷ []) (escaped x (letter_of x))) x
  by true e = as_itself (bare_is_itself x e)
  by false e = writes_escaped x (letter_of x) lt refl

writes_all : (text : Bytes) → AreBytes text → WritesText (flat_map printed_byte text) text
writes_all [] h = writes_none
writes_all (x ∷ text) h = subst (λ w. WritesText w (x ∷ text)) (sym (flat_map-cons printed_byte x text)) (writes_more (writes_printed x h.0) (writes_all text h.1))

pub printed_quoted : (text : Bytes) → AreBytes text → quoted_of (34 ∷ (flat_map printed_byte text ++ 34 ∷ [])) ≡ path_at (Some (text, []))
unfolding quoted_of
printed_quoted text h = ap path_at (quoted_again _ text [] (record { body = flat_map printed_byte text; spelled = refl; writes = writes_all text h }))

bare_unquoted : (text : Bytes) → list_all is_printed_bare text ≡ true → is_quoted text ≡ false
bare_unquoted [] e = refl
bare_unquoted (x ∷ text) e = not_quote x (and_one (is_printed_bare x) _ e) where
  not_quote : (x : ℕ) → is_printed_bare x ≡ true → eqb x 34 ≡ false
  not_quote x b = grind (arith, nat_tests)

-- a field that was printed is read as its text
pub field_printed : (text : Bytes) → AreBytes text → last_path (printed text) ≡ path_of text
unfolding last_path
field_printed text h = by (list_all is_printed_bare text) refl where
  ended : (r : Result Path Fault) → (with_rest [] r >>= λ p. cond (length p.1 == 0) (Ok p.0) (Err faults.BadLine)) ≡ r
  ended (Ok p) = refl
  ended (Err e) = refl

  by : (b : Bool) → list_all is_printed_bare text ≡ b → last_path (cond b text (34 ∷ (flat_map printed_byte text ++ 34 ∷ []))) ≡ path_of text
  by true e = rw (bare_unquoted text e) refl
  by false e = rw (printed_quoted text h) (ended (path_of text))

pub path_printed : (p : Path) → path_of (path_text p) ≡ Ok p → last_path (printed (path_text p)) ≡ Ok p
path_printed p e = field_printed (path_text p) (path_bytes p ((path_tells (path_text p) p).0 e).components) ∙ e
