-- What stands in the place of a stream's items can be spelled, and is read again.
use Rattle.std.proofs.Common.{◌≡◌, ℕ, ◌-◌, ◌<◌, ◌≤◌, ◌^◌, Bool, true, false, cond, not, ◌&&◌, ◌||◌, nat_eq, nat_le, Option, Some, None, List, [], ◌∷◌, ◌++◌, length, take, drop, codes, refl, sym, ap, subst, ◌∙◌, arith, inl, inr, append_assoc}
use Rattle.std.specs.Prelude.{◌==◌}
use Rattle.std.specs.List.{flat_map, starts_with}
use Rattle.std.specs.Str.{bytes_eq}
use Rattle.std.proofs.lemmas.Bool.{false≢true}
use Rattle.std.proofs.lemmas.Bool.Decides.{Decides-eqb, nat_tests}
use Rattle.std.proofs.lemmas.List.{length-append, length-take, take-append-drop}
use Rattle.std.proofs.lemmas.List.Folds.{list_all-append}
use Rattle.std.proofs.lemmas.Slice.Eq.{starts_is, bytes_eq-Decides}
use Rattle.gx_model.specs.Texts.{Bytes, is_line, cut_at}
use Rattle.gx_model.specs.Streams.Items.{Item, Line, Data, End}
use Rattle.gx_model.specs.Streams.Spelling.{HasNoLf, data_line, comment_line, Spells, IsReading, ended, taken, dropped}
use Rattle.gx_model.specs.Laws.ExportLaws.{IsItem, IsItemLine}
use Rattle.gx_model.proofs.Texts.Cuts.{some_is, map_some, cut_spelled}
use Rattle.gx_model.proofs.Streams.Found.{has_reading}
use Rattle.gx_model.proofs.Texts.Idents.{and_one, and_two}
use Rattle.gx_model.proofs.Streams.ItemTexts.{items_read}
use Rattle.gx_model.proofs.Texts.LineTexts.{line_append}
use Rattle.gx_model.proofs.Texts.Quotes.{quoted_text_tells}
use Rattle.gx_model.proofs.Streams.Readings.{refuted, finds, spells_shorter}
use Rattle.gx_model.proofs.Streams.SpelledItems.{AreItems, items_append}
use Rattle.gx_model.specs.Texts.Paths.{unquote}
use Rattle.gx_text.specs.Devices.{Coming}
use Rattle.gx_stream.specs.Heard.{heard_upto, heard, items_from}
use Rattle.gx_text.specs.Quoting.{after_quoted}
use Rattle.gx_adapt.specs.Paths.{escaped, quoted, is_open, anew, source_before, source_of}
use Rattle.gx_adapt.specs.Lines.{Lot, kept, deletion, marks, feature, signature, unfinished, spaced, requoted, begins, is_ident_word, is_move_word, ident_lot, path_lot, dataref_lot, mode_lot, modify_lot, paths_lot, move_lot, word_lot, words_lot, lot_of, lines_for, items_for, is_of_marks, is_feature, is_signature_line, is_reset, is_signature, is_null_from}
use Rattle.gx_adapt.specs.Streams.{course_of, is_done, line_lot, start, placed_from, items_in, items_at, adapted}
use Rattle.gx_adapt.specs.Laws.{IsReadAdapted}
use Rattle.gx_adapt.specs.declared.lot.Behind.{Behind}
use Rattle.gx_adapt.specs.declared.course.Course.{Course}
use Rattle.gx_adapt.specs.Adapting.{IsReadAgain}

-- ---- what is read can be spelled

is_a_line : (l : Bytes) → HasNoLf l → is_line l ≡ true
is_a_line [] h = refl
is_a_line (b ∷ bs) h = rw (h.0, is_a_line bs h.1) refl

begins_not : (p l : Bytes) → ((x : Bytes) → l ≡ p ++ x → ⊥) → starts_with nat_eq l p ≡ false
begins_not p l h = refuted _ (λ e. h (drop (length p) l) ((starts_is Decides-eqb l p _ refl).0 e))

item_read : (text : Bytes) (fails : Bool) (i : Item) (rest : Bytes) → Spells text fails i rest → length text < 2 ^ 64 → IsItem i
item_read text fails (Line l) rest h lt = record { line = is_a_line l h.0.0; no_comment = begins_not (codes "#") l h.1; no_data = begins_not (codes "data ") l h.2 }
item_read text fails (Data x) rest (y, bytes, b, inl c) lt =
    let s = (finds text fails (data_line y) bytes b).shorter in
    let k = ap length c.3 ∙ length-append x c.2 in
    omega (arith, s, k, lt)
item_read text fails (Data x) rest (y, bytes, b, inr (d, e, c)) lt =
    let s = (finds text fails (data_line y) bytes b).shorter in
    let k = ap length c.5 ∙ length-append x c.1 in
    omega (arith, s, k, lt)

all_read : (fails : Bool) (text : Bytes) (is : List Item) (e : End) → IsReading fails text is e → length text < 2 ^ 64 → AreItems is
all_read fails text [] e (ended h) lt = tt
all_read fails text (i ∷ is) e (taken rest s r) lt = (item_read text fails i rest s lt, all_read fails rest is e r (omega (arith, lt, spells_shorter text fails i rest s)))
all_read fails text is e (dropped x rest b r) lt = all_read fails rest is e r (omega (arith, lt, (finds text fails (comment_line x) rest b).shorter))

-- ---- parts of lines

line_first : (xs ys : Bytes) → is_line (xs ++ ys) ≡ true → is_line xs ≡ true
line_first xs ys h = and_one (is_line xs) (is_line ys) (sym (list_all-append (λ b. not (nat_eq b 10)) xs ys) ∙ h)

line_second : (xs ys : Bytes) → is_line (xs ++ ys) ≡ true → is_line ys ≡ true
line_second xs ys h = and_two (is_line xs) (is_line ys) (sym (list_all-append (λ b. not (nat_eq b 10)) xs ys) ∙ h)

line_rest : (x : ℕ) (xs : Bytes) → is_line (x ∷ xs) ≡ true → is_line xs ≡ true
line_rest x xs h = and_two (not (nat_eq x 10)) (is_line xs) h

abbrev AreLines : Bytes × Bytes → Type 0
AreLines p = (is_line p.0 ≡ true) × (is_line p.1 ≡ true)

cut_lines : (bs : Bytes) (p : Bytes × Bytes) → cut_at 32 bs ≡ Some p → is_line bs ≡ true → AreLines p
cut_lines bs p e h =
    let whole = ap is_line (sym (cut_spelled 32 bs p e)) ∙ h in
    (line_first p.0 (32 ∷ p.1) whole, line_rest 32 p.1 (line_second p.0 (32 ∷ p.1) whole))

rest_line : (bs rest : Bytes) → after_quoted bs ≡ Some rest → is_line bs ≡ true → is_line rest ≡ true
rest_line bs rest e h =
    let m = map_some (λ (p : Bytes × Bytes). p.1) (unquote bs) rest e in
    let q = (quoted_text_tells bs m.0.0 m.0.1).0 m.1 in
    let whole : is_line (34 ∷ (q.body ++ 34 ∷ m.0.1)) ≡ true = ap is_line (sym q.spelled) ∙ h in
    subst (λ r. is_line r ≡ true) m.2 (line_rest 34 m.0.1 (line_second q.body (34 ∷ m.0.1) (line_rest 34 (q.body ++ 34 ∷ m.0.1) whole)))

take_line : (n : ℕ) (bs : Bytes) → is_line bs ≡ true → is_line (take n bs) ≡ true
take_line n bs h = line_first (take n bs) (drop n bs) (ap is_line (take-append-drop n bs) ∙ h)

source_lines : (bs : Bytes) (p : Bytes × Bytes) → source_of bs ≡ Some p → is_line bs ≡ true → AreLines p
unfolding source_of
source_lines bs p e h = by (after_quoted bs) refl e where
  by : (o : Option Bytes) → after_quoted bs ≡ o → source_before bs o ≡ Some p → AreLines p
  by None k e = cut_lines bs p e h
  by (Some []) k e = cut_lines bs p e h
  by (Some (b ∷ more)) k e = space (b == 32) e where
    space : (t : Bool) → cond t (Some (take (length bs - length (b ∷ more)) bs, more)) (cut_at 32 bs) ≡ Some p → AreLines p
    space true e = subst AreLines (some_is (take (length bs - length (b ∷ more)) bs, more) p e) (take_line (length bs - length (b ∷ more)) bs h, line_rest b more (rest_line bs (b ∷ more) k h))
    space false e = cut_lines bs p e h

-- ---- paths in quotes

escaped_byte : (x : ℕ) → not (nat_eq x 10) ≡ true → is_line (escaped x) ≡ true
escaped_byte x h = by (x == 34 || x == 92) where
  by : (t : Bool) → is_line (cond t (92 ∷ x ∷ []) (x ∷ [])) ≡ true
  by true = rw h refl
  by false = rw h refl

escaped_line : (path : Bytes) → is_line path ≡ true → is_line (flat_map escaped path) ≡ true
escaped_line [] h = refl
escaped_line (x ∷ xs) h = line_append (escaped x) (flat_map escaped xs) (escaped_byte x (and_one (not (nat_eq x 10)) (is_line xs) h)) (escaped_line xs (line_rest x xs h))

quoted_line : (path : Bytes) → is_line path ≡ true → is_line (quoted path) ≡ true
quoted_line path h = line_append (flat_map escaped path) (34 ∷ []) (escaped_line path h) refl

anew_line : (path : Bytes) → is_line path ≡ true → is_line (anew path) ≡ true
anew_line path h = by (is_open path) where
  by : (t : Bool) → is_line (cond t (quoted path) path) ≡ true
  by true = quoted_line path h
  by false = h

-- ---- what becomes of a line can be spelled

abbrev IsSpelled : Lot → Type 0
IsSpelled kept = Unit {0}
IsSpelled deletion = Unit {0}
IsSpelled marks = Unit {0}
IsSpelled feature = Unit {0}
IsSpelled signature = Unit {0}
IsSpelled unfinished = Unit {0}
IsSpelled (spaced new) = IsItemLine new
IsSpelled (requoted new) = IsItemLine new

ident_line : (word ident : Bytes) → is_ident_word word ≡ true → is_line ident ≡ true → IsItemLine (word ++ 32 ∷ 32 ∷ ident)
ident_line word ident k h = by (bytes_eq word (codes "author")) refl (bytes_eq word (codes "committer")) refl (bytes_eq word (codes "tagger")) refl k where
  of : (w : Bytes) → bytes_eq word w ≡ true → IsItemLine (w ++ 32 ∷ 32 ∷ ident) → IsItemLine (word ++ 32 ∷ 32 ∷ ident)
  of w e i = subst (λ v. IsItemLine (v ++ 32 ∷ 32 ∷ ident)) (sym ((bytes_eq-Decides word w).0 e)) i

  by : (a : Bool) → bytes_eq word (codes "author") ≡ a → (b : Bool) → bytes_eq word (codes "committer") ≡ b → (c : Bool) → bytes_eq word (codes "tagger") ≡ c → (a || b || c) ≡ true → IsItemLine (word ++ 32 ∷ 32 ∷ ident)
  by true e b f c g k = of (codes "author") e (record { line = h; no_comment = refl; no_data = refl })
  by false e true f c g k = of (codes "committer") f (record { line = h; no_comment = refl; no_data = refl })
  by false e false f true g k = of (codes "tagger") g (record { line = h; no_comment = refl; no_data = refl })
  by false e false f false g k = absurd (false≢true k)

move_line : (word rest : Bytes) → is_move_word word ≡ true → is_line rest ≡ true → IsItemLine (word ++ 32 ∷ rest)
move_line word rest k h = by (bytes_eq word (codes "C")) refl (bytes_eq word (codes "R")) refl k where
  of : (w : Bytes) → bytes_eq word w ≡ true → IsItemLine (w ++ 32 ∷ rest) → IsItemLine (word ++ 32 ∷ rest)
  of w e i = subst (λ v. IsItemLine (v ++ 32 ∷ rest)) (sym ((bytes_eq-Decides word w).0 e)) i

  by : (a : Bool) → bytes_eq word (codes "C") ≡ a → (b : Bool) → bytes_eq word (codes "R") ≡ b → (a || b) ≡ true → IsItemLine (word ++ 32 ∷ rest)
  by true e b f k = of (codes "C") e (record { line = h; no_comment = refl; no_data = refl })
  by false e true f k = of (codes "R") f (record { line = h; no_comment = refl; no_data = refl })
  by false e false f k = absurd (false≢true k)

ident_spelled : (word ident : Bytes) → is_ident_word word ≡ true → is_line ident ≡ true → IsSpelled (ident_lot word ident)
unfolding ident_lot
ident_spelled word ident k h = by (begins (codes "<") ident) where
  by : (t : Bool) → IsSpelled (cond t (spaced (word ++ 32 ∷ 32 ∷ ident)) kept)
  by true = ident_line word ident k h
  by false = tt

path_spelled : (front path : Bytes) → IsItemLine (front ++ 32 ∷ quoted path) → IsSpelled (path_lot front path)
unfolding path_lot
path_spelled front path h = by (is_open path) where
  by : (t : Bool) → IsSpelled (cond t (requoted (front ++ 32 ∷ quoted path)) kept)
  by true = h
  by false = tt

dataref_spelled : (mode : Bytes) (o : Option (Bytes × Bytes)) (rest : Bytes) → cut_at 32 rest ≡ o → is_line mode ≡ true → is_line rest ≡ true → IsSpelled (dataref_lot mode o)
dataref_spelled mode None rest e m h = tt
dataref_spelled mode (Some p) rest e m h =
    let l = cut_lines rest p e h in
    let front = line_append mode (32 ∷ p.0) m l.0 in
    path_spelled (codes "M " ++ mode ++ 32 ∷ p.0) p.1
    (record { line = line_append (codes "M " ++ mode ++ 32 ∷ p.0) (32 ∷ quoted p.1) front (quoted_line p.1 l.1); no_comment = refl; no_data = refl })

modify_spelled : (rest : Bytes) → is_line rest ≡ true → IsSpelled (modify_lot rest)
unfolding modify_lot
modify_spelled rest h = by (cut_at 32 rest) refl where
  by : (o : Option (Bytes × Bytes)) → cut_at 32 rest ≡ o → IsSpelled (mode_lot o)
  by None e = tt
  by (Some p) e = let l = cut_lines rest p e h in dataref_spelled p.0 (cut_at 32 p.1) p.1 refl l.0 l.1

move_spelled : (word rest : Bytes) → is_move_word word ≡ true → is_line rest ≡ true → IsSpelled (move_lot word rest)
unfolding move_lot
move_spelled word rest k h = by (source_of rest) refl where
  open_one : (p : Bytes × Bytes) → AreLines p → (t : Bool) → IsSpelled (cond t (requoted (word ++ 32 ∷ anew p.0 ++ 32 ∷ anew p.1)) kept)
  open_one p l true = subst IsItemLine (sym (append_assoc word (32 ∷ anew p.0) (32 ∷ anew p.1))) (move_line word (anew p.0 ++ 32 ∷ anew p.1) k (line_append (anew p.0) (32 ∷ anew p.1) (anew_line p.0 l.0) (anew_line p.1 l.1)))
  open_one p l false = tt

  by : (o : Option (Bytes × Bytes)) → source_of rest ≡ o → IsSpelled (paths_lot word o)
  by None e = tt
  by (Some p) e = open_one p (source_lines rest p e h) (is_open p.0 || is_open p.1)

word_spelled : (word rest : Bytes) → is_line rest ≡ true → IsSpelled (word_lot word rest)
unfolding word_lot
word_spelled word rest h = by (is_ident_word word) refl (bytes_eq word (codes "M")) (bytes_eq word (codes "D")) (is_move_word word) refl where
  by : (a : Bool) → is_ident_word word ≡ a → (b c d : Bool) → is_move_word word ≡ d → IsSpelled (cond a (ident_lot word rest) (cond b (modify_lot rest) (cond c (path_lot (codes "D") rest) (cond d (move_lot word rest) kept))))
  by true e b c d f = ident_spelled word rest e h
  by false e true c d f = modify_spelled rest h
  by false e false true d f = path_spelled (codes "D") rest (record { line = quoted_line rest h; no_comment = refl; no_data = refl })
  by false e false false true f = move_spelled word rest f h
  by false e false false false f = tt

lot_spelled : (drops : Bool) (behind : Behind) (l : Bytes) → is_line l ≡ true → IsSpelled (lot_of drops behind l)
unfolding lot_of
lot_spelled drops behind l h = by (is_of_marks l) (is_feature l) (drops && is_signature_line l) (is_reset behind && is_null_from l) (cut_at 32 l) refl where
  by : (a b c d : Bool) (o : Option (Bytes × Bytes)) → cut_at 32 l ≡ o → IsSpelled (cond a marks (cond b feature (cond c signature (cond d deletion (words_lot o)))))
  by true b c d o e = tt
  by false true c d o e = tt
  by false false true d o e = tt
  by false false false true o e = tt
  by false false false false None e = tt
  by false false false false (Some p) e = word_spelled p.0 p.1 (cut_lines l p e h).1

-- ---- the whole stream

line_spelled : (drops : Bool) (course : Course) (l : Bytes) → is_line l ≡ true → IsSpelled (line_lot drops course l)
line_spelled drops course l h = by (course.lost && is_done l) where
  by : (t : Bool) → IsSpelled (cond t unfinished (lot_of drops course.behind l))
  by true = tt
  by false = lot_spelled drops course.behind l h

items_spelled : (drops : Bool) (course : Course) (i : Item) → IsItem i → AreItems (items_in drops course i)
items_spelled drops course (Data x) h = by (drops && is_signature course.behind) where
  by : (t : Bool) → AreItems (items_for (Data x) (cond t signature kept))
  by true = tt
  by false = (h, tt)
items_spelled drops course (Line l) h = by (line_lot drops course l) (line_spelled drops course l h.line) where
  by : (lot : Lot) → IsSpelled lot → AreItems (lines_for l lot)
  by kept k = (h, tt)
  by deletion k = tt
  by marks k = tt
  by feature k = tt
  by signature k = tt
  by unfinished k = tt
  by (spaced new) k = (k, tt)
  by (requoted new) k = (k, tt)

all_spelled : (drops : Bool) (course : Course) (is : List Item) → AreItems is → AreItems (flat_map (items_at drops) (placed_from course is))
all_spelled drops course [] h = tt
all_spelled drops course (i ∷ is) h = items_append (items_in drops course i) (flat_map (items_at drops) (placed_from (course_of course i) is)) (items_spelled drops course i h.0) (all_spelled drops (course_of course i) is h.1)

heard_short : (room : ℕ) (c : Coming) → length (heard_upto room c).bytes ≤ room
unfolding heard_upto
heard_short room c = by (nat_le (length c.bytes) room) refl where
  by : (t : Bool) → nat_le (length c.bytes) room ≡ t → length (cond {A = Coming} t c (record { bytes = take room c.bytes; fails = true })).bytes ≤ room
  by true e = grind (arith, nat_tests)
  by false e = let k = length-take room c.bytes in grind (arith, nat_tests)

read_again : (drops : Bool) (c : Coming) → IsReadAdapted drops c
read_again drops c =
    let short = heard_short (2 ^ 63 - 1) c in
    items_read (adapted drops (items_from c).items) (all_spelled drops start (items_from c).items (all_read (heard c).fails (heard c).bytes (items_from c).items (items_from c).end (has_reading (heard c).bytes (heard c).fails) (omega (arith, short))))

pub again : (drops : Bool) (o : Option Coming) → IsReadAgain drops o
again drops None = tt
again drops (Some c) = read_again drops c
