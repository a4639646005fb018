-- Items behind one another: what stands in their place, and how many there are of each kind.
use Rattle.std.proofs.Common.{◌≡◌, ℕ, suc, ◌≤◌, Bool, true, false, if◌then◌else◌, List, [], ◌∷◌, ◌++◌, length, reverse, refl, sym, ap, ◌∙◌, arith, append-nil}
use Rattle.std.specs.List.{flat_map, filter}
use Rattle.std.proofs.lemmas.Grind.{flat_map-append}
use Rattle.gx_model.specs.Streams.Items.{Item, Line, Data}
use Rattle.gx_model.specs.Export.{item_text, items_text}
use Rattle.gx_adapt.specs.Lines as lines
use Rattle.gx_adapt.specs.Lines.{lines_for, block_lot, items_for}
use Rattle.gx_adapt.specs.Laws.{BlocksAreKept, OtherBlocksAreKept, blocks_of, other_blocks}
use Rattle.gx_adapt.specs.Streams.{Placed, course_of, start, line_lot, placed_from, placed, lot_in, lot_at, items_in, items_at, adapted, is_spaced, is_deletion, is_requoted, is_marks, is_asking, on_line, is_done, ends_with_done, how_many, report_of}
use Rattle.gx_adapt.specs.Adapting.{text_for, one_if, counted}
use Rattle.gx_adapt.specs.Marks.{names_blob_or_tag}
use Rattle.gx_adapt.proofs.Marked.{tags-push}
use Rattle.gx_adapt.specs.declared.course.Course.{Course}
use Rattle.gx_adapt.specs.declared.lot.Behind.{Behind}
use Rattle.gx_adapt.specs.declared.lot.Behind.TheVariants.{Reset, Signature, Other}
use Rattle.gx_adapt.specs.declared.report.Report.{Report}

-- how far a stream is behind these items
abbrev pub after_of : Course → List Item → Course
after_of course [] = course
after_of course (i ∷ is) = after_of (course_of course i) is

pub after-push : (c : Course) (xs : List Item) (i : Item) → after_of c (xs ++ i ∷ []) ≡ course_of (after_of c xs) i
after-push c [] i = refl
after-push c (x ∷ xs) i = after-push (course_of c x) xs i

placed-append : (b : Course) (xs ys : List Item) → placed_from b (xs ++ ys) ≡ placed_from b xs ++ placed_from (after_of b xs) ys
placed-append b [] ys = refl
placed-append b (x ∷ xs) ys = ap (λ ps. record { course = b; item = x } ∷ ps) (placed-append (course_of b x) xs ys)

-- ---- texts

-- what stands in the place of items behind others
abbrev pub text_behind : Bool → Course → List Item → List ℕ
text_behind drops course is = items_text (flat_map (items_at drops) (placed_from course is))

text-append : (drops : Bool) (xs ys : List Item) → text_for drops (xs ++ ys) ≡ text_for drops xs ++ text_behind drops (after_of start xs) ys
text-append drops xs ys =
    ap (λ ps. items_text (flat_map (items_at drops) ps)) (placed-append start xs ys)
    ∙ ap items_text (flat_map-append (items_at drops) (placed xs) (placed_from (after_of start xs) ys))
    ∙ flat_map-append item_text (adapted drops xs) (flat_map (items_at drops) (placed_from (after_of start xs) ys))

pub text-push : (drops : Bool) (xs : List Item) (i : Item) → text_for drops (xs ++ i ∷ []) ≡ text_for drops xs ++ items_text (items_in drops (after_of start xs) i)
text-push drops xs i = text-append drops xs (i ∷ []) ∙ ap (λ is. text_for drops xs ++ items_text is) (append-nil (items_in drops (after_of start xs) i))

pub text-within : (drops : Bool) (xs : List Item) (i : Item) (ys : List Item) → text_for drops (xs ++ i ∷ ys) ≡ text_for drops xs ++ (items_text (items_in drops (after_of start xs) i) ++ text_behind drops (course_of (after_of start xs) i) ys)
text-within drops xs i ys = text-append drops xs (i ∷ ys) ∙ ap (λ t. text_for drops xs ++ t) (flat_map-append item_text (items_in drops (after_of start xs) i) (flat_map (items_at drops) (placed_from (course_of (after_of start xs) i) ys)))

-- ---- counts

one_if-suc : (b : Bool) (n : ℕ) → one_if b (suc n) ≡ suc (one_if b n)
one_if-suc true n = omega arith
one_if-suc false n = refl

count-push : (test : Placed → Bool) (q : Placed) (ps : List Placed) → length (filter test (ps ++ q ∷ [])) ≡ one_if (test q) (length (filter test ps))
count-push test q [] = by (test q) where
  by : (b : Bool) → length (if b then q ∷ [] else []) ≡ one_if b 0
  by true = refl
  by false = refl
count-push test q (p ∷ ps) = by (test p) (count-push test q ps) where
  by : (b : Bool) → length (filter test (ps ++ q ∷ [])) ≡ one_if (test q) (length (filter test ps)) → length (if b then p ∷ filter test (ps ++ q ∷ []) else filter test (ps ++ q ∷ [])) ≡ one_if (test q) (length (if b then p ∷ filter test ps else filter test ps))
  by true e = ap suc e ∙ sym (one_if-suc (test q) (length (filter test ps)))
  by false e = e

many-push : (test : Placed → Bool) (xs : List Item) (i : Item) → how_many test (xs ++ i ∷ []) ≡ one_if (test (record { course = after_of start xs; item = i })) (how_many test xs)
many-push test xs i = ap (λ ps. length (filter test ps)) (placed-append start xs (i ∷ [])) ∙ count-push test (record { course = after_of start xs; item = i }) (placed xs)

count-few : (test : Placed → Bool) (b : Course) (is : List Item) → length (filter test (placed_from b is)) ≤ length is
count-few test b [] = omega arith
count-few test b (i ∷ is) = by (test (record { course = b; item = i })) (count-few test (course_of b i) is) where
  by : (t : Bool) → length (filter test (placed_from (course_of b i) is)) ≤ length is
      → length (if t then (record { course = b; item = i }) ∷ filter test (placed_from (course_of b i) is) else filter test (placed_from (course_of b i) is)) ≤ suc (length is)
  by true h = omega (arith, h)
  by false h = omega (arith, h)

pub many-few : (test : Placed → Bool) (is : List Item) → how_many test is ≤ length is
many-few test is = count-few test start is

abbrev report : ℕ → ℕ → ℕ → ℕ → ℕ → ℕ → ℕ → ℕ → ℕ → ℕ → Bool → Report
report a b c d e f g h i j q =
    record { identities = a; deletions = b; paths = c; marks = d; features = e; signatures = f; refused_names = g; notes = h; early_dates = i; tags_of_blobs_or_tags = j; ended_with_done = q }

same_report : {a b c d e f g h i j k l m n o p q r s t : ℕ} {y z : Bool} → a ≡ k → b ≡ l → c ≡ m → d ≡ n → e ≡ o → f ≡ p → g ≡ q → h ≡ r → i ≡ s → j ≡ t → y ≡ z → report a b c d e f g h i j y ≡ report k l m n o p q r s t z
same_report aa bb cc dd ee ff gg hh ii jj yy = rw (aa, bb, cc, dd, ee, ff, gg, hh, ii, jj, yy) refl

-- the last item decides
done-push : (xs : List Item) (i : Item) → ends_with_done (xs ++ i ∷ []) ≡ on_line is_done i
done-push [] i = refl
done-push (x ∷ []) i = refl
done-push (x ∷ y ∷ xs) i = done-push (y ∷ xs) i

pub report-push : (drops : Bool) (xs : List Item) (i : Item) → report_of drops (xs ++ i ∷ []) ≡ counted (lot_in drops (after_of start xs) i) (names_blob_or_tag (reverse xs) i) i (report_of drops xs)
report-push drops xs i =
    same_report (many-push (λ p. is_spaced (lot_at drops p)) xs i) (many-push (λ p. is_deletion (lot_at drops p)) xs i) (many-push (λ p. is_requoted (lot_at drops p)) xs i)
    (many-push (λ p. is_marks (lot_at drops p)) xs i) (many-push (λ p. is_asking (lot_at drops p)) xs i) (many-push (λ p. on_line lines.is_signature_line p.item) xs i)
    (many-push (λ p. on_line lines.is_refused p.item) xs i) (many-push (λ p. on_line lines.is_note p.item) xs i) (many-push (λ p. on_line lines.is_early p.item) xs i) (tags-push xs i) (done-push xs i)

-- ---- blocks

lines_without : (l : List ℕ) (lot : lines.Lot) (is : List Item) → blocks_of (lines_for l lot ++ is) ≡ blocks_of is
lines_without l lines.kept is = refl
lines_without l lines.deletion is = refl
lines_without l lines.marks is = refl
lines_without l lines.feature is = refl
lines_without l lines.signature is = refl
lines_without l lines.unfinished is = refl
lines_without l (lines.spaced new) is = refl
lines_without l (lines.requoted new) is = refl

blocks_from : (c : Course) (is : List Item) → blocks_of (flat_map (items_at false) (placed_from c is)) ≡ blocks_of is
blocks_from c [] = refl
blocks_from c (Line l ∷ is) = lines_without l (line_lot false c l) (flat_map (items_at false) (placed_from (course_of c (Line l)) is)) ∙ blocks_from (course_of c (Line l)) is
blocks_from c (Data x ∷ is) = ap (λ xs. x ∷ xs) (blocks_from (course_of c (Data x)) is)

pub blocks_kept : BlocksAreKept
blocks_kept is = blocks_from start is

others_from : (c : Course) (is : List Item) → blocks_of (flat_map (items_at true) (placed_from c is)) ≡ other_blocks c.behind is
others_from c [] = refl
others_from c (Line l ∷ is) = lines_without l (line_lot true c l) (flat_map (items_at true) (placed_from (course_of c (Line l)) is)) ∙ others_from (course_of c (Line l)) is
others_from c (Data x ∷ is) = by c.behind (others_from (course_of c (Data x)) is) where
  by : (b : Behind) → blocks_of (flat_map (items_at true) (placed_from (course_of c (Data x)) is)) ≡ other_blocks Other is
      → blocks_of (items_for (Data x) (block_lot true b) ++ flat_map (items_at true) (placed_from (course_of c (Data x)) is)) ≡ other_blocks b (Data x ∷ is)
  by Signature e = e
  by Reset e = ap (λ xs. x ∷ xs) e
  by Other e = ap (λ xs. x ∷ xs) e

pub others_kept : OtherBlocksAreKept
others_kept is = others_from start is
