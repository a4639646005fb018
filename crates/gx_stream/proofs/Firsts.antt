-- What a text begins with, and the items of the whole text.
use Rattle.std.proofs.Common.{◌≡◌, ℕ, zero, suc, ◌+◌, ◌<◌, ◌≤◌, Bool, true, false, cond, ◌||◌, ◌&&◌, Option, Some, None, [], ◌∷◌, length, take, drop, nat_eq, nat_lt, codes, refl, ap, arith}
use Rattle.std.specs.Prelude.{if◌then◌else◌}
use Rattle.std.specs.List.{starts_with}
use Rattle.std.specs.Str.{bytes_eq}
use Rattle.std.proofs.lemmas.List.{length-drop}
use Rattle.gx_model.specs.Texts.{Bytes}
use Rattle.gx_model.specs.Texts.Numbers.{decimal_of}
use Rattle.gx_model.specs.Streams.Items.{Line, Data, End, Stream, First, takes, drops, ends, is_lf, line_len, has_no_line, end_of, cut_off, without_lf, with_line, lines_before, counted_block, counted, delimited, delimited_by, announced, first_line, first_of, then_comes, after, read_upto, items_of}
use Rattle.gx_stream.proofs.Lines.{not_empty}

-- what a text begins with leaves at most n bytes
abbrev pub Leaves : ℕ → First → Type 0
Leaves n (takes i rest) = length rest ≤ n
Leaves n (drops rest) = length rest ≤ n
Leaves n (ends e) = Unit {0}

without_lf-le : (bs : Bytes) → length (without_lf bs) ≤ length bs
without_lf-le [] = omega arith
without_lf-le (b ∷ bs) = elim (is_lf b) as (λ v. length (cond v bs (b ∷ bs)) ≤ length (b ∷ bs)) [ true ↦ omega arith | false ↦ omega arith ]

-- either of two
either : (n : ℕ) (b : Bool) (v w : First) → Leaves n v → Leaves n w → Leaves n (cond b v w)
either n true v w h k = h
either n false v w h k = k

counted_block-leaves : (n : ℕ) (rest : Bytes) (fails : Bool) → Leaves (length rest) (counted_block n rest fails)
unfolding counted_block
counted_block-leaves n rest fails =
    let le : length (without_lf (drop n rest)) ≤ length rest = omega (arith, without_lf-le (drop n rest), length-drop n rest) in
    either (length rest) (nat_lt (length rest) n || (fails && nat_eq (length rest) n)) (ends (cut_off fails)) (takes (Data (take n rest)) (without_lf (drop n rest))) tt le

counted-leaves : (n : Option ℕ) (rest : Bytes) (fails : Bool) → Leaves (length rest) (counted n rest fails)
counted-leaves None rest fails = tt
counted-leaves (Some n) rest fails = counted_block-leaves n rest fails

-- at most n bytes stand after the lines
abbrev pub LeavesAfter : ℕ → Option (Bytes × Bytes) → Type 0
LeavesAfter n None = Unit {0}
LeavesAfter n (Some p) = length p.1 ≤ n

with_line-leaves : (n m : ℕ) (l : Bytes) (o : Option (Bytes × Bytes)) → m ≤ n → LeavesAfter m o → LeavesAfter n (with_line l o)
with_line-leaves n m l None le h = tt
with_line-leaves n m l (Some p) le h = omega (arith, le, h)

lines_cases : (n : ℕ) (b c : Bool) (v w : Option (Bytes × Bytes)) → LeavesAfter n v → LeavesAfter n w → LeavesAfter n (cond b None (cond c v w))
lines_cases n true c v w h k = tt
lines_cases n false true v w h k = h
lines_cases n false false v w h k = k

lines_before-leaves : (n : ℕ) (d text : Bytes) (fails : Bool) → LeavesAfter (length text) (lines_before n d text fails)
unfolding lines_before
lines_before-leaves zero d text fails = tt
lines_before-leaves (suc n) d text fails =
    let rest = drop (line_len text + 1) text in
    let less : length rest ≤ length text = omega (arith, length-drop (line_len text + 1) text) in
    let l = take (line_len text) text in
    let o = lines_before n d rest fails in
    lines_cases (length text) (has_no_line text fails) (bytes_eq l d) (Some ([], rest)) (with_line l o) less (with_line-leaves (length text) (length rest) l o less (lines_before-leaves n d rest fails))

delimited_by-leaves : (n : ℕ) (o : Option (Bytes × Bytes)) (fails : Bool) → LeavesAfter n o → Leaves n (delimited_by o fails)
delimited_by-leaves n None fails h = tt
delimited_by-leaves n (Some p) fails h =
    let le : length (without_lf p.1) ≤ n = omega (arith, h, without_lf-le p.1) in
    either n (fails && nat_eq (length p.1) 0) (ends (cut_off fails)) (takes (Data p.0) (without_lf p.1)) tt le

delimited-leaves : (d rest : Bytes) (fails : Bool) → Leaves (length rest) (delimited d rest fails)
unfolding delimited
delimited-leaves d rest fails = delimited_by-leaves (length rest) (lines_before (suc (length rest)) d rest fails) fails (lines_before-leaves (suc (length rest)) d rest fails)

first_line-leaves : (l rest : Bytes) (fails : Bool) → Leaves (length rest) (first_line l rest fails)
unfolding first_line
first_line-leaves l rest fails =
    let x = drop 5 l in
    let all : length rest ≤ length rest = omega arith in
    let block = either (length rest) (starts_with nat_eq x (codes "<<")) (delimited (drop 2 x) rest fails) (counted (decimal_of x) rest fails) (delimited-leaves (drop 2 x) rest fails) (counted-leaves (decimal_of x) rest fails) in
    let other = either (length rest) (starts_with nat_eq l (codes "data ")) (announced x rest fails) (takes (Line l) rest) block all in
    either (length rest) (starts_with nat_eq l (codes "#")) (drops rest) (if starts_with nat_eq l (codes "data ") then announced x rest fails else takes (Line l) rest) all other

-- fewer bytes than the text has
abbrev pub Shortens : ℕ → First → Type 0
Shortens n (takes i rest) = length rest < n
Shortens n (drops rest) = length rest < n
Shortens n (ends e) = Unit {0}

shortens : (n m : ℕ) (v : First) → m < n → Leaves m v → Shortens n v
shortens n m (takes i rest) l h = omega (arith, l, h)
shortens n m (drops rest) l h = omega (arith, l, h)
shortens n m (ends e) l h = tt

unless : (n : ℕ) (b : Bool) (e : End) (v : First) → (b ≡ false → Shortens n v) → Shortens n (cond b (ends e) v)
unless n true e v h = tt
unless n false e v h = h refl

pub first_of-shortens : (text : Bytes) (fails : Bool) → Shortens (length text) (first_of text fails)
unfolding first_of
first_of-shortens text fails =
    let rest = drop (line_len text + 1) text in
    unless (length text) (has_no_line text fails) (end_of fails) (first_line (take (line_len text) text) rest fails) (λ h. shortens (length text) (length rest) (first_line (take (line_len text) text) rest fails) (omega (arith, not_empty text fails h, length-drop (line_len text + 1) text)) (first_line-leaves (take (line_len text) text) rest fails))

-- where a line stands, it is what the text begins with
pub first_of-line : (text : Bytes) (fails : Bool) → has_no_line text fails ≡ false → first_of text fails ≡ first_line (take (line_len text) text) (drop (line_len text + 1) text) fails
unfolding first_of
first_of-line text fails h = rw h refl

pub first_of-none : (text : Bytes) (fails : Bool) → has_no_line text fails ≡ true → first_of text fails ≡ ends (end_of fails)
unfolding first_of
first_of-none text fails h = rw h refl

pub first_line-comment : (l rest : Bytes) (fails : Bool) → starts_with nat_eq l (codes "#") ≡ true → first_line l rest fails ≡ drops rest
unfolding first_line
first_line-comment l rest fails h = rw h refl

-- what a reading goes on with matters only at shorter texts
after-same : (n : ℕ) (v : First) (k h : Bytes → Stream) → Shortens n v → ((rest : Bytes) → length rest < n → k rest ≡ h rest) → after v k ≡ after v h
after-same n (takes i rest) k h l same = ap (then_comes i) (same rest l)
after-same n (drops rest) k h l same = same rest l
after-same n (ends e) k h l same = refl

-- enough is enough
read_upto-same : (n m : ℕ) (text : Bytes) (fails : Bool) → length text < n → length text < m → read_upto n text fails ≡ read_upto m text fails
unfolding read_upto
read_upto-same zero m text fails l k = absurd (omega (arith, l))
read_upto-same (suc n) zero text fails l k = absurd (omega (arith, k))
read_upto-same (suc n) (suc m) text fails l k =
    after-same (length text) (first_of text fails) (λ rest. read_upto n rest fails) (λ rest. read_upto m rest fails) (first_of-shortens text fails) (λ rest s. read_upto-same n m rest fails (omega (arith, s, l)) (omega (arith, s, k)))

-- the items of a text, by what it begins with
pub items_of-first : (text : Bytes) (fails : Bool) → items_of text fails ≡ after (first_of text fails) (λ rest. items_of rest fails)
unfolding items_of read_upto
items_of-first text fails =
    after-same (length text) (first_of text fails) (λ rest. read_upto (length text) rest fails) (λ rest. read_upto (suc (length rest)) rest fails) (first_of-shortens text fails) (λ rest s. read_upto-same (length text) (suc (length rest)) rest fails s (omega arith))
