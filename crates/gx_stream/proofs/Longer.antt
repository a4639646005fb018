-- What a failing text begins with, a longer text begins with too.
use Rattle.std.proofs.Common.{◌≡◌, ℕ, zero, suc, ◌+◌, ◌<◌, ◌≤◌, Bool, true, false, cond, ◌||◌, ◌&&◌, Option, Some, None, [], ◌∷◌, ◌++◌, length, take, drop, nat_eq, nat_lt, codes, refl, sym, ap, subst, ◌∙◌, arith, append-nil, eqb}
use Rattle.std.specs.List.{starts_with}
use Rattle.std.specs.Str.{bytes_eq}
use Rattle.std.proofs.lemmas.Bool.Decides.{nat_tests}
use Rattle.std.proofs.lemmas.List.{length-append, length-drop, take-append-le, drop-append-le}
use Rattle.std.proofs.lemmas.List.Sums.{prefix_len-le-length}
use Rattle.std.proofs.lemmas.List.Folds.{prefix_len-append}
use Rattle.gx_model.specs.Texts.{Bytes}
use Rattle.gx_model.specs.Texts.Numbers.{decimal_of}
use Rattle.gx_model.specs.declared.faults.Fault.TheVariants as faults
use Rattle.gx_model.specs.Streams.Items.{Line, Data, End, Failed, First, takes, drops, ends, is_lf, line_len, has_no_line, end_of, cut_off, without_lf, with_line, lines_before, counted_block, counted, delimited, delimited_by, announced, first_line, first_of}
use Rattle.gx_stream.specs.Places.{GoesOn}
use Rattle.gx_stream.proofs.Lines.{not_empty}

-- the same with more bytes after it
abbrev pub and_more : First → Bytes → First
and_more (takes i rest) more = takes i (rest ++ more)
and_more (drops rest) more = drops (rest ++ more)
and_more (ends e) more = ends e

-- it isn't for want of bytes that nothing comes
abbrev pub IsDecided : First → Type 0
IsDecided (takes i rest) = Unit {0}
IsDecided (drops rest) = Unit {0}
IsDecided (ends e) = e ≡ Failed faults.BadNumber

-- a text goes on with nothing
pub nothing_more : (fails : Bool) → GoesOn fails [] fails
nothing_more true = tt
nothing_more false = (refl, refl)

-- ---- one of two

same_test : (b : Bool) (v w longer_v longer_w : First) (more : Bytes) → (IsDecided v → longer_v ≡ and_more v more) → (IsDecided w → longer_w ≡ and_more w more) → IsDecided (cond b v w) → cond b longer_v longer_w ≡ and_more (cond b v w) more
same_test true v w longer_v longer_w more h k d = h d
same_test false v w longer_v longer_w more h k d = k d

no_end : (b c : Bool) (e : End) (v longer : First) (more : Bytes) → (b ≡ false → IsDecided v → (c ≡ false) × (longer ≡ and_more v more)) → IsDecided (cond b (ends (Failed faults.ReadFailed)) v) → cond c (ends e) longer ≡ and_more (cond b (ends (Failed faults.ReadFailed)) v) more
no_end true c e v longer more h d = absurd cc
no_end false c e v longer more h d =
    let k = h refl d in
    rw k.0 k.1

-- ---- lines

pub some_line : (n m : ℕ) → m ≤ n → (nat_eq n 0 || (true && nat_eq m n)) ≡ false → m < n
some_line n m l e = grind (arith, nat_tests)

no_test : (n m : ℕ) (fails : Bool) → m < n → (nat_eq n 0 || (fails && nat_eq m n)) ≡ false
no_test n m true l = grind (arith, nat_tests)
no_test n m false l = grind (arith, nat_tests)

-- a longer text begins with the same line
pub record SameLine (text more : Bytes) (then_fails : Bool) : Type 0 where
  pub some : has_no_line (text ++ more) then_fails ≡ false
  pub len : line_len (text ++ more) ≡ line_len text
  pub front : take (line_len (text ++ more)) (text ++ more) ≡ take (line_len text) text
  pub back : drop (line_len (text ++ more) + 1) (text ++ more) ≡ drop (line_len text + 1) text ++ more

pub same_line : (text more : Bytes) (then_fails : Bool) → has_no_line text true ≡ false → SameLine text more then_fails
same_line text more then_fails h =
    let l : line_len text < length text = some_line (length text) (line_len text) (prefix_len-le-length _ text) h in
    let apart : eqb (line_len text) (length text) ≡ false = grind (arith, nat_tests) in
    let len : line_len (text ++ more) ≡ line_len text = prefix_len-append _ text more ∙ rw apart refl in
    let long = length-append text more in
    record {
      some = no_test (length (text ++ more)) (line_len (text ++ more)) then_fails (omega (arith, l, len, long));
      len = len;
      front = ap (λ k. take k (text ++ more)) len ∙ take-append-le (line_len text) text more (omega (arith, l));
      back = ap (λ k. drop (k + 1) (text ++ more)) len ∙ drop-append-le (line_len text + 1) text more (omega (arith, l));
    }

-- and where it is the whole, its line is its own
pub goes_on_line : (text more : Bytes) (fails then_fails : Bool) → has_no_line text fails ≡ false → GoesOn fails more then_fails → SameLine text more then_fails
goes_on_line text more true then_fails h g = same_line text more then_fails h
goes_on_line text more false then_fails h g =
    subst (λ m. SameLine text m then_fails) (sym g.0) (subst (SameLine text []) (sym g.1) (record {
      some = ap (λ t. has_no_line t false) (append-nil text) ∙ h;
      len = ap line_len (append-nil text);
      front = ap (λ t. take (line_len t) t) (append-nil text);
      back = ap (λ t. drop (line_len t + 1) t) (append-nil text) ∙ sym (append-nil (drop (line_len text + 1) text));
    }))

-- ---- blocks

without_lf-longer : (bytes more : Bytes) → 0 < length bytes → without_lf (bytes ++ more) ≡ without_lf bytes ++ more
without_lf-longer [] more l = absurd (omega (arith, l))
without_lf-longer (b ∷ bs) more l = elim (is_lf b) as (λ v. cond v (bs ++ more) (b ∷ (bs ++ more)) ≡ cond v bs (b ∷ bs) ++ more) [ true ↦ refl | false ↦ refl ]

is_long : (n m : ℕ) → (nat_lt m n || (true && nat_eq m n)) ≡ false → n < m
is_long n m e = grind (arith, nat_tests)

not_short : (n m : ℕ) (fails : Bool) → n < m → (nat_lt m n || (fails && nat_eq m n)) ≡ false
not_short n m true l = grind (arith, nat_tests)
not_short n m false l = grind (arith, nat_tests)

counted_block-longer : (n : ℕ) (rest more : Bytes) (then_fails : Bool) → IsDecided (counted_block n rest true) → counted_block n (rest ++ more) then_fails ≡ and_more (counted_block n rest true) more
unfolding counted_block
counted_block-longer n rest more then_fails d =
    no_end (nat_lt (length rest) n || (true && nat_eq (length rest) n)) (nat_lt (length (rest ++ more)) n || (then_fails && nat_eq (length (rest ++ more)) n)) (cut_off then_fails) (takes (Data (take n rest)) (without_lf (drop n rest))) (takes (Data (take n (rest ++ more))) (without_lf (drop n (rest ++ more)))) more
    (λ e _.
    let l : n < length rest = is_long n (length rest) e in
    let front = take-append-le n rest more (omega (arith, l)) in
    let back = drop-append-le n rest more (omega (arith, l)) in
    let lf = without_lf-longer (drop n rest) more (omega (arith, l, length-drop n rest)) in (
      not_short n (length (rest ++ more)) then_fails (omega (arith, l, length-append rest more)),
      ap (λ x. takes (Data x) (without_lf (drop n (rest ++ more)))) front ∙ ap (λ x. takes (Data (take n rest)) x) (ap without_lf back ∙ lf),
    ))
    d

counted-longer : (n : Option ℕ) (rest more : Bytes) (then_fails : Bool) → IsDecided (counted n rest true) → counted n (rest ++ more) then_fails ≡ and_more (counted n rest true) more
counted-longer None rest more then_fails d = refl
counted-longer (Some n) rest more then_fails d = counted_block-longer n rest more then_fails d

-- ---- delimited blocks

-- what follows the lines has more bytes after it
abbrev pub and_more_after : Bytes × Bytes → Bytes → Bytes × Bytes
and_more_after p more = (p.0, p.1 ++ more)

some_is : {A : Type 0} (x y : A) → Some x ≡ Some y → x ≡ y
some_is x y e = cc

step : (b c : Bool) (l rest more : Bytes) (o longer : Option (Bytes × Bytes)) (p : Bytes × Bytes) → (b ≡ false → (q : Bytes × Bytes) → o ≡ Some q → longer ≡ Some (and_more_after q more)) → cond b None (cond c (Some ([], rest)) (with_line l o)) ≡ Some p → (b ≡ false) × (cond c (Some ([], rest ++ more)) (with_line l longer) ≡ Some (and_more_after p more))
step true c l rest more o longer p h e = absurd cc
step false true l rest more o longer p h e = (refl, ap (λ q. Some (and_more_after q more)) (some_is ([], rest) p e))
step false false l rest more None longer p h e = absurd cc
step false false l rest more (Some q) longer p h e = (refl, ap (with_line l) (h refl q refl) ∙ ap (λ r. Some (and_more_after r more)) (some_is (l ++ 10 ∷ q.0, q.1) p e))

lines_step : (n : ℕ) (d text more : Bytes) (then_fails : Bool) → SameLine text more then_fails → lines_before (suc n) d (text ++ more) then_fails ≡ cond (bytes_eq (take (line_len text) text) d) (Some ([], drop (line_len text + 1) text ++ more)) (with_line (take (line_len text) text) (lines_before n d (drop (line_len text + 1) text ++ more) then_fails))
unfolding lines_before
lines_step n d text more then_fails same = rw (same.some, same.front, same.back) refl

lines_before-longer : (n m : ℕ) (d text more : Bytes) (then_fails : Bool) (p : Bytes × Bytes) → length (text ++ more) < m → lines_before n d text true ≡ Some p → lines_before m d (text ++ more) then_fails ≡ Some (and_more_after p more)
unfolding lines_before
lines_before-longer zero m d text more then_fails p l e = absurd cc
lines_before-longer (suc n) zero d text more then_fails p l e = absurd (omega (arith, l))
lines_before-longer (suc n) (suc m) d text more then_fails p l e =
    let rest = drop (line_len text + 1) text in
    let again : has_no_line text true ≡ false → (q : Bytes × Bytes) → lines_before n d rest true ≡ Some q → lines_before m d (rest ++ more) then_fails ≡ Some (and_more_after q more) = λ some q h. lines_before-longer n m d rest more then_fails q (omega (arith, l, not_empty text true some, length-append rest more, length-append text more, length-drop (line_len text + 1) text)) h in
    let found = step (has_no_line text true) (bytes_eq (take (line_len text) text) d) (take (line_len text) text) rest more (lines_before n d rest true) (lines_before m d (rest ++ more) then_fails) p again e in
    lines_step m d text more then_fails (same_line text more then_fails found.0) ∙ found.1

off_at : (fails : Bool) (n : ℕ) → (fails && nat_eq (suc n) 0) ≡ false
off_at true n = grind (arith, nat_tests)
off_at false n = refl

-- a byte has to stand after the delimiter line of a failing text
delimited_by-longer : (o longer : Option (Bytes × Bytes)) (more : Bytes) (then_fails : Bool) → ((q : Bytes × Bytes) → o ≡ Some q → longer ≡ Some (and_more_after q more)) → IsDecided (delimited_by o true) → delimited_by longer then_fails ≡ and_more (delimited_by o true) more
delimited_by-longer None longer more then_fails h d = absurd cc
delimited_by-longer (Some (x, [])) longer more then_fails h d = absurd cc
delimited_by-longer (Some (x, b ∷ bs)) longer more then_fails h d =
    let off : (then_fails && nat_eq (length ((b ∷ bs) ++ more)) 0) ≡ false = off_at then_fails (length (bs ++ more)) in
    let on : nat_eq (length (b ∷ bs)) 0 ≡ false = off_at true (length bs) in
    ap (λ v. delimited_by v then_fails) (h (x, b ∷ bs) refl) ∙ rw (off, on) (ap (λ r. takes (Data x) r) (without_lf-longer (b ∷ bs) more (omega arith)))

delimited-longer : (x rest more : Bytes) (then_fails : Bool) → IsDecided (delimited x rest true) → delimited x (rest ++ more) then_fails ≡ and_more (delimited x rest true) more
unfolding delimited
delimited-longer x rest more then_fails d =
    delimited_by-longer (lines_before (suc (length rest)) x rest true) (lines_before (suc (length (rest ++ more))) x (rest ++ more) then_fails) more then_fails (λ q h. lines_before-longer (suc (length rest)) (suc (length (rest ++ more))) x rest more then_fails q (omega arith) h) d

-- ---- the whole

first_line-longer : (l rest more : Bytes) (then_fails : Bool) → IsDecided (first_line l rest true) → first_line l (rest ++ more) then_fails ≡ and_more (first_line l rest true) more
unfolding first_line
first_line-longer l rest more then_fails d =
    let x = drop 5 l in
    let block : IsDecided (announced x rest true) → announced x (rest ++ more) then_fails ≡ and_more (announced x rest true) more = λ k. same_test (starts_with nat_eq x (codes "<<")) (delimited (drop 2 x) rest true) (counted (decimal_of x) rest true) (delimited (drop 2 x) (rest ++ more) then_fails) (counted (decimal_of x) (rest ++ more) then_fails) more (delimited-longer (drop 2 x) rest more then_fails) (counted-longer (decimal_of x) rest more then_fails) k in
    let other = same_test (starts_with nat_eq l (codes "data ")) (announced x rest true) (takes (Line l) rest) (announced x (rest ++ more) then_fails) (takes (Line l) (rest ++ more)) more block (λ _. refl) in
    same_test (starts_with nat_eq l (codes "#")) (drops rest) (cond (starts_with nat_eq l (codes "data ")) (announced x rest true) (takes (Line l) rest)) (drops (rest ++ more)) (cond (starts_with nat_eq l (codes "data ")) (announced x (rest ++ more) then_fails) (takes (Line l) (rest ++ more))) more (λ _. refl) other d

first_of-longer : (text more : Bytes) (then_fails : Bool) → IsDecided (first_of text true) → first_of (text ++ more) then_fails ≡ and_more (first_of text true) more
unfolding first_of
first_of-longer text more then_fails d =
    let l = take (line_len text) text in
    let rest = drop (line_len text + 1) text in
    no_end (has_no_line text true) (has_no_line (text ++ more) then_fails) (end_of then_fails) (first_line l rest true) (first_line (take (line_len (text ++ more)) (text ++ more)) (drop (line_len (text ++ more) + 1) (text ++ more)) then_fails) more
    (λ h k.
    let same = same_line text more then_fails h in
    (same.some, ap (λ x. first_line x (drop (line_len (text ++ more) + 1) (text ++ more)) then_fails) same.front ∙ ap (λ x. first_line l x then_fails) same.back ∙ first_line-longer l rest more then_fails k))
    d

-- what a text begins with, however it goes on
pub first_of-goes_on : (text more : Bytes) (fails then_fails : Bool) → GoesOn fails more then_fails → IsDecided (first_of text fails) → first_of (text ++ more) then_fails ≡ and_more (first_of text fails) more
first_of-goes_on text more true then_fails g d = first_of-longer text more then_fails d
first_of-goes_on text more false then_fails g d =
    ap (λ m. first_of (text ++ m) then_fails) g.0 ∙ ap (λ t. first_of t then_fails) (append-nil text) ∙ ap (first_of text) g.1 ∙ sym (ap (and_more (first_of text false)) g.0 ∙ with_nothing (first_of text false))
  where
    with_nothing : (v : First) → and_more v [] ≡ v
    with_nothing (takes i rest) = ap (takes i) (append-nil rest)
    with_nothing (drops rest) = ap drops (append-nil rest)
    with_nothing (ends e) = refl
