-- The parts of commands: items have one shape each, it is what the functions give, and no part leaves more items than it found.
use Rattle.std.proofs.Common.{◌≡◌, ◌⊎◌, inl, inr, ℕ, suc, zero, ◌<◌, ◌≤◌, true, Option, Some, None, Ok, Err, List, [], ◌∷◌, length, codes, refl, sym, ap, subst, ◌∙◌, arith}
use Rattle.std.specs.Str.{bytes_eq}
use Rattle.std.proofs.lemmas.Slice.Eq.{bytes_eq-Decides}
use Rattle.gx_model.specs.declared.faults.Fault.{Fault}
use Rattle.gx_model.specs.declared.faults.Fault.TheVariants as faults
use Rattle.gx_model.specs.Texts.{Bytes, lacks}
use Rattle.gx_model.specs.Faults.{Given, ◌>>=◌}
use Rattle.gx_model.specs.Streams.Items.{Item, Line, Data, End, Finished, Failed, Stream}
use Rattle.gx_model.specs.Streams.Lines as read
use Rattle.gx_model.specs.Streams.Grammar.{unsigned_in, unsigned, item_after_in, item_after}
use Rattle.gx_model.specs.Streams.Lines.{Read, rest_line_in, rest_line, read_some, read_needed, optional, needed, block_in}
use Rattle.gx_model.specs.Streams.LineShapes.{TextShape, line_of, IsOf}
use Rattle.gx_model.specs.Streams.CommandShapes.{Part, Optional, given, of_bad_text, without_text, before_line, before_block, before_end, before_failure, Needed, stands, is_missing, is_at_fault, Block, block, line_for_block, end_for_block, failure_for_block, Unsigned, signature, line_unsigned, block_unsigned, end_unsigned, failure_unsigned, Ending, empty_line, other_line, other_block, last_item, failure, Then, both, first_fault, second_fault, Repeated, no_more, one_more, next_fault, later_fault, TakenFrom}
use Rattle.gx_model.proofs.Streams.WordShapes.{word_alone, word_with, other_word, its_word, is_of}
use Rattle.gx_model.proofs.Streams.TextShapes.{IsReadBy, IsTotal}

-- items with their end
abbrev pub stream : End → List Item → Stream
stream end is = record { items = is; end = end }

-- what a part takes, as the functions give it
abbrev pub as_read : {A : Type 0} → End → TakenFrom A → Read A
as_read end (Ok p) = Ok (p.0, stream end p.1)
as_read end (Err f) = Err f

-- the part is what the function reads
abbrev pub IsPartOf : {A : Type 0} → Part A → (Stream → Read A) → Type 0
IsPartOf {A} P f = (end : End) (is : List Item) (out : TakenFrom A) → P end is out → f (stream end is) ≡ as_read end out

-- all items have the part's shape, with something
abbrev pub IsWhole : {A : Type 0} → Part A → Type 0
IsWhole {A} P = (end : End) (is : List Item) → (out : TakenFrom A) × P end is out

-- no more items are left than stood there
abbrev pub IsNoLonger : {A : Type 0} → Part A → Type 0
IsNoLonger {A} P = (end : End) (is : List Item) (x : A) (rest : List Item) → P end is (Ok (x, rest)) → length rest ≤ length is

-- what is there takes an item
abbrev pub IsShorter : {A : Type 0} → Part (Option A) → Type 0
IsShorter {A} P = (end : End) (is : List Item) (x : A) (rest : List Item) → P end is (Ok (Some x, rest)) → length rest < length is

-- ---- an optional line

rest_there : (word text : Bytes) (end : End) (rest : List Item) → lacks 32 word ≡ true → rest_line word (stream end (Line (line_of word text) ∷ rest)) ≡ Ok (Some text, stream end rest)
unfolding rest_line_in
rest_there word text end rest l = let s : bytes_eq word word ≡ true = (bytes_eq-Decides word word).1 refl in rw (word_with word text l, s) refl

rest_missing : (word : Bytes) (end : End) (rest : List Item) → lacks 32 word ≡ true → rest_line word (stream end (Line word ∷ rest)) ≡ Err faults.BadLine
unfolding rest_line_in
rest_missing word end rest l = let s : bytes_eq word word ≡ true = (bytes_eq-Decides word word).1 refl in rw (word_alone word l, s) refl

rest_other : (word line : Bytes) (end : End) (rest : List Item) → (IsOf word line → ⊥) → rest_line word (stream end (Line line ∷ rest)) ≡ Ok (None, stream end (Line line ∷ rest))
unfolding rest_line_in
rest_other word line end rest n = rw (other_word word line n) refl

rest_block : (word bytes : Bytes) (end : End) (rest : List Item) → rest_line word (stream end (Data bytes ∷ rest)) ≡ Ok (None, stream end (Data bytes ∷ rest))
unfolding rest_line_in
rest_block word bytes end rest = refl

rest_end : (word : Bytes) → rest_line word (stream Finished []) ≡ Ok (None, stream Finished [])
unfolding rest_line_in
rest_end word = refl

rest_failure : (word : Bytes) (f : Fault) → rest_line word (stream (Failed f) []) ≡ Err f
unfolding rest_line_in
rest_failure word f = refl

-- what the rest of a line gives
some_of : {A : Type 0} → (Bytes → Given A) → Read (Option Bytes) → Read (Option A)
some_of f r = r >>= λ r. read_some f r.0 >>= λ x. Ok (x, r.1)

pub optional_shape : {A : Type 0} (word : Bytes) (Shape : TextShape A) (f : Bytes → Given A) → lacks 32 word ≡ true → IsReadBy Shape f → IsPartOf (Optional word Shape) (optional word f)
unfolding some_of
optional_shape word Shape f l is end items out (given {text = text} {x = x} {rest = rest} h) =
    ap (some_of f) (rest_there word text end rest l) ∙ ap (λ g. (g >>= λ x. Ok (Some x)) >>= λ x. Ok (x, stream end rest)) (is text (Ok x) h)
optional_shape word Shape f l is end items out (of_bad_text {text = text} {f = fault} {rest = rest} h) =
    ap (some_of f) (rest_there word text end rest l) ∙ ap (λ g. (g >>= λ x. Ok (Some x)) >>= λ x. Ok (x, stream end rest)) (is text (Err fault) h)
optional_shape word Shape f l is end items out (without_text {rest = rest}) = ap (some_of f) (rest_missing word end rest l)
optional_shape word Shape f l is end items out (before_line {line = line} {rest = rest} n) = ap (some_of f) (rest_other word line end rest n)
optional_shape word Shape f l is end items out (before_block {bytes = bytes} {rest = rest}) = ap (some_of f) (rest_block word bytes end rest)
optional_shape word Shape f l is end items out (before_end e) = rw e (ap (some_of f) (rest_end word))
optional_shape word Shape f l is end items out (before_failure {f = fault} e) = rw e (ap (some_of f) (rest_failure word fault))

pub optional_there : {A : Type 0} (word : Bytes) (Shape : TextShape A) → lacks 32 word ≡ true → IsTotal Shape → IsWhole (Optional word Shape)
optional_there {A} word Shape l all end (Data b ∷ rest) = (Ok (None, Data b ∷ rest), before_block)
optional_there {A} word Shape l all Finished [] = (Ok (None, []), before_end refl)
optional_there {A} word Shape l all (Failed f) [] = (Err f, before_failure refl)
optional_there {A} word Shape l all end (Line line ∷ rest) = by (is_of word line l) where
  with_text : (text : Bytes) (g : Given A) → Shape text g → (out : TakenFrom (Option A)) × Optional word Shape end (Line (line_of word text) ∷ rest) out
  with_text text (Ok x) h = (Ok (Some x, rest), given h)
  with_text text (Err f) h = (Err f, of_bad_text h)

  by : IsOf word line ⊎ (IsOf word line → ⊥) → (out : TakenFrom (Option A)) × Optional word Shape end (Line line ∷ rest) out
  by (inl (inl e)) = subst (λ line. (out : TakenFrom (Option A)) × Optional word Shape end (Line line ∷ rest) out) (sym e) (Err faults.BadLine, without_text)
  by (inl (inr (text, e))) = let t = all text in subst (λ line. (out : TakenFrom (Option A)) × Optional word Shape end (Line line ∷ rest) out) (sym e) (with_text text t.0 t.1)
  by (inr n) = (Ok (None, Line line ∷ rest), before_line n)

pub optional_no_longer : {A : Type 0} (word : Bytes) (Shape : TextShape A) → IsNoLonger (Optional word Shape)
optional_no_longer word Shape end items x rest (given h) = omega arith
optional_no_longer word Shape end items x rest (before_line n) = omega arith
optional_no_longer word Shape end items x rest before_block = omega arith
optional_no_longer word Shape end items x rest (before_end e) = omega arith

pub optional_shorter : {A : Type 0} (word : Bytes) (Shape : TextShape A) → IsShorter (Optional word Shape)
optional_shorter word Shape end items x rest (given h) = omega arith

-- ---- a line that is needed

from_optional : {A : Type 0} → Read (Option A) → Read A
from_optional (Ok (Some x, s)) = Ok (x, s)
from_optional (Ok (None, s)) = Err faults.BadLine
from_optional (Err f) = Err f

needed_is : {A : Type 0} (f : Bytes → Given A) (r : Read (Option Bytes)) → (r >>= λ r. read_needed f r.0 >>= λ x. Ok (x, r.1)) ≡ from_optional (r >>= λ r. read_some f r.0 >>= λ x. Ok (x, r.1))
unfolding from_optional
needed_is {A} f (Err e) = refl
needed_is {A} f (Ok (None, s)) = refl
needed_is {A} f (Ok (Some text, s)) = by (f text) where
  by : (g : Given A) → (g >>= λ x. Ok (x, s)) ≡ from_optional ((g >>= λ x. Ok (Some x)) >>= λ x. Ok (x, s))
  by (Ok x) = refl
  by (Err e) = refl

pub needed_shape : {A : Type 0} (word : Bytes) (Shape : TextShape A) (f : Bytes → Given A) → lacks 32 word ≡ true → IsReadBy Shape f → IsPartOf (Needed word Shape) (needed word f)
unfolding from_optional
needed_shape word Shape f l is end items out (stands {rest = rest} {x = x} h) = needed_is f (rest_line word (stream end items)) ∙ ap from_optional (optional_shape word Shape f l is end items (Ok (Some x, rest)) h)
needed_shape word Shape f l is end items out (is_missing {rest = rest} h) = needed_is f (rest_line word (stream end items)) ∙ ap from_optional (optional_shape word Shape f l is end items (Ok (None, rest)) h)
needed_shape word Shape f l is end items out (is_at_fault {f = fault} h) = needed_is f (rest_line word (stream end items)) ∙ ap from_optional (optional_shape word Shape f l is end items (Err fault) h)

pub needed_there : {A : Type 0} (word : Bytes) (Shape : TextShape A) → lacks 32 word ≡ true → IsTotal Shape → IsWhole (Needed word Shape)
needed_there {A} word Shape l all end items = let o = optional_there word Shape l all end items in by o.0 o.1 where
  by : (o : TakenFrom (Option A)) → Optional word Shape end items o → (out : TakenFrom A) × Needed word Shape end items out
  by (Ok (Some x, rest)) h = (Ok (x, rest), stands h)
  by (Ok (None, rest)) h = (Err faults.BadLine, is_missing h)
  by (Err f) h = (Err f, is_at_fault h)

pub needed_no_longer : {A : Type 0} (word : Bytes) (Shape : TextShape A) → IsNoLonger (Needed word Shape)
needed_no_longer word Shape end items x rest (stands h) = optional_no_longer word Shape end items (Some x) rest h

-- ---- a block

pub block_shape : IsPartOf Block read.block
unfolding block_in
block_shape end items out block = refl
block_shape end items out line_for_block = refl
block_shape end items out (end_for_block e) = rw e refl
block_shape end items out (failure_for_block e) = rw e refl

pub block_there : IsWhole Block
block_there end (Data b ∷ rest) = (Ok (b, rest), block)
block_there end (Line l ∷ rest) = (Err faults.BadLine, line_for_block)
block_there Finished [] = (Err faults.BadLine, end_for_block refl)
block_there (Failed f) [] = (Err f, failure_for_block refl)

pub block_no_longer : IsNoLonger Block
block_no_longer end items x rest block = omega arith

-- ---- no signature

pub unsigned_shape : IsPartOf Unsigned unsigned
unfolding unsigned_in
unsigned_shape end items out (signature {line = line} h) = rw (its_word (codes "gpgsig") line refl h) refl
unsigned_shape end items out (line_unsigned {line = line} n) = rw (other_word (codes "gpgsig") line n) refl
unsigned_shape end items out block_unsigned = refl
unsigned_shape end items out (end_unsigned e) = rw e refl
unsigned_shape end items out (failure_unsigned e) = rw e refl

pub unsigned_there : IsWhole Unsigned
unsigned_there end (Data b ∷ rest) = (Ok (tt, Data b ∷ rest), block_unsigned)
unsigned_there end (Line line ∷ rest) = by (is_of (codes "gpgsig") line refl) where
  by : IsOf (codes "gpgsig") line ⊎ (IsOf (codes "gpgsig") line → ⊥) → (out : TakenFrom (Unit {0})) × Unsigned end (Line line ∷ rest) out
  by (inl h) = (Err faults.Unsupported, signature h)
  by (inr n) = (Ok (tt, Line line ∷ rest), line_unsigned n)
unsigned_there Finished [] = (Ok (tt, []), end_unsigned refl)
unsigned_there (Failed f) [] = (Err f, failure_unsigned refl)

pub unsigned_no_longer : IsNoLonger Unsigned
unsigned_no_longer end items x rest (line_unsigned n) = omega arith
unsigned_no_longer end items x rest block_unsigned = omega arith
unsigned_no_longer end items x rest (end_unsigned e) = omega arith

-- ---- what stands after a commit or a reset

pub ending_shape : IsPartOf Ending item_after
unfolding item_after_in
ending_shape end items out empty_line = refl
ending_shape end items out other_line = refl
ending_shape end items out other_block = refl
ending_shape end items out (last_item e) = rw e refl
ending_shape end items out (failure e) = rw e refl

pub ending_there : IsWhole Ending
ending_there end (Data b ∷ rest) = (Ok (tt, Data b ∷ rest), other_block)
ending_there end (Line [] ∷ rest) = (Ok (tt, rest), empty_line)
ending_there end (Line (b ∷ bs) ∷ rest) = (Ok (tt, Line (b ∷ bs) ∷ rest), other_line)
ending_there Finished [] = (Ok (tt, []), last_item refl)
ending_there (Failed f) [] = (Err f, failure refl)

pub ending_no_longer : IsNoLonger Ending
ending_no_longer end items x rest empty_line = omega arith
ending_no_longer end items x rest other_line = omega arith
ending_no_longer end items x rest other_block = omega arith
ending_no_longer end items x rest (last_item e) = omega arith

-- ---- parts one after another

pub then_there : {A B : Type 0} (P : Part A) (Q : Part B) → IsWhole P → IsWhole Q → IsWhole (Then P Q)
then_there {A} {B} P Q p q end items = let o = p end items in by o.0 o.1 where
  second : (x : A) (more : List Item) → P end items (Ok (x, more)) → (o : TakenFrom B) → Q end more o → (out : TakenFrom (A × B)) × Then P Q end items out
  second x more h (Ok (y, rest)) k = (Ok ((x, y), rest), both h k)
  second x more h (Err f) k = (Err f, second_fault h k)

  by : (o : TakenFrom A) → P end items o → (out : TakenFrom (A × B)) × Then P Q end items out
  by (Ok (x, more)) h = let o = q end more in second x more h o.0 o.1
  by (Err f) h = (Err f, first_fault h)

pub then_no_longer : {A B : Type 0} (P : Part A) (Q : Part B) → IsNoLonger P → IsNoLonger Q → IsNoLonger (Then P Q)
then_no_longer P Q p q end items x rest (both {more = more} {x = a} {y = b} h k) = let l = p end items a more h in let m = q end more b rest k in omega (arith, l, m)

-- ---- parts any number of times

repeated_within : {A : Type 0} (P : Part (Option A)) → IsWhole P → IsShorter P → (n : ℕ) (end : End) (items : List Item) → length items < n → (out : TakenFrom (List A)) × Repeated P end items out
repeated_within {A} P p s zero end items lt = absurd (omega (arith, lt))
repeated_within {A} P p s (suc n) end items lt = let o = p end items in by (λ more l. repeated_within P p s n end more l) o.0 o.1 where
  later : (x : A) (more : List Item) → P end items (Ok (Some x, more)) → (o : TakenFrom (List A)) → Repeated P end more o → (out : TakenFrom (List A)) × Repeated P end items out
  later x more h (Ok (xs, rest)) k = (Ok (x ∷ xs, rest), one_more h k)
  later x more h (Err f) k = (Err f, later_fault h k)

  by : ((more : List Item) → length more < n → (out : TakenFrom (List A)) × Repeated P end more out) → (o : TakenFrom (Option A)) → P end items o → (out : TakenFrom (List A)) × Repeated P end items out
  by again (Ok (None, rest)) h = (Ok ([], rest), no_more h)
  by again (Err f) h = (Err f, next_fault h)
  by again (Ok (Some x, more)) h = let l = s end items x more h in let o = again more (omega (arith, lt, l)) in later x more h o.0 o.1

pub repeated_there : {A : Type 0} (P : Part (Option A)) → IsWhole P → IsShorter P → IsWhole (Repeated P)
repeated_there P p s end items = repeated_within P p s (suc (length items)) end items (omega arith)

pub repeated_no_longer : {A : Type 0} (P : Part (Option A)) → IsNoLonger P → IsNoLonger (Repeated P)
repeated_no_longer P p end items xs rest (no_more h) = p end items None rest h
repeated_no_longer P p end items xs rest (one_more {more = more} {x = x} {xs = ys} h k) = let l = p end items (Some x) more h in let m = repeated_no_longer P p end more ys rest k in omega (arith, l, m)
