-- No text ends for want of memory.
use Rattle.std.proofs.Common.{◌≢◌, ℕ, zero, suc, ◌+◌, Bool, true, false, cond, ◌||◌, ◌&&◌, Option, Some, None, length, take, drop, nat_eq, nat_lt, codes, ap}
use Rattle.std.specs.Prelude.{if◌then◌else◌}
use Rattle.std.specs.List.{starts_with}
use Rattle.gx_model.specs.Texts.{Bytes}
use Rattle.gx_model.specs.Texts.Numbers.{decimal_of}
use Rattle.gx_model.specs.declared.faults.Fault.TheVariants as faults
use Rattle.gx_model.specs.Streams.Items.{Line, Data, Failed, Stream, First, takes, drops, ends, line_len, has_no_line, end_of, cut_off, without_lf, lines_before, counted_block, counted, delimited, delimited_by, announced, first_line, first_of, after, read_upto, items_of}
use Rattle.gx_stream.specs.Places.{NoneComes}
use Rattle.gx_stream.specs.declared.fault.StreamFault.TheVariants as fault

-- where a text begins with no item, it isn't for want of memory
abbrev pub IsOwn : First → Type 0
IsOwn (takes i rest) = Unit {0}
IsOwn (drops rest) = Unit {0}
IsOwn (ends e) = e ≢ Failed faults.OutOfMemory

either : (b : Bool) (v w : First) → IsOwn v → IsOwn w → IsOwn (cond b v w)
either true v w h k = h
either false v w h k = k

own_cut : (fails : Bool) → IsOwn (ends (cut_off fails))
own_cut true e = absurd cc
own_cut false e = absurd cc

own_end : (fails : Bool) → IsOwn (ends (end_of fails))
own_end true e = absurd cc
own_end false e = absurd cc

own_count : (n : Option ℕ) (rest : Bytes) (fails : Bool) → IsOwn (counted n rest fails)
unfolding counted_block
own_count None rest fails = λ e. absurd (cc)
own_count (Some n) rest fails =
    either (nat_lt (length rest) n || (fails && nat_eq (length rest) n)) (ends (cut_off fails)) (takes (Data (take n rest)) (without_lf (drop n rest))) (own_cut fails) tt

own_lines : (o : Option (Bytes × Bytes)) (fails : Bool) → IsOwn (delimited_by o fails)
own_lines None fails = own_cut fails
own_lines (Some p) fails = either (fails && nat_eq (length p.1) 0) (ends (cut_off fails)) (takes (Data p.0) (without_lf p.1)) (own_cut fails) tt

own_block : (x rest : Bytes) (fails : Bool) → IsOwn (announced x rest fails)
unfolding delimited
own_block x rest fails =
    either (starts_with nat_eq x (codes "<<")) (delimited (drop 2 x) rest fails) (counted (decimal_of x) rest fails) (own_lines (lines_before (suc (length rest)) (drop 2 x) rest fails) fails) (own_count (decimal_of x) rest fails)

own_line : (l rest : Bytes) (fails : Bool) → IsOwn (first_line l rest fails)
unfolding first_line
own_line l rest fails =
    let other = either (starts_with nat_eq l (codes "data ")) (announced (drop 5 l) rest fails) (takes (Line l) rest) (own_block (drop 5 l) rest fails) tt in
    either (starts_with nat_eq l (codes "#")) (drops rest) (if starts_with nat_eq l (codes "data ") then announced (drop 5 l) rest fails else takes (Line l) rest) tt other

own_first : (text : Bytes) (fails : Bool) → IsOwn (first_of text fails)
unfolding first_of
own_first text fails =
    let l = take (line_len text) text in
    let rest = drop (line_len text + 1) text in
    either (has_no_line text fails) (ends (end_of fails)) (first_line l rest fails) (own_end fails) (own_line l rest fails)

own_after : (v : First) (next : Bytes → Stream) → IsOwn v → ((rest : Bytes) → (next rest).end ≢ Failed faults.OutOfMemory) → (after v next).end ≢ Failed faults.OutOfMemory
own_after (takes i rest) next own h = h rest
own_after (drops rest) next own h = h rest
own_after (ends e) next own h = own

own_items : (n : ℕ) (text : Bytes) (fails : Bool) → (read_upto n text fails).end ≢ Failed faults.OutOfMemory
unfolding read_upto
own_items zero text fails = λ e. absurd (cc)
own_items (suc n) text fails = own_after (first_of text fails) (λ rest. read_upto n rest fails) (own_first text fails) (λ rest. own_items n rest fails)

pub none_refused : (text : Bytes) (fails : Bool) (at : ℕ) → NoneComes text fails at (Some fault.OutOfMemory) → ⊥
unfolding items_of
none_refused text fails at none = own_items (suc (length (drop at text))) (drop at text) fails (ap (λ (s : Stream). s.end) none.end)
