-- Reading blob commands item by item gives the blobs of the items.
use Rattle.std.proofs.Common.{◌≡◌, ℕ, zero, suc, ◌≤◌, Bool, true, false, if◌then◌else◌, List, [], ◌∷◌, length, codes, Option, Some, None, Ok, Err, refl, ap, arith}
use Rattle.std.specs.Str.{bytes_eq}
use Rattle.gx_model.specs.declared.faults.Fault.TheVariants.{BadLine}
use Rattle.gx_model.specs.Texts.{Bytes}
use Rattle.gx_model.specs.Faults.{Given, ◌>>=◌}
use Rattle.std.specs.Option.{ok_or}
use Rattle.gx_model.specs.Streams.Items.{Item, Line, Data, End, Finished, Failed, Stream}
use Rattle.gx_model.specs.Streams.Grammar.{blob_at}
use Rattle.gx_model.specs.Streams.Lines.{Read, words_of, is_word, mark_of, block, block_in, rest_line_in, optional, any_text, read_some}
use Rattle.gx_model.specs.Streams.Commands.{Command, Blob}
use Rattle.gx_blobs.specs.Blobs.{BlobRun, blobs_within, blobs_of, then_blobs, stops, first_body, not_a_blob}
use Rattle.gx_blobs.specs.Steps.{stop, go, run_of, stepped, command_line, mark_line, oid_line, named_by, marked_by, marked_as, refuse_line}
use Rattle.gx_blobs.specs.declared.blob_names.Stage.TheVariants.{Expected, Started, Marked, Named}

abbrev with : List Item → End → Stream
with is end = record { items = is; end = end }

-- what follows the mark, and what follows the original object name
abbrev after_oid : Option ℕ → Stream → Read Command
after_oid m s = block s >>= λ b. Ok (Blob (record { mark = m; bytes = b.0 }), b.1)

abbrev after_mark : Option ℕ → Stream → Read Command
after_mark m s = optional (codes "original-oid") any_text s >>= λ oid. after_oid m oid.1

-- a line with a word that may be the one that is looked for, and its rest
abbrev line_taken : Bool → Option Bytes → Bytes → List Item → End → Read (Option Bytes)
line_taken b rest l more end = if b then (ok_or rest BadLine >>= λ r. Ok (Some r, with more end)) else Ok (None, with (Line l ∷ more) end)

abbrev rest_read : {A : Type 0} → (Bytes → Given A) → Read (Option Bytes) → Read (Option A)
rest_read read taken = taken >>= λ r. read_some read r.0 >>= λ x. Ok (x, r.1)

abbrev mark_taken : Given ℕ → List Item → End → Read (Option ℕ)
mark_taken given more end = (given >>= λ x. Ok (Some x)) >>= λ x. Ok (x, with more end)

-- what comes next agrees with the run, for at most n items
abbrev Agrees : ℕ → End → (Stream → BlobRun) → Type 0
Agrees n end next = (is : List Item) → length is ≤ n → next (with is end) ≡ run_of is Expected end

named : (m : Option ℕ) (is : List Item) (end : End) (n : ℕ) (next : Stream → BlobRun) → Agrees n end next → length is ≤ suc n → then_blobs (after_oid m (with is end)) next ≡ run_of is Named end
unfolding block_in run_of
named m [] Finished n next agrees short = refl
named m [] (Failed f) n next agrees short = refl
named m (Data x ∷ more) end n next agrees short = ap (first_body x) (agrees more (omega arith))
named m (Line l ∷ more) end n next agrees short = refl

marked_line : (b : Bool) (rest : Option Bytes) (m : Option ℕ) (l : Bytes) (more : List Item) (end : End) (n : ℕ) (next : Stream → BlobRun) → Agrees n end next → length more ≤ n
    → then_blobs (rest_read any_text (line_taken b rest l more end) >>= λ oid. after_oid m oid.1) next
    ≡ stepped (if b then named_by rest else refuse_line) (λ stage. run_of more stage end)
unfolding block_in
marked_line false rest m l more end n next agrees short = refl
marked_line true None m l more end n next agrees short = refl
marked_line true (Some r) m l more end n next agrees short = named m more end n next agrees (omega arith)

marked : (m : Option ℕ) (is : List Item) (end : End) (n : ℕ) (next : Stream → BlobRun) → Agrees n end next → length is ≤ suc n → then_blobs (after_mark m (with is end)) next ≡ run_of is Marked end
unfolding block_in rest_line_in run_of oid_line
marked m [] Finished n next agrees short = refl
marked m [] (Failed f) n next agrees short = refl
marked m (Data x ∷ more) end n next agrees short = ap (first_body x) (agrees more (omega arith))
marked m (Line l ∷ more) end n next agrees short = marked_line (is_word (words_of l) (codes "original-oid")) (words_of l).rest m l more end n next agrees (omega arith)

mark_read : (given : Given ℕ) (more : List Item) (end : End) (n : ℕ) (next : Stream → BlobRun) → Agrees n end next → length more ≤ n
    → then_blobs (mark_taken given more end >>= λ mark. after_mark mark.0 mark.1) next ≡ stepped (marked_as given) (λ stage. run_of more stage end)
mark_read (Err f) more end n next agrees short = refl
mark_read (Ok k) more end n next agrees short = marked (Some k) more end n next agrees (omega arith)

started_line : (b : Bool) (rest : Option Bytes) (l : Bytes) (more : List Item) (end : End) (n : ℕ) (next : Stream → BlobRun) → Agrees n end next → length more ≤ n
    → then_blobs (rest_read mark_of (line_taken b rest l more end) >>= λ mark. after_mark mark.0 mark.1) next
    ≡ stepped (if b then marked_by rest else oid_line l) (λ stage. run_of more stage end)
unfolding run_of
started_line false rest l more end n next agrees short = marked None (Line l ∷ more) end n next agrees (omega arith)
started_line true None l more end n next agrees short = refl
started_line true (Some r) l more end n next agrees short = mark_read (mark_of r) more end n next agrees short

started : (is : List Item) (end : End) (n : ℕ) (next : Stream → BlobRun) → Agrees n end next → length is ≤ n → then_blobs (blob_at (with is end)) next ≡ run_of is Started end
unfolding blob_at block_in rest_line_in run_of mark_line
started [] Finished n next agrees short = refl
started [] (Failed f) n next agrees short = refl
started (Data x ∷ more) end n next agrees short = ap (first_body x) (agrees more (omega arith))
started (Line l ∷ more) end n next agrees short = started_line (is_word (words_of l) (codes "mark")) (words_of l).rest l more end n next agrees (omega arith)

blob_line : (b : Bool) (more : List Item) (end : End) (n : ℕ) (next : Stream → BlobRun) → Agrees n end next → length more ≤ n
    → (if b then then_blobs (blob_at (with more end)) next else stops (Some not_a_blob)) ≡ stepped (if b then go Started else stop not_a_blob) (λ stage. run_of more stage end)
blob_line false more end n next agrees short = refl
blob_line true more end n next agrees short = started more end n next agrees short

within : (n : ℕ) (is : List Item) (end : End) → length is ≤ n → blobs_within n is end ≡ run_of is Expected end
unfolding blobs_within run_of command_line
within n [] Finished short = refl
within n [] (Failed f) short = refl
within zero (i ∷ more) end short = absurd (omega arith)
within (suc n) (Data x ∷ more) end short = refl
within (suc n) (Line [] ∷ more) end short = within n more end (omega arith)
within (suc n) (Line (b ∷ bs) ∷ more) end short = blob_line (bytes_eq (b ∷ bs) (codes "blob")) more end n (λ t. blobs_within n t.items t.end) (λ is few. within n is end few) (omega arith)

pub blobs_of-run : (s : Stream) → blobs_of s ≡ run_of s.items Expected s.end
unfolding blobs_of
blobs_of-run s = within (length s.items) s.items s.end (omega arith)
