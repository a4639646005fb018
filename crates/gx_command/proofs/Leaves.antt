-- What reading leaves has no more items than there were.
use Rattle.std.proofs.Common.{◌≡◌, ℕ, zero, suc, ◌<◌, ◌≤◌, Bool, true, false, cond, List, [], ◌∷◌, length, Option, Some, None, Ok, Err, refl, ap, subst, arith}
use Rattle.std.specs.Prelude.{codes, ◌||◌}
use Rattle.gx_model.specs.Texts.{Bytes}
use Rattle.gx_model.specs.Faults.{Given, ◌>>=◌}
use Rattle.gx_model.specs.Streams.Items.{Item, Line, Data, End, Finished, Failed, Stream}
use Rattle.gx_model.specs.Streams.Commands.{Change, Command, CommitIsh}
use Rattle.gx_model.specs.Streams.Grammar.{where_of, suits, Where, AtMark, AtName, AtBlock, bytes_from, part_of, two_paths, modify_at, change_at, changes_within, changes, merges_within, merges, item_after_in, item_after, unsigned_in, unsigned, blob_at, links_at, commit_at, tag_at, reset_at, if_early, command_at}
use Rattle.gx_model.specs.Streams.Lines.{Read, Words, at_end, after, words_of, is_word, rest_of, bare, rest_line_in, rest_line, read_some, optional, read_needed, needed, block_in, block, mark_of, any_text, encoding_of, ident_of, ref_of, tag_of, commit_ish_of, feature_of, mode_of, last_path}

abbrev pub Leaves : {A : Type 0} → Read A → Stream → Type 0
Leaves (Ok x) s = length x.1.items ≤ length s.items
Leaves (Err f) s = Unit {0}

abbrev pub LeavesIf : {A : Type 0} → Option (Read A) → Stream → Type 0
LeavesIf None s = Unit {0}
LeavesIf (Some read) s = Leaves read s

-- ---- one after another

no_longer : {A : Type 0} (r : Read A) (s t : Stream) → Leaves r t → length t.items ≤ length s.items → Leaves r s
no_longer (Ok x) s t h k = omega (arith, h)
no_longer (Err f) s t h k = tt

pub then_leaves : {A B : Type 0} (r : Read A) (k : A × Stream → Read B) (s : Stream) → Leaves r s → ((x : A × Stream) → Leaves (k x) x.1) → Leaves (r >>= k) s
then_leaves (Ok x) k s h rest = no_longer (k x) s x.1 (rest x) h
then_leaves (Err f) k s h rest = tt

given_leaves : {A B : Type 0} (g : Given A) (k : A → Read B) (s : Stream) → ((x : A) → Leaves (k x) s) → Leaves (g >>= k) s
given_leaves (Ok x) k s rest = rest x
given_leaves (Err f) k s rest = tt

given_leaves_at : {A B : Type 0} (g : Given A) (k : A → B) (s t : Stream) → length t.items ≤ length s.items → Leaves (g >>= λ x. Ok (k x, t)) s
given_leaves_at (Ok x) k s t h = h
given_leaves_at (Err f) k s t h = tt

all_left : {A : Type 0} (x : A) (s : Stream) → Leaves (Ok (x, s)) s
all_left x s = omega arith

end_leaves : {A : Type 0} (e : End) (r : Read A) (s : Stream) → Leaves r s → Leaves (at_end e r) s
end_leaves Finished r s h = h
end_leaves (Failed f) r s h = tt

choice_leaves : {A : Type 0} (b : Bool) (r q : Read A) (s : Stream) → Leaves r s → Leaves q s → Leaves (cond b r q) s
choice_leaves true r q s h k = h
choice_leaves false r q s h k = k

-- ---- lines and blocks

none_taken : (s : Stream) → Leaves {A = Option Bytes} (Ok (None, s)) s
none_taken s = omega arith

unit_taken : (s : Stream) → Leaves {A = Unit {0}} (Ok (tt, s)) s
unit_taken s = omega arith

rest_line_leaves : (name : Bytes) (items : List Item) (s : Stream) → s.items ≡ items → Leaves (rest_line_in name items s) s
unfolding rest_line_in
rest_line_leaves name [] s is = end_leaves s.end (Ok (None, s)) s (none_taken s)
rest_line_leaves name (Data b ∷ more) s is = none_taken s
rest_line_leaves name (Line l ∷ more) s is = choice_leaves (is_word (words_of l) name) (rest_of (words_of l) >>= λ r. Ok (Some r, after more s)) (Ok (None, s)) s (given_leaves_at (rest_of (words_of l)) (λ r. Some r) s (after more s) (omega (arith, ap length is))) (none_taken s)

pub optional_leaves : {A : Type 0} (name : Bytes) (read : Bytes → Given A) (s : Stream) → Leaves (optional name read s) s
optional_leaves name read s = then_leaves (rest_line name s) (λ r. read_some read r.0 >>= λ x. Ok (x, r.1)) s (rest_line_leaves name s.items s refl) (λ r. given_leaves_at (read_some read r.0) (λ x. x) r.1 r.1 (omega arith))

-- a line that is taken shortens what there is
abbrev pub Shortens : {A : Type 0} → Read (Option A) → Stream → Type 0
Shortens (Ok (None, t)) s = Unit {0}
Shortens (Ok (Some x, t)) s = length t.items < length s.items
Shortens (Err f) s = Unit {0}

rest_line_shortens : (name : Bytes) (items : List Item) (s : Stream) → s.items ≡ items → Shortens (rest_line_in name items s) s
unfolding rest_line_in
rest_line_shortens name [] s is = at s.end where
  at : (e : End) → Shortens (at_end {A = Option Bytes × Stream} e (Ok (None, s))) s
  at Finished = tt
  at (Failed f) = tt
rest_line_shortens name (Data b ∷ more) s is = tt
rest_line_shortens name (Line l ∷ more) s is = by (is_word (words_of l) name) where
  rest : (g : Given Bytes) → Shortens (g >>= λ r. Ok (Some r, after more s)) s
  rest (Ok r) = omega (arith, ap length is)
  rest (Err f) = tt

  by : (b : Bool) → Shortens (cond b (rest_of (words_of l) >>= λ r. Ok (Some r, after more s)) (Ok (None, s))) s
  by true = rest (rest_of (words_of l))
  by false = tt

pub optional_shortens : {A : Type 0} (name : Bytes) (read : Bytes → Given A) (s : Stream) → Shortens (optional name read s) s
optional_shortens {A} name read s = by (rest_line name s) (rest_line_shortens name s.items s refl) where
  given : (g : Given A) (t : Stream) → length t.items < length s.items → Shortens ((g >>= λ x. Ok (Some x)) >>= λ x. Ok (x, t)) s
  given (Ok x) t h = h
  given (Err f) t h = tt

  by : (r : Read (Option Bytes)) → Shortens r s → Shortens (r >>= λ r. read_some read r.0 >>= λ x. Ok (x, r.1)) s
  by (Ok (None, t)) h = tt
  by (Ok (Some r, t)) h = given (read r) t h
  by (Err f) h = tt

pub needed_leaves : {A : Type 0} (name : Bytes) (read : Bytes → Given A) (s : Stream) → Leaves (needed name read s) s
needed_leaves name read s = then_leaves (rest_line name s) (λ r. read_needed read r.0 >>= λ x. Ok (x, r.1)) s (rest_line_leaves name s.items s refl) (λ r. given_leaves_at (read_needed read r.0) (λ x. x) r.1 r.1 (omega arith))

block_in_leaves : (items : List Item) (s : Stream) → s.items ≡ items → Leaves (block_in items s) s
unfolding block_in
block_in_leaves [] s is = end_leaves s.end (Err _) s tt
block_in_leaves (Line l ∷ more) s is = tt
block_in_leaves (Data b ∷ more) s is = omega (arith, ap length is)

pub block_leaves : (s : Stream) → Leaves (block s) s
block_leaves s = block_in_leaves s.items s refl

item_after_in_leaves : (items : List Item) (s : Stream) → s.items ≡ items → Leaves (item_after_in items s) s
unfolding item_after_in
item_after_in_leaves [] s is = end_leaves s.end (Ok (tt, s)) s (unit_taken s)
item_after_in_leaves (Data b ∷ more) s is = unit_taken s
item_after_in_leaves (Line [] ∷ more) s is = omega (arith, ap length is)
item_after_in_leaves (Line (b ∷ bs) ∷ more) s is = unit_taken s

item_after_leaves : (s : Stream) → Leaves (item_after s) s
item_after_leaves s = item_after_in_leaves s.items s refl

unsigned_in_leaves : (items : List Item) (s : Stream) → s.items ≡ items → Leaves (unsigned_in items s) s
unfolding unsigned_in
unsigned_in_leaves [] s is = end_leaves s.end (Ok (tt, s)) s (unit_taken s)
unsigned_in_leaves (Data b ∷ more) s is = unit_taken s
unsigned_in_leaves (Line l ∷ more) s is = choice_leaves (is_word (words_of l) (codes "gpgsig")) (Err _) (Ok (tt, s)) s tt (unit_taken s)

unsigned_leaves : (s : Stream) → Leaves (unsigned s) s
unsigned_leaves s = unsigned_in_leaves s.items s refl

-- ---- changes

bytes_leave : (w : Where) (s : Stream) → Leaves (bytes_from w s) s
bytes_leave (AtMark n) s = omega arith
bytes_leave (AtName ds) s = omega arith
bytes_leave AtBlock s = then_leaves (block s) (λ b. Ok (_, b.1)) s (block_leaves s) (λ b. omega arith)

modify_leaves : (bs : Bytes) (s : Stream) → Leaves (modify_at bs s) s
unfolding modify_at
modify_leaves bs s =
    given_leaves (mode_of (part_of bs).word) _ s (λ mode.
    given_leaves (rest_of (part_of bs) >>= λ r. Ok (part_of r)) _ s (λ second.
    given_leaves (where_of second.word) _ s (λ at.
    given_leaves (suits mode at) _ s (λ fits.
    given_leaves (rest_of second >>= last_path) _ s (λ path.
    then_leaves (bytes_from at s) _ s (bytes_leave at s) (λ bytes. omega arith))))))

choice_leaves_if : {A : Type 0} (b : Bool) (r q : Option (Read A)) (s : Stream) → LeavesIf r s → LeavesIf q s → LeavesIf (cond b r q) s
choice_leaves_if true r q s h k = h
choice_leaves_if false r q s h k = k

pub change_leaves : (w : Words) (s : Stream) → LeavesIf (change_at w s) s
unfolding change_at
change_leaves w s =
    choice_leaves_if (is_word w (codes "M")) (Some (rest_of w >>= λ r. modify_at r s)) _ s (given_leaves (rest_of w) (λ r. modify_at r s) s (λ r. modify_leaves r s))
    (choice_leaves_if (is_word w (codes "D")) _ _ s (given_leaves (rest_of w) _ s (λ r. given_leaves_at (last_path r) _ s s (omega arith)))
    (choice_leaves_if (is_word w (codes "C")) _ _ s (given_leaves (rest_of w) _ s (λ r. given_leaves_at (two_paths r) _ s s (omega arith)))
    (choice_leaves_if (is_word w (codes "R")) _ _ s (given_leaves (rest_of w) _ s (λ r. given_leaves_at (two_paths r) _ s s (omega arith)))
    (choice_leaves_if (is_word w (codes "deleteall")) _ _ s (given_leaves_at (bare w) _ s s (omega arith))
    (choice_leaves_if (is_word w (codes "N")) _ _ s tt tt)))))

changes_within_leave : (n : ℕ) (items : List Item) (s : Stream) → s.items ≡ items → Leaves (changes_within n items s) s
unfolding changes_within
changes_within_leave n [] s is = end_leaves s.end (Ok ([], s)) s (all_left {A = List Change} [] s)
changes_within_leave zero (i ∷ more) s is = all_left {A = List Change} [] s
changes_within_leave (suc n) (Data b ∷ more) s is = all_left {A = List Change} [] s
changes_within_leave (suc n) (Line l ∷ more) s is = by (change_at (words_of l) (after more s)) refl (λ t. changes_within_leave n t.items t refl) where
  by : (c : Option (Read Change)) → change_at (words_of l) (after more s) ≡ c → ((t : Stream) → Leaves (changes_within n t.items t) t) → Leaves (changes_within (suc n) (Line l ∷ more) s) s
  by None e again = rw e (all_left {A = List Change} [] s)
  by (Some read) e again = rw e (no_longer _ s (after more s) (then_leaves read _ (after more s) (subst (λ c. LeavesIf c (after more s)) e (change_leaves (words_of l) (after more s))) (λ x. then_leaves (changes_within n x.1.items x.1) _ x.1 (again x.1) (λ xs. omega arith))) (omega (arith, ap length is)))

changes_leave : (s : Stream) → Leaves (changes s) s
changes_leave s = changes_within_leave (length s.items) s.items s refl

merges_within_leave : (n : ℕ) (s : Stream) → Leaves (merges_within n s) s
unfolding merges_within
merges_within_leave zero s = all_left {A = List CommitIsh} [] s
merges_within_leave (suc n) s = by (optional (codes "merge") commit_ish_of s) refl (merges_within_leave n) where
  left : (r : Read (Option CommitIsh)) → optional (codes "merge") commit_ish_of s ≡ r → Leaves r s
  left r e = subst (λ q. Leaves q s) e (optional_leaves (codes "merge") commit_ish_of s)

  by : (r : Read (Option CommitIsh)) → optional (codes "merge") commit_ish_of s ≡ r → ((t : Stream) → Leaves (merges_within n t) t) → Leaves (merges_within (suc n) s) s
  by (Err f) e again = rw e tt
  by (Ok (None, t)) e again = rw e (left (Ok (None, t)) e)
  by (Ok (Some c, t)) e again = rw e (no_longer _ s t (then_leaves (merges_within n t) _ t (again t) (λ xs. omega arith)) (left (Ok (Some c, t)) e))

merges_leave : (s : Stream) → Leaves (merges s) s
merges_leave s = merges_within_leave (suc (length s.items)) s

-- ---- commands

blob_leaves : (s : Stream) → Leaves (blob_at s) s
unfolding blob_at
blob_leaves s =
    then_leaves (optional (codes "mark") mark_of s) _ s (optional_leaves (codes "mark") mark_of s) (λ mark.
    then_leaves (optional (codes "original-oid") any_text mark.1) _ mark.1 (optional_leaves (codes "original-oid") any_text mark.1) (λ oid.
    then_leaves (block oid.1) _ oid.1 (block_leaves oid.1) (λ bytes. omega arith)))

links_leave : (s : Stream) → Leaves (links_at s) s
unfolding links_at
links_leave s =
    then_leaves (optional (codes "from") commit_ish_of s) _ s (optional_leaves (codes "from") commit_ish_of s) (λ parent.
    then_leaves (merges parent.1) _ parent.1 (merges_leave parent.1) (λ merged.
    then_leaves (changes merged.1) _ merged.1 (changes_leave merged.1) (λ changed.
    then_leaves (item_after changed.1) _ changed.1 (item_after_leaves changed.1) (λ ended. omega arith))))

commit_leaves : (ref : Bytes) (s : Stream) → Leaves (commit_at ref s) s
unfolding commit_at
commit_leaves ref s =
    then_leaves (optional (codes "mark") mark_of s) _ s (optional_leaves (codes "mark") mark_of s) (λ mark.
    then_leaves (optional (codes "original-oid") any_text mark.1) _ mark.1 (optional_leaves (codes "original-oid") any_text mark.1) (λ oid.
    then_leaves (optional (codes "author") ident_of oid.1) _ oid.1 (optional_leaves (codes "author") ident_of oid.1) (λ author.
    then_leaves (needed (codes "committer") ident_of author.1) _ author.1 (needed_leaves (codes "committer") ident_of author.1) (λ committer.
    then_leaves (unsigned committer.1) _ committer.1 (unsigned_leaves committer.1) (λ plain.
    then_leaves (optional (codes "encoding") encoding_of plain.1) _ plain.1 (optional_leaves (codes "encoding") encoding_of plain.1) (λ encoding.
    then_leaves (block encoding.1) _ encoding.1 (block_leaves encoding.1) (λ message.
    then_leaves (links_at message.1) _ message.1 (links_leave message.1) (λ links. omega arith))))))))

tag_leaves : (name : Bytes) (s : Stream) → Leaves (tag_at name s) s
unfolding tag_at
tag_leaves name s =
    then_leaves (optional (codes "mark") mark_of s) _ s (optional_leaves (codes "mark") mark_of s) (λ mark.
    then_leaves (needed (codes "from") commit_ish_of mark.1) _ mark.1 (needed_leaves (codes "from") commit_ish_of mark.1) (λ target.
    then_leaves (optional (codes "original-oid") any_text target.1) _ target.1 (optional_leaves (codes "original-oid") any_text target.1) (λ oid.
    then_leaves (optional (codes "tagger") ident_of oid.1) _ oid.1 (optional_leaves (codes "tagger") ident_of oid.1) (λ tagger.
    then_leaves (block tagger.1) _ tagger.1 (block_leaves tagger.1) (λ message. omega arith)))))

reset_leaves : (ref : Bytes) (s : Stream) → Leaves (reset_at ref s) s
unfolding reset_at
reset_leaves ref s =
    then_leaves (optional (codes "from") commit_ish_of s) _ s (optional_leaves (codes "from") commit_ish_of s) (λ parent.
    then_leaves (item_after parent.1) _ parent.1 (item_after_leaves parent.1) (λ ended. omega arith))

early_leaves : {A : Type 0} (early : Bool) (g : Given A) (k : A → Command) (s : Stream) → Leaves (if_early early (g >>= λ x. Ok (k x, s))) s
early_leaves true g k s = given_leaves_at g k s s (omega arith)
early_leaves false g k s = tt

early_leaves_all : {A : Type 0} (early : Bool) (x : A) (s : Stream) → Leaves (if_early early (Ok (x, s))) s
early_leaves_all true x s = omega arith
early_leaves_all false x s = tt

pub command_leaves : (early : Bool) (w : Words) (s : Stream) → Leaves (command_at early w s) s
unfolding command_at
command_leaves early w s =
    choice_leaves (is_word w (codes "blob")) _ _ s (given_leaves (bare w) _ s (λ u. blob_leaves s))
    (choice_leaves (is_word w (codes "commit")) _ _ s (given_leaves (rest_of w) _ s (λ r. given_leaves (ref_of r) _ s (λ ref. commit_leaves ref s)))
    (choice_leaves (is_word w (codes "tag")) _ _ s (given_leaves (rest_of w) _ s (λ r. given_leaves (tag_of r) _ s (λ name. tag_leaves name s)))
    (choice_leaves (is_word w (codes "reset")) _ _ s (given_leaves (rest_of w) _ s (λ r. given_leaves (ref_of r) _ s (λ ref. reset_leaves ref s)))
    (choice_leaves (is_word w (codes "checkpoint")) _ _ s (given_leaves_at (bare w) _ s s (omega arith))
    (choice_leaves (is_word w (codes "progress")) _ _ s (given_leaves_at (rest_of w) _ s s (omega arith))
    (choice_leaves (is_word w (codes "feature")) _ _ s (given_leaves (rest_of w) _ s (λ r. early_leaves early (feature_of r) _ s))
    (choice_leaves (is_word w (codes "option")) _ _ s (given_leaves (rest_of w) _ s (λ r. early_leaves_all early _ s))
    (choice_leaves (is_word w (codes "done")) _ _ s (given_leaves_at (bare w) _ s s (omega arith))
    (choice_leaves (is_word w (codes "ls") || is_word w (codes "cat-blob") || is_word w (codes "get-mark") || is_word w (codes "alias")) _ _ s tt tt)))))))))
