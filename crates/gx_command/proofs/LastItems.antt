-- What reading leaves are the last of the items that there were, with the same end.
use Rattle.std.proofs.Common.{◌≡◌, ℕ, zero, suc, ◌≤◌, Bool, true, false, cond, List, [], ◌∷◌, ◌++◌, length, drop, ◌+◌, ◌-◌, Option, Some, None, Ok, Err, refl, sym, ap, subst, ◌∙◌, append_assoc, arith}
use Rattle.std.specs.Prelude.{codes, ◌||◌}
use Rattle.std.specs.List.{list_all, list_any}
use Rattle.gx_model.specs.Texts.{Bytes}
use Rattle.gx_model.specs.Faults.{Given, ◌>>=◌}
use Rattle.gx_model.specs.Streams.Items.{Item, Line, Data, End, Finished, Failed, Stream}
use Rattle.gx_model.specs.Streams.Commands.{Change, Command, CommitIsh}
use Rattle.gx_model.specs.Streams.Grammar.{where_of, suits, Where, AtMark, AtName, AtBlock, bytes_from, part_of, two_paths, modify_at, change_at, changes_within, changes, merges_within, merges, item_after_in, item_after, unsigned_in, unsigned, blob_at, links_at, commit_at, tag_at, reset_at, if_early, command_at, asks_done, is_done, is_option}
use Rattle.gx_model.specs.Streams.Lines.{Read, Words, at_end, after, words_of, is_word, rest_of, bare, rest_line_in, rest_line, read_some, optional, read_needed, needed, block_in, block, mark_of, any_text, encoding_of, ident_of, ref_of, tag_of, commit_ish_of, feature_of, mode_of, last_path}
use Rattle.std.proofs.lemmas.List.{length-append}
use Rattle.std.proofs.Math.Seq.{drop-append_seam}
use Rattle.gx_model.specs.declared.faults.Fault.{Fault}
use Rattle.gx_command.specs.Behind.{CountsLeft, Passes, TellsLeft, from_next, last_of, left_behind, next_behind, or_missing_done, past_empty}
use Rattle.gx_command.specs.Heads.{first, first_in, there}
use Rattle.gx_command.proofs.PassedCommands.{left_by, left_next, left_over, left_zero}

-- these are the last of those
abbrev pub AreLast : Stream → Stream → Type 0
AreLast t s = (front : List Item) × (s.items ≡ front ++ t.items) × (s.end ≡ t.end)

abbrev pub Ends : {A : Type 0} → Read A → Stream → Type 0
Ends (Ok x) s = AreLast x.1 s
Ends (Err f) s = Unit {0}

abbrev pub EndsIf : {A : Type 0} → Option (Read A) → Stream → Type 0
EndsIf None s = Unit {0}
EndsIf (Some read) s = Ends read s

all_last : (s : Stream) → AreLast s s
all_last s = ([], refl, refl)

last_of_last : (s t u : Stream) → AreLast t s → AreLast u t → AreLast u s
last_of_last s t u (front, e, same) (more, h, alike) = (front ++ more, e ∙ ap (λ items. front ++ items) h ∙ sym (append_assoc front more u.items), same ∙ alike)

but_one : (i : Item) (more : List Item) (s : Stream) → s.items ≡ i ∷ more → AreLast (after more s) s
but_one i more s is = (i ∷ [], is, refl)

-- ---- one after another

still_last : {A : Type 0} (r : Read A) (s t : Stream) → Ends r t → AreLast t s → Ends r s
still_last (Ok x) s t h k = last_of_last s t x.1 k h
still_last (Err f) s t h k = tt

then_ends : {A B : Type 0} (r : Read A) (k : A × Stream → Read B) (s : Stream) → Ends r s → ((x : A × Stream) → Ends (k x) x.1) → Ends (r >>= k) s
then_ends (Ok x) k s h rest = still_last (k x) s x.1 (rest x) h
then_ends (Err f) k s h rest = tt

given_ends : {A B : Type 0} (g : Given A) (k : A → Read B) (s : Stream) → ((x : A) → Ends (k x) s) → Ends (g >>= k) s
given_ends (Ok x) k s rest = rest x
given_ends (Err f) k s rest = tt

given_ends_at : {A B : Type 0} (g : Given A) (k : A → B) (s t : Stream) → AreLast t s → Ends (g >>= λ x. Ok (k x, t)) s
given_ends_at (Ok x) k s t h = h
given_ends_at (Err f) k s t h = tt

all_left : {A : Type 0} (x : A) (s : Stream) → Ends (Ok (x, s)) s
all_left x s = all_last _

end_ends : {A : Type 0} (e : End) (r : Read A) (s : Stream) → Ends r s → Ends (at_end e r) s
end_ends Finished r s h = h
end_ends (Failed f) r s h = tt

choice_ends : {A : Type 0} (b : Bool) (r q : Read A) (s : Stream) → Ends r s → Ends q s → Ends (cond b r q) s
choice_ends true r q s h k = h
choice_ends false r q s h k = k

-- ---- lines and blocks

none_taken : (s : Stream) → Ends {A = Option Bytes} (Ok (None, s)) s
none_taken s = all_last _

unit_taken : (s : Stream) → Ends {A = Unit {0}} (Ok (tt, s)) s
unit_taken s = all_last _

rest_line_ends : (name : Bytes) (items : List Item) (s : Stream) → s.items ≡ items → Ends (rest_line_in name items s) s
unfolding rest_line_in
rest_line_ends name [] s is = end_ends s.end (Ok (None, s)) s (none_taken s)
rest_line_ends name (Data b ∷ more) s is = none_taken s
rest_line_ends name (Line l ∷ more) s is = choice_ends (is_word (words_of l) name) (rest_of (words_of l) >>= λ r. Ok (Some r, after more s)) (Ok (None, s)) s (given_ends_at (rest_of (words_of l)) (λ r. Some r) s (after more s) (but_one _ more s is)) (none_taken s)

optional_ends : {A : Type 0} (name : Bytes) (read : Bytes → Given A) (s : Stream) → Ends (optional name read s) s
optional_ends name read s = then_ends (rest_line name s) (λ r. read_some read r.0 >>= λ x. Ok (x, r.1)) s (rest_line_ends name s.items s refl) (λ r. given_ends_at (read_some read r.0) (λ x. x) r.1 r.1 (all_last _))

needed_ends : {A : Type 0} (name : Bytes) (read : Bytes → Given A) (s : Stream) → Ends (needed name read s) s
needed_ends name read s = then_ends (rest_line name s) (λ r. read_needed read r.0 >>= λ x. Ok (x, r.1)) s (rest_line_ends name s.items s refl) (λ r. given_ends_at (read_needed read r.0) (λ x. x) r.1 r.1 (all_last _))

block_in_ends : (items : List Item) (s : Stream) → s.items ≡ items → Ends (block_in items s) s
unfolding block_in
block_in_ends [] s is = end_ends s.end (Err _) s tt
block_in_ends (Line l ∷ more) s is = tt
block_in_ends (Data b ∷ more) s is = but_one _ more s is

block_ends : (s : Stream) → Ends (block s) s
block_ends s = block_in_ends s.items s refl

item_after_in_ends : (items : List Item) (s : Stream) → s.items ≡ items → Ends (item_after_in items s) s
unfolding item_after_in
item_after_in_ends [] s is = end_ends s.end (Ok (tt, s)) s (unit_taken s)
item_after_in_ends (Data b ∷ more) s is = unit_taken s
item_after_in_ends (Line [] ∷ more) s is = but_one _ more s is
item_after_in_ends (Line (b ∷ bs) ∷ more) s is = unit_taken s

item_after_ends : (s : Stream) → Ends (item_after s) s
item_after_ends s = item_after_in_ends s.items s refl

unsigned_in_ends : (items : List Item) (s : Stream) → s.items ≡ items → Ends (unsigned_in items s) s
unfolding unsigned_in
unsigned_in_ends [] s is = end_ends s.end (Ok (tt, s)) s (unit_taken s)
unsigned_in_ends (Data b ∷ more) s is = unit_taken s
unsigned_in_ends (Line l ∷ more) s is = choice_ends (is_word (words_of l) (codes "gpgsig")) (Err _) (Ok (tt, s)) s tt (unit_taken s)

unsigned_ends : (s : Stream) → Ends (unsigned s) s
unsigned_ends s = unsigned_in_ends s.items s refl

-- ---- changes

bytes_end : (w : Where) (s : Stream) → Ends (bytes_from w s) s
bytes_end (AtMark n) s = all_last _
bytes_end (AtName ds) s = all_last _
bytes_end AtBlock s = then_ends (block s) (λ b. Ok (_, b.1)) s (block_ends s) (λ b. all_last _)

modify_ends : (bs : Bytes) (s : Stream) → Ends (modify_at bs s) s
unfolding modify_at
modify_ends bs s =
    given_ends (mode_of (part_of bs).word) _ s (λ mode.
    given_ends (rest_of (part_of bs) >>= λ r. Ok (part_of r)) _ s (λ second.
    given_ends (where_of second.word) _ s (λ at.
    given_ends (suits mode at) _ s (λ fits.
    given_ends (rest_of second >>= last_path) _ s (λ path.
    then_ends (bytes_from at s) _ s (bytes_end at s) (λ bytes. all_last _))))))

choice_ends_if : {A : Type 0} (b : Bool) (r q : Option (Read A)) (s : Stream) → EndsIf r s → EndsIf q s → EndsIf (cond b r q) s
choice_ends_if true r q s h k = h
choice_ends_if false r q s h k = k

change_ends : (w : Words) (s : Stream) → EndsIf (change_at w s) s
unfolding change_at
change_ends w s =
    choice_ends_if (is_word w (codes "M")) (Some (rest_of w >>= λ r. modify_at r s)) _ s (given_ends (rest_of w) (λ r. modify_at r s) s (λ r. modify_ends r s))
    (choice_ends_if (is_word w (codes "D")) _ _ s (given_ends (rest_of w) _ s (λ r. given_ends_at (last_path r) _ s s (all_last _)))
    (choice_ends_if (is_word w (codes "C")) _ _ s (given_ends (rest_of w) _ s (λ r. given_ends_at (two_paths r) _ s s (all_last _)))
    (choice_ends_if (is_word w (codes "R")) _ _ s (given_ends (rest_of w) _ s (λ r. given_ends_at (two_paths r) _ s s (all_last _)))
    (choice_ends_if (is_word w (codes "deleteall")) _ _ s (given_ends_at (bare w) _ s s (all_last _))
    (choice_ends_if (is_word w (codes "N")) _ _ s tt tt)))))

changes_within_end : (n : ℕ) (items : List Item) (s : Stream) → s.items ≡ items → Ends (changes_within n items s) s
unfolding changes_within
changes_within_end n [] s is = end_ends s.end (Ok ([], s)) s (all_left {A = List Change} [] s)
changes_within_end zero (i ∷ more) s is = all_left {A = List Change} [] s
changes_within_end (suc n) (Data b ∷ more) s is = all_left {A = List Change} [] s
changes_within_end (suc n) (Line l ∷ more) s is = by (change_at (words_of l) (after more s)) refl (λ t. changes_within_end n t.items t refl) where
  by : (c : Option (Read Change)) → change_at (words_of l) (after more s) ≡ c → ((t : Stream) → Ends (changes_within n t.items t) t) → Ends (changes_within (suc n) (Line l ∷ more) s) s
  by None e again = rw e (all_left {A = List Change} [] s)
  by (Some read) e again = rw e (still_last _ s (after more s) (then_ends read _ (after more s) (subst (λ c. EndsIf c (after more s)) e (change_ends (words_of l) (after more s))) (λ x. then_ends (changes_within n x.1.items x.1) _ x.1 (again x.1) (λ xs. all_last _))) (but_one _ more s is))

changes_end : (s : Stream) → Ends (changes s) s
changes_end s = changes_within_end (length s.items) s.items s refl

merges_within_end : (n : ℕ) (s : Stream) → Ends (merges_within n s) s
unfolding merges_within
merges_within_end zero s = all_left {A = List CommitIsh} [] s
merges_within_end (suc n) s = by (optional (codes "merge") commit_ish_of s) refl (merges_within_end n) where
  left : (r : Read (Option CommitIsh)) → optional (codes "merge") commit_ish_of s ≡ r → Ends r s
  left r e = subst (λ q. Ends q s) e (optional_ends (codes "merge") commit_ish_of s)

  by : (r : Read (Option CommitIsh)) → optional (codes "merge") commit_ish_of s ≡ r → ((t : Stream) → Ends (merges_within n t) t) → Ends (merges_within (suc n) s) s
  by (Err f) e again = rw e tt
  by (Ok (None, t)) e again = rw e (left (Ok (None, t)) e)
  by (Ok (Some c, t)) e again = rw e (still_last _ s t (then_ends (merges_within n t) _ t (again t) (λ xs. all_last _)) (left (Ok (Some c, t)) e))

merges_end : (s : Stream) → Ends (merges s) s
merges_end s = merges_within_end (suc (length s.items)) s

-- ---- commands

blob_ends : (s : Stream) → Ends (blob_at s) s
unfolding blob_at
blob_ends s =
    then_ends (optional (codes "mark") mark_of s) _ s (optional_ends (codes "mark") mark_of s) (λ mark.
    then_ends (optional (codes "original-oid") any_text mark.1) _ mark.1 (optional_ends (codes "original-oid") any_text mark.1) (λ oid.
    then_ends (block oid.1) _ oid.1 (block_ends oid.1) (λ bytes. all_last _)))

links_end : (s : Stream) → Ends (links_at s) s
unfolding links_at
links_end s =
    then_ends (optional (codes "from") commit_ish_of s) _ s (optional_ends (codes "from") commit_ish_of s) (λ parent.
    then_ends (merges parent.1) _ parent.1 (merges_end parent.1) (λ merged.
    then_ends (changes merged.1) _ merged.1 (changes_end merged.1) (λ changed.
    then_ends (item_after changed.1) _ changed.1 (item_after_ends changed.1) (λ ended. all_last _))))

commit_ends : (ref : Bytes) (s : Stream) → Ends (commit_at ref s) s
unfolding commit_at
commit_ends ref s =
    then_ends (optional (codes "mark") mark_of s) _ s (optional_ends (codes "mark") mark_of s) (λ mark.
    then_ends (optional (codes "original-oid") any_text mark.1) _ mark.1 (optional_ends (codes "original-oid") any_text mark.1) (λ oid.
    then_ends (optional (codes "author") ident_of oid.1) _ oid.1 (optional_ends (codes "author") ident_of oid.1) (λ author.
    then_ends (needed (codes "committer") ident_of author.1) _ author.1 (needed_ends (codes "committer") ident_of author.1) (λ committer.
    then_ends (unsigned committer.1) _ committer.1 (unsigned_ends committer.1) (λ plain.
    then_ends (optional (codes "encoding") encoding_of plain.1) _ plain.1 (optional_ends (codes "encoding") encoding_of plain.1) (λ encoding.
    then_ends (block encoding.1) _ encoding.1 (block_ends encoding.1) (λ message.
    then_ends (links_at message.1) _ message.1 (links_end message.1) (λ links. all_last _))))))))

tag_ends : (name : Bytes) (s : Stream) → Ends (tag_at name s) s
unfolding tag_at
tag_ends name s =
    then_ends (optional (codes "mark") mark_of s) _ s (optional_ends (codes "mark") mark_of s) (λ mark.
    then_ends (needed (codes "from") commit_ish_of mark.1) _ mark.1 (needed_ends (codes "from") commit_ish_of mark.1) (λ target.
    then_ends (optional (codes "original-oid") any_text target.1) _ target.1 (optional_ends (codes "original-oid") any_text target.1) (λ oid.
    then_ends (optional (codes "tagger") ident_of oid.1) _ oid.1 (optional_ends (codes "tagger") ident_of oid.1) (λ tagger.
    then_ends (block tagger.1) _ tagger.1 (block_ends tagger.1) (λ message. all_last _)))))

reset_ends : (ref : Bytes) (s : Stream) → Ends (reset_at ref s) s
unfolding reset_at
reset_ends ref s =
    then_ends (optional (codes "from") commit_ish_of s) _ s (optional_ends (codes "from") commit_ish_of s) (λ parent.
    then_ends (item_after parent.1) _ parent.1 (item_after_ends parent.1) (λ ended. all_last _))

early_ends : {A : Type 0} (early : Bool) (g : Given A) (k : A → Command) (s : Stream) → Ends (if_early early (g >>= λ x. Ok (k x, s))) s
early_ends true g k s = given_ends_at g k s s (all_last _)
early_ends false g k s = tt

early_ends_all : {A : Type 0} (early : Bool) (x : A) (s : Stream) → Ends (if_early early (Ok (x, s))) s
early_ends_all true x s = all_last _
early_ends_all false x s = tt

command_ends : (early : Bool) (w : Words) (s : Stream) → Ends (command_at early w s) s
unfolding command_at
command_ends early w s =
    choice_ends (is_word w (codes "blob")) _ _ s (given_ends (bare w) _ s (λ u. blob_ends s))
    (choice_ends (is_word w (codes "commit")) _ _ s (given_ends (rest_of w) _ s (λ r. given_ends (ref_of r) _ s (λ ref. commit_ends ref s)))
    (choice_ends (is_word w (codes "tag")) _ _ s (given_ends (rest_of w) _ s (λ r. given_ends (tag_of r) _ s (λ name. tag_ends name s)))
    (choice_ends (is_word w (codes "reset")) _ _ s (given_ends (rest_of w) _ s (λ r. given_ends (ref_of r) _ s (λ ref. reset_ends ref s)))
    (choice_ends (is_word w (codes "checkpoint")) _ _ s (given_ends_at (bare w) _ s s (all_last _))
    (choice_ends (is_word w (codes "progress")) _ _ s (given_ends_at (rest_of w) _ s s (all_last _))
    (choice_ends (is_word w (codes "feature")) _ _ s (given_ends (rest_of w) _ s (λ r. early_ends early (feature_of r) _ s))
    (choice_ends (is_word w (codes "option")) _ _ s (given_ends (rest_of w) _ s (λ r. early_ends_all early _ s))
    (choice_ends (is_word w (codes "done")) _ _ s (given_ends_at (bare w) _ s s (all_last _))
    (choice_ends (is_word w (codes "ls") || is_word w (codes "cat-blob") || is_word w (codes "get-mark") || is_word w (codes "alias")) _ _ s tt tt)))))))))

-- ---- the command that comes next, and those after it

first_in_ends : (early : Bool) (items : List Item) (s : Stream) → s.items ≡ items → Ends (first_in early items s) s
unfolding first_in
first_in_ends early [] s is = end_ends s.end (Ok (None, s)) s (all_last s)
first_in_ends early (Data b ∷ more) s is = tt
first_in_ends early (Line [] ∷ more) s is = still_last (first_in early more (after more s)) s (after more s) (first_in_ends early more (after more s) refl) (but_one _ more s is)
first_in_ends early (Line (b ∷ bs) ∷ more) s is =
    let read = command_at early (words_of (b ∷ bs)) (after more s) in
    still_last (there read) s (after more s) (then_ends read _ (after more s) (command_ends early (words_of (b ∷ bs)) (after more s)) (λ c. all_last _)) (but_one _ more s is)

missing_ends : (before : List Command) (x : Option Command × Stream) → Ends (or_missing_done before x) x.1
missing_ends before (None, t) = choice_ends (list_any asks_done before) (Err _) (Ok (None, t)) t tt (all_last t)
missing_ends before (Some c, t) = all_last t

next_ends : (before : List Command) (s : Stream) → Ends (next_behind before s) s
next_ends before s =
    let early = list_all is_option before in
    then_ends (first early s) (or_missing_done before) s (first_in_ends early s.items s refl) (missing_ends before)

past_is_last : (items : List Item) → (front : List Item) × (items ≡ front ++ past_empty items)
past_is_last [] = ([], refl)
past_is_last (Data b ∷ more) = ([], refl)
past_is_last (Line [] ∷ more) = let past = past_is_last more in (Line [] ∷ past.0, ap (λ items. Line [] ∷ items) past.1)
past_is_last (Line (b ∷ bs) ∷ more) = ([], refl)

abbrev given : Option Stream → Given (Option Stream)
given x = Ok x

abbrev refused : Fault → Given (Option Stream)
refused f = Err f

-- what is left behind commands
behind_ends : (n : ℕ) (before : List Command) (s t : Stream) → left_behind n before s ≡ given (Some t) → AreLast t s
behind_ends zero before s t e =
    let past = past_is_last s.items in
    let same : from_next s ≡ t = the_same (from_next s) t (sym (left_zero before s) ∙ e) in
    subst (λ u. AreLast u s) same (past.0, past.1, refl)
  where
    the_same : (t u : Stream) → given (Some t) ≡ given (Some u) → t ≡ u
    the_same t u e = cc
behind_ends (suc n) before s t e = at (list_any is_done before) refl (λ more u. behind_ends n more u t) where
  fewer : given None ≡ given (Some t) → ⊥
  fewer e = cc

  fails : (f : Fault) → refused f ≡ given (Some t) → ⊥
  fails f e = cc

  by : (r : Read (Option Command)) → next_behind before s ≡ r → left_by n before r ≡ given (Some t) → ((more : List Command) (u : Stream) → left_behind n more u ≡ given (Some t) → AreLast t u) → AreLast t s
  by (Err f) is h again = absurd (fails f h)
  by (Ok (None, u)) is h again = absurd (fewer h)
  by (Ok (Some c, u)) is h again =
      let next : AreLast u s = subst (λ r. Ends r s) is (next_ends before s) in
      last_of_last s u t next (again (before ++ c ∷ []) u h)

  at : (over : Bool) → list_any is_done before ≡ over → ((more : List Command) (u : Stream) → left_behind n more u ≡ given (Some t) → AreLast t u) → AreLast t s
  at true over again = absurd (fewer (sym (left_over n before s over) ∙ e))
  at false over again = by (next_behind before s) refl (sym (left_next n before s over) ∙ e) again

-- ---- by their number

last_items : (front items : List Item) → drop (length (front ++ items) - length items) (front ++ items) ≡ items
last_items front items =
    let front_only : length (front ++ items) - length items ≡ length front = omega (arith, length-append front items) in
    ap (λ k. drop k (front ++ items)) front_only ∙ drop-append_seam front items

by_number : (s t : Stream) → AreLast t s → (length t.items ≤ length s.items) × (t ≡ last_of s (length t.items))
by_number s t (front, e, same) =
    let long : length s.items ≡ length front + length t.items = ap length e ∙ length-append front t.items in
    let items : drop (length s.items - length t.items) s.items ≡ t.items = ap (λ xs. drop (length xs - length t.items) xs) e ∙ last_items front t.items in
    (omega (arith, long), sym (ap (λ xs. record { items = xs; end = s.end }) items ∙ ap (λ end. record { items = t.items; end = end }) same))

pub tells_behind : (n m : ℕ) (old mid : Option Stream) → Passes n old mid (Ok true) → CountsLeft mid (Ok m) → TellsLeft n old (Ok (Some m))
tells_behind n m None mid h k = tt
tells_behind n m (Some s) mid (t, is, e) k =
    let count : length (past_empty t.items) ≡ m = subst (λ m'. CountsLeft m' (Ok m)) is k in
    let last = by_number s (from_next t) (behind_ends n [] s (from_next t) e) in
    subst (λ m. TellsLeft n (Some s) (Ok (Some m))) count (last.0, e ∙ ap (λ left. given (Some left)) last.1)
