-- The commands that are read of a stream are proper.
use Rattle.std.proofs.Common.{◌≡◌, ℕ, zero, suc, Bool, true, false, cond, List, [], ◌∷◌, ◌++◌, length, Option, None, Some, Ok, Err, refl, sym, subst, codes}
use Rattle.std.specs.Prelude.{IfOk, IfSome, IsTrue, ◌||◌, ◌==◌, nat_le, ⊤}
use Rattle.std.specs.List.{AllByRecursion, list_all}
use Rattle.std.specs.Str.{bytes_eq}
use Rattle.std.specs.Bool.{passes}
use Rattle.gx_model.specs.declared.faults.Fault.TheVariants as faults
use Rattle.gx_model.specs.declared.objects.Mode.{Mode}
use Rattle.gx_model.specs.declared.objects.Mode.TheVariants.{File, Exec, Link, Gitlink, Dir}
use Rattle.gx_model.specs.Texts.{Bytes}
use Rattle.gx_model.specs.Texts.RefNames.{is_ref_name, is_tag_name}
use Rattle.gx_model.specs.Faults.{Given, ◌>>=◌}
use Rattle.gx_model.specs.Texts.Paths.{Path, is_component, is_quoted, parts_of, path_at, path_of, quoted_of, unquote, with_rest}
use Rattle.gx_model.specs.Streams.Items.{Data, End, Item, Line, Stream}
use Rattle.gx_model.specs.Streams.Commands.{Change, Command, CommitIsh, DataRef, Modify}
use Rattle.gx_model.specs.Streams.Grammar.{AtBlock, AtMark, AtName, Where, blob_at, bytes_from, change_at, changes, changes_within, command_at, commands_within, commit_at, if_early, is_done, is_option, item_after, links_at, merges, modify_at, part_of, reset_at, stops, suits, tag_at, two_paths, unsigned, where_by, where_of, with_command}
use Rattle.gx_model.specs.Streams.Lines.{Read, after, any_text, bare, block, commit_ish_of, encoding_of, feature_of, ident_of, is_null, is_word, last_path, mark_of, mode_of, needed, optional, ref_of, rest_of, source_path, tag_of, words_of, Words, colon_number}
use Rattle.gx_model.specs.Texts.Digits.{is_any_name_text}
use Rattle.gx_model.specs.Replay.ProperReplays.{IsProperChange, IsProperCommand, IsWholePath, StreamsAreProper}
use Rattle.gx_model.proofs.Texts.HeaderTexts.{encoding_is_headers}
use Rattle.gx_model.proofs.Texts.PathTests.{both, is_true}
use Rattle.gx_model.proofs.Texts.PathTexts.{text_of_parts}
use Rattle.gx_model.proofs.Replay.NullGitlinks.{then_if}
use Rattle.gx_model.proofs.Streams.ReadGitlinks.{end_given}
use Rattle.gx_model.proofs.Streams.ReadLines.{IsEncodingRead, IsIdentRead, encoding_given, ident_given, if_either, if_passes, maybe_encoding, maybe_ident, needed_given, optional_given, then_any}

-- ---- paths

path_given : (bs : Bytes) → IfOk (path_of bs) IsWholePath
path_given bs = by (list_all is_component (parts_of bs)) refl
  where
    short : (b c : Bool) → list_all is_component (parts_of bs) ≡ true → nat_le (length bs) 4095 ≡ c → IfOk (cond c (Ok (parts_of bs)) (Err faults.PathTooLong)) IsWholePath
    short b true h k = is_true _ (both _ _ (passes _ h) (passes _ (subst (λ text. nat_le (length text) 4095 ≡ true) (sym (text_of_parts bs)) k)))
    short b false h k = tt

    by : (b : Bool) → list_all is_component (parts_of bs) ≡ b → IfOk (cond b (cond (nat_le (length bs) 4095) (Ok (parts_of bs)) (Err faults.PathTooLong)) (Err faults.BadPath)) IsWholePath
    by true h = short true (nat_le (length bs) 4095) h refl
    by false h = tt

abbrev WithPath : Path × Bytes → Type 0
WithPath read = IsWholePath read.0

quoted_given : (bs : Bytes) → IfOk (quoted_of bs) WithPath
unfolding quoted_of
quoted_given bs = by (unquote bs)
  where
    rest : (after : Bytes) (r : Given Path) → IfOk r IsWholePath → IfOk (with_rest after r) WithPath
    rest after (Ok p) h = h
    rest after (Err f) h = tt

    by : (o : Option (Bytes × Bytes)) → IfOk (path_at o) WithPath
    by None = tt
    by (Some p) = rest p.1 (path_of p.0) (path_given p.0)

last_given : (bs : Bytes) → IfOk (last_path bs) IsWholePath
unfolding last_path
last_given bs =
    if_either IsWholePath (is_quoted bs) _ _
    (then_if WithPath IsWholePath (quoted_of bs) _ (quoted_given bs) (λ p h. if_either IsWholePath (length p.1 == 0) _ _ h tt))
    (path_given bs)

abbrev WithDestination : Path × Path → Type 0
WithDestination paths = IsWholePath paths.1

two_given : (bs : Bytes) → IfOk (two_paths bs) WithDestination
unfolding two_paths
two_given bs = then_any WithDestination (source_path bs) _ (λ source. then_if IsWholePath WithDestination (last_path source.1) _ (last_given source.1) (λ p h. h))

-- ---- changes

abbrev IsNamedWhere : Where → Type 0
IsNamedWhere (AtMark n) = ⊤
IsNamedWhere (AtName digits) = IsTrue (is_any_name_text digits)
IsNamedWhere AtBlock = ⊤

abbrev IsFileMode : Mode → Type 0
IsFileMode Dir = ⊥
IsFileMode File = ⊤
IsFileMode Exec = ⊤
IsFileMode Link = ⊤
IsFileMode Gitlink = ⊤

abbrev Gives : Change × Stream → Type 0
Gives x = IsProperChange x.0

mode_given : (bs : Bytes) → IfOk (mode_of bs) IsFileMode
mode_given bs =
    if_either IsFileMode (bytes_eq bs (codes "100644") || bytes_eq bs (codes "644")) _ _ tt
    (if_either IsFileMode (bytes_eq bs (codes "100755") || bytes_eq bs (codes "755")) _ _ tt
    (if_either IsFileMode (bytes_eq bs (codes "120000")) _ _ tt
    (if_either IsFileMode (bytes_eq bs (codes "160000")) _ _ tt
    (if_either IsFileMode (bytes_eq bs (codes "040000") || bytes_eq bs (codes "40000")) _ _ tt tt))))

where_given : (bs : Bytes) → IfOk (where_of bs) IsNamedWhere
where_given bs = by (colon_number bs)
  where
    by : (o : Option (Given ℕ)) → IfOk (where_by bs o) IsNamedWhere
    by (Some (Ok n)) = tt
    by (Some (Err e)) = tt
    by None =
        if_either IsNamedWhere (bytes_eq bs (codes "inline")) _ _ tt
        (if_either IsNamedWhere (is_null bs) _ _ tt (if_passes IsNamedWhere (is_any_name_text bs) (Ok (AtName bs)) faults.BadLine (λ h. h)))

abbrev with_bytes : Mode → Path → DataRef × Stream → Read Change
with_bytes m path bytes = Ok (Modify m bytes.0 path, bytes.1)

abbrev then_bytes : Mode → Where → Stream → Path → Read Change
then_bytes m at s path = bytes_from at s >>= with_bytes m path

suited : (m : Mode) (at : Where) (s : Stream) (path : Given Path) → IsFileMode m → IsNamedWhere at → IfOk path IsWholePath → IfOk (suits m at >>= λ fits. path >>= then_bytes m at s) Gives
suited Gitlink (AtMark n) s path f h k = tt
suited Gitlink AtBlock s path f h k = tt
suited Gitlink (AtName ds) s path f h k = then_if IsWholePath Gives path (then_bytes Gitlink (AtName ds) s) k (λ p w. (h, w))
suited File at s path f h k = then_if IsWholePath Gives path (then_bytes File at s) k (λ p w. then_any Gives (bytes_from at s) (with_bytes File p) (λ b. (tt, w)))
suited Exec at s path f h k = then_if IsWholePath Gives path (then_bytes Exec at s) k (λ p w. then_any Gives (bytes_from at s) (with_bytes Exec p) (λ b. (tt, w)))
suited Link at s path f h k = then_if IsWholePath Gives path (then_bytes Link at s) k (λ p w. then_any Gives (bytes_from at s) (with_bytes Link p) (λ b. (tt, w)))
suited Dir at s path f h k = absurd f

modify_given : (bs : Bytes) (s : Stream) → IfOk (modify_at bs s) Gives
unfolding modify_at
modify_given bs s =
    then_if IsFileMode Gives (mode_of (part_of bs).word) _ (mode_given (part_of bs).word)
    (λ m f. then_any Gives (rest_of (part_of bs) >>= λ r. Ok (part_of r)) _
    (λ second. then_if IsNamedWhere Gives (where_of second.word) _ (where_given second.word)
    (λ at h. suited m at s (rest_of second >>= last_path) f h (then_any IsWholePath (rest_of second) last_path last_given))))

abbrev IfGives : Option (Read Change) → Type 0
IfGives o = IfSome o (λ r. IfOk r Gives)

if_given : (b : Bool) (o p : Option (Read Change)) → IfGives o → IfGives p → IfGives (cond b o p)
if_given true o p h k = h
if_given false o p h k = k

change_given : (w : Words) (s : Stream) → IfGives (change_at w s)
unfolding change_at
change_given w s =
    if_given (is_word w (codes "M")) _ _ (then_any Gives (rest_of w) (λ r. modify_at r s) (λ r. modify_given r s))
    (if_given (is_word w (codes "D")) _ _ (then_any Gives (rest_of w) _ (λ r. then_any Gives (last_path r) _ (λ p. tt)))
    (if_given (is_word w (codes "C")) _ _ (then_any Gives (rest_of w) _ (λ r. then_if WithDestination Gives (two_paths r) _ (two_given r) (λ p h. h)))
    (if_given (is_word w (codes "R")) _ _ (then_any Gives (rest_of w) _ (λ r. then_if WithDestination Gives (two_paths r) _ (two_given r) (λ p h. h)))
    (if_given (is_word w (codes "deleteall")) _ _ (then_any Gives (bare w) _ (λ u. tt))
    (if_given (is_word w (codes "N")) _ _ tt tt)))))

abbrev AllGive : List Change × Stream → Type 0
AllGive x = AllByRecursion IsProperChange x.0

more_given : (r : Read Change) (again : Stream → Read (List Change)) → IfOk r Gives → ((t : Stream) → IfOk (again t) AllGive) → IfOk (r >>= λ x. again x.1 >>= λ xs. Ok (x.0 ∷ xs.0, xs.1)) AllGive
more_given r again h k = then_if Gives AllGive r _ h (λ x g. then_if AllGive AllGive (again x.1) _ (k x.1) (λ xs l. (g, l)))

changes_given : (n : ℕ) (items : List Item) (s : Stream) → IfOk (changes_within n items s) AllGive
unfolding changes_within
changes_given n [] s = end_given AllGive s.end (Ok ([], s)) tt
changes_given zero (i ∷ more) s = tt
changes_given (suc n) (Data b ∷ more) s = tt
changes_given (suc n) (Line l ∷ more) s = by (change_at (words_of l) (after more s)) refl (change_given (words_of l) (after more s)) (λ t. changes_given n t.items t)
  where
    by : (o : Option (Read Change)) → change_at (words_of l) (after more s) ≡ o → IfGives o → ((t : Stream) → IfOk (changes_within n t.items t) AllGive) → IfOk (changes_within (suc n) (Line l ∷ more) s) AllGive
    by None e h again = rw e tt
    by (Some r) e h again = rw e (more_given r (λ t. changes_within n t.items t) h again)

-- ---- commands

abbrev Brings : Command × Stream → Type 0
Brings x = IsProperCommand x.0

blob_given : (s : Stream) → IfOk (blob_at s) Brings
unfolding blob_at
blob_given s =
    then_any Brings (optional (codes "mark") mark_of s) _ (λ mark. then_any Brings (optional (codes "original-oid") any_text mark.1) _ (λ oid. then_any Brings (block oid.1) _ (λ bytes. tt)))

tag_given : (name : Bytes) (s : Stream) → IsTrue (is_tag_name name) → IfOk (tag_at name s) Brings
unfolding tag_at
tag_given name s is =
    then_any Brings (optional (codes "mark") mark_of s) _ (λ mark. then_any Brings (needed (codes "from") commit_ish_of mark.1) _
    (λ target. then_any Brings (optional (codes "original-oid") any_text target.1) _
    (λ oid. then_if (λ x. IfSome x.0 IsIdentRead) Brings (optional (codes "tagger") ident_of oid.1) _ (optional_given IsIdentRead (codes "tagger") ident_of ident_given oid.1)
    (λ tagger t. then_any Brings (block tagger.1) _ (λ message. record { name = is; tagger = maybe_ident tagger.0 t })))))

reset_given : (ref : Bytes) (s : Stream) → IsTrue (is_ref_name ref) → IfOk (reset_at ref s) Brings
unfolding reset_at
reset_given ref s is = then_any Brings (optional (codes "from") commit_ish_of s) _ (λ parent. then_any Brings (item_after parent.1) _ (λ ended. is))

abbrev LinksGive : (Option CommitIsh × (List CommitIsh × List Change)) × Stream → Type 0
LinksGive x = AllByRecursion IsProperChange x.0.1.1

links_given : (s : Stream) → IfOk (links_at s) LinksGive
unfolding links_at
links_given s =
    then_any LinksGive (optional (codes "from") commit_ish_of s) _ (λ parent. then_any LinksGive (merges parent.1) _
    (λ merged. then_if AllGive LinksGive (changes merged.1) _ (changes_given _ merged.1.items merged.1) (λ changed h. then_any LinksGive (item_after changed.1) _ (λ ended. h))))

commit_given : (ref : Bytes) (s : Stream) → IsTrue (is_ref_name ref) → IfOk (commit_at ref s) Brings
unfolding commit_at
commit_given ref s is =
    then_any Brings (optional (codes "mark") mark_of s) _ (λ mark. then_any Brings (optional (codes "original-oid") any_text mark.1) _
    (λ oid. then_if (λ x. IfSome x.0 IsIdentRead) Brings (optional (codes "author") ident_of oid.1) _ (optional_given IsIdentRead (codes "author") ident_of ident_given oid.1)
    (λ author a. then_if (λ x. IsIdentRead x.0) Brings (needed (codes "committer") ident_of author.1) _ (needed_given IsIdentRead (codes "committer") ident_of ident_given author.1)
    (λ committer c. then_any Brings (unsigned committer.1) _
    (λ plain. then_if (λ x. IfSome x.0 IsEncodingRead) Brings (optional (codes "encoding") encoding_of plain.1) _ (optional_given IsEncodingRead (codes "encoding") encoding_of encoding_given plain.1)
    (λ encoding e. then_any Brings (block encoding.1) _
    (λ message. then_if LinksGive Brings (links_at message.1) _ (links_given message.1)
    (λ links h. record { ref = is; author = maybe_ident author.0 a; committer = c; headers = encoding_is_headers encoding.0 (maybe_encoding encoding.0 e); changes = h }))))))))

early_given : (b : Bool) (r : Read Command) → IfOk r Brings → IfOk (if_early b r) Brings
early_given true r h = h
early_given false r h = tt

abbrev IsRefRead : Bytes → Type 0
IsRefRead ref = IsTrue (is_ref_name ref)

abbrev IsTagRead : Bytes → Type 0
IsTagRead name = IsTrue (is_tag_name name)

ref_given : (bs : Bytes) → IfOk (ref_of bs) IsRefRead
ref_given bs = if_passes IsRefRead (is_ref_name bs) (Ok bs) faults.BadRefName (λ h. h)

name_given : (bs : Bytes) → IfOk (tag_of bs) IsTagRead
name_given bs = if_passes IsTagRead (is_tag_name bs) (Ok bs) faults.BadRefName (λ h. h)

command_given : (early : Bool) (w : Words) (s : Stream) → IfOk (command_at early w s) Brings
unfolding command_at
command_given early w s =
    if_either Brings (is_word w (codes "blob")) _ _ (then_any Brings (bare w) _ (λ u. blob_given s))
    (if_either Brings (is_word w (codes "commit")) _ _ (then_any Brings (rest_of w) _ (λ r. then_if IsRefRead Brings (ref_of r) _ (ref_given r) (λ ref is. commit_given ref s is)))
    (if_either Brings (is_word w (codes "tag")) _ _ (then_any Brings (rest_of w) _ (λ r. then_if IsTagRead Brings (tag_of r) _ (name_given r) (λ name is. tag_given name s is)))
    (if_either Brings (is_word w (codes "reset")) _ _ (then_any Brings (rest_of w) _ (λ r. then_if IsRefRead Brings (ref_of r) _ (ref_given r) (λ ref is. reset_given ref s is)))
    (if_either Brings (is_word w (codes "checkpoint")) _ _ (then_any Brings (bare w) _ (λ u. tt))
    (if_either Brings (is_word w (codes "progress")) _ _ (then_any Brings (rest_of w) _ (λ r. tt))
    (if_either Brings (is_word w (codes "feature")) _ _ (then_any Brings (rest_of w) _ (λ r. early_given early _ (then_any Brings (feature_of r) _ (λ f. tt))))
    (if_either Brings (is_word w (codes "option")) _ _ (then_any Brings (rest_of w) _ (λ r. early_given early _ tt))
    (if_either Brings (is_word w (codes "done")) _ _ (then_any Brings (bare w) _ (λ u. tt))
    (if_either Brings (is_word w (codes "ls") || is_word w (codes "cat-blob") || is_word w (codes "get-mark") || is_word w (codes "alias")) _ _ tt tt)))))))))

abbrev AllBring : List Command → Type 0
AllBring cs = AllByRecursion IsProperCommand cs

commands_given : (n : ℕ) (before : List Command) (items : List Item) (end : End) → AllBring (commands_within n before items end).list
unfolding commands_within
commands_given n before [] end = tt
commands_given zero before (i ∷ more) end = tt
commands_given (suc n) before (Data b ∷ more) end = tt
commands_given (suc n) before (Line [] ∷ more) end = commands_given n before more end
commands_given (suc n) before (Line (b ∷ bs) ∷ more) end =
    by (command_at (list_all is_option before) (words_of (b ∷ bs)) (record { items = more; end = end })) refl
    (command_given (list_all is_option before) (words_of (b ∷ bs)) (record { items = more; end = end })) (λ c t. commands_given n (before ++ c ∷ []) t.items t.end)
  where
    by : (r : Read Command) → command_at (list_all is_option before) (words_of (b ∷ bs)) (record { items = more; end = end }) ≡ r → IfOk r Brings
        → ((c : Command) (t : Stream) → AllBring (commands_within n (before ++ c ∷ []) t.items t.end).list) → AllBring (commands_within (suc n) before (Line (b ∷ bs) ∷ more) end).list
    by (Err f) e h again = rw e tt
    by (Ok x) e h again = rw e (last (is_done x.0))
      where
        last : (d : Bool) → AllBring (cond d (with_command x.0 (stops None)) (with_command x.0 (commands_within n (before ++ x.0 ∷ []) x.1.items x.1.end))).list
        last true = (h, tt)
        last false = (h, again x.0 x.1)

pub all_proper : StreamsAreProper
all_proper s = commands_given _ [] s.items s.end
