-- No command of a stream gives a gitlink of forty zeros, or a header that isn't that of an encoding.
use Rattle.std.proofs.Common.{◌≡◌, ℕ, zero, suc, Bool, true, false, cond, List, [], ◌∷◌, ◌++◌, Option, None, Some, Ok, Err, refl, codes}
use Rattle.std.specs.Prelude.{IfOk, IfSome, ◌||◌, ⊤}
use Rattle.std.specs.List.{AllByRecursion, list_all}
use Rattle.std.specs.Str.{bytes_eq}
use Rattle.gx_model.specs.declared.faults.Fault.TheVariants as faults
use Rattle.gx_model.specs.declared.objects.Mode.{Mode}
use Rattle.gx_model.specs.declared.objects.Mode.TheVariants.{File, Exec, Link, Gitlink, Dir}
use Rattle.gx_model.specs.Texts.{Bytes}
use Rattle.gx_model.specs.Faults.{Given, ◌>>=◌}
use Rattle.gx_model.specs.Texts.Paths.{Path}
use Rattle.gx_model.specs.Streams.Items.{Data, End, Failed, Finished, Item, Line, Stream}
use Rattle.gx_model.specs.Streams.Commands.{Change, Command, CommitIsh, DataRef, Modify}
use Rattle.gx_model.specs.Streams.Grammar.{AtBlock, AtMark, AtName, Where, blob_at, bytes_from, change_at, changes, changes_within, command_at, commands_within, commit_at, if_early, is_done, is_option, item_after, links_at, merges, modify_at, part_of, reset_at, stops, suits, tag_at, two_paths, unsigned, where_by, where_of, with_command}
use Rattle.gx_model.specs.Streams.Lines.{Read, after, any_text, at_end, bare, block, commit_ish_of, encoding_of, feature_of, ident_of, is_null, is_word, last_path, mark_of, mode_of, needed, optional, ref_of, rest_of, tag_of, words_of, Words, colon_number}
use Rattle.gx_model.specs.Texts.Digits.{is_any_name_text}
use Rattle.gx_model.specs.Streams.Gitlinks.{BringsSayable, GivesNoNullGitlink, StreamsBringNone}
use Rattle.gx_model.proofs.Replay.NullGitlinks.{then_if}
use Rattle.gx_model.proofs.Streams.ReadLines.{IsEncodingRead, encoding_given, if_either, maybe_encoding, optional_given, then_any}

-- ---- changes

abbrev IsNotAtNull : Where → Type 0
IsNotAtNull (AtMark n) = ⊤
IsNotAtNull (AtName digits) = is_null digits ≡ false
IsNotAtNull AtBlock = ⊤

abbrev Gives : Change × Stream → Type 0
Gives x = GivesNoNullGitlink x.0

where_given : (bs : Bytes) → IfOk (where_of bs) IsNotAtNull
where_given bs = by (colon_number bs)
  where
    named : (b : Bool) → is_null bs ≡ b → IfOk (cond b (Err faults.Unsupported) (cond (is_any_name_text bs) (Ok (AtName bs)) (Err faults.BadLine))) IsNotAtNull
    named true e = tt
    named false e = if_either IsNotAtNull (is_any_name_text bs) (Ok (AtName bs)) (Err faults.BadLine) e tt

    by : (o : Option (Given ℕ)) → IfOk (where_by bs o) IsNotAtNull
    by (Some (Ok n)) = tt
    by (Some (Err e)) = tt
    by None = if_either IsNotAtNull (bytes_eq bs (codes "inline")) (Ok AtBlock) (cond (is_null bs) (Err faults.Unsupported) (cond (is_any_name_text bs) (Ok (AtName bs)) (Err faults.BadLine))) tt (named (is_null bs) refl)

abbrev with_bytes : Mode → Path → DataRef × Stream → Read Change
with_bytes m path bytes = Ok (Modify m bytes.0 path, bytes.1)

abbrev then_bytes : Mode → Where → Stream → Path → Read Change
then_bytes m at s path = bytes_from at s >>= with_bytes m path

suited : (m : Mode) (at : Where) (s : Stream) (path : Given Path) → IsNotAtNull at → IfOk (suits m at >>= λ fits. path >>= then_bytes m at s) Gives
suited Gitlink (AtMark n) s path h = tt
suited Gitlink AtBlock s path h = tt
suited Gitlink (AtName ds) s path h = then_any Gives path (then_bytes Gitlink (AtName ds) s) (λ p. h)
suited File at s path h = then_any Gives path (then_bytes File at s) (λ p. then_any Gives (bytes_from at s) (with_bytes File p) (λ b. tt))
suited Exec at s path h = then_any Gives path (then_bytes Exec at s) (λ p. then_any Gives (bytes_from at s) (with_bytes Exec p) (λ b. tt))
suited Link at s path h = then_any Gives path (then_bytes Link at s) (λ p. then_any Gives (bytes_from at s) (with_bytes Link p) (λ b. tt))
suited Dir at s path h = then_any Gives path (then_bytes Dir at s) (λ p. then_any Gives (bytes_from at s) (with_bytes Dir p) (λ b. tt))

modify_given : (bs : Bytes) (s : Stream) → IfOk (modify_at bs s) Gives
unfolding modify_at
modify_given bs s =
    then_any Gives (mode_of (part_of bs).word) _
    (λ m. then_any Gives (rest_of (part_of bs) >>= λ r. Ok (part_of r)) _
    (λ second. then_if IsNotAtNull Gives (where_of second.word) _ (where_given second.word)
    (λ at h. suited m at s (rest_of second >>= last_path) h)))

abbrev IfGives : Option (Read Change) → Type 0
IfGives o = IfSome o (λ r. IfOk r Gives)

if_given : (b : Bool) (o p : Option (Read Change)) → IfGives o → IfGives p → IfGives (cond b o p)
if_given true o p h k = h
if_given false o p h k = k

change_given : (w : Words) (s : Stream) → IfGives (change_at w s)
unfolding change_at
change_given w s =
    if_given (is_word w (codes "M")) _ _ (then_any Gives (rest_of w) (λ r. modify_at r s) (λ r. modify_given r s))
    (if_given (is_word w (codes "D")) _ _ (then_any Gives (rest_of w) _ (λ r. then_any Gives (last_path r) _ (λ p. tt)))
    (if_given (is_word w (codes "C")) _ _ (then_any Gives (rest_of w) _ (λ r. then_any Gives (two_paths r) _ (λ p. tt)))
    (if_given (is_word w (codes "R")) _ _ (then_any Gives (rest_of w) _ (λ r. then_any Gives (two_paths r) _ (λ p. tt)))
    (if_given (is_word w (codes "deleteall")) _ _ (then_any Gives (bare w) _ (λ u. tt))
    (if_given (is_word w (codes "N")) _ _ tt tt)))))

abbrev AllGive : List Change × Stream → Type 0
AllGive x = AllByRecursion GivesNoNullGitlink x.0

more_given : (r : Read Change) (again : Stream → Read (List Change)) → IfOk r Gives → ((t : Stream) → IfOk (again t) AllGive) → IfOk (r >>= λ x. again x.1 >>= λ xs. Ok (x.0 ∷ xs.0, xs.1)) AllGive
more_given r again h k = then_if Gives AllGive r _ h (λ x g. then_if AllGive AllGive (again x.1) _ (k x.1) (λ xs l. (g, l)))

pub end_given : {A : Type 0} (Q : A → Type 0) (end : End) (r : Given A) → IfOk r Q → IfOk (at_end end r) Q
end_given Q Finished r h = h
end_given Q (Failed f) r h = tt

changes_given : (n : ℕ) (items : List Item) (s : Stream) → IfOk (changes_within n items s) AllGive
unfolding changes_within
changes_given n [] s = end_given AllGive s.end (Ok ([], s)) tt
changes_given zero (i ∷ more) s = tt
changes_given (suc n) (Data b ∷ more) s = tt
changes_given (suc n) (Line l ∷ more) s = by (change_at (words_of l) (after more s)) refl (change_given (words_of l) (after more s)) (λ t. changes_given n t.items t)
  where
    by : (o : Option (Read Change)) → change_at (words_of l) (after more s) ≡ o → IfGives o → ((t : Stream) → IfOk (changes_within n t.items t) AllGive) → IfOk (changes_within (suc n) (Line l ∷ more) s) AllGive
    by None e h again = rw e tt
    by (Some r) e h again = rw e (more_given r (λ t. changes_within n t.items t) h again)

-- ---- commands

abbrev Brings : Command × Stream → Type 0
Brings x = BringsSayable x.0

blob_given : (s : Stream) → IfOk (blob_at s) Brings
unfolding blob_at
blob_given s =
    then_any Brings (optional (codes "mark") mark_of s) _ (λ mark. then_any Brings (optional (codes "original-oid") any_text mark.1) _ (λ oid. then_any Brings (block oid.1) _ (λ bytes. tt)))

tag_given : (name : Bytes) (s : Stream) → IfOk (tag_at name s) Brings
unfolding tag_at
tag_given name s =
    then_any Brings (optional (codes "mark") mark_of s) _ (λ mark. then_any Brings (needed (codes "from") commit_ish_of mark.1) _
    (λ target. then_any Brings (optional (codes "original-oid") any_text target.1) _ (λ oid. then_any Brings (optional (codes "tagger") ident_of oid.1) _
    (λ tagger. then_any Brings (block tagger.1) _ (λ message. tt)))))

reset_given : (ref : Bytes) (s : Stream) → IfOk (reset_at ref s) Brings
unfolding reset_at
reset_given ref s = then_any Brings (optional (codes "from") commit_ish_of s) _ (λ parent. then_any Brings (item_after parent.1) _ (λ ended. tt))

abbrev LinksGive : (Option CommitIsh × (List CommitIsh × List Change)) × Stream → Type 0
LinksGive x = AllByRecursion GivesNoNullGitlink x.0.1.1

links_given : (s : Stream) → IfOk (links_at s) LinksGive
unfolding links_at
links_given s =
    then_any LinksGive (optional (codes "from") commit_ish_of s) _ (λ parent. then_any LinksGive (merges parent.1) _
    (λ merged. then_if AllGive LinksGive (changes merged.1) _ (changes_given _ merged.1.items merged.1) (λ changed h. then_any LinksGive (item_after changed.1) _ (λ ended. h))))

commit_given : (ref : Bytes) (s : Stream) → IfOk (commit_at ref s) Brings
unfolding commit_at
commit_given ref s =
    then_any Brings (optional (codes "mark") mark_of s) _ (λ mark. then_any Brings (optional (codes "original-oid") any_text mark.1) _
    (λ oid. then_any Brings (optional (codes "author") ident_of oid.1) _ (λ author. then_any Brings (needed (codes "committer") ident_of author.1) _
    (λ committer. then_any Brings (unsigned committer.1) _
    (λ plain. then_if (λ x. IfSome x.0 IsEncodingRead) Brings (optional (codes "encoding") encoding_of plain.1) _ (optional_given IsEncodingRead (codes "encoding") encoding_of encoding_given plain.1)
    (λ encoding e. then_any Brings (block encoding.1) _
    (λ message. then_if LinksGive Brings (links_at message.1) _ (links_given message.1) (λ links h. (h, (encoding.0, maybe_encoding encoding.0 e, refl))))))))))

early_given : (b : Bool) (r : Read Command) → IfOk r Brings → IfOk (if_early b r) Brings
early_given true r h = h
early_given false r h = tt

command_given : (early : Bool) (w : Words) (s : Stream) → IfOk (command_at early w s) Brings
unfolding command_at
command_given early w s =
    if_either Brings (is_word w (codes "blob")) _ _ (then_any Brings (bare w) _ (λ u. blob_given s))
    (if_either Brings (is_word w (codes "commit")) _ _ (then_any Brings (rest_of w) _ (λ r. then_any Brings (ref_of r) _ (λ ref. commit_given ref s)))
    (if_either Brings (is_word w (codes "tag")) _ _ (then_any Brings (rest_of w) _ (λ r. then_any Brings (tag_of r) _ (λ name. tag_given name s)))
    (if_either Brings (is_word w (codes "reset")) _ _ (then_any Brings (rest_of w) _ (λ r. then_any Brings (ref_of r) _ (λ ref. reset_given ref s)))
    (if_either Brings (is_word w (codes "checkpoint")) _ _ (then_any Brings (bare w) _ (λ u. tt))
    (if_either Brings (is_word w (codes "progress")) _ _ (then_any Brings (rest_of w) _ (λ r. tt))
    (if_either Brings (is_word w (codes "feature")) _ _ (then_any Brings (rest_of w) _ (λ r. early_given early _ (then_any Brings (feature_of r) _ (λ f. tt))))
    (if_either Brings (is_word w (codes "option")) _ _ (then_any Brings (rest_of w) _ (λ r. early_given early _ tt))
    (if_either Brings (is_word w (codes "done")) _ _ (then_any Brings (bare w) _ (λ u. tt))
    (if_either Brings (is_word w (codes "ls") || is_word w (codes "cat-blob") || is_word w (codes "get-mark") || is_word w (codes "alias")) _ _ tt tt)))))))))

abbrev AllBring : List Command → Type 0
AllBring cs = AllByRecursion BringsSayable cs

pub commands_given : (n : ℕ) (before : List Command) (items : List Item) (end : End) → AllBring (commands_within n before items end).list
unfolding commands_within
commands_given n before [] end = tt
commands_given zero before (i ∷ more) end = tt
commands_given (suc n) before (Data b ∷ more) end = tt
commands_given (suc n) before (Line [] ∷ more) end = commands_given n before more end
commands_given (suc n) before (Line (b ∷ bs) ∷ more) end =
    by (command_at (list_all is_option before) (words_of (b ∷ bs)) (record { items = more; end = end })) refl
    (command_given (list_all is_option before) (words_of (b ∷ bs)) (record { items = more; end = end })) (λ c t. commands_given n (before ++ c ∷ []) t.items t.end)
  where
    by : (r : Read Command) → command_at (list_all is_option before) (words_of (b ∷ bs)) (record { items = more; end = end }) ≡ r → IfOk r Brings
        → ((c : Command) (t : Stream) → AllBring (commands_within n (before ++ c ∷ []) t.items t.end).list) → AllBring (commands_within (suc n) before (Line (b ∷ bs) ∷ more) end).list
    by (Err f) e h again = rw e tt
    by (Ok x) e h again = rw e (last (is_done x.0))
      where
        last : (d : Bool) → AllBring (cond d (with_command x.0 (stops None)) (with_command x.0 (commands_within n (before ++ x.0 ∷ []) x.1.items x.1.end))).list
        last true = (h, tt)
        last false = (h, again x.0 x.1)

pub none_brought : StreamsBringNone
none_brought s = commands_given _ [] s.items s.end
