-- A commit with a gitlink of forty zeros is refused where its command is read.
use Rattle.std.proofs.Common.{◌≡◌, ℕ, zero, suc, ◌<◌, ◌≤◌, Bool, true, false, cond, Option, Some, None, Err, List, [], ◌∷◌, ◌++◌, length, map, codes, refl, sym, ap, subst, ◌∙◌, arith, append_assoc}
use Rattle.std.specs.Bool.{passes}
use Rattle.std.specs.Fmt.{decimal}
use Rattle.std.specs.List.{AllByRecursion, flat_map, list_all}
use Rattle.std.proofs.lemmas.List.{length-append, length-map, map-append}
use Rattle.std.proofs.lemmas.Grind.{flat_map-append}
use Rattle.gx_model.specs.declared.faults.Fault.TheVariants as faults
use Rattle.gx_model.specs.declared.features.Feature.TheVariants as features
use Rattle.gx_model.specs.declared.objects.Mode.TheVariants.{Gitlink}
use Rattle.gx_model.specs.Texts.{Bytes, cut_at}
use Rattle.gx_model.specs.Texts.Headers.{encoding_in}
use Rattle.gx_model.specs.Texts.Idents.{is_ident}
use Rattle.gx_model.specs.Texts.Paths.{Path, path_text, printed}
use Rattle.gx_model.specs.Histories.Files.{FileMap}
use Rattle.gx_model.specs.Histories.Values.{Commit, Value, is_optional_encoding, list_of, parents_of, text_of}
use Rattle.gx_model.specs.Texts.Digits.{is_lower_digit, is_name_text}
use Rattle.gx_model.specs.Streams.Items.{Data, Finished, Item, Line, Stream}
use Rattle.gx_model.specs.Streams.Commands as command
use Rattle.gx_model.specs.Streams.Commands.{Change, Clear, Command, CommitIsh, CommitParts, Copy, Modify, Object, Remove, Rename}
use Rattle.gx_model.specs.Streams.Grammar.{change_at, changes_within, command_at, commands_of, commands_within, commit_at, is_option, item_after_in, links_at, modify_at, stops, unsigned_in, where_by, where_of, with_command}
use Rattle.gx_model.specs.Streams.Lines.{block_in, is_null, mark_number, rest_line_in, words_of}
use Rattle.gx_model.specs.Export.{carrier, change_items, command_items, file_change, first_parent_mark, from_line, mode_digits, other_parent_marks, word_line_if}
use Rattle.gx_model.specs.Laws.ExportLaws.{IsMark, IsNamedCommit, IsNamedCommitIf, IsSpelledChange, IsSpelledCommit}
use Rattle.gx_model.proofs.Texts.HeaderTexts.{encoding_told}
use Rattle.gx_model.proofs.Texts.PathTests.{first, is_true}
use Rattle.gx_model.proofs.Streams.CommandFields.{all_hex, hex_no_colon, link_no_space, mark_read, not_inline, path_read}
use Rattle.gx_model.proofs.Streams.ChangeItems.{clear_line, mode_words, modify_line, modify_read, no_block, remove_line, stream, words_at}
use Rattle.gx_model.proofs.Streams.CommandItems.{Starts, all_items, asks_first, commit_first, commit_regroup, encoding_read, from_read, ident_read, merge_item, merges_read, next_is, read_first, starts_command}
use Rattle.gx_model.proofs.Streams.CommandItems as items
use Rattle.gx_model.proofs.Export.SpelledExports.{AreSpelled, carrier_is_ref}
use Rattle.gx_model.proofs.Export.ExportItems.{commit_with}

-- ---- what is read of it

-- forty zeros are no place of a file
null_where : (x : Bytes) → is_name_text x ≡ true → is_null x ≡ true → where_of x ≡ Err faults.Unsupported
null_where [] h e = absurd cc
null_where (b ∷ bs) h e =
    let c = hex_no_colon b (is_true _ (first (is_lower_digit b) _ (passes _ (all_hex (b ∷ bs) h)))) in
    ap (λ t. where_by (b ∷ bs) (cond t (Some (mark_number bs)) None)) c ∙ rw (not_inline (b ∷ bs) h, e) refl

null_read : (x : Bytes) (p : Path) (t : Stream) → is_name_text x ≡ true → is_null x ≡ true → modify_at (mode_digits Gitlink ++ 32 ∷ x ++ 32 ∷ printed (path_text p)) t ≡ Err faults.Unsupported
unfolding modify_at
null_read x p t h e = rw (mode_words Gitlink, words_at x (printed (path_text p)) (link_no_space x h), null_where x h e) refl

abbrev null_line : Bytes → Path → Bytes
null_line x p = codes "M" ++ 32 ∷ (mode_digits Gitlink ++ 32 ∷ x ++ 32 ∷ printed (path_text p))

line_fails : (x : Bytes) (p : Path) (t : Stream) → is_name_text x ≡ true → is_null x ≡ true → change_at (words_of (null_line x p)) t ≡ Some (Err faults.Unsupported)
line_fails x p t h e = modify_line _ t ∙ ap Some (null_read x p t h e)

changes_fail : (n : ℕ) (cs : List Change) (line : Bytes) (more : List Item) → ((t : Stream) → change_at (words_of line) t ≡ Some (Err faults.Unsupported)) → length cs < n → AllByRecursion IsSpelledChange cs
    → changes_within n (flat_map change_items cs ++ Line line ∷ more) (stream (flat_map change_items cs ++ Line line ∷ more)) ≡ Err faults.Unsupported
unfolding changes_within
changes_fail zero cs line more e lt h = absurd (omega arith)
changes_fail (suc n) [] line more e lt h = rw e refl
changes_fail (suc n) (Clear ∷ cs) line more e lt h =
    let again = changes_fail n cs line more e (omega arith) h.1 in
    rw (clear_line, again) refl
changes_fail (suc n) (Modify m s p ∷ cs) line more e lt h =
    let again = changes_fail n cs line more e (omega arith) h.1 in
    rw (no_block m s h.0.0, modify_line, modify_read m s p _ h.0.0 h.0.1, again) refl
changes_fail (suc n) (Remove p ∷ cs) line more e lt h =
    let again = changes_fail n cs line more e (omega arith) h.1 in
    rw (remove_line, path_read p h.0, again) refl
changes_fail (suc n) (Copy p q ∷ cs) line more e lt h = absurd h.0
changes_fail (suc n) (Rename p q ∷ cs) line more e lt h = absurd h.0

all_lines : (cs : List Change) (line : Bytes) (more : List Item) → AllByRecursion IsSpelledChange cs → length cs < length (flat_map change_items cs ++ Line line ∷ more)
all_lines [] line more h = omega arith
all_lines (Clear ∷ cs) line more h = omega (arith, all_lines cs line more h.1)
all_lines (Modify m s p ∷ cs) line more h = rw (no_block m s h.0.0) (omega (arith, all_lines cs line more h.1))
all_lines (Remove p ∷ cs) line more h = omega (arith, all_lines cs line more h.1)
all_lines (Copy p q ∷ cs) line more h = absurd h.0
all_lines (Rename p q ∷ cs) line more h = absurd h.0

-- changes before that line, and the items behind it
abbrev cut_changes : List Change → Bytes → List Item → List Item
cut_changes cs line more = flat_map change_items (Clear ∷ cs) ++ Line line ∷ more

no_merge : (cs : List Change) (line : Bytes) (more : List Item) → next_is (codes "merge") (cut_changes cs line more) ≡ false
unfolding cut_at
no_merge cs line more = refl

no_from : (ms : List CommitIsh) (cs : List Change) (line : Bytes) (more : List Item) → next_is (codes "from") (map merge_item ms ++ cut_changes cs line more) ≡ false
unfolding cut_at
no_from (c ∷ ms) cs line more = refl
no_from [] cs line more = refl

links_fail : (parent : Option CommitIsh) (ms : List CommitIsh) (cs : List Change) (line : Bytes) (more : List Item) → ((t : Stream) → change_at (words_of line) t ≡ Some (Err faults.Unsupported))
    → IsNamedCommitIf parent → AllByRecursion IsNamedCommit ms → AllByRecursion IsSpelledChange (Clear ∷ cs)
    → links_at (stream (from_line parent ++ (map merge_item ms ++ cut_changes cs line more))) ≡ Err faults.Unsupported
unfolding links_at
links_fail parent ms cs line more e h k g =
    let last = cut_changes cs line more in
    let enough : length ms ≤ suc (length (map merge_item ms ++ last)) = omega (arith, length-append (map merge_item ms) last, length-map ms merge_item) in
    rw (from_read parent (map merge_item ms ++ last) h (no_from ms cs line more), merges_read (suc (length (map merge_item ms ++ last))) ms last enough k (no_merge cs line more), changes_fail (length last) (Clear ∷ cs) line more e (all_lines (Clear ∷ cs) line more g) g) refl

commit_fails : (ref : Bytes) (n : ℕ) (author committer : Bytes) (encoding : Option Bytes) (message : Bytes) (links : List Item)
    → IsMark n → is_ident author ≡ true → is_ident committer ≡ true → is_optional_encoding encoding ≡ true → links_at (stream links) ≡ Err faults.Unsupported
    → commit_at ref (stream (Line (codes "mark" ++ 32 ∷ 58 ∷ decimal n) ∷ Line (codes "author" ++ 32 ∷ author) ∷ Line (codes "committer" ++ 32 ∷ committer) ∷ (word_line_if (codes "encoding") encoding ++ Data message ∷ links))) ≡ Err faults.Unsupported
unfolding commit_at rest_line_in block_in unsigned_in cut_at
commit_fails ref n author committer None message links a b c d e = rw (mark_read n a, ident_read author b, ident_read committer c, e) refl
commit_fails ref n author committer (Some x) message links a b c d e = rw (mark_read n a, ident_read author b, ident_read committer c, encoding_read x d, e) refl

-- changes, up to that line
changes_cut : (before after : List Change) (x : Bytes) (p : Path) (rest : List Item) → flat_map change_items (before ++ Modify Gitlink (Object x) p ∷ after) ++ rest ≡ flat_map change_items before ++ Line (null_line x p) ∷ (flat_map change_items after ++ rest)
changes_cut before after x p rest =
    ap (λ t. t ++ rest) (flat_map-append change_items before (Modify Gitlink (Object x) p ∷ after))
    ∙ append_assoc (flat_map change_items before) (Line (null_line x p) ∷ flat_map change_items after) rest

fails_at : (n : ℕ) (before : List Command) (is : List Item) (letter : ℕ) (letters : Bytes) (more : List Item) → is ≡ Line (letter ∷ letters) ∷ more
    → ((early : Bool) → command_at early (words_of (letter ∷ letters)) (stream more) ≡ Err faults.Unsupported) → commands_within (suc n) before is Finished ≡ stops (Some faults.Unsupported)
unfolding commands_within
fails_at n before is letter letters more e f = rw (e, f (list_all is_option before)) refl

-- a commit with that line is refused
module _ (ws : List Value) (c : Commit) (good : FileMap Bytes) (p : Path) (x : Bytes) (after : FileMap Bytes) (rest : List Item) (spelled : IsSpelledCommit (commit_with ws c good)) (named : is_name_text x ≡ true) (null : is_null x ≡ true) where
  abbrev more : List Item
  more = flat_map change_items (map (file_change ws) after) ++ Line [] ∷ rest

  abbrev links : List Item
  links = from_line (first_parent_mark ws (list_of (parents_of c))) ++ (map merge_item (other_parent_marks ws (list_of (parents_of c))) ++ cut_changes (map (file_change ws) good) (null_line x p) more)

  abbrev behind : List Item
  behind = Line (codes "mark" ++ 32 ∷ 58 ∷ decimal (suc (length ws))) ∷ Line (codes "author" ++ 32 ∷ (text_of c).author) ∷ Line (codes "committer" ++ 32 ∷ (text_of c).committer) ∷ (word_line_if (codes "encoding") (encoding_in (text_of c).headers) ++ Data (text_of c).message ∷ links)

  lines_are : command_items (command.Commit (commit_with ws c (good ++ (p, (Gitlink, x)) ∷ after))) ++ rest ≡ Line (codes "commit" ++ 32 ∷ carrier) ∷ behind
  lines_are =
      let parent = first_parent_mark ws (list_of (parents_of c)) in
      let merges = other_parent_marks ws (list_of (parents_of c)) in
      let cs : List Change = Clear ∷ map (file_change ws) (good ++ (p, (Gitlink, x)) ∷ after) in
      let split : flat_map change_items cs ++ Line [] ∷ rest ≡ cut_changes (map (file_change ws) good) (null_line x p) more =
      ap (λ (qs : List Change). flat_map change_items (Clear ∷ qs) ++ Line [] ∷ rest) (map-append (file_change ws) good ((p, (Gitlink, x)) ∷ after))
      ∙ changes_cut (Clear ∷ map (file_change ws) good) (map (file_change ws) after) x p (Line [] ∷ rest) in
      ap (λ (t : List Item). Line (codes "commit" ++ 32 ∷ carrier) ∷ Line (codes "mark" ++ 32 ∷ 58 ∷ decimal (suc (length ws))) ∷ Line (codes "author" ++ 32 ∷ (text_of c).author) ∷ Line (codes "committer" ++ 32 ∷ (text_of c).committer) ∷ t)
      (commit_regroup (encoding_in (text_of c).headers) (text_of c).message parent merges cs rest ∙ ap (λ (t : List Item). word_line_if (codes "encoding") (encoding_in (text_of c).headers) ++ Data (text_of c).message ∷ (from_line parent ++ (map merge_item merges ++ t))) split)

  pub commit_refused : (n : ℕ) (before : List Command) → commands_within (suc n) before (command_items (command.Commit (commit_with ws c (good ++ (p, (Gitlink, x)) ∷ after))) ++ rest) Finished ≡ stops (Some faults.Unsupported)
  commit_refused n before =
      let fail = links_fail (first_parent_mark ws (list_of (parents_of c))) (other_parent_marks ws (list_of (parents_of c))) (map (file_change ws) good) (null_line x p) more (λ t. line_fails x p t named null) spelled.parent spelled.merges spelled.changes in
      fails_at n before _ 99 (codes "ommit" ++ 32 ∷ carrier) behind lines_are
      (λ early. commit_first early carrier (stream behind) carrier_is_ref
      ∙ commit_fails carrier (suc (length ws)) (text_of c).author (text_of c).committer (encoding_in (text_of c).headers) (text_of c).message links spelled.mark spelled.author spelled.committer (encoding_told (text_of c).headers spelled.headers).proper fail)

pub starts_commit : (c : CommitParts) (rest : List Item) → Starts (command_items (command.Commit c) ++ rest)
unfolding item_after_in cut_at
starts_commit c rest = record { no_from = refl; stays = refl }

pub some_lines : (c : CommitParts) (rest : List Item) → 1 ≤ length (command_items (command.Commit c) ++ rest)
some_lines c rest = omega arith

-- commands before items that are refused
module _ (bad : List Item) (fails : (n : ℕ) (before : List Command) → commands_within (suc n) before bad Finished ≡ stops (Some faults.Unsupported)) (starts : Starts bad) where
  starts_then : (cs : List Command) → AreSpelled cs → Starts (flat_map command_items cs ++ bad)
  starts_then [] h = starts
  starts_then (c ∷ cs) h = subst Starts (sym (append_assoc (command_items c) (flat_map command_items cs) bad)) (starts_command c (flat_map command_items cs ++ bad) h.0)

  read_until : (n : ℕ) (before cs : List Command) → length cs < n → AreSpelled cs → commands_within n before (flat_map command_items cs ++ bad) Finished ≡ record { list = cs; fault = Some faults.Unsupported }
  read_until zero before cs lt h = absurd (omega arith)
  read_until (suc n) before [] lt h = fails n before
  read_until (suc n) before (c ∷ cs) lt h =
      let rest = flat_map command_items cs ++ bad in
      ap (λ is. commands_within (suc n) before is Finished) (append_assoc (command_items c) (flat_map command_items cs) bad)
      ∙ items.step n before c rest (read_first c rest h.0 (starts_then cs h.1))
      ∙ ap (with_command c) (read_until n (before ++ c ∷ []) cs (omega arith) h.1)

  pub read_refused : (cs : List Command) → AreSpelled cs → 1 ≤ length bad
      → commands_of (stream (Line (codes "feature done") ∷ (flat_map command_items cs ++ bad))) ≡ record { list = command.Asks features.Done ∷ cs; fault = Some faults.Unsupported }
  read_refused cs h some =
      let rest = flat_map command_items cs ++ bad in
      let enough : length cs < length rest = omega (arith, all_items cs h, length-append (flat_map command_items cs) bad, some) in
      asks_first (length rest) rest ∙ ap (with_command (command.Asks features.Done)) (read_until (length rest) (command.Asks features.Done ∷ []) cs enough h)
