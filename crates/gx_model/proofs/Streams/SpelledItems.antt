-- The items of an export's commands can be spelled.
use Rattle.std.proofs.Common.{◌≡◌, ℕ, true, Option, Some, None, List, [], ◌∷◌, ◌++◌, map, codes, refl, sym, ap, subst, ◌∙◌}
use Rattle.std.specs.Prelude.{is_some}
use Rattle.std.specs.List.{list_all, flat_map, AllByRecursion}
use Rattle.std.specs.Fmt.{decimal}
use Rattle.std.proofs.lemmas.Bool.{false≢true}
use Rattle.std.proofs.lemmas.Grind.{flat_map-append}
use Rattle.gx_model.specs.declared.objects.Mode.{Mode}
use Rattle.gx_model.specs.declared.objects.Mode.TheVariants.{File, Exec, Link, Gitlink, Dir}
use Rattle.gx_model.specs.Texts.{Bytes, is_line}
use Rattle.gx_model.specs.Texts.Headers.{encoding_in}
use Rattle.gx_model.specs.Texts.Idents.{is_ident}
use Rattle.gx_model.specs.Texts.Paths.{Path, path_text, printed}
use Rattle.gx_model.specs.Streams.Items.{Item, Line, Data}
use Rattle.gx_model.specs.Streams.Commands.{CommitIsh, Marked, Named, DataRef, Mark, Object, Inline, Change, Modify, Remove, Copy, Rename, Clear, Command}
use Rattle.gx_model.specs.Streams.Commands as command
use Rattle.gx_model.specs.Histories.Values.{is_optional_encoding, is_optional_ident}
use Rattle.gx_model.specs.Texts.Digits.{is_lower_digit, is_name_text}
use Rattle.std.specs.Option.{unwrap_or}
use Rattle.gx_model.specs.Export.{mode_digits, dataref_text, commit_ish_text, change_items, command_items, from_line, mark_line, reset_items, word_line_if}
use Rattle.gx_model.specs.Laws.ExportLaws.{IsItemLine, IsItem, IsMark, IsLink, IsDataRef, IsNamedCommit, IsNamedCommitIf, IsSpelledChange, IsSpelled, HasMark, between}
use Rattle.gx_model.proofs.Texts.HeaderTexts.{encoding_told}
use Rattle.gx_model.proofs.Texts.Idents.{and_two}
use Rattle.gx_model.proofs.Texts.Decimals.{decimal_digits}
use Rattle.gx_model.proofs.Texts.LineTexts.{line_by, line_append, digits_are_line, ref_is_line, tag_is_line, ident_is_line, printed_is_line}
use Rattle.gx_model.proofs.Streams.ChangeItems.{no_block}
use Rattle.gx_model.proofs.Streams.CommandItems.{merge_item}

-- ---- no LF stands in the parts of a line

mark_is_line : (n : ℕ) → IsMark n → is_line (58 ∷ decimal n) ≡ true
mark_is_line n h = digits_are_line (decimal n) (decimal_digits n h.1)

name_is_line : (x : Bytes) → is_name_text x ≡ true → is_line x ≡ true
name_is_line x h = line_by is_lower_digit refl x (and_two _ (list_all is_lower_digit x) h)

link_is_line : (x : Bytes) → IsLink x → is_line x ≡ true
link_is_line x h = name_is_line x h.0

commit_ish_is_line : (c : CommitIsh) → IsNamedCommit c → is_line (commit_ish_text c) ≡ true
commit_ish_is_line (Marked n) h = mark_is_line n h
commit_ish_is_line (Named x) h = ap is_line h.2 ∙ line_append h.0 (codes "^0") (name_is_line h.0 h.1) refl

dataref_is_line : (m : Mode) (s : DataRef) → IsDataRef m s → is_line (dataref_text s) ≡ true
dataref_is_line File (Mark n) h = mark_is_line n h
dataref_is_line Exec (Mark n) h = mark_is_line n h
dataref_is_line Link (Mark n) h = mark_is_line n h
dataref_is_line Gitlink (Object x) h = link_is_line x h
dataref_is_line File (Object x) h = absurd h
dataref_is_line Exec (Object x) h = absurd h
dataref_is_line Link (Object x) h = absurd h
dataref_is_line Dir (Object x) h = absurd h
dataref_is_line Dir (Mark n) h = absurd h
dataref_is_line Gitlink (Mark n) h = absurd h
dataref_is_line m (Inline x) h = refl

mode_is_line : (m : Mode) → is_line (mode_digits m) ≡ true
mode_is_line File = refl
mode_is_line Exec = refl
mode_is_line Link = refl
mode_is_line Gitlink = refl
mode_is_line Dir = refl

modify_is_line : (m : Mode) (s : DataRef) (p : Path) → IsDataRef m s → is_line (mode_digits m ++ 32 ∷ dataref_text s ++ 32 ∷ printed (path_text p)) ≡ true
modify_is_line m s p h = line_append (mode_digits m ++ 32 ∷ dataref_text s) (32 ∷ printed (path_text p)) (line_append (mode_digits m) (32 ∷ dataref_text s) (mode_is_line m) (dataref_is_line m s h)) (printed_is_line (path_text p))

-- ---- items

abbrev pub AreItems : List Item → Type 0
AreItems is = AllByRecursion IsItem is

pub items_append : (is js : List Item) → AreItems is → AreItems js → AreItems (is ++ js)
items_append [] js h g = g
items_append (i ∷ is) js h g = (h.0, items_append is js h.1 g)

pub change_spelled : (c : Change) → IsSpelledChange c → AreItems (change_items c)
change_spelled (Modify m s p) h = rw (no_block m s h.0) (record { line = modify_is_line m s p h.0; no_comment = refl; no_data = refl }, tt)
change_spelled Clear h = (record { line = refl; no_comment = refl; no_data = refl }, tt)
change_spelled (Remove p) h = (record { line = printed_is_line (path_text p); no_comment = refl; no_data = refl }, tt)
change_spelled (Copy p q) h = absurd h
change_spelled (Rename p q) h = absurd h

changes_spelled : (cs : List Change) → AllByRecursion IsSpelledChange cs → AreItems (flat_map change_items cs)
changes_spelled [] h = tt
changes_spelled (c ∷ cs) h = items_append (change_items c) (flat_map change_items cs) (change_spelled c h.0) (changes_spelled cs h.1)

pub merges_spelled : (ms : List CommitIsh) → AllByRecursion IsNamedCommit ms → AreItems (map merge_item ms)
merges_spelled [] h = tt
merges_spelled (c ∷ ms) h = (record { line = commit_ish_is_line c h.0; no_comment = refl; no_data = refl }, merges_spelled ms h.1)

pub mark_spelled : (m : Option ℕ) → HasMark m → AreItems (mark_line m)
mark_spelled None h = absurd h
mark_spelled (Some n) h = (record { line = mark_is_line n h; no_comment = refl; no_data = refl }, tt)

pub author_spelled : (a : Option Bytes) → is_some a ≡ true → is_ident (unwrap_or a []) ≡ true → AreItems (word_line_if (codes "author") a)
author_spelled None e h = absurd (false≢true e)
author_spelled (Some x) e h = (record { line = ident_is_line x h; no_comment = refl; no_data = refl }, tt)

tagger_spelled : (a : Option Bytes) → is_optional_ident a ≡ true → AreItems (word_line_if (codes "tagger") a)
tagger_spelled None h = tt
tagger_spelled (Some x) h = (record { line = ident_is_line x h; no_comment = refl; no_data = refl }, tt)

pub encoding_spelled : (a : Option Bytes) → is_optional_encoding a ≡ true → AreItems (word_line_if (codes "encoding") a)
encoding_spelled None h = tt
encoding_spelled (Some []) h = absurd (false≢true h)
encoding_spelled (Some (b ∷ x)) h = (record { line = h; no_comment = refl; no_data = refl }, tt)

pub from_spelled : (c : Option CommitIsh) → IsNamedCommitIf c → AreItems (from_line c)
from_spelled None h = tt
from_spelled (Some c) h = (record { line = commit_ish_is_line c h; no_comment = refl; no_data = refl }, tt)

pub plain_line : IsItemLine []
plain_line = record { line = refl; no_comment = refl; no_data = refl }

reset_spelled : (c : Option CommitIsh) → IsNamedCommitIf c → AreItems (reset_items c)
reset_spelled None h = tt
reset_spelled (Some c) h = (record { line = commit_ish_is_line c h; no_comment = refl; no_data = refl }, (plain_line, tt))

command_spelled : (c : Command) → IsSpelled c → AreItems (command_items c)
command_spelled (command.Blob b) h = (record { line = refl; no_comment = refl; no_data = refl }, items_append (mark_line b.mark) (Data b.bytes ∷ []) (mark_spelled b.mark h.0) (h.1, tt))
command_spelled (command.Commit c) h = (
  record { line = ref_is_line c.ref h.ref; no_comment = refl; no_data = refl },
  items_append (mark_line c.mark) _ (mark_spelled c.mark h.mark)
      (items_append (word_line_if (codes "author") c.author) _ (author_spelled c.author h.has_author h.author) (
        record { line = ident_is_line c.committer h.committer; no_comment = refl; no_data = refl },
        items_append (word_line_if (codes "encoding") (encoding_in c.headers)) _ (encoding_spelled (encoding_in c.headers) (encoding_told c.headers h.headers).proper) (
          h.message,
          items_append (from_line c.parent) _ (from_spelled c.parent h.parent)
              (items_append (map merge_item c.merges) _ (merges_spelled c.merges h.merges)
              (items_append (flat_map change_items c.changes) (Line [] ∷ []) (changes_spelled c.changes h.changes) (plain_line, tt))),
        ),
      )),
)
command_spelled (command.Tag t) h = by t.mark h.mark where
  by : (m : Option ℕ) → m ≡ None → AreItems (command_items (command.Tag (record { name = t.name; mark = m; target = t.target; tagger = t.tagger; message = t.message })))
  by (Some n) e = absurd cc
  by None e = (
    record { line = tag_is_line t.name h.name; no_comment = refl; no_data = refl },
    (
      record { line = commit_ish_is_line t.target h.target; no_comment = refl; no_data = refl },
      items_append (word_line_if (codes "tagger") t.tagger) (Data t.message ∷ []) (tagger_spelled t.tagger h.tagger) (h.message, tt),
    ),
  )
command_spelled (command.Reset r) h = (record { line = ref_is_line r.ref h.0; no_comment = refl; no_data = refl }, reset_spelled r.parent h.1)
command_spelled (command.Asks f) h = absurd h
command_spelled command.Done h = absurd h
command_spelled command.Checkpoint h = absurd h
command_spelled (command.Progress x) h = absurd h
command_spelled (command.OptionLine x) h = absurd h

pub all_spelled : (cs : List Command) → AllByRecursion IsSpelled cs → AreItems (flat_map command_items cs)
all_spelled [] h = tt
all_spelled (c ∷ cs) h = items_append (command_items c) (flat_map command_items cs) (command_spelled c h.0) (all_spelled cs h.1)

pub between_spelled : (cs : List Command) → AllByRecursion IsSpelled cs → AreItems (flat_map command_items (between cs))
between_spelled cs h = (
  record { line = refl; no_comment = refl; no_data = refl },
  subst AreItems (sym (flat_map-append command_items cs (command.Done ∷ []))) (items_append (flat_map command_items cs) (Line (codes "done") ∷ []) (all_spelled cs h) (record { line = refl; no_comment = refl; no_data = refl }, tt)),
)
