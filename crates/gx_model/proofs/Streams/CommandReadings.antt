-- Items have one shape as a command and as commands, and it is what the functions give.
use Rattle.std.proofs.Common.{◌≡◌, ◌⊎◌, inl, inr, ℕ, suc, zero, ◌<◌, ◌≤◌, true, false, Some, None, Ok, Err, List, [], ◌∷◌, ◌++◌, length, codes, refl, sym, ap, subst, arith}
use Rattle.std.specs.List.{list_all, list_any}
use Rattle.gx_model.specs.declared.faults.Fault.{Fault}
use Rattle.gx_model.specs.declared.faults.Fault.TheVariants as faults
use Rattle.gx_model.specs.declared.features.Feature.{Feature}
use Rattle.gx_model.specs.declared.features.Features.{Features}
use Rattle.gx_model.specs.Texts.{Bytes, cut_at}
use Rattle.gx_model.specs.Faults.{Given}
use Rattle.gx_model.specs.Streams.Items.{Item, Line, Data, End, Finished, Failed, Stream}
use Rattle.gx_model.specs.Streams.Commands as command
use Rattle.gx_model.specs.Streams.Commands.{CommitIsh, Change, Command, Commands}
use Rattle.gx_model.specs.Streams.Grammar.{blob_at, links_at, commit_at, tag_at, reset_at, command_at, commands_within, asked, commands_asked, is_option, asks_done, is_done, stops, with_command}
use Rattle.gx_model.specs.Streams.Lines.{words_of, mark_of, any_text, ident_of, encoding_of, commit_ish_of, optional, needed}
use Rattle.gx_model.specs.Streams.LineShapes.{line_of, IsOfNone, IsOfOne, IsRefText, IsFeatureText, IsIdentText, IsEncodingText, IsAnyText, IsMarkText, IsCommitIshText, IsTagNameText}
use Rattle.gx_model.specs.Streams.CommandShapes.{words_of_text, words_alone, unsupported_words, Optional, Needed, both, first_fault, second_fault, IsChange, mark_line, oid_line, blob_lines, commit_links, commit_lines, tag_lines, reset_lines, AreOptions, IsCommand, BlobLines, CommitLinks, CommitLines, TagLines, ResetLines, blob_command, commit_command, tag_command, reset_command, made, refused, of_text, text_fault, blob, commit, commit_of_bad_ref, tag, tag_of_bad_name, reset, reset_of_bad_ref, checkpoint, progress, feature, late_feature, option, late_option, done, command_without_text, command_of_text, unsupported, unknown_line, unknown_block, AskDone, AreCommands, skipped, taken, at_done, at_fault, at_end, at_missing_done, at_failure, TakenFrom}
use Rattle.gx_model.proofs.Streams.Readings.{refuted}
use Rattle.gx_model.proofs.Streams.WordShapes.{other_word, tested, which_word, blank_is_none, blank_is_of_none, blank_has_no_text}
use Rattle.gx_model.proofs.Streams.TextShapes.{ident_shape, ident_there, ref_shape, ref_there, tag_shape, tag_there, encoding_shape, encoding_there, any_shape, any_there, mark_shape, mark_there, commit_ish_shape, commit_ish_there, feature_shape, feature_there}
use Rattle.gx_model.proofs.Streams.PartShapes.{stream, as_read, IsPartOf, IsWhole, IsNoLonger, optional_shape, optional_there, optional_no_longer, optional_shorter, needed_shape, needed_there, needed_no_longer, block_shape, block_there, block_no_longer, unsigned_shape, unsigned_there, unsigned_no_longer, ending_shape, ending_there, ending_no_longer, then_there, then_no_longer, repeated_there, repeated_no_longer}
use Rattle.gx_model.proofs.Streams.ChangeShapes.{changes_shape, merges_shape, change_there, change_shorter, change_no_longer}

-- ---- the lines of commands

mark_part : IsPartOf mark_line (optional (codes "mark") mark_of)
mark_part = optional_shape (codes "mark") IsMarkText mark_of refl mark_shape

oid_part : IsPartOf oid_line (optional (codes "original-oid") any_text)
oid_part = optional_shape (codes "original-oid") IsAnyText any_text refl any_shape

author_part : IsPartOf (Optional (codes "author") IsIdentText) (optional (codes "author") ident_of)
author_part = optional_shape (codes "author") IsIdentText ident_of refl ident_shape

tagger_part : IsPartOf (Optional (codes "tagger") IsIdentText) (optional (codes "tagger") ident_of)
tagger_part = optional_shape (codes "tagger") IsIdentText ident_of refl ident_shape

committer_part : IsPartOf (Needed (codes "committer") IsIdentText) (needed (codes "committer") ident_of)
committer_part = needed_shape (codes "committer") IsIdentText ident_of refl ident_shape

encoding_part : IsPartOf (Optional (codes "encoding") IsEncodingText) (optional (codes "encoding") encoding_of)
encoding_part = optional_shape (codes "encoding") IsEncodingText encoding_of refl encoding_shape

from_part : IsPartOf (Optional (codes "from") IsCommitIshText) (optional (codes "from") commit_ish_of)
from_part = optional_shape (codes "from") IsCommitIshText commit_ish_of refl commit_ish_shape

target_part : IsPartOf (Needed (codes "from") IsCommitIshText) (needed (codes "from") commit_ish_of)
target_part = needed_shape (codes "from") IsCommitIshText commit_ish_of refl commit_ish_shape

-- what is taken, made into another value
giving : {A B : Type 0} → (A → B) → TakenFrom A → TakenFrom B
giving make (Ok p) = Ok (make p.0, p.1)
giving make (Err f) = Err f

blob_shape : (end : End) (is : List Item) (out : TakenFrom BlobLines) → blob_lines end is out → blob_at (stream end is) ≡ as_read end (giving blob_command out)
unfolding blob_at giving
blob_shape end is out (both a (both b c)) = rw (mark_part _ _ _ a, oid_part _ _ _ b, block_shape _ _ _ c) refl
blob_shape end is out (first_fault a) = rw (mark_part _ _ _ a) refl
blob_shape end is out (second_fault a (first_fault b)) = rw (mark_part _ _ _ a, oid_part _ _ _ b) refl
blob_shape end is out (second_fault a (second_fault b c)) = rw (mark_part _ _ _ a, oid_part _ _ _ b, block_shape _ _ _ c) refl

links_shape : (end : End) (is : List Item) (out : TakenFrom CommitLinks) → commit_links end is out → links_at (stream end is) ≡ as_read end (giving (λ x. (x.0, (x.1.0, x.1.1.0))) out)
unfolding links_at giving
links_shape end is out (both a (both b (both c d))) = rw (from_part _ _ _ a, merges_shape _ _ _ b, changes_shape _ _ _ c, ending_shape _ _ _ d) refl
links_shape end is out (first_fault a) = rw (from_part _ _ _ a) refl
links_shape end is out (second_fault a (first_fault b)) = rw (from_part _ _ _ a, merges_shape _ _ _ b) refl
links_shape end is out (second_fault a (second_fault b (first_fault c))) = rw (from_part _ _ _ a, merges_shape _ _ _ b, changes_shape _ _ _ c) refl
links_shape end is out (second_fault a (second_fault b (second_fault c d))) = rw (from_part _ _ _ a, merges_shape _ _ _ b, changes_shape _ _ _ c, ending_shape _ _ _ d) refl

commit_shape : (ref : Bytes) (end : End) (is : List Item) (out : TakenFrom CommitLines) → commit_lines end is out → commit_at ref (stream end is) ≡ as_read end (giving (commit_command ref) out)
unfolding commit_at giving
commit_shape ref end is out (both a (both b (both c (both d (both e (both f (both g h))))))) = rw (mark_part _ _ _ a, oid_part _ _ _ b, author_part _ _ _ c, committer_part _ _ _ d, unsigned_shape _ _ _ e, encoding_part _ _ _ f, block_shape _ _ _ g, links_shape _ _ _ h) refl
commit_shape ref end is out (first_fault a) = rw (mark_part _ _ _ a) refl
commit_shape ref end is out (second_fault a (first_fault b)) = rw (mark_part _ _ _ a, oid_part _ _ _ b) refl
commit_shape ref end is out (second_fault a (second_fault b (first_fault c))) = rw (mark_part _ _ _ a, oid_part _ _ _ b, author_part _ _ _ c) refl
commit_shape ref end is out (second_fault a (second_fault b (second_fault c (first_fault d)))) = rw (mark_part _ _ _ a, oid_part _ _ _ b, author_part _ _ _ c, committer_part _ _ _ d) refl
commit_shape ref end is out (second_fault a (second_fault b (second_fault c (second_fault d (first_fault e))))) = rw (mark_part _ _ _ a, oid_part _ _ _ b, author_part _ _ _ c, committer_part _ _ _ d, unsigned_shape _ _ _ e) refl
commit_shape ref end is out (second_fault a (second_fault b (second_fault c (second_fault d (second_fault e (first_fault f)))))) = rw (mark_part _ _ _ a, oid_part _ _ _ b, author_part _ _ _ c, committer_part _ _ _ d, unsigned_shape _ _ _ e, encoding_part _ _ _ f) refl
commit_shape ref end is out (second_fault a (second_fault b (second_fault c (second_fault d (second_fault e (second_fault f (first_fault g))))))) = rw (mark_part _ _ _ a, oid_part _ _ _ b, author_part _ _ _ c, committer_part _ _ _ d, unsigned_shape _ _ _ e, encoding_part _ _ _ f, block_shape _ _ _ g) refl
commit_shape ref end is out (second_fault a (second_fault b (second_fault c (second_fault d (second_fault e (second_fault f (second_fault g h))))))) = rw (mark_part _ _ _ a, oid_part _ _ _ b, author_part _ _ _ c, committer_part _ _ _ d, unsigned_shape _ _ _ e, encoding_part _ _ _ f, block_shape _ _ _ g, links_shape _ _ _ h) refl

tag_lines_shape : (name : Bytes) (end : End) (is : List Item) (out : TakenFrom TagLines) → tag_lines end is out
    → tag_at name (stream end is) ≡ as_read end (giving (tag_command name) out)
unfolding tag_at giving
tag_lines_shape name end is out (both a (both b (both c (both d e)))) = rw (mark_part _ _ _ a, target_part _ _ _ b, oid_part _ _ _ c, tagger_part _ _ _ d, block_shape _ _ _ e) refl
tag_lines_shape name end is out (first_fault a) = rw (mark_part _ _ _ a) refl
tag_lines_shape name end is out (second_fault a (first_fault b)) = rw (mark_part _ _ _ a, target_part _ _ _ b) refl
tag_lines_shape name end is out (second_fault a (second_fault b (first_fault c))) = rw (mark_part _ _ _ a, target_part _ _ _ b, oid_part _ _ _ c) refl
tag_lines_shape name end is out (second_fault a (second_fault b (second_fault c (first_fault d)))) = rw (mark_part _ _ _ a, target_part _ _ _ b, oid_part _ _ _ c, tagger_part _ _ _ d) refl
tag_lines_shape name end is out (second_fault a (second_fault b (second_fault c (second_fault d e)))) = rw (mark_part _ _ _ a, target_part _ _ _ b, oid_part _ _ _ c, tagger_part _ _ _ d, block_shape _ _ _ e) refl

reset_shape : (ref : Bytes) (end : End) (is : List Item) (out : TakenFrom ResetLines) → reset_lines end is out → reset_at ref (stream end is) ≡ as_read end (giving (reset_command ref) out)
unfolding reset_at giving
reset_shape ref end is out (both a b) = rw (from_part _ _ _ a, ending_shape _ _ _ b) refl
reset_shape ref end is out (first_fault a) = rw (from_part _ _ _ a) refl
reset_shape ref end is out (second_fault a b) = rw (from_part _ _ _ a, ending_shape _ _ _ b) refl

-- ---- all lines have a shape, and leave no more than stood there

mark_line_there : IsWhole mark_line
mark_line_there = optional_there (codes "mark") IsMarkText refl mark_there

oid_there : IsWhole oid_line
oid_there = optional_there (codes "original-oid") IsAnyText refl any_there

from_there : IsWhole (Optional (codes "from") IsCommitIshText)
from_there = optional_there (codes "from") IsCommitIshText refl commit_ish_there

blob_there : IsWhole blob_lines
blob_there = then_there _ _ mark_line_there (then_there _ _ oid_there block_there)

links_there : IsWhole commit_links
links_there =
    then_there _ _ from_there (then_there _ _ (repeated_there _ (optional_there (codes "merge") IsCommitIshText refl commit_ish_there) (optional_shorter (codes "merge") IsCommitIshText))
    (then_there _ _ (repeated_there IsChange change_there change_shorter) ending_there))

commit_there : IsWhole commit_lines
commit_there =
    then_there _ _ mark_line_there (then_there _ _ oid_there (then_there _ _ (optional_there (codes "author") IsIdentText refl ident_there)
    (then_there _ _ (needed_there (codes "committer") IsIdentText refl ident_there) (then_there _ _ unsigned_there
    (then_there _ _ (optional_there (codes "encoding") IsEncodingText refl encoding_there) (then_there _ _ block_there links_there))))))

tag_lines_there : IsWhole tag_lines
tag_lines_there =
    then_there _ _ mark_line_there (then_there _ _ (needed_there (codes "from") IsCommitIshText refl commit_ish_there)
    (then_there _ _ oid_there (then_there _ _ (optional_there (codes "tagger") IsIdentText refl ident_there) block_there)))

reset_there : IsWhole reset_lines
reset_there = then_there _ _ from_there ending_there

mark_no_longer : IsNoLonger mark_line
mark_no_longer = optional_no_longer (codes "mark") IsMarkText

oid_no_longer : IsNoLonger oid_line
oid_no_longer = optional_no_longer (codes "original-oid") IsAnyText

from_no_longer : IsNoLonger (Optional (codes "from") IsCommitIshText)
from_no_longer = optional_no_longer (codes "from") IsCommitIshText

blob_no_longer : IsNoLonger blob_lines
blob_no_longer = then_no_longer _ _ mark_no_longer (then_no_longer _ _ oid_no_longer block_no_longer)

links_no_longer : IsNoLonger commit_links
links_no_longer =
    then_no_longer _ _ from_no_longer (then_no_longer _ _ (repeated_no_longer _ (optional_no_longer (codes "merge") IsCommitIshText))
    (then_no_longer _ _ (repeated_no_longer IsChange change_no_longer) ending_no_longer))

commit_no_longer : IsNoLonger commit_lines
commit_no_longer =
    then_no_longer _ _ mark_no_longer (then_no_longer _ _ oid_no_longer (then_no_longer _ _ (optional_no_longer (codes "author") IsIdentText)
    (then_no_longer _ _ (needed_no_longer (codes "committer") IsIdentText) (then_no_longer _ _ unsigned_no_longer
    (then_no_longer _ _ (optional_no_longer (codes "encoding") IsEncodingText) (then_no_longer _ _ block_no_longer links_no_longer))))))

tag_no_longer : IsNoLonger tag_lines
tag_no_longer =
    then_no_longer _ _ mark_no_longer (then_no_longer _ _ (needed_no_longer (codes "from") IsCommitIshText)
    (then_no_longer _ _ oid_no_longer (then_no_longer _ _ (optional_no_longer (codes "tagger") IsIdentText) block_no_longer)))

reset_no_longer : IsNoLonger reset_lines
reset_no_longer = then_no_longer _ _ from_no_longer ending_no_longer

-- ---- a command

command_shape : (before : List Command) (end : End) (line : Bytes) (more : List Item) (out : TakenFrom Command) → IsCommand before end (Line line ∷ more) out
    → command_at (list_all is_option before) (words_of line) (stream end more) ≡ as_read end out
unfolding command_at cut_at giving
command_shape before end line more out (blob (made h)) = rw (blob_shape _ _ _ h) refl
command_shape before end line more out (blob (refused h)) = rw (blob_shape _ _ _ h) refl
command_shape before end line more out (commit {text = text} {ref = ref} r (made h)) = rw (ref_shape text (Ok ref) r, commit_shape ref _ _ _ h) refl
command_shape before end line more out (commit {text = text} {ref = ref} r (refused h)) = rw (ref_shape text (Ok ref) r, commit_shape ref _ _ _ h) refl
command_shape before end line more out (commit_of_bad_ref {text = text} {f = f} r) = rw (ref_shape text (Err f) r) refl
command_shape before end line more out (tag {text = text} {name = name} r (made h)) = rw (tag_shape text (Ok name) r, tag_lines_shape name _ _ _ h) refl
command_shape before end line more out (tag {text = text} {name = name} r (refused h)) = rw (tag_shape text (Ok name) r, tag_lines_shape name _ _ _ h) refl
command_shape before end line more out (tag_of_bad_name {text = text} {f = f} r) = rw (tag_shape text (Err f) r) refl
command_shape before end line more out (reset {text = text} {ref = ref} r (made h)) = rw (ref_shape text (Ok ref) r, reset_shape ref _ _ _ h) refl
command_shape before end line more out (reset {text = text} {ref = ref} r (refused h)) = rw (ref_shape text (Ok ref) r, reset_shape ref _ _ _ h) refl
command_shape before end line more out (reset_of_bad_ref {text = text} {f = f} r) = rw (ref_shape text (Err f) r) refl
command_shape before end line more out checkpoint = refl
command_shape before end line more out progress = refl
command_shape before end line more out (feature {text = text} o (of_text {x = asked} h)) = rw (o, feature_shape text (Ok asked) h) refl
command_shape before end line more out (feature {text = text} o (text_fault {f = f} h)) = rw (o, feature_shape text (Err f) h) refl
command_shape before end line more out (late_feature n) = rw (refuted (list_all is_option before) n) refl
command_shape before end line more out (option o) = rw o refl
command_shape before end line more out (late_option n) = rw (refuted (list_all is_option before) n) refl
command_shape before end line more out done = refl
command_shape before end line more out (command_without_text (inl e)) = rw e refl
command_shape before end line more out (command_without_text (inr (inl e))) = rw e refl
command_shape before end line more out (command_without_text (inr (inr (inl e)))) = rw e refl
command_shape before end line more out (command_without_text (inr (inr (inr (inl e))))) = rw e refl
command_shape before end line more out (command_without_text (inr (inr (inr (inr (inl e)))))) = rw e refl
command_shape before end line more out (command_without_text (inr (inr (inr (inr (inr (inl e))))))) = rw e refl
command_shape before end line more out (command_without_text (inr (inr (inr (inr (inr (inr e))))))) = absurd e
command_shape before end line more out (command_of_text text (inl e) q) = rw (q, e) refl
command_shape before end line more out (command_of_text text (inr (inl e)) q) = rw (q, e) refl
command_shape before end line more out (command_of_text text (inr (inr (inl e))) q) = rw (q, e) refl
command_shape before end line more out (command_of_text text (inr (inr (inr e))) q) = absurd e
command_shape before end line more out (unsupported (inl (inl e))) = rw e refl
command_shape before end line more out (unsupported (inl (inr h))) = rw h.1 refl
command_shape before end line more out (unsupported (inr (inl (inl e)))) = rw e refl
command_shape before end line more out (unsupported (inr (inl (inr h)))) = rw h.1 refl
command_shape before end line more out (unsupported (inr (inr (inl (inl e))))) = rw e refl
command_shape before end line more out (unsupported (inr (inr (inl (inr h))))) = rw h.1 refl
command_shape before end line more out (unsupported (inr (inr (inr (inl (inl e)))))) = rw e refl
command_shape before end line more out (unsupported (inr (inr (inr (inl (inr h)))))) = rw h.1 refl
command_shape before end line more out (unsupported (inr (inr (inr (inr e))))) = absurd e
command_shape before end line more out (unknown_line h) =
    rw (
      other_word (codes "commit") line h.0,
      other_word (codes "tag") line h.1.0,
      other_word (codes "reset") line h.1.1.0,
      other_word (codes "progress") line h.1.1.1.0,
      other_word (codes "feature") line h.1.1.1.1.0,
      other_word (codes "option") line h.1.1.1.1.1.0,
      other_word (codes "blob") line h.1.1.1.1.1.1.0,
      other_word (codes "checkpoint") line h.1.1.1.1.1.1.1.0,
      other_word (codes "done") line h.1.1.1.1.1.1.1.1.0,
      other_word (codes "ls") line h.1.1.1.1.1.1.1.1.1.0,
      other_word (codes "cat-blob") line h.1.1.1.1.1.1.1.1.1.1.0,
      other_word (codes "get-mark") line h.1.1.1.1.1.1.1.1.1.1.1.0,
      other_word (codes "alias") line h.1.1.1.1.1.1.1.1.1.1.1.1.0,
    ) refl

-- the words of all commands
abbrev all_words : List Bytes
all_words = words_of_text ++ words_alone ++ unsupported_words

abbrev SomeCommand : List Command → End → List Item → Bytes → Type 0
SomeCommand before end more line = (out : TakenFrom Command) × IsCommand before end (Line line ∷ more) out

pub command_there : (before : List Command) (end : End) (more : List Item) (b : ℕ) (bs : Bytes) → SomeCommand before end more (b ∷ bs)
command_there before end more b bs = by (which_word all_words (b ∷ bs) refl) where
  is_blob : (o : TakenFrom BlobLines) → blob_lines end more o → SomeCommand before end more (codes "blob")
  is_blob (Ok (x, rest)) h = (Ok (blob_command x, rest), blob (made h))
  is_blob (Err f) h = (Err f, blob (refused h))

  is_commit : (text : Bytes) (g : Given Bytes) → IsRefText text g → (o : TakenFrom CommitLines) → commit_lines end more o → SomeCommand before end more (line_of (codes "commit") text)
  is_commit text (Err f) r o h = (Err f, commit_of_bad_ref r)
  is_commit text (Ok ref) r (Err f) h = (Err f, commit r (refused h))
  is_commit text (Ok ref) r (Ok (x, rest)) h = (Ok (commit_command ref x, rest), commit r (made h))

  is_tag : (text : Bytes) (g : Given Bytes) → IsTagNameText text g → (o : TakenFrom TagLines) → tag_lines end more o → SomeCommand before end more (line_of (codes "tag") text)
  is_tag text (Err f) r o h = (Err f, tag_of_bad_name r)
  is_tag text (Ok name) r (Err f) h = (Err f, tag r (refused h))
  is_tag text (Ok name) r (Ok (x, rest)) h = (Ok (tag_command name x, rest), tag r (made h))

  is_reset : (text : Bytes) (g : Given Bytes) → IsRefText text g → (o : TakenFrom ResetLines) → reset_lines end more o → SomeCommand before end more (line_of (codes "reset") text)
  is_reset text (Err f) r o h = (Err f, reset_of_bad_ref r)
  is_reset text (Ok ref) r (Err f) h = (Err f, reset r (refused h))
  is_reset text (Ok ref) r (Ok (x, rest)) h = (Ok (reset_command ref x, rest), reset r (made h))

  is_feature : (text : Bytes) → AreOptions before ⊎ (AreOptions before → ⊥) → (g : Given Feature) → IsFeatureText text g → SomeCommand before end more (line_of (codes "feature") text)
  is_feature text (inr n) g h = (Err faults.LateOption, late_feature n)
  is_feature text (inl o) (Ok x) h = (Ok (command.Asks x, more), feature o (of_text h))
  is_feature text (inl o) (Err f) h = (Err f, feature o (text_fault h))

  is_option_line : (text : Bytes) → AreOptions before ⊎ (AreOptions before → ⊥) → SomeCommand before end more (line_of (codes "option") text)
  is_option_line text (inr n) = (Err faults.LateOption, late_option n)
  is_option_line text (inl o) = (Ok (command.OptionLine text, more), option o)

  by : IsOfOne all_words (b ∷ bs) ⊎ IsOfNone all_words (b ∷ bs) → SomeCommand before end more (b ∷ bs)
  by (inl (inl (inl q))) = (Err faults.BadLine, command_without_text (inl q))
  by (inl (inl (inr (t, q)))) = let r = ref_there t in let o = commit_there end more in subst (SomeCommand before end more) (sym q) (is_commit t r.0 r.1 o.0 o.1)
  by (inl (inr (inl (inl q)))) = (Err faults.BadLine, command_without_text (inr (inl q)))
  by (inl (inr (inl (inr (t, q))))) = let r = tag_there t in let o = tag_lines_there end more in subst (SomeCommand before end more) (sym q) (is_tag t r.0 r.1 o.0 o.1)
  by (inl (inr (inr (inl (inl q))))) = (Err faults.BadLine, command_without_text (inr (inr (inl q))))
  by (inl (inr (inr (inl (inr (t, q)))))) = let r = ref_there t in let o = reset_there end more in subst (SomeCommand before end more) (sym q) (is_reset t r.0 r.1 o.0 o.1)
  by (inl (inr (inr (inr (inl (inl q)))))) = (Err faults.BadLine, command_without_text (inr (inr (inr (inl q)))))
  by (inl (inr (inr (inr (inl (inr (t, q))))))) = subst (SomeCommand before end more) (sym q) (Ok (command.Progress t, more), progress)
  by (inl (inr (inr (inr (inr (inl (inl q))))))) = (Err faults.BadLine, command_without_text (inr (inr (inr (inr (inl q))))))
  by (inl (inr (inr (inr (inr (inl (inr (t, q)))))))) = let r = feature_there t in subst (SomeCommand before end more) (sym q) (is_feature t (tested (list_all is_option before)) r.0 r.1)
  by (inl (inr (inr (inr (inr (inr (inl (inl q)))))))) = (Err faults.BadLine, command_without_text (inr (inr (inr (inr (inr (inl q)))))))
  by (inl (inr (inr (inr (inr (inr (inl (inr (t, q))))))))) = subst (SomeCommand before end more) (sym q) (is_option_line t (tested (list_all is_option before)))
  by (inl (inr (inr (inr (inr (inr (inr (inl (inl q))))))))) = let o = blob_there end more in subst (SomeCommand before end more) (sym q) (is_blob o.0 o.1)
  by (inl (inr (inr (inr (inr (inr (inr (inl (inr (t, q)))))))))) = (Err faults.BadLine, command_of_text t (inl refl) q)
  by (inl (inr (inr (inr (inr (inr (inr (inr (inl (inl q)))))))))) = subst (SomeCommand before end more) (sym q) (Ok (command.Checkpoint, more), checkpoint)
  by (inl (inr (inr (inr (inr (inr (inr (inr (inl (inr (t, q))))))))))) = (Err faults.BadLine, command_of_text t (inr (inl refl)) q)
  by (inl (inr (inr (inr (inr (inr (inr (inr (inr (inl (inl q))))))))))) = subst (SomeCommand before end more) (sym q) (Ok (command.Done, more), done)
  by (inl (inr (inr (inr (inr (inr (inr (inr (inr (inl (inr (t, q)))))))))))) = (Err faults.BadLine, command_of_text t (inr (inr (inl refl))) q)
  by (inl (inr (inr (inr (inr (inr (inr (inr (inr (inr h)))))))))) = (Err faults.Unsupported, unsupported h)
  by (inr h) = (Err faults.UnknownCommand, unknown_line h)

command_shorter : (before : List Command) (end : End) (is : List Item) (c : Command) (rest : List Item) → IsCommand before end is (Ok (c, rest)) → length rest < length is
command_shorter before end is c rest (blob (made h)) = let l = blob_no_longer _ _ _ _ h in omega (arith, l)
command_shorter before end is c rest (commit r (made h)) = let l = commit_no_longer _ _ _ _ h in omega (arith, l)
command_shorter before end is c rest (tag r (made h)) = let l = tag_no_longer _ _ _ _ h in omega (arith, l)
command_shorter before end is c rest (reset r (made h)) = let l = reset_no_longer _ _ _ _ h in omega (arith, l)
command_shorter before end is c rest checkpoint = omega arith
command_shorter before end is c rest progress = omega arith
command_shorter before end is c rest (feature o (of_text h)) = omega arith
command_shorter before end is c rest (option o) = omega arith
command_shorter before end is c rest done = omega arith

-- ---- all commands

not_done : (c : Command) → (c ≡ command.Done → ⊥) → is_done c ≡ false
not_done command.Done h = absurd (h refl)
not_done (command.Blob x) h = refl
not_done (command.Commit x) h = refl
not_done (command.Tag x) h = refl
not_done (command.Reset x) h = refl
not_done command.Checkpoint h = refl
not_done (command.Progress x) h = refl
not_done (command.Asks x) h = refl
not_done (command.OptionLine x) h = refl

-- an empty line begins no command
not_blank : (before : List Command) (end : End) (more : List Item) (out : TakenFrom Command) → IsCommand before end (Line [] ∷ more) out → ⊥
not_blank before end more out (command_without_text h) = blank_is_none words_of_text refl h
not_blank before end more out (command_of_text {word = word} text h q) = blank_has_no_text word text q
not_blank before end more out (unsupported h) = blank_is_of_none unsupported_words refl h

at_no_item : (n : ℕ) (end : End) (before : List Command) (cs : Commands) → AreCommands end before [] cs → commands_within n before [] end ≡ cs
unfolding commands_within
at_no_item n end before cs (taken c d h) = elim c [ ]
at_no_item n end before cs (at_done c) = elim c [ ]
at_no_item n end before cs (at_fault c) = elim c [ ]
at_no_item n end before cs (at_end e h) = rw (e, refuted (list_any asks_done before) h) refl
at_no_item n end before cs (at_missing_done e h) = rw (e, h) refl
at_no_item n end before cs (at_failure e) = rw e refl

at_a_block : (n : ℕ) (end : End) (before : List Command) (bytes : Bytes) (more : List Item) (cs : Commands) → AreCommands end before (Data bytes ∷ more) cs → commands_within (suc n) before (Data bytes ∷ more) end ≡ cs
unfolding commands_within
at_a_block n end before bytes more cs (taken c d h) = elim c [ ]
at_a_block n end before bytes more cs (at_done c) = elim c [ ]
at_a_block n end before bytes more cs (at_fault c) = by c where
  by : {f : Fault} → IsCommand before end (Data bytes ∷ more) (Err f) → stops (Some faults.UnknownCommand) ≡ stops (Some f)
  by unknown_block = refl

commands_in : (n : ℕ) (end : End) (before : List Command) (is : List Item) (cs : Commands) → length is ≤ n → AreCommands end before is cs → commands_within n before is end ≡ cs
unfolding commands_within
commands_in n end before [] cs l h = at_no_item n end before cs h
commands_in zero end before (i ∷ is) cs l h = absurd (omega (arith, l))
commands_in (suc n) end before (Data bytes ∷ more) cs l h = at_a_block n end before bytes more cs h
commands_in (suc n) end before (Line [] ∷ more) cs l (skipped h) = commands_in n end before more cs (omega (arith, l)) h
commands_in (suc n) end before (Line [] ∷ more) cs l (taken c d h) = absurd (not_blank before end more _ c)
commands_in (suc n) end before (Line [] ∷ more) cs l (at_done c) = absurd (not_blank before end more _ c)
commands_in (suc n) end before (Line [] ∷ more) cs l (at_fault c) = absurd (not_blank before end more _ c)
commands_in (suc n) end before (Line (b ∷ bs) ∷ more) cs l (taken {rest = rest} {c = c} {cs = later} k d h) =
    let s = command_shorter before end (Line (b ∷ bs) ∷ more) c rest k in
    rw (command_shape before end (b ∷ bs) more (Ok (c, rest)) k, not_done c d) (ap (with_command c) (commands_in n end (before ++ c ∷ []) rest later (omega (arith, s, l)) h))
commands_in (suc n) end before (Line (b ∷ bs) ∷ more) cs l (at_done {rest = rest} k) = rw (command_shape before end (b ∷ bs) more (Ok (command.Done, rest)) k) refl
commands_in (suc n) end before (Line (b ∷ bs) ∷ more) cs l (at_fault {f = f} k) = rw (command_shape before end (b ∷ bs) more (Err f) k) refl

-- a command is `done` or not
is_last : (c : Command) → (c ≡ command.Done) ⊎ (c ≡ command.Done → ⊥)
is_last c = by c (tested (is_done c)) where
  by : (c : Command) → (is_done c ≡ true) ⊎ (is_done c ≡ true → ⊥) → (c ≡ command.Done) ⊎ (c ≡ command.Done → ⊥)
  by c (inr n) = inr (λ e. n (ap is_done e))
  by command.Done (inl h) = inl refl
  by (command.Blob x) (inl h) = absurd cc
  by (command.Commit x) (inl h) = absurd cc
  by (command.Tag x) (inl h) = absurd cc
  by (command.Reset x) (inl h) = absurd cc
  by command.Checkpoint (inl h) = absurd cc
  by (command.Progress x) (inl h) = absurd cc
  by (command.Asks x) (inl h) = absurd cc
  by (command.OptionLine x) (inl h) = absurd cc

abbrev Somehow : End → List Command → List Item → Type 0
Somehow end before is = (cs : Commands) × AreCommands end before is cs

commands_there : (n : ℕ) (end : End) (before : List Command) (is : List Item) → length is < n → Somehow end before is
commands_there zero end before is l = absurd (omega (arith, l))
commands_there (suc n) (Failed f) before [] l = (stops (Some f), at_failure refl)
commands_there (suc n) Finished before [] l = by (tested (list_any asks_done before)) where
  by : AskDone before ⊎ (AskDone before → ⊥) → Somehow Finished before []
  by (inl h) = (stops (Some faults.MissingDone), at_missing_done refl h)
  by (inr h) = (stops None, at_end refl h)
commands_there (suc n) end before (Data bytes ∷ more) l = (stops (Some faults.UnknownCommand), at_fault unknown_block)
commands_there (suc n) end before (Line [] ∷ more) l = let c = commands_there n end before more (omega (arith, l)) in (c.0, skipped c.1)
commands_there (suc n) end before (Line (b ∷ bs) ∷ more) l = let o = command_there before end more b bs in by (λ before rest k. commands_there n end before rest k) o.0 o.1 where
  go_on : ((before : List Command) (rest : List Item) → length rest < n → Somehow end before rest) → (c : Command) (rest : List Item) → IsCommand before end (Line (b ∷ bs) ∷ more) (Ok (c, rest)) → (c ≡ command.Done) ⊎ (c ≡ command.Done → ⊥) → Somehow end before (Line (b ∷ bs) ∷ more)
  go_on again c rest h (inl e) = (with_command command.Done (stops None), at_done (subst (λ c. IsCommand before end (Line (b ∷ bs) ∷ more) (Ok (c, rest))) e h))
  go_on again c rest h (inr d) =
      let s = command_shorter before end (Line (b ∷ bs) ∷ more) c rest h in
      let a = again (before ++ c ∷ []) rest (omega (arith, s, l)) in
      (with_command c a.0, taken h d a.1)

  by : ((before : List Command) (rest : List Item) → length rest < n → Somehow end before rest) → (o : TakenFrom Command) → IsCommand before end (Line (b ∷ bs) ∷ more) o → Somehow end before (Line (b ∷ bs) ∷ more)
  by again (Err f) h = (stops (Some f), at_fault h)
  by again (Ok (c, rest)) h = go_on again c rest h (is_last c)

pub one_commands : (f : Features) (s : Stream) (cs : Commands) → AreCommands s.end (asked f) s.items cs → commands_asked f s ≡ cs
one_commands f s cs h = commands_in (length s.items) s.end (asked f) s.items cs (omega arith) h

pub some_commands : (f : Features) (s : Stream) → AreCommands s.end (asked f) s.items (commands_asked f s)
some_commands f s =
    let c = commands_there (suc (length s.items)) s.end (asked f) s.items (omega arith) in
    subst (AreCommands s.end (asked f) s.items) (sym (one_commands f s c.0 c.1)) c.1
