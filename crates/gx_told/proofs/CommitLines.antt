-- What is printed of held commits, one after the other, with their bodies or by their names alone.
use Rattle.std.proofs.Common.{◌≡◌, ◌∙◌, arith, Bool, true, false, refl, sym, ap, List, [], ◌∷◌, ◌++◌, map, length, append-nil, Option, Ok, Err}
use Rattle.std.specs.List.{flat_map, join_by}
use Rattle.gx_model.specs.declared.objects.Kind.{Kind}
use Rattle.gx_model.specs.declared.objects.Kind.TheVariants as kinds
use Rattle.gx_model.specs.Histories.{Records}
use Rattle.gx_model.specs.Histories.Values.{commit_value}
use Rattle.gx_model.specs.Objects.{CommitParts, IsNamer, hex}
use Rattle.gx_model.specs.Records.{name_of, parts_of_commit}
use Rattle.gx_model.specs.Records.Sound.{IsSound}
use Rattle.gx_model.specs.Texts.{Bytes}
use Rattle.gx_model.specs.Texts.Sinks.{Taken, Took}
use Rattle.gx_model.proofs.Texts.SentTexts.{IsLeft, all_left, less_left, none_left, took_nothing}
use Rattle.gx_object.specs.declared.name.Name.{Name}
use Rattle.gx_asks.specs.declared.question.LogFormat.{LogFormat}
use Rattle.gx_asks.specs.declared.question.LogFormat.TheVariants.{Names}
use Rattle.gx_asks.specs.declared.question.LogOptions.{LogOptions}
use Rattle.gx_print.specs.Logs.{AreCommits, entries_text, entry_of, entry_of_parts, gap, next_entry, told_parts}
use Rattle.gx_rev.specs.Objects.{IsHeldAs, commit_at}
use Rattle.gx_print.proofs.ListedCommits.{commit_called}
use Rattle.gx_told.specs.Logging.{are_names, is_of_names, name_line, name_lines}
use Rattle.gx_told.specs.Printing.{PrintsText}
use Rattle.gx_told.specs.declared.fault.ToldFault.{ToldFault}
use Rattle.gx_told.proofs.Pieces.{cut_short}

-- ---- names alone

told_alone : (format : LogFormat) (parents : Bool) (called : Bytes) (parts : CommitParts) → is_of_names format parents ≡ true → told_parts format parents called parts ≡ hex called
told_alone Names true called parts h = absurd (cc h)
told_alone Names false called parts h = append-nil (hex called)
told_alone format parents called parts h = absurd (cc h)

no_gap : (format : LogFormat) (parents : Bool) → is_of_names format parents ≡ true → gap format ≡ []
no_gap Names parents h = refl
no_gap format parents h = absurd (cc h)

module _ (name : Kind → Bytes → Bytes) (namer : IsNamer name) (r : Records) (sound : IsSound name r) (options : LogOptions) where
  entry_alone : (n : Name) → are_names options ≡ true → IsHeldAs kinds.Commit r n → entry_of name options (commit_at r n) ≡ name_line n.bytes
  entry_alone n h held =
      ap (λ text. text ++ 10 ∷ []) (told_alone options.format options.parents (name_of name (commit_value (commit_at r n))) (parts_of_commit name (commit_at r n)) h)
      ∙ ap (λ called. hex called ++ 10 ∷ []) (sym (commit_called name namer r sound n.bytes held))

  others_alone : (ns : List Name) → are_names options ≡ true → AreCommits r ns → flat_map (λ made. [] ++ entry_of name options made) (map (commit_at r) ns) ≡ name_lines ns
  others_alone [] h held = refl
  others_alone (n ∷ ns) h held =
      let first = entry_alone n h held.0 in
      let rest = others_alone ns h held.1 in
      λ i. first i ++ rest i

  joined_alone : (ns : List Name) → are_names options ≡ true → AreCommits r ns → join_by (entry_of name options) [] (map (commit_at r) ns) ≡ name_lines ns
  joined_alone [] h held = refl
  joined_alone (n ∷ ns) h held =
      let first = entry_alone n h held.0 in
      let rest = others_alone ns h held.1 in
      λ i. first i ++ rest i

  -- where nothing but names is asked for, they are printed
  pub names_alone : (ns : List Name) → are_names options ≡ true → AreCommits r ns → name_lines ns ≡ entries_text name options (map (commit_at r) ns)
  names_alone ns h held =
      sym (ap (λ between. join_by (entry_of name options) between (map (commit_at r) ns)) (no_gap options.format options.parents h) ∙ joined_alone ns h held)

  -- ---- a commit's text

  -- what is made of a held commit's parts is what is printed of it
  pub entry_made : (n : Name) (parts : CommitParts) → IsHeldAs kinds.Commit r n → parts ≡ parts_of_commit name (commit_at r n) → entry_of_parts options n.bytes parts ≡ entry_of name options (commit_at r n)
  entry_made n parts held same = let called = commit_called name namer r sound n.bytes held in λ i. entry_of_parts options (called i) (same i)

-- of no commits nothing is printed
pub no_entries : (name : Kind → Bytes → Bytes) (options : LogOptions) (r : Records) (ns : List Name) (was : Option Taken) → length ns ≡ 0 → PrintsText (entries_text name options (map (commit_at r) ns)) was was (Ok tt)
no_entries name options r [] was e = took_nothing was
no_entries name options r (n ∷ ns) was e = absurd (omega arith)

-- ---- one behind the other

module _ (name : Kind → Bytes → Bytes) (options : LogOptions) (all : List Name) (was : Option Taken) where
  abbrev lines_of : Records → List Name → Bytes
  lines_of r ns = flat_map (next_entry name options) (map (commit_at r) ns)

  -- these commits are left
  pub record Goes (mid : Option Taken) (left : List Name) (r : Records) : Type 0 where
    pub lines : IsLeft (lines_of r all) was mid (lines_of r left)
    pub held : AreCommits r left

  pub starts : (r : Records) → AreCommits r all → Goes was all r
  starts r h = record { lines = all_left (lines_of r all) was; held = h }

  pub goes_on : (mid now : Option Taken) (n : Name) (left : List Name) (r : Records) → Goes mid (n ∷ left) r → Took mid now (gap options.format ++ entry_of name options (commit_at r n)) → Goes now left r
  goes_on mid now n left r h k = record { lines = less_left (lines_of r all) was mid now (next_entry name options (commit_at r n)) (lines_of r left) h.lines k; held = h.held.1 }

  pub stops : (mid now : Option Taken) (n : Name) (left : List Name) (fault : ToldFault) (r : Records) → Goes mid (n ∷ left) r → PrintsText (gap options.format ++ entry_of name options (commit_at r n)) mid now (Err fault) → PrintsText (lines_of r all) was now (Err fault)
  stops mid now n left fault r h k = cut_short was mid now (lines_of r all) (next_entry name options (commit_at r n)) (lines_of r left) fault h.lines k

  pub ends : (now : Option Taken) (r : Records) → Goes now [] r → Took was now (lines_of r all)
  ends now r h = none_left (lines_of r all) was now [] refl h.lines
