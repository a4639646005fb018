-- The export of what range words give, among the answers of the commands.
use Rattle.std.proofs.Common.{◌≡◌, ℕ, ap, refl, Bool, List, Option, Result, Ok, Err}
use Rattle.gx_model.specs.declared.objects.Kind.{Kind}
use Rattle.gx_model.specs.Texts.{Bytes}
use Rattle.gx_model.specs.Texts.Sinks.{Taken}
use Rattle.gx_model.specs.Histories.{Records}
use Rattle.gx_model.specs.Records.HistoryOf.{history_of}
use Rattle.gx_model.specs.Revisions.{RangeWord, range_of}
use Rattle.gx_model.specs.Revisions.Ranges.{WordFault, each_word, listed}
use Rattle.gx_rev.specs.declared.fault.RevFault.{RevFault}
use Rattle.gx_rev.specs.declared.fault.RevFault.TheVariants.{OutOfMemory}
use Rattle.gx_rev.specs.RevFaults.{fault_of}
use Rattle.gx_rev.specs.Walking.{IsWordFault}
use Rattle.gx_export.specs.ChangedParts.{DeliversWords}
use Rattle.gx_export.specs.declared.fault.ExportFault.{ExportFault}
use Rattle.gx_cli.specs.declared.fault.CliFault.{CliFault}
use Rattle.gx_cli.specs.declared.fault.CliFault.TheVariants as cli
use Rattle.gx_cli.specs.Forms.{SendsRange}
use Rattle.gx_print.specs.Stored.{all_words, commits_listed}
use Rattle.gx_cli.specs.Words.{RefusesWord, refused_at}
use Rattle.gx_cli.proofs.ListedCommits.{walk_refused}
use Rattle.gx_cli.proofs.RefusedWords.{first_refused, later_refused}

given_words : {A : Type 0} (a : Result A WordFault) (x : A) → all_words a ≡ Ok x → a ≡ Ok x
given_words (Ok y) x e = let same : y ≡ x = cc e in ap Ok same
given_words (Err f) x e = absurd (cc e)

module _ (name : Kind → Bytes → Bytes) (done : Bool) (repository : Records) (words : List Bytes) where
  -- a text that is no range word is told, and nothing went out
  pub range_unread : (was : Option Taken) (fault : CliFault) → RefusesWord fault (all_words (each_word range_of words)) → SendsRange name done repository words was was (Err fault)
  range_unread was (cli.Revision number kind) h = (refl, first_refused (each_word range_of words) (commits_listed name (history_of repository)) (cli.Revision number kind) h)
  range_unread was cli.OutOfMemory h = refl
  range_unread was fault h = absurd h

  module _ (asked : List RangeWord) (read : all_words (each_word range_of words) ≡ Ok asked) (was now : Option Taken) where
    -- a word that gives nothing is told, and nothing went out
    pub range_refused : (word : ℕ) (kind : RevFault) → (now ≡ was) × IsWordFault word (fault_of kind) (listed name (history_of repository) asked) → SendsRange name done repository words was now (Err (refused_at word kind))
    range_refused word OutOfMemory h = h.0
    range_refused word kind h =
        (h.0, later_refused (each_word range_of words) asked (commits_listed name (history_of repository)) (refused_at word kind) read (walk_refused name (history_of repository) asked word kind h.1))

    -- all of the text went out
    pub range_sent : (answer : Unit {0}) → DeliversWords name done (history_of repository) asked was now (Ok tt) → SendsRange name done repository words was now (Ok answer)
    range_sent answer h = (asked, given_words (each_word range_of words) asked read, h)

    -- a front of the text went out
    pub range_stopped : (fault : ExportFault) → DeliversWords name done (history_of repository) asked was now (Err fault) → SendsRange name done repository words was now (Err (cli.Export fault))
    range_stopped fault h = (asked, given_words (each_word range_of words) asked read, h)
