-- Range words that are refused where their commits are listed.
use Rattle.std.proofs.Common.{ℕ, Bool, ap, List}
use Rattle.gx_model.specs.declared.objects.Kind.{Kind}
use Rattle.gx_model.specs.Texts.{Bytes}
use Rattle.gx_model.specs.Histories.{History}
use Rattle.gx_model.specs.Revisions.Ranges.{listed}
use Rattle.gx_model.specs.Revisions.{RangeWord}
use Rattle.gx_rev.specs.declared.fault.RevFault.{RevFault}
use Rattle.gx_rev.specs.declared.fault.RevFault.TheVariants.{OutOfMemory}
use Rattle.gx_rev.specs.RevFaults.{fault_of}
use Rattle.gx_rev.specs.Walking.{IsWordFault}
use Rattle.gx_print.proofs.ListedCommits.{listed_fails, logged_fails}
use Rattle.gx_print.specs.Logs.{commits_logged}
use Rattle.gx_print.specs.Stored.{all_words, commits_listed}
use Rattle.gx_cli.specs.Words.{RefusesWord, refused_at}

module _ (name : Kind → Bytes → Bytes) (h : History) where
  -- the word that a walk refuses is refused where its commits are listed
  pub walk_refused : (ws : List RangeWord) (word : ℕ) (kind : RevFault) → IsWordFault word (fault_of kind) (listed name h ws) → RefusesWord (refused_at word kind) (all_words (commits_listed name h ws))
  walk_refused ws word OutOfMemory i = tt
  walk_refused ws word kind i = ap all_words (listed_fails name h ws (record { word = word; fault = fault_of kind }) i)

  -- and the word that is refused is refused there
  pub logged_refused : (refs : Bool) (ws : List RangeWord) (word : ℕ) (kind : RevFault) → IsWordFault word (fault_of kind) (listed name h ws) → RefusesWord (refused_at word kind) (all_words (commits_logged name h refs ws))
  logged_refused refs ws word OutOfMemory i = tt
  logged_refused refs ws word kind i = ap all_words (logged_fails name h refs ws (record { word = word; fault = fault_of kind }) i)
