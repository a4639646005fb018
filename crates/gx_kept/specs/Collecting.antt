-- The next text of a store that lets objects go. Source: git-gc(1) and git-prune(1).
use Rattle.std.specs.Prelude.{◌≡◌, ◌+◌, List, length, IfOk, Option, Result, Ok}
use Rattle.sha2.specs.Sha256.{sha256}
use Rattle.gx_model.specs.declared.objects.Kind.{Kind}
use Rattle.gx_model.specs.Histories.{Records}
use Rattle.gx_model.specs.Texts.{Bytes}
use Rattle.gx_model.specs.Texts.Sinks.{Taken}
use Rattle.gx_growing.specs.GrowingReading.{grown_of}
use Rattle.gx_growing.specs.GrowingText.{growing_text}
use Rattle.gx_repo.specs.Pruning.{pruned_beside, weight}
use Rattle.gx_repo.specs.declared.pruning.Pruned.{Pruned}
use Rattle.gx_kept.specs.Faults.{Sends}
use Rattle.gx_kept.specs.declared.fault.KeptFault.{KeptFault}

-- the growing text of a repository went out, which is read as that repository, or a front of it
pub record Rewrites {X : Type 0} (name : Kind → Bytes → Bytes) (r : Records) (was now : Option Taken) (result : Result X KeptFault) : Type 0 where
  pub text : Sends (growing_text sha256 r) was now result
  pub read : IfOk result (λ _. grown_of name sha256 (growing_text sha256 r) ≡ Ok r)

-- the same of what refs and the objects of these names reach, with how much goes
pub record Collects (name : Kind → Bytes → Bytes) (names : List Bytes) (old : Records) (was now : Option Taken) (result : Result Pruned KeptFault) : Type 0 where
  pub left : Rewrites name (pruned_beside names old) was now result
  pub objects : IfOk result (λ gone. gone.objects + length (pruned_beside names old).records ≡ length old.records)
  pub bytes : IfOk result (λ gone. gone.bytes + weight (pruned_beside names old).records ≡ weight old.records)
