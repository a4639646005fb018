-- What bodies of stand-ins are. Source: Pro Git, "Git Objects".
use Rattle.std.specs.Prelude.{◌≡◌, Some}
use Rattle.gx_model.specs.declared.objects.Kind.TheVariants as kind
use Rattle.gx_model.specs.Texts.{Bytes}
use Rattle.gx_model.specs.Records.HistoryOf.{commit_parts_in}
use Rattle.gx_stand_ins.specs.SmallRepositories.{stood_for}
use Rattle.gx_stand_ins.specs.declared.bodies.TheConstants.{NONCE}

-- a commit of this body stands for the one of this name, and has this tree
pub record StandsForCommit (tree called body : Bytes) : Type 0 where
  pub stands : stood_for NONCE kind.Commit body ≡ Some called
  pub tree_is : (commit_parts_in body).tree ≡ tree
