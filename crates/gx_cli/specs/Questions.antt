-- What is asked of a repository, and what is answered.
-- Source: gitrevisions(7), and gitglossary(7), "commit object".
use Rattle.std.specs.Prelude.{◌≡◌, List, map, Option, Some, None, Result, Ok, Err, IsOk, ⊤}
use Rattle.std.specs.declared.vec.Vec.{Vec}
use Rattle.gx_model.specs.declared.objects.Kind.{Kind}
use Rattle.gx_model.specs.Texts.{Bytes}
use Rattle.gx_model.specs.Faults.{Given, ◌>>=◌}
use Rattle.gx_model.specs.Histories.{History}
use Rattle.gx_model.specs.Objects.{CommitParts}
use Rattle.gx_model.specs.Records.{parts_of_commit}
use Rattle.gx_model.specs.Revisions.{Revision}
use Rattle.gx_model.specs.Revisions.Denotation.{commit_denoted, looked_up}
use Rattle.gx_model.specs.Revisions.Ranges.{WordFault, listed}
use Rattle.gx_object.specs.declared.name.Name.{Name}
use Rattle.gx_rev.specs.RevFaults.{fault_of}
use Rattle.gx_rev.specs.Views.{shown_range}
use Rattle.gx_cli.specs.Trying.{LooksAs}
use Rattle.gx_cli.specs.declared.fault.CliFault.{CliFault}
use Rattle.gx_cli.specs.declared.fault.CliFault.TheVariants as cli
use Rattle.gx_cli.specs.declared.questions.CommitFields.{CommitFields}
use Rattle.gx_cli.specs.declared.questions.Question.{Question}
use Rattle.gx_cli.specs.declared.questions.Reply.{Reply}

-- the fields of a commit's body, as the model has them
abbrev pub shown_fields : {A : Type 0} → CommitFields A → CommitParts
shown_fields fields = record {
  tree = fields.tree.bytes;
  parents = map (λ parent. parent.bytes) fields.parents.items;
  text = record {
    author = fields.author.items;
    committer = fields.committer.items;
    headers = fields.headers.items;
    message = fields.message.items;
  };
}

-- the fields of the commit that a revision gives in a history
abbrev pub commit_read : (Kind → Bytes → Bytes) → History → Revision → Given CommitParts
commit_read name h revision = commit_denoted name h revision >>= λ made. Ok (parts_of_commit name made)

-- these fields are given, or why none are; memory may run out only where some are
abbrev pub ReadsAs : {A : Type 0} → Given CommitParts → Result (CommitFields A) CliFault → Type 0
ReadsAs given (Ok fields) = given ≡ Ok (shown_fields fields)
ReadsAs given (Err (cli.Revision number kind)) = (number ≡ 1) × (given ≡ Err (fault_of kind))
ReadsAs given (Err cli.OutOfMemory) = IsOk given
ReadsAs given (Err fault) = ⊥

-- these names are given, or the first word that is refused; memory may run out only where none is
abbrev pub ListsAs : {A : Type 0} → Result (List Bytes) WordFault → Result (Vec Name A) CliFault → Type 0
ListsAs given (Ok names) = given ≡ Ok (map (λ called. called.bytes) names.items)
ListsAs given (Err (cli.Revision number kind)) = given ≡ Err (record { word = number; fault = fault_of kind })
ListsAs given (Err cli.OutOfMemory) = IsOk given
ListsAs given (Err fault) = ⊥

module _ (name : Kind → Bytes → Bytes) (h : History) {A : Type 0} where
  -- what is answered to a question is what the history has
  pub record IsReply (question : Question A) (reply : Reply A) : Type 0 where
    -- the file at the path in the revision's tree: the mode and the bytes that the map of whole paths has there
    pub file : LooksAs (looked_up name h question.revision question.path) reply.file
    -- the commit's tree, parents, identities, headers and message
    pub commit : ReadsAs (commit_read name h question.revision) reply.commit
    -- the commits that some word includes and none excludes, the newest made first
    pub listed : ListsAs (listed name h (map shown_range question.ranges.items)) reply.listed

  -- the same, where a question is asked
  abbrev pub Replies : Option (Question A) → Option (Reply A) → Type 0
  Replies None None = ⊤
  Replies (Some question) (Some reply) = IsReply question reply
  Replies asked answered = ⊥
