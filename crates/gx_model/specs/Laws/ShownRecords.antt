-- What records show, object by object: files at paths, and the commits that range words list, by their names and by the parents
-- that bodies tell.
-- Source: gitrevisions(7), and Pro Git, "Git Objects".
use Rattle.std.specs.Prelude.{ℕ, zero, suc, Bool, false, not, ◌&&◌, ◌||◌, List, [], length, map, reverse, Option, None, Some, Ok, Err}
use Rattle.std.specs.List.{filter, list_any, slice_get}
use Rattle.std.specs.Option.{ok_or}
use Rattle.std.specs.declared.result.Result.{Result}
use Rattle.gx_model.specs.declared.objects.Kind.{Kind}
use Rattle.gx_model.specs.declared.objects.Kind.TheVariants as kind
use Rattle.gx_model.specs.declared.objects.Mode.TheVariants.{Gitlink, Dir}
use Rattle.gx_model.specs.declared.faults.Fault.TheVariants.{NoParent, NoSuchPath, UnknownObject, WrongKind}
use Rattle.gx_model.specs.Texts.{Bytes, same_bytes}
use Rattle.gx_model.specs.Faults.{Given, ◌>>=◌}
use Rattle.gx_model.specs.Texts.Paths.{Path}
use Rattle.gx_model.specs.Histories.Files.{Leaf}
use Rattle.gx_model.specs.Objects.{hex}
use Rattle.gx_model.specs.Histories.{Record}
use Rattle.gx_model.specs.Records.HistoryOf.{commit_parts_in, tag_parts_in}
use Rattle.gx_model.specs.Records.Growth.{record_named, same_kind}
use Rattle.gx_model.specs.Records.Walks.{walked}
use Rattle.gx_model.specs.Records.Lookups.{commit_named}
use Rattle.gx_model.specs.Revisions.{RangeWord, Revision, AllParents, Alone, Apart, Between, WithAncestors, WithoutAncestors, WithoutOne}
use Rattle.gx_model.specs.Revisions.Ranges.{WordFault, each_word}

-- ---- objects and files

-- the body of the object of this name
abbrev pub body_named : List Record → Bytes → Bytes
body_named records called = elim (record_named records called) [ None ↦ [] | Some held ↦ held.body ]

-- the tree that an object names: a tree itself, a commit the one in its body, a tag that of its commit
abbrev pub tree_in : List Record → Kind → Bytes → Bytes → Given Bytes
tree_in records kind.Blob called body = Err WrongKind
tree_in records kind.Tree called body = Ok called
tree_in records kind.Commit called body = Ok (commit_parts_in body).tree
tree_in records kind.Tag called body = Ok (commit_parts_in (body_named records (tag_parts_in body).object)).tree

-- the tree that the object of this name names
abbrev pub tree_named : List Record → Bytes → Given Bytes
tree_named records called =
    elim (record_named records called) [ None ↦ Err UnknownObject | Some held ↦ tree_in records held.kind called held.body ]

-- the mode and bytes of the file where a walk ended
abbrev pub leaf_held : List Record → Option (Leaf Bytes) → Given (Leaf Bytes)
leaf_held records None = Err NoSuchPath
leaf_held records (Some (Dir, called)) = Err WrongKind
leaf_held records (Some (Gitlink, called)) = Ok (Gitlink, hex called)
leaf_held records (Some (mode, called)) = Ok (mode, body_named records called)

-- the mode and bytes at a path below the object of this name, tree by tree
abbrev pub file_held : List Record → Bytes → Path → Given (Leaf Bytes)
file_held records called path = tree_named records called >>= λ tree. leaf_held records (walked records tree path)

-- ---- commits and their ancestors

-- the parents in the body of the commit of this name
abbrev pub parents_named : List Record → Bytes → List Bytes
parents_named records called = (commit_parts_in (body_named records called)).parents

-- whether one commit is another, or an ancestor of it, going to parents at most n times
abbrev pub leads_within : ℕ → List Record → Bytes → Bytes → Bool
leads_within zero records from to = same_bytes from to
leads_within (suc n) records from to =
    same_bytes from to || list_any (λ parent. leads_within n records parent to) (parents_named records from)

-- whether one commit is another, or an ancestor of it: no commit is more steps away than there are records
abbrev pub leads_to : List Record → Bytes → Bytes → Bool
leads_to records from to = leads_within (length records) records from to

-- whether a parent of a commit leads to another
abbrev pub parent_leads_to : List Record → Bytes → Bytes → Bool
parent_leads_to records from to = list_any (λ parent. leads_to records parent to) (parents_named records from)

-- the commit of a commit's or a tag's name
abbrev pub commit_held : List Record → Bytes → Given Bytes
commit_held records called = ok_or (commit_named records called) WrongKind

-- a commit's parent of this number, from 1; 0 is the commit
abbrev pub parent_held : List Record → ℕ → Bytes → Given Bytes
parent_held records zero called = Ok called
parent_held records (suc n) called = ok_or (slice_get (parents_named records called) n) NoParent

-- ---- ranges

-- which names a range word includes and excludes
pub record NameSpan : Type 0 where
  pub included : Bytes → Bool
  pub excluded : Bytes → Bool

-- no name
abbrev pub no_commit_name : Bytes → Bool
no_commit_name called = false

-- what a word includes and excludes, by the commits that its revisions give
abbrev pub span_held : List Record → (Revision → Given Bytes) → RangeWord → Given NameSpan
span_held records given (WithAncestors r) = given r >>= λ c. Ok (record { included = leads_to records c; excluded = no_commit_name })
span_held records given (WithoutAncestors r) = given r >>= λ c. Ok (record { included = no_commit_name; excluded = leads_to records c })
span_held records given (Between a b) =
    given a >>= λ c. given b >>= λ d. Ok (record { included = leads_to records d; excluded = leads_to records c })
span_held records given (Apart a b) =
    (given a >>= λ c. given b >>= λ d.
    Ok (record {
      included = λ n. leads_to records c n || leads_to records d n;
      excluded = λ n. leads_to records c n && leads_to records d n;
    }))
span_held records given (AllParents r) = given r >>= λ c. Ok (record { included = parent_leads_to records c; excluded = no_commit_name })
span_held records given (Alone r) =
    given r >>= λ c. Ok (record { included = leads_to records c; excluded = parent_leads_to records c })
span_held records given (WithoutOne r n) =
    given r >>= λ c. parent_held records n c >>= λ p. Ok (record { included = leads_to records c; excluded = leads_to records p })

-- the names of the commits among records, in their order
abbrev pub commits_held : List Record → List Bytes
commits_held records = map (λ held. held.name) (filter (λ held. same_kind held.kind kind.Commit) records)

-- whether some word includes a name and none excludes it
abbrev pub is_listed : List NameSpan → Bytes → Bool
is_listed spans called = list_any (λ span. span.included called) spans && not (list_any (λ span. span.excluded called) spans)

-- the commits that range words list, the newest put first; or the first word that is refused
abbrev pub listed_held : List Record → (Revision → Given Bytes) → List RangeWord → Result (List Bytes) WordFault
listed_held records given words =
    each_word (span_held records given) words >>= λ spans. Ok (filter (is_listed spans) (reverse (commits_held records)))
