-- What refs, digits and names find among records.
-- Source: gitrevisions(7), "Specifying Revisions".
use Rattle.std.specs.Prelude.{List, [], ◌∷◌, Option, None, Some}
use Rattle.std.specs.List.{filter}
use Rattle.std.specs.Map.{lookup}
use Rattle.gx_model.specs.declared.objects.Kind.{Kind}
use Rattle.gx_model.specs.declared.objects.Kind.TheVariants as kind
use Rattle.gx_model.specs.Texts.{Bytes, same_bytes}
use Rattle.gx_model.specs.Histories.Values.{Value, blob_value, commit_value, tag_value, tree_value}
use Rattle.gx_model.specs.Records.{name_of}
use Rattle.gx_model.specs.Histories.{Record}
use Rattle.gx_model.specs.Records.HistoryOf.{tag_parts_in}
use Rattle.gx_model.specs.Records.Growth.{record_named}
use Rattle.gx_model.specs.Revisions.Denotation.{begins_with_digits}
use Rattle.std.specs.Option.{option_or}

-- the object of the first of these names that is a ref's
abbrev pub first_named : List (Bytes × Bytes) → List Bytes → Option Bytes
first_named refs [] = None
first_named refs (n ∷ ns) = option_or (lookup (same_bytes n) refs) (first_named refs ns)

-- the records whose name begins with these digits
abbrev pub records_begun_by : List Record → Bytes → List Record
records_begun_by rs digits = filter (λ r. begins_with_digits digits r.name) rs

-- the commit that a commit's or a tag's record gives
abbrev pub commit_of_record : Kind → Bytes → Bytes → Option Bytes
commit_of_record kind.Commit n body = Some n
commit_of_record kind.Tag n body = Some (tag_parts_in body).object
commit_of_record _ n body = None

-- the commit that a commit or a tag of this name gives
abbrev pub commit_named : List Record → Bytes → Option Bytes
commit_named rs n = elim (record_named rs n) [ None ↦ None | Some r ↦ commit_of_record r.kind r.name r.body ]

-- the name of the commit that a value gives
abbrev pub commit_name_of : (Kind → Bytes → Bytes) → Value → Option Bytes
commit_name_of name (blob_value x) = None
commit_name_of name (tree_value f) = None
commit_name_of name (commit_value c) = Some (name_of name (commit_value c))
commit_name_of name (tag_value t) = Some (name_of name (commit_value t.target))
