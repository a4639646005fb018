-- Which objects the refs of a repository reach, and the repository with these alone.
-- Source: git-prune(1), and gitglossary(7), "reachable" and "unreachable object".
use Rattle.std.specs.Prelude.{Bool, ◌&&◌, ◌||◌, List, [], ◌∷◌, Option}
use Rattle.std.specs.List.{filter, filter_map, list_any}
use Rattle.gx_model.specs.declared.objects.Kind.{Kind}
use Rattle.gx_model.specs.declared.objects.Kind.TheVariants as kind
use Rattle.gx_model.specs.Texts.{Bytes, same_bytes}
use Rattle.gx_model.specs.Objects.{Entry}
use Rattle.gx_model.specs.Histories.{Record, Records}
use Rattle.gx_model.specs.Records.HistoryOf.{commit_parts_in, entries_in, tag_parts_in}
use Rattle.gx_model.specs.Histories.Values.{unless_gitlink}

-- ---- what an object names

-- the name of the object that an entry names; a gitlink names none
abbrev pub link_of : Entry → Option Bytes
link_of entry = unless_gitlink entry.mode entry.name

-- the names of the objects that a body of this kind names: a tree's entries, a commit's tree and parents, a tag's object
abbrev pub links_of : Kind → Bytes → List Bytes
links_of kind.Blob body = []
links_of kind.Tree body = filter_map link_of (entries_in body)
links_of kind.Commit body = (commit_parts_in body).tree ∷ (commit_parts_in body).parents
links_of kind.Tag body = (tag_parts_in body).object ∷ []

-- whether a record's object names that of this name
abbrev pub links_to : Record → Bytes → Bool
links_to held name = list_any (same_bytes name) (links_of held.kind held.body)

-- ---- what refs reach

-- whether one of these refs holds the object of this name
abbrev pub is_tip : List (Bytes × Bytes) → Bytes → Bool
is_tip refs name = list_any (λ ref. same_bytes name ref.1) refs

-- whether refs reach the object of this name, where each of these records stands behind those that it names:
-- a ref holds it, or a record that they reach names it
abbrev pub is_reachable : List (Bytes × Bytes) → List Record → Bytes → Bool
is_reachable refs [] name = is_tip refs name
is_reachable refs (r ∷ rs) name = is_reachable refs rs name || (is_reachable refs rs r.name && links_to r name)

-- whether the refs of a repository reach this record
abbrev pub is_kept : Records → Record → Bool
is_kept repository held = is_reachable repository.refs repository.records held.name

-- the records that the refs reach, in their order, under the same refs
unfoldable pub pruned : Records → Records
pruned repository = record { records = filter (is_kept repository) repository.records; refs = repository.refs }
