-- How given objects are added to a repository: in the order of their text, each behind what it lacks; and then refs are set.
-- Source: gitglossary(7), "reachable", and git-fetch(1), on refs that aren't fast-forward.
use Rattle.std.specs.Prelude.{ℕ, zero, suc, ◌+◌, Bool, true, false, not, ◌&&◌, ◌||◌, nat_eq, if◌then◌else◌, List, [], ◌∷◌, ◌++◌, map, length, replicate, codes, Option, None, Some, is_some, Result, Ok, Err}
use Rattle.std.specs.List.{filter, filter_map, starts_with}
use Rattle.std.specs.Map.{lookup}
use Rattle.std.specs.FinMap.Entries.{put}
use Rattle.gx_model.specs.declared.objects.Kind.{Kind}
use Rattle.gx_model.specs.declared.objects.Kind.TheVariants as kind
use Rattle.gx_model.specs.declared.objects.Mode.{Mode}
use Rattle.gx_model.specs.declared.objects.Mode.TheVariants.{Gitlink, Dir}
use Rattle.gx_model.specs.Texts.{Bytes, byte_cmp, same_bytes}
use Rattle.gx_model.specs.Faults.{◌>>=◌}
use Rattle.gx_model.specs.Histories.{Record, Records}
use Rattle.gx_model.specs.Laws.ShownRecords.{leads_to}
use Rattle.gx_model.specs.Records.Growth.{record_named, same_kind, same_object}
use Rattle.gx_model.specs.Records.HistoryOf.{commit_parts_in, entries_in}
use Rattle.gx_model.specs.Records.RecordFaults.{is_bad_below, is_tree_body}
use Rattle.gx_wide.specs.ObjectsTexts.{Item, object_item, ref_item}
use Rattle.gx_wide.specs.WideSound.{peeled}
use Rattle.gx_wide.specs.WideTexts.{is_wide_commit_body, is_wide_tag_body, wide_tag_parts_in}

-- why what is given isn't taken, and of which object or ref
pub data TakeFault : Type 0 where
  BadObject : Bytes → TakeFault
  NameHeld : Bytes → TakeFault
  Dangling : Bytes → Bytes → TakeFault
  WrongKind : Bytes → TakeFault
  NotFastForward : Bytes → Bytes → Bytes → TakeFault

-- whether a body is one of its kind
abbrev pub is_wide_body : Kind → Bytes → Bool
is_wide_body kind.Blob body = true
is_wide_body kind.Tree body = is_tree_body body
is_wide_body kind.Commit body = is_wide_commit_body body
is_wide_body kind.Tag body = is_wide_tag_body body

-- ---- what a body names, with its kind

abbrev pub entry_link : Mode → Bytes → Option (Kind × Bytes)
entry_link Gitlink called = None
entry_link Dir called = Some (kind.Tree, called)
entry_link _ called = Some (kind.Blob, called)

abbrev pub wide_links : Kind → Bytes → List (Kind × Bytes)
wide_links kind.Blob body = []
wide_links kind.Tree body = filter_map (λ entry. entry_link entry.mode entry.name) (entries_in body)
wide_links kind.Commit body = (kind.Tree, (commit_parts_in body).tree) ∷ map (λ parent. (kind.Commit, parent)) (commit_parts_in body).parents
wide_links kind.Tag body = ((wide_tag_parts_in body).of_kind, (wide_tag_parts_in body).object) ∷ []

-- ---- placing

-- what is held after some objects were placed
abbrev pub Placed : Type 0
Placed = Result (List Record) TakeFault

-- an object that one names: it is held or given, of the kind that is wanted
abbrev pub link_placed : (List Record → Record → Placed) → List Record → Bytes → Kind × Bytes → List Record → Placed
link_placed step given from link held = elim (record_named held link.1) [
  | None ↦ elim (record_named given link.1) [
    | None ↦ Err (Dangling from link.1)
    | Some new ↦ if same_kind new.kind link.0 then step held new else Err (Dangling from link.1)
  ]
  | Some known ↦ if same_kind known.kind link.0 then Ok held else Err (Dangling from link.1)
]

-- each of the objects that one names, in their order
abbrev pub links_placed : (List Record → Record → Placed) → List Record → Bytes → List (Kind × Bytes) → List Record → Placed
links_placed step given from [] held = Ok held
links_placed step given from (link ∷ links) held = link_placed step given from link held >>= λ now. links_placed step given from links now

-- an object last, where what is below it is good
abbrev pub put_last : Record → List Record → Placed
put_last new now = if is_bad_below now new.kind new.body then Err (BadObject new.name) else Ok (now ++ new ∷ [])

-- an object behind what it names, and those below it at most n links deep: a given object that is needed for itself is Dangling
unfoldable pub placed_within : ℕ → List Record → List Record → Record → Placed
placed_within zero given held new = Err (Dangling new.name new.name)
placed_within (suc n) given held new = elim (record_named held new.name) [
  | None ↦
      if is_wide_body new.kind new.body then (links_placed (placed_within n given) given new.name (wide_links new.kind new.body) held >>= put_last new)
      else Err (BadObject new.name)
  | Some known ↦ if same_object known new then Ok held else Err (NameHeld new.name)
]

-- all given objects, in their order: no object is more links deep than so many are given
abbrev pub all_placed : List Record → List Record → List Record → Placed
all_placed given [] held = Ok held
all_placed given (new ∷ later) held = placed_within (length given + 1) given held new >>= λ now. all_placed given later now

-- ---- refs

-- the object that a ref is to hold, where it is to be left
abbrev pub is_dropped : Bytes → Bool
is_dropped called = same_bytes called (replicate 20 0)

-- whether an object of this name is of a kind
abbrev pub is_named_of : List Record → Kind → Bytes → Bool
is_named_of records of_kind called = elim (record_named records called) [ None ↦ false | Some held ↦ same_kind held.kind of_kind ]

-- whether a ref that peels to a commit before and after loses none of those that it led to
abbrev pub goes_forward : List Record → Bytes → Bytes → Bool
goes_forward records was next =
    not (is_named_of records kind.Commit (peeled records was)) || not (is_named_of records kind.Commit (peeled records next))
    || leads_to records (peeled records next) (peeled records was)

-- the refs with one more, or without one
abbrev pub ref_taken : Bool → List Record → List (Bytes × Bytes) → Bytes → Bytes → Result (List (Bytes × Bytes)) TakeFault
ref_taken force records refs ref called =
    if is_dropped called then Ok (filter (λ held. not (same_bytes held.0 ref)) refs)
    else (if not (is_some (record_named records called)) then Err (Dangling ref called)
    else (if starts_with nat_eq ref (codes "refs/heads/") && not (is_named_of records kind.Commit called) then Err (WrongKind ref)
    else elim (lookup (same_bytes ref) refs) [
      | None ↦ Ok (put byte_cmp ref called refs)
      | Some was ↦ if force || goes_forward records was called then Ok (put byte_cmp ref called refs) else Err (NotFastForward ref was called)
    ]))

abbrev pub refs_taken : Bool → List Record → List Item → List (Bytes × Bytes) → Result (List (Bytes × Bytes)) TakeFault
refs_taken force records [] refs = Ok refs
refs_taken force records (ref_item called ref ∷ items) refs = ref_taken force records refs ref called >>= λ now. refs_taken force records items now
refs_taken force records (object_item of_kind called body ∷ items) refs = refs_taken force records items refs

-- the objects that are given
abbrev pub given_in : List Item → List Record
given_in [] = []
given_in (ref_item called ref ∷ items) = given_in items
given_in (object_item of_kind called body ∷ items) = record { name = called; kind = of_kind; body = body } ∷ given_in items

-- the repository with what items give: objects are placed, and then refs are set in order
unfoldable pub taken : Bool → Records → List Item → Result Records TakeFault
taken force repository items =
    all_placed (given_in items) (given_in items) repository.records
    >>= λ records. refs_taken force records items repository.refs >>= λ refs. Ok (record { records = records; refs = refs })
