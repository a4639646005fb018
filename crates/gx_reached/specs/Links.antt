-- What a body names, and which of these are blobs. Source: gitglossary(7), "reachable".
use Rattle.std.specs.Prelude.{◌≡◌, ◌⊎◌, Bool, false, not, List, [], ◌∷◌, map, Option}
use Rattle.std.specs.List.{filter_map}
use Rattle.std.specs.Option.{option_map}
use Rattle.std.specs.declared.vec.Vec.{Vec}
use Rattle.gx_model.specs.declared.objects.Kind.{Kind}
use Rattle.gx_model.specs.declared.objects.Kind.TheVariants as kind
use Rattle.gx_model.specs.Laws.StoreLaws.{IsBody}
use Rattle.gx_model.specs.Objects.{Entry, is_dir}
use Rattle.gx_model.specs.Pruning.{link_of}
use Rattle.gx_model.specs.Records.HistoryOf.{commit_parts_in, entries_in, tag_parts_in}
use Rattle.gx_model.specs.Texts.{Bytes}
use Rattle.gx_reached.specs.declared.links.Link.{Link as GivenLink}

-- the name of an object, and whether it is to be a blob
abbrev pub Link : Type 0
Link = Bytes × Bool

abbrev pub shown_link : GivenLink → Link
shown_link link = (link.name.bytes, link.is_blob)

-- no blob
abbrev pub no_blob : Bytes → Link
no_blob called = (called, false)

-- what an entry names: a gitlink names nothing, and what is no directory is a blob
abbrev pub entry_link : Entry → Option Link
entry_link entry = option_map (λ called. (called, not (is_dir entry.mode))) (link_of entry)

-- what a body of a kind names
abbrev pub links_in : Kind → Bytes → List Link
links_in kind.Blob body = []
links_in kind.Tree body = filter_map entry_link (entries_in body)
links_in kind.Commit body = no_blob (commit_parts_in body).tree ∷ map no_blob (commit_parts_in body).parents
links_in kind.Tag body = no_blob (tag_parts_in body).object ∷ []

-- these links are what a body names, or none where it isn't a canonical one
abbrev pub AreLinksOf : {A : Type 0} → Kind → Bytes → Vec GivenLink A → Type 0
AreLinksOf of_kind body links = (map shown_link links.items ≡ links_in of_kind body) ⊎ ((links.items ≡ []) × (IsBody of_kind body → ⊥))
