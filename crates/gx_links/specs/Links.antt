-- What is told of a body's links. Source: gitglossary(7), "reachable".
use Rattle.std.specs.Prelude.{◌≡◌, true, false, map, Option, Result, Ok, Err, ⊤}
use Rattle.std.specs.declared.vec.Vec.{Vec}
use Rattle.gx_model.specs.declared.objects.Kind.{Kind}
use Rattle.gx_model.specs.Objects.{Entry}
use Rattle.gx_model.specs.Records.RecordFaults.{is_body}
use Rattle.gx_model.specs.Texts.{Bytes}
use Rattle.gx_wide.specs.Placing.{entry_link, wide_links}
use Rattle.gx_links.specs.declared.fault.LinksFault.{LinksFault}
use Rattle.gx_links.specs.declared.fault.LinksFault.TheVariants.{BadBody, OutOfMemory}
use Rattle.gx_links.specs.declared.links.Link.{Link}

-- the kind and the name of what is named
abbrev pub shown_link : Link → Kind × Bytes
shown_link link = (link.kind, link.name.bytes)

-- what an entry names
abbrev pub link_in : Entry → Option (Kind × Bytes)
link_in entry = entry_link entry.mode entry.name

-- The links of a body that a repository holds, or that it is none.
abbrev pub TellsLinks : {A : Type 0} → Kind → Bytes → Result (Vec Link A) LinksFault → Type 0
TellsLinks of_kind body (Ok links) = (is_body of_kind body ≡ true) × (map shown_link links.items ≡ wide_links of_kind body)
TellsLinks of_kind body (Err BadBody) = is_body of_kind body ≡ false
TellsLinks of_kind body (Err OutOfMemory) = ⊤
