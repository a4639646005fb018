use Rattle.std.proofs.Common.{◌≡◌, map, take}
use Rattle.std.specs.List.{filter, flat_map}
use Rattle.gx_model.specs.Stores.StoreText.{stored_ref}
use Rattle.gx_ref_lines.specs.Refs.{shown_refs}
use Rattle.gx_bundled.specs.Named.{is_told}
use Rattle.gx_bundled.proofs.lines.lines_of.Given as goal

abbrev pub invariant-loop-name : goal.invariant-loop-name
invariant-loop-name g l =
    l.lines.items ≡ flat_map stored_ref (filter (λ ref. is_told l.all l.with_head (map (λ name. name.items) l.names) ref.0) (shown_refs (take l.name-index l.refs)))
