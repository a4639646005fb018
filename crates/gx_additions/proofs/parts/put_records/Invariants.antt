use Rattle.std.proofs.Common.{◌≡◌, ◌++◌, codes, drop, length}
use Rattle.std.specs.List.{flat_map}
use Rattle.gx_model.specs.declared.store_versions.Version.TheVariants.{Two}
use Rattle.gx_model.specs.Objects.{line}
use Rattle.gx_model.specs.Texts.Numbers.{number_text}
use Rattle.gx_model.specs.Stores.StoreText.{stored_record}
use Rattle.gx_additions.proofs.parts.put_records.Given as goal

abbrev pub invariant-loop-place : goal.invariant-loop-place
invariant-loop-place g l =
    l.bytes.items ++ flat_map (stored_record Two) (drop l.place l.store.1)
    ≡ l.fn.bytes.items ++ (line (codes "objects") (number_text (length (drop l.held l.store.1))) ++ flat_map (stored_record Two) (drop l.held l.store.1))
