use Rattle.std.proofs.Common.{◌++◌, drop, length, codes}
use Rattle.std.specs.List.{flat_map}
use Rattle.gx_model.specs.Texts.Numbers.{number_text}
use Rattle.gx_model.specs.Objects.{line}
use Rattle.gx_model.specs.declared.store_versions.Version.TheVariants.{Two}
use Rattle.gx_model.specs.Stores.StoreText.{stored_record}
use Rattle.gx_file.specs.Sending.{HaveLengths}
use Rattle.gx_model.proofs.Texts.SentTexts.{IsLeft}
use Rattle.gx_file.proofs.sending.send_records.Given as goal

abbrev pub invariant-loop-place : goal.invariant-loop-place
invariant-loop-place g l =
    IsLeft (line (codes "objects") (number_text (length l.store.1)) ++ flat_map (stored_record Two) l.store.1) (g.W.Sink.taken l.fn.sink) (g.W.Sink.taken l.sink) (flat_map (stored_record Two) (drop l.place l.store.1))
    × (HaveLengths (drop l.place l.store.1) → HaveLengths l.store.1)
