use Rattle.std.proofs.Common.{◌≡◌, ◌≤◌, length, map, None}
use Rattle.std.specs.Vec.Iter.{into_iter_items, into_iter_len}
use Rattle.gx_model.specs.Texts.{Bytes}
use Rattle.gx_model.specs.Histories.Files.{FileMap}
use Rattle.gx_model.specs.Replay.{State}
use Rattle.gx_command.specs.Views.{shown_change}
use Rattle.gx_import.specs.Explaining.{TellsNoChange}
use Rattle.gx_import.specs.Standing.{OnlyAdds, Stands}
use Rattle.gx_model.specs.Objects.NameMaps.{AreFiles}
use Rattle.gx_tree.specs.Named.{IsAtHome}
use Rattle.gx_import.proofs.ChangesSoFar.{AreMade}
use Rattle.gx_import.proofs.changes.change_all.Given as goal

abbrev pub invariant-loop-change : goal.invariant-loop-change
invariant-loop-change g l = record {
  only : OnlyAdds l.initial.repo l.repo;
  made : (s : State) (f : FileMap Bytes) → Stands (g.N.Namer.name_of l.initial.repo.0) l.initial.repo.1 l.tables s → AreFiles (g.N.Namer.name_of l.initial.repo.0) s.history.values f l.initial.files.files
      → AreMade (g.N.Namer.name_of l.initial.repo.0) l.initial.repo.1 l.repo.1 l.tables s f (map shown_change l.fn.changes.items) (map shown_change (into_iter_items l.change-iterator)) l.files.files;
  home : IsAtHome (g.N.Namer.name_of l.initial.repo.0) l.initial.repo.1.records l.initial.files → IsAtHome (g.N.Namer.name_of l.initial.repo.0) l.repo.1.records l.files;
  items : into_iter_len l.change-iterator ≡ length (into_iter_items l.change-iterator);
  blank : TellsNoChange l.told;
  left : l.left ≡ into_iter_len l.change-iterator;
  fits : l.left ≤ length l.fn.changes.items;
  loss : l.told.loss ≡ l.initial.told.loss;
  unasked : l.told.asked ≡ None;
}
