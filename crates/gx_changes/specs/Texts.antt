-- The text of commits and refs that go out.
use Rattle.std.specs.Prelude.{◌++◌, Bool, List, map, reverse, Option, Result}
use Rattle.gx_model.specs.declared.objects.Kind.{Kind}
use Rattle.gx_model.specs.Changes.{carrier_reset, closed_by, named_in, sending_commands}
use Rattle.gx_model.specs.Export.{items_text, ref_by}
use Rattle.gx_model.specs.Histories.{Records, Target}
use Rattle.gx_model.specs.Histories.Values.{Commit, Value}
use Rattle.gx_model.specs.Streams.Items.{Item}
use Rattle.gx_model.specs.Texts.{Bytes}
use Rattle.gx_model.specs.Texts.Sinks.{Taken}
use Rattle.gx_object.specs.declared.name.Name.{Name}
use Rattle.gx_rev.specs.Objects.{commit_at}
use Rattle.gx_export.specs.ChangedParts.{closing}
use Rattle.gx_export.specs.Outputs.{Delivers}
use Rattle.gx_export.specs.Texts.{items_of}
use Rattle.gx_export.specs.declared.fault.ExportFault.{ExportFault}

-- the commits of these names, in the order in which they go out
abbrev pub commits_sent : Records → List Name → List Commit
commits_sent repository commits = reverse (map (commit_at repository) commits)

module _ (name : Kind → Bytes → Bytes) (closed : Bool) where
  -- the items behind the commits, by the values that were written
  abbrev pub behind_items : List Commit → List (Bytes × Target) → List Value → List Item
  behind_items sent refs ws = items_of (carrier_reset refs sent) ++ (items_of (map (ref_by (named_in name ws)) refs) ++ closing closed)

  -- the text of these commits and of these refs goes out, or a front of it
  abbrev pub DeliversAll : List Commit → List (Bytes × Target) → Option Taken → Option Taken → Result (Unit {0}) ExportFault → Type 0
  DeliversAll sent refs was now result =
      let text = items_text (items_of (closed_by closed (sending_commands name sent refs))) in
      Delivers text text was now result
