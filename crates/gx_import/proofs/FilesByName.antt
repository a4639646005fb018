-- The files that a commit starts from, as a map of names: their bytes stand in the history.
use Rattle.std.proofs.Common.{◌≡◌, map, Option, Some, None, refl, sym, subst}
use Rattle.std.specs.Prelude.{IsTrue}
use Rattle.std.specs.Bool.{passes}
use Rattle.std.specs.List.{AllByRecursion}
use Rattle.gx_model.specs.declared.objects.Kind.{Kind}
use Rattle.gx_model.specs.Texts.{Bytes}
use Rattle.gx_model.specs.Histories.Files.{FileMap}
use Rattle.gx_model.specs.Histories.Values.{Commit, blobs_of, commit_value, files_of, is_content, sub_maps, tree_value}
use Rattle.gx_model.specs.Objects.{IsNamer}
use Rattle.gx_model.specs.Records.{named_map}
use Rattle.gx_model.specs.Histories.{IsIn, Records}
use Rattle.gx_model.specs.Records.HistoryOf.{history_of}
use Rattle.gx_model.specs.Records.Sound.{IsSound}
use Rattle.gx_model.proofs.Texts.PathTests.{is_true}
use Rattle.gx_model.proofs.ObjectTexts.OneTree.{all_left}
use Rattle.gx_model.proofs.Records.LinkedValues.{parts_in, proper_in}
use Rattle.gx_model.proofs.Records.HeldValues.{all_whole}
use Rattle.gx_model.specs.Replay.{State, starting_files}
use Rattle.gx_object.specs.declared.name.Name.{Name}
use Rattle.gx_import.specs.Objects.{IsCommitOf}
use Rattle.gx_import.specs.Rows.{AreBoth}
use Rattle.gx_model.specs.Objects.NameMaps.{AreFiles}

module _ (name : Kind → Bytes → Bytes) (namer : IsNamer name) (r : Records) (sound : IsSound name r) where
  commit_files : (c : Commit) → IsIn (history_of r).values (commit_value c) → IsTrue (is_content (files_of c)) × AllByRecursion (IsIn (history_of r).values) (blobs_of (files_of c))
  commit_files c i =
      let w = all_whole name namer r sound in
      let tree = (parts_in (history_of r).values (commit_value c) w i).0 in
      (is_true _ (proper_in (history_of r).values (tree_value (files_of c)) (passes _ w.proper) tree), all_left (IsIn (history_of r).values) (blobs_of (files_of c)) (map tree_value (sub_maps (files_of c))) (parts_in (history_of r).values (tree_value (files_of c)) w tree))

  first_known : (made : Option Commit) (first : Option Name) → AreBoth (IsCommitOf name (history_of r).values) made first
      → IsTrue (is_content (starting_files made)) × AllByRecursion (IsIn (history_of r).values) (blobs_of (starting_files made))
  first_known None first h = (refl, tt)
  first_known (Some c) None h = absurd h
  first_known (Some c) (Some n) h = commit_files c h.stands

  -- the files that a commit starts from
  pub first_files : (s : State) → history_of r ≡ s.history → (made : Option Commit) (first : Option Name) → AreBoth (IsCommitOf name s.history.values) made first
      → (names : FileMap Bytes) → names ≡ named_map name (starting_files made) → AreFiles name s.history.values (starting_files made) names
  first_files s e made first h names same =
      let k = first_known made first (subst (λ z. AreBoth (IsCommitOf name z.values) made first) (sym e) h) in
      record { named = same; content = k.0; known = subst (λ z. AllByRecursion (IsIn z.values) (blobs_of (starting_files made))) e k.1 }
