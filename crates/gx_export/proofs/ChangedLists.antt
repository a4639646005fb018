-- The commands of commits by what differs, one after the other.
use Rattle.std.proofs.Common.{◌≡◌, List, [], ◌∷◌, ◌++◌, refl, sym, ap, ◌∙◌, append_assoc}
use Rattle.std.specs.List.{fold}
use Rattle.std.proofs.lemmas.Grind.{flat_map-append}
use Rattle.std.proofs.lemmas.List.{append-nil}
use Rattle.gx_model.specs.declared.objects.Kind.{Kind}
use Rattle.gx_model.specs.Changes.{all_changes, commit_with_changes, commits_with_changes, with_changes}
use Rattle.gx_model.specs.Export.{command_items}
use Rattle.gx_model.specs.Histories.Values.{Commit, Value}
use Rattle.gx_model.specs.Histories.{Target}
use Rattle.gx_model.specs.Streams.Items.{Item}
use Rattle.gx_model.specs.Texts.{Bytes}
use Rattle.gx_export.specs.Texts.{items_of}

pub changes_append : (ws : List Value) (cs ds : List Commit) → fold with_changes ws (cs ++ ds) ≡ fold with_changes (fold with_changes ws cs) ds
changes_append ws [] ds = refl
changes_append ws (c ∷ cs) ds = changes_append (with_changes ws c) cs ds

module _ (name : Kind → Bytes → Bytes) (refs : List (Bytes × Target)) where
  -- the items of one commit, and of all
  abbrev pub one_items : List Value → Commit → List Item
  one_items ws c = items_of (commit_with_changes name refs ws c)

  abbrev pub changed_items : List Value → List Commit → List Item
  changed_items ws cs = items_of (commits_with_changes name refs ws cs)

  -- the items of some commits and of those behind them
  pub changed_parted : (ws : List Value) (cs ds : List Commit) → changed_items ws (cs ++ ds) ≡ changed_items ws cs ++ changed_items (fold with_changes ws cs) ds
  changed_parted ws [] ds = refl
  changed_parted ws (c ∷ cs) ds =
      flat_map-append command_items (commit_with_changes name refs ws c) (commits_with_changes name refs (with_changes ws c) (cs ++ ds))
      ∙ ap (λ is. one_items ws c ++ is) (changed_parted (with_changes ws c) cs ds)
      ∙ sym (append_assoc (one_items ws c) (changed_items (with_changes ws c) cs) (changed_items (fold with_changes (with_changes ws c) cs) ds))
      ∙ ap (λ is. is ++ changed_items (fold with_changes (with_changes ws c) cs) ds) (sym (flat_map-append command_items (commit_with_changes name refs ws c) (commits_with_changes name refs (with_changes ws c) cs)))

  -- the items of one commit, and of those behind it
  pub changed_first : (ws : List Value) (c : Commit) (cs : List Commit) → changed_items ws (c ∷ cs) ≡ one_items ws c ++ changed_items (with_changes ws c) cs
  changed_first ws c cs = flat_map-append command_items (commit_with_changes name refs ws c) (commits_with_changes name refs (with_changes ws c) cs)

  -- the items of one commit more
  pub changed_last : (cs : List Commit) (c : Commit) → changed_items [] (cs ++ c ∷ []) ≡ changed_items [] cs ++ one_items (all_changes cs) c
  changed_last cs c = changed_parted [] cs (c ∷ []) ∙ ap (λ is. changed_items [] cs ++ is) (changed_first (all_changes cs) c [] ∙ append-nil (one_items (all_changes cs) c))
