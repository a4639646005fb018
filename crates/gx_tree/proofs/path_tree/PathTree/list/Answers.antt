use Rattle.std.proofs.Common.{◌≡◌, ◌++◌, Ok, true, sym, ap, ◌∙◌, map, subst}
use Rattle.gx_model.specs.Histories.Files.{is_file_map}
use Rattle.gx_tree.specs.Lists.{are_short, below, shown_listed}
use Rattle.gx_tree.specs.Views.{root_tree}
use Rattle.gx_tree.proofs.Homes.{files_same}
use Rattle.gx_tree.proofs.Listed.{below_root, map_short}
use Rattle.gx_tree.proofs.path_tree.PathTree.list.Goals as goal
use Rattle.gx_tree.proofs.path_tree.PathTree.list.Goals.{in-Some+in_ok-list_into, in_default}

pub list_into-requires : goal.list_into-requires
list_into-requires g c =
    let f = c.in-Some.root.files in
    ap (λ p. are_short (below p f)) c.root.ensures ∙ ap are_short (below_root f) ∙ map_short f (subst (λ r. is_file_map (root_tree r).files ≡ true) c.in-Some.is c.self.invariant.file_map)

pub returns : goal.returns
returns g c = elim c.match-self.branch [
  | in-Some+in_ok-list_into w ↦
      let f = w.in-Some.root.files in
      rw w.files-is (ap Ok (sym (w.in_ok-list_into.ensures ∙ ap (λ xs. map shown_listed xs ++ below w.root.result f) c.new-files.ensures.items ∙ ap (λ p. below p f) w.root.ensures ∙ below_root f ∙ files_same (ap root_tree (sym w.in-Some.is) ∙ c.self.view_is))))
  | in_default w ↦ rw w.files-is (ap Ok (sym (ap (map shown_listed) c.new-files.ensures.items ∙ files_same (ap root_tree (sym w.in_default.is) ∙ c.self.view_is))))
]
