use Rattle.std.proofs.Common.{◌≡◌, [], ◌∷◌, map, None, Ok, sym, ap, subst, ◌∙◌}
use Rattle.std.proofs.lemmas.Result.{err_from_is_err_and}
use Rattle.gx_model.specs.Records.Growth.{all_trees, with_values}
use Rattle.gx_model.specs.Records.{name_of}
use Rattle.gx_model.specs.Histories.{with_tree}
use Rattle.gx_model.specs.Replay.{State, added, text_made}
use Rattle.gx_model.specs.Laws.RepositoryLaws.{values_of}
use Rattle.gx_model.specs.Histories.Values.{commit, commit_value, commits_of, tree_value}
use Rattle.gx_model.proofs.Records.GrownTrees.{trees_fold}
use Rattle.gx_command.specs.Views.{commit_parts}
use Rattle.gx_object.specs.declared.name.Name.{Name}
use Rattle.gx_repo.specs.Additions.{HasValues}
use Rattle.gx_import.specs.Objects.{IsTreeOf}
use Rattle.gx_import.specs.Standing.{Follows}
use Rattle.gx_model.specs.Objects.NameMaps.{AreFiles}
use Rattle.gx_import.proofs.Extended.{extended_all, only_more}
use Rattle.gx_model.proofs.Records.FilesByName.{contents_told}
use Rattle.gx_import.proofs.GrownStates.{clash_after, clash_first, commits_keep, tree_has, tree_keeps, tree_stands, trees_clash, with_files}
use Rattle.gx_import.proofs.HeldParts.{holds_kept}
use Rattle.gx_import.proofs.PartAnswers.{adds_more, puts_refused}
use Rattle.gx_import.proofs.TipHomes.{always, home_longer}
use Rattle.gx_import.proofs.commit.add.Goals as goal

pub returns-in_err-tree-clause-steps : goal.returns-in_err-tree-clause-steps
returns-in_err-tree-clause-steps g c = λ tables s f ps h files parents.
    let name = g.N.Namer.name_of c.args.repo.now.0 in
    let namer = g.met.N.Namer.is_namer c.args.repo.now.0 in
    let r = c.args.repo.now.1 in
    let p = err_from_is_err_and c.from_residual.result c.from_residual.ensures.1 in
    let v = commit_value (commit f (commits_of ps) (text_made (commit_parts c.args.commit.now))) in
    let of_files = subst (λ z. AreFiles name z.values f c.args.files.now.files) (sym h.history) files in
    let same = contents_told name namer r c.sound.ensures f c.args.files.now.files of_files in
    rw (p.1, p.2) (puts_refused {X = Name} {Y = State} _ (λ u called. Follows name c.add_tree_shared.new.self.1 tables s u × (called.bytes ≡ name_of name v)) (Ok (added v s)) _ _ _ [] c.in_err-tree.field-0.0
    (λ e. clash_first name (map tree_value (all_trees f)) (v ∷ []) (values_of r)
    (trees_clash name r c.sound.ensures (c.puts_add_values.ensures name namer) (c.trees_add_file_maps.ensures name namer) c.args.files.now.files f c.requires.named same e))
    c.in_err-tree.ensures.adds)

pub add_alone-requires-clause-parents : goal.add_alone-requires-clause-parents
add_alone-requires-clause-parents g c =
    holds_kept c.args.repo.now.1.records c.add_tree_shared.new.self.1.records c.in_ok-tree.ensures.keeps c.args.parents.now c.requires.parents

pub returns-clause-only : goal.returns-clause-only
returns-clause-only g c =
    let adds = c.add_tree_shared.ensures in
    only_more _ _ _ (record { namer = adds.namer; refs = adds.refs; extends = extended_all _ _ _ _ _ adds.adds }) c.add_alone.ensures.only

pub returns-clause-steps : goal.returns-clause-steps
returns-clause-steps g c = λ tables s f ps h files parents.
    let name = g.N.Namer.name_of c.args.repo.now.0 in
    let namer = g.met.N.Namer.is_namer c.args.repo.now.0 in
    let r = c.args.repo.now.1 in
    let now = c.add_tree_shared.new.self.1 in
    let v = commit_value (commit f (commits_of ps) (text_made (commit_parts c.args.commit.now))) in
    let of_files = subst (λ z. AreFiles name z.values f c.args.files.now.files) (sym h.history) files in
    let same = contents_told name namer r c.sound.ensures f c.args.files.now.files of_files in
    let has = subst (λ z. HasValues r now (with_tree (values_of r) z)) same c.in_ok-tree.ensures.history in
    let stand = tree_stands name r now tables s h f has in
    let tree : IsTreeOf name (with_files f s).history.values f c.in_ok-tree.tree = record { stands = tree_has s.history.values f; named = c.in_ok-tree.ensures.value ∙ ap (λ z. name_of name (tree_value z)) same } in
    let commits = commits_keep name s.history.values (with_tree s.history.values f) (tree_keeps s.history.values f) ps c.args.parents.now parents in
    let steps = rw c.add_tree_shared.ensures.namer at c.add_alone.ensures.steps in
    adds_more {X = Name} {Y = State} (with_values name (values_of now) (v ∷ []) ≡ None) _
    (λ t called. Follows name c.add_alone.new.repo.1 tables (with_files f s) t × (called.bytes ≡ name_of name v))
    (λ t called. Follows name c.add_alone.new.repo.1 tables s t × (called.bytes ≡ name_of name v))
    (λ e. clash_after name (map tree_value (all_trees f)) (v ∷ []) (values_of r) (subst (λ vs. with_values name vs (v ∷ []) ≡ None) (ap (λ z. z.values) has ∙ trees_fold (values_of r) f) e))
    (λ t called k. (record { stands = k.0.stands; progress = k.0.progress; held = k.0.held }, k.1))
    c.add_alone.result (Ok (added v s)) (steps tables (with_files f s) f ps stand tree commits)

pub returns-clause-home : goal.returns-clause-home
returns-clause-home g c =
    let name = g.N.Namer.name_of c.args.repo.now.0 in
    always _ c.add_alone.result (home_longer c.records_keep_home.ensures name c.add_tree_shared.new.self.1.records c.add_alone.new.repo.1.records c.add_tree_shared.new.tree c.add_alone.ensures.only.extends c.in_ok-tree.ensures.home)
