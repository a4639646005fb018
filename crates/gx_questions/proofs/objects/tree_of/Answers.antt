use Rattle.std.proofs.lemmas.Result.{err_from_is_err_and}
use Rattle.gx_questions.proofs.Found.{commit_is, commit_reads}
use Rattle.gx_questions.proofs.Peeled.{itself, tag_reads, tagged, tree_is, tree_itself}
use Rattle.gx_questions.proofs.objects.tree_of.Goals as goal

pub returns-in_err-decode_commit-in-Commit-clause-files : goal.returns-in_err-decode_commit-in-Commit-clause-files
returns-in_err-decode_commit-in-Commit-clause-files g c =
    let p = err_from_is_err_and c.from_residual-in_err-decode_commit-in-Commit.result c.from_residual-in_err-decode_commit-in-Commit.ensures.1 in
    rw (p.1, p.2) (commit_reads (g.O.Objects.name_of c.args.objects.now) c.sound_if_told.ensures.namer (g.O.Objects.told c.args.objects.now) c.args.name.now c.in_ok-object.object c.sound_if_told.ensures.sound (itself (g.O.Objects.name_of c.args.objects.now) c.sound_if_told.ensures.namer (g.O.Objects.told c.args.objects.now) c.args.name.now c.in_ok-object.object c.sound_if_told.ensures.sound c.requires.held c.in-Commit.is c.in_ok-object.ensures.object).1 c.in_ok-object.ensures.object c.in_err-decode_commit-in-Commit.ensures.only)

pub returns-in_err-decode_tag-in-Tag-clause-files : goal.returns-in_err-decode_tag-in-Tag-clause-files
returns-in_err-decode_tag-in-Tag-clause-files g c =
    let p = err_from_is_err_and c.from_residual-in_err-decode_tag-in-Tag.result c.from_residual-in_err-decode_tag-in-Tag.ensures.1 in
    rw (p.1, p.2) (tag_reads (g.O.Objects.name_of c.args.objects.now) c.sound_if_told.ensures.namer (g.O.Objects.told c.args.objects.now) c.args.name.now c.in_ok-object.object c.sound_if_told.ensures.sound c.requires.held c.in-Tag.is c.in_ok-object.ensures.object c.in_err-decode_tag-in-Tag.ensures.only)

pub commit_in-requires : goal.commit_in-requires
commit_in-requires g c =
    record { held = (tagged (g.O.Objects.name_of c.args.objects.now) c.sound_if_told.ensures.namer (g.O.Objects.told c.args.objects.now) c.args.name.now c.object-commit.result c.in_ok-object.object _ c.sound_if_told.ensures.sound c.requires.held c.in-Tag.is c.in_ok-object.ensures.object c.in_ok-decode_tag-in-Tag.ensures.found c.object-commit.ensures).1 }

pub returns-in-Tree-clause-held : goal.returns-in-Tree-clause-held
returns-in-Tree-clause-held g c =
    (tree_itself (g.O.Objects.name_of c.args.objects.now) c.sound_if_told.ensures.namer (g.O.Objects.told c.args.objects.now) c.args.name.now c.in_ok-object.object c.sound_if_told.ensures.sound c.requires.held c.in-Tree.is c.in_ok-object.ensures.object).1

pub returns-in_ok-decode_commit-in-Commit-clause-files : goal.returns-in_ok-decode_commit-in-Commit-clause-files
returns-in_ok-decode_commit-in-Commit-clause-files g c =
    (tree_is (g.O.Objects.name_of c.args.objects.now) c.sound_if_told.ensures.namer (g.O.Objects.told c.args.objects.now) c.args.name.now c.args.name.now c.tree.result _ c.sound_if_told.ensures.sound c.requires.held (itself (g.O.Objects.name_of c.args.objects.now) c.sound_if_told.ensures.namer (g.O.Objects.told c.args.objects.now) c.args.name.now c.in_ok-object.object c.sound_if_told.ensures.sound c.requires.held c.in-Commit.is c.in_ok-object.ensures.object) (commit_is (g.O.Objects.name_of c.args.objects.now) c.sound_if_told.ensures.namer (g.O.Objects.told c.args.objects.now) c.args.name.now c.in_ok-object.object _ c.sound_if_told.ensures.sound (itself (g.O.Objects.name_of c.args.objects.now) c.sound_if_told.ensures.namer (g.O.Objects.told c.args.objects.now) c.args.name.now c.in_ok-object.object c.sound_if_told.ensures.sound c.requires.held c.in-Commit.is c.in_ok-object.ensures.object).1 c.in_ok-object.ensures.object c.in_ok-decode_commit-in-Commit.ensures.only) c.tree.ensures).0

pub returns-in_ok-decode_commit-in-Commit-clause-held : goal.returns-in_ok-decode_commit-in-Commit-clause-held
returns-in_ok-decode_commit-in-Commit-clause-held g c =
    (tree_is (g.O.Objects.name_of c.args.objects.now) c.sound_if_told.ensures.namer (g.O.Objects.told c.args.objects.now) c.args.name.now c.args.name.now c.tree.result _ c.sound_if_told.ensures.sound c.requires.held (itself (g.O.Objects.name_of c.args.objects.now) c.sound_if_told.ensures.namer (g.O.Objects.told c.args.objects.now) c.args.name.now c.in_ok-object.object c.sound_if_told.ensures.sound c.requires.held c.in-Commit.is c.in_ok-object.ensures.object) (commit_is (g.O.Objects.name_of c.args.objects.now) c.sound_if_told.ensures.namer (g.O.Objects.told c.args.objects.now) c.args.name.now c.in_ok-object.object _ c.sound_if_told.ensures.sound (itself (g.O.Objects.name_of c.args.objects.now) c.sound_if_told.ensures.namer (g.O.Objects.told c.args.objects.now) c.args.name.now c.in_ok-object.object c.sound_if_told.ensures.sound c.requires.held c.in-Commit.is c.in_ok-object.ensures.object).1 c.in_ok-object.ensures.object c.in_ok-decode_commit-in-Commit.ensures.only) c.tree.ensures).1

pub returns-in_ok-view-in-Tag-clause-files : goal.returns-in_ok-view-in-Tag-clause-files
returns-in_ok-view-in-Tag-clause-files g c =
    (tree_is (g.O.Objects.name_of c.args.objects.now) c.sound_if_told.ensures.namer (g.O.Objects.told c.args.objects.now) c.args.name.now c.object-commit.result c.tree-in-Tag.result _ c.sound_if_told.ensures.sound c.requires.held (tagged (g.O.Objects.name_of c.args.objects.now) c.sound_if_told.ensures.namer (g.O.Objects.told c.args.objects.now) c.args.name.now c.object-commit.result c.in_ok-object.object _ c.sound_if_told.ensures.sound c.requires.held c.in-Tag.is c.in_ok-object.ensures.object c.in_ok-decode_tag-in-Tag.ensures.found c.object-commit.ensures) c.in_ok-view-in-Tag.ensures.commit c.tree-in-Tag.ensures).0

pub returns-in_ok-view-in-Tag-clause-held : goal.returns-in_ok-view-in-Tag-clause-held
returns-in_ok-view-in-Tag-clause-held g c =
    (tree_is (g.O.Objects.name_of c.args.objects.now) c.sound_if_told.ensures.namer (g.O.Objects.told c.args.objects.now) c.args.name.now c.object-commit.result c.tree-in-Tag.result _ c.sound_if_told.ensures.sound c.requires.held (tagged (g.O.Objects.name_of c.args.objects.now) c.sound_if_told.ensures.namer (g.O.Objects.told c.args.objects.now) c.args.name.now c.object-commit.result c.in_ok-object.object _ c.sound_if_told.ensures.sound c.requires.held c.in-Tag.is c.in_ok-object.ensures.object c.in_ok-decode_tag-in-Tag.ensures.found c.object-commit.ensures) c.in_ok-view-in-Tag.ensures.commit c.tree-in-Tag.ensures).1
