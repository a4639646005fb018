use Rattle.std.proofs.Common.{◌≡◌, [], ◌∷◌, sym, ap, subst, ◌∙◌}
use Rattle.std.specs.List.{AllByRecursion}
use Rattle.std.specs.Ordering.{nat_cmp}
use Rattle.std.specs.BTreeSet.{insert_key}
use Rattle.gx_model.specs.declared.objects.Kind.TheVariants as kinds
use Rattle.gx_model.proofs.Records.HeldValues.{commit_held, holds_held}
use Rattle.gx_model.proofs.Records.Standing.{commit_at_place}
use Rattle.gx_rev.specs.Objects.{commit_at}
use Rattle.gx_rev.specs.Parents.{IsCommitPlace}
use Rattle.gx_rev.proofs.PlaceLists.{one_reaches}
use Rattle.gx_rev.proofs.ancestors.is_ancestor.Goals as goal

pub is_first_parent-requires : goal.is_first_parent-requires
is_first_parent-requires g c = holds_held (g.N.Namer.name_of c.args.repo.now.0) (g.met.N.Namer.is_namer c.args.repo.now.0) c.args.repo.now.1 c.sound.ensures kinds.Commit c.args.new.now.bytes c.requires.new

pub returns-then-is_first_parent-clause-answer : goal.returns-then-is_first_parent-clause-answer
returns-then-is_first_parent-clause-answer g c = c.is_first_parent.ensures c.if-is_first_parent.true

pub place_of-last-requires : goal.place_of-last-requires
place_of-last-requires g c =
    let name = g.N.Namer.name_of c.args.repo.now.0 in
    let namer = g.met.N.Namer.is_namer c.args.repo.now.0 in
    let r = c.args.repo.now.1 in
    commit_held name namer r c.sound.ensures c.args.old.now.bytes (holds_held name namer r c.sound.ensures kinds.Commit c.args.old.now.bytes c.requires.old)

pub place_of-first-requires : goal.place_of-first-requires
place_of-first-requires g c =
    let name = g.N.Namer.name_of c.args.repo.now.0 in
    let namer = g.met.N.Namer.is_namer c.args.repo.now.0 in
    let r = c.args.repo.now.1 in
    commit_held name namer r c.sound.ensures c.args.new.now.bytes (holds_held name namer r c.sound.ensures kinds.Commit c.args.new.now.bytes c.requires.new)

pub is_reached-requires-clause-commits : goal.is_reached-requires-clause-commits
is_reached-requires-clause-commits g c =
    let name = g.N.Namer.name_of c.args.repo.now.0 in
    let namer = g.met.N.Namer.is_namer c.args.repo.now.0 in
    let r = c.args.repo.now.1 in
    let at = commit_at_place name namer r c.sound.ensures c.args.new.now.bytes c.place_of-first.result (holds_held name namer r c.sound.ensures kinds.Commit c.args.new.now.bytes c.requires.new) c.place_of-first.ensures in
    let keys : c.insert.new.self.keys ≡ c.place_of-first.result ∷ [] = c.in_ok-insert.ensures.keys ∙ ap (λ ks. insert_key nat_cmp ks c.place_of-first.result) c.new-places.ensures.empty in
    subst (AllByRecursion (IsCommitPlace r)) (sym keys) ((commit_at r c.args.new.now, at), tt)

pub returns-clause-answer : goal.returns-clause-answer
returns-clause-answer g c =
    let name = g.N.Namer.name_of c.args.repo.now.0 in
    let namer = g.met.N.Namer.is_namer c.args.repo.now.0 in
    let r = c.args.repo.now.1 in
    let first = commit_at_place name namer r c.sound.ensures c.args.new.now.bytes c.place_of-first.result (holds_held name namer r c.sound.ensures kinds.Commit c.args.new.now.bytes c.requires.new) c.place_of-first.ensures in
    let last = commit_at_place name namer r c.sound.ensures c.args.old.now.bytes c.place_of-last.result (holds_held name namer r c.sound.ensures kinds.Commit c.args.old.now.bytes c.requires.old) c.place_of-last.ensures in
    let keys : c.insert.new.self.keys ≡ c.place_of-first.result ∷ [] = c.in_ok-insert.ensures.keys ∙ ap (λ ks. insert_key nat_cmp ks c.place_of-first.result) c.new-places.ensures.empty in
    one_reaches r (commit_at r c.args.new.now) (commit_at r c.args.old.now) c.place_of-first.result c.insert.new.self.keys c.is_reached.result keys first (c.is_reached.ensures.told (commit_at r c.args.old.now) last)
