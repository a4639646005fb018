use Rattle.std.proofs.Common.{◌≡◌, ◌∷◌, ◌∙◌, [], ap, subst, sym}
use Rattle.std.specs.BTreeSet.{insert_key}
use Rattle.std.specs.Ordering.{nat_cmp}
use Rattle.gx_model.proofs.Records.Standing.{commit_at_place}
use Rattle.gx_rev.specs.Meetings.{AreMeeting}
use Rattle.gx_rev.specs.Objects.{commit_at}
use Rattle.gx_rev.proofs.MeetingWalks.{begun, on_ok}
use Rattle.gx_rev.proofs.meetings.mark_common.Goals as goal

pub mark_meetings-requires-clause-meeting : goal.mark_meetings-requires-clause-meeting
mark_meetings-requires-clause-meeting g c =
    let name = g.N.Namer.name_of c.args.repo.now.0 in
    let namer = g.met.N.Namer.is_namer c.args.repo.now.0 in
    let r = c.args.repo.now.1 in
    let a = commit_at r c.args.left.now in
    let b = commit_at r c.args.right.now in
    let i = c.place_of-left.result in
    let j = c.place_of-right.result in
    let here = commit_at_place name namer r c.sound.ensures c.args.left.now.bytes i c.requires.left c.place_of-left.ensures in
    let there = commit_at_place name namer r c.sound.ensures c.args.right.now.bytes j c.requires.right c.place_of-right.ensures in
    let lefts : c.insert.new.self.keys ≡ i ∷ [] = c.in_ok-insert.ensures.keys ∙ ap (λ ks. insert_key nat_cmp ks i) c.new-lefts.ensures.empty in
    let rights : c.insert-2.new.self.keys ≡ j ∷ [] = c.in_ok-insert-2.ensures.keys ∙ ap (λ ks. insert_key nat_cmp ks j) c.new-rights.ensures.empty in
    let marks = c.args.marks.now in
    let m = subst (λ zs. AreMeeting r a b marks marks c.insert.new.self.keys zs) (sym rights) (subst (λ zs. AreMeeting r a b marks marks zs (j ∷ [])) (sym lefts) (begun r a b marks i j c.requires.long here there)) in
    (a, b, marks, m)

pub returns-clause-marks : goal.returns-clause-marks
returns-clause-marks g c =
    let name = g.N.Namer.name_of c.args.repo.now.0 in
    let namer = g.met.N.Namer.is_namer c.args.repo.now.0 in
    let r = c.args.repo.now.1 in
    let a = commit_at r c.args.left.now in
    let b = commit_at r c.args.right.now in
    let i = c.place_of-left.result in
    let j = c.place_of-right.result in
    let here = commit_at_place name namer r c.sound.ensures c.args.left.now.bytes i c.requires.left c.place_of-left.ensures in
    let there = commit_at_place name namer r c.sound.ensures c.args.right.now.bytes j c.requires.right c.place_of-right.ensures in
    let lefts : c.insert.new.self.keys ≡ i ∷ [] = c.in_ok-insert.ensures.keys ∙ ap (λ ks. insert_key nat_cmp ks i) c.new-lefts.ensures.empty in
    let rights : c.insert-2.new.self.keys ≡ j ∷ [] = c.in_ok-insert-2.ensures.keys ∙ ap (λ ks. insert_key nat_cmp ks j) c.new-rights.ensures.empty in
    let marks = c.args.marks.now in
    let m = subst (λ zs. AreMeeting r a b marks marks c.insert.new.self.keys zs) (sym rights) (subst (λ zs. AreMeeting r a b marks marks zs (j ∷ [])) (sym lefts) (begun r a b marks i j c.requires.long here there)) in
    on_ok c.mark_meetings.result (λ all. all a b marks m) c.mark_meetings.ensures.marks
