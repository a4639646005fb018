use Rattle.std.proofs.Common.{◌+◌, arith, drop}
use Rattle.std.proofs.lemmas.List.{drop_all}
use Rattle.gx_rev.proofs.Listings.{words_from}
use Rattle.gx_merge_base.proofs.Read.{all_so_far, none_so_far, one_more, one_refused, pushed}
use Rattle.gx_merge_base.proofs.words.commits_of.Goals as goal

pub loop-place-init : goal.loop-place-init
loop-place-init g c =
    let o = c.args.objects.now in
    none_so_far (g.O.Objects.name_of o) c.args.revisions.now (g.O.Objects.told o) c.new-commits.result.items c.new-commits.ensures.items

pub returns-in-Err : goal.returns-in-Err
returns-in-Err g c =
    let o = c.args.objects.now in
    let l = c.loop-place in
    let all = c.args.revisions.now in
    let x = c.index-revisions-place.result in
    let from = words_from all l.place x c.loop-place-test.true c.index-revisions-place.is in
    rw c.refused.ensures
    (one_refused (g.O.Objects.name_of o) all (drop l.place all) (drop (l.place + 1) all) x l.place l.commits.items from (g.O.Objects.told o) c.in-Err.kind (l.place + 1) (omega arith) l.invariant c.in-Err.ensures.commit)

pub loop-place-preserved : goal.loop-place-preserved
loop-place-preserved g c =
    let o = c.args.objects.now in
    let l = c.loop-place in
    let all = c.args.revisions.now in
    let x = c.index-revisions-place.result in
    let from = words_from all l.place x c.loop-place-test.true c.index-revisions-place.is in
    one_more (g.O.Objects.name_of o) all (drop l.place all) (drop (l.place + 1) all) x l.place l.commits.items from (g.O.Objects.told o) c.in-Ok.commit c.push.new.self.items (pushed c.push.result c.is_err.result _ _ _ c.is_err.ensures.value c.if-is_err.false c.push.ensures.items) c.in-Ok.ensures.commit c.in-Ok.ensures.held l.invariant

pub returns : goal.returns
returns g c =
    let o = c.args.objects.now in
    let l = c.loop-place in
    let all = c.args.revisions.now in
    all_so_far (g.O.Objects.name_of o) all (g.O.Objects.told o) (drop l.place all) l.place l.commits.items (drop_all l.place all c.loop-place-test.false) l.invariant
