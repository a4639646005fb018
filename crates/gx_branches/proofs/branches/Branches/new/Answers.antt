use Rattle.std.proofs.Common.{◌≡◌, ◌∙◌, ap, arith, length}
use Rattle.gx_branches.specs.Branches.{candidates}
use Rattle.gx_branches.proofs.Told.{are_found, candidates_are_tips, ranked_by_tips}
use Rattle.gx_branches.proofs.branches.Branches.new.Goals as goal

pub front_of-requires : goal.front_of-requires
front_of-requires g c =
    let o = c.args.objects.now in
    let s = c.sound_if_told.ensures in
    record { tips = candidates_are_tips (g.O.Objects.name_of o) s.namer (g.O.Objects.stands o) (g.O.Objects.told o) s.sound s.order c.args.refs.now c.deref.result.now (c.deref.ensures.value ∙ c.in_ok-candidates.ensures) c.requires.refs }

pub ranks_of-requires-clause-ranked : goal.ranks_of-requires-clause-ranked
ranks_of-requires-clause-ranked g c =
    let o = c.args.objects.now in
    let s = c.sound_if_told.ensures in
    ranked_by_tips (g.O.Objects.name_of o) s.namer (g.O.Objects.stands o) (g.O.Objects.told o) s.sound s.order c.deref.result.now c.in_ok-front.front.entries c.in_ok-front.ensures.front

pub returns-clause-found : goal.returns-clause-found
returns-clause-found g c =
    let o = c.args.objects.now in
    let s = c.sound_if_told.ensures in
    let refs = c.args.refs.now in
    let all = c.in_ok-candidates.ensures in
    let count : c.len.result ≡ length (candidates refs) = omega (arith, c.len.ensures, ap length all, c.in_ok-candidates.candidates.ok) in
    are_found (g.O.Objects.name_of o) s.namer (g.O.Objects.stands o) (g.O.Objects.told o) s.sound s.order refs c.deref.result.now c.args.sent.now c.in_ok-front.front.entries c.len.result _ (c.deref.ensures.value ∙ all) all count
    c.requires.refs c.in_ok-front.ensures.front c.in_ok-ranks.ensures.ranks
