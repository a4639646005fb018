use Rattle.std.proofs.Common.{◌∙◌, ap}
use Rattle.gx_ref_lines.specs.Refs.{shown_refs}
use Rattle.gx_small_repo.proofs.OfWhole.{none_small, refs_stay}
use Rattle.gx_small_repo.proofs.small.small_repository.Goals as goal

pub put_wanted-requires : goal.put_wanted-requires
put_wanted-requires g c = record {
  nonce = ap (λ r. r.0.nonce) c.new-repo.ensures;
  small = none_small (g.O.Objects.told c.args.objects.now) c.new-repo.result.1 (ap (λ r. r.1) c.new-repo.ensures);
}

pub returns-clause-namer : goal.returns-clause-namer
returns-clause-namer g c = c.in_ok-set_refs.ensures.namer ∙ c.in_ok-put_wanted.ensures.namer ∙ ap (λ r. r.0) c.new-repo.ensures

pub returns-clause-small : goal.returns-clause-small
returns-clause-small g c = λ are.
    refs_stay (g.O.Objects.told c.args.objects.now) (g.O.Objects.name_of c.args.objects.now) c.sound_if_told.ensures.sound (shown_refs c.args.lines.now.refs.items) are c.put_wanted.new.repo.1 c.set_refs.new.repo.1
    c.in_ok-put_wanted.ensures.small c.in_ok-set_refs.ensures.records c.in_ok-set_refs.ensures.refs
