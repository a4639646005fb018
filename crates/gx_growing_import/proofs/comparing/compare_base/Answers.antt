use Rattle.std.proofs.Common.{rules, ◌≡◌, ◌∙◌, sym, subst}
use denote.Enum.Bare.{same_true}
use Rattle.gx_rev.specs.contracts.fault.RevFault.{the_type}
use Rattle.gx_small_repo.specs.Small.{GivesBase}
use Rattle.gx_stand_ins.specs.SmallRepositories.{stand_name}
use Rattle.gx_stand_ins.specs.declared.bodies.TheConstants.{NONCE}
use Rattle.gx_growing_import.proofs.SameBases.{base_same, same_names, same_results}
use Rattle.gx_growing_import.proofs.comparing.compare_base.Goals as goal

pub returns-then-eq : goal.returns-then-eq
returns-then-eq g c =
    let base = c.args.base.now in
    let small = c.args.small.now in
    let here = c.in_ok-base_given.field-0 in
    let same : here ≡ c.in_ok-held.held = same_results _ _ same_names (λ x y e. same_true the_type (search rules) x y e) _ _ (sym c.eq.ensures ∙ c.if-eq.true) in
    let gives = subst (λ nonce. GivesBase (stand_name nonce (g.N.Namer.name_of small.0.namer)) base small.1 here) c.requires.nonce c.in_ok-base_given.ensures.given in
    record {
      same = base_same (g.O.Objects.name_of c.args.objects.now) small.1 (g.O.Objects.told c.args.objects.now) base c.in_ok-held.held here same c.in_ok-held.ensures.given
          (subst (λ name. GivesBase (stand_name NONCE name) base small.1 here) c.requires.names gives);
    }
