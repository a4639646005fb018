use Rattle.std.proofs.Common.{ap, sym, subst, ◌*◌, ◌/◌, ◌<◌, ◌∙◌}
use Rattle.gx_model.specs.Objects.{is_name}
use Rattle.gx_store.specs.Chains.{chain_of, front}
use Rattle.gx_store.proofs.FrontOrder.{chain_within}
use Rattle.gx_store.proofs.fronts.chain_of.Goals as goal

pub returns-clause-chain : goal.returns-clause-chain
unfolding chain_of
returns-clause-chain c = ap (λ f. f * c.args.chains / 4294967296) (c.from.ensures ∙ c.front-front.ensures.front ∙ ap front c.as_slice.ensures)

pub returns-clause-within : goal.returns-clause-within
returns-clause-within c =
    subst (λ chain. chain < c.args.chains) (sym (returns-clause-chain c))
    (chain_within c.args.chains c.args.name.now c.requires (ap is_name (sym c.as_slice.ensures) ∙ c.front-front.ensures.bytes))
