use Rattle.std.proofs.Common.{length, sym, ap, ◌∙◌}
use Rattle.std.proofs.lemmas.List.{length-map}
use Rattle.gx_store.specs.Objects.{shown_stored}
use Rattle.gx_store.proofs.store.Store.len.Goals as goal

pub returns-clause-count : goal.returns-clause-count
returns-clause-count g c = c.len.ensures.len ∙ sym (length-map c.self.inside.objects.entries shown_stored) ∙ ap (λ v. length v.1) c.self.view_is
