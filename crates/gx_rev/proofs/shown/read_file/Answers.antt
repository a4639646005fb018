use Rattle.std.proofs.Common.{Ok, sym, ap, ◌∙◌}
use Rattle.gx_model.specs.declared.objects.Mode.TheVariants.{Gitlink}
use Rattle.gx_rev.proofs.shown.read_file.Goals as goal

pub returns-in-Dir-clause-first : goal.returns-in-Dir-clause-first
returns-in-Dir-clause-first g c = λ e. absurd (cc e)

pub returns-in_ok-from_slice-in-Gitlink-clause-file : goal.returns-in_ok-from_slice-in-Gitlink-clause-file
returns-in_ok-from_slice-in-Gitlink-clause-file g c =
    rw c.in-Gitlink.is (ap (λ bytes. Ok (Gitlink, bytes)) (sym (c.in_ok-from_slice-in-Gitlink.ensures.items ∙ c.hex.ensures.digits)))
