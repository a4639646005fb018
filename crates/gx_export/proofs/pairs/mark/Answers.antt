use Rattle.std.proofs.Common.{◌≡◌, [], ◌∷◌, sym, refl, rules}
use denote.Enum.Bare.{same_true}
use Rattle.gx_model.specs.declared.objects.Mode.{Mode}
use Rattle.gx_model.specs.declared.objects.Mode.TheVariants.{Dir}
use Rattle.gx_model.specs.contracts.objects.Mode.{the_type}
use Rattle.gx_object.specs.Entries.{mark_of}
use Rattle.gx_export.proofs.pairs.mark.Goals as goal

marked : (mode : Mode) → mode ≡ Dir → 47 ∷ [] ≡ mark_of mode
marked mode e = rw e refl

pub returns-then-eq : goal.returns-then-eq
returns-then-eq c = marked c.args.mode (same_true the_type (search rules) _ _ (sym c.if-eq.ensures))
