-- The name of what a base gives, or why it gives nothing.
use Rattle.std.proofs.Common.{◌≡◌, Option, None, Some, Ok, Err, ap, ◌∙◌}
use Rattle.std.specs.Prelude.{IfSome}
use Rattle.gx_model.specs.declared.faults.Fault.{Fault}
use Rattle.gx_model.specs.declared.objects.Kind.{Kind}
use Rattle.gx_model.specs.Texts.{Bytes}
use Rattle.gx_model.specs.Faults.{◌>>=◌}
use Rattle.gx_model.specs.Objects.{IsNamer}
use Rattle.gx_model.specs.Histories.{Records}
use Rattle.gx_model.specs.Records.{name_of}
use Rattle.gx_model.specs.Records.HistoryOf.{history_of}
use Rattle.gx_model.specs.Records.Sound.{IsSound}
use Rattle.gx_model.specs.Revisions.Denotation.{base_value}
use Rattle.gx_model.proofs.Records.HeldValues.{held_is}
use Rattle.gx_object.specs.declared.name.Name.{Name}
use Rattle.gx_rev.specs.Objects.{IsHeld, value_at}
use Rattle.gx_stand_ins.specs.SmallRepositories.{base_name}

module _ (name : Kind → Bytes → Bytes) (namer : IsNamer name) (base : Bytes) where
  pub base_named : (told : Option Records) (called : Name) → IfSome told (IsSound name) → IfSome told (λ r. base_value name (history_of r) base ≡ Ok (value_at r called)) → IfSome told (λ r. IsHeld r called)
      → IfSome told (λ r. base_name name r base ≡ Ok called.bytes)
  base_named None called sound e held = tt
  base_named (Some r) called sound e held = ap (λ g. g >>= λ v. Ok (name_of name v)) e ∙ ap Ok (held_is name namer r sound called.bytes held).named

  pub base_refused : (told : Option Records) (fault : Fault) → IfSome told (λ r. base_value name (history_of r) base ≡ Err fault) → IfSome told (λ r. base_name name r base ≡ Err fault)
  base_refused None fault e = tt
  base_refused (Some r) fault e = ap (λ g. g >>= λ v. Ok (name_of name v)) e
