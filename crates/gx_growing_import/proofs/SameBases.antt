-- What bases give in both repositories.
use Rattle.std.proofs.Common.{◌≡◌, Bool, true, Option, None, Some, Result, Ok, Err, ap, sym, ◌∙◌}
use Rattle.std.specs.Result.{result_eq}
use Rattle.std.specs.Prelude.{IfSome}
use Rattle.gx_model.specs.declared.objects.Kind.{Kind}
use Rattle.gx_model.specs.Texts.{Bytes, same_bytes}
use Rattle.gx_model.specs.Histories.{Records}
use Rattle.gx_model.proofs.Texts.PathTests.{same_is}
use Rattle.std.specs.Bool.{passes}
use Rattle.gx_object.specs.declared.name.Name.{Name}
use Rattle.gx_rev.specs.declared.fault.RevFault.{RevFault}
use Rattle.gx_small_repo.specs.Small.{GivesBase, given_name}
use Rattle.gx_stand_ins.specs.SmallRepositories.{stand_name}
use Rattle.gx_stand_ins.specs.declared.bodies.TheConstants.{NONCE}
use Rattle.gx_growing_import.specs.Alike.{IsSameBaseName}

-- names of one text are one
pub same_names : (n m : Name) → same_bytes n.bytes m.bytes ≡ true → n ≡ m
same_names n m e = ap (λ bytes. record { bytes = bytes }) (same_is n.bytes m.bytes (passes _ e))

-- results whose tests pass are one, where those of what they hold tell this
pub same_results : {X Y : Type 0} (E : X → X → Bool) (F : Y → Y → Bool) → ((x y : X) → E x y ≡ true → x ≡ y) → ((x y : Y) → F x y ≡ true → x ≡ y)
    → (a b : Result X Y) → result_eq E F a b ≡ true → a ≡ b
same_results E F ok err (Ok x) (Ok y) e = ap Ok (ok x y e)
same_results E F ok err (Ok x) (Err d) e = absurd (cc)
same_results E F ok err (Err d) (Ok y) e = absurd (cc)
same_results E F ok err (Err d) (Err f) e = ap Err (err d f e)

-- a base that gives one name, or one fault, in both
pub base_same : (name : Kind → Bytes → Bytes) (small : Records) (told : Option Records) (base : Bytes) (there here : Result Name RevFault) → here ≡ there
    → IfSome told (λ whole. GivesBase name base whole there) → GivesBase (stand_name NONCE name) base small here → IfSome told (λ whole. IsSameBaseName name whole small base)
base_same name small None base there here same given gives = tt
base_same name small (Some whole) base there here same given gives = gives ∙ ap given_name same ∙ sym given
