-- The commit that is HEAD in a bundle, by the ref that holds it.
use Rattle.std.proofs.Common.{◌≡◌, ap, refl, sym, ◌∙◌, Bool, false, [], ◌∷◌, length, Option, None, Some, Ok, Err}
use Rattle.std.specs.Prelude.{if◌then◌else◌}
use Rattle.std.specs.Bool.{◌==◌}
use Rattle.std.specs.Option.{ok_or}
use Rattle.gx_model.specs.declared.faults.Fault.TheVariants.{UnknownRef, WrongKind}
use Rattle.gx_model.specs.declared.objects.Kind.TheVariants as kinds
use Rattle.gx_model.specs.Faults.{Given, ◌>>=◌}
use Rattle.gx_model.specs.Histories.{Records}
use Rattle.gx_model.specs.Records.Lookups.{first_named}
use Rattle.gx_model.specs.Records.RecordFaults.{is_held}
use Rattle.gx_model.specs.Revisions.Denotation.{ref_names}
use Rattle.gx_model.specs.Texts.{Bytes}
use Rattle.gx_c.specs.Bundles.{head_given, only_held_commit}

-- what a ref gives, if any
abbrev by_ref : Records → Option Bytes → Given (Option Bytes)
by_ref r found = ok_or found UnknownRef >>= only_held_commit r

-- the same of one that is held as a commit, or isn't
abbrev by_kind : Bytes → Bool → Given (Option Bytes)
by_kind called held = if held then Ok (Some called) else Err WrongKind

asked : (r : Records) (head : Bytes) → false ≡ (length head == 0) → head_given r head ≡ by_ref r (first_named r.refs (ref_names head))
asked r [] e = absurd cc
asked r (b ∷ bs) e = refl

module _ (r : Records) (head : Bytes) (some : false ≡ (length head == 0)) where
  pub unknown : None ≡ first_named r.refs (ref_names head) → head_given r head ≡ Err UnknownRef
  unknown none = asked r head some ∙ ap (by_ref r) (sym none)

  pub known : (called : Bytes) → Some called ≡ first_named r.refs (ref_names head) → (held : Bool) → held ≡ is_held r.records kinds.Commit called
      → head_given r head ≡ by_kind called held
  known called found held is = asked r head some ∙ ap (by_ref r) (sym found) ∙ ap (by_kind called) (sym is)
