-- What is shown, by its kind.
use Rattle.std.proofs.Common.{◌≡◌, ◌≢◌, ◌∙◌, refl, sym, subst, Option, None, Some, Result}
use Rattle.std.specs.Prelude.{IfSome}
use Rattle.gx_model.specs.declared.objects.Kind.{Kind}
use Rattle.gx_model.specs.declared.objects.Kind.TheVariants as kinds
use Rattle.gx_model.specs.Histories.{Records}
use Rattle.gx_model.specs.Histories.Values.{Value, blob_value, commit_value, tag_value, tree_value}
use Rattle.gx_model.specs.Objects.{IsNamer}
use Rattle.gx_model.specs.Records.{body_of, kind_of}
use Rattle.gx_model.specs.Records.Sound.{IsSound}
use Rattle.gx_model.specs.Texts.{Bytes}
use Rattle.gx_model.specs.Texts.Sinks.{Taken}
use Rattle.gx_model.proofs.Records.HeldValues.{held_kind}
use Rattle.gx_object.specs.declared.name.Name.{Name}
use Rattle.gx_objects.specs.declared.objects.Object.{Object as Found}
use Rattle.gx_questions.specs.Objects.{IsObjectAt}
use Rattle.gx_rev.specs.Answers.{IsNamed, shown_by}
use Rattle.gx_rev.specs.Objects.{IsHeld, IsHeldAs, value_at}
use Rattle.gx_rev.specs.declared.shown.Shown.TheVariants.{Object}
use Rattle.gx_print.specs.Listings.{shown_text, value_text}
use Rattle.gx_told.specs.Printing.{PrintsText}
use Rattle.gx_told.specs.declared.fault.ToldFault.{ToldFault}
use Rattle.gx_told.proofs.Tellings.{both_told, map_told}

-- what isn't a tree is shown as its body
pub text_of_body : (name : Kind → Bytes → Bytes) (value : Value) → kind_of name value ≢ kinds.Tree → body_of name value ≡ value_text name value
text_of_body name (blob_value bytes) h = refl
text_of_body name (tree_value files) h = absurd (h refl)
text_of_body name (commit_value made) h = refl
text_of_body name (tag_value tag) h = refl

module _ (name : Kind → Bytes → Bytes) (told : Option Records) (kind : Kind) (called : Name) where
  -- what is shown as a tree is held as one
  pub tree_held : IsNamer name → kind ≡ kinds.Tree → IfSome told (IsSound name) → IfSome told (λ r. IsNamed name r (Object kind called)) → IfSome told (λ r. IsHeldAs kinds.Tree r called)
  tree_held namer is = both_told told (IsSound name) (λ r. IsNamed name r (Object kind called)) (λ r. IsHeldAs kinds.Tree r called) (λ r sound h. held_kind name namer r sound kinds.Tree called.bytes h.2 (sym h.0 ∙ is))

  -- what is shown is held
  pub shown_held : IfSome told (λ r. IsNamed name r (Object kind called)) → IfSome told (λ r. IsHeld r called)
  shown_held = map_told told (λ r. IsNamed name r (Object kind called)) (λ r. IsHeld r called) (λ r h. h.2)

  -- the body that goes out of what isn't a tree is what is shown
  pub body_shown : (was now : Option Taken) (answer : Result (Unit {0}) ToldFault) → kind ≢ kinds.Tree → IfSome told (λ r. IsNamed name r (Object kind called)) → IfSome told (λ r. PrintsText (body_of name (value_at r called)) was now answer)
      → IfSome told (λ r. PrintsText (shown_text name (shown_by r (Object kind called))) was now answer)
  body_shown was now answer not =
      both_told told (λ r. IsNamed name r (Object kind called)) (λ r. PrintsText (body_of name (value_at r called)) was now answer) (λ r. PrintsText (shown_text name (shown_by r (Object kind called))) was now answer)
      (λ r h k. subst (λ text. PrintsText text was now answer) (text_of_body name (value_at r called) (λ e. not (h.0 ∙ e))) k)

-- an object of another kind is of no repository
pub other_kind : (name : Kind → Bytes → Bytes) (told : Option Records) (kind : Kind) (called : Name) (found : Found) → IfSome told (λ r. IsNamed name r (Object kind called)) → IfSome told (λ r. IsObjectAt name called r found) → found.kind ≢ kind → told ≡ None
other_kind name None kind called found named is not = refl
other_kind name (Some r) kind called found named is not = absurd (not (is.kind ∙ sym named.0))
