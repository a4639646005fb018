-- What a revision gives, in two steps: a base with suffixes, and then a path.
use Rattle.std.proofs.Common.{◌≡◌, refl, sym, ap, subst, ◌∙◌, Option, None, Some, Result, Ok, Err}
use Rattle.std.specs.Prelude.{IfSome}
use Rattle.gx_model.specs.declared.faults.Fault.TheVariants as fault
use Rattle.gx_model.specs.declared.objects.Kind.{Kind}
use Rattle.gx_model.specs.Texts.{Bytes}
use Rattle.gx_model.specs.Texts.Paths.{Path}
use Rattle.gx_model.specs.Objects.{IsNamer}
use Rattle.gx_model.specs.Records.{kind_of}
use Rattle.gx_model.specs.Faults.{Given, ◌>>=◌}
use Rattle.gx_model.specs.Histories.{Records}
use Rattle.gx_model.specs.Histories.Values.{Value}
use Rattle.gx_model.specs.Records.HistoryOf.{history_of}
use Rattle.gx_model.specs.Revisions.{Revision}
use Rattle.gx_model.specs.Revisions.Denotation.{all_suffixed, base_value, denoted, object, shown_at, shown_value, value_denoted}
use Rattle.gx_model.proofs.Records.HeldValues.{held_is}
use Rattle.gx_object.specs.declared.name.Name.{Name}
use Rattle.gx_rev.specs.Answers.{IsNamed, shown_by}
use Rattle.gx_rev.specs.Objects.{IsHeld, value_at}
use Rattle.gx_rev.specs.declared.shown.Shown.{Shown}
use Rattle.gx_rev.specs.declared.shown.Shown.TheVariants.{Object, Submodule}
use Rattle.gx_questions.specs.Answers.{Answers, IfTold, Refuses}
use Rattle.gx_questions.specs.declared.fault.AskFault.{AskFault}
use Rattle.gx_questions.proofs.Found.{Sound}
use Rattle.gx_questions.proofs.Suffixes.{always}
use Rattle.gx_questions.proofs.Told.{fails_first, given_alike, goes_on}

-- two steps and then a third are one and then two
in_turn : {A B C : Type 0} (first : Given A) (second : A → Given B) (third : B → Given C) → (first >>= λ a. second a >>= third) ≡ ((first >>= second) >>= third)
in_turn (Ok a) second third = refl
in_turn (Err e) second third = refl

-- with no path the value is shown
pub none_shown : (told : Option Records) (n : Name) (path : Option Path) → None ≡ path → IfSome told (λ r. shown_at (value_at r n) path ≡ Ok (object (value_at r n)))
none_shown None n path e = tt
none_shown (Some r) n path e = ap (shown_at (value_at r n)) (sym e)

pub none_value : (told : Option Records) (n : Name) (path : Option Path) → None ≡ path → IfSome told (λ r. (shown_at (value_at r n) path >>= shown_value) ≡ Ok (value_at r n))
none_value None n path e = tt
none_value (Some r) n path e = ap (λ p. shown_at (value_at r n) p >>= shown_value) (sym e)

-- with a path what is shown is an object, a submodule, or none
pub object_value : (told : Option Records) (v n : Name) (path : Option Path) (p : Path) (seen : Shown) (k : Kind) → Some p ≡ path → seen ≡ Object k n → IfSome told (λ r. shown_at (value_at r v) (Some p) ≡ Ok (shown_by r seen))
    → IfSome told (λ r. (shown_at (value_at r v) path >>= shown_value) ≡ Ok (value_at r n))
object_value None v n path p seen k e s h = tt
object_value (Some r) v n path p seen k e s h =
    ap (λ q. shown_at (value_at r v) q >>= shown_value) (sym e) ∙ ap (λ g. g >>= shown_value) h ∙ ap (λ t. shown_value (shown_by r t)) s

pub no_value : (told : Option Records) (v n : Name) (path : Option Path) (p : Path) (seen : Shown) → Some p ≡ path → seen ≡ Submodule n → IfSome told (λ r. shown_at (value_at r v) (Some p) ≡ Ok (shown_by r seen))
    → IfSome told (λ r. (shown_at (value_at r v) path >>= shown_value) ≡ Err fault.WrongKind)
no_value None v n path p seen e s h = tt
no_value (Some r) v n path p seen e s h =
    ap (λ q. shown_at (value_at r v) q >>= shown_value) (sym e) ∙ ap (λ g. g >>= shown_value) h ∙ ap (λ t. shown_value (shown_by r t)) s

pub path_fails : (told : Option Records) (v : Name) (path : Option Path) (p : Path) (e : AskFault) → Some p ≡ path → Refuses told (λ r. shown_at (value_at r v) (Some p)) e → Refuses told (λ r. shown_at (value_at r v) path >>= shown_value) e
path_fails told v path p e s h = subst (λ q. Refuses told (λ r. shown_at (value_at r v) q >>= shown_value) e) s (fails_first told (λ r. shown_at (value_at r v) (Some p)) (λ r. shown_value) e h)

-- a held object is shown by its kind and name
pub kind_named : (name : Kind → Bytes → Bytes) (namer : IsNamer name) (told : Option Records) (n : Name) (k : Kind) → Sound name namer told → IfTold told IsHeld n → IfSome told (λ r. k ≡ kind_of name (value_at r n)) → IfTold told (IsNamed name) (Object k n)
kind_named name namer None n k s h e = tt
kind_named name namer (Some r) n k s h e = (e, sym (held_is name namer r s n.bytes h).named, h)

module _ (name : Kind → Bytes → Bytes) (told : Option Records) (revision : Revision) where
  -- what the base and the suffixes give
  abbrev pub front : Records → Given Value
  front r = base_value name (history_of r) revision.base >>= λ v. all_suffixed v revision.suffixes

  shown_behind : (r : Records) → denoted name (history_of r) revision ≡ (front r >>= λ w. shown_at w revision.path)
  unfolding denoted
  shown_behind r = in_turn (base_value name (history_of r) revision.base) (λ v. all_suffixed v revision.suffixes) (λ w. shown_at w revision.path)

  value_behind : (r : Records) → value_denoted name (history_of r) revision ≡ (front r >>= λ w. shown_at w revision.path >>= shown_value)
  value_behind r = ap (λ g. g >>= shown_value) (shown_behind r) ∙ sym (in_turn (front r) (λ w. shown_at w revision.path) shown_value)

  pub shows : (n : Name) (result : Result Shown AskFault) → IfSome told (λ r. front r ≡ Ok (value_at r n)) → Answers told shown_by (λ r. shown_at (value_at r n) revision.path) result
      → Answers told shown_by (λ r. denoted name (history_of r) revision) result
  shows n result e h =
      given_alike told shown_by (λ r. front r >>= λ w. shown_at w revision.path) (λ r. denoted name (history_of r) revision) result
      (always told (λ r. denoted name (history_of r) revision ≡ (front r >>= λ w. shown_at w revision.path)) shown_behind)
      (goes_on told value_at front n shown_by (λ r w. shown_at w revision.path) result e h)

  pub gives_value : (n : Name) (result : Result Name AskFault) → IfSome told (λ r. front r ≡ Ok (value_at r n)) → Answers told value_at (λ r. shown_at (value_at r n) revision.path >>= shown_value) result
      → Answers told value_at (λ r. value_denoted name (history_of r) revision) result
  gives_value n result e h =
      given_alike told value_at (λ r. front r >>= λ w. shown_at w revision.path >>= shown_value) (λ r. value_denoted name (history_of r) revision) result
      (always told (λ r. value_denoted name (history_of r) revision ≡ (front r >>= λ w. shown_at w revision.path >>= shown_value)) value_behind)
      (goes_on told value_at front n value_at (λ r w. shown_at w revision.path >>= shown_value) result e h)

  -- what the front refuses, the revision does
  pub shows_none : (e : AskFault) → Refuses told front e → Refuses told (λ r. denoted name (history_of r) revision) e
  shows_none e h =
      given_alike {X = Shown} told shown_by (λ r. front r >>= λ w. shown_at w revision.path) (λ r. denoted name (history_of r) revision) (Err e)
      (always told (λ r. denoted name (history_of r) revision ≡ (front r >>= λ w. shown_at w revision.path)) shown_behind)
      (fails_first told front (λ r w. shown_at w revision.path) e h)

  pub gives_none : (e : AskFault) → Refuses told front e → Refuses told (λ r. value_denoted name (history_of r) revision) e
  gives_none e h = fails_first told (λ r. denoted name (history_of r) revision) (λ r. shown_value) e (shows_none e h)
