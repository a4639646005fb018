-- Damages that are known, with one more.
use Rattle.std.proofs.Common.{◌≡◌, ℕ, Bool, true, false, cond, refl, sym, ap, subst, ◌∙◌, Option, Some, None, Result, Ok, Err}
use Rattle.std.specs.Prelude.{is_some, IfErr, IfOk, IfSome, IsTrue, OnOk}
use Rattle.std.specs.Bool.{passes}
use Rattle.gx_model.specs.declared.objects.Kind.{Kind}
use Rattle.gx_model.specs.Texts.{Bytes, same_bytes}
use Rattle.gx_model.specs.Histories.{Records}
use Rattle.gx_model.proofs.Texts.PathTests.{is_same, is_true, same_is}
use Rattle.gx_objects.specs.Answers.{StandsThere}
use Rattle.gx_objects.specs.declared.fault.LookFault.{LookFault}
use Rattle.gx_objects.specs.declared.fault.LookFault.TheVariants as faults
use Rattle.gx_reached.specs.Damages.{AreDamages, Enters, IsBad, IsDamage, KeepsBad, damage_in, itself}
use Rattle.gx_reached.specs.Reaching.{StandsSomewhere, TellsCause, TellsPlace}
use Rattle.gx_reached.specs.declared.bad.Bad.{Bad}
use Rattle.gx_reached.specs.declared.damage.Cause.{Cause}
use Rattle.gx_reached.specs.declared.damage.Cause.TheVariants.{Missing, ReadFailed}
use Rattle.gx_reached.specs.declared.damage.Damage.{Damage}

module _ {A : Type 0} (old new : Bad A) (called : Bytes) (damage : Damage) (enters : Enters old new called damage) where
  -- what is entered is bad
  pub bad_now : IsBad new called
  bad_now = subst (λ (o : Option Damage). IsTrue (is_some o)) (sym (enters called ∙ ap (λ b. cond b (Some damage) (damage_in old called)) (is_true _ (is_same called called refl)))) refl

  pub keeps_bad : KeepsBad old new
  keeps_bad other h = subst (λ (o : Option Damage). IsTrue (is_some o)) (sym (enters other)) (by (same_bytes called other))
    where
      by : (b : Bool) → IsTrue (is_some (cond b (Some damage) (damage_in old other)))
      by true = refl
      by false = h

  pub entered : (name : Kind → Bytes → Bytes) (told : Option Records) → IsDamage name told called damage → IsBad new damage.object.bytes → AreDamages name told old → AreDamages name told new
  entered name told is bad are = record {
    each = λ other d e. each other d (same_bytes called other) refl (sym (enters other) ∙ e);
    itself = λ other d e. known other d (same_bytes called other) (sym (enters other) ∙ e);
  }
    where
      each : (other : Bytes) (d : Damage) (b : Bool) → same_bytes called other ≡ b → cond b (Some damage) (damage_in old other) ≡ Some d → IsDamage name told other d
      each other d true k e =
          let same : damage ≡ d = cc e in
          subst (λ n. IsDamage name told n d) (same_is called other (passes _ k)) (subst (IsDamage name told called) same is)
      each other d false k e = are.each other d e

      known : (other : Bytes) (d : Damage) (b : Bool) → cond b (Some damage) (damage_in old other) ≡ Some d → IsBad new d.object.bytes
      known other d true e = let same : damage ≡ d = cc e in subst (λ (x : Damage). IsBad new x.object.bytes) same bad
      known other d false e = keeps_bad d.object.bytes (are.itself other d e)

-- an object that is damaged itself
pub entered_itself : {A : Type 0} (old new : Bad A) (damage : Damage) → Enters old new damage.object.bytes damage → (name : Kind → Bytes → Bytes) (told : Option Records)
    → IfSome told (λ _. damage.cause ≡ ReadFailed) → AreDamages name told old → AreDamages name told new
entered_itself old new damage enters name told unread are =
    entered old new damage.object.bytes damage enters name told
    (record { leads = itself damage.object.bytes damage.object.bytes refl; unread = unread }) (bad_now old new damage.object.bytes damage enters) are

-- of what tells a repository only a read failed
pub only_unread : (told : Option Records) (fault : LookFault) (cause : Cause) → TellsCause fault cause → (fault ≡ faults.Damaged → told ≡ None) → IfSome told (λ _. cause ≡ ReadFailed)
only_unread None fault cause tells only = tt
only_unread (Some r) faults.OutOfMemory cause tells only = absurd tells
only_unread (Some r) faults.ReadFailed cause tells only = tells
only_unread (Some r) faults.Damaged cause tells only = absurd (let e = only refl in cc e)

-- ---- a place that is asked for

-- the place that is told
pub placed : (told : Option Records) (stands : ℕ → ℕ) (called : Bytes) (answer : Result (Option ℕ) LookFault) (found : Result ℕ Cause) (place : ℕ) → found ≡ Ok place → TellsPlace answer found → IfSome told (λ r. IfOk answer (StandsThere stands called r))
    → IfSome told (λ r. StandsThere stands called r (Some place))
placed None stands called answer found place is tells h = tt
placed (Some r) stands called (Ok (Some p)) found place is tells h =
    let same : place ≡ p = (let e : ◌≡◌ {A = Result ℕ Cause} (Ok place) (Ok p) = sym is ∙ tells in cc e) in
    subst (λ q. StandsThere stands called r (Some q)) (sym same) h
placed (Some r) stands called (Ok None) found place is tells h = absurd (let e : ◌≡◌ {A = Result ℕ Cause} (Ok place) (Err Missing) = sym is ∙ tells in cc e)
placed (Some r) stands called (Err f) found place is tells h = absurd (subst (TellsPlace (Err f)) is tells)

-- where none is told of a repository's object, a read failed
pub not_placed : (told : Option Records) (stands : ℕ → ℕ) (called : Bytes) (answer : Result (Option ℕ) LookFault) (found : Result ℕ Cause) (cause : Cause) → found ≡ Err cause → TellsPlace answer found → IfSome told (λ r. StandsSomewhere r stands called)
    → IfSome told (λ r. IfOk answer (StandsThere stands called r)) → IfErr answer (λ f. f ≡ faults.Damaged → told ≡ None) → IfSome told (λ _. cause ≡ ReadFailed)
not_placed None stands called answer found cause is tells there h only = tt
not_placed (Some r) stands called (Ok (Some p)) found cause is tells there h only = absurd (let e : ◌≡◌ {A = Result ℕ Cause} (Err cause) (Ok p) = sym is ∙ tells in cc e)
not_placed (Some r) stands called (Ok None) found cause is tells there h only = absurd (let e : None ≡ Some there.0 = h ∙ sym there.1 in cc e)
not_placed (Some r) stands called (Err f) found cause is tells there h only = only_unread (Some r) f cause (subst (TellsPlace (Err f)) is tells) only

-- what holds where a call ends well
pub on_ok : {X E : Type 0} (P Q : Type 0) (answer : Result X E) → (P → Q) → OnOk answer P → OnOk answer Q
on_ok P Q (Ok x) f h = f h
on_ok P Q (Err e) f h = tt
