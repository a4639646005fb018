-- The refs that a push removes are there, each once.
use Rattle.std.proofs.Common.{◌≡◌, ℕ, Bool, true, false, List, Option, Some, None, Ok, Err, refl, sym, subst}
use Rattle.std.specs.Prelude.{if◌then◌else◌, ◌&&◌}
use Rattle.std.specs.Option.{option_eq}
use Rattle.std.proofs.lemmas.Bool.{true≢false}
use Rattle.gx_model.specs.Texts.{Bytes, same_bytes}
use Rattle.gx_model.specs.Records.Publishing.{Ref}
use Rattle.gx_repo.specs.Dropping.{dropped, is_among}
use Rattle.gx_repo.specs.Refs.{is_ref_held, object_named}
use Rattle.gx_push.specs.declared.fault.RefFault.TheVariants.{BadLine, RefMoved}
use Rattle.gx_push.specs.Pushes.{is_vanishing, vanishes, vanishing}
use Rattle.gx_push.specs.Wants.{Wanted, held_want, ref_of, want_in, want_of, wants_in}
use Rattle.gx_push.proofs.KnownNames.{all_known}

new_held : (refs : List Ref) (names : List Bytes) (o : Option Wanted) (want : Wanted) → held_want refs names o ≡ Ok want → is_among names want.ref ≡ false
new_held refs names None want e = absurd (cc e)
new_held refs names (Some w) want e = by (is_among names w.ref) refl (option_eq same_bytes w.old (object_named refs w.ref)) e where
  by : (b : Bool) → is_among names w.ref ≡ b → (c : Bool) → (if b then Err BadLine else if c then Ok w else Err RefMoved) ≡ Ok want → is_among names want.ref ≡ false
  by true s c e = absurd (cc e)
  by false s true e = let same : w ≡ want = cc e in subst (λ (v : Wanted). is_among names v.ref ≡ false) same s
  by false s false e = absurd (cc e)

second_true : (a b : Bool) → (a && b) ≡ true → b ≡ true
second_true true b e = e
second_true false b e = absurd (true≢false (sym e))

-- all refs that are to be removed can be dropped
pub all_vanish : (refs earlier : List Ref) (lines : List Bytes) (wants : List Wanted) → wants_in earlier lines ≡ Ok wants → (names : List Bytes) → names ≡ vanishing refs wants → (number : ℕ) → dropped names refs ≡ Err number → ⊥
all_vanish refs earlier lines wants e names s number h =
    all_known ref_of refs (is_vanishing refs) (λ w t. second_true (vanishes w.fate) (is_ref_held refs w.ref) t) (want_of earlier) (λ given line want t. new_held earlier given (want_in line) want t) lines wants e names s number h
