-- What follows from an answer: where the first of two is an answer, the second is, and both are related.
use Rattle.std.proofs.Common.{Bool, true, false, cond, Result, Ok, Err, ◌≡◌, subst}
use Rattle.std.specs.Prelude.{⊤}
use Rattle.gx_model.specs.declared.faults.Fault.{Fault}
use Rattle.gx_model.specs.Faults.{◌>>=◌}

module _ {A B : Type 0} (R : A → B → Type 0) where
  abbrev pub Leads : Result A Fault → Result B Fault → Type 0
  Leads (Err e) given = ⊤
  Leads (Ok x) (Ok y) = R x y
  Leads (Ok x) (Err e) = ⊥

  -- a test that is passed alike, or not at all
  pub leads_if : (b c : Bool) → b ≡ c → (r q : Result A Fault) (s t : Result B Fault) → Leads r s → Leads q t → Leads (cond b r q) (cond c s t)
  leads_if true c e r q s t h k = subst (λ d. Leads r (cond d s t)) e h
  leads_if false c e r q s t h k = subst (λ d. Leads q (cond d s t)) e k

module _ {A B C D : Type 0} (P : A → B → Type 0) (Q : C → D → Type 0) where
  -- one step after another
  pub leads_then : (r : Result A Fault) (q : Result B Fault) (f : A → Result C Fault) (g : B → Result D Fault) → Leads P r q → ((x : A) (y : B) → P x y → Leads Q (f x) (g y)) → Leads Q (r >>= f) (q >>= g)
  leads_then (Err e) q f g h k = tt
  leads_then (Ok x) (Ok y) f g h k = k x y h
  leads_then (Ok x) (Err e) f g h k = absurd h
