-- The first ref that lost commits, one ref after the other.
use Rattle.std.proofs.Common.{◌≡◌, ℕ, ◌+◌, ◌<◌, ◌≤◌, Bool, true, false, List, length, drop, get_or, Some, None, sym, ap, ◌∙◌, drop_of_length-le}
use Rattle.std.specs.Prelude.{if◌then◌else◌}
use Rattle.std.proofs.lemmas.List.{drop_more}
use Rattle.gx_model.specs.Histories.{Records}
use Rattle.gx_push.specs.declared.want.Want.{Want}
use Rattle.gx_push.specs.Forward.{first_lost, is_kept}
use Rattle.gx_push.specs.Wants.{shown_want, shown_wants}

module _ (r : Records) (wants : List Want) where
  -- none of the first refs lost commits that may not, and the others are left
  abbrev pub AreKept : ℕ → Type 0
  AreKept i = first_lost r (i + 1) (shown_wants (drop i wants)) ≡ first_lost r 1 (shown_wants wants)

  at_next : (i : ℕ) (d : Want) (b : Bool) → i < length wants → is_kept r (shown_want (get_or wants i d)) ≡ b
      → first_lost r (i + 1) (shown_wants (drop i wants)) ≡ (if b then first_lost r (i + 1 + 1) (shown_wants (drop (i + 1) wants)) else Some (i + 1))
  at_next i d b lt e =
      ap (λ ws. first_lost r (i + 1) (shown_wants ws)) (drop_more wants i d lt)
      ∙ ap (λ t. if t then first_lost r (i + 1 + 1) (shown_wants (drop (i + 1) wants)) else Some (i + 1)) e

  pub kept_next : (i : ℕ) (d : Want) → i < length wants → AreKept i → is_kept r (shown_want (get_or wants i d)) ≡ true → AreKept (i + 1)
  kept_next i d lt h e = sym (at_next i d true lt e) ∙ h

  pub lost_at : (i : ℕ) (d : Want) → i < length wants → AreKept i → is_kept r (shown_want (get_or wants i d)) ≡ false → first_lost r 1 (shown_wants wants) ≡ Some (i + 1)
  lost_at i d lt h e = sym h ∙ at_next i d false lt e

  pub none_lost : (i : ℕ) → length wants ≤ i → AreKept i → first_lost r 1 (shown_wants wants) ≡ None
  none_lost i le h = sym h ∙ ap (λ ws. first_lost r (i + 1) (shown_wants ws)) (drop_of_length-le wants le)
