-- What a device tells, and what a stop leaves, after each call.
use Rattle.std.proofs.Common.{◌≡◌, ℕ, ◌≤◌, length, take, sym, ◌∙◌, subst, arith, Some, Ok, Err}
use Rattle.std.specs.Prelude.{Option, OnOk}
use Rattle.std.proofs.lemmas.List.{take-take}
use Rattle.gx_model.specs.Texts.{Bytes}
use Rattle.gx_append.specs.Devices.{Answer, CountsFaults, Cut, Cuts, CutsTo, FailsFor, Follows, OnlyText, Torn, Writes, WritesTo, written_at}
use Rattle.gx_append.specs.Appending.{IsDurable, IsTold}
use Rattle.gx_append.proofs.Moments.{Known, Leaves, Time, go_on, no_call, no_change, one_call, so_too, steps_give}
use Rattle.gx_append.proofs.Pieces.{held_torn}

-- ---- what is told

-- a write that is done
pub writes_held : (at : ℕ) (bytes : Bytes) (told new : Option Bytes) (file : Bytes) → told ≡ Some file → at ≤ length file → Writes at bytes (Ok tt) told new → new ≡ Some (written_at at bytes file)
writes_held at bytes told new file is within writes = subst (λ t. Writes at bytes (Ok tt) t new) is writes within

-- a write that is done or not
writes_torn : (at : ℕ) (bytes : Bytes) (result : Answer) (new : Option Bytes) (file : Bytes) → at ≤ length file → WritesTo at bytes result file new → IsTold new (λ text. Torn at (length bytes) file text)
writes_torn at bytes (Ok done) new file within w = (written_at at bytes file, w, held_torn file bytes at within)
writes_torn at bytes (Err error) new file within w = w

-- a cut that is done or not
cuts_kept : (at : ℕ) (result : Answer) (new : Option Bytes) (file : Bytes) → CutsTo at result file new → IsTold new (λ text. Cut at file text)
cuts_kept at (Ok done) new file w = (take at file, w, λ le. take-take at at file (omega arith))
cuts_kept at (Err error) new file w = w

-- what holds where a call is done, from what it ensures there
pub OnOk_of : {P Q : Type 0} (result : Answer) → OnOk result P → (P → Q) → OnOk result Q
OnOk_of (Ok done) p so = so p
OnOk_of (Err error) p so = tt

-- a device whose text is told counts its faults
pub fails_counted : (told : Option Bytes) (P : Bytes → Type 0) (before now : ℕ) (result : Answer) → IsTold told P → FailsFor told before now result → CountsFaults before now result
fails_counted told P before now result t fails = subst (λ o. FailsFor o before now result) t.1 fails

-- after a call that is done, another one
pub counts_more : (a b c : ℕ) (first result : Answer) → CountsFaults a b first → CountsFaults b c result → CountsFaults a c result
counts_more a b c first result so_far more = record {
  later = omega (arith, so_far.later, more.later);
  failed = λ e few. let f = more.failed e few in omega (arith, so_far.later);
}

module _ {D : Type 0} (k : Known D) where
  -- A text is told that has P, and a stop leaves no other. So it was since some calls began.
  pub record Has (begun device : D) (P : Bytes → Type 0) : Type 0 where
    pub told : IsTold (k.text device) P
    pub left : (c : Bytes) → k.may_leave device c → P c
    pub leaves : Leaves k begun device P

  -- where what is told is durable
  pub has : (device : D) (P : Bytes → Type 0) (file : Bytes) → OnlyText (k.text device) (k.may_leave device) → k.text device ≡ Some file → P file → Has device device P
  has device P file durable is p =
      let only = subst (λ t. OnlyText t (k.may_leave device)) is durable in
      record { told = (file, is, p); left = λ c left. subst P (sym (only c left)) p; leaves = no_call k device P }

  -- behind a write
  pub has_written : (begun old new : D) (P Q : Bytes → Type 0) (at : ℕ) (bytes : Bytes) (result : Answer) → ((file : Bytes) → P file → at ≤ length file) → ((c : Bytes) → P c → Q c)
      → ((d c : Bytes) → P d → Torn at (length bytes) d c → Q c) → Has begun old P → Writes at bytes result (k.text old) (k.text new)
      → Follows (Torn at (length bytes)) (k.may_leave old) (k.may_leave new) → Time k old new → Has begun new Q
  has_written begun old new P Q at bytes result within too gives h writes follows time =
      let file = h.told.0 in
      let fits = within file h.told.2 in
      let torn = writes_torn at bytes result (k.text new) file fits (subst (λ t. Writes at bytes result t (k.text new)) h.told.1 writes fits) in
      let left = steps_give P Q (k.may_leave old) (k.may_leave new) (Torn at (length bytes)) gives h.left follows in
      record { told = (torn.0, torn.1, gives file torn.0 h.told.2 torn.2); left = left; leaves = go_on k begun old new Q (so_too k begun old P Q too h.leaves) (one_call k old new Q time left) }

  -- behind a cut
  pub has_cut : (begun old new : D) (P : Bytes → Type 0) (at : ℕ) (result : Answer) → ((file : Bytes) → P file → at ≤ length file) → ((d c : Bytes) → P d → Cut at d c → P c) → Has begun old P
      → Cuts at result (k.text old) (k.text new) → Follows (Cut at) (k.may_leave old) (k.may_leave new) → Time k old new → Has begun new P
  has_cut begun old new P at result within keeps h cuts follows time =
      let file = h.told.0 in
      let cut = cuts_kept at result (k.text new) file (subst (λ t. Cuts at result t (k.text new)) h.told.1 cuts (within file h.told.2)) in
      let left = steps_give P P (k.may_leave old) (k.may_leave new) (Cut at) keeps h.left follows in
      record { told = (cut.0, cut.1, keeps file cut.0 h.told.2 cut.2); left = left; leaves = go_on k begun old new P h.leaves (one_call k old new P time left) }

  -- behind a sync
  pub has_synced : (begun old new : D) (P : Bytes → Type 0) → Has begun old P → k.text new ≡ k.text old → ((c : Bytes) → k.may_leave new c → k.may_leave old c) → Time k old new → Has begun new P
  has_synced begun old new P h same less time =
      let left : (c : Bytes) → k.may_leave new c → P c = λ c l. h.left c (less c l) in
      record { told = (h.told.0, same ∙ h.told.1, h.told.2); left = left; leaves = go_on k begun old new P h.leaves (one_call k old new P time left) }

  -- calls that have begun later, behind a sync
  pub has_begun : (begun mid new : D) (P : Bytes → Type 0) → Time k begun mid → ((c : Bytes) → k.may_leave mid c → k.may_leave begun c) → Has mid new P → Has begun new P
  has_begun begun mid new P time less h = record { told = h.told; left = h.left; leaves = go_on k begun mid new P (no_change k begun mid P time less) h.leaves }

  -- what is told and synced is durable
  pub synced : (old new : D) (P : Bytes → Type 0) → IsTold (k.text old) P → k.text new ≡ k.text old → OnlyText (k.text old) (k.may_leave new) → IsDurable (k.text new) (k.may_leave new) P
  synced old new P t same durable = (t.0, same ∙ t.1, (subst (λ o. OnlyText o (k.may_leave new)) t.1 durable, t.2))
