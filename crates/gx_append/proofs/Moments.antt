-- What a stop of the machine may leave goes on from call to call.
use Rattle.std.proofs.Common.{inl, inr, ⊎_elim, ℕ, ◌≤◌, arith}
use Rattle.std.specs.Prelude.{Option}
use Rattle.gx_model.specs.Texts.{Bytes}
use Rattle.gx_append.specs.Devices.{Elapses, Follows, LeavesOnly}

-- what is known of a type of devices
pub record Known (D : Type 0) : Type 1 where
  pub text : D → Option Bytes
  pub moment : D → ℕ
  pub left_since : D → ℕ → Bytes → Type 0
  pub may_leave : D → Bytes → Type 0
  pub counts_now : (device : D) (t : ℕ) (c : Bytes) → t ≤ moment device → may_leave device c → left_since device t c
  pub only_now : (device : D) (c : Bytes) → left_since device (moment device) c → may_leave device c

-- what all old outcomes have gives what all new ones have
pub steps_give : (P Q old new : Bytes → Type 0) (Step : Bytes → Bytes → Type 0) → ((d c : Bytes) → P d → Step d c → Q c) → ((d : Bytes) → old d → P d) → Follows Step old new
    → (c : Bytes) → new c → Q c
steps_give P Q old new Step gives had follows c left =
    let from = follows c left in
    gives from.0 c (had from.0 from.1) from.2

module _ {D : Type 0} (k : Known D) where
  abbrev pub Leaves : D → D → (Bytes → Type 0) → Type 0
  Leaves = LeavesOnly k.moment k.left_since k.may_leave

  abbrev pub Time : D → D → Type 0
  Time = Elapses k.moment k.left_since k.may_leave

  -- before the first call
  pub no_call : (device : D) (P : Bytes → Type 0) → Leaves device device P
  no_call device P = record { later = omega arith; each = λ c left. inl (k.only_now device c left); since = λ t c le left. inl left }

  -- a call after which a stop leaves what has P
  pub one_call : (old new : D) (P : Bytes → Type 0) → Time old new → ((c : Bytes) → k.may_leave new c → P c) → Leaves old new P
  one_call old new P time has = record {
    later = time.later;
    each = λ c left. ⊎_elim (λ past. inl (k.only_now old c past)) (λ now. inr (has c now)) (time.nothing_else (k.moment old) c (omega arith) left);
    since = λ t c le left. ⊎_elim (λ past. inl past) (λ now. inr (has c now)) (time.nothing_else t c le left);
  }

  -- a call after which a stop leaves what one might have left before
  pub no_change : (old new : D) (P : Bytes → Type 0) → Time old new → ((c : Bytes) → k.may_leave new c → k.may_leave old c) → Leaves old new P
  no_change old new P time same = record {
    later = time.later;
    each = λ c left. ⊎_elim (λ past. inl (k.only_now old c past)) (λ now. inl (same c now)) (time.nothing_else (k.moment old) c (omega arith) left);
    since = λ t c le left. ⊎_elim (λ past. inl past) (λ now. inl (k.counts_now old t c le (same c now))) (time.nothing_else t c le left);
  }

  -- calls, and then others
  pub go_on : (old mid new : D) (P : Bytes → Type 0) → Leaves old mid P → Leaves mid new P → Leaves old new P
  go_on old mid new P so_far more = record {
    later = omega (arith, so_far.later, more.later);
    each = λ c left. ⊎_elim (λ past. so_far.each c past) (λ now. inr now) (more.since (k.moment old) c so_far.later left);
    since = λ t c le left. ⊎_elim (λ past. so_far.since t c le past) (λ now. inr now) (more.since t c (omega (arith, le, so_far.later)) left);
  }

  -- what has P has Q, too
  pub so_too : (old new : D) (P Q : Bytes → Type 0) → ((c : Bytes) → P c → Q c) → Leaves old new P → Leaves old new Q
  so_too old new P Q too leaves = record {
    later = leaves.later;
    each = λ c left. ⊎_elim (λ past. inl past) (λ p. inr (too c p)) (leaves.each c left);
    since = λ t c le left. ⊎_elim (λ past. inl past) (λ p. inr (too c p)) (leaves.since t c le left);
  }

  -- where a stop left what has P before these calls, it leaves such behind them
  pub then_left : (old new : D) (P : Bytes → Type 0) → Leaves old new P → ((c : Bytes) → k.may_leave old c → P c) → (c : Bytes) → k.may_leave new c → P c
  then_left old new P leaves had c left = ⊎_elim (had c) (λ p. p) (leaves.each c (k.counts_now new (k.moment old) c leaves.later left))
