-- What the calls of a disk do, by the calls that it notes.
use Rattle.std.proofs.Common.{◌≡◌, ◌⊎◌, inl, inr, ℕ, List, length, take, refl, sym, ap, subst, ◌∙◌, arith, Ok, Err, Some, length-take}
use Rattle.std.specs.Prelude.{OnErr, OnOk}
use Rattle.std.proofs.Math.Seq.{take-length}
use Rattle.gx_model.specs.Texts.{Bytes}
use Rattle.gx_append.specs.Devices.{Answer, Cut, CutsTo, Elapses, Follows, Only, Torn, WritesTo, written_at}
use Rattle.gx_disk.specs.declared.call.Call.{Call}
use Rattle.gx_disk.specs.declared.call.Call.TheVariants.{Wrote, CutOff, Synced}
use Rattle.gx_disk.specs.Disks.{Does, IsCut, IsFront, IsSync, IsWrite, LeftSince, MayLeave, Noted, after, begun, replayed}
use Rattle.gx_disk.proofs.Stops.{S, Time, a_call, done, follows, no_call, nothing_torn, replayed_more, text_is, torn_more}

-- what holds at Ok and at Err gives what holds anyhow
pub either : {P Q R : Type 0} (result : Answer) → OnOk result P → OnErr result Q → (P → R) → (Q → R) → R
either (Ok x) p q f g = f p
either (Err e) p q f g = g q

module _ {A : Type 0} where
  -- a disk has noted such a call, or none
  abbrev pub Goes : (Call A → Type 0) → List (Call A) → List (Call A) → Type 0
  Goes P old new = (new ≡ old) ⊎ Noted P old new

  -- a write notes a front of the bytes, and one that is done all of them
  all_front : (at : ℕ) (bytes : Bytes) (call : Call A) → IsWrite at bytes call → IsFront at bytes call
  all_front at bytes (Wrote place written) is = (is.0, (length bytes, is.1 ∙ sym (take-length bytes)))
  all_front at bytes (CutOff place) is = elim is [ ]
  all_front at bytes Synced is = elim is [ ]

  module _ (first first' : Bytes) (same : first' ≡ first) (old new : List (Call A)) where
    abbrev Left' : Bytes → Type 0
    Left' = MayLeave (replayed (begun first') new)

    abbrev pub Passes : Type 0
    Passes = Elapses {D = Bytes × List (Call A)} (λ d. length d.1) (λ d. LeftSince d.0 d.1) (λ d. MayLeave (replayed (begun d.0) d.1)) (first, old) (first', new)

    passed : Time first old new → Passes
    passed t = subst (λ f. Elapses {D = Bytes × List (Call A)} (λ d. length d.1) (λ d. LeftSince d.0 d.1) (λ d. MayLeave (replayed (begun d.0) d.1)) (first, old) (f, new)) (sym same)
        (record { later = t.later; nothing_else = t.nothing_else; keeps = t.keeps })

    -- time goes on
    pub passes : {P : Call A → Type 0} → Goes P old new → Passes
    passes (inl e) = passed (subst (λ l. Time first old l) (sym e) (no_call first old))
    passes (inr n) = passed (subst (λ l. Time first old l) (sym n.noted) (a_call first old n.call))

    -- what a stop may leave
    pub leaves : {P : Call A → Type 0} (R : Bytes → Bytes → Type 0) → ((call : Call A) → P call → (d c : Bytes) → Does call d c → R d c) → ((c : Bytes) → R c c) → Goes P old new
        → Follows R (MayLeave (S first old)) Left'
    leaves R does stays (inl e) c left = (c, subst (λ s. MayLeave s c) ((λ i. replayed (begun (same i)) (e i))) left, stays c)
    leaves R does stays (inr n) c left =
        let from = follows first old n.call c (subst (λ s. MayLeave s c) (λ i. replayed (begun (same i)) (n.noted i)) left) in
        (from.0, from.1, does n.call n.is from.0 c from.2)

    module _ (text text' : Bytes) (was : text ≡ (S first old).text) (is : text' ≡ (replayed (begun first') new).text) where
      -- what is read behind a call, and behind none
      by_call : {P : Call A → Type 0} (n : Noted P old new) → text' ≡ (after (S first old) n.call).text
      by_call n = is ∙ (λ i. (replayed (begun (same i)) (n.noted i)).text) ∙ text_is first old n.call

      by_none : new ≡ old → text' ≡ text
      by_none e = is ∙ (λ i. (replayed (begun (same i)) (e i)).text) ∙ sym was

      -- ---- a write

      front_torn : (at : ℕ) (bytes : Bytes) (call : Call A) → IsFront at bytes call → (d c : Bytes) → Does call d c → Torn at (length bytes) d c
      front_torn at bytes (Wrote place written) (e, (count, front)) d c torn =
          let short = length-take count bytes in
          subst (λ n. Torn n (length bytes) d c) e (torn_more place (length written.items) (length bytes) d c (omega (arith, ap length front, short)) torn)
      front_torn at bytes (CutOff place) is d c torn = elim is [ ]
      front_torn at bytes Synced is d c torn = elim is [ ]

      write_goes : (at : ℕ) (bytes : Bytes) (result : Answer) → OnOk result (Noted (IsWrite at bytes) old new) → OnErr result (Goes (IsFront at bytes) old new) → Goes (IsFront at bytes) old new
      write_goes at bytes result ok err = either result ok err (λ n. inr (record { call = n.call; is = all_front at bytes n.call n.is; noted = n.noted })) (λ g. g)

      pub write_passes : (at : ℕ) (bytes : Bytes) (result : Answer) → OnOk result (Noted (IsWrite at bytes) old new) → OnErr result (Goes (IsFront at bytes) old new) → Passes
      write_passes at bytes result ok err = passes (write_goes at bytes result ok err)

      pub write_leaves : (at : ℕ) (bytes : Bytes) (result : Answer) → OnOk result (Noted (IsWrite at bytes) old new) → OnErr result (Goes (IsFront at bytes) old new)
          → Follows (Torn at (length bytes)) (MayLeave (S first old)) Left'
      write_leaves at bytes result ok err = leaves (Torn at (length bytes)) (front_torn at bytes) (nothing_torn at (length bytes)) (write_goes at bytes result ok err)

      all_written : (at : ℕ) (bytes : Bytes) (call : Call A) → IsWrite at bytes call → (after (S first old) call).text ≡ written_at at bytes text
      all_written at bytes (Wrote place written) (e, all) = λ i. written_at (e i) (all i) (sym was i)
      all_written at bytes (CutOff place) is_write = elim is_write [ ]
      all_written at bytes Synced is_write = elim is_write [ ]

      torn_text : (at : ℕ) (bytes : Bytes) → Goes (IsFront at bytes) old new → Torn at (length bytes) text text'
      torn_text at bytes (inl e) = subst (λ t. Torn at (length bytes) text t) (sym (by_none e)) (nothing_torn at (length bytes) text)
      torn_text at bytes (inr n) =
          subst (λ t. Torn at (length bytes) text t) (sym (by_call n)) (subst (λ t. Torn at (length bytes) t (after (S first old) n.call).text) (sym was)
          (front_torn at bytes n.call n.is (S first old).text (after (S first old) n.call).text (done (S first old) n.call)))

      pub written : (at : ℕ) (bytes : Bytes) (result : Answer) → OnOk result (Noted (IsWrite at bytes) old new) → OnErr result (Goes (IsFront at bytes) old new) → WritesTo at bytes result text (Some text')
      written at bytes (Ok x) n err = ap Some (by_call n ∙ all_written at bytes n.call n.is)
      written at bytes (Err e) ok goes = (text', refl, torn_text at bytes goes)

      -- ---- a cut

      is_cut : (at : ℕ) (call : Call A) → IsCut at call → (d c : Bytes) → Does call d c → Cut at d c
      is_cut at (CutOff place) e d c cut = subst (λ n. Cut n d c) e cut
      is_cut at (Wrote place written) e d c cut = elim e [ ]
      is_cut at Synced e d c cut = elim e [ ]

      cut_text : (at : ℕ) (call : Call A) → IsCut at call → (after (S first old) call).text ≡ take at text
      cut_text at (CutOff place) e = λ i. take (e i) (sym was i)
      cut_text at (Wrote place written) e = elim e [ ]
      cut_text at Synced e = elim e [ ]

      goes : {P : Call A → Type 0} (result : Answer) → OnOk result (Noted P old new) → OnErr result (new ≡ old) → Goes P old new
      goes result ok err = either result ok err (λ n. inr n) (λ e. inl e)

      pub call_passes : (P : Call A → Type 0) (result : Answer) → OnOk result (Noted P old new) → OnErr result (new ≡ old) → Passes
      call_passes P result ok err = passes (goes result ok err)

      pub cut_leaves : (at : ℕ) (result : Answer) → OnOk result (Noted (IsCut at) old new) → OnErr result (new ≡ old) → Follows (Cut at) (MayLeave (S first old)) Left'
      cut_leaves at result ok err = leaves (Cut at) (is_cut at) (λ c le. refl) (goes result ok err)

      pub is_cut_off : (at : ℕ) (result : Answer) → OnOk result (Noted (IsCut at) old new) → OnErr result (new ≡ old) → CutsTo at result text (Some text')
      is_cut_off at (Ok x) n err = ap Some (by_call n ∙ cut_text at n.call n.is)
      is_cut_off at (Err e) ok none = (text', refl, λ le. ap (take at) (by_none none))

      -- ---- a sync

      settled : (call : Call A) → IsSync call → (after (S first old) call).text ≡ text
      settled Synced is_sync = sym was
      settled (Wrote place written) is_sync = elim is_sync [ ]
      settled (CutOff place) is_sync = elim is_sync [ ]

      pub sync_same : (result : Answer) → OnOk result (Noted IsSync old new) → OnErr result (new ≡ old) → text' ≡ text
      sync_same result ok err = either result ok err (λ n. by_call n ∙ settled n.call n.is) by_none

      is_same : (call : Call A) → IsSync call → (d c : Bytes) → Does call d c → c ≡ d
      is_same Synced is_sync d c e = e
      is_same (Wrote place written) is_sync d c e = elim is_sync [ ]
      is_same (CutOff place) is_sync d c e = elim is_sync [ ]

      pub sync_left : (result : Answer) → OnOk result (Noted IsSync old new) → OnErr result (new ≡ old) → (c : Bytes) → Left' c → MayLeave (S first old) c
      sync_left result ok err c left =
          let from = leaves (λ d c. c ≡ d) is_same (λ c. refl) (goes result ok err) c left in
          subst (MayLeave (S first old)) (sym from.2) from.1

      only : (call : Call A) → IsSync call → (c : Bytes) → MayLeave (after (S first old) call) c → c ≡ text
      only Synced is_sync c left = left ∙ sym was
      only (Wrote place written) is_sync c left = elim is_sync [ ]
      only (CutOff place) is_sync c left = elim is_sync [ ]

      pub sync_durable : (result : Answer) → OnOk result (Noted IsSync old new) → OnOk result (Only text Left')
      sync_durable (Ok x) n = λ c left. only n.call n.is c (subst (λ s. MayLeave s c) ((λ i. replayed (begun (same i)) (n.noted i)) ∙ replayed_more (begun first) old n.call) left)
      sync_durable (Err e) n = tt
