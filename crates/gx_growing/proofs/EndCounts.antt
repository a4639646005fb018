-- Where a text ends, what stands behind it, and in the slot that isn't picked, is no part of it.
use Rattle.std.proofs.Common.{◌≡◌, ℕ, ◌+◌, ◌*◌, ◌-◌, ◌≤◌, Bool, true, false, cond, refl, sym, ap, ◌∙◌, List, [], ◌∷◌, ◌++◌, length, take, drop, Some, Ok, Err, arith, length-append}
use Rattle.std.specs.Prelude.{T, ◌&&◌, nat_eq, nat_le}
use Rattle.std.specs.Bool.{passes}
use Rattle.std.specs.List.{list_all}
use Rattle.std.specs.FinMap.Entries.{is_sorted}
use Rattle.std.proofs.Math.Seq.{drop-append-add, take-append-add, take-append_seam}
use Rattle.std.proofs.lemmas.Bool.Decides.{nat_tests}
use Rattle.gx_model.specs.declared.objects.Kind.{Kind}
use Rattle.gx_model.specs.declared.store_faults.FileFault.TheVariants as fault
use Rattle.gx_model.specs.Texts.{Bytes, byte_cmp, same_bytes}
use Rattle.gx_model.specs.Faults.{◌>>=◌}
use Rattle.gx_model.specs.Stores.StoreReading.{Stored, only_if}
use Rattle.gx_model.proofs.Texts.PathTests.{first, second}
use Rattle.gx_model.proofs.Stores.StoreTexts.{both_steps, ok_is}
use Rattle.gx_growing.specs.declared.fault.GrowingFault.TheVariants.{BadRows}
use Rattle.gx_growing.specs.GrowingText.{IsHead, Run, Slot, digests_length, head_length, head_text, live_rows, page_digests, picked, rows_in, run_rows, sorted_rows, table_length}
use Rattle.gx_growing.specs.GrowingReading.{Front, front_of, grown_of, has_rows, is_standing, lifted, next_segments, no_front, place_of, same_rows, slot_in, with_rows}
use Rattle.gx_growing.proofs.RowTests.{standing_is}
use Rattle.gx_growing.proofs.ReadFronts.{begun_rest, head_long, head_read, segments_rest}

-- ---- behind the head

-- what is dropped behind a head doesn't depend on it
behind_head : (h segments : Bytes) (n : ℕ) → length h ≡ head_length → head_length ≤ n → drop n (h ++ segments) ≡ drop (n - head_length) segments
behind_head h segments n l g =
    let e : n ≡ length h + (n - head_length) = omega arith in
    ap (λ m. drop m (h ++ segments)) e ∙ drop-append-add h segments (n - head_length)

module _ (digest : Bytes → Bytes) where
  -- whether a run stands behind the head, by what stands from its rows and from their digests on, and by the length of the text
  abbrev stands : Bool → Run → Bytes → Bytes → ℕ → Bool
  stands behind run rows digests long =
      let pages : Bytes = page_digests digest (take (28 * run.count) rows) in
      behind && nat_le (run.place + table_length run.count) long
      && (same_bytes (take (digests_length run.count) digests) pages && same_bytes run.digest (digest pages)) && is_sorted byte_cmp (rows_in run.count rows)

  -- whether the rows of the live runs are those of the records
  abbrev told : Front → Bytes → Bool
  told front text = same_rows (sorted_rows (live_rows text front.runs)) (sorted_rows front.rows)

  module _ (h k segments : Bytes) (long : length h ≡ head_length) (other_long : length k ≡ head_length) where
    -- the lengths of two texts with heads of one length
    same_length : length (h ++ segments) ≡ length (k ++ segments)
    same_length = length-append h segments ∙ ap (λ n. n + length segments) (long ∙ sym other_long) ∙ sym (length-append k segments)

    -- a place behind the heads leads to the same bytes
    same_drop : (n : ℕ) → head_length ≤ n → drop n (h ++ segments) ≡ drop n (k ++ segments)
    same_drop n g = behind_head h segments n long g ∙ sym (behind_head k segments n other_long g)

    -- a run stands in both texts or in none
    same_standing : (run : Run) → is_standing digest (h ++ segments) run ≡ is_standing digest (k ++ segments) run
    same_standing run = by (nat_le head_length run.place) refl
      where
        by : (b : Bool) → nat_le head_length run.place ≡ b → is_standing digest (h ++ segments) run ≡ is_standing digest (k ++ segments) run
        by false e = ap (λ t. stands t run (drop run.place (h ++ segments)) (drop (run.place + 28 * run.count) (h ++ segments)) (length (h ++ segments))) e
            ∙ sym (ap (λ t. stands t run (drop run.place (k ++ segments)) (drop (run.place + 28 * run.count) (k ++ segments)) (length (k ++ segments))) e)
        by true e =
            let g : head_length ≤ run.place = grind (arith, nat_tests) in
            let rows = same_drop run.place g in
            let digests = same_drop (run.place + 28 * run.count) (omega arith) in
            λ i. stands (nat_le head_length run.place) run (rows i) (digests i) (same_length i)

    -- runs stand in both texts or in none
    same_standings : (runs : List Run) → list_all (is_standing digest (h ++ segments)) runs ≡ list_all (is_standing digest (k ++ segments)) runs
    same_standings [] = refl
    same_standings (run ∷ runs) = λ i. same_standing run i && same_standings runs i

    -- a run that stands has the same rows in both
    same_rows_of : (run : Run) → T (is_standing digest (h ++ segments) run) → run_rows (h ++ segments) run ≡ run_rows (k ++ segments) run
    same_rows_of run t =
        let stands = standing_is digest (h ++ segments) run t in
        ap (rows_in run.count) (same_drop run.place stands.behind)

    -- runs that stand have the same rows in both
    same_live : (runs : List Run) → T (list_all (is_standing digest (h ++ segments)) runs) → live_rows (h ++ segments) runs ≡ live_rows (k ++ segments) runs
    same_live [] t = refl
    same_live (run ∷ runs) t =
        let one = same_rows_of run (first (is_standing digest (h ++ segments) run) (list_all (is_standing digest (h ++ segments)) runs) t) in
        let more = same_live runs (second (is_standing digest (h ++ segments) run) (list_all (is_standing digest (h ++ segments)) runs) t) in
        λ i. one i ++ more i

    -- the rows are right in both texts or in none
    same_has_rows : (slot : Slot) (front : Front) → has_rows digest (h ++ segments) slot front ≡ has_rows digest (k ++ segments) slot front
    same_has_rows slot front =
        by (same_bytes slot.digest (digest front.tail)) (list_all (is_standing digest (h ++ segments)) front.runs) (list_all (is_standing digest (k ++ segments)) front.runs) refl (same_standings front.runs)
      where
        by : (a b c : Bool) → list_all (is_standing digest (h ++ segments)) front.runs ≡ b → b ≡ c → (a && b && told front (h ++ segments)) ≡ (a && c && told front (k ++ segments))
        by a false c e d = ap (λ z. a && z && told front (h ++ segments)) d ∙ none a c (sym d)
          where
            none : (a c : Bool) → c ≡ false → (a && c && told front (h ++ segments)) ≡ (a && c && told front (k ++ segments))
            none true c e = ap (λ z. z && told front (h ++ segments)) e ∙ sym (ap (λ z. z && told front (k ++ segments)) e)
            none false c e = refl
        by a true c e d = let rows = same_live front.runs (passes _ e) in λ i. a && d i && same_rows (sorted_rows (rows i)) (sorted_rows front.rows)

    -- the answers are the same
    same_answers : (slot : Slot) (front : Front) → with_rows digest (h ++ segments) slot front ≡ with_rows digest (k ++ segments) slot front
    same_answers slot front = ap (λ b. cond b (Ok (record { records = front.records; refs = front.refs })) (Err BadRows)) (same_has_rows slot front)

-- ---- the whole

module _ (name : Kind → Bytes → Bytes) (digest : Bytes → Bytes) where
  -- what is read up to where the picked slot says
  abbrev front_in : Slot → Bytes → Stored (Slot × Front)
  front_in slot segments = next_segments name slot.ends slot.ends no_front segments >>= begun_rest name slot

  -- what is read of a text with this head in front of its rows
  front_read : (pick first second segments behind : Bytes) (slot : Slot) → IsHead pick first second → slot_in (picked pick first second) ≡ Some slot → slot.ends ≡ head_length + length segments
      → front_of name (head_text pick first second ++ (segments ++ behind)) ≡ front_in slot segments
  front_read pick first second segments behind slot h k e =
      let long = head_long pick first second h in
      let a = length-append (head_text pick first second) (segments ++ behind) in
      let b = length-append segments behind in
      let cut : take (slot.ends - head_length) (segments ++ behind) ≡ segments = ap (λ n. take n (segments ++ behind)) (less slot.ends (length segments) e) ∙ take-append_seam segments behind in
      ap (λ s. s >>= segments_rest name) (head_read pick first second (segments ++ behind) slot h k (omega arith))
      ∙ ap (front_in slot) cut
    where
      less : (ends n : ℕ) → ends ≡ head_length + n → ends - head_length ≡ n
      less ends n e = omega arith

  -- a text up to its end
  up_to : (pick first second segments behind : Bytes) (slot : Slot) → IsHead pick first second → slot.ends ≡ head_length + length segments
      → take slot.ends (head_text pick first second ++ (segments ++ behind)) ≡ head_text pick first second ++ segments
  up_to pick first second segments behind slot h e =
      let head = head_text pick first second in
      ap (λ n. take n (head ++ (segments ++ behind))) (e ∙ ap (λ n. n + length segments) (sym (head_long pick first second h)))
      ∙ take-append-add head (segments ++ behind) (length segments)
      ∙ ap (λ z. head ++ z) (take-append_seam segments behind)

  -- what is read up to the end is of the slot that is picked
  front_slot : (slot : Slot) (segments : Bytes) (x : Slot × Front) → front_in slot segments ≡ Ok x → slot ≡ x.0
  front_slot slot segments x e =
      let b = both_steps (next_segments name slot.ends slot.ends no_front segments) (begun_rest name slot) x e in
      let c = both_steps (only_if (nat_eq (place_of slot.ends b.0.tail) slot.tail) fault.BadRecord) (λ u. Ok (slot, b.0)) x b.2 in
      let same : ◌≡◌ {A = Slot × Front} (slot, b.0) x = ok_is (slot, b.0) x c.2 in
      ap (λ (z : Slot × Front). z.0) same

  -- texts with one slot that is picked, and one text from the head up to its end, are read alike
  pub alike : (pick first second other_pick other_first other_second segments behind other_behind : Bytes) (slot : Slot) → IsHead pick first second → IsHead other_pick other_first other_second
      → picked pick first second ≡ picked other_pick other_first other_second → slot_in (picked pick first second) ≡ Some slot → slot.ends ≡ head_length + length segments
      → grown_of name digest (head_text pick first second ++ (segments ++ behind)) ≡ grown_of name digest (head_text other_pick other_first other_second ++ (segments ++ other_behind))
  unfolding grown_of
  alike pick first second other_pick other_first other_second segments behind other_behind slot h g p k e =
      let text = head_text pick first second ++ (segments ++ behind) in
      let other = head_text other_pick other_first other_second ++ (segments ++ other_behind) in
      let same = same_answers digest (head_text pick first second) (head_text other_pick other_first other_second) segments (head_long pick first second h) (head_long other_pick other_first other_second g) in
      ap (λ s. lifted s >>= λ read. with_rows digest (take read.0.ends text) read.0 read.1) (front_read pick first second segments behind slot h k e)
      ∙ by text other (up_to pick first second segments behind slot h e) (up_to other_pick other_first other_second segments other_behind slot g e) same (front_in slot segments) refl
      ∙ sym (ap (λ s. lifted s >>= λ read. with_rows digest (take read.0.ends other) read.0 read.1) (front_read other_pick other_first other_second segments other_behind slot g (ap slot_in (sym p) ∙ k) e))
    where
      by : (text other : Bytes) → take slot.ends text ≡ head_text pick first second ++ segments → take slot.ends other ≡ head_text other_pick other_first other_second ++ segments
          → ((s : Slot) (front : Front) → with_rows digest (head_text pick first second ++ segments) s front ≡ with_rows digest (head_text other_pick other_first other_second ++ segments) s front)
          → (read : Stored (Slot × Front)) → front_in slot segments ≡ read
          → (lifted read >>= λ r. with_rows digest (take r.0.ends text) r.0 r.1) ≡ (lifted read >>= λ r. with_rows digest (take r.0.ends other) r.0 r.1)
      by text other t u same (Err f) q = refl
      by text other t u same (Ok x) q =
          let s = front_slot slot segments x q in
          (λ i. with_rows digest (take (sym s i).ends text) x.0 x.1)
          ∙ ap (λ z. with_rows digest z x.0 x.1) t ∙ same x.0 x.1 ∙ ap (λ z. with_rows digest z x.0 x.1) (sym u)
          ∙ (λ i. with_rows digest (take (s i).ends other) x.0 x.1)
