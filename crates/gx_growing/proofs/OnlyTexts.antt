-- What is read of a text is sound, and the text is a growing one of it.
use Rattle.std.proofs.Common.{◌≡◌, ℕ, ◌+◌, ◌-◌, Bool, true, false, cond, refl, sym, ap, subst, ◌∙◌, [], ◌∷◌, ◌++◌, length, take, Ok, Err, arith, length-append}
use Rattle.std.specs.Prelude.{T, ◌&&◌}
use Rattle.std.specs.Bool.{passes}
use Rattle.std.specs.List.{AllByRecursion, flat_map, list_all}
use Rattle.gx_model.specs.declared.objects.Kind.{Kind}
use Rattle.gx_model.specs.Texts.{Bytes, same_bytes}
use Rattle.gx_model.specs.Faults.{◌>>=◌}
use Rattle.gx_model.specs.Objects.{IsNamer}
use Rattle.gx_model.specs.Histories.{Records}
use Rattle.gx_model.specs.Records.Sound.{IsSound}
use Rattle.gx_model.specs.Stores.StoreReading.{Stored}
use Rattle.gx_model.proofs.Texts.PathTests.{first, same_is, second}
use Rattle.gx_growing.specs.declared.fault.GrowingFault.TheVariants.{BadRows}
use Rattle.gx_growing.specs.GrowingText.{IsGrowingText, Slot, StandsIn, live_rows, picked, segment_text, sorted_rows}
use Rattle.gx_growing.specs.GrowingReading.{Front, Grown, front_of, grown_of, has_rows, is_standing, lifted, same_rows, with_rows}
use Rattle.gx_growing.proofs.Fields.{slot_of}
use Rattle.gx_growing.proofs.ReadFronts.{IsFront, front_is}
use Rattle.gx_growing.proofs.RowTests.{rows_are, standing_are}

-- where two steps give something, so does the first, and the second with it
both_grown : {A B : Type 0} (s : Stored A) (f : A → Grown B) (b : B) → (lifted s >>= f) ≡ Ok b → (a : A) × (s ≡ Ok a) × (f a ≡ Ok b)
both_grown (Ok a) f b e = (a, refl, e)
both_grown (Err g) f b e = absurd (cc)

-- rows that are told are right
rows_right : (digest : Bytes → Bytes) (text : Bytes) (slot : Slot) (front : Front) (r : Records) → with_rows digest text slot front ≡ Ok r
    → T (has_rows digest text slot front) × (record { records = front.records; refs = front.refs } ≡ r)
rows_right digest text slot front r e = by (has_rows digest text slot front) refl e
  where
    by : (b : Bool) → has_rows digest text slot front ≡ b → cond b (Ok (record { records = front.records; refs = front.refs })) (Err BadRows) ≡ Ok r
        → T (has_rows digest text slot front) × (record { records = front.records; refs = front.refs } ≡ r)
    by true h i = (passes _ h, cc i)
    by false h i = absurd (cc)

module _ (name : Kind → Bytes → Bytes) (namer : IsNamer name) (digest : Bytes → Bytes) (text : Bytes) where
  -- a front whose rows are right is that of a growing text
  front_grown : (x : Slot × Front) → IsFront name text x → T (has_rows digest (take x.0.ends text) x.0 x.1)
      → IsGrowingText name digest text (record { records = x.1.records; refs = x.1.refs })
  front_grown x p h =
      let up_to = take x.0.ends text in
      let slot = x.0 in
      let told = same_rows (sorted_rows (live_rows up_to x.1.runs)) (sorted_rows x.1.rows) in
      let standing = list_all (is_standing digest up_to) x.1.runs in
      let hashed = same_bytes slot.digest (digest x.1.tail) in
      let two = first (hashed && standing) told h in
      let rows = rows_are (sorted_rows (live_rows up_to x.1.runs)) (sorted_rows x.1.rows) (second (hashed && standing) told h) in
      let segments = flat_map segment_text (p.before ++ p.last ∷ []) in
      let split = ap length p.ended.1 ∙ length-append p.ended.0 x.1.tail in
      record {
        pick = p.read.pick;
        first = p.read.first;
        second = p.read.second;
        slot = slot;
        before = p.before;
        last = p.last;
        behind = p.behind;
        spelled = p.spelled;
        head = p.read.head;
        slot_is = (slot_of (picked p.read.pick p.read.first p.read.second) slot p.read.slot).0;
        ends = p.ends;
        tail = ap (λ z. slot.tail + length z) (sym p.tail) ∙ whole slot.ends slot.tail (length x.1.tail) (length segments) (length p.ended.0) p.begun p.ends split;
        tail_digest = same_is slot.digest (digest x.1.tail) (first hashed standing two) ∙ ap digest p.tail;
        segments = p.segments;
        records = sym p.records;
        refs = sym p.refs;
        live = subst (AllByRecursion (StandsIn digest up_to)) p.runs (standing_are digest up_to x.1.runs (second hashed standing two));
        told = ap (λ z. sorted_rows (live_rows up_to z)) (sym p.runs) ∙ rows ∙ ap sorted_rows p.rows;
      }
    where
      whole : (e t n s f : ℕ) → e - n ≡ t → e ≡ 226 + s → s ≡ f + n → t + n ≡ e
      whole e t n s f a b c = omega arith

  -- what is read of a text is sound, and the text is a growing one of it
  pub growing_only : (r : Records) → grown_of name digest text ≡ Ok r → IsSound name r × IsGrowingText name digest text r
  unfolding grown_of
  growing_only r e =
      let a = both_grown (front_of name text) (λ x. with_rows digest (take x.0.ends text) x.0 x.1) r e in
      let p = front_is name namer text a.0 a.1 in
      let h = rows_right digest (take a.0.0.ends text) a.0.0 a.0.1 r a.2 in
      (subst (IsSound name) h.1 p.sound, subst (IsGrowingText name digest text) h.1 (front_grown a.0 p h.0))
