-- What is read of a growing text in front of its rows is spelled so: the segments, one behind the other.
use Rattle.std.proofs.Common.{◌≡◌, ℕ, zero, suc, ◌+◌, ◌-◌, ◌≤◌, ◌<◌, Bool, true, false, cond, refl, sym, ap, subst, ◌∙◌, List, [], ◌∷◌, ◌++◌, length, take, drop, None, Ok, codes, arith, append_assoc, append-nil, length-append, eqb→eq}
use Rattle.std.specs.Prelude.{T, nat_eq, IsTrue}
use Rattle.std.specs.Bool.{passes}
use Rattle.std.specs.List.{AllByRecursion, flat_map}
use Rattle.std.proofs.lemmas.List.{drop_at}
use Rattle.gx_model.specs.declared.objects.Kind.{Kind}
use Rattle.gx_model.specs.declared.store_faults.FileFault.TheVariants as fault
use Rattle.gx_model.specs.declared.store_versions.Version.TheVariants.{Two}
use Rattle.gx_model.specs.Texts.{Bytes, same_bytes}
use Rattle.gx_model.specs.Texts.Numbers.{number_text}
use Rattle.gx_model.specs.Faults.{◌>>=◌}
use Rattle.gx_model.specs.Objects.{IsNamer, line}
use Rattle.gx_model.specs.Histories.{Record, Records}
use Rattle.gx_model.specs.Records.Sound.{IsSound}
use Rattle.gx_model.specs.Stores.StoreText.{stored_record, stored_ref}
use Rattle.gx_model.specs.Stores.StoreReading.{Stored, next_records, next_refs, only_if, stored_body, stored_count, stored_line}
use Rattle.gx_model.proofs.Texts.PathTests.{is_true, same_is}
use Rattle.gx_model.proofs.Stores.StoreTexts.{body_of, both_steps, count_of, line_of, ok_is, unless_holds}
use Rattle.gx_model.proofs.Stores.StoredRecords.{records_of_text}
use Rattle.gx_model.proofs.Stores.StoredRefs.{refs_of_text, targets_of}
use Rattle.gx_growing.specs.GrowingText.{AreSegments, IsRun, IsSegment, Row, Run, Segment, first_place, placed, placed_rows, records_of, run_text, segment_text, table_length, tail_text}
use Rattle.gx_growing.specs.GrowingReading.{Front, after_end, next_runs, next_segment, next_segments, next_tail, with_places}
use Rattle.gx_growing.proofs.Fields.{next_runs_of}

-- ---- tails

-- what is read as the last line is `end` and an LF
pub after_end_of : (text rest : Bytes) → after_end text ≡ Ok rest → text ≡ (codes "end" ++ 10 ∷ []) ++ rest
after_end_of text rest e =
    let p = both_steps (stored_line text) (λ l. only_if (same_bytes l.0 (codes "end")) fault.BadRecord >>= λ u. Ok l.1) rest e in
    let w = both_steps (only_if (same_bytes p.0.0 (codes "end")) fault.BadRecord) (λ u. Ok p.0.1) rest p.2 in
    let word = same_is p.0.0 (codes "end") (passes _ (unless_holds (same_bytes p.0.0 (codes "end")) fault.BadRecord w.0 w.1)) in
    let same : p.0.1 ≡ rest = ok_is p.0.1 rest w.2 in
    line_of text p.0 p.1 ∙ (λ i. word i ++ 10 ∷ same i)

-- five texts in a row and one behind them, grouped to the right
five : (a b c d e r : Bytes) → (a ++ (b ++ (c ++ (d ++ e)))) ++ r ≡ a ++ (b ++ (c ++ (d ++ (e ++ r))))
five a b c d e r = simp append_assoc

-- a tail and what follows it, grouped to the right
pub tail_flat : (runs : List Run) (refs : List (Bytes × Bytes)) (rest : Bytes) → tail_text runs refs ++ rest
    ≡ line (codes "runs") (number_text (length runs)) ++ (flat_map run_text runs ++ (line (codes "refs") (number_text (length refs)) ++ (flat_map stored_ref refs ++ ((codes "end" ++ 10 ∷ []) ++ rest))))
tail_flat runs refs rest =
    five (line (codes "runs") (number_text (length runs))) (flat_map run_text runs) (line (codes "refs") (number_text (length refs))) (flat_map stored_ref refs) (codes "end" ++ 10 ∷ []) rest

module _ (name : Kind → Bytes → Bytes) (records : List Record) where
  abbrev Tail : Type 0
  Tail = (List Run × List (Bytes × Bytes)) × Bytes

  -- what is read once the refs are
  abbrev tail_ended : List Run → List (Bytes × Bytes) × Bytes → Stored Tail
  tail_ended runs named = after_end named.1 >>= λ rest. Ok ((runs, named.0), rest)

  -- what is read once the refs are counted
  abbrev tail_named : List Run → ℕ × Bytes → Stored Tail
  tail_named runs refs = next_refs refs.0 records None refs.1 >>= tail_ended runs

  -- what is read once the runs are
  abbrev tail_refs : List Run × Bytes → Stored Tail
  tail_refs runs = stored_count (codes "refs") runs.1 >>= tail_named runs.0

  -- what is read once the runs are counted
  abbrev tail_runs : ℕ × Bytes → Stored Tail
  tail_runs count = next_runs count.0 count.1 >>= tail_refs

  -- a tail is read: its runs are told, and its refs are those of a sound repository
  pub record IsTail (text : Bytes) (x : Tail) : Type 0 where
    pub spelled : text ≡ tail_text x.0.0 x.0.1 ++ x.1
    pub runs : AllByRecursion IsRun x.0.0
    pub sound : IsSound name (record { records = records; refs = x.0.1 })

  -- what is read as the next tail is its text
  pub tail_of_text : IsSound name (record { records = records; refs = [] }) → (text : Bytes) (x : Tail) → next_tail records text ≡ Ok x → IsTail text x
  tail_of_text i text x e =
      let a = both_steps (stored_count (codes "runs") text) tail_runs x e in
      let b = both_steps (next_runs a.0.0 a.0.1) tail_refs x a.2 in
      let c = both_steps (stored_count (codes "refs") b.0.1) (tail_named b.0.0) x b.2 in
      let d = both_steps (next_refs c.0.0 records None c.0.1) (tail_ended b.0.0) x c.2 in
      let f = both_steps (after_end d.0.1) (λ rest. Ok ((b.0.0, d.0.0), rest)) x d.2 in
      let r = next_runs_of a.0.0 a.0.1 b.0 b.1 in
      let s = refs_of_text records c.0.0 None c.0.1 d.0 d.1 in
      let same : ◌≡◌ {A = Tail} ((b.0.0, d.0.0), f.0) x = ok_is ((b.0.0, d.0.0), f.0) x f.2 in
      let spelled : text ≡ tail_text b.0.0 d.0.0 ++ f.0 =
      count_of (codes "runs") text a.0 a.1
      ∙ (λ j. line (codes "runs") (number_text (sym r.count j)) ++ r.spelled j)
      ∙ ap (λ z. line (codes "runs") (number_text (length b.0.0)) ++ (flat_map run_text b.0.0 ++ z)) (
      count_of (codes "refs") b.0.1 c.0 c.1 ∙ (λ j. line (codes "refs") (number_text (sym s.count j)) ++ s.spelled j)
      ∙ ap (λ z. line (codes "refs") (number_text (length d.0.0)) ++ (flat_map stored_ref d.0.0 ++ z)) (after_end_of d.0.1 f.0 f.1)
      )
      ∙ sym (tail_flat b.0.0 d.0.0 f.0) in
      let sound : IsSound name (record { records = records; refs = d.0.0 }) = record {
        named = i.named;
        distinct = i.distinct;
        linked = i.linked;
        paths = i.paths;
        sorted = is_true _ s.sorted;
        ref_names = is_true _ s.named;
        held = targets_of records i.linked d.0.0 s.targets;
      } in
      subst (IsTail text) same (record { spelled = spelled; runs = r.runs; sound = sound })

-- ---- segments

-- four texts in a row, a byte, a tail and what follows it, grouped to the right
four : (o f r t tail rest : Bytes) → (o ++ (f ++ (r ++ (t ++ (10 ∷ tail))))) ++ rest ≡ o ++ (f ++ (r ++ (t ++ (10 ∷ (tail ++ rest)))))
four o f r t tail rest = simp append_assoc

-- a segment and what follows it, grouped to the right
pub segment_flat : (s : Segment) (rest : Bytes) → segment_text s ++ rest
    ≡ line (codes "objects") (number_text (length s.records)) ++ (flat_map (stored_record Two) s.records ++ (line (codes "rows") (number_text s.count) ++ (s.table ++ (10 ∷ (tail_text s.runs s.refs ++ rest)))))
segment_flat s rest =
    four (line (codes "objects") (number_text (length s.records))) (flat_map (stored_record Two) s.records) (line (codes "rows") (number_text s.count)) s.table (tail_text s.runs s.refs) rest

-- a segment ends with its tail
pub tail_last : (s : Segment) → (front : Bytes) × (segment_text s ≡ front ++ tail_text s.runs s.refs)
tail_last s =
    let o = line (codes "objects") (number_text (length s.records)) in
    let f = flat_map (stored_record Two) s.records in
    let r = line (codes "rows") (number_text s.count) in
    (o ++ (f ++ (r ++ (s.table ++ 10 ∷ []))), sym (last o f r s.table (tail_text s.runs s.refs)))
  where
    last : (o f r t tail : Bytes) → (o ++ (f ++ (r ++ (t ++ 10 ∷ [])))) ++ tail ≡ o ++ (f ++ (r ++ (t ++ (10 ∷ tail))))
    last o f r t tail = simp append_assoc

module _ (name : Kind → Bytes → Bytes) (ends : ℕ) where
  -- what is read once a tail is
  abbrev with_tail : Front → Bytes → List Record → Bytes → (List Run × List (Bytes × Bytes)) × Bytes → Stored (Front × Bytes)
  with_tail seen text records table tail =
      Ok (record { records = records; rows = with_places name ends seen records text; tail = table; runs = tail.0.0; refs = tail.0.1 }, tail.1)

  -- what is read once a table is
  abbrev tail_rest : Front → Bytes → List Record → Bytes × Bytes → Stored (Front × Bytes)
  tail_rest seen text records table = next_tail records table.1 >>= with_tail seen text records table.1

  -- what is read once the rows are counted
  abbrev table_rest : Front → Bytes → List Record → ℕ × Bytes → Stored (Front × Bytes)
  table_rest seen text records rows = stored_body (table_length rows.0) rows.1 >>= tail_rest seen text records

  -- what is read once the records are
  abbrev rows_rest : Front → Bytes → List Record × Bytes → Stored (Front × Bytes)
  rows_rest seen text records = stored_count (codes "rows") records.1 >>= table_rest seen text records.0

  -- what is read once the records are counted
  abbrev records_rest : Front → ℕ × Bytes → Stored (Front × Bytes)
  records_rest seen objects = next_records name Two objects.0 seen.records objects.1 >>= rows_rest seen objects.1

  -- a rest begins where its head ends
  behind : (whole head rest : ℕ) → whole ≤ ends → whole ≡ head + rest → ends - rest ≡ (ends - whole) + head
  behind whole head rest l e = omega arith

  -- one segment is read, with its records' places
  pub record IsOneSegment (seen : Front) (text : Bytes) (x : Front × Bytes) : Type 0 where
    pub segment : Segment
    pub is : IsSegment segment
    pub spelled : text ≡ segment_text segment ++ x.1
    pub sound : IsSound name (record { records = x.0.records; refs = x.0.refs })
    pub records : x.0.records ≡ seen.records ++ segment.records
    pub rows : x.0.rows ≡ seen.rows ++ placed (first_place (ends - length text) segment.records) segment.records
    pub tail : x.0.tail ≡ tail_text segment.runs segment.refs ++ x.1
    pub runs : x.0.runs ≡ segment.runs
    pub refs : x.0.refs ≡ segment.refs

  -- what is read as the next segment is its text
  pub segment_of_text : IsNamer name → (seen : Front) (text : Bytes) (x : Front × Bytes) → IsSound name (record { records = seen.records; refs = [] }) → length text ≤ ends
      → next_segment name ends seen text ≡ Ok x → IsOneSegment seen text x
  segment_of_text namer seen text x i l e =
      let a = both_steps (stored_count (codes "objects") text) (records_rest seen) x e in
      let b = both_steps (next_records name Two a.0.0 seen.records a.0.1) (rows_rest seen a.0.1) x a.2 in
      let c = both_steps (stored_count (codes "rows") b.0.1) (table_rest seen a.0.1 b.0.0) x b.2 in
      let d = both_steps (stored_body (table_length c.0.0) c.0.1) (tail_rest seen a.0.1 b.0.0) x c.2 in
      let f = both_steps (next_tail b.0.0 d.0.1) (with_tail seen a.0.1 b.0.0 d.0.1) x d.2 in
      let q = records_of_text name Two namer a.0.0 seen.records a.0.1 b.0 i b.1 in
      let t = body_of (table_length c.0.0) c.0.1 d.0 d.1 in
      let ended = tail_of_text name b.0.0 q.sound d.0.1 f.0 f.1 in
      let s : Segment = record { records = q.more; count = c.0.0; table = d.0.0; runs = f.0.0.0; refs = f.0.0.1 } in
      let objects = line (codes "objects") (number_text (length q.more)) in
      let counted : text ≡ objects ++ a.0.1 = count_of (codes "objects") text a.0 a.1 ∙ ap (λ n. line (codes "objects") (number_text n) ++ a.0.1) (sym q.count) in
      let spelled : text ≡ segment_text s ++ f.0.1 =
      counted
      ∙ ap (λ z. objects ++ z) (q.spelled ∙ ap (λ z. flat_map (stored_record Two) q.more ++ z) (
      count_of (codes "rows") b.0.1 c.0 c.1 ∙ ap (λ z. line (codes "rows") (number_text c.0.0) ++ z) (t.0 ∙ ap (λ z. d.0.0 ++ 10 ∷ z) ended.spelled)
      ))
      ∙ sym (segment_flat s f.0.1) in
      let new : drop (length seen.records) b.0.0 ≡ q.more = ap (drop (length seen.records)) q.whole ∙ drop_at seen.records q.more (length seen.records) refl in
      let begun : ends - length a.0.1 ≡ first_place (ends - length text) q.more = behind (length text) (length objects) (length a.0.1) l (ap length counted ∙ length-append objects a.0.1) in
      let given : Front × Bytes = (record { records = b.0.0; rows = with_places name ends seen b.0.0 a.0.1; tail = d.0.1; runs = f.0.0.0; refs = f.0.0.1 }, f.0.1) in
      let is : IsOneSegment seen text given = record {
        segment = s;
        is = record { table = t.1; runs = ended.runs };
        spelled = spelled;
        sound = ended.sound;
        records = q.whole;
        rows = λ j. seen.rows ++ placed (begun j) (new j);
        tail = ended.spelled;
        runs = refl;
        refs = refl;
      } in
      subst (IsOneSegment seen text) (ok_is given x f.2) is

  -- segments are read up to the end of a text, and the last one's tail ends it
  pub record AreRead (seen : Front) (text : Bytes) (front : Front) : Type 0 where
    pub before : List Segment
    pub last : Segment
    pub spelled : text ≡ flat_map segment_text (before ++ last ∷ [])
    pub segments : AreSegments name seen.records (before ++ last ∷ [])
    pub sound : IsSound name (record { records = front.records; refs = front.refs })
    pub records : front.records ≡ seen.records ++ records_of (before ++ last ∷ [])
    pub rows : front.rows ≡ seen.rows ++ placed_rows (ends - length text) (before ++ last ∷ [])
    pub tail : front.tail ≡ tail_text last.runs last.refs
    pub ended : (front_text : Bytes) × (text ≡ front_text ++ front.tail)
    pub runs : front.runs ≡ last.runs
    pub refs : front.refs ≡ last.refs

  -- a text of no bytes is none
  no_bytes : (x : Bytes) → nat_eq (length x) 0 ≡ true → x ≡ []
  no_bytes [] e = refl
  no_bytes (b ∷ bs) e = let n : length (b ∷ bs) ≡ 0 = eqb→eq (length (b ∷ bs)) 0 (passes _ e) in absurd (omega arith)

  -- a sound repository without its refs
  alone : (rs : List Record) (refs : List (Bytes × Bytes)) → IsSound name (record { records = rs; refs = refs }) → IsSound name (record { records = rs; refs = [] })
  alone rs refs i = record { named = i.named; distinct = i.distinct; linked = i.linked; paths = i.paths; sorted = refl; ref_names = refl; held = tt }

  -- the repository up to a segment is sound
  segment_sound : (seen : Front) (text : Bytes) (x : Front × Bytes) (o : IsOneSegment seen text x) → IsSound name (record { records = seen.records ++ o.segment.records; refs = o.segment.refs })
  segment_sound seen text x o = subst (λ (z : Records). IsSound name z) (λ j. record { records = o.records j; refs = o.refs j }) o.sound

  -- the last segment is read where nothing is left behind it
  last_read : (seen : Front) (text : Bytes) (x : Front × Bytes) → IsOneSegment seen text x → x.1 ≡ [] → AreRead seen text x.0
  last_read seen text x o none =
      let s = o.segment in
      let tail = tail_text s.runs s.refs in
      let ended : tail ++ x.1 ≡ tail = ap (λ z. tail ++ z) none ∙ append-nil tail in
      let told = placed (first_place (ends - length text) s.records) s.records in
      let tail_is : x.0.tail ≡ tail = o.tail ∙ ended in
      let ends_so = tail_last s in
      record {
        before = [];
        last = s;
        spelled = o.spelled ∙ ap (λ z. segment_text s ++ z) none;
        segments = (o.is, segment_sound seen text x o, tt);
        sound = o.sound;
        records = o.records ∙ ap (λ z. seen.records ++ z) (sym (append-nil s.records));
        rows = o.rows ∙ ap (λ z. seen.rows ++ z) (sym (append-nil told));
        tail = tail_is;
        ended = (ends_so.0, o.spelled ∙ ap (λ z. segment_text s ++ z) none ∙ append-nil (segment_text s) ∙ ends_so.1 ∙ ap (λ z. ends_so.0 ++ z) (sym tail_is));
        runs = o.runs;
        refs = o.refs;
      }

  -- more segments are read behind one
  more_read : (seen : Front) (text : Bytes) (x : Front × Bytes) (front : Front) → length text ≤ ends → IsOneSegment seen text x → AreRead x.0 x.1 front → AreRead seen text front
  more_read seen text x front l o r =
      let s = o.segment in
      let rest = r.before ++ r.last ∷ [] in
      let place : ends - length x.1 ≡ (ends - length text) + length (segment_text s) = behind (length text) (length (segment_text s)) (length x.1) l (ap length o.spelled ∙ length-append (segment_text s) x.1) in
      record {
        before = s ∷ r.before;
        last = r.last;
        spelled = o.spelled ∙ ap (λ z. segment_text s ++ z) r.spelled;
        segments = (o.is, segment_sound seen text x o, subst (λ z. AreSegments name z rest) o.records r.segments);
        sound = r.sound;
        records = r.records ∙ ap (λ z. z ++ records_of rest) o.records ∙ append_assoc seen.records s.records (records_of rest);
        rows = r.rows ∙ (λ j. o.rows j ++ placed_rows (place j) rest) ∙ append_assoc seen.rows (placed (first_place (ends - length text) s.records) s.records) (placed_rows ((ends - length text) + length (segment_text s)) rest);
        tail = r.tail;
        ended = (segment_text s ++ r.ended.0, o.spelled ∙ ap (λ z. segment_text s ++ z) r.ended.1 ∙ sym (append_assoc (segment_text s) r.ended.0 front.tail));
        runs = r.runs;
        refs = r.refs;
      }

  -- what is read as the next segments is their text
  pub segments_of_text : IsNamer name → (n : ℕ) (seen : Front) (text : Bytes) (front : Front) → IsSound name (record { records = seen.records; refs = [] }) → length text ≤ ends
      → next_segments name ends n seen text ≡ Ok front → AreRead seen text front
  segments_of_text namer zero seen text front i l e = absurd (cc)
  segments_of_text namer (suc n) seen text front i l e =
      let p = both_steps (next_segment name ends seen text) (λ x. cond (nat_eq (length x.1) 0) (Ok x.0) (next_segments name ends n x.0 x.1)) front e in
      let o = segment_of_text namer seen text p.0 i l p.1 in
      let shorter : length p.0.1 ≤ ends = within (length text) (length (segment_text o.segment)) (length p.0.1) l (ap length o.spelled ∙ length-append (segment_text o.segment) p.0.1) in
      by p.0 o (λ g. segments_of_text namer n p.0.0 p.0.1 front (alone p.0.0.records p.0.0.refs o.sound) shorter g) (nat_eq (length p.0.1) 0) refl p.2
    where
      within : (whole head rest : ℕ) → whole ≤ ends → whole ≡ head + rest → rest ≤ ends
      within whole head rest l e = omega arith

      by : (x : Front × Bytes) → IsOneSegment seen text x → (next_segments name ends n x.0 x.1 ≡ Ok front → AreRead x.0 x.1 front) → (b : Bool) → nat_eq (length x.1) 0 ≡ b
          → cond b (Ok x.0) (next_segments name ends n x.0 x.1) ≡ Ok front → AreRead seen text front
      by x o more true h g = subst (AreRead seen text) (ok_is x.0 front g) (last_read seen text x o (no_bytes x.1 h))
      by x o more false h g = more_read seen text x front l o (more g)
