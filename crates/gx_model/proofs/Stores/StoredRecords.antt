-- The records of a store text: those of a sound repository are read again, and whatever is read is sound and spelled so.
use Rattle.std.proofs.Common.{◌≡◌, ℕ, zero, suc, ◌<◌, ◌^◌, refl, sym, ap, subst, ◌∙◌, List, [], ◌∷◌, ◌++◌, length, Option, None, Some, Ok, append_assoc, append-nil}
use Rattle.std.specs.List.{AllByRecursion, flat_map}
use Rattle.gx_model.specs.declared.objects.Kind.{Kind}
use Rattle.gx_model.specs.declared.store_versions.Version.{Version}
use Rattle.gx_model.specs.declared.store_faults.FileFault.{FileFault}
use Rattle.gx_model.specs.declared.store_faults.FileFault.TheVariants as fault
use Rattle.gx_model.specs.Texts.{Bytes}
use Rattle.gx_model.specs.Faults.{◌>>=◌}
use Rattle.gx_model.specs.Objects.{IsNamer, line}
use Rattle.gx_model.specs.Histories.{Record, record_for}
use Rattle.gx_model.specs.Objects.Naming.{kind_word}
use Rattle.gx_model.specs.Records.Sound.{IsSound}
use Rattle.gx_model.specs.Records.RecordFaults.{record_fault}
use Rattle.gx_model.specs.Stores.StoreText.{length_text, stored_record}
use Rattle.gx_model.specs.Stores.StoreReading.{Length, Stored, admitted, is_stated, next_record, next_records, only_if, record_line, stored_body, stored_line, with_stored}
use Rattle.std.specs.Option.{ok_or}
use Rattle.gx_model.proofs.ObjectTexts.OneTree.{all_right}
use Rattle.gx_model.proofs.Records.FirstRecords.{kept}
use Rattle.gx_model.proofs.Records.TakenRecords.{fine, sound_with}
use Rattle.gx_model.proofs.ObjectTexts.TreePaths.{name_is_name}
use Rattle.gx_model.proofs.Stores.StoreTexts.{body_of, body_read, both_steps, if_there, line_of, line_text, ok_is, unless_holds, word_line_read}
use Rattle.gx_model.proofs.Stores.RecordLines.{kind_found, length_is_line, record_line_of, record_line_read, stated_is_named, stated_name}

-- a record's text and what follows it, grouped to the right
pub record_flat : (v : Version) (r : Record) (rest : Bytes) → stored_record v r ++ rest ≡ line (kind_word r.kind) (length_text v (length r.body) r.name) ++ (r.body ++ 10 ∷ rest)
record_flat v r rest =
    let l = line (kind_word r.kind) (length_text v (length r.body) r.name) in
    append_assoc (l ++ r.body) (10 ∷ []) rest ∙ append_assoc l r.body (10 ∷ rest)

-- a record is taken where nothing is against it
admitted_is : (rs : List Record) (r : Record) (o : Option FileFault) (more : List Record) → admitted rs r o ≡ Ok more → (o ≡ None) × (rs ++ r ∷ [] ≡ more)
admitted_is rs r None more e = (refl, ok_is (rs ++ r ∷ []) more e)
admitted_is rs r (Some f) more e = absurd (cc)

module _ (name : Kind → Bytes → Bytes) (v : Version) where
  -- what is read once the body is
  abbrev taken_rest : List Record → Kind × Length → Bytes × Bytes → Stored (List Record × Bytes)
  taken_rest rs k body = with_stored name rs k.1.1 k.0 body.0 >>= λ more. Ok (more, body.1)

  -- what is read once the record's line is
  abbrev body_then : List Record → Bytes → Kind × Length → Stored (List Record × Bytes)
  body_then rs text k = stored_body k.1.0 text >>= taken_rest rs k

  -- what is read in a record's line and behind it
  abbrev record_rest : List Record → Bytes × Bytes → Stored (List Record × Bytes)
  record_rest rs l = ok_or (record_line v l.0) fault.BadRecord >>= body_then rs l.1

  -- ---- what is read is spelled so

  -- one record is read, and nothing is against it
  pub record IsOneMore (rs : List Record) (text : Bytes) (x : List Record × Bytes) : Type 0 where
    pub kind : Kind
    pub body : Bytes
    pub taken : record_fault rs (record_for name kind body) ≡ None
    pub last : x.0 ≡ rs ++ record_for name kind body ∷ []
    pub spelled : text ≡ stored_record v (record_for name kind body) ++ x.1

  -- what is read as the next record is its text
  pub record_of_text : (rs : List Record) (text : Bytes) (x : List Record × Bytes) → next_record name v rs text ≡ Ok x → IsOneMore rs text x
  record_of_text rs text x e =
      let p = both_steps (stored_line text) (record_rest rs) x e in
      let k = both_steps (ok_or (record_line v p.0.0) fault.BadRecord) (body_then rs p.0.1) x p.2 in
      let b = both_steps (stored_body k.0.1.0 p.0.1) (taken_rest rs k.0) x k.2 in
      let r = record_for name k.0.0 b.0.0 in
      let t = both_steps (with_stored name rs k.0.1.1 k.0.0 b.0.0) (λ more. Ok (more, b.0.1)) x b.2 in
      let n = both_steps (only_if (is_stated k.0.1.1 r.name) fault.NameMismatch) (λ u. admitted rs r (record_fault rs r)) t.0 t.1 in
      let a = admitted_is rs r (record_fault rs r) t.0 n.2 in
      let same : ◌≡◌ {A = List Record × Bytes} (t.0, b.0.1) x = ok_is (t.0, b.0.1) x t.2 in
      let stated = unless_holds (is_stated k.0.1.1 r.name) fault.NameMismatch n.0 n.1 in
      let head = record_line_of v p.0.0 r.name k.0 (if_there fault.BadRecord (record_line v p.0.0) k.0 k.1) stated in
      let c = body_of k.0.1.0 p.0.1 b.0 b.1 in
      record {
        kind = k.0.0;
        body = b.0.0;
        taken = a.0;
        last = ap (λ (z : List Record × Bytes). z.0) (sym same) ∙ sym a.1;
        spelled =
            line_of text p.0 p.1 ∙ (λ i. head i ++ 10 ∷ c.0 i) ∙ line_text (kind_word k.0.0) (length_text v k.0.1.0 r.name) (b.0.0 ++ 10 ∷ b.0.1)
            ∙ ap (λ n. line (kind_word k.0.0) (length_text v n r.name) ++ (b.0.0 ++ 10 ∷ b.0.1)) (sym c.1)
            ∙ sym (record_flat v r b.0.1)
            ∙ ap (λ (z : List Record × Bytes). stored_record v r ++ z.1) same;
      }

  -- more records are read, and the repository is sound with them
  pub record AreMore (rs : List Record) (n : ℕ) (text : Bytes) (x : List Record × Bytes) : Type 0 where
    pub more : List Record
    pub whole : x.0 ≡ rs ++ more
    pub count : length more ≡ n
    pub spelled : text ≡ flat_map (stored_record v) more ++ x.1
    pub sound : IsSound name (record { records = x.0; refs = [] })

  -- what is read as the next records is their text, and the repository stays sound
  pub records_of_text : IsNamer name → (n : ℕ) (rs : List Record) (text : Bytes) (x : List Record × Bytes) → IsSound name (record { records = rs; refs = [] }) → next_records name v n rs text ≡ Ok x → AreMore rs n text x
  records_of_text namer zero rs text x i e =
      let same : ◌≡◌ {A = List Record × Bytes} (rs, text) x = ok_is (rs, text) x e in
      subst (AreMore rs zero text) same (record { more = []; whole = sym (append-nil rs); count = refl; spelled = refl; sound = i })
  records_of_text namer (suc n) rs text x i e =
      let p = both_steps (next_record name v rs text) (λ y. next_records name v n y.0 y.1) x e in
      let o = record_of_text rs text p.0 p.1 in
      let r = record_for name o.kind o.body in
      let s = sound_with name namer (record { records = rs; refs = [] }) i o.kind o.body o.taken in
      let q = records_of_text namer n p.0.0 p.0.1 x (subst (λ z. IsSound name (record { records = z; refs = [] })) (sym o.last) s) p.2 in
      record {
        more = r ∷ q.more;
        whole = q.whole ∙ ap (λ z. z ++ q.more) o.last ∙ append_assoc rs (r ∷ []) q.more;
        count = ap suc q.count;
        spelled = o.spelled ∙ ap (λ z. stored_record v r ++ z) q.spelled ∙ sym (append_assoc (stored_record v r) (flat_map (stored_record v) q.more) x.1);
        sound = q.sound;
      }

  -- ---- what is spelled is read

  -- a record that nothing is against is read from its text
  pub record_read : IsNamer name → (rs : List Record) (k : Kind) (body rest : Bytes) → length body < 2 ^ 64 → record_fault rs (record_for name k body) ≡ None
      → next_record name v rs (stored_record v (record_for name k body) ++ rest) ≡ Ok (rs ++ record_for name k body ∷ [], rest)
  record_read namer rs k body rest l f =
      let r = record_for name k body in
      let n = length body in
      let w = kind_found k in
      let stated : Kind × Length = (k, (n, stated_name v r.name)) in
      ap (next_record name v rs) (record_flat v r rest)
      ∙ ap (λ s. s >>= record_rest rs) (word_line_read (kind_word k) (length_text v n r.name) (body ++ 10 ∷ rest) w.2 (length_is_line v n r.name))
      ∙ ap (λ o. ok_or o fault.BadRecord >>= body_then rs (body ++ 10 ∷ rest)) (record_line_read v k n r.name l (name_is_name name namer k body))
      ∙ ap (λ s. s >>= taken_rest rs stated) (body_read body rest)
      ∙ ap (λ b. (only_if b fault.NameMismatch >>= λ u. admitted rs r (record_fault rs r)) >>= λ more. Ok (more, rest)) (stated_is_named v r.name)
      ∙ ap (λ o. admitted rs r o >>= λ more. Ok (more, rest)) f

  -- the last records of a sound repository are read from their texts
  pub records_read : IsNamer name → (rs ms : List Record) (rest : Bytes) → IsSound name (record { records = rs ++ ms; refs = [] }) → AllByRecursion (λ r. length r.body < 2 ^ 64) ms
      → next_records name v (length ms) rs (flat_map (stored_record v) ms ++ rest) ≡ Ok (rs ++ ms, rest)
  records_read namer rs [] rest i l = ap (λ z. Ok (z, rest)) (sym (append-nil rs))
  records_read namer rs (m ∷ ms) rest i l =
      let r = record_for name m.kind m.body in
      let regrouped = sym (append_assoc rs (m ∷ []) ms) in
      let all : IsSound name (record { records = (rs ++ m ∷ []) ++ ms; refs = [] }) = subst (λ z. IsSound name (record { records = z; refs = [] })) regrouped i in
      let front = kept name (rs ++ m ∷ []) ms [] all tt in
      let named : m.name ≡ name m.kind m.body = (all_right (λ z. z.name ≡ name z.kind z.body) rs (m ∷ ms) i.named).0 in
      let same : m ≡ r = λ j. record { name = named j; kind = m.kind; body = m.body } in
      let one = record_read namer rs m.kind m.body (flat_map (stored_record v) ms ++ rest) l.0 (fine name namer rs m.kind m.body (subst (λ z. IsSound name (record { records = rs ++ z ∷ []; refs = [] })) same front)) in
      ap (next_records name v (length (m ∷ ms)) rs) (append_assoc (stored_record v m) (flat_map (stored_record v) ms) rest)
      ∙ ap (λ z. next_records name v (length (m ∷ ms)) rs (stored_record v z ++ (flat_map (stored_record v) ms ++ rest))) same
      ∙ ap (λ s. s >>= λ y. next_records name v (length ms) y.0 y.1) one
      ∙ ap (λ z. next_records name v (length ms) (rs ++ z ∷ []) (flat_map (stored_record v) ms ++ rest)) (sym same)
      ∙ records_read namer (rs ++ m ∷ []) ms rest all l.1
      ∙ ap (λ z. Ok (z, rest)) (append_assoc rs (m ∷ []) ms)
