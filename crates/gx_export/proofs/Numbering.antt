-- The marks of values by their places, and what each text that goes out adds to them.
use Rattle.std.proofs.Common.{◌≡◌, ◌≢◌, ℕ, zero, suc, ◌+◌, ◌<◌, ◌≤◌, Bool, true, false, cond, List, [], ◌∷◌, ◌++◌, length, replicate, set, Some, Result, Ok, Err, ◌⊎◌, inl, inr, refl, sym, ap, subst, ◌∙◌, arith, get_or-set_same, get_or-set_other, length-set}
use Rattle.std.specs.Prelude.{◌||◌, IsTrue, slice_index_or}
use Rattle.std.specs.List.{slice_get}
use Rattle.std.specs.Option.{option_map}
use Rattle.std.proofs.Math.Dec.{eqb}
use Rattle.std.proofs.lemmas.Bool.Decides.{eqb_tells}
use Rattle.std.proofs.lemmas.List.{append-nil, length-replicate}
use Rattle.gx_model.specs.declared.objects.Kind.{Kind}
use Rattle.gx_model.specs.declared.objects.Kind.TheVariants as kind
use Rattle.gx_model.specs.Texts.{Bytes}
use Rattle.gx_model.specs.Streams.Commands.{Blob}
use Rattle.gx_model.specs.Export.{blob_commands, command_items, items_text, number_in, with_blobs}
use Rattle.gx_model.specs.Histories.{Records, is_in}
use Rattle.gx_model.specs.Records.HistoryOf.{bytes_of_blob, value_of_name}
use Rattle.gx_model.specs.Objects.{IsNamer}
use Rattle.gx_model.specs.Records.RecordFaults.{is_held}
use Rattle.gx_model.specs.Records.Sound.{IsSound}
use Rattle.gx_model.proofs.Records.HeldValues.{kind_held}
use Rattle.gx_model.proofs.Records.Standing.{at_within, same_place}
use Rattle.gx_model.specs.Streams.Items.{Item}
use Rattle.gx_model.specs.Records.{body_of, kind_of}
use Rattle.gx_model.specs.Laws.RepositoryLaws.{values_of}
use Rattle.gx_model.specs.Histories.Values.{CommitText, Value, blob_value, commit_value, same_value, tag_value, tree_value}
use Rattle.gx_model.proofs.Histories.SameValues.{same_value_tells}
use Rattle.gx_rev.specs.Objects.{body_in_place}
use Rattle.gx_export.specs.Marks.{Adds, AreNumbers, HasWritten, IsBlobAt}
use Rattle.gx_export.specs.Outputs.{Sent, Writes, most}
use Rattle.gx_export.specs.Texts.{command_text, head_items, items_of, last_items}
use Rattle.gx_export.specs.declared.fault.ExportFault.{ExportFault}
use Rattle.gx_export.specs.declared.written.Written.{Written}
use Rattle.gx_export.proofs.Writing.{items_later, writes_none}

-- ---- numbers

same_swapped : (v w : Value) → same_value v w ≡ same_value w v
same_swapped v w = by (same_value v w) (same_value w v) refl refl
  where
    by : (a b : Bool) → same_value v w ≡ a → same_value w v ≡ b → same_value v w ≡ same_value w v
    by true b e f = e ∙ sym ((same_value_tells w v).1 (sym ((same_value_tells v w).0 e)))
    by false false e f = e ∙ sym f
    by false true e f = absurd (let o : false ≡ true = sym e ∙ (same_value_tells v w).1 (sym ((same_value_tells w v).0 f)) in cc o)

-- what was written has a number above 0, and what wasn't has 0
pub number_tells : (ws : List Value) (v : Value) → ((is_in ws v ≡ true) × (0 < number_in ws v)) ⊎ ((is_in ws v ≡ false) × (number_in ws v ≡ 0))
number_tells [] v = inr (refl, refl)
number_tells (w ∷ ws) v = by (same_value v w) refl (number_tells ws v)
  where
    by : (b : Bool) → same_value v w ≡ b → ((is_in ws v ≡ true) × (0 < number_in ws v)) ⊎ ((is_in ws v ≡ false) × (number_in ws v ≡ 0))
        → ((is_in (w ∷ ws) v ≡ true) × (0 < number_in (w ∷ ws) v)) ⊎ ((is_in (w ∷ ws) v ≡ false) × (number_in (w ∷ ws) v ≡ 0))
    by true e h =
        let f : number_in (w ∷ ws) v ≡ suc (length ws) = ap (λ b. cond b (suc (length ws)) (number_in ws v)) (sym (same_swapped v w) ∙ e) in
        inl (ap (λ b. b || is_in ws v) e, omega (arith, f))
    by false e (inl h) =
        let f : number_in (w ∷ ws) v ≡ number_in ws v = ap (λ b. cond b (suc (length ws)) (number_in ws v)) (sym (same_swapped v w) ∙ e) in
        inl (ap (λ b. b || is_in ws v) e ∙ h.0, (let k = h.1 in omega (arith, f)))
    by false e (inr h) = inr (ap (λ b. b || is_in ws v) e ∙ h.0, ap (λ b. cond b (suc (length ws)) (number_in ws v)) (sym (same_swapped v w) ∙ e) ∙ h.1)

-- a place at which a value stands, and the only one
pub record IsPlaceOf (values : List Value) (v : Value) (place : ℕ) : Type 0 where
  pub stands : slice_get values place ≡ Some v
  pub only : (other : ℕ) → slice_get values other ≡ Some v → other ≡ place

-- one value more has the next mark
next_numbers : (values ws : List Value) (marks : List ℕ) (v : Value) (place : ℕ) → IsPlaceOf values v place → place < length marks → AreNumbers values ws marks → AreNumbers values (v ∷ ws) (set marks place (length ws + 1))
next_numbers values ws marks v place p within h = record {
  long = length-set marks place (length ws + 1) ∙ h.long;
  numbers = λ i u e. by i u e (eqb_tells i place);
}
  where
    by : (i : ℕ) (u : Value) → slice_get values i ≡ Some u → ((eqb i place ≡ true) × (i ≡ place)) ⊎ ((eqb i place ≡ false) × (i ≢ place)) → slice_index_or (set marks place (length ws + 1)) i 0 ≡ number_in (v ∷ ws) u
    by i u e (inl t) =
        let same : v ≡ u = (let o : Some v ≡ Some u = sym p.stands ∙ ap (slice_get values) (sym t.1) ∙ e in cc o) in
        let step : length ws + 1 ≡ suc (length ws) = omega arith in
        ap (λ n. slice_index_or (set marks place (length ws + 1)) n 0) t.1 ∙ get_or-set_same marks place (length ws + 1) 0 within ∙ step
        ∙ sym (ap (λ b. cond b (suc (length ws)) (number_in ws u)) ((same_value_tells v u).1 same))
    by i u e (inr f) = get_or-set_other marks place i (length ws + 1) 0 f.1 ∙ h.numbers i u e ∙ sym (ap (λ b. cond b (suc (length ws)) (number_in ws u)) (apart (same_value v u) refl))
      where
        apart : (b : Bool) → same_value v u ≡ b → same_value v u ≡ false
        apart false k = k
        apart true k = absurd (f.1 (p.only i (e ∙ ap Some (sym ((same_value_tells v u).0 k)))))

-- one value more is written, in some bytes
pub next_written : {W A : Type 0} (r : Records) (ws : List Value) (v : Value) (place : ℕ) (old new : Written W A) → IsPlaceOf (values_of r) v place → place < length old.marks.items → HasWritten r ws old
    → new.count ≡ old.count + 1 → new.marks.items ≡ set old.marks.items place (old.count + 1) → old.output.bytes < new.output.bytes → new.output.bytes ≤ most → HasWritten r (v ∷ ws) new
next_written r ws v place old new p within h count marks bytes room =
    let all : new.marks.items ≡ set old.marks.items place (length ws + 1) = marks ∙ ap (λ n. set old.marks.items place (n + 1)) h.count in
    record {
      count = (let k = h.count in omega (arith, count));
      marks = subst (AreNumbers (values_of r) (v ∷ ws)) (sym all) (next_numbers (values_of r) ws old.marks.items v place p within h.marks);
      each = (let k = h.each in omega (arith, count, bytes));
      most = room;
    }

-- one value more has its mark, where some bytes have none
pub next_marked : {W A : Type 0} (r : Records) (ws : List Value) (v : Value) (place : ℕ) (old new : Written W A) → IsPlaceOf (values_of r) v place → place < length old.marks.items → HasWritten r ws old → old.count < old.output.bytes
    → new.output ≡ old.output → new.count ≡ old.count + 1 → new.marks.items ≡ set old.marks.items place (old.count + 1) → HasWritten r (v ∷ ws) new
next_marked r ws v place old new p within h more same count marks =
    let bytes = ap (λ s. s.bytes) same in
    let all : new.marks.items ≡ set old.marks.items place (length ws + 1) = marks ∙ ap (λ n. set old.marks.items place (n + 1)) h.count in
    record {
      count = (let k = h.count in omega (arith, count));
      marks = subst (AreNumbers (values_of r) (v ∷ ws)) (sym all) (next_numbers (values_of r) ws old.marks.items v place p within h.marks);
      each = omega (arith, count, bytes, more);
      most = (let k = h.most in omega (arith, bytes));
    }

no_marks : (n i : ℕ) → slice_index_or (replicate {A = ℕ} n 0) i 0 ≡ 0
no_marks zero i = refl
no_marks (suc n) zero = refl
no_marks (suc n) (suc i) = no_marks n i

-- nothing is written yet
pub none_written : {W A : Type 0} (r : Records) (n : ℕ) (written : Written W A) → n ≡ length (values_of r) → written.output.bytes ≡ 0 → written.count ≡ 0 → written.marks.items ≡ replicate n 0 → HasWritten r [] written
none_written r n written long bytes count marks =
    let zero_long : length (replicate {A = ℕ} n 0) ≡ n = length-replicate n 0 in
    record {
      count = count;
      marks = subst (AreNumbers (values_of r) []) (sym marks) (record { long = zero_long ∙ long; numbers = λ i v e. no_marks n i });
      each = omega (arith, bytes, count);
      most = omega (arith, bytes);
    }

-- ---- what goes out one after the other

-- items that give no marks
pub adds_bytes : {W A : Type 0} (r : Records) (ws : List Value) (items : List Item) (old : Written W A) (after : Sent) (result : Result (Unit {0}) ExportFault) → HasWritten r ws old → Writes old.output after (items_text items) result
    → Adds r ws items old (record old { output = after }) result
adds_bytes r ws items old after (Ok x) h k = (
  record {
    count = h.count;
    marks = h.marks;
    each = (let more = h.each in let l = k.1.0 in omega (arith, l, more));
    most = k.1.1 h.most;
  },
  k,
)
adds_bytes r ws items old after (Err e) h k = k

-- the reset behind the commits
pub adds_last : {W A : Type 0} (r : Records) (ws : List Value) (old : Written W A) (after : Sent) (result : Result (Unit {0}) ExportFault) → HasWritten r ws old → Writes old.output after (items_text (last_items old.count)) result
    → Adds r ws (last_items (length ws)) old (record old { output = after }) result
adds_last r ws old after result h k = adds_bytes r ws (last_items (length ws)) old after result h (subst (λ n. Writes old.output after (items_text (last_items n)) result) h.count k)

-- a commit's lines up to its message, under the next mark
pub adds_head : {W A : Type 0} (r : Records) (ws : List Value) (ref : Bytes) (text : CommitText) (old : Written W A) (after : Sent) (result : Result (Unit {0}) ExportFault) → HasWritten r ws old
    → Writes old.output after (items_text (head_items ref (old.count + 1) text)) result → Adds r ws (head_items ref (suc (length ws)) text) old (record old { output = after }) result
adds_head r ws ref text old after result h k =
    let mark : old.count + 1 ≡ suc (length ws) = (let e = h.count in omega arith) in
    adds_bytes r ws (head_items ref (suc (length ws)) text) old after result h (subst (λ n. Writes old.output after (items_text (head_items ref n text)) result) mark k)

-- items behind others
pub adds_later : {W A : Type 0} (r : Records) (us vs : List Value) (xs ys : List Item) (old mid new : Written W A) (result : Result (Unit {0}) ExportFault)
    → Adds r us xs old mid (Ok tt) → Adds r vs ys mid new result → Adds r vs (xs ++ ys) old new result
adds_later r us vs xs ys old mid new (Ok x) h k = (k.0, items_later old.output mid.output new.output xs ys (Ok x) h.1 k.1)
adds_later r us vs xs ys old mid new (Err e) h k = items_later old.output mid.output new.output xs ys (Err e) h.1 k

-- nothing goes out
pub adds_nothing : {W A : Type 0} (r : Records) (ws : List Value) (written : Written W A) → HasWritten r ws written → Adds r ws [] written written (Ok tt)
adds_nothing r ws written h = (h, writes_none written.output)

-- the sink stays
pub adds_name : {W A : Type 0} (r : Records) (ws : List Value) (items : List Item) (old new : Written W A) (result : Result (Unit {0}) ExportFault) → Adds r ws items old new result → new.output.name ≡ old.output.name
adds_name r ws items old new (Ok x) k = k.1.0
adds_name r ws items old new (Err e) k = k.0

-- ---- a blob

-- a value of the kind of blobs is a blob
pub blob_is : (name : Kind → Bytes → Bytes) (v : Value) → kind_of name v ≡ kind.Blob → v ≡ blob_value (bytes_of_blob v)
blob_is name (blob_value x) e = refl
blob_is name (tree_value f) e = absurd (cc e)
blob_is name (commit_value c) e = absurd (cc e)
blob_is name (tag_value t) e = absurd (cc e)

module _ (ws : List Value) (x : Bytes) where
  -- the blob's command, where it wasn't written
  pub new_blob : number_in ws (blob_value x) ≡ 0 → (with_blobs ws (x ∷ []) ≡ blob_value x ∷ ws) × (items_of (blob_commands ws (x ∷ [])) ≡ command_items (Blob (record { mark = Some (suc (length ws)); bytes = x })))
  new_blob e = by (number_tells ws (blob_value x))
    where
      by : ((is_in ws (blob_value x) ≡ true) × (0 < number_in ws (blob_value x))) ⊎ ((is_in ws (blob_value x) ≡ false) × (number_in ws (blob_value x) ≡ 0))
          → (with_blobs ws (x ∷ []) ≡ blob_value x ∷ ws) × (items_of (blob_commands ws (x ∷ [])) ≡ command_items (Blob (record { mark = Some (suc (length ws)); bytes = x })))
      by (inl h) = absurd (let k = h.1 in omega (arith, e))
      by (inr h) = (
        ap (λ b. cond b ws (blob_value x ∷ ws)) h.0,
        ap (λ b. items_of (cond b [] (Blob (record { mark = Some (suc (length ws)); bytes = x }) ∷ []))) h.0 ∙ append-nil (command_items (Blob (record { mark = Some (suc (length ws)); bytes = x }))),
      )

  pub old_blob : 0 < number_in ws (blob_value x) → (with_blobs ws (x ∷ []) ≡ ws) × (items_of (blob_commands ws (x ∷ [])) ≡ [])
  old_blob l = by (number_tells ws (blob_value x))
    where
      by : ((is_in ws (blob_value x) ≡ true) × (0 < number_in ws (blob_value x))) ⊎ ((is_in ws (blob_value x) ≡ false) × (number_in ws (blob_value x) ≡ 0))
          → (with_blobs ws (x ∷ []) ≡ ws) × (items_of (blob_commands ws (x ∷ [])) ≡ [])
      by (inl h) = (ap (λ b. cond b ws (blob_value x ∷ ws)) h.0, ap (λ b. items_of (cond b [] (Blob (record { mark = Some (suc (length ws)); bytes = x }) ∷ []))) h.0)
      by (inr h) = absurd (let k = h.1 in omega (arith, l))

  module _ {W A : Type 0} (r : Records) (old : Written W A) (h : HasWritten r ws old) where
    pub adds_old_blob : 0 < number_in ws (blob_value x) → Adds r (with_blobs ws (x ∷ [])) (items_of (blob_commands ws (x ∷ []))) old old (Ok tt)
    adds_old_blob l =
        let e = old_blob l in
        subst (λ us. Adds r us (items_of (blob_commands ws (x ∷ []))) old old (Ok tt)) (sym e.0) (subst (λ is. Adds r ws is old old (Ok tt)) (sym e.1) (adds_nothing r ws old h))

    blob_text : number_in ws (blob_value x) ≡ 0 → command_text (Blob (record { mark = Some (old.count + 1); bytes = x })) ≡ items_text (items_of (blob_commands ws (x ∷ [])))
    blob_text e =
        let mark : old.count + 1 ≡ suc (length ws) = (let k = h.count in omega arith) in
        ap (λ n. command_text (Blob (record { mark = Some n; bytes = x }))) mark ∙ ap items_text (sym (new_blob e).1)

    pub stops_new_blob : (after : Sent) (e : ExportFault) → number_in ws (blob_value x) ≡ 0 → Writes old.output after (command_text (Blob (record { mark = Some (old.count + 1); bytes = x }))) (Err e)
        → Writes old.output after (items_text (items_of (blob_commands ws (x ∷ [])))) (Err e)
    stops_new_blob after e n k = subst (λ t. Writes old.output after t (Err e)) (blob_text n) k

    pub adds_new_blob : (new : Written W A) (place : ℕ) → number_in ws (blob_value x) ≡ 0 → IsPlaceOf (values_of r) (blob_value x) place → place < length old.marks.items
        → new.count ≡ old.count + 1 → new.marks.items ≡ set old.marks.items place (old.count + 1) → Writes old.output new.output (command_text (Blob (record { mark = Some (old.count + 1); bytes = x }))) (Ok tt)
        → Adds r (with_blobs ws (x ∷ [])) (items_of (blob_commands ws (x ∷ []))) old new (Ok tt)
    adds_new_blob new place n p within count marks k =
        let bytes : old.output.bytes < new.output.bytes = (let l = k.1.0 in omega arith) in (
          subst (λ us. HasWritten r us new) (sym (new_blob n).0) (next_written r ws (blob_value x) place old new p within h count marks bytes (k.1.1 h.most)),
          subst (λ t. Writes old.output new.output t (Ok tt)) (blob_text n) k,
        )

-- an element within a list needs no other one
pub any_default : (xs : List ℕ) (i d e : ℕ) → i < length xs → slice_index_or xs i d ≡ slice_index_or xs i e
any_default [] i d e h = absurd (omega arith)
any_default (x ∷ xs) zero d e h = refl
any_default (x ∷ xs) (suc i) d e h = any_default xs i d e (omega (arith, h))

-- ---- a held blob

module _ (name : Kind → Bytes → Bytes) (namer : IsNamer name) (r : Records) (sound : IsSound name r) where
  -- a place at which a value stands is its only one
  pub only_place : (v : Value) (i : ℕ) → slice_get (values_of r) i ≡ Some v → IsPlaceOf (values_of r) v i
  only_place v i e = record { stands = e; only = λ j k. same_place name namer r sound v j i k e }

  -- a place within the marks
  pub place_marked : (ws : List Value) (marks : List ℕ) (v : Value) (i : ℕ) → AreNumbers (values_of r) ws marks → slice_get (values_of r) i ≡ Some v → i < length marks
  place_marked ws marks v i h e = let k = at_within (values_of r) i v e in let l = h.long in omega arith

  -- the mark at the place of a value
  pub mark_here : (ws : List Value) (marks : List ℕ) (v : Value) (i d : ℕ) → AreNumbers (values_of r) ws marks → slice_get (values_of r) i ≡ Some v → slice_index_or marks i d ≡ number_in ws v
  mark_here ws marks v i d h e = any_default marks i d 0 (place_marked ws marks v i h e) ∙ h.numbers i v e

  -- what a blob's place has for a body are the blob's bytes
  pub body_here : (i : ℕ) (x body : Bytes) → IsBlobAt r i x → body_in_place name r i ≡ Some body → body ≡ x
  body_here i x body e f = let o : Some x ≡ Some body = sym (ap (option_map (body_of name)) e) ∙ f in sym (let same : x ≡ body = cc o in same)

  module _ (n : Bytes) (h : IsTrue (is_held r.records kind.Blob n)) where
    pub blob_here : value_of_name r.records n ≡ blob_value (bytes_of_blob (value_of_name r.records n))
    blob_here = blob_is name (value_of_name r.records n) (kind_held name namer r sound kind.Blob n h).1

    pub blob_place : (i : ℕ) → slice_get (values_of r) i ≡ Some (value_of_name r.records n) → IsBlobAt r i (bytes_of_blob (value_of_name r.records n))
    blob_place i e = e ∙ ap Some blob_here

    -- its mark, at its place
    pub mark_of_blob : (ws : List Value) (marks : List ℕ) (i d : ℕ) → AreNumbers (values_of r) ws marks → slice_get (values_of r) i ≡ Some (value_of_name r.records n) → slice_index_or marks i d ≡ number_in ws (blob_value (bytes_of_blob (value_of_name r.records n)))
    mark_of_blob ws marks i d h e = mark_here ws marks (value_of_name r.records n) i d h e ∙ ap (number_in ws) blob_here
