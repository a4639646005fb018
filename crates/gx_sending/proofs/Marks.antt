-- The marks of what was written, by the names of objects.
use Rattle.std.proofs.Common.{◌≡◌, ◌≢◌, ℕ, suc, ◌+◌, ◌<◌, Bool, true, false, cond, List, ◌∷◌, ◌++◌, length, None, Some, codes, refl, sym, ap, ◌∙◌, subst, arith}
use Rattle.std.specs.Prelude.{T, ◌||◌, is_some}
use Rattle.std.specs.Ordering.{is_eq}
use Rattle.std.proofs.lemmas.Map.Text.{is_eq-slice_cmp}
use Rattle.gx_model.specs.declared.objects.Kind.{Kind}
use Rattle.gx_model.specs.Changes.{commit_revision, named_in}
use Rattle.gx_model.specs.Export.{number_in}
use Rattle.gx_model.specs.Histories.{Records, is_in}
use Rattle.gx_model.specs.Histories.Values.{Commit, Value, commit_value, same_value}
use Rattle.gx_model.specs.Objects.{IsNamer, hex}
use Rattle.gx_model.specs.Records.{name_of}
use Rattle.gx_model.specs.Records.HistoryOf.{value_of_name}
use Rattle.gx_model.specs.Records.Sound.{IsSound}
use Rattle.gx_model.specs.Streams.Commands.{CommitIsh, Marked, Named}
use Rattle.gx_model.specs.Texts.{Bytes, byte_cmp, same_bytes}
use Rattle.gx_model.proofs.Histories.SameValues.{same_value_tells}
use Rattle.gx_model.proofs.Records.HeldValues.{held_is}
use Rattle.gx_model.proofs.Texts.PathTests.{is_same, same_is}
use Rattle.gx_object.specs.declared.name.Name.{Name}
use Rattle.gx_rev.specs.Objects.{IsHeld, value_at}
use Rattle.gx_sending.specs.Marks.{HasWritten, mark_at, mark_in}
use Rattle.gx_sending.specs.declared.written.Written.{Written}

-- ---- by values

other_value : (u v : Value) → u ≢ v → same_value u v ≡ false
other_value u v d = by (same_value u v) refl
  where
    by : (b : Bool) → same_value u v ≡ b → same_value u v ≡ false
    by false e = e
    by true e = absurd (d ((same_value_tells u v).0 e))

-- the newest value has the next mark
mark_newest : (ws : List Value) (v : Value) → mark_in (v ∷ ws) v ≡ Some (length ws + 1)
mark_newest ws v =
    let next : suc (length ws) ≡ length ws + 1 = omega arith in
    ap (λ b. cond (b || is_in ws v) (Some (cond b (suc (length ws)) (number_in ws v))) None) ((same_value_tells v v).1 refl) ∙ ap Some next

-- and another one the mark that it had
mark_older : (ws : List Value) (u v : Value) → u ≢ v → mark_in (v ∷ ws) u ≡ mark_in ws u
mark_older ws u v d =
    let e = other_value u v d in
    let f = other_value v u (λ q. d (sym q)) in
    λ i. cond (e i || is_in ws u) (Some (cond (f i) (suc (length ws)) (number_in ws u))) None

-- what was written has a mark, and what wasn't has none
pub has_mark : (ws : List Value) (v : Value) → is_some (mark_in ws v) ≡ is_in ws v
has_mark ws v = elim (is_in ws v) as (λ b. is_some (cond b (Some (number_in ws v)) None) ≡ b) [ true ↦ refl | false ↦ refl ]

pub mark_is : (ws : List Value) (v : Value) (mark : ℕ) → Some mark ≡ mark_in ws v → mark ≡ number_in ws v
mark_is ws v mark = by (is_in ws v)
  where
    by : (b : Bool) → Some mark ≡ cond b (Some (number_in ws v)) None → mark ≡ number_in ws v
    by true e = cc
    by false e = absurd (cc e)

pub no_mark : (ws : List Value) (v : Value) → None ≡ mark_in ws v → is_in ws v ≡ false
no_mark ws v e = sym (has_mark ws v) ∙ ap is_some (sym e)

-- ---- what names a commit

module _ (name : Kind → Bytes → Bytes) (ws : List Value) (c : Commit) where
  abbrev by_digits : CommitIsh
  by_digits = Named (commit_revision name c)

  pub named_marked : (mark : ℕ) → Some mark ≡ mark_in ws (commit_value c) → Marked mark ≡ named_in name ws c
  named_marked mark = by (is_in ws (commit_value c))
    where
      by : (b : Bool) → Some mark ≡ cond b (Some (number_in ws (commit_value c))) None → Marked mark ≡ cond b (Marked (number_in ws (commit_value c))) by_digits
      by true e = let same : mark ≡ number_in ws (commit_value c) = cc in ap Marked same
      by false e = absurd (cc e)

  pub named_digits : (n : Bytes) → None ≡ mark_in ws (commit_value c) → n ≡ name_of name (commit_value c) → Named (hex n ++ codes "^0") ≡ named_in name ws c
  named_digits n e d =
      ap (λ t. Named (hex t ++ codes "^0")) d
      ∙ sym (ap (λ b. cond b (Marked (number_in ws (commit_value c))) by_digits) (no_mark ws (commit_value c) e))

-- ---- by the map

module _ {W A : Type 0} (name : Kind → Bytes → Bytes) (namer : IsNamer name) (r : Records) (sound : IsSound name r) (ws : List Value) (called : Name) (held : IsHeld r called) (old new : Written W A) (h : HasWritten r ws old) where
  -- what has another name is another value
  other_name : (other : Name) → IsHeld r other → is_eq (byte_cmp called.bytes other.bytes) ≡ false → value_at r other ≢ value_at r called
  other_name other k d q =
      let same : called.bytes ≡ other.bytes = sym (held_is name namer r sound called.bytes held).named ∙ ap (name_of name) (sym q) ∙ (held_is name namer r sound other.bytes k).named in
      let apart : same_bytes called.bytes other.bytes ≡ false = sym (is_eq-slice_cmp called.bytes other.bytes) ∙ d in
      subst T apart (is_same called.bytes other.bytes same)

  -- one value more has its mark
  pub next_written : length ws < old.output.bytes → new.output ≡ old.output → new.count ≡ length ws + 1
      → ((other : Bytes) → mark_at new other ≡ cond (is_eq (byte_cmp called.bytes other)) (Some new.count) (mark_at old other)) → HasWritten r (value_at r called ∷ ws) new
  next_written more same count sets = record {
    count = omega (arith, count);
    marks = λ other k. sets other.bytes ∙ by other k (is_eq (byte_cmp called.bytes other.bytes)) refl;
    each = (let b = ap (λ s. s.bytes) same in omega (arith, b, more));
    most = (let b = ap (λ s. s.bytes) same in let m = h.most in omega (arith, b, m));
  }
    where
      by : (other : Name) → IsHeld r other → (b : Bool) → is_eq (byte_cmp called.bytes other.bytes) ≡ b → cond b (Some new.count) (mark_at old other.bytes) ≡ mark_in (value_at r called ∷ ws) (value_at r other)
      by other k true e =
          let alike : same_bytes called.bytes other.bytes ≡ true = sym (is_eq-slice_cmp called.bytes other.bytes) ∙ e in
          let bytes : called.bytes ≡ other.bytes = same_is called.bytes other.bytes (subst T (sym alike) tt) in
          ap Some count ∙ sym (mark_newest ws (value_at r called)) ∙ ap (λ n. mark_in (value_at r called ∷ ws) (value_of_name r.records n)) bytes
      by other k false e = h.marks other k ∙ sym (mark_older ws (value_at r other) (value_at r called) (other_name other k e))
