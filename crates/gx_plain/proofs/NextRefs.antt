-- The refs of a plain text, read one after the other.
use Rattle.std.proofs.Common.{◌≡◌, ◌≢◌, ℕ, suc, ◌+◌, ◌-◌, ◌<◌, ◌≤◌, true, false, List, [], ◌∷◌, ◌++◌, append_assoc, codes, Option, Some, None, Ok, Err, refl, sym, ap, ◌∙◌, arith}
use Rattle.std.specs.Option.{ok_or}
use Rattle.gx_model.specs.declared.store_faults.FileFault.TheVariants as fault
use Rattle.gx_model.specs.declared.store_faults.FileFault.{FileFault}
use Rattle.gx_model.specs.Faults.{◌>>=◌}
use Rattle.gx_model.specs.Texts.{Bytes}
use Rattle.gx_model.specs.Histories.{Record}
use Rattle.gx_model.specs.Records.Growth.{record_named}
use Rattle.gx_model.specs.Records.Publishing.{Ref}
use Rattle.gx_model.specs.Stores.StoreReading.{Stored, is_after, is_target, next_ref, next_refs, only_if, ref_line, stored_end, stored_line}
use Rattle.gx_model.proofs.Stores.StoreTexts.{end_of}
use Rattle.gx_file.specs.Gathering.{first_ref, ref_of_line, with_rest}
use Rattle.gx_plain.specs.Reading.{IsRefused}
use Rattle.gx_plain.proofs.Fronts.{refused_unless}

module _ (rs : List Record) where
  -- what is read once a ref's line is
  abbrev pub with_ref : Option Bytes → Ref × Bytes → Stored (Ref × Bytes)
  with_ref last f = only_if (is_target f.0.0 (record_named rs f.0.1)) fault.BadRef >>= λ held. only_if (is_after last f.0.0) fault.RefOrder >>= λ ordered. Ok f

  ref_then : (last : Option Bytes) (text : Bytes) → next_ref rs last text ≡ (first_ref text >>= with_ref last)
  unfolding first_ref
  ref_then last text = by (stored_line text)
    where
      line : (rest : Bytes) (o : Option Ref) → (ok_or o fault.BadRef >>= λ x. with_ref last (x, rest)) ≡ (with_rest rest o >>= with_ref last)
      line rest None = refl
      line rest (Some x) = refl

      by : (l : Stored (Bytes × Bytes)) → (l >>= λ l. ok_or (ref_line l.0) fault.BadRef >>= λ x. with_ref last (x, l.1)) ≡ (ref_of_line l >>= with_ref last)
      by (Ok l) = line l.1 (ref_line l.0)
      by (Err why) = refl

  module _ (last : Option Bytes) (text : Bytes) where
    pub no_ref : (why : FileFault) → first_ref text ≡ Err why → IsRefused (next_ref rs last text)
    no_ref why e = (why, ref_then last text ∙ ap (λ s. s >>= with_ref last) e)

    module _ (f : Ref × Bytes) (read : first_ref text ≡ Ok f) where
      here : next_ref rs last text ≡ with_ref last f
      here = ref_then last text ∙ ap (λ s. s >>= with_ref last) read

      pub other_target : is_target f.0.0 (record_named rs f.0.1) ≡ false → IsRefused (next_ref rs last text)
      other_target e = (fault.BadRef, here ∙ ap (λ b. only_if b fault.BadRef >>= λ held. only_if (is_after last f.0.0) fault.RefOrder >>= λ ordered. Ok f) e)

      targeted : is_target f.0.0 (record_named rs f.0.1) ≡ true → next_ref rs last text ≡ (only_if (is_after last f.0.0) fault.RefOrder >>= λ ordered. Ok f)
      targeted e = here ∙ ap (λ b. only_if b fault.BadRef >>= λ held. only_if (is_after last f.0.0) fault.RefOrder >>= λ ordered. Ok f) e

      pub disordered : is_target f.0.0 (record_named rs f.0.1) ≡ true → is_after last f.0.0 ≡ false → IsRefused (next_ref rs last text)
      disordered e o = (fault.RefOrder, targeted e ∙ ap (λ b. only_if b fault.RefOrder >>= λ ordered. Ok f) o)

      pub one_ref : is_target f.0.0 (record_named rs f.0.1) ≡ true → is_after last f.0.0 ≡ true → next_ref rs last text ≡ Ok f
      one_ref e o = targeted e ∙ ap (λ b. only_if b fault.RefOrder >>= λ ordered. Ok f) o

  -- ---- so many

  -- these refs in front of others
  abbrev pub put_before : List Ref → Stored (List Ref × Bytes) → Stored (List Ref × Bytes)
  put_before far s = s >>= λ xs. Ok (far ++ xs.0, xs.1)

  put_none : (s : Stored (List Ref × Bytes)) → s ≡ put_before [] s
  put_none (Ok xs) = refl
  put_none (Err why) = refl

  put_one : (far : List Ref) (x : Ref) (s : Stored (List Ref × Bytes)) → put_before far (s >>= λ xs. Ok (x ∷ xs.0, xs.1)) ≡ put_before (far ++ x ∷ []) s
  put_one far x (Ok xs) = ap (λ z. Ok (z, xs.1)) (sym (append_assoc far (x ∷ []) xs.0))
  put_one far x (Err why) = refl

  module _ (count : ℕ) (lines : Bytes) where
    -- some refs were read, and the others follow
    pub record AreFar (i : ℕ) (last : Option Bytes) (rest : Bytes) : Type 0 where
      pub far : List Ref
      pub so : next_refs count rs None lines ≡ put_before far (next_refs (count - i) rs last rest)

    pub none_far : AreFar 0 None lines
    none_far = record { far = []; so = (let e : count ≡ count - 0 = omega arith in put_none (next_refs count rs None lines) ∙ ap (λ n. put_before [] (next_refs n rs None lines)) e) }

    module _ (i : ℕ) (last : Option Bytes) (rest : Bytes) (a : AreFar i last rest) where
      next_of : i < count → next_refs count rs None lines ≡ put_before a.far (next_ref rs last rest >>= λ x. next_refs (count - (i + 1)) rs (Some x.0.0) x.1 >>= λ xs. Ok (x.0 ∷ xs.0, xs.1))
      next_of l = let e : count - i ≡ suc (count - (i + 1)) = omega arith in a.so ∙ ap (λ n. put_before a.far (next_refs n rs last rest)) e

      pub refused_far : i < count → IsRefused (next_ref rs last rest) → IsRefused (next_refs count rs None lines)
      refused_far l r = (r.0, next_of l ∙ ap (λ s. put_before a.far (s >>= λ x. next_refs (count - (i + 1)) rs (Some x.0.0) x.1 >>= λ xs. Ok (x.0 ∷ xs.0, xs.1))) r.1)

      pub one_far : i < count → (x : Ref × Bytes) → next_ref rs last rest ≡ Ok x → AreFar (i + 1) (Some x.0.0) x.1
      one_far l x e = record {
        far = a.far ++ x.0 ∷ [];
        so =
            next_of l ∙ ap (λ s. put_before a.far (s >>= λ x. next_refs (count - (i + 1)) rs (Some x.0.0) x.1 >>= λ xs. Ok (x.0 ∷ xs.0, xs.1))) e
            ∙ put_one a.far x.0 (next_refs (count - (i + 1)) rs (Some x.0.0) x.1);
      }

      pub all_far : count ≤ i → next_refs count rs None lines ≡ Ok (a.far ++ [], rest)
      all_far l = let e : count - i ≡ 0 = omega arith in a.so ∙ ap (λ n. put_before a.far (next_refs n rs last rest)) e

  -- ---- the last line

  pub refused_then : (s : Stored (List Ref × Bytes)) → IsRefused s → IsRefused (s >>= λ named. stored_end named.1)
  refused_then s r = (r.0, ap (λ x. x >>= λ named. stored_end named.1) r.1)

  pub no_end : (s : Stored (List Ref × Bytes)) (x : List Ref × Bytes) → s ≡ Ok x → x.1 ≢ codes "end" ++ 10 ∷ [] → IsRefused (s >>= λ named. stored_end named.1)
  no_end s x e other =
      let r = refused_unless (stored_end x.1) (λ u h. other (end_of x.1 u h)) in
      (r.0, ap (λ x. x >>= λ named. stored_end named.1) e ∙ r.1)
