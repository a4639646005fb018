-- What digits give as a file's content: a held blob, or for a gitlink the digits.
use Rattle.std.proofs.Common.{◌≡◌, ℕ, arith, eq-eqb, true, [], ◌∷◌, map, length, Option, Some, None, Result, Ok, Err, refl, sym, ap, subst, ◌∙◌}
use Rattle.std.specs.Prelude.{T, IsTrue, is_some, nat_eq, ◌&&◌}
use Rattle.std.specs.Bool.{passes}
use Rattle.std.proofs.lemmas.Grind.{common_steps}
use Rattle.std.proofs.lemmas.List.{length-map}
use Rattle.gx_model.proofs.Texts.PathTests.{both, first, is_true, second}
use Rattle.std.specs.List.{list_all}
use Rattle.std.specs.Option.{option_map}
use Rattle.gx_model.specs.declared.faults.Fault.TheVariants as fault
use Rattle.gx_model.specs.declared.objects.Kind.{Kind}
use Rattle.gx_model.specs.declared.objects.Kind.TheVariants as kind
use Rattle.gx_model.specs.declared.objects.Mode.{Mode}
use Rattle.gx_model.specs.declared.objects.Mode.TheVariants.{File, Exec, Link, Gitlink, Dir}
use Rattle.gx_model.specs.Texts.{Bytes}
use Rattle.gx_model.specs.Faults.{Given, IsFaultOf, ◌>>=◌}
use Rattle.gx_model.specs.Histories.Values.{Value, blob_value, commit_value, tag_value, tree_value}
use Rattle.gx_model.specs.Texts.Digits.{is_any_digit, is_lower_digit, is_name_text, lower}
use Rattle.gx_model.specs.Objects.{IsNamer, unhex}
use Rattle.gx_model.specs.Records.{kind_of, name_of}
use Rattle.gx_model.specs.Histories.{History, IsIn, Record, Records, object_of}
use Rattle.gx_model.specs.Records.HistoryOf.{history_of, value_of_name}
use Rattle.gx_model.specs.Records.Growth.{record_named}
use Rattle.gx_model.specs.Records.Sound.{IsSound}
use Rattle.gx_model.specs.Revisions.Denotation.{base_value, begun_by, full_name}
use Rattle.gx_model.specs.Streams.Commands.{Object}
use Rattle.gx_model.specs.Replay.{State, blob_bytes, content}
use Rattle.gx_object.specs.declared.name.Name.{Name}
use Rattle.gx_model.proofs.Revisions.Bases.{full_found, full_none, none_got, some_got, whole_digits}
use Rattle.gx_model.proofs.Records.HeldValues.{got, held_is}
use Rattle.gx_model.specs.declared.faults.Fault.{Fault}
use Rattle.gx_import.specs.Answers.{GivesAs}
use Rattle.gx_import.specs.Objects.{IsBlobOf, name_of_kind}
use Rattle.gx_import.specs.Standing.{IsContentName}
use Rattle.gx_import.specs.Steps.{bytes_held}
use Rattle.gx_import.proofs.FaultSteps.{fault_then}

abbrev or_unknown : Option Record → Given Bytes → Given Bytes
or_unknown o given = elim o [ None ↦ Err fault.UnknownObject | Some held ↦ given ]

module _ (name : Kind → Bytes → Bytes) (namer : IsNamer name) (r : Records) (sound : IsSound name r) where
  of_value : (n : Name) (k : Kind) (u : Value) → k ≡ kind_of name u → IsIn (history_of r).values u → name_of name u ≡ n.bytes
      → GivesAs (IsBlobOf name (history_of r).values n) (name_of_kind (record { kind = k; name = n }) kind.Blob) (blob_bytes u)
  of_value n k (blob_value x) e i m = rw e (x, refl, record { same = refl; stands = i; named = sym m })
  of_value n k (tree_value f) e i m = rw e refl
  of_value n k (commit_value c) e i m = rw e refl
  of_value n k (tag_value t) e i m = rw e refl

  -- the object of a held name, where it is a blob
  pub blob_found : (n : Name) (k : Kind) (body : Bytes) → Some (k, body) ≡ option_map object_of (record_named r.records n.bytes)
      → GivesAs (IsBlobOf name (history_of r).values n) (name_of_kind (record { kind = k; name = n }) kind.Blob) (bytes_held r n.bytes)
  blob_found n k body e =
      let h = some_got r.records n.bytes (k, body) e in
      let v = held_is name namer r sound n.bytes h in
      let same = got name namer r sound n.bytes (k, body) h e in
      subst (λ o. GivesAs (IsBlobOf name (history_of r).values n) (name_of_kind (record { kind = k; name = n }) kind.Blob) (or_unknown o (blob_bytes (value_of_name r.records n.bytes)))) (sym v.found)
      (of_value n k (value_of_name r.records n.bytes) (ap (λ o. o.0) same) v.stands v.named)

  pub none_held : (n : Bytes) → None ≡ option_map object_of (record_named r.records n) → bytes_held r n ≡ Err fault.UnknownObject
  none_held n e = ap (λ o. or_unknown o (blob_bytes (value_of_name r.records n))) (none_got r.records n e)

  base_is : (h : History) (x : Bytes) → (list_all is_any_digit x && nat_eq (length x) 40) ≡ true → base_value name h x ≡ full_name name (begun_by name h x)
  base_is h x e = rw e refl

  plain : (s : State) (m : Mode) → (m ≡ Gitlink → ⊥) → (x : Bytes) → content name s m (Object x) ≡ (base_value name s.history x >>= λ v. ◌>>=◌ {B = State × Bytes} (blob_bytes v) (λ y. Ok (s, y)))
  plain s File k x = refl
  plain s Exec k x = refl
  plain s Link k x = refl
  plain s Gitlink k x = absurd (k refl)
  plain s Dir k x = refl

  content_by : (s : State) → history_of r ≡ s.history → (m : Mode) → (m ≡ Gitlink → ⊥) → (x n : Bytes) → (list_all is_any_digit x && nat_eq (length x) 40) ≡ true → n ≡ unhex (map lower x)
      → content name s m (Object x) ≡ ◌>>=◌ {B = State × Bytes} (bytes_held r n) (λ y. Ok (s, y))
  content_by s h m k x n d e =
      plain s m k x ∙ ap (λ b. b >>= λ v. ◌>>=◌ {B = State × Bytes} (blob_bytes v) (λ y. Ok (s, y))) (ap (λ z. base_value name z x) (sym h) ∙ base_is (history_of r) x d) ∙ by (record_named r.records n) refl
    where
      by : (o : Option Record) → record_named r.records n ≡ o
          → (full_name name (begun_by name (history_of r) x) >>= λ v. ◌>>=◌ {B = State × Bytes} (blob_bytes v) (λ y. Ok (s, y))) ≡ ◌>>=◌ {B = State × Bytes} (or_unknown (record_named r.records n) (blob_bytes (value_of_name r.records n))) (λ y. Ok (s, y))
      by None f =
          let w = whole_digits x d in
          ap (λ b. b >>= λ v. ◌>>=◌ {B = State × Bytes} (blob_bytes v) (λ y. Ok (s, y))) (full_none name namer r sound x n w.1 w.0 e f)
          ∙ sym (ap (λ o. ◌>>=◌ {B = State × Bytes} (or_unknown o (blob_bytes (value_of_name r.records n))) (λ y. Ok (s, y))) f)
      by (Some held) f =
          let w = whole_digits x d in
          ap (λ b. b >>= λ v. ◌>>=◌ {B = State × Bytes} (blob_bytes v) (λ y. Ok (s, y))) (full_found name namer r sound x n w.1 w.0 e (subst (λ o. IsTrue (is_some o)) (sym f) refl))
          ∙ sym (ap (λ o. ◌>>=◌ {B = State × Bytes} (or_unknown o (blob_bytes (value_of_name r.records n))) (λ y. Ok (s, y))) f)

  content_name_is : (s : State) (x : Bytes) (n : Name) (m : Mode) → (m ≡ Gitlink → ⊥) → (m ≡ Dir → ⊥) → n.bytes ≡ name_of name (blob_value x) → IsIn s.history.values (blob_value x) → IsContentName name s (s, x) m n
  content_name_is s x n File k l e i = record { same = refl; leaf = refl; named = e; known = i }
  content_name_is s x n Exec k l e i = record { same = refl; leaf = refl; named = e; known = i }
  content_name_is s x n Link k l e i = record { same = refl; leaf = refl; named = e; known = i }
  content_name_is s x n Gitlink k l e i = absurd (k refl)
  content_name_is s x n Dir k l e i = absurd (l refl)

  -- digits that name a blob
  pub content_found : (s : State) → history_of r ≡ s.history → (m : Mode) → (m ≡ Gitlink → ⊥) → (m ≡ Dir → ⊥) → (x : Bytes) (n : Name) → (list_all is_any_digit x && nat_eq (length x) 40) ≡ true → n.bytes ≡ unhex (map lower x)
      → (result : Result Name Fault) → GivesAs (IsBlobOf name (history_of r).values n) result (bytes_held r n.bytes) → GivesAs (λ y called. IsContentName name s y m called) result (content name s m (Object x))
  content_found s h m k l x n d e (Ok called) g = (
    (s, g.0),
    content_by s h m k x n.bytes d e ∙ ap (λ b. ◌>>=◌ {B = State × Bytes} b (λ y. Ok (s, y))) g.1,
    subst (IsContentName name s (s, g.0) m) (sym g.2.same) (content_name_is s g.0 n m k l g.2.named (subst (λ z. IsIn z.values (blob_value g.0)) h g.2.stands)),
  )
  content_found s h m k l x n d e (Err f) g =
      subst (IsFaultOf f) (sym (content_by s h m k x n.bytes d e)) (fault_then f (bytes_held r n.bytes) (λ y. Ok (s, y)) g)

lower_digit : (d : ℕ) → is_any_digit d ≡ true → is_lower_digit (lower d) ≡ true
lower_digit d h = grind (arith, common_steps, h)

lower_digits : (x : Bytes) → T (list_all is_any_digit x) → T (list_all is_lower_digit (map lower x))
lower_digits [] h = tt
lower_digits (d ∷ x) h = both _ _ (passes _ (lower_digit d (is_true _ (first (is_any_digit d) (list_all is_any_digit x) h)))) (lower_digits x (second (is_any_digit d) (list_all is_any_digit x) h))

-- digits in lower case are those of a name
pub lower_text : (x : Bytes) → (list_all is_any_digit x && nat_eq (length x) 40) ≡ true → IsTrue (is_name_text (map lower x))
lower_text x d =
    let w = whole_digits x d in
    is_true _ (both _ _ (passes _ (eq-eqb (length (map lower x)) 40 (length-map x lower ∙ w.1))) (lower_digits x (passes _ w.0)))
