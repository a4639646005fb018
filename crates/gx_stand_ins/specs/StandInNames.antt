-- The names of a small repository's objects are names: 20 bytes.
use Rattle.std.specs.Prelude.{◌≡◌, ℕ, zero, suc, ◌&&◌, Bool, true, false, IsTrue, [], ◌∷◌, ◌++◌, Option, None, Some, take, drop, length, nat_lt, refl}
use Rattle.std.proofs.Common.{ap, cond, subst, ◌∙◌}
use Rattle.std.specs.Bool.{passes}
use Rattle.std.specs.List.{list_all}
use Rattle.std.specs.Option.{unwrap_or}
use Rattle.gx_model.specs.declared.objects.Kind.{Kind}
use Rattle.gx_model.specs.declared.objects.Kind.TheVariants as kind
use Rattle.gx_model.specs.Texts.{Bytes, same_bytes}
use Rattle.gx_model.specs.Objects.{IsNamer, is_name}
use Rattle.gx_model.proofs.ObjectTexts.BodiesReadBack.{bytes_name, long_name}
use Rattle.gx_model.proofs.ObjectTexts.TreePaths.{name_is_name}
use Rattle.gx_model.proofs.Texts.PathTests.{is_true, same_is}
use Rattle.gx_stand_ins.specs.SmallRepositories.{commit_front, name_behind, stand_name, stood_for}

-- a text is its first bytes and the others
pub both_parts : (n : ℕ) (x : Bytes) → x ≡ take n x ++ drop n x
both_parts zero x = refl
both_parts (suc n) [] = refl
both_parts (suc n) (b ∷ x) = ap (λ z. b ∷ z) (both_parts n x)

-- a name behind these is what follows them
pub behind_is : (front text n : Bytes) → name_behind front text ≡ Some n → (text ≡ front ++ n) × IsTrue (is_name n)
behind_is front text n e =
    elim (same_bytes (take (length front) text) front) as (λ b. same_bytes (take (length front) text) front ≡ b → cond (b && is_name (drop (length front) text)) (Some (drop (length front) text)) None ≡ Some n → (text ≡ front ++ n) × IsTrue (is_name n)) [
      | true ↦ λ k l. by (is_name (drop (length front) text)) refl k l
      | false ↦ λ k l. absurd (cc)
    ] refl e
  where
    by : (b : Bool) → is_name (drop (length front) text) ≡ b → same_bytes (take (length front) text) front ≡ true → cond b (Some (drop (length front) text)) None ≡ Some n → (text ≡ front ++ n) × IsTrue (is_name n)
    by true j k l =
        let rest : drop (length front) text ≡ n = cc in
        (both_parts (length front) text ∙ (λ i. same_is (take (length front) text) front (passes _ k) i ++ rest i), subst (λ x. IsTrue (is_name x)) rest j)
    by false j k l = absurd (cc)

module _ (nonce : Bytes) (name : Kind → Bytes → Bytes) where
  stood_is_name : (k : Kind) (body n : Bytes) → stood_for nonce k body ≡ Some n → IsTrue (is_name n)
  stood_is_name kind.Blob body n e = (behind_is nonce body n e).1
  stood_is_name kind.Commit body n e = (behind_is (commit_front nonce) (drop 46 body) n e).1
  stood_is_name kind.Tree body n e = absurd (cc)
  stood_is_name kind.Tag body n e = absurd (cc)

  stand_is_name : IsNamer name → (k : Kind) (body : Bytes) → IsTrue (is_name (stand_name nonce name k body))
  stand_is_name namer k body = by (stood_for nonce k body) (λ n e. stood_is_name k body n e)
    where
      by : (o : Option Bytes) → ((n : Bytes) → o ≡ Some n → IsTrue (is_name n)) → IsTrue (is_name (unwrap_or o (name k body)))
      by None h = is_true _ (name_is_name name namer k body)
      by (Some n) h = h n refl

  -- names of a small repository are names
  pub stand_is_namer : IsNamer name → IsNamer (stand_name nonce name)
  stand_is_namer namer = record {
    long = λ k body. length_of (stand_name nonce name k body) (stand_is_name namer k body);
    bytes = λ k body. bytes_of (stand_name nonce name k body) (stand_is_name namer k body);
  }
    where
      length_of : (n : Bytes) → IsTrue (is_name n) → length n ≡ 20
      length_of n h = long_name n (passes _ h)

      bytes_of : (n : Bytes) → IsTrue (is_name n) → IsTrue (list_all (λ byte. nat_lt byte 256) n)
      bytes_of n h = is_true _ (bytes_name n (passes _ h))
