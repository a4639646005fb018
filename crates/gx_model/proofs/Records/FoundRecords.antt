-- Refs, digits and names find the same among records as in the history.
use Rattle.std.proofs.Common.{◌≡◌, true, false, cond, refl, sym, ap, ◌∙◌, List, [], ◌∷◌, map, Option, None, Some}
use Rattle.std.specs.List.{filter}
use Rattle.std.specs.Option.{option_map, option_or}
use Rattle.std.specs.Map.{lookup}
use Rattle.std.specs.Bool.{passes}
use Rattle.gx_model.specs.declared.objects.Kind.{Kind}
use Rattle.gx_model.specs.Texts.{Bytes, same_bytes}
use Rattle.gx_model.specs.Histories.Values.{Value, blob_value, tree_value, commit_value, tag_value}
use Rattle.gx_model.specs.Objects.{IsNamer}
use Rattle.gx_model.specs.Records.{name_of, kind_of, body_of}
use Rattle.gx_model.specs.Histories.{Record, Records, IsIn, Target, record_of}
use Rattle.gx_model.specs.Records.Sound.{IsSound}
use Rattle.gx_model.specs.Records.HistoryOf.{target_in, value_of_name, history_of}
use Rattle.gx_model.specs.Revisions.Denotation.{first_ref, begins_with_digits, begun_by}
use Rattle.gx_model.specs.Records.Lookups.{first_named, records_begun_by, commit_of_record, commit_named, commit_name_of}
use Rattle.gx_model.proofs.Records.LinkedValues.{proper_in}
use Rattle.gx_model.proofs.ObjectTexts.BodiesReadBack.{tag_read}
use Rattle.gx_model.proofs.Records.HistoriesExist.{stands, tag_text_is}
use Rattle.gx_model.proofs.Records.HeldNames.{value_found}

module _ (f : Bytes → Target) where
  look : (n : Bytes) (refs : List (Bytes × Bytes)) → lookup (same_bytes n) (map (λ (x : Bytes × Bytes). let q : Bytes × Target = (x.0, f x.1) in q) refs) ≡ option_map f (lookup (same_bytes n) refs)
  look n [] = refl
  look n (r ∷ rs) = elim (same_bytes n r.0) as (λ b. cond b (Some (f r.1)) (lookup (same_bytes n) (map (λ (x : Bytes × Bytes). let q : Bytes × Target = (x.0, f x.1) in q) rs)) ≡ option_map f (cond b (Some r.1) (lookup (same_bytes n) rs))) [ true ↦ refl | false ↦ look n rs ]

  or_mapped : (o p : Option Bytes) → option_or (option_map f o) (option_map f p) ≡ option_map f (option_or o p)
  or_mapped None p = refl
  or_mapped (Some n) p = refl

-- the first ref of some names is the same among records and in the history
pub first_found : (r : Records) (ns : List Bytes) → first_ref (history_of r) ns ≡ option_map (λ m. target_in (value_of_name r.records m)) (first_named r.refs ns)
first_found r [] = refl
first_found r (n ∷ ns) =
    (λ i. option_or (look (λ m. target_in (value_of_name r.records m)) n r.refs i) (first_found r ns i))
    ∙ or_mapped (λ m. target_in (value_of_name r.records m)) (lookup (same_bytes n) r.refs) (first_named r.refs ns)

module _ (name : Kind → Bytes → Bytes) (namer : IsNamer name) where
  begun : (vs : List Value) (digits : Bytes) → map (record_of name) (filter (λ v. begins_with_digits digits (name_of name v)) vs) ≡ records_begun_by (map (record_of name) vs) digits
  begun [] digits = refl
  begun (v ∷ vs) digits =
      elim (begins_with_digits digits (name_of name v)) as (λ b. map (record_of name) (cond b (v ∷ filter (λ v. begins_with_digits digits (name_of name v)) vs) (filter (λ v. begins_with_digits digits (name_of name v)) vs)) ≡ cond b (record_of name v ∷ records_begun_by (map (record_of name) vs) digits) (records_begun_by (map (record_of name) vs) digits)) [
        | true ↦ ap (λ rs. record_of name v ∷ rs) (begun vs digits)
        | false ↦ begun vs digits
      ]

  -- digits find the records of the values that they find
  pub digits_find : (r : Records) → IsSound name r → (digits : Bytes) → map (record_of name) (begun_by name (history_of r) digits) ≡ records_begun_by r.records digits
  digits_find r i digits = begun (history_of r).values digits ∙ ap (λ rs. records_begun_by rs digits) (sym (stands name namer r i).records)

  -- a commit's or a tag's record gives the name of its commit
  pub commits_found : (r : Records) → IsSound name r → (v : Value) → IsIn (history_of r).values v → commit_named r.records (name_of name v) ≡ commit_name_of name v
  commits_found r i v j = ap (λ (o : Option Record). elim o [ None ↦ None | Some s ↦ commit_of_record s.kind s.name s.body ]) (value_found name namer r i v j).0 ∙ by v j
    where
      by : (v : Value) → IsIn (history_of r).values v → commit_of_record (kind_of name v) (name_of name v) (body_of name v) ≡ commit_name_of name v
      by (blob_value x) k = refl
      by (tree_value f) k = refl
      by (commit_value c) k = refl
      by (tag_value t) k = ap (λ p. Some p.object) (tag_read _ (body_of name (tag_value t)) (tag_text_is name namer t (proper_in (history_of r).values (tag_value t) (passes _ (stands name namer r i).history.proper) k)))
