-- The bodies of held objects: by their places, and of tags as the text of their parts.
use Rattle.std.proofs.Common.{Result, Ok, Err, ◌⊎◌, inl, inr, ◌≡◌, ℕ, zero, suc, List, [], ◌∷◌, map, Some, None, ◌≢◌, refl, sym, ap, ◌∙◌}
use Rattle.std.specs.Prelude.{IsOkAnd, IsTrue, is_some}
use Rattle.std.specs.Result.{result_ok}
use Rattle.std.specs.Bool.{passes}
use Rattle.std.specs.List.{slice_get}
use Rattle.std.specs.Option.{option_map}
use Rattle.gx_model.specs.declared.objects.Kind.{Kind}
use Rattle.gx_model.specs.declared.objects.Kind.TheVariants as kind
use Rattle.gx_model.specs.Texts.{Bytes}
use Rattle.gx_model.specs.Texts.RefNames.{is_tag_name}
use Rattle.gx_model.specs.Histories.{IsIn, Record, Records, record_of}
use Rattle.gx_model.specs.Histories.Values.{Value, blob_value, commit_value, is_optional_ident, tag_value, tree_value}
use Rattle.gx_model.specs.Laws.RepositoryLaws.{values_of}
use Rattle.gx_model.specs.Objects.{IsNamer, IsTagText, TagParts}
use Rattle.gx_model.specs.Records.{body_of, commit_body, kind_of, name_of}
use Rattle.gx_model.specs.Records.Growth.{record_named}
use Rattle.gx_model.specs.Records.HistoryOf.{history_of, value_of_name}
use Rattle.gx_model.specs.Records.Sound.{IsSound}
use Rattle.gx_model.proofs.Records.HeldValues.{all_whole, held_is}
use Rattle.gx_model.proofs.Records.HistoriesExist.{stands}
use Rattle.gx_model.proofs.Records.LinkedValues.{proper_in}
use Rattle.gx_model.proofs.Texts.PathTests.{first, is_true, second}
use Rattle.gx_model.proofs.ObjectTexts.TreePaths.{name_is_name}
use Rattle.gx_rev.specs.Objects.{body_in_place, parts_of_tag_value}

-- an answer that is there, and is this one
pub found_is : {T E : Type 0} (found : Result T E) (written : T) → IsOkAnd found (λ t. t ≡ written) → result_ok found ≡ Some written
found_is (Ok t) written h = ap Some h
found_is (Err e) written h = absurd h

-- a kind that is one of the others is no tag's
pub other : (k : Kind) → (k ≡ kind.Blob) ⊎ (k ≡ kind.Tree) ⊎ (k ≡ kind.Commit) → k ≢ kind.Tag
other k (inl e) t = let o : kind.Blob ≡ kind.Tag = sym e ∙ t in cc o
other k (inr (inl e)) t = let o : kind.Tree ≡ kind.Tag = sym e ∙ t in cc o
other k (inr (inr e)) t = let o : kind.Commit ≡ kind.Tag = sym e ∙ t in cc o

module _ (name : Kind → Bytes → Bytes) where
  bodies_at : (vs : List Value) (i : ℕ) (s : Record) → Some s ≡ slice_get (map (record_of name) vs) i → option_map (body_of name) (slice_get vs i) ≡ Some s.body
  bodies_at [] i s e = absurd cc
  bodies_at (v ∷ vs) zero s e = let same : s ≡ record_of name v = cc in sym (ap (λ z. Some z.body) same)
  bodies_at (v ∷ vs) (suc i) s e = bodies_at vs i s e

  -- what is of another kind has no parts of a tag
  pub no_tag : (v : Value) → kind_of name v ≢ kind.Tag → None ≡ parts_of_tag_value name v
  no_tag (blob_value x) h = refl
  no_tag (tree_value f) h = refl
  no_tag (commit_value c) h = refl
  no_tag (tag_value t) h = absurd (h refl)

module _ (name : Kind → Bytes → Bytes) (namer : IsNamer name) (r : Records) (sound : IsSound name r) where
  -- the record at a place has the body of the value there
  pub body_there : (i : ℕ) (s : Record) → Some s ≡ slice_get r.records i → body_in_place name r i ≡ Some s.body
  body_there i s e = bodies_at name (values_of r) i s (e ∙ ap (λ rs. slice_get rs i) (stands name namer r sound).records)

  -- a held tag's body is the text of its parts
  pub tag_text_held : (n body : Bytes) → IsTrue (is_some (record_named r.records n)) → kind_of name (value_of_name r.records n) ≡ kind.Tag → body ≡ body_of name (value_of_name r.records n)
      → (parts : TagParts) × (parts_of_tag_value name (value_of_name r.records n) ≡ Some parts) × IsTagText parts body
  tag_text_held n body h k b = by (value_of_name r.records n) (held_is name namer r sound n h).stands k b
    where
      by : (v : Value) → IsIn (history_of r).values v → kind_of name v ≡ kind.Tag → body ≡ body_of name v → (parts : TagParts) × (parts_of_tag_value name v ≡ Some parts) × IsTagText parts body
      by (blob_value x) i k b = absurd (cc k)
      by (tree_value f) i k b = absurd (cc k)
      by (commit_value c) i k b = absurd (cc k)
      by (tag_value t) i k b =
          let proper = proper_in (history_of r).values (tag_value t) (passes _ (all_whole name namer r sound).proper) i in (
            record { object = name_of name (commit_value t.target); name = t.name; tagger = t.tagger; message = t.message },
            refl,
            (b, is_true _ (name_is_name name namer kind.Commit (commit_body name t.target)), is_true _ (first (is_tag_name t.name) (is_optional_ident t.tagger) proper), is_true _ (second (is_tag_name t.name) (is_optional_ident t.tagger) proper)),
          )
