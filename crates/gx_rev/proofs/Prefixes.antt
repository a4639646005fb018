-- What digits that begin names find in the history.
use Rattle.std.proofs.Common.{◌≡◌, refl, sym, ap, subst, ◌∙◌, List, [], ◌∷◌, map, Ok, Err, inl}
use Rattle.std.specs.Prelude.{is_some, IsTrue}
use Rattle.gx_model.specs.declared.faults.Fault.TheVariants as fault
use Rattle.gx_model.specs.declared.objects.Kind.{Kind}
use Rattle.gx_model.specs.Texts.{Bytes}
use Rattle.gx_model.specs.Histories.Values.{Value}
use Rattle.gx_model.specs.Objects.{IsNamer}
use Rattle.gx_model.specs.Records.{name_of}
use Rattle.gx_model.specs.Histories.{IsIn, Records, record_of}
use Rattle.gx_model.specs.Records.HistoryOf.{history_of, value_of_name}
use Rattle.gx_model.specs.Records.Growth.{record_named}
use Rattle.gx_model.specs.Records.Sound.{IsSound}
use Rattle.gx_model.specs.Records.Lookups.{records_begun_by}
use Rattle.gx_model.specs.Revisions.Denotation.{begun_by, the_one}
use Rattle.gx_model.proofs.Revisions.Bases.{begun_stands, value_is_held}
use Rattle.gx_model.proofs.Records.FoundRecords.{digits_find}
use Rattle.gx_store.specs.declared.prefix.Prefix.TheVariants as prefix
use Rattle.gx_store.specs.declared.prefix.Prefix.{Prefix}
use Rattle.gx_store.specs.Prefixes.{prefix_of}

module _ (name : Kind → Bytes → Bytes) (namer : IsNamer name) (r : Records) (sound : IsSound name r) where
  abbrev Named : Bytes → Value
  Named n = value_of_name r.records n

  abbrev Stands : Value → Type 0
  Stands = IsIn (history_of r).values

  abbrev begun : Bytes → List Value
  begun digits = begun_by name (history_of r) digits

  -- what a prefix says of the values that it begins
  abbrev pub PrefixTells : Prefix → List Value → Type 0
  PrefixTells (prefix.Unique n) vs = (the_one name vs ≡ Ok (Named n.bytes)) × IsTrue (is_some (record_named r.records n.bytes))
  PrefixTells prefix.Absent vs = the_one name vs ≡ Err fault.UnknownRef
  PrefixTells prefix.Ambiguous vs = the_one name vs ≡ Err fault.Ambiguous

  tells : (vs : List Value) → ((v : Value) → IsIn vs v → Stands v) → PrefixTells (prefix_of (map (record_of name) vs)) vs
  tells [] k = refl
  tells (v ∷ []) k = let h = value_is_held name namer r sound v (name_of name v) (k v (inl refl)) refl in (ap Ok (sym h.1), h.0)
  tells (v ∷ w ∷ vs) k = refl

  pub prefix_tells : (digits : Bytes) (p : Prefix) → p ≡ prefix_of (records_begun_by r.records digits) → PrefixTells p (begun digits)
  prefix_tells digits p e =
      subst (λ q. PrefixTells q (begun digits)) (sym (e ∙ ap prefix_of (sym (digits_find name namer r sound digits)))) (tells (begun digits) (begun_stands name namer r sound digits))
