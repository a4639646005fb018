-- The laws of packs and bundles: what is written is read again, and by nothing that the writer does.
-- Source: gitformat-pack(5), gitformat-bundle(5), RFC 1950, and RFC 1951, section 3.2.4.
use Rattle.std.specs.Prelude.{◌≡◌, ◌<◌, ◌^◌, List, ◌++◌, length, Some, IsTrue}
use Rattle.std.specs.List.{list_all}
use Rattle.gx_model.specs.Texts.{Bytes}
use Rattle.gx_model.specs.Texts.RefNames.{is_ref_name}
use Rattle.gx_model.specs.Objects.{is_name}
use Rattle.gx_pack.specs.Zlib.{stored_text}
use Rattle.gx_pack.specs.Packs.{Object, entry_text, pack_text}
use Rattle.gx_pack.specs.PackReading.{entry_at, pack_of, unstored}
use Rattle.gx_pack.specs.Bundles.{Bundle, bundle_text}
use Rattle.gx_pack.specs.BundleReading.{bundle_of}

-- stored data is read as its bytes, whatever follows it; an entry as its object; and a pack as its objects, in their order
pub record PacksAreRead : Type 0 where
  pub stored : (bytes rest : Bytes) → unstored (stored_text bytes ++ rest) ≡ Some (bytes, rest)
  pub entries : (object : Object) (rest : Bytes) → entry_at (entry_text object ++ rest) ≡ Some (object, rest)
  pub packs : (digest : Bytes → Bytes) (objects : List Object) → length objects < 2 ^ 32 → pack_of digest (pack_text digest objects) ≡ Some objects

-- a bundle of names and ref names is read as what was written
abbrev pub BundlesAreRead : Type 0
BundlesAreRead =
    (digest : Bytes → Bytes) (bundle : Bundle) → IsTrue (list_all is_name bundle.had) → IsTrue (list_all (λ ref. is_name ref.1) bundle.refs) → IsTrue (list_all (λ ref. is_ref_name ref.0) bundle.refs)
    → length bundle.objects < 2 ^ 32 → bundle_of digest (bundle_text digest bundle) ≡ Some bundle
