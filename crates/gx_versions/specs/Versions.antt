-- Stores of each version, by their texts. Source: this project's own format.
use Rattle.std.specs.Prelude.{ℕ, Bool, if◌then◌else◌, nat_eq, [], ◌∷◌, ◌++◌, length, codes}
use Rattle.std.specs.List.{starts_with}
use Rattle.std.specs.Result.{result_map_both}
use Rattle.sha2.specs.Sha256.{sha256}
use Rattle.gx_model.specs.declared.objects.Kind.{Kind}
use Rattle.gx_model.specs.declared.store_versions.Version.TheVariants.{Two}
use Rattle.gx_model.specs.Texts.{Bytes}
use Rattle.gx_model.specs.Texts.Numbers.{number_text}
use Rattle.gx_model.specs.Objects.{line}
use Rattle.gx_model.specs.Histories.{Records}
use Rattle.gx_model.specs.Stores.StoreReading.{store_of}
use Rattle.gx_model.specs.Stores.StoreText.{store_text}
use Rattle.gx_growing.specs.declared.fault.GrowingFault.TheVariants.{Text}
use Rattle.gx_growing.specs.GrowingReading.{Grown, grown_of}
use Rattle.gx_growing.specs.GrowingText.{growing_text}
use Rattle.gx_versions.specs.declared.forms.StoreForm.{StoreForm}
use Rattle.gx_versions.specs.declared.forms.StoreForm.TheVariants.{Growing, Plain}

-- whether a text begins with the line that says a version
abbrev pub says : Bytes → Bytes → Bool
says version text = starts_with nat_eq text (codes "gxstore " ++ version ++ 10 ∷ [])

-- the form of a text
abbrev pub form_of : Bytes → StoreForm
form_of text = if says (codes "3") text then Growing else Plain

-- the version of a store's text
abbrev pub version_of : Bytes → ℕ
version_of text = if says (codes "3") text then 3 else if says (codes "1") text then 1 else 2

-- the repository of a store's text of any version, or the first fault
abbrev pub opened_of : (Kind → Bytes → Bytes) → Bytes → Grown Records
opened_of name text =
    if says (codes "3") text then grown_of name sha256 text
    else result_map_both (λ read. read) Text (store_of name text)

-- the text of a repository that is written in a form
abbrev pub text_in : StoreForm → Records → Bytes
text_in Plain repository = store_text Two repository
text_in Growing repository = growing_text sha256 repository

-- a version, the numbers of objects and refs, and a length, each in a line behind its word
abbrev pub counts_text : ℕ → ℕ → Records → Bytes
counts_text version bytes repository =
    line (codes "version") (number_text version)
    ++ (line (codes "objects") (number_text (length repository.records))
    ++ (line (codes "refs") (number_text (length repository.refs)) ++ line (codes "bytes") (number_text bytes)))
