-- The files that are held, and the texts that a patch has of them.
use Rattle.std.proofs.Common.{◌≡◌, ◌∙◌, true, false, refl, sym, Some}
use Rattle.std.specs.Prelude.{IsTrue, is_some}
use Rattle.std.proofs.lemmas.Bool.{false≢true}
use Rattle.gx_model.specs.declared.objects.Kind.{Kind}
use Rattle.gx_model.specs.declared.objects.Kind.TheVariants as kind
use Rattle.gx_model.specs.declared.objects.Mode.{Mode}
use Rattle.gx_model.specs.declared.objects.Mode.TheVariants.{File, Exec, Link, Gitlink, Dir}
use Rattle.gx_model.specs.Histories.{Records}
use Rattle.gx_model.specs.Objects.{IsNamer, hex}
use Rattle.gx_model.specs.Records.Growth.{record_named}
use Rattle.gx_model.specs.Records.HistoryOf.{bytes_of_blob, content_of, named_values, value_of_name}
use Rattle.gx_model.specs.Records.RecordFaults.{is_held}
use Rattle.gx_model.specs.Records.Sound.{Holds, IsSound}
use Rattle.gx_model.specs.Records.{body_of, kind_of}
use Rattle.gx_model.specs.Texts.{Bytes}
use Rattle.gx_model.proofs.Records.HeldValues.{blob_body, holds_held, kind_held}
use Rattle.gx_differences.specs.Listed.{HasLeaf}
use Rattle.gx_patch.specs.Patches.{file_text, is_submodule, submodule_text}

blob_here : (r : Records) (n : Bytes) (m : Mode) → is_submodule m ≡ false → HasLeaf (Some (m, n)) r → Holds r.records kind.Blob n
blob_here r n File p h = h.1
blob_here r n Exec p h = h.1
blob_here r n Link p h = h.1
blob_here r n Gitlink p h = absurd (false≢true (sym p))
blob_here r n Dir p h = absurd (h.0 refl)

bytes_here : (r : Records) (n : Bytes) (m : Mode) → is_submodule m ≡ false → HasLeaf (Some (m, n)) r → file_text m (content_of (named_values r.records) m n) ≡ bytes_of_blob (value_of_name r.records n)
bytes_here r n File p h = refl
bytes_here r n Exec p h = refl
bytes_here r n Link p h = refl
bytes_here r n Gitlink p h = absurd (false≢true (sym p))
bytes_here r n Dir p h = absurd (h.0 refl)

module _ (name : Kind → Bytes → Bytes) (namer : IsNamer name) (r : Records) (sound : IsSound name r) (m : Mode) (n : Bytes) (p : is_submodule m ≡ false) (h : HasLeaf (Some (m, n)) r) where
  -- what is no submodule is a blob
  pub file_blob : IsTrue (is_held r.records kind.Blob n)
  file_blob = holds_held name namer r sound kind.Blob n (blob_here r n m p h)

  held_blob : IsTrue (is_some (record_named r.records n)) × (kind_of name (value_of_name r.records n) ≡ kind.Blob)
  held_blob = kind_held name namer r sound kind.Blob n file_blob

  -- it is held
  pub file_held : IsTrue (is_some (record_named r.records n))
  file_held = held_blob.0

  -- and its body is the file's text
  pub file_bytes : (body : Bytes) → body ≡ body_of name (value_of_name r.records n) → body ≡ file_text m (content_of (named_values r.records) m n)
  file_bytes body q = q ∙ blob_body name (value_of_name r.records n) (sym held_blob.1) ∙ sym (bytes_here r n m p h)

-- the line of what is a submodule
pub submodule_line : (r : Records) (m : Mode) (n : Bytes) → is_submodule m ≡ true → submodule_text (hex n) ≡ file_text m (content_of (named_values r.records) m n)
submodule_line r File n p = absurd (false≢true p)
submodule_line r Exec n p = absurd (false≢true p)
submodule_line r Link n p = absurd (false≢true p)
submodule_line r Gitlink n p = refl
submodule_line r Dir n p = absurd (false≢true p)
