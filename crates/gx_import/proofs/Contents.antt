-- What a file gets: the blob of a mark, or one that is put.
use Rattle.std.proofs.Common.{◌≡◌, Ok, refl, subst}
use Rattle.std.proofs.lemmas.Bool.{false≢true}
use Rattle.std.specs.Prelude.{IsTrue}
use Rattle.gx_model.specs.declared.objects.Kind.{Kind}
use Rattle.gx_model.specs.declared.objects.Mode.{Mode}
use Rattle.gx_model.specs.declared.objects.Mode.TheVariants.{File, Exec, Link, Gitlink, Dir}
use Rattle.gx_model.specs.Texts.{Bytes}
use Rattle.gx_model.specs.Histories.Values.{blob_value}
use Rattle.gx_model.specs.Records.{name_of}
use Rattle.gx_model.specs.Histories.{IsIn, Records, with_one}
use Rattle.gx_model.specs.Laws.RepositoryLaws.{values_of}
use Rattle.gx_model.specs.Streams.Commands.{Inline, Object}
use Rattle.gx_model.specs.Replay.{State, added, content}
use Rattle.gx_object.specs.declared.name.Name.{Name}
use Rattle.gx_command.specs.declared.commands.DataRef.{DataRef}
use Rattle.gx_command.specs.declared.commands.DataRef.TheVariants as data_ref
use Rattle.gx_command.specs.DataRefs.{is_suited}
use Rattle.gx_command.specs.Views.{shown_data}
use Rattle.gx_repo.specs.Additions.{HasValues}
use Rattle.gx_import.specs.declared.tables.Tables.{Tables}
use Rattle.gx_import.specs.Standing.{Follows, IsContentName, Stands}
use Rattle.gx_import.proofs.Clashes.{content_inline}
use Rattle.gx_import.proofs.Standings.{added_one, one_has}

-- a gitlink is given by digits alone, and no file is a directory
pub no_gitlink : {A : Type 0} (m : Mode) (d : DataRef A) → ((x : Bytes) → shown_data d ≡ Object x → ⊥) → IsTrue (is_suited m d) → m ≡ Gitlink → ⊥
no_gitlink {A} m (data_ref.Mark n) k h e = false≢true (subst (λ z. IsTrue (is_suited {A = A} z (data_ref.Mark n))) e h)
no_gitlink {A} m (data_ref.Inline x) k h e = false≢true (subst (λ z. IsTrue (is_suited {A = A} z (data_ref.Inline x))) e h)
no_gitlink {A} m (data_ref.Name x) k h e = absurd (k x.digits refl)

pub no_directory : {A : Type 0} (m : Mode) (d : DataRef A) → IsTrue (is_suited m d) → m ≡ Dir → ⊥
no_directory m d h e = false≢true (subst (λ z. IsTrue (is_suited z d)) e h)

module _ (name : Kind → Bytes → Bytes) where
  -- a blob's name is that of a file's content
  blob_content : (s : State) (x : Bytes) (n : Name) (m : Mode) → (m ≡ Gitlink → ⊥) → (m ≡ Dir → ⊥) → n.bytes ≡ name_of name (blob_value x) → IsIn s.history.values (blob_value x) → IsContentName name s (s, x) m n
  blob_content s x n File k l e i = record { same = refl; leaf = refl; named = e; known = i }
  blob_content s x n Exec k l e i = record { same = refl; leaf = refl; named = e; known = i }
  blob_content s x n Link k l e i = record { same = refl; leaf = refl; named = e; known = i }
  blob_content s x n Gitlink k l e i = absurd (k refl)
  blob_content s x n Dir k l e i = absurd (l refl)

  -- a blob that is put
  pub blob_put : {A : Type 0} (r now : Records) (tables : Tables A) (s : State) → Stands name r tables s → (m : Mode) (x : Bytes) (n : Name)
      → (m ≡ Gitlink → ⊥) → (m ≡ Dir → ⊥) → HasValues r now (with_one (values_of r) (blob_value x)) → n.bytes ≡ name_of name (blob_value x)
      → (y : State × Bytes) × (content name s m (Inline x) ≡ Ok y) × (Follows name now tables s y.0 × IsContentName name y.0 y m n)
  blob_put r now tables s h m x n k l has e = (
    (added (blob_value x) s, x),
    content_inline name s m x,
    (record { stands = added_one name r now tables s h (blob_value x) refl has; progress = refl; held = refl }, blob_content (added (blob_value x) s) x n m k l e (one_has s.history.values (blob_value x))),
  )
