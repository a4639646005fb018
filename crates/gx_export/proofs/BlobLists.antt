-- The blobs of files, one after the other.
use Rattle.std.proofs.Common.{◌≡◌, ◌≢◌, suc, true, false, cond, List, [], ◌∷◌, ◌++◌, length, Some, Result, Ok, Err, Bool, not, refl, sym, ap, subst, ◌∙◌}
use Rattle.std.proofs.lemmas.Grind.{flat_map-append}
use Rattle.std.proofs.lemmas.List.{map-append}
use Rattle.std.proofs.lemmas.List.Elements.{filter_map-append}
use Rattle.gx_model.specs.declared.objects.Mode.TheVariants.{File, Exec, Link, Gitlink, Dir}
use Rattle.gx_model.specs.declared.objects.Mode.{Mode}
use Rattle.gx_model.specs.Texts.{Bytes}
use Rattle.gx_model.specs.Streams.Commands.{Blob}
use Rattle.gx_model.specs.Export.{blob_commands, command_items, contents, items_text, with_blobs}
use Rattle.gx_model.specs.Histories.Files.{FileMap}
use Rattle.gx_model.specs.Histories.{Records, is_in}
use Rattle.gx_model.specs.Records.HistoryOf.{Named, bytes_of_blob, content_of, contents_of, value_named}
use Rattle.gx_model.specs.Texts.Paths.{Path}
use Rattle.gx_model.specs.Histories.Values.{Value, blob_value, unless_gitlink}
use Rattle.gx_export.specs.Marks.{Adds}
use Rattle.gx_export.specs.Outputs.{Sent, Writes}
use Rattle.gx_export.specs.Texts.{items_of}
use Rattle.gx_export.specs.declared.fault.ExportFault.{ExportFault}
use Rattle.gx_export.specs.declared.written.Written.{Written}
use Rattle.gx_export.proofs.Numbering.{adds_later}
use Rattle.gx_export.proofs.Writing.{items_sooner}

-- ---- blobs behind others

pub blobs_append : (ws : List Value) (xs ys : List Bytes) → with_blobs ws (xs ++ ys) ≡ with_blobs (with_blobs ws xs) ys
blobs_append ws [] ys = refl
blobs_append ws (x ∷ xs) ys = blobs_append (cond (is_in ws (blob_value x)) ws (blob_value x ∷ ws)) xs ys

commands_append : (ws : List Value) (xs ys : List Bytes) → blob_commands ws (xs ++ ys) ≡ blob_commands ws xs ++ blob_commands (with_blobs ws xs) ys
commands_append ws [] ys = refl
commands_append ws (x ∷ xs) ys =
    let made = Blob (record { mark = Some (suc (length ws)); bytes = x }) in
    let old = commands_append ws xs ys in
    let new = ap (λ cs. made ∷ cs) (commands_append (blob_value x ∷ ws) xs ys) in
    elim (is_in ws (blob_value x)) as (λ b. cond b (blob_commands ws (xs ++ ys)) (made ∷ blob_commands (blob_value x ∷ ws) (xs ++ ys)) ≡ cond b (blob_commands ws xs) (made ∷ blob_commands (blob_value x ∷ ws) xs) ++ blob_commands (with_blobs (cond b ws (blob_value x ∷ ws)) xs) ys) [ true ↦ old | false ↦ new ]

pub blob_items_append : (ws : List Value) (xs ys : List Bytes) → items_of (blob_commands ws (xs ++ ys)) ≡ items_of (blob_commands ws xs) ++ items_of (blob_commands (with_blobs ws xs) ys)
blob_items_append ws xs ys = ap items_of (commands_append ws xs ys) ∙ flat_map-append command_items (blob_commands ws xs) (blob_commands (with_blobs ws xs) ys)

module _ {W A : Type 0} (r : Records) (ws : List Value) (xs ys : List Bytes) (old mid new : Written W A) where
  -- blobs go out behind others
  pub next_blobs : (result : Result (Unit {0}) ExportFault) → Adds r (with_blobs ws xs) (items_of (blob_commands ws xs)) old mid (Ok tt) → Adds r (with_blobs (with_blobs ws xs) ys) (items_of (blob_commands (with_blobs ws xs) ys)) mid new result
      → Adds r (with_blobs ws (xs ++ ys)) (items_of (blob_commands ws (xs ++ ys))) old new result
  next_blobs result h k =
      subst (λ us. Adds r us (items_of (blob_commands ws (xs ++ ys))) old new result) (sym (blobs_append ws xs ys))
      (subst (λ is. Adds r (with_blobs (with_blobs ws xs) ys) is old new result) (sym (blob_items_append ws xs ys))
      (adds_later r (with_blobs ws xs) (with_blobs (with_blobs ws xs) ys) (items_of (blob_commands ws xs)) (items_of (blob_commands (with_blobs ws xs) ys)) old mid new result h k))

-- what stops within blobs stops within these and others
pub blobs_sooner : (old new : Sent) (ws : List Value) (xs ys : List Bytes) (e : ExportFault) → Writes old new (items_text (items_of (blob_commands ws xs))) (Err e) → Writes old new (items_text (items_of (blob_commands ws (xs ++ ys)))) (Err e)
blobs_sooner old new ws xs ys e h =
    subst (λ is. Writes old new (items_text is) (Err e)) (sym (blob_items_append ws xs ys)) (items_sooner old new (items_of (blob_commands ws xs)) (items_of (blob_commands (with_blobs ws xs) ys)) e h)

-- a test that fails
pub denied : (b : Bool) → false ≡ not b → b ≡ true
denied true e = refl
denied false e = absurd (cc e)

-- ---- the bytes of files, by their names

abbrev pub bytes_named : Named → FileMap Bytes → List Bytes
bytes_named named names = contents (contents_of named names)

pub bytes_append : (named : Named) (xs ys : FileMap Bytes) → bytes_named named (xs ++ ys) ≡ bytes_named named xs ++ bytes_named named ys
bytes_append named xs ys =
    ap contents (map-append (λ entry. (entry.0, (entry.1.0, content_of named entry.1.0 entry.1.1))) xs ys)
    ∙ filter_map-append (λ e. unless_gitlink e.1.0 e.1.1) (contents_of named xs) (contents_of named ys)

-- another file has its blob's
pub one_bytes : (named : Named) (path : Path) (mode : Mode) (n : Bytes) → mode ≢ Gitlink → bytes_named named ((path, (mode, n)) ∷ []) ≡ bytes_of_blob (value_named named n) ∷ []
one_bytes named path File n g = refl
one_bytes named path Exec n g = refl
one_bytes named path Link n g = refl
one_bytes named path Gitlink n g = absurd (g refl)
one_bytes named path Dir n g = refl
