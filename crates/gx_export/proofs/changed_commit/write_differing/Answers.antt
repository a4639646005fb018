use Rattle.std.proofs.Common.{◌≡◌, List, [], ◌∷◌, ◌++◌, ap, sym, subst, ◌∙◌}
use Rattle.gx_model.specs.Histories.Files.{FileMap}
use Rattle.gx_model.specs.Histories.Values.{Value}
use Rattle.gx_model.specs.Streams.Items.{Line}
use Rattle.gx_model.specs.Texts.{Bytes}
use Rattle.gx_model.specs.Texts.Paths.{Path}
use Rattle.gx_export.specs.ChangedParts.{differing_lines}
use Rattle.gx_export.specs.Compared.{gone_items, gone_text}
use Rattle.gx_export.specs.Outputs.{Writes}
use Rattle.gx_export.specs.Texts.{file_items}
use Rattle.gx_model.specs.Export.{items_text}
use Rattle.gx_export.proofs.Writing.{items_append}
use Rattle.gx_export.proofs.changed_commit.write_differing.Goals as goal

-- the lines one after the other, and the last one
differing_text : (ws : List Value) (gone : List Path) (own : FileMap Bytes) (old new : Bytes) → old ≡ gone_text gone → new ≡ items_text (file_items ws own) → old ++ (new ++ 10 ∷ []) ≡ items_text (differing_lines ws gone own)
differing_text ws gone own old new e f =
    (λ i. e i ++ (f i ++ 10 ∷ []))
    ∙ ap (λ (x : Bytes). gone_text gone ++ x) (sym (items_append (file_items ws own) (Line [] ∷ [])))
    ∙ sym (items_append (gone_items gone) (file_items ws own ++ Line [] ∷ []))

pub returns-clause-text : goal.returns-clause-text
returns-clause-text g c = λ ws gone own e.
    let done = rw (c.as_slice-gone.ensures.value, c.as_slice-files.ensures.value) at c.write_all.ensures.text in
    subst (λ t. Writes c.args.output.now c.write_all.new.self t c.write_all.result) (differing_text ws gone own c.args.changes.now.gone.items c.args.changes.now.files.text.items e.gone e.files) done
