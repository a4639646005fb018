use Rattle.std.proofs.Common.{◌≡◌, List, [], ◌∷◌, ◌++◌, codes, ap, sym, subst, ◌∙◌}
use Rattle.gx_model.specs.Histories.Files.{FileMap}
use Rattle.gx_model.specs.Histories.Values.{Value}
use Rattle.gx_model.specs.Streams.Items.{Line}
use Rattle.gx_model.specs.Texts.{Bytes}
use Rattle.gx_export.specs.Outputs.{Writes}
use Rattle.gx_export.specs.Texts.{change_lines, file_items}
use Rattle.gx_model.specs.Export.{items_text}
use Rattle.gx_export.proofs.Writing.{items_append}
use Rattle.gx_export.proofs.commit.write_files.Goals as goal

-- the lines of files between the first line and the last
changes_text : (ws : List Value) (files : FileMap Bytes) (lines : Bytes) → lines ≡ items_text (file_items ws files) → codes "deleteall" ++ (10 ∷ (lines ++ 10 ∷ [])) ≡ items_text (change_lines ws files)
changes_text ws files lines e = ap (λ (x : Bytes). codes "deleteall" ++ (10 ∷ x)) (ap (λ (x : Bytes). x ++ 10 ∷ []) e ∙ sym (items_append (file_items ws files) (Line [] ∷ [])))

pub returns-clause-text : goal.returns-clause-text
returns-clause-text g c = λ ws files e.
    let done = rw c.as_slice.ensures at c.write_all.ensures.text in
    subst (λ t. Writes c.args.output.now c.write_all.new.self t c.write_all.result) (changes_text ws files c.args.lines.now e) done
