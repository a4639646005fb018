use Rattle.std.proofs.Common.{◌≡◌, ℕ, [], ◌∷◌, ◌++◌, length, codes, ap, sym, subst, ◌∙◌, append_assoc}
use Rattle.std.proofs.lemmas.List.{append-nil}
use Rattle.std.specs.Fmt.{decimal}
use Rattle.gx_model.specs.Export.{item_text}
use Rattle.gx_model.specs.Streams.Items.{Data}
use Rattle.gx_model.specs.Texts.{Bytes}
use Rattle.gx_export.specs.Outputs.{Writes}
use Rattle.gx_export.specs.Texts.{blob_under, command_text}
use Rattle.gx_export.proofs.commands.write_blob.Goals as goal

-- the command in its pieces
blob_text : (mark : ℕ) (x : Bytes) → codes "blob" ++ (10 ∷ (codes "mark :" ++ (decimal mark ++ (10 ∷ (codes "data " ++ (decimal (length x) ++ (10 ∷ (x ++ 10 ∷ [])))))))) ≡ command_text (blob_under mark x)
blob_text mark x =
    let ended = append_assoc (decimal (length x)) (10 ∷ x) (10 ∷ []) in
    let block : item_text (Data x) ≡ codes "data " ++ (decimal (length x) ++ (10 ∷ (x ++ 10 ∷ []))) = ap (λ (t : Bytes). codes "data " ++ t) ended in
    let whole = append_assoc (decimal mark) (10 ∷ []) (item_text (Data x) ++ []) ∙ ap (λ (t : Bytes). decimal mark ++ (10 ∷ t)) (append-nil (item_text (Data x)) ∙ block) in
    ap (λ (t : Bytes). codes "blob" ++ (10 ∷ (codes "mark :" ++ t))) (sym whole)

pub returns-clause-text : goal.returns-clause-text
returns-clause-text g c =
    let done = rw (c.as_slice.ensures, c.as_bytes.ensures.value, c.format.ensures.text, c.as_bytes-2.ensures.value, c.format-2.ensures.text) at c.write_all.ensures.text in
    subst (λ t. Writes c.args.output.now c.write_all.new.self t c.write_all.result) (blob_text c.args.mark c.args.bytes.now) done
