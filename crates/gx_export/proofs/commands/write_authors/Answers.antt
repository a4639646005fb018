use Rattle.std.proofs.Common.{◌≡◌, ℕ, [], ◌∷◌, ◌++◌, codes, ap, sym, subst, ◌∙◌, append_assoc}
use Rattle.std.proofs.lemmas.List.{append-nil}
use Rattle.std.specs.Fmt.{decimal}
use Rattle.gx_model.specs.Texts.{Bytes}
use Rattle.gx_model.specs.Histories.Values.{CommitText}
use Rattle.gx_export.specs.Outputs.{Writes}
use Rattle.gx_export.specs.Texts.{author_items}
use Rattle.gx_model.specs.Export.{items_text}
use Rattle.gx_export.proofs.commands.write_authors.Goals as goal

-- a line's end goes to what follows
ended : (line rest : Bytes) → (line ++ 10 ∷ []) ++ rest ≡ line ++ (10 ∷ rest)
ended line rest = append_assoc line (10 ∷ []) rest

-- the lines in their pieces
author_text : (ref : Bytes) (mark : ℕ) (text : CommitText) → codes "commit " ++ (ref ++ (10 ∷ (codes "mark :" ++ (decimal mark ++ (10 ∷ (codes "author " ++ (text.author ++ (10 ∷ (codes "committer " ++ (text.committer ++ 10 ∷ [])))))))))) ≡ items_text (author_items ref mark text)
author_text ref mark text =
    let last = append-nil (text.committer ++ 10 ∷ []) in
    let committer = ended text.author (codes "committer " ++ ((text.committer ++ 10 ∷ []) ++ [])) ∙ ap (λ (x : Bytes). text.author ++ (10 ∷ (codes "committer " ++ x))) last in
    let author = ended (decimal mark) (codes "author " ++ ((text.author ++ 10 ∷ []) ++ (codes "committer " ++ ((text.committer ++ 10 ∷ []) ++ [])))) ∙ ap (λ (x : Bytes). decimal mark ++ (10 ∷ (codes "author " ++ x))) committer in
    let lines = codes "mark :" ++ ((decimal mark ++ 10 ∷ []) ++ (codes "author " ++ ((text.author ++ 10 ∷ []) ++ (codes "committer " ++ ((text.committer ++ 10 ∷ []) ++ []))))) in
    let first = ended ref lines ∙ ap (λ (x : Bytes). ref ++ (10 ∷ (codes "mark :" ++ x))) author in
    ap (λ (x : Bytes). codes "commit " ++ x) (sym first)

pub returns-clause-text : goal.returns-clause-text
returns-clause-text g c =
    let done = rw (c.as_slice.ensures, c.as_bytes.ensures.value, c.format.ensures.text, c.author.ensures, c.committer.ensures) at c.write_all.ensures.text in
    subst (λ t. Writes c.args.output.now c.write_all.new.self t c.write_all.result) (author_text c.args.branch.now c.args.mark c.args.commit.now.text) done
