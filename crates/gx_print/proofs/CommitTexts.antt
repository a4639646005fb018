-- The body of a commit: what stands before its message, and the message.
use Rattle.std.proofs.Common.{◌≡◌, ◌-◌, arith, sym, ap, ◌∙◌, [], ◌∷◌, ◌++◌, take, length, length-append, append_assoc, codes}
use Rattle.std.specs.List.{flat_map}
use Rattle.std.proofs.Math.Seq.{take-append_seam}
use Rattle.gx_model.specs.Objects.{CommitParts, commit_text, hex, line}
use Rattle.gx_model.specs.Texts.{Bytes}
use Rattle.gx_print.specs.Logs.{head_text}

-- a front, by the length of what stands behind it
pub front_of : (front behind : Bytes) → take (length (front ++ behind) - length behind) (front ++ behind) ≡ front
front_of front behind =
    let long = length-append front behind in
    let same : length (front ++ behind) - length behind ≡ length front = omega (arith, long) in
    ap (λ n. take n (front ++ behind)) same ∙ take-append_seam front behind

-- a commit's body is what stands before its message, and the message
pub head_and_message : (parts : CommitParts) → commit_text parts ≡ head_text parts ++ parts.text.message
head_and_message parts =
    let front = line (codes "tree") (hex parts.tree) ++ flat_map (λ name. line (codes "parent") (hex name)) parts.parents in
    let lines = line (codes "author") parts.text.author ++ line (codes "committer") parts.text.committer ++ parts.text.headers in
    let message = parts.text.message in
    sym (append_assoc front (lines ++ 10 ∷ []) message ∙ ap (λ x. front ++ x) (append_assoc lines (10 ∷ []) message))

-- what is put behind a word, digits and an LF
pub raw_text : (o0 o1 o2 o3 o4 word digits taken head shown : Bytes) → o0 ≡ [] → o1 ≡ o0 ++ word → o2 ≡ o1 ++ digits → o3 ≡ o2 ++ 10 ∷ [] → o4 ≡ o3 ++ (taken ++ shown) → taken ≡ head → o4 ≡ word ++ digits ++ 10 ∷ head ++ shown
raw_text o0 o1 o2 o3 o4 word digits taken head shown e0 e1 e2 e3 e4 t =
    e4 ∙ (λ i. e3 i ++ (t i ++ shown)) ∙ (λ i. (e2 i ++ 10 ∷ []) ++ (head ++ shown)) ∙ (λ i. ((e1 i ++ digits) ++ 10 ∷ []) ++ (head ++ shown))
    ∙ (λ i. (((e0 i ++ word) ++ digits) ++ 10 ∷ []) ++ (head ++ shown)) ∙ sym (append_assoc ((word ++ digits) ++ 10 ∷ []) head shown)
    ∙ ap (λ x. x ++ shown) (append_assoc (word ++ digits) (10 ∷ []) head)
