-- A piece behind the bytes of a text that came.
use Rattle.std.proofs.Common.{◌≡◌, ℕ, ◌+◌, ◌≤◌, ◌++◌, length, take, drop, ap, ◌∙◌}
use Rattle.std.proofs.Math.Seq.{take-add}
use Rattle.std.proofs.lemmas.List.{drop_at, length-take-le, take_at, take-append-le}
use Rattle.gx_model.specs.Texts.{Bytes}

-- what came then, where so many bytes of the piece count
pub came_behind : (text piece : Bytes) (came k count : ℕ) → came ≤ length text → count ≤ length piece → take (came + count) (take came text ++ (piece ++ drop k (drop came text))) ≡ take came text ++ take count piece
came_behind text piece came k count l m =
    let rest = drop k (drop came text) in
    let long = length-take-le came text l in
    take-add came count (take came text ++ (piece ++ rest)) ∙ ap (λ p. p ++ take count (drop came (take came text ++ (piece ++ rest)))) (take_at (take came text) (piece ++ rest) came long)
    ∙ ap (λ p. take came text ++ take count p) (drop_at (take came text) (piece ++ rest) came long) ∙ ap (λ p. take came text ++ p) (take-append-le count piece rest m)
