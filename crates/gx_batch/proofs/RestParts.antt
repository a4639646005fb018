-- What is left of a piece, from a place on.
use Rattle.std.proofs.Common.{◌≡◌, ℕ, ◌+◌, ◌-◌, ◌≤◌, [], ◌∷◌, ◌++◌, length, take, drop, slice_range, sym, ap, ◌∙◌, arith, length-append, append_assoc}
use Rattle.std.proofs.lemmas.List.{drop-drop, drop-take, drop_at, length-drop, length-take-le}
use Rattle.gx_model.specs.Texts.{Bytes}

-- nothing is left at the end
pub none_left : (piece : Bytes) (end : ℕ) → slice_range piece end end ≡ []
none_left piece end = let zero : end - end ≡ 0 = omega arith in ap (λ k. take k (drop end piece)) zero

-- what stands behind a byte
pub record IsLeft (piece after : Bytes) (end : ℕ) : Type 0 where
  pub within : length after ≤ end
  pub left : slice_range piece (end - length after) end ≡ after

pub left_behind : (piece front after : Bytes) (b at end : ℕ) → at ≤ end → end ≤ length piece → slice_range piece at end ≡ front ++ b ∷ after → IsLeft piece after end
left_behind piece front after b at end l m e =
    let n = length front + 1 in
    let more = end - at - n in
    let lined = front ++ b ∷ [] in
    let whole : slice_range piece at end ≡ lined ++ after = e ∙ sym (append_assoc front (b ∷ []) after) in
    let long : length (slice_range piece at end) ≡ end - at = length-take-le (end - at) (drop at piece) (omega (arith, length-drop at piece, m)) in
    let lines : length lined ≡ n = length-append front (b ∷ []) in
    let joined = length-append lined after in
    let same = ap length whole in
    let parts : n + more ≡ end - at = omega (arith, long, lines, joined, same) in
    let place : end - length after ≡ at + n = omega (arith, long, lines, joined, same, l) in
    let rest : end - (at + n) ≡ more = omega arith in record {
      within = omega (arith, long, lines, joined, same, l);
      left = ap (λ k. slice_range piece k end) place ∙ ap (λ k. take k (drop (at + n) piece)) rest ∙ ap (take more) (sym (drop-drop n at piece)) ∙ sym (drop-take n more (drop at piece)) ∙ ap (λ k. drop n (take k (drop at piece))) parts ∙ ap (drop n) whole ∙ drop_at lined after n lines;
    }
