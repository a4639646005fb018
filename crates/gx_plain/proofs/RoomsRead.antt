-- What was read of a text into a room, and where a text ends before.
use Rattle.std.proofs.Common.{◌≡◌, ◌≢◌, ℕ, ◌+◌, ◌-◌, ◌++◌, length, replicate, take, drop, append_assoc, Option, Some, None, sym, ap, ◌∙◌, arith}
use Rattle.std.specs.Prelude.{Bool, true, false, not}
use Rattle.std.proofs.Math.Seq.{drop-append_seam, drop-drop, take-add}
use Rattle.std.proofs.lemmas.List.{length-append, length-drop, take_all, take_at}
use Rattle.gx_model.specs.Texts.{Bytes, same_bytes}
use Rattle.gx_model.proofs.Texts.PathTests.{is_same, is_true}
use Rattle.gx_at.specs.Reads.{StandsAt, part}
use Rattle.gx_objects.specs.declared.fault.LookFault.{LookFault}
use Rattle.gx_objects.specs.declared.fault.LookFault.TheVariants.{Damaged}
use Rattle.gx_look.specs.Reading.{EndsBefore}

-- two parts of a text, one behind the other
pub both_stand : (told : Option Bytes) (at : ℕ) (front back : Bytes) → StandsAt told at front → StandsAt told (at + length front) back → StandsAt told at (front ++ back)
both_stand None at front back f b = tt
both_stand (Some text) at front back f b =
    (λ i. f i ++ b i)
    ∙ ap (λ z. take (length front) (drop at text) ++ take (length back) z) (sym (drop-drop (length front) at text))
    ∙ sym (take-add (length front) (length back) (drop at text))
    ∙ ap (part text at) (sym (length-append front back))

-- other faults say nothing of where a text ends
pub other_fault : (told : Option Bytes) (place : ℕ) (fault : LookFault) → (fault ≡ Damaged → ⊥) → EndsBefore told place fault
other_fault None place fault h = tt
other_fault (Some text) place fault h = λ same. absurd (h same)

-- a room that grew by what was read
pub grown_room : (old made whole new post behind : Bytes) (done more n size : ℕ) → made ≡ take n old ++ replicate (n - done) 0 → whole ≡ made → done ≡ length old → n ≡ done + more → length new ≡ more → size ≡ n
    → take size ((take done whole ++ (new ++ post)) ++ behind) ≡ old ++ new
grown_room old made whole new post behind done more n size e w d m l k =
    let all : take n old ≡ old = take_all n old (omega arith) in
    let front : take done whole ≡ old = ap (take done) (w ∙ e ∙ ap (λ z. z ++ replicate (n - done) 0) all) ∙ take_at old (replicate (n - done) 0) done (sym d) in
    let long : length (old ++ new) ≡ size = length-append old new ∙ (let a = l in omega arith) in
    ap (λ z. take size ((z ++ (new ++ post)) ++ behind)) front
    ∙ ap (λ z. take size (z ++ behind)) (sym (append_assoc old new post))
    ∙ ap (take size) (append_assoc (old ++ new) post behind)
    ∙ take_at (old ++ new) (post ++ behind) size long

-- a slice from a place on is what stands behind the place
pub from_place : (n : ℕ) (text : Bytes) → take (length text - n) (drop n text) ≡ drop n text
from_place n text = let l = length-drop n text in take_all (length text - n) (drop n text) (omega arith)

-- what stands at the end of a text stands where the text is so much longer
pub end_there : (text front end : Bytes) → text ≡ front ++ end → drop (length text - length end) text ≡ end
end_there text front end e =
    let a = ap length e ∙ length-append front end in
    let b : length text - length end ≡ length front = omega arith in
    (λ i. drop (b i) (e i)) ∙ drop-append_seam front end

-- bytes that are equal aren't told apart
pub told_apart : (x y : Bytes) (b : Bool) → b ≡ not (same_bytes x y) → b ≡ true → x ≢ y
told_apart x y b e t = λ same.
    let one = is_true _ (is_same x y same) in
    let l : not (same_bytes x y) ≡ false = ap not one in
    let m = sym t ∙ e ∙ l in
    cc
