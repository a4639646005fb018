-- Parts of a text, one behind the other.
use Rattle.std.proofs.Common.{◌≡◌, ◌+◌, ◌≤◌, ◌++◌, ℕ, length, take, drop, Option, Some, None, Ok, sym, ap, ◌∙◌}
use Rattle.std.proofs.lemmas.List.{length-append, length-take-le, drop-drop, take-append-le}
use Rattle.std.proofs.Math.Seq.{take-add, take-append-add}
use borrow.Rule.Slice.PartMut.{put_mid, post_of}
use Rattle.gx_model.specs.Texts.{Bytes}
use Rattle.gx_at.specs.Reads.{ReadsAt, StandsAt, part}

-- what stands in front of a place after a part was written there
front_after : (done count k : ℕ) (room new : Bytes) → done ≤ length room → count ≤ length new
    → take (done + count) (put_mid done k room new) ≡ take done room ++ take count new
front_after done count k room new d c =
    ap (λ n. take (n + count) (put_mid done k room new)) (sym (length-take-le done room d))
    ∙ take-append-add (take done room) (new ++ post_of done k room) count
    ∙ ap (λ x. take done room ++ x) (take-append-le count new (post_of done k room) c)

-- two parts of a text, one behind the other, are one part
parts_join : (text : Bytes) (at done count : ℕ) (left right : Bytes) → left ≡ part text at done → right ≡ part text (at + done) count
    → left ++ right ≡ part text at (done + count)
parts_join text at done count left right l r =
    ap (λ x. x ++ right) l
    ∙ ap (λ x. part text at done ++ x) r
    ∙ ap (λ x. take done (drop at text) ++ take count x) (sym (drop-drop done at text))
    ∙ sym (take-add done count (drop at text))

pub more_stands : (told : Option Bytes) (at done count k : ℕ) (room new : Bytes) → done ≤ length room → count ≤ length new
    → StandsAt told at (take done room) → ReadsAt told (at + done) new (Ok count) → StandsAt told at (take (done + count) (put_mid done k room new))
more_stands None at done count k room new d c s r = tt
more_stands (Some text) at done count k room new d c s r =
    let e = length-take-le done room d in
    let f = length-take-le count new c in
    let w = front_after done count k room new d c in
    let n = ap length w ∙ length-append (take done room) (take count new) in
    w ∙ parts_join text at done count (take done room) (take count new) (s ∙ ap (part text at) e) r.0 ∙ ap (part text at) (sym (n ∙ ap (λ m. m + length (take count new)) e ∙ ap (λ m. done + m) f))
