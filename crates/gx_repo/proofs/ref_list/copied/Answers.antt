use Rattle.std.proofs.Common.{◌≡◌, ℕ, ◌+◌, ◌<◌, ◌++◌, List, [], ◌∷◌, get_or, length, map, take, sym, ap, ◌∙◌}
use Rattle.std.specs.declared.vec.Vec.{Vec}
use Rattle.std.proofs.lemmas.List.{map-append, take_more}
use Rattle.gx_model.specs.Texts.{Bytes}
use Rattle.gx_repo.specs.Refs.{shown_ref}
use Rattle.gx_repo.specs.declared.refs.Ref.{Ref}
use Rattle.gx_repo.proofs.ref_list.copied.Goals as goal

-- the next of the refs, copied behind those before it
one_copied : {A : Type 0} (refs : List (Ref A)) (i : ℕ) (held : Ref A) (name : Vec ℕ A) (text : Bytes) (copies now : List (Ref A)) → i < length refs → held ≡ get_or refs i held
    → name.items ≡ text → text ≡ held.name.items → now ≡ copies ++ (record { name = name; object = held.object }) ∷ [] → map shown_ref copies ≡ map shown_ref (take i refs) → map shown_ref now ≡ map shown_ref (take (i + 1) refs)
one_copied {A} refs i held name text copies now lt is copied same pushed e =
    let made : Ref A = record { name = name; object = held.object } in
    ap (map shown_ref) pushed
    ∙ map-append shown_ref copies (made ∷ [])
    ∙ ap (λ n. map shown_ref copies ++ (n, held.object.bytes) ∷ []) (copied ∙ same)
    ∙ ap (λ rs. rs ++ shown_ref held ∷ []) e
    ∙ ap (λ (r : Ref A). map shown_ref (take i refs) ++ shown_ref r ∷ []) is
    ∙ sym (map-append shown_ref (take i refs) (get_or refs i held ∷ []))
    ∙ ap (map shown_ref) (sym (take_more refs i held lt))

pub loop-held-preserved : goal.loop-held-preserved
loop-held-preserved g c =
    one_copied c.args.refs.now c.loop-held.held-index c.held-item.result c.in_ok-name.name c.as_slice.result.now c.loop-held.copies.items c.push.new.self.items c.loop-held-test.true c.held-item.is c.in_ok-name.ensures.items
    c.as_slice.ensures.value c.in_ok-push.ensures.items c.loop-held.invariant
