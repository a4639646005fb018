-- What a put answers, by what is held under the name.
use Rattle.std.proofs.Common.{◌≡◌, Bool, true, false, cond, List, ◌∷◌, ◌++◌, [], Some, None, refl, ap, ◌∙◌}
use Rattle.std.specs.Cmp.Lexicographic.{bytes_decides}
use Rattle.std.proofs.lemmas.Bool.{and_parts}
use Rattle.gx_model.specs.declared.objects.Kind.{Kind}
use Rattle.gx_model.specs.declared.objects.Kind.TheVariants as kinds
use Rattle.gx_model.specs.Histories.{Record}
use Rattle.gx_model.specs.Records.Growth.{put, put_under, record_named, same_kind, same_object}

same_so : (k l : Kind) → same_kind k l ≡ true → k ≡ l
same_so kinds.Blob kinds.Blob h = refl
same_so kinds.Tree kinds.Tree h = refl
same_so kinds.Commit kinds.Commit h = refl
same_so kinds.Tag kinds.Tag h = refl
same_so kinds.Blob kinds.Tree h = cc
same_so kinds.Blob kinds.Commit h = cc
same_so kinds.Blob kinds.Tag h = cc
same_so kinds.Tree kinds.Blob h = cc
same_so kinds.Tree kinds.Commit h = cc
same_so kinds.Tree kinds.Tag h = cc
same_so kinds.Commit kinds.Blob h = cc
same_so kinds.Commit kinds.Tree h = cc
same_so kinds.Commit kinds.Tag h = cc
same_so kinds.Tag kinds.Blob h = cc
same_so kinds.Tag kinds.Tree h = cc
same_so kinds.Tag kinds.Commit h = cc

pub put_other : (rs : List Record) (new s : Record) → record_named rs new.name ≡ Some s → ((s.kind ≡ new.kind) × (s.body ≡ new.body) → ⊥) → put rs new ≡ None
put_other rs new s e apart = ap (λ o. put_under o rs new) e ∙ by (same_object s new) refl
  where
    by : (b : Bool) → same_object s new ≡ b → cond b (Some rs) None ≡ None
    by false h = refl
    by true h = let p = and_parts (same_kind s.kind new.kind) _ h in absurd (apart (same_so s.kind new.kind p.0, (bytes_decides s.body new.body).0 p.1))

pub put_free : (rs : List Record) (new : Record) → record_named rs new.name ≡ None → put rs new ≡ Some (rs ++ new ∷ [])
put_free rs new e = ap (λ o. put_under o rs new) e
