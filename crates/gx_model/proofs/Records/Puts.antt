-- Putting records one after the other.
use Rattle.std.proofs.Common.{◌≡◌, ◌≤◌, true, false, cond, List, [], ◌∷◌, ◌++◌, length, take, Option, Some, None, refl, sym, ap, ◌∙◌, arith}
use Rattle.std.proofs.lemmas.List.{take-append-le, length-take, take_all, take-take}
use Rattle.gx_model.specs.Histories.{Record}
use Rattle.gx_model.specs.Records.Growth.{put, put_all, put_under, record_named, same_object}
use Rattle.std.specs.Option.{option_and_then}

after_put : (o : Option (List Record)) (ms ns : List Record) → ((s : List Record) → put_all s (ms ++ ns) ≡ option_and_then (λ s. put_all s ns) (put_all s ms)) → option_and_then (λ s. put_all s (ms ++ ns)) o ≡ option_and_then (λ s. put_all s ns) (option_and_then (λ s. put_all s ms) o)
after_put None ms ns h = refl
after_put (Some s) ms ns h = h s

pub put_all-append : (rs ms ns : List Record) → put_all rs (ms ++ ns) ≡ option_and_then (λ s. put_all s ns) (put_all rs ms)
put_all-append rs [] ns = refl
put_all-append rs (m ∷ ms) ns = after_put (put rs m) ms ns (λ s. put_all-append s ms ns)

pub put_all_more : (old mid new ms ns : List Record) → put_all old ms ≡ Some mid → put_all mid ns ≡ Some new → put_all old (ms ++ ns) ≡ Some new
put_all_more old mid new ms ns h k = put_all-append old ms ns ∙ ap (λ o. option_and_then (λ s. put_all s ns) o) h ∙ k

pub put_all_stops : (old mid ms ns more : List Record) → put_all old ms ≡ Some mid → put_all mid ns ≡ None → put_all old (ms ++ (ns ++ more)) ≡ None
put_all_stops old mid ms ns more h k =
    put_all-append old ms (ns ++ more) ∙ ap (λ o. option_and_then (λ s. put_all s (ns ++ more)) o) h
    ∙ put_all-append mid ns more ∙ ap (λ o. option_and_then (λ s. put_all s more) o) k

pub put_one : (rs new : List Record) (r : Record) → put rs r ≡ Some new → put_all rs (r ∷ []) ≡ Some new
put_one rs new r h = ap (λ o. option_and_then (λ s. put_all s []) o) h

pub put_none : (rs : List Record) (r : Record) → put rs r ≡ None → put_all rs (r ∷ []) ≡ None
put_none rs r h = ap (λ o. option_and_then (λ s. put_all s []) o) h

-- ---- the old records stay in front

pub front_itself : (rs : List Record) → take (length rs) rs ≡ rs
front_itself rs = take_all (length rs) rs (omega arith)

pub front_same : (old new : List Record) → new ≡ old → take (length old) new ≡ old
front_same old new e = ap (take (length old)) e ∙ front_itself old

pub front_trans : (old mid new : List Record) → take (length old) mid ≡ old → take (length mid) new ≡ mid → take (length old) new ≡ old
front_trans old mid new h k =
    let l : length old ≤ length mid = omega (arith, sym (length-take (length old) mid) ∙ ap length h) in
    sym (take-take (length old) (length mid) new l) ∙ ap (take (length old)) k ∙ h

front_under : (o : Option Record) (old new : List Record) (r : Record) → put_under o old r ≡ Some new → take (length old) new ≡ old
front_under None old new r h = let e : old ++ r ∷ [] ≡ new = cc in ap (take (length old)) (sym e) ∙ take-append-le (length old) old (r ∷ []) (omega arith) ∙ front_itself old
front_under (Some s) old new r h = elim (same_object s r) as (λ b. cond b (Some old) None ≡ Some new → take (length old) new ≡ old) [
  | true ↦ λ k. let e : new ≡ old = cc in front_same old new e
  | false ↦ λ k. cc
] h

pub front_put : (old new : List Record) (r : Record) → put old r ≡ Some new → take (length old) new ≡ old
front_put old new r h = front_under (record_named old r.name) old new r h
