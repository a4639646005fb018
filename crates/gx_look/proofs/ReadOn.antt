-- What was read of a text from a place on, and where a text ends before.
use Rattle.std.proofs.Common.{◌≡◌, ℕ, ◌+◌, ◌<◌, ◌≤◌, ◌++◌, [], length, take, drop, Option, Some, None, Ok, refl, sym, ap, subst, ◌∙◌, arith, replicate, append_assoc, ◌-◌}
use Rattle.std.proofs.Math.Seq.{drop-drop, take-add}
use Rattle.std.proofs.lemmas.List.{length-append, take_all, take_at}
use Rattle.gx_model.specs.Texts.{Bytes}
use Rattle.gx_at.specs.Reads.{ReadsAt, StandsAt, part}
use Rattle.gx_objects.specs.declared.fault.LookFault.{LookFault}
use Rattle.gx_objects.specs.declared.fault.LookFault.TheVariants.{Damaged}
use Rattle.gx_look.specs.Reading.{EndsBefore}

-- nothing stands at any place
pub nothing_stands : (told : Option Bytes) (at : ℕ) → StandsAt told at []
nothing_stands None at = tt
nothing_stands (Some text) at = refl

-- two parts of a text, one behind the other
pub both_stand : (told : Option Bytes) (at : ℕ) (front back : Bytes) → StandsAt told at front → StandsAt told (at + length front) back → StandsAt told at (front ++ back)
both_stand None at front back f b = tt
both_stand (Some text) at front back f b =
    (λ i. f i ++ b i)
    ∙ ap (λ z. take (length front) (drop at text) ++ take (length back) z) (sym (drop-drop (length front) at text))
    ∙ sym (take-add (length front) (length back) (drop at text))
    ∙ ap (part text at) (sym (length-append front back))

-- a read that gives nothing tells that the text ends
pub ends_here : (told : Option Bytes) (at done long : ℕ) (room : Bytes) (count : ℕ) → ReadsAt told (at + done) room (Ok count) → count ≡ 0 → done < long → EndsBefore told (at + long) Damaged
ends_here None at done long room count h e l = tt
ends_here (Some text) at done long room count h e l = λ same. let ends = h.1 e in omega arith

-- other faults say nothing of where a text ends
pub other_fault : (told : Option Bytes) (place : ℕ) (fault : LookFault) → (fault ≡ Damaged → ⊥) → EndsBefore told place fault
other_fault None place fault h = tt
other_fault (Some text) place fault h = λ same. absurd (h same)

-- a text that ends before a place ends before a later one
pub ends_before : (told : Option Bytes) (place later : ℕ) (fault : LookFault) → place ≤ later → EndsBefore told place fault → EndsBefore told later fault
ends_before None place later fault l h = tt
ends_before (Some text) place later fault l h = λ same. let ends = h same in omega arith

-- a room that grew by what was read
pub grown_room : (old made whole new post behind : Bytes) (done more n size : ℕ) → made ≡ take n old ++ replicate (n - done) 0 → whole ≡ made → done ≡ length old → n ≡ done + more → length new ≡ more → size ≡ n
    → take size ((take done whole ++ (new ++ post)) ++ behind) ≡ old ++ new
grown_room old made whole new post behind done more n size e w d m l k =
    let all : take n old ≡ old = take_all n old (omega arith) in
    let front : take done whole ≡ old = ap (take done) (w ∙ e ∙ ap (λ z. z ++ replicate (n - done) 0) all) ∙ take_at old (replicate (n - done) 0) done (sym d) in
    let long : length (old ++ new) ≡ size = length-append old new ∙ (let a = l in omega arith) in
    ap (λ z. take size ((z ++ (new ++ post)) ++ behind)) front
    ∙ ap (λ z. take size (z ++ behind)) (sym (append_assoc old new post))
    ∙ ap (take size) (append_assoc (old ++ new) post behind)
    ∙ take_at (old ++ new) (post ++ behind) size long

-- so it still stands in the text, up to a count
module _ (told : Option Bytes) (at count : ℕ) (old made whole new post behind : Bytes) (done more n size : ℕ) (e : made ≡ take n old ++ replicate (n - done) 0) (w : whole ≡ made) (d : done ≡ length old) (m : n ≡ done + more) (l : length new ≡ more) (k : size ≡ n) where
  pub grown_within : n ≤ count → length (take size ((take done whole ++ (new ++ post)) ++ behind)) ≤ count
  grown_within h =
      let a = length-append old new in
      subst (λ z. length z ≤ count) (sym (grown_room old made whole new post behind done more n size e w d m l k)) (omega arith)

  pub grown_there : StandsAt told at old → StandsAt told (at + done) new → StandsAt told at (take size ((take done whole ++ (new ++ post)) ++ behind))
  grown_there f b =
      subst (StandsAt told at) (sym (grown_room old made whole new post behind done more n size e w d m l k)) (both_stand told at old new f (subst (λ z. StandsAt told (at + z) new) d b))
