-- The steps of the walk, as facts of the repository that is told.
use Rattle.std.proofs.Common.{◌≡◌, ℕ, suc, Bool, true, false, sym, subst, ◌∙◌, arith, List, [], Option, Some, None}
use Rattle.std.specs.Prelude.{IfSome, IsTrue}
use Rattle.gx_model.specs.declared.objects.Kind.{Kind}
use Rattle.gx_model.specs.declared.objects.Kind.TheVariants as kinds
use Rattle.gx_model.specs.Histories.{Records}
use Rattle.gx_model.specs.Histories.Values.{Commit}
use Rattle.gx_model.specs.Objects.{IsNamer}
use Rattle.gx_model.specs.Records.Sound.{IsSound}
use Rattle.gx_model.specs.Texts.{Bytes}
use Rattle.gx_object.specs.declared.name.Name.{Name}
use Rattle.gx_rev.specs.Objects.{commit_at}
use Rattle.gx_ranges.specs.Fronts.{GoesDown, IsLast, LeadsToPlace, lead_to}
use Rattle.gx_ranges.specs.Walks.{FindsNext, IsWalk}
use Rattle.gx_ranges.proofs.Steps.{StandsInOrder}
use Rattle.gx_ranges.proofs.Walks.{comes_down, drops, ends, is_excluded_there, unwanted_down}

abbrev Tip : Type 0
Tip = ℕ × Name

-- each walk goes on so
abbrev pub KeepsWalks : (ℕ → ℕ) → List Tip → List Tip → List Tip → List Tip → Records → Type 0
KeepsWalks stands wanted unwanted new_wanted new_unwanted r =
    (included excluded : Commit → Bool) (told : List Commit) (number : ℕ) → IsWalk stands included excluded wanted unwanted told number r
    → (left : ℕ) × IsWalk stands included excluded new_wanted new_unwanted told left r

pub same_walks : (stands : ℕ → ℕ) (told : Option Records) (wanted unwanted : List Tip) → IfSome told (KeepsWalks stands wanted unwanted wanted unwanted)
same_walks stands None wanted unwanted = tt
same_walks stands (Some r) wanted unwanted = λ included excluded told number w. (number, w)

module _ (name : Kind → Bytes → Bytes) (namer : IsNamer name) (stands : ℕ → ℕ) (first_wanted first_unwanted : List Tip) where
  module _ (now rest unwanted new : List Tip) (last : Tip) (was : IsLast now rest last) where
    pub drops_it : (told : Option Records) → IfSome told (IsSound name) → IfSome told (StandsInOrder stands) → IfSome told (KeepsWalks stands first_wanted first_unwanted now unwanted)
        → IfSome told (GoesDown stands last.0 unwanted new) → IfSome told (λ r. LeadsToPlace stands last.0 unwanted r true) → IfSome told (KeepsWalks stands first_wanted first_unwanted rest new)
    drops_it None s o keeps down reached = tt
    drops_it (Some r) s o keeps down reached = λ included excluded told number w.
        let k = keeps included excluded told number w in
        let c = comes_down name namer r s stands o included excluded now rest unwanted told last was k.0 k.1 in
        let d = unwanted_down name namer r s stands o included excluded now rest unwanted told last was c.0 c.1 c.2 new down c.3 in
        let leads : IsTrue (lead_to r new (commit_at r last.1)) = down.same c.0 (commit_at r last.1) c.1 (let e = c.2 in omega arith) ∙ sym (reached c.0 (commit_at r last.1) c.1 c.2) in
        (suc c.0, drops name namer r s stands o included excluded now rest new told last was c.0 c.1 c.2 leads d)

    pub finds_it : (told : Option Records) → IfSome told (IsSound name) → IfSome told (StandsInOrder stands) → IfSome told (KeepsWalks stands first_wanted first_unwanted now unwanted)
        → IfSome told (GoesDown stands last.0 unwanted new) → IfSome told (λ r. LeadsToPlace stands last.0 unwanted r false) → IfSome told (λ r. FindsNext stands first_wanted first_unwanted rest new r (Some last))
    finds_it None s o keeps down reached = tt
    finds_it (Some r) s o keeps down reached = λ included excluded told number w.
        let k = keeps included excluded told number w in
        let c = comes_down name namer r s stands o included excluded now rest unwanted told last was k.0 k.1 in
        let d = unwanted_down name namer r s stands o included excluded now rest unwanted told last was c.0 c.1 c.2 new down c.3 in
        let e = is_excluded_there name namer r s stands o included excluded now rest unwanted told last was c.0 c.1 c.2 c.3 in
        (c.0, c.1, c.2, d, e ∙ sym (reached c.0 (commit_at r last.1) c.1 c.2))

  pub finds_none : (told : Option Records) (now unwanted : List Tip) → now ≡ [] → IfSome told (IsSound name) → IfSome told (StandsInOrder stands) → IfSome told (KeepsWalks stands first_wanted first_unwanted now unwanted)
      → IfSome told (λ r. FindsNext stands first_wanted first_unwanted now unwanted r None)
  finds_none None now unwanted e s o keeps = tt
  finds_none (Some r) now unwanted e s o keeps = λ included excluded told number w.
      let k = keeps included excluded told number w in
      ends name namer r s stands o included excluded unwanted told k.0 (subst (λ xs. IsWalk stands included excluded xs unwanted told k.0 r) e k.1)
