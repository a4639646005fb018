-- Which shape a range word has, as tests of its first and of its last bytes tell it.
use Rattle.std.proofs.Common.{◌≡◌, ◌-◌, true, false, nat_eq, take, drop, length, Ok, codes, refl, ap, sym, ◌∙◌}
use Rattle.std.specs.Cmp.Lexicographic.{pointwise}
use Rattle.std.specs.List.{starts_with, ends_with}
use Rattle.std.proofs.lemmas.Cmp.{nat_list_eq_equiv}
use Rattle.gx_model.specs.Texts.{Bytes}
use Rattle.gx_model.specs.Faults.{◌>>=◌}
use Rattle.gx_model.specs.Revisions.{AllParents, Alone, Apart, Between, WithoutAncestors, dotted, minus_of, minus_or_alone, pair_of, revision_of, undotted}

module _ (x rest : Bytes) where
  -- a third dot, and none
  pub three_dots : (left : Bytes) → pointwise nat_eq (take 1 x) (codes ".") ≡ true → rest ≡ drop 1 x → dotted left x ≡ pair_of Apart left rest
  three_dots left t s =
      let is : starts_with nat_eq x (codes ".") ≡ true = nat_list_eq_equiv.symm (codes ".") (take 1 x) ∙ t in
      rw is (ap (pair_of Apart left) (sym s))

  -- a word that begins with `^`
  pub begins : pointwise nat_eq (take 1 x) (codes "^") ≡ true → rest ≡ drop 1 x → undotted x ≡ (revision_of rest >>= λ r. Ok (WithoutAncestors r))
  begins t s =
      let is : starts_with nat_eq x (codes "^") ≡ true = nat_list_eq_equiv.symm (codes "^") (take 1 x) ∙ t in
      rw is (ap (λ z. revision_of z >>= λ r. Ok (WithoutAncestors r)) (sym s))

  -- another that ends with `^@`
  pub ends_in_parents : pointwise nat_eq (take 1 x) (codes "^") ≡ false → pointwise nat_eq (drop (length x - 2) x) (codes "^@") ≡ true → rest ≡ take (length x - 2) x
      → undotted x ≡ (revision_of rest >>= λ r. Ok (AllParents r))
  ends_in_parents f t s =
      let not : starts_with nat_eq x (codes "^") ≡ false = nat_list_eq_equiv.symm (codes "^") (take 1 x) ∙ f in
      let is : ends_with nat_eq x (codes "^@") ≡ true = nat_list_eq_equiv.symm (codes "^@") (drop (length x - 2) x) ∙ t in
      rw (not, is) (ap (λ z. revision_of z >>= λ r. Ok (AllParents r)) (sym s))

  -- another that ends with `^!`
  pub ends_alone : pointwise nat_eq (take 1 x) (codes "^") ≡ false → pointwise nat_eq (drop (length x - 2) x) (codes "^@") ≡ false → pointwise nat_eq (drop (length x - 2) x) (codes "^!") ≡ true → rest ≡ take (length x - 2) x
      → undotted x ≡ (revision_of rest >>= λ r. Ok (Alone r))
  ends_alone f g t s =
      let not : starts_with nat_eq x (codes "^") ≡ false = nat_list_eq_equiv.symm (codes "^") (take 1 x) ∙ f in
      let nor : ends_with nat_eq x (codes "^@") ≡ false = nat_list_eq_equiv.symm (codes "^@") (drop (length x - 2) x) ∙ g in
      let is : ends_with nat_eq x (codes "^!") ≡ true = nat_list_eq_equiv.symm (codes "^!") (drop (length x - 2) x) ∙ t in
      rw (not, nor, is) (ap (λ z. revision_of z >>= λ r. Ok (Alone r)) (sym s))

module _ (x : Bytes) where
  pub two_dots : (left : Bytes) → pointwise nat_eq (take 1 x) (codes ".") ≡ false → dotted left x ≡ pair_of Between left x
  two_dots left f =
      let not : starts_with nat_eq x (codes ".") ≡ false = nat_list_eq_equiv.symm (codes ".") (take 1 x) ∙ f in
      rw not refl

  -- the others
  pub ends_otherwise : pointwise nat_eq (take 1 x) (codes "^") ≡ false → pointwise nat_eq (drop (length x - 2) x) (codes "^@") ≡ false → pointwise nat_eq (drop (length x - 2) x) (codes "^!") ≡ false
      → undotted x ≡ minus_or_alone x (minus_of x)
  ends_otherwise f g h =
      let not : starts_with nat_eq x (codes "^") ≡ false = nat_list_eq_equiv.symm (codes "^") (take 1 x) ∙ f in
      let nor : ends_with nat_eq x (codes "^@") ≡ false = nat_list_eq_equiv.symm (codes "^@") (drop (length x - 2) x) ∙ g in
      let none : ends_with nat_eq x (codes "^!") ≡ false = nat_list_eq_equiv.symm (codes "^!") (drop (length x - 2) x) ∙ h in
      rw (not, nor, none) refl
