use Rattle.std.proofs.Common.{◌≡◌, cond, Option, Some, refl, sym, subst}
use Rattle.std.specs.Prelude.{IfSome}
use Rattle.std.specs.Ordering.{is_eq}
use Rattle.std.specs.declared.cmp.Ordering.TheVariants.{Less, Equal, Greater}
use Rattle.gx_model.specs.Texts.{Bytes, byte_cmp}
use Rattle.gx_model.proofs.Records.SortedRefs.{same_text}
use Rattle.gx_tree.specs.Named.{NamedTree}
use Rattle.gx_tree.specs.Loaded.{IsLoaded}
use Rattle.gx_tree.proofs.loaded.LoadedTrees.enter.Goals as goal

-- what is found at m once d is entered for k
entered : (P : Bytes → NamedTree → Type 0) (k m : Bytes) (d : NamedTree) (o : Option NamedTree) → P k d → IfSome o (P m) → IfSome (cond (is_eq (byte_cmp k m)) (Some d) o) (P m)
entered P k m d o own others = elim (byte_cmp k m) as (λ b. byte_cmp k m ≡ b → IfSome (cond (is_eq b) (Some d) o) (P m)) [
  | Less ↦ λ e. others
  | Equal ↦ λ e. subst (λ x. P x d) (same_text k m e) own
  | Greater ↦ λ e. others
] refl

pub returns-clause-entered : goal.returns-clause-entered
returns-clause-entered g c = λ of rs loaded own n.
    subst (λ o. IfSome o (IsLoaded of rs n.bytes)) (sym (c.in_ok-insert.ensures.updates.0 n))
    (entered (IsLoaded of rs) c.args.name.now.bytes n.bytes c.args.directory _ own (loaded n))

pub same-directory : goal.same-directory
same-directory g c = refl

pub same-shared : goal.same-shared
same-shared g c = refl
