-- The head of a store text: what it refuses, and what it is where memory runs out behind it.
use Rattle.std.proofs.Common.{◌≡◌, codes, Ok, Err, refl, subst, sym}
use Rattle.std.specs.Prelude.{IsOk, Result}
use Rattle.gx_model.specs.declared.objects.Kind.{Kind}
use Rattle.gx_model.specs.declared.store_faults.FileFault.{FileFault}
use Rattle.gx_model.specs.declared.store_versions.Version.{Version}
use Rattle.gx_model.specs.Stores.StoreReading.{after_magic, store_of, stored_count}
use Rattle.gx_model.specs.Texts.{Bytes}
use Rattle.gx_file.specs.Wanting.{HasHead, RunsOut, WantsWhere}

-- What gives something is right.
pub right : {A E : Type 0} (r : Result A E) (x : A) → r ≡ Ok x → IsOk r
right r x e = subst (λ s. IsOk s) (sym e) refl

-- Want of memory where one thing holds is one where another holds that follows from it.
pub wants_less : {X : Type 0} (result : Result X FileFault) (P Q : Type 0) → (P → Q) → WantsWhere result P → WantsWhere result Q
wants_less (Ok x) P Q f h = tt
wants_less (Err e) P Q f h = λ w. f (h w)

module _ (name : Kind → Bytes → Bytes) (text : Bytes) where
  -- Where memory runs out, the head is right.
  pub has_head : RunsOut name text → HasHead text
  has_head r = (r.0, r.1, right (stored_count (codes "objects") r.0.1) r.2.0 r.2.1)

  -- What the first line is refused for, the text is.
  pub magic_refused : (fault : FileFault) → after_magic text ≡ Err fault → store_of name text ≡ Err fault
  unfolding store_of
  magic_refused fault e = rw e refl

  -- So is what the number of the records is refused for.
  pub count_refused : (start : Version × Bytes) (fault : FileFault) → after_magic text ≡ Ok start → stored_count (codes "objects") start.1 ≡ Err fault → store_of name text ≡ Err fault
  unfolding store_of
  count_refused start fault e k = rw (e, k) refl
