-- A store text is one of what is read in it, and a text that is refused is that of no sound repository.
use Rattle.std.proofs.Common.{◌≡◌, ◌<◌, ◌^◌, length, Ok, Err, sym, ap, subst, ◌∙◌}
use Rattle.std.specs.Prelude.{◌≢◌, Result, IfOk, IfErr}
use Rattle.gx_model.specs.declared.objects.Kind.{Kind}
use Rattle.gx_model.specs.Texts.{Bytes}
use Rattle.gx_model.specs.Histories.{Records}
use Rattle.gx_model.specs.Stores.StoreText.{IsStoreText}
use Rattle.gx_model.specs.Stores.StoreReading.{store_of}
use Rattle.gx_model.specs.Laws.StoreLaws.{StoresAreRead}
use Rattle.gx_model.specs.declared.store_faults.FileFault.{FileFault}
use Rattle.gx_model.specs.declared.store_faults.FileFault.TheVariants.{OutOfMemory}
use Rattle.gx_lines.specs.Reads.{Reads}
use Rattle.gx_file.specs.Faults.{IsNoStoreText}
use Rattle.gx_file.proofs.Steps.{explained}

module _ (name : Kind → Bytes → Bytes) (law : StoresAreRead name) (text : Bytes) where
  -- What is read of a text has that text.
  pub text_of_read : {X : Type 0} (view : X → Records) (answer : Result X FileFault) → Reads view answer (store_of name text) → IfOk answer (λ x. IsStoreText text (view x))
  text_of_read view (Ok x) h = (law.only text (view x) h).1
  text_of_read view (Err fault) h = tt

  -- A text for which a fault is given is that of no sound repository.
  pub not_stored : (short : length text < 2 ^ 64) (fault : FileFault) → store_of name text ≡ Err fault → IsNoStoreText name text
  not_stored short fault e = λ version repository sound same.
      let fits = subst (λ t. length t < 2 ^ 64) same short in
      let read = law.read version repository sound fits in
      let both = sym e ∙ ap (store_of name) same ∙ read in
      absurd (cc)

  -- A text that is refused, but for want of memory, is that of no sound repository.
  pub refused : {X : Type 0} (view : X → Records) (answer : Result X FileFault) → length text < 2 ^ 64 → Reads view answer (store_of name text)
      → IfErr answer (λ why. why ≢ OutOfMemory → IsNoStoreText name text)
  refused view (Ok x) short h = tt
  refused view (Err fault) short h = λ other. not_stored short fault (explained fault (store_of name text) other h)
