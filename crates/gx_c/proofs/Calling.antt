-- A call of an open handle, by what it held and what it holds then.
use Rattle.std.proofs.Common.{◌≡◌, ℕ, Some, subst, sym, true}
use Rattle.gx_c.specs.Answers.{status_of}
use Rattle.gx_c.specs.Calls.{Calls, CallsSo}
use Rattle.gx_c.specs.declared.opened.Opened.{Opened}
use Rattle.gx_c.specs.declared.store.Store.{Store}

pub goes_over : (Goes : Opened → Opened → Type 0) {was now : Opened} (old new : Store) {status : ℕ} → old.held.value ≡ Some was → new.held.value ≡ Some now
    → Goes was now → status ≡ status_of now.answer.why → new.is_open ≡ true → Calls Goes old new status
goes_over Goes {was} old new {status} before after goes told is_open =
    subst (λ held. CallsSo Goes held new.held.value old new status) (sym before) (subst (λ held. CallsSo Goes (Some was) held old new status) (sym after) (goes, told, is_open))
