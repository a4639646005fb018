-- What is said of a repository that was read, said of the store that it was read from.
use Rattle.std.proofs.Common.{◌≡◌, sym, subst, Ok}
use Rattle.gx_model.specs.Histories.{Records}
use Rattle.gx_model.specs.Stores.StoreReading.{Stored}

-- of the repository and its namer, and so of the store and the namer that was given
pub of_read : {N : Type 0} (namer : N) (repository : N × Records) (stored : Stored Records) (P : N → Stored Records → Type 0)
    → repository.0 ≡ namer → stored ≡ Ok repository.1 → P repository.0 (Ok repository.1) → P namer stored
of_read namer repository stored P same read h = subst (P namer) (sym read) (subst (λ n. P n (Ok repository.1)) same h)
