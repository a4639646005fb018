use Rattle.gx_model.proofs.Stores.OneStore.{one_store}
use Rattle.gx_model.proofs.Stores.ReadStores.{only_stores, stores_read}
use Rattle.gx_model.proofs.store_laws.stores_are_read.Goals as goal

pub returns : goal.returns
returns c = λ name namer. record { read = stores_read name namer; only = only_stores name namer; one = one_store name namer }
