-- The bytes of a body that is offered.
use Rattle.gx_model.specs.Texts.{Bytes}
use Rattle.gx_store.specs.Bodies.{bytes_of}
use Rattle.gx_repo.specs.declared.offered.Offered.{Offered}
use Rattle.gx_repo.specs.declared.offered.Offered.TheVariants.{Own, Lent}

abbrev pub bytes_offered : {A : Type 0} → Offered A → Bytes
bytes_offered (Own body) = bytes_of body
bytes_offered (Lent bytes) = bytes.now
