-- Records that grow stay the first, in their order.
use Rattle.std.proofs.Common.{◌≡◌, true, false, cond, List, [], ◌∷◌, ◌++◌, Option, Some, None, Result, Ok, Err, append_assoc, append-nil, refl, sym, ap, ◌∙◌}
use Rattle.gx_model.specs.Texts.{Bytes}
use Rattle.gx_model.specs.Histories.{Record}
use Rattle.gx_model.specs.Records.Growth.{put, put_all, put_under, record_named, same_object}
use Rattle.std.specs.Option.{option_and_then}
use Rattle.gx_object.specs.declared.name.Name.{Name}
use Rattle.gx_store.specs.declared.fault.StoreFault.{StoreFault}
use Rattle.gx_store.specs.declared.fault.StoreFault.TheVariants.{NameHeld, OutOfMemory}
use Rattle.gx_repo.specs.Additions.{Adds, AddsAll}
use Rattle.gx_repo.specs.Repositories.{Repository}
use Rattle.gx_import.specs.Standing.{Extends, OnlyAdds}

-- the same records
pub extended_same : (old new : List Record) → new ≡ old → Extends old new
extended_same old new e = ([], e ∙ sym (append-nil old))

-- records with more behind them, and with more behind these
pub extended_more : (old mid new : List Record) → Extends old mid → Extends mid new → Extends old new
extended_more old mid new h k = (h.0 ++ k.0, k.1 ∙ ap (λ rs. rs ++ k.0) h.1 ∙ append_assoc old h.0 k.0)

extended_put : (o : Option Record) (old : List Record) (r : Record) (new : List Record) → put_under o old r ≡ Some new → Extends old new
extended_put None old r new e = let same : old ++ r ∷ [] ≡ new = cc e in (r ∷ [], sym same)
extended_put (Some held) old r new e =
    elim (same_object held r) as (λ b. cond b (Some old) None ≡ Some new → Extends old new) [
      | true ↦ λ k. let same : old ≡ new = cc k in extended_same old new (sym same)
      | false ↦ λ k. absurd (cc k)
    ] e

extended_next : (old : List Record) (rs new : List Record) → ((mid : List Record) → put_all mid rs ≡ Some new → Extends mid new) → (o : Option (List Record)) → ((mid : List Record) → o ≡ Some mid → Extends old mid)
    → option_and_then (λ now. put_all now rs) o ≡ Some new → Extends old new
extended_next old rs new rest None one e = absurd (cc e)
extended_next old rs new rest (Some mid) one e = extended_more old mid new (one mid refl) (rest mid e)

extended_puts : (old : List Record) (rs new : List Record) → put_all old rs ≡ Some new → Extends old new
extended_puts old [] new e = let same : old ≡ new = cc e in extended_same old new (sym same)
extended_puts old (r ∷ rs) new e = extended_next old rs new (λ mid k. extended_puts mid rs new k) (put old r) (λ mid k. extended_put (record_named old r.name) old r mid k) e

-- by one record, or none
pub extended_one : (old new : List Record) (r : Record) (answer : Result Name StoreFault) → Adds old new r answer → Extends old new
extended_one old new r (Ok n) h = extended_put (record_named old r.name) old r new h.1
extended_one old new r (Err NameHeld) h = extended_same old new h.1
extended_one old new r (Err OutOfMemory) h = extended_same old new h

-- by some
pub extended_all : (old new rs : List Record) (called : Bytes) (answer : Result Name StoreFault) → AddsAll old new rs called answer → Extends old new
extended_all old new rs called (Ok n) h = extended_puts old rs new h.1
extended_all old new rs called (Err NameHeld) h = extended_same old new h.1
extended_all old new rs called (Err OutOfMemory) h = extended_same old new h

-- nothing changes
pub only_same : {N : Type 0} (repo : Repository N) → OnlyAdds repo repo
only_same repo = record { namer = refl; refs = refl; extends = extended_same repo.1.records repo.1.records refl }

-- what is added in two steps
pub only_more : {N : Type 0} (old mid new : Repository N) → OnlyAdds old mid → OnlyAdds mid new → OnlyAdds old new
only_more old mid new h k = record {
  namer = k.namer ∙ h.namer;
  refs = k.refs ∙ h.refs;
  extends = extended_more old.1.records mid.1.records new.1.records h.extends k.extends;
}
