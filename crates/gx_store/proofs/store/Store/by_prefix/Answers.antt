use Rattle.std.proofs.Common.{◌≡◌, map, sym, ap, subst, ◌∙◌}
use Rattle.gx_model.specs.Records.Lookups.{records_begun_by}
use Rattle.gx_store.specs.Objects.{shown_stored}
use Rattle.gx_store.specs.Prefixes.{prefix_of}
use Rattle.gx_store.specs.declared.prefix.Prefix.TheVariants.{Absent}
use Rattle.gx_store.proofs.Picking.{names_are, none_begun, picks_records}
use Rattle.gx_store.proofs.store.Store.by_prefix.Goals as goal

pub between-requires-clause-names : goal.between-requires-clause-names
between-requires-clause-names g c = sym (names_are c.self.inside.objects.entries) ∙ c.self.invariant.0.names

pub returns-in-Some : goal.returns-in-Some
returns-in-Some g c =
    let es = c.self.inside.objects.entries in
    let ends = c.in-Some.ends in
    subst (λ v. c.between.result ≡ prefix_of (records_begun_by v.1 c.args.digits.now)) c.self.view_is
    (c.between.ensures ∙ picks_records c.args.digits.now ends.0 ends.1 c.in-Some.ensures.within es c.self.invariant.0.names)

pub returns-in-None : goal.returns-in-None
returns-in-None g c =
    subst (λ v. Absent ≡ prefix_of (records_begun_by v.1 c.args.digits.now)) c.self.view_is
    (ap prefix_of (sym (none_begun c.args.digits.now (map shown_stored c.self.inside.objects.entries) c.self.invariant.0.names c.in-None.ensures.none)))
