use Rattle.std.proofs.Common.{◌≡◌, ◌≤◌, ◌∙◌, List, Ok, ap, map, subst, sym}
use Rattle.std.specs.Prelude.{IfSome, IsTrue}
use Rattle.std.specs.List.{AllByRecursion, list_all}
use Rattle.gx_model.specs.Faults.{IsFaultOf}
use Rattle.gx_model.specs.Records.Publishing.{published}
use Rattle.gx_model.specs.Texts.RefNames.{is_ref_name}
use Rattle.gx_repo.specs.Publishing.{fault_of}
use Rattle.gx_repo.specs.Refs.{shown_update}
use Rattle.gx_repo.specs.declared.publishing.RefChange.{RefChange}
use Rattle.gx_reached.specs.Damages.{IsBad}
use Rattle.gx_reached.specs.Reaching.{IsVisited, StandsSomewhere, targets_of}
use Rattle.gx_reached.proofs.Stepping.{told_alone}
use Rattle.gx_salvage_refs.specs.Salvaging.{ArePartedBy, IsLostBy, IsSavedOf}
use Rattle.gx_salvage_refs.specs.Saved.{AreOf, body_bytes}
use Rattle.gx_salvage_refs.specs.Taking.{AreUnsaved}
use Rattle.gx_salvage_refs.proofs.Losses.{all_lost_by}
use Rattle.gx_salvage_refs.proofs.SavedRefs.{all_named, kept_are_set, none_damaged, none_refused, saved_told, tips_told, untipped}
use Rattle.gx_salvage_refs.proofs.saving.salvage.Goals as goal

pub reached-requires-clause-tips : goal.reached-requires-clause-tips
reached-requires-clause-tips g c =
    let o = c.args.objects.now in
    let told = g.O.Objects.told o in
    let stands = g.O.Objects.stands o in
    let s = c.sound_if_told.ensures in
    subst (λ (refs : List RefChange). IfSome told (λ r. AllByRecursion (λ (tip : RefChange). StandsSomewhere r stands tip.target.bytes) refs)) (sym c.as_slice.ensures.value)
    (tips_told (g.O.Objects.name_of o) s.namer c.args.lines.now c.in_ok-refs.refs.items c.in_ok-refs.ensures told stands s.sound c.requires.lines)

pub reached-requires-clause-bad : goal.reached-requires-clause-bad
reached-requires-clause-bad g c = none_damaged (g.O.Objects.name_of c.args.objects.now) (g.O.Objects.told c.args.objects.now) c.new-bad.result c.new-bad.ensures

pub take_all-requires-clause-names : goal.take_all-requires-clause-names
take_all-requires-clause-names g c = c.requires.names ∙ ap (λ v. g.N.Namer.name_of v.0) (sym c.new-repo.ensures)

pub take_all-requires-clause-empty : goal.take_all-requires-clause-empty
take_all-requires-clause-empty g c = ap (λ v. v.1) c.new-repo.ensures

pub take_all-requires-clause-visited : goal.take_all-requires-clause-visited
take_all-requires-clause-visited g c =
    let o = c.args.objects.now in
    untipped (g.O.Objects.told o) (g.O.Objects.stands o) c.reached.new.bad (targets_of c.as_slice.result.now) c.in_ok-order.order.items c.in_ok-order.ensures.visited

pub take_all-requires-clause-bad : goal.take_all-requires-clause-bad
take_all-requires-clause-bad g c = c.in_ok-order.ensures.bad

pub part-requires : goal.part-requires
part-requires g c = record {
  names = subst (λ (refs : List RefChange). IsTrue (list_all (λ ref. is_ref_name ref.0) (map shown_update refs))) (sym c.as_slice-2.ensures.value)
      (all_named c.args.lines.now (map shown_update c.in_ok-refs.refs.items) c.requires.spelled c.in_ok-refs.ensures);
}

pub unreachable-requires : goal.unreachable-requires
unreachable-requires g c =
    let refs = c.in_ok-refs.refs.items in
    let old = c.take_all.new.repo.1 in
    let kept = c.in_ok-parted.parted.kept.items in
    let lost = c.in_ok-parted.parted.lost.items in
    let fault = c.in-Err.fault in
    let parted = subst (λ (rs : List RefChange). ArePartedBy old.records (map shown_update rs) (map shown_update kept) lost) c.as_slice-2.ensures.value c.in_ok-parted.ensures.parted in
    c.in_default.not-OutOfMemory (none_refused old c.take_all.ensures.refs (map shown_update refs) (map shown_update kept) lost parted fault
    (subst (λ (ks : List RefChange). IsFaultOf (fault_of fault) (published old (map shown_update ks))) c.as_slice-3.ensures.value c.in-Err.ensures.refs))

pub returns-in-Ok-clause-refs : goal.returns-in-Ok-clause-refs
returns-in-Ok-clause-refs g c =
    let refs = c.in_ok-refs.refs.items in
    let old = c.take_all.new.repo.1 in
    let now = c.publish.new.self.1 in
    let kept = c.in_ok-parted.parted.kept.items in
    let lost = c.in_ok-parted.parted.lost.items in
    let parted = subst (λ (rs : List RefChange). ArePartedBy old.records (map shown_update rs) (map shown_update kept) lost) c.as_slice-2.ensures.value c.in_ok-parted.ensures.parted in
    kept_are_set old c.take_all.ensures.refs (map shown_update refs) (map shown_update kept) lost parted c.args.lines.now c.in_ok-refs.ensures now c.publish.ensures.records
    (subst (λ (ks : List RefChange). published old (map shown_update ks) ≡ Ok now.refs) c.as_slice-3.ensures.value c.in-Ok.ensures.refs)

pub returns-in-Ok-clause-lost : goal.returns-in-Ok-clause-lost
returns-in-Ok-clause-lost g c =
    let told = g.O.Objects.told c.args.objects.now in
    let name = g.N.Namer.name_of c.args.namer in
    let rs = c.take_all.new.repo.1.records in
    let bad = c.take_all.new.bad in
    let lost = c.in_ok-parted.parted.lost.items in
    subst (λ rs. AllByRecursion (IsLostBy name rs) lost) (sym c.publish.ensures.records)
    (all_lost_by name told rs bad (subst (λ f. AreUnsaved f told rs bad) c.requires.names c.in_ok-take_all.ensures.bad) lost c.in_ok-parted.ensures.lost)

pub returns-in-Ok-clause-saved : goal.returns-in-Ok-clause-saved
returns-in-Ok-clause-saved g c =
    let o = c.args.objects.now in
    let told = g.O.Objects.told o in
    let stands = g.O.Objects.stands o in
    let s = c.sound_if_told.ensures in
    let refs = c.in_ok-refs.refs.items in
    let order = c.in_ok-order.order.items in
    let old = c.take_all.new.repo.1 in
    let now = c.publish.new.self.1 in
    let bad = c.reached.new.bad in
    let kept = c.in_ok-parted.parted.kept.items in
    let lost = c.in_ok-parted.parted.lost.items in
    let parted = subst (λ (rs : List RefChange). ArePartedBy old.records (map shown_update rs) (map shown_update kept) lost) c.as_slice-2.ensures.value c.in_ok-parted.ensures.parted in
    let visited = subst (λ (rs : List RefChange). IfSome told (λ r. IsVisited r stands (IsBad bad) (IsBad bad) (targets_of rs) order)) c.as_slice.ensures.value c.in_ok-order.ensures.visited in
    told_alone told (λ r. IsSavedOf r old lost) (λ r. IsSavedOf r now lost) (λ r h. record { records_are = subst (AreOf r) (sym c.publish.ensures.records) h.records_are; read = h.read })
    (saved_told (g.O.Objects.name_of o) s.namer c.args.lines.now refs c.in_ok-refs.ensures told stands order bad c.take_all.new.bad old lost s.sound c.requires.lines visited
    c.in_ok-take_all.ensures.settled c.in_ok-take_all.ensures.bad c.in_ok-parted.ensures.lost parted.lost_are)

pub returns-in-Ok-clause-within : goal.returns-in-Ok-clause-within
returns-in-Ok-clause-within g c = subst (λ rs. body_bytes rs ≤ c.args.most) (sym c.publish.ensures.records) c.in_ok-take_all.ensures.within
