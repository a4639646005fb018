use Rattle.std.proofs.Common.{◌≡◌, List, None, subst}
use Rattle.std.specs.Prelude.{IfErr, IfOk}
use Rattle.std.proofs.lemmas.Result.{err_from_is_err_and}
use Rattle.gx_growing.specs.GrowingText.{Row}
use Rattle.gx_growing_parts.specs.declared.runs.Run.{Run}
use Rattle.gx_listed.specs.Listings.{ListsAll}
use Rattle.gx_objects.specs.Answers.{OnlyUntold, Tells}
use Rattle.gx_look.specs.Listing.{AreRowsOf, EndsBeforeRuns, ListsRows, RefusesRows}
use Rattle.gx_look.specs.Looking.{place_at, told_by, told_rows}
use Rattle.gx_look.proofs.ListedTexts.{listing_tells, rows_untold, runs_untold}
use Rattle.gx_look.proofs.look.Look.listing.Goals as goal

pub returns-in_err-rows-clause-fault : goal.returns-in_err-rows-clause-fault
returns-in_err-rows-clause-fault g c =
    let p = err_from_is_err_and c.from_residual.result c.from_residual.ensures.1 in
    let it = c.self.inside in
    let told = g.S.ReadAt.text it.source in
    let fault = c.in_err-rows.field-0.0 in
    let refused = subst (λ (runs : List Run). EndsBeforeRuns told runs fault) c.as_slice.ensures.value c.in_err-rows.ensures.fault in
    rw (p.1, p.2) (λ same. subst (λ v. told_by (g.N.Namer.name_of v.0) v.1 ≡ None) c.self.view_is
    (runs_untold (g.N.Namer.name_of it.namer) (g.met.N.Namer.is_namer it.namer) told it.ends it.tail c.self.invariant fault refused same))

pub returns-clause-listed : goal.returns-clause-listed
returns-clause-listed g c =
    let it = c.self.inside in
    let told = g.S.ReadAt.text it.source in
    let rows = c.in_ok-rows.rows.items in
    let found = subst (λ (runs : List Run). AreRowsOf told runs rows) c.as_slice.ensures.value c.in_ok-rows.ensures.rows in
    let lists = subst (λ (z : List Row). IfOk c.list_rows.result (ListsRows told it.ends z)) c.as_slice-2.ensures.value c.list_rows.ensures.listed in
    subst (λ v. Tells (told_by (g.N.Namer.name_of v.0) v.1) (ListsAll (place_at (told_rows (g.N.Namer.name_of v.0) v.1))) c.list_rows.result) c.self.view_is
    (listing_tells (g.N.Namer.name_of it.namer) (g.met.N.Namer.is_namer it.namer) told it.ends it.tail c.self.invariant rows found c.list_rows.result lists)

pub returns-clause-fault : goal.returns-clause-fault
returns-clause-fault g c =
    let it = c.self.inside in
    let told = g.S.ReadAt.text it.source in
    let rows = c.in_ok-rows.rows.items in
    let found = subst (λ (runs : List Run). AreRowsOf told runs rows) c.as_slice.ensures.value c.in_ok-rows.ensures.rows in
    let refuses = subst (λ (z : List Row). IfErr c.list_rows.result (RefusesRows told it.ends z)) c.as_slice-2.ensures.value c.list_rows.ensures.fault in
    subst (λ v. OnlyUntold (told_by (g.N.Namer.name_of v.0) v.1) c.list_rows.result) c.self.view_is
    (rows_untold (g.N.Namer.name_of it.namer) (g.met.N.Namer.is_namer it.namer) told it.ends it.tail c.self.invariant rows found c.list_rows.result refuses)
