use Rattle.std.proofs.Common.{sym, ap, ◌∙◌, arith}
use Rattle.std.specs.Option.{option_map}
use Rattle.gx_model.specs.Objects.{Entry}
use Rattle.gx_model.specs.Texts.{Bytes}
use Rattle.gx_object.specs.Entries.{shown}
use Rattle.gx_object.proofs.Bodies.{entry_shorter}
use Rattle.gx_object.proofs.Readings.{followers_end, followers_improper, followers_next, followers_not, followers_stop, text_taken}
use Rattle.gx_object.proofs.tree_reader.TreeReader.read.Goals as goal

pub returns-then-is_empty-clause-end : goal.returns-then-is_empty-clause-end
returns-then-is_empty-clause-end c =
    let it = c.self.inside in
    sym (ap (λ v. v.entries) c.self.view_is) ∙ followers_end it.files it.before it.rest.now c.self.invariant (sym c.if-is_empty.ensures)

pub returns-in_default-clause-fault : goal.returns-in_default-clause-fault
returns-in_default-clause-fault c =
    let it = c.self.inside in
    sym (ap (λ v. v.entries) c.self.view_is) ∙ followers_stop it.files.above it.files.is_file (option_map shown it.before) it.rest.now (sym c.in_default.ensures.entry) (sym c.if-is_empty.ensures)

pub returns-then-not-found-clause-fault : goal.returns-then-not-found-clause-fault
returns-then-not-found-clause-fault c =
    let it = c.self.inside in
    let x : Entry × Bytes = (shown c.in-Some.found.entry, c.in-Some.found.rest.now) in
    sym (ap (λ v. v.entries) c.self.view_is) ∙ followers_improper it.files.above it.files.is_file (option_map shown it.before) it.rest.now x (sym c.in-Some.ensures.entry) (sym c.in-Some.ensures.proper ∙ c.if-not-found.true)

pub returns-then-not-follows-clause-fault : goal.returns-then-not-follows-clause-fault
returns-then-not-follows-clause-fault c =
    let it = c.self.inside in
    let new = c.follows.new.files in
    let x : Entry × Bytes = (shown c.in-Some.found.entry, c.in-Some.found.rest.now) in
    sym (ap (λ v. v.entries) c.self.view_is) ∙ followers_not it.files.above new.above it.files.is_file new.is_file (option_map shown it.before) it.rest.now x (sym c.in-Some.ensures.entry) c.if-not-follows.ensures.follows

pub slice_bounds-text-count : goal.slice_bounds-text-count
slice_bounds-text-count c = omega (arith, entry_shorter c.self.inside.rest.now (shown c.in-Some.found.entry, c.in-Some.found.rest.now) (sym c.in-Some.ensures.entry))

pub returns-clause-next : goal.returns-clause-next
returns-clause-next c =
    let it = c.self.inside in
    let new = c.follows.new.files in
    let x : Entry × Bytes = (shown c.in-Some.found.entry, c.in-Some.found.rest.now) in
    sym (ap (λ v. v.entries) c.self.view_is) ∙ followers_next it.files.above new.above it.files.is_file new.is_file (option_map shown it.before) it.rest.now x (sym c.in-Some.ensures.entry) c.if-not-follows.ensures.follows

pub returns-clause-text : goal.returns-clause-text
returns-clause-text c = text_taken c.self.inside.rest.now (shown c.in-Some.found.entry, c.in-Some.found.rest.now) (sym c.in-Some.ensures.entry) (sym c.in-Some.ensures.proper ∙ c.if-not-found.false)

pub returns-clause-most : goal.returns-clause-most
returns-clause-most c =
    let shorter = entry_shorter c.self.inside.rest.now (shown c.in-Some.found.entry, c.in-Some.found.rest.now) (sym c.in-Some.ensures.entry) in
    omega (arith, shorter, ap (λ v. v.most) c.self.view_is)
