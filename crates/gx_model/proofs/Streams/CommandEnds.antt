-- Commands are read up to an end, with and without `feature done` and `done`.
use Rattle.std.proofs.Common.{◌≡◌, ℕ, ◌+◌, ◌-◌, Bool, true, false, cond, None, Some, List, [], ◌∷◌, length, refl, sym, ap, ◌∙◌, arith, append-nil}
use Rattle.std.specs.List.{flat_map, list_any, AllByRecursion}
use Rattle.gx_model.specs.declared.faults.Fault.TheVariants as faults
use Rattle.gx_model.specs.Streams.Items.{Finished}
use Rattle.gx_model.specs.Streams.Commands.{Command, Commands}
use Rattle.gx_model.specs.Streams.Commands as command
use Rattle.gx_model.specs.Streams.Grammar.{asks_done, commands_of, commands_within, fault_at_end, item_after_in, stops}
use Rattle.gx_model.specs.Export.{command_items}
use Rattle.gx_model.specs.Changes.{closed_by}
use Rattle.gx_model.specs.Laws.ExportLaws.{IsSpelled}
use Rattle.gx_model.proofs.Streams.ChangeItems.{stream}
use Rattle.gx_model.proofs.Streams.CommandItems.{Starts, all_items, all_listed, commands_read, read_before, with_all}
use Rattle.gx_model.proofs.Streams.SpelledItems.{AreItems, all_spelled, between_spelled}

none_asks : (cs : List Command) → AllByRecursion IsSpelled cs → list_any asks_done cs ≡ false
none_asks [] h = refl
none_asks (command.Blob b ∷ cs) h = none_asks cs h.1
none_asks (command.Commit c ∷ cs) h = none_asks cs h.1
none_asks (command.Tag t ∷ cs) h = none_asks cs h.1
none_asks (command.Reset r ∷ cs) h = none_asks cs h.1
none_asks (command.Asks f ∷ cs) h = absurd h.0
none_asks (command.Done ∷ cs) h = none_asks cs h.1
none_asks (command.Checkpoint ∷ cs) h = none_asks cs h.1
none_asks (command.Progress x ∷ cs) h = none_asks cs h.1
none_asks (command.OptionLine x ∷ cs) h = none_asks cs h.1

nothing_starts : Starts []
unfolding item_after_in
nothing_starts = record { no_from = refl; stays = refl }

stops_there : (n : ℕ) (before : List Command) → commands_within n before [] Finished ≡ stops (fault_at_end before Finished)
unfolding commands_within
stops_there n before = refl

-- without the two, the end of the items is the end
open_read : (cs : List Command) → AllByRecursion IsSpelled cs → commands_of (stream (flat_map command_items cs)) ≡ record { list = cs; fault = None }
open_read cs h =
    let is = flat_map command_items cs in
    let n = length is - length cs in
    let enough : length is ≡ length cs + n = omega (arith, all_items cs h) in
    ap (λ is. commands_within (length (flat_map command_items cs)) [] is Finished) (sym (append-nil is))
    ∙ read_before [] nothing_starts n (length is) [] cs enough h
    ∙ ap (with_all cs) (stops_there n cs ∙ ap (λ b. stops (cond b (Some faults.MissingDone) None)) (none_asks cs h))
    ∙ all_listed cs [] ∙ ap (λ (ds : List Command). record { list = ds; fault = None }) (append-nil cs)

pub closed_read : (closed : Bool) (cs : List Command) → AllByRecursion IsSpelled cs → commands_of (stream (flat_map command_items (closed_by closed cs))) ≡ record { list = closed_by closed cs; fault = None }
closed_read true cs h = commands_read cs h
closed_read false cs h = open_read cs h

pub closed_spelled : (closed : Bool) (cs : List Command) → AllByRecursion IsSpelled cs → AreItems (flat_map command_items (closed_by closed cs))
closed_spelled true cs h = between_spelled cs h
closed_spelled false cs h = all_spelled cs h
