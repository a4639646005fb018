use Rattle.std.proofs.Common.{◌≡◌, List, drop}
use Rattle.std.specs.List.{list_all}
use Rattle.gx_model.specs.declared.objects.Kind.TheVariants as kinds
use Rattle.gx_model.specs.Histories.{Record}
use Rattle.gx_model.specs.Records.RecordFaults.{is_held}
use Rattle.gx_listed.specs.Listings.{HaveHeads}
use Rattle.gx_plain.proofs.checking.commit_room.Given as goal

abbrev pub invariant-loop-place : goal.invariant-loop-place
invariant-loop-place g l =
    (rs : List Record) → HaveHeads l.listing rs → list_all (is_held rs kinds.Commit) l.commit.parents ≡ list_all (is_held rs kinds.Commit) (drop l.place l.commit.parents)
