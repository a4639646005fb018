-- What a push over a small repository gives the whole one. Source: git-push(1), "--force-with-lease", "--force" and "--delete", and
-- git-fast-import(1).
use Rattle.std.specs.Prelude.{◌≡◌, ℕ, Bool, List, ◌++◌, length, Ok, Option, Some, None, ⊤}
use Rattle.std.specs.List.{flat_map}
use Rattle.gx_model.specs.declared.objects.Kind.{Kind}
use Rattle.gx_model.specs.Texts.{Bytes}
use Rattle.gx_model.specs.Histories.{Record, Records}
use Rattle.gx_model.specs.Records.Publishing.{Ref}
use Rattle.gx_model.specs.Records.Sound.{IsSound}
use Rattle.gx_model.specs.Stores.StoreText.{stored_ref}
use Rattle.gx_import.specs.declared.report.Report.{Report}
use Rattle.gx_growing_import.specs.Importing.{TakesText}
use Rattle.gx_push.specs.Pushes.{push_features, pushed}
use Rattle.gx_push.specs.Wants.{Wanted, wants_in}

-- The lines of a push hold for the refs of a repository, and the import of a text into it is accepted, with this progress and report.
-- It has these records behind those of the repository; and of the refs that it makes the push leaves those of these lines, so many.
pub record PushesWhole (name : Kind → Bytes → Bytes) (done : Bool) (lines : List Bytes) (whole : Records) (text : Bytes) (fails : Bool)
    (new : List Record) (refs : Bytes) (count : ℕ) (progress : Bytes) (report : Report) : Type 0 where
  pub wants : List Wanted
  pub wanted : wants_in whole.refs lines ≡ Ok wants
  pub made : List Ref
  pub takes : TakesText name (push_features done) whole (record { records = whole.records ++ new; refs = made }) text fails progress report
  pub sound : IsSound name (record { records = whole.records ++ new; refs = made })
  pub named : List Ref
  pub left : pushed whole.refs (record { records = whole.records ++ new; refs = made }) wants ≡ Ok named
  pub spelled : refs ≡ flat_map stored_ref named
  pub counted : count ≡ length named

-- of what tells no repository, nothing is claimed
abbrev pub PushesTold : (Kind → Bytes → Bytes) → Bool → List Bytes → Option Records → Bytes → Bool → List Record → Bytes → ℕ → Bytes → Report → Type 0
PushesTold name done lines None text fails new refs count progress report = ⊤
PushesTold name done lines (Some whole) text fails new refs count progress report = PushesWhole name done lines whole text fails new refs count progress report
