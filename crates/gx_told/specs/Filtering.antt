-- What is printed of refs that pass filters. Source: git-for-each-ref(1), and git-show-ref(1).
use Rattle.std.specs.Prelude.{List, map, Ok}
use Rattle.std.specs.List.{flat_map}
use Rattle.gx_model.specs.declared.objects.Kind.{Kind}
use Rattle.gx_model.specs.Faults.{◌>>=◌}
use Rattle.gx_model.specs.Histories.{History, Target, value_at}
use Rattle.gx_model.specs.Records.{name_of}
use Rattle.gx_model.specs.Stores.StoreText.{stored_ref}
use Rattle.gx_model.specs.Texts.{Bytes}
use Rattle.gx_print.specs.Stored.{Printed, all_words}
use Rattle.gx_ref_filters.specs.Filters.{Filter, kept_refs}

-- the lines of refs, by their names and their objects' names
abbrev pub shown_text : List (Bytes × Bytes) → Bytes
shown_text refs = flat_map stored_ref refs

module _ (name : Kind → Bytes → Bytes) where
  -- a ref's name, and that of its object
  abbrev pub named_ref : Bytes × Target → Bytes × Bytes
  named_ref ref = (ref.0, name_of name (value_at ref.1))

  -- the lines of the refs that pass filters and match patterns, or the filter that is refused
  abbrev pub kept_text : History → List Filter → List Bytes → Printed
  kept_text h filters patterns = all_words (kept_refs name h filters patterns >>= λ refs. Ok (shown_text (map named_ref refs)))
