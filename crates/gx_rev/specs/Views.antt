-- Suffixes, range words and what is borrowed, as the model has them, without where they lie in memory.
use Rattle.std.specs.Prelude.{List, Option, map}
use Rattle.std.specs.Borrow.{Bor}
use Rattle.std.specs.Option.{option_map}
use Rattle.gx_model.specs.Texts.{Bytes}
use Rattle.gx_model.specs.Texts.Paths.{Path}
use Rattle.gx_model.specs.Revisions as model
use Rattle.gx_rev.specs.declared.suffix.Suffix.{Suffix}
use Rattle.gx_rev.specs.declared.suffix.Suffix.TheVariants.{Parent, Ancestor, Peeled, Itself, Commit, Blob, Tree, Tag}
use Rattle.gx_rev.specs.declared.range.Range.{Range}
use Rattle.gx_rev.specs.declared.range.Range.TheVariants as range

-- what is borrowed, where it is there
abbrev pub borrowed : {X : Type 0} → Option (Bor X) → Option X
borrowed it = option_map (λ x. x.now) it

abbrev pub shown_suffix : Suffix → model.Suffix
shown_suffix (Parent n) = model.parent n
shown_suffix (Ancestor n) = model.ancestor n
shown_suffix Peeled = model.peeled
shown_suffix Itself = model.itself
shown_suffix Commit = model.as_commit
shown_suffix Blob = model.as_blob
shown_suffix Tree = model.as_tree
shown_suffix Tag = model.as_tag

-- a base, suffixes and a path as they are held
abbrev pub shown_revision : Bytes → List Suffix → Option Path → model.Revision
shown_revision base suffixes path = record { base = base; suffixes = map shown_suffix suffixes; path = path }

abbrev pub shown_range : {A : Type 0} → Range A → model.RangeWord
shown_range (range.WithAncestors r) = model.WithAncestors r
shown_range (range.WithoutAncestors r) = model.WithoutAncestors r
shown_range (range.Between a b) = model.Between a b
shown_range (range.Apart a b) = model.Apart a b
shown_range (range.AllParents r) = model.AllParents r
shown_range (range.Alone r) = model.Alone r
shown_range (range.WithoutOne r n) = model.WithoutOne r n
