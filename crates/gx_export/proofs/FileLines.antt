-- The lines of files, one after the other.
use Rattle.std.proofs.Common.{◌≡◌, ◌≢◌, List, [], ◌∷◌, ◌++◌, map, refl, ap, ◌∙◌}
use Rattle.std.specs.List.{flat_map}
use Rattle.std.proofs.lemmas.Grind.{flat_map-append}
use Rattle.std.proofs.lemmas.List.{map-append}
use Rattle.gx_model.specs.declared.objects.Mode.{Mode}
use Rattle.gx_model.specs.declared.objects.Mode.TheVariants.{File, Exec, Link, Gitlink, Dir}
use Rattle.gx_model.specs.Texts.{Bytes}
use Rattle.gx_model.specs.Export.{change_items, dataref_in, dataref_text, file_change}
use Rattle.gx_model.specs.Histories.Files.{FileMap}
use Rattle.gx_model.specs.Records.HistoryOf.{Named, content_of, contents_of}
use Rattle.gx_model.specs.Streams.Items.{Item}
use Rattle.gx_model.specs.Texts.Paths.{Path, path_text, printed}
use Rattle.gx_model.specs.Histories.Values.{Value}
use Rattle.gx_export.specs.Texts.{file_items, file_line}

-- the lines of files, by the names of what they hold
abbrev pub lines_named : Named → List Value → FileMap Bytes → List Item
lines_named named ws names = file_items ws (contents_of named names)

pub lines_append : (named : Named) (ws : List Value) (xs ys : FileMap Bytes) → lines_named named ws (xs ++ ys) ≡ lines_named named ws xs ++ lines_named named ws ys
lines_append named ws xs ys =
    ap (file_items ws) (map-append (λ entry. (entry.0, (entry.1.0, content_of named entry.1.0 entry.1.1))) xs ys)
    ∙ ap (flat_map change_items) (map-append (file_change ws) (contents_of named xs) (contents_of named ys))
    ∙ flat_map-append change_items (map (file_change ws) (contents_of named xs)) (map (file_change ws) (contents_of named ys))

-- the line of one file
pub one_line : (named : Named) (ws : List Value) (path : Path) (mode : Mode) (n : Bytes) → mode ≢ Dir
    → lines_named named ws ((path, (mode, n)) ∷ []) ≡ file_line mode (dataref_text (dataref_in ws mode (content_of named mode n))) (printed (path_text path)) ∷ []
one_line named ws path File n d = refl
one_line named ws path Exec n d = refl
one_line named ws path Link n d = refl
one_line named ws path Gitlink n d = refl
one_line named ws path Dir n d = absurd (d refl)
