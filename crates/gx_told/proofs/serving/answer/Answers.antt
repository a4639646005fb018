use Rattle.std.proofs.Common.{Ok, map, refl, subst, sym}
use Rattle.gx_model.specs.Records.HistoryOf.{history_of}
use Rattle.gx_text.specs.Lent.{lent_texts}
use Rattle.gx_print.specs.Stored.{list_text, refs_text, show_text}
use Rattle.gx_told.specs.Answering.{IsAnswered}
use Rattle.gx_ref_filters.specs.Filters.{shown_filter}
use Rattle.gx_told.specs.Archiving.{tar_text}
use Rattle.gx_told.specs.Filtering.{kept_text}
use Rattle.gx_told.specs.Logging.{LogsFrom}
use Rattle.gx_told.specs.Printing.{Prints, PrintsText}
use Rattle.gx_told.proofs.Prints.{given_text}
use Rattle.gx_told.proofs.Tellings.{map_told}
use Rattle.gx_told.proofs.serving.answer.Goals as goal

pub returns-in-Show : goal.returns-in-Show
returns-in-Show g c =
    let told = g.O.Objects.told c.args.objects.now in
    let name = g.O.Objects.name_of c.args.objects.now in
    let coming = g.R.Source.coming c.args.source in
    let was = g.W.Sink.taken c.args.sink.now in
    let now = g.W.Sink.taken c.show.new.sink in
    let answer = c.show.result in
    map_told told (λ r. Prints (show_text name (history_of r) c.as_bytes.result.now) was now answer) (λ r. IsAnswered name c.args.question.now r coming was now answer)
    (λ r h. subst (λ q. IsAnswered name q r coming was now answer) (sym c.in-Show.is) (subst (λ word. Prints (show_text name (history_of r) word) was now answer) c.as_bytes.ensures.value h)) c.show.ensures

pub returns-in-Ls : goal.returns-in-Ls
returns-in-Ls g c =
    let told = g.O.Objects.told c.args.objects.now in
    let name = g.O.Objects.name_of c.args.objects.now in
    let coming = g.R.Source.coming c.args.source in
    let was = g.W.Sink.taken c.args.sink.now in
    let now = g.W.Sink.taken c.list.new.sink in
    let answer = c.list.result in
    map_told told (λ r. Prints (list_text name c.in-Ls.recursive (history_of r) c.as_bytes-in-Ls.result.now) was now answer) (λ r. IsAnswered name c.args.question.now r coming was now answer)
    (λ r h. subst (λ q. IsAnswered name q r coming was now answer) (sym c.in-Ls.is) (subst (λ word. Prints (list_text name c.in-Ls.recursive (history_of r) word) was now answer) c.as_bytes-in-Ls.ensures.value h)) c.list.ensures

pub returns-in-Archive : goal.returns-in-Archive
returns-in-Archive g c =
    let told = g.O.Objects.told c.args.objects.now in
    let name = g.O.Objects.name_of c.args.objects.now in
    let coming = g.R.Source.coming c.args.source in
    let was = g.W.Sink.taken c.args.sink.now in
    let now = g.W.Sink.taken c.print_archive.new.sink in
    let answer = c.print_archive.result in
    map_told told (λ r. Prints (tar_text name c.as_bytes-in-Archive.result.now (history_of r) c.as_bytes-in-Archive-2.result.now) was now answer) (λ r. IsAnswered name c.args.question.now r coming was now answer)
    (λ r h.
    let behind = subst (λ prefix. Prints (tar_text name prefix (history_of r) c.as_bytes-in-Archive-2.result.now) was now answer) c.as_bytes-in-Archive.ensures.value h in
    let asked = subst (λ word. Prints (tar_text name c.in-Archive.prefix.now (history_of r) word) was now answer) c.as_bytes-in-Archive-2.ensures.value behind in
    subst (λ q. IsAnswered name q r coming was now answer) (sym c.in-Archive.is) asked) c.print_archive.ensures

pub returns-in-Refs : goal.returns-in-Refs
returns-in-Refs g c =
    let told = g.O.Objects.told c.args.objects.now in
    let name = g.O.Objects.name_of c.args.objects.now in
    let coming = g.R.Source.coming c.args.source in
    let was = g.W.Sink.taken c.args.sink.now in
    let now = g.W.Sink.taken c.print_refs.new.sink in
    let answer = c.print_refs.result in
    map_told told (λ r. PrintsText (refs_text r) was now answer) (λ r. IsAnswered name c.args.question.now r coming was now answer)
    (λ r h. subst (λ q. IsAnswered name q r coming was now answer) (sym c.in-Refs.is) (given_text (Ok (refs_text r)) (refs_text r) was now answer refl h)) c.print_refs.ensures

pub returns-in-Log : goal.returns-in-Log
returns-in-Log g c =
    let told = g.O.Objects.told c.args.objects.now in
    let name = g.O.Objects.name_of c.args.objects.now in
    let coming = g.R.Source.coming c.args.source in
    let was = g.W.Sink.taken c.args.sink.now in
    let now = g.W.Sink.taken c.log_with_lines.new.sink in
    let answer = c.log_with_lines.result in
    let o = c.in-Log.options in
    map_told told (λ r. LogsFrom name o o.stdin r (lent_texts c.as_slice-in-Log.result.now) coming was now answer) (λ r. IsAnswered name c.args.question.now r coming was now answer)
    (λ r h. subst (λ q. IsAnswered name q r coming was now answer) (sym c.in-Log.is) (subst (λ words. LogsFrom name o o.stdin r (lent_texts words) coming was now answer) c.as_slice-in-Log.ensures.value h)) c.log_with_lines.ensures

pub returns-in-RefsThat : goal.returns-in-RefsThat
returns-in-RefsThat g c =
    let told = g.O.Objects.told c.args.objects.now in
    let name = g.O.Objects.name_of c.args.objects.now in
    let coming = g.R.Source.coming c.args.source in
    let was = g.W.Sink.taken c.args.sink.now in
    let now = g.W.Sink.taken c.print_kept.new.sink in
    let answer = c.print_kept.result in
    let filters = c.as_slice-in-RefsThat.result.now in
    let patterns = c.as_slice-in-RefsThat-2.result.now in
    map_told told (λ r. Prints (kept_text name (history_of r) (map shown_filter filters) (lent_texts patterns)) was now answer) (λ r. IsAnswered name c.args.question.now r coming was now answer)
    (λ r h.
    let behind = subst (λ fs. Prints (kept_text name (history_of r) (map shown_filter fs) (lent_texts patterns)) was now answer) c.as_slice-in-RefsThat.ensures.value h in
    let asked = subst (λ ps. Prints (kept_text name (history_of r) (map shown_filter c.in-RefsThat.filters.items) (lent_texts ps)) was now answer) c.as_slice-in-RefsThat-2.ensures.value behind in
    subst (λ q. IsAnswered name q r coming was now answer) (sym c.in-RefsThat.is) asked) c.print_kept.ensures
