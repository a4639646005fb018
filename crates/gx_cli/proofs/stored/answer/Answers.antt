use Rattle.std.proofs.Common.{subst, sym}
use Rattle.gx_model.specs.Records.HistoryOf.{history_of}
use Rattle.gx_text.specs.Lent.{lent_texts}
use Rattle.gx_cli.specs.Answers.{Prints}
use Rattle.gx_print.specs.Listings.{text_of_word}
use Rattle.gx_cli.specs.Logs.{LogsFrom}
use Rattle.gx_cli.specs.Serving.{IsAnswered}
use Rattle.gx_print.specs.Stored.{list_text, show_text}
use Rattle.gx_cli.specs.Archived.{tar_text}
use Rattle.gx_cli.proofs.StoredAnswers.{shows_printed}
use Rattle.gx_cli.proofs.stored.answer.Goals as goal

pub returns-in-Show : goal.returns-in-Show
returns-in-Show g c =
    let r = c.args.repo.now in
    let name = g.N.Namer.name_of r.0 in
    let was = g.W.Sink.taken c.args.sink.now in
    let now = g.W.Sink.taken c.show.new.sink in
    let printed = shows_printed (text_of_word name (history_of r.1) c.as_bytes.result.now) was now c.show.result c.show.ensures in
    let asked = subst (λ word. Prints (show_text name (history_of r.1) word) was now c.show.result) c.as_bytes.ensures.value printed in
    subst (λ q. IsAnswered name q r.1 (g.R.Source.coming c.args.source) was now c.show.result) (sym c.in-Show.is) asked

pub returns-in-Ls : goal.returns-in-Ls
returns-in-Ls g c =
    let r = c.args.repo.now in
    let name = g.N.Namer.name_of r.0 in
    let was = g.W.Sink.taken c.args.sink.now in
    let now = g.W.Sink.taken c.list.new.sink in
    let asked = subst (λ word. Prints (list_text name c.in-Ls.recursive (history_of r.1) word) was now c.list.result) c.as_bytes-in-Ls.ensures.value c.list.ensures in
    subst (λ q. IsAnswered name q r.1 (g.R.Source.coming c.args.source) was now c.list.result) (sym c.in-Ls.is) asked

pub returns-in-Archive : goal.returns-in-Archive
returns-in-Archive g c =
    let r = c.args.repo.now in
    let name = g.N.Namer.name_of r.0 in
    let was = g.W.Sink.taken c.args.sink.now in
    let now = g.W.Sink.taken c.print_archive.new.sink in
    let behind = subst (λ prefix. Prints (tar_text name prefix (history_of r.1) c.as_bytes-in-Archive-2.result.now) was now c.print_archive.result) c.as_bytes-in-Archive.ensures.value c.print_archive.ensures in
    let asked = subst (λ word. Prints (tar_text name c.in-Archive.prefix.now (history_of r.1) word) was now c.print_archive.result) c.as_bytes-in-Archive-2.ensures.value behind in
    subst (λ q. IsAnswered name q r.1 (g.R.Source.coming c.args.source) was now c.print_archive.result) (sym c.in-Archive.is) asked

pub returns-in-Refs : goal.returns-in-Refs
returns-in-Refs g c =
    let r = c.args.repo.now in
    let name = g.N.Namer.name_of r.0 in
    let was = g.W.Sink.taken c.args.sink.now in
    let now = g.W.Sink.taken c.print_refs.new.sink in
    let asked = c.print_refs.ensures in
    subst (λ q. IsAnswered name q r.1 (g.R.Source.coming c.args.source) was now c.print_refs.result) (sym c.in-Refs.is) asked

pub returns-in-Log : goal.returns-in-Log
returns-in-Log g c =
    let r = c.args.repo.now in
    let name = g.N.Namer.name_of r.0 in
    let was = g.W.Sink.taken c.args.sink.now in
    let now = g.W.Sink.taken c.log_with_lines.new.sink in
    let asked = subst (λ words. LogsFrom name c.in-Log.options c.in-Log.options.stdin r.1 (lent_texts words) (g.R.Source.coming c.args.source) was now c.log_with_lines.result) c.as_slice-in-Log.ensures.value c.log_with_lines.ensures in
    subst (λ q. IsAnswered name q r.1 (g.R.Source.coming c.args.source) was now c.log_with_lines.result) (sym c.in-Log.is) asked

pub returns-in-Export : goal.returns-in-Export
returns-in-Export g c =
    let r = c.args.repo.now in
    let name = g.N.Namer.name_of r.0 in
    let was = g.W.Sink.taken c.args.sink.now in
    let now = g.W.Sink.taken c.send_export.new.sink in
    let asked = c.send_export.ensures in
    subst (λ q. IsAnswered name q r.1 (g.R.Source.coming c.args.source) was now c.send_export.result) (sym c.in-Export.is) asked
