use Rattle.std.proofs.Common.{◌≡◌, ◌<◌, ◌∙◌, length, slice_range, ap, sym, subst, arith}
use Rattle.std.specs.Prelude.{slice_index_or}
use Rattle.gx_export.specs.FileTexts.{IsFileLine, IsKept, IsLineIn}
use Rattle.gx_export.proofs.Keeping.{all_item, found_line, some_mapped}
use Rattle.gx_export.proofs.file_lines.earlier_line.Goals as goal

pub returns : goal.returns
returns g c = λ name r ws h.
    let e = c.args.entry.now in
    let text = c.args.text.now in
    let path = c.args.path.now in
    let before = c.args.opened.now.before in
    let d = c.index-directories-opened.result in
    let within : before < length c.args.directories.now = omega (arith, c.if-opened-directories.false) in
    let item = all_item (IsKept name r ws text) c.args.directories.now before d within c.index-directories-opened.is h in
    let own = slice_range text d.start d.end in
    let line = c.in_ok-line.line in
    let place = c.next_line.new.passed in
    let some : place < length d.files.items = subst (λ lines. place < length lines) c.deref.ensures.value c.in_ok-line.ensures.stands.0 in
    let here : line ≡ slice_index_or d.files.items place line = subst (λ lines. line ≡ slice_index_or lines place line) c.deref.ensures.value c.in_ok-line.ensures.stands.1 in
    let found = all_item (IsFileLine r ws d.path.items own) d.files.items place line some here item.lines.each in
    let known = found_line r ws d.path.items path own line e (c.has_path.ensures c.if-not-has_path.false) c.in_ok-line.ensures.mode c.in_ok-line.ensures.component c.in_ok-line.ensures.name found in
    some_mapped (λ part. part.now ≡ slice_range c.in_ok-own.own.now line.start line.end) (λ part. IsLineIn r ws path e part.now) c.part_of-2.result
    (λ part q. subst (IsLineIn r ws path e) (sym (q ∙ ap (λ t. slice_range t line.start line.end) c.in_ok-own.ensures)) known) c.part_of-2.ensures
