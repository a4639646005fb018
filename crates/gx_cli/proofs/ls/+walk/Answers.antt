use Rattle.std.proofs.Common.{◌≡◌, ◌+◌, ◌*◌, ◌-◌, ◌<◌, ◌≤◌, ◌∙◌, true, false, [], ◌∷◌, ◌++◌, length, length-append, refl, sym, ap, subst, arith, Err}
use Rattle.std.specs.List.{AllByRecursion, flat_map}
use Rattle.std.proofs.lemmas.Result.{err_from_is_err_and}
use Rattle.gx_model.specs.Objects.{is_dir}
use Rattle.gx_model.specs.Records.{entries}
use Rattle.gx_model.specs.Texts.Sinks.{Took}
use Rattle.gx_model.proofs.Texts.SentTexts.{IsLeft, all_left, less_left}
use Rattle.gx_object.specs.Entries.{shown}
use Rattle.gx_print.specs.Listings.{entry_line}
use Rattle.gx_cli.specs.Sending.{PrintsText}
use Rattle.gx_print.specs.WalkedFiles.{HavePaths, IsWithin, files_in, line_below}
use Rattle.gx_cli.proofs.SentLines.{cut_short}
use Rattle.gx_print.proofs.WalkedFiles.{dir_lines, dir_paths, file_lines, inner, is_dir_mode, lines_of, tree_lines, tree_paths, tree_within}
use Rattle.gx_cli.proofs.ls.+walk.Goals.{print_entry-then-is_dir+in_ok-push+in_ok-print_below, print_entry-else-is_dir+in_ok-print_at}
use Rattle.gx_cli.proofs.ls.+walk.Goals as goal

pub print_below-entries_of-entry-items-requires : goal.print_below-entries_of-entry-items-requires
print_below-entries_of-entry-items-requires g t c = c.requires.0

pub print_below-loop-entry-init : goal.print_below-loop-entry-init
print_below-loop-entry-init g t c =
    let name = g.N.Namer.name_of c.args.repo.now.0 in
    let namer = g.met.N.Namer.is_namer c.args.repo.now.0 in
    let r = c.args.repo.now.1 in
    let n = c.args.tree.now.bytes in
    let front = c.args.path.now.items in
    let was = g.W.Sink.taken c.args.sink.now in
    let whole = flat_map (line_below front) (files_in name r n) in
    let same : c.into_iter-entry-iterator.result ≡ entries name (files_in name r n) = c.into_iter-entry-iterator.ensures.into_iter_gives ∙ c.entries_of-entry-items.ensures.files in
    let lines = tree_lines name namer r c.sound.ensures n c.requires.0 front ∙ ap (flat_map (lines_of name r front)) (sym same) in
    record {
      path = refl;
      left = subst (IsLeft whole was was) lines (all_left whole was);
      entries = subst (AllByRecursion (IsWithin name r front)) (sym same) (tree_within name namer r c.sound.ensures n c.requires.0 front c.requires.1);
    }

pub print_below-loop-entry-preserved : goal.print_below-loop-entry-preserved
print_below-loop-entry-preserved g t c =
    let name = g.N.Namer.name_of c.args.repo.now.0 in
    let r = c.args.repo.now.1 in
    let front = c.args.path.now.items in
    let was = g.W.Sink.taken c.args.sink.now in
    let mid = g.W.Sink.taken c.loop-entry.sink in
    let now = g.W.Sink.taken c.print_entry.new.sink in
    let whole = flat_map (line_below front) (files_in name r c.args.tree.now.bytes) in
    let e = shown c.in-Some.entry in
    let left = c.next.new.self in
    let inv = c.loop-entry.invariant in
    let ahead = subst (λ es. IsLeft whole was mid (flat_map (lines_of name r front) es)) c.in-Some.ensures.steps inv.left in
    let sent = subst (λ f. Took mid now (lines_of name r f e)) inv.path c.in_ok-print_entry.ensures.lines in
    record {
      path = c.in_ok-print_entry.ensures.path ∙ inv.path;
      left = less_left whole was mid now (lines_of name r front e) (flat_map (lines_of name r front) left) ahead sent;
      entries = (subst (AllByRecursion (IsWithin name r front)) c.in-Some.ensures.steps inv.entries).1;
    }

pub print_below-returns-in_err-print_entry-clause-lines : goal.print_below-returns-in_err-print_entry-clause-lines
print_below-returns-in_err-print_entry-clause-lines g t c =
    let p = err_from_is_err_and c.from_residual.result c.from_residual.ensures.1 in
    let name = g.N.Namer.name_of c.args.repo.now.0 in
    let r = c.args.repo.now.1 in
    let front = c.args.path.now.items in
    let was = g.W.Sink.taken c.args.sink.now in
    let mid = g.W.Sink.taken c.loop-entry.sink in
    let now = g.W.Sink.taken c.print_entry.new.sink in
    let whole = flat_map (line_below front) (files_in name r c.args.tree.now.bytes) in
    let fault = c.in_err-print_entry.field-0.0 in
    let e = shown c.in-Some.entry in
    let inv = c.loop-entry.invariant in
    let ahead = subst (λ es. IsLeft whole was mid (flat_map (lines_of name r front) es)) c.in-Some.ensures.steps inv.left in
    let stops = subst (λ f. PrintsText (lines_of name r f e) mid now (Err fault)) inv.path c.in_err-print_entry.ensures.lines in
    rw (p.1, p.2) (cut_short was mid now whole (lines_of name r front e) (flat_map (lines_of name r front) c.next.new.self) fault ahead stops)

pub print_entry-print_below-requires : goal.print_entry-print_below-requires
print_entry-print_below-requires g t c =
    let name = g.N.Namer.name_of c.args.repo.now.0 in
    let namer = g.met.N.Namer.is_namer c.args.repo.now.0 in
    let r = c.args.repo.now.1 in
    let front = c.args.path.now.items in
    let e = shown c.args.entry.now in
    let dir : is_dir e.mode ≡ true = sym c.is_dir.ensures ∙ c.if-is_dir.true in
    let held = c.requires.tree (is_dir_mode e.mode dir) in
    let paths = dir_paths name r front e dir (tree_paths name namer r c.sound.ensures e.name held).0 c.requires in
    let path : c.push.new.self.items ≡ inner name r front e = c.in_ok-push.ensures.items ∙ ap (λ x. x ++ 47 ∷ []) c.in_ok-extend_from_slice.ensures.items in
    let long = ap length path in
    let first = length-append (front ++ e.component) (47 ∷ []) in
    let second = length-append front e.component in
    let room : length (inner name r front e) ≤ 4095 = paths.1 in
    let less : 2 * (4095 - length c.push.new.self.items) + 1 < t = omega (arith, long, first, second, room, c.decreases) in
    λ κs within. (less, (within.0, (within.1.0, (within.1.1, (held, subst (λ f. HavePaths f (files_in name r e.name)) (sym path) paths.0)))))

pub print_entry-returns-in_err-print_below-clause-lines : goal.print_entry-returns-in_err-print_below-clause-lines
print_entry-returns-in_err-print_below-clause-lines g t c =
    let p = err_from_is_err_and c.from_residual-in_err-print_below.result c.from_residual-in_err-print_below.ensures.1 in
    let name = g.N.Namer.name_of c.args.repo.now.0 in
    let namer = g.met.N.Namer.is_namer c.args.repo.now.0 in
    let r = c.args.repo.now.1 in
    let front = c.args.path.now.items in
    let was = g.W.Sink.taken c.args.sink.now in
    let now = g.W.Sink.taken c.print_below.new.sink in
    let fault = c.in_err-print_below.field-0.0 in
    let e = shown c.args.entry.now in
    let dir : is_dir e.mode ≡ true = sym c.is_dir.ensures ∙ c.if-is_dir.true in
    let some = (tree_paths name namer r c.sound.ensures e.name (c.requires.tree (is_dir_mode e.mode dir))).0 in
    let path : c.push.new.self.items ≡ inner name r front e = c.in_ok-push.ensures.items ∙ ap (λ x. x ++ 47 ∷ []) c.in_ok-extend_from_slice.ensures.items in
    let lines = ap (λ f. flat_map (line_below f) (files_in name r e.name)) path ∙ dir_lines name r front e dir some in
    rw (p.1, p.2) (subst (λ text. PrintsText text was now (Err fault)) lines c.in_err-print_below.ensures.lines)

pub print_entry-returns-in_err-print_at-clause-lines : goal.print_entry-returns-in_err-print_at-clause-lines
print_entry-returns-in_err-print_at-clause-lines g t c =
    let p = err_from_is_err_and c.from_residual-in_err-print_at.result c.from_residual-in_err-print_at.ensures.1 in
    let name = g.N.Namer.name_of c.args.repo.now.0 in
    let r = c.args.repo.now.1 in
    let front = c.args.path.now.items in
    let was = g.W.Sink.taken c.args.sink.now in
    let now = g.W.Sink.taken c.print_at.new.sink in
    let fault = c.in_err-print_at.field-0.0 in
    let e = shown c.args.entry.now in
    let file : is_dir e.mode ≡ false = sym c.is_dir.ensures ∙ c.if-is_dir.false in
    let path : c.deref.result.now ≡ front ++ e.component = c.deref.ensures.value ∙ c.in_ok-extend_from_slice.ensures.items in
    let line = ap (λ x. entry_line (record { mode = e.mode; component = x; name = e.name })) path ∙ sym (file_lines name r front e file) in
    rw (p.1, p.2) (subst (λ text. PrintsText text was now (Err fault)) line c.in_err-print_at.ensures)

pub print_entry-returns-clause-lines : goal.print_entry-returns-clause-lines
print_entry-returns-clause-lines g t c =
    let name = g.N.Namer.name_of c.args.repo.now.0 in
    let namer = g.met.N.Namer.is_namer c.args.repo.now.0 in
    let r = c.args.repo.now.1 in
    let front = c.args.path.now.items in
    let was = g.W.Sink.taken c.args.sink.now in
    let e = shown c.args.entry.now in
    elim c.if-is_dir.branch [
      | print_entry-then-is_dir+in_ok-push+in_ok-print_below w ↦
          let dir : is_dir e.mode ≡ true = sym c.is_dir.ensures ∙ w.if-is_dir.true in
          let some = (tree_paths name namer r c.sound.ensures e.name (c.requires.tree (is_dir_mode e.mode dir))).0 in
          let path : w.push.new.self.items ≡ inner name r front e = w.in_ok-push.ensures.items ∙ ap (λ x. x ++ 47 ∷ []) c.in_ok-extend_from_slice.ensures.items in
          let lines = ap (λ f. flat_map (line_below f) (files_in name r e.name)) path ∙ dir_lines name r front e dir some in
          subst (λ sink. Took was (g.W.Sink.taken sink) (lines_of name r front e)) (sym w.sink-is) (subst (Took was (g.W.Sink.taken w.print_below.new.sink)) lines w.in_ok-print_below.ensures.lines)
      | print_entry-else-is_dir+in_ok-print_at w ↦
          let file : is_dir e.mode ≡ false = sym c.is_dir.ensures ∙ w.if-is_dir.false in
          let path : w.deref.result.now ≡ front ++ e.component = w.deref.ensures.value ∙ c.in_ok-extend_from_slice.ensures.items in
          let line = ap (λ x. entry_line (record { mode = e.mode; component = x; name = e.name })) path ∙ sym (file_lines name r front e file) in
          subst (λ sink. Took was (g.W.Sink.taken sink) (lines_of name r front e)) (sym w.sink-is) (subst (Took was (g.W.Sink.taken w.print_at.new.sink)) line w.in_ok-print_at.ensures)
    ]
