use Rattle.std.proofs.Common.{◌≡◌, ◌+◌, ◌*◌, ◌-◌, ◌<◌, ◌∙◌, true, false, [], ◌∷◌, ◌++◌, length, length-append, refl, sym, ap, subst, arith, Err}
use Rattle.std.specs.List.{flat_map}
use Rattle.std.specs.Prelude.{IfSome}
use Rattle.std.proofs.lemmas.Result.{err_from_is_err_and}
use Rattle.gx_model.specs.Objects.{is_dir}
use Rattle.gx_model.specs.Records.Sound.{IsSound}
use Rattle.gx_model.specs.Texts.Sinks.{Took}
use Rattle.gx_object.specs.Entries.{shown}
use Rattle.gx_print.specs.Listings.{entry_line}
use Rattle.gx_print.specs.WalkedFiles.{IsWithin, files_in, line_below}
use Rattle.gx_questions.specs.Answers.{IfTold}
use Rattle.gx_questions.specs.Objects.{AreEntriesAt}
use Rattle.gx_told.specs.Printing.{PrintsText}
use Rattle.gx_told.specs.Walking.{AreWithin, IsBelow, all_lines, entry_lines}
use Rattle.gx_told.proofs.WalkedLines.{Goes, below, dir_printed, dir_some, dir_stops, first_within, goes_on, line_of_file, lines_of_dir, others_within, path_short, starts, stops}
use Rattle.gx_told.proofs.Tellings.{all_told, both_told, map_told}
use Rattle.gx_told.proofs.files.+walk.Goals.{print_entry-then-is_dir+in_ok-push+in_ok-print_dir, print_entry-else-is_dir+in_ok-print_line}
use Rattle.gx_told.proofs.files.+walk.Goals as goal

pub print_all-loop-entry-init : goal.print_all-loop-entry-init
print_all-loop-entry-init g t c =
    let told = g.O.Objects.told c.args.objects.now in
    let name = g.O.Objects.name_of c.args.objects.now in
    let front = c.args.path.now.items in
    let was = g.W.Sink.taken c.args.sink.now in
    let all = c.args.entries in
    record {
      path = refl;
      goes = subst (λ left. IfSome told (Goes name front all was was left)) (sym c.into_iter-entry-iterator.ensures.into_iter_gives) (map_told told (λ r. AreWithin name front r all) (Goes name front all was was all) (λ r h. starts name front all was r h) c.requires);
    }

pub print_all-loop-entry-preserved : goal.print_all-loop-entry-preserved
print_all-loop-entry-preserved g t c =
    let told = g.O.Objects.told c.args.objects.now in
    let name = g.O.Objects.name_of c.args.objects.now in
    let front = c.args.path.now.items in
    let all = c.args.entries in
    let was = g.W.Sink.taken c.args.sink.now in
    let mid = g.W.Sink.taken c.loop-entry.sink in
    let now = g.W.Sink.taken c.print_entry.new.sink in
    let e = shown c.in-Some.entry in
    let left = c.next.new.self in
    let inv = c.loop-entry.invariant in
    let ahead = subst (λ es. IfSome told (Goes name front all was mid es)) c.in-Some.ensures.steps inv.goes in
    let sent = subst (λ f. IfSome told (λ r. Took mid now (entry_lines name f r e))) inv.path c.in_ok-print_entry.ensures.lines in
    record {
      path = c.in_ok-print_entry.ensures.path ∙ inv.path;
      goes = both_told told (Goes name front all was mid (e ∷ left)) (λ r. Took mid now (entry_lines name front r e)) (Goes name front all was now left) (λ r h k. goes_on name front all was mid now e left r h k) ahead sent;
    }

pub print_all-returns-in_err-print_entry-clause-lines : goal.print_all-returns-in_err-print_entry-clause-lines
print_all-returns-in_err-print_entry-clause-lines g t c =
    let p = err_from_is_err_and c.from_residual.result c.from_residual.ensures.1 in
    let told = g.O.Objects.told c.args.objects.now in
    let name = g.O.Objects.name_of c.args.objects.now in
    let front = c.args.path.now.items in
    let all = c.args.entries in
    let was = g.W.Sink.taken c.args.sink.now in
    let mid = g.W.Sink.taken c.loop-entry.sink in
    let now = g.W.Sink.taken c.print_entry.new.sink in
    let e = shown c.in-Some.entry in
    let left = c.next.new.self in
    let inv = c.loop-entry.invariant in
    let fault = c.in_err-print_entry.field-0.0 in
    let ahead = subst (λ es. IfSome told (Goes name front all was mid es)) c.in-Some.ensures.steps inv.goes in
    let cut = subst (λ f. IfSome told (λ r. PrintsText (entry_lines name f r e) mid now (Err fault))) inv.path c.in_err-print_entry.ensures.lines in
    rw (p.1, p.2) (both_told told (Goes name front all was mid (e ∷ left)) (λ r. PrintsText (entry_lines name front r e) mid now (Err fault)) (λ r. PrintsText (all_lines name front r all) was now (Err fault))
    (λ r h k. stops name front all was mid now e left fault r h k) ahead cut)

pub print_entry-returns-then-len-gt-MOST_BYTES-clause-lines : goal.print_entry-returns-then-len-gt-MOST_BYTES-clause-lines
print_entry-returns-then-len-gt-MOST_BYTES-clause-lines g t c =
    let told = g.O.Objects.told c.args.objects.now in
    let name = g.O.Objects.name_of c.args.objects.now in
    let namer = c.sound_if_told.ensures.namer in
    let front = c.args.path.now.items in
    let e = shown c.args.entry.now in
    let long = ap length c.in_ok-extend_from_slice.ensures.items in
    both_told told (IsSound name) (λ r. IsWithin name r front e) _
    (λ r sound within. let short = path_short name namer r sound front e within in absurd (omega (arith, short, long, c.len.ensures, c.if-len-gt-MOST_BYTES.true))) c.sound_if_told.ensures.sound c.requires

pub print_entry-print_dir-requires : goal.print_entry-print_dir-requires
print_entry-print_dir-requires g t c =
    let told = g.O.Objects.told c.args.objects.now in
    let name = g.O.Objects.name_of c.args.objects.now in
    let namer = c.sound_if_told.ensures.namer in
    let front = c.args.path.now.items in
    let e = shown c.args.entry.now in
    let dir : is_dir e.mode ≡ true = sym c.is_dir.ensures ∙ c.if-is_dir.true in
    let path : c.push.new.self.items ≡ (front ++ e.component) ++ 47 ∷ [] = c.in_ok-push.ensures.items ∙ ap (λ x. x ++ 47 ∷ []) c.in_ok-extend_from_slice.ensures.items in
    let short = ap length c.in_ok-extend_from_slice.ensures.items in
    let long = ap length path in
    let first = length-append (front ++ e.component) (47 ∷ []) in
    let second = length-append front e.component in
    let less : 3 * (4096 - length c.push.new.self.items) + 2 < t = omega (arith, short, long, first, second, c.len.ensures, c.if-len-gt-MOST_BYTES.false, c.decreases) in
    let under = both_told told (IsSound name) (λ r. IsWithin name r front e) (λ r. IsBelow name ((front ++ e.component) ++ 47 ∷ []) r e.name) (λ r sound within. below name namer r sound front e within dir) c.sound_if_told.ensures.sound c.requires in
    λ κs within. (less, (within.0, (within.1.0, (within.1.1, subst (λ f. IfTold told (IsBelow name f) e.name) (sym path) under))))

pub print_entry-returns-in_err-print_dir-clause-lines : goal.print_entry-returns-in_err-print_dir-clause-lines
print_entry-returns-in_err-print_dir-clause-lines g t c =
    let p = err_from_is_err_and c.from_residual-in_err-print_dir.result c.from_residual-in_err-print_dir.ensures.1 in
    let told = g.O.Objects.told c.args.objects.now in
    let name = g.O.Objects.name_of c.args.objects.now in
    let namer = c.sound_if_told.ensures.namer in
    let front = c.args.path.now.items in
    let was = g.W.Sink.taken c.args.sink.now in
    let now = g.W.Sink.taken c.print_dir.new.sink in
    let fault = c.in_err-print_dir.field-0.0 in
    let e = shown c.args.entry.now in
    let dir : is_dir e.mode ≡ true = sym c.is_dir.ensures ∙ c.if-is_dir.true in
    let path : c.push.new.self.items ≡ (front ++ e.component) ++ 47 ∷ [] = c.in_ok-push.ensures.items ∙ ap (λ x. x ++ 47 ∷ []) c.in_ok-extend_from_slice.ensures.items in
    rw (p.1, p.2) (all_told told (IsSound name) (λ r. IsWithin name r front e) (λ r. PrintsText (flat_map (line_below c.push.new.self.items) (files_in name r e.name)) was now (Err fault)) (λ r. PrintsText (entry_lines name front r e) was now (Err fault))
    (λ r sound within h. subst (λ text. PrintsText text was now (Err fault)) (ap (λ f. flat_map (line_below f) (files_in name r e.name)) path ∙ lines_of_dir name namer r sound front e within dir) h) c.sound_if_told.ensures.sound c.requires c.in_err-print_dir.ensures.lines)

pub print_entry-returns-in_err-print_line-clause-lines : goal.print_entry-returns-in_err-print_line-clause-lines
print_entry-returns-in_err-print_line-clause-lines g t c =
    let p = err_from_is_err_and c.from_residual-in_err-print_line.result c.from_residual-in_err-print_line.ensures.1 in
    let told = g.O.Objects.told c.args.objects.now in
    let name = g.O.Objects.name_of c.args.objects.now in
    let namer = c.sound_if_told.ensures.namer in
    let front = c.args.path.now.items in
    let was = g.W.Sink.taken c.args.sink.now in
    let now = g.W.Sink.taken c.print_line.new.sink in
    let fault = c.in_err-print_line.field-0.0 in
    let e = shown c.args.entry.now in
    let file : is_dir e.mode ≡ false = sym c.is_dir.ensures ∙ c.if-is_dir.false in
    let path : c.deref.result.now ≡ front ++ e.component = c.deref.ensures.value ∙ c.in_ok-extend_from_slice.ensures.items in
    let line = ap (λ x. entry_line (record { mode = e.mode; component = x; name = e.name })) path in
    rw (p.1, p.2) (both_told told (IsSound name) (λ r. IsWithin name r front e) (λ r. PrintsText (entry_lines name front r e) was now (Err fault))
    (λ r sound within. subst (λ text. PrintsText text was now (Err fault)) (line ∙ line_of_file name namer r sound front e within file) c.in_err-print_line.ensures) c.sound_if_told.ensures.sound c.requires)

pub print_entry-returns-clause-lines : goal.print_entry-returns-clause-lines
print_entry-returns-clause-lines g t c =
    let told = g.O.Objects.told c.args.objects.now in
    let name = g.O.Objects.name_of c.args.objects.now in
    let namer = c.sound_if_told.ensures.namer in
    let front = c.args.path.now.items in
    let was = g.W.Sink.taken c.args.sink.now in
    let e = shown c.args.entry.now in
    elim c.if-is_dir.branch [
      | print_entry-then-is_dir+in_ok-push+in_ok-print_dir w ↦
          let dir : is_dir e.mode ≡ true = sym c.is_dir.ensures ∙ w.if-is_dir.true in
          let now = g.W.Sink.taken w.print_dir.new.sink in
          let path : w.push.new.self.items ≡ (front ++ e.component) ++ 47 ∷ [] = w.in_ok-push.ensures.items ∙ ap (λ x. x ++ 47 ∷ []) c.in_ok-extend_from_slice.ensures.items in
          subst (λ sink. IfSome told (λ r. Took was (g.W.Sink.taken sink) (entry_lines name front r e))) (sym w.sink-is)
          (all_told told (IsSound name) (λ r. IsWithin name r front e) (λ r. Took was now (flat_map (line_below w.push.new.self.items) (files_in name r e.name))) (λ r. Took was now (entry_lines name front r e))
          (λ r sound within h. subst (Took was now) (ap (λ f. flat_map (line_below f) (files_in name r e.name)) path ∙ lines_of_dir name namer r sound front e within dir) h) c.sound_if_told.ensures.sound c.requires w.in_ok-print_dir.ensures.lines)
      | print_entry-else-is_dir+in_ok-print_line w ↦
          let file : is_dir e.mode ≡ false = sym c.is_dir.ensures ∙ w.if-is_dir.false in
          let now = g.W.Sink.taken w.print_line.new.sink in
          let path : w.deref.result.now ≡ front ++ e.component = w.deref.ensures.value ∙ c.in_ok-extend_from_slice.ensures.items in
          let line = ap (λ x. entry_line (record { mode = e.mode; component = x; name = e.name })) path in
          subst (λ sink. IfSome told (λ r. Took was (g.W.Sink.taken sink) (entry_lines name front r e))) (sym w.sink-is)
          (both_told told (IsSound name) (λ r. IsWithin name r front e) (λ r. Took was now (entry_lines name front r e))
          (λ r sound within. subst (Took was now) (line ∙ line_of_file name namer r sound front e within file) w.in_ok-print_line.ensures) c.sound_if_told.ensures.sound c.requires)
    ]

pub print_dir-print_entry-requires : goal.print_dir-print_entry-requires
print_dir-print_entry-requires g t c κs within =
    let told = g.O.Objects.told c.args.objects.now in
    let name = g.O.Objects.name_of c.args.objects.now in
    let namer = c.sound_if_told.ensures.namer in
    let front = c.args.path.now.items in
    let tree = c.args.tree.now in
    let es = c.in-Ok.entries in
    let e = shown c.in-Some.first in
    let less : 3 * (4096 - length front) < t = omega (arith, c.decreases) in
    let one = all_told told (IsSound name) (λ r. IsBelow name front r tree.bytes) (λ r. AreEntriesAt name tree r es) (λ r. IsWithin name r front e)
    (λ r sound below h. first_within name namer r sound front tree.bytes below es h.of_files e c.next.new.self c.in-Some.ensures.steps) c.sound_if_told.ensures.sound c.requires c.in-Ok.ensures.entries in
    (less, (within.0, (within.1.0, (within.1.1, one))))

pub print_dir-returns-in_err-print_entry-in-Some-clause-lines : goal.print_dir-returns-in_err-print_entry-in-Some-clause-lines
print_dir-returns-in_err-print_entry-in-Some-clause-lines g t c =
    let p = err_from_is_err_and c.from_residual.result c.from_residual.ensures.1 in
    let told = g.O.Objects.told c.args.objects.now in
    let name = g.O.Objects.name_of c.args.objects.now in
    let namer = c.sound_if_told.ensures.namer in
    let front = c.args.path.now.items in
    let tree = c.args.tree.now in
    let es = c.in-Ok.entries in
    let e = shown c.in-Some.first in
    let left = c.next.new.self in
    let was = g.W.Sink.taken c.args.sink.now in
    let now = g.W.Sink.taken c.print_entry.new.sink in
    let fault = c.in_err-print_entry-in-Some.field-0.0 in
    let inside = both_told told (IsSound name) (λ r. IsBelow name front r tree.bytes) (λ r. IsSound name r × IsBelow name front r tree.bytes) (λ r sound below. (sound, below)) c.sound_if_told.ensures.sound c.requires in
    rw (p.1, p.2) (all_told told (λ r. IsSound name r × IsBelow name front r tree.bytes) (λ r. AreEntriesAt name tree r es) (λ r. PrintsText (entry_lines name front r e) was now (Err fault))
    (λ r. PrintsText (flat_map (line_below front) (files_in name r tree.bytes)) was now (Err fault))
    (λ r i h k. dir_stops name namer r i.0 front tree.bytes i.1 es h.of_files e left c.in-Some.ensures.steps was now fault k) inside c.in-Ok.ensures.entries c.in_err-print_entry-in-Some.ensures.lines)

pub print_dir-print_all-requires : goal.print_dir-print_all-requires
print_dir-print_all-requires g t c κs within =
    let told = g.O.Objects.told c.args.objects.now in
    let name = g.O.Objects.name_of c.args.objects.now in
    let namer = c.sound_if_told.ensures.namer in
    let front = c.args.path.now.items in
    let tree = c.args.tree.now in
    let es = c.in-Ok.entries in
    let e = shown c.in-Some.first in
    let left = c.next.new.self in
    let path : c.print_entry.new.path.items ≡ front = c.in_ok-print_entry-in-Some.ensures.path in
    let long = ap length path in
    let less : 3 * (4096 - length c.print_entry.new.path.items) + 1 < t = omega (arith, long, c.decreases) in
    let others = all_told told (IsSound name) (λ r. IsBelow name front r tree.bytes) (λ r. AreEntriesAt name tree r es) (λ r. AreWithin name front r left)
    (λ r sound below h. others_within name namer r sound front tree.bytes below es h.of_files e left c.in-Some.ensures.steps) c.sound_if_told.ensures.sound c.requires c.in-Ok.ensures.entries in
    (less, (within.0, (within.1.0, (within.1.1, subst (λ f. IfTold told (AreWithin name f) left) (sym path) others))))

pub print_dir-returns-in-Some-clause-lines : goal.print_dir-returns-in-Some-clause-lines
print_dir-returns-in-Some-clause-lines g t c =
    let told = g.O.Objects.told c.args.objects.now in
    let name = g.O.Objects.name_of c.args.objects.now in
    let namer = c.sound_if_told.ensures.namer in
    let front = c.args.path.now.items in
    let tree = c.args.tree.now in
    let es = c.in-Ok.entries in
    let e = shown c.in-Some.first in
    let left = c.next.new.self in
    let was = g.W.Sink.taken c.args.sink.now in
    let mid = g.W.Sink.taken c.print_entry.new.sink in
    let now = g.W.Sink.taken c.print_all.new.sink in
    let answer = c.print_all.result in
    let path : c.print_entry.new.path.items ≡ front = c.in_ok-print_entry-in-Some.ensures.path in
    let rest = subst (λ f. IfTold told (λ r. PrintsText (all_lines name f r left) mid now) answer) path c.print_all.ensures.lines in
    let inside = all_told told (IsSound name) (λ r. IsBelow name front r tree.bytes) (λ r. AreEntriesAt name tree r es) (λ r. IsSound name r × IsBelow name front r tree.bytes × AreEntriesAt name tree r es)
    (λ r sound below h. (sound, below, h)) c.sound_if_told.ensures.sound c.requires c.in-Ok.ensures.entries in
    all_told told (λ r. IsSound name r × IsBelow name front r tree.bytes × AreEntriesAt name tree r es) (λ r. Took was mid (entry_lines name front r e)) (λ r. PrintsText (all_lines name front r left) mid now answer)
    (λ r. PrintsText (flat_map (line_below front) (files_in name r tree.bytes)) was now answer)
    (λ r i h k. dir_printed name namer r i.0 front tree.bytes i.1 es i.2.of_files e left c.in-Some.ensures.steps was mid now answer h k) inside c.in_ok-print_entry-in-Some.ensures.lines rest

pub print_dir-returns-in-Ok-clause-lines : goal.print_dir-returns-in-Ok-clause-lines
print_dir-returns-in-Ok-clause-lines g t c =
    let told = g.O.Objects.told c.args.objects.now in
    let name = g.O.Objects.name_of c.args.objects.now in
    let namer = c.sound_if_told.ensures.namer in
    let front = c.args.path.now.items in
    let tree = c.args.tree.now in
    let es = c.in-Ok.entries in
    all_told told (IsSound name) (λ r. IsBelow name front r tree.bytes) (λ r. AreEntriesAt name tree r es) _
    (λ r sound below h. absurd (dir_some name namer r sound front tree.bytes below es h.of_files c.in-None.ensures.steps.0)) c.sound_if_told.ensures.sound c.requires c.in-Ok.ensures.entries
