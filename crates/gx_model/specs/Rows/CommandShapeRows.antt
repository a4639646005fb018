-- Worked items with the shapes of their commands and refusals, spelled out.
use Rattle.std.specs.Prelude.{◌≡◌, ℕ, ◌<◌, List, [], ◌∷◌, None, Some, Ok, refl, codes}
use Rattle.std.proofs.Common.{inl, inr, ap, arith}
use Rattle.gx_model.specs.declared.faults.Fault.TheVariants as faults
use Rattle.gx_model.specs.declared.features.Feature.TheVariants as features
use Rattle.gx_model.specs.Streams.Items.{Item, Line, Data, Finished, Failed}
use Rattle.gx_model.specs.Streams.Commands.{Marked, Remove, Blob, Checkpoint, Asks}
use Rattle.gx_model.specs.Streams.Grammar.{stops}
use Rattle.gx_model.specs.Texts.{Bytes}
use Rattle.gx_model.specs.Texts.Idents.{IsIdent}
use Rattle.gx_model.specs.Texts.Paths.{IsPathOf}
use Rattle.gx_model.specs.Streams.Spelling.{IsNot}
use Rattle.gx_model.specs.Streams.LineShapes.{line_of, IsOf}
use Rattle.gx_model.specs.Streams.LineShapes as text
use Rattle.gx_model.specs.Streams.CommandShapes as shape
use Rattle.gx_model.specs.Streams.CommandShapes.{AreCommands, taken, at_fault, at_end, at_missing_done, both, first_fault, second_fault, made, refused, given, before_block, before_line, before_end, before_failure}

one_is_positive : 0 < 1
one_is_positive = omega arith

two_is_positive : 0 < 2
two_is_positive = omega arith

-- a blob with a mark
marked_blob : AreCommands Finished [] (Line (codes "blob") ∷ Line (codes "mark :1") ∷ Data (codes "b") ∷ [])
    (record { list = Blob (record { mark = Some 1; bytes = codes "b" }) ∷ []; fault = None })
marked_blob = taken {rest = []} {c = Blob (record { mark = Some 1; bytes = codes "b" })} {cs = stops None}
    (shape.blob (made (both (given (text.is_mark refl refl one_is_positive)) (both before_block shape.block)))) (λ e. absurd cc) (at_end refl (λ e. absurd cc))

-- the block of a blob is missing
blob_without_block : AreCommands Finished [] (Line (codes "blob") ∷ []) (stops (Some faults.BadLine))
blob_without_block =
    at_fault (shape.blob (refused (second_fault (before_end refl) (second_fault (before_end refl) (shape.end_for_block refl)))))

-- a reset needs the item after it, so a failure there is its own
failed_reset : AreCommands (Failed faults.BadNumber) [] (Line (codes "reset refs/heads/a") ∷ []) (stops (Some faults.BadNumber))
failed_reset = at_fault (shape.reset (text.has_form refl) (refused (first_fault (before_failure refl))))

-- `done` is asked for, and doesn't come
missing_done : AreCommands Finished [] (Line (codes "feature done") ∷ [])
    (record { list = Asks features.Done ∷ []; fault = Some faults.MissingDone })
missing_done =
    taken {rest = []} {c = Asks features.Done} {cs = stops (Some faults.MissingDone)}
    (shape.feature refl (shape.of_text (text.asks_done refl))) (λ e. absurd cc) (at_missing_done refl refl)

-- an option stands behind another command
late_option : AreCommands Finished [] (Line (codes "checkpoint") ∷ Line (codes "option git quiet") ∷ [])
    (record { list = Checkpoint ∷ []; fault = Some faults.LateOption })
late_option =
    taken {rest = Line (codes "option git quiet") ∷ []} {c = Checkpoint} {cs = stops (Some faults.LateOption)}
    shape.checkpoint (λ e. absurd cc) (at_fault (shape.late_option (λ e. absurd cc)))

-- a commit has no committer: the block stands where one is needed
commit_without_committer : AreCommands Finished [] (Line (codes "commit refs/heads/a") ∷ Data (codes "m") ∷ [])
    (stops (Some faults.BadLine))
commit_without_committer =
    at_fault (shape.commit (text.has_form refl) (refused (second_fault before_block (second_fault before_block (second_fault before_block (first_fault (shape.is_missing before_block)))))))

-- ---- a commit with its lines

abbrev committer : Bytes
committer = codes "A <a@x> 1 +0000"

committer_is : IsIdent committer
committer_is = record {
  head = codes "A ";
  email = codes "a@x";
  seconds = codes "1";
  sign = 43;
  offset = codes "0000";
  spelled = refl;
  head_is = inr (codes "A", refl, refl);
  email_is = refl;
  seconds_is = refl;
  sign_is = inl refl;
  offset_is = refl;
}

abbrev committer_line : Bytes
committer_line = line_of (codes "committer") committer

abbrev first_byte : Bytes → ℕ
first_byte [] = 0
first_byte (b ∷ bs) = b

no_mark : IsOf (codes "mark") committer_line → ⊥
no_mark (inl e) = let d : 99 ≡ 109 = ap first_byte e in absurd (omega (arith, d))
no_mark (inr h) = let d : 99 ≡ 109 = ap first_byte h.1 in absurd (omega (arith, d))

no_oid : IsOf (codes "original-oid") committer_line → ⊥
no_oid (inl e) = let d : 99 ≡ 111 = ap first_byte e in absurd (omega (arith, d))
no_oid (inr h) = let d : 99 ≡ 111 = ap first_byte h.1 in absurd (omega (arith, d))

no_author : IsOf (codes "author") committer_line → ⊥
no_author (inl e) = let d : 99 ≡ 97 = ap first_byte e in absurd (omega (arith, d))
no_author (inr h) = let d : 99 ≡ 97 = ap first_byte h.1 in absurd (omega (arith, d))

no_second_merge : IsOf (codes "merge") (codes "D f") → ⊥
no_second_merge (inl e) = let d : 68 ≡ 109 = ap first_byte e in absurd (omega (arith, d))
no_second_merge (inr h) = let d : 68 ≡ 109 = ap first_byte h.1 in absurd (omega (arith, d))

bare_f : IsNot text.quote_text (codes "f")
bare_f x e = absurd cc

f_is_path : IsPathOf (codes "f") (codes "f" ∷ [])
f_is_path = record { joined = refl; components = refl; short = omega arith }

abbrev commit_items : List Item
commit_items = Line committer_line ∷ Data (codes "m") ∷ Line (codes "from :1") ∷ Line (codes "merge :2") ∷ Line (codes "D f") ∷ []

abbrev commit_given : shape.CommitLines
commit_given = (None, (None, (None, (committer, (tt, (None, (codes "m", (Some (Marked 1), (Marked 2 ∷ [], (Remove (codes "f" ∷ []) ∷ [], tt))))))))))

commit_spelled : shape.commit_lines Finished commit_items (Ok (commit_given, []))
commit_spelled =
    both (before_line no_mark) (both (before_line no_oid) (both (before_line no_author) (both (shape.stands (given (text.has_form committer_is)))
    (both shape.block_unsigned (both before_block (both shape.block (both (given (text.names_mark (text.is_mark refl refl one_is_positive)))
    (both (shape.one_more (given (text.names_mark (text.is_mark refl refl two_is_positive))) (shape.no_more (before_line no_second_merge)))
    (both (shape.one_more (shape.removed (shape.of_text (text.bare_last bare_f f_is_path))) (shape.no_more (shape.no_change_at_end refl))) (shape.last_item refl))))))))))

-- a commit with two parents and a change
a_commit : AreCommands Finished [] (Line (codes "commit refs/heads/a") ∷ commit_items)
    (record { list = shape.commit_command (codes "refs/heads/a") commit_given ∷ []; fault = None })
a_commit = taken {rest = []} {c = shape.commit_command (codes "refs/heads/a") commit_given} {cs = stops None}
    (shape.commit (text.has_form refl) (made commit_spelled)) (λ e. absurd cc) (at_end refl (λ e. absurd cc))
