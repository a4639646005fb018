-- The blobs of a stream are those of its commands.
use Rattle.std.proofs.Common.{◌≡◌, ℕ, zero, suc, Bool, true, false, cond, List, [], ◌∷◌, ◌++◌, length, codes, Option, Some, None, Ok, Err, refl, ap, ◌∙◌}
use Rattle.std.specs.Prelude.{IfOk, ◌||◌}
use Rattle.std.specs.List.{list_all, list_any}
use Rattle.std.specs.Str.{bytes_eq}
use Rattle.std.proofs.lemmas.Slice.Eq.{bytes_eq-Decides}
use Rattle.gx_model.specs.declared.faults.Fault.TheVariants as faults
use Rattle.gx_model.specs.Texts.{Bytes, cut_at}
use Rattle.gx_model.specs.Streams.Items.{Item, Line, Data, End, Finished, Failed, Stream}
use Rattle.gx_model.specs.Streams.Commands.{BlobParts, Command, Commands, Blob}
use Rattle.gx_model.specs.Streams.Grammar.{asks_done, blob_at, command_at, commands_of, commands_within, commit_at, if_early, is_done, is_option, item_after, links_at, reset_at, stops, tag_at, unsigned, with_command}
use Rattle.gx_model.specs.Streams.Lines.{Read, Words, any_text, bare, block, commit_ish_of, encoding_of, feature_of, ident_of, is_word, mark_of, needed, optional, ref_of, rest_of, tag_of, words_by, words_of}
use Rattle.gx_model.proofs.Streams.AskedFeatures.{any_more}
use Rattle.gx_model.proofs.Streams.ReadLines.{if_either, then_any}
use Rattle.gx_blobs.specs.Blobs.{BlobRun, Stop, refused, not_a_blob, blobs_of, blobs_within, first_body, stops as run_stops}
use Rattle.gx_blobs.specs.Laws.{BeginWith, StopsAt, is_blob}

-- ---- what a line gives

abbrev IsOther : Command × Stream → Type 0
IsOther x = is_blob x.0 ≡ false

abbrev IsBlob : Command × Stream → Type 0
IsBlob x = (blob : BlobParts) × (x.0 ≡ Blob blob)

blob_read : (s : Stream) → IfOk (blob_at s) IsBlob
unfolding blob_at
blob_read s =
    then_any IsBlob (optional (codes "mark") mark_of s) _ (λ mark. then_any IsBlob (optional (codes "original-oid") any_text mark.1) _
    (λ oid. then_any IsBlob (block oid.1) _ (λ bytes. (record { mark = mark.0; bytes = bytes.0 }, refl))))

commit_read : (ref : Bytes) (s : Stream) → IfOk (commit_at ref s) IsOther
unfolding commit_at
commit_read ref s =
    then_any IsOther (optional (codes "mark") mark_of s) _ (λ mark. then_any IsOther (optional (codes "original-oid") any_text mark.1) _
    (λ oid. then_any IsOther (optional (codes "author") ident_of oid.1) _ (λ author. then_any IsOther (needed (codes "committer") ident_of author.1) _
    (λ committer. then_any IsOther (unsigned committer.1) _ (λ plain. then_any IsOther (optional (codes "encoding") encoding_of plain.1) _
    (λ encoding. then_any IsOther (block encoding.1) _ (λ message. then_any IsOther (links_at message.1) _ (λ links. refl))))))))

tag_read : (name : Bytes) (s : Stream) → IfOk (tag_at name s) IsOther
unfolding tag_at
tag_read name s =
    then_any IsOther (optional (codes "mark") mark_of s) _ (λ mark. then_any IsOther (needed (codes "from") commit_ish_of mark.1) _
    (λ target. then_any IsOther (optional (codes "original-oid") any_text target.1) _ (λ oid. then_any IsOther (optional (codes "tagger") ident_of oid.1) _
    (λ tagger. then_any IsOther (block tagger.1) _ (λ message. refl)))))

reset_read : (ref : Bytes) (s : Stream) → IfOk (reset_at ref s) IsOther
unfolding reset_at
reset_read ref s = then_any IsOther (optional (codes "from") commit_ish_of s) _ (λ parent. then_any IsOther (item_after parent.1) _ (λ ended. refl))

early_read : (b : Bool) (r : Read Command) → IfOk r IsOther → IfOk (if_early b r) IsOther
early_read true r h = h
early_read false r h = tt

-- a line whose word isn't `blob`
other_word : (early : Bool) (w : Words) (s : Stream) → is_word w (codes "blob") ≡ false → IfOk (command_at early w s) IsOther
unfolding command_at
other_word early w s e = rw e
    (if_either IsOther (is_word w (codes "commit")) _ _ (then_any IsOther (rest_of w) _ (λ r. then_any IsOther (ref_of r) _ (λ ref. commit_read ref s)))
    (if_either IsOther (is_word w (codes "tag")) _ _ (then_any IsOther (rest_of w) _ (λ r. then_any IsOther (tag_of r) _ (λ name. tag_read name s)))
    (if_either IsOther (is_word w (codes "reset")) _ _ (then_any IsOther (rest_of w) _ (λ r. then_any IsOther (ref_of r) _ (λ ref. reset_read ref s)))
    (if_either IsOther (is_word w (codes "checkpoint")) _ _ (then_any IsOther (bare w) _ (λ u. refl))
    (if_either IsOther (is_word w (codes "progress")) _ _ (then_any IsOther (rest_of w) _ (λ r. refl))
    (if_either IsOther (is_word w (codes "feature")) _ _ (then_any IsOther (rest_of w) _ (λ r. early_read early _ (then_any IsOther (feature_of r) _ (λ f. refl))))
    (if_either IsOther (is_word w (codes "option")) _ _ (then_any IsOther (rest_of w) _ (λ r. early_read early _ refl))
    (if_either IsOther (is_word w (codes "done")) _ _ (then_any IsOther (bare w) _ (λ u. refl))
    (if_either IsOther (is_word w (codes "ls") || is_word w (codes "cat-blob") || is_word w (codes "get-mark") || is_word w (codes "alias")) _ _ tt tt)))))))))

-- a line that isn't `blob`
other_line : (early : Bool) (l : Bytes) (s : Stream) → bytes_eq l (codes "blob") ≡ false → IfOk (command_at early (words_of l) s) IsOther
unfolding command_at
other_line early l s e = by (cut_at 32 l) where
  by : (cut : Option (Bytes × Bytes)) → IfOk (command_at early (words_by l cut) s) IsOther
  by None = other_word early (words_by l None) s e
  by (Some p) = at (bytes_eq p.0 (codes "blob")) refl where
    at : (b : Bool) → bytes_eq p.0 (codes "blob") ≡ b → IfOk (command_at early (words_by l (Some p)) s) IsOther
    at true is = rw is tt
    at false is = other_word early (words_by l (Some p)) s is

-- the line `blob`
blob_line : (early : Bool) (l : Bytes) (s : Stream) → bytes_eq l (codes "blob") ≡ true → command_at early (words_of l) s ≡ blob_at s
unfolding command_at cut_at
blob_line early l s e = ap (λ t. command_at early (words_of t) s) ((bytes_eq-Decides l (codes "blob")).0 e)

-- ---- the commands of items

-- no blob comes, and this is why
no_blob : (stop : Option Stop) (commands : Commands) → StopsAt stop commands → BeginWith (run_stops stop) commands
no_blob stop commands h = record { blobs = []; rest = commands; comes = refl; bodies = refl; stop = h }

-- a blob comes, and then these
one_blob : (blob : BlobParts) (run : BlobRun) (commands : Commands) → BeginWith run commands → BeginWith (first_body blob.bytes run) (with_command (Blob blob) commands)
one_blob blob run commands h = record {
  blobs = blob ∷ h.blobs;
  rest = h.rest;
  comes = ap (with_command (Blob blob)) h.comes;
  bodies = ap (λ bodies. blob.bytes ∷ bodies) h.bodies;
  stop = h.stop;
}

within : (n : ℕ) (before : List Command) (items : List Item) (end : End) → list_any asks_done before ≡ false → BeginWith (blobs_within n items end) (commands_within n before items end)
unfolding blobs_within commands_within
within n before [] Finished e = rw e (no_blob None (stops None) refl)
within n before [] (Failed f) e = no_blob (Some (refused f)) (stops (Some f)) refl
within zero before (i ∷ more) end e = no_blob None (stops None) refl
within (suc n) before (Data b ∷ more) end e = no_blob (Some not_a_blob) (stops (Some faults.UnknownCommand)) (faults.UnknownCommand, refl)
within (suc n) before (Line [] ∷ more) end e = within n before more end e
within (suc n) before (Line (b ∷ bs) ∷ more) end e =
    at (bytes_eq (b ∷ bs) (codes "blob")) refl (λ blob t. within n (before ++ Blob blob ∷ []) t.items t.end (any_more asks_done before (Blob blob) ∙ rw e refl))
  where
    early : Bool
    early = list_all is_option before

    rest : Stream
    rest = record { items = more; end = end }

    again : Command → Stream → Commands
    again c t = commands_within n (before ++ c ∷ []) t.items t.end

    Later : Type 0
    Later = (blob : BlobParts) (t : Stream) → BeginWith (blobs_within n t.items t.end) (again (Blob blob) t)

    Here : Type 0
    Here = BeginWith (blobs_within (suc n) (Line (b ∷ bs) ∷ more) end) (commands_within (suc n) before (Line (b ∷ bs) ∷ more) end)

    blob_by : (r : Read Command) → bytes_eq (b ∷ bs) (codes "blob") ≡ true → blob_at rest ≡ r → command_at early (words_of (b ∷ bs)) rest ≡ r → IfOk r IsBlob → Later → Here
    blob_by (Err f) is e same h later = rw (is, e, same) (no_blob (Some (refused f)) (stops (Some f)) refl)
    blob_by (Ok x) is e same h later =
        let whole : Ok x ≡ Ok (Blob h.0, x.1) = ap (λ c. Ok (c, x.1)) h.1 in
        rw (is, e ∙ whole, same ∙ whole) (one_blob h.0 (blobs_within n x.1.items x.1.end) (again (Blob h.0) x.1) (later h.0 x.1))

    other_by : (r : Read Command) → bytes_eq (b ∷ bs) (codes "blob") ≡ false → command_at early (words_of (b ∷ bs)) rest ≡ r → IfOk r IsOther → Here
    other_by (Err f) is e h = rw (is, e) (no_blob (Some not_a_blob) (stops (Some f)) (f, refl))
    other_by (Ok x) is e h = rw (is, e) (last (is_done x.0)) where
      last : (d : Bool) → BeginWith (run_stops (Some not_a_blob)) (cond d (with_command x.0 (stops None)) (with_command x.0 (again x.0 x.1)))
      last true = no_blob (Some not_a_blob) (with_command x.0 (stops None)) h
      last false = no_blob (Some not_a_blob) (with_command x.0 (again x.0 x.1)) h

    at : (v : Bool) → bytes_eq (b ∷ bs) (codes "blob") ≡ v → Later → Here
    at true is later = blob_by (blob_at rest) is refl (blob_line early (b ∷ bs) rest is) (blob_read rest) later
    at false is later = other_by (command_at early (words_of (b ∷ bs)) rest) is refl (other_line early (b ∷ bs) rest is)

pub blobs_are_commands : (s : Stream) → BeginWith (blobs_of s) (commands_of s)
unfolding blobs_of
blobs_are_commands s = within (length s.items) [] s.items s.end refl
