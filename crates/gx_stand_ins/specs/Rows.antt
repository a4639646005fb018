-- Worked rows on stand-ins: what they stand for, and an import over them beside the same one over the whole repository.
-- Each holds by computing. Source: git-fast-import(1), "Commands".
use Rattle.std.specs.Prelude.{◌≡◌, List, [], ◌∷◌, ◌++◌, map, drop, length, replicate, codes, Some, None, refl}
use Rattle.std.specs.List.{fold}
use Rattle.gx_model.specs.declared.objects.Kind.{Kind}
use Rattle.gx_model.specs.declared.objects.Kind.TheVariants.{Blob}
use Rattle.gx_model.specs.declared.objects.Mode.TheVariants.{File, Exec, Gitlink}
use Rattle.gx_model.specs.Texts.{Bytes, cut_at}
use Rattle.gx_model.specs.Histories.Files.{FileMap}
use Rattle.gx_model.specs.Histories.Values.{Commit, CommitText, Value, blob_value, commit, commit_value, more, none}
use Rattle.gx_model.specs.Histories.{History, Record, at_commit, record_of, with_value}
use Rattle.gx_model.specs.Records.{name_of}
use Rattle.gx_model.specs.Replay.{Outcome, begun, replayed}
use Rattle.gx_model.specs.Revisions.{revision_of}
use Rattle.gx_model.specs.Revisions.Denotation.{denoted}
use Rattle.gx_model.specs.Rows.RowTexts.{acceptance, history_after, last_byte_name}
use Rattle.gx_model.specs.Streams.Commands as command
use Rattle.gx_model.specs.Streams.Commands.{Command, Copy, Inline, Modify, Named, Rename, no_features}
use Rattle.gx_stand_ins.specs.SmallRepositories.{commit_front, name_behind, stand_in_text, stand_ins, stand_name}
use Rattle.gx_stand_ins.specs.StandIns.{whole_value}

abbrev nonce : Bytes
nonce = replicate 16 0

abbrev stand : Kind → Bytes → Bytes
stand = stand_name nonce last_byte_name

-- a history with these values after what they lack, and main at this commit
abbrev on_main : List Value → Commit → History
on_main values tip = record { values = fold with_value [] values; refs = (codes "refs/heads/main", at_commit tip) ∷ [] }

-- ---- the whole history: two commits

abbrev text : Bytes → CommitText
text message = record { author = codes "A <a@x> 1 +0000"; committer = codes "A <a@x> 1 +0000"; headers = []; message = message }

-- two files and a submodule with this content of each file
abbrev files : (Bytes → Bytes) → FileMap Bytes
files content =
    (codes "a" ∷ [], (File, content (codes "hello"))) ∷ (codes "d" ∷ codes "b" ∷ [], (Exec, content (codes "big")))
    ∷ (codes "m" ∷ [], (Gitlink, replicate 40 49)) ∷ []

abbrev itself : Bytes → Bytes
itself x = x

abbrev first : Commit
first = commit [] none (text (codes "v1"))

abbrev second : Commit
second = commit (files itself) (more first none) (text (codes "second"))

abbrev whole : History
whole = on_main (blob_value (codes "hello") ∷ blob_value (codes "big") ∷ commit_value first ∷ commit_value second ∷ []) second

-- ---- the small one: stand-ins of the files and of the second commit

abbrev stand_in : Bytes → Bytes
stand_in x = nonce ++ last_byte_name Blob x

abbrev tip : Commit
tip = commit (files stand_in) none (stand_in_text (nonce ++ name_of last_byte_name (commit_value second)))

abbrev small : History
small = on_main (blob_value (stand_in (codes "hello")) ∷ blob_value (stand_in (codes "big")) ∷ commit_value tip ∷ []) tip

-- ---- an import

-- a commit on main with a new file, a moved one and a copied one
abbrev commands : List Command
commands =
    command.Commit (record {
      ref = codes "refs/heads/main";
      mark = None;
      author = None;
      committer = codes "A <a@x> 3 +0000";
      headers = [];
      message = codes "third";
      parent = Some (Named (codes "refs/heads/main^0"));
      merges = [];
      changes = Modify File (Inline (codes "new")) (codes "d" ∷ codes "n" ∷ []) ∷ Rename (codes "a" ∷ []) (codes "e" ∷ []) ∷ Copy (codes "d" ∷ []) (codes "f" ∷ []) ∷ [];
    }) ∷ []

abbrev over : (Kind → Bytes → Bytes) → History → Outcome
over name history = replayed name 0 (begun no_features history) commands None

-- the records that came behind those of the history
abbrev new_records : (Kind → Bytes → Bytes) → History → List Record
new_records name history = drop (length history.values) (map (record_of name) (history_after (over name history)).values)

pub record StandInRows : Type 0 where
  -- the name stands behind the nonce, and is all that does
  pub behind : name_behind nonce (nonce ++ replicate 20 7) ≡ Some (replicate 20 7)
  pub too_short : name_behind nonce (nonce ++ replicate 19 7) ≡ None
  pub too_long : name_behind nonce (nonce ++ replicate 21 7) ≡ None
  pub other_front : name_behind nonce (replicate 16 1 ++ replicate 20 7) ≡ None
  -- a commit that stands for another has its name, and stands for it
  pub named : name_of stand (commit_value tip) ≡ name_of last_byte_name (commit_value second)
  pub stands : whole_value (stand_ins nonce (map (record_of last_byte_name) whole.values)) (commit_value tip) ≡ commit_value second
  -- both imports tell the same, and bring the same records: a blob, two trees and a commit
  pub told : acceptance (over stand small) ≡ acceptance (over last_byte_name whole)
  pub brought : new_records stand small ≡ new_records last_byte_name whole
  pub counted : length (new_records stand small) ≡ 4

pub stand_in_rows : StandInRows
unfolding cut_at revision_of denoted commit_front
stand_in_rows = record { behind = refl; too_short = refl; too_long = refl; other_front = refl; named = refl; stands = refl; told = refl; brought = refl; counted = refl }
