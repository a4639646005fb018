-- The items of an export's commands are read as these commands.
use Rattle.std.proofs.Common.{◌≡◌, ℕ, zero, suc, ◌+◌, ◌-◌, ◌<◌, ◌≤◌, ◌^◌, Bool, true, false, Option, Some, None, Ok, List, [], ◌∷◌, ◌++◌, length, map, codes, refl, sym, ap, subst, ◌∙◌, arith, append-nil, append_assoc}
use Rattle.std.specs.Prelude.{is_some}
use Rattle.std.specs.List.{list_all, flat_map, AllByRecursion}
use Rattle.std.specs.Fmt.{decimal}
use Rattle.std.specs.Str.{bytes_eq}
use Rattle.std.proofs.lemmas.List.{length-append, length-map}
use Rattle.std.proofs.lemmas.List.Concat.{flat_map-cons}
use Rattle.std.proofs.lemmas.Grind.{flat_map-append}
use Rattle.std.proofs.lemmas.Slice.Eq.{bytes_eq-Decides}
use Rattle.gx_model.specs.declared.features.Feature.TheVariants as features
use Rattle.gx_model.specs.Texts.{Bytes, cut_at, lacks}
use Rattle.gx_model.specs.Texts.Headers.{encoding_header, encoding_in}
use Rattle.gx_model.specs.Texts.RefNames.{is_ref_name, is_tag_name}
use Rattle.gx_model.specs.Texts.Idents.{is_ident}
use Rattle.gx_model.specs.Faults.{Given, ◌>>=◌}
use Rattle.gx_model.specs.Streams.Items.{Item, Line, Data, Finished, Stream}
use Rattle.gx_model.specs.Streams.Commands.{CommitIsh, Marked, Named, DataRef, Mark, Object, Inline, Change, Modify, Remove, Copy, Rename, Clear, Command, Commands}
use Rattle.gx_model.specs.Streams.Commands as command
use Rattle.gx_model.specs.Streams.Grammar.{merges_within, item_after_in, unsigned_in, blob_at, commit_at, links_at, item_after, tag_at, reset_at, command_at, commands_within, commands_of, is_option, is_done, with_command}
use Rattle.gx_model.specs.Streams.Lines.{words_of, is_word, rest_line_in, optional, block_in, commit_ish_of, read_some, ident_of, encoding_of, ref_of, tag_of}
use Rattle.gx_model.specs.Histories.Values.{is_optional_encoding, is_optional_ident}
use Rattle.std.specs.Option.{unwrap_or}
use Rattle.gx_model.specs.Export.{reset_items, commit_ish_text, change_items, command_items, from_line, word_line_if}
use Rattle.gx_model.specs.Laws.ExportLaws.{IsMark, IsNamedCommit, IsNamedCommitIf, IsSpelledChange, IsSpelled, HasMark, between}
use Rattle.gx_model.proofs.Texts.HeaderTexts.{encoding_told}
use Rattle.gx_model.proofs.Streams.CommandFields.{mark_read, commit_ish_digits, commit_ish_read}
use Rattle.gx_model.proofs.Streams.ChangeItems.{changes_read, no_block, stream, words_at}

-- the next item is a line with this word
abbrev pub next_is : Bytes → List Item → Bool
next_is name [] = false
next_is name (Data b ∷ more) = false
next_is name (Line l ∷ more) = is_word (words_of l) name

-- ---- the parents

absent : (name : Bytes) (more : List Item) → next_is name more ≡ false → rest_line_in name more (stream more) ≡ Ok (None, stream more)
unfolding rest_line_in
absent name [] e = refl
absent name (Data b ∷ more) e = refl
absent name (Line l ∷ more) e = rw e refl

pub optional_absent : {A : Type 0} (name : Bytes) (read : Bytes → Given A) (more : List Item) → next_is name more ≡ false → optional name read (stream more) ≡ Ok (None, stream more)
optional_absent name read more e = ap (λ r. r >>= λ r. read_some read r.0 >>= λ x. Ok (x, r.1)) (absent name more e)

present : (name x : Bytes) (more : List Item) → lacks 32 name ≡ true → rest_line_in name (Line (name ++ 32 ∷ x) ∷ more) (stream (Line (name ++ 32 ∷ x) ∷ more)) ≡ Ok (Some x, stream more)
unfolding rest_line_in
present name x more e = let same : bytes_eq name name ≡ true = (bytes_eq-Decides name name).1 refl in rw (words_at name x e, same) refl

pub optional_there : {A : Type 0} (name x : Bytes) (read : Bytes → Given A) (y : A) (more : List Item) → lacks 32 name ≡ true → read x ≡ Ok y → optional name read (stream (Line (name ++ 32 ∷ x) ∷ more)) ≡ Ok (Some y, stream more)
optional_there name x read y more e is =
    ap (λ r. r >>= λ r. read_some read r.0 >>= λ x. Ok (x, r.1)) (present name x more e) ∙ ap (λ g. (g >>= λ x. Ok (Some x)) >>= λ x. Ok (x, stream more)) is

abbrev pub merge_item : CommitIsh → Item
merge_item p = Line (codes "merge" ++ 32 ∷ commit_ish_text p)

marked_read : (c : CommitIsh) → IsNamedCommit c → commit_ish_of (commit_ish_text c) ≡ Ok c
marked_read (Marked n) h = commit_ish_read n h
marked_read (Named x) h = subst (λ y. commit_ish_of y ≡ Ok (Named y)) (sym h.2) (commit_ish_digits h.0 h.1)

pub merges_read : (n : ℕ) (ms : List CommitIsh) (more : List Item) → length ms ≤ n → AllByRecursion IsNamedCommit ms → next_is (codes "merge") more ≡ false → merges_within n (stream (map merge_item ms ++ more)) ≡ Ok (ms, stream more)
unfolding merges_within
merges_read zero [] more lt h e = refl
merges_read (suc n) [] more lt h e = rw (optional_absent (codes "merge") commit_ish_of more e) refl
merges_read zero (c ∷ ms) more lt h e = absurd (omega arith)
merges_read (suc n) (c ∷ ms) more lt h e =
    let again = merges_read n ms more (omega arith) h.1 e in
    rw (optional_there (codes "merge") (commit_ish_text c) commit_ish_of c (map merge_item ms ++ more) refl (marked_read c h.0), again) refl

no_merge : (cs : List Change) (rest : List Item) → AllByRecursion IsSpelledChange cs → next_is (codes "merge") (flat_map change_items cs ++ Line [] ∷ rest) ≡ false
unfolding cut_at
no_merge [] rest h = refl
no_merge (Clear ∷ cs) rest h = refl
no_merge (Modify m s p ∷ cs) rest h = refl
no_merge (Remove p ∷ cs) rest h = refl
no_merge (Copy p q ∷ cs) rest h = absurd h.0
no_merge (Rename p q ∷ cs) rest h = absurd h.0

no_from : (ms : List CommitIsh) (cs : List Change) (rest : List Item) → AllByRecursion IsSpelledChange cs → next_is (codes "from") (map merge_item ms ++ (flat_map change_items cs ++ Line [] ∷ rest)) ≡ false
unfolding cut_at
no_from (c ∷ ms) cs rest h = refl
no_from [] [] rest h = refl
no_from [] (Clear ∷ cs) rest h = refl
no_from [] (Modify m s p ∷ cs) rest h = refl
no_from [] (Remove p ∷ cs) rest h = refl
no_from [] (Copy p q ∷ cs) rest h = absurd h.0
no_from [] (Rename p q ∷ cs) rest h = absurd h.0

all_changes : (cs : List Change) (rest : List Item) → AllByRecursion IsSpelledChange cs → length cs ≤ length (flat_map change_items cs ++ Line [] ∷ rest)
all_changes [] rest h = omega arith
all_changes (Clear ∷ cs) rest h = omega (arith, all_changes cs rest h.1)
all_changes (Modify m s p ∷ cs) rest h = rw (no_block m s h.0.0) (omega (arith, all_changes cs rest h.1))
all_changes (Remove p ∷ cs) rest h = omega (arith, all_changes cs rest h.1)
all_changes (Copy p q ∷ cs) rest h = absurd h.0
all_changes (Rename p q ∷ cs) rest h = absurd h.0

pub from_read : (parent : Option CommitIsh) (more : List Item) → IsNamedCommitIf parent → next_is (codes "from") more ≡ false → optional (codes "from") commit_ish_of (stream (from_line parent ++ more)) ≡ Ok (parent, stream more)
from_read None more h e = optional_absent (codes "from") commit_ish_of more e
from_read (Some c) more h e = optional_there (codes "from") (commit_ish_text c) commit_ish_of c more refl (marked_read c h)

pub links_read : (parent : Option CommitIsh) (ms : List CommitIsh) (cs : List Change) (rest : List Item) → IsNamedCommitIf parent → AllByRecursion IsNamedCommit ms → AllByRecursion IsSpelledChange cs
    → links_at (stream (from_line parent ++ (map merge_item ms ++ (flat_map change_items cs ++ Line [] ∷ rest)))) ≡ Ok ((parent, (ms, cs)), stream rest)
unfolding links_at item_after_in
links_read parent ms cs rest h k g =
    let last = flat_map change_items cs ++ Line [] ∷ rest in
    let enough : length ms ≤ suc (length (map merge_item ms ++ last)) = omega (arith, length-append (map merge_item ms) last, length-map ms merge_item) in
    rw (from_read parent (map merge_item ms ++ last) h (no_from ms cs rest g), merges_read (suc (length (map merge_item ms ++ last))) ms last enough k (no_merge cs rest g), changes_read (length last) cs rest (all_changes cs rest g) g) refl

-- ---- commands

pub ident_read : (x : Bytes) → is_ident x ≡ true → ident_of x ≡ Ok x
ident_read x h = rw h refl

pub encoding_read : (x : Bytes) → is_optional_encoding (Some x) ≡ true → encoding_of x ≡ Ok x
encoding_read x h = rw h refl

blob_read : (n : ℕ) (x : Bytes) (rest : List Item) → IsMark n → blob_at (stream (Line (codes "mark" ++ 32 ∷ 58 ∷ decimal n) ∷ Data x ∷ rest)) ≡ Ok (command.Blob (record { mark = Some n; bytes = x }), stream rest)
unfolding blob_at rest_line_in block_in cut_at
blob_read n x rest h = rw (mark_read n h) refl

-- the items of a commit after its encoding
abbrev commit_end : Bytes → Option CommitIsh → List CommitIsh → List Change → List Item → List Item
commit_end message parent ms cs rest = Data message ∷ (from_line parent ++ (map merge_item ms ++ (flat_map change_items cs ++ Line [] ∷ rest)))

commit_read : (ref : Bytes) (n : ℕ) (author committer : Bytes) (encoding : Option Bytes) (message : Bytes) (parent : Option CommitIsh) (ms : List CommitIsh) (cs : List Change) (rest : List Item)
    → IsMark n → is_ident author ≡ true → is_ident committer ≡ true → is_optional_encoding encoding ≡ true → IsNamedCommitIf parent → AllByRecursion IsNamedCommit ms → AllByRecursion IsSpelledChange cs
    → commit_at ref (stream (Line (codes "mark" ++ 32 ∷ 58 ∷ decimal n) ∷ Line (codes "author" ++ 32 ∷ author) ∷ Line (codes "committer" ++ 32 ∷ committer) ∷ (word_line_if (codes "encoding") encoding ++ commit_end message parent ms cs rest)))
    ≡ Ok (command.Commit (record { ref = ref; mark = Some n; author = Some author; committer = committer; headers = encoding_header encoding; message = message; parent = parent; merges = ms; changes = cs }), stream rest)
unfolding commit_at rest_line_in block_in unsigned_in cut_at
commit_read ref n author committer None message parent ms cs rest a b c d e f g =
    rw (mark_read n a, ident_read author b, ident_read committer c, links_read parent ms cs rest e f g) refl
commit_read ref n author committer (Some x) message parent ms cs rest a b c d e f g =
    rw (mark_read n a, ident_read author b, ident_read committer c, encoding_read x d, links_read parent ms cs rest e f g) refl

tag_read : (name : Bytes) (target : CommitIsh) (tagger : Option Bytes) (message : Bytes) (rest : List Item) → IsNamedCommit target → is_optional_ident tagger ≡ true
    → tag_at name (stream (Line (codes "from" ++ 32 ∷ commit_ish_text target) ∷ (word_line_if (codes "tagger") tagger ++ Data message ∷ rest)))
    ≡ Ok (command.Tag (record { name = name; mark = None; target = target; tagger = tagger; message = message }), stream rest)
unfolding tag_at rest_line_in block_in cut_at
tag_read name target None message rest h k = rw (marked_read target h) refl
tag_read name target (Some x) message rest h k = rw (marked_read target h, ident_read x k) refl

-- what follows a reset is no part of it
pub record Starts (rest : List Item) : Type 0 where
  pub no_from : next_is (codes "from") rest ≡ false
  pub stays : item_after (stream rest) ≡ Ok (tt, stream rest)

takes_empty : (rest : List Item) → item_after (stream (Line [] ∷ rest)) ≡ Ok (tt, stream rest)
unfolding item_after_in
takes_empty rest = refl

reset_read : (ref : Bytes) (parent : Option CommitIsh) (rest : List Item) → IsNamedCommitIf parent → Starts rest → reset_at ref (stream (reset_items parent ++ rest)) ≡ Ok (command.Reset (record { ref = ref; parent = parent }), stream rest)
unfolding reset_at
reset_read ref None rest h k = rw (optional_absent (codes "from") commit_ish_of rest k.no_from, k.stays) refl
reset_read ref (Some c) rest h k = rw (optional_there (codes "from") (commit_ish_text c) commit_ish_of c (Line [] ∷ rest) refl (marked_read c h), takes_empty rest) refl

-- one command at the front
pub record IsReadFirst (c : Command) (rest : List Item) : Type 0 where
  pub letter : ℕ
  pub letters : Bytes
  pub more : List Item
  pub items : command_items c ++ rest ≡ Line (letter ∷ letters) ∷ more
  pub read : (early : Bool) → command_at early (words_of (letter ∷ letters)) (stream more) ≡ Ok (c, stream rest)
  pub goes_on : is_done c ≡ false

ref_line : (ref : Bytes) → is_ref_name ref ≡ true → ref_of ref ≡ Ok ref
ref_line ref e = rw e refl

tag_line : (name : Bytes) → is_tag_name name ≡ true → tag_of name ≡ Ok name
tag_line name e = rw e refl

blob_first : (early : Bool) (s : Stream) → command_at early (words_of (codes "blob")) s ≡ blob_at s
unfolding command_at cut_at
blob_first early s = refl

pub commit_first : (early : Bool) (ref : Bytes) (s : Stream) → is_ref_name ref ≡ true → command_at early (words_of (codes "commit" ++ 32 ∷ ref)) s ≡ commit_at ref s
unfolding command_at cut_at
commit_first early ref s e = rw (ref_line ref e) refl

tag_first : (early : Bool) (name : Bytes) (s : Stream) → is_tag_name name ≡ true → command_at early (words_of (codes "tag" ++ 32 ∷ name)) s ≡ tag_at name s
unfolding command_at cut_at
tag_first early name s e = rw (tag_line name e) refl

reset_first : (early : Bool) (ref : Bytes) (s : Stream) → is_ref_name ref ≡ true → command_at early (words_of (codes "reset" ++ 32 ∷ ref)) s ≡ reset_at ref s
unfolding command_at cut_at
reset_first early ref s e = rw (ref_line ref e) refl

links_regroup : (parent : Option CommitIsh) (ms : List CommitIsh) (cs : List Change) (rest : List Item)
    → (from_line parent ++ (map merge_item ms ++ (flat_map change_items cs ++ Line [] ∷ []))) ++ rest ≡ from_line parent ++ (map merge_item ms ++ (flat_map change_items cs ++ Line [] ∷ rest))
links_regroup parent ms cs rest = simp append_assoc

pub commit_regroup : (encoding : Option Bytes) (message : Bytes) (parent : Option CommitIsh) (ms : List CommitIsh) (cs : List Change) (rest : List Item)
    → (word_line_if (codes "encoding") encoding ++ (Data message ∷ (from_line parent ++ (map merge_item ms ++ (flat_map change_items cs ++ Line [] ∷ []))))) ++ rest
    ≡ word_line_if (codes "encoding") encoding ++ commit_end message parent ms cs rest
commit_regroup encoding message parent ms cs rest =
    append_assoc (word_line_if (codes "encoding") encoding) (Data message ∷ (from_line parent ++ (map merge_item ms ++ (flat_map change_items cs ++ Line [] ∷ [])))) rest
    ∙ ap (λ t. word_line_if (codes "encoding") encoding ++ (Data message ∷ t)) (links_regroup parent ms cs rest)

pub read_first : (c : Command) (rest : List Item) → IsSpelled c → Starts rest → IsReadFirst c rest
read_first (command.Blob b) rest h k = by b.mark b.bytes h where
  by : (m : Option ℕ) (x : Bytes) → HasMark m × (length x < 2 ^ 64) → IsReadFirst (command.Blob (record { mark = m; bytes = x })) rest
  by None x h = absurd h.0
  by (Some n) x h = record {
    letter = 98;
    letters = codes "lob";
    more = Line (codes "mark" ++ 32 ∷ 58 ∷ decimal n) ∷ Data x ∷ rest;
    items = refl;
    read = λ early. blob_first early _ ∙ blob_read n x rest h.0;
    goes_on = refl;
  }
read_first (command.Commit c) rest h k = by c.mark c.author h.mark h.has_author h.author where
  by : (m : Option ℕ) (a : Option Bytes) → HasMark m → is_some a ≡ true → is_ident (unwrap_or a []) ≡ true → IsReadFirst (command.Commit (record { ref = c.ref; mark = m; author = a; committer = c.committer; headers = c.headers; message = c.message; parent = c.parent; merges = c.merges; changes = c.changes })) rest
  by None a hm ha hi = absurd hm
  by (Some n) None hm ha hi = absurd cc
  by (Some n) (Some a) hm ha hi = record {
    letter = 99;
    letters = codes "ommit" ++ 32 ∷ c.ref;
    more = Line (codes "mark" ++ 32 ∷ 58 ∷ decimal n) ∷ Line (codes "author" ++ 32 ∷ a) ∷ Line (codes "committer" ++ 32 ∷ c.committer) ∷ (word_line_if (codes "encoding") (encoding_in c.headers) ++ commit_end c.message c.parent c.merges c.changes rest);
    items = ap (λ t. Line (codes "commit" ++ 32 ∷ c.ref) ∷ Line (codes "mark" ++ 32 ∷ 58 ∷ decimal n) ∷ Line (codes "author" ++ 32 ∷ a) ∷ Line (codes "committer" ++ 32 ∷ c.committer) ∷ t) (commit_regroup (encoding_in c.headers) c.message c.parent c.merges c.changes rest);
    read = λ early. commit_first early c.ref _ h.ref ∙ commit_read c.ref n a c.committer (encoding_in c.headers) c.message c.parent c.merges c.changes rest hm hi h.committer (encoding_told c.headers h.headers).proper h.parent h.merges h.changes
        ∙ ap (λ hs. Ok (command.Commit (record { ref = c.ref; mark = Some n; author = Some a; committer = c.committer; headers = hs; message = c.message; parent = c.parent; merges = c.merges; changes = c.changes }), stream rest)) (encoding_told c.headers h.headers).alone;
    goes_on = refl;
  }
read_first (command.Tag t) rest h k = by t.mark h.mark where
  by : (m : Option ℕ) → m ≡ None → IsReadFirst (command.Tag (record { name = t.name; mark = m; target = t.target; tagger = t.tagger; message = t.message })) rest
  by (Some n) e = absurd cc
  by None e = record {
    letter = 116;
    letters = codes "ag" ++ 32 ∷ t.name;
    more = Line (codes "from" ++ 32 ∷ commit_ish_text t.target) ∷ (word_line_if (codes "tagger") t.tagger ++ Data t.message ∷ rest);
    items = ap (λ u. Line (codes "tag" ++ 32 ∷ t.name) ∷ Line (codes "from" ++ 32 ∷ commit_ish_text t.target) ∷ u) (append_assoc (word_line_if (codes "tagger") t.tagger) (Data t.message ∷ []) rest);
    read = λ early. tag_first early t.name _ h.name ∙ tag_read t.name t.target t.tagger t.message rest h.target h.tagger;
    goes_on = refl;
  }
read_first (command.Reset r) rest h k = record {
  letter = 114;
  letters = codes "eset" ++ 32 ∷ r.ref;
  more = reset_items r.parent ++ rest;
  items = refl;
  read = λ early. reset_first early r.ref _ h.0 ∙ reset_read r.ref r.parent rest h.1 k;
  goes_on = refl;
}
read_first (command.Asks f) rest h k = absurd h
read_first command.Done rest h k = absurd h
read_first command.Checkpoint rest h k = absurd h
read_first (command.Progress x) rest h k = absurd h
read_first (command.OptionLine x) rest h k = absurd h

-- ---- all of them

pub step : (n : ℕ) (before : List Command) (c : Command) (rest : List Item) → IsReadFirst c rest → commands_within (suc n) before (command_items c ++ rest) Finished ≡ with_command c (commands_within n (before ++ c ∷ []) rest Finished)
unfolding commands_within
step n before c rest r = rw (r.items, r.read (list_all is_option before), r.goes_on) refl

pub starts_command : (c : Command) (rest : List Item) → IsSpelled c → Starts (command_items c ++ rest)
unfolding item_after_in cut_at
starts_command (command.Blob b) rest h = record { no_from = refl; stays = refl }
starts_command (command.Commit c) rest h = record { no_from = refl; stays = refl }
starts_command (command.Tag t) rest h = record { no_from = refl; stays = refl }
starts_command (command.Reset r) rest h = record { no_from = refl; stays = refl }
starts_command (command.Asks f) rest h = absurd h
starts_command command.Done rest h = absurd h
starts_command command.Checkpoint rest h = absurd h
starts_command (command.Progress x) rest h = absurd h
starts_command (command.OptionLine x) rest h = absurd h

abbrev ends_here : List Item
ends_here = Line (codes "done") ∷ []

starts_rest : (last : List Item) → Starts last → (cs : List Command) → AllByRecursion IsSpelled cs → Starts (flat_map command_items cs ++ last)
starts_rest last s [] h = s
starts_rest last s (c ∷ cs) h = subst Starts (sym (append_assoc (command_items c) (flat_map command_items cs) last)) (starts_command c (flat_map command_items cs ++ last) h.0)

-- these commands, and then those
abbrev pub with_all : List Command → Commands → Commands
with_all [] after = after
with_all (c ∷ cs) after = with_command c (with_all cs after)

-- commands are read, and then what stands behind them
pub read_before : (last : List Item) → Starts last → (n m : ℕ) (before cs : List Command) → m ≡ length cs + n → AllByRecursion IsSpelled cs
    → commands_within m before (flat_map command_items cs ++ last) Finished ≡ with_all cs (commands_within n (before ++ cs) last Finished)
read_before last s n m before [] e h =
    let same : m ≡ n = omega (arith, e) in
    λ i. commands_within (same i) (sym (append-nil before) i) last Finished
read_before last s n zero before (c ∷ cs) e h = absurd (omega (arith, e))
read_before last s n (suc m) before (c ∷ cs) e h =
    let rest = flat_map command_items cs ++ last in
    let fewer : m ≡ length cs + n = omega (arith, e) in
    ap (λ is. commands_within (suc m) before is Finished) (append_assoc (command_items c) (flat_map command_items cs) last)
    ∙ step m before c rest (read_first c rest h.0 (starts_rest last s cs h.1))
    ∙ ap (with_command c) (read_before last s n m (before ++ c ∷ []) cs fewer h.1 ∙ ap (λ b. with_all cs (commands_within n b last Finished)) (append_assoc before (c ∷ []) cs))

pub all_listed : (cs ds : List Command) → with_all cs (record { list = ds; fault = None }) ≡ record { list = cs ++ ds; fault = None }
all_listed [] ds = refl
all_listed (c ∷ cs) ds = ap (with_command c) (all_listed cs ds)

done_starts : Starts ends_here
unfolding item_after_in cut_at
done_starts = record { no_from = refl; stays = refl }

done_last : (n : ℕ) (before : List Command) → commands_within (suc n) before ends_here Finished ≡ record { list = command.Done ∷ []; fault = None }
unfolding commands_within command_at cut_at
done_last n before = refl

some_items : (c : Command) → IsSpelled c → 1 ≤ length (command_items c)
some_items (command.Blob b) h = omega arith
some_items (command.Commit c) h = omega arith
some_items (command.Tag t) h = omega arith
some_items (command.Reset r) h = omega arith
some_items (command.Asks f) h = absurd h
some_items command.Done h = absurd h
some_items command.Checkpoint h = absurd h
some_items (command.Progress x) h = absurd h
some_items (command.OptionLine x) h = absurd h

pub all_items : (cs : List Command) → AllByRecursion IsSpelled cs → length cs ≤ length (flat_map command_items cs)
all_items [] h = omega arith
all_items (c ∷ cs) h = rw flat_map-cons (omega (arith, some_items c h.0, all_items cs h.1, length-append (command_items c) (flat_map command_items cs)))

pub asks_first : (n : ℕ) (rest : List Item) → commands_within (suc n) [] (Line (codes "feature done") ∷ rest) Finished ≡ with_command (command.Asks features.Done) (commands_within n (command.Asks features.Done ∷ []) rest Finished)
unfolding commands_within command_at cut_at
asks_first n rest = refl

between_items : (cs : List Command) → flat_map command_items (between cs) ≡ Line (codes "feature done") ∷ (flat_map command_items cs ++ ends_here)
between_items cs = ap (λ is. Line (codes "feature done") ∷ is) (flat_map-append command_items cs (command.Done ∷ []))

pub commands_read : (cs : List Command) → AllByRecursion IsSpelled cs → commands_of (stream (flat_map command_items (between cs))) ≡ record { list = between cs; fault = None }
commands_read cs h =
    let rest = flat_map command_items cs ++ ends_here in
    let asks = command.Asks features.Done in
    let n = length rest - suc (length cs) in
    let enough : length rest ≡ length cs + suc n = omega (arith, all_items cs h, length-append (flat_map command_items cs) ends_here) in
    ap (λ is. commands_of (stream is)) (between_items cs) ∙ asks_first (length rest) rest
    ∙ ap (with_command asks) (read_before ends_here done_starts (suc n) (length rest) (asks ∷ []) cs enough h ∙ ap (with_all cs) (done_last n (asks ∷ cs)) ∙ all_listed cs (command.Done ∷ []))
