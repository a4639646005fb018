-- What the worked rows share: what imports, revisions and range words give.
use Rattle.std.specs.Prelude.{ℕ, ◌%◌, false, List, [], ◌∷◌, ◌++◌, length, replicate, Option, Some, None, Result, Ok}
use Rattle.std.specs.List.{fold}
use Rattle.gx_model.specs.declared.objects.Kind.{Kind}
use Rattle.gx_model.specs.declared.faults.Fault.{Fault}
use Rattle.gx_model.specs.declared.features.Features.{Features}
use Rattle.gx_model.specs.Texts.{Bytes}
use Rattle.gx_model.specs.Faults.{Given, ◌>>=◌}
use Rattle.gx_model.specs.Streams.Spelling.{text_of_lines}
use Rattle.gx_model.specs.Streams.Commands.{no_features}
use Rattle.gx_model.specs.Revisions.{revision_of, range_of}
use Rattle.gx_model.specs.Histories.Values.{Commit}
use Rattle.gx_model.specs.Histories.{History, no_history}
use Rattle.gx_model.specs.Revisions.Denotation.{Shown, denoted}
use Rattle.gx_model.specs.Objects.Naming.{kind_number, short_name}
use Rattle.gx_model.specs.Revisions.Ranges.{WordFault, each_word, listing, words_denoted}
use Rattle.gx_model.specs.Replay.{Kept, Outcome, Report, finished, imported_asked, refused}

-- a name as short names are, that also tells bodies apart by their last byte
abbrev pub last_byte_name : Kind → Bytes → Bytes
last_byte_name k body = replicate 17 17 ++ kind_number k ∷ length body % 256 ∷ fold (λ x b. b) 0 body ∷ []

-- ---- imports

-- the import of these lines, where these features are asked for
abbrev pub imported_asking : Features → History → List Bytes → Outcome
imported_asking f h ls = imported_asked f short_name h (text_of_lines ls) false

-- where none are
abbrev pub imported_to : History → List Bytes → Outcome
imported_to = imported_asking no_features

-- into an empty repository
abbrev pub imported_lines : List Bytes → Outcome
imported_lines ls = imported_to no_history ls

-- the history after an import that is accepted
abbrev pub history_after : Outcome → History
history_after (finished h x r) = h
history_after (refused n f x k) = no_history

abbrev pub history_of_lines : List Bytes → History
history_of_lines ls = history_after (imported_lines ls)

-- the number and the fault of an import that is refused
abbrev pub refusal : Outcome → Option (ℕ × Fault)
refusal (finished h x r) = None
refusal (refused n f x k) = Some (n, f)

-- what an import that is refused leaves
abbrev pub kept_after : Outcome → Option Kept
kept_after (finished h x r) = None
kept_after (refused n f x k) = Some k

-- the progress text and the report of an import that is accepted
abbrev pub acceptance : Outcome → Option (Bytes × Report)
acceptance (finished h x r) = Some (x, r)
acceptance (refused n f x k) = None

-- ---- revisions and range words

abbrev pub shown : History → Bytes → Given Shown
shown h x = revision_of x >>= λ r. denoted short_name h r

-- the commits that range words list
abbrev pub log : History → List Bytes → Result (List Commit) WordFault
log h xs = (each_word range_of xs >>= λ ws. words_denoted short_name h ws >>= λ ks. Ok (listing h ks))
