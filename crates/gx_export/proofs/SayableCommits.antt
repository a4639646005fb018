-- What is told of the headers of commits that are to go out.
use Rattle.std.proofs.Common.{◌≡◌, true, false, List, [], ◌∷◌, ◌++◌, Ok, Err, Result, refl, sym, subst, ◌∙◌}
use Rattle.std.proofs.lemmas.Bool.{false≢true}
use Rattle.gx_model.specs.Histories.Values.{Commit, IsEncodingAlone, text_of}
use Rattle.gx_model.specs.Laws.ExportLaws.{HaveEncodingsAlone}
use Rattle.gx_model.specs.Texts.Headers.{is_encoding_alone}
use Rattle.gx_model.specs.Texts.Sinks.{Taken}
use Rattle.gx_model.proofs.Export.KeptCommits.{snoc_all}
use Rattle.gx_model.proofs.ObjectTexts.OneTree.{all_right}
use Rattle.gx_model.proofs.Texts.AloneHeaders.{alone_decides}
use Rattle.gx_export.specs.Sayable.{TellsSayable, WhereSayable}
use Rattle.gx_export.specs.declared.fault.ExportFault.{ExportFault}
use Rattle.gx_export.specs.declared.fault.ExportFault.TheVariants.{OutOfMemory, Unsupported, WriteFailed}
use Rattle.std.specs.Prelude.{Option}

abbrev IsAlone : Commit → Type 0
IsAlone made = IsEncodingAlone (text_of made).headers

-- one commit more whose headers a stream can say
pub one_more : (commits : List Commit) (made : Commit) → HaveEncodingsAlone commits → IsAlone made → HaveEncodingsAlone (commits ++ made ∷ [])
one_more commits made h k = snoc_all IsAlone commits made h k

-- where a stream can't say one of some commits, it can't say them
pub refused_among : (before : List Commit) (made : Commit) (rest all : List Commit) (fault : ExportFault) → all ≡ before ++ made ∷ rest → TellsSayable (made ∷ []) (Err fault) → TellsSayable all (Err fault)
refused_among before made rest all OutOfMemory e h = absurd h
refused_among before made rest all (WriteFailed n) e h = absurd h
refused_among before made rest all Unsupported e h = λ each. h ((all_right IsAlone before (made ∷ rest) (subst HaveEncodingsAlone e each)).0, tt)

-- headers that fail the test
pub not_alone : (headers : _) → is_encoding_alone headers ≡ false → IsEncodingAlone headers → ⊥
not_alone headers e k = false≢true (sym e ∙ (alone_decides headers).1 k)

-- where a stream can't say commits, nothing goes out
pub unsaid : (commits : List Commit) (Sends : Option Taken → Option Taken → Result (Unit {0}) ExportFault → Type 0) (was : Option Taken) (fault : ExportFault) → TellsSayable commits (Err fault) → WhereSayable commits Sends was was (Err fault)
unsaid commits Sends was OutOfMemory h = absurd h
unsaid commits Sends was (WriteFailed n) h = absurd h
unsaid commits Sends was Unsupported h = (refl, h)

-- and where it can, they go out
pub said : (commits : List Commit) (Sends : Option Taken → Option Taken → Result (Unit {0}) ExportFault → Type 0) (was now : Option Taken) (result : Result (Unit {0}) ExportFault)
    → (Sends was now (Err Unsupported) → ⊥) → HaveEncodingsAlone commits → Sends was now result → WhereSayable commits Sends was now result
said commits Sends was now (Ok x) none h k = (h, k)
said commits Sends was now (Err OutOfMemory) none h k = k
said commits Sends was now (Err (WriteFailed n)) none h k = k
said commits Sends was now (Err Unsupported) none h k = absurd (none k)
