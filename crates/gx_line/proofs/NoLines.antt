-- What clap found for a command gives no line, and what a fault then tells.
use Rattle.std.proofs.Common.{◌≡◌, ◌∙◌, ◌∷◌, [], true, false, List, Option, Some, None, map, refl, sym, codes, option_map}
use Rattle.std.specs.Borrow.{Bor}
use Rattle.std.specs.Str.{bytes_eq}
use Rattle.std.proofs.lemmas.Slice.Eq.{bytes_eq-Decides}
use Rattle.clap.specs.Words.{Row, Text, all_of}
use Rattle.clap.specs.declared.error.kind.ErrorKind.{ErrorKind}
use Rattle.clap.specs.declared.error.kind.ErrorKind.TheVariants as kind
use Rattle.gx_asks.specs.declared.change.Change.TheVariants.{Grow}
use Rattle.gx_asks.specs.declared.question.Question.TheVariants.{Export, ExportRange, IsAncestor, MergeBase}
use Rattle.gx_asks.specs.declared.trial.Trial.TheVariants.{Blobs}
use Rattle.gx_line.specs.CommandLine.{Alters, Asks, HasCause, HasNoDescendant, IsAnswer, IsFlag, IsRefused, Says, Tries}
use Rattle.gx_line.specs.declared.command_line.Line.{Line}
use Rattle.gx_line.specs.declared.command_line.Line.TheVariants.{Ask, Bundle, Change, Stream, Verify}
use Rattle.gx_line.specs.declared.fault.LineFault.{LineFault}
use Rattle.gx_line.specs.declared.fault.LineFault.TheVariants.{OutOfMemory, Status}

-- a fault without a cause of its own tells of it
pub caused : (P : Type 0) (fault : LineFault) → P → HasCause P fault
caused P OutOfMemory h = tt
caused P (Status status text) h = h

-- what a fault with no line behind it says of a line
pub no_refusal : (name : Text) (rows : List Row) (fault : LineFault) → IsRefused name rows fault → (line : Line) → Says name rows line → fault ≡ OutOfMemory
no_refusal name rows OutOfMemory h line says = refl
no_refusal name rows (Status status text) h line says = absurd (h line says)

-- clap had no memory
pub for_memory : (why : ErrorKind) (fault : LineFault) → IsAnswer why fault → why ≡ kind.OutOfMemory → fault ≡ OutOfMemory
for_memory why OutOfMemory h e = refl
for_memory why (Status status text) h e = absurd (h.0 e)

pub none_mapped : {X Y : Type 0} (f : X → Y) (o : Option X) → None ≡ option_map f o → o ≡ None
none_mapped f None e = refl
none_mapped f (Some x) e = cc

differ : {a b : Text} → a ≡ b → bytes_eq a b ≡ false → ⊥
differ {a} {b} e h = let same : bytes_eq a b ≡ true = (bytes_eq-Decides a b).1 e in cc

missing : {X : Type 0} {o : Option X} {x : X} → o ≡ None → o ≡ Some x → ⊥
missing {X} {o} {x} e h = let bad : None ≡ Some x = sym e ∙ h in cc

-- range words stand without --changes
pub no_ranges : (rows : List Row) (ranges : List Text) → IsFlag (codes "changes") rows false → all_of (codes "range") rows ≡ Some ranges
    → (line : Line) → Says (codes "export") rows line → ⊥
unfolding Alters Asks Says Tries
no_ranges rows ranges e some (Ask file (Export form)) h = missing h.1.1.1 some
no_ranges rows ranges e some (Ask file (ExportRange done words)) h = e h.1.1.0.0
no_ranges rows ranges e some (Ask file question) h = differ h.1.0 refl
no_ranges rows ranges e some (Change file wait Grow) h = differ h.1.1 refl
no_ranges rows ranges e some (Change file wait change) h = differ h.1.1.0 refl
no_ranges rows ranges e some (Stream Blobs) h = differ h refl
no_ranges rows ranges e some (Stream trial) h = differ h.0 refl
no_ranges rows ranges e some (Verify file salvage) h = differ h.0 refl
no_ranges rows ranges e some (Bundle file words all head pack) h = differ h.0 refl

-- --is-ancestor stands, and not with one other revision
pub no_bases : (rows : List Row) → IsFlag (codes "is-ancestor") rows true → HasNoDescendant rows → (line : Line) → Says (codes "merge-base") rows line → ⊥
unfolding Alters Asks Says Tries
no_bases rows flag none (Ask file (MergeBase octopus all revision others)) h = h.1.1.0.0 flag
no_bases rows flag none (Ask file (IsAncestor revision descendant)) h = none descendant h.1.1.1.1
no_bases rows flag none (Ask file question) h = differ h.1.0 refl
no_bases rows flag none (Change file wait Grow) h = differ h.1.1 refl
no_bases rows flag none (Change file wait change) h = differ h.1.1.0 refl
no_bases rows flag none (Stream Blobs) h = differ h refl
no_bases rows flag none (Stream trial) h = differ h.0 refl
no_bases rows flag none (Verify file salvage) h = differ h.0 refl
no_bases rows flag none (Bundle file words all head pack) h = differ h.0 refl

-- words that are not one word aren't a list of one
abbrev pub texts : List (Bor Text) → List Text
texts words = map (λ (s : Bor Text). s.now) words

pub one_word : (words : List (Bor Text)) (all : Option (List Text)) → all ≡ Some (texts words) → ((word : Bor Text) → words ≡ word ∷ [] → ⊥)
    → (word : Bor Text) → all ≡ Some (texts (word ∷ [])) → ⊥
one_word [] all told none word other = let bad : Some [] ≡ Some (word.now ∷ []) = sym told ∙ other in cc
one_word (one ∷ []) all told none word other = none one refl
one_word (one ∷ two ∷ words) all told none word other =
    let bad : Some (one.now ∷ two.now ∷ texts words) ≡ Some (word.now ∷ []) = sym told ∙ other in cc
