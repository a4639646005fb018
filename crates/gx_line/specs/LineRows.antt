-- Lines that clap takes, and lines that it refuses, or of which it doesn't tell. Each row holds by computing.
use Rattle.std.specs.Prelude.{◌≡◌, Bool, true, false, codes, List, [], ◌∷◌, map, refl}
use Rattle.clap.specs.Takes.{flags_pass, walk_passes}
use Rattle.clap.specs.Walk.{bundle_met, walked}
use Rattle.clap.specs.Words.{Text, takes}
use Rattle.gx_line.specs.CommandLine.{gx}

-- a line's words, and whether clap tells that it takes them
pub record LineRow : Type 0 where
  pub words : List Text
  pub taken : Bool

abbrev pub line_rows : List LineRow
line_rows =
    record { words = codes "blobs" ∷ []; taken = true }
    ∷ record { words = codes "try" ∷ codes "main" ∷ codes "--done" ∷ []; taken = true }
    ∷ record { words = codes "check" ∷ codes "--force" ∷ codes "--explain" ∷ []; taken = true }
    ∷ record { words = codes "adapt" ∷ codes "--drop-signatures" ∷ []; taken = true }
    ∷ record { words = codes "init" ∷ codes "a.gx" ∷ []; taken = true }
    ∷ record { words = codes "init" ∷ codes "--growing" ∷ codes "a.gx" ∷ []; taken = true }
    ∷ record { words = codes "grow" ∷ codes "--wait=3" ∷ codes "a.gx" ∷ []; taken = true }
    ∷ record { words = codes "verify" ∷ codes "a.gx" ∷ []; taken = true }
    ∷ record { words = codes "import" ∷ codes "--report" ∷ codes "a.gx" ∷ []; taken = true }
    ∷ record { words = codes "import" ∷ codes "--push" ∷ codes "refs" ∷ codes "a.gx" ∷ []; taken = true }
    ∷ record { words = codes "import" ∷ codes "--objects" ∷ codes "--force" ∷ codes "a.gx" ∷ []; taken = true }
    ∷ record { words = codes "gc" ∷ codes "--keep" ∷ codes "names" ∷ codes "a.gx" ∷ []; taken = true }
    ∷ record { words = codes "put" ∷ codes "--expect-stamp=new" ∷ codes "a.gx" ∷ []; taken = true }
    ∷ record { words = codes "bundle" ∷ codes "--head=main" ∷ codes "a.gx" ∷ []; taken = true }
    ∷ record { words = codes "bundle" ∷ codes "--pack" ∷ codes "a.gx" ∷ codes "main" ∷ codes "^next" ∷ []; taken = true }
    ∷ record { words = codes "refs" ∷ codes "a.gx" ∷ []; taken = true }
    ∷ record { words = codes "refs" ∷ codes "--merged=main" ∷ codes "a.gx" ∷ codes "refs/heads" ∷ []; taken = true }
    ∷ record { words = codes "show" ∷ codes "a.gx" ∷ codes "main" ∷ []; taken = true }
    ∷ record { words = codes "ls" ∷ codes "--recursive" ∷ codes "a.gx" ∷ codes "main" ∷ []; taken = true }
    ∷ record { words = codes "archive" ∷ codes "--prefix=b/" ∷ codes "a.gx" ∷ codes "main" ∷ []; taken = true }
    ∷ record { words = codes "rev-parse" ∷ codes "a.gx" ∷ codes "main" ∷ codes "next" ∷ []; taken = true }
    -- no command, a word too many, one too few, and an option that isn't there
    ∷ record { words = []; taken = false }
    ∷ record { words = codes "what" ∷ []; taken = false }
    ∷ record { words = codes "grow" ∷ codes "a.gx" ∷ codes "main" ∷ []; taken = false }
    ∷ record { words = codes "show" ∷ codes "a.gx" ∷ []; taken = false }
    ∷ record { words = codes "put" ∷ codes "a.gx" ∷ []; taken = false }
    ∷ record { words = codes "refs" ∷ codes "--all" ∷ codes "a.gx" ∷ []; taken = false }
    -- a command that has an argument with a rule on another one
    ∷ record { words = codes "where" ∷ codes "3" ∷ []; taken = false }
    ∷ record { words = codes "drop" ∷ codes "a.gx" ∷ codes "refs/heads/main" ∷ []; taken = false }
    ∷ record { words = codes "set-ref" ∷ codes "--stdin" ∷ codes "a.gx" ∷ []; taken = false }
    ∷ record { words = codes "export" ∷ codes "a.gx" ∷ []; taken = false }
    ∷ record { words = codes "log" ∷ codes "a.gx" ∷ codes "main" ∷ []; taken = false }
    ∷ record { words = codes "batch" ∷ codes "a.gx" ∷ []; taken = false }
    ∷ []

lines_taken : map (λ row. takes gx row.words) line_rows ≡ map (λ row. row.taken) line_rows
unfolding flags_pass walk_passes bundle_met walked
lines_taken = refl
