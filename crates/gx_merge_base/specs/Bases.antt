-- The best common ancestors of commits of a history. Source: git-merge-base(1).
use Rattle.std.specs.Prelude.{◌≡◌, ◌&&◌, Bool, true, false, not, List, [], ◌∷◌, map, reverse}
use Rattle.std.specs.List.{filter, filter_map, list_all, list_any}
use Rattle.gx_model.specs.Histories.{History, Records}
use Rattle.gx_model.specs.Histories.Values.{Commit, commit_of, parents_of}
use Rattle.gx_model.specs.Records.HistoryOf.{history_of}
use Rattle.gx_model.specs.Revisions.Ranges.{reaches, some_reaches}
use Rattle.gx_object.specs.declared.name.Name.{Name}
use Rattle.gx_print.specs.Logs.{AreCommits}
use Rattle.gx_rev.specs.Objects.{commit_at}

-- whether a commit is an ancestor of one of these, or of all; a commit counts among its own ancestors
abbrev pub some_reach : List Commit → Commit → Bool
some_reach commits ancestor = list_any (λ c. reaches c ancestor) commits

abbrev pub all_reach : List Commit → Commit → Bool
all_reach commits ancestor = list_all (λ c. reaches c ancestor) commits

-- whether it is one that commits have in common: of all of them, or of the first and of a merge of the others
abbrev pub is_common : Bool → List Commit → Commit → Bool
is_common octopus [] ancestor = false
is_common true (c ∷ cs) ancestor = reaches c ancestor && all_reach cs ancestor
is_common false (c ∷ cs) ancestor = reaches c ancestor && some_reach cs ancestor

-- whether a commit has another one behind it, as an ancestor of its parents
abbrev pub has_behind : Commit → Commit → Bool
has_behind c ancestor = some_reaches (parents_of c) ancestor

-- those of some commits that pass, and that no other that passes has behind it
abbrev pub best : (Commit → Bool) → List Commit → List Commit
best test commits = filter (λ c. test c && not (list_any (λ d. test d && has_behind d c) commits)) commits

-- the commits of a history, the newest made first
abbrev pub all_commits : History → List Commit
all_commits h = reverse (filter_map commit_of h.values)

-- the best common ancestors, the newest made first
abbrev pub bases : Bool → List Commit → History → List Commit
bases octopus commits h = best (is_common octopus commits) (all_commits h)

-- these are the names of the best common ancestors of the commits of these names
abbrev pub AreBases : Bool → List Name → Records → List Name → Type 0
AreBases octopus called repository names =
    (map (commit_at repository) names ≡ bases octopus (map (commit_at repository) called) (history_of repository)) × AreCommits repository names
