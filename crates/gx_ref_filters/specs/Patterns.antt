-- Patterns of ref names. Source: git-for-each-ref(1): a pattern matches completely or from the beginning up to a slash.
use Rattle.std.specs.Prelude.{◌&&◌, ◌||◌, nat_eq, Bool, true, List, [], ◌∷◌, drop, length, codes}
use Rattle.std.specs.List.{ends_with, list_any, starts_with}
use Rattle.gx_model.specs.Texts.{Bytes}

-- whether a component ends here: behind it the name ends or has a slash, or the pattern has the slash
abbrev pub ends_there : Bytes → Bytes → Bool
ends_there pattern [] = true
ends_there pattern (b ∷ rest) = starts_with nat_eq (b ∷ rest) (codes "/") || ends_with nat_eq pattern (codes "/")

-- whether a pattern is a whole name, or the front of it up to a slash
abbrev pub is_front : Bytes → Bytes → Bool
is_front pattern called = starts_with nat_eq called pattern && ends_there pattern (drop (length pattern) called)

-- whether one of some patterns matches a name; where there are none, each name does
abbrev pub is_named : List Bytes → Bytes → Bool
is_named [] called = true
is_named (pattern ∷ patterns) called = list_any (λ p. is_front p called) (pattern ∷ patterns)
