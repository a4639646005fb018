-- What clap is told of an argument that is refused where another one is missing, or beside another one.
use Rattle.std.proofs.Common.{◌≡◌, ℕ, Bool, true, false, not, ◌&&◌, ◌∷◌, [], ◌++◌, map, refl, ap, ◌∙◌}
use Rattle.std.specs.Borrow.{Bor}
use Rattle.std.proofs.lemmas.List.{map-append}
use Rattle.clap.proofs.SimpleLemmas.{not_empty}
use Rattle.clap.specs.Adds.{AddsConflicts, AddsRequiredUnless, AddsRequirements, AddsShortAliases}
use Rattle.clap.specs.Walk.{is_empty}
use Rattle.clap.specs.Words.{Text, rule_of}
use Rattle.clap.specs.declared.builder.arg.Arg.{Arg}
use Rattle.clap.specs.declared.builder.arg.ArgPredicate.{ArgPredicate}
use Rattle.gx_line.specs.Arguments.{bound}

second_false : (a b c : Bool) → b ≡ false → (a && (b && c)) ≡ false
second_false true b c e = ap (λ z. z && c) e
second_false false b c e = refl

third_false : (a b c d : Bool) → c ≡ false → (a && (b && (c && d))) ≡ false
third_false true b c d e = second_false b c d e
third_false false b c d e = refl

sixth_false : (a b c d e f g : Bool) → f ≡ false → (a && (b && (c && (d && (e && (f && g)))))) ≡ false
sixth_false true true true d e f g h = third_false d e f g h
sixth_false true true false d e f g h = refl
sixth_false true false c d e f g h = refl
sixth_false false b c d e f g h = refl

-- it has a rule on another argument, and is as before otherwise
pub needs_rule : (old new : Arg) (needed : ArgPredicate × Bor Text) → AddsRequirements old new (needed ∷ []) → rule_of new ≡ bound (rule_of old)
needs_rule old new needed h =
    let others : Bool = is_empty old.r_ifs.items && (is_empty old.r_ifs_all.items && (is_empty old.r_unless.items && is_empty old.r_unless_all.items)) in
    let some : is_empty new.needs.items ≡ false = ap is_empty h.1 ∙ not_empty old.needs.items needed in
    ap rule_of h.0 ∙ ap (λ free. record (rule_of old) { is_free = free }) (third_false (not old.exclusive) (is_empty old.conflicts.items) (is_empty new.needs.items) others some)

-- it is refused beside another argument
pub conflict_rule : (old new : Arg) (other : Bor Text) → AddsConflicts old new (other ∷ []) → rule_of new ≡ bound (rule_of old)
conflict_rule old new other h =
    let others : Bool = is_empty old.needs.items
    && (is_empty old.r_ifs.items && (is_empty old.r_ifs_all.items && (is_empty old.r_unless.items && is_empty old.r_unless_all.items))) in
    let some : is_empty new.conflicts.items ≡ false = ap is_empty h.1 ∙ not_empty old.conflicts.items other in
    ap rule_of h.0 ∙ ap (λ free. record (rule_of old) { is_free = free }) (second_false (not old.exclusive) (is_empty new.conflicts.items) others some)

-- it is given by one letter more
pub alias_rule : (old new : Arg) (letter : ℕ × Bool) → AddsShortAliases old new (letter ∷ []) → rule_of new ≡ record (rule_of old) { short_aliases = (rule_of old).short_aliases ++ letter.0 ∷ [] }
alias_rule old new letter h =
    ap rule_of h.0 ∙ ap (λ letters. record (rule_of old) { short_aliases = letters }) (ap (λ found. map (λ alias. alias.0) found) h.1 ∙ map-append (λ alias. alias.0) old.short_aliases.items (letter ∷ []))

-- it is refused where it is missing with another argument
pub unless_rule : (old new : Arg) (other : Bor Text) → AddsRequiredUnless old new (other ∷ []) → rule_of new ≡ bound (rule_of old)
unless_rule old new other h =
    let some : is_empty new.r_unless.items ≡ false = ap is_empty h.1 ∙ not_empty old.r_unless.items other in
    ap rule_of h.0 ∙ ap (λ free. record (rule_of old) { is_free = free })
    (sixth_false (not old.exclusive) (is_empty old.conflicts.items) (is_empty old.needs.items) (is_empty old.r_ifs.items)
    (is_empty old.r_ifs_all.items) (is_empty new.r_unless.items) (is_empty old.r_unless_all.items) some)
