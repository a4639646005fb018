-- Who may do what with a file, and what a file that takes another one's place may let its users do.
-- Source: path_resolution(7), "Permissions", and acl(5), "Correspondence between ACL entries and file permission bits".
use Rattle.std.specs.Prelude.{◌≡◌, ◌≢◌, ℕ, Bool, true, false, ◌==◌, ◌&&◌, if◌then◌else◌}
use Rattle.gx_place.specs.declared.rights.Access.{Access}
use Rattle.gx_place.specs.declared.rights.Mode.{Mode}
use Rattle.gx_place.specs.declared.rights.Rights.{Rights}

-- a user: his number, and the groups that he is in
pub record User : Type 0 where
  pub number : ℕ
  pub is_in : ℕ → Bool

-- in one group alone
abbrev pub in_only : ℕ → ℕ → Bool
in_only group g = g == group

-- what a user may do with a file: as its owner, or else as one of its group, or else as all others
abbrev pub granted : Rights → User → Access
granted r u = if u.number == r.owner then r.mode.owner else (if u.is_in r.group then r.mode.group else r.mode.others)

-- what both allow
abbrev pub both : Access → Access → Access
both a b = record { reads = a.reads && b.reads; writes = a.writes && b.writes; runs = a.runs && b.runs }

-- the second allows all that the first does
pub record AtMost (a b : Access) : Type 0 where
  pub reads : a.reads ≡ true → b.reads ≡ true
  pub writes : a.writes ≡ true → b.writes ≡ true
  pub runs : a.runs ≡ true → b.runs ≡ true

-- nobody but the owner of the new file may do with it what he couldn't do with the old one
abbrev pub WidensNothing : Rights → Rights → Type 0
WidensNothing old new = (u : User) → u.number ≢ new.owner → AtMost (granted new u) (granted old u)

-- what is known of what a mode allows: where the group's bits may be the mask of an access list, they count as far as others have them
abbrev pub known : Bool → Mode → Mode
known true m = m
known false m = record { owner = m.owner; group = both m.group m.others; others = m.others }

abbrev pub known_rights : Bool → Rights → Rights
known_rights is_meant r = record { owner = r.owner; group = r.group; mode = known is_meant r.mode }

-- the widest mode, with the old owner's bits, of a file with this owner and group in the old one's place
pub record IsHandedOn (old : Rights) (is_meant : Bool) (owner group : ℕ) (mode : Mode) : Type 0 where
  pub owner_bits : mode.owner ≡ old.mode.owner
  pub widens_nothing : WidensNothing (known_rights is_meant old) (record { owner = owner; group = group; mode = mode })
  pub widest : (other : Mode) → other.owner ≡ old.mode.owner
      → WidensNothing (known_rights is_meant old) (record { owner = owner; group = group; mode = other })
      → AtMost other.group mode.group × AtMost other.others mode.others
