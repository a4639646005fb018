-- Items that stand for entries of held trees.
use Rattle.std.proofs.Common.{◌≡◌, ◌≢◌, ℕ, ◌-◌, ◌<◌, List, length, sym, ap, ◌∙◌, subst}
use Rattle.gx_model.specs.declared.objects.Kind.{Kind}
use Rattle.gx_model.specs.declared.objects.Mode.TheVariants.{Dir}
use Rattle.gx_model.specs.Texts.{Bytes}
use Rattle.gx_model.specs.Histories.{Record}
use Rattle.gx_model.specs.Objects.{IsNamer}
use Rattle.gx_model.specs.Objects.NameMaps.{IsHeldTree}
use Rattle.gx_object.specs.declared.entry.Entry.{Entry}
use Rattle.gx_tree.specs.HeldTrees.{IsItemOf, NamesKeptWithin, NamesTreeWithin}
use Rattle.gx_tree.specs.Loaded.{IsLoaded}
use Rattle.gx_tree.specs.Named.{NamedTree}
use Rattle.gx_tree.specs.Nodes.{file, folder}
use Rattle.gx_tree.specs.declared.directory.Item.TheVariants.{File, Folder}
use Rattle.gx_tree.proofs.OneMap.{one_map}

module _ (name : Kind → Bytes → Bytes) (rs : List Record) (e : Entry) where
  -- a file is that of its entry
  pub file_is : (A : Type 0) → (e.mode ≢ Dir) → IsItemOf name rs {A = A} e (File e.mode e.name)
  file_is A n (file x) most h l = ap file (sym l)
  file_is A n (folder g) most h l = absurd (n (sym (ap (λ x. x.0) l)))

  -- a directory is one of a tree that fits below its component
  pub tree_named : {room : ℕ} → e.mode ≡ Dir → NamesKeptWithin name rs room e → (length e.component.now < room) × NamesTreeWithin name rs (room - length e.component.now - 1) e.name
  tree_named m (file x, h, l) = absurd (h (ap (λ x. x.0) l ∙ m))
  tree_named m (folder g, h, l) = (h.0, (g, (subst (λ n. IsHeldTree name rs n g) (ap (λ x. x.1) l) h.1.0, h.1.1)))

  -- and stands for it, once it is loaded
  pub folder_is : (A : Type 0) {d : NamedTree} → IsNamer name → e.mode ≡ Dir → IsLoaded name rs e.name.bytes d → IsItemOf name rs {A = A} e (Folder d)
  folder_is A i m loaded (file x) most h l = absurd (h (ap (λ x. x.0) l ∙ m))
  folder_is A {d} i m loaded (folder g) most h l = ap folder (one_map name rs i e.name.bytes d.files g loaded.held (subst (λ n. IsHeldTree name rs n g) (ap (λ x. x.1) l) h.1.0))
