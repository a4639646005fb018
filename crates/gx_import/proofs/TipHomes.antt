-- The files at hand at the branches, and where what they remember is held.
use Rattle.std.proofs.Common.{◌≡◌, ◌⊎◌, List, [], ◌∷◌, ◌++◌, map, Option, Some, None, Result, Ok, Err, inl, inr, refl, sym, subst}
use Rattle.std.specs.Prelude.{IfOk, IfSome}
use Rattle.std.specs.List.{AllByRecursion}
use Rattle.std.specs.Map.{lookup}
use Rattle.std.specs.declared.cmp.Ordering.TheVariants.{Less, Equal, Greater}
use Rattle.std.specs.FinMap.Entries.{by_order, put}
use Rattle.std.proofs.lemmas.Bool.{cases_Bool}
use Rattle.gx_model.specs.declared.objects.Kind.{Kind}
use Rattle.gx_model.specs.Texts.{Bytes, byte_cmp, same_bytes}
use Rattle.gx_model.specs.Histories.{Record}
use Rattle.gx_model.specs.Histories.Values.{Commit}
use Rattle.gx_object.specs.declared.name.Name.{Name}
use Rattle.gx_tree.specs.Homes.{IfThere}
use Rattle.gx_tree.specs.Loaded.{AreLoaded, IsLoaded, directory_at}
use Rattle.gx_tree.specs.Named.{NamedTree, IsAtHome}
use Rattle.gx_import.specs.Rows.{AreRows}
use Rattle.gx_import.specs.Standing.{AreTipFiles, AreTipsAtHome, Extends, HasFilesOf, IsTaken, WereFiles, published_tip}
use Rattle.gx_import.specs.declared.branches.Tip.{Tip}
use Rattle.gx_import.specs.declared.tables.Tables.{Tables}

-- more records keep a tree at home
abbrev pub KeepHome : Type 0
KeepHome = (name : Kind → Bytes → Bytes) (old more : List Record) (tree : NamedTree) → IsAtHome name old tree → IsAtHome name (old ++ more) tree

-- more records keep a directory loaded
abbrev pub KeepLoaded : Type 0
KeepLoaded = (name : Kind → Bytes → Bytes) (old more : List Record) (n : Bytes) (tree : NamedTree) → IsLoaded name old n tree → IsLoaded name (old ++ more) n tree

loaded_if : KeepLoaded → (name : Kind → Bytes → Bytes) (old more : List Record) (n : Bytes) (o : Option NamedTree) → IfSome o (IsLoaded name old n) → IfSome o (IsLoaded name (old ++ more) n)
loaded_if loads name old more n None h = tt
loaded_if loads name old more n (Some tree) h = loads name old more n tree h

pub always : {X E : Type 0} (P : Type 0) (r : Result X E) → P → IfOk r (λ x. P)
always P (Ok x) h = h
always P (Err e) h = tt

pub home_longer : KeepHome → (name : Kind → Bytes → Bytes) (old new : List Record) (tree : NamedTree) → Extends old new → IsAtHome name old tree → IsAtHome name new tree
home_longer law name old new tree e h = subst (λ rs. IsAtHome name rs tree) (sym e.1) (law name old e.0 tree h)

there_longer : KeepHome → (name : Kind → Bytes → Bytes) (old new : List Record) (tree : Option NamedTree) → Extends old new → IfThere IsAtHome name old tree → IfThere IsAtHome name new tree
there_longer law name old new None e h = tt
there_longer law name old new (Some tree) e h = home_longer law name old new tree e h

-- no files need be taken
pub none_taken : {A : Type 0} (rows : List (Bytes × Tip A)) → AreRows IsTaken rows rows
none_taken [] = tt
none_taken (row ∷ rows) = (refl, (refl, refl, inl refl), none_taken rows)

-- files that are kept, if they are, are those of the commit, and at home where those that are given are
pub kept_files : (name : Kind → Bytes → Bytes) (made : Commit) (files : NamedTree) (o : Option NamedTree) → IfSome o (λ kept. kept ≡ files) → HasFilesOf name made files → AreTipFiles name (Some made) o
kept_files name made files None k h = tt
kept_files name made files (Some kept) k h = subst (HasFilesOf name made) (sym k) h

pub kept_home : (name : Kind → Bytes → Bytes) (rs : List Record) (files : NamedTree) (o : Option NamedTree) → IfSome o (λ kept. kept ≡ files) → IsAtHome name rs files → IfThere IsAtHome name rs o
kept_home name rs files None k h = tt
kept_home name rs files (Some kept) k h = subst (IsAtHome name rs) (sym k) h

module _ {A : Type 0} (name : Kind → Bytes → Bytes) where
  abbrev pub AreHome : List Record → List (Bytes × Tip A) → Type 0
  AreHome rs = AllByRecursion (λ row. IfThere IsAtHome name rs row.1.files)

  pub homes_longer : KeepHome → (old new : List Record) (rows : List (Bytes × Tip A)) → Extends old new → AreHome old rows → AreHome new rows
  homes_longer law old new [] e h = tt
  homes_longer law old new (row ∷ rows) e h = (there_longer law name old new row.1.files e h.0, homes_longer law old new rows e h.1)

  pub tips_longer : KeepHome → KeepLoaded → (old new : List Record) (tables : Tables A) → Extends old new → AreTipsAtHome name old tables → AreTipsAtHome name new tables
  tips_longer law loads old new tables e h = record {
    tips = homes_longer law old new tables.branches e h.tips;
    loaded = subst (λ rs. AreLoaded name rs tables.loaded) (sym e.1) (λ n. loaded_if loads name old e.0 n.bytes (directory_at tables.loaded n) (h.loaded n));
  }

  -- tables with these branches, where the trees that are loaded stay
  pub tips_with : (rs : List Record) (old new : Tables A) → AreTipsAtHome name rs old → new.loaded ≡ old.loaded → AreHome rs new.branches → AreTipsAtHome name rs new
  tips_with rs old new h e tips = record { tips = tips; loaded = subst (AreLoaded name rs) (sym e) h.loaded }

  module _ (rs : List Record) where
    tip_taken : (old new : Tip A) → IsTaken old new → IfThere IsAtHome name rs old.files → IfThere IsAtHome name rs new.files
    tip_taken old new t h = left t.2
      where
        left : (new.files ≡ old.files) ⊎ (new.files ≡ None) → IfThere IsAtHome name rs new.files
        left (inl e) = subst (IfThere IsAtHome name rs) (sym e) h
        left (inr e) = subst (IfThere IsAtHome name rs) (sym e) tt

    pub homes_taken : (olds news : List (Bytes × Tip A)) → AreRows IsTaken olds news → AreHome rs olds → AreHome rs news
    homes_taken [] [] t h = tt
    homes_taken [] (y ∷ ys) t h = absurd t
    homes_taken (x ∷ xs) [] t h = absurd t
    homes_taken (x ∷ xs) (y ∷ ys) t h = (tip_taken x.1 y.1 t.1 h.0, homes_taken xs ys t.2 h.1)

    -- and so are tables where files were taken
    pub tips_taken : (old new : Tables A) → AreTipsAtHome name rs old → new.loaded ≡ old.loaded → AreRows IsTaken old.branches new.branches → AreTipsAtHome name rs new
    tips_taken old new h e taken = tips_with rs old new h e (homes_taken old.branches new.branches taken h.tips)

    tip_home : (branch : Bytes) (rows : List (Bytes × Tip A)) (tip : Tip A) → lookup (same_bytes branch) rows ≡ Some tip → AreHome rs rows → IfThere IsAtHome name rs tip.files
    tip_home branch [] tip e h = absurd (cc)
    tip_home branch (row ∷ rows) tip e h = elim (cases_Bool (same_bytes branch row.0)) [
      | inl b ↦ let at : Some row.1 ≡ Some tip = rw b at e in let same : row.1 ≡ tip = cc in subst (λ t. IfThere IsAtHome name rs t.files) same h.0
      | inr b ↦ let at : lookup (same_bytes branch) rows ≡ Some tip = rw b at e in tip_home branch rows tip at h.1
    ]

    pub taken_home : (branch : Bytes) (rows : List (Bytes × Tip A)) (called : Name) (tree : NamedTree) → WereFiles rows branch called tree → AreHome rs rows → IsAtHome name rs tree
    taken_home branch rows called tree (tip, found, (at, of)) h = subst (IfThere IsAtHome name rs) of (tip_home branch rows tip found h)

    pub homes_put : (n : Bytes) (tip : Tip A) (rows : List (Bytes × Tip A)) → IfThere IsAtHome name rs tip.files → AreHome rs rows → AreHome rs (put byte_cmp n tip rows)
    homes_put n tip [] k h = (k, tt)
    homes_put n tip (row ∷ rows) k h =
        elim (byte_cmp n row.0) as (λ o. AreHome rs (by_order o ((n, tip) ∷ row ∷ rows) ((row.0, tip) ∷ rows) (row ∷ put byte_cmp n tip rows))) [
          | Less ↦ (k, h)
          | Equal ↦ (k, h.1)
          | Greater ↦ (h.0, homes_put n tip rows k h.1)
        ]

    -- and those behind a checkpoint
    pub homes_published : (rows : List (Bytes × Tip A)) → AreHome rs rows → AreHome rs (map (λ row. (row.0, published_tip row.1)) rows)
    homes_published [] h = tt
    homes_published (row ∷ rows) h = (h.0, homes_published rows h.1)
